-- What a turn of a login puts into the partner's queue, one step behind the other.
use Rattle.std.proofs.Common.{◌≡◌, ◌∙◌, ℕ, Bool, false, List, [], ◌∷◌, Result, refl, sym, ap, subst}
use Rattle.vio_num.specs.declared.entry.Entry.{Entry}
use Rattle.vio_num.specs.declared.memory.NoMemory.{NoMemory}
use Rattle.crq_session.specs.Answered.{MaySend}
use Rattle.crq_session.specs.Answers.{OnReached}
use Rattle.crq_session.specs.EndState.{EndCounts, EndPlace, EndState, OnlyReserves, OnlySends, OnlyTakes}
use Rattle.crq_session.specs.declared.answers.RegAnswer.{RegAnswer}
use Rattle.crq_session.specs.declared.answers.RegAnswer.TheVariants as reg
use Rattle.crq_session.specs.declared.answers.SendAnswer.{SendAnswer}
use Rattle.crq_session.specs.declared.answers.SendAnswer.TheVariants as send
use Rattle.vscsi_client.specs.State.{ClientState}
use Rattle.vscsi_client.specs.Turned.{Began, LoginStep, Looked, NotWritten, Put, RanOut, Registered, RegistersAs, Runs, SameHands, SentAs, Site, Steps, Took, TookNone, Turned, Wrote}
use Rattle.vscsi_client.specs.declared.answers.LoginTurn.{LoginTurn}
use Rattle.vcpu_run.specs.Announces.{Announces}
use Rattle.vcpu_run.proofs.Announcing.{puts_entry, puts_held, puts_none, puts_on, puts_opens, puts_ready, puts_reserves, puts_same}
use Rattle.vcpu_run.proofs.DropsStay.{stay_same}

-- Steps at an end in which nobody else has a hand: the partner is in its session of before.
record StepsPut (a c : Site) : Type 0 where
  pub alone : c.at.crq_shared ≡ false
  pub place : c.at.crq.place ≡ a.at.crq.place
  pub session : c.at.crq.counts.partner_session ≡ a.at.crq.counts.partner_session
  pub puts : Announces a.at.crq c.at.crq

session_ready : (a b : EndState) → OnlyReserves a b → b.counts.partner_session ≡ a.counts.partner_session
session_ready a b ready = ap (λ (counts : EndCounts). counts.partner_session) ready.counts

-- the end is as it was, or room was made
end_puts : (a c : Site) → a.at.crq_shared ≡ false → c.at.crq_shared ≡ a.at.crq_shared → c.at.crq ≡ a.at.crq → StepsPut a c
end_puts a c alone hands same = record {
  alone = hands ∙ alone;
  place = ap (λ (e : EndState). e.place) same;
  session = ap (λ (e : EndState). e.counts.partner_session) same;
  puts = subst (Announces a.at.crq) (sym same) (puts_same a.at.crq);
}

ready_puts : (a c : Site) (room : EndState) → a.at.crq_shared ≡ false → c.at.crq_shared ≡ a.at.crq_shared → OnlyReserves a.at.crq room → c.at.crq.place ≡ room.place
    → c.at.crq.counts.partner_session ≡ room.counts.partner_session → Announces room c.at.crq → StepsPut a c
ready_puts a c room alone hands ready place session puts = record {
  alone = hands ∙ alone;
  place = place ∙ ready.place;
  session = session ∙ session_ready a.at.crq room ready;
  puts = puts_ready a.at.crq room c.at.crq ready session puts;
}

-- by the answer to a registration, and to a send
register_puts : (shared : Bool) (s s' : ClientState) (old new : EndState) (answer : RegAnswer) → shared ≡ false → RegistersAs shared s s' old new answer → Announces old new
register_puts shared s s' old new reg.Resource alone h = puts_reserves old new h.1
register_puts shared s s' old new reg.Success alone h = puts_opens shared old new alone h.0
register_puts shared s s' old new (reg.Closed control) alone h = puts_opens shared old new alone h.0
register_puts shared s s' old new (reg.Busy number held) alone h = puts_held shared old new number held h.0
register_puts shared s s' old new reg.Parameter alone h = absurd h

send_puts : (shared : Bool) (old new : EndState) (entry : Entry) (answer : SendAnswer) → OnlySends shared old new → SentAs shared old entry new answer → OnReached answer (MaySend old entry)
    → Announces old new
send_puts shared old new entry (send.Success number) rest h may = puts_entry shared old new entry (send.Success number) rest h tt tt tt may
send_puts shared old new entry (send.Closed control) rest h may = puts_entry shared old new entry (send.Closed control) rest tt h tt tt may
send_puts shared old new entry (send.Dropped number held) rest h may = puts_entry shared old new entry (send.Dropped number held) rest tt tt h tt may
send_puts shared old new entry send.NotRegistered rest h may = puts_reserves old new h.1
send_puts shared old new entry send.Parameter rest h may = absurd h

take_puts : (shared : Bool) (old new : EndState) → OnlyTakes shared old new → Announces old new
take_puts shared old new rest = puts_none old new rest.sent rest.kept rest.registered rest.last_session (stay_same old.drops new.drops rest.drops)

step_puts : (line : ℕ) (step : LoginStep) (a b : Site) → a.at.crq_shared ≡ false → Steps line step a b → SameHands a b → StepsPut a b
step_puts line (Registered answer) a b alone h hands =
    ready_puts a b h.0.room alone hands.crq h.0.ready h.0.rest.place (h.0.rest.counts.same_session alone)
    (register_puts a.at.crq_shared a.client b.client h.0.room b.at.crq answer alone h.0.registers)
step_puts line Took a b alone h hands =
    ready_puts a b h.0.room alone hands.crq h.0.ready h.0.rest.place (h.0.rest.counts.same_session alone) (take_puts a.at.crq_shared h.0.room b.at.crq h.0.rest)
step_puts line TookNone a b alone h hands =
    ready_puts a b h.0.room alone hands.crq h.0.ready h.0.rest.place (h.0.rest.counts.same_session alone) (take_puts a.at.crq_shared h.0.room b.at.crq h.0.rest)
step_puts line (Looked found) a b alone h hands = end_puts a b alone hands.crq h.1
step_puts line Began a b alone h hands = end_puts a b alone hands.crq h.1
step_puts line Wrote a b alone h hands = end_puts a b alone hands.crq h.2
step_puts line (NotWritten page word) a b alone h hands = end_puts a b alone hands.crq h.2
step_puts line (Put due answer) a b alone h hands =
    ready_puts a b h.0.room alone hands.crq h.0.ready h.0.rest.place (h.0.rest.counts.same_session alone)
    (send_puts a.at.crq_shared h.0.room b.at.crq h.0.entry answer h.0.rest h.0.sent h.0.may)
step_puts line RanOut a b alone h hands = ready_puts a b b.at.crq alone hands.crq h.crq refl refl (puts_same b.at.crq)

runs_put : (line : ℕ) (steps : List LoginStep) (a c : Site) → a.at.crq_shared ≡ false → Runs line steps a c → StepsPut a c
runs_put line [] a c alone runs = end_puts a c alone (ap (λ (s : Site). s.at.crq_shared) runs) (ap (λ (s : Site). s.at.crq) runs)
runs_put line (step ∷ steps) a c alone runs =
    let first : StepsPut a runs.0 = runs_put line steps a runs.0 alone runs.1 in
    let next : StepsPut runs.0 c = step_puts line step runs.0 c first.alone runs.2 runs.3 in
    record {
      alone = next.alone;
      place = next.place ∙ first.place;
      session = next.session ∙ first.session;
      puts = puts_on a.at.crq runs.0.at.crq c.at.crq (ap (λ (p : EndPlace). p.partner_registered) first.place) next.session first.puts next.puts;
    }

pub turn_puts : (line : ℕ) (a b : Site) (result : Result LoginTurn NoMemory) → a.at.crq_shared ≡ false → Turned line a b result → Announces a.at.crq b.at.crq
turn_puts line a b result alone turned = (runs_put line turned.steps a b alone turned.runs).puts
