-- A turn of a plain client's login that finds its queue not registered: it registers the queue, and tells its server unit.
use Rattle.std.proofs.Common.{◌≡◌, ◌∙◌, ◌⊎◌, inl, inr, ℕ, ◌≤◌, ◌++◌, Bool, true, false, true≢false, cond, List, [], ◌∷◌, None, arith, length, refl, sym, ap, subst}
use Rattle.std.specs.List.{list_any}
use Rattle.std.proofs.lemmas.List.Elements.{All-cons, All-nil}
use Rattle.vio_num.specs.declared.entry.Entry.{Entry}
use Rattle.crq_session.specs.Answered.{Sends as SendsEntry}
use Rattle.crq_session.specs.EndState.{EndState}
use Rattle.crq_session.specs.declared.answers.RegAnswer.{RegAnswer}
use Rattle.crq_session.specs.declared.answers.SendAnswer.{SendAnswer}
use Rattle.crq_session.specs.declared.answers.SendAnswer.TheVariants as send
use Rattle.crq_session.specs.declared.handshake.Handshake.TheVariants.{Waiting}
use Rattle.block_server.specs.Talk.{to_come}
use Rattle.block_server.specs.Talk.Word.{begins as tells}
use Rattle.vscsi_client.specs.State.{ClientState}
use Rattle.vscsi_client.specs.Turned.{FollowOn, IsFirst, IsHeldUp, LastIs, LoginStep, NoneEnds, Pauses, PollsNone, Puts, Runs, SameHands, Site, Steps, TakesNext, ends_turn, is_dropped, part_after, part_of, sent_stage}
use Rattle.vscsi_client.specs.Turned.LoginStep.{Began, Looked, NotWritten, Put, RanOut, Registered, Took, TookNone, Wrote}
use Rattle.vscsi_client.specs.declared.found.Found.{Found}
use Rattle.vscsi_client.specs.declared.row.Row.{Row}
use Rattle.vscsi_client.specs.declared.stage.Due.{Due}
use Rattle.vscsi_client.specs.declared.stage.Due.TheVariants as dues
use Rattle.vcpu_run.specs.PlainSteps.{HasFreed, IsNewWord, KeepsLogin}
use Rattle.vcpu_run.specs.PlainTalk.{Between, IsAway, IsCalm, ServerStays}
use Rattle.vcpu_run.specs.Replay.{Replay}
use Rattle.vcpu_run.proofs.PlainBegins.{OpensAnew, begins_plainly}
use Rattle.vcpu_run.proofs.PlainDues.{none_put, none_unwritten, waiting_no}
use Rattle.vcpu_run.proofs.PlainEndings.{end_at}
use Rattle.vcpu_run.proofs.PlainLogins.{awaits_on}
use Rattle.vcpu_run.proofs.PlainLooked.{takes_on}
use Rattle.vcpu_run.proofs.PlainMids.{FindsNothing, polled}
use Rattle.vcpu_run.proofs.PlainPauses.{GoesOn}
use Rattle.vcpu_run.proofs.PlainRooms.{put_success}
use Rattle.vcpu_run.proofs.PlainTaking.{poll_come}
use Rattle.vcpu_run.proofs.PlainTurns.{come_same}
use Rattle.vcpu_run.proofs.PlainWalks.{both_false, least, no_entry, part_same, put_part}

-- The queue was registered, and nothing was put.
pub record Opened (at : Between) (steps : List LoginStep) (b : Site) : Type 0 where
  pub opens : OpensAnew at.client b.client at.own b.at.crq
  pub window : b.at.own ≡ at.window
  pub crq_alone : b.at.crq_shared ≡ false
  pub no_put : (due : Due) (answer : SendAnswer) → LastIs (Put due answer) steps → ⊥

-- The entry that tells so was put last, or was dropped, behind which nothing follows.
pub record Told (at : Between) (steps : List LoginStep) (b : Site) : Type 0 where
  pub c : Site
  pub opens : OpensAnew at.client c.client at.own c.at.crq
  pub window : b.at.own ≡ at.window
  pub answer : SendAnswer
  pub puts : Puts false c.client b.client c.at.crq b.at.crq dues.Initialize answer
  pub part : 2 ≤ part_after 1 steps
  pub dropped : is_dropped answer ≡ true → 3 ≤ part_after 1 steps

abbrev pub GoneAnew : Between → List LoginStep → Site → Type 0
GoneAnew at steps b = Opened at steps b ⊎ Told at steps b

-- ---- once the queue was registered

open_due : (at : Between) (steps : List LoginStep) (b : Site) → Opened at steps b → b.client.due ≡ dues.Initialize ∷ []
open_due at steps b is = ap (λ (s : ClientState). s.due) is.opens.client

not_login : (due : List Due) → due ≡ dues.Initialize ∷ [] → IsFirst dues.Login due → ⊥
not_login [] is first = first
not_login (one ∷ due) is first = cc (is, first)

first_one : (due : Due) (others list : List Due) → list ≡ due ∷ others → list ≡ dues.Initialize ∷ [] → (due ≡ dues.Initialize) × (others ≡ [])
first_one due others list is one = (cc (is, one), cc (is, one))

some_come : (entry : Entry) (more list : List Entry) → list ≡ entry ∷ more → list ≡ [] → ⊥
some_come entry more list is none = cc (is, none)

open_took : (line : ℕ) (at : Between) (steps : List LoginStep) (b c : Site) → Opened at steps b → Steps line Took b c → ⊥
open_took line at steps b c is took =
    some_come takes.entry (to_come c.at.crq) (to_come b.at.crq)
    (poll_come b.at.crq c.at.crq takes.entry (record { room = takes.room; ready = takes.ready; number = takes.number; taken = takes.taken })
    (takes_on b.client c.client b.at.crq c.at.crq takes)) is.opens.come
  where
    takes : TakesNext false b.client c.client b.at.crq c.at.crq
    takes = subst (λ shared. TakesNext shared b.client c.client b.at.crq c.at.crq) is.crq_alone took.0

open_none : (line : ℕ) (at : Between) (steps : List LoginStep) (b c : Site) → Opened at steps b → Steps line TookNone b c → SameHands b c → Opened at (TookNone ∷ steps) c
open_none line at steps b c is took hands = record {
  opens = record {
    registered = found.only.registered ∙ is.opens.registered;
    sent = found.only.sent ∙ is.opens.sent;
    place = found.only.place ∙ is.opens.place;
    come = come_same b.at.crq c.at.crq found.only.place found.only.last_session found.taken ∙ is.opens.come;
    client = polls.client ∙ is.opens.client;
  };
  window = took.1 ∙ is.window;
  crq_alone = hands.crq ∙ is.crq_alone;
  no_put = λ due answer last. cc (last.is);
}
  where
    polls : PollsNone false b.client c.client b.at.crq c.at.crq
    polls = subst (λ shared. PollsNone shared b.client c.client b.at.crq c.at.crq) is.crq_alone took.0

    found : FindsNothing b.at.crq c.at.crq
    found = polled b.client c.client b.at.crq c.at.crq polls

open_put : (line : ℕ) (at : Between) (steps : List LoginStep) (b c : Site) (due : Due) (answer : SendAnswer) → Opened at steps b → Steps line (Put due answer) b c
    → Told at (Put due answer ∷ steps) c
open_put line at steps b c due answer is put = record {
  c = b;
  opens = is.opens;
  window = put.1 ∙ is.window;
  answer = answer;
  puts = subst (λ (d : Due). Puts false b.client c.client b.at.crq c.at.crq d answer) one.0
      (subst (λ shared. Puts shared b.client c.client b.at.crq c.at.crq due answer) is.crq_alone put.0);
  part = put_part answer;
  dropped = λ drops. subst (λ d. 3 ≤ cond d 3 2) (sym drops) (omega arith);
}
  where
    one : (due ≡ dues.Initialize) × (put.0.others ≡ [])
    one = first_one due put.0.others b.client.due put.0.first (open_due at steps b is)

from_open : (line : ℕ) (at : Between) (step : LoginStep) (steps : List LoginStep) (b c : Site) → Opened at steps b → Steps line step b c → SameHands b c
    → part_after 1 steps ≤ part_of step → ends_turn step ≡ false → GoneAnew at (step ∷ steps) c
from_open line at (Registered answer) steps b c is did hands order going = absurd (omega (arith, least steps, order))
from_open line at Took steps b c is did hands order going = absurd (open_took line at steps b c is did)
from_open line at TookNone steps b c is did hands order going = inl (open_none line at steps b c is did hands)
from_open line at (Looked found) steps b c is did hands order going =
    absurd (no_entry b.client.held did.0.entry (ap (λ (s : ClientState). s.held) is.opens.client) did.0.held)
from_open line at Began steps b c is did hands order going = absurd (waiting_no b.client (ap (λ (s : ClientState). s.handshake) is.opens.client) did.0.begins_now)
from_open line at Wrote steps b c is did hands order going = absurd (not_login b.client.due (open_due at steps b is) did.0.first)
from_open line at (NotWritten page word) steps b c is did hands order going = absurd (not_login b.client.due (open_due at steps b is) did.0.first)
from_open line at (Put due answer) steps b c is did hands order going = inr (open_put line at steps b c due answer is did)
from_open line at RanOut steps b c is did hands order going = absurd (true≢false going)

-- ---- once it was told

-- what the client knows then
record AfterTold (s s' : ClientState) : Type 0 where
  due : s'.due ≡ []
  handshake : s'.handshake ≡ Waiting
  rows : s'.rows ≡ s.rows

told_client : (at : Between) (steps : List LoginStep) (b : Site) → (is : Told at steps b) → is_dropped is.answer ≡ false → AfterTold at.client b.client
told_client at steps b is put = record {
  due = ap (λ (s : ClientState). s.due) client ∙ (first_one dues.Initialize is.puts.others is.c.client.due is.puts.first (ap (λ (s : ClientState). s.due) is.opens.client)).1;
  handshake = ap (λ (s : ClientState). s.handshake) client ∙ ap (λ (s : ClientState). s.handshake) is.opens.client;
  rows = ap (λ (s : ClientState). s.rows) client ∙ ap (λ (s : ClientState). s.rows) is.opens.client;
}
  where
    client : b.client ≡ record is.c.client { due = is.puts.others; login = sent_stage dues.Initialize is.c.client.login }
    client = is.puts.client ∙ ap (λ d. cond d is.c.client (record is.c.client { due = is.puts.others; login = sent_stage dues.Initialize is.c.client.login })) put

from_told : (line : ℕ) (at : Between) (step : LoginStep) (steps : List LoginStep) (b c : Site) → Told at steps b → Steps line step b c → part_after 1 steps ≤ part_of step
    → ends_turn step ≡ false → ⊥
from_told line at step steps b c is did order going = by (is_dropped is.answer) refl step did order going
  where
    over : is_dropped is.answer ≡ false → AfterTold at.client b.client
    over not' = told_client at steps b is not'

    by : (d : Bool) → is_dropped is.answer ≡ d → (step : LoginStep) → Steps line step b c → part_after 1 steps ≤ part_of step → ends_turn step ≡ false → ⊥
    by d drops (Registered answer) did order going = omega (arith, is.part, order)
    by d drops Took did order going = omega (arith, is.part, order)
    by d drops TookNone did order going = omega (arith, is.part, order)
    by d drops (Looked found) did order going = omega (arith, is.part, order)
    by d drops RanOut did order going = true≢false going
    by true drops Began did order going = omega (arith, is.dropped drops, order)
    by true drops Wrote did order going = omega (arith, is.dropped drops, order)
    by true drops (NotWritten page word) did order going = omega (arith, is.dropped drops, order)
    by true drops (Put due answer) did order going = omega (arith, is.dropped drops, order)
    by false drops Began did order going = waiting_no b.client (over drops).handshake did.0.begins_now
    by false drops Wrote did order going = none_unwritten b.client (over drops).due did.0
    by false drops (NotWritten page word) did order going = none_unwritten b.client (over drops).due did.0
    by false drops (Put due answer) did order going = none_put line b c due answer (over drops).due did

-- ---- all steps

pub goes_anew : (line : ℕ) (at : Between) (answer : RegAnswer) (later : List LoginStep) (a b : Site) → Runs line later a b → FollowOn 1 later → NoneEnds later
    → Opened at (Registered answer ∷ []) a → GoneAnew at (later ++ Registered answer ∷ []) b
goes_anew line at answer [] a b runs follow going start = inl (subst (Opened at (Registered answer ∷ [])) (sym runs) start)
goes_anew line at answer (step ∷ later) a c (b, runs, did, hands) follow going start =
    by (goes_anew line at answer later a b runs follow.1 both.1 start)
  where
    both : (ends_turn step ≡ false) × (list_any ends_turn later ≡ false)
    both = both_false (ends_turn step) (list_any ends_turn later) going

    steps : List LoginStep
    steps = later ++ Registered answer ∷ []

    order : part_after 1 steps ≤ part_of step
    order = subst (λ (n : ℕ). n ≤ part_of step) (sym (part_same later answer)) follow.0

    by : GoneAnew at steps b → GoneAnew at (step ∷ steps) c
    by (inl is) = from_open line at step steps b c is did hands order both.0
    by (inr is) = absurd (from_told line at step steps b c is did order both.0)

-- ---- its end

-- it does not end by an answer
pub anew_looks : (line : ℕ) (at : Between) (steps : List LoginStep) (b c : Site) (found : Found) → GoneAnew at steps b → Steps line (Looked found) b c → part_after 1 steps ≤ 1 → ⊥
anew_looks line at steps b c found (inl is) looked order = no_entry b.client.held looked.0.entry (ap (λ (s : ClientState). s.held) is.opens.client) looked.0.held
anew_looks line at steps b c found (inr is) looked order = omega (arith, is.part, order)

open_held : (at : Between) (steps : List LoginStep) (b : Site) → Opened at steps b → (due : List Due) → due ≡ dues.Initialize ∷ [] → IsHeldUp due steps → ⊥
open_held at steps b is [] one held = cc (one)
open_held at steps b is (first ∷ others) one (inl (number, held, last)) = is.no_put first (send.Dropped number held) last
open_held at steps b is (first ∷ others) one (inr (login, rest)) = cc (one, login)

-- but by what the server unit is to hear
pub anew_pauses : (granted : ℕ) (now : Replay) (at : Between) (steps : List LoginStep) (b : Site) (server : EndState) → IsCalm granted at [] → IsAway at [] → at.client.tabled ≡ None
    → HasFreed now at → now.is_on ≡ false → now.outstanding ≡ [] → ServerStays at (end_at at b server) → GoneAnew at steps b → Pauses at.own.place.own_slots steps b
    → GoesOn granted now (length at.client.rows) (end_at at b server)
anew_pauses granted now at steps b server calm away tabled freed off none stays (inl is) pauses =
    absurd (open_held at steps b is b.client.due (open_due at steps b is) pauses.held_up)
anew_pauses granted now at steps b server calm away tabled freed off none stays (inr is) pauses = (
  tells ∷ [],
  begins_plainly granted at (end_at at b server) is.c.client is.c.at.crq is.answer calm away tabled is.opens is.puts is.window stays,
  record {
    more = omega (arith, ap (λ (list : List Row). length list) over.rows);
    asked = All-cons (IsNewWord (length at.client.rows) (length b.client.rows)) tells [] tt (All-nil (IsNewWord (length at.client.rows) (length b.client.rows)));
    logins = All-cons (KeepsLogin b.client.rows) tells [] tt (All-nil (KeepsLogin b.client.rows));
  },
  inr (inl (awaits_on now at (end_at at b server) freed off none (ap (λ (list : List Row). length list) over.rows) over.handshake)),
  inl (λ nothing. cc (nothing)),
)
  where
    success : (number : ℕ) × (is.answer ≡ send.Success number) × SendsEntry false is.puts.room is.puts.entry b.at.crq number
    success = put_success granted at (end_at at b server) is.puts.room is.puts.entry is.answer calm (is.puts.ready.sent ∙ is.opens.sent) (is.puts.ready.place ∙ is.opens.place)
        (is.puts.ready.registered ∙ is.opens.registered) stays is.puts.sent

    over : AfterTold at.client b.client
    over = told_client at steps b is (ap is_dropped success.1)
