-- What a client's records say of its answers, as answers and records become more.
use Rattle.std.proofs.Common.{◌≡◌, ℕ, ◌≤◌, Bool, true, false, List, [], ◌∷◌, ◌++◌, length, refl, sym, subst, arith, length-append}
use Rattle.std.proofs.lemmas.List.{take-append-le}
use Rattle.boot_text.specs.declared.verb.Verb.{Verb}
use Rattle.boot_text.specs.declared.verb.Verb.TheVariants as verbs
use Rattle.vio_trace.specs.declared.outcome.Outcome.{Outcome}
use Rattle.vio_trace.specs.declared.outcome.Outcome.TheVariants as outcomes
use Rattle.vcpu_run.specs.AnswersTaken.{AreTakesSaid, IsDataSaid, IsTakeSaid, TakesNow, is_known, reads_in, sent_inward, takes_after, takes_by}
use Rattle.vcpu_run.specs.Credited.{Ended}

sent_count : (inward : Bool) (tag : ℕ) (now : TakesNow) → (sent_inward inward tag now).count ≡ now.count
sent_count true tag now = refl
sent_count false tag now = refl

-- no record makes them fewer
count_rises : (verb : Verb) (outcome : Outcome) (now : TakesNow) → now.count ≤ (takes_by verb outcome now).count
count_rises verb (outcomes.Granted credits) now = omega arith
count_rises verb (outcomes.Rejected reason) now = omega arith
count_rises verb outcomes.Lost now = omega arith
count_rises verb outcomes.Unanswered now = omega arith
count_rises verb (outcomes.Sent tag) now = let same = sent_count (reads_in verb) tag now in omega (arith, same)
count_rises verb outcomes.Range now = omega arith
count_rises verb outcomes.NotLoggedIn now = omega arith
count_rises verb (outcomes.NoCredit limit) now = omega arith
count_rises verb (outcomes.Overlap tag) now = omega arith
count_rises verb outcomes.Closed now = omega arith
count_rises verb (outcomes.Dropped number held) now = omega arith
count_rises verb (outcomes.Took count) now = omega arith
count_rises verb (outcomes.TookThenLost count) now = omega arith
count_rises verb (outcomes.Data len sum) now = omega arith
count_rises verb (outcomes.Stale page) now = omega arith
count_rises verb outcomes.Unknown now = omega arith
count_rises verb (outcomes.Code code) now = omega arith
count_rises verb (outcomes.Value value) now = omega arith
count_rises verb (outcomes.Posted buffers code) now = omega arith
count_rises verb (outcomes.Frame code number) now = omega arith
count_rises verb outcomes.Done now = omega arith
count_rises verb (outcomes.Bytes shown) now = omega arith

-- there are as many answers as the records so far tell
pub count_least : (tags : List ℕ) (now : TakesNow) (own : List Ended) → AreTakesSaid tags now own → now.count ≤ length tags
count_least tags now [] said = said
count_least tags now (ended ∷ more) said =
    let rises = count_rises ended.verb ended.outcome now in
    let least = count_least tags (takes_by ended.verb ended.outcome now) more said.1 in
    omega (arith, rises, least)

-- more answers behind them
said_more : (tags more : List ℕ) (now : TakesNow) (verb : Verb) (outcome : Outcome) → now.count ≤ length tags → IsTakeSaid tags now verb outcome → IsTakeSaid (tags ++ more) now verb outcome
said_more tags more now verbs.Login outcome within said = tt
said_more tags more now verbs.Reset outcome within said = tt
said_more tags more now verbs.Logout outcome within said = tt
said_more tags more now verbs.Tur outcome within said = tt
said_more tags more now (verbs.Read lba blocks at pieces table) outcome within said = tt
said_more tags more now (verbs.Write lba blocks at pieces table) outcome within said = tt
said_more tags more now (verbs.Command cdb) outcome within said = tt
said_more tags more now (verbs.CommandIn cdb at len pieces table) outcome within said = tt
said_more tags more now (verbs.CommandOut cdb at len pieces table) outcome within said = tt
said_more tags more now (verbs.Task function tag) outcome within said = tt
said_more tags more now (verbs.Take count) outcome within said = said
said_more tags more now (verbs.Data tag) outcome within said = subst (λ (front : List ℕ). IsDataSaid (is_known tag front now.inward) outcome) (sym (take-append-le now.count tags more within)) said
said_more tags more now verbs.Open outcome within said = tt
said_more tags more now verbs.Close outcome within said = tt
said_more tags more now (verbs.Post at len count) outcome within said = tt
said_more tags more now (verbs.Send mac len seed at) outcome within said = tt
said_more tags more now (verbs.ChangeMac mac) outcome within said = tt
said_more tags more now (verbs.Multicast control mac) outcome within said = tt
said_more tags more now (verbs.Fill at len seed) outcome within said = tt
said_more tags more now (verbs.Poke at bytes) outcome within said = tt
said_more tags more now (verbs.Peek at len) outcome within said = tt
said_more tags more now (verbs.Tce entry page readable writable) outcome within said = tt
said_more tags more now (verbs.Hcall number arguments) outcome within said = tt
said_more tags more now verbs.Fail outcome within said = tt

pub said_longer : (tags more : List ℕ) (now : TakesNow) (own : List Ended) → AreTakesSaid tags now own → AreTakesSaid (tags ++ more) now own
said_longer tags more now [] said = let long = length-append tags more in omega (arith, long, said)
said_longer tags more now (ended ∷ rest) said = (
  said_more tags more now ended.verb ended.outcome (count_least tags now (ended ∷ rest) said) said.0,
  said_longer tags more (takes_by ended.verb ended.outcome now) rest said.1,
)

-- one record more
pub said_next : (tags : List ℕ) (now : TakesNow) (own : List Ended) (e : Ended) → AreTakesSaid tags now own → IsTakeSaid tags (takes_after now own) e.verb e.outcome
    → (takes_by e.verb e.outcome (takes_after now own)).count ≤ length tags → AreTakesSaid tags now (own ++ e ∷ [])
said_next tags now [] e said last most = (last, most)
said_next tags now (ended ∷ own) e said last most = (said.0, said_next tags (takes_by ended.verb ended.outcome now) own e said.1 last most)

pub takes_next : (now : TakesNow) (own : List Ended) (e : Ended) → takes_after now (own ++ e ∷ []) ≡ takes_by e.verb e.outcome (takes_after now own)
takes_next now [] e = refl
takes_next now (ended ∷ own) e = takes_next (takes_by ended.verb ended.outcome now) own e
