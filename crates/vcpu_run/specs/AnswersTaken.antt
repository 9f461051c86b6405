-- What a client's records and its answers tell of each other: which entries it took as answers, how many its lines took, and of
-- which commands it has the data (SRP, "SRP_RSP response").
use Rattle.std.specs.Prelude.{◌≡◌, ℕ, ◌+◌, ◌≤◌, ◌==◌, ◌&&◌, Bool, true, false, All, List, [], ◌∷◌, ◌++◌, filter, length, map, take, ⊤, if◌then◌else◌}
use Rattle.std.specs.List.{list_any}
use Rattle.vio_num.specs.Entry.{is_srp_entry}
use Rattle.vio_num.specs.declared.entry.Entry.{Entry}
use Rattle.vio_num.specs.declared.names.UnitId.{UnitId}
use Rattle.crq_ring.specs.declared.rows.PipeRow.{PipeRow}
use Rattle.srp_iu.specs.Grammar.{Canon}
use Rattle.srp_iu.specs.declared.response.Rsp.{Rsp as Response}
use Rattle.srp_iu.specs.declared.unit.Iu.TheVariants as units
use Rattle.boot_text.specs.declared.verb.Verb.{Verb}
use Rattle.boot_text.specs.declared.verb.Verb.TheVariants as verbs
use Rattle.vio_trace.specs.declared.outcome.Outcome.{Outcome}
use Rattle.vio_trace.specs.declared.outcome.Outcome.TheVariants as outcomes
use Rattle.vio_trace.specs.declared.rows.AnswerRow.{AnswerRow}
use Rattle.vio_trace.specs.declared.rows.Trace.{Trace}
pub use Rattle.vcpu_run.specs.Among.{AreAmong}
use Rattle.vcpu_run.specs.CopyRows.{same_unit}
use Rattle.vcpu_run.specs.Credited.{Ended}
use Rattle.vcpu_run.specs.EventsHeard.{LossesAreHeard}
use Rattle.vcpu_run.specs.Intake.{entries_taken}

-- the tags of the SRP entries among these, and among what was taken
abbrev pub tags_among : List Entry → List ℕ
tags_among entries = map (λ (e : Entry). e.low) (filter is_srp_entry entries)

abbrev pub tags_taken : List PipeRow → List ℕ
tags_taken rows = tags_among (map (λ (row : PipeRow). row.entry) rows)

-- An answer is the canonical bytes of a response of its tag.
pub record IsAnswerOf (row : AnswerRow) : Type 0 where
  pub response : Response
  pub canonical : Canon row.answer (units.Rsp response)
  pub tag_is : response.tag ≡ row.tag

abbrev pub answered_tags : List AnswerRow → List ℕ
answered_tags rows = map (λ (row : AnswerRow). row.tag) rows

-- the answers of a client
abbrev pub answers_to : Trace → UnitId → List AnswerRow
answers_to trace unit = filter (λ (row : AnswerRow). same_unit row.unit unit) trace.answers

-- What records tell so far: how many answers were taken, and the tags of the commands with data-in that were sent.
pub record TakesNow : Type 0 where
  pub count : ℕ
  pub inward : List ℕ

abbrev pub no_takes : TakesNow
no_takes = record { count = 0; inward = [] }

-- whether a line's command has data-in
abbrev pub reads_in : Verb → Bool
reads_in (verbs.Read lba blocks at pieces table) = true
reads_in (verbs.CommandIn cdb at len pieces table) = true
reads_in _ = false

-- what a record leaves of it
abbrev pub sent_inward : (inward : Bool) → (tag : ℕ) → TakesNow → TakesNow
sent_inward inward tag now = if inward then record now { inward = now.inward ++ tag ∷ [] } else now

abbrev pub takes_by : Verb → Outcome → TakesNow → TakesNow
takes_by verb (outcomes.Sent tag) now = sent_inward (reads_in verb) tag now
takes_by verb (outcomes.Took count) now = record now { count = now.count + count }
takes_by verb (outcomes.TookThenLost count) now = record now { count = now.count + count }
takes_by verb _ now = now

abbrev pub takes_after : TakesNow → List Ended → TakesNow
takes_after now [] = now
takes_after now (ended ∷ more) = takes_after (takes_by ended.verb ended.outcome now) more

abbrev pub has_tag : ℕ → List ℕ → Bool
has_tag tag tags = list_any (λ (other : ℕ). other == tag) tags

-- whether the data of a tag are known: an answer under it was taken, and it is of a command with data-in
abbrev pub is_known : ℕ → List ℕ → (inward : List ℕ) → Bool
is_known tag tags inward = has_tag tag tags && has_tag tag inward

-- data that are known are given, or are stale; of others it is said that they are unknown
abbrev pub IsDataSaid : (known : Bool) → Outcome → Type 0
IsDataSaid true (outcomes.Data len sum) = ⊤
IsDataSaid true (outcomes.Stale page) = ⊤
IsDataSaid true _ = ⊥
IsDataSaid false outcome = outcome ≡ outcomes.Unknown

-- a line takes no more than it says
abbrev pub IsTookUpTo : (count : ℕ) → Outcome → Type 0
IsTookUpTo count (outcomes.Took taken) = taken ≤ count
IsTookUpTo count (outcomes.TookThenLost taken) = taken ≤ count
IsTookUpTo count _ = ⊤

-- what a line says, if it takes answers, or gives the data of one
abbrev pub IsTakeSaid : (tags : List ℕ) → TakesNow → Verb → Outcome → Type 0
IsTakeSaid tags now (verbs.Take count) outcome = IsTookUpTo count outcome
IsTakeSaid tags now (verbs.Data tag) outcome = IsDataSaid (is_known tag (take now.count tags) now.inward) outcome
IsTakeSaid tags now _ outcome = ⊤

-- the same of lines one after the other, which took no more than there are answers
abbrev pub AreTakesSaid : (tags : List ℕ) → TakesNow → List Ended → Type 0
AreTakesSaid tags now [] = now.count ≤ length tags
AreTakesSaid tags now (ended ∷ more) =
    IsTakeSaid tags now ended.verb ended.outcome × AreTakesSaid tags (takes_by ended.verb ended.outcome now) more

-- A client's answers, with its records: each answer is of an SRP entry that it took under this tag, in their order, and is a
-- response of the tag; and the lines say of them what is so. They say no more often that the partner was lost than events were taken.
pub record AreAnswersTaken (trace : Trace) (client : UnitId) (ended : List Ended) : Type 0 where
  pub entries : AreAmong (answered_tags (answers_to trace client)) (tags_taken (entries_taken trace client))
  pub each : All IsAnswerOf (answers_to trace client)
  pub said : AreTakesSaid (answered_tags (answers_to trace client)) no_takes ended
  pub heard : LossesAreHeard trace client ended
