-- In which order a client's requests stand in its server unit's queue: in that of its records, each by an entry of its own.
use Rattle.std.specs.Prelude.{◌≡◌, ℕ, ◌==◌, ◌&&◌, nat_le, Bool, true, List, [], ◌∷◌, ◌++◌, MatchOption, Option, Some, None, filter, map, ⊤, if◌then◌else◌}
use Rattle.vio_num.specs.declared.entry.Entry.{Entry}
use Rattle.vio_num.specs.declared.names.UnitId.{UnitId}
use Rattle.crq_ring.specs.declared.rows.PipeRow.{PipeRow}
use Rattle.crq_session.specs.PlainState.{side_of}
use Rattle.boot_text.specs.declared.plan.Line.{Line}
use Rattle.boot_text.specs.declared.verb.Verb.{Verb}
use Rattle.vio_trace.specs.declared.outcome.Outcome.{Outcome}
use Rattle.vio_trace.specs.declared.outcome.Outcome.TheVariants as outcomes
use Rattle.vio_trace.specs.declared.rows.LogRow.{LogRow}
use Rattle.vcpu_run.specs.declared.pair.Pair.{Pair}
use Rattle.vcpu_run.specs.LinesShow.{IsSent, Seen, requests}

-- what there is, and of entries this one alone
abbrev pub with_entry : Seen → Entry → Seen
with_entry seen entry = record seen { entry_put = λ other. other ≡ entry }

-- the tag under which a record says that a request was sent
abbrev pub said_tag : Outcome → Option ℕ
said_tag (outcomes.Sent tag) = Some tag
said_tag _ = None

-- the same of a line of this unit that sends a request
abbrev pub tag_sent : (unit : ℕ) → Line → LogRow → Option ℕ
tag_sent unit line row = if (line.unit == unit) && requests line.verb then said_tag row.outcome else None

-- A request was sent, and its entry is one of these, with these behind it.
pub record IsNextSent (seen : Seen) (who : UnitId) (mark : ℕ) (verb : Verb) (tag : ℕ) (entries behind : List Entry) : Type 0 where
  pub front : List Entry
  pub entry : Entry
  pub split : entries ≡ front ++ entry ∷ behind
  pub sent : IsSent (with_entry seen entry) who mark verb tag

-- the requests that the lines of a unit say they sent have entries among these, in the order of the records, and each its own: the
-- records are those of the first lines, in their order
abbrev pub AreSentIn : Seen → UnitId → (unit : ℕ) → List Line → List LogRow → List Entry → Type 0
AreSentIn seen who unit [] rows entries = ⊤
AreSentIn seen who unit (line ∷ lines) [] entries = ⊤
AreSentIn seen who unit (line ∷ lines) (row ∷ rows) entries =
    MatchOption (tag_sent unit line row) (AreSentIn seen who unit lines rows entries)
    (λ tag. (behind : List Entry) × IsNextSent seen who line.number line.verb tag entries behind × AreSentIn seen who unit lines rows behind)

-- the entries that were put in sessions, which count from 1
abbrev pub is_begun : PipeRow → Bool
is_begun row = nat_le 1 row.session

abbrev pub entries_begun : List PipeRow → List Entry
entries_begun rows = map (λ (row : PipeRow). row.entry) (filter is_begun rows)

-- those of a pair's server unit
abbrev pub entries_put : Pair → List Entry
entries_put pair = entries_begun (side_of pair.link true).queue.sent
