-- A turn of a server unit adds no row under a tag that its client did not ask under, whether the client talks to it or its session is over, or was.
use Rattle.std.proofs.Common.{◌≡◌, ◌∙◌, ◌⊎◌, inl, inr, ℕ, ◌≤◌, ◌++◌, All, false, List, [], ◌∷◌, length, map, refl, sym, ap, subst}
use Rattle.std.proofs.lemmas.List.Elements.{All-cons, All-head, All-nil, All-tail}
use Rattle.crq_session.specs.EndState.{EndState}
use Rattle.vio_num.specs.declared.history.Served.{Served}
use Rattle.vio_num.specs.declared.names.UnitId.{UnitId}
use Rattle.block_server.specs.Doings.{Does, DoesOne, Doing, DropsAll, KeepsEntry, LeadsOver, LogsOutFirst, LosesEntry, Prepares, PutsEntry, StaysUnit, TakesRequest, WritesAnswer}
use Rattle.block_server.specs.Judged.{row_in}
use Rattle.block_server.specs.RowsOn.{row_tag}
use Rattle.block_server.specs.Serving.{SettlesRow}
use Rattle.block_server.specs.declared.request.Request.{Request}
use Rattle.block_server.specs.declared.service.Outcome.{Outcome}
use Rattle.block_server.specs.declared.service.Outcome.TheVariants as outcomes
use Rattle.block_server.specs.declared.service.Stage.TheVariants as stages
use Rattle.vscsi_client.specs.State.{ClientState}
use Rattle.vcpu_run.specs.OwnRows.{KeepsRows}
use Rattle.vcpu_run.specs.OwnTurns.{StillTalks, TalksWithin}
use Rattle.vcpu_run.specs.PlainBorne.{rows_by}
use Rattle.vcpu_run.specs.PlainTalk.{ArePending, Ask, IsAsk}
use Rattle.vcpu_run.proofs.OverSameRows.{over_same}
use Rattle.vcpu_run.proofs.OverTurns.{KeepsBoth, both_does}
use Rattle.vcpu_run.proofs.OwnDoes.{TalksOrOver}
use Rattle.vcpu_run.proofs.OwnNever.{never_loses}
use Rattle.vcpu_run.proofs.OwnRowsDo.{rise_at}
use Rattle.vcpu_run.proofs.OwnRowsPut.{IsAnswered, answered_row, with_answer}
use Rattle.vcpu_run.proofs.OwnRowsServed.{AddsItsRow, IsRowFor, adds_its_row}
use Rattle.vcpu_run.proofs.PlainBorne.{rows_push}
use Rattle.vcpu_run.proofs.PlainReady.{all_rest}
use Rattle.vcpu_run.proofs.PlainServed.{pending_first}
use Rattle.vcpu_run.proofs.PlainTags.{map_push}

-- these rows have tags that a client asked under, which asked under so many
abbrev pub AreTagged : ℕ → List Served → Type 0
AreTagged last rows = All (λ tag. tag ≤ last) (map row_tag rows)

-- so have the unit's
abbrev pub KeepsTags : Doing → ClientState → Type 0
KeepsTags d s = AreTagged (length s.rows) (rows_by d.id d.rows)

-- ---- a step

tagged_more : (last : ℕ) (rows more : List Served) → AreTagged last rows → AreTagged last more → AreTagged last (rows ++ more)
tagged_more last [] more are is = is
tagged_more last (row ∷ rows) more are is =
    All-cons (λ tag. tag ≤ last) (row_tag row) (map row_tag (rows ++ more)) (All-head (λ tag. tag ≤ last) (row_tag row) (map row_tag rows) are)
    (tagged_more last rows more (All-tail (λ tag. tag ≤ last) (row_tag row) (map row_tag rows) are) is)

tagged_for : (last : ℕ) (ask : Ask) (rows : List Served) → ask.tag ≤ last → All (IsRowFor ask) rows → AreTagged last rows
tagged_for last ask [] known each = All-nil (λ tag. tag ≤ last)
tagged_for last ask (row ∷ rows) known each =
    All-cons (λ tag. tag ≤ last) (row_tag row) (map row_tag rows) (subst (λ tag. tag ≤ last) (sym (All-head (IsRowFor ask) row rows each).tag_is) known)
    (tagged_for last ask rows known (All-tail (IsRowFor ask) row rows each))

tags_same : (d d' : Doing) (s : ClientState) → d'.id ≡ d.id → d'.rows ≡ d.rows → KeepsTags d s → KeepsTags d' s
tags_same d d' s id rows tags =
    subst (λ (one : UnitId). AreTagged (length s.rows) (rows_by one d'.rows)) (sym id)
    (subst (λ (list : List Served). AreTagged (length s.rows) (rows_by d.id list)) (sym rows) tags)

-- The row that is added has the tag of the oldest request.
prepares_tags : (granted : ℕ) (d d' : Doing) (s : ClientState) (own : EndState) (coming0 whole0 : List Ask) → StillTalks granted d s own coming0 whole0 → Prepares d d'
    → KeepsTags d s → KeepsTags d' s
prepares_tags granted d d' s own coming0 whole0 still step tags =
    let first = pending_first step.request step.rest still.pending (subst (λ (requests : List Request). ArePending requests still.pending) step.pending still.talks.pends) in
    let talks : TalksWithin granted d s own still.answered (first.0 ∷ first.1) still.coming still.answers =
    subst (λ (pending : List Ask). TalksWithin granted d s own still.answered pending still.coming still.answers) first.2 still.talks in
    let is_ask : IsAsk first.0 = All-head IsAsk first.0 (first.1 ++ still.coming) (all_rest IsAsk still.answered (first.0 ∷ first.1 ++ still.coming) talks.all.each) in
    let adds : AddsItsRow d d' first.0 = adds_its_row d d' first.0 step is_ask first.3 in
    subst (λ (one : UnitId). AreTagged (length s.rows) (rows_by one d'.rows)) (sym step.stays.id)
    (subst (AreTagged (length s.rows)) (sym adds.by_unit)
    (tagged_more (length s.rows) (rows_by d.id d.rows) adds.more tags
    (tagged_for (length s.rows) first.0 adds.more (rise_at (length s.rows) still.answered first.0 (first.1 ++ still.coming) talks.all.tags) adds.each)))

-- The row in service has its answer, under the same tag.
answers_tags : (d d' : Doing) (s : ClientState) (settled : List Served) (place : ℕ) → d'.id ≡ d.id → IsAnswered d d' settled place → KeepsTags d s → KeepsTags d' s
answers_tags d d' s settled place id is tags =
    subst (λ (one : UnitId). AreTagged (length s.rows) (rows_by one d'.rows)) (sym id) (subst (All (λ tag. tag ≤ length s.rows)) same tags)
  where
    row' : Served
    row' = with_answer is.was.row d.answer

    -- the tags of these, with one more row of the unit
    pushed : (rows : List Served) (row : Served) → rows ≡ is.was.before ++ row ∷ [] → row.unit ≡ d.id → map row_tag (rows_by d.id rows) ≡ map row_tag (rows_by d.id is.was.before) ++ row_tag row ∷ []
    pushed rows row added own =
        ap (map row_tag) (ap (rows_by d.id) added ∙ rows_push d.id is.was.before row own) ∙ map_push (rows_by d.id is.was.before) row

    same : map row_tag (rows_by d.id d.rows) ≡ map row_tag (rows_by d.id d'.rows)
    same = pushed d.rows is.was.row is.was.rows is.was.unit_is ∙ sym (pushed d'.rows row' is.now is.was.unit_is)

puts_tags : (d d' : Doing) (s : ClientState) → PutsEntry d d' → KeepsRows d s → KeepsTags d s → KeepsTags d' s
puts_tags d d' s step keeps tags = by step.outcome refl
  where
    by : (outcome : Outcome) → step.outcome ≡ outcome → KeepsTags d' s
    by (outcomes.Granted number) is = tags_same d d' s step.stays.id (subst (λ (o : Outcome). SettlesRow o d.answer d.rows d'.rows) is step.rows) tags
    by outcomes.Rejected is = tags_same d d' s step.stays.id (subst (λ (o : Outcome). SettlesRow o d.answer d.rows d'.rows) is step.rows) tags
    by (outcomes.Served place) is =
        answers_tags d d' s keeps.settled place step.stays.id
        (answered_row d d' keeps.settled place (keeps.settled_are.one place (ap row_in stage)) (subst (λ (o : Outcome). SettlesRow o d.answer d.rows d'.rows) is step.rows)) tags
      where
        stage : d.stage ≡ stages.Entry (outcomes.Served place)
        stage = step.first ∙ ap (λ (o : Outcome). stages.Entry o) is

tags_does : (granted : ℕ) (d d' : Doing) (s : ClientState) (own : EndState) (coming0 whole0 : List Ask) → StillTalks granted d s own coming0 whole0 → DoesOne d d'
    → KeepsRows d s → KeepsTags d s → KeepsTags d' s
tags_does granted d d' s own coming0 whole0 still (inl step) keeps tags = tags_same d d' s step.stays.id step.aside.rows tags
tags_does granted d d' s own coming0 whole0 still (inr (inl step)) keeps tags = tags_same d d' s step.stays.id step.aside.rows tags
tags_does granted d d' s own coming0 whole0 still (inr (inr (inl step))) keeps tags = tags_same d d' s step.stays.id step.aside.rows tags
tags_does granted d d' s own coming0 whole0 still (inr (inr (inr (inl step)))) keeps tags = tags_same d d' s step.stays.id step.aside.rows tags
tags_does granted d d' s own coming0 whole0 still (inr (inr (inr (inr (inl step))))) keeps tags = tags_same d d' s step.stays.id step.aside.rows tags
tags_does granted d d' s own coming0 whole0 still (inr (inr (inr (inr (inr (inl step)))))) keeps tags = tags_same d d' s step.stays.id step.aside.rows tags
tags_does granted d d' s own coming0 whole0 still (inr (inr (inr (inr (inr (inr (inl step))))))) keeps tags = tags_same d d' s step.stays.id step.aside.rows tags
tags_does granted d d' s own coming0 whole0 still (inr (inr (inr (inr (inr (inr (inr (inl step)))))))) keeps tags = tags_same d d' s step.stays.id step.aside.rows tags
tags_does granted d d' s own coming0 whole0 still (inr (inr (inr (inr (inr (inr (inr (inr rest)))))))) keeps tags = serves rest
  where
    serves : TakesRequest d d' ⊎ (DropsAll d d' ⊎ (LogsOutFirst d d' ⊎ (Prepares d d' ⊎ (WritesAnswer d d' ⊎ (KeepsEntry d d' ⊎ (PutsEntry d d' ⊎ LosesEntry d d')))))) → KeepsTags d' s
    serves (inl step) = tags_same d d' s step.stays.id step.put.rows tags
    serves (inr (inl step)) = tags_same d d' s step.stays.id step.put.rows tags
    serves (inr (inr (inl step))) = tags_same d d' s step.stays.id step.put.rows tags
    serves (inr (inr (inr (inl step)))) = prepares_tags granted d d' s own coming0 whole0 still step tags
    serves (inr (inr (inr (inr (inl step))))) = tags_same d d' s step.stays.id step.rows tags
    serves (inr (inr (inr (inr (inr (inl step)))))) = tags_same d d' s step.stays.id step.put.rows tags
    serves (inr (inr (inr (inr (inr (inr (inl step))))))) = puts_tags d d' s step keeps tags
    serves (inr (inr (inr (inr (inr (inr (inr step))))))) = absurd (never_loses granted d d' s own coming0 whole0 still step)

-- ---- the turn

-- each step is one of the same unit
pub does_stays : (d d' : Doing) → DoesOne d d' → StaysUnit d d'
does_stays d d' (inl step) = step.stays
does_stays d d' (inr (inl step)) = step.stays
does_stays d d' (inr (inr (inl step))) = step.stays
does_stays d d' (inr (inr (inr (inl step)))) = step.stays
does_stays d d' (inr (inr (inr (inr (inl step))))) = step.stays
does_stays d d' (inr (inr (inr (inr (inr (inl step)))))) = step.stays
does_stays d d' (inr (inr (inr (inr (inr (inr (inl step))))))) = step.stays
does_stays d d' (inr (inr (inr (inr (inr (inr (inr (inl step)))))))) = step.stays
does_stays d d' (inr (inr (inr (inr (inr (inr (inr (inr rest)))))))) = serves rest
  where
    serves : TakesRequest d d' ⊎ (DropsAll d d' ⊎ (LogsOutFirst d d' ⊎ (Prepares d d' ⊎ (WritesAnswer d d' ⊎ (KeepsEntry d d' ⊎ (PutsEntry d d' ⊎ LosesEntry d d')))))) → StaysUnit d d'
    serves (inl step) = step.stays
    serves (inr (inl step)) = step.stays
    serves (inr (inr (inl step))) = step.stays
    serves (inr (inr (inr (inl step)))) = step.stays
    serves (inr (inr (inr (inr (inl step))))) = step.stays
    serves (inr (inr (inr (inr (inr (inl step)))))) = step.stays
    serves (inr (inr (inr (inr (inr (inr (inl step))))))) = step.stays
    serves (inr (inr (inr (inr (inr (inr (inr step))))))) = step.stays

-- What is so of a turn so far: the two talk, or it is over; and of the unit's rows, their tags, and what it laid.
abbrev pub KeepsAll : (granted : ℕ) → Doing → ClientState → EndState → (coming0 whole0 : List Ask) → Type 0
KeepsAll granted d s own coming0 whole0 = TalksOrOver granted d s own coming0 whole0 × KeepsRows d s × KeepsTags d s

all_does : (granted : ℕ) (d d' : Doing) (s : ClientState) (own : EndState) (coming0 whole0 : List Ask) → KeepsAll granted d s own coming0 whole0 → DoesOne d d'
    → KeepsAll granted d' s own coming0 whole0
all_does granted d d' s own coming0 whole0 (inl still, keeps, tags) step =
    let both : KeepsBoth granted d' s own coming0 whole0 = both_does granted d d' s own coming0 whole0 (inl still, keeps) step in
    (both.0, both.1, tags_does granted d d' s own coming0 whole0 still step keeps tags)
all_does granted d d' s own coming0 whole0 (inr is, keeps, tags) step =
    let both : KeepsBoth granted d' s own coming0 whole0 = both_does granted d d' s own coming0 whole0 (inr is, keeps) step in
    (both.0, both.1, tags_same d d' s (does_stays d d' step).id (over_same granted false d d' s own is step) tags)

all_leads : (granted : ℕ) (s : ClientState) (own : EndState) (coming0 whole0 : List Ask) (over : List Doing) (d d' : Doing) → KeepsAll granted d s own coming0 whole0 → LeadsOver over d d'
    → KeepsAll granted d' s own coming0 whole0
all_leads granted s own coming0 whole0 [] d d' all leads = subst (λ (at : Doing). KeepsAll granted at s own coming0 whole0) (sym leads) all
all_leads granted s own coming0 whole0 (next ∷ over) d d' all leads =
    all_leads granted s own coming0 whole0 over next d' (all_does granted d next s own coming0 whole0 all leads.0) leads.1

-- the turn
pub all_turn : (granted : ℕ) (d d' : Doing) (s : ClientState) (own : EndState) (coming0 whole0 : List Ask) → TalksOrOver granted d s own coming0 whole0 → KeepsRows d s → KeepsTags d s → Does d d'
    → KeepsAll granted d' s own coming0 whole0
all_turn granted d d' s own coming0 whole0 talks keeps tags turn = all_leads granted s own coming0 whole0 turn.over d d' (talks, keeps, tags) turn.leads
