-- What a plain client's turn leaves of what its server unit laid in its slots, of what that unit's rows ask for, and of what the client noted.
use Rattle.std.proofs.Common.{◌≡◌, ◌≢◌, ◌⊎◌, ℕ, ◌≤◌, All, List, [], ◌∷◌, Option, Some, None, length, map, refl, sym, subst}
use Rattle.std.proofs.lemmas.List.Elements.{All-append, All-cons, All-head, All-nil, All-tail, All-weaker}
use Rattle.vio_num.specs.declared.history.Served.{Served}
use Rattle.vio_num.specs.declared.names.UnitId.{UnitId}
use Rattle.page_slots.specs.Stroke.{StrokeValue}
use Rattle.tce_window.specs.PlainPort.{known_of}
use Rattle.block_server.specs.RowsOn.{row_tag}
use Rattle.unit_region.specs.Kept.{LaysOwnAll, LaysOwnOn}
use Rattle.vio_trace.specs.declared.rows.AnswerRow.{AnswerRow}
use Rattle.vscsi_client.specs.State.{ClientState}
use Rattle.vcpu_run.specs.DataKept.{AreAsked, KeepsData}
use Rattle.vcpu_run.specs.Pairs.{Drives}
use Rattle.vcpu_run.specs.PlainNoted.{AreAnswers, AreAskedFor, AsksFor, IsAnswerOfRow, IsLaidAnswer, IsNoResponse, NotesLaid}
use Rattle.vcpu_run.specs.PlainScripts.{PairNotes, answers_in}
use Rattle.vcpu_run.specs.declared.driver.Driver.{Driver}
use Rattle.vcpu_run.specs.declared.pair.Pair.{Pair}
use Rattle.vcpu_run.proofs.PlainBorne.{inward_back}
use Rattle.vcpu_run.proofs.PlainNotes.{all_on}
use Rattle.vcpu_run.proofs.PlainTellings.{drives_stay}

-- the strokes that the client laid are its own
pub answers_turned : (list : List Served) (unit unit' : UnitId) (old new : ℕ → Option (List StrokeValue)) → unit' ≡ unit → LaysOwnAll unit old new → AreAnswers list unit old
    → AreAnswers list unit' new
answers_turned list unit unit' old new same lays answered page within strokes there =
    by (old page) refl (subst (λ (o : Option (List StrokeValue)). LaysOwnOn unit (old page) o) there (lays page))
  where
    P : UnitId → StrokeValue → Type 0
    P own stroke = stroke.name.who ≢ own → IsAnswerOfRow list stroke ⊎ IsNoResponse stroke

    by : (o : Option (List StrokeValue)) → old page ≡ o → LaysOwnOn unit o (Some strokes) → All (P unit') strokes
    by None none laid = absurd laid
    by (Some was) found laid =
        subst (λ (own : UnitId). All (P own) strokes) (sym same)
        (subst (All (P unit)) (sym laid.is)
        (All-append (P unit) was laid.more (answered page within was found)
        (All-weaker (λ (x : StrokeValue). x.name.who ≡ unit) (P unit) (λ x own other. absurd (other own)) laid.more laid.own)))

-- what the rows of before ask for was asked before
sized_each : (last : ℕ) (s s' : ClientState) (answers answers' : List AnswerRow) → KeepsData s s' answers answers' → AreAsked s.outgoing → last ≡ length s.rows → (list : List Served)
    → All (λ tag. tag ≤ last) (map row_tag list) → All (AsksFor s.rows) list → All (AsksFor s'.rows) list
sized_each last s s' answers answers' keeps asked is [] most sized = All-nil (AsksFor s'.rows)
sized_each last s s' answers answers' keeps asked is (row ∷ list) most sized =
    All-cons (AsksFor s'.rows) row list
    (λ at len now. All-head (AsksFor s.rows) row list sized at len
    (inward_back s s' answers answers' (row_tag row) at len keeps asked (subst (λ n. row_tag row ≤ n) is (All-head (λ tag. tag ≤ last) (row_tag row) (map row_tag list) most)) now))
    (sized_each last s s' answers answers' keeps asked is list (All-tail (λ tag. tag ≤ last) (row_tag row) (map row_tag list) most) (All-tail (AsksFor s.rows) row list sized))

pub sized_turned : (list : List Served) (s s' : ClientState) (answers answers' : List AnswerRow) → KeepsData s s' answers answers' → AreAsked s.outgoing
    → All (λ tag. tag ≤ length s.rows) (map row_tag list) → AreAskedFor list s.rows → AreAskedFor list s'.rows
sized_turned list s s' answers answers' keeps asked most sized = sized_each (length s.rows) s s' answers answers' keeps asked refl list most sized

-- all that it noted was laid in its window
pub noted_turned : (old new : Pair) (a b : Driver) → old.driver ≡ Some a → new.driver ≡ Some b → Drives old new → PairNotes (answers_in old.driver) new
    → All (IsLaidAnswer old.window.unit (known_of old.window).strokes) a.answers.items → All (IsLaidAnswer new.window.unit (known_of new.window).strokes) b.answers.items
noted_turned old new a b was there drives notes all =
    all_on new.window.unit (known_of old.window).strokes (known_of new.window).strokes a.answers.items b.answers.items (drives_stay old new drives)
    (subst (λ (own : UnitId). All (IsLaidAnswer own (known_of old.window).strokes) a.answers.items) (sym drives.unit) all)
    (subst (λ (o : Option Driver). NotesLaid new.window.unit (known_of new.window).strokes a.answers.items (answers_in o)) there
    (subst (λ (o : Option Driver). NotesLaid new.window.unit (known_of new.window).strokes (answers_in o) (answers_in new.driver)) was notes))
