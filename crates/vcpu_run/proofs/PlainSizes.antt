-- The rows of a plain client's server unit ask for as much data-in as the client's commands of their tags: so it is behind a turn of the unit.
use Rattle.std.proofs.Common.{◌≡◌, ◌≢◌, ◌∙◌, ◌⊎◌, inl, inr, ℕ, All, List, [], ◌∷◌, refl, sym, ap, subst}
use Rattle.std.proofs.lemmas.List.Elements.{All-push}
use Rattle.vio_num.specs.declared.history.Grant.{Grant}
use Rattle.vio_num.specs.declared.history.Served.{Served}
use Rattle.vio_num.specs.declared.names.UnitId.{UnitId}
use Rattle.crq_session.specs.EndState.{EndState}
use Rattle.srp_iu.specs.Grammar.{Spells}
use Rattle.srp_iu.specs.declared.unit.Iu.{Iu}
use Rattle.srp_iu.specs.declared.unit.Iu.TheVariants as units
use Rattle.block_server.specs.Judged.{gets_row}
use Rattle.block_server.specs.RowsOn.{AddsFor, RowsOn, row_tag}
use Rattle.block_server.specs.Standing.{LeavesOn, LeavesRowOf}
use Rattle.block_server.specs.Talk.{Talk, Word, talk_of}
use Rattle.block_server.specs.declared.request.Order.TheVariants as orders
use Rattle.block_server.specs.declared.request.Request.{Request}
use Rattle.block_server.specs.declared.service.Outcome.{Outcome}
use Rattle.block_server.specs.declared.service.Outcome.TheVariants as outcomes
use Rattle.vscsi_client.specs.declared.row.Row.{Row}
use Rattle.vcpu_run.specs.DataKept.{IsInwardAt}
use Rattle.vcpu_run.specs.PlainBorne.{rows_by}
use Rattle.vcpu_run.specs.PlainNoted.{AreAskedFor, AsksFor}
use Rattle.vcpu_run.specs.PlainTalk.{Between, TalksPlainly}
use Rattle.vcpu_run.proofs.PlainLaid.{IsAskedFor, IsRowOf, asked_for, is_out, row_added}
use Rattle.vcpu_run.proofs.PlainTurns.{Turns}
use Rattle.vcpu_run.proofs.PlainUnits.{canon_spells}

-- a row of what the client asked
row_asks : (at : Between) (request : Request) (asked : IsAskedFor at request) (row : Served) → row_tag row ≡ request.tag → row.iu ≡ request.unit.items → AsksFor at.client.rows row
row_asks at request asked row tag iu from len inward =
    let starts = asked.starts from len (subst (λ n. IsInwardAt at.client.rows n from len) (tag ∙ asked.pending.tag) inward) in
    let spells : Spells asked.ask.bytes asked.ask.iu = canon_spells asked.ask.bytes asked.ask.iu asked.is.canonical in
    record {
      command = starts.1.0;
      spells = subst (λ (list : List ℕ). Spells list (units.Cmd starts.1.0)) (sym (iu ∙ asked.pending.bytes))
          (subst (λ (i : Iu). Spells asked.ask.bytes i) starts.1.1 spells);
      long = starts.1.2;
    }

-- no row was added
same_sized : (unit : UnitId) (rs : List Row) (rows rows' : List Served) → rows' ≡ rows → AreAskedFor (rows_by unit rows) rs → AreAskedFor (rows_by unit rows') rs
same_sized unit rs rows rows' same are = subst (λ (list : List Served). AreAskedFor (rows_by unit list) rs) (sym same) are

out_sized : (unit : UnitId) (rs : List Row) (request : Request) (rows rows' : List Served) → request.order ≡ orders.Logout → AddsFor unit request rows rows' → AreAskedFor (rows_by unit rows) rs
    → AreAskedFor (rows_by unit rows') rs
out_sized unit rs request rows rows' out (inl adds) are = absurd (cc (adds.gets, ap gets_row out))
out_sized unit rs request rows rows' out (inr none) are = same_sized unit rs rows rows' none.1 are

-- that of what was served
one_sized : (at : Between) (unit : UnitId) (request : Request) (asked : IsAskedFor at request) (outcome : Outcome) (queue : EndState) (answer : List ℕ) (rows rows' : List Served)
    → LeavesRowOf outcome queue request.unit.items answer rows rows' → AddsFor unit request rows rows' → AreAskedFor (rows_by unit rows) at.client.rows → AreAskedFor (rows_by unit rows') at.client.rows
one_sized at unit request asked (outcomes.Served place) queue answer rows rows' left adds are =
    let new : IsRowOf unit request rows rows' left.row = row_added unit request rows rows' left.row left.added adds in
    subst (All (AsksFor at.client.rows)) (sym new.by_unit)
    (All-push (AsksFor at.client.rows) (rows_by unit rows) left.row are (row_asks at request asked left.row new.tag_is left.iu_is))
one_sized at unit request asked (outcomes.Granted number) queue answer rows rows' same adds are = same_sized unit at.client.rows rows rows' same are
one_sized at unit request asked outcomes.Rejected queue answer rows rows' same adds are = same_sized unit at.client.rows rows rows' same are

pub sizes_served : (granted : ℕ) (at at' : Between) (lines lines' : List Grant) (words : List Word) (rows rows' : List Served) (name id : UnitId) → TalksPlainly granted at words
    → (turn : Turns at at' lines lines' words) → LeavesOn name at.unit at.server words at'.server at.window at'.window rows rows' → RowsOn at.unit at.server words rows rows' → at.unit.id ≡ id
    → AreAskedFor (rows_by id rows) at.client.rows → AreAskedFor (rows_by id rows') at.client.rows
sizes_served granted at at' lines lines' words rows rows' name id talks turn left on own are = by turn.middle.pending.items refl
  where
    talk : Talk
    talk = talk_of turn.middle

    served : (request : Request) (rest : List Request) → turn.middle.pending.items ≡ request ∷ rest → (request.order ≡ orders.Logout) ⊎ (request.order ≢ orders.Logout)
        → AreAskedFor (rows_by id rows') at.client.rows
    served request rest items (inl out) =
        out_sized id at.client.rows request rows rows' out (subst (λ i. AddsFor i request rows rows') own (on.adds talk request rest turn.hears.heard items)) are
    served request rest items (inr isnt) =
        let leaves = left.leaves talk request rest turn.hears.heard items isnt in
        one_sized at id request (asked_for granted at at' lines lines' words talks turn request rest items) leaves.outcome at'.server leaves.bytes rows rows' leaves.row
        (subst (λ i. AddsFor i request rows rows') own (on.adds talk request rest turn.hears.heard items)) are

    by : (requests : List Request) → turn.middle.pending.items ≡ requests → AreAskedFor (rows_by id rows') at.client.rows
    by [] none = same_sized id at.client.rows rows rows' (on.none talk turn.hears.heard none) are
    by (request ∷ rest) items = served request rest items (is_out request.order)
