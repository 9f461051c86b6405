-- The responses in each client's queue are those of its server unit's rows, turn by turn.
use Rattle.std.proofs.Common.{◌≡◌, ◌≢◌, ◌≤◌, ◌∙◌, inl, inr, ℕ, ◌==◌, ◌&&◌, Bool, false, cond, List, [], ◌∷◌, ◌++◌, filter, map, refl, sym, ap, subst, eq-eqb}
use Rattle.std.proofs.Math.Logic.{∥∥₁_map, ∥∥₁_map₂}
use Rattle.std.proofs.lemmas.Bool.{ne_eqb}
use Rattle.std.proofs.lemmas.List.Elements.{All-nil}
use Rattle.vio_num.specs.declared.entry.Entry.{Entry}
use Rattle.vio_num.specs.declared.history.Served.{Served}
use Rattle.vio_num.specs.declared.names.UnitId.{UnitId}
use Rattle.crq_ring.specs.declared.rows.PipeRow.{PipeRow}
use Rattle.crq_session.specs.PlainState.{side_of, IsNewLink}
use Rattle.block_server.specs.Answering.{AnswersMore, OnlyRowsOf, StaysRow, answer_entry, answers_of, has_bytes, is_answered_row, responses}
use Rattle.vcpu_run.specs.declared.pair.Pair.{Pair}
use Rattle.vcpu_run.specs.Answered.{AreAnswered, AreBegun, IsAnswered}
use Rattle.vcpu_run.specs.Machines.{server_id}
use Rattle.vcpu_run.specs.Pairs.{AreDriven, Drives}
use Rattle.vcpu_run.proofs.Following.{each_from_all}
use Rattle.vcpu_run.proofs.Listed.{came_from}
use Rattle.lan_script.proofs.Order.{each_weaker}
use Rattle.vcpu_run.proofs.Sole.{none_passes}

-- a row of another server unit is no answered one of this
not_of : (home k j : ℕ) (row : Served) → k ≢ j → row.unit ≡ server_id home k → is_answered_row (server_id home j) row ≡ false
not_of home k j row apart is =
    ap (λ (u : UnitId). ((u.partition == home) && (u.unit == j)) && has_bytes row.answer) is
    ∙ (ap (λ b. (b && (k == j)) && has_bytes row.answer) (eq-eqb home home refl) ∙ ap (λ b. b && has_bytes row.answer) (ne_eqb k j apart))

skips : (test : Served → Bool) (row : Served) (rows : List Served) → test row ≡ false → filter test (row ∷ rows) ≡ filter test rows
skips test row rows e = ap (λ b. cond b (row ∷ filter test rows) (filter test rows)) e

only_others : (home k j : ℕ) (old new : List Served) → k ≢ j → OnlyRowsOf (server_id home k) old new
    → filter (is_answered_row (server_id home j)) new ≡ filter (is_answered_row (server_id home j)) old
only_others home k j [] new apart only =
    none_passes (is_answered_row (server_id home j)) new
    (each_weaker (λ (row : Served). row.unit ≡ server_id home k) (λ row. is_answered_row (server_id home j) row ≡ false) (λ row is. not_of home k j row apart is) new
    (each_from_all (λ (row : Served). row.unit ≡ server_id home k) new only))
only_others home k j (row ∷ rows) [] apart only = absurd only
only_others home k j (row ∷ rows) (next ∷ nexts) apart only = at only.0 (only_others home k j rows nexts apart only.1)
  where
    test : Served → Bool
    test = is_answered_row (server_id home j)

    at : StaysRow (server_id home k) row next → filter test nexts ≡ filter test rows → filter test (next ∷ nexts) ≡ filter test (row ∷ rows)
    at (inl same) rest = subst (λ (r : Served). filter test (r ∷ nexts) ≡ filter test (row ∷ rows)) (sym same) (ap (λ (l : List Served). cond (test row) (row ∷ l) l) rest)
    at (inr both) rest = skips test next nexts (not_of home k j next apart both.is) ∙ (rest ∙ sym (skips test row rows (not_of home k j row apart both.was)))

-- a turn of the server unit
pub answered_served : (unit : UnitId) (old new : Pair) (history history' : List Served) → unit ≡ old.server → new.server ≡ old.server
    → ∥ AnswersMore unit (side_of old.link false).queue.sent (side_of new.link false).queue.sent history history' ∥₁
    → AreBegun (side_of new.link false).queue.sent → IsAnswered history old → IsAnswered history' new
answered_served unit old new history history' named server more begun is = record {
  answers = ∥∥₁_map₂ more is.answers (λ more is.
      more.put ∙ (ap (λ (entries : List Entry). entries ++ more.more) (is ∙ ap (λ u. answers_of u history) (sym named)) ∙ (sym more.rows ∙ ap (λ u. answers_of u history') (named ∙ sym server))));
  begun = begun;
}

-- a turn of another one
pub answered_elsewhere : (home k j : ℕ) (other : Pair) (history history' : List Served) → k ≢ j → other.server ≡ server_id home j
    → ∥ OnlyRowsOf (server_id home k) history history' ∥₁ → IsAnswered history other → IsAnswered history' other
answered_elsewhere home k j other history history' apart server only is = record {
  answers = ∥∥₁_map₂ only is.answers (λ only is.
      is ∙ (ap (λ u. answers_of u history) server
      ∙ (ap (map answer_entry) (sym (only_others home k j history history' apart only)) ∙ ap (λ u. answers_of u history') (sym server))));
  begun = is.begun;
}

-- a turn of the clients
pub answered_driven : (history : List Served) (old new : List Pair) → AreDriven old new → AreAnswered history old → AreAnswered history new
answered_driven history old new driven are k pair found =
    let from = came_from Drives old new driven.count driven.each k pair found in
    let is = are k from.0 from.1 in
    record {
      answers = ∥∥₁_map is.answers (λ is. ap responses from.2.got ∙ (is ∙ ap (λ u. answers_of u history) (sym from.2.server)));
      begun = subst AreBegun (sym from.2.got) is.begun;
    }

-- before the first turn
pub answered_new : (pair : Pair) (slots_a slots_b : ℕ) → IsNewLink pair.link slots_a slots_b → IsAnswered [] pair
answered_new pair slots_a slots_b new = record {
  answers = ∣ ap responses new.second.queue.sent ∣₁;
  begun = subst AreBegun (sym new.second.queue.sent) (All-nil (λ (row : PipeRow). 1 ≤ row.session));
}
