-- What a turn in which nothing is amiss adds to the rows.
use Rattle.std.proofs.Common.{◌≡◌, inl, inr, ℕ, Bool, List, [], ◌∷◌, Some, Result, Ok, Err, OnOk, length, map, slice_get, refl, sym, ◌∙◌, ap, subst}
use Rattle.crq_session.specs.Answered.{taken_now}
use Rattle.crq_session.specs.EndState.{EndState}
use Rattle.vio_num.specs.declared.history.Grant.{Grant}
use Rattle.vio_num.specs.declared.history.Served.{Served}
use Rattle.vio_num.specs.declared.memory.NoMemory.{NoMemory}
use Rattle.vio_num.specs.declared.names.UnitId.{UnitId}
use Rattle.block_server.specs.Bearing.{Question, question_of}
use Rattle.block_server.specs.Judged.{gets_row}
use Rattle.block_server.specs.RowsOn.{AddsFor, KeepsIdleRows, RowsOn}
use Rattle.block_server.specs.Talk.{FitOneTurn, HasHeard, HearsAll, IsListening, IsServable, IsTurnReady, Reach, Replies, Talk, Word, replies, talk_of}
use Rattle.block_server.specs.declared.request.Request.{Request}
use Rattle.block_server.specs.declared.unit.Unit.{Unit}
use Rattle.block_server.proofs.Listening.{heard_on}
use Rattle.block_server.proofs.Talks.{heard_still, may_known, ready_on, slots_left}
use Rattle.block_server.proofs.TurnRanges.{first_asks, found_same, no_first, none_alike, pending_alike}

-- a request that bears the same tag and asks the same gets such a row
adds_alike : (unit : UnitId) (first request : Request) (rows new : List Served) → question_of first ≡ question_of request → AddsFor unit first rows new → AddsFor unit request rows new
adds_alike unit first request rows new same (inl adds) = inl (record {
  gets = ap (λ (z : Question). gets_row z.order) (sym same) ∙ adds.gets;
  row = adds.row;
  added = adds.added;
  unit_is = adds.unit_is;
  tag_is = adds.tag_is ∙ ap (λ (z : Question). z.tag) same;
})
adds_alike unit first request rows new same (inr none) = inr (ap (λ (z : Question). gets_row z.order) (sym same) ∙ none.0, none.1)

rows_alike : (unit : UnitId) (rows new : List Served) (pending : List Request) (request : Request) (rest : List Request)
    → ((first : Request) (others : List Request) → pending ≡ first ∷ others → AddsFor unit first rows new) → map question_of pending ≡ map question_of (request ∷ rest) → AddsFor unit request rows new
rows_alike unit rows new [] request rest adds same = absurd (no_first (question_of request) (map question_of rest) same)
rows_alike unit rows new (first ∷ others) request rest adds same =
    adds_alike unit first request rows new (first_asks (question_of first) (question_of request) (map question_of others) (map question_of rest) same) (adds first others refl)

-- The steps of a turn, one behind the other: all was heard, and no row changed; and then the first request that is pending was served, if
-- there is one.
pub rows_on : {A : Type 0} (link : Bool) (unit u1 u2 u3 : Unit) (r0 r1 r2 r3 : Reach) (l0 l2 l3 : List Grant) (h0 h2 h3 h4 : List Served) (words : List Word)
    (result : Result A NoMemory) → IsTurnReady unit r0 link words → u1 ≡ unit → Replies r0.queue r1.queue [] → r1.client ≡ r0.client → r1.shared ≡ r0.shared
    → u2 ≡ u1 → r2 ≡ r1 → l2 ≡ l0 → r3.shared ≡ r2.shared → h2 ≡ h0 → u3.id ≡ u2.id → KeepsIdleRows u2.service.stage u3.service.stage h2 h3
    → (IsListening u2 r2 link words → FitOneTurn u2 r2 words → HasHeard u2 u3 r2 r3 l2 l3 words)
    → ((request : Request) (rest : List Request) → IsServable u3 r3 link request rest → OnOk result (AddsFor u3.id request h3 h4))
    → (u3.pending.items ≡ [] → h4 ≡ h3) → OnOk result (RowsOn unit r0.queue words h0 h4)
rows_on link unit u1 u2 u3 r0 r1 r2 r3 l0 l2 l3 h0 h2 h3 h4 words (Err memory) calm same1 still client shared same2 reach lines shared3 first id idle hears adds none = tt
rows_on link unit u1 u2 u3 r0 r1 r2 r3 l0 l2 l3 h0 h2 h3 h4 words (Ok done) calm same1 still client shared same2 reach lines shared3 first id idle hears adds none = record {
  adds = λ talk request rest heard is.
      rows_alike unit.id h0 h4 u3.pending.items request rest
      (λ found others pending. subst (λ (z : UnitId × List Served). AddsFor z.0 found z.1 h4) (λ i. (unit_is i, rows i)) (adds found others (servable found others pending)))
      (pending_alike words (talk_of unit) (talk_of u3) talk (length (taken_now r0.queue)) (request ∷ rest) all.heard heard is);
  none = λ talk heard empty.
      none (none_alike u3.pending.items (pending_alike words (talk_of unit) (talk_of u3) talk (length (taken_now r0.queue)) [] all.heard heard empty)) ∙ rows;
}
  where
    same : u2 ≡ unit
    same = same2 ∙ same1

    unit_is : u3.id ≡ unit.id
    unit_is = id ∙ ap (λ (u : Unit). u.id) same

    rows : h3 ≡ h0
    rows = (idle (ap (λ (u : Unit). u.service.stage) same ∙ calm.stage)).1 ∙ first

    still2 : Replies r0.queue r2.queue []
    still2 = subst (λ (r : Reach). Replies r0.queue r.queue []) (sym reach) still

    client2 : r2.client ≡ r0.client
    client2 = ap (λ (r : Reach). r.client) reach ∙ client

    shared2 : r2.shared ≡ r0.shared
    shared2 = ap (λ (r : Reach). r.shared) reach ∙ shared

    ready : IsListening u2 r2 link words × FitOneTurn u2 r2 words
    ready = ready_on link unit u1 u2 r0 r1 r2 words calm same1 still client shared same2 reach

    all : HasHeard unit u3 r0 r3 l0 l3 words
    all = heard_on unit u2 u3 r0 r2 r3 l0 l2 l3 [] words (heard_still unit u2 r0 r2 l0 l2 same still2 client2 lines) (hears ready.0 ready.1)

    servable : (request : Request) (rest : List Request) → u3.pending.items ≡ request ∷ rest → IsServable u3 r3 link request rest
    servable request rest is = record {
      alone = calm.calm.alone;
      apart = shared3 ∙ shared2 ∙ calm.calm.apart;
      registered = all.registered ∙ calm.calm.registered;
      pending = is;
      stage = all.stage calm.stage;
      may = λ asked. may_known r0.client r3.client request.address all.window (calm.next (talk_of u3) request rest all.heard is asked);
      slots = slots_left r0.queue r3.queue 1 (replies words) all.place all.partner all.put calm.slots;
    }

-- a turn begins by noting that nothing moved yet
pub rows_from : (unit unit1 : Unit) (queue : EndState) (words : List Word) (rows new : List Served) → talk_of unit1 ≡ talk_of unit → unit1.id ≡ unit.id
    → RowsOn unit1 queue words rows new → RowsOn unit queue words rows new
rows_from unit unit1 queue words rows new talk id is = record {
  adds = λ t request rest heard pending. subst (λ (u : UnitId). AddsFor u request rows new) id
      (is.adds t request rest (subst (λ (from : Talk). HearsAll from (length (taken_now queue)) words t) (sym talk) heard) pending);
  none = λ t heard. is.none t (subst (λ (from : Talk). HearsAll from (length (taken_now queue)) words t) (sym talk) heard);
}

pub unit_rows : {A : Type 0} (link : Bool) (units : List Unit) (n : ℕ) (unit found : Unit) (reach : Reach) (words : List Word) (rows new : List Served)
    (result : Result A NoMemory) → slice_get units n ≡ Some found → slice_get units n ≡ Some unit
    → (IsTurnReady found reach link words → OnOk result (RowsOn found reach.queue words rows new)) → IsTurnReady unit reach link words
    → OnOk result (RowsOn unit reach.queue words rows new)
unit_rows link units n unit found reach words rows new result there at adds =
    subst (λ (u : Unit). IsTurnReady u reach link words → OnOk result (RowsOn u reach.queue words rows new)) (found_same found unit (sym there ∙ at)) adds
