-- Laws of the answers that a unit owes, for the crates above: they stay over turns of other units and over what the client does,
-- and where nothing is pending and no event is on its way each row has its answer, or is cut off.
use Rattle.std.proofs.Common.{◌≡◌, ◌≢◌, ◌⊎◌, inl, inr, ◌++◌, ℕ, zero, suc, Bool, true, false, All, List, [], ◌∷◌, Option, Some, IfSome, slice_get, refl, sym, ◌∙◌, ap, subst}
use Rattle.std.proofs.lemmas.Option.{IfSome_then}
use Rattle.std.proofs.lemmas.List.Elements.{All-cons, All-head, All-nil, All-tail, Contains-append_left}
use Rattle.vio_num.specs.declared.history.Grant.TheVariants.{Granted}
use Rattle.crq_session.specs.EndState.{EndState}
use Rattle.vio_num.specs.declared.history.Grant.{Grant}
use Rattle.vio_num.specs.declared.history.Served.{Served}
use Rattle.vio_num.specs.declared.names.UnitId.{UnitId}
use Rattle.block_server.specs.Answering.{OnlyRowsOf, StaysRow, has_bytes}
use Rattle.block_server.specs.Makers.{same_unit}
use Rattle.block_server.specs.Owed.{HasAnswers, HaveAnswers, IsAwaited, IsCutOff, IsGiven, IsLossAhead, OweNone, Owing, RowState, SeesAnswers, row_state, row_states, owing_seen, row_in}
use Rattle.block_server.specs.Receipts.{LinesMore}
use Rattle.block_server.specs.declared.request.Request.{Request}
use Rattle.block_server.specs.declared.service.Stage.TheVariants.{Start}
use Rattle.block_server.specs.declared.unit.Unit.{Unit}
use Rattle.block_server.proofs.BookLaws.{apart_is}
use Rattle.block_server.proofs.Owing.{cut_more, has_cut, state_there, none_some, owes_seen}

-- The client did something at its end of the link.
pub answers_seen : (units units' : List Unit) (unit : ℕ) (id : UnitId) (queue queue' : EndState) (history : List Served) (grants : List Grant) → slice_get units' unit ≡ slice_get units unit
    → SeesAnswers queue queue' → HaveAnswers units unit id queue history grants → HaveAnswers units' unit id queue' history grants
answers_seen units units' unit id queue queue' history grants same sees has =
    subst (λ (o : Option Unit). IfSome o (λ u. HasAnswers (owing_seen u id queue' history grants))) (sym same)
    (IfSome_then (slice_get units unit) has
    (λ u is. owes_seen (owing_seen u id queue history grants) (owing_seen u id queue' history grants) sees refl refl refl refl refl refl refl is))

-- ROWS AND LINES OF OTHERS

-- the rows of a unit stay where they are as others' change
record Stay (id : UnitId) (states states' : List RowState) : Type 0 where
  back : (at : ℕ) (row : RowState) → slice_get states' at ≡ Some row → same_unit row.unit id ≡ true → slice_get states at ≡ Some row
  there : (at : ℕ) (row : RowState) → slice_get states at ≡ Some row → (new : RowState) × (slice_get states' at ≡ Some new)

came : (id other : UnitId) (rows : List Served) (at : ℕ) (row : RowState) → other ≢ id → All (λ (r : Served). r.unit ≡ other) rows → slice_get (row_states rows) at ≡ Some row
    → same_unit row.unit id ≡ true → ⊥
came id other [] at row apart all there own = none_some row there
came id other (first ∷ rows) zero row apart all there own =
    let is : first.unit ≡ other = All-head (λ (r : Served). r.unit ≡ other) first rows all in
    let same : row_state first ≡ row = cc (there) in
    absurd (cc (own, apart_is row.unit id (λ e. apart (sym is ∙ ap (λ (m : RowState). m.unit) same ∙ e))))
came id other (first ∷ rows) (suc at) row apart all there own = came id other rows at row apart (All-tail (λ (r : Served). r.unit ≡ other) first rows all) there own

row_stays : (id other : UnitId) (row new : Served) (rows news : List Served) → other ≢ id → StaysRow other row new → Stay id (row_states rows) (row_states news)
    → Stay id (row_states (row ∷ rows)) (row_states (new ∷ news))
row_stays id other row new rows news apart only rest = record {
  back = λ at state there own. back at state there own;
  there = λ at state there. found at state there;
}
  where
    front : (state : RowState) → StaysRow other row new → Some (row_state new) ≡ Some state → same_unit state.unit id ≡ true → Some (row_state row) ≡ Some state
    front state (inl same) there own = ap (λ (r : Served). Some (row_state r)) (sym same) ∙ there
    front state (inr both) there own =
        let same : row_state new ≡ state = cc (there) in
        absurd (cc (own, apart_is state.unit id (λ e. apart (sym both.is ∙ ap (λ (m : RowState). m.unit) same ∙ e))))

    back : (at : ℕ) (state : RowState) → slice_get (row_states (new ∷ news)) at ≡ Some state → same_unit state.unit id ≡ true → slice_get (row_states (row ∷ rows)) at ≡ Some state
    back zero state there own = front state only there own
    back (suc at) state there own = rest.back at state there own

    found : (at : ℕ) (state : RowState) → slice_get (row_states (row ∷ rows)) at ≡ Some state → (m : RowState) × (slice_get (row_states (new ∷ news)) at ≡ Some m)
    found zero state there = (row_state new, refl)
    found (suc at) state there = rest.there at state there

rows_stay : (id other : UnitId) (rows news : List Served) → other ≢ id → OnlyRowsOf other rows news → Stay id (row_states rows) (row_states news)
rows_stay id other [] news apart only = record {
  back = λ at row there own. absurd (came id other news at row apart only there own);
  there = λ at row there. absurd (none_some row there);
}
rows_stay id other (row ∷ rows) [] apart only = absurd only
rows_stay id other (row ∷ rows) (new ∷ news) apart only = row_stays id other row new rows news apart only.0 (rows_stay id other rows news apart only.1)

-- A unit's answers stay over them.
stays : (owing : Owing) (rows : List RowState) (more : List Grant) → Stay owing.id owing.rows rows → HasAnswers owing → HasAnswers (record owing { rows = rows; grants = owing.grants ++ more })
stays owing rows more stay has = record {
  each = λ at row there own none. by at row (has.each at row (stay.back at row there own) own none);
  serving = λ at is.
      let hand = has.serving at is in
      let still = stay.there at hand.row hand.there in
      record { row = still.0; there = still.1; front = hand.front; rest = hand.rest; parts = hand.parts; gets = hand.gets };
  owed = has.owed;
  goes_on = has.goes_on;
}
  where
    by : (at : ℕ) (row : RowState) → IsCutOff owing.id owing.grants row.session row.login ⊎ IsAwaited owing at row
        → IsCutOff owing.id (owing.grants ++ more) row.session row.login ⊎ IsAwaited (record owing { rows = rows; grants = owing.grants ++ more }) at row
    by at row (inl cut) = inl (cut_more owing.id owing.grants more row.session row.login cut)
    by at row (inr is) = inr (record {
      number = is.number;
      credits = is.credits;
      granted = Contains-append_left owing.grants more (Granted owing.id row.session row.login is.number is.credits) is.granted;
      session = is.session;
      going = is.going;
      why = is.why;
    })

-- A turn of another unit: only rows and lines of its own came, or changed.
pub answers_elsewhere : {granted : ℕ} (units units' : List Unit) (unit : ℕ) (other id : UnitId) (queue queue' : EndState) (history history' : List Served) (grants grants' : List Grant)
    → other ≢ id → slice_get units' unit ≡ slice_get units unit → SeesAnswers queue queue' → OnlyRowsOf other history history' → LinesMore other granted grants grants'
    → HaveAnswers units unit id queue history grants → HaveAnswers units' unit id queue' history' grants'
answers_elsewhere units units' unit other id queue queue' history history' grants grants' apart same sees rows lines has =
    answers_seen units units' unit id queue queue' history' grants' same sees
    (subst (λ (all : List Grant). HaveAnswers units unit id queue history' all) (sym lines.added)
    (IfSome_then (slice_get units unit) has
    (λ u is. stays (owing_seen u id queue history grants) (row_states history') lines.more (rows_stay id other history history' apart rows) is)))

-- AT REST

-- Nothing is pending, and no event is on its way.
pub answers_at_rest : (units : List Unit) (unit : ℕ) (u : Unit) (id : UnitId) (queue : EndState) (history : List Served) (grants : List Grant) → slice_get units unit ≡ Some u
    → u.pending.items ≡ [] → ¬ IsLossAhead queue → HaveAnswers units unit id queue history grants → All (IsGiven id grants) history
answers_at_rest units unit u id queue history grants there none quiet has = every history (λ at row. given at row)
  where
    is : HasAnswers (owing_seen u id queue history grants)
    is = subst (λ (o : Option Unit). IfSome o (λ u. HasAnswers (owing_seen u id queue history grants))) there has

    no_hand : (at : ℕ) → row_in u.service.stage ≡ Some at → ⊥
    no_hand at serving = let hand = is.serving at serving in some_pending hand.front hand.rest hand.parts
      where
        some_pending : (front : Request) (rest : List Request) → u.pending.items ≡ front ∷ rest → ⊥
        some_pending front rest parts = absurd (cc (parts, none))

    cut : (at : ℕ) (row : RowState) → IsCutOff id grants row.session row.login ⊎ IsAwaited (owing_seen u id queue history grants) at row → IsCutOff id grants row.session row.login
    cut at row (inl is) = is
    cut at row (inr awaited) = why awaited.why
      where
        why : (row_in u.service.stage ≡ Some at) ⊎ IsLossAhead queue → IsCutOff id grants row.session row.login
        why (inl serving) = absurd (no_hand at serving)
        why (inr ahead) = absurd (quiet ahead)

    given : (at : ℕ) (row : Served) → slice_get history at ≡ Some row → IsGiven id grants row
    given at row in_place own = by (has_bytes row.answer) refl
      where
        by : (b : Bool) → has_bytes row.answer ≡ b → (has_bytes row.answer ≡ true) ⊎ IsCutOff id grants row.session row.login
        by true some = inl some
        by false lacks = inr (cut at (row_state row) (is.each at (row_state row) (state_there history at row in_place) own lacks))

    every : (rows : List Served) → ((at : ℕ) (row : Served) → slice_get rows at ≡ Some row → IsGiven id grants row) → All (IsGiven id grants) rows
    every [] each = All-nil (IsGiven id grants)
    every (row ∷ rows) each = All-cons (IsGiven id grants) row rows (each zero row refl) (every rows (λ at row there. each (suc at) row there))

-- Units that served nothing.
pub none_owe : (units : List Unit) → units ≡ [] → OweNone units
none_owe units none = subst OweNone (sym none) (λ number id queue. tt)

pub more_owe : (units : List Unit) (new : Unit) → OweNone units → new.logins.current ≡ 0 → new.service.stage ≡ Start → OweNone (units ++ new ∷ [])
more_owe units new all current stage = at units all
  where
    fresh : (id : UnitId) (queue : EndState) → HasAnswers (owing_seen new id queue [] [])
    fresh id queue = has_cut (owing_seen new id queue [] []) current (ap row_in stage) (λ at row there own none. absurd (none_some row there))

    at : (units : List Unit) → OweNone units → OweNone (units ++ new ∷ [])
    at [] all zero id queue = fresh id queue
    at [] all (suc n) id queue = tt
    at (first ∷ units) all zero id queue = all zero id queue
    at (first ∷ units) all (suc n) id queue = at units (λ m id queue. all (suc m) id queue) n id queue
