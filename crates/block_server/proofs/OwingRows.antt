-- What the service of the oldest request, and its end, leave of the answers that a unit owes.
use Rattle.std.proofs.Common.{◌≡◌, ◌≢◌, ◌⊎◌, inl, inr, ◌++◌, ◌≤◌, ℕ, true, false, Contains, List, [], ◌∷◌, Some, None, length, slice_get, sym, ◌∙◌, ap, subst}
use Rattle.std.proofs.lemmas.List.{append-nil, length-map}
use Rattle.vio_num.specs.declared.history.Grant.TheVariants.{Granted}
use Rattle.vio_num.specs.declared.history.Served.{Served}
use Rattle.vio_num.specs.declared.names.UnitId.{UnitId}
use Rattle.block_server.specs.Answering.{has_bytes}
use Rattle.block_server.specs.Judged.{AreKept, ArePending, Books, HasGrant, Judged, gets_row}
use Rattle.block_server.specs.Owed.{BeginsRow, HasAnswers, IsAwaited, IsCutOff, IsLossAhead, IsRowInService, MovesRow, Owing, RowState, row_in, row_state, row_states}
use Rattle.block_server.specs.Makers.{same_unit}
use Rattle.block_server.specs.Records.{AnswersRow}
use Rattle.block_server.specs.declared.request.Request.{Request}
use Rattle.block_server.specs.declared.service.Stage.{Stage}
use Rattle.block_server.proofs.Judging.{row_no_login}
use Rattle.block_server.proofs.Owing.{got_row, state_there, none_some, owes_on, push_cases, push_last, set_cases, some_same}

-- ROWS THAT COME

pub moves_same : (id : UnitId) (session : ℕ) (request : Request) (stage stage' : Stage) (rows rows' : List Served) → row_in stage' ≡ row_in stage → row_states rows' ≡ row_states rows
    → MovesRow id session request stage stage' rows rows'
moves_same id session request stage stage' rows rows' stays same = inl (stays, same)

-- One part of a service behind another.
pub moves_on : (id : UnitId) (session session' : ℕ) (request : Request) (a b c : Stage) (rows rows' rows'' : List Served) → session' ≡ session → MovesRow id session request a b rows rows'
    → MovesRow id session' request b c rows' rows'' → MovesRow id session request a c rows rows''
moves_on id session session' request a b c rows rows' rows'' same first next =
    by first (subst (λ (q : ℕ). MovesRow id q request b c rows' rows'') same next)
  where
    count : row_states rows' ≡ row_states rows → length rows' ≡ length rows
    count is = sym (length-map rows' row_state) ∙ ap (λ (xs : List RowState). length xs) is ∙ length-map rows row_state

    by : MovesRow id session request a b rows rows' → MovesRow id session request b c rows' rows'' → MovesRow id session request a c rows rows''
    by (inl stays) (inl then) = inl (then.0 ∙ stays.0, then.1 ∙ stays.1)
    by (inl stays) (inr begins) = inr (record {
      none = sym stays.0 ∙ begins.none;
      at = begins.at ∙ ap Some (count stays.1);
      gets = begins.gets;
      adds = begins.adds ∙ ap (λ (xs : List RowState). xs ++ record { unit = id; session = session; login = request.login; answered = false } ∷ []) stays.1;
    })
    by (inr begins) (inl then) = inr (record { none = begins.none; at = then.0 ∙ begins.at; gets = begins.gets; adds = then.1 ∙ begins.adds })
    by (inr begins) (inr again) = absurd (none_some (length rows) (sym again.none ∙ begins.at))

-- The oldest request that gets a row is under the login that is on.
pub front_under : (books : Books) (judged : List Judged) (request : Request) (rest : List Request) → AreKept books judged → books.pending ≡ request ∷ rest → gets_row request.order ≡ true
    → (request.login ≡ books.current) × (1 ≤ books.current)
front_under books judged request rest is parts gets =
    (subst (ArePending books.current books.next.number books.taking) parts is.pending).0.under (row_no_login request.order gets)

pub owes_moved : (mid new : Owing) (session next : ℕ) (request : Request) (rest : List Request) (rows rows' : List Served) → mid.rows ≡ row_states rows → new.rows ≡ row_states rows'
    → mid.pending ≡ request ∷ rest → session ≡ mid.queue.last_session → (gets_row request.order ≡ true → (request.login ≡ mid.current) × (1 ≤ mid.current))
    → (1 ≤ mid.current → HasGrant mid.id mid.grants session mid.current next)
    → MovesRow mid.id session request mid.stage new.stage rows rows'
    → new.id ≡ mid.id → new.current ≡ mid.current → new.pending ≡ mid.pending → new.ended ≡ mid.ended → new.queue ≡ mid.queue → new.grants ≡ mid.grants
    → HasAnswers mid → HasAnswers new
owes_moved mid new session next request rest rows rows' was now parts in_session under granted moves id current pending ended queue grants has =
    subst (λ (o : Owing). HasAnswers o) (λ i. record {
      id = (sym id) i;
      current = (sym current) i;
      stage = new.stage;
      pending = (sym pending) i;
      ended = (sym ended) i;
      queue = (sym queue) i;
      rows = (sym now) i;
      grants = (sym grants) i;
    }) (by moves)
  where
    stays_at : (at : ℕ) → row_in new.stage ≡ row_in mid.stage → (row_in mid.stage ≡ Some at) ⊎ IsLossAhead mid.queue → (row_in new.stage ≡ Some at) ⊎ IsLossAhead mid.queue
    stays_at at same (inl is) = inl (same ∙ is)
    stays_at at same (inr ahead) = inr ahead

    ahead_only : (at : ℕ) → row_in mid.stage ≡ None → (row_in mid.stage ≡ Some at) ⊎ IsLossAhead mid.queue → (row_in new.stage ≡ Some at) ⊎ IsLossAhead mid.queue
    ahead_only at none (inl is) = absurd (none_some at (sym none ∙ is))
    ahead_only at none (inr ahead) = inr ahead

    old : (at : ℕ) (row : RowState) → ((row_in mid.stage ≡ Some at) ⊎ IsLossAhead mid.queue → (row_in new.stage ≡ Some at) ⊎ IsLossAhead mid.queue)
        → IsCutOff mid.id mid.grants row.session row.login ⊎ IsAwaited mid at row
        → IsCutOff mid.id mid.grants row.session row.login ⊎ IsAwaited (record mid { stage = new.stage; rows = row_states rows' }) at row
    old at row why (inl cut) = inl cut
    old at row why (inr is) = inr (record {
      number = is.number;
      credits = is.credits;
      granted = is.granted;
      session = is.session;
      going = is.going;
      why = why is.why;
    })

    state : RowState
    state = record { unit = mid.id; session = session; login = request.login; answered = false }

    come : BeginsRow mid.id session request mid.stage new.stage rows rows' → (at : ℕ) (row : RowState)
        → (slice_get (row_states rows) at ≡ Some row) ⊎ ((at ≡ length (row_states rows)) × (row ≡ state)) → same_unit row.unit mid.id ≡ true → row.answered ≡ false
        → IsCutOff mid.id mid.grants row.session row.login ⊎ IsAwaited (record mid { stage = new.stage; rows = row_states rows' }) at row
    come begins at row (inl there) own none =
        old at row (ahead_only at begins.none) (has.each at row (ap (λ (xs : List RowState). slice_get xs at) was ∙ there) own none)
    come begins at row (inr last) own none =
        let login = under begins.gets in
        let grant = granted login.1 in
        inr (subst (λ (r : RowState). IsAwaited (record mid { stage = new.stage; rows = row_states rows' }) at r) (sym last.1) (record {
          number = grant.at;
          credits = grant.credits;
          granted = subst (λ (n : ℕ). Contains mid.grants (Granted mid.id session n grant.at grant.credits)) (sym login.0) grant.listed;
          session = in_session;
          going = (has.goes_on login.1).1;
          why = inl (begins.at ∙ ap Some (sym (length-map rows row_state) ∙ sym last.0));
        }))

    by : MovesRow mid.id session request mid.stage new.stage rows rows' → HasAnswers (record mid { stage = new.stage; rows = row_states rows' })
    by (inl stays) = record {
      each = λ at row there own none. old at row (stays_at at stays.0)
          (has.each at row (ap (λ (xs : List RowState). slice_get xs at) (was ∙ sym stays.1) ∙ there) own none);
      serving = λ at is.
          let hand = has.serving at (sym stays.0 ∙ is) in
          record {
            row = hand.row;
            there = ap (λ (xs : List RowState). slice_get xs at) (stays.1 ∙ sym was) ∙ hand.there;
            front = hand.front;
            rest = hand.rest;
            parts = hand.parts;
            gets = hand.gets;
          };
      owed = has.owed;
      goes_on = has.goes_on;
    }
    by (inr begins) = record {
      each = λ at row there own none. come begins at row (push_cases (row_states rows) state at row (ap (λ (xs : List RowState). slice_get xs at) (sym begins.adds) ∙ there)) own none;
      serving = λ at is. record {
        row = state;
        there = subst (λ (n : ℕ). slice_get (row_states rows') n ≡ Some state) (length-map rows row_state ∙ some_same (length rows) at (sym begins.at ∙ is))
            (ap (λ (xs : List RowState). slice_get xs (length (row_states rows))) begins.adds ∙ push_last (row_states rows) state);
        front = request;
        rest = rest;
        parts = parts;
        gets = begins.gets;
      };
      owed = has.owed;
      goes_on = has.goes_on;
    }

-- THE END OF A SERVICE

-- The service ends without an answer, or had no row.
pub owes_dropped : (mid new : Owing) → ((at : ℕ) → row_in mid.stage ≡ Some at → IsLossAhead mid.queue) → new.id ≡ mid.id → new.current ≡ mid.current → row_in new.stage ≡ None
    → new.ended ≡ mid.ended → new.queue ≡ mid.queue → new.rows ≡ mid.rows → new.grants ≡ mid.grants → HasAnswers mid → HasAnswers new
owes_dropped mid new gone id current none ended queue rows grants has =
    owes_on mid new [] id queue ended (grants ∙ sym (append-nil mid.grants))
    (λ at row there lacks. (ap (λ (xs : List RowState). slice_get xs at) (sym rows) ∙ there, gone at)) none (λ some. inl (subst (λ (n : ℕ). 1 ≤ n) current some)) has

-- The row in service gets its answer.
pub owes_answered : (mid new : Owing) (place : ℕ) (answer : List ℕ) (rows rows' : List Served) → mid.rows ≡ row_states rows → new.rows ≡ row_states rows' → row_in mid.stage ≡ Some place
    → has_bytes answer ≡ true → AnswersRow rows rows' place answer → new.id ≡ mid.id → new.current ≡ mid.current → row_in new.stage ≡ None → new.ended ≡ mid.ended
    → new.queue ≡ mid.queue → new.grants ≡ mid.grants → HasAnswers mid → HasAnswers new
owes_answered mid new place answer rows rows' was now serving some answers id current none ended queue grants has =
    owes_on mid new [] id queue ended (grants ∙ sym (append-nil mid.grants))
    (λ at row there lacks. found at row (got_row rows' at row (ap (λ (xs : List RowState). slice_get xs at) (sym now) ∙ there)) lacks) none
    (λ some. inl (subst (λ (n : ℕ). 1 ≤ n) current some)) has
  where
    hand : IsRowInService mid place
    hand = has.serving place serving

    old : (row : Served) × ((slice_get rows place ≡ Some row) × (row_state row ≡ hand.row))
    old = got_row rows place hand.row (ap (λ (xs : List RowState). slice_get xs place) (sym was) ∙ hand.there)

    found : (at : ℕ) (row : RowState) → (r : Served) × ((slice_get rows' at ≡ Some r) × (row_state r ≡ row)) → row.answered ≡ false
        → (slice_get mid.rows at ≡ Some row) × (row_in mid.stage ≡ Some at → IsLossAhead mid.queue)
    found at row got lacks = by (set_cases rows place at (record old.0 { answer = answer }) got.0 (ap (λ (xs : List Served). slice_get xs at) (sym (answers old.0 old.1.0)) ∙ got.1.0))
      where
        by : (got.0 ≡ record old.0 { answer = answer }) ⊎ ((at ≢ place) × (slice_get rows at ≡ Some got.0))
            → (slice_get mid.rows at ≡ Some row) × (row_in mid.stage ≡ Some at → IsLossAhead mid.queue)
        by (inl is) = absurd (cc (ap (λ (m : RowState). m.answered) (sym got.1.1), ap (λ (r : Served). has_bytes r.answer) is, some, lacks))
        by (inr other) = (
          ap (λ (xs : List RowState). slice_get xs at) was ∙ state_there rows at got.0 other.1 ∙ ap Some got.1.1,
          λ is. absurd (other.0 (some_same at place (sym is ∙ serving))),
        )
