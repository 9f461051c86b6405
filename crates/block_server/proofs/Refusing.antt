-- What the parts of a turn leave of why a unit's sessions end as refused.
use Rattle.std.proofs.Common.{◌≡◌, ◌⊎◌, ◌==◌, ◌||◌, ◌++◌, ℕ, suc, zero, Bool, true, false, List, [], ◌∷◌, Option, Some, None, IfSome, All, length, drop, slice_get, slice_set, refl, sym, ◌∙◌, ap, subst, arith, append-nil, append_assoc, length-append, inl, inr}
use Rattle.std.proofs.lemmas.List.{get_or_push}
use Rattle.std.proofs.lemmas.List.Elements.{All-nil, All-cons, All-append, All-drop, All-head, All-push, All-weaker}
use Rattle.std.proofs.lemmas.Option.{slice_get-get_or}
use Rattle.crq_ring.specs.Sessions.{of_session}
use Rattle.crq_ring.specs.declared.rows.PipeRow.{PipeRow}
use Rattle.crq_ring.proofs.SessionLaws.{of_session-push}
use Rattle.crq_session.specs.EndState.{EndState}
use Rattle.vio_num.specs.Entry.{is_srp_entry, iu_address, iu_length}
use Rattle.vio_num.specs.Words.{Begins}
use Rattle.vio_num.specs.declared.entry.Entry.{Entry}
use Rattle.vio_num.specs.declared.history.Grant.{Grant}
use Rattle.vio_num.specs.declared.history.Grant.TheVariants.{Granted, Lapsed}
use Rattle.vio_num.specs.declared.history.Lapse.{Lapse}
use Rattle.vio_num.specs.declared.history.Lapse.TheVariants as lapses
use Rattle.vio_num.specs.declared.names.UnitId.{UnitId}
use Rattle.block_server.specs.Causes.{Hearing, Told, told_to, units_at}
use Rattle.block_server.specs.Causes.News.{delivered, denied, fetched}
use Rattle.block_server.specs.Decided.{Decides, IsCause, StaysOn}
use Rattle.block_server.specs.Entries.{is_answer_len, is_response_len, login_rej_len, login_rsp_len}
use Rattle.block_server.specs.Granting.{HasOffer, IsGrantedOver, IsOfferedOver, IsSrpAt}
use Rattle.block_server.specs.Heard.{TellsAll}
use Rattle.block_server.specs.Moves.{Passes}
use Rattle.block_server.specs.Receipts.{Standing, TakesEntry, standing_of}
use Rattle.tce_window.specs.declared.answers.Right.TheVariants.{Read, Write}
use Rattle.block_server.specs.Refusals.{AreExplained, Basis, DeniesAnswer, HasEntry, IsExplained, HasExplained, IsNotRead, IsNotWritten, ExplainNone, basis_seen}
use Rattle.block_server.specs.Orders.{IsOrder}
use Rattle.block_server.specs.Serving.{AreBrought, Desk, Held, IsServing, Once, Terms}
use Rattle.block_server.specs.SiteState.{IsDeniedBetween, SiteState}
use Rattle.block_server.specs.Stage.{fits}
use Rattle.block_server.specs.declared.intake.Verdict.{Verdict}
use Rattle.block_server.specs.declared.intake.Verdict.TheVariants.{Fatal}
use Rattle.block_server.specs.declared.logins.Logins.{Logins}
use Rattle.block_server.specs.declared.records.Records.{Records}
use Rattle.block_server.specs.declared.request.Arrival.{Arrival}
use Rattle.block_server.specs.declared.request.Order.{Order}
use Rattle.block_server.specs.declared.request.Request.{Request}
use Rattle.block_server.specs.declared.service.Outcome.{Outcome}
use Rattle.block_server.specs.declared.service.Outcome.TheVariants as outcomes
use Rattle.block_server.specs.declared.service.Stage.{Stage}
use Rattle.block_server.specs.declared.service.Stage.TheVariants as stages
use Rattle.block_server.specs.declared.unit.Unit.{Unit}
use Rattle.srp_iu.specs.Grammar.{Spells}
use Rattle.srp_iu.specs.declared.unit.Iu.TheVariants as ius
use Rattle.vio_num.specs.declared.history.Served.{Served}
use Rattle.block_server.proofs.Agreeing.{if_at, some_at}
use Rattle.block_server.proofs.LoginPuts.{granted_more, srp_more}
use Rattle.block_server.proofs.Units.{get_set_same}

refusal_more : (Hears : Hearing) (unit : UnitId) (old new : List PipeRow) → Begins old new → (line : Grant) → IsExplained Hears unit old line → IsExplained Hears unit new line
refusal_more Hears unit old new more (Granted of session login number credits) is = λ own. granted_more Hears old new session number credits more (is own)
refusal_more Hears unit old new more (Lapsed of session login lapses.Logout outstanding granted) is = tt
refusal_more Hears unit old new more (Lapsed of session login lapses.Lost outstanding granted) is = tt
refusal_more Hears unit old new more (Lapsed of session login lapses.Early outstanding granted) is = tt
refusal_more Hears unit old new more (Lapsed of session login lapses.BadIu outstanding granted) is = tt
refusal_more Hears unit old new more (Lapsed of session login lapses.NotLogin outstanding granted) is = tt
refusal_more Hears unit old new more (Lapsed of session login lapses.OverLimit outstanding granted) is = tt
refusal_more Hears unit old new more (Lapsed of session login lapses.Refused outstanding granted) is = λ own. side (is own)
  where
    side : IsNotRead Hears old session ⊎ IsNotWritten Hears old session → IsNotRead Hears new session ⊎ IsNotWritten Hears new session
    side (inl read) = inl (record { number = read.number; entry = read.entry; at = srp_more old new session read.number read.entry more read.at; fault = read.fault; told = read.told })
    side (inr write) = inr (record {
      number = write.number;
      entry = write.entry;
      at = srp_more old new session write.number write.entry more write.at;
      len = write.len;
      answers = write.answers;
      fault = write.fault;
      told = write.told;
    })

-- WHAT IS KEPT BETWEEN TURNS ----------------------------------------------------------------------

-- it stays known, whatever was told
abbrev Knows : (old new : Basis) → Type 0
Knows old new = (told : Told → Bool) (unit : UnitId) (since : List Grant) → AreExplained told unit since old → AreExplained told unit since new

-- Nothing of it changed.
pub known_same : (old new : Basis) → new.session ≡ old.session → new.taken ≡ old.taken → new.waiting ≡ old.waiting → new.pending ≡ old.pending → new.ended ≡ old.ended
    → new.lines ≡ old.lines → Knows old new
known_same old new session taken waiting pending ended lines = λ told unit since is. subst (AreExplained told unit since) (sym same) is
  where
    same : new ≡ old
    same = λ i. record { session = session i; taken = taken i; waiting = waiting i; pending = pending i; ended = ended i; lines = lines i }

-- Some of the oldest requests are pending no more, and lines came that have their causes.
pub known_left : (told : Told → Bool) (unit : UnitId) (since : List Grant) (old new : Basis) (n : ℕ) (lines : List Grant) → new.session ≡ old.session → new.taken ≡ old.taken
    → new.waiting ≡ old.waiting → new.ended ≡ old.ended → new.pending ≡ drop n old.pending → new.lines ≡ old.lines ++ lines → All (IsExplained (told_to told unit) unit old.taken) lines
    → AreExplained told unit since old → AreExplained told unit since new
known_left told unit since old new n lines session taken waiting ended pending more causes is =
    let mid = record old { pending = drop n old.pending; lines = old.lines ++ lines } in
    known_same mid new session taken waiting pending ended more told unit since (record {
      waits = is.waits;
      pending = All-drop (HasEntry old.taken old.session) n old.pending is.pending;
      idle = λ over. ((is.idle over).0, drop_none n old.pending (is.idle over).1);
      more = is.more ++ lines;
      lines = ap (λ front. front ++ lines) is.lines ∙ append_assoc since is.more lines;
      each = All-append (IsExplained (told_to told unit) unit old.taken) is.more lines is.each causes;
    })
  where
    drop_none : (n : ℕ) (requests : List Request) → requests ≡ [] → drop n requests ≡ []
    drop_none zero requests empty = empty
    drop_none (suc n) requests empty = ap (drop (suc n)) empty

-- The login ended, and a line says why.
pub known_ended : (told : Told → Bool) (unit : UnitId) (since : List Grant) (old new : Basis) (line : Grant) → new.session ≡ old.session → new.taken ≡ old.taken
    → new.waiting ≡ None → new.pending ≡ [] → new.lines ≡ old.lines ++ line ∷ [] → IsExplained (told_to told unit) unit old.taken line
    → AreExplained told unit since old → AreExplained told unit since new
known_ended told unit since old new line session taken waiting pending more cause is = record {
  waits = subst (λ w. IfSome w (λ arrival. IsSrpAt new.taken new.session arrival.number arrival.entry)) (sym waiting) tt;
  pending = subst (All (HasEntry new.taken new.session)) (sym pending) (All-nil (HasEntry new.taken new.session));
  idle = λ over. (waiting, pending);
  more = is.more ++ line ∷ [];
  lines = more ∙ ap (λ front. front ++ line ∷ []) is.lines ∙ append_assoc since is.more (line ∷ []);
  each = subst (λ rows. All (IsExplained (told_to told unit) unit rows) (is.more ++ line ∷ [])) (sym taken) (All-push (IsExplained (told_to told unit) unit old.taken) is.more line is.each cause);
}

-- A session begins, or ended before: nothing is pending.
pub known_begun : (old new : Basis) → old.ended ≡ true → new.taken ≡ old.taken → new.waiting ≡ old.waiting → new.pending ≡ old.pending → new.lines ≡ old.lines → Knows old new
known_begun old new over taken waiting pending lines = λ told unit since is.
    let none = is.idle over in
    let waits = waiting ∙ none.0 in
    let empty = pending ∙ none.1 in
    record {
      waits = subst (λ w. IfSome w (λ arrival. IsSrpAt new.taken new.session arrival.number arrival.entry)) (sym waits) tt;
      pending = subst (All (HasEntry new.taken new.session)) (sym empty) (All-nil (HasEntry new.taken new.session));
      idle = λ over. (waits, empty);
      more = is.more;
      lines = lines ∙ is.lines;
      each = subst (λ rows. All (IsExplained (told_to told unit) unit rows) is.more) (sym taken) is.each;
    }

-- Entries were taken, and none of them waits.
pub known_taken : (old new : Basis) → new.session ≡ old.session → Begins old.taken new.taken → new.waiting ≡ old.waiting → new.pending ≡ old.pending → new.ended ≡ old.ended
    → new.lines ≡ old.lines → Knows old new
known_taken old new session taken waiting pending ended lines = λ told unit since is.
    known_same (record old { taken = new.taken }) new session refl waiting pending ended lines told unit since (record {
      waits = waits_more old.waiting is.waits;
      pending = All-weaker (HasEntry old.taken old.session) (HasEntry new.taken old.session)
          (λ request has. record { entry = has.entry; at = srp_more old.taken new.taken old.session request.number has.entry taken has.at; address = has.address; long = has.long }) old.pending is.pending;
      idle = is.idle;
      more = is.more;
      lines = is.lines;
      each = All-weaker (IsExplained (told_to told unit) unit old.taken) (IsExplained (told_to told unit) unit new.taken) (refusal_more (told_to told unit) unit old.taken new.taken taken) is.more is.each;
    })
  where
    waits_more : (waiting : Option Arrival) → IfSome waiting (λ arrival. IsSrpAt old.taken old.session arrival.number arrival.entry)
        → IfSome waiting (λ arrival. IsSrpAt new.taken old.session arrival.number arrival.entry)
    waits_more None is = tt
    waits_more (Some arrival) is = srp_more old.taken new.taken old.session arrival.number arrival.entry taken is

-- An SRP entry was taken, and waits.
pub known_entry : (old new : Basis) (before after : SiteState) (arrival : Arrival) → TakesEntry before after arrival.number arrival.entry → is_srp_entry arrival.entry ≡ true
    → old.session ≡ before.queue.last_session → old.taken ≡ before.queue.taken → old.ended ≡ false → new.session ≡ after.queue.last_session → new.taken ≡ after.queue.taken
    → new.waiting ≡ Some arrival → new.pending ≡ old.pending → new.ended ≡ old.ended → new.lines ≡ old.lines → Knows old new
known_entry old new before after arrival taken srp was_session was_taken going session now_taken waits pending ended lines = λ told unit since is.
    let row : PipeRow = record { session = before.queue.last_session; entry = arrival.entry } in
    let grown : new.taken ≡ old.taken ++ row ∷ [] = now_taken ∙ taken.taken ∙ ap (λ front. front ++ row ∷ []) (sym was_taken) in
    let all = known_taken (record old { waiting = None }) (record new { waiting = None }) (session ∙ taken.session ∙ sym was_session) (row ∷ [], grown) refl pending ended lines told unit since
    (record { waits = tt; pending = is.pending; idle = λ over. (refl, (is.idle over).1); more = is.more; lines = is.lines; each = is.each }) in
    let found : slice_get (of_session new.session new.taken) arrival.number ≡ Some arrival.entry =
    ap (λ n. slice_get (of_session n new.taken) arrival.number) (session ∙ taken.session)
    ∙ ap (λ rows. slice_get (of_session before.queue.last_session rows) arrival.number) (now_taken ∙ taken.taken)
    ∙ ap (λ xs. slice_get xs arrival.number) (of_session-push row before.queue.taken)
    ∙ last_of (of_session before.queue.last_session before.queue.taken) arrival.entry arrival.number taken.number_is in
    record {
      waits = subst (λ w. IfSome w (λ a. IsSrpAt new.taken new.session a.number a.entry)) (sym waits) (record { there = found; srp = srp });
      pending = all.pending;
      idle = λ over. absurd (apart new.ended (ended ∙ going) over);
      more = all.more;
      lines = all.lines;
      each = all.each;
    }
  where
    last_of : (xs : List Entry) (x : Entry) (n : ℕ) → n ≡ length xs → slice_get (xs ++ x ∷ []) n ≡ Some x
    last_of xs x n is = slice_get-get_or (xs ++ x ∷ []) n x (omega (arith, is, length-append xs (x ∷ []))) ∙ ap Some (get_or_push xs x x n (sym is))

    apart : (b : Bool) → b ≡ false → b ≡ true → ⊥
    apart b is other = cc (is, other)

-- A request that came by an entry is pending behind those that are.
pub known_pushed : (old new : Basis) (request : Request) (entry : Entry) → old.ended ≡ false → IsSrpAt old.taken old.session request.number entry → request.address ≡ iu_address entry
    → length request.unit.items ≡ iu_length entry → new.session ≡ old.session → new.taken ≡ old.taken → new.waiting ≡ old.waiting → new.ended ≡ old.ended → new.lines ≡ old.lines → new.pending ≡ old.pending ++ request ∷ []
    → Knows old new
known_pushed old new request entry going found at long session taken waiting ended lines pushed = λ told unit since is.
    known_same (record old { pending = old.pending ++ request ∷ [] }) new session taken waiting pushed ended lines told unit since (record {
      waits = is.waits;
      pending = All-push (HasEntry old.taken old.session) old.pending request is.pending (record { entry = entry; at = found; address = at; long = long });
      idle = λ over. absurd (apart old.ended going over);
      more = is.more;
      lines = is.lines;
      each = is.each;
    })
  where
    apart : (b : Bool) → b ≡ false → b ≡ true → ⊥
    apart b is other = cc (is, other)

-- what is copied as an answer has the length of one
pub fits_answer : (outcome : Outcome) (n : ℕ) → fits outcome n ≡ true → is_answer_len n ≡ true
fits_answer (outcomes.Granted number) n is = middle (is_response_len n) (n == login_rsp_len) (n == login_rej_len) is
  where
    middle : (a b c : Bool) → b ≡ true → a || (b || c) ≡ true
    middle true b c is = refl
    middle false b c is = rw is refl
fits_answer outcomes.Rejected n is = last (is_response_len n) (n == login_rsp_len) (n == login_rej_len) is
  where
    last : (a b c : Bool) → c ≡ true → a || (b || c) ≡ true
    last true b c is = refl
    last false true c is = refl
    last false false c is = is
fits_answer (outcomes.Served row) n is = rw is refl

-- What is decided of an information unit that was fetched is no refusal.
pub decided_cause : (Hears : Hearing) (unit of : UnitId) (taken : List PipeRow) (session login : ℕ) (old new : Logins) (bytes : List ℕ) (verdict : Verdict)
    (cause : Lapse) (outstanding granted : ℕ) → verdict ≡ Fatal cause outstanding granted → Decides old new bytes verdict
    → IsExplained Hears unit taken (Lapsed of session login cause outstanding granted)
decided_cause Hears unit of taken session login old new bytes verdict cause outstanding granted is decides =
    let why : StaysOn old new × IsCause old bytes cause outstanding granted = subst (Decides old new bytes) is decides in
    at cause why.1
  where
    at : (cause : Lapse) → IsCause old bytes cause outstanding granted → IsExplained Hears unit taken (Lapsed of session login cause outstanding granted)
    at lapses.Logout why = tt
    at lapses.Lost why = tt
    at lapses.Early why = tt
    at lapses.BadIu why = tt
    at lapses.NotLogin why = tt
    at lapses.OverLimit why = tt
    at lapses.Refused why = absurd why

-- The window denied to have the answer to the oldest request written.
pub denied_answer : (told : Told → Bool) (unit : UnitId) (since : List Grant) (basis : Basis) (old new : SiteState) (of : UnitId) (session login : ℕ) → session ≡ basis.session
    → DeniesAnswer old new basis.pending → TellsAll told unit old new → AreExplained told unit since basis
    → IsExplained (told_to told unit) unit basis.taken (Lapsed of session login lapses.Refused 0 0)
denied_answer told unit since basis old new of session login same denies all is = λ own.
    let has : HasEntry basis.taken basis.session denies.front =
    All-head (HasEntry basis.taken basis.session) denies.front denies.rest (subst (All (HasEntry basis.taken basis.session)) denies.parts is.pending) in
    inr (record {
      number = denies.front.number;
      entry = has.entry;
      at = subst (λ (n : ℕ). IsSrpAt basis.taken n denies.front.number has.entry) (sym same) has.at;
      len = denies.len;
      answers = denies.answers;
      fault = denies.denied_is.fault;
      told = subst (λ (n : ℕ). told_to told unit (denied Write n denies.len denies.denied_is.fault)) has.address
          (all (denied Write denies.front.address denies.len denies.denied_is.fault) denies.denied_is.denied_is);
    })

-- what is so of the entry that waits
pub waits_at : (told : Told → Bool) (unit : UnitId) (since : List Grant) (basis : Basis) (arrival : Arrival) → basis.waiting ≡ Some arrival → AreExplained told unit since basis
    → IsSrpAt basis.taken basis.session arrival.number arrival.entry
waits_at told unit since basis arrival waits is = subst (λ w. IfSome w (λ a. IsSrpAt basis.taken basis.session a.number a.entry)) waits is.waits

pub waits_open : (told : Told → Bool) (unit : UnitId) (since : List Grant) (basis : Basis) (arrival : Arrival) → basis.waiting ≡ Some arrival → AreExplained told unit since basis
    → basis.ended ≡ false
waits_open told unit since basis arrival waits is = by basis.ended (λ over. none_some (sym (is.idle over).0 ∙ waits))
  where
    none_some : None ≡ Some arrival → ⊥
    none_some same = cc (same)

    by : (b : Bool) → (b ≡ true → ⊥) → b ≡ false
    by true none = absurd (none refl)
    by false none = refl

-- It waits no more.
pub known_apart : (told : Told → Bool) (unit : UnitId) (since : List Grant) (basis : Basis) → AreExplained told unit since basis → AreExplained told unit since (record basis { waiting = None })
known_apart told unit since basis is =
    record { waits = tt; pending = is.pending; idle = λ over. (refl, (is.idle over).1); more = is.more; lines = is.lines; each = is.each }

-- The window denied to have the information unit of the entry that waits read.
pub denied_unit : (told : Told → Bool) (unit : UnitId) (since : List Grant) (basis : Basis) (old new : SiteState) (of : UnitId) (session login address len : ℕ) (arrival : Arrival)
    → session ≡ basis.session → basis.waiting ≡ Some arrival → address ≡ iu_address arrival.entry → len ≡ iu_length arrival.entry → IsDeniedBetween old new Read address len
    → TellsAll told unit old new → AreExplained told unit since basis → IsExplained (told_to told unit) unit basis.taken (Lapsed of session login lapses.Refused 0 0)
denied_unit told unit since basis old new of session login address len arrival same waits at long denies all is = λ own.
    inl (record {
      number = arrival.number;
      entry = arrival.entry;
      at = subst (λ (n : ℕ). IsSrpAt basis.taken n arrival.number arrival.entry) (sym same) (waits_at told unit since basis arrival waits is);
      fault = denies.fault;
      told = subst (λ (z : ℕ × ℕ). told_to told unit (denied Read z.0 z.1 denies.fault)) (λ i. (at i, long i)) (all (denied Read address len denies.fault) denies.denied_is);
    })

-- A turn of the unit.
pub refuses_turn : (told : Told → Bool) (units : List Unit) (n : ℕ) (u u' : Unit) (unit : UnitId) (queue queue' : EndState) (since grants grants' : List Grant) → slice_get units n ≡ Some u
    → (AreExplained told unit since (basis_seen u queue grants) → AreExplained told unit since (basis_seen u' queue' grants'))
    → HasExplained told units n unit queue since grants → HasExplained told (slice_set units n u') n unit queue' since grants'
refuses_turn told units n u u' unit queue queue' since grants grants' there step has =
    if_at (slice_get (slice_set units n u') n) u' (λ x. AreExplained told unit since (basis_seen x queue' grants')) (get_set_same units n u u' there)
    (step (some_at (slice_get units n) u (λ x. AreExplained told unit since (basis_seen x queue grants)) there has))

-- No unit, and one more of which nothing waits and nothing is pending.
pub none_refuse : (units : List Unit) → units ≡ [] → ExplainNone units
none_refuse units empty = subst ExplainNone (sym empty) (λ told number unit queue grants. tt)

pub more_refuse : (units : List Unit) (u : Unit) → ExplainNone units → u.waiting ≡ None → u.pending.items ≡ [] → ExplainNone (units ++ u ∷ [])
more_refuse units u all none empty = λ told number unit queue grants. at told number unit queue grants units (all told number unit queue grants)
  where
    at : (told : Told → Bool) (number : ℕ) (unit : UnitId) (queue : EndState) (grants : List Grant) (units : List Unit) → HasExplained told units number unit queue grants grants
        → HasExplained told (units ++ u ∷ []) number unit queue grants grants
    at told zero unit queue grants [] has = record {
      waits = subst (λ w. IfSome w (λ arrival. IsSrpAt queue.taken queue.last_session arrival.number arrival.entry)) (sym none) tt;
      pending = subst (All (HasEntry queue.taken queue.last_session)) (sym empty) (All-nil (HasEntry queue.taken queue.last_session));
      idle = λ over. (none, empty);
      more = [];
      lines = sym (append-nil grants);
      each = All-nil (IsExplained (told_to told unit) unit queue.taken);
    }
    at told (suc number) unit queue grants [] has = tt
    at told zero unit queue grants (first ∷ units) has = has
    at told (suc number) unit queue grants (first ∷ units) has = at told number unit queue grants units has
