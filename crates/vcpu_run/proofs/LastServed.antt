-- Over a turn of the server unit, and over what its client's side does: the answers of a login that goes on are of the client's present session.
use Rattle.std.proofs.Common.{◌≡◌, ◌⊎◌, inl, inr, ◌∙◌, ◌+◌, ◌<◌, ◌≤◌, ◌==◌, ◌++◌, ℕ, zero, suc, Bool, true, false, cond, not, List, [], ◌∷◌, Some, filter, get_or, if◌then◌else◌, length, map, slice_get, refl, sym, ap, ap₂, subst, arith, eq-eqb, length-append}
use Rattle.std.proofs.Math.Logic.{∥∥₁_map}
use Rattle.std.specs.Borrow.{GName}
use Rattle.std.proofs.lemmas.List.Elements.{filter-append}
use Rattle.std.proofs.lemmas.Option.{slice_get-get_or, slice_get_within}
use Rattle.vio_num.specs.Words.{Begins}
use Rattle.vio_num.specs.Entry.{first_byte}
use Rattle.vio_num.specs.declared.entry.Entry.{Entry}
use Rattle.vio_num.specs.declared.history.Grant.{Grant}
use Rattle.vio_num.specs.declared.history.Grant.TheVariants.{Granted}
use Rattle.vio_num.specs.declared.history.Lapse.TheVariants as lapses
use Rattle.vio_num.specs.declared.history.Served.{Served}
use Rattle.vio_num.specs.declared.names.UnitId.{UnitId}
use Rattle.crq_ring.specs.Sessions.{of_session}
use Rattle.crq_ring.specs.declared.rows.PipeRow.{PipeRow}
use Rattle.crq_session.specs.Answered.{received_now, taken_now}
use Rattle.crq_session.specs.EndState.{EndPlace, EndState}
use Rattle.crq_session.specs.PlainState.{end_of, side_of}
use Rattle.crq_session.specs.declared.link.PlainLink.{PlainLink}
use Rattle.block_server.specs.Advances.{PutsNow, rows_elsewhere}
use Rattle.block_server.specs.Answering.{AnswersMore, OnlyRowsOf, responses}
use Rattle.block_server.specs.Books.{books_seen}
use Rattle.block_server.specs.Closings.{is_event, is_loss}
use Rattle.block_server.specs.Entries.{is_response}
use Rattle.block_server.specs.Judged.{AreKept, IsPast, Judged}
use Rattle.block_server.specs.Owed.{IsCutOff, IsEventAhead}
use Rattle.block_server.specs.Receipts.{LinesMore, is_ended, unit_of}
use Rattle.block_server.specs.declared.unit.Unit.{Unit}
use Rattle.vcpu_run.specs.Answered.{IsBehind}
use Rattle.vcpu_run.specs.LastGiven.{AreLastGiven, HasFewBehind, IsLastGiven, most_now, responses_now}
use Rattle.vcpu_run.specs.Sessions.{entries_of}
use Rattle.vcpu_run.proofs.CutLogins.{cut_behind, cut_ended, cut_more, line_is, none_of, some_loss, which}
use Rattle.vcpu_run.proofs.FewBehind.{few_more, few_none, few_served, granted_above, rows_earlier}
use Rattle.vcpu_run.proofs.Losing.{of_append}
use Rattle.vcpu_run.proofs.QueueLaws.{entries_are}

-- RESPONSES --------------------------------------------------------------------------------------

abbrev pub one_of : Entry → ℕ
one_of entry = if is_response entry then 1 else 0

one_more : (entry : Entry) (entries : List Entry) → length (filter is_response (entry ∷ entries)) ≡ one_of entry + length (filter is_response entries)
one_more entry entries = at (is_response entry)
  where
    at : (b : Bool) → length (cond b (entry ∷ filter is_response entries) (filter is_response entries)) ≡ (if b then 1 else 0) + length (filter is_response entries)
    at true = omega arith
    at false = omega arith

-- the responses of a session, and those of the others
in_both : (q : ℕ) (rows : List PipeRow) → length (responses rows) ≡ length (filter is_response (entries_of q rows)) + length (responses (rows_elsewhere q rows))
in_both q [] = refl
in_both q (row ∷ rows) = at (in_both q rows) (row.session == q)
  where
    here : List PipeRow
    here = filter (λ (r : PipeRow). r.session == q) rows

    apart : List PipeRow
    apart = filter (λ (r : PipeRow). not (r.session == q)) rows

    entries : List PipeRow → List Entry
    entries rows = map (λ (r : PipeRow). r.entry) rows

    first : length (responses (row ∷ rows)) ≡ one_of row.entry + length (responses rows)
    first = one_more row.entry (entries rows)

    at : length (responses rows) ≡ length (filter is_response (entries_of q rows)) + length (responses (rows_elsewhere q rows)) → (b : Bool) → length (responses (row ∷ rows))
        ≡ length (filter is_response (entries (cond b (row ∷ here) here))) + length (filter is_response (entries (cond (not b) (row ∷ apart) apart)))
    at rest true =
        let second = one_more row.entry (entries here) in
        omega (arith, first, rest, second)
    at rest false =
        let second = one_more row.entry (entries apart) in
        omega (arith, first, rest, second)

-- as many responses more as were put, where all were put in one session
now_more : (q : ℕ) (sent sent' : List PipeRow) (more : List Entry) → responses sent' ≡ responses sent ++ more → rows_elsewhere q sent' ≡ rows_elsewhere q sent
    → length (filter is_response (of_session q sent')) ≡ length (filter is_response (of_session q sent)) + length more
now_more q sent sent' more put others =
    let old = in_both q sent in
    let new = in_both q sent' in
    let long = ap length put in
    let sum = length-append (responses sent) more in
    let same = ap (λ (rows : List PipeRow). length (responses rows)) others in
    let was = ap (λ (es : List Entry). length (filter is_response es)) (entries_are q sent) in
    let now = ap (λ (es : List Entry). length (filter is_response es)) (entries_are q sent') in
    omega (arith, old, new, long, sum, same, was, now)

-- EVENTS -----------------------------------------------------------------------------------------

behind_there : (xs ys : List Entry) (n : ℕ) (entry : Entry) → length xs ≤ n → slice_get (xs ++ ys) n ≡ Some entry → (j : ℕ) × (slice_get ys j ≡ Some entry)
behind_there [] ys n entry less there = (n, there)
behind_there (x ∷ xs) ys zero entry less there = absurd (omega (arith, less))
behind_there (x ∷ xs) ys (suc n) entry less there = behind_there xs ys n entry (omega (arith, less)) there

some_event : (entries : List Entry) (n : ℕ) (entry : Entry) → slice_get entries n ≡ Some entry → is_event entry ≡ true → 1 ≤ length (filter is_event entries)
some_event [] n entry there is = absurd (cc (there))
some_event (first ∷ entries) n entry there is = at (λ k found. some_event entries k entry found is) n there (is_event first) refl
  where
    rest : List Entry
    rest = filter is_event entries

    entry_is : (a b : Entry) → Some a ≡ Some b → a ≡ b
    entry_is a b e = cc (e)

    at : ((k : ℕ) → slice_get entries k ≡ Some entry → 1 ≤ length rest) → (n : ℕ) → slice_get (first ∷ entries) n ≡ Some entry → (b : Bool) → is_event first ≡ b
        → 1 ≤ length (cond (is_event first) (first ∷ rest) rest)
    at more n found true e = subst (λ b. 1 ≤ length (cond b (first ∷ rest) rest)) (sym e) (omega arith)
    at more zero found false e = absurd (cc (sym e ∙ ap is_event (entry_is first entry found), is))
    at more (suc n) found false e = subst (λ b. 1 ≤ length (cond b (first ∷ rest) rest)) (sym e) (more n found)

-- a line of the first, or of those behind
pub where_at : (xs ys : List Grant) (p : ℕ) (line : Grant) → slice_get (xs ++ ys) p ≡ Some line → (slice_get xs p ≡ Some line) ⊎ ((j : ℕ) × (slice_get ys j ≡ Some line))
where_at [] ys p line there = inr (p, there)
where_at (x ∷ xs) ys zero line there = inl there
where_at (x ∷ xs) ys (suc p) line there = where_at xs ys p line there

line_behind : (xs ys : List Grant) (n : ℕ) → slice_get (xs ++ ys) (length xs + n) ≡ slice_get ys n
line_behind [] ys n = let e : length {A = Grant} [] + n ≡ n = omega arith in ap (slice_get ys) e
line_behind (x ∷ xs) ys n =
    let e : length (x ∷ xs) + n ≡ suc (length xs + n) = omega arith in
    ap (slice_get (x ∷ (xs ++ ys))) e ∙ line_behind xs ys n

pub line_own : (id : UnitId) (granted : ℕ) (grants grants' : List Grant) (lines : LinesMore id granted grants grants') (k : ℕ) (line : Grant) → slice_get lines.more k ≡ Some line → unit_of line ≡ id
line_own id granted grants grants' lines k line there =
    let within : k < length lines.more = slice_get_within lines.more k line there in
    subst (λ (l : Grant). unit_of l ≡ id) (line_is (get_or lines.more k line) line (sym (slice_get-get_or lines.more k line within) ∙ there)) (lines.of_unit k line within)

line_front : (xs ys : List Grant) (n : ℕ) (line : Grant) → slice_get xs n ≡ Some line → slice_get (xs ++ ys) n ≡ Some line
line_front [] ys n line there = absurd (cc (there))
line_front (x ∷ xs) ys zero line there = there
line_front (x ∷ xs) ys (suc n) line there = line_front xs ys n line there

-- LOGINS -----------------------------------------------------------------------------------------

-- A login of a session that is over is cut off.
pub cut_past : (unit : Unit) (id : UnitId) (queue : EndState) (history : List Served) (grants : List Grant) (judged : List Judged) → AreKept (books_seen unit id queue history grants) judged
    → (place session login number credits : ℕ) → 1 ≤ session → IsPast queue.last_session (is_ended unit.line) session
    → slice_get grants place ≡ Some (Granted id session login number credits) → IsCutOff id grants session login
cut_past unit id queue history grants judged kept place session login number credits some past there =
    cut_ended id session login number credits grants place (kept.lines.closed session some past) kept.lines.causes.last there

-- None is of a session that is to come.
pub not_later : (unit : Unit) (id : UnitId) (queue : EndState) (history : List Served) (grants : List Grant) (judged : List Judged) → AreKept (books_seen unit id queue history grants) judged
    → (place session login number credits : ℕ) → slice_get grants place ≡ Some (Granted id session login number credits) → session ≤ queue.last_session
not_later unit id queue history grants judged kept place session login number credits there = at (which session queue.last_session)
  where
    at : (session < queue.last_session) ⊎ ((session ≡ queue.last_session) ⊎ (queue.last_session < session)) → session ≤ queue.last_session
    at (inl less) = omega (arith, less)
    at (inr (inl same)) = omega (arith, same)
    at (inr (inr more)) = absurd (none_of id session login number credits grants place (kept.lines.later session more) there)

-- A TURN -----------------------------------------------------------------------------------------

-- What a turn of the server unit leaves of the link, and what it adds.
pub record ServesLast (id : UnitId) (old new : PlainLink) (more : List Grant) (history history' : List Served) : Type 0 where
  pub received : (side_of new true).queue.sent ≡ (side_of old true).queue.sent
  pub kept : (side_of new false).kept ≡ (side_of old false).kept
  pub registered : (side_of new false).registered ≡ (side_of old false).registered
  pub client : (side_of new false).queue.session ≡ (side_of old false).queue.session
  pub others : rows_elsewhere (side_of old false).queue.session (side_of new false).queue.sent ≡ rows_elsewhere (side_of old false).queue.session (side_of old false).queue.sent
  pub none : (side_of old false).registered ≡ false → (side_of new false).queue.sent ≡ (side_of old false).queue.sent
  pub session : (side_of old true).queue.session ≤ (side_of new true).queue.session
  pub taken : Begins (side_of old true).queue.taken (side_of new true).queue.taken
  pub behind : IsBehind (end_of [] new true)
  pub own : (k : ℕ) (line : Grant) → slice_get more k ≡ Some line → unit_of line ≡ id
  pub only : OnlyRowsOf id history history'
  pub answers : AnswersMore id (side_of old false).queue.sent (side_of new false).queue.sent history history'

-- As many answers came as responses were put into the client's present session.
most_more : (id : UnitId) (old new : PlainLink) (more : List Grant) (history history' : List Served) (is : ServesLast id old new more history history')
    → most_now old + length is.answers.more ≤ most_now new
most_more id old new more history history' is = at (side_of old false).registered refl
  where
    q : ℕ
    q = (side_of old false).queue.session

    at : (b : Bool) → (side_of old false).registered ≡ b → most_now old + length is.answers.more ≤ most_now new
    at true on =
        let was : most_now old ≡ responses_now old = ap (λ b. if b then responses_now old else 0) on in
        let now : most_now new ≡ responses_now new = ap (λ b. if b then responses_now new else 0) (is.registered ∙ on) in
        let here : responses_now new ≡ length (filter is_response (of_session q (side_of new false).queue.sent)) =
        ap (λ n. length (filter is_response (of_session n (side_of new false).queue.sent))) is.client in
        let grown = now_more q (side_of old false).queue.sent (side_of new false).queue.sent is.answers.more is.answers.put is.others in
        omega (arith, was, now, here, grown)
    at false off =
        let was : most_now old ≡ 0 = ap (λ b. if b then responses_now old else 0) off in
        let same = ap (λ (rows : List PipeRow). length (responses rows)) (is.none off) in
        let long = ap length is.answers.put in
        let sum = length-append (responses (side_of old false).queue.sent) is.answers.more in
        omega (arith, was, same, long, sum)

few_turned : (id : UnitId) (old new : PlainLink) (more : List Grant) (history history' : List Served) (is : ServesLast id old new more history history') (login count : ℕ) → count ≤ most_now old
    → HasFewBehind id login count history → HasFewBehind id login (most_now new) history'
few_turned id old new more history history' is login count less few =
    let grown = most_more id old new more history history' is in
    few_more id login (count + length is.answers.more) (most_now new) history' (omega (arith, less, grown))
    (few_served id login count history history' is.answers.more is.only is.answers.rows few)

module _ (unit unit' : Unit) (id : UnitId) (old new : PlainLink) (grants more : List Grant) (history history' : List Served) (judged judged' : List Judged)
    (kept : AreKept (books_seen unit id (end_of [] old true) history grants) judged) (kept' : AreKept (books_seen unit' id (end_of [] new true) history' (grants ++ more)) judged')
    (is : ServesLast id old new more history history') where
  -- An event that was ahead was taken: a line says that the session was lost.
  lost_taken : (place login number credits : ℕ) → (side_of new true).queue.session ≡ (side_of old true).queue.session
      → slice_get grants place ≡ Some (Granted id (side_of old true).queue.session login number credits)
      → (ahead : IsEventAhead (end_of [] old true)) → ahead.number < length (taken_now (end_of [] new true)) → IsCutOff id (grants ++ more) (side_of old true).queue.session login
  lost_taken place login number credits session there ahead less =
      let s : ℕ = (side_of old true).queue.session in
      let rows : List PipeRow = is.taken.0 in
      let took : taken_now (end_of [] new true) ≡ taken_now (end_of [] old true) ++ of_session s rows =
      ap₂ of_session session is.taken.1 ∙ of_append s (side_of old true).queue.taken rows in
      let got : received_now (end_of [] new true) ≡ received_now (end_of [] old true) = ap₂ of_session session is.received in
      let found : slice_get (taken_now (end_of [] new true)) ahead.number ≡ Some ahead.event =
      sym (is.behind.same ahead.number less) ∙ (ap (λ (es : List Entry). slice_get es ahead.number) got ∙ ahead.there) in
      let behind = behind_there (taken_now (end_of [] old true)) (of_session s rows) ahead.number ahead.event ahead.ahead
      (ap (λ (es : List Entry). slice_get es ahead.number) (sym took) ∙ found) in
      let events = some_event (of_session s rows) behind.0 ahead.event behind.1 (eq-eqb (first_byte ahead.event) 0xFF ahead.says) in
      let before : length (filter (is_loss id s) grants) ≡ length (filter is_event (taken_now (end_of [] old true))) = kept.lines.causes.losses s in
      let after : length (filter (is_loss id s) (grants ++ more)) ≡ length (filter is_event (of_session s (side_of new true).queue.taken)) = kept'.lines.causes.losses s in
      let all : length (filter is_event (of_session s (side_of new true).queue.taken)) ≡ length (filter is_event (taken_now (end_of [] old true))) + length (filter is_event (of_session s rows)) =
      ap (λ (es : List Entry). length (filter is_event es)) (ap (of_session s) is.taken.1 ∙ of_append s (side_of old true).queue.taken rows)
      ∙ (ap length (filter-append is_event (taken_now (end_of [] old true)) (of_session s rows))
      ∙ length-append (filter is_event (taken_now (end_of [] old true))) (filter is_event (of_session s rows))) in
      let lines : length (filter (is_loss id s) (grants ++ more)) ≡ length (filter (is_loss id s) grants) + length (filter (is_loss id s) more) =
      ap length (filter-append (is_loss id s) grants more) ∙ length-append (filter (is_loss id s) grants) (filter (is_loss id s) more) in
      let loss = some_loss id s more is.own (omega (arith, events, before, after, all, lines)) in
      let within = slice_get_within grants place (Granted id s login number credits) there in
      cut_behind id s login number credits loss.of lapses.Lost loss.outstanding loss.granted (grants ++ more) place (length grants + loss.at) (omega (arith, within))
      (line_front grants more place (Granted id s login number credits) there) (line_behind grants more loss.at ∙ loss.there) refl

  -- A login that was granted before.
  served_old : (place session login number credits : ℕ) → 1 ≤ session → slice_get grants place ≡ Some (Granted id session login number credits)
      → IsLastGiven id old grants history session login → IsLastGiven id new (grants ++ more) history' session login
  served_old place session login number credits some there (inl cut) = inl (cut_more id grants more session login cut)
  served_old place session login number credits some there (inr (inr few)) = inr (inr (few_turned id old new more history history' is login (most_now old) (omega arith) few))
  served_old place session login number credits some there (inr (inl (inr kept_on))) =
      inr (inl (inr (record { event = kept_on.event; kept = is.kept ∙ kept_on.kept; says = kept_on.says })))
  served_old place session login number credits some there (inr (inl (inl ahead))) = at (which session (side_of new true).queue.session)
    where
      s : ℕ
      s = (side_of old true).queue.session

      low : session ≤ s
      low = not_later unit id (end_of [] old true) history grants judged kept place session login number credits there

      now : (side_of new true).queue.session ≡ s → session ≡ s → (ahead.number < length (taken_now (end_of [] new true))) ⊎ (length (taken_now (end_of [] new true)) ≤ ahead.number)
          → IsLastGiven id new (grants ++ more) history' session login
      now same own (inl less) =
          inl (subst (λ n. IsCutOff id (grants ++ more) n login) (sym own)
          (lost_taken place login number credits same (subst (λ n. slice_get grants place ≡ Some (Granted id n login number credits)) own there) ahead less))
      now same own (inr still) =
          inr (inl (inl (record {
            number = ahead.number;
            event = ahead.event;
            there = ap (λ (es : List Entry). slice_get es ahead.number) (ap₂ of_session same is.received) ∙ ahead.there;
            ahead = still;
            says = ahead.says;
          })))

      split : (n m : ℕ) → (n < m) ⊎ (m ≤ n)
      split n m = by (which n m)
        where
          by : (n < m) ⊎ ((n ≡ m) ⊎ (m < n)) → (n < m) ⊎ (m ≤ n)
          by (inl h) = inl h
          by (inr (inl h)) = inr (omega (arith, h))
          by (inr (inr h)) = inr (omega (arith, h))

      at : (session < (side_of new true).queue.session) ⊎ ((session ≡ (side_of new true).queue.session) ⊎ ((side_of new true).queue.session < session))
          → IsLastGiven id new (grants ++ more) history' session login
      at (inl less) =
          inl (cut_past unit' id (end_of [] new true) history' (grants ++ more) judged' kept' place session login number credits some (inl less)
          (line_front grants more place (Granted id session login number credits) there))
      at (inr (inl same)) =
          let rises = is.session in
          now (omega (arith, low, rises, same)) (omega (arith, low, rises, same)) (split ahead.number (length (taken_now (end_of [] new true))))
      at (inr (inr above)) = let rises = is.session in absurd (omega (arith, low, rises, above))

  -- A turn of the server unit.
  pub last_served : AreLastGiven id old grants history → AreLastGiven id new (grants ++ more) history'
  last_served last place session login number credits some there = at (where_at grants more place (Granted id session login number credits) there)
    where
      at : (slice_get grants place ≡ Some (Granted id session login number credits)) ⊎ ((j : ℕ) × (slice_get more j ≡ Some (Granted id session login number credits)))
          → ∥ IsLastGiven id new (grants ++ more) history' session login ∥₁
      at (inl was) = ∥∥₁_map (last place session login number credits some was) (served_old place session login number credits some was)
      at (inr came) =
          let above = granted_above id grants more came.0 session login number credits kept'.numbers.each came.1 in
          let earlier = rows_earlier unit id (end_of [] old true) history grants judged kept login above in
          ∣ inr (inr (few_turned id old new more history history' is login 0 (omega arith) (few_none id login history earlier))) ∣₁

-- A turn, seen from the pair, by whatever borrows the end is reached.
pub turn_last : (f g : Bool) (a b : List GName) (lent old new : PlainLink) (id : UnitId) (more : List Grant) (history history' : List Served) → f ≡ true → lent ≡ old
    → (end_of b new g).place ≡ (end_of a lent f).place → PutsNow (end_of a lent f) (end_of b new g) → (end_of b new g).counts.partner_session ≡ (end_of a lent f).counts.partner_session
    → (end_of a lent f).last_session ≤ (end_of b new g).last_session → Begins (end_of a lent f).taken (end_of b new g).taken → IsBehind (end_of b new g)
    → ((k : ℕ) (line : Grant) → slice_get more k ≡ Some line → unit_of line ≡ id) → OnlyRowsOf id history history' → AnswersMore id (end_of a lent f).sent (end_of b new g).sent history history'
    → ServesLast id old new more history history'
turn_last f g a b lent old new id more history history' is same place puts partner session taken behind own only answers =
    subst (λ (l : PlainLink). ServesLast id l new more history history') same (at f g is (ap (λ (p : EndPlace). p.first) place ∙ is) place puts partner session taken behind answers)
  where
    at : (d e : Bool) → d ≡ true → e ≡ true → (end_of b new e).place ≡ (end_of a lent d).place → PutsNow (end_of a lent d) (end_of b new e)
        → (end_of b new e).counts.partner_session ≡ (end_of a lent d).counts.partner_session → (end_of a lent d).last_session ≤ (end_of b new e).last_session
        → Begins (end_of a lent d).taken (end_of b new e).taken → IsBehind (end_of b new e) → AnswersMore id (end_of a lent d).sent (end_of b new e).sent history history'
        → ServesLast id lent new more history history'
    at false e one two place puts partner session taken behind answers = absurd (cc (one))
    at true false one two place puts partner session taken behind answers = absurd (cc (two))
    at true true one two place puts partner session taken behind answers = record {
      received = ap (λ (p : EndPlace). p.received) place;
      kept = ap (λ (p : EndPlace). p.partner_kept) place;
      registered = ap (λ (p : EndPlace). p.partner_registered) place;
      client = partner;
      others = puts.others;
      none = puts.none;
      session = session;
      taken = taken;
      behind = record { low = behind.low; same = behind.same };
      own = own;
      only = only;
      answers = record { more = answers.more; put = answers.put; rows = answers.rows };
    }
