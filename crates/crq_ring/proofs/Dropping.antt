-- What a put changes of the drop law: the records of before stay lawful, and a number gets one record.
use Rattle.std.proofs.Common.{◌≡◌, ℕ, ◌+◌, ◌-◌, ◌<◌, ◌≤◌, Bool, true, false, List, [], ◌∷◌, ◌++◌, length, map, Some, None, slice_get, get_or, All, AllPairs, refl, sym, ◌∙◌, ap, subst, arith, length-append, if◌then◌else◌, ⊎_elim, ◌⊎◌, inl, inr, option_map, le_refl, true≢false, zero, suc}
use Rattle.std.proofs.lemmas.Bool.{eq-eqb, ne_eqb}
use Rattle.std.proofs.lemmas.Bool.Decides.{eqb_tells}
use Rattle.std.proofs.lemmas.List.{map-append, get_or_append_left}
use Rattle.std.proofs.lemmas.List.Elements.{All-append}
use Rattle.std.proofs.lemmas.List.Quantifiers.{all_pairs_push}
use Rattle.std.proofs.lemmas.Option.{slice_get_within, get_or_from_slice_get, slice_get-get_or, slice_get-map}
use Rattle.vio_num.specs.declared.entry.Entry.{Entry}
use Rattle.vio_num.specs.Queue.{LawfulDrop}
use Rattle.crq_ring.specs.declared.rows.PipeRow.{PipeRow}
use Rattle.crq_ring.specs.declared.rows.DropRow.{DropRow}
use Rattle.crq_ring.specs.Sessions.{of_session, recorded, same_number, Precedes, NotAfter}
use Rattle.crq_ring.specs.Kept.{KeepsDrops}
use Rattle.crq_ring.proofs.Sessions.{of_session-append}

pub all_weaken : {X : Type 0} (P Q : X → Type 0) → ((x : X) → P x → Q x) → (xs : List X) → All P xs → All Q xs
all_weaken P Q f xs h = λ k d lt. f (get_or xs k d) (h k d lt)

-- what stands in a list stands there when more is put behind it
slice_get-front : {X : Type 0} (xs ys : List X) (i : ℕ) (x : X) → slice_get xs i ≡ Some x → slice_get (xs ++ ys) i ≡ Some x
slice_get-front xs ys i x h =
    let within : i < length xs = slice_get_within xs i x h in
    slice_get-get_or (xs ++ ys) i x (rw (length-append xs ys) (omega (arith, within)))
    ∙ ap Some (get_or_append_left xs ys x i within ∙ get_or_from_slice_get xs i x x h)

LawfulDrop-grow : (sent more : List Entry) (n k held : ℕ) → LawfulDrop sent n k held → LawfulDrop (sent ++ more) n k held
LawfulDrop-grow sent more n k held h = record {
  lapped = h.lapped;
  reached = rw (length-append sent more) (omega (arith, h.reached));
  held_there =
      ap (λ xs. slice_get xs (k - n)) (map-append (λ entry. entry.high) sent more)
      ∙ slice_get-front (map (λ entry. entry.high) sent) (map (λ entry. entry.high) more) (k - n) held h.held_there;
}

pub Drops-put : (sent : List PipeRow) (drops : List DropRow) (session n : ℕ) (row : PipeRow)
    → KeepsDrops sent drops session n → KeepsDrops (sent ++ row ∷ []) drops session n
Drops-put sent drops session n row h = record {
  lawful = record {
    lawful = all_weaken (λ d. LawfulDrop (of_session d.session sent) n d.number d.held) (λ d. LawfulDrop (of_session d.session (sent ++ row ∷ [])) n d.number d.held)
        (λ d l. rw (of_session-append d.session sent (row ∷ [])) (LawfulDrop-grow (of_session d.session sent) (of_session d.session (row ∷ [])) n d.number d.held l))
        drops h.lawful.lawful;
    in_order = h.lawful.in_order;
  };
  none_later = h.none_later;
}

pub Drops-renew : (sent : List PipeRow) (drops : List DropRow) (session n : ℕ)
    → KeepsDrops sent drops session n → KeepsDrops sent drops (session + 1) n
Drops-renew sent drops session n h = record {
  lawful = h.lawful;
  none_later = all_weaken (λ d. d.session ≤ session) (λ d. d.session ≤ session + 1) (λ d l. omega (arith, l)) drops h.none_later;
}

by_eqb : (a b : ℕ) (P : Type 0) → (a ≡ b → P) → ((a ≡ b → ⊥) → P) → P
by_eqb a b P f g = ⊎_elim (λ same. f same.1) (λ other. g other.1) (eqb_tells a b)

lt_apart : (a b : ℕ) → a ≤ b → (a ≡ b → ⊥) → a < b
lt_apart a b le ne = omega (arith, le, ne)

-- a record of a number that has none is put at the end
recorded-new : (drops : List DropRow) (row : DropRow) → All (λ d. same_number d row ≡ false) drops → recorded drops row ≡ drops ++ row ∷ []
unfolding recorded
recorded-new [] row h = refl
recorded-new (first ∷ rest) row h =
    rw (h 0 first (omega arith)) (ap (λ ds. first ∷ ds) (recorded-new rest row (λ k d lt. h (suc k) d (omega (arith, lt)))))

recorded_next : (b : Bool) (first : DropRow) (rest : List DropRow) (row : DropRow) → recorded rest row ≡ rest
    → (if b then first ∷ rest else first ∷ recorded rest row) ≡ first ∷ rest
recorded_next true first rest row e = refl
recorded_next false first rest row e = ap (λ ds. first ∷ ds) e

-- a number that has one gets no other
recorded-old : (drops : List DropRow) (row : DropRow) (k : ℕ) (d : DropRow) → k < length drops → same_number (get_or drops k d) row ≡ true → recorded drops row ≡ drops
unfolding recorded
recorded-old [] row k d lt h = absurd (omega (arith, lt))
recorded-old (first ∷ rest) row zero d lt h = rw h refl
recorded-old (first ∷ rest) row (suc k) d lt h = recorded_next (same_number first row) first rest row (recorded-old rest row k d (omega (arith, lt)) h)

precedes_not_same : (a b : DropRow) → Precedes a b → same_number a b ≡ false
precedes_not_same a b p = by_eqb a.session b.session (same_number a b ≡ false)
    (λ e. rw (eq-eqb a.session b.session e) (ne_eqb a.number b.number (λ f. absurd (omega (arith, f, p.1 e)))))
    (λ e. rw (ne_eqb a.session b.session e) refl)

-- all that precede the last, and that one itself if it is of another number, precede a record that none follows
precede_all : (drops : List DropRow) (row last : DropRow) → AllPairs Precedes drops → All (λ d. NotAfter d row) drops
    → ((d : DropRow) → 0 < length drops → get_or drops (length drops - 1) d ≡ last) → (0 < length drops → same_number last row ≡ false)
    → All (λ d. Precedes d row) drops
precede_all drops row last ordered after is other = λ k d lt.
    let here = get_or drops k d in
    let some : 0 < length drops = omega (arith, lt) in
    let end : get_or drops (length drops - 1) d ≡ last = is d some in
    let behind : NotAfter last row = subst (λ x. NotAfter x row) end (after (length drops - 1) d (omega (arith, lt))) in
    let own : NotAfter here row = after k d lt in (
      own.0,
      λ e. by_eqb k (length drops - 1) (here.number < row.number)
          (λ f.
          let same : here ≡ last = ap (λ i. get_or drops i d) f ∙ end in
          let apart : same_number here row ≡ false = ap (λ x. same_number x row) same ∙ other some in
          lt_apart here.number row.number (own.1 e) (λ g. true≢false (sym (rw (eq-eqb here.session row.session e, eq-eqb here.number row.number g) refl) ∙ apart)))
          (λ f.
          let before : Precedes here last = subst (λ x. Precedes here x) end (ordered k (length drops - 1) d (omega (arith, lt, f)) (omega (arith, lt))) in
          let same : here.session ≡ last.session = omega (arith, e, before.0, behind.0) in
          omega (arith, before.1 same, behind.1 (omega (arith, same, e)))),
    )

-- what a record adds, by whether the last one is of its number
pub recorded_by : (drops : List DropRow) (row last : DropRow) (b : Bool) → AllPairs Precedes drops → All (λ d. NotAfter d row) drops
    → 0 < length drops → ((d : DropRow) → get_or drops (length drops - 1) d ≡ last) → same_number last row ≡ b
    → recorded drops row ≡ (if b then drops else drops ++ row ∷ [])
recorded_by drops row last true ordered after some is e =
    recorded-old drops row (length drops - 1) last (omega (arith, some)) (ap (λ x. same_number x row) (is last) ∙ e)
recorded_by drops row last false ordered after some is e =
    recorded-new drops row (all_weaken (λ d. Precedes d row) (λ d. same_number d row ≡ false) (λ d p. precedes_not_same d row p) drops
    (precede_all drops row last ordered after (λ d _. is d) (λ _. e)))

-- the records stay in order
pub recorded_in_order : (drops : List DropRow) (row last : DropRow) (b : Bool) → AllPairs Precedes drops → All (λ d. NotAfter d row) drops
    → 0 < length drops → ((d : DropRow) → get_or drops (length drops - 1) d ≡ last) → same_number last row ≡ b
    → AllPairs Precedes (recorded drops row)
recorded_in_order drops row last true ordered after some is e =
    subst (λ ds. AllPairs Precedes ds) (sym (recorded_by drops row last true ordered after some is e)) ordered
recorded_in_order drops row last false ordered after some is e =
    subst (λ ds. AllPairs Precedes ds) (sym (recorded_by drops row last false ordered after some is e))
    (all_pairs_push Precedes drops row ordered (λ k d lt. precede_all drops row last ordered after (λ x _. is x) (λ _. e) k d lt))

-- the first record
pub recorded_first : (drops : List DropRow) (row : DropRow) → length drops ≡ 0 → recorded drops row ≡ drops ++ row ∷ []
recorded_first drops row e = recorded-new drops row (λ k d lt. absurd (omega (arith, e, lt)))

pub recorded_first_in_order : (drops : List DropRow) (row : DropRow) → length drops ≡ 0 → AllPairs Precedes (recorded drops row)
recorded_first_in_order drops row e =
    subst (λ ds. AllPairs Precedes ds) (sym (recorded_first drops row e))
    (λ i j d lt within. absurd (omega (arith, e, lt, within, length-append drops (row ∷ []))))

pub no_last : (drops : List DropRow) → None ≡ slice_get drops (length drops - 1) → length drops ≡ 0
no_last [] e = refl
no_last (d ∷ drops) e =
    let some : slice_get (d ∷ drops) (length (d ∷ drops) - 1) ≡ Some (get_or (d ∷ drops) (length (d ∷ drops) - 1) d) =
    slice_get-get_or (d ∷ drops) (length (d ∷ drops) - 1) d (omega arith) in
    cc (e, some)

pub Drops-none : (session n : ℕ) → KeepsDrops [] [] session n
Drops-none session n = record {
  lawful = record { lawful = λ k d lt. absurd (omega (arith, lt)); in_order = λ i j d lt within. absurd (omega (arith, within)) };
  none_later = λ k d lt. absurd (omega (arith, lt));
}

-- the entry that lies in a full slot
pub lawful_at : (sent taken : List Entry) (n k : ℕ) (entry : Entry) → k ≡ length sent → length sent ≡ length taken + n
    → slice_get sent (k - n) ≡ Some entry → LawfulDrop sent n k entry.high
lawful_at sent taken n k entry last full found = record {
  lapped = omega (arith, last, full);
  reached = omega (arith, last);
  held_there = slice_get-map (λ e. e.high) sent (k - n) ∙ ap (option_map (λ e. e.high)) found;
}

recorded_either : (drops : List DropRow) (row : DropRow) → (recorded drops row ≡ drops) ⊎ (recorded drops row ≡ drops ++ row ∷ [])
unfolding recorded
recorded_either [] row = inr refl
recorded_either (first ∷ rest) row =
    either_next (same_number first row) first rest row (recorded_either rest row)
  where
    either_next : (b : Bool) (first : DropRow) (rest : List DropRow) (row : DropRow)
        → (recorded rest row ≡ rest) ⊎ (recorded rest row ≡ rest ++ row ∷ [])
        → ((if b then first ∷ rest else first ∷ recorded rest row) ≡ first ∷ rest)
        ⊎ ((if b then first ∷ rest else first ∷ recorded rest row) ≡ first ∷ (rest ++ row ∷ []))
    either_next true first rest row h = inl refl
    either_next false first rest row (inl e) = inl (ap (λ ds. first ∷ ds) e)
    either_next false first rest row (inr e) = inr (ap (λ ds. first ∷ ds) e)

recorded-all : (P : DropRow → Type 0) (drops : List DropRow) (row : DropRow) → All P drops → P row → All P (recorded drops row)
recorded-all P drops row h p = ⊎_elim
    (λ e. subst (λ ds. All P ds) (sym e) h)
    (λ e. subst (λ ds. All P ds) (sym e) (All-append P drops (row ∷ []) h (All-one P row p)))
    (recorded_either drops row)
  where
    All-one : (P : DropRow → Type 0) (row : DropRow) → P row → All P (row ∷ [])
    All-one P row p zero d lt = p
    All-one P row p (suc k) d lt = absurd (omega (arith, lt))

-- the drop law after a drop in the present session
pub Drops-record : (sent : List PipeRow) (drops : List DropRow) (n : ℕ) (row : DropRow)
    → LawfulDrop (of_session row.session sent) n row.number row.held → AllPairs Precedes (recorded drops row)
    → KeepsDrops sent drops row.session n → KeepsDrops sent (recorded drops row) row.session n
Drops-record sent drops n row lawful ordered h = record {
  lawful = record {
    lawful = recorded-all (λ d. LawfulDrop (of_session d.session sent) n d.number d.held) drops row h.lawful.lawful lawful;
    in_order = ordered;
  };
  none_later = recorded-all (λ d. d.session ≤ row.session) drops row h.none_later (le_refl row.session);
}

-- no record comes after the present number
pub none_after : (sent : List PipeRow) (drops : List DropRow) (n : ℕ) (row : DropRow) → row.number ≡ length (of_session row.session sent)
    → KeepsDrops sent drops row.session n → All (λ d. NotAfter d row) drops
none_after sent drops n row last h = λ k d lt.
    let own = get_or drops k d in
    let lawful : LawfulDrop (of_session own.session sent) n own.number own.held = h.lawful.lawful k d lt in (
      h.none_later k d lt,
      λ e.
          let reached : own.number ≤ length (of_session row.session sent) = subst (λ q. own.number ≤ length (of_session q sent)) e lawful.reached in
          omega (arith, reached, last),
    )
