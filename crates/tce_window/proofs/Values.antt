-- What a value put changes: the values of its own entry alone.
use Rattle.std.proofs.Common.{◌≡◌, ℕ, ◌+◌, ◌*◌, ◌/◌, ◌<◌, ◌≤◌, ◌==◌, List, [], ◌∷◌, ◌++◌, length, map, filter, get_or, set, Some, slice_get, IsTrue, refl, sym, ◌∙◌, ap, subst, ⊎_elim, arith, append-nil, append_assoc, length-append, below_more}
use Rattle.std.proofs.lemmas.Bool.{eq-eqb, ne_eqb}
use Rattle.std.proofs.lemmas.Bool.Decides.{eqb_tells}
use Rattle.std.proofs.lemmas.List.{map-append, length-set, get_or-set_same, get_or-set_other, get_or_append_left}
use Rattle.std.proofs.lemmas.List.Elements.{filter-append}
use Rattle.std.proofs.lemmas.Option.{slice_get_read}
use Rattle.std.proofs.Math.Seq.{get_or-append_seam}
use Rattle.tce_window.specs.declared.answers.TceRow.{TceRow}
use Rattle.tce_window.specs.declared.table.Current.{Current}
use Rattle.tce_window.specs.Grant.{values_of, has_right, IsCurrent, AreNumbered}
use Rattle.tce_window.specs.Kept.{IsEntry, KeepsValues}

pub by_number : (a b : ℕ) (P : Type 0) → (a ≡ b → P) → ((a ≡ b → ⊥) → P) → P
by_number a b P f g = ⊎_elim (λ same. f same.1) (λ other. g other.1) (eqb_tells a b)

put_values : (rows : List TceRow) (row : TceRow) (e : ℕ) → values_of (rows ++ row ∷ []) e ≡ values_of rows e ++ map (λ r. r.value) (filter (λ r. r.entry == e) (row ∷ []))
unfolding values_of
put_values rows row e =
    ap (λ xs. (4096 * e + 3) ∷ map (λ r. r.value) xs) (filter-append (λ r. r.entry == e) rows (row ∷ []))
    ∙ ap (λ xs. (4096 * e + 3) ∷ xs) (map-append (λ r. r.value) (filter (λ r. r.entry == e) rows) (filter (λ r. r.entry == e) (row ∷ [])))

-- a value put is the last of its own entry
pub values_of-own : (rows : List TceRow) (row : TceRow) → values_of (rows ++ row ∷ []) row.entry ≡ values_of rows row.entry ++ row.value ∷ []
values_of-own rows row =
    put_values rows row row.entry ∙ ap (λ xs. values_of rows row.entry ++ xs) (rw (eq-eqb row.entry row.entry refl) refl)

-- and changes no other
pub values_of-other : (rows : List TceRow) (row : TceRow) (e : ℕ) → (row.entry ≡ e → ⊥) → values_of (rows ++ row ∷ []) e ≡ values_of rows e
values_of-other rows row e h =
    put_values rows row e ∙ ap (λ xs. values_of rows e ++ xs) (rw (ne_eqb row.entry e h) refl) ∙ append-nil (values_of rows e)

pub values_of-none : (e : ℕ) → values_of [] e ≡ (4096 * e + 3) ∷ []
unfolding values_of
values_of-none e = refl

-- the last of a list that grew by one
at_end : (xs : List ℕ) (x n : ℕ) → length xs ≡ n → slice_get (xs ++ x ∷ []) n ≡ Some x
at_end xs x n e =
    subst (λ k. slice_get (xs ++ x ∷ []) k ≡ Some x) e
    (slice_get_read (xs ++ x ∷ []) (length (xs ++ x ∷ [])) (length xs) x refl (omega (arith, length-append xs (x ∷ []))) (sym (get_or-append_seam xs x [] x)))

pub current-own : (rows : List TceRow) (e version value tce : ℕ) → IsCurrent (values_of rows) e version value
    → IsCurrent (values_of (rows ++ record { entry = e; version = version + 1; value = tce } ∷ [])) e (version + 1) tce
current-own rows e version value tce now =
    let row : TceRow = record { entry = e; version = version + 1; value = tce } in
    let same : values_of (rows ++ row ∷ []) e ≡ values_of rows e ++ tce ∷ [] = values_of-own rows row in
    record {
      shown = ap (λ xs. slice_get xs (version + 1)) same ∙ at_end (values_of rows e) tce (version + 1) now.last;
      last = ap length same ∙ length-append (values_of rows e) (tce ∷ []) ∙ ap (λ n. n + 1) now.last;
    }

pub current-other : (rows : List TceRow) (row : TceRow) (e version value : ℕ) → (row.entry ≡ e → ⊥) → IsCurrent (values_of rows) e version value
    → IsCurrent (values_of (rows ++ row ∷ [])) e version value
current-other rows row e version value h now =
    let same : values_of (rows ++ row ∷ []) e ≡ values_of rows e = values_of-other rows row e h in
    record { shown = ap (λ xs. slice_get xs version) same ∙ now.shown; last = ap length same ∙ now.last }

numbered-push : (n : ℕ) (before rows : List TceRow) (row : TceRow) → AreNumbered n before rows → row.entry < n
    → row.version ≡ length (values_of (before ++ rows) row.entry) → AreNumbered n before (rows ++ row ∷ [])
numbered-push n before [] row all less e =
    (less, e ∙ ap (λ xs. length (values_of xs row.entry)) (append-nil before), tt)
numbered-push n before (first ∷ rows) row all less e =
    (all.0, all.1, numbered-push n (before ++ first ∷ []) rows row all.2 less (e ∙ ap (λ xs. length (values_of xs row.entry)) (sym (append_assoc before (first ∷ []) rows))))

entry-put : (entries : List Current) (rows : List TceRow) (at : ℕ) (last next : Current) (tce : ℕ) → KeepsValues entries rows
    → at < length entries → last ≡ get_or entries at last → next ≡ record { version = last.version + 1; value = tce }
    → (IsTrue (has_right tce) → tce / 4096 < length entries)
    → (e : ℕ) (d : Current) → e < length entries
    → IsEntry (rows ++ record { entry = at; version = last.version + 1; value = tce } ∷ []) (length entries) e (get_or (set entries at next) e d)
entry-put entries rows at last next tce kept inside is_last is_next page e d less =
    let row : TceRow = record { entry = at; version = last.version + 1; value = tce } in
    by_number at e (IsEntry (rows ++ row ∷ []) (length entries) e (get_or (set entries at next) e d))
    (λ same.
    let before : IsEntry rows (length entries) at last = subst (IsEntry rows (length entries) at) (sym is_last) (kept.each at last inside) in
    subst (λ k. IsEntry (rows ++ row ∷ []) (length entries) k (get_or (set entries at next) k d)) same
    (subst (IsEntry (rows ++ row ∷ []) (length entries) at) (sym (get_or-set_same entries at next d inside ∙ is_next))
    (record {
      current = current-own rows at last.version last.value tce before.current;
      page = page;
      few = rw (length-append rows (row ∷ [])) (omega (arith, before.few));
    })))
    (λ other.
    let before : IsEntry rows (length entries) e (get_or entries e d) = kept.each e d less in
    subst (IsEntry (rows ++ row ∷ []) (length entries) e) (sym (get_or-set_other entries at e next d (λ f. other (sym f))))
    (record {
      current = current-other rows row e _ _ other before.current;
      page = before.page;
      few = rw (length-append rows (row ∷ [])) (omega (arith, before.few));
    }))

-- the version of the next value of an entry
pub next_version : (entries : List Current) (rows : List TceRow) (at : ℕ) (last : Current) → KeepsValues entries rows
    → at < length entries → last ≡ get_or entries at last → IsEntry rows (length entries) at last
next_version entries rows at last kept inside is_last =
    subst (IsEntry rows (length entries) at) (sym is_last) (kept.each at last inside)

pub kept-put : (entries : List Current) (rows : List TceRow) (at : ℕ) (last next : Current) (tce : ℕ) → KeepsValues entries rows
    → at < length entries → last ≡ get_or entries at last → next ≡ record { version = last.version + 1; value = tce }
    → (IsTrue (has_right tce) → tce / 4096 < length entries)
    → KeepsValues (set entries at next) (rows ++ record { entry = at; version = last.version + 1; value = tce } ∷ [])
kept-put entries rows at last next tce kept inside is_last is_next page =
    let row : TceRow = record { entry = at; version = last.version + 1; value = tce } in
    let before : IsEntry rows (length entries) at last = next_version entries rows at last kept inside is_last in
    record {
      each = λ e d less. rw (length-set entries at next) (entry-put entries rows at last next tce kept inside is_last is_next page e d (rw (length-set entries at next) at less));
      numbered = rw (length-set entries at next) (numbered-push (length entries) [] rows row kept.numbered inside (sym before.current.last));
    }

-- what entry e holds at the start
entry-first : (n e : ℕ) (first : Current) → n ≤ 256 → e < n → first.version ≡ 0 → first.value ≡ 4096 * e + 3 → IsEntry [] n e first
entry-first n e first most less no_version value = record {
  current = record {
    shown = rw (values_of-none e) (rw no_version (rw value refl));
    last = rw (values_of-none e) (rw no_version refl);
  };
  page = λ h. omega (arith, value);
  few = omega (arith, no_version);
}

pub entries-push : (n i : ℕ) (entries : List Current) (first : Current) → n ≤ 256 → i < n → length entries ≡ i
    → first.version ≡ 0 → first.value ≡ 4096 * i + 3
    → ((e : ℕ) → e < i → (d : Current) → IsEntry [] n e (get_or entries e d))
    → (e : ℕ) → e < i + 1 → (d : Current) → IsEntry [] n e (get_or (entries ++ first ∷ []) e d)
entries-push n i entries first most less size no_version value each =
    below_more (λ e. (d : Current) → IsEntry [] n e (get_or (entries ++ first ∷ []) e d)) i
    (λ e below d. subst (IsEntry [] n e) (sym (get_or_append_left entries (first ∷ []) d e (omega (arith, size, below)))) (each e below d))
    (λ d.
    subst (λ k. IsEntry [] n k (get_or (entries ++ first ∷ []) k d)) size
    (subst (IsEntry [] n (length entries)) (sym (get_or-append_seam entries first [] d))
    (entry-first n (length entries) first most (rw size less) no_version (rw size value))))
