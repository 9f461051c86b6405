-- Lists of rows that grow by one that was read.
use Rattle.std.proofs.Common.{Bool, not, true, false, ◌≡◌, ◌+◌, ℕ, zero, suc, List, [], ◌∷◌, ◌++◌, sym, ap, ◌∙◌, append_assoc, append-nil, get_or, length, refl, subst, arith}
use Rattle.std.specs.List.{flat_map}
use Rattle.vio_trace.specs.Form.{Ascend}
use Rattle.vio_trace.specs.Reading.{FollowsLast}

pub flat_push : {A : Type 0} (text : A → List ℕ) (rows : List A) (row : A) → flat_map text (rows ++ row ∷ []) ≡ flat_map text rows ++ text row
flat_push text [] row = append-nil (text row)
flat_push text (r ∷ rows) row =
    ap (λ (l : List ℕ). text r ++ l) (flat_push text rows row) ∙ sym (append_assoc (text r) (flat_map text rows) (text row))

pub push_text : {A : Type 0} (text : A → List ℕ) (rows : List A) (row : A) (whole rest behind : List ℕ)
    → whole ≡ flat_map text rows ++ rest → rest ≡ text row ++ behind → whole ≡ flat_map text (rows ++ row ∷ []) ++ behind
push_text text rows row whole rest behind h k =
    h ∙ ap (λ (l : List ℕ). flat_map text rows ++ l) k ∙ sym (append_assoc (flat_map text rows) (text row) behind)
    ∙ ap (λ (l : List ℕ). l ++ behind) (sym (flat_push text rows row))

pub push_order : {Row : Type 0} (before : Row → Row → Type 0) (rows : List Row) (row : Row)
    → Ascend before rows → FollowsLast before rows row → Ascend before (rows ++ row ∷ [])
push_order before [] row a h = tt
push_order before (x ∷ []) row a h = (h, tt)
push_order before (x ∷ y ∷ rows) row a h = (a.0, push_order before (y ∷ rows) row a.1 h)

-- what may stand behind the last of some rows
pub follows_get : {Row : Type 0} (before : Row → Row → Type 0) (rows : List Row) (row last : Row) (i : ℕ)
    → i + 1 ≡ length rows → last ≡ get_or rows i last → before last row → FollowsLast before rows row
follows_get before [] row last i e is h = absurd (omega (arith, e))
follows_get {Row} before (x ∷ []) row last zero e is h = subst (λ (r : Row). before r row) is h
follows_get before (x ∷ []) row last (suc i) e is h = absurd (omega (arith, e))
follows_get before (x ∷ y ∷ rows) row last zero e is h = absurd (omega (arith, e))
follows_get before (x ∷ y ∷ rows) row last (suc i) e is h = follows_get before (y ∷ rows) row last i (omega (arith, e)) is h

-- what stands behind the last of some rows may do so
pub get_follows : {Row : Type 0} (before : Row → Row → Type 0) (rows : List Row) (row last : Row) (i : ℕ)
    → i + 1 ≡ length rows → last ≡ get_or rows i last → FollowsLast before rows row → before last row
get_follows before [] row last i e is h = absurd (omega (arith, e))
get_follows {Row} before (x ∷ []) row last zero e is h = subst (λ (r : Row). before r row) (sym is) h
get_follows before (x ∷ []) row last (suc i) e is h = absurd (omega (arith, e))
get_follows before (x ∷ y ∷ rows) row last zero e is h = absurd (omega (arith, e))
get_follows before (x ∷ y ∷ rows) row last (suc i) e is h = get_follows before (y ∷ rows) row last i (omega (arith, e)) is h

-- no answer is both
pub not_both : (answer : Bool) → answer ≡ false → answer ≡ true → ⊥
not_both answer is_not is = cc (is_not, is)

pub not_negated : (answer : Bool) → not answer ≡ true → answer ≡ true → ⊥
not_negated true negated is = cc (negated)
not_negated false negated is = cc (is)

pub negated_not : (answer : Bool) → ¬ (not answer ≡ true) → answer ≡ true
negated_not true is = refl
negated_not false is = absurd (is refl)
