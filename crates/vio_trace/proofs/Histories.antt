-- The rows of what a server did and of what clients took: each row's text can be cut off in one way alone.
use Rattle.std.proofs.Common.{◌≡◌, ℕ, List, [], ◌∷◌, Option, slice_index, codes, decimal, refl, ap, arith, rules}
use Rattle.vio_num.specs.declared.names.UnitId.{UnitId}
use Rattle.vio_num.specs.declared.history.Grant.TheVariants as grants
use Rattle.vio_num.specs.declared.history.Lapse.{Lapse}
use Rattle.vio_num.specs.declared.history.Served.{Served}
use Rattle.vio_trace.specs.declared.rows.AnswerRow.{AnswerRow}
use Rattle.vio_trace.specs.Form.{IsGranted, IsLapsed, IsGrantRow, IsServeRow, IsAnswerRow}
use Rattle.vio_trace.specs.Text.{name, bytes, number_or_none, cause, grant_text, serve_text, answer_text}
use Rattle.vio_trace.proofs.Cuts.{ArePlain, IsCut, line_row, line_cut}
use Rattle.vio_trace.proofs.Spelled.{plain_decimal, plain_name, name_tells, plain_bytes, bytes_tell, plain_number_or_none, number_or_none_tells, plain_cause, cause_tells}
use Rattle.vio_trace.proofs.RowsTold.{word_of, told, half_is_word}

-- logins

abbrev pub granted_words : UnitId → (session login number credits : ℕ) → List (List ℕ)
granted_words unit session login number credits = name unit ∷ decimal session ∷ decimal login ∷ decimal number ∷ decimal credits ∷ []

abbrev pub lapsed_words : UnitId → (session login : ℕ) → Lapse → (outstanding granted : ℕ) → List (List ℕ)
lapsed_words unit session login why outstanding granted =
    name unit ∷ decimal session ∷ decimal login ∷ cause why ∷ decimal outstanding ∷ decimal granted ∷ []

pub granted_plain : (u : UnitId) (s l n c : ℕ) → IsGranted u s l n c → ArePlain (codes "grant" ∷ granted_words u s l n c)
granted_plain u s l n c h = (
  search (rules, arith),
  (
    plain_name u h.name_of,
    (
      plain_decimal s h.in_session,
      (plain_decimal l h.at_login, (plain_decimal n h.at_number, (plain_decimal c (half_is_word c h.limit), tt))),
    ),
  ),
)

pub lapsed_plain : (u : UnitId) (s l : ℕ) (w : Lapse) (o g : ℕ) → IsLapsed u s l o g → ArePlain (codes "lapse" ∷ lapsed_words u s l w o g)
lapsed_plain u s l w o g h = (
  search (rules, arith),
  (
    plain_name u h.name_of,
    (
      plain_decimal s h.in_session,
      (plain_decimal l h.of_login, (plain_cause w, (plain_decimal o (half_is_word o h.then_outstanding), (plain_decimal g (half_is_word g h.then_granted), tt)))),
    ),
  ),
)

granted_from : (u v : UnitId) (s t l m n p c d : ℕ) → u ≡ v → s ≡ t → l ≡ m → n ≡ p → c ≡ d
    → grants.Granted u s l n c ≡ grants.Granted v t m p d
granted_from u v s t l m n p c d e f g h i = rw (e, f, g, h, i) refl

lapsed_from : (u v : UnitId) (s t l m : ℕ) (w z : Lapse) (n p c d : ℕ) → u ≡ v → s ≡ t → l ≡ m → w ≡ z → n ≡ p → c ≡ d
    → grants.Lapsed u s l w n c ≡ grants.Lapsed v t m z p d
lapsed_from u v s t l m w z n p c d e f g k h i = rw (e, f, g, k, h, i) refl

pub grant_cut : IsCut grant_text IsGrantRow
grant_cut (grants.Granted u s l n c) (grants.Granted v t m p d) xs ys h k e =
    let q = line_cut (codes "grant") (granted_words u s l n c) (codes "grant") (granted_words v t m p d) xs ys (granted_plain u s l n c h) (granted_plain v t m p d k) e in
    record {
      row = granted_from u v s t l m n p c d
          (name_tells u v h.name_of k.name_of (word_of 0 _ _ q.words))
          (told 1 s t _ _ h.in_session k.in_session q.words refl refl)
          (told 2 l m _ _ h.at_login k.at_login q.words refl refl)
          (told 3 n p _ _ h.at_number k.at_number q.words refl refl)
          (told 4 c d _ _ (half_is_word c h.limit) (half_is_word d k.limit) q.words refl refl);
      rest = q.rest;
    }
grant_cut (grants.Granted u s l n c) (grants.Lapsed v t m z p d) xs ys h k e =
    let q = line_cut (codes "grant") (granted_words u s l n c) (codes "lapse") (lapsed_words v t m z p d) xs ys (granted_plain u s l n c h) (lapsed_plain v t m z p d k) e in
    absurd (omega (arith, ap (λ (word : List ℕ). slice_index word 0) q.first))
grant_cut (grants.Lapsed u s l w n c) (grants.Granted v t m p d) xs ys h k e =
    let q = line_cut (codes "lapse") (lapsed_words u s l w n c) (codes "grant") (granted_words v t m p d) xs ys (lapsed_plain u s l w n c h) (granted_plain v t m p d k) e in
    absurd (omega (arith, ap (λ (word : List ℕ). slice_index word 0) q.first))
grant_cut (grants.Lapsed u s l w n c) (grants.Lapsed v t m z p d) xs ys h k e =
    let q = line_cut (codes "lapse") (lapsed_words u s l w n c) (codes "lapse") (lapsed_words v t m z p d) xs ys (lapsed_plain u s l w n c h) (lapsed_plain v t m z p d k) e in
    record {
      row = lapsed_from u v s t l m w z n p c d
          (name_tells u v h.name_of k.name_of (word_of 0 _ _ q.words))
          (told 1 s t _ _ h.in_session k.in_session q.words refl refl)
          (told 2 l m _ _ h.of_login k.of_login q.words refl refl)
          (cause_tells w z (word_of 3 _ _ q.words))
          (told 4 n p _ _ (half_is_word n h.then_outstanding) (half_is_word p k.then_outstanding) q.words refl refl)
          (told 5 c d _ _ (half_is_word c h.then_granted) (half_is_word d k.then_granted) q.words refl refl);
      rest = q.rest;
    }

-- served requests

abbrev served : UnitId → (session login number : ℕ) → (iu out : List ℕ) → Option ℕ → (answer inn : List ℕ) → Served
served u s l n iu out fault answer inn =
    record { unit = u; session = s; login = l; number = n; iu = iu; out = out; fault = fault; answer = answer; inn = inn }

served_parts : (u v : UnitId) (s t l m n p : ℕ) (iu ju out put : List ℕ) (f g : Option ℕ) (a b i j : List ℕ)
    → u ≡ v → s ≡ t → l ≡ m → n ≡ p → iu ≡ ju → out ≡ put → f ≡ g → a ≡ b → i ≡ j
    → served u s l n iu out f a i ≡ served v t m p ju put g b j
served_parts u v s t l m n p iu ju out put f g a b i j e1 e2 e3 e4 e5 e6 e7 e8 e9 = rw (e1, e2, e3, e4, e5, e6, e7, e8, e9) refl

served_from : (a b : Served) → a.unit ≡ b.unit → a.session ≡ b.session → a.login ≡ b.login → a.number ≡ b.number
    → a.iu ≡ b.iu → a.out ≡ b.out → a.fault ≡ b.fault → a.answer ≡ b.answer → a.inn ≡ b.inn → a ≡ b
served_from a b e f g h i j k l m =
    served_parts a.unit b.unit a.session b.session a.login b.login a.number b.number a.iu b.iu a.out b.out a.fault b.fault a.answer b.answer a.inn b.inn e f g h i j k l m

pub serve_cut : IsCut serve_text IsServeRow
serve_cut = line_row (λ row. codes "serve") (λ row. name row.unit ∷ decimal row.session ∷ decimal row.login ∷ decimal row.number
    ∷ bytes row.iu ∷ bytes row.out ∷ number_or_none row.fault ∷ bytes row.answer ∷ bytes row.inn ∷ []) IsServeRow
    (λ a h. (
      search (rules, arith),
      (
        plain_name a.unit h.unit,
        (
          plain_decimal a.session h.session,
          (
            plain_decimal a.login h.login,
            (
              plain_decimal a.number h.number,
              (plain_bytes a.iu h.iu, (plain_bytes a.out h.out, (plain_number_or_none a.fault h.fault, (plain_bytes a.answer h.answer, (plain_bytes a.inn h.inn, tt))))),
            ),
          ),
        ),
      ),
    ))
    (λ a b h k e f. served_from a b
    (name_tells a.unit b.unit h.unit k.unit (word_of 0 _ _ f))
    (told 1 a.session b.session _ _ h.session k.session f refl refl)
    (told 2 a.login b.login _ _ h.login k.login f refl refl)
    (told 3 a.number b.number _ _ h.number k.number f refl refl)
    (bytes_tell a.iu b.iu h.iu k.iu (word_of 4 _ _ f))
    (bytes_tell a.out b.out h.out k.out (word_of 5 _ _ f))
    (number_or_none_tells a.fault b.fault h.fault k.fault (word_of 6 _ _ f))
    (bytes_tell a.answer b.answer h.answer k.answer (word_of 7 _ _ f))
    (bytes_tell a.inn b.inn h.inn k.inn (word_of 8 _ _ f)))

-- answers

abbrev answer_row : UnitId → (session tag : ℕ) → (answer : List ℕ) → AnswerRow
answer_row u s t a = record { unit = u; session = s; tag = t; answer = a }

answer_parts : (u v : UnitId) (s t n m : ℕ) (a b : List ℕ) → u ≡ v → s ≡ t → n ≡ m → a ≡ b → answer_row u s n a ≡ answer_row v t m b
answer_parts u v s t n m a b e f g h = rw (e, f, g, h) refl

answer_from : (a b : AnswerRow) → a.unit ≡ b.unit → a.session ≡ b.session → a.tag ≡ b.tag → a.answer ≡ b.answer → a ≡ b
answer_from a b e f g h = answer_parts a.unit b.unit a.session b.session a.tag b.tag a.answer b.answer e f g h

pub answer_cut : IsCut answer_text IsAnswerRow
answer_cut = line_row (λ row. codes "answer") (λ row. name row.unit ∷ decimal row.session ∷ decimal row.tag ∷ bytes row.answer ∷ []) IsAnswerRow
    (λ a h. (search (rules, arith), (plain_name a.unit h.unit, (plain_decimal a.session h.session, (plain_decimal a.tag h.tag, (plain_bytes a.answer h.answer, tt))))))
    (λ a b h k e f. answer_from a b
    (name_tells a.unit b.unit h.unit k.unit (word_of 0 _ _ f))
    (told 1 a.session b.session _ _ h.session k.session f refl refl)
    (told 2 a.tag b.tag _ _ h.tag k.tag f refl refl)
    (bytes_tell a.answer b.answer h.answer k.answer (word_of 3 _ _ f)))
