-- The rows of what windows and their pages keep: each row's text can be cut off in one way alone.
use Rattle.std.proofs.Common.{◌≡◌, ℕ, List, [], ◌∷◌, ◌++◌, length, codes, decimal, refl, sym, ◌∙◌, append_assoc, arith, rules}
use Rattle.std.specs.List.{flat_map}
use Rattle.vio_num.specs.declared.names.UnitId.{UnitId}
use Rattle.vio_trace.specs.declared.window_rows.TceValueRow.{TceValueRow}
use Rattle.vio_trace.specs.declared.window_rows.PieceRow.{PieceRow}
use Rattle.vio_trace.specs.declared.window_rows.CopyRow.{CopyRow}
use Rattle.vio_trace.specs.declared.window_rows.StrokeRow.{StrokeRow}
use Rattle.vio_trace.specs.Form.{IsShort, IsWord, IsTceValueRow, IsPieceRow, IsCopyLine, IsCopyRow, IsStrokeRow}
use Rattle.vio_trace.specs.Text.{name, digits, bytes, tce_text, piece_text, copy_line, copy_text, stroke_text}
use Rattle.vio_trace.proofs.Cuts.{Above, ArePlain, IsCut, line_row, line_cut, counted_cut}
use Rattle.vio_trace.proofs.Spelled.{plain_decimal, plain_name, name_tells, plain_digits, digits_tell, plain_bytes, bytes_tell}
use Rattle.vio_trace.proofs.RowsTold.{word_of, told, half_is_word}

pub short_is_word : (n : ℕ) → IsShort n → IsWord n
short_is_word n h = omega (arith, h)

-- values

abbrev tce_row : UnitId → (entry version value : ℕ) → TceValueRow
tce_row u e v w = record { unit = u; entry = e; version = v; value = w }

tce_parts : (u v : UnitId) (a b c d e f : ℕ) → u ≡ v → a ≡ b → c ≡ d → e ≡ f → tce_row u a c e ≡ tce_row v b d f
tce_parts u v a b c d e f p q r s = rw (p, q, r, s) refl

tce_from : (a b : TceValueRow) → a.unit ≡ b.unit → a.entry ≡ b.entry → a.version ≡ b.version → a.value ≡ b.value → a ≡ b
tce_from a b p q r s = tce_parts a.unit b.unit a.entry b.entry a.version b.version a.value b.value p q r s

pub tce_cut : IsCut tce_text IsTceValueRow
tce_cut = line_row (λ row. codes "tce") (λ row. name row.unit ∷ decimal row.entry ∷ decimal row.version ∷ digits row.value ∷ []) IsTceValueRow
    (λ a h. (
      search (rules, arith),
      (plain_name a.unit h.unit, (plain_decimal a.entry (short_is_word a.entry h.entry), (plain_decimal a.version (half_is_word a.version h.version), (plain_digits a.value, tt)))),
    ))
    (λ a b h k e f. tce_from a b
    (name_tells a.unit b.unit h.unit k.unit (word_of 0 _ _ f))
    (told 1 a.entry b.entry _ _ (short_is_word a.entry h.entry) (short_is_word b.entry k.entry) f refl refl)
    (told 2 a.version b.version _ _ (half_is_word a.version h.version) (half_is_word b.version k.version) f refl refl)
    (digits_tell a.value b.value h.value k.value (word_of 3 _ _ f)))

-- pieces

abbrev piece_row : UnitId → (entry version page offset len at : ℕ) → PieceRow
piece_row u e v p o l a = record { unit = u; entry = e; version = v; page = p; offset = o; len = l; at = a }

piece_parts : (u v : UnitId) (a b c d e f g h i j k l : ℕ) → u ≡ v → a ≡ b → c ≡ d → e ≡ f → g ≡ h → i ≡ j → k ≡ l
    → piece_row u a c e g i k ≡ piece_row v b d f h j l
piece_parts u v a b c d e f g h i j k l p1 p2 p3 p4 p5 p6 p7 = rw (p1, p2, p3, p4, p5, p6, p7) refl

piece_from : (a b : PieceRow) → a.unit ≡ b.unit → a.entry ≡ b.entry → a.version ≡ b.version → a.page ≡ b.page
    → a.offset ≡ b.offset → a.len ≡ b.len → a.at ≡ b.at → a ≡ b
piece_from a b p q r s t u v =
    piece_parts a.unit b.unit a.entry b.entry a.version b.version a.page b.page a.offset b.offset a.len b.len a.at b.at p q r s t u v

pub piece_cut : (word : List ℕ) → Above 32 word → IsCut (piece_text word) IsPieceRow
piece_cut word plain = line_row (λ row. word) (λ row. name row.unit ∷ decimal row.entry ∷ decimal row.version ∷ decimal row.page
    ∷ decimal row.offset ∷ decimal row.len ∷ decimal row.at ∷ []) IsPieceRow
    (λ a h. (
      plain,
      (
        plain_name a.unit h.unit,
        (
          plain_decimal a.entry (short_is_word a.entry h.entry),
          (
            plain_decimal a.version (half_is_word a.version h.version),
            (
              plain_decimal a.page (short_is_word a.page h.page),
              (plain_decimal a.offset (short_is_word a.offset h.offset), (plain_decimal a.len (short_is_word a.len h.len), (plain_decimal a.at (half_is_word a.at h.at), tt))),
            ),
          ),
        ),
      ),
    ))
    (λ a b h k e f. piece_from a b
    (name_tells a.unit b.unit h.unit k.unit (word_of 0 _ _ f))
    (told 1 a.entry b.entry _ _ (short_is_word a.entry h.entry) (short_is_word b.entry k.entry) f refl refl)
    (told 2 a.version b.version _ _ (half_is_word a.version h.version) (half_is_word b.version k.version) f refl refl)
    (told 3 a.page b.page _ _ (short_is_word a.page h.page) (short_is_word b.page k.page) f refl refl)
    (told 4 a.offset b.offset _ _ (short_is_word a.offset h.offset) (short_is_word b.offset k.offset) f refl refl)
    (told 5 a.len b.len _ _ (short_is_word a.len h.len) (short_is_word b.len k.len) f refl refl)
    (told 6 a.at b.at _ _ (half_is_word a.at h.at) (half_is_word b.at k.at) f refl refl))

-- copies

-- what the first line of a copy tells
pub record SameCopyLine (a b : CopyRow) (xs ys : List ℕ) : Type 0 where
  pub unit : a.unit ≡ b.unit
  pub mark : a.mark ≡ b.mark
  pub len : a.len ≡ b.len
  pub from : length a.from ≡ length b.from
  pub to : length a.to ≡ length b.to
  pub rest : xs ≡ ys

abbrev pub copy_words : CopyRow → List (List ℕ)
copy_words row = name row.unit ∷ decimal row.mark ∷ decimal row.len ∷ decimal (length row.from) ∷ decimal (length row.to) ∷ []

pub copy_plain : (a : CopyRow) → IsCopyLine a → ArePlain (codes "copy" ∷ copy_words a)
copy_plain a h = (
  search (rules, arith),
  (
    plain_name a.unit h.unit,
    (
      plain_decimal a.mark h.mark,
      (plain_decimal a.len (half_is_word a.len h.len), (plain_decimal (length a.from) h.from, (plain_decimal (length a.to) h.to, tt))),
    ),
  ),
)

copy_line_cut : (a b : CopyRow) (xs ys : List ℕ) → IsCopyLine a → IsCopyLine b → copy_line a ++ xs ≡ copy_line b ++ ys → SameCopyLine a b xs ys
copy_line_cut a b xs ys h k e =
    let s = line_cut (codes "copy") (copy_words a) (codes "copy") (copy_words b) xs ys (copy_plain a h) (copy_plain b k) e in
    record {
      unit = name_tells a.unit b.unit h.unit k.unit (word_of 0 _ _ s.words);
      mark = told 1 a.mark b.mark _ _ h.mark k.mark s.words refl refl;
      len = told 2 a.len b.len _ _ (half_is_word a.len h.len) (half_is_word b.len k.len) s.words refl refl;
      from = told 3 (length a.from) (length b.from) _ _ h.from k.from s.words refl refl;
      to = told 4 (length a.to) (length b.to) _ _ h.to k.to s.words refl refl;
      rest = s.rest;
    }

abbrev copy_row : UnitId → (mark len : ℕ) → (from to : List PieceRow) → CopyRow
copy_row u m l from to = record { unit = u; mark = m; len = l; from = from; to = to }

copy_parts : (u v : UnitId) (a b c d : ℕ) (f g s t : List PieceRow) → u ≡ v → a ≡ b → c ≡ d → f ≡ g → s ≡ t
    → copy_row u a c f s ≡ copy_row v b d g t
copy_parts u v a b c d f g s t p1 p2 p3 p4 p5 = rw (p1, p2, p3, p4, p5) refl

copy_from : (a b : CopyRow) → a.unit ≡ b.unit → a.mark ≡ b.mark → a.len ≡ b.len → a.from ≡ b.from → a.to ≡ b.to → a ≡ b
copy_from a b p q r s t = copy_parts a.unit b.unit a.mark b.mark a.len b.len a.from b.from a.to b.to p q r s t

copy_apart : (row : CopyRow) (xs : List ℕ) → copy_text row ++ xs
    ≡ copy_line row ++ (flat_map (piece_text (codes "from")) row.from ++ (flat_map (piece_text (codes "to")) row.to ++ xs))
copy_apart row xs = simp append_assoc

pub copy_cut : IsCut copy_text IsCopyRow
copy_cut a b xs ys h k e =
    let from : IsCut (piece_text (codes "from")) IsPieceRow = piece_cut (codes "from") (search (rules, arith)) in
    let to : IsCut (piece_text (codes "to")) IsPieceRow = piece_cut (codes "to") (search (rules, arith)) in
    let s = copy_line_cut a b _ _ h.line k.line (sym (copy_apart a xs) ∙ e ∙ copy_apart b ys) in
    let t = counted_cut (piece_text (codes "from")) IsPieceRow from a.from b.from _ _ h.from k.from s.from s.rest in
    let u = counted_cut (piece_text (codes "to")) IsPieceRow to a.to b.to _ _ h.to k.to s.to t.rest in
    record { row = copy_from a b s.unit s.mark s.len t.row u.row; rest = u.rest }

-- strokes

abbrev stroke_row : UnitId → (page place : ℕ) → UnitId → (mark offset : ℕ) → (bytes : List ℕ) → StrokeRow
stroke_row u p a w m o b = record { unit = u; page = p; place = a; writer = w; mark = m; offset = o; bytes = b }

stroke_parts : (u v : UnitId) (a b c d : ℕ) (w z : UnitId) (e f g h : ℕ) (s t : List ℕ) → u ≡ v → a ≡ b → c ≡ d → w ≡ z → e ≡ f → g ≡ h → s ≡ t
    → stroke_row u a c w e g s ≡ stroke_row v b d z f h t
stroke_parts u v a b c d w z e f g h s t p1 p2 p3 p4 p5 p6 p7 = rw (p1, p2, p3, p4, p5, p6, p7) refl

stroke_from : (a b : StrokeRow) → a.unit ≡ b.unit → a.page ≡ b.page → a.place ≡ b.place → a.writer ≡ b.writer
    → a.mark ≡ b.mark → a.offset ≡ b.offset → a.bytes ≡ b.bytes → a ≡ b
stroke_from a b p q r s t u v =
    stroke_parts a.unit b.unit a.page b.page a.place b.place a.writer b.writer a.mark b.mark a.offset b.offset a.bytes b.bytes p q r s t u v

pub stroke_cut : IsCut stroke_text IsStrokeRow
stroke_cut = line_row (λ row. codes "stroke") (λ row. name row.unit ∷ decimal row.page ∷ decimal row.place ∷ name row.writer
    ∷ decimal row.mark ∷ decimal row.offset ∷ bytes row.bytes ∷ []) IsStrokeRow
    (λ a h. (
      search (rules, arith),
      (
        plain_name a.unit h.unit,
        (
          plain_decimal a.page (short_is_word a.page h.page),
          (
            plain_decimal a.place (half_is_word a.place h.place),
            (
              plain_name a.writer h.writer,
              (plain_decimal a.mark h.mark, (plain_decimal a.offset (short_is_word a.offset h.offset), (plain_bytes a.bytes h.bytes, tt))),
            ),
          ),
        ),
      ),
    ))
    (λ a b h k e f. stroke_from a b
    (name_tells a.unit b.unit h.unit k.unit (word_of 0 _ _ f))
    (told 1 a.page b.page _ _ (short_is_word a.page h.page) (short_is_word b.page k.page) f refl refl)
    (told 2 a.place b.place _ _ (half_is_word a.place h.place) (half_is_word b.place k.place) f refl refl)
    (name_tells a.writer b.writer h.writer k.writer (word_of 3 _ _ f))
    (told 4 a.mark b.mark _ _ h.mark k.mark f refl refl)
    (told 5 a.offset b.offset _ _ (short_is_word a.offset h.offset) (short_is_word b.offset k.offset) f refl refl)
    (bytes_tell a.bytes b.bytes h.bytes k.bytes (word_of 6 _ _ f)))
