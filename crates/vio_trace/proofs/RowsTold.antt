-- Each row's text can be cut off in one way alone, and tells the row.
use Rattle.std.proofs.Common.{◌≡◌, ℕ, List, [], ◌∷◌, ◌++◌, length, slice_index_or, drop, codes, decimal, refl, sym, ap, ◌∙◌, append_assoc, arith, rules}
use Rattle.std.specs.List.{flat_map}
use Rattle.std.proofs.lemmas.Fmt.{decimal_injective}
use Rattle.vio_num.specs.declared.entry.Entry.{Entry}
use Rattle.vio_num.specs.declared.names.UnitId.{UnitId}
use Rattle.vio_trace.specs.declared.rows.LogRow.{LogRow}
use Rattle.vio_trace.specs.declared.outcome.Outcome.{Outcome}
use Rattle.vio_trace.specs.declared.rows.QueueRow.{QueueRow}
use Rattle.vio_trace.specs.declared.rows.DropRow.{DropRow}
use Rattle.vio_trace.specs.Form.{IsWord, IsHalf, IsLogRow, IsEntry, IsDropRow, IsQueueLine, IsQueueRow}
use Rattle.vio_trace.specs.Text.{name, digits, outcome_words, log_text, entry_text, drop_text, queue_line, queue_text}
use Rattle.vio_trace.proofs.Cuts.{Above, ArePlain, IsCut, line_row, line_cut, counted_cut}
use Rattle.vio_trace.proofs.Outcomes.{outcome_plain, outcome_tells}
use Rattle.vio_trace.proofs.Spelled.{plain_decimal, plain_name, name_tells, plain_digits, digits_tell}

-- the word at a place of a line
abbrev pub word_at : ℕ → List (List ℕ) → List ℕ
word_at k words = slice_index_or words k []

-- equal lines of words have equal words
pub word_of : (k : ℕ) (v w : List (List ℕ)) → v ≡ w → word_at k v ≡ word_at k w
word_of k v w e = ap (λ (words : List (List ℕ)). word_at k words) e

pub half_is_word : (n : ℕ) → IsHalf n → IsWord n
half_is_word n h = omega (arith, h)

-- equal words of decimal numbers
pub told : (k m n : ℕ) (v w : List (List ℕ)) → IsWord m → IsWord n → v ≡ w → word_at k v ≡ decimal m → word_at k w ≡ decimal n → m ≡ n
told k m n v w h j e f g = decimal_injective m n h j (sym f ∙ word_of k v w e ∙ g)

-- script lines

log_from : (a b : LogRow) → a.partition ≡ b.partition → a.line ≡ b.line → a.outcome ≡ b.outcome → a ≡ b
log_from a b e f g =
    ap (λ (n : ℕ). let made : LogRow = record { partition = n; line = a.line; outcome = a.outcome } in made) e
    ∙ ap (λ (n : ℕ). let made : LogRow = record { partition = b.partition; line = n; outcome = a.outcome } in made) f
    ∙ ap (λ (o : Outcome). let made : LogRow = record { partition = b.partition; line = b.line; outcome = o } in made) g

pub log_cut : IsCut log_text IsLogRow
log_cut = line_row (λ row. codes "log") (λ row. decimal row.partition ∷ decimal row.line ∷ outcome_words row.outcome) IsLogRow
    (λ a h. (search (rules, arith), (plain_decimal a.partition (omega (arith, h.partition)), (plain_decimal a.line (half_is_word a.line h.line), outcome_plain a.outcome h.outcome))))
    (λ a b h k e f. log_from a b
    (told 0 a.partition b.partition _ _ (omega (arith, h.partition)) (omega (arith, k.partition)) f refl refl)
    (told 1 a.line b.line _ _ (half_is_word a.line h.line) (half_is_word b.line k.line) f refl refl)
    (outcome_tells a.outcome b.outcome h.outcome k.outcome (ap (λ (words : List (List ℕ)). drop 2 words) f)))

-- entries

entry_from : (a b : Entry) → a.high ≡ b.high → a.low ≡ b.low → a ≡ b
entry_from a b e f =
    ap (λ (n : ℕ). let made : Entry = record { high = n; low = a.low } in made) e
    ∙ ap (λ (n : ℕ). let made : Entry = record { high = b.high; low = n } in made) f

pub entry_cut : (word : List ℕ) → Above 32 word → IsCut (entry_text word) IsEntry
entry_cut word plain = line_row (λ entry. word) (λ entry. digits entry.high ∷ digits entry.low ∷ []) IsEntry
    (λ a h. (plain, (plain_digits a.high, (plain_digits a.low, tt))))
    (λ a b h k e f. entry_from a b
    (digits_tell a.high b.high h.high k.high (word_of 0 _ _ f))
    (digits_tell a.low b.low h.low k.low (word_of 1 _ _ f)))

-- drops

drop_from : (a b : DropRow) → a.number ≡ b.number → a.held ≡ b.held → a ≡ b
drop_from a b e f =
    ap (λ (n : ℕ). let made : DropRow = record { number = n; held = a.held } in made) e
    ∙ ap (λ (n : ℕ). let made : DropRow = record { number = b.number; held = n } in made) f

pub drop_cut : IsCut drop_text IsDropRow
drop_cut = line_row (λ row. codes "drop") (λ row. decimal row.number ∷ digits row.held ∷ []) IsDropRow
    (λ a h. (search (rules, arith), (plain_decimal a.number h.number, (plain_digits a.held, tt))))
    (λ a b h k e f. drop_from a b
    (told 0 a.number b.number _ _ h.number k.number f refl refl)
    (digits_tell a.held b.held h.held k.held (word_of 1 _ _ f)))

-- sessions

-- what the first line of a session tells
pub record SameHead (a b : QueueRow) (xs ys : List ℕ) : Type 0 where
  pub unit : a.unit ≡ b.unit
  pub session : a.session ≡ b.session
  pub slots : a.slots ≡ b.slots
  pub sent : length a.sent ≡ length b.sent
  pub taken : length a.taken ≡ length b.taken
  pub drops : length a.drops ≡ length b.drops
  pub rest : xs ≡ ys

abbrev pub queue_words : QueueRow → List (List ℕ)
queue_words row = name row.unit ∷ decimal row.session ∷ decimal row.slots
    ∷ decimal (length row.sent) ∷ decimal (length row.taken) ∷ decimal (length row.drops) ∷ []

pub queue_plain : (a : QueueRow) → IsQueueLine a → ArePlain (codes "queue" ∷ queue_words a)
queue_plain a h = (
  search (rules, arith),
  (
    plain_name a.unit h.unit,
    (
      plain_decimal a.session h.session,
      (
        plain_decimal a.slots (half_is_word a.slots h.slots),
        (plain_decimal (length a.sent) h.sent, (plain_decimal (length a.taken) h.taken, (plain_decimal (length a.drops) h.drops, tt))),
      ),
    ),
  ),
)

head_cut : (a b : QueueRow) (xs ys : List ℕ) → IsQueueLine a → IsQueueLine b → queue_line a ++ xs ≡ queue_line b ++ ys → SameHead a b xs ys
head_cut a b xs ys h k e =
    let s = line_cut (codes "queue") (queue_words a) (codes "queue") (queue_words b) xs ys (queue_plain a h) (queue_plain b k) e in
    record {
      unit = name_tells a.unit b.unit h.unit k.unit (word_of 0 _ _ s.words);
      session = told 1 a.session b.session _ _ h.session k.session s.words refl refl;
      slots = told 2 a.slots b.slots _ _ (half_is_word a.slots h.slots) (half_is_word b.slots k.slots) s.words refl refl;
      sent = told 3 (length a.sent) (length b.sent) _ _ h.sent k.sent s.words refl refl;
      taken = told 4 (length a.taken) (length b.taken) _ _ h.taken k.taken s.words refl refl;
      drops = told 5 (length a.drops) (length b.drops) _ _ h.drops k.drops s.words refl refl;
      rest = s.rest;
    }

queue_from : (a b : QueueRow) → a.unit ≡ b.unit → a.session ≡ b.session → a.slots ≡ b.slots
    → a.sent ≡ b.sent → a.taken ≡ b.taken → a.drops ≡ b.drops → a ≡ b
queue_from a b e f g h i j =
    ap (λ (u : UnitId). let made : QueueRow = record { unit = u; session = a.session; slots = a.slots; sent = a.sent; taken = a.taken; drops = a.drops } in made) e
    ∙ ap (λ (n : ℕ). let made : QueueRow = record { unit = b.unit; session = n; slots = a.slots; sent = a.sent; taken = a.taken; drops = a.drops } in made) f
    ∙ ap (λ (n : ℕ). let made : QueueRow = record { unit = b.unit; session = b.session; slots = n; sent = a.sent; taken = a.taken; drops = a.drops } in made) g
    ∙ ap (λ (l : List Entry). let made : QueueRow = record { unit = b.unit; session = b.session; slots = b.slots; sent = l; taken = a.taken; drops = a.drops } in made) h
    ∙ ap (λ (l : List Entry). let made : QueueRow = record { unit = b.unit; session = b.session; slots = b.slots; sent = b.sent; taken = l; drops = a.drops } in made) i
    ∙ ap (λ (l : List DropRow). let made : QueueRow = record { unit = b.unit; session = b.session; slots = b.slots; sent = b.sent; taken = b.taken; drops = l } in made) j

-- a session's text, its parts one behind the other
abbrev parts : QueueRow → List ℕ → List ℕ
parts row xs = queue_line row ++ (flat_map (entry_text (codes "sent")) row.sent
    ++ (flat_map (entry_text (codes "took")) row.taken ++ (flat_map drop_text row.drops ++ xs)))

apart : (row : QueueRow) (xs : List ℕ) → queue_text row ++ xs ≡ parts row xs
apart row xs = simp append_assoc

pub queue_cut : IsCut queue_text IsQueueRow
queue_cut a b xs ys h k e =
    let sent : IsCut (entry_text (codes "sent")) IsEntry = entry_cut (codes "sent") (search (rules, arith)) in
    let took : IsCut (entry_text (codes "took")) IsEntry = entry_cut (codes "took") (search (rules, arith)) in
    let s = head_cut a b _ _ h.line k.line (sym (apart a xs) ∙ e ∙ apart b ys) in
    let t = counted_cut (entry_text (codes "sent")) IsEntry sent a.sent b.sent _ _ h.sent k.sent s.sent s.rest in
    let u = counted_cut (entry_text (codes "took")) IsEntry took a.taken b.taken _ _ h.taken k.taken s.taken t.rest in
    let d = counted_cut drop_text IsDropRow drop_cut a.drops b.drops _ _ h.drops k.drops s.drops u.rest in
    record { row = queue_from a b s.unit s.session s.slots t.row u.row d.row; rest = d.rest }
