-- What is left of a section while its rows are read.
use Rattle.std.proofs.Common.{◌≡◌, ◌<◌, ℕ, List, [], ◌∷◌, ◌++◌, All, refl, sym, ap, subst, ◌∙◌, append_assoc, append-nil, arith}
use Rattle.std.specs.List.{flat_map}
use Rattle.std.proofs.lemmas.List.Elements.{All-head, All-tail}
use Rattle.vio_trace.specs.Form.{Ascend}
use Rattle.vio_trace.specs.Reading.{FollowsLast, NoneBegins}
use Rattle.vio_trace.specs.Sections.{IsSection, KeepsApart, NoSection, OnlySection, section}

-- the rows of a section begin with those that were read, and the others stand in what is left
pub record Ahead {Row : Type 0} (text : Row → List ℕ) (rows others : List Row) (more rest : List ℕ) : Type 0 where
  pub left : List Row
  pub are : others ≡ rows ++ left
  pub behind : rest ≡ flat_map text left ++ more

-- at first all are left
pub ahead_first : {Row : Type 0} → (text : Row → List ℕ) (others : List Row) (more bytes : List ℕ)
    → bytes ≡ flat_map text others ++ more → Ahead text [] others more bytes
ahead_first text others more bytes e = record { left = others; are = refl; behind = e }

-- what all rows of a list have, the first behind a front has
pub all_at : {Row : Type 0} → (P : Row → Type 0) (rows : List Row) (row : Row) (left : List Row) → All P (rows ++ row ∷ left) → P row
all_at P [] row left h = All-head P row left h
all_at P (r ∷ rows) row left h = all_at P rows row left (All-tail P r (rows ++ row ∷ left) h)

-- a row of a section stands in order behind those before it
pub at_order : {Row : Type 0} → (before : Row → Row → Type 0) (rows : List Row) (row : Row) (left : List Row)
    → Ascend before (rows ++ row ∷ left) → FollowsLast before rows row
at_order before [] row left h = tt
at_order before (r ∷ []) row left h = h.0
at_order before (r ∷ s ∷ rows) row left h = at_order before (s ∷ rows) row left h.1

-- the first row that is left is the one that was read
record IsRead {Row : Type 0} (text : Row → List ℕ) (row : Row) (left : List Row) (more behind : List ℕ) : Type 0 where
  others : List Row
  are : left ≡ row ∷ others
  rest : behind ≡ flat_map text others ++ more

is_read : {Row : Type 0} → (text : Row → List ℕ) (in_range named : Row → Type 0) (follows : Row → List ℕ → Type 0) (kind : ℕ)
    → KeepsApart text in_range named follows kind → (left : List Row) (row : Row) (more behind : List ℕ)
    → All in_range left → All named left → kind < section more → in_range row → named row → follows row behind
    → flat_map text left ++ more ≡ text row ++ behind → IsRead text row left more behind
is_read text in_range named follows kind apart [] row more behind p q later h n f e =
    absurd (omega (arith, later, ap section e, apart.begins row behind))
is_read {Row} text in_range named follows kind apart (o ∷ []) row more behind p q later h n f e =
    let same = apart.cut o row more behind (All-head in_range o [] p) h (All-head named o [] q) n (apart.ends o more later) f
    (ap (λ (l : List ℕ). l ++ more) (sym (append-nil (text o))) ∙ e) in
    record { others = []; are = ap (λ (r : Row). r ∷ []) same.0; rest = sym same.1 }
is_read {Row} text in_range named follows kind apart (o ∷ u ∷ left) row more behind p q later h n f e =
    let assoc = append_assoc (text o) (flat_map text (u ∷ left)) more in
    let next = append_assoc (text u) (flat_map text left) more in
    let follows_o = subst (λ (l : List ℕ). follows o l) (sym next) (apart.joins o u (flat_map text left ++ more)) in
    let same = apart.cut o row (flat_map text (u ∷ left) ++ more) behind (All-head in_range o (u ∷ left) p) h
    (All-head named o (u ∷ left) q) n follows_o f (sym assoc ∙ e) in
    record { others = u ∷ left; are = ap (λ (r : Row). r ∷ u ∷ left) same.0; rest = sym same.1 }

-- the rows that are left, of rows that are all so
all_left : {Row : Type 0} → (P : Row → Type 0) (rows left : List Row) → All P (rows ++ left) → All P left
all_left P [] left h = h
all_left P (r ∷ rows) left h = all_left P rows left (All-tail P r (rows ++ left) h)

-- one row more was read
pub ahead_more : {Row : Type 0} → (text : Row → List ℕ) (in_range named : Row → Type 0) (follows : Row → List ℕ → Type 0)
    (before : Row → Row → Type 0) (kind : ℕ) → KeepsApart text in_range named follows kind
    → (rows others : List Row) (row : Row) (more bytes rest behind : List ℕ)
    → IsSection text in_range named before kind others more bytes → Ahead text rows others more rest
    → in_range row → named row → follows row behind → rest ≡ text row ++ behind
    → Ahead text (rows ++ row ∷ []) others more behind
ahead_more {Row} text in_range named follows before kind apart rows others row more bytes rest behind is ahead h n f e =
    let range = subst (λ (l : List Row). All in_range l) ahead.are is.range in
    let names = subst (λ (l : List Row). All named l) ahead.are is.names in
    let read = is_read text in_range named follows kind apart ahead.left row more behind
    (all_left in_range rows ahead.left range) (all_left named rows ahead.left names) is.later h n f
    (sym ahead.behind ∙ e) in
    record {
      left = read.others;
      are = ahead.are ∙ ap (λ (l : List Row). rows ++ l) read.are ∙ sym (append_assoc rows (row ∷ []) read.others);
      behind = read.rest;
    }

-- none is left, so the rows are those that were read
pub none_left : {Row : Type 0} → (text : Row → List ℕ) (rows others left : List Row) (more rest : List ℕ)
    → others ≡ rows ++ left → rest ≡ flat_map text left ++ more → left ≡ [] → (others ≡ rows) × (more ≡ rest)
none_left {Row} text rows others left more rest are behind e = (
  are ∙ ap (λ (l : List Row). rows ++ l) e ∙ append-nil rows,
  sym (behind ∙ ap (λ (l : List Row). flat_map text l ++ more) e),
)

-- where no row begins what is left, none is left
pub done_refused : {Row : Type 0} → (text : Row → List ℕ) (in_range named : Row → Type 0) (before : Row → Row → Type 0) (kind : ℕ)
    (rows others : List Row) (more bytes rest : List ℕ)
    → IsSection text in_range named before kind others more bytes → Ahead text rows others more rest
    → NoneBegins text in_range rest → (others ≡ rows) × (more ≡ rest)
done_refused {Row} text in_range named before kind rows others more bytes rest is ahead none =
    none_left text rows others ahead.left more rest ahead.are ahead.behind (empty ahead.left ahead.are ahead.behind) where
      empty : (left : List Row) → others ≡ rows ++ left → rest ≡ flat_map text left ++ more → left ≡ []
      empty [] are e = refl
      empty (o ∷ left) are e =
          absurd (none o (flat_map text left ++ more) (all_at in_range rows o left (subst (λ (l : List Row). All in_range l) are is.range))
          (e ∙ append_assoc (text o) (flat_map text left) more))

-- where the row that begins what is left may not stand behind those that were read, none is left
pub done_order : {Row : Type 0} → (text : Row → List ℕ) (in_range named : Row → Type 0) (follows : Row → List ℕ → Type 0)
    (before : Row → Row → Type 0) (kind : ℕ) → KeepsApart text in_range named follows kind
    → (rows others : List Row) (row : Row) (more bytes rest behind : List ℕ)
    → IsSection text in_range named before kind others more bytes → Ahead text rows others more rest
    → in_range row → named row → follows row behind → rest ≡ text row ++ behind → ¬ (FollowsLast before rows row)
    → (others ≡ rows) × (more ≡ rest)
done_order {Row} text in_range named follows before kind apart rows others row more bytes rest behind is ahead h n f e out =
    let next = ahead_more text in_range named follows before kind apart rows others row more bytes rest behind is ahead h n f e in
    let are = next.are ∙ append_assoc rows (row ∷ []) next.left in
    absurd (out (at_order before rows row next.left (subst (λ (l : List Row). Ascend before l) are is.order)))

-- where no row begins what is left, but a line of the section does, there is no whole section
pub none_whole : {Row : Type 0} → (text : Row → List ℕ) (in_range named : Row → Type 0) (before : Row → Row → Type 0) (kind : ℕ)
    (rows others : List Row) (more bytes rest : List ℕ)
    → IsSection text in_range named before kind others more bytes → Ahead text rows others more rest
    → NoneBegins text in_range rest → ¬ (section rest ≡ kind)
none_whole text in_range named before kind rows others more bytes rest is ahead none e =
    let same = done_refused text in_range named before kind rows others more bytes rest is ahead none in
    omega (arith, is.later, ap section same.1, e)

-- whatever whole section stands at the front of the bytes begins with these rows, and its others stand in what is left
abbrev pub AllAhead : {Row : Type 0} → (Row → List ℕ) → (Row → Type 0) → (Row → Type 0) → (Row → Row → Type 0) → ℕ
    → List Row → List ℕ → List ℕ → Type 0
AllAhead {Row} text in_range named before kind rows rest bytes = (others : List Row) (more : List ℕ)
    → IsSection text in_range named before kind others more bytes → Ahead text rows others more rest

pub all_first : {Row : Type 0} → (text : Row → List ℕ) (in_range named : Row → Type 0) (before : Row → Row → Type 0) (kind : ℕ)
    (bytes : List ℕ) → AllAhead text in_range named before kind [] bytes bytes
all_first text in_range named before kind bytes others more is = ahead_first text others more bytes is.whole

pub all_more : {Row : Type 0} → (text : Row → List ℕ) (in_range named : Row → Type 0) (follows : Row → List ℕ → Type 0)
    (before : Row → Row → Type 0) (kind : ℕ) → KeepsApart text in_range named follows kind
    → (rows : List Row) (row : Row) (bytes rest behind : List ℕ) → AllAhead text in_range named before kind rows rest bytes
    → in_range row → named row → follows row behind → rest ≡ text row ++ behind
    → AllAhead text in_range named before kind (rows ++ row ∷ []) behind bytes
all_more text in_range named follows before kind apart rows row bytes rest behind ahead h n f e others more is =
    ahead_more text in_range named follows before kind apart rows others row more bytes rest behind is (ahead others more is) h n f e

pub only_refused : {Row : Type 0} → (text : Row → List ℕ) (in_range named : Row → Type 0) (before : Row → Row → Type 0) (kind : ℕ)
    (rows : List Row) (bytes rest : List ℕ) → AllAhead text in_range named before kind rows rest bytes
    → NoneBegins text in_range rest → OnlySection text in_range named before kind rows rest bytes
only_refused text in_range named before kind rows bytes rest ahead none others more is =
    done_refused text in_range named before kind rows others more bytes rest is (ahead others more is) none

pub only_order : {Row : Type 0} → (text : Row → List ℕ) (in_range named : Row → Type 0) (follows : Row → List ℕ → Type 0)
    (before : Row → Row → Type 0) (kind : ℕ) → KeepsApart text in_range named follows kind
    → (rows : List Row) (row : Row) (bytes rest behind : List ℕ) → AllAhead text in_range named before kind rows rest bytes
    → in_range row → named row → follows row behind → rest ≡ text row ++ behind → ¬ (FollowsLast before rows row)
    → OnlySection text in_range named before kind rows rest bytes
only_order text in_range named follows before kind apart rows row bytes rest behind ahead h n f e out others more is =
    done_order text in_range named follows before kind apart rows others row more bytes rest behind is (ahead others more is) h n f e out

pub no_section : {Row : Type 0} → (text : Row → List ℕ) (in_range named : Row → Type 0) (before : Row → Row → Type 0) (kind : ℕ)
    (rows : List Row) (bytes rest : List ℕ) → AllAhead text in_range named before kind rows rest bytes
    → NoneBegins text in_range rest → section rest ≡ kind → NoSection text in_range named before kind bytes
no_section text in_range named before kind rows bytes rest ahead none e others more is =
    none_whole text in_range named before kind rows others more bytes rest is (ahead others more is) none e
