-- What is left of a section, of each text that shares the line behind the rows that were read.
use Rattle.std.proofs.Common.{◌≡◌, ℕ, List, [], ◌∷◌, ◌++◌, All, length, refl, sym, ap, subst, ◌∙◌, append_assoc, length-append, arith}
use Rattle.std.specs.List.{flat_map}
use Rattle.vio_trace.specs.Form.{Ascend}
use Rattle.vio_trace.specs.Reading.{FollowsLast, NoneBegins}
use Rattle.vio_trace.specs.Sections.{KeepsApart, NoSection}
use Rattle.vio_trace.specs.Shared.{FirstTells, IsOfSection, KeepsLines, NoneFollows, NoneShares, OnlyShared, SameFirst}
use Rattle.vio_trace.proofs.Ahead.{AllAhead, all_first, all_more, all_at, at_order, no_section, none_left}
use Rattle.vio_trace.proofs.Pushed.{push_text}
use Rattle.vio_trace.proofs.Sharing.{first_behind, first_shared, same_first, shares_behind}

-- each text that has these rows and then the first line of the rest: its whole section begins with the rows
abbrev pub SharedAhead : {Row : Type 0} → (Row → List ℕ) → (Row → Type 0) → (Row → Type 0) → (Row → Row → Type 0) → ℕ
    → List Row → List ℕ → Type 0
SharedAhead {Row} text in_range named before kind rows rest = (other theirs : List ℕ) → other ≡ flat_map text rows ++ theirs
    → SameFirst rest theirs → AllAhead text in_range named before kind rows theirs other

pub shared_first : {Row : Type 0} → (text : Row → List ℕ) (in_range named : Row → Type 0) (before : Row → Row → Type 0) (kind : ℕ)
    (rest : List ℕ) → SharedAhead text in_range named before kind [] rest
shared_first text in_range named before kind rest other theirs e s =
    subst (λ (l : List ℕ). AllAhead text in_range named before kind [] theirs l) (sym e) (all_first text in_range named before kind theirs)

pub shared_more : {Row : Type 0} → (text : Row → List ℕ) (in_range named : Row → Type 0) (follows : Row → List ℕ → Type 0)
    (before : Row → Row → Type 0) (kind : ℕ) → KeepsApart text in_range named follows kind → KeepsLines text in_range before follows
    → (rows : List Row) (row : Row) (rest behind : List ℕ) → SharedAhead text in_range named before kind rows rest
    → in_range row → named row → follows row behind → rest ≡ text row ++ behind
    → SharedAhead text in_range named before kind (rows ++ row ∷ []) behind
shared_more text in_range named follows before kind apart lines rows row rest behind ahead h n f e other theirs are s =
    let split = are ∙ sym (push_text text rows row (flat_map text rows ++ (text row ++ theirs)) (text row ++ theirs) theirs refl refl) in
    let first = subst (λ (l : List ℕ). SameFirst l (text row ++ theirs)) (sym e) (first_behind (text row) behind theirs s) in
    all_more text in_range named follows before kind apart rows row other (text row ++ theirs) theirs
    (ahead other (text row ++ theirs) split first) h n (lines.lined row behind theirs s f) refl

-- where no row of the first line may stand behind those that were read, none is left
pub shared_only : {Row : Type 0} → (text : Row → List ℕ) (in_range named : Row → Type 0) (before : Row → Row → Type 0) (kind : ℕ)
    (rows : List Row) (rest : List ℕ) → SharedAhead text in_range named before kind rows rest
    → NoneFollows text in_range before rows rest → OnlyShared text in_range named before kind rows rest
shared_only {Row} text in_range named before kind rows rest shared none other theirs e s others more is =
    let ahead = shared other theirs e s others more is in
    none_left text rows others ahead.left more theirs ahead.are ahead.behind (empty ahead.left ahead.are ahead.behind) where
      empty : (left : List Row) → others ≡ rows ++ left → theirs ≡ flat_map text left ++ more → left ≡ []
      empty [] are behind = refl
      empty (o ∷ left) are behind =
          absurd (none theirs (flat_map text left ++ more) o s
          (all_at in_range rows o left (subst (λ (l : List Row). All in_range l) are is.range))
          (behind ∙ append_assoc (text o) (flat_map text left) more)
          (at_order before rows o left (subst (λ (l : List Row). Ascend before l) are is.order)))

-- what may stand behind the last of some rows, another with the same key may
pub follows_keys : {Row : Type 0} → (before : Row → Row → Type 0) (rows : List Row) (a b : Row)
    → ((past : Row) → before past b → before past a) → FollowsLast before rows b → FollowsLast before rows a
follows_keys before [] a b f h = tt
follows_keys before (r ∷ []) a b f h = f r h
follows_keys before (r ∷ s ∷ rows) a b f h = follows_keys before (s ∷ rows) a b f h

-- where no row begins with the first line, none may stand behind any
pub none_begun : {Row : Type 0} → (text : Row → List ℕ) (in_range : Row → Type 0) (before : Row → Row → Type 0)
    (rows : List Row) (bytes : List ℕ) → NoneShares (NoneBegins text in_range) bytes (length bytes) → NoneFollows text in_range before rows bytes
none_begun text in_range before rows bytes bad other more row s h e follows = bad.1 other (first_shared bytes other s) row more h e

-- what is bad behind the rows that were read, with a first line of the section, is bad in the whole
pub section_bad : {Row : Type 0} → (text : Row → List ℕ) (in_range named : Row → Type 0) (before : Row → Row → Type 0) (kind : ℕ)
    (rows : List Row) (bytes rest : List ℕ) (left : ℕ) → SharedAhead text in_range named before kind rows rest
    → bytes ≡ flat_map text rows ++ rest → NoneShares (NoneBegins text in_range) rest left → IsOfSection kind rest
    → NoneShares (NoSection text in_range named before kind) bytes left
section_bad text in_range named before kind rows bytes rest left shared e bad of = (
  omega (arith, bad.0, ap (λ (l : List ℕ). length l) e, length-append (flat_map text rows) rest),
  λ other shares.
      let s = shares_behind left bytes other (flat_map text rows) rest shares e bad.0 in
      let first = same_first left rest s.rest s.shares in
      no_section text in_range named before kind rows other s.rest (shared other s.rest s.other_is first) (bad.1 s.rest s.shares) (of s.rest first),
)

-- where the row that was read may not stand behind the others, no row with its first line may
pub none_next : {Row : Type 0} → (text : Row → List ℕ) (in_range : Row → Type 0) (before : Row → Row → Type 0) (follows : Row → List ℕ → Type 0)
    → KeepsLines text in_range before follows → (rows : List Row) (row : Row) (bytes behind : List ℕ) → in_range row → bytes ≡ text row ++ behind
    → ¬ (FollowsLast before rows row) → NoneFollows text in_range before rows bytes
none_next text in_range before follows lines rows row bytes behind h e out other more b s q f k =
    let first = subst (λ (l : List ℕ). SameFirst l (text b ++ more)) e (subst (λ (l : List ℕ). SameFirst bytes l) f s) in
    out (follows_keys before rows row b (λ past is. lines.keys past row b behind more h q first is) k)

-- where a row with the words of the first line may not stand behind the others, no row with that line may
pub none_told : {Row : Type 0} → (text : Row → List ℕ) (in_range : Row → Type 0) (before : Row → Row → Type 0) (kind : ℕ)
    (rows : List Row) (row : Row) (bytes : List ℕ) → FirstTells text in_range before kind bytes row
    → ¬ (FollowsLast before rows row) → NoneFollows text in_range before rows bytes
none_told text in_range before kind rows row bytes tells out other more b s q f k =
    out (follows_keys before rows row b (λ past is. tells.keys past b other more s q f is) k)
