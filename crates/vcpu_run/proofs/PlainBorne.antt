-- What a plain client's server unit laid behind the slots of its window bears data-in of the unit's rows: what leaves that so.
use Rattle.std.proofs.Common.{◌≡◌, ◌≢◌, ◌∙◌, ◌⊎◌, ◌++◌, ◌≤◌, ◌∷◌, inl, inr, ℕ, zero, suc, All, true, cond, Contains, get_or, List, [], Option, Some, None, length, map, refl, sym, ap, subst, arith}
use Rattle.std.proofs.lemmas.List.{get_or-map, length-map}
use Rattle.std.proofs.lemmas.List.Elements.{All-append, All-nil, All-weaker, Contains-append_left, filter-append}
use Rattle.std.specs.List.{AllPairs, filter}
use Rattle.vio_num.specs.declared.history.Served.{Served}
use Rattle.vio_num.specs.declared.names.UnitId.{UnitId}
use Rattle.page_slots.specs.Stroke.{StrokeValue}
use Rattle.block_server.specs.Makers.{same_unit}
use Rattle.block_server.specs.RowsOn.{row_tag}
use Rattle.unit_region.specs.Kept.{LaysOwnAll, LaysOwnOn}
use Rattle.vio_trace.specs.declared.rows.AnswerRow.{AnswerRow}
use Rattle.vscsi_client.specs.State.{ClientState}
use Rattle.vscsi_client.specs.declared.op.Dir.TheVariants as dirs
use Rattle.vscsi_client.specs.declared.row.DataIn.{DataIn}
use Rattle.vscsi_client.specs.declared.row.Row.{Row}
use Rattle.vscsi_client.specs.declared.row.Row.TheVariants as rows
use Rattle.vcpu_run.specs.DataKept.{AreAsked, IsInwardAt, KeepsData}
use Rattle.vcpu_run.specs.PlainBorne.{AreBorne, IsOfRow, rows_by}
use Rattle.vcpu_run.specs.PlainPairs.{AreBlank}
use Rattle.vcpu_run.specs.TagRows.{is_inward, row_at}
use Rattle.vcpu_run.proofs.LinesShown.{first_or}
use Rattle.vcpu_run.proofs.PlainTags.{one_same}

-- ---- the rows

pub rows_push : (unit : UnitId) (list : List Served) (row : Served) → row.unit ≡ unit → rows_by unit (list ++ row ∷ []) ≡ rows_by unit list ++ row ∷ []
rows_push unit list row own =
    filter-append (λ (r : Served). same_unit r.unit unit) list (row ∷ [])
    ∙ ap (λ b. filter (λ (r : Served). same_unit r.unit unit) list ++ cond b (row ∷ []) []) (one_same row.unit unit own)

of_more : (list more : List Served) (rs : List Row) (page : ℕ) (stroke : StrokeValue) → IsOfRow list rs page stroke → IsOfRow (list ++ more) rs page stroke
of_more list more rs page stroke is = record {
  row = is.row;
  there = Contains-append_left list more is.row is.there;
  tag_is = is.tag_is;
  known = is.known;
  lies = is.lies;
}

-- there are more of them
pub all_more : (list more : List Served) (server : UnitId) (rs : List Row) (page : ℕ) (strokes : List StrokeValue)
    → All (λ (s : StrokeValue). s.name.who ≡ server → IsOfRow list rs page s) strokes → All (λ (s : StrokeValue). s.name.who ≡ server → IsOfRow (list ++ more) rs page s) strokes
all_more list more server rs page strokes all =
    All-weaker (λ (s : StrokeValue). s.name.who ≡ server → IsOfRow list rs page s) (λ (s : StrokeValue). s.name.who ≡ server → IsOfRow (list ++ more) rs page s)
    (λ s has own. of_more list more rs page s (has own)) strokes all

tail_apart : (x : ℕ) (xs : List ℕ) → AllPairs (λ a b. a ≢ b) (x ∷ xs) → AllPairs (λ a b. a ≢ b) xs
tail_apart x xs pairs i j d less within = pairs (suc i) (suc j) d (omega (arith, less)) (omega (arith, within))

first_apart : (first row : Served) (list : List Served) → AllPairs (λ a b. a ≢ b) (map row_tag (first ∷ list)) → Contains list row → row_tag first ≢ row_tag row
first_apart first row list pairs has same =
    let at : get_or (map row_tag list) has.0 (row_tag row) ≡ row_tag row = get_or-map row_tag list has.0 row (row_tag row) has.1 ∙ ap row_tag has.2 in
    pairs zero (suc has.0) (row_tag row) (omega arith) (omega (arith, has.1, length-map list row_tag)) (same ∙ sym at)

-- no two of them have one tag
pub one_row : (list : List Served) (a b : Served) → AllPairs (λ x y. x ≢ y) (map row_tag list) → Contains list a → Contains list b → row_tag a ≡ row_tag b → a ≡ b
one_row [] a b pairs has_a has_b same = absurd (omega (arith, has_a.1))
one_row (first ∷ list) a b pairs has_a has_b same =
    by (one_row list a b (tail_apart (row_tag first) (map row_tag list) pairs)) (first_or first a list has_a) (first_or first b list has_b)
  where
    by : (Contains list a → Contains list b → row_tag a ≡ row_tag b → a ≡ b) → (first ≡ a) ⊎ Contains list a → (first ≡ b) ⊎ Contains list b → a ≡ b
    by rest (inl x) (inl y) = sym x ∙ y
    by rest (inl x) (inr h) = absurd (first_apart first b list pairs h (ap row_tag x ∙ same))
    by rest (inr h) (inl y) = absurd (first_apart first a list pairs h (ap row_tag y ∙ sym same))
    by rest (inr h) (inr i) = rest h i same

-- each of them that has this tag is this one
abbrev pub IsOnlyOne : List Served → (tag : ℕ) → Served → Type 0
IsOnlyOne list tag row = (other : Served) → Contains list other → row_tag other ≡ tag → other ≡ row

pub only_apart : (list : List Served) (tag : ℕ) (row : Served) → AllPairs (λ a b. a ≢ b) (map row_tag list) → Contains list row → row_tag row ≡ tag → IsOnlyOne list tag row
only_apart list tag row apart there tag_is other has is = one_row list other row apart has there (is ∙ sym tag_is)

-- ---- a window without strokes

pub none_borne : (list : List Served) (server : UnitId) (rs : List Row) (strokes : ℕ → Option (List StrokeValue)) → AreBlank strokes → AreBorne list server rs strokes
none_borne list server rs strokes blank page behind of_page there =
    subst (λ (ss : List StrokeValue). All (λ (s : StrokeValue). s.name.who ≡ server → IsOfRow list rs page s) ss) (sym (blank page of_page there))
    (All-nil (λ (s : StrokeValue). s.name.who ≡ server → IsOfRow list rs page s))

-- ---- a turn of the client

-- a command with data-in
inward_row : (row : Row) → is_inward row ≡ true → (at : ℕ) × (len : ℕ) × (said : Option DataIn) × (row ≡ rows.Command dirs.In at len said)
inward_row (rows.Command dirs.In at len said) is = (at, len, said, refl)
inward_row (rows.Command dirs.Out at len said) isnt = absurd (cc (isnt))
inward_row (rows.Command dirs.Neither at len said) isnt = absurd (cc (isnt))
inward_row rows.Login isnt = absurd (cc (isnt))
inward_row rows.Logout isnt = absurd (cc (isnt))
inward_row rows.Task isnt = absurd (cc (isnt))

place_of : Row → ℕ
place_of (rows.Command dir at len said) = at
place_of rows.Login = zero
place_of rows.Logout = zero
place_of rows.Task = zero

length_of : Row → ℕ
length_of (rows.Command dir at len said) = len
length_of rows.Login = zero
length_of rows.Logout = zero
length_of rows.Task = zero

-- where data lie that lay there before is where they lay
pub inward_back : (s s' : ClientState) (answers answers' : List AnswerRow) (tag at len : ℕ) → KeepsData s s' answers answers' → AreAsked s.outgoing → tag ≤ length s.rows → IsInwardAt s'.rows tag at len
    → IsInwardAt s.rows tag at len
unfolding place_of length_of
inward_back s s' answers answers' tag at len keeps asked known is =
    let was = inward_row (row_at s.rows tag) (keeps.kinds asked tag known (ap is_inward is.1)) in
    let now = keeps.rows_stay asked tag was.0 was.1 (was.2, was.3) in
    let same : was.0 ≡ at = ap place_of (sym now.1 ∙ is.1) in
    let long : was.1 ≡ len = ap length_of (sym now.1 ∙ is.1) in
    subst (IsInwardAt s.rows tag at) long (subst (λ a. IsInwardAt s.rows tag a was.1) same (was.2, was.3))

of_turned : (list : List Served) (s s' : ClientState) (answers answers' : List AnswerRow) (page : ℕ) (stroke : StrokeValue) → KeepsData s s' answers answers' → AreAsked s.outgoing
    → IsOfRow list s.rows page stroke → IsOfRow list s'.rows page stroke
of_turned list s s' answers answers' page stroke keeps asked is = record {
  row = is.row;
  there = is.there;
  tag_is = is.tag_is;
  known = omega (arith, is.known, keeps.more);
  lies = λ at len now.
      is.lies at len (inward_back s s' answers answers' stroke.name.mark at len keeps asked is.known now);
}

-- the strokes that it laid are its own
pub borne_turned : (list : List Served) (server unit : UnitId) (s s' : ClientState) (answers answers' : List AnswerRow) (old new : ℕ → Option (List StrokeValue)) → unit ≢ server
    → KeepsData s s' answers answers' → AreAsked s.outgoing → LaysOwnAll unit old new → AreBorne list server s.rows old → AreBorne list server s'.rows new
borne_turned list server unit s s' answers answers' old new apart keeps asked lays borne page behind strokes there =
    by (old page) refl (subst (λ (o : Option (List StrokeValue)). LaysOwnOn unit (old page) o) there (lays page))
  where
    by : (o : Option (List StrokeValue)) → old page ≡ o → LaysOwnOn unit o (Some strokes) → All (λ (x : StrokeValue). x.name.who ≡ server → IsOfRow list s'.rows page x) strokes
    by None none laid = absurd laid
    by (Some was) found laid =
        subst (All (λ (x : StrokeValue). x.name.who ≡ server → IsOfRow list s'.rows page x)) (sym laid.is)
        (All-append (λ (x : StrokeValue). x.name.who ≡ server → IsOfRow list s'.rows page x) was laid.more
        (All-weaker (λ (x : StrokeValue). x.name.who ≡ server → IsOfRow list s.rows page x) (λ (x : StrokeValue). x.name.who ≡ server → IsOfRow list s'.rows page x)
        (λ x has own. of_turned list s s' answers answers' page x keeps asked (has own)) was (borne page behind was found))
        (All-weaker (λ (x : StrokeValue). x.name.who ≡ unit) (λ (x : StrokeValue). x.name.who ≡ server → IsOfRow list s'.rows page x) (λ x is own. absurd (apart (sym is ∙ own)))
        laid.more laid.own))
