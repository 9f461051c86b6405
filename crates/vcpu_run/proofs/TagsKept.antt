-- What a client keeps of its tags, as requests are sent and answered.
use Rattle.std.proofs.Common.{zero, suc, ◌≡◌, ◌≢◌, ◌∙◌, ◌⊎◌, inl, inr, ℕ, ◌+◌, ◌-◌, ◌≤◌, ◌<◌, ◌==◌, ◌&&◌, ◌||◌, nat_le, Bool, true, false, cond, List, [], ◌∷◌, ◌++◌, length, slice_set, slice_index_or, refl, sym, ap, subst, arith, eqb-true, eq-eqb, length-append}
use Rattle.std.proofs.lemmas.Bool.Decides.{nat_tests}
use Rattle.std.proofs.lemmas.List.{get_or-set_same, get_or-set_other, get_or_append_left, length-set}
use Rattle.std.proofs.lemmas.List.Folds.{list_any-append}
use Rattle.srp_iu.specs.declared.response.Rsp.{Rsp as Response}
use Rattle.vscsi_client.specs.State.{tags_of}
use Rattle.vscsi_client.specs.Taking.{answered, row_answered, without_tag}
use Rattle.vscsi_client.specs.declared.op.Dir.TheVariants as dirs
use Rattle.vscsi_client.specs.declared.outgoing.Outgoing.{Outgoing}
use Rattle.vscsi_client.specs.declared.row.Row.{Row}
use Rattle.vscsi_client.specs.declared.row.Row.TheVariants as rows
use Rattle.vcpu_run.specs.AnswersTaken.{has_tag}
use Rattle.vcpu_run.specs.Takings.{FitsTag}
use Rattle.vcpu_run.specs.TagRows.{is_given, is_inward, row_at}
use Rattle.vcpu_run.proofs.Announcing.{both_bools}
use Rattle.vcpu_run.proofs.Crediting.{here_or}

-- whether a tag is among those with one more
pub has_more : (tag more : ℕ) (tags : List ℕ) → has_tag tag (tags ++ more ∷ []) ≡ (has_tag tag tags || ((more == tag) || false))
has_more tag more tags = list_any-append (λ (other : ℕ). other == tag) tags (more ∷ [])

or_none : (a b : Bool) → b ≡ false → (a || (b || false)) ≡ a
or_none true b e = refl
or_none false b e = ap (λ (x : Bool). x || false) e

or_this : (a b : Bool) → b ≡ true → (a || (b || false)) ≡ true
or_this true b e = refl
or_this false b e = ap (λ (x : Bool). x || false) e

pub has_else : (tag more : ℕ) (tags : List ℕ) → (more == tag) ≡ false → has_tag tag (tags ++ more ∷ []) ≡ has_tag tag tags
has_else tag more tags apart = has_more tag more tags ∙ or_none (has_tag tag tags) (more == tag) apart

pub has_this : (tag more : ℕ) (tags : List ℕ) → (more == tag) ≡ true → has_tag tag (tags ++ more ∷ []) ≡ true
has_this tag more tags same = has_more tag more tags ∙ or_this (has_tag tag tags) (more == tag) same

-- the row of a tag that was used, with one row more
pub row_before : (rs : List Row) (row : Row) (tag : ℕ) → tag ≤ length rs → row_at (rs ++ row ∷ []) tag ≡ row_at rs tag
row_before rs row tag within = at (nat_le 1 tag) refl
  where
    at : (b : Bool) → nat_le 1 tag ≡ b → cond b (slice_index_or (rs ++ row ∷ []) (tag - 1) rows.Login) rows.Login ≡ cond b (slice_index_or rs (tag - 1) rows.Login) rows.Login
    at true e = let one : 1 ≤ tag = grind (arith, nat_tests, e) in get_or_append_left rs (row ∷ []) rows.Login (tag - 1) (omega (arith, within, one))
    at false e = refl

-- of the next tag
pub row_here : (rs : List Row) (row : Row) → row_at (rs ++ row ∷ []) (length rs + 1) ≡ row
row_here rs row = at (nat_le 1 (length rs + 1)) refl
  where
    last : (xs : List Row) → slice_index_or (xs ++ row ∷ []) (length xs) rows.Login ≡ row
    last [] = refl
    last (x ∷ xs) = last xs

    at : (b : Bool) → nat_le 1 (length rs + 1) ≡ b → cond b (slice_index_or (rs ++ row ∷ []) (length rs + 1 - 1) rows.Login) rows.Login ≡ row
    at true e = let same : length rs + 1 - 1 ≡ length rs = omega arith in ap (λ n. slice_index_or (rs ++ row ∷ []) n rows.Login) same ∙ last rs
    at false e = absurd (grind (arith, nat_tests, e))

-- of one that was not used
index_past : (xs : List Row) (n : ℕ) → length xs ≤ n → slice_index_or xs n rows.Login ≡ rows.Login
index_past [] n past = refl
index_past (x ∷ xs) zero past = absurd (omega (arith, past))
index_past (x ∷ xs) (suc n) past = index_past xs n (omega (arith, past))

pub row_past : (rs : List Row) (tag : ℕ) → length rs < tag → row_at rs tag ≡ rows.Login
row_past rs tag past = at (nat_le 1 tag) refl
  where
    at : (b : Bool) → nat_le 1 tag ≡ b → cond b (slice_index_or rs (tag - 1) rows.Login) rows.Login ≡ rows.Login
    at true e = index_past rs (tag - 1) (omega (arith, past))
    at false e = refl

-- nothing is outstanding
pub fits_none : (rs : List Row) (asked tags inward : List ℕ) (tag : ℕ) → FitsTag rs asked tags inward tag → FitsTag rs [] tags inward tag
fits_none rs asked tags inward tag fits = record {
  sent = fits.sent;
  of_line = λ has. absurd (cc);
  known = fits.known;
  answered = fits.answered;
  begun = λ has. absurd (cc);
  used = λ has. absurd (cc);
}

-- The tag is one of those that were used, the next one, or a later one.
pub data Stands (last tag : ℕ) : Type 0 where
  Used : tag ≤ last → Stands last tag
  Next : tag ≡ last + 1 → Stands last tag
  Later : last + 1 < tag → Stands last tag

pub stands : (last tag : ℕ) → Stands last tag
stands last tag = at (nat_le tag last) refl
  where
    past : (b : Bool) → (tag == last + 1) ≡ b → nat_le tag last ≡ false → Stands last tag
    past true e f = Next (grind (arith, nat_tests, e))
    past false e f = Later (grind (arith, nat_tests, e, f))

    at : (b : Bool) → nat_le tag last ≡ b → Stands last tag
    at true e = Used (grind (arith, nat_tests, e))
    at false e = past (tag == last + 1) refl e

-- a tag whose row stays
fits_else : (rs rs' : List Row) (asked asked' tags inward inward' : List ℕ) (tag : ℕ) → FitsTag rs asked tags inward tag → row_at rs' tag ≡ row_at rs tag → length rs ≤ length rs'
    → has_tag tag asked' ≡ has_tag tag asked → has_tag tag inward' ≡ has_tag tag inward → FitsTag rs' asked' tags inward' tag
fits_else rs rs' asked asked' tags inward inward' tag fits row long same_asked same_in = record {
  sent = λ has. ap is_inward row ∙ fits.sent (sym same_in ∙ has);
  of_line = λ has inw. same_in ∙ fits.of_line (sym same_asked ∙ has) (sym (ap is_inward row) ∙ inw);
  known = ap is_given row ∙ (fits.known ∙ ap (λ (b : Bool). has_tag tag tags && b) (sym same_in));
  answered = λ has. let most = fits.answered has in omega (arith, most, long);
  begun = λ has. fits.begun (sym same_asked ∙ has);
  used = λ has. let most = fits.used (sym same_asked ∙ has) in omega (arith, most, long);
}

-- of which nothing is known yet
not_has : (tag last : ℕ) (tags : List ℕ) → (has_tag tag tags ≡ true → tag ≤ last) → last < tag → has_tag tag tags ≡ false
not_has tag last tags most past = at (has_tag tag tags) refl
  where
    at : (b : Bool) → has_tag tag tags ≡ b → has_tag tag tags ≡ false
    at true e = absurd (let within = most e in omega (arith, within, past))
    at false e = e

-- one row more
pub fits_more : (rs : List Row) (row : Row) (asked asked' tags inward inward' : List ℕ) (tag : ℕ) → FitsTag rs asked tags inward tag
    → ((length rs + 1 == tag) ≡ false → has_tag tag asked' ≡ has_tag tag asked) → ((length rs + 1 == tag) ≡ false → has_tag tag inward' ≡ has_tag tag inward)
    → ((length rs + 1 == tag) ≡ true → has_tag tag inward' ≡ is_inward row) → is_given row ≡ false → FitsTag (rs ++ row ∷ []) asked' tags inward' tag
fits_more rs row asked asked' tags inward inward' tag fits same_asked same_in next none = at (stands (length rs) tag)
  where
    long : length (rs ++ row ∷ []) ≡ length rs + 1
    long = length-append rs (row ∷ [])

    apart : (b : Bool) → (length rs + 1 == tag) ≡ b → (tag ≢ length rs + 1) → (length rs + 1 == tag) ≡ false
    apart true e differ = absurd (differ (sym (eqb-true (length rs + 1) tag e)))
    apart false e differ = e

    at : Stands (length rs) tag → FitsTag (rs ++ row ∷ []) asked' tags inward' tag
    at (Used within) =
        let off = apart (length rs + 1 == tag) refl (λ e. omega (arith, e, within)) in
        fits_else rs (rs ++ row ∷ []) asked asked' tags inward inward' tag fits (row_before rs row tag within) (omega (arith, long)) (same_asked off) (same_in off)
    at (Later past) =
        let off = apart (length rs + 1 == tag) refl (λ e. omega (arith, e, past)) in
        fits_else rs (rs ++ row ∷ []) asked asked' tags inward inward' tag fits
        (row_past (rs ++ row ∷ []) tag (omega (arith, past, long)) ∙ sym (row_past rs tag (omega (arith, past)))) (omega (arith, long)) (same_asked off) (same_in off)
    at (Next is) =
        let here : row_at (rs ++ row ∷ []) tag ≡ row = ap (row_at (rs ++ row ∷ [])) is ∙ row_here rs row in
        let in_this : has_tag tag inward' ≡ is_inward row = next (eq-eqb (length rs + 1) tag (sym is)) in
        let unknown : has_tag tag tags ≡ false = not_has tag (length rs) tags fits.answered (omega (arith, is)) in
        record {
          sent = λ has. ap is_inward here ∙ (sym in_this ∙ has);
          of_line = λ has inw. in_this ∙ (sym (ap is_inward here) ∙ inw);
          known = ap is_given here ∙ (none ∙ sym (ap (λ (b : Bool). b && has_tag tag inward') unknown));
          answered = λ has. let most = fits.answered has in omega (arith, most, long);
          begun = λ has. omega (arith, is);
          used = λ has. omega (arith, is, long);
        }

-- a response changes no direction, and a command with data-in is answered by it
inward_answered : (response : Response) (row : Row) → is_inward (row_answered response row) ≡ is_inward row
inward_answered response (rows.Command dirs.In at len said) = refl
inward_answered response (rows.Command dirs.Out at len said) = refl
inward_answered response (rows.Command dirs.Neither at len said) = refl
inward_answered response rows.Login = refl
inward_answered response rows.Logout = refl
inward_answered response rows.Task = refl

given_answered : (response : Response) (row : Row) → is_given (row_answered response row) ≡ is_inward row
given_answered response (rows.Command dirs.In at len said) = refl
given_answered response (rows.Command dirs.Out at len said) = refl
given_answered response (rows.Command dirs.Neither at len said) = refl
given_answered response rows.Login = refl
given_answered response rows.Logout = refl
given_answered response rows.Task = refl

both_ways : (a b : Bool) → (a ≡ true → b ≡ true) → (b ≡ true → a ≡ true) → a ≡ b
both_ways true true f g = refl
both_ways true false f g = sym (f refl)
both_ways false true f g = g refl
both_ways false false f g = refl

-- the row of the tag that is answered, and of another
pub row_set : (rs : List Row) (tag : ℕ) (response : Response) → 1 ≤ tag → tag ≤ length rs → row_at (answered tag response rs) tag ≡ row_answered response (row_at rs tag)
row_set rs tag response begun used = at (nat_le 1 tag) refl
  where
    row : Row
    row = row_answered response (slice_index_or rs (tag - 1) rows.Login)

    at : (b : Bool) → nat_le 1 tag ≡ b → cond b (slice_index_or (slice_set rs (tag - 1) row) (tag - 1) rows.Login) rows.Login
        ≡ row_answered response (cond b (slice_index_or rs (tag - 1) rows.Login) rows.Login)
    at true e = get_or-set_same rs (tag - 1) row rows.Login (omega (arith, begun, used))
    at false e = absurd (grind (arith, nat_tests, e, begun))

pub row_unset : (rs : List Row) (tag other : ℕ) (response : Response) → 1 ≤ tag → other ≢ tag → row_at (answered tag response rs) other ≡ row_at rs other
row_unset rs tag other response begun apart = at (nat_le 1 other) refl
  where
    row : Row
    row = row_answered response (slice_index_or rs (tag - 1) rows.Login)

    at : (b : Bool) → nat_le 1 other ≡ b → cond b (slice_index_or (slice_set rs (tag - 1) row) (other - 1) rows.Login) rows.Login ≡ cond b (slice_index_or rs (other - 1) rows.Login) rows.Login
    at true e =
        let one : 1 ≤ other = grind (arith, nat_tests, e) in
        get_or-set_other rs (tag - 1) (other - 1) row rows.Login (λ same. apart (omega (arith, same, one, begun)))
    at false e = refl

-- an answer of a tag was taken that was outstanding
pub fits_answered : (rs : List Row) (asked asked' tags inward : List ℕ) (tag : ℕ) (response : Response) → ((t : ℕ) → FitsTag rs asked tags inward t) → has_tag tag asked ≡ true
    → ((t : ℕ) → has_tag t asked' ≡ true → has_tag t asked ≡ true) → (t : ℕ) → FitsTag (answered tag response rs) asked' (tags ++ tag ∷ []) inward t
fits_answered rs asked asked' tags inward tag response all there fewer t = at (here_or tag t)
  where
    begun : 1 ≤ tag
    begun = (all tag).begun there

    used : tag ≤ length rs
    used = (all tag).used there

    long : length (answered tag response rs) ≡ length rs
    long = length-set rs (tag - 1) (row_answered response (slice_index_or rs (tag - 1) rows.Login))

    at : ((tag == t) ≡ true) ⊎ ((tag == t) ≡ false) → FitsTag (answered tag response rs) asked' (tags ++ tag ∷ []) inward t
    at (inl e) =
        let same : tag ≡ t = eqb-true tag t e in
        let row : row_at (answered tag response rs) t ≡ row_answered response (row_at rs t) =
        subst (λ n. row_at (answered tag response rs) n ≡ row_answered response (row_at rs n)) same (row_set rs tag response begun used) in
        let fits = all t in
        let asks : has_tag t asked ≡ true = subst (λ n. has_tag n asked ≡ true) same there in
        let direction : is_inward (row_at rs t) ≡ has_tag t inward = both_ways (is_inward (row_at rs t)) (has_tag t inward) (fits.of_line asks) fits.sent in
        record {
          sent = λ has. ap is_inward row ∙ (inward_answered response (row_at rs t) ∙ fits.sent has);
          of_line = λ has inw. fits.of_line asks (sym (inward_answered response (row_at rs t)) ∙ (sym (ap is_inward row) ∙ inw));
          known = ap is_given row ∙ (given_answered response (row_at rs t) ∙ (direction ∙ sym (ap (λ (b : Bool). b && has_tag t inward) (has_this t tag tags e))));
          answered = λ has. omega (arith, same, used, long);
          begun = λ has. omega (arith, same, begun);
          used = λ has. omega (arith, same, used, long);
        }
    at (inr e) =
        let row : row_at (answered tag response rs) t ≡ row_at rs t = row_unset rs tag t response begun (λ same. both_bools (tag == t) (eq-eqb tag t (sym same)) e) in
        let fits = all t in
        let tags_same : has_tag t (tags ++ tag ∷ []) ≡ has_tag t tags = has_else t tag tags e in
        record {
          sent = λ has. ap is_inward row ∙ fits.sent has;
          of_line = λ has inw. fits.of_line (fewer t has) (sym (ap is_inward row) ∙ inw);
          known = ap is_given row ∙ (fits.known ∙ sym (ap (λ (b : Bool). b && has_tag t inward) tags_same));
          answered = λ has. let most = fits.answered (sym tags_same ∙ has) in omega (arith, most, long);
          begun = λ has. fits.begun (fewer t has);
          used = λ has. let most = fits.used (fewer t has) in omega (arith, most, long);
        }

-- the tags that are left are some of before
pub tags_fewer : (tag : ℕ) (outgoing : List Outgoing) (t : ℕ) → has_tag t (tags_of (without_tag tag outgoing)) ≡ true → has_tag t (tags_of outgoing) ≡ true
tags_fewer tag [] t has = has
tags_fewer tag (o ∷ os) t has = at (o.tag == tag) (tags_fewer tag os t) has
  where
    or_right : (a b : Bool) → b ≡ true → (a || b) ≡ true
    or_right true b e = refl
    or_right false b e = e

    both : (a : Bool) (b c : Bool) → (b ≡ true → c ≡ true) → (a || b) ≡ true → (a || c) ≡ true
    both true b c f e = refl
    both false b c f e = f e

    at : (b : Bool) → (has_tag t (tags_of (without_tag tag os)) ≡ true → has_tag t (tags_of os) ≡ true) → has_tag t (tags_of (cond b os (o ∷ without_tag tag os))) ≡ true → ((o.tag == t) || has_tag t (tags_of os)) ≡ true
    at true fewer h = or_right (o.tag == t) (has_tag t (tags_of os)) h
    at false fewer h = both (o.tag == t) (has_tag t (tags_of (without_tag tag os))) (has_tag t (tags_of os)) fewer h
