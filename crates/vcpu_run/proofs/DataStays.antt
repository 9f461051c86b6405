-- The data of a client's commands stay where they are, and what it knows of them is noted, whatever it does.
use Rattle.std.proofs.Common.{◌≡◌, ◌≢◌, ◌∙◌, ◌⊎◌, inl, inr, ℕ, ◌-◌, ◌≤◌, ◌<◌, ◌==◌, nat_le, Bool, true, false, List, [], ◌∷◌, ◌++◌, Option, Some, length, length-append, refl, sym, ap, subst, arith, eq-eqb, eqb-true}
use Rattle.std.specs.List.{Contains, slice_index_or}
use Rattle.std.proofs.lemmas.Bool.Decides.{nat_tests}
use Rattle.std.proofs.lemmas.List.{length-set}
use Rattle.std.proofs.lemmas.List.Elements.{Contains-append_left, Contains-append_right}
use Rattle.srp_iu.specs.declared.response.Rsp.{Rsp as Response}
use Rattle.vio_trace.specs.declared.rows.AnswerRow.{AnswerRow}
use Rattle.vscsi_client.specs.State.{ClientState, tags_of}
use Rattle.vscsi_client.specs.Taking.{answered, row_answered, without_tag}
use Rattle.vscsi_client.specs.declared.op.Dir.TheVariants as dirs
use Rattle.vscsi_client.specs.declared.outgoing.Outgoing.{Outgoing}
use Rattle.vscsi_client.specs.declared.row.DataIn.{DataIn}
use Rattle.vscsi_client.specs.declared.row.Row.{Row}
use Rattle.vscsi_client.specs.declared.row.Row.TheVariants as rows
use Rattle.vcpu_run.specs.AnswersTaken.{has_tag}
use Rattle.vcpu_run.specs.DataKept.{AreAsked, AreNoted, IsInwardAt, IsNoted, KeepsData, said_by}
use Rattle.vcpu_run.specs.TagRows.{is_given, is_inward, row_at}
use Rattle.vcpu_run.specs.Takings.{Notes}
use Rattle.vcpu_run.proofs.Announcing.{both_bools}
use Rattle.vcpu_run.proofs.Crediting.{here_or}
use Rattle.vcpu_run.proofs.LinesShown.{contains_first}
use Rattle.vcpu_run.proofs.TagsKept.{Later, Next, Stands, Used, row_before, row_here, row_past, row_set, row_unset, stands, tags_fewer}

-- the requests that are outstanding are some of before
abbrev pub AreFewer : List Outgoing → List Outgoing → Type 0
AreFewer old new = (t : ℕ) → has_tag t (tags_of new) ≡ true → has_tag t (tags_of old) ≡ true

-- rows and answers are those of before
pub data_fewer : (s s' : ClientState) (answers answers' : List AnswerRow) → s'.rows ≡ s.rows → AreFewer s.outgoing s'.outgoing → answers' ≡ answers → KeepsData s s' answers answers'
data_fewer s s' answers answers' rows_are fewer same = record {
  more = let long : length s'.rows ≡ length s.rows = ap length rows_are in omega (arith, long);
  kinds = λ asked tag within is. subst (λ (rs : List Row). is_inward (row_at rs tag) ≡ true) rows_are is;
  asked = λ asked t has. asked t (fewer t has);
  rows_stay = λ asked tag at len is. subst (λ (rs : List Row). IsInwardAt rs tag at len) (sym rows_are) is;
  noted = λ asked noted. subst (λ (rs : List Row). AreNoted rs answers') (sym rows_are) (subst (AreNoted s.rows) (sym same) noted);
}

pub data_same : (s s' : ClientState) (answers answers' : List AnswerRow) → s'.rows ≡ s.rows → s'.outgoing ≡ s.outgoing → answers' ≡ answers → KeepsData s s' answers answers'
data_same s s' answers answers' rows_are outgoing same =
    data_fewer s s' answers answers' rows_are (λ t has. subst (λ (os : List Outgoing). has_tag t (tags_of os) ≡ true) outgoing has) same

pub data_none : (s s' : ClientState) (answers answers' : List AnswerRow) → s'.rows ≡ s.rows → s'.outgoing ≡ [] → answers' ≡ answers → KeepsData s s' answers answers'
data_none s s' answers answers' rows_are none same =
    data_fewer s s' answers answers' rows_are (λ t has. absurd (both_bools (has_tag t (tags_of s'.outgoing)) has (ap (λ (os : List Outgoing). has_tag t (tags_of os)) none))) same

-- a row of no answered command stands behind the others
row_not : (row : Row) (at len : ℕ) (said : DataIn) → is_given row ≡ false → row ≢ rows.Command dirs.In at len (Some said)
row_not row at len said none is = both_bools (is_given row) (ap is_given is) none

pub no_login : (at len : ℕ) (said : Option DataIn) → rows.Login ≢ rows.Command dirs.In at len said
no_login at len said is = cc (is)

inward_more : (rs : List Row) (row : Row) (tag at len : ℕ) → IsInwardAt rs tag at len → IsInwardAt (rs ++ row ∷ []) tag at len
inward_more rs row tag at len is = by (nat_le tag (length rs)) refl
  where
    by : (b : Bool) → nat_le tag (length rs) ≡ b → IsInwardAt (rs ++ row ∷ []) tag at len
    by true e = (is.0, row_before rs row tag (grind (arith, nat_tests, e)) ∙ is.1)
    by false e = absurd (no_login at len is.0 (sym (row_past rs tag (grind (arith, nat_tests, e))) ∙ is.1))

noted_more : (rs : List Row) (row : Row) (answers : List AnswerRow) → is_given row ≡ false → AreNoted rs answers → AreNoted (rs ++ row ∷ []) answers
noted_more rs row answers none noted tag at len said is = by (stands (length rs) tag)
  where
    by : Stands (length rs) tag → IsNoted answers tag said
    by (Used within) = noted tag at len said (sym (row_before rs row tag within) ∙ is)
    by (Next next) = absurd (row_not row at len said none (sym (ap (row_at (rs ++ row ∷ [])) next ∙ row_here rs row) ∙ is))
    by (Later later) =
        let long = length-append rs (row ∷ []) in
        absurd (no_login at len (Some said) (sym (row_past (rs ++ row ∷ []) tag (omega (arith, long, later))) ∙ is))

pub data_more : (s s' : ClientState) (row : Row) (answers answers' : List AnswerRow) → is_given row ≡ false → s'.rows ≡ s.rows ++ row ∷ [] → (AreAsked s.outgoing → AreAsked s'.outgoing)
    → answers' ≡ answers → KeepsData s s' answers answers'
data_more s s' row answers answers' none rows_are asked same = record {
  more = let long : length s'.rows ≡ length (s.rows ++ row ∷ []) = ap length rows_are in let pushed = length-append s.rows (row ∷ []) in omega (arith, long, pushed);
  kinds = λ asked tag within is.
      subst (λ (r : Row). is_inward r ≡ true) (row_before s.rows row tag within) (subst (λ (rs : List Row). is_inward (row_at rs tag) ≡ true) rows_are is);
  asked = asked;
  rows_stay = λ asked tag at len is. subst (λ (rs : List Row). IsInwardAt rs tag at len) (sym rows_are) (inward_more s.rows row tag at len is);
  noted = λ asked noted. subst (λ (rs : List Row). AreNoted rs answers') (sym rows_are) (subst (AreNoted (s.rows ++ row ∷ [])) (sym same) (noted_more s.rows row answers none noted));
}

-- one step behind another
pub data_on : (r s t : ClientState) (a b c : List AnswerRow) → KeepsData r s a b → KeepsData s t b c → KeepsData r t a c
data_on r s t a b c first next = record {
  more = omega (arith, first.more, next.more);
  kinds = λ asked tag within is.
      first.kinds asked tag within (next.kinds (first.asked asked) tag (omega (arith, within, first.more)) is);
  asked = λ asked. next.asked (first.asked asked);
  rows_stay = λ asked tag at len is. next.rows_stay (first.asked asked) tag at len (first.rows_stay asked tag at len is);
  noted = λ asked noted. next.noted (first.asked asked) (first.noted asked noted);
}

-- a response tells of its command's row where its data lie as before, and what it says of them
said_of : (response : Response) (row : Row) (at len : ℕ) (said : DataIn) → row_answered response row ≡ rows.Command dirs.In at len (Some said) → said ≡ said_by response
said_of response (rows.Command dirs.In a l s) at len said is = cc (is)
said_of response (rows.Command dirs.Out a l s) at len said is = absurd (cc (is))
said_of response (rows.Command dirs.Neither a l s) at len said is = absurd (cc (is))
said_of response rows.Login at len said is = absurd (cc (is))
said_of response rows.Logout at len said is = absurd (cc (is))
said_of response rows.Task at len said is = absurd (cc (is))

noted_behind : (answers : List AnswerRow) (row : AnswerRow) (tag : ℕ) (said : DataIn) → IsNoted answers tag said → IsNoted (answers ++ row ∷ []) tag said
noted_behind answers row tag said is = record {
  row = is.row;
  there = Contains-append_left answers (row ∷ []) is.row is.there;
  tag_is = is.tag_is;
  response = is.response;
  canonical = is.canonical;
  says = is.says;
}

-- an answer was taken under a tag, and noted
pub answered_stays : (rs : List Row) (tag : ℕ) (response : Response) (t at len : ℕ) → 1 ≤ tag → IsInwardAt rs t at len → IsInwardAt (answered tag response rs) t at len
answered_stays rs tag response t at len begun is = by (here_or tag t)
  where
    here : tag ≡ t → (b : Bool) → nat_le tag (length rs) ≡ b → IsInwardAt (answered tag response rs) t at len
    here same true e = (
      Some (said_by response),
      subst (λ n. row_at (answered tag response rs) n ≡ row_answered response (row_at rs n)) same (row_set rs tag response begun (grind (arith, nat_tests, e))) ∙ ap (row_answered response) is.1,
    )
    here same false e = absurd (no_login at len is.0 (sym (row_past rs t (subst (λ n. length rs < n) same (grind (arith, nat_tests, e)))) ∙ is.1))

    by : ((tag == t) ≡ true) ⊎ ((tag == t) ≡ false) → IsInwardAt (answered tag response rs) t at len
    by (inl e) = here (eqb-true tag t e) (nat_le tag (length rs)) refl
    by (inr e) = (is.0, row_unset rs tag t response begun (λ same. both_bools (tag == t) (eq-eqb tag t (sym same)) e) ∙ is.1)

answered_noted : (rs : List Row) (tag : ℕ) (response : Response) (answers answers' : List AnswerRow) → 1 ≤ tag → Notes tag response answers answers' → AreNoted rs answers
    → AreNoted (answered tag response rs) answers'
answered_noted rs tag response answers answers' begun notes noted t at len said is = by (here_or tag t)
  where
    long : length (answered tag response rs) ≡ length rs
    long = length-set rs (tag - 1) (row_answered response (slice_index_or rs (tag - 1) rows.Login))

    here : tag ≡ t → (b : Bool) → nat_le tag (length rs) ≡ b → IsNoted answers' t said
    here same true e = record {
      row = notes.row;
      there = subst (λ (list : List AnswerRow). Contains list notes.row) (sym notes.rows) (Contains-append_right answers (notes.row ∷ []) notes.row (contains_first notes.row []));
      tag_is = notes.tag_is ∙ same;
      response = response;
      canonical = notes.canonical;
      says = said_of response (row_at rs t) at len said
          (sym (subst (λ n. row_at (answered tag response rs) n ≡ row_answered response (row_at rs n)) same (row_set rs tag response begun (grind (arith, nat_tests, e)))) ∙ is);
    }
    here same false e =
        let past : length rs < tag = grind (arith, nat_tests, e) in
        absurd (no_login at len (Some said) (sym (row_past (answered tag response rs) t (omega (arith, past, same, long))) ∙ is))

    by : ((tag == t) ≡ true) ⊎ ((tag == t) ≡ false) → IsNoted answers' t said
    by (inl e) = here (eqb-true tag t e) (nat_le tag (length rs)) refl
    by (inr e) =
        let still : row_at rs t ≡ rows.Command dirs.In at len (Some said) = sym (row_unset rs tag t response begun (λ same. both_bools (tag == t) (eq-eqb tag t (sym same)) e)) ∙ is in
        subst (λ (list : List AnswerRow). IsNoted list t said) (sym notes.rows) (noted_behind answers notes.row t said (noted t at len said still))

-- and each row is of a command with data-in if it was
kind_answered : (response : Response) (row : Row) → is_inward (row_answered response row) ≡ is_inward row
kind_answered response (rows.Command dirs.In at len said) = refl
kind_answered response (rows.Command dirs.Out at len said) = refl
kind_answered response (rows.Command dirs.Neither at len said) = refl
kind_answered response rows.Login = refl
kind_answered response rows.Logout = refl
kind_answered response rows.Task = refl

kinds_answered : (rs : List Row) (tag : ℕ) (response : Response) (t : ℕ) → 1 ≤ tag → t ≤ length rs → is_inward (row_at (answered tag response rs) t) ≡ is_inward (row_at rs t)
kinds_answered rs tag response t begun within = by (here_or tag t)
  where
    by : ((tag == t) ≡ true) ⊎ ((tag == t) ≡ false) → is_inward (row_at (answered tag response rs) t) ≡ is_inward (row_at rs t)
    by (inl e) =
        let same : tag ≡ t = eqb-true tag t e in
        ap is_inward (subst (λ n. row_at (answered tag response rs) n ≡ row_answered response (row_at rs n)) same (row_set rs tag response begun (omega (arith, same, within))))
        ∙ kind_answered response (row_at rs t)
    by (inr e) = ap is_inward (row_unset rs tag t response begun (λ same. both_bools (tag == t) (eq-eqb tag t (sym same)) e))

pub data_answered : (s s' : ClientState) (tag : ℕ) (response : Response) (answers answers' : List AnswerRow) → s'.rows ≡ answered tag response s.rows → s'.outgoing ≡ without_tag tag s.outgoing
    → has_tag tag (tags_of s.outgoing) ≡ true → Notes tag response answers answers' → KeepsData s s' answers answers'
data_answered s s' tag response answers answers' rows_are outgoing there notes = record {
  more =
      let set : length (answered tag response s.rows) ≡ length s.rows = length-set s.rows (tag - 1) (row_answered response (slice_index_or s.rows (tag - 1) rows.Login)) in
      let long : length s'.rows ≡ length (answered tag response s.rows) = ap length rows_are in
      omega (arith, set, long);
  kinds = λ asked t within is.
      sym (kinds_answered s.rows tag response t (asked tag there) within) ∙ subst (λ (rs : List Row). is_inward (row_at rs t) ≡ true) rows_are is;
  asked = λ asked t has. asked t (tags_fewer tag s.outgoing t (subst (λ (os : List Outgoing). has_tag t (tags_of os) ≡ true) outgoing has));
  rows_stay = λ asked t at len is. subst (λ (rs : List Row). IsInwardAt rs t at len) (sym rows_are) (answered_stays s.rows tag response t at len (asked tag there) is);
  noted = λ asked noted. subst (λ (rs : List Row). AreNoted rs answers') (sym rows_are) (answered_noted s.rows tag response answers answers' (asked tag there) notes noted);
}
