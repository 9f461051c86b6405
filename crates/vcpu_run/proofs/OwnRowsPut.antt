-- The entry of an answer that a server unit puts within a turn: the row in service has its answer.
use Rattle.std.proofs.Common.{◌≡◌, ◌≢◌, ◌∙◌, ◌⊎◌, inl, inr, ℕ, ◌++◌, Contains, List, [], ◌∷◌, Some, length, refl, slice_get, sym, ap, subst}
use Rattle.std.specs.Prelude.{slice_set}
use Rattle.std.proofs.lemmas.List.Elements.{All-head, All-push, All-weaker, Contains-append_left, Contains-push}
use Rattle.vio_num.specs.declared.history.Served.{Served}
use Rattle.vio_num.specs.declared.names.UnitId.{UnitId}
use Rattle.page_slots.specs.Stroke.{StrokeValue}
use Rattle.tce_window.specs.PortState.{PortPlace}
use Rattle.block_server.specs.Doings.{Doing, PutsEntry}
use Rattle.block_server.specs.Judged.{row_in}
use Rattle.block_server.specs.RowsOn.{row_tag}
use Rattle.block_server.specs.Records.{AnswersRow}
use Rattle.block_server.specs.Serving.{SettlesRow}
use Rattle.block_server.specs.declared.request.Request.{Request}
use Rattle.block_server.specs.declared.service.Outcome.{Outcome}
use Rattle.block_server.specs.declared.service.Outcome.TheVariants as outcomes
use Rattle.block_server.specs.declared.service.Stage.TheVariants as stages
use Rattle.vscsi_client.specs.State.{ClientState}
use Rattle.vscsi_client.specs.declared.row.Row.{Row}
use Rattle.vcpu_run.specs.DataKept.{IsInwardAt}
use Rattle.vcpu_run.specs.OwnRows.{IsAnswerDue, IsRowInService, KeepsRows}
use Rattle.vcpu_run.specs.PlainBorne.{AreBorne, IsInPlace, IsOfRow, rows_by}
use Rattle.vcpu_run.specs.PlainNoted.{AreAskedFor, AsksFor, IsAnswerOfRow, IsNoResponse}
use Rattle.vcpu_run.proofs.LinesShown.{behind_first, contains_first, first_or}
use Rattle.vcpu_run.proofs.OwnRowsStay.{Strokes, idle_stays, start_settled}
use Rattle.vcpu_run.proofs.PlainAnswers.{answers_more}
use Rattle.vcpu_run.proofs.PlainBorne.{rows_push}
use Rattle.vcpu_run.proofs.PlainReady.{all_front, all_rest}

-- ---- the last of a list

last_got : (before : List Served) (row : Served) → slice_get (before ++ row ∷ []) (length before) ≡ Some row
last_got [] row = refl
last_got (first ∷ before) row = last_got before row

last_set : (before : List Served) (row row' : Served) → slice_set (before ++ row ∷ []) (length before) row' ≡ before ++ row' ∷ []
last_set [] row row' = refl
last_set (first ∷ before) row row' = ap (λ (list : List Served). first ∷ list) (last_set before row row')

last_or : (list : List Served) (row one : Served) → Contains (list ++ row ∷ []) one → Contains list one ⊎ (row ≡ one)
last_or [] row one has = by (first_or row one [] has)
  where
    by : (row ≡ one) ⊎ Contains [] one → Contains [] one ⊎ (row ≡ one)
    by (inl same) = inr same
    by (inr none) = inl none
last_or (first ∷ list) row one has = by (last_or list row one) (first_or first one (list ++ row ∷ []) has)
  where
    on : Contains list one ⊎ (row ≡ one) → Contains (first ∷ list) one ⊎ (row ≡ one)
    on (inl there) = inl (behind_first first one list there)
    on (inr same) = inr same

    by : (Contains (list ++ row ∷ []) one → Contains list one ⊎ (row ≡ one)) → (first ≡ one) ⊎ Contains (list ++ row ∷ []) one → Contains (first ∷ list) one ⊎ (row ≡ one)
    by rest (inl same) = inl (subst (Contains (first ∷ list)) same (contains_first first list))
    by rest (inr there) = on (rest there)

-- the same row with an answer
abbrev pub with_answer : Served → List ℕ → Served
with_answer row answer = record row { answer = answer }

-- ---- what is so of the others

-- what a stroke says of its row, but for its answer
record IsOfThis (row : Served) (rs : List Row) (page : ℕ) (stroke : StrokeValue) : Type 0 where
  tag_is : row_tag row ≡ stroke.name.mark
  lies : (at len : ℕ) → IsInwardAt rs stroke.name.mark at len → IsInPlace row.inn at page stroke

of_answered : (list : List Served) (row : Served) (answer : List ℕ) (rs : List Row) (page : ℕ) (stroke : StrokeValue) → IsOfRow (list ++ row ∷ []) rs page stroke
    → IsOfRow (list ++ with_answer row answer ∷ []) rs page stroke
of_answered list row answer rs page stroke is = by (last_or list row is.row is.there)
  where
    this : row ≡ is.row → IsOfThis row rs page stroke
    this same = subst (λ (one : Served). IsOfThis one rs page stroke) (sym same) (record { tag_is = is.tag_is; lies = is.lies })

    by : Contains list is.row ⊎ (row ≡ is.row) → IsOfRow (list ++ with_answer row answer ∷ []) rs page stroke
    by (inl there) = record {
      row = is.row;
      there = Contains-append_left list (with_answer row answer ∷ []) is.row there;
      tag_is = is.tag_is;
      known = is.known;
      lies = is.lies;
    }
    by (inr same) = record {
      row = with_answer row answer;
      there = Contains-push list (with_answer row answer);
      tag_is = (this same).tag_is;
      known = is.known;
      lies = (this same).lies;
    }

-- ---- the row in service gets its answer

-- the rows behind that
pub record IsAnswered (d d' : Doing) (settled : List Served) (place : ℕ) : Type 0 where
  pub was : IsRowInService d settled place
  pub now : d'.rows ≡ was.before ++ with_answer was.row d.answer ∷ []

pub answered_row : (d d' : Doing) (settled : List Served) (place : ℕ) → IsRowInService d settled place → AnswersRow d.rows d'.rows place d.answer → IsAnswered d d' settled place
answered_row d d' settled place is answers = record {
  was = is;
  now = answers is.row there ∙ set;
}
  where
    there : slice_get d.rows place ≡ Some is.row
    there = ap (λ (list : List Served). slice_get list place) is.rows ∙ ap (λ (n : ℕ). slice_get (is.before ++ is.row ∷ []) n) is.place_is ∙ last_got is.before is.row

    set : slice_set d.rows place (with_answer is.row d.answer) ≡ is.before ++ with_answer is.row d.answer ∷ []
    set = ap (λ (list : List Served). slice_set list place (with_answer is.row d.answer)) is.rows
        ∙ ap (λ (n : ℕ). slice_set (is.before ++ is.row ∷ []) n (with_answer is.row d.answer)) is.place_is
        ∙ last_set is.before is.row (with_answer is.row d.answer)

answers_keep : (d d' : Doing) (s : ClientState) (place : ℕ) (step : PutsEntry d d') → d.stage ≡ stages.Entry (outcomes.Served place) → (keeps : KeepsRows d s)
    → IsAnswered d d' keeps.settled place → KeepsRows d' s
answers_keep d d' s place step stage keeps is = record {
  borne = subst (λ (id : UnitId). AreBorne (rows_by id d'.rows) id s.rows d'.client.strokes) (sym step.stays.id)
      (subst (AreBorne (rows_by d.id d'.rows) d.id s.rows) (sym step.client.strokes)
      (subst (λ (rows : List Served). AreBorne rows d.id s.rows d.client.strokes) (sym now) borne'));
  sized = subst (λ (id : UnitId). AreAskedFor (rows_by id d'.rows) s.rows) (sym step.stays.id)
      (subst (λ (rows : List Served). AreAskedFor rows s.rows) (sym now)
      (All-push (AsksFor s.rows) keeps.settled row' (all_front (AsksFor s.rows) keeps.settled (is.was.row ∷ []) sized) (All-head (AsksFor s.rows) is.was.row [] (all_rest (AsksFor s.rows) keeps.settled (is.was.row ∷ []) sized))));
  settled = rows_by d'.id d'.rows;
  settled_are = start_settled d' (ap row_in step.stage);
  answered = λ page front list there.
      All-weaker (λ (stroke : StrokeValue). stroke.name.who ≢ d.client.place.unit → IsAnswerOfRow keeps.settled stroke ⊎ (IsNoResponse stroke ⊎ IsAnswerDue d stroke))
      (λ (stroke : StrokeValue). stroke.name.who ≢ d'.client.place.unit → IsAnswerOfRow (rows_by d'.id d'.rows) stroke ⊎ (IsNoResponse stroke ⊎ IsAnswerDue d' stroke))
      (λ stroke has other. by stroke (has (λ e. other (e ∙ sym (ap (λ (p : PortPlace). p.unit) step.client.place))))) list
      (keeps.answered page front list (ap (λ (strokes : Strokes). strokes page) (sym step.client.strokes) ∙ there));
}
  where
    row' : Served
    row' = with_answer is.was.row d.answer

    was : rows_by d.id d.rows ≡ keeps.settled ++ is.was.row ∷ []
    was = ap (rows_by d.id) is.was.rows ∙ rows_push d.id is.was.before is.was.row is.was.unit_is ∙ ap (λ (list : List Served). list ++ is.was.row ∷ []) is.was.settled_is

    now : rows_by d.id d'.rows ≡ keeps.settled ++ row' ∷ []
    now = ap (rows_by d.id) is.now ∙ rows_push d.id is.was.before row' is.was.unit_is ∙ ap (λ (list : List Served). list ++ row' ∷ []) is.was.settled_is

    all : rows_by d'.id d'.rows ≡ keeps.settled ++ row' ∷ []
    all = ap (λ (id : UnitId). rows_by id d'.rows) step.stays.id ∙ now

    sized : AreAskedFor (keeps.settled ++ is.was.row ∷ []) s.rows
    sized = subst (λ (rows : List Served). AreAskedFor rows s.rows) was keeps.sized

    borne' : AreBorne (keeps.settled ++ row' ∷ []) d.id s.rows d.client.strokes
    borne' page behind list there =
        All-weaker (λ (stroke : StrokeValue). stroke.name.who ≡ d.id → IsOfRow (rows_by d.id d.rows) s.rows page stroke)
        (λ (stroke : StrokeValue). stroke.name.who ≡ d.id → IsOfRow (keeps.settled ++ row' ∷ []) s.rows page stroke)
        (λ stroke has own. of_answered keeps.settled is.was.row d.answer s.rows page stroke (subst (λ (rows : List Served). IsOfRow rows s.rows page stroke) was (has own)))
        list (keeps.borne page behind list there)

    no_other : (r r' : Request) (xs ys : List Request) → r ∷ xs ≡ r' ∷ ys → r ≡ r'
    no_other r r' xs ys e = cc (e)

    on : (stroke : StrokeValue) → IsAnswerOfRow (rows_by d'.id d'.rows) stroke ⊎ IsNoResponse stroke
        → IsAnswerOfRow (rows_by d'.id d'.rows) stroke ⊎ (IsNoResponse stroke ⊎ IsAnswerDue d' stroke)
    on stroke (inl of) = inl of
    on stroke (inr isnt) = inr (inl isnt)

    by : (stroke : StrokeValue) → IsAnswerOfRow keeps.settled stroke ⊎ (IsNoResponse stroke ⊎ IsAnswerDue d stroke)
        → IsAnswerOfRow (rows_by d'.id d'.rows) stroke ⊎ (IsNoResponse stroke ⊎ IsAnswerDue d' stroke)
    by stroke (inl of) = on stroke (answers_more keeps.settled (row' ∷ []) (rows_by d'.id d'.rows) all stroke (inl of))
    by stroke (inr (inl isnt)) = inr (inl isnt)
    by stroke (inr (inr due)) = inl (record {
      row = row';
      there = subst (λ (rows : List Served). Contains rows row') (sym all) (Contains-push keeps.settled row');
      tag_is = is.was.tag_is
          ∙ ap (λ (request : Request). request.tag) (no_other is.was.request due.request is.was.rest due.rest (sym is.was.pending ∙ due.pending)) ∙ sym due.mark_is;
      answer_is = due.answer_is;
    })

-- ---- the step

none_set : (d d' : Doing) (s : ClientState) (step : PutsEntry d d') → d'.rows ≡ d.rows → ((place : ℕ) → step.outcome ≢ outcomes.Served place) → KeepsRows d s → KeepsRows d' s
none_set d d' s step rows none keeps = idle_stays d d' s step.stays.id rows step.client step.stage (λ place is. none place (same step.outcome (outcomes.Served place) (sym step.first ∙ is))) keeps
  where
    same : (a b : Outcome) → stages.Entry a ≡ stages.Entry b → a ≡ b
    same a b e = cc (e)

pub puts_rows : (d d' : Doing) (s : ClientState) → PutsEntry d d' → KeepsRows d s → KeepsRows d' s
puts_rows d d' s step keeps = by step.outcome refl
  where
    by : (outcome : Outcome) → step.outcome ≡ outcome → KeepsRows d' s
    by (outcomes.Granted number) is =
        none_set d d' s step (subst (λ (o : Outcome). SettlesRow o d.answer d.rows d'.rows) is step.rows) (λ place e. no_granted number place (sym is ∙ e)) keeps
      where
        no_granted : (number place : ℕ) → outcomes.Granted number ≡ outcomes.Served place → ⊥
        no_granted number place e = cc (e)
    by outcomes.Rejected is = none_set d d' s step (subst (λ (o : Outcome). SettlesRow o d.answer d.rows d'.rows) is step.rows) (λ place e. no_rejected place (sym is ∙ e)) keeps
      where
        no_rejected : (place : ℕ) → outcomes.Rejected ≡ outcomes.Served place → ⊥
        no_rejected place e = cc (e)
    by (outcomes.Served place) is =
        answers_keep d d' s place step stage keeps
        (answered_row d d' keeps.settled place (keeps.settled_are.one place (ap row_in stage)) (subst (λ (o : Outcome). SettlesRow o d.answer d.rows d'.rows) is step.rows))
      where
        stage : d.stage ≡ stages.Entry (outcomes.Served place)
        stage = step.first ∙ ap (λ (o : Outcome). stages.Entry o) is
