-- The steps of a server unit within a turn that change neither its rows nor what it laid; and what is so at its start and its end.
use Rattle.std.proofs.Common.{◌≡◌, ◌≢◌, ◌∙◌, ◌⊎◌, inl, inr, ℕ, ◌++◌, List, [], ◌∷◌, Option, Some, None, append-nil, refl, sym, ap, subst}
use Rattle.std.proofs.lemmas.List.Elements.{All-weaker}
use Rattle.vio_num.specs.declared.history.Served.{Served}
use Rattle.vio_num.specs.declared.names.UnitId.{UnitId}
use Rattle.page_slots.specs.Stroke.{StrokeValue}
use Rattle.tce_window.specs.PortState.{PortPlace}
use Rattle.block_server.specs.Doings.{CallsOnly, Doing, DropsAll, KeepsEntry, LogsOutFirst, SettlesEvent, TakesRequest}
use Rattle.block_server.specs.Judged.{row_in}
use Rattle.block_server.specs.Talk.{StaysKnown}
use Rattle.block_server.specs.declared.request.Request.{Request}
use Rattle.block_server.specs.declared.service.Outcome.TheVariants as outcomes
use Rattle.block_server.specs.declared.service.Stage.TheVariants as stages
use Rattle.vscsi_client.specs.State.{ClientState}
use Rattle.vcpu_run.specs.OwnRows.{AreSettled, IsAnswerDue, IsRowInService, KeepsRows}
use Rattle.vcpu_run.specs.PlainBorne.{AreBorne, rows_by}
use Rattle.vcpu_run.specs.PlainNoted.{AreAnswers, AreAskedFor, IsAnswerOfRow, IsNoResponse}
use Rattle.vcpu_run.proofs.PlainAnswers.{answers_more}
use Rattle.vcpu_run.proofs.PlainBorne.{rows_push}

abbrev pub Strokes : Type 0
Strokes = ℕ → Option (List StrokeValue)

-- what a step leaves that changes neither rows nor strokes
pub record StaysLaid (old new : Doing) : Type 0 where
  pub id : new.id ≡ old.id
  pub rows : new.rows ≡ old.rows
  pub client : StaysKnown old.client new.client
  -- the answer that is due is
  pub due : (stroke : StrokeValue) → IsAnswerDue old stroke → IsAnswerDue new stroke
  -- and the row in service
  pub settled : (settled : List Served) → AreSettled old settled → AreSettled new settled

pub rows_stay : (old new : Doing) (s : ClientState) → StaysLaid old new → KeepsRows old s → KeepsRows new s
rows_stay old new s stays keeps = record {
  borne = subst (λ (id : UnitId). AreBorne (rows_by id new.rows) id s.rows new.client.strokes) (sym stays.id)
      (subst (λ (rows : List Served). AreBorne (rows_by old.id rows) old.id s.rows new.client.strokes) (sym stays.rows)
      (subst (AreBorne (rows_by old.id old.rows) old.id s.rows) (sym stays.client.strokes) keeps.borne));
  sized = subst (λ (id : UnitId). AreAskedFor (rows_by id new.rows) s.rows) (sym stays.id)
      (subst (λ (rows : List Served). AreAskedFor (rows_by old.id rows) s.rows) (sym stays.rows) keeps.sized);
  settled = keeps.settled;
  settled_are = stays.settled keeps.settled keeps.settled_are;
  answered = λ page front list there.
      All-weaker (λ (stroke : StrokeValue). stroke.name.who ≢ old.client.place.unit → IsAnswerOfRow keeps.settled stroke ⊎ (IsNoResponse stroke ⊎ IsAnswerDue old stroke))
      (λ (stroke : StrokeValue). stroke.name.who ≢ new.client.place.unit → IsAnswerOfRow keeps.settled stroke ⊎ (IsNoResponse stroke ⊎ IsAnswerDue new stroke))
      (λ stroke is other. by stroke (is (λ e. other (e ∙ sym unit)))) list
      (keeps.answered page front list (ap (λ (strokes : Strokes). strokes page) (sym stays.client.strokes) ∙ there));
}
  where
    unit : new.client.place.unit ≡ old.client.place.unit
    unit = ap (λ (p : PortPlace). p.unit) stays.client.place

    by : (stroke : StrokeValue) → IsAnswerOfRow keeps.settled stroke ⊎ (IsNoResponse stroke ⊎ IsAnswerDue old stroke)
        → IsAnswerOfRow keeps.settled stroke ⊎ (IsNoResponse stroke ⊎ IsAnswerDue new stroke)
    by stroke (inl is) = inl is
    by stroke (inr (inl is)) = inr (inl is)
    by stroke (inr (inr is)) = inr (inr (stays.due stroke is))

-- ---- the service is as it was

pub record StaysInService (old new : Doing) : Type 0 where
  pub id : new.id ≡ old.id
  pub rows : new.rows ≡ old.rows
  pub stage : new.stage ≡ old.stage
  pub answer : new.answer ≡ old.answer
  pub first : (request : Request) (rest : List Request) → old.pending ≡ request ∷ rest → (rest' : List Request) × (new.pending ≡ request ∷ rest')

due_stays : (old new : Doing) → StaysInService old new → (stroke : StrokeValue) → IsAnswerDue old stroke → IsAnswerDue new stroke
due_stays old new stays stroke is = record {
  place = is.place;
  stage = stays.stage ∙ is.stage;
  request = is.request;
  rest = (stays.first is.request is.rest is.pending).0;
  pending = (stays.first is.request is.rest is.pending).1;
  mark_is = is.mark_is;
  answer_is = stays.answer ∙ is.answer_is;
}

pub settled_stay : (old new : Doing) → new.id ≡ old.id → new.rows ≡ old.rows → row_in new.stage ≡ row_in old.stage
    → ((request : Request) (rest : List Request) → old.pending ≡ request ∷ rest → (rest' : List Request) × (new.pending ≡ request ∷ rest'))
    → (settled : List Served) → AreSettled old settled → AreSettled new settled
settled_stay old new id rows row first settled are = record {
  none = λ none. subst (λ (one : UnitId). rows_by one new.rows ≡ settled) (sym id) (ap (rows_by old.id) rows ∙ are.none (sym row ∙ none));
  one = λ place is.
      let was : IsRowInService old settled place = are.one place (sym row ∙ is) in
      record {
        request = was.request;
        rest = (first was.request was.rest was.pending).0;
        pending = (first was.request was.rest was.pending).1;
        before = was.before;
        row = was.row;
        place_is = was.place_is;
        rows = rows ∙ was.rows;
        unit_is = was.unit_is ∙ sym id;
        tag_is = was.tag_is;
        settled_is = ap (λ (one : UnitId). rows_by one was.before) id ∙ was.settled_is;
      };
}

pub service_stays : (old new : Doing) (s : ClientState) → StaysInService old new → StaysKnown old.client new.client → KeepsRows old s → KeepsRows new s
service_stays old new s stays client keeps =
    rows_stay old new s (record { id = stays.id; rows = stays.rows; client = client; due = due_stays old new stays; settled = settled_stay old new stays.id stays.rows (ap row_in stays.stage) stays.first }) keeps

-- ---- nothing is in service any more

-- the unit's rows are those that are settled, and the one in service behind them
pub settled_more : (d : Doing) (settled : List Served) → AreSettled d settled → (more : List Served) × (rows_by d.id d.rows ≡ settled ++ more)
settled_more d settled are = by (row_in d.stage) refl
  where
    by : (o : Option ℕ) → row_in d.stage ≡ o → (more : List Served) × (rows_by d.id d.rows ≡ settled ++ more)
    by None none = ([], are.none none ∙ sym (append-nil settled))
    by (Some place) some =
        let is : IsRowInService d settled place = are.one place some in (
          is.row ∷ [],
          ap (rows_by d.id) is.rows ∙ rows_push d.id is.before is.row is.unit_is ∙ ap (λ (list : List Served). list ++ is.row ∷ []) is.settled_is,
        )

-- while nothing is in service all of the unit's rows are settled
pub start_settled : (d : Doing) → row_in d.stage ≡ None → AreSettled d (rows_by d.id d.rows)
start_settled d none = record { none = λ same. refl; one = λ place is. absurd (no_row place (sym none ∙ is)) }
  where
    no_row : (place : ℕ) → None ≡ Some place → ⊥
    no_row place e = cc (e)

-- no answer was due, and nothing is in service
pub idle_stays : (old new : Doing) (s : ClientState) → new.id ≡ old.id → new.rows ≡ old.rows → StaysKnown old.client new.client → new.stage ≡ stages.Start
    → ((place : ℕ) → old.stage ≢ stages.Entry (outcomes.Served place)) → KeepsRows old s → KeepsRows new s
idle_stays old new s id rows client start none keeps = record {
  borne = subst (λ (one : UnitId). AreBorne (rows_by one new.rows) one s.rows new.client.strokes) (sym id)
      (subst (λ (list : List Served). AreBorne (rows_by old.id list) old.id s.rows new.client.strokes) (sym rows)
      (subst (AreBorne (rows_by old.id old.rows) old.id s.rows) (sym client.strokes) keeps.borne));
  sized = subst (λ (one : UnitId). AreAskedFor (rows_by one new.rows) s.rows) (sym id)
      (subst (λ (list : List Served). AreAskedFor (rows_by old.id list) s.rows) (sym rows) keeps.sized);
  settled = rows_by new.id new.rows;
  settled_are = start_settled new (ap row_in start);
  answered = λ page front list there.
      All-weaker (λ (stroke : StrokeValue). stroke.name.who ≢ old.client.place.unit → IsAnswerOfRow keeps.settled stroke ⊎ (IsNoResponse stroke ⊎ IsAnswerDue old stroke))
      (λ (stroke : StrokeValue). stroke.name.who ≢ new.client.place.unit → IsAnswerOfRow (rows_by new.id new.rows) stroke ⊎ (IsNoResponse stroke ⊎ IsAnswerDue new stroke))
      (λ stroke is other. by stroke (is (λ e. other (e ∙ sym (ap (λ (p : PortPlace). p.unit) client.place))))) list
      (keeps.answered page front list (ap (λ (strokes : Strokes). strokes page) (sym client.strokes) ∙ there));
}
  where
    more : (more : List Served) × (rows_by old.id old.rows ≡ keeps.settled ++ more)
    more = settled_more old keeps.settled keeps.settled_are

    same : rows_by new.id new.rows ≡ keeps.settled ++ more.0
    same = ap (λ (one : UnitId). rows_by one new.rows) id ∙ ap (rows_by old.id) rows ∙ more.1

    on : (stroke : StrokeValue) → IsAnswerOfRow (rows_by new.id new.rows) stroke ⊎ IsNoResponse stroke
        → IsAnswerOfRow (rows_by new.id new.rows) stroke ⊎ (IsNoResponse stroke ⊎ IsAnswerDue new stroke)
    on stroke (inl is) = inl is
    on stroke (inr isnt) = inr (inl isnt)

    by : (stroke : StrokeValue) → IsAnswerOfRow keeps.settled stroke ⊎ (IsNoResponse stroke ⊎ IsAnswerDue old stroke)
        → IsAnswerOfRow (rows_by new.id new.rows) stroke ⊎ (IsNoResponse stroke ⊎ IsAnswerDue new stroke)
    by stroke (inl is) = on stroke (answers_more keeps.settled more.0 (rows_by new.id new.rows) same stroke (inl is))
    by stroke (inr (inl is)) = inr (inl is)
    by stroke (inr (inr is)) = absurd (none is.place is.stage)

-- ---- the steps

pub calls_rows : (d d' : Doing) (s : ClientState) → CallsOnly d d' → KeepsRows d s → KeepsRows d' s
calls_rows d d' s step keeps = service_stays d d' s (record {
  id = step.stays.id;
  rows = step.aside.rows;
  stage = step.aside.served.stage;
  answer = step.aside.served.answer;
  first = λ request rest is. (rest, step.aside.served.pending ∙ is);
}) step.aside.client keeps

pub settles_rows : (d d' : Doing) (s : ClientState) → SettlesEvent d d' → KeepsRows d s → KeepsRows d' s
settles_rows d d' s step keeps = service_stays d d' s (record {
  id = step.stays.id;
  rows = step.aside.rows;
  stage = step.aside.served.stage;
  answer = step.aside.served.answer;
  first = λ request rest is. (rest, step.aside.served.pending ∙ is);
}) step.aside.client keeps

pub takes_rows : (d d' : Doing) (s : ClientState) → TakesRequest d d' → KeepsRows d s → KeepsRows d' s
takes_rows d d' s step keeps = service_stays d d' s (record {
  id = step.stays.id;
  rows = step.put.rows;
  stage = step.stage;
  answer = step.answer;
  first = λ request rest is. (rest ++ step.request ∷ [], step.pending ∙ ap (λ (list : List Request). list ++ step.request ∷ []) is);
}) step.put.client keeps

pub keeps_rows : (d d' : Doing) (s : ClientState) → KeepsEntry d d' → KeepsRows d s → KeepsRows d' s
keeps_rows d d' s step keeps = service_stays d d' s (record {
  id = step.stays.id;
  rows = step.put.rows;
  stage = step.served.stage;
  answer = step.served.answer;
  first = λ request rest is. (rest, step.served.pending ∙ is);
}) step.put.client keeps

pub drops_rows : (d d' : Doing) (s : ClientState) → DropsAll d d' → KeepsRows d s → KeepsRows d' s
drops_rows d d' s step keeps = idle_stays d d' s step.stays.id step.put.rows step.put.client step.stage (λ place. step.unanswered (outcomes.Served place)) keeps

pub logs_rows : (d d' : Doing) (s : ClientState) → LogsOutFirst d d' → KeepsRows d s → KeepsRows d' s
logs_rows d d' s step keeps = idle_stays d d' s step.stays.id step.put.rows step.put.client step.stage (λ place is. no_entry place (sym step.first ∙ is)) keeps
  where
    no_entry : (place : ℕ) → stages.Start ≡ stages.Entry (outcomes.Served place) → ⊥
    no_entry place e = cc (e)

-- ---- the turn

-- what is so of the pair's rows is so as a turn begins, and as it ends, where no row is in service
pub rows_begin : (d : Doing) (s : ClientState) → row_in d.stage ≡ None → AreBorne (rows_by d.id d.rows) d.id s.rows d.client.strokes → AreAskedFor (rows_by d.id d.rows) s.rows
    → AreAnswers (rows_by d.id d.rows) d.client.place.unit d.client.strokes → KeepsRows d s
rows_begin d s none borne sized answers = record {
  borne = borne;
  sized = sized;
  settled = rows_by d.id d.rows;
  settled_are = start_settled d none;
  answered = λ page front list there.
      All-weaker (λ (stroke : StrokeValue). stroke.name.who ≢ d.client.place.unit → IsAnswerOfRow (rows_by d.id d.rows) stroke ⊎ IsNoResponse stroke)
      (λ (stroke : StrokeValue). stroke.name.who ≢ d.client.place.unit → IsAnswerOfRow (rows_by d.id d.rows) stroke ⊎ (IsNoResponse stroke ⊎ IsAnswerDue d stroke))
      (λ stroke is other. on stroke (is other)) list (answers page front list there);
}
  where
    on : (stroke : StrokeValue) → IsAnswerOfRow (rows_by d.id d.rows) stroke ⊎ IsNoResponse stroke
        → IsAnswerOfRow (rows_by d.id d.rows) stroke ⊎ (IsNoResponse stroke ⊎ IsAnswerDue d stroke)
    on stroke (inl is) = inl is
    on stroke (inr isnt) = inr (inl isnt)

pub rows_end : (d : Doing) (s : ClientState) → row_in d.stage ≡ None → KeepsRows d s → AreAnswers (rows_by d.id d.rows) d.client.place.unit d.client.strokes
rows_end d s none keeps page front list there =
    All-weaker (λ (stroke : StrokeValue). stroke.name.who ≢ d.client.place.unit → IsAnswerOfRow keeps.settled stroke ⊎ (IsNoResponse stroke ⊎ IsAnswerDue d stroke))
    (λ (stroke : StrokeValue). stroke.name.who ≢ d.client.place.unit → IsAnswerOfRow (rows_by d.id d.rows) stroke ⊎ IsNoResponse stroke)
    (λ stroke is other. by stroke (is other)) list (keeps.answered page front list there)
  where
    no_row : (place : ℕ) → None ≡ Some place → ⊥
    no_row place e = cc (e)

    no_entry : (place : ℕ) → d.stage ≡ stages.Entry (outcomes.Served place) → ⊥
    no_entry place at = no_row place (sym none ∙ ap row_in at)

    by : (stroke : StrokeValue) → IsAnswerOfRow keeps.settled stroke ⊎ (IsNoResponse stroke ⊎ IsAnswerDue d stroke) → IsAnswerOfRow (rows_by d.id d.rows) stroke ⊎ IsNoResponse stroke
    by stroke (inl is) = inl (subst (λ (rows : List Served). IsAnswerOfRow rows stroke) (sym (keeps.settled_are.none none)) is)
    by stroke (inr (inl isnt)) = inr isnt
    by stroke (inr (inr due)) = absurd (no_entry due.place due.stage)
