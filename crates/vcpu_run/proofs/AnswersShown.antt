-- The answers of a client as a trace shows them.
use Rattle.std.proofs.Common.{zero, suc, ◌≡◌, ◌∙◌, ℕ, ◌<◌, ◌≤◌, false, Contains, get_or, length, arith, All, List, [], ◌∷◌, Option, Some, None, map, refl, sym, ap, subst}
use Rattle.std.proofs.lemmas.List.Elements.{All-cons, All-head, All-map, All-nil, All-tail, All-weaker}
use Rattle.tce_window.specs.Window.{strokes_at}
use Rattle.vio_num.specs.declared.names.UnitId.{UnitId}
use Rattle.crq_ring.specs.declared.rows.PipeRow.{PipeRow}
use Rattle.crq_session.specs.PlainState.{end_of}
use Rattle.vio_trace.specs.declared.rows.AnswerRow.{AnswerRow}
use Rattle.vio_trace.specs.declared.rows.Trace.{Trace}
use Rattle.vcpu_run.specs.AnswersSeen.{AreResponsesRead, IsResponseRead, fronts_of}
use Rattle.vcpu_run.proofs.AnswersSeen.{Fronts, responses_more}
use Rattle.vcpu_run.specs.declared.driver.Driver.{Driver}
use Rattle.vcpu_run.specs.declared.pair.Pair.{Pair}
use Rattle.vcpu_run.specs.declared.unit_seat.UnitSeat.{UnitSeat}
use Rattle.vcpu_run.specs.AnswersTaken.{AreAmong, AreAnswersTaken, AreTakesSaid, IsAnswerOf, answered_tags, answers_to, no_takes, tags_among, tags_taken}
use Rattle.vcpu_run.specs.CopyRows.{same_unit}
use Rattle.vcpu_run.specs.Credited.{Ended}
use Rattle.vcpu_run.specs.EventsHeard.{events_taken, losses_told}
use Rattle.vcpu_run.specs.Gathered.{answer_by, answers_at, driver_of, rows_if}
use Rattle.vcpu_run.specs.Intake.{entries_taken}
use Rattle.vcpu_run.specs.DataTold.{AreDataTold}
use Rattle.vcpu_run.specs.LinesShow.{Sees, seen_at}
use Rattle.vcpu_run.specs.Refusals.{seen_in}
use Rattle.vcpu_run.specs.TakenScripts.{IsTaken}
use Rattle.vcpu_run.proofs.DataOf.{NotesAll, told_further}
use Rattle.vcpu_run.proofs.Among.{among_front}
use Rattle.vcpu_run.proofs.EventsHeard.{heard_last}
use Rattle.lan_script.proofs.Order.{Each, each_weaker}
use Rattle.vcpu_run.proofs.Ordering.{each_of}
use Rattle.vcpu_run.proofs.Parts.{Told}

each_named : (unit : UnitId) (rows : List AnswerRow) → Each (λ (row : AnswerRow). row.unit ≡ unit) (map (answer_by unit) rows)
each_named unit [] = tt
each_named unit (row ∷ rows) = (refl, each_named unit rows)

answers_own : (unit : UnitId) (slot : Option Driver) → Each (λ (row : AnswerRow). row.unit ≡ unit) (rows_if (λ driver. map (answer_by unit) driver.answers.items) slot)
answers_own unit None = tt
answers_own unit (Some driver) = each_named unit driver.answers.items

pub answers_told : (pairs : List Pair) (unit : UnitId) (seats : List UnitSeat)
    → Told (λ (row : AnswerRow). same_unit row.unit unit) (λ (seat : UnitSeat). same_unit seat.unit unit) (answers_at pairs) seats
answers_told pairs unit seats =
    each_of (λ seat. Each (λ (row : AnswerRow). same_unit row.unit unit ≡ same_unit seat.unit unit) (answers_at pairs seat)) seats
    (λ seat. each_weaker (λ (row : AnswerRow). row.unit ≡ seat.unit) (λ (row : AnswerRow). same_unit row.unit unit ≡ same_unit seat.unit unit)
    (λ row h. ap (λ u. same_unit u unit) h) (answers_at pairs seat) (answers_own seat.unit (driver_of pairs seat)))

-- the unit's name changes neither the tags nor the bytes
tags_named : (unit : UnitId) (rows : List AnswerRow) → answered_tags (map (answer_by unit) rows) ≡ answered_tags rows
tags_named unit [] = refl
tags_named unit (row ∷ rows) = ap (λ (tags : List ℕ). row.tag ∷ tags) (tags_named unit rows)

each_answer : (unit : UnitId) (rows : List AnswerRow) → All IsAnswerOf rows → All IsAnswerOf (map (answer_by unit) rows)
each_answer unit [] all = All-nil IsAnswerOf
each_answer unit (row ∷ rows) all =
    let first : IsAnswerOf row = All-head IsAnswerOf row rows all in
    All-cons IsAnswerOf (answer_by unit row) (map (answer_by unit) rows) (record { response = first.response; canonical = first.canonical; tag_is = first.tag_is })
    (each_answer unit rows (All-tail IsAnswerOf row rows all))

-- what is so of a client's answers, of its records and of what it took is so of them in the trace
pub answers_shown : (trace : Trace) (client : UnitId) (own : List Ended) (pair : Pair) (driver : Driver) → answers_to trace client ≡ map (answer_by client) driver.answers.items
    → entries_taken trace client ≡ (end_of [] pair.link false).taken → IsTaken own pair driver → AreAnswersTaken trace client own
answers_shown trace client own pair driver answers entries is = record {
  entries = subst (λ (tags : List ℕ). AreAmong tags (tags_taken (entries_taken trace client))) (sym tags)
      (subst (λ (rows : List PipeRow). AreAmong (answered_tags driver.answers.items) (tags_taken rows)) (sym entries)
      (among_front (answered_tags driver.answers.items) (tags_among driver.client.kept) (tags_taken (end_of [] pair.link false).taken) is.given.order));
  each = subst (All IsAnswerOf) (sym answers) (each_answer client driver.answers.items is.given.each);
  said = subst (λ (tags : List ℕ). AreTakesSaid tags no_takes own) (sym tags) is.said;
  heard = subst (λ (rows : List PipeRow). losses_told own ≤ events_taken rows) (sym entries) (heard_last own driver.client (end_of [] pair.link false).taken is.heard);
}
  where
    tags : answered_tags (answers_to trace client) ≡ answered_tags driver.answers.items
    tags = ap answered_tags answers ∙ tags_named client driver.answers.items

pub contains_map : {X Y : Type 0} (f : X → Y) (xs : List X) (x : X) → Contains xs x → Contains (map f xs) (f x)
contains_map {X = X} f xs x (k, less, at) = by xs k less at
  where
    by : (ys : List X) (j : ℕ) → j < length ys → get_or ys j x ≡ x → Contains (map f ys) (f x)
    by [] j less at = absurd (omega (arith, less))
    by (y ∷ ys) zero less at = (zero, omega arith, ap f at)
    by (y ∷ ys) (suc j) less at = let rest = by ys j (omega (arith, less)) at in (suc rest.0, omega (arith, rest.1), rest.2)

-- what it notes of data is noted in the trace
notes_shown : (client : UnitId) (rows : List AnswerRow) → NotesAll rows (map (answer_by client) rows)
notes_shown client rows tag said is = record {
  row = answer_by client is.row;
  there = contains_map (answer_by client) rows is.row is.there;
  tag_is = is.tag_is;
  response = is.response;
  canonical = is.canonical;
  says = is.says;
}

pub data_shown : (trace : Trace) (client server : UnitId) (own : List Ended) (pair : Pair) (driver : Driver) → answers_to trace client ≡ map (answer_by client) driver.answers.items
    → Sees (seen_at pair) (seen_in trace client server) → pair.server ≡ server → IsTaken own pair driver → AreDataTold (seen_in trace client server) server own (answers_to trace client)
data_shown trace client server own pair driver answers sees same is =
    subst (λ (rows : List AnswerRow). AreDataTold (seen_in trace client server) server own rows) (sym answers)
    (subst (λ (who : UnitId). AreDataTold (seen_in trace client server) who own (map (answer_by client) driver.answers.items)) same
    (told_further (seen_at pair) (seen_in trace client server) own driver.answers.items (map (answer_by client) driver.answers.items) pair.server sees
    (notes_shown client driver.answers.items) is.reads))

-- the answers were read in the region that the trace shows
response_named : (front_at : Fronts) (client : UnitId) (row : AnswerRow) → IsResponseRead front_at row → IsResponseRead front_at (answer_by client row)
response_named front_at client row is = record {
  response = is.response;
  canonical = is.canonical;
  tag_is = is.tag_is;
  slot = is.slot;
  within = is.within;
  bytes = is.bytes;
  spells = is.spells;
  fronts = is.fronts;
  there = is.there;
  read = is.read;
}

pub responses_shown : (trace : Trace) (client server : UnitId) (pair : Pair) (driver : Driver) → answers_to trace client ≡ map (answer_by client) driver.answers.items
    → Sees (seen_at pair) (seen_in trace client server) → AreResponsesRead (fronts_of (strokes_at pair.window.pages)) driver.answers.items
    → AreResponsesRead (seen_in trace client server).front_at (answers_to trace client)
responses_shown trace client server pair driver answers sees read =
    subst (AreResponsesRead (seen_in trace client server).front_at) (sym answers)
    (All-map (IsResponseRead (seen_in trace client server).front_at) (answer_by client) driver.answers.items
    (All-weaker (IsResponseRead (seen_in trace client server).front_at) (λ (row : AnswerRow). IsResponseRead (seen_in trace client server).front_at (answer_by client row))
    (response_named (seen_in trace client server).front_at client) driver.answers.items
    (responses_more (fronts_of (strokes_at pair.window.pages)) (seen_in trace client server).front_at sees.fronts driver.answers.items read)))
