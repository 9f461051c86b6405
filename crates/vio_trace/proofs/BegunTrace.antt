-- Bytes whose front begins the text of a trace: behind the sections that were read stand any others in form.
use Rattle.std.proofs.Common.{◌≡◌, ◌+◌, ◌-◌, ℕ, List, [], ◌++◌, All, codes, length, take, refl, sym, ap, ◌∙◌, append_assoc, length-append, arith}
use Rattle.std.specs.List.{flat_map}
use Rattle.std.proofs.Math.Seq.{take-append_seam}
use Rattle.std.proofs.lemmas.List.Elements.{All-nil}
use Rattle.vio_num.specs.declared.history.Grant.{Grant}
use Rattle.vio_num.specs.declared.history.Served.{Served}
use Rattle.vio_trace.specs.declared.rows.Trace.{Trace}
use Rattle.vio_trace.specs.declared.rows.LogRow.{LogRow}
use Rattle.vio_trace.specs.declared.rows.QueueRow.{QueueRow}
use Rattle.vio_trace.specs.declared.rows.AnswerRow.{AnswerRow}
use Rattle.vio_trace.specs.declared.lan_rows.FrameRow.{FrameRow}
use Rattle.vio_trace.specs.declared.lan_rows.PortRow.{PortRow}
use Rattle.vio_trace.specs.declared.lan_rows.PostRow.{PostRow}
use Rattle.vio_trace.specs.declared.lan_rows.DeliverRow.{DeliverRow}
use Rattle.vio_trace.specs.declared.lan_rows.HarvestRow.{HarvestRow}
use Rattle.vio_trace.specs.declared.window_rows.TceValueRow.{TceValueRow}
use Rattle.vio_trace.specs.declared.window_rows.CopyRow.{CopyRow}
use Rattle.vio_trace.specs.declared.window_rows.StrokeRow.{StrokeRow}
use Rattle.vio_trace.specs.Begun.{AreRows, BeginsRows, BeginsSome, BeginsTrace}
use Rattle.vio_trace.specs.Form.{Ascend, IsInForm, IsOfferOf, IsLogRow, IsQueueRow, IsGrantRow, IsServeRow, IsAnswerRow, IsFrameRow, IsPortRow, IsPostRow, IsDeliverRow, IsHarvestRow, IsTceValueRow, IsCopyRow, IsStrokeRow, LogBefore, QueueBefore, AnswerBefore, FrameBefore, PortBefore, PostBefore, DeliverBefore, HarvestBefore, TceValueBefore, CopyBefore, StrokeBefore}
use Rattle.vio_trace.specs.Shared.{line_ends}
use Rattle.vio_trace.specs.Text.{trace_text, log_text, queue_text, grant_text, serve_text, answer_text, frame_text, port_text, post_text, deliver_text, harvest_text, tce_text, copy_text, stroke_text}
use Rattle.vio_trace.proofs.Laws.{apart, last, made, from_logs, from_queues, from_grants, from_serves, from_answers, from_frames, from_ports, from_posts, from_delivers, from_harvests, from_tces, from_copies, from_strokes}

-- no section has a row
abbrev no_rows : Trace
no_rows = made [] [] [] [] [] [] [] [] [] [] [] [] []

no_rows_form : IsInForm no_rows
no_rows_form = record {
  range = record { logs = All-nil IsLogRow; queues = All-nil IsQueueRow; grants = All-nil IsGrantRow; serves = All-nil IsServeRow; answers = All-nil IsAnswerRow; frames = All-nil IsFrameRow; ports = All-nil IsPortRow; posts = All-nil IsPostRow; delivers = All-nil IsDeliverRow; harvests = All-nil IsHarvestRow; tces = All-nil IsTceValueRow; copies = All-nil IsCopyRow; strokes = All-nil IsStrokeRow };
  order = record { logs = tt; queues = tt; answers = tt; frames = tt; ports = tt; posts = tt; delivers = tt; harvests = tt; tces = tt; copies = tt; strokes = tt; offers = All-nil (λ (frame : FrameRow). All (IsOfferOf frame) frame.offers) };
}

pub title_begins : (bytes : List ℕ) → BeginsSome trace_text IsInForm bytes (length bytes)
title_begins bytes = record {
  front = [];
  rest = bytes;
  more = trace_text no_rows;
  value = no_rows;
  is = no_rows_form;
  bytes_are = refl;
  past = refl;
  text_is = refl;
}

-- a trace whose text is what was read, and then the sections of this one
pub record StandsBehind (from : Trace → List ℕ) (bytes rest : List ℕ) (t : Trace) : Type 0 where
  pub front : List ℕ
  pub whole : Trace
  pub form : IsInForm whole
  pub bytes_are : bytes ≡ front ++ rest
  pub text_is : trace_text whole ≡ front ++ from t

-- behind what was read stand the sections, from one on, of each trace in form
abbrev pub AllStand : (Trace → List ℕ) → List ℕ → List ℕ → Type 0
AllStand from bytes rest = (t : Trace) → IsInForm t → StandsBehind from bytes rest t

pub all_start : {bytes rest : List ℕ} → bytes ≡ codes "trace 1\n" ++ rest → AllStand from_logs bytes rest
all_start e t f = record { front = codes "trace 1\n"; whole = t; form = f; bytes_are = e; text_is = apart t }

-- a section of a trace: its rows are set, and its text stands before that of the next
pub record IsPart {Row : Type 0} (text : Row → List ℕ) (in_range named : Row → Type 0) (before : Row → Row → Type 0)
    (from next : Trace → List ℕ) : Type 0 where
  pub set : List Row → Trace → Trace
  pub form : (rows : List Row) (t : Trace) → AreRows in_range named before rows → IsInForm t → IsInForm (set rows t)
  pub same : (rows : List Row) (t : Trace) → from (set rows t) ≡ flat_map text rows ++ next t

pub all_next : {Row : Type 0} {text : Row → List ℕ} {in_range named : Row → Type 0} {before : Row → Row → Type 0} {from next : Trace → List ℕ}
    {bytes rest behind : List ℕ} → (rows : List Row) → IsPart text in_range named before from next → AllStand from bytes rest
    → All in_range rows × (rest ≡ flat_map text rows ++ behind) → All named rows → Ascend before rows → AllStand next bytes behind
all_next {Row} {text} {in_range} {named} {before} {from} {next} {bytes} {rest} {behind} rows part all read names order t f =
    let w = all (part.set rows t) (part.form rows t (record { range = read.0; names = names; order = order }) f) in
    record {
      front = w.front ++ flat_map text rows;
      whole = w.whole;
      form = w.form;
      bytes_are = w.bytes_are ∙ ap (λ (l : List ℕ). w.front ++ l) read.1 ∙ sym (append_assoc w.front (flat_map text rows) behind);
      text_is = w.text_is ∙ ap (λ (l : List ℕ). w.front ++ l) (part.same rows t) ∙ sym (append_assoc w.front (flat_map text rows) (next t));
    }

-- where a section is begun, a trace is
pub part_begins : {Row : Type 0} {text : Row → List ℕ} {in_range named : Row → Type 0} {before : Row → Row → Type 0} {from next : Trace → List ℕ}
    {bytes rest : List ℕ} {left : ℕ} → IsPart text in_range named before from next → AllStand from bytes rest
    → BeginsRows text in_range named before rest left → BeginsSome trace_text IsInForm bytes left
part_begins {Row} {text} {in_range} {named} {before} {from} {next} {bytes} {rest} {left} part all b =
    let w = all (part.set b.value no_rows) (part.form b.value no_rows b.is no_rows_form) in
    record {
      front = w.front ++ b.front;
      rest = b.rest;
      more = b.more ++ next no_rows;
      value = w.whole;
      is = w.form;
      bytes_are = w.bytes_are ∙ ap (λ (l : List ℕ). w.front ++ l) b.bytes_are ∙ sym (append_assoc w.front b.front b.rest);
      past = b.past;
      text_is = w.text_is ∙ ap (λ (l : List ℕ). w.front ++ l) (part.same b.value no_rows ∙ ap (λ (l : List ℕ). l ++ next no_rows) b.text_is ∙ append_assoc b.front b.more (next no_rows))
          ∙ sym (append_assoc w.front b.front (b.more ++ next no_rows));
    }

-- where the last line is begun, a trace is
pub end_begins : {bytes rest : List ℕ} {left : ℕ} → AllStand (λ (t : Trace). last) bytes rest
    → BeginsSome (λ (text : List ℕ). text) (λ (text : List ℕ). text ≡ codes "end\n") rest left → BeginsSome trace_text IsInForm bytes left
end_begins all b =
    let w = all no_rows no_rows_form in
    record {
      front = w.front ++ b.front;
      rest = b.rest;
      more = b.more;
      value = w.whole;
      is = w.form;
      bytes_are = w.bytes_are ∙ ap (λ (l : List ℕ). w.front ++ l) b.bytes_are ∙ sym (append_assoc w.front b.front b.rest);
      past = b.past;
      text_is = w.text_is ∙ ap (λ (l : List ℕ). w.front ++ l) (sym b.is ∙ b.text_is) ∙ sym (append_assoc w.front b.front b.more);
    }

-- nothing of the last line is read, or all of it
pub end_first : (text : List ℕ) → BeginsSome (λ (t : List ℕ). t) (λ (t : List ℕ). t ≡ codes "end\n") text (length text)
end_first text = record { front = []; rest = text; more = codes "end\n"; value = codes "end\n"; is = refl; bytes_are = refl; past = refl; text_is = refl }

pub end_past : (text rest : List ℕ) → text ≡ codes "end\n" ++ rest → BeginsSome (λ (t : List ℕ). t) (λ (t : List ℕ). t ≡ codes "end\n") text (length rest)
end_past text rest e = record { front = codes "end\n"; rest = rest; more = []; value = codes "end\n"; is = refl; bytes_are = e; past = refl; text_is = refl }

-- the line of the place is the one behind those that end before it
pub begins_line : (bytes : List ℕ) (left line : ℕ) → line ≡ line_ends (take (length bytes - left) bytes) + 1
    → BeginsSome trace_text IsInForm bytes left → BeginsTrace line bytes
begins_line bytes left line e b =
    let number : length bytes - left ≡ length b.front = omega (arith, ap (λ (l : List ℕ). length l) b.bytes_are, length-append b.front b.rest, b.past) in
    let taken : take (length bytes - left) bytes ≡ b.front =
    ap (λ (n : ℕ). take n bytes) number ∙ ap (λ (l : List ℕ). take (length b.front) l) b.bytes_are ∙ take-append_seam b.front b.rest in
    record {
      front = b.front;
      rest = b.rest;
      more = b.more;
      trace = b.value;
      bytes_are = b.bytes_are;
      lines = ap (λ (l : List ℕ). line_ends l + 1) (sym taken) ∙ sym e;
      text_is = record { form = b.is; spelled = sym b.text_is };
    }

pub logs_part : IsPart log_text IsLogRow (λ (row : LogRow). Unit {0}) LogBefore from_logs from_queues
logs_part = record {
  set = λ rows t. record t { logs = rows };
  form = λ rows t g f. record {
    range = record { logs = g.range; queues = f.range.queues; grants = f.range.grants; serves = f.range.serves; answers = f.range.answers; frames = f.range.frames; ports = f.range.ports; posts = f.range.posts; delivers = f.range.delivers; harvests = f.range.harvests; tces = f.range.tces; copies = f.range.copies; strokes = f.range.strokes };
    order = record { logs = g.order; queues = f.order.queues; answers = f.order.answers; frames = f.order.frames; ports = f.order.ports; posts = f.order.posts; delivers = f.order.delivers; harvests = f.order.harvests; tces = f.order.tces; copies = f.order.copies; strokes = f.order.strokes; offers = f.order.offers };
  };
  same = λ rows t. refl;
}

pub queues_part : IsPart queue_text IsQueueRow (λ (row : QueueRow). Unit {0}) QueueBefore from_queues from_grants
queues_part = record {
  set = λ rows t. record t { queues = rows };
  form = λ rows t g f. record {
    range = record { logs = f.range.logs; queues = g.range; grants = f.range.grants; serves = f.range.serves; answers = f.range.answers; frames = f.range.frames; ports = f.range.ports; posts = f.range.posts; delivers = f.range.delivers; harvests = f.range.harvests; tces = f.range.tces; copies = f.range.copies; strokes = f.range.strokes };
    order = record { logs = f.order.logs; queues = g.order; answers = f.order.answers; frames = f.order.frames; ports = f.order.ports; posts = f.order.posts; delivers = f.order.delivers; harvests = f.order.harvests; tces = f.order.tces; copies = f.order.copies; strokes = f.order.strokes; offers = f.order.offers };
  };
  same = λ rows t. refl;
}

pub grants_part : IsPart grant_text IsGrantRow (λ (row : Grant). Unit {0}) (λ (a b : Grant). Unit {0}) from_grants from_serves
grants_part = record {
  set = λ rows t. record t { grants = rows };
  form = λ rows t g f. record {
    range = record { logs = f.range.logs; queues = f.range.queues; grants = g.range; serves = f.range.serves; answers = f.range.answers; frames = f.range.frames; ports = f.range.ports; posts = f.range.posts; delivers = f.range.delivers; harvests = f.range.harvests; tces = f.range.tces; copies = f.range.copies; strokes = f.range.strokes };
    order = record { logs = f.order.logs; queues = f.order.queues; answers = f.order.answers; frames = f.order.frames; ports = f.order.ports; posts = f.order.posts; delivers = f.order.delivers; harvests = f.order.harvests; tces = f.order.tces; copies = f.order.copies; strokes = f.order.strokes; offers = f.order.offers };
  };
  same = λ rows t. refl;
}

pub serves_part : IsPart serve_text IsServeRow (λ (row : Served). Unit {0}) (λ (a b : Served). Unit {0}) from_serves from_answers
serves_part = record {
  set = λ rows t. record t { serves = rows };
  form = λ rows t g f. record {
    range = record { logs = f.range.logs; queues = f.range.queues; grants = f.range.grants; serves = g.range; answers = f.range.answers; frames = f.range.frames; ports = f.range.ports; posts = f.range.posts; delivers = f.range.delivers; harvests = f.range.harvests; tces = f.range.tces; copies = f.range.copies; strokes = f.range.strokes };
    order = record { logs = f.order.logs; queues = f.order.queues; answers = f.order.answers; frames = f.order.frames; ports = f.order.ports; posts = f.order.posts; delivers = f.order.delivers; harvests = f.order.harvests; tces = f.order.tces; copies = f.order.copies; strokes = f.order.strokes; offers = f.order.offers };
  };
  same = λ rows t. refl;
}

pub answers_part : IsPart answer_text IsAnswerRow (λ (row : AnswerRow). Unit {0}) AnswerBefore from_answers from_frames
answers_part = record {
  set = λ rows t. record t { answers = rows };
  form = λ rows t g f. record {
    range = record { logs = f.range.logs; queues = f.range.queues; grants = f.range.grants; serves = f.range.serves; answers = g.range; frames = f.range.frames; ports = f.range.ports; posts = f.range.posts; delivers = f.range.delivers; harvests = f.range.harvests; tces = f.range.tces; copies = f.range.copies; strokes = f.range.strokes };
    order = record { logs = f.order.logs; queues = f.order.queues; answers = g.order; frames = f.order.frames; ports = f.order.ports; posts = f.order.posts; delivers = f.order.delivers; harvests = f.order.harvests; tces = f.order.tces; copies = f.order.copies; strokes = f.order.strokes; offers = f.order.offers };
  };
  same = λ rows t. refl;
}

pub frames_part : IsPart frame_text IsFrameRow (λ (frame : FrameRow). All (IsOfferOf frame) frame.offers) FrameBefore from_frames from_ports
frames_part = record {
  set = λ rows t. record t { frames = rows };
  form = λ rows t g f. record {
    range = record { logs = f.range.logs; queues = f.range.queues; grants = f.range.grants; serves = f.range.serves; answers = f.range.answers; frames = g.range; ports = f.range.ports; posts = f.range.posts; delivers = f.range.delivers; harvests = f.range.harvests; tces = f.range.tces; copies = f.range.copies; strokes = f.range.strokes };
    order = record { logs = f.order.logs; queues = f.order.queues; answers = f.order.answers; frames = g.order; ports = f.order.ports; posts = f.order.posts; delivers = f.order.delivers; harvests = f.order.harvests; tces = f.order.tces; copies = f.order.copies; strokes = f.order.strokes; offers = g.names };
  };
  same = λ rows t. refl;
}

pub ports_part : IsPart port_text IsPortRow (λ (row : PortRow). Unit {0}) PortBefore from_ports from_posts
ports_part = record {
  set = λ rows t. record t { ports = rows };
  form = λ rows t g f. record {
    range = record { logs = f.range.logs; queues = f.range.queues; grants = f.range.grants; serves = f.range.serves; answers = f.range.answers; frames = f.range.frames; ports = g.range; posts = f.range.posts; delivers = f.range.delivers; harvests = f.range.harvests; tces = f.range.tces; copies = f.range.copies; strokes = f.range.strokes };
    order = record { logs = f.order.logs; queues = f.order.queues; answers = f.order.answers; frames = f.order.frames; ports = g.order; posts = f.order.posts; delivers = f.order.delivers; harvests = f.order.harvests; tces = f.order.tces; copies = f.order.copies; strokes = f.order.strokes; offers = f.order.offers };
  };
  same = λ rows t. refl;
}

pub posts_part : IsPart post_text IsPostRow (λ (row : PostRow). Unit {0}) PostBefore from_posts from_delivers
posts_part = record {
  set = λ rows t. record t { posts = rows };
  form = λ rows t g f. record {
    range = record { logs = f.range.logs; queues = f.range.queues; grants = f.range.grants; serves = f.range.serves; answers = f.range.answers; frames = f.range.frames; ports = f.range.ports; posts = g.range; delivers = f.range.delivers; harvests = f.range.harvests; tces = f.range.tces; copies = f.range.copies; strokes = f.range.strokes };
    order = record { logs = f.order.logs; queues = f.order.queues; answers = f.order.answers; frames = f.order.frames; ports = f.order.ports; posts = g.order; delivers = f.order.delivers; harvests = f.order.harvests; tces = f.order.tces; copies = f.order.copies; strokes = f.order.strokes; offers = f.order.offers };
  };
  same = λ rows t. refl;
}

pub delivers_part : IsPart deliver_text IsDeliverRow (λ (row : DeliverRow). Unit {0}) DeliverBefore from_delivers from_harvests
delivers_part = record {
  set = λ rows t. record t { delivers = rows };
  form = λ rows t g f. record {
    range = record { logs = f.range.logs; queues = f.range.queues; grants = f.range.grants; serves = f.range.serves; answers = f.range.answers; frames = f.range.frames; ports = f.range.ports; posts = f.range.posts; delivers = g.range; harvests = f.range.harvests; tces = f.range.tces; copies = f.range.copies; strokes = f.range.strokes };
    order = record { logs = f.order.logs; queues = f.order.queues; answers = f.order.answers; frames = f.order.frames; ports = f.order.ports; posts = f.order.posts; delivers = g.order; harvests = f.order.harvests; tces = f.order.tces; copies = f.order.copies; strokes = f.order.strokes; offers = f.order.offers };
  };
  same = λ rows t. refl;
}

pub harvests_part : IsPart harvest_text IsHarvestRow (λ (row : HarvestRow). Unit {0}) HarvestBefore from_harvests from_tces
harvests_part = record {
  set = λ rows t. record t { harvests = rows };
  form = λ rows t g f. record {
    range = record { logs = f.range.logs; queues = f.range.queues; grants = f.range.grants; serves = f.range.serves; answers = f.range.answers; frames = f.range.frames; ports = f.range.ports; posts = f.range.posts; delivers = f.range.delivers; harvests = g.range; tces = f.range.tces; copies = f.range.copies; strokes = f.range.strokes };
    order = record { logs = f.order.logs; queues = f.order.queues; answers = f.order.answers; frames = f.order.frames; ports = f.order.ports; posts = f.order.posts; delivers = f.order.delivers; harvests = g.order; tces = f.order.tces; copies = f.order.copies; strokes = f.order.strokes; offers = f.order.offers };
  };
  same = λ rows t. refl;
}

pub tces_part : IsPart tce_text IsTceValueRow (λ (row : TceValueRow). Unit {0}) TceValueBefore from_tces from_copies
tces_part = record {
  set = λ rows t. record t { tces = rows };
  form = λ rows t g f. record {
    range = record { logs = f.range.logs; queues = f.range.queues; grants = f.range.grants; serves = f.range.serves; answers = f.range.answers; frames = f.range.frames; ports = f.range.ports; posts = f.range.posts; delivers = f.range.delivers; harvests = f.range.harvests; tces = g.range; copies = f.range.copies; strokes = f.range.strokes };
    order = record { logs = f.order.logs; queues = f.order.queues; answers = f.order.answers; frames = f.order.frames; ports = f.order.ports; posts = f.order.posts; delivers = f.order.delivers; harvests = f.order.harvests; tces = g.order; copies = f.order.copies; strokes = f.order.strokes; offers = f.order.offers };
  };
  same = λ rows t. refl;
}

pub copies_part : IsPart copy_text IsCopyRow (λ (row : CopyRow). Unit {0}) CopyBefore from_copies from_strokes
copies_part = record {
  set = λ rows t. record t { copies = rows };
  form = λ rows t g f. record {
    range = record { logs = f.range.logs; queues = f.range.queues; grants = f.range.grants; serves = f.range.serves; answers = f.range.answers; frames = f.range.frames; ports = f.range.ports; posts = f.range.posts; delivers = f.range.delivers; harvests = f.range.harvests; tces = f.range.tces; copies = g.range; strokes = f.range.strokes };
    order = record { logs = f.order.logs; queues = f.order.queues; answers = f.order.answers; frames = f.order.frames; ports = f.order.ports; posts = f.order.posts; delivers = f.order.delivers; harvests = f.order.harvests; tces = f.order.tces; copies = g.order; strokes = f.order.strokes; offers = f.order.offers };
  };
  same = λ rows t. refl;
}

pub strokes_part : IsPart stroke_text IsStrokeRow (λ (row : StrokeRow). Unit {0}) StrokeBefore from_strokes (λ (t : Trace). last)
strokes_part = record {
  set = λ rows t. record t { strokes = rows };
  form = λ rows t g f. record {
    range = record { logs = f.range.logs; queues = f.range.queues; grants = f.range.grants; serves = f.range.serves; answers = f.range.answers; frames = f.range.frames; ports = f.range.ports; posts = f.range.posts; delivers = f.range.delivers; harvests = f.range.harvests; tces = f.range.tces; copies = f.range.copies; strokes = g.range };
    order = record { logs = f.order.logs; queues = f.order.queues; answers = f.order.answers; frames = f.order.frames; ports = f.order.ports; posts = f.order.posts; delivers = f.order.delivers; harvests = f.order.harvests; tces = f.order.tces; copies = f.order.copies; strokes = g.order; offers = f.order.offers };
  };
  same = λ rows t. refl;
}
