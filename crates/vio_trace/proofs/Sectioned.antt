-- The text of a trace, section by section: where its front was read, what is left is the rest of its text.
use Rattle.std.proofs.Common.{◌≡◌, ℕ, List, [], ◌∷◌, ◌++◌, All, codes, sym, ◌∙◌, arith}
use Rattle.std.proofs.lemmas.List.{append_cancel_left}
use Rattle.std.proofs.lemmas.List.Elements.{All-cons, All-nil}
use Rattle.vio_num.specs.declared.history.Grant.{Grant}
use Rattle.vio_num.specs.declared.history.Served.{Served}
use Rattle.vio_trace.specs.declared.rows.Trace.{Trace}
use Rattle.vio_trace.specs.declared.rows.LogRow.{LogRow}
use Rattle.vio_trace.specs.declared.rows.QueueRow.{QueueRow}
use Rattle.vio_trace.specs.declared.rows.AnswerRow.{AnswerRow}
use Rattle.vio_trace.specs.declared.lan_rows.FrameRow.{FrameRow}
use Rattle.vio_trace.specs.declared.lan_rows.PortRow.{PortRow}
use Rattle.vio_trace.specs.declared.lan_rows.PostRow.{PostRow}
use Rattle.vio_trace.specs.declared.lan_rows.DeliverRow.{DeliverRow}
use Rattle.vio_trace.specs.declared.lan_rows.HarvestRow.{HarvestRow}
use Rattle.vio_trace.specs.declared.window_rows.TceValueRow.{TceValueRow}
use Rattle.vio_trace.specs.declared.window_rows.CopyRow.{CopyRow}
use Rattle.vio_trace.specs.declared.window_rows.StrokeRow.{StrokeRow}
use Rattle.vio_trace.specs.Form.{Ascend, IsNoText, IsOfferOf, IsTextOf, IsLogRow, IsQueueRow, IsGrantRow, IsServeRow, IsAnswerRow, IsFrameRow, IsPortRow, IsPostRow, IsDeliverRow, IsHarvestRow, IsTceValueRow, IsCopyRow, IsStrokeRow, LogBefore, QueueBefore, AnswerBefore, FrameBefore, PortBefore, PostBefore, DeliverBefore, HarvestBefore, TceValueBefore, CopyBefore, StrokeBefore}
use Rattle.vio_trace.specs.Sections.{IsSection, NoSection, OnlySection}
use Rattle.vio_trace.specs.Text.{log_text, queue_text, grant_text, serve_text, answer_text, frame_text, port_text, post_text, deliver_text, harvest_text, tce_text, copy_text, stroke_text}
use Rattle.vio_trace.proofs.Laws.{apart, last, from_logs, from_queues, from_grants, from_serves, from_answers, from_frames, from_ports, from_posts, from_delivers, from_harvests, from_tces, from_copies, from_strokes, queues_after, grants_after, serves_after, answers_after, frames_after, ports_after, posts_after, delivers_after, harvests_after, tces_after, copies_after, strokes_after}

-- what every row has
all_so : {Row : Type 0} → (rows : List Row) → All (λ (row : Row). Unit {0}) rows
all_so {Row} [] = All-nil (λ (row : Row). Unit {0})
all_so {Row} (row ∷ rows) = All-cons (λ (row : Row). Unit {0}) row rows tt (all_so rows)

any_order : {Row : Type 0} → (rows : List Row) → Ascend (λ (a b : Row). Unit {0}) rows
any_order [] = tt
any_order (a ∷ []) = tt
any_order (a ∷ b ∷ rows) = (tt, any_order (b ∷ rows))

-- where the bytes are a trace's text, this is what is left of it from one section on
abbrev pub IsLeft : (Trace → List ℕ) → List ℕ → List ℕ → Type 0
IsLeft from bytes rest = (t : Trace) → IsTextOf t bytes → rest ≡ from t

-- behind the first line stand the sections
pub started : {bytes rest : List ℕ} → bytes ≡ codes "trace 1\n" ++ rest → IsLeft from_logs bytes rest
started e t h = append_cancel_left (codes "trace 1\n") _ _ (sym e ∙ h.spelled ∙ apart t)

pub none_started : {bytes : List ℕ} → ((rest : List ℕ) → ¬ (codes "trace 1\n" ++ rest ≡ bytes)) → IsNoText bytes
none_started none t h = none (from_logs t) (sym (h.spelled ∙ apart t))

-- logs

pub logs_section : (t : Trace) (bytes rest : List ℕ) → IsTextOf t bytes → rest ≡ from_logs t → IsSection log_text IsLogRow (λ (row : LogRow). Unit {0}) LogBefore 1 t.logs (from_queues t) rest
logs_section t bytes rest h e =
    record { range = h.form.range.logs; names = all_so t.logs; order = h.form.order.logs; later = queues_after 1 (omega arith) t; whole = e }

pub logs_next : {bytes rest behind : List ℕ} {rows : List LogRow} → IsLeft from_logs bytes rest
    → OnlySection log_text IsLogRow (λ (row : LogRow). Unit {0}) LogBefore 1 rows behind rest → IsLeft from_queues bytes behind
logs_next {bytes} {rest} left only t h = sym (only t.logs (from_queues t) (logs_section t bytes rest h (left t h))).1

pub logs_none : {bytes rest : List ℕ} → IsLeft from_logs bytes rest
    → NoSection log_text IsLogRow (λ (row : LogRow). Unit {0}) LogBefore 1 rest → IsNoText bytes
logs_none {bytes} {rest} left none t h = none t.logs (from_queues t) (logs_section t bytes rest h (left t h))

-- queues

pub queues_section : (t : Trace) (bytes rest : List ℕ) → IsTextOf t bytes → rest ≡ from_queues t → IsSection queue_text IsQueueRow (λ (row : QueueRow). Unit {0}) QueueBefore 2 t.queues (from_grants t) rest
queues_section t bytes rest h e =
    record { range = h.form.range.queues; names = all_so t.queues; order = h.form.order.queues; later = grants_after 2 (omega arith) t; whole = e }

pub queues_next : {bytes rest behind : List ℕ} {rows : List QueueRow} → IsLeft from_queues bytes rest
    → OnlySection queue_text IsQueueRow (λ (row : QueueRow). Unit {0}) QueueBefore 2 rows behind rest → IsLeft from_grants bytes behind
queues_next {bytes} {rest} left only t h = sym (only t.queues (from_grants t) (queues_section t bytes rest h (left t h))).1

pub queues_none : {bytes rest : List ℕ} → IsLeft from_queues bytes rest
    → NoSection queue_text IsQueueRow (λ (row : QueueRow). Unit {0}) QueueBefore 2 rest → IsNoText bytes
queues_none {bytes} {rest} left none t h = none t.queues (from_grants t) (queues_section t bytes rest h (left t h))

-- grants

pub grants_section : (t : Trace) (bytes rest : List ℕ) → IsTextOf t bytes → rest ≡ from_grants t → IsSection grant_text IsGrantRow (λ (row : Grant). Unit {0}) (λ (a b : Grant). Unit {0}) 3 t.grants (from_serves t) rest
grants_section t bytes rest h e =
    record { range = h.form.range.grants; names = all_so t.grants; order = any_order t.grants; later = serves_after 3 (omega arith) t; whole = e }

pub grants_next : {bytes rest behind : List ℕ} {rows : List Grant} → IsLeft from_grants bytes rest
    → OnlySection grant_text IsGrantRow (λ (row : Grant). Unit {0}) (λ (a b : Grant). Unit {0}) 3 rows behind rest → IsLeft from_serves bytes behind
grants_next {bytes} {rest} left only t h = sym (only t.grants (from_serves t) (grants_section t bytes rest h (left t h))).1

pub grants_none : {bytes rest : List ℕ} → IsLeft from_grants bytes rest
    → NoSection grant_text IsGrantRow (λ (row : Grant). Unit {0}) (λ (a b : Grant). Unit {0}) 3 rest → IsNoText bytes
grants_none {bytes} {rest} left none t h = none t.grants (from_serves t) (grants_section t bytes rest h (left t h))

-- serves

pub serves_section : (t : Trace) (bytes rest : List ℕ) → IsTextOf t bytes → rest ≡ from_serves t → IsSection serve_text IsServeRow (λ (row : Served). Unit {0}) (λ (a b : Served). Unit {0}) 4 t.serves (from_answers t) rest
serves_section t bytes rest h e =
    record { range = h.form.range.serves; names = all_so t.serves; order = any_order t.serves; later = answers_after 4 (omega arith) t; whole = e }

pub serves_next : {bytes rest behind : List ℕ} {rows : List Served} → IsLeft from_serves bytes rest
    → OnlySection serve_text IsServeRow (λ (row : Served). Unit {0}) (λ (a b : Served). Unit {0}) 4 rows behind rest → IsLeft from_answers bytes behind
serves_next {bytes} {rest} left only t h = sym (only t.serves (from_answers t) (serves_section t bytes rest h (left t h))).1

pub serves_none : {bytes rest : List ℕ} → IsLeft from_serves bytes rest
    → NoSection serve_text IsServeRow (λ (row : Served). Unit {0}) (λ (a b : Served). Unit {0}) 4 rest → IsNoText bytes
serves_none {bytes} {rest} left none t h = none t.serves (from_answers t) (serves_section t bytes rest h (left t h))

-- answers

pub answers_section : (t : Trace) (bytes rest : List ℕ) → IsTextOf t bytes → rest ≡ from_answers t → IsSection answer_text IsAnswerRow (λ (row : AnswerRow). Unit {0}) AnswerBefore 5 t.answers (from_frames t) rest
answers_section t bytes rest h e =
    record { range = h.form.range.answers; names = all_so t.answers; order = h.form.order.answers; later = frames_after 5 (omega arith) t; whole = e }

pub answers_next : {bytes rest behind : List ℕ} {rows : List AnswerRow} → IsLeft from_answers bytes rest
    → OnlySection answer_text IsAnswerRow (λ (row : AnswerRow). Unit {0}) AnswerBefore 5 rows behind rest → IsLeft from_frames bytes behind
answers_next {bytes} {rest} left only t h = sym (only t.answers (from_frames t) (answers_section t bytes rest h (left t h))).1

pub answers_none : {bytes rest : List ℕ} → IsLeft from_answers bytes rest
    → NoSection answer_text IsAnswerRow (λ (row : AnswerRow). Unit {0}) AnswerBefore 5 rest → IsNoText bytes
answers_none {bytes} {rest} left none t h = none t.answers (from_frames t) (answers_section t bytes rest h (left t h))

-- frames

pub frames_section : (t : Trace) (bytes rest : List ℕ) → IsTextOf t bytes → rest ≡ from_frames t → IsSection frame_text IsFrameRow (λ (frame : FrameRow). All (IsOfferOf frame) frame.offers) FrameBefore 6 t.frames (from_ports t) rest
frames_section t bytes rest h e =
    record { range = h.form.range.frames; names = h.form.order.offers; order = h.form.order.frames; later = ports_after 6 (omega arith) t; whole = e }

pub frames_next : {bytes rest behind : List ℕ} {rows : List FrameRow} → IsLeft from_frames bytes rest
    → OnlySection frame_text IsFrameRow (λ (frame : FrameRow). All (IsOfferOf frame) frame.offers) FrameBefore 6 rows behind rest → IsLeft from_ports bytes behind
frames_next {bytes} {rest} left only t h = sym (only t.frames (from_ports t) (frames_section t bytes rest h (left t h))).1

pub frames_none : {bytes rest : List ℕ} → IsLeft from_frames bytes rest
    → NoSection frame_text IsFrameRow (λ (frame : FrameRow). All (IsOfferOf frame) frame.offers) FrameBefore 6 rest → IsNoText bytes
frames_none {bytes} {rest} left none t h = none t.frames (from_ports t) (frames_section t bytes rest h (left t h))

-- ports

pub ports_section : (t : Trace) (bytes rest : List ℕ) → IsTextOf t bytes → rest ≡ from_ports t → IsSection port_text IsPortRow (λ (row : PortRow). Unit {0}) PortBefore 7 t.ports (from_posts t) rest
ports_section t bytes rest h e =
    record { range = h.form.range.ports; names = all_so t.ports; order = h.form.order.ports; later = posts_after 7 (omega arith) t; whole = e }

pub ports_next : {bytes rest behind : List ℕ} {rows : List PortRow} → IsLeft from_ports bytes rest
    → OnlySection port_text IsPortRow (λ (row : PortRow). Unit {0}) PortBefore 7 rows behind rest → IsLeft from_posts bytes behind
ports_next {bytes} {rest} left only t h = sym (only t.ports (from_posts t) (ports_section t bytes rest h (left t h))).1

pub ports_none : {bytes rest : List ℕ} → IsLeft from_ports bytes rest
    → NoSection port_text IsPortRow (λ (row : PortRow). Unit {0}) PortBefore 7 rest → IsNoText bytes
ports_none {bytes} {rest} left none t h = none t.ports (from_posts t) (ports_section t bytes rest h (left t h))

-- posts

pub posts_section : (t : Trace) (bytes rest : List ℕ) → IsTextOf t bytes → rest ≡ from_posts t → IsSection post_text IsPostRow (λ (row : PostRow). Unit {0}) PostBefore 8 t.posts (from_delivers t) rest
posts_section t bytes rest h e =
    record { range = h.form.range.posts; names = all_so t.posts; order = h.form.order.posts; later = delivers_after 8 (omega arith) t; whole = e }

pub posts_next : {bytes rest behind : List ℕ} {rows : List PostRow} → IsLeft from_posts bytes rest
    → OnlySection post_text IsPostRow (λ (row : PostRow). Unit {0}) PostBefore 8 rows behind rest → IsLeft from_delivers bytes behind
posts_next {bytes} {rest} left only t h = sym (only t.posts (from_delivers t) (posts_section t bytes rest h (left t h))).1

pub posts_none : {bytes rest : List ℕ} → IsLeft from_posts bytes rest
    → NoSection post_text IsPostRow (λ (row : PostRow). Unit {0}) PostBefore 8 rest → IsNoText bytes
posts_none {bytes} {rest} left none t h = none t.posts (from_delivers t) (posts_section t bytes rest h (left t h))

-- delivers

pub delivers_section : (t : Trace) (bytes rest : List ℕ) → IsTextOf t bytes → rest ≡ from_delivers t → IsSection deliver_text IsDeliverRow (λ (row : DeliverRow). Unit {0}) DeliverBefore 9 t.delivers (from_harvests t) rest
delivers_section t bytes rest h e =
    record { range = h.form.range.delivers; names = all_so t.delivers; order = h.form.order.delivers; later = harvests_after 9 (omega arith) t; whole = e }

pub delivers_next : {bytes rest behind : List ℕ} {rows : List DeliverRow} → IsLeft from_delivers bytes rest
    → OnlySection deliver_text IsDeliverRow (λ (row : DeliverRow). Unit {0}) DeliverBefore 9 rows behind rest → IsLeft from_harvests bytes behind
delivers_next {bytes} {rest} left only t h = sym (only t.delivers (from_harvests t) (delivers_section t bytes rest h (left t h))).1

pub delivers_none : {bytes rest : List ℕ} → IsLeft from_delivers bytes rest
    → NoSection deliver_text IsDeliverRow (λ (row : DeliverRow). Unit {0}) DeliverBefore 9 rest → IsNoText bytes
delivers_none {bytes} {rest} left none t h = none t.delivers (from_harvests t) (delivers_section t bytes rest h (left t h))

-- harvests

pub harvests_section : (t : Trace) (bytes rest : List ℕ) → IsTextOf t bytes → rest ≡ from_harvests t → IsSection harvest_text IsHarvestRow (λ (row : HarvestRow). Unit {0}) HarvestBefore 10 t.harvests (from_tces t) rest
harvests_section t bytes rest h e =
    record { range = h.form.range.harvests; names = all_so t.harvests; order = h.form.order.harvests; later = tces_after 10 (omega arith) t; whole = e }

pub harvests_next : {bytes rest behind : List ℕ} {rows : List HarvestRow} → IsLeft from_harvests bytes rest
    → OnlySection harvest_text IsHarvestRow (λ (row : HarvestRow). Unit {0}) HarvestBefore 10 rows behind rest → IsLeft from_tces bytes behind
harvests_next {bytes} {rest} left only t h = sym (only t.harvests (from_tces t) (harvests_section t bytes rest h (left t h))).1

pub harvests_none : {bytes rest : List ℕ} → IsLeft from_harvests bytes rest
    → NoSection harvest_text IsHarvestRow (λ (row : HarvestRow). Unit {0}) HarvestBefore 10 rest → IsNoText bytes
harvests_none {bytes} {rest} left none t h = none t.harvests (from_tces t) (harvests_section t bytes rest h (left t h))

-- tces

pub tces_section : (t : Trace) (bytes rest : List ℕ) → IsTextOf t bytes → rest ≡ from_tces t → IsSection tce_text IsTceValueRow (λ (row : TceValueRow). Unit {0}) TceValueBefore 11 t.tces (from_copies t) rest
tces_section t bytes rest h e =
    record { range = h.form.range.tces; names = all_so t.tces; order = h.form.order.tces; later = copies_after 11 (omega arith) t; whole = e }

pub tces_next : {bytes rest behind : List ℕ} {rows : List TceValueRow} → IsLeft from_tces bytes rest
    → OnlySection tce_text IsTceValueRow (λ (row : TceValueRow). Unit {0}) TceValueBefore 11 rows behind rest → IsLeft from_copies bytes behind
tces_next {bytes} {rest} left only t h = sym (only t.tces (from_copies t) (tces_section t bytes rest h (left t h))).1

pub tces_none : {bytes rest : List ℕ} → IsLeft from_tces bytes rest
    → NoSection tce_text IsTceValueRow (λ (row : TceValueRow). Unit {0}) TceValueBefore 11 rest → IsNoText bytes
tces_none {bytes} {rest} left none t h = none t.tces (from_copies t) (tces_section t bytes rest h (left t h))

-- copies

pub copies_section : (t : Trace) (bytes rest : List ℕ) → IsTextOf t bytes → rest ≡ from_copies t → IsSection copy_text IsCopyRow (λ (row : CopyRow). Unit {0}) CopyBefore 12 t.copies (from_strokes t) rest
copies_section t bytes rest h e =
    record { range = h.form.range.copies; names = all_so t.copies; order = h.form.order.copies; later = strokes_after 12 (omega arith) t; whole = e }

pub copies_next : {bytes rest behind : List ℕ} {rows : List CopyRow} → IsLeft from_copies bytes rest
    → OnlySection copy_text IsCopyRow (λ (row : CopyRow). Unit {0}) CopyBefore 12 rows behind rest → IsLeft from_strokes bytes behind
copies_next {bytes} {rest} left only t h = sym (only t.copies (from_strokes t) (copies_section t bytes rest h (left t h))).1

pub copies_none : {bytes rest : List ℕ} → IsLeft from_copies bytes rest
    → NoSection copy_text IsCopyRow (λ (row : CopyRow). Unit {0}) CopyBefore 12 rest → IsNoText bytes
copies_none {bytes} {rest} left none t h = none t.copies (from_strokes t) (copies_section t bytes rest h (left t h))

-- strokes

pub strokes_section : (t : Trace) (bytes rest : List ℕ) → IsTextOf t bytes → rest ≡ from_strokes t → IsSection stroke_text IsStrokeRow (λ (row : StrokeRow). Unit {0}) StrokeBefore 13 t.strokes (last) rest
strokes_section t bytes rest h e =
    record { range = h.form.range.strokes; names = all_so t.strokes; order = h.form.order.strokes; later = omega arith; whole = e }

pub strokes_next : {bytes rest behind : List ℕ} {rows : List StrokeRow} → IsLeft from_strokes bytes rest
    → OnlySection stroke_text IsStrokeRow (λ (row : StrokeRow). Unit {0}) StrokeBefore 13 rows behind rest → IsLeft (λ t. last) bytes behind
strokes_next {bytes} {rest} left only t h = sym (only t.strokes last (strokes_section t bytes rest h (left t h))).1

pub strokes_none : {bytes rest : List ℕ} → IsLeft from_strokes bytes rest
    → NoSection stroke_text IsStrokeRow (λ (row : StrokeRow). Unit {0}) StrokeBefore 13 rest → IsNoText bytes
strokes_none {bytes} {rest} left none t h = none t.strokes last (strokes_section t bytes rest h (left t h))

-- behind the sections stands the last line
pub none_ended : {bytes rest : List ℕ} → IsLeft (λ t. last) bytes rest → ¬ (rest ≡ codes "end\n") → IsNoText bytes
none_ended left none t h = none (left t h)
