-- A trace put together from its sections, one behind the other.
use Rattle.std.proofs.Common.{◌≡◌, ◌++◌, ℕ, List, All, codes, sym, ap, ◌∙◌}
use Rattle.std.specs.List.{flat_map}
use Rattle.vio_trace.specs.declared.rows.LogRow.{LogRow}
use Rattle.vio_trace.specs.declared.rows.QueueRow.{QueueRow}
use Rattle.vio_num.specs.declared.history.Grant.{Grant}
use Rattle.vio_num.specs.declared.history.Served.{Served}
use Rattle.vio_trace.specs.declared.rows.AnswerRow.{AnswerRow}
use Rattle.vio_trace.specs.declared.lan_rows.FrameRow.{FrameRow}
use Rattle.vio_trace.specs.declared.lan_rows.PortRow.{PortRow}
use Rattle.vio_trace.specs.declared.lan_rows.PostRow.{PostRow}
use Rattle.vio_trace.specs.declared.lan_rows.DeliverRow.{DeliverRow}
use Rattle.vio_trace.specs.declared.lan_rows.HarvestRow.{HarvestRow}
use Rattle.vio_trace.specs.declared.window_rows.TceValueRow.{TceValueRow}
use Rattle.vio_trace.specs.declared.window_rows.CopyRow.{CopyRow}
use Rattle.vio_trace.specs.declared.window_rows.StrokeRow.{StrokeRow}
use Rattle.vio_trace.specs.Form.{Ascend, IsOfferOf, IsTextOf, IsLogRow, IsQueueRow, IsGrantRow, IsServeRow, IsAnswerRow, IsFrameRow, IsPortRow, IsPostRow, IsDeliverRow, IsHarvestRow, IsTceValueRow, IsCopyRow, IsStrokeRow, LogBefore, QueueBefore, AnswerBefore, FrameBefore, PortBefore, PostBefore, DeliverBefore, HarvestBefore, TceValueBefore, CopyBefore, StrokeBefore}
use Rattle.vio_trace.specs.Text.{log_text, queue_text, grant_text, serve_text, answer_text, frame_text, port_text, post_text, deliver_text, harvest_text, tce_text, copy_text, stroke_text}
use Rattle.vio_trace.proofs.Laws.{apart, made}

-- the bytes are the text of the trace whose sections were read from them
pub trace_joined : (logs : List LogRow) (queues : List QueueRow) (grants : List Grant) (serves : List Served) (answers : List AnswerRow) (frames : List FrameRow) (ports : List PortRow) (posts : List PostRow) (delivers : List DeliverRow) (harvests : List HarvestRow) (tces : List TceValueRow) (copies : List CopyRow) (strokes : List StrokeRow) (bytes r0 r1 r2 r3 r4 r5 r6 r7 r8 r9 r10 r11 r12 r13 : List ℕ)
    → bytes ≡ codes "trace 1\n" ++ r0
    → All IsLogRow logs × (r0 ≡ flat_map log_text logs ++ r1) → Ascend LogBefore logs
    → All IsQueueRow queues × (r1 ≡ flat_map queue_text queues ++ r2) → Ascend QueueBefore queues
    → All IsGrantRow grants × (r2 ≡ flat_map grant_text grants ++ r3)
    → All IsServeRow serves × (r3 ≡ flat_map serve_text serves ++ r4)
    → All IsAnswerRow answers × (r4 ≡ flat_map answer_text answers ++ r5) → Ascend AnswerBefore answers
    → All IsFrameRow frames × (r5 ≡ flat_map frame_text frames ++ r6) → Ascend FrameBefore frames
    → All (λ frame. All (IsOfferOf frame) frame.offers) frames
    → All IsPortRow ports × (r6 ≡ flat_map port_text ports ++ r7) → Ascend PortBefore ports
    → All IsPostRow posts × (r7 ≡ flat_map post_text posts ++ r8) → Ascend PostBefore posts
    → All IsDeliverRow delivers × (r8 ≡ flat_map deliver_text delivers ++ r9) → Ascend DeliverBefore delivers
    → All IsHarvestRow harvests × (r9 ≡ flat_map harvest_text harvests ++ r10) → Ascend HarvestBefore harvests
    → All IsTceValueRow tces × (r10 ≡ flat_map tce_text tces ++ r11) → Ascend TceValueBefore tces
    → All IsCopyRow copies × (r11 ≡ flat_map copy_text copies ++ r12) → Ascend CopyBefore copies
    → All IsStrokeRow strokes × (r12 ≡ flat_map stroke_text strokes ++ r13) → Ascend StrokeBefore strokes
    → r13 ≡ codes "end\n" → IsTextOf (made logs queues grants serves answers frames ports posts delivers harvests tces copies strokes) bytes
trace_joined logs queues grants serves answers frames ports posts delivers harvests tces copies strokes bytes r0 r1 r2 r3 r4 r5 r6 r7 r8 r9 r10 r11 r12 r13 e s0 o0 s1 o1 s2 s3 s4 o4 s5 o5 named s6 o6 s7 o7 s8 o8 s9 o9 s10 o10 s11 o11 s12 o12 end = record {
  form = record {
    range = record { logs = s0.0; queues = s1.0; grants = s2.0; serves = s3.0; answers = s4.0; frames = s5.0; ports = s6.0; posts = s7.0; delivers = s8.0; harvests = s9.0; tces = s10.0; copies = s11.0; strokes = s12.0 };
    order = record { logs = o0; queues = o1; answers = o4; frames = o5; ports = o6; posts = o7; delivers = o8; harvests = o9; tces = o10; copies = o11; strokes = o12; offers = named };
  };
  spelled = e ∙ ap (λ (l : List ℕ). codes "trace 1\n" ++ l) (s0.1 ∙ ap (λ (l : List ℕ). flat_map log_text logs ++ l) (s1.1 ∙ ap (λ (l : List ℕ). flat_map queue_text queues ++ l) (s2.1 ∙ ap (λ (l : List ℕ). flat_map grant_text grants ++ l) (s3.1 ∙ ap (λ (l : List ℕ). flat_map serve_text serves ++ l) (s4.1 ∙ ap (λ (l : List ℕ). flat_map answer_text answers ++ l) (s5.1 ∙ ap (λ (l : List ℕ). flat_map frame_text frames ++ l) (s6.1 ∙ ap (λ (l : List ℕ). flat_map port_text ports ++ l) (s7.1 ∙ ap (λ (l : List ℕ). flat_map post_text posts ++ l) (s8.1 ∙ ap (λ (l : List ℕ). flat_map deliver_text delivers ++ l) (s9.1 ∙ ap (λ (l : List ℕ). flat_map harvest_text harvests ++ l) (s10.1 ∙ ap (λ (l : List ℕ). flat_map tce_text tces ++ l) (s11.1 ∙ ap (λ (l : List ℕ). flat_map copy_text copies ++ l) (s12.1 ∙ ap (λ (l : List ℕ). flat_map stroke_text strokes ++ l) end))))))))))))) ∙ sym (apart (made logs queues grants serves answers frames ports posts delivers harvests tces copies strokes));
}
