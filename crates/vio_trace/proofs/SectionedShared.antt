-- The text of a trace that shares a line with other bytes: what is left of it where the front of these was read.
use Rattle.std.proofs.Common.{◌≡◌, ◌≤◌, ℕ, List, [], ◌++◌, All, codes, length, refl, sym, ap, subst, ◌∙◌, length-append, arith, rules}
use Rattle.std.specs.List.{flat_map}
use Rattle.std.proofs.lemmas.List.{append_cancel_left}
use Rattle.vio_num.specs.declared.history.Grant.{Grant}
use Rattle.vio_num.specs.declared.history.Served.{Served}
use Rattle.vio_trace.specs.declared.rows.Trace.{Trace}
use Rattle.vio_trace.specs.declared.rows.LogRow.{LogRow}
use Rattle.vio_trace.specs.declared.rows.QueueRow.{QueueRow}
use Rattle.vio_trace.specs.declared.rows.AnswerRow.{AnswerRow}
use Rattle.vio_trace.specs.declared.lan_rows.FrameRow.{FrameRow}
use Rattle.vio_trace.specs.declared.lan_rows.PortRow.{PortRow}
use Rattle.vio_trace.specs.declared.lan_rows.PostRow.{PostRow}
use Rattle.vio_trace.specs.declared.lan_rows.DeliverRow.{DeliverRow}
use Rattle.vio_trace.specs.declared.lan_rows.HarvestRow.{HarvestRow}
use Rattle.vio_trace.specs.declared.window_rows.TceValueRow.{TceValueRow}
use Rattle.vio_trace.specs.declared.window_rows.CopyRow.{CopyRow}
use Rattle.vio_trace.specs.declared.window_rows.StrokeRow.{StrokeRow}
use Rattle.vio_trace.specs.Form.{IsNoText, IsOfferOf, IsTextOf, IsLogRow, IsQueueRow, IsGrantRow, IsServeRow, IsAnswerRow, IsFrameRow, IsPortRow, IsPostRow, IsDeliverRow, IsHarvestRow, IsTceValueRow, IsCopyRow, IsStrokeRow, LogBefore, QueueBefore, AnswerBefore, FrameBefore, PortBefore, PostBefore, DeliverBefore, HarvestBefore, TceValueBefore, CopyBefore, StrokeBefore}
use Rattle.vio_trace.specs.Text.{log_text, queue_text, grant_text, serve_text, answer_text, frame_text, port_text, post_text, deliver_text, harvest_text, tce_text, copy_text, stroke_text}
use Rattle.vio_trace.specs.Reading.{IsLine}
use Rattle.vio_trace.specs.Sections.{IsSection, NoSection}
use Rattle.vio_trace.specs.Shared.{NoneShares, OnlyShared, SharesLine}
use Rattle.vio_trace.proofs.Laws.{apart, last, from_logs, from_queues, from_grants, from_serves, from_answers, from_frames, from_ports, from_posts, from_delivers, from_harvests, from_tces, from_copies, from_strokes}
use Rattle.vio_trace.proofs.Refused.{lines_cut}
use Rattle.vio_trace.proofs.Sectioned.{logs_section, queues_section, grants_section, serves_section, answers_section, frames_section, ports_section, posts_section, delivers_section, harvests_section, tces_section, copies_section, strokes_section}
use Rattle.vio_trace.proofs.Sharing.{same_first, shares_behind}

-- of each trace's text that shares a line of what is left, the rest from one section on shares it
pub record IsLeftIn (from : Trace → List ℕ) (bytes rest : List ℕ) : Type 0 where
  pub within : length rest ≤ length bytes
  pub shares : (left : ℕ) (t : Trace) (other : List ℕ) → left ≤ length rest → SharesLine left bytes other → IsTextOf t other
      → SharesLine left rest (from t)

next_in : {Row : Type 0} → (text : Row → List ℕ) (in_range named : Row → Type 0) (before : Row → Row → Type 0) (kind : ℕ)
    (rows_of : Trace → List Row) (from next : Trace → List ℕ)
    → ((t : Trace) (other : List ℕ) → IsTextOf t other → IsSection text in_range named before kind (rows_of t) (next t) (from t))
    → (bytes rest behind : List ℕ) (rows : List Row) → IsLeftIn from bytes rest → rest ≡ flat_map text rows ++ behind
    → OnlyShared text in_range named before kind rows behind → IsLeftIn next bytes behind
next_in text in_range named before kind rows_of from next is bytes rest behind rows whole e only =
    let n : length behind ≤ length rest = omega (arith, ap (λ (l : List ℕ). length l) e, length-append (flat_map text rows) behind) in
    record {
      within = omega (arith, n, whole.within);
      shares = λ left t other m s h.
          let r = whole.shares left t other (omega (arith, n, m)) s h in
          let b = shares_behind left rest (from t) (flat_map text rows) behind r e m in
          let o = only (from t) b.rest b.other_is (same_first left behind b.rest b.shares) in
          subst (λ (l : List ℕ). SharesLine left behind l) (sym (o (rows_of t) (next t) (is t other h)).1) b.shares;
    }

none_in : {Row : Type 0} → (text : Row → List ℕ) (in_range named : Row → Type 0) (before : Row → Row → Type 0) (kind : ℕ)
    (rows_of : Trace → List Row) (from next : Trace → List ℕ)
    → ((t : Trace) (other : List ℕ) → IsTextOf t other → IsSection text in_range named before kind (rows_of t) (next t) (from t))
    → (bytes rest : List ℕ) (left : ℕ) → IsLeftIn from bytes rest → NoneShares (NoSection text in_range named before kind) rest left
    → NoneShares IsNoText bytes left
none_in text in_range named before kind rows_of from next is bytes rest left whole bad = (
  omega (arith, whole.within, bad.0),
  λ other s t h.
      bad.1 (from t) (whole.shares left t other bad.0 s h) (rows_of t) (next t) (is t other h),
)

title_is : IsLine (codes "trace 1\n")
title_is = record { word = codes "trace 1"; whole = refl; within = search (rules, arith) }

pub started_in : {bytes rest : List ℕ} → bytes ≡ codes "trace 1\n" ++ rest → IsLeftIn from_logs bytes rest
started_in {bytes} {rest} e = record {
  within = omega (arith, ap (λ (l : List ℕ). length l) e, length-append (codes "trace 1\n") rest);
  shares = λ left t other m s h.
      let b = shares_behind left bytes other (codes "trace 1\n") rest s e m in
      subst (λ (l : List ℕ). SharesLine left rest l) (append_cancel_left (codes "trace 1\n") _ _ (sym b.other_is ∙ h.spelled ∙ apart t)) b.shares;
}

-- bytes that do not begin with the first line of a trace's text
pub title_bad : (bytes : List ℕ) → ((rest : List ℕ) → ¬ (codes "trace 1\n" ++ rest ≡ bytes)) → NoneShares IsNoText bytes (length bytes)
title_bad bytes none = (
  omega arith,
  λ other shares t h.
      let s = same_first (length bytes) bytes other shares in
      let same = lines_cut s.first (codes "trace 1\n") s.theirs (from_logs t) s.is title_is (sym s.other_is ∙ h.spelled ∙ apart t) in
      none s.rest (sym (s.bytes_are ∙ ap (λ (l : List ℕ). l ++ s.rest) same.line)),
)

end_is : IsLine (codes "end\n")
end_is = record { word = codes "end"; whole = refl; within = search (rules, arith) }

-- another line stands in place of the last
pub end_missing : (text : List ℕ) → ((rest : List ℕ) → ¬ (codes "end\n" ++ rest ≡ text)) → NoneShares (λ r. ¬ (r ≡ codes "end\n")) text (length text)
end_missing text none = (
  omega arith,
  λ other shares is.
      let s = same_first (length text) text other shares in
      let same = lines_cut s.first (codes "end\n") s.theirs [] s.is end_is (sym s.other_is ∙ is) in
      none s.rest (sym (s.bytes_are ∙ ap (λ (l : List ℕ). l ++ s.rest) same.line)),
)

pub ended_in : {bytes rest : List ℕ} {left : ℕ} → IsLeftIn (λ t. last) bytes rest → NoneShares (λ r. ¬ (r ≡ codes "end\n")) rest left
    → NoneShares IsNoText bytes left
ended_in {bytes} {rest} {left} whole bad =
    (omega (arith, whole.within, bad.0), λ other s t h. bad.1 last (whole.shares left t other bad.0 s h) refl)

pub logs_next_in : {bytes rest behind : List ℕ} {rows : List LogRow} → IsLeftIn from_logs bytes rest → rest ≡ flat_map log_text rows ++ behind
    → OnlyShared log_text IsLogRow (λ (row : LogRow). Unit {0}) LogBefore 1 rows behind → IsLeftIn from_queues bytes behind
logs_next_in {bytes} {rest} {behind} {rows} = next_in log_text IsLogRow (λ (row : LogRow). Unit {0}) LogBefore 1 (λ t. t.logs) from_logs from_queues (λ t other h. logs_section t other (from_logs t) h refl) bytes rest behind rows

pub logs_none_in : {bytes rest : List ℕ} {left : ℕ} → IsLeftIn from_logs bytes rest
    → NoneShares (NoSection log_text IsLogRow (λ (row : LogRow). Unit {0}) LogBefore 1) rest left → NoneShares IsNoText bytes left
logs_none_in {bytes} {rest} {left} = none_in log_text IsLogRow (λ (row : LogRow). Unit {0}) LogBefore 1 (λ t. t.logs) from_logs from_queues (λ t other h. logs_section t other (from_logs t) h refl) bytes rest left

pub queues_next_in : {bytes rest behind : List ℕ} {rows : List QueueRow} → IsLeftIn from_queues bytes rest → rest ≡ flat_map queue_text rows ++ behind
    → OnlyShared queue_text IsQueueRow (λ (row : QueueRow). Unit {0}) QueueBefore 2 rows behind → IsLeftIn from_grants bytes behind
queues_next_in {bytes} {rest} {behind} {rows} = next_in queue_text IsQueueRow (λ (row : QueueRow). Unit {0}) QueueBefore 2 (λ t. t.queues) from_queues from_grants (λ t other h. queues_section t other (from_queues t) h refl) bytes rest behind rows

pub queues_none_in : {bytes rest : List ℕ} {left : ℕ} → IsLeftIn from_queues bytes rest
    → NoneShares (NoSection queue_text IsQueueRow (λ (row : QueueRow). Unit {0}) QueueBefore 2) rest left → NoneShares IsNoText bytes left
queues_none_in {bytes} {rest} {left} = none_in queue_text IsQueueRow (λ (row : QueueRow). Unit {0}) QueueBefore 2 (λ t. t.queues) from_queues from_grants (λ t other h. queues_section t other (from_queues t) h refl) bytes rest left

pub grants_next_in : {bytes rest behind : List ℕ} {rows : List Grant} → IsLeftIn from_grants bytes rest → rest ≡ flat_map grant_text rows ++ behind
    → OnlyShared grant_text IsGrantRow (λ (row : Grant). Unit {0}) (λ (a b : Grant). Unit {0}) 3 rows behind → IsLeftIn from_serves bytes behind
grants_next_in {bytes} {rest} {behind} {rows} = next_in grant_text IsGrantRow (λ (row : Grant). Unit {0}) (λ (a b : Grant). Unit {0}) 3 (λ t. t.grants) from_grants from_serves (λ t other h. grants_section t other (from_grants t) h refl) bytes rest behind rows

pub grants_none_in : {bytes rest : List ℕ} {left : ℕ} → IsLeftIn from_grants bytes rest
    → NoneShares (NoSection grant_text IsGrantRow (λ (row : Grant). Unit {0}) (λ (a b : Grant). Unit {0}) 3) rest left → NoneShares IsNoText bytes left
grants_none_in {bytes} {rest} {left} = none_in grant_text IsGrantRow (λ (row : Grant). Unit {0}) (λ (a b : Grant). Unit {0}) 3 (λ t. t.grants) from_grants from_serves (λ t other h. grants_section t other (from_grants t) h refl) bytes rest left

pub serves_next_in : {bytes rest behind : List ℕ} {rows : List Served} → IsLeftIn from_serves bytes rest → rest ≡ flat_map serve_text rows ++ behind
    → OnlyShared serve_text IsServeRow (λ (row : Served). Unit {0}) (λ (a b : Served). Unit {0}) 4 rows behind → IsLeftIn from_answers bytes behind
serves_next_in {bytes} {rest} {behind} {rows} = next_in serve_text IsServeRow (λ (row : Served). Unit {0}) (λ (a b : Served). Unit {0}) 4 (λ t. t.serves) from_serves from_answers (λ t other h. serves_section t other (from_serves t) h refl) bytes rest behind rows

pub serves_none_in : {bytes rest : List ℕ} {left : ℕ} → IsLeftIn from_serves bytes rest
    → NoneShares (NoSection serve_text IsServeRow (λ (row : Served). Unit {0}) (λ (a b : Served). Unit {0}) 4) rest left → NoneShares IsNoText bytes left
serves_none_in {bytes} {rest} {left} = none_in serve_text IsServeRow (λ (row : Served). Unit {0}) (λ (a b : Served). Unit {0}) 4 (λ t. t.serves) from_serves from_answers (λ t other h. serves_section t other (from_serves t) h refl) bytes rest left

pub answers_next_in : {bytes rest behind : List ℕ} {rows : List AnswerRow} → IsLeftIn from_answers bytes rest → rest ≡ flat_map answer_text rows ++ behind
    → OnlyShared answer_text IsAnswerRow (λ (row : AnswerRow). Unit {0}) AnswerBefore 5 rows behind → IsLeftIn from_frames bytes behind
answers_next_in {bytes} {rest} {behind} {rows} = next_in answer_text IsAnswerRow (λ (row : AnswerRow). Unit {0}) AnswerBefore 5 (λ t. t.answers) from_answers from_frames (λ t other h. answers_section t other (from_answers t) h refl) bytes rest behind rows

pub answers_none_in : {bytes rest : List ℕ} {left : ℕ} → IsLeftIn from_answers bytes rest
    → NoneShares (NoSection answer_text IsAnswerRow (λ (row : AnswerRow). Unit {0}) AnswerBefore 5) rest left → NoneShares IsNoText bytes left
answers_none_in {bytes} {rest} {left} = none_in answer_text IsAnswerRow (λ (row : AnswerRow). Unit {0}) AnswerBefore 5 (λ t. t.answers) from_answers from_frames (λ t other h. answers_section t other (from_answers t) h refl) bytes rest left

pub frames_next_in : {bytes rest behind : List ℕ} {rows : List FrameRow} → IsLeftIn from_frames bytes rest → rest ≡ flat_map frame_text rows ++ behind
    → OnlyShared frame_text IsFrameRow (λ (frame : FrameRow). All (IsOfferOf frame) frame.offers) FrameBefore 6 rows behind → IsLeftIn from_ports bytes behind
frames_next_in {bytes} {rest} {behind} {rows} = next_in frame_text IsFrameRow (λ (frame : FrameRow). All (IsOfferOf frame) frame.offers) FrameBefore 6 (λ t. t.frames) from_frames from_ports (λ t other h. frames_section t other (from_frames t) h refl) bytes rest behind rows

pub frames_none_in : {bytes rest : List ℕ} {left : ℕ} → IsLeftIn from_frames bytes rest
    → NoneShares (NoSection frame_text IsFrameRow (λ (frame : FrameRow). All (IsOfferOf frame) frame.offers) FrameBefore 6) rest left → NoneShares IsNoText bytes left
frames_none_in {bytes} {rest} {left} = none_in frame_text IsFrameRow (λ (frame : FrameRow). All (IsOfferOf frame) frame.offers) FrameBefore 6 (λ t. t.frames) from_frames from_ports (λ t other h. frames_section t other (from_frames t) h refl) bytes rest left

pub ports_next_in : {bytes rest behind : List ℕ} {rows : List PortRow} → IsLeftIn from_ports bytes rest → rest ≡ flat_map port_text rows ++ behind
    → OnlyShared port_text IsPortRow (λ (row : PortRow). Unit {0}) PortBefore 7 rows behind → IsLeftIn from_posts bytes behind
ports_next_in {bytes} {rest} {behind} {rows} = next_in port_text IsPortRow (λ (row : PortRow). Unit {0}) PortBefore 7 (λ t. t.ports) from_ports from_posts (λ t other h. ports_section t other (from_ports t) h refl) bytes rest behind rows

pub ports_none_in : {bytes rest : List ℕ} {left : ℕ} → IsLeftIn from_ports bytes rest
    → NoneShares (NoSection port_text IsPortRow (λ (row : PortRow). Unit {0}) PortBefore 7) rest left → NoneShares IsNoText bytes left
ports_none_in {bytes} {rest} {left} = none_in port_text IsPortRow (λ (row : PortRow). Unit {0}) PortBefore 7 (λ t. t.ports) from_ports from_posts (λ t other h. ports_section t other (from_ports t) h refl) bytes rest left

pub posts_next_in : {bytes rest behind : List ℕ} {rows : List PostRow} → IsLeftIn from_posts bytes rest → rest ≡ flat_map post_text rows ++ behind
    → OnlyShared post_text IsPostRow (λ (row : PostRow). Unit {0}) PostBefore 8 rows behind → IsLeftIn from_delivers bytes behind
posts_next_in {bytes} {rest} {behind} {rows} = next_in post_text IsPostRow (λ (row : PostRow). Unit {0}) PostBefore 8 (λ t. t.posts) from_posts from_delivers (λ t other h. posts_section t other (from_posts t) h refl) bytes rest behind rows

pub posts_none_in : {bytes rest : List ℕ} {left : ℕ} → IsLeftIn from_posts bytes rest
    → NoneShares (NoSection post_text IsPostRow (λ (row : PostRow). Unit {0}) PostBefore 8) rest left → NoneShares IsNoText bytes left
posts_none_in {bytes} {rest} {left} = none_in post_text IsPostRow (λ (row : PostRow). Unit {0}) PostBefore 8 (λ t. t.posts) from_posts from_delivers (λ t other h. posts_section t other (from_posts t) h refl) bytes rest left

pub delivers_next_in : {bytes rest behind : List ℕ} {rows : List DeliverRow} → IsLeftIn from_delivers bytes rest → rest ≡ flat_map deliver_text rows ++ behind
    → OnlyShared deliver_text IsDeliverRow (λ (row : DeliverRow). Unit {0}) DeliverBefore 9 rows behind → IsLeftIn from_harvests bytes behind
delivers_next_in {bytes} {rest} {behind} {rows} = next_in deliver_text IsDeliverRow (λ (row : DeliverRow). Unit {0}) DeliverBefore 9 (λ t. t.delivers) from_delivers from_harvests (λ t other h. delivers_section t other (from_delivers t) h refl) bytes rest behind rows

pub delivers_none_in : {bytes rest : List ℕ} {left : ℕ} → IsLeftIn from_delivers bytes rest
    → NoneShares (NoSection deliver_text IsDeliverRow (λ (row : DeliverRow). Unit {0}) DeliverBefore 9) rest left → NoneShares IsNoText bytes left
delivers_none_in {bytes} {rest} {left} = none_in deliver_text IsDeliverRow (λ (row : DeliverRow). Unit {0}) DeliverBefore 9 (λ t. t.delivers) from_delivers from_harvests (λ t other h. delivers_section t other (from_delivers t) h refl) bytes rest left

pub harvests_next_in : {bytes rest behind : List ℕ} {rows : List HarvestRow} → IsLeftIn from_harvests bytes rest → rest ≡ flat_map harvest_text rows ++ behind
    → OnlyShared harvest_text IsHarvestRow (λ (row : HarvestRow). Unit {0}) HarvestBefore 10 rows behind → IsLeftIn from_tces bytes behind
harvests_next_in {bytes} {rest} {behind} {rows} = next_in harvest_text IsHarvestRow (λ (row : HarvestRow). Unit {0}) HarvestBefore 10 (λ t. t.harvests) from_harvests from_tces (λ t other h. harvests_section t other (from_harvests t) h refl) bytes rest behind rows

pub harvests_none_in : {bytes rest : List ℕ} {left : ℕ} → IsLeftIn from_harvests bytes rest
    → NoneShares (NoSection harvest_text IsHarvestRow (λ (row : HarvestRow). Unit {0}) HarvestBefore 10) rest left → NoneShares IsNoText bytes left
harvests_none_in {bytes} {rest} {left} = none_in harvest_text IsHarvestRow (λ (row : HarvestRow). Unit {0}) HarvestBefore 10 (λ t. t.harvests) from_harvests from_tces (λ t other h. harvests_section t other (from_harvests t) h refl) bytes rest left

pub tces_next_in : {bytes rest behind : List ℕ} {rows : List TceValueRow} → IsLeftIn from_tces bytes rest → rest ≡ flat_map tce_text rows ++ behind
    → OnlyShared tce_text IsTceValueRow (λ (row : TceValueRow). Unit {0}) TceValueBefore 11 rows behind → IsLeftIn from_copies bytes behind
tces_next_in {bytes} {rest} {behind} {rows} = next_in tce_text IsTceValueRow (λ (row : TceValueRow). Unit {0}) TceValueBefore 11 (λ t. t.tces) from_tces from_copies (λ t other h. tces_section t other (from_tces t) h refl) bytes rest behind rows

pub tces_none_in : {bytes rest : List ℕ} {left : ℕ} → IsLeftIn from_tces bytes rest
    → NoneShares (NoSection tce_text IsTceValueRow (λ (row : TceValueRow). Unit {0}) TceValueBefore 11) rest left → NoneShares IsNoText bytes left
tces_none_in {bytes} {rest} {left} = none_in tce_text IsTceValueRow (λ (row : TceValueRow). Unit {0}) TceValueBefore 11 (λ t. t.tces) from_tces from_copies (λ t other h. tces_section t other (from_tces t) h refl) bytes rest left

pub copies_next_in : {bytes rest behind : List ℕ} {rows : List CopyRow} → IsLeftIn from_copies bytes rest → rest ≡ flat_map copy_text rows ++ behind
    → OnlyShared copy_text IsCopyRow (λ (row : CopyRow). Unit {0}) CopyBefore 12 rows behind → IsLeftIn from_strokes bytes behind
copies_next_in {bytes} {rest} {behind} {rows} = next_in copy_text IsCopyRow (λ (row : CopyRow). Unit {0}) CopyBefore 12 (λ t. t.copies) from_copies from_strokes (λ t other h. copies_section t other (from_copies t) h refl) bytes rest behind rows

pub copies_none_in : {bytes rest : List ℕ} {left : ℕ} → IsLeftIn from_copies bytes rest
    → NoneShares (NoSection copy_text IsCopyRow (λ (row : CopyRow). Unit {0}) CopyBefore 12) rest left → NoneShares IsNoText bytes left
copies_none_in {bytes} {rest} {left} = none_in copy_text IsCopyRow (λ (row : CopyRow). Unit {0}) CopyBefore 12 (λ t. t.copies) from_copies from_strokes (λ t other h. copies_section t other (from_copies t) h refl) bytes rest left

pub strokes_next_in : {bytes rest behind : List ℕ} {rows : List StrokeRow} → IsLeftIn from_strokes bytes rest → rest ≡ flat_map stroke_text rows ++ behind
    → OnlyShared stroke_text IsStrokeRow (λ (row : StrokeRow). Unit {0}) StrokeBefore 13 rows behind → IsLeftIn (λ t. last) bytes behind
strokes_next_in {bytes} {rest} {behind} {rows} = next_in stroke_text IsStrokeRow (λ (row : StrokeRow). Unit {0}) StrokeBefore 13 (λ t. t.strokes) from_strokes (λ t. last) (λ t other h. strokes_section t other (from_strokes t) h refl) bytes rest behind rows

pub strokes_none_in : {bytes rest : List ℕ} {left : ℕ} → IsLeftIn from_strokes bytes rest
    → NoneShares (NoSection stroke_text IsStrokeRow (λ (row : StrokeRow). Unit {0}) StrokeBefore 13) rest left → NoneShares IsNoText bytes left
strokes_none_in {bytes} {rest} {left} = none_in stroke_text IsStrokeRow (λ (row : StrokeRow). Unit {0}) StrokeBefore 13 (λ t. t.strokes) from_strokes (λ t. last) (λ t other h. strokes_section t other (from_strokes t) h refl) bytes rest left
