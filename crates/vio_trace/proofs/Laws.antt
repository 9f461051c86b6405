-- The law of the text: it is that of one trace in form alone.
use Rattle.std.proofs.Common.{◌≡◌, ◌<◌, ℕ, List, ◌++◌, codes, refl, sym, ◌∙◌, append_assoc, arith}
use Rattle.std.specs.List.{flat_map}
use Rattle.std.proofs.lemmas.List.{append_cancel_left}
use Rattle.vio_num.specs.declared.history.Grant.{Grant}
use Rattle.vio_num.specs.declared.history.Grant.TheVariants as grants
use Rattle.vio_num.specs.declared.history.Served.{Served}
use Rattle.vio_trace.specs.declared.rows.Trace.{Trace}
use Rattle.vio_trace.specs.declared.rows.LogRow.{LogRow}
use Rattle.vio_trace.specs.declared.rows.QueueRow.{QueueRow}
use Rattle.vio_trace.specs.declared.rows.AnswerRow.{AnswerRow}
use Rattle.vio_trace.specs.declared.lan_rows.FrameRow.{FrameRow}
use Rattle.vio_trace.specs.declared.lan_rows.OfferRow.{OfferRow}
use Rattle.vio_trace.specs.declared.lan_rows.PortRow.{PortRow}
use Rattle.vio_trace.specs.declared.lan_rows.PostRow.{PostRow}
use Rattle.vio_trace.specs.declared.lan_rows.DeliverRow.{DeliverRow}
use Rattle.vio_trace.specs.declared.lan_rows.HarvestRow.{HarvestRow}
use Rattle.vio_trace.specs.declared.window_rows.TceValueRow.{TceValueRow}
use Rattle.vio_trace.specs.declared.window_rows.CopyRow.{CopyRow}
use Rattle.vio_trace.specs.declared.window_rows.StrokeRow.{StrokeRow}
use Rattle.vio_trace.specs.Form.{IsLogRow, IsQueueRow, IsGrantRow, IsServeRow, IsAnswerRow, IsFrameRow, IsPortRow, IsPostRow, IsDeliverRow, IsHarvestRow, IsTceValueRow, IsCopyRow, IsStrokeRow, IsTextOf}
use Rattle.vio_trace.specs.Sections.{section}
use Rattle.vio_trace.specs.Text.{log_text, queue_text, grant_text, serve_text, answer_text, frame_text, offer_text, port_text, post_text, deliver_text, harvest_text, tce_text, copy_text, stroke_text, trace_text}
use Rattle.vio_trace.proofs.Cuts.{kind_cut, kind_cut_before, kind_after}
use Rattle.vio_trace.proofs.RowsTold.{log_cut, queue_cut}
use Rattle.vio_trace.proofs.Histories.{grant_cut, serve_cut, answer_cut}
use Rattle.vio_trace.proofs.Lans.{frame_cut, port_cut, post_cut, deliver_cut, harvest_cut}
use Rattle.vio_trace.proofs.Windows.{tce_cut, copy_cut, stroke_cut}

pub offer_section : (a : OfferRow) (xs : List ℕ) → section (offer_text a ++ xs) ≡ 0
offer_section a xs = refl

pub log_section : (a : LogRow) (xs : List ℕ) → section (log_text a ++ xs) ≡ 1
log_section a xs = refl

pub queue_section : (a : QueueRow) (xs : List ℕ) → section (queue_text a ++ xs) ≡ 2
queue_section a xs = refl

pub grant_section : (a : Grant) (xs : List ℕ) → section (grant_text a ++ xs) ≡ 3
grant_section (grants.Granted u s l n c) xs = refl
grant_section (grants.Lapsed u s l w n c) xs = refl

pub serve_section : (a : Served) (xs : List ℕ) → section (serve_text a ++ xs) ≡ 4
serve_section a xs = refl

pub answer_section : (a : AnswerRow) (xs : List ℕ) → section (answer_text a ++ xs) ≡ 5
answer_section a xs = refl

pub frame_section : (a : FrameRow) (xs : List ℕ) → section (frame_text a ++ xs) ≡ 6
frame_section a xs = refl

pub port_section : (a : PortRow) (xs : List ℕ) → section (port_text a ++ xs) ≡ 7
port_section a xs = refl

pub post_section : (a : PostRow) (xs : List ℕ) → section (post_text a ++ xs) ≡ 8
post_section a xs = refl

pub deliver_section : (a : DeliverRow) (xs : List ℕ) → section (deliver_text a ++ xs) ≡ 9
deliver_section a xs = refl

pub harvest_section : (a : HarvestRow) (xs : List ℕ) → section (harvest_text a ++ xs) ≡ 10
harvest_section a xs = refl

pub tce_section : (a : TceValueRow) (xs : List ℕ) → section (tce_text a ++ xs) ≡ 11
tce_section a xs = refl

pub copy_section : (a : CopyRow) (xs : List ℕ) → section (copy_text a ++ xs) ≡ 12
copy_section a xs = refl

pub stroke_section : (a : StrokeRow) (xs : List ℕ) → section (stroke_text a ++ xs) ≡ 13
stroke_section a xs = refl

-- what follows each section
abbrev pub last : List ℕ
last = codes "end\n"

abbrev pub from_strokes : Trace → List ℕ
from_strokes t = flat_map stroke_text t.strokes ++ last

abbrev pub from_copies : Trace → List ℕ
from_copies t = flat_map copy_text t.copies ++ from_strokes t

abbrev pub from_tces : Trace → List ℕ
from_tces t = flat_map tce_text t.tces ++ from_copies t

abbrev pub from_harvests : Trace → List ℕ
from_harvests t = flat_map harvest_text t.harvests ++ from_tces t

abbrev pub from_delivers : Trace → List ℕ
from_delivers t = flat_map deliver_text t.delivers ++ from_harvests t

abbrev pub from_posts : Trace → List ℕ
from_posts t = flat_map post_text t.posts ++ from_delivers t

abbrev pub from_ports : Trace → List ℕ
from_ports t = flat_map port_text t.ports ++ from_posts t

abbrev pub from_frames : Trace → List ℕ
from_frames t = flat_map frame_text t.frames ++ from_ports t

abbrev pub from_answers : Trace → List ℕ
from_answers t = flat_map answer_text t.answers ++ from_frames t

abbrev pub from_serves : Trace → List ℕ
from_serves t = flat_map serve_text t.serves ++ from_answers t

abbrev pub from_grants : Trace → List ℕ
from_grants t = flat_map grant_text t.grants ++ from_serves t

abbrev pub from_queues : Trace → List ℕ
from_queues t = flat_map queue_text t.queues ++ from_grants t

abbrev pub from_logs : Trace → List ℕ
from_logs t = flat_map log_text t.logs ++ from_queues t

pub apart : (t : Trace) → trace_text t ≡ codes "trace 1\n" ++ from_logs t
apart t = simp append_assoc

pub strokes_after : (j : ℕ) → j < 13 → (t : Trace) → j < section (from_strokes t)
strokes_after j h t = kind_after stroke_text section j 13 h stroke_section t.strokes last (omega (arith, h))

pub copies_after : (j : ℕ) → j < 12 → (t : Trace) → j < section (from_copies t)
copies_after j h t = kind_after copy_text section j 12 h copy_section t.copies (from_strokes t) (strokes_after j (omega (arith, h)) t)

pub tces_after : (j : ℕ) → j < 11 → (t : Trace) → j < section (from_tces t)
tces_after j h t = kind_after tce_text section j 11 h tce_section t.tces (from_copies t) (copies_after j (omega (arith, h)) t)

pub harvests_after : (j : ℕ) → j < 10 → (t : Trace) → j < section (from_harvests t)
harvests_after j h t = kind_after harvest_text section j 10 h harvest_section t.harvests (from_tces t) (tces_after j (omega (arith, h)) t)

pub delivers_after : (j : ℕ) → j < 9 → (t : Trace) → j < section (from_delivers t)
delivers_after j h t = kind_after deliver_text section j 9 h deliver_section t.delivers (from_harvests t) (harvests_after j (omega (arith, h)) t)

pub posts_after : (j : ℕ) → j < 8 → (t : Trace) → j < section (from_posts t)
posts_after j h t = kind_after post_text section j 8 h post_section t.posts (from_delivers t) (delivers_after j (omega (arith, h)) t)

pub ports_after : (j : ℕ) → j < 7 → (t : Trace) → j < section (from_ports t)
ports_after j h t = kind_after port_text section j 7 h port_section t.ports (from_posts t) (posts_after j (omega (arith, h)) t)

pub frames_after : (j : ℕ) → j < 6 → (t : Trace) → j < section (from_frames t)
frames_after j h t = kind_after frame_text section j 6 h frame_section t.frames (from_ports t) (ports_after j (omega (arith, h)) t)

pub answers_after : (j : ℕ) → j < 5 → (t : Trace) → j < section (from_answers t)
answers_after j h t = kind_after answer_text section j 5 h answer_section t.answers (from_frames t) (frames_after j (omega (arith, h)) t)

pub serves_after : (j : ℕ) → j < 4 → (t : Trace) → j < section (from_serves t)
serves_after j h t = kind_after serve_text section j 4 h serve_section t.serves (from_answers t) (answers_after j (omega (arith, h)) t)

pub grants_after : (j : ℕ) → j < 3 → (t : Trace) → j < section (from_grants t)
grants_after j h t = kind_after grant_text section j 3 h grant_section t.grants (from_serves t) (serves_after j (omega (arith, h)) t)

pub queues_after : (j : ℕ) → j < 2 → (t : Trace) → j < section (from_queues t)
queues_after j h t = kind_after queue_text section j 2 h queue_section t.queues (from_grants t) (grants_after j (omega (arith, h)) t)

abbrev pub made : List LogRow → List QueueRow → List Grant → List Served → List AnswerRow → List FrameRow → List PortRow → List PostRow → List DeliverRow → List HarvestRow → List TceValueRow → List CopyRow → List StrokeRow → Trace
made a b c d e f g h i j k l m = record { logs = a; queues = b; grants = c; serves = d; answers = e; frames = f; ports = g; posts = h; delivers = i; harvests = j; tces = k; copies = l; strokes = m }

trace_parts : (a az : List LogRow) (b bz : List QueueRow) (c cz : List Grant) (d dz : List Served) (e ez : List AnswerRow) (f fz : List FrameRow) (g gz : List PortRow) (h hz : List PostRow) (i iz : List DeliverRow) (j jz : List HarvestRow) (k kz : List TceValueRow) (l lz : List CopyRow) (m mz : List StrokeRow)
    → a ≡ az → b ≡ bz → c ≡ cz → d ≡ dz → e ≡ ez → f ≡ fz → g ≡ gz → h ≡ hz → i ≡ iz → j ≡ jz → k ≡ kz → l ≡ lz → m ≡ mz
    → made a b c d e f g h i j k l m ≡ made az bz cz dz ez fz gz hz iz jz kz lz mz
trace_parts a az b bz c cz d dz e ez f fz g gz h hz i iz j jz k kz l lz m mz e0 e1 e2 e3 e4 e5 e6 e7 e8 e9 e10 e11 e12 = rw (e0, e1, e2, e3, e4, e5, e6, e7, e8, e9, e10, e11, e12) refl

trace_from : (x y : Trace) → x.logs ≡ y.logs → x.queues ≡ y.queues → x.grants ≡ y.grants → x.serves ≡ y.serves → x.answers ≡ y.answers → x.frames ≡ y.frames → x.ports ≡ y.ports → x.posts ≡ y.posts → x.delivers ≡ y.delivers → x.harvests ≡ y.harvests → x.tces ≡ y.tces → x.copies ≡ y.copies → x.strokes ≡ y.strokes → x ≡ y
trace_from x y = trace_parts x.logs y.logs x.queues y.queues x.grants y.grants x.serves y.serves x.answers y.answers x.frames y.frames x.ports y.ports x.posts y.posts x.delivers y.delivers x.harvests y.harvests x.tces y.tces x.copies y.copies x.strokes y.strokes

-- A text is that of one trace in form alone.
pub text_of_one : (a b : Trace) (text : List ℕ) → IsTextOf a text → IsTextOf b text → a ≡ b
text_of_one a b text h k =
    let p = h.form.range in
    let q = k.form.range in
    let whole : from_logs a ≡ from_logs b = append_cancel_left (codes "trace 1\n") _ _ (sym (apart a) ∙ sym h.spelled ∙ k.spelled ∙ apart b) in
    let logs = kind_cut log_text IsLogRow section 1 log_cut log_section a.logs b.logs _ _ p.logs q.logs (queues_after 1 (omega arith) a) (queues_after 1 (omega arith) b) whole in
    let queues = kind_cut queue_text IsQueueRow section 2 queue_cut queue_section a.queues b.queues _ _ p.queues q.queues (grants_after 2 (omega arith) a) (grants_after 2 (omega arith) b) logs.rest in
    let grants = kind_cut grant_text IsGrantRow section 3 grant_cut grant_section a.grants b.grants _ _ p.grants q.grants (serves_after 3 (omega arith) a) (serves_after 3 (omega arith) b) queues.rest in
    let serves = kind_cut serve_text IsServeRow section 4 serve_cut serve_section a.serves b.serves _ _ p.serves q.serves (answers_after 4 (omega arith) a) (answers_after 4 (omega arith) b) grants.rest in
    let answers = kind_cut answer_text IsAnswerRow section 5 answer_cut answer_section a.answers b.answers _ _ p.answers q.answers (frames_after 5 (omega arith) a) (frames_after 5 (omega arith) b) serves.rest in
    let frames = kind_cut_before frame_text IsFrameRow section 6 (frame_cut section 6 (omega arith) offer_section) frame_section a.frames b.frames _ _ p.frames q.frames (ports_after 6 (omega arith) a) (ports_after 6 (omega arith) b) answers.rest in
    let ports = kind_cut port_text IsPortRow section 7 port_cut port_section a.ports b.ports _ _ p.ports q.ports (posts_after 7 (omega arith) a) (posts_after 7 (omega arith) b) frames.rest in
    let posts = kind_cut post_text IsPostRow section 8 post_cut post_section a.posts b.posts _ _ p.posts q.posts (delivers_after 8 (omega arith) a) (delivers_after 8 (omega arith) b) ports.rest in
    let delivers = kind_cut deliver_text IsDeliverRow section 9 deliver_cut deliver_section a.delivers b.delivers _ _ p.delivers q.delivers (harvests_after 9 (omega arith) a) (harvests_after 9 (omega arith) b) posts.rest in
    let harvests = kind_cut harvest_text IsHarvestRow section 10 harvest_cut harvest_section a.harvests b.harvests _ _ p.harvests q.harvests (tces_after 10 (omega arith) a) (tces_after 10 (omega arith) b) delivers.rest in
    let tces = kind_cut tce_text IsTceValueRow section 11 tce_cut tce_section a.tces b.tces _ _ p.tces q.tces (copies_after 11 (omega arith) a) (copies_after 11 (omega arith) b) harvests.rest in
    let copies = kind_cut copy_text IsCopyRow section 12 copy_cut copy_section a.copies b.copies _ _ p.copies q.copies (strokes_after 12 (omega arith) a) (strokes_after 12 (omega arith) b) tces.rest in
    let strokes = kind_cut stroke_text IsStrokeRow section 13 stroke_cut stroke_section a.strokes b.strokes last last p.strokes q.strokes (omega arith) (omega arith) copies.rest in
    trace_from a b logs.row queues.row grants.row serves.row answers.row frames.row ports.row posts.row delivers.row harvests.row tces.row copies.row strokes.row
