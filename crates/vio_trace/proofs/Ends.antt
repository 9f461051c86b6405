-- The text of each kind of line is one line.
use Rattle.std.proofs.Common.{ℕ, List, [], ◌∷◌, ◌++◌, codes, decimal, refl, sym, ap, ◌∙◌, append_assoc, arith, rules}
use Rattle.vio_num.specs.declared.entry.Entry.{Entry}
use Rattle.vio_num.specs.declared.history.Grant.{Grant}
use Rattle.vio_num.specs.declared.history.Grant.TheVariants as grants
use Rattle.vio_num.specs.declared.history.Served.{Served}
use Rattle.vio_trace.specs.declared.lan_rows.HarvestRow.{HarvestRow}
use Rattle.vio_trace.specs.declared.lan_rows.OfferRow.{OfferRow}
use Rattle.vio_trace.specs.declared.lan_rows.PortRow.{PortRow}
use Rattle.vio_trace.specs.declared.lan_rows.PostRow.{PostRow}
use Rattle.vio_trace.specs.declared.read_heads.CopyHead.{CopyHead}
use Rattle.vio_trace.specs.declared.read_heads.DeliverHead.{DeliverHead}
use Rattle.vio_trace.specs.declared.read_heads.FrameHead.{FrameHead}
use Rattle.vio_trace.specs.declared.read_heads.QueueHead.{QueueHead}
use Rattle.vio_trace.specs.declared.rows.AnswerRow.{AnswerRow}
use Rattle.vio_trace.specs.declared.rows.DropRow.{DropRow}
use Rattle.vio_trace.specs.declared.rows.LogRow.{LogRow}
use Rattle.vio_trace.specs.declared.window_rows.PieceRow.{PieceRow}
use Rattle.vio_trace.specs.declared.window_rows.StrokeRow.{StrokeRow}
use Rattle.vio_trace.specs.declared.window_rows.TceValueRow.{TceValueRow}
use Rattle.vio_trace.specs.Form.{IsEntry, IsGrantRow, IsPieceRow, IsLogRow, IsDropRow, IsServeRow, IsAnswerRow, IsOfferRow, IsPortRow, IsPostRow, IsHarvestRow, IsTceValueRow, IsStrokeRow}
use Rattle.vio_trace.specs.Heads.{queue_head, frame_head, deliver_head, copy_head, IsQueueHead, IsFrameHead, IsDeliverHead, IsCopyHead}
use Rattle.vio_trace.specs.Reading.{IsLine, Without}
use Rattle.vio_trace.specs.Text.{line, name, digits, bytes, number_or_none, code, offered, filled, outcome_words, entry_text, grant_text, piece_text, log_text, drop_text, serve_text, answer_text, offer_text, port_text, post_text, harvest_text, tce_text, stroke_text}
use Rattle.vio_trace.proofs.Cuts.{Above, ArePlain}
use Rattle.vio_trace.proofs.Histories.{granted_plain, granted_words, lapsed_plain, lapsed_words}
use Rattle.vio_trace.proofs.Lans.{plain_offered, plain_filled}
use Rattle.vio_trace.proofs.Outcomes.{outcome_plain}
use Rattle.vio_trace.proofs.RowsTold.{half_is_word}
use Rattle.vio_trace.proofs.Spelled.{plain_bytes, plain_code, plain_decimal, plain_digits, plain_name, plain_number_or_none}
use Rattle.vio_trace.proofs.Windows.{short_is_word}

-- a plain word has no end of a line
above_without : (w : List ℕ) → Above 32 w → Without 10 w
above_without [] h = tt
above_without (c ∷ w) h = ((λ e. omega (arith, e, h.0)), above_without w h.1)

without_append : (k : ℕ) (v w : List ℕ) → Without k v → Without k w → Without k (v ++ w)
without_append k [] w h j = j
without_append k (c ∷ v) w h j = (h.0, without_append k v w h.1 j)

-- the end of a line of plain words stands at its end alone
pub line_is : (v : List ℕ) (vs : List (List ℕ)) → ArePlain (v ∷ vs) → IsLine (line (v ∷ vs))
line_is v [] h = record { word = v; whole = refl; within = above_without v h.0 }
line_is v (n ∷ vs) h =
    let more = line_is n vs h.1 in
    let space : Without 10 (codes " ") = ((λ e. omega (arith, e)), tt) in
    record {
      word = (v ++ codes " ") ++ more.word;
      whole = ap (λ (l : List ℕ). (v ++ codes " ") ++ l) more.whole ∙ sym (append_assoc (v ++ codes " ") more.word (codes "\n"));
      within = without_append 10 (v ++ codes " ") more.word (without_append 10 v (codes " ") (above_without v h.0) space) more.within;
    }

pub log_line_is : (a : LogRow) → IsLogRow a → IsLine (log_text a)
log_line_is a h =
    line_is (codes "log") (decimal a.partition ∷ decimal a.line ∷ outcome_words a.outcome)
    (search (rules, arith), (plain_decimal a.partition (omega (arith, h.partition)), (plain_decimal a.line (half_is_word a.line h.line), outcome_plain a.outcome h.outcome)))

pub drop_line_is : (a : DropRow) → IsDropRow a → IsLine (drop_text a)
drop_line_is a h =
    line_is (codes "drop") (decimal a.number ∷ digits a.held ∷ [])
    (search (rules, arith), (plain_decimal a.number h.number, (plain_digits a.held, tt)))

pub serve_line_is : (a : Served) → IsServeRow a → IsLine (serve_text a)
serve_line_is a h =
    line_is (codes "serve") (name a.unit ∷ decimal a.session ∷ decimal a.login ∷ decimal a.number ∷ bytes a.iu ∷ bytes a.out ∷ number_or_none a.fault ∷ bytes a.answer ∷ bytes a.inn ∷ [])
    (search (rules, arith), (plain_name a.unit h.unit, (plain_decimal a.session h.session, (plain_decimal a.login h.login, (plain_decimal a.number h.number, (plain_bytes a.iu h.iu, (plain_bytes a.out h.out, (plain_number_or_none a.fault h.fault, (plain_bytes a.answer h.answer, (plain_bytes a.inn h.inn, tt))))))))))

pub answer_line_is : (a : AnswerRow) → IsAnswerRow a → IsLine (answer_text a)
answer_line_is a h =
    line_is (codes "answer") (name a.unit ∷ decimal a.session ∷ decimal a.tag ∷ bytes a.answer ∷ [])
    (search (rules, arith), (plain_name a.unit h.unit, (plain_decimal a.session h.session, (plain_decimal a.tag h.tag, (plain_bytes a.answer h.answer, tt)))))

pub offer_line_is : (a : OfferRow) → IsOfferRow a → IsLine (offer_text a)
offer_line_is a h =
    line_is (codes "offer") (name a.unit ∷ decimal a.number ∷ name a.port ∷ offered a.offered ∷ [])
    (search (rules, arith), (plain_name a.unit h.unit, (plain_decimal a.number h.number, (plain_name a.port h.port, (plain_offered a.offered, tt)))))

pub port_line_is : (a : PortRow) → IsPortRow a → IsLine (port_text a)
port_line_is a h =
    line_is (codes "port") (name a.unit ∷ decimal a.session ∷ decimal a.slots ∷ decimal a.drops ∷ [])
    (search (rules, arith), (plain_name a.unit h.unit, (plain_decimal a.session h.session, (plain_decimal a.slots (half_is_word a.slots h.slots), (plain_decimal a.drops h.drops, tt)))))

pub post_line_is : (a : PostRow) → IsPostRow a → IsLine (post_text a)
post_line_is a h =
    line_is (codes "post") (name a.unit ∷ decimal a.session ∷ decimal a.number ∷ digits a.descriptor ∷ digits a.correlator ∷ [])
    (search (rules, arith), (plain_name a.unit h.unit, (plain_decimal a.session h.session, (plain_decimal a.number h.number, (plain_digits a.descriptor, (plain_digits a.correlator, tt))))))

pub harvest_line_is : (a : HarvestRow) → IsHarvestRow a → IsLine (harvest_text a)
harvest_line_is a h =
    line_is (codes "harvest") (name a.unit ∷ decimal a.session ∷ digits a.high ∷ digits a.low ∷ [])
    (search (rules, arith), (plain_name a.unit h.unit, (plain_decimal a.session h.session, (plain_digits a.high, (plain_digits a.low, tt)))))

pub tce_line_is : (a : TceValueRow) → IsTceValueRow a → IsLine (tce_text a)
tce_line_is a h =
    line_is (codes "tce") (name a.unit ∷ decimal a.entry ∷ decimal a.version ∷ digits a.value ∷ [])
    (search (rules, arith), (plain_name a.unit h.unit, (plain_decimal a.entry (short_is_word a.entry h.entry), (plain_decimal a.version (half_is_word a.version h.version), (plain_digits a.value, tt)))))

pub stroke_line_is : (a : StrokeRow) → IsStrokeRow a → IsLine (stroke_text a)
stroke_line_is a h =
    line_is (codes "stroke") (name a.unit ∷ decimal a.page ∷ decimal a.place ∷ name a.writer ∷ decimal a.mark ∷ decimal a.offset ∷ bytes a.bytes ∷ [])
    (search (rules, arith), (plain_name a.unit h.unit, (plain_decimal a.page (short_is_word a.page h.page), (plain_decimal a.place (half_is_word a.place h.place), (plain_name a.writer h.writer, (plain_decimal a.mark h.mark, (plain_decimal a.offset (short_is_word a.offset h.offset), (plain_bytes a.bytes h.bytes, tt))))))))

abbrev pub queue_head_words : QueueHead → List (List ℕ)
queue_head_words a = name a.unit ∷ decimal a.session ∷ decimal a.slots ∷ decimal a.sent ∷ decimal a.taken ∷ decimal a.drops ∷ []

pub queue_head_plain : (a : QueueHead) → IsQueueHead a → ArePlain (codes "queue" ∷ queue_head_words a)
queue_head_plain a h = (search (rules, arith), (plain_name a.unit h.unit, (plain_decimal a.session h.session, (plain_decimal a.slots (half_is_word a.slots h.slots), (plain_decimal a.sent h.sent, (plain_decimal a.taken h.taken, (plain_decimal a.drops h.drops, tt)))))))

pub queue_head_line_is : (a : QueueHead) → IsQueueHead a → IsLine (queue_head a)
queue_head_line_is a h = line_is (codes "queue") (queue_head_words a) (queue_head_plain a h)

abbrev pub frame_head_words : FrameHead → List (List ℕ)
frame_head_words a = name a.unit ∷ decimal a.number ∷ code a.code ∷ decimal a.from ∷ bytes a.bytes ∷ []

pub frame_head_plain : (a : FrameHead) → IsFrameHead a → ArePlain (codes "frame" ∷ frame_head_words a)
frame_head_plain a h = (search (rules, arith), (plain_name a.unit h.unit, (plain_decimal a.number h.number, (plain_code a.code, (plain_decimal a.from h.from, (plain_bytes a.bytes h.bytes, tt))))))

pub frame_head_line_is : (a : FrameHead) → IsFrameHead a → IsLine (frame_head a)
frame_head_line_is a h = line_is (codes "frame") (frame_head_words a) (frame_head_plain a h)

abbrev pub deliver_head_words : DeliverHead → List (List ℕ)
deliver_head_words a = name a.unit ∷ decimal a.session ∷ decimal a.post ∷ name a.sender ∷ decimal a.frame ∷ filled a.filled ∷ decimal a.to ∷ []

pub deliver_head_plain : (a : DeliverHead) → IsDeliverHead a → ArePlain (codes "deliver" ∷ deliver_head_words a)
deliver_head_plain a h = (search (rules, arith), (plain_name a.unit h.unit, (plain_decimal a.session h.session, (plain_decimal a.post h.post, (plain_name a.sender h.sender, (plain_decimal a.frame h.frame, (plain_filled a.filled, (plain_decimal a.to h.to, tt))))))))

pub deliver_head_line_is : (a : DeliverHead) → IsDeliverHead a → IsLine (deliver_head a)
deliver_head_line_is a h = line_is (codes "deliver") (deliver_head_words a) (deliver_head_plain a h)

abbrev pub copy_head_words : CopyHead → List (List ℕ)
copy_head_words a = name a.unit ∷ decimal a.mark ∷ decimal a.len ∷ decimal a.from ∷ decimal a.to ∷ []

pub copy_head_plain : (a : CopyHead) → IsCopyHead a → ArePlain (codes "copy" ∷ copy_head_words a)
copy_head_plain a h = (search (rules, arith), (plain_name a.unit h.unit, (plain_decimal a.mark h.mark, (plain_decimal a.len (half_is_word a.len h.len), (plain_decimal a.from h.from, (plain_decimal a.to h.to, tt))))))

pub copy_head_line_is : (a : CopyHead) → IsCopyHead a → IsLine (copy_head a)
copy_head_line_is a h = line_is (codes "copy") (copy_head_words a) (copy_head_plain a h)

pub sent_line_is : (a : Entry) → IsEntry a → IsLine (entry_text (codes "sent") a)
sent_line_is a h = line_is (codes "sent") (digits a.high ∷ digits a.low ∷ []) (search (rules, arith), (plain_digits a.high, (plain_digits a.low, tt)))

pub took_line_is : (a : Entry) → IsEntry a → IsLine (entry_text (codes "took") a)
took_line_is a h = line_is (codes "took") (digits a.high ∷ digits a.low ∷ []) (search (rules, arith), (plain_digits a.high, (plain_digits a.low, tt)))

abbrev piece_words : PieceRow → List (List ℕ)
piece_words a = name a.unit ∷ decimal a.entry ∷ decimal a.version ∷ decimal a.page ∷ decimal a.offset ∷ decimal a.len ∷ decimal a.at ∷ []

piece_plain : (a : PieceRow) → IsPieceRow a → ArePlain (piece_words a)
piece_plain a h = (plain_name a.unit h.unit, (plain_decimal a.entry (short_is_word a.entry h.entry), (plain_decimal a.version (half_is_word a.version h.version), (plain_decimal a.page (short_is_word a.page h.page), (plain_decimal a.offset (short_is_word a.offset h.offset), (plain_decimal a.len (short_is_word a.len h.len), (plain_decimal a.at (half_is_word a.at h.at), tt)))))))

pub from_line_is : (a : PieceRow) → IsPieceRow a → IsLine (piece_text (codes "from") a)
from_line_is a h = line_is (codes "from") (piece_words a) (search (rules, arith), piece_plain a h)

pub to_line_is : (a : PieceRow) → IsPieceRow a → IsLine (piece_text (codes "to") a)
to_line_is a h = line_is (codes "to") (piece_words a) (search (rules, arith), piece_plain a h)

pub grant_line_is : (a : Grant) → IsGrantRow a → IsLine (grant_text a)
grant_line_is (grants.Granted u s l n c) h = line_is (codes "grant") (granted_words u s l n c) (granted_plain u s l n c h)
grant_line_is (grants.Lapsed u s l w o g) h = line_is (codes "lapse") (lapsed_words u s l w o g) (lapsed_plain u s l w o g h)
