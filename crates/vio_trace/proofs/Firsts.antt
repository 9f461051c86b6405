-- What the first line of a row tells.
use Rattle.std.proofs.Common.{◌≡◌, ◌<◌, ◌≤◌, ◌⊎◌, ℕ, List, [], ◌∷◌, ◌++◌, codes, refl, sym, ap, subst, ◌∙◌}
use Rattle.std.specs.List.{flat_map}
use Rattle.vio_num.specs.declared.names.UnitId.{UnitId}
use Rattle.vio_num.specs.declared.history.Grant.{Grant}
use Rattle.vio_num.specs.declared.history.Served.{Served}
use Rattle.vio_trace.specs.declared.rows.QueueRow.{QueueRow}
use Rattle.vio_trace.specs.declared.lan_rows.FrameRow.{FrameRow}
use Rattle.vio_trace.specs.declared.lan_rows.DeliverRow.{DeliverRow}
use Rattle.vio_trace.specs.declared.window_rows.CopyRow.{CopyRow}
use Rattle.vio_trace.specs.declared.read_heads.QueueHead.{QueueHead}
use Rattle.vio_trace.specs.declared.read_heads.DeliverHead.{DeliverHead}
use Rattle.vio_trace.specs.declared.read_heads.FrameHead.{FrameHead}
use Rattle.vio_trace.specs.declared.read_heads.CopyHead.{CopyHead}
use Rattle.vio_trace.specs.Form.{IsLogRow, IsQueueRow, IsGrantRow, IsServeRow, IsAnswerRow, IsFrameRow, IsPortRow, IsPostRow, IsDeliverRow, IsHarvestRow, IsTceValueRow, IsCopyRow, IsStrokeRow, UnitBefore, LogBefore, QueueBefore, AnswerBefore, FrameBefore, PortBefore, PostBefore, DeliverBefore, HarvestBefore, TceValueBefore, CopyBefore, StrokeBefore}
use Rattle.vio_trace.specs.Heads.{queue_head, frame_head, deliver_head, copy_head, IsQueueHead, IsFrameHead, IsDeliverHead, IsCopyHead}
use Rattle.vio_trace.specs.Reading.{IsLine}
use Rattle.vio_trace.specs.Sections.{AnyBehind, NoOfferBehind, section}
use Rattle.vio_trace.specs.Shared.{FirstTells, KeepsLines, SameFirst}
use Rattle.vio_trace.specs.Text.{line, entry_text, drop_text, piece_text, offer_text, log_text, queue_text, grant_text, serve_text, answer_text, frame_text, port_text, post_text, deliver_text, harvest_text, tce_text, copy_text, stroke_text}
use Rattle.vio_trace.proofs.Cuts.{ArePlain, IsCut, line_cut}
use Rattle.vio_trace.proofs.Ends.{line_is, log_line_is, grant_line_is, serve_line_is, answer_line_is, offer_line_is, port_line_is, post_line_is, harvest_line_is, tce_line_is, stroke_line_is, queue_head_words, queue_head_plain, deliver_head_words, deliver_head_plain, frame_head_words, frame_head_plain, copy_head_words, copy_head_plain}
use Rattle.vio_trace.proofs.Headed.{queue_parts, deliver_parts, frame_parts, copy_parts}
use Rattle.vio_trace.proofs.Histories.{grant_cut, serve_cut, answer_cut}
use Rattle.vio_trace.proofs.Lans.{port_cut, post_cut, harvest_cut, deliver_words, deliver_plain, frame_words, frame_plain}
use Rattle.vio_trace.proofs.Refused.{lines_cut}
use Rattle.vio_trace.proofs.RowsTold.{log_cut, queue_words, queue_plain, told, word_of}
use Rattle.vio_trace.proofs.Spelled.{name_tells}
use Rattle.vio_trace.proofs.Windows.{tce_cut, stroke_cut, copy_words, copy_plain}

-- a row of one line: another that begins with it is the same
pub first_row : {Row : Type 0} → (text : Row → List ℕ) (in_range : Row → Type 0) (before : Row → Row → Type 0) (kind : ℕ)
    → ((a : Row) → in_range a → IsLine (text a)) → IsCut text in_range → ((a : Row) (xs : List ℕ) → section (text a ++ xs) ≡ kind)
    → (bytes rest : List ℕ) (row : Row) → in_range row → bytes ≡ text row ++ rest → FirstTells text in_range before kind bytes row
first_row {Row} text in_range before kind lines cut is bytes rest row h e = record {
  of = λ other s.
      let same = lines_cut s.first (text row) s.rest rest s.is (lines row h) (sym s.bytes_are ∙ e) in
      ap section (s.other_is ∙ ap (λ (l : List ℕ). l ++ s.theirs) same.line) ∙ is row s.theirs;
  keys = λ past b other more s q f k.
      let same = lines_cut s.first (text row) s.rest rest s.is (lines row h) (sym s.bytes_are ∙ e) in
      let rows = cut row b s.theirs more h q (ap (λ (l : List ℕ). l ++ s.theirs) (sym same.line) ∙ sym s.other_is ∙ f) in
      subst (λ (r : Row). before past r) (sym rows.row) k;
  back = λ past b other more s q f k.
      let same = lines_cut s.first (text row) s.rest rest s.is (lines row h) (sym s.bytes_are ∙ e) in
      let rows = cut row b s.theirs more h q (ap (λ (l : List ℕ). l ++ s.theirs) (sym same.line) ∙ sym s.other_is ∙ f) in
      subst (λ (r : Row). before past r) rows.row k;
}

pub lines_any : {Row : Type 0} → (text : Row → List ℕ) (in_range : Row → Type 0) (before : Row → Row → Type 0)
    → ((a : Row) → in_range a → IsLine (text a)) → IsCut text in_range → KeepsLines text in_range before AnyBehind
lines_any {Row} text in_range before lines cut = record {
  lined = λ row bytes other s f. tt;
  keys = λ past a b xs ys h q s k.
      let same = lines_cut s.first (text a) s.rest xs s.is (lines a h) (sym s.bytes_are) in
      let rows = cut a b s.theirs ys h q (ap (λ (l : List ℕ). l ++ s.theirs) (sym same.line) ∙ sym s.other_is) in
      subst (λ (r : Row). before past r) (sym rows.row) k;
}

-- texts that begin with the same line of words have the same words
pub same_words : (w : List ℕ) (v vs : List (List ℕ)) (bytes other rest more : List ℕ) → ArePlain (w ∷ v) → ArePlain (w ∷ vs)
    → bytes ≡ line (w ∷ v) ++ rest → other ≡ line (w ∷ vs) ++ more → SameFirst bytes other → v ≡ vs
same_words w v vs bytes other rest more p q e f s =
    let a = lines_cut s.first (line (w ∷ v)) s.rest rest s.is (line_is w v p) (sym s.bytes_are ∙ e) in
    let b = lines_cut s.first (line (w ∷ vs)) s.theirs more s.is (line_is w vs q) (sym s.other_is ∙ f) in
    (line_cut w v w vs [] [] p q (ap (λ (l : List ℕ). l ++ []) (sym a.line ∙ b.line))).words

-- texts that begin with the same line begin with this one
same_front : (front bytes other rest : List ℕ) → IsLine front → bytes ≡ front ++ rest → (s : SameFirst bytes other) → other ≡ front ++ s.theirs
same_front front bytes other rest is e s =
    s.other_is ∙ ap (λ (l : List ℕ). l ++ s.theirs) (lines_cut s.first front s.rest rest s.is is (sym s.bytes_are ∙ e)).line

-- queue

queue_keys : (past b : QueueRow) (unit : UnitId) (session : ℕ) → unit ≡ b.unit → session ≡ b.session → QueueBefore past b → UnitBefore past.unit unit ⊎ ((past.unit ≡ unit) × (past.session < session))
queue_keys past b unit session e f k =
    subst (λ (u : UnitId). UnitBefore past.unit u ⊎ ((past.unit ≡ u) × (past.session < session))) (sym e)
    (subst (λ (n : ℕ). UnitBefore past.unit b.unit ⊎ ((past.unit ≡ b.unit) × (past.session < n))) (sym f) k)

queue_back : (past b : QueueRow) (unit : UnitId) (session : ℕ) → unit ≡ b.unit → session ≡ b.session → UnitBefore past.unit unit ⊎ ((past.unit ≡ unit) × (past.session < session)) → QueueBefore past b
queue_back past b unit session e f k =
    subst (λ (u : UnitId). UnitBefore past.unit u ⊎ ((past.unit ≡ u) × (past.session < b.session))) e
    (subst (λ (n : ℕ). UnitBefore past.unit unit ⊎ ((past.unit ≡ unit) × (past.session < n))) f k)

pub queue_lines : KeepsLines queue_text IsQueueRow QueueBefore AnyBehind
queue_lines = record {
  lined = λ row bytes other s f. tt;
  keys = λ past a b xs ys h q s k.
      let same = same_words (codes "queue") (queue_words a) (queue_words b) _ _ (flat_map (entry_text (codes "sent")) a.sent ++ (flat_map (entry_text (codes "took")) a.taken ++ (flat_map drop_text a.drops ++ xs))) (flat_map (entry_text (codes "sent")) b.sent ++ (flat_map (entry_text (codes "took")) b.taken ++ (flat_map drop_text b.drops ++ ys))) (queue_plain a h.line) (queue_plain b q.line) (queue_parts a xs) (queue_parts b ys) s in
      queue_keys past b a.unit a.session (name_tells a.unit b.unit h.line.unit q.line.unit (word_of 0 _ _ same)) (told 1 a.session b.session _ _ h.line.session q.line.session same refl refl) k;
}

queue_head_section : (h : QueueHead) (xs : List ℕ) → section (queue_head h ++ xs) ≡ 2
queue_head_section h xs = refl

pub queue_first : (bytes rest : List ℕ) (h : QueueHead) (row : QueueRow) → IsQueueHead h → bytes ≡ queue_head h ++ rest → h.unit ≡ row.unit → h.session ≡ row.session
    → FirstTells queue_text IsQueueRow QueueBefore 2 bytes row
queue_first bytes rest h row is e unit key = record {
  of = λ other s. ap section (same_front (queue_head h) bytes other rest (line_is (codes "queue") (queue_head_words h) (queue_head_plain h is)) e s) ∙ queue_head_section h s.theirs;
  keys = λ past b other more s q f k.
      let same = same_words (codes "queue") (queue_head_words h) (queue_words b) bytes other rest (flat_map (entry_text (codes "sent")) b.sent ++ (flat_map (entry_text (codes "took")) b.taken ++ (flat_map drop_text b.drops ++ more))) (queue_head_plain h is) (queue_plain b q.line) e (f ∙ queue_parts b more) s in
      queue_keys past b row.unit row.session (sym unit ∙ name_tells h.unit b.unit is.unit q.line.unit (word_of 0 _ _ same)) (sym key ∙ told 1 h.session b.session _ _ is.session q.line.session same refl refl) k;
  back = λ past b other more s q f k.
      let same = same_words (codes "queue") (queue_head_words h) (queue_words b) bytes other rest (flat_map (entry_text (codes "sent")) b.sent ++ (flat_map (entry_text (codes "took")) b.taken ++ (flat_map drop_text b.drops ++ more))) (queue_head_plain h is) (queue_plain b q.line) e (f ∙ queue_parts b more) s in
      queue_back past b row.unit row.session (sym unit ∙ name_tells h.unit b.unit is.unit q.line.unit (word_of 0 _ _ same)) (sym key ∙ told 1 h.session b.session _ _ is.session q.line.session same refl refl) k;
}

-- deliver

deliver_keys : (past b : DeliverRow) (unit : UnitId) (session : ℕ) → unit ≡ b.unit → session ≡ b.session → DeliverBefore past b → UnitBefore past.unit unit ⊎ ((past.unit ≡ unit) × (past.session ≤ session))
deliver_keys past b unit session e f k =
    subst (λ (u : UnitId). UnitBefore past.unit u ⊎ ((past.unit ≡ u) × (past.session ≤ session))) (sym e)
    (subst (λ (n : ℕ). UnitBefore past.unit b.unit ⊎ ((past.unit ≡ b.unit) × (past.session ≤ n))) (sym f) k)

deliver_back : (past b : DeliverRow) (unit : UnitId) (session : ℕ) → unit ≡ b.unit → session ≡ b.session → UnitBefore past.unit unit ⊎ ((past.unit ≡ unit) × (past.session ≤ session)) → DeliverBefore past b
deliver_back past b unit session e f k =
    subst (λ (u : UnitId). UnitBefore past.unit u ⊎ ((past.unit ≡ u) × (past.session ≤ b.session))) e
    (subst (λ (n : ℕ). UnitBefore past.unit unit ⊎ ((past.unit ≡ unit) × (past.session ≤ n))) f k)

pub deliver_lines : KeepsLines deliver_text IsDeliverRow DeliverBefore AnyBehind
deliver_lines = record {
  lined = λ row bytes other s f. tt;
  keys = λ past a b xs ys h q s k.
      let same = same_words (codes "deliver") (deliver_words a) (deliver_words b) _ _ (flat_map (piece_text (codes "to")) a.to ++ xs) (flat_map (piece_text (codes "to")) b.to ++ ys) (deliver_plain a h.line) (deliver_plain b q.line) (deliver_parts a xs) (deliver_parts b ys) s in
      deliver_keys past b a.unit a.session (name_tells a.unit b.unit h.line.unit q.line.unit (word_of 0 _ _ same)) (told 1 a.session b.session _ _ h.line.session q.line.session same refl refl) k;
}

deliver_head_section : (h : DeliverHead) (xs : List ℕ) → section (deliver_head h ++ xs) ≡ 9
deliver_head_section h xs = refl

pub deliver_first : (bytes rest : List ℕ) (h : DeliverHead) (row : DeliverRow) → IsDeliverHead h → bytes ≡ deliver_head h ++ rest → h.unit ≡ row.unit → h.session ≡ row.session
    → FirstTells deliver_text IsDeliverRow DeliverBefore 9 bytes row
deliver_first bytes rest h row is e unit key = record {
  of = λ other s. ap section (same_front (deliver_head h) bytes other rest (line_is (codes "deliver") (deliver_head_words h) (deliver_head_plain h is)) e s) ∙ deliver_head_section h s.theirs;
  keys = λ past b other more s q f k.
      let same = same_words (codes "deliver") (deliver_head_words h) (deliver_words b) bytes other rest (flat_map (piece_text (codes "to")) b.to ++ more) (deliver_head_plain h is) (deliver_plain b q.line) e (f ∙ deliver_parts b more) s in
      deliver_keys past b row.unit row.session (sym unit ∙ name_tells h.unit b.unit is.unit q.line.unit (word_of 0 _ _ same)) (sym key ∙ told 1 h.session b.session _ _ is.session q.line.session same refl refl) k;
  back = λ past b other more s q f k.
      let same = same_words (codes "deliver") (deliver_head_words h) (deliver_words b) bytes other rest (flat_map (piece_text (codes "to")) b.to ++ more) (deliver_head_plain h is) (deliver_plain b q.line) e (f ∙ deliver_parts b more) s in
      deliver_back past b row.unit row.session (sym unit ∙ name_tells h.unit b.unit is.unit q.line.unit (word_of 0 _ _ same)) (sym key ∙ told 1 h.session b.session _ _ is.session q.line.session same refl refl) k;
}

-- frame

frame_keys : (past b : FrameRow) (unit : UnitId) (number : ℕ) → unit ≡ b.unit → number ≡ b.number → FrameBefore past b → UnitBefore past.unit unit ⊎ ((past.unit ≡ unit) × (past.number < number))
frame_keys past b unit number e f k =
    subst (λ (u : UnitId). UnitBefore past.unit u ⊎ ((past.unit ≡ u) × (past.number < number))) (sym e)
    (subst (λ (n : ℕ). UnitBefore past.unit b.unit ⊎ ((past.unit ≡ b.unit) × (past.number < n))) (sym f) k)

frame_back : (past b : FrameRow) (unit : UnitId) (number : ℕ) → unit ≡ b.unit → number ≡ b.number → UnitBefore past.unit unit ⊎ ((past.unit ≡ unit) × (past.number < number)) → FrameBefore past b
frame_back past b unit number e f k =
    subst (λ (u : UnitId). UnitBefore past.unit u ⊎ ((past.unit ≡ u) × (past.number < b.number))) e
    (subst (λ (n : ℕ). UnitBefore past.unit unit ⊎ ((past.unit ≡ unit) × (past.number < n))) f k)

pub frame_lines : KeepsLines frame_text IsFrameRow FrameBefore NoOfferBehind
frame_lines = record {
  lined = λ row bytes other s f offer more h u v e.
      f offer s.rest h u v (s.bytes_are ∙ ap (λ (l : List ℕ). l ++ s.rest) (lines_cut s.first (offer_text offer) s.theirs more s.is (offer_line_is offer h) (sym s.other_is ∙ e)).line);
  keys = λ past a b xs ys h q s k.
      let same = same_words (codes "frame") (frame_words a) (frame_words b) _ _ (flat_map (piece_text (codes "from")) a.from ++ (flat_map offer_text a.offers ++ xs)) (flat_map (piece_text (codes "from")) b.from ++ (flat_map offer_text b.offers ++ ys)) (frame_plain a h.line) (frame_plain b q.line) (frame_parts a xs) (frame_parts b ys) s in
      frame_keys past b a.unit a.number (name_tells a.unit b.unit h.line.unit q.line.unit (word_of 0 _ _ same)) (told 1 a.number b.number _ _ h.line.number q.line.number same refl refl) k;
}

frame_head_section : (h : FrameHead) (xs : List ℕ) → section (frame_head h ++ xs) ≡ 6
frame_head_section h xs = refl

pub frame_first : (bytes rest : List ℕ) (h : FrameHead) (row : FrameRow) → IsFrameHead h → bytes ≡ frame_head h ++ rest → h.unit ≡ row.unit → h.number ≡ row.number
    → FirstTells frame_text IsFrameRow FrameBefore 6 bytes row
frame_first bytes rest h row is e unit key = record {
  of = λ other s. ap section (same_front (frame_head h) bytes other rest (line_is (codes "frame") (frame_head_words h) (frame_head_plain h is)) e s) ∙ frame_head_section h s.theirs;
  keys = λ past b other more s q f k.
      let same = same_words (codes "frame") (frame_head_words h) (frame_words b) bytes other rest (flat_map (piece_text (codes "from")) b.from ++ (flat_map offer_text b.offers ++ more)) (frame_head_plain h is) (frame_plain b q.line) e (f ∙ frame_parts b more) s in
      frame_keys past b row.unit row.number (sym unit ∙ name_tells h.unit b.unit is.unit q.line.unit (word_of 0 _ _ same)) (sym key ∙ told 1 h.number b.number _ _ is.number q.line.number same refl refl) k;
  back = λ past b other more s q f k.
      let same = same_words (codes "frame") (frame_head_words h) (frame_words b) bytes other rest (flat_map (piece_text (codes "from")) b.from ++ (flat_map offer_text b.offers ++ more)) (frame_head_plain h is) (frame_plain b q.line) e (f ∙ frame_parts b more) s in
      frame_back past b row.unit row.number (sym unit ∙ name_tells h.unit b.unit is.unit q.line.unit (word_of 0 _ _ same)) (sym key ∙ told 1 h.number b.number _ _ is.number q.line.number same refl refl) k;
}

-- copy

copy_keys : (past b : CopyRow) (unit : UnitId) → unit ≡ b.unit → CopyBefore past b → UnitBefore past.unit unit ⊎ (past.unit ≡ unit)
copy_keys past b unit e k = subst (λ (u : UnitId). UnitBefore past.unit u ⊎ (past.unit ≡ u)) (sym e) k

copy_back : (past b : CopyRow) (unit : UnitId) → unit ≡ b.unit → UnitBefore past.unit unit ⊎ (past.unit ≡ unit) → CopyBefore past b
copy_back past b unit e k = subst (λ (u : UnitId). UnitBefore past.unit u ⊎ (past.unit ≡ u)) e k

pub copy_lines : KeepsLines copy_text IsCopyRow CopyBefore AnyBehind
copy_lines = record {
  lined = λ row bytes other s f. tt;
  keys = λ past a b xs ys h q s k.
      let same = same_words (codes "copy") (copy_words a) (copy_words b) _ _ (flat_map (piece_text (codes "from")) a.from ++ (flat_map (piece_text (codes "to")) a.to ++ xs)) (flat_map (piece_text (codes "from")) b.from ++ (flat_map (piece_text (codes "to")) b.to ++ ys)) (copy_plain a h.line) (copy_plain b q.line) (copy_parts a xs) (copy_parts b ys) s in
      copy_keys past b a.unit (name_tells a.unit b.unit h.line.unit q.line.unit (word_of 0 _ _ same)) k;
}

copy_head_section : (h : CopyHead) (xs : List ℕ) → section (copy_head h ++ xs) ≡ 12
copy_head_section h xs = refl

pub copy_first : (bytes rest : List ℕ) (h : CopyHead) (row : CopyRow) → IsCopyHead h → bytes ≡ copy_head h ++ rest → h.unit ≡ row.unit
    → FirstTells copy_text IsCopyRow CopyBefore 12 bytes row
copy_first bytes rest h row is e unit = record {
  of = λ other s. ap section (same_front (copy_head h) bytes other rest (line_is (codes "copy") (copy_head_words h) (copy_head_plain h is)) e s) ∙ copy_head_section h s.theirs;
  keys = λ past b other more s q f k.
      let same = same_words (codes "copy") (copy_head_words h) (copy_words b) bytes other rest (flat_map (piece_text (codes "from")) b.from ++ (flat_map (piece_text (codes "to")) b.to ++ more)) (copy_head_plain h is) (copy_plain b q.line) e (f ∙ copy_parts b more) s in
      copy_keys past b row.unit (sym unit ∙ name_tells h.unit b.unit is.unit q.line.unit (word_of 0 _ _ same)) k;
  back = λ past b other more s q f k.
      let same = same_words (codes "copy") (copy_head_words h) (copy_words b) bytes other rest (flat_map (piece_text (codes "from")) b.from ++ (flat_map (piece_text (codes "to")) b.to ++ more)) (copy_head_plain h is) (copy_plain b q.line) e (f ∙ copy_parts b more) s in
      copy_back past b row.unit (sym unit ∙ name_tells h.unit b.unit is.unit q.line.unit (word_of 0 _ _ same)) k;
}

-- rows of one line

pub log_lines : KeepsLines log_text IsLogRow LogBefore AnyBehind
log_lines = lines_any log_text IsLogRow LogBefore log_line_is log_cut

pub grant_lines : KeepsLines grant_text IsGrantRow (λ (a b : Grant). Unit {0}) AnyBehind
grant_lines = lines_any grant_text IsGrantRow (λ (a b : Grant). Unit {0}) grant_line_is grant_cut

pub serve_lines : KeepsLines serve_text IsServeRow (λ (a b : Served). Unit {0}) AnyBehind
serve_lines = lines_any serve_text IsServeRow (λ (a b : Served). Unit {0}) serve_line_is serve_cut

pub answer_lines : KeepsLines answer_text IsAnswerRow AnswerBefore AnyBehind
answer_lines = lines_any answer_text IsAnswerRow AnswerBefore answer_line_is answer_cut

pub port_lines : KeepsLines port_text IsPortRow PortBefore AnyBehind
port_lines = lines_any port_text IsPortRow PortBefore port_line_is port_cut

pub post_lines : KeepsLines post_text IsPostRow PostBefore AnyBehind
post_lines = lines_any post_text IsPostRow PostBefore post_line_is post_cut

pub harvest_lines : KeepsLines harvest_text IsHarvestRow HarvestBefore AnyBehind
harvest_lines = lines_any harvest_text IsHarvestRow HarvestBefore harvest_line_is harvest_cut

pub tce_lines : KeepsLines tce_text IsTceValueRow TceValueBefore AnyBehind
tce_lines = lines_any tce_text IsTceValueRow TceValueBefore tce_line_is tce_cut

pub stroke_lines : KeepsLines stroke_text IsStrokeRow StrokeBefore AnyBehind
stroke_lines = lines_any stroke_text IsStrokeRow StrokeBefore stroke_line_is stroke_cut
