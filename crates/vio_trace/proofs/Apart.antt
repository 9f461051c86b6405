-- The rows of each section can be told apart.
use Rattle.std.proofs.Common.{◌≡◌, ◌<◌, ℕ, List, [], ◌∷◌, ◌++◌, All, codes, refl, sym, ap, ◌∙◌, append_assoc, arith, rules}
use Rattle.std.specs.List.{flat_map}
use Rattle.std.proofs.lemmas.List.Elements.{All-cons, All-head, All-nil, All-tail}
use Rattle.vio_num.specs.declared.history.Grant.{Grant}
use Rattle.vio_num.specs.declared.history.Served.{Served}
use Rattle.vio_num.specs.declared.names.UnitId.{UnitId}
use Rattle.vio_trace.specs.declared.lan_rows.OfferRow.{OfferRow}
use Rattle.vio_trace.specs.declared.rows.LogRow.{LogRow}
use Rattle.vio_trace.specs.declared.rows.QueueRow.{QueueRow}
use Rattle.vio_trace.specs.declared.rows.AnswerRow.{AnswerRow}
use Rattle.vio_trace.specs.declared.lan_rows.FrameRow.{FrameRow}
use Rattle.vio_trace.specs.declared.lan_rows.PortRow.{PortRow}
use Rattle.vio_trace.specs.declared.lan_rows.PostRow.{PostRow}
use Rattle.vio_trace.specs.declared.lan_rows.DeliverRow.{DeliverRow}
use Rattle.vio_trace.specs.declared.lan_rows.HarvestRow.{HarvestRow}
use Rattle.vio_trace.specs.declared.window_rows.TceValueRow.{TceValueRow}
use Rattle.vio_trace.specs.declared.window_rows.CopyRow.{CopyRow}
use Rattle.vio_trace.specs.declared.window_rows.StrokeRow.{StrokeRow}
use Rattle.vio_trace.specs.Form.{IsOfferOf, IsOfferRow, IsPieceRow, IsLogRow, IsQueueRow, IsGrantRow, IsServeRow, IsAnswerRow, IsFrameRow, IsPortRow, IsPostRow, IsDeliverRow, IsHarvestRow, IsTceValueRow, IsCopyRow, IsStrokeRow}
use Rattle.vio_trace.specs.Reading.{NoneBegins}
use Rattle.vio_trace.specs.Sections.{AnyBehind, KeepsApart, NoOfferBehind, NoOfferOf, section}
use Rattle.vio_trace.specs.Text.{offer_text, piece_text, log_text, queue_text, grant_text, serve_text, answer_text, frame_text, port_text, post_text, deliver_text, harvest_text, tce_text, copy_text, stroke_text}
use Rattle.vio_trace.proofs.Cuts.{IsCut, Same, counted_cut}
use Rattle.vio_trace.proofs.Laws.{offer_section, log_section, queue_section, grant_section, serve_section, answer_section, frame_section, port_section, post_section, deliver_section, harvest_section, tce_section, copy_section, stroke_section}
use Rattle.vio_trace.proofs.RowsTold.{log_cut, queue_cut}
use Rattle.vio_trace.proofs.Histories.{grant_cut, serve_cut, answer_cut}
use Rattle.vio_trace.proofs.Lans.{port_cut, post_cut, deliver_cut, harvest_cut, offer_cut, frame_line_cut, frame_from, frame_apart}
use Rattle.vio_trace.proofs.Windows.{tce_cut, copy_cut, stroke_cut, piece_cut}

-- rows whose text can be cut off in one way alone, whatever is behind it
apart_any : {Row : Type 0} → (text : Row → List ℕ) (in_range named : Row → Type 0) (kind : ℕ) → IsCut text in_range
    → ((a : Row) (xs : List ℕ) → section (text a ++ xs) ≡ kind) → KeepsApart text in_range named AnyBehind kind
apart_any text in_range named kind cut is = record {
  cut = λ a b xs ys p q n m f g e. let s = cut a b xs ys p q e in (s.row, s.rest);
  joins = λ a b xs. tt;
  ends = λ a xs later. tt;
  begins = is;
}

pub logs_apart : KeepsApart log_text IsLogRow (λ (row : LogRow). Unit {0}) AnyBehind 1
logs_apart = apart_any log_text IsLogRow (λ (row : LogRow). Unit {0}) 1 log_cut log_section

pub queues_apart : KeepsApart queue_text IsQueueRow (λ (row : QueueRow). Unit {0}) AnyBehind 2
queues_apart = apart_any queue_text IsQueueRow (λ (row : QueueRow). Unit {0}) 2 queue_cut queue_section

pub grants_apart : KeepsApart grant_text IsGrantRow (λ (row : Grant). Unit {0}) AnyBehind 3
grants_apart = apart_any grant_text IsGrantRow (λ (row : Grant). Unit {0}) 3 grant_cut grant_section

pub serves_apart : KeepsApart serve_text IsServeRow (λ (row : Served). Unit {0}) AnyBehind 4
serves_apart = apart_any serve_text IsServeRow (λ (row : Served). Unit {0}) 4 serve_cut serve_section

pub answers_apart : KeepsApart answer_text IsAnswerRow (λ (row : AnswerRow). Unit {0}) AnyBehind 5
answers_apart = apart_any answer_text IsAnswerRow (λ (row : AnswerRow). Unit {0}) 5 answer_cut answer_section

pub ports_apart : KeepsApart port_text IsPortRow (λ (row : PortRow). Unit {0}) AnyBehind 7
ports_apart = apart_any port_text IsPortRow (λ (row : PortRow). Unit {0}) 7 port_cut port_section

pub posts_apart : KeepsApart post_text IsPostRow (λ (row : PostRow). Unit {0}) AnyBehind 8
posts_apart = apart_any post_text IsPostRow (λ (row : PostRow). Unit {0}) 8 post_cut post_section

pub delivers_apart : KeepsApart deliver_text IsDeliverRow (λ (row : DeliverRow). Unit {0}) AnyBehind 9
delivers_apart = apart_any deliver_text IsDeliverRow (λ (row : DeliverRow). Unit {0}) 9 deliver_cut deliver_section

pub harvests_apart : KeepsApart harvest_text IsHarvestRow (λ (row : HarvestRow). Unit {0}) AnyBehind 10
harvests_apart = apart_any harvest_text IsHarvestRow (λ (row : HarvestRow). Unit {0}) 10 harvest_cut harvest_section

pub tces_apart : KeepsApart tce_text IsTceValueRow (λ (row : TceValueRow). Unit {0}) AnyBehind 11
tces_apart = apart_any tce_text IsTceValueRow (λ (row : TceValueRow). Unit {0}) 11 tce_cut tce_section

pub copys_apart : KeepsApart copy_text IsCopyRow (λ (row : CopyRow). Unit {0}) AnyBehind 12
copys_apart = apart_any copy_text IsCopyRow (λ (row : CopyRow). Unit {0}) 12 copy_cut copy_section

pub strokes_apart : KeepsApart stroke_text IsStrokeRow (λ (row : StrokeRow). Unit {0}) AnyBehind 13
strokes_apart = apart_any stroke_text IsStrokeRow (λ (row : StrokeRow). Unit {0}) 13 stroke_cut stroke_section

-- offers of one frame, behind which none of it stands
offers_cut : (unit : UnitId) (number : ℕ) (rows others : List OfferRow) (xs ys : List ℕ)
    → All IsOfferRow rows → All IsOfferRow others
    → All (λ (o : OfferRow). (o.unit ≡ unit) × (o.number ≡ number)) rows → All (λ (o : OfferRow). (o.unit ≡ unit) × (o.number ≡ number)) others
    → NoOfferOf unit number xs → NoOfferOf unit number ys
    → flat_map offer_text rows ++ xs ≡ flat_map offer_text others ++ ys → Same rows others xs ys
offers_cut unit number [] [] xs ys p q n m f g e = record { row = refl; rest = e }
offers_cut unit number [] (o ∷ others) xs ys p q n m f g e =
    let named = All-head (λ (o : OfferRow). (o.unit ≡ unit) × (o.number ≡ number)) o others m in
    absurd (f o (flat_map offer_text others ++ ys) (All-head IsOfferRow o others q) named.0 named.1
    (e ∙ append_assoc (offer_text o) (flat_map offer_text others) ys))
offers_cut unit number (r ∷ rows) [] xs ys p q n m f g e =
    let named = All-head (λ (o : OfferRow). (o.unit ≡ unit) × (o.number ≡ number)) r rows n in
    absurd (g r (flat_map offer_text rows ++ xs) (All-head IsOfferRow r rows p) named.0 named.1
    (sym e ∙ append_assoc (offer_text r) (flat_map offer_text rows) xs))
offers_cut unit number (r ∷ rows) (o ∷ others) xs ys p q n m f g e =
    let s = offer_cut r o (flat_map offer_text rows ++ xs) (flat_map offer_text others ++ ys) (All-head IsOfferRow r rows p) (All-head IsOfferRow o others q)
    (sym (append_assoc (offer_text r) (flat_map offer_text rows) xs) ∙ e ∙ append_assoc (offer_text o) (flat_map offer_text others) ys) in
    let t = offers_cut unit number rows others xs ys (All-tail IsOfferRow r rows p) (All-tail IsOfferRow o others q)
    (All-tail (λ (o : OfferRow). (o.unit ≡ unit) × (o.number ≡ number)) r rows n) (All-tail (λ (o : OfferRow). (o.unit ≡ unit) × (o.number ≡ number)) o others m) f g s.rest in
    record { row = ap (λ (z : OfferRow). z ∷ rows) s.row ∙ ap (λ (l : List OfferRow). o ∷ l) t.row; rest = t.rest }

-- the offers of a frame name it
named_so : (unit : UnitId) (number : ℕ) (frame : FrameRow) (offers : List OfferRow) → frame.unit ≡ unit → frame.number ≡ number
    → All (IsOfferOf frame) offers → All (λ (o : OfferRow). (o.unit ≡ unit) × (o.number ≡ number)) offers
named_so unit number frame [] e f h = All-nil (λ (o : OfferRow). (o.unit ≡ unit) × (o.number ≡ number))
named_so unit number frame (o ∷ offers) e f h =
    let is = All-head (IsOfferOf frame) o offers h in
    All-cons (λ (o : OfferRow). (o.unit ≡ unit) × (o.number ≡ number)) o offers (is.unit ∙ e, is.number ∙ f)
    (named_so unit number frame offers e f (All-tail (IsOfferOf frame) o offers h))

no_offer : (frame : FrameRow) (bytes : List ℕ) → 0 < section bytes → NoOfferBehind frame bytes
no_offer frame bytes later offer more h u n e = omega (arith, later, ap section e, offer_section offer more)

pub frames_apart : KeepsApart frame_text IsFrameRow (λ (frame : FrameRow). All (IsOfferOf frame) frame.offers) NoOfferBehind 6
frames_apart = record {
  cut = λ a b xs ys p q n m f g e.
      let from : IsCut (piece_text (codes "from")) IsPieceRow = piece_cut (codes "from") (search (rules, arith)) in
      let s = frame_line_cut a b _ _ p.line q.line (sym (frame_apart a xs) ∙ e ∙ frame_apart b ys) in
      let t = counted_cut (piece_text (codes "from")) IsPieceRow from a.from b.from _ _ p.from q.from s.from s.rest in
      let g_of : NoOfferOf a.unit a.number ys = λ offer more h u v k. g offer more h (u ∙ s.unit) (v ∙ s.number) k in
      let u = offers_cut a.unit a.number a.offers b.offers xs ys p.offers q.offers
      (named_so a.unit a.number a a.offers refl refl n) (named_so a.unit a.number b b.offers (sym s.unit) (sym s.number) m) f g_of t.rest in
      (frame_from a b s.unit s.number s.code t.row s.bytes u.row, u.rest);
  joins = λ a b xs. no_offer a (frame_text b ++ xs) (omega (arith, frame_section b xs));
  ends = λ a xs later. no_offer a xs (omega (arith, later));
  begins = frame_section;
}

-- where the first line is an offer of another frame, no offer of this one begins the bytes
pub no_offer_read : (unit : UnitId) (number : ℕ) (offer : OfferRow) (bytes behind : List ℕ) → IsOfferRow offer → bytes ≡ offer_text offer ++ behind
    → ¬ ((offer.unit ≡ unit) × (offer.number ≡ number)) → NoOfferOf unit number bytes
no_offer_read unit number offer bytes behind h e not_so other more p u n f =
    let s = offer_cut offer other behind more h p (sym e ∙ f) in
    not_so (ap (λ (o : OfferRow). o.unit) s.row ∙ u, ap (λ (o : OfferRow). o.number) s.row ∙ n)

-- where no offer begins the bytes, none of this frame does
pub no_offer_begins : (unit : UnitId) (number : ℕ) (bytes : List ℕ) → NoneBegins offer_text IsOfferRow bytes → NoOfferOf unit number bytes
no_offer_begins unit number bytes none other more p u n f = none other more p f
