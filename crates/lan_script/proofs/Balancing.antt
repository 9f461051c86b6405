-- The balance of frames, deliveries and drops, where a frame is sent and its row is kept.
use Rattle.std.proofs.Common.{◌≡◌, ◌+◌, ◌≤◌, inl, inr, ℕ, suc, arith, Bool, true, false, true≢false, List, [], ◌∷◌, ◌++◌, append-nil, Option, Some, None, IsSome, length, length-append, map, set, slice_get, if◌then◌else◌, refl, sym, ◌∙◌, ap, subst}
use Rattle.std.proofs.lemmas.List.{append_assoc}
use Rattle.vio_num.specs.declared.names.UnitId.{UnitId}
use Rattle.vio_num.specs.declared.hypervisor.Hrc.TheVariants.{Success}
use Rattle.tce_window.specs.PortState.{PortState}
use Rattle.lan_buffers.specs.declared.answers.Deliver.{Deliver}
use Rattle.lan_buffers.specs.declared.answers.Deliver.TheVariants as sent
use Rattle.lan_switch.specs.declared.answers.Offer.{Offer}
use Rattle.lan_switch.specs.declared.answers.SendRecord.{SendRecord}
use Rattle.lan_switch.specs.declared.station.Station.{Station}
use Rattle.lan_switch.specs.Sending.{AreOffered, IsSent, LanWindows, OffersFrame, Offering, SaysFrame, code_after, is_numbered, next_name, next_number, offering, one_code as sent_code, with_frames}
use Rattle.lan_switch.specs.Switch.{AreAscending, port_of, same_unit, unit_of}
use Rattle.vio_trace.specs.declared.lan_rows.FrameRow.{FrameRow}
use Rattle.lan_script.specs.declared.seat.PortSeat.{PortSeat}
use Rattle.lan_script.specs.Delivered.{drops_in, drops_of, drops_to, given, given_in, offer_says, taken}
use Rattle.lan_script.specs.Frames.{frame_row_of, offered_as}
use Rattle.lan_script.specs.Invariant.{HaveBegun, IsBalanced, all_of, rows_at, sent_by, with_frame, with_sent}
use Rattle.lan_script.specs.Seats.{seat_at, seat_place}
use Rattle.lan_script.specs.Units.{HavePorts, port_key}
use Rattle.lan_script.proofs.Balance.{balance_seen, by_same}
use Rattle.lan_script.proofs.Blocks.{self}
use Rattle.lan_script.proofs.Gains.{AreSilent, Gains, begun_offered, gained, gained_none, gains, rows_of, told_to}
use Rattle.lan_script.proofs.Keeping.{frames_long}
use Rattle.lan_script.proofs.Keys.{port_head, port_tail}
use Rattle.lan_script.proofs.Placing.{by_bool, one_unit}
use Rattle.lan_script.proofs.Sent.{offered_few}

given_append : (v : UnitId) (xs ys : List FrameRow) → given v (xs ++ ys) ≡ given v xs ++ given v ys
given_append v [] ys = refl
given_append v (f ∷ xs) ys =
    ap (λ l. given_in v f.number (length f.bytes) f.offers ++ l) (given_append v xs ys)
    ∙ sym (append_assoc (given_in v f.number (length f.bytes) f.offers) (given v xs) (given v ys))

drops_append : (v : UnitId) (xs ys : List FrameRow) → drops_to v (xs ++ ys) ≡ drops_to v xs + drops_to v ys
drops_append v [] ys = omega arith
drops_append v (f ∷ xs) ys = omega (arith, drops_append v xs ys)

-- the frames of a sender with one more
pub with_head : (unit : UnitId) (f : FrameRow) (s : PortSeat) (seats : List PortSeat) (own : List FrameRow) (frames : List (List FrameRow))
    → same_unit s.unit unit ≡ true → with_frame unit f (s ∷ seats) (own ∷ frames) ≡ (own ++ f ∷ []) ∷ frames
with_head unit f s seats own frames e = rw e refl

pub with_tail : (unit : UnitId) (f : FrameRow) (s : PortSeat) (seats : List PortSeat) (own : List FrameRow) (frames : List (List FrameRow))
    → same_unit s.unit unit ≡ false → with_frame unit f (s ∷ seats) (own ∷ frames) ≡ own ∷ with_frame unit f seats frames
with_tail unit f s seats own frames e = rw e refl

sent_head : (u : UnitId) (s : PortSeat) (seats : List PortSeat) (own : List FrameRow) (frames : List (List FrameRow))
    → same_unit s.unit u ≡ true → sent_by (s ∷ seats) (own ∷ frames) u ≡ own
sent_head u s seats own frames e = rw e refl

sent_tail : (u : UnitId) (s : PortSeat) (seats : List PortSeat) (own : List FrameRow) (frames : List (List FrameRow))
    → same_unit s.unit u ≡ false → sent_by (s ∷ seats) (own ∷ frames) u ≡ sent_by seats frames u
sent_tail u s seats own frames e = rw e refl

-- what a frame is among those of a sender
abbrev pub one_of : UnitId → UnitId → FrameRow → List FrameRow
one_of unit sender f = if same_unit unit sender then f ∷ [] else []

one_own : (unit sender : UnitId) (f : FrameRow) → same_unit unit sender ≡ true → one_of unit sender f ≡ f ∷ []
one_own unit sender f e = rw e refl

one_other : (unit sender : UnitId) (f : FrameRow) → same_unit unit sender ≡ false → one_of unit sender f ≡ []
one_other unit sender f e = rw e refl

pub there_later : (unit : UnitId) (s : PortSeat) (seats : List PortSeat) → same_unit s.unit unit ≡ false → IsSome (seat_at (s ∷ seats) unit)
    → IsSome (seat_at seats unit)
there_later unit s seats e there = subst (λ (o : Option PortSeat). IsSome o) (tail e) there
  where
    tail : same_unit s.unit unit ≡ false → seat_at (s ∷ seats) unit ≡ seat_at seats unit
    tail g = rw g refl

pub sent_with : (unit sender : UnitId) (f : FrameRow) (seats : List PortSeat) (frames : List (List FrameRow)) → IsSome (seat_at seats unit)
    → length frames ≡ length seats → sent_by seats (with_frame unit f seats frames) sender ≡ sent_by seats frames sender ++ one_of unit sender f
sent_with unit sender f [] frames there long = absurd (cc (there))
sent_with unit sender f (s ∷ seats) [] there long = absurd (omega (arith, long))
sent_with unit sender f (s ∷ seats) (own ∷ frames) there long =
    by_bool (same_unit s.unit unit) (sent_by (s ∷ seats) (with_frame unit f (s ∷ seats) (own ∷ frames)) sender ≡ sent_by (s ∷ seats) (own ∷ frames) sender ++ one_of unit sender f)
    (λ e.
    let same : same_unit s.unit sender ≡ same_unit unit sender = ap (λ (u : UnitId). same_unit u sender) (one_unit s.unit unit e) in
    ap (λ l. sent_by (s ∷ seats) l sender) (with_head unit f s seats own frames e)
    ∙ by_bool (same_unit s.unit sender) (sent_by (s ∷ seats) ((own ++ f ∷ []) ∷ frames) sender ≡ sent_by (s ∷ seats) (own ∷ frames) sender ++ one_of unit sender f)
    (λ g. sent_head sender s seats (own ++ f ∷ []) frames g ∙ ap (λ l. own ++ l) (sym (one_own unit sender f (sym same ∙ g)))
    ∙ ap (λ l. l ++ one_of unit sender f) (sym (sent_head sender s seats own frames g)))
    (λ g. sent_tail sender s seats (own ++ f ∷ []) frames g ∙ sym (append-nil (sent_by seats frames sender))
    ∙ ap (λ l. sent_by seats frames sender ++ l) (sym (one_other unit sender f (sym same ∙ g)))
    ∙ ap (λ l. l ++ one_of unit sender f) (sym (sent_tail sender s seats own frames g))))
    (λ e.
    ap (λ l. sent_by (s ∷ seats) l sender) (with_tail unit f s seats own frames e)
    ∙ by_bool (same_unit s.unit sender) (sent_by (s ∷ seats) (own ∷ with_frame unit f seats frames) sender ≡ sent_by (s ∷ seats) (own ∷ frames) sender ++ one_of unit sender f)
    (λ g. sent_head sender s seats own (with_frame unit f seats frames) g ∙ sym (append-nil own)
    ∙ ap (λ l. own ++ l) (sym (one_other unit sender f (not_own e g)))
    ∙ ap (λ l. l ++ one_of unit sender f) (sym (sent_head sender s seats own frames g)))
    (λ g. sent_tail sender s seats own (with_frame unit f seats frames) g
    ∙ sent_with unit sender f seats frames (there_later unit s seats e there) (omega (arith, long))
    ∙ ap (λ l. l ++ one_of unit sender f) (sym (sent_tail sender s seats own frames g))))
  where
    not_own : same_unit s.unit unit ≡ false → same_unit s.unit sender ≡ true → same_unit unit sender ≡ false
    not_own e g = by_bool (same_unit unit sender) (same_unit unit sender ≡ false)
        (λ h. absurd (true≢false
        (sym (self s.unit) ∙ ap (λ (u : UnitId). same_unit s.unit u) (one_unit s.unit sender g ∙ sym (one_unit unit sender h)) ∙ e)))
        (λ h. h)

all_drops : (v unit : UnitId) (f : FrameRow) (seats : List PortSeat) (frames : List (List FrameRow)) → IsSome (seat_at seats unit)
    → length frames ≡ length seats → drops_to v (all_of (with_frame unit f seats frames)) ≡ drops_to v (all_of frames) + drops_in v f.offers
all_drops v unit f [] frames there long = absurd (cc (there))
all_drops v unit f (s ∷ seats) [] there long = absurd (omega (arith, long))
all_drops v unit f (s ∷ seats) (own ∷ frames) there long =
    by_bool (same_unit s.unit unit) (drops_to v (all_of (with_frame unit f (s ∷ seats) (own ∷ frames))) ≡ drops_to v (all_of (own ∷ frames)) + drops_in v f.offers)
    (λ e.
    ap (λ l. drops_to v (all_of l)) (with_head unit f s seats own frames e)
    ∙ omega (arith, drops_append v (own ++ f ∷ []) (all_of frames), drops_append v own (f ∷ []), drops_append v own (all_of frames)))
    (λ e.
    ap (λ l. drops_to v (all_of l)) (with_tail unit f s seats own frames e)
    ∙ omega (
      arith,
      drops_append v own (all_of (with_frame unit f seats frames)),
      drops_append v own (all_of frames),
      all_drops v unit f seats frames (there_later unit s seats e there) (omega (arith, long)),
    ))

all_long : (unit : UnitId) (f : FrameRow) (seats : List PortSeat) (frames : List (List FrameRow)) → IsSome (seat_at seats unit)
    → length frames ≡ length seats → length (all_of (with_frame unit f seats frames)) ≡ length (all_of frames) + 1
all_long unit f [] frames there long = absurd (cc (there))
all_long unit f (s ∷ seats) [] there long = absurd (omega (arith, long))
all_long unit f (s ∷ seats) (own ∷ frames) there long =
    by_bool (same_unit s.unit unit) (length (all_of (with_frame unit f (s ∷ seats) (own ∷ frames))) ≡ length (all_of (own ∷ frames)) + 1)
    (λ e.
    ap (λ l. length (all_of l)) (with_head unit f s seats own frames e)
    ∙ omega (arith, length-append (own ++ f ∷ []) (all_of frames), length-append own (f ∷ []), length-append own (all_of frames)))
    (λ e.
    ap (λ l. length (all_of l)) (with_tail unit f s seats own frames e)
    ∙ omega (
      arith,
      length-append own (all_of (with_frame unit f seats frames)),
      length-append own (all_of frames),
      all_long unit f seats frames (there_later unit s seats e there) (omega (arith, long)),
    ))

-- the frames with one more are those in which one list was changed
pub set_frame : (unit : UnitId) (f : FrameRow) (seats : List PortSeat) (frames : List (List FrameRow)) (rows : List FrameRow)
    → length frames ≡ length seats → slice_get frames (seat_place unit seats) ≡ Some rows
    → with_frame unit f seats frames ≡ set frames (seat_place unit seats) (rows ++ f ∷ [])
set_frame unit f [] [] rows long at = absurd (cc (at))
set_frame unit f [] (own ∷ frames) rows long at = absurd (omega (arith, long))
set_frame unit f (s ∷ seats) [] rows long at = absurd (omega (arith, long))
set_frame unit f (s ∷ seats) (own ∷ frames) rows long at =
    by_bool (same_unit s.unit unit) (with_frame unit f (s ∷ seats) (own ∷ frames) ≡ set (own ∷ frames) (seat_place unit (s ∷ seats)) (rows ++ f ∷ []))
    (λ e.
    with_head unit f s seats own frames e
    ∙ ap (λ (l : List FrameRow). (l ++ f ∷ []) ∷ frames) (some (ap (λ p. slice_get (own ∷ frames) p) (sym (here e)) ∙ at))
    ∙ ap (λ p. set (own ∷ frames) p (rows ++ f ∷ [])) (sym (here e)))
    (λ e.
    with_tail unit f s seats own frames e
    ∙ ap (λ l. own ∷ l) (set_frame unit f seats frames rows (omega (arith, long)) (ap (λ p. slice_get (own ∷ frames) p) (sym (later e)) ∙ at))
    ∙ ap (λ p. set (own ∷ frames) p (rows ++ f ∷ [])) (sym (later e)))
  where
    here : same_unit s.unit unit ≡ true → seat_place unit (s ∷ seats) ≡ 0
    here e = rw e refl

    later : same_unit s.unit unit ≡ false → seat_place unit (s ∷ seats) ≡ suc (seat_place unit seats)
    later e = rw e refl

    some : Some own ≡ Some rows → own ≡ rows
    some e = cc (e)

-- What is known where a frame is sent: each seat has its port and its frames, in balance, and the sender has a seat.
pub record Sends (seats : List PortSeat) (stations : List Station) (frames : List (List FrameRow)) (unit : UnitId) : Type 0 where
  pub have : HavePorts true seats (map port_key stations) frames
  pub balanced : IsBalanced seats stations frames
  pub ascending : AreAscending (map unit_of stations)
  pub there : IsSome (seat_at seats unit)

pub station_units : (whole : Bool) (seats : List PortSeat) (ss : List Station) (frames : List (List FrameRow)) → HavePorts whole seats (map port_key ss) frames
    → map unit_of ss ≡ map (λ seat. seat.unit) seats
station_units whole [] [] [] have = refl
station_units whole [] [] (f ∷ frames) have = absurd have
station_units whole [] (t ∷ ss) frames have = absurd have
station_units whole (s ∷ seats) [] frames have = absurd have
station_units whole (s ∷ seats) (t ∷ ss) [] have = absurd have
station_units whole (s ∷ seats) (t ∷ ss) (f ∷ frames) have =
    ap (λ (u : UnitId). u ∷ map unit_of ss) have.0.0.unit_is ∙ ap (λ l. s.unit ∷ l) (station_units whole seats ss frames have.1)

-- a number of frames changes no port
pub numbered_port : (unit v : UnitId) (n : ℕ) (ss : List Station) → port_of (with_frames unit n ss) v ≡ port_of ss v
numbered_port unit v n [] = refl
numbered_port unit v n (s ∷ ss) =
    by_bool (same_unit (unit_of s) unit) (port_of (with_frames unit n (s ∷ ss)) v ≡ port_of (s ∷ ss) v)
    (λ e. ap (λ l. port_of l v) (here e) ∙ same_port)
    (λ e. ap (λ l. port_of l v) (later e) ∙ by_bool (same_unit (unit_of s) v) (port_of (s ∷ with_frames unit n ss) v ≡ port_of (s ∷ ss) v)
    (λ f. port_head v s (with_frames unit n ss) f ∙ sym (port_head v s ss f))
    (λ f. port_tail v s (with_frames unit n ss) f ∙ numbered_port unit v n ss ∙ sym (port_tail v s ss f)))
  where
    here : same_unit (unit_of s) unit ≡ true → with_frames unit n (s ∷ ss) ≡ record s { frames = n } ∷ ss
    here e = rw e refl

    later : same_unit (unit_of s) unit ≡ false → with_frames unit n (s ∷ ss) ≡ s ∷ with_frames unit n ss
    later e = rw e refl

    same_port : port_of (record s { frames = n } ∷ ss) v ≡ port_of (s ∷ ss) v
    same_port = by_bool (same_unit (unit_of s) v) (port_of (record s { frames = n } ∷ ss) v ≡ port_of (s ∷ ss) v)
        (λ f. port_head v (record s { frames = n }) ss f ∙ sym (port_head v s ss f))
        (λ f. port_tail v (record s { frames = n }) ss f ∙ sym (port_tail v s ss f))

pub numbered_begun : (unit : UnitId) (n : ℕ) (ss : List Station) → HaveBegun ss → HaveBegun (with_frames unit n ss)
numbered_begun unit n [] begun = tt
numbered_begun unit n (s ∷ ss) begun =
    by_bool (same_unit (unit_of s) unit) (HaveBegun (with_frames unit n (s ∷ ss)))
    (λ e. subst HaveBegun (sym (here e)) begun)
    (λ e. subst HaveBegun (sym (later e)) (begun.0, numbered_begun unit n ss begun.1))
  where
    here : same_unit (unit_of s) unit ≡ true → with_frames unit n (s ∷ ss) ≡ record s { frames = n } ∷ ss
    here e = rw e refl

    later : same_unit (unit_of s) unit ≡ false → with_frames unit n (s ∷ ss) ≡ s ∷ with_frames unit n ss
    later e = rw e refl

numbered_balance : (seats : List PortSeat) (frames : List (List FrameRow)) (unit : UnitId) (n : ℕ) (ss : List Station) → IsBalanced seats ss frames
    → IsBalanced seats (with_frames unit n ss) frames
numbered_balance seats frames unit n ss is =
    balance_seen seats frames ss (with_frames unit n ss) (numbered_begun unit n ss is.begun)
    (λ v. by_same ss (with_frames unit n ss) v (numbered_port unit v n ss)) is

-- a frame that was offered, and its row
grown : (seats : List PortSeat) (old new : List Station) (frames : List (List FrameRow)) (o : Offering) (offers : List Offer) (f : FrameRow)
    → IsSome (seat_at seats o.name.who) → length frames ≡ length seats → IsBalanced seats old frames → HaveBegun new
    → ((v : UnitId) → Gains o old new offers v) → f.number ≡ o.name.mark → f.bytes ≡ o.frame → f.offers ≡ rows_of o offers
    → IsBalanced seats new (with_frame o.name.who f seats frames)
grown seats old new frames o offers f there long is begun g number bytes rows = record {
  begun = begun;
  delivered = λ sender v.
      (g v).rows sender ∙ ap (λ l. l ++ gained o sender v offers) (is.delivered sender v)
      ∙ ap (λ l. given v (sent_by seats frames sender) ++ l) (says sender v)
      ∙ sym (given_append v (sent_by seats frames sender) (one_of o.name.who sender f))
      ∙ ap (λ l. given v l) (sym (sent_with o.name.who sender f seats frames there long));
  few = λ v. omega (
    arith,
    is.few v,
    (g v).few,
    ap (λ l. drops_in v l) rows,
    all_drops v o.name.who f seats frames there long,
    all_long o.name.who f seats frames there long,
  );
  dropped = λ v less.
      let more = all_drops v o.name.who f seats frames there long in
      let same : drops_in v f.offers ≡ drops_in v (rows_of o offers) = ap (λ l. drops_in v l) rows in
      let was = is.dropped v (omega (arith, less, more)) in
      omega (arith, more, same, was, (g v).drops (omega (arith, less, more, same, was)));
}
  where
    told : (v : UnitId) → given_in v f.number (length f.bytes) f.offers ≡ told_to o v offers
    told v =
        ap (λ n. given_in v n (length f.bytes) f.offers) number ∙ ap (λ (b : List ℕ). given_in v o.name.mark (length b) f.offers) bytes
        ∙ ap (λ l. given_in v o.name.mark (length o.frame) l) rows

    says : (sender v : UnitId) → gained o sender v offers ≡ given v (one_of o.name.who sender f)
    says sender v = by (same_unit o.name.who sender)
      where
        by : (b : Bool) → (if b then told_to o v offers else []) ≡ given v (if b then f ∷ [] else [])
        by true = sym (told v) ∙ sym (append-nil (given_in v f.number (length f.bytes) f.offers))
        by false = refl

-- offers that are no delivery and no drop
quiet : (seats : List PortSeat) (old new : List Station) (frames : List (List FrameRow)) (o : Offering) (offers : List Offer)
    → IsBalanced seats old frames → HaveBegun new → ((v : UnitId) → Gains o old new offers v) → ((v : UnitId) → AreSilent o v offers)
    → IsBalanced seats new frames
quiet seats old new frames o offers is begun g silent = record {
  begun = begun;
  delivered = λ sender v.
      (g v).rows sender ∙ ap (λ l. taken sender (rows_at old v) ++ l) (gained_none o sender v offers (silent v).rows)
      ∙ append-nil (taken sender (rows_at old v)) ∙ is.delivered sender v;
  few = is.few;
  dropped = λ v less.
      let was = is.dropped v less in
      omega (arith, was, (silent v).drops, (g v).drops (omega (arith, less, was, (silent v).drops)));
}

-- an answer of a busy port is no delivery and no drop
record IsNothing (mark len : ℕ) (answer : Deliver) : Type 0 where
  pub says : offer_says mark len (offered_as answer) ≡ []
  pub drops : drops_of (offered_as answer) ≡ 0

busy_nothing : (mark len : ℕ) (answer : Deliver) → is_numbered (code_after answer) ≡ false → IsNothing mark len answer
busy_nothing mark len (sent.Done post) e = absurd (cc (e))
busy_nothing mark len (sent.Ungranted post fault) e = absurd (cc (e))
busy_nothing mark len sent.NoSize e = absurd (cc (e))
busy_nothing mark len sent.NoBuffer e = absurd (cc (e))
busy_nothing mark len (sent.Turn word) e = record { says = refl; drops = refl }
busy_nothing mark len (sent.InUse page word) e = record { says = refl; drops = refl }
busy_nothing mark len (sent.Closed control) e = absurd (cc (e))
busy_nothing mark len sent.NoMemory e = absurd (cc (e))

busy_silent : (o : Offering) (v : UnitId) (offers : List Offer) → is_numbered (sent_code offers) ≡ false → length offers ≤ 1 → AreSilent o v offers
busy_silent o v [] e few = absurd (cc (e))
busy_silent o v (offer ∷ next ∷ offers) e few = absurd (omega (arith, few))
busy_silent o v (offer ∷ []) e few =
    by_bool (same_unit offer.unit v) (AreSilent o v (offer ∷ []))
    (λ f.
    let nothing = busy_nothing o.name.mark (length o.frame) offer.answer e in
    record { rows = own_told f ∙ ap (λ l. l ++ []) nothing.says; drops = omega (arith, own_drops f, nothing.drops) })
    (λ f. record { rows = other_told f; drops = other_drops f })
  where
    own_told : same_unit offer.unit v ≡ true → told_to o v (offer ∷ []) ≡ offer_says o.name.mark (length o.frame) (offered_as offer.answer) ++ []
    own_told f = rw f refl

    own_drops : same_unit offer.unit v ≡ true → drops_in v (rows_of o (offer ∷ [])) ≡ drops_of (offered_as offer.answer) + 0
    own_drops f = rw f refl

    other_told : same_unit offer.unit v ≡ false → told_to o v (offer ∷ []) ≡ []
    other_told f = rw f refl

    other_drops : same_unit offer.unit v ≡ false → drops_in v (rows_of o (offer ∷ [])) ≡ 0
    other_drops f = rw f refl

-- A frame that was sent leaves the balance, with its row where it has a number.
balanced_frame : (seats : List PortSeat) (ss ss' : List Station) (frames : List (List FrameRow)) (unit : UnitId) (parts : List ℕ)
    (window window' : PortState) (windows : LanWindows) (r : SendRecord) → Sends seats ss frames unit
    → OffersFrame ss ss' unit parts window window' windows r → IsBalanced seats ss' (with_sent unit r r.frame seats frames)
balanced_frame seats ss ss' frames unit parts window window' windows r sends h = by (is_numbered r.code) refl
  where
    o : Offering
    o = offering (next_name ss unit) h.frame windows

    long : length frames ≡ length seats
    long = frames_long true seats (map port_key ss) frames sends.have

    begun : HaveBegun h.answered.mid
    begun = begun_offered o h.answered.out.all ss h.answered.mid r.offers.items h.answered.out.offered sends.balanced.begun

    gain : (v : UnitId) → Gains o ss h.answered.mid r.offers.items v
    gain v = gains o h.answered.out.all ss h.answered.mid r.offers.items v h.answered.out.offered sends.ascending sends.balanced.begun

    busy : (all : Bool) → h.answered.out.all ≡ all → is_numbered r.code ≡ false → (v : UnitId) → AreSilent o v r.offers.items
    busy true e f v = absurd (true≢false (ap is_numbered (sym (h.answered.code ∙ ap (λ b. if b then Success else sent_code r.offers.items) e)) ∙ f))
    busy false e f v =
        busy_silent o v r.offers.items
        (ap is_numbered (sym (h.answered.code ∙ ap (λ b. if b then Success else sent_code r.offers.items) e)) ∙ f)
        (offered_few o ss h.answered.mid r.offers.items (subst (λ b. AreOffered o b ss h.answered.mid r.offers.items) e h.answered.out.offered))

    by : (b : Bool) → is_numbered r.code ≡ b → IsBalanced seats ss' (with_sent unit r r.frame seats frames)
    by true e =
        let says : SaysFrame true (next_number ss unit) h.pieces h.frame r = subst (λ b. SaysFrame b (next_number ss unit) h.pieces h.frame r) e h.answered.says in
        let rest : ss' ≡ with_frames unit (next_number ss unit) h.answered.mid =
        h.answered.rest ∙ ap (λ b. if b then with_frames unit (next_number ss unit) h.answered.mid else h.answered.mid) e in
        subst (λ (x : Option ℕ). IsBalanced seats ss' (with_sent unit r x seats frames)) (sym says.0)
        (subst (λ (l : List Station). IsBalanced seats l (with_frame unit (frame_row_of unit (next_number ss unit) r) seats frames)) (sym rest)
        (numbered_balance seats (with_frame unit (frame_row_of unit (next_number ss unit) r) seats frames) unit (next_number ss unit) h.answered.mid
        (grown seats ss h.answered.mid frames o r.offers.items (frame_row_of unit (next_number ss unit) r) sends.there long sends.balanced begun gain refl says.2 refl)))
    by false e =
        let says : SaysFrame false (next_number ss unit) h.pieces h.frame r = subst (λ b. SaysFrame b (next_number ss unit) h.pieces h.frame r) e h.answered.says in
        let rest : ss' ≡ h.answered.mid =
        h.answered.rest ∙ ap (λ b. if b then with_frames unit (next_number ss unit) h.answered.mid else h.answered.mid) e in
        subst (λ (x : Option ℕ). IsBalanced seats ss' (with_sent unit r x seats frames)) (sym says.0)
        (subst (λ (l : List Station). IsBalanced seats l frames) (sym rest)
        (quiet seats ss h.answered.mid frames o r.offers.items sends.balanced begun gain (busy h.answered.out.all refl e)))

-- where nothing was offered
balanced_none : (seats : List PortSeat) (ss ss' : List Station) (frames : List (List FrameRow)) (unit : UnitId) (r : SendRecord) → IsBalanced seats ss frames
    → ss' ≡ ss → r.frame ≡ None → IsBalanced seats ss' (with_sent unit r r.frame seats frames)
balanced_none seats ss ss' frames unit r is same none =
    subst (λ (x : Option ℕ). IsBalanced seats ss' (with_sent unit r x seats frames)) (sym none)
    (subst (λ (l : List Station). IsBalanced seats l frames) (sym same) is)

-- What a send that was answered leaves.
pub balanced_sent : (seats : List PortSeat) (ss ss' : List Station) (frames : List (List FrameRow)) (unit : UnitId) (parts : List ℕ) (is_shared : Bool)
    (Found : ℕ → ℕ → Type 0) (window window' : PortState) (windows : LanWindows) (r : SendRecord) → Sends seats ss frames unit
    → IsSent ss ss' unit parts is_shared Found window window' windows r → IsBalanced seats ss' (with_sent unit r r.frame seats frames)
balanced_sent seats ss ss' frames unit parts is_shared Found window window' windows r sends (inl (h, beside)) =
    balanced_none seats ss ss' frames unit r sends.balanced h.stays h.says.frame
balanced_sent seats ss ss' frames unit parts is_shared Found window window' windows r sends (inr (inl (h, beside))) =
    balanced_none seats ss ss' frames unit r sends.balanced h.stays h.says.frame
balanced_sent seats ss ss' frames unit parts is_shared Found window window' windows r sends (inr (inr h)) =
    balanced_frame seats ss ss' frames unit parts window window' windows r sends h
