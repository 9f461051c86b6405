-- What a send leaves of what frames and deliveries carry.
use Rattle.std.proofs.Common.{◌≡◌, ◌≤◌, ◌⊎◌, inl, inr, ℕ, suc, arith, Bool, true, false, true≢false, All, List, [], ◌∷◌, ◌++◌, Option, Some, None, IsSome, length, map, if◌then◌else◌, refl, sym, ◌∙◌, ap, subst}
use Rattle.std.specs.List.{Contains}
use Rattle.std.proofs.lemmas.List.Elements.{All-append, All-cons, All-nil, All-head, All-tail, Contains-append_cases, Contains-append_left, Contains-append_right}
use Rattle.vio_num.specs.declared.names.UnitId.{UnitId}
use Rattle.vio_num.specs.declared.hypervisor.Hrc.TheVariants.{Success}
use Rattle.tce_window.specs.Moved.{IsReadFrom}
use Rattle.tce_window.specs.PlainPort.{known_of}
use Rattle.tce_window.specs.PortState.{PortState}
use Rattle.tce_window.specs.Window.{WindowValue}
use Rattle.tce_window.specs.declared.piece.Piece.{Piece}
use Rattle.rdma_copy.specs.Copy.{Side, side}
use Rattle.unit_region.specs.Kept.{KeepsWindow, LaysOwnAll}
use Rattle.lan_buffers.specs.Buffer.{buffer_address, is_valid}
use Rattle.lan_buffers.specs.declared.answers.Deliver.{Deliver}
use Rattle.lan_buffers.specs.declared.answers.Deliver.TheVariants as sent
use Rattle.lan_switch.specs.declared.answers.Offer.{Offer}
use Rattle.lan_switch.specs.declared.answers.SendRecord.{SendRecord}
use Rattle.lan_switch.specs.declared.source.TheConstants.{MOST_PARTS}
use Rattle.lan_switch.specs.declared.station.Station.{Station}
use Rattle.lan_switch.specs.Sending.{IsSent, LanWindows, OffersFrame, Offering, SaysFrame, code_after, is_numbered, next_name, next_number, offering, one_code as sent_code, windows_of, with_frames}
use Rattle.lan_switch.specs.Source.{AreRead, parts_of}
use Rattle.lan_switch.specs.Switch.{port_of, same_unit}
use Rattle.vio_trace.specs.declared.lan_rows.FrameRow.{FrameRow}
use Rattle.lan_script.specs.Carried.{AreReadFrom, IsRead}
use Rattle.lan_script.specs.Frames.{frame_row_of, offered_as, piece_row_of}
use Rattle.lan_script.specs.Invariant.{CarryAll, all_of, posts_at, posted_in, rows_at, rows_in, side_in, with_frame, with_sent}
use Rattle.lan_script.specs.Seats.{seat_at}
use Rattle.lan_script.specs.Units.{is_decided, port_key}
use Rattle.lan_script.specs.Windows.{FoundIn, HasPlace, facts_in, named_in, window_in, with_window}
use Rattle.lan_script.specs.declared.seat.PortSeat.{PortSeat}
use Rattle.lan_script.specs.declared.windows.Place.{Place}
use Rattle.lan_script.proofs.Balancing.{Sends, numbered_port, there_later, with_head, with_tail}
use Rattle.lan_script.proofs.Blocks.{self}
use Rattle.lan_script.proofs.Bringing.{Brings, brings, brought, left_alone}
use Rattle.lan_script.proofs.CarriedOn.{named_as, side_beside, side_kept, side_there}
use Rattle.lan_script.proofs.Carrying.{Gathers, all_read, gathered, gathers_own}
use Rattle.lan_script.proofs.Filling.{HasFrame}
use Rattle.lan_script.proofs.Keeping.{frames_long}
use Rattle.lan_script.proofs.Placing.{by_bool, window_beside, window_with}
use Rattle.lan_script.proofs.Sent.{IsDecided, offered_decided}

-- frames with one more
frames_grow : (unit : UnitId) (f x : FrameRow) (seats : List PortSeat) (frames : List (List FrameRow)) → length frames ≡ length seats
    → Contains (all_of frames) x → Contains (all_of (with_frame unit f seats frames)) x
frames_grow unit f x [] frames long has = has
frames_grow unit f x (s ∷ seats) [] long has = absurd (omega (arith, long))
frames_grow unit f x (s ∷ seats) (own ∷ frames) long has =
    by_bool (same_unit s.unit unit) (Contains (all_of (with_frame unit f (s ∷ seats) (own ∷ frames))) x)
    (λ e. subst (λ (l : List (List FrameRow)). Contains (all_of l) x) (sym (with_head unit f s seats own frames e)) (here (Contains-append_cases own (all_of frames) x has)))
    (λ e.
    subst (λ (l : List (List FrameRow)). Contains (all_of l) x) (sym (with_tail unit f s seats own frames e))
    (later (λ h. frames_grow unit f x seats frames (omega (arith, long)) h) (Contains-append_cases own (all_of frames) x has)))
  where
    here : Contains own x ⊎ Contains (all_of frames) x → Contains ((own ++ f ∷ []) ++ all_of frames) x
    here (inl h) = Contains-append_left (own ++ f ∷ []) (all_of frames) x (Contains-append_left own (f ∷ []) x h)
    here (inr h) = Contains-append_right (own ++ f ∷ []) (all_of frames) x h

    later : (Contains (all_of frames) x → Contains (all_of (with_frame unit f seats frames)) x) → Contains own x ⊎ Contains (all_of frames) x
        → Contains (own ++ all_of (with_frame unit f seats frames)) x
    later rest (inl h) = Contains-append_left own (all_of (with_frame unit f seats frames)) x h
    later rest (inr h) = Contains-append_right own (all_of (with_frame unit f seats frames)) x (rest h)

-- the new one is among them
frame_there : (unit : UnitId) (f : FrameRow) (seats : List PortSeat) (frames : List (List FrameRow)) → length frames ≡ length seats
    → IsSome (seat_at seats unit) → Contains (all_of (with_frame unit f seats frames)) f
frame_there unit f [] frames long there = absurd (cc (there))
frame_there unit f (s ∷ seats) [] long there = absurd (omega (arith, long))
frame_there unit f (s ∷ seats) (own ∷ frames) long there =
    by_bool (same_unit s.unit unit) (Contains (all_of (with_frame unit f (s ∷ seats) (own ∷ frames))) f)
    (λ e.
    subst (λ (l : List (List FrameRow)). Contains (all_of l) f) (sym (with_head unit f s seats own frames e))
    (Contains-append_left (own ++ f ∷ []) (all_of frames) f (Contains-append_right own (f ∷ []) f (0, omega arith, refl))))
    (λ e.
    subst (λ (l : List (List FrameRow)). Contains (all_of l) f) (sym (with_tail unit f s seats own frames e))
    (Contains-append_right own (all_of (with_frame unit f seats frames)) f
    (frame_there unit f seats frames (omega (arith, long)) (there_later unit s seats e there))))

-- what is so of all is so of each part
front : {X : Type 0} (P : X → Type 0) (xs ys : List X) → All P (xs ++ ys) → All P xs
front P [] ys h = All-nil P
front P (x ∷ xs) ys h = All-cons P x xs (All-head P x (xs ++ ys) h) (front P xs ys (All-tail P x (xs ++ ys) h))

back : {X : Type 0} (P : X → Type 0) (xs ys : List X) → All P (xs ++ ys) → All P ys
back P [] ys h = h
back P (x ∷ xs) ys h = back P xs ys (All-tail P x (xs ++ ys) h)

-- what is so of the frames and of the new one is so of all
frames_all : (P : FrameRow → Type 0) (unit : UnitId) (f : FrameRow) (seats : List PortSeat) (frames : List (List FrameRow)) → length frames ≡ length seats
    → All P (all_of frames) → P f → All P (all_of (with_frame unit f seats frames))
frames_all P unit f [] frames long all new = all
frames_all P unit f (s ∷ seats) [] long all new = absurd (omega (arith, long))
frames_all P unit f (s ∷ seats) (own ∷ frames) long all new =
    by_bool (same_unit s.unit unit) (All P (all_of (with_frame unit f (s ∷ seats) (own ∷ frames))))
    (λ e.
    subst (λ (l : List (List FrameRow)). All P (all_of l)) (sym (with_head unit f s seats own frames e))
    (All-append P (own ++ f ∷ []) (all_of frames) (All-append P own (f ∷ []) (front P own (all_of frames) all) (All-cons P f [] new (All-nil P)))
    (back P own (all_of frames) all)))
    (λ e.
    subst (λ (l : List (List FrameRow)). All P (all_of l)) (sym (with_tail unit f s seats own frames e))
    (All-append P own (all_of (with_frame unit f seats frames)) (front P own (all_of frames) all)
    (frames_all P unit f seats frames (omega (arith, long)) (back P own (all_of frames) all) new)))

-- the parts of a frame that was read
parts_read : (u : UnitId) (old new : PortState) (parts : List ℕ) (pieces : List Piece) (bytes : List ℕ) → old.place.unit ≡ u → AreRead old new parts pieces bytes
    → AreReadFrom (side u new.values new.strokes) (map buffer_address parts) pieces bytes
parts_read u old new [] pieces bytes own h = h
parts_read u old new (part ∷ parts) pieces bytes own (first, later, cut, front, rest, joined, long, reads, behind) = (
  first,
  later,
  cut,
  front,
  rest,
  joined,
  subst (λ (x : UnitId). IsReadFrom x new.values new.strokes (buffer_address part) first front) own reads.read,
  parts_read u old new parts later rest own behind,
)

addresses_few : (parts : List ℕ) → length (map buffer_address parts) ≡ length parts
addresses_few [] = refl
addresses_few (part ∷ parts) = ap suc (addresses_few parts)

pub parts_few : (descriptors : List ℕ) → length (parts_of descriptors) ≤ length descriptors
parts_few [] = omega arith
parts_few (descriptor ∷ descriptors) = by (is_valid descriptor) (parts_few descriptors)
  where
    by : (b : Bool) → length (parts_of descriptors) ≤ length descriptors
        → length (if b then descriptor ∷ parts_of descriptors else []) ≤ length (descriptor ∷ descriptors)
    by true rest = omega (arith, rest)
    by false rest = omega arith

-- an offer that was decided gives its frame a number
decided_numbered : (answer : Deliver) → is_decided (offered_as answer) ≡ true → is_numbered (code_after answer) ≡ true
decided_numbered (sent.Done post) e = refl
decided_numbered (sent.Ungranted post fault) e = refl
decided_numbered sent.NoSize e = refl
decided_numbered sent.NoBuffer e = refl
decided_numbered (sent.Turn word) e = absurd (cc (e))
decided_numbered (sent.InUse page word) e = absurd (cc (e))
decided_numbered (sent.Closed control) e = absurd (cc (e))
decided_numbered sent.NoMemory e = absurd (cc (e))

one_numbered : (offers : List Offer) → All IsDecided offers → is_numbered (sent_code offers) ≡ true
one_numbered [] all = refl
one_numbered (offer ∷ offers) all = decided_numbered offer.answer (All-head IsDecided offer offers all)

-- What is known of the windows of a send: the sender's was taken, read through and put back, and the others were lent.
pub record IsLending (unit : UnitId) (ps ps₁ ps₂ ps₃ : List Place) (own own' : WindowValue) : Type 0 where
  pub at : window_in unit ps ≡ Some own
  pub named : own.unit ≡ unit
  pub away : ps₁ ≡ with_window unit None ps
  pub back : ps₃ ≡ with_window unit (Some own') ps₂
  pub place : HasPlace unit ps₂
  pub keeps : KeepsWindow false (known_of own) (known_of own')

-- the windows of all units after a send, where its offers did this at each
lent : (unit : UnitId) (ps ps₁ ps₂ ps₃ : List Place) (own own' : WindowValue) (ss ss' : List Station) (frames : List FrameRow) → IsLending unit ps ps₁ ps₂ ps₃ own own'
    → port_of ss' unit ≡ port_of ss unit
    → ((v : UnitId) → Gathers (side_in ps₁ v) (side_in ps₂ v) (posts_at ss v) (posts_at ss' v) (rows_at ss v) (rows_at ss' v) frames)
    → (v : UnitId) → Gathers (side_in ps v) (side_in ps₃ v) (posts_at ss v) (posts_at ss' v) (rows_at ss v) (rows_at ss' v) frames
lent unit ps ps₁ ps₂ ps₃ own own' ss ss' frames h port did v =
    by_bool (same_unit v unit) (Gathers (side_in ps v) (side_in ps₃ v) (posts_at ss v) (posts_at ss' v) (rows_at ss v) (rows_at ss' v) frames)
    (λ e. named_as (λ (u : UnitId). Gathers (side_in ps u) (side_in ps₃ u) (posts_at ss u) (posts_at ss' u) (rows_at ss u) (rows_at ss' u) frames) v unit e here)
    (λ e.
    subst (λ (w : Side). Gathers w (side_in ps₃ v) (posts_at ss v) (posts_at ss' v) (rows_at ss v) (rows_at ss' v) frames)
    (side_beside v ps₁ ps (ap (λ l. window_in v l) h.away ∙ window_beside unit v None ps e))
    (subst (λ (w : Side). Gathers (side_in ps₁ v) w (posts_at ss v) (posts_at ss' v) (rows_at ss v) (rows_at ss' v) frames)
    (side_beside v ps₂ ps₃ (sym (ap (λ l. window_in v l) h.back ∙ window_beside unit v (Some own') ps₂ e))) (did v)))
  where
    there : window_in unit ps₃ ≡ Some own'
    there = ap (λ l. window_in unit l) h.back ∙ window_with unit (Some own') ps₂ h.place

    lays : LaysOwnAll unit (known_of own).strokes (known_of own').strokes
    lays = subst (λ (u : UnitId). LaysOwnAll u (known_of own).strokes (known_of own').strokes) h.named (h.keeps.own refl)

    here : Gathers (side_in ps unit) (side_in ps₃ unit) (posts_at ss unit) (posts_at ss' unit) (rows_at ss unit) (rows_at ss' unit) frames
    here =
        subst (λ (w : Side). Gathers w (side_in ps₃ unit) (posts_at ss unit) (posts_at ss' unit) (rows_at ss unit) (rows_at ss' unit) frames) (sym (side_there unit ps own h.at))
        (subst (λ (w : Side). Gathers (side unit (known_of own).values (known_of own).strokes) w (posts_at ss unit) (posts_at ss' unit) (rows_at ss unit) (rows_at ss' unit) frames)
        (sym (side_there unit ps₃ own' there))
        (gathers_own (side unit (known_of own).values (known_of own).strokes) (side unit (known_of own').values (known_of own').strokes) (posts_at ss unit) (posts_at ss' unit)
        (rows_at ss unit) (rows_at ss' unit) frames (side_kept unit own own' h.keeps) lays
        (λ post has. subst (λ o. Contains (posted_in unit o) post) (sym port) has) (ap (λ o. rows_in unit o) port)))

-- nothing was offered
carried_rest : (seats : List PortSeat) (unit : UnitId) (ps ps₁ ps₂ ps₃ : List Place) (own own' : WindowValue) (ss ss' : List Station) (frames : List (List FrameRow))
    → IsLending unit ps ps₁ ps₂ ps₃ own own' → ss' ≡ ss → facts_in ps₂ ≡ facts_in ps₁ → CarryAll ss ps frames → CarryAll ss' ps₃ frames
carried_rest seats unit ps ps₁ ps₂ ps₃ own own' ss ss' frames h same beside is =
    gathered (side_in ps) (side_in ps₃) (posts_at ss) (posts_at ss') (rows_at ss) (rows_at ss') (all_of frames) (all_of frames) is step (λ frame has. has)
    (all_read (side_in ps) (side_in ps₃) (all_of frames) (λ v. (step v).grows) is.read)
  where
    o : Offering
    o = offering (record { who = unit; mark = 0 }) [] (windows_of false facts_in FoundIn ps₁ ps₂)

    step : (v : UnitId) → Gathers (side_in ps v) (side_in ps₃ v) (posts_at ss v) (posts_at ss' v) (rows_at ss v) (rows_at ss' v) (all_of frames)
    step v = lent unit ps ps₁ ps₂ ps₃ own own' ss ss' (all_of frames) h (ap (λ l. port_of l unit) same)
        (λ u. left_alone o ss ss' (all_of frames) u (ap (λ f. f u) beside) (ap (λ l. port_of l u) same)) v

-- the frame was offered
carried_frame : (seats : List PortSeat) (unit : UnitId) (parts : List ℕ) (ps ps₁ ps₂ ps₃ : List Place) (own own' : WindowValue) (ss ss' : List Station)
    (frames : List (List FrameRow)) (r : SendRecord) → IsLending unit ps ps₁ ps₂ ps₃ own own' → Sends seats ss frames unit → length (parts_of parts) ≤ MOST_PARTS
    → OffersFrame ss ss' unit parts (known_of own) (known_of own') (windows_of false facts_in FoundIn ps₁ ps₂) r → CarryAll ss ps frames
    → CarryAll ss' ps₃ (with_sent unit r r.frame seats frames)
carried_frame seats unit parts ps ps₁ ps₂ ps₃ own own' ss ss' frames r lends sends few h is =
    subst (λ (x : Option ℕ). CarryAll ss' ps₃ (with_sent unit r x seats frames)) (sym says.0)
    (gathered (side_in ps) (side_in ps₃) (posts_at ss) (posts_at ss') (rows_at ss) (rows_at ss') (all_of frames) (all_of (with_frame unit f seats frames)) is step
    (λ x has. frames_grow unit f x seats frames long has)
    (frames_all (λ x. IsRead (side_in ps₃ x.unit) x) unit f seats frames long
    (all_read (side_in ps) (side_in ps₃) (all_of frames) (λ v. (step v).grows) is.read) read))
  where
    windows : LanWindows
    windows = windows_of false facts_in FoundIn ps₁ ps₂

    n : ℕ
    n = next_number ss unit

    f : FrameRow
    f = frame_row_of unit n r

    o : Offering
    o = offering (next_name ss unit) h.frame windows

    mid : List Station
    mid = h.answered.mid

    numbered : is_numbered r.code ≡ true
    numbered = ap is_numbered h.answered.code ∙ by h.answered.out.all
        (one_numbered r.offers.items (offered_decided o h.answered.out.all ss mid r.offers.items refl h.answered.out.offered))
      where
        by : (all : Bool) → is_numbered (sent_code r.offers.items) ≡ true → is_numbered (if all then Success else sent_code r.offers.items) ≡ true
        by true e = refl
        by false e = e

    says : SaysFrame true n h.pieces h.frame r
    says = subst (λ b. SaysFrame b n h.pieces h.frame r) numbered h.answered.says

    rest : ss' ≡ with_frames unit n mid
    rest = h.answered.rest ∙ ap (λ b. if b then with_frames unit n mid else mid) numbered

    long : length frames ≡ length seats
    long = frames_long true seats (map port_key ss) frames sends.have

    has : HasFrame o (all_of (with_frame unit f seats frames))
    has = record { frame = f; there = frame_there unit f seats frames long sends.there; unit = refl; number = refl; bytes = says.2 }

    port : (v : UnitId) → port_of ss' v ≡ port_of mid v
    port v = ap (λ l. port_of l v) rest ∙ numbered_port unit v n mid

    brings_at : (v : UnitId) → Brings o ss mid r.offers.items v
    brings_at v = brings o h.answered.out.all ss mid r.offers.items v h.answered.out.offered sends.ascending

    own_port : Brings o ss mid r.offers.items unit → port_of mid unit ≡ port_of ss unit
    own_port (inl b) = absurd (true≢false (sym (self unit) ∙ b.other))
    own_port (inr b) = b.same

    did : (v : UnitId) → Gathers (side_in ps₁ v) (side_in ps₂ v) (posts_at ss v) (posts_at ss' v) (rows_at ss v) (rows_at ss' v) (all_of (with_frame unit f seats frames))
    did v =
        subst (λ x. Gathers (side_in ps₁ v) (side_in ps₂ v) (posts_at ss v) (posted_in v x) (rows_at ss v) (rows_in v x) (all_of (with_frame unit f seats frames))) (sym (port v))
        (brought o ss mid r.offers.items (all_of (with_frame unit f seats frames)) v refl (named_in ps₁ v) sends.balanced.begun h.answered.out.beside has (brings_at v))

    step : (v : UnitId)
        → Gathers (side_in ps v) (side_in ps₃ v) (posts_at ss v) (posts_at ss' v) (rows_at ss v) (rows_at ss' v) (all_of (with_frame unit f seats frames))
    step v = lent unit ps ps₁ ps₂ ps₃ own own' ss ss' (all_of (with_frame unit f seats frames)) lends (port unit ∙ own_port (brings_at unit)) did v

    there : window_in unit ps₃ ≡ Some own'
    there = ap (λ l. window_in unit l) lends.back ∙ window_with unit (Some own') ps₂ lends.place

    read : IsRead (side_in ps₃ unit) f
    read = subst (λ (w : Side). IsRead w f) (sym (side_there unit ps₃ own' there)) (record {
      addresses = map buffer_address (parts_of parts);
      few = omega (arith, few, addresses_few (parts_of parts));
      pieces = h.pieces;
      shown = ap (λ (l : List Piece). map piece_row_of l) says.1;
      read = subst (λ (b : List ℕ). AreReadFrom (side unit (known_of own').values (known_of own').strokes) (map buffer_address (parts_of parts)) h.pieces b) (sym says.2)
          (parts_read unit (known_of own) (known_of own') (parts_of parts) h.pieces h.frame lends.named h.source.read);
    })

-- What a send that was answered leaves.
pub carried_sent : (seats : List PortSeat) (unit : UnitId) (parts : List ℕ) (ps ps₁ ps₂ ps₃ : List Place) (own own' : WindowValue) (ss ss' : List Station)
    (frames : List (List FrameRow)) (Found : ℕ → ℕ → Type 0) (r : SendRecord) → IsLending unit ps ps₁ ps₂ ps₃ own own' → Sends seats ss frames unit
    → length (parts_of parts) ≤ MOST_PARTS
    → IsSent ss ss' unit parts false Found (known_of own) (known_of own') (windows_of false facts_in FoundIn ps₁ ps₂) r → CarryAll ss ps frames
    → CarryAll ss' ps₃ (with_sent unit r r.frame seats frames)
carried_sent seats unit parts ps ps₁ ps₂ ps₃ own own' ss ss' frames Found r lends sends few (inl (h, beside)) is =
    subst (λ (x : Option ℕ). CarryAll ss' ps₃ (with_sent unit r x seats frames)) (sym h.says.frame)
    (carried_rest seats unit ps ps₁ ps₂ ps₃ own own' ss ss' frames lends h.stays beside is)
carried_sent seats unit parts ps ps₁ ps₂ ps₃ own own' ss ss' frames Found r lends sends few (inr (inl (h, beside))) is =
    subst (λ (x : Option ℕ). CarryAll ss' ps₃ (with_sent unit r x seats frames)) (sym h.says.frame)
    (carried_rest seats unit ps ps₁ ps₂ ps₃ own own' ss ss' frames lends h.stays beside is)
carried_sent seats unit parts ps ps₁ ps₂ ps₃ own own' ss ss' frames Found r lends sends few (inr (inr h)) is =
    carried_frame seats unit parts ps ps₁ ps₂ ps₃ own own' ss ss' frames r lends sends few h is
