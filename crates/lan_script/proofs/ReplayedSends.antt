-- What a frame that is sent says in its port's replay.
use Rattle.std.proofs.Common.{◌≡◌, ◌==◌, ◌⊎◌, ◌+◌, ◌*◌, ◌/◌, ◌%◌, ◌<◌, ◌≤◌, inl, inr, ℕ, zero, suc, arith, Bool, true, false, IfOk, IfSome, IsSome, List, [], ◌∷◌, ◌++◌, Option, Some, None, Result, Ok, Err, length, map, slice_get, slice_index, if◌then◌else◌, refl, sym, ◌∙◌, ap, subst}
use Rattle.std.proofs.lemmas.Bool.{eq-eqb, eqb-false, eqb-true}
use Rattle.std.proofs.lemmas.List.{append-nil, length-map}
use Rattle.vio_num.specs.declared.hypervisor.Hrc.{Hrc}
use Rattle.vio_num.specs.declared.hypervisor.Hrc.TheVariants.{Success, Parameter, Dropped}
use Rattle.vio_num.specs.declared.names.UnitId.{UnitId}
use Rattle.tce_window.specs.declared.answers.HoldFault.{HoldFault}
use Rattle.tce_window.specs.declared.answers.HoldFault.TheVariants.{Past, NotGranted, InUse}
use Rattle.tce_window.specs.declared.answers.Right.TheVariants.{Read}
use Rattle.tce_window.specs.PlainPort.{known_of}
use Rattle.tce_window.specs.Window.{WindowValue}
use Rattle.tce_window.specs.declared.piece.Piece.{Piece}
use Rattle.lan_buffers.specs.Buffer.{buffer_address, buffer_len}
use Rattle.lan_buffers.specs.Port.{PortValue}
use Rattle.tce_window.specs.Pieces.{IsRefused, IsSharedUse, Lacks}
use Rattle.lan_buffers.specs.declared.answers.Deliver.{Deliver}
use Rattle.lan_buffers.specs.declared.answers.Deliver.TheVariants as sent
use Rattle.lan_frame.specs.Station.{IsGroup}
use Rattle.lan_switch.specs.declared.answers.Offer.{Offer}
use Rattle.lan_switch.specs.declared.answers.SendRecord.{SendRecord}
use Rattle.lan_switch.specs.declared.station.Station.{Station}
use Rattle.lan_switch.specs.Sending.{AreOffered, IsRegistered, IsSending, IsSent, LanWindows, Offering, OffersFrame, SaysFrame, Takes, code_after, is_numbered, next_name, next_number, offering, one_code}
use Rattle.lan_switch.specs.Source.{RefusesPart, parts_len, parts_of}
use Rattle.lan_switch.specs.Switch.{port_of, same_unit}
use Rattle.vio_trace.specs.declared.lan_rows.FrameRow.{FrameRow}
use Rattle.vio_trace.specs.declared.lan_rows.OfferRow.{OfferRow}
use Rattle.lan_script.specs.declared.seat.PortSeat.{PortSeat}
use Rattle.lan_script.specs.Frames.{count_in, frame_row_of}
use Rattle.lan_script.specs.Invariant.{IsLan, Owes, sent_by}
use Rattle.vio_num.specs.declared.memory.NoMemory.{NoMemory}
use Rattle.lan_script.specs.declared.sending.Sent.{Sent}
use Rattle.lan_script.specs.LineSays.{AddsFrame, KeepsFrame}
use Rattle.lan_script.specs.PortReplay.{IsOn, PortReplay}
use Rattle.lan_script.specs.Replayed.{AddsBytes, GoesOut, MayGoOut, ReplaysOn, SameReplays, SentSays, bytes_sent, replay_at, replay_of}
use Rattle.lan_script.specs.Windows.{facts_of, window_in}
use Rattle.lan_script.specs.Units.{HavePorts, IsLawfulFrame, LanValue, PortKey, is_done, one_code as code_of, to_of}
use Rattle.lan_script.proofs.Blocks.{self}
use Rattle.lan_script.proofs.Keys.{WindowOf, window_of}
use Rattle.lan_script.proofs.Tallies.{shut}
use Rattle.lan_script.proofs.Placing.{by_bool, one_unit, same_some}

-- the number of a unit's frames is that of its port
pub count_frames : (unit : UnitId) (seats : List PortSeat) (keys : List PortKey) (frames : List (List FrameRow)) → HavePorts true seats keys frames
    → count_in unit keys ≡ length (sent_by seats frames unit)
count_frames unit [] [] [] h = refl
count_frames unit [] [] (f ∷ frames) h = absurd h
count_frames unit [] (k ∷ keys) frames h = absurd h
count_frames unit (s ∷ seats) [] frames h = absurd h
count_frames unit (s ∷ seats) (k ∷ keys) [] h = absurd h
count_frames unit (s ∷ seats) (k ∷ keys) (own ∷ frames) h =
    let same : same_unit k.unit unit ≡ same_unit s.unit unit = ap (λ (u : UnitId). same_unit u unit) h.0.0.unit_is in
    by_bool (same_unit s.unit unit) (count_in unit (k ∷ keys) ≡ length (sent_by (s ∷ seats) (own ∷ frames) unit))
    (λ e. count_head (same ∙ e) ∙ (h.0.1 refl).all ∙ sym (sent_head e))
    (λ e. count_tail (same ∙ e) ∙ count_frames unit seats keys frames h.1 ∙ sym (sent_tail e))
  where
    count_head : same_unit k.unit unit ≡ true → count_in unit (k ∷ keys) ≡ k.frames
    count_head e = rw e refl

    count_tail : same_unit k.unit unit ≡ false → count_in unit (k ∷ keys) ≡ count_in unit keys
    count_tail e = rw e refl

    sent_head : same_unit s.unit unit ≡ true → length (sent_by (s ∷ seats) (own ∷ frames) unit) ≡ length own
    sent_head e = rw e refl

    sent_tail : same_unit s.unit unit ≡ false → length (sent_by (s ∷ seats) (own ∷ frames) unit) ≡ length (sent_by seats frames unit)
    sent_tail e = rw e refl

-- the code of a lawful frame
one_of_two : (offers : List OfferRow) → (code_of offers ≡ Success) ⊎ (code_of offers ≡ Dropped)
one_of_two [] = inr refl
one_of_two (offer ∷ more) = by_bool (is_done offer.offered) ((code_of (offer ∷ more) ≡ Success) ⊎ (code_of (offer ∷ more) ≡ Dropped)) (λ e. inl (done e)) (λ e. inr (not_done e))
  where
    done : is_done offer.offered ≡ true → code_of (offer ∷ more) ≡ Success
    done e = rw e refl

    not_done : is_done offer.offered ≡ false → code_of (offer ∷ more) ≡ Dropped
    not_done e = rw e refl

frame_code : (unit : UnitId) (n : ℕ) (frame : FrameRow) → IsLawfulFrame unit n frame → (frame.code ≡ Success) ⊎ (frame.code ≡ Dropped)
frame_code unit n frame h = by (one_of_two frame.offers)
  where
    single : (code_of frame.offers ≡ Success) ⊎ (code_of frame.offers ≡ Dropped) → (IsGroup (to_of frame) → ⊥) → (frame.code ≡ Success) ⊎ (frame.code ≡ Dropped)
    single (inl e) not = inl ((h.one not).code_is ∙ e)
    single (inr e) not = inr ((h.one not).code_is ∙ e)

    by : (code_of frame.offers ≡ Success) ⊎ (code_of frame.offers ≡ Dropped) → (frame.code ≡ Success) ⊎ (frame.code ≡ Dropped)
    by o = decide (slice_index (to_of frame).bytes 0 % 2) (λ e. inl (h.many e)) (λ not. single o not)
      where
        decide : (x : ℕ) → (x ≡ 1 → (frame.code ≡ Success) ⊎ (frame.code ≡ Dropped)) → ((x ≡ 1 → ⊥) → (frame.code ≡ Success) ⊎ (frame.code ≡ Dropped))
            → (frame.code ≡ Success) ⊎ (frame.code ≡ Dropped)
        decide x f g = by_bool (x == 1) ((frame.code ≡ Success) ⊎ (frame.code ≡ Dropped)) (λ e. f (eqb-true x 1 e)) (λ e. g (λ same. eqb-false x 1 e same))

-- a frame that is kept is the next of its unit
keeps_replay : (unit : UnitId) (made : SendRecord) (n : ℕ) (now new : LanValue) → Owes now unit made → made.frame ≡ Some n → new.stations ≡ now.stations
    → AddsFrame unit (frame_row_of unit n made) now new → new.seats ≡ now.seats → AddsBytes unit (Some n) made.bytes now new
    → ReplaysOn unit (SentSays made.code (Some n)) now new
keeps_replay unit made n now new owes numbered stations one seats adds = record {
  says = record {
    number_is = subst (λ (x : Option ℕ). IfSome x (λ m. m ≡ count_in unit owes.keys + 1)) numbered owes.next
        ∙ ap (λ m. m + 1) (count_frames unit now.seats owes.keys now.frames owes.kept
        ∙ sym (length-map (sent_by now.seats now.frames unit) (λ (r : FrameRow). r.bytes)));
    code_is = frame_code unit n (frame_row_of unit n made) lawful;
    bytes = made.bytes;
    left_is = ap (λ l. replay_of (port_of l unit) (bytes_sent new unit)) stations ∙ ap (λ m. replay_of (port_of now.stations unit) m) (adds refl);
    group = lawful.many;
  };
  beside = λ v other.
      ap (λ l. replay_of (port_of l v) (bytes_sent new v)) stations
      ∙ ap (λ m. replay_of (port_of now.stations v) m)
      (ap (λ l. map (λ (r : FrameRow). r.bytes) (sent_by l new.frames v)) seats ∙ ap (λ l. map (λ (r : FrameRow). r.bytes) l) (one.sent v)
      ∙ ap (λ l. map (λ (r : FrameRow). r.bytes) (sent_by now.seats now.frames v ++ l)) (none v (same_unit unit v) refl other)
      ∙ ap (λ l. map (λ (r : FrameRow). r.bytes) l) (append-nil (sent_by now.seats now.frames v)));
}
  where
    lawful : IsLawfulFrame unit n (frame_row_of unit n made)
    lawful = subst (λ (x : Option ℕ). IfSome x (λ m. IsLawfulFrame unit m (frame_row_of unit m made))) numbered owes.lawful

    none : (v : UnitId) (b : Bool) → same_unit unit v ≡ b → same_unit v unit ≡ false → (if same_unit unit v then frame_row_of unit n made ∷ [] else []) ≡ []
    none v false e other = rw e refl
    none v true e other = absurd (cc (other, subst (λ (u : UnitId). same_unit u unit ≡ true) (one_unit unit v e) (self unit)))

-- the same by the record of the frame
pub kept_replay : (unit : UnitId) (made : SendRecord) (n : ℕ) (now new : LanValue) → Owes now unit made → made.frame ≡ Some n → new.stations ≡ now.stations
    → KeepsFrame unit made made.frame now new → new.seats ≡ now.seats → AddsBytes unit made.frame made.bytes now new
    → ReplaysOn unit (SentSays made.code made.frame) now new
kept_replay unit made n now new owes numbered stations sent seats adds =
    subst (λ (o : Option ℕ). ReplaysOn unit (SentSays made.code o) now new) (sym numbered)
    (keeps_replay unit made n now new owes numbered stations (subst (λ (o : Option ℕ). KeepsFrame unit made o now new) numbered sent) seats
    (subst (λ (o : Option ℕ). AddsBytes unit o made.bytes now new) numbered adds))

-- where no page is found in use, and no turn is taken, a frame that is offered has a number
one_numbered : (o : Offering) (s n : Station) (answer : Deliver) → o.windows.is_shared ≡ false → Takes o s n answer → is_numbered (code_after answer) ≡ true
one_numbered o s n (sent.Done post) plain h = refl
one_numbered o s n (sent.Ungranted post fault) plain h = refl
one_numbered o s n sent.NoSize plain h = refl
one_numbered o s n sent.NoBuffer plain h = refl
one_numbered o s n (sent.Turn word) plain h = absurd h.offered.plain
one_numbered o s n (sent.InUse page word) plain h = absurd (cc (plain, h.offered.in_use.in_use.shared))
one_numbered o s n (sent.Closed control) plain h = refl
one_numbered o s n sent.NoMemory plain h = absurd (h.memory refl)

all_numbered : (o : Offering) (all : Bool) (old new : List Station) (offers : List Offer) → o.windows.is_shared ≡ false → AreOffered o all old new offers
    → is_numbered (one_code offers) ≡ true
all_numbered o all [] [] offers plain h = ap (λ (l : List Offer). is_numbered (one_code l)) h
all_numbered o all [] (n ∷ news) offers plain h = absurd h
all_numbered o all (s ∷ olds) [] offers plain h = absurd h
all_numbered o all (s ∷ olds) (n ∷ news) offers plain (inl (answer, later, is, takes, rest)) =
    ap (λ (l : List Offer). is_numbered (one_code l)) is ∙ one_numbered o s n answer plain takes
all_numbered o all (s ∷ olds) (n ∷ news) offers plain (inr (passed, rest)) = all_numbered o all olds news offers plain rest

-- each entry grants its page for reading: a range inside the window is not refused
pub reads_granted : (values : ℕ → List ℕ) (n at len : ℕ) (fault : HoldFault) → ((e : ℕ) → values e ≡ (4096 * e + 3) ∷ []) → at + len ≤ 4096 * n
    → IsSharedUse false fault → IsRefused values Read n at len fault → ⊥
reads_granted values n at len (InUse page word) all inside shared refused = cc (shared)
reads_granted values n at len (Past entry) all inside shared refused = past entry refused.1 refused.2
  where
    past : (entry : ℕ) → entry < (at + len + 4095) / 4096 → n ≤ entry → ⊥
    past entry below over = absurd (omega (arith, inside, below, over))
reads_granted values n at len (NotGranted entry version tce) all inside shared refused = lacks refused.3
  where
    lacks : Lacks values Read entry version tce → ⊥
    lacks (value, current, none, told) = by version (subst (λ (l : List ℕ). slice_get l version ≡ Some value) (all entry) current.shown)
      where
        by : (v : ℕ) → slice_get ((4096 * entry + 3) ∷ []) v ≡ Some value → ⊥
        by zero e = cc (none, subst (λ (x : ℕ). (x % 2 == 1) ≡ true) (same_some (4096 * entry + 3) value e) (eq-eqb ((4096 * entry + 3) % 2) 1 (omega arith)))
        by (suc v) e = cc (e)

-- an open port is registered
registered : (ss : List Station) (unit : UnitId) (n : List (List ℕ)) → IsOn (replay_of (port_of ss unit) n) → IsRegistered ss unit
registered ss unit n on = by (port_of ss unit) refl on
  where
    by : (o : Option PortValue) → port_of ss unit ≡ o → IsOn (replay_of o n) → IsRegistered ss unit
    by (Some port) e is = record { port = port; here = e; opened = is }
    by None e is = absurd (cc (is))

-- one whose port is registered is not closed
not_closed : (ss : List Station) (unit : UnitId) (n : List (List ℕ)) → IsRegistered ss unit → (replay_of (port_of ss unit) n).settings ≡ None → ⊥
not_closed ss unit n h e =
    shut h.port.settings (subst (λ (o : Option PortValue). (replay_of o n).settings ≡ None) h.here e) h.opened

-- the only part of a frame
only_part : (descriptors : List ℕ) (part number found : ℕ) → parts_of descriptors ≡ part ∷ [] → slice_get (parts_of descriptors) number ≡ Some found → found ≡ part
only_part descriptors part number found alone at = by number (subst (λ (l : List ℕ). slice_get l number ≡ Some found) alone at)
  where
    by : (k : ℕ) → slice_get (part ∷ []) k ≡ Some found → found ≡ part
    by zero e = sym (same_some part found e)
    by (suc k) e = absurd (cc (e))

some_number : (frame : Option ℕ) (n : ℕ) → frame ≡ Some n → IsSome frame
some_number frame n e = subst (λ (o : Option ℕ). IsSome o) (sym e) refl

pub goes_out : (lan now : LanValue) (unit : UnitId) (ss : List Station) (parts : List ℕ) (Found : ℕ → ℕ → Type 0) (own own' : WindowValue) (windows : LanWindows)
    (r : SendRecord) → lan ≡ now → IsLan lan → window_in unit lan.places ≡ Some own
    → ((e : ℕ) → (known_of own').values e ≡ (known_of own).values e) → windows.is_shared ≡ false
    → IsSent lan.stations ss unit parts false Found (known_of own) (known_of own') windows r → GoesOut now unit parts r.code r.frame
goes_out lan now unit ss parts Found own own' windows r same is at values plain h =
    subst (λ (l : LanValue). GoesOut l unit parts r.code r.frame) same (record { closed = λ e. closed e h; numbered = λ m. numbered m h })
  where
    count : List (List ℕ)
    count = bytes_sent lan unit

    closed : (replay_at lan unit).settings ≡ None → IsSent lan.stations ss unit parts false Found (known_of own) (known_of own') windows r
        → (r.code ≡ Parameter) × (r.frame ≡ None)
    closed e (inl (k, beside)) = (k.says.code_is, k.says.frame)
    closed e (inr (inl (k, beside))) = absurd (not_closed lan.stations unit count k.asked.registered e)
    closed e (inr (inr k)) = absurd (not_closed lan.stations unit count k.source.asked.registered e)

    makes : (m : MayGoOut lan unit parts) → IsSending lan.stations unit parts
    makes m =
        let long : parts_len (parts_of parts) ≡ m.len = ap (λ l. parts_len l) m.part.alone ∙ omega (arith, m.part.len_is) in
        record {
          registered = registered lan.stations unit count m.opened;
          long_enough = omega (arith, long, m.part.sized.0);
          short_enough = omega (arith, long, m.part.sized.1);
        }

    unread : (m : MayGoOut lan unit parts) (fault : HoldFault) → RefusesPart false Found (known_of own) (known_of own') (parts_of parts) fault → ⊥
    unread m fault k =
        let part : k.part ≡ m.part.part = only_part parts m.part.part k.number k.part m.part.alone k.is in
        let w : WindowOf (window_in unit lan.places) m.seat = window_of unit lan.places lan.seats m.seat is.windows m.seat_is in
        let pages : length own.pages ≡ m.seat.pages = ap (λ (x : WindowValue). length x.pages) (same_some own w.window (sym at ∙ w.is)) ∙ w.pages in
        let begins : buffer_address k.part ≡ m.at = ap buffer_address part ∙ m.part.at_is in
        let long : buffer_len k.part ≡ m.len = ap buffer_len part ∙ m.part.len_is in
        reads_granted (known_of own').values (length own.pages) (buffer_address k.part) (buffer_len k.part) fault
        (λ e. values e ∙ sym (ap (λ o. (facts_of unit lan.places o).values e) at) ∙ m.grants e)
        (omega (arith, begins, long, pages, m.inside)) k.refused.shared k.refused.cause

    is_one : (o : Offering) (all : Bool) (olds news : List Station) (offers : List Offer) → o.windows.is_shared ≡ false → AreOffered o all olds news offers
        → is_numbered (if all then Success else one_code offers) ≡ true
    is_one o true olds news offers plain out = refl
    is_one o false olds news offers plain out = all_numbered o false olds news offers plain out

    said : (b : Bool) (n : ℕ) (pieces : List Piece) (bytes : List ℕ) → b ≡ true → SaysFrame b n pieces bytes r → IsSome r.frame
    said true n pieces bytes e says = some_number r.frame n says.0
    said false n pieces bytes e says = absurd (cc (e))

    goes : OffersFrame lan.stations ss unit parts (known_of own) (known_of own') windows r → IsSome r.frame
    goes k =
        said (is_numbered r.code) (next_number lan.stations unit) k.pieces k.frame
        (ap is_numbered k.answered.code
        ∙ is_one (offering (next_name lan.stations unit) k.frame windows) k.answered.out.all lan.stations k.answered.mid r.offers.items plain k.answered.out.offered)
        k.answered.says

    numbered : MayGoOut lan unit parts → IsSent lan.stations ss unit parts false Found (known_of own) (known_of own') windows r → IsSome r.frame
    numbered m (inl (k, beside)) = absurd (k.cause (makes m))
    numbered m (inr (inl (k, beside))) = absurd (unread m k.fault k.cause)
    numbered m (inr (inr k)) = goes k

pub goes_all : (lan now : LanValue) (unit : UnitId) (ss : List Station) (parts : List ℕ) (Found : ℕ → ℕ → Type 0) (own own' : WindowValue) (windows : LanWindows)
    (r : Result SendRecord NoMemory) → lan ≡ now → IsLan lan → window_in unit lan.places ≡ Some own
    → ((e : ℕ) → (known_of own').values e ≡ (known_of own).values e) → windows.is_shared ≡ false
    → IfOk r (IsSent lan.stations ss unit parts false Found (known_of own) (known_of own') windows)
    → IfOk r (λ made. GoesOut now unit parts made.code made.frame)
goes_all lan now unit ss parts Found own own' windows (Ok made) same is at values plain h =
    goes_out lan now unit ss parts Found own own' windows made same is at values plain h
goes_all lan now unit ss parts Found own own' windows (Err memory) same is at values plain h = tt

-- what is kept of a frame that was sent
pub send_behind : (unit : UnitId) (r : Result Sent NoMemory) (old mid new : LanValue) → SameReplays old mid
    → IfOk r (λ s. ReplaysOn unit (SentSays s.code s.number) mid new) → IfOk r (λ s. ReplaysOn unit (SentSays s.code s.number) old new)
send_behind unit (Ok s) old mid new same h = record {
  says = subst (λ (a : PortReplay). SentSays s.code s.number a (replay_at new unit)) (same unit) h.says;
  beside = λ other e. h.beside other e ∙ same other;
}
send_behind unit (Err memory) old mid new same h = tt

pub goes_kept : (lan : LanValue) (unit : UnitId) (parts : List ℕ) (made : SendRecord) (r : Result Sent NoMemory) → GoesOut lan unit parts made.code made.frame
    → IfOk r (λ s. s.code ≡ made.code) → IfOk r (λ s. s.number ≡ made.frame) → IfOk r (λ s. GoesOut lan unit parts s.code s.number)
goes_kept lan unit parts made (Ok s) h code number =
    subst (λ (x : Hrc). GoesOut lan unit parts x s.number) (sym code) (subst (λ (o : Option ℕ). GoesOut lan unit parts made.code o) (sym number) h)
goes_kept lan unit parts made (Err memory) h code number = tt
