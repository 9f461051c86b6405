-- What a step of a line says of the frames that its unit sent.
use Rattle.std.proofs.Common.{◌≡◌, ◌<◌, ℕ, Bool, true, false, if◌then◌else◌, List, [], ◌∷◌, ◌++◌, Option, Some, None, IfOk, IsSome, OnOk, Result, Ok, Err, length, map, set, get_or, slice_get, refl, sym, ◌∙◌, ap, subst}
use Rattle.std.proofs.lemmas.List.{map-append}
use Rattle.vio_num.specs.declared.names.UnitId.{UnitId}
use Rattle.vio_num.specs.declared.hypervisor.Hrc.{Hrc}
use Rattle.vio_num.specs.declared.memory.NoMemory.{NoMemory}
use Rattle.lan_switch.specs.declared.answers.SendRecord.{SendRecord}
use Rattle.lan_switch.specs.Switch.{port_of, same_unit}
use Rattle.vio_trace.specs.declared.lan_rows.FrameRow.{FrameRow}
use Rattle.vio_trace.specs.declared.outcome.Outcome.TheVariants as outcomes
use Rattle.lan_script.specs.declared.lines.PortStep.{PortStep}
use Rattle.lan_script.specs.declared.lines.PortStep.TheVariants as steps
use Rattle.lan_script.specs.declared.seat.PortSeat.{PortSeat}
use Rattle.lan_script.specs.Frames.{frame_row_of}
use Rattle.lan_script.specs.Invariant.{IsLan, sent_by, with_frame}
use Rattle.lan_script.specs.LineSays.{AddsFrame, KeepsFrame, SaysSent, SendsAs, SentAs, TellsNoFrame}
use Rattle.lan_script.specs.PortCounts.{SameCounts}
use Rattle.lan_script.specs.PortReplay.{PortReplay}
use Rattle.lan_script.specs.Replayed.{SameReplays, bytes_sent, replay_at}
use Rattle.lan_script.specs.Seats.{seat_at, seat_place}
use Rattle.lan_script.specs.Targets.{OffersMade, OffersTo, SpentFor}
use Rattle.lan_script.specs.Units.{LanValue, port_key}
use Rattle.lan_script.specs.declared.sending.Sent.{Sent}
use Rattle.lan_script.proofs.Balancing.{one_of, sent_with, set_frame}
use Rattle.lan_script.proofs.Blocks.{self}
use Rattle.lan_script.specs.Spent.{AllGrow}
use Rattle.lan_script.proofs.PortsGrow.{grow_on}
use Rattle.lan_script.proofs.Targeting.{spent_on}
use Rattle.lan_script.proofs.Keeping.{frames_long, map_get, map_set}

-- a step that tells of no frame, where none was sent
pub sends_none : (unit : UnitId) (step : PortStep) (old new : LanValue) → TellsNoFrame step → new.frames ≡ old.frames → SendsAs unit step old new
sends_none unit (steps.Waits moved done) old new none same = same
sends_none unit (steps.Ends (outcomes.Granted credits)) old new none same = same
sends_none unit (steps.Ends (outcomes.Rejected reason)) old new none same = same
sends_none unit (steps.Ends outcomes.Lost) old new none same = same
sends_none unit (steps.Ends outcomes.Unanswered) old new none same = same
sends_none unit (steps.Ends (outcomes.Sent tag)) old new none same = same
sends_none unit (steps.Ends outcomes.Range) old new none same = same
sends_none unit (steps.Ends outcomes.NotLoggedIn) old new none same = same
sends_none unit (steps.Ends (outcomes.NoCredit credits)) old new none same = same
sends_none unit (steps.Ends (outcomes.Overlap tag)) old new none same = same
sends_none unit (steps.Ends outcomes.Closed) old new none same = same
sends_none unit (steps.Ends (outcomes.Dropped number held)) old new none same = same
sends_none unit (steps.Ends (outcomes.Took count)) old new none same = same
sends_none unit (steps.Ends (outcomes.TookThenLost count)) old new none same = same
sends_none unit (steps.Ends (outcomes.Data len sum)) old new none same = same
sends_none unit (steps.Ends (outcomes.Stale page)) old new none same = same
sends_none unit (steps.Ends outcomes.Unknown) old new none same = same
sends_none unit (steps.Ends (outcomes.Code code)) old new none same = same
sends_none unit (steps.Ends (outcomes.Value value)) old new none same = same
sends_none unit (steps.Ends (outcomes.Posted buffers code)) old new none same = same
sends_none unit (steps.Ends (outcomes.Frame code number)) old new none same = absurd none
sends_none unit (steps.Ends outcomes.Done) old new none same = same
sends_none unit (steps.Ends (outcomes.Bytes shown)) old new none same = same

-- a step that says what a call answered
pub sends_said : (unit : UnitId) (code : Hrc) (number : Option ℕ) (step : PortStep) (old new : LanValue) → SaysSent code number step
    → SentAs unit code number old new → SendsAs unit step old new
sends_said unit code None step old new says h = sends_none unit step old new says h
sends_said unit code (Some n) step old new says h = subst (λ (s : PortStep). SendsAs unit s old new) (sym says) h

-- a call behind what left the seats and the frames
pub sent_behind : (unit : UnitId) (code : Hrc) (number : Option ℕ) (old mid new : LanValue) → mid.seats ≡ old.seats → mid.frames ≡ old.frames → SameReplays old mid
    → SentAs unit code number mid new → SentAs unit code number old new
sent_behind unit code None old mid new seats frames same h = h ∙ frames
sent_behind unit code (Some n) old mid new seats frames same h = record {
  row = h.row;
  code_is = h.code_is;
  number_is = h.number_is;
  frames = h.frames ∙ ap (λ ss. with_frame unit h.row ss mid.frames) seats ∙ ap (λ fs. with_frame unit h.row old.seats fs) frames;
  sent = λ v.
      ap (λ ss. sent_by ss new.frames v) (sym seats) ∙ h.sent v ∙ ap (λ ss. sent_by ss mid.frames v ++ (if same_unit unit v then h.row ∷ [] else [])) seats
      ∙ ap (λ fs. sent_by old.seats fs v ++ (if same_unit unit v then h.row ∷ [] else [])) frames;
  offers = λ v other. record {
    offers = subst (λ (a : PortReplay). OffersTo v a h.row) (same v) (h.offers v other).offers;
    spent = subst (λ (a : PortReplay). SpentFor v h.row a (port_of new.stations v)) (same v) (h.offers v other).spent;
  };
}

-- a frame whose row was kept, behind a call that gave it its number
pub sent_kept : (unit : UnitId) (made : SendRecord) (r : Result Sent NoMemory) (old mid new : LanValue) → mid.seats ≡ old.seats → mid.frames ≡ old.frames
    → OffersMade unit old made → AllGrow old mid → OnOk r (SameCounts mid new) → OnOk r (KeepsFrame unit made made.frame mid new) → IfOk r (λ s. s.code ≡ made.code) → IfOk r (λ s. s.number ≡ made.frame)
    → IfOk r (λ s. SentAs unit s.code s.number old new)
sent_kept unit made (Err memory) old mid new seats frames offers first later kept code number = tt
sent_kept unit made (Ok s) old mid new seats frames offers first later kept code number =
    subst (λ (o : Option ℕ). SentAs unit s.code o old new) (sym number) (by made.frame refl kept)
  where
    by : (o : Option ℕ) → made.frame ≡ o → KeepsFrame unit made o mid new → SentAs unit s.code o old new
    by None e h = h ∙ frames
    by (Some n) e h =
        let row = frame_row_of unit n made in
        record {
          row = row;
          code_is = sym code;
          number_is = refl;
          frames = h.frames ∙ ap (λ ss. with_frame unit row ss mid.frames) seats ∙ ap (λ fs. with_frame unit row old.seats fs) frames;
          sent = λ v.
              ap (λ ss. sent_by ss new.frames v) (sym seats) ∙ h.sent v ∙ ap (λ ss. sent_by ss mid.frames v ++ one_of unit v row) seats
              ∙ ap (λ fs. sent_by old.seats fs v ++ one_of unit v row) frames;
          offers = λ v other. record {
            offers = (offers n e v other).offers;
            spent = spent_on v row (replay_at old v) (port_of old.stations v) (port_of new.stations v) (grow_on old mid new first later.grows v) (offers n e v other).spent;
          };
        }

-- the row of a frame was kept
frames_kept : {V : Type 0} (f : V → List FrameRow) (lan : LanValue) (vecs : List V) (unit : UnitId) (row : FrameRow) (p : ℕ) (old new : V)
    (frames' : List (List FrameRow)) → IsLan lan → lan.frames ≡ map f vecs → p ≡ seat_place unit lan.seats → p < length vecs
    → old ≡ get_or vecs p old → f new ≡ f old ++ row ∷ [] → frames' ≡ map f (set vecs p new) → frames' ≡ with_frame unit row lan.seats lan.frames
frames_kept f lan vecs unit row p old new frames' is frames at less here grown made =
    made ∙ map_set f vecs p new ∙ ap (λ l. set (map f vecs) p l) grown
    ∙ ap (λ k. set (map f vecs) k (f old ++ row ∷ [])) at
    ∙ sym (set_frame unit row lan.seats (map f vecs) (f old)
    (ap (λ (l : List (List FrameRow)). length l) (sym frames) ∙ frames_long lan.whole lan.seats (map port_key lan.stations) lan.frames is.ports)
    (ap (λ k. slice_get (map f vecs) k) (sym at) ∙ map_get f vecs p old less here))
    ∙ sym (ap (λ (l : List (List FrameRow)). with_frame unit row lan.seats l) frames)

row_kept : (lan : LanValue) (frames' : List (List FrameRow)) (unit : UnitId) (row : FrameRow) → IsLan lan → IsSome (seat_at lan.seats unit) → frames' ≡ with_frame unit row lan.seats lan.frames
    → (sender : UnitId) → sent_by lan.seats frames' sender ≡ sent_by lan.seats lan.frames sender ++ (if same_unit unit sender then row ∷ [] else [])
row_kept lan frames' unit row is there kept sender =
    ap (λ (l : List (List FrameRow)). sent_by lan.seats l sender) kept
    ∙ sent_with unit sender row lan.seats lan.frames there (frames_long lan.whole lan.seats (map port_key lan.stations) lan.frames is.ports)

sends_kept : {V : Type 0} (f : V → List FrameRow) (lan : LanValue) (vecs : List V) (unit : UnitId) (row : FrameRow) (p : ℕ) (old new : V)
    (after : LanValue) → IsLan lan → IsSome (seat_at lan.seats unit) → lan.frames ≡ map f vecs → p ≡ seat_place unit lan.seats → p < length vecs
    → old ≡ get_or vecs p old → f new ≡ f old ++ row ∷ [] → after.frames ≡ map f (set vecs p new) → AddsFrame unit row lan after
sends_kept f lan vecs unit row p old new after is there frames at less here grown made =
    let kept = frames_kept f lan vecs unit row p old new after.frames is frames at less here grown made in
    record { frames = kept; sent = row_kept lan after.frames unit row is there kept }

-- the same of a call whose frame has this number
pub keeps_sent : {V : Type 0} (f : V → List FrameRow) (lan now : LanValue) (vecs : List V) (unit : UnitId) (made : SendRecord) (n : ℕ) (row : FrameRow) (p : ℕ)
    (old new : V) (after : LanValue) → lan ≡ now → IsLan lan → IsSome (seat_at now.seats unit) → lan.frames ≡ map f vecs → made.frame ≡ Some n → row ≡ frame_row_of unit n made
    → p ≡ seat_place unit lan.seats → p < length vecs → old ≡ get_or vecs p old → f new ≡ f old ++ row ∷ [] → after.frames ≡ map f (set vecs p new)
    → KeepsFrame unit made made.frame now after
keeps_sent f lan now vecs unit made n row p old new after same is there frames numbered row_is at less here grown kept =
    subst (λ (o : Option ℕ). KeepsFrame unit made o now after) (sym numbered)
    (subst (λ (r : FrameRow). AddsFrame unit r now after) row_is
    (subst (λ (l : LanValue). AddsFrame unit row l after) same
    (sends_kept f lan vecs unit row p old new after is (subst (λ (l : LanValue). IsSome (seat_at l.seats unit)) (sym same) there) frames at less here grown kept)))

-- and it has the bytes of that frame
pub keeps_bytes : {V : Type 0} (f : V → List FrameRow) (lan now : LanValue) (vecs : List V) (unit : UnitId) (made : SendRecord) (n : ℕ) (row : FrameRow) (p : ℕ)
    (old new : V) (seats : List PortSeat) (frames' : List (List FrameRow)) → lan ≡ now → IsLan lan → IsSome (seat_at now.seats unit) → lan.frames ≡ map f vecs
    → row ≡ frame_row_of unit n made
    → p ≡ seat_place unit lan.seats → p < length vecs → old ≡ get_or vecs p old → f new ≡ f old ++ row ∷ [] → frames' ≡ map f (set vecs p new)
    → seats ≡ now.seats → IsSome made.frame → map (λ (r : FrameRow). r.bytes) (sent_by seats frames' unit) ≡ bytes_sent now unit ++ made.bytes ∷ []
keeps_bytes f lan now vecs unit made n row p old new seats frames' same is there frames row_is at less here grown kept seats_are some =
    ap (λ ss. map (λ (r : FrameRow). r.bytes) (sent_by ss frames' unit)) seats_are
    ∙ subst (λ (l : LanValue). map (λ (r : FrameRow). r.bytes) (sent_by l.seats frames' unit) ≡ bytes_sent l unit ++ made.bytes ∷ []) same whole
  where
    one : (b : Bool) → same_unit unit unit ≡ b → (if same_unit unit unit then row ∷ [] else []) ≡ row ∷ []
    one true e = rw e refl
    one false e = absurd (cc (e, self unit))

    whole : map (λ (r : FrameRow). r.bytes) (sent_by lan.seats frames' unit) ≡ bytes_sent lan unit ++ made.bytes ∷ []
    whole =
        ap (λ l. map (λ (r : FrameRow). r.bytes) l)
        (row_kept lan frames' unit row is (subst (λ (l : LanValue). IsSome (seat_at l.seats unit)) (sym same) there)
        (frames_kept f lan vecs unit row p old new frames' is frames at less here grown kept) unit)
        ∙ ap (λ l. map (λ (r : FrameRow). r.bytes) (sent_by lan.seats lan.frames unit ++ l)) (one (same_unit unit unit) refl)
        ∙ map-append (λ (r : FrameRow). r.bytes) (sent_by lan.seats lan.frames unit) (row ∷ [])
        ∙ ap (λ (r : FrameRow). bytes_sent lan unit ++ r.bytes ∷ []) row_is
