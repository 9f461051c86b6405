-- What a switch makes of a frame, told of the units of a run.
use Rattle.std.proofs.Common.{◌≡◌, ◌+◌, inl, inr, ℕ, zero, suc, Bool, true, false, List, [], ◌∷◌, Option, Some, None, IfSome, take, drop, map, if◌then◌else◌, refl, sym, ◌∙◌, ap, subst}
use Rattle.vio_num.specs.declared.names.UnitId.{UnitId}
use Rattle.tce_window.specs.PortState.{PortState}
use Rattle.lan_switch.specs.declared.answers.SendRecord.{SendRecord}
use Rattle.lan_switch.specs.declared.station.Station.{Station}
use Rattle.lan_switch.specs.Sending.{FailsToSend, IsSent, LanWindows, OffersFrame, SaysFrame, frames_of, is_numbered, next_number, with_frames}
use Rattle.lan_switch.specs.Switch.{same_unit, station_of, unit_of}
use Rattle.vio_trace.specs.declared.lan_rows.FrameRow.{FrameRow}
use Rattle.lan_script.specs.declared.seat.PortSeat.{PortSeat}
use Rattle.lan_script.specs.Frames.{count_in, frame_row_of, with_count}
use Rattle.lan_script.specs.Invariant.{IsBalanced, with_sent}
use Rattle.lan_script.specs.Units.{HavePorts, IsLawfulFrame, PortKey, port_key}
use Rattle.lan_script.proofs.Balancing.{Sends, balanced_sent}
use Rattle.lan_script.proofs.Placing.{by_bool, flip}
use Rattle.lan_script.proofs.Sent.{counted, none_offered, offered_keys, offered_others, row_lawful}

-- the frames of a unit, told of its key
pub count_is : (unit : UnitId) (ss : List Station) → frames_of (station_of ss unit) ≡ count_in unit (map port_key ss)
count_is unit [] = refl
count_is unit (s ∷ ss) =
    by_bool (same_unit (unit_of s) unit) (frames_of (station_of (s ∷ ss) unit) ≡ count_in unit (map port_key (s ∷ ss)))
    (λ e. at_head e) (λ e. at_tail e (count_is unit ss))
  where
    at_head : same_unit (unit_of s) unit ≡ true → frames_of (station_of (s ∷ ss) unit) ≡ count_in unit (map port_key (s ∷ ss))
    at_head e = rw e refl

    at_tail : same_unit (unit_of s) unit ≡ false → frames_of (station_of ss unit) ≡ count_in unit (map port_key ss)
        → frames_of (station_of (s ∷ ss) unit) ≡ count_in unit (map port_key (s ∷ ss))
    at_tail e rest = rw e rest

-- What is owed of a record, but for what frames and deliveries carry.
pub record OwesRow (seats : List PortSeat) (stations : List Station) (frames : List (List FrameRow)) (unit : UnitId) (r : SendRecord) : Type 0 where
  pub keys : List PortKey
  pub kept : HavePorts true seats keys frames
  pub counts : map port_key stations ≡ with_count unit r.frame keys
  pub next : IfSome r.frame (λ n. n ≡ count_in unit keys + 1)
  pub lawful : IfSome r.frame (λ n. IsLawfulFrame unit n (frame_row_of unit n r))
  pub balanced : IsBalanced seats stations (with_sent unit r r.frame seats frames)

-- what a record owes that has no number
owes_none : (seats : List PortSeat) (ss : List Station) (frames : List (List FrameRow)) (unit : UnitId) (r : SendRecord) (keys : List PortKey)
    → HavePorts true seats keys frames → r.frame ≡ None → map port_key ss ≡ keys → IsBalanced seats ss (with_sent unit r r.frame seats frames)
    → OwesRow seats ss frames unit r
owes_none seats ss frames unit r keys have none same balanced = record {
  keys = keys;
  kept = have;
  counts = same ∙ ap (λ o. with_count unit o keys) (sym none);
  next = subst (λ o. IfSome o (λ n. n ≡ count_in unit keys + 1)) (sym none) tt;
  lawful = subst (λ o. IfSome o (λ n. IsLawfulFrame unit n (frame_row_of unit n r))) (sym none) tt;
  balanced = balanced;
}

owes_frame : (seats : List PortSeat) (ss ss' : List Station) (frames : List (List FrameRow)) (unit : UnitId) (parts : List ℕ)
    (window window' : PortState) (windows : LanWindows) (r : SendRecord) → HavePorts true seats (map port_key ss) frames
    → OffersFrame ss ss' unit parts window window' windows r → windows.is_shared ≡ false
    → IsBalanced seats ss' (with_sent unit r r.frame seats frames)
    → OwesRow seats ss' frames unit r
owes_frame seats ss ss' frames unit parts window window' windows r have h plain balanced = by (is_numbered r.code) refl
  where
    by : (b : Bool) → is_numbered r.code ≡ b → OwesRow seats ss' frames unit r
    by true e =
        let says : SaysFrame true (next_number ss unit) h.pieces h.frame r = subst (λ b. SaysFrame b (next_number ss unit) h.pieces h.frame r) e h.answered.says in
        let rest : ss' ≡ with_frames unit (next_number ss unit) h.answered.mid =
        h.answered.rest ∙ ap (λ b. if b then with_frames unit (next_number ss unit) h.answered.mid else h.answered.mid) e in
        record {
          keys = map port_key ss;
          kept = have;
          counts = ap (λ l. map port_key l) rest ∙ counted unit (next_number ss unit) h.answered.mid
              ∙ ap (λ keys. with_count unit (Some (next_number ss unit)) keys) (offered_keys _ h.answered.out.all ss h.answered.mid r.offers.items h.answered.out.offered)
              ∙ ap (λ o. with_count unit o (map port_key ss)) (sym says.0);
          next = subst (λ o. IfSome o (λ n. n ≡ count_in unit (map port_key ss) + 1)) (sym says.0) (ap (λ n. n + 1) (count_is unit ss));
          lawful = subst (λ o. IfSome o (λ n. IsLawfulFrame unit n (frame_row_of unit n r))) (sym says.0)
              (row_lawful ss ss' unit (next_number ss unit) h.pieces h.frame windows r h.answered e says.2 plain);
          balanced = balanced;
        }
    by false e =
        let says : SaysFrame false (next_number ss unit) h.pieces h.frame r = subst (λ b. SaysFrame b (next_number ss unit) h.pieces h.frame r) e h.answered.says in
        let rest : ss' ≡ h.answered.mid = h.answered.rest ∙ ap (λ b. if b then with_frames unit (next_number ss unit) h.answered.mid else h.answered.mid) e in
        owes_none seats ss' frames unit r (map port_key ss) have says.0
        (ap (λ l. map port_key l) rest ∙ offered_keys _ h.answered.out.all ss h.answered.mid r.offers.items h.answered.out.offered) balanced

-- a frame that was sent is owed
pub owes : (seats : List PortSeat) (ss ss' : List Station) (frames : List (List FrameRow)) (unit : UnitId) (parts : List ℕ) (is_shared : Bool)
    (Found : ℕ → ℕ → Type 0) (window window' : PortState) (windows : LanWindows) (r : SendRecord) → Sends seats ss frames unit
    → windows.is_shared ≡ false → IsSent ss ss' unit parts is_shared Found window window' windows r
    → OwesRow seats ss' frames unit r
owes seats ss ss' frames unit parts is_shared Found window window' windows r sends plain h =
    by h (balanced_sent seats ss ss' frames unit parts is_shared Found window window' windows r sends h)
  where
    by : IsSent ss ss' unit parts is_shared Found window window' windows r → IsBalanced seats ss' (with_sent unit r r.frame seats frames) → OwesRow seats ss' frames unit r
    by (inl (h, beside)) balanced = owes_none seats ss' frames unit r (map port_key ss) sends.have h.says.frame (ap (λ l. map port_key l) h.stays) balanced
    by (inr (inl (h, beside))) balanced = owes_none seats ss' frames unit r (map port_key ss) sends.have h.says.frame (ap (λ l. map port_key l) h.stays) balanced
    by (inr (inr h)) balanced = owes_frame seats ss ss' frames unit parts window window' windows r sends.have h plain balanced

-- the sender's own window is not among those that a send touched
pub untouched : (ss ss' : List Station) (unit : UnitId) (parts : List ℕ) (is_shared : Bool) (Found : ℕ → ℕ → Type 0) (window window' : PortState)
    (windows : LanWindows) (r : SendRecord) → IsSent ss ss' unit parts is_shared Found window window' windows r
    → windows.facts' unit ≡ windows.facts unit
untouched ss ss' unit parts is_shared Found window window' windows r (inl (h, beside)) = ap (λ f. f unit) beside
untouched ss ss' unit parts is_shared Found window window' windows r (inr (inl (h, beside))) = ap (λ f. f unit) beside
untouched ss ss' unit parts is_shared Found window window' windows r (inr (inr h)) =
    h.answered.out.beside unit
    (none_offered unit r.offers.items (offered_others _ h.answered.out.all ss h.answered.mid r.offers.items h.answered.out.offered))

pub untouched_failing : (ss ss' : List Station) (unit : UnitId) (parts : List ℕ) (window window' : PortState) (windows : LanWindows)
    → FailsToSend ss ss' unit parts window window' windows → windows.facts' unit ≡ windows.facts unit
untouched_failing ss ss' unit parts window window' windows (inl (same, beside)) = ap (λ f. f unit) beside
untouched_failing ss ss' unit parts window window' windows (inr h) =
    let stops = h.lost.stops in
    stops.beside unit
    (none_offered unit stops.offers (offered_others _ true (take stops.count ss) (take stops.count h.lost.mid) stops.offers stops.offered))
    (flip unit (unit_of stops.station) stops.target.other)

-- what a failing send leaves of the keys
pub keys_failing : (ss ss' : List Station) (unit : UnitId) (parts : List ℕ) (window window' : PortState) (windows : LanWindows)
    → FailsToSend ss ss' unit parts window window' windows
    → (count : Option ℕ) × (map port_key ss' ≡ with_count unit count (map port_key ss))
keys_failing ss ss' unit parts window window' windows (inl (same, beside)) = (None, ap (λ l. map port_key l) same)
keys_failing ss ss' unit parts window window' windows (inr h) =
    let stops = h.lost.stops in (
      Some (next_number ss unit),
      ap (λ l. map port_key l) h.lost.rest ∙ counted unit (next_number ss unit) h.lost.mid
          ∙ ap (λ keys. with_count unit (Some (next_number ss unit)) keys)
          (by_parts stops.count h.lost.mid ss
          (offered_keys _ true (take stops.count ss) (take stops.count h.lost.mid) stops.offers stops.offered)
          (ap (λ l. map port_key l) stops.later)),
    )
  where
    by_parts : (n : ℕ) (xs ys : List Station) → map port_key (take n xs) ≡ map port_key (take n ys)
        → map port_key (drop n xs) ≡ map port_key (drop n ys) → map port_key xs ≡ map port_key ys
    by_parts zero xs ys e f = f
    by_parts (suc n) [] [] e f = refl
    by_parts (suc n) [] (y ∷ ys) e f = absurd (cc (e))
    by_parts (suc n) (x ∷ xs) [] e f = absurd (cc (e))
    by_parts (suc n) (x ∷ xs) (y ∷ ys) e f =
        let head : port_key x ≡ port_key y = heads (port_key x) (port_key y) (map port_key (take n xs)) (map port_key (take n ys)) e in
        let tail : map port_key (take n xs) ≡ map port_key (take n ys) = tails (port_key x) (port_key y) (map port_key (take n xs)) (map port_key (take n ys)) e in
        ap (λ (k : PortKey). k ∷ map port_key xs) head ∙ ap (λ l. port_key y ∷ l) (by_parts n xs ys tail f)
      where
        heads : (a b : PortKey) (xs ys : List PortKey) → a ∷ xs ≡ b ∷ ys → a ≡ b
        heads a b xs ys g = cc (g)

        tails : (a b : PortKey) (xs ys : List PortKey) → a ∷ xs ≡ b ∷ ys → xs ≡ ys
        tails a b xs ys g = cc (g)
