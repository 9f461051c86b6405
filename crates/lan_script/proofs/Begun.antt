-- An open port is in a session, whatever became of a frame that was sent.
use Rattle.std.proofs.Common.{inl, inr, ℕ, zero, suc, Bool, true, false, List, [], ◌∷◌, Result, Ok, Err, IfOk, OnErr, take, drop, if◌then◌else◌, sym, subst}
use Rattle.vio_num.specs.declared.names.UnitId.{UnitId}
use Rattle.vio_num.specs.declared.memory.NoMemory.{NoMemory}
use Rattle.tce_window.specs.PortState.{PortState}
use Rattle.lan_switch.specs.declared.answers.SendRecord.{SendRecord}
use Rattle.lan_switch.specs.declared.station.Station.{Station}
use Rattle.lan_switch.specs.Sending.{FailsToSend, IsSent, LanWindows, OffersFrame, is_numbered, next_number, with_frames}
use Rattle.lan_script.specs.Invariant.{HaveBegun}
use Rattle.lan_script.proofs.Balancing.{numbered_begun}
use Rattle.lan_script.proofs.Gains.{begun_offered}

-- the first and the others
begun_take : (n : ℕ) (ss : List Station) → HaveBegun ss → HaveBegun (take n ss)
begun_take zero ss begun = tt
begun_take (suc n) [] begun = tt
begun_take (suc n) (s ∷ ss) begun = (begun.0, begun_take n ss begun.1)

begun_drop : (n : ℕ) (ss : List Station) → HaveBegun ss → HaveBegun (drop n ss)
begun_drop zero ss begun = begun
begun_drop (suc n) [] begun = tt
begun_drop (suc n) (s ∷ ss) begun = begun_drop n ss begun.1

begun_both : (n : ℕ) (ss : List Station) → HaveBegun (take n ss) → HaveBegun (drop n ss) → HaveBegun ss
begun_both zero ss first rest = rest
begun_both (suc n) [] first rest = tt
begun_both (suc n) (s ∷ ss) first rest = (first.0, begun_both n ss first.1 rest)

begun_frame : (ss ss' : List Station) (unit : UnitId) (parts : List ℕ) (window window' : PortState) (windows : LanWindows) (r : SendRecord)
    → OffersFrame ss ss' unit parts window window' windows r → HaveBegun ss → HaveBegun ss'
begun_frame ss ss' unit parts window window' windows r h begun = subst HaveBegun (sym h.answered.rest) (by (is_numbered r.code))
  where
    mid : HaveBegun h.answered.mid
    mid = begun_offered _ h.answered.out.all ss h.answered.mid r.offers.items h.answered.out.offered begun

    by : (b : Bool) → HaveBegun (if b then with_frames unit (next_number ss unit) h.answered.mid else h.answered.mid)
    by true = numbered_begun unit (next_number ss unit) h.answered.mid mid
    by false = mid

pub begun_sent : (ss ss' : List Station) (unit : UnitId) (parts : List ℕ) (is_shared : Bool) (Found : ℕ → ℕ → Type 0) (window window' : PortState)
    (windows : LanWindows) (r : Result SendRecord NoMemory) → IfOk r (IsSent ss ss' unit parts is_shared Found window window' windows)
    → OnErr r (FailsToSend ss ss' unit parts window window' windows) → HaveBegun ss → HaveBegun ss'
begun_sent ss ss' unit parts is_shared Found window window' windows (Ok made) sent failed begun = by sent
  where
    by : IsSent ss ss' unit parts is_shared Found window window' windows made → HaveBegun ss'
    by (inl (h, beside)) = subst HaveBegun (sym h.stays) begun
    by (inr (inl (h, beside))) = subst HaveBegun (sym h.stays) begun
    by (inr (inr h)) = begun_frame ss ss' unit parts window window' windows made h begun
begun_sent ss ss' unit parts is_shared Found window window' windows (Err memory) sent failed begun = by failed
  where
    by : FailsToSend ss ss' unit parts window window' windows → HaveBegun ss'
    by (inl (same, beside)) = subst HaveBegun (sym same) begun
    by (inr h) =
        let stops = h.lost.stops in
        subst HaveBegun (sym h.lost.rest)
        (numbered_begun unit (next_number ss unit) h.lost.mid
        (begun_both stops.count h.lost.mid
        (begun_offered _ true (take stops.count ss) (take stops.count h.lost.mid) stops.offers stops.offered (begun_take stops.count ss begun))
        (subst HaveBegun (sym stops.later) (begun_drop stops.count ss begun))))
