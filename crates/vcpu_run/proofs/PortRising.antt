-- What a step or a call at a LAN unit makes of the ports, as their lines tell of them.
use Rattle.std.proofs.Common.{◌≡◌, ◌≢◌, ◌⊎◌, inl, inr, ℕ, zero, suc, ◌≤◌, cond, length, Bool, true, false, true≢false, List, [], ◌∷◌, ◌++◌, append-nil, Option, Some, None, map, refl, sym, ◌∙◌, ap, subst, arith}
use Rattle.std.specs.List.{Contains}
use Rattle.std.proofs.lemmas.List.{map-append}
use Rattle.std.proofs.lemmas.List.Elements.{Contains-append_cases, Contains-push}
use Rattle.vio_num.specs.Words.{Begins}
use Rattle.vio_num.specs.declared.hypervisor.Hrc.{Hrc}
use Rattle.vio_num.specs.declared.names.UnitId.{UnitId}
use Rattle.boot_text.specs.declared.verb.Verb.{Verb}
use Rattle.lan_switch.specs.Switch.{same_unit}
use Rattle.vio_trace.specs.declared.lan_rows.FrameRow.{FrameRow}
use Rattle.vio_trace.specs.declared.outcome.Outcome.{Outcome}
use Rattle.vio_trace.specs.declared.outcome.Outcome.TheVariants as outcomes
use Rattle.unit_region.specs.declared.step.Step.TheVariants as steps
use Rattle.lan_script.specs.declared.calls.PortCall.{PortCall}
use Rattle.lan_script.specs.declared.calls.PortCall.TheVariants as calls
use Rattle.lan_script.specs.declared.lines.PortStep.{PortStep}
use Rattle.lan_script.specs.declared.lines.PortStep.TheVariants as ports
use Rattle.lan_script.specs.Correlators.{KeepsAddresses}
use Rattle.lan_script.specs.Invariant.{sent_by}
use Rattle.lan_script.specs.LineBytes.{StepsBytes}
use Rattle.lan_script.specs.LineSays.{SendsAs, SendsOne, SentAs}
use Rattle.lan_script.specs.PortCounts.{CountsOn, CountsStep, PortCounts, SameCounts, SendsCalled, TakesSome}
use Rattle.lan_script.specs.Regions.{LaysLine, RegionsGrow}
use Rattle.vcpu_run.specs.PortRegions.{RegionKept, RegionsKept}
use Rattle.vcpu_run.proofs.PortKept.{kept_placed, line_beside}
use Rattle.lan_script.specs.Replayed.{IsFirst, Replays, SameBeside, SameReplays, bytes_sent, replay_at}
use Rattle.lan_script.specs.OwnMac.{MovesMac}
use Rattle.lan_script.specs.PortReplay.{PortReplay}
use Rattle.lan_script.specs.Spent.{AllGrow}
use Rattle.lan_script.specs.Targets.{IsTarget, offers_to}
use Rattle.lan_script.specs.Units.{LanValue, to_of}
use Rattle.lan_script.specs.Values.{NamesOwn, SameValues, SameValuesBeside, is_put, puts_other}
use Rattle.lan_script.specs.Windows.{facts_in}
use Rattle.lan_script.proofs.Laws.{mac_same, self, one_unit, posts_same, same_posted}
use Rattle.vcpu_run.specs.PortBytes.{StepBytes, StepSendsBytes}
use Rattle.vcpu_run.specs.PortSteps.{AllSilent, IsBeside, TakesOn}
use Rattle.vcpu_run.specs.PortReplays.{IsStill, OffersSince, SendsFrame, StepReplays, sent_at}
use Rattle.vcpu_run.specs.PortWords.{FrameTold, frame_of, frame_told, frames_at}

-- two units are not the same by their names
pub not_same : (a b : UnitId) → a ≢ b → same_unit a b ≡ false
not_same a b apart = by (same_unit a b) refl
  where
    by : (t : Bool) → same_unit a b ≡ t → same_unit a b ≡ false
    by true e = absurd (apart (one_unit a b e))
    by false e = e

pub apart_of : (a b : UnitId) → same_unit a b ≡ false → a ≢ b
apart_of a b f e = true≢false (sym (subst (λ (u : UnitId). same_unit u b ≡ true) (sym e) (self b)) ∙ f)

-- a port at which nothing was done
still_beside : (unit : UnitId) (old new : LanValue) → new.seats ≡ old.seats → SameBeside unit old new → SameValuesBeside unit old new → (other : UnitId)
    → other ≢ unit → sent_at new other ≡ sent_at old other → AllGrow old new → OffersSince old new other → RegionKept other old new → IsStill old new other
still_beside unit old new seats replays values other apart rows grows offered regions = record {
  seats = seats;
  replay = replays other (not_same other unit apart);
  values = values other (not_same other unit apart);
  rows = rows;
  grows = grows other;
  offered = offered;
  regions = regions;
}

-- the frames of a unit, where none was kept
same_rows : (old new : LanValue) (v : UnitId) → new.seats ≡ old.seats → new.frames ≡ old.frames → sent_at new v ≡ sent_at old v
same_rows old new v seats frames = ap (λ ss. sent_by ss new.frames v) seats ∙ ap (λ fs. sent_by old.seats fs v) frames

-- where none was kept, none has an offer
since_same : (old new : LanValue) → new.seats ≡ old.seats → new.frames ≡ old.frames → (unit : UnitId) → OffersSince old new unit
since_same old new seats frames unit sender other row kept = inl (subst (λ (l : List FrameRow). Contains l row) (same_rows old new sender seats frames) kept)

same_frames : (old new : LanValue) (v : UnitId) → new.seats ≡ old.seats → new.frames ≡ old.frames → frames_at new v ≡ frames_at old v
same_frames old new v seats frames = ap (λ (l : List FrameRow). map frame_told l) (same_rows old new v seats frames)

-- one at which frames were taken
pub still_all : (old new : LanValue) → new.seats ≡ old.seats → new.frames ≡ old.frames → SameReplays old new → new.places ≡ old.places → AllGrow old new → (unit : UnitId)
    → IsStill old new unit
still_all old new seats frames replays places grows unit = record {
  seats = seats;
  replay = replays unit;
  values = λ e. ap (λ ps. (facts_in ps unit).values e) places;
  rows = same_rows old new unit seats frames;
  grows = grows unit;
  offered = since_same old new seats frames unit;
  regions = kept_placed unit old new places;
}

-- What was sent of all frames: these by this unit, and none by others.
pub record Sends (more : List FrameTold) (unit : UnitId) (old new : LanValue) : Type 0 where
  pub own : frames_at new unit ≡ frames_at old unit ++ more
  pub others : (other : UnitId) → other ≢ unit → frames_at new other ≡ frames_at old other
  pub grows : Begins (sent_at old unit) (sent_at new unit)
  pub rows : (other : UnitId) → other ≢ unit → sent_at new other ≡ sent_at old other
  pub since : (other : UnitId) → other ≢ unit → OffersSince old new other

none_sent : (unit : UnitId) (old new : LanValue) → new.seats ≡ old.seats → new.frames ≡ old.frames → Sends [] unit old new
none_sent unit old new seats frames = record {
  own = same_frames old new unit seats frames ∙ sym (append-nil (frames_at old unit));
  others = λ other _. same_frames old new other seats frames;
  grows = ([], same_rows old new unit seats frames ∙ sym (append-nil (sent_at old unit)));
  rows = λ other _. same_rows old new other seats frames;
  since = λ other _. since_same old new seats frames other;
}

-- what was kept of the frames of each unit
rows_one : (unit : UnitId) (code : Hrc) (number : ℕ) (old new : LanValue) → new.seats ≡ old.seats → (h : SendsOne unit code number old new) → (v : UnitId)
    → sent_at new v ≡ sent_at old v ++ cond (same_unit unit v) (h.row ∷ []) []
rows_one unit code number old new seats h v = ap (λ ss. sent_by ss new.frames v) seats ∙ h.sent v

rows_own : (unit : UnitId) (code : Hrc) (number : ℕ) (old new : LanValue) → new.seats ≡ old.seats → (h : SendsOne unit code number old new)
    → sent_at new unit ≡ sent_at old unit ++ h.row ∷ []
rows_own unit code number old new seats h =
    rows_one unit code number old new seats h unit ∙ ap (λ b. sent_at old unit ++ cond b (h.row ∷ []) []) (self unit)

rows_other : (unit : UnitId) (code : Hrc) (number : ℕ) (old new : LanValue) → new.seats ≡ old.seats → SendsOne unit code number old new
    → (other : UnitId) → other ≢ unit → sent_at new other ≡ sent_at old other
rows_other unit code number old new seats h other apart =
    rows_one unit code number old new seats h other
    ∙ ap (λ b. sent_at old other ++ cond b (h.row ∷ []) []) (not_same unit other (λ e. apart (sym e))) ∙ append-nil (sent_at old other)

-- a frame that was sent has an offer only to a target
since_one : (unit : UnitId) (code : Hrc) (number : ℕ) (old new : LanValue) → new.seats ≡ old.seats → SendsOne unit code number old new
    → (other : UnitId) → other ≢ unit → OffersSince old new other
since_one unit code number old new seats h other apart sender beside row kept =
    by (Contains-append_cases (sent_at old sender) (cond (same_unit unit sender) (h.row ∷ []) []) row
    (subst (λ (l : List FrameRow). Contains l row) (rows_one unit code number old new seats h sender) kept))
  where
    more : (b : Bool) → Contains (cond b (h.row ∷ []) []) row → h.row ≡ row
    more true (zero, less, e) = e
    more true (suc k, less, e) = absurd (omega (arith, less))
    more false (k, less, e) = absurd (omega (arith, less))

    by : Contains (sent_at old sender) row ⊎ Contains (cond (same_unit unit sender) (h.row ∷ []) []) row
        → Contains (sent_at old sender) row ⊎ (1 ≤ length (offers_to other row.offers) → IsTarget (replay_at old other) (to_of row))
    by (inl was) = inl was
    by (inr one) =
        inr (subst (λ (r : FrameRow). 1 ≤ length (offers_to other r.offers) → IsTarget (replay_at old other) (to_of r)) (more (same_unit unit sender) one)
        (h.offers other (not_same other unit apart)).offers.only)

one_sent : (unit : UnitId) (code : Hrc) (number : ℕ) (old new : LanValue) → new.seats ≡ old.seats → SendsOne unit code number old new
    → Sends (record { code = code; number = number } ∷ []) unit old new
one_sent unit code number old new seats h = record {
  own = ap (λ (l : List FrameRow). map frame_told l) (rows_own unit code number old new seats h) ∙ map-append frame_told (sent_at old unit) (h.row ∷ [])
      ∙ ap (λ (c : Hrc). frames_at old unit ++ record { code = c; number = h.row.number } ∷ []) h.code_is
      ∙ ap (λ (n : ℕ). frames_at old unit ++ record { code = code; number = n } ∷ []) h.number_is;
  others = λ other apart. ap (λ (l : List FrameRow). map frame_told l) (rows_other unit code number old new seats h other apart);
  grows = (h.row ∷ [], rows_own unit code number old new seats h);
  rows = λ other apart. rows_other unit code number old new seats h other apart;
  since = λ other apart. since_one unit code number old new seats h other apart;
}

-- the frame of which a step tells
abbrev pub told_by : PortStep → List FrameTold
told_by (ports.Ends outcome) = frame_of outcome
told_by (ports.Waits did done) = []

sent_step : (unit : UnitId) (step : PortStep) (old new : LanValue) → new.seats ≡ old.seats → SendsAs unit step old new → Sends (told_by step) unit old new
sent_step unit (ports.Waits did done) old new seats h = none_sent unit old new seats h
sent_step unit (ports.Ends (outcomes.Frame code number)) old new seats h = one_sent unit code number old new seats h
sent_step unit (ports.Ends (outcomes.Granted credits)) old new seats h = none_sent unit old new seats h
sent_step unit (ports.Ends (outcomes.Rejected reason)) old new seats h = none_sent unit old new seats h
sent_step unit (ports.Ends outcomes.Lost) old new seats h = none_sent unit old new seats h
sent_step unit (ports.Ends outcomes.Unanswered) old new seats h = none_sent unit old new seats h
sent_step unit (ports.Ends (outcomes.Sent tag)) old new seats h = none_sent unit old new seats h
sent_step unit (ports.Ends outcomes.Range) old new seats h = none_sent unit old new seats h
sent_step unit (ports.Ends outcomes.NotLoggedIn) old new seats h = none_sent unit old new seats h
sent_step unit (ports.Ends (outcomes.NoCredit credits)) old new seats h = none_sent unit old new seats h
sent_step unit (ports.Ends (outcomes.Overlap tag)) old new seats h = none_sent unit old new seats h
sent_step unit (ports.Ends outcomes.Closed) old new seats h = none_sent unit old new seats h
sent_step unit (ports.Ends (outcomes.Dropped number held)) old new seats h = none_sent unit old new seats h
sent_step unit (ports.Ends (outcomes.Took count)) old new seats h = none_sent unit old new seats h
sent_step unit (ports.Ends (outcomes.TookThenLost count)) old new seats h = none_sent unit old new seats h
sent_step unit (ports.Ends (outcomes.Data len sum)) old new seats h = none_sent unit old new seats h
sent_step unit (ports.Ends (outcomes.Stale page)) old new seats h = none_sent unit old new seats h
sent_step unit (ports.Ends outcomes.Unknown) old new seats h = none_sent unit old new seats h
sent_step unit (ports.Ends (outcomes.Code code)) old new seats h = none_sent unit old new seats h
sent_step unit (ports.Ends (outcomes.Value value)) old new seats h = none_sent unit old new seats h
sent_step unit (ports.Ends (outcomes.Posted buffers code)) old new seats h = none_sent unit old new seats h
sent_step unit (ports.Ends outcomes.Done) old new seats h = none_sent unit old new seats h
sent_step unit (ports.Ends (outcomes.Bytes shown)) old new seats h = none_sent unit old new seats h

pub step_beside : (unit : UnitId) (step : PortStep) (before after : PortCounts) (old new : LanValue) → new.seats ≡ old.seats → SendsAs unit step old new
    → CountsOn unit before after old new → SameBeside unit old new → SameValuesBeside unit old new → RegionsGrow old new → (mark : ℕ)
    → LaysLine unit mark old new → IsBeside unit old new
step_beside unit step before after old new seats h k replays values regions mark lays other apart = record {
  frames = (sent_step unit step old new seats h).others other apart;
  counts = k.others other (not_same other unit apart);
  still = still_beside unit old new seats replays values other apart ((sent_step unit step old new seats h).rows other apart) k.grows
      ((sent_step unit step old new seats h).since other apart) (line_beside unit mark other old new apart regions lays);
}

-- a step that ended a line with a frame sent that frame
frame_sent : (unit : UnitId) (outcome : Outcome) (code : Hrc) (number : ℕ) (old new : LanValue) → new.seats ≡ old.seats → SendsAs unit (ports.Ends outcome) old new
    → steps.Ends outcome ≡ steps.Ends (outcomes.Frame code number) → SendsFrame unit number old new
frame_sent unit outcome code number old new seats sent e =
    by (subst (λ (o : Outcome). SendsAs unit (ports.Ends o) old new) (same_outcome outcome (outcomes.Frame code number) e) sent)
  where
    same_outcome : (x y : Outcome) → steps.Ends x ≡ steps.Ends y → x ≡ y
    same_outcome x y f = cc (f)

    by : SendsOne unit code number old new → SendsFrame unit number old new
    by h = record {
      row = h.row;
      number_is = h.number_is;
      kept = subst (λ (l : List FrameRow). Contains l h.row) (sym (rows_own unit code number old new seats h)) (Contains-push (sent_at old unit) h.row);
      offers = h.offers;
    }

-- what it says of the replay
pub replays_ended : (unit : UnitId) (verb : Verb) (done : ℕ) (outcome : Outcome) (old new : LanValue) → new.seats ≡ old.seats
    → SendsAs unit (ports.Ends outcome) old new → CountsStep unit verb done (ports.Ends outcome) old new → (is_put verb ≡ false → SameValues old new) → (IsFirst verb done → Replays unit verb (ports.Ends outcome) old new)
    → RegionsGrow old new → StepReplays unit verb done old new (steps.Ends outcome)
replays_ended unit verb done outcome old new seats sent counted values replays regions = record {
  seats = seats;
  values = λ none. values none unit;
  rows = (sent_step unit (ports.Ends outcome) old new seats sent).grows;
  grows = counted.grows unit;
  others = λ sender beside. (sent_step unit (ports.Ends outcome) old new seats sent).rows sender (apart_of sender unit beside);
  sends = λ replayed code number e. frame_sent unit outcome code number old new seats sent e;
  regions = regions unit;
  says = λ first seat able. (replays first seat able).says;
}

-- what it says of the bytes of frames
same_bytes : (old new : LanValue) (v : UnitId) → new.seats ≡ old.seats → new.frames ≡ old.frames → bytes_sent new v ≡ bytes_sent old v
same_bytes old new v seats frames = ap (λ (l : List FrameRow). map (λ (r : FrameRow). r.bytes) l) (same_rows old new v seats frames)

ends_sends : (unit : UnitId) (verb : Verb) (outcome : Outcome) (old new : LanValue) → new.seats ≡ old.seats → SendsAs unit (ports.Ends outcome) old new
    → StepsBytes unit verb (ports.Ends outcome) old new → StepSendsBytes unit verb old new (steps.Ends outcome)
ends_sends unit verb (outcomes.Frame code number) old new seats sent bytes = bytes
ends_sends unit verb outcome old new seats sent bytes = same_bytes old new unit seats sent

pub bytes_ended : (unit : UnitId) (verb : Verb) (outcome : Outcome) (old new : LanValue) → new.seats ≡ old.seats → SendsAs unit (ports.Ends outcome) old new
    → (puts_other verb ≡ false → NamesOwn old unit → NamesOwn new unit) → (NamesOwn old unit → StepsBytes unit verb (ports.Ends outcome) old new)
    → (NamesOwn old unit → KeepsAddresses unit old new) → StepBytes unit verb old new (steps.Ends outcome)
bytes_ended unit verb outcome old new seats sent names bytes addresses = record {
  names = names;
  addresses = addresses;
  sends = λ own. ends_sends unit verb outcome old new seats sent (bytes own);
}

-- where nothing was sent, posted or taken
pub all_silent : (own : UnitId) (old new : LanValue) → new.seats ≡ old.seats → new.frames ≡ old.frames → SameCounts old new → SameBeside own old new
    → MovesMac None (replay_at old own) (replay_at new own) → new.places ≡ old.places → AllSilent old new
all_silent own old new seats frames same beside mac places unit = record {
  frames = same_frames old new unit seats frames;
  counts = same.same unit;
  posted = same_posted unit old new same;
  posts = posts_same unit old new same;
  rows = same_rows old new unit seats frames;
  mac = by (same_unit unit own) refl;
  values = λ e. ap (λ ps. (facts_in ps unit).values e) places;
  regions = kept_placed unit old new places;
  seats = seats;
}
  where
    by : (b : Bool) → same_unit unit own ≡ b → MovesMac None (replay_at old unit) (replay_at new unit)
    by true e = subst (λ (u : UnitId). MovesMac None (replay_at old u) (replay_at new u)) (sym (one_unit unit own e)) mac
    by false e = mac_same None (replay_at old unit) (replay_at new unit) (ap (λ (r : PortReplay). r.settings) (beside unit e))

-- a port was closed
pub closes_beside : (unit : UnitId) (old new : LanValue) → new.seats ≡ old.seats → new.frames ≡ old.frames → SameCounts old new → SameBeside unit old new
    → new.places ≡ old.places → IsBeside unit old new
closes_beside unit old new seats frames same replays places other apart = record {
  frames = same_frames old new other seats frames;
  counts = same.same other;
  still = still_beside unit old new seats replays (λ v _ e. ap (λ ps. (facts_in ps v).values e) places) other apart
      (same_rows old new other seats frames) same.grows (since_same old new seats frames other) (kept_placed other old new places);
}

-- where frames were taken
pub takes_own : (unit : UnitId) (old new : LanValue) → new.seats ≡ old.seats → new.frames ≡ old.frames → TakesSome unit old new → SameReplays old new
    → new.places ≡ old.places → TakesOn old new unit
takes_own unit old new seats frames (n, h) replays places = record {
  frames = same_frames old new unit seats frames;
  posts = omega (arith, h.posts);
  taken = omega (arith, h.taken);
  still = still_all old new seats frames replays places h.grows unit;
}

pub takes_beside : (unit : UnitId) (old new : LanValue) → new.seats ≡ old.seats → new.frames ≡ old.frames → TakesSome unit old new → SameReplays old new
    → new.places ≡ old.places → IsBeside unit old new
takes_beside unit old new seats frames (n, h) replays places other apart = record {
  frames = same_frames old new other seats frames;
  counts = h.others other (not_same other unit apart);
  still = still_all old new seats frames replays places h.grows other;
}

-- a raw call
sent_called : (unit : UnitId) (code : Hrc) (number : Option ℕ) (old new : LanValue) → new.seats ≡ old.seats → SentAs unit code number old new
    → (other : UnitId) → other ≢ unit → sent_at new other ≡ sent_at old other
sent_called unit code None old new seats h other apart = same_rows old new other seats h
sent_called unit code (Some n) old new seats h other apart = rows_other unit code n old new seats h other apart

rows_called : (unit : UnitId) (call : PortCall) (code : Hrc) (old new : LanValue) → new.seats ≡ old.seats → SendsCalled unit call code old new
    → (other : UnitId) → other ≢ unit → sent_at new other ≡ sent_at old other
rows_called unit (calls.Send descriptors) code old new seats h other apart = sent_called unit code h.0 old new seats h.1 other apart
rows_called unit (calls.Entry call) code old new seats h other apart = same_rows old new other seats h
rows_called unit (calls.Register list queue filters mac) code old new seats h other apart = same_rows old new other seats h
rows_called unit calls.Free code old new seats h other apart = same_rows old new other seats h
rows_called unit (calls.Add descriptor) code old new seats h other apart = same_rows old new other seats h
rows_called unit (calls.Multicast control mac) code old new seats h other apart = same_rows old new other seats h
rows_called unit (calls.ChangeMac mac) code old new seats h other apart = same_rows old new other seats h

since_sent : (unit : UnitId) (code : Hrc) (number : Option ℕ) (old new : LanValue) → new.seats ≡ old.seats → SentAs unit code number old new
    → (other : UnitId) → other ≢ unit → OffersSince old new other
since_sent unit code None old new seats h other apart = since_same old new seats h other
since_sent unit code (Some n) old new seats h other apart = since_one unit code n old new seats h other apart

since_called : (unit : UnitId) (call : PortCall) (code : Hrc) (old new : LanValue) → new.seats ≡ old.seats → SendsCalled unit call code old new
    → (other : UnitId) → other ≢ unit → OffersSince old new other
since_called unit (calls.Send descriptors) code old new seats h other apart = since_sent unit code h.0 old new seats h.1 other apart
since_called unit (calls.Entry call) code old new seats h other apart = since_same old new seats h other
since_called unit (calls.Register list queue filters mac) code old new seats h other apart = since_same old new seats h other
since_called unit calls.Free code old new seats h other apart = since_same old new seats h other
since_called unit (calls.Add descriptor) code old new seats h other apart = since_same old new seats h other
since_called unit (calls.Multicast control mac) code old new seats h other apart = since_same old new seats h other
since_called unit (calls.ChangeMac mac) code old new seats h other apart = since_same old new seats h other

pub call_beside : (unit : UnitId) (call : PortCall) (code : Hrc) (before after : PortCounts) (old new : LanValue) → new.seats ≡ old.seats
    → SendsCalled unit call code old new → CountsOn unit before after old new → SameBeside unit old new → SameValuesBeside unit old new
    → RegionsKept old new → IsBeside unit old new
call_beside unit call code before after old new seats h k replays values regions other apart = record {
  frames = ap (λ (l : List FrameRow). map frame_told l) (rows_called unit call code old new seats h other apart);
  counts = k.others other (not_same other unit apart);
  still = still_beside unit old new seats replays values other apart (rows_called unit call code old new seats h other apart) k.grows
      (since_called unit call code old new seats h other apart) (regions other);
}
