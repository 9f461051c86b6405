-- What steps of lines say in the replay of their port.
use Rattle.std.proofs.Common.{◌≡◌, ◌+◌, ◌-◌, ◌*◌, ◌/◌, ◌%◌, ◌≤◌, ◌<◌, ◌++◌, get_or, length, slice_index, take, inr, ℕ, arith, All, true, false, IsSome, List, [], ◌∷◌, min, Option, Some, None, refl, sym, ◌∙◌, ap, subst}
use Rattle.std.proofs.lemmas.List.{append_assoc, append_cancel_left}
use Rattle.std.proofs.lemmas.List.Elements.{All-cons, All-nil}
use Rattle.vio_num.specs.declared.hypervisor.Hrc.{Hrc}
use Rattle.vio_num.specs.declared.hypervisor.Hrc.TheVariants.{Success, Busy}
use Rattle.vio_num.specs.declared.names.Mac.{Mac}
use Rattle.vio_num.specs.declared.names.UnitId.{UnitId}
use Rattle.boot_text.specs.declared.verb.Verb.{Verb}
use Rattle.boot_text.specs.declared.verb.Verb.TheVariants as verbs
use Rattle.vio_trace.specs.declared.outcome.Outcome.{Outcome}
use Rattle.vio_trace.specs.declared.outcome.Outcome.TheVariants as outcomes
use Rattle.unit_region.specs.Pattern.{pattern}
use Rattle.lan_frame.specs.Station.{IsGroup, destination_of}
use Rattle.lan_buffers.specs.Buffer.{buffer_address, buffer_len, is_valid}
use Rattle.lan_switch.specs.Source.{parts_of}
use Rattle.lan_buffers.specs.declared.settings.Settings.{Settings}
use Rattle.lan_switch.specs.Calls.{IsOwnAddress}
use Rattle.lan_script.specs.declared.lines.PortStep.{PortStep}
use Rattle.lan_script.specs.declared.lines.PortStep.TheVariants as steps
use Rattle.lan_script.specs.declared.seat.PortSeat.{PortSeat}
use Rattle.lan_script.specs.PortReplay.{FitsAll, IsBufferLen, IsOn, LineSays, OpenSays, PortReplay, SendsFrom, SendsNext}
use Rattle.lan_script.specs.Replayed.{AddSays, GoesOut, GrantsAll, HasPosted, IsOnePart, IsReplayable, MayGoOut, OpensAt, Replays, ReplaysOn, SameBeside, SameReplays, SendsFrame, SendsShown, SentSays, Shows, StepSays, is_replayed, replay_at}
use Rattle.lan_script.specs.LineFrame.{line_frame}
use Rattle.lan_script.specs.LineSays.{SaysSent}
use Rattle.lan_switch.specs.Switch.{same_unit}
use Rattle.lan_script.specs.Seats.{seat_at}
use Rattle.lan_script.specs.Units.{LanValue}
use Rattle.lan_script.specs.Values.{NamesOwn}
use Rattle.lan_script.specs.PortCounts.{CountsOn, PortCounts, counts, counts_after, posted_on}
use Rattle.lan_script.proofs.CountedCalls.{no_post}
use Rattle.lan_script.proofs.CountsKept.{counts_more, counts_on}
use Rattle.lan_script.proofs.Placing.{same_some}

-- a step that ends its line so
pub ends_on : (unit : UnitId) (seat : PortSeat) (verb : Verb) (step : PortStep) (outcome : Outcome) (old new : LanValue) → step ≡ steps.Ends outcome
    → ReplaysOn unit (LineSays seat verb outcome) old new → ReplaysOn unit (StepSays seat verb step) old new
ends_on unit seat verb step outcome old new e h = subst (λ (s : PortStep). ReplaysOn unit (StepSays seat verb s) old new) (sym e) h

-- none of these lines tells that another is at work
open_ends : (mac : Mac) (o : Option Settings) (code : Hrc) (a b : PortReplay) → OpenSays mac o (outcomes.Code code) a b → code ≡ Busy → ⊥
open_ends mac None code a b h e = cc (h.outcome_is, e)
open_ends mac (Some settings) code a b h e = cc (h.outcome_is, e)

-- a step that ends with a code, unless another is at work
abbrev pub IsCoded : Hrc → PortStep → Type 0
IsCoded code step = (code ≡ Busy → ⊥) → step ≡ steps.Ends (outcomes.Code code)

pub open_line : (unit : UnitId) (own : PortSeat) (queue : ℕ) (code : Hrc) (step : PortStep) (old new : LanValue) → seat_at old.seats unit ≡ Some own
    → is_valid queue ≡ true → buffer_len queue ≡ 16 * own.slots → IsCoded code step → OpensAt unit 0 queue 0 own.mac code old new
    → Replays unit verbs.Open step old new
open_line unit own queue code step old new at valid long coded h seat is = by (same_some own seat (sym at ∙ is.is))
  where
    by : own ≡ seat → ReplaysOn unit (StepSays seat verbs.Open step) old new
    by e =
        let opens = h own at (record { list_at = refl; filters_at = refl; valid = valid; long = long; own = subst (λ (s : PortSeat). IsOwnAddress s.mac) (sym e) is.own }) in
        subst (λ (s : PortSeat). ReplaysOn unit (StepSays s verbs.Open step) old new) e
        (ends_on unit own verbs.Open step (outcomes.Code code) old new
        (coded (open_ends own.mac (replay_at old unit).settings code (replay_at old unit) (replay_at new unit) opens.says)) opens)

-- a line that is none of the replay leaves the port where it stood
says_none : (seat : PortSeat) (verb : Verb) (step : PortStep) (a b : PortReplay) → is_replayed verb ≡ false → b ≡ a → StepSays seat verb step a b
says_none seat verb (steps.Waits did done) a b none same = (none, same)
says_none seat verb (steps.Ends outcome) a b none same = by verb none
  where
    by : (v : Verb) → is_replayed v ≡ false → LineSays seat v outcome a b
    by verbs.Open e = absurd (cc (e))
    by verbs.Close e = absurd (cc (e))
    by (verbs.ChangeMac mac) e = absurd (cc (e))
    by (verbs.Multicast control mac) e = absurd (cc (e))
    by (verbs.Post at len count) e = absurd (cc (e))
    by (verbs.Send mac len seed at) e = absurd (cc (e))
    by v e = same

pub same_beside : (unit : UnitId) (old new : LanValue) → SameReplays old new → SameBeside unit old new
same_beside unit old new same other e = same other

-- a line of posts that ends with a refusal
pub post_refused : (unit : UnitId) (at len count posted : ℕ) (code : Hrc) (step : PortStep) (old mid new : LanValue)
    → step ≡ steps.Ends (outcomes.Posted posted code) → (code ≡ Success → ⊥) → (((IsOn (replay_at old unit) × IsBufferLen len) → ⊥) → posted ≡ 0)
    → ReplaysOn unit (HasPosted len posted) old mid → ReplaysOn unit (AddSays len (IsBufferLen len) code) mid new
    → ((seat : PortSeat) → IsReplayable seat old unit → FitsAll seat at len count (replay_at old unit) → code ≡ Success)
    → Replays unit (verbs.Post at len count) step old new
post_refused unit at len count posted code step old mid new e not first h k fits seat is =
    ends_on unit seat (verbs.Post at len count) step (outcomes.Posted posted code) old new e
    (record {
      says = record {
        posted = posted;
        code = code;
        outcome_is = refl;
        left_is = k.says.refused not ∙ h.says;
        refused = λ none. (first none, k.says.parameter (λ both. none (subst (λ (a : PortReplay). IsOn a) h.says both.0, both.1)));
        done = λ all. absurd (not (fits seat is all));
      };
      beside = λ other f. k.beside other f ∙ h.beside other f;
    })

-- a call that succeeds finds the port open, and the length one of a buffer
pub add_allowed : (unit : UnitId) (len posted : ℕ) (code : Hrc) (old mid new : LanValue) → code ≡ Success → ReplaysOn unit (HasPosted len posted) old mid
    → ReplaysOn unit (AddSays len (IsBufferLen len) code) mid new → ((IsOn (replay_at old unit) × IsBufferLen len) → ⊥) → ⊥
add_allowed unit len posted code old mid new e h k none =
    absurd (cc (e, k.says.parameter (λ both. none (subst (λ (a : PortReplay). IsOn a) h.says both.0, both.1))))

-- the part of a line's frame
pub one_part : (part at len : ℕ) → is_valid part ≡ true → buffer_address part ≡ at → buffer_len part ≡ len → 14 ≤ len → len ≤ 65527
    → IsOnePart at len (part ∷ 0 ∷ 0 ∷ 0 ∷ 0 ∷ 0 ∷ [])
one_part part at len valid at_is len_is least most =
    record { part = part; alone = alone valid; at_is = at_is; len_is = len_is; sized = (least, most) }
  where
    alone : is_valid part ≡ true → parts_of (part ∷ 0 ∷ 0 ∷ 0 ∷ 0 ∷ 0 ∷ []) ≡ part ∷ []
    alone e = rw e refl

-- what a step says of a call that sent
pub record SaysCall (code : Hrc) (number : Option ℕ) (step : PortStep) : Type 0 where
  pub sent : SaysSent code number step
  pub coded : number ≡ None → (code ≡ Busy → ⊥) → step ≡ steps.Ends (outcomes.Code code)

-- What a line wrote before it sent: the frame, from the present address of the port.
pub record WritesLine (unit : UnitId) (to from : Mac) (len seed at : ℕ) (bytes : List ℕ) (old mid : LanValue) : Type 0 where
  pub few : length to.bytes ≡ 6
  pub long : length bytes ≡ len
  pub bytes_are : bytes ≡ line_frame to from (len - 14) seed
  pub present : (settings : Settings) → (replay_at old unit).settings ≡ Some settings → from ≡ settings.mac
  pub shown : Shows mid.places unit at bytes

first_of : (to : List ℕ) (more : List ℕ) → length to ≡ 6 → slice_index (take 6 (to ++ more)) 0 ≡ slice_index to 0
first_of [] more few = absurd (omega (arith, few))
first_of (b ∷ to) more few = refl

-- whom the frame of a line is for
for_group : (to from : Mac) (len seed : ℕ) → length to.bytes ≡ 6 → IsGroup to → IsGroup (record { bytes = destination_of (line_frame to from len seed) })
for_group to from len seed few group =
    ap (λ (l : List ℕ). slice_index (take 6 l) 0 % 2)
    (append_assoc (to.bytes ++ from.bytes) (0x88 ∷ 0xB5 ∷ []) (pattern seed len) ∙ append_assoc to.bytes from.bytes ((0x88 ∷ 0xB5 ∷ []) ++ pattern seed len))
    ∙ ap (λ (n : ℕ). n % 2) (first_of to.bytes (from.bytes ++ ((0x88 ∷ 0xB5 ∷ []) ++ pattern seed len)) few) ∙ group

same_last : (front : List (List ℕ)) (a b : List ℕ) → front ++ a ∷ [] ≡ front ++ b ∷ [] → a ≡ b
same_last front a b e = ap (λ (l : List (List ℕ)). get_or l 0 a) (append_cancel_left front (a ∷ []) (b ∷ []) e)

-- a frame that was sent, and has the bytes that the line wrote, is that of the line
sends_next : (settings : Settings) (to from : Mac) (len seed : ℕ) (bytes : List ℕ) (code : Hrc) (n : ℕ) (old mid new : PortReplay) → mid ≡ old
    → length to.bytes ≡ 6 → bytes ≡ line_frame to from (len - 14) seed → from ≡ settings.mac → SendsFrame code n mid new → new.frames ≡ mid.frames ++ bytes ∷ []
    → SendsNext settings to len seed (outcomes.Frame code n) old new
sends_next settings to from len seed bytes code n old mid new same few is own h grown =
    let line : bytes ≡ line_frame to settings.mac (len - 14) seed = is ∙ ap (λ (m : Mac). line_frame to m (len - 14) seed) own in
    record {
      code = code;
      outcome_is = ap (λ m. outcomes.Frame code m) (h.number_is ∙ ap (λ (a : PortReplay). length a.frames + 1) same);
      left_is = h.left_is ∙ ap (λ (l : List (List ℕ)). record mid { frames = l }) (ap (λ (a : PortReplay). a.frames) (sym h.left_is) ∙ grown)
          ∙ ap (λ (a : PortReplay). record a { frames = a.frames ++ bytes ∷ [] }) same
          ∙ ap (λ (b : List ℕ). record old { frames = old.frames ++ b ∷ [] }) line;
      code_is = h.code_is;
      group = λ group. h.group (subst (λ (b : List ℕ). IsGroup (record { bytes = destination_of b })) (sym (bytes_are h ∙ is)) (for_group to from (len - 14) seed few group));
    }
  where
    bytes_are : (k : SendsFrame code n mid new) → k.bytes ≡ bytes
    bytes_are k = same_last mid.frames k.bytes bytes (ap (λ (a : PortReplay). a.frames) (sym k.left_is) ∙ grown)

-- a window that grants each of its own pages names them
pub names_own : (lan : LanValue) (unit : UnitId) → GrantsAll lan unit → NamesOwn lan unit
names_own lan unit grants e =
    subst (λ (l : List ℕ). All (λ v. v / 4096 ≡ e) l) (sym (grants e)) (All-cons (λ (v : ℕ). v / 4096 ≡ e) (4096 * e + 3) [] (omega arith) (All-nil (λ (v : ℕ). v / 4096 ≡ e)))

-- a line whose frame was written, and was given to the switch
pub send_goes : (unit : UnitId) (to from : Mac) (len seed at : ℕ) (bytes : List ℕ) (parts : List ℕ) (code : Hrc) (number : Option ℕ) (step : PortStep)
    (old mid new : LanValue) → ((seat : PortSeat) → seat_at old.seats unit ≡ Some seat → at + len ≤ 4096 * seat.pages) → IsOnePart at len parts
    → mid.seats ≡ old.seats → SameReplays old mid → (GrantsAll old unit → GrantsAll mid unit) → WritesLine unit to from len seed at bytes old mid
    → ReplaysOn unit (SentSays code number) mid new → SendsShown unit parts number mid new → GoesOut mid unit parts code number
    → SaysCall code number step → Replays unit (verbs.Send to len seed at) step old new
send_goes unit to from len seed at bytes parts code number step old mid new inside part seats same grants wrote sent shown goes says seat is =
    by (replay_at old unit).settings refl
  where
    beside : (other : UnitId) → same_unit other unit ≡ false → replay_at new other ≡ replay_at old other
    beside other e = sent.beside other e ∙ same other

    open_still : (replay_at mid unit).settings ≡ (replay_at old unit).settings
    open_still = ap (λ (a : PortReplay). a.settings) (same unit)

    ends : (outcome : Outcome) → SendsFrom (replay_at old unit).settings to len seed outcome (replay_at old unit) (replay_at new unit) → step ≡ steps.Ends outcome
        → ReplaysOn unit (StepSays seat (verbs.Send to len seed at) step) old new
    ends outcome h e = ends_on unit seat (verbs.Send to len seed at) step outcome old new e (record { says = inr (inside seat is.is, h); beside = beside })

    closed : (number : Option ℕ) → number ≡ None → SentSays code number (replay_at mid unit) (replay_at new unit) → replay_at new unit ≡ replay_at old unit
    closed None e h = h ∙ same unit
    closed (Some n) e h = absurd (cc (e))

    going : (settings : Settings) → (replay_at old unit).settings ≡ Some settings → MayGoOut mid unit parts
    going settings e = record {
      opened = subst (λ (o : Option Settings). IsSome o) (sym (open_still ∙ e)) refl;
      grants = grants is.grants;
      seat = seat;
      seat_is = ap (λ l. seat_at l unit) seats ∙ is.is;
      at = at;
      len = len;
      part = part;
      inside = inside seat is.is;
    }

    goes_as : (settings : Settings) → (replay_at old unit).settings ≡ Some settings → (o : Option ℕ) → number ≡ o → IsSome o
        → ReplaysOn unit (StepSays seat (verbs.Send to len seed at) step) old new
    goes_as settings e None f some = absurd (cc (some))
    goes_as settings e (Some n) f some =
        ends (outcomes.Frame code n)
        (subst (λ (o : Option Settings). SendsFrom o to len seed (outcomes.Frame code n) (replay_at old unit) (replay_at new unit)) (sym e)
        (sends_next settings to from len seed bytes code n (replay_at old unit) (replay_at mid unit) (replay_at new unit) (same unit) wrote.few wrote.bytes_are
        (wrote.present settings e)
        (subst (λ (o : Option ℕ). SentSays code o (replay_at mid unit) (replay_at new unit)) f sent.says)
        (shown (subst (λ (o : Option ℕ). IsSome o) (sym f) some) at bytes (subst (λ (l : ℕ). IsOnePart at l parts) (sym wrote.long) part) (names_own mid unit (grants is.grants)) wrote.shown)))
        (subst (λ (o : Option ℕ). SaysSent code o step) f says.sent)

    by : (o : Option Settings) → (replay_at old unit).settings ≡ o → ReplaysOn unit (StepSays seat (verbs.Send to len seed at) step) old new
    by None e =
        let k = goes.closed (open_still ∙ e) in
        ends (outcomes.Code code)
        (subst (λ (o : Option Settings). SendsFrom o to len seed (outcomes.Code code) (replay_at old unit) (replay_at new unit)) (sym e)
        (record { outcome_is = ap (λ (x : Hrc). outcomes.Code x) k.0; left_is = closed number k.1 sent.says }))
        (says.coded k.1 (λ busy. cc (busy, k.0)))
    by (Some settings) e = goes_as settings e number refl (goes.numbered (going settings e))

-- what such a line adds to the counts
pub refused_counts : (unit : UnitId) (before : PortCounts) (at len count posted : ℕ) (code : Hrc) (step : PortStep) (old mid new : LanValue)
    → step ≡ steps.Ends (outcomes.Posted posted code) → (code ≡ Success → ⊥) → posted < count → CountsOn unit before (counts (min posted count) 0) old mid
    → CountsOn unit (counts 0 0) (posted_on code) mid new → CountsOn unit before (counts_after (verbs.Post at len count) step) old new
refused_counts unit before at len count posted code step old mid new e not less h k =
    subst (λ (s : PortStep). CountsOn unit before (counts_after (verbs.Post at len count) s) old new) (sym e)
    (counts_on unit before (counts posted 0) (counts posted 0) old mid new
    (subst (λ n. CountsOn unit before (counts n 0) old mid) least h)
    (counts_more unit (counts 0 0) (counts 0 0) (counts posted 0) (counts posted 0) mid new
    (subst (λ (d : PortCounts). CountsOn unit (counts 0 0) d mid new) (no_post code not) k) (omega arith) (omega arith)))
  where
    least : min posted count ≡ posted
    least = omega (arith, less)
