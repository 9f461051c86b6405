-- What a raw call makes of the ports of its partition: the addresses that they have, and the offers to them.
use Rattle.std.proofs.Common.{◌≡◌, ◌≢◌, ◌⊎◌, inl, inr, ◌/◌, ◌==◌, ◌&&◌, ℕ, cond, Bool, true, false, List, [], append-nil, Option, Some, None, Result, Ok, Err, IfOk, OnOk, refl, sym, ◌∙◌, ap, ap₂, subst, arith, slice_index, if◌then◌else◌}
use Rattle.std.specs.List.{Contains}
use Rattle.std.proofs.lemmas.Bool.Decides.{nat_tests}
use Rattle.vio_num.specs.Words.{Begins}
use Rattle.vio_num.specs.declared.hypervisor.Hrc.{Hrc}
use Rattle.vio_num.specs.declared.hypervisor.Hrc.TheVariants.{Success}
use Rattle.vio_num.specs.declared.memory.NoMemory.{NoMemory}
use Rattle.vio_num.specs.declared.names.Mac.{Mac}
use Rattle.vio_num.specs.declared.names.UnitId.{UnitId}
use Rattle.boot_text.specs.declared.verb.Verb.{Verb}
use Rattle.boot_text.specs.declared.verb.Verb.TheVariants as verbs
use Rattle.hcall_table.specs.Named.{Place, here, is_here, is_of_window, is_there, low_unit, named, number_of, unit_named, unit_of as unit_asked}
use Rattle.hcall_table.specs.Rows.{further, row_of}
use Rattle.hcall_table.specs.declared.hcall.Hcall.{Hcall}
use Rattle.hcall_table.specs.declared.hcall.Hcall.TheVariants as rows
use Rattle.hcall_table.specs.declared.named.Named.{Named}
use Rattle.hcall_table.specs.declared.named.Named.TheVariants as names
use Rattle.hcall_table.specs.declared.returned.Returned.{Returned}
use Rattle.unit_region.specs.declared.step.Step.{Step}
use Rattle.unit_region.specs.declared.step.Step.TheVariants as steps
use Rattle.vio_trace.specs.declared.lan_rows.FrameRow.{FrameRow}
use Rattle.vio_trace.specs.declared.outcome.Outcome.{Outcome}
use Rattle.vio_trace.specs.declared.outcome.Outcome.TheVariants as outcomes
use Rattle.lan_script.specs.CalledMac.{low_mac, mac_called}
use Rattle.lan_script.specs.OwnMac.{MovesMac, changed_to, mac_at}
use Rattle.lan_script.specs.Buffers.{posted_at}
use Rattle.lan_script.specs.Entries.{ValuesGrow, values_at}
use Rattle.lan_script.specs.Invariant.{sent_by}
use Rattle.lan_script.specs.LineSays.{SentAs}
use Rattle.lan_script.specs.PortCounts.{CountsOn, PortCounts, SendsCalled, counts, counts_called, posted_on}
use Rattle.lan_script.specs.PortReplay.{PortReplay}
use Rattle.vcpu_run.specs.PortRegions.{RegionsKept}
use Rattle.lan_script.specs.Replayed.{SameBeside, replay_at}
use Rattle.lan_script.specs.Units.{LanValue}
use Rattle.lan_script.specs.Values.{SameValuesBeside}
use Rattle.lan_script.specs.declared.calls.PortCall.{PortCall}
use Rattle.lan_script.specs.declared.calls.PortCall.TheVariants as calls
use Rattle.lan_script.specs.declared.seat.PortSeat.{PortSeat}
use Rattle.lan_script.proofs.Laws.{grown_posted, mac_same, weaker_mac}
use Rattle.vcpu_run.specs.CallRows.{gives, says}
use Rattle.vcpu_run.specs.PortMacs.{CallsPort, CallsPorts, EndsPorts, IsOfCall, mac_asked}
use Rattle.vcpu_run.specs.PortReplays.{sent_at}
use Rattle.vcpu_run.specs.PortSteps.{IsBeside, IsIdle}
use Rattle.vcpu_run.specs.Ports.{unit_of}
use Rattle.vcpu_run.specs.RawCalls.{CallsBy, mac_of_row}
use Rattle.vcpu_run.specs.Suited.{is_call}
use Rattle.vcpu_run.proofs.PortPosting.{idle_posted}
use Rattle.vcpu_run.proofs.PortRising.{apart_of, call_beside}

-- a port that did nothing
still_called : (given : Option Mac) (unit : UnitId) (old new : LanValue) → IsIdle old new unit → CallsPort given unit old new
still_called given unit old new idle = record {
  seats = idle.still.seats;
  since = idle.still.offered;
  moves = mac_same given (replay_at old unit) (replay_at new unit) (ap (λ (r : PortReplay). r.settings) idle.still.replay);
  frames = ([], idle.still.rows ∙ sym (append-nil (sent_at old unit)));
  posted = ([], idle_posted old new unit idle ∙ sym (append-nil (posted_at old unit)));
  taken = omega (arith, ap (λ (c : PortCounts). c.taken) idle.counts);
  values = λ e. ([], idle.still.values e ∙ sym (append-nil (values_at old unit e)));
}

-- no port did anything
pub none_called : (given : Option Mac) (unit : UnitId) (lan : LanValue) → CallsPort given unit lan lan
none_called given unit lan = record {
  seats = refl;
  since = λ sender other row kept. inl kept;
  moves = mac_same given (replay_at lan unit) (replay_at lan unit) refl;
  frames = ([], sym (append-nil (sent_at lan unit)));
  posted = ([], sym (append-nil (posted_at lan unit)));
  taken = omega arith;
  values = λ e. ([], sym (append-nil (values_at lan unit e)));
}

pub ports_same : (partition unit : ℕ) (given : Option Mac) (lan : LanValue) → CallsPorts partition unit given lan lan
ports_same partition unit given lan u = none_called (cond (unit == u) given None) (unit_of partition u) lan

pub ports_still : (partition unit : ℕ) (r : Result Returned NoMemory) (lan : LanValue) → IfOk r (λ returned. CallsPorts partition unit None lan lan)
ports_still partition unit (Ok returned) lan = ports_same partition unit None lan
ports_still partition unit (Err memory) lan = tt

-- a call that gives more
weaker_called : (given : Option Mac) (unit : UnitId) (old new : LanValue) → CallsPort None unit old new → CallsPort given unit old new
weaker_called given unit old new h = record {
  seats = h.seats;
  since = h.since;
  moves = weaker_mac given (mac_at old unit) (mac_at new unit) h.moves;
  frames = h.frames;
  posted = h.posted;
  taken = h.taken;
  values = h.values;
}

-- the frames of a unit that made a call
sent_more : (unit : UnitId) (code : Hrc) (number : Option ℕ) (old new : LanValue) → new.seats ≡ old.seats → SentAs unit code number old new
    → Begins (sent_at old unit) (sent_at new unit)
sent_more unit code None old new seats same =
    ([], ap₂ (λ (ss : List PortSeat) (rows : List (List FrameRow)). sent_by ss rows unit) seats same ∙ sym (append-nil (sent_at old unit)))
sent_more unit code (Some number) old new seats sent =
    (_, ap (λ (ss : List PortSeat). sent_by ss new.frames unit) seats ∙ sent.sent unit)

called_sent : (unit : UnitId) (call : PortCall) (code : Hrc) (old new : LanValue) → new.seats ≡ old.seats → SendsCalled unit call code old new
    → Begins (sent_at old unit) (sent_at new unit)
called_sent unit (calls.Send descriptors) code old new seats sent = sent_more unit code sent.0 old new seats sent.1
called_sent unit (calls.Entry call) code old new seats same = sent_more unit code None old new seats same
called_sent unit (calls.Register list queue filters mac) code old new seats same = sent_more unit code None old new seats same
called_sent unit calls.Free code old new seats same = sent_more unit code None old new seats same
called_sent unit (calls.Add descriptor) code old new seats same = sent_more unit code None old new seats same
called_sent unit (calls.Multicast control mac) code old new seats same = sent_more unit code None old new seats same
called_sent unit (calls.ChangeMac mac) code old new seats same = sent_more unit code None old new seats same

-- no call takes a frame
none_called_taken : (call : PortCall) (code : Hrc) → (counts_called call code).taken ≡ 0
none_called_taken (calls.Add descriptor) code = by code
  where
    by : (c : Hrc) → (posted_on c).taken ≡ 0
    by Success = refl
    by c = refl
none_called_taken call code = refl

-- a call at a port: of its own address it makes what it gives, and of the others' nothing
pub port_called : (partition unit : ℕ) (call : PortCall) (code : Hrc) (old new : LanValue) → new.seats ≡ old.seats
    → CountsOn (unit_of partition unit) (counts 0 0) (counts_called call code) old new → SendsCalled (unit_of partition unit) call code old new
    → SameBeside (unit_of partition unit) old new → ValuesGrow (unit_of partition unit) old new → SameValuesBeside (unit_of partition unit) old new → RegionsKept old new
    → MovesMac (mac_called call code) (replay_at old (unit_of partition unit)) (replay_at new (unit_of partition unit))
    → CallsPorts partition unit (mac_called call code) old new
port_called partition unit call code old new seats counted sent replays grows values regions moves u = by (unit == u) refl
  where
    beside : IsBeside (unit_of partition unit) old new
    beside = call_beside (unit_of partition unit) call code (counts 0 0) (counts_called call code) old new seats sent counted replays values
        regions

    own : CallsPort (mac_called call code) (unit_of partition unit) old new
    own = record {
      seats = seats;
      since = λ sender apart row kept.
          inl (subst (λ (l : List FrameRow). Contains l row) (beside sender (apart_of sender (unit_of partition unit) apart)).still.rows kept);
      moves = moves;
      frames = called_sent (unit_of partition unit) call code old new seats sent;
      posted = grown_posted old new (unit_of partition unit) counted.grows;
      taken = omega (arith, counted.taken, none_called_taken call code);
      values = grows;
    }

    other : (unit == u) ≡ false → unit_of partition u ≢ unit_of partition unit
    other e same = grind (arith, nat_tests, e, ap (λ (id : UnitId). id.unit) same)

    same_of : (unit == u) ≡ true → unit ≡ u
    same_of e = grind (arith, nat_tests, e)

    by : (b : Bool) → (unit == u) ≡ b → CallsPort (cond b (mac_called call code) None) (unit_of partition u) old new
    by true e = subst (λ n. CallsPort (mac_called call code) (unit_of partition n) old new) (same_of e) own
    by false e = still_called None (unit_of partition u) old new (beside (unit_of partition u) (other e))

pub port_called_ok : (partition unit : ℕ) (id : UnitId) (call : PortCall) (r : Result Returned NoMemory) (old new : LanValue) → id ≡ unit_of partition unit
    → new.seats ≡ old.seats
    → IfOk r (λ returned. CountsOn id (counts 0 0) (counts_called call returned.code) old new) → IfOk r (λ returned. SendsCalled id call returned.code old new)
    → OnOk r (SameBeside id old new) → OnOk r (ValuesGrow id old new) → OnOk r (SameValuesBeside id old new) → OnOk r (RegionsKept old new)
    → IfOk r (λ returned. MovesMac (mac_called call returned.code) (replay_at old id) (replay_at new id))
    → IfOk r (λ returned. CallsPorts partition unit (mac_called call returned.code) old new)
port_called_ok partition unit id call (Err memory) old new is seats counted sent replays grows values regions moves = tt
port_called_ok partition unit id call (Ok returned) old new is seats counted sent replays grows values regions moves =
    port_called partition unit call returned.code old new seats
    (subst (λ (i : UnitId). CountsOn i (counts 0 0) (counts_called call returned.code) old new) is counted)
    (subst (λ (i : UnitId). SendsCalled i call returned.code old new) is sent) (subst (λ (i : UnitId). SameBeside i old new) is replays)
    (subst (λ (i : UnitId). ValuesGrow i old new) is grows) (subst (λ (i : UnitId). SameValuesBeside i old new) is values) regions
    (subst (λ (i : UnitId). MovesMac (mac_called call returned.code) (replay_at old i) (replay_at new i)) is moves)

-- ---- which unit a call names

-- the address of a unit names it alone
address_of : (number : ℕ) → number / 65536 ≡ 0x3000 → number ≡ number_of (names.Unit (low_unit number))
address_of number e = omega (arith, e)

-- a number that names a unit is its address
named_unit : (number : ℕ) (id : UnitId) → named number ≡ Some (names.Unit id) → number ≡ number_of (names.Unit id)
named_unit number id e = by (number / 65536 == 0x3000) refl e
  where
    unit_is : (a b : UnitId) → Some (names.Unit a) ≡ Some (names.Unit b) → a ≡ b
    unit_is a b f = cc (f)

    last : (d : Bool) → (cond d (Some (names.ClientWindow (low_unit number))) None) ≡ Some (names.Unit id) → ⊥
    last true f = cc (f)
    last false f = cc (f)

    rest : (c d : Bool) → (cond c (Some (names.OwnWindow (low_unit number))) (cond d (Some (names.ClientWindow (low_unit number))) None)) ≡ Some (names.Unit id) → ⊥
    rest true d f = cc (f)
    rest false d f = last d f

    by : (b : Bool) → (number / 65536 == 0x3000) ≡ b
        → cond b (Some (names.Unit (low_unit number)))
        (cond (number / 65536 == 0x1000) (Some (names.OwnWindow (low_unit number))) (cond (number / 65536 == 0x2000) (Some (names.ClientWindow (low_unit number))) None))
        ≡ Some (names.Unit id) → number ≡ number_of (names.Unit id)
    by true t f = address_of number (grind (arith, nat_tests, t)) ∙ ap (λ (u : UnitId). number_of (names.Unit u)) (unit_is (low_unit number) id f)
    by false t f = absurd (rest (number / 65536 == 0x1000) (number / 65536 == 0x2000) f)

-- a unit of a place is of its partition
nothing : (unit : ℕ) → None ≡ Some unit → ⊥
nothing unit e = cc (e)

first_of : (a b : Bool) → (a && b) ≡ true → a ≡ true
first_of true b e = refl
first_of false b e = absurd (cc (e))

here_is : (place : Place) (row : Hcall) (id : UnitId) (unit : ℕ) → here place row id ≡ Some unit → (id.partition ≡ place.partition) × (id.unit ≡ unit)
here_is place row id unit e = by (is_here place row id) refl e
  where
    some_is : (a b : ℕ) → Some a ≡ Some b → a ≡ b
    some_is a b f = cc (f)

    same_of : (id.partition == place.partition) ≡ true → id.partition ≡ place.partition
    same_of t = grind (arith, nat_tests, t)

    by : (b : Bool) → is_here place row id ≡ b → cond b (Some id.unit) None ≡ Some unit → (id.partition ≡ place.partition) × (id.unit ≡ unit)
    by true u f = (same_of (first_of (id.partition == place.partition) (is_there row (place.kind id.unit)) u), some_is id.unit unit f)
    by false u f = absurd (nothing unit f)

-- a row of ports names its unit by the address
port_named : (place : Place) (row : Hcall) (number unit : ℕ) → is_of_window row ≡ false → (o : Option Named) → named number ≡ o
    → unit_named place row o ≡ Some unit → number ≡ number_of (names.Unit (unit_of place.partition unit))
port_named place row number unit other (Some (names.Unit id)) e f =
    named_unit number id e
    ∙ ap (λ (u : UnitId). number_of (names.Unit u)) (id_is (here_is place row id unit (ap (λ b. cond b None (here place row id)) (sym other) ∙ f)))
  where
    id_is : (id.partition ≡ place.partition) × (id.unit ≡ unit) → id ≡ unit_of place.partition unit
    id_is (p, u) = ap₂ (λ (a b : ℕ). unit_of a b) p u
port_named place row number unit other (Some (names.OwnWindow id)) e f =
    absurd (nothing unit (ap (λ b. cond b (here place row id) None) (sym other) ∙ f))
port_named place row number unit other (Some (names.ClientWindow id)) e f = absurd (nothing unit f)
port_named place row number unit other None e f = absurd (nothing unit f)

-- ---- a call by its number and its arguments

-- at the unit that it names a call gives what it was asked to give
asked_at : (number : ℕ) (id : UnitId) (given : Option Mac) → number ≡ number_of (names.Unit id) → given ≡ cond (number == number_of (names.Unit id)) given None
asked_at number id given e = by (number == number_of (names.Unit id)) refl
  where
    by : (b : Bool) → (number == number_of (names.Unit id)) ≡ b → given ≡ cond b given None
    by true t = refl
    by false t = absurd (grind (arith, nat_tests, t, e))

asked_row : (place : Place) (row : Hcall) (args : List ℕ) (unit : ℕ) (code : Hrc) → unit_asked place row args ≡ Some unit
    → (mac_of_row row (further row args) code ≡ None)
    ⊎ (mac_of_row row (further row args) code ≡ mac_asked (unit_of place.partition unit) (Some row) args (outcomes.Code code))
asked_row place rows.RegisterLogicalLan args unit code e =
    inr (asked_at (slice_index args 0) (unit_of place.partition unit) (changed_to (low_mac (slice_index args 4)) (outcomes.Code code))
    (port_named place rows.RegisterLogicalLan (slice_index args 0) unit refl (named (slice_index args 0)) refl e))
asked_row place rows.ChangeLogicalLanMac args unit code e =
    inr (asked_at (slice_index args 0) (unit_of place.partition unit) (changed_to (low_mac (slice_index args 1)) (outcomes.Code code))
    (port_named place rows.ChangeLogicalLanMac (slice_index args 0) unit refl (named (slice_index args 0)) refl e))
asked_row place rows.GetTce args unit code e = inl refl
asked_row place rows.PutTce args unit code e = inl refl
asked_row place rows.StuffTce args unit code e = inl refl
asked_row place rows.PutTceIndirect args unit code e = inl refl
asked_row place rows.RegCrq args unit code e = inl refl
asked_row place rows.FreeCrq args unit code e = inl refl
asked_row place rows.SendCrq args unit code e = inl refl
asked_row place rows.EnableCrq args unit code e = inl refl
asked_row place rows.CopyRdma args unit code e = inl refl
asked_row place rows.FreeLogicalLan args unit code e = inl refl
asked_row place rows.AddLogicalLanBuffer args unit code e = inl refl
asked_row place rows.SendLogicalLan args unit code e = inl refl
asked_row place rows.MulticastCtrl args unit code e = inl refl

-- a call of a row, of each port of the partition
pub row_called : (place : Place) (row : Hcall) (args : List ℕ) (unit : ℕ) (code : Hrc) (old new : LanValue) → unit_asked place row args ≡ Some unit
    → CallsPorts place.partition unit (mac_of_row row (further row args) code) old new
    → (u : ℕ) → CallsPort (mac_asked (unit_of place.partition u) (Some row) args (outcomes.Code code)) (unit_of place.partition u) old new
row_called place row args unit code old new e h u = by (unit == u) refl (h u)
  where
    given : Option Mac
    given = mac_of_row row (further row args) code

    same_of : (unit == u) ≡ true → unit ≡ u
    same_of t = grind (arith, nat_tests, t)

    own : (given ≡ None) ⊎ (given ≡ mac_asked (unit_of place.partition unit) (Some row) args (outcomes.Code code))
        → CallsPort given (unit_of place.partition unit) old new
        → CallsPort (mac_asked (unit_of place.partition unit) (Some row) args (outcomes.Code code)) (unit_of place.partition unit) old new
    own (inl none) k =
        weaker_called (mac_asked (unit_of place.partition unit) (Some row) args (outcomes.Code code)) (unit_of place.partition unit) old new
        (subst (λ (g : Option Mac). CallsPort g (unit_of place.partition unit) old new) none k)
    own (inr is) k = subst (λ (g : Option Mac). CallsPort g (unit_of place.partition unit) old new) is k

    by : (b : Bool) → (unit == u) ≡ b → CallsPort (cond b given None) (unit_of place.partition u) old new
        → CallsPort (mac_asked (unit_of place.partition u) (Some row) args (outcomes.Code code)) (unit_of place.partition u) old new
    by true t k =
        subst (λ n. CallsPort (mac_asked (unit_of place.partition n) (Some row) args (outcomes.Code code)) (unit_of place.partition n) old new) (same_of t)
        (own (asked_row place row args unit code e) (subst (λ n. CallsPort given (unit_of place.partition n) old new) (sym (same_of t)) k))
    by false t k = weaker_called (mac_asked (unit_of place.partition u) (Some row) args (outcomes.Code code)) (unit_of place.partition u) old new k

-- a record says as much of a call's address as the call's code
says_given : (unit : UnitId) (row : Option Hcall) (args : List ℕ) (returned : Returned)
    → mac_asked unit row args (if gives row returned.code then outcomes.Value returned.r4 else outcomes.Code returned.code) ≡ mac_asked unit row args (outcomes.Code returned.code)
says_given unit None args returned = refl
says_given unit (Some rows.RegisterLogicalLan) args returned = refl
says_given unit (Some rows.ChangeLogicalLanMac) args returned = refl
says_given unit (Some rows.GetTce) args returned = refl
says_given unit (Some rows.PutTce) args returned = refl
says_given unit (Some rows.StuffTce) args returned = refl
says_given unit (Some rows.PutTceIndirect) args returned = refl
says_given unit (Some rows.RegCrq) args returned = refl
says_given unit (Some rows.FreeCrq) args returned = refl
says_given unit (Some rows.SendCrq) args returned = refl
says_given unit (Some rows.EnableCrq) args returned = refl
says_given unit (Some rows.CopyRdma) args returned = refl
says_given unit (Some rows.FreeLogicalLan) args returned = refl
says_given unit (Some rows.AddLogicalLanBuffer) args returned = refl
says_given unit (Some rows.SendLogicalLan) args returned = refl
says_given unit (Some rows.MulticastCtrl) args returned = refl

pub ends_ports : (partition number : ℕ) (args : List ℕ) (old new later : LanValue) (returned : Returned) (outcome : Outcome) → later ≡ new
    → outcome ≡ says number returned → CallsBy partition number args old new returned
    → EndsPorts partition (verbs.Hcall number args) old later (steps.Ends outcome)
ends_ports partition number args old new later returned outcome same is h =
    (subst IsOfCall (sym is) (of_call (gives (row_of number) returned.code)), ports)
  where
    of_call : (b : Bool) → IsOfCall (cond b (outcomes.Value returned.r4) (outcomes.Code returned.code))
    of_call true = tt
    of_call false = tt

    ports : (u : ℕ) → CallsPort (mac_asked (unit_of partition u) (row_of number) args outcome) (unit_of partition u) old later
    ports u =
        subst (λ (l : LanValue). CallsPort (mac_asked (unit_of partition u) (row_of number) args outcome) (unit_of partition u) old l) (sym same)
        (subst (λ (g : Option Mac). CallsPort g (unit_of partition u) old new)
        (sym (ap (mac_asked (unit_of partition u) (row_of number) args) is ∙ says_given (unit_of partition u) (row_of number) args returned)) (h u))

-- a step of a line that makes a call, and of one that makes none
pub called_ports : (partition : ℕ) (verb made : Verb) (r : Result Step NoMemory) (old new : LanValue) → verb ≡ made → IfOk r (EndsPorts partition made old new)
    → IfOk r (λ step. is_call verb ≡ true → EndsPorts partition verb old new step)
called_ports partition verb made (Err memory) old new is h = tt
called_ports partition verb made (Ok step) old new is h = λ call. subst (λ (v : Verb). EndsPorts partition v old new step) (sym is) h

pub uncalled_ports : (partition : ℕ) (verb : Verb) (r : Result Step NoMemory) (old new : LanValue) → is_call verb ≡ false
    → IfOk r (λ step. is_call verb ≡ true → EndsPorts partition verb old new step)
uncalled_ports partition verb (Err memory) old new none = tt
uncalled_ports partition verb (Ok step) old new none = λ call. absurd (not_both (is_call verb) call none)
  where
    not_both : (b : Bool) → b ≡ true → b ≡ false → ⊥
    not_both b is isnt = cc
