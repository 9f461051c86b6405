-- What the lines of LAN units tell is what a gathered trace shows of their ports.
use Rattle.std.proofs.Common.{◌≡◌, ◌∙◌, ◌⊎◌, ℕ, ◌+◌, ◌*◌, ◌==◌, ◌≤◌, true, false, All, List, [], ◌∷◌, ◌++◌, append-nil, Option, Some, None, Result, Ok, Err, IfOk, OnOk, IsSome, filter, length, map, option_map, refl, slice_get, sym, take, ap, subst, arith, IfSome, inl, inr, ◌<◌, Bool, cond, nat_lt}
use Rattle.std.specs.List.{Contains, flat_map}
use Rattle.std.proofs.lemmas.Option.{slice_get_past, slice_get_within, slice_get-map}
use Rattle.std.proofs.lemmas.Bool.Decides.{nat_tests}
use Rattle.vio_num.specs.declared.history.Grant.{Grant}
use Rattle.vio_num.specs.declared.history.Served.{Served}
use Rattle.vio_num.specs.declared.memory.NoMemory.{NoMemory}
use Rattle.vio_num.specs.declared.names.Mac.{Mac}
use Rattle.vio_num.specs.declared.names.UnitId.{UnitId}
use Rattle.rdma_copy.specs.declared.copy.CopyRecord.{CopyRecord}
use Rattle.page_slots.specs.Stroke.{StrokeValue}
use Rattle.unit_region.specs.RegionLines.{IsOn as LiesOn}
use Rattle.boot_text.specs.declared.plan.Line.{Line}
use Rattle.boot_text.specs.declared.plan.Partition.{Partition}
use Rattle.boot_text.specs.SoFar.{has_server, is_server}
use Rattle.boot_text.specs.Sound.{IsSoundPartition, unit_in}
use Rattle.boot_text.specs.declared.plan.UnitPlan.{UnitPlan}
use Rattle.boot_text.specs.declared.plan.UnitPlan.TheVariants as units
use Rattle.lan_script.specs.Buffers.{posted_at}
use Rattle.lan_script.specs.Correlators.{CarriesAddress, CarryAddresses}
use Rattle.lan_script.specs.Entries.{values_at}
use Rattle.lan_script.specs.Windows.{facts_of}
use Rattle.tce_window.specs.Window.{WindowValue}
use Rattle.lan_script.specs.PortCounts.{PortCounts, counts}
use Rattle.lan_script.specs.Regions.{strokes_at}
use Rattle.lan_script.specs.PortReplay.{IsOn, PortReplay, closed_replay}
use Rattle.lan_script.specs.Replayed.{bytes_sent, replay_at, sessions_by}
use Rattle.lan_script.specs.Resting.{IsAllTaken}
use Rattle.lan_script.specs.RowsOf.{CountsRows}
use Rattle.lan_script.specs.Seats.{IsSizedSeat, seat_at}
use Rattle.lan_script.specs.declared.seat.PortSeat.{PortSeat}
use Rattle.lan_script.proofs.Laws.{by_bool, named_at, on_open}
use Rattle.lan_switch.specs.Switch.{port_of, same_unit}
use Rattle.std.proofs.lemmas.List.Elements.{All-head, All-tail}
use Rattle.lan_script.specs.Targets.{offers_to}
use Rattle.lan_script.specs.Units.{IsOpenAt, LanValue, to_of}
use Rattle.lan_script.specs.declared.rows.LanRows.{LanRows}
use Rattle.vio_trace.specs.declared.lan_rows.DeliverRow.{DeliverRow}
use Rattle.vio_trace.specs.declared.lan_rows.FrameRow.{FrameRow}
use Rattle.vio_trace.specs.declared.lan_rows.HarvestRow.{HarvestRow}
use Rattle.vio_trace.specs.declared.lan_rows.PostRow.{PostRow}
use Rattle.vio_trace.specs.declared.rows.LogRow.{LogRow}
use Rattle.vio_trace.specs.declared.rows.Trace.{Trace}
use Rattle.vcpu_run.specs.declared.pair.Pair.{Pair}
use Rattle.vcpu_run.specs.declared.script.Script.{Script}
use Rattle.vcpu_run.specs.declared.unit_seat.Seat.TheVariants as sits
use Rattle.vcpu_run.specs.Among.{AreAmong}
use Rattle.vcpu_run.specs.Credited.{Ended, ended_by}
use Rattle.vcpu_run.specs.Gathered.{HasLawfulWindow, IsGathered, logs_of, trace_of}
use Rattle.vcpu_run.specs.Lines.{IsOver}
use Rattle.vcpu_run.specs.Machines.{AreScripts, IsOfPlan, IsScriptFor, seat_of}
use Rattle.vcpu_run.specs.Ports.{IsPortOf, ports_of, unit_of}
use Rattle.lan_script.specs.OwnMac.{IsForGroup}
use Rattle.vcpu_run.specs.PortBytes.{NamesOwnPages, bytes_told}
use Rattle.vcpu_run.specs.PortMacs.{HasMac}
use Rattle.vcpu_run.specs.PortOffers.{EndsFrame, GoesNow, GoesTo, KeepsOffers, WasTarget}
use Rattle.vcpu_run.specs.PortPosts.{AreInForm, AreRanged, buffers_of, buffers_under}
use Rattle.vcpu_run.specs.Pairs.{AreOfOneHome}
use Rattle.vcpu_run.specs.PortRegions.{AreInTurn, IsCurrent, IsLogged, KeepsLogged, KeepsTold, LinesTold, RegionsAreTold, StrokesAreLogged, strokes_shown}
use Rattle.vcpu_run.specs.PortReplays.{AreReplayed, IsPlainPort, sent_at}
use Rattle.vcpu_run.specs.PortWords.{BuffersAreTold, FramesAreOffered, FramesHaveBytes, HasNoCall, KeepsAmong, LinesAreAmong, LinesAreInForm, LinesTell, OffersAreFit, OffersHaveAddress, PortsAreReplayed, PortsAreTold, PortsTell, PostsCarryAddresses, SendsAreRanged, TellsPort, ValuesAreTold, WordsAreAmong, WordsAreTold, buffers_now, counts_now, counts_under, done_in, frame_told, frames_told}
use Rattle.vcpu_run.specs.PortsRest.{PortsEnd}
use Rattle.vcpu_run.specs.Scripts.{are_servers}
use Rattle.vcpu_run.specs.Settled.{script_of}
use Rattle.vcpu_run.specs.Shown.{pages_at, stroke_value, strokes_on, values_shown}
use Rattle.vcpu_run.specs.Units.{seats_of, unit_seat}
use Rattle.vcpu_run.specs.ValuesPut.{values_told}
use Rattle.vcpu_run.specs.declared.unit_seat.UnitSeat.{UnitSeat}
use Rattle.vcpu_run.proofs.Seated.{planned_in}
use Rattle.vcpu_run.proofs.Copied.{values_are as window_values}
use Rattle.vcpu_run.proofs.Following.{each_from_all}
use Rattle.vcpu_run.proofs.FramesCarried.{HasPortWindow, IsPlannedPort, port_planned, port_shows, port_window_there}
use Rattle.vcpu_run.proofs.Homes.{all_at, unit_found}
use Rattle.vcpu_run.proofs.Listed.{held}
use Rattle.vcpu_run.proofs.Parts.{IsIn, each_in, found, in_slice}
use Rattle.vcpu_run.proofs.Placing.{partitions_are}
use Rattle.vcpu_run.proofs.PortLines.{moments_same}
use Rattle.vcpu_run.proofs.PortOrder.{IsOwnSeat, ports_own, ports_sized}
use Rattle.vcpu_run.proofs.RecordLaws.{lines_in, none_past, partitions_apart, rows_told}

-- what is so of the rows that were counted
pub from_counts : (pairs : List Pair) (scripts : List Script) (lan : LanValue) (history : List Served) (grants : List Grant) (copies : List CopyRecord) (r : Result Trace NoMemory)
    (A : Type 0) (P : Trace → Type 0) → IfOk r (IsGathered pairs scripts lan history grants copies) → OnOk r A
    → ((rows : LanRows) → CountsRows lan rows → A → P (trace_of pairs scripts lan rows history grants copies)) → IfOk r P
from_counts pairs scripts lan history grants copies (Ok t) A P is a step = subst P (sym is.trace_is) (step is.rows is.counted a)
from_counts pairs scripts lan history grants copies (Err none) A P is a step = tt

some_same : {X : Type 0} (x y : X) → Some x ≡ Some y → x ≡ y
some_same x y e = cc (e)

some_none : {X : Type 0} (x : X) → Some x ≡ None → ⊥
some_none x e = cc (e)

-- no line is left of a script that is over
none_left : {X : Type 0} (xs : List X) (i : ℕ) → length xs ≤ i → slice_get xs i ≡ None
none_left xs i past = slice_get_past xs i past

told_rows : (own : List Ended) (now : PortCounts) (lan : LanValue) (unit : UnitId) (pairs : List Pair) (scripts : List Script) (rows : LanRows)
    (history : List Served) (grants : List Grant) (copies : List CopyRecord) → now ≡ counts 0 0 → CountsRows lan rows → TellsPort own now lan unit
    → LinesTell own (trace_of pairs scripts lan rows history grants copies) unit
told_rows own now lan unit pairs scripts rows history grants copies none counted tells = record {
  frames = tells.frames ∙ ap (λ (l : List FrameRow). map frame_told l) (sym (counted.frames unit));
  posts = omega (arith, tells.posts, counted.posts unit, ap (λ (c : PortCounts). c.posts) none);
  taken = omega (arith, tells.taken, counted.taken unit, ap (λ (c : PortCounts). c.taken) none);
}

-- What is known of the script of a port's partition, once a run is over.
record IsScriptAt (scripts : List Script) (partitions : List Partition) (unit : UnitId) (logs : List LogRow) : Type 0 where
  script : Script
  is : slice_get scripts unit.partition ≡ Some script
  lines : script_of partitions unit.partition ≡ script.lines.now
  only : logs ≡ script.logs.items
  sits : slice_get script.seats.items unit.unit ≡ Some sits.Port
  named : unit_of script.partition unit.unit ≡ unit
  ended : counts_now unit.unit script ≡ counts 0 0
  left : slice_get script.lines.now script.at ≡ None
  others : are_servers script.seats.items ≡ false

-- units of which one is a port have no server unit first
none_serves : (plans : List UnitPlan) (n : ℕ) (mac : Mac) (pages slots : ℕ) → (has_server plans ≡ true → All (λ unit. is_server unit ≡ true) plans)
    → slice_get plans n ≡ Some (units.Lan mac pages slots) → are_servers (map seat_of plans) ≡ false
none_serves [] n mac pages slots alone there = refl
none_serves (units.Client server own queue ∷ plans) n mac pages slots alone there = refl
none_serves (units.Lan m own s ∷ plans) n mac pages slots alone there = refl
none_serves (units.Server queue ∷ plans) n mac pages slots alone there =
    absurd (no_server (all_at (λ unit. is_server unit ≡ true) (units.Server queue ∷ plans) n (units.Lan mac pages slots) (alone refl) there))
  where
    no_server : is_server (units.Lan mac pages slots) ≡ true → ⊥
    no_server e = cc (e)

script_at : (pairs : List Pair) (scripts : List Script) (ports : List PortSeat) (partitions : List Partition) (unit : UnitId) → AreScripts pairs ports scripts
    → IsOfPlan partitions pairs scripts ports → All IsOver scripts → IsPortOf (ports_of partitions) unit
    → IsScriptAt scripts partitions unit (filter (λ (row : LogRow). row.partition == unit.partition) (flat_map logs_of scripts))
script_at pairs scripts ports partitions unit are of_plan over there = at (slice_get scripts unit.partition) refl
  where
    p : ℕ
    p = unit.partition

    logs : List LogRow
    logs = filter (λ (row : LogRow). row.partition == p) (flat_map logs_of scripts)

    planned : IsPlannedPort partitions unit
    planned = port_planned partitions unit there

    plan : UnitPlan
    plan = units.Lan planned.mac planned.pages planned.slots

    no_value : unit_in (slice_get partitions p) unit.unit ≡ None → ⊥
    no_value e = some_none plan (sym planned.planned ∙ e)

    sits_there : (script : Script) → slice_get scripts p ≡ Some script → slice_get script.seats.items unit.unit ≡ Some sits.Port
    sits_there script e =
        let one = unit_found (slice_get partitions p) unit.unit plan planned.planned in
        let it = held (λ partition. IsScriptFor partition script) (slice_get partitions p) (of_plan.scripts_are.each p script e) in
        ap (λ ss. slice_get ss unit.unit) it.2.seats
        ∙ (slice_get-map seat_of it.0.units unit.unit
        ∙ ap (option_map seat_of) (subst (λ (x : Partition). slice_get x.units unit.unit ≡ Some plan) (some_same one.0 it.0 (sym one.1 ∙ it.1)) one.2))

    -- its partition has no server unit
    other_seats : (script : Script) → slice_get scripts p ≡ Some script → are_servers script.seats.items ≡ false
    other_seats script e =
        let one = unit_found (slice_get partitions p) unit.unit plan planned.planned in
        let it = held (λ partition. IsScriptFor partition script) (slice_get partitions p) (of_plan.scripts_are.each p script e) in
        ap are_servers it.2.seats
        ∙ none_serves it.0.units unit.unit planned.mac planned.pages planned.slots
        (all_at IsSoundPartition partitions p it.0 of_plan.sound.each it.1).alone
        (subst (λ (x : Partition). slice_get x.units unit.unit ≡ Some plan) (some_same one.0 it.0 (sym one.1 ∙ it.1)) one.2)

    at : (slot : Option Script) → slice_get scripts p ≡ slot → IsScriptAt scripts partitions unit logs
    at None e =
        let gone : slice_get partitions p ≡ None = slice_get_past partitions p (omega (arith, none_past scripts p e, of_plan.scripts_are.count)) in
        absurd (no_value (ap (λ o. unit_in o unit.unit) gone))
    at (Some script) e =
        let here : script.partition ≡ p = (are p script e).number in
        let hit : (script.partition == p) ≡ true = grind (arith, nat_tests, here) in
        record {
          script = script;
          is = e;
          lines = lines_in (slice_get partitions p) script (of_plan.scripts_are.each p script e);
          only = found (λ (row : LogRow). row.partition == p) (λ (script : Script). script.partition == p) logs_of script hit scripts (in_slice scripts p script e)
              (rows_told pairs ports scripts p are) (partitions_apart p 0 scripts (partitions_are pairs ports scripts are));
          sits = sits_there script e;
          named = ap (λ n. unit_of n unit.unit) here;
          others = other_seats script e;
          left = none_left script.lines.now script.at (all_at IsOver scripts p script over e);
          ended = ap (λ o. counts_under unit.unit (done_in script.progress) o) (none_left script.lines.now script.at (all_at IsOver scripts p script over e));
        }

words_are : (pairs : List Pair) (scripts : List Script) (lan : LanValue) (rows : LanRows) (history : List Served) (grants : List Grant) (copies : List CopyRecord)
    (partitions : List Partition) → AreScripts pairs lan.seats scripts → IsOfPlan partitions pairs scripts lan.seats → All IsOver scripts → PortsTell lan scripts
    → CountsRows lan rows → WordsAreTold partitions (trace_of pairs scripts lan rows history grants copies)
words_are pairs scripts lan rows history grants copies partitions are of_plan over tells counted unit there none =
    subst (λ ls. LinesTell (ended_by unit.unit ls logs) (trace_of pairs scripts lan rows history grants copies) unit) (sym at.lines)
    (subst (λ l. LinesTell (ended_by unit.unit at.script.lines.now l) (trace_of pairs scripts lan rows history grants copies) unit) (sym at.only)
    (told_rows (ended_by unit.unit at.script.lines.now at.script.logs.items) (counts_now unit.unit at.script) lan unit pairs scripts rows history grants copies
    at.ended counted
    (subst (λ (id : UnitId). TellsPort (ended_by unit.unit at.script.lines.now at.script.logs.items) (counts_now unit.unit at.script) lan id) at.named
    ((tells unit.partition at.script at.is).words (subst HasNoCall at.lines none) unit.unit at.sits))))
  where
    logs : List LogRow
    logs = filter (λ (row : LogRow). row.partition == unit.partition) (flat_map logs_of scripts)

    at : IsScriptAt scripts partitions unit logs
    at = script_at pairs scripts lan.seats partitions unit are of_plan over there

seat_head : (unit : UnitId) (s : PortSeat) (ss : List PortSeat) → same_unit s.unit unit ≡ true → seat_at (s ∷ ss) unit ≡ Some s
seat_head unit s ss e = rw e refl

seat_tail : (unit : UnitId) (s : PortSeat) (ss : List PortSeat) → same_unit s.unit unit ≡ false → seat_at (s ∷ ss) unit ≡ seat_at ss unit
seat_tail unit s ss e = rw e refl

-- what is so of each seat is so of a unit's
seat_has : (P : PortSeat → Type 0) (seats : List PortSeat) (unit : UnitId) (seat : PortSeat) → All P seats → seat_at seats unit ≡ Some seat → P seat
seat_has P [] unit seat all at = absurd (some_none seat (sym at))
seat_has P (s ∷ seats) unit seat all at =
    by_bool (same_unit s.unit unit) (P seat)
    (λ e. subst P (some_same s seat (sym (seat_head unit s seats e) ∙ at)) (All-head P s seats all))
    (λ e. seat_has P seats unit seat (All-tail P s seats all) (sym (seat_tail unit s seats e) ∙ at))

replayed_are : (pairs : List Pair) (scripts : List Script) (lan : LanValue) (rows : LanRows) (history : List Served) (grants : List Grant) (copies : List CopyRecord)
    (partitions : List Partition) → AreScripts pairs lan.seats scripts → IsOfPlan partitions pairs scripts lan.seats → All IsOver scripts → PortsEnd lan scripts
    → CountsRows lan rows → PortsAreReplayed partitions (trace_of pairs scripts lan rows history grants copies)
replayed_are pairs scripts lan rows history grants copies partitions are of_plan over ends counted unit seat there plain = record {
  left = replay_at lan (unit_of at.script.partition unit.unit);
  replayed = subst (λ ls. AreReplayed seat closed_replay (ended_by unit.unit ls logs) (replay_at lan (unit_of at.script.partition unit.unit))) (sym at.lines)
      (subst (λ l. AreReplayed seat closed_replay (ended_by unit.unit at.script.lines.now l) (replay_at lan (unit_of at.script.partition unit.unit))) (sym at.only)
      ((ends.told unit.partition at.script at.is).replay unit.unit (subst (IsPlainPort unit.unit) at.lines plain) at.sits seat seated
      (seat_has IsSizedSeat (ports_of partitions) unit seat (ports_sized partitions of_plan.sound) there)
      (seat_has IsOwnSeat (ports_of partitions) unit seat (ports_own partitions of_plan.sound) there)).keeps.replayed);
  frames = ap (λ (l : List FrameRow). map (λ (r : FrameRow). r.bytes) l) (counted.frames unit) ∙ sym (ap (λ (id : UnitId). bytes_sent lan id) at.named);
  sessions = counted.sessions unit ∙ sym (ap (λ (id : UnitId). sessions_by (port_of lan.stations id)) at.named);
  harvested = λ on.
      subst (λ (q : ℕ). length (filter (λ (row : HarvestRow). row.session == q) (filter (λ (row : HarvestRow). same_unit row.unit unit) rows.harvests.items))
      ≡ length (filter (λ (row : DeliverRow). row.session == q) (filter (λ (row : DeliverRow). same_unit row.unit unit) rows.delivers.items)))
      (sym (counted.sessions unit)) (counted.last unit (opened on) taken);
}
  where
    logs : List LogRow
    logs = filter (λ (row : LogRow). row.partition == unit.partition) (flat_map logs_of scripts)

    at : IsScriptAt scripts partitions unit logs
    at = script_at pairs scripts lan.seats partitions unit are of_plan over (subst (λ (o : Option PortSeat). IsSome o) (sym there) refl)

    seated : seat_at lan.seats (unit_of at.script.partition unit.unit) ≡ Some seat
    seated = ap (λ u. seat_at lan.seats u) at.named ∙ (ap (λ ss. seat_at ss unit) of_plan.ports_are ∙ there)

    named : replay_at lan (unit_of at.script.partition unit.unit) ≡ replay_at lan unit
    named = ap (λ (id : UnitId). replay_at lan id) at.named

    opened : IsOn (replay_at lan (unit_of at.script.partition unit.unit)) → IsOpenAt lan unit
    opened on = on_open lan unit (subst (λ (r : PortReplay). IsOn r) named on)

    taken : IsAllTaken lan unit
    taken = subst (λ (id : UnitId). IsAllTaken lan id) at.named
        (ends.taken unit.partition at.script (slice_get_within scripts unit.partition at.script at.is) at.is at.others unit.unit at.sits)

-- what was spent at a port, once a run is over
goes_told : (lan : LanValue) (rows : LanRows) (port : UnitId) (seat : PortSeat) (own : List Ended) (frame : FrameRow) → CountsRows lan rows
    → GoesNow lan port seat own frame → GoesTo port seat own frame (filter (λ (row : DeliverRow). same_unit row.unit port) rows.delivers.items)
goes_told lan rows port seat own frame counted h = record {
  left = h.left;
  replayed = h.replayed;
  offers = h.offers;
  no_buffer = λ is number len at enough. named_at lan rows port frame h.left counted h.spent is number len at enough;
}

offered_are : (pairs : List Pair) (scripts : List Script) (lan : LanValue) (rows : LanRows) (history : List Served) (grants : List Grant) (copies : List CopyRecord)
    (partitions : List Partition) → AreScripts pairs lan.seats scripts → IsOfPlan partitions pairs scripts lan.seats → All IsOver scripts → PortsTell lan scripts
    → CountsRows lan rows → FramesAreOffered partitions (trace_of pairs scripts lan rows history grants copies)
offered_are pairs scripts lan rows history grants copies partitions are of_plan over tells counted unit there plain place number ends = record {
  frame = kept.frame;
  kept = subst (λ (l : List FrameRow). Contains l kept.frame)
      (ap (λ (id : UnitId). sent_at lan id) at.named ∙ sym (counted.frames unit)) kept.kept;
  number_is = kept.number_is;
  goes = λ port seat other plain' seated.
      goes_told lan rows (unit_of unit.partition port) seat (ended_by port lines (take place logs)) kept.frame counted
      (subst (λ (p : ℕ). GoesNow lan (unit_of p port) seat (ended_by port lines (take place logs)) kept.frame) partition
      (subst (λ ls. GoesNow lan (unit_of at.script.partition port) seat (ended_by port ls (take place logs)) kept.frame) (sym at.lines)
      (subst (λ l. GoesNow lan (unit_of at.script.partition port) seat (ended_by port at.script.lines.now (take place l)) kept.frame) (sym at.only)
      (kept.goes port seat other (subst (IsPlainPort port) at.lines plain') (sits_at port seat seated)
      (ap (λ (p : ℕ). seat_at lan.seats (unit_of p port)) partition
      ∙ (ap (λ ss. seat_at ss (unit_of unit.partition port)) of_plan.ports_are ∙ seated))
      (seat_has IsSizedSeat (ports_of partitions) (unit_of unit.partition port) seat (ports_sized partitions of_plan.sound) seated)
      (seat_has IsOwnSeat (ports_of partitions) (unit_of unit.partition port) seat (ports_own partitions of_plan.sound) seated)))));
}
  where
    lines : List Line
    lines = script_of partitions unit.partition

    logs : List LogRow
    logs = filter (λ (row : LogRow). row.partition == unit.partition) (flat_map logs_of scripts)

    at : IsScriptAt scripts partitions unit logs
    at = script_at pairs scripts lan.seats partitions unit are of_plan over there

    partition : at.script.partition ≡ unit.partition
    partition = ap (λ (id : UnitId). id.partition) at.named

    kept : KeepsOffers lan at.script.partition at.script.seats.items at.script.lines.now (take place at.script.logs.items) unit.unit number
    kept = (tells unit.partition at.script at.is).offers unit.unit (subst (IsPlainPort unit.unit) at.lines plain) at.sits place number
        (subst (λ ls. EndsFrame ls at.script.logs.items unit.unit place number) at.lines
        (subst (λ l. EndsFrame lines l unit.unit place number) at.only ends))

    sits_at : (port : ℕ) (seat : PortSeat) → seat_at (ports_of partitions) (unit_of unit.partition port) ≡ Some seat
        → slice_get at.script.seats.items port ≡ Some sits.Port
    sits_at port seat seated =
        let its = script_at pairs scripts lan.seats partitions (unit_of unit.partition port) are of_plan over (subst (λ (o : Option PortSeat). IsSome o) (sym seated) refl) in
        subst (λ (s : Script). slice_get s.seats.items port ≡ Some sits.Port) (some_same its.script at.script (sym its.is ∙ at.is)) its.sits

fit_are : (pairs : List Pair) (scripts : List Script) (lan : LanValue) (rows : LanRows) (history : List Served) (grants : List Grant) (copies : List CopyRecord)
    (partitions : List Partition) → AreScripts pairs lan.seats scripts → IsOfPlan partitions pairs scripts lan.seats → All IsOver scripts → PortsTell lan scripts
    → CountsRows lan rows → OffersAreFit partitions (trace_of pairs scripts lan rows history grants copies)
fit_are pairs scripts lan rows history grants copies partitions are of_plan over tells counted unit seat there plain sender other frame kept some =
    subst (λ ls. WasTarget seat (ended_by unit.unit ls logs) (to_of frame)) (sym at.lines)
    (subst (λ l. WasTarget seat (ended_by unit.unit at.script.lines.now l) (to_of frame)) (sym at.only)
    ((tells unit.partition at.script at.is).fit unit.unit (subst (IsPlainPort unit.unit) at.lines plain) at.sits seat seated
    (seat_has IsSizedSeat (ports_of partitions) unit seat (ports_sized partitions of_plan.sound) there)
    (seat_has IsOwnSeat (ports_of partitions) unit seat (ports_own partitions of_plan.sound) there)
    sender (subst (λ (id : UnitId). same_unit sender id ≡ false) (sym at.named) other) frame
    (subst (λ (l : List FrameRow). Contains l frame) (counted.frames sender) kept)
    (subst (λ (id : UnitId). 1 ≤ length (offers_to id frame.offers)) (sym at.named) some)))
  where
    logs : List LogRow
    logs = filter (λ (row : LogRow). row.partition == unit.partition) (flat_map logs_of scripts)

    at : IsScriptAt scripts partitions unit logs
    at = script_at pairs scripts lan.seats partitions unit are of_plan over (subst (λ (o : Option PortSeat). IsSome o) (sym there) refl)

    seated : seat_at lan.seats (unit_of at.script.partition unit.unit) ≡ Some seat
    seated = ap (λ u. seat_at lan.seats u) at.named ∙ (ap (λ ss. seat_at ss unit) of_plan.ports_are ∙ there)

buffers_are : (pairs : List Pair) (scripts : List Script) (lan : LanValue) (rows : LanRows) (history : List Served) (grants : List Grant) (copies : List CopyRecord)
    (partitions : List Partition) → AreScripts pairs lan.seats scripts → IsOfPlan partitions pairs scripts lan.seats → All IsOver scripts → PortsTell lan scripts
    → CountsRows lan rows → BuffersAreTold partitions (trace_of pairs scripts lan rows history grants copies)
buffers_are pairs scripts lan rows history grants copies partitions are of_plan over tells counted unit there none =
    ap (λ ls. buffers_of (ended_by unit.unit ls logs)) at.lines
    ∙ ap (λ l. buffers_of (ended_by unit.unit at.script.lines.now l)) at.only
    ∙ sym (append-nil (buffers_of own))
    ∙ ap (λ o. buffers_of own ++ buffers_under unit.unit (done_in at.script.progress) o) (sym at.left)
    ∙ (tells unit.partition at.script at.is).buffers (subst HasNoCall at.lines none) unit.unit at.sits
    ∙ ap (λ (id : UnitId). posted_at lan id) at.named
    ∙ sym (counted.buffers unit)
  where
    logs : List LogRow
    logs = filter (λ (row : LogRow). row.partition == unit.partition) (flat_map logs_of scripts)

    at : IsScriptAt scripts partitions unit logs
    at = script_at pairs scripts lan.seats partitions unit are of_plan over there

    own : List Ended
    own = ended_by unit.unit at.script.lines.now at.script.logs.items

forms_are : (pairs : List Pair) (scripts : List Script) (lan : LanValue) (rows : LanRows) (history : List Served) (grants : List Grant) (copies : List CopyRecord)
    (partitions : List Partition) → AreScripts pairs lan.seats scripts → IsOfPlan partitions pairs scripts lan.seats → All IsOver scripts → PortsTell lan scripts
    → LinesAreInForm partitions (trace_of pairs scripts lan rows history grants copies)
forms_are pairs scripts lan rows history grants copies partitions are of_plan over tells unit there =
    subst (λ ls. AreInForm (ended_by unit.unit ls logs)) (sym at.lines)
    (subst (λ l. AreInForm (ended_by unit.unit at.script.lines.now l)) (sym at.only)
    ((tells unit.partition at.script at.is).takes unit.unit at.sits).ended)
  where
    logs : List LogRow
    logs = filter (λ (row : LogRow). row.partition == unit.partition) (flat_map logs_of scripts)

    at : IsScriptAt scripts partitions unit logs
    at = script_at pairs scripts lan.seats partitions unit are of_plan over there

addressed_are : (pairs : List Pair) (scripts : List Script) (lan : LanValue) (rows : LanRows) (history : List Served) (grants : List Grant) (copies : List CopyRecord)
    (partitions : List Partition) → AreScripts pairs lan.seats scripts → IsOfPlan partitions pairs scripts lan.seats → All IsOver scripts → PortsTell lan scripts
    → CountsRows lan rows → OffersHaveAddress partitions (trace_of pairs scripts lan rows history grants copies)
addressed_are pairs scripts lan rows history grants copies partitions are of_plan over tells counted unit seat there sender other frame kept some =
    subst (λ ls. IsForGroup (to_of frame) ⊎ HasMac unit seat ls logs (to_of frame)) (sym at.lines)
    (subst (λ l. IsForGroup (to_of frame) ⊎ HasMac unit seat at.script.lines.now l (to_of frame)) (sym at.only)
    (subst (λ (id : UnitId). IsForGroup (to_of frame) ⊎ HasMac id seat at.script.lines.now at.script.logs.items (to_of frame)) at.named
    (((tells unit.partition at.script at.is).macs unit.unit at.sits seat seated).fit
    sender (subst (λ (id : UnitId). same_unit sender id ≡ false) (sym at.named) other) frame
    (subst (λ (l : List FrameRow). Contains l frame) (counted.frames sender) kept)
    (subst (λ (id : UnitId). 1 ≤ length (offers_to id frame.offers)) (sym at.named) some))))
  where
    logs : List LogRow
    logs = filter (λ (row : LogRow). row.partition == unit.partition) (flat_map logs_of scripts)

    at : IsScriptAt scripts partitions unit logs
    at = script_at pairs scripts lan.seats partitions unit are of_plan over (subst (λ (o : Option PortSeat). IsSome o) (sym there) refl)

    seated : seat_at lan.seats (unit_of at.script.partition unit.unit) ≡ Some seat
    seated = ap (λ u. seat_at lan.seats u) at.named ∙ (ap (λ ss. seat_at ss unit) of_plan.ports_are ∙ there)

bytes_are : (pairs : List Pair) (scripts : List Script) (lan : LanValue) (rows : LanRows) (history : List Served) (grants : List Grant) (copies : List CopyRecord)
    (partitions : List Partition) → AreScripts pairs lan.seats scripts → IsOfPlan partitions pairs scripts lan.seats → All IsOver scripts → PortsTell lan scripts
    → CountsRows lan rows → FramesHaveBytes partitions (trace_of pairs scripts lan rows history grants copies)
bytes_are pairs scripts lan rows history grants copies partitions are of_plan over tells counted unit seat there none plain =
    ap (λ ls. bytes_told seat seat.mac (ended_by unit.unit ls logs)) at.lines
    ∙ ap (λ l. bytes_told seat seat.mac (ended_by unit.unit at.script.lines.now l)) at.only
    ∙ ((tells unit.partition at.script at.is).bytes (subst HasNoCall at.lines none) unit.unit (subst (NamesOwnPages unit.unit) at.lines plain) at.sits seat seated).bytes
    ∙ ap (λ (id : UnitId). bytes_sent lan id) at.named ∙ sym (ap (λ (l : List FrameRow). map (λ (r : FrameRow). r.bytes) l) (counted.frames unit))
  where
    logs : List LogRow
    logs = filter (λ (row : LogRow). row.partition == unit.partition) (flat_map logs_of scripts)

    at : IsScriptAt scripts partitions unit logs
    at = script_at pairs scripts lan.seats partitions unit are of_plan over (subst (λ (o : Option PortSeat). IsSome o) (sym there) refl)

    seated : seat_at lan.seats (unit_of at.script.partition unit.unit) ≡ Some seat
    seated = ap (λ u. seat_at lan.seats u) at.named ∙ (ap (λ ss. seat_at ss unit) of_plan.ports_are ∙ there)

-- the values that a trace shows of a port's window are those that it has
pub port_values : (pairs : List Pair) (scripts : List Script) (lan : LanValue) (rows : LanRows) (history : List Served) (grants : List Grant) (copies : List CopyRecord)
    (partitions : List Partition) → AreScripts pairs lan.seats scripts → IsOfPlan partitions pairs scripts lan.seats → All (HasLawfulWindow pairs lan) (seats_of scripts)
    → (unit : UnitId) → IsPortOf (ports_of partitions) unit
    → (e : ℕ) → values_shown (trace_of pairs scripts lan rows history grants copies) unit e ≡ values_at lan unit e
port_values pairs scripts lan rows history grants copies partitions are of_plan windows unit there e =
    window_values pairs scripts lan rows history grants copies are windows seat w.window inside w.at e
    ∙ sym (ap (λ (o : Option WindowValue). (facts_of unit lan.places o).values e) w.is)
  where
    planned : IsPlannedPort partitions unit
    planned = port_planned partitions unit there

    seat : UnitSeat
    seat = unit_seat unit.partition unit.unit sits.Port

    inside : IsIn seat (seats_of scripts)
    inside = planned_in partitions pairs scripts lan.seats unit (units.Lan planned.mac planned.pages planned.slots) are of_plan planned.planned

    w : HasPortWindow pairs lan unit
    w = port_window_there pairs lan unit
        (each_in (HasLawfulWindow pairs lan) seat (seats_of scripts) inside (each_from_all (HasLawfulWindow pairs lan) (seats_of scripts) windows)).fits
        (subst (λ (seats : List PortSeat). IsSome (seat_at seats unit)) (sym of_plan.ports_are) there)

values_told_are : (pairs : List Pair) (scripts : List Script) (lan : LanValue) (rows : LanRows) (history : List Served) (grants : List Grant) (copies : List CopyRecord)
    (partitions : List Partition) → AreScripts pairs lan.seats scripts → IsOfPlan partitions pairs scripts lan.seats → All IsOver scripts → PortsTell lan scripts
    → All (HasLawfulWindow pairs lan) (seats_of scripts) → ValuesAreTold partitions (trace_of pairs scripts lan rows history grants copies)
values_told_are pairs scripts lan rows history grants copies partitions are of_plan over tells windows unit there none e =
    port_values pairs scripts lan rows history grants copies partitions are of_plan windows unit there e
    ∙ sym (ap (λ (id : UnitId). values_at lan id e) at.named)
    ∙ (tells unit.partition at.script at.is).values (subst HasNoCall at.lines none) unit.unit at.sits e
    ∙ sym (ap (λ l. (4096 * e + 3) ∷ values_told e (ended_by unit.unit at.script.lines.now l)) at.only)
    ∙ sym (ap (λ ls. (4096 * e + 3) ∷ values_told e (ended_by unit.unit ls logs)) at.lines)
  where
    logs : List LogRow
    logs = filter (λ (row : LogRow). row.partition == unit.partition) (flat_map logs_of scripts)

    at : IsScriptAt scripts partitions unit logs
    at = script_at pairs scripts lan.seats partitions unit are of_plan over there

among_rows : (own : List Ended) (buffers : List ℕ) (now : PortCounts) (lan : LanValue) (unit : UnitId) (pairs : List Pair) (scripts : List Script) (rows : LanRows)
    (history : List Served) (grants : List Grant) (copies : List CopyRecord) → buffers ≡ [] → now ≡ counts 0 0 → CountsRows lan rows
    → ((e : ℕ) → values_shown (trace_of pairs scripts lan rows history grants copies) unit e ≡ values_at lan unit e) → KeepsAmong own buffers now lan unit → LinesAreAmong own (trace_of pairs scripts lan rows history grants copies) unit
among_rows own buffers now lan unit pairs scripts rows history grants copies none ended counted values is = record {
  frames = subst (λ (l : List FrameRow). AreAmong (frames_told own) (map frame_told l)) (sym (counted.frames unit)) is.frames;
  posts = subst (λ (l : List ℕ). AreAmong (buffers_of own) l) (sym (counted.buffers unit))
      (subst (λ (l : List ℕ). AreAmong l (posted_at lan unit)) (ap (λ l. buffers_of own ++ l) none ∙ append-nil (buffers_of own)) is.posts);
  values = λ e. subst (λ (l : List ℕ). AreAmong ((4096 * e + 3) ∷ values_told e own) l) (sym (values e)) (is.values e);
  taken = omega (arith, is.taken, counted.taken unit, ap (λ (c : PortCounts). c.taken) ended);
}

among_are : (pairs : List Pair) (scripts : List Script) (lan : LanValue) (rows : LanRows) (history : List Served) (grants : List Grant) (copies : List CopyRecord)
    (partitions : List Partition) → AreScripts pairs lan.seats scripts → IsOfPlan partitions pairs scripts lan.seats → All IsOver scripts → PortsTell lan scripts
    → CountsRows lan rows → All (HasLawfulWindow pairs lan) (seats_of scripts) → WordsAreAmong partitions (trace_of pairs scripts lan rows history grants copies)
among_are pairs scripts lan rows history grants copies partitions are of_plan over tells counted windows unit there =
    subst (λ ls. LinesAreAmong (ended_by unit.unit ls logs) (trace_of pairs scripts lan rows history grants copies) unit) (sym at.lines)
    (subst (λ l. LinesAreAmong (ended_by unit.unit at.script.lines.now l) (trace_of pairs scripts lan rows history grants copies) unit) (sym at.only)
    (among_rows (ended_by unit.unit at.script.lines.now at.script.logs.items) (buffers_now unit.unit at.script) (counts_now unit.unit at.script) lan unit pairs scripts
    rows history grants copies (ap (λ o. buffers_under unit.unit (done_in at.script.progress) o) at.left) at.ended counted
    (port_values pairs scripts lan rows history grants copies partitions are of_plan windows unit there)
    (subst (λ (id : UnitId). KeepsAmong (ended_by unit.unit at.script.lines.now at.script.logs.items) (buffers_now unit.unit at.script) (counts_now unit.unit at.script) lan id)
    at.named ((tells unit.partition at.script at.is).among unit.unit at.sits))))
  where
    logs : List LogRow
    logs = filter (λ (row : LogRow). row.partition == unit.partition) (flat_map logs_of scripts)

    at : IsScriptAt scripts partitions unit logs
    at = script_at pairs scripts lan.seats partitions unit are of_plan over there

ranges_are : (pairs : List Pair) (scripts : List Script) (lan : LanValue) (rows : LanRows) (history : List Served) (grants : List Grant) (copies : List CopyRecord)
    (partitions : List Partition) → AreScripts pairs lan.seats scripts → IsOfPlan partitions pairs scripts lan.seats → All IsOver scripts → PortsTell lan scripts
    → SendsAreRanged partitions (trace_of pairs scripts lan rows history grants copies)
ranges_are pairs scripts lan rows history grants copies partitions are of_plan over tells unit seat there =
    subst (λ ls. AreRanged seat (ended_by unit.unit ls logs)) (sym at.lines)
    (subst (λ l. AreRanged seat (ended_by unit.unit at.script.lines.now l)) (sym at.only)
    ((tells unit.partition at.script at.is).ranges unit.unit at.sits seat
    (ap (λ u. seat_at lan.seats u) at.named ∙ (ap (λ ss. seat_at ss unit) of_plan.ports_are ∙ there))))
  where
    logs : List LogRow
    logs = filter (λ (row : LogRow). row.partition == unit.partition) (flat_map logs_of scripts)

    at : IsScriptAt scripts partitions unit logs
    at = script_at pairs scripts lan.seats partitions unit are of_plan over (subst (λ (o : Option PortSeat). IsSome o) (sym there) refl)

regions_are : (pairs : List Pair) (scripts : List Script) (lan : LanValue) (rows : LanRows) (history : List Served) (grants : List Grant) (copies : List CopyRecord)
    (partitions : List Partition) → AreOfOneHome copies pairs → AreScripts pairs lan.seats scripts → IsOfPlan partitions pairs scripts lan.seats → All IsOver scripts
    → PortsTell lan scripts → All (HasLawfulWindow pairs lan) (seats_of scripts) → RegionsAreTold partitions (trace_of pairs scripts lan rows history grants copies)
regions_are pairs scripts lan rows history grants copies partitions home are of_plan over tells windows unit seat there =
    subst (λ ls. LinesTold shown seat.pages unit ls logs) (sym at.lines)
    (subst (λ l. LinesTold shown seat.pages unit at.script.lines.now l) (sym at.only)
    (moments_same (strokes_at lan unit) shown seat.pages unit at.script.lines.now at.script.logs.items
    (port_shows pairs scripts lan rows history grants copies partitions home are windows of_plan unit (subst (λ (o : Option PortSeat). IsSome o) (sym seated) refl)).same
    (subst (λ (o : Option PortSeat). IfSome o (λ s. LinesTold (strokes_at lan unit) s.pages unit at.script.lines.now at.script.logs.items)) seated
    (subst (λ (id : UnitId). KeepsTold at.script.lines.now at.script.logs.items lan id) at.named
    ((tells unit.partition at.script at.is).regions turn unit.unit at.sits)))))
  where
    logs : List LogRow
    logs = filter (λ (row : LogRow). row.partition == unit.partition) (flat_map logs_of scripts)

    shown : ℕ → Option (List StrokeValue)
    shown = strokes_shown (trace_of pairs scripts lan rows history grants copies) (pages_at partitions unit) unit

    at : IsScriptAt scripts partitions unit logs
    at = script_at pairs scripts lan.seats partitions unit are of_plan over (subst (λ (o : Option PortSeat). IsSome o) (sym there) refl)

    turn : AreInTurn at.script.lines.now at.script.logs.items at.script.at
    turn =
        let script_is = (are unit.partition at.script at.is).script_is in
        record { in_order = script_is.in_order; reached = script_is.logs.reached }

    seated : seat_at lan.seats unit ≡ Some seat
    seated = ap (λ ss. seat_at ss unit) of_plan.ports_are ∙ there

-- a stroke that a trace shows on a page of a region is one of the page
pub on_page : (size page : ℕ) (stroke : StrokeValue) (shown : List StrokeValue) (strokes : Option (List StrokeValue)) → page < size
    → cond (nat_lt page size) (Some shown) None ≡ strokes → Contains shown stroke → LiesOn stroke strokes
on_page size page stroke shown strokes less same has = by (nat_lt page size) refl same
  where
    by : (b : Bool) → nat_lt page size ≡ b → cond b (Some shown) None ≡ strokes → LiesOn stroke strokes
    by true e s = subst (LiesOn stroke) s has
    by false e s = let past : size ≤ page = grind (arith, nat_tests) in absurd (omega (arith, past, less))

-- one that was laid by a line is none of a current line, since there is none
pub no_current : (unit : UnitId) (lines : List Line) (rows : List LogRow) (at mark : ℕ) → slice_get lines at ≡ None
    → IsLogged unit lines rows mark ⊎ IsCurrent unit lines at mark → IsLogged unit lines rows mark
no_current unit lines rows at mark none (inl is) = is
no_current unit lines rows at mark none (inr is) = absurd (some_none is.line (sym is.there ∙ none))

logged_are : (pairs : List Pair) (scripts : List Script) (lan : LanValue) (rows : LanRows) (history : List Served) (grants : List Grant) (copies : List CopyRecord)
    (partitions : List Partition) → AreOfOneHome copies pairs → AreScripts pairs lan.seats scripts → IsOfPlan partitions pairs scripts lan.seats → All IsOver scripts
    → PortsTell lan scripts → All (HasLawfulWindow pairs lan) (seats_of scripts) → StrokesAreLogged partitions (trace_of pairs scripts lan rows history grants copies)
logged_are pairs scripts lan rows history grants copies partitions home are of_plan over tells windows unit seat there page less stroke shown mine =
    subst (λ ls. IsLogged unit ls logs stroke.name.mark) (sym at.lines)
    (subst (λ l. IsLogged unit at.script.lines.now l stroke.name.mark) (sym at.only)
    (no_current unit at.script.lines.now at.script.logs.items at.script.at stroke.name.mark at.left
    (subst (λ (id : UnitId). KeepsLogged at.script.lines.now at.script.logs.items at.script.at lan id) at.named
    ((tells unit.partition at.script at.is).logged unit.unit at.sits) page stroke on mine)))
  where
    logs : List LogRow
    logs = filter (λ (row : LogRow). row.partition == unit.partition) (flat_map logs_of scripts)

    at : IsScriptAt scripts partitions unit logs
    at = script_at pairs scripts lan.seats partitions unit are of_plan over (subst (λ (o : Option PortSeat). IsSome o) (sym there) refl)

    seated : seat_at lan.seats unit ≡ Some seat
    seated = ap (λ ss. seat_at ss unit) of_plan.ports_are ∙ there

    on : LiesOn stroke (strokes_at lan unit page)
    on = on_page (pages_at partitions unit) page stroke
        (map stroke_value (strokes_on (trace_of pairs scripts lan rows history grants copies) unit page)) (strokes_at lan unit page) less
        ((port_shows pairs scripts lan rows history grants copies partitions home are windows of_plan unit
        (subst (λ (o : Option PortSeat). IsSome o) (sym seated) refl)).same page) shown

correlators_are : (pairs : List Pair) (scripts : List Script) (lan : LanValue) (rows : LanRows) (history : List Served) (grants : List Grant) (copies : List CopyRecord)
    (partitions : List Partition) → AreScripts pairs lan.seats scripts → IsOfPlan partitions pairs scripts lan.seats → All IsOver scripts → PortsTell lan scripts
    → CountsRows lan rows → PostsCarryAddresses partitions (trace_of pairs scripts lan rows history grants copies)
correlators_are pairs scripts lan rows history grants copies partitions are of_plan over tells counted unit there none plain =
    at_seat (seat_at (ports_of partitions) unit) refl there
  where
    logs : List LogRow
    logs = filter (λ (row : LogRow). row.partition == unit.partition) (flat_map logs_of scripts)

    at : IsScriptAt scripts partitions unit logs
    at = script_at pairs scripts lan.seats partitions unit are of_plan over there

    at_seat : (o : Option PortSeat) → seat_at (ports_of partitions) unit ≡ o → IsSome o
        → All CarriesAddress (filter (λ (row : PostRow). same_unit row.unit unit) rows.posts.items)
    at_seat None e some = absurd (cc (some))
    at_seat (Some seat) e some =
        subst (λ (l : List PostRow). All CarriesAddress l) (sym (counted.posted unit))
        (subst (λ (id : UnitId). CarryAddresses lan id) at.named
        ((tells unit.partition at.script at.is).bytes (subst HasNoCall at.lines none) unit.unit (subst (NamesOwnPages unit.unit) at.lines plain) at.sits seat
        (ap (λ u. seat_at lan.seats u) at.named ∙ (ap (λ ss. seat_at ss unit) of_plan.ports_are ∙ e))).addresses)

pub told_are : (pairs : List Pair) (scripts : List Script) (lan : LanValue) (rows : LanRows) (history : List Served) (grants : List Grant) (copies : List CopyRecord)
    (partitions : List Partition) → AreOfOneHome copies pairs → AreScripts pairs lan.seats scripts → IsOfPlan partitions pairs scripts lan.seats → All IsOver scripts
    → PortsEnd lan scripts → CountsRows lan rows → All (HasLawfulWindow pairs lan) (seats_of scripts) → PortsAreTold partitions (trace_of pairs scripts lan rows history grants copies)
told_are pairs scripts lan rows history grants copies partitions home are of_plan over ends counted windows = record {
  words = words_are pairs scripts lan rows history grants copies partitions are of_plan over ends.told counted;
  among = among_are pairs scripts lan rows history grants copies partitions are of_plan over ends.told counted windows;
  ranges = ranges_are pairs scripts lan rows history grants copies partitions are of_plan over ends.told;
  buffers = buffers_are pairs scripts lan rows history grants copies partitions are of_plan over ends.told counted;
  forms = forms_are pairs scripts lan rows history grants copies partitions are of_plan over ends.told;
  values = values_told_are pairs scripts lan rows history grants copies partitions are of_plan over ends.told windows;
  regions = regions_are pairs scripts lan rows history grants copies partitions home are of_plan over ends.told windows;
  logged = logged_are pairs scripts lan rows history grants copies partitions home are of_plan over ends.told windows;
  addressed = addressed_are pairs scripts lan rows history grants copies partitions are of_plan over ends.told counted;
  bytes = bytes_are pairs scripts lan rows history grants copies partitions are of_plan over ends.told counted;
  correlators = correlators_are pairs scripts lan rows history grants copies partitions are of_plan over ends.told counted;
  replayed = replayed_are pairs scripts lan rows history grants copies partitions are of_plan over ends counted;
  offered = offered_are pairs scripts lan rows history grants copies partitions are of_plan over ends.told counted;
  fit = fit_are pairs scripts lan rows history grants copies partitions are of_plan over ends.told counted;
}
