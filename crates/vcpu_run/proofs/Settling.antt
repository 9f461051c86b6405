-- A gathered trace of idle units is settled: all entries of each server unit's last session were taken.
use Rattle.std.proofs.Common.{◌≡◌, ◌∙◌, inl, inr, ℕ, ◌+◌, ◌<◌, ◌≤◌, zero, suc, Bool, true, false, List, [], ◌∷◌, All, Option, Some, None, IfNone, IfSome, IsSomeAnd, MatchOption, length, map, slice_get, option_map, refl, sym, ap, subst, arith}
use Rattle.std.proofs.lemmas.Option.{slice_get-map, slice_get_past, slice_get_within}
use Rattle.vio_num.specs.declared.history.Grant.{Grant}
use Rattle.vio_num.specs.declared.history.Served.{Served}
use Rattle.vio_num.specs.declared.names.UnitId.{UnitId}
use Rattle.crq_ring.specs.Pipe.{PipeValue, IsLawfulPipe}
use Rattle.crq_session.specs.PlainState.{side_of}
use Rattle.rdma_copy.specs.declared.copy.CopyRecord.{CopyRecord}
use Rattle.block_server.specs.declared.unit.Unit.{Unit}
use Rattle.boot_text.specs.Sound.{unit_at, unit_in, IsClientOf, IsServer}
use Rattle.boot_text.specs.declared.plan.Partition.{Partition}
use Rattle.boot_text.specs.declared.plan.UnitPlan.{UnitPlan}
use Rattle.boot_text.specs.declared.plan.UnitPlan.TheVariants as units
use Rattle.lan_script.specs.Units.{LanValue}
use Rattle.lan_script.specs.declared.rows.LanRows.{LanRows}
use Rattle.lan_script.specs.declared.seat.PortSeat.{PortSeat}
use Rattle.vio_trace.specs.declared.rows.QueueRow.{QueueRow}
use Rattle.vcpu_run.specs.declared.driver.Driver.{Driver}
use Rattle.vcpu_run.specs.declared.pair.Pair.{Pair}
use Rattle.vcpu_run.specs.declared.script.Script.{Script}
use Rattle.vcpu_run.specs.declared.unit_seat.Seat.{Seat}
use Rattle.vcpu_run.specs.declared.unit_seat.Seat.TheVariants as sits
use Rattle.vcpu_run.specs.declared.unit_seat.UnitSeat.{UnitSeat}
use Rattle.vcpu_run.specs.CopyRows.{same_unit}
use Rattle.vcpu_run.specs.Gathered.{HasLawfulQueue, queue_at, rows_if, sessions_at, trace_of}
use Rattle.vcpu_run.specs.Freed.{IsNotFreed}
use Rattle.vcpu_run.specs.Freeing.{NoneBreaks}
use Rattle.vcpu_run.specs.Holding.{IsBehindServers, KeepQueues}
use Rattle.vcpu_run.specs.Lines.{IsOver}
use Rattle.vcpu_run.proofs.Held.{over_held}
use Rattle.vcpu_run.specs.Links.{AreIdle, AwaitsNone, ClientWaits, EventWaits, IsEmptied, IsFull, LinkState, link_state, links_of}
use Rattle.vcpu_run.specs.Machines.{seat_of, AreScripts, HasNoClient, IsOfPlan, IsPlanned, IsPlannedClient, IsScriptFor}
use Rattle.vcpu_run.specs.Scripts.{are_servers}
use Rattle.vcpu_run.specs.Sessions.{entries_of, session_rows, sessions_from}
use Rattle.vcpu_run.specs.Settled.{ClientsAreSettled, LastIsTaken, LastIsTakenIf, ServersAreSettled, script_in, script_of}
use Rattle.vcpu_run.specs.Shown.{sessions_of}
use Rattle.vcpu_run.specs.Units.{seats_of, unit_seat}
use Rattle.vcpu_run.proofs.Copied.{names_apart}
use Rattle.vcpu_run.proofs.Following.{each_from_all}
use Rattle.vcpu_run.proofs.Homes.{all_at, unit_found}
use Rattle.vcpu_run.proofs.Announcing.{both_bools}
use Rattle.vcpu_run.proofs.Listed.{held, held_is, there_is}
use Rattle.vcpu_run.proofs.Parts.{IsIn, each_in, found}
use Rattle.vcpu_run.proofs.Placing.{seats_ordered}
use Rattle.vcpu_run.proofs.QueueLaws.{entries_are, sessions_told}
use Rattle.vcpu_run.proofs.Resting.{link_at}
use Rattle.vcpu_run.proofs.Seated.{planned_in}
use Rattle.vcpu_run.proofs.Sole.{same_refl}

-- the rows of sessions, of whose last one all was taken
last_taken : (unit : UnitId) (pipe : PipeValue) (last q n : ℕ) → last ≡ q + n → entries_of last pipe.taken ≡ entries_of last pipe.sent
    → LastIsTaken (sessions_from unit pipe q (suc n))
last_taken unit pipe last q zero is all =
    let same : last ≡ q = omega (arith, is) in
    subst (λ s. entries_of s pipe.taken ≡ entries_of s pipe.sent) same all
last_taken unit pipe last q (suc n) is all = last_taken unit pipe last (q + 1) n (omega (arith, is)) all

rows_taken : (unit : UnitId) (pipe : PipeValue) (n : ℕ) → pipe.session ≡ n → 1 ≤ n → entries_of n pipe.taken ≡ entries_of n pipe.sent
    → LastIsTaken (sessions_from unit pipe 1 n)
rows_taken unit pipe zero is some all = absurd (omega (arith, some))
rows_taken unit pipe (suc n) is some all = last_taken unit pipe (suc n) 1 n (omega arith) all

-- a script whose first unit is a server unit is that of the plan's server units
first_serves : (plans : List UnitPlan) → are_servers (map seat_of plans) ≡ true → (queue : ℕ) × (slice_get plans 0 ≡ Some (units.Server queue))
first_serves [] of = cc
first_serves (units.Server queue ∷ plans) of = (queue, refl)
first_serves (units.Client server pages queue ∷ plans) of = cc
first_serves (units.Lan mac pages slots ∷ plans) of = cc

serves_first : (plans : List UnitPlan) (queue : ℕ) → slice_get plans 0 ≡ Some (units.Server queue) → are_servers (map seat_of plans) ≡ true
serves_first [] queue first = cc
serves_first (units.Server q ∷ plans) queue first = refl
serves_first (units.Client server pages q ∷ plans) queue first = cc
serves_first (units.Lan mac pages slots ∷ plans) queue first = cc

-- the partition of a script, and the script of a unit
script_for : (partitions : List Partition) (pairs : List Pair) (scripts : List Script) (ports : List PortSeat) (i : ℕ) (script : Script)
    → IsOfPlan partitions pairs scripts ports → slice_get scripts i ≡ Some script → (partition : Partition) × (slice_get partitions i ≡ Some partition) × IsScriptFor partition script
script_for partitions pairs scripts ports i script plan there =
    held (λ partition. IsScriptFor partition script) (slice_get partitions i) (plan.scripts_are.each i script there)

pub script_at : (partitions : List Partition) (pairs : List Pair) (scripts : List Script) (ports : List PortSeat) (id : UnitId) (unit : UnitPlan)
    → IsOfPlan partitions pairs scripts ports → unit_at partitions id ≡ Some unit
    → (script : Script) × (slice_get scripts id.partition ≡ Some script) × (slice_get script.seats.items id.unit ≡ Some (seat_of unit))
script_at partitions pairs scripts ports id unit plan named =
    let there = unit_found (slice_get partitions id.partition) id.unit unit named in
    let within : id.partition < length partitions = slice_get_within partitions id.partition there.0 there.1 in
    let script = there_is scripts id.partition (omega (arith, within, plan.scripts_are.count)) in
    let for_it : IsScriptFor there.0 script.0 =
    held_is (λ partition. IsScriptFor partition script.0) (slice_get partitions id.partition) there.0 there.1 (plan.scripts_are.each id.partition script.0 script.1) in
    (script.0, script.1, ap (λ (seats : List Seat). slice_get seats id.unit) for_it.seats ∙ (slice_get-map seat_of there.0.units id.unit ∙ ap (option_map seat_of) there.2))

pub servers_home : (partitions : List Partition) (pairs : List Pair) (scripts : List Script) (ports : List PortSeat) (server : UnitId) (i : ℕ) (script : Script)
    → IsOfPlan partitions pairs scripts ports → IsServer partitions server → slice_get scripts i ≡ Some script → are_servers script.seats.items ≡ true → i ≡ server.partition
servers_home partitions pairs scripts ports server i script plan serves there of =
    let own = script_for partitions pairs scripts ports i script plan there in
    let first = first_serves own.0.units (ap are_servers (sym own.2.seats) ∙ of) in
    let id : UnitId = record { partition = i; unit = 0 } in
    let named : unit_at partitions id ≡ Some (units.Server first.0) = ap (λ slot. unit_in slot 0) own.1 ∙ first.1 in
    plan.sound.one_home id server (first.0, named) serves

pub no_servers : (partitions : List Partition) (pairs : List Pair) (scripts : List Script) (ports : List PortSeat) (server : UnitId) (i : ℕ) (script : Script)
    → IsOfPlan partitions pairs scripts ports → IsServer partitions server → slice_get scripts i ≡ Some script → server.partition < i → are_servers script.seats.items ≡ false
no_servers partitions pairs scripts ports server i script plan serves there behind = at (are_servers script.seats.items) refl
  where
    at : (b : Bool) → are_servers script.seats.items ≡ b → are_servers script.seats.items ≡ false
    at false is = is
    at true is = let home = servers_home partitions pairs scripts ports server i script plan serves there is in absurd (omega (arith, home, behind))

-- the script of the server units
pub home_serves : (partitions : List Partition) (pairs : List Pair) (scripts : List Script) (ports : List PortSeat) (server : UnitId) (pair : Pair) (script : Script)
    → IsOfPlan partitions pairs scripts ports → IsServer partitions server → slice_get pairs server.unit ≡ Some pair → slice_get scripts server.partition ≡ Some script
    → are_servers script.seats.items ≡ true
home_serves partitions pairs scripts ports server pair script plan serves there at =
    let less : server.unit < length pairs = slice_get_within pairs server.unit pair there in
    let zeroth = there_is pairs 0 (omega (arith, less)) in
    let is : IsPlanned partitions 0 zeroth.0 = plan.pairs_are.each 0 zeroth.0 zeroth.1 in
    let home : zeroth.0.server.partition ≡ server.partition = plan.sound.one_home zeroth.0.server server (is.pages, is.planned) serves in
    let own = script_for partitions pairs scripts ports server.partition script plan at in
    let named : unit_in (slice_get partitions zeroth.0.server.partition) zeroth.0.server.unit ≡ Some (units.Server is.pages) = is.planned in
    let first : unit_in (slice_get partitions server.partition) 0 ≡ Some (units.Server is.pages) =
    subst (λ u. unit_in (slice_get partitions server.partition) u ≡ Some (units.Server is.pages)) is.number
    (subst (λ p. unit_in (slice_get partitions p) zeroth.0.server.unit ≡ Some (units.Server is.pages)) home named) in
    ap are_servers own.2.seats ∙ serves_first own.0.units is.pages (ap (λ slot. unit_in slot 0) (sym own.1) ∙ first)

-- a client's queue is not full where the client waits
not_full : (pipe : PipeValue) (link : LinkState) → IsLawfulPipe pipe → link.client.slots ≡ pipe.slots → IsFull link.client → ClientWaits link → ⊥
not_full pipe link laws slots full waits = elim waits as (λ _. ⊥) [
  | inl closed ↦ both_bools link.client.registered full.registered closed
  | inr taken ↦
      let some = laws.some_slots in
      let same = ap length taken in
      let whole = full.full in
      omega (arith, some, same, whole, slots)
]

-- where the server unit has a client, its queue is not full
full_served : (servers : List Unit) (pairs : List Pair) (scripts : List Script) (ports : List PortSeat) (partitions : List Partition) (server : UnitId) (pair : Pair) (driver : Driver)
    → AreScripts pairs ports scripts → All (HasLawfulQueue pairs) (seats_of scripts) → IsOfPlan partitions pairs scripts ports → AreIdle servers pairs scripts
    → IsServer partitions server → slice_get pairs server.unit ≡ Some pair → pair.server ≡ server
    → IsPlannedClient partitions pair driver → IsFull (link_state pair.link).client → ⊥
full_served servers pairs scripts ports partitions server pair driver are lawful plan idle serves there is planned full =
    let id = driver.unit in
    let named : unit_at partitions id ≡ Some (units.Client pair.server planned.pages planned.queue) = planned.planned in
    let at = script_at partitions pairs scripts ports id (units.Client pair.server planned.pages planned.queue) plan named in
    let script : Script = at.0 in
    let earlier : pair.server.partition < id.partition = plan.sound.earlier id pair.server (planned.pages, planned.queue, named) in
    let behind : server.partition < id.partition = subst (λ (s : UnitId). s.partition < id.partition) is earlier in
    let other = no_servers partitions pairs scripts ports server id.partition script plan serves at.1 behind in
    let place : slice_get script.seats.items id.unit ≡ Some (sits.Client server.unit) =
    at.2 ∙ ap (λ (s : UnitId). Some (sits.Client s.unit)) is in
    let wait = (idle.wait.clients id.partition script (slice_get_within scripts id.partition script at.1) at.1 other
    (λ j later past within found. no_servers partitions pairs scripts ports server j later plan serves found (omega (arith, past, behind)))).clients
    id.unit server.unit place in
    let waits : ClientWaits (link_state pair.link) =
    held_is ClientWaits (slice_get (links_of pairs) server.unit) (link_state pair.link) (link_at pairs server.unit pair there) wait in
    let seat : UnitSeat = unit_seat id.partition id.unit (sits.Client server.unit) in
    let inside : IsIn seat (seats_of scripts) =
    subst (λ (s : UnitId). IsIn (unit_seat id.partition id.unit (sits.Client s.unit)) (seats_of scripts)) is
    (planned_in partitions pairs scripts ports id (units.Client pair.server planned.pages planned.queue) are plan named) in
    let queue : queue_at pairs seat ≡ Some (side_of pair.link false).queue = ap (option_map (λ (pair : Pair). (side_of pair.link false).queue)) there in
    let laws : IsLawfulPipe (side_of pair.link false).queue =
    subst (λ slot. IfSome slot IsLawfulPipe) queue (each_in (HasLawfulQueue pairs) seat (seats_of scripts) inside (each_from_all (HasLawfulQueue pairs) (seats_of scripts) lawful)) in
    not_full (side_of pair.link false).queue (link_state pair.link) laws refl full waits

never_full : (servers : List Unit) (pairs : List Pair) (scripts : List Script) (ports : List PortSeat) (partitions : List Partition) (server : UnitId) (pair : Pair)
    → AreScripts pairs ports scripts → All (HasLawfulQueue pairs) (seats_of scripts) → IsOfPlan partitions pairs scripts ports → AreIdle servers pairs scripts
    → IsServer partitions server → slice_get pairs server.unit ≡ Some pair → pair.server ≡ server → IsFull (link_state pair.link).client → ⊥
never_full servers pairs scripts ports partitions server pair are lawful plan idle serves there is full =
    at pair.driver (plan.pairs_are.each server.unit pair there).client (idle.shut server.unit pair there)
  where
    at : (o : Option Driver) → MatchOption o (HasNoClient partitions pair.server) (IsPlannedClient partitions pair)
        → IfNone o ((side_of pair.link false).registered ≡ false) → ⊥
    at None none shut = both_bools (side_of pair.link false).registered full.registered shut
    at (Some driver) planned shut = full_served servers pairs scripts ports partitions server pair driver are lawful plan idle serves there is planned full

-- the server unit's queue is empty, and none of its entries waits to be fetched
pub emptied : (servers : List Unit) (pairs : List Pair) (scripts : List Script) (ports : List PortSeat) (partitions : List Partition) (server : UnitId) (pair : Pair)
    → AreScripts pairs ports scripts → All (HasLawfulQueue pairs) (seats_of scripts) → IsOfPlan partitions pairs scripts ports → AreIdle servers pairs scripts
    → IsServer partitions server → slice_get pairs server.unit ≡ Some pair → pair.server ≡ server → IsEmptied (link_state pair.link).server × AwaitsNone (slice_get servers server.unit)
emptied servers pairs scripts ports partitions server pair are lawful plan idle serves there is =
    let at = script_at partitions pairs scripts ports server (units.Server serves.0) plan serves.1 in
    let of = home_serves partitions pairs scripts ports server pair at.0 plan serves there at.1 in
    let waits = idle.wait.servers server.partition at.0 (slice_get_within scripts server.partition at.0 at.1) at.1 of server.unit (link_state pair.link)
    (link_at pairs server.unit pair there) in
    elim waits as (λ _. IsEmptied (link_state pair.link).server × AwaitsNone (slice_get servers server.unit)) [
      | inl full ↦ absurd (never_full servers pairs scripts ports partitions server pair are lawful plan idle serves there is full)
      | inr empty ↦ empty
    ]

pub settled_are : (pairs : List Pair) (scripts : List Script) (lan : LanValue) (rows : LanRows) (history : List Served) (grants : List Grant) (copies : List CopyRecord) (partitions : List Partition) (servers : List Unit)
    → AreScripts pairs lan.seats scripts → All (HasLawfulQueue pairs) (seats_of scripts) → IsOfPlan partitions pairs scripts lan.seats → AreIdle servers pairs scripts
    → ServersAreSettled partitions (trace_of pairs scripts lan rows history grants copies)
settled_are pairs scripts lan rows history grants copies partitions servers are lawful plan idle server serves =
    let there = held (λ (pair : Pair). pair.server ≡ server) (slice_get pairs server.unit) (plan.pairs_are.servers server serves) in
    let pair : Pair = there.0 in
    let pipe : PipeValue = (side_of pair.link true).queue in
    let seats = seats_of scripts in
    let seat : UnitSeat = unit_seat server.partition server.unit sits.Server in
    let inside : IsIn seat seats = planned_in partitions pairs scripts lan.seats server (units.Server serves.0) are plan serves.1 in
    let queue : queue_at pairs seat ≡ Some pipe = ap (option_map (λ (pair : Pair). (side_of pair.link true).queue)) there.1 in
    let trace = trace_of pairs scripts lan rows history grants copies in
    let sessions : sessions_of trace server ≡ session_rows server pipe =
    found (λ (row : QueueRow). same_unit row.unit server) (λ (other : UnitSeat). same_unit other.unit server) (sessions_at pairs) seat (same_refl server) seats inside
    (sessions_told pairs server seats) (names_apart server seats (seats_ordered pairs lan.seats scripts are))
    ∙ ap (rows_if (session_rows server)) queue in
    let empty : IsEmptied (link_state pair.link).server = (emptied servers pairs scripts lan.seats partitions server pair are lawful plan idle serves there.1 there.2).0 in
    let some : 1 ≤ pipe.session = (side_of pair.link true).begun empty.registered in
    let all : entries_of pipe.session pipe.taken ≡ entries_of pipe.session pipe.sent =
    sym (entries_are pipe.session pipe.taken) ∙ (sym empty.taken ∙ entries_are pipe.session pipe.sent) in
    subst LastIsTaken (sym sessions) (rows_taken server pipe pipe.session refl some all)

-- the seat of a client unit, at the pair of its server unit
client_seat : (partitions : List Partition) (pairs : List Pair) (scripts : List Script) (ports : List PortSeat) (client server : UnitId) → IsOfPlan partitions pairs scripts ports
    → IsClientOf partitions client server
    → (script : Script) × (slice_get scripts client.partition ≡ Some script) × (slice_get script.seats.items client.unit ≡ Some (sits.Client server.unit))
client_seat partitions pairs scripts ports client server plan is = script_at partitions pairs scripts ports client (units.Client server is.0 is.1) plan is.2

-- its client waits, and so does the event that it keeps
pub client_waits : (servers : List Unit) (pairs : List Pair) (scripts : List Script) (ports : List PortSeat) (partitions : List Partition) (client server : UnitId)
    → IsOfPlan partitions pairs scripts ports → AreIdle servers pairs scripts → IsServer partitions server → IsClientOf partitions client server
    → IsSomeAnd (slice_get (links_of pairs) server.unit) ClientWaits × IfSome (slice_get pairs server.unit) EventWaits
client_waits servers pairs scripts ports partitions client server plan idle serves is =
    let at = client_seat partitions pairs scripts ports client server plan is in
    let behind : server.partition < client.partition = plan.sound.earlier client server is in
    let other = no_servers partitions pairs scripts ports server client.partition at.0 plan serves at.1 behind in
    let wait = idle.wait.clients client.partition at.0 (slice_get_within scripts client.partition at.0 at.1) at.1 other
    (λ j later past within found. no_servers partitions pairs scripts ports server j later plan serves found (omega (arith, past, behind))) in
    (wait.clients client.unit server.unit at.2, wait.events client.unit server.unit at.2)

last_if : (rows : List QueueRow) → LastIsTaken rows → LastIsTakenIf rows
last_if [] last = absurd last
last_if (row ∷ rows) last = last

-- a client's queue that was not freed
pub unfreed_taken : (unit : UnitId) (pair : Pair) → IsNotFreed pair → ClientWaits (link_state pair.link) → LastIsTakenIf (session_rows unit (side_of pair.link false).queue)
unfreed_taken unit pair kept waits = at (side_of pair.link false).queue.session refl
  where
    pipe : PipeValue
    pipe = (side_of pair.link false).queue

    all : 1 ≤ pipe.session → entries_of pipe.session pipe.taken ≡ entries_of pipe.session pipe.sent
    all some = elim waits as (λ _. entries_of pipe.session pipe.taken ≡ entries_of pipe.session pipe.sent) [
      | inl closed ↦ absurd (both_bools (side_of pair.link false).registered (kept some) closed)
      | inr taken ↦ sym (entries_are pipe.session pipe.taken) ∙ (sym taken ∙ entries_are pipe.session pipe.sent)
    ]

    at : (n : ℕ) → pipe.session ≡ n → LastIsTakenIf (sessions_from unit pipe 1 pipe.session)
    at zero is = subst (λ n. LastIsTakenIf (sessions_from unit pipe 1 n)) (sym is) tt
    at (suc n) is =
        let some : 1 ≤ pipe.session = omega (arith, is) in
        last_if (sessions_from unit pipe 1 pipe.session) (rows_taken unit pipe pipe.session refl some (all some))

-- the script of a client comes behind that of its server unit
behind_servers : (pairs : List Pair) (scripts : List Script) (ports : List PortSeat) (partitions : List Partition) (client server : UnitId) (pair : Pair)
    → IsOfPlan partitions pairs scripts ports → IsServer partitions server → IsClientOf partitions client server → slice_get pairs server.unit ≡ Some pair
    → (script : Script) → slice_get scripts client.partition ≡ Some script → IsBehindServers client.partition script scripts
behind_servers pairs scripts ports partitions client server pair plan serves is there script found =
    let behind : server.partition < client.partition = plan.sound.earlier client server is in
    let at = script_at partitions pairs scripts ports server (units.Server serves.0) plan serves.1 in
    let of : are_servers at.0.seats.items ≡ true = home_serves partitions pairs scripts ports server pair at.0 plan serves there at.1 in
    record {
      others = no_servers partitions pairs scripts ports server client.partition script plan serves found behind;
      servers = (server.partition, behind, subst (λ o. IsSomeAnd o (λ (script : Script). are_servers script.seats.items ≡ true)) (sym at.1) of);
    }

pub handed_are : (pairs : List Pair) (scripts : List Script) (lan : LanValue) (rows : LanRows) (history : List Served) (grants : List Grant) (copies : List CopyRecord) (partitions : List Partition) (servers : List Unit)
    → AreScripts pairs lan.seats scripts → IsOfPlan partitions pairs scripts lan.seats → AreIdle servers pairs scripts → KeepQueues pairs scripts → All IsOver scripts
    → ClientsAreSettled partitions (trace_of pairs scripts lan rows history grants copies)
handed_are pairs scripts lan rows history grants copies partitions servers are plan idle keep over client server is none =
    let serves = plan.sound.served client server is in
    let there = held (λ (pair : Pair). pair.server ≡ server) (slice_get pairs server.unit) (plan.pairs_are.servers server serves) in
    let pair : Pair = there.0 in
    let pipe : PipeValue = (side_of pair.link false).queue in
    let at = client_seat partitions pairs scripts lan.seats client server plan is in
    let own = script_for partitions pairs scripts lan.seats client.partition at.0 plan at.1 in
    let lines : script_of partitions client.partition ≡ at.0.lines.now = ap script_in own.1 ∙ sym own.2.lines in
    let kept : IsNotFreed pair =
    some_is_so IsNotFreed (slice_get pairs server.unit) pair there.1
    (over_held pairs at.0 client.unit server.unit (slice_get_past at.0.lines.now at.0.at (all_at IsOver scripts client.partition at.0 over at.1)) (subst NoneBreaks lines none) at.2
    (keep client.partition at.0 at.1 (behind_servers pairs scripts lan.seats partitions client server pair plan serves is there.1 at.0 at.1))) in
    let waits : ClientWaits (link_state pair.link) =
    held_is ClientWaits (slice_get (links_of pairs) server.unit) (link_state pair.link) (link_at pairs server.unit pair there.1)
    (client_waits servers pairs scripts lan.seats partitions client server plan idle serves is).0 in
    let seats = seats_of scripts in
    let seat : UnitSeat = unit_seat client.partition client.unit (sits.Client server.unit) in
    let inside : IsIn seat seats = planned_in partitions pairs scripts lan.seats client (units.Client server is.0 is.1) are plan is.2 in
    let queue : queue_at pairs seat ≡ Some pipe = ap (option_map (λ (pair : Pair). (side_of pair.link false).queue)) there.1 in
    let trace = trace_of pairs scripts lan rows history grants copies in
    let sessions : sessions_of trace client ≡ session_rows client pipe =
    found (λ (row : QueueRow). same_unit row.unit client) (λ (other : UnitSeat). same_unit other.unit client) (sessions_at pairs) seat (same_refl client) seats inside
    (sessions_told pairs client seats) (names_apart client seats (seats_ordered pairs lan.seats scripts are))
    ∙ ap (rows_if (session_rows client)) queue in
    subst LastIsTakenIf (sym sessions) (unfreed_taken client pair kept waits)
  where
    some_is_so : {X : Type 0} (P : X → Type 0) (o : Option X) (x : X) → o ≡ Some x → IfSome o P → P x
    some_is_so P o x is h = subst (λ o. IfSome o P) is h
