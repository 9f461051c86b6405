-- The plan that the lines so far say, which lines may follow, and what each adds.
use Rattle.std.specs.Prelude.{ℕ, ◌+◌, ◌==◌, ◌&&◌, ◌||◌, not, nat_lt, Bool, true, false, List, [], ◌∷◌, ◌++◌, length, slice_get, Option, Some, None, if◌then◌else◌}
use Rattle.std.specs.List.{list_any, count_by, sum_by}
use Rattle.vio_num.specs.declared.names.UnitId.{UnitId}
use Rattle.boot_text.specs.Cost.{line_cost}
use Rattle.boot_text.specs.declared.cause.Cause.{Cause}
use Rattle.boot_text.specs.declared.cause.Cause.TheVariants as causes
use Rattle.boot_text.specs.declared.cost.TheConstants.{MOST_COST}
use Rattle.boot_text.specs.declared.keyword.Keyword.{Keyword}
use Rattle.boot_text.specs.declared.keyword.Keyword.TheVariants as keywords
use Rattle.boot_text.specs.declared.names.Name.{Name}
use Rattle.boot_text.specs.declared.plan.Line.{Line}
use Rattle.boot_text.specs.declared.plan.Partition.{Partition}
use Rattle.boot_text.specs.declared.plan.UnitPlan.{UnitPlan}
use Rattle.boot_text.specs.declared.plan.UnitPlan.TheVariants as units
use Rattle.boot_text.specs.declared.plan.TheConstants.{MOST_PARTITIONS, MOST_UNITS, MOST_PORTS, MOST_PAGES, SERVER_PAGES}
use Rattle.boot_text.specs.declared.statement.Statement.{Statement}
use Rattle.boot_text.specs.declared.statement.Statement.TheVariants as statements
use Rattle.boot_text.specs.declared.verb.Verb.{Verb}
use Rattle.boot_text.specs.declared.verb.Verb.TheVariants as verbs

pub record SoFar : Type 0 where
  -- what the last line was
  pub last : Keyword
  pub rounds : ℕ
  pub grant : ℕ
  -- the partitions that have ended
  pub ended : List Partition
  -- the units and the script of the one that has not
  pub units : List UnitPlan
  pub lines : List Line

-- before any line but the first
abbrev pub nothing : SoFar
nothing = record { last = keywords.Version; rounds = 0; grant = 0; ended = []; units = []; lines = [] }

-- whether a line of this kind may stand behind one of that
abbrev pub is_unit : Keyword → Bool
is_unit keywords.Server = true
is_unit keywords.Client = true
is_unit keywords.Lan = true
is_unit _ = false

abbrev pub is_in_script : Keyword → Bool
is_in_script keywords.Script = true
is_in_script keywords.End = true
is_in_script _ = false

abbrev pub follows : Keyword → Keyword → Bool
follows keywords.Version keywords.Rounds = true
follows keywords.Rounds keywords.Grant = true
follows keywords.Grant keywords.Partition = true
follows keywords.End keywords.Partition = true
follows keywords.Partition next = is_unit next
follows keywords.Server next = is_unit next || is_in_script next
follows keywords.Client next = is_unit next || is_in_script next
follows keywords.Lan next = is_unit next || is_in_script next
follows keywords.Script next = is_in_script next
follows _ _ = false

-- whether a unit is a server unit, or a LAN port
abbrev pub is_server : UnitPlan → Bool
is_server (units.Server queue) = true
is_server _ = false

abbrev pub is_port : UnitPlan → Bool
is_port (units.Lan mac pages slots) = true
is_port _ = false

-- whether it is a client of this server unit
abbrev pub names : Name → UnitPlan → Bool
names name (units.Client server pages queue) = (server.partition == name.partition) && (server.unit == name.unit)
names name _ = false

-- the pages of its region
abbrev pub pages_of : UnitPlan → ℕ
pages_of (units.Server queue) = SERVER_PAGES
pages_of (units.Client server pages queue) = pages
pages_of (units.Lan mac pages slots) = pages

abbrev pub has_server : List UnitPlan → Bool
has_server list = list_any is_server list

abbrev pub ports_in : List UnitPlan → ℕ
ports_in list = count_by is_port list

abbrev pub pages_in : List UnitPlan → ℕ
pages_in list = sum_by pages_of list

-- the LAN ports and the pages of all units so far
abbrev pub ports_of : SoFar → ℕ
ports_of s = sum_by (λ p. ports_in p.units) s.ended + ports_in s.units

abbrev pub pages_so_far : SoFar → ℕ
pages_so_far s = sum_by (λ p. pages_in p.units) s.ended + pages_in s.units

-- the cost of the scripts of partitions behind so many ports: those of a partition stand before its script
abbrev pub script_cost : ℕ → List Line → ℕ
script_cost ports lines = sum_by (λ line. line_cost ports line.verb) lines

abbrev pub cost_of : ℕ → List Partition → ℕ
cost_of ports [] = 0
cost_of ports (p ∷ ps) = script_cost (ports + ports_in p.units) p.lines + cost_of (ports + ports_in p.units) ps

abbrev pub cost_so_far : SoFar → ℕ
cost_so_far s = cost_of 0 s.ended + script_cost (ports_of s) s.lines

-- whether one more unit of so many pages is too many
abbrev pub exceeds : SoFar → (pages : ℕ) → (port : Bool) → Bool
exceeds s pages port =
    length s.units == MOST_UNITS || (nat_lt MOST_PAGES (pages_so_far s + pages) || (port && ports_of s == MOST_PORTS))

-- whether a server unit of this name stands in an earlier partition
abbrev pub has_server_at : Option UnitPlan → Bool
has_server_at None = false
has_server_at (Some unit) = is_server unit

abbrev pub serves_at : Option Partition → ℕ → Bool
serves_at None unit = false
serves_at (Some partition) unit = has_server_at (slice_get partition.units unit)

abbrev pub is_served : SoFar → Name → Bool
is_served s name = serves_at (slice_get s.ended name.partition) name.unit

-- whether a client names it already
abbrev pub is_named : SoFar → Name → Bool
is_named s name = list_any (λ p. list_any (names name) p.units) s.ended || list_any (names name) s.units

-- whether a verb is one of a client, and of a LAN port
abbrev pub is_for_client : Verb → Bool
is_for_client verbs.Open = false
is_for_client verbs.Close = false
is_for_client (verbs.Post at len count) = false
is_for_client (verbs.Send to len seed at) = false
is_for_client (verbs.ChangeMac own) = false
is_for_client (verbs.Multicast control group) = false
is_for_client _ = true

abbrev pub is_for_port : Verb → Bool
is_for_port verbs.Login = false
is_for_port verbs.Reset = false
is_for_port verbs.Logout = false
is_for_port verbs.Tur = false
is_for_port (verbs.Read lba blocks at pieces table) = false
is_for_port (verbs.Write lba blocks at pieces table) = false
is_for_port (verbs.Command cdb) = false
is_for_port (verbs.CommandIn cdb at len pieces table) = false
is_for_port (verbs.CommandOut cdb at len pieces table) = false
is_for_port (verbs.Task function tag) = false
is_for_port (verbs.Data tag) = false
is_for_port _ = true

-- whether it is one of this unit
abbrev pub suits : Verb → Option UnitPlan → Bool
suits verb None = false
suits verb (Some (units.Server queue)) = false
suits verb (Some (units.Client server pages queue)) = is_for_client verb
suits verb (Some (units.Lan mac pages slots)) = is_for_port verb

-- what is wrong with a further partition, a server unit, a client of a server unit, a LAN port, and a script line; of the
-- last, whether its cost is too much
abbrev pub partition_offence : SoFar → Option Cause
partition_offence s = if length s.ended == MOST_PARTITIONS then Some causes.Limit else None

abbrev pub server_offence : SoFar → Option Cause
server_offence s =
    if exceeds s SERVER_PAGES false then Some causes.Limit
    else if list_any (λ unit. not (is_server unit)) s.units || list_any (λ p. has_server p.units) s.ended then Some causes.Link
    else None

abbrev pub client_offence : SoFar → Name → ℕ → Option Cause
client_offence s server pages =
    if exceeds s pages false then Some causes.Limit
    else if has_server s.units || (not (is_served s server) || is_named s server) then Some causes.Link
    else None

abbrev pub port_offence : SoFar → ℕ → Option Cause
port_offence s pages =
    if exceeds s pages true then Some causes.Limit
    else if has_server s.units then Some causes.Link
    else None

abbrev pub is_over : SoFar → Verb → Bool
is_over s verb = nat_lt MOST_COST (cost_so_far s + line_cost (ports_of s) verb)

abbrev pub script_offence : SoFar → ℕ → Verb → Option Cause
script_offence s unit verb =
    if has_server s.units then Some causes.Link
    else if not (suits verb (slice_get s.units unit)) then Some causes.Unit
    else if is_over s verb then Some causes.Transfer
    else None

-- what is wrong with a line behind those so far: the first reason that stands
abbrev pub offence : SoFar → Statement → Option Cause
offence s statements.Partition = partition_offence s
offence s (statements.Server queue) = server_offence s
offence s (statements.Client server pages queue) = client_offence s server pages
offence s (statements.Lan mac pages slots) = port_offence s pages
offence s (statements.Script unit verb) = script_offence s unit verb
offence s _ = None

-- what a line is that says this
abbrev pub kind_of : Statement → Keyword
kind_of statements.Version = keywords.Version
kind_of (statements.Rounds rounds) = keywords.Rounds
kind_of (statements.Grant grant) = keywords.Grant
kind_of statements.Partition = keywords.Partition
kind_of statements.End = keywords.End
kind_of (statements.Server queue) = keywords.Server
kind_of (statements.Client server pages queue) = keywords.Client
kind_of (statements.Lan mac pages slots) = keywords.Lan
kind_of (statements.Script unit verb) = keywords.Script

-- the unit that a client names
abbrev pub unit_id : Name → UnitId
unit_id name = record { partition = name.partition; unit = name.unit }

-- the plan with one line more, of this number
abbrev pub adds : ℕ → Statement → SoFar → SoFar
adds number statements.Version s = s
adds number (statements.Rounds rounds) s = record s { last = keywords.Rounds; rounds = rounds }
adds number (statements.Grant grant) s = record s { last = keywords.Grant; grant = grant }
adds number statements.Partition s = record s { last = keywords.Partition }
adds number (statements.Server queue) s = record s { last = keywords.Server; units = s.units ++ units.Server queue ∷ [] }
adds number (statements.Client server pages queue) s =
    record s { last = keywords.Client; units = s.units ++ units.Client (unit_id server) pages queue ∷ [] }
adds number (statements.Lan mac pages slots) s =
    record s { last = keywords.Lan; units = s.units ++ units.Lan mac pages slots ∷ [] }
adds number (statements.Script unit verb) s =
    record s { last = keywords.Script; lines = s.lines ++ record { number = number; unit = unit; verb = verb } ∷ [] }
adds number statements.End s =
    record s { last = keywords.End; ended = s.ended ++ record { units = s.units; lines = s.lines } ∷ []; units = []; lines = [] }
