-- Plain clients of a machine before its first round: each sits at the pair of its server unit, behind that unit's script, and both are as
-- they were made.
use Rattle.std.proofs.Common.{◌≡◌, ◌≢◌, ◌∙◌, ◌⊎◌, inr, ℕ, ◌<◌, ◌≤◌, true, All, List, [], IfSome, IsSomeAnd, Option, Some, None, length, slice_get, refl, sym, ap, subst, arith}
use Rattle.std.proofs.lemmas.List.Elements.{All-nil}
use Rattle.std.proofs.lemmas.Option.{slice_get_within}
use Rattle.vio_num.specs.declared.history.Grant.{Grant}
use Rattle.vio_num.specs.declared.history.Served.{Served}
use Rattle.vio_num.specs.declared.names.UnitId.{UnitId}
use Rattle.page_slots.specs.Stroke.{StrokeValue}
use Rattle.block_server.specs.Makers.{same_unit}
use Rattle.block_server.specs.Receipts.{unit_of as unit_named}
use Rattle.block_server.specs.Talk.{AreNewUnits, IsNewUnit}
use Rattle.block_server.specs.Units.{AreGranting}
use Rattle.block_server.specs.declared.unit.Unit.{Unit}
use Rattle.boot_text.specs.Sound.{IsClientOf, IsServer, unit_in}
use Rattle.boot_text.specs.declared.plan.Partition.{Partition}
use Rattle.boot_text.specs.declared.plan.UnitPlan.TheVariants as units
use Rattle.lan_script.specs.declared.seat.PortSeat.{PortSeat}
use Rattle.tce_window.specs.PlainPort.{known_of}
use Rattle.vcpu_run.specs.Machines.{IsOfPlan, IsScriptFor, home_of, seat_of, server_id}
use Rattle.vcpu_run.specs.Making.{AreMade, IsMade}
use Rattle.vcpu_run.specs.Credited.{ended_by, Ended}
use Rattle.vcpu_run.specs.PlainClients.{ends_by_client, granted_in}
use Rattle.vcpu_run.specs.PlainNoted.{AreAnswers, AsksFor, IsAnswerOfRow, IsLaidAnswer, IsNoResponse}
use Rattle.vcpu_run.specs.PlainPairs.{AreBlank, IsNewBetween, IsNewPair, IsOpened, IsReadyPair, OpenPlainly, between_of, books_of}
use Rattle.vcpu_run.specs.PlainRuns.{ArePlain}
use Rattle.vcpu_run.specs.PlainScripts.{StandsPlainly, StartsAnew, told_in}
use Rattle.vcpu_run.specs.Ports.{unit_of}
use Rattle.vcpu_run.specs.Scripts.{are_servers}
use Rattle.vcpu_run.specs.declared.driver.Driver.{Driver}
use Rattle.vcpu_run.specs.declared.pair.Pair.{Pair}
use Rattle.vcpu_run.specs.declared.script.Script.{Script}
use Rattle.vcpu_run.specs.declared.unit_seat.Seat.{Seat}
use Rattle.vcpu_run.specs.declared.unit_seat.Seat.TheVariants as sits
use Rattle.vcpu_run.proofs.Booted.{client_sits}
use Rattle.vcpu_run.proofs.Homes.{all_at, at_home}
use Rattle.vcpu_run.proofs.Listed.{held, is_held, mapped, there_is}
use Rattle.vcpu_run.proofs.PlainBorne.{none_borne}
use Rattle.vcpu_run.proofs.PlainTurning.{none_ended}
use Rattle.vcpu_run.proofs.Seated.{client_plan}
use Rattle.vcpu_run.proofs.Settling.{home_serves, no_servers, script_at}
use Rattle.vcpu_run.specs.PlainRejected.{TellsOf}

-- each script is as it was made
abbrev pub ScriptsStart : List Script → Type 0
ScriptsStart scripts = (i : ℕ) (script : Script) → slice_get scripts i ≡ Some script
    → (script.logs.items ≡ []) × ((granted u : ℕ) (pair : Pair) → StartsAnew pair → StandsPlainly granted u script pair)

pub scripts_start : (partitions : List Partition) (scripts : List Script) → AreMade partitions scripts → ScriptsStart scripts
scripts_start partitions scripts made i script found =
    let is = held (λ partition. IsMade partition i script) (slice_get partitions i) (made.each i script found) in
    (is.2.fresh, is.2.plainly)

-- so none of its lines has told anything
pub none_told : (u : ℕ) (script : Script) → script.logs.items ≡ [] → told_in u script ≡ []
none_told u script fresh = ap (ended_by u script.lines.now) fresh ∙ none_ended u script.lines.now

-- The server units are as they were made: each bears its number, and grants so many requests.
pub record UnitsStart (granted home : ℕ) (list : List Unit) : Type 0 where
  pub made : AreNewUnits list
  pub granting : AreGranting granted list
  pub names : (k : ℕ) (unit : Unit) → slice_get list k ≡ Some unit → unit.id ≡ server_id home k

pub new_at : (o : Option Unit) (unit : Unit) → o ≡ Some unit → IfSome o IsNewUnit → IsNewUnit unit
new_at None unit e is = cc
new_at (Some other) unit e is = subst IsNewUnit (some other unit e) is
  where
    some : (a b : Unit) → Some a ≡ Some b → a ≡ b
    some a b e = cc

pub driver_at : (pair : Pair) (o : Option Driver) (driver : Driver) → o ≡ Some driver → IfSome o (IsOpened pair) → IsOpened pair driver
driver_at pair None driver e is = cc
driver_at pair (Some other) driver e is = subst (IsOpened pair) (some other driver e) is
  where
    some : (a b : Driver) → Some a ≡ Some b → a ≡ b
    some a b e = cc

-- the client and its server unit, before the first turn
pub between_new : (granted : ℕ) (unit : Unit) (driver : Driver) (pair : Pair) → IsNewUnit unit → unit.logins.granted ≡ granted → granted ≤ 200 → IsOpened pair driver
    → IsNewBetween granted (between_of unit driver pair)
between_new granted unit driver pair made grants most opened = record {
  made = record { alone = refl; apart = refl; unregistered = opened.server_registered; partner = opened.registered; event = opened.server_kept; made = made };
  client = (driver.unit, opened.server, opened.client);
  registered = opened.registered;
  kept = opened.kept;
  grants = grants;
  most = most;
  ends = opened.ends;
  server_slots = opened.server_slots;
  own_slots = opened.own_slots;
  usable = opened.usable;
}

-- no stroke lies there
pub none_answered : (rows : List Served) (own : UnitId) (strokes : ℕ → Option (List StrokeValue)) → AreBlank strokes → AreAnswers rows own strokes
none_answered rows own strokes blank page front list there =
    subst (All (λ (stroke : StrokeValue). stroke.name.who ≢ own → IsAnswerOfRow rows stroke ⊎ IsNoResponse stroke)) (sym (blank page list there))
    (All-nil (λ (stroke : StrokeValue). stroke.name.who ≢ own → IsAnswerOfRow rows stroke ⊎ IsNoResponse stroke))

pair_new : (granted : ℕ) (told : List Ended) (home k : ℕ) (list : List Unit) (pair : Pair) (driver : Driver) → told ≡ [] → UnitsStart granted home list → granted ≤ 200 → k < length list → pair.driver ≡ Some driver
    → driver.unit ≢ server_id home k → IsOpened pair driver → IsNewPair granted told home (books_of list [] []) k pair
pair_new granted told home k list pair driver none start most less is apart opened =
    let unit = there_is list k less in
    record {
      unit = unit.0;
      there = unit.1;
      id = start.names k unit.0 unit.1;
      driver = driver;
      driver_is = is;
      new = between_new granted unit.0 driver pair (new_at (slice_get list k) unit.0 unit.1 (start.made k))
          (all_at (λ (u : Unit). u.logins.granted ≡ granted) list k unit.0 start.granting unit.1) most opened;
      rights = opened.rights;
      owed = omega (arith, ap granted_in none);
      laid = subst (All (TellsOf unit.0.id (known_of pair.window).strokes)) (sym none) (All-nil (TellsOf unit.0.id (known_of pair.window).strokes));
      lines = All-nil (λ (line : Grant). same_unit (unit_named line) (server_id home k) ≡ true → ends_by_client line ≡ true);
      tags = refl;
      sent = opened.sent;
      apart = λ same. apart (sym opened.unit ∙ same);
      borne = none_borne [] (server_id home k) driver.client.rows (known_of pair.window).strokes opened.blank;
      answered = none_answered [] pair.window.unit (known_of pair.window).strokes opened.blank;
      sized = All-nil (AsksFor driver.client.rows);
      noted = subst (All (IsLaidAnswer pair.window.unit (known_of pair.window).strokes)) (sym opened.answers) (All-nil (IsLaidAnswer pair.window.unit (known_of pair.window).strokes));
    }

-- the server unit of a plain client
pub client_of : (partitions : List Partition) (scripts : List Script) (pairs : List Pair) (ports : List PortSeat) (i u k : ℕ) (script : Script) → IsOfPlan partitions pairs scripts ports
    → slice_get scripts i ≡ Some script → slice_get script.seats.items u ≡ Some (sits.Client k) → (server : UnitId) × IsClientOf partitions (unit_of i u) server × (server.unit ≡ k)
client_of partitions scripts pairs ports i u k script plan found sits_at =
    let partition = held (λ partition. IsScriptFor partition script) (slice_get partitions i) (plan.scripts_are.each i script found) in
    let unit = mapped seat_of partition.0.units u (sits.Client k) (ap (λ (list : List Seat). slice_get list u) (sym partition.2.seats) ∙ sits_at) in
    let is = client_plan unit.0 k unit.2 in
    (is.0, (is.1, is.2, ap (λ slot. unit_in slot u) partition.1 ∙ (unit.1 ∙ ap Some is.3)), is.4)

pub boots_plainly : (granted home : ℕ) (partitions : List Partition) (pairs : List Pair) (scripts : List Script) (ports : List PortSeat) (list : List Unit) → home ≡ home_of partitions → granted ≤ 200
    → IsOfPlan partitions pairs scripts ports → ScriptsStart scripts → OpenPlainly pairs → length list ≡ length pairs → UnitsStart granted home list → ArePlain granted home (books_of list [] []) pairs scripts
boots_plainly granted home partitions pairs scripts ports list home_is most plan starts opened many start i u k script found seat =
    let own = client_of partitions scripts pairs ports i u k script plan found seat.sits in
    let server : UnitId = own.0 in
    let client : IsClientOf partitions (unit_of i u) server = own.1 in
    let serves : IsServer partitions server = plan.sound.served (unit_of i u) server client in
    let there : server.partition ≡ home = (at_home partitions server plan.sound serves).2 ∙ sym home_is in
    let earlier : server.partition < i = plan.sound.earlier (unit_of i u) server client in
    let sat = held (λ (pair : Pair). IsSomeAnd pair.driver (λ driver. driver.unit ≡ unit_of i u)) (slice_get pairs server.unit)
    (client_sits partitions pairs (unit_of i u) server plan.sound plan.pairs_are client) in
    let pair : Pair = sat.0 in
    let at : slice_get pairs k ≡ Some pair = ap (slice_get pairs) (sym own.2) ∙ sat.1 in
    let driver = held (λ (d : Driver). d.unit ≡ unit_of i u) pair.driver sat.2 in
    let new : IsOpened pair driver.0 = driver_at pair pair.driver driver.0 driver.1 (opened k pair at) in
    let less : k < length list = omega (arith, slice_get_within pairs k pair at, many) in
    let home_script = script_at partitions pairs scripts ports server (units.Server serves.0) plan serves.1 in
    let apart : driver.0.unit ≢ server_id home k =
    λ same. let one : i ≡ home = ap (λ (id : UnitId). id.partition) (sym driver.2 ∙ same) in omega (arith, one, earlier, there) in
    let of : are_servers home_script.0.seats.items ≡ true = home_serves partitions pairs scripts ports server pair home_script.0 plan serves sat.1 home_script.1 in
    record {
      behind = record {
        less = omega (arith, earlier, there);
        servers = is_held (λ (s : Script). are_servers s.seats.items ≡ true) (slice_get scripts home) home_script.0 (ap (slice_get scripts) (sym there) ∙ home_script.1) of;
      };
      others = no_servers partitions pairs scripts ports server i script plan serves found earlier;
      ready = is_held (IsReadyPair granted (told_in u script) home (books_of list [] []) k) (slice_get pairs k) pair at
          (inr (pair_new granted (told_in u script) home k list pair driver.0 (none_told u script (starts i script found).0) start most less driver.1 apart new));
      served = λ less upto. absurd (omega (arith, less));
      stands = is_held (StandsPlainly granted u script) (slice_get pairs k) pair at
          ((starts i script found).1 granted u pair (record { driver = driver.0; driver_is = driver.1; server = new.server; client = new.client; queue = new.registered }));
    }
