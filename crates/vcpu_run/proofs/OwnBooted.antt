-- Own clients of a machine before its first round: each sits at the pair of its server unit, behind that unit's script, and both are as they
-- were made.
use Rattle.std.proofs.Common.{◌≡◌, ◌≢◌, ◌∙◌, inr, ℕ, ◌<◌, ◌≤◌, true, true≢false, All, List, [], Option, Some, IsSomeAnd, length, slice_get, sym, ap, subst, arith}
use Rattle.std.proofs.lemmas.List.Elements.{All-nil}
use Rattle.std.proofs.lemmas.Option.{slice_get_within}
use Rattle.vio_num.specs.declared.names.UnitId.{UnitId}
use Rattle.crq_ring.specs.declared.rows.PipeRow.{PipeRow}
use Rattle.crq_session.specs.PlainState.{end_of}
use Rattle.block_server.specs.declared.unit.Unit.{Unit}
use Rattle.boot_text.specs.Sound.{IsClientOf, IsServer}
use Rattle.boot_text.specs.declared.plan.Line.{Line}
use Rattle.boot_text.specs.declared.plan.Partition.{Partition}
use Rattle.boot_text.specs.declared.plan.UnitPlan.TheVariants as units
use Rattle.lan_script.specs.declared.seat.PortSeat.{PortSeat}
use Rattle.tce_window.specs.PlainPort.{known_of}
use Rattle.vio_trace.specs.declared.rows.AnswerRow.{AnswerRow}
use Rattle.vscsi_client.specs.State.{ClientState, new_client}
use Rattle.vscsi_client.specs.declared.op.Dir.TheVariants as dirs
use Rattle.vscsi_client.specs.declared.outgoing.Outgoing.{Outgoing}
use Rattle.vscsi_client.specs.declared.row.Row.TheVariants as rows
use Rattle.vcpu_run.specs.Credited.{Ended}
use Rattle.vcpu_run.specs.DataKept.{AreAsked}
use Rattle.vcpu_run.specs.Machines.{IsOfPlan, home_of, server_id}
use Rattle.vcpu_run.specs.OwnClients.{IsGrantOf}
use Rattle.vcpu_run.specs.OwnCounts.{IsLogoutDone, LieBehind}
use Rattle.vcpu_run.specs.OwnKinds.{IsAskedTag, IsOfKind, KeepsKinds}
use Rattle.vcpu_run.specs.OwnPairs.{IsNewOwnPair, IsReadyOwnPair, SparesLines}
use Rattle.vcpu_run.specs.OwnRuns.{AreOwn}
use Rattle.vcpu_run.specs.PlainClients.{granted_in}
use Rattle.vcpu_run.specs.PlainNoted.{AsksFor, IsLaidAnswer}
use Rattle.vcpu_run.specs.PlainPairs.{IsOpened, OpenPlainly, books_of}
use Rattle.vcpu_run.specs.PlainRejected.{TellsOf}
use Rattle.vcpu_run.specs.PlainScripts.{StandsAt, StandsPlainly, told_in}
use Rattle.vcpu_run.specs.Ports.{unit_of}
use Rattle.vcpu_run.specs.Replay.{Replay}
use Rattle.vcpu_run.specs.Scripts.{are_servers}
use Rattle.vcpu_run.specs.declared.driver.Driver.{Driver}
use Rattle.vcpu_run.specs.declared.pair.Pair.{Pair}
use Rattle.vcpu_run.specs.declared.script.Progress.{Progress}
use Rattle.vcpu_run.specs.declared.script.Script.{Script}
use Rattle.vcpu_run.proofs.Booted.{client_sits}
use Rattle.vcpu_run.proofs.Homes.{all_at, at_home}
use Rattle.vcpu_run.proofs.Listed.{held, is_held, there_is}
use Rattle.vcpu_run.proofs.PlainBooted.{ScriptsStart, UnitsStart, between_new, client_of, driver_at, new_at, none_answered, none_told}
use Rattle.vcpu_run.proofs.PlainBorne.{none_borne}
use Rattle.vcpu_run.proofs.PlainSpared.{ended_spared}
use Rattle.vcpu_run.proofs.Settling.{home_serves, no_servers, script_at}
use Rattle.vcpu_run.proofs.TakenOn.{empty_row}

-- a client that asked nothing
none_inward : (id server : UnitId) → LieBehind (new_client id server).rows
none_inward id server tag at len (said, is) = absurd (no_command (sym (empty_row tag) ∙ is))
  where
    no_command : rows.Login ≡ rows.Command dirs.In at len said → ⊥
    no_command e = cc (e)

-- nothing was put, noted, or is under way
no_kinds : (id server : UnitId) (driver : Driver) (sent : List PipeRow) → driver.client ≡ new_client id server → driver.answers.items ≡ [] → sent ≡ []
    → KeepsKinds driver.client driver.answers.items sent
no_kinds id server driver sent client answers none =
    subst (λ (s : ClientState). KeepsKinds s driver.answers.items sent) (sym client)
    (subst (λ (list : List AnswerRow). KeepsKinds (new_client id server) list sent) (sym answers)
    (subst (KeepsKinds (new_client id server) []) (sym none) (record {
      asked = All-nil (λ (o : Outgoing). IsAskedTag [] o.tag);
      answered = All-nil (λ (row : AnswerRow). IsAskedTag [] row.tag);
      login = tt;
      put = All-nil (λ (row : PipeRow). IsOfKind [] row.entry);
    })))

own_new : (granted u : ℕ) (told : List Ended) (lines : List Line) (home k : ℕ) (list : List Unit) (line : Option Line) (p : Progress) (now : Replay) (pair : Pair) (driver : Driver) → SparesLines u lines now → told ≡ [] → UnitsStart granted home list
    → granted ≤ 200 → k < length list → pair.driver ≡ Some driver → driver.unit ≢ server_id home k → IsOpened pair driver → StandsAt granted u line p now pair
    → IsNewOwnPair granted told lines home u k (books_of list [] []) line p pair
own_new granted u told lines home k list line p now pair driver spares none start most less is apart opened stands =
    let unit = there_is list k less in
    record {
      unit = unit.0;
      there = unit.1;
      id = start.names k unit.0 unit.1;
      driver = driver;
      driver_is = is;
      new = between_new granted unit.0 driver pair (new_at (slice_get list k) unit.0 unit.1 (start.made k))
          (all_at (λ (u : Unit). u.logins.granted ≡ granted) list k unit.0 start.granting unit.1) most opened;
      owed = omega (arith, ap granted_in none);
      now = now;
      spares = spares;
      stands = stands;
      sent = opened.sent;
      keeps = record {
        laid = subst (All (TellsOf (server_id home k) (known_of pair.window).strokes)) (sym none) (All-nil (TellsOf (server_id home k) (known_of pair.window).strokes));
        apart = λ same. apart (sym opened.unit ∙ same);
        counted = record {
          asked = subst (λ (s : ClientState). AreAsked s.outgoing) (sym opened.client) (λ tag has. absurd (true≢false (sym has)));
          most = All-nil (λ (tag : ℕ). tag ≤ length driver.client.rows);
        };
        borne = none_borne [] (server_id home k) driver.client.rows (known_of pair.window).strokes opened.blank;
        answered = none_answered [] pair.window.unit (known_of pair.window).strokes opened.blank;
        sized = All-nil (AsksFor driver.client.rows);
        noted = subst (All (IsLaidAnswer pair.window.unit (known_of pair.window).strokes)) (sym opened.answers) (All-nil (IsLaidAnswer pair.window.unit (known_of pair.window).strokes));
        behind = subst (λ (s : ClientState). LieBehind s.rows) (sym opened.client) (none_inward driver.unit opened.server);
        logout = subst IsLogoutDone (sym opened.client) tt;
        kinds = no_kinds driver.unit opened.server driver (end_of [] pair.link true).sent opened.client opened.answers opened.sent;
      };
      numbers = subst (All (λ (e : Ended). IsGrantOf granted e.outcome)) (sym none) (All-nil (λ (e : Ended). IsGrantOf granted e.outcome));
    }

pub boots_own : (granted home : ℕ) (partitions : List Partition) (pairs : List Pair) (scripts : List Script) (ports : List PortSeat) (list : List Unit) → home ≡ home_of partitions → granted ≤ 200
    → IsOfPlan partitions pairs scripts ports → ScriptsStart scripts → OpenPlainly pairs → length list ≡ length pairs → UnitsStart granted home list → AreOwn granted home (books_of list [] []) pairs scripts
boots_own granted home partitions pairs scripts ports list home_is most plan starts opened many start i u k script found seat =
    let own = client_of partitions scripts pairs ports i u k script plan found seat.sits in
    let server : UnitId = own.0 in
    let client : IsClientOf partitions (unit_of i u) server = own.1 in
    let serves : IsServer partitions server = plan.sound.served (unit_of i u) server client in
    let there : server.partition ≡ home = (at_home partitions server plan.sound serves).2 ∙ sym home_is in
    let earlier : server.partition < i = plan.sound.earlier (unit_of i u) server client in
    let sat = held (λ (pair : Pair). IsSomeAnd pair.driver (λ driver. driver.unit ≡ unit_of i u)) (slice_get pairs server.unit)
    (client_sits partitions pairs (unit_of i u) server plan.sound plan.pairs_are client) in
    let pair : Pair = sat.0 in
    let at : slice_get pairs k ≡ Some pair = ap (slice_get pairs) (sym own.2) ∙ sat.1 in
    let driver = held (λ (d : Driver). d.unit ≡ unit_of i u) pair.driver sat.2 in
    let new : IsOpened pair driver.0 = driver_at pair pair.driver driver.0 driver.1 (opened k pair at) in
    let less : k < length list = omega (arith, slice_get_within pairs k pair at, many) in
    let home_script = script_at partitions pairs scripts ports server (units.Server serves.0) plan serves.1 in
    let apart : driver.0.unit ≢ server_id home k =
    λ same. let one : i ≡ home = ap (λ (id : UnitId). id.partition) (sym driver.2 ∙ same) in omega (arith, one, earlier, there) in
    let of : are_servers home_script.0.seats.items ≡ true = home_serves partitions pairs scripts ports server pair home_script.0 plan serves sat.1 home_script.1 in
    let stands : StandsPlainly granted u script pair =
    (starts i script found).1 granted u pair (record { driver = driver.0; driver_is = driver.1; server = new.server; client = new.client; queue = new.registered }) in
    record {
      behind = record {
        less = omega (arith, earlier, there);
        servers = is_held (λ (s : Script). are_servers s.seats.items ≡ true) (slice_get scripts home) home_script.0 (ap (slice_get scripts) (sym there) ∙ home_script.1) of;
      };
      others = no_servers partitions pairs scripts ports server i script plan serves found earlier;
      ready = is_held (IsReadyOwnPair granted (told_in u script) script.lines.now home u k (books_of list [] []) (slice_get script.lines.now script.at) script.progress) (slice_get pairs k) pair at
          (inr (own_new granted u (told_in u script) script.lines.now home k list (slice_get script.lines.now script.at) script.progress _ pair driver.0
          (ended_spared granted (length pair.window.pages) u script.lines.now script.logs.items) (none_told u script (starts i script found).0) start most less
          driver.1 apart new stands.stands));
      served = λ less upto. absurd (omega (arith, less));
    }
