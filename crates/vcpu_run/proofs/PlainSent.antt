-- A command or a task that a plain client sent is asked of its server unit.
use Rattle.std.proofs.Common.{◌≡◌, ◌≢◌, ◌∙◌, inl, inr, ℕ, ◌+◌, ◌<◌, ◌++◌, ◌||◌, nat_le, Bool, true, false, true≢false, cond, find, All, List, [], ◌∷◌, Option, Some, None, length, length-append, refl, ap, arith}
use Rattle.std.proofs.lemmas.List.Elements.{All-cons, All-nil}
use Rattle.std.specs.Option.{option_map}
use Rattle.std.proofs.lemmas.Bool.Decides.{nat_tests}
use Rattle.srp_iu.specs.declared.unit.Iu.TheVariants as units
use Rattle.block_server.specs.Talk.{to_come}
use Rattle.vscsi_client.specs.Ports.{Ports}
use Rattle.vscsi_client.specs.Sending.{LoggedOut, Submitted, Tasked, logout_refused_by, logout_unit, refused_by, task_unit}
use Rattle.vscsi_client.specs.Spans.{data_span, first_sharing, meets, no_pages, op_in_range, shares, table_span}
use Rattle.vscsi_client.specs.State.{ClientState, IsNextSlot, is_asked, is_slot, next_tag, stage_uses}
use Rattle.vscsi_client.specs.declared.TheConstants.{SLOTS}
use Rattle.vscsi_client.specs.declared.answers.Refused.{Refused}
use Rattle.vscsi_client.specs.declared.answers.Refused.TheVariants.{NoCredit, Overlap, Range}
use Rattle.vscsi_client.specs.declared.op.Op.{Op}
use Rattle.vscsi_client.specs.declared.outgoing.Outgoing.{Outgoing}
use Rattle.vscsi_client.specs.declared.outgoing.Span.{Span}
use Rattle.vscsi_client.specs.declared.row.Row.{Row}
use Rattle.vscsi_client.specs.declared.row.Row.TheVariants as rows
use Rattle.vscsi_client.specs.declared.stage.Stage.TheVariants.{Idle}
use Rattle.vcpu_run.proofs.PlainData.{meets_none, no_data}
use Rattle.vcpu_run.specs.PlainTalk.{Between, DataLies, KeepsTables, KeepsSlots}
use Rattle.vcpu_run.proofs.PlainAsks.{Sends, SendsOut}
use Rattle.vcpu_run.proofs.PlainStarts.{push_places, starts_command, starts_none}

-- a request that is not refused is granted
pub lends : (granted : Option ℕ) (n : ℕ) (overlap : Option ℕ) → refused_by granted n overlap ≡ None → (m : ℕ) × (granted ≡ Some m) × (n < m)
lends None n overlap none = absurd (cc (none))
lends (Some m) n overlap none = (m, refl, by (nat_le m n) refl none)
  where
    by : (b : Bool) → nat_le m n ≡ b → cond b (Some (NoCredit 0)) (option_map Overlap overlap) ≡ None → n < m
    by true is none = absurd (cc (none))
    by false is none = grind (arith, nat_tests, is)

pub within_range : (b : Bool) (why : Option Refused) → cond b why (Some Range) ≡ None → why ≡ None
within_range true why none = none
within_range false why none = absurd (cc (none))

-- its slot is free
pub slot_free : (s : ClientState) (slot : ℕ) → s.login ≡ Idle → IsNextSlot s slot → (slot < SLOTS) × (is_asked s.outgoing slot ≡ false)
slot_free s slot idle (inl least) = (omega (arith, least.within), front (is_asked s.outgoing slot) (stage_uses s.login slot || is_slot s.logout slot) least.free)
  where
    front : (b c : Bool) → (b || c) ≡ false → b ≡ false
    front true c none = absurd (true≢false none)
    front false c none = refl
slot_free s slot idle (inr its) = (omega (arith, its.within), its.free)

-- one row more
rows_more : (rows : List Row) (row : Row) (new : List Row) → new ≡ rows ++ row ∷ [] → length new ≡ length rows + 1
rows_more rows row new is = ap (λ (list : List Row). length list) is ∙ length-append rows (row ∷ [])

-- What the client's own call leaves of the rest: the server unit, what is to come to the client, the other slots, and the tables on other
-- pages.
pub record StaysElse (at at' : Between) (slot : ℕ) (table : Span) : Type 0 where
  pub unit : at'.unit ≡ at.unit
  pub registered : at'.own.registered ≡ at.own.registered
  pub come : to_come at'.own ≡ to_come at.own
  pub keeps : KeepsSlots (λ other. other ≢ slot) at.window at'.window
  pub tables : KeepsTables (λ ask. meets ask.table table ≡ false) at.window at'.window

-- nor does it share a page with another
no_overlap : (granted : Option ℕ) (n : ℕ) (overlap : Option ℕ) → refused_by granted n overlap ≡ None → overlap ≡ None
no_overlap None n overlap none = absurd (cc (none))
no_overlap (Some m) n overlap none = by (nat_le m n) overlap none
  where
    by : (b : Bool) (overlap : Option ℕ) → cond b (Some (NoCredit 0)) (option_map Overlap overlap) ≡ None → overlap ≡ None
    by true overlap none = absurd (cc (none))
    by false None none = refl
    by false (Some tag) none = absurd (cc (none))

all_four : (a b c d : Bool) → ((a || b) || (c || d)) ≡ false → (c ≡ false) × (d ≡ false)
all_four true b c d none = absurd (true≢false none)
all_four false true c d none = absurd (true≢false none)
all_four false false true d none = absurd (true≢false none)
all_four false false false d none = (refl, none)

-- of a command's table
abbrev pub Spares : Span → Outgoing → Type 0
Spares table o = (meets o.pages table ≡ false) × (meets o.table table ≡ false)

none_sharing : (op : Op) (outgoing : List Outgoing) → first_sharing op outgoing ≡ None → All (Spares (table_span op)) outgoing
none_sharing op [] none = All-nil (Spares (table_span op))
none_sharing op (o ∷ outgoing) none = by (shares (data_span op) (table_span op) o) refl none (λ rest. none_sharing op outgoing rest)
  where
    by : (b : Bool) → shares (data_span op) (table_span op) o ≡ b → option_map (λ (o : Outgoing). o.tag) (cond b (Some o) (find (shares (data_span op) (table_span op)) outgoing)) ≡ None
        → (first_sharing op outgoing ≡ None → All (Spares (table_span op)) outgoing) → All (Spares (table_span op)) (o ∷ outgoing)
    by true is none later = absurd (cc (none))
    by false is none later =
        All-cons (Spares (table_span op)) o outgoing
        (all_four (meets o.pages (data_span op)) (meets o.table (data_span op)) (meets o.pages (table_span op)) (meets o.table (table_span op)) is) (later none)

none_spared : (outgoing : List Outgoing) → All (Spares no_pages) outgoing
none_spared [] = All-nil (Spares no_pages)
none_spared (o ∷ outgoing) = All-cons (Spares no_pages) o outgoing (meets_none o.pages, meets_none o.table) (none_spared outgoing)

pub command_sends : (line : ℕ) (op : Op) (at at' : Between) (old new : Ports) (tag : ℕ) (sub : Submitted line op at.client at'.client old new tag) → at.client.login ≡ Idle
    → StaysElse at at' sub.slot (table_span op)
    → DataLies at'.window (record { tag = next_tag at.client; slot = sub.slot; iu = units.Cmd sub.command; bytes = sub.put.0; pages = data_span op; table = table_span op; start = op.at })
    → Sends at at' (record { tag = next_tag at.client; slot = sub.slot; iu = units.Cmd sub.command; bytes = sub.put.0; pages = data_span op; table = table_span op; start = op.at })
command_sends line op at at' old new tag sub idle stays has = record {
  unit = stays.unit;
  registered = stays.registered;
  come = stays.come;
  keeps = stays.keeps;
  tables = stays.tables;
  spares = none_sharing op at.client.outgoing
      (no_overlap at.client.granted (length at.client.outgoing) (first_sharing op at.client.outgoing)
      (within_range (op_in_range old.own.place.size op) (refused_by at.client.granted (length at.client.outgoing) (first_sharing op at.client.outgoing)) sub.allowed));
  has = has;
  grants = lends at.client.granted (length at.client.outgoing) (first_sharing op at.client.outgoing)
      (within_range (op_in_range old.own.place.size op) (refused_by at.client.granted (length at.client.outgoing) (first_sharing op at.client.outgoing)) sub.allowed);
  idle = idle;
  free = free.1;
  is_ask = record {
    kind = inr (inr refl);
    tag_is = sub.is_command.tag_is;
    slot_is = omega (arith, free.0);
    below = λ isnt. free.0;
    canonical = sub.put.1.0;
    fair = tt;
  };
  is_counted = refl;
  next = refl;
  rows = rows_more at.client.rows _ at'.client.rows (ap (λ (s : ClientState). s.rows) sub.client);
  places = push_places at.client.rows at'.client.rows (rows.Command op.dir op.at op.len None) (ap (λ (s : ClientState). s.rows) sub.client);
  starts = starts_command at.client.rows at'.client.rows op sub.command (next_tag at.client)
      (record { tag = next_tag at.client; slot = sub.slot; iu = units.Cmd sub.command; bytes = sub.put.0; pages = data_span op; table = table_span op; start = op.at }) (ap (λ (s : ClientState). s.rows) sub.client) refl refl refl sub.is_command;
  outgoing = ap (λ (s : ClientState). s.outgoing) sub.client;
  handshake = ap (λ (s : ClientState). s.handshake) sub.client;
  due = ap (λ (s : ClientState). s.due) sub.client;
  held = ap (λ (s : ClientState). s.held) sub.client;
  kept = ap (λ (s : ClientState). s.kept) sub.client;
  granted = ap (λ (s : ClientState). s.granted) sub.client;
  login = ap (λ (s : ClientState). s.login) sub.client;
  logout = ap (λ (s : ClientState). s.logout) sub.client;
  tabled = ap (λ (s : ClientState). s.tabled) sub.client;
}
  where
    free : (sub.slot < SLOTS) × (is_asked at.client.outgoing sub.slot ≡ false)
    free = slot_free at.client sub.slot idle sub.put.1.1

pub task_sends : (line function task : ℕ) (at at' : Between) (old new : Ports) (tag : ℕ) (sub : Tasked line function task at.client at'.client old new tag)
    → at.client.login ≡ Idle → at.client.tabled ≡ None → StaysElse at at' sub.slot no_pages
    → Sends at at' (record { tag = next_tag at.client; slot = sub.slot; iu = task_unit function task at.client; bytes = sub.put.put.0; pages = no_pages; table = no_pages; start = 0 })
task_sends line function task at at' old new tag sub idle tabled stays = record {
  unit = stays.unit;
  registered = stays.registered;
  come = stays.come;
  keeps = stays.keeps;
  tables = stays.tables;
  spares = none_spared at.client.outgoing;
  has = no_data at'.window (record { tag = next_tag at.client; slot = sub.slot; iu = task_unit function task at.client; bytes = sub.put.put.0; pages = no_pages; table = no_pages; start = 0 }) refl;
  grants = lends at.client.granted (length at.client.outgoing) None sub.allowed;
  idle = idle;
  free = free.1;
  is_ask = record {
    kind = inr (inr refl);
    tag_is = refl;
    slot_is = omega (arith, free.0);
    below = λ isnt. free.0;
    canonical = sub.put.put.1.0;
    fair = tt;
  };
  is_counted = refl;
  next = refl;
  rows = rows_more at.client.rows _ at'.client.rows (ap (λ (s : ClientState). s.rows) sub.client);
  places = push_places at.client.rows at'.client.rows rows.Task (ap (λ (s : ClientState). s.rows) sub.client);
  starts = starts_none at.client.rows at'.client.rows rows.Task
      (record { tag = next_tag at.client; slot = sub.slot; iu = task_unit function task at.client; bytes = sub.put.put.0; pages = no_pages; table = no_pages; start = 0 }) (ap (λ (s : ClientState). s.rows) sub.client) refl refl;
  outgoing = ap (λ (s : ClientState). s.outgoing) sub.client;
  handshake = ap (λ (s : ClientState). s.handshake) sub.client;
  due = ap (λ (s : ClientState). s.due) sub.client;
  held = ap (λ (s : ClientState). s.held) sub.client;
  kept = ap (λ (s : ClientState). s.kept) sub.client;
  granted = ap (λ (s : ClientState). s.granted) sub.client;
  login = ap (λ (s : ClientState). s.login) sub.client;
  logout = ap (λ (s : ClientState). s.logout) sub.client;
  tabled = ap (λ (s : ClientState). s.tabled) sub.client ∙ tabled;
}
  where
    free : (sub.slot < SLOTS) × (is_asked at.client.outgoing sub.slot ≡ false)
    free = slot_free at.client sub.slot idle sub.put.put.1.1

-- a logout is not sent while something is outstanding, nor without a login
none_out : (granted : Option ℕ) (outgoing : List Outgoing) → logout_refused_by granted outgoing ≡ None → ((n : ℕ) × (granted ≡ Some n)) × (outgoing ≡ [])
none_out None outgoing none = absurd (cc (none))
none_out (Some n) [] none = ((n, refl), refl)
none_out (Some n) (o ∷ outgoing) none = absurd (cc (none))

pub logout_sends : (line : ℕ) (at at' : Between) (old new : Ports) (tag : ℕ) (sub : LoggedOut line at.client at'.client old new tag) → at.client.login ≡ Idle
    → StaysElse at at' sub.slot no_pages → SendsOut at at' (record { tag = next_tag at.client; slot = sub.slot; iu = logout_unit at.client; bytes = sub.put.put.0; pages = no_pages; table = no_pages; start = 0 })
logout_sends line at at' old new tag sub idle stays = record {
  unit = stays.unit;
  registered = stays.registered;
  come = stays.come;
  keeps = stays.keeps;
  grants = out.0;
  idle = idle;
  none = out.1;
  is_ask = record {
    kind = inr (inl refl);
    tag_is = refl;
    slot_is = omega (arith, (slot_free at.client sub.slot idle sub.put.put.1.1).0);
    below = λ isnt. (slot_free at.client sub.slot idle sub.put.put.1.1).0;
    canonical = sub.put.put.1.0;
    fair = tt;
  };
  is_out = refl;
  next = refl;
  rows = rows_more at.client.rows _ at'.client.rows (ap (λ (s : ClientState). s.rows) sub.client);
  starts = starts_none at.client.rows at'.client.rows rows.Logout
      (record { tag = next_tag at.client; slot = sub.slot; iu = logout_unit at.client; bytes = sub.put.put.0; pages = no_pages; table = no_pages; start = 0 }) (ap (λ (s : ClientState). s.rows) sub.client) refl refl;
  handshake = ap (λ (s : ClientState). s.handshake) sub.client;
  due = ap (λ (s : ClientState). s.due) sub.client;
  held = ap (λ (s : ClientState). s.held) sub.client;
  kept = ap (λ (s : ClientState). s.kept) sub.client;
  login = ap (λ (s : ClientState). s.login) sub.client;
  outgoing = ap (λ (s : ClientState). s.outgoing) sub.client;
  granted = ap (λ (s : ClientState). s.granted) sub.client;
  logout = ap (λ (s : ClientState). s.logout) sub.client;
  tabled = ap (λ (s : ClientState). s.tabled) sub.client;
}
  where
    out : ((n : ℕ) × (at.client.granted ≡ Some n)) × (at.client.outgoing ≡ [])
    out = none_out at.client.granted at.client.outgoing sub.allowed
