-- A command, a task or a logout that a plain client sent: what is so between it and its server unit is so behind that, and what it asked is
-- to come.
use Rattle.std.proofs.Common.{◌≡◌, ◌∙◌, ℕ, ◌≤◌, Bool, true, false, cond, List, [], ◌∷◌, Option, Some, None, length, refl, sym, subst, arith}
use Rattle.std.specs.Prelude.{⊤}
use Rattle.vio_num.specs.Entry.{srp_entry}
use Rattle.crq_session.specs.Answered.{Sends as SendsEntry}
use Rattle.crq_session.specs.EndState.{OnlyReserves, OnlySends}
use Rattle.srp_iu.specs.declared.unit.Iu.{Iu}
use Rattle.srp_iu.specs.declared.unit.Iu.TheVariants as units
use Rattle.vscsi_client.specs.Ports.{Lays, Ports, UnitPut, unit_write}
use Rattle.vscsi_client.specs.Sending.{LoggedOut, Put, Submitted, Tasked, logout_unit, refused_by, task_unit}
use Rattle.vscsi_client.specs.Spans.{data_span, first_sharing, meets, no_pages, op_in_range, table_span}
use Rattle.vscsi_client.specs.State.{next_tag}
use Rattle.vscsi_client.specs.Units.{slot_address, FitsOp}
use Rattle.vscsi_client.specs.declared.TheConstants.{SLOTS}
use Rattle.vscsi_client.specs.declared.answers.Refused.{Refused}
use Rattle.vscsi_client.specs.declared.answers.Refused.TheVariants.{Range}
use Rattle.vscsi_client.specs.declared.op.Op.{Op}
use Rattle.vscsi_client.specs.declared.outgoing.Span.{Span}
use Rattle.vscsi_client.specs.declared.stage.Stage.TheVariants.{Idle}
use Rattle.vcpu_run.proofs.PlainBuffers.{op_data}
use Rattle.vcpu_run.proofs.PlainData.{data_kept, data_on, unit_data}
use Rattle.vcpu_run.proofs.PlainOps.{TableLies, table_lies}
use Rattle.vcpu_run.specs.PlainTalk.{Ask, Between, DataLies, IsCalm, IsOwnWindow, KeepsTables, ServerStays, TalksPlainly, client_ports, shown, word_of}
use Rattle.vcpu_run.proofs.PlainAsks.{Sends, SendsOut}
use Rattle.vcpu_run.proofs.PlainPuts.{LeavesUnit, LeavesWindow, come_still, entry_put, tables_leave, unit_laid}
use Rattle.vcpu_run.proofs.PlainSays.{EntryPut, plainly_out, plainly_sends}
use Rattle.vcpu_run.proofs.PlainSent.{StaysElse, command_sends, logout_sends, slot_free, task_sends}
use Rattle.vcpu_run.proofs.PlainSlots.{keeps_same, unit_said}
use Rattle.vcpu_run.proofs.PlainUnits.{canon_some}

-- What the put of a unit left.
pub record UnitWent (at at' : Between) (slot : ℕ) (table : Span) (bytes : List ℕ) : Type 0 where
  pub registered : at.own.registered ≡ true
  pub stays : StaysElse at at' slot table
  pub put : EntryPut at at' (srp_entry (length bytes) (slot_address slot))
  pub stands : shown at'.window (slot_address slot) (length bytes) ≡ bytes

pub unit_went : (granted : ℕ) (at at' : Between) (before : Ports) (line slot : ℕ) (table : Span) (bytes : List ℕ) → IsCalm granted at [] → LeavesWindow (λ slot. ⊤) at.window before.own
    → KeepsTables (λ ask. meets ask.table table ≡ false) at.window before.own
    → before.own_shared ≡ false → before.crq_shared ≡ false → OnlyReserves at.own before.crq → slot ≤ SLOTS → 1 ≤ length bytes → length bytes ≤ 256
    → UnitPut line slot bytes before (client_ports at') → OnlySends false at.own at'.own → ServerStays at at' → UnitWent at at' slot table bytes
unit_went granted at at' before line slot table bytes calm left tables own_alone crq_alone ready within some few put rest stays = record {
  registered = sym ready.registered ∙ put.may.registered;
  stays = record { unit = stays.unit; registered = rest.registered; come = come_still at.own at'.own rest; keeps = unit.keeps; tables = kept };
  put = entry_put at at' before.crq (srp_entry (length bytes) (slot_address slot)) calm.ends calm.registered ready.sent
      (subst (λ shared. SendsEntry shared before.crq (srp_entry (length bytes) (slot_address slot)) at'.own put.number) crq_alone put.sent).puts rest.place stays unit.own;
  stands = unit.stands;
}
  where
    laid : Lays false line (unit_write slot bytes) before.own at'.window
    laid = subst (λ shared. Lays shared line (unit_write slot bytes) before.own at'.window) own_alone put.laid

    kept : KeepsTables (λ ask. meets ask.table table ≡ false) at.window at'.window
    kept = data_on (λ ask. meets ask.table table ≡ false) at.window before.own at'.window tables (unit_data before.own at'.window slot line bytes within few laid.0)

    unit : LeavesUnit slot bytes at.window at'.window
    unit = unit_laid line slot bytes at.window before.own at'.window left within some few laid.0 laid.1

-- a command is in range that was not refused
pub in_range_is : (b : Bool) (why : Option Refused) → cond b why (Some Range) ≡ None → b ≡ true
in_range_is true why none = refl
in_range_is false why none = absurd (cc (none))

pub command_says : (granted line : ℕ) (op : Op) (at at' : Between) (tag : ℕ) (sub : Submitted line op at.client at'.client (client_ports at) (client_ports at') tag)
    → FitsOp op → TalksPlainly granted at [] → at.client.login ≡ Idle → OnlySends false at.own at'.own → ServerStays at at'
    → TalksPlainly granted at' (word_of (record { tag = next_tag at.client; slot = sub.slot; iu = units.Cmd sub.command; bytes = sub.put.0; pages = data_span op; table = table_span op; start = op.at }) ∷ [])
command_says granted line op at at' tag sub fits talks idle rest stays =
    plainly_sends granted at at' ask (srp_entry (length sub.put.0) (slot_address sub.slot)) talks went.registered sends went.put
    (unit_said at'.window ask sends.is_ask went.stands)
  where
    ask : Ask
    ask = record { tag = next_tag at.client; slot = sub.slot; iu = units.Cmd sub.command; bytes = sub.put.0; pages = data_span op; table = table_span op; start = op.at }

    inside : op_in_range at.window.place.size op ≡ true
    inside = in_range_is (op_in_range at.window.place.size op) (refused_by at.client.granted (length at.client.outgoing) (first_sharing op at.client.outgoing)) sub.allowed

    tabled : TableLies op op.table at.window sub.before.own
    tabled = table_lies line op at.client at.window sub.before.own talks.calm.usable talks.tabled inside sub.ready.own

    within : sub.slot ≤ SLOTS
    within = omega (arith, (slot_free at.client sub.slot idle sub.put.1.1).0)

    laid : Lays false line (unit_write sub.slot sub.put.0) sub.before.own at'.window
    laid = subst (λ shared. Lays shared line (unit_write sub.slot sub.put.0) sub.before.own at'.window) sub.ready.own_shared sub.put.2.laid

    went : UnitWent at at' sub.slot (table_span op) sub.put.0
    went = unit_went granted at at' sub.before line sub.slot (table_span op) sub.put.0 talks.calm
        (tables_leave line op at.client at.window.place.size at.window sub.before.own talks.calm.usable inside sub.ready.own) tabled.keeps
        sub.ready.own_shared sub.ready.crq_shared sub.ready.crq within
        (canon_some sub.put.0 (units.Cmd sub.command) sub.put.1.0) sub.put.1.0.within sub.put.2 rest stays

    has : DataLies at'.window ask
    has = unit_data sub.before.own at'.window sub.slot line sub.put.0 within sub.put.1.0.within laid.0 ask tt
        (op_data op sub.before.own at.window.place.size (next_tag at.client) sub.slot sub.put.0 sub.command fits talks.calm.usable.most inside sub.is_command tabled.stands)

    sends : Sends at at' ask
    sends = command_sends line op at at' (client_ports at) (client_ports at') tag sub idle went.stays has

-- the put of a unit without a table
pub went_put : (granted line slot : ℕ) (at at' : Between) (iu : Iu) (put : Put line at.client iu slot (client_ports at) (client_ports at')) → IsCalm granted at [] → slot ≤ SLOTS
    → OnlySends false at.own at'.own → ServerStays at at' → UnitWent at at' slot no_pages put.put.0
went_put granted line slot at at' iu put calm within rest stays =
    unit_went granted at at' put.before line slot no_pages put.put.0 calm
    (record { own = subst IsOwnWindow (sym put.ready.own) calm.usable; keeps = keeps_same at.window put.before.own put.ready.own })
    (λ ask spares its. data_kept at.window put.before.own put.ready.own ask tt its)
    put.ready.own_shared put.ready.crq_shared put.ready.crq within (canon_some put.put.0 iu put.put.1.0) put.put.1.0.within put.put.2 rest stays

pub task_says : (granted line function task : ℕ) (at at' : Between) (tag : ℕ) (sub : Tasked line function task at.client at'.client (client_ports at) (client_ports at') tag)
    → TalksPlainly granted at [] → at.client.login ≡ Idle → OnlySends false at.own at'.own → ServerStays at at'
    → TalksPlainly granted at' (word_of (record { tag = next_tag at.client; slot = sub.slot; iu = task_unit function task at.client; bytes = sub.put.put.0; pages = no_pages; table = no_pages; start = 0 }) ∷ [])
task_says granted line function task at at' tag sub talks idle rest stays =
    plainly_sends granted at at' ask (srp_entry (length sub.put.put.0) (slot_address sub.slot)) talks went.registered sends went.put
    (unit_said at'.window ask sends.is_ask went.stands)
  where
    ask : Ask
    ask = record { tag = next_tag at.client; slot = sub.slot; iu = task_unit function task at.client; bytes = sub.put.put.0; pages = no_pages; table = no_pages; start = 0 }

    went : UnitWent at at' sub.slot no_pages sub.put.put.0
    went = went_put granted line sub.slot at at' (task_unit function task at.client) sub.put talks.calm (omega (arith, (slot_free at.client sub.slot idle sub.put.put.1.1).0)) rest stays

    sends : Sends at at' ask
    sends = task_sends line function task at at' (client_ports at) (client_ports at') tag sub idle talks.tabled went.stays

pub logout_says : (granted line : ℕ) (at at' : Between) (tag : ℕ) (sub : LoggedOut line at.client at'.client (client_ports at) (client_ports at') tag)
    → TalksPlainly granted at [] → at.client.login ≡ Idle → OnlySends false at.own at'.own → ServerStays at at'
    → TalksPlainly granted at' (word_of (record { tag = next_tag at.client; slot = sub.slot; iu = logout_unit at.client; bytes = sub.put.put.0; pages = no_pages; table = no_pages; start = 0 }) ∷ [])
logout_says granted line at at' tag sub talks idle rest stays =
    plainly_out granted at at' ask (srp_entry (length sub.put.put.0) (slot_address sub.slot)) talks went.registered sends went.put
    (unit_said at'.window ask sends.is_ask went.stands)
  where
    ask : Ask
    ask = record { tag = next_tag at.client; slot = sub.slot; iu = logout_unit at.client; bytes = sub.put.put.0; pages = no_pages; table = no_pages; start = 0 }

    went : UnitWent at at' sub.slot no_pages sub.put.put.0
    went = went_put granted line sub.slot at at' (logout_unit at.client) sub.put talks.calm (omega (arith, (slot_free at.client sub.slot idle sub.put.put.1.1).0)) rest stays

    sends : SendsOut at at' ask
    sends = logout_sends line at at' (client_ports at) (client_ports at') tag sub idle went.stays
