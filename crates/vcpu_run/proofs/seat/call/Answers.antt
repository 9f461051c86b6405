use Rattle.std.proofs.Common.{◌≡◌, ◌≢◌, ℕ, IfOk, IsSome, Option, Some, ap, length, refl, subst, sym}
use Rattle.tce_window.specs.PlainPort.{known_of, plain_begins}
use Rattle.tce_window.specs.PortState.{PortPlace}
use Rattle.unit_region.specs.RegionLines.{region_seen}
use Rattle.unit_region.proofs.Laws.{read_there}
use Rattle.vcpu_run.specs.declared.client_call.ClientCall.{ClientCall}
use Rattle.vcpu_run.specs.declared.pair.Pair.{Pair}
use Rattle.vcpu_run.specs.CallRows.{arguments_for, row_for}
use Rattle.vcpu_run.specs.CallsAnswered.{IsReturned, unit_seen}
use Rattle.vcpu_run.specs.LinesShow.{seen_at}
use Rattle.vcpu_run.proofs.ClientCalls.{entry_seen_ok, in_use_held}
use Rattle.vcpu_run.proofs.WindowDrives.{window_drives}
use Rattle.vcpu_run.proofs.ClientsLay.{lays_kept, lays_none}
use Rattle.vcpu_run.proofs.seat.call.Goals as goal

pub returns-in-Entry-clause-returned : goal.returns-in-Entry-clause-returned
returns-in-Entry-clause-returned c =
    let old = c.args.pair.now in
    let new : Pair = record { server = old.server; link = old.link; own = old.own; window = c.make.new.own; driver = old.driver } in
    let size : (known_of old.window).place.size ≡ length c.make.new.own.pages = sym (ap (λ (place : PortPlace). place.size) c.make.ensures.window.place) in
    subst (λ (call : ClientCall). IfOk c.make.result (IsReturned (unit_seen (Some new)) (row_for call) (arguments_for call))) (sym c.in-Entry.is)
    (entry_seen_ok (known_of old.window) (known_of c.make.new.own) (length c.make.new.own.pages) (known_of c.make.new.own).values (region_seen (known_of c.make.new.own).strokes)
    (c.make.new.own.held_count ≢ 0) (seen_at new).entry_put old.driver c.in-Entry.call c.make.result size
    (λ entry. subst (λ (o : Option ℕ). IsSome o) (sym (plain_begins old.window entry)) refl) refl (read_there (known_of c.make.new.own))
    (in_use_held (known_of old.window) (known_of c.make.new.own) c.make.result c.make.ensures.window.held c.make.ensures.busy) c.make.ensures.answer c.make.ensures.entry)

pub returns-in-Entry-clause-drives : goal.returns-in-Entry-clause-drives
returns-in-Entry-clause-drives c = window_drives c.args.pair.now c.make.new.own c.make.ensures.window

pub returns-in-Entry-clause-lays : goal.returns-in-Entry-clause-lays
returns-in-Entry-clause-lays c =
    lays_none c.args.pair.now (record c.args.pair.now { window = c.make.new.own }) c.make.ensures.window.place c.make.ensures.marks

pub returns-in_err-queue_code-in-Queue-clause-lays : goal.returns-in_err-queue_code-in-Queue-clause-lays
returns-in_err-queue_code-in-Queue-clause-lays c = lays_kept c.args.pair.now c.queue_code.new.pair c.queue_code.ensures.window

pub returns-in_ok-queue_code-in-Queue-clause-lays : goal.returns-in_ok-queue_code-in-Queue-clause-lays
returns-in_ok-queue_code-in-Queue-clause-lays c = lays_kept c.args.pair.now c.queue_code.new.pair c.queue_code.ensures.window
