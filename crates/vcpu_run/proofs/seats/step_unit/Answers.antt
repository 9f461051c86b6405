use Rattle.std.proofs.Common.{rules, ◌≡◌, Bool, false, true, length, refl, slice_get}
use Rattle.boot_text.specs.declared.verb.Verb.TheVariants as verbs
use Rattle.vcpu_run.specs.CallsSaid.{seen_from, units_seen}
use Rattle.vcpu_run.specs.RawCalls.{seat_by}
use Rattle.vcpu_run.proofs.PortCalling.{called_entries, uncalled_entries}
use Rattle.vcpu_run.proofs.CalledPorts.{called_ports, uncalled_ports}
use Rattle.vcpu_run.proofs.CallsKept.{among_same, called_step, seen_same, step_says_none}
use Rattle.vcpu_run.specs.Credited.{is_take, taken_in}
use Rattle.vcpu_run.specs.Suited.{is_call}
use Rattle.vcpu_run.proofs.RawCalling.{plain_port, told_steps}
use Rattle.vcpu_run.proofs.ClientRecords.{line_apart}
use Rattle.vcpu_run.proofs.ClientsLay.{line_lays_none}
use Rattle.vcpu_run.proofs.PortLines.{call_apart}
use Rattle.vcpu_run.proofs.Unfreed.{frees_call}
use Rattle.vcpu_run.proofs.seats.step_unit.Goals as goal

pub step_own-requires-clause-no_call : goal.step_own-requires-clause-no_call
step_own-requires-clause-no_call c = search rules

pub returns-in-Some-clause-credit : goal.returns-in-Some-clause-credit
returns-in-Some-clause-credit c =
    let other : is_take c.args.line.now.verb ≡ false = search rules in
    record {
      client = λ k at.
          told_steps c.args.pairs.now c.make_call.new.pairs c.args.line.now.verb (taken_in c.args.progress.now) k c.make_call.result other
          c.make_call.ensures.told c.make_call.ensures.plain;
      port = λ at. (c.make_call.ensures.told, plain_port c.args.line.now.verb (taken_in c.args.progress.now) c.make_call.result c.make_call.ensures.plain);
    }

pub returns-in-Some-clause-stays : goal.returns-in-Some-clause-stays
returns-in-Some-clause-stays c =
    let calls : is_call c.args.line.now.verb ≡ true = search rules in
    frees_call c.args.seats.now c.args.line.now c.args.pairs.now c.make_call.new.pairs calls c.make_call.ensures.stays

pub returns-in-Some-clause-said : goal.returns-in-Some-clause-said
returns-in-Some-clause-said c = λ none.
    let calls : is_call c.args.line.now.verb ≡ true = search rules in
    absurd (not_both (is_call c.args.line.now.verb) calls none)
  where
    not_both : (b : Bool) → b ≡ true → b ≡ false → ⊥
    not_both b is isnt = cc

pub returns-in-Some-clause-out : goal.returns-in-Some-clause-out
returns-in-Some-clause-out c = λ none.
    let calls : is_call c.args.line.now.verb ≡ true = search rules in
    absurd (not_both (is_call c.args.line.now.verb) calls none)
  where
    not_both : (b : Bool) → b ≡ true → b ≡ false → ⊥
    not_both b is isnt = cc

pub returns-in-Some-clause-registered : goal.returns-in-Some-clause-registered
returns-in-Some-clause-registered c = λ none.
    let calls : is_call c.args.line.now.verb ≡ true = search rules in
    absurd (not_both (is_call c.args.line.now.verb) calls none)
  where
    not_both : (b : Bool) → b ≡ true → b ≡ false → ⊥
    not_both b is isnt = cc

pub returns-in-Some-clause-ports : goal.returns-in-Some-clause-ports
returns-in-Some-clause-ports c =
    let of_line : c.args.line.now.verb ≡ verbs.Hcall c.in-Some.raw.number c.in-Some.raw.arguments = search rules in
    called_ports c.args.partition c.args.line.now.verb (verbs.Hcall c.in-Some.raw.number c.in-Some.raw.arguments) c.make_call.result c.args.lan.now c.make_call.new.lan
    of_line c.make_call.ensures.ports

pub returns-in-None-clause-ports : goal.returns-in-None-clause-ports
returns-in-None-clause-ports c =
    let none : is_call c.args.line.now.verb ≡ false = search rules in
    uncalled_ports c.args.partition c.args.line.now.verb c.step_own.result c.args.lan.now c.step_own.new.lan none

pub returns-in-Some-clause-called : goal.returns-in-Some-clause-called
returns-in-Some-clause-called c =
    let of_line : c.args.line.now.verb ≡ verbs.Hcall c.in-Some.raw.number c.in-Some.raw.arguments = search rules in
    called_step (seen_from c.args.partition c.args.seats.now c.make_call.new.pairs)
    (units_seen c.args.partition (seat_by c.args.partition c.args.seats.now (length c.args.pairs.now) c.args.lan.now.seats) c.make_call.new.pairs) c.args.line.now.verb
    c.in-Some.raw.number c.in-Some.raw.arguments c.make_call.result
    (seen_same c.args.partition c.args.seats.now c.args.pairs.now c.make_call.new.pairs c.args.lan.now.seats c.requires.clients c.requires.ports)
    of_line c.make_call.ensures.said

pub returns-in-None-clause-called : goal.returns-in-None-clause-called
returns-in-None-clause-called c =
    let none : is_call c.args.line.now.verb ≡ false = search rules in
    step_says_none (seen_from c.args.partition c.args.seats.now c.step_own.new.pairs) c.args.line.now.verb c.step_own.result none

pub returns-in-Some-clause-entries : goal.returns-in-Some-clause-entries
returns-in-Some-clause-entries c =
    let of_line : c.args.line.now.verb ≡ verbs.Hcall c.in-Some.raw.number c.in-Some.raw.arguments = search rules in
    called_entries c.args.partition c.args.seats.now c.args.pairs.now c.args.lan.now.seats c.args.line.now.verb c.in-Some.raw.number c.in-Some.raw.arguments c.make_call.result
    c.args.lan.now c.make_call.new.lan
    (λ unit. among_same c.args.partition c.args.seats.now c.args.pairs.now c.args.lan.now.seats unit c.requires.clients c.requires.ports (slice_get c.args.seats.now unit) refl)
    of_line c.make_call.ensures.entries

pub returns-in-None-clause-entries : goal.returns-in-None-clause-entries
returns-in-None-clause-entries c =
    let none : is_call c.args.line.now.verb ≡ false = search rules in
    uncalled_entries c.args.partition c.args.seats.now c.args.line.now.verb c.step_own.result c.args.lan.now c.step_own.new.lan none

pub returns-in-Some-clause-lays : goal.returns-in-Some-clause-lays
returns-in-Some-clause-lays c = line_lays_none c.args.seats.now c.args.line.now c.args.pairs.now c.make_call.new.pairs c.make_call.ensures.lays

pub returns-in-Some-clause-region : goal.returns-in-Some-clause-region
returns-in-Some-clause-region c =
    let calls : is_call c.args.line.now.verb ≡ true = search rules in
    line_apart c.args.seats.now c.args.line.now c.args.pairs.now c.make_call.new.pairs c.make_call.result (call_apart c.args.line.now.verb calls)

pub returns-in-Some-clause-drivers : goal.returns-in-Some-clause-drivers
returns-in-Some-clause-drivers c = λ is. c.make_call.ensures.told

pub returns-in-None-clause-drivers : goal.returns-in-None-clause-drivers
returns-in-None-clause-drivers c = λ is.
    let none : is_call c.args.line.now.verb ≡ false = search rules in
    absurd (not_both (is_call c.args.line.now.verb) is none)
  where
    not_both : (b : Bool) → b ≡ true → b ≡ false → ⊥
    not_both b is other = cc

pub returns-in-Some-clause-plainly : goal.returns-in-Some-clause-plainly
returns-in-Some-clause-plainly c = λ none.
    let calls : is_call c.args.line.now.verb ≡ true = search rules in
    absurd (not_both (is_call c.args.line.now.verb) calls none)
  where
    not_both : (b : Bool) → b ≡ true → b ≡ false → ⊥
    not_both b is isnt = cc

pub returns-in-Some-clause-acts : goal.returns-in-Some-clause-acts
returns-in-Some-clause-acts c = λ none.
    let calls : is_call c.args.line.now.verb ≡ true = search rules in
    absurd (not_both (is_call c.args.line.now.verb) calls none)
  where
    not_both : (b : Bool) → b ≡ true → b ≡ false → ⊥
    not_both b is isnt = cc
