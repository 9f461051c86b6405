use Rattle.std.proofs.Common.{◌∙◌, [], ◌∷◌, refl, sym, ap, Ok}
use Rattle.vscsi_client.specs.Ports.{ports}
use Rattle.vscsi_client.specs.Turned.{site, RanOut}
use Rattle.vscsi_client.proofs.Runs.{hands, same_end}
use Rattle.vscsi_client.proofs.Parts.{written_of, put_did}
use Rattle.vscsi_client.proofs.Writing.{not_written, was_written, wrote_one}
use Rattle.vscsi_client.proofs.client.Client.put_one.Goals as goal

pub put_entry-requires-clause-written : goal.put_entry-requires-clause-written
put_entry-requires-clause-written g c = written_of c.args.due c.args.self.now.login (sym c.is_unwritten.ensures ∙ c.if-not-is_unwritten.true)

pub returns-then-not-is_unwritten-clause-did : goal.returns-then-not-is_unwritten-clause-did
returns-then-not-is_unwritten-clause-did g c =
    put_did c.args.line g.C.CrqEnd.is_shared g.O.WindowPort.is_shared c.args.self.now c.put_entry.new.self (g.C.CrqEnd.state c.args.crq.now) (g.C.CrqEnd.state c.put_entry.new.crq)
    (g.O.WindowPort.state c.args.own.now) c.args.due c.put_entry.result c.requires.begun c.put_entry.ensures.put c.put_entry.ensures.same c.put_entry.ensures.none

pub returns-in-Err-clause-did : goal.returns-in-Err-clause-did
returns-in-Err-clause-did g c = record {
  steps = RanOut ∷ [];
  runs = (
    site c.args.self.now (ports g.C.CrqEnd.is_shared (g.C.CrqEnd.state c.args.crq.now) g.O.WindowPort.is_shared (g.O.WindowPort.state c.args.own.now)),
    refl,
    record { crq = same_end (g.C.CrqEnd.state c.args.crq.now); own = c.in-Err.ensures.none; client = c.in-Err.ensures.same },
    hands _ _ _ _ _ _ _ _,
  );
  ends = record { rest = []; is = refl; going = refl };
}

pub returns-in-Ok-InUse-clause-did : goal.returns-in-Ok-InUse-clause-did
returns-in-Ok-InUse-clause-did g c =
    not_written c.args.line g.C.CrqEnd.is_shared g.O.WindowPort.is_shared c.args.self.now c.write_login.new.self (g.C.CrqEnd.state c.args.crq.now)
    (g.O.WindowPort.state c.args.own.now) (g.O.WindowPort.state c.write_login.new.own) c.args.due c.write_login.result c.in-Ok-InUse.field-0-0 c.in-Ok-InUse.field-0-1
    (c.in-Ok-InUse.is ∙ ap Ok c.in-Ok-InUse.field-0-is) (sym c.is_unwritten.ensures ∙ c.if-not-is_unwritten.false) c.requires.first c.requires.begun c.write_login.ensures.wrote

pub returns-in-Ok-Written-clause-did : goal.returns-in-Ok-Written-clause-did
returns-in-Ok-Written-clause-did g c =
    let w = was_written g.O.WindowPort.is_shared c.args.line c.args.self.now c.write_login.new.self (g.O.WindowPort.state c.args.own.now) (g.O.WindowPort.state c.write_login.new.own)
    c.write_login.result (c.in-Ok-Written.is ∙ ap Ok c.in-Ok-Written.field-0-is) c.write_login.ensures.wrote in
    wrote_one c.args.line g.C.CrqEnd.is_shared g.O.WindowPort.is_shared c.args.self.now c.write_login.new.self c.put_entry-in-Ok-Written.new.self
    (g.C.CrqEnd.state c.args.crq.now) (g.C.CrqEnd.state c.put_entry-in-Ok-Written.new.crq) (g.O.WindowPort.state c.args.own.now) (g.O.WindowPort.state c.write_login.new.own)
    c.args.due c.put_entry-in-Ok-Written.result (sym c.is_unwritten.ensures ∙ c.if-not-is_unwritten.false) c.requires.first w
    c.put_entry-in-Ok-Written.ensures.put c.put_entry-in-Ok-Written.ensures.same c.put_entry-in-Ok-Written.ensures.none
