use Rattle.std.proofs.Common.{◌≡◌, ◌∙◌, ℕ, IfOk, IfSome, OnOk, Option, arith, sym, subst}
use Rattle.vio_num.specs.declared.hypervisor.Hrc.TheVariants.{Success}
use Rattle.lan_script.specs.Buffers.{AddsAt}
use Rattle.lan_script.specs.Replayed.{FitsOne, Shows}
use Rattle.lan_script.proofs.Buffering.{adds_there}
use Rattle.lan_script.proofs.Correlating.{address_bytes, carry_here, one_carries}
use Rattle.lan_script.proofs.CountsKept.{adds_behind}
use Rattle.lan_script.proofs.ReplayedFits.{fits_tail}
use Rattle.lan_script.proofs.ReplayedPosts.{add_tail}
use Rattle.lan_script.proofs.ReplayedValues.{then_values}
use Rattle.lan_script.proofs.RegionsGrow.{regions_next}
use Rattle.lan_script.proofs.RegionMarks.{marks_next}
use Rattle.lan_script.specs.Regions.{IsLineMark}
use Rattle.lan_script.proofs.lan.Lan.post_one.Goals as goal

pub returns-in-Ok-clause-fits : goal.returns-in-Ok-clause-fits
returns-in-Ok-clause-fits c =
    subst (λ (o : Option ℕ). IfSome o (λ at. FitsOne c.args.self.now c.args.unit at c.args.len → IfOk c.add.result (λ code. code ≡ Success))) (sym c.in-Some.is)
    (fits_tail c.args.unit c.in-Some.address c.args.len c.descriptor.result c.add.result c.args.self.now c.write.new.self c.descriptor.ensures.valid
    c.descriptor.ensures.len c.descriptor.ensures.address c.write.ensures.replays c.write.ensures.seats c.write.ensures.grants c.add.ensures.fits)

pub returns-in-Ok-clause-posts : goal.returns-in-Ok-clause-posts
returns-in-Ok-clause-posts c =
    subst (λ (o : Option ℕ). IfOk c.add.result (λ code. code ≡ Success → AddsAt c.args.unit o c.args.len c.args.self.now c.add.new.self)) (sym c.in-Some.is)
    (adds_there c.args.unit c.in-Some.address c.args.len c.descriptor.result c.add.result c.args.self.now c.write.new.self c.add.new.self
    c.descriptor.ensures.exact c.write.ensures.counts c.add.ensures.posts)

pub returns-in-Ok-clause-values : goal.returns-in-Ok-clause-values
returns-in-Ok-clause-values c = then_values c.args.self.now c.write.new.self c.add.new.self c.add.result c.write.ensures.values c.add.ensures.values

pub returns-in-Ok-clause-counts : goal.returns-in-Ok-clause-counts
returns-in-Ok-clause-counts c = adds_behind c.args.unit c.add.result c.args.self.now c.write.new.self c.add.new.self c.write.ensures.counts c.add.ensures.counts

pub returns-in-Ok-clause-addresses : goal.returns-in-Ok-clause-addresses
returns-in-Ok-clause-addresses c = λ names.
    one_carries c.args.unit c.descriptor.result c.add.result c.args.self.now c.write.new.self c.add.new.self c.write.ensures.counts c.write.ensures.values
    (record {
      bytes = c.write_u64.new.buf;
      long = omega arith;
      number = address_bytes c.in-Some.address _ c.write_u64.new.buf c.write_u64.ensures (omega arith) ∙ sym c.descriptor.ensures.address;
      shown = subst (λ (a : ℕ). Shows c.write.new.self.places c.args.unit a c.write_u64.new.buf) (sym c.descriptor.ensures.address)
          (subst (λ r. OnOk r (Shows c.write.new.self.places c.args.unit c.in-Some.address c.write_u64.new.buf)) c.in-Ok.is c.write.ensures.shown);
    }) c.add.ensures.addresses names

pub returns-in-Err-InUse-clause-addresses : goal.returns-in-Err-InUse-clause-addresses
returns-in-Err-InUse-clause-addresses c = λ names. carry_here c.args.unit c.args.self.now c.write.new.self c.write.ensures.counts names

pub returns-in-Err-Range-clause-addresses : goal.returns-in-Err-Range-clause-addresses
returns-in-Err-Range-clause-addresses c = λ names. carry_here c.args.unit c.args.self.now c.write.new.self c.write.ensures.counts names

pub returns-in-Ok-clause-replays : goal.returns-in-Ok-clause-replays
returns-in-Ok-clause-replays c =
    add_tail c.args.unit c.descriptor.result c.args.len c.add.result c.args.self.now c.write.new.self c.add.new.self c.descriptor.ensures.valid
    c.descriptor.ensures.len c.write.ensures.replays c.add.ensures.replays

pub returns-in-Ok-clause-regions : goal.returns-in-Ok-clause-regions
returns-in-Ok-clause-regions c = regions_next c.args.self.now c.write.new.self c.add.new.self c.add.result c.write.ensures.regions c.add.ensures.regions

pub returns-in-Ok-clause-marks : goal.returns-in-Ok-clause-marks
returns-in-Ok-clause-marks c =
    marks_next (IsLineMark c.args.unit c.args.mark) c.args.self.now c.write.new.self c.add.new.self c.add.result c.write.ensures.marks c.add.ensures.marks
