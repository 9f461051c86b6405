use Rattle.std.proofs.Common.{rules, ◌<◌, ℕ, decimal, refl}
use Rattle.vio_num.specs.declared.names.UnitId.{UnitId}
use Rattle.vio_trace.specs.Form.{IsName}
use Rattle.vio_trace.specs.Text.{name}
use Rattle.vio_trace.proofs.Parted.{none_without, word_refused, rest_refused}
use Rattle.vio_trace.proofs.Undone.{decimal_no_dot}
use Rattle.vio_trace.proofs.read_kinds.read_name.Goals as goal

pub returns-in_default : goal.returns-in_default
returns-in_default c value fits e =
    none_without 46 decimal decimal (λ (a b : ℕ). a < 256) c.args.text.now (search rules) value.partition value.unit e

pub returns-in_err-partition : goal.returns-in_err-partition
returns-in_err-partition c =
    let fact = word_refused 46 decimal (λ n. n < 256) name IsName (λ (u : UnitId). u.partition) (λ u. decimal u.unit)
    (λ u h. h.partition) (λ u. refl) decimal_no_dot
    c.in-Some.partition.now c.in-Some.unit.now c.args.text.now (search rules) (search rules) c.in_err-partition.field-0.0 (search rules) in
    search (rules, fact)

pub returns-in_err-unit : goal.returns-in_err-unit
returns-in_err-unit c =
    let fact = rest_refused 46 decimal (λ n. n < 256) decimal (λ n. n < 256) name IsName (λ (u : UnitId). u.partition) (λ u. u.unit)
    (λ u h. (h.partition, h.own)) (λ u. refl) decimal_no_dot
    c.in-Some.partition.now c.in-Some.unit.now c.args.text.now (search rules) (search rules) c.in_err-unit.field-0.0 (search rules) in
    search (rules, fact)
