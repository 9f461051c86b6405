use Rattle.std.proofs.Common.{refl, rules}
use Rattle.block_server.proofs.Limits.{none_some, too_short}
use Rattle.block_server.proofs.Verdicts.{tagged_long}
use Rattle.block_server.proofs.intake.unreadable.Goals as goal

pub returns-in_default-clause-decides : goal.returns-in_default-clause-decides
returns-in_default-clause-decides c = c.fatal.ensures.decides _ _ c.args.bytes.now (record { current = refl; last = refl; taking = refl; granted = refl; outstanding = refl })
    (c.requires, λ asks. absurd (too_short _ (c.tag_of.ensures.none.0 (none_some c.tag_of.result (λ tag is. c.in_default.not-Some tag is))) asks.tagged))

pub returns-then-is_none-clause-decides : goal.returns-then-is_none-clause-decides
returns-then-is_none-clause-decides c = c.fatal-then-is_none.ensures.decides _ _ c.args.bytes.now (record { current = refl; last = refl; taking = refl; granted = refl; outstanding = refl })
    (c.requires, λ asks. search rules)

pub returns-clause-decides : goal.returns-clause-decides
returns-clause-decides c =
    c.accept.ensures.decides c.args.bytes.now (record {
      type_is = c.asks.ensures.0 (search rules);
      tagged = tagged_long _ c.tag_of.result c.in-Some.tag c.in-Some.is c.tag_of.ensures.none.1;
    }) refl
