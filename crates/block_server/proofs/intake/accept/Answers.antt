use Rattle.std.proofs.Common.{◌≤◌, ◌+◌, ℕ, ap, inr, refl, subst, sym, ◌∙◌}
use Rattle.block_server.specs.Decided.{Decides}
use Rattle.block_server.specs.declared.logins.Logins.{Logins}
use Rattle.block_server.proofs.Limits.{limit_is, none_taking}
use Rattle.block_server.proofs.Verdicts.{taken_on, under_order}
use Rattle.block_server.proofs.intake.accept.Goals as goal

pub returns-in_default-clause-decides : goal.returns-in_default-clause-decides
returns-in_default-clause-decides c = λ bytes asks gets.
    c.fatal.ensures.decides _ _ bytes (record { current = refl; last = refl; taking = refl; granted = refl; outstanding = refl })
    (none_taking c.args.logins.now.taking c.args.logins.now.current c.taking.result c.taking.ensures (λ login is. c.in_default.not-Some login is), inr asks)

pub returns-in-Ok-clause-decides : goal.returns-in-Ok-clause-decides
returns-in-Ok-clause-decides c = λ bytes asks gets.
    let on = taken_on c.args.logins.now.taking c.args.logins.now.current c.in-Some.login (sym c.taking.ensures ∙ c.in-Some.is) in
    under_order c.args.logins.now c.accept.new.self c.in-Some.login bytes c.args.order gets (record {
      was = on.0;
      login_is = on.1;
      stays = record { current = c.accept.ensures.current; last = c.accept.ensures.last; taking = c.accept.ensures.taking; granted = c.accept.ensures.granted };
      more = c.in-Ok.ensures.more;
      within = c.accept.ensures.within;
      asks = asks;
    })

pub returns-in-Err-clause-decides : goal.returns-in-Err-clause-decides
returns-in-Err-clause-decides c = λ bytes asks gets.
    let old = c.args.logins.now in
    let on = taken_on old.taking old.current c.in-Some.login (sym c.taking.ensures ∙ c.in-Some.is) in
    let limit = limit_is c.accept.result c.in-Err.fault old.target old.taking old.granted c.in-Err.is on.0 old.takes c.accept.ensures.over_limit c.accept.ensures.ok old.grants
    (subst (λ (l : Logins). l.target.outstanding ≤ l.granted) c.in-Err.ensures.err c.accept.ensures.within) in
    subst (Decides old c.accept.new.self bytes) (sym (c.past_limit.ensures.over (old.target.outstanding + 1) old.target.granted limit.0)) (
      record {
        current = c.accept.ensures.current;
        last = c.accept.ensures.last;
        taking = c.accept.ensures.taking;
        granted = c.accept.ensures.granted;
        outstanding = ap (λ (l : Logins). l.target.outstanding) c.in-Err.ensures.err;
      },
      (asks, record { on = on.0; granted_is = old.grants; full = limit.1; most = ap (λ (n : ℕ). n + 1) (sym limit.1) }),
    )
