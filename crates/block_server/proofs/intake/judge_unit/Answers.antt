use Rattle.std.proofs.Common.{inl, refl, sym, subst, ◌∙◌}
use Rattle.block_server.proofs.Limits.{none_on}
use Rattle.block_server.proofs.Verdicts.{command_asks, ignored_iu, taken_on, task_asks}
use Rattle.srp_iu.specs.Grammar.{Spells}
use Rattle.block_server.proofs.intake.judge_unit.Goals as goal

pub returns-in-LoginReq-clause-decides : goal.returns-in-LoginReq-clause-decides
returns-in-LoginReq-clause-decides c = (record { current = refl; last = refl; taking = refl; granted = refl; outstanding = refl }, subst (Spells c.args.bytes.now) c.in-LoginReq.is c.in-Ok.ensures.ok)

pub returns-in-Some-clause-decides : goal.returns-in-Some-clause-decides
returns-in-Some-clause-decides c =
    let on = taken_on c.args.logins.now.taking c.args.logins.now.current c.in-Some.login (sym c.taking.ensures ∙ c.in-Some.is) in
    record {
      was = on.0;
      login_is = on.1;
      current = c.close.ensures.current;
      last = c.close.ensures.last;
      off = c.close.ensures.taking;
      granted = c.close.ensures.granted;
      outstanding = c.close.ensures.outstanding;
      tag = c.in-ILogout.tag;
      spelled = subst (Spells c.args.bytes.now) c.in-ILogout.is c.in-Ok.ensures.ok;
    }

pub returns-in-None-clause-decides : goal.returns-in-None-clause-decides
returns-in-None-clause-decides c = c.fatal.ensures.decides _ _ c.args.bytes.now (record { current = refl; last = refl; taking = refl; granted = refl; outstanding = refl })
    (none_on c.args.logins.now.taking c.args.logins.now.current (sym c.taking.ensures ∙ c.in-None.is), inl (c.in-ILogout.tag, subst (Spells c.args.bytes.now) c.in-ILogout.is c.in-Ok.ensures.ok))

pub returns-in-TskMgmt-clause-decides : goal.returns-in-TskMgmt-clause-decides
returns-in-TskMgmt-clause-decides c =
    c.accept.ensures.decides c.args.bytes.now (task_asks c.args.bytes.now c.in-TskMgmt.task (subst (Spells c.args.bytes.now) c.in-TskMgmt.is c.in-Ok.ensures.ok)) refl

pub returns-in-Cmd-clause-decides : goal.returns-in-Cmd-clause-decides
returns-in-Cmd-clause-decides c =
    c.accept-in-Cmd.ensures.decides c.args.bytes.now (command_asks c.args.bytes.now c.in-Cmd.command (subst (Spells c.args.bytes.now) c.in-Cmd.is c.in-Ok.ensures.ok)) refl

pub returns-in_default : goal.returns-in_default
returns-in_default c = record {
  tagged = tt;
  granted = refl;
  decides = (
    record { current = refl; last = refl; taking = refl; granted = refl; outstanding = refl },
    (
      c.in-Ok.iu,
      (
        c.in-Ok.ensures.ok,
        ignored_iu c.in-Ok.iu (λ r is. c.in_default.not-LoginReq r is) (λ tag is. c.in_default.not-ILogout tag is) (λ task is. c.in_default.not-TskMgmt task is)
            (λ command is. c.in_default.not-Cmd command is),
      ),
    ),
  );
}

pub returns-in-Err-clause-decides : goal.returns-in-Err-clause-decides
returns-in-Err-clause-decides c = c.unreadable.ensures.decides
