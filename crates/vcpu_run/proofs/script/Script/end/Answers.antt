use Rattle.std.proofs.Common.{◌∙◌, ◌<◌, ◌≤◌, List, ap, length, slice_get, refl, sym, subst}
use Rattle.std.proofs.lemmas.Option.{slice_get_within}
use Rattle.vio_trace.specs.declared.rows.LogRow.{LogRow}
use Rattle.vcpu_run.specs.Scripts.{AreLogged}
use Rattle.vcpu_run.proofs.Logging.{behind_within, logged_one}
use Rattle.vcpu_run.proofs.script.Script.end.Goals as goal

pub place_behind-self-requires : goal.place_behind-self-requires
place_behind-self-requires c = slice_get_within c.args.self.now.lines.now c.args.self.now.at c.args.line.now c.requires.line

pub returns-clause-script : goal.returns-clause-script
returns-clause-script c = λ pairs is.
    let lines = c.args.self.now.lines.now in
    let at = c.args.self.now.at in
    let within : at < length lines = slice_get_within lines at c.args.line.now c.requires.line in
    record {
      seats = is.seats;
      lines = is.lines;
      in_order = is.in_order;
      at = subst (λ n. n ≤ length lines) (sym c.place_behind-self.ensures) (behind_within lines at c.args.line.now within);
      logs = subst (λ (logs : List LogRow). AreLogged c.args.self.now.partition c.place_behind-self.result lines logs) (sym c.in_ok-push.ensures.items)
          (logged_one c.args.self.now.partition at c.place_behind-self.result lines c.args.self.now.logs.items c.args.line.now _
          c.requires.line refl refl c.place_behind-self.ensures is.logs);
    }
