use Rattle.std.proofs.Common.{◌≡◌, ℕ, arith, sym, refl, ◌∙◌, ap, subst}
use Rattle.lan_switch.specs.Calls.{MayPost, ReadsCorrelator, SaysUnread}
use Rattle.lan_switch.specs.Source.{RefusesRead}
use Rattle.lan_switch.specs.declared.answers.LanAnswer.{LanAnswer}
use Rattle.vio_num.specs.declared.hypervisor.Hrc.TheVariants.{Busy}
use Rattle.lan_switch.proofs.Codes.{posted_among, posted_no_busy, posted_no_parameter}
use Rattle.lan_switch.proofs.calls.add.Goals as goal

pub returns-in-Ok-clause-adds : goal.returns-in-Ok-clause-adds
returns-in-Ok-clause-adds g c =
    let codes = c.post.ensures.plain.code in
    let may : MayPost c.args.descriptor c.args.port.now = record { opened = c.if-not-is_open.ensures.0 refl; buffer = c.if-not-is_buffer.ensures.0 refl } in
    record {
      parameter = λ none. absurd (none may);
      unread = λ e _. absurd (posted_no_parameter c.post.result.code codes e);
      busy = λ e. absurd (posted_no_busy c.post.result.code codes e);
      resource = c.post.ensures.resource;
      success = λ e. record {
        correlator = c.in-Ok.correlator;
        read = subst (λ at. ReadsCorrelator (g.G.WindowPort.state c.args.window.now) (g.G.WindowPort.state c.read_correlator.new.window) at c.in-Ok.correlator)
            c.buffer_address.ensures.address c.in-Ok.ensures.read;
        posts = c.post.ensures.success e;
      };
      refused = c.post.ensures.refused;
      codes = posted_among c.post.result.code codes;
      word = λ _. c.post.ensures.plain.word;
    }

pub returns-in-Err-InUse-clause-adds : goal.returns-in-Err-InUse-clause-adds
returns-in-Err-InUse-clause-adds g c =
    let may : MayPost c.args.descriptor c.args.port.now = record { opened = c.if-not-is_open.ensures.0 refl; buffer = c.if-not-is_buffer.ensures.0 refl } in
    let answer : LanAnswer = record { code = Busy; word = c.in-Err-InUse.word } in
    record {
      parameter = λ none. absurd (none may);
      unread = λ e _. absurd (cc (e));
      busy = λ _. record {
        fault = c.in-Err-InUse.field-0;
        cause = subst (λ at. RefusesRead g.G.WindowPort.is_shared (λ page word. g.G.GuestPort.found c.read_correlator.new.window page word) (g.G.WindowPort.state c.args.window.now) (g.G.WindowPort.state c.read_correlator.new.window) at 8 c.in-Err-InUse.field-0)
            c.buffer_address.ensures.address c.in-Err-InUse.ensures.refused;
        says = subst (λ f. SaysUnread f answer) (sym c.in-Err-InUse.field-0-is) (refl, refl);
      };
      resource = λ e. absurd (cc (e));
      success = λ e. absurd (cc (e));
      refused = λ _. refl;
      codes = (2, omega arith, refl);
      word = λ other. absurd (other refl);
    }
