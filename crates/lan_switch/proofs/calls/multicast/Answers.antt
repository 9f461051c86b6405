use Rattle.std.proofs.Common.{◌≡◌, ◌∷◌, [], Some, IfSome, IsSome, Option, sym, refl, ◌∙◌, ap, subst, ℕ}
use Rattle.vio_num.specs.declared.hypervisor.Hrc.{Hrc}
use Rattle.vio_num.specs.declared.hypervisor.Hrc.TheVariants.{Success, Parameter, NotFound, Resource}
use Rattle.lan_frame.specs.declared.control.FilterAction.{FilterAction}
use Rattle.lan_buffers.specs.declared.settings.Settings.{Settings}
use Rattle.lan_frame.specs.Control.{action_of}
use Rattle.lan_switch.specs.Calls.{FindsNoFilter, HasNoFilter, IsMulticast, NamesGroup, action_in}
use Rattle.lan_frame.specs.Station.{IsGroup}
use Rattle.std.specs.List.{Contains}
use Rattle.lan_switch.proofs.Codes.{acted_among, acted_no_parameter}
use Rattle.lan_switch.proofs.calls.multicast.Goals as goal

pub returns-in-Success-clause-success : goal.returns-in-Success-clause-success
returns-in-Success-clause-success c = λ _. record {
  settings = c.in-Some.settings;
  settings' = c.act.new.settings;
  shown = sym c.settings.ensures ∙ c.in-Some.is;
  asked = c.in-Ok.asked;
  asks = record { reception = c.in-Ok.ensures.reception; filtering = c.in-Ok.ensures.filtering; action = c.in-Ok.ensures.action };
  controls = c.act.ensures.success c.in-Success.is;
  sets = c.set.ensures;
}

pub returns-in_default-act : goal.returns-in_default-act
returns-in_default-act c =
    let code = c.plain-in_default-act.ensures.code in
    let shown : c.args.port.now.settings ≡ Some c.in-Some.settings = sym c.settings.ensures ∙ c.in-Some.is in
    let action : action_of c.in-Ok.asked.action ≡ action_in c.args.control = ap action_of c.in-Ok.ensures.action in
    let may : IsMulticast c.args.control c.args.mac c.args.port.now = record {
      opened = subst (λ (o : Option Settings). IsSome o) (sym shown) refl;
      word = c.in-Ok.ensures.ok.0 refl;
      group = subst (λ (a : FilterAction). NamesGroup a → IsGroup c.args.mac) (c.filter_action.ensures ∙ action) (c.if-not-may_act.ensures.0 refl);
    } in
    record {
      parameter = (λ e. absurd (acted_no_parameter c.act.result c.act.ensures.codes (sym code ∙ e)), λ none. absurd (none may));
      resource = λ e. subst (λ (o : Option Settings). IfSome o (HasNoFilter c.args.control c.args.mac)) (sym shown)
          (record { adds = sym action ∙ (c.act.ensures.resource (sym code ∙ e)).0; full = (c.act.ensures.resource (sym code ∙ e)).1 });
      not_found = λ e. subst (λ (o : Option Settings). IfSome o (FindsNoFilter c.args.control c.args.mac)) (sym shown)
          (record { removes = sym action ∙ (c.act.ensures.not_found (sym code ∙ e)).0; absent = (c.act.ensures.not_found (sym code ∙ e)).1 });
      full = λ _ full.
          let none : HasNoFilter c.args.control c.args.mac c.in-Some.settings = subst (λ (o : Option Settings). IfSome o (HasNoFilter c.args.control c.args.mac)) shown full in
          code ∙ c.act.ensures.full (action ∙ none.adds) none.full;
      success = λ e. absurd (c.in_default-act.not-Success (sym code ∙ e));
      refused = λ _. refl;
      plain = record { code = subst (λ (x : Hrc). Contains (Success ∷ Parameter ∷ Resource ∷ NotFound ∷ []) x) (sym code) (acted_among c.act.result c.act.ensures.codes); word = c.plain-in_default-act.ensures.word };
      unit = refl;
    }
