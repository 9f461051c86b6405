-- What the control of a port's filters says in its replay.
use Rattle.std.proofs.Common.{◌≡◌, ◌==◌, ◌⊎◌, inl, inr, ℕ, IfSome, IsSome, List, [], ◌∷◌, Option, Some, None, refl, sym, ◌∙◌, ap, subst}
use Rattle.std.specs.List.{Contains}
use Rattle.std.specs.Option.{unwrap_or}
use Rattle.std.proofs.lemmas.Bool.{eqb-false, eqb-true}
use Rattle.std.proofs.lemmas.Option.{slice_get_within, unwrap_or-slice_get}
use Rattle.std.proofs.lemmas.List.Elements.{All-cons, All-contains, All-nil, Contains-get_or}
use Rattle.vio_num.specs.declared.names.Mac.{Mac}
use Rattle.vio_num.specs.declared.hypervisor.Hrc.{Hrc}
use Rattle.vio_num.specs.declared.hypervisor.Hrc.TheVariants.{Success, Parameter, NotFound, Resource}
use Rattle.vio_trace.specs.declared.outcome.Outcome.TheVariants as outcomes
use Rattle.lan_frame.specs.Filters.{Removes}
use Rattle.lan_frame.specs.declared.control.FilterAction.{FilterAction}
use Rattle.lan_frame.specs.declared.control.FilterAction.TheVariants.{Remove}
use Rattle.lan_frame.specs.Control.{action_of}
use Rattle.lan_buffers.specs.Port.{PortValue}
use Rattle.lan_buffers.specs.declared.settings.Settings.{Settings}
use Rattle.lan_switch.specs.declared.answers.LanAnswer.{LanAnswer}
use Rattle.lan_switch.specs.Calls.{Acts, FindsNoFilter, HasNoFilter, IsMulticast, Multicasts, SetsControlled}
use Rattle.lan_script.specs.PortReplay.{MayControl, MulticastSays}
use Rattle.lan_script.specs.Replayed.{replay_of}
use Rattle.lan_script.proofs.Placing.{by_bool, same_some}
use Rattle.lan_script.proofs.Replaying.{Moves, stays_equal}

abbrev pub OneOf4 : (a b d e x : Hrc) → Type 0
OneOf4 a b d e x = (x ≡ a) ⊎ ((x ≡ b) ⊎ ((x ≡ d) ⊎ (x ≡ e)))

pub one_of4 : (a b d e x : Hrc) → Contains (a ∷ b ∷ d ∷ e ∷ []) x → OneOf4 a b d e x
one_of4 a b d e x h =
    All-contains (OneOf4 a b d e) (a ∷ b ∷ d ∷ e ∷ []) x
    (All-cons (OneOf4 a b d e) a (b ∷ d ∷ e ∷ []) (inl refl)
    (All-cons (OneOf4 a b d e) b (d ∷ e ∷ []) (inr (inl refl))
    (All-cons (OneOf4 a b d e) d (e ∷ []) (inr (inr (inl refl)))
    (All-cons (OneOf4 a b d e) e [] (inr (inr (inr refl))) (All-nil (OneOf4 a b d e)))))) h

-- a filter that was removed was there
was_there : (mac : Mac) (old new : List Mac) → Removes mac old new → Contains old mac
was_there mac old new h =
    subst (λ (m : Mac). Contains old m) (sym (unwrap_or-slice_get old h.place mac) ∙ ap (λ o. unwrap_or o mac) h.stood)
    (Contains-get_or old h.place mac (slice_get_within old h.place mac h.stood))

-- what is not known not to be so
stable_nat : (a b : ℕ) → ((a ≡ b → ⊥) → ⊥) → a ≡ b
stable_nat a b not = by_bool (a == b) (a ≡ b) (λ e. eqb-true a b e) (λ e. absurd (not (λ same. eqb-false a b e same)))

stable_some : (o : Option Settings) → ((IsSome o → ⊥) → ⊥) → IsSome o
stable_some (Some settings) not = refl
stable_some None not = absurd (not (λ is. cc (is)))

may_control : (control : ℕ) (mac : Mac) (port : PortValue) (n : List (List ℕ)) → ((IsMulticast control mac port → ⊥) → ⊥) → MayControl control mac (replay_of (Some port) n)
may_control control mac port n not = record {
  opened = stable_some port.settings (λ none. not (λ may. none may.opened));
  word = stable_nat _ _ (λ none. not (λ may. none may.word));
  group = λ names. stable_nat _ _ (λ none. not (λ may. none (may.group names)));
}

-- a control that leaves settings found what it removes
not_absent : (control : ℕ) (mac : Mac) (before after : PortValue) (settings : Settings) → before.settings ≡ Some settings
    → SetsControlled control mac before after → FindsNoFilter control mac settings → ⊥
not_absent control mac before after settings shown h none =
    let is : h.settings ≡ settings = same_some h.settings settings (sym h.shown ∙ shown) in
    let action : action_of h.asked.action ≡ Remove = ap action_of h.asks.action ∙ none.removes in
    let acts : Acts Remove mac h.settings.filters h.settings'.filters =
    subst (λ (a : FilterAction). Acts a mac h.settings.filters h.settings'.filters) action h.controls.filters in
    none.absent (subst (λ (s : Settings). Contains s.filters mac) is (was_there mac h.settings.filters h.settings'.filters acts))

pub multicasts_replay : (control : ℕ) (mac : Mac) (answer : LanAnswer) (before after : PortValue) → Multicasts control mac answer before after
    → Moves (λ old new. MulticastSays control mac (outcomes.Code answer.code) old new) before after
multicasts_replay control mac answer before after h = by (one_of4 Success Parameter Resource NotFound answer.code h.plain.code)
  where
    to_port : (n : List (List ℕ)) → MayControl control mac (replay_of (Some before) n) → IsMulticast control mac before
    to_port n may = record { opened = may.opened; word = may.word; group = may.group }

    may : (n : List (List ℕ)) → (answer.code ≡ Parameter → ⊥) → MayControl control mac (replay_of (Some before) n)
    may n not = may_control control mac before n (λ none. not (h.parameter.1 none))

    made : answer.code ≡ Success → SetsControlled control mac before after
        → Moves (λ old new. MulticastSays control mac (outcomes.Code answer.code) old new) before after
    made e set = record {
      unit = ap (λ (p : PortValue). p.unit) set.sets;
      says = λ n. inr (
        may n (λ f. cc (e, f)),
        inr (inr (record {
          settings = set.settings;
          settings' = set.settings';
          shown = set.shown;
          placed = λ none. cc (e, h.full (to_port n (may n (λ f. cc (e, f)))) (subst (λ (o : Option Settings). IfSome o (HasNoFilter control mac)) (sym set.shown) none));
          found = λ none. not_absent control mac before after set.settings set.shown set none;
          asked = set.asked;
          asks = set.asks;
          controls = set.controls;
          codes = record { outcome_is = ap (λ (x : Hrc). outcomes.Code x) e; left_is = ap (λ (p : PortValue). replay_of (Some p) n) set.sets };
        })),
      );
    }

    by : OneOf4 Success Parameter Resource NotFound answer.code → Moves (λ old new. MulticastSays control mac (outcomes.Code answer.code) old new) before after
    by (inr (inl e)) =
        let same = stays_equal before after (h.refused (λ f. cc (e, f))) in
        record {
          unit = same.unit;
          says = λ n. inl (λ may. h.parameter.0 e (to_port n may), record { outcome_is = ap (λ (x : Hrc). outcomes.Code x) e; left_is = same.says n });
        }
    by (inl e) = made e (h.success e)
    by (inr (inr (inl e))) =
        let same = stays_equal before after (h.refused (λ f. cc (e, f))) in
        record {
          unit = same.unit;
          says = λ n. inr (may n (λ f. cc (e, f)), inl (h.resource e, record { outcome_is = ap (λ (x : Hrc). outcomes.Code x) e; left_is = same.says n }));
        }
    by (inr (inr (inr e))) =
        let same = stays_equal before after (h.refused (λ f. cc (e, f))) in
        record {
          unit = same.unit;
          says = λ n. inr (may n (λ f. cc (e, f)), inr (inl (h.not_found e, record { outcome_is = ap (λ (x : Hrc). outcomes.Code x) e; left_is = same.says n })));
        }
