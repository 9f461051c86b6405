-- What the calls of a port say in its replay.
use Rattle.std.proofs.Common.{◌≡◌, ◌⊎◌, ◌*◌, ◌+◌, inl, inr, ℕ, IsSome, [], ◌∷◌, Option, Some, None, Result, length, length-append, map, refl, sym, ◌∙◌, ap, subst, List}
use Rattle.std.specs.List.{Contains}
use Rattle.std.specs.Option.{option_map}
use Rattle.std.proofs.lemmas.List.Elements.{All-cons, All-contains, All-nil}
use Rattle.vio_num.specs.declared.memory.NoMemory.{NoMemory}
use Rattle.vio_num.specs.declared.names.Mac.{Mac}
use Rattle.vio_num.specs.declared.hypervisor.Hrc.{Hrc}
use Rattle.vio_num.specs.declared.hypervisor.Hrc.TheVariants.{Success, Parameter, Resource}
use Rattle.vio_trace.specs.declared.outcome.Outcome.TheVariants as outcomes
use Rattle.lan_buffers.specs.Calls.{BeginsSession, IsOpen, first_settings}
use Rattle.lan_buffers.specs.Pools.{post_len}
use Rattle.lan_buffers.specs.Port.{PortValue, Session}
use Rattle.lan_buffers.specs.declared.answers.Harvest.{Harvest}
use Rattle.lan_buffers.specs.declared.answers.Harvest.TheVariants.{Frame, Blank, Nothing}
use Rattle.lan_buffers.specs.declared.settings.Settings.{Settings}
use Rattle.lan_switch.specs.declared.answers.LanAnswer.{LanAnswer}
use Rattle.lan_switch.specs.Calls.{ChangesMac, Frees, Harvests, IsOwnAddress, IsRegistration, Registers, Reserves}
use Rattle.lan_script.specs.declared.seat.PortSeat.{PortSeat}
use Rattle.lan_script.specs.PortReplay.{CloseSays, MacSays, OpenSays}
use Rattle.lan_script.specs.Replayed.{IsOpening, replay_of}
use Rattle.lan_script.proofs.Replaying.{Moves, Stays, replay_with, stays_equal, stays_with}
use Rattle.lan_script.proofs.Tallies.{shut}

-- a code that is among two, or three
pub one_of2 : (a b x : Hrc) → Contains (a ∷ b ∷ []) x → (x ≡ a) ⊎ (x ≡ b)
one_of2 a b x h =
    All-contains (λ y. (y ≡ a) ⊎ (y ≡ b)) (a ∷ b ∷ []) x
    (All-cons (λ y. (y ≡ a) ⊎ (y ≡ b)) a (b ∷ []) (inl refl) (All-cons (λ y. (y ≡ a) ⊎ (y ≡ b)) b [] (inr refl) (All-nil (λ y. (y ≡ a) ⊎ (y ≡ b))))) h

abbrev OneOf3 : (a b d x : Hrc) → Type 0
OneOf3 a b d x = (x ≡ a) ⊎ ((x ≡ b) ⊎ (x ≡ d))

pub one_of3 : (a b d x : Hrc) → Contains (a ∷ b ∷ d ∷ []) x → (x ≡ a) ⊎ ((x ≡ b) ⊎ (x ≡ d))
one_of3 a b d x h =
    All-contains (OneOf3 a b d) (a ∷ b ∷ d ∷ []) x
    (All-cons (OneOf3 a b d) a (b ∷ d ∷ []) (inl refl)
    (All-cons (OneOf3 a b d) b (d ∷ []) (inr (inl refl)) (All-cons (OneOf3 a b d) d [] (inr (inr refl)) (All-nil (OneOf3 a b d))))) h

pub is_on : (settings : Option Settings) (shown : Settings) → settings ≡ Some shown → IsSome settings
is_on settings shown e = subst (λ (o : Option Settings). IsSome o) (sym e) refl

-- a session that begins has no post
begun_replay : (before after : PortValue) (mac : Mac) (n : List (List ℕ)) → BeginsSession before mac after
    → replay_of (Some after) n ≡ record { settings = Some (first_settings mac); lengths = []; sessions = length before.drop_counts + 1; frames = n }
begun_replay before after mac n h =
    ap (λ s. replay_with s after.posts (length after.drop_counts) n) h.opened
    ∙ ap (λ (s : Session). record { settings = Some (first_settings mac); lengths = map post_len s.posts; sessions = length after.drop_counts; frames = n }) h.empty
    ∙ ap (λ (k : ℕ). record { settings = Some (first_settings mac); lengths = []; sessions = k; frames = n })
    (ap (λ (l : List ℕ). length l) h.counts ∙ length-append before.drop_counts (0 ∷ []))

pub registers_replay : (list queue filters : ℕ) (mac : Mac) (seat : PortSeat) (answer : LanAnswer) (before after : PortValue) → before.slots ≡ seat.slots
    → IsOpening list queue filters mac seat → Registers list queue filters mac answer before after
    → Moves (λ old new. OpenSays mac old.settings (outcomes.Code answer.code) old new) before after
registers_replay list queue filters mac seat answer before after slots may h = record {
  unit = by_unit (one_of3 Success Parameter Resource answer.code h.plain.code);
  says = λ n. subst (λ (o : Option Settings). OpenSays mac o (outcomes.Code answer.code) (replay_of (Some before) n) (replay_of (Some after) n)) refl
      (by n before.settings refl);
}
  where
    asked : IsRegistration list queue filters mac before
    asked = record { list_at = may.list_at; filters_at = may.filters_at; valid = may.valid; long = may.long ∙ ap (λ n. 16 * n) (sym slots); own = may.own }

    by_unit : (answer.code ≡ Success) ⊎ ((answer.code ≡ Parameter) ⊎ (answer.code ≡ Resource)) → after.unit ≡ before.unit
    by_unit (inl e) = ap (λ (p : PortValue). p.unit) (h.success e).rest
    by_unit (inr (inl e)) = ap (λ (p : PortValue). p.unit) (h.refused (λ f. cc (e, f)))
    by_unit (inr (inr e)) = ap (λ (p : PortValue). p.unit) (h.refused (λ f. cc (e, f)))

    by : (n : List (List ℕ)) (o : Option Settings) → before.settings ≡ o → OpenSays mac o (outcomes.Code answer.code) (replay_of (Some before) n) (replay_of (Some after) n)
    by n None e = closed (one_of3 Success Parameter Resource answer.code h.plain.code)
      where
        closed : (answer.code ≡ Success) ⊎ ((answer.code ≡ Parameter) ⊎ (answer.code ≡ Resource))
            → OpenSays mac None (outcomes.Code answer.code) (replay_of (Some before) n) (replay_of (Some after) n)
        closed (inl f) = record { outcome_is = ap (λ (x : Hrc). outcomes.Code x) f; left_is = begun_replay before after mac n (h.success f) }
        closed (inr (inl f)) = absurd (h.parameter.0 f asked)
        closed (inr (inr f)) = absurd (shut before.settings e (h.resource.0 f).1)
    by n (Some settings) e =
        let code : answer.code ≡ Resource = h.resource.1 (asked, is_on before.settings settings e) in
        record { outcome_is = ap (λ (x : Hrc). outcomes.Code x) code; left_is = (stays_equal before after (h.refused (λ f. cc (code, f)))).says n }

pub frees_replay : (answer : LanAnswer) (before after : PortValue) → Frees answer before after
    → Moves (λ old new. CloseSays old.settings (outcomes.Code answer.code) old new) before after
frees_replay answer before after h = record { unit = ap (λ (p : PortValue). p.unit) h.done; says = λ n. by n before.settings refl }
  where
    left : (n : List (List ℕ)) → replay_of (Some after) n ≡ record (replay_of (Some before) n) { settings = None }
    left n = ap (λ (p : PortValue). replay_of (Some p) n) h.done

    by : (n : List (List ℕ)) (o : Option Settings) → before.settings ≡ o → CloseSays o (outcomes.Code answer.code) (replay_of (Some before) n) (replay_of (Some after) n)
    by n None e = record {
      outcome_is = ap (λ (x : Hrc). outcomes.Code x) (h.parameter.1 e);
      left_is = left n ∙ ap (λ s. replay_with s before.posts (length before.drop_counts) n) (sym e);
    }
    by n (Some settings) e = record { outcome_is = ap (λ (x : Hrc). outcomes.Code x) (freed (one_of2 Success Parameter answer.code h.plain.code)); left_is = left n }
      where
        freed : (answer.code ≡ Success) ⊎ (answer.code ≡ Parameter) → answer.code ≡ Success
        freed (inl f) = f
        freed (inr f) = absurd (shut before.settings (h.parameter.0 f) (is_on before.settings settings e))

-- an address that is not known not to be one of a unit's own is one
own_address : (mac : Mac) → ((IsOwnAddress mac → ⊥) → ⊥) → IsOwnAddress mac
own_address mac not = record { one = λ group. not (λ own. own.one group); some = λ zero. not (λ own. own.some zero) }

pub changes_replay : (mac : Mac) (answer : LanAnswer) (before after : PortValue) → ChangesMac mac answer before after
    → Moves (λ old new. MacSays mac (outcomes.Code answer.code) old new) before after
changes_replay mac answer before after h = by (one_of2 Success Parameter answer.code h.plain.code)
  where
    by : (answer.code ≡ Success) ⊎ (answer.code ≡ Parameter) → Moves (λ old new. MacSays mac (outcomes.Code answer.code) old new) before after
    by (inl e) =
        let set = h.success e in
        let on : IsOpen before = is_on before.settings set.settings set.shown in
        record {
          unit = ap (λ (p : PortValue). p.unit) set.sets;
          says = λ n. inl (
            (on, own_address mac (λ none. absurd (cc (e, h.parameter.1 (λ both. none both.1))))),
            record {
              outcome_is = ap (λ (x : Hrc). outcomes.Code x) e;
              left_is = ap (λ (p : PortValue). replay_of (Some p) n) set.sets
                  ∙ ap (λ (o : Option Settings). replay_with (option_map (λ (settings : Settings). record settings { mac = mac }) o) before.posts (length before.drop_counts) n) (sym set.shown);
            },
          );
        }
    by (inr e) =
        let same = stays_equal before after (h.refused (λ f. cc (e, f))) in
        record { unit = same.unit; says = λ n. inr (h.parameter.0 e, record { outcome_is = ap (λ (x : Hrc). outcomes.Code x) e; left_is = same.says n }) }

pub reserves_stay : (n : ℕ) (answer : Result Unit NoMemory) (before after : PortValue) → Reserves n answer before after → Stays before after
reserves_stay n answer before after h =
    stays_with before after (ap (λ (p : PortValue). p.unit) h.rest) (ap (λ (p : PortValue). p.settings) h.rest) (ap (λ (p : PortValue). p.posts) h.rest)
    (ap (λ (p : PortValue). length p.drop_counts) h.rest)

pub harvests_stay : (answer : Harvest) (before after : PortValue) → Harvests answer before after → Stays before after
harvests_stay (Frame number len correlator) before after h =
    let is = h.frame.reads.rest in
    stays_with before after (ap (λ (p : PortValue). p.unit) is) (ap (λ (p : PortValue). p.settings) is) (ap (λ (p : PortValue). p.posts) is)
    (ap (λ (p : PortValue). length p.drop_counts) is)
harvests_stay (Blank number correlator) before after h =
    let is = h.blank.reads.rest in
    stays_with before after (ap (λ (p : PortValue). p.unit) is) (ap (λ (p : PortValue). p.settings) is) (ap (λ (p : PortValue). p.posts) is)
    (ap (λ (p : PortValue). length p.drop_counts) is)
harvests_stay (Nothing number high) before after h = stays_equal before after h.rest
