-- Turns that leave clients as they were.
use Rattle.std.proofs.Common.{◌≡◌, ◌≢◌, ◌∙◌, ◌⊎◌, inl, inr, ℕ, ◌≤◌, List, Option, Some, None, IsSomeAnd, slice_get, slice_set, refl, sym, ap, subst, arith}
use Rattle.std.proofs.lemmas.Option.{slice_get_within}
use Rattle.vcpu_run.specs.declared.pair.Pair.{Pair}
use Rattle.vcpu_run.specs.EventsMade.{events_at}
use Rattle.vcpu_run.specs.LinesShow.{seen_at}
use Rattle.vcpu_run.specs.ScriptTold.{SameClient, SameClients}
use Rattle.vcpu_run.proofs.ClientsLay.{own_still, own_still_then}
use Rattle.vcpu_run.proofs.LinesShown.{sees_on, sees_same}
use Rattle.vcpu_run.proofs.DropsKept.{more_on, more_same}
use Rattle.vcpu_run.proofs.Driving.{get_set_other, get_set_same, same_or, some_is}

client_same : (pair : Pair) → SameClient pair pair
client_same pair = record { driver = refl; pages = refl; queue = refl; taken = refl; unit = refl; sees = sees_same (seen_at pair); own = own_still pair; server = refl; values = refl; puts = more_same pair; calm = omega arith }

pub clients_same : (pairs : List Pair) → SameClients pairs pairs
clients_same pairs k after there = subst (λ (o : Option Pair). IsSomeAnd o (λ before. SameClient before after)) (sym there) (client_same after)

pub clients_on : (a b c : List Pair) → SameClients a b → SameClients b c → SameClients a c
clients_on a b c first next k after there = at (slice_get b k) refl (next k after there)
  where
    last : (o : Option Pair) (mid : Pair) → IsSomeAnd o (λ before. SameClient before mid) → SameClient mid after → IsSomeAnd o (λ before. SameClient before after)
    last None mid x y = absurd x
    last (Some before) mid x y = record {
      driver = y.driver ∙ x.driver;
      pages = y.pages ∙ x.pages;
      queue = y.queue ∙ x.queue;
      taken = y.taken ∙ x.taken;
      unit = y.unit ∙ x.unit;
      sees = sees_on (seen_at before) (seen_at mid) (seen_at after) x.sees y.sees;
      own = own_still_then before mid after x.unit x.own y.own;
      server = y.server ∙ x.server;
      values = y.values ∙ x.values;
      puts = more_on before mid after x.puts y.puts;
      calm = let first : events_at mid ≤ events_at before = x.calm in
          let next : events_at after ≤ events_at mid = y.calm in
          omega (arith, first, next);
    }

    at : (o : Option Pair) → slice_get b k ≡ o → IsSomeAnd o (λ before. SameClient before after) → IsSomeAnd (slice_get a k) (λ before. SameClient before after)
    at None e h = absurd h
    at (Some mid) e h = last (slice_get a k) mid (first k mid e) h

pub clients_set : (pairs : List Pair) (i : ℕ) (old new : Pair) → slice_get pairs i ≡ Some old → SameClient old new → SameClients pairs (slice_set pairs i new)
clients_set pairs i old new here same k after there = at (same_or k i)
  where
    at : (k ≡ i) ⊎ (k ≢ i) → IsSomeAnd (slice_get pairs k) (λ before. SameClient before after)
    at (inl e) =
        let now : after ≡ new = some_is after new (sym there ∙ (ap (slice_get (slice_set pairs i new)) e ∙ get_set_same pairs i new (slice_get_within pairs i old here))) in
        subst (λ (o : Option Pair). IsSomeAnd o (λ before. SameClient before after)) (sym (ap (slice_get pairs) e ∙ here)) (subst (SameClient old) (sym now) same)
    at (inr apart) = subst (λ (o : Option Pair). IsSomeAnd o (λ before. SameClient before after)) (sym there ∙ get_set_other pairs i k new apart) (client_same after)
