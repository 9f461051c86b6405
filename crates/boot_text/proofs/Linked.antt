-- Server units and their clients by names: what one unit more leaves of the rules on them.
use Rattle.std.proofs.Common.{◌≡◌, ◌<◌, ℕ, List, [], ◌∷◌, ◌++◌, length, Option, Some, ◌⊎◌, inl, inr, sym, ap, ◌∙◌, subst}
use Rattle.vio_num.specs.declared.names.UnitId.{UnitId}
use Rattle.vio_num.specs.declared.names.Mac.{Mac}
use Rattle.boot_text.specs.Sound.{unit_at}
use Rattle.boot_text.specs.declared.plan.Partition.{Partition}
use Rattle.boot_text.specs.declared.plan.UnitPlan.{UnitPlan}
use Rattle.boot_text.specs.declared.plan.UnitPlan.TheVariants as units
use Rattle.boot_text.proofs.Units.{kept_at, came_at}

-- The rules on server units and their clients, over the units by their names.
pub record AreLinked (at : UnitId → Option UnitPlan) : Type 0 where
  pub one_home : (a b : UnitId) (q r : ℕ) → at a ≡ Some (units.Server q) → at b ≡ Some (units.Server r) → a.partition ≡ b.partition
  pub served : (id server : UnitId) (pages queue : ℕ) → at id ≡ Some (units.Client server pages queue) → (q : ℕ) × (at server ≡ Some (units.Server q))
  pub earlier : (id server : UnitId) (pages queue : ℕ) → at id ≡ Some (units.Client server pages queue) → server.partition < id.partition
  pub own : (a b server : UnitId) (pages queue pages' queue' : ℕ) → at a ≡ Some (units.Client server pages queue) → at b ≡ Some (units.Client server pages' queue') → a ≡ b

-- One unit more.
pub record Adds (at at' : UnitId → Option UnitPlan) (here : UnitId) (unit : UnitPlan) : Type 0 where
  pub kept : (id : UnitId) (v : UnitPlan) → at id ≡ Some v → at' id ≡ Some v
  pub came : (id : UnitId) (v : UnitPlan) → at' id ≡ Some v → (at id ≡ Some v) ⊎ ((id ≡ here) × (unit ≡ v))

-- a unit more of the last partition
pub unit_added : (ps : List Partition) (p q : Partition) (unit : UnitPlan) → q.units ≡ p.units ++ unit ∷ []
    → Adds (unit_at (ps ++ p ∷ [])) (unit_at (ps ++ q ∷ [])) (record { partition = length ps; unit = length p.units }) unit
unit_added ps p q unit e = record {
  kept = λ id v h. kept_at ps p q unit v id.partition id.unit e h;
  came = λ id v h. place id v (came_at ps p q unit v id.partition id.unit e h);
}
  where
    place : (id : UnitId) (v : UnitPlan) → (unit_at (ps ++ p ∷ []) id ≡ Some v) ⊎ ((id.partition ≡ length ps) × (id.unit ≡ length p.units) × (unit ≡ v))
        → (unit_at (ps ++ p ∷ []) id ≡ Some v) ⊎ ((id ≡ record { partition = length ps; unit = length p.units }) × (unit ≡ v))
    place id v (inl h) = inl h
    place id v (inr h) = inr ((λ i. record { partition = h.0 i; unit = h.1 i }), h.2)

-- another unit than the new one was there
old : {at at' : UnitId → Option UnitPlan} {here : UnitId} {unit : UnitPlan} → Adds at at' here unit → (id : UnitId) (v : UnitPlan) → (unit ≡ v → ⊥) → at' id ≡ Some v → at id ≡ Some v
old {at} {at'} {here} {unit} adds id v other h = go (adds.came id v h)
  where
    go : (at id ≡ Some v) ⊎ ((id ≡ here) × (unit ≡ v)) → at id ≡ Some v
    go (inl e) = e
    go (inr e) = absurd (other e.1)

no_server : (mac : Mac) (pages slots q : ℕ) → units.Lan mac pages slots ≡ units.Server q → ⊥
no_server mac pages slots q e = cc

no_client : (mac : Mac) (pages slots : ℕ) (server : UnitId) (p q : ℕ) → units.Lan mac pages slots ≡ units.Client server p q → ⊥
no_client mac pages slots server p q e = cc

server_no_client : (queue : ℕ) (server : UnitId) (p q : ℕ) → units.Server queue ≡ units.Client server p q → ⊥
server_no_client queue server p q e = cc

client_no_server : (server : UnitId) (pages queue q : ℕ) → units.Client server pages queue ≡ units.Server q → ⊥
client_no_server server pages queue q e = cc

pub port_linked : {at at' : UnitId → Option UnitPlan} {here : UnitId} {mac : Mac} {pages slots : ℕ} → Adds at at' here (units.Lan mac pages slots) → AreLinked at → AreLinked at'
port_linked {at} {at'} {here} {mac} {pages} {slots} adds links = record {
  one_home = λ a b q r x y. links.one_home a b q r (old adds a _ (no_server mac pages slots q) x) (old adds b _ (no_server mac pages slots r) y);
  served = λ id server p q x. (let s = links.served id server p q (old adds id _ (no_client mac pages slots server p q) x) in (s.0, adds.kept server _ s.1));
  earlier = λ id server p q x. links.earlier id server p q (old adds id _ (no_client mac pages slots server p q) x);
  own = λ a b server p q p' q' x y. links.own a b server p q p' q' (old adds a _ (no_client mac pages slots server p q) x) (old adds b _ (no_client mac pages slots server p' q') y);
}

pub server_linked : {at at' : UnitId → Option UnitPlan} {here : UnitId} {queue : ℕ} → Adds at at' here (units.Server queue)
    → ((id : UnitId) (q : ℕ) → at id ≡ Some (units.Server q) → id.partition ≡ here.partition) → AreLinked at → AreLinked at'
server_linked {at} {at'} {here} {queue} adds home links = record {
  one_home = λ a b q r x y. all_home a q (adds.came a _ x) ∙ sym (all_home b r (adds.came b _ y));
  served = λ id server p q x. (let s = links.served id server p q (old adds id _ (server_no_client queue server p q) x) in (s.0, adds.kept server _ s.1));
  earlier = λ id server p q x. links.earlier id server p q (old adds id _ (server_no_client queue server p q) x);
  own = λ a b server p q p' q' x y. links.own a b server p q p' q' (old adds a _ (server_no_client queue server p q) x) (old adds b _ (server_no_client queue server p' q') y);
}
  where
    all_home : (id : UnitId) (q : ℕ) → (at id ≡ Some (units.Server q)) ⊎ ((id ≡ here) × (units.Server queue ≡ units.Server q)) → id.partition ≡ here.partition
    all_home id q (inl e) = home id q e
    all_home id q (inr e) = ap (λ (i : UnitId). i.partition) e.0

same_server : (server other : UnitId) (p q p' q' : ℕ) → units.Client server p q ≡ units.Client other p' q' → server ≡ other
same_server server other p q p' q' e = cc

pub client_linked : {at at' : UnitId → Option UnitPlan} {here server : UnitId} {pages queue : ℕ} → Adds at at' here (units.Client server pages queue)
    → (q : ℕ) × (at server ≡ Some (units.Server q)) → server.partition < here.partition → ((id : UnitId) (p q : ℕ) → at id ≡ Some (units.Client server p q) → ⊥) → AreLinked at → AreLinked at'
client_linked {at} {at'} {here} {server} {pages} {queue} adds there before first links = record {
  one_home = λ a b q r x y. links.one_home a b q r (old adds a _ (client_no_server server pages queue q) x) (old adds b _ (client_no_server server pages queue r) y);
  served = λ id other p q x. server_of id other p q (adds.came id _ x);
  earlier = λ id other p q x. behind id other p q (adds.came id _ x);
  own = λ a b other p q p' q' x y. alone a b other p q p' q' (adds.came a _ x) (adds.came b _ y);
}
  where
    server_of : (id other : UnitId) (p q : ℕ) → (at id ≡ Some (units.Client other p q)) ⊎ ((id ≡ here) × (units.Client server pages queue ≡ units.Client other p q))
        → (r : ℕ) × (at' other ≡ Some (units.Server r))
    server_of id other p q (inl e) = let s = links.served id other p q e in (s.0, adds.kept other _ s.1)
    server_of id other p q (inr e) =
        (there.0, adds.kept other _ (subst (λ (i : UnitId). at i ≡ Some (units.Server there.0)) (same_server server other pages queue p q e.1) there.1))

    behind : (id other : UnitId) (p q : ℕ) → (at id ≡ Some (units.Client other p q)) ⊎ ((id ≡ here) × (units.Client server pages queue ≡ units.Client other p q))
        → other.partition < id.partition
    behind id other p q (inl e) = links.earlier id other p q e
    behind id other p q (inr e) =
        subst (λ (i : UnitId). i.partition < id.partition) (same_server server other pages queue p q e.1)
        (subst (λ (i : UnitId). server.partition < i.partition) (sym e.0) before)

    never : (id other : UnitId) (p q p' q' : ℕ) → at id ≡ Some (units.Client other p q) → units.Client server pages queue ≡ units.Client other p' q' → ⊥
    never id other p q p' q' h e = first id p q (subst (λ (i : UnitId). at id ≡ Some (units.Client i p q)) (sym (same_server server other pages queue p' q' e)) h)

    alone : (a b other : UnitId) (p q p' q' : ℕ) → (at a ≡ Some (units.Client other p q)) ⊎ ((a ≡ here) × (units.Client server pages queue ≡ units.Client other p q))
        → (at b ≡ Some (units.Client other p' q')) ⊎ ((b ≡ here) × (units.Client server pages queue ≡ units.Client other p' q')) → a ≡ b
    alone a b other p q p' q' (inl x) (inl y) = links.own a b other p q p' q' x y
    alone a b other p q p' q' (inl x) (inr y) = absurd (never a other p q p' q' x y.1)
    alone a b other p q p' q' (inr x) (inl y) = absurd (never b other p' q' p q y x.1)
    alone a b other p q p' q' (inr x) (inr y) = x.0 ∙ sym y.0

-- units that stand alike keep the rules
pub links_same : {at at' : UnitId → Option UnitPlan} → ((id : UnitId) → at id ≡ at' id) → AreLinked at → AreLinked at'
links_same h links = subst AreLinked (λ i id. h id i) links
