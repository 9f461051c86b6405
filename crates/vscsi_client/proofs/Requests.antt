-- Where the unit of an outstanding request lies, and the requests without one.
use Rattle.std.proofs.Common.{◌≡◌, ◌∙◌, ℕ, zero, suc, ◌+◌, ◌-◌, ◌<◌, ◌≤◌, ◌==◌, Bool, true, false, List, [], ◌∷◌, Option, Some, None, IsSome, All, Contains, find, position, remove, get_or, cond, refl, sym, ap, subst, arith, length, min, not, nat_lt}
use Rattle.std.specs.List.{position_or_len}
use Rattle.std.proofs.lemmas.Bool.Decides.{nat_tests}
use Rattle.std.specs.Option.{option_map}
use Rattle.std.proofs.lemmas.List.Elements.{All-head, All-tail, All-cons}
use Rattle.std.proofs.lemmas.List.Quantifiers.{position-Some}
use Rattle.srp_credits.specs.History.{without}
use Rattle.srp_credits.specs.Initiator.{InitiatorCredits, HasHistory, IsCapped}
use Rattle.srp_credits.proofs.Laws.{length-without}
use Rattle.vscsi_client.specs.declared.outgoing.Outgoing.{Outgoing}
use Rattle.vscsi_client.specs.State.{tags_of, granted_of}
use Rattle.vscsi_client.specs.Taking.{slot_of, without_tag}

pub slot_within : (tag : ℕ) (os : List Outgoing) (slot : ℕ) → All (λ (o : Outgoing). o.slot < 200) os → slot_of tag os ≡ Some slot → slot < 200
slot_within tag [] slot all is = absurd (cc)
slot_within tag (o ∷ os) slot all is = at (o.tag == tag) (slot_within tag os slot (All-tail (λ (x : Outgoing). x.slot < 200) o os all)) is
  where
    at : (b : Bool) → (slot_of tag os ≡ Some slot → slot < 200) → option_map (λ (x : Outgoing). x.slot) (cond b (Some o) (find (λ (x : Outgoing). x.tag == tag) os)) ≡ Some slot → slot < 200
    at true later e = let s : o.slot ≡ slot = cc in subst (λ n. n < 200) s (All-head (λ (x : Outgoing). x.slot < 200) o os all)
    at false later e = later e

same_tag : (x y : ℕ) → (x == y) ≡ true → x ≡ y
same_tag x y e = grind (arith, nat_tests)

contains_cons : (x y : ℕ) (xs : List ℕ) → Contains xs y → Contains (x ∷ xs) y
contains_cons x y xs c = (suc c.0, omega (arith, c.1), c.2)

-- a request that has a slot is outstanding
pub tag_there : (tag : ℕ) (os : List Outgoing) → IsSome (slot_of tag os) → Contains (tags_of os) tag
tag_there tag [] is = absurd (cc)
tag_there tag (o ∷ os) is = at (o.tag == tag) refl (tag_there tag os) is
  where
    at : (b : Bool) → (o.tag == tag) ≡ b → (IsSome (slot_of tag os) → Contains (tags_of os) tag)
        → IsSome (option_map (λ (x : Outgoing). x.slot) (cond b (Some o) (find (λ (x : Outgoing). x.tag == tag) os))) → Contains (o.tag ∷ tags_of os) tag
    at true same later e = (0, omega arith, same_tag o.tag tag same)
    at false same later e = contains_cons o.tag tag (tags_of os) (later e)

-- the tags without that one
pub tags-without : (tag : ℕ) (os : List Outgoing) → tags_of (without_tag tag os) ≡ without tag (tags_of os)
tags-without tag [] = refl
tags-without tag (o ∷ os) = at (o.tag == tag) (tags-without tag os)
  where
    at : (b : Bool) → tags_of (without_tag tag os) ≡ without tag (tags_of os) → tags_of (cond b os (o ∷ without_tag tag os)) ≡ cond b (tags_of os) (o.tag ∷ without tag (tags_of os))
    at true e = refl
    at false e = ap (λ ts. o.tag ∷ ts) e

pub All-without_tag : (P : Outgoing → Type 0) (tag : ℕ) (os : List Outgoing) → All P os → All P (without_tag tag os)
All-without_tag P tag [] all = all
All-without_tag P tag (o ∷ os) all = at (o.tag == tag) (All-without_tag P tag os (All-tail P o os all))
  where
    at : (b : Bool) → All P (without_tag tag os) → All P (cond b os (o ∷ without_tag tag os))
    at true rest = All-tail P o os all
    at false rest = All-cons P o (without_tag tag os) (All-head P o os all) rest

pub All-without : (P : ℕ → Type 0) (tag : ℕ) (ts : List ℕ) → All P ts → All P (without tag ts)
All-without P tag [] all = all
All-without P tag (t ∷ ts) all = at (t == tag) (All-without P tag ts (All-tail P t ts all))
  where
    at : (b : Bool) → All P (without tag ts) → All P (cond b ts (t ∷ without tag ts))
    at true rest = All-tail P t ts all
    at false rest = All-cons P t (without tag ts) (All-head P t ts all) rest

-- taking out the first place that has the tag
remove_first : (tag : ℕ) (d : Outgoing) (os : List Outgoing) (i : ℕ) → i < length os → ((get_or os i d).tag == tag) ≡ true
    → ((k : ℕ) → k < i → ((get_or os k d).tag == tag) ≡ false) → remove os i ≡ without_tag tag os
remove_first tag d [] i h e n = absurd (omega arith)
remove_first tag d (o ∷ os) zero h e n = rw e refl
remove_first tag d (o ∷ os) (suc i) h e n =
    let other : (o.tag == tag) ≡ false = n 0 (omega arith) in
    rw other (ap (λ (ys : List Outgoing). o ∷ ys) (remove_first tag d os i (omega arith) e (λ k l. n (suc k) (omega arith))))

pub removed_at : (tag k : ℕ) (d : Outgoing) (os : List Outgoing) → Some k ≡ position (λ (o : Outgoing). o.tag == tag) os → remove os k ≡ without_tag tag os
removed_at tag k d os e =
    let at = position-Some (λ (o : Outgoing). o.tag == tag) os k d (sym e) in
    remove_first tag d os k at.0 at.1 at.2

-- one credit for each answer: the credits of the login stay as they are
pub granted_kept : (old new : InitiatorCredits) (tag : ℕ) → HasHistory old → Contains old.tags tag → new.tags ≡ without tag old.tags
    → new.limit ≡ option_map (λ n. min (n + 1) (200 - length new.tags)) old.limit → granted_of new ≡ granted_of old
granted_kept old new tag history there tags limit =
    ap (option_map (λ n. n + length new.tags)) limit ∙ by old.limit history.capped
  where
    one_less : length new.tags + 1 ≡ length old.tags
    one_less = omega (arith, ap length tags, length-without tag old.tags there)

    by : (l : Option ℕ) → IsCapped (record { limit = l; tags = old.tags }) → option_map (λ n. n + length new.tags) (option_map (λ n. min (n + 1) (200 - length new.tags)) l) ≡ option_map (λ n. n + length old.tags) l
    by None h = refl
    by (Some n) h = let e : min (n + 1) (200 - length new.tags) + length new.tags ≡ n + length old.tags = omega (arith, one_less, h) in ap Some e

stays : (tag : ℕ) (os : List Outgoing) → length os ≤ position_or_len (λ (o : Outgoing). o.tag == tag) os → without_tag tag os ≡ os
stays tag [] h = refl
stays tag (o ∷ os) h = at (o.tag == tag) (stays tag os) h
  where
    at : (b : Bool) → (length os ≤ position_or_len (λ (x : Outgoing). x.tag == tag) os → without_tag tag os ≡ os)
        → length (o ∷ os) ≤ cond (not b) (1 + position_or_len (λ (x : Outgoing). x.tag == tag) os) 0 → cond b os (o ∷ without_tag tag os) ≡ o ∷ os
    at true later e = absurd (omega arith)
    at false later e = ap (λ (ys : List Outgoing). o ∷ ys) (later (omega arith))

pub not_there : (tag : ℕ) (os : List Outgoing) → None ≡ position (λ (o : Outgoing). o.tag == tag) os → without_tag tag os ≡ os
not_there tag os e = stays tag os (past (nat_lt (position_or_len (λ (o : Outgoing). o.tag == tag) os) (length os)) refl e)
  where
    past : (b : Bool) → nat_lt (position_or_len (λ (o : Outgoing). o.tag == tag) os) (length os) ≡ b
        → None ≡ cond b (Some (position_or_len (λ (o : Outgoing). o.tag == tag) os)) None → length os ≤ position_or_len (λ (o : Outgoing). o.tag == tag) os
    past true is none = absurd (cc)
    past false is none = grind (arith, nat_tests)
