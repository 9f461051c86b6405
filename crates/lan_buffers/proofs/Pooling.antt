-- What a change of one pool leaves of the others.
use Rattle.std.proofs.Common.{◌≡◌, ℕ, ◌+◌, ◌-◌, ◌<◌, ◌≤◌, zero, suc, Bool, List, [], ◌∷◌, ◌++◌, length, drop, get_or, set, true, false, true≢false, refl, sym, ◌∙◌, ap, subst, All, Option, Some, None, IfSome, IsSomeAnd, ◌⊎◌, inl, inr, ⊎_elim, arith}
use Rattle.std.proofs.lemmas.Bool.{eq-eqb, ne_eqb, cases_lt}
use Rattle.std.proofs.lemmas.Bool.Decides.{eqb_tells}
use Rattle.std.proofs.lemmas.List.Elements.{All-append}
use Rattle.lan_buffers.specs.Pools.{has_size, with_size}
use Rattle.lan_buffers.specs.Kept.{QueueValue, place_in, waiting_in, AreApart, KeepsQueues, IsLeastOf, IsBetter, PoolsValue, Takes, Adds, waits}

pub by_eqb : (a b : ℕ) (P : Type 0) → (a ≡ b → P) → ((a ≡ b → ⊥) → P) → P
by_eqb a b P f g = ⊎_elim (λ same. f same.1) (λ other. g other.1) (eqb_tells a b)

-- the pool of the first length, and of another
waits_head : (other size : ℕ) (sizes : List ℕ) (queue : QueueValue) (queues : List QueueValue) → other ≡ size → waiting_in (other ∷ sizes) (queue ∷ queues) size ≡ queue.numbers
waits_head other size sizes queue queues e = rw (eq-eqb other size e) refl

waits_tail : (other size : ℕ) (sizes : List ℕ) (queue : QueueValue) (queues : List QueueValue) → (other ≡ size → ⊥) → waiting_in (other ∷ sizes) (queue ∷ queues) size ≡ waiting_in sizes queues size
waits_tail other size sizes queue queues e = rw (ne_eqb other size e) refl

place_head : (other size : ℕ) (sizes : List ℕ) → other ≡ size → place_in size (other ∷ sizes) ≡ 0
place_head other size sizes e = rw (eq-eqb other size e) refl

place_tail : (other size : ℕ) (sizes : List ℕ) → (other ≡ size → ⊥) → place_in size (other ∷ sizes) ≡ suc (place_in size sizes)
place_tail other size sizes e = rw (ne_eqb other size e) refl

has_head : (other size : ℕ) (sizes : List ℕ) → other ≡ size → has_size size (other ∷ sizes) ≡ true
has_head other size sizes e = rw (eq-eqb other size e) refl

has_tail : (other size : ℕ) (sizes : List ℕ) → (other ≡ size → ⊥) → has_size size (other ∷ sizes) ≡ has_size size sizes
has_tail other size sizes e = rw (ne_eqb other size e) refl

-- what waits of a length stands at its place
pub waits_at : (size : ℕ) (sizes : List ℕ) (queues : List QueueValue) (d : QueueValue) → has_size size sizes ≡ true → length sizes ≤ length queues
    → waiting_in sizes queues size ≡ (get_or queues (place_in size sizes) d).numbers
waits_at size [] queues d has fits = absurd (true≢false (sym has))
waits_at size (other ∷ sizes) [] d has fits = absurd (omega (arith, fits))
waits_at size (other ∷ sizes) (queue ∷ queues) d has fits =
    by_eqb other size (waiting_in (other ∷ sizes) (queue ∷ queues) size ≡ (get_or (queue ∷ queues) (place_in size (other ∷ sizes)) d).numbers)
    (λ e. rw (place_head other size sizes e) (waits_head other size sizes queue queues e))
    (λ e. rw (place_tail other size sizes e) (waits_tail other size sizes queue queues e ∙ waits_at size sizes queues d (sym (has_tail other size sizes e) ∙ has) (omega (arith, fits))))

-- of a length that is not among them nothing waits
pub none_waits : (size : ℕ) (sizes : List ℕ) (queues : List QueueValue) → has_size size sizes ≡ false → waiting_in sizes queues size ≡ []
none_waits size [] queues has = refl
none_waits size (other ∷ sizes) [] has = refl
none_waits size (other ∷ sizes) (queue ∷ queues) has =
    by_eqb other size (waiting_in (other ∷ sizes) (queue ∷ queues) size ≡ [])
    (λ e. absurd (true≢false (sym (has_head other size sizes e) ∙ has)))
    (λ e. waits_tail other size sizes queue queues e ∙ none_waits size sizes queues (sym (has_tail other size sizes e) ∙ has))

-- a change of the queue at a length's place
pub waits_set_same : (size : ℕ) (sizes : List ℕ) (queues : List QueueValue) (queue : QueueValue) → has_size size sizes ≡ true → length sizes ≤ length queues
    → waiting_in sizes (set queues (place_in size sizes) queue) size ≡ queue.numbers
waits_set_same size [] queues queue has fits = absurd (true≢false (sym has))
waits_set_same size (other ∷ sizes) [] queue has fits = absurd (omega (arith, fits))
waits_set_same size (other ∷ sizes) (first ∷ queues) queue has fits =
    by_eqb other size (waiting_in (other ∷ sizes) (set (first ∷ queues) (place_in size (other ∷ sizes)) queue) size ≡ queue.numbers)
    (λ e. rw (place_head other size sizes e) (waits_head other size sizes queue queues e))
    (λ e. rw (place_tail other size sizes e) (waits_tail other size sizes first (set queues (place_in size sizes) queue) e
    ∙ waits_set_same size sizes queues queue (sym (has_tail other size sizes e) ∙ has) (omega (arith, fits))))

pub waits_set_other : (size wanted : ℕ) (sizes : List ℕ) (queues : List QueueValue) (queue : QueueValue) → (size ≡ wanted → ⊥)
    → has_size size sizes ≡ true → length sizes ≤ length queues
    → waiting_in sizes (set queues (place_in size sizes) queue) wanted ≡ waiting_in sizes queues wanted
waits_set_other size wanted [] queues queue apart has fits = refl
waits_set_other size wanted (other ∷ sizes) [] queue apart has fits = absurd (omega (arith, fits))
waits_set_other size wanted (other ∷ sizes) (first ∷ queues) queue apart has fits =
    by_eqb other size (waiting_in (other ∷ sizes) (set (first ∷ queues) (place_in size (other ∷ sizes)) queue) wanted ≡ waiting_in (other ∷ sizes) (first ∷ queues) wanted)
    (λ e. let differs : other ≡ wanted → ⊥ = λ f. apart (sym e ∙ f) in
    rw (place_head other size sizes e) (waits_tail other wanted sizes queue queues differs ∙ sym (waits_tail other wanted sizes first queues differs)))
    (λ e. rw (place_tail other size sizes e) (by_eqb other wanted (waiting_in (other ∷ sizes) (first ∷ set queues (place_in size sizes) queue) wanted ≡ waiting_in (other ∷ sizes) (first ∷ queues) wanted)
    (λ f. waits_head other wanted sizes first (set queues (place_in size sizes) queue) f ∙ sym (waits_head other wanted sizes first queues f))
    (λ f. waits_tail other wanted sizes first (set queues (place_in size sizes) queue) f
    ∙ waits_set_other size wanted sizes queues queue apart (sym (has_tail other size sizes e) ∙ has) (omega (arith, fits))
    ∙ sym (waits_tail other wanted sizes first queues f))))

-- a new length behind the others, whose queue is empty
last_waits : (size wanted : ℕ) (queues : List QueueValue) → ((d : QueueValue) → (get_or queues 0 d).numbers ≡ []) → waiting_in (size ∷ []) queues wanted ≡ []
last_waits size wanted [] empty = refl
last_waits size wanted (queue ∷ queues) empty =
    by_eqb size wanted (waiting_in (size ∷ []) (queue ∷ queues) wanted ≡ [])
    (λ e. waits_head size wanted [] queue queues e ∙ empty queue) (λ e. waits_tail size wanted [] queue queues e)

pub waits_new : (size wanted : ℕ) (sizes : List ℕ) (queues : List QueueValue) → ((d : QueueValue) → (get_or queues (length sizes) d).numbers ≡ [])
    → waiting_in (sizes ++ size ∷ []) queues wanted ≡ waiting_in sizes queues wanted
waits_new size wanted [] queues empty = last_waits size wanted queues empty
waits_new size wanted (other ∷ sizes) [] empty = refl
waits_new size wanted (other ∷ sizes) (queue ∷ queues) empty =
    by_eqb other wanted (waiting_in (other ∷ (sizes ++ size ∷ [])) (queue ∷ queues) wanted ≡ waiting_in (other ∷ sizes) (queue ∷ queues) wanted)
    (λ e. waits_head other wanted (sizes ++ size ∷ []) queue queues e ∙ sym (waits_head other wanted sizes queue queues e))
    (λ e. waits_tail other wanted (sizes ++ size ∷ []) queue queues e ∙ waits_new size wanted sizes queues empty ∙ sym (waits_tail other wanted sizes queue queues e))

pub place_new : (size : ℕ) (sizes : List ℕ) → has_size size sizes ≡ false → place_in size (sizes ++ size ∷ []) ≡ length sizes
place_new size [] has = place_head size size [] refl
place_new size (other ∷ sizes) has =
    by_eqb other size (place_in size (other ∷ (sizes ++ size ∷ [])) ≡ suc (length sizes))
    (λ e. absurd (true≢false (sym (has_head other size sizes e) ∙ has)))
    (λ e. place_tail other size (sizes ++ size ∷ []) e ∙ ap suc (place_new size sizes (sym (has_tail other size sizes e) ∙ has)))

pub has_new : (size : ℕ) (sizes : List ℕ) → has_size size (sizes ++ size ∷ []) ≡ true
has_new size [] = has_head size size [] refl
has_new size (other ∷ sizes) =
    by_eqb other size (has_size size (other ∷ (sizes ++ size ∷ [])) ≡ true)
    (λ e. has_head other size (sizes ++ size ∷ []) e)
    (λ e. has_tail other size (sizes ++ size ∷ []) e ∙ has_new size sizes)

has_other : (size wanted : ℕ) (sizes : List ℕ) → (size ≡ wanted → ⊥) → has_size wanted (sizes ++ size ∷ []) ≡ has_size wanted sizes
has_other size wanted [] apart = has_tail size wanted [] apart
has_other size wanted (other ∷ sizes) apart =
    by_eqb other wanted (has_size wanted (other ∷ (sizes ++ size ∷ [])) ≡ has_size wanted (other ∷ sizes))
    (λ e. has_head other wanted (sizes ++ size ∷ []) e ∙ sym (has_head other wanted sizes e))
    (λ e. has_tail other wanted (sizes ++ size ∷ []) e ∙ has_other size wanted sizes apart ∙ sym (has_tail other wanted sizes e))

pub apart_new : (size : ℕ) (sizes : List ℕ) → AreApart sizes → has_size size sizes ≡ false → AreApart (sizes ++ size ∷ [])
apart_new size [] apart has = (refl, tt)
apart_new size (other ∷ sizes) apart has =
    by_eqb other size (AreApart (other ∷ (sizes ++ size ∷ [])))
    (λ e. absurd (true≢false (sym (has_head other size sizes e) ∙ has)))
    (λ e. (has_other size other sizes (λ f. e (sym f)) ∙ apart.0, apart_new size sizes apart.1 (sym (has_tail other size sizes e) ∙ has)))

-- each length is among them
own_has : (sizes : List ℕ) (k d : ℕ) → k < length sizes → has_size (get_or sizes k d) sizes ≡ true
own_has [] k d within = absurd (omega (arith, within))
own_has (size ∷ sizes) zero d within = has_head size size sizes refl
own_has (size ∷ sizes) (suc k) d within =
    by_eqb size (get_or sizes k d) (has_size (get_or sizes k d) (size ∷ sizes) ≡ true)
    (λ e. has_head size (get_or sizes k d) sizes e)
    (λ e. has_tail size (get_or sizes k d) sizes e ∙ own_has sizes k d (omega (arith, within)))

-- each length stands at its own place
pub own_place : (sizes : List ℕ) (k d : ℕ) → AreApart sizes → k < length sizes → place_in (get_or sizes k d) sizes ≡ k
own_place [] k d apart within = absurd (omega (arith, within))
own_place (size ∷ sizes) zero d apart within = place_head size size sizes refl
own_place (size ∷ sizes) (suc k) d apart within =
    let own = get_or sizes k d in
    place_tail size own sizes (λ e. true≢false (sym (own_has sizes k d (omega (arith, within))) ∙ (ap (λ s. has_size s sizes) (sym e) ∙ apart.0)))
    ∙ ap suc (own_place sizes k d apart.1 (omega (arith, within)))

-- a length that is among them is that at its place
pub at_own_place : (size : ℕ) (sizes : List ℕ) (d : ℕ) → has_size size sizes ≡ true → get_or sizes (place_in size sizes) d ≡ size
at_own_place size [] d has = absurd (true≢false (sym has))
at_own_place size (other ∷ sizes) d has =
    by_eqb other size (get_or (other ∷ sizes) (place_in size (other ∷ sizes)) d ≡ size)
    (λ e. rw (place_head other size sizes e) e)
    (λ e. rw (place_tail other size sizes e) (at_own_place size sizes d (sym (has_tail other size sizes e) ∙ has)))

-- a length of which a number waits is among them
pub waits_among : (size : ℕ) (sizes : List ℕ) (queues : List QueueValue) → 1 ≤ length (waiting_in sizes queues size) → has_size size sizes ≡ true
waits_among size sizes queues some = by_case (has_size size sizes) refl
  where
    by_case : (b : Bool) → has_size size sizes ≡ b → has_size size sizes ≡ true
    by_case true e = e
    by_case false e = absurd (omega (arith, some, ap length (none_waits size sizes queues e)))

pub place_within : (size : ℕ) (sizes : List ℕ) → has_size size sizes ≡ true → place_in size sizes < length sizes
place_within size [] has = absurd (true≢false (sym has))
place_within size (other ∷ sizes) has =
    by_eqb other size (place_in size (other ∷ sizes) < length (other ∷ sizes))
    (λ e. rw (place_head other size sizes e) (omega arith))
    (λ e. rw (place_tail other size sizes e) (omega (arith, place_within size sizes (sym (has_tail other size sizes e) ∙ has))))

pub waits_own : (sizes : List ℕ) (queues : List QueueValue) (spare k d : ℕ) (e : QueueValue) → KeepsQueues sizes queues spare → length sizes ≤ 8 → k < length sizes
    → waiting_in sizes queues (get_or sizes k d) ≡ (get_or queues k e).numbers
waits_own sizes queues spare k d e kept few within =
    let place : place_in (get_or sizes k d) sizes ≡ k = own_place sizes k d kept.apart within in
    waits_at (get_or sizes k d) sizes queues e (own_has sizes k d within) (omega (arith, few, kept.eight))
    ∙ ap (λ p. (get_or queues p e).numbers) place

nil_of_length : (xs : List ℕ) → (1 ≤ length xs → ⊥) → xs ≡ []
nil_of_length [] none = refl
nil_of_length (x ∷ xs) none = absurd (none (omega arith))

below_or_last : (k n : ℕ) → k < n + 1 → (k < n) ⊎ (k ≡ n)
below_or_last k n lt = ⊎_elim (λ below. inl below) (λ le. inr (omega (arith, lt, le))) (cases_lt k n)

-- one length more, which is better than the best of before
pub least_better : (need : ℕ) (w : ℕ → List ℕ) (sizes : List ℕ) (n size : ℕ) (best : Option ℕ) → IsLeastOf need w sizes n best
    → ((d : ℕ) → get_or sizes n d ≡ size) → IsBetter (w size) need size best → IsLeastOf need w sizes (n + 1) (Some size)
least_better need w sizes n size best before here better = record {
  found = (better.fits, better.waits);
  least = λ k d lt fits some. ⊎_elim
      (λ below. under best (get_or sizes k d) better.below (before.least k d below fits some))
      (λ last. let e : get_or sizes k d ≡ size = ap (λ i. get_or sizes i d) last ∙ here d in omega (arith, e))
      (below_or_last k n lt);
}
  where
    under : (best : Option ℕ) (other : ℕ) → IfSome best (λ b. size < b) → IsSomeAnd best (λ b. b ≤ other) → size ≤ other
    under None other below least = absurd least
    under (Some b) other below least = omega (arith, below, least)

-- one length more, which is no better
pub least_other : (need : ℕ) (w : ℕ → List ℕ) (sizes : List ℕ) (n size : ℕ) (best : Option ℕ) → IsLeastOf need w sizes n best
    → ((d : ℕ) → get_or sizes n d ≡ size) → (IsBetter (w size) need size best → ⊥) → IsLeastOf need w sizes (n + 1) best
least_other need w sizes n size best before here worse = record {
  found = before.found;
  least = λ k d lt fits some. ⊎_elim
      (λ below. before.least k d below fits some)
      (λ last. let e : get_or sizes k d ≡ size = ap (λ i. get_or sizes i d) last ∙ here d in
      subst (λ s. IsSomeAnd best (λ b. b ≤ s)) (sym e) (not_below best
      (λ below. worse (record { fits = subst (λ s. need ≤ s) e fits; waits = subst (λ s. 1 ≤ length (w s)) e some; below = below }))))
      (below_or_last k n lt);
}
  where
    not_below : (best : Option ℕ) → (IfSome best (λ b. size < b) → ⊥) → IsSomeAnd best (λ b. b ≤ size)
    not_below None none = absurd (none tt)
    not_below (Some b) none = ⊎_elim (λ lt. absurd (none lt)) (λ le. le) (cases_lt size b)

-- what the best of all lengths says
pub least_some : (need : ℕ) (sizes : List ℕ) (queues : List QueueValue) (best other : ℕ) → IsLeastOf need (waiting_in sizes queues) sizes (length sizes) (Some best)
    → need ≤ other → other < best → waiting_in sizes queues other ≡ []
least_some need sizes queues best other all fits below = nil_of_length (waiting_in sizes queues other)
    (λ some.
    let has = waits_among other sizes queues some in
    let e : get_or sizes (place_in other sizes) 0 ≡ other = at_own_place other sizes 0 has in
    let least : best ≤ get_or sizes (place_in other sizes) 0 = all.least (place_in other sizes) 0 (place_within other sizes has)
    (subst (λ s. need ≤ s) (sym e) fits) (subst (λ s. 1 ≤ length (waiting_in sizes queues s)) (sym e) some) in
    omega (arith, least, e, below))

pub least_none : (need : ℕ) (sizes : List ℕ) (queues : List QueueValue) (other : ℕ) → IsLeastOf need (waiting_in sizes queues) sizes (length sizes) None
    → need ≤ other → waiting_in sizes queues other ≡ []
least_none need sizes queues other all fits = nil_of_length (waiting_in sizes queues other)
    (λ some.
    let has = waits_among other sizes queues some in
    let e : get_or sizes (place_in other sizes) 0 ≡ other = at_own_place other sizes 0 has in
    all.least (place_in other sizes) 0 (place_within other sizes has)
    (subst (λ s. need ≤ s) (sym e) fits) (subst (λ s. 1 ≤ length (waiting_in sizes queues s)) (sym e) some))

-- queues of the same numbers
pub waits_alike : (size : ℕ) (sizes : List ℕ) (queues others : List QueueValue) → length queues ≡ length others
    → ((place : ℕ) (d : QueueValue) → (get_or queues place d).numbers ≡ (get_or others place d).numbers)
    → waiting_in sizes queues size ≡ waiting_in sizes others size
waits_alike size [] queues others len alike = refl
waits_alike size (other ∷ sizes) [] [] len alike = refl
waits_alike size (other ∷ sizes) [] (o ∷ others) len alike = absurd (omega (arith, len))
waits_alike size (other ∷ sizes) (q ∷ queues) [] len alike = absurd (omega (arith, len))
waits_alike size (other ∷ sizes) (q ∷ queues) (o ∷ others) len alike =
    by_eqb other size (waiting_in (other ∷ sizes) (q ∷ queues) size ≡ waiting_in (other ∷ sizes) (o ∷ others) size)
    (λ e. waits_head other size sizes q queues e ∙ alike 0 q ∙ sym (waits_head other size sizes o others e))
    (λ e. waits_tail other size sizes q queues e ∙ waits_alike size sizes queues others (omega (arith, len)) (λ place d. alike (suc place) d)
    ∙ sym (waits_tail other size sizes o others e))

-- a length whose place is behind the others is not among them
pub absent_at : (size : ℕ) (sizes : List ℕ) → place_in size sizes ≡ length sizes → has_size size sizes ≡ false
absent_at size sizes last = by_case (has_size size sizes) refl
  where
    by_case : (b : Bool) → has_size size sizes ≡ b → has_size size sizes ≡ false
    by_case true e = absurd (omega (arith, last, place_within size sizes e))
    by_case false e = e

pub all_push : {X : Type 0} (P : X → Type 0) (xs : List X) (x : X) → All P xs → P x → All P (xs ++ x ∷ [])
all_push {X} P xs x all one = All-append P xs (x ∷ []) all alone
  where
    alone : All P (x ∷ [])
    alone zero d lt = one
    alone (suc k) d lt = absurd (omega (arith, lt))

-- the queue at the place of a length that is among them
pub queue_at : (sizes : List ℕ) (queues : List QueueValue) (spare size place : ℕ) (queue : QueueValue) → KeepsQueues sizes queues spare → length sizes ≤ 8
    → place ≡ place_in size sizes → has_size size sizes ≡ true → queue ≡ get_or queues place queue
    → waiting_in sizes queues size ≡ queue.numbers
queue_at sizes queues spare size place queue kept few is has found =
    waits_at size sizes queues queue has (omega (arith, few, kept.eight))
    ∙ ap (λ p. (get_or queues p queue).numbers) (sym is)
    ∙ ap (λ (q : QueueValue). q.numbers) (sym found)

-- what the taking of a number leaves
pub takes_at : (sizes : List ℕ) (queues : List QueueValue) (spare size place : ℕ) (old new : QueueValue) → KeepsQueues sizes queues spare → length sizes ≤ 8
    → place ≡ place_in size sizes → has_size size sizes ≡ true → old ≡ get_or queues place old → new.numbers ≡ drop 1 old.numbers
    → Takes (record { sizes = sizes; queues = queues; spare = spare }) size (record { sizes = sizes; queues = set queues place new; spare = spare })
takes_at sizes queues spare size place old new kept few is has found taken =
    subst (λ p. Takes (record { sizes = sizes; queues = queues; spare = spare }) size (record { sizes = sizes; queues = set queues p new; spare = spare })) (sym is)
    (record {
      sizes = refl;
      taken = waits_set_same size sizes queues new has (omega (arith, few, kept.eight)) ∙ taken
          ∙ ap (λ (xs : List ℕ). drop 1 xs) (sym (queue_at sizes queues spare size place old kept few is has found));
      others = λ other apart. waits_set_other size other sizes queues new apart has (omega (arith, few, kept.eight));
      spare = refl;
    })

-- what an added number leaves
pub adds_at : (before : PoolsValue) (sizes : List ℕ) (queues : List QueueValue) (spare size number place : ℕ) (old new : QueueValue) → KeepsQueues sizes queues spare
    → length sizes ≤ 8 → place ≡ place_in size sizes → has_size size sizes ≡ true → old ≡ get_or queues place old → new.numbers ≡ old.numbers ++ number ∷ []
    → sizes ≡ with_size size before.sizes → ((other : ℕ) → waiting_in sizes queues other ≡ waits before other) → spare ≡ before.spare → 1 ≤ spare
    → Adds before size number (record { sizes = sizes; queues = set queues place new; spare = spare - 1 })
adds_at before sizes queues spare size number place old new kept few is has found added with_it alike same some =
    subst (λ p. Adds before size number (record { sizes = sizes; queues = set queues p new; spare = spare - 1 })) (sym is)
    (record {
      sizes = with_it;
      added = waits_set_same size sizes queues new has (omega (arith, few, kept.eight)) ∙ added
          ∙ ap (λ (xs : List ℕ). xs ++ number ∷ []) (sym (queue_at sizes queues spare size place old kept few is has found) ∙ alike size);
      others = λ other apart. waits_set_other size other sizes queues new apart has (omega (arith, few, kept.eight)) ∙ alike other;
      spare = omega (arith, same, some);
    })

pub same_read : (xs : List ℕ) (i d e : ℕ) → i < length xs → get_or xs i d ≡ get_or xs i e
same_read [] i d e within = absurd (omega (arith, within))
same_read (x ∷ xs) zero d e within = refl
same_read (x ∷ xs) (suc i) d e within = same_read xs i d e (omega (arith, within))

-- a length that is among small ones is small
pub small_among : (need size : ℕ) (sizes : List ℕ) → All (λ other. other < need) sizes → has_size size sizes ≡ true → size < need
small_among need size sizes small has =
    subst (λ s. s < need) (at_own_place size sizes 0 has) (small (place_in size sizes) 0 (place_within size sizes has))
