-- What the steps of a put and of a poll leave together.
use Rattle.std.proofs.Common.{◌≡◌, ℕ, ◌+◌, ◌<◌, ◌≤◌, List, [], ◌∷◌, ◌++◌, length, sym, refl, ap, ◌∙◌, subst, arith}
use Rattle.vio_num.specs.declared.entry.Entry.{Entry}
use Rattle.vio_num.specs.Words.{Begins}
use Rattle.crq_ring.specs.RingSteps.{Seated, own_now, other_now, seated_row, Keeps, KnowsEnded, Probed, Staged, Sent, Looked, Read, Cleared, Zeroed, Sweeps}
use Rattle.crq_ring.specs.Sessions.{of_session}
use Rattle.crq_ring.specs.Window.{entry_of, entry_at, IsFull, IsVacant}
use Rattle.crq_ring.proofs.Fronts.{begins_on, begins_more}
use Rattle.crq_ring.proofs.RingActs.{own_stays, other_stays, then_on}
use Rattle.crq_ring.proofs.Sessions.{of_session-push}

-- the three steps of a put
pub record PutSteps (n : ℕ) (m : Seated) (entry : Entry) (m' : Seated) : Type 0 where
  pub keeps : Keeps m m'
  pub own : m'.0.own ≡ m.0.own ++ seated_row m entry ∷ []
  pub pushed : own_now m' ≡ own_now m ++ entry ∷ []
  pub other : Begins m.0.other m'.0.other
  pub empty_slot : length (own_now m) < length (other_now m') + n
  pub front : Begins (other_now m') (own_now m')
  pub counted : m.0.reads ≤ m'.0.reads

-- one row more of the session
one_more : (m m' : Seated) (e : Entry) → Keeps m m' → m'.0.own ≡ m.0.own ++ seated_row m e ∷ [] → own_now m' ≡ own_now m ++ e ∷ []
one_more m m' e g own = (λ i. of_session (g.session i) (own i)) ∙ of_session-push (seated_row m e) m.0.own

pub put_steps : (n : ℕ) (a b c d : Seated) (high : ℕ) (entry : Entry) → a.0.slots ≡ n → IsVacant high → Probed a high b → Staged b entry.low c → Sent c entry.high d → PutSteps n a entry d
put_steps n a b c d high entry slots vacant p q r = let g : Keeps a d = then_on a b d p.keeps (then_on b c d q.keeps r.keeps) in let h : Keeps a c = then_on a b c p.keeps q.keeps in
    let own : d.0.own ≡ a.0.own ++ seated_row a entry ∷ [] = r.own ∙ (λ i. (q.own ∙ p.own) i ++ record { session = h.session i; entry = entry_of entry.high (q.staged i) } ∷ []) in
    let pushed : own_now d ≡ own_now a ++ entry ∷ [] = one_more a d entry g own in let other : d.0.other ≡ b.0.other = r.other ∙ q.other in
    let others : other_now d ≡ other_now b = other_stays b d (then_on b c d q.keeps r.keeps).session other in let long : length (other_now d) ≡ length (other_now b) = ap length others in
    let room : length (own_now a) < length (other_now b) + a.0.slots = p.vacant vacant in let slots_are : a.0.slots ≡ n = slots in
    let front : Begins (other_now b) (own_now a) = subst (λ l. Begins (other_now b) l) (own_stays a b p.keeps.session p.own) p.front in record {
      keeps = g;
      own = own;
      pushed = pushed;
      other = subst (λ l. Begins a.0.other l) (sym other) p.other;
      empty_slot = omega arith;
      front = subst (λ (z : List Entry × List Entry). Begins z.0 z.1) (λ i. (sym others i, sym pushed i)) (begins_on (other_now b) (own_now a) (own_now a ++ entry ∷ []) front (entry ∷ [], refl));
      counted = omega (arith, p.reads.count, q.reads.count, r.reads.count);
    }

-- the three steps of a poll that finds an entry
pub record PollSteps (m : Seated) (entry : Entry) (m' : Seated) : Type 0 where
  pub keeps : Keeps m m'
  pub own : m'.0.own ≡ m.0.own ++ seated_row m entry ∷ []
  pub pushed : own_now m' ≡ own_now m ++ entry ∷ []
  pub other : Begins m.0.other m'.0.other
  pub ended : KnowsEnded m m'
  pub more : length (own_now m) < length (other_now m')
  pub there : entry_at (other_now m') (length (own_now m)) ≡ entry
  pub front : Begins (own_now m') (other_now m')

pub poll_steps : (a b c d : Seated) (high low : ℕ) → IsFull high → Looked a high b → Read b low c → Cleared c d → PollSteps a (entry_of high low) d
poll_steps a b c d high low full p q r = let xs : List Entry = own_now a in let i : ℕ = length xs in let same : own_now b ≡ xs = own_stays a b p.keeps.session p.own in let e : Entry = entry_at (other_now b) i in
    let at_b : Cleared b d = subst (λ (m : Seated). Cleared m d) q.same r in let more : i < length (other_now b) = p.full full in let g : Keeps a d = then_on a b d p.keeps at_b.keeps in
    let there : e ≡ entry_of high low = λ j. entry_of (sym (p.found full) j) (sym (q.found ∙ ap (λ (l : List Entry). (entry_at (other_now b) (length l)).low) same) j) in
    let own : d.0.own ≡ a.0.own ++ seated_row a (entry_of high low) ∷ [] = at_b.own ∙ (λ j. p.own j ++ record { session = p.keeps.session j; entry = (ap (λ (l : List Entry). entry_at (other_now b) (length l)) same ∙ there) j } ∷ []) in
    let pushed : own_now d ≡ xs ++ entry_of high low ∷ [] = one_more a d (entry_of high low) g own in
    let others : other_now d ≡ other_now b = other_stays b d at_b.keeps.session at_b.other in let long : length (other_now d) ≡ length (other_now b) = ap length others in
    let front : Begins xs (other_now b) = subst (λ l. Begins l (other_now b)) same p.front in record {
      keeps = g;
      own = own;
      pushed = pushed;
      other = subst (λ l. Begins a.0.other l) (sym at_b.other) p.other;
      ended = λ k over. ap (of_session k) at_b.other ∙ p.ended k over;
      more = omega arith;
      there = ap (λ l. entry_at l i) others ∙ there;
      front = subst (λ (z : List Entry × List Entry). Begins z.0 z.1) (λ j. ((ap (λ (z : Entry). xs ++ z ∷ []) there ∙ sym pushed) j, sym others j)) (begins_more xs (other_now b) front.0 front.1 more);
    }

pub sweeps_none : (m : Seated) → m.0.swept ≡ 0 → Sweeps m m 0
sweeps_none m e = record { role = refl; slots = refl; carried = refl; is_open = refl; session = refl; swept = e; own = refl; other = refl; count = refl; word = refl }

pub sweeps_on : (a b c : Seated) (k : ℕ) → Sweeps a b k → Zeroed b c → Sweeps a c (k + 1)
sweeps_on a b c k s z = record {
  role = z.role ∙ s.role;
  slots = z.slots ∙ s.slots;
  carried = z.carried ∙ s.carried;
  is_open = z.is_open ∙ s.is_open;
  session = z.session ∙ s.session;
  swept = z.swept ∙ ap (λ y. y + 1) s.swept;
  own = z.own ∙ s.own;
  other = z.other ∙ s.other;
  count = z.reads.count ∙ s.count;
  word = z.reads.word_is ∙ s.word;
}
