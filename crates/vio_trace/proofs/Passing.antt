-- What is passed on piece by piece is the whole, and a front of a part is one of the whole.
use Rattle.std.proofs.Common.{◌≡◌, ℕ, ◌≤◌, List, [], ◌++◌, Option, Result, Ok, Err, length, take, drop, refl, sym, ap, ◌∙◌, subst, arith, append_assoc, append-nil, length-append, codes, rules}
use Rattle.std.proofs.lemmas.List.{take-append-drop}
use Rattle.std.proofs.Math.Seq.{take-append_seam}
use Rattle.std.proofs.KnownBytes.{Appends-nil, Appends-trans}
use Rattle.std.specs.Io.KnownBytes.{Appends}
use Rattle.vio_io.specs.declared.outside.WriteFault.{WriteFault}
use Rattle.vio_io.specs.declared.outside.WriteFault.TheVariants.{Failed, NoMemory}
use Rattle.vio_num.specs.Counts.{Rose}
use Rattle.vio_trace.specs.Passing.{AppendsFront, IsPassed, IsWritten, Passes, ports_text, served_text, windows_text}
use Rattle.vio_trace.specs.Text.{trace_text}
use Rattle.vio_trace.specs.declared.rows.Trace.{Trace}

-- a front by what stands behind it
pub front_of : (a b : Option (List ℕ)) (sent rest text : List ℕ) → text ≡ sent ++ rest → Appends a b sent → AppendsFront a b text
front_of a b sent rest text e h =
    let few : length sent ≤ length text = omega (arith, ap length e ∙ length-append sent rest) in
    (length sent, few, subst (Appends a b) (sym (ap (take (length sent)) e ∙ take-append_seam sent rest)) h)

-- nothing is a front
pub front_none : (a : Option (List ℕ)) (text : List ℕ) → AppendsFront a a text
front_none a text = front_of a a [] text text refl (Appends-nil a)

-- a front of a part is one of the whole
pub front_longer : (a b : Option (List ℕ)) (xs ys : List ℕ) → AppendsFront a b xs → AppendsFront a b (xs ++ ys)
front_longer a b xs ys (n, few, h) = front_of a b (take n xs) (drop n xs ++ ys) (xs ++ ys)
    (ap (λ l. l ++ ys) (sym (take-append-drop n xs)) ∙ append_assoc (take n xs) (drop n xs) ys) h

-- a front behind what was passed on before it
pub front_behind : (a b c : Option (List ℕ)) (g x h y : List ℕ) → Passes g x a b h → AppendsFront b c (h ++ y) → AppendsFront a c (g ++ (x ++ y))
front_behind a b c g x h y p (n, few, f) = front_of a c (p.sent ++ take n (h ++ y)) (drop n (h ++ y)) (g ++ (x ++ y))
    (sym (append_assoc g x y) ∙ (ap (λ l. l ++ y) p.whole ∙ (append_assoc p.sent h y
    ∙ (ap (λ l. p.sent ++ l) (sym (take-append-drop n (h ++ y))) ∙ sym (append_assoc p.sent (take n (h ++ y)) (drop n (h ++ y)))))))
    (Appends-trans a b c p.sent (take n (h ++ y)) p.took f)

-- two texts, one behind the other
pub passes_both : (a b c : Option (List ℕ)) (g x h y k : List ℕ) → Passes g x a b h → Passes h y b c k → Passes g (x ++ y) a c k
passes_both a b c g x h y k p q = record {
  sent = p.sent ++ q.sent;
  took = Appends-trans a b c p.sent q.sent p.took q.took;
  whole = sym (append_assoc g x y) ∙ (ap (λ l. l ++ y) p.whole ∙ (append_assoc p.sent h y
      ∙ (ap (λ l. p.sent ++ l) q.whole ∙ sym (append_assoc p.sent q.sent k))));
}

-- what was only gathered
pub passes_gathered : (a : Option (List ℕ)) (g x : List ℕ) → Passes g x a a (g ++ x)
passes_gathered a g x = record { sent = []; took = Appends-nil a; whole = refl }

-- what was gathered was all handed on
pub passes_handed : (a b : Option (List ℕ)) (g x : List ℕ) → Appends a b (g ++ x) → Passes g x a b []
passes_handed a b g x h = record { sent = g ++ x; took = h; whole = sym (append-nil (g ++ x)) }

-- what a call that passes a text on ends as
abbrev Ends : Type 0
Ends = Result (Unit {0}) WriteFault

-- what is passed on behind what was
pub then_passed : (r : Ends) (a b c : Option (List ℕ)) (f f' f'' : ℕ) (g x h y k : List ℕ)
    → Passes g x a b h × (f' ≡ f) → IsPassed r h y b c f' f'' k → IsPassed r g (x ++ y) a c f f'' k
then_passed (Ok u) a b c f f' f'' g x h y k p q = (passes_both a b c g x h y k p.0 q.0, q.1 ∙ p.1)
then_passed (Err Failed) a b c f f' f'' g x h y k p q = (front_behind a b c g x h y p.0 q.0, subst (λ n. Rose n f'') p.1 q.1)
then_passed (Err NoMemory) a b c f f' f'' g x h y k p q = (front_behind a b c g x h y p.0 q.0, q.1 ∙ p.1)

-- where it ended early, the rest is not passed on
pub stops : (e : WriteFault) (r : Ends) → r ≡ Err e → (a b : Option (List ℕ)) (f f' : ℕ) (g x y h k : List ℕ)
    → IsPassed r g x a b f f' h → IsPassed r g (x ++ y) a b f f' k
stops e (Ok u) is a b f f' g x y h k p = absurd (search (rules, is))
stops e (Err Failed) is a b f f' g x y h k p = (subst (AppendsFront a b) (append_assoc g x y) (front_longer a b (g ++ x) y p.0), p.1)
stops e (Err NoMemory) is a b f f' g x y h k p = (subst (AppendsFront a b) (append_assoc g x y) (front_longer a b (g ++ x) y p.0), p.1)

-- what was gathered is handed on, and no more
pub handed : (r : Ends) (a b : Option (List ℕ)) (f f' : ℕ) (g x h : List ℕ) → h ≡ g ++ x → IsWritten r h a b f f' → IsPassed r g x a b f f' []
handed (Ok u) a b f f' g x h e w = (passes_handed a b g x (subst (Appends a b) e w.0), w.1)
handed (Err Failed) a b f f' g x h e w = (subst (AppendsFront a b) e w.0, w.1)
handed (Err NoMemory) a b f f' g x h e w = (subst (AppendsFront a b) e w.0, w.1)

-- two texts, one behind the other, and nothing failed
pub passed_both : (a b c : Option (List ℕ)) (f f' f'' : ℕ) (g x h y k : List ℕ)
    → Passes g x a b h × (f' ≡ f) → Passes h y b c k × (f'' ≡ f') → Passes g (x ++ y) a c k × (f'' ≡ f)
passed_both a b c f f' f'' g x h y k p q = (passes_both a b c g x h y k p.0 q.0, q.1 ∙ p.1)

-- what ended early was not written whole
pub unwritten : (e : WriteFault) (r : Ends) → r ≡ Err e → (a b : Option (List ℕ)) (f f' : ℕ) (g x h text : List ℕ) → g ≡ [] → x ≡ text
    → IsPassed r g x a b f f' h → IsWritten r text a b f f'
unwritten e (Ok u) is a b f f' g x h text none e' p = absurd (search (rules, is))
unwritten e (Err Failed) is a b f f' g x h text none e' p = (subst (AppendsFront a b) (ap (λ l. l ++ x) none ∙ e') p.0, p.1)
unwritten e (Err NoMemory) is a b f f' g x h text none e' p = (subst (AppendsFront a b) (ap (λ l. l ++ x) none ∙ e') p.0, p.1)

-- a front of what was still gathered
front_written : (a b c : Option (List ℕ)) (g x h text : List ℕ) → g ≡ [] → x ≡ text → Passes g x a b h → AppendsFront b c h → AppendsFront a c text
front_written a b c g x h text none e p w =
    subst (AppendsFront a c) (ap (λ l. g ++ l) (append-nil x) ∙ (ap (λ l. l ++ x) none ∙ e))
    (front_behind a b c g x h [] p (subst (AppendsFront b c) (sym (append-nil h)) w))

-- all was passed on, and what was still gathered is handed on
pub written_all : (r : Ends) (a b c : Option (List ℕ)) (f f' f'' : ℕ) (g x h text : List ℕ) → g ≡ [] → x ≡ text
    → Passes g x a b h × (f' ≡ f) → IsWritten r h b c f' f'' → IsWritten r text a c f f''
written_all (Ok u) a b c f f' f'' g x h text none e p w = (
  subst (Appends a c) (sym p.0.whole ∙ (ap (λ l. l ++ x) none ∙ e)) (Appends-trans a b c p.0.sent h p.0.took w.0),
  w.1 ∙ p.1,
)
written_all (Err Failed) a b c f f' f'' g x h text none e p w = (front_written a b c g x h text none e p.0 w.0, subst (λ n. Rose n f'') p.1 w.1)
written_all (Err NoMemory) a b c f f' f'' g x h text none e p w = (front_written a b c g x h text none e p.0 w.0, w.1 ∙ p.1)

-- the parts of a trace's text
pub whole_text : (t : Trace) → (((codes "trace 1\n" ++ served_text t) ++ ports_text t) ++ windows_text t) ++ codes "end\n" ≡ trace_text t
whole_text t = simp append_assoc
