-- What one line more makes of the sums of the plan so far.
use Rattle.std.proofs.Common.{◌≡◌, ◌≤◌, ℕ, ◌+◌, ◌++◌, ◌∷◌, [], List, Bool, true, false, Option, Some, None, if◌then◌else◌, arith, sym, ap, ◌∙◌, refl, not, lit≤, slice_get}
use Rattle.std.specs.List.{sum_by}
use Rattle.std.proofs.lemmas.List.Sums.{sum_by-append, sum_by-cons}
use Rattle.std.proofs.lemmas.Grind.{common_steps}
use Rattle.boot_text.specs.declared.cause.Cause.{Cause}
use Rattle.boot_text.specs.declared.cause.Cause.TheVariants.{Link, Unit, Transfer}
use Rattle.boot_text.specs.declared.keyword.Keyword.{Keyword}
use Rattle.boot_text.specs.declared.keyword.Keyword.TheVariants.{Script}
use Rattle.boot_text.specs.declared.plan.Partition.{Partition}
use Rattle.boot_text.specs.declared.plan.Line.{Line}
use Rattle.boot_text.specs.declared.verb.Verb.{Verb}
use Rattle.boot_text.specs.Cost.{line_cost}
use Rattle.boot_text.specs.SoFar.{SoFar, follows, is_in_script, ports_in, pages_in, ports_of, cost_so_far, cost_of, script_cost, has_server, suits, is_over, script_offence}
use Rattle.boot_text.specs.Sums.{AreSums, is_before_script, with_line, with_end}

-- the cost of one partition more stands behind that of the others
pub cost_of-push : (ports : ℕ) (ps : List Partition) (p : Partition) → cost_of ports (ps ++ p ∷ []) ≡ cost_of ports ps + script_cost (ports + sum_by (λ q. ports_in q.units) ps + ports_in p.units) p.lines
cost_of-push ports [] p =
    let n : ports + 0 + ports_in p.units ≡ ports + ports_in p.units = omega arith in
    let e : script_cost (ports + 0 + ports_in p.units) p.lines ≡ script_cost (ports + ports_in p.units) p.lines = ap (λ (k : ℕ). script_cost k p.lines) n in
    omega (arith, e)
cost_of-push ports (q ∷ ps) p =
    let F : Partition → ℕ = λ r. ports_in r.units in
    let s : sum_by F (q ∷ ps) ≡ F q + sum_by F ps = sum_by-cons F q ps in
    let n : ports + sum_by F (q ∷ ps) + ports_in p.units ≡ ports + ports_in q.units + sum_by F ps + ports_in p.units = omega (arith, s) in
    let e : script_cost (ports + sum_by F (q ∷ ps) + ports_in p.units) p.lines ≡ script_cost (ports + ports_in q.units + sum_by F ps + ports_in p.units) p.lines = ap (λ (k : ℕ). script_cost k p.lines) n in
    omega (arith, e, cost_of-push (ports + ports_in q.units) ps p)

-- a line that is no script's, and ends no partition, stands where no script line can have come
pub before_script : (last next : Keyword) → follows last next ≡ true → is_in_script next ≡ false → is_before_script last ≡ true
before_script Script next h k = sym k ∙ h
before_script _ next h k = refl

-- a test that gives no cause is false
pub none_told : (b : Bool) (cause : Cause) (other : Option Cause) → (if b then Some cause else other) ≡ None → b ≡ false
none_told true cause other h = cc
none_told false cause other h = refl

pub rest_told : (b : Bool) (cause : Cause) (other : Option Cause) → (if b then Some cause else other) ≡ None → other ≡ None
rest_told true cause other h = cc
rest_told false cause other h = h

-- a script line with which nothing is wrong costs not too much
pub fits_line : (s : SoFar) (ports pages cost unit : ℕ) (verb : Verb) → AreSums s ports pages cost → script_offence s unit verb ≡ None → cost + line_cost ports verb ≤ 16777216
fits_line s ports pages cost unit verb sums good =
    let there = rest_told (has_server s.units) Link _ good in
    let suited = rest_told (not (suits verb (slice_get s.units unit))) Unit _ there in
    let low : is_over s verb ≡ false = none_told (is_over s verb) Transfer _ suited in
    let e : line_cost ports verb ≡ line_cost (ports_of s) verb = ap (λ (n : ℕ). line_cost n verb) sums.ports_are in
    let below : cost_so_far s + line_cost (ports_of s) verb ≤ 16777216 = grind (arith, common_steps, low) in
    omega (arith, e, below, sums.cost_is)

pub line_added : (s : SoFar) (line : Line) (ports pages cost : ℕ) → AreSums s ports pages cost → cost + line_cost ports line.verb ≤ 16777216 → AreSums (with_line line s) ports pages (cost + line_cost ports line.verb)
line_added s line ports pages cost sums low =
    let f : Line → ℕ = λ l. line_cost (ports_of s) l.verb in
    let e : sum_by f (s.lines ++ line ∷ []) ≡ sum_by f s.lines + sum_by f (line ∷ []) = sum_by-append f s.lines (line ∷ []) in
    let h : line_cost ports line.verb ≡ line_cost (ports_of s) line.verb = ap (λ (n : ℕ). line_cost n line.verb) sums.ports_are in
    record {
      ports_are = sums.ports_are;
      pages_are = sums.pages_are;
      cost_is = omega (arith, e, h, sums.cost_is);
      few_ports = sums.few_ports;
      few_pages = sums.few_pages;
      low_cost = low;
      few_units = sums.few_units;
      no_script = λ h. cc;
    }

pub end_added : (s : SoFar) (ports pages cost : ℕ) → AreSums s ports pages cost → AreSums (with_end s) ports pages cost
end_added s ports pages cost sums =
    let p : Partition = record { units = s.units; lines = s.lines } in
    let P = sum_by-append (λ (q : Partition). ports_in q.units) s.ended (p ∷ []) in
    let Q = sum_by-append (λ (q : Partition). pages_in q.units) s.ended (p ∷ []) in
    let n : 0 + sum_by (λ (q : Partition). ports_in q.units) s.ended + ports_in s.units ≡ ports_of s = omega arith in
    let c : script_cost (0 + sum_by (λ (q : Partition). ports_in q.units) s.ended + ports_in s.units) s.lines ≡ script_cost (ports_of s) s.lines = ap (λ (n : ℕ). script_cost n s.lines) n in
    record {
      ports_are = omega (arith, P, sums.ports_are);
      pages_are = omega (arith, Q, sums.pages_are);
      cost_is = omega (arith, cost_of-push 0 s.ended p, c, sums.cost_is);
      few_ports = sums.few_ports;
      few_pages = sums.few_pages;
      low_cost = sums.low_cost;
      few_units = lit≤ tt;
      no_script = λ h. refl;
    }
