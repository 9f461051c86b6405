-- The sums that a draft keeps of the plan so far.
use Rattle.std.specs.Prelude.{◌≡◌, ◌≤◌, ◌+◌, ◌++◌, ◌∷◌, ℕ, Bool, true, false, [], length}
use Rattle.boot_text.specs.declared.cost.TheConstants.{MOST_COST}
use Rattle.boot_text.specs.declared.keyword.Keyword.{Keyword}
use Rattle.boot_text.specs.declared.keyword.Keyword.TheVariants as keywords
use Rattle.boot_text.specs.declared.plan.TheConstants.{MOST_UNITS, MOST_PORTS, MOST_PAGES}
use Rattle.boot_text.specs.declared.plan.Line.{Line}
use Rattle.boot_text.specs.declared.plan.UnitPlan.{UnitPlan}
use Rattle.boot_text.specs.SoFar.{SoFar, ports_in, pages_of, ports_of, pages_so_far, cost_so_far}

-- whether no script line can have come since the last partition began
abbrev pub is_before_script : Keyword → Bool
is_before_script keywords.Script = false
is_before_script _ = true

-- The ports, the pages and the cost of the plan so far, within their limits; the script is empty while units come.
pub record AreSums (s : SoFar) (ports pages cost : ℕ) : Type 0 where
  pub ports_are : ports ≡ ports_of s
  pub pages_are : pages ≡ pages_so_far s
  pub cost_is : cost ≡ cost_so_far s
  pub few_ports : ports ≤ MOST_PORTS
  pub few_pages : pages ≤ MOST_PAGES
  pub low_cost : cost ≤ MOST_COST
  pub few_units : length s.units ≤ MOST_UNITS
  pub no_script : is_before_script s.last ≡ true → s.lines ≡ []

-- A unit more is not too many, and no script line stands before it.
pub record MayAdd (s : SoFar) (unit : UnitPlan) : Type 0 where
  pub no_script : s.lines ≡ []
  pub units : length s.units + 1 ≤ MOST_UNITS
  pub pages : pages_so_far s + pages_of unit ≤ MOST_PAGES
  pub ports : ports_of s + ports_in (unit ∷ []) ≤ MOST_PORTS

-- the plan with one unit more in the partition that has not ended, one script line more, and with that partition's end
abbrev pub with_unit : Keyword → UnitPlan → SoFar → SoFar
with_unit kind unit s = record s { last = kind; units = s.units ++ unit ∷ [] }

abbrev pub with_line : Line → SoFar → SoFar
with_line line s = record s { last = keywords.Script; lines = s.lines ++ line ∷ [] }

abbrev pub with_end : SoFar → SoFar
with_end s = record s { last = keywords.End; ended = s.ended ++ record { units = s.units; lines = s.lines } ∷ []; units = []; lines = [] }
