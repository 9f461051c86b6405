-- The queue law and the drop law: what a queue hands over, and what it drops (LoPAR, "Command/Response
-- Queue Facility Considerations").
use Rattle.std.specs.Prelude.{◌≡◌, ℕ, ◌-◌, ◌≤◌, ◌++◌, List, length, map, Some}
use Rattle.std.specs.List.{slice_get}
use Rattle.vio_num.specs.declared.entry.Entry.{Entry}

-- Of a session of a queue of n slots, `taken` is a front of `sent`, in order and unaltered, and at most
-- n entries are sent and not yet taken.
pub record Handed (sent taken : List Entry) (n : ℕ) : Type 0 where
  pub rest : List Entry
  pub in_order : sent ≡ taken ++ rest
  pub within : length rest ≤ n

-- An entry that would have had the number k in its session found its slot full: the entry n places before
-- it lay there, and `held` is that one's high half.
pub record LawfulDrop (sent : List Entry) (n k held : ℕ) : Type 0 where
  pub lapped : n ≤ k
  pub reached : k ≤ length sent
  pub held_there : slice_get (map (λ entry. entry.high) sent) (k - n) ≡ Some held
