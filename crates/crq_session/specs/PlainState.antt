-- A plain end as an end of a link: its own side and its partner's.
use Rattle.std.specs.Prelude.{ℕ, Bool, true, false, not, List, [], ◌∷◌}
use Rattle.std.specs.Borrow.{GName}
use Rattle.crq_ring.specs.declared.rows.PipeRow.{PipeRow}
use Rattle.crq_session.specs.declared.side.PlainSide.{PlainSide}
use Rattle.crq_session.specs.declared.link.PlainLink.{PlainLink}
use Rattle.crq_session.specs.declared.plain_end.PlainEnd.{PlainEnd}
use Rattle.crq_session.specs.EndState.{EndState}
use Rattle.crq_session.specs.Side.{end_over, IsNewSide}

-- one side of a link, the first or the second
abbrev pub side_of : PlainLink → Bool → PlainSide
side_of link true = link.first
side_of link false = link.second

-- the other side
abbrev pub partner_of : PlainLink → Bool → PlainSide
partner_of link first = side_of link (not first)

-- a link as an end of it sees it, from the side that it is
abbrev pub end_of : List GName → PlainLink → Bool → EndState
end_of lenders link first = end_over lenders first (side_of link first) (partner_of link first)

-- the same, reached through one borrow
abbrev pub end_by : GName → PlainLink → Bool → EndState
end_by lender = end_of (lender ∷ [])

abbrev pub state_of : PlainEnd → EndState
state_of end = end_by end.link.ghost_name end.link.now end.first

-- all that was put into its own queue, of which a plain end knows
abbrev pub heard_of : PlainEnd → List PipeRow
heard_of end = (state_of end).place.received

-- A link whose queues have these numbers of slots, before their first sessions.
pub record IsNewLink (link : PlainLink) (slots_a slots_b : ℕ) : Type 0 where
  pub first : IsNewSide (side_of link true) slots_a
  pub second : IsNewSide (side_of link false) slots_b
