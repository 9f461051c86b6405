-- What is judged of an information unit that was fetched.
use Rattle.std.specs.Prelude.{◌≡◌, ⊤, ℕ, List}
use Rattle.srp_iu.specs.Layout.{field}
use Rattle.block_server.specs.Orders.{IsOrder}
use Rattle.block_server.specs.declared.intake.Verdict.{Verdict}
use Rattle.block_server.specs.declared.intake.Verdict.TheVariants.{Accepted}
use Rattle.block_server.specs.declared.request.Order.{Order}

-- A request has the tag of its information unit, and asks what that spells.
pub record IsJudged (tag : ℕ) (order : Order) (bytes : List ℕ) : Type 0 where
  pub tag_is : tag ≡ field 8 8 bytes
  pub order_is : IsOrder order bytes

abbrev pub IsTagged : Verdict → List ℕ → Type 0
IsTagged (Accepted login tag order) bytes = IsJudged tag order bytes
IsTagged _ bytes = ⊤
