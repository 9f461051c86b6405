-- Which answers copies wrote over their requests, and that their rows are in form (SRP, "SRP_RSP response").
use Rattle.std.specs.Prelude.{◌≡◌, ◌⊎◌, ⊤, ℕ, Bool, List, [], ◌∷◌}
use Rattle.vio_num.specs.declared.history.Served.{Served}
use Rattle.srp_iu.specs.Layout.{field}
use Rattle.block_server.specs.Causes.{Hearing, Told, told_to, units_at}
use Rattle.block_server.specs.Causes.News.{delivered, fetched}
use Rattle.block_server.specs.Formed.{IsFormed}

-- A copy wrote an answer over its request: from page 0, under the request's tag, to the address from which a copy had brought
-- the request's information unit.
pub record IsWrittenOver (Hears : Hearing) (iu answer : List ℕ) : Type 0 where
  pub address : ℕ
  pub brought : Hears (fetched address units_at iu)
  pub written : Hears (delivered units_at address (field 8 8 iu) answer)

-- A row has no answer; or a copy wrote it over the row's request, and the row is in form, on a disk of so many blocks.
abbrev pub IsAnswerWritten : (size : ℕ) → (told : Told → Bool) → Served → Type 0
IsAnswerWritten size told row = (row.answer ≡ []) ⊎ (IsWrittenOver (told_to told row.unit) row.iu row.answer × IsFormed size told row)

-- Each row is so.
abbrev pub AreWritten : (size : ℕ) → (told : Told → Bool) → List Served → Type 0
AreWritten size told [] = ⊤
AreWritten size told (row ∷ rows) = IsAnswerWritten size told row × AreWritten size told rows
