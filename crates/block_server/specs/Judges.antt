-- What a part of a unit's turn judges of the entries that it took.
use Rattle.std.specs.Prelude.{◌≡◌, ◌++◌, ℕ, All, List, [], IfSome, map, slice_get}
use Rattle.crq_session.specs.EndState.{EndState}
use Rattle.rdma_copy.specs.declared.copy.CopyRecord.{CopyRecord}
use Rattle.tce_window.specs.PortState.{PortState}
use Rattle.vio_num.specs.declared.history.Grant.{Grant}
use Rattle.vio_num.specs.declared.history.Served.{Served as ServedRow}
use Rattle.vio_num.specs.declared.names.UnitId.{UnitId}
use Rattle.block_server.specs.Books.{books_seen}
use Rattle.block_server.specs.Judged.{AreKept, Books, IsInTime, Judged}
use Rattle.block_server.specs.Receipts.{HasIntake, Intake, IsIntake, Receipt, Standing, intake_of}
use Rattle.block_server.specs.SiteState.{SiteState}
use Rattle.block_server.specs.declared.unit.Unit.{Unit}

-- Entries were judged behind those that were, each with its receipt, and none under a login that had ended before.
pub record JudgesMore (intake : Intake) (books : Books) (lines : List Grant) (receipts : List Receipt) (judged : List Judged) : Type 0 where
  pub more : List Judged
  pub received : IsIntake intake (receipts ++ map (λ j. j.receipt) more)
  pub kept : AreKept books (judged ++ more)
  pub in_time : All (IsInTime books.id lines) more

-- What a part of a turn does to a unit's intake and to its books.
pub record Judges (unit unit' : Standing) (old new : SiteState) (books books' : Books) : Type 0 where
  pub more : unit.id ≡ old.own.place.unit → (receipts : List Receipt) → (judged : List Judged) → IsIntake (intake_of unit old books.grants) receipts → AreKept books judged
      → JudgesMore (intake_of unit' new books'.grants) books' books.grants receipts judged

-- The unit of this number, of this name, has these books with the entries that were judged.
abbrev pub HasKept : List Unit → (unit : ℕ) → UnitId → EndState → List ServedRow → List Grant → List Judged → Type 0
HasKept units unit id queue history grants judged =
    IfSome (slice_get units unit) (λ u. AreKept (books_seen u id queue history grants) judged)

-- The unit of this number has a receipt and a fate for each entry that it took, and its books say so.
pub record HasJudged (units : List Unit) (unit : ℕ) (own client : PortState) (queue : EndState) (copies : List CopyRecord) (history : List ServedRow) (grants : List Grant) (judged : List Judged) : Type 0 where
  pub received : HasIntake units unit own client queue copies grants (map (λ j. j.receipt) judged)
  pub kept : HasKept units unit own.place.unit queue history grants judged

-- None of these was asked under a login that had ended by these lines.
abbrev pub AreInTime : UnitId → List Grant → List Judged → Type 0
AreInTime unit grants judged = All (IsInTime unit grants) judged

-- Units that judged nothing, whatever their names are, and over any queue of which no session began.
abbrev pub AreUnused : List Unit → Type 0
AreUnused units = (number : ℕ) → (id : UnitId) → (queue : EndState) → queue.last_session ≡ 0 → queue.taken ≡ [] → HasKept units number id queue [] [] []
