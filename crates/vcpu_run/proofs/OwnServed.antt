-- A turn of the server unit at an own client's pair: whatever stands between the two, it leads to what stands between them behind it.
use Rattle.std.proofs.Common.{◌≡◌, ℕ, true, List, subst}
use Rattle.std.specs.Borrow.{GName}
use Rattle.vio_num.specs.declared.names.UnitId.{UnitId}
use Rattle.crq_session.specs.PlainState.{end_of}
use Rattle.tce_window.specs.PlainPort.{known_of}
use Rattle.block_server.specs.Receipts.{LinesMore}
use Rattle.vcpu_run.specs.Machines.{server_id}
use Rattle.vcpu_run.specs.OwnDoing.{DoesAt, HeardAt}
use Rattle.vcpu_run.specs.OwnServes.{ServesOwn}
use Rattle.vcpu_run.specs.PlainPairs.{ServerBooks}
use Rattle.vcpu_run.specs.declared.pair.Pair.{Pair}
use Rattle.vcpu_run.proofs.OwnServedCases.{serves_own}
use Rattle.vcpu_run.proofs.OwnServedDrops.{talks_served}
use Rattle.vcpu_run.proofs.PlainPaired.{TurnsOn}

pub served_own_pair : (home k many : ℕ) (name : UnitId) (books books' : ServerBooks) (a b : List GName) (old new : Pair) → name ≡ server_id home k → new.driver ≡ old.driver
    → ∥ LinesMore (server_id home k) many books.lines books'.lines ∥₁
    → TurnsOn name books books' k (end_of a old.link true) (end_of b new.link true) (known_of old.window) (known_of new.window)
    → DoesAt name books books' k (end_of a old.link true) (end_of b new.link true) (known_of old.window) (known_of new.window)
    → HeardAt books books' k (end_of a old.link true) (end_of b new.link true) → ServesOwn home books books' k old new
served_own_pair home k many name books books' a b old new called same more turns does heard =
    let turns' = subst (λ (one : UnitId). TurnsOn one books books' k (end_of a old.link true) (end_of b new.link true) (known_of old.window) (known_of new.window)) called turns in
    let does' = subst (λ (one : UnitId). DoesAt one books books' k (end_of a old.link true) (end_of b new.link true) (known_of old.window) (known_of new.window)) called does in
    serves_own home k books books' a b old new same turns' does' (talks_served home k many books books' a b old new same more turns' does' heard)
