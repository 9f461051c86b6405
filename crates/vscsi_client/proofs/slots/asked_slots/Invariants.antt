use Rattle.std.proofs.Common.{◌≡◌, ℕ, ◌<◌, Some, slice_get, take}
use Rattle.vscsi_client.specs.State.{is_asked}
use Rattle.vscsi_client.proofs.slots.asked_slots.Given as goal

abbrev pub invariant-loop-request : goal.invariant-loop-request
invariant-loop-request l = (place : ℕ) → place < 200 → slice_get l.used place ≡ Some (is_asked (take l.request-index l.outgoing) place)
