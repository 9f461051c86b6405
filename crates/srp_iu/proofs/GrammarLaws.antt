-- The laws of the grammar, for callers: bytes and units are two sides of one thing.
use Rattle.std.proofs.Common.{◌≡◌, ℕ, List}
use Rattle.std.specs.Prelude.{None}
use Rattle.srp_iu.specs.declared.unit.Iu.{Iu}
use Rattle.srp_iu.specs.Layout.{IsBytes}
use Rattle.srp_iu.specs.Refusal.{fault_of}
use Rattle.srp_iu.specs.Grammar.{Spells, Canon, IsWritable}
use Rattle.srp_iu.proofs.Refusals.{unrefused}
use Rattle.srp_iu.proofs.Accepted.{unrefused_spell}
use Rattle.srp_iu.proofs.Unique.{unique}
pub use Rattle.srp_iu.proofs.Descriptors.{descs_of-push}
pub use Rattle.srp_iu.proofs.Writables.{writable}

-- A unit has one list of canonical bytes. (Of numbers above 255 there would be more.)
pub canonical_bytes_are_one : (xs ys : List ℕ) (iu : Iu) → IsBytes xs → IsBytes ys → Canon xs iu → Canon ys iu → xs ≡ ys
canonical_bytes_are_one = unique

-- Bytes that are not refused spell a unit.
pub accepted_bytes_spell : (bytes : List ℕ) → fault_of bytes ≡ None → (iu : Iu) × Spells bytes iu
accepted_bytes_spell = unrefused_spell

-- Bytes that spell a unit are not refused.
pub spelled_bytes_are_accepted : (bytes : List ℕ) (iu : Iu) → Spells bytes iu → fault_of bytes ≡ None
spelled_bytes_are_accepted = unrefused

-- A unit that bytes spell can be written.
pub spelled_units_have_bytes : (bytes : List ℕ) (iu : Iu) → Spells bytes iu → IsWritable iu
spelled_units_have_bytes = writable
