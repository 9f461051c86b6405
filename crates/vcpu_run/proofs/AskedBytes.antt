-- The bytes of what is asked of a server are those of no information unit that asks it nothing: the types differ.
use Rattle.std.proofs.Common.{◌≡◌, ◌⊎◌, inl, inr, ℕ, ◌<◌, ◌≤◌, true, List, slice_index, arith}
use Rattle.srp_iu.specs.Grammar.{Spells}
use Rattle.srp_iu.specs.declared.unit.Iu.{Iu}
use Rattle.srp_iu.specs.declared.unit.Iu.TheVariants as units
use Rattle.block_server.specs.Fates.{IsIgnored}
use Rattle.vcpu_run.specs.PlainTalk.{is_counted, is_login, is_logout}

-- a login, a logout, a task or a command: its type is below that of all others
asked_type : (bytes : List ℕ) (iu : Iu) → (is_login iu ≡ true) ⊎ ((is_logout iu ≡ true) ⊎ (is_counted iu ≡ true)) → Spells bytes iu → slice_index bytes 0 < 4
asked_type bytes (units.LoginReq request) kind spells = omega (arith, spells.unit.kind)
asked_type bytes (units.TskMgmt task) kind spells = omega (arith, spells.unit.kind)
asked_type bytes (units.Cmd command) kind spells = omega (arith, spells.unit.kind)
asked_type bytes (units.ILogout tag) kind spells = omega (arith, spells.unit.kind)
asked_type bytes iu (inl login) spells = cc (login)
asked_type bytes iu (inr (inl logout)) spells = cc (logout)
asked_type bytes iu (inr (inr counted)) spells = cc (counted)

ignored_type : (bytes : List ℕ) (iu : Iu) → IsIgnored iu → Spells bytes iu → 4 ≤ slice_index bytes 0
ignored_type bytes (units.LoginReq request) ignored spells = absurd ignored
ignored_type bytes (units.ILogout tag) ignored spells = absurd ignored
ignored_type bytes (units.TskMgmt task) ignored spells = absurd ignored
ignored_type bytes (units.Cmd command) ignored spells = absurd ignored
ignored_type bytes (units.CredRsp tag) ignored spells = omega (arith, spells.unit.kind)
ignored_type bytes (units.TLogout reason tag) ignored spells = omega (arith, spells.unit.kind)
ignored_type bytes (units.CredReq delta tag) ignored spells = omega (arith, spells.unit.kind)
ignored_type bytes (units.LoginRsp response) ignored spells = omega (arith, spells.unit.kind)
ignored_type bytes (units.Rsp response) ignored spells = omega (arith, spells.unit.kind)
ignored_type bytes (units.LoginRej rejection) ignored spells = omega (arith, spells.unit.kind)

pub asked_bytes : (bytes : List ℕ) (asked iu : Iu) → (is_login asked ≡ true) ⊎ ((is_logout asked ≡ true) ⊎ (is_counted asked ≡ true)) → Spells bytes asked → Spells bytes iu
    → IsIgnored iu → ⊥
asked_bytes bytes asked iu kind is spells ignored = omega (arith, asked_type bytes asked kind is, ignored_type bytes iu ignored spells)
