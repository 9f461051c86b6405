-- Bytes that spell a unit are not refused.
use Rattle.std.proofs.Common.{◌≡◌, ◌<◌, ◌≤◌, ◌==◌, ℕ, false, List, length, slice_index, refl, arith}
use Rattle.std.proofs.lemmas.Bool.{le-ltb}
use Rattle.std.proofs.lemmas.Bool.Decides.{nat_tests}
use Rattle.std.specs.Prelude.{None}
use Rattle.srp_iu.specs.declared.unit.Iu.{Iu}
use Rattle.srp_iu.specs.declared.unit.Iu.TheVariants as units
use Rattle.srp_iu.specs.declared.command.Cmd.{Cmd}
use Rattle.srp_iu.specs.declared.response.Rsp.{Rsp}
use Rattle.srp_iu.specs.declared.buffer.Buffer.{Buffer}
use Rattle.srp_iu.specs.declared.buffer.Buffer.TheVariants.{Absent, Direct, Indirect}
use Rattle.srp_iu.specs.Buffer.{SpellsBuffer}
use Rattle.srp_iu.specs.Command.{SpellsCmd, out_format, in_format}
use Rattle.srp_iu.specs.Response.{SpellsRsp}
use Rattle.srp_iu.specs.Refusal.{fault_of, fixed_len, full_len, has_bad_format}
use Rattle.srp_iu.specs.Grammar.{Spells}

-- a number above 0 is not 0
not_zero : (n : ℕ) → 1 ≤ n → (n == 0) ≡ false
not_zero n h = grind (arith, nat_tests)

-- bytes of this type are not refused where nothing is lacking
accepted : (bytes : List ℕ) (kind : ℕ)
    → slice_index bytes 0 ≡ kind
    → 1 ≤ fixed_len kind
    → fixed_len kind ≤ length bytes
    → length bytes ≤ 256
    → has_bad_format bytes ≡ false
    → full_len bytes ≤ length bytes
    → fault_of bytes ≡ None
accepted bytes kind is known fixed within format full =
    let not_long = le-ltb 256 (length bytes) within in
    let some = not_zero (length bytes) (omega arith) in
    let type = not_zero (fixed_len kind) known in
    let part = le-ltb (length bytes) (fixed_len kind) fixed in
    let all = le-ltb (length bytes) (full_len bytes) full in
    rw (not_long, some, format, all, is, type, part) refl

-- the format of a buffer is below 3
format_known : (format count : ℕ) (bytes : List ℕ) (b : Buffer) → SpellsBuffer format count bytes b → format < 3
format_known format count bytes Absent s = omega arith
format_known format count bytes (Direct desc) s = omega (arith, s.direct)
format_known format count bytes (Indirect table total list) s = omega (arith, s.indirect)

-- a unit of a type that is neither a command nor a response has the length of its fixed part
fixed : (bytes : List ℕ) (kind : ℕ) → (kind == 0x02) ≡ false → (kind == 0xC1) ≡ false → 1 ≤ fixed_len kind
    → slice_index bytes 0 ≡ kind → fixed_len kind ≤ length bytes → length bytes ≤ 256 → fault_of bytes ≡ None
fixed bytes kind no_cmd no_rsp known is full within =
    let format : has_bad_format bytes ≡ false = rw (is, no_cmd) refl in
    let long = rw (no_cmd, no_rsp) at full in
    let all : full_len bytes ≤ length bytes = rw (is, no_cmd, no_rsp) long in
    accepted bytes kind is known full within format all

-- a command that is there is not refused
command : (bytes : List ℕ) (c : Cmd) → SpellsCmd bytes c → length bytes ≤ 256 → fault_of bytes ≡ None
command bytes c s within =
    let out_known = format_known (out_format bytes) (slice_index bytes 6) _ c.out s.out in
    let in_known = format_known (in_format bytes) (slice_index bytes 7) _ c.inn s.inn in
    let out_good = le-ltb 2 (out_format bytes) (omega arith) in
    let in_good = le-ltb 2 (in_format bytes) (omega arith) in
    let format : has_bad_format bytes ≡ false = rw (out_good, in_good, s.kind) refl in
    let all : full_len bytes ≤ length bytes = rw s.kind s.full in
    let part : 48 ≤ length bytes = omega (arith, s.full) in
    accepted bytes 0x02 s.kind (omega arith) part within format all

-- a response that is there is not refused
response : (bytes : List ℕ) (r : Rsp) → SpellsRsp bytes r → length bytes ≤ 256 → fault_of bytes ≡ None
response bytes r s within =
    let format : has_bad_format bytes ≡ false = rw s.kind refl in
    let all : full_len bytes ≤ length bytes = rw s.kind s.full in
    let part : 36 ≤ length bytes = omega (arith, s.full) in
    accepted bytes 0xC1 s.kind (omega arith) part within format all

-- bytes that spell a unit are not refused
pub unrefused : (bytes : List ℕ) (iu : Iu) → Spells bytes iu → fault_of bytes ≡ None
unrefused bytes (units.LoginReq r) s = fixed bytes 0x00 refl refl (omega arith) s.unit.kind s.unit.full s.within
unrefused bytes (units.TskMgmt t) s = fixed bytes 0x01 refl refl (omega arith) s.unit.kind s.unit.full s.within
unrefused bytes (units.Cmd c) s = command bytes c s.unit s.within
unrefused bytes (units.ILogout tag) s = fixed bytes 0x03 refl refl (omega arith) s.unit.kind s.unit.full s.within
unrefused bytes (units.CredRsp tag) s = fixed bytes 0x41 refl refl (omega arith) s.unit.kind s.unit.full s.within
unrefused bytes (units.TLogout reason tag) s = fixed bytes 0x80 refl refl (omega arith) s.unit.kind s.unit.full s.within
unrefused bytes (units.CredReq delta tag) s = fixed bytes 0x81 refl refl (omega arith) s.unit.kind s.unit.full s.within
unrefused bytes (units.LoginRsp r) s = fixed bytes 0xC0 refl refl (omega arith) s.unit.kind s.unit.full s.within
unrefused bytes (units.Rsp r) s = response bytes r s.unit s.within
unrefused bytes (units.LoginRej r) s = fixed bytes 0xC2 refl refl (omega arith) s.unit.kind s.unit.full s.within
