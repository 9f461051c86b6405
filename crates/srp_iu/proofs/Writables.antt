-- A unit that bytes spell can be written.
use Rattle.std.proofs.Common.{◌≡◌, ◌≤◌, ℕ, ◌+◌, List, [], ◌∷◌, length, drop, slice_index, bit_and, refl, ap, ◌∙◌, length-drop, arith}
use Rattle.std.proofs.lemmas.List.{length-take}
use Rattle.srp_iu.specs.declared.unit.Iu.{Iu}
use Rattle.srp_iu.specs.declared.unit.Iu.TheVariants as units
use Rattle.srp_iu.specs.declared.command.Cmd.{Cmd}
use Rattle.srp_iu.specs.declared.response.Rsp.{Rsp}
use Rattle.srp_iu.specs.declared.buffer.Buffer.{Buffer}
use Rattle.srp_iu.specs.declared.buffer.Buffer.TheVariants.{Absent, Direct, Indirect}
use Rattle.srp_iu.specs.Layout.{field, part}
use Rattle.srp_iu.specs.Buffer.{SpellsBuffer, buffer_len, written_len}
use Rattle.srp_iu.specs.Command.{SpellsCmd, FitsCmd, more_len, out_format, in_format}
use Rattle.srp_iu.specs.Response.{SpellsRsp, FitsRsp, response_len, sense_len, list_len}
use Rattle.srp_iu.specs.Grammar.{Spells, IsWritable}
use Rattle.srp_iu.proofs.Descriptors.{length-descs_of}

-- a part that is there has the length that was asked for
pub length-part : (at n : ℕ) (bytes : List ℕ) → at + n ≤ length bytes → length (part at n bytes) ≡ n
length-part at n bytes h = omega (arith, length-take n (drop at bytes), length-drop at bytes)

-- a buffer that bytes spell takes the bytes that its format and count announce
pub spelled_len : (format count : ℕ) (bytes : List ℕ) (b : Buffer) → SpellsBuffer format count bytes b → written_len b ≡ buffer_len format count
spelled_len format count bytes Absent s = rw s refl
spelled_len format count bytes (Direct desc) s = rw s.direct refl
spelled_len format count bytes (Indirect table total list) s =
    let counted : length list.items ≡ count = ap length s.listed ∙ length-descs_of count (drop 20 bytes) in
    rw (s.indirect, counted) refl

-- a command that bytes spell can be written
command : (bytes : List ℕ) (c : Cmd) → SpellsCmd bytes c → length bytes ≤ 256 → FitsCmd c
command bytes c s within =
    let out = spelled_len (out_format bytes) (slice_index bytes 6) _ c.out s.out in
    let inn = spelled_len (in_format bytes) (slice_index bytes 7) _ c.inn s.inn in
    let there : 48 + more_len bytes ≤ length bytes = omega (arith, s.full) in
    let more : length c.more.items ≡ more_len bytes = ap length s.more ∙ length-part 48 (more_len bytes) bytes there in
    record {
      attribute = omega (arith, s.attribute);
      fours = omega arith;
      fits = omega (arith, s.full);
    }

-- the length of a list whose flag is off
off : (flags flag said : ℕ) → bit_and flags flag ≡ 0 → list_len flags flag said ≡ 0
off flags flag said h = rw h refl

-- a list of no items
empty : (l : List ℕ) → length l ≡ 0 → l ≡ []
empty [] h = refl
empty (x ∷ l) h = absurd (omega arith)

-- a response that bytes spell can be written
response : (bytes : List ℕ) (r : Rsp) → SpellsRsp bytes r → length bytes ≤ 256 → FitsRsp r
response bytes r s within =
    let response : length r.response.items ≡ response_len bytes = ap length s.response ∙ length-part 36 (response_len bytes) bytes (omega (arith, s.full)) in
    let sense : length r.sense.items ≡ sense_len bytes = ap length s.sense ∙ length-part (36 + response_len bytes) (sense_len bytes) bytes (omega (arith, s.full)) in
    record {
      fits = omega (arith, s.full);
      no_response = λ none. empty r.response.items (response ∙ off (slice_index bytes 18) 0x01 (field 32 4 bytes) (rw (← s.flags) none));
      no_sense = λ none. empty r.sense.items (sense ∙ off (slice_index bytes 18) 0x02 (field 28 4 bytes) (rw (← s.flags) none));
    }

-- a unit that bytes spell can be written
pub writable : (bytes : List ℕ) (iu : Iu) → Spells bytes iu → IsWritable iu
writable bytes (units.LoginReq r) s = tt
writable bytes (units.TskMgmt t) s = tt
writable bytes (units.Cmd c) s = command bytes c s.unit s.within
writable bytes (units.ILogout tag) s = tt
writable bytes (units.CredRsp tag) s = tt
writable bytes (units.TLogout reason tag) s = tt
writable bytes (units.CredReq delta tag) s = tt
writable bytes (units.LoginRsp r) s = tt
writable bytes (units.Rsp r) s = response bytes r s.unit s.within
writable bytes (units.LoginRej r) s = tt
