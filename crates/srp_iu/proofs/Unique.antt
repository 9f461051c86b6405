-- The canonical bytes of a unit are its only ones.
use Rattle.std.proofs.Common.{◌≡◌, ◌≤◌, ℕ, ◌+◌, ◌*◌, ◌/◌, List, length, drop, slice_index, refl, sym, ap, ◌∙◌, arith}
use Rattle.srp_iu.specs.declared.unit.Iu.{Iu}
use Rattle.srp_iu.specs.declared.unit.Iu.TheVariants as units
use Rattle.srp_iu.specs.declared.command.Cmd.{Cmd}
use Rattle.srp_iu.specs.declared.task.TskMgmt.{TskMgmt}
use Rattle.srp_iu.specs.declared.response.Rsp.{Rsp}
use Rattle.srp_iu.specs.declared.login.LoginReq.{LoginReq}
use Rattle.srp_iu.specs.declared.login.LoginRsp.{LoginRsp}
use Rattle.srp_iu.specs.declared.login.LoginRej.{LoginRej}
use Rattle.srp_iu.specs.declared.buffer.Buffer.{Buffer}
use Rattle.srp_iu.specs.declared.buffer.Buffer.TheVariants.{Absent, Direct, Indirect}
use Rattle.srp_iu.specs.Layout.{IsBytes, field, part}
use Rattle.srp_iu.specs.Buffer.{SpellsBuffer, buffer_len, format_of, written_len, descs_of}
use Rattle.srp_iu.specs.Command.{CanonCmd, more_len, out_format, in_format, out_at, in_at}
use Rattle.srp_iu.specs.Task.{CanonTskMgmt}
use Rattle.srp_iu.specs.Response.{CanonRsp, response_len, sense_len}
use Rattle.srp_iu.specs.Login.{CanonLoginReq, CanonLoginRsp, CanonLoginRej}
use Rattle.srp_iu.specs.Control.{CanonTag, CanonNumber}
use Rattle.srp_iu.specs.Grammar.{Canon}
use Rattle.byteorder.specs.Endian.{big_number}
use Rattle.std.proofs.lemmas.List.{drop-drop}
use Rattle.srp_iu.proofs.Commands.{buffer_moved}
use Rattle.srp_iu.proofs.Writables.{length-part, spelled_len}
use Rattle.srp_iu.proofs.Agreeing.{Both, Agree, moved, ends, by_field, by_part, by_byte, by_desc, by_descs}

both_of : (n : ℕ) (xs ys : List ℕ) → IsBytes xs → IsBytes ys → length xs ≡ n → length ys ≡ n → Both xs ys n
both_of n xs ys h k e f = record { left = h; right = k; left_len = omega (arith, e); right_len = omega (arith, f) }

tag_unit : (xs ys : List ℕ) (type tag : ℕ) → IsBytes xs → IsBytes ys → CanonTag xs type tag → CanonTag ys type tag → xs ≡ ys
tag_unit xs ys type tag h k a b =
    let s = a.spells in
    let t = b.spells in
    let both = both_of 16 xs ys h k a.exact b.exact in
    by_byte 0 16 xs ys both (omega arith) (s.kind ∙ sym t.kind)
    (by_part 1 7 xs ys (a.from_1 ∙ sym b.from_1)
    (by_field 8 8 16 xs ys both (omega arith) (sym s.tagged ∙ t.tagged)
    (ends 16 xs ys a.exact b.exact)))

number_unit : (xs ys : List ℕ) (type number tag : ℕ) → IsBytes xs → IsBytes ys → CanonNumber xs type number tag → CanonNumber ys type number tag → xs ≡ ys
number_unit xs ys type number tag h k a b =
    let s = a.spells in
    let t = b.spells in
    let both = both_of 16 xs ys h k a.exact b.exact in
    by_byte 0 16 xs ys both (omega arith) (s.kind ∙ sym t.kind)
    (by_part 1 3 xs ys (a.from_1 ∙ sym b.from_1)
    (by_field 4 4 16 xs ys both (omega arith) (sym s.numbered ∙ t.numbered)
    (by_field 8 8 16 xs ys both (omega arith) (sym s.tagged ∙ t.tagged)
    (ends 16 xs ys a.exact b.exact))))

login_req : (xs ys : List ℕ) (r : LoginReq) → IsBytes xs → IsBytes ys → CanonLoginReq xs r → CanonLoginReq ys r → xs ≡ ys
login_req xs ys r h k a b =
    let s = a.spells in
    let t = b.spells in
    let both = both_of 64 xs ys h k a.exact b.exact in
    by_byte 0 64 xs ys both (omega arith) (s.kind ∙ sym t.kind)
    (by_part 1 7 xs ys (a.from_1 ∙ sym b.from_1)
    (by_field 8 8 64 xs ys both (omega arith) (sym s.tag ∙ t.tag)
    (by_field 16 4 64 xs ys both (omega arith) (sym s.iu_len ∙ t.iu_len)
    (by_part 20 4 xs ys (a.from_20 ∙ sym b.from_20)
    (by_field 24 2 64 xs ys both (omega arith) (sym s.formats ∙ t.formats)
    (by_byte 26 64 xs ys both (omega arith) (sym s.flags ∙ t.flags)
    (by_part 27 5 xs ys (a.from_27 ∙ sym b.from_27)
    (by_part 32 16 xs ys (sym s.initiator ∙ t.initiator)
    (by_part 48 16 xs ys (sym s.target ∙ t.target)
    (ends 64 xs ys a.exact b.exact))))))))))

login_rsp : (xs ys : List ℕ) (r : LoginRsp) → IsBytes xs → IsBytes ys → CanonLoginRsp xs r → CanonLoginRsp ys r → xs ≡ ys
login_rsp xs ys r h k a b =
    let s = a.spells in
    let t = b.spells in
    let both = both_of 52 xs ys h k a.exact b.exact in
    by_byte 0 52 xs ys both (omega arith) (s.kind ∙ sym t.kind)
    (by_part 1 3 xs ys (a.from_1 ∙ sym b.from_1)
    (by_field 4 4 52 xs ys both (omega arith) (sym s.delta ∙ t.delta)
    (by_field 8 8 52 xs ys both (omega arith) (sym s.tag ∙ t.tag)
    (by_field 16 4 52 xs ys both (omega arith) (sym s.max_in ∙ t.max_in)
    (by_field 20 4 52 xs ys both (omega arith) (sym s.max_out ∙ t.max_out)
    (by_field 24 2 52 xs ys both (omega arith) (sym s.formats ∙ t.formats)
    (by_byte 26 52 xs ys both (omega arith) (sym s.flags ∙ t.flags)
    (by_part 27 25 xs ys (a.from_27 ∙ sym b.from_27)
    (ends 52 xs ys a.exact b.exact)))))))))

login_rej : (xs ys : List ℕ) (r : LoginRej) → IsBytes xs → IsBytes ys → CanonLoginRej xs r → CanonLoginRej ys r → xs ≡ ys
login_rej xs ys r h k a b =
    let s = a.spells in
    let t = b.spells in
    let both = both_of 32 xs ys h k a.exact b.exact in
    by_byte 0 32 xs ys both (omega arith) (s.kind ∙ sym t.kind)
    (by_part 1 3 xs ys (a.from_1 ∙ sym b.from_1)
    (by_field 4 4 32 xs ys both (omega arith) (sym s.reason ∙ t.reason)
    (by_field 8 8 32 xs ys both (omega arith) (sym s.tag ∙ t.tag)
    (by_part 16 8 xs ys (a.from_16 ∙ sym b.from_16)
    (by_field 24 2 32 xs ys both (omega arith) (sym s.formats ∙ t.formats)
    (by_part 26 6 xs ys (a.from_26 ∙ sym b.from_26)
    (ends 32 xs ys a.exact b.exact)))))))

task : (xs ys : List ℕ) (t : TskMgmt) → IsBytes xs → IsBytes ys → CanonTskMgmt xs t → CanonTskMgmt ys t → xs ≡ ys
task xs ys r h k a b =
    let s = a.spells in
    let t = b.spells in
    let both = both_of 48 xs ys h k a.exact b.exact in
    by_byte 0 48 xs ys both (omega arith) (s.kind ∙ sym t.kind)
    (by_part 1 7 xs ys (a.from_1 ∙ sym b.from_1)
    (by_field 8 8 48 xs ys both (omega arith) (sym s.tag ∙ t.tag)
    (by_part 16 4 xs ys (a.from_16 ∙ sym b.from_16)
    (by_field 20 8 48 xs ys both (omega arith) (sym s.lun ∙ t.lun)
    (by_part 28 2 xs ys (a.from_28 ∙ sym b.from_28)
    (by_byte 30 48 xs ys both (omega arith) (sym s.function ∙ t.function)
    (by_byte 31 48 xs ys both (omega arith) (a.at_31 ∙ sym b.at_31)
    (by_field 32 8 48 xs ys both (omega arith) (sym s.task ∙ t.task)
    (by_part 40 8 xs ys (a.from_40 ∙ sym b.from_40)
    (ends 48 xs ys a.exact b.exact))))))))))

response : (xs ys : List ℕ) (r : Rsp) → IsBytes xs → IsBytes ys → CanonRsp xs r → CanonRsp ys r → xs ≡ ys
response xs ys r h k a b =
    let s = a.spells in
    let t = b.spells in
    let n : ℕ = 36 + length r.response.items + length r.sense.items in
    let both = both_of n xs ys h k a.exact b.exact in
    let flags : slice_index xs 18 ≡ slice_index ys 18 = sym s.flags ∙ t.flags in
    let response_said : field 32 4 xs ≡ field 32 4 ys = a.response_said ∙ sym b.response_said in
    let sense_said : field 28 4 xs ≡ field 28 4 ys = a.sense_said ∙ sym b.sense_said in
    let m : ℕ = response_len xs in
    let j : ℕ = sense_len xs in
    let same_m : response_len ys ≡ m = rw (flags, response_said) refl in
    let same_j : sense_len ys ≡ j = rw (flags, sense_said) refl in
    let response_at : part 36 m xs ≡ part 36 m ys = sym s.response ∙ t.response ∙ ap (λ (l : ℕ). part 36 l ys) same_m in
    let sense_at : part (36 + m) j xs ≡ part (36 + m) j ys =
    sym s.sense ∙ t.sense ∙ ap (λ (l : ℕ). part (36 + l) (sense_len ys) ys) same_m ∙ ap (λ (l : ℕ). part (36 + m) l ys) same_j in
    let len_m : length r.response.items ≡ m = ap length s.response ∙ length-part 36 m xs (omega (arith, s.full)) in
    let len_j : length r.sense.items ≡ j = ap length s.sense ∙ length-part (36 + m) j xs (omega (arith, s.full)) in
    by_byte 0 n xs ys both (omega arith) (s.kind ∙ sym t.kind)
    (by_part 1 3 xs ys (a.from_1 ∙ sym b.from_1)
    (by_field 4 4 n xs ys both (omega arith) (sym s.delta ∙ t.delta)
    (by_field 8 8 n xs ys both (omega arith) (sym s.tag ∙ t.tag)
    (by_part 16 2 xs ys (a.from_16 ∙ sym b.from_16)
    (by_byte 18 n xs ys both (omega arith) flags
    (by_byte 19 n xs ys both (omega arith) (sym s.status ∙ t.status)
    (by_field 20 4 n xs ys both (omega arith) (sym s.out_residual ∙ t.out_residual)
    (by_field 24 4 n xs ys both (omega arith) (sym s.in_residual ∙ t.in_residual)
    (by_field 28 4 n xs ys both (omega arith) sense_said
    (by_field 32 4 n xs ys both (omega arith) response_said
    (by_part 36 m xs ys response_at
    (by_part (36 + m) j xs ys sense_at
    (moved n (36 + m + j) xs ys (omega (arith, len_m, len_j)) (ends n xs ys a.exact b.exact))))))))))))))

-- the format that a buffer's bytes have
format_is : (f n : ℕ) (bytes : List ℕ) (b : Buffer) → SpellsBuffer f n bytes b → f ≡ format_of b
format_is f n bytes Absent s = s
format_is f n bytes (Direct desc) s = s.direct
format_is f n bytes (Indirect table total list) s = s.indirect

-- buffers agree
by_buffer : (f n place m : ℕ) (xs ys : List ℕ) (b : Buffer) → Both xs ys m → place + buffer_len f n ≤ m
    → SpellsBuffer f n (drop place xs) b → SpellsBuffer f n (drop place ys) b → Agree (place + buffer_len f n) xs ys → Agree place xs ys
by_buffer f n place m xs ys Absent both within s t rest =
    let len : buffer_len f n ≡ 0 = rw s refl in
    moved (place + buffer_len f n) place xs ys (omega (arith, len)) rest
by_buffer f n place m xs ys (Direct desc) both within s t rest =
    let len : buffer_len f n ≡ 16 = rw s.direct refl in
    by_desc place m xs ys both (omega (arith, len, within)) (sym s.named ∙ t.named)
    (moved (place + buffer_len f n) (place + 16) xs ys (omega (arith, len)) rest)
by_buffer f n place m xs ys (Indirect table total list) both within s t rest =
    let len : buffer_len f n ≡ 20 + 16 * n = rw s.indirect refl in
    let total_at : field (place + 16) 4 xs ≡ field (place + 16) 4 ys =
    ap (λ (l : List ℕ). big_number 4 l) (sym (drop-drop 16 place xs)) ∙ sym s.in_all ∙ t.in_all ∙ ap (λ (l : List ℕ). big_number 4 l) (drop-drop 16 place ys) in
    let list_at : descs_of n (drop (place + 20) xs) ≡ descs_of n (drop (place + 20) ys) =
    ap (λ (l : List ℕ). descs_of n l) (sym (drop-drop 20 place xs)) ∙ sym s.listed ∙ t.listed ∙ ap (λ (l : List ℕ). descs_of n l) (drop-drop 20 place ys) in
    by_desc place m xs ys both (omega (arith, len, within)) (sym s.at_table ∙ t.at_table)
    (by_field (place + 16) 4 m xs ys both (omega (arith, len, within)) total_at
    (moved (place + 20) (place + 16 + 4) xs ys (omega arith)
    (by_descs n (place + 20) m xs ys both (omega (arith, len, within)) list_at
    (moved (place + buffer_len f n) (place + 20 + 16 * n) xs ys (omega (arith, len)) rest))))

command : (xs ys : List ℕ) (c : Cmd) → IsBytes xs → IsBytes ys → CanonCmd xs c → CanonCmd ys c → xs ≡ ys
command xs ys c h k a b =
    let s = a.spells in
    let t = b.spells in
    let n : ℕ = 48 + length c.more.items + written_len c.out + written_len c.inn in
    let both = both_of n xs ys h k a.exact b.exact in
    let out_is : out_format ys ≡ out_format xs = format_is _ _ _ c.out t.out ∙ sym (format_is _ _ _ c.out s.out) in
    let in_is : in_format ys ≡ in_format xs = format_is _ _ _ c.inn t.inn ∙ sym (format_is _ _ _ c.inn s.inn) in
    let formats : slice_index xs 5 ≡ slice_index ys 5 = omega (arith, out_is, in_is) in
    let counts_out : slice_index ys 6 ≡ slice_index xs 6 = b.out_count ∙ sym a.out_count in
    let counts_in : slice_index ys 7 ≡ slice_index xs 7 = b.in_count ∙ sym a.in_count in
    let at_31 : slice_index ys 31 ≡ slice_index xs 31 = b.at_31 ∙ sym a.at_31 in
    let more_is : more_len ys ≡ more_len xs = ap (λ (x : ℕ). x / 4 * 4) at_31 in
    let out_at_is : out_at ys ≡ out_at xs = ap (λ (x : ℕ). 48 + x) more_is in
    let out_len : written_len c.out ≡ buffer_len (out_format xs) (slice_index xs 6) = spelled_len _ _ _ c.out s.out in
    let in_len : written_len c.inn ≡ buffer_len (in_format xs) (slice_index xs 7) = spelled_len _ _ _ c.inn s.inn in
    let in_at_is : in_at ys ≡ in_at xs = rw (out_at_is, out_is, counts_out) refl in
    let more_at : part 48 (more_len xs) xs ≡ part 48 (more_len xs) ys = sym s.more ∙ t.more ∙ ap (λ (l : ℕ). part 48 l ys) more_is in
    let more_length : length c.more.items ≡ more_len xs = ap length s.more ∙ length-part 48 (more_len xs) xs (omega (arith, s.full)) in
    let out_there : SpellsBuffer (out_format xs) (slice_index xs 6) (drop (out_at xs) ys) c.out =
    buffer_moved _ _ _ _ _ _ c.out out_is counts_out (ap (λ (l : ℕ). drop l ys) out_at_is) t.out in
    let in_there : SpellsBuffer (in_format xs) (slice_index xs 7) (drop (in_at xs) ys) c.inn =
    buffer_moved _ _ _ _ _ _ c.inn in_is counts_in (ap (λ (l : ℕ). drop l ys) in_at_is) t.inn in
    let last : in_at xs + buffer_len (in_format xs) (slice_index xs 7) ≡ n = omega (arith, out_len, in_len, more_length) in
    by_byte 0 n xs ys both (omega arith) (s.kind ∙ sym t.kind)
    (by_part 1 4 xs ys (a.from_1 ∙ sym b.from_1)
    (by_byte 5 n xs ys both (omega arith) formats
    (by_byte 6 n xs ys both (omega arith) (sym counts_out)
    (by_byte 7 n xs ys both (omega arith) (sym counts_in)
    (by_field 8 8 n xs ys both (omega arith) (sym s.tag ∙ t.tag)
    (by_part 16 4 xs ys (a.from_16 ∙ sym b.from_16)
    (by_field 20 8 n xs ys both (omega arith) (sym s.lun ∙ t.lun)
    (by_byte 28 n xs ys both (omega arith) (a.at_28 ∙ sym b.at_28)
    (by_byte 29 n xs ys both (omega arith) (a.at_29 ∙ sym b.at_29)
    (by_byte 30 n xs ys both (omega arith) (a.at_30 ∙ sym b.at_30)
    (by_byte 31 n xs ys both (omega arith) (sym at_31)
    (by_part 32 16 xs ys (sym s.cdb ∙ t.cdb)
    (by_part 48 (more_len xs) xs ys more_at
    (by_buffer (out_format xs) (slice_index xs 6) (out_at xs) n xs ys c.out both (omega (arith, last)) s.out out_there
    (by_buffer (in_format xs) (slice_index xs 7) (in_at xs) n xs ys c.inn both (omega (arith, last)) s.inn in_there
    (moved n (in_at xs + buffer_len (in_format xs) (slice_index xs 7)) xs ys (omega (arith, last)) (ends n xs ys a.exact b.exact)))))))))))))))))

-- a unit has one list of canonical bytes
pub unique : (xs ys : List ℕ) (iu : Iu) → IsBytes xs → IsBytes ys → Canon xs iu → Canon ys iu → xs ≡ ys
unique xs ys (units.LoginReq r) h k a b = login_req xs ys r h k a.unit b.unit
unique xs ys (units.TskMgmt t) h k a b = task xs ys t h k a.unit b.unit
unique xs ys (units.Cmd c) h k a b = command xs ys c h k a.unit b.unit
unique xs ys (units.ILogout tag) h k a b = tag_unit xs ys 0x03 tag h k a.unit b.unit
unique xs ys (units.CredRsp tag) h k a b = tag_unit xs ys 0x41 tag h k a.unit b.unit
unique xs ys (units.TLogout reason tag) h k a b = number_unit xs ys 0x80 reason tag h k a.unit b.unit
unique xs ys (units.CredReq delta tag) h k a b = number_unit xs ys 0x81 delta tag h k a.unit b.unit
unique xs ys (units.LoginRsp r) h k a b = login_rsp xs ys r h k a.unit b.unit
unique xs ys (units.Rsp r) h k a b = response xs ys r h k a.unit b.unit
unique xs ys (units.LoginRej r) h k a b = login_rej xs ys r h k a.unit b.unit
