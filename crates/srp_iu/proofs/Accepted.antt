-- Bytes that are not refused spell a unit.
use Rattle.std.proofs.Common.{◌≡◌, ◌<◌, ◌≤◌, ◌==◌, ℕ, zero, suc, Bool, true, false, List, length, slice_index, nat_lt, drop, ◌%◌, ◌+◌, ◌||◌, ◌⊎◌, inl, inr, refl, arith, if◌then◌else◌}
use Rattle.std.proofs.lemmas.Bool.{ltb-false, eqb-true, or_parts}
use Rattle.std.specs.Prelude.{Option, Some, None}
use Rattle.srp_iu.specs.declared.unit.Iu.{Iu}
use Rattle.srp_iu.specs.declared.unit.Iu.TheVariants as units
use Rattle.srp_iu.specs.declared.unit.IuFault.{IuFault}
use Rattle.srp_iu.specs.declared.unit.IuFault.TheVariants.{Short, UnknownType, BadFormat, Long}
use Rattle.srp_iu.specs.declared.buffer.Buffer.{Buffer}
use Rattle.srp_iu.specs.declared.buffer.Buffer.TheVariants.{Absent, Direct, Indirect}
use Rattle.srp_iu.specs.Layout.{field, part}
use Rattle.srp_iu.specs.Buffer.{SpellsBuffer, desc_of, descs_of}
use Rattle.srp_iu.specs.Command.{out_format, in_format, out_at, in_at, more_len, cmd_len}
use Rattle.srp_iu.specs.Response.{response_len, sense_len}
use Rattle.srp_iu.specs.Refusal.{fault_of, fixed_len, full_len, has_bad_format}
use Rattle.srp_iu.specs.Grammar.{Spells}

-- no fault stands first, nor behind it
first_none : (b : Bool) (fault : IuFault) (rest : Option IuFault) → (if b then Some fault else rest) ≡ None → b ≡ false
first_none true fault rest e = absurd (cc e)
first_none false fault rest e = refl

rest_none : (b : Bool) (fault : IuFault) (rest : Option IuFault) → (if b then Some fault else rest) ≡ None → rest ≡ None
rest_none true fault rest e = absurd (cc e)
rest_none false fault rest e = e

-- what is so of bytes that are not refused
pub record Clear (bytes : List ℕ) : Type 0 where
  pub within : length bytes ≤ 256
  pub known : (fixed_len (slice_index bytes 0) == 0) ≡ false
  pub fixed : fixed_len (slice_index bytes 0) ≤ length bytes
  pub format : has_bad_format bytes ≡ false
  pub full : full_len bytes ≤ length bytes

clear : (bytes : List ℕ) → fault_of bytes ≡ None → Clear bytes
clear bytes e =
    let a = rest_none (nat_lt 256 (length bytes)) Long _ e in
    let b = rest_none (length bytes == 0) (Short 1) _ a in
    let c = rest_none (fixed_len (slice_index bytes 0) == 0) (UnknownType (slice_index bytes 0)) _ b in
    let d = rest_none (nat_lt (length bytes) (fixed_len (slice_index bytes 0))) (Short (fixed_len (slice_index bytes 0))) _ c in
    let f = rest_none (has_bad_format bytes) (BadFormat (slice_index bytes 5)) _ d in
    record {
      within = ltb-false 256 (length bytes) (first_none (nat_lt 256 (length bytes)) Long _ e);
      known = first_none (fixed_len (slice_index bytes 0) == 0) (UnknownType (slice_index bytes 0)) _ b;
      fixed = ltb-false (length bytes) (fixed_len (slice_index bytes 0)) (first_none (nat_lt (length bytes) (fixed_len (slice_index bytes 0))) (Short (fixed_len (slice_index bytes 0))) _ c);
      format = first_none (has_bad_format bytes) (BadFormat (slice_index bytes 5)) _ d;
      full = ltb-false (length bytes) (full_len bytes) (first_none (nat_lt (length bytes) (full_len bytes)) (Short (full_len bytes)) _ f);
    }

-- a buffer that bytes of this format begin with
buffer_at : (format count : ℕ) (bytes : List ℕ) → format < 3 → (b : Buffer) × SpellsBuffer format count bytes b
buffer_at zero count bytes h = (Absent, refl)
buffer_at (suc zero) count bytes h = (Direct (desc_of bytes), record { direct = refl; named = refl })
buffer_at (suc (suc zero)) count bytes h = (
  Indirect (desc_of bytes) (field 16 4 bytes) (record { items = descs_of count (drop 20 bytes) }),
  record { indirect = refl; at_table = refl; in_all = refl; listed = refl },
)
buffer_at (suc (suc (suc n))) count bytes h = absurd (omega (arith, h))

-- bytes spell a unit
abbrev pub SpellOne : List ℕ → Type 0
SpellOne bytes = (iu : Iu) × Spells bytes iu

tag_alone : (bytes : List ℕ) → Clear bytes → slice_index bytes 0 ≡ 0x03 → SpellOne bytes
tag_alone bytes c e =
    let full : 16 ≤ length bytes = rw e at c.fixed in
    (units.ILogout (field 8 8 bytes), record { within = c.within; unit = record { kind = e; full = full; tagged = refl } })

login_req : (bytes : List ℕ) → Clear bytes → slice_index bytes 0 ≡ 0x00 → SpellOne bytes
login_req bytes c e =
    let full : 64 ≤ length bytes = rw e at c.fixed in (
      units.LoginReq (record {
        tag = field 8 8 bytes;
        iu_len = field 16 4 bytes;
        formats = field 24 2 bytes;
        flags = slice_index bytes 26;
        initiator = part 32 16 bytes;
        target = part 48 16 bytes;
      }),
      record { within = c.within; unit = record { kind = e; full = full; tag = refl; iu_len = refl; formats = refl; flags = refl; initiator = refl; target = refl } },
    )

login_rsp : (bytes : List ℕ) → Clear bytes → slice_index bytes 0 ≡ 0xC0 → SpellOne bytes
login_rsp bytes c e =
    let full : 52 ≤ length bytes = rw e at c.fixed in (
      units.LoginRsp (record {
        delta = field 4 4 bytes;
        tag = field 8 8 bytes;
        max_in = field 16 4 bytes;
        max_out = field 20 4 bytes;
        formats = field 24 2 bytes;
        flags = slice_index bytes 26;
      }),
      record { within = c.within; unit = record { kind = e; full = full; delta = refl; tag = refl; max_in = refl; max_out = refl; formats = refl; flags = refl } },
    )

login_rej : (bytes : List ℕ) → Clear bytes → slice_index bytes 0 ≡ 0xC2 → SpellOne bytes
login_rej bytes c e =
    let full : 32 ≤ length bytes = rw e at c.fixed in (
      units.LoginRej (record {
        reason = field 4 4 bytes;
        tag = field 8 8 bytes;
        formats = field 24 2 bytes;
      }),
      record { within = c.within; unit = record { kind = e; full = full; reason = refl; tag = refl; formats = refl } },
    )

task : (bytes : List ℕ) → Clear bytes → slice_index bytes 0 ≡ 0x01 → SpellOne bytes
task bytes c e =
    let full : 48 ≤ length bytes = rw e at c.fixed in (
      units.TskMgmt (record {
        tag = field 8 8 bytes;
        lun = field 20 8 bytes;
        function = slice_index bytes 30;
        task = field 32 8 bytes;
      }),
      record { within = c.within; unit = record { kind = e; full = full; tag = refl; lun = refl; function = refl; task = refl } },
    )

cred_rsp : (bytes : List ℕ) → Clear bytes → slice_index bytes 0 ≡ 0x41 → SpellOne bytes
cred_rsp bytes c e =
    let full : 16 ≤ length bytes = rw e at c.fixed in
    (units.CredRsp (field 8 8 bytes), record { within = c.within; unit = record { kind = e; full = full; tagged = refl } })

t_logout : (bytes : List ℕ) → Clear bytes → slice_index bytes 0 ≡ 0x80 → SpellOne bytes
t_logout bytes c e =
    let full : 16 ≤ length bytes = rw e at c.fixed in
    (units.TLogout (field 4 4 bytes) (field 8 8 bytes), record { within = c.within; unit = record { kind = e; full = full; numbered = refl; tagged = refl } })

cred_req : (bytes : List ℕ) → Clear bytes → slice_index bytes 0 ≡ 0x81 → SpellOne bytes
cred_req bytes c e =
    let full : 16 ≤ length bytes = rw e at c.fixed in
    (units.CredReq (field 4 4 bytes) (field 8 8 bytes), record { within = c.within; unit = record { kind = e; full = full; numbered = refl; tagged = refl } })

response : (bytes : List ℕ) → Clear bytes → slice_index bytes 0 ≡ 0xC1 → SpellOne bytes
response bytes c e =
    let full : 36 + response_len bytes + sense_len bytes ≤ length bytes = rw e at c.full in (
      units.Rsp (record {
        delta = field 4 4 bytes;
        tag = field 8 8 bytes;
        flags = slice_index bytes 18;
        status = slice_index bytes 19;
        out_residual = field 20 4 bytes;
        in_residual = field 24 4 bytes;
        response = record { items = part 36 (response_len bytes) bytes };
        sense = record { items = part (36 + response_len bytes) (sense_len bytes) bytes };
      }),
      record {
        within = c.within;
        unit = record {
          kind = e;
          full = full;
          delta = refl;
          tag = refl;
          flags = refl;
          status = refl;
          out_residual = refl;
          in_residual = refl;
          response = refl;
          sense = refl;
        };
      },
    )

command : (bytes : List ℕ) → Clear bytes → slice_index bytes 0 ≡ 0x02 → SpellOne bytes
command bytes c e =
    let full : cmd_len bytes ≤ length bytes = rw e at c.full in
    let formats : (nat_lt 2 (out_format bytes) || nat_lt 2 (in_format bytes)) ≡ false = rw e at c.format in
    let parts = or_parts (nat_lt 2 (out_format bytes)) (nat_lt 2 (in_format bytes)) formats in
    let out_good = ltb-false 2 (out_format bytes) parts.0 in
    let in_good = ltb-false 2 (in_format bytes) parts.1 in
    let out = buffer_at (out_format bytes) (slice_index bytes 6) (drop (out_at bytes) bytes) (omega (arith, out_good)) in
    let inn = buffer_at (in_format bytes) (slice_index bytes 7) (drop (in_at bytes) bytes) (omega (arith, in_good)) in (
      units.Cmd (record {
        tag = field 8 8 bytes;
        lun = field 20 8 bytes;
        attribute = slice_index bytes 29 % 8;
        cdb = part 32 16 bytes;
        more = record { items = part 48 (more_len bytes) bytes };
        out = out.0;
        inn = inn.0;
      }),
      record {
        within = c.within;
        unit = record {
          kind = e;
          full = full;
          tag = refl;
          lun = refl;
          attribute = refl;
          cdb = refl;
          more = refl;
          out = out.1;
          inn = inn.1;
        };
      },
    )

-- a number is this one, or the test of it fails
tested : (b : Bool) (k n : ℕ) → (k == n) ≡ b → (k ≡ n) ⊎ ((k == n) ≡ false)
tested true k n e = inl (eqb-true k n e)
tested false k n e = inr e

test : (k n : ℕ) → (k ≡ n) ⊎ ((k == n) ≡ false)
test k n = tested (k == n) k n refl

-- a byte that is no type has no length
no_type : (k : ℕ) → (k == 0x00) ≡ false → (k == 0x01) ≡ false → (k == 0x02) ≡ false → (k == 0x03) ≡ false → (k == 0x41) ≡ false
    → (k == 0x80) ≡ false → (k == 0x81) ≡ false → (k == 0xC0) ≡ false → (k == 0xC1) ≡ false → (k == 0xC2) ≡ false → (fixed_len k == 0) ≡ true
no_type k a b c d e f g h i j = rw (a, b, c, d, e, f, g, h, i, j) refl

both_ways : (b : Bool) → b ≡ true → b ≡ false → ⊥
both_ways b e f = cc (e, f)

-- bytes that are not refused spell a unit
pub unrefused_spell : (bytes : List ℕ) → fault_of bytes ≡ None → SpellOne bytes
unrefused_spell bytes none =
    let c = clear bytes none in
    let k : ℕ = slice_index bytes 0 in
    elim (test k 0x00) [
      | inl e ↦ login_req bytes c e
      | inr n0 ↦ elim (test k 0x01) [
        | inl e ↦ task bytes c e
        | inr n1 ↦ elim (test k 0x02) [
          | inl e ↦ command bytes c e
          | inr n2 ↦ elim (test k 0x03) [
            | inl e ↦ tag_alone bytes c e
            | inr n3 ↦ elim (test k 0x41) [
              | inl e ↦ cred_rsp bytes c e
              | inr n4 ↦ elim (test k 0x80) [
                | inl e ↦ t_logout bytes c e
                | inr n5 ↦ elim (test k 0x81) [
                  | inl e ↦ cred_req bytes c e
                  | inr n6 ↦ elim (test k 0xC0) [
                    | inl e ↦ login_rsp bytes c e
                    | inr n7 ↦ elim (test k 0xC1) [
                      | inl e ↦ response bytes c e
                      | inr n8 ↦ elim (test k 0xC2) [
                        | inl e ↦ login_rej bytes c e
                        | inr n9 ↦ absurd (both_ways (fixed_len k == 0) (no_type k n0 n1 n2 n3 n4 n5 n6 n7 n8 n9) c.known)
                      ]
                    ]
                  ]
                ]
              ]
            ]
          ]
        ]
      ]
    ]
