-- Bytes of information units: what is canonical is spelled, and an answer is still spelled with other bytes behind it.
use Rattle.std.proofs.Common.{◌≡◌, ◌∙◌, ℕ, zero, suc, ◌+◌, ◌*◌, ◌^◌, ◌<◌, ◌≤◌, ◌++◌, List, drop, length, length-append, length-drop, refl, sym, take, ap, ap₂, arith}
use Rattle.std.specs.Prelude.{slice_index}
use Rattle.std.proofs.lemmas.List.{drop-append-le, take-append-le}
use Rattle.std.proofs.lemmas.List.{get_or_append_left}
use Rattle.byteorder.specs.Endian.{big_from, big_number}
use Rattle.srp_iu.specs.Grammar.{Canon, Spells}
use Rattle.srp_iu.specs.Layout.{field, part}
use Rattle.srp_iu.specs.Login.{SpellsLoginRej, SpellsLoginRsp}
use Rattle.srp_iu.specs.Response.{SpellsRsp, list_len, response_len, sense_len}
use Rattle.srp_iu.specs.declared.login.LoginRej.{LoginRej}
use Rattle.srp_iu.specs.declared.login.LoginRsp.{LoginRsp}
use Rattle.srp_iu.specs.declared.response.Rsp.{Rsp}
use Rattle.srp_iu.specs.declared.response.TheConstants.{RSPVALID, SNSVALID}
use Rattle.srp_iu.specs.declared.unit.Iu.{Iu}
use Rattle.srp_iu.specs.declared.unit.Iu.TheVariants as units

-- ---- canonical bytes

pub canon_spells : (bytes : List ℕ) (iu : Iu) → Canon bytes iu → Spells bytes iu
canon_spells bytes (units.LoginReq r) canon = record { within = canon.within; unit = canon.unit.spells }
canon_spells bytes (units.TskMgmt t) canon = record { within = canon.within; unit = canon.unit.spells }
canon_spells bytes (units.Cmd c) canon = record { within = canon.within; unit = canon.unit.spells }
canon_spells bytes (units.ILogout tag) canon = record { within = canon.within; unit = canon.unit.spells }
canon_spells bytes (units.CredRsp tag) canon = record { within = canon.within; unit = canon.unit.spells }
canon_spells bytes (units.TLogout reason tag) canon = record { within = canon.within; unit = canon.unit.spells }
canon_spells bytes (units.CredReq delta tag) canon = record { within = canon.within; unit = canon.unit.spells }
canon_spells bytes (units.LoginRsp r) canon = record { within = canon.within; unit = canon.unit.spells }
canon_spells bytes (units.Rsp r) canon = record { within = canon.within; unit = canon.unit.spells }
canon_spells bytes (units.LoginRej r) canon = record { within = canon.within; unit = canon.unit.spells }

-- there is one byte at least
pub canon_some : (bytes : List ℕ) (iu : Iu) → Canon bytes iu → 1 ≤ length bytes
canon_some bytes (units.LoginReq r) canon = omega (arith, canon.unit.exact)
canon_some bytes (units.TskMgmt t) canon = omega (arith, canon.unit.exact)
canon_some bytes (units.Cmd c) canon = omega (arith, canon.unit.exact)
canon_some bytes (units.ILogout tag) canon = omega (arith, canon.unit.exact)
canon_some bytes (units.CredRsp tag) canon = omega (arith, canon.unit.exact)
canon_some bytes (units.TLogout reason tag) canon = omega (arith, canon.unit.exact)
canon_some bytes (units.CredReq delta tag) canon = omega (arith, canon.unit.exact)
canon_some bytes (units.LoginRsp r) canon = omega (arith, canon.unit.exact)
canon_some bytes (units.Rsp r) canon = omega (arith, canon.unit.exact)
canon_some bytes (units.LoginRej r) canon = omega (arith, canon.unit.exact)

-- ---- with other bytes behind them

pub byte_more : (bytes rest : List ℕ) (at : ℕ) → at < length bytes → slice_index (bytes ++ rest) at ≡ slice_index bytes at
byte_more bytes rest at less = get_or_append_left bytes rest 0 at less

from_more : (bytes rest : List ℕ) (i n : ℕ) → i + n ≤ length bytes → big_from i n (bytes ++ rest) ≡ big_from i n bytes
from_more bytes rest i zero inside = refl
from_more bytes rest i (suc n) inside =
    ap₂ (λ (byte more : ℕ). byte * 256 ^ n + more) (byte_more bytes rest i (omega (arith, inside))) (from_more bytes rest (suc i) n (omega (arith, inside)))

field_more : (bytes rest : List ℕ) (at n : ℕ) → at + n ≤ length bytes → field at n (bytes ++ rest) ≡ field at n bytes
field_more bytes rest at n inside =
    ap (λ (list : List ℕ). big_number n list) (drop-append-le at bytes rest (omega (arith, inside)))
    ∙ from_more (drop at bytes) rest 0 n (omega (arith, inside, length-drop at bytes))

part_more : (bytes rest : List ℕ) (at n : ℕ) → at + n ≤ length bytes → part at n (bytes ++ rest) ≡ part at n bytes
part_more bytes rest at n inside =
    ap (take n) (drop-append-le at bytes rest (omega (arith, inside)))
    ∙ take-append-le n (drop at bytes) rest (omega (arith, inside, length-drop at bytes))

long_more : (bytes rest : List ℕ) → length bytes ≤ length (bytes ++ rest)
long_more bytes rest = omega (arith, length-append bytes rest)

pub granted_more : (bytes rest : List ℕ) (r : LoginRsp) → SpellsLoginRsp bytes r → SpellsLoginRsp (bytes ++ rest) r
granted_more bytes rest r is = record {
  kind = byte_more bytes rest 0 (omega (arith, is.full)) ∙ is.kind;
  full = omega (arith, is.full, long_more bytes rest);
  delta = is.delta ∙ sym (field_more bytes rest 4 4 (omega (arith, is.full)));
  tag = is.tag ∙ sym (field_more bytes rest 8 8 (omega (arith, is.full)));
  max_in = is.max_in ∙ sym (field_more bytes rest 16 4 (omega (arith, is.full)));
  max_out = is.max_out ∙ sym (field_more bytes rest 20 4 (omega (arith, is.full)));
  formats = is.formats ∙ sym (field_more bytes rest 24 2 (omega (arith, is.full)));
  flags = is.flags ∙ sym (byte_more bytes rest 26 (omega (arith, is.full)));
}

pub rejected_more : (bytes rest : List ℕ) (r : LoginRej) → SpellsLoginRej bytes r → SpellsLoginRej (bytes ++ rest) r
rejected_more bytes rest r is = record {
  kind = byte_more bytes rest 0 (omega (arith, is.full)) ∙ is.kind;
  full = omega (arith, is.full, long_more bytes rest);
  reason = is.reason ∙ sym (field_more bytes rest 4 4 (omega (arith, is.full)));
  tag = is.tag ∙ sym (field_more bytes rest 8 8 (omega (arith, is.full)));
  formats = is.formats ∙ sym (field_more bytes rest 24 2 (omega (arith, is.full)));
}

pub response_more : (bytes rest : List ℕ) (r : Rsp) → SpellsRsp bytes r → SpellsRsp (bytes ++ rest) r
response_more bytes rest r is = record {
  kind = byte_more bytes rest 0 (omega (arith, is.full)) ∙ is.kind;
  full = omega (arith, is.full, long_more bytes rest, responses, senses);
  delta = is.delta ∙ sym (field_more bytes rest 4 4 (omega (arith, is.full)));
  tag = is.tag ∙ sym (field_more bytes rest 8 8 (omega (arith, is.full)));
  flags = is.flags ∙ sym flags;
  status = is.status ∙ sym (byte_more bytes rest 19 (omega (arith, is.full)));
  out_residual = is.out_residual ∙ sym (field_more bytes rest 20 4 (omega (arith, is.full)));
  in_residual = is.in_residual ∙ sym (field_more bytes rest 24 4 (omega (arith, is.full)));
  response = is.response ∙ sym (part_more bytes rest 36 (response_len bytes) (omega (arith, is.full))) ∙ ap (λ (n : ℕ). part 36 n (bytes ++ rest)) (sym responses);
  sense = is.sense ∙ sym (part_more bytes rest (36 + response_len bytes) (sense_len bytes) (omega (arith, is.full)))
      ∙ ap₂ (λ (n m : ℕ). part (36 + n) m (bytes ++ rest)) (sym responses) (sym senses);
}
  where
    flags : slice_index (bytes ++ rest) 18 ≡ slice_index bytes 18
    flags = byte_more bytes rest 18 (omega (arith, is.full))

    responses : response_len (bytes ++ rest) ≡ response_len bytes
    responses = ap₂ (λ (f n : ℕ). list_len f RSPVALID n) flags (field_more bytes rest 32 4 (omega (arith, is.full)))

    senses : sense_len (bytes ++ rest) ≡ sense_len bytes
    senses = ap₂ (λ (f n : ℕ). list_len f SNSVALID n) flags (field_more bytes rest 28 4 (omega (arith, is.full)))
