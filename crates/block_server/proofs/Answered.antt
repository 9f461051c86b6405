-- The bytes of a response answer a row.
use Rattle.std.proofs.Common.{◌≡◌, ℕ, ◌+◌, Option, Some, None, List, [], ◌∷◌, bit_and, true, ◌⊎◌, inl, inr, refl}
use Rattle.srp_iu.specs.declared.residual.Residual.{Residual}
use Rattle.srp_iu.specs.declared.residual.Residual.TheVariants.{Exact, Under, Over}
use Rattle.srp_iu.specs.declared.response.Rsp.{Rsp}
use Rattle.srp_iu.specs.declared.unit.Iu.TheVariants as units
use Rattle.srp_iu.specs.Grammar.{Canon}
use Rattle.srp_iu.specs.Residual.{in_flag, out_flag}
use Rattle.block_server.specs.Entries.{is_response_len}
use Rattle.block_server.specs.Responses.{Answers, sense_flag, sense_of}

pub answers_of : (bytes : List ℕ) (P : Rsp → Type 0) (r : Rsp) → Canon bytes (units.Rsp r) → P r → Answers bytes P
answers_of [] P r canon holds = tt
answers_of (byte ∷ bytes) P r canon holds = (r, canon, holds)

-- where no flag announces sense data there are none
pub no_sense : (sense : Option (List ℕ)) (out inn : Residual) → bit_and (sense_flag sense + out_flag out + in_flag inn) 2 ≡ 0 → sense_of sense ≡ []
no_sense None out inn e = refl
no_sense (Some s) Exact Exact e = absurd (cc (e))
no_sense (Some s) Exact (Under n) e = absurd (cc (e))
no_sense (Some s) Exact (Over n) e = absurd (cc (e))
no_sense (Some s) (Under m) Exact e = absurd (cc (e))
no_sense (Some s) (Under m) (Under n) e = absurd (cc (e))
no_sense (Some s) (Under m) (Over n) e = absurd (cc (e))
no_sense (Some s) (Over m) Exact e = absurd (cc (e))
no_sense (Some s) (Over m) (Under n) e = absurd (cc (e))
no_sense (Some s) (Over m) (Over n) e = absurd (cc (e))

-- the length of a response that has no response data, and sense data of 18 bytes or none
pub status_len : (len response sense : ℕ) → len ≡ 36 + response + sense → response ≡ 0 → (sense ≡ 0) ⊎ (sense ≡ 18) → is_response_len len ≡ true
status_len len response sense is none (inl no_sense) = rw (is, none, no_sense) refl
status_len len response sense is none (inr some) = rw (is, none, some) refl
