-- Entries that a unit may put.
use Rattle.std.proofs.Common.{◌≡◌, ℕ, ◌==◌, ◌&&◌, ◌||◌, Bool, true, false, IfSome, refl, ap}
use Rattle.vio_num.specs.Entry.{iu_length, srp_entry}
use Rattle.std.proofs.lemmas.Bool.{eq-eqb}
use Rattle.crq_session.specs.declared.handshake.Step.{Step}
use Rattle.crq_session.specs.declared.handshake.Step.TheVariants.{Nothing, SendInitialize, SendComplete}
use Rattle.crq_session.specs.Handshake.{step_entry}
use Rattle.block_server.specs.Entries.{IsPlain, MayPut, datagram_answer, is_answer_len}

pub step_may : (step : Step) → IfSome (step_entry step) MayPut
step_may Nothing = tt
step_may SendInitialize = refl
step_may SendComplete = refl

pub step_plain : (step : Step) → IfSome (step_entry step) IsPlain
step_plain Nothing = tt
step_plain SendInitialize = record { no_response = refl; no_login = refl; no_rejection = refl }
step_plain SendComplete = record { no_response = refl; no_login = refl; no_rejection = refl }

pub datagram_may : (low : ℕ) → MayPut (datagram_answer low)
datagram_may low = ap (λ (same : Bool). same || (false || (false || false))) (eq-eqb low low refl)

pub answer_may : (n low : ℕ) → is_answer_len n ≡ true → iu_length (srp_entry n low) ≡ n → MayPut (srp_entry n low)
answer_may n low len is =
    let whole : (◌==◌ (srp_entry n low).high (srp_entry n low).high && ◌==◌ low low) ≡ true = rw (eq-eqb (srp_entry n low).high (srp_entry n low).high refl, eq-eqb low low refl) refl in
    rw (is, len, whole) refl
