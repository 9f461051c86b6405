-- A send that was refused met an own queue that is not registered: what a unit puts begins with a used entry's first byte.
use Rattle.std.proofs.Common.{◌≡◌, ◌⊎◌, inl, inr, ◌↔◌, ◌+◌, ◌++◌, ◌==◌, ◌&&◌, ◌||◌, ◌<◌, ◌≤◌, ℕ, Bool, true, false, slice_index, refl, ◌∙◌, ap, arith}
use Rattle.std.proofs.lemmas.Bool.{eqb-true}
use Rattle.byteorder.specs.Endian.{big_bytes}
use Rattle.vio_num.specs.declared.entry.Entry.{Entry}
use Rattle.vio_num.specs.Entry.{first_byte, initialize, initialization_complete, is_srp_entry, iu_length, partner_freed, srp_entry}
use Rattle.crq_session.specs.Answered.{MaySend, SendsUnregistered}
use Rattle.crq_session.specs.Answers.{OnNotSent, OnReached}
use Rattle.crq_session.specs.EndState.{EndState}
use Rattle.crq_session.specs.declared.answers.SendAnswer.{SendAnswer}
use Rattle.crq_session.specs.declared.answers.SendAnswer.TheVariants as sending
use Rattle.block_server.specs.Entries.{MayPut, datagram_answer, is_answer, is_answer_len, is_response, is_response_len, same_entry}
use Rattle.block_server.specs.LoginAnswers.{is_login_answer}

either : (a b : Bool) → (a || b) ≡ true → (a ≡ true) ⊎ (b ≡ true)
either true b is = inl refl
either false b is = inr is

both : (a b : Bool) → (a && b) ≡ true → (a ≡ true) × (b ≡ true)
both true true is = (refl, refl)
both true false is = absurd (cc (is))
both false b is = absurd (cc (is))

-- an entry with this high half
used : (e : Entry) (high first : ℕ) → e.high ≡ high → slice_index (big_bytes 8 high ++ big_bytes 8 e.low) 0 ≡ first → 0x80 ≤ first → 0x80 ≤ first_byte e
used e high first same is some =
    let at : first_byte e ≡ first = ap (λ (h : ℕ). slice_index (big_bytes 8 h ++ big_bytes 8 e.low) 0) same ∙ is in
    omega (arith, at, some)

same_high : (e other : Entry) → same_entry e other ≡ true → e.high ≡ other.high
same_high e other same = eqb-true e.high other.high (both (e.high == other.high) (e.low == other.low) same).0

answer_used : (e : Entry) (n : ℕ) → is_answer_len n ≡ true → e.high ≡ 0x8001_0000_0000_0000 + n → 0x80 ≤ first_byte e
answer_used e n len high = by (either (is_response_len n) ((n == 52) || (n == 32)) len)
  where
    at : (m : ℕ) → (n == m) ≡ true → e.high ≡ 0x8001_0000_0000_0000 + m
    at m same = high ∙ ap (λ (k : ℕ). 0x8001_0000_0000_0000 + k) (eqb-true n m same)

    login : (n == 52) ≡ true ⊎ ((n == 32) ≡ true) → 0x80 ≤ first_byte e
    login (inl is) = used e 0x8001_0000_0000_0034 0x80 (at 52 is) refl (omega arith)
    login (inr is) = used e 0x8001_0000_0000_0020 0x80 (at 32 is) refl (omega arith)

    sense : ((n == 40) ≡ true) ⊎ ((n == 54) ≡ true) → 0x80 ≤ first_byte e
    sense (inl is) = used e 0x8001_0000_0000_0028 0x80 (at 40 is) refl (omega arith)
    sense (inr is) = used e 0x8001_0000_0000_0036 0x80 (at 54 is) refl (omega arith)

    response : ((n == 36) ≡ true) ⊎ (((n == 40) || (n == 54)) ≡ true) → 0x80 ≤ first_byte e
    response (inl is) = used e 0x8001_0000_0000_0024 0x80 (at 36 is) refl (omega arith)
    response (inr is) = sense (either (n == 40) (n == 54) is)

    by : (is_response_len n ≡ true) ⊎ (((n == 52) || (n == 32)) ≡ true) → 0x80 ≤ first_byte e
    by (inl is) = response (either (n == 36) ((n == 40) || (n == 54)) is)
    by (inr is) = login (either (n == 52) (n == 32) is)

pub may_used : (e : Entry) → MayPut e → 0x80 ≤ first_byte e
may_used e may = by (either (is_answer e) _ may)
  where
    others : (same_entry e (datagram_answer e.low) || (same_entry e initialize || (same_entry e initialization_complete || same_entry e partner_freed))) ≡ true → 0x80 ≤ first_byte e
    others is = first (either (same_entry e (datagram_answer e.low)) _ is)
      where
        third : (same_entry e initialization_complete ≡ true) ⊎ (same_entry e partner_freed ≡ true) → 0x80 ≤ first_byte e
        third (inl same) = used e 0xC002_0000_0000_0000 0xC0 (same_high e initialization_complete same) refl (omega arith)
        third (inr same) = used e 0xFF02_0000_0000_0000 0xFF (same_high e partner_freed same) refl (omega arith)

        second : (same_entry e initialize ≡ true) ⊎ ((same_entry e initialization_complete || same_entry e partner_freed) ≡ true) → 0x80 ≤ first_byte e
        second (inl same) = used e 0xC001_0000_0000_0000 0xC0 (same_high e initialize same) refl (omega arith)
        second (inr rest) = third (either (same_entry e initialization_complete) (same_entry e partner_freed) rest)

        first : (same_entry e (datagram_answer e.low) ≡ true)
            ⊎ ((same_entry e initialize || (same_entry e initialization_complete || same_entry e partner_freed)) ≡ true) → 0x80 ≤ first_byte e
        first (inl same) = used e 0x8002_00F1_0000_0000 0x80 (same_high e (datagram_answer e.low) same) refl (omega arith)
        first (inr rest) = second (either (same_entry e initialize) (same_entry e initialization_complete || same_entry e partner_freed) rest)

    by : (is_answer e ≡ true) ⊎ ((same_entry e (datagram_answer e.low) || (same_entry e initialize || (same_entry e initialization_complete || same_entry e partner_freed))) ≡ true)
        → 0x80 ≤ first_byte e
    by (inl is) =
        let parts = both (is_answer_len (iu_length e)) (same_entry e (srp_entry (iu_length e) e.low)) is in
        answer_used e (iu_length e) parts.0 (same_high e (srp_entry (iu_length e) e.low) parts.1)
    by (inr is) = others is

-- what a unit puts that answers nothing is no SRP entry
pub may_plain : (e : Entry) → MayPut e → is_response e ≡ false → is_login_answer e ≡ false → is_srp_entry e ≡ false
may_plain e may response login = by (is_srp_entry e) refl
  where
    lens : (s a b c d f : Bool) → s ≡ true → (s && a) || ((s && b) || (s && c)) ≡ false → (s && d) || (s && f) ≡ false → (a || (b || c)) || (d || f) ≡ false
    lens true a b c d f on first next = ap (λ (x : Bool). x || (d || f)) first ∙ next
    lens false a b c d f on first next = absurd (cc (on))

    after : (a b : Bool) → (a || b) ≡ true → a ≡ false → b ≡ true
    after true b is off = absurd (cc (off))
    after false b is off = is

    high : (h : ℕ) → e.high ≡ h → is_srp_entry (record { high = h; low = e.low }) ≡ false → is_srp_entry e ≡ false
    high h same off = ap (λ (x : ℕ). is_srp_entry (record { high = x; low = e.low })) same ∙ off

    third : (same_entry e initialization_complete ≡ true) ⊎ (same_entry e partner_freed ≡ true) → is_srp_entry e ≡ false
    third (inl same) = high 0xC002_0000_0000_0000 (same_high e initialization_complete same) refl
    third (inr same) = high 0xFF02_0000_0000_0000 (same_high e partner_freed same) refl

    second : (same_entry e initialize ≡ true) ⊎ ((same_entry e initialization_complete || same_entry e partner_freed) ≡ true) → is_srp_entry e ≡ false
    second (inl same) = high 0xC001_0000_0000_0000 (same_high e initialize same) refl
    second (inr rest) = third (either (same_entry e initialization_complete) (same_entry e partner_freed) rest)

    first : (same_entry e (datagram_answer e.low) ≡ true)
        ⊎ ((same_entry e initialize || (same_entry e initialization_complete || same_entry e partner_freed)) ≡ true) → is_srp_entry e ≡ false
    first (inl same) = high 0x8002_00F1_0000_0000 (same_high e (datagram_answer e.low) same) refl
    first (inr rest) = second (either (same_entry e initialize) (same_entry e initialization_complete || same_entry e partner_freed) rest)

    by : (s : Bool) → is_srp_entry e ≡ s → is_srp_entry e ≡ false
    by false is = is
    by true is =
        let n = iu_length e in
        let none : is_answer e ≡ false = ap (λ (x : Bool). x && same_entry e (srp_entry n e.low))
        (lens (is_srp_entry e) (n == 36) (n == 40) (n == 54) (n == 52) (n == 32) is response login) in
        first (either (same_entry e (datagram_answer e.low)) _ (after (is_answer e) _ may none))

-- A send of such an entry.
pub send_refused : (result : SendAnswer) (old : EndState) (entry : Entry) → MayPut entry → (result ≡ sending.Parameter) ↔ (first_byte entry < 0x80)
    → (result ≡ sending.NotRegistered) ↔ SendsUnregistered old entry → OnNotSent result (old.registered ≡ false)
send_refused (sending.Success number) old entry may low off = tt
send_refused sending.Parameter old entry may low off = absurd (omega (arith, may_used entry may, low.0 refl))
send_refused sending.NotRegistered old entry may low off = (off.0 refl).1
send_refused (sending.Closed control) old entry may low off = tt
send_refused (sending.Dropped number held) old entry may low off = tt

pub send_reached : (result : SendAnswer) (old : EndState) (entry : Entry) → OnReached result (MaySend old entry) → OnReached result (old.registered ≡ true)
send_reached (sending.Success number) old entry may = may.registered
send_reached sending.Parameter old entry may = tt
send_reached sending.NotRegistered old entry may = tt
send_reached (sending.Closed control) old entry may = may.registered
send_reached (sending.Dropped number held) old entry may = may.registered
