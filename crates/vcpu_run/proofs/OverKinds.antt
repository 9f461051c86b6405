-- Kinds of entries: one of the initialisation, an event, an SRP entry; none is of two kinds.
use Rattle.std.proofs.Common.{◌≡◌, inl, inr, ℕ, ◌==◌, ◌&&◌, Bool, true, false, cond, refl, ap, ◌∙◌, arith}
use Rattle.std.proofs.lemmas.Bool.{eqb-true}
use Rattle.vio_num.specs.Entry.{entry_format, first_byte, initialization_complete, initialize, is_srp_entry, kind_of}
use Rattle.vio_num.specs.declared.entry.Entry.{Entry}
use Rattle.vio_num.specs.declared.entry.Kind.TheVariants.{Command, Event, Init, Reserved, Unused}
use Rattle.block_server.specs.Closings.{is_event}
use Rattle.vcpu_run.specs.OwnOver.{IsShake}

-- ---- first bytes

left_true : (a b : Bool) → (a && b) ≡ true → a ≡ true
left_true true b is = refl
left_true false b is = absurd (cc (is))

pub srp_byte : (entry : Entry) → is_srp_entry entry ≡ true → first_byte entry ≡ 0x80
srp_byte entry is = eqb-true (first_byte entry) 0x80 (left_true (first_byte entry == 0x80) (entry_format entry == 0x01) is)

pub event_byte : (entry : Entry) → is_event entry ≡ true → first_byte entry ≡ 0xFF
event_byte entry is = eqb-true (first_byte entry) 0xFF is

pub shake_byte : (entry : Entry) → IsShake entry → first_byte entry ≡ 0xC0
shake_byte entry (inl is) = ap first_byte is
shake_byte entry (inr is) = ap first_byte is

pub init_byte : (entry : Entry) → kind_of (first_byte entry) ≡ Init → first_byte entry ≡ 0xC0
init_byte entry is = eqb-true (first_byte entry) 0xC0 (by (first_byte entry == 0x00) (first_byte entry == 0x80) (first_byte entry == 0xC0) (first_byte entry == 0xFF) is)
  where
    by : (a b c d : Bool) → cond a Unused (cond b Command (cond c Init (cond d Event Reserved))) ≡ Init → c ≡ true
    by true b c d is = absurd (cc (is))
    by false true c d is = absurd (cc (is))
    by false false true d is = refl
    by false false false true is = absurd (cc (is))
    by false false false false is = absurd (cc (is))

pub lost_byte : (entry : Entry) → kind_of (first_byte entry) ≡ Event → first_byte entry ≡ 0xFF
lost_byte entry is = eqb-true (first_byte entry) 0xFF (by (first_byte entry == 0x00) (first_byte entry == 0x80) (first_byte entry == 0xC0) (first_byte entry == 0xFF) is)
  where
    by : (a b c d : Bool) → cond a Unused (cond b Command (cond c Init (cond d Event Reserved))) ≡ Event → d ≡ true
    by true b c d is = absurd (cc (is))
    by false true c d is = absurd (cc (is))
    by false false true d is = absurd (cc (is))
    by false false false true is = refl
    by false false false false is = absurd (cc (is))

pub command_byte : (entry : Entry) → kind_of (first_byte entry) ≡ Command → first_byte entry ≡ 0x80
command_byte entry is = eqb-true (first_byte entry) 0x80 (by (first_byte entry == 0x00) (first_byte entry == 0x80) (first_byte entry == 0xC0) (first_byte entry == 0xFF) is)
  where
    by : (a b c d : Bool) → cond a Unused (cond b Command (cond c Init (cond d Event Reserved))) ≡ Command → b ≡ true
    by true b c d is = absurd (cc (is))
    by false true c d is = refl
    by false false true d is = absurd (cc (is))
    by false false false true is = absurd (cc (is))
    by false false false false is = absurd (cc (is))

-- the kinds of those first bytes
pub init_kind : (entry : Entry) → first_byte entry ≡ 0xC0 → kind_of (first_byte entry) ≡ Init
init_kind entry is = ap kind_of is

pub lost_kind : (entry : Entry) → first_byte entry ≡ 0xFF → kind_of (first_byte entry) ≡ Event
lost_kind entry is = ap kind_of is

-- ---- of one kind alone

pub byte_no_event : (entry : Entry) (n : ℕ) → first_byte entry ≡ n → (n == 0xFF) ≡ false → is_event entry ≡ false
byte_no_event entry n is isnt = ap (λ (b : ℕ). b == 0xFF) is ∙ isnt

pub byte_no_srp : (entry : Entry) (n : ℕ) → first_byte entry ≡ n → (n == 0x80) ≡ false → is_srp_entry entry ≡ false
byte_no_srp entry n is isnt = ap (λ (b : ℕ). (b == 0x80) && (entry_format entry == 0x01)) is ∙ ap (λ (b : Bool). b && (entry_format entry == 0x01)) isnt

pub shake_no_event : (entry : Entry) → IsShake entry → is_event entry ≡ false
shake_no_event entry is = byte_no_event entry 0xC0 (shake_byte entry is) refl

pub shake_no_srp : (entry : Entry) → IsShake entry → is_srp_entry entry ≡ false
shake_no_srp entry is = byte_no_srp entry 0xC0 (shake_byte entry is) refl

pub event_no_srp : (entry : Entry) → is_event entry ≡ true → is_srp_entry entry ≡ false
event_no_srp entry is = byte_no_srp entry 0xFF (event_byte entry is) refl

pub srp_no_event : (entry : Entry) → is_srp_entry entry ≡ true → is_event entry ≡ false
srp_no_event entry is = byte_no_event entry 0x80 (srp_byte entry is) refl

pub begins_apart : initialize ≡ initialization_complete → ⊥
begins_apart same = by refl (ap (λ (e : Entry). e.high) same)
  where
    by : {n : ℕ} → n ≡ 0xC001_0000_0000_0000 → n ≡ 0xC002_0000_0000_0000 → ⊥
    by is other = omega (arith, is, other)
