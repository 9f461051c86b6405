-- The entries that a server unit puts into its client's queue (LoPAR, "Command/Response Queue Entries"; SRP,
-- "Information unit classes").
use Rattle.std.specs.Prelude.{◌≡◌, ◌==◌, ◌&&◌, ◌||◌, ℕ, Bool, true, false}
use Rattle.vio_num.specs.declared.entry.Entry.{Entry}
use Rattle.vio_num.specs.Entry.{initialize, initialization_complete, iu_length, is_srp_of_length, partner_freed, srp_entry}

-- the lengths in bytes of the answers: RSP without lists, with response data, and with sense data; LOGIN_RSP; LOGIN_REJ
abbrev pub rsp_len : ℕ
rsp_len = 36

abbrev pub rsp_code_len : ℕ
rsp_code_len = 40

abbrev pub rsp_sense_len : ℕ
rsp_sense_len = 54

abbrev pub login_rsp_len : ℕ
login_rsp_len = 52

abbrev pub login_rej_len : ℕ
login_rej_len = 32

-- whether an entry answers a command or a task
abbrev pub is_response : Entry → Bool
is_response e = is_srp_of_length rsp_len e || (is_srp_of_length rsp_code_len e || is_srp_of_length rsp_sense_len e)

-- whether it grants a login, and whether it rejects one
abbrev pub is_login_response : Entry → Bool
is_login_response e = is_srp_of_length login_rsp_len e

abbrev pub is_login_rejection : Entry → Bool
is_login_rejection e = is_srp_of_length login_rej_len e

-- an entry that answers no request
pub record IsPlain (e : Entry) : Type 0 where
  pub no_response : is_response e ≡ false
  pub no_login : is_login_response e ≡ false
  pub no_rejection : is_login_rejection e ≡ false

-- the answer to a management datagram with this low half: bytes 0x80 0x02 0x00 0xF1, and zeros up to the low half
abbrev pub datagram_answer : ℕ → Entry
datagram_answer low = record { high = 0x8002_00F1_0000_0000; low = low }

-- whether two entries are the same in all their sixteen bytes
abbrev pub same_entry : Entry → Entry → Bool
same_entry a b = (a.high == b.high) && (a.low == b.low)

-- whether a response to a command or a task may have this length, and whether any answer to a request may
abbrev pub is_response_len : ℕ → Bool
is_response_len n = (n == rsp_len) || ((n == rsp_code_len) || (n == rsp_sense_len))

abbrev pub is_answer_len : ℕ → Bool
is_answer_len n = is_response_len n || ((n == login_rsp_len) || (n == login_rej_len))

-- whether an entry answers a request: the SRP entry of its information unit's length, whole
abbrev pub is_answer : Entry → Bool
is_answer e = is_answer_len (iu_length e) && same_entry e (srp_entry (iu_length e) e.low)

-- whether a unit may put an entry: an answer to a request or to a datagram, an entry of the initialisation, or the event
-- that it is free; and no other
abbrev pub may_put : Entry → Bool
may_put e =
    is_answer e
    || (same_entry e (datagram_answer e.low)
    || (same_entry e initialize
    || (same_entry e initialization_complete
    || same_entry e partner_freed)))

abbrev pub MayPut : Entry → Type 0
MayPut e = may_put e ≡ true
