-- The answers to requests to log in of a run: which of them a client's queue got, by the lines of its server unit, and that none
-- was dropped (SRP, "Login process").
use Rattle.std.specs.Prelude.{◌≡◌, ◌⊎◌, ◌++◌, ℕ, Bool, true, List, [], IfSome, filter, length, map, slice_get}
use Rattle.std.specs.List.{Contains}
use Rattle.crq_ring.specs.declared.rows.PipeRow.{PipeRow}
use Rattle.vio_num.specs.declared.entry.Entry.{Entry}
use Rattle.vio_num.specs.declared.history.Grant.{Grant}
use Rattle.vio_num.specs.declared.names.UnitId.{UnitId}
use Rattle.block_server.specs.Asked.{AreAskedInOrder, AskedAt, still_to_answer}
use Rattle.block_server.specs.Causes.{Hearing, Told, told_to}
use Rattle.block_server.specs.Dealt.{AreDealt, AsksNoLogin, IsLoginAnswered, TookNoEvent, TookNoEventFrom}
use Rattle.block_server.specs.Granting.{IsSrpAt}
use Rattle.block_server.specs.LoginAnswers.{LoginsMore, asked_at, is_login_answer}
use Rattle.block_server.specs.Makers.{same_unit}
use Rattle.block_server.specs.Receipts.{is_ended, unit_of}
use Rattle.block_server.specs.Rejecting.{IsOnByLines, RejectInTime}
use Rattle.block_server.specs.declared.unit.Unit.{Unit}
use Rattle.boot_text.specs.Sound.{IsClientOf, IsServer}
use Rattle.boot_text.specs.declared.plan.Partition.{Partition}
use Rattle.vio_trace.specs.declared.rows.Trace.{Trace}
use Rattle.vcpu_run.specs.AnswersSent.{sent_to}
use Rattle.vcpu_run.specs.Intake.{entries_taken}
use Rattle.vcpu_run.specs.RowsCopied.{shown_to}
use Rattle.vcpu_run.specs.Shown.{sessions_of}

-- the lines of a unit
abbrev pub lines_by : UnitId → List Grant → List Grant
lines_by unit lines = filter (λ line. same_unit (unit_of line) unit) lines

-- These answers to requests to log in were put by a unit, each a grant or a rejection; and the unit's lines that grant a login are
-- those of the answers that do, one each, in their order.
abbrev pub AreLoginsPut : (Hears : Hearing) → UnitId → (taken : List PipeRow) → (answers : List Entry) → (lines : List Grant) → Type 0
AreLoginsPut Hears unit taken answers lines = LoginsMore Hears taken [] answers [] (lines_by unit lines)

-- And they are to requests that were asked in this order: none of them was answered twice; and each that rejects one does so by the
-- login that was on, or for another cause where none was, as the lines say that stood then.
pub record AreLoginsInOrder (Hears : Hearing) (unit : UnitId) (taken : List PipeRow) (answers : List Entry) (lines : List Grant) : Type 0 where
  pub put : AreLoginsPut Hears unit taken answers lines
  pub order : AreAskedInOrder (map asked_at put.more)
  pub rejects : RejectInTime unit [] (lines_by unit lines) put.more

-- the answers to requests to log in among what a trace shows as sent to a unit's queue
abbrev pub logins_to : Trace → UnitId → List Entry
logins_to trace unit = filter is_login_answer (sent_to trace unit)

-- So it is of the entries of the lengths of such answers that were sent to the queue of each server unit's client.
abbrev pub LoginsAreSent : List Partition → Trace → Type 0
LoginsAreSent partitions trace =
    (server client : UnitId) → IsServer partitions server → IsClientOf partitions client server
    → ∥ AreLoginsInOrder (shown_to partitions trace server client) server (entries_taken trace server) (logins_to trace client) trace.grants ∥₁

-- The login of an SRP entry was granted or rejected by a copy of the answer over its request; and where no event was taken in the
-- session, that answer is one of those to the requests asked at these places.
pub record IsLoginGiven (Hears : Hearing) (session : ℕ) (taken : List PipeRow) (put : List AskedAt) (number : ℕ) : Type 0 where
  pub answered : IsLoginAnswered Hears taken session number
  pub given : TookNoEvent session taken → Contains put (record { session = session; number = number })

-- No request to log in of the session was dropped, unless an event was taken behind it: each SRP entry asked for no login, or was so
-- answered.
abbrev pub AreLoginsAnswered : (Hears : Hearing) → (session : ℕ) → (taken : List PipeRow) → (put : List AskedAt) → Type 0
AreLoginsAnswered Hears session taken put = (number : ℕ) (entry : Entry) → IsSrpAt taken session number entry → TookNoEventFrom session number taken
    → AsksNoLogin Hears entry ⊎ IsLoginGiven Hears session taken put number

-- The answers are as above, and are those to all requests of this session that were not dropped.
pub record AreLoginsDealt (Hears : Hearing) (unit : UnitId) (session : ℕ) (taken : List PipeRow) (answers : List Entry) (lines : List Grant) : Type 0 where
  pub sent : AreLoginsInOrder Hears unit taken answers lines
  pub answered : AreLoginsAnswered Hears session taken (map asked_at sent.put.more)

-- So it is of the last session of each server unit that has a client.
abbrev pub LoginsAreAnswered : List Partition → Trace → Type 0
LoginsAreAnswered partitions trace =
    (server client : UnitId) → IsServer partitions server → IsClientOf partitions client server
    → ∥ AreLoginsDealt (shown_to partitions trace server client) server (length (sessions_of trace server)) (entries_taken trace server) (logins_to trace client) trace.grants ∥₁

-- Between turns: unit k put these answers, and the requests that it has still to answer were asked behind those; the lines say which
-- login is on, and was as each was rejected. Each SRP entry was dealt with; and where a send of the present session may have found the
-- client's queue closed, this is so.
pub record GoInOrder (told : Told → Bool) (units : List Unit) (k : ℕ) (unit : UnitId) (session : ℕ) (taken : List PipeRow) (answers : List Entry) (lines : List Grant) (Heard : Type 0) : Type 0 where
  pub put : AreLoginsPut (told_to told unit) unit taken answers lines
  pub asked : IfSome (slice_get units k) (λ u. AreAskedInOrder (map asked_at put.more ++ still_to_answer session taken u.waiting u.pending.items))
  pub rejects : RejectInTime unit [] (lines_by unit lines) put.more
  pub on : IfSome (slice_get units k) (λ u. IsOnByLines unit session u.logins.current (is_ended u.line) lines)
  pub closed : Bool
  pub dealt : IfSome (slice_get units k)
      (λ u. AreDealt (told_to told unit) session taken u.waiting u.pending.items (is_ended u.line) (record { put = map asked_at put.more; closed = λ q. closed }))
  pub heard : closed ≡ true → Heard
