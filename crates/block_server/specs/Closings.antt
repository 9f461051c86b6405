-- Why each line on a login stands there: what the unit took and judged before it (SRP, "Login process"; LoPAR, "Transport Events").
use Rattle.std.specs.Prelude.{◌≡◌, ◌⊎◌, ◌==◌, ◌&&◌, ◌||◌, ◌+◌, ◌<◌, ◌≤◌, ◌++◌, ℕ, Bool, true, false, ⊤, List, [], ◌∷◌, Option, Some, None, IsSome, if◌then◌else◌, length, filter, take}
use Rattle.std.specs.List.{AllPairs, Contains}
use Rattle.crq_ring.specs.Sessions.{of_session}
use Rattle.crq_ring.specs.declared.rows.PipeRow.{PipeRow}
use Rattle.srp_iu.specs.Grammar.{Spells}
use Rattle.srp_iu.specs.declared.unit.Iu.{Iu}
use Rattle.srp_iu.specs.declared.unit.Iu.TheVariants as units
use Rattle.vio_num.specs.Entry.{entry_format, first_byte, iu_length}
use Rattle.vio_num.specs.declared.entry.Entry.{Entry}
use Rattle.vio_num.specs.declared.history.Grant.{Grant}
use Rattle.vio_num.specs.declared.history.Grant.TheVariants.{Granted, Lapsed}
use Rattle.vio_num.specs.declared.history.Lapse.{Lapse}
use Rattle.vio_num.specs.declared.history.Lapse.TheVariants as lapses
use Rattle.vio_num.specs.declared.names.UnitId.{UnitId}
use Rattle.block_server.specs.Fates.{Asks, Judged, accepted, ends}
use Rattle.block_server.specs.Fates.Fate.{asks_logout, ends_it}
use Rattle.block_server.specs.Makers.{same_unit}
use Rattle.block_server.specs.Receipts.{Receipt, is_fatal}

-- ENTRIES ----------------------------------------------------------------------------------------

-- whether an entry says that the partner is gone; and whether it is one of the initialisation
abbrev pub is_event : Entry → Bool
is_event entry = first_byte entry == 0xFF

abbrev pub is_handshake : Entry → Bool
is_handshake entry = (first_byte entry == 0xC0) && ((entry_format entry == 0x01) || (entry_format entry == 0x02))

abbrev pub has_no_event : List Entry → Bool
has_no_event [] = true
has_no_event (entry ∷ entries) = if is_event entry then false else has_no_event entries

-- whether one of the initialisation stands among these with no event behind it
abbrev pub heard : List Entry → Bool
heard [] = false
heard (entry ∷ entries) = heard entries || (is_handshake entry && has_no_event entries)

-- LINES ------------------------------------------------------------------------------------------

-- whether a line is of this unit and session
abbrev pub is_line : UnitId → (session : ℕ) → Grant → Bool
is_line unit session (Granted of q login number credits) = same_unit of unit && (q == session)
is_line unit session (Lapsed of q login cause outstanding granted) = same_unit of unit && (q == session)

abbrev pub is_lost : Lapse → Bool
is_lost lapses.Lost = true
is_lost cause = false

-- whether it says that the partner is gone; and whether it says for which cause the session ended
abbrev pub is_loss : UnitId → (session : ℕ) → Grant → Bool
is_loss unit session (Granted of q login number credits) = false
is_loss unit session (Lapsed of q login cause outstanding granted) = is_lost cause && (same_unit of unit && (q == session))

abbrev pub is_closing : UnitId → (session : ℕ) → Grant → Bool
is_closing unit session (Granted of q login number credits) = false
is_closing unit session (Lapsed of q login cause outstanding granted) = is_fatal cause && (same_unit of unit && (q == session))

abbrev pub last_of : List Grant → Option Grant
last_of [] = None
last_of (line ∷ []) = Some line
last_of (line ∷ next ∷ lines) = last_of (next ∷ lines)

-- the last line of a session
abbrev pub last_line : UnitId → (session : ℕ) → List Grant → Option Grant
last_line unit session lines = last_of (filter (is_line unit session) lines)

-- CAUSES -----------------------------------------------------------------------------------------

-- An entry of the session asked to end the login.
pub record IsAskedOut (judged : List Judged) (session login : ℕ) : Type 0 where
  pub one : Judged
  pub listed : Contains judged one
  pub session_is : one.receipt.session ≡ session
  pub fate_is : one.fate ≡ asks_logout login

-- No login takes requests: the last line of the session is no grant, or its login was asked to end.
abbrev pub TakesNone : UnitId → (session : ℕ) → List Judged → List Grant → Type 0
TakesNone unit session judged lines =
    (login number credits : ℕ) → last_line unit session lines ≡ Some (Granted unit session login number credits) → IsAskedOut judged session login

-- The entry has no copy, and before it none of the initialisation was taken behind the last event.
pub record IsEarly (taken : List PipeRow) (receipt : Receipt) : Type 0 where
  pub none : receipt.copy ≡ None
  pub there : receipt.number ≤ length (of_session receipt.session taken)
  pub unheard : heard (take receipt.number (of_session receipt.session taken)) ≡ false

-- What was copied is no information unit, nor a command or a task by its type and tag under a login that takes requests.
pub record IsUnreadable (unit : UnitId) (judged : List Judged) (lines : List Grant) (receipt : Receipt) : Type 0 where
  pub copied : IsSome receipt.copy
  pub spells_none : (iu : Iu) → ¬ Spells receipt.bytes iu
  pub off : Asks receipt.bytes → TakesNone unit receipt.session judged lines

-- The entry names a length that no information unit has, or what was copied cannot be read.
abbrev pub IsBadIu : UnitId → List Judged → List Grant → Receipt → Type 0
IsBadIu unit judged lines receipt =
    ((receipt.copy ≡ None) × ((iu_length receipt.entry ≡ 0) ⊎ (256 < iu_length receipt.entry))) ⊎ IsUnreadable unit judged lines receipt

-- A logout, a task or a command, or bytes that have the type and the tag of one of the last two.
abbrev pub IsUnderLogin : List ℕ → Type 0
IsUnderLogin bytes = ((tag : ℕ) × Spells bytes (units.ILogout tag)) ⊎ Asks bytes

-- As many tasks and commands as are granted were accepted under the login that is on, and here is one more. (How many of them
-- have no answer stands in `Judged`: HasLimit.)
pub record IsOverLimit (unit : UnitId) (judged : List Judged) (lines : List Grant) (receipt : Receipt) (outstanding granted : ℕ) : Type 0 where
  pub copied : IsSome receipt.copy
  pub asks : Asks receipt.bytes
  pub login : ℕ
  pub number : ℕ
  pub on : last_line unit receipt.session lines ≡ Some (Granted unit receipt.session login number granted)
  pub all : granted ≤ length (accepted login judged)
  pub most : outstanding ≡ granted + 1

-- The cause that an entry gives, by what was taken and by what was judged, and the lines, before it.
abbrev pub Gives : UnitId → List PipeRow → List Judged → List Grant → Receipt → Lapse → (outstanding granted : ℕ) → Type 0
Gives unit taken judged lines receipt lapses.Early outstanding granted = IsEarly taken receipt
Gives unit taken judged lines receipt lapses.BadIu outstanding granted = IsBadIu unit judged lines receipt
Gives unit taken judged lines receipt lapses.NotLogin outstanding granted =
    IsSome receipt.copy × (IsUnderLogin receipt.bytes × TakesNone unit receipt.session judged lines)
Gives unit taken judged lines receipt lapses.OverLimit outstanding granted = IsOverLimit unit judged lines receipt outstanding granted
Gives unit taken judged lines receipt lapses.Refused outstanding granted = receipt.copy ≡ None
Gives unit taken judged lines receipt cause outstanding granted = ⊥

-- An entry of the session ended it, and gives this cause.
pub record IsEndedBy (unit : UnitId) (taken : List PipeRow) (judged : List Judged) (lines : List Grant) (session : ℕ) (cause : Lapse) (outstanding granted : ℕ) : Type 0 where
  pub before : List Judged
  pub receipt : Receipt
  pub after : List Judged
  pub parts : judged ≡ before ++ record { receipt = receipt; fate = ends_it } ∷ after
  pub session_is : receipt.session ≡ session
  pub gives : Gives unit taken before lines receipt cause outstanding granted

-- A line of the unit has its cause, by the lines before it. (A session ends for `refused` also where the copy of an answer is.)
abbrev pub HasCause : UnitId → List PipeRow → List Judged → (lines : List Grant) → Grant → Type 0
HasCause unit taken judged lines (Granted of session login number credits) = ⊤
HasCause unit taken judged lines (Lapsed of session login lapses.Logout outstanding granted) = same_unit of unit ≡ true → IsAskedOut judged session login
HasCause unit taken judged lines (Lapsed of session login lapses.Lost outstanding granted) = ⊤
HasCause unit taken judged lines (Lapsed of session login lapses.Refused outstanding granted) = ⊤
HasCause unit taken judged lines (Lapsed of session login cause outstanding granted) =
    same_unit of unit ≡ true → IsEndedBy unit taken judged lines session cause outstanding granted

-- So have all lines, behind these.
abbrev pub HaveCauses : UnitId → List PipeRow → List Judged → (before lines : List Grant) → Type 0
HaveCauses unit taken judged before [] = ⊤
HaveCauses unit taken judged before (line ∷ lines) = HasCause unit taken judged before line × HaveCauses unit taken judged (before ++ line ∷ []) lines

-- Each event that the unit took gave one line, which says that the partner is gone, and no other line says so.
abbrev pub AreLosses : UnitId → List PipeRow → List Grant → Type 0
AreLosses unit taken lines = (session : ℕ) → length (filter (is_loss unit session) lines) ≡ length (filter is_event (of_session session taken))

-- Where an entry ended its session the other is of a later one.
abbrev pub EndsBefore : Judged → Judged → Type 0
EndsBefore first other = first.fate ≡ ends_it → first.receipt.session < other.receipt.session

-- Where a line says that its session ended the other is of none of the unit's lines on that session.
abbrev pub ClosesBefore : UnitId → Grant → Grant → Type 0
ClosesBefore unit first other = (session : ℕ) → is_closing unit session first ≡ true → is_line unit session other ≡ false

-- What stands in a unit's lines: one for each event that it took; behind one that ends a session none more of that, and behind the
-- entry that ended it none; at most one on the end of a login; and each for its cause.
pub record HasCauses (unit : UnitId) (taken : List PipeRow) (judged : List Judged) (lines : List Grant) : Type 0 where
  pub losses : AreLosses unit taken lines
  pub once : AllPairs EndsBefore judged
  pub last : AllPairs (ClosesBefore unit) lines
  pub single : (login : ℕ) → 1 ≤ login → length (filter (ends unit login) lines) ≤ 1
  pub causes : HaveCauses unit taken judged [] lines
