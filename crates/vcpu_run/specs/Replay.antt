-- What the lines of a plain client say of their own records. A replay goes over the lines, one after the other, and keeps the next
-- tag, whether a login is on, and what is outstanding. It knows no queue, no server and no turn.
use Rattle.std.specs.Prelude.{◌≡◌, ℕ, ◌+◌, ◌*◌, ◌==◌, Bool, true, false, not, List, [], ◌∷◌, ◌++◌, Option, Some, None, IfSome, drop, find, length, min, ⊤, if◌then◌else◌}
use Rattle.std.specs.List.{list_all, list_any}
use Rattle.std.specs.Option.{option_map}
use Rattle.srp_iu.specs.declared.login.TheConstants.{UNABLE_TO_ESTABLISH_CHANNEL}
use Rattle.boot_text.specs.declared.verb.Verb.{Verb}
use Rattle.boot_text.specs.declared.verb.Verb.TheVariants as verbs
use Rattle.vio_trace.specs.declared.outcome.Outcome.{Outcome}
use Rattle.vio_trace.specs.declared.outcome.Outcome.TheVariants as outcomes
use Rattle.vscsi_client.specs.Spans.{in_range, meets, span_of, table_len}
use Rattle.vcpu_run.specs.Credited.{Ended}
use Rattle.vcpu_run.specs.Works.{sends}

-- bytes of a unit's region, from an address on
pub record Range : Type 0 where
  pub at : ℕ
  pub len : ℕ

abbrev pub range : (at len : ℕ) → Range
range at len = record { at = at; len = len }

-- the table of a command's descriptors, where it has one; and its data, with their table
abbrev pub table_range : (pieces : ℕ) → Option ℕ → List Range
table_range pieces None = []
table_range pieces (Some at) = range at (table_len pieces) ∷ []

abbrev pub data_ranges : (at len pieces : ℕ) → Option ℕ → List Range
data_ranges at len pieces table = range at len ∷ table_range pieces table

-- the bytes that a line's command uses: its data, of 512 bytes a block, and their table
abbrev pub ranges_of : Verb → List Range
ranges_of (verbs.Read lba blocks at pieces table) = data_ranges at (512 * blocks) pieces table
ranges_of (verbs.Write lba blocks at pieces table) = data_ranges at (512 * blocks) pieces table
ranges_of (verbs.CommandIn cdb at len pieces table) = data_ranges at len pieces table
ranges_of (verbs.CommandOut cdb at len pieces table) = data_ranges at len pieces table
ranges_of _ = []

-- whether each of these ranges lies in a region of so many pages, behind the pages that are the driver's
abbrev pub lie_within : (pages : ℕ) → List Range → Bool
lie_within pages ranges = list_all (λ r. in_range pages r.at r.len) ranges

-- whether a page of one range is a page of another
abbrev pub share_page : Range → Range → Bool
share_page one other = meets (span_of one.at one.len) (span_of other.at other.len)

abbrev pub any_share : List Range → List Range → Bool
any_share ranges others = list_any (λ one. list_any (share_page one) others) ranges

-- a command or a task that was sent and whose answer no line took
pub record Asked : Type 0 where
  pub tag : ℕ
  pub ranges : List Range

-- What the lines so far leave: the next tag, whether a login is on, and what is outstanding, the oldest first.
pub record Replay : Type 0 where
  pub tag : ℕ
  pub is_on : Bool
  pub outstanding : List Asked

-- before the first line: tags count from 1
abbrev pub before_lines : Replay
before_lines = record { tag = 1; is_on = false; outstanding = [] }

-- whether a line sends a command or a task
abbrev pub asks : Verb → Bool
asks (verbs.Task function tag) = true
asks verb = sends verb

-- The first that speaks against sending a command or a task: its bytes do not lie in the region; no login is on; as many are
-- outstanding as were granted; or one that is outstanding, of which the oldest is named, has a page of its bytes.
abbrev pub oldest_sharing : List Range → List Asked → Option Outcome
oldest_sharing ranges outstanding = option_map (λ (asked : Asked). outcomes.Overlap asked.tag) (find (λ asked. any_share asked.ranges ranges) outstanding)

abbrev pub refusal : (grant pages : ℕ) → Replay → List Range → Option Outcome
refusal grant pages now ranges =
    if not (lie_within pages ranges) then Some outcomes.Range
    else if not now.is_on then Some outcomes.NotLoggedIn
    else if length now.outstanding == grant then Some (outcomes.NoCredit 0)
    else oldest_sharing ranges now.outstanding

-- the first that speaks against a logout: no login is on; or a command or a task is outstanding, of which the oldest is named
abbrev pub oldest : List Asked → Option Outcome
oldest [] = None
oldest (first ∷ others) = Some (outcomes.Overlap first.tag)

abbrev pub logout_refusal : Replay → Option Outcome
logout_refusal now = if now.is_on then oldest now.outstanding else Some outcomes.NotLoggedIn

-- what is sent has the next tag, if nothing speaks against it; else that is said, and nothing is left by it
abbrev pub sent_unless : Option Outcome → Replay → Outcome
sent_unless None now = outcomes.Sent now.tag
sent_unless (Some why) now = why

abbrev pub left_unless : Option Outcome → (now sent : Replay) → Replay
left_unless None now sent = sent
left_unless (Some why) now sent = now

-- a login that is on makes the server reject the next; none makes it grant one
abbrev pub login_says : (grant : ℕ) → Replay → Outcome
login_says grant now = if now.is_on then outcomes.Rejected UNABLE_TO_ESTABLISH_CHANNEL else outcomes.Granted grant

-- what a reset forgets first: the login, and what is outstanding
abbrev pub forgotten : Replay → Replay
forgotten now = record now { is_on = false; outstanding = [] }

-- what is left by a login, by a logout that was sent, by a command or a task that was, and by taking so many answers
abbrev pub logged_in : Replay → Replay
logged_in now = record now { tag = now.tag + 1; is_on = true }

abbrev pub logged_out : Replay → Replay
logged_out now = record now { tag = now.tag + 1; is_on = false }

abbrev pub with_asked : List Range → Replay → Replay
with_asked ranges now = record now { tag = now.tag + 1; outstanding = now.outstanding ++ record { tag = now.tag; ranges = ranges } ∷ [] }

abbrev pub answered : (count : ℕ) → Replay → Replay
answered count now = record now { outstanding = drop count now.outstanding }

-- what the record of a line says, if its verb is one of the replay
abbrev pub ends_as : (grant pages : ℕ) → Replay → Verb → Option Outcome
ends_as grant pages now verbs.Login = Some (login_says grant now)
ends_as grant pages now verbs.Reset = Some (login_says grant (forgotten now))
ends_as grant pages now verbs.Logout = Some (sent_unless (logout_refusal now) now)
ends_as grant pages now (verbs.Take count) = Some (outcomes.Took (min count (length now.outstanding)))
ends_as grant pages now verb = if asks verb then Some (sent_unless (refusal grant pages now (ranges_of verb)) now) else None

-- what the line leaves
abbrev pub after_line : (grant pages : ℕ) → Replay → Verb → Replay
after_line grant pages now verbs.Login = logged_in now
after_line grant pages now verbs.Reset = logged_in (forgotten now)
after_line grant pages now verbs.Logout = left_unless (logout_refusal now) now (logged_out now)
after_line grant pages now (verbs.Take count) = answered count now
after_line grant pages now verb =
    if asks verb then left_unless (refusal grant pages now (ranges_of verb)) now (with_asked (ranges_of verb) now) else now

-- Each line of the replay ended as it says.
abbrev pub IsReplayed : (grant pages : ℕ) → Replay → List Ended → Type 0
IsReplayed grant pages now [] = ⊤
IsReplayed grant pages now (ended ∷ more) =
    IfSome (ends_as grant pages now ended.verb) (λ outcome. ended.outcome ≡ outcome)
    × IsReplayed grant pages (after_line grant pages now ended.verb) more
