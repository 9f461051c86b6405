-- What is decided of an information unit that was fetched, and of the logins.
use Rattle.std.specs.Prelude.{◌≡◌, ◌⊎◌, ◌+◌, ◌<◌, ◌≤◌, ◌++◌, ℕ, Bool, true, false, IsSome, List, [], ◌∷◌, length}
use Rattle.crq_ring.specs.Sessions.{of_session}
use Rattle.srp_iu.specs.Grammar.{Spells}
use Rattle.srp_iu.specs.declared.unit.Iu.{Iu}
use Rattle.srp_iu.specs.declared.unit.Iu.TheVariants as units
use Rattle.vio_num.specs.declared.history.Lapse.{Lapse}
use Rattle.vio_num.specs.declared.history.Lapse.TheVariants as lapses
use Rattle.block_server.specs.Books.{books_of}
use Rattle.block_server.specs.Closings.{Gives, IsUnderLogin, is_event}
use Rattle.block_server.specs.Judged.{Ahead, AreKept, Asks, Books, Fate, IsIgnored, IsOn, Judged, is_limit, is_logout, login_of}
use Rattle.block_server.specs.Fates.Fate.{ends_it}
use Rattle.block_server.specs.Receipts.{Receipt, is_fatal}
use Rattle.vio_num.specs.declared.entry.Entry.{Entry}
use Rattle.block_server.specs.declared.intake.Verdict.{Verdict}
use Rattle.block_server.specs.declared.intake.Verdict.TheVariants.{Accepted, Fatal, Ignored}
use Rattle.block_server.specs.declared.logins.Logins.{Logins}
use Rattle.block_server.specs.declared.records.Records.{Records}
use Rattle.block_server.specs.declared.unit.Unit.{Unit}
use Rattle.block_server.specs.declared.request.Order.{Order}
use Rattle.block_server.specs.declared.request.Order.TheVariants as orders

-- The same login is on, and takes requests or does not as before; each login grants as many as before.
pub record GoesWith (old new : Logins) : Type 0 where
  pub current : new.current ≡ old.current
  pub last : new.last ≡ old.last
  pub taking : new.taking ≡ old.taking
  pub granted : new.granted ≡ old.granted

-- So many requests are outstanding as before, too.
pub record StaysOn (old new : Logins) : Type 0 where
  pub current : new.current ≡ old.current
  pub last : new.last ≡ old.last
  pub taking : new.taking ≡ old.taking
  pub granted : new.granted ≡ old.granted
  pub outstanding : new.target.outstanding ≡ old.target.outstanding

-- A command or a task was accepted under the login that takes requests.
pub record TakesUnder (old new : Logins) (login : ℕ) (bytes : List ℕ) : Type 0 where
  pub was : old.taking ≡ true
  pub login_is : login ≡ old.current
  pub stays : GoesWith old new
  pub more : new.target.outstanding ≡ old.target.outstanding + 1
  pub within : new.target.outstanding ≤ new.granted
  pub asks : Asks bytes

-- Its logout was accepted: it takes no request any more.
pub record ClosesUnder (old new : Logins) (login : ℕ) (bytes : List ℕ) : Type 0 where
  pub was : old.taking ≡ true
  pub login_is : login ≡ old.current
  pub current : new.current ≡ old.current
  pub last : new.last ≡ old.last
  pub off : new.taking ≡ false
  pub granted : new.granted ≡ old.granted
  pub outstanding : new.target.outstanding ≡ old.target.outstanding
  pub tag : ℕ
  pub spelled : Spells bytes (units.ILogout tag)

abbrev pub DecidesOrder : (old new : Logins) → (login : ℕ) → List ℕ → Order → Type 0
DecidesOrder old new login bytes (orders.Login request) = StaysOn old new × Spells bytes (units.LoginReq request)
DecidesOrder old new login bytes orders.Logout = ClosesUnder old new login bytes
DecidesOrder old new login bytes (orders.Task task) = TakesUnder old new login bytes
DecidesOrder old new login bytes (orders.Command command) = TakesUnder old new login bytes
DecidesOrder old new login bytes orders.Unreadable = TakesUnder old new login bytes

-- As many requests are outstanding as the login that takes requests grants.
pub record IsAtLimit (logins : Logins) (outstanding granted : ℕ) : Type 0 where
  pub on : logins.taking ≡ true
  pub granted_is : granted ≡ logins.granted
  pub full : granted ≡ logins.target.outstanding
  pub most : outstanding ≡ granted + 1

-- The bytes that were fetched end the session, for this cause.
abbrev pub IsCause : Logins → List ℕ → Lapse → (outstanding granted : ℕ) → Type 0
IsCause logins bytes lapses.BadIu outstanding granted = ((iu : Iu) → ¬ Spells bytes iu) × (Asks bytes → logins.taking ≡ false)
IsCause logins bytes lapses.NotLogin outstanding granted = (logins.taking ≡ false) × IsUnderLogin bytes
IsCause logins bytes lapses.OverLimit outstanding granted = Asks bytes × IsAtLimit logins outstanding granted
IsCause logins bytes cause outstanding granted = ⊥

-- What a verdict says of the information unit, and of the logins.
abbrev pub Decides : (old new : Logins) → List ℕ → Verdict → Type 0
Decides old new bytes (Accepted login tag order) = DecidesOrder old new login bytes order
Decides old new bytes Ignored = StaysOn old new × ((iu : Iu) × (Spells bytes iu × IsIgnored iu))
Decides old new bytes (Fatal cause outstanding granted) = StaysOn old new × IsCause old bytes cause outstanding granted

-- An entry was judged: the books of before go over to those of behind it.
pub record JudgesOne (books books' : Books) (receipt : Receipt) : Type 0 where
  pub fate : Fate
  pub in_time : (judged : List Judged) → AreKept books judged → 1 ≤ login_of fate → IsOn books.id (login_of fate) books.grants
  pub kept : (judged : List Judged) → AreKept books judged → AreKept books' (judged ++ record { receipt = receipt; fate = fate } ∷ [])

-- The receipt is that of the entry which is judged next, and its session goes on.
pub record IsToJudge (books : Books) (session : ℕ) (next' : Ahead) (number : ℕ) (bytes : List ℕ) (receipt : Receipt) : Type 0 where
  pub present : books.session ≡ session
  pub session_is : receipt.session ≡ session
  pub number_is : receipt.number ≡ number
  pub bytes_are : receipt.bytes ≡ bytes
  pub copied : IsSome receipt.copy
  pub most : books.next.number ≡ number
  pub below : number < next'.number
  pub going : books.ended ≡ false
  -- both ends have heard of one another, and the entry is the last that was taken
  pub up : books.up ≡ true
  pub taken : next'.taken ≡ books.next.taken
  pub all : next'.number ≡ length (of_session session books.next.taken)

-- THE END OF A SESSION'S LOGIN --------------------------------------------------------------------

-- The partner is gone: an event that says so was taken, behind all that was judged.
pub record IsGone (books : Books) (next' : Ahead) (ended' : Bool) (cause : Lapse) (more : List Judged) : Type 0 where
  pub cause_is : cause ≡ lapses.Lost
  pub none : more ≡ []
  pub still : ended' ≡ false
  pub event : Entry
  pub says : is_event event ≡ true
  pub all : books.next.number ≡ length (of_session books.session books.next.taken)
  pub taken : next'.taken ≡ books.next.taken ++ record { session = books.session; entry = event } ∷ []

-- The window refused the copy of an answer.
pub record IsTurnedDown (books : Books) (next' : Ahead) (ended' : Bool) (cause : Lapse) (more : List Judged) : Type 0 where
  pub cause_is : cause ≡ lapses.Refused
  pub none : more ≡ []
  pub over : ended' ≡ true
  pub taken : next'.taken ≡ books.next.taken

-- The entry that is judged next ends the session.
pub record IsJudgedLast (books : Books) (next' : Ahead) (ended' : Bool) (cause : Lapse) (outstanding granted : ℕ) (judged more : List Judged) : Type 0 where
  pub receipt : Receipt
  pub one : more ≡ record { receipt = receipt; fate = ends_it } ∷ []
  pub session_is : receipt.session ≡ books.session
  pub fatal : is_fatal cause ≡ true
  pub gives : Gives books.id books.next.taken judged books.grants receipt cause outstanding granted
  pub over : ended' ≡ true
  pub taken : next'.taken ≡ books.next.taken

-- Why the login ends that is on in the session, which goes on till then.
pub record IsEnd (books : Books) (next' : Ahead) (ended' : Bool) (cause : Lapse) (outstanding granted : ℕ) (judged more : List Judged) : Type 0 where
  pub going : books.ended ≡ false
  pub done : next'.number ≡ length (of_session books.session next'.taken)
  -- a login that ends as over limit is on, and has as many outstanding as it grants
  pub full : is_limit cause ≡ true → (1 ≤ books.current) × (granted ≡ books.credits.outstanding)
  pub why : IsGone books next' ended' cause more ⊎ (IsTurnedDown books next' ended' cause more ⊎ IsJudgedLast books next' ended' cause outstanding granted judged more)

-- What the end of the login leaves of the books, where nothing more is taken in the session or where it goes on.
abbrev pub EndsBooks : (unit unit' : Unit) → (records records' : Records) → (session : ℕ) → (ended' : Bool) → Lapse → (outstanding granted : ℕ) → Type 0
EndsBooks unit unit' records records' session ended' cause outstanding granted =
    (up : Bool) (next next' : Ahead) (judged more : List Judged) → is_logout cause ≡ false
    → IsEnd (record (books_of unit session next records) { up = up }) next' ended' cause outstanding granted judged more
    → AreKept (record (books_of unit session next records) { up = up }) judged → AreKept (record (books_of unit' session next' records') { ended = ended' }) (judged ++ more)
