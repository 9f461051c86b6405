-- What a reader answers: a value whose text the bytes are; and where it refuses, that they are the text of none.
use Rattle.std.specs.Prelude.{ℕ, ◌≡◌, ◌++◌, All, flat_map, ◌+◌, ◌*◌, ◌/◌, ◌^◌, ◌&&◌, List, [], ◌∷◌, Option, Some, None, Result, Ok, Err, length, nat_lt, if◌then◌else◌}
use Rattle.hex.specs.Hex.{decode_sized}
use Rattle.std.specs.Char.{digit_value}
use Rattle.vio_num.specs.declared.names.UnitId.{UnitId}
use Rattle.vio_trace.specs.declared.lan_rows.OfferRow.{OfferRow}
use Rattle.vio_trace.specs.declared.outcome.Outcome.{Outcome}
use Rattle.vio_trace.specs.Text.{outcome_words}
use Rattle.vio_trace.specs.declared.fields.Then.{Then}
use Rattle.vio_trace.specs.declared.fields.Last.{Last}
use Rattle.vio_trace.specs.declared.window_rows.PieceRow.{PieceRow}
use Rattle.vio_trace.specs.declared.unread.Unread.{Unread}
use Rattle.vio_trace.specs.declared.unread.Unread.TheVariants as unread
use Rattle.vio_trace.specs.declared.read.TraceFault.{TraceFault}
use Rattle.vio_trace.specs.declared.read.TraceFault.TheVariants as trace_faults
use Rattle.vio_trace.specs.declared.unread.Fault.{Fault}
use Rattle.vio_trace.specs.declared.unread.Fault.TheVariants as faults

-- the bytes are the text of no value that fits
abbrev pub NoneIs : {A : Type 0} → (A → List ℕ) → (A → Type 0) → List ℕ → Type 0
NoneIs {A} text fits bytes = (value : A) → fits value → ¬ (text value ≡ bytes)

-- a value that fits and whose text the bytes are; where the reader refuses there is none
abbrev pub Reads : {A : Type 0} → (A → List ℕ) → (A → Type 0) → List ℕ → Result A Unread → Type 0
Reads text fits bytes (Ok value) = fits value × (text value ≡ bytes)
Reads text fits bytes (Err unread.Bad) = NoneIs text fits bytes
Reads text fits bytes (Err unread.NoMemory) = Unit {0}

-- the same of a reader that may find nothing
abbrev pub Finds : {A : Type 0} → (A → List ℕ) → (A → Type 0) → List ℕ → Option A → Type 0
Finds text fits bytes (Some value) = fits value × (text value ≡ bytes)
Finds text fits bytes None = NoneIs text fits bytes

-- the digits are those of no list of so many bytes
abbrev pub DecodesToNone : List ℕ → ℕ → Type 0
DecodesToNone word count = (xs : List ℕ) → ¬ (decode_sized word count ≡ Ok xs)

-- why no bytes were read of digits of either case: the digits write none
abbrev pub Undecoded : List ℕ → Unread → Type 0
Undecoded word unread.Bad = DecodesToNone word (length word / 2)
Undecoded word unread.NoMemory = Unit {0}

-- the number that these digits write behind n, below 2^64
abbrev pub value_on : ℕ → List ℕ → Option ℕ
value_on n [] = Some n
value_on n (c ∷ cs) =
    if nat_lt (digit_value c) 10 && nat_lt (n * 10 + digit_value c) (2 ^ 64)
    then value_on (n * 10 + digit_value c) cs else None

-- no byte of the text is this one
abbrev pub Without : ℕ → List ℕ → Type 0
Without byte [] = Unit {0}
Without byte (c ∷ cs) = (¬ (c ≡ byte)) × Without byte cs

-- the bytes are one line: its end stands at their end alone
pub record IsLine (bytes : List ℕ) : Type 0 where
  pub word : List ℕ
  pub whole : bytes ≡ word ++ 10 ∷ []
  pub within : Without 10 word

-- the bytes begin with the text of no value that fits
abbrev pub NoneBegins : {A : Type 0} → (A → List ℕ) → (A → Type 0) → List ℕ → Type 0
NoneBegins {A} text fits bytes = (value : A) (rest : List ℕ) → fits value → ¬ (bytes ≡ text value ++ rest)

-- the bytes begin with the texts of no list of so many values that fit
abbrev pub NoneCounted : {A : Type 0} → (A → List ℕ) → (A → Type 0) → ℕ → List ℕ → Type 0
NoneCounted {A} text fits count bytes =
    (values : List A) (rest : List ℕ) → All fits values → length values ≡ count → ¬ (bytes ≡ flat_map text values ++ rest)

-- the text was refused at a line
abbrev pub IsBad : TraceFault → Type 0
IsBad (trace_faults.Bad line) = Unit {0}
IsBad trace_faults.NoMemory = ⊥

-- what holds where a line is bad
abbrev pub WhereBad : Fault → Type 0 → Type 0
WhereBad (faults.Bad left) Holds = Holds
WhereBad faults.NoMemory Holds = Unit {0}

-- the words of a piece's line behind its first, as a piece
abbrev pub piece_in : Then UnitId (Then ℕ (Then ℕ (Then ℕ (Then ℕ (Then ℕ (Last ℕ)))))) → PieceRow
piece_in words = record {
  unit = words.word;
  entry = words.rest.word;
  version = words.rest.rest.word;
  page = words.rest.rest.rest.word;
  offset = words.rest.rest.rest.rest.word;
  len = words.rest.rest.rest.rest.rest.word;
  at = words.rest.rest.rest.rest.rest.rest.word;
}

-- the row may stand behind the last of these rows
abbrev pub FollowsLast : {Row : Type 0} → (Row → Row → Type 0) → List Row → Row → Type 0
FollowsLast before [] row = Unit {0}
FollowsLast before (last ∷ []) row = before last row
FollowsLast before (first ∷ next ∷ rows) row = FollowsLast before (next ∷ rows) row

-- an offer names this frame
pub record IsNamed (unit : UnitId) (number : ℕ) (offer : OfferRow) : Type 0 where
  pub unit_is : offer.unit ≡ unit
  pub number_is : offer.number ≡ number

-- a record of one word
abbrev pub IsWordAlone : Outcome → Type 0
IsWordAlone outcome = length (outcome_words outcome) ≡ 1
