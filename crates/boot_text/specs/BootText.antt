-- What a boot text says: a plan, or the first line that is wrong and its first cause. A line is judged by what it says
-- itself and by the plan that the lines before it say.
use Rattle.std.specs.Prelude.{◌≡◌, ℕ, ◌+◌, ◌==◌, ◌&&◌, ◌||◌, not, nat_le, nat_lt, Bool, true, false, List, [], ◌∷◌, length, slice_index, Option, Some, None, codes, if◌then◌else◌}
use Rattle.std.specs.List.{list_all}
use Rattle.boot_text.specs.Keywords.{keyword, verb_name}
use Rattle.boot_text.specs.Said.{Said, good, bad, said_then}
use Rattle.boot_text.specs.SoFar.{SoFar, nothing, follows, offence, adds}
use Rattle.boot_text.specs.Statement.{statement_of}
use Rattle.boot_text.specs.Words.{is, lines_of, words_of, word}
use Rattle.boot_text.specs.declared.cause.Cause.{Cause}
use Rattle.boot_text.specs.declared.cause.Cause.TheVariants as causes
use Rattle.boot_text.specs.declared.cause.PlanFault.{PlanFault}
use Rattle.boot_text.specs.declared.cause.PlanFault.TheVariants as faults
use Rattle.boot_text.specs.declared.keyword.Keyword.{Keyword}
use Rattle.boot_text.specs.declared.keyword.Keyword.TheVariants as keywords
use Rattle.boot_text.specs.declared.plan.Partition.{Partition}
use Rattle.boot_text.specs.declared.plan.Plan.{Plan}
use Rattle.boot_text.specs.declared.read.TheConstants.{MOST_TEXT, MOST_LINE}
use Rattle.boot_text.specs.declared.statement.Statement.{Statement}
use Rattle.boot_text.specs.declared.verb.VerbName.{VerbName}

pub data Reading : Type 0 where
  -- a plan: its rounds, its grant and its partitions
  accepted : ℕ → ℕ → List Partition → Reading
  -- the first line that is wrong, and its first cause
  refused : ℕ → Cause → Reading

-- whether a byte is printable ASCII, and whether a line has one that is not
abbrev pub is_printable : ℕ → Bool
is_printable byte = nat_le 32 byte && nat_le byte 126

abbrev pub has_bad_byte : List ℕ → Bool
has_bad_byte line = not (list_all is_printable line)

-- the words of the first line
abbrev pub is_header : List (List ℕ) → Bool
is_header words = length words == 2 && (is (word words 0) (codes "vio") && is (word words 1) (codes "1"))

-- whether a line says nothing: it is empty, or its first word begins with `#`
abbrev pub is_skipped : List (List ℕ) → Bool
is_skipped words = length words == 0 || slice_index (word words 0) 0 == 35

-- what a script line does: the verb behind the unit's number, or nothing where none stands there
abbrev pub verb_told : Option VerbName → Said (Option VerbName)
verb_told None = bad causes.Word
verb_told (Some verb) = good (Some verb)

abbrev pub script_verb : List (List ℕ) → Said (Option VerbName)
script_verb words = if length words == 1 then good None else verb_told (verb_name (word words 1))

abbrev pub verb_of_line : Keyword → List (List ℕ) → Said (Option VerbName)
verb_of_line keywords.Script words = script_verb words
verb_of_line _ words = good None

-- the plan with a line of this number, which says this
abbrev pub added : ℕ → SoFar → Statement → Option Cause → Said SoFar
added number s statement None = good (adds number statement s)
added number s statement (Some cause) = bad cause

abbrev pub judge_statement : ℕ → SoFar → Statement → Said SoFar
judge_statement number s statement = added number s statement (offence s statement)

-- the plan with a line that begins with this keyword: it may stand here, and what its words say is not wrong
abbrev pub judge_line : ℕ → SoFar → Keyword → List (List ℕ) → Option VerbName → Said SoFar
judge_line number s keyword words verb =
    if follows s.last keyword
    then said_then (judge_statement number s) (statement_of keyword verb words)
    else bad causes.Place

abbrev pub judge_keyword : ℕ → SoFar → List (List ℕ) → Option Keyword → Said SoFar
judge_keyword number s words None = bad causes.Word
judge_keyword number s words (Some keyword) = said_then (judge_line number s keyword words) (verb_of_line keyword words)

-- the plan with a line of these words behind the first
abbrev pub judge_words : ℕ → SoFar → List (List ℕ) → Said SoFar
judge_words number s words =
    if is_skipped words then good s else judge_keyword number s words (keyword (word words 0))

-- the plan with the first line
abbrev pub judge_first : SoFar → List (List ℕ) → Said SoFar
judge_first s words = if is_header words then good s else bad causes.Header

-- the plan with one line more
abbrev pub judge : ℕ → SoFar → List ℕ → Said SoFar
judge number s line =
    if has_bad_byte line then bad causes.BadByte
    else if nat_lt MOST_LINE (length line) then bad causes.LineLength
    else if number == 1 then judge_first s (words_of line)
    else judge_words number s (words_of line)

-- whether a text may end behind such a line
abbrev pub may_end : Keyword → Bool
may_end keywords.End = true
may_end _ = false

abbrev pub ends : ℕ → SoFar → Reading
ends number s = if may_end s.last then accepted s.rounds s.grant s.ended else refused number causes.Place

-- what follows a line, if it is not wrong
abbrev pub goes_on : ℕ → (SoFar → Reading) → Said SoFar → Reading
goes_on number rest (good s) = rest s
goes_on number rest (bad cause) = refused number cause

-- what these lines say behind the plan so far; the first has this number
abbrev pub read_from : ℕ → SoFar → List (List ℕ) → Reading
read_from number s [] = ends number s
read_from number s (line ∷ lines) = goes_on number (λ s'. read_from (number + 1) s' lines) (judge number s line)

-- what a text says
abbrev pub plan_of : List ℕ → Reading
plan_of text = if nat_lt MOST_TEXT (length text) then refused 0 causes.TooLong else read_from 1 nothing (lines_of text)

-- the text says this plan
abbrev pub SaysPlan : Reading → Plan → Type 0
SaysPlan reading plan = reading ≡ accepted plan.rounds plan.grant plan.partitions

-- it is refused so, or memory ran out
abbrev pub IsFault : Reading → PlanFault → Type 0
IsFault reading (faults.Refused line cause) = reading ≡ refused line cause
IsFault reading faults.NoMemory = Unit {0}
