-- The words of a script line's record: none has a space, and they tell how the line ended.
use Rattle.std.proofs.Common.{◌≡◌, ℕ, List, [], slice_index, slice_index_or, refl, sym, ap, ◌∙◌, arith, rules, ◌==◌, if◌then◌else◌}
use Rattle.std.specs.Int.{w32, w64, from_be_bytes}
use Rattle.std.specs.Str.Parse.{digits_value}
use Rattle.vio_num.specs.declared.hypervisor.Hrc.{Hrc}
use Rattle.vio_trace.specs.declared.outcome.Outcome.{Outcome}
use Rattle.vio_trace.specs.declared.outcome.Outcome.TheVariants as outcomes
use Rattle.vio_trace.specs.Form.{IsWord, IsHalf, IsOutcome}
use Rattle.vio_trace.specs.Text.{outcome_words}
use Rattle.vio_trace.proofs.Cuts.{ArePlain}
use Rattle.vio_trace.proofs.Spelled.{plain_decimal, from_decimal, plain_digits, from_digits, plain_half_digits, from_half_digits, plain_bytes, from_bytes, unhex, plain_code, uncode, from_code}

half_word : (n : ℕ) → IsHalf n → IsWord n
half_word n h = omega (arith, h)

-- no word has a space

pub outcome_plain : (o : Outcome) → IsOutcome o → ArePlain (outcome_words o)
outcome_plain (outcomes.Granted n) h = (search (rules, arith), (plain_decimal n (half_word n h), tt))
outcome_plain (outcomes.Rejected reason) h = (search (rules, arith), (plain_half_digits reason, tt))
outcome_plain outcomes.Lost h = search (rules, arith)
outcome_plain outcomes.Unanswered h = search (rules, arith)
outcome_plain (outcomes.Sent tag) h = (search (rules, arith), (plain_decimal tag h, tt))
outcome_plain outcomes.Range h = search (rules, arith)
outcome_plain outcomes.NotLoggedIn h = search (rules, arith)
outcome_plain (outcomes.NoCredit limit) h = (search (rules, arith), (plain_decimal limit (half_word limit h), tt))
outcome_plain (outcomes.Overlap tag) h = (search (rules, arith), (plain_decimal tag h, tt))
outcome_plain outcomes.Closed h = search (rules, arith)
outcome_plain (outcomes.Dropped k held) h = (search (rules, arith), (plain_decimal k h.0, (plain_digits held, tt)))
outcome_plain (outcomes.Took n) h = (search (rules, arith), (plain_decimal n h, tt))
outcome_plain (outcomes.TookThenLost n) h = (search (rules, arith), (plain_decimal n h, (search (rules, arith), tt)))
outcome_plain (outcomes.Data len sum) h = (search (rules, arith), (plain_decimal len h.0, (plain_decimal sum h.1, tt)))
outcome_plain (outcomes.Stale page) h = (search (rules, arith), (plain_decimal page (omega (arith, h)), tt))
outcome_plain outcomes.Unknown h = search (rules, arith)
outcome_plain (outcomes.Code c) h = (search (rules, arith), (plain_code c, tt))
outcome_plain (outcomes.Value v) h = (search (rules, arith), (search (rules, arith), (search (rules, arith), (plain_digits v, tt))))
outcome_plain (outcomes.Posted n c) h = (search (rules, arith), (plain_decimal n (half_word n h), (search (rules, arith), (plain_code c, tt))))
outcome_plain (outcomes.Frame c n) h = (search (rules, arith), (plain_code c, (search (rules, arith), (plain_decimal n h, tt))))
outcome_plain outcomes.Done h = search (rules, arith)
outcome_plain (outcomes.Bytes shown) h = (search (rules, arith), (plain_bytes shown h.digits, tt))

-- the word at a place, its letters, and what it writes
abbrev word_at : ℕ → List (List ℕ) → List ℕ
word_at k words = slice_index_or words k []

abbrev letter : ℕ → List (List ℕ) → ℕ
letter i words = slice_index (word_at 0 words) i

abbrev number_at : ℕ → List (List ℕ) → ℕ
number_at k words = digits_value 10 (word_at k words)

abbrev digits_at : ℕ → List (List ℕ) → ℕ
digits_at k words = from_be_bytes w64 (unhex (word_at k words))

-- what the words say, by the first word's letters, and where these are those of `took` or `code` by the third word
abbrev said_of_call : List (List ℕ) → Outcome
said_of_call words =
    if slice_index (word_at 2 words) 0 == 118 then outcomes.Value (digits_at 3 words)
    else if slice_index (word_at 2 words) 0 == 102 then outcomes.Frame (uncode (word_at 1 words)) (number_at 3 words)
    else outcomes.Code (uncode (word_at 1 words))

abbrev said_by_two : List (List ℕ) → Outcome
said_by_two words =
    if letter 0 words == 114 then (if letter 1 words == 101 then outcomes.Rejected (from_be_bytes w32 (unhex (word_at 1 words))) else outcomes.Range)
    else if letter 0 words == 115 then (if letter 1 words == 101 then outcomes.Sent (number_at 1 words) else outcomes.Stale (number_at 1 words))
    else if letter 0 words == 111 then (if letter 1 words == 118 then outcomes.Overlap (number_at 1 words) else outcomes.Data (number_at 1 words) (number_at 2 words))
    else if letter 0 words == 100 then (if letter 1 words == 114 then outcomes.Dropped (number_at 1 words) (digits_at 2 words) else outcomes.Done)
    else if letter 1 words == 108 then outcomes.Closed
    else said_of_call words

abbrev said : List (List ℕ) → Outcome
said words =
    if letter 0 words == 103 then outcomes.Granted (number_at 1 words)
    else if letter 0 words == 108 then outcomes.Lost
    else if letter 0 words == 117 then outcomes.Unknown
    else if letter 0 words == 98 then outcomes.Bytes (unhex (word_at 1 words))
    else if letter 0 words == 112 then outcomes.Posted (number_at 1 words) (uncode (word_at 3 words))
    else if letter 0 words == 116 then (if slice_index (word_at 2 words) 0 == 108 then outcomes.TookThenLost (number_at 1 words) else outcomes.Took (number_at 1 words))
    else if letter 0 words == 110 then (
    if letter 2 words == 110 then outcomes.Unanswered
    else if letter 2 words == 116 then outcomes.NotLoggedIn
    else outcomes.NoCredit (number_at 1 words)
    )
    else said_by_two words

dropped_from : (k l s t : ℕ) → k ≡ l → s ≡ t → outcomes.Dropped k s ≡ outcomes.Dropped l t
dropped_from k l s t e f = rw (e, f) refl

data_from : (k l s t : ℕ) → k ≡ l → s ≡ t → outcomes.Data k s ≡ outcomes.Data l t
data_from k l s t e f = rw (e, f) refl

posted_from : (k l : ℕ) (c d : Hrc) → k ≡ l → c ≡ d → outcomes.Posted k c ≡ outcomes.Posted l d
posted_from k l c d e f = rw (e, f) refl

frame_from : (c d : Hrc) (k l : ℕ) → c ≡ d → k ≡ l → outcomes.Frame c k ≡ outcomes.Frame d l
frame_from c d k l e f = rw (e, f) refl

said_back : (o : Outcome) → IsOutcome o → said (outcome_words o) ≡ o
said_back (outcomes.Granted n) h = ap outcomes.Granted (from_decimal n (half_word n h))
said_back (outcomes.Rejected reason) h = ap outcomes.Rejected (from_half_digits reason h)
said_back outcomes.Lost h = refl
said_back outcomes.Unanswered h = refl
said_back (outcomes.Sent tag) h = ap outcomes.Sent (from_decimal tag h)
said_back outcomes.Range h = refl
said_back outcomes.NotLoggedIn h = refl
said_back (outcomes.NoCredit limit) h = ap outcomes.NoCredit (from_decimal limit (half_word limit h))
said_back (outcomes.Overlap tag) h = ap outcomes.Overlap (from_decimal tag h)
said_back outcomes.Closed h = refl
said_back (outcomes.Dropped k held) h = dropped_from _ k _ held (from_decimal k h.0) (from_digits held h.1)
said_back (outcomes.Took n) h = ap outcomes.Took (from_decimal n h)
said_back (outcomes.TookThenLost n) h = ap outcomes.TookThenLost (from_decimal n h)
said_back (outcomes.Data len sum) h = data_from _ len _ sum (from_decimal len h.0) (from_decimal sum h.1)
said_back (outcomes.Stale page) h = ap outcomes.Stale (from_decimal page (omega (arith, h)))
said_back outcomes.Unknown h = refl
said_back (outcomes.Code c) h = ap outcomes.Code (from_code c)
said_back (outcomes.Value v) h = ap outcomes.Value (from_digits v h)
said_back (outcomes.Posted n c) h = posted_from _ n _ c (from_decimal n (half_word n h)) (from_code c)
said_back (outcomes.Frame c n) h = frame_from _ c _ n (from_code c) (from_decimal n h)
said_back outcomes.Done h = refl
said_back (outcomes.Bytes shown) h = ap outcomes.Bytes (from_bytes shown h.digits h.some)

-- equal words say the same
pub outcome_tells : (o u : Outcome) → IsOutcome o → IsOutcome u → outcome_words o ≡ outcome_words u → o ≡ u
outcome_tells o u h k e = sym (said_back o h) ∙ ap said e ∙ said_back u k
