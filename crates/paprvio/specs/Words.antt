-- The words of a command line, and what they ask for: a mode and a seed by their places, and the option of workers,
-- as the command-line parser takes them.
use Rattle.std.specs.Prelude.{◌&&◌, ◌∷◌, ℕ, Bool, true, List, [], Option, Some, None, codes, length, nat_le, nat_lt, ◌^◌, if◌then◌else◌}
use Rattle.std.specs.List.{list_all}
use Rattle.std.specs.Option.{option_and_then, option_map}
use Rattle.std.specs.Borrow.{Bor}
use Rattle.std.specs.Str.{bytes_eq}
use Rattle.std.specs.Str.Parse.{digits_value}
use Rattle.clap.specs.Faults.{fault_of}
use Rattle.clap.specs.Kinds.{Kinds}
use Rattle.clap.specs.Simple.{App, matches_of, new_app, new_rule, on_top, with_rule}
use Rattle.clap.specs.Walk.{Row, first_of}
use Rattle.paprvio.specs.declared.request.Request.{Request}
use Rattle.paprvio.specs.declared.request.Request.TheVariants.{Run, Generate, Summarize}
use Rattle.paprvio.specs.declared.words.TheConstants.{SEED_DIGITS, WORKERS_DIGITS, MOST_WORKERS}

-- whether a text has decimal digits alone, 1 to `most`
abbrev pub is_digit : ℕ → Bool
is_digit byte = nat_le 48 byte && nat_le byte 57

abbrev pub is_decimal : (most : ℕ) → List ℕ → Bool
is_decimal most text = nat_le 1 (length text) && (nat_le (length text) most && list_all is_digit text)

-- the number that such a text writes
abbrev pub decimal_of : (most : ℕ) → List ℕ → Option ℕ
decimal_of most text = if is_decimal most text then Some (digits_value 10 text) else None

-- the text that a borrow lends, if there is one
abbrev pub texts : Option (Bor (List ℕ)) → Option (List ℕ)
texts None = None
texts (Some text) = Some text.now

-- a seed is below 2^32, and there are 1 to 16 workers; one where no word says so
abbrev pub seed_of : List ℕ → Option ℕ
seed_of text = option_and_then (λ n. if nat_lt n (2 ^ 32) then Some n else None) (decimal_of SEED_DIGITS text)

abbrev pub workers_in : List ℕ → Option ℕ
workers_in text = option_and_then (λ n. if nat_le 1 n && nat_le n MOST_WORKERS then Some n else None) (decimal_of WORKERS_DIGITS text)

abbrev pub workers_of : Option (List ℕ) → Option ℕ
workers_of None = Some 1
workers_of (Some text) = workers_in text

-- what a mode, a seed and a number of workers ask for together
abbrev pub run_of : (seed workers : Option (List ℕ)) → Option Request
run_of None workers = option_map Run (workers_of workers)
run_of (Some seed) workers = None

abbrev pub generate_of : (seed workers : Option (List ℕ)) → Option Request
generate_of (Some seed) None = option_map Generate (seed_of seed)
generate_of _ _ = None

abbrev pub summarize_of : (seed workers : Option (List ℕ)) → Option Request
summarize_of None workers = None
summarize_of (Some seed) workers = option_and_then (λ n. option_map (Summarize n) (workers_of workers)) (seed_of seed)

abbrev pub request_of : (mode : List ℕ) → (seed workers : Option (List ℕ)) → Option Request
request_of mode seed workers =
    if bytes_eq mode (codes "run") then run_of seed workers
    else if bytes_eq mode (codes "gen") then generate_of seed workers
    else if bytes_eq mode (codes "summary") then summarize_of seed workers
    else None

-- the command that the words are read by
abbrev pub words_app : App
words_app =
    with_rule (with_rule (with_rule
    (on_top (λ s. record s { no_binary_name = true; disable_help_flag = true; disable_version_flag = true }) (new_app (codes "paprvio")))
    (new_rule (codes "mode"))) (new_rule (codes "seed")))
    (record (new_rule (codes "workers")) { long = Some (codes "workers") })

-- what the entries of a parse ask for
abbrev pub request_in : List Row → Option Request
request_in rows = option_and_then (λ mode. request_of mode (first_of (codes "seed") rows) (first_of (codes "workers") rows)) (first_of (codes "mode") rows)

-- what the words ask for: what a parse finds, where no kind of error stands against them
abbrev pub asked_unless : Kinds → List (List ℕ) → Option Request
asked_unless [] words = request_in (matches_of words_app words)
asked_unless (kind ∷ kinds) words = None

abbrev pub asked : List (List ℕ) → Option Request
asked words = asked_unless (fault_of words_app words) words
