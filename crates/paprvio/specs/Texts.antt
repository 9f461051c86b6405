-- The texts of a run that has no trace.
use Rattle.std.specs.Prelude.{ℕ, ◌+◌, ◌-◌, ◌^◌, ◌++◌, List, codes, decimal, fold, length, min}
use Rattle.vio_num.specs.declared.history.Served.{Served}
use Rattle.vio_trace.specs.declared.rows.Trace.{Trace}
use Rattle.boot_text.specs.declared.cause.Cause.{Cause}
use Rattle.boot_text.specs.declared.cause.Cause.TheVariants as causes

-- for words that are not accepted
abbrev pub usage_text : List ℕ
usage_text = codes "paprvio: usage\n"

-- the name of a cause
abbrev pub cause_name : Cause → List ℕ
cause_name causes.TooLong = codes "TooLong"
cause_name causes.BadByte = codes "BadByte"
cause_name causes.LineLength = codes "LineLength"
cause_name causes.Header = codes "Header"
cause_name causes.Word = codes "Word"
cause_name causes.Place = codes "Place"
cause_name causes.Count = codes "Count"
cause_name causes.Number = codes "Number"
cause_name causes.Limit = codes "Limit"
cause_name causes.Link = codes "Link"
cause_name causes.Unit = codes "Unit"
cause_name causes.Transfer = codes "Transfer"

-- for bytes that say no plan: the first line that is wrong, and its first cause
abbrev pub refused_text : ℕ → Cause → List ℕ
refused_text line cause = codes "paprvio: line " ++ decimal line ++ codes ": " ++ cause_name cause ++ codes "\n"

-- for bytes that are more than a boot text
abbrev pub too_long_text : List ℕ
too_long_text = codes "paprvio: line 0: TooLong\n"

-- numbers added to a sum of 64 bits, which stays at the most that it can be
abbrev pub added : ℕ → ℕ → ℕ
added sum n = min (sum + n) (2 ^ 64 - 1)

abbrev pub with_bytes : ℕ → List ℕ → ℕ
with_bytes sum bytes = fold added sum bytes

-- the sum of the data-in of these requests, byte by byte
abbrev pub data_sum : List Served → ℕ
data_sum rows = fold (λ sum row. with_bytes sum row.inn) 0 rows

-- the summary of a trace: how many requests were served, how many answers were taken, and the sum of the data-in
abbrev pub summary_text : Trace → List ℕ
summary_text trace = codes "served " ++ decimal (length trace.serves) ++ codes "\nanswers " ++ decimal (length trace.answers)
    ++ codes "\nin " ++ decimal (data_sum trace.serves) ++ codes "\n"
