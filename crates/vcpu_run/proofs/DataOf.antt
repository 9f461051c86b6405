-- What a client's lines say of the data of its commands is so as long as the run goes on, and is so of the range that its records tell.
use Rattle.std.proofs.Common.{zero, suc, ◌≡◌, ◌⊎◌, inl, inr, ℕ, ◌+◌, ◌-◌, ◌==◌, nat_le, Bool, true, false, List, [], ◌∷◌, ◌++◌, Option, Some, None, IfSome, MatchBool, MatchOption, min, take, drop, sym, subst, arith}
use Rattle.std.specs.List.{Contains}
use Rattle.std.proofs.lemmas.List.Elements.{Contains-append_cases, Contains-append_left}
use Rattle.vio_num.specs.declared.names.UnitId.{UnitId}
use Rattle.page_slots.specs.declared.stroke.StrokeName.{StrokeName}
use Rattle.vio_trace.specs.declared.outcome.Outcome.{Outcome}
use Rattle.vio_trace.specs.declared.outcome.Outcome.TheVariants as outcomes
use Rattle.vio_trace.specs.declared.rows.AnswerRow.{AnswerRow}
use Rattle.vscsi_client.specs.State.{ClientState}
use Rattle.vscsi_client.specs.Transferred.{DataRange, data_range, name_of}
use Rattle.vscsi_client.specs.declared.row.DataIn.{DataIn}
use Rattle.vscsi_client.specs.declared.row.Row.{Row}
use Rattle.vscsi_client.specs.declared.TheConstants.{PART_BYTES}
use Rattle.vcpu_run.specs.Credited.{Ended}
use Rattle.vcpu_run.specs.DataKept.{AreKeptAt, IsInwardAt, IsKeptAt, IsNoted, IsRangeOf, range_in}
use Rattle.vcpu_run.specs.DataRead.{AreAllRead, AreBothRead, IsDataRead, IsDataStale, IsDataTold, IsKeptTold, IsNoData, IsPartRead, IsPartStale, given_by}
use Rattle.vcpu_run.specs.DataTold.{AreDataTold, IsGivenIf, IsLineGiven}
use Rattle.vcpu_run.specs.LinesShow.{Seen, Sees}

-- all that there was is there still
part_more : (a b : Seen) → Sees a b → (name : StrokeName) (at len : ℕ) (bytes : List ℕ) → IsPartRead a name at len bytes → IsPartRead b name at len bytes
part_more a b more name at len bytes is = record {
  long = is.long;
  fronts = is.fronts;
  there = λ page here. more.fronts page (is.fronts page) (is.there page here);
  fresh = is.fresh;
  read = is.read;
}

all_more : (a b : Seen) → Sees a b → (name : StrokeName) (range : DataRange) (bytes : List ℕ) → AreAllRead a name range bytes → AreAllRead b name range bytes
all_more a b more name range bytes = at (range.len == 0) (nat_le range.len PART_BYTES)
  where
    at : (x y : Bool) → MatchBool x (bytes ≡ []) (MatchBool y (IsPartRead a name range.at range.len bytes) (AreBothRead a name range bytes))
        → MatchBool x (bytes ≡ []) (MatchBool y (IsPartRead b name range.at range.len bytes) (AreBothRead b name range bytes))
    at true y is = is
    at false true is = part_more a b more name range.at range.len bytes is
    at false false is = (
      part_more a b more name range.at PART_BYTES (take PART_BYTES bytes) is.0,
      part_more a b more name (range.at + PART_BYTES) (range.len - PART_BYTES) (drop PART_BYTES bytes) is.1,
    )

read_more : (a b : Seen) → Sees a b → (name : StrokeName) (range : DataRange) (len total : ℕ) → IsDataRead a name range len total → IsDataRead b name range len total
read_more a b more name range len total is = record {
  bytes = is.bytes;
  len_is = is.len_is;
  in_range = is.in_range;
  total_is = is.total_is;
  read = all_more a b more name range is.bytes is.read;
}

stale_part_more : (a b : Seen) → Sees a b → (name : StrokeName) (at len page : ℕ) → IsPartStale a name at len page → IsPartStale b name at len page
stale_part_more a b more name at len page is = record {
  fronts = is.fronts;
  there = λ p here le. more.fronts p (is.fronts p) (is.there p here le);
  found = is.found;
  first = is.first;
}

stale_more : (a b : Seen) → Sees a b → (name : StrokeName) (range : DataRange) (page : ℕ) → IsDataStale a name range page → IsDataStale b name range page
stale_more a b more name range page (inl is) = inl (stale_part_more a b more name range.at (min range.len PART_BYTES) page is)
stale_more a b more name range page (inr is) = inr (record { long = is.long; stale = stale_part_more a b more name (range.at + PART_BYTES) (range.len - PART_BYTES) page is.stale })

-- more lines, and more answers
abbrev pub HasAll : {A : Type 0} → List A → List A → Type 0
HasAll {A} old new = (x : A) → Contains old x → Contains new x

-- what was noted is noted still
abbrev pub NotesAll : List AnswerRow → List AnswerRow → Type 0
NotesAll xs ys = (tag : ℕ) (said : DataIn) → IsNoted xs tag said → IsNoted ys tag said

pub noted_more : (xs ys : List AnswerRow) → HasAll xs ys → NotesAll xs ys
noted_more xs ys all tag said is = record {
  row = is.row;
  there = all is.row is.there;
  tag_is = is.tag_is;
  response = is.response;
  canonical = is.canonical;
  says = is.says;
}

pub range_more : (old new : List Ended) (xs ys : List AnswerRow) (tag : ℕ) (range : DataRange) → HasAll old new → NotesAll xs ys → IsRangeOf old xs tag range → IsRangeOf new ys tag range
range_more old new xs ys tag range lines answers is = record {
  line = is.line;
  there = lines is.line is.there;
  sent = is.sent;
  len = is.len;
  reads = is.reads;
  said = is.said;
  noted = answers tag is.said is.noted;
  cut = is.cut;
}

-- What the lines say goes on to be so from one moment to a later one.
pub record GoesFurther (a b : Seen) (old new : List Ended) (xs ys : List AnswerRow) : Type 0 where
  pub sees : Sees a b
  pub lines : HasAll old new
  pub answers : NotesAll xs ys

given_more : (a b : Seen) (old new : List Ended) (xs ys : List AnswerRow) (name : StrokeName) (outcome : Outcome) → GoesFurther a b old new xs ys → IsGivenIf a name old xs outcome → IsGivenIf b name new ys outcome
given_more a b old new xs ys name (outcomes.Granted credits) further is = tt
given_more a b old new xs ys name (outcomes.Rejected reason) further is = tt
given_more a b old new xs ys name outcomes.Lost further is = tt
given_more a b old new xs ys name outcomes.Unanswered further is = tt
given_more a b old new xs ys name (outcomes.Sent tag) further is = tt
given_more a b old new xs ys name outcomes.Range further is = tt
given_more a b old new xs ys name outcomes.NotLoggedIn further is = tt
given_more a b old new xs ys name (outcomes.NoCredit limit) further is = tt
given_more a b old new xs ys name (outcomes.Overlap tag) further is = tt
given_more a b old new xs ys name outcomes.Closed further is = tt
given_more a b old new xs ys name (outcomes.Dropped number held) further is = tt
given_more a b old new xs ys name (outcomes.Took count) further is = tt
given_more a b old new xs ys name (outcomes.TookThenLost count) further is = tt
given_more a b old new xs ys name (outcomes.Data len total) further is = record {
  range = is.range;
  of_line = range_more old new xs ys name.mark is.range further.lines further.answers is.of_line;
  told = read_more a b further.sees name is.range len total is.told;
}
given_more a b old new xs ys name (outcomes.Stale page) further is = record {
  range = is.range;
  of_line = range_more old new xs ys name.mark is.range further.lines further.answers is.of_line;
  told = stale_more a b further.sees name is.range page is.told;
}
given_more a b old new xs ys name outcomes.Unknown further is = tt
given_more a b old new xs ys name (outcomes.Code code) further is = tt
given_more a b old new xs ys name (outcomes.Value value) further is = tt
given_more a b old new xs ys name (outcomes.Posted buffers code) further is = tt
given_more a b old new xs ys name (outcomes.Frame code number) further is = tt
given_more a b old new xs ys name outcomes.Done further is = tt
given_more a b old new xs ys name (outcomes.Bytes shown) further is = tt

pub line_further : (a b : Seen) (old new : List Ended) (xs ys : List AnswerRow) (server : UnitId) (given : Option ℕ) (outcome : Outcome) → GoesFurther a b old new xs ys
    → IsLineGiven a server old xs given outcome → IsLineGiven b server new ys given outcome
line_further a b old new xs ys server None outcome further is = tt
line_further a b old new xs ys server (Some tag) outcome further is = given_more a b old new xs ys (record { who = server; mark = tag }) outcome further is

-- the same lines, at a later moment
pub told_further : (a b : Seen) (own : List Ended) (xs ys : List AnswerRow) (server : UnitId) → Sees a b → NotesAll xs ys → AreDataTold a server own xs → AreDataTold b server own ys
told_further a b own xs ys server sees answers told = λ e there.
    line_further a b own own xs ys server (given_by e.verb) e.outcome (record { sees = sees; lines = λ x in_it. in_it; answers = answers }) (told e there)

-- one line more
contains_split : {A : Type 0} (xs : List A) (y x : A) → Contains (xs ++ y ∷ []) x → Contains xs x ⊎ (x ≡ y)
contains_split xs y x is = at (Contains-append_cases xs (y ∷ []) x is)
  where
    at : Contains xs x ⊎ Contains (y ∷ []) x → Contains xs x ⊎ (x ≡ y)
    at (inl h) = inl h
    at (inr (zero, less, same)) = inr (sym same)
    at (inr (suc n, less, same)) = absurd (omega (arith, less))

pub told_next : (seen : Seen) (own : List Ended) (e : Ended) (xs : List AnswerRow) (server : UnitId) → AreDataTold seen server own xs
    → IsLineGiven seen server (own ++ e ∷ []) xs (given_by e.verb) e.outcome → AreDataTold seen server (own ++ e ∷ []) xs
told_next seen own e xs server told last = λ x there. at x (contains_split own e x there)
  where
    at : (x : Ended) → Contains own x ⊎ (x ≡ e) → IsLineGiven seen server (own ++ e ∷ []) xs (given_by x.verb) x.outcome
    at x (inl h) = line_further seen seen own (own ++ e ∷ []) xs xs server (given_by x.verb) x.outcome (record {
      sees = record { strokes = λ page stroke is. is; fronts = λ page front is. is; values = λ entry value is. is; entries = λ entry is. is };
      lines = λ y in_it. Contains-append_left own (e ∷ []) y in_it;
      answers = λ tag said is. is;
    }) (told x h)
    at x (inr same) = subst (λ (y : Ended). IsLineGiven seen server (own ++ e ∷ []) xs (given_by y.verb) y.outcome) (sym same) last

-- where the data of the commands lie that lines sent
pub kept_as : (rs rs' : List Row) (range : Option DataRange) (outcome : Outcome) → ((tag at len : ℕ) → IsInwardAt rs tag at len → IsInwardAt rs' tag at len) → IsKeptAt rs range outcome
    → IsKeptAt rs' range outcome
kept_as rs rs' range (outcomes.Granted credits) stay is = tt
kept_as rs rs' range (outcomes.Rejected reason) stay is = tt
kept_as rs rs' range outcomes.Lost stay is = tt
kept_as rs rs' range outcomes.Unanswered stay is = tt
kept_as rs rs' range (outcomes.Sent tag) stay is = at range is
  where
    at : (o : Option DataRange) → IfSome o (λ r. IsInwardAt rs tag r.at r.len) → IfSome o (λ r. IsInwardAt rs' tag r.at r.len)
    at None is = tt
    at (Some r) is = stay tag r.at r.len is
kept_as rs rs' range outcomes.Range stay is = tt
kept_as rs rs' range outcomes.NotLoggedIn stay is = tt
kept_as rs rs' range (outcomes.NoCredit limit) stay is = tt
kept_as rs rs' range (outcomes.Overlap tag) stay is = tt
kept_as rs rs' range outcomes.Closed stay is = tt
kept_as rs rs' range (outcomes.Dropped number held) stay is = tt
kept_as rs rs' range (outcomes.Took count) stay is = tt
kept_as rs rs' range (outcomes.TookThenLost count) stay is = tt
kept_as rs rs' range (outcomes.Data len total) stay is = tt
kept_as rs rs' range (outcomes.Stale page) stay is = tt
kept_as rs rs' range outcomes.Unknown stay is = tt
kept_as rs rs' range (outcomes.Code code) stay is = tt
kept_as rs rs' range (outcomes.Value value) stay is = tt
kept_as rs rs' range (outcomes.Posted buffers code) stay is = tt
kept_as rs rs' range (outcomes.Frame code number) stay is = tt
kept_as rs rs' range outcomes.Done stay is = tt
kept_as rs rs' range (outcomes.Bytes shown) stay is = tt

pub kept_further : (rs rs' : List Row) (own : List Ended) → ((tag at len : ℕ) → IsInwardAt rs tag at len → IsInwardAt rs' tag at len) → AreKeptAt rs own → AreKeptAt rs' own
kept_further rs rs' own stay kept = λ e there. kept_as rs rs' (range_in e.verb) e.outcome stay (kept e there)

pub kept_next : (rs : List Row) (own : List Ended) (e : Ended) → AreKeptAt rs own → IsKeptAt rs (range_in e.verb) e.outcome → AreKeptAt rs (own ++ e ∷ [])
kept_next rs own e kept last = λ x there. at x (contains_split own e x there)
  where
    at : (x : Ended) → Contains own x ⊎ (x ≡ e) → IsKeptAt rs (range_in x.verb) x.outcome
    at x (inl h) = kept x h
    at x (inr same) = subst (λ (y : Ended). IsKeptAt rs (range_in y.verb) y.outcome) (sym same) last

-- what is said of data that are kept
range_told_more : (a b : Seen) → Sees a b → (name : StrokeName) (range : DataRange) (outcome : Outcome) → IsDataTold a name range outcome → IsDataTold b name range outcome
range_told_more a b more name range (outcomes.Granted credits) is = tt
range_told_more a b more name range (outcomes.Rejected reason) is = tt
range_told_more a b more name range outcomes.Lost is = tt
range_told_more a b more name range outcomes.Unanswered is = tt
range_told_more a b more name range (outcomes.Sent tag) is = tt
range_told_more a b more name range outcomes.Range is = tt
range_told_more a b more name range outcomes.NotLoggedIn is = tt
range_told_more a b more name range (outcomes.NoCredit limit) is = tt
range_told_more a b more name range (outcomes.Overlap tag) is = tt
range_told_more a b more name range outcomes.Closed is = tt
range_told_more a b more name range (outcomes.Dropped number held) is = tt
range_told_more a b more name range (outcomes.Took count) is = tt
range_told_more a b more name range (outcomes.TookThenLost count) is = tt
range_told_more a b more name range (outcomes.Data len total) is = read_more a b more name range len total is
range_told_more a b more name range (outcomes.Stale page) is = stale_more a b more name range page is
range_told_more a b more name range outcomes.Unknown is = tt
range_told_more a b more name range (outcomes.Code code) is = tt
range_told_more a b more name range (outcomes.Value value) is = tt
range_told_more a b more name range (outcomes.Posted buffers code) is = tt
range_told_more a b more name range (outcomes.Frame code number) is = tt
range_told_more a b more name range outcomes.Done is = tt
range_told_more a b more name range (outcomes.Bytes shown) is = tt

pub kept_told_more : (a b : Seen) → Sees a b → (client : ClientState) (given : Option ℕ) (outcome : Outcome) → IsKeptTold a client given outcome → IsKeptTold b client given outcome
kept_told_more a b more client None outcome is = tt
kept_told_more a b more client (Some tag) outcome is = at (data_range client tag) is
  where
    at : (o : Option DataRange) → MatchOption o (IsNoData outcome) (λ range. IsDataTold a (name_of client tag) range outcome) → MatchOption o (IsNoData outcome) (λ range. IsDataTold b (name_of client tag) range outcome)
    at None is = is
    at (Some range) is = range_told_more a b more (name_of client tag) range outcome is
