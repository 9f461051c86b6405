-- What a line says that gives the data of a tag: they were read in their range, or a page of it is stale (SRP, "SRP_RSP response").
use Rattle.std.specs.Prelude.{◌≡◌, ◌⊎◌, ℕ, ◌+◌, ◌-◌, ◌<◌, ◌≤◌, ◌==◌, nat_le, true, List, [], Option, Some, None, IfSome, MatchBool, MatchOption, length, min, slice_index, take, drop, ⊤}
use Rattle.std.specs.List.{sum}
use Rattle.page_slots.specs.Stroke.{StrokeValue}
use Rattle.page_slots.specs.declared.stroke.StrokeName.{StrokeName}
use Rattle.tce_window.specs.Named.{AreFresh, IsFirstStale}
use Rattle.tce_window.specs.Region.{end_page, first_page, region_byte, touches}
use Rattle.boot_text.specs.declared.verb.Verb.{Verb}
use Rattle.boot_text.specs.declared.verb.Verb.TheVariants as verbs
use Rattle.vio_trace.specs.declared.outcome.Outcome.{Outcome}
use Rattle.vio_trace.specs.declared.outcome.Outcome.TheVariants as outcomes
use Rattle.vscsi_client.specs.State.{ClientState}
use Rattle.vscsi_client.specs.Transferred.{DataRange, data_range, name_of}
use Rattle.vscsi_client.specs.declared.TheConstants.{PART_BYTES}
use Rattle.unit_region.specs.declared.step.Step.{Step}
use Rattle.unit_region.specs.declared.step.Step.TheVariants as steps
use Rattle.vcpu_run.specs.LinesShow.{Seen}

-- Bytes of a range were read that has at most 65,536: on each page the last strokes of a front are of this name and cover them.
pub record IsPartRead (seen : Seen) (name : StrokeName) (at len : ℕ) (bytes : List ℕ) : Type 0 where
  pub long : length bytes ≡ len
  pub fronts : ℕ → Option (List StrokeValue)
  pub there : (page : ℕ) → touches at len page ≡ true → seen.front_at page (fronts page)
  pub fresh : AreFresh name at len fronts (first_page at) (end_page at len)
  pub read : (k : ℕ) → k < len → slice_index bytes k ≡ region_byte fronts (at + k)

-- the same of a longer range, whose parts were read one after the other
abbrev pub AreBothRead : Seen → StrokeName → DataRange → List ℕ → Type 0
AreBothRead seen name range bytes =
    IsPartRead seen name range.at PART_BYTES (take PART_BYTES bytes)
    × IsPartRead seen name (range.at + PART_BYTES) (range.len - PART_BYTES) (drop PART_BYTES bytes)

abbrev pub AreAllRead : Seen → StrokeName → DataRange → List ℕ → Type 0
AreAllRead seen name range bytes =
    MatchBool (range.len == 0) (bytes ≡ [])
    (MatchBool (nat_le range.len PART_BYTES) (IsPartRead seen name range.at range.len bytes) (AreBothRead seen name range bytes))

-- What is said of them is the length of the range, and the sum of the bytes that were read in it.
pub record IsDataRead (seen : Seen) (name : StrokeName) (range : DataRange) (len total : ℕ) : Type 0 where
  pub bytes : List ℕ
  pub len_is : len ≡ length bytes
  pub in_range : len ≡ range.len
  pub total_is : total ≡ sum bytes
  pub read : AreAllRead seen name range bytes

-- A page of a range is the first on which the last strokes of a front are of another name, or do not cover what the range has there.
pub record IsPartStale (seen : Seen) (name : StrokeName) (at len page : ℕ) : Type 0 where
  pub fronts : ℕ → Option (List StrokeValue)
  pub there : (p : ℕ) → touches at len p ≡ true → p ≤ page → seen.front_at p (fronts p)
  pub found : Option StrokeName
  pub first : IsFirstStale name at len fronts (first_page at) (end_page at len) page found

-- the page is one of the first part of the range, or of the second
pub record IsLaterStale (seen : Seen) (name : StrokeName) (range : DataRange) (page : ℕ) : Type 0 where
  pub long : PART_BYTES < range.len
  pub stale : IsPartStale seen name (range.at + PART_BYTES) (range.len - PART_BYTES) page

abbrev pub IsDataStale : Seen → StrokeName → DataRange → (page : ℕ) → Type 0
IsDataStale seen name range page = IsPartStale seen name range.at (min range.len PART_BYTES) page ⊎ IsLaterStale seen name range page

-- what a line says of the data in a range
abbrev pub IsDataTold : Seen → StrokeName → DataRange → Outcome → Type 0
IsDataTold seen name range (outcomes.Data len total) = IsDataRead seen name range len total
IsDataTold seen name range (outcomes.Stale page) = IsDataStale seen name range page
IsDataTold seen name range _ = ⊤

-- data are neither given nor stale where none are kept
abbrev pub IsNoData : Outcome → Type 0
IsNoData (outcomes.Data len total) = ⊥
IsNoData (outcomes.Stale page) = ⊥
IsNoData _ = ⊤

-- the tag whose data a line gives
abbrev pub given_by : Verb → Option ℕ
given_by (verbs.Data tag) = Some tag
given_by _ = None

-- a client's line says so of the data that it keeps under a tag, if it gives those of one
abbrev pub IsKeptTold : Seen → ClientState → (tag : Option ℕ) → Outcome → Type 0
IsKeptTold seen client given outcome = IfSome given (λ tag. MatchOption (data_range client tag) (IsNoData outcome) (λ range. IsDataTold seen (name_of client tag) range outcome))

abbrev pub StepReads : Seen → ClientState → Verb → Step → Type 0
StepReads seen client verb (steps.Ends outcome) = IsKeptTold seen client (given_by verb) outcome
StepReads seen client verb (steps.Waits did) = ⊤
