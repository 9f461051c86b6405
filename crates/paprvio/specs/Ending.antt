-- How a run can end, and what it did to its source, its sink and its image then.
use Rattle.std.specs.Prelude.{◌≡◌, ◌⊎◌, ℕ, List, Option}
use Rattle.std.specs.Io.KnownBytes.{Appends, Keeps}
use Rattle.vio_io.specs.Image.{ImageState, FailsAfter, after_sizing}
use Rattle.vio_num.specs.Counts.{Rose}
use Rattle.paprvio.specs.declared.status.Status.{Status}
use Rattle.paprvio.specs.declared.status.Status.TheVariants.{SourceFailed, SinkFailed, ImageFailed, NoMemory}
use Rattle.vio_trace.specs.Passing.{AppendsFront}

-- what a source, a sink and an image show at one moment
pub record Outside : Type 0 where
  -- the bytes that the source has left, and those that the sink took, where they tell them
  pub left : Option (List ℕ)
  pub taken : Option (List ℕ)
  -- their counts of faults
  pub source_faults : ℕ
  pub sink_faults : ℕ
  pub image : ImageState

abbrev pub outside : (left taken : Option (List ℕ)) → (source_faults sink_faults : ℕ) → ImageState → Outside
outside left taken source_faults sink_faults image =
    record { left = left; taken = taken; source_faults = source_faults; sink_faults = sink_faults; image = image }

-- The sink took a text of this kind, whole, and nothing failed.
pub record Writes (IsText : List ℕ → Type 0) (old new : Outside) : Type 0 where
  pub text : List ℕ
  pub belongs : IsText text
  pub written : Appends old.taken new.taken text
  pub source_faults : new.source_faults ≡ old.source_faults
  pub sink_faults : new.sink_faults ≡ old.sink_faults

-- The source failed, and nothing was written.
pub record SourceFails (old new : Outside) : Type 0 where
  pub source_faults : Rose old.source_faults new.source_faults
  pub unwritten : Keeps old.taken new.taken
  pub sink_faults : new.sink_faults ≡ old.sink_faults

-- The image failed as its blocks were counted, and nothing was written.
pub record ImageFails (old new : Outside) : Type 0 where
  pub image : FailsAfter (after_sizing old.image) new.image
  pub unwritten : Keeps old.taken new.taken
  pub source_faults : new.source_faults ≡ old.source_faults
  pub sink_faults : new.sink_faults ≡ old.sink_faults

-- The sink took a front of the text that belongs to some status.
pub record WritesFront (IsText : Status → List ℕ → Type 0) (old new : Outside) : Type 0 where
  pub status : Status
  pub text : List ℕ
  pub belongs : IsText status text
  pub front : AppendsFront old.taken new.taken text

-- The sink failed, behind a front of the text.
pub record SinkFails (IsText : Status → List ℕ → Type 0) (old new : Outside) : Type 0 where
  pub front : WritesFront IsText old new
  pub source_faults : new.source_faults ≡ old.source_faults
  pub sink_faults : Rose old.sink_faults new.sink_faults

-- Memory ran out, before a byte was written or behind a front of the text.
pub record RunsOut (IsText : Status → List ℕ → Type 0) (old new : Outside) : Type 0 where
  pub front : Keeps old.taken new.taken ⊎ WritesFront IsText old new
  pub source_faults : new.source_faults ≡ old.source_faults
  pub sink_faults : new.sink_faults ≡ old.sink_faults

-- a text of a status is written to a sink: what that ends as, and what it did to the sink
abbrev pub FinishesAs : (status : Status) (text : List ℕ) → Status → (taken taken' : Option (List ℕ)) → (faults faults' : ℕ) → Type 0
FinishesAs status text SinkFailed taken taken' faults faults' = AppendsFront taken taken' text × Rose faults faults'
FinishesAs status text NoMemory taken taken' faults faults' = AppendsFront taken taken' text × (faults' ≡ faults)
FinishesAs status text end taken taken' faults faults' = (end ≡ status) × Appends taken taken' text × (faults' ≡ faults)

-- the end that each status is, where `IsText` says which texts belong to it
abbrev pub EndsAs : (Status → List ℕ → Type 0) → Status → Outside → Outside → Type 0
EndsAs IsText SourceFailed old new = SourceFails old new
EndsAs IsText SinkFailed old new = SinkFails IsText old new
EndsAs IsText ImageFailed old new = ImageFails old new
EndsAs IsText NoMemory old new = RunsOut IsText old new
EndsAs IsText status old new = Writes (IsText status) old new
