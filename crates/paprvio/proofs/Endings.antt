-- From how an answer was written to how the run ends.
use Rattle.std.proofs.Common.{◌≡◌, ◌≢◌, ℕ, List, Option, Some, None, inl, inr, refl, sym, ◌∙◌, subst, arith}
use Rattle.std.specs.Bool.{⊤}
use Rattle.vio_io.specs.Image.{ImageState}
use Rattle.paprvio.specs.declared.status.Status.{Status}
use Rattle.paprvio.specs.declared.status.Status.TheVariants.{Done, Usage, Refused, SourceFailed, SinkFailed, ImageFailed, NoMemory}
use Rattle.paprvio.specs.Words.{asked}
use Rattle.paprvio.specs.declared.request.Request.{Request}
use Rattle.paprvio.specs.declared.request.Request.TheVariants.{Run, Generate, Summarize}
use Rattle.paprvio.specs.Ending.{Outside, EndsAs, FinishesAs}
use Rattle.paprvio.specs.Run.{AreRun, AsksFor, AsksForRun, IsDoneAs, IsRefusedAs, IsRun, RunAnswer, RunsPlan, RunEndsWith, FitsWords, IsUnrun, IsUnwritten}
use Rattle.paprvio.specs.Status.{status_code}

-- an answer was written
pub written_end : (words : List (List ℕ)) (left left' : Option (List ℕ)) (image image' : ImageState) (status end : Status) (text : List ℕ)
    (old new : Outside) → RunAnswer words left left' image image' status text → new.source_faults ≡ old.source_faults
    → FinishesAs status text end old.taken new.taken old.sink_faults new.sink_faults → EndsAs (RunAnswer words left left' image image') end old new
written_end words left left' image image' status Done text old new belongs same done =
    record { text = text; belongs = subst (λ s. RunAnswer words left left' image image' s text) (sym done.0) belongs; written = done.1; source_faults = same; sink_faults = done.2 }
written_end words left left' image image' status Usage text old new belongs same done =
    record { text = text; belongs = subst (λ s. RunAnswer words left left' image image' s text) (sym done.0) belongs; written = done.1; source_faults = same; sink_faults = done.2 }
written_end words left left' image image' status Refused text old new belongs same done =
    record { text = text; belongs = subst (λ s. RunAnswer words left left' image image' s text) (sym done.0) belongs; written = done.1; source_faults = same; sink_faults = done.2 }
written_end words left left' image image' status SourceFailed text old new belongs same done =
    absurd (subst (λ s. RunAnswer words left left' image image' s text) (sym done.0) belongs)
written_end words left left' image image' status ImageFailed text old new belongs same done =
    absurd (subst (λ s. RunAnswer words left left' image image' s text) (sym done.0) belongs)
written_end words left left' image image' status SinkFailed text old new belongs same done =
    record { front = record { status = status; text = text; belongs = belongs; front = done.0 }; source_faults = same; sink_faults = done.1 }
written_end words left left' image image' status NoMemory text old new belongs same done =
    record { front = inr (record { status = status; text = text; belongs = belongs; front = done.0 }); source_faults = same; sink_faults = done.1 }

-- the statuses with an answer are not those of a run that wrote nothing
pub not_unwritten : (words : List (List ℕ)) (left left' : Option (List ℕ)) (image image' : ImageState) (status end : Status) (text : List ℕ)
    (taken taken' : Option (List ℕ)) (faults faults' : ℕ) → RunAnswer words left left' image image' status text
    → FinishesAs status text end taken taken' faults faults' → ¬ IsUnwritten (status_code end)
not_unwritten words left left' image image' status Done text taken taken' faults faults' belongs done (inl e) = omega (arith, e)
not_unwritten words left left' image image' status Done text taken taken' faults faults' belongs done (inr e) = omega (arith, e)
not_unwritten words left left' image image' status Usage text taken taken' faults faults' belongs done (inl e) = omega (arith, e)
not_unwritten words left left' image image' status Usage text taken taken' faults faults' belongs done (inr e) = omega (arith, e)
not_unwritten words left left' image image' status Refused text taken taken' faults faults' belongs done (inl e) = omega (arith, e)
not_unwritten words left left' image image' status Refused text taken taken' faults faults' belongs done (inr e) = omega (arith, e)
not_unwritten words left left' image image' status SourceFailed text taken taken' faults faults' belongs done e =
    subst (λ s. RunAnswer words left left' image image' s text) (sym done.0) belongs
not_unwritten words left left' image image' status ImageFailed text taken taken' faults faults' belongs done e =
    subst (λ s. RunAnswer words left left' image image' s text) (sym done.0) belongs
not_unwritten words left left' image image' status SinkFailed text taken taken' faults faults' belongs done (inl e) = omega (arith, e)
not_unwritten words left left' image image' status SinkFailed text taken taken' faults faults' belongs done (inr e) = omega (arith, e)
not_unwritten words left left' image image' status NoMemory text taken taken' faults faults' belongs done (inl e) = omega (arith, e)
not_unwritten words left left' image image' status NoMemory text taken taken' faults faults' belongs done (inr e) = omega (arith, e)

abbrev IsOther : Status → Type 0
IsOther Done = ⊥
IsOther _ = ⊤

other_than_done : (end status : Status) → end ≡ status → IsOther end → ¬ (status ≡ Done)
other_than_done end status e other done = subst IsOther (e ∙ done) other

-- a run that made no call on its image did not write a trace
pub unrun_is_not_done : (status end : Status) (text : List ℕ) (taken taken' : Option (List ℕ)) (faults faults' : ℕ)
    → FinishesAs status text end taken taken' faults faults' → IsUnrun (status_code end) → ¬ (status ≡ Done)
unrun_is_not_done status Done text taken taken' faults faults' done (inl e) = absurd (omega (arith, e))
unrun_is_not_done status Done text taken taken' faults faults' done (inr (inl e)) = absurd (omega (arith, e))
unrun_is_not_done status Done text taken taken' faults faults' done (inr (inr e)) = absurd (omega (arith, e))
unrun_is_not_done status Usage text taken taken' faults faults' done e = other_than_done Usage status done.0 tt
unrun_is_not_done status Refused text taken taken' faults faults' done e = other_than_done Refused status done.0 tt
unrun_is_not_done status SourceFailed text taken taken' faults faults' done e = other_than_done SourceFailed status done.0 tt
unrun_is_not_done status ImageFailed text taken taken' faults faults' done e = other_than_done ImageFailed status done.0 tt
unrun_is_not_done status SinkFailed text taken taken' faults faults' done (inl e) = absurd (omega (arith, e))
unrun_is_not_done status SinkFailed text taken taken' faults faults' done (inr (inl e)) = absurd (omega (arith, e))
unrun_is_not_done status SinkFailed text taken taken' faults faults' done (inr (inr e)) = absurd (omega (arith, e))
unrun_is_not_done status NoMemory text taken taken' faults faults' done (inl e) = absurd (omega (arith, e))
unrun_is_not_done status NoMemory text taken taken' faults faults' done (inr (inl e)) = absurd (omega (arith, e))
unrun_is_not_done status NoMemory text taken taken' faults faults' done (inr (inr e)) = absurd (omega (arith, e))

-- what was done was asked for
pub done_asks : (request : Option Request) (left left' : Option (List ℕ)) (image image' : ImageState) (text : List ℕ) → IsDoneAs request left left' image image' text → request ≢ None
done_asks None left left' image image' text done none = done
done_asks (Some request) left left' image image' text done none = absurd (cc)

-- what was refused is the source's, and what was to be run is a plan
pub refused_runs : (request : Option Request) (left left' : Option (List ℕ)) (text : List ℕ) → IsRefusedAs request left left' text → IsRun request
refused_runs None left left' text told = absurd told
refused_runs (Some (Run workers)) left left' text told = tt
refused_runs (Some (Generate seed)) left left' text told = absurd told
refused_runs (Some (Summarize seed workers)) left left' text told = absurd told

pub asks_runs : (request : Option Request) (left left' : Option (List ℕ)) → AsksFor request left left' → RunsPlan request
asks_runs None left left' asks = absurd asks
asks_runs (Some (Run workers)) left left' asks = tt
asks_runs (Some (Generate seed)) left left' asks = absurd asks
asks_runs (Some (Summarize seed workers)) left left' asks = tt

-- the status of a run belongs to its words
pub fits_words : (words : List (List ℕ)) (status : Status) (old new : Outside) → RunEndsWith words status old new
    → (status ≡ SourceFailed → AreRun words) → (status ≡ ImageFailed → AsksForRun words old.left new.left) → FitsWords words (status_code status)
fits_words words Done old new ends read runs = record {
  done = λ _. done_asks (asked words) old.left new.left old.image new.image ends.text ends.belongs;
  usage = λ e. absurd (omega (arith, e));
  refused = λ e. absurd (omega (arith, e));
  source_failed = λ e. absurd (omega (arith, e));
  image_failed = λ e. absurd (omega (arith, e));
}
fits_words words Usage old new ends read runs = record {
  done = λ e. absurd (omega (arith, e));
  usage = λ _. ends.belongs.0;
  refused = λ e. absurd (omega (arith, e));
  source_failed = λ e. absurd (omega (arith, e));
  image_failed = λ e. absurd (omega (arith, e));
}
fits_words words Refused old new ends read runs = record {
  done = λ e. absurd (omega (arith, e));
  usage = λ e. absurd (omega (arith, e));
  refused = λ _. refused_runs (asked words) old.left new.left ends.text ends.belongs;
  source_failed = λ e. absurd (omega (arith, e));
  image_failed = λ e. absurd (omega (arith, e));
}
fits_words words SourceFailed old new ends read runs = record {
  done = λ e. absurd (omega (arith, e));
  usage = λ e. absurd (omega (arith, e));
  refused = λ e. absurd (omega (arith, e));
  source_failed = λ _. read refl;
  image_failed = λ e. absurd (omega (arith, e));
}
fits_words words SinkFailed old new ends read runs = record {
  done = λ e. absurd (omega (arith, e));
  usage = λ e. absurd (omega (arith, e));
  refused = λ e. absurd (omega (arith, e));
  source_failed = λ e. absurd (omega (arith, e));
  image_failed = λ e. absurd (omega (arith, e));
}
fits_words words ImageFailed old new ends read runs = record {
  done = λ e. absurd (omega (arith, e));
  usage = λ e. absurd (omega (arith, e));
  refused = λ e. absurd (omega (arith, e));
  source_failed = λ e. absurd (omega (arith, e));
  image_failed = λ _. asks_runs (asked words) old.left new.left (runs refl);
}
fits_words words NoMemory old new ends read runs = record {
  done = λ e. absurd (omega (arith, e));
  usage = λ e. absurd (omega (arith, e));
  refused = λ e. absurd (omega (arith, e));
  source_failed = λ e. absurd (omega (arith, e));
  image_failed = λ e. absurd (omega (arith, e));
}
