use Rattle.std.proofs.Common.{refl}
use Rattle.vio_trace.specs.declared.outcome.Outcome.TheVariants as outcomes
use Rattle.vio_trace.specs.declared.read_kinds.CodeWord.{CodeWord}
use Rattle.vio_trace.specs.declared.read_kinds.FrameWord.{FrameWord}
use Rattle.vio_trace.specs.declared.read_kinds.LostWord.{LostWord}
use Rattle.vio_trace.proofs.Parted.{nothing}
use Rattle.vio_trace.proofs.read_outcome.OutcomeFields.read.Goals as goal

abbrev one_code : CodeWord
one_code = record {}

abbrev one_frame : FrameWord
one_frame = record {}

abbrev one_lost : LostWord
one_lost = record {}

pub returns-in-None : goal.returns-in-None
returns-in-None c (outcomes.Sent n) h e = (nothing _ _ _ _ c.in_default.is c.in_ok-words.ensures) (record { word = n }) h e
returns-in-None c (outcomes.Took n) h e = (nothing _ _ _ _ c.in_default-2.is c.in_ok-words-2.ensures) (record { word = n }) h e
returns-in-None c (outcomes.Code a) h e = (nothing _ _ _ _ c.in_default-3.is c.in_ok-words-3.ensures) (record { word = a }) tt e
returns-in-None c (outcomes.Posted n a) h e = (nothing _ _ _ _ c.in_default-4.is c.in_ok-words-4.ensures) (record { word = n; rest = record { word = one_code; rest = record { word = a } } }) (h, (tt, tt)) e
returns-in-None c (outcomes.Frame a n) h e = (nothing _ _ _ _ c.in_default-5.is c.in_ok-words-5.ensures) (record { word = a; rest = record { word = one_frame; rest = record { word = n } } }) (tt, (tt, h)) e
returns-in-None c (outcomes.Data n s) h e = (nothing _ _ _ _ c.in_default-6.is c.in_ok-words-6.ensures) (record { word = n; rest = record { word = s } }) h e
returns-in-None c (outcomes.Granted n) h e = (nothing _ _ _ _ c.in_default-7.is c.in_ok-words-7.ensures) (record { word = n }) h e
returns-in-None c (outcomes.Rejected n) h e = (nothing _ _ _ _ c.in_default-8.is c.in_ok-words-8.ensures) (record { word = record { value = n } }) h e
returns-in-None c (outcomes.NoCredit n) h e = (nothing _ _ _ _ c.in_default-9.is c.in_ok-words-9.ensures) (record { word = n }) h e
returns-in-None c (outcomes.Overlap n) h e = (nothing _ _ _ _ c.in_default-10.is c.in_ok-words-10.ensures) (record { word = n }) h e
returns-in-None c (outcomes.Dropped n s) h e = (nothing _ _ _ _ c.in_default-11.is c.in_ok-words-11.ensures) (record { word = n; rest = record { word = record { value = s } } }) h e
returns-in-None c (outcomes.TookThenLost n) h e = (nothing _ _ _ _ c.in_default-12.is c.in_ok-words-12.ensures) (record { word = n; rest = record { word = one_lost } }) (h, tt) e
returns-in-None c (outcomes.Stale n) h e = (nothing _ _ _ _ c.in_default-13.is c.in_ok-words-13.ensures) (record { word = n }) h e
returns-in-None c (outcomes.Value n) h e = (nothing _ _ _ _ c.in_default-14.is c.in_ok-words-14.ensures) (record { word = record { value = n } }) h e
returns-in-None c (outcomes.Bytes shown) h e = (nothing _ _ _ _ c.in_default-15.is c.in_ok-words-15.ensures) (record { word = shown }) h e
returns-in-None c outcomes.Done h e = nothing _ _ _ _ c.in-None.is c.read_word_alone.ensures outcomes.Done refl e
returns-in-None c outcomes.Range h e = nothing _ _ _ _ c.in-None.is c.read_word_alone.ensures outcomes.Range refl e
returns-in-None c outcomes.Lost h e = nothing _ _ _ _ c.in-None.is c.read_word_alone.ensures outcomes.Lost refl e
returns-in-None c outcomes.Unanswered h e = nothing _ _ _ _ c.in-None.is c.read_word_alone.ensures outcomes.Unanswered refl e
returns-in-None c outcomes.NotLoggedIn h e = nothing _ _ _ _ c.in-None.is c.read_word_alone.ensures outcomes.NotLoggedIn refl e
returns-in-None c outcomes.Closed h e = nothing _ _ _ _ c.in-None.is c.read_word_alone.ensures outcomes.Closed refl e
returns-in-None c outcomes.Unknown h e = nothing _ _ _ _ c.in-None.is c.read_word_alone.ensures outcomes.Unknown refl e
