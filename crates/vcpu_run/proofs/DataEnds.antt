-- A line that gives the data of a tag says what is so of them, once it ended.
use Rattle.std.proofs.Common.{◌≡◌, ℕ, List, [], ◌∷◌, ◌++◌, Option, Some, None, MatchOption, refl, subst}
use Rattle.std.proofs.lemmas.List.Elements.{Contains-append_left}
use Rattle.vio_num.specs.declared.names.UnitId.{UnitId}
use Rattle.page_slots.specs.declared.stroke.StrokeName.{StrokeName}
use Rattle.vio_trace.specs.declared.outcome.Outcome.{Outcome}
use Rattle.vio_trace.specs.declared.outcome.Outcome.TheVariants as outcomes
use Rattle.vio_trace.specs.declared.rows.AnswerRow.{AnswerRow}
use Rattle.vscsi_client.specs.Transferred.{DataRange, data_range, name_of}
use Rattle.vcpu_run.specs.declared.driver.Driver.{Driver}
use Rattle.vcpu_run.specs.AnswersTaken.{no_takes, takes_after}
use Rattle.vcpu_run.specs.Credited.{Ended}
use Rattle.vcpu_run.specs.DataKept.{AreKeptAt, AreNoted, IsRangeOf}
use Rattle.vcpu_run.specs.DataRead.{IsDataTold, IsKeptTold, IsNoData, given_by}
use Rattle.vcpu_run.specs.DataTold.{IsGivenIf, IsLineGiven}
use Rattle.vcpu_run.specs.LinesShow.{Seen}
use Rattle.vcpu_run.specs.Takings.{AgreesTaken}
use Rattle.vcpu_run.proofs.DataOf.{NotesAll, range_more}
use Rattle.vcpu_run.proofs.DataRanges.{range_told}

-- of a range that is kept
some_given : (seen : Seen) (name : StrokeName) (ended : List Ended) (answers : List AnswerRow) (range : DataRange) (outcome : Outcome) → IsRangeOf ended answers name.mark range
    → IsDataTold seen name range outcome → IsGivenIf seen name ended answers outcome
some_given seen name ended answers range (outcomes.Granted credits) of_line told = tt
some_given seen name ended answers range (outcomes.Rejected reason) of_line told = tt
some_given seen name ended answers range outcomes.Lost of_line told = tt
some_given seen name ended answers range outcomes.Unanswered of_line told = tt
some_given seen name ended answers range (outcomes.Sent tag) of_line told = tt
some_given seen name ended answers range outcomes.Range of_line told = tt
some_given seen name ended answers range outcomes.NotLoggedIn of_line told = tt
some_given seen name ended answers range (outcomes.NoCredit limit) of_line told = tt
some_given seen name ended answers range (outcomes.Overlap tag) of_line told = tt
some_given seen name ended answers range outcomes.Closed of_line told = tt
some_given seen name ended answers range (outcomes.Dropped number held) of_line told = tt
some_given seen name ended answers range (outcomes.Took count) of_line told = tt
some_given seen name ended answers range (outcomes.TookThenLost count) of_line told = tt
some_given seen name ended answers range (outcomes.Data len total) of_line told = record { range = range; of_line = of_line; told = told }
some_given seen name ended answers range (outcomes.Stale page) of_line told = record { range = range; of_line = of_line; told = told }
some_given seen name ended answers range outcomes.Unknown of_line told = tt
some_given seen name ended answers range (outcomes.Code code) of_line told = tt
some_given seen name ended answers range (outcomes.Value value) of_line told = tt
some_given seen name ended answers range (outcomes.Posted buffers code) of_line told = tt
some_given seen name ended answers range (outcomes.Frame code number) of_line told = tt
some_given seen name ended answers range outcomes.Done of_line told = tt
some_given seen name ended answers range (outcomes.Bytes shown) of_line told = tt

-- of none
none_given : (seen : Seen) (name : StrokeName) (ended : List Ended) (answers : List AnswerRow) (outcome : Outcome) → IsNoData outcome → IsGivenIf seen name ended answers outcome
none_given seen name ended answers (outcomes.Granted credits) none = tt
none_given seen name ended answers (outcomes.Rejected reason) none = tt
none_given seen name ended answers outcomes.Lost none = tt
none_given seen name ended answers outcomes.Unanswered none = tt
none_given seen name ended answers (outcomes.Sent tag) none = tt
none_given seen name ended answers outcomes.Range none = tt
none_given seen name ended answers outcomes.NotLoggedIn none = tt
none_given seen name ended answers (outcomes.NoCredit limit) none = tt
none_given seen name ended answers (outcomes.Overlap tag) none = tt
none_given seen name ended answers outcomes.Closed none = tt
none_given seen name ended answers (outcomes.Dropped number held) none = tt
none_given seen name ended answers (outcomes.Took count) none = tt
none_given seen name ended answers (outcomes.TookThenLost count) none = tt
none_given seen name ended answers (outcomes.Data len total) none = absurd none
none_given seen name ended answers (outcomes.Stale page) none = absurd none
none_given seen name ended answers outcomes.Unknown none = tt
none_given seen name ended answers (outcomes.Code code) none = tt
none_given seen name ended answers (outcomes.Value value) none = tt
none_given seen name ended answers (outcomes.Posted buffers code) none = tt
none_given seen name ended answers (outcomes.Frame code number) none = tt
none_given seen name ended answers outcomes.Done none = tt
none_given seen name ended answers (outcomes.Bytes shown) none = tt

pub line_given : (taken : ℕ) (own : List Ended) (e : Ended) (seen : Seen) (a b : Driver) (server : UnitId) → AgreesTaken taken (takes_after no_takes own) a
    → AreNoted a.client.rows a.answers.items → AreKeptAt a.client.rows own → NotesAll a.answers.items b.answers.items → a.client.server ≡ server
    → IsKeptTold seen a.client (given_by e.verb) e.outcome → IsLineGiven seen server (own ++ e ∷ []) b.answers.items (given_by e.verb) e.outcome
line_given taken own e seen a b server agrees noted kept answers server_is = at (given_by e.verb)
  where
    by : (tag : ℕ) (o : Option DataRange) → data_range a.client tag ≡ o → MatchOption o (IsNoData e.outcome) (λ range. IsDataTold seen (name_of a.client tag) range e.outcome)
        → IsGivenIf seen (record { who = server; mark = tag }) (own ++ e ∷ []) b.answers.items e.outcome
    by tag None is told = none_given seen (record { who = server; mark = tag }) (own ++ e ∷ []) b.answers.items e.outcome told
    by tag (Some range) is told =
        some_given seen (record { who = server; mark = tag }) (own ++ e ∷ []) b.answers.items range e.outcome
        (range_more own (own ++ e ∷ []) a.answers.items b.answers.items tag range (λ x there. Contains-append_left own (e ∷ []) x there) answers
        (range_told taken own a tag range agrees noted kept is))
        (subst (λ (who : UnitId). IsDataTold seen (record { who = who; mark = tag }) range e.outcome) server_is told)

    at : (given : Option ℕ) → IsKeptTold seen a.client given e.outcome → IsLineGiven seen server (own ++ e ∷ []) b.answers.items given e.outcome
    at None told = tt
    at (Some tag) told = by tag (data_range a.client tag) refl told
