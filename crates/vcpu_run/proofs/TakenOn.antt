-- The answers of clients, as their lines go on and end.
use Rattle.std.proofs.Common.{◌≡◌, ◌∙◌, ℕ, ◌≤◌, zero, suc, true, false, All, List, [], ◌∷◌, ◌++◌, Option, Some, None, Ok, IfSome, IsSomeAnd, length, refl, sym, ap, subst, arith}
use Rattle.std.proofs.lemmas.List.{length-map, map-append}
use Rattle.std.specs.List.{Contains}
use Rattle.std.proofs.lemmas.List.Elements.{All-nil, Contains-append_left}
use Rattle.vio_num.specs.declared.names.UnitId.{UnitId}
use Rattle.vio_num.specs.declared.entry.Entry.{Entry}
use Rattle.vio_num.specs.declared.hypervisor.Moved.{Moved}
use Rattle.crq_ring.specs.declared.rows.PipeRow.{PipeRow}
use Rattle.crq_session.specs.PlainState.{end_of, side_of}
use Rattle.boot_text.specs.declared.verb.Verb.{Verb}
use Rattle.vio_trace.specs.declared.rows.AnswerRow.{AnswerRow}
use Rattle.unit_region.specs.declared.step.Step.TheVariants as steps
use Rattle.vscsi_client.specs.State.{tags_of}
use Rattle.vscsi_client.specs.declared.outgoing.Outgoing.{Outgoing}
use Rattle.vscsi_client.specs.declared.row.Row.{Row}
use Rattle.vscsi_client.specs.declared.row.Row.TheVariants as rows
use Rattle.vcpu_run.specs.declared.driver.Driver.{Driver}
use Rattle.vcpu_run.specs.declared.pair.Pair.{Pair}
use Rattle.vcpu_run.specs.declared.script.Progress.{Progress}
use Rattle.vcpu_run.specs.declared.script.Progress.TheVariants as progress
use Rattle.vcpu_run.specs.Agreed.{OnDrivers}
use Rattle.vcpu_run.specs.Answered.{AreBegun}
use Rattle.vcpu_run.specs.AnswersTaken.{AreAmong, AreTakesSaid, IsAnswerOf, IsTakeSaid, TakesNow, answered_tags, has_tag, no_takes, tags_among, tags_taken, takes_after, takes_by}
use Rattle.vcpu_run.specs.Credited.{Ended, taken_in}
use Rattle.vcpu_run.specs.EventsHeard.{AreEventsHeard, StepHears, events_waiting, lost_of}
use Rattle.vcpu_run.specs.DataKept.{IsKeptAt, range_in}
use Rattle.vcpu_run.specs.DataRead.{given_by}
use Rattle.vcpu_run.specs.DataTold.{AreDataTold, IsLineGiven}
use Rattle.vcpu_run.specs.LinesShow.{seen_at, seen_now}
use Rattle.vcpu_run.specs.Pairs.{Drives}
use Rattle.vcpu_run.specs.ScriptTold.{SameClient}
use Rattle.vcpu_run.specs.TakenScripts.{IsTaken, HasTakenNone, PairAgrees, PairGives, PairHears, PairReads, PairTaken, PairTakes, PairUntaken, StepKeeps}
use Rattle.vcpu_run.specs.Takings.{AgreesTaken, AreGiven, FitsTag, Gives, HasMoreAnswers, IsTakenUpTo, StepsTaken}
use Rattle.vcpu_run.specs.TagRows.{is_given, row_at}
use Rattle.vcpu_run.proofs.Announcing.{both_bools}
use Rattle.vcpu_run.proofs.DataEnds.{line_given}
use Rattle.vcpu_run.proofs.DataOf.{NotesAll, kept_further, kept_next, kept_told_more, noted_more, told_further, told_next}
use Rattle.vcpu_run.proofs.DataStays.{no_login}
use Rattle.vcpu_run.proofs.LinesShown.{drives_sees, now_sees}
use Rattle.vcpu_run.proofs.EventsHeard.{heard_ends, heard_on, heard_quiet}
use Rattle.vcpu_run.proofs.GivesAll.{begun_at}
use Rattle.vcpu_run.proofs.TagsKept.{row_past}
use Rattle.vcpu_run.specs.Reached.{HasBegun, IfReached, IsBlankBefore}
use Rattle.vcpu_run.proofs.ShutKept.{begun_driven}
use Rattle.vcpu_run.proofs.TakesSaid.{said_longer, said_next, takes_next}

-- the answers of before are among those of now
all_answers : (a b : Driver) → HasMoreAnswers a.answers.items b.answers.items → NotesAll a.answers.items b.answers.items
all_answers a b more = noted_more a.answers.items b.answers.items (λ x there. subst (λ (rows : List AnswerRow). Contains rows x) (sym more.1) (Contains-append_left a.answers.items more.0 x there))

taken_on : (own : List Ended) (before after : Pair) (a b : Driver) → Drives before after
    → (IsBlankBefore a.client (side_of before.link false).queue.sent → IsBlankBefore b.client (side_of after.link false).queue.sent) → Gives a b (end_of [] before.link false) (end_of [] after.link false) → IsTaken own before a → IsTaken own after b
taken_on own before after a b drives reached gives is = record {
  said = subst (λ (rows : List AnswerRow). AreTakesSaid (answered_tags rows) no_takes own) (sym gives.more.1)
      (subst (λ (tags : List ℕ). AreTakesSaid tags no_takes own) (sym (map-append (λ (row : AnswerRow). row.tag) a.answers.items gives.more.0))
      (said_longer (answered_tags a.answers.items) (answered_tags gives.more.0) no_takes own is.said));
  given = gives.given (begun_at before.link) is.given;
  heard = heard_on own a.client b.client (end_of [] before.link false) (end_of [] after.link false) gives.heard is.heard;
  server = gives.server ∙ (is.server ∙ sym drives.server);
  asked = gives.keeps.asked is.asked;
  noted = gives.keeps.noted is.asked is.noted;
  kept = kept_further a.client.rows b.client.rows own (gives.keeps.rows_stay is.asked) is.kept;
  reads = subst (λ (who : UnitId). AreDataTold (seen_at after) who own b.answers.items) (sym drives.server)
      (told_further (seen_at before) (seen_at after) own a.answers.items b.answers.items before.server (drives_sees before after drives) (all_answers a b gives.more) is.reads);
  reached = reached is.reached;
  begun = begun_driven before after drives is.begun;
}

-- what is taken at a pair keeps what is so of its client's answers
pub kept_pair : (own : List Ended) (before after : Pair) → Drives before after → PairGives before after → PairTaken own before → PairTaken own after
kept_pair own before after drives = at before.driver after.driver drives.reached
  where
    at : (o o' : Option Driver) → (IfReached o (side_of before.link false).queue.sent → IfReached o' (side_of after.link false).queue.sent)
        → OnDrivers o o' (λ a b. Gives a b (end_of [] before.link false) (end_of [] after.link false)) → IfSome o (IsTaken own before) → IfSome o' (IsTaken own after)
    at None None reached gives is = tt
    at None (Some b) reached gives is = absurd gives
    at (Some a) None reached gives is = tt
    at (Some a) (Some b) reached gives is = taken_on own before after a b drives reached gives is

-- there are as many answers as the records tell
counted : (own : List Ended) (e : Ended) (after : Pair) (b : Driver) → IsTaken own after b → IsKeptAt b.client.rows (range_in e.verb) e.outcome
    → IsLineGiven (seen_at after) after.server (own ++ e ∷ []) b.answers.items (given_by e.verb) e.outcome → AreEventsHeard (own ++ e ∷ []) b.client (side_of after.link false).queue.taken → IsTakeSaid (answered_tags b.answers.items) (takes_after no_takes own) e.verb e.outcome
    → AgreesTaken 0 (takes_by e.verb e.outcome (takes_after no_takes own)) b → IsTaken (own ++ e ∷ []) after b
counted own e after b is sends given heard said agrees =
    let long : length (answered_tags b.answers.items) ≡ length b.answers.items = length-map b.answers.items (λ (row : AnswerRow). row.tag) in
    let many = agrees.count in
    record {
      said = said_next (answered_tags b.answers.items) no_takes own e is.said said (omega (arith, long, many));
      given = is.given;
      heard = heard;
      server = is.server;
      asked = is.asked;
      noted = is.noted;
      kept = kept_next b.client.rows own e is.kept sends;
      reads = told_next (seen_at after) own e b.answers.items after.server is.reads given;
      reached = is.reached;
      begun = is.begun;
    }

-- a step of the pair's own line that ends, where what is so of the answers is so behind it
pub taken_ends : (p p' : Progress) (own : List Ended) (e : Ended) (before after : Pair) → IsSomeAnd before.driver (λ d. Unit {0}) → IsTakenUpTo e.verb (taken_in p)
    → PairTakes e.verb p p' before after (Ok (steps.Ends e.outcome)) → PairHears before after (Ok (steps.Ends e.outcome)) → PairReads e.verb before after (Ok (steps.Ends e.outcome)) → PairGives before after → after.server ≡ before.server
    → PairTaken own before → PairTaken own after → PairAgrees own p before → PairTaken (own ++ e ∷ []) after × PairAgrees (own ++ e ∷ []) progress.Fresh after
taken_ends p p' own e before after has of = λ takes hears reads gives same. at same before.driver after.driver has takes hears reads gives
  where
    at : after.server ≡ before.server → (o o' : Option Driver) → IsSomeAnd o (λ d. Unit {0}) → OnDrivers o o' (λ a b. StepsTaken e.verb (taken_in p) (taken_in p') a b (Ok (steps.Ends e.outcome)))
        → OnDrivers o o' (λ a b. StepHears (Ok (steps.Ends e.outcome)) a.client b.client (end_of [] before.link false) (end_of [] after.link false))
        → OnDrivers o o' (λ a b. StepKeeps (seen_now after) a.client b.client e.verb (steps.Ends e.outcome))
        → OnDrivers o o' (λ a b. Gives a b (end_of [] before.link false) (end_of [] after.link false))
        → IfSome o (IsTaken own before) → IfSome o' (IsTaken own after) → IfSome o (AgreesTaken (taken_in p) (takes_after no_takes own))
        → IfSome o' (IsTaken (own ++ e ∷ []) after) × IfSome o' (AgreesTaken 0 (takes_after no_takes (own ++ e ∷ [])))
    at same None o' has step hears reads gives was is agrees = absurd has
    at same (Some a) None has step hears reads gives was is agrees = absurd step
    at same (Some a) (Some b) has step hears reads gives was is agrees =
        let next = step of (takes_after no_takes own) agrees in
        let given : IsLineGiven (seen_at after) after.server (own ++ e ∷ []) b.answers.items (given_by e.verb) e.outcome =
        line_given (taken_in p) own e (seen_at after) a b after.server agrees was.noted was.kept (all_answers a b gives.more) (was.server ∙ sym same)
        (kept_told_more (seen_now after) (seen_at after) (now_sees after) a.client (given_by e.verb) e.outcome reads.reads) in (
          counted own e after b is reads.sends given (heard_ends own e a.client b.client (end_of [] before.link false) (end_of [] after.link false) hears was.heard) next.0 next.1,
          subst (λ (now : TakesNow). AgreesTaken 0 now b) (sym (takes_next no_takes own e)) next.1,
        )

-- and one that waits
pub taken_waits : (verb : Verb) (p p' : Progress) (own : List Ended) (before after : Pair) (did : Moved) → IsSomeAnd before.driver (λ d. Unit {0}) → IsTakenUpTo verb (taken_in p)
    → PairTakes verb p p' before after (Ok (steps.Waits did)) → PairAgrees own p before → IsTakenUpTo verb (taken_in p') × PairAgrees own p' after
taken_waits verb p p' own before after did has of = at before.driver after.driver has
  where
    at : (o o' : Option Driver) → IsSomeAnd o (λ d. Unit {0}) → OnDrivers o o' (λ a b. StepsTaken verb (taken_in p) (taken_in p') a b (Ok (steps.Waits did)))
        → IfSome o (AgreesTaken (taken_in p) (takes_after no_takes own)) → IsTakenUpTo verb (taken_in p') × IfSome o' (AgreesTaken (taken_in p') (takes_after no_takes own))
    at None o' has step agrees = absurd has
    at (Some a) None has step agrees = absurd step
    at (Some a) (Some b) has step agrees = let next = step of in (next.0, next.1 (takes_after no_takes own) agrees)

-- a record that takes none
pub taken_quiet : (own : List Ended) (e : Ended) (pair : Pair) → lost_of e.outcome ≡ 0 → ((rs : List Row) → IsKeptAt rs (range_in e.verb) e.outcome) → given_by e.verb ≡ None → ((tags : List ℕ) (now : TakesNow) → IsTakeSaid tags now e.verb e.outcome) → ((now : TakesNow) → takes_by e.verb e.outcome now ≡ now)
    → PairTaken own pair → PairTaken (own ++ e ∷ []) pair
taken_quiet own e pair none sends no_data said quiet = at pair.driver
  where
    least : (tags : List ℕ) (now : TakesNow) (own : List Ended) → AreTakesSaid tags now own → AreTakesSaid tags now (own ++ e ∷ [])
    least tags now [] is = (said tags now, subst (λ (n : TakesNow). n.count ≤ length tags) (sym (quiet now)) is)
    least tags now (ended ∷ more) is = (is.0, least tags (takes_by ended.verb ended.outcome now) more is.1)

    at : (o : Option Driver) → IfSome o (IsTaken own pair) → IfSome o (IsTaken (own ++ e ∷ []) pair)
    at None is = tt
    at (Some driver) is = record {
      said = least (answered_tags driver.answers.items) no_takes own is.said;
      given = is.given;
      heard = heard_quiet own e driver.client (side_of pair.link false).queue.taken none is.heard;
      server = is.server;
      asked = is.asked;
      noted = is.noted;
      kept = kept_next driver.client.rows own e is.kept (sends driver.client.rows);
      reads = told_next (seen_at pair) own e driver.answers.items pair.server is.reads
          (subst (λ (o : Option ℕ). IsLineGiven (seen_at pair) pair.server (own ++ e ∷ []) driver.answers.items o e.outcome) (sym no_data) tt);
      reached = is.reached;
      begun = is.begun;
    }

-- nothing is told of a tag that no row has
none_fit : (tag : ℕ) → FitsTag [] [] [] [] tag
none_fit tag = record {
  sent = λ is. absurd (cc);
  of_line = λ is. absurd (cc);
  known = known tag;
  answered = λ is. absurd (cc);
  begun = λ is. absurd (cc);
  used = λ is. absurd (cc);
}
  where
    known : (tag : ℕ) → is_given (row_at [] tag) ≡ false
    known zero = refl
    known (suc n) = ap is_given (row_past [] (suc n) (omega arith))

-- no row, and no line
pub empty_row : (tag : ℕ) → row_at [] tag ≡ rows.Login
empty_row zero = refl
empty_row (suc n) = row_past [] (suc n) (omega arith)

no_line : (e : Ended) → Contains [] e → ⊥
no_line e there = let less = there.1 in omega (arith, less)

-- a client that has sent nothing
pub taken_none : (pair : Pair) → HasBegun (end_of [] pair.link true) → PairUntaken pair → PairTaken [] pair × PairAgrees [] progress.Fresh pair
taken_none pair served = at pair.driver
  where
    given : (driver : Driver) → HasTakenNone pair.server (side_of pair.link false).queue.taken driver → AreGiven driver (end_of [] pair.link false)
    given driver is = record {
      begun = subst AreBegun (sym is.none) (All-nil (λ (row : PipeRow). 1 ≤ row.session));
      order = subst (λ (rows : List AnswerRow). AreAmong (answered_tags rows ++ tags_among driver.client.kept) (tags_taken (side_of pair.link false).queue.taken)) (sym is.answers)
          (subst (λ (entries : List Entry). AreAmong (tags_among entries) (tags_taken (side_of pair.link false).queue.taken)) (sym is.kept) tt);
      rest = is.rest;
      each = subst (All IsAnswerOf) (sym is.answers) (All-nil IsAnswerOf);
    }

    heard : (driver : Driver) → HasTakenNone pair.server (side_of pair.link false).queue.taken driver → AreEventsHeard [] driver.client (side_of pair.link false).queue.taken
    heard driver is = let none : events_waiting driver.client ≡ 0 = is.events in omega (arith, none)

    agrees : (driver : Driver) → HasTakenNone pair.server (side_of pair.link false).queue.taken driver → AgreesTaken 0 no_takes driver
    agrees driver is = record {
      count = ap length is.answers;
      tags = λ tag.
          subst (λ (rows : List Row). FitsTag rows (tags_of driver.client.outgoing) (answered_tags driver.answers.items) [] tag) (sym is.rows)
          (subst (λ (os : List Outgoing). FitsTag [] (tags_of os) (answered_tags driver.answers.items) [] tag) (sym is.outgoing)
          (subst (λ (rows : List AnswerRow). FitsTag [] [] (answered_tags rows) [] tag) (sym is.answers) (none_fit tag)));
    }

    at : (o : Option Driver) → IfSome o (HasTakenNone pair.server (side_of pair.link false).queue.taken) → IfSome o (IsTaken [] pair) × IfSome o (AgreesTaken 0 no_takes)
    at None is = (tt, tt)
    at (Some driver) is = (
      record {
        said = omega arith;
        given = given driver is;
        heard = heard driver is;
        server = is.server;
        asked = λ tag has. absurd (both_bools (has_tag tag (tags_of driver.client.outgoing)) has (ap (λ (os : List Outgoing). has_tag tag (tags_of os)) is.outgoing));
        noted = λ tag at len said row. absurd (no_login at len (Some said) (sym (ap (λ (rs : List Row). row_at rs tag) is.rows ∙ empty_row tag) ∙ row));
        kept = λ e there. absurd (no_line e there);
        reads = λ e there. absurd (no_line e there);
        reached = λ none. is.blank;
        begun = served;
      },
      agrees driver is,
    )

-- the client is as it was
pub taken_same : (own : List Ended) (p : Progress) (before after : Pair) → SameClient before after → (PairTaken own before → PairTaken own after) × (PairAgrees own p before → PairAgrees own p after)
taken_same own p before after same = (
  λ is. subst (λ (o : Option Driver). IfSome o (IsTaken own after)) (sym same.driver) (at before.driver is),
  λ is. subst (λ (o : Option Driver). IfSome o (AgreesTaken (taken_in p) (takes_after no_takes own))) (sym same.driver) is,
)
  where
    given : (driver : Driver) → AreGiven driver (end_of [] before.link false) → AreGiven driver (end_of [] after.link false)
    given driver is = record {
      begun = subst AreBegun (sym same.taken) is.begun;
      order = subst (λ (rows : List PipeRow). AreAmong (answered_tags driver.answers.items ++ tags_among driver.client.kept) (tags_taken rows)) (sym same.taken) is.order;
      rest = is.rest;
      each = is.each;
    }

    at : (o : Option Driver) → IfSome o (IsTaken own before) → IfSome o (IsTaken own after)
    at None is = tt
    at (Some driver) is = record {
      said = is.said;
      given = given driver is.given;
      heard = subst (AreEventsHeard own driver.client) (sym same.taken) is.heard;
      server = is.server ∙ sym same.server;
      asked = is.asked;
      noted = is.noted;
      kept = is.kept;
      reads = subst (λ (who : UnitId). AreDataTold (seen_at after) who own driver.answers.items) (sym same.server)
          (told_further (seen_at before) (seen_at after) own driver.answers.items driver.answers.items before.server same.sees (λ tag said noted. noted) is.reads);
      reached = λ none. is.reached (same.puts.3.puts none);
      begun = same.puts.3.begun is.begun;
    }
