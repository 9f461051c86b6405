-- The refusals of a script's clients, as its lines go on and end.
use Rattle.std.proofs.Common.{◌≡◌, ◌≢◌, ◌∙◌, ◌⊎◌, inl, inr, ℕ, ◌+◌, ◌<◌, ◌≤◌, ◌==◌, cond, Bool, true, false, List, [], ◌∷◌, ◌++◌, Option, Some, None, Ok, IfSome, IsSomeAnd, length, slice_get, refl, sym, ap, subst, append-nil, arith, eq-eqb, eqb-true}
use Rattle.std.specs.List.{AllPairs}
use Rattle.std.proofs.lemmas.List.Elements.{All-nil}
use Rattle.std.proofs.lemmas.Option.{slice_get_past}
use Rattle.vio_num.specs.declared.hypervisor.Moved.{Moved}
use Rattle.vio_num.specs.declared.hypervisor.Moved.TheVariants.{Quiet}
use Rattle.vio_num.specs.declared.names.UnitId.{UnitId}
use Rattle.boot_text.specs.declared.plan.Line.{Line}
use Rattle.boot_text.specs.declared.verb.Verb.{Verb}
use Rattle.boot_text.specs.declared.verb.Verb.TheVariants as verbs
use Rattle.vio_trace.specs.declared.outcome.Outcome.{Outcome}
use Rattle.vio_trace.specs.declared.outcome.Outcome.TheVariants as outcomes
use Rattle.vscsi_client.specs.State.{next_tag}
use Rattle.crq_session.specs.PlainState.{end_of, side_of}
use Rattle.vio_trace.specs.declared.rows.LogRow.{LogRow}
use Rattle.unit_region.specs.declared.step.Step.TheVariants as steps
use Rattle.vcpu_run.specs.declared.driver.Driver.{Driver}
use Rattle.vcpu_run.specs.declared.pair.Pair.{Pair}
use Rattle.vcpu_run.specs.declared.script.Progress.{Progress}
use Rattle.vcpu_run.specs.declared.script.Progress.TheVariants as progress
use Rattle.vcpu_run.specs.declared.script.Script.{Script}
use Rattle.vcpu_run.specs.declared.unit_seat.Seat.{Seat}
use Rattle.vcpu_run.specs.declared.unit_seat.Seat.TheVariants as places
use Rattle.vcpu_run.specs.Agreed.{AreLoggedOut, IsLoggedOut, OnDrivers, driver_in}
use Rattle.vcpu_run.specs.Freeing.{is_reset}
use Rattle.vcpu_run.specs.Credited.{Ended, ended_by, is_take, taken_in}
use Rattle.vcpu_run.specs.DropsShown.{IsFullAt, IsFullIf, LinesFull}
use Rattle.vcpu_run.specs.ShutShown.{HadEnd, LinesShut}
use Rattle.vcpu_run.specs.LinesShow.{IsShown, LinesShow, Seen, read_by, requests, seen_at, seen_between, written_by, further_of}
use Rattle.vcpu_run.specs.Pairs.{AreDriven}
use Rattle.vcpu_run.specs.Refusals.{HasCausesTold, tag_of, tags_told}
use Rattle.vcpu_run.specs.Replay.{asks}
use Rattle.vcpu_run.specs.Scripts.{AreSeats}
use Rattle.vcpu_run.specs.SentOrder.{AreSentIn, entries_put}
use Rattle.vcpu_run.proofs.OrderSent.{one_shown, order_begun, shown_on}
use Rattle.vcpu_run.specs.EventsMade.{AllCalm, AllShut, PairMakes, events_at}
use Rattle.vcpu_run.specs.FailedShut.{AllStayShut, SeatsShut}
use Rattle.vcpu_run.specs.FewEvents.{PairFew, resets_told}
use Rattle.vcpu_run.proofs.CalmTurns.{calm_at, shut_at}
use Rattle.vcpu_run.proofs.FailedTold.{down_clients, down_failed, down_none, down_stays, fails_aside, none_ended, script_more}
use Rattle.vcpu_run.proofs.FewEvents.{else_ends, few_any, few_calm, few_else, few_failed, few_failing, few_now, few_over, few_shuts, few_then, makes_same, own_ends, own_waits, resets_own}
use Rattle.vcpu_run.specs.ScriptTold.{AtSeats, IsResetOut, IsScriptTold, SameClient, SameClients, PairIsTold, PairShown, own_of, progress_at, progress_by}
use Rattle.vcpu_run.specs.Suited.{suits}
use Rattle.vcpu_run.specs.EventsHeard.{StepHears, lost_of}
use Rattle.vcpu_run.specs.TakenScripts.{AllGive, AreUntaken, PairHears, PairReads, PairTakes}
use Rattle.vcpu_run.specs.Takings.{StepsTaken}
use Rattle.vcpu_run.specs.Telling.{IsOf, IsTold, LineOut, LineTold, PairTold, SeatTold, Seated, StepsOut, StepsTold, login_after, seated}
use Rattle.vcpu_run.specs.Works.{fails}
use Rattle.vcpu_run.specs.ValuesPut.{AllSameValues, AreValuesPut, PairPuts, is_put}
use Rattle.vcpu_run.proofs.ValuesKept.{ends_put, fails_none, first_values, keeps_put, same_puts, values_kept, waits_put}
use Rattle.vcpu_run.specs.DataKept.{range_in}
use Rattle.vcpu_run.specs.DataRead.{given_by}
use Rattle.vcpu_run.proofs.DataSteps.{pair_reads_none}
use Rattle.vcpu_run.proofs.Crediting.{ended_more, here_or}
use Rattle.vcpu_run.proofs.EventsHeard.{hears_same, none_lost}
use Rattle.vcpu_run.proofs.AnswersCounted.{is_data, plain_taken}
use Rattle.vcpu_run.proofs.Askings.{plain_ends}
use Rattle.vcpu_run.proofs.Driving.{client_is, driven_same, no_port, same_or, some_is}
use Rattle.vcpu_run.proofs.GivesAll.{all_give_same}
use Rattle.vcpu_run.proofs.FurtherKept.{no_further, unanswered}
use Rattle.vcpu_run.proofs.DropsKept.{more_same}
use Rattle.vcpu_run.proofs.EndedShown.{ended_shown, still_shown}
use Rattle.vcpu_run.proofs.ShutKept.{pair_shut_none, shut_none}
use Rattle.vcpu_run.proofs.ShutTold.{ends_shut}
use Rattle.vcpu_run.proofs.LinesShown.{fail_shows, fails_plain, no_row, sees_same, shows_none}
use Rattle.vcpu_run.proofs.LoginsTold.{true_false}
use Rattle.vcpu_run.proofs.Sayings.{is_logout, is_own, says_nothing}
use Rattle.vcpu_run.proofs.ScriptsTaken.{clients_taken, ends_taken, fail_ends_taken, fail_waits_taken, new_taken, over_taken, port_ends_taken, port_waits_taken, waits_taken}
use Rattle.vcpu_run.proofs.SeatPairs.{after_of, apart_seats, before_of, else_by, fresh_at, here_by, not_port, same_pair}
use Rattle.vcpu_run.proofs.Sole.{pairs_from_ordered}
use Rattle.vcpu_run.proofs.TakesTold.{takes_none, took_told}
use Rattle.vcpu_run.proofs.TakingTurns.{took_taken}
use Rattle.vcpu_run.proofs.Tellings.{ended, ends_told, said_more, same_told, tags_more}

-- a step of the pair's own line that waits
waits_pair : (verb : Verb) (p p' : Progress) (own : List Ended) (before after : Pair) (did : Moved) → IsSomeAnd before.driver (λ d. Unit {0}) → length after.window.pages ≡ length before.window.pages
    → IsOf verb p → PairTold verb p p' before after (Ok (steps.Waits did)) → PairIsTold own p before → IsOf verb p' × PairIsTold own p' after
waits_pair verb p p' own before after did has pages of step told = at before.driver after.driver has step told
  where
    r : Bool
    r = (side_of before.link false).registered

    r' : Bool
    r' = (side_of after.link false).registered

    at : (o o' : Option Driver) → IsSomeAnd o (λ d. Unit {0})
        → OnDrivers o o' (λ a b. StepsTold (length before.window.pages) verb (seated a.client p r) (seated b.client p' r') (Ok (steps.Waits did)))
        → IfSome o (λ d. IsTold (length before.window.pages) own p r d.client)
        → IsOf verb p' × IfSome o' (λ d. IsTold (length after.window.pages) own p' r' d.client)
    at None o' has step told = absurd has
    at (Some a) None has step told = absurd step
    at (Some a) (Some b) has step told =
        let kept = step of in (kept.0, subst (λ n. IsTold n own p' r' b.client) (sym pages) (kept.1 own told))

-- and one that ends
ends_pair : (verb : Verb) (p p' : Progress) (own : List Ended) (e : Ended) (before after : Pair) → e.verb ≡ verb → IsSomeAnd before.driver (λ d. Unit {0})
    → length after.window.pages ≡ length before.window.pages → IsOf verb p → PairTold verb p p' before after (Ok (steps.Ends e.outcome)) → PairIsTold own p before
    → HasCausesTold (length after.window.pages) (own ++ e ∷ []) × PairIsTold (own ++ e ∷ []) progress.Fresh after
ends_pair verb p p' own e before after is has pages of step told = at before.driver after.driver has step told
  where
    r : Bool
    r = (side_of before.link false).registered

    r' : Bool
    r' = (side_of after.link false).registered

    same : Ended
    same = record { verb = verb; outcome = e.outcome }

    e_is : same ≡ e
    e_is = ap (λ (v : Verb). record { verb = v; outcome = e.outcome }) (sym is)

    at : (o o' : Option Driver) → IsSomeAnd o (λ d. Unit {0})
        → OnDrivers o o' (λ a b. StepsTold (length before.window.pages) verb (seated a.client p r) (seated b.client p' r') (Ok (steps.Ends e.outcome)))
        → IfSome o (λ d. IsTold (length before.window.pages) own p r d.client)
        → HasCausesTold (length after.window.pages) (own ++ e ∷ []) × IfSome o' (λ d. IsTold (length after.window.pages) (own ++ e ∷ []) progress.Fresh r' d.client)
    at None o' has step told = absurd has
    at (Some a) None has step told = absurd step
    at (Some a) (Some b) has step told =
        let kept : IsTold (length after.window.pages) (own ++ e ∷ []) progress.Fresh r' b.client =
        subst (λ n. IsTold n (own ++ e ∷ []) progress.Fresh r' b.client) (sym pages)
        (subst (λ (x : Ended). IsTold (length before.window.pages) (own ++ x ∷ []) progress.Fresh r' b.client) e_is (step of own told)) in
        (kept.law, kept)

current_of : (script : Script) (line : Line) → slice_get script.lines.now script.at ≡ Some line
    → IfSome (slice_get script.lines.now script.at) (λ l. (k : ℕ) → slice_get script.seats.items l.unit ≡ Some (places.Client k) → IsOf l.verb script.progress)
    → (k : ℕ) → slice_get script.seats.items line.unit ≡ Some (places.Client k) → IsOf line.verb script.progress
current_of script line found fresh =
    subst (λ (o : Option Line). IfSome o (λ l. (k : ℕ) → slice_get script.seats.items l.unit ≡ Some (places.Client k) → IsOf l.verb script.progress)) found fresh

-- the current line is to be gone on with, at the pair where its client sits
pub client_waits : (old new : List Pair) (script : Script) (p' : Progress) (line : Line) (seat : ℕ) (here : Pair) (did : Moved)
    → slice_get script.lines.now script.at ≡ Some line → fails line.verb ≡ false → slice_get script.seats.items line.unit ≡ Some (places.Client seat) → slice_get new seat ≡ Some here
    → AreSeats script.partition script.seats.items old → AreDriven old new → SeatTold seat line script.progress p' old new (Ok (steps.Waits did))
    → IsScriptTold old script → IsScriptTold new (record script { progress = p' })
client_waits old new script p' line seat here did found one sits there are driven step is = record {
  law = λ unit k after at now. let b = before_of script.partition unit k script.seats.items old new after are driven at now in
      subst (λ n. HasCausesTold n (own_of unit script)) (sym b.pages) (is.law unit k b.pair at b.there);
  fresh = subst (λ (o : Option Line). IfSome o (λ l. (k : ℕ) → slice_get script.seats.items l.unit ≡ Some (places.Client k) → IsOf l.verb p')) (sym found) (λ k at. (own line.unit here sits there (eq-eqb line.unit line.unit refl)).0);
  told = λ l next ok unit k after at now. by unit k after at now (here_or line.unit unit);
  shown = still_shown old new script are driven is.shown;
  taken = waits_taken old new script p' line seat here did found one sits there are driven step is.taken;
  put = λ unit k after at now. put unit k after at now (same_or k seat);
  few = λ unit k after at now. few unit k after at now (here_or line.unit unit);
  down = down_none new (record script { progress = p' }) (is.down.going line found);
}
  where
    few : (unit k : ℕ) (after : Pair) → slice_get script.seats.items unit ≡ Some (places.Client k) → slice_get new k ≡ Some after → ((line.unit == unit) ≡ true) ⊎ ((line.unit == unit) ≡ false)
        → PairFew (record script { progress = p' }) unit after
    few unit k after at now (inl same) =
        let same_seat : seat ≡ k = client_is seat k (sym sits ∙ (ap (λ n. slice_get script.seats.items n) (eqb-true line.unit unit same) ∙ at)) in
        let b = before_of script.partition unit k script.seats.items old new after are driven at now in
        few_then unit script.lines.now (resets_told (own_of unit script)) p' (slice_get script.lines.now script.at) line after found one
        (own_waits unit (resets_told (own_of unit script)) script.progress p' line b.pair after same
        (step.makes b.pair after (ap (slice_get old) same_seat ∙ b.there) (ap (slice_get new) same_seat ∙ now))
        (few_now unit script.lines.now (resets_told (own_of unit script)) script.progress (slice_get script.lines.now script.at) line b.pair found one (is.few unit k b.pair at b.there)))
    few unit k after at now (inr differ) =
        let b = before_of script.partition unit k script.seats.items old new after are driven at now in
        let apart = apart_seats script.partition unit line.unit k seat script.seats.items old are sits at differ in
        subst (PairFew (record script { progress = p' }) unit) (sym (same_pair old new k after b.pair (step.beside k apart) now b.there))
        (few_else unit script.lines.now (resets_told (own_of unit script)) script.progress p' (slice_get script.lines.now script.at) line b.pair found one differ (is.few unit k b.pair at b.there))

    put : (unit k : ℕ) (after : Pair) → slice_get script.seats.items unit ≡ Some (places.Client k) → slice_get new k ≡ Some after → (k ≡ seat) ⊎ (k ≢ seat)
        → AreValuesPut (own_of unit script) after
    put unit k after at now (inl same) =
        let b = before_of script.partition unit k script.seats.items old new after are driven at now in
        waits_put line.verb did (own_of unit script) b.pair after
        (step.puts b.pair after (sym (ap (slice_get old) same) ∙ b.there) (sym (ap (slice_get new) same) ∙ now)) (is.put unit k b.pair at b.there)
    put unit k after at now (inr apart) =
        let b = before_of script.partition unit k script.seats.items old new after are driven at now in
        subst (AreValuesPut (own_of unit script)) (sym (same_pair old new k after b.pair (step.beside k apart) now b.there)) (is.put unit k b.pair at b.there)

    of : IsOf line.verb script.progress
    of = current_of script line found is.fresh seat sits

    own : (unit : ℕ) (after : Pair) → slice_get script.seats.items unit ≡ Some (places.Client seat) → slice_get new seat ≡ Some after → (line.unit == unit) ≡ true
        → IsOf line.verb p' × PairIsTold (own_of unit script) p' after
    own unit after at now same =
        let b = before_of script.partition unit seat script.seats.items old new after are driven at now in
        waits_pair line.verb script.progress p' (own_of unit script) b.pair after did b.has b.pages of (step.here b.pair after b.there now)
        (subst (λ (q : Progress). PairIsTold (own_of unit script) q b.pair) (here_by unit script.progress line (slice_get script.lines.now script.at) found same) (is.told line found one unit seat b.pair at b.there))

    by : (unit k : ℕ) (after : Pair) → slice_get script.seats.items unit ≡ Some (places.Client k) → slice_get new k ≡ Some after → ((line.unit == unit) ≡ true) ⊎ ((line.unit == unit) ≡ false)
        → PairIsTold (own_of unit script) (progress_at unit p' (slice_get script.lines.now script.at)) after
    by unit k after at now (inl e) =
        let same_seat : seat ≡ k = client_is seat k (sym sits ∙ (ap (λ n. slice_get script.seats.items n) (eqb-true line.unit unit e) ∙ at)) in
        subst (λ (q : Progress). PairIsTold (own_of unit script) q after) (sym (here_by unit p' line (slice_get script.lines.now script.at) found e))
        (own unit after (at ∙ ap (λ n. Some (places.Client n)) (sym same_seat)) (ap (slice_get new) same_seat ∙ now) e).1
    by unit k after at now (inr e) =
        let b = before_of script.partition unit k script.seats.items old new after are driven at now in
        let apart = apart_seats script.partition unit line.unit k seat script.seats.items old are sits at e in
        subst (λ (q : Progress). PairIsTold (own_of unit script) q after) (sym (else_by unit p' line (slice_get script.lines.now script.at) found e))
        (subst (PairIsTold (own_of unit script) progress.Fresh) (sym (same_pair old new k after b.pair (step.beside k apart) now b.there))
        (subst (λ (q : Progress). PairIsTold (own_of unit script) q b.pair) (else_by unit script.progress line (slice_get script.lines.now script.at) found e) (is.told line found one unit k b.pair at b.there)))

-- the current line ended, at the pair where its client sits
pub client_ends : (old new : List Pair) (script done : Script) (line : Line) (row : LogRow) (seat : ℕ) (p' : Progress)
    → slice_get script.lines.now script.at ≡ Some line → fails line.verb ≡ false → slice_get script.seats.items line.unit ≡ Some (places.Client seat)
    → AreSeats script.partition script.seats.items old → AreDriven old new → length script.logs.items ≡ script.at
    → SeatTold seat line script.progress p' old new (Ok (steps.Ends row.outcome))
    → done.lines ≡ script.lines → done.seats ≡ script.seats → done.logs.items ≡ script.logs.items ++ row ∷ [] → done.progress ≡ progress.Fresh
    → IsScriptTold old script → IsScriptTold new done
client_ends old new script done line row seat p' found one sits are driven many step lines seats logs fresh is = record {
  law = λ unit k after at now. (each unit k after (back unit k at) now (here_or line.unit unit)).0;
  fresh = fresh_any (slice_get done.lines.now done.at);
  told = λ l next ok unit k after at now. subst (λ (q : Progress). PairIsTold (own_of unit done) q after)
      (sym (ap (λ (p : Progress). progress_at unit p (slice_get done.lines.now done.at)) fresh ∙ fresh_at unit (slice_get done.lines.now done.at)))
      (each unit k after (back unit k at) now (here_or line.unit unit)).1;
  shown = ended_shown old new script done line row found many lines seats logs are driven is.shown
      (λ unit k before after at was now same.
      let seat_is : seat ≡ k = client_is seat k (sym sits ∙ (ap (slice_get script.seats.items) same ∙ at)) in
      step.shows before after (ap (slice_get old) seat_is ∙ was) (ap (slice_get new) seat_is ∙ now))
      (λ unit k before after at was now same has drives.
      let seat_is : seat ≡ k = client_is seat k (sym sits ∙ (ap (slice_get script.seats.items) same ∙ at)) in
      ends_shut line.verb script.progress (own_of unit script) before after row.outcome has drives of
      (subst (λ (q : Progress). PairIsTold (own_of unit script) q before) (here_by unit script.progress line (slice_get script.lines.now script.at) found (eq-eqb line.unit unit same))
      (is.told line found one unit k before at was)) (is.taken.kept unit k before at was)
      (step.shows before after (ap (slice_get old) seat_is ∙ was) (ap (slice_get new) seat_is ∙ now)).2);
  taken = ends_taken old new script done line row seat p' found one sits are driven many step lines seats logs fresh is.taken;
  put = λ unit k after at now. put unit k after (back unit k at) now (here_or line.unit unit);
  few = λ unit k after at now. few_any unit done.lines.now (resets_told (own_of unit done)) done.progress (slice_get done.lines.now done.at) after
      (few unit k after (back unit k at) now (here_or line.unit unit));
  down = down_none new done (script_more script done line row found one many lines logs (is.down.going line found));
}
  where
    of : IsOf line.verb script.progress
    of = current_of script line found is.fresh seat sits

    e : Ended
    e = record { verb = line.verb; outcome = row.outcome }

    back : (unit k : ℕ) → slice_get done.seats.items unit ≡ Some (places.Client k) → slice_get script.seats.items unit ≡ Some (places.Client k)
    back unit k at = subst (λ ss. slice_get ss.items unit ≡ Some (places.Client k)) seats at

    records : (unit : ℕ) → own_of unit done ≡ cond (line.unit == unit) (own_of unit script ++ e ∷ []) (own_of unit script)
    records unit = ap (λ ls. ended_by unit ls.now done.logs.items) lines
        ∙ (ap (ended_by unit script.lines.now) logs ∙ ended_more unit script.lines.now script.logs.items line row (ap (λ n. slice_get script.lines.now n) many ∙ found))

    fresh_any : (o : Option Line) → IfSome o (λ l. (k : ℕ) → slice_get done.seats.items l.unit ≡ Some (places.Client k) → IsOf l.verb done.progress)
    fresh_any None = tt
    fresh_any (Some l) = λ k at. subst (IsOf l.verb) (sym fresh) (record { take = λ h. refl; reset = λ h. refl })

    few : (unit k : ℕ) (after : Pair) → slice_get script.seats.items unit ≡ Some (places.Client k) → slice_get new k ≡ Some after → ((line.unit == unit) ≡ true) ⊎ ((line.unit == unit) ≡ false)
        → events_at after ≤ resets_told (own_of unit done)
    few unit k after at now (inl same) =
        let same_seat : seat ≡ k = client_is seat k (sym sits ∙ (ap (λ n. slice_get script.seats.items n) (eqb-true line.unit unit same) ∙ at)) in
        let b = before_of script.partition unit k script.seats.items old new after are driven at now in
        let more : resets_told (own_of unit done) ≡ resets_told (own_of unit script) + cond (is_reset line.verb) 1 0 =
        resets_own (own_of unit script) (own_of unit done) e (records unit ∙ ap (λ t. cond t (own_of unit script ++ e ∷ []) (own_of unit script)) same) in
        subst (λ n. events_at after ≤ n) (sym more)
        (own_ends unit (resets_told (own_of unit script)) script.progress p' line b.pair after
        (step.makes b.pair after (ap (slice_get old) same_seat ∙ b.there) (ap (slice_get new) same_seat ∙ now))
        (few_now unit script.lines.now (resets_told (own_of unit script)) script.progress (slice_get script.lines.now script.at) line b.pair found one (is.few unit k b.pair at b.there)))
    few unit k after at now (inr differ) =
        let b = before_of script.partition unit k script.seats.items old new after are driven at now in
        let apart = apart_seats script.partition unit line.unit k seat script.seats.items old are sits at differ in
        subst (λ (own : List Ended). events_at after ≤ resets_told own) (sym (records unit ∙ ap (λ t. cond t (own_of unit script ++ e ∷ []) (own_of unit script)) differ))
        (subst (λ (pair : Pair). events_at pair ≤ resets_told (own_of unit script)) (sym (same_pair old new k after b.pair (step.beside k apart) now b.there))
        (else_ends unit script.lines.now (resets_told (own_of unit script)) script.progress (slice_get script.lines.now script.at) line b.pair found one differ (is.few unit k b.pair at b.there)))

    put : (unit k : ℕ) (after : Pair) → slice_get script.seats.items unit ≡ Some (places.Client k) → slice_get new k ≡ Some after → ((line.unit == unit) ≡ true) ⊎ ((line.unit == unit) ≡ false)
        → AreValuesPut (own_of unit done) after
    put unit k after at now (inl same) =
        let same_seat : seat ≡ k = client_is seat k (sym sits ∙ (ap (λ n. slice_get script.seats.items n) (eqb-true line.unit unit same) ∙ at)) in
        let b = before_of script.partition unit k script.seats.items old new after are driven at now in
        subst (λ (own : List Ended). AreValuesPut own after) (sym (records unit ∙ ap (λ t. cond t (own_of unit script ++ e ∷ []) (own_of unit script)) same))
        (ends_put line.verb row.outcome (own_of unit script) b.pair after
        (step.puts b.pair after (ap (slice_get old) same_seat ∙ b.there) (ap (slice_get new) same_seat ∙ now)) (is.put unit k b.pair at b.there))
    put unit k after at now (inr differ) =
        let b = before_of script.partition unit k script.seats.items old new after are driven at now in
        let apart = apart_seats script.partition unit line.unit k seat script.seats.items old are sits at differ in
        subst (λ (own : List Ended). AreValuesPut own after) (sym (records unit ∙ ap (λ t. cond t (own_of unit script ++ e ∷ []) (own_of unit script)) differ))
        (subst (AreValuesPut (own_of unit script)) (sym (same_pair old new k after b.pair (step.beside k apart) now b.there)) (is.put unit k b.pair at b.there))

    each : (unit k : ℕ) (after : Pair) → slice_get script.seats.items unit ≡ Some (places.Client k) → slice_get new k ≡ Some after → ((line.unit == unit) ≡ true) ⊎ ((line.unit == unit) ≡ false)
        → HasCausesTold (length after.window.pages) (own_of unit done) × PairIsTold (own_of unit done) progress.Fresh after
    each unit k after at now (inl same) =
        let same_seat : seat ≡ k = client_is seat k (sym sits ∙ (ap (λ n. slice_get script.seats.items n) (eqb-true line.unit unit same) ∙ at)) in
        let b = before_of script.partition unit k script.seats.items old new after are driven at now in
        let told = subst (λ (q : Progress). PairIsTold (own_of unit script) q b.pair) (here_by unit script.progress line (slice_get script.lines.now script.at) found same) (is.told line found one unit k b.pair at b.there) in
        let stepped : SeatTold k line script.progress p' old new (Ok (steps.Ends row.outcome)) =
        subst (λ n. SeatTold n line script.progress p' old new (Ok (steps.Ends row.outcome))) same_seat step in
        subst (λ (own : List Ended). HasCausesTold (length after.window.pages) own × PairIsTold own progress.Fresh after)
        (sym (records unit ∙ ap (λ t. cond t (own_of unit script ++ e ∷ []) (own_of unit script)) same))
        (ends_pair line.verb script.progress p' (own_of unit script) e b.pair after refl b.has b.pages of (stepped.here b.pair after b.there now) told)
    each unit k after at now (inr differ) =
        let b = before_of script.partition unit k script.seats.items old new after are driven at now in
        let apart = apart_seats script.partition unit line.unit k seat script.seats.items old are sits at differ in
        let told = subst (λ (q : Progress). PairIsTold (own_of unit script) q b.pair) (else_by unit script.progress line (slice_get script.lines.now script.at) found differ) (is.told line found one unit k b.pair at b.there) in
        subst (λ (own : List Ended). HasCausesTold (length after.window.pages) own × PairIsTold own progress.Fresh after)
        (sym (records unit ∙ ap (λ t. cond t (own_of unit script ++ e ∷ []) (own_of unit script)) differ)) (
          subst (λ n. HasCausesTold n (own_of unit script)) (sym b.pages) (is.law unit k b.pair at b.there),
          subst (PairIsTold (own_of unit script) progress.Fresh) (sym (same_pair old new k after b.pair (step.beside k apart) now b.there)) told,
        )

-- the current line is a port's
pub port_waits_told : (pairs : List Pair) (script : Script) (p' : Progress) (line : Line) → slice_get script.lines.now script.at ≡ Some line → fails line.verb ≡ false
    → slice_get script.seats.items line.unit ≡ Some places.Port → IsScriptTold pairs script → IsScriptTold pairs (record script { progress = p' })
port_waits_told pairs script p' line found one sits is = record {
  law = is.law;
  fresh = subst (λ (o : Option Line). IfSome o (λ l. (k : ℕ) → slice_get script.seats.items l.unit ≡ Some (places.Client k) → IsOf l.verb p')) (sym found)
      (λ k at. absurd (no_port k (sym at ∙ sits)));
  told = λ l next ok unit k pair at now. let other = not_port script line unit k sits at in
      subst (λ (q : Progress). PairIsTold (own_of unit script) q pair) (else_by unit script.progress line (slice_get script.lines.now script.at) found other
      ∙ sym (else_by unit p' line (slice_get script.lines.now script.at) found other)) (is.told line found one unit k pair at now);
  shown = is.shown;
  taken = port_waits_taken pairs script p' line found one sits is.taken;
  put = is.put;
  few = λ unit k pair at now. few_else unit script.lines.now (resets_told (own_of unit script)) script.progress p' (slice_get script.lines.now script.at) line pair found one
      (not_port script line unit k sits at) (is.few unit k pair at now);
  down = down_none pairs (record script { progress = p' }) (is.down.going line found);
}

pub port_ends_told : (pairs : List Pair) (script done : Script) (line : Line) (row : LogRow) → slice_get script.lines.now script.at ≡ Some line → fails line.verb ≡ false
    → slice_get script.seats.items line.unit ≡ Some places.Port → length script.logs.items ≡ script.at → done.lines ≡ script.lines → done.seats ≡ script.seats
    → done.logs.items ≡ script.logs.items ++ row ∷ [] → done.progress ≡ progress.Fresh → IsScriptTold pairs script → IsScriptTold pairs done
port_ends_told pairs script done line row found one sits many lines seats logs fresh is = record {
  law = λ unit k pair at now. let here = back unit k at in
      subst (HasCausesTold (length pair.window.pages)) (sym (records unit k here)) (is.law unit k pair here now);
  fresh = fresh_any (slice_get done.lines.now done.at);
  told = λ l next ok unit k pair at now. let here = back unit k at in
      subst (λ (q : Progress). PairIsTold (own_of unit done) q pair)
      (sym (ap (λ (p : Progress). progress_at unit p (slice_get done.lines.now done.at)) fresh ∙ fresh_at unit (slice_get done.lines.now done.at)))
      (subst (λ (own : List Ended). PairIsTold own progress.Fresh pair) (sym (records unit k here))
      (subst (λ (q : Progress). PairIsTold (own_of unit script) q pair) (else_by unit script.progress line (slice_get script.lines.now script.at) found (not_port script line unit k sits here))
      (is.told line found one unit k pair here now)));
  shown = λ unit k pair at now. one_shown script done unit pair pair line row found many lines logs refl (sees_same (seen_at pair)) (more_same pair)
      (λ same. absurd (no_port k (sym (back unit k at) ∙ (ap (slice_get script.seats.items) (sym same) ∙ sits))))
      (λ same. absurd (no_port k (sym (back unit k at) ∙ (ap (slice_get script.seats.items) (sym same) ∙ sits)))) (is.shown unit k pair (back unit k at) now);
  taken = port_ends_taken pairs script done line row found one sits many lines seats logs fresh is.taken;
  put = λ unit k pair at now. let here = back unit k at in
      subst (λ (own : List Ended). AreValuesPut own pair) (sym (records unit k here)) (is.put unit k pair here now);
  few = λ unit k pair at now. let here = back unit k at in
      few_any unit done.lines.now (resets_told (own_of unit done)) done.progress (slice_get done.lines.now done.at) pair
      (subst (λ (own : List Ended). events_at pair ≤ resets_told own) (sym (records unit k here))
      (else_ends unit script.lines.now (resets_told (own_of unit script)) script.progress (slice_get script.lines.now script.at) line pair found one
      (not_port script line unit k sits here) (is.few unit k pair here now)));
  down = down_none pairs done (script_more script done line row found one many lines logs (is.down.going line found));
}
  where
    e : Ended
    e = record { verb = line.verb; outcome = row.outcome }

    back : (unit k : ℕ) → slice_get done.seats.items unit ≡ Some (places.Client k) → slice_get script.seats.items unit ≡ Some (places.Client k)
    back unit k at = subst (λ ss. slice_get ss.items unit ≡ Some (places.Client k)) seats at

    records : (unit k : ℕ) → slice_get script.seats.items unit ≡ Some (places.Client k) → own_of unit done ≡ own_of unit script
    records unit k here = ap (λ ls. ended_by unit ls.now done.logs.items) lines
        ∙ (ap (ended_by unit script.lines.now) logs ∙ (ended_more unit script.lines.now script.logs.items line row (ap (λ n. slice_get script.lines.now n) many ∙ found)
        ∙ ap (λ t. cond t (own_of unit script ++ e ∷ []) (own_of unit script)) (not_port script line unit k sits here)))

    fresh_any : (o : Option Line) → IfSome o (λ l. (k : ℕ) → slice_get done.seats.items l.unit ≡ Some (places.Client k) → IsOf l.verb done.progress)
    fresh_any None = tt
    fresh_any (Some l) = λ k at. subst (IsOf l.verb) (sym fresh) (record { take = λ h. refl; reset = λ h. refl })

-- at whichever unit it is
pub line_waits_told : (old new : List Pair) (script : Script) (p' : Progress) (line : Line) (did : Moved) → slice_get script.lines.now script.at ≡ Some line → fails line.verb ≡ false
    → IsSomeAnd (slice_get script.seats.items line.unit) (suits line.verb) → AreSeats script.partition script.seats.items old → AreDriven old new
    → LineTold script.seats.items line script.progress p' old new (Ok (steps.Waits did)) → IsScriptTold old script → IsScriptTold new (record script { progress = p' })
line_waits_told old new script p' line did found one suited are driven step is = at (slice_get script.seats.items line.unit) refl suited
  where
    at : (o : Option Seat) → slice_get script.seats.items line.unit ≡ o → IsSomeAnd o (suits line.verb) → IsScriptTold new (record script { progress = p' })
    at None e h = absurd h
    at (Some places.Server) e h = absurd h
    at (Some (places.Client k)) e h =
        let here = after_of script.partition line.unit k script.seats.items old new are driven e in
        client_waits old new script p' line k here.0 did found one e here.1 are driven (step.client k e) is
    at (Some places.Port) e h = subst (λ pairs. IsScriptTold pairs (record script { progress = p' })) (sym (step.port e)) (port_waits_told old script p' line found one e is)

pub line_ends_told : (old new : List Pair) (script done : Script) (line : Line) (row : LogRow) (p' : Progress) → slice_get script.lines.now script.at ≡ Some line → fails line.verb ≡ false
    → IsSomeAnd (slice_get script.seats.items line.unit) (suits line.verb) → AreSeats script.partition script.seats.items old → AreDriven old new → length script.logs.items ≡ script.at
    → LineTold script.seats.items line script.progress p' old new (Ok (steps.Ends row.outcome))
    → done.lines ≡ script.lines → done.seats ≡ script.seats → done.logs.items ≡ script.logs.items ++ row ∷ [] → done.progress ≡ progress.Fresh
    → IsScriptTold old script → IsScriptTold new done
line_ends_told old new script done line row p' found one suited are driven many step lines seats logs fresh is = at (slice_get script.seats.items line.unit) refl suited
  where
    at : (o : Option Seat) → slice_get script.seats.items line.unit ≡ o → IsSomeAnd o (suits line.verb) → IsScriptTold new done
    at None e h = absurd h
    at (Some places.Server) e h = absurd h
    at (Some (places.Client k)) e h = client_ends old new script done line row k p' found one e are driven many (step.client k e) lines seats logs fresh is
    at (Some places.Port) e h =
        subst (λ pairs. IsScriptTold pairs done) (sym (step.port e)) (port_ends_told old script done line row found one e many lines seats logs fresh is)

-- before the first line
pub new_told : (pairs : List Pair) (script : Script) → script.logs.items ≡ [] → script.progress ≡ progress.Fresh → AreLoggedOut script.seats.items pairs → AreUntaken pairs
    → IsScriptTold pairs script
new_told pairs script logs fresh out untaken = record {
  law = λ unit k pair at now. subst (HasCausesTold (length pair.window.pages)) (sym (none unit)) (nothing (length pair.window.pages));
  fresh = first (slice_get script.lines.now script.at);
  told = λ l next ok unit k pair at now. subst (λ (own : List Ended). PairIsTold own (progress_by unit script) pair) (sym (none unit))
      (subst (λ (q : Progress). PairIsTold [] q pair) (sym (ap (λ (p : Progress). progress_at unit p (slice_get script.lines.now script.at)) fresh ∙ fresh_at unit (slice_get script.lines.now script.at)))
      (begun pair (subst (λ (o : Option Pair). IfSome (driver_in o) (λ d. d.client.granted ≡ None)) now (out unit k at))));
  shown = λ unit k pair at now. record {
    show = subst (λ (rows : List LogRow). LinesShow (seen_at pair) pair.window.unit unit script.lines.now rows) (sym logs) (λ i line row found there same. absurd (no_row row there));
    order = subst (λ (rows : List LogRow). AreSentIn (seen_at pair) pair.window.unit unit script.lines.now rows (entries_put pair)) (sym logs)
        (order_begun (seen_at pair) pair.window.unit unit script.lines.now (entries_put pair));
    drops = subst (λ (rows : List LogRow). LinesFull (IsFullAt pair) unit script.lines.now rows) (sym logs) (λ i line row found there same. absurd (no_row row there));
    shut = subst (λ (rows : List LogRow). LinesShut (HadEnd pair.link) unit script.lines.now rows) (sym logs) (λ i line row found there same. absurd (no_row row there));
  };
  taken = new_taken pairs script logs fresh untaken;
  put = λ unit k pair at now. subst (λ (own : List Ended). AreValuesPut own pair) (sym (none unit)) (first_values pair (untaken k pair now).1);
  few = λ unit k pair at now. few_any unit script.lines.now (resets_told (own_of unit script)) script.progress (slice_get script.lines.now script.at) pair
      (let made : events_at pair ≡ 0 = (untaken k pair now).2 in omega (arith, made));
  down = down_none pairs script (none_ended script.lines.now (length script.logs.items) (ap length logs));
}
  where
    empty : (unit : ℕ) (lines : List Line) → ended_by unit lines [] ≡ []
    empty unit [] = refl
    empty unit (l ∷ ls) = refl

    none : (unit : ℕ) → own_of unit script ≡ []
    none unit = ap (ended_by unit script.lines.now) logs ∙ empty unit script.lines.now

    nothing : (pages : ℕ) → HasCausesTold pages []
    nothing pages = record { refusals = tt; tags = pairs_from_ordered (λ a b. a < b) [] tt }

    first : (o : Option Line) → IfSome o (λ l. (k : ℕ) → slice_get script.seats.items l.unit ≡ Some (places.Client k) → IsOf l.verb script.progress)
    first None = tt
    first (Some l) = λ k at. subst (IsOf l.verb) (sym fresh) (record { take = λ h. refl; reset = λ h. refl })

    begun : (pair : Pair) → IsLoggedOut pair → PairIsTold [] progress.Fresh pair
    begun pair h = at pair.driver h
      where
        at : (o : Option Driver) → IfSome o (λ d. d.client.granted ≡ None) → IfSome o (λ d. IsTold (length pair.window.pages) [] progress.Fresh (side_of pair.link false).registered d.client)
        at None h = tt
        at (Some d) h = record { law = nothing (length pair.window.pages); below = All-nil (λ tag. tag < next_tag d.client); agrees = λ going. h; queue = inl h }

-- a line that waits for what does not come any more
login_none : (pages : ℕ) (a : Seated) → StepsTold pages verbs.Login a a (Ok (steps.Ends outcomes.Unanswered))
login_none pages a = λ of own told. plain_ends pages verbs.Login outcomes.Unanswered own a a refl refl of refl refl (same_told a.client) told (λ agrees. tt)

reset_none : (pages : ℕ) (a : Seated) → a.client.granted ≡ None → StepsTold pages verbs.Reset a a (Ok (steps.Ends outcomes.Unanswered))
reset_none pages a out = λ of own told.
    ends_told pages verbs.Reset outcomes.Unanswered own a a told tt (same_told a.client).tags (record { from = tt; below = tt }) out (inl out)

take_none : (pages count : ℕ) (a : Seated) → StepsTold pages (verbs.Take count) a a (Ok (steps.Ends (outcomes.Took (taken_in a.progress))))
take_none pages count a =
    took_told pages count a.progress (taken_in a.progress) (taken_in a.progress) a.client a.client a.registered a.registered (refl, takes_none (taken_in a.progress) a.client, refl)

-- which outcome such a line has
pub data EndsWaiting (p : Progress) (verb : Verb) (outcome : Outcome) : Type 0 where
  of_login : verb ≡ verbs.Login → outcome ≡ outcomes.Unanswered → EndsWaiting p verb outcome
  of_reset : verb ≡ verbs.Reset → outcome ≡ outcomes.Unanswered → EndsWaiting p verb outcome
  of_take : (count : ℕ) → verb ≡ verbs.Take count → outcome ≡ outcomes.Took (taken_in p) → EndsWaiting p verb outcome

one_waits : (p : Progress) (verb : Verb) (outcome : Outcome) → EndsWaiting p verb outcome → fails verb ≡ false
one_waits p verb outcome (of_login v o) = ap fails v
one_waits p verb outcome (of_reset v o) = ap fails v
one_waits p verb outcome (of_take count v o) = ap fails v

waiting_pair : (p : Progress) (verb : Verb) (outcome : Outcome) (pair : Pair) → EndsWaiting p verb outcome → (is_reset verb ≡ true → IsLoggedOut pair)
    → PairTold verb p p pair pair (Ok (steps.Ends outcome))
waiting_pair p verb outcome pair ends out = at pair.driver out
  where
    r : Bool
    r = (side_of pair.link false).registered

    pages : ℕ
    pages = length pair.window.pages

    told_by : (d : Driver) (v : Verb) (o : Outcome) → verb ≡ v → outcome ≡ o → StepsTold pages v (seated d.client p r) (seated d.client p r) (Ok (steps.Ends o))
        → StepsTold pages verb (seated d.client p r) (seated d.client p r) (Ok (steps.Ends outcome))
    told_by d v o vs os told = subst (λ (w : Verb). StepsTold pages w (seated d.client p r) (seated d.client p r) (Ok (steps.Ends outcome))) (sym vs)
        (subst (λ (q : Outcome). StepsTold pages v (seated d.client p r) (seated d.client p r) (Ok (steps.Ends q))) (sym os) told)

    step : (d : Driver) → EndsWaiting p verb outcome → (is_reset verb ≡ true → d.client.granted ≡ None)
        → StepsTold pages verb (seated d.client p r) (seated d.client p r) (Ok (steps.Ends outcome))
    step d (of_login v o) out = told_by d verbs.Login outcomes.Unanswered v o (login_none pages (seated d.client p r))
    step d (of_reset v o) out = told_by d verbs.Reset outcomes.Unanswered v o (reset_none pages (seated d.client p r) (out (ap is_reset v)))
    step d (of_take count v o) out = told_by d (verbs.Take count) (outcomes.Took (taken_in p)) v o (take_none pages count (seated d.client p r))

    at : (o : Option Driver) → (is_reset verb ≡ true → IfSome o (λ d. d.client.granted ≡ None))
        → OnDrivers o o (λ a b. StepsTold pages verb (seated a.client p r) (seated b.client p r) (Ok (steps.Ends outcome)))
    at None out = tt
    at (Some d) out = step d ends out

-- of the answers such a line says how many it took
waiting_takes : (p : Progress) (verb : Verb) (outcome : Outcome) (pair : Pair) → EndsWaiting p verb outcome → PairTakes verb p p pair pair (Ok (steps.Ends outcome))
waiting_takes p verb outcome pair ends = at pair.driver
  where
    none : (v : Verb) (d : Driver) → is_take v ≡ false → is_data v ≡ false → StepsTaken v (taken_in p) (taken_in p) d d (Ok (steps.Ends outcomes.Unanswered))
    none v d no_take no_data =
        plain_taken v (taken_in p) d d (Ok (steps.Ends outcomes.Unanswered)) no_take no_data (record { answers = refl; rows = refl; outgoing = refl }) refl

    took : (count : ℕ) (d : Driver) → StepsTaken (verbs.Take count) (taken_in p) (taken_in p) d d (Ok (steps.Ends (outcomes.Took (taken_in p))))
    took count d = λ up_to. took_taken count (taken_in p) (taken_in p) d d up_to (λ now agrees. agrees) up_to

    taken_by : (d : Driver) (v : Verb) (o : Outcome) → verb ≡ v → outcome ≡ o → StepsTaken v (taken_in p) (taken_in p) d d (Ok (steps.Ends o))
        → StepsTaken verb (taken_in p) (taken_in p) d d (Ok (steps.Ends outcome))
    taken_by d v o vs os is = subst (λ (w : Verb). StepsTaken w (taken_in p) (taken_in p) d d (Ok (steps.Ends outcome))) (sym vs)
        (subst (λ (q : Outcome). StepsTaken v (taken_in p) (taken_in p) d d (Ok (steps.Ends q))) (sym os) is)

    step : (d : Driver) → EndsWaiting p verb outcome → StepsTaken verb (taken_in p) (taken_in p) d d (Ok (steps.Ends outcome))
    step d (of_login v o) = taken_by d verbs.Login outcomes.Unanswered v o (none verbs.Login d refl refl)
    step d (of_reset v o) = taken_by d verbs.Reset outcomes.Unanswered v o (none verbs.Reset d refl refl)
    step d (of_take count v o) = taken_by d (verbs.Take count) (outcomes.Took (taken_in p)) v o (took count d)

    at : (o : Option Driver) → OnDrivers o o (λ a b. StepsTaken verb (taken_in p) (taken_in p) a b (Ok (steps.Ends outcome)))
    at None = tt
    at (Some d) = step d ends

-- nor of a loss
waiting_hears : (p : Progress) (verb : Verb) (outcome : Outcome) (pair : Pair) → EndsWaiting p verb outcome → PairHears pair pair (Ok (steps.Ends outcome))
waiting_hears p verb outcome pair ends = at pair.driver
  where
    none : EndsWaiting p verb outcome → lost_of outcome ≡ 0
    none (of_login v o) = ap lost_of o
    none (of_reset v o) = ap lost_of o
    none (of_take count v o) = ap lost_of o

    at : (o : Option Driver) → OnDrivers o o (λ a b. StepHears (Ok (steps.Ends outcome)) a.client b.client (end_of [] pair.link false) (end_of [] pair.link false))
    at None = tt
    at (Some d) =
        none_lost (Ok (steps.Ends outcome)) d.client d.client (end_of [] pair.link false) (end_of [] pair.link false) (none ends)
        (hears_same d.client d.client (end_of [] pair.link false) (end_of [] pair.link false) refl refl refl)

pub waiting_shows : (p : Progress) (verb : Verb) (outcome : Outcome) (seen : Seen) (unit : UnitId) (mark : ℕ) → EndsWaiting p verb outcome → IsShown seen unit mark verb outcome
waiting_shows p verb outcome seen unit mark (of_login v o) = shows_none seen unit mark verb outcome (ap requests v) (ap written_by v) (ap read_by v) (unanswered seen (further_of verb) outcome o)
waiting_shows p verb outcome seen unit mark (of_reset v o) = shows_none seen unit mark verb outcome (ap requests v) (ap written_by v) (ap read_by v) (unanswered seen (further_of verb) outcome o)
waiting_shows p verb outcome seen unit mark (of_take count v o) =
    shows_none seen unit mark verb outcome (ap requests v) (ap written_by v) (ap read_by v) (no_further seen (further_of verb) outcome (ap further_of v))

-- it sends no request
waiting_plain : (p : Progress) (verb : Verb) (outcome : Outcome) → EndsWaiting p verb outcome → requests verb ≡ false
waiting_plain p verb outcome (of_login v o) = ap requests v
waiting_plain p verb outcome (of_reset v o) = ap requests v
waiting_plain p verb outcome (of_take count v o) = ap requests v

-- it was not dropped
waiting_full : (P : (number held : ℕ) → Type 0) (p : Progress) (verb : Verb) (outcome : Outcome) → EndsWaiting p verb outcome → IsFullIf P outcome
waiting_full P p verb outcome (of_login v o) = subst (IsFullIf P) (sym o) tt
waiting_full P p verb outcome (of_reset v o) = subst (IsFullIf P) (sym o) tt
waiting_full P p verb outcome (of_take count v o) = subst (IsFullIf P) (sym o) tt

-- and gives no data
waiting_reads : (p : Progress) (verb : Verb) (outcome : Outcome) (pair : Pair) → EndsWaiting p verb outcome → PairReads verb pair pair (Ok (steps.Ends outcome))
waiting_reads p verb outcome pair (of_login v o) = pair_reads_none pair verb (Ok (steps.Ends outcome)) (ap given_by v) (ap range_in v)
waiting_reads p verb outcome pair (of_reset v o) = pair_reads_none pair verb (Ok (steps.Ends outcome)) (ap given_by v) (ap range_in v)
waiting_reads p verb outcome pair (of_take count v o) = pair_reads_none pair verb (Ok (steps.Ends outcome)) (ap given_by v) (ap range_in v)

-- and puts no value
waiting_puts : (p : Progress) (verb : Verb) (outcome : Outcome) (pair : Pair) → EndsWaiting p verb outcome → PairPuts verb pair pair (Ok (steps.Ends outcome))
waiting_puts p verb outcome pair (of_login v o) = same_puts verb (Ok (steps.Ends outcome)) _ _ (ap is_put v) refl
waiting_puts p verb outcome pair (of_reset v o) = same_puts verb (Ok (steps.Ends outcome)) _ _ (ap is_put v) refl
waiting_puts p verb outcome pair (of_take count v o) = same_puts verb (Ok (steps.Ends outcome)) _ _ (ap is_put v) refl

pub waiting_told : (pairs : List Pair) (script done : Script) (line : Line) (row : LogRow) → slice_get script.lines.now script.at ≡ Some line
    → IsSomeAnd (slice_get script.seats.items line.unit) (suits line.verb) → AreSeats script.partition script.seats.items pairs → length script.logs.items ≡ script.at
    → EndsWaiting script.progress line.verb row.outcome
    → done.lines ≡ script.lines → done.seats ≡ script.seats → done.logs.items ≡ script.logs.items ++ row ∷ [] → done.progress ≡ progress.Fresh
    → IsResetOut pairs script → IsScriptTold pairs script → IsScriptTold pairs done
waiting_told pairs script done line row found suited are many ends lines seats logs fresh out is =
    line_ends_told pairs pairs script done line row script.progress found (one_waits script.progress line.verb row.outcome ends) suited are (driven_same pairs) many
    (record {
      client = λ k at. record {
        beside = λ j apart. refl;
        here = λ before after b a. subst (λ (x : Pair). PairTold line.verb script.progress script.progress before x (Ok (steps.Ends row.outcome)))
            (some_is before after (sym b ∙ a)) (waiting_pair script.progress line.verb row.outcome before ends (λ reset. out line k before found reset at b));
        takes = λ before after b a. subst (λ (x : Pair). PairTakes line.verb script.progress script.progress before x (Ok (steps.Ends row.outcome)))
            (some_is before after (sym b ∙ a)) (waiting_takes script.progress line.verb row.outcome before ends);
        hears = λ before after b a. subst (λ (x : Pair). PairHears before x (Ok (steps.Ends row.outcome)))
            (some_is before after (sym b ∙ a)) (waiting_hears script.progress line.verb row.outcome before ends);
        reads = λ before after b a. subst (λ (x : Pair). PairReads line.verb before x (Ok (steps.Ends row.outcome)))
            (some_is before after (sym b ∙ a)) (waiting_reads script.progress line.verb row.outcome before ends);
        puts = λ before after b a. subst (λ (x : Pair). PairPuts line.verb before x (Ok (steps.Ends row.outcome)))
            (some_is before after (sym b ∙ a)) (waiting_puts script.progress line.verb row.outcome before ends);
        makes = λ before after b a. subst (λ (x : Pair). PairMakes line.verb script.progress script.progress before x)
            (some_is before after (sym b ∙ a)) (makes_same line.verb script.progress before);
        gives = all_give_same pairs;
        shows = λ before after b a. (
          waiting_shows script.progress line.verb row.outcome (seen_between before after) after.window.unit line.number ends,
          waiting_full (IsFullAt after) script.progress line.verb row.outcome ends,
          pair_shut_none line.verb before after (Ok (steps.Ends row.outcome)) (waiting_plain script.progress line.verb row.outcome ends),
        );
      };
      port = λ at. refl;
    }) lines seats logs fresh is

-- a line that tells of no tag
quiet_more : (pages : ℕ) (own : List Ended) (verb : Verb) (outcome : Outcome) → HasCausesTold pages own → asks verb ≡ false → is_logout verb ≡ false → is_own verb ≡ false → tag_of outcome ≡ []
    → HasCausesTold pages (own ++ ended verb outcome ∷ [])
quiet_more pages own verb outcome law no_ask no_logout no_own none = record {
  refusals = said_more pages None own verb outcome law.refusals (says_nothing pages (login_after None own) verb outcome no_ask no_logout no_own);
  tags = subst (AllPairs (λ a b. a < b)) (sym (tags_more own verb outcome ∙ (ap (λ tags. tags_told own ++ tags) none ∙ append-nil (tags_told own)))) law.tags;
}

law_on : (old new : List Pair) (script : Script) → AreSeats script.partition script.seats.items old → AreDriven old new → IsScriptTold old script
    → AtSeats script.seats.items new (λ unit pair. HasCausesTold (length pair.window.pages) (own_of unit script))
law_on old new script are driven is unit k after at now =
    let b = before_of script.partition unit k script.seats.items old new after are driven at now in
    subst (λ n. HasCausesTold n (own_of unit script)) (sym b.pages) (is.law unit k b.pair at b.there)

put_on : (old new : List Pair) (script : Script) → AreSeats script.partition script.seats.items old → AreDriven old new → AllSameValues old new → IsScriptTold old script
    → AtSeats script.seats.items new (λ unit pair. AreValuesPut (own_of unit script) pair)
put_on old new script are driven same is unit k after at now =
    let b = before_of script.partition unit k script.seats.items old new after are driven at now in
    keeps_put (own_of unit script) b.pair after (values_kept old new k b.pair after same b.there now) (is.put unit k b.pair at b.there)

-- the line that fails the partition is to be gone on with
pub fail_waits_told : (old new : List Pair) (script : Script) (line : Line) → slice_get script.lines.now script.at ≡ Some line → fails line.verb ≡ true
    → AreSeats script.partition script.seats.items old → AreDriven old new → AllGive old new → AllSameValues old new → AllShut old new → IsScriptTold old script → IsScriptTold new script
fail_waits_told old new script line found failing are driven gives same shut is = record {
  law = law_on old new script are driven is;
  fresh = is.fresh;
  told = λ l next ok unit k pair at now.
      absurd (true_false (fails line.verb) failing (subst (λ (x : Line). fails x.verb ≡ false) (some_is l line (sym next ∙ found)) ok));
  shown = still_shown old new script are driven is.shown;
  taken = fail_waits_taken old new script line found failing driven gives is.taken;
  put = put_on old new script are driven same is;
  few = λ unit k after at now.
      let b = before_of script.partition unit k script.seats.items old new after are driven at now in
      few_failing unit script.lines.now (resets_told (own_of unit script)) script.progress (slice_get script.lines.now script.at) line after found failing
      (few_shuts unit script.lines.now (resets_told (own_of unit script)) script.progress (slice_get script.lines.now script.at) line b.pair after found failing
      (shut_at old new k b.pair after shut b.there now) (is.few unit k b.pair at b.there));
  down = down_none new script (is.down.going line found);
}

-- it ended, and no line is left
pub fail_ends_told : (old new : List Pair) (script done : Script) (line : Line) (row : LogRow) → slice_get script.lines.now script.at ≡ Some line → fails line.verb ≡ true
    → AreSeats script.partition script.seats.items old → AreDriven old new → AllGive old new → AllSameValues old new → AllShut old new → SeatsShut script.seats.items new → length script.logs.items ≡ script.at → row.outcome ≡ outcomes.Done
    → done.lines ≡ script.lines → done.seats ≡ script.seats → done.logs.items ≡ script.logs.items ++ row ∷ [] → done.at ≡ length done.lines.now
    → IsScriptTold old script → IsScriptTold new done
fail_ends_told old new script done line row found failing are driven gives same shut shut_all many done_is lines seats logs over is = record {
  law = λ unit k after at now. each unit after (law_on old new script are driven is unit k after (subst (λ ss. slice_get ss.items unit ≡ Some (places.Client k)) seats at) now) (here_or line.unit unit);
  fresh = subst (λ (o : Option Line). IfSome o (λ l. (k : ℕ) → slice_get done.seats.items l.unit ≡ Some (places.Client k) → IsOf l.verb done.progress)) (sym none) tt;
  told = λ l next ok unit k pair at now. absurd (some_none l (sym none ∙ next));
  shown = ended_shown old new script done line row found many lines seats logs are driven is.shown
      (λ unit k before after at was now same. (
        fail_shows (seen_between before after) after.window.unit line.number line.verb row.outcome failing,
        subst (IsFullIf (IsFullAt after)) (sym done_is) tt,
        pair_shut_none line.verb before after (Ok (steps.Ends row.outcome)) (fails_plain line.verb failing),
      ))
      (λ unit k before after at was now same has drives. shut_none (HadEnd after.link) line.verb (Ok (steps.Ends row.outcome)) (fails_plain line.verb failing));
  taken = fail_ends_taken old new script done line row found failing driven gives many done_is lines seats logs over is.taken;
  put = λ unit k after at now. put unit after (put_on old new script are driven same is unit k after (subst (λ ss. slice_get ss.items unit ≡ Some (places.Client k)) seats at) now) (here_or line.unit unit);
  few = λ unit k after at now.
      let here : slice_get script.seats.items unit ≡ Some (places.Client k) = subst (λ ss. slice_get ss.items unit ≡ Some (places.Client k)) seats at in
      let b = before_of script.partition unit k script.seats.items old new after are driven here now in
      few_failed unit done.lines.now script.at (resets_told (own_of unit script)) (resets_told (own_of unit done)) done.progress (slice_get done.lines.now done.at) line after
      (ap (λ ls. slice_get ls.now script.at) lines ∙ found) failing none (resets_grow unit (here_or line.unit unit))
      (few_shuts unit script.lines.now (resets_told (own_of unit script)) script.progress (slice_get script.lines.now script.at) line b.pair after found failing
      (shut_at old new k b.pair after shut b.there now) (is.few unit k b.pair here b.there));
  down = down_failed new script done none seats shut_all;
}
  where
    none : slice_get done.lines.now done.at ≡ None
    none = ap (slice_get done.lines.now) over ∙ slice_get_past done.lines.now (length done.lines.now) (omega arith)

    some_none : (l : Line) → None ≡ Some l → ⊥
    some_none l e = cc

    e : Ended
    e = record { verb = line.verb; outcome = row.outcome }

    records : (unit : ℕ) → own_of unit done ≡ cond (line.unit == unit) (own_of unit script ++ e ∷ []) (own_of unit script)
    records unit = ap (λ ls. ended_by unit ls.now done.logs.items) lines
        ∙ (ap (ended_by unit script.lines.now) logs ∙ ended_more unit script.lines.now script.logs.items line row (ap (λ n. slice_get script.lines.now n) many ∙ found))

    resets_grow : (unit : ℕ) → ((line.unit == unit) ≡ true) ⊎ ((line.unit == unit) ≡ false) → resets_told (own_of unit script) ≤ resets_told (own_of unit done)
    resets_grow unit (inl same) =
        let more : resets_told (own_of unit done) ≡ resets_told (own_of unit script) + cond (is_reset line.verb) 1 0 =
        resets_own (own_of unit script) (own_of unit done) e (records unit ∙ ap (λ b. cond b (own_of unit script ++ e ∷ []) (own_of unit script)) same) in
        omega (arith, more)
    resets_grow unit (inr differ) =
        let still : resets_told (own_of unit done) ≡ resets_told (own_of unit script) =
        ap resets_told (records unit ∙ ap (λ b. cond b (own_of unit script ++ e ∷ []) (own_of unit script)) differ) in
        omega (arith, still)

    put : (unit : ℕ) (after : Pair) → AreValuesPut (own_of unit script) after → ((line.unit == unit) ≡ true) ⊎ ((line.unit == unit) ≡ false) → AreValuesPut (own_of unit done) after
    put unit after was (inl same) =
        subst (λ (own : List Ended). AreValuesPut own after) (sym (records unit ∙ ap (λ b. cond b (own_of unit script ++ e ∷ []) (own_of unit script)) same))
        (ends_put line.verb row.outcome (own_of unit script) after after (same_puts line.verb (Ok (steps.Ends row.outcome)) _ _ (fails_none line.verb failing) refl) was)
    put unit after was (inr differ) =
        subst (λ (own : List Ended). AreValuesPut own after) (sym (records unit ∙ ap (λ b. cond b (own_of unit script ++ e ∷ []) (own_of unit script)) differ)) was

    each : (unit : ℕ) (after : Pair) → HasCausesTold (length after.window.pages) (own_of unit script) → ((line.unit == unit) ≡ true) ⊎ ((line.unit == unit) ≡ false)
        → HasCausesTold (length after.window.pages) (own_of unit done)
    each unit after law (inl same) =
        let aside = fails_aside line.verb failing in
        subst (HasCausesTold (length after.window.pages)) (sym (records unit ∙ ap (λ b. cond b (own_of unit script ++ e ∷ []) (own_of unit script)) same))
        (quiet_more (length after.window.pages) (own_of unit script) line.verb row.outcome law aside.0 aside.1 aside.2 (ap tag_of done_is))
    each unit after law (inr differ) =
        subst (HasCausesTold (length after.window.pages)) (sym (records unit ∙ ap (λ b. cond b (own_of unit script ++ e ∷ []) (own_of unit script)) differ)) law

-- no line is left, and a turn was had
pub over_told : (old new : List Pair) (script : Script) → slice_get script.lines.now script.at ≡ None
    → AreSeats script.partition script.seats.items old → AreDriven old new → AllGive old new → AllSameValues old new → AllCalm old new → AllStayShut old new → IsScriptTold old script → IsScriptTold new script
over_told old new script none are driven gives same calm stay is = record {
  law = law_on old new script are driven is;
  fresh = is.fresh;
  told = λ l next ok unit k pair at now. absurd (some_none l (sym none ∙ next));
  shown = still_shown old new script are driven is.shown;
  taken = over_taken old new script none driven gives is.taken;
  put = put_on old new script are driven same is;
  few = λ unit k after at now.
      let b = before_of script.partition unit k script.seats.items old new after are driven at now in
      few_over unit script.lines.now (resets_told (own_of unit script)) script.progress (slice_get script.lines.now script.at) b.pair after none (calm_at old new k b.pair after calm b.there now)
      (is.few unit k b.pair at b.there);
  down = down_stays old new script stay is.down;
}
  where
    some_none : (l : Line) → None ≡ Some l → ⊥
    some_none l e = cc

-- the clients are as they were
pub clients_told : (old new : List Pair) (script : Script) → SameClients old new → IsScriptTold old script → IsScriptTold new script
clients_told old new script same is = record {
  law = λ unit k after at now. law unit k after at (slice_get old k) refl (same k after now);
  fresh = is.fresh;
  told = λ l next ok unit k after at now. told l next ok unit k after at (slice_get old k) refl (same k after now);
  shown = λ unit k after at now. shown unit k after at (slice_get old k) refl (same k after now);
  taken = clients_taken old new script same is.taken;
  put = λ unit k after at now. put unit k after at (slice_get old k) refl (same k after now);
  few = λ unit k after at now. few unit k after at (slice_get old k) refl (same k after now);
  down = down_clients old new script same is.down;
}
  where
    few : (unit k : ℕ) (after : Pair) → slice_get script.seats.items unit ≡ Some (places.Client k) → (o : Option Pair) → slice_get old k ≡ o
        → IsSomeAnd o (λ before. SameClient before after) → PairFew script unit after
    few unit k after at None e h = absurd h
    few unit k after at (Some before) e h =
        few_calm unit script.lines.now (resets_told (own_of unit script)) script.progress (slice_get script.lines.now script.at) before after h.calm h.queue (is.few unit k before at e)

    put : (unit k : ℕ) (after : Pair) → slice_get script.seats.items unit ≡ Some (places.Client k) → (o : Option Pair) → slice_get old k ≡ o
        → IsSomeAnd o (λ before. SameClient before after) → AreValuesPut (own_of unit script) after
    put unit k after at None e h = absurd h
    put unit k after at (Some before) e h = keeps_put (own_of unit script) before after h.values (is.put unit k before at e)

    shown : (unit k : ℕ) (after : Pair) → slice_get script.seats.items unit ≡ Some (places.Client k) → (o : Option Pair) → slice_get old k ≡ o
        → IsSomeAnd o (λ before. SameClient before after) → PairShown script unit after
    shown unit k after at None e h = absurd h
    shown unit k after at (Some before) e h = shown_on script unit before after h.unit h.sees h.puts (is.shown unit k before at e)

    law : (unit k : ℕ) (after : Pair) → slice_get script.seats.items unit ≡ Some (places.Client k) → (o : Option Pair) → slice_get old k ≡ o
        → IsSomeAnd o (λ before. SameClient before after) → HasCausesTold (length after.window.pages) (own_of unit script)
    law unit k after at None e h = absurd h
    law unit k after at (Some before) e h = subst (λ n. HasCausesTold n (own_of unit script)) (sym h.pages) (is.law unit k before at e)

    told : (l : Line) → slice_get script.lines.now script.at ≡ Some l → fails l.verb ≡ false → (unit k : ℕ) (after : Pair) → slice_get script.seats.items unit ≡ Some (places.Client k)
        → (o : Option Pair) → slice_get old k ≡ o → IsSomeAnd o (λ before. SameClient before after) → PairIsTold (own_of unit script) (progress_by unit script) after
    told l next ok unit k after at None e h = absurd h
    told l next ok unit k after at (Some before) e h =
        let p = progress_by unit script in
        let own = own_of unit script in
        subst (λ (o : Option Driver). IfSome o (λ d. IsTold (length after.window.pages) own p (side_of after.link false).registered d.client)) (sym h.driver)
        (subst (λ r. IfSome before.driver (λ d. IsTold (length after.window.pages) own p r d.client)) (sym h.queue)
        (subst (λ n. IfSome before.driver (λ d. IsTold n own p (side_of before.link false).registered d.client)) (sym h.pages) (is.told l next ok unit k before at e)))

-- a reset that waits and did nothing has no login on
pub waits_out : (old new : List Pair) (script : Script) (p' : Progress) (line : Line) → slice_get script.lines.now script.at ≡ Some line → fails line.verb ≡ false
    → AreSeats script.partition script.seats.items old → AreDriven old new → LineOut script.seats.items line script.progress p' old new (Ok (steps.Waits Quiet))
    → IsScriptTold old script → IsResetOut new (record script { progress = p' })
waits_out old new script p' line found one are driven step is l k after next reset sits now =
    let same : l ≡ line = some_is l line (sym next ∙ found) in
    let here : slice_get script.seats.items line.unit ≡ Some (places.Client k) = subst (λ (x : Line). slice_get script.seats.items x.unit ≡ Some (places.Client k)) same sits in
    let b = before_of script.partition line.unit k script.seats.items old new after are driven here now in
    let told : PairIsTold (own_of line.unit script) script.progress b.pair =
    subst (λ (q : Progress). PairIsTold (own_of line.unit script) q b.pair) (here_by line.unit script.progress line (slice_get script.lines.now script.at) found (eq-eqb line.unit line.unit refl))
    (is.told line found one line.unit k b.pair here b.there) in
    at b.pair (own_of line.unit script) b.pair.driver after.driver (step k here b.pair after b.there now) told (subst (λ (x : Line). is_reset x.verb ≡ true) same reset)
  where
    at : (before : Pair) (own : List Ended) (o o' : Option Driver)
        → OnDrivers o o' (λ a b. StepsOut line.verb (seated a.client script.progress (side_of before.link false).registered) (seated b.client p' (side_of after.link false).registered) (Ok (steps.Waits Quiet)))
        → IfSome o (λ d. IsTold (length before.window.pages) own script.progress (side_of before.link false).registered d.client) → is_reset line.verb ≡ true
        → IfSome o' (λ d. d.client.granted ≡ None)
    at before own o None out told reset = tt
    at before own None (Some d) out told reset = absurd out
    at before own (Some d) (Some d') out told reset = out reset told.queue

pub fail_out : (new : List Pair) (script : Script) (line : Line) → slice_get script.lines.now script.at ≡ Some line → is_reset line.verb ≡ false → IsResetOut new script
fail_out new script line found other l k after next reset sits now =
    absurd (true_false (is_reset line.verb) (subst (λ (x : Line). is_reset x.verb ≡ true) (some_is l line (sym next ∙ found)) reset) other)

pub none_out : (new : List Pair) (script : Script) → slice_get script.lines.now script.at ≡ None → IsResetOut new script
none_out new script none l k after next reset sits now = absurd (some_none (sym none ∙ next))
  where
    some_none : None ≡ Some l → ⊥
    some_none e = cc
