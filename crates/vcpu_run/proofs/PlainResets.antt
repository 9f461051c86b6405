-- A line of a plain client that resets: it frees the queue, and is a login then.
use Rattle.std.proofs.Common.{◌≡◌, ◌≢◌, ◌∙◌, inl, inr, ℕ, ◌≤◌, ◌&&◌, not, is_some, false, List, [], ◌∷◌, Result, Ok, Err, IfOk, arith, length, refl, sym, ap, ap₂, subst, Option}
use Rattle.std.specs.Prelude.{⊤}
use Rattle.std.proofs.lemmas.List.Elements.{All-cons, All-nil}
use Rattle.vio_num.specs.Entry.{partner_freed}
use Rattle.vio_num.specs.declared.hypervisor.Moved.{Moved}
use Rattle.vio_num.specs.declared.memory.NoMemory.{NoMemory}
use Rattle.crq_ring.specs.Sessions.{of_session}
use Rattle.crq_ring.specs.declared.rows.PipeRow.{PipeRow}
use Rattle.crq_session.specs.Answered.{Frees, received_now, taken_now}
use Rattle.crq_session.specs.EndState.{EndCounts, EndPlace, EndState, OnlyFrees, OnlyReserves}
use Rattle.block_server.specs.Talk.{Word}
use Rattle.block_server.specs.Talk.Word.{gone}
use Rattle.block_server.specs.declared.unit.Unit.{Unit}
use Rattle.boot_text.specs.declared.verb.Verb.TheVariants as verbs
use Rattle.unit_region.specs.declared.step.Step.{Step}
use Rattle.vio_trace.specs.declared.rows.AnswerRow.{AnswerRow}
use Rattle.unit_region.specs.declared.step.Step.TheVariants as steps
use Rattle.vscsi_client.specs.State.{ClientState, next_tag}
use Rattle.vscsi_client.specs.Turned.{unlinked}
use Rattle.vcpu_run.specs.EventsPut.{times_freed}
use Rattle.vcpu_run.specs.PlainSteps.{FollowsReplay, HasCome, IsAsReplayed, IsNewWord, IsLoginReplayed, LogsInPlainly, MayLogIn, Own, StepsOn, StepsPlainly, beside, own_by, KeepsLogin, StepTells}
use Rattle.vcpu_run.specs.PlainTalk.{AreEnds, Between, ServerStays, TalksPlainly, TookNoMore, awaited, owes}
use Rattle.vcpu_run.specs.Replay.{Replay, forgotten}
use Rattle.vcpu_run.specs.declared.script.Progress.{Progress}
use Rattle.vcpu_run.specs.declared.script.Progress.TheVariants as progress
use Rattle.vcpu_run.proofs.PlainData.{data_kept}
use Rattle.vcpu_run.proofs.PlainNotes.{notes_same}
use Rattle.vcpu_run.proofs.PlainOwed.{logs_told, one_if, owes_none}
use Rattle.vcpu_run.proofs.PlainReset.{freed_plainly}
use Rattle.vcpu_run.proofs.PlainSlots.{keeps_same}
use Rattle.vcpu_run.proofs.PlainStill.{all_true, plainly_still}
use Rattle.vcpu_run.proofs.PlainTurns.{come_same}
use Rattle.vio_num.specs.declared.names.UnitId.{UnitId}
use Rattle.page_slots.specs.Stroke.{StrokeValue}

-- the queue was freed
pub resets_on : (granted : ℕ) (now : Replay) (at at' : Between) (before after : List AnswerRow) (room : EndState) (did : Moved) → after ≡ before → TalksPlainly granted at [] → FollowsReplay granted now at → OnlyReserves at.own room
    → Frees false room partner_freed at'.own → OnlyFrees false room at'.own → at'.client ≡ unlinked at.client → at'.window ≡ at.window → ServerStays at at'
    → StepsOn granted verbs.Reset progress.Freed now (length at.client.rows) (owes at []) before after at' (steps.Waits did)
resets_on granted now at at' before after room did noted talks follows ready frees rest client window stays = record {
  words = gone ∷ [];
  talks = freed_plainly granted at at' room partner_freed refl talks ready frees rest client window stays;
  anew = record {
    more = omega (arith, ap (λ (s : ClientState). length s.rows) client);
    asked = All-cons (IsNewWord (length at.client.rows) (length at'.client.rows)) gone [] tt (All-nil (IsNewWord (length at.client.rows) (length at'.client.rows)));
    logins = All-cons (KeepsLogin at'.client.rows) gone [] tt (All-nil (KeepsLogin at'.client.rows));
  };
  told = omega (arith, owes_none at' (gone ∷ []) (inl frees.freed));
  laid = tt;
  noted = notes_same at'.window.place.unit at'.window.strokes before after noted;
  replayed = (inl (record { registered = frees.freed; tag = ap next_tag client ∙ follows.tag }), inl (λ none. cc (none)));
}

-- a turn of a login is a step of its line
-- a reset says of no login that it was rejected
reset_tells : (step : Step) (who : UnitId) (strokes : ℕ → Option (List StrokeValue)) → StepTells verbs.Reset step who strokes
reset_tells (steps.Ends outcome) who strokes = tt
reset_tells (steps.Waits did) who strokes = tt

pub login_steps : (p p' : Progress) (old new : Own) (result : Result Step NoMemory) → LogsInPlainly old new result → StepsPlainly verbs.Login p p' old new result
login_steps p p' old new (Err memory) logs = λ plain granted unit server server' now spares stays talks come. tt
login_steps p p' old new (Ok step) logs = λ plain granted unit server server' now spares stays talks come.
    let on = logs granted unit server server' now stays talks (inl come) in
    record { words = on.0; talks = on.1; anew = on.2; told = logs_told granted now (beside unit server old) (beside unit server' new) on.0 step refl talks (inl come) on.1 on.3; laid = on.4; noted = notes_same new.window.place.unit new.window.strokes old.answers new.answers on.5; replayed = so granted now (beside unit server' new) on.0 step on.3 }
  where
    so : (granted : ℕ) (now : Replay) (at : Between) (words : List Word) (step : Step) → IsLoginReplayed granted now at words step → IsAsReplayed granted verbs.Login p' now at words step
    so granted now at words (steps.Ends outcome) replayed = replayed
    so granted now at words (steps.Waits did) replayed = replayed

-- and of one that resets, behind the free
pub renews_steps : (old new : Own) (result : Result Step NoMemory) → LogsInPlainly old new result → StepsPlainly verbs.Reset progress.Freed progress.Freed old new result
renews_steps old new (Err memory) logs = λ plain granted unit server server' now spares stays talks come. tt
renews_steps old new (Ok step) logs = λ plain granted unit server server' now spares stays talks come.
    let starts = may granted now (beside unit server old) come in
    let on = logs granted unit server server' (forgotten now) stays talks starts in
    record { words = on.0; talks = on.1; anew = on.2; told = logs_told granted (forgotten now) (beside unit server old) (beside unit server' new) on.0 step refl talks starts on.1 on.3; laid = reset_tells step unit.id new.window.strokes; noted = notes_same new.window.place.unit new.window.strokes old.answers new.answers on.5; replayed = so granted now (beside unit server' new) on.0 step on.3 }
  where
    may : (granted : ℕ) (now : Replay) (at : Between) → HasCome granted verbs.Reset progress.Freed now at → MayLogIn granted (forgotten now) at
    may granted now at (inl freed) = inr (record { registered = freed.registered; tag = freed.tag }, refl, refl)
    may granted now at (inr logging) = inl logging

    so : (granted : ℕ) (now : Replay) (at : Between) (words : List Word) (step : Step) → IsLoginReplayed granted (forgotten now) at words step
        → IsAsReplayed granted verbs.Reset progress.Freed now at words step
    so granted now at words (steps.Ends outcome) replayed = replayed
    so granted now at words (steps.Waits did) replayed = (inr replayed.0, replayed.1)

-- before the free the line is as the replay
fresh_follows : (granted : ℕ) (p : Progress) (now : Replay) (at : Between) → p ≢ progress.Freed → HasCome granted verbs.Reset p now at → FollowsReplay granted now at
fresh_follows granted progress.Freed now at fresh come = absurd (fresh refl)
fresh_follows granted progress.Fresh now at fresh come = come
fresh_follows granted (progress.Took taken) now at fresh come = come
fresh_follows granted (progress.Posted done) now at fresh come = come

pub unfreed : (p : Progress) → times_freed p ≡ 0 → p ≢ progress.Freed
unfreed p none freed = absurd (omega (arith, none, ap times_freed freed))

pub resets_plainly : (p : Progress) (old new : Own) (room : EndState) (did : Moved) → p ≢ progress.Freed → OnlyReserves old.end room → Frees false room partner_freed new.end
    → OnlyFrees false room new.end → new.client ≡ unlinked old.client → new.answers ≡ old.answers → new.window ≡ old.window → StepsPlainly verbs.Reset p progress.Freed old new (Ok (steps.Waits did))
resets_plainly p old new room did fresh ready frees rest client noted window = λ plain granted unit server server' now spares stays talks come.
    resets_on granted now (beside unit server old) (beside unit server' new) old.answers new.answers room did noted talks (fresh_follows granted p now (beside unit server old) fresh come) ready frees rest client window stays

-- where room was made all is as it was
ends_room : (server old new : EndState) → AreEnds server old → OnlyReserves old new → AreEnds server new
ends_room server old new ends ready = record {
  server_sees = record {
    partner = ends.server_sees.partner ∙ sym ready.registered;
    session = ends.server_sees.session ∙ sym ready.last_session;
    received = ap (λ (p : EndPlace). p.received) ready.place ∙ ends.server_sees.received;
    taken = ends.server_sees.taken ∙ sym ready.taken;
    slots = ends.server_sees.slots ∙ sym (ap (λ (p : EndPlace). p.own_slots) ready.place);
  };
  own_sees = record {
    partner = ap (λ (p : EndPlace). p.partner_registered) ready.place ∙ ends.own_sees.partner;
    session = ap (λ (c : EndCounts). c.partner_session) ready.counts ∙ ends.own_sees.session;
    received = ends.own_sees.received ∙ sym ready.sent;
    taken = ap (λ (p : EndPlace). p.partner_taken) ready.place ∙ ends.own_sees.taken;
    slots = ap (λ (p : EndPlace). p.partner_slots) ready.place ∙ ends.own_sees.slots;
  };
  server_took = ends.server_took;
  own_took = took;
}
  where
    took : TookNoMore new
    took = subst (λ (n : ℕ). n ≤ length (received_now new)) (sym (ap₂ (λ q (rows : List PipeRow). length (of_session q rows)) ready.last_session ready.taken))
        (subst (λ (n : ℕ). length (taken_now old) ≤ n)
        (sym (ap₂ (λ q (rows : List PipeRow). length (of_session q rows)) ready.last_session (ap (λ (p : EndPlace). p.received) ready.place))) ends.own_took)

room_talks : (granted : ℕ) (unit : Unit) (server : EndState) (old : Own) (room : EndState) → OnlyReserves old.end room → TalksPlainly granted (beside unit server old) []
    → TalksPlainly granted (beside unit server (own_by old.client old.answers room old.window)) []
room_talks granted unit server old room ready talks =
    plainly_still (λ o. ⊤) granted (beside unit server old) (beside unit server (own_by old.client old.answers room old.window)) talks
    (record {
      server = record {
        unit = refl;
        session = refl;
        registered = refl;
        kept = refl;
        taken = refl;
        slots = refl;
        ends = ends_room server old.end room talks.calm.ends ready;
      };
      client = refl;
      sent = ready.sent;
      registered = ready.registered;
      kept = ready.kept;
      come = come_same old.end room ready.place ready.last_session ready.taken;
      slots = ap (λ (p : EndPlace). p.own_slots) ready.place;
      window = record { own = talks.calm.usable; keeps = keeps_same old.window old.window refl };
      spares = all_true (awaited old.client);
      tables = data_kept old.window old.window refl;
    })

-- a queue that is not registered has no login to forget
pub resets_unregistered : (p : Progress) (old new : Own) (room : EndState) (result : Result Step NoMemory) → p ≢ progress.Freed → old.end.registered ≡ false
    → OnlyReserves old.end room → LogsInPlainly (own_by old.client old.answers room old.window) new result → StepsPlainly verbs.Reset p progress.Freed old new result
resets_unregistered p old new room result fresh off ready logs = λ plain granted unit server server' now spares stays talks come.
    subst (λ n. IfOk result (StepsOn granted verbs.Reset progress.Freed now (length old.client.rows) n old.answers new.answers (beside unit server' new)))
    (ap (λ b. one_if (b && (not (is_some old.client.granted) && (unit.logins.taking && not false)))) ready.registered)
    (renews_steps (own_by old.client old.answers room old.window) new result logs plain granted unit server server' now spares
    (record {
      unit = stays.unit;
      session = stays.session;
      registered = stays.registered;
      kept = stays.kept;
      taken = stays.taken;
      slots = stays.slots;
      ends = stays.ends;
    }) (room_talks granted unit server old room ready talks)
    (inl (record { registered = ready.registered ∙ off; tag = (fresh_follows granted p now (beside unit server old) fresh come).tag })))
