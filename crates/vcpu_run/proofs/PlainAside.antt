-- The lines of a plain client of which the replay says nothing: those of its own region, and those that tell of a command's data.
use Rattle.std.proofs.Common.{◌≡◌, ◌∙◌, ◌⊎◌, inl, inr, ℕ, zero, suc, ◌*◌, ◌/◌, ◌%◌, ◌<◌, ◌≤◌, ◌==◌, ◌++◌, ◌&&◌, cond, nat_le, nat_lt, All, Bool, true, false, true≢false, List, [], ◌∷◌, Option, Some, None, Result, Ok, Err, IfOk, IfSome, IsSome, append-nil, drop, length, refl, slice_get, sym, ap, subst, arith}
use Rattle.std.specs.Prelude.{⊤}
use Rattle.std.specs.List.{list_any}
use Rattle.std.proofs.lemmas.Bool.Decides.{nat_tests}
use Rattle.std.proofs.lemmas.List.Elements.{All-cons, All-head, All-nil, All-tail}
use Rattle.vio_num.specs.declared.hypervisor.Hrc.TheVariants as codes
use Rattle.vio_num.specs.declared.memory.NoMemory.{NoMemory}
use Rattle.page_slots.specs.Stroke.{StrokeValue}
use Rattle.crq_session.specs.EndState.{EndState}
use Rattle.tce_window.specs.PortState.{OnlyReads, OnlyWrites, PortState, Puts}
use Rattle.tce_window.specs.Strokes.{with_strokes}
use Rattle.block_server.specs.Talk.{to_come}
use Rattle.block_server.specs.declared.unit.Unit.{Unit}
use Rattle.boot_text.specs.declared.verb.Verb.{Verb}
use Rattle.boot_text.specs.declared.verb.Verb.TheVariants as verbs
use Rattle.unit_region.specs.Answers.{AnswersPut, AnswersWrite, tce_of}
use Rattle.unit_region.specs.Pattern.{pattern as filling}
use Rattle.unit_region.specs.Marks.{LaysJust, LaysNoStroke}
use Rattle.unit_region.specs.Steps.{IsPlain, IsPlainStep}
use Rattle.unit_region.specs.declared.step.Step.{Step}
use Rattle.unit_region.specs.declared.step.Step.TheVariants as steps
use Rattle.unit_region.proofs.RegionTold.{filled_long}
use Rattle.vio_trace.specs.declared.outcome.Outcome.{Outcome}
use Rattle.vio_trace.specs.declared.outcome.Outcome.TheVariants as outcomes
use Rattle.vscsi_client.specs.Spans.{meets, span_of}
use Rattle.vscsi_client.specs.State.{ClientState}
use Rattle.vscsi_client.specs.Units.{slot_address}
use Rattle.vscsi_client.specs.declared.TheConstants.{DATA_START}
use Rattle.vscsi_client.specs.declared.outgoing.Outgoing.{Outgoing}
use Rattle.vscsi_client.specs.declared.outgoing.Span.{Span}
use Rattle.vcpu_run.specs.PlainSteps.{AreReplayedAs, FollowsReplay, HasCome, HasToDo, IsAsReplayed, IsReplayedAs, Own, SparesTables, StepsOn, StepsPlainly, beside, StepTells}
use Rattle.vcpu_run.specs.PlainTalk.{Between, IsOwnEntry, IsOwnWindow, KeepsTables, KeepsSlots, ServerStays, TalksPlainly, awaited, name_of, owes, shown_on}
use Rattle.vcpu_run.specs.Replay.{Asked as Replayed, Replay, after_line, any_share, ends_as, range, share_page}
use Rattle.vcpu_run.specs.declared.script.Progress.{Progress}
use Rattle.vcpu_run.proofs.PlainAsking.{follows_still, none_anew}
use Rattle.vcpu_run.proofs.PlainData.{data_same, span_data}
use Rattle.vcpu_run.proofs.PlainNotes.{notes_same}
use Rattle.vcpu_run.proofs.PlainOwed.{plain_none, told_idle}
use Rattle.vcpu_run.proofs.PlainPuts.{LeavesWindow}
use Rattle.vcpu_run.proofs.PlainShares.{any_same, or_false}
use Rattle.vcpu_run.proofs.PlainSlots.{behind_apart, write_keeps}
use Rattle.vcpu_run.proofs.PlainStays.{laid_own}
use Rattle.vcpu_run.proofs.PlainStill.{all_true, awaited_spared, plainly_still, reads_data, reads_leave}
use Rattle.unit_region.specs.RegionLines.{IsOn}
use Rattle.vio_num.specs.declared.names.UnitId.{UnitId}
use Rattle.vcpu_run.specs.PlainRejected.{TellsRejection}
use Rattle.vcpu_run.specs.PlainClients.{names_own}

-- The replay says nothing of a line, and is what it was behind it.
pub record IsUntold (verb : Verb) : Type 0 where
  pub come : (granted : ℕ) (p : Progress) (now : Replay) (at : Between) → HasCome granted verb p now at → FollowsReplay granted now at
  pub goes : (granted : ℕ) (p : Progress) (now : Replay) (at : Between) → FollowsReplay granted now at → HasCome granted verb p now at
  pub ends : (granted pages : ℕ) (now : Replay) → ends_as granted pages now verb ≡ None
  pub after : (granted pages : ℕ) (now : Replay) → after_line granted pages now verb ≡ now
  pub tells : (outcome : Outcome) (who : UnitId) (strokes : ℕ → Option (List StrokeValue)) → TellsRejection verb outcome who strokes

pub fill_untold : (at len seed : ℕ) → IsUntold (verbs.Fill at len seed)
fill_untold at len seed = record { come = λ granted p now between come. come; goes = λ granted p now between come. come; ends = λ granted pages now. refl; after = λ granted pages now. refl; tells = λ outcome who strokes. tt }

pub poke_untold : (at : ℕ) (bytes : List ℕ) → IsUntold (verbs.Poke at bytes)
poke_untold at bytes = record { come = λ granted p now between come. come; goes = λ granted p now between come. come; ends = λ granted pages now. refl; after = λ granted pages now. refl; tells = λ outcome who strokes. tt }

pub peek_untold : (at len : ℕ) → IsUntold (verbs.Peek at len)
peek_untold at len = record { come = λ granted p now between come. come; goes = λ granted p now between come. come; ends = λ granted pages now. refl; after = λ granted pages now. refl; tells = λ outcome who strokes. tt }

pub data_untold : (tag : ℕ) → IsUntold (verbs.Data tag)
data_untold tag = record { come = λ granted p now between come. come; goes = λ granted p now between come. come; ends = λ granted pages now. refl; after = λ granted pages now. refl; tells = λ outcome who strokes. tt }

pub tce_untold : (entry page : ℕ) (readable writable : Bool) → IsUntold (verbs.Tce entry page readable writable)
tce_untold entry page readable writable = record { come = λ granted p now between come. come; goes = λ granted p now between come. come; ends = λ granted pages now. refl; after = λ granted pages now. refl; tells = λ outcome who strokes. tt }

-- The slots are as they were, and the tables of what is spared.
pub record LeavesSpared (spared : Outgoing → Type 0) (old new : PortState) : Type 0 where
  pub slots : LeavesWindow (λ slot. ⊤) old new
  pub tables : KeepsTables (λ ask. spared (name_of ask)) old new

-- the client and its end are as they were, and so are the slots, and the tables of all that is outstanding
pub untold_on : (spared : Outgoing → Type 0) (verb : Verb) (p p' : Progress) (old new : Own) (result : Result Step NoMemory) → IsUntold verb → IsPlain result → new.client ≡ old.client
    → new.answers ≡ old.answers → new.end ≡ old.end → ((granted : ℕ) (now : Replay) (at : Between) → at.client ≡ old.client → SparesTables verb now → FollowsReplay granted now at → All spared (awaited at.client))
    → IfOk result (λ step. IsOwnWindow old.window → LeavesSpared spared old.window new.window)
    → (granted : ℕ) (unit : Unit) (server server' : EndState) (now : Replay) → SparesTables verb now → ServerStays (beside unit server old) (beside unit server' new)
    → TalksPlainly granted (beside unit server old) [] → HasCome granted verb p now (beside unit server old) → IfOk result (StepsOn granted verb p' now (length old.client.rows) (owes (beside unit server old) []) old.answers new.answers (beside unit server' new))
untold_on spared verb p p' old new (Err memory) untold plain client noted end all leaves granted unit server server' now spares stays talks come = tt
untold_on spared verb p p' old new (Ok step) untold plain client noted end all leaves granted unit server server' now spares stays talks come = record {
  words = [];
  anew = none_anew old.client new.client (ap (λ (s : ClientState). length s.rows) client);
  talks = talks';
  replayed = by step;
  told = told_idle granted (owes at []) at' [] step talks' follows.login (plain_none step plain);
  laid = tells step;
  noted = notes_same new.window.place.unit new.window.strokes old.answers new.answers noted;
}
  where
    at : Between
    at = beside unit server old

    at' : Between
    at' = beside unit server' new

    registered : new.end.registered ≡ old.end.registered
    registered = ap (λ (e : EndState). e.registered) end

    follows : FollowsReplay granted now at'
    follows = follows_still granted now at at' (untold.come granted p now at come) client registered

    talks' : TalksPlainly granted at' []
    talks' = plainly_still spared granted at at' talks (record {
      server = stays;
      client = client;
      sent = ap (λ (e : EndState). e.sent) end;
      registered = registered;
      kept = ap (λ (e : EndState). e.kept) end;
      come = ap to_come end;
      slots = ap (λ (e : EndState). e.place.own_slots) end;
      window = (leaves talks.calm.usable).slots;
      spares = all granted now at refl spares (untold.come granted p now at come);
      tables = (leaves talks.calm.usable).tables;
    })

    tells : (step : Step) → StepTells verb step at'.unit.id at'.window.strokes
    tells (steps.Ends outcome) = untold.tells outcome at'.unit.id at'.window.strokes
    tells (steps.Waits did) = tt

    by : (step : Step) → IsAsReplayed granted verb p' now at' [] step
    by (steps.Ends outcome) = (
      subst (λ (o : Option Outcome). IfSome o (λ said. outcome ≡ said)) (sym (untold.ends granted at'.window.place.size now)) tt,
      subst (λ (r : Replay). FollowsReplay granted r at') (sym (untold.after granted at'.window.place.size now)) follows,
    )
    by (steps.Waits did) = (
      untold.goes granted p' now at' follows,
      subst (λ (o : Option Outcome). IfSome o (λ said. HasToDo at' [])) (sym (untold.ends granted at'.window.place.size now)) tt,
    )

-- ---- what the line leaves of the window

still_leaves : (old new : PortState) → IsOwnWindow new → new.place ≡ old.place → ((p : ℕ) → new.strokes p ≡ old.strokes p) → LeavesWindow (λ slot. ⊤) old new
still_leaves old new own place same = record { own = own; keeps = keeps }
  where
    keeps : KeepsSlots (λ slot. ⊤) old new
    keeps = record {
      strokes = λ page stroke is. subst (IsOn stroke) (sym (same page)) is;
      unit = ap (λ place. place.unit) place;
      slots = λ slot bytes within spares whole shows.
          ap (λ (now : Option (List StrokeValue)). shown_on now (slot_address slot % 4096) (length bytes)) (same (slot_address slot / 4096)) ∙ shows;
    }

-- the window is still its owner's own, where each of its entries is
entries_own : (old new : PortState) → IsOwnWindow old → new.place ≡ old.place → ((p : ℕ) → new.strokes p ≡ old.strokes p) → ((e : ℕ) → IsOwnEntry e (new.values e)) → IsOwnWindow new
entries_own old new own place same entries = record {
  values = entries;
  size = subst (λ n. DATA_START ≤ 4096 * n) (sym (ap (λ place. place.size) place)) own.size;
  most = subst (λ n. n ≤ 256) (sym (ap (λ place. place.size) place)) own.most;
  there = λ p below. subst IsSome (sym (same p)) (own.there p (subst (λ n. p < n) (ap (λ place. place.size) place) below));
}

same_leaves : (old new : PortState) → IsOwnWindow old → OnlyWrites old new → ((p : ℕ) → new.strokes p ≡ old.strokes p) → LeavesWindow (λ slot. ⊤) old new
same_leaves old new own only same =
    still_leaves old new
    (entries_own old new own only.place same (λ e. subst (IsOwnEntry e) (sym (ap (λ (values : ℕ → List ℕ). values e) only.values)) (own.values e))) only.place same

none_laid : (strokes : Option (List StrokeValue)) → with_strokes strokes [] ≡ strokes
none_laid None = refl
none_laid (Some strokes) = ap Some (append-nil strokes)

-- the pages of a line's bytes
abbrev OffTable : (at len : ℕ) → Outgoing → Type 0
OffTable at len o = meets o.table (span_of at len) ≡ false

same_spared : (old new : PortState) (spared : Outgoing → Type 0) → IsOwnWindow old → OnlyWrites old new → ((p : ℕ) → new.strokes p ≡ old.strokes p) → LeavesSpared spared old new
same_spared old new spared own only same = record { slots = same_leaves old new own only same; tables = λ ask spares its. data_same old new same ask tt its }

pub step_leaves : (old new : PortState) (at line : ℕ) (bytes : List ℕ) (step : Step) → DATA_START ≤ at → OnlyWrites old new
    → LaysJust false old new line (Some (record { at = at; bytes = bytes })) (Ok step) → AnswersWrite false old new at bytes line step
    → IsOwnWindow old → LeavesSpared (OffTable at (length bytes)) old new
step_leaves old new at line bytes (steps.Ends outcomes.Done) behind only lays wrote own = record {
  slots = record {
    own = laid_own old new at line bytes own wrote only;
    keeps = write_keeps (λ slot. ⊤) old new at line bytes own wrote only (λ slot within spares. behind_apart at (length bytes) slot within behind);
  };
  tables = λ ask spares its. span_data old new at line bytes wrote ask spares its;
}
step_leaves old new at line bytes (steps.Ends outcomes.Range) behind only lays wrote own =
    same_spared old new (OffTable at (length bytes)) own only (λ p. lays refl p ∙ none_laid (old.strokes p))
step_leaves old new at line bytes (steps.Ends outcome) behind only lays wrote own = absurd wrote
step_leaves old new at line bytes (steps.Waits did) behind only lays wrote own =
    same_spared old new (OffTable at (length bytes)) own only (λ p. lays refl p ∙ none_laid (old.strokes p))

pub write_leaves : (own_shared : Bool) (old new : PortState) (at line : ℕ) (bytes : List ℕ) (result : Result Step NoMemory) → own_shared ≡ false
    → (nat_le DATA_START at && true) ≡ true → OnlyWrites old new → LaysJust own_shared old new line (Some (record { at = at; bytes = bytes })) result
    → IfOk result (AnswersWrite own_shared old new at bytes line) → IfOk result (λ step. IsOwnWindow old → LeavesSpared (OffTable at (length bytes)) old new)
write_leaves false old new at line bytes (Ok step) alone behind only lays answers = step_leaves old new at line bytes step (low (nat_le DATA_START at) refl behind) only lays answers
  where
    low : (b : Bool) → nat_le DATA_START at ≡ b → (b && true) ≡ true → DATA_START ≤ at
    low true is e = grind (arith, nat_tests, is)
    low false is e = absurd (true≢false (sym e))
write_leaves false old new at line bytes (Err memory) alone behind only lays answers = tt
write_leaves true old new at line bytes result alone behind only lays answers = absurd (true≢false alone)

pub read_leaves : (own_shared : Bool) (old new : PortState) (result : Result Step NoMemory) → own_shared ≡ false → OnlyReads own_shared old new
    → IfOk result (λ step. IsOwnWindow old → LeavesSpared (λ o. ⊤) old new)
read_leaves false old new (Ok step) alone reads = λ own. record { slots = reads_leave old new own reads; tables = reads_data old new reads }
read_leaves false old new (Err memory) alone reads = tt
read_leaves true old new result alone reads = absurd (true≢false alone)

-- ---- a value that is put

get_either : (list : List ℕ) (last n value : ℕ) → slice_get (list ++ last ∷ []) n ≡ Some value → (slice_get list n ≡ Some value) ⊎ (value ≡ last)
get_either [] last zero value is = inr (cc (is))
get_either [] last (suc n) value is = absurd (cc (is))
get_either (first ∷ list) last zero value is = inl is
get_either (first ∷ list) last (suc n) value is = get_either list last n value is

page_of : (page : ℕ) (readable writable : Bool) → tce_of page readable writable / 4096 ≡ page
page_of page true true = omega arith
page_of page true false = omega arith
page_of page false true = omega arith
page_of page false false = omega arith

-- an entry with one value more that keeps it its own
own_put : (entry page : ℕ) (readable writable : Bool) (list : List ℕ) → names_own (verbs.Tce entry page readable writable) ≡ true → IsOwnEntry entry list
    → IsOwnEntry entry (list ++ tce_of page readable writable ∷ [])
own_put entry page readable writable list keeps own = record {
  names = λ version value shown. by version value (get_either list (tce_of page readable writable) version value shown);
}
  where
    page_is : page ≡ entry
    page_is = grind (arith, nat_tests, keeps)

    by : (version value : ℕ) → (slice_get list version ≡ Some value) ⊎ (value ≡ tce_of page readable writable) → value / 4096 ≡ entry
    by version value (inl before) = own.names version value before
    by version value (inr last) = ap (λ (v : ℕ). v / 4096) last ∙ page_of page readable writable ∙ page_is

put_at : (entry page e : ℕ) (readable writable : Bool) (old new : List ℕ) (b : Bool) → names_own (verbs.Tce entry page readable writable) ≡ true → (4096 * entry / 4096 == e) ≡ b
    → new ≡ old ++ cond b (tce_of page readable writable ∷ []) [] → IsOwnEntry e old → IsOwnEntry e new
put_at entry page e readable writable old new false keeps at is own = subst (IsOwnEntry e) (sym (is ∙ append-nil old)) own
put_at entry page e readable writable old new true keeps at is own =
    let same : entry ≡ e = grind (arith, nat_tests, at) in
    subst (IsOwnEntry e) (sym is)
    (subst (λ (n : ℕ). IsOwnEntry n (old ++ tce_of page readable writable ∷ [])) same
    (own_put entry page readable writable old keeps (subst (λ (n : ℕ). IsOwnEntry n old) (sym same) own)))

none_put : (at e : ℕ) (old new : PortState) → Puts old at [] new → IsOwnEntry e (old.values e) → IsOwnEntry e (new.values e)
none_put at e old new puts own = subst (IsOwnEntry e) (sym (puts.values e ∙ append-nil (old.values e))) own

entry_put : (entry page e : ℕ) (readable writable : Bool) (old new : PortState) (step : Step) → names_own (verbs.Tce entry page readable writable) ≡ true
    → AnswersPut old new entry (tce_of page readable writable) step → IsOwnEntry e (old.values e) → IsOwnEntry e (new.values e)
entry_put entry page e readable writable old new (steps.Ends (outcomes.Code codes.Success)) keeps answer own =
    put_at entry page e readable writable (old.values e) (new.values e) (4096 * entry / 4096 == e) keeps refl (answer.1.values e) own
entry_put entry page e readable writable old new (steps.Ends (outcomes.Code codes.Parameter)) keeps answer own = none_put (4096 * entry) e old new answer.1 own
entry_put entry page e readable writable old new (steps.Ends (outcomes.Code code)) keeps answer own = absurd answer
entry_put entry page e readable writable old new (steps.Ends outcome) keeps answer own = absurd answer
entry_put entry page e readable writable old new (steps.Waits did) keeps answer own = none_put (4096 * entry) e old new answer.1 own

pub put_leaves : (entry page : ℕ) (readable writable : Bool) (old new : PortState) (result : Result Step NoMemory) → names_own (verbs.Tce entry page readable writable) ≡ true
    → new.place ≡ old.place → ((p : ℕ) → new.strokes p ≡ old.strokes p) → IfOk result (AnswersPut old new entry (tce_of page readable writable))
    → IfOk result (λ step. IsOwnWindow old → LeavesSpared (λ o. ⊤) old new)
put_leaves entry page readable writable old new (Err memory) keeps place same answers = tt
put_leaves entry page readable writable old new (Ok step) keeps place same answer = λ own. record {
  slots = still_leaves old new
      (entries_own old new own place same (λ e. entry_put entry page e readable writable old new step keeps answer (own.values e))) place same;
  tables = λ ask spares its. data_same old new same ask tt its;
}

-- ---- the tables of what is outstanding

meets_either : (a b : Span) → meets a b ≡ meets b a
meets_either a b = by (nat_lt a.first b.end) (nat_lt b.first a.end)
  where
    by : (x y : Bool) → (x && y) ≡ (y && x)
    by true true = refl
    by true false = refl
    by false true = refl
    by false false = refl

table_off : (at len : ℕ) (o : Outgoing) (asked : Replayed) → IsReplayedAs o asked → any_share (range at len ∷ []) (drop 1 asked.ranges) ≡ false → OffTable at len o
table_off at len o asked is none =
    is.table (span_of at len)
    ∙ any_same (λ one. meets (span_of one.at one.len) (span_of at len)) (share_page (range at len)) (λ one. meets_either (span_of one.at one.len) (span_of at len)) (drop 1 asked.ranges)
    ∙ sym (or_false (list_any (share_page (range at len)) (drop 1 asked.ranges))) ∙ none

tables_off : (at len : ℕ) (outgoing : List Outgoing) (outstanding : List Replayed) → AreReplayedAs outgoing outstanding
    → All (λ (asked : Replayed). any_share (range at len ∷ []) (drop 1 asked.ranges) ≡ false) outstanding → All (OffTable at len) outgoing
tables_off at len [] [] are all = All-nil (OffTable at len)
tables_off at len [] (asked ∷ outstanding) are all = absurd are
tables_off at len (o ∷ outgoing) [] are all = absurd are
tables_off at len (o ∷ outgoing) (asked ∷ outstanding) are all =
    All-cons (OffTable at len) o outgoing
    (table_off at len o asked are.0 (All-head (λ (one : Replayed). any_share (range at len ∷ []) (drop 1 one.ranges) ≡ false) asked outstanding all))
    (tables_off at len outgoing outstanding are.1 (All-tail (λ (one : Replayed). any_share (range at len ∷ []) (drop 1 one.ranges) ≡ false) asked outstanding all))

awaited_off : (at len granted : ℕ) (now : Replay) (between : Between) → All (λ (asked : Replayed). any_share (range at len ∷ []) (drop 1 asked.ranges) ≡ false) now.outstanding
    → FollowsReplay granted now between → All (OffTable at len) (awaited between.client)
awaited_off at len granted now between all follows =
    awaited_spared between.client (span_of at len) (tables_off at len between.client.outgoing now.outstanding follows.credits.outstanding all)

-- ---- each of these lines

pub data_plainly : (own_shared : Bool) (tag : ℕ) (p : Progress) (old new : Own) (result : Result Step NoMemory) → own_shared ≡ false → IsPlain result → new.client ≡ old.client → new.answers ≡ old.answers → new.end ≡ old.end
    → OnlyReads own_shared old.window new.window → StepsPlainly (verbs.Data tag) p p old new result
data_plainly own_shared tag p old new result alone grants_none client noted end reads = λ plain.
    untold_on (λ o. ⊤) (verbs.Data tag) p p old new result (data_untold tag) grants_none client noted end (λ granted now at same spares follows. all_true (awaited at.client))
    (read_leaves own_shared old.window new.window result alone reads)

pub data_steps : (own_shared : Bool) (tag : ℕ) (p : Progress) (old new : Own) (step : Step) → own_shared ≡ false → IsPlainStep step → new.client ≡ old.client → new.answers ≡ old.answers → new.end ≡ old.end
    → OnlyReads own_shared old.window new.window → StepsPlainly (verbs.Data tag) p p old new (Ok step)
data_steps own_shared tag p old new step = data_plainly own_shared tag p old new (Ok step)

pub peek_plainly : (own_shared : Bool) (at len : ℕ) (p : Progress) (old new : Own) (result : Result Step NoMemory) → own_shared ≡ false → IsPlain result → new.client ≡ old.client
    → new.answers ≡ old.answers → new.end ≡ old.end → OnlyReads own_shared old.window new.window → StepsPlainly (verbs.Peek at len) p p old new result
peek_plainly own_shared at len p old new result alone grants_none client noted end reads = λ plain.
    untold_on (λ o. ⊤) (verbs.Peek at len) p p old new result (peek_untold at len) grants_none client noted end (λ granted now between same spares follows. all_true (awaited between.client))
    (read_leaves own_shared old.window new.window result alone reads)

pub poke_plainly : (own_shared : Bool) (at line : ℕ) (bytes : List ℕ) (p : Progress) (old new : Own) (result : Result Step NoMemory) → own_shared ≡ false → IsPlain result
    → new.client ≡ old.client → new.answers ≡ old.answers → new.end ≡ old.end → OnlyWrites old.window new.window → LaysJust own_shared old.window new.window line (Some (record { at = at; bytes = bytes })) result
    → IfOk result (AnswersWrite own_shared old.window new.window at bytes line) → StepsPlainly (verbs.Poke at bytes) p p old new result
poke_plainly own_shared at line bytes p old new result alone grants_none client noted end only lays answers = λ plain.
    untold_on (OffTable at (length bytes)) (verbs.Poke at bytes) p p old new result (poke_untold at bytes) grants_none client noted end
    (λ granted now between same spares follows. awaited_off at (length bytes) granted now between spares follows)
    (write_leaves own_shared old.window new.window at line bytes result alone plain.behind only lays answers)

pub fill_plainly : (own_shared : Bool) (at len seed line : ℕ) (p : Progress) (old new : Own) (result : Result Step NoMemory) → own_shared ≡ false → IsPlain result
    → new.client ≡ old.client → new.answers ≡ old.answers → new.end ≡ old.end → OnlyWrites old.window new.window
    → LaysJust own_shared old.window new.window line (Some (record { at = at; bytes = filling seed len })) result
    → IfOk result (AnswersWrite own_shared old.window new.window at (filling seed len) line) → StepsPlainly (verbs.Fill at len seed) p p old new result
fill_plainly own_shared at len seed line p old new result alone grants_none client noted end only lays answers = λ plain.
    untold_on (OffTable at (length (filling seed len))) (verbs.Fill at len seed) p p old new result (fill_untold at len seed) grants_none client noted end
    (λ granted now between same spares follows.
    subst (λ (n : ℕ). All (OffTable at n) (awaited between.client)) (sym (filled_long seed len)) (awaited_off at len granted now between spares follows))
    (write_leaves own_shared old.window new.window at line (filling seed len) result alone plain.behind only lays answers)

pub tce_plainly : (own_shared : Bool) (entry page : ℕ) (readable writable : Bool) (p : Progress) (old new : Own) (result : Result Step NoMemory) → own_shared ≡ false → IsPlain result
    → new.client ≡ old.client → new.answers ≡ old.answers → new.end ≡ old.end → new.window.place ≡ old.window.place → LaysNoStroke own_shared old.window new.window
    → IfOk result (AnswersPut old.window new.window entry (tce_of page readable writable)) → StepsPlainly (verbs.Tce entry page readable writable) p p old new result
tce_plainly own_shared entry page readable writable p old new result alone grants_none client noted end place none answers = λ plain.
    untold_on (λ o. ⊤) (verbs.Tce entry page readable writable) p p old new result (tce_untold entry page readable writable) grants_none client noted end
    (λ granted now at same spares follows. all_true (awaited at.client))
    (put_leaves entry page readable writable old.window new.window result plain.own_entry place (none alone) answers)

-- ---- a step of a line with such a verb

pub steps_as : (verb kind : Verb) (p p' : Progress) (old new : Own) (result : Result Step NoMemory) → verb ≡ kind → StepsPlainly kind p p' old new result
    → StepsPlainly verb p p' old new result
steps_as verb kind p p' old new result is steps = subst (λ (v : Verb). StepsPlainly v p p' old new result) (sym is) steps

-- a call that ran out of memory tells nothing
pub steps_err : (verb : Verb) (p p' : Progress) (old new : Own) (result : Result Step NoMemory) (memory : NoMemory) → result ≡ Err memory → StepsPlainly verb p p' old new result
steps_err verb p p' old new result memory is =
    subst (λ (r : Result Step NoMemory). StepsPlainly verb p p' old new r) (sym is) (λ plain granted unit server server' now spares stays talks come. tt)
