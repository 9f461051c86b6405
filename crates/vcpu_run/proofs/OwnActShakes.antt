-- A client looks at an entry of the initialisation, whose server unit's session is over, or was, while no login is under way: its handshake is up.
use Rattle.std.proofs.Common.{◌≡◌, ◌≢◌, ◌∙◌, ◌⊎◌, inl, inr, ℕ, ◌++◌, ◌||◌, All, Bool, true, true≢false, List, [], ◌∷◌, append-nil, refl, sym, ap, subst}
use Rattle.std.specs.List.{list_any}
use Rattle.std.proofs.lemmas.List.Elements.{All-head, All-tail}
use Rattle.vio_num.specs.Entry.{initialization_complete}
use Rattle.vio_num.specs.declared.entry.Entry.{Entry}
use Rattle.crq_session.specs.EndState.{EndState}
use Rattle.crq_session.specs.Handshake.{state_after, step_after}
use Rattle.crq_session.specs.declared.handshake.Handshake.{Handshake}
use Rattle.crq_session.specs.declared.handshake.Handshake.TheVariants.{Down, Up, Waiting}
use Rattle.crq_session.specs.declared.handshake.Step.{Step}
use Rattle.crq_session.specs.declared.handshake.Step.TheVariants.{Nothing, SendComplete, SendInitialize}
use Rattle.block_server.specs.Doings.{Doing}
use Rattle.vscsi_client.specs.Ports.{Ports}
use Rattle.vscsi_client.specs.State.{ClientState}
use Rattle.vscsi_client.specs.Taking.{due_by}
use Rattle.vscsi_client.specs.declared.stage.Due.{Due}
use Rattle.vscsi_client.specs.declared.stage.Stage.TheVariants.{Idle}
use Rattle.vcpu_run.specs.OwnActs.{left_at}
use Rattle.vcpu_run.specs.OwnOver.{AreShakes, IsAnew, IsAware, IsLogging, IsShake, Joins, is_login_due, is_under_way, news_among}
use Rattle.vcpu_run.specs.PlainTalk.{Ask}
use Rattle.vcpu_run.proofs.OwnActLeft.{IsPhase, idle_left, stale_left}
use Rattle.vcpu_run.proofs.OwnActPast.{no_joins, shut_past, unheard_past}
use Rattle.vcpu_run.proofs.OwnStreams.{gone_other, news_other, shake_no_event, shake_no_srp}

-- ---- what the client is then

pub shaken_up : (state : Handshake) (entry : Entry) → IsShake entry → state ≢ Down → state_after state entry ≡ Up
shaken_up Down entry shake up = absurd (up refl)
shaken_up Waiting entry (inl is) up = ap (state_after Waiting) is
shaken_up Waiting entry (inr is) up = ap (state_after Waiting) is
shaken_up Up entry (inl is) up = ap (state_after Up) is
shaken_up Up entry (inr is) up = ap (state_after Up) is

-- no login becomes due
pub due_shaken : (due : List Due) (step : Step) → list_any is_login_due (due ++ due_by step) ≡ list_any is_login_due due
due_shaken [] Nothing = refl
due_shaken [] SendInitialize = refl
due_shaken [] SendComplete = refl
due_shaken (first ∷ due) step = ap (λ b. is_login_due first || b) (due_shaken due step)

-- nothing does for what tells that the unit heard of the client
pub none_due : (state : Handshake) (entry : Entry) → entry ≡ initialization_complete → due_by (step_after state entry) ≡ []
none_due Down entry is = ap (λ (e : Entry). due_by (step_after Down e)) is
none_due Waiting entry is = ap (λ (e : Entry). due_by (step_after Waiting e)) is
none_due Up entry is = ap (λ (e : Entry). due_by (step_after Up e)) is

-- What is so of the client once it looked at the entry.
pub record IsShaken (s s' : ClientState) (entry : Entry) : Type 0 where
  pub handshake : s'.handshake ≡ Up
  pub due : s'.due ≡ s.due ++ due_by (step_after s.handshake entry)
  pub login : s'.login ≡ s.login
  pub aware : IsAware s → IsAware s'

-- ---- where both stand then

shaken_logs : (d : Doing) (s s' : ClientState) (new : Ports) (entry : Entry) (rest : List Entry) → IsShake entry → IsShaken s s' entry → IsLogging d s (entry ∷ rest)
    → IsLogging (left_at d new []) s' rest
shaken_logs d s s' new entry rest shake is logs = record {
  up = is.handshake;
  complete = All-tail (λ (e : Entry). e ≡ initialization_complete) entry (news_among rest) news;
  entry = logs.entry;
  last = λ front others from. logs.last front others (sym due ∙ from);
}
  where
    news : All (λ (e : Entry). e ≡ initialization_complete) (entry ∷ news_among rest)
    news = subst (All (λ (e : Entry). e ≡ initialization_complete)) (news_other entry rest (shake_no_srp entry shake)) logs.complete

    due : s'.due ≡ s.due
    due = is.due ∙ ap (λ (due : List Due). s.due ++ due) (none_due s.handshake entry (All-head (λ (e : Entry). e ≡ initialization_complete) entry (news_among rest) news))
        ∙ append-nil s.due

shaken_anew : (d : Doing) (s s' : ClientState) (own : EndState) (new : Ports) (entry : Entry) (rest : List Entry) → s.login ≡ Idle → IsShake entry → own.registered ≡ true
    → IsShaken s s' entry → IsAnew d s own (entry ∷ rest) → IsAnew (left_at d new []) s' new.crq rest
shaken_anew d s s' own new entry rest idle shake on is anew = record {
  idle = idle_left d new [] anew.idle;
  kept = anew.kept;
  queue = subst AreShakes (sym (append-nil d.coming)) anew.queue;
  unsent = λ there tag slot sent. anew.unsent on tag slot (sym is.login ∙ sent);
  first = λ there kept. absurd (no_items (anew.first on kept).1);
  stirs = λ there waits. absurd (apart (sym is.handshake ∙ waits));
  logging = λ there logs. shaken_logs d s s' new entry rest shake is (anew.logging on (by logs));
}
  where
    no_items : entry ∷ rest ≡ [] → ⊥
    no_items e = cc (e)

    apart : Up ≡ Waiting → ⊥
    apart e = cc (e)

    by : (list_any is_login_due s'.due ≡ true) ⊎ (is_under_way s'.login ≡ true) → (list_any is_login_due s.due ≡ true) ⊎ (is_under_way s.login ≡ true)
    by (inl due) = inl (sym (ap (list_any is_login_due) is.due ∙ due_shaken s.due (step_after s.handshake entry)) ∙ due)
    by (inr way) = absurd (true≢false (sym way ∙ ap is_under_way (is.login ∙ idle)))

pub shaken_phase : (granted : ℕ) (failed : Bool) (d : Doing) (s s' : ClientState) (own : EndState) (new : Ports) (entry : Entry) (rest : List Entry) (answered lost : List Ask) → s.login ≡ Idle
    → IsShake entry → own.registered ≡ true → new.crq.registered ≡ own.registered → IsShaken s s' entry → IsPhase granted failed d s own (entry ∷ rest) answered lost
    → IsPhase granted failed (left_at d new []) s' new.crq rest answered lost
shaken_phase granted failed d s s' own new entry rest answered lost idle shake on same is (inl shut) =
    inl (shut_past d s s' own new entry rest [] (shake_no_event entry shake) same shut)
shaken_phase granted failed d s s' own new entry rest answered lost idle shake on same is (inr (inl stale)) = inr (inl (stale_left d new [] stale))
shaken_phase granted failed d s s' own new entry rest answered lost idle shake on same is (inr (inr (inl un))) =
    inr (inr (inl (unheard_past d own new entry rest (shake_no_event entry shake) same un)))
shaken_phase granted failed d s s' own new entry rest answered lost idle shake on same is (inr (inr (inr joins))) = inr (inr (inr (record {
  going = joins.going;
  event = joins.event;
  open_is = joins.open_is;
  none_gone = λ there. sym (gone_other entry rest (shake_no_event entry shake)) ∙ joins.none_gone on;
  aware = λ there. is.aware (joins.aware on);
  there = inl (same ∙ on);
  how = by joins.how;
})))
  where
    by : IsAnew d s own (entry ∷ rest) ⊎ Joins granted d s own (entry ∷ rest) answered lost
        → IsAnew (left_at d new []) s' new.crq rest ⊎ Joins granted (left_at d new []) s' new.crq rest answered lost
    by (inl anew) = inl (shaken_anew d s s' own new entry rest idle shake on is anew)
    by (inr asks') = absurd (no_joins granted d s own (entry ∷ rest) answered lost idle asks')
