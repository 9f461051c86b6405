-- How a unit and its client come to begin anew: where its queue is registered again, where the client's is not, and what is then to be looked at.
use Rattle.std.proofs.Common.{◌≡◌, ◌≢◌, ◌∙◌, ◌⊎◌, inl, inr, ℕ, ◌++◌, ◌==◌, ◌||◌, All, Bool, true, false, true≢false, cond, List, [], ◌∷◌, Option, Some, None, append-nil, refl, sym, ap, subst}
use Rattle.std.specs.List.{list_any}
use Rattle.std.proofs.lemmas.List.Elements.{All-nil}
use Rattle.crq_ring.specs.declared.rows.PipeRow.{PipeRow}
use Rattle.crq_session.specs.EndState.{EndState}
use Rattle.crq_session.specs.Handshake.{state_by}
use Rattle.crq_session.specs.declared.handshake.Handshake.{Handshake}
use Rattle.crq_session.specs.declared.handshake.Handshake.TheVariants.{Down, Up, Waiting}
use Rattle.vio_num.specs.Entry.{initialize, is_srp_entry}
use Rattle.vio_num.specs.declared.entry.Entry.{Entry}
use Rattle.vio_num.specs.declared.entry.Kind.{Kind}
use Rattle.vio_num.specs.declared.entry.Kind.TheVariants.{Event, Init}
use Rattle.block_server.specs.Closings.{is_event}
use Rattle.block_server.specs.Doings.{Doing, rows_to}
use Rattle.block_server.specs.declared.line.Kept.{Kept}
use Rattle.block_server.specs.declared.line.Kept.TheVariants as keeps
use Rattle.vscsi_client.specs.State.{ClientState}
use Rattle.vscsi_client.specs.declared.stage.Stage.{Stage}
use Rattle.vscsi_client.specs.declared.stage.Stage.TheVariants.{Idle, Sent}
use Rattle.vcpu_run.specs.OwnOver.{AreShakes, HasEntry, IsAnew, IsFresh, IsIdle, IsLogging, IsNew, IsNews, IsShake, IsUnheard, KeepsShake, behind_gone, is_login_due, is_under_way, news_among, tells_gone}
use Rattle.vcpu_run.specs.PlainTalk.{Ask}
use Rattle.vcpu_run.proofs.OverKinds.{shake_no_srp}
use Rattle.vcpu_run.proofs.OverLists.{behind_other, gone_more, has_last, news_last, some_last}
use Rattle.vcpu_run.proofs.OverPhases.{StandsOver}

-- ---- the handshake

-- an entry that is heard neither frees the queue nor registers it
pub never_down : (h : Handshake) (kind : Kind) (format : ℕ) → h ≢ Down → state_by h kind format ≢ Down
never_down Down kind format up is = up refl
never_down Waiting Init format up is = by (format == 0x01 || format == 0x02) is
  where
    by : (b : Bool) → cond b Up Waiting ≡ Down → ⊥
    by true is = cc (is)
    by false is = cc (is)
never_down Waiting kind format up is = cc (is)
never_down Up Event format up is = cc (is)
never_down Up kind format up is = cc (is)

pub down_stays : (h : Handshake) (kind : Kind) (format : ℕ) → h ≡ Down → state_by h kind format ≡ Down
down_stays Down kind format is = refl
down_stays Waiting kind format is = absurd (cc (is))
down_stays Up kind format is = absurd (cc (is))

pub waits_up : (h : Handshake) → h ≡ Waiting → h ≢ Down
waits_up h is down = cc (is, down)

-- ---- rows

pub rows_more : (q : ℕ) (xs ys : List Entry) → rows_to q (xs ++ ys) ≡ rows_to q xs ++ rows_to q ys
rows_more q [] ys = refl
rows_more q (x ∷ xs) ys = ap (λ (rows : List PipeRow). record { session = q; entry = x } ∷ rows) (rows_more q xs ys)

pub rows_if : (b : Bool) (q : ℕ) (entries : List Entry) → cond b (rows_to q entries) [] ≡ rows_to q (cond b entries [])
rows_if true q entries = refl
rows_if false q entries = refl

-- What was put is news, and no answer.
abbrev pub IsPlainNews : Entry → Type 0
IsPlainNews entry = (is_srp_entry entry ≡ false) × IsNews entry

pub shake_news : (entry : Entry) → IsShake entry → IsPlainNews entry
shake_news entry is = (shake_no_srp entry is, inl is)

-- What a step leads to: these were put, and this is so behind it.
pub record LeadsOn (granted : ℕ) (failed : Bool) (d d' : Doing) (s : ClientState) (own : EndState) (stream : List Entry) (answered lost : List Ask) : Type 0 where
  pub more : List Entry
  pub put : d'.sent ≡ d.sent ++ rows_to d.to more
  pub news : All IsPlainNews more
  pub stands : StandsOver granted failed d' s own (stream ++ more) answered lost

-- nothing was put
pub leads_none : (granted : ℕ) (failed : Bool) (d d' : Doing) (s : ClientState) (own : EndState) (stream : List Entry) (answered lost : List Ask) → d'.sent ≡ d.sent
    → StandsOver granted failed d' s own stream answered lost → LeadsOn granted failed d d' s own stream answered lost
leads_none granted failed d d' s own stream answered lost same stands = record {
  more = [];
  put = same ∙ sym (append-nil d.sent);
  news = All-nil IsPlainNews;
  stands = subst (λ (list : List Entry). StandsOver granted failed d' s own list answered lost) (sym (append-nil stream)) stands;
}

-- ---- where the client's queue is not registered

pub not_both : (b : Bool) → b ≡ true → b ≡ false → ⊥
not_both b is isnt = true≢false (sym is ∙ isnt)

pub anew_away : (d : Doing) (s : ClientState) (own : EndState) (stream : List Entry) → own.registered ≡ false → IsIdle d → KeepsShake d.kept → AreShakes d.coming → IsAnew d s own stream
anew_away d s own stream away idle kept queue = record {
  idle = idle;
  kept = kept;
  queue = queue;
  unsent = λ there. absurd (not_both own.registered there away);
  first = λ there. absurd (not_both own.registered there away);
  stirs = λ there. absurd (not_both own.registered there away);
  logging = λ there. absurd (not_both own.registered there away);
}

-- ---- where it was registered since, and the client did nothing else

-- no login is under way, and none is due
fresh_none : (d : Doing) (s : ClientState) (stream other : List Entry) → IsFresh s stream → (list_any is_login_due s.due ≡ true) ⊎ (is_under_way s.login ≡ true) → IsLogging d s other
fresh_none d s stream other fresh (inl due) = absurd (not_both (list_any is_login_due s.due) due fresh.due)
fresh_none d s stream other fresh (inr on) = absurd (not_both (is_under_way s.login) on (ap is_under_way fresh.login))

fresh_unsent : (s : ClientState) (stream : List Entry) → IsFresh s stream → (tag slot : ℕ) → s.login ≢ Sent tag slot
fresh_unsent s stream fresh tag slot is = by s.login fresh.login is
  where
    by : (stage : Stage) → stage ≡ Idle → stage ≡ Sent tag slot → ⊥
    by stage idle is = cc (idle, is)

pub no_reply : (kept : Option Kept) (entry : Entry) → kept ≡ None → kept ≡ Some (keeps.Reply entry) → ⊥
no_reply kept entry none is = cc (none, is)

pub fresh_put : (d : Doing) (s : ClientState) (own : EndState) (stream : List Entry) → IsFresh s stream → IsIdle d → d.kept ≡ None → d.coming ≡ [] → IsAnew d s own (stream ++ initialize ∷ [])
fresh_put d s own stream fresh idle kept coming = record {
  idle = idle;
  kept = subst KeepsShake (sym kept) tt;
  queue = subst AreShakes (sym coming) (All-nil (λ (entry : Entry). IsShake entry ⊎ (is_event entry ≡ true)));
  unsent = λ there. fresh_unsent s stream fresh;
  first = λ there keeps'. absurd (no_reply d.kept initialize kept keeps');
  stirs = λ there waits. inl (λ none. some_last (news_among stream) initialize (sym (news_last stream initialize refl) ∙ none));
  logging = λ there logs. fresh_none d s stream (stream ++ initialize ∷ []) fresh logs;
}

pub fresh_keeps : (d : Doing) (s : ClientState) (own : EndState) (stream : List Entry) → IsFresh s stream → IsIdle d → d.kept ≡ Some (keeps.Reply initialize) → d.coming ≡ []
    → IsAnew d s own stream
fresh_keeps d s own stream fresh idle kept coming = record {
  idle = idle;
  kept = subst KeepsShake (sym kept) (inl refl);
  queue = subst AreShakes (sym coming) (All-nil (λ (entry : Entry). IsShake entry ⊎ (is_event entry ≡ true)));
  unsent = λ there. fresh_unsent s stream fresh;
  first = λ there keeps'. (fresh.handshake, fresh.none);
  stirs = λ there waits. inr (inl (λ none. no_reply d.kept initialize none kept));
  logging = λ there logs. fresh_none d s stream stream fresh logs;
}

-- ---- where it is yet to hear

pub unheard_put : (d : Doing) (own : EndState) (stream : List Entry) → IsNew d → own.registered ≡ true → tells_gone stream ≡ true → d.coming ≡ [] → d.kept ≡ None
    → IsUnheard d own (stream ++ initialize ∷ [])
unheard_put d own stream new there gone coming kept = record {
  new = new;
  registered = there;
  gone = gone_more stream initialize gone;
  queue = inl coming;
  begins = inl (subst (HasEntry initialize) (sym (behind_other stream initialize refl gone)) (has_last initialize (behind_gone stream)), kept);
}

pub unheard_keeps : (d : Doing) (own : EndState) (stream : List Entry) → IsNew d → own.registered ≡ true → tells_gone stream ≡ true → behind_gone stream ≡ [] → d.coming ≡ []
    → d.kept ≡ Some (keeps.Reply initialize) → IsUnheard d own stream
unheard_keeps d own stream new there gone behind coming kept = record {
  new = new;
  registered = there;
  gone = gone;
  queue = inl coming;
  begins = inr (behind, kept);
}
