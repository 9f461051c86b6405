-- A task or a logout of a client whose server unit's session is over, or was, while no login is under way: whatever comes of it, it stays so.
use Rattle.std.proofs.Common.{◌≡◌, ◌≢◌, ◌∙◌, inl, inr, ℕ, ◌<◌, ◌≤◌, Bool, IfSome, List, [], ◌∷◌, Option, Some, None, Result, Ok, Err, append-nil, length, refl, sym, ap, subst, arith}
use Rattle.srp_iu.specs.declared.unit.Iu.{Iu}
use Rattle.block_server.specs.Doings.{Doing}
use Rattle.vscsi_client.specs.Ports.{MakesRoom, Ports}
use Rattle.vscsi_client.specs.Sending.{LoggedOut, Tasked, WhyNotSent, logout_refusal, logout_refused_by, logout_unit, task_refusal, task_unit}
use Rattle.vscsi_client.specs.Spans.{no_pages}
use Rattle.vscsi_client.specs.State.{ClientState, next_tag}
use Rattle.vscsi_client.specs.declared.TheConstants.{SLOTS}
use Rattle.vscsi_client.specs.declared.answers.Refused.{Refused}
use Rattle.vscsi_client.specs.declared.answers.Refused.TheVariants.{NoMemory}
use Rattle.vscsi_client.specs.declared.outgoing.Outgoing.{Outgoing}
use Rattle.vcpu_run.specs.Acts.{Acting, LogsOutAs, RefusesLogout, RefusesTask, TasksAs}
use Rattle.vcpu_run.specs.PlainTalk.{Ask, IsAsk, IsOwnWindow, name_of}
use Rattle.vcpu_run.proofs.OwnActAnswers.{KeepsOver}
use Rattle.vcpu_run.proofs.OwnActAsking.{AskedOne, Asking, BeforeUnit, asks_nothing, asks_put, asks_unput, laid_alone}
use Rattle.vcpu_run.proofs.PlainSent.{lends, slot_free}
use Rattle.vcpu_run.proofs.PlainSlots.{keeps_same}
use Rattle.vcpu_run.proofs.PlainUnits.{canon_some}
use Rattle.vcpu_run.proofs.OwnActCommands.{Grows, grows_asked, keeps_client, rows_more}

-- ---- what was not sent

-- room was made, and nothing written
put_before : (granted : ℕ) (failed : Bool) (d : Doing) (s : ClientState) (old before new : Ports) → Asking granted failed d s old new → MakesRoom old before → BeforeUnit old before
put_before granted failed d s old before new at room = record {
  crq_alone = room.crq_shared ∙ at.sends.seen.alone;
  own_alone = room.own_shared ∙ at.sends.seen.apart;
  room = room.crq;
  left = record { own = subst IsOwnWindow (sym room.own) at.sends.seen.usable; keeps = keeps_same old.own before.own room.own };
}

unsent_over : (granted : ℕ) (failed : Bool) (line : ℕ) (iu : Iu) (n : ℕ) (d : Doing) (s : ClientState) (old new : Ports) (why : Refused) → Asking granted failed d s old new → why ≢ NoMemory
    → s.granted ≡ Some n → WhyNotSent line s iu old new why → KeepsOver granted failed d s old new
unsent_over granted failed line iu n d s old new why at memory some (inl none) = absurd (memory none.0)
unsent_over granted failed line iu n d s old new why at memory some (inr sub) =
    asks_unput granted failed d s old sub.before new line sub.why_not.0 n sub.why_not.1 why at some sub.why_not.2.1 room (omega (arith, (slot_free s sub.why_not.0 at.idle sub.why_not.2.1).0))
    (canon_some sub.why_not.1 iu sub.why_not.2.0) sub.why_not.2.0.within (laid_alone line sub.why_not.0 sub.why_not.1 sub.before new why room.left.own room.own_alone memory sub.why_not.3)
  where
    room : BeforeUnit old sub.before
    room = put_before granted failed d s old sub.before new at sub.ready

-- ---- a task

tasked_over : (granted : ℕ) (failed : Bool) (line function task : ℕ) (d : Doing) (s s' : ClientState) (old new : Ports) (tag : ℕ) → Asking granted failed d s old new
    → Tasked line function task s s' old new tag → KeepsOver granted failed d s' old new
tasked_over granted failed line function task d s s' old new tag at sub =
    asks_put granted failed d s s' old sub.put.before new line ask at (grows_asked granted failed d s s' old new ask at lent is_ask refl refl grows) sub.put.put.1.1
    (put_before granted failed d s old sub.put.before new at sub.put.ready) is_ask.slot_is (canon_some sub.put.put.0 (task_unit function task s) sub.put.put.1.0) sub.put.put.1.0.within sub.put.put.2
  where
    lent : (n : ℕ) × (s.granted ≡ Some n) × (length s.outgoing < n)
    lent = lends s.granted (length s.outgoing) None sub.allowed

    ask : Ask
    ask = record { tag = next_tag s; slot = sub.slot; iu = task_unit function task s; bytes = sub.put.put.0; pages = no_pages; table = no_pages; start = 0 }

    below : sub.slot < SLOTS
    below = (slot_free s sub.slot at.idle sub.put.put.1.1).0

    is_ask : IsAsk ask
    is_ask = record {
      kind = inr (inr refl);
      tag_is = refl;
      slot_is = omega (arith, below);
      below = λ isnt. below;
      canonical = sub.put.put.1.0;
      fair = tt;
    }

    grows : Grows s s' (name_of ask)
    grows = record {
      rows = rows_more s.rows _ s'.rows (ap (λ (s : ClientState). s.rows) sub.client);
      outgoing = ap (λ (s : ClientState). s.outgoing) sub.client;
      login = ap (λ (s : ClientState). s.login) sub.client;
      logout = ap (λ (s : ClientState). s.logout) sub.client;
      granted = ap (λ (s : ClientState). s.granted) sub.client;
      handshake = ap (λ (s : ClientState). s.handshake) sub.client;
      due = ap (λ (s : ClientState). s.due) sub.client;
      kept = ap (λ (s : ClientState). s.kept) sub.client;
      held = ap (λ (s : ClientState). s.held) sub.client;
      tabled = ap (λ (s : ClientState). s.tabled) sub.client ∙ at.over.tabled;
    }

pub tasks_over : (granted : ℕ) (failed : Bool) (line function task : ℕ) (d : Doing) (old new : Acting) (answer : Result ℕ Refused) → Asking granted failed d old.client old.ports new.ports
    → answer ≢ Err NoMemory → TasksAs line function task old new answer → KeepsOver granted failed d new.client old.ports new.ports
tasks_over granted failed line function task d old new (Ok tag) at memory sub = tasked_over granted failed line function task d old.client new.client old.ports new.ports tag at sub
tasks_over granted failed line function task d old new (Err why) at memory (refused, same) =
    keeps_client granted failed d old.client new.client old.ports new.ports same (by refused)
  where
    lent : task_refusal old.client ≡ None → (n : ℕ) × (old.client.granted ≡ Some n) × (length old.client.outgoing < n)
    lent allowed = lends old.client.granted (length old.client.outgoing) None allowed

    by : RefusesTask line function task old new why → KeepsOver granted failed d old.client old.ports new.ports
    by (inl (refused, none)) = asks_nothing granted failed d old.client old.ports new.ports at none
    by (inr (allowed, unsent)) =
        unsent_over granted failed line (task_unit function task old.client) (lent allowed).0 d old.client old.ports new.ports why at (λ is. memory (ap (λ (x : Refused). Err x) is)) (lent allowed).1 unsent

-- ---- a logout

lent_out : (known : Option ℕ) (outgoing : List Outgoing) → logout_refused_by known outgoing ≡ None → ((n : ℕ) × (known ≡ Some n)) × (outgoing ≡ [])
lent_out None outgoing allowed = absurd (cc (allowed))
lent_out (Some n) [] allowed = ((n, refl), refl)
lent_out (Some n) (o ∷ outgoing) allowed = absurd (cc (allowed))

-- no other one is awaited
none_out : (known slot : Option ℕ) (n own : ℕ) → known ≡ Some n → IfSome known (λ _. slot ≡ None) → slot ≡ Some own → ⊥
none_out None slot n own some off is = absurd (cc (some))
none_out (Some m) slot n own some off is = absurd (cc (off, is))

logged_out_over : (granted : ℕ) (failed : Bool) (line : ℕ) (d : Doing) (s s' : ClientState) (old new : Ports) (tag : ℕ) → Asking granted failed d s old new
    → LoggedOut line s s' old new tag → KeepsOver granted failed d s' old new
logged_out_over granted failed line d s s' old new tag at sub =
    asks_put granted failed d s s' old sub.put.before new line ask at asked sub.put.put.1.1
    (put_before granted failed d s old sub.put.before new at sub.put.ready) is_ask.slot_is (canon_some sub.put.put.0 (logout_unit s) sub.put.put.1.0) sub.put.put.1.0.within sub.put.put.2
  where
    lent : ((n : ℕ) × (s.granted ≡ Some n)) × (s.outgoing ≡ [])
    lent = lent_out s.granted s.outgoing sub.allowed

    ask : Ask
    ask = record { tag = next_tag s; slot = sub.slot; iu = logout_unit s; bytes = sub.put.put.0; pages = no_pages; table = no_pages; start = 0 }

    below : sub.slot < SLOTS
    below = (slot_free s sub.slot at.idle sub.put.put.1.1).0

    is_ask : IsAsk ask
    is_ask = record {
      kind = inr (inl refl);
      tag_is = refl;
      slot_is = omega (arith, below);
      below = λ isnt. below;
      canonical = sub.put.put.1.0;
      fair = tt;
    }

    outgoing : s'.outgoing ≡ s.outgoing
    outgoing = ap (λ (s : ClientState). s.outgoing) sub.client

    off : s'.granted ≡ None
    off = ap (λ (s : ClientState). s.granted) sub.client

    asked : AskedOne granted s s' ask
    asked = record {
      more = record {
        is_ask = is_ask;
        plain = refl;
        next = refl;
        rows = rows_more s.rows _ s'.rows (ap (λ (s : ClientState). s.rows) sub.client);
        login = ap (λ (s : ClientState). s.login) sub.client;
        names = outgoing ∙ sym (append-nil s.outgoing);
        before = λ one was out. absurd (none_out s.granted s.logout lent.0.0 one.slot lent.0.1 at.settled.logout (was out));
        logout = λ out. ap (λ (s : ClientState). s.logout) sub.client;
        none = λ is. outgoing ∙ lent.1;
        within = subst (λ (list : List Outgoing). length list ≤ 200) (sym (outgoing ∙ lent.1)) (omega arith);
        credits = inl off;
      };
      known = lent.0;
      handshake = ap (λ (s : ClientState). s.handshake) sub.client;
      due = ap (λ (s : ClientState). s.due) sub.client;
      kept = ap (λ (s : ClientState). s.kept) sub.client;
      held = ap (λ (s : ClientState). s.held) sub.client;
      tabled = ap (λ (s : ClientState). s.tabled) sub.client ∙ at.over.tabled;
      logout = subst (λ (known : Option ℕ). IfSome known (λ _. s'.logout ≡ None)) (sym off) tt;
    }

pub logs_out_over : (granted : ℕ) (failed : Bool) (line : ℕ) (d : Doing) (old new : Acting) (answer : Result ℕ Refused) → Asking granted failed d old.client old.ports new.ports
    → answer ≢ Err NoMemory → LogsOutAs line old new answer → KeepsOver granted failed d new.client old.ports new.ports
logs_out_over granted failed line d old new (Ok tag) at memory sub = logged_out_over granted failed line d old.client new.client old.ports new.ports tag at sub
logs_out_over granted failed line d old new (Err why) at memory (refused, same) =
    keeps_client granted failed d old.client new.client old.ports new.ports same (by refused)
  where
    lent : logout_refusal old.client ≡ None → ((n : ℕ) × (old.client.granted ≡ Some n)) × (old.client.outgoing ≡ [])
    lent allowed = lent_out old.client.granted old.client.outgoing allowed

    by : RefusesLogout line old new why → KeepsOver granted failed d old.client old.ports new.ports
    by (inl (refused, none)) = asks_nothing granted failed d old.client old.ports new.ports at none
    by (inr (allowed, unsent)) =
        unsent_over granted failed line (logout_unit old.client) (lent allowed).0.0 d old.client old.ports new.ports why at (λ is. memory (ap (λ (x : Refused). Err x) is)) (lent allowed).0.1 unsent
