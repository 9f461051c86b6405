-- Where a turn of a plain client's login ends: what is so of the two in its midst is so of them then, and what is left to do.
use Rattle.std.proofs.Common.{◌≡◌, ◌≢◌, ◌∙◌, inr, ℕ, ◌+◌, ◌==◌, ◌++◌, All, Bool, true, false, true≢false, cond, List, [], ◌∷◌, Some, None, append-nil, arith, refl, sym, ap, ap₂, subst}
use Rattle.std.specs.Prelude.{⊤}
use Rattle.std.proofs.lemmas.Bool.Decides.{nat_tests}
use Rattle.std.proofs.lemmas.List.Elements.{All-cons, All-head, All-nil, All-tail}
use Rattle.vio_num.specs.declared.entry.Entry.{Entry}
use Rattle.crq_session.specs.EndState.{EndState}
use Rattle.srp_iu.specs.declared.unit.Iu.{Iu}
use Rattle.tce_window.specs.PortState.{PortState}
use Rattle.block_server.specs.Talk.{to_come}
use Rattle.block_server.specs.declared.request.Request.{Request}
use Rattle.vscsi_client.specs.Login.{login_slot}
use Rattle.vscsi_client.specs.Turned.{Site}
use Rattle.vscsi_client.specs.declared.outgoing.Outgoing.{Outgoing}
use Rattle.vscsi_client.specs.declared.stage.Stage.{Stage}
use Rattle.vscsi_client.specs.declared.stage.Stage.TheVariants.{Idle, Sent, Written}
use Rattle.vcpu_run.specs.PlainSteps.{KeptApart}
use Rattle.vcpu_run.specs.PlainTalk.{AreInOrder, ArePending, Ask, AskedParts, Between, HaveAnswers, IsCalm, IsTalking, ServerStays, TagsRise, TalksPlainly, all_asked, awaited, has_login, is_login, is_sent, login_name}
use Rattle.vcpu_run.proofs.PlainAsks.{none_coming}
use Rattle.vcpu_run.proofs.PlainData.{data_kept}
use Rattle.vcpu_run.proofs.PlainLists.{last_login}
use Rattle.vcpu_run.proofs.PlainMids.{mid_at}
use Rattle.vcpu_run.proofs.PlainSlots.{keeps_same}
use Rattle.vcpu_run.proofs.PlainStill.{all_true, plainly_still}
use Rattle.vcpu_run.proofs.PlainTells.{IsLastAsked, login_named}

-- the two at the end of the turn, at this site
abbrev pub end_at : Between → Site → EndState → Between
end_at at b server = record { unit = at.unit; server = server; client = b.client; own = b.at.crq; window = b.at.own }

-- what the server unit's end keeps over the turn it keeps from its midst on
pub mid_end : (at : Between) (b : Site) (server : EndState) → ServerStays at (end_at at b server) → ServerStays (mid_at at b) (end_at at b server)
mid_end at b server stays = record {
  unit = stays.unit;
  session = stays.session;
  registered = stays.registered;
  kept = stays.kept;
  taken = stays.taken;
  slots = stays.slots;
  ends = stays.ends;
}

-- they talk then
pub talks_end : (granted : ℕ) (at : Between) (b : Site) (server : EndState) (asked : AskedParts) (answers : List Iu) → ServerStays at (end_at at b server) → IsCalm granted (mid_at at b) []
    → IsTalking granted (mid_at at b) [] asked answers → b.client.tabled ≡ None → TalksPlainly granted (end_at at b server) []
talks_end granted at b server asked answers stays calm talk tabled =
    plainly_still (λ o. ⊤) granted (mid_at at b) (end_at at b server) (record { calm = calm; phase = inr (inr (asked, answers, talk)); tabled = tabled })
    (record {
      server = mid_end at b server stays;
      client = refl;
      sent = refl;
      registered = refl;
      kept = refl;
      come = refl;
      slots = refl;
      window = record { own = calm.usable; keeps = keeps_same b.at.own b.at.own refl };
      spares = all_true (awaited b.client);
      tables = data_kept b.at.own b.at.own refl;
    })

-- ---- the login's answer is not kept

-- a login that was asked, and what stands about it
record Parts (asked : List Ask) : Type 0 where
  front : List Ask
  ask : Ask
  behind : List Ask
  are : asked ≡ front ++ ask ∷ behind
  login : is_login ask.iu ≡ true

find_login : (asked : List Ask) → has_login asked ≡ true → Parts asked
find_login [] has = absurd (true≢false (sym has))
find_login (ask ∷ asked) has = by (is_login ask.iu) refl (λ more. find_login asked more) has
  where
    by : (b : Bool) → is_login ask.iu ≡ b → (has_login asked ≡ true → Parts asked) → cond b true (has_login asked) ≡ true → Parts (ask ∷ asked)
    by true is rest has = record { front = []; ask = ask; behind = asked; are = refl; login = is }
    by false is rest has =
        let parts = rest has in
        record { front = ask ∷ parts.front; ask = parts.ask; behind = parts.behind; are = ap (λ (list : List Ask). ask ∷ list) parts.are; login = parts.login }

-- an entry that is kept tells of its answer
kept_login : (window : PortState) (kept : List Entry) (front : List Ask) (ask : Ask) (behind : List Ask) (answers : List Iu) (stage : Stage)
    → HaveAnswers window kept (front ++ ask ∷ behind) answers → All (λ (entry : Entry). login_slot entry.low stage ≡ None) kept → login_slot ask.tag stage ≡ None
kept_login window [] [] ask behind answers stage have apart = absurd have
kept_login window [] (first ∷ front) ask behind answers stage have apart = absurd have
kept_login window (entry ∷ kept) [] ask behind [] stage have apart = absurd have
kept_login window (entry ∷ kept) (first ∷ front) ask behind [] stage have apart = absurd have
kept_login window (entry ∷ kept) [] ask behind (answer ∷ answers) stage have apart =
    ap (λ (e : Entry). login_slot e.low stage) (sym have.0.entry_is) ∙ All-head (λ (entry : Entry). login_slot entry.low stage ≡ None) entry kept apart
kept_login window (entry ∷ kept) (first ∷ front) ask behind (answer ∷ answers) stage have apart =
    kept_login window kept front ask behind answers stage have.1 (All-tail (λ (entry : Entry). login_slot entry.low stage ≡ None) entry kept apart)

pending_none : (requests : List Request) (asked : List Ask) → ArePending requests asked → requests ≡ [] → asked ≡ []
pending_none [] [] are none = refl
pending_none [] (ask ∷ asked) are none = absurd are
pending_none (request ∷ requests) asked are none = absurd (cc (none))

same_slot : (tag slot : ℕ) → login_slot tag (Sent tag slot) ≡ Some slot
same_slot tag slot = ap (λ b. cond b (Some slot) None) same
  where
    same : (tag == tag) ≡ true
    same = grind (arith, nat_tests)

-- so the server unit has the login to serve, where nothing is to come
pub has_pending : (granted : ℕ) (at : Between) (asked : AskedParts) (answers : List Iu) → IsTalking granted at [] asked answers → to_come at.own ≡ [] → is_sent at.client.login ≡ true
    → KeptApart at.client → at.unit.pending.items ≢ []
has_pending granted at asked answers talk none sent apart empty = by at.client.login refl sent
  where
    pending : asked.pending ≡ []
    pending = pending_none at.unit.pending.items asked.pending talk.pending empty

    all_is : all_asked asked ≡ asked.answered
    all_is = ap₂ (λ (pending coming : List Ask). asked.answered ++ (pending ++ coming)) pending (none_coming [] asked.coming refl talk.coming) ∙ append-nil asked.answered

    parts : Parts asked.answered
    parts = find_login asked.answered (sym (ap has_login all_is) ∙ talk.sent ∙ sent)

    are : all_asked asked ≡ parts.front ++ parts.ask ∷ parts.behind
    are = all_is ∙ parts.are

    behind : parts.behind ≡ []
    behind = last_login parts.front parts.ask parts.behind (subst AreInOrder are talk.order) parts.login

    last : IsLastAsked (all_asked asked)
    last = record {
      front = parts.front;
      login = parts.ask;
      is = are ∙ ap (λ (list : List Ask). parts.front ++ parts.ask ∷ list) behind;
      is_login = parts.login;
    }

    have : HaveAnswers at.window at.client.kept (parts.front ++ parts.ask ∷ parts.behind) answers
    have = subst (λ (list : List Ask). HaveAnswers at.window at.client.kept list answers) parts.are
        (subst (λ (list : List Entry). HaveAnswers at.window list asked.answered answers)
        (ap (λ (list : List Entry). at.client.kept ++ list) none ∙ append-nil at.client.kept) talk.answered)

    by : (stage : Stage) → at.client.login ≡ stage → is_sent stage ≡ true → ⊥
    by Idle e sent = true≢false (sym sent)
    by (Written tag slot) e sent = true≢false (sym sent)
    by (Sent tag slot) e sent = no_slot (sym (sym (ap (λ (t : ℕ). login_slot t (Sent tag slot)) tag_is) ∙ sym (ap (login_slot parts.ask.tag) e)
        ∙ kept_login at.window at.client.kept parts.front parts.ask parts.behind answers at.client.login have apart) ∙ same_slot tag slot)
      where
        tag_is : parts.ask.tag ≡ tag
        tag_is = ap (λ (name : Outgoing). name.tag)
            (login_named (all_asked asked) at.client.outgoing tag slot last (talk.awaited ∙ ap (λ (l : Stage). at.client.outgoing ++ login_name l) e))

        no_slot : None ≡ Some slot → ⊥
        no_slot e = cc (e)

-- ---- a login that was sent later

-- no entry that is kept is the answer to a login of a later tag
pub kept_below : (window : PortState) (kept come : List Entry) (asked : List Ask) (answers : List Iu) (last slot : ℕ) → HaveAnswers window (kept ++ come) asked answers → TagsRise last asked
    → All (λ (entry : Entry). login_slot entry.low (Sent (last + 1) slot) ≡ None) kept
kept_below window [] come asked answers last slot have rise = All-nil (λ (entry : Entry). login_slot entry.low (Sent (last + 1) slot) ≡ None)
kept_below window (entry ∷ kept) come [] answers last slot have rise = absurd have
kept_below window (entry ∷ kept) come (ask ∷ asked) [] last slot have rise = absurd have
kept_below window (entry ∷ kept) come (ask ∷ asked) (answer ∷ answers) last slot have rise =
    All-cons (λ (entry : Entry). login_slot entry.low (Sent (last + 1) slot) ≡ None) entry kept (ap (λ b. cond b (Some slot) None) differs)
    (kept_below window kept come asked answers last slot have.1 rise.2)
  where
    low : entry.low ≡ ask.tag
    low = ap (λ (e : Entry). e.low) have.0.entry_is

    differs : (last + 1 == entry.low) ≡ false
    differs = grind (arith, nat_tests, low, rise.0)
