-- A plain client's look for an answer, against the replay of its lines.
use Rattle.std.proofs.Common.{◌≡◌, ◌∙◌, ◌⊎◌, inl, inr, ℕ, ◌+◌, ◌≤◌, ◌++◌, Bool, true, false, true≢false, List, [], ◌∷◌, Contains, Option, append-nil, drop, is_some, length, refl, sym, ap, ap₂, subst, arith}
use Rattle.std.specs.Prelude.{⊤}
use Rattle.vio_num.specs.declared.entry.Entry.{Entry}
use Rattle.crq_session.specs.Answered.{FindsNone}
use Rattle.crq_session.specs.EndState.{OnlyReserves, OnlyTakes}
use Rattle.srp_iu.specs.declared.response.Rsp.{Rsp}
use Rattle.srp_iu.specs.declared.unit.Iu.{Iu}
use Rattle.tce_window.specs.PortState.{OnlyReads}
use Rattle.block_server.specs.Talk.{to_come}
use Rattle.block_server.specs.declared.request.Request.{Request}
use Rattle.vscsi_client.specs.Taking.{IsNext, Polls, TakesAs, TakesEntry, TakesNone}
use Rattle.vscsi_client.specs.declared.answers.Taken.{Taken}
use Rattle.vscsi_client.specs.declared.answers.Taken.TheVariants as takens
use Rattle.vscsi_client.specs.declared.outgoing.Outgoing.{Outgoing}
use Rattle.vscsi_client.specs.declared.stage.Stage.{Stage}
use Rattle.vcpu_run.specs.PlainSteps.{AreReplayedAs, FollowsReplay, HasToDo}
use Rattle.vcpu_run.specs.PlainTalk.{ArePending, Ask, AskedParts, Between, InPhase, IsOwnWindow, IsTalking, ServerStays, TalksPlainly, all_asked, awaited, login_name, names_of, client_ports}
use Rattle.vcpu_run.specs.Replay.{Asked as Replayed, Replay, answered}
use Rattle.vcpu_run.proofs.LinesShown.{contains_first}
use Rattle.vcpu_run.proofs.PlainAreLaid.{IsTakenLaid, takes_laid, talk_laid}
use Rattle.vcpu_run.proofs.PlainAsking.{follows_still}
use Rattle.vcpu_run.proofs.PlainAsks.{none_coming}
use Rattle.vcpu_run.proofs.PlainPuts.{LeavesWindow}
use Rattle.vcpu_run.proofs.PlainSlots.{keeps_same}
use Rattle.vcpu_run.proofs.PlainStill.{calm_still, plainly_still, reads_leave, all_true}
use Rattle.vcpu_run.proofs.PlainTakes.{TakesHead}
use Rattle.vcpu_run.proofs.PlainTaking.{next_entries}
use Rattle.vcpu_run.proofs.PlainTook.{TookAnswer, TookNoAnswer, takes_plainly, takes_tabled}
use Rattle.vcpu_run.proofs.PlainTurns.{come_same}
use Rattle.vcpu_run.proofs.PlainData.{data_kept}

-- what comes of an entry that a client takes
abbrev pub LeavesTaken : (granted : ℕ) → Replay → Taken → Between → Type 0
LeavesTaken granted now (takens.Answer tag response) at = (1 ≤ length now.outstanding) × FollowsReplay granted (answered 1 now) at
LeavesTaken granted now (takens.Empty number) at = FollowsReplay granted now at × ((now.outstanding ≡ []) ⊎ HasToDo at [])
LeavesTaken granted now taken at = ⊥

-- ---- lists

first_gone : (outgoing : List Outgoing) (outstanding : List Replayed) (oldest : Outgoing) (others : List Outgoing) → AreReplayedAs outgoing outstanding → outgoing ≡ oldest ∷ others
    → (1 ≤ length outstanding) × AreReplayedAs others (drop 1 outstanding) × (length (drop 1 outstanding) ≤ length outstanding)
first_gone [] [] oldest others are is = absurd (cc (is))
first_gone [] (asked ∷ outstanding) oldest others are is = absurd are
first_gone (o ∷ outgoing) [] oldest others are is = absurd are
first_gone (o ∷ outgoing) (asked ∷ outstanding) oldest others are is =
    (omega arith, subst (λ (list : List Outgoing). AreReplayedAs list outstanding) (tails o oldest outgoing others is) are.1, omega arith)
  where
    tails : (a b : Outgoing) (xs ys : List Outgoing) → a ∷ xs ≡ b ∷ ys → xs ≡ ys
    tails a b xs ys e = cc (e)

none_left : (outgoing : List Outgoing) (outstanding : List Replayed) → AreReplayedAs outgoing outstanding → outgoing ≡ [] → outstanding ≡ []
none_left [] [] are none = refl
none_left [] (asked ∷ outstanding) are none = absurd are
none_left (o ∷ outgoing) outstanding are none = absurd (cc (none))

drop_none : (outstanding : List Replayed) → outstanding ≡ [] → drop 1 outstanding ≡ []
drop_none [] none = refl
drop_none (asked ∷ outstanding) none = absurd (cc (none))

-- ---- the oldest was taken

follows_taken : (granted : ℕ) (now : Replay) (at at' : Between) (entry : Entry) (oldest : Outgoing) (others : List Outgoing) → FollowsReplay granted now at
    → at.own.registered ≡ true → TakesHead at at' entry oldest others → (1 ≤ length now.outstanding) × FollowsReplay granted (answered 1 now) at'
follows_taken granted now at at' entry oldest others follows there head = (
  left.0,
  record {
    tag = ap (λ (n : ℕ). n + 1) head.rows ∙ follows.tag;
    login = head.login ∙ follows.login;
    settled = λ waits. follows.settled (sym head.handshake ∙ waits);
    fresh = λ off. absurd (true≢false (sym (head.registered ∙ there) ∙ off));
    credits = record {
      is_on = ap (λ (g : Option ℕ). is_some g) head.granted ∙ follows.credits.is_on;
      there = λ on. head.registered ∙ there;
      outstanding = subst (λ (list : List Outgoing). AreReplayedAs list (drop 1 now.outstanding)) (sym head.outgoing) left.1;
      none = λ off. drop_none now.outstanding (follows.credits.none off);
      within = omega (arith, left.2, follows.credits.within);
    };
  },
)
  where
    left : (1 ≤ length now.outstanding) × AreReplayedAs others (drop 1 now.outstanding) × (length (drop 1 now.outstanding) ≤ length now.outstanding)
    left = first_gone at.client.outgoing now.outstanding oldest others follows.credits.outstanding head.before

-- ---- there was none

no_names : (names : List Outgoing) (o : Outgoing) (outgoing : List Outgoing) → names ≡ [] → names ≡ o ∷ outgoing → ⊥
no_names names o outgoing none is = cc (none, is)

pending_none : (requests : List Request) (asked : List Ask) → ArePending requests asked → requests ≡ [] → asked ≡ []
pending_none [] [] are none = refl
pending_none [] (ask ∷ asked) are none = absurd are
pending_none (request ∷ requests) asked are none = absurd (cc (none))

-- what is outstanding is pending, where it has no answer
still_pending : (granted : ℕ) (now : Replay) (at : Between) (asked : AskedParts) (answers : List Iu) → IsTalking granted at [] asked answers → asked.answered ≡ [] → FollowsReplay granted now at
    → (now.outstanding ≡ []) ⊎ HasToDo at []
still_pending granted now at asked answers talk unanswered follows = by at.client.outgoing refl
  where
    none : asked.coming ≡ []
    none = none_coming [] asked.coming refl talk.coming

    all_is : all_asked asked ≡ asked.pending
    all_is = ap₂ (λ (a c : List Ask). a ++ (asked.pending ++ c)) unanswered none ∙ append-nil asked.pending

    names : names_of asked.pending ≡ at.client.outgoing
    names = sym (ap names_of all_is) ∙ talk.awaited
        ∙ ap (λ (stage : Stage). at.client.outgoing ++ login_name stage) follows.login ∙ append-nil at.client.outgoing

    by : (outgoing : List Outgoing) → at.client.outgoing ≡ outgoing → (now.outstanding ≡ []) ⊎ HasToDo at []
    by [] is = inl (none_left at.client.outgoing now.outstanding follows.credits.outstanding is)
    by (o ∷ outgoing) is = inr (inr (λ idle. no_names (names_of asked.pending) o outgoing (ap names_of (pending_none at.unit.pending.items asked.pending talk.pending idle))
        (names ∙ is)))

-- ---- before the queue is registered

nothing_on : (is_on registered : Bool) → (is_on ≡ true → registered ≡ true) → registered ≡ false → is_on ≡ false
nothing_on true registered there off = absurd (true≢false (sym (there refl) ∙ off))
nothing_on false registered there off = refl

away_none : (granted : ℕ) (now : Replay) (at at' : Between) (number : ℕ) → TalksPlainly granted at [] → at.own.registered ≡ false → FollowsReplay granted now at → ServerStays at at'
    → TakesNone at.client at'.client (client_ports at) (client_ports at') number → OnlyTakes false at.own at'.own → TalksPlainly granted at' [] × LeavesTaken granted now (takens.Empty number) at'
away_none granted now at at' number talks off follows stays takes only = (
  plainly_still (λ o. ⊤) granted at at' talks (record {
    server = stays;
    client = takes.fetched.client;
    sent = only.sent;
    registered = only.registered;
    kept = only.kept;
    come = come_same at.own at'.own only.place only.last_session taken;
    slots = ap (λ place. place.own_slots) only.place;
    window = record { own = subst IsOwnWindow (sym takes.own) talks.calm.usable; keeps = keeps_same at.window at'.window takes.own };
    spares = all_true (awaited at.client);
    tables = data_kept at.window at'.window takes.own;
  }),
  (
    follows_still granted now at at' follows takes.fetched.client only.registered,
    inl (follows.credits.none (nothing_on now.is_on at.own.registered follows.credits.there off)),
  ),
)
  where
    taken : at'.own.taken ≡ at.own.taken
    taken = by takes.fetched.none.none ∙ takes.fetched.none.ready.taken
      where
        by : FindsNone false takes.fetched.none.room at'.own number
            ⊎ ((takes.fetched.none.room.registered ≡ false) × (number ≡ 0) × OnlyReserves takes.fetched.none.room at'.own) → at'.own.taken ≡ takes.fetched.none.room.taken
        by (inl finds) = finds.taken
        by (inr closed) = closed.2.taken

away_some : (at at' : Between) (taken : Taken) → at.own.registered ≡ false → at.client.kept ≡ [] → TakesAs at.client at'.client (client_ports at) (client_ports at') taken → ⊥
away_some at at' taken off fresh takes = true≢false (sym (polls.taken.registered) ∙ polls.ready.registered ∙ off)
  where
    polls : Polls false at.own takes.fetched.entry at'.own
    polls = (subst (λ (kept : List Entry). IsNext kept false at.own takes.fetched.entry takes.fetched.rest at'.own) fresh takes.fetched.next).1

pub away_leaves : (granted : ℕ) (now : Replay) (at at' : Between) (taken : Taken) → TalksPlainly granted at [] → at.own.registered ≡ false → FollowsReplay granted now at
    → ServerStays at at' → TakesEntry at.client at'.client (client_ports at) (client_ports at') taken → OnlyTakes false at.own at'.own → TalksPlainly granted at' [] × LeavesTaken granted now taken at'
away_leaves granted now at at' (takens.Empty number) talks off follows stays takes only = away_none granted now at at' number talks off follows stays takes only
away_leaves granted now at at' (takens.Answer tag response) talks off follows stays takes only = absurd (away_some at at' (takens.Answer tag response) off (follows.fresh off) takes)
away_leaves granted now at at' (takens.Stray tag) talks off follows stays takes only = absurd (away_some at at' (takens.Stray tag) off (follows.fresh off) takes)
away_leaves granted now at at' takens.Lost talks off follows stays takes only = absurd (away_some at at' takens.Lost off (follows.fresh off) takes)
away_leaves granted now at at' takens.Other talks off follows stays takes only = absurd (away_some at at' takens.Other off (follows.fresh off) takes)
away_leaves granted now at at' (takens.Again page word) talks off follows stays takes only = absurd (away_some at at' (takens.Again page word) off (follows.fresh off) takes)

-- ---- all of it

answer_only : (granted : ℕ) (now : Replay) (at : Between) (tag : ℕ) (taken : Taken) (response : Rsp) → taken ≡ takens.Answer tag response
    → (1 ≤ length now.outstanding) × FollowsReplay granted (answered 1 now) at → LeavesTaken granted now taken at
answer_only granted now at tag taken response is leaves = subst (λ (t : Taken). LeavesTaken granted now t at) (sym is) leaves

none_same : (granted : ℕ) (now : Replay) (at at' : Between) (taken : Taken) (number : ℕ) → taken ≡ takens.Empty number → TakesEntry at.client at'.client (client_ports at) (client_ports at') taken
    → at'.client ≡ at.client
none_same granted now at at' taken number is takes =
    (subst (λ (t : Taken). TakesEntry at.client at'.client (client_ports at) (client_ports at') t) is takes).fetched.client

pub take_leaves : (granted : ℕ) (now : Replay) (at at' : Between) (taken : Taken) → TalksPlainly granted at [] → FollowsReplay granted now at → ServerStays at at'
    → TakesEntry at.client at'.client (client_ports at) (client_ports at') taken → OnlyTakes false at.own at'.own → OnlyReads false at.window at'.window
    → TalksPlainly granted at' [] × LeavesTaken granted now taken at'
take_leaves granted now at at' taken talks follows stays takes only reads = by talks.phase
  where
    left : LeavesWindow (λ slot. ⊤) at.window at'.window
    left = reads_leave at.window at'.window talks.calm.usable reads

    told : (asked : AskedParts) (answers : List Iu) → IsTalking granted at' [] asked answers → TalksPlainly granted at' []
    told asked answers talk = record {
      calm = calm_still granted at at' talks.calm stays only.sent (ap (λ place. place.own_slots) only.place) left.own;
      phase = inr (inr (asked, answers, talk));
      tabled = takes_tabled at at' taken takes ∙ talks.tabled;
    }

    found : (asked : AskedParts) (answers : List Iu) → IsTalking granted at [] asked answers → TookAnswer granted at at' asked taken ⊎ TookNoAnswer granted at' asked answers taken
        → TalksPlainly granted at' [] × LeavesTaken granted now taken at'
    found asked answers talk (inl took) = (
      told (record { answered = took.more; pending = asked.pending; coming = asked.coming }) took.rest took.talk,
      answer_only granted now at' took.ask.tag taken took.response took.taken_is
          (follows_taken granted now at at' took.entry took.oldest took.others follows talk.registered took.head),
    )
    found asked answers talk (inr took) = (
      told asked answers took.talk,
      subst (λ (t : Taken). LeavesTaken granted now t at') (sym took.taken_is) (still, still_pending granted now at' asked answers took.talk took.none still),
    )
      where
        still : FollowsReplay granted now at'
        still = follows_still granted now at at' follows (none_same granted now at at' taken took.number took.taken_is takes) only.registered

    by : InPhase granted at [] → TalksPlainly granted at' [] × LeavesTaken granted now taken at'
    by (inl away) = away_leaves granted now at at' taken talks away.registered follows stays takes only
    by (inr (inl begun)) = absurd (follows.settled begun.handshake)
    by (inr (inr (asked, answers, talk))) =
        found asked answers talk (takes_plainly granted at at' asked answers taken talks.calm talk follows.login takes only reads stays)

-- An answer that it takes was laid by its server unit.
pub leaves_laid : (granted : ℕ) (now : Replay) (at at' : Between) (taken : Taken) → TalksPlainly granted at [] → FollowsReplay granted now at
    → TakesEntry at.client at'.client (client_ports at) (client_ports at') taken → OnlyTakes false at.own at'.own → OnlyReads false at.window at'.window → IsTakenLaid taken at'.window
leaves_laid granted now at at' (takens.Answer tag response) talks follows takes only reads = by talks.phase
  where
    by : InPhase granted at [] → IsTakenLaid (takens.Answer tag response) at'.window
    by (inl away) = absurd (away_some at at' (takens.Answer tag response) away.registered (follows.fresh away.registered) takes)
    by (inr (inl begun)) = absurd (follows.settled begun.handshake)
    by (inr (inr (asked, answers, talk))) =
        takes_laid at at' (takens.Answer tag response) (at.client.kept ++ to_come at.own) (talk_laid granted at [] asked answers talks.calm.usable talk) takes
        (subst (λ (list : List Entry). Contains list takes.fetched.entry)
        (sym (next_entries at.client.kept at.own at'.own takes.fetched.entry takes.fetched.rest takes.fetched.next only))
        (contains_first takes.fetched.entry (takes.fetched.rest ++ to_come at'.own))) reads
leaves_laid granted now at at' (takens.Stray tag) talks follows takes only reads = tt
leaves_laid granted now at at' takens.Lost talks follows takes only reads = tt
leaves_laid granted now at at' takens.Other talks follows takes only reads = tt
leaves_laid granted now at at' (takens.Again page word) talks follows takes only reads = tt
leaves_laid granted now at at' (takens.Empty number) talks follows takes only reads = tt
