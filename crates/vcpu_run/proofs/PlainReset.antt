-- A plain client that frees its queue, or whose partition fails: its server unit is to hear that it is gone.
use Rattle.std.proofs.Common.{◌≡◌, ◌∙◌, ◌⊎◌, inl, inr, ℕ, ◌≤◌, ◌++◌, All, true, false, List, [], ◌∷◌, None, length-append, refl, sym, ap, subst, arith}
use Rattle.std.proofs.lemmas.List.Elements.{All-cons, All-head, All-nil, All-tail}
use Rattle.vio_num.specs.declared.entry.Entry.{Entry}
use Rattle.crq_session.specs.Answered.{Frees, Keeps, Loses, Puts}
use Rattle.crq_session.specs.EndState.{EndState, OnlyFrees, OnlyReserves}
use Rattle.block_server.specs.Closings.{is_event}
use Rattle.block_server.specs.Talk.Word.{gone}
use Rattle.block_server.specs.declared.request.Request.{Request}
use Rattle.block_server.specs.declared.unit.Unit.{Unit}
use Rattle.vscsi_client.specs.State.{ClientState}
use Rattle.vscsi_client.specs.Turned.{unlinked}
use Rattle.vscsi_client.specs.Units.{slot_address}
use Rattle.vscsi_client.specs.declared.TheConstants.{SLOTS}
use Rattle.vcpu_run.specs.PlainTalk.{ArePending, AreStale, Ask, Between, InPhase, IsAsk, IsCalm, IsOwnWindow, ServerStays, TalksPlainly}
use Rattle.vcpu_run.proofs.PlainPuts.{entry_put}
use Rattle.vcpu_run.proofs.PlainReady.{all_few, all_front, all_rest, pending_long}
use Rattle.vcpu_run.proofs.PlainRooms.{not_closed, not_full}
use Rattle.vcpu_run.proofs.PlainSays.{calm_asks}
use Rattle.vcpu_run.proofs.PlainTurns.{stale_none}

-- what is pending was asked in slots
pending_slots : (requests : List Request) (asked : List Ask) → ArePending requests asked → All IsAsk asked
    → All (λ request. (slot : ℕ) × (slot ≤ SLOTS) × (request.address ≡ slot_address slot)) requests
pending_slots [] [] are each = All-nil (λ (request : Request). (slot : ℕ) × (slot ≤ SLOTS) × (request.address ≡ slot_address slot))
pending_slots [] (ask ∷ asked) are each = absurd are
pending_slots (request ∷ requests) [] are each = absurd are
pending_slots (request ∷ requests) (ask ∷ asked) are each =
    All-cons (λ (request : Request). (slot : ℕ) × (slot ≤ SLOTS) × (request.address ≡ slot_address slot)) request requests
    (ask.slot, (All-head IsAsk ask asked each).slot_is, are.0.address)
    (pending_slots requests asked are.1 (All-tail IsAsk ask asked each))

stale_of : (granted : ℕ) (at : Between) → InPhase granted at [] → AreStale at.unit.pending.items
stale_of granted at (inl away) = away.stale
stale_of granted at (inr (inl begun)) = stale_none at.unit.pending.items begun.vacant.pending
stale_of granted at (inr (inr (asked, answers, talk))) = record {
  slots = pending_slots at.unit.pending.items asked.pending talk.pending
      (all_front IsAsk asked.pending asked.coming (all_rest IsAsk asked.answered (asked.pending ++ asked.coming) talk.each));
  few = omega (
    arith,
    pending_long at.unit.pending.items asked.pending talk.pending,
    all_few granted at [] asked answers talk,
    length-append asked.answered (asked.pending ++ asked.coming),
    length-append asked.pending asked.coming,
  );
}

-- the event that tells of it was put
event_put : (granted : ℕ) (at at' : Between) (room : EndState) (event : Entry) → IsCalm granted at [] → OnlyReserves at.own room → ServerStays at at' → Frees false room event at'.own
    → Puts false room event at'.own × (at'.own.kept ≡ None)
event_put granted at at' room event calm ready stays frees = by frees.tells
  where
    by : (Puts false room event at'.own × (at'.own.kept ≡ None))
        ⊎ (Keeps false room event at'.own ⊎ (Loses false room at'.own × (at'.own.kept ≡ None)))
        → Puts false room event at'.own × (at'.own.kept ≡ None)
    by (inl puts) = puts
    by (inr (inl keeps)) = absurd (not_full granted at at' room keeps.number keeps.held calm ready.sent ready.place stays keeps.full)
    by (inr (inr loses)) = absurd (not_closed granted at room at'.own calm ready.place loses.0.meets)

-- Behind that the client is away.
pub freed_plainly : (granted : ℕ) (at at' : Between) (room : EndState) (event : Entry) → is_event event ≡ true → TalksPlainly granted at [] → OnlyReserves at.own room → Frees false room event at'.own
    → OnlyFrees false room at'.own → at'.client ≡ unlinked at.client → at'.window ≡ at.window → ServerStays at at' → TalksPlainly granted at' (gone ∷ [])
freed_plainly granted at at' room event tells talks ready frees rest client window stays = record {
  calm = calm_asks granted at at' event gone talks.calm
      (entry_put at at' room event talks.calm.ends talks.calm.registered ready.sent put.0 (rest.place ∙ ready.place) stays
      (subst IsOwnWindow (sym window) talks.calm.usable)) tells;
  phase = inl (record {
    registered = frees.freed;
    handshake = ap (λ (s : ClientState). s.handshake) client;
    kept = put.1;
    due = ap (λ (s : ClientState). s.due) client;
    stale = subst (λ (u : Unit). AreStale u.pending.items) (sym stays.unit) (stale_of granted at talks.phase);
    heard = inl refl;
  });
  tabled = ap (λ (s : ClientState). s.tabled) client ∙ talks.tabled;
}
  where
    put : Puts false room event at'.own × (at'.own.kept ≡ None)
    put = event_put granted at at' room event talks.calm ready stays frees
