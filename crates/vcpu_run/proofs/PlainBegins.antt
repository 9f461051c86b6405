-- A plain client that registers its queue: its server unit is to hear that it is there. And how all begins.
use Rattle.std.proofs.Common.{◌≡◌, ◌∙◌, inl, inr, ℕ, true, false, true≢false, List, [], ◌∷◌, Option, Some, None, IsSome, drop, length, refl, sym, ap, ap₂, subst}
use Rattle.vio_num.specs.Entry.{initialize}
use Rattle.vio_num.specs.declared.entry.Entry.{Entry}
use Rattle.vio_num.specs.declared.names.UnitId.{UnitId}
use Rattle.crq_session.specs.Answered.{Opens, Sends as SendsEntry, Settles}
use Rattle.crq_session.specs.EndState.{EndState, OnlyReserves}
use Rattle.crq_session.specs.declared.answers.RegAnswer.{RegAnswer}
use Rattle.crq_session.specs.declared.answers.RegAnswer.TheVariants as reg
use Rattle.crq_session.specs.declared.answers.SendAnswer.{SendAnswer}
use Rattle.crq_session.specs.declared.answers.SendAnswer.TheVariants as send
use Rattle.block_server.specs.Talk.{to_come}
use Rattle.block_server.specs.Talk.Word.{begins, gone}
use Rattle.vscsi_client.specs.State.{ClientState, new_client}
use Rattle.vscsi_client.specs.Turned.{Puts, Registers, RegistersAs, ends_turn, registered_by, sent_by}
use Rattle.vscsi_client.specs.Turned.LoginStep.{Registered}
use Rattle.vscsi_client.specs.declared.stage.Due.{Due}
use Rattle.vscsi_client.specs.declared.stage.Due.TheVariants as dues
use Rattle.vcpu_run.specs.PlainTalk.{Between, HearsOfGone, IsAway, IsCalm, IsOwnWindow, IsVacant, ServerStays, TalksPlainly}
use Rattle.vcpu_run.proofs.PlainPuts.{entry_put}
use Rattle.vcpu_run.proofs.PlainRooms.{not_closed, put_success}
use Rattle.vcpu_run.proofs.PlainSays.{EntryPut, calm_asks}
use Rattle.vcpu_run.proofs.PlainTurns.{come_same, stale_none}

-- where nothing is to come the server unit has heard that the client is gone
away_vacant : (at : Between) → HearsOfGone at [] → IsVacant at.unit
away_vacant at (inl one) = absurd (none one)
  where
    none : [] ≡ gone ∷ [] → ⊥
    none e = cc (e)
away_vacant at (inr none) = none.1

-- What a client that is away finds as it registers its queue: a session begins, in which nothing is to come.
pub record OpensAnew (s s' : ClientState) (old new : EndState) : Type 0 where
  pub registered : new.registered ≡ true
  pub sent : new.sent ≡ old.sent
  pub place : new.place ≡ old.place
  pub come : to_come new ≡ []
  pub client : s' ≡ registered_by s

opened : (old room new : EndState) (s s' : ClientState) → OnlyReserves old room → old.kept ≡ None → new.place ≡ room.place → Opens false room new → s' ≡ registered_by s
    → OpensAnew s s' old new
opened old room new s s' ready kept place opens client = record {
  registered = opens.registered;
  sent = by room.kept (ready.kept ∙ kept) opens.settles ∙ ready.sent;
  place = place ∙ ready.place;
  come = ap₂ (λ (taken received : List Entry). drop (length taken) received) opens.none_taken (opens.none_received refl);
  client = client;
}
  where
    by : (event : Option Entry) → event ≡ None → Settles false event room new → new.sent ≡ room.sent
    by None e none = none.sent
    by (Some event) e settles = absurd (cc (e))

pub registers_anew : (granted : ℕ) (at : Between) (s' : ClientState) (new : EndState) (answer : RegAnswer) → IsCalm granted at [] → IsAway at []
    → Registers false at.client s' at.own new answer → OpensAnew at.client s' at.own new
registers_anew granted at s' new answer calm away registers = by answer registers.registers
  where
    no_event : (event : Option Entry) → event ≡ None → IsSome event → ⊥
    no_event None none some = cc (some)
    no_event (Some event) none some = cc (none)

    by : (answer : RegAnswer) → RegistersAs false at.client s' registers.room new answer → OpensAnew at.client s' at.own new
    by reg.Success (opens, open', client) = opened at.own registers.room new at.client s' registers.ready away.kept registers.rest.place opens client
    by reg.Resource (there, ready, client) = absurd (true≢false (sym there ∙ registers.ready.registered ∙ away.registered))
    by (reg.Closed control) (opens, closed, client) = absurd (not_closed granted at registers.room new calm registers.ready.place closed.meets)
    by (reg.Busy number held) (holds, client) = absurd (no_event registers.room.kept (registers.ready.kept ∙ away.kept) holds.kept.some)
    by reg.Parameter none = absurd none

-- and no event holds it up
pub registers_going : (granted : ℕ) (at : Between) (s' : ClientState) (new : EndState) (answer : RegAnswer) → IsCalm granted at [] → IsAway at []
    → Registers false at.client s' at.own new answer → ends_turn (Registered answer) ≡ false
registers_going granted at s' new answer calm away registers = by answer registers.registers
  where
    no_event : (event : Option Entry) → event ≡ None → IsSome event → ⊥
    no_event None none some = cc (some)
    no_event (Some event) none some = cc (none)

    by : (answer : RegAnswer) → RegistersAs false at.client s' registers.room new answer → ends_turn (Registered answer) ≡ false
    by reg.Success is = refl
    by reg.Resource is = refl
    by (reg.Closed control) is = refl
    by (reg.Busy number held) (holds, client) = absurd (no_event registers.room.kept (registers.ready.kept ∙ away.kept) holds.kept.some)
    by reg.Parameter none = refl

-- The queue is registered, and the entry that says so is to come.
pub begins_plainly : (granted : ℕ) (at at' : Between) (mid : ClientState) (opened' : EndState) (sent : SendAnswer) → IsCalm granted at [] → IsAway at [] → at.client.tabled ≡ None
    → OpensAnew at.client mid at.own opened' → Puts false mid at'.client opened' at'.own dues.Initialize sent → at'.window ≡ at.window → ServerStays at at'
    → TalksPlainly granted at' (begins ∷ [])
begins_plainly granted at at' mid opened' sent calm away tabled opens puts window stays = record {
  calm = calm_asks granted at at' initialize begins calm put refl;
  phase = inr (inl (record {
    registered = puts.rest.registered ∙ puts.ready.registered ∙ opens.registered;
    handshake = ap (λ (s : ClientState). s.handshake) client ∙ ap (λ (s : ClientState). s.handshake) opens.client;
    due = ap (λ (s : ClientState). s.due) client ∙ others;
    granted = ap (λ (s : ClientState). s.granted) client ∙ ap (λ (s : ClientState). s.granted) opens.client;
    outgoing = ap (λ (s : ClientState). s.outgoing) client ∙ ap (λ (s : ClientState). s.outgoing) opens.client;
    login = ap (λ (s : ClientState). s.login) client ∙ ap (λ (s : ClientState). s.login) opens.client;
    logout = ap (λ (s : ClientState). s.logout) client ∙ ap (λ (s : ClientState). s.logout) opens.client;
    kept = ap (λ (s : ClientState). s.kept) client ∙ ap (λ (s : ClientState). s.kept) opens.client;
    held = ap (λ (s : ClientState). s.held) client ∙ ap (λ (s : ClientState). s.held) opens.client;
    vacant = subst IsVacant (sym stays.unit) (away_vacant at away.heard);
    heard = inl (
      refl,
      come_same opened' at'.own (puts.rest.place ∙ puts.ready.place) (puts.rest.last_session ∙ puts.ready.last_session) (puts.rest.taken ∙ puts.ready.taken)
          ∙ opens.come,
    );
  }));
  tabled = ap (λ (s : ClientState). s.tabled) client ∙ ap (λ (s : ClientState). s.tabled) opens.client ∙ tabled;
}
  where
    success : (number : ℕ) × (sent ≡ send.Success number) × SendsEntry false puts.room puts.entry at'.own number
    success = put_success granted at at' puts.room puts.entry sent calm (puts.ready.sent ∙ opens.sent) (puts.ready.place ∙ opens.place)
        (puts.ready.registered ∙ opens.registered) stays puts.sent

    client : at'.client ≡ sent_by dues.Initialize puts.others (send.Success success.0) mid
    client = puts.client ∙ ap (λ (a : SendAnswer). sent_by dues.Initialize puts.others a mid) success.1

    others : puts.others ≡ []
    others = none puts.others (sym puts.first ∙ ap (λ (s : ClientState). s.due) opens.client)
      where
        none : (list : List Due) → dues.Initialize ∷ list ≡ dues.Initialize ∷ [] → list ≡ []
        none list e = cc (e)

    put : EntryPut at at' initialize
    put = subst (EntryPut at at') puts.is_entry
        (entry_put at at' puts.room puts.entry calm.ends calm.registered (puts.ready.sent ∙ opens.sent) success.2.puts
        (puts.rest.place ∙ puts.ready.place ∙ opens.place) stays (subst IsOwnWindow (sym window) calm.usable))

-- ---- the start

-- a client that has sent nothing, and a unit of which nothing was asked
pub starts_plainly : (granted : ℕ) (at : Between) (id server : UnitId) → IsCalm granted at [] → at.client ≡ new_client id server → at.own.registered ≡ false → at.own.kept ≡ None
    → IsVacant at.unit → TalksPlainly granted at []
starts_plainly granted at id server calm client registered kept vacant = record {
  calm = calm;
  phase = inl (record {
    registered = registered;
    handshake = ap (λ (s : ClientState). s.handshake) client;
    kept = kept;
    due = ap (λ (s : ClientState). s.due) client;
    stale = stale_none at.unit.pending.items vacant.pending;
    heard = inr (refl, vacant);
  });
  tabled = ap (λ (s : ClientState). s.tabled) client;
}
