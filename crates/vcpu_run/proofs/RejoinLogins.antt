-- A turn of a client's login beside a server unit whose session is over, or was, leaves both so, but where it takes the answer that grants the login.
use Rattle.std.proofs.Common.{◌≡◌, ◌∙◌, ◌⊎◌, inl, inr, ℕ, ◌≤◌, ◌++◌, Bool, true, false, true≢false, List, [], ◌∷◌, arith, length, None, Ok, refl, sym, ap, subst}
use Rattle.std.specs.List.{list_any}
use Rattle.vio_num.specs.declared.entry.Entry.{Entry}
use Rattle.vio_num.specs.declared.names.UnitId.{UnitId}
use Rattle.crq_session.specs.declared.answers.RegAnswer.{RegAnswer}
use Rattle.crq_session.specs.declared.answers.RegAnswer.TheVariants as reg
use Rattle.block_server.specs.Doings.{Doing}
use Rattle.block_server.specs.Talk.{to_come}
use Rattle.vscsi_client.specs.State.{ClientState}
use Rattle.vscsi_client.specs.Turned.{AreInOrder, EndsWith, Ends, FollowOn, LoginStep, NoneEnds, Pauses, Registers, Runs, SameHands, Site, Steps, Turned, ends_turn}
use Rattle.vscsi_client.specs.Turned.LoginStep.{Looked, Registered}
use Rattle.vscsi_client.specs.declared.answers.LoginTurn.{LoginTurn}
use Rattle.vscsi_client.specs.declared.answers.LoginTurn.TheVariants as turns
use Rattle.vscsi_client.specs.declared.found.Found.{Found}
use Rattle.vscsi_client.specs.declared.found.Found.TheVariants.{Granted, Lost, Rejected}
use Rattle.vscsi_client.specs.declared.stage.Stage.TheVariants.{Idle}
use Rattle.vcpu_run.specs.OwnActs.{IsSeenAt, IsSettled}
use Rattle.vcpu_run.specs.OwnJoins.{JoinsNow, TurnEnds, TurnLeft, TurnsOver}
use Rattle.vcpu_run.specs.OwnOver.{IsOver}
use Rattle.vcpu_run.specs.PlainRejected.{HasRejection}
use Rattle.vcpu_run.specs.PlainTalk.{grants_one}
use Rattle.vcpu_run.proofs.RejoinGranted.{GrantedIn, over_granted}
use Rattle.vcpu_run.proofs.RejoinLooks.{LostIn, over_lost}
use Rattle.vcpu_run.proofs.RejoinOpens.{HeldUp, OpenedBy, OpensIn, over_opens}
use Rattle.vcpu_run.proofs.RejoinRejected.{RejectedIn, over_rejected}
use Rattle.vcpu_run.proofs.RejoinSteps.{StepsTo, rests_behind, steps_behind}
use Rattle.vcpu_run.proofs.RejoinTaken.{over_rests}
use Rattle.vcpu_run.proofs.RejoinWalks.{PutsAll, TakesIn, puts_all, takes_all, taking_front}
use Rattle.vcpu_run.proofs.PlainLogsIn.{LastStep, Splits, busy_last, last_step, none_front, splits}
use Rattle.vcpu_run.proofs.PlainOpens.{FindsOpen, finds_open, takes_nothing}
use Rattle.vcpu_run.proofs.PlainTurns.{come_same}
use Rattle.vcpu_run.proofs.PlainWalks.{both_false}

-- ---- the registration

-- What a turn takes of where both stand: no more is to come to the client's queue than it has slots.
pub record BeginsIn (promised : Bool) (granted : ℕ) (d : Doing) (a : Site) : Type 0 where
  pub seen : IsSeenAt d a.at
  pub over : IsOver granted false d a.client a.at.crq
  pub fewer : grants_one over.answers ≡ true → promised ≡ true
  pub settled : IsSettled a.client
  pub room : a.at.crq.registered ≡ true → length (to_come a.at.crq) ≤ a.at.crq.place.own_slots

starts_on : (promised : Bool) (granted line : ℕ) (d : Doing) (a first : Site) (answer : RegAnswer) → BeginsIn promised granted d a → a.at.crq.registered ≡ true → Steps line (Registered answer) a first → SameHands a first
    → TakesIn promised granted a.at.crq.place.own_slots d a (Registered answer ∷ []) first
starts_on promised granted line d a first answer begins there did hands = record {
  leads = over_rests promised granted d a first (record { seen = begins.seen; over = begins.over; registered = there; kept = begins.settled.kept; logout = begins.settled.logout; fewer = begins.fewer })
      (takes_nothing a.at.crq first.at.crq finds.ready) finds.ready.taken finds.client did.1 hands;
  left = omega (arith, begins.room there, ap (λ (list : List Entry). length list) (come_same a.at.crq first.at.crq finds.ready.place finds.ready.last_session finds.ready.taken));
  spent = λ last. absurd (true≢false (sym last));
  unused = refl;
}
  where
    finds : FindsOpen a.client first.client a.at.crq first.at.crq answer
    finds = finds_open a.client first.client a.at.crq first.at.crq answer there
        (subst (λ shared. Registers shared a.client first.client a.at.crq first.at.crq answer) begins.seen.alone did.0)

starts_off : (promised : Bool) (granted line : ℕ) (d : Doing) (a first : Site) (answer : RegAnswer) → BeginsIn promised granted d a → a.at.crq.registered ≡ false → Steps line (Registered answer) a first → SameHands a first
    → ends_turn (Registered answer) ≡ false → TakesIn promised granted a.at.crq.place.own_slots d a (Registered answer ∷ []) first
starts_off promised granted line d a first answer begins off did hands going =
    by answer going (over_opens promised granted line answer d a first (record { seen = begins.seen; over = begins.over; off = off }) did hands)
  where
    opened : (answer : RegAnswer) → OpensIn promised granted d a first → TakesIn promised granted a.at.crq.place.own_slots d a (Registered answer ∷ []) first
    opened answer opens = record {
      leads = opens.steps;
      left = omega (arith, ap (λ (list : List Entry). length list) opens.none);
      spent = λ last. opens.none;
      unused = refl;
    }

    by : (answer : RegAnswer) → ends_turn (Registered answer) ≡ false → OpenedBy promised granted d a first answer → TakesIn promised granted a.at.crq.place.own_slots d a (Registered answer ∷ []) first
    by reg.Resource going opens = opened reg.Resource opens
    by reg.Success going opens = opened reg.Success opens
    by (reg.Closed control) going opens = opened (reg.Closed control) opens
    by reg.Parameter going opens = opened reg.Parameter opens
    by (reg.Busy number held) going opens = absurd (true≢false going)

starts : (promised : Bool) (granted line : ℕ) (d : Doing) (a first : Site) (answer : RegAnswer) → BeginsIn promised granted d a → Steps line (Registered answer) a first → SameHands a first
    → ends_turn (Registered answer) ≡ false → TakesIn promised granted a.at.crq.place.own_slots d a (Registered answer ∷ []) first
starts promised granted line d a first answer begins did hands going = by a.at.crq.registered refl
  where
    by : (there : Bool) → a.at.crq.registered ≡ there → TakesIn promised granted a.at.crq.place.own_slots d a (Registered answer ∷ []) first
    by true there = starts_on promised granted line d a first answer begins there did hands
    by false off = starts_off promised granted line d a first answer begins off did hands going

-- ---- how a turn ends

pub last_going : (later : List LoginStep) (step : LoginStep) → NoneEnds (later ++ step ∷ []) → ends_turn step ≡ false
last_going [] step going = (both_false (ends_turn step) false going).0
last_going (first ∷ later) step going = last_going later step (both_false (ends_turn first) (list_any ends_turn (later ++ step ∷ [])) going).1

turns_over : (promised : Bool) (granted : ℕ) (d : Doing) (a b : Site) → StepsTo promised granted d a b → b.client.held ≡ None → TurnsOver promised granted d a b
turns_over promised granted d a b steps held = record {
  stays = record { left = steps.left; rests = steps.rests; seen = steps.stands.seen; over = steps.stands.over };
  settled = record { held = held; kept = steps.stands.kept; logout = steps.stands.logout };
  fewer = steps.stands.fewer;
}

turn_ends : (promised : Bool) (granted : ℕ) (d : Doing) (a b : Site) → StepsTo promised granted d a b → b.client.held ≡ None → b.client.login ≡ Idle → TurnEnds promised granted d a b
turn_ends promised granted d a b steps held login = record { over = turns_over promised granted d a b steps held; login = login; registered = steps.stands.registered }

-- What is so of a turn: its parts, and how it begins.
pub record Parted (promised : Bool) (granted line : ℕ) (d : Doing) (a b : Site) (answer : RegAnswer) (later : List LoginStep) : Type 0 where
  pub first : Site
  pub runs : Runs line later first b
  pub follow : FollowOn 1 later
  pub start : ends_turn (Registered answer) ≡ false → TakesIn promised granted a.at.crq.place.own_slots d a (Registered answer ∷ []) first

pub parted_turn : (promised : Bool) (granted line : ℕ) (d : Doing) (a b : Site) (answer : RegAnswer) (later : List LoginStep) → BeginsIn promised granted d a → Runs line (later ++ Registered answer ∷ []) a b
    → FollowOn 1 later → Parted promised granted line d a b answer later
parted_turn promised granted line d a b answer later begins runs follow = record {
  first = split.first;
  runs = split.runs;
  follow = follow;
  start = λ going. starts promised granted line d a split.first answer begins split.registered split.hands going;
}
  where
    split : Splits line later answer a b
    split = splits line later answer a b runs

-- the login is to be tried again: nothing more is to come
pub puts_paused : (promised : Bool) (granted line : ℕ) (d : Doing) (a b : Site) (answer : RegAnswer) (later : List LoginStep) → Parted promised granted line d a b answer later
    → Pauses a.at.crq.place.own_slots (later ++ Registered answer ∷ []) b → PutsAll promised granted d a b
puts_paused promised granted line d a b answer later parts pauses =
    puts_all promised granted line a.at.crq.place.own_slots d a parts.first answer later b (parts.start (last_going later (Registered answer) pauses.going)) parts.runs parts.follow
    (none_front later (Registered answer) pauses.going) pauses.spent pauses.looked

paused : (promised : Bool) (granted line : ℕ) (d : Doing) (a b : Site) (answer : RegAnswer) (later : List LoginStep) → Parted promised granted line d a b answer later
    → Pauses a.at.crq.place.own_slots (later ++ Registered answer ∷ []) b → TurnsOver promised granted d a b
paused promised granted line d a b answer later parts pauses = turns_over promised granted d a b all.leads all.held
  where
    all : PutsAll promised granted d a b
    all = puts_paused promised granted line d a b answer later parts pauses

-- Before the last entry was looked at.
record LooksLast (promised : Bool) (granted line : ℕ) (d : Doing) (a b : Site) (found : Found) : Type 0 where
  at_last : Site
  leads : StepsTo promised granted d a at_last
  looked : Steps line (Looked found) at_last b
  hands : SameHands at_last b

looks_last : (promised : Bool) (granted line : ℕ) (d : Doing) (a b : Site) (answer : RegAnswer) (later : List LoginStep) (found : Found) → Parted promised granted line d a b answer later
    → EndsWith (Looked found) (later ++ Registered answer ∷ []) → LooksLast promised granted line d a b found
looks_last promised granted line d a b answer later found parts last = by (last_step later answer (Looked found) last.rest last.is)
  where
    at : (before : List LoginStep) → later ≡ Looked found ∷ before → NoneEnds (before ++ Registered answer ∷ []) → Runs line (Looked found ∷ before) parts.first b
        → FollowOn 1 (Looked found ∷ before) → LooksLast promised granted line d a b found
    at before are going (m, runs, did, hands) follow = record {
      at_last = m;
      leads = (takes_all promised granted line a.at.crq.place.own_slots d a parts.first answer before m (parts.start (last_going before (Registered answer) going)) runs follow.1
          (none_front before (Registered answer) going) (taking_front before follow.0)).leads;
      looked = did;
      hands = hands;
    }

    by : LastStep later answer (Looked found) last.rest ⊎ ((later ≡ []) × (Looked found ≡ Registered answer)) → LooksLast promised granted line d a b found
    by (inl one) = at one.before one.are (subst NoneEnds (sym one.rest_are) last.going) (subst (λ (list : List LoginStep). Runs line list parts.first b) one.are parts.runs)
        (subst (FollowOn 1) one.are parts.follow)
    by (inr none) = absurd (cc (none.1))

-- it was granted
granted_left : (promised : Bool) (granted line credits : ℕ) (d : Doing) (a b : Site) → LooksLast promised granted line d a b (Granted credits) → TurnLeft promised granted d a b (turns.Granted credits)
granted_left promised granted line credits d a b last = (grants.credits_are, grants.promised_is, by grants.leads)
  where
    grants : GrantedIn promised granted credits last.leads.left last.at_last b
    grants = over_granted promised granted line credits last.leads.left last.at_last b last.leads.stands last.looked last.hands

    by : StepsTo false granted last.leads.left last.at_last b ⊎ JoinsNow granted last.leads.left b.client last.at_last.at b.at → TurnEnds false granted d a b ⊎ JoinsNow granted d b.client a.at b.at
    by (inl steps) =
        inl (turn_ends false granted d a b (steps_behind promised false granted d a last.at_last b last.leads steps) grants.none_held (ap (λ (s : ClientState). s.login) last.looked.0.client))
    by (inr joins) = inr (record {
      left = joins.left;
      rests = rests_behind d last.leads.left joins.left a.at last.at_last.at b.at last.leads.rests joins.rests;
      seen = joins.seen;
      took = joins.took;
      client = joins.client;
      unit = joins.unit;
    })

-- or rejected
rejected_left : (promised : Bool) (granted line reason : ℕ) (d : Doing) (a b : Site) → LooksLast promised granted line d a b (Rejected reason) → TurnLeft promised granted d a b (turns.Rejected reason)
rejected_left promised granted line reason d a b last = (
  turn_ends promised granted d a b (steps_behind promised promised granted d a last.at_last b last.leads rejects.steps) rejects.none_held (ap (λ (s : ClientState). s.login) last.looked.0.client),
  (rejects.reason_is, subst (λ (who : UnitId). HasRejection who reason b.at.own.strokes) (ap (λ (e : Doing). e.id) last.leads.rests.is) rejects.laid),
)
  where
    rejects : RejectedIn promised granted reason last.leads.left last.at_last b
    rejects = over_rejected promised granted line reason last.leads.left last.at_last b last.leads.stands last.looked last.hands

-- or the unit is gone
lost_left : (promised : Bool) (granted line : ℕ) (d : Doing) (a b : Site) → LooksLast promised granted line d a b Lost → TurnLeft promised granted d a b turns.Lost
lost_left promised granted line d a b last = (turn_ends promised granted d a b (steps_behind promised promised granted d a last.at_last b last.leads lost.steps) lost.none_held lost.login, lost.aware)
  where
    lost : LostIn promised granted last.leads.left last.at_last b
    lost = over_lost promised granted line last.leads.left last.at_last b last.leads.stands last.looked last.hands

-- or the queue is not registered
busy_left : (promised : Bool) (granted line number held : ℕ) (d : Doing) (a b : Site) → BeginsIn promised granted d a → Steps line (Registered (reg.Busy number held)) a b → SameHands a b
    → TurnLeft promised granted d a b (turns.Busy number held)
busy_left promised granted line number held d a b begins did hands = by a.at.crq.registered refl
  where
    by : (there : Bool) → a.at.crq.registered ≡ there → TurnLeft promised granted d a b (turns.Busy number held)
    by true there = absurd (true≢false (finds_open a.client b.client a.at.crq b.at.crq (reg.Busy number held) there
        (subst (λ shared. Registers shared a.client b.client a.at.crq b.at.crq (reg.Busy number held)) begins.seen.alone did.0)).going)
    by false off =
        let up : HeldUp granted d a b = over_opens promised granted line (reg.Busy number held) d a b (record { seen = begins.seen; over = begins.over; off = off }) did hands in
        (record { stays = up.stays; settled = up.settled; fewer = λ some. absurd (true≢false (sym some ∙ up.grants)) }, (up.aware, up.off))

-- ---- the turn

pub over_login : (promised : Bool) (granted line : ℕ) (d : Doing) (a b : Site) (turn : LoginTurn) → BeginsIn promised granted d a → Turned line a b (Ok turn) → TurnLeft promised granted d a b turn
over_login promised granted line d a b turn begins turned = by turn turned.ends.1
  where
    order : AreInOrder turned.steps
    order = turned.ends.2

    split : Splits line order.later order.answer a b
    split = splits line order.later order.answer a b (subst (λ (list : List LoginStep). Runs line list a b) order.is turned.runs)

    parts : Parted promised granted line d a b order.answer order.later
    parts = record {
      first = split.first;
      runs = split.runs;
      follow = order.order;
      start = λ going. starts promised granted line d a split.first order.answer begins split.registered split.hands going;
    }

    last : (found : Found) → EndsWith (Looked found) turned.steps → LooksLast promised granted line d a b found
    last found ends = looks_last promised granted line d a b order.answer order.later found parts (subst (EndsWith (Looked found)) order.is ends)

    busy : (number held : ℕ) → order.later ≡ [] → Registered (reg.Busy number held) ≡ Registered order.answer → TurnLeft promised granted d a b (turns.Busy number held)
    busy number held none is =
        busy_left promised granted line number held d a b begins
        (subst (λ (site : Site). Steps line (Registered (reg.Busy number held)) a site) same
        (subst (λ (step : LoginStep). Steps line step a split.first) (sym is) split.registered))
        (subst (SameHands a) same split.hands)
      where
        same : split.first ≡ b
        same = sym (subst (λ (list : List LoginStep). Runs line list split.first b) none split.runs)

    by : (turn : LoginTurn) → Ends a.at.crq.place.own_slots b turn turned.steps → TurnLeft promised granted d a b turn
    by turns.Again pauses =
        paused promised granted line d a b order.answer order.later parts (subst (λ (list : List LoginStep). Pauses a.at.crq.place.own_slots list b) order.is pauses)
    by (turns.Granted credits) ends = granted_left promised granted line credits d a b (last (Granted credits) ends)
    by (turns.Rejected reason) ends = rejected_left promised granted line reason d a b (last (Rejected reason) ends)
    by turns.Lost ends = lost_left promised granted line d a b (last Lost ends)
    by (turns.Busy number held) ends = at (last_step order.later order.answer (Registered (reg.Busy number held)) ends.rest (sym order.is ∙ ends.is))
      where
        at : LastStep order.later order.answer (Registered (reg.Busy number held)) ends.rest ⊎ ((order.later ≡ []) × (Registered (reg.Busy number held) ≡ Registered order.answer))
            → TurnLeft promised granted d a b (turns.Busy number held)
        at (inl one) = absurd (busy_last order.later one.before (reg.Busy number held) one.are order.order)
        at (inr none) = busy number held none.0 none.1
