-- A turn of a script, its first and its last lines, and a line that waited and was ended: as plain clients see them.
use Rattle.std.proofs.Common.{◌≡◌, ◌∙◌, ◌⊎◌, inl, inr, ℕ, ◌+◌, ◌==◌, ◌++◌, ◌&&◌, All, not, Bool, true, false, true≢false, List, [], ◌∷◌, Option, Some, None, IfSome, IsSomeAnd, is_some, length, refl, slice_get, sym, ap, subst, arith, eqb-true}
use Rattle.boot_text.specs.declared.plan.Line.{Line}
use Rattle.vio_num.specs.Entry.{is_srp_entry}
use Rattle.vio_num.specs.declared.entry.Entry.{Entry}
use Rattle.vio_num.specs.declared.names.UnitId.{UnitId}
use Rattle.vio_trace.specs.declared.rows.LogRow.{LogRow}
use Rattle.crq_session.specs.PlainState.{side_of}
use Rattle.crq_session.specs.declared.handshake.Handshake.TheVariants.{Down, Waiting}
use Rattle.block_server.specs.declared.unit.Unit.{Unit}
use Rattle.vscsi_client.specs.State.{ClientState, new_client}
use Rattle.vcpu_run.specs.Credited.{Ended, ended_by}
use Rattle.vcpu_run.specs.Pairs.{AreDriven}
use Rattle.vcpu_run.specs.PlainClients.{granted_in}
use Rattle.vcpu_run.specs.PlainScripts.{AllRestPlainly, AllTalkOn, EndsPlainly, IsPlainSeat, OfUnit, PairAsks, PairIs, PairKeepsRights, PairNotes, PairTalks, QuietsPlainly, StandsAt, StandsPlainly, StandsPlainlyAt, TurnsPlainly, after_ended, answers_in, awaits, owes_at, owes_to, rows_in, told_in}
use Rattle.vcpu_run.specs.PlainPairs.{between_of}
use Rattle.vcpu_run.specs.PlainSteps.{AreReplayedAs, FollowsReplay, HasCome, RestsAs, WasFailed}
use Rattle.vcpu_run.specs.PlainTalk.{Between, TalksPlainly}
use Rattle.vcpu_run.specs.Replay.{IsReplayed, Replay, before_lines}
use Rattle.vcpu_run.specs.Scripts.{AreSeats}
use Rattle.vcpu_run.specs.ScriptTold.{SameClient, SameClients}
use Rattle.vcpu_run.specs.TakenScripts.{AllGive}
use Rattle.vcpu_run.specs.Works.{fails}
use Rattle.vcpu_run.specs.declared.driver.Driver.{Driver}
use Rattle.vcpu_run.specs.declared.pair.Pair.{Pair}
use Rattle.vcpu_run.specs.declared.script.Progress.{Progress}
use Rattle.vcpu_run.specs.declared.script.Progress.TheVariants as progress
use Rattle.vcpu_run.specs.declared.script.Script.{Script}
use Rattle.vcpu_run.proofs.Crediting.{here_or}
use Rattle.vcpu_run.proofs.DataNoted.{keep_clients, keep_gives, keep_on}
use Rattle.vcpu_run.proofs.Driving.{some_is}
use Rattle.vcpu_run.proofs.Listed.{held, held_is, is_held}
use Rattle.vcpu_run.proofs.PlainAreLaid.{laid_same}
use Rattle.vcpu_run.proofs.PlainAsking.{follows_still}
use Rattle.vcpu_run.proofs.PlainReplayed.{come_still}
use Rattle.vcpu_run.proofs.PlainOwed.{idle_owes, one_if, owes_none}
use Rattle.vcpu_run.proofs.PlainScripted.{anew_at, ended_other, noted_at, notes_none, other_ends, owed_at, pair_still, rights_at, stands_next}
use Rattle.vcpu_run.proofs.ScriptsTold.{EndsWaiting, of_login, of_reset, of_take}
use Rattle.vcpu_run.proofs.SeatPairs.{after_of, before_of}
use Rattle.vcpu_run.proofs.PlainSeated.{pair_is, pair_was}
use Rattle.vcpu_run.proofs.PlainTellings.{driven_tell}
use Rattle.tce_window.specs.PlainPort.{known_of}
use Rattle.tce_window.specs.PortState.{PortPlace}

-- ---- behind the last line

-- a client between two lines is owed nothing, nor is one whose partition failed
pub rests_owe : (granted : ℕ) (unit : Unit) (now : Replay) (pair : Pair) → PairTalks granted unit [] pair → PairIs (RestsAs granted now) pair → owes_at unit [] pair ≡ 0
rests_owe granted unit now pair talks follows = by pair.driver talks follows
  where
    at : (driver : Driver) → TalksPlainly granted (between_of unit driver pair) [] → RestsAs granted now (between_of unit driver pair) → owes_to unit [] (Some driver) pair ≡ 0
    at driver h (inl f) = idle_owes granted (between_of unit driver pair) [] h f.login
    at driver h (inr f) = owes_none (between_of unit driver pair) [] (inl f.registered)

    by : (o : Option Driver) → IsSomeAnd o (λ driver. TalksPlainly granted (between_of unit driver pair) []) → IsSomeAnd o (λ driver. (other : Unit) → RestsAs granted now (between_of other driver pair))
        → owes_to unit [] o pair ≡ 0
    by None h f = refl
    by (Some driver) h f = at driver h (f unit)

pub rests_plainly : (old new : List Pair) (script : Script) → slice_get script.lines.now script.at ≡ None → AreSeats script.partition script.seats.items old → AreDriven old new
    → AllRestPlainly old new → AllGive old new → TurnsPlainly old new script script
rests_plainly old new script over are driven rests gives granted u k unit seat talks stood =
    let was = held (PairTalks granted unit []) (slice_get old k) talks in
    let stands : StandsPlainly granted u script was.0 = held_is (StandsPlainly granted u script) (slice_get old k) was.0 was.1 stood in
    let after = after_of script.partition u k script.seats.items old new are driven seat.sits in
    let b = before_of script.partition u k script.seats.items old new after.0 are driven seat.sits after.1 in
    let pages : length after.0.window.pages ≡ length was.0.window.pages = b.pages ∙ ap (λ (pair : Pair). length pair.window.pages) (some_is b.pair was.0 (sym b.there ∙ was.1)) in
    let follows : (later : Replay) × PairIs (RestsAs granted later) was.0 =
    subst (λ (o : Option Line). StandsAt granted u o script.progress (after_ended granted (length was.0.window.pages) before_lines (ended_by u script.lines.now script.logs.items)) was.0) over stands.stands in
    let later = rests k was.0 after.0 was.1 after.1 granted unit follows.0 was.2 follows.1 in
    record {
      words = [];
      laid = λ before after there here. driven_tell unit.id k old new before after (told_in u script) driven there here;
      owed = owed_at k (granted_in (told_in u script)) (granted_in (told_in u script)) unit old new was.0 after.0 [] was.1 after.1
          (omega (arith, rests_owe granted unit later.2 after.0 later.0 later.3));
      talks = is_held (PairTalks granted unit []) (slice_get new k) after.0 after.1 later.0;
      anew = anew_at k old new was.0 after.0 [] was.1 after.1 later.1;
      noted = noted_at k old new was.0 after.0 was.1 after.1 (later.4 (answers_in was.0.driver) (notes_none was.0 was.0 refl));
      keeps = keep_gives old new gives;
      rights = rights_at k old new was.0 after.0 was.1 after.1 later.5;
      stands = is_held (StandsPlainly granted u script) (slice_get new k) after.0 after.1 (record {
        replayed = subst (λ n. IsReplayed granted n before_lines (ended_by u script.lines.now script.logs.items)) (sym pages) stands.replayed;
        stands = subst (λ (o : Option Line). StandsAt granted u o script.progress (after_ended granted (length after.0.window.pages) before_lines (ended_by u script.lines.now script.logs.items)) after.0) (sym over)
            (later.2, later.3);
      });
    }

pub rests_quietly : (old new : List Pair) (script : Script) → slice_get script.lines.now script.at ≡ None → QuietsPlainly old new script script
rests_quietly old new script over granted u k unit seat talks stood idle =
    subst (λ (o : Option Line). IfSome o (λ line. line.unit ≡ u → awaits line.verb ≡ false)) (sym over) tt

-- ---- the client is as it was

pub rests_either : (granted : ℕ) (later : Replay) (before after : Pair) → after.driver ≡ before.driver → (side_of after.link false).registered ≡ (side_of before.link false).registered
    → (PairIs WasFailed before → PairIs WasFailed after) → PairIs (RestsAs granted later) before → PairIs (RestsAs granted later) after
rests_either granted later before after driver queue failed is =
    subst (λ (o : Option Driver). IsSomeAnd o (λ d. (unit : Unit) → RestsAs granted later (between_of unit d after))) (sym driver) (by before.driver refl is)
  where
    by : (o : Option Driver) → before.driver ≡ o → IsSomeAnd o (λ d. (unit : Unit) → RestsAs granted later (between_of unit d before))
        → IsSomeAnd o (λ d. (unit : Unit) → RestsAs granted later (between_of unit d after))
    by None e h = absurd h
    by (Some d) e h = λ unit. at unit (h unit)
      where
        at : (unit : Unit) → RestsAs granted later (between_of unit d before) → RestsAs granted later (between_of unit d after)
        at unit (inl f) = inl (follows_still granted later (between_of unit d before) (between_of unit d after) f refl queue)
        at unit (inr f) = inr (pair_was WasFailed after d (driver ∙ e)
            (failed (pair_is WasFailed before d e (λ other. record { laid = f.laid; registered = f.registered; kept = f.kept }))) unit)

pub was_still : (at at' : Between) → at'.client ≡ at.client → at'.own.registered ≡ at.own.registered → at'.window.place ≡ at.window.place
    → ((page : ℕ) → at'.window.strokes page ≡ at.window.strokes page) → WasFailed at → WasFailed at'
was_still at at' client registered place strokes is = record {
  laid = laid_same at.client at'.client at.window at'.window (ap (λ (s : ClientState). s.kept) client) (ap (λ (s : ClientState). s.outgoing) client)
      (ap (λ (p : PortPlace). p.unit) place) (ap (λ (p : PortPlace). p.size) place) strokes is.laid;
  registered = registered ∙ is.registered;
  kept = subst (λ (s : ClientState). All (λ (entry : Entry). is_srp_entry entry ≡ true) s.kept) (sym client) is.kept;
}

-- its partition failed, and its window is as it was
pub failed_still : (before after : Pair) → after.driver ≡ before.driver → (side_of after.link false).registered ≡ (side_of before.link false).registered
    → (known_of after.window).place ≡ (known_of before.window).place → ((page : ℕ) → (known_of after.window).strokes page ≡ (known_of before.window).strokes page)
    → PairIs WasFailed before → PairIs WasFailed after
failed_still before after driver queue place strokes is =
    subst (λ (o : Option Driver). IsSomeAnd o (λ d. (unit : Unit) → WasFailed (between_of unit d after))) (sym driver) (by before.driver is)
  where
    by : (o : Option Driver) → IsSomeAnd o (λ d. (unit : Unit) → WasFailed (between_of unit d before)) → IsSomeAnd o (λ d. (unit : Unit) → WasFailed (between_of unit d after))
    by None h = absurd h
    by (Some d) h = λ unit. was_still (between_of unit d before) (between_of unit d after) refl queue place strokes (h unit)

-- how far a line came goes by the client, and by whether its queue is registered
pub stands_moved : (granted u : ℕ) (o : Option Line) (p : Progress) (now : Replay) (before after : Pair) → (PairIs WasFailed before → PairIs WasFailed after) → after.driver ≡ before.driver
    → (side_of after.link false).registered ≡ (side_of before.link false).registered → StandsAt granted u o p now before → StandsAt granted u o p now after
stands_moved granted u None p now before after failed driver queue is = (is.0, rests_either granted is.0 before after driver queue failed is.1)
stands_moved granted u (Some line) p now before after failed driver queue (inr is) = inr (is.0, failed is.1)
stands_moved granted u (Some line) p now before after failed driver queue (inl is) = inl (at (line.unit == u) is)
  where
    at : (b : Bool) → OfUnit b (PairIs (HasCome granted line.verb p now) before) (PairIs (FollowsReplay granted now) before)
        → OfUnit b (PairIs (HasCome granted line.verb p now) after) (PairIs (FollowsReplay granted now) after)
    at true come = pair_still (HasCome granted line.verb p now) before after (come_still granted line.verb p now) driver queue come
    at false f = pair_still (FollowsReplay granted now) before after (λ at at' client registered f. follows_still granted now at at' f client registered) driver queue f

stands_still : (granted u : ℕ) (script : Script) (before after : Pair) → (PairIs WasFailed before → PairIs WasFailed after) → after.driver ≡ before.driver → length after.window.pages ≡ length before.window.pages
    → (side_of after.link false).registered ≡ (side_of before.link false).registered → StandsPlainly granted u script before → StandsPlainly granted u script after
stands_still granted u script before after failed driver pages queue stood = record {
  replayed = subst (λ n. IsReplayed granted n before_lines (ended_by u script.lines.now script.logs.items)) (sym pages) stood.replayed;
  stands = subst (λ n. StandsAt granted u (slice_get script.lines.now script.at) script.progress (after_ended granted n before_lines (ended_by u script.lines.now script.logs.items)) after) (sym pages)
      (stands_moved granted u (slice_get script.lines.now script.at) script.progress (after_ended granted (length before.window.pages) before_lines (ended_by u script.lines.now script.logs.items))
      before after failed driver queue stood.stands);
}

pub clients_stand : (granted u k : ℕ) (old new : List Pair) (script : Script) → (slice_get new k ≡ None → slice_get old k ≡ None)
    → ((before after : Pair) → slice_get old k ≡ Some before → slice_get new k ≡ Some after → PairIs WasFailed before → PairIs WasFailed after) → SameClients old new → StandsPlainlyAt granted u k old script
    → StandsPlainlyAt granted u k new script
clients_stand granted u k old new script there failed same stood = by (slice_get new k) refl
  where
    was : (pair : Pair) × (slice_get old k ≡ Some pair) × StandsPlainly granted u script pair
    was = held (StandsPlainly granted u script) (slice_get old k) stood

    none : (o : Option Pair) → o ≡ None → o ≡ Some was.0 → ⊥
    none o a b = cc (a, b)

    by : (o : Option Pair) → slice_get new k ≡ o → IsSomeAnd o (StandsPlainly granted u script)
    by None e = absurd (none (slice_get old k) (there e) was.1)
    by (Some after) e = at (slice_get old k) refl (same k after e)
      where
        at : (o : Option Pair) → slice_get old k ≡ o → IsSomeAnd o (λ before. SameClient before after) → StandsPlainly granted u script after
        at None e' h = absurd h
        at (Some before) e' h =
            stands_still granted u script before after (failed before after e' e) h.driver h.pages h.queue (subst (StandsPlainly granted u script) (some_is was.0 before (sym was.1 ∙ e')) was.2)

-- ---- kept events are pushed first

-- what of a plain client stands as they were pushed
record Pushed (granted u k : ℕ) (unit : Unit) (script : Script) (old mid : List Pair) : Type 0 where
  talks : IsSomeAnd (slice_get mid k) (PairTalks granted unit [])
  stands : StandsPlainlyAt granted u k mid script
  rows : (before middle : Pair) → slice_get old k ≡ Some before → slice_get mid k ≡ Some middle → rows_in middle.driver ≡ rows_in before.driver
  notes : (before middle : Pair) → slice_get old k ≡ Some before → slice_get mid k ≡ Some middle → answers_in middle.driver ≡ answers_in before.driver
  owes : (before middle : Pair) → slice_get old k ≡ Some before → slice_get mid k ≡ Some middle → owes_at unit [] middle ≡ owes_at unit [] before
  rights : (before middle : Pair) → slice_get old k ≡ Some before → slice_get mid k ≡ Some middle → PairKeepsRights before middle
  after : (middle : Pair) × (slice_get mid k ≡ Some middle)

pushed : (granted u k : ℕ) (unit : Unit) (script : Script) (old mid : List Pair) → AreSeats script.partition script.seats.items old → AreDriven old mid → SameClients old mid → AllTalkOn old mid
    → IsPlainSeat script u k → IsSomeAnd (slice_get old k) (PairTalks granted unit []) → StandsPlainlyAt granted u k old script → Pushed granted u k unit script old mid
pushed granted u k unit script old mid are driven same on seat talks stood =
    let was = held (PairTalks granted unit []) (slice_get old k) talks in
    let after = after_of script.partition u k script.seats.items old mid are driven seat.sits in
    record {
      talks = is_held (PairTalks granted unit []) (slice_get mid k) after.0 after.1 (on k was.0 after.0 was.1 after.1 granted unit was.2).0;
      stands = clients_stand granted u k old mid script (λ none. absurd (both (slice_get mid k) none after.1))
          (λ before middle there here. (on k before middle there here granted unit
          (held_is (PairTalks granted unit []) (slice_get old k) before there talks)).1) same stood;
      rows = λ before middle there here. rows_at before middle (slice_get old k) there (same k middle here);
      notes = λ before middle there here. answers_at before middle (slice_get old k) there (same k middle here);
      owes = λ before middle there here. owes_same before middle (slice_get old k) there (same k middle here);
      rights = λ before middle there here. (on k before middle there here granted unit
          (held_is (PairTalks granted unit []) (slice_get old k) before there talks)).2;
      after = after;
    }
  where
    both : {o' : Pair} (o : Option Pair) → o ≡ None → o ≡ Some o' → ⊥
    both o a b = cc (a, b)

    rows_at : (before middle : Pair) (o : Option Pair) → o ≡ Some before → IsSomeAnd o (λ b. SameClient b middle) → rows_in middle.driver ≡ rows_in before.driver
    rows_at before middle None there h = absurd h
    rows_at before middle (Some b) there h = ap rows_in h.driver ∙ ap (λ (pair : Pair). rows_in pair.driver) (some_is b before there)

    answers_at : (before middle : Pair) (o : Option Pair) → o ≡ Some before → IsSomeAnd o (λ b. SameClient b middle) → answers_in middle.driver ≡ answers_in before.driver
    answers_at before middle None there h = absurd h
    answers_at before middle (Some b) there h = ap answers_in h.driver ∙ ap (λ (pair : Pair). answers_in pair.driver) (some_is b before there)

    owed_of : (a b : Pair) → SameClient a b → (o : Option Driver) → owes_to unit [] o b ≡ owes_to unit [] o a
    owed_of a b is None = refl
    owed_of a b is (Some driver) = ap (λ there. one_if (there && (not (is_some driver.client.granted) && (unit.logins.taking && not false)))) is.queue

    owes_same : (before middle : Pair) (o : Option Pair) → o ≡ Some before → IsSomeAnd o (λ b. SameClient b middle) → owes_at unit [] middle ≡ owes_at unit [] before
    owes_same before middle None there h = absurd h
    owes_same before middle (Some b) there h =
        ap (λ (o : Option Driver). owes_to unit [] o middle) h.driver ∙ owed_of b middle h b.driver ∙ ap (owes_at unit []) (some_is b before there)

pub pushes_plainly : (old mid new : List Pair) (script later : Script) → AreSeats script.partition script.seats.items old → AreDriven old mid → SameClients old mid → AllTalkOn old mid
    → TurnsPlainly mid new script later → TurnsPlainly old new script later
pushes_plainly old mid new script later are driven same on turns granted u k unit seat talks stood =
    let p = pushed granted u k unit script old mid are driven same on seat talks stood in
    let turned = turns granted u k unit seat p.talks p.stands in
    record {
      words = turned.words;
      talks = turned.talks;
      anew = λ before after there here. subst (λ n. PairAsks n turned.words after) (p.rows before p.after.0 there p.after.1) (turned.anew p.after.0 after p.after.1 here);
      noted = λ before after there here. subst (λ list. PairNotes list after) (p.notes before p.after.0 there p.after.1) (turned.noted p.after.0 after p.after.1 here);
      laid = λ before after there here all.
          turned.laid p.after.0 after p.after.1 here (driven_tell unit.id k old mid before p.after.0 (told_in u script) driven there p.after.1 all);
      owed = λ before after there here. omega (arith, p.owes before p.after.0 there p.after.1, turned.owed p.after.0 after p.after.1 here);
      keeps = keep_on old mid new driven (keep_clients old mid same) turned.keeps;
      rights = λ before after there here has. turned.rights p.after.0 after p.after.1 here (p.rights before p.after.0 there p.after.1 has);
      stands = turned.stands;
    }

pub pushes_quietly : (old mid new : List Pair) (script later : Script) → AreSeats script.partition script.seats.items old → AreDriven old mid → SameClients old mid → AllTalkOn old mid
    → QuietsPlainly mid new script later → QuietsPlainly old new script later
pushes_quietly old mid new script later are driven same on quiets granted u k unit seat talks stood idle =
    let p = pushed granted u k unit script old mid are driven same on seat talks stood in quiets granted u k unit seat p.talks p.stands idle

-- ---- a line that waited is ended: it is none of the client's

pub waiting_ends : (granted u k : ℕ) (pairs : List Pair) (script done : Script) (line : Line) (row : LogRow) → slice_get script.lines.now script.at ≡ Some line
    → length script.logs.items ≡ script.at → EndsWaiting script.progress line.verb row.outcome → done.lines ≡ script.lines → done.logs.items ≡ script.logs.items ++ row ∷ []
    → done.progress ≡ progress.Fresh → EndsPlainly granted u k pairs script done
waiting_ends granted u k pairs script done line row found many ends lines logs fresh none stood =
    let was = held (StandsPlainly granted u script) (slice_get pairs k) stood in (
      is_held (StandsPlainly granted u done) (slice_get pairs k) was.0 was.1
          (other_ends granted u script done line row was.0 found (goes ends) many lines logs fresh (other (here_or line.unit u)) was.2),
      ended_other u script done line row found many lines logs (other (here_or line.unit u)),
    )
  where
    goes : EndsWaiting script.progress line.verb row.outcome → fails line.verb ≡ false
    goes (of_login verb outcome) = ap fails verb
    goes (of_reset verb outcome) = ap fails verb
    goes (of_take count verb outcome) = ap fails verb

    awaited : EndsWaiting script.progress line.verb row.outcome → awaits line.verb ≡ true
    awaited (of_login verb outcome) = ap awaits verb
    awaited (of_reset verb outcome) = ap awaits verb
    awaited (of_take count verb outcome) = ap awaits verb

    other : ((line.unit == u) ≡ true) ⊎ ((line.unit == u) ≡ false) → (line.unit == u) ≡ false
    other (inr differ) = differ
    other (inl same) =
        let quiet : line.unit ≡ u → awaits line.verb ≡ false = subst (λ (o : Option Line). IfSome o (λ l. l.unit ≡ u → awaits l.verb ≡ false)) found none in
        absurd (true≢false (sym (awaited ends) ∙ quiet (eqb-true line.unit u same)))

-- ---- before the first line

new_follows : (granted : ℕ) (pair : Pair) (driver : Driver) (id server : UnitId) → pair.driver ≡ Some driver → driver.client ≡ new_client id server
    → (side_of pair.link false).registered ≡ false → PairIs (FollowsReplay granted before_lines) pair
new_follows granted pair driver id server is client off =
    subst (λ (o : Option Driver). IsSomeAnd o (λ d. (unit : Unit) → FollowsReplay granted before_lines (between_of unit d pair))) (sym is) (λ unit. record {
      tag = ap (λ (s : ClientState). length s.rows + 1) client;
      login = ap (λ (s : ClientState). s.login) client;
      settled = λ waits. not_waiting (sym (ap (λ (s : ClientState). s.handshake) client) ∙ waits);
      fresh = λ none. ap (λ (s : ClientState). s.kept) client;
      credits = record {
        is_on = ap (λ (s : ClientState). is_some s.granted) client;
        there = λ on. absurd (true≢false (sym on));
        outstanding = subst (λ (s : ClientState). AreReplayedAs s.outgoing []) (sym client) tt;
        none = λ off. refl;
        within = omega arith;
      };
    })
  where
    not_waiting : Down ≡ Waiting → ⊥
    not_waiting e = cc (e)

pub none_ended : (u : ℕ) (lines : List Line) → ended_by u lines [] ≡ []
none_ended u [] = refl
none_ended u (line ∷ lines) = refl

pub starts_plainly : (granted u : ℕ) (script : Script) (pair : Pair) (driver : Driver) (id server : UnitId) → script.logs.items ≡ [] → script.progress ≡ progress.Fresh
    → pair.driver ≡ Some driver → driver.client ≡ new_client id server → (side_of pair.link false).registered ≡ false → StandsPlainly granted u script pair
starts_plainly granted u script pair driver id server logs fresh is client off =
    let none : ended_by u script.lines.now script.logs.items ≡ [] = ap (ended_by u script.lines.now) logs ∙ none_ended u script.lines.now in
    record {
      replayed = subst (IsReplayed granted (length pair.window.pages) before_lines) (sym none) tt;
      stands = subst (λ (list : List Ended). StandsAt granted u (slice_get script.lines.now script.at) script.progress (after_ended granted (length pair.window.pages) before_lines list) pair) (sym none)
          (subst (λ (p : Progress). StandsAt granted u (slice_get script.lines.now script.at) p before_lines pair) (sym fresh)
          (stands_next granted u (slice_get script.lines.now script.at) before_lines pair (new_follows granted pair driver id server is client off)));
    }
