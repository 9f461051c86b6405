-- The replay of the lines of LAN units, as steps of lines go on.
use Rattle.std.proofs.Common.{◌≡◌, inl, ℕ, ◌==◌, ◌&&◌, cond, Bool, true, false, List, [], ◌∷◌, ◌++◌, append-nil, Option, Some, None, length, refl, sym, ◌∙◌, ap, subst}
use Rattle.std.specs.List.{slice_get}
use Rattle.vio_num.specs.declared.hypervisor.Moved.{Moved}
use Rattle.vio_num.specs.declared.names.UnitId.{UnitId}
use Rattle.boot_text.specs.declared.plan.Line.{Line}
use Rattle.boot_text.specs.declared.verb.Verb.{Verb}
use Rattle.boot_text.specs.declared.verb.Verb.TheVariants as verbs
use Rattle.unit_region.specs.declared.step.Step.TheVariants as steps
use Rattle.vio_trace.specs.declared.outcome.Outcome.{Outcome}
use Rattle.vio_trace.specs.declared.rows.LogRow.{LogRow}
use Rattle.lan_script.specs.PortReplay.{LineSays, PortReplay, closed_replay}
use Rattle.lan_script.specs.Replayed.{IsFirst, IsReplayable, is_replayed, replay_at}
use Rattle.lan_script.specs.Seats.{seat_at}
use Rattle.lan_script.specs.Units.{LanValue}
use Rattle.lan_script.specs.Values.{KeepsValues, is_put}
use Rattle.lan_script.specs.declared.seat.PortSeat.{PortSeat}
use Rattle.vcpu_run.specs.declared.script.Progress.{Progress}
use Rattle.vcpu_run.specs.declared.script.Script.{Script}
use Rattle.vcpu_run.specs.declared.unit_seat.Seat.TheVariants as sits
use Rattle.vcpu_run.specs.Credited.{Ended, ended_by}
use Rattle.vcpu_run.specs.Ports.{unit_of}
use Rattle.vcpu_run.specs.PortReplays.{AreReplayed, IsFirstOf, IsPlainPort, IsStill, KeepsReplay, StepReplays, puts_own, sent_at}
use Rattle.vcpu_run.specs.PortSteps.{AllTake, AreFresh, RisesIf, TellsStep}
use Rattle.vcpu_run.specs.PortWords.{ReplaysOwn, TellsReplay, done_in}
use Rattle.vcpu_run.specs.Suited.{is_call}
use Rattle.vcpu_run.specs.Works.{fails}
use Rattle.lan_switch.specs.Switch.{port_of}
use Rattle.lan_script.proofs.Laws.{grows_same, region_same}
use Rattle.vcpu_run.proofs.PortKept.{kept_same}
use Rattle.vcpu_run.proofs.Crediting.{ended_more}
use Rattle.vcpu_run.proofs.Logging.{all_at}

-- one line more
more_replayed : (seat : PortSeat) (old mid new : PortReplay) (es : List Ended) (e : Ended) → AreReplayed seat old es mid → LineSays seat e.verb e.outcome mid new
    → AreReplayed seat old (es ++ e ∷ []) new
more_replayed seat old mid new [] e same says = (new, subst (λ (a : PortReplay). LineSays seat e.verb e.outcome a new) same says, refl)
more_replayed seat old mid new (x ∷ es) e (next, first, rest) says = (next, first, more_replayed seat next mid new es e rest says)

-- a line that is none of a replay leaves it
says_none : (seat : PortSeat) (verb : Verb) (outcome : Outcome) (now : PortReplay) → is_replayed verb ≡ false → LineSays seat verb outcome now now
says_none seat verbs.Open outcome now e = absurd (cc (e))
says_none seat verbs.Close outcome now e = absurd (cc (e))
says_none seat (verbs.ChangeMac mac) outcome now e = absurd (cc (e))
says_none seat (verbs.Multicast control mac) outcome now e = absurd (cc (e))
says_none seat (verbs.Post at len count) outcome now e = absurd (cc (e))
says_none seat (verbs.Send mac len seed at) outcome now e = absurd (cc (e))
says_none seat verb outcome now e = refl

not_both : (b : Bool) → b ≡ true → b ≡ false → ⊥
not_both b is isnt = cc (is, isnt)

-- a line that did nothing yet
first_fresh : (unit done : ℕ) (o : Option Line) → done ≡ 0 → IsFirstOf unit done o
first_fresh unit done None e = tt
first_fresh unit done (Some line) e = λ own replayed. e

own_put : (x y : Bool) → (x && y) ≡ false → x ≡ true → y ≡ false
own_put true y e h = e
own_put false y e h = absurd (cc (h))

-- the current line of a plain port puts no value
puts_none : (unit : ℕ) (script : Script) (line : Line) → slice_get script.lines.now script.at ≡ Some line → IsPlainPort unit script.lines.now
    → (line.unit == unit) ≡ true → is_put line.verb ≡ false
puts_none unit script line found plain own =
    own_put (line.unit == unit) (is_put line.verb) (all_at (λ (l : Line). puts_own unit l ≡ false) script.lines.now script.at line found plain.no_entry) own

seat_back : (lan lan' : LanValue) (unit : UnitId) (seat : PortSeat) → lan'.seats ≡ lan.seats → seat_at lan'.seats unit ≡ Some seat → seat_at lan.seats unit ≡ Some seat
seat_back lan lan' unit seat same at = ap (λ ss. seat_at ss unit) (sym same) ∙ at

-- a port whose window keeps its values is one of a replay still
still_able : (seat : PortSeat) (lan lan' : LanValue) (unit : UnitId) → IsReplayable seat lan unit → seat_at lan'.seats unit ≡ Some seat
    → KeepsValues unit lan.places lan'.places → IsReplayable seat lan' unit
still_able seat lan lan' unit able at values = record {
  is = at;
  sized = able.sized;
  own = able.own;
  grants = λ e. values e ∙ able.grants e;
}

still_keeps : (seat : PortSeat) (own : List Ended) (lan lan' : LanValue) (unit : UnitId) → KeepsReplay seat own lan unit → seat_at lan'.seats unit ≡ Some seat
    → IsStill lan lan' unit → KeepsReplay seat own lan' unit
still_keeps seat own lan lan' unit keeps at still = record {
  able = still_able seat lan lan' unit keeps.able at still.values;
  replayed = subst (λ (b : PortReplay). AreReplayed seat closed_replay own b) (sym still.replay) keeps.replayed;
}

-- what the end of a line says of a port of its partition
abbrev pub EndsReplay : (own : Bool) → UnitId → Verb → (done : ℕ) → Outcome → (lan lan' : LanValue) → Type 0
EndsReplay true unit verb done outcome lan lan' = StepReplays unit verb done lan lan' (steps.Ends outcome)
EndsReplay false unit verb done outcome lan lan' = IsStill lan lan' unit

ends_seats : (own : Bool) (unit : UnitId) (verb : Verb) (done : ℕ) (outcome : Outcome) (lan lan' : LanValue) → EndsReplay own unit verb done outcome lan lan'
    → lan'.seats ≡ lan.seats
ends_seats true unit verb done outcome lan lan' h = h.seats
ends_seats false unit verb done outcome lan lan' h = h.seats

ends_keeps : (own : Bool) (seat : PortSeat) (unit : UnitId) (verb : Verb) (done : ℕ) (outcome : Outcome) (es : List Ended) (lan lan' : LanValue)
    → EndsReplay own unit verb done outcome lan lan' → KeepsReplay seat es lan unit → seat_at lan'.seats unit ≡ Some seat
    → (own ≡ true → IsFirst verb done) → (own ≡ true → is_put verb ≡ false)
    → KeepsReplay seat (cond own (es ++ record { verb = verb; outcome = outcome } ∷ []) es) lan' unit
ends_keeps true seat unit verb done outcome es lan lan' h keeps at first none = record {
  able = still_able seat lan lan' unit keeps.able at (h.values (none refl));
  replayed = more_replayed seat closed_replay (replay_at lan unit) (replay_at lan' unit) es (record { verb = verb; outcome = outcome }) keeps.replayed
      (h.says (first refl) seat keeps.able);
}
ends_keeps false seat unit verb done outcome es lan lan' h keeps at first none = still_keeps seat es lan lan' unit keeps at h

-- the current line waits
waits_at : (lan lan' : LanValue) (script : Script) (p : Progress) (line : Line) (moved : Moved) → slice_get script.lines.now script.at ≡ Some line
    → (is_call line.verb ≡ false → TellsStep script.partition script.seats.items line (done_in script.progress) (done_in p) lan lan' (steps.Waits moved))
    → TellsReplay lan script → TellsReplay lan' (record script { progress = p })
waits_at lan lan' script p line moved found step tells unit plain sat seat at sized own = by (line.unit == unit) refl ((step no_call).rises unit sat)
  where
    u : UnitId
    u = unit_of script.partition unit

    no_call : is_call line.verb ≡ false
    no_call = all_at (λ (l : Line). is_call l.verb ≡ false) script.lines.now script.at line found plain.no_call

    was : lan'.seats ≡ lan.seats → ReplaysOwn lan script unit seat
    was same = tells unit plain sat seat (seat_back lan lan' u seat same at) sized own

    by : (b : Bool) → (line.unit == unit) ≡ b → RisesIf b u line.verb (done_in script.progress) (done_in p) lan lan' (steps.Waits moved)
        → ReplaysOwn lan' (record script { progress = p }) unit seat
    by true e h =
        let before : ReplaysOwn lan script unit seat = was h.1.seats in
        let first : IsFirst line.verb (done_in script.progress) = subst (λ (o : Option Line). IsFirstOf unit (done_in script.progress) o) found before.first e in
        let says = h.1.says first seat before.keeps.able in
        record {
          keeps = record {
            able = still_able seat lan lan' u before.keeps.able at (h.1.values (puts_none unit script line found plain e));
            replayed = subst (λ (b : PortReplay). AreReplayed seat closed_replay (ended_by unit script.lines.now script.logs.items) b) (sym says.1) before.keeps.replayed;
          };
          first = subst (λ (o : Option Line). IsFirstOf unit (done_in p) o) (sym found) (λ here replayed. absurd (not_both (is_replayed line.verb) replayed says.0));
        }
    by false e h =
        let before : ReplaysOwn lan script unit seat = was h.still.seats in
        record {
          keeps = still_keeps seat (ended_by unit script.lines.now script.logs.items) lan lan' u before.keeps at h.still;
          first = subst (λ (o : Option Line). IsFirstOf unit (done_in p) o) (sym found) (λ here replayed. absurd (not_both (line.unit == unit) here e));
        }

pub replay_waits : (lan lan' : LanValue) (script script' : Script) (line : Line) (moved : Moved) → slice_get script.lines.now script.at ≡ Some line
    → script' ≡ record script { progress = script'.progress }
    → (is_call line.verb ≡ false → TellsStep script.partition script.seats.items line (done_in script.progress) (done_in script'.progress) lan lan' (steps.Waits moved))
    → TellsReplay lan script → TellsReplay lan' script'
replay_waits lan lan' script script' line moved found same step tells =
    subst (λ (s : Script). TellsReplay lan' s) (sym same) (waits_at lan lan' script script'.progress line moved found step tells)

-- it ends
pub replay_ends : (lan lan' : LanValue) (script ended : Script) (line : Line) (row : LogRow) → slice_get script.lines.now script.at ≡ Some line
    → length script.logs.items ≡ script.at → ended.partition ≡ script.partition → ended.lines ≡ script.lines → ended.seats ≡ script.seats
    → ended.logs.items ≡ script.logs.items ++ row ∷ [] → done_in ended.progress ≡ 0
    → (is_call line.verb ≡ false → fails line.verb ≡ false → (unit : ℕ) → slice_get script.seats.items unit ≡ Some sits.Port
    → EndsReplay (line.unit == unit) (unit_of script.partition unit) line.verb (done_in script.progress) row.outcome lan lan')
    → TellsReplay lan script → TellsReplay lan' ended
replay_ends lan lan' script ended line row found reached partition lines seats logs fresh step tells unit plain' sat' seat at' sized own = record {
  keeps = subst (λ (p : ℕ). KeepsReplay seat (ended_by unit ended.lines.now ended.logs.items) lan' (unit_of p unit)) (sym partition)
      (subst (λ (es : List Ended). KeepsReplay seat es lan' u) (sym records)
      (ends_keeps (line.unit == unit) seat u line.verb (done_in script.progress) row.outcome before lan lan' did was.keeps at
      (λ e. subst (λ (o : Option Line). IsFirstOf unit (done_in script.progress) o) found was.first e) (λ e. puts_none unit script line found plain e)));
  first = first_fresh unit (done_in ended.progress) (slice_get ended.lines.now ended.at) fresh;
}
  where
    u : UnitId
    u = unit_of script.partition unit

    plain : IsPlainPort unit script.lines.now
    plain = subst (λ ls. IsPlainPort unit ls.now) lines plain'

    sat : slice_get script.seats.items unit ≡ Some sits.Port
    sat = ap (λ ss. slice_get ss.items unit) (sym seats) ∙ sat'

    at : seat_at lan'.seats u ≡ Some seat
    at = ap (λ p. seat_at lan'.seats (unit_of p unit)) (sym partition) ∙ at'

    before : List Ended
    before = ended_by unit script.lines.now script.logs.items

    there : slice_get script.lines.now (length script.logs.items) ≡ Some line
    there = ap (λ n. slice_get script.lines.now n) reached ∙ found

    records : ended_by unit ended.lines.now ended.logs.items ≡ cond (line.unit == unit) (before ++ record { verb = line.verb; outcome = row.outcome } ∷ []) before
    records = ap (λ ls. ended_by unit ls.now ended.logs.items) lines
        ∙ (ap (ended_by unit script.lines.now) logs ∙ ended_more unit script.lines.now script.logs.items line row there)

    did : EndsReplay (line.unit == unit) u line.verb (done_in script.progress) row.outcome lan lan'
    did = step (all_at (λ (l : Line). is_call l.verb ≡ false) script.lines.now script.at line found plain.no_call)
        (all_at (λ (l : Line). fails l.verb ≡ false) script.lines.now script.at line found plain.no_failure) unit sat

    was : ReplaysOwn lan script unit seat
    was = tells unit plain sat seat
        (seat_back lan lan' u seat (ends_seats (line.unit == unit) u line.verb (done_in script.progress) row.outcome lan lan' did) at) sized own

-- what a step that ended its line says of each port
pub step_replay : (lan lan' : LanValue) (script : Script) (line : Line) (row : LogRow) (done' unit : ℕ) (b : Bool)
    → RisesIf b (unit_of script.partition unit) line.verb (done_in script.progress) done' lan lan' (steps.Ends row.outcome)
    → EndsReplay b (unit_of script.partition unit) line.verb (done_in script.progress) row.outcome lan lan'
step_replay lan lan' script line row done' unit true h = h.1
step_replay lan lan' script line row done' unit false h = h.still

-- what a line says that is none of a replay, and did nothing
pub none_replay : (lan : LanValue) (script : Script) (line : Line) (row : LogRow) (unit : ℕ) (b : Bool) → is_replayed line.verb ≡ false
    → EndsReplay b (unit_of script.partition unit) line.verb (done_in script.progress) row.outcome lan lan
none_replay lan script line row unit true none = record {
  seats = refl;
  values = λ put e. refl;
  regions = region_same lan (unit_of script.partition unit);
  rows = ([], sym (append-nil (sent_at lan (unit_of script.partition unit))));
  grows = grows_same (port_of lan.stations (unit_of script.partition unit));
  others = λ sender beside. refl;
  sends = λ replayed code number e. absurd (not_both (is_replayed line.verb) replayed none);
  says = λ first seat able. says_none seat line.verb row.outcome (replay_at lan (unit_of script.partition unit)) none;
}
none_replay lan script line row unit false none = record { seats = refl; replay = refl; values = λ e. refl; rows = refl; grows = grows_same (port_of lan.stations (unit_of script.partition unit)); offered = λ sender other row kept. inl kept; regions = kept_same lan (unit_of script.partition unit) }

-- nothing but frames was taken
pub rest_replay : (lan lan' : LanValue) (script : Script) → AllTake script.partition lan lan' → TellsReplay lan script → TellsReplay lan' script
rest_replay lan lan' script takes tells unit plain sat seat at sized own =
    let still : IsStill lan lan' (unit_of script.partition unit) = (takes unit).still in
    let was : ReplaysOwn lan script unit seat = tells unit plain sat seat (seat_back lan lan' (unit_of script.partition unit) seat still.seats at) sized own in
    record {
      keeps = still_keeps seat (ended_by unit script.lines.now script.logs.items) lan lan' (unit_of script.partition unit) was.keeps at still;
      first = was.first;
    }

-- a line that fails a partition leaves no plain port in it
pub failing_replay : (lan : LanValue) (script later : Script) (line : Line) → slice_get script.lines.now script.at ≡ Some line → fails line.verb ≡ true
    → later.lines ≡ script.lines → TellsReplay lan later
failing_replay lan script later line found failing lines unit plain sat seat at sized own =
    absurd (not_both (fails line.verb) failing
    (all_at (λ (l : Line). fails l.verb ≡ false) script.lines.now script.at line found (subst (λ ls. IsPlainPort unit ls.now) lines plain).no_failure))

-- a script before its first line
pub fresh_replay : (lan : LanValue) (script : Script) → script.logs.items ≡ [] → done_in script.progress ≡ 0 → AreFresh lan → TellsReplay lan script
fresh_replay lan script logs progress fresh unit plain sat seat at sized own = record {
  keeps = record {
    able = record { is = at; sized = sized; own = own; grants = (fresh (unit_of script.partition unit)).3 };
    replayed = subst (λ rows. AreReplayed seat closed_replay (ended_by unit script.lines.now rows) (replay_at lan (unit_of script.partition unit))) (sym logs)
        (subst (λ (es : List Ended). AreReplayed seat closed_replay es (replay_at lan (unit_of script.partition unit))) (sym (nothing script.lines.now))
        (fresh (unit_of script.partition unit)).2);
  };
  first = first_fresh unit (done_in script.progress) (slice_get script.lines.now script.at) progress;
}
  where
    nothing : (ls : List Line) → ended_by unit ls [] ≡ []
    nothing [] = refl
    nothing (l ∷ ls) = refl
