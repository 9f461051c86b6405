-- The offers of the frames that lines of LAN units sent, as steps of lines go on.
use Rattle.std.proofs.Common.{◌≡◌, ◌≢◌, ℕ, ◌==◌, Bool, true, false, List, [], ◌∷◌, ◌++◌, append-nil, Some, length, length-append, take, sym, ◌∙◌, ap, subst, arith}
use Rattle.std.specs.List.{Contains, slice_get}
use Rattle.std.proofs.lemmas.Bool.Decides.{nat_tests}
use Rattle.std.proofs.lemmas.List.{take-append-le, take_all}
use Rattle.std.proofs.lemmas.List.Elements.{Contains-append_left}
use Rattle.std.proofs.lemmas.Option.{slice_get_within}
use Rattle.vio_num.specs.Words.{Begins}
use Rattle.vio_num.specs.declared.hypervisor.Hrc.{Hrc}
use Rattle.vio_num.specs.declared.hypervisor.Moved.{Moved}
use Rattle.vio_num.specs.declared.names.Mac.{Mac}
use Rattle.vio_num.specs.declared.names.UnitId.{UnitId}
use Rattle.boot_text.specs.declared.plan.Line.{Line}
use Rattle.boot_text.specs.declared.verb.Verb.{Verb}
use Rattle.boot_text.specs.declared.verb.Verb.TheVariants as verbs
use Rattle.unit_region.specs.declared.step.Step.{Step}
use Rattle.unit_region.specs.declared.step.Step.TheVariants as steps
use Rattle.vio_trace.specs.declared.lan_rows.FrameRow.{FrameRow}
use Rattle.vio_trace.specs.declared.outcome.Outcome.{Outcome}
use Rattle.vio_trace.specs.declared.outcome.Outcome.TheVariants as outcomes
use Rattle.vio_trace.specs.declared.rows.LogRow.{LogRow}
use Rattle.lan_script.specs.PortReplay.{closed_replay}
use Rattle.lan_script.specs.Replayed.{is_replayed, replay_at}
use Rattle.lan_script.specs.Seats.{seat_at}
use Rattle.lan_script.specs.Spent.{Grows}
use Rattle.lan_script.proofs.Laws.{spent_on}
use Rattle.lan_switch.specs.Switch.{port_of}
use Rattle.lan_script.specs.Targets.{OffersAt}
use Rattle.lan_script.specs.Units.{LanValue}
use Rattle.lan_script.specs.declared.seat.PortSeat.{PortSeat}
use Rattle.vcpu_run.specs.declared.script.Script.{Script}
use Rattle.vcpu_run.specs.declared.unit_seat.Seat.{Seat}
use Rattle.vcpu_run.specs.declared.unit_seat.Seat.TheVariants as sits
use Rattle.vcpu_run.specs.Credited.{Ended, ended_by}
use Rattle.vcpu_run.specs.Ports.{unit_of}
use Rattle.vcpu_run.specs.PortOffers.{GoesNow, KeepsOffers, OffersOver, TellsOffers}
use Rattle.vcpu_run.specs.PortReplays.{AreReplayed, IsPlainPort, IsStill, SendsFrame, StepReplays, sent_at}
use Rattle.vcpu_run.specs.PortSteps.{AllTake, RisesIf, TellsStep}
use Rattle.vcpu_run.specs.PortWords.{ReplaysOwn, TellsReplay, done_in}
use Rattle.vcpu_run.specs.Suited.{is_call}
use Rattle.vcpu_run.specs.Works.{fails}
use Rattle.vcpu_run.proofs.Listed.{each_pushed}
use Rattle.vcpu_run.proofs.Logging.{all_at}
use Rattle.vcpu_run.proofs.PortReplaying.{EndsReplay}
use Rattle.vcpu_run.proofs.PortRising.{not_same}

-- What a step leaves of a port of its partition: no row is lost.
pub record KeepsRows (lan lan' : LanValue) (unit : UnitId) : Type 0 where
  pub seats : lan'.seats ≡ lan.seats
  pub rows : Begins (sent_at lan unit) (sent_at lan' unit)
  pub grows : Grows (port_of lan.stations unit) (port_of lan'.stations unit)

-- the same of each port of the partition
abbrev AllKeep : (lan lan' : LanValue) → (partition : ℕ) → List Seat → Type 0
AllKeep lan lan' partition seats = (port : ℕ) → slice_get seats port ≡ Some sits.Port → KeepsRows lan lan' (unit_of partition port)

pub still_rows : (lan lan' : LanValue) (unit : UnitId) → IsStill lan lan' unit → KeepsRows lan lan' unit
still_rows lan lan' unit h = record { seats = h.seats; rows = ([], h.rows ∙ sym (append-nil (sent_at lan unit))); grows = h.grows }

pub rises_rows : (own : Bool) (unit : UnitId) (verb : Verb) (done done' : ℕ) (lan lan' : LanValue) (step : Step) → RisesIf own unit verb done done' lan lan' step
    → KeepsRows lan lan' unit
rises_rows true unit verb done done' lan lan' step h = record { seats = h.1.seats; rows = h.1.rows; grows = h.1.grows }
rises_rows false unit verb done done' lan lan' step h = still_rows lan lan' unit h.still

pub ends_rows : (own : Bool) (unit : UnitId) (verb : Verb) (done : ℕ) (outcome : Outcome) (lan lan' : LanValue) → EndsReplay own unit verb done outcome lan lan'
    → KeepsRows lan lan' unit
ends_rows true unit verb done outcome lan lan' h = record { seats = h.seats; rows = h.rows; grows = h.grows }
ends_rows false unit verb done outcome lan lan' h = still_rows lan lan' unit h

-- a frame that was sent is kept
row_kept : (old new : List FrameRow) (row : FrameRow) → Begins old new → Contains old row → Contains new row
row_kept old new row (more, is) h = subst (λ (l : List FrameRow). Contains l row) (sym is) (Contains-append_left old more row h)

goes_on : (lan lan' : LanValue) (port : UnitId) (seat : PortSeat) (own : List Ended) (frame : FrameRow) → Grows (port_of lan.stations port) (port_of lan'.stations port)
    → GoesNow lan port seat own frame → GoesNow lan' port seat own frame
goes_on lan lan' port seat own frame grows h = record {
  left = h.left;
  replayed = h.replayed;
  offers = h.offers;
  spent = spent_on port frame h.left (port_of lan.stations port) (port_of lan'.stations port) grows h.spent;
}

keeps_on : (lan lan' : LanValue) (partition : ℕ) (seats : List Seat) (lines : List Line) (before : List LogRow) (unit number : ℕ)
    → slice_get seats unit ≡ Some sits.Port → AllKeep lan lan' partition seats → KeepsOffers lan partition seats lines before unit number → KeepsOffers lan' partition seats lines before unit number
keeps_on lan lan' partition seats lines before unit number own kept h = record {
  frame = h.frame;
  kept = row_kept (sent_at lan (unit_of partition unit)) (sent_at lan' (unit_of partition unit)) h.frame (kept unit own).rows h.kept;
  number_is = h.number_is;
  goes = λ port seat other plain sat at sized mac.
      goes_on lan lan' (unit_of partition port) seat (ended_by port lines before) h.frame (kept port sat).grows
      (h.goes port seat other plain sat (ap (λ ss. seat_at ss (unit_of partition port)) (sym (kept port sat).seats) ∙ at) sized mac);
}

-- the current line makes no raw call, and does not fail the partition
pub no_call : (unit : ℕ) (script : Script) (line : Line) → slice_get script.lines.now script.at ≡ Some line → IsPlainPort unit script.lines.now → is_call line.verb ≡ false
no_call unit script line found plain = all_at (λ (l : Line). is_call l.verb ≡ false) script.lines.now script.at line found plain.no_call

pub no_failure : (unit : ℕ) (script : Script) (line : Line) → slice_get script.lines.now script.at ≡ Some line → IsPlainPort unit script.lines.now → fails line.verb ≡ false
no_failure unit script line found plain = all_at (λ (l : Line). fails l.verb ≡ false) script.lines.now script.at line found plain.no_failure

-- the current line waits
pub offers_wait : (lan lan' : LanValue) (script script' : Script) (line : Line) (moved : Moved) → slice_get script.lines.now script.at ≡ Some line
    → script' ≡ record script { progress = script'.progress }
    → (is_call line.verb ≡ false → TellsStep script.partition script.seats.items line (done_in script.progress) (done_in script'.progress) lan lan' (steps.Waits moved))
    → TellsOffers lan script → TellsOffers lan' script'
offers_wait lan lan' script script' line moved found same step tells =
    subst (λ (s : Script). TellsOffers lan' s) (sym same)
    (λ unit plain sat at number ends.
    keeps_on lan lan' script.partition script.seats.items script.lines.now (take at script.logs.items) unit number sat
    (λ port there.
    rises_rows (line.unit == port) (unit_of script.partition port) line.verb (done_in script.progress) (done_in script'.progress) lan lan' (steps.Waits moved)
    ((step (no_call unit script line found plain)).rises port there))
    (tells unit plain sat at number ends))

-- nothing but frames was taken
pub offers_rest : (lan lan' : LanValue) (script : Script) → AllTake script.partition lan lan' → TellsOffers lan script → TellsOffers lan' script
offers_rest lan lan' script takes tells unit plain sat at number ends =
    keeps_on lan lan' script.partition script.seats.items script.lines.now (take at script.logs.items) unit number sat
    (λ port there. still_rows lan lan' (unit_of script.partition port) (takes port).still) (tells unit plain sat at number ends)

-- a line that fails a partition leaves no plain port in it
pub offers_fail : (lan : LanValue) (script later : Script) (line : Line) → slice_get script.lines.now script.at ≡ Some line → fails line.verb ≡ true
    → later.lines ≡ script.lines → TellsOffers lan later
offers_fail lan script later line found failing lines unit plain sat at number ends =
    absurd (not_both (fails line.verb) failing (no_failure unit script line found (subst (λ ls. IsPlainPort unit ls.now) lines plain)))
  where
    not_both : (b : Bool) → b ≡ true → b ≡ false → ⊥
    not_both b is isnt = cc (is, isnt)

-- a script before its first line
pub offers_fresh : (lan : LanValue) (script : Script) → script.logs.items ≡ [] → TellsOffers lan script
offers_fresh lan script logs unit plain sat at number ends =
    absurd (omega (arith, slice_get_within script.logs.items at ends.row ends.logged, ap (λ (l : List LogRow). length l) logs))

-- ---- the current line ends

-- a unit of a partition by its number
other_unit : (partition port unit : ℕ) → port ≢ unit → unit_of partition port ≢ unit_of partition unit
other_unit partition port unit other e = other (ap (λ (u : UnitId). u.unit) e)

same_line : (x y : Line) → Some x ≡ Some y → x ≡ y
same_line x y e = cc (e)

is_sending : (to : Mac) (len seed from : ℕ) (verb : Verb) → verb ≡ verbs.Send to len seed from → is_replayed verb ≡ true
is_sending to len seed from verb e = ap is_replayed e

-- What is so of a line that ended with a frame.
abbrev Sent : (lan : LanValue) (script : Script) (unit : ℕ) → (at : ℕ) → LogRow → Type 0
Sent lan script unit at row = (to : Mac) (len seed from : ℕ) (line : Line) → slice_get script.lines.now at ≡ Some line → line.unit ≡ unit
    → line.verb ≡ verbs.Send to len seed from → (code : Hrc) (number : ℕ) → row.outcome ≡ outcomes.Frame code number
    → KeepsOffers lan script.partition script.seats.items script.lines.now (take at script.logs.items) unit number

-- a line that ended before
earlier : (lan lan' : LanValue) (script : Script) (unit : ℕ) → IsPlainPort unit script.lines.now → slice_get script.seats.items unit ≡ Some sits.Port
    → AllKeep lan lan' script.partition script.seats.items → TellsOffers lan script
    → (at : ℕ) (row : LogRow) → slice_get script.logs.items at ≡ Some row → Sent lan' script unit at row
earlier lan lan' script unit plain sat kept tells at row logged to len seed from line there own verb code number outcome =
    keeps_on lan lan' script.partition script.seats.items script.lines.now (take at script.logs.items) unit number sat kept
    (tells unit plain sat at number (record {
      to = to;
      len = len;
      seed = seed;
      from = from;
      line = line;
      there = there;
      unit_is = own;
      verb_is = verb;
      code = code;
      row = row;
      logged = logged;
      outcome_is = outcome;
    }))

-- the port of another unit as its lines leave it
stands_at : (lan lan' : LanValue) (script : Script) (frame : FrameRow) (port : ℕ) (seat : PortSeat) (before : List LogRow) → before ≡ script.logs.items
    → ReplaysOwn lan script port seat → OffersAt lan lan' (unit_of script.partition port) frame
    → GoesNow lan' (unit_of script.partition port) seat (ended_by port script.lines.now before) frame
stands_at lan lan' script frame port seat before same own offers = record {
  left = replay_at lan (unit_of script.partition port);
  replayed = subst (λ ls. AreReplayed seat closed_replay (ended_by port script.lines.now ls) (replay_at lan (unit_of script.partition port))) (sym same)
      own.keeps.replayed;
  offers = offers.offers;
  spent = offers.spent;
}

-- the line that ends
newest : (lan lan' : LanValue) (script : Script) (current : Line) (row : LogRow) (unit : ℕ) → slice_get script.lines.now script.at ≡ Some current
    → length script.logs.items ≡ script.at
    → EndsReplay (current.unit == unit) (unit_of script.partition unit) current.verb (done_in script.progress) row.outcome lan lan'
    → TellsReplay lan script → Sent lan' script unit (length script.logs.items) row
newest lan lan' script current row unit found reached did tells to len seed from line there own verb code number outcome =
    by (subst (λ b. EndsReplay b u current.verb (done_in script.progress) row.outcome lan lan') owned did)
  where
    u : UnitId
    u = unit_of script.partition unit

    same : line ≡ current
    same = same_line line current (sym there ∙ (ap (λ n. slice_get script.lines.now n) reached ∙ found))

    owned : (current.unit == unit) ≡ true
    owned = grind (arith, nat_tests, ap (λ (l : Line). l.unit) same, own)

    by : StepReplays u current.verb (done_in script.progress) lan lan' (steps.Ends row.outcome)
        → KeepsOffers lan' script.partition script.seats.items script.lines.now (take (length script.logs.items) script.logs.items) unit number
    by h = from_frame (h.sends (is_sending to len seed from current.verb (ap (λ (l : Line). l.verb) (sym same) ∙ verb)) code number
        (ap (λ (o : Outcome). steps.Ends o) outcome))
      where
        from_frame : SendsFrame u number lan lan'
            → KeepsOffers lan' script.partition script.seats.items script.lines.now (take (length script.logs.items) script.logs.items) unit number
        from_frame s = record {
          frame = s.row;
          kept = s.kept;
          number_is = s.number_is;
          goes = λ port seat other plain sat at sized own_mac.
              stands_at lan lan' script s.row port seat (take (length script.logs.items) script.logs.items)
              (take_all (length script.logs.items) script.logs.items (omega arith))
              (tells port plain sat seat (ap (λ ss. seat_at ss (unit_of script.partition port)) (sym h.seats) ∙ at) sized own_mac)
              (s.offers (unit_of script.partition port) (not_same (unit_of script.partition port) u (other_unit script.partition port unit other)));
        }

ends_as : (lan lan' : LanValue) (script : Script) (line : Line) (row : LogRow) → slice_get script.lines.now script.at ≡ Some line
    → length script.logs.items ≡ script.at
    → (is_call line.verb ≡ false → fails line.verb ≡ false → (unit : ℕ) → slice_get script.seats.items unit ≡ Some sits.Port
    → EndsReplay (line.unit == unit) (unit_of script.partition unit) line.verb (done_in script.progress) row.outcome lan lan')
    → TellsReplay lan script → TellsOffers lan script
    → OffersOver lan' script.partition script.seats.items script.lines.now (script.logs.items ++ row ∷ [])
ends_as lan lan' script line row found reached step tells offers unit plain sat at number ends =
    subst (λ (before : List LogRow). KeepsOffers lan' script.partition script.seats.items script.lines.now before unit number)
    (sym (take-append-le at script.logs.items (row ∷ []) (omega (arith, slice_get_within (script.logs.items ++ row ∷ []) at ends.row ends.logged, length-append script.logs.items (row ∷ [])))))
    (each_pushed (λ k r. Sent lan' script unit k r) script.logs.items row (earlier lan lan' script unit plain sat kept offers)
    (newest lan lan' script line row unit found reached did tells) at ends.row ends.logged ends.to ends.len ends.seed ends.from ends.line ends.there ends.unit_is ends.verb_is
    ends.code number ends.outcome_is)
  where
    u : UnitId
    u = unit_of script.partition unit

    did : EndsReplay (line.unit == unit) u line.verb (done_in script.progress) row.outcome lan lan'
    did = step (no_call unit script line found plain) (no_failure unit script line found plain) unit sat

    kept : AllKeep lan lan' script.partition script.seats.items
    kept port there =
        ends_rows (line.unit == port) (unit_of script.partition port) line.verb (done_in script.progress) row.outcome lan lan'
        (step (no_call unit script line found plain) (no_failure unit script line found plain) port there)

pub offers_end : (lan lan' : LanValue) (script ended : Script) (line : Line) (row : LogRow) → slice_get script.lines.now script.at ≡ Some line
    → length script.logs.items ≡ script.at → ended.partition ≡ script.partition → ended.lines ≡ script.lines → ended.seats ≡ script.seats
    → ended.logs.items ≡ script.logs.items ++ row ∷ []
    → (is_call line.verb ≡ false → fails line.verb ≡ false → (unit : ℕ) → slice_get script.seats.items unit ≡ Some sits.Port
    → EndsReplay (line.unit == unit) (unit_of script.partition unit) line.verb (done_in script.progress) row.outcome lan lan')
    → TellsReplay lan script → TellsOffers lan script → TellsOffers lan' ended
offers_end lan lan' script ended line row found reached partition lines seats logs step tells offers =
    subst (λ p. OffersOver lan' p ended.seats.items ended.lines.now ended.logs.items) (sym partition)
    (subst (λ ss. OffersOver lan' script.partition ss.items ended.lines.now ended.logs.items) (sym seats)
    (subst (λ ls. OffersOver lan' script.partition script.seats.items ls.now ended.logs.items) (sym lines)
    (subst (λ (l : List LogRow). OffersOver lan' script.partition script.seats.items script.lines.now l) (sym logs)
    (ends_as lan lan' script line row found reached step tells offers))))
