-- What turns leave of what the records of scripts say of raw calls.
use Rattle.std.proofs.Common.{◌≡◌, ◌∙◌, ◌⊎◌, inl, inr, ℕ, ◌<◌, ◌≤◌, ◌++◌, List, [], ◌∷◌, Option, Some, None, IsSomeAnd, length, refl, sym, ap, subst, arith}
use Rattle.std.specs.List.{slice_get}
use Rattle.boot_text.specs.declared.plan.Line.{Line}
use Rattle.page_slots.specs.Stroke.{StrokeValue}
use Rattle.tce_window.specs.Window.{strokes_at}
use Rattle.unit_region.specs.RegionLines.{IsOn}
use Rattle.unit_region.proofs.Laws.{on_as, on_cases}
use Rattle.vio_trace.specs.declared.rows.LogRow.{LogRow}
use Rattle.vcpu_run.specs.declared.pair.Pair.{Pair}
use Rattle.vcpu_run.specs.declared.script.Progress.{Progress}
use Rattle.vcpu_run.specs.declared.script.Script.{Script}
use Rattle.vcpu_run.specs.declared.unit_seat.Seat.{Seat}
use Rattle.vcpu_run.specs.declared.unit_seat.Seat.TheVariants as sits
use Rattle.vcpu_run.specs.CallsAnswered.{no_client, pair_of, unit_seen, unit_then}
use Rattle.vcpu_run.specs.CallsSaid.{CallsSaid, IsSaidOf, seen_from, seen_then}
use Rattle.vio_trace.specs.declared.window_rows.CopyRow.{CopyRow}
use Rattle.vcpu_run.specs.ClientStrokes.{LineLays, LogsStrokes, NoneLay, PairLays}
use Rattle.vcpu_run.specs.Machines.{AllStay, Stays}
use Rattle.vcpu_run.specs.Moments.{AreInTurn}
use Rattle.vcpu_run.specs.PortRegions.{IsCurrent, IsLogged}
use Rattle.vcpu_run.specs.Ports.{unit_of}
use Rattle.vcpu_run.specs.ScriptLogs.{AreOfClients, LogsCalls}
use Rattle.vcpu_run.specs.ScriptTold.{SameClient, SameClients}
use Rattle.vcpu_run.proofs.CallsGrow.{LaysLater, UnitGrows, UnitsGrow, calls_more, said_more, then_grows, unit_still}
use Rattle.vcpu_run.proofs.CallsKept.{called_none, called_one}
use Rattle.vcpu_run.proofs.Driving.{some_is}
use Rattle.vcpu_run.proofs.Listed.{held, held_is}
use Rattle.vcpu_run.proofs.MomentsThen.{then_now}
use Rattle.vcpu_run.proofs.PortLines.{has_place, logged_less, numbers_rise}

-- the clients are those that they were
still_clients : (old new : List Pair) (script : Script) → AllStay old new → AreOfClients new script → AreOfClients old script
still_clients old new script stay are unit k pair here there =
    let later = held (Stays pair) (slice_get new k) (stay.each k pair there) in
    sym later.2.client_unit ∙ are unit k later.0 here later.1

-- what is laid is of no line that has a record
abbrev LaysAfter : List Line → List LogRow → (old new : List Pair) → Type 0
LaysAfter lines rows old new = (i : ℕ) (line : Line) (row : LogRow) → slice_get lines i ≡ Some line → slice_get rows i ≡ Some row → LaysLater line.number old new

calls_on : (old new : List Pair) (script : Script) → AllStay old new → LaysAfter script.lines.now script.logs.items old new → LogsCalls old script → LogsCalls new script
calls_on old new script stay lays calls are =
    calls_more (λ number. seen_then number script.partition script.seats.items old) (λ number. seen_then number script.partition script.seats.items new)
    script.lines.now script.logs.items
    (λ i line row there has. then_grows line.number script.partition script.seats.items old new stay (lays i line row there has))
    (calls (still_clients old new script stay are))

-- ---- turns

pub calls_none : (pairs : List Pair) (script : Script) → script.logs.items ≡ [] → LogsCalls pairs script
calls_none pairs script none are =
    subst (λ (rows : List LogRow). CallsSaid (λ number. seen_then number script.partition script.seats.items pairs) script.lines.now rows) (sym none)
    (called_none (λ number. seen_then number script.partition script.seats.items pairs) script.lines.now)

-- a turn that leaves the clients of the script
pub calls_else : (old new : List Pair) (script : Script)
    → ((unit k : ℕ) → slice_get script.seats.items unit ≡ Some (sits.Client k) → slice_get new k ≡ slice_get old k)
    → LogsCalls old script → LogsCalls new script
calls_else old new script same calls are =
    calls_more (λ number. seen_then number script.partition script.seats.items old) (λ number. seen_then number script.partition script.seats.items new)
    script.lines.now script.logs.items
    (λ i line row there has. record { place = refl; units = λ unit. at line.number unit (slice_get script.seats.items unit) refl })
    (calls (λ unit k pair here there. are unit k pair here (same unit k here ∙ there)))
  where
    at : (number unit : ℕ) (seat : Option Seat) → slice_get script.seats.items unit ≡ seat → UnitGrows (unit_then number (pair_of old seat)) (unit_then number (pair_of new seat))
    at number unit None e = unit_still no_client
    at number unit (Some sits.Server) e = unit_still no_client
    at number unit (Some sits.Port) e = unit_still no_client
    at number unit (Some (sits.Client k)) e =
        subst (λ (o : Option Pair). UnitGrows (unit_then number (slice_get old k)) (unit_then number o)) (sym (same unit k e)) (unit_still (unit_then number (slice_get old k)))

-- one in which no client lays a stroke in its own region
pub calls_still : (old new : List Pair) (script : Script) → AllStay old new → NoneLay old new → LogsCalls old script → LogsCalls new script
calls_still old new script stay none = calls_on old new script stay (λ i line row there has k before after was is page.
    on_as before.window.unit (λ m. ⊥ × (m ≡ 0)) (λ m. line.number < m) (strokes_at before.window.pages page) (strokes_at after.window.pages page) (λ m never. absurd never.0)
    ((held_is (λ (b : Pair). PairLays ⊥ 0 b after) (slice_get old k) before was (none k after is)).strokes page))

-- one of the server, or one that pushes events
pub calls_served : (old new : List Pair) (script : Script) → AllStay old new → SameClients old new → LogsCalls old script → LogsCalls new script
calls_served old new script stay same = calls_on old new script stay (λ i line row there has k before after was is page.
    on_as before.window.unit (λ m. ⊥) (λ m. line.number < m) (strokes_at before.window.pages page) (strokes_at after.window.pages page) (λ m never. absurd never)
    ((held_is (λ (b : Pair). SameClient b after) (slice_get old k) before was (same k after is)).own page))

-- a step of the current line
lays_now : (old new : List Pair) (script : Script) (line : Line) → slice_get script.lines.now script.at ≡ Some line → AreInTurn script.lines.now script.logs.items script.at
    → length script.logs.items ≡ script.at → LineLays script.seats.items line old new → LaysAfter script.lines.now script.logs.items old new
lays_now old new script line found turn reached lays i l r there has k before after was is page =
    let less = numbers_rise script.lines.now script.logs.items script.at i script.at l line turn there found
    (let place = has_place script.logs.items i r has in omega (arith, place, reached)) in
    on_as before.window.unit (λ m. (slice_get script.seats.items line.unit ≡ Some (sits.Client k)) × (m ≡ line.number)) (λ m. l.number < m)
    (strokes_at before.window.pages page) (strokes_at after.window.pages page) (λ m mine. omega (arith, less, mine.1))
    ((held_is (λ (b : Pair). PairLays (slice_get script.seats.items line.unit ≡ Some (sits.Client k)) line.number b after) (slice_get old k) before was (lays k after is)).strokes page)

pub calls_waits : (old new : List Pair) (script : Script) (progress : Progress) (line : Line) → slice_get script.lines.now script.at ≡ Some line
    → AreInTurn script.lines.now script.logs.items script.at → length script.logs.items ≡ script.at → AllStay old new → LineLays script.seats.items line old new
    → LogsCalls old script → LogsCalls new (record script { progress = progress })
calls_waits old new script progress line found turn reached stay lays = calls_on old new script stay (lays_now old new script line found turn reached lays)

-- the strokes of a client in its own region are of lines up to the current one
up_to_now : {copies : ℕ → List CopyRow} (old new : List Pair) (script : Script) (line : Line) → slice_get script.lines.now script.at ≡ Some line → AreInTurn script.lines.now script.logs.items script.at
    → length script.logs.items ≡ script.at → LineLays script.seats.items line old new → LogsStrokes copies old script
    → (unit k : ℕ) (before after : Pair) → slice_get script.seats.items unit ≡ Some (sits.Client k) → slice_get old k ≡ Some before → slice_get new k ≡ Some after
    → before.window.unit ≡ unit_of script.partition unit
    → (page : ℕ) (stroke : StrokeValue) → IsOn stroke (strokes_at after.window.pages page) → stroke.name.who ≡ after.window.unit → stroke.name.mark ≤ line.number
up_to_now old new script line found turn reached lays strokes unit k before after here was is named page stroke on mine =
    by (on_cases before.window.unit (λ m. Mine × (m ≡ line.number)) (strokes_at before.window.pages page) (strokes_at after.window.pages page) stroke (laid.strokes page) on own)
  where
    Mine : Type 0
    Mine = slice_get script.seats.items line.unit ≡ Some (sits.Client k)

    laid : PairLays Mine line.number before after
    laid = held_is (λ (b : Pair). PairLays Mine line.number b after) (slice_get old k) before was (lays k after is)

    own : stroke.name.who ≡ before.window.unit
    own = mine ∙ laid.unit

    of_record : IsLogged (unit_of script.partition unit) script.lines.now script.logs.items stroke.name.mark
        ⊎ IsCurrent (unit_of script.partition unit) script.lines.now script.at stroke.name.mark → stroke.name.mark ≤ line.number
    of_record (inl logged) =
        let less = logged_less script.lines.now script.logs.items script.at line (unit_of script.partition unit) stroke.name.mark turn found reached logged in
        omega (arith, less)
    of_record (inr current) =
        let same : current.line ≡ line = some_is current.line line (sym current.there ∙ found) in
        omega (arith, ap (λ (l : Line). l.number) same, current.number)

    by : IsOn stroke (strokes_at before.window.pages page) ⊎ (Mine × (stroke.name.mark ≡ line.number)) → stroke.name.mark ≤ line.number
    by (inl there) = of_record ((strokes unit k before here was named).logged page stroke there (own ∙ named))
    by (inr now) = omega (arith, now.1)

-- what there is now is what there was as the line ended
seen_now : {copies : ℕ → List CopyRow} (old new : List Pair) (script : Script) (line : Line) → slice_get script.lines.now script.at ≡ Some line → AreInTurn script.lines.now script.logs.items script.at
    → length script.logs.items ≡ script.at → AllStay old new → LineLays script.seats.items line old new → LogsStrokes copies old script → AreOfClients old script
    → UnitsGrow (seen_from script.partition script.seats.items new) (seen_then line.number script.partition script.seats.items new)
seen_now old new script line found turn reached stay lays strokes are = record { place = refl; units = λ unit. at unit (slice_get script.seats.items unit) refl }
  where
    pair_now : (unit k : ℕ) → slice_get script.seats.items unit ≡ Some (sits.Client k) → (o p : Option Pair) → slice_get old k ≡ o → slice_get new k ≡ p
        → IsSomeAnd o (λ before. IsSomeAnd p (λ after. PairLays (slice_get script.seats.items line.unit ≡ Some (sits.Client k)) line.number before after)) ⊎ (p ≡ None)
        → UnitGrows (unit_seen p) (unit_then line.number p)
    pair_now unit k here o None was is lays' = unit_still no_client
    pair_now unit k here None (Some after) was is (inl h) = absurd h
    pair_now unit k here None (Some after) was is (inr e) = absurd (cc (e))
    pair_now unit k here (Some before) (Some after) was is lays' = record {
      pages = refl;
      values = λ entry value h. h;
      puts = λ entry value h. h;
      fronts = λ page front h.
          then_now after.window.unit line.number front (strokes_at after.window.pages page)
          (up_to_now old new script line found turn reached lays strokes unit k before after here was is (are unit k before here was) page) h;
      held = λ h. h;
      entries = λ entry h. h;
    }

    laid : (k : ℕ) (p : Option Pair) → slice_get new k ≡ p
        → IsSomeAnd (slice_get old k) (λ before. IsSomeAnd p (λ after. PairLays (slice_get script.seats.items line.unit ≡ Some (sits.Client k)) line.number before after)) ⊎ (p ≡ None)
    laid k None is = inr refl
    laid k (Some after) is = inl (lays k after is)

    at : (unit : ℕ) (seat : Option Seat) → slice_get script.seats.items unit ≡ seat → UnitGrows (unit_seen (pair_of new seat)) (unit_then line.number (pair_of new seat))
    at unit None e = unit_still no_client
    at unit (Some sits.Server) e = unit_still no_client
    at unit (Some sits.Port) e = unit_still no_client
    at unit (Some (sits.Client k)) e = pair_now unit k e (slice_get old k) (slice_get new k) refl refl (laid k (slice_get new k) refl)

-- the current line ended
pub calls_ends : {copies : ℕ → List CopyRow} (old new : List Pair) (script ended : Script) (line : Line) (row : LogRow) → slice_get script.lines.now script.at ≡ Some line
    → AreInTurn script.lines.now script.logs.items script.at → length script.logs.items ≡ script.at → AllStay old new → LineLays script.seats.items line old new
    → LogsStrokes copies old script → IsSaidOf (seen_from script.partition script.seats.items new) line.verb row.outcome
    → ended.partition ≡ script.partition → ended.lines ≡ script.lines → ended.seats ≡ script.seats → ended.logs.items ≡ script.logs.items ++ row ∷ []
    → LogsCalls old script → LogsCalls new ended
calls_ends old new script ended line row found turn reached stay lays strokes said partition lines seats logs calls are =
    subst (λ (p : ℕ). CallsSaid (λ number. seen_then number p ended.seats.items new) ended.lines.now ended.logs.items) (sym partition)
    (subst (λ ss. CallsSaid (λ number. seen_then number script.partition ss.items new) ended.lines.now ended.logs.items) (sym seats)
    (subst (λ ls. CallsSaid (λ number. seen_then number script.partition script.seats.items new) ls.now ended.logs.items) (sym lines)
    (subst (λ (rows : List LogRow). CallsSaid (λ number. seen_then number script.partition script.seats.items new) script.lines.now rows) (sym logs)
    (called_one (λ number. seen_then number script.partition script.seats.items new) script.lines.now script.logs.items line row
    (ap (λ n. slice_get script.lines.now n) reached ∙ found)
    (calls_on old new script stay (lays_now old new script line found turn reached lays) calls named)
    (said_more (seen_from script.partition script.seats.items new) (seen_then line.number script.partition script.seats.items new)
    (seen_now old new script line found turn reached stay lays strokes (still_clients old new script stay named)) line.verb row.outcome said)))))
  where
    named : AreOfClients new script
    named unit k pair here there =
        are unit k pair (ap (λ ss. slice_get ss.items unit) seats ∙ here) there ∙ ap (λ p. unit_of p unit) partition
