-- The refusals of all scripts' clients, as rounds go on.
use Rattle.std.proofs.Common.{◌≡◌, ◌≢◌, ◌∙◌, ◌⊎◌, inl, inr, ℕ, ◌+◌, ◌≤◌, ◌<◌, Bool, true, false, List, Option, Some, None, IfSome, IsSomeAnd, length, refl, sym, ap, subst, arith}
use Rattle.std.specs.List.{slice_get, slice_set}
use Rattle.std.proofs.lemmas.Option.{slice_get_within}
use Rattle.boot_text.specs.declared.plan.Partition.{Partition}
use Rattle.lan_script.specs.declared.seat.PortSeat.{PortSeat}
use Rattle.vcpu_run.specs.declared.driver.Driver.{Driver}
use Rattle.vcpu_run.specs.declared.pair.Pair.{Pair}
use Rattle.vcpu_run.specs.declared.script.Script.{Script}
use Rattle.vcpu_run.specs.declared.unit_seat.Seat.TheVariants as places
use Rattle.vcpu_run.specs.Agreed.{AreAllOut, IsLoggedOut, SameElse}
use Rattle.vcpu_run.specs.Machines.{AreScripts}
use Rattle.vcpu_run.specs.Making.{AreMade, IsMade}
use Rattle.vcpu_run.specs.PortWords.{HasNoCall}
use Rattle.vcpu_run.specs.Scripts.{OnlyRuns, are_servers}
use Rattle.vcpu_run.specs.ScriptTold.{AreOutIf, AreOutTo, AreTold, IsResetOut, IsScriptTold, MakesNoCall, SameClient, SameClients}
use Rattle.vcpu_run.specs.TakenScripts.{AreUntaken}
use Rattle.vcpu_run.proofs.Driving.{same_or, some_is}
use Rattle.vcpu_run.proofs.Elsewhere.{all_out}
use Rattle.vcpu_run.proofs.FailedTold.{down_else}
use Rattle.vcpu_run.proofs.Listed.{each_set, held}
use Rattle.vcpu_run.proofs.Scripted.{seats_apart}
use Rattle.vcpu_run.proofs.ScriptsTold.{clients_told}

-- the pairs of a script's clients are as before
abbrev pub SameSeats : List Pair → List Pair → Script → Type 0
SameSeats old new script = (unit k : ℕ) → slice_get script.seats.items unit ≡ Some (places.Client k) → slice_get new k ≡ slice_get old k

told_else : (old new : List Pair) (script : Script) → SameSeats old new script → IsScriptTold old script → IsScriptTold new script
told_else old new script same is = record {
  law = λ unit k pair at now. is.law unit k pair at (sym (same unit k at) ∙ now);
  fresh = is.fresh;
  told = λ line next ok unit k pair at now. is.told line next ok unit k pair at (sym (same unit k at) ∙ now);
  shown = λ unit k pair at now. is.shown unit k pair at (sym (same unit k at) ∙ now);
  taken = record {
    kept = λ unit k pair at now. is.taken.kept unit k pair at (sym (same unit k at) ∙ now);
    up_to = is.taken.up_to;
    agrees = λ line next ok unit k pair at now. is.taken.agrees line next ok unit k pair at (sym (same unit k at) ∙ now);
  };
  put = λ unit k pair at now. is.put unit k pair at (sym (same unit k at) ∙ now);
  few = λ unit k pair at now. is.few unit k pair at (sym (same unit k at) ∙ now);
  down = down_else old new script same is.down;
}

out_else : (old new : List Pair) (script : Script) → SameSeats old new script → IsResetOut old script → IsResetOut new script
out_else old new script same out line k pair found reset at now = out line k pair found reset at (sym (same line.unit k at) ∙ now)

-- a turn of one script leaves the clients of another
pub others_same : (old new : List Pair) (ports : List PortSeat) (scripts : List Script) (i j : ℕ) (script other : Script) → slice_get scripts i ≡ Some script
    → slice_get scripts j ≡ Some other → j ≢ i → AreScripts old ports scripts → SameElse script.seats.items old new → SameSeats old new other
others_same old new ports scripts i j script other found there apart are others unit k at =
    others k (λ v too. apart (seats_apart old ports scripts are j i unit v k other script there found at too).0)

runs_without : (script later : Script) → OnlyRuns script later → MakesNoCall later → MakesNoCall script
runs_without script later rest without = record {
  others = sym (ap (λ seats. are_servers seats.items) rest.seats) ∙ without.others;
  no_call = subst (λ lines. HasNoCall lines.now) rest.lines without.no_call;
}

pub told_turned : (old new : List Pair) (ports : List PortSeat) (scripts : List Script) (i : ℕ) (script later : Script) → slice_get scripts i ≡ Some script
    → AreScripts old ports scripts → SameElse script.seats.items old new → OnlyRuns script later
    → (HasNoCall script.lines.now → IsScriptTold old script → IsScriptTold new later) → AreTold old scripts → AreTold new (slice_set scripts i later)
told_turned old new ports scripts i script later found are others rest kept told =
    each_set (λ j other. MakesNoCall other → IsScriptTold new other) scripts i later
    (λ j other there apart without. told_else old new other (others_same old new ports scripts i j script other found there apart are others) (told j other there without))
    (λ without. let before = runs_without script later rest without in kept before.no_call (told i script found before))

pub out_turned : (old new : List Pair) (ports : List PortSeat) (scripts : List Script) (i : ℕ) (script later : Script) → slice_get scripts i ≡ Some script
    → AreScripts old ports scripts → SameElse script.seats.items old new → OnlyRuns script later
    → (HasNoCall script.lines.now → IsScriptTold old script → IsResetOut new later) → AreTold old scripts → AreOutTo i old scripts
    → AreOutTo (i + 1) new (slice_set scripts i later)
out_turned old new ports scripts i script later found are others rest quiet told out j other below there without =
    each_set (λ j other. j < i + 1 → MakesNoCall other → IsResetOut new other) scripts i later
    (λ j other there apart below without.
    out_else old new other (others_same old new ports scripts i j script other found there apart are others) (out j other (omega (arith, below, apart)) there without))
    (λ below without. let before = runs_without script later rest without in quiet before.no_call (told i script found before))
    j other there below without

-- a turn of the server leaves all clients
pub told_served : (old new : List Pair) (scripts : List Script) → SameClients old new → AreTold old scripts → AreTold new scripts
told_served old new scripts same told i script found without = clients_told old new script same (told i script found without)

out_clients : (old new : List Pair) (script : Script) → SameClients old new → IsResetOut old script → IsResetOut new script
out_clients old new script same out line k after found reset sits now = at (slice_get old k) refl (same k after now)
  where
    at : (o : Option Pair) → slice_get old k ≡ o → IsSomeAnd o (λ before. SameClient before after) → IsLoggedOut after
    at None e h = absurd h
    at (Some before) e h = subst (λ (o : Option Driver). IfSome o (λ d. d.client.granted ≡ None)) (sym h.driver) (out line k before found reset sits e)

pub out_served : (old new : List Pair) (scripts : List Script) (i : ℕ) (here : Script) → slice_get scripts i ≡ Some here → are_servers here.seats.items ≡ true
    → SameClients old new → AreOutTo i old scripts → AreOutTo (i + 1) new scripts
out_served old new scripts i here found of same out j other below there without = at (same_or j i)
  where
    both : (b : Bool) → b ≡ true → b ≡ false → ⊥
    both b x y = cc

    at : (j ≡ i) ⊎ (j ≢ i) → IsResetOut new other
    at (inl e) =
        let is : here ≡ other = some_is here other (sym found ∙ (ap (λ n. slice_get scripts n) (sym e) ∙ there)) in
        absurd (both (are_servers here.seats.items) of (ap (λ (s : Script). are_servers s.seats.items) is ∙ without.others))
    at (inr apart) = out_clients old new other same (out j other (omega (arith, below, apart)) there without)

-- the first scripts, and all
pub out_none : (pairs : List Pair) (scripts : List Script) → AreOutTo 0 pairs scripts
out_none pairs scripts i script below found without = absurd (omega (arith, below))

pub out_all : (n : ℕ) (pairs : List Pair) (scripts : List Script) → length scripts ≤ n → AreOutTo n pairs scripts → AreOutTo (length scripts) pairs scripts
out_all n pairs scripts all out i script below found without = out i script (omega (arith, below, all)) found without

-- a line that waited, and was ended
pub told_ended : (pairs : List Pair) (scripts : List Script) (i : ℕ) (script later : Script) → slice_get scripts i ≡ Some script → OnlyRuns script later
    → (IsResetOut pairs script → IsScriptTold pairs script → IsScriptTold pairs later) → AreOutIf (λ j. j ≡ i) pairs scripts → AreTold pairs scripts
    → AreTold pairs (slice_set scripts i later)
told_ended pairs scripts i script later found rest kept out told =
    each_set (λ j other. MakesNoCall other → IsScriptTold pairs other) scripts i later (λ j other there apart without. told j other there without)
    (λ without. let before = runs_without script later rest without in kept (out i script refl found before) (told i script found before))

-- the script that is next has not been touched
pub out_next : (pairs : List Pair) (scripts now : List Script) (n : ℕ) → ((i : ℕ) → n ≤ i → slice_get now i ≡ slice_get scripts i) → AreOutTo (length scripts) pairs scripts
    → AreOutIf (λ j. j ≡ n) pairs now
out_next pairs scripts now n rest out j script is found without =
    let there : slice_get scripts j ≡ Some script = sym (rest j (omega (arith, is))) ∙ found in
    out j script (slice_get_within scripts j script there) there without

-- before the first turn
pub told_made : (partitions : List Partition) (pairs : List Pair) (scripts : List Script) → AreMade partitions scripts → AreAllOut pairs → AreUntaken pairs → AreTold pairs scripts
told_made partitions pairs scripts made out untaken i script found without =
    (held (λ partition. IsMade partition i script) (slice_get partitions i) (made.each i script found)).2.said pairs (λ unit k sits. all_out (slice_get pairs k) (out k)) untaken
