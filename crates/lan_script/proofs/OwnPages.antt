-- The entries of a unit's window that name their own pages, and the bytes of the frames that its lines send.
use Rattle.std.proofs.Common.{◌≡◌, ◌*◌, ◌/◌, ◌==◌, ◌++◌, ℕ, arith, All, Bool, true, false, cond, not, List, [], ◌∷◌, Option, Some, None, Result, Ok, Err, IfOk, OnOk, refl, sym, ◌∙◌, ap, subst}
use Rattle.std.proofs.lemmas.Bool.Decides.{nat_tests}
use Rattle.std.proofs.lemmas.List.Elements.{All-append, All-cons, All-nil}
use Rattle.vio_num.specs.declared.hypervisor.Hrc.{Hrc}
use Rattle.vio_num.specs.declared.hypervisor.Hrc.TheVariants.{Parameter, Success}
use Rattle.vio_num.specs.declared.memory.NoMemory.{NoMemory}
use Rattle.vio_num.specs.declared.names.Mac.{Mac}
use Rattle.vio_num.specs.declared.names.UnitId.{UnitId}
use Rattle.boot_text.specs.declared.verb.Verb.{Verb}
use Rattle.boot_text.specs.declared.verb.Verb.TheVariants as verbs
use Rattle.tce_window.specs.PlainPort.{known_of}
use Rattle.tce_window.specs.PortState.{PortState, Puts}
use Rattle.tce_window.specs.Puts.{put_into}
use Rattle.tce_window.specs.Window.{WindowValue}
use Rattle.unit_region.specs.Answers.{AnswersPut, tce_of}
use Rattle.unit_region.specs.declared.step.Step.{Step}
use Rattle.unit_region.specs.declared.step.Step.TheVariants as region
use Rattle.vio_trace.specs.declared.outcome.Outcome.TheVariants as outcomes
use Rattle.lan_script.specs.LineBytes.{PutsOn, StepsBytes}
use Rattle.lan_buffers.specs.declared.settings.Settings.{Settings}
use Rattle.lan_script.specs.LineSays.{SaysSent, TellsNoFrame}
use Rattle.lan_script.specs.OwnMac.{mac_at, mac_in}
use Rattle.lan_script.specs.PortReplay.{PortReplay}
use Rattle.lan_script.specs.Replayed.{GoesOut, IsOnePart, SameReplays, SendsShown, bytes_sent, replay_at}
use Rattle.lan_script.specs.Units.{LanValue}
use Rattle.lan_script.specs.Values.{AreOwn, KeepsValues, NamesOwn, SameValues, is_put, puts_other}
use Rattle.lan_script.specs.Windows.{facts_in, facts_of, window_in, with_window}
use Rattle.lan_script.specs.declared.lines.PortStep.{PortStep}
use Rattle.lan_script.specs.declared.lines.PortStep.TheVariants as steps
use Rattle.lan_script.specs.declared.windows.Place.{Place}
use Rattle.lan_script.proofs.ReplayedLines.{SaysCall, WritesLine}
use Rattle.lan_script.proofs.Placing.{has_place, window_with, with_twice}

-- one that has the values that it had
pub names_kept : (unit : UnitId) (old new : LanValue) → KeepsValues unit old.places new.places → NamesOwn old unit → NamesOwn new unit
names_kept unit old new same own e = subst (λ (l : List ℕ). All (λ v. v / 4096 ≡ e) l) (sym (same e)) (own e)

pub names_same : {X : Type 0} (unit : UnitId) (r : Result X NoMemory) (old new : LanValue) → OnOk r (SameValues old new) → OnOk r (NamesOwn old unit → NamesOwn new unit)
names_same unit (Ok x) old new same = names_kept unit old new (same unit)
names_same unit (Err memory) old new same = tt

pub names_placed : (unit : UnitId) (old new : LanValue) → new.places ≡ old.places → NamesOwn old unit → NamesOwn new unit
names_placed unit old new same = subst (λ (ps : List Place). NamesOwn old unit → AreOwn (λ e. (facts_in ps unit).values e)) (sym same) (λ own. own)

pub names_still : {X : Type 0} (unit : UnitId) (r : Result X NoMemory) (old new : LanValue) → new.places ≡ old.places → OnOk r (NamesOwn old unit → NamesOwn new unit)
names_still unit (Ok x) old new same = names_placed unit old new same
names_still unit (Err memory) old new same = tt

-- ---- a line that puts a value

tce_page : (page : ℕ) (readable writable : Bool) → tce_of page readable writable / 4096 ≡ page
tce_page page true true = omega arith
tce_page page true false = omega arith
tce_page page false true = omega arith
tce_page page false false = omega arith

put_one : (entry tce e : ℕ) → tce / 4096 ≡ entry → (n : ℕ) → n ≡ entry → All (λ v. v / 4096 ≡ e) (put_into n (tce ∷ []) e)
put_one entry tce e names n is = by (n == e) refl
  where
    by : (b : Bool) → (n == e) ≡ b → All (λ (v : ℕ). v / 4096 ≡ e) (cond b (tce ∷ []) [])
    by true t = All-cons (λ (v : ℕ). v / 4096 ≡ e) tce [] (names ∙ sym is ∙ grind (arith, nat_tests, t)) (All-nil (λ (v : ℕ). v / 4096 ≡ e))
    by false t = All-nil (λ (v : ℕ). v / 4096 ≡ e)

puts_own : (old new : PortState) (ioba : ℕ) (put : List ℕ) → Puts old ioba put new → ((e : ℕ) → All (λ v. v / 4096 ≡ e) (put_into (ioba / 4096) put e))
    → AreOwn old.values → AreOwn new.values
puts_own old new ioba put h each own e =
    subst (λ (l : List ℕ). All (λ v. v / 4096 ≡ e) l) (sym (h.values e))
    (All-append (λ (v : ℕ). v / 4096 ≡ e) (old.values e) (put_into (ioba / 4096) put e) (own e) (each e))

none_put : (n e : ℕ) → All (λ v. v / 4096 ≡ e) (put_into n [] e)
none_put n e = All-nil (λ (v : ℕ). v / 4096 ≡ e)

put_names : (old new : PortState) (entry tce : ℕ) (step : Step) → tce / 4096 ≡ entry → AnswersPut old new entry tce step → AreOwn old.values → AreOwn new.values
put_names old new entry tce (region.Ends (outcomes.Code Success)) names h =
    puts_own old new (4096 * entry) (tce ∷ []) h.1 (λ e. put_one entry tce e names (4096 * entry / 4096) (omega arith))
put_names old new entry tce (region.Ends (outcomes.Code Parameter)) names h = puts_own old new (4096 * entry) [] h.1 (λ e. none_put (4096 * entry / 4096) e)
put_names old new entry tce (region.Waits did) names h = puts_own old new (4096 * entry) [] h.1 (λ e. none_put (4096 * entry / 4096) e)
put_names old new entry tce (region.Ends outcome) names h = absurd h

same_page : (page entry : ℕ) → not (page == entry) ≡ false → page ≡ entry
same_page page entry e = by (page == entry) refl e
  where
    by : (b : Bool) → (page == entry) ≡ b → not b ≡ false → page ≡ entry
    by true t f = grind (arith, nat_tests, t)
    by false t f = absurd (cc (f))

-- a line in the unit's region that lets no entry name another page
pub region_names : (verb : Verb) (old new : PortState) (step : Step) → puts_other verb ≡ false → (is_put verb ≡ false → new.values ≡ old.values)
    → PutsOn verb old new step → AreOwn old.values → AreOwn new.values
region_names (verbs.Tce entry page readable writable) old new step other same puts =
    put_names old new entry (tce_of page readable writable) step (tce_page page readable writable ∙ same_page page entry other) puts
region_names verb old new step other same puts = λ own. subst (λ (values : ℕ → List ℕ). AreOwn values) (sym (same refl)) own

-- the window was taken for it, and put back
pub names_back : (lan now : LanValue) (unit : UnitId) (ps₁ ps₂ : List Place) (own own' : WindowValue) → lan ≡ now → window_in unit lan.places ≡ Some own
    → ps₁ ≡ with_window unit None lan.places → ps₂ ≡ with_window unit (Some own') ps₁ → (AreOwn (known_of own).values → AreOwn (known_of own').values)
    → NamesOwn now unit → AreOwn (λ e. (facts_in ps₂ unit).values e)
names_back lan now unit ps₁ ps₂ own own' same at away back step names =
    subst (λ (o : Option WindowValue). AreOwn (λ e. (facts_of unit ps₂ o).values e)) (sym there)
    (step (subst (λ (o : Option WindowValue). AreOwn (λ e. (facts_of unit lan.places o).values e)) at (subst (λ (l : LanValue). NamesOwn l unit) (sym same) names)))
  where
    there : window_in unit ps₂ ≡ Some own'
    there = ap (λ l. window_in unit l) (back ∙ ap (λ l. with_window unit (Some own') l) away ∙ with_twice unit None (Some own') lan.places)
        ∙ window_with unit (Some own') lan.places (has_place unit own lan.places at)

pub region_back : (verb : Verb) (step : Step) (lan now : LanValue) (unit : UnitId) (ps₁ ps₂ : List Place) (own own' : WindowValue) → lan ≡ now
    → window_in unit lan.places ≡ Some own → ps₁ ≡ with_window unit None lan.places → ps₂ ≡ with_window unit (Some own') ps₁ → puts_other verb ≡ false
    → (is_put verb ≡ false → (known_of own').values ≡ (known_of own).values) → PutsOn verb (known_of own) (known_of own') step
    → NamesOwn now unit → AreOwn (λ e. (facts_in ps₂ unit).values e)
region_back verb step lan now unit ps₁ ps₂ own own' same at away back other kept puts =
    names_back lan now unit ps₁ ps₂ own own' same at away back (region_names verb (known_of own) (known_of own') step other kept puts)

-- a step of a line in a region, by its verb
pub puts_none : (verb : Verb) (r : Result Step NoMemory) (old new : PortState) → is_put verb ≡ false → IfOk r (PutsOn verb old new)
puts_none verb (Err memory) old new none = tt
puts_none verb (Ok step) old new none = by verb none
  where
    by : (v : Verb) → is_put v ≡ false → PutsOn v old new step
    by (verbs.Tce entry page readable writable) e = absurd (cc (e))
    by v e = tt

pub puts_is : (verb : Verb) (entry page : ℕ) (readable writable : Bool) (r : Result Step NoMemory) (old new : PortState)
    → verb ≡ verbs.Tce entry page readable writable → IfOk r (AnswersPut old new entry (tce_of page readable writable)) → IfOk r (PutsOn verb old new)
puts_is verb entry page readable writable r old new is h = subst (λ (v : Verb). IfOk r (PutsOn v old new)) (sym is) h

-- ---- steps that tell of no frame

bytes_none : (unit : UnitId) (verb : Verb) (step : PortStep) (old new : LanValue) → TellsNoFrame step → StepsBytes unit verb step old new
bytes_none unit verb (steps.Ends (outcomes.Frame code number)) old new none = absurd none
bytes_none unit verb step old new none = tt

pub no_bytes : (unit : UnitId) (verb : Verb) (r : Result PortStep NoMemory) (old new : LanValue) → IfOk r TellsNoFrame
    → IfOk r (λ step. NamesOwn old unit → StepsBytes unit verb step old new)
no_bytes unit verb (Ok step) old new none = λ own. bytes_none unit verb step old new none
no_bytes unit verb (Err memory) old new none = tt

pub no_bytes_here : (unit : UnitId) (verb : Verb) (step : PortStep) (old new : LanValue) → TellsNoFrame step
    → NamesOwn old unit → StepsBytes unit verb step old new
no_bytes_here unit verb step old new none own = bytes_none unit verb step old new none

pub bytes_ok : (unit : UnitId) (verb made : Verb) (r : Result PortStep NoMemory) (old new : LanValue) → verb ≡ made
    → IfOk r (λ step. NamesOwn old unit → StepsBytes unit made step old new) → IfOk r (λ step. NamesOwn old unit → StepsBytes unit verb step old new)
bytes_ok unit verb made r old new is h = subst (λ (v : Verb). IfOk r (λ step. NamesOwn old unit → StepsBytes unit v step old new)) (sym is) h

-- ---- the frame of a line

-- a line whose frame was written, and was given to the switch
pub send_bytes : (unit : UnitId) (to from : Mac) (len seed at : ℕ) (bytes : List ℕ) (parts : List ℕ) (code : Hrc) (number : Option ℕ) (step : PortStep)
    (old mid new : LanValue) → IsOnePart at len parts → SameReplays old mid → KeepsValues unit old.places mid.places
    → WritesLine unit to from len seed at bytes old mid → SendsShown unit parts number mid new → GoesOut mid unit parts code number → SaysCall code number step
    → NamesOwn old unit → StepsBytes unit (verbs.Send to len seed at) step old new
send_bytes unit to from len seed at bytes parts code number step old mid new part same kept wrote shown goes says own = by number refl shown says.sent
  where
    by : (o : Option ℕ) → number ≡ o → SendsShown unit parts o mid new → SaysSent code o step → StepsBytes unit (verbs.Send to len seed at) step old new
    by None e sent said = bytes_none unit (verbs.Send to len seed at) step old new said
    by (Some n) e sent said =
        subst (λ (s : PortStep). StepsBytes unit (verbs.Send to len seed at) s old new) (sym said)
        (record {
          from = from;
          present = present (replay_at old unit).settings refl;
          bytes = sent refl at bytes (subst (λ (l : ℕ). IsOnePart at l parts) (sym wrote.long) part) (names_kept unit old mid kept own) wrote.shown
              ∙ ap (λ (a : PortReplay). a.frames ++ bytes ∷ []) (same unit) ∙ ap (λ (b : List ℕ). bytes_sent old unit ++ b ∷ []) wrote.bytes_are;
        })
      where
        open_still : (replay_at mid unit).settings ≡ (replay_at old unit).settings
        open_still = ap (λ (a : PortReplay). a.settings) (same unit)

        numbered : number ≡ None → ⊥
        numbered f = cc (e, f)

        present : (o : Option Settings) → (replay_at old unit).settings ≡ o → mac_at old unit ≡ Some from
        present None f = absurd (numbered (goes.closed (open_still ∙ f)).1)
        present (Some settings) f = ap mac_in f ∙ ap (λ (m : Mac). Some m) (sym (wrote.present settings f))
