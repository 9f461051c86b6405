-- Whether a line that fails its partition ended, as lines go on and end, and what is so of the queues of its clients then.
use Rattle.std.proofs.Common.{◌≡◌, ◌≢◌, ◌∙◌, ◌⊎◌, inl, inr, ℕ, ◌+◌, ◌<◌, true, false, List, [], ◌∷◌, ◌++◌, Some, None, length, slice_get, refl, sym, ap, subst, length-append, arith}
use Rattle.boot_text.specs.declared.plan.Line.{Line}
use Rattle.boot_text.specs.declared.verb.Verb.{Verb}
use Rattle.boot_text.specs.declared.verb.Verb.TheVariants as verbs
use Rattle.vio_trace.specs.declared.rows.LogRow.{LogRow}
use Rattle.vcpu_run.specs.declared.pair.Pair.{Pair}
use Rattle.vcpu_run.specs.declared.script.Script.{Script}
use Rattle.vcpu_run.specs.declared.unit_seat.Seat.TheVariants as places
use Rattle.vcpu_run.specs.FailedShut.{AllStayShut, HasFailed, IsDown, IsFailed, SeatsShut, opens_if}
use Rattle.vcpu_run.specs.Replay.{asks}
use Rattle.vcpu_run.specs.ScriptTold.{SameClients}
use Rattle.vcpu_run.specs.Works.{fails}
use Rattle.vcpu_run.proofs.Driving.{same_or, some_is}
use Rattle.vcpu_run.proofs.FailedShut.{clients_stay, seats_stay}
use Rattle.vcpu_run.proofs.LoginsTold.{true_false}
use Rattle.vcpu_run.proofs.Sayings.{is_logout, is_own}

-- none of no line
pub none_ended : (lines : List Line) (count : ℕ) → count ≡ 0 → HasFailed lines count → ⊥
none_ended lines count none had =
    let below : had.at < count = had.below in
    absurd (omega (arith, none, below))

-- a line more ended, which fails no partition
pub none_more : (lines : List Line) (at count more : ℕ) (line : Line) → slice_get lines at ≡ Some line → fails line.verb ≡ false → count ≡ at → more ≡ count + 1
    → ¬ HasFailed lines count → HasFailed lines more → ⊥
none_more lines at count more line found one many next none had = by (same_or had.at at)
  where
    below : had.at < more
    below = had.below

    by : (had.at ≡ at) ⊎ (had.at ≢ at) → ⊥
    by (inl e) =
        let is : had.line ≡ line = some_is had.line line (sym had.there ∙ (ap (slice_get lines) e ∙ found)) in
        true_false (fails line.verb) (subst (λ (l : Line). fails l.verb ≡ true) is had.failing) one
    by (inr apart) = none (record { at = had.at; line = had.line; there = had.there; failing = had.failing; below = omega (arith, below, apart, many, next) })

pub script_more : (script done : Script) (line : Line) (row : LogRow) → slice_get script.lines.now script.at ≡ Some line → fails line.verb ≡ false → length script.logs.items ≡ script.at
    → done.lines ≡ script.lines → done.logs.items ≡ script.logs.items ++ row ∷ [] → ¬ IsFailed script → ¬ IsFailed done
script_more script done line row found one many lines logs none =
    subst (λ (ls : List Line). ¬ HasFailed ls (length done.logs.items)) (sym (ap (λ ls. ls.now) lines))
    (none_more script.lines.now script.at (length script.logs.items) (length done.logs.items) line found one many
    (ap length logs ∙ length-append script.logs.items (row ∷ [])) none)

-- THE PART OF WHAT IS SO OF A SCRIPT --------------------------------------------------------------

pub down_none : (pairs : List Pair) (script : Script) → ¬ IsFailed script → IsDown pairs script
down_none pairs script none = record {
  going = λ line there. none;
  shut = λ had. absurd (none had);
}

-- the line that fails the partition ended, and none is left
pub down_failed : (pairs : List Pair) (script done : Script) → slice_get done.lines.now done.at ≡ None → done.seats ≡ script.seats → SeatsShut script.seats.items pairs → IsDown pairs done
down_failed pairs script done none seats shut = record {
  going = λ line there. absurd (no_line line (sym none ∙ there));
  shut = λ had. subst (λ ss. SeatsShut ss.items pairs) (sym seats) shut;
}
  where
    no_line : (line : Line) → None ≡ Some line → ⊥
    no_line line e = cc

pub down_stays : (old new : List Pair) (script : Script) → AllStayShut old new → IsDown old script → IsDown new script
down_stays old new script stay is = record {
  going = is.going;
  shut = λ had. seats_stay script.seats.items old new stay (is.shut had);
}

pub down_clients : (old new : List Pair) (script : Script) → SameClients old new → IsDown old script → IsDown new script
down_clients old new script same is = down_stays old new script (clients_stay old new same) is

-- the pairs of its clients are as before
pub down_else : (old new : List Pair) (script : Script) → ((unit k : ℕ) → slice_get script.seats.items unit ≡ Some (places.Client k) → slice_get new k ≡ slice_get old k)
    → IsDown old script → IsDown new script
down_else old new script same is = record {
  going = is.going;
  shut = λ had unit k at. ap opens_if (same unit k at) ∙ is.shut had unit k at;
}

-- a line that fails the partition asks nothing
pub fails_aside : (verb : Verb) → fails verb ≡ true → (asks verb ≡ false) × (is_logout verb ≡ false) × (is_own verb ≡ false)
fails_aside verbs.Login is = absurd (cc)
fails_aside verbs.Reset is = absurd (cc)
fails_aside verbs.Logout is = absurd (cc)
fails_aside verbs.Tur is = absurd (cc)
fails_aside (verbs.Read lba blocks at pieces table) is = absurd (cc)
fails_aside (verbs.Write lba blocks at pieces table) is = absurd (cc)
fails_aside (verbs.Command cdb) is = absurd (cc)
fails_aside (verbs.CommandIn cdb at len pieces table) is = absurd (cc)
fails_aside (verbs.CommandOut cdb at len pieces table) is = absurd (cc)
fails_aside (verbs.Task function of) is = absurd (cc)
fails_aside (verbs.Take count) is = absurd (cc)
fails_aside (verbs.Data of) is = absurd (cc)
fails_aside verbs.Open is = absurd (cc)
fails_aside verbs.Close is = absurd (cc)
fails_aside (verbs.Post at len count) is = absurd (cc)
fails_aside (verbs.Send to len seed at) is = absurd (cc)
fails_aside (verbs.ChangeMac own) is = absurd (cc)
fails_aside (verbs.Multicast control group) is = absurd (cc)
fails_aside (verbs.Fill at len seed) is = absurd (cc)
fails_aside (verbs.Poke at bytes) is = absurd (cc)
fails_aside (verbs.Peek at len) is = absurd (cc)
fails_aside (verbs.Tce entry page readable writable) is = absurd (cc)
fails_aside (verbs.Hcall number arguments) is = absurd (cc)
fails_aside verbs.Fail is = (refl, refl, refl)
