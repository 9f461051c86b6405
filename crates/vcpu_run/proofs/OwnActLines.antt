-- A step of an own client's line, but for a login, whose server unit's session is over, or was, while no login is under way: it stays so, the
-- client's queue is registered as it was, and what was noted another unit laid.
use Rattle.std.proofs.Common.{◌≡◌, inl, inr, ℕ, ◌≤◌, ◌==◌, ◌&&◌, nat_le, Bool, true, false, true≢false, List, Option, Some, None, refl, sym, ap, arith}
use Rattle.std.proofs.lemmas.Bool.Decides.{nat_tests}
use Rattle.boot_text.specs.declared.plan.Line.{Line}
use Rattle.boot_text.specs.declared.verb.Verb.{Verb}
use Rattle.boot_text.specs.declared.verb.Verb.TheVariants as verbs
use Rattle.crq_session.specs.EndState.{EndState}
use Rattle.block_server.specs.Doings.{Doing}
use Rattle.unit_region.specs.Pattern.{pattern as filling}
use Rattle.unit_region.specs.declared.step.Step.{Step}
use Rattle.vscsi_client.specs.State.{ClientState}
use Rattle.vscsi_client.specs.declared.TheConstants.{DATA_START}
use Rattle.vcpu_run.specs.Acts.{Acting, StaysAside, WritesRegion}
use Rattle.vcpu_run.specs.OwnActs.{GoesOver, RestsOver, SameHands}
use Rattle.vcpu_run.specs.OwnPairs.{ComesOver, IsMidLogin, RestsIdle, StandsOver}
use Rattle.vcpu_run.specs.OwnSteps.{ActsAlone, CommandsAlone, LogsIn}
use Rattle.vcpu_run.specs.PlainClients.{lie_behind, names_own, written_by}
use Rattle.vcpu_run.specs.PlainScripts.{OfUnit}
use Rattle.vcpu_run.specs.declared.script.Progress.{Progress}
use Rattle.vcpu_run.specs.declared.script.Progress.TheVariants as progress
use Rattle.vcpu_run.proofs.OwnActDone.{data_line, logs_out_line, puts_line, shows_line, submits_line, tasks_line, writes_line}
use Rattle.vcpu_run.proofs.OwnActEach.{each_over}
use Rattle.vcpu_run.proofs.OwnActRests.{each_registered}

-- What a step of a line leaves.
pub record LeavesOver (granted : ℕ) (failed : Bool) (d : Doing) (old new : Acting) : Type 0 where
  pub goes : GoesOver granted failed d old new
  pub registered : new.ports.crq.registered ≡ old.ports.crq.registered

-- what an own client's line may do in its region
pub record IsOwnVerb (verb : Verb) : Type 0 where
  pub entry : names_own verb ≡ true
  pub behind : lie_behind (written_by verb) ≡ true

aside_registered : (old new : Acting) → StaysAside old new → new.ports.crq.registered ≡ old.ports.crq.registered
aside_registered old new aside = ap (λ (e : EndState). e.registered) aside.crq

lies_behind : (at : ℕ) → (nat_le DATA_START at && true) ≡ true → DATA_START ≤ at
lies_behind at is = by (nat_le DATA_START at) refl is
  where
    by : (b : Bool) → nat_le DATA_START at ≡ b → (b && true) ≡ true → DATA_START ≤ at
    by true is e = grind (arith, nat_tests, is)
    by false is e = absurd (true≢false (sym e))

-- what a line writes in its region
fills_on : (granted : ℕ) (failed : Bool) (line to : ℕ) (bytes : List ℕ) (d : Doing) (old new : Acting) (step : Step) → (nat_le DATA_START to && true) ≡ true → RestsOver granted failed d old
    → SameHands old.ports new.ports → WritesRegion line to bytes old new step → LeavesOver granted failed d old new
fills_on granted failed line to bytes d old new step behind rests hands writes = record {
  goes = writes_line granted failed line to bytes d old new step rests hands (lies_behind to behind) writes;
  registered = aside_registered old new writes.aside;
}

commands_on : (granted : ℕ) (failed : Bool) (line : ℕ) (verb : Verb) (d : Doing) (old new : Acting) (step : Step) → RestsOver granted failed d old → CommandsAlone line verb old new step
    → LeavesOver granted failed d old new
commands_on granted failed line verb d old new step rests alone = record {
  goes = submits_line granted failed line alone.once.op d old new step rests alone.alone.only alone.once.submits alone.alone.memory;
  registered = alone.alone.only.crq.registered;
}

pub acts_over : (granted : ℕ) (failed : Bool) (line : ℕ) (verb : Verb) (p p' : Progress) (d : Doing) (old new : Acting) (step : Step) → (LogsIn verb → ⊥) → IsOwnVerb verb
    → RestsOver granted failed d old → ActsAlone line verb p p' old new step → LeavesOver granted failed d old new
acts_over granted failed line verbs.Login p p' d old new step other own rests acts = absurd (other tt)
acts_over granted failed line verbs.Reset p p' d old new step other own rests acts = absurd (other tt)
acts_over granted failed line verbs.Logout p p' d old new step other own rests acts = record {
  goes = logs_out_line granted failed line d old new step rests acts.alone.only acts.once acts.alone.memory;
  registered = acts.alone.only.crq.registered;
}
acts_over granted failed line (verbs.Task function tag) p p' d old new step other own rests acts = record {
  goes = tasks_line granted failed line function tag d old new step rests acts.alone.only acts.once acts.alone.memory;
  registered = acts.alone.only.crq.registered;
}
acts_over granted failed line (verbs.Take count) p p' d old new step other own rests acts = record {
  goes = each_over granted failed d acts.entries old new rests acts.each;
  registered = each_registered acts.entries old new acts.each;
}
acts_over granted failed line (verbs.Data tag) p p' d old new step other own rests acts = record {
  goes = data_line granted failed tag d old new step rests acts.hands acts.acts;
  registered = aside_registered old new acts.acts.reads.aside;
}
acts_over granted failed line (verbs.Peek at len) p p' d old new step other own rests acts = record {
  goes = shows_line granted failed at len d old new step rests acts.hands acts.acts;
  registered = aside_registered old new acts.acts.reads.aside;
}
acts_over granted failed line (verbs.Fill at len seed) p p' d old new step other own rests acts =
    fills_on granted failed line at (filling seed len) d old new step own.behind rests acts.hands acts.acts
acts_over granted failed line (verbs.Poke at bytes) p p' d old new step other own rests acts = fills_on granted failed line at bytes d old new step own.behind rests acts.hands acts.acts
acts_over granted failed line (verbs.Tce entry page readable writable) p p' d old new step other own rests acts = record {
  goes = puts_line granted failed entry page readable writable d old new step rests acts.hands own.entry acts.acts;
  registered = aside_registered old new acts.acts.aside;
}
acts_over granted failed line verbs.Tur p p' d old new step other own rests acts = commands_on granted failed line verbs.Tur d old new step rests acts
acts_over granted failed line (verbs.Read lba blocks at pieces table) p p' d old new step other own rests acts =
    commands_on granted failed line (verbs.Read lba blocks at pieces table) d old new step rests acts
acts_over granted failed line (verbs.Write lba blocks at pieces table) p p' d old new step other own rests acts =
    commands_on granted failed line (verbs.Write lba blocks at pieces table) d old new step rests acts
acts_over granted failed line (verbs.Command cdb) p p' d old new step other own rests acts = commands_on granted failed line (verbs.Command cdb) d old new step rests acts
acts_over granted failed line (verbs.CommandIn cdb at len pieces table) p p' d old new step other own rests acts =
    commands_on granted failed line (verbs.CommandIn cdb at len pieces table) d old new step rests acts
acts_over granted failed line (verbs.CommandOut cdb at len pieces table) p p' d old new step other own rests acts =
    commands_on granted failed line (verbs.CommandOut cdb at len pieces table) d old new step rests acts
acts_over granted failed line verbs.Open p p' d old new step other own rests acts = commands_on granted failed line verbs.Open d old new step rests acts
acts_over granted failed line verbs.Close p p' d old new step other own rests acts = commands_on granted failed line verbs.Close d old new step rests acts
acts_over granted failed line (verbs.Post at len count) p p' d old new step other own rests acts = commands_on granted failed line (verbs.Post at len count) d old new step rests acts
acts_over granted failed line (verbs.Send to len seed at) p p' d old new step other own rests acts = commands_on granted failed line (verbs.Send to len seed at) d old new step rests acts
acts_over granted failed line (verbs.ChangeMac mac) p p' d old new step other own rests acts = commands_on granted failed line (verbs.ChangeMac mac) d old new step rests acts
acts_over granted failed line (verbs.Multicast control group) p p' d old new step other own rests acts =
    commands_on granted failed line (verbs.Multicast control group) d old new step rests acts
acts_over granted failed line (verbs.Hcall number arguments) p p' d old new step other own rests acts =
    commands_on granted failed line (verbs.Hcall number arguments) d old new step rests acts
acts_over granted failed line verbs.Fail p p' d old new step other own rests acts = commands_on granted failed line verbs.Fail d old new step rests acts

-- ---- where its script comes

-- one at rest is as one in the midst of a login
pub rests_logging : (s : ClientState) → RestsIdle s → IsMidLogin s
rests_logging s rests = record { settled = rests.settled; due = λ tag slot written. absurd (cc (written, rests.login)) }

-- a client at rest whose queue is registered may stand anywhere
comes_any : (verb : Verb) (p : Progress) (s : ClientState) (own : EndState) → RestsIdle s → own.registered ≡ true → ComesOver verb p s own
comes_any verbs.Login p s own rests on = rests_logging s rests
comes_any verbs.Reset progress.Freed s own rests on = rests_logging s rests
comes_any verbs.Reset progress.Fresh s own rests on = (rests, on)
comes_any verbs.Reset (progress.Took n) s own rests on = (rests, on)
comes_any verbs.Reset (progress.Posted n) s own rests on = (rests, on)
comes_any verb p s own rests on = (rests, on)

of_unit : (b : Bool) (P Q : Type 0) → P → Q → OfUnit b P Q
of_unit true P Q its other = its
of_unit false P Q its other = other

pub stands_any : (u : ℕ) (line : Option Line) (p : Progress) (s : ClientState) (own : EndState) → RestsIdle s → own.registered ≡ true → StandsOver u false line p s own
stands_any u None p s own rests on = inr (rests, on)
stands_any u (Some line) p s own rests on =
    inl (refl, of_unit (line.unit == u) (ComesOver line.verb p s own) (RestsIdle s × (own.registered ≡ true)) (comes_any line.verb p s own rests on) (rests, on))

-- it stood so before a line that does not log in, or is not its own
pub comes_rests : (verb : Verb) (p : Progress) (s : ClientState) (own : EndState) → (LogsIn verb → ⊥) → ComesOver verb p s own → RestsIdle s × (own.registered ≡ true)
comes_rests verbs.Login p s own other comes = absurd (other tt)
comes_rests verbs.Reset p s own other comes = absurd (other tt)
comes_rests verb p s own other comes = comes
