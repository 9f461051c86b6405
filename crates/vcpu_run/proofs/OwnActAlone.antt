-- A step of a client's line, with what else it leaves at the ports, where the hands in these stay.
use Rattle.std.proofs.Common.{ℕ, List, [], ◌∷◌}
use Rattle.boot_text.specs.declared.verb.Verb.{Verb}
use Rattle.boot_text.specs.declared.verb.Verb.TheVariants as verbs
use Rattle.unit_region.specs.declared.step.Step.{Step}
use Rattle.vcpu_run.specs.Acts.{Acting, ActsFor, CommandsOnce, TakesEach, TakesOnce, TakesRest}
use Rattle.vcpu_run.specs.OwnActs.{SameHands, TakesAlone, TakesEachAlone}
use Rattle.vcpu_run.specs.OwnSteps.{ActsAlone, CommandsAlone, TakesAllAlone}
use Rattle.vcpu_run.specs.declared.script.Progress.{Progress}
use Rattle.vcpu_run.specs.declared.taking.Took.{Took}

takes_alone : (took : Took) (old new : Acting) → TakesOnce took old new → TakesAlone took old new
takes_alone took old new once = record { once = once; crq = once.crq; own = once.own; hands = record { crq = once.crq_hands; own = once.own_hands } }

pub each_alone : (entries : List Took) (old new : Acting) → TakesEach entries old new → TakesEachAlone entries old new
each_alone [] old new same = same
each_alone (took ∷ entries) old new (middle, each, last) = (middle, each_alone entries old middle each, takes_alone took middle new last)

pub rest_alone : (old new : Acting) → TakesRest old new → TakesAllAlone old new
rest_alone old new rest = record { entries = rest.entries; each = each_alone rest.entries old new rest.each }

commands_alone : (line : ℕ) (verb : Verb) (old new : Acting) (step : Step) → SameHands old.ports new.ports → CommandsOnce line verb old new step → CommandsAlone line verb old new step
commands_alone line verb old new step hands once = record {
  once = once;
  alone = record { only = record { crq = once.submits.crq; own = once.submits.own; hands = hands }; memory = once.submits.memory };
}

pub acts_alone : (line : ℕ) (verb : Verb) (p p' : Progress) (old new : Acting) (step : Step) → SameHands old.ports new.ports → ActsFor line verb p p' old new step
    → ActsAlone line verb p p' old new step
acts_alone line verbs.Login p p' old new step hands acts = tt
acts_alone line verbs.Reset p p' old new step hands acts = tt
acts_alone line verbs.Logout p p' old new step hands acts = record { once = acts; alone = record { only = record { crq = acts.crq; own = acts.own; hands = hands }; memory = acts.memory } }
acts_alone line (verbs.Task function tag) p p' old new step hands acts = record { once = acts; alone = record { only = record { crq = acts.crq; own = acts.own; hands = hands }; memory = acts.memory } }
acts_alone line (verbs.Take count) p p' old new step hands acts = record { entries = acts.entries; each = each_alone acts.entries old new acts.each }
acts_alone line (verbs.Data tag) p p' old new step hands acts = record { acts = acts; hands = hands }
acts_alone line (verbs.Peek at len) p p' old new step hands acts = record { acts = acts; hands = hands }
acts_alone line (verbs.Fill at len seed) p p' old new step hands acts = record { acts = acts; hands = hands }
acts_alone line (verbs.Poke at bytes) p p' old new step hands acts = record { acts = acts; hands = hands }
acts_alone line (verbs.Tce entry page readable writable) p p' old new step hands acts = record { acts = acts; hands = hands }
acts_alone line verbs.Tur p p' old new step hands acts = commands_alone line verbs.Tur old new step hands acts
acts_alone line (verbs.Read lba blocks at pieces table) p p' old new step hands acts = commands_alone line (verbs.Read lba blocks at pieces table) old new step hands acts
acts_alone line (verbs.Write lba blocks at pieces table) p p' old new step hands acts = commands_alone line (verbs.Write lba blocks at pieces table) old new step hands acts
acts_alone line (verbs.Command cdb) p p' old new step hands acts = commands_alone line (verbs.Command cdb) old new step hands acts
acts_alone line (verbs.CommandIn cdb at len pieces table) p p' old new step hands acts = commands_alone line (verbs.CommandIn cdb at len pieces table) old new step hands acts
acts_alone line (verbs.CommandOut cdb at len pieces table) p p' old new step hands acts = commands_alone line (verbs.CommandOut cdb at len pieces table) old new step hands acts
acts_alone line verbs.Open p p' old new step hands acts = commands_alone line verbs.Open old new step hands acts
acts_alone line verbs.Close p p' old new step hands acts = commands_alone line verbs.Close old new step hands acts
acts_alone line (verbs.Post at len count) p p' old new step hands acts = commands_alone line (verbs.Post at len count) old new step hands acts
acts_alone line (verbs.Send to len seed at) p p' old new step hands acts = commands_alone line (verbs.Send to len seed at) old new step hands acts
acts_alone line (verbs.ChangeMac mac) p p' old new step hands acts = commands_alone line (verbs.ChangeMac mac) old new step hands acts
acts_alone line (verbs.Multicast control group) p p' old new step hands acts = commands_alone line (verbs.Multicast control group) old new step hands acts
acts_alone line (verbs.Hcall number arguments) p p' old new step hands acts = commands_alone line (verbs.Hcall number arguments) old new step hands acts
acts_alone line verbs.Fail p p' old new step hands acts = commands_alone line verbs.Fail old new step hands acts
