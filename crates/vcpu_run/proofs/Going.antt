-- Turns one behind another: how a server goes on, what they leave of the pairs, the scripts and the LAN, and what they keep.
use Rattle.std.proofs.Common.{◌∙◌, refl, Bool, Err, IfOk, List, Ok, OnOk, Result}
use Rattle.rdma_copy.specs.declared.copy.CopyRecord.{CopyRecord}
use Rattle.lan_script.specs.Units.{LanValue}
use Rattle.block_server.specs.Causes.{Told}
use Rattle.block_server.specs.TurnTold.{Stock}
use Rattle.vcpu_run.specs.declared.pair.Pair.{Pair}
use Rattle.vcpu_run.specs.declared.script.Script.{Script}
use Rattle.vcpu_run.specs.Heard.{TellsPairs}
use Rattle.vcpu_run.specs.Rounds.{KeepsParts, MachineParts, PartsStay}
use Rattle.vcpu_run.specs.Served.{ServerLasts, ServesOn, SparesClients}
use Rattle.vcpu_run.proofs.Causings.{causes_same, causes_then}
use Rattle.vcpu_run.proofs.ClientsTold.{clients_on, clients_same}
use Rattle.vcpu_run.proofs.CopiesMade.{begins_on, begins_same}
use Rattle.vcpu_run.proofs.Disks.{lasts_same, lasts_then}
use Rattle.vcpu_run.proofs.Keeping.{all_same, all_then}
use Rattle.vcpu_run.proofs.Scripted.{run_same, run_then}
use Rattle.vcpu_run.proofs.Unfreed.{frees_on, frees_same}

lasts_so : (now : Stock) → ServerLasts now now
lasts_so now = record { partition = refl; count = refl; grants = λ granted is. is; disk = lasts_same now.records.history.items now.blocks }

pub goes_same : (now : Stock) (pairs : List Pair) → ServesOn now now pairs pairs
goes_same now pairs = record { lasts = lasts_so now; causes = causes_same now.copies pairs now.records.history.items now.blocks }

pub goes_then : (a b c : Stock) (first second third : List Pair) → ServesOn a b first second → ServesOn b c second third → ServesOn a c first third
goes_then a b c first second third one two = record {
  lasts = record {
    partition = two.lasts.partition ∙ one.lasts.partition;
    count = two.lasts.count ∙ one.lasts.count;
    grants = λ granted is. two.lasts.grants granted (one.lasts.grants granted is);
    disk = lasts_then a.records.history.items b.records.history.items c.records.history.items a.blocks b.blocks c.blocks one.lasts.disk two.lasts.disk;
  };
  causes = causes_then a.copies b.copies c.copies first second third a.records.history.items b.records.history.items c.records.history.items a.blocks b.blocks c.blocks one.causes two.causes;
}

-- a turn that changes the pairs alone, and loses nothing that they show
pub goes_told : (now : Stock) (old new : List Pair) → ((told : Told → Bool) → TellsPairs told now.copies new → TellsPairs told now.copies old) → ServesOn now now old new
goes_told now old new tells = record { lasts = lasts_so now; causes = λ told shown. (tells told shown, λ before serve. serve) }

pub spares_same : (copies : List CopyRecord) (pairs : List Pair) → SparesClients copies copies pairs pairs
spares_same copies pairs = record {
  copies = begins_same copies;
  stay = all_same pairs;
  drivers = λ k. refl;
  clients = clients_same pairs;
  stays = frees_same _ pairs;
}

pub spares_then : (a b c : List CopyRecord) (first second third : List Pair) → SparesClients a b first second → SparesClients b c second third → SparesClients a c first third
spares_then a b c first second third one two = record {
  copies = begins_on a b c one.copies two.copies;
  stay = all_then first second third one.stay two.stay;
  drivers = λ k. two.drivers k ∙ one.drivers k;
  clients = clients_on first second third one.clients two.clients;
  stays = frees_on _ first second third one.stays two.stays;
}

pub parts_same : (pairs : List Pair) (scripts : List Script) (lan : LanValue) → PartsStay pairs pairs scripts scripts lan lan
parts_same pairs scripts lan = record { stay = all_same pairs; run = run_same scripts; seats = refl }

pub parts_then : (first second third : List Pair) (a b c : List Script) (lan lan' lan'' : LanValue)
    → PartsStay first second a b lan lan' → PartsStay second third b c lan' lan'' → PartsStay first third a c lan lan''
parts_then first second third a b c lan lan' lan'' one two = record {
  stay = all_then first second third one.stay two.stay;
  run = run_then a b c one.run two.run;
  seats = two.seats ∙ one.seats;
}

pub keeps_same : (now : MachineParts) → KeepsParts now now
keeps_same now = record { credited = λ are. are; said = λ are. are; told = λ tells. tells; linked = λ are. are }

pub keeps_then : (a b c : MachineParts) → KeepsParts a b → KeepsParts b c → KeepsParts a c
keeps_then a b c one two = record {
  credited = λ are. two.credited (one.credited are);
  said = λ are. two.said (one.said are);
  told = λ tells. two.told (one.told tells);
  linked = λ are. two.linked (one.linked are);
}

-- what follows from three clauses of a result that was found
pub ok_three : {T E : Type 0} (r : Result T E) (P Q R S : Type 0) → (P → Q → R → S) → OnOk r P → OnOk r Q → OnOk r R → OnOk r S
ok_three (Ok x) P Q R S step p q s = step p q s
ok_three (Err e) P Q R S step p q s = tt

pub ok_five : {T E : Type 0} (r : Result T E) (A B C D F P : Type 0) → (A → B → C → D → F → P) → OnOk r A → OnOk r B → OnOk r C → OnOk r D → OnOk r F → OnOk r P
ok_five (Ok x) A B C D F P step a b c d f = step a b c d f
ok_five (Err e) A B C D F P step a b c d f = tt

pub if_six : {T E : Type 0} (r : Result T E) (A B C D F G P : T → Type 0) → ((x : T) → A x → B x → C x → D x → F x → G x → P x)
    → IfOk r A → IfOk r B → IfOk r C → IfOk r D → IfOk r F → IfOk r G → IfOk r P
if_six (Ok x) A B C D F G P step a b c d f h = step x a b c d f h
if_six (Err e) A B C D F G P step a b c d f h = tt
