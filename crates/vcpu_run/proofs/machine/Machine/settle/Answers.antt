use Rattle.vcpu_run.specs.Links.{AreIdle, AreLinked}
use Rattle.std.proofs.Common.{rules, ◌≡◌, ◌++◌, ℕ, All, Err, List, Ok, OnOk, Result, refl, length, take, drop, ◌∙◌, ap, subst, sym}
use Rattle.std.proofs.lemmas.Option.{IfSome_then}
use Rattle.vio_num.specs.declared.memory.NoMemory.{NoMemory}
use Rattle.vcpu_run.specs.declared.pair.Pair.{Pair}
use Rattle.vcpu_run.specs.declared.script.Script.{Script}
use Rattle.block_server.specs.Receipts.{GrantsMany}
use Rattle.rdma_copy.specs.declared.copy.CopyRecord.{CopyRecord}
use Rattle.vcpu_run.specs.Agreed.{AreCredited}
use Rattle.vcpu_run.specs.CopiesCounted.{copies_at}
use Rattle.vcpu_run.specs.Answered.{AreAnswered}
use Rattle.vcpu_run.specs.Holding.{KeepQueues}
use Rattle.vcpu_run.specs.Lines.{IsOver}
use Rattle.vcpu_run.specs.Machines.{AllRun, AllStay, AreScripts, IsOfPlan}
use Rattle.vcpu_run.specs.Pairs.{AreOfOneHome}
use Rattle.vcpu_run.specs.Received.{AreAtRest, AreReceived}
use Rattle.vcpu_run.specs.ScriptTold.{AreTold}
use Rattle.vcpu_run.proofs.Disks.{disk_told, lasts_somehow, tells_told}
use Rattle.vcpu_run.proofs.Elsewhere.{ok_then}
use Rattle.vcpu_run.proofs.Lasting.{lent, plan_lasts}
use Rattle.vcpu_run.specs.PortWords.{PortsTell}
use Rattle.vcpu_run.specs.PortsRest.{AreTakenTo, PortsEnd}
use Rattle.vcpu_run.specs.Heard.{AreHeard}
use Rattle.vcpu_run.proofs.Causings.{caused_told, form_told}
use Rattle.block_server.specs.TurnStock.{stock_of}
use Rattle.vcpu_run.specs.Served.{AllServed, books_in}
use Rattle.vcpu_run.specs.ClientRuns.{AreClients}
use Rattle.vcpu_run.proofs.OwnTold.{clients_same}
use Rattle.vcpu_run.proofs.machine.Machine.settle.Goals as goal

pub trace_of-trace-requires-clause-pairs : goal.trace_of-trace-requires-clause-pairs
trace_of-trace-requires-clause-pairs g c =
    let old = c.args.self.pairs in
    let new = c.run-run.new.pairs in
    let size : old.len ≡ length old.items = search rules in
    let pairs : take old.len (new ++ drop (length new) old.items) ≡ new =
    lent old.len old.items new size (c.run-run.ensures.stays.stay.count ∙ ap length c.deref_mut.ensures.value) in
    let here : AreOfOneHome c.finish-image.result.copies.items new =
    record { home = c.run-run.new.server.partition; pairs_are = rw c.finish-image.ensures.copies c.run-run.ensures.machine.serving.pairs_are; apart = c.run-run.ensures.machine.serving.apart } in
    subst (λ (list : List Pair). AreOfOneHome c.finish-image.result.copies.items list) (sym pairs) here

pub trace_of-trace-requires-clause-scripts : goal.trace_of-trace-requires-clause-scripts
trace_of-trace-requires-clause-scripts g c =
    let old = c.args.self.pairs in
    let new = c.run-run.new.pairs in
    let old_scripts = c.args.self.scripts in
    let new_scripts = c.run-run.new.scripts in
    let size : old.len ≡ length old.items = search rules in
    let size_scripts : old_scripts.len ≡ length old_scripts.items = search rules in
    let pairs : take old.len (new ++ drop (length new) old.items) ≡ new =
    lent old.len old.items new size (c.run-run.ensures.stays.stay.count ∙ ap length c.deref_mut.ensures.value) in
    let scripts : take old_scripts.len (new_scripts ++ drop (length new_scripts) old_scripts.items) ≡ new_scripts =
    lent old_scripts.len old_scripts.items new_scripts size_scripts (c.run-run.ensures.stays.run.count ∙ ap length c.deref_mut-2.ensures.value) in
    subst (λ (list : List Pair). AreScripts list c.run-run.new.lan.seats (take old_scripts.len (new_scripts ++ drop (length new_scripts) old_scripts.items))) (sym pairs)
    (subst (λ (list : List Script). AreScripts new c.run-run.new.lan.seats list) (sym scripts) c.run-run.ensures.machine.scripts_are)

pub trace_of-trace-requires-clause-credited : goal.trace_of-trace-requires-clause-credited
trace_of-trace-requires-clause-credited g c =
    let old = c.args.self.pairs in
    let new = c.run-run.new.pairs in
    let old_scripts = c.args.self.scripts in
    let new_scripts = c.run-run.new.scripts in
    let size : old.len ≡ length old.items = search rules in
    let size_scripts : old_scripts.len ≡ length old_scripts.items = search rules in
    let pairs : take old.len (new ++ drop (length new) old.items) ≡ new =
    lent old.len old.items new size (c.run-run.ensures.stays.stay.count ∙ ap length c.deref_mut.ensures.value) in
    let scripts : take old_scripts.len (new_scripts ++ drop (length new_scripts) old_scripts.items) ≡ new_scripts =
    lent old_scripts.len old_scripts.items new_scripts size_scripts (c.run-run.ensures.stays.run.count ∙ ap length c.deref_mut-2.ensures.value) in
    let of : List CopyRecord → List Pair → List Script → Type 0 = λ copies list scripts. AreCredited (copies_at copies list) list scripts in
    let was = c.args.self.server.copies.items in
    let now = c.run-run.new.server.copies.items in
    let before : of was c.deref_mut.result.now c.deref_mut-2.result.now =
    subst (λ (list : List Pair). of was list c.deref_mut-2.result.now) (sym c.deref_mut.ensures.value)
    (subst (λ (list : List Script). of was old.items list) (sym c.deref_mut-2.ensures.value) c.requires.ready.credited) in
    ok_then c.run-run.result _ _
    (λ keeps.
    rw c.finish-image.ensures.copies
    (subst (λ (list : List Pair). of now list (take old_scripts.len (new_scripts ++ drop (length new_scripts) old_scripts.items))) (sym pairs)
    (subst (λ (list : List Script). of now new list) (sym scripts) (keeps.credited before))))
    c.run-run.ensures.keeps

pub trace_of-trace-requires-clause-over : goal.trace_of-trace-requires-clause-over
trace_of-trace-requires-clause-over g c =
    let old_scripts = c.args.self.scripts in
    let new_scripts = c.run-run.new.scripts in
    let size_scripts : old_scripts.len ≡ length old_scripts.items = search rules in
    let scripts : take old_scripts.len (new_scripts ++ drop (length new_scripts) old_scripts.items) ≡ new_scripts =
    lent old_scripts.len old_scripts.items new_scripts size_scripts (c.run-run.ensures.stays.run.count ∙ ap length c.deref_mut-2.ensures.value) in
    ok_then c.run-run.result (All IsOver new_scripts) _ (λ over. subst (λ (list : List Script). All IsOver list) (sym scripts) over) c.run-run.ensures.over

pub trace_of-trace-requires-clause-answered : goal.trace_of-trace-requires-clause-answered
trace_of-trace-requires-clause-answered g c =
    let old = c.args.self.pairs in
    let new = c.run-run.new.pairs in
    let size : old.len ≡ length old.items = search rules in
    let pairs : take old.len (new ++ drop (length new) old.items) ≡ new =
    lent old.len old.items new size (c.run-run.ensures.stays.stay.count ∙ ap length c.deref_mut.ensures.value) in
    let here : AreAnswered c.finish-image.result.history.items new = rw c.finish-image.ensures.history c.run-run.ensures.served.answered in
    subst (λ (list : List Pair). AreAnswered c.finish-image.result.history.items list) (sym pairs) here

pub run-run-requires-clause-served : goal.run-run-requires-clause-served
run-run-requires-clause-served g c =
    subst (λ (list : List Pair). AllServed (stock_of c.args.self.server) list) (sym c.deref_mut.ensures.value) c.requires.ready.served

pub returns-clause-disk : goal.returns-clause-disk
returns-clause-disk g c =
    let history : c.finish-image.result.history.items ≡ c.run-run.new.server.records.history.items = rw c.finish-image.ensures.history refl in
    disk_told c.trace_of-trace.result c.args.self.server.records.history.items c.run-run.new.server.records.history.items c.finish-image.result.history.items
    (g.Di.Blocks.state c.args.self.server.disk.image).blocks (g.Di.Blocks.state c.run-run.new.server.disk.image).blocks (g.Di.Blocks.state c.finish-image.result.image).blocks
    history (ap (λ image. (g.Di.Blocks.state image).blocks) c.finish-image.ensures.image)
    c.run-run.ensures.goes.lasts.disk c.trace_of-trace.ensures.serves

pub returns-clause-tells : goal.returns-clause-tells
returns-clause-tells g c =
    tells_told (g.Di.Blocks.state c.args.self.server.disk.image).blocks (g.Di.Blocks.state c.run-run.new.server.disk.image).blocks (g.Di.Blocks.state c.finish-image.result.image).blocks
    (ap (λ image. (g.Di.Blocks.state image).blocks) c.finish-image.ensures.image) c.run-run.ensures.goes.lasts.disk.tells

pub returns-clause-lasts : goal.returns-clause-lasts
returns-clause-lasts g c =
    lasts_somehow c.args.self.server.records.history.items c.run-run.new.server.records.history.items
    (g.Di.Blocks.state c.args.self.server.disk.image).blocks (g.Di.Blocks.state c.run-run.new.server.disk.image).blocks (g.Di.Blocks.state c.finish-image.result.image).blocks
    (ap (λ image. (g.Di.Blocks.state image).blocks) c.finish-image.ensures.image) c.run-run.ensures.goes.lasts.disk

pub returns-clause-law : goal.returns-clause-law
returns-clause-law g c =
    let old = c.args.self.pairs in
    let new = c.run-run.new.pairs in
    let old_scripts = c.args.self.scripts in
    let new_scripts = c.run-run.new.scripts in
    let size : old.len ≡ length old.items = search rules in
    let size_scripts : old_scripts.len ≡ length old_scripts.items = search rules in
    let stay : AllStay old.items new = rw (← c.deref_mut.ensures.value) c.run-run.ensures.stays.stay in
    let run : AllRun old_scripts.items new_scripts = rw (← c.deref_mut-2.ensures.value) c.run-run.ensures.stays.run in
    let pairs : take old.len (new ++ drop (length new) old.items) ≡ new = lent old.len old.items new size stay.count in
    let scripts : take old_scripts.len (new_scripts ++ drop (length new_scripts) old_scripts.items) ≡ new_scripts =
    lent old_scripts.len old_scripts.items new_scripts size_scripts run.count in
    IfSome_then c.trace_of-trace.result c.trace_of-trace.ensures.law
    (λ trace keeps partitions of_plan.
    keeps partitions (rw (pairs, scripts) (plan_lasts partitions old.items new old_scripts.items new_scripts c.args.self.lan.seats c.run-run.new.lan.seats stay run c.run-run.ensures.stays.seats of_plan)))

pub trace_of-trace-requires-clause-rests : goal.trace_of-trace-requires-clause-rests
trace_of-trace-requires-clause-rests g c =
    let old = c.args.self.pairs in
    let new = c.run-run.new.pairs in
    let old_scripts = c.args.self.scripts in
    let new_scripts = c.run-run.new.scripts in
    let size : old.len ≡ length old.items = search rules in
    let size_scripts : old_scripts.len ≡ length old_scripts.items = search rules in
    let pairs : take old.len (new ++ drop (length new) old.items) ≡ new =
    lent old.len old.items new size (c.run-run.ensures.stays.stay.count ∙ ap length c.deref_mut.ensures.value) in
    let scripts : take old_scripts.len (new_scripts ++ drop (length new_scripts) old_scripts.items) ≡ new_scripts =
    lent old_scripts.len old_scripts.items new_scripts size_scripts (c.run-run.ensures.stays.run.count ∙ ap length c.deref_mut-2.ensures.value) in
    let units = c.args.self.server.units.items in
    let units' = c.run-run.new.server.units.items in
    let before : AreLinked units c.deref_mut.result.now = subst (AreLinked units) (sym c.deref_mut.ensures.value) c.requires.ready.linked in
    let whole : KeepQueues c.deref_mut.result.now c.deref_mut-2.result.now =
    subst (λ (list : List Pair). KeepQueues list c.deref_mut-2.result.now) (sym c.deref_mut.ensures.value)
    (subst (λ (list : List Script). KeepQueues old.items list) (sym c.deref_mut-2.ensures.value) c.requires.ready.unfreed) in
    let received : AreReceived units' c.finish-image.result.copies.items c.finish-image.result.grants.items c.finish-image.result.history.items new =
    rw (c.finish-image.ensures.copies, c.finish-image.ensures.grants, c.finish-image.ensures.history) c.run-run.ensures.served.received in
    let rows : c.finish-image.result.history.items ≡ c.run-run.new.server.records.history.items = rw c.finish-image.ensures.history refl in
    let lines : c.finish-image.result.grants.items ≡ c.run-run.new.server.records.grants.items = rw c.finish-image.ensures.grants refl in
    let heard : AreHeard c.run-run.new.server.disk.count c.run-run.new.server.partition units' c.run-run.new.server.records c.finish-image.result.copies.items new =
    rw c.finish-image.ensures.copies c.run-run.ensures.served.heard in
    ok_then c.run-run.result
    ((AreLinked units c.deref_mut.result.now → AreIdle units' new new_scripts) × (AreLinked units c.deref_mut.result.now → KeepQueues c.deref_mut.result.now c.deref_mut-2.result.now → KeepQueues new new_scripts) × All IsOver new_scripts) _
    (λ told.
    subst (λ (list : List Pair). AreAtRest c.finish-image.result.copies.items c.finish-image.result.grants.items c.finish-image.result.history.items list (take old_scripts.len (new_scripts ++ drop (length new_scripts) old_scripts.items))) (sym pairs)
    (subst (λ (list : List Script). AreAtRest c.finish-image.result.copies.items c.finish-image.result.grants.items c.finish-image.result.history.items new list) (sym scripts)
    (record {
      units = units';
      idle = told.0 before;
      received = received;
      unfreed = told.1 before whole;
      over = told.2;
      size = c.run-run.new.server.disk.count;
      partition = c.run-run.new.server.partition;
      records = c.run-run.new.server.records;
      rows_are = sym rows;
      lines_are = sym lines;
      names = λ k pair found. (c.run-run.ensures.machine.serving.pairs_are k pair found).own_unit ∙ (c.run-run.ensures.machine.serving.pairs_are k pair found).server;
      heard = heard;
    })))
    (all_ok c.run-run.result _ _ _ c.run-run.ensures.idle c.run-run.ensures.unfreed c.run-run.ensures.over)
  where
    all_ok : (r : Result Unit NoMemory) (P Q R : Type 0) → OnOk r P → OnOk r Q → OnOk r R → OnOk r (P × Q × R)
    all_ok (Ok x) P Q R p q s = (p, q, s)
    all_ok (Err e) P Q R p q s = tt

pub trace_of-trace-requires-clause-told : goal.trace_of-trace-requires-clause-told
trace_of-trace-requires-clause-told g c =
    let old_scripts = c.args.self.scripts in
    let new_scripts = c.run-run.new.scripts in
    let size_scripts : old_scripts.len ≡ length old_scripts.items = search rules in
    let scripts : take old_scripts.len (new_scripts ++ drop (length new_scripts) old_scripts.items) ≡ new_scripts =
    lent old_scripts.len old_scripts.items new_scripts size_scripts (c.run-run.ensures.stays.run.count ∙ ap length c.deref_mut-2.ensures.value) in
    let before : PortsTell c.args.self.lan c.deref_mut-2.result.now =
    subst (λ (list : List Script). PortsTell c.args.self.lan list) (sym c.deref_mut-2.ensures.value) c.requires.ready.told in
    ends c.run-run.result _ (AreTakenTo (length new_scripts) c.run-run.new.lan new_scripts) _
    (λ keeps taken. subst (λ (list : List Script). PortsEnd c.run-run.new.lan list) (sym scripts) (record { told = keeps.told before; taken = taken }))
    c.run-run.ensures.keeps c.run-run.ensures.ports
  where
    ends : (r : Result Unit NoMemory) (P Q R : Type 0) → (P → Q → R) → OnOk r P → OnOk r Q → OnOk r R
    ends (Ok x) P Q R f p q = f p q
    ends (Err e) P Q R f p q = tt

pub trace_of-trace-requires-clause-said : goal.trace_of-trace-requires-clause-said
trace_of-trace-requires-clause-said g c =
    let old = c.args.self.pairs in
    let new = c.run-run.new.pairs in
    let old_scripts = c.args.self.scripts in
    let new_scripts = c.run-run.new.scripts in
    let size : old.len ≡ length old.items = search rules in
    let size_scripts : old_scripts.len ≡ length old_scripts.items = search rules in
    let pairs : take old.len (new ++ drop (length new) old.items) ≡ new =
    lent old.len old.items new size (c.run-run.ensures.stays.stay.count ∙ ap length c.deref_mut.ensures.value) in
    let scripts : take old_scripts.len (new_scripts ++ drop (length new_scripts) old_scripts.items) ≡ new_scripts =
    lent old_scripts.len old_scripts.items new_scripts size_scripts (c.run-run.ensures.stays.run.count ∙ ap length c.deref_mut-2.ensures.value) in
    let before : AreTold c.deref_mut.result.now c.deref_mut-2.result.now =
    subst (λ (list : List Pair). AreTold list c.deref_mut-2.result.now) (sym c.deref_mut.ensures.value)
    (subst (λ (list : List Script). AreTold old.items list) (sym c.deref_mut-2.ensures.value) c.requires.ready.said) in
    ok_then c.run-run.result _ _
    (λ keeps.
    subst (λ (list : List Pair). AreTold list (take old_scripts.len (new_scripts ++ drop (length new_scripts) old_scripts.items))) (sym pairs)
    (subst (λ (list : List Script). AreTold new list) (sym scripts) (keeps.said before)))
    c.run-run.ensures.keeps

pub returns-clause-grants : goal.returns-clause-grants
returns-clause-grants g c =
    let lines : c.finish-image.result.grants.items ≡ c.run-run.new.server.records.grants.items = rw c.finish-image.ensures.grants refl in
    IfSome_then c.trace_of-trace.result c.trace_of-trace.ensures.grants
    (λ trace same granted is. subst (All (GrantsMany granted)) (sym (same ∙ lines)) (c.run-run.ensures.goes.lasts.grants granted is).said)

pub returns-clause-caused : goal.returns-clause-caused
returns-clause-caused g c =
    let old = c.args.self.pairs in
    let new = c.run-run.new.pairs in
    let old_scripts = c.args.self.scripts in
    let new_scripts = c.run-run.new.scripts in
    let server = c.args.self.server in
    let server' = c.run-run.new.server in
    let size : old.len ≡ length old.items = search rules in
    let size_scripts : old_scripts.len ≡ length old_scripts.items = search rules in
    let stay : AllStay old.items new = rw (← c.deref_mut.ensures.value) c.run-run.ensures.stays.stay in
    let run : AllRun old_scripts.items new_scripts = rw (← c.deref_mut-2.ensures.value) c.run-run.ensures.stays.run in
    let pairs : take old.len (new ++ drop (length new) old.items) ≡ new = lent old.len old.items new size stay.count in
    let scripts : take old_scripts.len (new_scripts ++ drop (length new_scripts) old_scripts.items) ≡ new_scripts =
    lent old_scripts.len old_scripts.items new_scripts size_scripts run.count in
    let history : c.finish-image.result.history.items ≡ server'.records.history.items = rw c.finish-image.ensures.history refl in
    let copies : c.finish-image.result.copies.items ≡ server'.copies.items = rw c.finish-image.ensures.copies refl in
    caused_told c.trace_of-trace.result server.copies.items server'.copies.items c.finish-image.result.copies.items c.deref_mut.result.now new
    (take old.len (new ++ drop (length new) old.items)) server.records.history.items server'.records.history.items c.finish-image.result.history.items
    (g.Di.Blocks.state server.disk.image).blocks (g.Di.Blocks.state server'.disk.image).blocks (g.Di.Blocks.state c.finish-image.result.image).blocks
    (λ partitions. IsOfPlan partitions old.items old_scripts.items c.args.self.lan.seats)
    (λ partitions. IsOfPlan partitions (take old.len (new ++ drop (length new) old.items)) (take old_scripts.len (new_scripts ++ drop (length new_scripts) old_scripts.items)) c.run-run.new.lan.seats)
    (λ partitions of_plan. rw (pairs, scripts) (plan_lasts partitions old.items new old_scripts.items new_scripts c.args.self.lan.seats c.run-run.new.lan.seats stay run c.run-run.ensures.stays.seats of_plan))
    history copies pairs (ap (λ image. (g.Di.Blocks.state image).blocks) c.finish-image.ensures.image)
    c.run-run.ensures.goes.causes c.trace_of-trace.ensures.serves c.trace_of-trace.ensures.shown

pub returns-clause-clients : goal.returns-clause-clients
returns-clause-clients g c =
    let old = c.args.self.pairs in
    let new = c.run-run.new.pairs in
    let old_scripts = c.args.self.scripts in
    let new_scripts = c.run-run.new.scripts in
    let server = c.args.self.server in
    let server' = c.run-run.new.server in
    let books = books_in server in
    let size : old.len ≡ length old.items = search rules in
    let size_scripts : old_scripts.len ≡ length old_scripts.items = search rules in
    let stay : AllStay old.items new = rw (← c.deref_mut.ensures.value) c.run-run.ensures.stays.stay in
    let run : AllRun old_scripts.items new_scripts = rw (← c.deref_mut-2.ensures.value) c.run-run.ensures.stays.run in
    let list = take old.len (new ++ drop (length new) old.items) in
    let list_scripts = take old_scripts.len (new_scripts ++ drop (length new_scripts) old_scripts.items) in
    let pairs : list ≡ new = lent old.len old.items new size stay.count in
    let scripts : list_scripts ≡ new_scripts = lent old_scripts.len old_scripts.items new_scripts size_scripts run.count in
    let rows : c.finish-image.result.history.items ≡ server'.records.history.items = rw c.finish-image.ensures.history refl in
    let lines : c.finish-image.result.grants.items ≡ server'.records.grants.items = rw c.finish-image.ensures.grants refl in
    IfSome_then c.trace_of-trace.result c.trace_of-trace.ensures.clients
    (λ trace keeps partitions of_plan granted are.
    let before : AreClients granted server.partition books c.deref_mut.result.now c.deref_mut-2.result.now =
    subst (λ (l : List Pair). AreClients granted server.partition books l c.deref_mut-2.result.now) (sym c.deref_mut.ensures.value)
    (subst (λ (l : List Script). AreClients granted server.partition books old.items l) (sym c.deref_mut-2.ensures.value) are) in
    keeps partitions (rw (pairs, scripts) (plan_lasts partitions old.items new old_scripts.items new_scripts c.args.self.lan.seats c.run-run.new.lan.seats stay run c.run-run.ensures.stays.seats of_plan))
    granted server'.partition server'.units.items
    (ok_then c.run-run.result
    (AreLinked server.units.items c.deref_mut.result.now → (granted : ℕ) → AreClients granted server.partition books c.deref_mut.result.now c.deref_mut-2.result.now
    → AreClients granted server'.partition (books_in server') new new_scripts) _
    (λ kept. clients_same granted server'.partition server'.units.items server'.records.grants.items c.finish-image.result.grants.items
    server'.records.history.items c.finish-image.result.history.items new list new_scripts list_scripts lines rows pairs scripts (kept (subst (AreLinked server.units.items) (sym c.deref_mut.ensures.value) c.requires.ready.linked) granted before))
    c.run-run.ensures.clients))

pub returns-clause-formed : goal.returns-clause-formed
returns-clause-formed g c =
    let old = c.args.self.pairs in
    let new = c.run-run.new.pairs in
    let old_scripts = c.args.self.scripts in
    let new_scripts = c.run-run.new.scripts in
    let server' = c.run-run.new.server in
    let size : old.len ≡ length old.items = search rules in
    let size_scripts : old_scripts.len ≡ length old_scripts.items = search rules in
    let stay : AllStay old.items new = rw (← c.deref_mut.ensures.value) c.run-run.ensures.stays.stay in
    let run : AllRun old_scripts.items new_scripts = rw (← c.deref_mut-2.ensures.value) c.run-run.ensures.stays.run in
    let pairs : take old.len (new ++ drop (length new) old.items) ≡ new = lent old.len old.items new size stay.count in
    let scripts : take old_scripts.len (new_scripts ++ drop (length new_scripts) old_scripts.items) ≡ new_scripts =
    lent old_scripts.len old_scripts.items new_scripts size_scripts run.count in
    let history : c.finish-image.result.history.items ≡ server'.records.history.items = rw c.finish-image.ensures.history refl in
    let copies : c.finish-image.result.copies.items ≡ server'.copies.items = rw c.finish-image.ensures.copies refl in
    form_told c.trace_of-trace.result server'.copies.items c.finish-image.result.copies.items new (take old.len (new ++ drop (length new) old.items)) c.finish-image.result.history.items
    server'.disk.count c.args.self.server.disk.count server'.partition server'.units.items server'.records
    (λ partitions. IsOfPlan partitions old.items old_scripts.items c.args.self.lan.seats)
    (λ partitions. IsOfPlan partitions (take old.len (new ++ drop (length new) old.items)) (take old_scripts.len (new_scripts ++ drop (length new_scripts) old_scripts.items)) c.run-run.new.lan.seats)
    (λ partitions of_plan. rw (pairs, scripts) (plan_lasts partitions old.items new old_scripts.items new_scripts c.args.self.lan.seats c.run-run.new.lan.seats stay run c.run-run.ensures.stays.seats of_plan))
    history copies pairs c.run-run.ensures.goes.lasts.count
    c.run-run.ensures.served.heard c.trace_of-trace.ensures.serves c.trace_of-trace.ensures.shown
