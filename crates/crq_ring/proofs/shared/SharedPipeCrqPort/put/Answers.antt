use Rattle.std.proofs.Common.{ℕ, refl}
use Rattle.crq_ring.specs.declared.port.Put.{Put}
use Rattle.crq_ring.specs.declared.port.Put.TheVariants.{Done, Dropped}
use Rattle.crq_ring.specs.Answers.{IfDone, IfDropped}
use Rattle.crq_ring.proofs.SharedPasses.{puts_through, finds_full_through}
use Rattle.crq_ring.proofs.shared.SharedPipeCrqPort.put.Goals as goal

if_done : (put : Put) (P Q : ℕ → Type 0) → ((number : ℕ) → P number → Q number) → IfDone put P → IfDone put Q
if_done (Done number) P Q f h = f number h
if_done (Dropped number held) P Q f h = tt

if_dropped : (put : Put) (P Q : ℕ → ℕ → Type 0) → ((number held : ℕ) → P number held → Q number held) → IfDropped put P → IfDropped put Q
if_dropped (Done number) P Q f h = tt
if_dropped (Dropped number held) P Q f h = f number held h

pub returns-clause-done : goal.returns-clause-done
returns-clause-done c = if_done c.put-put.result _ _
    (λ number done. puts_through c.args.self.now c.tell_sender.new.self _ c.tell_receiver.new.self c.tell_sender.ensures c.put-put.ensures.rest refl c.tell_receiver.ensures number c.args.entry done) c.put-put.ensures.done

pub returns-clause-dropped : goal.returns-clause-dropped
returns-clause-dropped c = if_dropped c.put-put.result _ _
    (λ number held full. finds_full_through c.args.self.now c.tell_sender.new.self _ c.tell_receiver.new.self c.tell_sender.ensures c.put-put.ensures.rest refl c.tell_receiver.ensures number held full) c.put-put.ensures.dropped
