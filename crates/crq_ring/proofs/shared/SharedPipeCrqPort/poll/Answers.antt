use Rattle.std.proofs.Common.{ℕ, refl}
use Rattle.vio_num.specs.declared.entry.Entry.{Entry}
use Rattle.crq_ring.specs.declared.port.Poll.{Poll}
use Rattle.crq_ring.specs.declared.port.Poll.TheVariants.{Got, Empty}
use Rattle.crq_ring.specs.Answers.{IfGot, IfEmpty}
use Rattle.crq_ring.proofs.SharedPasses.{takes_through, finds_none_through}
use Rattle.crq_ring.proofs.shared.SharedPipeCrqPort.poll.Goals as goal

if_got : (poll : Poll) (P Q : ℕ → Entry → Type 0) → ((number : ℕ) (entry : Entry) → P number entry → Q number entry) → IfGot poll P → IfGot poll Q
if_got (Got number entry) P Q f h = f number entry h
if_got (Empty number) P Q f h = tt

if_empty : (poll : Poll) (P Q : ℕ → Type 0) → ((number : ℕ) → P number → Q number) → IfEmpty poll P → IfEmpty poll Q
if_empty (Got number entry) P Q f h = tt
if_empty (Empty number) P Q f h = f number h

pub returns-clause-got : goal.returns-clause-got
returns-clause-got c = if_got c.poll-poll.result _ _
    (λ number entry took. takes_through c.args.self.now c.tell_receiver.new.self _ c.tell_sender.new.self c.tell_receiver.ensures c.poll-poll.ensures.rest refl c.tell_sender.ensures number entry took) c.poll-poll.ensures.got

pub returns-clause-empty : goal.returns-clause-empty
returns-clause-empty c = if_empty c.poll-poll.result _ _
    (λ number found. finds_none_through c.args.self.now c.tell_receiver.new.self _ c.tell_sender.new.self c.tell_receiver.ensures c.poll-poll.ensures.rest refl c.tell_sender.ensures number found) c.poll-poll.ensures.empty
