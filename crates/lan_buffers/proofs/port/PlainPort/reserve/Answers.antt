use Rattle.lan_buffers.proofs.Keeping.{kept_pools}
use Rattle.lan_buffers.proofs.port.PlainPort.reserve.Goals as goal

pub invariant_of-self-in_err-reserve-2 : goal.invariant_of-self-in_err-reserve-2
invariant_of-self-in_err-reserve-2 c = rw (c.reserve-2.ensures.items)
    (record { kept = kept_pools _ _ _ _ _ _ _ _ _ _ c.self.invariant.kept c.reserve.ensures.sizes c.reserve.ensures.waiting; begun = c.self.invariant.begun })

pub invariant_of-self-in_err-reserve-3 : goal.invariant_of-self-in_err-reserve-3
invariant_of-self-in_err-reserve-3 c = rw (c.reserve-2.ensures.items, c.reserve-3.ensures.items)
    (record { kept = kept_pools _ _ _ _ _ _ _ _ _ _ c.self.invariant.kept c.reserve.ensures.sizes c.reserve.ensures.waiting; begun = c.self.invariant.begun })

pub invariant_of-self-in_err-reserve-4 : goal.invariant_of-self-in_err-reserve-4
invariant_of-self-in_err-reserve-4 c = rw (c.reserve-2.ensures.items, c.reserve-3.ensures.items, c.reserve-4.ensures.items)
    (record { kept = kept_pools _ _ _ _ _ _ _ _ _ _ c.self.invariant.kept c.reserve.ensures.sizes c.reserve.ensures.waiting; begun = c.self.invariant.begun })

pub invariant_of-self-2 : goal.invariant_of-self-2
invariant_of-self-2 c = rw (c.reserve-2.ensures.items, c.reserve-3.ensures.items, c.reserve-4.ensures.items)
    (record { kept = kept_pools _ _ _ _ _ _ _ _ _ _ c.self.invariant.kept c.reserve.ensures.sizes c.reserve.ensures.waiting; begun = c.self.invariant.begun })
