-- The room of an end, from that of its two queues.
use Rattle.std.proofs.Common.{ℕ, ◌+◌, ◌<◌, ◌≤◌, min, arith, Result, Ok, Err, OnOk}
use Rattle.crq_ring.specs.Pipe.{HasRoom}
use Rattle.crq_session.specs.declared.side.PlainSide.{PlainSide}
use Rattle.crq_session.specs.Side.{spare_of, Spends, KeepsSide}

min_first : (a b c : ℕ) → 0 < min a (min b c) → 0 < a
min_first a b c h = omega (arith, h)

min_second : (a b c : ℕ) → 0 < min a (min b c) → 0 < b
min_second a b c h = omega (arith, h)

min_third : (a b c : ℕ) → 0 < min a (min b c) → 0 < c
min_third a b c h = omega (arith, h)

min_of : (n a b c : ℕ) → n ≤ a → n ≤ b → n ≤ c → n ≤ min a (min b c)
min_of n a b c f g h = omega (arith, f, g, h)

min_falls : (a b c a' b' c' : ℕ) → a ≤ a' + 1 → b ≤ b' + 1 → c ≤ c' + 1 → min a (min b c) ≤ min a' (min b' c') + 1
min_falls a b c a' b' c' f g h = omega (arith, f, g, h)

min_kept : (a b c a' b' c' : ℕ) → a ≤ a' → b ≤ b' → c ≤ c' → min a (min b c) ≤ min a' (min b' c')
min_kept a b c a' b' c' f g h = omega (arith, f, g, h)

-- room for a call is room for each kind of call
pub spare_puts : (own partner : PlainSide) → 0 < spare_of own partner → 0 < partner.queue.room.puts
unfolding spare_of
spare_puts own partner h = min_first partner.queue.room.puts own.queue.room.polls own.queue.room.renewals h

pub spare_polls : (own partner : PlainSide) → 0 < spare_of own partner → 0 < own.queue.room.polls
unfolding spare_of
spare_polls own partner h = min_second partner.queue.room.puts own.queue.room.polls own.queue.room.renewals h

pub spare_sessions : (own partner : PlainSide) → 0 < spare_of own partner → 0 < own.queue.room.renewals
unfolding spare_of
spare_sessions own partner h = min_third partner.queue.room.puts own.queue.room.polls own.queue.room.renewals h

-- a call uses up the room of one call
pub spare_falls : (own partner own' partner' : PlainSide) → Spends own partner own' partner' → spare_of own partner ≤ spare_of own' partner' + 1
unfolding spare_of
spare_falls own partner own' partner' s =
    min_falls partner.queue.room.puts own.queue.room.polls own.queue.room.renewals
    partner'.queue.room.puts own'.queue.room.polls own'.queue.room.renewals s.puts s.polls s.renewals

pub spare_kept : (own partner own' partner' : PlainSide) → KeepsSide own own' → KeepsSide partner partner' → spare_of own partner ≤ spare_of own' partner'
unfolding spare_of
spare_kept own partner own' partner' o p =
    min_kept partner.queue.room.puts own.queue.room.polls own.queue.room.renewals
    partner'.queue.room.puts own'.queue.room.polls own'.queue.room.renewals p.queue.puts o.queue.polls o.queue.renewals

-- where room was made in both queues, there is room for this many calls
pub spare_made : {T E : Type 0} (result : Result T E) (n : ℕ) (own partner : PlainSide)
    → OnOk result (HasRoom own.queue n) → OnOk result (HasRoom partner.queue n) → OnOk result (n ≤ spare_of own partner)
unfolding spare_of
spare_made (Ok x) n own partner o p = min_of n partner.queue.room.puts own.queue.room.polls own.queue.room.renewals p.puts o.polls o.renewals
spare_made (Err e) n own partner o p = tt
