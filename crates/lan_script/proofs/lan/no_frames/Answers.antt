use Rattle.std.proofs.Common.{◌∙◌, ◌++◌, ◌∷◌, [], arith, map, ap}
use Rattle.lan_script.proofs.Cuts.{equal_step, map_behind}
use Rattle.lan_script.proofs.lan.no_frames.Goals as goal

pub loop-seat-preserved : goal.loop-seat-preserved
loop-seat-preserved c = record {
  made = equal_step [] c.args.seats.now c.loop-seat._seat-index (map (λ rows. rows.items) c.loop-seat.frames.items)
      (map (λ rows. rows.items) c.push_reserved.new.self.items) c.loop-seat-test.true c.loop-seat.invariant.made
      (ap (λ l. map (λ rows. rows.items) l) c.push_reserved.ensures.items ∙ map_behind (λ rows. rows.items) c.loop-seat.frames.items c.new.result
      ∙ ap (λ l. map (λ rows. rows.items) c.loop-seat.frames.items ++ l ∷ []) c.new.ensures.items);
  room = omega (arith, c.loop-seat.invariant.room, c.push_reserved.ensures.capacity);
}
