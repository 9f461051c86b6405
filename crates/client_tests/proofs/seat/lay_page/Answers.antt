use Rattle.tce_window.specs.Lent.{written_still_lent}
use Rattle.client_tests.proofs.seat.lay_page.Goals as goal

pub give_back-requires : goal.give_back-requires
give_back-requires c = written_still_lent _ _ _ c.in-Ok.ensures.lent c.write-written.ensures.follows
