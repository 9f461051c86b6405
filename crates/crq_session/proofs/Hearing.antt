-- What a plain end knows was put into its own queue: all of it, and its own calls put nothing there.
use Rattle.std.proofs.Common.{◌≡◌, List, sym, ap, subst}
use Rattle.vio_num.specs.Words.{Begins}
use Rattle.crq_ring.specs.declared.rows.PipeRow.{PipeRow}
use Rattle.crq_ring.specs.Sessions.{of_session}
use Rattle.crq_ring.proofs.SessionLaws.{begins_self}
use Rattle.crq_session.specs.EndState.{EndState}
use Rattle.crq_session.specs.Heard.{HearsOn}

pub hears_same : (end : EndState) (old new : List PipeRow) → new ≡ old → HearsOn end old new
hears_same end old new same = record { more = subst (Begins old) (sym same) (begins_self old); ended = λ q e. ap (of_session q) same }
