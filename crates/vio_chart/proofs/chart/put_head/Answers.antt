use Rattle.vio_chart.proofs.Put.{head_of, on_ok}
use Rattle.vio_chart.proofs.chart.put_head.Goals as goal

pub returns : goal.returns
returns c =
    on_ok _ _ _ (head_of _ _ _ _ _ _ _ _ _ _ c.in_ok-put.ensures c.in_ok-put_counted.ensures c.in_ok-put_counted-2.ensures) c.put-2.ensures
