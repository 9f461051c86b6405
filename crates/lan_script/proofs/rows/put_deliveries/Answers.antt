use Rattle.std.proofs.Common.{◌≡◌, ◌++◌, ◌∙◌, List, OnOk, length, map, ap, sym, subst}
use Rattle.vio_trace.specs.declared.lan_rows.DeliverRow.{DeliverRow}
use Rattle.lan_buffers.specs.Port.{StandBySession}
use Rattle.lan_script.specs.Rows.{deliver_row_of}
use Rattle.lan_script.proofs.BySession.{by_session}
use Rattle.lan_script.proofs.rows.put_deliveries.Goals as goal

pub returns : goal.returns
returns c =
    subst (λ (l : List DeliverRow). OnOk c.put_each_delivery.result (c.put_each_delivery.new.rows.items ≡ c.args.rows.now.items ++ l))
    (ap (map (deliver_row_of c.args.unit)) c.deliveries.ensures.rows
    ∙ sym (by_session (λ row. row.session) (deliver_row_of c.args.unit) (length c.args.port.now.drop_counts) c.args.port.now.deliveries
    (subst (StandBySession (λ row. row.session) (length c.args.port.now.drop_counts)) c.deliveries.ensures.rows c.deliveries.ensures.order)))
    c.put_each_delivery.ensures
