use Rattle.std.proofs.Common.{◌≡◌, ◌++◌, ◌∙◌, List, OnOk, length, map, ap, sym, subst}
use Rattle.vio_trace.specs.declared.lan_rows.HarvestRow.{HarvestRow}
use Rattle.lan_buffers.specs.Port.{StandBySession}
use Rattle.lan_script.specs.Rows.{harvest_row_of}
use Rattle.lan_script.proofs.BySession.{by_session}
use Rattle.lan_script.proofs.rows.put_harvests.Goals as goal

pub returns : goal.returns
returns c =
    subst (λ (l : List HarvestRow). OnOk c.put_each_harvest.result (c.put_each_harvest.new.rows.items ≡ c.args.rows.now.items ++ l))
    (ap (map (harvest_row_of c.args.unit)) c.harvests.ensures.rows
    ∙ sym (by_session (λ row. row.session) (harvest_row_of c.args.unit) (length c.args.port.now.drop_counts) c.args.port.now.harvests
    (subst (StandBySession (λ row. row.session) (length c.args.port.now.drop_counts)) c.harvests.ensures.rows c.harvests.ensures.order)))
    c.put_each_harvest.ensures
