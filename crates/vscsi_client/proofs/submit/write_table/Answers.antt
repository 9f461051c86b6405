use Rattle.vscsi_client.proofs.Ranges.{with_table}
use Rattle.vscsi_client.proofs.submit.write_table.Goals as goal

pub table_bytes-requires-clause-inside : goal.table_bytes-requires-clause-inside
table_bytes-requires-clause-inside g c = (with_table c.args.op.now _ c.in-Some.is c.requires.fits c.requires.low).1
