use Rattle.std.proofs.Common.{arith}
use Rattle.srp_iu.proofs.Descriptors.{desc_of-desc_bytes}
use Rattle.srp_iu.proofs.buffer.Desc.to_bytes.Goals as goal

pub returns-clause-reads_back : goal.returns-clause-reads_back
returns-clause-reads_back c rest =
    desc_of-desc_bytes c.args.self rest (omega arith) (omega arith) (omega arith)
