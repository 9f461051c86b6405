use Rattle.block_server.proofs.CopyKinds.{count_more, nth_of_fetch, same_total}
use Rattle.std.proofs.Common.{inl, rules}
use Rattle.block_server.proofs.Gathering.{heard_table}
use Rattle.block_server.proofs.fetching.fetch_table.Goals as goal

pub returns-in-Ok-read_table-clause-read : goal.returns-in-Ok-read_table-clause-read
returns-in-Ok-read_table-clause-read g c = record {
  bytes = c.fetch_table.new.out;
  full = search rules;
  brought = heard_table _ _ _ _ c.in-Ok.ensures.fetched;
  sums = search rules;
}

pub returns-in-Err-clause-refused : goal.returns-in-Err-clause-refused
returns-in-Err-clause-refused g c = inl (record {
  bytes = c.fetch_table.new.out;
  full = search rules;
  brought = heard_table _ _ _ _ c.in-Ok.ensures.fetched;
  fault = c.in-Err.field-0;
  sums = search rules;
})

pub returns-in-Ok-read_table-clause-numbered : goal.returns-in-Ok-read_table-clause-numbered
returns-in-Ok-read_table-clause-numbered g c = record {
  bytes = c.fetch_table.new.out;
  full = search rules;
  brought = nth_of_fetch _ _ _ _ _ c.fetch_table.ensures.advances.own_place c.in-Ok.ensures.fetched;
  sums = search rules;
  one = count_more _ _ _ _ _ c.fetch_table.ensures.advances.own_place c.in-Ok.ensures.fetched.made c.in-Ok.ensures.fetched.kind;
}

pub returns-in-Err-Busy-clause-still : goal.returns-in-Err-Busy-clause-still
returns-in-Err-Busy-clause-still g c = same_total _ _ _ _ c.fetch_table.ensures.advances.own_place c.in-Err-Busy.ensures.none

pub returns-in-Err-NoMemory-clause-still : goal.returns-in-Err-NoMemory-clause-still
returns-in-Err-NoMemory-clause-still g c = same_total _ _ _ _ c.fetch_table.ensures.advances.own_place c.in-Err-NoMemory.ensures.none

pub returns-in-Ok-read_table-clause-stood : goal.returns-in-Ok-read_table-clause-stood
returns-in-Ok-read_table-clause-stood g c = record {
  bytes = c.fetch_table.new.out;
  full = search rules;
  brought = c.in-Ok.ensures.whole;
  sums = search rules;
}
