use Rattle.block_server.specs.Numbered.{NamesNext}
use Rattle.block_server.proofs.Nexts.{next_done, next_whole}
use Rattle.std.proofs.Common.{◌≡◌, ◌∙◌, List, subst, sym}
use Rattle.srp_iu.specs.declared.buffer.Desc.{Desc}
use Rattle.block_server.specs.Causes.{IsNamed}
use Rattle.srp_desc.specs.declared.pieces.Pieces.TheVariants.{Fetch, Whole}
use Rattle.block_server.specs.Heard.{heard_between}
use Rattle.block_server.proofs.Gathering.{buffer_refused, named_whole, read_done}
use Rattle.block_server.proofs.Named.{whole_sum}
use Rattle.block_server.specs.Standing.{stood}
use Rattle.block_server.proofs.fetching.fetch_pieces.Goals as goal

pub set-requires-clause-summed : goal.set-requires-clause-summed
set-requires-clause-summed g c =
    whole_sum c.args.buffer.now c.in-Ok-Whole.field-0 c.in-Ok-Whole.list c.in-Ok-Whole.ensures.ok c.in-Ok-Whole.field-0-is c.named_pieces_sum_up.ensures.sum
    ∙ sym c.total_len.ensures

pub returns-in-Ok-Fetch-clause-refused : goal.returns-in-Ok-Fetch-clause-refused
returns-in-Ok-Fetch-clause-refused g c =
    let given : c.in-Ok-Fetch.field-0 ≡ Fetch c.in-Ok-Fetch.table c.in-Ok-Fetch.total = c.in-Ok-Fetch.field-0-is in
    buffer_refused (heard_between (g.S.Site.state c.args.site.now) (g.S.Site.state c.fetch_table.new.site)) c.args.buffer.now c.in-Ok-Fetch.field-0
    c.in-Ok-Fetch.table c.in-Ok-Fetch.total c.fetch_table.result c.in-Ok-Fetch.ensures.ok c.in-Ok-Fetch.ensures.tables given c.fetched_table_is_read.ensures
    c.fetch_table.ensures.refused

pub returns-in-Ok-Fetch-clause-named : goal.returns-in-Ok-Fetch-clause-named
returns-in-Ok-Fetch-clause-named g c =
    let given : c.in-Ok-Fetch.field-0 ≡ Fetch c.in-Ok-Fetch.table c.in-Ok-Fetch.total = c.in-Ok-Fetch.field-0-is in
    read_done (heard_between (g.S.Site.state c.args.site.now) (g.S.Site.state c.fetch_table.new.site)) c.args.buffer.now c.in-Ok-Fetch.field-0
    c.in-Ok-Fetch.table c.in-Ok-Fetch.total _ c.fetch_table.result c.in-Ok-Fetch.ensures.ok c.in-Ok-Fetch.ensures.tables given c.fetched_table_is_read.ensures
    c.fetch_table.ensures.read

pub returns-in-Ok-Whole-clause-named : goal.returns-in-Ok-Whole-clause-named
returns-in-Ok-Whole-clause-named g c =
    let given : c.in-Ok-Whole.field-0 ≡ Whole c.in-Ok-Whole.list = c.in-Ok-Whole.field-0-is in
    subst (λ (list : List Desc). IsNamed (heard_between (g.S.Site.state c.args.site.now) (g.S.Site.state c.args.site.now)) c.args.buffer.now list) (sym c.set.ensures.list)
    (named_whole _ c.args.buffer.now c.in-Ok-Whole.field-0 c.in-Ok-Whole.list c.in-Ok-Whole.ensures.ok c.in-Ok-Whole.ensures.tables given)

pub returns-in-Ok-Fetch-clause-numbered : goal.returns-in-Ok-Fetch-clause-numbered
returns-in-Ok-Fetch-clause-numbered g c =
    let given : c.in-Ok-Fetch.field-0 ≡ Fetch c.in-Ok-Fetch.table c.in-Ok-Fetch.total = c.in-Ok-Fetch.field-0-is in
    next_done (g.S.Site.state c.args.site.now) (g.S.Site.state c.fetch_table.new.site) c.args.buffer.now c.in-Ok-Fetch.field-0
    c.in-Ok-Fetch.table c.in-Ok-Fetch.total _ c.fetch_table.result c.in-Ok-Fetch.ensures.ok c.in-Ok-Fetch.ensures.tables given c.fetched_table_is_read.ensures
    c.fetch_table.ensures.numbered

pub returns-in-Ok-Whole-clause-numbered : goal.returns-in-Ok-Whole-clause-numbered
returns-in-Ok-Whole-clause-numbered g c =
    let given : c.in-Ok-Whole.field-0 ≡ Whole c.in-Ok-Whole.list = c.in-Ok-Whole.field-0-is in
    subst (λ (list : List Desc). NamesNext (g.S.Site.state c.args.site.now) (g.S.Site.state c.args.site.now) c.args.buffer.now list) (sym c.set.ensures.list)
    (next_whole (g.S.Site.state c.args.site.now) c.args.buffer.now c.in-Ok-Whole.field-0 c.in-Ok-Whole.list c.in-Ok-Whole.ensures.ok c.in-Ok-Whole.ensures.tables given)

pub returns-in-Ok-Fetch-clause-stood : goal.returns-in-Ok-Fetch-clause-stood
returns-in-Ok-Fetch-clause-stood g c =
    let given : c.in-Ok-Fetch.field-0 ≡ Fetch c.in-Ok-Fetch.table c.in-Ok-Fetch.total = c.in-Ok-Fetch.field-0-is in
    read_done (stood (g.S.Site.state c.fetch_table.new.site).client) c.args.buffer.now c.in-Ok-Fetch.field-0
    c.in-Ok-Fetch.table c.in-Ok-Fetch.total _ c.fetch_table.result c.in-Ok-Fetch.ensures.ok c.in-Ok-Fetch.ensures.tables given c.fetched_table_is_read.ensures
    c.fetch_table.ensures.stood

pub returns-in-Ok-Whole-clause-stood : goal.returns-in-Ok-Whole-clause-stood
returns-in-Ok-Whole-clause-stood g c =
    let given : c.in-Ok-Whole.field-0 ≡ Whole c.in-Ok-Whole.list = c.in-Ok-Whole.field-0-is in
    subst (λ (list : List Desc). IsNamed (stood (g.S.Site.state c.args.site.now).client) c.args.buffer.now list) (sym c.set.ensures.list)
    (named_whole _ c.args.buffer.now c.in-Ok-Whole.field-0 c.in-Ok-Whole.list c.in-Ok-Whole.ensures.ok c.in-Ok-Whole.ensures.tables given)
