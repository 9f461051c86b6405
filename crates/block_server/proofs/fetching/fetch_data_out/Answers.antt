use Rattle.std.proofs.Common.{subst}
use Rattle.tce_window.specs.declared.answers.Right.TheVariants.{Read}
use Rattle.block_server.specs.Causes.{told_to}
use Rattle.block_server.specs.Fetched.{Gathers, HasBoth}
use Rattle.block_server.specs.Heard.{heard_between}
use Rattle.block_server.specs.declared.service.Stage.{Stage}
use Rattle.block_server.proofs.Denying.{data_map}
use Rattle.block_server.proofs.Gathering.{if_refused}
use Rattle.block_server.proofs.Sendings.{out_placed}
use Rattle.block_server.specs.Standing.{stood}
use Rattle.block_server.proofs.Gathering.{gathers_moved}
use Rattle.block_server.proofs.fetching.fetch_data_out.Goals as goal

pub returns-in-DataOut-clause-refused : goal.returns-in-DataOut-clause-refused
returns-in-DataOut-clause-refused g c = λ command told id all known.
    let outs = c.args.service.now.out.list.items in
    let inns = c.args.service.now.inn.list.items in
    let both : HasBoth (told_to told id) command outs inns = subst (λ (stage : Stage). Gathers (told_to told id) command stage outs inns) c.in-DataOut.is known in
    if_refused c.fetch_data.result _ _
    (λ is. record {
      outs = outs;
      out_named = both.out_named;
      refuses = data_map (heard_between (g.S.Site.state c.args.site.now) (g.S.Site.state c.fetch_data.new.site)) (told_to told id) Read outs all is;
    }) c.fetch_data.ensures.refused

pub returns-in-DataOut-clause-all : goal.returns-in-DataOut-clause-all
returns-in-DataOut-clause-all g c = λ id told asked shown rows hand.
    c.fetch_data.ensures.all (out_placed told asked id c.args.service.now shown rows c.in-DataOut.cursor c.in-DataOut.is hand)

pub returns-in-DataOut-clause-stood : goal.returns-in-DataOut-clause-stood
returns-in-DataOut-clause-stood g c = λ command client known.
    gathers_moved (stood client) command _ _ _ _ _ _ c.in-DataOut.cursor c.in-DataOut.is c.fetch_data.ensures.stage c.fetch_data.ensures.out c.fetch_data.ensures.inn known
