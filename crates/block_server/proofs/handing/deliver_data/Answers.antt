use Rattle.std.proofs.Common.{◌≡◌}
use Rattle.block_server.specs.Moves.{data_count}
use Rattle.block_server.proofs.CopyKinds.{same_pages}
use Rattle.std.proofs.Common.{arith, length}
use Rattle.srp_desc.specs.Pieces.{sum_of}
use Rattle.std.proofs.Common.{◌+◌, ℕ, List, Option}
use Rattle.srp_iu.specs.declared.buffer.Desc.{Desc}
use Rattle.block_server.specs.Cargo.{SendsPart}
use Rattle.block_server.specs.Parts.{IsPartAt, LiesAt}
use Rattle.std.proofs.Common.{◌∙◌, ap, refl}
use Rattle.std.specs.Result.{IsErrOf}
use Rattle.tce_window.specs.declared.answers.Right.TheVariants.{Write}
use Rattle.block_server.specs.declared.data_pieces.DataPieces.{DataPieces}
use Rattle.block_server.specs.declared.site.Halt.TheVariants.{Busy, Refused}
use Rattle.block_server.proofs.Denying.{part_refused}
use Rattle.block_server.proofs.Advancing.{advances_on}
use Rattle.block_server.proofs.Readying.{uses_later}
use Rattle.std.proofs.Common.{sym, subst}
use Rattle.block_server.proofs.Cargoes.{sees, shown_same}
use Rattle.block_server.proofs.Sendings.{all_sent, part_moved}
use Rattle.block_server.specs.Cargo.{IsAccounted}
use Rattle.block_server.specs.Parts.{IsPlacedAt}
use Rattle.block_server.proofs.Denying.{tells_first, tells_next}
use Rattle.block_server.specs.Causes.{IsPartOf}
use Rattle.block_server.specs.Ranges.{client_known}
use Rattle.block_server.proofs.RangeLaws.{one_part, part_laid}
use Rattle.block_server.proofs.BearingParts.{borne_at, part_sent}
use Rattle.block_server.proofs.handing.deliver_data.Goals as goal

pub returns-in-Err-Refused-clause-advances : goal.returns-in-Err-Refused-clause-advances
returns-in-Err-Refused-clause-advances g c = advances_on _ _ _ c.loop-part.invariant.advances c.deliver_data.ensures.advances

pub returns-in-Err-Busy-clause-advances : goal.returns-in-Err-Busy-clause-advances
returns-in-Err-Busy-clause-advances g c = advances_on _ _ _ c.loop-part.invariant.advances c.deliver_data.ensures.advances

pub returns-in-Err-NoMemory-clause-advances : goal.returns-in-Err-NoMemory-clause-advances
returns-in-Err-NoMemory-clause-advances g c = advances_on _ _ _ c.loop-part.invariant.advances c.deliver_data.ensures.advances

pub loop-part-preserved : goal.loop-part-preserved
loop-part-preserved g c = record {
  advances = advances_on _ _ _ c.loop-part.invariant.advances c.deliver_data.ensures.advances;
  stage = refl;
  answer = c.loop-part.invariant.answer;
  out = c.loop-part.invariant.out;
  inn = c.loop-part.invariant.inn;
  given = c.loop-part.invariant.given;
  queue = c.deliver_data.ensures.queue ∙ c.loop-part.invariant.queue;
  passes = c.deliver_data.ensures.passes ∙ c.loop-part.invariant.passes;
  wrote = part_laid (IsPartOf c.args.service.now.inn.list.items) (client_known (g.S.Site.state c.args.site.now)) (client_known (g.S.Site.state c.loop-part.site)) (client_known (g.S.Site.state c.deliver_data.new.self))
      c.in-Some-address.address c.in-Some.part.len
      (one_part c.as_slice.result.now c.args.service.now.inn.list.items c.in-Some.part.address c.in-Some-address.address c.in-Some.part.len c.in-Some-address.is
      (c.as_slice.ensures ∙ ap (λ (pieces : DataPieces). pieces.list.items) c.loop-part.invariant.inn) c.in-Some.ensures.piece) c.loop-part.invariant.wrote c.deliver_data.ensures.wrote;
  shown = c.deliver_data.ensures.data ∙ c.loop-part.invariant.shown;
  bears = λ placed are.
      let pieces : c.as_slice.result.now ≡ c.args.service.now.inn.list.items = c.as_slice.ensures ∙ ap (λ (pieces : DataPieces). pieces.list.items) c.loop-part.invariant.inn in
      part_sent (g.S.Site.state c.loop-part.site).own (g.S.Site.state c.args.site.now).own c.args.tag c.as_slice.result.now c.args.service.now.inn.list.items
      c.args.service.now.given.items c.in-Some.part.at c.loop-part.cursor.done c.in-Some.part.address c.in-Some-address.address c.in-Some.part.len c.in-Some.part.end.done
      c.len-total.result (client_known (g.S.Site.state c.args.site.now)) (client_known (g.S.Site.state c.loop-part.site)) (client_known (g.S.Site.state c.deliver_data.new.self))
      c.loop-part.invariant.advances.own_place c.loop-part.invariant.shown pieces c.in-Some-address.is
      (c.in-Some.ensures.there (subst (λ (list : List Desc). IsPlacedAt list c.loop-part.cursor) (sym pieces) (c.loop-part.invariant.placed placed)))
      c.in-Some.ensures.at c.in-Some.ensures.within (omega (arith, c.len-total.ensures)) c.in-Some.ensures.end are
      (c.loop-part.invariant.bears placed are) c.deliver_data.ensures.bears;
  placed = λ placed.
      subst (λ (list : List Desc). IsPlacedAt list c.loop-part.cursor → IsPlacedAt list c.in-Some.part.end)
      (c.as_slice.ensures ∙ ap (λ (pieces : DataPieces). pieces.list.items) c.loop-part.invariant.inn) c.in-Some.ensures.placed (c.loop-part.invariant.placed placed);
  cargo = λ id told asked all rows tagged first hand.
      let total : c.len-total.result ≡ length c.loop-part.service.given.items = omega (arith, c.len-total.ensures, ap length c.loop-part.invariant.given) in
      part_moved told asked id c.loop-part.service _ first (g.S.Site.state c.loop-part.site) (g.S.Site.state c.deliver_data.new.self) rows c.args.row c.args.tag c.in-Some.part.len c.in-Some-address.address
      c.args.reply c.loop-part.cursor c.in-Some.part.end c.loop-part.invariant.stage refl refl refl c.deliver_data.ensures.advances.own_place c.deliver_data.ensures.data
      (subst (λ (n : ℕ). SendsPart (g.S.Site.state c.loop-part.site) (g.S.Site.state c.deliver_data.new.self) n c.in-Some-address.address c.in-Some.part.len c.args.tag) c.in-Some.ensures.at c.in-Ok.ensures.sent)
      (tells_next told id (g.S.Site.state c.args.site.now) (g.S.Site.state c.loop-part.site) (g.S.Site.state c.deliver_data.new.self) c.loop-part.invariant.advances all)
      c.in-Some.ensures.len.1 (c.in-Some.ensures.end ∙ ap (λ (n : ℕ). n + c.in-Some.part.len) c.in-Some.ensures.at)
      (λ placed. subst (λ (z : List Desc × ℕ × Option ℕ). LiesAt z.0 z.1 z.2 c.in-Some.part.len) (λ i. (c.as_slice.ensures i, c.in-Some.ensures.at i, c.in-Some-address.is i))
      (c.in-Some.ensures.there (subst (λ (list : List Desc). IsPlacedAt list c.loop-part.cursor) (sym c.as_slice.ensures) placed)))
      (subst (λ (list : List Desc). IsPlacedAt list c.loop-part.cursor → IsPlacedAt list c.in-Some.part.end) c.as_slice.ensures c.in-Some.ensures.placed)
      (λ placed. subst (λ (z : List Desc × ℕ × ℕ × Option ℕ). IsPartAt z.0 z.1 z.2 z.3 c.in-Some.part.len)
      (λ i. (c.as_slice.ensures i, total i, c.in-Some.ensures.at i, c.in-Some-address.is i))
      (c.in-Some.ensures.part (subst (λ (list : List Desc). IsPlacedAt list c.loop-part.cursor) (sym c.as_slice.ensures) placed)))
      (omega (arith, c.in-Some.ensures.within, c.in-Some.ensures.at, total))
      tagged
      (c.loop-part.invariant.cargo id told asked (tells_first told id (g.S.Site.state c.args.site.now) (g.S.Site.state c.loop-part.site) (g.S.Site.state c.deliver_data.new.self) c.deliver_data.ensures.advances all) rows tagged first hand);
}

pub returns-in-Err-Refused-clause-refused : goal.returns-in-Err-Refused-clause-refused
returns-in-Err-Refused-clause-refused g c =
    let refused : IsErrOf c.deliver_data.result Refused = cc (c.in-Err-Refused.is, c.in-Err-Refused.field-0-is) in
    part_refused (g.S.Site.state c.args.site.now) (g.S.Site.state c.loop-part.site) (g.S.Site.state c.deliver_data.new.self) Write _ _ _ _ _ c.loop-part.invariant.advances c.in-Some-address.is
    (c.as_slice.ensures ∙ ap (λ (pieces : DataPieces). pieces.list.items) c.loop-part.invariant.inn)
    c.in-Some.ensures.piece (c.deliver_data.ensures.refused refused)

pub returns-in-Err-Busy-clause-busy : goal.returns-in-Err-Busy-clause-busy
returns-in-Err-Busy-clause-busy g c = λ is.
    let busy : IsErrOf c.deliver_data.result Busy = cc (c.in-Err-Busy.is, c.in-Err-Busy.field-0-is) in
    uses_later (g.S.Site.state c.args.site.now) (g.S.Site.state c.loop-part.site) (g.S.Site.state c.deliver_data.new.self) c.loop-part.invariant.advances (c.deliver_data.ensures.busy busy)

pub returns-in-Err-Refused-clause-cargo : goal.returns-in-Err-Refused-clause-cargo
returns-in-Err-Refused-clause-cargo g c = λ id told asked all rows tagged first hand.
    subst (IsAccounted told asked) (sym (shown_same _ _ _ _ _ _ (sees _ _ _ (same_pages _ _ _ _ c.deliver_data.ensures.data c.deliver_data.ensures.advances.own_place (ap (data_count _) c.in-Err-Refused.ensures.none))) refl))
    (c.loop-part.invariant.cargo id told asked (tells_first told id (g.S.Site.state c.args.site.now) (g.S.Site.state c.loop-part.site) (g.S.Site.state c.deliver_data.new.self) c.deliver_data.ensures.advances all) rows tagged first hand)

pub returns-in-Err-Busy-clause-cargo : goal.returns-in-Err-Busy-clause-cargo
returns-in-Err-Busy-clause-cargo g c = λ id told asked all rows tagged first hand.
    subst (IsAccounted told asked) (sym (shown_same _ _ _ _ _ _ (sees _ _ _ (same_pages _ _ _ _ c.deliver_data.ensures.data c.deliver_data.ensures.advances.own_place (ap (data_count _) c.in-Err-Busy.ensures.none))) refl))
    (c.loop-part.invariant.cargo id told asked (tells_first told id (g.S.Site.state c.args.site.now) (g.S.Site.state c.loop-part.site) (g.S.Site.state c.deliver_data.new.self) c.deliver_data.ensures.advances all) rows tagged first hand)

pub returns-in-Err-NoMemory-clause-cargo : goal.returns-in-Err-NoMemory-clause-cargo
returns-in-Err-NoMemory-clause-cargo g c = λ id told asked all rows tagged first hand.
    subst (IsAccounted told asked) (sym (shown_same _ _ _ _ _ _ (sees _ _ _ (same_pages _ _ _ _ c.deliver_data.ensures.data c.deliver_data.ensures.advances.own_place (ap (data_count _) c.in-Err-NoMemory.ensures.none))) refl))
    (c.loop-part.invariant.cargo id told asked (tells_first told id (g.S.Site.state c.args.site.now) (g.S.Site.state c.loop-part.site) (g.S.Site.state c.deliver_data.new.self) c.deliver_data.ensures.advances all) rows tagged first hand)

pub returns-clause-all : goal.returns-clause-all
returns-clause-all g c = λ placed.
    let at : IsPlacedAt c.as_slice.result.now c.loop-part.cursor =
    subst (λ (list : List Desc). IsPlacedAt list c.loop-part.cursor) (sym (c.as_slice.ensures ∙ ap (λ (pieces : DataPieces). pieces.list.items) c.loop-part.invariant.inn))
    (c.loop-part.invariant.placed placed) in
    all_sent c.loop-part.service c.args.row c.args.reply c.loop-part.cursor c.loop-part.invariant.stage
    (omega (arith, c.in_default.ensures.all at refl, ap sum_of c.as_slice.ensures, ap length c.loop-part.invariant.given, c.len-total.ensures))

pub returns-in-Err-Refused-clause-wrote : goal.returns-in-Err-Refused-clause-wrote
returns-in-Err-Refused-clause-wrote g c =
    part_laid (IsPartOf c.args.service.now.inn.list.items) (client_known (g.S.Site.state c.args.site.now)) (client_known (g.S.Site.state c.loop-part.site)) (client_known (g.S.Site.state c.deliver_data.new.self))
    c.in-Some-address.address c.in-Some.part.len
    (one_part c.as_slice.result.now c.args.service.now.inn.list.items c.in-Some.part.address c.in-Some-address.address c.in-Some.part.len c.in-Some-address.is
    (c.as_slice.ensures ∙ ap (λ (pieces : DataPieces). pieces.list.items) c.loop-part.invariant.inn) c.in-Some.ensures.piece) c.loop-part.invariant.wrote c.deliver_data.ensures.wrote

pub returns-in-Err-Busy-clause-wrote : goal.returns-in-Err-Busy-clause-wrote
returns-in-Err-Busy-clause-wrote g c =
    part_laid (IsPartOf c.args.service.now.inn.list.items) (client_known (g.S.Site.state c.args.site.now)) (client_known (g.S.Site.state c.loop-part.site)) (client_known (g.S.Site.state c.deliver_data.new.self))
    c.in-Some-address.address c.in-Some.part.len
    (one_part c.as_slice.result.now c.args.service.now.inn.list.items c.in-Some.part.address c.in-Some-address.address c.in-Some.part.len c.in-Some-address.is
    (c.as_slice.ensures ∙ ap (λ (pieces : DataPieces). pieces.list.items) c.loop-part.invariant.inn) c.in-Some.ensures.piece) c.loop-part.invariant.wrote c.deliver_data.ensures.wrote

pub returns-in-Err-NoMemory-clause-wrote : goal.returns-in-Err-NoMemory-clause-wrote
returns-in-Err-NoMemory-clause-wrote g c =
    part_laid (IsPartOf c.args.service.now.inn.list.items) (client_known (g.S.Site.state c.args.site.now)) (client_known (g.S.Site.state c.loop-part.site)) (client_known (g.S.Site.state c.deliver_data.new.self))
    c.in-Some-address.address c.in-Some.part.len
    (one_part c.as_slice.result.now c.args.service.now.inn.list.items c.in-Some.part.address c.in-Some-address.address c.in-Some.part.len c.in-Some-address.is
    (c.as_slice.ensures ∙ ap (λ (pieces : DataPieces). pieces.list.items) c.loop-part.invariant.inn) c.in-Some.ensures.piece) c.loop-part.invariant.wrote c.deliver_data.ensures.wrote

pub returns-in-Err-Refused-clause-bears : goal.returns-in-Err-Refused-clause-bears
returns-in-Err-Refused-clause-bears g c = λ placed are cursor is.
    borne_at _ _ _ _ c.args.row c.args.reply c.loop-part.cursor cursor _ _ _ c.loop-part.invariant.stage is c.in-Err-Refused.ensures.missed (c.loop-part.invariant.bears placed are)

pub returns-in-Err-Busy-clause-bears : goal.returns-in-Err-Busy-clause-bears
returns-in-Err-Busy-clause-bears g c = λ placed are cursor is.
    borne_at _ _ _ _ c.args.row c.args.reply c.loop-part.cursor cursor _ _ _ c.loop-part.invariant.stage is c.in-Err-Busy.ensures.missed (c.loop-part.invariant.bears placed are)

pub returns-in-Err-NoMemory-clause-bears : goal.returns-in-Err-NoMemory-clause-bears
returns-in-Err-NoMemory-clause-bears g c = λ placed are cursor is.
    borne_at _ _ _ _ c.args.row c.args.reply c.loop-part.cursor cursor _ _ _ c.loop-part.invariant.stage is c.in-Err-NoMemory.ensures.missed (c.loop-part.invariant.bears placed are)

pub returns-clause-bears : goal.returns-clause-bears
returns-clause-bears g c = λ placed are cursor is.
    borne_at _ _ _ _ c.args.row c.args.reply c.loop-part.cursor cursor _ _ _ c.loop-part.invariant.stage is refl (c.loop-part.invariant.bears placed are)
