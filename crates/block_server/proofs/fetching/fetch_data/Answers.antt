use Rattle.std.proofs.Common.{arith, subst, sym, ◌+◌, ℕ, List, Option}
use Rattle.srp_desc.specs.Pieces.{sum_of}
use Rattle.srp_iu.specs.declared.buffer.Desc.{Desc}
use Rattle.block_server.specs.Cargo.{FetchesPart, IsAccounted}
use Rattle.block_server.specs.Parts.{IsPartAt, IsPlacedAt, LiesAt}
use Rattle.block_server.proofs.Cargoes.{sees, shown_same}
use Rattle.block_server.proofs.Denying.{tells_first, tells_next}
use Rattle.block_server.proofs.Sendings.{all_fetched, part_fetched}
use Rattle.std.proofs.Common.{◌∙◌, ap, refl}
use Rattle.std.specs.Result.{IsErrOf}
use Rattle.tce_window.specs.declared.answers.Right.TheVariants.{Read}
use Rattle.block_server.specs.declared.data_pieces.DataPieces.{DataPieces}
use Rattle.block_server.specs.declared.site.Halt.TheVariants.{Busy, Refused}
use Rattle.block_server.proofs.Denying.{part_refused}
use Rattle.block_server.proofs.Advancing.{advances_on}
use Rattle.block_server.proofs.Readying.{uses_later}
use Rattle.block_server.proofs.fetching.fetch_data.Goals as goal

pub returns-in-Err-Refused-clause-advances : goal.returns-in-Err-Refused-clause-advances
returns-in-Err-Refused-clause-advances g c = advances_on _ _ _ c.loop-part.invariant.advances c.fetch_data.ensures.advances

pub returns-in-Err-Busy-clause-advances : goal.returns-in-Err-Busy-clause-advances
returns-in-Err-Busy-clause-advances g c = advances_on _ _ _ c.loop-part.invariant.advances c.fetch_data.ensures.advances

pub returns-in-Err-NoMemory-clause-advances : goal.returns-in-Err-NoMemory-clause-advances
returns-in-Err-NoMemory-clause-advances g c = advances_on _ _ _ c.loop-part.invariant.advances c.fetch_data.ensures.advances

pub loop-part-preserved : goal.loop-part-preserved
loop-part-preserved g c = record {
  advances = advances_on _ _ _ c.loop-part.invariant.advances c.fetch_data.ensures.advances;
  stage = refl;
  out = c.loop-part.invariant.out;
  inn = c.loop-part.invariant.inn;
  queue = c.fetch_data.ensures.queue ∙ c.loop-part.invariant.queue;
  known = c.fetch_data.ensures.known ∙ c.loop-part.invariant.known;
  passes = c.fetch_data.ensures.passes ∙ c.loop-part.invariant.passes;
  placed = λ placed.
      subst (λ (list : List Desc). IsPlacedAt list c.loop-part.cursor → IsPlacedAt list c.in-Some.part.end)
      (c.as_slice.ensures ∙ ap (λ (pieces : DataPieces). pieces.list.items) c.loop-part.invariant.out) c.in-Some.ensures.placed (c.loop-part.invariant.placed placed);
  cargo = λ id told asked all rows first hand.
      part_fetched told asked id c.loop-part.service _ first (g.S.Site.state c.loop-part.site) (g.S.Site.state c.fetch_data.new.self) rows c.in-Some.part.len c.in-Some-address.address
      c.loop-part.cursor c.in-Some.part.end c.loop-part.invariant.stage refl refl refl c.fetch_data.ensures.advances.own_place
      (subst (λ (n : ℕ). FetchesPart (g.S.Site.state c.loop-part.site) (g.S.Site.state c.fetch_data.new.self) c.in-Some-address.address n c.in-Some.part.len) c.in-Some.ensures.at c.in-Ok.ensures.brought)
      (tells_next told id (g.S.Site.state c.args.site.now) (g.S.Site.state c.loop-part.site) (g.S.Site.state c.fetch_data.new.self) c.loop-part.invariant.advances all)
      c.in-Some.ensures.len.1 (c.in-Some.ensures.end ∙ ap (λ (n : ℕ). n + c.in-Some.part.len) c.in-Some.ensures.at)
      (λ placed. subst (λ (z : List Desc × ℕ × Option ℕ). LiesAt z.0 z.1 z.2 c.in-Some.part.len) (λ i. (c.as_slice.ensures i, c.in-Some.ensures.at i, c.in-Some-address.is i))
      (c.in-Some.ensures.there (subst (λ (list : List Desc). IsPlacedAt list c.loop-part.cursor) (sym c.as_slice.ensures) placed)))
      (subst (λ (list : List Desc). IsPlacedAt list c.loop-part.cursor → IsPlacedAt list c.in-Some.part.end) c.as_slice.ensures c.in-Some.ensures.placed)
      (λ placed. subst (λ (z : List Desc × ℕ × ℕ × Option ℕ). IsPartAt z.0 z.1 z.2 z.3 c.in-Some.part.len)
      (λ i. (c.as_slice.ensures i, (c.total.ensures.total ∙ sym c.loop-part.service.out.summed) i, c.in-Some.ensures.at i, c.in-Some-address.is i))
      (c.in-Some.ensures.part (subst (λ (list : List Desc). IsPlacedAt list c.loop-part.cursor) (sym c.as_slice.ensures) placed)))
      (omega (arith, c.in-Some.ensures.within, c.in-Some.ensures.at, c.total.ensures.total, c.loop-part.service.out.summed))
      (c.loop-part.invariant.cargo id told asked (tells_first told id (g.S.Site.state c.args.site.now) (g.S.Site.state c.loop-part.site) (g.S.Site.state c.fetch_data.new.self) c.fetch_data.ensures.advances all) rows first hand);
}

pub returns-in-Err-Refused-clause-refused : goal.returns-in-Err-Refused-clause-refused
returns-in-Err-Refused-clause-refused g c =
    let refused : IsErrOf c.fetch_data.result Refused = cc (c.in-Err-Refused.is, c.in-Err-Refused.field-0-is) in
    part_refused (g.S.Site.state c.args.site.now) (g.S.Site.state c.loop-part.site) (g.S.Site.state c.fetch_data.new.self) Read _ _ _ _ _ c.loop-part.invariant.advances c.in-Some-address.is
    (c.as_slice.ensures ∙ ap (λ (pieces : DataPieces). pieces.list.items) c.loop-part.invariant.out)
    c.in-Some.ensures.piece (c.fetch_data.ensures.refused refused)

pub returns-in-Err-Busy-clause-busy : goal.returns-in-Err-Busy-clause-busy
returns-in-Err-Busy-clause-busy g c = λ is.
    let busy : IsErrOf c.fetch_data.result Busy = cc (c.in-Err-Busy.is, c.in-Err-Busy.field-0-is) in
    uses_later (g.S.Site.state c.args.site.now) (g.S.Site.state c.loop-part.site) (g.S.Site.state c.fetch_data.new.self) c.loop-part.invariant.advances (c.fetch_data.ensures.busy busy)

pub returns-in-Err-Refused-clause-cargo : goal.returns-in-Err-Refused-clause-cargo
returns-in-Err-Refused-clause-cargo g c = λ id told asked all rows first hand.
    subst (IsAccounted told asked) (sym (shown_same _ _ _ _ _ _ (sees _ _ _ c.in-Err-Refused.ensures.kept) refl))
    (c.loop-part.invariant.cargo id told asked (tells_first told id (g.S.Site.state c.args.site.now) (g.S.Site.state c.loop-part.site) (g.S.Site.state c.fetch_data.new.self) c.fetch_data.ensures.advances all) rows first hand)

pub returns-in-Err-Busy-clause-cargo : goal.returns-in-Err-Busy-clause-cargo
returns-in-Err-Busy-clause-cargo g c = λ id told asked all rows first hand.
    subst (IsAccounted told asked) (sym (shown_same _ _ _ _ _ _ (sees _ _ _ c.in-Err-Busy.ensures.kept) refl))
    (c.loop-part.invariant.cargo id told asked (tells_first told id (g.S.Site.state c.args.site.now) (g.S.Site.state c.loop-part.site) (g.S.Site.state c.fetch_data.new.self) c.fetch_data.ensures.advances all) rows first hand)

pub returns-in-Err-NoMemory-clause-cargo : goal.returns-in-Err-NoMemory-clause-cargo
returns-in-Err-NoMemory-clause-cargo g c = λ id told asked all rows first hand.
    subst (IsAccounted told asked) (sym (shown_same _ _ _ _ _ _ (sees _ _ _ c.in-Err-NoMemory.ensures.kept) refl))
    (c.loop-part.invariant.cargo id told asked (tells_first told id (g.S.Site.state c.args.site.now) (g.S.Site.state c.loop-part.site) (g.S.Site.state c.fetch_data.new.self) c.fetch_data.ensures.advances all) rows first hand)

pub returns-clause-all : goal.returns-clause-all
returns-clause-all g c = λ placed.
    let at : IsPlacedAt c.as_slice.result.now c.loop-part.cursor =
    subst (λ (list : List Desc). IsPlacedAt list c.loop-part.cursor) (sym (c.as_slice.ensures ∙ ap (λ (pieces : DataPieces). pieces.list.items) c.loop-part.invariant.out))
    (c.loop-part.invariant.placed placed) in
    all_fetched c.loop-part.service c.loop-part.cursor c.loop-part.invariant.stage
    (omega (arith, c.in_default.ensures.all at refl, ap sum_of c.as_slice.ensures, c.total.ensures.total, c.loop-part.service.out.summed))
