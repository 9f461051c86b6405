use Rattle.std.proofs.Common.{◌<◌, sym, ap, ◌∙◌, subst, arith}
use Rattle.page_slots.proofs.PageActs.{take_asks, page_out}
use Rattle.page_slots.proofs.pages.Pages.take.Goals as goal

pub fetch_or-word-requires : goal.fetch_or-word-requires
fetch_or-word-requires c =
    let pages = c.self.inside in
    let seat = c.seat.inside.seat in
    let key = pages.table.shared.key in
    let within : c.args.page < pages.count = subst (λ n. c.args.page < n) (sym (ap (λ v. v.count) c.self.view_is)) c.requires.within in (
      ap (λ v. v.pages) c.seat.view_is ∙ c.requires.ours ∙ sym (ap (λ v. v.id) c.self.view_is),
      subst (λ n. c.args.page < n) (sym c.self.invariant.words) within,
      take_asks key.pages key.seats pages.table.shared.table_id.slots seat.id c.args.page seat.me record {
        share = subst (λ n. 0 < n) (sym c.seat.invariant.share) (omega arith);
        out = c.seat.invariant.out;
        inside = subst (λ n. c.args.page < n) (sym (ap (λ z. z.pages) c.self.invariant.key)) within;
      },
    )

pub exchange-requires : goal.exchange-requires
exchange-requires c =
    let pages = c.self.inside in
    let told = c.fetch_or-word.ensures in (
      told.0 ∙ (ap (λ v. v.pages) c.seat.view_is ∙ c.requires.ours ∙ sym (ap (λ v. v.id) c.self.view_is)),
      page_out pages.table.shared.table_id.slots c.args.page c.fetch_or-word.result c.seat.inside.seat.me c.fetch_or-word.new.seat.me told.2 c.if-word-ne0.false,
    )
