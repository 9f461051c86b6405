use Rattle.std.proofs.Common.{◌<◌, sym, ap, ◌∙◌, subst, arith}
use Rattle.vio_num.specs.Words.{Begins}
use Rattle.page_slots.specs.Seats.{saw, holds}
use Rattle.page_slots.proofs.PageActs.{reach_asks, return_asks}
use Rattle.page_slots.proofs.pages.Pages.give.Goals as goal

pub load-requires : goal.load-requires
load-requires c =
    let pages = c.self.inside in
    let seat = c.seat.inside.seat in
    let key = pages.table.shared.key in
    let within : c.args.page < pages.count = subst (λ n. c.args.page < n) (sym (ap (λ v. v.count) c.self.view_is)) c.requires.within in (
      ap (λ v. v.pages) c.seat.view_is ∙ c.requires.ours ∙ sym (ap (λ v. v.id) c.self.view_is),
      subst (λ n. c.args.page < n) (sym c.self.invariant.words) within,
      reach_asks key.pages key.seats pages.table.shared.table_id.slots seat.id c.args.page seat.me
          record {
            share = subst (λ n. 0 < n) (sym c.seat.invariant.share) (omega arith);
            out = c.seat.invariant.out;
            inside = subst (λ n. c.args.page < n) (sym (ap (λ z. z.pages) c.self.invariant.key)) within;
          }
          (ap (λ v. holds v c.args.page) c.seat.view_is ∙ c.requires.held),
    )

pub fetch_and-requires : goal.fetch_and-requires
fetch_and-requires c =
    let pages = c.self.inside in
    let seat = c.seat.inside.seat in
    let key = pages.table.shared.key in
    let reached = c.load.ensures in
    let put = c.exchange.ensures in
    let within : c.args.page < pages.count = subst (λ n. c.args.page < n) (sym (ap (λ v. v.count) c.self.view_is)) c.requires.within in (
      put.0 ∙ (reached.0 ∙ (ap (λ v. v.pages) c.seat.view_is ∙ c.requires.ours ∙ sym (ap (λ v. v.id) c.self.view_is))),
      subst (λ n. c.args.page < n) (sym c.self.invariant.words) within,
      return_asks key.pages key.seats pages.table.shared.table_id.slots c.exchange.new.seat.id c.args.page seat.me c.load.new.seat.me c.exchange.new.seat.me c.args.value
          record {
            share = subst (λ n. 0 < n) (sym c.seat.invariant.share) (omega arith);
            out = c.seat.invariant.out;
            inside = subst (λ n. c.args.page < n) (sym (ap (λ z. z.pages) c.self.invariant.key)) within;
          }
          (ap (λ v. holds v c.args.page) c.seat.view_is ∙ c.requires.held)
          (subst (λ v. Begins (saw v c.args.page) c.args.value.strokes) (sym c.seat.view_is) c.requires.continues)
          reached.2
          put.3,
    )
