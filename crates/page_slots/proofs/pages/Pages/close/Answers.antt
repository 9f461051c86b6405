use Rattle.std.proofs.Common.{◌≡◌, ◌<◌, List, get_or, sym, ap, ◌∙◌, subst}
use Rattle.std.specs.Prelude.{Some}
use Rattle.std.proofs.Math.ListN.{get_or-map}
use Rattle.page_slots.specs.Page.{PageValue}
use Rattle.page_slots.specs.PageRule.{blank_page}
use Rattle.page_slots.specs.Turns.{IsOfSeats}
use Rattle.page_slots.proofs.PageCloses.{one_page_there, of_seats}
use Rattle.page_slots.proofs.PageEnds.{EndsAs, ends}
use Rattle.page_slots.proofs.pages.Pages.close.Goals as goal

pub pages_of-requires-clause-there : goal.pages_of-requires-clause-there
pages_of-requires-clause-there c k less =
    let pages = c.self.inside in
    let key = pages.table.shared.key in
    let st = c.join_all-seat.ensures in
    let last = c.close_with.ensures.values.2 in
    let share = st.share ∙ (c.requires.count ∙ (sym (ap (λ v. v.seats) c.self.view_is) ∙ sym (ap (λ z. z.seats) c.self.invariant.key))) in
    let end = ends key.pages key.seats _ c.join_all-seat.result.me.0 last.0 last.1.0 last.1.1 share k (subst (λ n. k < n) (sym (ap (λ z. z.pages) c.self.invariant.key)) less)
    (st.none_held k (subst (λ n. k < n) (ap (λ v. v.count) c.self.view_is) less)) in
    (end.0, last.4 k (Some end.0) end.1)

pub returns-clause-ok : goal.returns-clause-ok
returns-clause-ok c =
    let pages = c.self.inside in
    let key = pages.table.shared.key in
    let st = c.join_all-seat.ensures in
    let last = c.close_with.ensures.values.2 in
    let list : List PageValue = c.pages_of.result.items in
    let share = st.share ∙ (c.requires.count ∙ (sym (ap (λ v. v.seats) c.self.view_is) ∙ sym (ap (λ z. z.seats) c.self.invariant.key))) in
    record {
      count = c.pages_of.ensures.all ∙ ap (λ v. v.count) c.self.view_is;
      each = λ k less.
          let less' : k < pages.count = subst (λ n. k < n) (sym (ap (λ v. v.count) c.self.view_is)) less in
          let end = ends key.pages key.seats _ c.join_all-seat.result.me.0 last.0 last.1.0 last.1.1 share k (subst (λ n. k < n) (sym (ap (λ z. z.pages) c.self.invariant.key)) less') (st.none_held k less) in
          let there = c.pages_of.ensures.pages k less' in
          let page : PageValue = get_or list k blank_page in
          let same : end.0 ≡ page = one_page_there _ k end.0 page (last.4 k (Some end.0) end.1) there in
          subst (IsOfSeats c.args.seats.items k) (sym (get_or-map (λ (p : PageValue). p.strokes) list k blank_page))
          (of_seats _ c.args.seats.items c.join_all-seat.result k page st (subst (EndsAs c.join_all-seat.result.me.0 k) same end.2));
    }
