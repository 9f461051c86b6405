use Rattle.std.proofs.Common.{rules, ◌≡◌, ◌∷◌, [], ◌++◌, length, subst, sym}
use Rattle.std.proofs.lemmas.List.Elements.{All-push}
use Rattle.vio_trace.specs.Begun.{BeginsRow, EachFollows}
use Rattle.vio_trace.specs.Reading.{FollowsLast, NoneBegins, WhereBad}
use Rattle.vio_trace.specs.Shared.{IsOfSection, NoneFollows, NoneShares}
use Rattle.vio_trace.proofs.Ahead.{all_more, no_section, only_order, only_refused}
use Rattle.vio_trace.proofs.AheadShared.{none_begun, none_next, section_bad, shared_more, shared_only}
use Rattle.vio_trace.proofs.Begun.{begins_rows}
use Rattle.vio_trace.proofs.Pushed.{not_both, push_text, push_order}
use Rattle.vio_trace.proofs.read_rows.read_section.Goals as goal
use Rattle.vio_trace.proofs.read_rows.read_section.Goals.{then-left-rest-via-then-left-rest, then-left-rest-via-else-left-rest+in_ok-is_out_of_order-in-Err-Bad+then-branch}

pub loop-row-preserved : goal.loop-row-preserved
loop-row-preserved g c =
    let made : c.push.new.self ≡ c.loop-row.rows ++ c.in-Ok.row ∷ [] = search rules in
    let next = subst (λ rows. FollowsLast g.R.SectionRow.before rows c.in-Ok.row) c.as_slice.ensures (c.is_next.ensures.0 (search rules)) in
    record {
      rows = rw made (All-push g.R.Lines.in_range c.loop-row.rows c.in-Ok.row c.loop-row.invariant.rows c.in-Ok.ensures.ok.0);
      text = rw made (push_text g.R.Lines.text c.loop-row.rows c.in-Ok.row c.args.text.now c.loop-row.rest.now c.in-Ok.behind.now c.loop-row.invariant.text c.in-Ok.ensures.ok.1);
      names = rw made (All-push g.R.SectionRow.names_itself c.loop-row.rows c.in-Ok.row c.loop-row.invariant.names c.in-Ok.ensures.names);
      order = rw made (push_order g.R.SectionRow.before c.loop-row.rows c.in-Ok.row c.loop-row.invariant.order next);
      ahead = rw made (all_more g.R.Lines.text g.R.Lines.in_range g.R.SectionRow.names_itself g.R.SectionRow.follows g.R.SectionRow.before g.R.SectionRow.kind c.keeps_apart.ensures.apart
          c.loop-row.rows c.in-Ok.row c.args.text.now c.loop-row.rest.now c.in-Ok.behind.now c.loop-row.invariant.ahead
          c.in-Ok.ensures.ok.0 c.in-Ok.ensures.names c.in-Ok.ensures.behind c.in-Ok.ensures.ok.1);
      shared = rw made (shared_more g.R.Lines.text g.R.Lines.in_range g.R.SectionRow.names_itself g.R.SectionRow.follows g.R.SectionRow.before g.R.SectionRow.kind c.keeps_apart.ensures.apart c.keeps_apart.ensures.lines
          c.loop-row.rows c.in-Ok.row c.loop-row.rest.now c.in-Ok.behind.now c.loop-row.invariant.shared
          c.in-Ok.ensures.ok.0 c.in-Ok.ensures.names c.in-Ok.ensures.behind c.in-Ok.ensures.ok.1);
    }

pub returns-else-is_next-clause-only : goal.returns-else-is_next-clause-only
returns-else-is_next-clause-only g c =
    only_order g.R.Lines.text g.R.Lines.in_range g.R.SectionRow.names_itself g.R.SectionRow.follows g.R.SectionRow.before g.R.SectionRow.kind c.keeps_apart.ensures.apart
    c.loop-row.rows c.in-Ok.row c.args.text.now c.loop-row.rest.now c.in-Ok.behind.now c.loop-row.invariant.ahead
    c.in-Ok.ensures.ok.0 c.in-Ok.ensures.names c.in-Ok.ensures.behind c.in-Ok.ensures.ok.1
    (λ h. not_both c.is_next.result (search rules) (c.is_next.ensures.1 (subst (λ rows. FollowsLast g.R.SectionRow.before rows c.in-Ok.row) (sym c.as_slice.ensures) h)))

pub returns-then-left-rest-clause-only : goal.returns-then-left-rest-clause-only
returns-then-left-rest-clause-only g c =
    let none : NoneBegins g.R.Lines.text g.R.Lines.in_range c.loop-row.rest.now = subst (λ fault. WhereBad fault (NoneBegins g.R.Lines.text g.R.Lines.in_range c.loop-row.rest.now)) c.in-Err-Bad.field-0-is c.in-Err-Bad.ensures.refused in
    only_refused g.R.Lines.text g.R.Lines.in_range g.R.SectionRow.names_itself g.R.SectionRow.before g.R.SectionRow.kind
    c.loop-row.rows c.args.text.now c.loop-row.rest.now c.loop-row.invariant.ahead none

pub returns-in-Err-Bad-clause-refused : goal.returns-in-Err-Bad-clause-refused
returns-in-Err-Bad-clause-refused g c =
    let none : NoneBegins g.R.Lines.text g.R.Lines.in_range c.loop-row.rest.now = search (rules, c.in-Err-Bad.ensures.refused) in
    no_section g.R.Lines.text g.R.Lines.in_range g.R.SectionRow.names_itself g.R.SectionRow.before g.R.SectionRow.kind
    c.loop-row.rows c.args.text.now c.loop-row.rest.now c.loop-row.invariant.ahead none (search rules)

pub returns-else-is_next-clause-shared : goal.returns-else-is_next-clause-shared
returns-else-is_next-clause-shared g c =
    shared_only g.R.Lines.text g.R.Lines.in_range g.R.SectionRow.names_itself g.R.SectionRow.before g.R.SectionRow.kind c.loop-row.rows c.loop-row.rest.now c.loop-row.invariant.shared
    (none_next g.R.Lines.text g.R.Lines.in_range g.R.SectionRow.before g.R.SectionRow.follows c.keeps_apart.ensures.lines c.loop-row.rows c.in-Ok.row c.loop-row.rest.now c.in-Ok.behind.now
    c.in-Ok.ensures.ok.0 c.in-Ok.ensures.ok.1
    (λ h. not_both c.is_next.result (search rules) (c.is_next.ensures.1 (subst (λ rows. FollowsLast g.R.SectionRow.before rows c.in-Ok.row) (sym c.as_slice.ensures) h))))

pub returns-then-left-rest-clause-shared : goal.returns-then-left-rest-clause-shared
returns-then-left-rest-clause-shared g c =
    let bad : NoneShares (NoneBegins g.R.Lines.text g.R.Lines.in_range) c.loop-row.rest.now c.in-Err-Bad.left = search (rules, c.in-Err-Bad.ensures.bad) in
    let none : NoneFollows g.R.Lines.text g.R.Lines.in_range g.R.SectionRow.before c.loop-row.rows c.loop-row.rest.now = elim c.then-left-rest.branch [
      | then-left-rest-via-then-left-rest w ↦
          let whole : c.in-Err-Bad.left ≡ length c.loop-row.rest.now = search rules in
          none_begun g.R.Lines.text g.R.Lines.in_range g.R.SectionRow.before c.loop-row.rows c.loop-row.rest.now
          (subst (λ n. NoneShares (NoneBegins g.R.Lines.text g.R.Lines.in_range) c.loop-row.rest.now n) whole bad)
      | then-left-rest-via-else-left-rest+in_ok-is_out_of_order-in-Err-Bad+then-branch w ↦
          subst (λ rows. NoneFollows g.R.Lines.text g.R.Lines.in_range g.R.SectionRow.before rows c.loop-row.rest.now) w.as_slice-else-left-rest.ensures
          (w.in_ok-is_out_of_order-in-Err-Bad.ensures.out (search rules))
    ] in
    shared_only g.R.Lines.text g.R.Lines.in_range g.R.SectionRow.names_itself g.R.SectionRow.before g.R.SectionRow.kind c.loop-row.rows c.loop-row.rest.now c.loop-row.invariant.shared none

pub returns-in-Err-Bad-clause-bad : goal.returns-in-Err-Bad-clause-bad
returns-in-Err-Bad-clause-bad g c =
    let bad : NoneShares (NoneBegins g.R.Lines.text g.R.Lines.in_range) c.loop-row.rest.now c.in-Err-Bad.left = search (rules, c.in-Err-Bad.ensures.bad) in
    let of : IsOfSection g.R.SectionRow.kind c.loop-row.rest.now = search rules in
    section_bad g.R.Lines.text g.R.Lines.in_range g.R.SectionRow.names_itself g.R.SectionRow.before g.R.SectionRow.kind
    c.loop-row.rows c.args.text.now c.loop-row.rest.now c.in-Err-Bad.left c.loop-row.invariant.shared c.loop-row.invariant.text bad of

pub returns-in-Err-Bad-clause-begun : goal.returns-in-Err-Bad-clause-begun
returns-in-Err-Bad-clause-begun g c =
    let begun : BeginsRow g.R.Lines.text g.R.Lines.in_range g.R.SectionRow.names_itself c.loop-row.rest.now c.in-Err-Bad.left = search (rules, c.in-Err-Bad.ensures.begun) in
    let behind : ¬ (c.in-Err-Bad.left ≡ length c.loop-row.rest.now) = search rules in
    let follows : EachFollows g.R.Lines.text g.R.Lines.in_range g.R.SectionRow.before c.loop-row.rows c.loop-row.rest.now = search rules in
    begins_rows g.R.Lines.text g.R.Lines.in_range g.R.SectionRow.names_itself g.R.SectionRow.before
    c.loop-row.rows c.args.text.now c.loop-row.rest.now c.in-Err-Bad.left c.loop-row.invariant.rows c.loop-row.invariant.names c.loop-row.invariant.order
    c.loop-row.invariant.text follows (begun behind)
