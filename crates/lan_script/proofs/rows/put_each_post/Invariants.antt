use Rattle.std.proofs.Common.{◌≡◌, ◌++◌, ◌≤◌, drop}
use Rattle.lan_script.specs.Rows.{numbered_on, post_row_of}
use Rattle.lan_script.proofs.rows.put_each_post.Given as goal

abbrev pub invariant-loop-post : goal.invariant-loop-post
invariant-loop-post l = record {
  bound : l.number ≤ l.post-index;
  rows : l.rows.items ++ numbered_on (λ row. row.session) (post_row_of l.unit) l.session l.number (drop l.post-index l.posts)
      ≡ l.initial.rows.items ++ numbered_on (λ row. row.session) (post_row_of l.unit) 0 0 l.posts;
}
