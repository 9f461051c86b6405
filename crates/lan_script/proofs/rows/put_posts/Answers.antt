use Rattle.std.proofs.Common.{◌≡◌, ◌++◌, ◌∙◌, List, OnOk, length, ap, sym, subst}
use Rattle.vio_trace.specs.declared.lan_rows.PostRow.{PostRow}
use Rattle.lan_buffers.specs.Port.{StandBySession}
use Rattle.lan_script.specs.Rows.{numbered_on, post_row_of}
use Rattle.lan_script.proofs.BySession.{by_number}
use Rattle.lan_script.proofs.rows.put_posts.Goals as goal

pub returns : goal.returns
returns c =
    subst (λ (l : List PostRow). OnOk c.put_each_post.result (c.put_each_post.new.rows.items ≡ c.args.rows.now.items ++ l))
    (ap (numbered_on (λ row. row.session) (post_row_of c.args.unit) 0 0) c.posts.ensures.rows
    ∙ sym (by_number (λ row. row.session) (post_row_of c.args.unit) (length c.args.port.now.drop_counts) c.args.port.now.posts
    (subst (StandBySession (λ row. row.session) (length c.args.port.now.drop_counts)) c.posts.ensures.rows c.posts.ensures.order)))
    c.put_each_post.ensures
