use Rattle.std.proofs.Common.{refl, rules, ap, ◌∙◌, ◌++◌, Global, Vec}
use Rattle.vio_num.specs.declared.history.Grant.{Grant}
use Rattle.block_server.specs.declared.logins.Logins.{Logins}
use Rattle.block_server.proofs.Booking.{line_same}
use Rattle.block_server.proofs.Keeping.{moved_to}
use Rattle.block_server.proofs.Ended.{keeps_ended}
use Rattle.block_server.proofs.Onces.{once_broken}
use Rattle.block_server.proofs.Owing.{cut_all}
use Rattle.block_server.proofs.answering.end_login.Goals as goal

pub returns-clause-once : goal.returns-clause-once
returns-clause-once c = λ q disk serving.
    once_broken c.bytes_spell_one.ensures disk _ _ _ serving _ q.sent q.sent c.leave_row.ensures.id c.leave_row.ensures.stage refl (search rules) c.leave_row.ensures.row refl

pub returns-clause-books : goal.returns-clause-books
returns-clause-books c = λ ended up next next' judged more other end is.
    moved_to _ _ (judged ++ more) c.leave_row.ensures.id refl refl c.end-login.ensures.current (c.end-login.ensures.last ∙ ap (λ (logins : Logins). logins.last) c.leave_row.ensures.logins)
    c.end-login.ensures.taking c.leave_row.ensures.stage refl (c.clear.ensures.items) c.leave_row.ensures.keys
    (line_same _ _ _ _ _ _ _ _ _ _ _ c.push_reserved.ensures.items (ap (λ (v : Vec Grant Global). v.items) c.leave_row.ensures.grants) c.leave_row.ensures.id
    (c.end-login.ensures.ended ∙ ap (λ (logins : Logins). logins.current) c.leave_row.ensures.logins)) refl refl refl
    (keeps_ended _ next' c.args.cause c.args.outstanding c.args.granted ended _ _ judged more other end is)

pub returns-clause-cuts : goal.returns-clause-cuts
returns-clause-cuts c = λ q now other has.
    cut_all _ c.args.session _ c.args.cause c.args.outstanding c.args.granted _ _ now other c.leave_row.ensures.states
    (line_same _ _ _ _ _ _ _ _ _ _ _ c.push_reserved.ensures.items (ap (λ (v : Vec Grant Global). v.items) c.leave_row.ensures.grants) c.leave_row.ensures.id
    (c.end-login.ensures.ended ∙ ap (λ (logins : Logins). logins.current) c.leave_row.ensures.logins)) has
