-- Each session has its own rows, which stand before those of later ones.
use Rattle.std.proofs.Common.{◌==◌, ◌++◌, ◌+◌, ◌∷◌, [], ◌∙◌, sym, ap, subst, append-nil, filter, map}
use Rattle.vcpu_run.specs.Sessions.{sessions_from, shown_drop}
use Rattle.vcpu_run.proofs.Cuts.{behind, row_is, sessions_step}
use Rattle.vcpu_run.proofs.Following.{Follows, all_follow, this_session, goes_on}
use Rattle.vcpu_run.proofs.sessions.put_sessions.Goals as goal

pub loop-before-init : goal.loop-before-init
loop-before-init c = (
  sym (append-nil _),
  (
    subst (Follows (λ row. row.session) 0 c.args.pipe.now.sent) (sym c.sent-sent.ensures.rows)
        (all_follow (λ row. row.session) c.args.pipe.now.sent c.session-before-end.ensures.laws.sent.in_order),
    (
      subst (Follows (λ row. row.session) 0 c.args.pipe.now.taken) (sym c.taken-taken.ensures.rows)
          (all_follow (λ row. row.session) c.args.pipe.now.taken c.session-before-end.ensures.laws.taken.in_order),
      subst (Follows (λ row. row.session) 0 c.args.pipe.now.drops) (sym c.drops-drops.ensures.rows)
          (all_follow (λ row. row.session) c.args.pipe.now.drops
          (λ i j d less inside. (c.session-before-end.ensures.laws.dropped.in_order i j d less inside).0)),
    ),
  ),
)

pub loop-before-preserved : goal.loop-before-preserved
loop-before-preserved c =
    let q = c.loop-before.before in
    let pipe = c.args.pipe.now in
    let sent = c.loop-before.invariant.1.0 in
    let taken = c.loop-before.invariant.1.1.0 in
    let drops = c.loop-before.invariant.1.1.1 in
    let sent_is = c.in_ok-entries_in.ensures
    ∙ ap (map (λ row. row.entry)) (ap (filter (λ row. row.session == q + 1)) c.split_at.ensures.front ∙ this_session (λ row. row.session) q pipe.sent c.loop-before.sent.now c.rows_until.result sent c.rows_until.ensures.later) in
    let taken_is = c.in_ok-entries_in-2.ensures
    ∙ ap (map (λ row. row.entry)) (ap (filter (λ row. row.session == q + 1)) c.split_at-in-loop-before.ensures.front ∙ this_session (λ row. row.session) q pipe.taken c.loop-before.taken.now c.rows_until-in-loop-before.result taken c.rows_until-in-loop-before.ensures.later) in
    let drops_are = c.in_ok-drops_in.ensures
    ∙ ap (map shown_drop) (ap (filter (λ row. row.session == q + 1)) c.split_at-in-loop-before-2.ensures.front ∙ this_session (λ row. row.session) q pipe.drops c.loop-before.drops.now c.drops_until.result drops c.drops_until.ensures.later) in (
      behind _ _ _ _ _ _ c.in_ok-push.ensures.items c.loop-before.invariant.0
          (sessions_step c.args.unit pipe q ∙ ap (λ row. sessions_from c.args.unit pipe 1 q ++ row ∷ [])
          (sym (row_is c.args.unit pipe (q + 1) _ _ _ _ c.slots.ensures sent_is taken_is drops_are))),
      (
        subst (Follows (λ row. row.session) (q + 1) pipe.sent) (sym c.split_at.ensures.back)
            (goes_on (λ row. row.session) q pipe.sent c.loop-before.sent.now c.rows_until.result sent c.rows_until.ensures.before),
        (
          subst (Follows (λ row. row.session) (q + 1) pipe.taken) (sym c.split_at-in-loop-before.ensures.back)
              (goes_on (λ row. row.session) q pipe.taken c.loop-before.taken.now c.rows_until-in-loop-before.result taken c.rows_until-in-loop-before.ensures.before),
          subst (Follows (λ row. row.session) (q + 1) pipe.drops) (sym c.split_at-in-loop-before-2.ensures.back)
              (goes_on (λ row. row.session) q pipe.drops c.loop-before.drops.now c.drops_until.result drops c.drops_until.ensures.before),
        ),
      ),
    )
