use Rattle.std.proofs.Common.{◌≡◌, ◌∙◌, ◌∷◌, [], inl, inr, false, true, refl, ap}
use Rattle.vio_num.specs.Entry.{partner_failed}
use Rattle.crq_session.specs.EndState.{EndCounts}
use Rattle.vcpu_run.specs.declared.pair.Pair.{Pair}
use Rattle.vcpu_run.proofs.Announcing.{puts_frees, puts_ready, puts_reserves}
use Rattle.vcpu_run.proofs.Driving.{drives_link, drives_on, some_none}
use Rattle.vcpu_run.proofs.GivesAll.{gives_kept, gives_next, link_taken}
use Rattle.std.proofs.Common.{sym, subst}
use Rattle.crq_session.specs.EndState.{EndPlace}
use Rattle.crq_session.specs.PlainState.{end_of, side_of, state_of}
use Rattle.crq_session.specs.declared.link.PlainLink.{PlainLink}
use Rattle.vcpu_run.proofs.CalmTurns.{ShutsEnd, shuts_failed, shuts_link, shuts_on, shuts_ready, shuts_same}
use Rattle.vcpu_run.proofs.FailedShut.{off_link}
use Rattle.vcpu_run.proofs.PlainFailing.{pair_freed, pair_shut}
use Rattle.vcpu_run.proofs.LoginsTold.{true_false}
use Rattle.vcpu_run.specs.ActsAt.{FailsOnce}
use Rattle.vcpu_run.proofs.ActsSeats.{at_both, fail_acts}
use Rattle.vcpu_run.proofs.PlainOpens.{reserves_on}
use Rattle.vcpu_run.proofs.seat.fail.Goals as goal

pub returns-in_err-reserve-clause-drives : goal.returns-in_err-reserve-clause-drives
returns-in_err-reserve-clause-drives c =
    let room = c.in_err-reserve.ensures.rest in
    drives_link c.side-end.result.first c.reserve.new.self.first _ _ c.args.pair.now c.side-end.result.link.now c.reserve.new.self.link.now c.side-end.ensures.link c.side-end.ensures.first
    room.place (ap (λ (counts : EndCounts). counts.partner_session) room.counts) (puts_reserves _ _ room) (some_none _ c.args.pair.now.driver _ c.requires)

pub returns-in-Success-clause-drives : goal.returns-in-Success-clause-drives
returns-in-Success-clause-drives c =
    let room = c.in_ok-reserve.ensures.rest in
    let rest = c.fail.ensures.rest in
    drives_on c.args.pair.now _ c.freed.new.pair
    (drives_link c.side-end.result.first c.fail.new.self.first _ _ c.args.pair.now c.side-end.result.link.now c.fail.new.self.link.now c.side-end.ensures.link c.side-end.ensures.first
    (rest.place ∙ room.place) (rest.counts.same_session refl ∙ ap (λ (counts : EndCounts). counts.partner_session) room.counts)
    (puts_ready _ _ _ room (rest.counts.same_session refl) (puts_frees false _ _ partner_failed c.fail.result refl refl c.fail.ensures.success c.fail.ensures.busy c.fail.ensures.refused))
    (some_none _ c.args.pair.now.driver _ c.requires))
    c.freed.ensures.drives

pub returns-in-Parameter-clause-drives : goal.returns-in-Parameter-clause-drives
returns-in-Parameter-clause-drives c =
    let room = c.in_ok-reserve.ensures.rest in
    let rest = c.fail.ensures.rest in
    drives_link c.side-end.result.first c.fail.new.self.first _ _ c.args.pair.now c.side-end.result.link.now c.fail.new.self.link.now c.side-end.ensures.link c.side-end.ensures.first
    (rest.place ∙ room.place) (rest.counts.same_session refl ∙ ap (λ (counts : EndCounts). counts.partner_session) room.counts)
    (puts_ready _ _ _ room (rest.counts.same_session refl) (puts_frees false _ _ partner_failed c.fail.result refl refl c.fail.ensures.success c.fail.ensures.busy c.fail.ensures.refused))
    (some_none _ c.args.pair.now.driver _ c.requires)

pub returns-in-Busy-clause-drives : goal.returns-in-Busy-clause-drives
returns-in-Busy-clause-drives c =
    let room = c.in_ok-reserve.ensures.rest in
    let rest = c.fail.ensures.rest in
    drives_link c.side-end.result.first c.fail.new.self.first _ _ c.args.pair.now c.side-end.result.link.now c.fail.new.self.link.now c.side-end.ensures.link c.side-end.ensures.first
    (rest.place ∙ room.place) (rest.counts.same_session refl ∙ ap (λ (counts : EndCounts). counts.partner_session) room.counts)
    (puts_ready _ _ _ room (rest.counts.same_session refl) (puts_frees false _ _ partner_failed c.fail.result refl refl c.fail.ensures.success c.fail.ensures.busy c.fail.ensures.refused))
    (some_none _ c.args.pair.now.driver _ c.requires)

pub returns-in-Success-clause-gives : goal.returns-in-Success-clause-gives
returns-in-Success-clause-gives c =
    let old = c.args.pair.now in
    let room = c.in_ok-reserve.ensures.rest in
    let rest = c.fail.ensures.rest in
    let mid : Pair = record { server = old.server; link = c.fail.new.self.link.now; own = old.own; window = old.window; driver = old.driver } in
    gives_next old mid c.freed.new.pair
    (gives_kept old.driver old.link mid.link
    (link_taken c.side-end.result.first c.fail.new.self.first (c.side-end.result.link.ghost_name ∷ []) (c.fail.new.self.link.ghost_name ∷ []) c.side-end.result.link.now old.link mid.link
    c.side-end.ensures.link c.side-end.ensures.first (rest.place ∙ room.place) (rest.taken ∙ room.taken)))
    c.freed.ensures.gives

pub returns-in-Parameter-clause-gives : goal.returns-in-Parameter-clause-gives
returns-in-Parameter-clause-gives c =
    let old = c.args.pair.now in
    let room = c.in_ok-reserve.ensures.rest in
    let rest = c.fail.ensures.rest in
    gives_kept old.driver old.link c.fail.new.self.link.now
    (link_taken c.side-end.result.first c.fail.new.self.first (c.side-end.result.link.ghost_name ∷ []) (c.fail.new.self.link.ghost_name ∷ []) c.side-end.result.link.now old.link c.fail.new.self.link.now
    c.side-end.ensures.link c.side-end.ensures.first (rest.place ∙ room.place) (rest.taken ∙ room.taken))

pub returns-in-Busy-clause-gives : goal.returns-in-Busy-clause-gives
returns-in-Busy-clause-gives c =
    let old = c.args.pair.now in
    let room = c.in_ok-reserve.ensures.rest in
    let rest = c.fail.ensures.rest in
    gives_kept old.driver old.link c.fail.new.self.link.now
    (link_taken c.side-end.result.first c.fail.new.self.first (c.side-end.result.link.ghost_name ∷ []) (c.fail.new.self.link.ghost_name ∷ []) c.side-end.result.link.now old.link c.fail.new.self.link.now
    c.side-end.ensures.link c.side-end.ensures.first (rest.place ∙ room.place) (rest.taken ∙ room.taken))

pub returns-in_err-reserve-clause-shuts : goal.returns-in_err-reserve-clause-shuts
returns-in_err-reserve-clause-shuts c =
    let room = c.in_err-reserve.ensures.rest in
    shuts_link c.side-end.result.first c.reserve.new.self.first (c.side-end.result.link.ghost_name ∷ []) (c.reserve.new.self.link.ghost_name ∷ []) c.side-end.result.link.now
    c.args.pair.now.link c.reserve.new.self.link.now c.side-end.ensures.link c.side-end.ensures.first (ap (λ (p : EndPlace). p.first) room.place ∙ c.side-end.ensures.first)
    (shuts_ready (state_of c.side-end.result) (state_of c.reserve.new.self) room)

pub returns-in-Success-clause-shuts : goal.returns-in-Success-clause-shuts
returns-in-Success-clause-shuts c =
    let room = c.in_ok-reserve.ensures.rest in
    subst (λ (l : PlainLink). ShutsEnd (end_of [] c.args.pair.now.link false) (end_of [] l false)) (sym c.freed.ensures.link)
    (shuts_link c.side-end.result.first c.fail.new.self.first (c.side-end.result.link.ghost_name ∷ []) (c.fail.new.self.link.ghost_name ∷ []) c.side-end.result.link.now
    c.args.pair.now.link c.fail.new.self.link.now c.side-end.ensures.link c.side-end.ensures.first (ap (λ (p : EndPlace). p.first) (c.fail.ensures.rest.place ∙ room.place) ∙ c.side-end.ensures.first)
    (shuts_on (state_of c.side-end.result) (state_of c.reserve.new.self) (state_of c.fail.new.self) (shuts_ready (state_of c.side-end.result) (state_of c.reserve.new.self) room) (shuts_failed (state_of c.reserve.new.self) (state_of c.fail.new.self) c.in-Success.ensures.success)))

pub returns-in-Parameter-clause-shuts : goal.returns-in-Parameter-clause-shuts
returns-in-Parameter-clause-shuts c =
    let room = c.in_ok-reserve.ensures.rest in
    shuts_link c.side-end.result.first c.fail.new.self.first (c.side-end.result.link.ghost_name ∷ []) (c.fail.new.self.link.ghost_name ∷ []) c.side-end.result.link.now
    c.args.pair.now.link c.fail.new.self.link.now c.side-end.ensures.link c.side-end.ensures.first (ap (λ (p : EndPlace). p.first) (c.fail.ensures.rest.place ∙ room.place) ∙ c.side-end.ensures.first)
    (shuts_on (state_of c.side-end.result) (state_of c.reserve.new.self) (state_of c.fail.new.self) (shuts_ready (state_of c.side-end.result) (state_of c.reserve.new.self) room) (shuts_ready (state_of c.reserve.new.self) (state_of c.fail.new.self) c.in-Parameter.ensures.refused))

pub returns-in-Busy-clause-shuts : goal.returns-in-Busy-clause-shuts
returns-in-Busy-clause-shuts c =
    let room = c.in_ok-reserve.ensures.rest in
    shuts_link c.side-end.result.first c.fail.new.self.first (c.side-end.result.link.ghost_name ∷ []) (c.fail.new.self.link.ghost_name ∷ []) c.side-end.result.link.now
    c.args.pair.now.link c.fail.new.self.link.now c.side-end.ensures.link c.side-end.ensures.first (ap (λ (p : EndPlace). p.first) (c.fail.ensures.rest.place ∙ room.place) ∙ c.side-end.ensures.first)
    (shuts_on (state_of c.side-end.result) (state_of c.reserve.new.self) (state_of c.fail.new.self) (shuts_ready (state_of c.side-end.result) (state_of c.reserve.new.self) room)
    (shuts_same (state_of c.reserve.new.self) (state_of c.fail.new.self) c.in-Busy.ensures.busy.none.sent c.in-Busy.ensures.busy.kept (c.in-Busy.ensures.busy.still ∙ sym c.in-Busy.ensures.busy.registered)))

pub returns-in-Success-clause-down : goal.returns-in-Success-clause-down
returns-in-Success-clause-down c = λ is.
    let room = c.in_ok-reserve.ensures.rest in
    subst (λ (l : PlainLink). (side_of l false).registered ≡ false) (sym c.freed.ensures.link)
    (off_link c.fail.new.self.first (c.fail.new.self.link.ghost_name ∷ []) c.fail.new.self.link.now (ap (λ (p : EndPlace). p.first) (c.fail.ensures.rest.place ∙ room.place) ∙ c.side-end.ensures.first)
    c.in-Success.ensures.success.freed)

pub returns-in-Parameter-clause-down : goal.returns-in-Parameter-clause-down
returns-in-Parameter-clause-down c = λ is.
    let room = c.in_ok-reserve.ensures.rest in
    off_link c.fail.new.self.first (c.fail.new.self.link.ghost_name ∷ []) c.fail.new.self.link.now (ap (λ (p : EndPlace). p.first) (c.fail.ensures.rest.place ∙ room.place) ∙ c.side-end.ensures.first)
    (c.in-Parameter.ensures.refused.registered ∙ c.fail.ensures.parameter.0 c.in-Parameter.is)

pub returns-in-Busy-clause-down : goal.returns-in-Busy-clause-down
returns-in-Busy-clause-down c = λ is. absurd (true_false true refl (sym is))

pub returns-in-Success-clause-plainly : goal.returns-in-Success-clause-plainly
returns-in-Success-clause-plainly c =
    let room = c.in_ok-reserve.ensures.rest in
    let rest = c.fail.ensures.rest in
    pair_freed c.side-end.result.first c.fail.new.self.first (c.side-end.result.link.ghost_name ∷ []) (c.fail.new.self.link.ghost_name ∷ []) c.side-end.result.link.now
    c.fail.new.self.link.now (state_of c.reserve.new.self) c.args.pair.now c.freed.new.pair c.side-end.ensures.link c.side-end.ensures.first
    (ap (λ (p : EndPlace). p.first) (rest.place ∙ room.place) ∙ c.side-end.ensures.first)
    (drives_on c.args.pair.now _ c.freed.new.pair
    (drives_link c.side-end.result.first c.fail.new.self.first _ _ c.args.pair.now c.side-end.result.link.now c.fail.new.self.link.now c.side-end.ensures.link c.side-end.ensures.first
    (rest.place ∙ room.place) (rest.counts.same_session refl ∙ ap (λ (counts : EndCounts). counts.partner_session) room.counts)
    (puts_ready _ _ _ room (rest.counts.same_session refl) (puts_frees false _ _ partner_failed c.fail.result refl refl c.fail.ensures.success c.fail.ensures.busy c.fail.ensures.refused))
    (some_none _ c.args.pair.now.driver _ c.requires))
    c.freed.ensures.drives)
    c.freed.ensures.link c.freed.ensures.window c.freed.ensures.told c.freed.ensures.noted room c.in-Success.ensures.success rest

pub returns-in-Parameter-clause-plainly : goal.returns-in-Parameter-clause-plainly
returns-in-Parameter-clause-plainly c =
    let old = c.args.pair.now in
    let room = c.in_ok-reserve.ensures.rest in
    let rest = c.fail.ensures.rest in
    let mid : Pair = record { server = old.server; link = c.fail.new.self.link.now; own = old.own; window = old.window; driver = old.driver } in
    pair_shut c.side-end.result.first c.fail.new.self.first (c.side-end.result.link.ghost_name ∷ []) (c.fail.new.self.link.ghost_name ∷ []) c.side-end.result.link.now
    (state_of c.reserve.new.self) old mid c.side-end.ensures.link c.side-end.ensures.first
    (ap (λ (p : EndPlace). p.first) (rest.place ∙ room.place) ∙ c.side-end.ensures.first)
    (drives_link c.side-end.result.first c.fail.new.self.first _ _ c.args.pair.now c.side-end.result.link.now c.fail.new.self.link.now c.side-end.ensures.link c.side-end.ensures.first
    (rest.place ∙ room.place) (rest.counts.same_session refl ∙ ap (λ (counts : EndCounts). counts.partner_session) room.counts)
    (puts_ready _ _ _ room (rest.counts.same_session refl) (puts_frees false _ _ partner_failed c.fail.result refl refl c.fail.ensures.success c.fail.ensures.busy c.fail.ensures.refused))
    (some_none _ c.args.pair.now.driver _ c.requires))
    refl refl room c.in-Parameter.ensures.refused (c.fail.ensures.parameter.0 c.in-Parameter.is)

-- the end is not shared
pub returns-in-Busy-clause-plainly : goal.returns-in-Busy-clause-plainly
returns-in-Busy-clause-plainly c = absurd (true_false true refl (sym c.in-Busy.ensures.busy.shared_end))

pub returns-in-Success-clause-acts : goal.returns-in-Success-clause-acts
returns-in-Success-clause-acts c =
    let old = c.args.pair.now in
    let room = c.in_ok-reserve.ensures.rest in
    let rest = c.fail.ensures.rest in
    let mid : Pair = record { server = old.server; link = c.fail.new.self.link.now; own = old.own; window = old.window; driver = old.driver } in
    fail_acts c.side-end.result.first c.fail.new.self.first (c.side-end.result.link.ghost_name ∷ []) (c.fail.new.self.link.ghost_name ∷ []) c.side-end.result.link.now old mid c.freed.new.pair
    (state_of c.reserve.new.self) refl c.side-end.ensures.link c.side-end.ensures.first (ap (λ (p : EndPlace). p.first) (rest.place ∙ room.place) ∙ c.side-end.ensures.first)
    (ap (λ (p : EndPlace). p.lenders) (rest.place ∙ room.place)) c.freed.ensures.link c.freed.ensures.window c.freed.ensures.told c.freed.ensures.noted room c.in-Success.ensures.success rest

pub returns-in-Parameter-clause-acts : goal.returns-in-Parameter-clause-acts
returns-in-Parameter-clause-acts c =
    let old = c.args.pair.now in
    let room = c.in_ok-reserve.ensures.rest in
    let rest = c.fail.ensures.rest in
    let still = c.in-Parameter.ensures.refused in
    let mid : Pair = record { server = old.server; link = c.fail.new.self.link.now; own = old.own; window = old.window; driver = old.driver } in
    at_both FailsOnce c.side-end.result.first c.fail.new.self.first (c.side-end.result.link.ghost_name ∷ []) (c.fail.new.self.link.ghost_name ∷ []) c.side-end.result.link.now old mid
    refl c.side-end.ensures.link c.side-end.ensures.first (ap (λ (p : EndPlace). p.first) (rest.place ∙ room.place) ∙ c.side-end.ensures.first)
    (ap (λ (p : EndPlace). p.lenders) (rest.place ∙ room.place))
    (λ a. inr (inl (record {
      ready = reserves_on (state_of c.side-end.result) (state_of c.reserve.new.self) (state_of c.fail.new.self) room still;
      unregistered = still.registered ∙ c.fail.ensures.parameter.0 c.in-Parameter.is;
      own = refl;
      client = record { client = refl; answers = refl };
    })))

-- the end is not shared
pub returns-in-Busy-clause-acts : goal.returns-in-Busy-clause-acts
returns-in-Busy-clause-acts c = absurd (true_false true refl (sym c.in-Busy.ensures.busy.shared_end))

pub returns-in-Busy-clause-done : goal.returns-in-Busy-clause-done
returns-in-Busy-clause-done c = c.in-Busy.ensures.busy.shared_end
