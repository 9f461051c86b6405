use Rattle.std.proofs.Common.{◌∙◌, inl, inr, refl, ap}
use Rattle.crq_session.specs.EndState.{EndCounts}
use Rattle.vcpu_run.proofs.Announcing.{puts_kept, puts_nothing, puts_pushes, puts_ready, puts_reserves}
use Rattle.vcpu_run.proofs.Driving.{drives_link, if_none}
use Rattle.std.proofs.Common.{◌∷◌, []}
use Rattle.crq_session.specs.EndState.{EndPlace}
use Rattle.crq_session.specs.PlainState.{state_of}
use Rattle.vcpu_run.proofs.Calming.{calm_on, calm_ready, calm_same, nothing_calm, pushes_calm}
use Rattle.vcpu_run.proofs.CalmTurns.{calm_link}
use Rattle.vcpu_run.proofs.PlainPushed.{stands_kept, stands_nothing, stands_put, talks_pushed}
use Rattle.vcpu_run.specs.ActsAt.{PushesEvent}
use Rattle.vcpu_run.proofs.ActsSeats.{at_both}
use Rattle.vio_num.specs.declared.hypervisor.Moved.TheVariants as moves
use Rattle.vcpu_run.proofs.Moving.{event_pair}
use Rattle.vcpu_run.proofs.seat.push_event.Goals as goal

pub returns-in_err-reserve-clause-drives : goal.returns-in_err-reserve-clause-drives
returns-in_err-reserve-clause-drives c =
    let room = c.in_err-reserve.ensures.rest in
    drives_link c.side-end.result.first c.reserve.new.self.first _ _ c.args.pair.now c.side-end.result.link.now c.reserve.new.self.link.now c.side-end.ensures.link c.side-end.ensures.first
    room.place (ap (λ (counts : EndCounts). counts.partner_session) room.counts) (puts_reserves _ _ room) (if_none c.args.pair.now.driver _ room.registered)

pub returns-in-Nothing-clause-drives : goal.returns-in-Nothing-clause-drives
returns-in-Nothing-clause-drives c =
    let room = c.in_ok-reserve.ensures.rest in
    let rest = c.push_event.ensures.rest in
    drives_link c.side-end.result.first c.push_event.new.self.first _ _ c.args.pair.now c.side-end.result.link.now c.push_event.new.self.link.now c.side-end.ensures.link c.side-end.ensures.first
    (rest.place ∙ room.place) (rest.counts.same_session refl ∙ ap (λ (counts : EndCounts). counts.partner_session) room.counts)
    (puts_ready _ _ _ room (rest.counts.same_session refl) (puts_nothing _ _ c.push_event.ensures.rest c.in-Nothing.ensures.nothing)) (if_none c.args.pair.now.driver _ (rest.registered ∙ room.registered))

pub returns-in-Put-clause-drives : goal.returns-in-Put-clause-drives
returns-in-Put-clause-drives c =
    let room = c.in_ok-reserve.ensures.rest in
    let rest = c.push_event.ensures.rest in
    drives_link c.side-end.result.first c.push_event.new.self.first _ _ c.args.pair.now c.side-end.result.link.now c.push_event.new.self.link.now c.side-end.ensures.link c.side-end.ensures.first
    (rest.place ∙ room.place) (rest.counts.same_session refl ∙ ap (λ (counts : EndCounts). counts.partner_session) room.counts)
    (puts_ready _ _ _ room (rest.counts.same_session refl) (puts_pushes _ _ c.push_event.ensures.rest c.in-Put.ensures.put)) (if_none c.args.pair.now.driver _ (rest.registered ∙ room.registered))

pub returns-in-Kept-clause-drives : goal.returns-in-Kept-clause-drives
returns-in-Kept-clause-drives c =
    let room = c.in_ok-reserve.ensures.rest in
    let rest = c.push_event.ensures.rest in
    drives_link c.side-end.result.first c.push_event.new.self.first _ _ c.args.pair.now c.side-end.result.link.now c.push_event.new.self.link.now c.side-end.ensures.link c.side-end.ensures.first
    (rest.place ∙ room.place) (rest.counts.same_session refl ∙ ap (λ (counts : EndCounts). counts.partner_session) room.counts)
    (puts_ready _ _ _ room (rest.counts.same_session refl) (puts_kept _ _ c.in-Kept.number c.in-Kept.held c.push_event.ensures.rest c.in-Kept.ensures.still)) (if_none c.args.pair.now.driver _ (rest.registered ∙ room.registered))

pub returns-in_err-reserve-clause-calm : goal.returns-in_err-reserve-clause-calm
returns-in_err-reserve-clause-calm c =
    let room = c.in_err-reserve.ensures.rest in
    calm_link c.side-end.result.first c.reserve.new.self.first (c.side-end.result.link.ghost_name ∷ []) (c.reserve.new.self.link.ghost_name ∷ []) c.side-end.result.link.now
    c.args.pair.now.link c.reserve.new.self.link.now c.side-end.ensures.link c.side-end.ensures.first (ap (λ (p : EndPlace). p.first) room.place ∙ c.side-end.ensures.first)
    (calm_ready (state_of c.side-end.result) (state_of c.reserve.new.self) room)

pub returns-in-Nothing-clause-calm : goal.returns-in-Nothing-clause-calm
returns-in-Nothing-clause-calm c =
    let room = c.in_ok-reserve.ensures.rest in
    calm_link c.side-end.result.first c.push_event.new.self.first (c.side-end.result.link.ghost_name ∷ []) (c.push_event.new.self.link.ghost_name ∷ []) c.side-end.result.link.now
    c.args.pair.now.link c.push_event.new.self.link.now c.side-end.ensures.link c.side-end.ensures.first (ap (λ (p : EndPlace). p.first) (c.push_event.ensures.rest.place ∙ room.place) ∙ c.side-end.ensures.first)
    (calm_on (state_of c.side-end.result) (state_of c.reserve.new.self) (state_of c.push_event.new.self) (calm_ready (state_of c.side-end.result) (state_of c.reserve.new.self) room) (nothing_calm (state_of c.reserve.new.self) (state_of c.push_event.new.self) c.in-Nothing.ensures.nothing))

pub returns-in-Put-clause-calm : goal.returns-in-Put-clause-calm
returns-in-Put-clause-calm c =
    let room = c.in_ok-reserve.ensures.rest in
    calm_link c.side-end.result.first c.push_event.new.self.first (c.side-end.result.link.ghost_name ∷ []) (c.push_event.new.self.link.ghost_name ∷ []) c.side-end.result.link.now
    c.args.pair.now.link c.push_event.new.self.link.now c.side-end.ensures.link c.side-end.ensures.first (ap (λ (p : EndPlace). p.first) (c.push_event.ensures.rest.place ∙ room.place) ∙ c.side-end.ensures.first)
    (calm_on (state_of c.side-end.result) (state_of c.reserve.new.self) (state_of c.push_event.new.self) (calm_ready (state_of c.side-end.result) (state_of c.reserve.new.self) room) (pushes_calm (state_of c.reserve.new.self) (state_of c.push_event.new.self) c.in-Put.ensures.put))

pub returns-in-Kept-clause-calm : goal.returns-in-Kept-clause-calm
returns-in-Kept-clause-calm c =
    let room = c.in_ok-reserve.ensures.rest in
    calm_link c.side-end.result.first c.push_event.new.self.first (c.side-end.result.link.ghost_name ∷ []) (c.push_event.new.self.link.ghost_name ∷ []) c.side-end.result.link.now
    c.args.pair.now.link c.push_event.new.self.link.now c.side-end.ensures.link c.side-end.ensures.first (ap (λ (p : EndPlace). p.first) (c.push_event.ensures.rest.place ∙ room.place) ∙ c.side-end.ensures.first)
    (calm_on (state_of c.side-end.result) (state_of c.reserve.new.self) (state_of c.push_event.new.self) (calm_ready (state_of c.side-end.result) (state_of c.reserve.new.self) room) (calm_same (state_of c.reserve.new.self) (state_of c.push_event.new.self) c.in-Kept.ensures.still.full.sent c.in-Kept.ensures.still.kept))

pub returns-in-Nothing-clause-plainly : goal.returns-in-Nothing-clause-plainly
returns-in-Nothing-clause-plainly c =
    let room = c.in_ok-reserve.ensures.rest in
    let rest = c.push_event.ensures.rest in
    let place = rest.place ∙ room.place in
    let drives =
    drives_link c.side-end.result.first c.push_event.new.self.first _ _ c.args.pair.now c.side-end.result.link.now c.push_event.new.self.link.now c.side-end.ensures.link c.side-end.ensures.first
    place (rest.counts.same_session refl ∙ ap (λ (counts : EndCounts). counts.partner_session) room.counts)
    (puts_ready _ _ _ room (rest.counts.same_session refl) (puts_nothing _ _ c.push_event.ensures.rest c.in-Nothing.ensures.nothing)) (if_none c.args.pair.now.driver _ (rest.registered ∙ room.registered)) in
    talks_pushed c.side-end.result.first c.push_event.new.self.first (c.side-end.result.link.ghost_name ∷ []) (c.push_event.new.self.link.ghost_name ∷ [])
    c.side-end.result.link.now c.args.pair.now _ c.side-end.ensures.link c.side-end.ensures.first (ap (λ (p : EndPlace). p.first) place ∙ c.side-end.ensures.first) drives refl refl
    (stands_nothing (state_of c.side-end.result) (state_of c.reserve.new.self) (state_of c.push_event.new.self) room rest c.in-Nothing.ensures.nothing)

pub returns-in-Put-clause-plainly : goal.returns-in-Put-clause-plainly
returns-in-Put-clause-plainly c =
    let room = c.in_ok-reserve.ensures.rest in
    let rest = c.push_event.ensures.rest in
    let place = rest.place ∙ room.place in
    let drives =
    drives_link c.side-end.result.first c.push_event.new.self.first _ _ c.args.pair.now c.side-end.result.link.now c.push_event.new.self.link.now c.side-end.ensures.link c.side-end.ensures.first
    place (rest.counts.same_session refl ∙ ap (λ (counts : EndCounts). counts.partner_session) room.counts)
    (puts_ready _ _ _ room (rest.counts.same_session refl) (puts_pushes _ _ c.push_event.ensures.rest c.in-Put.ensures.put)) (if_none c.args.pair.now.driver _ (rest.registered ∙ room.registered)) in
    talks_pushed c.side-end.result.first c.push_event.new.self.first (c.side-end.result.link.ghost_name ∷ []) (c.push_event.new.self.link.ghost_name ∷ [])
    c.side-end.result.link.now c.args.pair.now _ c.side-end.ensures.link c.side-end.ensures.first (ap (λ (p : EndPlace). p.first) place ∙ c.side-end.ensures.first) drives refl refl
    (stands_put (state_of c.side-end.result) (state_of c.reserve.new.self) (state_of c.push_event.new.self) room c.in-Put.ensures.put)

pub returns-in-Kept-clause-plainly : goal.returns-in-Kept-clause-plainly
returns-in-Kept-clause-plainly c =
    let room = c.in_ok-reserve.ensures.rest in
    let rest = c.push_event.ensures.rest in
    let place = rest.place ∙ room.place in
    let drives =
    drives_link c.side-end.result.first c.push_event.new.self.first _ _ c.args.pair.now c.side-end.result.link.now c.push_event.new.self.link.now c.side-end.ensures.link c.side-end.ensures.first
    place (rest.counts.same_session refl ∙ ap (λ (counts : EndCounts). counts.partner_session) room.counts)
    (puts_ready _ _ _ room (rest.counts.same_session refl) (puts_kept _ _ c.in-Kept.number c.in-Kept.held c.push_event.ensures.rest c.in-Kept.ensures.still)) (if_none c.args.pair.now.driver _ (rest.registered ∙ room.registered)) in
    talks_pushed c.side-end.result.first c.push_event.new.self.first (c.side-end.result.link.ghost_name ∷ []) (c.push_event.new.self.link.ghost_name ∷ [])
    c.side-end.result.link.now c.args.pair.now _ c.side-end.ensures.link c.side-end.ensures.first (ap (λ (p : EndPlace). p.first) place ∙ c.side-end.ensures.first) drives refl refl
    (stands_kept (state_of c.side-end.result) (state_of c.reserve.new.self) (state_of c.push_event.new.self) c.in-Kept.number c.in-Kept.held room c.in-Kept.ensures.still)

pub returns-in-Nothing-clause-acts : goal.returns-in-Nothing-clause-acts
returns-in-Nothing-clause-acts c =
    let room = c.in_ok-reserve.ensures.rest in
    let rest = c.push_event.ensures.rest in
    let place = rest.place ∙ room.place in
    at_both PushesEvent c.side-end.result.first c.push_event.new.self.first (c.side-end.result.link.ghost_name ∷ []) (c.push_event.new.self.link.ghost_name ∷ []) c.side-end.result.link.now
    c.args.pair.now (record c.args.pair.now { link = c.push_event.new.self.link.now }) refl c.side-end.ensures.link c.side-end.ensures.first (ap (λ (p : EndPlace). p.first) place ∙ c.side-end.ensures.first) (ap (λ (p : EndPlace). p.lenders) place)
    (λ a. record { room = state_of c.reserve.new.self; ready = room; pushes = inl c.in-Nothing.ensures.nothing; rest = rest; own = refl; client = record { client = refl; answers = refl } })

pub returns-in-Put-clause-acts : goal.returns-in-Put-clause-acts
returns-in-Put-clause-acts c =
    let room = c.in_ok-reserve.ensures.rest in
    let rest = c.push_event.ensures.rest in
    let place = rest.place ∙ room.place in
    at_both PushesEvent c.side-end.result.first c.push_event.new.self.first (c.side-end.result.link.ghost_name ∷ []) (c.push_event.new.self.link.ghost_name ∷ []) c.side-end.result.link.now
    c.args.pair.now (record c.args.pair.now { link = c.push_event.new.self.link.now }) refl c.side-end.ensures.link c.side-end.ensures.first (ap (λ (p : EndPlace). p.first) place ∙ c.side-end.ensures.first) (ap (λ (p : EndPlace). p.lenders) place)
    (λ a. record { room = state_of c.reserve.new.self; ready = room; pushes = inr (inl c.in-Put.ensures.put); rest = rest; own = refl; client = record { client = refl; answers = refl } })

pub returns-in-Kept-clause-acts : goal.returns-in-Kept-clause-acts
returns-in-Kept-clause-acts c =
    let room = c.in_ok-reserve.ensures.rest in
    let rest = c.push_event.ensures.rest in
    let place = rest.place ∙ room.place in
    at_both PushesEvent c.side-end.result.first c.push_event.new.self.first (c.side-end.result.link.ghost_name ∷ []) (c.push_event.new.self.link.ghost_name ∷ []) c.side-end.result.link.now
    c.args.pair.now (record c.args.pair.now { link = c.push_event.new.self.link.now }) refl c.side-end.ensures.link c.side-end.ensures.first (ap (λ (p : EndPlace). p.first) place ∙ c.side-end.ensures.first) (ap (λ (p : EndPlace). p.lenders) place)
    (λ a. record { room = state_of c.reserve.new.self; ready = room; pushes = inr (inr (c.in-Kept.number, c.in-Kept.held, c.in-Kept.ensures.still)); rest = rest; own = refl; client = record { client = refl; answers = refl } })

pub returns-in-Nothing-clause-moved : goal.returns-in-Nothing-clause-moved
returns-in-Nothing-clause-moved c =
    event_pair moves.Quiet c.side-end.result.first c.push_event.new.self.first (c.side-end.result.link.ghost_name ∷ []) (c.push_event.new.self.link.ghost_name ∷ []) c.side-end.result.link.now
    c.args.pair.now (record c.args.pair.now { link = c.push_event.new.self.link.now }) (state_of c.reserve.new.self) c.side-end.ensures.link c.side-end.ensures.first
    (ap (λ (p : EndPlace). p.first) (c.push_event.ensures.rest.place ∙ c.in_ok-reserve.ensures.rest.place) ∙ c.side-end.ensures.first) c.in_ok-reserve.ensures.rest
    (inr c.in-Nothing.ensures.nothing.kept, λ did. absurd (cc (did)))

pub returns-in-Put-clause-moved : goal.returns-in-Put-clause-moved
returns-in-Put-clause-moved c =
    event_pair moves.Moved c.side-end.result.first c.push_event.new.self.first (c.side-end.result.link.ghost_name ∷ []) (c.push_event.new.self.link.ghost_name ∷ []) c.side-end.result.link.now
    c.args.pair.now (record c.args.pair.now { link = c.push_event.new.self.link.now }) (state_of c.reserve.new.self) c.side-end.ensures.link c.side-end.ensures.first
    (ap (λ (p : EndPlace). p.first) (c.push_event.ensures.rest.place ∙ c.in_ok-reserve.ensures.rest.place) ∙ c.side-end.ensures.first) c.in_ok-reserve.ensures.rest
    (inr c.in-Put.ensures.put.kept, λ did. (c.in-Put.ensures.put.some, c.in-Put.ensures.put.kept))

pub returns-in-Kept-clause-moved : goal.returns-in-Kept-clause-moved
returns-in-Kept-clause-moved c =
    event_pair moves.Quiet c.side-end.result.first c.push_event.new.self.first (c.side-end.result.link.ghost_name ∷ []) (c.push_event.new.self.link.ghost_name ∷ []) c.side-end.result.link.now
    c.args.pair.now (record c.args.pair.now { link = c.push_event.new.self.link.now }) (state_of c.reserve.new.self) c.side-end.ensures.link c.side-end.ensures.first
    (ap (λ (p : EndPlace). p.first) (c.push_event.ensures.rest.place ∙ c.in_ok-reserve.ensures.rest.place) ∙ c.side-end.ensures.first) c.in_ok-reserve.ensures.rest
    (inl c.in-Kept.ensures.still.kept, λ did. absurd (cc (did)))
