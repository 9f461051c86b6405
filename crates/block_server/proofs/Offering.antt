-- What becomes of a login that is to be granted, from one step to the next.
use Rattle.std.proofs.Common.{◌≡◌, ◌++◌, ℕ, false, List, [], ◌∷◌, refl, sym, ◌∙◌, ap, subst}
use Rattle.block_server.specs.Causes.{Hearing, told_to, units_at}
use Rattle.block_server.specs.Causes.News.{delivered}
use Rattle.block_server.specs.Ends.{IsGrantable}
use Rattle.block_server.specs.Granting.{HasOffer, HasOtherFront, IsOffered, IsRejecting, LoginState}
use Rattle.block_server.specs.Serving.{Desk, Terms}
use Rattle.block_server.specs.Stage.{is_answered}
use Rattle.srp_iu.specs.declared.login.LoginReq.{LoginReq}
use Rattle.block_server.specs.declared.request.Request.{Request}
use Rattle.block_server.specs.declared.service.Outcome.{Outcome}
use Rattle.block_server.specs.declared.service.Outcome.TheVariants.{Granted, Rejected, Served}
use Rattle.block_server.specs.declared.service.Stage.{Stage}
use Rattle.block_server.specs.declared.service.Stage.TheVariants.{Start, OutTable, InTable, DataOut, Given, DataIn, Answer, Entry}
use Rattle.vio_num.specs.declared.names.UnitId.{UnitId}

-- at a desk whose parts are those of another
pub offer_at : (terms : Terms) (a b : Desk) (stage : Stage) (answer : List ℕ) (pending : List Request) → b.id ≡ a.id → b.logins ≡ a.logins → b.stage ≡ stage → b.answer ≡ answer
    → b.pending ≡ pending → HasOffer (told_to terms.told a.id) stage a.logins answer pending → HasOffer (told_to terms.told b.id) b.stage b.logins b.answer b.pending
offer_at terms a b stage answer pending id logins is bytes requests =
    subst (λ (z : UnitId × Stage × LoginState × List ℕ × List Request). HasOffer (told_to terms.told z.0) z.1 z.2 z.3 z.4)
    (λ i. ((sym id) i, (sym is) i, (sym logins) i, (sym bytes) i, (sym requests) i))

-- none is to be granted before an answer is to be copied
pub offer_none : (Hears : Hearing) (stage : Stage) (logins : LoginState) (answer : List ℕ) (pending : List Request) → is_answered stage ≡ false → HasOffer Hears stage logins answer pending
offer_none Hears Start logins answer pending is = tt
offer_none Hears OutTable logins answer pending is = tt
offer_none Hears InTable logins answer pending is = tt
offer_none Hears (DataOut cursor) logins answer pending is = tt
offer_none Hears (Given row reply) logins answer pending is = tt
offer_none Hears (DataIn row reply cursor) logins answer pending is = tt
offer_none Hears (Answer outcome) logins answer pending is = absurd (cc (is))
offer_none Hears (Entry outcome) logins answer pending is = absurd (cc (is))

-- a request came behind those that are pending
offered_pushed : (number credits : ℕ) (answer : List ℕ) (pending : List Request) (new : Request) → IsOffered number credits answer pending → IsOffered number credits answer (pending ++ new ∷ [])
offered_pushed number credits answer pending new is = record {
  front = is.front;
  rest = is.rest ++ new ∷ [];
  parts = ap (λ list. list ++ new ∷ []) is.parts;
  number_is = is.number_is;
  asked = is.asked;
  asks = is.asks;
  may = is.may;
  grants = is.grants;
}

rejecting_pushed : (current : ℕ) (answer : List ℕ) (pending : List Request) (new : Request) → IsRejecting current answer pending → IsRejecting current answer (pending ++ new ∷ [])
rejecting_pushed current answer pending new is = record {
  front = is.front;
  rest = is.rest ++ new ∷ [];
  parts = ap (λ list. list ++ new ∷ []) is.parts;
  asked = is.asked;
  asks = is.asks;
  rejects = is.rejects;
}

other_pushed : (pending : List Request) (new : Request) → HasOtherFront pending → HasOtherFront (pending ++ new ∷ [])
other_pushed pending new is = record { front = is.front; rest = is.rest ++ new ∷ []; parts = ap (λ list. list ++ new ∷ []) is.parts; other = is.other }

pub offer_pushed : (Hears : Hearing) (stage : Stage) (logins : LoginState) (answer : List ℕ) (pending : List Request) (new : Request) → HasOffer Hears stage logins answer pending
    → HasOffer Hears stage logins answer (pending ++ new ∷ [])
unfolding offered_pushed rejecting_pushed
offer_pushed Hears Start logins answer pending new is = tt
offer_pushed Hears OutTable logins answer pending new is = tt
offer_pushed Hears InTable logins answer pending new is = tt
offer_pushed Hears (DataOut cursor) logins answer pending new is = tt
offer_pushed Hears (Given row reply) logins answer pending new is = tt
offer_pushed Hears (DataIn row reply cursor) logins answer pending new is = tt
offer_pushed Hears (Answer (Granted number)) logins answer pending new is = offered_pushed number logins.granted answer pending new is
offer_pushed Hears (Answer Rejected) logins answer pending new is = rejecting_pushed logins.current answer pending new is
offer_pushed Hears (Answer (Served row)) logins answer pending new is = other_pushed pending new is
offer_pushed Hears (Entry (Granted number)) logins answer pending new is =
    record { offered = offered_pushed number logins.granted answer pending new is.offered; written = is.written }
offer_pushed Hears (Entry Rejected) logins answer pending new is =
    record { rejecting = rejecting_pushed logins.current answer pending new is.rejecting; written = is.written }
offer_pushed Hears (Entry (Served row)) logins answer pending new is = other_pushed pending new is

-- its answer was copied over the request
pub offer_copied : (Hears : Hearing) (outcome : Outcome) (logins : LoginState) (answer : List ℕ) (request : Request) (rest pending : List Request) → pending ≡ request ∷ rest
    → Hears (delivered units_at request.address request.tag answer) → HasOffer Hears (Answer outcome) logins answer pending → HasOffer Hears (Entry outcome) logins answer pending
offer_copied Hears outcome logins answer request rest pending front written is = at outcome is
  where
    head_is : (x y : Request) (xs ys : List Request) → x ∷ xs ≡ y ∷ ys → x ≡ y
    head_is x y xs ys same = cc (same)

    over : (other : Request) (others : List Request) → pending ≡ other ∷ others → Hears (delivered units_at other.address other.tag answer)
    over other others parts = subst (λ (r : Request). Hears (delivered units_at r.address r.tag answer)) (head_is request other rest others (sym front ∙ parts)) written

    at : (outcome : Outcome) → HasOffer Hears (Answer outcome) logins answer pending → HasOffer Hears (Entry outcome) logins answer pending
    at (Granted number) is = record { offered = is; written = over is.front is.rest is.parts }
    at Rejected is = record { rejecting = is; written = over is.front is.rest is.parts }
    at (Served row) is = is

-- a login may be granted while this one is on, so none is
pub may_first : (current : ℕ) (asked : LoginReq) → IsGrantable current asked → IsGrantable 0 asked
may_first current asked may = record { none_on = refl; length = may.length; channels = may.channels; formats = may.formats }
