-- What the copy of an answer lays, and what the row of a request gets once its entry is put.
use Rattle.std.proofs.Common.{◌≡◌, ◌<◌, ℕ, zero, suc, Bool, false, true, List, [], ◌∷◌, Option, Some, length, slice_get, slice_index, sym, ◌∙◌, ap, subst, arith}
use Rattle.std.proofs.lemmas.Grind.{same_number_lists}
use Rattle.vio_num.specs.declared.history.Grant.{Grant}
use Rattle.vio_num.specs.declared.history.Served.{Served as ServedRow}
use Rattle.page_slots.specs.declared.stroke.StrokeName.{StrokeName}
use Rattle.crq_session.specs.EndState.{EndState, OnlyReserves}
use Rattle.tce_window.proofs.Laws.{get-set_same}
use Rattle.tce_window.specs.PortState.{PortState}
use Rattle.block_server.specs.Bearing.{BearsIn, IsAnswerPart, IsShownAs}
use Rattle.block_server.specs.Copied.{own_name}
use Rattle.block_server.specs.Ranges.{Known}
use Rattle.block_server.specs.Serving.{SettlesRow}
use Rattle.block_server.specs.Talk.{CopiesAnswer, HasRoomFor}
use Rattle.block_server.specs.declared.request.Request.{Request}
use Rattle.block_server.specs.declared.service.Outcome.{Outcome}
use Rattle.block_server.specs.declared.service.Outcome.TheVariants as outcomes
use Rattle.block_server.specs.declared.service.Stage.TheVariants as stages
use Rattle.block_server.specs.declared.unit.Unit.{Unit}
use Rattle.block_server.proofs.Bearing.{bears_wider}
use Rattle.block_server.proofs.Listening.{puts_none, slots_kept}
use Rattle.block_server.proofs.Servicing.{entry_one, first_same}

-- an answer that was copied over its request
pub answer_bears : (own : PortState) (asked request : Request) (items xs rest : List Request) (bytes answer : List ℕ) (old new : Option Known) → items ≡ asked ∷ xs → items ≡ request ∷ rest → bytes ≡ answer
    → BearsIn (IsShownAs (own_name own asked.tag) asked.address (length bytes) (slice_index bytes)) old new → BearsIn (IsAnswerPart (own_name own request.tag) request.address answer) old new
answer_bears own asked request items xs rest bytes answer old new front parts same =
    bears_wider (IsShownAs (own_name own asked.tag) asked.address (length bytes) (slice_index bytes)) (IsAnswerPart (own_name own request.tag) request.address answer)
    (λ address part name is. record {
      name_is = is.name_is ∙ ap (λ (r : Request). own_name own r.tag) one;
      address_is = is.address_is ∙ ap (λ (r : Request). r.address) one;
      are = same_number_lists part bytes is.long (λ k less. is.are k (omega (arith, less, is.long))) ∙ same;
    }) old new
  where
    one : asked ≡ request
    one = first_same items asked request xs rest front parts

-- behind a part of a turn that lays nothing
pub answer_then : (name name' : StrokeName) (to : ℕ) (answer : List ℕ) (old mid new : Option Known) → name' ≡ name → mid ≡ old → BearsIn (IsAnswerPart name' to answer) mid new
    → BearsIn (IsAnswerPart name to answer) old new
answer_then name name' to answer old mid new named same bears =
    subst (λ (z : StrokeName × Option Known). BearsIn (IsAnswerPart z.0 to answer) z.1 new) (λ i. (named i, same i)) bears

-- a row has its answer
there_is : (rows : List ServedRow) (place : ℕ) (row : ServedRow) → slice_get rows place ≡ Some row → place < length rows
there_is [] place row there = absurd (cc (there))
there_is (first ∷ rows) zero row there = omega arith
there_is (first ∷ rows) (suc place) row there = let h = there_is rows place row there in omega (arith, h)

pub settled_row : (outcome : Outcome) (place : ℕ) (answer : List ℕ) (rows rows' : List ServedRow) (row : ServedRow) → SettlesRow outcome answer rows rows' → outcome ≡ outcomes.Served place
    → slice_get rows place ≡ Some row → slice_get rows' place ≡ Some (record row { answer = answer })
settled_row outcome place answer rows rows' row settles is there =
    ap (λ (list : List ServedRow). slice_get list place) (subst (λ (o : Outcome). SettlesRow o answer rows rows') is settles row there)
    ∙ get-set_same rows place (record row { answer = answer }) (there_is rows place row there)

-- the answer was copied before, and its entry is to be put
pub settled_first : (link : Bool) (unit unit1 : Unit) (q0 q1 q2 : EndState) (l1 l2 : List Grant) (outcome found : Outcome) (place : ℕ) (request : Request) (rest : List Request) (rows rows1 rows' : List ServedRow)
    (row : ServedRow) → OnlyReserves q0 q1 → q2 ≡ q1 → CopiesAnswer unit unit1 l1 l2 outcome → outcome ≡ outcomes.Served place → unit1.service.stage ≡ stages.Entry found → link ≡ false
    → q0.registered ≡ true → HasRoomFor q0 1 → q0.place.partner_registered ≡ true → unit.pending.items ≡ request ∷ rest → rows1 ≡ rows → slice_get rows place ≡ Some row
    → (unit1.pending.items ≡ request ∷ rest → link ≡ false → q2.registered ≡ true → HasRoomFor q2 1 → q2.place.partner_registered ≡ true → found ≡ outcomes.Served place
    → slice_get rows1 place ≡ Some row → slice_get rows' place ≡ Some (record row { answer = unit1.service.answer.items }))
    → slice_get rows' place ≡ Some (record row { answer = unit.service.answer.items })
settled_first link unit unit1 q0 q1 q2 l1 l2 outcome found place request rest rows rows1 rows' row reserves same copied is at alone on room both parts kept there settles =
    subst (λ (list : List ℕ). slice_get rows' place ≡ Some (record row { answer = list })) (λ i. (copied.answer i).items)
    (settles (copied.pending ∙ parts) alone (to.registered ∙ on) (slots_kept q0 q2 1 to.place (ap (λ counts. counts.partner_session) to.counts) (puts_none q0 q2 to.sent) room)
    (ap (λ place. place.partner_registered) to.place ∙ both) (entry_one found outcome (sym at ∙ copied.stage) ∙ is) (ap (λ (list : List ServedRow). slice_get list place) kept ∙ there))
  where
    to : OnlyReserves q0 q2
    to = subst (OnlyReserves q0) (sym same) reserves
