-- Laws of a unit's intake for the crates above: it stays as the windows and the server's lines grow, copies of other units are none of
-- it, and a unit that took nothing has none.
use Rattle.std.proofs.Common.{◌≡◌, ◌≢◌, ◌∙◌, ◌++◌, ◌&&◌, ◌≤◌, Bool, true, false, cond, All, List, [], ◌∷◌, Option, None, Some, IfSome, filter, refl, sym, ap, subst, arith, append-nil}
use Rattle.std.specs.List.{slice_get}
use Rattle.std.proofs.lemmas.Bool.Decides.{nat_tests}
use Rattle.std.proofs.lemmas.List.Elements.{All-head, All-nil, All-tail, filter-append}
use Rattle.vio_num.specs.Words.{Begins}
use Rattle.vio_num.specs.declared.names.UnitId.{UnitId}
use Rattle.crq_ring.specs.Sessions.{of_session}
use Rattle.rdma_copy.specs.Copies.{side_of}
use Rattle.rdma_copy.specs.Copy.{SideGrows}
use Rattle.rdma_copy.specs.declared.copy.CopyRecord.{CopyRecord}
use Rattle.block_server.specs.declared.request.Arrival.{Arrival}
use Rattle.block_server.specs.Makers.{same_unit}
use Rattle.block_server.specs.Moves.{begin_on, is_by, is_intake}
use Rattle.block_server.specs.Receipts.{Intake, IsIntake, IsOver, IsReceived, Receipt, srp_rows, waiting_rows}
use Rattle.block_server.proofs.Receiving.{intake_stays as passed_on}

-- What of an intake stays: the windows and the lines grew, and nothing was taken or fetched.
pub record StaysIntake (old new : Intake) : Type 0 where
  pub own : SideGrows (side_of old.own) (side_of new.own)
  pub client : SideGrows (side_of old.client) (side_of new.client)
  pub session : new.queue.last_session ≡ old.queue.last_session
  pub taken : new.queue.taken ≡ old.queue.taken
  pub copies : filter (is_intake old.own.place.unit) new.copies ≡ filter (is_intake old.own.place.unit) old.copies
  pub grants : Begins old.grants new.grants
  pub waiting : new.waiting ≡ old.waiting
  pub ended : new.ended ≡ old.ended

-- A unit's receipts stay those of its intake.
pub intake_stays : (old new : Intake) (receipts : List Receipt) → StaysIntake old new → IsIntake old receipts → IsIntake new receipts
intake_stays old new receipts stays is =
    passed_on old new receipts
    (record {
      own = stays.own;
      client = stays.client;
      taken = ([], stays.taken ∙ sym (append-nil old.queue.taken));
      grants = stays.grants;
    })
    stays.session stays.taken (ap (λ (unit : UnitId). filter (is_intake unit) new.copies) stays.own.unit ∙ stays.copies) stays.waiting stays.ended is

no_true : true ≡ false → ⊥
no_true e = cc

apart_is : (a b : UnitId) → a ≢ b → same_unit a b ≡ false
apart_is a b apart = at (same_unit a b) refl
  where
    at : (t : Bool) → same_unit a b ≡ t → same_unit a b ≡ false
    at true is = absurd (apart (grind (arith, nat_tests)))
    at false is = is

-- Copies that other units made are none of a unit's intake.
passes_one : (unit : UnitId) (copy : CopyRecord) → copy.name.who ≢ unit → is_intake unit copy ≡ false
passes_one unit copy apart = at (is_by unit copy) (apart_is copy.name.who unit apart)
  where
    at : (b : Bool) → b ≡ false → (b && begin_on unit 0 copy.to.items) ≡ false
    at true e = absurd (no_true e)
    at false e = refl

pub others_pass : (unit : UnitId) (old more : List CopyRecord) → All (λ copy. copy.name.who ≢ unit) more
    → filter (is_intake unit) (old ++ more) ≡ filter (is_intake unit) old
others_pass unit old more others =
    filter-append (is_intake unit) old more ∙ (ap (λ rest. filter (is_intake unit) old ++ rest) (none more others) ∙ append-nil (filter (is_intake unit) old))
  where
    none : (copies : List CopyRecord) → All (λ copy. copy.name.who ≢ unit) copies → filter (is_intake unit) copies ≡ []
    none [] all = refl
    none (copy ∷ copies) all =
        ap (λ b. cond b (copy ∷ filter (is_intake unit) copies) (filter (is_intake unit) copies)) (passes_one unit copy (All-head (λ (c : CopyRecord). c.name.who ≢ unit) copy copies all))
        ∙ none copies (All-tail (λ (c : CopyRecord). c.name.who ≢ unit) copy copies all)

-- Where nothing was taken and none waits there are no receipts.
pub intake_none : (intake : Intake) → intake.queue.taken ≡ [] → intake.copies ≡ [] → intake.waiting ≡ None → IsIntake intake []
intake_none intake taken copies none = record {
  entries = ap (waiting_rows intake.queue.last_session) none ∙ ap srp_rows (sym taken);
  copies_are = ap (filter (is_intake intake.own.place.unit)) (sym copies);
  each = All-nil (IsReceived intake);
  last = λ i j d less inside. absurd (omega (arith, inside));
  over = All-nil (IsOver intake);
  begun = All-nil (λ (receipt : Receipt). receipt.session ≤ intake.queue.last_session);
  waits = subst (λ (o : Option Arrival). IfSome o (λ arrival. slice_get (of_session intake.queue.last_session intake.queue.taken) arrival.number ≡ Some arrival.entry)) (sym none) tt;
  idle = λ ended. none;
}
