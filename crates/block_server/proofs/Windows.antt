-- What copies, reads and writes leave of a unit's site.
use Rattle.std.proofs.Common.{◌≡◌, ◌⊎◌, ℕ, ◌≤◌, ◌++◌, List, [], ◌∷◌, inl, inr, Bool, true, false, Option, Some, None, Result, Ok, Err, OnOk, OnErr, length, refl, sym, ◌∙◌, ap, subst, arith, append-nil}
use Rattle.page_slots.specs.Stroke.{StrokeValue}
use Rattle.page_slots.specs.declared.stroke.StrokeName.{StrokeName}
use Rattle.tce_window.specs.declared.piece.Piece.{Piece}
use Rattle.tce_window.specs.declared.answers.OwnFault.{OwnFault}
use Rattle.tce_window.specs.Moved.{IsLaid, strokes_on}
use Rattle.tce_window.specs.Pieces.{IsUsable}
use Rattle.tce_window.specs.Port.{Grows, IsWritten, Later}
use Rattle.tce_window.specs.PortState.{PortPlace, PortState, LaysNone, OnlyReads, OnlyWrites, Writes}
use Rattle.tce_window.specs.Region.{touches, stroke_on, written}
use Rattle.tce_window.specs.Strokes.{with_strokes}
use Rattle.rdma_copy.specs.declared.copy.CopyRecord.{CopyRecord}
use Rattle.rdma_copy.specs.declared.copy.CopyAnswer.{CopyAnswer}
use Rattle.rdma_copy.specs.declared.copy.CopyAnswer.TheVariants as copies
use Rattle.vio_num.specs.Counts.{Rose}
use Rattle.tce_window.specs.declared.answers.Right.TheVariants.{Read, Write}
use Rattle.rdma_copy.specs.Answers.{CountsCopy, IfBusy, IfCopied, IsBusySide, OnHeld, OnRefused}
use Rattle.rdma_copy.specs.Copies.{Copies, MayHold, OnlyCopies, side_of}
use Rattle.rdma_copy.specs.Copy.{SideGrows}
use Rattle.rdma_copy.proofs.Laws.{later_begins, learns_grows}
use Rattle.crq_session.specs.EndState.{EndState}
use Rattle.block_server.specs.Advances.{Advances, CopiesMore, StayNamed}
use Rattle.block_server.specs.Copied.{IsBusy, IsMade, copies_in}
use Rattle.block_server.specs.Ready.{FindsUse}
use Rattle.block_server.specs.Makers.{AreNamed}
use Rattle.block_server.specs.OwnerStrokes.{LaysNoneOfOwner}
use Rattle.block_server.specs.SiteState.{Lenders, site}
use Rattle.block_server.proofs.Advancing.{begins_on, begins_same, copies_none, copies_one, now_none, puts_none}

-- a page grew on which strokes were laid behind what it had
with_more : (shared : Bool) (old before : Option (List StrokeValue)) (more : List StrokeValue) → Grows shared old before → Grows true old (with_strokes before more)
with_more shared (Some old) (Some before) more grown = begins_on old before (before ++ more) (later_begins shared old before grown) (more, refl)
with_more shared (Some old) None more grown = absurd grown
with_more shared None (Some before) more grown = absurd grown
with_more shared None None more grown = tt

laid_grows : (shared : Bool) (p : ℕ) (pieces : List Piece) (strokes : List StrokeValue) (old new : Option (List StrokeValue))
    → IsLaid shared p pieces strokes old new → Grows true old new
laid_grows shared p pieces strokes old new laid =
    subst (Grows true old) (sym laid.laid) (with_more shared old laid.before (strokes_on p pieces strokes) laid.grown)

written_grows : (shared : Bool) (name : StrokeName) (at : ℕ) (bytes : List ℕ) (p : ℕ) (old new : Option (List StrokeValue))
    → IsWritten shared name at bytes p old new → Grows true old new
written_grows shared name at bytes p old new is = subst (Grows true old) (sym is.laid) (by (touches at (length bytes) p) refl)
  where
    by : (b : Bool) → touches at (length bytes) p ≡ b → Grows true old (written name at bytes p is.before)
    by true e = rw e (with_more shared old is.before (stroke_on name at bytes p ∷ []) is.grown)
    by false e = rw e (learns_grows shared old is.before is.grown)

-- the side from which a copy reads, and the side to which it writes
pub source_grows : (shared : Bool) (old new : PortState) → LaysNone shared old new → OnlyCopies shared old new → SideGrows (side_of old) (side_of new)
source_grows shared old new none rest = record {
  unit = ap (λ place. place.unit) rest.place;
  values = λ e. later_begins shared (old.values e) (new.values e) (rest.values e);
  strokes = λ p. learns_grows shared (old.strokes p) (new.strokes p) (none.strokes p);
}

pub target_grows : (shared : Bool) (src old new : PortState) (from to len : ℕ) (name : StrokeName) (answer : CopyAnswer)
    → IfCopied answer (Copies shared src old new from to len name) → OnRefused answer (LaysNone shared old new)
    → OnlyCopies shared old new → SideGrows (side_of old) (side_of new)
target_grows shared src old new from to len name (copies.Copied copy) copied refused rest = record {
  unit = ap (λ place. place.unit) rest.place;
  values = λ e. later_begins shared (old.values e) (new.values e) (rest.values e);
  strokes = λ p. laid_grows shared p _ _ (old.strokes p) (new.strokes p) (copied.laid p);
}
target_grows shared src old new from to len name copies.Parameter copied refused rest = source_grows shared old new refused rest
target_grows shared src old new from to len name (copies.SourceParm fault) copied refused rest = source_grows shared old new refused rest
target_grows shared src old new from to len name (copies.DestParm fault) copied refused rest = source_grows shared old new refused rest
target_grows shared src old new from to len name (copies.Busy page word) copied refused rest = source_grows shared old new refused rest
target_grows shared src old new from to len name copies.NoMemory copied refused rest = source_grows shared old new refused rest

pub windows_move : (reached : Lenders) (queue : EndState) (own own' client client' : PortState) (shared : Bool) (copies copies' : List CopyRecord) → own'.place ≡ own.place → client'.place ≡ client.place
    → ((e : ℕ) → Later shared (client.values e) (client'.values e))
    → SideGrows (side_of own) (side_of own') → SideGrows (side_of client) (side_of client')
    → CopiesMore own' client' copies copies' → own.in_use ≤ own'.in_use → client.in_use ≤ client'.in_use
    → (shared ≡ false → LaysNoneOfOwner (side_of client) (side_of client'))
    → StayNamed shared client client' copies copies'
    → (AreNamed (side_of own) copies → AreNamed (side_of own') copies')
    → Advances (site reached queue own client shared copies) (site reached queue own' client' shared copies')
windows_move reached queue own own' client client' shared copies copies' own_place client_place values own_grows client_grows made own_uses client_uses owner named own_named = record {
  reached = refl;
  queue_place = refl;
  own_place = own_place;
  client_place = client_place;
  shared = refl;
  partner = λ plain. refl;
  now = λ plain. now_none queue queue refl;
  closed = omega arith;
  values = values;
  session = omega arith;
  opens = λ on. inl on;
  taken = begins_same queue.taken;
  put = puts_none queue.sent queue.sent refl;
  own = own_grows;
  client = client_grows;
  copies = made;
  own_in_use = own_uses;
  client_in_use = client_uses;
  owner = owner;
  named = named;
  own_named = own_named;
}

pub read_grows : (shared : Bool) (old new : PortState) → OnlyReads shared old new → SideGrows (side_of old) (side_of new)
read_grows shared old new rest = record {
  unit = ap (λ place. place.unit) rest.place;
  values = λ e. ([], ap (λ values. values e) rest.values ∙ sym (append-nil (old.values e)));
  strokes = λ p. learns_grows shared (old.strokes p) (new.strokes p) (rest.strokes p);
}

pub write_grows : (shared : Bool) (old new : PortState) (at : ℕ) (bytes : List ℕ) (mark : ℕ) (result : Result (Unit {0}) OwnFault)
    → OnOk result (Writes shared old at bytes mark new) → OnErr result (LaysNone shared old new) → OnlyWrites old new
    → SideGrows (side_of old) (side_of new)
write_grows shared old new at bytes mark (Ok done) wrote none rest = record {
  unit = ap (λ place. place.unit) rest.place;
  values = λ e. ([], ap (λ values. values e) rest.values ∙ sym (append-nil (old.values e)));
  strokes = λ p. written_grows shared _ at bytes p (old.strokes p) (new.strokes p) (wrote.strokes p);
}
write_grows shared old new at bytes mark (Err fault) wrote none rest = record {
  unit = ap (λ place. place.unit) rest.place;
  values = λ e. ([], ap (λ values. values e) rest.values ∙ sym (append-nil (old.values e)));
  strokes = λ p. learns_grows shared (old.strokes p) (new.strokes p) (none.strokes p);
}

-- what is added to the copies as one was made from the client's window to the unit's own, or from the own to the client's
pub fetched_more : (shared : Bool) (own own' client : PortState) (from to len : ℕ) (name : StrokeName) (answer : CopyAnswer)
    (old new : List CopyRecord) → name.who ≡ own.place.unit → own'.place ≡ own.place
    → IfCopied answer (Copies shared client own own' from to len name) → new ≡ old ++ copies_in answer → CopiesMore own' client old new
fetched_more shared own own' client from to len name (copies.Copied copy) old new who place copied made =
    copies_one own' client old new copy
    (record { who = ap (λ n. n.who) copied.name_is ∙ who ∙ sym (ap (λ p. p.unit) place); from = from; to = to; lawful = inl copied.lawful }) made
fetched_more shared own own' client from to len name copies.Parameter old new who place copied made = copies_none own' client old new (made ∙ append-nil old)
fetched_more shared own own' client from to len name (copies.SourceParm fault) old new who place copied made = copies_none own' client old new (made ∙ append-nil old)
fetched_more shared own own' client from to len name (copies.DestParm fault) old new who place copied made = copies_none own' client old new (made ∙ append-nil old)
fetched_more shared own own' client from to len name (copies.Busy page word) old new who place copied made = copies_none own' client old new (made ∙ append-nil old)
fetched_more shared own own' client from to len name copies.NoMemory old new who place copied made = copies_none own' client old new (made ∙ append-nil old)

pub delivered_more : (shared : Bool) (own client client' : PortState) (from to len : ℕ) (name : StrokeName) (answer : CopyAnswer)
    (old new : List CopyRecord) → name.who ≡ own.place.unit
    → IfCopied answer (Copies shared own client client' from to len name) → new ≡ old ++ copies_in answer → CopiesMore own client' old new
delivered_more shared own client client' from to len name (copies.Copied copy) old new who copied made =
    copies_one own client' old new copy (record { who = ap (λ n. n.who) copied.name_is ∙ who; from = from; to = to; lawful = inr copied.lawful }) made
delivered_more shared own client client' from to len name copies.Parameter old new who copied made = copies_none own client' old new (made ∙ append-nil old)
delivered_more shared own client client' from to len name (copies.SourceParm fault) old new who copied made = copies_none own client' old new (made ∙ append-nil old)
delivered_more shared own client client' from to len name (copies.DestParm fault) old new who copied made = copies_none own client' old new (made ∙ append-nil old)
delivered_more shared own client client' from to len name (copies.Busy page word) old new who copied made = copies_none own client' old new (made ∙ append-nil old)
delivered_more shared own client client' from to len name copies.NoMemory old new who copied made = copies_none own client' old new (made ∙ append-nil old)

either_rose : (a b c d : ℕ) → (Rose a b × (d ≡ c)) ⊎ ((b ≡ a) × Rose c d) → Rose a b ⊎ Rose c d
either_rose a b c d (inl counts) = inl counts.0
either_rose a b c d (inr counts) = inr counts.1

other_way : (A B : Type 0) → A ⊎ B → B ⊎ A
other_way A B (inl a) = inr a
other_way A B (inr b) = inl b

not_alone : (shared : Bool) (P : Type 0) → shared ≡ false → shared ≡ true → P
not_alone shared P alone is = absurd (cc (alone, is))

-- a copy from the client's window that found a page in use: others have a hand in that window
pub fetch_busy : (own_shared shared : Bool) (own own' client client' : PortState) (address at len : ℕ) (found own_found : ℕ → ℕ → Type 0) (answer : CopyAnswer)
    → own_shared ≡ false → IfBusy answer (λ page word. (1 ≤ len) × (len ≤ 65536) × MayHold client' Read address len
    × (IsBusySide shared client'.values address len page (found page word)
    ⊎ (IsBusySide own_shared own'.values at len page (own_found page word) × MayHold own' Write at len)))
    → CountsCopy answer client.in_use client'.in_use own.in_use own'.in_use → IsBusy answer → FindsUse shared own own' client client'
fetch_busy own_shared shared own own' client client' address at len found own_found (copies.Busy page word) alone busy counts is =
    record { shared_is = by busy.3; rose = other_way _ _ (either_rose client.in_use client'.in_use own.in_use own'.in_use counts) }
  where
    by : IsBusySide shared client'.values address len page (found page word)
        ⊎ (IsBusySide own_shared own'.values at len page (own_found page word) × MayHold own' Write at len) → shared ≡ true
    by (inl side) = side.shared
    by (inr (side, may)) = not_alone own_shared (shared ≡ true) alone side.shared
fetch_busy own_shared shared own own' client client' address at len found own_found (copies.Copied copy) alone busy counts is = absurd is
fetch_busy own_shared shared own own' client client' address at len found own_found copies.Parameter alone busy counts is = absurd is
fetch_busy own_shared shared own own' client client' address at len found own_found (copies.SourceParm fault) alone busy counts is = absurd is
fetch_busy own_shared shared own own' client client' address at len found own_found (copies.DestParm fault) alone busy counts is = absurd is
fetch_busy own_shared shared own own' client client' address at len found own_found copies.NoMemory alone busy counts is = absurd is

-- and one to it
pub deliver_busy : (own_shared shared : Bool) (own own' client client' : PortState) (address at len : ℕ) (found own_found : ℕ → ℕ → Type 0) (answer : CopyAnswer)
    → own_shared ≡ false → IfBusy answer (λ page word. (1 ≤ len) × (len ≤ 65536) × MayHold own' Read at len
    × (IsBusySide own_shared own'.values at len page (own_found page word)
    ⊎ (IsBusySide shared client'.values address len page (found page word) × MayHold client' Write address len)))
    → CountsCopy answer own.in_use own'.in_use client.in_use client'.in_use → IsBusy answer → FindsUse shared own own' client client'
deliver_busy own_shared shared own own' client client' address at len found own_found (copies.Busy page word) alone busy counts is =
    record { shared_is = by busy.3; rose = either_rose own.in_use own'.in_use client.in_use client'.in_use counts }
  where
    by : IsBusySide own_shared own'.values at len page (own_found page word)
        ⊎ (IsBusySide shared client'.values address len page (found page word) × MayHold client' Write address len) → shared ≡ true
    by (inl side) = not_alone own_shared (shared ≡ true) alone side.shared
    by (inr (side, may)) = side.shared
deliver_busy own_shared shared own own' client client' address at len found own_found (copies.Copied copy) alone busy counts is = absurd is
deliver_busy own_shared shared own own' client client' address at len found own_found copies.Parameter alone busy counts is = absurd is
deliver_busy own_shared shared own own' client client' address at len found own_found (copies.SourceParm fault) alone busy counts is = absurd is
deliver_busy own_shared shared own own' client client' address at len found own_found (copies.DestParm fault) alone busy counts is = absurd is
deliver_busy own_shared shared own own' client client' address at len found own_found copies.NoMemory alone busy counts is = absurd is

-- A copy was made, so its target's range could be held; and where nobody else has a hand in that window, as it was before.
pub held_before : {T E : Type 0} (shared : Bool) (source target target' : PortState) (from address len : ℕ) (answer : CopyAnswer) (result : Result T E) → 1 ≤ len → OnOk result (IsMade answer)
    → OnHeld answer (1 ≤ len → MayHold source Read from len × MayHold target' Write address len) → OnlyCopies shared target target' → OnOk result (shared ≡ false → MayHold target Write address len)
held_before shared source target target' from address len answer (Err halt) some made held only = tt
held_before shared source target target' from address len answer (Ok done) some made held only = λ alone.
    let same = subst (λ (b : Bool). (e : ℕ) → Later b (target.values e) (target'.values e)) alone only.values in
    subst (λ (z : PortPlace × (ℕ → List ℕ)). IsUsable z.1 Write z.0.size address len) (λ i. (only.place i, λ e. same e i)) (by answer made held)
  where
    by : (a : CopyAnswer) → IsMade a → OnHeld a (1 ≤ len → MayHold source Read from len × MayHold target' Write address len) → MayHold target' Write address len
    by (copies.Copied copy) made held = (held some).1
    by copies.Parameter made held = absurd made
    by (copies.SourceParm fault) made held = absurd made
    by (copies.DestParm fault) made held = absurd made
    by (copies.Busy page word) made held = absurd made
    by copies.NoMemory made held = absurd made
