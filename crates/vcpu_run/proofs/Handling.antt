-- Entries that a client is done with, one after the other.
use Rattle.std.proofs.Common.{◌≡◌, ◌∙◌, ◌⊎◌, inl, inr, ℕ, ◌+◌, ◌≤◌, ◌<◌, Bool, false, IfOk, IsSome, IsSomeAnd, List, [], ◌∷◌, Option, Some, None, Result, Ok, Err, length, length-append, refl, sym, ap, subst, arith}
use Rattle.std.proofs.lemmas.Bool.Decides.{nat_tests}
use Rattle.std.specs.Borrow.{GName}
use Rattle.page_slots.specs.Stroke.{StrokeValue}
use Rattle.vio_num.specs.declared.entry.Entry.{Entry}
use Rattle.vio_num.specs.declared.hypervisor.Moved.{Moved}
use Rattle.vio_num.specs.declared.hypervisor.Moved.TheVariants as moves
use Rattle.vio_num.specs.declared.memory.NoMemory.{NoMemory}
use Rattle.crq_ring.specs.declared.rows.PipeRow.{PipeRow}
use Rattle.crq_session.specs.Answered.{FindsNone}
use Rattle.crq_session.specs.EndState.{EndState, OnlyReserves}
use Rattle.crq_session.specs.PlainState.{end_of, side_of}
use Rattle.crq_session.specs.declared.link.PlainLink.{PlainLink}
use Rattle.tce_window.specs.PortState.{FindsInUse, PortPlace, PortState}
use Rattle.tce_window.specs.PlainPort.{known_of}
use Rattle.unit_region.specs.Kept.{KeepsWindow, LaysOwnOn}
use Rattle.vscsi_client.specs.Slots.{IsSlotInUse}
use Rattle.vscsi_client.specs.State.{ClientState}
use Rattle.vscsi_client.specs.Taking.{Fetches, FetchesNone, IsNext, Judges, JudgesFirst, TakesAs, TakesEntry, slot_of, taken_by}
use Rattle.vscsi_client.specs.Units.{slot_address}
use Rattle.vscsi_client.specs.declared.answers.Taken.{Taken}
use Rattle.vscsi_client.specs.declared.answers.Taken.TheVariants.{Again, Answer, Empty, Lost, Other, Stray}
use Rattle.vcpu_run.specs.Acts.{Acting, TakesOnce, acting, took_as}
use Rattle.vcpu_run.specs.Moves.{Handles, HandlesBy, HasRegion, PagesThere, PairHandlesBy, kept_in}
use Rattle.vcpu_run.specs.declared.driver.Driver.{Driver}
use Rattle.vcpu_run.specs.declared.pair.Pair.{Pair}
use Rattle.vcpu_run.specs.declared.taking.Took.{Took}
use Rattle.vcpu_run.specs.declared.taking.Took.TheVariants as tooks

-- ---- one entry

-- how many entries a client is done with that took this
abbrev handled : Took → ℕ
handled tooks.Answer = 1
handled tooks.Other = 1
handled tooks.Lost = 1
handled _ = 0

pub one_handled : (took : Took) → (took ≡ tooks.Answer) ⊎ ((took ≡ tooks.Other) ⊎ (took ≡ tooks.Lost)) → handled took ≡ 1
one_handled took (inl is) = ap handled is
one_handled took (inr (inl is)) = ap handled is
one_handled took (inr (inr is)) = ap handled is

abbrev done_with : Taken → ℕ
done_with (Again page word) = 0
done_with (Empty number) = 0
done_with taken = 1

handled_as : (taken : Taken) → handled (took_as taken) ≡ done_with taken
handled_as (Answer tag response) = refl
handled_as (Stray tag) = refl
handled_as Other = refl
handled_as Lost = refl
handled_as (Again page word) = refl
handled_as (Empty number) = refl

-- the entry is kept, whether it was before or was taken from the queue
fetch_keeps : (shared : Bool) (s s' : ClientState) (old new : EndState) → Fetches shared s s' old new → length old.taken + length s'.kept ≤ length new.taken + length s.kept
fetch_keeps shared s s' old new fetched = by s.kept refl fetched.next
  where
    kept_is : s'.kept ≡ fetched.entry ∷ fetched.rest
    kept_is = ap (λ (t : ClientState). t.kept) fetched.client

    by : (kept : List Entry) → s.kept ≡ kept → IsNext kept shared old fetched.entry fetched.rest new → length old.taken + length s'.kept ≤ length new.taken + length s.kept
    by [] is (none, polls) =
        let more : length new.taken ≡ length polls.room.taken + 1 =
        ap (λ (rows : List PipeRow). length rows) polls.taken.taken ∙ length-append polls.room.taken (record { session = polls.room.last_session; entry = fetched.entry } ∷ []) in
        omega (
          arith,
          more,
          ap (λ (rows : List PipeRow). length rows) polls.ready.taken,
          ap (λ (list : List Entry). length list) is,
          ap (λ (list : List Entry). length list) kept_is,
          ap (λ (list : List Entry). length list) none,
        )
    by (first ∷ more) is (same, others, still) =
        omega (
          arith,
          ap (λ (list : List Entry). length list) is,
          ap (λ (list : List Entry). length list) kept_is,
          ap (λ (list : List Entry). length list) others,
          ap (λ (end : EndState). length end.taken) still,
        )

-- of the entries that are kept there is one less, or none
judge_drops : (shared : Bool) (s s' : ClientState) (old new : PortState) (taken : Taken) → JudgesFirst shared s s' old new taken → length s'.kept + done_with taken ≤ length s.kept
judge_drops shared s s' old new taken judged = by taken judged.judged (ap (λ (t : ClientState). t.kept) judged.client)
  where
    rest : ClientState
    rest = record s { kept = judged.rest }

    first : length s.kept ≡ length judged.rest + 1
    first = omega (arith, ap (λ (list : List Entry). length list) judged.first)

    by : (t : Taken) → Judges shared s.outgoing judged.entry old new t → s'.kept ≡ (taken_by judged.entry t rest).kept → length s'.kept + done_with t ≤ length s.kept
    by (Answer tag response) judges is = omega (arith, first, ap (λ (list : List Entry). length list) is)
    by (Stray tag) judges is = omega (arith, first, ap (λ (list : List Entry). length list) is)
    by Other judges is = omega (arith, first, ap (λ (list : List Entry). length list) is)
    by Lost judges is = omega (arith, first, ap (λ (list : List Entry). length list) is)
    by (Again page word) judges is = omega (arith, first, ap (λ (list : List Entry). length list) is)
    by (Empty number) judges is = absurd judges

-- none is there: nothing was taken
none_handled : (shared : Bool) (s s' : ClientState) (old new : EndState) (number : ℕ) → FetchesNone shared s s' old new number
    → length old.taken + length s'.kept + 0 ≤ length new.taken + length s.kept
none_handled shared s s' old new number none =
    omega (arith, ap (λ (rows : List PipeRow). length rows) (same none.none.none ∙ none.none.ready.taken), ap (λ (t : ClientState). length t.kept) none.client)
  where
    same : FindsNone shared none.none.room new number ⊎ ((none.none.room.registered ≡ false) × (number ≡ 0) × OnlyReserves none.none.room new) → new.taken ≡ none.none.room.taken
    same (inl found) = found.taken
    same (inr (off, at, ready)) = ready.taken

pub takes_handle : (took : Took) (old new : Acting) → TakesOnce took old new → Handles (handled took) old new
takes_handle took old new once = subst (λ (n : ℕ). Handles n old new) (sym (ap handled once.is ∙ handled_as once.taken)) (by once.taken once.takes)
  where
    taken : (t : Taken) → TakesAs old.client new.client old.ports new.ports t → Handles (done_with t) old new
    taken t takes =
        let fetch = fetch_keeps old.ports.crq_shared old.client takes.kept old.ports.crq new.ports.crq takes.fetched in
        let judge = judge_drops old.ports.own_shared takes.kept new.client old.ports.own new.ports.own t takes.judged in omega (arith, fetch, judge)

    by : (t : Taken) → TakesEntry old.client new.client old.ports new.ports t → Handles (done_with t) old new
    by (Answer tag response) takes = taken (Answer tag response) takes
    by (Stray tag) takes = taken (Stray tag) takes
    by Other takes = taken Other takes
    by Lost takes = taken Lost takes
    by (Again page word) takes = taken (Again page word) takes
    by (Empty number) takes = none_handled old.ports.crq_shared old.client new.client old.ports.crq new.ports.crq number takes.fetched

-- ---- no page of the region is in use

page_none : (window : PortState) (at page : ℕ) → PagesThere window → FindsInUse false window at 256 page → ⊥
page_none window at page there found = away (window.strokes page) (found.away refl) (there page inside)
  where
    inside : page < window.place.size
    inside = grind (arith, nat_tests, found.inside, found.below)

    away : (o : Option (List StrokeValue)) → o ≡ None → IsSome o → ⊥
    away None e some = absurd (cc (some))
    away (Some strokes) e some = absurd (cc (e))

pub not_in_use : (old new : Acting) → TakesOnce tooks.InUse old new → HasRegion old → ⊥
not_in_use old new once region = by once.taken once.is once.takes
  where
    none : (o : Option ℕ) (page : ℕ) → IsSomeAnd o (λ slot. IsSlotInUse old.ports.own_shared slot old.ports.own new.ports.own page) → ⊥
    none None page used = absurd used
    none (Some slot) page used =
        page_none old.ports.own (slot_address slot) page region.there (subst (λ (b : Bool). FindsInUse b old.ports.own (slot_address slot) 256 page) region.alone used.in_use)

    by : (t : Taken) → tooks.InUse ≡ took_as t → TakesEntry old.client new.client old.ports new.ports t → ⊥
    by (Answer tag response) is takes = absurd (cc (is))
    by (Stray tag) is takes = absurd (cc (is))
    by Other is takes = absurd (cc (is))
    by Lost is takes = absurd (cc (is))
    by (Again page word) is takes = none (slot_of takes.judged.entry.low takes.kept.outgoing) page takes.judged.judged.1
    by (Empty number) is takes = absurd (cc (is))

pub region_kept : (old new : Acting) → new.ports.own_shared ≡ old.ports.own_shared → KeepsWindow old.ports.own_shared old.ports.own new.ports.own → HasRegion old → HasRegion new
region_kept old new same keeps region = record {
  alone = same ∙ region.alone;
  there = λ p less. some (old.ports.own.strokes p) (new.ports.own.strokes p) (keeps.own region.alone p)
      (region.there p (subst (λ (place : PortPlace). p < place.size) keeps.place less));
}
  where
    some : (o o' : Option (List StrokeValue)) → LaysOwnOn old.ports.own.place.unit o o' → IsSome o → IsSome o'
    some (Some strokes) (Some strokes') lays there = refl
    some (Some strokes) None lays there = absurd lays
    some None o' lays there = absurd (cc (there))

-- ---- one after the other

-- What was taken so far: each of so many entries was handled.
pub record HandlingSo (moved : Moved) (often : ℕ) (old new : Acting) : Type 0 where
  pub each : Handles often old new
  pub some : moved ≡ moves.Moved → 0 < often
  pub first : moved ≡ moves.Quiet → often ≡ 0

pub handling_none : (old : Acting) → HandlingSo moves.Quiet 0 old old
handling_none old = record { each = omega (arith); some = λ is. absurd (cc (is)); first = λ is. refl }

handles_then : (m n : ℕ) (old middle new : Acting) → Handles m old middle → Handles n middle new → Handles (m + n) old new
handles_then m n old middle new first next = omega (arith, first, next)

pub handling_more : (moved : Moved) (often : ℕ) (took : Took) (old middle new : Acting) → handled took ≡ 1 → HandlingSo moved often old middle → TakesOnce took middle new
    → HandlingSo moves.Moved (often + 1) old new
handling_more moved often took old middle new one far takes = record {
  each = handles_then often 1 old middle new far.each (subst (λ (n : ℕ). Handles n middle new) one (takes_handle took middle new takes));
  some = λ is. omega (arith);
  first = λ is. absurd (cc (is));
}

-- none is there any more
pub handled_all : (moved : Moved) (often : ℕ) (old middle new : Acting) → HandlingSo moved often old middle → TakesOnce tooks.Nothing middle new → HandlesBy moved old new
handled_all moved often old middle new far takes =
    let each = handles_then often 0 old middle new far.each (takes_handle tooks.Nothing middle new takes) in record {
      none = omega (arith, each);
      one = λ is region. let some = far.some is in omega (arith, each, some);
    }

-- a page is in use, of a region that lacks one
pub handled_used : (moved moved' : Moved) (often : ℕ) (old middle new : Acting) → HandlingSo moved often old middle → TakesOnce tooks.InUse middle new
    → middle.ports.own_shared ≡ old.ports.own_shared → KeepsWindow old.ports.own_shared old.ports.own middle.ports.own → HandlesBy moved' old new
handled_used moved moved' often old middle new far takes same keeps =
    let each = handles_then often 0 old middle new far.each (takes_handle tooks.InUse middle new takes) in record {
      none = omega (arith, each);
      one = λ is region. absurd (not_in_use middle new takes (region_kept old middle same keeps region));
    }

-- as many as the queue has slots
pub handled_slots : (moved moved' : Moved) (often : ℕ) (old new : Acting) → 0 < often → HandlingSo moved often old new → HandlesBy moved' old new
handled_slots moved moved' often old new some far = record {
  none = omega (arith, far.each);
  one = λ is region. omega (arith, far.each, some);
}

-- ---- at its pair

handles_pair : (moved : Moved) (f g : Bool) (x y : List GName) (lent : PlainLink) (old new : Pair) (a b : Driver) → old.driver ≡ Some a → new.driver ≡ Some b
    → lent ≡ old.link → f ≡ false → g ≡ false
    → HandlesBy moved (acting a false (end_of x lent f) false (known_of old.window)) (acting b false (end_of y new.link g) false (known_of new.window)) → PairHandlesBy moved old new
handles_pair moved f g x y lent old new a b was there same first next by =
    let old_taken = ap (λ (l : PlainLink). length (side_of l false).queue.taken) same in
    let old_side = ap (λ (d : Bool). length (end_of x lent d).taken) first in
    let new_side = ap (λ (d : Bool). length (end_of y new.link d).taken) next in
    let kept = ap kept_in was in
    let kept' = ap kept_in there in record {
      none = omega (arith, by.none, old_taken, old_side, new_side, kept, kept');
      one = λ is pages. let one = by.one is (record { alone = refl; there = pages }) in omega (arith, one, old_taken, old_side, new_side, kept, kept');
    }

pub pair_handles : (result : Result Moved NoMemory) (f g : Bool) (x y : List GName) (lent : PlainLink) (old new : Pair) (a b : Driver) → old.driver ≡ Some a → new.driver ≡ Some b
    → lent ≡ old.link → f ≡ false → g ≡ false
    → IfOk result (λ moved. HandlesBy moved (acting a false (end_of x lent f) false (known_of old.window)) (acting b false (end_of y new.link g) false (known_of new.window)))
    → IfOk result (λ moved. PairHandlesBy moved old new)
pair_handles (Ok moved) f g x y lent old new a b was there same first next by = handles_pair moved f g x y lent old new a b was there same first next by
pair_handles (Err memory) f g x y lent old new a b was there same first next by = tt
