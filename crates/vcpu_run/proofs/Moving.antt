-- That one of many pairs, or ports, moved: what was done at it before or behind does not undo that.
use Rattle.std.proofs.Common.{◌≡◌, ◌≢◌, ◌∙◌, ◌⊎◌, inl, inr, ℕ, ◌<◌, ◌≤◌, Bool, false, IfOk, IsSome, IsSomeAnd, List, OnOk, Option, Some, None, Result, Ok, Err, get_or, length, slice_get, slice_set, refl, sym, ap, subst, arith}
use Rattle.std.specs.Borrow.{GName}
use Rattle.std.proofs.lemmas.Option.{slice_get_cases, slice_get_within}
use Rattle.page_slots.specs.Stroke.{StrokeValue}
use Rattle.vio_num.specs.declared.entry.Entry.{Entry}
use Rattle.vio_num.specs.declared.hypervisor.Moved.{Moved}
use Rattle.vio_num.specs.declared.hypervisor.Moved.TheVariants as moves
use Rattle.vio_num.specs.declared.memory.NoMemory.{NoMemory}
use Rattle.vio_num.specs.declared.names.UnitId.{UnitId}
use Rattle.crq_session.specs.EndState.{EndState, OnlyReserves}
use Rattle.crq_session.specs.PlainState.{end_of, side_of}
use Rattle.crq_session.specs.declared.link.PlainLink.{PlainLink}
use Rattle.tce_window.specs.Window.{strokes_at}
use Rattle.unit_region.specs.Kept.{LaysOwnOn}
use Rattle.lan_script.specs.Resting.{OnMoved}
use Rattle.lan_script.specs.Units.{LanValue}
use Rattle.vcpu_run.specs.Links.{EventStays}
use Rattle.vcpu_run.specs.Moves.{AllPagesThere, EachPair, EventGoes, EventMoves, EventsMove, PairHandles, PairHandlesBy, PairPagesThere, PairsHandle, ReadsMore, SeatHandles, SeatsHandle, SomePair, SomePortReads}
use Rattle.vcpu_run.specs.Pairs.{AreDriven, Drives}
use Rattle.vcpu_run.specs.Ports.{unit_of}
use Rattle.vcpu_run.specs.PortSteps.{AllTake}
use Rattle.vcpu_run.specs.declared.pair.Pair.{Pair}
use Rattle.vcpu_run.proofs.Driving.{get_set_other, get_set_same, same_or, some_is}
use Rattle.vcpu_run.proofs.PortTelling.{idle_takes}
use Rattle.vcpu_run.proofs.PortTurns.{idle_same, takes_on}

-- ---- each pair

pub each_same : (R : Pair → Pair → Type 0) (pairs : List Pair) → ((pair : Pair) → R pair pair) → EachPair R pairs pairs
each_same R pairs same k before after was now = subst (R before) (some_is before after (sym was ∙ now)) (same before)

pub each_on : (R : Pair → Pair → Type 0) (a b c : List Pair) → ((x y z : Pair) → R x y → R y z → R x z) → AreDriven a b → EachPair R a b → EachPair R b c → EachPair R a c
each_on R a b c trans driven first next k before after was now = by (slice_get b k) refl (driven.each k before was)
  where
    by : (o : Option Pair) → slice_get b k ≡ o → IsSomeAnd o (Drives before) → R before after
    by None e there = absurd there
    by (Some mid) e there = trans before mid after (first k before mid was e) (next k mid after e now)

each_set : (R : Pair → Pair → Type 0) (pairs : List Pair) (i : ℕ) (old new : Pair) → ((pair : Pair) → R pair pair) → slice_get pairs i ≡ Some old → R old new
    → EachPair R pairs (slice_set pairs i new)
each_set R pairs i old new same here is k before after was now = by (same_or k i)
  where
    by : (k ≡ i) ⊎ (k ≢ i) → R before after
    by (inl e) =
        let first : before ≡ old = some_is before old (sym was ∙ (ap (slice_get pairs) e ∙ here)) in
        let next : after ≡ new =
        some_is after new (sym now ∙ (ap (slice_get (slice_set pairs i new)) e ∙ get_set_same pairs i new (slice_get_within pairs i old here))) in
        subst (R before) (sym next) (subst (λ (x : Pair). R x new) (sym first) is)
    by (inr apart) = each_same R pairs same k before after was (sym (get_set_other pairs i k new apart) ∙ now)

pub each_ok : {T E : Type 0} (R : Pair → Pair → Type 0) (r : Result T E) (pairs : List Pair) (i : ℕ) (old new : Pair) → ((pair : Pair) → R pair pair) → slice_get pairs i ≡ Some old
    → OnOk r (R old new) → OnOk r (EachPair R pairs (slice_set pairs i new))
each_ok R (Ok t) pairs i old new same here is = each_set R pairs i old new same here is
each_ok R (Err e) pairs i old new same here is = tt

-- ---- one of them

some_set : (R : Pair → Pair → Type 0) (pairs : List Pair) (i : ℕ) (old new : Pair) → slice_get pairs i ≡ Some old → R old new → SomePair R pairs (slice_set pairs i new)
some_set R pairs i old new here is = record {
  k = i;
  before = old;
  after = new;
  there = here;
  here = get_set_same pairs i new (slice_get_within pairs i old here);
  is = is;
}

-- what was done behind
some_first : (R S : Pair → Pair → Type 0) (a b c : List Pair) → ((x y z : Pair) → R x y → S y z → R x z) → AreDriven b c → SomePair R a b → EachPair S b c → SomePair R a c
some_first R S a b c more driven one each = by (slice_get c one.k) refl (driven.each one.k one.after one.here)
  where
    by : (o : Option Pair) → slice_get c one.k ≡ o → IsSomeAnd o (Drives one.after) → SomePair R a c
    by None e there = absurd there
    by (Some last) e there = record {
      k = one.k;
      before = one.before;
      after = last;
      there = one.there;
      here = e;
      is = more one.before one.after last one.is (each one.k one.after last one.here e);
    }

-- what was done before
some_next : (R S : Pair → Pair → Type 0) (a b c : List Pair) → ((x y z : Pair) → S x y → R y z → R x z) → AreDriven a b → EachPair S a b → SomePair R b c → SomePair R a c
some_next R S a b c more driven each one = by (slice_get_cases a one.k).1
  where
    less : one.k < length a
    less = omega (arith, slice_get_within b one.k one.before one.there, driven.count)

    by : ((x : Pair) × (one.k < length a) × (slice_get a one.k ≡ Some x) × (get_or a one.k x ≡ x)) ⊎ ((length a ≤ one.k) × (slice_get a one.k ≡ None)) → SomePair R a c
    by (inl (first, inside, there, found)) = record {
      k = one.k;
      before = first;
      after = one.after;
      there = there;
      here = one.here;
      is = more first one.before one.after (each one.k first one.before there one.there) one.is;
    }
    by (inr (past, none)) = absurd (omega (arith, past, less))

-- ---- events

stays_same : (pair : Pair) → EventStays pair pair
stays_same pair = inl refl

stays_then : (a b c : Pair) → EventStays a b → EventStays b c → EventStays a c
stays_then a b c first (inr none) = inr none
stays_then a b c (inl same) (inl same') = inl (same' ∙ same)
stays_then a b c (inr none) (inl same') = inr (same' ∙ none)

goes_first : (a b c : Pair) → EventGoes a b → EventStays b c → EventGoes a c
goes_first a b c goes (inl same) = record { some = goes.some; gone = same ∙ goes.gone }
goes_first a b c goes (inr none) = record { some = goes.some; gone = none }

goes_next : (a b c : Pair) → EventStays a b → EventGoes b c → EventGoes a c
goes_next a b c (inl same) goes = record { some = subst (λ (o : Option Entry). IsSome o) same goes.some; gone = goes.gone }
goes_next a b c (inr none) goes = absurd (cc (goes.some, none))

pub event_set : (result : Result Moved NoMemory) (pairs : List Pair) (i : ℕ) (old new : Pair) → slice_get pairs i ≡ Some old → IfOk result (λ moved. EventMoves moved old new)
    → IfOk result (λ moved. EventsMove moved pairs (slice_set pairs i new))
event_set (Ok moved) pairs i old new here is = record {
  stay = each_set EventStays pairs i old new stays_same here is.stays;
  goes = λ did. some_set EventGoes pairs i old new here (is.goes did);
}
event_set (Err memory) pairs i old new here is = tt

pub events_same : (pairs : List Pair) → EventsMove moves.Quiet pairs pairs
events_same pairs = record { stay = each_same EventStays pairs stays_same; goes = λ did. absurd (cc (did)) }

pub events_on : (one other moved : Moved) (a b c : List Pair) → (moved ≡ moves.Moved → (one ≡ moves.Moved) ⊎ (other ≡ moves.Moved)) → AreDriven a b → AreDriven b c
    → EventsMove one a b → EventsMove other b c → EventsMove moved a c
events_on one other moved a b c either driven driven' first next = record {
  stay = each_on EventStays a b c stays_then driven first.stay next.stay;
  goes = λ did. by (either did);
}
  where
    by : (one ≡ moves.Moved) ⊎ (other ≡ moves.Moved) → SomePair EventGoes a c
    by (inl did) = some_first EventGoes EventStays a b c goes_first driven' (first.goes did) next.stay
    by (inr did) = some_next EventGoes EventStays a b c goes_next driven first.stay (next.goes did)

-- ---- entries

handles_same : (pair : Pair) → PairHandles 0 pair pair
handles_same pair = omega (arith)

handles_then : (a b c : Pair) → PairHandles 0 a b → PairHandles 0 b c → PairHandles 0 a c
handles_then a b c first next = omega (arith, first, next)

handles_first : (a b c : Pair) → PairHandles 1 a b → PairHandles 0 b c → PairHandles 1 a c
handles_first a b c first next = omega (arith, first, next)

handles_next : (a b c : Pair) → PairHandles 0 a b → PairHandles 1 b c → PairHandles 1 a c
handles_next a b c first next = omega (arith, first, next)

pages_kept : (old new : Pair) → Drives old new → PairPagesThere old → PairPagesThere new
pages_kept old new drives there p less =
    some (strokes_at old.window.pages p) (strokes_at new.window.pages p) (drives.laid p) (there p (omega (arith, less, drives.pages)))
  where
    some : (o o' : Option (List StrokeValue)) → LaysOwnOn old.window.unit o o' → IsSome o → IsSome o'
    some (Some strokes) (Some strokes') lays is = refl
    some (Some strokes) None lays is = absurd lays
    some None o' lays is = absurd (cc (is))

pub pages_on : (old new : List Pair) → AreDriven old new → AllPagesThere old → AllPagesThere new
pages_on old new driven there k pair found = by (slice_get_cases old k).1
  where
    less : k < length old
    less = omega (arith, slice_get_within new k pair found, driven.count)

    drives : (o : Option Pair) (first : Pair) → o ≡ Some pair → IsSomeAnd o (Drives first) → Drives first pair
    drives None first is h = absurd h
    drives (Some x) first is h = subst (Drives first) (some_is x pair is) h

    by : ((x : Pair) × (k < length old) × (slice_get old k ≡ Some x) × (get_or old k x ≡ x)) ⊎ ((length old ≤ k) × (slice_get old k ≡ None)) → PairPagesThere pair
    by (inl (first, inside, here, is)) = pages_kept first pair (drives (slice_get new k) first found (driven.each k first here)) (there k first here)
    by (inr (past, none)) = absurd (omega (arith, past, less))

pub handles_set : (result : Result Moved NoMemory) (pairs : List Pair) (i : ℕ) (old new : Pair) → slice_get pairs i ≡ Some old → IfOk result (λ moved. PairHandlesBy moved old new)
    → IfOk result (λ moved. PairsHandle moved pairs (slice_set pairs i new))
handles_set (Ok moved) pairs i old new here is = record {
  none = each_set (PairHandles 0) pairs i old new handles_same here is.none;
  one = λ did there. some_set (PairHandles 1) pairs i old new here (is.one did (there i old here));
}
handles_set (Err memory) pairs i old new here is = tt

-- ---- entries of what sits at the places of a partition

-- a client
pub client_handles : (result : Result Moved NoMemory) (unit : UnitId) (old new : List Pair) (lan : LanValue) → IfOk result (λ moved. PairsHandle moved old new)
    → IfOk result (λ moved. SeatHandles moved unit old new lan lan)
client_handles (Ok moved) unit old new lan is = record { none = is.none; one = λ did there. inl (is.one did there) }
client_handles (Err memory) unit old new lan is = tt

-- a port
pub port_handles : (result : Result Moved NoMemory) (unit : UnitId) (pairs : List Pair) (lan lan' : LanValue) → IfOk result (λ moved. OnMoved unit moved lan lan')
    → IfOk result (λ moved. SeatHandles moved unit pairs pairs lan lan')
port_handles (Ok moved) unit pairs lan lan' is = record { none = each_same (PairHandles 0) pairs handles_same; one = λ did there. inr (is did) }
port_handles (Err memory) unit pairs lan lan' is = tt

-- a server unit
pub server_handles : (unit : UnitId) (pairs : List Pair) (lan : LanValue) → SeatHandles moves.Quiet unit pairs pairs lan lan
server_handles unit pairs lan = record { none = each_same (PairHandles 0) pairs handles_same; one = λ did there. absurd (cc (did)) }

pub seats_none : (partition : ℕ) (pairs : List Pair) (lan : LanValue) → SeatsHandle moves.Quiet partition pairs pairs lan lan
seats_none partition pairs lan = record { none = each_same (PairHandles 0) pairs handles_same; one = λ did there. absurd (cc (did)) }

pub seats_on : (one other moved : Moved) (partition u : ℕ) (a b c : List Pair) (x y z : LanValue) → (moved ≡ moves.Moved → (one ≡ moves.Moved) ⊎ (other ≡ moves.Moved))
    → AreDriven a b → AreDriven b c → AllTake partition x y → AllTake partition y z → SeatsHandle one partition a b x y
    → SeatHandles other (unit_of partition u) b c y z → SeatsHandle moved partition a c x z
seats_on one other moved partition u a b c x y z either driven driven' takes takes' first next = record {
  none = each_on (PairHandles 0) a b c handles_then driven first.none next.none;
  one = λ did there. by there (either did);
}
  where
    before : SomePair (PairHandles 1) a b ⊎ SomePortReads partition x y → SomePair (PairHandles 1) a c ⊎ SomePortReads partition x z
    before (inl some) = inl (some_first (PairHandles 1) (PairHandles 0) a b c handles_first driven' some next.none)
    before (inr port) = inr (record {
      unit = port.unit;
      before = port.before;
      after = port.after;
      first = port.first;
      reads = port.reads;
      next = takes_on partition port.after y z port.next takes';
    })

    behind : SomePair (PairHandles 1) b c ⊎ ReadsMore (unit_of partition u) y z → SomePair (PairHandles 1) a c ⊎ SomePortReads partition x z
    behind (inl some) = inl (some_next (PairHandles 1) (PairHandles 0) a b c handles_next driven first.none some)
    behind (inr reads) = inr (record { unit = u; before = y; after = z; first = takes; reads = reads; next = λ n. idle_takes z z (unit_of partition n) (idle_same z (unit_of partition n)) })

    by : AllPagesThere a → (one ≡ moves.Moved) ⊎ (other ≡ moves.Moved) → SomePair (PairHandles 1) a c ⊎ SomePortReads partition x z
    by there (inl did) = before (first.one did there)
    by there (inr did) = behind (next.one did (pages_on a b driven there))

-- ---- an event at its pair

-- the event that was kept stays or is gone; and where something moved, one was kept
abbrev EventAfter : Moved → (old new : Option Entry) → Type 0
EventAfter moved old new = ((new ≡ old) ⊎ (new ≡ None)) × (moved ≡ moves.Moved → IsSome old × (new ≡ None))

pub event_pair : (moved : Moved) (f g : Bool) (x y : List GName) (lent : PlainLink) (old new : Pair) (room : EndState) → lent ≡ old.link → f ≡ false → g ≡ false
    → OnlyReserves (end_of x lent f) room → EventAfter moved room.kept (end_of y new.link g).kept → EventMoves moved old new
event_pair moved f g x y lent old new room same first next ready after =
    let was : (side_of old.link false).kept ≡ room.kept =
    sym (ap (λ (l : PlainLink). (side_of l false).kept) same) ∙ sym (ap (λ (d : Bool). (end_of x lent d).kept) first) ∙ sym ready.kept in
    let now : (side_of new.link false).kept ≡ (end_of y new.link g).kept = sym (ap (λ (d : Bool). (end_of y new.link d).kept) next) in
    subst (λ (k : Option Entry). EventAfter moved k (side_of new.link false).kept → EventMoves moved old new) was (λ is. record {
      stays = is.0;
      goes = λ did. record { some = (is.1 did).0; gone = (is.1 did).1 };
    }) (subst (λ (k : Option Entry). EventAfter moved room.kept k) (sym now) after)
