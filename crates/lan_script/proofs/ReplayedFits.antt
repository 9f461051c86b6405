-- A buffer that has a place at its port is posted.
use Rattle.std.proofs.Common.{◌≡◌, ◌+◌, ◌-◌, ◌*◌, ◌<◌, ◌≤◌, ◌^◌, inl, inr, ℕ, zero, suc, arith, Bool, true, false, IfOk, IfSome, IsSome, List, [], ◌∷◌, ◌++◌, Option, Some, Result, length, length-append, map, mul-le-mul_left, mul-suc, add-zero, add-suc, refl, sym, ◌∙◌, ap, subst}
use Rattle.std.proofs.lemmas.List.{length-map}
use Rattle.vio_num.specs.declared.hypervisor.Hrc.{Hrc}
use Rattle.vio_num.specs.declared.hypervisor.Hrc.TheVariants.{Success, Busy, Parameter, Resource}
use Rattle.vio_num.specs.declared.memory.NoMemory.{NoMemory}
use Rattle.vio_num.specs.declared.names.UnitId.{UnitId}
use Rattle.tce_window.specs.PlainPort.{known_of}
use Rattle.tce_window.specs.Window.{WindowValue}
use Rattle.lan_buffers.specs.declared.rows.PostRow.{PostRow as Post}
use Rattle.lan_buffers.specs.Buffer.{IsBuffer, buffer_address, buffer_len, is_valid, most_sizes}
use Rattle.lan_buffers.specs.Calls.{HasNoPlace}
use Rattle.lan_buffers.specs.Pools.{has_size, post_len, sizes_of, sizes_with, with_size}
use Rattle.lan_buffers.specs.Port.{PortValue, now}
use Rattle.lan_switch.specs.declared.answers.LanAnswer.{LanAnswer}
use Rattle.lan_switch.specs.Calls.{Adds, IsUnread}
use Rattle.lan_switch.specs.declared.station.Station.{Station}
use Rattle.lan_switch.specs.Switch.{MadeAt}
use Rattle.lan_script.specs.declared.seat.PortSeat.{PortSeat}
use Rattle.lan_script.specs.Invariant.{IsLan}
use Rattle.lan_script.specs.PortReplay.{FitsAll, IsOn, PortReplay, different, different_with, with_posted}
use Rattle.lan_script.specs.Replayed.{FitsOne, GrantsAll, HasPosted, IsReplayable, ReplaysOn, SameReplays, bytes_sent, replay_at, replay_of}
use Rattle.lan_script.specs.Seats.{seat_at}
use Rattle.lan_script.specs.Units.{LanValue}
use Rattle.lan_script.specs.Windows.{facts_in, facts_of, window_in}
use Rattle.lan_script.proofs.Lans.{port_there}
use Rattle.lan_script.proofs.Placing.{same_some}
use Rattle.lan_script.proofs.ReplayedRegion.{seat_pages}
use Rattle.lan_script.proofs.Replaying.{seat_slots}
use Rattle.lan_script.proofs.ReplayedFilters.{OneOf4, one_of4}
use Rattle.lan_script.proofs.ReplayedSends.{reads_granted}

-- the different lengths of posts
sizes_different : (found : List ℕ) (posts : List Post) → sizes_with found posts ≡ different_with found (map post_len posts)
sizes_different found [] = refl
sizes_different found (post ∷ posts) = sizes_different (with_size (post_len post) found) posts

-- one length more
different_more : (found lengths : List ℕ) (len : ℕ) → different_with found (lengths ++ len ∷ []) ≡ with_size len (different_with found lengths)
different_more found [] len = refl
different_more found (n ∷ lengths) len = different_more (with_size n found) lengths len

new_size : (len : ℕ) (found : List ℕ) → has_size len found ≡ false → length (with_size len found) ≡ length found + 1
new_size len found e = ap (λ l. length l) (behind e) ∙ length-append found (len ∷ [])
  where
    behind : has_size len found ≡ false → with_size len found ≡ found ++ len ∷ []
    behind f = rw f refl

-- the lengths do not grow fewer
not_fewer : (len : ℕ) (found : List ℕ) → length found ≤ length (with_size len found)
not_fewer len found = by (has_size len found) refl
  where
    by : (b : Bool) → has_size len found ≡ b → length found ≤ length (with_size len found)
    by false e = omega (arith, new_size len found e)
    by true e = omega (arith, ap (λ l. length l) (same e))
      where
        same : has_size len found ≡ true → with_size len found ≡ found
        same f = rw f refl

sizes_grow : (len k : ℕ) (lengths : List ℕ) → length (different (with_posted len k lengths)) ≤ length (different (with_posted len (suc k) lengths))
sizes_grow len k lengths =
    omega (arith, not_fewer len (different (with_posted len k lengths)), ap (λ l. length l) (different_more [] (with_posted len k lengths) len))

pub sizes_within : (len n more : ℕ) (lengths : List ℕ) → length (different (with_posted len n lengths)) ≤ length (different (with_posted len (n + more) lengths))
sizes_within len n zero lengths = omega (arith, ap (λ m. length (different (with_posted len m lengths))) (add-zero n))
sizes_within len n (suc more) lengths =
    omega (arith, sizes_within len n more lengths, sizes_grow len (n + more) lengths, ap (λ m. length (different (with_posted len m lengths))) (add-suc n more))

pub posted_long : (len n : ℕ) (lengths : List ℕ) → length (with_posted len n lengths) ≡ length lengths + n
posted_long len zero lengths = omega arith
posted_long len (suc n) lengths = omega (arith, length-append (with_posted len n lengths) (len ∷ []), posted_long len n lengths)

-- a port that has a place for a buffer has one
has_place : (port : PortValue) (descriptor slots : ℕ) → port.slots ≡ slots → length (map post_len (now port).posts) + 1 ≤ slots
    → length (different (with_posted (buffer_len descriptor) 1 (map post_len (now port).posts))) ≤ most_sizes → HasNoPlace port descriptor → ⊥
has_place port descriptor slots is few sizes (inl full) = absurd (omega (arith, is, few, full, length-map (now port).posts post_len))
has_place port descriptor slots is few sizes (inr (new, full)) =
    let lengths : List ℕ = map post_len (now port).posts in
    let found : sizes_of (now port).posts ≡ different lengths = sizes_different [] (now port).posts in
    absurd (omega (
      arith,
      sizes,
      ap (λ l. length l) (different_more [] lengths (buffer_len descriptor)),
      new_size (buffer_len descriptor) (different lengths) (subst (λ (l : List ℕ). has_size (buffer_len descriptor) l ≡ false) found new),
      ap (λ l. length l) found,
      full,
    ))

-- a buffer that has a place, and whose correlator can be read, is posted
pub adds_fit : (descriptor slots : ℕ) (Found : ℕ → ℕ → Type 0) (own own' : WindowValue) (answer : LanAnswer) (before after : PortValue)
    → Adds descriptor false Found (known_of own) (known_of own') answer before after → IsSome before.settings → IsBuffer descriptor
    → ((e : ℕ) → (known_of own').values e ≡ (4096 * e + 3) ∷ []) → buffer_address descriptor + 8 ≤ 4096 * length own.pages → before.slots ≡ slots
    → length (map post_len (now before).posts) + 1 ≤ slots
    → length (different (with_posted (buffer_len descriptor) 1 (map post_len (now before).posts))) ≤ most_sizes → answer.code ≡ Success
adds_fit descriptor slots Found own own' answer before after h on buffer grants inside is few sizes =
    by (one_of4 Success Parameter Busy Resource answer.code h.codes)
  where
    unread : IsUnread false Found (known_of own) (known_of own') descriptor answer → ⊥
    unread k = reads_granted (known_of own').values (length own.pages) (buffer_address descriptor) 8 k.fault grants inside k.cause.shared k.cause.cause

    by : OneOf4 Success Parameter Busy Resource answer.code → answer.code ≡ Success
    by (inl e) = e
    by (inr (inl e)) = absurd (unread (h.unread e (record { opened = on; buffer = buffer })))
    by (inr (inr (inl e))) = absurd (unread (h.busy e))
    by (inr (inr (inr e))) = absurd (has_place before descriptor slots is few sizes (h.resource e))

-- the same of a unit of a run
pub made_fits : (lan now : LanValue) (unit : UnitId) (ss : List Station) (answer : LanAnswer) (descriptor : ℕ) (Found : ℕ → ℕ → Type 0) (own own' : WindowValue)
    → lan ≡ now → IsLan lan → IsSome (seat_at now.seats unit) → window_in unit lan.places ≡ Some own
    → ((e : ℕ) → (known_of own').values e ≡ (known_of own).values e)
    → MadeAt lan.stations unit answer ss (Adds descriptor false Found (known_of own) (known_of own') answer) → is_valid descriptor ≡ true
    → FitsOne now unit (buffer_address descriptor) (buffer_len descriptor) → answer.code ≡ Success
made_fits lan now unit ss answer descriptor Found own own' same is there at values h valid fit' =
    let fit : FitsOne lan unit (buffer_address descriptor) (buffer_len descriptor) =
    subst (λ (l : LanValue). FitsOne l unit (buffer_address descriptor) (buffer_len descriptor)) (sym same) fit' in
    let made = h.made (port_there lan now unit same is there) in
    let shown : replay_at lan unit ≡ replay_of (Some made.before) (bytes_sent lan unit) =
    ap (λ o. replay_of o (bytes_sent lan unit)) made.was in
    let pages : length own.pages ≡ fit.seat.pages = seat_pages lan lan unit fit.seat own refl is fit.seat_is at in
    adds_fit descriptor fit.seat.slots Found own own' answer made.before made.after made.done
    (subst (λ (a : PortReplay). IsOn a) shown fit.opened)
    (record { valid = valid; long_enough = fit.len_is.0; short_enough = fit.len_is.1 })
    (λ e. values e ∙ sym (ap (λ o. (facts_of unit lan.places o).values e) at) ∙ fit.grants e)
    (omega (arith, pages, fit.inside, fit.len_is.0))
    (seat_slots lan lan unit fit.seat made.before refl is fit.seat_is made.was)
    (subst (λ (a : PortReplay). length a.lengths + 1 ≤ fit.seat.slots) shown fit.few)
    (subst (λ (a : PortReplay). length (different (with_posted (buffer_len descriptor) 1 a.lengths)) ≤ most_sizes) shown fit.sizes)

-- steps that leave the replay and the window alone leave the place, too
pub fits_on : (old mid : LanValue) (unit : UnitId) (at len : ℕ) → replay_at mid unit ≡ replay_at old unit → mid.seats ≡ old.seats
    → (GrantsAll old unit → GrantsAll mid unit) → FitsOne old unit at len → FitsOne mid unit at len
fits_on old mid unit at len same seats grants fit = record {
  opened = subst (λ (a : PortReplay). IsOn a) (sym same) fit.opened;
  len_is = fit.len_is;
  grants = grants fit.grants;
  seat = fit.seat;
  seat_is = ap (λ l. seat_at l unit) seats ∙ fit.seat_is;
  inside = fit.inside;
  few = subst (λ (a : PortReplay). length a.lengths + 1 ≤ fit.seat.slots) (sym same) fit.few;
  sizes = subst (λ (a : PortReplay). length (different (with_posted len 1 a.lengths)) ≤ most_sizes) (sym same) fit.sizes;
}

-- the places of windows as they were
pub grants_on : (old mid : LanValue) (unit : UnitId) → mid.places ≡ old.places → GrantsAll old unit → GrantsAll mid unit
grants_on old mid unit same grants e = ap (λ l. (facts_in l unit).values e) same ∙ grants e

-- each buffer of a line that has places for all
pub fits_next : (old mid : LanValue) (unit : UnitId) (seat : PortSeat) (at len count posted : ℕ) → FitsAll seat at len count (replay_at old unit)
    → seat_at mid.seats unit ≡ Some seat → GrantsAll mid unit → ReplaysOn unit (HasPosted len posted) old mid → posted < count
    → FitsOne mid unit (at + len * posted) len
fits_next old mid unit seat at len count posted all seat_is grants h less = record {
  opened = subst (λ (a : PortReplay). IsOn a) (sym h.says) all.opened;
  len_is = all.len_is;
  grants = grants;
  seat = seat;
  seat_is = seat_is;
  inside = omega (arith, all.inside, product len count posted less);
  few = subst (λ (a : PortReplay). length a.lengths + 1 ≤ seat.slots) (sym h.says)
      (omega (arith, all.few, less, posted_long len posted (replay_at old unit).lengths));
  sizes = subst (λ (a : PortReplay). length (different (with_posted len 1 a.lengths)) ≤ most_sizes) (sym h.says)
      (omega (arith, all.sizes, sizes_up (count - suc posted) count (omega (arith, less))));
}
  where
    product : (l c p : ℕ) → p < c → l * p + l ≤ l * c
    product l c p few = omega (arith, mul-le-mul_left {m = suc p} {n = c} l (omega (arith, few)), mul-suc l p)

    sizes_up : (more c : ℕ) → suc posted + more ≡ c → length (different (with_posted len (suc posted) (replay_at old unit).lengths))
        ≤ length (different (with_posted len c (replay_at old unit).lengths))
    sizes_up more c e =
        subst (λ n. length (different (with_posted len (suc posted) (replay_at old unit).lengths)) ≤ length (different (with_posted len n (replay_at old unit).lengths))) e
        (sizes_within len (suc posted) more (replay_at old unit).lengths)

-- the last call of a buffer that was written
pub fits_tail : (unit : UnitId) (at len descriptor : ℕ) (r : Result Hrc NoMemory) (old mid : LanValue) → is_valid descriptor ≡ true → buffer_len descriptor ≡ len
    → buffer_address descriptor ≡ at → SameReplays old mid → mid.seats ≡ old.seats → (GrantsAll old unit → GrantsAll mid unit)
    → (is_valid descriptor ≡ true → FitsOne mid unit (buffer_address descriptor) (buffer_len descriptor) → IfOk r (λ code. code ≡ Success))
    → FitsOne old unit at len → IfOk r (λ code. code ≡ Success)
fits_tail unit at len descriptor r old mid valid len_is at_is same seats grants h fit =
    h valid
    (subst (λ n. FitsOne mid unit n (buffer_len descriptor)) (sym at_is)
    (subst (λ n. FitsOne mid unit at n) (sym len_is) (fits_on old mid unit at len (same unit) seats grants fit)))

-- the next buffer of such a line is posted
pub next_fits : (unit : UnitId) (seat : PortSeat) (at len count posted : ℕ) (code : Hrc) (address : Option ℕ) (old mid : LanValue) → IsReplayable seat old unit
    → FitsAll seat at len count (replay_at old unit) → mid.seats ≡ old.seats → (GrantsAll old unit → GrantsAll mid unit)
    → ReplaysOn unit (HasPosted len posted) old mid → posted < count → (at + len * posted < 2 ^ 64 → address ≡ Some (at + len * posted))
    → IfSome address (λ a. FitsOne mid unit a len → code ≡ Success) → code ≡ Success
next_fits unit seat at len count posted code address old mid is all seats grants h less here fits =
    let fit : FitsOne mid unit (at + len * posted) len =
    fits_next old mid unit seat at len count posted all (ap (λ l. seat_at l unit) seats ∙ is.is) (grants is.grants) h less in
    subst (λ (o : Option ℕ). IfSome o (λ a. FitsOne mid unit a len → code ≡ Success)) (here (omega (arith, fit.inside, same_pages fit, is.sized.0.1))) fits fit
  where
    same_pages : (fit : FitsOne mid unit (at + len * posted) len) → fit.seat.pages ≡ seat.pages
    same_pages fit = ap (λ (s : PortSeat). s.pages) (same_some fit.seat seat (sym fit.seat_is ∙ ap (λ l. seat_at l unit) seats ∙ is.is))
