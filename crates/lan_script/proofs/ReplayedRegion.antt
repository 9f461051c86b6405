-- What a unit's own window says in the replay of its port: what it grants, and that no page of it is away.
use Rattle.std.proofs.Common.{◌≡◌, ◌↔◌, ◌&&◌, ◌+◌, ◌*◌, ◌≤◌, ℕ, arith, nat_le, Bool, true, false, IfSome, IsSome, IsTrue, List, [], ◌∷◌, Option, Some, None, Result, Ok, Err, IsErrOf, length, refl, sym, ◌∙◌, ap, subst}
use Rattle.std.proofs.lemmas.Bool.{le-leb, leb-true}
use Rattle.vio_num.specs.declared.names.UnitId.{UnitId}
use Rattle.page_slots.specs.Stroke.{StrokeValue}
use Rattle.tce_window.specs.Answers.{IfInUse}
use Rattle.tce_window.specs.declared.answers.OwnFault.{OwnFault}
use Rattle.tce_window.specs.declared.answers.OwnFault.TheVariants.{Range, InUse, NoMemory}
use Rattle.tce_window.specs.PlainPort.{known_of}
use Rattle.tce_window.specs.PortState.{FindsInUse, contains}
use Rattle.tce_window.specs.Region.{in_region}
use Rattle.tce_window.specs.Window.{AllThere, WindowValue, strokes_at}
use Rattle.lan_script.specs.declared.seat.PortSeat.{PortSeat}
use Rattle.lan_script.specs.declared.windows.Place.{Place}
use Rattle.lan_script.specs.Invariant.{IsLan}
use Rattle.lan_script.specs.Replayed.{GrantsAll, HasPages}
use Rattle.lan_script.specs.Seats.{seat_at}
use Rattle.lan_script.specs.Units.{LanValue}
use Rattle.lan_script.specs.Windows.{facts_in, facts_of, window_in, with_window}
use Rattle.lan_script.proofs.Keys.{WindowOf, window_of}
use Rattle.lan_script.proofs.Placing.{has_place, same_some, window_with, with_twice}

three : (x y z : Bool) → ((x && y) && z) ≡ true → z ≡ true
three true true z e = e
three true false z e = absurd (cc (e))
three false y z e = absurd (cc (e))

-- the end of a range inside the region
pub range_end : (n at len : ℕ) → IsTrue (in_region n at len) → at + len ≤ 4096 * n
range_end n at len h = leb-true (at + len) (4096 * n) (three (nat_le 1 len) (nat_le len 65536) (nat_le (at + len) (4096 * n)) h)

-- a range that lies inside is told so
pub range_inside : (n at len : ℕ) → 1 ≤ len → len ≤ 65536 → at + len ≤ 4096 * n → in_region n at len ≡ true
range_inside n at len some few inside = all (nat_le 1 len) (nat_le len 65536) (nat_le (at + len) (4096 * n)) (le-leb 1 len some) (le-leb len 65536 few) (le-leb (at + len) (4096 * n) inside)
  where
    all : (x y z : Bool) → x ≡ true → y ≡ true → z ≡ true → ((x && y) && z) ≡ true
    all true true true a b d = refl
    all false y z a b d = absurd (cc (a))
    all true false z a b d = absurd (cc (b))
    all true true false a b d = absurd (cc (d))

-- the window of a unit of a run, which has every page
pub has_pages : (lan now : LanValue) (unit : UnitId) (own : WindowValue) → lan ≡ now → window_in unit lan.places ≡ Some own → AllThere own.pages → HasPages now unit
has_pages lan now unit own same at there =
    subst (λ (l : LanValue). HasPages l unit) same (subst (λ (o : Option WindowValue). IfSome o (λ w. AllThere w.pages)) (sym at) there)

pages_there : (lan now : LanValue) (unit : UnitId) (own : WindowValue) → lan ≡ now → window_in unit lan.places ≡ Some own → HasPages now unit → AllThere own.pages
pages_there lan now unit own same at have =
    subst (λ (o : Option WindowValue). IfSome o (λ w. AllThere w.pages)) at (subst (λ (l : LanValue). HasPages l unit) (sym same) have)

none_away : (o : Option (List StrokeValue)) → o ≡ None → IsSome o → ⊥
none_away (Some l) e is = cc (e)
none_away None e is = cc (is)

pub not_in_use : (lan now : LanValue) (unit : UnitId) (own : WindowValue) (at len : ℕ) (answer : Result Unit OwnFault) → lan ≡ now
    → window_in unit lan.places ≡ Some own → IfInUse answer (λ page _. FindsInUse false (known_of own) at len page) → HasPages now unit
    → IfInUse answer (λ _ _. ⊥)
not_in_use lan now unit own at len (Ok done) same here h have = tt
not_in_use lan now unit own at len (Err Range) same here h have = tt
not_in_use lan now unit own at len (Err NoMemory) same here h have = tt
not_in_use lan now unit own at len (Err (InUse page word)) same here h have =
    let inside : at + len ≤ 4096 * length own.pages = range_end (length own.pages) at len h.inside in
    none_away (strokes_at own.pages page) (h.away refl) (pages_there lan now unit own same here have page (omega (arith, inside, h.below)))

-- the pages of a seat's window
pub seat_pages : (lan now : LanValue) (unit : UnitId) (seat : PortSeat) (own : WindowValue) → lan ≡ now → IsLan lan → seat_at now.seats unit ≡ Some seat
    → window_in unit lan.places ≡ Some own → length own.pages ≡ seat.pages
seat_pages lan now unit seat own same is at here =
    let w : WindowOf (window_in unit lan.places) seat = window_of unit lan.places lan.seats seat is.windows (ap (λ (l : LanValue). seat_at l.seats unit) same ∙ at) in
    ap (λ (x : WindowValue). length x.pages) (same_some own w.window (sym here ∙ w.is)) ∙ w.pages

pub not_range : (lan now : LanValue) (unit : UnitId) (own : WindowValue) (at len : ℕ) (answer : Result Unit OwnFault) → lan ≡ now → IsLan lan
    → window_in unit lan.places ≡ Some own → (IsErrOf answer Range ↔ (contains (known_of own) at len ≡ false))
    → (seat : PortSeat) → seat_at now.seats unit ≡ Some seat → at + len ≤ 4096 * seat.pages → 1 ≤ len → len ≤ 65536 → IsErrOf answer Range → ⊥
not_range lan now unit own at len answer same is here h seat seat_is inside some few e =
    let pages : length own.pages ≡ seat.pages = seat_pages lan now unit seat own same is seat_is here in
    cc (h.0 e, range_inside (length own.pages) at len some few (omega (arith, inside, pages)))

-- a window that was taken and put back with the values that it had
pub grants_back : (lan now : LanValue) (unit : UnitId) (ps₁ ps₂ : List Place) (own own' : WindowValue) → lan ≡ now → window_in unit lan.places ≡ Some own
    → ps₁ ≡ with_window unit None lan.places → ps₂ ≡ with_window unit (Some own') ps₁ → ((e : ℕ) → (known_of own').values e ≡ (known_of own).values e)
    → GrantsAll now unit → (e : ℕ) → (facts_in ps₂ unit).values e ≡ (4096 * e + 3) ∷ []
grants_back lan now unit ps₁ ps₂ own own' same at e f values grants k =
    let there : window_in unit ps₂ ≡ Some own' =
    ap (λ l. window_in unit l) (f ∙ ap (λ l. with_window unit (Some own') l) e ∙ with_twice unit None (Some own') lan.places)
    ∙ window_with unit (Some own') lan.places (has_place unit own lan.places at) in
    ap (λ o. (facts_of unit ps₂ o).values k) there ∙ values k
    ∙ sym (ap (λ o. (facts_of unit lan.places o).values k) at) ∙ subst (λ (l : LanValue). GrantsAll l unit) (sym same) grants k
