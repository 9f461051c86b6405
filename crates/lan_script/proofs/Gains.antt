-- What the offers of a frame add to the deliveries and drops of each port.
use Rattle.std.proofs.Common.{◌≡◌, ◌+◌, ◌^◌, ◌<◌, ◌≤◌, inl, inr, arith, Bool, true, false, All, List, [], ◌∷◌, ◌++◌, append-nil, Option, Some, IsSome, length, map, if◌then◌else◌, refl, sym, ◌∙◌, ap, subst}
use Rattle.std.proofs.lemmas.List.Elements.{All-head, All-tail}
use Rattle.vio_num.specs.declared.names.UnitId.{UnitId}
use Rattle.lan_buffers.specs.Calls.{IsOpen}
use Rattle.lan_buffers.specs.Port.{PortValue}
use Rattle.lan_buffers.specs.declared.settings.Settings.{Settings}
use Rattle.lan_buffers.specs.declared.answers.Deliver.{Deliver}
use Rattle.lan_buffers.specs.declared.answers.Deliver.TheVariants as sent
use Rattle.lan_switch.specs.declared.answers.Offer.{Offer}
use Rattle.lan_switch.specs.declared.station.Station.{Station}
use Rattle.lan_switch.specs.Sending.{AreOffered, Offering, Takes}
use Rattle.lan_switch.specs.Switch.{AreAscending, order_of, port_of, same_unit, unit_of}
use Rattle.vio_trace.specs.declared.lan_rows.OfferRow.{OfferRow}
use Rattle.lan_script.specs.Delivered.{Delivered, drops_in, drops_of, given_in, offer_says, taken}
use Rattle.lan_script.specs.Frames.{offer_row_of, offered_as}
use Rattle.lan_script.specs.Invariant.{HaveBegun, drops_at, drops_by, rows_at, rows_in}
use Rattle.lan_script.proofs.Answered.{offered_tally}
use Rattle.lan_script.proofs.Balance.{SeesSame, by_same}
use Rattle.lan_script.proofs.Keys.{port_head, port_tail}
use Rattle.lan_script.proofs.Order.{Each}
use Rattle.lan_script.proofs.Placing.{by_bool, one_unit}
use Rattle.lan_script.proofs.Tallies.{AddsTally, said}

-- the rows of offers
abbrev pub rows_of : Offering → List Offer → List OfferRow
rows_of o offers = map (offer_row_of o.name.who o.name.mark) offers

-- what they say to a receiver
abbrev pub told_to : Offering → (receiver : UnitId) → List Offer → List Delivered
told_to o receiver offers = given_in receiver o.name.mark (length o.frame) (rows_of o offers)

-- the same, of a sender's frame
abbrev pub gained : Offering → (sender receiver : UnitId) → List Offer → List Delivered
gained o sender receiver offers = if same_unit o.name.who sender then told_to o receiver offers else []

-- What a port gains by offers.
pub record Gains (o : Offering) (old new : List Station) (offers : List Offer) (v : UnitId) : Type 0 where
  pub rows : (sender : UnitId) → taken sender (rows_at new v) ≡ taken sender (rows_at old v) ++ gained o sender v offers
  pub drops : drops_at old v + drops_in v (rows_of o offers) < 2 ^ 64 → drops_at new v ≡ drops_at old v + drops_in v (rows_of o offers)
  pub few : drops_in v (rows_of o offers) ≤ 1

-- Offers say nothing to a receiver.
pub record AreSilent (o : Offering) (v : UnitId) (offers : List Offer) : Type 0 where
  pub rows : told_to o v offers ≡ []
  pub drops : drops_in v (rows_of o offers) ≡ 0

beside_told : (o : Offering) (u v : UnitId) (answer : Deliver) (later : List Offer) → same_unit u v ≡ false
    → told_to o v (record { unit = u; answer = answer } ∷ later) ≡ told_to o v later
beside_told o u v answer later e = rw e refl

beside_drops : (o : Offering) (u v : UnitId) (answer : Deliver) (later : List Offer) → same_unit u v ≡ false
    → drops_in v (rows_of o (record { unit = u; answer = answer } ∷ later)) ≡ drops_in v (rows_of o later)
beside_drops o u v answer later e = rw e refl

own_told : (o : Offering) (u v : UnitId) (answer : Deliver) (later : List Offer) → same_unit u v ≡ true
    → told_to o v (record { unit = u; answer = answer } ∷ later) ≡ offer_says o.name.mark (length o.frame) (offered_as answer) ++ told_to o v later
own_told o u v answer later e = rw e refl

own_drops : (o : Offering) (u v : UnitId) (answer : Deliver) (later : List Offer) → same_unit u v ≡ true
    → drops_in v (rows_of o (record { unit = u; answer = answer } ∷ later)) ≡ drops_of (offered_as answer) + drops_in v (rows_of o later)
own_drops o u v answer later e = rw e refl

silent_beside : (o : Offering) (u v : UnitId) (answer : Deliver) (later : List Offer) → same_unit u v ≡ false → AreSilent o v later
    → AreSilent o v (record { unit = u; answer = answer } ∷ later)
silent_beside o u v answer later e silent =
    record { rows = beside_told o u v answer later e ∙ silent.rows; drops = beside_drops o u v answer later e ∙ silent.drops }

-- offers say nothing to a unit that is none of these
silent : (o : Offering) (all : Bool) (old new : List Station) (offers : List Offer) (v : UnitId) → AreOffered o all old new offers
    → Each (λ (s : Station). same_unit (unit_of s) v ≡ false) old → AreSilent o v offers
silent o all [] [] offers v h apart = subst (λ l. AreSilent o v l) (sym h) (record { rows = refl; drops = refl })
silent o all [] (n ∷ news) offers v h apart = absurd h
silent o all (s ∷ olds) [] offers v h apart = absurd h
silent o true (s ∷ olds) (n ∷ news) offers v (inl (answer, later, is, takes, rest)) apart =
    subst (λ l. AreSilent o v l) (sym is) (silent_beside o (unit_of s) v answer later apart.0 (silent o true olds news later v rest apart.1))
silent o false (s ∷ olds) (n ∷ news) offers v (inl (answer, later, is, takes, rest)) apart =
    subst (λ l. AreSilent o v l) (sym is)
    (silent_beside o (unit_of s) v answer later apart.0 (subst (λ l. AreSilent o v l) (sym rest.0) (record { rows = refl; drops = refl })))
silent o all (s ∷ olds) (n ∷ news) offers v (inr (passed, rest)) apart = silent o all olds news offers v rest apart.1

-- the stations behind one in ascending order are of other units
pub apart_from : (s : Station) (ss : List Station) (v : UnitId) → same_unit (unit_of s) v ≡ true → AreAscending (map unit_of (s ∷ ss))
    → Each (λ (t : Station). same_unit (unit_of t) v ≡ false) ss
apart_from s ss v e ascending = behind ss ascending.0
  where
    behind : (ts : List Station) → All (λ other. order_of (unit_of s) < order_of other) (map unit_of ts)
        → Each (λ (t : Station). same_unit (unit_of t) v ≡ false) ts
    behind [] all = tt
    behind (t ∷ ts) all = (
      by_bool (same_unit (unit_of t) v) (same_unit (unit_of t) v ≡ false)
          (λ f.
          let same : order_of (unit_of t) ≡ order_of (unit_of s) =
          ap (λ (u : UnitId). order_of u) (one_unit (unit_of t) v f ∙ sym (one_unit (unit_of s) v e)) in
          absurd (omega (arith, same, All-head (λ other. order_of (unit_of s) < order_of other) (unit_of t) (map unit_of ts) all)))
          (λ f. f),
      behind ts (All-tail (λ other. order_of (unit_of s) < order_of other) (unit_of t) (map unit_of ts) all),
    )

pub gained_none : (o : Offering) (sender v : UnitId) (offers : List Offer) → told_to o v offers ≡ [] → gained o sender v offers ≡ []
gained_none o sender v offers e = by (same_unit o.name.who sender)
  where
    by : (b : Bool) → (if b then told_to o v offers else []) ≡ []
    by true = e
    by false = refl

-- where nothing is said and the same is seen
pub gains_none : (o : Offering) (old new : List Station) (offers : List Offer) (v : UnitId) → AreSilent o v offers → SeesSame old new v
    → Gains o old new offers v
gains_none o old new offers v quiet same = record {
  rows = λ sender.
      ap (λ l. taken sender l) same.rows ∙ sym (append-nil (taken sender (rows_at old v)))
      ∙ ap (λ l. taken sender (rows_at old v) ++ l) (sym (gained_none o sender v offers quiet.rows));
  drops = λ _. omega (arith, same.drops, quiet.drops);
  few = omega (arith, quiet.drops);
}

-- past a station that is not the receiver's
gains_tail : (o : Offering) (s n : Station) (olds news : List Station) (offers : List Offer) (v : UnitId) → same_unit s.port.unit v ≡ false
    → same_unit n.port.unit v ≡ false → Gains o olds news offers v → Gains o (s ∷ olds) (n ∷ news) offers v
gains_tail o s n olds news offers v e f g =
    let was : drops_at (s ∷ olds) v ≡ drops_at olds v = ap (λ x. drops_by x) (port_tail v s olds e) in
    let now : drops_at (n ∷ news) v ≡ drops_at news v = ap (λ x. drops_by x) (port_tail v n news f) in
    record {
      rows = λ sender.
          ap (λ x. taken sender (rows_in v x)) (port_tail v n news f) ∙ g.rows sender
          ∙ ap (λ x. taken sender (rows_in v x) ++ gained o sender v offers) (sym (port_tail v s olds e));
      drops = λ less. omega (arith, was, now, g.drops (omega (arith, was, less)));
      few = g.few;
    }

-- past an offer that is not the receiver's
gains_beside : (o : Offering) (u v : UnitId) (answer : Deliver) (old new : List Station) (later : List Offer) → same_unit u v ≡ false
    → Gains o old new later v → Gains o old new (record { unit = u; answer = answer } ∷ later) v
gains_beside o u v answer old new later e g =
    let drops = beside_drops o u v answer later e in
    record {
      rows = λ sender.
          g.rows sender
          ∙ ap (λ l. taken sender (rows_at old v) ++ (if same_unit o.name.who sender then l else [])) (sym (beside_told o u v answer later e));
      drops = λ less. omega (arith, drops, g.drops (omega (arith, drops, less)));
      few = omega (arith, drops, g.few);
    }

drop_small : (answer : Deliver) → drops_of (offered_as answer) ≤ 1
drop_small (sent.Done post) = omega arith
drop_small (sent.Ungranted post fault) = omega arith
drop_small sent.NoSize = omega arith
drop_small sent.NoBuffer = omega arith
drop_small (sent.Turn word) = omega arith
drop_small (sent.InUse page word) = omega arith
drop_small (sent.Closed control) = omega arith
drop_small sent.NoMemory = omega arith

-- the receiver's own station
gains_own : (o : Offering) (s n : Station) (olds news : List Station) (answer : Deliver) (later : List Offer) (v : UnitId)
    → same_unit s.port.unit v ≡ true → same_unit n.port.unit v ≡ true → AddsTally o.name (length o.frame) (offered_as answer) s.port n.port
    → AreSilent o v later → Gains o (s ∷ olds) (n ∷ news) (record { unit = unit_of s; answer = answer } ∷ later) v
gains_own o s n olds news answer later v e f adds quiet =
    let was : drops_at (s ∷ olds) v ≡ drops_by (Some s.port) = ap (λ x. drops_by x) (port_head v s olds e) in
    let now : drops_at (n ∷ news) v ≡ drops_by (Some n.port) = ap (λ x. drops_by x) (port_head v n news f) in
    let more : drops_in v (rows_of o (record { unit = unit_of s; answer = answer } ∷ later)) ≡ drops_of (offered_as answer) =
    omega (arith, own_drops o (unit_of s) v answer later e, quiet.drops) in
    record {
      rows = λ sender.
          ap (λ x. taken sender (rows_in v x)) (port_head v n news f) ∙ adds.rows v sender
          ∙ ap (λ l. taken sender (rows_in v (Some s.port)) ++ l) (says sender)
          ∙ ap (λ x. taken sender (rows_in v x) ++ gained o sender v (record { unit = unit_of s; answer = answer } ∷ later)) (sym (port_head v s olds e));
      drops = λ less. omega (arith, was, now, more, adds.drops (omega (arith, was, more, less)));
      few = omega (arith, more, drop_small answer);
    }
  where
    all_told : told_to o v (record { unit = unit_of s; answer = answer } ∷ later) ≡ offer_says o.name.mark (length o.frame) (offered_as answer)
    all_told =
        own_told o (unit_of s) v answer later e
        ∙ ap (λ l. offer_says o.name.mark (length o.frame) (offered_as answer) ++ l) quiet.rows
        ∙ append-nil (offer_says o.name.mark (length o.frame) (offered_as answer))

    says : (sender : UnitId) → said o.name (length o.frame) (offered_as answer) sender
        ≡ gained o sender v (record { unit = unit_of s; answer = answer } ∷ later)
    says sender = ap (λ l. if same_unit o.name.who sender then l else []) (sym all_told)

is_open : (port : PortValue) (settings : Settings) → port.settings ≡ Some settings → IsOpen port
is_open port settings e = subst (λ (x : Option Settings). IsSome x) (sym e) refl

-- what one offer adds to its port
adds_one : (o : Offering) (s n : Station) (answer : Deliver) → Takes o s n answer → (IsOpen s.port → 1 ≤ length s.port.drop_counts)
    → AddsTally o.name (length o.frame) (offered_as answer) s.port n.port
adds_one o s n answer takes begun =
    offered_tally o (unit_of s) s.port n.port answer takes.offered takes.memory
    (begun (is_open s.port takes.target.accepts.settings takes.target.accepts.shown))

pub begun_offered : (o : Offering) (all : Bool) (old new : List Station) (offers : List Offer) → AreOffered o all old new offers
    → HaveBegun old → HaveBegun new
begun_offered o all [] [] offers h begun = tt
begun_offered o all [] (n ∷ news) offers h begun = absurd h
begun_offered o all (s ∷ olds) [] offers h begun = absurd h
begun_offered o true (s ∷ olds) (n ∷ news) offers (inl (answer, later, is, takes, rest)) begun =
    ((adds_one o s n answer takes begun.0).begun, begun_offered o true olds news later rest begun.1)
begun_offered o false (s ∷ olds) (n ∷ news) offers (inl (answer, later, is, takes, rest)) begun =
    ((adds_one o s n answer takes begun.0).begun, subst HaveBegun (sym rest.1) begun.1)
begun_offered o all (s ∷ olds) (n ∷ news) offers (inr (passed, rest)) begun =
    (subst (λ (x : Station). IsOpen x.port → 1 ≤ length x.port.drop_counts) (sym passed.1) begun.0, begun_offered o all olds news offers rest begun.1)

-- Each port gains what its offer says.
pub gains : (o : Offering) (all : Bool) (old new : List Station) (offers : List Offer) (v : UnitId) → AreOffered o all old new offers
    → AreAscending (map unit_of old) → HaveBegun old → Gains o old new offers v
gains o all [] [] offers v h ascending begun = gains_none o [] [] offers v (silent o all [] [] offers v h tt) (by_same [] [] v refl)
gains o all [] (n ∷ news) offers v h ascending begun = absurd h
gains o all (s ∷ olds) [] offers v h ascending begun = absurd h
gains o true (s ∷ olds) (n ∷ news) offers v (inl (answer, later, is, takes, rest)) ascending begun =
    let same : same_unit (unit_of n) v ≡ same_unit (unit_of s) v = ap (λ (u : UnitId). same_unit u v) takes.unit in
    subst (λ l. Gains o (s ∷ olds) (n ∷ news) l v) (sym is)
    (by_bool (same_unit (unit_of s) v) (Gains o (s ∷ olds) (n ∷ news) (record { unit = unit_of s; answer = answer } ∷ later) v)
    (λ e. gains_own o s n olds news answer later v e (same ∙ e) (adds_one o s n answer takes begun.0)
    (silent o true olds news later v rest (apart_from s olds v e ascending)))
    (λ e. gains_tail o s n olds news (record { unit = unit_of s; answer = answer } ∷ later) v e (same ∙ e)
    (gains_beside o (unit_of s) v answer olds news later e (gains o true olds news later v rest ascending.1 begun.1))))
gains o false (s ∷ olds) (n ∷ news) offers v (inl (answer, later, is, takes, rest)) ascending begun =
    let same : same_unit (unit_of n) v ≡ same_unit (unit_of s) v = ap (λ (u : UnitId). same_unit u v) takes.unit in
    let quiet : AreSilent o v later = subst (λ l. AreSilent o v l) (sym rest.0) (record { rows = refl; drops = refl }) in
    subst (λ l. Gains o (s ∷ olds) (n ∷ news) l v) (sym is)
    (by_bool (same_unit (unit_of s) v) (Gains o (s ∷ olds) (n ∷ news) (record { unit = unit_of s; answer = answer } ∷ later) v)
    (λ e. gains_own o s n olds news answer later v e (same ∙ e) (adds_one o s n answer takes begun.0) quiet)
    (λ e. gains_tail o s n olds news (record { unit = unit_of s; answer = answer } ∷ later) v e (same ∙ e)
    (gains_beside o (unit_of s) v answer olds news later e
    (gains_none o olds news later v quiet (by_same olds news v (ap (λ l. port_of l v) rest.1))))))
gains o all (s ∷ olds) (n ∷ news) offers v (inr (passed, rest)) ascending begun =
    let same : same_unit (unit_of n) v ≡ same_unit (unit_of s) v = ap (λ (x : Station). same_unit (unit_of x) v) passed.1 in
    by_bool (same_unit (unit_of s) v) (Gains o (s ∷ olds) (n ∷ news) offers v)
    (λ e. gains_none o (s ∷ olds) (n ∷ news) offers v (silent o all olds news offers v rest (apart_from s olds v e ascending))
    (by_same (s ∷ olds) (n ∷ news) v (port_head v n news (same ∙ e) ∙ ap (λ (x : Station). Some x.port) passed.1 ∙ sym (port_head v s olds e))))
    (λ e. gains_tail o s n olds news offers v e (same ∙ e) (gains o all olds news offers v rest ascending.1 begun.1))
