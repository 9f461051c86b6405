-- The units of a server, as one of them takes its turn.
use Rattle.std.proofs.Common.{◌≡◌, ◌≢◌, ◌==◌, ◌++◌, ℕ, zero, suc, Bool, true, false, List, [], ◌∷◌, length, Some, None, slice_get, slice_set, refl, sym, ◌∙◌, ap, subst, All}
use Rattle.std.proofs.lemmas.Bool.{eq-eqb, eqb-true}
use Rattle.std.proofs.lemmas.List.Elements.{All-append, All-cons, All-head, All-tail}
use Rattle.vio_num.specs.declared.names.UnitId.{UnitId}
use Rattle.vio_num.specs.declared.history.Served.{Served as ServedRow}
use Rattle.crq_ring.specs.declared.rows.PipeRow.{PipeRow}
use Rattle.block_server.specs.Answering.{OnlyRowsOf}
use Rattle.block_server.specs.Receipts.{GrantsMany, LinesMore}
use Rattle.vio_num.specs.declared.history.Grant.{Grant}
use Rattle.std.proofs.Common.{Option, IfSome}
use Rattle.std.proofs.lemmas.Option.{IfSome_then}
use Rattle.std.specs.Prelude.{IsSome, option_map}
use Rattle.std.proofs.Common.{IfOk, Result, Ok, Err}
use Rattle.std.proofs.Props.{props}
use Rattle.vio_num.specs.declared.memory.NoMemory.{NoMemory}
use Rattle.vio_num.specs.declared.hypervisor.Moved.{Moved}
use Rattle.vio_num.specs.declared.hypervisor.Moved.TheVariants.{Quiet}
use Rattle.crq_session.specs.EndState.{EndState}
use Rattle.block_server.specs.Turns.{IsQuietTurn, under_way, way_of}
use Rattle.block_server.specs.DiskLaw.{KeepsDiskBy, ServeBy}
use Rattle.block_server.proofs.DiskLaws.{serve_size}
use Rattle.block_server.specs.Serving.{Desk, Held, ServeFrom, StaysServed, IsServed, IsServing, Once, Place, Terms, desk_of, place_of}
use Rattle.block_server.specs.Units.{AreGranting, AreServing, GrantEach, IsUnitOf}
use Rattle.block_server.specs.declared.service.Stage.TheVariants.{Start}
use Rattle.block_server.specs.declared.unit.Unit.{Unit}
use Rattle.block_server.proofs.AnswerLaws.{in_service_stays}
use Rattle.block_server.specs.Causes.{told_to}
use Rattle.block_server.proofs.Onces.{brought_none, cleared}
use Rattle.block_server.proofs.Serves.{row_map}

-- what another unit does leaves a desk in order
served_stays : (unit : UnitId) (terms : Terms) (p : Place) (h h' : List ServedRow) (row : ℕ) → p.id ≢ unit → OnlyRowsOf unit h h' → IsServed terms p h row → IsServed terms p h' row
served_stays unit terms p h h' row apart only is = record {
  request = is.request;
  rest = is.rest;
  front = is.front;
  in_service = in_service_stays unit p.id is.request.unit.items h h' row apart only is.in_service;
  holds = is.holds;
}

serving_stays : (unit : UnitId) (terms : Terms) (desk : Desk) (h h' : List ServedRow) → desk.id ≢ unit → OnlyRowsOf unit h h' → IsServing terms desk h → IsServing terms desk h'
serving_stays unit terms desk h h' apart only serving = record {
  row = row_map desk.stage (IsServed terms (place_of desk) h) (IsServed terms (place_of desk) h') (λ row. served_stays unit terms (place_of desk) h h' row apart only) serving.row;
  kept = serving.kept;
  fetched = serving.fetched;
  brought = serving.brought;
  offer = serving.offer;
}

pub get_set_same : (units : List Unit) (i : ℕ) (old new : Unit) → slice_get units i ≡ Some old → slice_get (slice_set units i new) i ≡ Some new
get_set_same [] i old new at = absurd (cc (at))
get_set_same (unit ∷ units) zero old new at = refl
get_set_same (unit ∷ units) (suc i) old new at = get_set_same units i old new at

pub get_set_other : (units : List Unit) (i j : ℕ) (new : Unit) → j ≢ i → slice_get (slice_set units i new) j ≡ slice_get units j
get_set_other [] i j new apart = refl
get_set_other (unit ∷ units) zero zero new apart = absurd (apart refl)
get_set_other (unit ∷ units) zero (suc j) new apart = refl
get_set_other (unit ∷ units) (suc i) zero new apart = refl
get_set_other (unit ∷ units) (suc i) (suc j) new apart = get_set_other units i j new (λ same. apart (ap suc same))

-- One unit took its turn, and its logins grant as many as before: so does each.
units_granting : (granted : ℕ) (units : List Unit) (i : ℕ) (unit unit' : Unit) → slice_get units i ≡ Some unit → unit'.logins.granted ≡ unit.logins.granted
    → AreGranting granted units → AreGranting granted (slice_set units i unit') × (unit.logins.granted ≡ granted)
units_granting granted [] i unit unit' there same all = absurd (cc (there))
units_granting granted (first ∷ units) zero unit unit' there same all =
    let P : Unit → Type 0 = λ unit. unit.logins.granted ≡ granted in
    let own : unit.logins.granted ≡ granted = subst P (some_unit first unit there) (All-head P first units all) in
    (All-cons P unit' units (same ∙ own) (All-tail P first units all), own)
  where
    some_unit : (a b : Unit) → Some a ≡ Some b → a ≡ b
    some_unit a b same = cc (same)
units_granting granted (first ∷ units) (suc i) unit unit' there same all =
    let P : Unit → Type 0 = λ unit. unit.logins.granted ≡ granted in
    let rest = units_granting granted units i unit unit' there same (All-tail P first units all) in
    (All-cons P first (slice_set units i unit') (All-head P first units all) rest.0, rest.1)

pub granting_on : (granted : ℕ) (units : List Unit) (lines lines' : List Grant) (i : ℕ) (unit unit' : Unit) → slice_get units i ≡ Some unit → unit'.logins.granted ≡ unit.logins.granted
    → LinesMore unit.id unit.logins.granted lines lines' → GrantEach granted units lines → GrantEach granted (slice_set units i unit') lines'
granting_on granted units lines lines' i unit unit' there same more is =
    let on = units_granting granted units i unit unit' there same is.each in
    record {
      each = on.0;
      said = subst (All (GrantsMany granted)) (sym more.added)
          (All-append (GrantsMany granted) lines more.more is.said (subst (λ (n : ℕ). All (GrantsMany n) more.more) on.1 more.many));
    }

-- One unit took its turn: each unit is in order still.
pub units_on : (d d' : Held) (partition number : ℕ) (units : List Unit) (unit unit' : Unit) (s s' : List PipeRow) (h h' : List ServedRow) → slice_get units number ≡ Some unit
    → Once d d' (desk_of unit) (desk_of unit') s s' h h' → AreServing d.terms partition units h → AreServing d'.terms partition (slice_set units number unit') h'
units_on d d' partition number units unit unit' s s' h h' there once all n other at = by (n == number) refl
  where
    some_is : (x y : Unit) → Some x ≡ Some y → x ≡ y
    some_is x y same = cc (same)

    this : n ≡ number → IsUnitOf d'.terms partition n other h'
    this same =
        let is : unit' ≡ other = some_is unit' other (sym (get_set_same units number unit unit' there) ∙ ap (slice_get (slice_set units number unit')) (sym same) ∙ at) in
        subst (λ (z : ℕ × Unit). IsUnitOf d'.terms partition z.0 z.1 h') (λ i. (sym same i, is i))
        (record { id = once.id ∙ (all number unit there).id; serving = once.serving })

    another : n ≢ number → IsUnitOf d'.terms partition n other h'
    another apart =
        let is = all n other (sym (get_set_other units number n unit' apart) ∙ at) in
        record {
          id = is.id;
          serving = subst (λ (terms : Terms). IsServing terms (desk_of other) h') (sym once.terms)
              (serving_stays unit.id d.terms (desk_of other) h h'
              (λ same. apart (ap (λ (id : UnitId). id.unit) (sym is.id ∙ same ∙ (all number unit there).id))) once.others is.serving);
        }

    by : (b : Bool) → (n == number) ≡ b → IsUnitOf d'.terms partition n other h'
    by true e = this (eqb-true n number e)
    by false e = another (λ same. absurd (cc (eq-eqb n number same, e)))

push_all : (P : ℕ → Unit → Type 0) (units : List Unit) (new : Unit) → ((n : ℕ) (unit : Unit) → slice_get units n ≡ Some unit → P n unit) → P (length units) new
    → (n : ℕ) (unit : Unit) → slice_get (units ++ new ∷ []) n ≡ Some unit → P n unit
push_all P [] new all is zero unit at = subst (P zero) (some_is new unit at) is
  where
    some_is : (x y : Unit) → Some x ≡ Some y → x ≡ y
    some_is x y same = cc (same)
push_all P [] new all is (suc n) unit at = absurd (cc (at))
push_all P (first ∷ units) new all is zero unit at = all zero unit at
push_all P (first ∷ units) new all is (suc n) unit at = push_all (λ m. P (suc m)) units new (λ m. all (suc m)) is n unit at

-- A unit that took nothing yet is in order, whatever was served.
pub units_more : (terms : Terms) (partition number : ℕ) (units : List Unit) (new : Unit) (h : List ServedRow) → number ≡ length units
    → new.id ≡ record { partition = partition; unit = number } → new.service.stage ≡ Start → new.line.kept ≡ None → new.pending.items ≡ []
    → AreServing terms partition units h → AreServing terms partition (units ++ new ∷ []) h
units_more terms partition number units new h len id stage kept none all =
    push_all (λ n unit. IsUnitOf terms partition n unit h) units new all
    (subst (λ (n : ℕ). IsUnitOf terms partition n new h) len (record { id = id; serving = cleared terms (desk_of new) h stage kept (brought_none (told_to terms.told new.id) new.pending.items none) }))

pub units_none : (terms : Terms) (partition : ℕ) (units : List Unit) (h : List ServedRow) → units ≡ [] → AreServing terms partition units h
units_none terms partition units h none = subst (λ (list : List Unit). AreServing terms partition list h) (sym none) (λ n unit at. absurd (cc (at)))

-- the disk law of a turn, over an image that tells as many blocks as it has
pub keeps_disk : (d d' : Held) (h h' : List ServedRow) (size : ℕ) → d.terms.size ≡ size → d'.terms ≡ d.terms → IfSome d.now (λ all. length all ≡ size)
    → StaysServed d d' h h' → KeepsDiskBy d.terms.told h h' d.now d'.now
keeps_disk d d' h h' size sized same told stays before is =
    IfSome_then d'.now (stays before (from d.now told is))
    (λ all (then : ServeFrom d'.terms before h' all). subst (λ (t : Terms). ServeBy t.told before h' all) same then.serve)
  where
    from : (now : Option (List (List ℕ))) → IfSome now (λ all. length all ≡ size) → IfSome now (λ all. ServeBy d.terms.told before h all) → IfSome now (ServeFrom d.terms before h)
    from None told is = tt
    from (Some all) told is = record { size = sym (serve_size d.terms.told before h all is) ∙ told ∙ sym sized; serve = is }

pub tells_prop : (now now' : Option (List (List ℕ))) → IsProp (IfSome now (λ all. IsSome now'))
tells_prop None now' = hlevel props
tells_prop (Some all) now' = hlevel props

pub same_prop : (a b : ℕ) → IsProp (a ≡ b)
same_prop a b = hlevel props

-- what a unit has under way, where its turn was quiet
pub way_quiet : (result : Result Moved NoMemory) (units : List Unit) (n : ℕ) (unit unit' : Unit) (q q' : EndState) → slice_get units n ≡ Some unit
    → IfOk result (λ moved. moved ≡ Quiet → IsQuietTurn unit unit' q q') → IfOk result (λ moved. moved ≡ Quiet → way_of (slice_set units n unit') n ≡ way_of units n)
way_quiet (Err memory) units n unit unit' q q' there quiet = tt
way_quiet (Ok answer) units n unit unit' q q' there quiet = λ is.
    ap (option_map under_way) (get_set_same units n unit unit' there) ∙ ap Some (quiet is).same ∙ sym (ap (option_map under_way) there)
