-- The copies of a server name the strokes of each pair's windows that other units laid, over a turn of either end.
use Rattle.std.proofs.Common.{◌≡◌, ◌≢◌, ◌∙◌, inl, inr, List, All, Option, Some, None, IfNone, refl, sym, ap, subst}
use Rattle.std.proofs.lemmas.List.Elements.{All-append, All-weaker}
use Rattle.vio_num.specs.declared.names.UnitId.{UnitId}
use Rattle.tce_window.specs.PlainPort.{known_of}
use Rattle.tce_window.specs.Window.{WindowValue}
use Rattle.rdma_copy.specs.Copies.{side_of as side_at}
use Rattle.rdma_copy.specs.declared.copy.CopyRecord.{CopyRecord}
use Rattle.block_server.specs.Advances.{CopiesMore, IsOwnCopy}
use Rattle.block_server.specs.Makers.{AreNamed}
use Rattle.vcpu_run.specs.declared.driver.Driver.{Driver}
use Rattle.vcpu_run.specs.declared.pair.Pair.{Pair}
use Rattle.vcpu_run.specs.Machines.{AllStay, KeepsDriver, Stays}
use Rattle.vcpu_run.specs.Named.{HasNames, HasWindow, LeavesAlone, NamesNone, WindowsAreApart}
use Rattle.vcpu_run.specs.Pairs.{Drives, IsCopyOf}
use Rattle.vcpu_run.proofs.Listed.{came_from}
use Rattle.vcpu_run.proofs.Naming.{copy_none, named_beside, named_still}

pub has_stays : (unit : UnitId) (old new : Pair) → new.own.unit ≡ old.own.unit → new.window.unit ≡ old.window.unit → HasWindow unit new → HasWindow unit old
has_stays unit old new own window (inl e) = inl (sym own ∙ e)
has_stays unit old new own window (inr e) = inr (sym window ∙ e)

-- only copies by the server unit of a pair write into its windows
abbrev pub IsBy : Pair → CopyRecord → Type 0
IsBy pair copy = copy.name.who ≢ pair.server → LeavesAlone pair copy

still_by : (old new : Pair) (copy : CopyRecord) → new.server ≡ old.server → new.own.unit ≡ old.own.unit → new.window.unit ≡ old.window.unit → IsBy old copy → IsBy new copy
still_by old new copy server own window by other unit has = by (λ e. other (e ∙ sym server)) unit (has_stays unit old new own window has)

-- a turn of the client's partition
pub names_driven : (old new : Pair) (made : List CopyRecord) → Drives old new → HasNames old made → HasNames new made
names_driven old new made d is = record {
  own = subst (λ (window : WindowValue). AreNamed (side_at (known_of window)) made) (sym d.own) is.own;
  client = named_still (side_at (known_of old.window)) (side_at (known_of new.window)) made d.unit d.grows.values d.laid is.client;
  foreign = All-weaker (IsBy old) (IsBy new) (λ copy by. still_by old new copy d.server (ap (λ (window : WindowValue). window.unit) d.own) d.unit by) made is.foreign;
}

pub none_keeps : (P Q : Type 0) (old new : Option Driver) → KeepsDriver old new → (P → Q) → IfNone old P → IfNone new Q
none_keeps P Q None None keeps then h = then h
none_keeps P Q (Some old) None keeps then h = absurd keeps
none_keeps P Q old (Some new) keeps then h = tt

-- a turn of the server unit
pub names_served : (old new : Pair) (before after : List CopyRecord) → new.server ≡ old.server → new.own.unit ≡ old.own.unit → new.window.unit ≡ old.window.unit
    → new.own.unit ≡ new.server → CopiesMore (known_of new.own) (known_of new.window) before after
    → (AreNamed (side_at (known_of old.own)) before → AreNamed (side_at (known_of new.own)) after)
    → (AreNamed (side_at (known_of old.window)) before → AreNamed (side_at (known_of new.window)) after)
    → HasNames old before → HasNames new after
names_served old new before after server own window unit more own_named named is = record {
  own = own_named is.own;
  client = named is.client;
  foreign = subst (All (IsBy new)) (sym more.made)
      (All-append (IsBy new) before more.more
      (All-weaker (IsBy old) (IsBy new) (λ copy by. still_by old new copy server own window by) before is.foreign)
      (All-weaker (IsOwnCopy (known_of new.own) (known_of new.window)) (IsBy new) (λ copy is other. absurd (other (is.who ∙ unit))) more.more more.lawful));
}

-- what that leaves of another pair
writes_none : (pair other : Pair) (copies : List CopyRecord) → ((unit : UnitId) → HasWindow unit pair → HasWindow unit other → ⊥)
    → All (IsOwnCopy (known_of pair.own) (known_of pair.window)) copies → All (LeavesAlone other) copies
writes_none pair other copies apart own =
    All-weaker (IsOwnCopy (known_of pair.own) (known_of pair.window)) (LeavesAlone other)
    (λ copy is unit has. copy_none (known_of pair.own) (known_of pair.window) copy unit is (λ e. apart unit (inl e) has) (λ e. apart unit (inr e) has))
    copies own

pub names_beside : (pair other : Pair) (before after : List CopyRecord) → ((unit : UnitId) → HasWindow unit pair → HasWindow unit other → ⊥)
    → CopiesMore (known_of pair.own) (known_of pair.window) before after → HasNames other before → HasNames other after
names_beside pair other before after apart more is =
    let none = writes_none pair other more.more apart more.lawful in
    subst (HasNames other) (sym more.made) (record {
      own = named_beside (side_at (known_of other.own)) before more.more
          (All-weaker (LeavesAlone other) (NamesNone other.own.unit) (λ copy none. none other.own.unit (inl refl)) more.more none) is.own;
      client = named_beside (side_at (known_of other.window)) before more.more
          (All-weaker (LeavesAlone other) (NamesNone other.window.unit) (λ copy none. none other.window.unit (inr refl)) more.more none) is.client;
      foreign = All-append (IsBy other) before more.more is.foreign
          (All-weaker (LeavesAlone other) (IsBy other) (λ copy none by. none) more.more none);
    })

pub copies_beside : (pair other : Pair) (before after : List CopyRecord) → ((unit : UnitId) → HasWindow unit pair → HasWindow unit other → ⊥)
    → other.own.unit ≡ other.server → CopiesMore (known_of pair.own) (known_of pair.window) before after → All (IsCopyOf other) before → All (IsCopyOf other) after
copies_beside pair other before after apart unit more is =
    subst (All (IsCopyOf other)) (sym more.made)
    (All-append (IsCopyOf other) before more.more is
    (All-weaker (IsOwnCopy (known_of pair.own) (known_of pair.window)) (IsCopyOf other)
    (λ copy own named. absurd (apart other.server (inl (sym own.who ∙ named)) (inl unit))) more.more more.lawful))

-- windows that are apart stay so
pub apart_stays : (old new : List Pair) → AllStay old new → WindowsAreApart old → WindowsAreApart new
apart_stays old new stay apart j k a b unit at_j at_k has_a has_b =
    let x = came_from Stays old new stay.count stay.each j a at_j in
    let y = came_from Stays old new stay.count stay.each k b at_k in
    apart j k x.0 y.0 unit x.1 y.1 (has_stays unit x.0 a x.2.own_unit x.2.client_unit has_a) (has_stays unit y.0 b y.2.own_unit y.2.client_unit has_b)
