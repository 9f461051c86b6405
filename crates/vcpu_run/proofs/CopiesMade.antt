-- The copies that a pair's server unit made are all that wrote into its client's window, and more of them come behind.
use Rattle.std.proofs.Common.{◌≡◌, ◌∙◌, ◌≢◌, ◌⊎◌, inl, inr, ℕ, ◌<◌, ◌≤◌, ◌++◌, All, Contains, IsSomeAnd, append-nil, append_assoc, arith, get_or, length, List, [], Option, Some, None, refl, sym, ap, subst, map, filter, slice_get}
use Rattle.std.specs.Option.{option_map}
use Rattle.std.proofs.lemmas.List.{map-append}
use Rattle.std.proofs.lemmas.Option.{slice_get_cases, slice_get_past}
use Rattle.vio_num.specs.Words.{Begins}
use Rattle.std.proofs.lemmas.List.Elements.{filter-append}
use Rattle.vio_num.specs.declared.names.UnitId.{UnitId}
use Rattle.rdma_copy.specs.declared.copy.CopyRecord.{CopyRecord}
use Rattle.tce_window.specs.Moved.{stroke_count}
use Rattle.tce_window.specs.Window.{strokes_at}
use Rattle.vio_trace.specs.declared.window_rows.CopyRow.{CopyRow}
use Rattle.block_server.specs.Makers.{named_on, places_in}
use Rattle.lan_script.proofs.Order.{each_weaker}
use Rattle.vcpu_run.specs.declared.pair.Pair.{Pair}
use Rattle.vcpu_run.specs.CopiesCounted.{AllMadeBy, AreMadeBy, copies_at, copies_in}
use Rattle.vcpu_run.specs.CopyRows.{copies_by, copy_row, same_unit}
use Rattle.vcpu_run.specs.Machines.{AllStay, Stays}
use Rattle.vcpu_run.specs.Named.{HasNames, LeavesAlone}
use Rattle.vcpu_run.specs.Pairs.{ArePairs}
use Rattle.vcpu_run.specs.StrokeMakers.{named_rows}
use Rattle.vcpu_run.proofs.Driving.{some_is}
use Rattle.vcpu_run.proofs.Following.{each_from_all}
use Rattle.vcpu_run.proofs.Makers.{places_of, rows_name, shows_places}

-- the rows of a pair's server unit name what all copies name in its client's window
pair_names : (copies : List CopyRecord) (pair : Pair) → HasNames pair copies → (page : ℕ)
    → named_rows pair.window.unit page (copies_by pair.server copies) ≡ named_on pair.window.unit page copies
pair_names copies pair names page =
    rows_name pair.server (λ copy. places_in pair.window.unit page copy.to.items) (places_of pair.window.unit page) copies (shows_places pair.window.unit page).same
    (each_weaker (λ copy. copy.name.who ≢ pair.server → LeavesAlone pair copy) (λ copy. copy.name.who ≢ pair.server → places_in pair.window.unit page copy.to.items ≡ [])
    (λ copy leaves other. (shows_places pair.window.unit page).none copy (leaves other pair.window.unit (inr refl))) copies
    (each_from_all (λ (copy : CopyRecord). copy.name.who ≢ pair.server → LeavesAlone pair copy) copies names.foreign))

made_at : (copies : List CopyRecord) (pair : Pair) → HasNames pair copies
    → AreMadeBy pair.window.unit (strokes_at pair.window.pages) (λ page. named_rows pair.window.unit page (copies_by pair.server copies))
made_at copies pair names = record {
  there = λ page. subst (λ (places : List ℕ). All (λ place. place < stroke_count (strokes_at pair.window.pages page)) places) (sym (pair_names copies pair names page)) (names.client.there page);
  others = λ page place stroke here who. subst (λ (places : List ℕ). Contains places place) (sym (pair_names copies pair names page)) (names.client.others page place stroke here who);
}

pub all_made : (home : ℕ) (copies : List CopyRecord) (pairs : List Pair) → ArePairs home copies pairs → AllMadeBy (copies_at copies pairs) pairs
all_made home copies pairs are k pair there =
    subst (λ (o : Option Pair). AreMadeBy pair.window.unit (strokes_at pair.window.pages) (λ page. named_rows pair.window.unit page (copies_in copies o))) (sym there)
    (made_at copies pair (are k pair there).names)

-- more copies stand behind those of before
by_more : (server : UnitId) (copies more : List CopyRecord) → copies_by server (copies ++ more) ≡ copies_by server copies ++ copies_by server more
by_more server copies more =
    ap (map copy_row) (filter-append (λ (copy : CopyRecord). same_unit copy.name.who server) copies more)
    ∙ map-append copy_row (filter (λ (copy : CopyRecord). same_unit copy.name.who server) copies) (filter (λ (copy : CopyRecord). same_unit copy.name.who server) more)

pub copies_grow : (copies more : List CopyRecord) (old new : List Pair) (k : ℕ)
    → option_map (λ (pair : Pair). pair.server) (slice_get new k) ≡ option_map (λ (pair : Pair). pair.server) (slice_get old k)
    → (rows : List CopyRow) × (copies_at (copies ++ more) new k ≡ copies_at copies old k ++ rows)
copies_grow copies more old new k same = at (slice_get old k) (slice_get new k) same
  where
    at : (o p : Option Pair) → option_map (λ (pair : Pair). pair.server) p ≡ option_map (λ (pair : Pair). pair.server) o
        → (rows : List CopyRow) × (copies_in (copies ++ more) p ≡ copies_in copies o ++ rows)
    at None None e = ([], refl)
    at None (Some new) e = absurd (cc (e))
    at (Some old) None e = absurd (cc (e))
    at (Some old) (Some new) e =
        let server : new.server ≡ old.server = some_is new.server old.server e in
        (copies_by old.server more, ap (λ u. copies_by u (copies ++ more)) server ∙ by_more old.server copies more)

-- each pair keeps its server unit
pub servers_stay : (old new : List Pair) → AllStay old new → (k : ℕ)
    → option_map (λ (pair : Pair). pair.server) (slice_get new k) ≡ option_map (λ (pair : Pair). pair.server) (slice_get old k)
servers_stay old new stay k = at (slice_get_cases old k).1
  where
    same : (pair : Pair) (p : Option Pair) → IsSomeAnd p (Stays pair) → option_map (λ (pair : Pair). pair.server) p ≡ Some pair.server
    same pair None is = absurd is
    same pair (Some later) is = ap Some is.server

    at : ((x : Pair) × (k < length old) × (slice_get old k ≡ Some x) × (get_or old k x ≡ x)) ⊎ ((length old ≤ k) × (slice_get old k ≡ None))
        → option_map (λ (pair : Pair). pair.server) (slice_get new k) ≡ option_map (λ (pair : Pair). pair.server) (slice_get old k)
    at (inl here) = same here.0 (slice_get new k) (stay.each k here.0 here.2) ∙ sym (ap (option_map (λ (pair : Pair). pair.server)) here.2)
    at (inr past) =
        let count = stay.count in
        ap (option_map (λ (pair : Pair). pair.server)) (slice_get_past new k (omega (arith, past.0, count)) ∙ sym past.1)

-- what a turn of the server leaves, and one of a script, which makes none
pub rows_grow : (copies copies' : List CopyRecord) (old new : List Pair) → Begins copies copies' → AllStay old new → (k : ℕ)
    → (rows : List CopyRow) × (copies_at copies' new k ≡ copies_at copies old k ++ rows)
rows_grow copies copies' old new begins stay k =
    subst (λ (list : List CopyRecord). (rows : List CopyRow) × (copies_at list new k ≡ copies_at copies old k ++ rows)) (sym begins.1)
    (copies_grow copies begins.0 old new k (servers_stay old new stay k))

-- lists of copies that begin with others
pub begins_same : (copies : List CopyRecord) → Begins copies copies
begins_same copies = ([], sym (append-nil copies))

pub begins_on : (a b c : List CopyRecord) → Begins a b → Begins b c → Begins a c
begins_on a b c first next = (first.0 ++ next.0, next.1 ∙ (ap (λ (list : List CopyRecord). list ++ next.0) first.1 ∙ append_assoc a first.0 next.0))
