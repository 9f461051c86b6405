-- The data-in of a unit's rows were delivered, but for those of the row in service: over a turn of the unit, of another, and at rest.
use Rattle.std.proofs.Common.{◌≡◌, ◌≢◌, ◌⊎◌, inl, inr, ◌++◌, ℕ, zero, suc, Bool, true, false, All, List, [], ◌∷◌, Option, Some, None, IfSome, slice_get, slice_set, refl, sym, ◌∙◌, ap, subst, arith}
use Rattle.std.proofs.lemmas.List.Elements.{All-head, All-tail}
use Rattle.std.proofs.lemmas.Option.{IfSome_then}
use Rattle.vio_num.specs.declared.history.Served.{Served}
use Rattle.vio_num.specs.declared.names.UnitId.{UnitId}
use Rattle.srp_iu.specs.declared.buffer.Desc.{Desc}
use Rattle.tce_window.specs.PortState.{PortState}
use Rattle.rdma_copy.specs.declared.copy.CopyRecord.{CopyRecord}
use Rattle.block_server.specs.Answering.{OnlyRowsOf, StaysRow}
use Rattle.block_server.specs.Cargo.{AreIdle, AreShown, HasCargo, HasRuns, HasToSend, IsAccounted, IsLoaded, IsToSend, Load, Pages, Sight, bytes_seen, cargo, cargo_at, data_bytes, first_command, is_loaded, is_moving, load_at, pages_in, rows_of, sight, unanswered}
use Rattle.block_server.specs.Cargo.Load.{fetching, given, none, sending, tabled}
use Rattle.block_server.specs.Carried.{AreFetched, IsDelivered, IsOutFetched}
use Rattle.block_server.specs.Causes.{Hearing, Told, told_to}
use Rattle.block_server.specs.declared.records.Records.{Records}
use Rattle.block_server.specs.declared.service.Service.{Service}
use Rattle.block_server.specs.declared.service.Stage.{Stage}
use Rattle.block_server.specs.declared.service.Stage.TheVariants.{Answer, DataIn, DataOut, Entry, Given, InTable, OutTable, Start}
use Rattle.block_server.specs.declared.unit.Unit.{Unit}
use Rattle.block_server.proofs.Agreeing.{if_at, some_at}
use Rattle.block_server.proofs.Cargoes.{cargo_is, cargo_none, to_none}
use Rattle.block_server.proofs.HandRows.{row_from, row_in}
use Rattle.block_server.proofs.Hands.{to_send}
use Rattle.block_server.proofs.Units.{get_set_same}

-- where nobody asks for runs, neither the copies nor the command count
pub unasked : (told : Told → Bool) (id : UnitId) (service : Service) (shown shown' : Sight) (h : List Served) → shown'.pages.bytes ≡ shown.pages.bytes
    → IsAccounted told false (cargo_at id service shown h) → IsAccounted told false (cargo_at id service shown' h)
unfolding cargo_at to_send
unasked told id service shown shown' h same = by service.stage service.out.list.items service.inn.list.items service.given.items
  where
    by : (stage : Stage) (outs inns : List Desc) (bytes : List ℕ) → IsAccounted told false (cargo id shown.pages (load_at shown.command stage outs inns bytes) (rows_of h))
        → IsAccounted told false (cargo id shown'.pages (load_at shown'.command stage outs inns bytes) (rows_of h))
    by Start outs inns bytes is = record { rows = is.rows; outs = is.outs; load = tt; runs = λ never. absurd (cc (never)) }
    by OutTable outs inns bytes is = record { rows = is.rows; outs = is.outs; load = tt; runs = λ never. absurd (cc (never)) }
    by InTable outs inns bytes is = record { rows = is.rows; outs = is.outs; load = tt; runs = λ never. absurd (cc (never)) }
    by (Answer outcome) outs inns bytes is = record { rows = is.rows; outs = is.outs; load = tt; runs = λ never. absurd (cc (never)) }
    by (Entry outcome) outs inns bytes is = record { rows = is.rows; outs = is.outs; load = tt; runs = λ never. absurd (cc (never)) }
    by (DataOut cursor) outs inns bytes is = record {
      rows = is.rows;
      outs = is.outs;
      load = record { placed = is.load.placed; brought = subst (AreFetched (told_to told id) outs cursor.done) (sym same) is.load.brought };
      runs = λ never. absurd (cc (never));
    }
    by (Given row reply) outs inns bytes is = record {
      rows = is.rows;
      outs = is.outs;
      load = to_send (told_to told id) id shown.pages shown'.pages (given row inns bytes) (given row inns bytes) (rows_of h) row inns bytes is.load;
      runs = λ never. absurd (cc (never));
    }
    by (DataIn row reply cursor) outs inns bytes is = record {
      rows = is.rows;
      outs = is.outs;
      load = record {
        to_send = to_send (told_to told id) id shown.pages shown'.pages (sending row cursor inns bytes) (sending row cursor inns bytes) (rows_of h) row inns bytes is.load.to_send;
        placed = is.load.placed;
        sent = is.load.sent;
        shows = subst (λ (s : ℕ → ℕ). AreShown s bytes) (sym same) is.load.shows;
      };
      runs = λ never. absurd (cc (never));
    }

-- a turn of the unit
pub cargo_turn : (told : Told → Bool) (units : List Unit) (n : ℕ) (unit unit' : Unit) (own own' : PortState) (copies copies' : List CopyRecord) (records records' : Records)
    → slice_get units n ≡ Some unit
    → (IsAccounted told false (cargo_at unit.id unit.service (sight (first_command unit.pending.items) (pages_in own copies)) records.history.items)
    → IsAccounted told false (cargo_at unit'.id unit'.service (sight (first_command unit'.pending.items) (pages_in own' copies')) records'.history.items))
    → HasCargo told units n own records → HasCargo told (slice_set units n unit') n own' records'
unfolding pages_in
cargo_turn told units n unit unit' own own' copies copies' records records' there step has =
    if_at (slice_get (slice_set units n unit') n) unit' (λ u. IsAccounted told false (cargo_at u.id u.service (bytes_seen own') records'.history.items)) (get_set_same units n unit unit' there)
    (unasked told unit'.id unit'.service (sight (first_command unit'.pending.items) (pages_in own' copies')) (bytes_seen own') records'.history.items refl
    (step (unasked told unit.id unit.service (bytes_seen own) (sight (first_command unit.pending.items) (pages_in own copies)) records.history.items refl
    (some_at (slice_get units n) unit (λ u. IsAccounted told false (cargo_at u.id u.service (bytes_seen own) records.history.items)) there has))))

pub runs_turn : (told : Told → Bool) (units : List Unit) (n : ℕ) (unit unit' : Unit) (own own' : PortState) (copies copies' : List CopyRecord) (records records' : Records)
    → slice_get units n ≡ Some unit
    → (IsAccounted told true (cargo_at unit.id unit.service (sight (first_command unit.pending.items) (pages_in own copies)) records.history.items)
    → IsAccounted told true (cargo_at unit'.id unit'.service (sight (first_command unit'.pending.items) (pages_in own' copies')) records'.history.items))
    → HasRuns told units n own copies records → HasRuns told (slice_set units n unit') n own' copies' records'
runs_turn told units n unit unit' own own' copies copies' records records' there step has =
    if_at (slice_get (slice_set units n unit') n) unit'
    (λ u. IsAccounted told true (cargo_at u.id u.service (sight (first_command u.pending.items) (pages_in own' copies')) records'.history.items)) (get_set_same units n unit unit' there)
    (step (some_at (slice_get units n) unit (λ u. IsAccounted told true (cargo_at u.id u.service (sight (first_command u.pending.items) (pages_in own copies)) records.history.items)) there has))

-- no unit, and one more that has nothing to be copied
pub none_idle : (units : List Unit) → units ≡ [] → AreIdle units
none_idle units empty = subst AreIdle (sym empty) (λ number. tt)

idle_at : (units : List Unit) (unit : Unit) → is_moving unit.service.stage ≡ false → (number : ℕ)
    → IfSome (slice_get units number) (λ u. is_moving u.service.stage ≡ false) → IfSome (slice_get (units ++ unit ∷ []) number) (λ u. is_moving u.service.stage ≡ false)
idle_at [] unit idle zero is = idle
idle_at [] unit idle (suc number) is = tt
idle_at (first ∷ units) unit idle zero is = is
idle_at (first ∷ units) unit idle (suc number) is = idle_at units unit idle number is

pub more_idle : (units : List Unit) (unit : Unit) → AreIdle units → is_moving unit.service.stage ≡ false → AreIdle (units ++ unit ∷ [])
more_idle units unit all idle number = idle_at units unit idle number (all number)

-- no unit has data-in to be copied, and there is no row
pub cargo_unused : (told : Told → Bool) (units : List Unit) (n : ℕ) (own : PortState) (records : Records) → AreIdle units → records.history.items ≡ [] → HasCargo told units n own records
cargo_unused told units n own records idle empty =
    IfSome_then (slice_get units n) (idle n) (λ u before.
    subst (IsAccounted told false) (sym (cargo_none u.id u.service (bytes_seen own) records.history.items before ∙ ap (λ (h : List Served). cargo u.id (pages_in own []) none (rows_of h)) empty))
    (start u.id (pages_in own [])))
  where
    start : (id : UnitId) (shown : Pages) → IsAccounted told false (cargo id shown none [])
    start id shown = record {
      rows = λ place row there own. absurd (no_row place row there);
      outs = λ place row there own. absurd (no_row place row there);
      load = tt;
      runs = λ never. absurd (cc (never));
    }
      where
        no_row : (place : ℕ) (row : Served) → slice_get {X = Served} [] place ≡ Some row → ⊥
        no_row place row there = cc (there)

-- Where nothing is to be copied, the data-in of each row of the unit were delivered.
pub delivered_at_rest : (told : Told → Bool) (units : List Unit) (n : ℕ) (own : PortState) (records : Records) (u : Unit) → slice_get units n ≡ Some u → is_loaded u.service.stage ≡ false
    → HasCargo told units n own records → (place : ℕ) (row : Served) → slice_get records.history.items place ≡ Some row → row.unit ≡ u.id → IsDelivered told row
delivered_at_rest told units n own records u there rest has place row is own_row =
    at (to_none u.id u.service (bytes_seen own) (pages_in own []) records.history.items (omega arith) rest told false
    (some_at (slice_get units n) u (λ u. IsAccounted told false (cargo_at u.id u.service (bytes_seen own) records.history.items)) there has))
  where
    at : IsAccounted told false (cargo u.id (pages_in own []) none (rows_of records.history.items)) → IsDelivered told row
    at hand = by (hand.rows place (unanswered row) (row_in records.history.items place row is) own_row)
      where
        by : ⊥ ⊎ IsDelivered told (unanswered row) → IsDelivered told row
        by (inl never) = absurd never
        by (inr delivered) = by_row delivered
          where
            by_row : IsDelivered told (unanswered row) → IsDelivered told row
            by_row (inl blank) = inl blank
            by_row (inr has) = inr (record { command = has.command; spells = has.spells; inns = has.inns; in_named = has.in_named; all = has.all })

-- The data-out of each row of the unit were fetched.
pub fetched_of_rows : (told : Told → Bool) (units : List Unit) (n : ℕ) (own : PortState) (records : Records) (u : Unit) → slice_get units n ≡ Some u
    → HasCargo told units n own records → (place : ℕ) (row : Served) → slice_get records.history.items place ≡ Some row → row.unit ≡ u.id → IsOutFetched told row
fetched_of_rows told units n own records u there has place row is own_row =
    at (subst (IsAccounted told false) (cargo_is u.id u.service (bytes_seen own) records.history.items _ refl)
    (some_at (slice_get units n) u (λ u. IsAccounted told false (cargo_at u.id u.service (bytes_seen own) records.history.items)) there has))
  where
    at : IsAccounted told false (cargo u.id (pages_in own []) (load_at None u.service.stage u.service.out.list.items u.service.inn.list.items u.service.given.items) (rows_of records.history.items))
        → IsOutFetched told row
    at hand = by (hand.outs place (unanswered row) (row_in records.history.items place row is) own_row)
      where
        by : IsOutFetched told (unanswered row) → IsOutFetched told row
        by (inl empty) = inl empty
        by (inr has) = inr (record { command = has.command; spells = has.spells; outs = has.outs; out_named = has.out_named; all = has.all })

-- ---- a turn of another unit

-- a row of a unit whose rows do not change
kept_row : (other : UnitId) (h h' : List Served) (place : ℕ) (row : Served) → OnlyRowsOf other h h' → row.unit ≢ other → slice_get h' place ≡ Some row → slice_get h place ≡ Some row
kept_row other [] h' place row only apart there = absurd (apart (all_of h' place only there))
  where
    all_of : (list : List Served) (at : ℕ) → All (λ (r : Served). r.unit ≡ other) list → slice_get list at ≡ Some row → row.unit ≡ other
    all_of [] at all is = absurd (cc (is))
    all_of (first ∷ list) zero all is = ap (λ (r : Served). r.unit) (one first row is) ∙ All-head (λ (r : Served). r.unit ≡ other) first list all
      where
        one : (a b : Served) → Some a ≡ Some b → b ≡ a
        one a b e = cc (e)
    all_of (first ∷ list) (suc at) all is = all_of list at (All-tail (λ (r : Served). r.unit ≡ other) first list all) is
kept_row other (first ∷ h) [] place row only apart there = absurd only
kept_row other (first ∷ h) (new ∷ h') zero row only apart there = at only.0
  where
    one : (a b : Served) → Some a ≡ Some b → a ≡ b
    one a b e = cc (e)

    at : StaysRow other first new → Some first ≡ Some row
    at (inl same) = ap Some (sym same) ∙ there
    at (inr both) = absurd (apart (ap (λ (r : Served). r.unit) (sym (one new row there)) ∙ both.is))
kept_row other (first ∷ h) (new ∷ h') (suc place) row only apart there = kept_row other h h' place row only.1 apart there

stays_row : (other : UnitId) (h h' : List Served) (place : ℕ) (row : Served) → OnlyRowsOf other h h' → row.unit ≢ other → slice_get h place ≡ Some row → slice_get h' place ≡ Some row
stays_row other [] h' place row only apart there = absurd (cc (there))
stays_row other (first ∷ h) [] place row only apart there = absurd only
stays_row other (first ∷ h) (new ∷ h') zero row only apart there = at only.0
  where
    one : (a b : Served) → Some a ≡ Some b → a ≡ b
    one a b e = cc (e)

    at : StaysRow other first new → Some new ≡ Some row
    at (inl same) = ap Some same ∙ there
    at (inr both) = absurd (apart (ap (λ (r : Served). r.unit) (sym (one first row there)) ∙ both.was))
stays_row other (first ∷ h) (new ∷ h') (suc place) row only apart there = stays_row other h h' place row only.1 apart there

-- the same of rows but for their answers
seen_kept : (other : UnitId) (h h' : List Served) (place : ℕ) (row : Served) → OnlyRowsOf other h h' → row.unit ≢ other → slice_get (rows_of h') place ≡ Some row → slice_get (rows_of h) place ≡ Some row
seen_kept other h h' place row only apart there =
    let found = row_from h' place row there in
    row_in h place found.0 (kept_row other h h' place found.0 only (λ is. apart (ap (λ (r : Served). r.unit) found.1.1 ∙ is)) found.1.0) ∙ ap Some (sym found.1.1)

seen_stays : (other : UnitId) (h h' : List Served) (place : ℕ) (row : Served) → OnlyRowsOf other h h' → row.unit ≢ other → slice_get (rows_of h) place ≡ Some row → slice_get (rows_of h') place ≡ Some row
seen_stays other h h' place row only apart there =
    let found = row_from h place row there in
    row_in h' place found.0 (stays_row other h h' place found.0 only (λ is. apart (ap (λ (r : Served). r.unit) found.1.1 ∙ is)) found.1.0) ∙ ap Some (sym found.1.1)

has_elsewhere : (Hears : Hearing) (id other : UnitId) (shown : Pages) (load : Load) (h h' : List Served) (place : ℕ) (inns : List Desc) (bytes : List ℕ) → id ≢ other → OnlyRowsOf other h h'
    → HasToSend Hears (cargo id shown load (rows_of h)) place inns bytes → HasToSend Hears (cargo id shown load (rows_of h')) place inns bytes
has_elsewhere Hears id other shown load h h' place inns bytes apart only has = record {
  row = has.row;
  there = seen_stays other h h' place has.row only (λ is. apart (sym has.unit_is ∙ is)) has.there;
  unit_is = has.unit_is;
  inn_is = has.inn_is;
  command = has.command;
  spells = has.spells;
  in_named = has.in_named;
  fits = has.fits;
}

pub hand_elsewhere : (told : Told → Bool) (id other : UnitId) (shown : Pages) (load : Load) (h h' : List Served) → id ≢ other → OnlyRowsOf other h h'
    → IsAccounted told false (cargo id shown load (rows_of h)) → IsAccounted told false (cargo id shown load (rows_of h'))
unfolding has_elsewhere
hand_elsewhere told id other shown load h h' apart only hand = record {
  rows = each;
  outs = λ place row there own. hand.outs place row (seen_kept other h h' place row only (λ is. apart (sym own ∙ is)) there) own;
  load = by load hand.load;
  runs = λ never. absurd (cc (never));
}
  where
    each : (place : ℕ) (row : Served) → slice_get (rows_of h') place ≡ Some row → row.unit ≡ id → IsToSend load place ⊎ IsDelivered told row
    each place row there own = hand.rows place row (seen_kept other h h' place row only (λ is. apart (sym own ∙ is)) there) own

    by : (l : Load) → IsLoaded (told_to told id) (cargo id shown load (rows_of h)) l → IsLoaded (told_to told id) (cargo id shown load (rows_of h')) l
    by none is = tt
    by (tabled command outs) is = tt
    by (fetching command cursor outs inns) is = record { placed = is.placed; brought = is.brought }
    by (given place inns bytes) is = has_elsewhere (told_to told id) id other shown load h h' place inns bytes apart only is
    by (sending place cursor inns bytes) is = record {
      to_send = has_elsewhere (told_to told id) id other shown load h h' place inns bytes apart only is.to_send;
      placed = is.placed;
      sent = is.sent;
      shows = is.shows;
    }

-- What the data's pages show counts, of the own window.
pub cargo_seen : (told : Told → Bool) (units : List Unit) (n : ℕ) (own own' : PortState) (records : Records) → data_bytes own' ≡ data_bytes own
    → HasCargo told units n own records → HasCargo told units n own' records
unfolding pages_in
cargo_seen told units n own own' records same has =
    IfSome_then (slice_get units n) has (λ u before. unasked told u.id u.service (bytes_seen own) (bytes_seen own') records.history.items same before)

-- Another unit's turn leaves a unit's data where it is, if it leaves the data's pages of the unit's own window.
pub cargo_elsewhere : (told : Told → Bool) (units units' : List Unit) (n : ℕ) (own own' : PortState) (records records' : Records) (other : UnitId) → slice_get units' n ≡ slice_get units n
    → data_bytes own' ≡ data_bytes own → ((u : Unit) → slice_get units n ≡ Some u → u.id ≢ other) → OnlyRowsOf other records.history.items records'.history.items
    → HasCargo told units n own records → HasCargo told units' n own' records'
unfolding pages_in
cargo_elsewhere told units units' n own own' records records' other same same_own apart only has = at (slice_get units n) refl has
  where
    step : (u : Unit) → slice_get units n ≡ Some u → IsAccounted told false (cargo_at u.id u.service (bytes_seen own) records.history.items)
        → IsAccounted told false (cargo_at u.id u.service (bytes_seen own') records'.history.items)
    step u there hand =
        unasked told u.id u.service (bytes_seen own) (bytes_seen own') records'.history.items same_own
        (subst (IsAccounted told false) (sym (cargo_is u.id u.service (bytes_seen own) records'.history.items _ refl))
        (hand_elsewhere told u.id other (pages_in own []) (load_at None u.service.stage u.service.out.list.items u.service.inn.list.items u.service.given.items) records.history.items
        records'.history.items (apart u there) only
        (subst (IsAccounted told false) (cargo_is u.id u.service (bytes_seen own) records.history.items _ refl) hand)))

    at : (found : Option Unit) → slice_get units n ≡ found → IfSome found (λ u. IsAccounted told false (cargo_at u.id u.service (bytes_seen own) records.history.items)) → HasCargo told units' n own' records'
    at (Some u) there hand = if_at (slice_get units' n) u (λ v. IsAccounted told false (cargo_at v.id v.service (bytes_seen own') records'.history.items)) (same ∙ there) (step u there hand)
    at None there hand = subst (λ (o : Option Unit). IfSome o (λ u. IsAccounted told false (cargo_at u.id u.service (bytes_seen own') records'.history.items))) (sym (same ∙ there)) tt
