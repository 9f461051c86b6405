-- What calls leave of the deliveries and drops of a port, and what an offer adds to them.
use Rattle.std.proofs.Common.{◌≡◌, ◌+◌, ◌-◌, ◌^◌, ◌<◌, ◌≤◌, ◌==◌, ℕ, zero, suc, arith, Bool, true, false, cond, List, [], ◌∷◌, ◌++◌, append-nil, Option, Some, None, IsSome, filter, length, length-append, map, slice_index, slice_set, if◌then◌else◌, refl, sym, ◌∙◌, ap, subst}
use Rattle.std.specs.List.{flat_map}
use Rattle.std.proofs.lemmas.Bool.{eq-eqb, eqb-true}
use Rattle.std.proofs.lemmas.List.{append_assoc}
use Rattle.std.proofs.lemmas.List.Elements.{filter-append}
use Rattle.vio_num.specs.Counts.{risen}
use Rattle.vio_num.specs.declared.names.Mac.{Mac}
use Rattle.vio_num.specs.declared.names.UnitId.{UnitId}
use Rattle.page_slots.specs.declared.stroke.StrokeName.{StrokeName}
use Rattle.tce_window.specs.Held.{held_len}
use Rattle.tce_window.specs.Pieces.{Touches}
use Rattle.tce_window.specs.declared.piece.Piece.{Piece}
use Rattle.lan_buffers.specs.Calls.{BeginsSession, IsOpen, one_more}
use Rattle.lan_buffers.specs.Port.{PortValue, Session}
use Rattle.lan_buffers.specs.declared.rows.DeliverRow.{DeliverRow as Delivery}
use Rattle.lan_buffers.specs.declared.settings.Settings.{Settings}
use Rattle.lan_switch.specs.Switch.{same_unit}
use Rattle.vio_trace.specs.declared.lan_rows.DeliverRow.{DeliverRow}
use Rattle.vio_trace.specs.declared.lan_rows.Offered.{Offered}
use Rattle.lan_script.specs.Delivered.{Delivered, bytes_in, drops_of, offer_says, row_says, taken}
use Rattle.lan_script.specs.Frames.{piece_row_of}
use Rattle.lan_script.specs.Invariant.{total}
use Rattle.lan_script.specs.Rows.{deliver_row_of, deliver_rows, deliveries_in, filled_of, sessions_from}

-- a delivery behind others, among those of a session
in_own : (x : UnitId) (rows : List Delivery) (row : Delivery) (q : ℕ) → (row.session == q) ≡ true
    → deliveries_in x (rows ++ row ∷ []) q ≡ deliveries_in x rows q ++ deliver_row_of x row ∷ []
in_own x rows row q e =
    ap (λ (l : List Delivery). map (deliver_row_of x) l) (filter-append (λ (r : Delivery). r.session == q) rows (row ∷ []) ∙ last)
    ∙ mapped (filter (λ (r : Delivery). r.session == q) rows)
  where
    at : (b : Bool) → b ≡ true → cond b (row ∷ []) [] ≡ row ∷ []
    at true f = refl
    at false f = absurd (cc (f))

    last : filter (λ (r : Delivery). r.session == q) rows ++ filter (λ (r : Delivery). r.session == q) (row ∷ [])
        ≡ filter (λ (r : Delivery). r.session == q) rows ++ row ∷ []
    last = ap (λ l. filter (λ (r : Delivery). r.session == q) rows ++ l) (at (row.session == q) e)

    mapped : (l : List Delivery) → map (deliver_row_of x) (l ++ row ∷ []) ≡ map (deliver_row_of x) l ++ deliver_row_of x row ∷ []
    mapped [] = refl
    mapped (y ∷ l) = ap (λ m. deliver_row_of x y ∷ m) (mapped l)

in_other : (x : UnitId) (rows : List Delivery) (row : Delivery) (q : ℕ) → (row.session == q) ≡ false
    → deliveries_in x (rows ++ row ∷ []) q ≡ deliveries_in x rows q
in_other x rows row q e =
    ap (λ (l : List Delivery). map (deliver_row_of x) l)
    (filter-append (λ (r : Delivery). r.session == q) rows (row ∷ []) ∙ last ∙ append-nil (filter (λ (r : Delivery). r.session == q) rows))
  where
    at : (b : Bool) → b ≡ false → cond b (row ∷ []) [] ≡ []
    at true f = absurd (cc (f))
    at false f = refl

    last : filter (λ (r : Delivery). r.session == q) rows ++ filter (λ (r : Delivery). r.session == q) (row ∷ [])
        ≡ filter (λ (r : Delivery). r.session == q) rows ++ []
    last = ap (λ l. filter (λ (r : Delivery). r.session == q) rows ++ l) (at (row.session == q) e)

-- a delivery of the last session stands behind all
last_behind : (x : UnitId) (rows : List Delivery) (row : Delivery) (q count : ℕ) → row.session ≡ q + count
    → flat_map (deliveries_in x (rows ++ row ∷ [])) (sessions_from q (suc count))
    ≡ flat_map (deliveries_in x rows) (sessions_from q (suc count)) ++ deliver_row_of x row ∷ []
last_behind x rows row q zero e =
    ap (λ l. l ++ []) (in_own x rows row q (eq-eqb row.session q (omega (arith, e)))) ∙ append-nil (deliveries_in x rows q ++ deliver_row_of x row ∷ [])
    ∙ ap (λ l. l ++ deliver_row_of x row ∷ []) (sym (append-nil (deliveries_in x rows q)))
last_behind x rows row q (suc count) e =
    ap (λ l. l ++ flat_map (deliveries_in x (rows ++ row ∷ [])) (sessions_from (q + 1) (suc count))) (in_other x rows row q (other (row.session == q) refl))
    ∙ ap (λ l. deliveries_in x rows q ++ l) (last_behind x rows row (q + 1) count (omega (arith, e)))
    ∙ sym (append_assoc (deliveries_in x rows q) (flat_map (deliveries_in x rows) (sessions_from (q + 1) (suc count))) (deliver_row_of x row ∷ []))
  where
    other : (b : Bool) → (row.session == q) ≡ b → (row.session == q) ≡ false
    other true f = absurd (omega (arith, e, eqb-true row.session q f))
    other false f = f

-- a session without deliveries adds none
none_behind : (x : UnitId) (rows : List Delivery) (q count : ℕ) → filter (λ (r : Delivery). r.session == (q + count)) rows ≡ []
    → flat_map (deliveries_in x rows) (sessions_from q (suc count)) ≡ flat_map (deliveries_in x rows) (sessions_from q count)
none_behind x rows q zero e =
    ap (λ (l : List Delivery). map (deliver_row_of x) l ++ []) (ap (λ n. filter (λ (r : Delivery). r.session == n) rows) (same q) ∙ e)
  where
    same : (n : ℕ) → n ≡ n + 0
    same n = omega arith
none_behind x rows q (suc count) e =
    ap (λ l. deliveries_in x rows q ++ l)
    (none_behind x rows (q + 1) count (ap (λ n. filter (λ (r : Delivery). r.session == n) rows) (same q count) ∙ e))
  where
    same : (n m : ℕ) → n + 1 + m ≡ n + suc m
    same n m = omega arith

pub taken_append : (sender : UnitId) (xs ys : List DeliverRow) → taken sender (xs ++ ys) ≡ taken sender xs ++ taken sender ys
taken_append sender [] ys = refl
taken_append sender (x ∷ xs) ys = at (same_unit x.sender sender) (taken_append sender xs ys)
  where
    at : (b : Bool) → taken sender (xs ++ ys) ≡ taken sender xs ++ taken sender ys
        → (if b then row_says x ∷ taken sender (xs ++ ys) else taken sender (xs ++ ys))
        ≡ (if b then row_says x ∷ taken sender xs else taken sender xs) ++ taken sender ys
    at true rest = ap (λ l. row_says x ∷ l) rest
    at false rest = rest

-- the bytes of pieces, as rows and as they were
bytes_are : (pieces : List Piece) → bytes_in (map piece_row_of pieces) ≡ held_len pieces
bytes_are [] = refl
bytes_are (piece ∷ pieces) = ap (λ n. piece.len + n) (bytes_are pieces)

pub touched_bytes : (unit : UnitId) (from to : ℕ) (pieces : List Piece) → Touches unit from to pieces → from + bytes_in (map piece_row_of pieces) ≡ to
touched_bytes unit from to [] h = omega (arith, h)
touched_bytes unit from to (piece ∷ pieces) h = omega (arith, touched_bytes unit (from + piece.len) to pieces h.2)

-- the counts of drops with one more
raised : (counts : List ℕ) (k : ℕ) → k + 1 ≡ length counts → total counts + 1 < 2 ^ 64
    → total (slice_set counts k (risen (slice_index counts k))) ≡ total counts + 1
raised [] k e less = absurd (omega (arith, e))
raised (c ∷ []) zero e less = omega (arith, less)
raised (c ∷ []) (suc k) e less = absurd (omega (arith, e))
raised (c ∷ d ∷ counts) zero e less = absurd (omega (arith, e))
raised (c ∷ d ∷ counts) (suc k) e less = omega (arith, raised (d ∷ counts) k (omega (arith, e)) (omega (arith, less)))

raised_long : (counts : List ℕ) (k x : ℕ) → length (slice_set counts k x) ≡ length counts
raised_long [] k x = refl
raised_long (c ∷ counts) zero x = refl
raised_long (c ∷ counts) (suc k) x = ap suc (raised_long counts k x)

pub one_more_long : (counts : List ℕ) → length (one_more counts) ≡ length counts
one_more_long counts = raised_long counts (length counts - 1) (risen (slice_index counts (length counts - 1)))

pub one_more_total : (counts : List ℕ) → 1 ≤ length counts → total counts + 1 < 2 ^ 64 → total (one_more counts) ≡ total counts + 1
one_more_total counts some less = raised counts (length counts - 1) (omega (arith, some)) less

-- What a call that is no offer leaves: the rows of the deliveries, the drops, and that an open port is in a session.
pub record KeepsTally (before after : PortValue) : Type 0 where
  pub begun : (IsOpen before → 1 ≤ length before.drop_counts) → IsOpen after → 1 ≤ length after.drop_counts
  pub rows : (unit : UnitId) → deliver_rows unit after ≡ deliver_rows unit before
  pub drops : total after.drop_counts ≡ total before.drop_counts

pub keeps_tally : (before after : PortValue) → after.deliveries ≡ before.deliveries → after.drop_counts ≡ before.drop_counts
    → (IsOpen after → IsOpen before) → KeepsTally before after
keeps_tally before after rows drops opened = record {
  begun = λ begun is. subst (λ (l : List ℕ). 1 ≤ length l) (sym drops) (begun (opened is));
  rows = λ unit.
      ap (λ (l : List Delivery). flat_map (deliveries_in unit l) (sessions_from 1 (length after.drop_counts))) rows
      ∙ ap (λ (l : List ℕ). flat_map (deliveries_in unit before.deliveries) (sessions_from 1 (length l))) drops;
  drops = ap (λ (l : List ℕ). total l) drops;
}

pub same_tally : (before after : PortValue) → after ≡ before → KeepsTally before after
same_tally before after e =
    keeps_tally before after (ap (λ (p : PortValue). p.deliveries) e) (ap (λ (p : PortValue). p.drop_counts) e)
    (λ is. subst (λ (p : PortValue). IsOpen p) e is)

-- a closed port is not open
pub shut : (settings : Option Settings) → settings ≡ None → IsSome settings → ⊥
shut (Some settings) e is = cc (e)
shut None e is = cc (is)

-- a session that begins has no delivery and no drop
pub begins_tally : (before after : PortValue) (mac : Mac) → BeginsSession before mac after → KeepsTally before after
begins_tally before after mac h = record {
  begun = λ begun is. omega (arith, long);
  rows = λ unit.
      ap (λ (l : List Delivery). flat_map (deliveries_in unit l) (sessions_from 1 (length after.drop_counts))) (ap (λ (p : PortValue). p.deliveries) h.rest)
      ∙ ap (λ n. flat_map (deliveries_in unit before.deliveries) (sessions_from 1 n)) long
      ∙ none_behind unit before.deliveries 1 (length before.drop_counts) none;
  drops = ap (λ (l : List ℕ). total l) h.counts ∙ more before.drop_counts;
}
  where
    long : length after.drop_counts ≡ suc (length before.drop_counts)
    long = omega (arith, ap (λ (l : List ℕ). length l) h.counts, length-append before.drop_counts (0 ∷ []))

    none : filter (λ (r : Delivery). r.session == (1 + length before.drop_counts)) before.deliveries ≡ []
    none =
        ap (λ n. filter (λ (r : Delivery). r.session == n) before.deliveries) (omega (arith, long))
        ∙ ap (λ (l : List Delivery). filter (λ (r : Delivery). r.session == length after.drop_counts) l) (sym (ap (λ (p : PortValue). p.deliveries) h.rest))
        ∙ ap (λ (s : Session). s.deliveries) h.empty

    more : (l : List ℕ) → total (l ++ 0 ∷ []) ≡ total l
    more [] = refl
    more (c ∷ l) = ap (λ n. c + n) (more l)

-- what a sender's offer says of a delivery
abbrev pub said : StrokeName → (len : ℕ) → Offered → (sender : UnitId) → List Delivered
said name len offered sender = if same_unit name.who sender then offer_says name.mark len offered else []

-- What an answer adds to a port: a delivery that it says, or a drop, of a frame of this name and length.
pub record AddsTally (name : StrokeName) (len : ℕ) (offered : Offered) (before after : PortValue) : Type 0 where
  pub begun : IsOpen after → 1 ≤ length after.drop_counts
  pub rows : (unit sender : UnitId) → taken sender (deliver_rows unit after)
      ≡ taken sender (deliver_rows unit before) ++ said name len offered sender
  pub drops : total before.drop_counts + drops_of offered < 2 ^ 64 → total after.drop_counts ≡ total before.drop_counts + drops_of offered

-- one delivery more, in the last session
pub one_row : (unit : UnitId) (before after : PortValue) (row : Delivery) → after.deliveries ≡ before.deliveries ++ row ∷ []
    → row.session ≡ length before.drop_counts → length after.drop_counts ≡ length before.drop_counts → 1 ≤ length before.drop_counts
    → deliver_rows unit after ≡ deliver_rows unit before ++ deliver_row_of unit row ∷ []
one_row unit before after row rows session same some =
    ap (λ (l : List Delivery). flat_map (deliveries_in unit l) (sessions_from 1 (length after.drop_counts))) rows
    ∙ ap (λ n. flat_map (deliveries_in unit (before.deliveries ++ row ∷ [])) (sessions_from 1 n)) (same ∙ long)
    ∙ last_behind unit before.deliveries row 1 (length before.drop_counts - 1) (omega (arith, session, some))
    ∙ ap (λ n. flat_map (deliveries_in unit before.deliveries) (sessions_from 1 n) ++ deliver_row_of unit row ∷ []) (sym long)
  where
    long : length before.drop_counts ≡ suc (length before.drop_counts - 1)
    long = omega (arith, some)

-- a delivery under this name, which says so
abbrev pub as_said : StrokeName → Bool → (len : ℕ) → Delivered
as_said name blank len = record { number = name.mark; filled = filled_of blank; len = len }

row_is : (unit : UnitId) (row : Delivery) (name : StrokeName) (blank : Bool) (len : ℕ) → row.name ≡ name → row.blank ≡ blank
    → bytes_in (map piece_row_of row.to.items) ≡ len → row_says (deliver_row_of unit row) ≡ as_said name blank len
row_is unit row name blank len e f g =
    ap (λ (m : StrokeName). as_said m row.blank (bytes_in (map piece_row_of row.to.items))) e
    ∙ ap (λ b. as_said name b (bytes_in (map piece_row_of row.to.items))) f
    ∙ ap (λ n. as_said name blank n) g

pub one_taken : (unit sender : UnitId) (row : Delivery) (name : StrokeName) (blank : Bool) (len : ℕ) → row.name ≡ name → row.blank ≡ blank
    → bytes_in (map piece_row_of row.to.items) ≡ len
    → taken sender (deliver_row_of unit row ∷ []) ≡ (if same_unit name.who sender then as_said name blank len ∷ [] else [])
one_taken unit sender row name blank len e f g =
    by (same_unit row.name.who sender)
    ∙ ap (λ (m : StrokeName). if same_unit m.who sender then as_said name blank len ∷ [] else []) e
  where
    by : (b : Bool) → (if b then row_says (deliver_row_of unit row) ∷ [] else []) ≡ (if b then as_said name blank len ∷ [] else [])
    by true = ap (λ (d : Delivered). d ∷ []) (row_is unit row name blank len e f g)
    by false = refl
