-- The data of what a plain client asked: where a server unit writes them, and what leaves its tables as they are.
use Rattle.std.specs.Prelude.{⊤}
use Rattle.std.proofs.Common.{◌≡◌, ◌∙◌, ◌⊎◌, inl, inr, ℕ, zero, suc, ◌+◌, ◌*◌, ◌/◌, ◌<◌, ◌≤◌, ◌++◌, ◌&&◌, nat_lt, All, Bool, true, false, true≢false, cond, List, [], ◌∷◌, Option, Some, length, refl, slice_get, sym, ap, subst, arith, ◌%◌}
use Rattle.std.proofs.lemmas.Bool.Decides.{nat_tests}
use Rattle.std.proofs.lemmas.List.Elements.{All-cons, All-head, All-nil, All-tail, All-weaker, All-push}
use Rattle.srp_desc.specs.Pieces.{is_complete, named, pieces, sum_of}
use Rattle.srp_desc.specs.Tables.{table_len, tables_of}
use Rattle.srp_iu.specs.declared.buffer.Buffer.{Buffer}
use Rattle.srp_iu.specs.declared.buffer.Buffer.TheVariants.{Absent, Direct, Indirect}
use Rattle.srp_iu.specs.declared.buffer.Desc.{Desc}
use Rattle.srp_iu.specs.declared.unit.Iu.{Iu}
use Rattle.srp_iu.specs.declared.unit.Iu.TheVariants as units
use Rattle.tce_window.specs.PortState.{PortState, Writes}
use Rattle.tce_window.specs.Region.{region_byte, byte_in}
use Rattle.block_server.specs.Causes.{IsFetched}
use Rattle.block_server.specs.Ranges.{IsDataIn, IsInNamed, LaysWithin, MayWrite, known_in}
use Rattle.block_server.specs.Standing.{stood}
use Rattle.block_server.specs.Talk.{order_asked}
use Rattle.block_server.specs.declared.request.Order.{Order}
use Rattle.block_server.specs.declared.request.Request.{Request}
use Rattle.vscsi_client.specs.Spans.{meets, no_pages, span_of}
use Rattle.vscsi_client.specs.Units.{slot_address}
use Rattle.vscsi_client.specs.declared.TheConstants.{DATA_START, SLOTS}
use Rattle.vscsi_client.specs.declared.outgoing.Outgoing.{Outgoing}
use Rattle.vscsi_client.specs.declared.outgoing.Span.{Span}
use Rattle.vcpu_run.specs.PlainTalk.{AreSpared, Ask, DataLies, IsAsk, IsOwnWindow, IsPendingAs, KeepsTables, LiesOn, TableStands, has_logout, inn_of, is_login, is_logout, name_of, names_of}
use Rattle.vcpu_run.proofs.PlainLeaves.{lays_apart}
use Rattle.vcpu_run.proofs.PlainStays.{Apart, laid_apart}
use Rattle.vcpu_run.proofs.PlainTables.{reads_what_stands, region_same}
use Rattle.page_slots.specs.Stroke.{StrokeValue}

-- ---- where data go

-- a buffer has one table at most
pub tables_few : (buffer : Buffer) → length (tables_of buffer) ≤ 1
tables_few Absent = omega arith
tables_few (Direct desc) = omega arith
tables_few (Indirect table total list) = by (is_complete table list)
  where
    by : (b : Bool) → length (cond b [] (table ∷ [])) ≤ 1
    by true = omega arith
    by false = omega arith

nothing : (list : List ℕ) → length list ≡ 0 → list ≡ []
nothing [] none = refl
nothing (x ∷ list) none = absurd (cc (none))

-- what is read as its table is what stands there
pub table_read : (window : PortState) → IsOwnWindow window → (span : Span) (bytes read : List ℕ) (tables : List Desc) → length tables ≤ 1 → length read ≡ sum_of tables
    → length bytes ≡ sum_of tables → All (TableStands window span bytes) tables → IsFetched (stood window) tables read → read ≡ bytes
table_read window own span bytes read [] few long whole stand fetched = nothing read long ∙ sym (nothing bytes whole)
table_read window own span bytes read (table ∷ []) few long whole stand fetched =
    reads_what_stands window own table.address bytes read (omega (arith, long, whole))
    (λ k less. (All-head (TableStands window span bytes) table [] stand).stands k (omega (arith, less, whole))) fetched
table_read window own span bytes read (table ∷ next ∷ tables) few long whole stand fetched = absurd (omega (arith, few))

-- one of a list
one_of_all : (P : Desc → Type 0) (list : List Desc) (at : ℕ) (piece : Desc) → All P list → slice_get list at ≡ Some piece → P piece
one_of_all P [] zero piece all is = absurd (cc (is))
one_of_all P [] (suc at) piece all is = absurd (cc (is))
one_of_all P (first ∷ list) zero piece all is = subst P (heads first piece is) (All-head P first list all)
  where
    heads : (a b : Desc) → Some a ≡ Some b → a ≡ b
    heads a b e = cc (e)
one_of_all P (first ∷ list) (suc at) piece all is = one_of_all P list at piece (All-tail P first list all) is

-- A range lies behind the driver's pages, in these.
pub record GoesOn (span : Span) (address len : ℕ) : Type 0 where
  pub behind : DATA_START ≤ address
  pub from : 4096 * span.first ≤ address
  pub to : address + len ≤ 4096 * span.end

part_goes : (window : PortState) → IsOwnWindow window → (ask : Ask) → DataLies window ask → (a n : ℕ) → IsInNamed (stood window) (inn_of ask.iu) a n → GoesOn ask.pages a n
part_goes window own ask data' a n in_named =
    let read : in_named.named.table ≡ data'.bytes =
    table_read window own ask.table data'.bytes in_named.named.table (tables_of (inn_of ask.iu)) (tables_few (inn_of ask.iu)) in_named.named.full data'.whole data'.table in_named.named.brought in
    let all : All (LiesOn ask.pages) in_named.list =
    data'.goes in_named.list (ap (pieces (inn_of ask.iu)) (sym read) ∙ in_named.named.named_is) in
    let lies : LiesOn ask.pages in_named.part.piece = one_of_all (LiesOn ask.pages) in_named.list in_named.part.at in_named.part.piece all in_named.part.one in
    let from = in_named.part.from in
    let to = in_named.part.to in
    record { behind = omega (arith, lies.behind, from); from = omega (arith, lies.from, from); to = omega (arith, lies.to, to) }

named_of : (window : PortState) (iu : Iu) (a n : ℕ) → IsDataIn (stood window) (order_asked iu) a n → IsInNamed (stood window) (inn_of iu) a n
named_of window (units.Cmd command) a n is = is
named_of window (units.LoginReq request) a n is = absurd is
named_of window (units.ILogout tag) a n is = absurd is
named_of window (units.TskMgmt task) a n is = absurd is
named_of window iu a n is = absurd is

-- the data of a request go there
pub data_goes : (window : PortState) → IsOwnWindow window → (ask : Ask) → DataLies window ask → (order : Order) → order ≡ order_asked ask.iu → (a n : ℕ)
    → IsDataIn (stood window) order a n → GoesOn ask.pages a n
data_goes window own ask data' order is a n goes =
    part_goes window own ask data' a n (named_of window ask.iu a n (subst (λ (o : Order). IsDataIn (stood window) o a n) is goes))

-- ---- what has no data

none_named : (list : List Desc) → named [] ≡ named list → list ≡ []
none_named list is = cc (is)

pub login_none : (iu : Iu) → is_login iu ≡ true → inn_of iu ≡ Absent
login_none (units.LoginReq request) is = refl
login_none (units.ILogout tag) is = refl
login_none (units.TskMgmt task) is = refl
login_none (units.Cmd command) is = absurd (cc (is))
login_none iu is = absurd (cc (is))

pub logout_none : (iu : Iu) → is_logout iu ≡ true → inn_of iu ≡ Absent
logout_none (units.LoginReq request) is = refl
logout_none (units.ILogout tag) is = refl
logout_none (units.TskMgmt task) is = refl
logout_none (units.Cmd command) is = absurd (cc (is))
logout_none iu is = absurd (cc (is))

pub no_data : (window : PortState) (ask : Ask) → inn_of ask.iu ≡ Absent → DataLies window ask
no_data window ask none = record {
  bytes = [];
  whole = sym (ap table_len none);
  table = subst (λ (buffer : Buffer). All (TableStands window ask.table []) (tables_of buffer)) (sym none) (All-nil (TableStands window ask.table []));
  goes = λ list is. subst (All (LiesOn ask.pages)) (sym (none_named list (sym (ap (λ (buffer : Buffer). pieces buffer []) none) ∙ is))) (All-nil (LiesOn ask.pages));
  places = λ list is j less. absurd (no_byte j
      (subst (λ (list : List Desc). j < sum_of list) (none_named list (sym (ap (λ (buffer : Buffer). pieces buffer []) none) ∙ is)) less));
}
  where
    no_byte : (j : ℕ) → j < sum_of [] → ⊥
    no_byte j less = omega (arith, less)

-- ---- what leaves tables as they are

-- two spans that do not meet lie behind one another
pub spans_apart : (a b : Span) → meets a b ≡ false → (b.end ≤ a.first) ⊎ (a.end ≤ b.first)
spans_apart a b none = by (nat_lt a.first b.end) (nat_lt b.first a.end) refl refl none
  where
    by : (x y : Bool) → nat_lt a.first b.end ≡ x → nat_lt b.first a.end ≡ y → (x && y) ≡ false → (b.end ≤ a.first) ⊎ (a.end ≤ b.first)
    by false y is also none = inl (grind (arith, nat_tests, is))
    by true false is also none = inr (grind (arith, nat_tests, also))
    by true true is also none = absurd (true≢false none)

-- the addresses of a table's pages, behind the driver's
pub record IsOfTable (ask : Ask) (a : ℕ) : Type 0 where
  pub behind : DATA_START ≤ a
  pub from : 4096 * ask.table.first ≤ a
  pub to : a < 4096 * ask.table.end

pub data_stays : (old new : PortState) (ask : Ask) → ((a : ℕ) → IsOfTable ask a → region_byte new.strokes a ≡ region_byte old.strokes a) → DataLies old ask → DataLies new ask
data_stays old new ask same data' = record {
  bytes = data'.bytes;
  whole = data'.whole;
  table = All-weaker (TableStands old ask.table data'.bytes) (TableStands new ask.table data'.bytes) still (tables_of (inn_of ask.iu)) data'.table;
  goes = data'.goes;
  places = data'.places;
}
  where
    still : (table : Desc) → TableStands old ask.table data'.bytes table → TableStands new ask.table data'.bytes table
    still table stands = record {
      lies = stands.lies;
      stands = λ k less.
          same (table.address + k) (record { behind = omega (arith, stands.lies.behind); from = omega (arith, stands.lies.from); to = omega (arith, stands.lies.to, less) })
          ∙ stands.stands k less;
    }

-- a write of the client's own beside a table
pub write_data : (old new : PortState) (at mark : ℕ) (bytes : List ℕ) → Writes false old at bytes mark new
    → KeepsTables (λ ask. (a : ℕ) → IsOfTable ask a → Apart at (length bytes) a 1) old new
write_data old new at mark bytes wrote ask apart data' =
    data_stays old new ask (λ a of. region_same old new a (laid_apart old new at mark bytes a 1 wrote (omega arith) (omega arith) (apart a of))) data'

-- nothing
pub data_same : (old new : PortState) → ((p : ℕ) → new.strokes p ≡ old.strokes p) → KeepsTables (λ ask. ⊤) old new
data_same old new same ask spares data' = data_stays old new ask (λ a of. ap (λ (now : Option (List StrokeValue)). byte_in now (a % 4096)) (same (a / 4096))) data'

pub data_kept : (old new : PortState) → new ≡ old → KeepsTables (λ ask. ⊤) old new
data_kept old new same = data_same old new (λ p. ap (λ (window : PortState). window.strokes p) same)

pub data_on : (spared : Ask → Type 0) (a b c : PortState) → KeepsTables spared a b → KeepsTables (λ ask. ⊤) b c → KeepsTables spared a c
data_on spared a b c first next ask spares data' = next ask tt (first ask spares data')

-- that of a unit into its slot
pub unit_data : (old new : PortState) (slot mark : ℕ) (bytes : List ℕ) → slot ≤ SLOTS → length bytes ≤ 256 → Writes false old (slot_address slot) bytes mark new
    → KeepsTables (λ ask. ⊤) old new
unit_data old new slot mark bytes within few wrote ask spares data' =
    write_data old new (slot_address slot) mark bytes wrote ask (λ a of. inl (omega (arith, of.behind, within, few))) data'

-- that of other pages
pub span_data : (old new : PortState) (at mark : ℕ) (bytes : List ℕ) → Writes false old at bytes mark new
    → KeepsTables (λ ask. meets ask.table (span_of at (length bytes)) ≡ false) old new
span_data old new at mark bytes wrote ask apart data' = write_data old new at mark bytes wrote ask beside data'
  where
    beside : (a : ℕ) → IsOfTable ask a → Apart at (length bytes) a 1
    beside a of = by (spans_apart ask.table (span_of at (length bytes)) apart)
      where
        by : ((at + length bytes + 4095) / 4096 ≤ ask.table.first) ⊎ (ask.table.end ≤ at / 4096) → Apart at (length bytes) a 1
        by (inl before) = inl (omega (arith, before, of.from))
        by (inr behind) = inr (omega (arith, behind, of.to))

-- what a server unit lays as it serves a request
pub served_data : (old new : PortState) (request : Request) (ask : Ask) → IsOwnWindow old → IsPendingAs request ask → IsAsk ask → DataLies old ask
    → LaysWithin (MayWrite (stood old) request) (known_in old) (known_in new) → KeepsTables (λ other. meets ask.pages other.table ≡ false) old new
served_data old new request ask own pending is_ask data' lays other apart table =
    data_stays old new other (λ a of. region_same old new a (lays_apart (MayWrite (stood old) request) old new a 1 own lays (omega arith) (beside a of))) table
  where
    beside : (a : ℕ) → IsOfTable other a → (b n : ℕ) → MayWrite (stood old) request b n → Apart b n a 1
    beside a of b n (inl answer) = inl (omega (arith, answer.0, pending.address, answer.1, is_ask.slot_is, of.behind))
    beside a of b n (inr goes) = by (spans_apart ask.pages other.table apart)
      where
        there : GoesOn ask.pages b n
        there = data_goes old own ask data' request.order pending.order b n goes

        by : (other.table.end ≤ ask.pages.first) ⊎ (ask.pages.end ≤ other.table.first) → Apart b n a 1
        by (inl before) = inr (omega (arith, before, of.to, there.from))
        by (inr behind) = inl (omega (arith, behind, of.from, there.to))

-- ---- lists of what was asked

-- none of these lies on no pages
pub meets_none : (span : Span) → meets span no_pages ≡ false
meets_none span = grind (arith, nat_tests)

pub none_meets : (span : Span) → meets no_pages span ≡ false
none_meets span = grind (arith, nat_tests)

pub spared_push : (asked : List Ask) (ask : Ask) → AreSpared asked → All (λ one. meets one.pages ask.table ≡ false) asked → AreSpared (asked ++ ask ∷ [])
spared_push [] ask spared all = (All-nil (λ (other : Ask). meets ask.pages other.table ≡ false), tt)
spared_push (first ∷ asked) ask spared all = (
  All-push (λ (other : Ask). meets first.pages other.table ≡ false) asked ask spared.0 (All-head (λ (one : Ask). meets one.pages ask.table ≡ false) first asked all),
  spared_push asked ask spared.1 (All-tail (λ (one : Ask). meets one.pages ask.table ≡ false) first asked all),
)

-- what is so of those that have a name is so of their names
pub names_rest : (P : Outgoing → Type 0) (front rest : List Ask) → All P (names_of (front ++ rest)) → All P (names_of rest)
names_rest P [] rest all = all
names_rest P (first ∷ front) rest all = by (is_logout first.iu) all (λ more. names_rest P front rest more)
  where
    by : (b : Bool) → All P (cond b (names_of (front ++ rest)) (name_of first ∷ names_of (front ++ rest))) → (All P (names_of (front ++ rest)) → All P (names_of rest))
        → All P (names_of rest)
    by true all later = later all
    by false all later = later (All-tail P (name_of first) (names_of (front ++ rest)) all)

-- those whose names are spared have their data
pub named_kept : (P : Outgoing → Type 0) (old new : PortState) → KeepsTables (λ ask. P (name_of ask)) old new → (asked : List Ask) → All P (names_of asked) → All (DataLies old) asked
    → All (DataLies new) asked
named_kept P old new keeps [] names all = All-nil (DataLies new)
named_kept P old new keeps (first ∷ asked) names all =
    by (is_logout first.iu) refl names (λ more. named_kept P old new keeps asked more (All-tail (DataLies old) first asked all))
  where
    by : (b : Bool) → is_logout first.iu ≡ b → All P (cond b (names_of asked) (name_of first ∷ names_of asked)) → (All P (names_of asked) → All (DataLies new) asked)
        → All (DataLies new) (first ∷ asked)
    by true e names later = All-cons (DataLies new) first asked (no_data new first (logout_none first.iu e)) (later names)
    by false e names later =
        All-cons (DataLies new) first asked (keeps first (All-head P (name_of first) (names_of asked) names) (All-head (DataLies old) first asked all))
        (later (All-tail P (name_of first) (names_of asked) names))

-- a logout has no name
pub named_all : (P : Outgoing → Type 0) (asked : List Ask) → has_logout asked ≡ false → All P (names_of asked) → All (λ one. P (name_of one)) asked
named_all P [] none names = All-nil (λ (one : Ask). P (name_of one))
named_all P (first ∷ asked) none names =
    by (is_logout first.iu) none names (λ less more. named_all P asked less more)
  where
    by : (b : Bool) → cond b true (has_logout asked) ≡ false → All P (cond b (names_of asked) (name_of first ∷ names_of asked))
        → (has_logout asked ≡ false → All P (names_of asked) → All (λ one. P (name_of one)) asked) → All (λ one. P (name_of one)) (first ∷ asked)
    by true none names later = absurd (true≢false none)
    by false none names later =
        All-cons (λ (one : Ask). P (name_of one)) first asked (All-head P (name_of first) (names_of asked) names) (later none (All-tail P (name_of first) (names_of asked) names))
