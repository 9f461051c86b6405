-- The data-in of a plain client's command, by its buffer: the table stands, if it has one, and all pieces lie in the pages of the data.
use Rattle.std.specs.Prelude.{MatchBool, MatchOption}
use Rattle.std.proofs.Common.{◌≡◌, ◌∙◌, ℕ, ◌+◌, ◌*◌, ◌^◌, ◌<◌, ◌≤◌, ◌==◌, nat_le, nat_lt, All, Bool, true, false, cond, List, [], ◌∷◌, Option, Some, None, get_or, length, refl, sym, ap, subst, arith, eqb-true}
use Rattle.std.proofs.lemmas.Bool.Decides.{nat_tests}
use Rattle.std.proofs.lemmas.List.Elements.{All-cons, All-nil, All-weaker}
use Rattle.srp_desc.specs.Pieces.{descs_in, is_complete, is_count_bad, named, refused, sum_of, summing_to}
use Rattle.srp_desc.specs.Pieces.{pieces as named_by}
use Rattle.srp_desc.specs.Tables.{table_len, tables_of}
use Rattle.srp_desc.specs.declared.pieces.DescFault.{DescFault}
use Rattle.srp_desc.specs.declared.pieces.DescFault.TheVariants.{Count, Large, Total}
use Rattle.srp_desc.specs.declared.pieces.TheConstants.{MAX_DATA_LEN}
use Rattle.srp_iu.specs.declared.buffer.Buffer.{Buffer}
use Rattle.srp_iu.specs.declared.buffer.Buffer.TheVariants.{Absent, Direct}
use Rattle.srp_iu.specs.declared.buffer.Desc.{Desc}
use Rattle.srp_iu.specs.declared.command.Cmd.{Cmd}
use Rattle.srp_iu.specs.declared.unit.Iu.TheVariants as units
use Rattle.tce_window.specs.PortState.{PortState}
use Rattle.tce_window.specs.Region.{region_byte}
use Rattle.vscsi_client.specs.Spans.{by_dir, data_in_range, data_span, in_range, no_pages, op_in_range, span_of, span_of_table, table_in_range, table_span}
use Rattle.vscsi_client.specs.Units.{FitsData, FitsNone, FitsOp, InDir, IsBuffer, IsCommand, IsIndirect, piece_of, pieces, table_bytes}
use Rattle.vscsi_client.specs.declared.TheConstants.{DATA_START}
use Rattle.vscsi_client.specs.declared.op.Dir.{Dir}
use Rattle.vscsi_client.specs.declared.op.Dir.TheVariants.{In, Neither, Out}
use Rattle.vscsi_client.specs.declared.op.Op.{Op}
use Rattle.vscsi_client.specs.declared.outgoing.Span.{Span}
use Rattle.vcpu_run.specs.PlainTalk.{Ask, DataLies, LiesOn, TableStands, inn_of}
use Rattle.vcpu_run.proofs.PlainData.{no_data}
use Rattle.vcpu_run.proofs.PlainPieces.{IsWithin, length-pieces, piece_within, pieces_within, table_long, table_names, within_lies}
use Rattle.vcpu_run.proofs.PlainPlaces.{AreOneRange, data_range}
use Rattle.vcpu_run.proofs.PlainPuts.{both_true}

-- ---- buffers

-- what a buffer of each kind names, if it is not refused
direct_names : (large : Bool) (fault : DescFault) (piece : Desc) (list : List Desc) → cond large (refused fault) (named (piece ∷ [])) ≡ named list → piece ∷ [] ≡ list
direct_names true fault piece list is = absurd (cc (is))
direct_names false fault piece list is = cc (is)

sum_names : (b : Bool) (fault : DescFault) (its list : List Desc) → cond b (named its) (refused fault) ≡ named list → its ≡ list
sum_names true fault its list is = cc (is)
sum_names false fault its list is = absurd (cc (is))

indirect_names : (bad large : Bool) (total : ℕ) (its list : List Desc) → cond bad (refused Count) (cond large (refused (Large total)) (summing_to total its)) ≡ named list → its ≡ list
indirect_names true large total its list is = absurd (cc (is))
indirect_names false true total its list is = absurd (cc (is))
indirect_names false false total its list is = sum_names (sum_of its == total) (Total total (sum_of its)) its list is

direct_data : (window : PortState) (ask : Ask) (piece : Desc) → inn_of ask.iu ≡ Direct piece → LiesOn ask.pages piece → AreOneRange ask.start (piece ∷ []) → DataLies window ask
direct_data window ask piece is lies range = record {
  bytes = [];
  whole = sym (ap table_len is);
  table = subst (λ (buffer : Buffer). All (TableStands window ask.table []) (tables_of buffer)) (sym is) (All-nil (TableStands window ask.table []));
  goes = λ list names. subst (All (LiesOn ask.pages)) (its list names) (All-cons (LiesOn ask.pages) piece [] lies (All-nil (LiesOn ask.pages)));
  places = λ list names. subst (AreOneRange ask.start) (its list names) range;
}
  where
    its : (list : List Desc) → named_by (inn_of ask.iu) [] ≡ named list → piece ∷ [] ≡ list
    its list names = direct_names (nat_lt MAX_DATA_LEN piece.len) (Large piece.len) piece list (sym (ap (λ (buffer : Buffer). named_by buffer []) is) ∙ names)

-- the table of an indirect buffer
abbrev table_at : Op → ℕ → Desc
table_at op at = record { address = at; key = 0; len = 16 * op.pieces }

whole_data : (window : PortState) (ask : Ask) (op : Op) (at : ℕ) (list : List Desc) → (is : IsIndirect op at list (inn_of ask.iu)) → is_complete (table_at op at) is.items ≡ true
    → All (LiesOn ask.pages) list → AreOneRange ask.start list → DataLies window ask
whole_data window ask op at theirs is complete lies range = record {
  bytes = [];
  whole = sym (ap table_len is.buffer_is ∙ ap (λ b. sum_of (cond b [] (table_at op at ∷ []))) complete);
  table = subst (All (TableStands window ask.table [])) (sym (ap tables_of is.buffer_is ∙ ap (λ b. cond b [] (table_at op at ∷ [])) complete)) (All-nil (TableStands window ask.table []));
  goes = λ list names. subst (All (LiesOn ask.pages)) (its list names) lies;
  places = λ list names. subst (AreOneRange ask.start) (its list names) range;
}
  where
    its : (list : List Desc) → named_by (inn_of ask.iu) [] ≡ named list → theirs ≡ list
    its list names =
        sym is.list_is ∙ indirect_names (is_count_bad (table_at op at) is.items) (nat_lt MAX_DATA_LEN op.len) op.len is.items.items list
        (sym (ap (λ (buffer : Buffer). named_by buffer []) is.buffer_is
        ∙ ap (λ b. cond (is_count_bad (table_at op at) is.items) (refused Count) (cond (nat_lt MAX_DATA_LEN op.len) (refused (Large op.len)) (summing_to op.len (cond b is.items.items (descs_in []))))) complete)
        ∙ names)

table_data : (window : PortState) (ask : Ask) (op : Op) (at : ℕ) (list : List Desc) (bytes : List ℕ) → (is : IsIndirect op at list (inn_of ask.iu))
    → is_complete (table_at op at) is.items ≡ false → length bytes ≡ 16 * op.pieces → TableStands window ask.table bytes (table_at op at) → All (LiesOn ask.pages) (descs_in bytes)
    → AreOneRange ask.start (descs_in bytes) → DataLies window ask
table_data window ask op at theirs bytes is partial long stands lies range = record {
  bytes = bytes;
  whole = long ∙ sum_one ∙ sym (ap table_len is.buffer_is ∙ ap (λ b. sum_of (cond b [] (table_at op at ∷ []))) partial);
  table = subst (All (TableStands window ask.table bytes)) (sym (ap tables_of is.buffer_is ∙ ap (λ b. cond b [] (table_at op at ∷ [])) partial))
      (All-cons (TableStands window ask.table bytes) (table_at op at) [] stands (All-nil (TableStands window ask.table bytes)));
  goes = λ list names. subst (All (LiesOn ask.pages)) (its list names) lies;
  places = λ list names. subst (AreOneRange ask.start) (its list names) range;
}
  where
    its : (list : List Desc) → named_by (inn_of ask.iu) bytes ≡ named list → descs_in bytes ≡ list
    its list names =
        indirect_names (is_count_bad (table_at op at) is.items) (nat_lt MAX_DATA_LEN op.len) op.len (descs_in bytes) list
        (sym (ap (λ (buffer : Buffer). named_by buffer bytes) is.buffer_is
        ∙ ap (λ b. cond (is_count_bad (table_at op at) is.items) (refused Count) (cond (nat_lt MAX_DATA_LEN op.len) (refused (Large op.len)) (summing_to op.len (cond b is.items.items (descs_in bytes))))) partial)
        ∙ names)

    sum_one : 16 * op.pieces ≡ sum_of (table_at op at ∷ [])
    sum_one = omega arith

-- ---- commands

range_parts : (pages at len : ℕ) → in_range pages at len ≡ true → (DATA_START ≤ at) × (at + len ≤ 4096 * pages)
range_parts pages at len is =
    let both = both_true (nat_le DATA_START at) (nat_le (at + len) (4096 * pages)) is in
    let low : nat_le DATA_START at ≡ true = both.0 in
    let high : nat_le (at + len) (4096 * pages) ≡ true = both.1 in
    (grind (arith, nat_tests, low), grind (arith, nat_tests, high))

-- What is known of a command whose data go in.
record GoesIn (op : Op) (window : PortState) (ask : Ask) (pages : ℕ) : Type 0 where
  buffer : IsBuffer op (inn_of ask.iu)
  fits : FitsData op
  few : pages ≤ 256
  data_in : in_range pages op.at op.len ≡ true
  table_in : table_in_range pages op.table op.pieces ≡ true
  span : ask.pages ≡ span_of op.at op.len
  table_span : ask.table ≡ span_of_table op.table op.pieces
  start : ask.start ≡ op.at
  stands : (at : ℕ) → op.table ≡ Some at → (k : ℕ) → k < 16 * op.pieces → region_byte window.strokes (at + k) ≡ get_or (table_bytes op op.pieces) k 0

inn_data : (op : Op) (window : PortState) (ask : Ask) (pages : ℕ) → GoesIn op window ask pages → DataLies window ask
inn_data op window ask n goes = by op.table refl
  where
    there : (DATA_START ≤ op.at) × (op.at + op.len ≤ 4096 * n)
    there = range_parts n op.at op.len goes.data_in

    low : op.at + op.len ≤ 2 ^ 32
    low = omega (arith, there.1, goes.few)

    lies : (piece : Desc) → IsWithin op piece → LiesOn ask.pages piece
    lies piece within = subst (λ (span : Span). LiesOn span piece) (sym goes.span) (within_lies op piece there.0 within)

    all : All (LiesOn ask.pages) (pieces op op.pieces)
    all = All-weaker (IsWithin op) (LiesOn ask.pages) lies (pieces op op.pieces) (pieces_within op op.pieces (omega arith))

    range : AreOneRange ask.start (pieces op op.pieces)
    range = subst (λ n. AreOneRange n (pieces op op.pieces)) (sym goes.start) (data_range op goes.fits.some)

    listed : IsIndirect op 0 (pieces op op.pieces) (inn_of ask.iu) → DataLies window ask
    listed is =
        whole_data window ask op 0 (pieces op op.pieces) is complete all range
      where
        long : length is.items.items ≡ op.pieces
        long = ap (λ (list : List Desc). length list) is.list_is ∙ length-pieces op op.pieces

        complete : ((16 * length is.items.items) == (16 * op.pieces)) ≡ true
        complete = grind (arith, nat_tests, long)

    one : (b : Bool) → (op.pieces == 1) ≡ b → MatchBool b (inn_of ask.iu ≡ Direct (piece_of op 0)) (IsIndirect op 0 (pieces op op.pieces) (inn_of ask.iu)) → DataLies window ask
    one true e is =
        direct_data window ask (piece_of op 0) is (lies (piece_of op 0) (piece_within op 0 goes.fits.some))
        (subst (λ n. AreOneRange ask.start (pieces op n)) (eqb-true op.pieces 1 e) range)
    one false e is = listed is

    tabled : (at : ℕ) → op.table ≡ Some at → IsIndirect op at [] (inn_of ask.iu) → DataLies window ask
    tabled at e is =
        table_data window ask op at [] (table_bytes op op.pieces) is partial (table_long op op.pieces)
        (record {
          lies = subst (λ (span : Span). LiesOn span (table_at op at))
              (sym (goes.table_span ∙ ap (λ (t : Option ℕ). span_of_table t op.pieces) e))
              (record { behind = within.0; from = omega arith; to = omega arith });
          stands = goes.stands at e;
        })
        (subst (All (LiesOn ask.pages)) (sym (table_names op low goes.fits.most)) all)
        (subst (AreOneRange ask.start) (sym (table_names op low goes.fits.most)) range)
      where
        within : (DATA_START ≤ at) × (at + 16 * op.pieces ≤ 4096 * n)
        within = range_parts n at (16 * op.pieces) (sym (ap (λ (t : Option ℕ). table_in_range n t op.pieces) e) ∙ goes.table_in)

        long : length is.items.items ≡ 0
        long = ap (λ (list : List Desc). length list) is.list_is

        some : 1 ≤ op.pieces
        some = goes.fits.some

        partial : ((16 * length is.items.items) == (16 * op.pieces)) ≡ false
        partial = grind (arith, nat_tests, long, some)

    by : (t : Option ℕ) → op.table ≡ t → DataLies window ask
    by None e =
        one (op.pieces == 1) refl
        (subst (λ (t : Option ℕ). MatchOption t (MatchBool (op.pieces == 1) (inn_of ask.iu ≡ Direct (piece_of op 0)) (IsIndirect op 0 (pieces op op.pieces) (inn_of ask.iu)))
        (λ at. IsIndirect op at [] (inn_of ask.iu))) e goes.buffer)
    by (Some at) e =
        tabled at e
        (subst (λ (t : Option ℕ). MatchOption t (MatchBool (op.pieces == 1) (inn_of ask.iu ≡ Direct (piece_of op 0)) (IsIndirect op 0 (pieces op op.pieces) (inn_of ask.iu)))
        (λ at. IsIndirect op at [] (inn_of ask.iu))) e goes.buffer)

pub op_data : (op : Op) (window : PortState) (pages tag slot : ℕ) (bytes : List ℕ) (command : Cmd) → FitsOp op → pages ≤ 256 → op_in_range pages op ≡ true → IsCommand tag op command
    → ((at : ℕ) → op.table ≡ Some at → (k : ℕ) → k < 16 * op.pieces → region_byte window.strokes (at + k) ≡ get_or (table_bytes op op.pieces) k 0)
    → DataLies window (record { tag = tag; slot = slot; iu = units.Cmd command; bytes = bytes; pages = data_span op; table = table_span op; start = op.at })
op_data op window n tag slot bytes command fits few inside is stands = by op.dir refl
  where
    ask : Ask
    ask = record { tag = tag; slot = slot; iu = units.Cmd command; bytes = bytes; pages = data_span op; table = table_span op; start = op.at }

    parts : (data_in_range n op ≡ true) × (table_in_range n op.table op.pieces ≡ true)
    parts = both_true (data_in_range n op) (table_in_range n op.table op.pieces) inside

    inn : (dir : Dir) → op.dir ≡ dir → InDir dir (command.inn ≡ Absent) (command.inn ≡ Absent) (IsBuffer op command.inn)
    inn dir e = subst (λ (d : Dir). InDir d (command.inn ≡ Absent) (command.inn ≡ Absent) (IsBuffer op command.inn)) e is.inn

    by : (dir : Dir) → op.dir ≡ dir → DataLies window ask
    by Neither e = no_data window ask (inn Neither e)
    by Out e = no_data window ask (inn Out e)
    by In e = inn_data op window ask n (record {
      buffer = inn In e;
      fits = subst (λ (d : Dir). InDir d (FitsNone op) (FitsData op) (FitsData op)) e fits;
      few = few;
      data_in = sym (ap (λ (d : Dir). by_dir d true (in_range n op.at op.len)) e) ∙ parts.0;
      table_in = parts.1;
      span = ap (λ (d : Dir). by_dir d no_pages (span_of op.at op.len)) e;
      table_span = refl;
      start = refl;
      stands = stands;
    })
