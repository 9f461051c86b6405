-- The pieces of the data of a plain client's command: where they lie, and what the bytes of their table say.
use Rattle.std.proofs.Common.{◌≡◌, ◌∙◌, ℕ, zero, suc, ◌+◌, ◌-◌, ◌*◌, ◌/◌, ◌^◌, ◌<◌, ◌≤◌, ◌==◌, ◌++◌, All, Bool, true, false, cond, List, [], ◌∷◌, append-nil, append_assoc, drop, length, length-append, refl, sym, ap, arith}
use Rattle.std.proofs.Math.Nat.{mul-div-le, mul-le-mul_right, mul-suc}
use Rattle.std.proofs.lemmas.List.{drop_at}
use Rattle.std.proofs.lemmas.List.Elements.{All-nil, All-push}
use Rattle.srp_desc.specs.Pieces.{descs_in}
use Rattle.srp_iu.proofs.Descriptors.{desc_of-desc_bytes, descs_of-push}
use Rattle.srp_iu.specs.Buffer.{desc_bytes, desc_of, descs_of}
use Rattle.srp_iu.specs.declared.buffer.Desc.{Desc}
use Rattle.vscsi_client.specs.Spans.{span_of}
use Rattle.vscsi_client.specs.Units.{piece_of, pieces, table_bytes}
use Rattle.vscsi_client.specs.declared.TheConstants.{DATA_START}
use Rattle.vscsi_client.specs.declared.op.Op.{Op}
use Rattle.vcpu_run.specs.PlainTalk.{LiesOn}

-- ---- where they lie

-- a part of so many, by their lengths
part_in : (at len before each : ℕ) (last : Bool) → before + each ≤ len → at + before + cond last (len - before) each ≤ at + len
part_in at len before each true fits = omega (arith, fits)
part_in at len before each false fits = omega (arith, fits)

part_most : (len before each : ℕ) (last : Bool) → before + each ≤ len → cond last (len - before) each ≤ len
part_most len before each true fits = omega arith
part_most len before each false fits = omega (arith, fits)

-- What is so of a piece of a command.
pub record IsWithin (op : Op) (piece : Desc) : Type 0 where
  pub from : op.at ≤ piece.address
  pub to : piece.address + piece.len ≤ op.at + op.len
  pub most : piece.len ≤ op.len
  pub key : piece.key ≡ 0

pub piece_within : (op : Op) (i : ℕ) → i < op.pieces → IsWithin op (piece_of op i)
piece_within op i less = record {
  from = omega arith;
  to = part_in op.at op.len (each * i) each (i + 1 == op.pieces) fits;
  most = part_most op.len (each * i) each (i + 1 == op.pieces) fits;
  key = refl;
}
  where
    each : ℕ
    each = op.len / op.pieces

    fits : each * i + each ≤ op.len
    fits = omega (arith, mul-suc each i, product, mul-div-le op.len op.pieces)
      where
        product : suc i * each ≤ op.pieces * each
        product = mul-le-mul_right each less

pub pieces_within : (op : Op) (n : ℕ) → n ≤ op.pieces → All (IsWithin op) (pieces op n)
pieces_within op zero most = All-nil (IsWithin op)
pieces_within op (suc n) most =
    All-push (IsWithin op) (pieces op n) (piece_of op n) (pieces_within op n (omega (arith, most))) (piece_within op n (omega (arith, most)))

pub within_lies : (op : Op) (piece : Desc) → DATA_START ≤ op.at → IsWithin op piece → LiesOn (span_of op.at op.len) piece
within_lies op piece behind within = record {
  behind = omega (arith, behind, within.from);
  from = omega (arith, within.from);
  to = omega (arith, within.to);
}

pub length-pieces : (op : Op) (n : ℕ) → length (pieces op n) ≡ n
length-pieces op zero = refl
length-pieces op (suc n) = omega (arith, length-append (pieces op n) (piece_of op n ∷ []), length-pieces op n)

-- ---- what their table says

desc_long : (desc : Desc) → length (desc_bytes desc) ≡ 16
desc_long desc = refl

pub table_long : (op : Op) (n : ℕ) → length (table_bytes op n) ≡ 16 * n
table_long op zero = refl
table_long op (suc n) = omega (arith, length-append (table_bytes op n) (desc_bytes (piece_of op n)), table_long op n, desc_long (piece_of op n))

read_back : (op : Op) → op.at + op.len ≤ 2 ^ 32 → op.len ≤ 131072 → (n : ℕ) → n ≤ op.pieces → (rest : List ℕ) → descs_of n (table_bytes op n ++ rest) ≡ pieces op n
read_back op low few zero most rest = refl
read_back op low few (suc n) most rest =
    let piece : Desc = piece_of op n in
    let within : IsWithin op piece = piece_within op n (omega (arith, most)) in
    let behind : List ℕ = desc_bytes piece ++ rest in
    let bytes : List ℕ = table_bytes op n ++ behind in
    ap (λ (list : List ℕ). descs_of (suc n) list) (append_assoc (table_bytes op n) (desc_bytes piece) rest)
    ∙ descs_of-push n bytes
    ∙ ap (λ (list : List Desc). list ++ desc_of (drop (16 * n) bytes) ∷ []) (read_back op low few n (omega (arith, most)) behind)
    ∙ ap (λ (list : List ℕ). pieces op n ++ desc_of list ∷ []) (drop_at (table_bytes op n) behind (16 * n) (table_long op n))
    ∙ ap (λ (one : Desc). pieces op n ++ one ∷ [])
    (desc_of-desc_bytes piece rest (omega (arith, within.to, low)) (omega (arith, within.key)) (omega (arith, within.most, few)))

pub table_names : (op : Op) → op.at + op.len ≤ 2 ^ 32 → op.len ≤ 131072 → descs_in (table_bytes op op.pieces) ≡ pieces op op.pieces
table_names op low few =
    ap (λ (n : ℕ). descs_of n (table_bytes op op.pieces)) (omega (arith, table_long op op.pieces))
    ∙ ap (λ (list : List ℕ). descs_of op.pieces list) (sym (append-nil (table_bytes op op.pieces)))
    ∙ read_back op low few op.pieces (omega arith) []
