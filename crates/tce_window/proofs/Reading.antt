-- The bytes of held pieces, one behind the other.
use Rattle.std.proofs.Common.{◌≡◌, ℕ, ◌+◌, ◌<◌, ◌≤◌, List, [], ◌∷◌, ◌++◌, Option, length, take, drop, get_or, sym, ◌∙◌, ap, arith, add-one}
use Rattle.std.proofs.lemmas.List.{append_assoc}
use Rattle.std.proofs.lemmas.Slice.{take-put_mid}
use Rattle.std.proofs.Math.Seq.{drop-cons}
use borrow.Rule.Slice.PartMut.{put_mid}
use Rattle.tce_window.specs.declared.piece.Piece.{Piece}
use Rattle.tce_window.specs.declared.held_pages.HeldPage.{HeldPage}
use Rattle.vio_num.specs.declared.names.UnitId.{UnitId}
use Rattle.tce_window.specs.Pieces.{Touches}
use Rattle.tce_window.specs.Held.{held_len, joined, piece_bytes}

pub pieces_from : (pieces : List Piece) (n : ℕ) (d : Piece) → n < length pieces → drop n pieces ≡ get_or pieces n d ∷ drop (n + 1) pieces
pieces_from pieces n d h = rw add-one (drop-cons pieces n d h)

pub len_more : (pieces : List Piece) (n done : ℕ) (d : Piece) (whole : ℕ) → n < length pieces → done + held_len (drop n pieces) ≡ whole
    → done + (get_or pieces n d).len + held_len (drop (n + 1) pieces) ≡ whole
len_more pieces n done d whole less e =
    let split : held_len (drop n pieces) ≡ (get_or pieces n d).len + held_len (drop (n + 1) pieces) = ap held_len (pieces_from pieces n d less) in
    omega (arith, e, split)

pub read_more : (pages : List (Option HeldPage)) (pieces : List Piece) (out new : List ℕ) (n done end k : ℕ) (d : Piece) → n < length pieces
    → take done out ++ joined pages (drop n pieces) ≡ joined pages pieces
    → new ≡ piece_bytes pages (get_or pieces n d) → end ≡ done + length new → done ≤ length out
    → take end (put_mid done k out new) ++ joined pages (drop (n + 1) pieces) ≡ joined pages pieces
read_more pages pieces out new n done end k d less before is_new at within =
    let piece = get_or pieces n d in
    ap (λ front. front ++ joined pages (drop (n + 1) pieces)) (take-put_mid done k out new end at within ∙ ap (λ bytes. take done out ++ bytes) is_new)
    ∙ append_assoc (take done out) (piece_bytes pages piece) (joined pages (drop (n + 1) pieces))
    ∙ ap (λ rest. take done out ++ joined pages rest) (sym (pieces_from pieces n d less))
    ∙ before

-- pieces that touch a range have its length
pub touched_len : (unit : UnitId) (from to : ℕ) (pieces : List Piece) → Touches unit from to pieces → from + held_len pieces ≡ to
touched_len unit from to [] h = omega (arith, h)
touched_len unit from to (piece ∷ pieces) h = omega (arith, touched_len unit (from + piece.len) to pieces h.2)
