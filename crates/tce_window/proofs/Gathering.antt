-- The bytes of held pieces are at most as many as the pieces say.
use Rattle.std.proofs.Common.{◌≤◌, List, [], ◌∷◌, Option, Result, Ok, Err, OnOk, length, drop, arith, length-append}
use Rattle.std.proofs.lemmas.List.{length-take}
use Rattle.tce_window.specs.declared.piece.Piece.{Piece}
use Rattle.tce_window.specs.declared.held_pages.HeldPage.{HeldPage}
use Rattle.tce_window.specs.Held.{held_len, held_strokes, page_bytes, piece_bytes, joined}

pub joined_at_most : (pages : List (Option HeldPage)) (pieces : List Piece) → length (joined pages pieces) ≤ held_len pieces
joined_at_most pages [] = omega arith
joined_at_most pages (piece ∷ pieces) =
    omega (arith, length-append (piece_bytes pages piece) (joined pages pieces), joined_at_most pages pieces, length-take piece.len (drop piece.offset (page_bytes (held_strokes pages piece.page))))

pub on_ok : {T E : Type 0} (result : Result T E) (P : Type 0) → P → OnOk result P
on_ok (Ok value) P p = p
on_ok (Err error) P p = tt

pub on_ok_map : {T E : Type 0} (result : Result T E) (P Q : Type 0) → (P → Q) → OnOk result P → OnOk result Q
on_ok_map (Ok value) P Q f p = f p
on_ok_map (Err error) P Q f p = tt
