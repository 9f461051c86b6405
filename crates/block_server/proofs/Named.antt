-- The pieces that a buffer has whole.
use Rattle.std.proofs.Common.{Bor, ◌≡◌, ℕ, List, [], subst}
use Rattle.srp_iu.specs.declared.buffer.Buffer.{Buffer}
use Rattle.srp_iu.specs.declared.buffer.Desc.{Desc}
use Rattle.srp_desc.specs.declared.pieces.Pieces.{Pieces}
use Rattle.srp_desc.specs.declared.pieces.Pieces.TheVariants.{Whole}
use Rattle.srp_desc.specs.Pieces.{IsGiven, named, pieces, sum_of, total_of}

-- they are as many bytes in all as the buffer says
pub whole_sum : (buffer : Buffer) (given : Pieces) (list : Bor (List Desc)) → IsGiven buffer given → given ≡ Whole list
    → ((buffer : Buffer) (bytes : List ℕ) (list : List Desc) → pieces buffer bytes ≡ named list → sum_of list ≡ total_of buffer)
    → sum_of list.now ≡ total_of buffer
whole_sum buffer given list is_given is law = law buffer [] list.now (subst (IsGiven buffer) is is_given [])
