-- Each buffer's own table is cut back from the bytes of all.
use Rattle.std.proofs.Common.{◌≡◌, ℕ, List, [], ◌++◌, length, take, drop, sym, ap, ◌∙◌, subst}
use Rattle.std.proofs.Math.Seq.{take-append_seam, drop-append_seam}
use Rattle.std.proofs.lemmas.List.{append-nil}
use Rattle.srp_iu.specs.declared.command.Cmd.{Cmd}
use Rattle.srp_desc.specs.Tables.{table_len, out_pieces, in_pieces}
use Rattle.srp_desc.specs.Pieces.{pieces}

front : (n : ℕ) (a b : List ℕ) → length a ≡ n → take n (a ++ b) ≡ a
front n a b e = subst (λ (k : ℕ). take k (a ++ b) ≡ a) e (take-append_seam a b)

behind : (n : ℕ) (a b : List ℕ) → length a ≡ n → drop n (a ++ b) ≡ b
behind n a b e = subst (λ (k : ℕ). drop k (a ++ b) ≡ b) e (drop-append_seam a b)

whole : (n : ℕ) (b : List ℕ) → length b ≡ n → take n b ≡ b
whole n b e = ap (λ (l : List ℕ). take n l) (sym (append-nil b)) ∙ front n b [] e

-- Where both tables were fetched, one behind the other, each buffer's pieces are those of its own.
pub record EachItsOwn (command : Cmd) (out inn : List ℕ) : Type 0 where
  pub out_own : out_pieces command (out ++ inn) ≡ pieces command.out out
  pub in_own : in_pieces command (out ++ inn) ≡ pieces command.inn inn

pub each_its_own : (command : Cmd) (out inn : List ℕ) → length out ≡ table_len command.out → length inn ≡ table_len command.inn
    → EachItsOwn command out inn
each_its_own command out inn e f = record {
  out_own = ap (λ (l : List ℕ). pieces command.out l) (front (table_len command.out) out inn e);
  in_own = ap (λ (l : List ℕ). pieces command.inn l)
      (ap (λ (l : List ℕ). take (table_len command.inn) l) (behind (table_len command.out) out inn e) ∙ whole (table_len command.inn) inn f);
}
