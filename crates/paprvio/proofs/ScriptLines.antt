-- The lines of a generated client's script are read, one behind the other.
use Rattle.std.proofs.Common.{◌≡◌, ℕ, ◌+◌, ◌^◌, ◌<◌, ◌≤◌, Bool, true, false, None, List, [], ◌∷◌, ◌++◌, length, codes, decimal, nat_lt, refl, sym, ap, ◌∙◌, arith, append-nil, append_assoc, length-append}
use Rattle.std.specs.List.{list_all}
use Rattle.std.proofs.lemmas.Bool.{le-leb, ltb-true}
use Rattle.std.proofs.lemmas.List.Sums.{sum_by-append}
use Rattle.boot_text.specs.BootText.{judge, judge_words, read_from}
use Rattle.boot_text.specs.Cost.{line_cost}
use Rattle.boot_text.specs.Said.{Said, good, bad}
use Rattle.boot_text.specs.SoFar.{SoFar, cost_so_far, is_over, nothing, ports_of}
use Rattle.boot_text.specs.Words.{is}
use Rattle.boot_text.specs.declared.plan.Line.{Line}
use Rattle.boot_text.specs.declared.plan.Partition.{Partition}
use Rattle.boot_text.specs.declared.plan.UnitPlan.TheVariants as units
use Rattle.boot_text.specs.declared.verb.Verb.{Verb}
use Rattle.boot_text.specs.declared.verb.Verb.TheVariants as verbs
use Rattle.paprvio.specs.SeedPlan.{numbered}
use Rattle.paprvio.proofs.Joining.{joined}
use Rattle.paprvio.proofs.LinesJudged.{judged_by_words, read_on}
use Rattle.paprvio.proofs.NumberWords.{is_word, number_of}

-- the plan behind some lines, none of which is wrong
abbrev pub left : Said SoFar → SoFar
left (good s) = s
left (bad cause) = nothing

abbrev pub behind : ℕ → SoFar → List (List ℕ) → SoFar
behind n s [] = s
behind n s (line ∷ lines) = behind (n + 1) (left (judge n s line)) lines

abbrev pub login_read : SoFar
unfolding is
login_read = behind 1 nothing (codes "vio 1" ∷ codes "rounds 4096" ∷ codes "grant 8" ∷ codes "partition" ∷ codes "server 1" ∷ codes "end"
    ∷ codes "partition" ∷ codes "client 0.0 pages 64 queue 1" ∷ codes "0 login" ∷ [])

-- the plan so far in the script of a client, behind these partitions and these lines
abbrev pub in_script : (client : ℕ) → List Partition → List Line → SoFar
in_script client ended lines =
    record login_read { ended = ended; units = units.Client (record { partition = 0; unit = client }) 64 1 ∷ []; lines = lines }

-- what they cost
abbrev pub spent : (client : ℕ) → List Partition → List Line → ℕ
spent client ended lines = cost_so_far (in_script client ended lines)

-- one line of a script, by its verb
abbrev pub at : ℕ → Verb → Line
at n verb = record { number = n; unit = 0; verb = verb }

-- These words are a line that does this, where its cost is not too much.
abbrev pub AreLine : (client : ℕ) → List (List ℕ) → Verb → Type 0
AreLine client words verb = (n : ℕ) (ended : List Partition) (lines : List Line) → is_over (in_script client ended lines) verb ≡ false
    → judge_words n (in_script client ended lines) words ≡ good (in_script client ended (lines ++ at n verb ∷ []))

pub fill_line : (client len seed : ℕ) → 1 ≤ len → len ≤ 65536 → seed < 2 ^ 64
    → AreLine client (codes "0" ∷ codes "fill" ∷ codes "65536" ∷ decimal len ∷ decimal seed ∷ []) (verbs.Fill 65536 len seed)
unfolding is
fill_line client len seed some few small n ended lines over =
    rw (number_of len (omega (arith, few)), number_of seed small, le-leb 1 len some, le-leb len 65536 few, over) refl

pub write_line : (client lba blocks : ℕ) → lba ≤ 4294967295 → 1 ≤ blocks → blocks ≤ 256
    → AreLine client (codes "0" ∷ codes "write" ∷ decimal lba ∷ decimal blocks ∷ codes "65536" ∷ []) (verbs.Write lba blocks 65536 1 None)
unfolding is
write_line client lba blocks most some few n ended lines over =
    rw (number_of lba (omega (arith, most)), number_of blocks (omega (arith, few)), le-leb 0 lba (omega arith), le-leb lba 4294967295 most, le-leb 1 blocks some, le-leb blocks 256 few, over) refl

pub read_line : (client lba blocks : ℕ) → lba ≤ 4294967295 → 1 ≤ blocks → blocks ≤ 256
    → AreLine client (codes "0" ∷ codes "read" ∷ decimal lba ∷ decimal blocks ∷ codes "98304" ∷ []) (verbs.Read lba blocks 98304 1 None)
unfolding is
read_line client lba blocks most some few n ended lines over =
    rw (number_of lba (omega (arith, most)), number_of blocks (omega (arith, few)), le-leb 0 lba (omega arith), le-leb lba 4294967295 most, le-leb 1 blocks some, le-leb blocks 256 few, over) refl

pub take_line : (client : ℕ) → AreLine client (codes "0" ∷ codes "take" ∷ codes "1" ∷ []) (verbs.Take 1)
unfolding is
take_line client n ended lines over = rw over refl

-- These texts are the lines of a script that do this, and cost no more.
pub record AreLines (client : ℕ) (texts : List (List ℕ)) (does : List Verb) (cost : ℕ) : Type 0 where
  pub reads : (n : ℕ) (ended : List Partition) (lines : List Line) (rest : List (List ℕ)) → 2 ≤ n → spent client ended lines + cost ≤ 16777216
      → read_from n (in_script client ended lines) (texts ++ rest)
      ≡ read_from (n + length does) (in_script client ended (lines ++ numbered n does)) rest
  pub costs : (n : ℕ) (ended : List Partition) (lines : List Line) → spent client ended (lines ++ numbered n does) ≤ spent client ended lines + cost

pub not_over : (most cost : ℕ) → cost ≤ most → nat_lt most cost ≡ false
not_over most cost low = less (nat_lt most cost) refl
  where
    less : (b : Bool) → nat_lt most cost ≡ b → nat_lt most cost ≡ false
    less true e = absurd (omega (arith, low, ltb-true most cost e))
    less false e = e

-- one line
pub one_line : (client : ℕ) (first : List ℕ) (words : List (List ℕ)) (verb : Verb) (cost : ℕ) → list_all is_word (first ∷ words) ≡ true → length words ≤ 40
    → AreLine client (first ∷ words) verb → ((ports : ℕ) → line_cost ports verb ≤ cost) → AreLines client (joined 32 first words ∷ []) (verb ∷ []) cost
unfolding numbered
one_line client first words verb cost are few line low =
    record {
      reads = λ n ended lines rest later left.
          let s : SoFar = in_script client ended lines in
          let over : is_over s verb ≡ false = not_over 16777216 (cost_so_far s + line_cost (ports_of s) verb) (omega (arith, left, low (ports_of s))) in
          read_on n s (in_script client ended (lines ++ at n verb ∷ [])) (joined 32 first words) rest
          (judged_by_words n s first words are few later ∙ line n ended lines over);
      costs = λ n ended lines.
          let s : SoFar = in_script client ended lines in
          omega (arith, low (ports_of s), sum_by-append (λ (l : Line). line_cost (ports_of s) l.verb) lines (at n verb ∷ []));
    }

numbered-append : (n : ℕ) (a b : List Verb) → numbered n (a ++ b) ≡ numbered n a ++ numbered (n + length a) b
unfolding numbered
numbered-append n [] b = ap (λ m. numbered m b) (omega arith)
numbered-append n (verb ∷ a) b =
    ap (λ more. at n verb ∷ more) (numbered-append (n + 1) a b ∙ ap (λ m. numbered (n + 1) a ++ numbered m b) (omega arith))

-- none
pub no_lines : (client : ℕ) → AreLines client [] [] 0
unfolding numbered
no_lines client = record {
  reads = λ n ended lines rest later left. λ i. read_from (n_is n i) (in_script client ended (sym (append-nil lines) i)) rest;
  costs = λ n ended lines. omega (arith, ap (spent client ended) (append-nil lines));
}
  where
    n_is : (n : ℕ) → n ≡ n + 0
    n_is n = omega arith

-- some, and more
pub more_lines : (client : ℕ) (texts texts' : List (List ℕ)) (does does' : List Verb) (cost cost' : ℕ)
    → AreLines client texts does cost → AreLines client texts' does' cost' → AreLines client (texts ++ texts') (does ++ does') (cost + cost')
more_lines client texts texts' does does' cost cost' a b =
    record {
      reads = λ n ended lines rest later left.
          ap (read_from n (in_script client ended lines)) (append_assoc texts texts' rest)
          ∙ a.reads n ended lines (texts' ++ rest) later (omega (arith, left))
          ∙ b.reads (n + length does) ended (lines ++ numbered n does) rest (omega (arith, later)) (omega (arith, left, a.costs n ended lines))
          ∙ (λ i. read_from (long n i) (in_script client ended (both n lines i)) rest);
      costs = λ n ended lines.
          omega (arith, ap (spent client ended) (both n lines), a.costs n ended lines, b.costs (n + length does) ended (lines ++ numbered n does));
    }
  where
    long : (n : ℕ) → n + length does + length does' ≡ n + length (does ++ does')
    long n = omega (arith, length-append does does')

    both : (n : ℕ) (lines : List Line) → (lines ++ numbered n does) ++ numbered (n + length does) does' ≡ lines ++ numbered n (does ++ does')
    both n lines = append_assoc lines (numbered n does) (numbered (n + length does) does') ∙ ap (λ more. lines ++ more) (sym (numbered-append n does does'))
