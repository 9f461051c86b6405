-- The script of a generated client is read as what it does.
use Rattle.std.proofs.Common.{◌≡◌, ℕ, zero, suc, ◌+◌, ◌*◌, ◌/◌, ◌%◌, ◌≤◌, None, List, [], ◌∷◌, ◌++◌, length, codes, refl, subst, ap, ◌∙◌, arith, append_assoc, length-append}
use Rattle.std.specs.List.{sum_by}
use Rattle.std.proofs.lemmas.Fmt.{decimal_digit}
use Rattle.boot_text.specs.BootText.{judge, read_from}
use Rattle.boot_text.specs.Said.{good}
use Rattle.boot_text.specs.SoFar.{SoFar, cost_of, nothing, ports_in, script_cost}
use Rattle.boot_text.specs.Words.{is}
use Rattle.boot_text.specs.declared.plan.Line.{Line}
use Rattle.boot_text.specs.declared.plan.Partition.{Partition}
use Rattle.boot_text.specs.declared.plan.UnitPlan.TheVariants as units
use Rattle.boot_text.specs.declared.verb.Verb.TheVariants as verbs
use Rattle.boot_text.proofs.Laws.{cost_of-push}
use Rattle.paprvio.specs.Generated.{blocks_in, bytes_in, drawn, first_in}
use Rattle.paprvio.specs.SeedPlan.{client_partition, numbered, transfer_verbs, transfers_verbs}
use Rattle.paprvio.proofs.Joining.{joined}
use Rattle.paprvio.proofs.LinesJudged.{judged_by_words, read_on}
use Rattle.paprvio.proofs.ScriptLines.{AreLines, at, behind, fill_line, in_script, more_lines, no_lines, one_line, read_line, spent, take_line, write_line}
use Rattle.paprvio.proofs.SeedLines.{client_line, client_texts, fill_are_words, fill_words, first_low, read_are_words, read_words, take_words, transfer_texts, transfers_texts, write_are_words, write_words}

transfer_read : (number x : ℕ) → number ≤ 7 → AreLines number (transfer_texts number x) (transfer_verbs number x) 13344
transfer_read number x few =
    let zero_word : List ℕ = codes "0" in
    let f = one_line number zero_word (fill_words x) (verbs.Fill 65536 (bytes_in x) (x / 256 % 256)) 4096 (fill_are_words x) (omega arith)
    (fill_line number (bytes_in x) (x / 256 % 256) (omega arith) (omega arith) (omega arith)) (λ ports. omega arith) in
    let w = one_line number zero_word (write_words number x) (verbs.Write (first_in number x) (blocks_in x) 65536 1 None) 4368 (write_are_words number x few) (omega arith)
    (write_line number (first_in number x) (blocks_in x) (omega (arith, first_low number x few)) (omega arith) (omega arith)) (λ ports. omega arith) in
    let r = one_line number zero_word (read_words number x) (verbs.Read (first_in number x) (blocks_in x) 98304 1 None) 4368 (read_are_words number x few) (omega arith)
    (read_line number (first_in number x) (blocks_in x) (omega (arith, first_low number x few)) (omega arith) (omega arith)) (λ ports. omega arith) in
    let t = one_line number zero_word take_words (verbs.Take 1) 256 refl (omega arith) (take_line number) (λ ports. omega arith) in
    more_lines number _ _ _ _ 4096 9248 f (more_lines number _ _ _ _ 4368 4880 w (more_lines number _ _ _ _ 256 4624 t (more_lines number _ _ _ _ 4368 256 r t)))

transfers_read : (count number x : ℕ) → number ≤ 7 → AreLines number (transfers_texts count number x) (transfers_verbs count number x) (13344 * count)
unfolding transfers_texts transfers_verbs
transfers_read zero number x few = no_lines number
transfers_read (suc count) number x few =
    subst (AreLines number (transfers_texts (suc count) number x) (transfers_verbs (suc count) number x)) (omega arith)
    (more_lines number (transfer_texts number (drawn x)) (transfers_texts count number (drawn x)) (transfer_verbs number (drawn x)) (transfers_verbs count number (drawn x))
    13344 (13344 * count) (transfer_read number (drawn x) few) (transfers_read count number (drawn x) few))

count_verbs : (count number x : ℕ) → length (transfers_verbs count number x) ≡ 5 * count
unfolding transfers_verbs
count_verbs zero number x = refl
count_verbs (suc count) number x =
    length-append (transfer_verbs number (drawn x)) (transfers_verbs count number (drawn x)) ∙ omega (arith, count_verbs count number (drawn x))

-- the lines before the first client
abbrev pub head_lines : List (List ℕ)
head_lines = codes "vio 1" ∷ codes "rounds 4096" ∷ codes "grant 8" ∷ codes "partition" ∷ codes "server 1" ∷ codes "server 1" ∷ codes "server 1" ∷ codes "server 1"
    ∷ codes "server 1" ∷ codes "server 1" ∷ codes "server 1" ∷ codes "server 1" ∷ codes "end" ∷ []

-- the plan so far behind the end of a partition, behind the line that begins the next, and behind its client's
abbrev pub begun : List (List ℕ)
begun = codes "vio 1" ∷ codes "rounds 4096" ∷ codes "grant 8" ∷ codes "partition" ∷ codes "server 1" ∷ codes "end" ∷ []

abbrev pub end_read : SoFar
unfolding is
end_read = behind 1 nothing begun

abbrev pub partition_read : SoFar
unfolding is
partition_read = behind 1 nothing (begun ++ codes "partition" ∷ [])

abbrev pub client_read : SoFar
unfolding is
client_read = behind 1 nothing (begun ++ codes "partition" ∷ codes "client 0.0 pages 64 queue 1" ∷ [])

abbrev pub at_end : List Partition → SoFar
at_end ended = record end_read { ended = ended }

abbrev pub in_partition : List Partition → SoFar
in_partition ended = record partition_read { ended = ended }

abbrev pub at_client : (number : ℕ) → List Partition → SoFar
at_client number ended = record client_read { ended = ended; units = units.Client (record { partition = 0; unit = number }) 64 1 ∷ [] }

-- the line of a client, whose number is one digit
abbrev pub digit_line : ℕ → List ℕ
digit_line number = joined 32 (codes "client") ((48 ∷ 46 ∷ (48 + number) ∷ []) ∷ codes "pages" ∷ codes "64" ∷ codes "queue" ∷ codes "1" ∷ [])

pub by_digit : (number : ℕ) → number ≤ 7 → client_line number ≡ digit_line number
by_digit number few = ap (λ (d : List ℕ). joined 32 (codes "client") ((codes "0." ++ d) ∷ codes "pages" ∷ codes "64" ∷ codes "queue" ∷ codes "1" ∷ [])) (decimal_digit number (omega (arith, few)))

end_judged : (m number : ℕ) (ended : List Partition) (lines : List Line) → 2 ≤ m
    → judge m (in_script number ended lines) (codes "end")
    ≡ good (at_end (ended ++ record { units = units.Client (record { partition = 0; unit = number }) 64 1 ∷ []; lines = lines } ∷ []))
unfolding is
end_judged m number ended lines later = judged_by_words m (in_script number ended lines) (codes "end") [] refl (omega arith) later

-- a client's lines are read as its partition
pub partition_added : (n number x : ℕ) (ended : List Partition) (rest : List (List ℕ)) → number ≤ 7 → 2 ≤ n
    → judge n (at_end ended) (codes "partition") ≡ good (in_partition ended)
    → judge (n + 1) (in_partition ended) (digit_line number) ≡ good (at_client number ended)
    → judge (n + 1 + 1) (at_client number ended) (codes "0 login") ≡ good (in_script number ended (at (n + 1 + 1) verbs.Login ∷ []))
    → spent number ended (at (n + 1 + 1) verbs.Login ∷ []) + 854016 ≤ 16777216
    → read_from n (at_end ended) (client_texts number x ++ rest) ≡ read_from (n + 324) (at_end (ended ++ client_partition number x (n + 1 + 1) ∷ [])) rest
unfolding numbered
partition_added n number x ended rest few later opens names logs fits =
    let texts : List (List ℕ) = transfers_texts 64 number x in
    let lines : List Line = at (n + 1 + 1) verbs.Login ∷ [] in
    let all : List Line = lines ++ numbered (n + 1 + 1 + 1) (transfers_verbs 64 number x) in
    let m : ℕ = n + 1 + 1 + 1 + length (transfers_verbs 64 number x) in
    let last : m + 1 ≡ n + 324 = omega (arith, count_verbs 64 number x) in
    let script : List (List ℕ) = texts ++ codes "end" ∷ [] ++ rest in
    read_on n (at_end ended) (in_partition ended) (codes "partition") (client_line number ∷ codes "0 login" ∷ script) opens
    ∙ read_on (n + 1) (in_partition ended) (at_client number ended) (client_line number) (codes "0 login" ∷ script) (ap (judge (n + 1) (in_partition ended)) (by_digit number few) ∙ names)
    ∙ read_on (n + 1 + 1) (at_client number ended) (in_script number ended lines) (codes "0 login") script logs
    ∙ ap (read_from (n + 1 + 1 + 1) (in_script number ended lines)) (append_assoc texts (codes "end" ∷ []) rest)
    ∙ (transfers_read 64 number x few).reads (n + 1 + 1 + 1) ended lines (codes "end" ∷ rest) (omega (arith, later)) (omega (arith, fits))
    ∙ read_on m (in_script number ended all) (at_end (ended ++ client_partition number x (n + 1 + 1) ∷ [])) (codes "end") rest (end_judged m number ended all (omega (arith, later)))
    ∙ ap (λ k. read_from k (at_end (ended ++ client_partition number x (n + 1 + 1) ∷ [])) rest) last

-- and cost not much
pub partition_costs : (n number x : ℕ) (ended : List Partition) → number ≤ 7
    → cost_of 0 (ended ++ client_partition number x n ∷ []) ≤ cost_of 0 ended + 854272
unfolding numbered
partition_costs n number x ended few =
    let p : Partition = client_partition number x n in
    let ports : ℕ = sum_by (λ (q : Partition). ports_in q.units) ended in
    let same : 0 + ports + ports_in p.units ≡ ports + ports_in p.units = omega arith in
    omega (
      arith,
      cost_of-push 0 ended p,
      ap (λ k. script_cost k p.lines) same,
      (transfers_read 64 number x few).costs (n + 1) ended (at n verbs.Login ∷ []),
    )
