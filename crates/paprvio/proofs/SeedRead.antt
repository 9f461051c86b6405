-- The boot text of a seed says its plan.
use Rattle.std.proofs.Common.{◌≡◌, ℕ, zero, suc, ◌+◌, ◌*◌, ◌%◌, ◌^◌, ◌≤◌, true, false, List, [], ◌∷◌, ◌++◌, length, drop, codes, decimal, nat_lt, refl, sym, subst, ap, ◌∙◌, arith, length-append}
use Rattle.std.specs.List.{list_all}
use Rattle.std.proofs.lemmas.Bool.{le-leb}
use Rattle.std.proofs.lemmas.Fmt.{decimal_digit}
use Rattle.std.proofs.lemmas.List.Folds.{list_all-append}
use Rattle.boot_text.specs.BootText.{Reading, SaysPlan, accepted, judge, judge_words, plan_of, read_from, refused}
use Rattle.boot_text.specs.Said.{good}
use Rattle.boot_text.specs.SoFar.{cost_of, cost_so_far, is_over, nothing}
use Rattle.boot_text.specs.Words.{is, lines_of}
use Rattle.boot_text.specs.declared.cause.Cause.{Cause}
use Rattle.boot_text.specs.declared.cause.Cause.TheVariants as causes
use Rattle.boot_text.specs.declared.plan.Partition.{Partition}
use Rattle.boot_text.specs.declared.plan.Plan.{Plan}
use Rattle.boot_text.specs.declared.verb.Verb.TheVariants as verbs
use Rattle.paprvio.specs.Generated.{after, clients, generated, head}
use Rattle.paprvio.specs.SeedPlan.{client_partition, client_partitions, generated_partitions, generated_plan, server_partition}
use Rattle.paprvio.proofs.LinesJudged.{judged_by_words}
use Rattle.paprvio.proofs.NumberWords.{and_both, if_false, is_word}
use Rattle.paprvio.proofs.ScriptLines.{at, in_script, not_over}
use Rattle.paprvio.proofs.SeedLines.{are_client_lines, client_line, client_text, client_texts, client_words, count_texts, ended, ended-append, is_line, line_of_words, lines_ended, long_ended, transfers_texts}
use Rattle.paprvio.proofs.SeedScripts.{at_client, at_end, digit_line, head_lines, in_partition, partition_added, partition_costs}

-- the lines of so many clients
unfoldable clients_texts : (count number x : ℕ) → List (List ℕ)
clients_texts zero number x = []
clients_texts (suc count) number x = client_texts number x ++ clients_texts count (number + 1) (after 64 x)

clients_text : (count number x : ℕ) → clients count number x ≡ ended (clients_texts count number x)
unfolding clients clients_texts
clients_text zero number x = refl
clients_text (suc count) number x =
    (λ i. client_text number x i ++ clients_text count (number + 1) (after 64 x) i)
    ∙ sym (ended-append (client_texts number x) (clients_texts count (number + 1) (after 64 x)))

count_lines : (count number x : ℕ) → length (clients_texts count number x) ≡ 324 * count
unfolding clients_texts
count_lines zero number x = refl
count_lines (suc count) number x =
    omega (
      arith,
      length-append (client_texts number x) (clients_texts count (number + 1) (after 64 x)),
      length-append (transfers_texts 64 number x) (codes "end" ∷ []),
      count_texts 64 number x,
      count_lines count (number + 1) (after 64 x),
    )

is_client_line : (number : ℕ) → number ≤ 7 → is_line (client_line number) ≡ true
is_client_line number few =
    line_of_words (codes "client") (client_words number)
    (and_both (is_word (codes "0." ++ decimal number)) true (ap (λ (d : List ℕ). is_word (codes "0." ++ d)) (decimal_digit number (omega (arith, few))) ∙ letters (48 + number) (omega (arith, few)) (omega arith)) refl)
    (omega arith)
  where
    letters : (c : ℕ) → c ≤ 126 → 33 ≤ c → is_word (48 ∷ 46 ∷ c ∷ []) ≡ true
    letters c most least = rw (le-leb 33 c least, le-leb c 126 most) refl

are_clients_lines : (count number x : ℕ) → number + count ≤ 8 → list_all is_line (clients_texts count number x) ≡ true
unfolding clients_texts
are_clients_lines zero number x few = refl
are_clients_lines (suc count) number x few =
    list_all-append is_line (client_texts number x) (clients_texts count (number + 1) (after 64 x))
    ∙ and_both (list_all is_line (client_texts number x)) (list_all is_line (clients_texts count (number + 1) (after 64 x)))
    (are_client_lines number x (omega (arith, few)) (is_client_line number (omega (arith, few)))) (are_clients_lines count (number + 1) (after 64 x) (omega (arith, few)))

-- one client more, where those before cost so much at most
one_more : (n number x most : ℕ) (before : List Partition) (rest : List (List ℕ)) → number ≤ 7 → 2 ≤ n
    → judge n (at_end before) (codes "partition") ≡ good (in_partition before)
    → judge (n + 1) (in_partition before) (digit_line number) ≡ good (at_client number before)
    → judge (n + 1 + 1) (at_client number before) (codes "0 login") ≡ good (in_script number before (at (n + 1 + 1) verbs.Login ∷ []))
    → cost_of 0 before ≤ most → most + 854272 ≤ 16777216
    → (read_from n (at_end before) (client_texts number x ++ rest) ≡ read_from (n + 324) (at_end (before ++ client_partition number x (n + 1 + 1) ∷ [])) rest)
    × (cost_of 0 (before ++ client_partition number x (n + 1 + 1) ∷ []) ≤ most + 854272)
one_more n number x most before rest few later opens names logs low fits =
    (partition_added n number x before rest few later opens names logs (omega (arith, low, fits)), omega (arith, low, partition_costs (n + 1 + 1) number x before few))

-- a client's first line is its login
logs_words : (n number : ℕ) (before : List Partition) → is_over (at_client number before) verbs.Login ≡ false
    → judge_words n (at_client number before) (codes "0" ∷ codes "login" ∷ []) ≡ good (in_script number before (at n verbs.Login ∷ []))
unfolding is
logs_words n number before over = rw over refl

logs : (n number : ℕ) (before : List Partition) (most : ℕ) → 2 ≤ n → cost_of 0 before ≤ most → most + 256 ≤ 16777216
    → judge n (at_client number before) (codes "0 login") ≡ good (in_script number before (at n verbs.Login ∷ []))
unfolding is
logs n number before most later low fits =
    let none : cost_so_far (at_client number before) ≡ cost_of 0 before + 0 = refl in
    judged_by_words n (at_client number before) (codes "0") (codes "login" ∷ []) refl (omega arith) later
    ∙ logs_words n number before (not_over 16777216 (cost_so_far (at_client number before) + 256) (omega (arith, low, fits, none)))

-- the eight clients
all_read : (x : ℕ) → read_from 14 (at_end (server_partition ∷ [])) (clients_texts 8 0 x) ≡ accepted 4096 8 (server_partition ∷ client_partitions 8 0 x 14)
unfolding is clients_texts client_partitions
all_read x =
    let x1 : ℕ = after 64 x in
    let x2 : ℕ = after 64 x1 in
    let x3 : ℕ = after 64 x2 in
    let x4 : ℕ = after 64 x3 in
    let x5 : ℕ = after 64 x4 in
    let x6 : ℕ = after 64 x5 in
    let x7 : ℕ = after 64 x6 in
    let e0 : List Partition = server_partition ∷ [] in
    let e1 : List Partition = e0 ++ client_partition 0 x 16 ∷ [] in
    let e2 : List Partition = e1 ++ client_partition 1 x1 340 ∷ [] in
    let e3 : List Partition = e2 ++ client_partition 2 x2 664 ∷ [] in
    let e4 : List Partition = e3 ++ client_partition 3 x3 988 ∷ [] in
    let e5 : List Partition = e4 ++ client_partition 4 x4 1312 ∷ [] in
    let e6 : List Partition = e5 ++ client_partition 5 x5 1636 ∷ [] in
    let e7 : List Partition = e6 ++ client_partition 6 x6 1960 ∷ [] in
    let r0 = one_more 14 0 x 0 e0 (clients_texts 7 1 x1) (omega arith) (omega arith) refl refl (logs 16 0 e0 0 (omega arith) (omega arith) (omega arith)) (omega arith) (omega arith) in
    let r1 = one_more 338 1 x1 854272 e1 (clients_texts 6 2 x2) (omega arith) (omega arith) refl refl (logs 340 1 e1 854272 (omega arith) r0.1 (omega arith)) r0.1 (omega arith) in
    let r2 = one_more 662 2 x2 1708544 e2 (clients_texts 5 3 x3) (omega arith) (omega arith) refl refl (logs 664 2 e2 1708544 (omega arith) r1.1 (omega arith)) r1.1 (omega arith) in
    let r3 = one_more 986 3 x3 2562816 e3 (clients_texts 4 4 x4) (omega arith) (omega arith) refl refl (logs 988 3 e3 2562816 (omega arith) r2.1 (omega arith)) r2.1 (omega arith) in
    let r4 = one_more 1310 4 x4 3417088 e4 (clients_texts 3 5 x5) (omega arith) (omega arith) refl refl (logs 1312 4 e4 3417088 (omega arith) r3.1 (omega arith)) r3.1 (omega arith) in
    let r5 = one_more 1634 5 x5 4271360 e5 (clients_texts 2 6 x6) (omega arith) (omega arith) refl refl (logs 1636 5 e5 4271360 (omega arith) r4.1 (omega arith)) r4.1 (omega arith) in
    let r6 = one_more 1958 6 x6 5125632 e6 (clients_texts 1 7 x7) (omega arith) (omega arith) refl refl (logs 1960 6 e6 5125632 (omega arith) r5.1 (omega arith)) r5.1 (omega arith) in
    let r7 = one_more 2282 7 x7 5979904 e7 [] (omega arith) (omega arith) refl refl (logs 2284 7 e7 5979904 (omega arith) r6.1 (omega arith)) r6.1 (omega arith) in
    r0.0 ∙ r1.0 ∙ r2.0 ∙ r3.0 ∙ r4.0 ∙ r5.0 ∙ r6.0 ∙ r7.0

-- what the boot text of a seed says
pub generated_says : (seed : ℕ) → plan_of (generated seed) ≡ accepted 4096 8 (generated_partitions seed)
unfolding is
generated_says seed =
    let x : ℕ = seed % 2 ^ 31 in
    let lines : List (List ℕ) = clients_texts 8 0 x in
    let text : generated seed ≡ ended (head_lines ++ lines) = ap (λ t. head ++ t) (clients_text 8 0 x) ∙ sym (ended-append head_lines lines) in
    let good_lines : list_all is_line (head_lines ++ lines) ≡ true = list_all-append is_line head_lines lines ∙ are_clients_lines 8 0 x (omega arith) in
    let short : length (ended (head_lines ++ lines)) ≤ 1048576 = omega (arith, long_ended (head_lines ++ lines) good_lines, count_lines 8 0 x) in
    ap plan_of text
    ∙ if_false (nat_lt 1048576 (length (ended (head_lines ++ lines)))) (refused 0 causes.TooLong) (read_from 1 nothing (lines_of (ended (head_lines ++ lines)))) (not_over 1048576 (length (ended (head_lines ++ lines))) short)
    ∙ ap (read_from 1 nothing) (lines_ended (codes "vio 1") (drop 1 (head_lines ++ lines)) good_lines)
    ∙ all_read x

-- and no other plan
pub plan_is : (seed : ℕ) (plan : Plan) → SaysPlan (plan_of (generated seed)) plan → plan ≡ generated_plan seed
plan_is seed plan says =
    let same : accepted plan.rounds plan.grant plan.partitions ≡ accepted 4096 8 (generated_partitions seed) = sym says ∙ generated_says seed in
    λ i. record { rounds = rounds_in (same i); grant = grant_in (same i); partitions = partitions_in (same i) }
  where
    rounds_in : Reading → ℕ
    rounds_in (accepted rounds grant partitions) = rounds
    rounds_in (refused line cause) = 0

    grant_in : Reading → ℕ
    grant_in (accepted rounds grant partitions) = grant
    grant_in (refused line cause) = 0

    partitions_in : Reading → List Partition
    partitions_in (accepted rounds grant partitions) = partitions
    partitions_in (refused line cause) = []

-- it is never refused
pub never_refused : (seed line : ℕ) (cause : Cause) → plan_of (generated seed) ≡ refused line cause → ⊥
never_refused seed line cause refusal = subst reads (sym (generated_says seed) ∙ refusal) tt
  where
    reads : Reading → Type 0
    reads (accepted rounds grant partitions) = Unit {0}
    reads (refused line cause) = ⊥
