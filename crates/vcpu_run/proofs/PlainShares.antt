-- A command of a plain client shares a page with one that is outstanding just where the replay of its lines says so.
use Rattle.std.proofs.Common.{◌≡◌, ◌∙◌, ℕ, suc, ◌*◌, ◌&&◌, ◌||◌, nat_lt, Bool, true, false, cond, List, [], ◌∷◌, ◌++◌, Option, Some, None, drop, find, length, refl, sym, ap, ap₂, arith}
use Rattle.std.specs.List.{list_any}
use Rattle.std.specs.Option.{option_map}
use Rattle.std.proofs.lemmas.Bool.Decides.{nat_tests}
use Rattle.boot_text.specs.declared.verb.Verb.{Verb}
use Rattle.boot_text.specs.declared.verb.Verb.TheVariants as verbs
use Rattle.vio_trace.specs.declared.outcome.Outcome.{Outcome}
use Rattle.vio_trace.specs.declared.outcome.Outcome.TheVariants as outcomes
use Rattle.vscsi_client.specs.Spans.{by_dir, data_span, meets, no_pages, shares, span_of, span_of_table, table_len, table_span}
use Rattle.vscsi_client.specs.declared.op.Dir.{Dir}
use Rattle.vscsi_client.specs.declared.op.Dir.TheVariants as dirs
use Rattle.vscsi_client.specs.declared.op.Op.{Op}
use Rattle.vscsi_client.specs.declared.outgoing.Outgoing.{Outgoing}
use Rattle.vscsi_client.specs.declared.outgoing.Span.{Span}
use Rattle.vcpu_run.specs.Commands.{HasData, HasNoData, IsOpOf}
use Rattle.vcpu_run.specs.PlainSteps.{AreReplayedAs, IsReplayedAs, have_page_of}
use Rattle.vcpu_run.specs.Replay.{Asked as Replayed, Range, any_share, oldest_sharing, range, ranges_of, share_page, table_range}

-- ---- spans and ranges

never_below : (n : ℕ) → nat_lt n 0 ≡ false
never_below n = at (nat_lt n 0) refl
  where
    at : (b : Bool) → nat_lt n 0 ≡ b → nat_lt n 0 ≡ false
    at true is = absurd (grind (arith, nat_tests, is))
    at false is = is

and_false : (b : Bool) → (b && false) ≡ false
and_false true = refl
and_false false = refl

pub or_false : (b : Bool) → (b || false) ≡ b
or_false true = refl
or_false false = refl

pub no_page : (span : Span) → meets no_pages span ≡ false
no_page span = ap (λ b. nat_lt 0 span.end && b) (never_below span.first) ∙ and_false (nat_lt 0 span.end)

on_none : (span : Span) → meets span no_pages ≡ false
on_none span = ap (λ b. b && nat_lt 0 span.end) (never_below span.first)

pub any_same : (f g : Range → Bool) → ((r : Range) → f r ≡ g r) → (ranges : List Range) → list_any f ranges ≡ list_any g ranges
any_same f g same [] = refl
any_same f g same (r ∷ ranges) = ap₂ (λ a b. a || b) (same r) (any_same f g same ranges)

any_or : (f g : Range → Bool) (ranges : List Range) → list_any (λ r. f r || g r) ranges ≡ (list_any f ranges || list_any g ranges)
any_or f g [] = refl
any_or f g (r ∷ ranges) = ap (λ b. (f r || g r) || b) (any_or f g ranges) ∙ turn (f r) (g r) (list_any f ranges) (list_any g ranges)
  where
    last_true : (a : Bool) → (a || true) ≡ true
    last_true true = refl
    last_true false = refl

    turn : (a b c d : Bool) → ((a || b) || (c || d)) ≡ ((a || c) || (b || d))
    turn true b c d = refl
    turn false true c d = sym (last_true c)
    turn false false c d = refl

any_none : (ranges : List Range) → list_any (λ r. false) ranges ≡ false
any_none [] = refl
any_none (r ∷ ranges) = any_none ranges

-- the pages of a command's table are those of its range
table_page : (pieces : ℕ) (table : Option ℕ) (span : Span) → meets (span_of_table table pieces) span ≡ have_page_of span (table_range pieces table)
table_page pieces None span = no_page span
table_page pieces (Some t) span = sym (or_false (meets (span_of t (table_len pieces)) span))

table_shares : (pieces : ℕ) (table : Option ℕ) (ranges : List Range)
    → list_any (λ one. list_any (share_page one) (table_range pieces table)) ranges ≡ have_page_of (span_of_table table pieces) ranges
table_shares pieces None ranges = any_same (λ one. false) (λ one. meets (span_of one.at one.len) no_pages) (λ one. sym (on_none (span_of one.at one.len))) ranges
table_shares pieces (Some t) ranges =
    any_same (λ one. meets (span_of one.at one.len) (span_of t (table_len pieces)) || false) (λ one. meets (span_of one.at one.len) (span_of t (table_len pieces)))
    (λ one. or_false (meets (span_of one.at one.len) (span_of t (table_len pieces)))) ranges

-- The pages of a command are those of these ranges.
pub record HasPagesOf (op : Op) (ranges : List Range) : Type 0 where
  pub has : (span : Span) → (meets (data_span op) span || meets (table_span op) span) ≡ have_page_of span ranges
  pub tabled : (span : Span) → meets (table_span op) span ≡ have_page_of span (drop 1 ranges)
  pub shares : (others : List Range) → any_share others ranges ≡ (have_page_of (data_span op) others || have_page_of (table_span op) others)

none_has : (op : Op) → HasNoData op → HasPagesOf op []
none_has op h = record {
  has = λ span. ap₂ (λ a b. meets a span || meets b span) first table ∙ ap₂ (λ a b. a || b) (no_page span) (no_page span);
  tabled = λ span. ap (λ t. meets t span) table ∙ no_page span;
  shares = λ others. any_none others ∙ sym (ap₂ (λ a b. have_page_of a others || have_page_of b others) first table
      ∙ ap₂ (λ a b. a || b) (nowhere others) (nowhere others));
}
  where
    first : data_span op ≡ no_pages
    first = ap (λ d. by_dir d no_pages (span_of op.at op.len)) h.dir_is

    table : table_span op ≡ no_pages
    table = ap (λ t. span_of_table t op.pieces) h.table_is

    nowhere : (others : List Range) → have_page_of no_pages others ≡ false
    nowhere others = any_same (λ one. meets (span_of one.at one.len) no_pages) (λ one. false) (λ one. on_none (span_of one.at one.len)) others ∙ any_none others

data_has : (dir : Dir) (at len pieces : ℕ) (table : Option ℕ) (op : Op) → ((span : Span) → by_dir dir no_pages span ≡ span) → HasData dir at len pieces table op
    → HasPagesOf op (range at len ∷ table_range pieces table)
data_has dir at len pieces table op some h = record {
  has = λ span. ap₂ (λ a b. meets a span || meets b span) first tabled ∙ ap (λ b. meets (span_of at len) span || b) (table_page pieces table span);
  tabled = λ span. ap (λ t. meets t span) tabled ∙ table_page pieces table span;
  shares = λ others. any_or (λ one. meets (span_of one.at one.len) (span_of at len)) (λ one. list_any (share_page one) (table_range pieces table)) others
      ∙ ap (λ b. have_page_of (span_of at len) others || b) (table_shares pieces table others)
      ∙ sym (ap₂ (λ a b. have_page_of a others || have_page_of b others) first tabled);
}
  where
    first : data_span op ≡ span_of at len
    first = ap (λ d. by_dir d no_pages (span_of op.at op.len)) h.dir_is ∙ some (span_of op.at op.len) ∙ ap₂ span_of h.at_is h.len_is

    tabled : table_span op ≡ span_of_table table pieces
    tabled = ap₂ span_of_table h.table_is h.pieces_is

pub pages_of : (verb : Verb) (op : Op) → IsOpOf verb op → HasPagesOf op (ranges_of verb)
pages_of verbs.Tur op h = none_has op h
pages_of (verbs.Read lba blocks at pieces table) op h = data_has dirs.In at (512 * blocks) pieces table op (λ span. refl) h
pages_of (verbs.Write lba blocks at pieces table) op h = data_has dirs.Out at (512 * blocks) pieces table op (λ span. refl) h
pages_of (verbs.Command cdb) op h = none_has op h
pages_of (verbs.CommandIn cdb at len pieces table) op h = data_has dirs.In at len pieces table op (λ span. refl) h
pages_of (verbs.CommandOut cdb at len pieces table) op h = data_has dirs.Out at len pieces table op (λ span. refl) h
pages_of verbs.Login op h = absurd h
pages_of verbs.Reset op h = absurd h
pages_of verbs.Logout op h = absurd h
pages_of (verbs.Task function tag) op h = absurd h
pages_of (verbs.Take count) op h = absurd h
pages_of (verbs.Data tag) op h = absurd h
pages_of verbs.Open op h = absurd h
pages_of verbs.Close op h = absurd h
pages_of (verbs.Post at len count) op h = absurd h
pages_of (verbs.Send to len seed at) op h = absurd h
pages_of (verbs.ChangeMac own) op h = absurd h
pages_of (verbs.Multicast control group) op h = absurd h
pages_of (verbs.Fill at len seed) op h = absurd h
pages_of (verbs.Poke at bytes) op h = absurd h
pages_of (verbs.Peek at len) op h = absurd h
pages_of (verbs.Tce entry page readable writable) op h = absurd h
pages_of (verbs.Hcall number arguments) op h = absurd h
pages_of verbs.Fail op h = absurd h

-- ---- the oldest that shares a page

-- the tag of the first that meets a test
abbrev pub tag_found : (Outgoing → Bool) → List Outgoing → Option ℕ
tag_found test requests = option_map (λ (o : Outgoing). o.tag) (find test requests)

abbrev pub overlap_by : Option ℕ → Option Outcome
overlap_by found = option_map (λ (tag : ℕ). outcomes.Overlap tag) found

found_first : (o : Outgoing) (asked : Replayed) (rest : Option Outgoing) (rest' : Option Replayed) → o.tag ≡ asked.tag
    → overlap_by (option_map (λ (one : Outgoing). one.tag) rest) ≡ option_map (λ (one : Replayed). outcomes.Overlap one.tag) rest'
    → (b : Bool) → overlap_by (option_map (λ (one : Outgoing). one.tag) (cond b (Some o) rest)) ≡ option_map (λ (one : Replayed). outcomes.Overlap one.tag) (cond b (Some asked) rest')
found_first o asked rest rest' tag same true = ap (λ (n : ℕ). Some (outcomes.Overlap n)) tag
found_first o asked rest rest' tag same false = same

found_as : (test : Outgoing → Bool) (test' : Replayed → Bool) (requests : List Outgoing) (outstanding : List Replayed)
    → ((o : Outgoing) (asked : Replayed) → IsReplayedAs o asked → test o ≡ test' asked) → AreReplayedAs requests outstanding
    → overlap_by (tag_found test requests) ≡ option_map (λ (asked : Replayed). outcomes.Overlap asked.tag) (find test' outstanding)
found_as test test' [] [] same are = refl
found_as test test' [] (asked ∷ outstanding) same are = absurd are
found_as test test' (o ∷ requests) [] same are = absurd are
found_as test test' (o ∷ requests) (asked ∷ outstanding) same are =
    found_first o asked (find test requests) (find test' outstanding) are.0.tag (found_as test test' requests outstanding same are.1) (test o)
    ∙ ap (λ b. option_map (λ (one : Replayed). outcomes.Overlap one.tag) (cond b (Some asked) (find test' outstanding))) (same o asked are.0)

pub oldest_as : (op : Op) (ranges : List Range) (requests : List Outgoing) (outstanding : List Replayed) → HasPagesOf op ranges → AreReplayedAs requests outstanding
    → overlap_by (tag_found (shares (data_span op) (table_span op)) requests) ≡ oldest_sharing ranges outstanding
oldest_as op ranges requests outstanding has are =
    found_as (shares (data_span op) (table_span op)) (λ (asked : Replayed). any_share asked.ranges ranges) requests outstanding
    (λ o asked is. ap₂ (λ a b. a || b) (is.pages (data_span op)) (is.pages (table_span op)) ∙ sym (has.shares asked.ranges)) are

-- ---- lists of what is outstanding

pub replayed_long : (requests : List Outgoing) (outstanding : List Replayed) → AreReplayedAs requests outstanding → length requests ≡ length outstanding
replayed_long [] [] are = refl
replayed_long [] (asked ∷ outstanding) are = absurd are
replayed_long (o ∷ requests) [] are = absurd are
replayed_long (o ∷ requests) (asked ∷ outstanding) are = ap (λ n. suc n) (replayed_long requests outstanding are.1)

pub replayed_push : (requests : List Outgoing) (outstanding : List Replayed) (o : Outgoing) (asked : Replayed) → AreReplayedAs requests outstanding → IsReplayedAs o asked
    → AreReplayedAs (requests ++ o ∷ []) (outstanding ++ asked ∷ [])
replayed_push [] [] o asked are is = (is, tt)
replayed_push [] (one ∷ outstanding) o asked are is = absurd are
replayed_push (one ∷ requests) [] o asked are is = absurd are
replayed_push (one ∷ requests) (other ∷ outstanding) o asked are is = (are.0, replayed_push requests outstanding o asked are.1 is)
