-- Each plan that a text says is sound.
use Rattle.std.proofs.Common.{◌≡◌, ℕ, ◌+◌, ◌==◌, Bool, true, false, List, [], ◌∷◌, length, nat_lt, if◌then◌else◌, Option, Some, None, Result, Ok, Err, IfOk, refl, ap, ◌∙◌, subst, arith}
use Rattle.boot_text.specs.BootText.{accepted, refused, has_bad_byte, is_header, is_skipped, verb_of_line, added, judge_statement, judge_line, judge_keyword, judge_words, judge_first, judge, may_end, ends, goes_on, read_from, plan_of, SaysPlan}
use Rattle.boot_text.specs.Keywords.{keyword}
use Rattle.boot_text.specs.Said.{Said, good, bad, said_then}
use Rattle.boot_text.specs.SoFar.{SoFar, nothing, follows, kind_of, offence}
use Rattle.boot_text.specs.Sound.{IsFrom, AreSound, IsSound, unit_at}
use Rattle.boot_text.specs.Statement.{statement_of}
use Rattle.boot_text.specs.Words.{lines_of, words_of, word}
use Rattle.boot_text.specs.declared.cause.Cause.{Cause}
use Rattle.boot_text.specs.declared.cause.Cause.TheVariants as causes
use Rattle.boot_text.specs.declared.cause.PlanFault.{PlanFault}
use Rattle.boot_text.specs.declared.keyword.Keyword.{Keyword}
use Rattle.boot_text.specs.declared.keyword.Keyword.TheVariants as keywords
use Rattle.boot_text.specs.declared.plan.Partition.{Partition}
use Rattle.boot_text.specs.declared.plan.Plan.{Plan}
use Rattle.boot_text.specs.declared.read.TheConstants.{MOST_TEXT, MOST_LINE}
use Rattle.boot_text.specs.declared.statement.TheConstants.{MOST_ROUNDS, MOST_GRANT}
use Rattle.boot_text.specs.declared.statement.Statement.{Statement}
use Rattle.boot_text.specs.declared.verb.VerbName.{VerbName}
use Rattle.boot_text.proofs.Ranges.{Any, IfGood, good_if, good_then, good_any}
use Rattle.boot_text.proofs.Statements.{IsRanged, IsOf, statement_is}
use Rattle.boot_text.proofs.Units.{empty_at}
use Rattle.boot_text.proofs.Linked.{AreLinked, links_same}
use Rattle.boot_text.proofs.Standing.{past_rounds, past_grant, Stands, begun_of, nothing_stands}
use Rattle.boot_text.proofs.Steps.{skipped_stands, statement_stands}

-- what a line leaves, if it is not wrong
statement_judged : (number : ℕ) (s : SoFar) (statement : Statement) → follows s.last (kind_of statement) ≡ true → IsRanged statement → Stands number s
    → IfGood (judge_statement number s statement) (Stands (number + 1))
statement_judged number s statement place range h = go (offence s statement) refl
  where
    go : (o : Option Cause) → offence s statement ≡ o → IfGood (added number s statement o) (Stands (number + 1))
    go None e = statement_stands number s statement place range e h
    go (Some cause) e = tt

line_judged : (number : ℕ) (s : SoFar) (k : Keyword) (words : List (List ℕ)) (verb : Option VerbName) → Stands number s → IfGood (judge_line number s k words verb) (Stands (number + 1))
line_judged number s k words verb h = go (follows s.last k) refl
  where
    go : (b : Bool) → follows s.last k ≡ b → IfGood (if b then said_then (judge_statement number s) (statement_of k verb words) else bad causes.Place) (Stands (number + 1))
    go true e =
        good_then (IsOf k) (Stands (number + 1)) (judge_statement number s) (statement_of k verb words) (statement_is k verb words) (λ statement i.
        statement_judged number s statement (ap (follows s.last) i.kind ∙ e) i.ranged h)
    go false e = tt

keyword_judged : (number : ℕ) (s : SoFar) (words : List (List ℕ)) (k : Option Keyword) → Stands number s → IfGood (judge_keyword number s words k) (Stands (number + 1))
keyword_judged number s words None h = tt
keyword_judged number s words (Some k) h =
    good_then Any (Stands (number + 1)) (judge_line number s k words) (verb_of_line k words) (good_any (verb_of_line k words)) (λ verb t.
    line_judged number s k words verb h)

words_judged : (number : ℕ) (s : SoFar) (words : List (List ℕ)) → Stands number s → IfGood (judge_words number s words) (Stands (number + 1))
words_judged number s words h =
    good_if (Stands (number + 1)) (is_skipped words) (good s) (judge_keyword number s words (keyword (word words 0)))
    (skipped_stands number s h) (keyword_judged number s words (keyword (word words 0)) h)

judged : (number : ℕ) (s : SoFar) (line : List ℕ) → Stands number s → IfGood (judge number s line) (Stands (number + 1))
judged number s line h =
    good_if (Stands (number + 1)) (has_bad_byte line) (bad causes.BadByte) _ tt
    (good_if (Stands (number + 1)) (nat_lt MOST_LINE (length line)) (bad causes.LineLength) _ tt
    (good_if (Stands (number + 1)) (number == 1) (judge_first s (words_of line)) (judge_words number s (words_of line))
    (good_if (Stands (number + 1)) (is_header (words_of line)) (good s) (bad causes.Header) (skipped_stands number s h) tt)
    (words_judged number s (words_of line) h)))

-- what stands at the end of the text is sound
partitions_sound : (number : ℕ) (s : SoFar) → may_end s.last ≡ true → Stands number s → AreSound s.ended
partitions_sound number s e h = record {
  some = h.some e;
  few = h.few;
  few_ports = omega (arith, h.few_ports);
  each = h.each;
  one_home = λ a b x y. links.one_home a b x.0 y.0 x.1 y.1;
  served = λ id server x. links.served id server x.0 x.1 x.2;
  earlier = λ id server x. links.earlier id server x.0 x.1 x.2;
  own = λ a b server x y. links.own a b server x.0 x.1 y.0 y.1 x.2 y.2;
}
  where
    links : AreLinked (unit_at s.ended)
    links = links_same (λ id. empty_at s.ended (begun_of s) id.partition id.unit (h.closed e)) h.links

same_reading : (rounds grant rounds' grant' : ℕ) (ps ps' : List Partition) → accepted rounds grant ps ≡ accepted rounds' grant' ps' → (rounds ≡ rounds') × (grant ≡ grant') × (ps ≡ ps')
same_reading rounds grant rounds' grant' ps ps' e = (cc, cc, cc)

no_reading : (rounds grant number : ℕ) (ps : List Partition) (cause : Cause) → refused number cause ≡ accepted rounds grant ps → ⊥
no_reading rounds grant number ps cause e = cc

ended_past : (last : Keyword) → may_end last ≡ true → (past_rounds last ≡ true) × (past_grant last ≡ true)
ended_past keywords.End e = (refl, refl)
ended_past _ e = cc

ended_sound : (number : ℕ) (s : SoFar) (plan : Plan) → Stands number s → SaysPlan (ends number s) plan → IsSound plan
ended_sound number s plan h = go (may_end s.last) refl
  where
    go : (b : Bool) → may_end s.last ≡ b → SaysPlan (if b then accepted s.rounds s.grant s.ended else refused number causes.Place) plan → IsSound plan
    go true e says =
        let same = same_reading s.rounds s.grant plan.rounds plan.grant s.ended plan.partitions says in
        let past = ended_past s.last e in
        record {
          rounds = subst (IsFrom 1 MOST_ROUNDS) same.0 (h.rounds past.0);
          grant = subst (IsFrom 1 MOST_GRANT) same.1 (h.grant past.1);
          partitions = subst AreSound same.2 (partitions_sound number s e h);
        }
    go false e says = absurd (no_reading plan.rounds plan.grant number plan.partitions causes.Place says)

-- a plan that these lines say behind such a plan so far
sound_from : (number : ℕ) (s : SoFar) (lines : List (List ℕ)) (plan : Plan) → Stands number s → SaysPlan (read_from number s lines) plan → IsSound plan
sound_from number s [] plan h says = ended_sound number s plan h says
sound_from number s (line ∷ lines) plan h says =
    go (λ s' k e. sound_from (number + 1) s' lines plan k e) (judge number s line) (judged number s line h) says
  where
    go : ((s' : SoFar) → Stands (number + 1) s' → SaysPlan (read_from (number + 1) s' lines) plan → IsSound plan)
        → (said : Said SoFar) → IfGood said (Stands (number + 1)) → SaysPlan (goes_on number (λ s'. read_from (number + 1) s' lines) said) plan → IsSound plan
    go rest (good s') k e = rest s' k e
    go rest (bad cause) k e = absurd (no_reading plan.rounds plan.grant number plan.partitions cause e)

-- a plan that lines say
pub lines_sound : (lines : List (List ℕ)) (plan : Plan) → SaysPlan (read_from 1 nothing lines) plan → IsSound plan
lines_sound lines plan says = sound_from 1 nothing lines plan (nothing_stands 1) says

-- a plan that a text says
pub sound_of : (text : List ℕ) (plan : Plan) → SaysPlan (plan_of text) plan → IsSound plan
sound_of text plan = go (nat_lt MOST_TEXT (length text))
  where
    go : (b : Bool) → SaysPlan (if b then refused 0 causes.TooLong else read_from 1 nothing (lines_of text)) plan → IsSound plan
    go true e = absurd (no_reading plan.rounds plan.grant 0 plan.partitions causes.TooLong e)
    go false e = lines_sound (lines_of text) plan e

-- the plan of a call that reads lines
pub result_sound : (lines : List (List ℕ)) (result : Result Plan PlanFault) → IfOk result (SaysPlan (read_from 1 nothing lines)) → IfOk result IsSound
result_sound lines (Ok plan) says = lines_sound lines plan says
result_sound lines (Err fault) says = tt
