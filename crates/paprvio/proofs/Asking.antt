-- What words ask for, by what a parse of them found or refused.
use Rattle.std.proofs.Common.{◌≡◌, ◌≢◌, ◌∙◌, List, [], ◌∷◌, ℕ, Option, Some, None, codes, option_map, true, inl, inr, refl, sym, ap, subst}
use Rattle.clap.specs.Faults.{fault_of, is_simple_and_free}
use Rattle.clap.specs.Kinds.{HasKind, Kinds}
use Rattle.clap.specs.Values.{kind_of}
use Rattle.clap.specs.declared.error.Error.{Error}
use Rattle.clap.specs.declared.error.kind.ErrorKind.TheVariants.{OutOfMemory}
use Rattle.clap.specs.Simple.{App, matches_of}
use Rattle.clap.specs.Matches.{first_value}
use Rattle.clap.specs.Walk.{Row, rows_of}
use Rattle.clap.specs.declared.parser.matches.Found.{Found}
use Rattle.clap.proofs.WalkLemmas.{first_value-rows}
use Rattle.std.specs.Borrow.{Bor}
use Rattle.std.specs.Option.{option_and_then}
use Rattle.paprvio.specs.declared.request.Request.{Request}
use Rattle.paprvio.specs.Words.{asked, asked_unless, request_in, request_of, texts, words_app}

pub asked_ok : (words : List (List ℕ)) (rows : List Row) → fault_of words_app words ≡ [] → rows ≡ matches_of words_app words → request_in rows ≡ asked words
asked_ok words rows none is = ap request_in is ∙ sym (ap (λ kinds. asked_unless kinds words) none)

pub is_free : is_simple_and_free words_app ≡ true
is_free = refl

-- an error that is no want of memory comes of a kind that stands against the words
pub asked_none : (words : List (List ℕ)) (app : App) (e : Error) → app ≡ words_app → (is_simple_and_free app ≡ true → HasKind (fault_of app words) e) → kind_of e ≢ OutOfMemory
    → None ≡ asked words
asked_none words app e is kinds other =
    at (fault_of words_app words) (subst (λ a. is_simple_and_free a ≡ true → HasKind (fault_of a words) e) is kinds is_free)
  where
    at : (k : Kinds) → HasKind k e → None ≡ asked_unless k words
    at k (inl memory) = absurd (other memory)
    at [] (inr among) = absurd among
    at (k ∷ ks) (inr among) = refl

text_of : (o : Option (Bor (List ℕ))) → texts o ≡ option_map (λ text. text.now) o
text_of None = refl
text_of (Some text) = refl

abbrev in_mode : Found → Option (List ℕ) → Option Request
in_mode f None = None
in_mode f (Some mode) = request_of mode (first_value f (codes "seed")) (first_value f (codes "workers"))

abbrev request_by : (mode seed workers : Option (List ℕ)) → Option Request
request_by mode seed workers = option_and_then (λ m. request_of m seed workers) mode

by_rows : (f : Found) → in_mode f (first_value f (codes "mode")) ≡ request_in (rows_of f)
by_rows f =
    at (first_value f (codes "mode")) ∙ ap3 (first_value-rows f (codes "mode")) (first_value-rows f (codes "seed")) (first_value-rows f (codes "workers"))
  where
    at : (o : Option (List ℕ)) → in_mode f o ≡ request_by o (first_value f (codes "seed")) (first_value f (codes "workers"))
    at None = refl
    at (Some mode) = refl

    ap3 : {a b c d e g : Option (List ℕ)} → a ≡ b → c ≡ d → e ≡ g → request_by a c e ≡ request_by b d g
    ap3 p q r = cc

-- what the getters give of the entries of a parse
pub none_in : (f : Found) (mode : Option (Bor (List ℕ))) → mode ≡ None → option_map (λ text. text.now) mode ≡ first_value f (codes "mode") → None ≡ request_in (rows_of f)
none_in f mode none gives =
    let nothing : first_value f (codes "mode") ≡ None = sym gives ∙ ap (option_map (λ text. text.now)) none in
    ap (in_mode f) (sym nothing) ∙ by_rows f

pub some_in : (f : Found) (found : Option (Bor (List ℕ))) (mode : Bor (List ℕ)) (seed workers : Option (Bor (List ℕ))) → found ≡ Some mode
    → option_map (λ text. text.now) found ≡ first_value f (codes "mode") → option_map (λ text. text.now) seed ≡ first_value f (codes "seed")
    → option_map (λ text. text.now) workers ≡ first_value f (codes "workers") → request_of mode.now (texts seed) (texts workers) ≡ request_in (rows_of f)
some_in f found mode seed workers some gives seeds counts =
    let first : first_value f (codes "mode") ≡ Some mode.now = sym gives ∙ ap (option_map (λ text. text.now)) some in
    let two : texts seed ≡ first_value f (codes "seed") = text_of seed ∙ seeds in
    let three : texts workers ≡ first_value f (codes "workers") = text_of workers ∙ counts in
    rw (two, three) (ap (in_mode f) (sym first) ∙ by_rows f)
