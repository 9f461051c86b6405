-- No line of a plain client writes on a page of a table of its lines: so none writes on one of what is outstanding.
use Rattle.std.proofs.Common.{◌≡◌, ◌∙◌, ℕ, zero, suc, ◌==◌, ◌||◌, ◌++◌, cond, Bool, true, false, true≢false, All, List, [], ◌∷◌, Option, Some, None, drop, refl, slice_get, sym, ap, ap₂, subst}
use Rattle.std.proofs.lemmas.List.Elements.{All-cons, All-head, All-nil, All-push, All-tail}
use Rattle.std.specs.List.{list_any}
use Rattle.boot_text.specs.declared.plan.Line.{Line}
use Rattle.boot_text.specs.declared.verb.Verb.{Verb}
use Rattle.boot_text.specs.declared.verb.Verb.TheVariants as verbs
use Rattle.vio_trace.specs.declared.outcome.Outcome.{Outcome}
use Rattle.vio_trace.specs.declared.rows.LogRow.{LogRow}
use Rattle.vcpu_run.specs.Credited.{ended_by}
use Rattle.vcpu_run.specs.OwnPairs.{SparesLines}
use Rattle.vcpu_run.specs.PlainClients.{IsPlainClient, keeps_own, lie_behind, lines_of, tables_in, tables_of, written_by}
use Rattle.vcpu_run.specs.PlainScripts.{after_ended}
use Rattle.vcpu_run.specs.PlainSteps.{IsPlainVerb, SparesTables}
use Rattle.vcpu_run.specs.Replay.{Asked, Range, Replay, after_line, any_share, before_lines, left_unless, logout_refusal, ranges_of, refusal, share_page, with_asked}
use Rattle.vcpu_run.proofs.PlainRights.{own_named}
use Rattle.vcpu_run.proofs.Driving.{some_is}

-- ---- lists

or_none : (a b : Bool) → (a || b) ≡ false → (a ≡ false) × (b ≡ false)
or_none true b e = absurd (true≢false e)
or_none false b e = (refl, e)

none_or : (a b : Bool) → a ≡ false → b ≡ false → (a || b) ≡ false
none_or a b x y = ap₂ (λ (s t : Bool). s || t) x y

any_front : (p : Range → Bool) (xs ys : List Range) → list_any p (xs ++ ys) ≡ false → (list_any p xs ≡ false) × (list_any p ys ≡ false)
any_front p [] ys e = (refl, e)
any_front p (x ∷ xs) ys e =
    let both = or_none (p x) (list_any p (xs ++ ys)) e in
    let rest = any_front p xs ys both.1 in
    (none_or (p x) (list_any p xs) both.0 rest.0, rest.1)

-- what is written shares no page with what is left out
pub share_none : (written : List Range) → any_share written [] ≡ false
share_none [] = refl
share_none (w ∷ written) = share_none written

share_parts : (written xs ys : List Range) → any_share written (xs ++ ys) ≡ false → (any_share written xs ≡ false) × (any_share written ys ≡ false)
share_parts [] xs ys e = (refl, refl)
share_parts (w ∷ written) xs ys e =
    let both = or_none (list_any (share_page w) (xs ++ ys)) (any_share written (xs ++ ys)) e in
    let here = any_front (share_page w) xs ys both.0 in
    let rest = share_parts written xs ys both.1 in
    (none_or (list_any (share_page w) xs) (any_share written xs) here.0 rest.0, none_or (list_any (share_page w) ys) (any_share written ys) here.1 rest.1)

pub filtered : (u : ℕ) (P : Line → Type 0) (lines : List Line) (n : ℕ) (line : Line) → All P (lines_of u lines) → slice_get lines n ≡ Some line → (line.unit == u) ≡ true → P line
filtered u P [] n line all found own = absurd (nothing n found)
  where
    nothing : (n : ℕ) → slice_get {X = Line} [] n ≡ Some line → ⊥
    nothing n e = cc
filtered u P (l ∷ lines) zero line all found own = at (l.unit == u) refl all
  where
    at : (b : Bool) → (l.unit == u) ≡ b → All P (cond b (l ∷ lines_of u lines) (lines_of u lines)) → P line
    at true is some = subst P (some_is l line found) (All-head P l (lines_of u lines) some)
    at false isnt some = absurd (true≢false (sym own ∙ (ap (λ (x : Line). x.unit == u) (sym (some_is l line found)) ∙ isnt)))
filtered u P (l ∷ lines) (suc n) line all found own = filtered u P lines n line (rest (l.unit == u) all) found own
  where
    rest : (b : Bool) → All P (cond b (l ∷ lines_of u lines) (lines_of u lines)) → All P (lines_of u lines)
    rest true some = All-tail P l (lines_of u lines) some
    rest false some = some

-- a line of the unit has its table among those of all
pub table_in : (written : List Range) (lines : List Line) → any_share written (tables_in lines) ≡ false → All (λ (line : Line). any_share written (tables_of line.verb) ≡ false) lines
table_in written [] e = All-nil (λ (line : Line). any_share written (tables_of line.verb) ≡ false)
table_in written (line ∷ lines) e =
    let parts = share_parts written (tables_of line.verb) (tables_in lines) e in
    All-cons (λ (line : Line). any_share written (tables_of line.verb) ≡ false) line lines parts.0 (table_in written lines parts.1)

-- ---- the replay

-- No byte that is written lies on a page of a table of what is outstanding.
unfoldable pub Spared : List Range → Replay → Type 0
Spared written now = All (λ (asked : Asked). any_share written (drop 1 asked.ranges) ≡ false) now.outstanding

spared_asked : (written : List Range) (now : Replay) (ranges : List Range) → any_share written (drop 1 ranges) ≡ false → Spared written now → Spared written (with_asked ranges now)
unfolding Spared
spared_asked written now ranges none spared =
    All-push (λ (asked : Asked). any_share written (drop 1 asked.ranges) ≡ false) now.outstanding (record { tag = now.tag; ranges = ranges }) spared none

spared_unless : (written : List Range) (why : Option Outcome) (now sent : Replay) → Spared written now → Spared written sent → Spared written (left_unless why now sent)
spared_unless written None now sent old new = new
spared_unless written (Some x) now sent old new = old

spared_drop : (written : List Range) (count : ℕ) (outstanding : List Asked) → All (λ (asked : Asked). any_share written (drop 1 asked.ranges) ≡ false) outstanding
    → All (λ (asked : Asked). any_share written (drop 1 asked.ranges) ≡ false) (drop count outstanding)
spared_drop written zero outstanding spared = spared
spared_drop written (suc count) [] spared = spared
spared_drop written (suc count) (asked ∷ outstanding) spared =
    spared_drop written count outstanding (All-tail (λ (asked : Asked). any_share written (drop 1 asked.ranges) ≡ false) asked outstanding spared)

pub spared_line : (granted pages : ℕ) (written : List Range) (now : Replay) (verb : Verb) → any_share written (tables_of verb) ≡ false → Spared written now
    → Spared written (after_line granted pages now verb)
unfolding Spared
spared_line granted pages written now verbs.Login none spared = spared
spared_line granted pages written now verbs.Reset none spared = All-nil (λ (asked : Asked). any_share written (drop 1 asked.ranges) ≡ false)
spared_line granted pages written now verbs.Logout none spared = spared_unless written (logout_refusal now) now _ spared spared
spared_line granted pages written now (verbs.Take count) none spared = spared_drop written count now.outstanding spared
spared_line granted pages written now verbs.Tur none spared =
    spared_unless written (refusal granted pages now []) now (with_asked [] now) spared (spared_asked written now [] (share_none written) spared)
spared_line granted pages written now (verbs.Read lba blocks place pieces table) none spared =
    spared_unless written (refusal granted pages now (ranges_of (verbs.Read lba blocks place pieces table))) now (with_asked (ranges_of (verbs.Read lba blocks place pieces table)) now) spared
    (spared_asked written now (ranges_of (verbs.Read lba blocks place pieces table)) none spared)
spared_line granted pages written now (verbs.Write lba blocks place pieces table) none spared =
    spared_unless written (refusal granted pages now (ranges_of (verbs.Write lba blocks place pieces table))) now (with_asked (ranges_of (verbs.Write lba blocks place pieces table)) now) spared
    (spared_asked written now (ranges_of (verbs.Write lba blocks place pieces table)) none spared)
spared_line granted pages written now (verbs.Command cdb) none spared =
    spared_unless written (refusal granted pages now []) now (with_asked [] now) spared (spared_asked written now [] (share_none written) spared)
spared_line granted pages written now (verbs.CommandIn cdb place len pieces table) none spared =
    spared_unless written (refusal granted pages now (ranges_of (verbs.CommandIn cdb place len pieces table))) now (with_asked (ranges_of (verbs.CommandIn cdb place len pieces table)) now) spared
    (spared_asked written now (ranges_of (verbs.CommandIn cdb place len pieces table)) none spared)
spared_line granted pages written now (verbs.CommandOut cdb place len pieces table) none spared =
    spared_unless written (refusal granted pages now (ranges_of (verbs.CommandOut cdb place len pieces table))) now (with_asked (ranges_of (verbs.CommandOut cdb place len pieces table)) now) spared
    (spared_asked written now (ranges_of (verbs.CommandOut cdb place len pieces table)) none spared)
spared_line granted pages written now (verbs.Task function tag) none spared =
    spared_unless written (refusal granted pages now []) now (with_asked [] now) spared (spared_asked written now [] (share_none written) spared)
spared_line granted pages written now (verbs.Data tag) none spared = spared
spared_line granted pages written now verbs.Open none spared = spared
spared_line granted pages written now verbs.Close none spared = spared
spared_line granted pages written now (verbs.Post place len count) none spared = spared
spared_line granted pages written now (verbs.Send to len seed place) none spared = spared
spared_line granted pages written now (verbs.ChangeMac own) none spared = spared
spared_line granted pages written now (verbs.Multicast control group) none spared = spared
spared_line granted pages written now (verbs.Fill place len seed) none spared = spared
spared_line granted pages written now (verbs.Poke place bytes) none spared = spared
spared_line granted pages written now (verbs.Peek place len) none spared = spared
spared_line granted pages written now (verbs.Tce entry page readable writable) none spared = spared
spared_line granted pages written now (verbs.Hcall number arguments) none spared = spared
spared_line granted pages written now verbs.Fail none spared = spared

-- all that ended were lines of the unit
spared_ended : (granted pages u : ℕ) (written : List Range) (now : Replay) (lines : List Line) (logs : List LogRow)
    → All (λ (line : Line). any_share written (tables_of line.verb) ≡ false) (lines_of u lines) → Spared written now
    → Spared written (after_ended granted pages now (ended_by u lines logs))
spared_ended granted pages u written now [] logs all spared = spared
spared_ended granted pages u written now (line ∷ lines) [] all spared = spared
spared_ended granted pages u written now (line ∷ lines) (row ∷ logs) all spared =
    at (λ later some more. spared_ended granted pages u written later lines logs some more) (line.unit == u) all
  where
    at : ((later : Replay) → All (λ (line : Line). any_share written (tables_of line.verb) ≡ false) (lines_of u lines) → Spared written later
        → Spared written (after_ended granted pages later (ended_by u lines logs)))
        → (b : Bool) → All (λ (line : Line). any_share written (tables_of line.verb) ≡ false) (cond b (line ∷ lines_of u lines) (lines_of u lines))
        → Spared written (after_ended granted pages now (cond b (record { verb = line.verb; outcome = row.outcome } ∷ ended_by u lines logs) (ended_by u lines logs)))
    at go true some =
        go (after_line granted pages now line.verb) (All-tail (λ (line : Line). any_share written (tables_of line.verb) ≡ false) line (lines_of u lines) some)
        (spared_line granted pages written now line.verb (All-head (λ (line : Line). any_share written (tables_of line.verb) ≡ false) line (lines_of u lines) some) spared)
    at go false some = go now some spared

-- what spares the tables of the unit's lines spares those of what is outstanding behind lines of the unit
pub ended_spared : (granted pages u : ℕ) (lines : List Line) (logs : List LogRow) → SparesLines u lines (after_ended granted pages before_lines (ended_by u lines logs))
unfolding Spared
ended_spared granted pages u lines logs written all =
    spared_ended granted pages u written before_lines lines logs all (All-nil (λ (asked : Asked). any_share written (drop 1 asked.ranges) ≡ false))

pub line_spares : (granted pages u n : ℕ) (lines : List Line) (line : Line) (now : Replay) → slice_get lines n ≡ Some line → (line.unit == u) ≡ true → SparesLines u lines now
    → SparesLines u lines (after_line granted pages now line.verb)
unfolding Spared
line_spares granted pages u n lines line now found own spares written all =
    spared_line granted pages written now line.verb (filtered u (λ l. any_share written (tables_of l.verb) ≡ false) lines n line all found own) (spares written all)

-- ---- a line of a plain client

-- it keeps the rights of the driver's pages
pub line_rights : (u : ℕ) (lines : List Line) (n : ℕ) (line : Line) → IsPlainClient u lines → slice_get lines n ≡ Some line → (line.unit == u) ≡ true → keeps_own line.verb ≡ true
line_rights u lines n line plain found own = filtered u (λ l. keeps_own l.verb ≡ true) lines n line plain.own_entries found own

pub plain_verb : (u : ℕ) (lines : List Line) (n : ℕ) (line : Line) → IsPlainClient u lines → slice_get lines n ≡ Some line → (line.unit == u) ≡ true → IsPlainVerb line.verb
plain_verb u lines n line plain found own = record {
  own_entry = own_named line.verb (line_rights u lines n line plain found own);
  behind = filtered u (λ l. lie_behind (written_by l.verb) ≡ true) lines n line plain.behind found own;
}

pub spares_tables : (granted pages u : ℕ) (lines : List Line) (logs : List LogRow) (n : ℕ) (line : Line) → IsPlainClient u lines → slice_get lines n ≡ Some line → (line.unit == u) ≡ true
    → SparesTables line.verb (after_ended granted pages before_lines (ended_by u lines logs))
unfolding Spared
spares_tables granted pages u lines logs n line plain found own =
    spared_ended granted pages u (written_by line.verb) before_lines lines logs
    (table_in (written_by line.verb) (lines_of u lines) (filtered u (λ l. any_share (written_by l.verb) (tables_in (lines_of u lines)) ≡ false) lines n line plain.no_table found own))
    (All-nil (λ (asked : Asked). any_share (written_by line.verb) (drop 1 asked.ranges) ≡ false))
