-- A turn of a plain client's server unit adds a line that says that a login was granted just where it grants one, of which the client does
-- not know yet.
use Rattle.std.proofs.Common.{◌≡◌, ◌∙◌, ◌⊎◌, inl, inr, ℕ, ◌+◌, ◌≤◌, ◌++◌, ◌∷◌, ◌==◌, ◌&&◌, nat_le, All, Bool, true, false, true≢false, append-nil, cond, filter, is_some, length, length-append, List, [], refl, sym, ap, arith, eq-eqb, eqb-true}
use Rattle.std.proofs.Math.Logic.{∥∥₁_elim}
use Rattle.std.proofs.lemmas.Bool.Decides.{nat_tests}
use Rattle.std.proofs.lemmas.List.Elements.{All-head, All-tail, filter-append}
use Rattle.vio_num.specs.declared.history.Grant.{Grant}
use Rattle.vio_num.specs.declared.history.Grant.TheVariants.{Granted}
use Rattle.vio_num.specs.declared.names.UnitId.{UnitId}
use Rattle.crq_session.specs.Answered.{taken_now}
use Rattle.crq_session.specs.EndState.{EndState}
use Rattle.block_server.specs.Makers.{same_unit}
use Rattle.block_server.specs.Receipts.{LinesMore, unit_of}
use Rattle.block_server.specs.Talk.{HearsAll, IsLoss, ServesNext, SettlesLogins, Talk, Word, settled_lines, talk_of}
use Rattle.block_server.specs.Talk.Word.{asks, begins, gone}
use Rattle.block_server.specs.declared.logins.Logins.{Logins}
use Rattle.block_server.specs.declared.service.Outcome.{Outcome}
use Rattle.block_server.specs.declared.service.Outcome.TheVariants as outcomes
use Rattle.block_server.specs.declared.unit.Unit.{Unit}
use Rattle.vscsi_client.specs.State.{ClientState}
use Rattle.vcpu_run.specs.PlainClients.{grants_login, grants_of}
use Rattle.vcpu_run.specs.PlainTalk.{Between, is_logout, logs_out, owes}
use Rattle.vcpu_run.proofs.PlainLists.{takes_by}
use Rattle.vcpu_run.proofs.PlainOwed.{IsOwed, owes_few, owes_less}
use Rattle.vcpu_run.proofs.PlainTurns.{Turns}

-- ---- what is heard

-- an entry that is taken keeps a login from taking requests, or leaves it
out_step : (o taking goes : Bool) → cond o false taking ≡ true → goes ≡ false → (taking ≡ true) × (cond o true goes ≡ false)
out_step true taking goes is none = absurd (true≢false (sym is))
out_step false taking goes is none = (is, none)

pub hears_taking : (talk : Talk) (n : ℕ) (words : List Word) (talk' : Talk) → HearsAll talk n words talk' → talk'.taking ≡ true → (talk.taking ≡ true) × (logs_out words ≡ false)
hears_taking talk n [] talk' is taking = (sym (ap (λ (t : Talk). t.taking) is) ∙ taking, refl)
hears_taking talk n (begins ∷ words) talk' (middle, one, all) taking =
    let then' = hears_taking middle (n + 1) words talk' all taking in (sym (ap (λ (t : Talk). t.taking) one) ∙ then'.0, then'.1)
hears_taking talk n (gone ∷ words) talk' (middle, one, all) taking =
    let then' = hears_taking middle (n + 1) words talk' all taking in absurd (true≢false (sym then'.0 ∙ one.loses.taking))
hears_taking talk n (asks address bytes iu ∷ words) talk' (middle, one, all) taking =
    let then' = hears_taking middle (n + 1) words talk' all taking in
    out_step (is_logout iu) talk.taking (logs_out words) (sym (takes_by talk.taking iu) ∙ (sym one.taking ∙ then'.0)) then'.1

-- ---- the lines

-- how many of these lines say that a login was granted, whichever unit's
abbrev pub grants_in : List Grant → ℕ
grants_in lines = length (filter grants_login lines)

in_more : (old more : List Grant) → grants_in (old ++ more) ≡ grants_in old + grants_in more
in_more old more = ap length (filter-append grants_login old more) ∙ length-append (filter grants_login old) (filter grants_login more)

pub of_more : (unit : UnitId) (old more : List Grant) → grants_of unit (old ++ more) ≡ grants_of unit old + grants_of unit more
of_more unit old more =
    ap length (filter-append (λ line. same_unit (unit_of line) unit && grants_login line) old more)
    ∙ length-append (filter (λ line. same_unit (unit_of line) unit && grants_login line) old) (filter (λ line. same_unit (unit_of line) unit && grants_login line) more)

pub same_self : (unit : UnitId) → same_unit unit unit ≡ true
same_self unit = grind (arith, nat_tests)

of_step : (a b : Bool) (line : Grant) (xs ys : List Grant) → a ≡ true → length xs ≡ length ys → length (cond (a && b) (line ∷ xs) xs) ≡ length (cond b (line ∷ ys) ys)
of_step true true line xs ys own same = omega (arith, same)
of_step true false line xs ys own same = same
of_step false b line xs ys own same = absurd (true≢false (sym own))

-- these are all of one unit
of_own : (unit : UnitId) (lines : List Grant) → All (λ line. unit_of line ≡ unit) lines → grants_of unit lines ≡ grants_in lines
of_own unit [] all = refl
of_own unit (line ∷ lines) all =
    of_step (same_unit (unit_of line) unit) (grants_login line) line (filter (λ l. same_unit (unit_of l) unit && grants_login l) lines) (filter grants_login lines)
    (ap (λ id. same_unit id unit) (All-head (λ (l : Grant). unit_of l ≡ unit) line lines all) ∙ same_self unit)
    (of_own unit lines (All-tail (λ (l : Grant). unit_of l ≡ unit) line lines all))

more_own : (unit : UnitId) (many : ℕ) (old new : List Grant) → LinesMore unit many old new → grants_of unit new + grants_in old ≡ grants_of unit old + grants_in new
more_own unit many old new lines =
    let of : grants_of unit new ≡ grants_of unit old + grants_of unit lines.more = ap (grants_of unit) lines.added ∙ of_more unit old lines.more in
    let in' : grants_in new ≡ grants_in old + grants_in lines.more = ap grants_in lines.added ∙ in_more old lines.more in
    omega (arith, of, in', of_own unit lines.more lines.of_unit)

-- a unit's turn adds lines of its own alone
pub more_lines : (unit : UnitId) (many : ℕ) (old new : List Grant) → ∥ LinesMore unit many old new ∥₁ → grants_of unit new + grants_in old ≡ grants_of unit old + grants_in new
more_lines unit many old new lines = by (grants_of unit new + grants_in old == grants_of unit old + grants_in new) refl
  where
    by : (b : Bool) → (grants_of unit new + grants_in old == grants_of unit old + grants_in new) ≡ b → grants_of unit new + grants_in old ≡ grants_of unit old + grants_in new
    by true e = eqb-true (grants_of unit new + grants_in old) (grants_of unit old + grants_in new) e
    by false e =
        absurd (∥∥₁_elim lines (λ a b. absurd a)
        (λ more. true≢false (sym (eq-eqb (grants_of unit new + grants_in old) (grants_of unit old + grants_in new) (more_own unit many old new more)) ∙ e)))

-- and takes none away
pub less_lines : (unit by : UnitId) (many : ℕ) (old new : List Grant) → ∥ LinesMore by many old new ∥₁ → grants_of unit old ≤ grants_of unit new
less_lines unit other many old new lines = by (nat_le (grants_of unit old) (grants_of unit new)) refl
  where
    by : (b : Bool) → nat_le (grants_of unit old) (grants_of unit new) ≡ b → grants_of unit old ≤ grants_of unit new
    by true e = grind (arith, nat_tests, e)
    by false e =
        absurd (∥∥₁_elim lines (λ a b. absurd a) (λ more.
        let of : grants_of unit new ≡ grants_of unit old + grants_of unit more.more = ap (grants_of unit) more.added ∙ of_more unit old more.more in
        let less : grants_of unit old ≤ grants_of unit new = omega (arith, of) in
        grind (arith, nat_tests, e, less)))

-- ---- the turn

no_losses : (lines : List Grant) → All IsLoss lines → grants_in lines ≡ 0
no_losses [] all = refl
no_losses (line ∷ lines) all =
    ap (λ b. length (cond b (line ∷ filter grants_login lines) (filter grants_login lines))) (ap grants_login (All-head IsLoss line lines all).3)
    ∙ no_losses lines (All-tail IsLoss line lines all)

-- what a turn leaves of the login, and of the lines that say that one was granted
record Grants (middle unit' : Unit) (added lines' : List Grant) : Type 0 where
  same : (unit'.logins.taking ≡ true → middle.logins.taking ≡ true) ⊎ (grants_in lines' ≡ grants_in added + 1)
  more : grants_in added ≤ grants_in lines'

answered_grants : (outcome : Outcome) (middle unit' : Unit) (session : ℕ) (added lines' : List Grant) → SettlesLogins outcome middle.logins unit'.logins
    → lines' ≡ added ++ settled_lines outcome middle.id session middle.logins → Grants middle unit' added lines'
answered_grants (outcomes.Granted number) middle unit' session added lines' settles lines =
    let line : Grant = Granted middle.id session (middle.logins.last + 1) number middle.logins.granted in
    let one : grants_in lines' ≡ grants_in added + 1 = ap grants_in lines ∙ in_more added (line ∷ []) in
    record { same = inr one; more = omega (arith, one) }
answered_grants outcomes.Rejected middle unit' session added lines' settles lines =
    let none : grants_in lines' ≡ grants_in added = ap grants_in (lines ∙ append-nil added) in
    record { same = inl (λ taking. sym (ap (λ (l : Logins). l.taking) settles) ∙ taking); more = omega (arith, none) }
answered_grants (outcomes.Served row) middle unit' session added lines' settles lines =
    let none : grants_in lines' ≡ grants_in added = ap grants_in (lines ∙ append-nil added) in
    record { same = inl (λ taking. sym settles.taking ∙ taking); more = omega (arith, none) }

same_grants : (middle unit' : Unit) (added lines' : List Grant) → unit'.logins ≡ middle.logins → lines' ≡ added → Grants middle unit' added lines'
same_grants middle unit' added lines' logins lines =
    let none : grants_in lines' ≡ grants_in added = ap grants_in lines in
    record { same = inl (λ taking. sym (ap (λ (l : Logins). l.taking) logins) ∙ taking); more = omega (arith, none) }

serves_grants : (middle unit' : Unit) (old new : EndState) (added lines' : List Grant) → ServesNext middle unit' old new added lines' → Grants middle unit' added lines'
serves_grants middle unit' old new added lines' (inl none) = same_grants middle unit' added lines' (ap (λ (u : Unit). u.logins) none.same) none.lines_are
serves_grants middle unit' old new added lines' (inr (request, rest, items, inl (order, out))) =
    let none : grants_in lines' ≡ grants_in added + 0 = ap grants_in out.lines_are ∙ in_more added _ in
    record { same = inl (λ taking. absurd (true≢false (sym taking ∙ out.taking))); more = omega (arith, none) }
serves_grants middle unit' old new added lines' (inr (request, rest, items, inr one)) = by old.place.partner_registered refl
  where
    by : (b : Bool) → old.place.partner_registered ≡ b → Grants middle unit' added lines'
    by true there = answered_grants one.outcome middle unit' old.last_session added lines' (one.put.logins there) (one.put.lines_are there)
    by false shut = same_grants middle unit' added lines' (one.put.none shut) (one.put.no_line shut)

pub turn_grants : (at at' : Between) (lines lines' : List Grant) (words : List Word) → at'.client ≡ at.client → at'.own.registered ≡ at.own.registered → Turns at at' lines lines' words
    → owes at' [] + grants_in lines ≤ owes at words + grants_in lines'
turn_grants at at' lines lines' words client registered turn = by on.same
  where
    on : Grants turn.middle at'.unit turn.added lines'
    on = serves_grants turn.middle at'.unit turn.between.queue at'.server turn.added lines' turn.serves

    heard : grants_in turn.added ≡ grants_in lines
    heard =
        let none : grants_in turn.hears.lines_are.more ≡ 0 = no_losses turn.hears.lines_are.more turn.hears.lines_are.losses in
        let all : grants_in turn.added ≡ grants_in lines + grants_in turn.hears.lines_are.more = ap grants_in turn.hears.lines_are.added ∙ in_more lines turn.hears.lines_are.more in
        omega (arith, none, all)

    before : (at'.unit.logins.taking ≡ true → turn.middle.logins.taking ≡ true) → IsOwed at' [] → IsOwed at words
    before same is =
        let was = hears_taking (talk_of at.unit) (length (taken_now at.server)) words (talk_of turn.middle) turn.hears.heard (same is.taking) in
        record { registered = sym registered ∙ is.registered; unknown = sym (ap (λ (s : ClientState). is_some s.granted) client) ∙ is.unknown; taking = was.0; goes_on = was.1 }

    by : (at'.unit.logins.taking ≡ true → turn.middle.logins.taking ≡ true) ⊎ (grants_in lines' ≡ grants_in turn.added + 1) → owes at' [] + grants_in lines ≤ owes at words + grants_in lines'
    by (inl same) = let less : owes at' [] ≤ owes at words = owes_less at at' words [] (before same) in omega (arith, less, heard, on.more)
    by (inr more) = omega (arith, owes_few at' [], heard, more)

-- So the client, told of so many logins, is owed no more than the lines say.
pub owed_behind : (unit : UnitId) (told many : ℕ) (at at' : Between) (lines lines' : List Grant) (words : List Word) → at'.client ≡ at.client → at'.own.registered ≡ at.own.registered
    → Turns at at' lines lines' words → ∥ LinesMore unit many lines lines' ∥₁ → told + owes at words ≤ grants_of unit lines → told + owes at' [] ≤ grants_of unit lines'
owed_behind unit told many at at' lines lines' words client registered turn more owed =
    omega (arith, turn_grants at at' lines lines' words client registered turn, more_lines unit many lines lines' more, owed)
