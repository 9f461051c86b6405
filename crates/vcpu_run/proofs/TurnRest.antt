-- Where a turn of a login ends, no entry waits but one under the login's tag.
use Rattle.std.proofs.Common.{◌≡◌, ◌∙◌, ◌⊎◌, inl, inr, ℕ, ◌≤◌, ◌||◌, Bool, true, false, cond, List, [], ◌∷◌, ◌++◌, Option, Some, None, MatchOption, Ok, refl, sym, ap, subst, arith}
use Rattle.std.specs.List.{list_any}
use Rattle.std.proofs.lemmas.List.Folds.{list_any-append}
use Rattle.vio_num.specs.declared.entry.Entry.{Entry}
use Rattle.tce_window.specs.PortState.{PortState}
use Rattle.crq_session.specs.declared.answers.RegAnswer.{RegAnswer}
use Rattle.vscsi_client.specs.Login.{Finds, IsToOthers, SaysIn, login_slot}
use Rattle.vscsi_client.specs.State.{ClientState, next_tag}
use Rattle.vscsi_client.specs.Turned.{AreInOrder, Ends, FollowOn, IsLooked, Site, LoginStep, Registered, Took, TookNone, Looked, Began, Wrote, NotWritten, Put, RanOut, Runs, Turned, finds_use, is_dropped, part_after, sent_by, sent_stage}
use Rattle.vscsi_client.specs.declared.answers.LoginTurn.{LoginTurn}
use Rattle.vscsi_client.specs.declared.answers.LoginTurn.TheVariants as turns
use Rattle.vscsi_client.specs.declared.found.Found.TheVariants as found
use Rattle.vscsi_client.specs.declared.stage.Due.{Due}
use Rattle.vscsi_client.specs.declared.stage.Stage.TheVariants as stages
use Rattle.crq_session.specs.declared.answers.SendAnswer.{SendAnswer}
use Rattle.vcpu_run.specs.Takings.{unless_login, waiting, waiting_by}
use Rattle.vcpu_run.proofs.TurnOrder.{stage_waits, wrote_waits}

-- where a page was found in use, only steps of the last part come
spent_part : (steps : List LoginStep) → FollowOn 1 steps → list_any finds_use steps ≡ true → 2 ≤ part_after 1 steps
spent_part [] order met = absurd (cc)
spent_part (Looked (found.InUse page word) ∷ steps) order met = omega arith
spent_part (Looked (found.Granted credits) ∷ steps) order met = absurd (let most = order.0 in let least = spent_part steps order.1 met in omega (arith, most, least))
spent_part (Looked (found.Rejected reason) ∷ steps) order met = absurd (let most = order.0 in let least = spent_part steps order.1 met in omega (arith, most, least))
spent_part (Looked found.Lost ∷ steps) order met = absurd (let most = order.0 in let least = spent_part steps order.1 met in omega (arith, most, least))
spent_part (Looked found.Step ∷ steps) order met = absurd (let most = order.0 in let least = spent_part steps order.1 met in omega (arith, most, least))
spent_part (Looked found.Answer ∷ steps) order met = absurd (let most = order.0 in let least = spent_part steps order.1 met in omega (arith, most, least))
spent_part (Looked found.Nothing ∷ steps) order met = absurd (let most = order.0 in let least = spent_part steps order.1 met in omega (arith, most, least))
spent_part (Registered answer ∷ steps) order met = absurd (let most = order.0 in let least = spent_part steps order.1 met in omega (arith, most, least))
spent_part (Took ∷ steps) order met = absurd (let most = order.0 in let least = spent_part steps order.1 met in omega (arith, most, least))
spent_part (TookNone ∷ steps) order met = absurd (let most = order.0 in let least = spent_part steps order.1 met in omega (arith, most, least))
spent_part (Began ∷ steps) order met = omega arith
spent_part (Wrote ∷ steps) order met = omega arith
spent_part (NotWritten page word ∷ steps) order met = omega arith
spent_part (Put due answer ∷ steps) order met = at (is_dropped answer)
  where
    at : (b : Bool) → 2 ≤ cond b 3 2
    at true = omega arith
    at false = omega arith
spent_part (RanOut ∷ steps) order met = omega arith

-- an entry whose page is in use is under the login's tag
in_use_none : (shared : Bool) (s : ClientState) (entry : Entry) (old new : PortState) (page word : ℕ) → s.held ≡ Some entry → Finds shared s entry old new (found.InUse page word) → waiting s ≡ []
in_use_none shared s entry old new page word held finds =
    ap (λ (h : Option Entry). waiting_by h s.login) held ∙ at (login_slot entry.low s.login) finds.2
  where
    at : (o : Option ℕ) → MatchOption o (IsToOthers s entry (found.InUse page word) × (new ≡ old)) (λ slot. SaysIn shared entry.low slot old new (found.InUse page word)) → unless_login o entry ≡ []
    at None h = absurd h.0
    at (Some slot) h = refl

either_none : (waits still : List Entry) → (waits ≡ still) ⊎ (waits ≡ []) → still ≡ [] → waits ≡ []
either_none waits still (inl same) none = same ∙ none
either_none waits still (inr none) before = none

put_waits : (due : Due) (others : List Due) (answer : SendAnswer) (s : ClientState) → waiting (sent_by due others answer s) ≡ waiting s
put_waits due others answer s = at (is_dropped answer)
  where
    at : (b : Bool) → waiting (cond b s (record s { due = others; login = sent_stage due s.login })) ≡ waiting s
    at true = refl
    at false = stage_waits s.held due s.login

-- no more is taken then, and none waits
used_waits : (line : ℕ) (steps : List LoginStep) (a b : Site) → Runs line steps a b → FollowOn 1 steps → list_any finds_use steps ≡ true → waiting b.client ≡ []
used_waits line [] a b runs order met = absurd (cc)
used_waits line (Looked (found.InUse page word) ∷ steps) a b runs order met =
    ap waiting runs.2.0.client
    ∙ in_use_none runs.0.at.own_shared runs.0.client runs.2.0.entry runs.0.at.own b.at.own page word runs.2.0.held runs.2.0.finds
used_waits line (Looked (found.Granted credits) ∷ steps) a b runs order met = absurd (let most = order.0 in let least = spent_part steps order.1 met in omega (arith, most, least))
used_waits line (Looked (found.Rejected reason) ∷ steps) a b runs order met = absurd (let most = order.0 in let least = spent_part steps order.1 met in omega (arith, most, least))
used_waits line (Looked found.Lost ∷ steps) a b runs order met = absurd (let most = order.0 in let least = spent_part steps order.1 met in omega (arith, most, least))
used_waits line (Looked found.Step ∷ steps) a b runs order met = absurd (let most = order.0 in let least = spent_part steps order.1 met in omega (arith, most, least))
used_waits line (Looked found.Answer ∷ steps) a b runs order met = absurd (let most = order.0 in let least = spent_part steps order.1 met in omega (arith, most, least))
used_waits line (Looked found.Nothing ∷ steps) a b runs order met = absurd (let most = order.0 in let least = spent_part steps order.1 met in omega (arith, most, least))
used_waits line (Registered answer ∷ steps) a b runs order met = absurd (let most = order.0 in let least = spent_part steps order.1 met in omega (arith, most, least))
used_waits line (Took ∷ steps) a b runs order met = absurd (let most = order.0 in let least = spent_part steps order.1 met in omega (arith, most, least))
used_waits line (TookNone ∷ steps) a b runs order met = absurd (let most = order.0 in let least = spent_part steps order.1 met in omega (arith, most, least))
used_waits line (Began ∷ steps) a b runs order met = ap waiting runs.2.0.client ∙ used_waits line steps a runs.0 runs.1 order.1 met
used_waits line (Wrote ∷ steps) a b runs order met =
    ap waiting runs.2.1.client
    ∙ either_none (waiting_by runs.0.client.held (stages.Written (next_tag runs.0.client) runs.2.1.slot)) (waiting runs.0.client)
    (wrote_waits runs.0.client.held runs.0.client.login (stages.Written (next_tag runs.0.client) runs.2.1.slot) runs.2.0.idle) (used_waits line steps a runs.0 runs.1 order.1 met)
used_waits line (NotWritten page word ∷ steps) a b runs order met = ap waiting runs.2.1.client ∙ used_waits line steps a runs.0 runs.1 order.1 met
used_waits line (Put due answer ∷ steps) a b runs order met =
    ap waiting runs.2.0.client ∙ (put_waits due runs.2.0.others answer runs.0.client ∙ used_waits line steps a runs.0 runs.1 order.1 met)
used_waits line (RanOut ∷ steps) a b runs order met = ap waiting runs.2.client ∙ used_waits line steps a runs.0 runs.1 order.1 met

-- the steps behind the first one
behind_first : (line : ℕ) (later : List LoginStep) (first : LoginStep) (a b : Site) → Runs line (later ++ first ∷ []) a b → (mid : Site) × Runs line later mid b
behind_first line [] first a b runs = (b, refl)
behind_first line (step ∷ later) first a b runs =
    let rest = behind_first line later first a runs.0 runs.1 in
    (rest.0, (runs.0, rest.1, runs.2, runs.3))

used_later : (later : List LoginStep) (answer : RegAnswer) → list_any finds_use (later ++ Registered answer ∷ []) ≡ true → list_any finds_use later ≡ true
used_later later answer met = at (list_any finds_use later) (sym (list_any-append finds_use later (Registered answer ∷ [])) ∙ met)
  where
    at : (b : Bool) → (b || false) ≡ true → b ≡ true
    at true e = refl
    at false e = e

looked_rest : (line : ℕ) (steps : List LoginStep) (a b : Site) → Runs line steps a b → AreInOrder steps → IsLooked b.client.held steps → waiting b.client ≡ []
looked_rest line steps a b runs order looked = at b.client.held refl looked
  where
    at : (h : Option Entry) → b.client.held ≡ h → IsLooked h steps → waiting b.client ≡ []
    at None e h = ap (λ (held : Option Entry). waiting_by held b.client.login) e
    at (Some entry) e h =
        let split = behind_first line order.later (Registered order.answer) a b (subst (λ (all : List LoginStep). Runs line all a b) order.is runs) in
        used_waits line order.later split.0 b split.1 order.order (used_later order.later order.answer (subst (λ (all : List LoginStep). list_any finds_use all ≡ true) order.is h))

none_held : (s t : ClientState) → s ≡ t → t.held ≡ None → waiting s ≡ []
none_held s t is none = ap waiting is ∙ ap (λ (held : Option Entry). waiting_by held t.login) none

ends_rest : (line slots : ℕ) (a b : Site) (turn : LoginTurn) (all : List LoginStep) → Runs line all a b → Ends slots b turn all → AreInOrder all → waiting b.client ≡ []
ends_rest line slots a b turns.Again all runs ends order = looked_rest line all a b runs order ends.looked
ends_rest line slots a b (turns.Granted credits) all runs ends order =
    let r = subst (λ (ss : List LoginStep). Runs line ss a b) ends.is runs in none_held b.client _ r.2.0.client refl
ends_rest line slots a b (turns.Rejected reason) all runs ends order =
    let r = subst (λ (ss : List LoginStep). Runs line ss a b) ends.is runs in none_held b.client _ r.2.0.client refl
ends_rest line slots a b turns.Lost all runs ends order =
    let r = subst (λ (ss : List LoginStep). Runs line ss a b) ends.is runs in none_held b.client _ r.2.0.client refl
ends_rest line slots a b (turns.Busy number held) all runs ends order =
    let r = subst (λ (ss : List LoginStep). Runs line ss a b) ends.is runs in none_held b.client _ r.2.0.registers.1 refl

-- a turn that ends leaves none that waits
pub turn_rest : (line : ℕ) (a b : Site) (turn : LoginTurn) → Turned line a b (Ok turn) → waiting b.client ≡ []
turn_rest line a b turn turned = ends_rest line a.at.crq.place.own_slots a b turn turned.steps turned.runs turned.ends.1 turned.ends.2
