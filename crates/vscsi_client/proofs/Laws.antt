-- Laws of a client: its calls keep its credits, and its data lie in the region.
use Rattle.std.proofs.Common.{◌≡◌, ◌∙◌, ℕ, ◌≤◌, ◌<◌, true, false, Bool, List, [], ◌∷◌, ◌++◌, Option, Some, None, nat_le, length, ◌==◌, min, cond, refl, sym, ap, subst, arith}
use Rattle.std.proofs.lemmas.Bool.Decides.{nat_tests}
use Rattle.std.proofs.lemmas.List.{length-map, map-append, length-append}
use Rattle.std.specs.Option.{option_map}
use Rattle.crq_session.specs.declared.answers.RegAnswer.TheVariants as reg
use Rattle.crq_session.specs.declared.answers.SendAnswer.{SendAnswer}
use Rattle.srp_credits.specs.History.{Event, Sent, Logout, Lost, is_on, outstanding, granted, without}
use Rattle.vio_num.specs.declared.entry.Entry.{Entry}
use Rattle.vscsi_client.specs.declared.answers.Refused.TheVariants.{NoCredit, Overlap}
use Rattle.vscsi_client.specs.declared.answers.Taken.{Taken}
use Rattle.vscsi_client.specs.declared.answers.Taken.TheVariants as takens
use Rattle.vscsi_client.specs.declared.found.Found.{Found}
use Rattle.vscsi_client.specs.declared.found.Found.TheVariants as found
use Rattle.vscsi_client.specs.declared.outgoing.Outgoing.{Outgoing}
use Rattle.vscsi_client.specs.declared.stage.Due.{Due}
use Rattle.vscsi_client.specs.declared.op.Op.{Op}
use Rattle.vscsi_client.specs.Spans.{op_in_range, first_sharing}
use Rattle.vscsi_client.specs.State.{ClientState, tags_of, next_tag}
use Rattle.vscsi_client.specs.Ports.{Ports}
use Rattle.vscsi_client.specs.Sending.{refused_by, request_of, task_of, Submitted, Tasked, LoggedOut}
use Rattle.vscsi_client.specs.Taking.{taken_by, TakesAs}
use Rattle.vscsi_client.specs.Login.{found_by}
use Rattle.vscsi_client.specs.Turned.{Site, LoginStep, Registered, Took, TookNone, Looked, Began, Wrote, NotWritten, Put, RanOut, Runs, Steps, is_dropped, sent_by, sent_stage}
use Rattle.vscsi_client.specs.Credits.{IsGranted, Lives, taken_events, step_events, turn_events}
use Rattle.vscsi_client.proofs.Requests.{tags-without}
pub use Rattle.vscsi_client.proofs.Allowing.{not_range}
pub use Rattle.vscsi_client.proofs.Fits.{logged_out_fits, submitted_fits, taken_fits, tasked_fits, turned_fits}

-- credits speak of what is granted and of what is outstanding alone
lives_same : (es : List Event) (s s' : ClientState) → s'.granted ≡ s.granted → s'.outgoing ≡ s.outgoing → Lives es s → Lives es s'
lives_same es s s' g o lives = record {
  login = subst (IsGranted es) (sym g) lives.login;
  tags = ap tags_of o ∙ lives.tags;
  within = lives.within;
}

lives_lost : (es : List Event) (s : ClientState) → s.granted ≡ None → s.outgoing ≡ [] → Lives (Lost ∷ es) s
lives_lost es s g o = record { login = subst (IsGranted (Lost ∷ es)) (sym g) refl; tags = ap tags_of o; within = omega arith }

room_by : (es : List Event) (g : Option ℕ) (n : ℕ) (overlap : Option ℕ) → IsGranted es g → refused_by g n overlap ≡ None
    → (is_on es ≡ true) × (n < min (granted es) 200)
room_by es None n overlap login none = absurd (cc)
room_by es (Some g) n overlap login none = (login.0, left (nat_le g n) refl none)
  where
    left : (b : Bool) → nat_le g n ≡ b → cond b (Some (NoCredit 0)) (option_map Overlap overlap) ≡ None → n < min (granted es) 200
    left true is e = absurd (cc)
    left false is e = let more : n < g = grind (arith, nat_tests) in subst (λ k. n < k) login.1 more

many_of : (es : List Event) (s : ClientState) → Lives es s → length s.outgoing ≡ length (outstanding es)
many_of es s lives = sym (length-map s.outgoing (λ (o : Outgoing). o.tag)) ∙ ap length lives.tags

-- a request that was sent is one of those that are outstanding, and not more than were granted
lives_sent : (es : List Event) (s s' : ClientState) (overlap : Option ℕ) (r : Outgoing) → refused_by s.granted (length s.outgoing) overlap ≡ None
    → s'.granted ≡ s.granted → s'.outgoing ≡ s.outgoing ++ r ∷ [] → Lives es s → Lives (Sent r.tag ∷ es) s'
lives_sent es s s' overlap r none g o lives =
    let room = room_by es s.granted (length s.outgoing) overlap lives.login none in
    let many = many_of es s lives in
    record {
      login = subst (IsGranted es) (sym g) lives.login;
      tags = ap tags_of o ∙ (map-append (λ (o : Outgoing). o.tag) s.outgoing _ ∙ ap (λ ts. ts ++ r.tag ∷ []) lives.tags);
      within = omega (arith, room.1, many, length-append {A = ℕ});
    }

pub lives_submitted : (line : ℕ) (op : Op) (es : List Event) (s s' : ClientState) (old new : Ports) (tag : ℕ)
    → Submitted line op s s' old new tag → Lives es s → Lives (Sent tag ∷ es) s'
lives_submitted line op es s s' old new tag sent lives =
    subst (λ t. Lives (Sent t ∷ es) s') (sym sent.tag_is)
    (lives_sent es s s' (first_sharing op s.outgoing) (request_of op (next_tag s) sent.slot) (not_range (op_in_range old.own.place.size op) _ sent.allowed).1
    (ap (λ (t : ClientState). t.granted) sent.client) (ap (λ (t : ClientState). t.outgoing) sent.client) lives)

pub lives_tasked : (line function task : ℕ) (es : List Event) (s s' : ClientState) (old new : Ports) (tag : ℕ)
    → Tasked line function task s s' old new tag → Lives es s → Lives (Sent tag ∷ es) s'
lives_tasked line function task es s s' old new tag sent lives =
    subst (λ t. Lives (Sent t ∷ es) s') (sym sent.tag_is)
    (lives_sent es s s' None (task_of (next_tag s) sent.slot) sent.allowed
    (ap (λ (t : ClientState). t.granted) sent.client) (ap (λ (t : ClientState). t.outgoing) sent.client) lives)

pub lives_logged_out : (line : ℕ) (es : List Event) (s s' : ClientState) (old new : Ports) (tag : ℕ)
    → LoggedOut line s s' old new tag → Lives es s → Lives (Logout ∷ es) s'
lives_logged_out line es s s' old new tag sent lives = record {
  login = subst (IsGranted (Logout ∷ es)) (sym (ap (λ (t : ClientState). t.granted) sent.client)) refl;
  tags = ap (λ (t : ClientState). tags_of t.outgoing) sent.client ∙ lives.tags;
  within = lives.within;
}

length-without_le : (tag : ℕ) (ts : List ℕ) → length (without tag ts) ≤ length ts
length-without_le tag [] = omega arith
length-without_le tag (t ∷ ts) = at (t == tag) (length-without_le tag ts)
  where
    at : (b : Bool) → length (without tag ts) ≤ length ts → length (cond b ts (t ∷ without tag ts)) ≤ length (t ∷ ts)
    at true h = omega arith
    at false h = omega arith

-- an answer takes its request out; whatever else was taken leaves the credits, but a loss ends the login
lives_by : (entry : Entry) (taken : Taken) (es : List Event) (s : ClientState) → Lives es s → Lives (taken_events taken es) (taken_by entry taken s)
lives_by entry (takens.Answer tag response) es s lives = record {
  login = lives.login;
  tags = tags-without tag s.outgoing ∙ ap (without tag) lives.tags;
  within = (let less = length-without_le tag (outstanding es) in omega (arith, lives.within, less));
}
lives_by entry takens.Lost es s lives = record { login = refl; tags = refl; within = omega arith }
lives_by entry takens.Other es s lives = record { login = lives.login; tags = lives.tags; within = lives.within }
lives_by entry (takens.Again page word) es s lives = record { login = lives.login; tags = lives.tags; within = lives.within }
lives_by entry (takens.Stray tag) es s lives = lives
lives_by entry (takens.Empty number) es s lives = lives

pub lives_taken : (es : List Event) (s s' : ClientState) (old new : Ports) (taken : Taken) → TakesAs s s' old new taken → Lives es s → Lives (taken_events taken es) s'
lives_taken es s s' old new taken takes lives =
    let j = takes.judged in
    let kept : Lives es takes.kept = lives_same es s takes.kept (ap (λ (t : ClientState). t.granted) takes.fetched.client) (ap (λ (t : ClientState). t.outgoing) takes.fetched.client) lives in
    subst (Lives (taken_events taken es)) (sym j.client)
    (lives_by j.entry taken es (record takes.kept { kept = j.rest }) (lives_same es takes.kept (record takes.kept { kept = j.rest }) refl refl kept))

lives_found : (entry : Entry) (f : Found) (es : List Event) (s : ClientState) → Lives es s → Lives (step_events (Looked f) es) (found_by entry f s)
lives_found entry (found.Granted credits) es s lives = record { login = (refl, refl); tags = refl; within = omega arith }
lives_found entry (found.Rejected reason) es s lives = record { login = lives.login; tags = lives.tags; within = lives.within }
lives_found entry found.Lost es s lives = record { login = refl; tags = refl; within = omega arith }
lives_found entry found.Step es s lives = record { login = lives.login; tags = lives.tags; within = lives.within }
lives_found entry found.Answer es s lives = record { login = lives.login; tags = lives.tags; within = lives.within }
lives_found entry found.Nothing es s lives = record { login = lives.login; tags = lives.tags; within = lives.within }
lives_found entry (found.InUse page word) es s lives = lives

lives_put : (due : Due) (others : List Due) (answer : SendAnswer) (es : List Event) (s : ClientState) → Lives es s → Lives es (sent_by due others answer s)
lives_put due others answer es s lives = at (is_dropped answer)
  where
    at : (b : Bool) → Lives es (cond b s (record s { due = others; login = sent_stage due s.login }))
    at true = lives
    at false = record { login = lives.login; tags = lives.tags; within = lives.within }

lives_step : (line : ℕ) (step : LoginStep) (es : List Event) (a b : Site) → Steps line step a b → Lives es a.client → Lives (step_events step es) b.client
lives_step line (Registered reg.Resource) es a b h lives = subst (Lives es) (sym h.0.registers.2) lives
lives_step line (Registered reg.Success) es a b h lives =
    lives_lost es b.client (ap (λ (t : ClientState). t.granted) h.0.registers.2) (ap (λ (t : ClientState). t.outgoing) h.0.registers.2)
lives_step line (Registered (reg.Closed control)) es a b h lives =
    lives_lost es b.client (ap (λ (t : ClientState). t.granted) h.0.registers.2) (ap (λ (t : ClientState). t.outgoing) h.0.registers.2)
lives_step line (Registered (reg.Busy number held)) es a b h lives =
    lives_lost es b.client (ap (λ (t : ClientState). t.granted) h.0.registers.1) (ap (λ (t : ClientState). t.outgoing) h.0.registers.1)
lives_step line (Registered reg.Parameter) es a b h lives = absurd h.0.registers
lives_step line Took es a b h lives = lives_same es a.client b.client (ap (λ (t : ClientState). t.granted) h.0.client) (ap (λ (t : ClientState). t.outgoing) h.0.client) lives
lives_step line TookNone es a b h lives = subst (Lives es) (sym h.0.client) lives
lives_step line (Looked f) es a b h lives = subst (Lives (step_events (Looked f) es)) (sym h.0.client) (lives_found h.0.entry f es a.client lives)
lives_step line Began es a b h lives = lives_same es a.client b.client (ap (λ (t : ClientState). t.granted) h.0.client) (ap (λ (t : ClientState). t.outgoing) h.0.client) lives
lives_step line Wrote es a b h lives = lives_same es a.client b.client (ap (λ (t : ClientState). t.granted) h.1.client) (ap (λ (t : ClientState). t.outgoing) h.1.client) lives
lives_step line (NotWritten page word) es a b h lives = subst (Lives es) (sym h.1.client) lives
lives_step line (Put due answer) es a b h lives = subst (Lives es) (sym h.0.client) (lives_put due h.0.others answer es a.client lives)
lives_step line RanOut es a b h lives = subst (Lives es) (sym h.client) lives

-- a turn of a login keeps the credits, whatever it answers
pub lives_turned : (line : ℕ) (steps : List LoginStep) (es : List Event) (a b : Site) → Runs line steps a b → Lives es a.client → Lives (turn_events steps es) b.client
lives_turned line [] es a b runs lives = subst (λ (t : Site). Lives es t.client) (sym runs) lives
lives_turned line (step ∷ steps) es a b runs lives =
    lives_step line step (turn_events steps es) runs.0 b runs.2 (lives_turned line steps es a runs.0 runs.1 lives)

no_overlap : (overlap : Option ℕ) (l : ℕ) → option_map Overlap overlap ≡ Some (NoCredit l) → ⊥
no_overlap None l e = cc
no_overlap (Some tag) l e = cc

full_by : (es : List Event) (g : Option ℕ) (n l : ℕ) (overlap : Option ℕ) → IsGranted es g → n ≤ min (granted es) 200
    → refused_by g n overlap ≡ Some (NoCredit l) → (l ≡ 0) × (n ≡ min (granted es) 200)
full_by es None n l overlap login within e = absurd (cc)
full_by es (Some g) n l overlap login within e = at (nat_le g n) refl e
  where
    at : (b : Bool) → nat_le g n ≡ b → cond b (Some (NoCredit 0)) (option_map Overlap overlap) ≡ Some (NoCredit l) → (l ≡ 0) × (n ≡ min (granted es) 200)
    at true is f = let most : g ≤ n = grind (arith, nat_tests) in (cc, omega (arith, login.1, within, most))
    at false is f = absurd (no_overlap overlap l f)

-- where a request is refused for want of a credit, as many are outstanding as were granted, of which 200 count
pub no_credit : (es : List Event) (s : ClientState) (l : ℕ) (overlap : Option ℕ) → Lives es s
    → refused_by s.granted (length s.outgoing) overlap ≡ Some (NoCredit l) → (l ≡ 0) × (length (outstanding es) ≡ min (granted es) 200)
no_credit es s l overlap lives is =
    let many = many_of es s lives in
    let full = full_by es s.granted (length s.outgoing) l overlap lives.login (subst (λ n. n ≤ min (granted es) 200) (sym many) lives.within) is in
    (full.0, sym many ∙ full.1)
