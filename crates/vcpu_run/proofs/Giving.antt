-- What a client's steps keep of the answers that it took, at its end.
use Rattle.std.proofs.Common.{◌≡◌, ◌∙◌, inl, inr, ℕ, ◌+◌, All, List, [], ◌∷◌, ◌++◌, Option, Some, None, Result, Ok, Err, IfOk, IfErr, IfSome, OnErr, OnOk, Bool, refl, sym, ap, subst, append-nil, arith}
use Rattle.std.proofs.lemmas.List.{append_assoc, map-append}
use Rattle.std.proofs.lemmas.List.Elements.{All-append, All-cons, All-nil}
use Rattle.srp_iu.specs.declared.response.Rsp.{Rsp as Response}
use Rattle.vio_num.specs.declared.entry.Entry.{Entry}
use Rattle.crq_ring.specs.declared.rows.PipeRow.{PipeRow}
use Rattle.crq_session.specs.Answered.{TellsFreed}
use Rattle.crq_session.specs.EndState.{EndState, OnlyFrees, OnlyReserves, OnlySends}
use Rattle.vio_trace.specs.declared.rows.AnswerRow.{AnswerRow}
use Rattle.vio_num.specs.declared.memory.NoMemory.{NoMemory}
use Rattle.unit_region.specs.declared.step.Step.{Step}
use Rattle.vscsi_client.specs.Ports.{Ports}
use Rattle.vscsi_client.specs.Sending.{LoggedOut, Submitted, Tasked, WhyNotSubmitted, command_refusal, request_of, task_of, with_command, with_logout, with_task}
use Rattle.vscsi_client.specs.declared.answers.Refused.{Refused}
use Rattle.vscsi_client.specs.declared.op.Op.{Op}
use Rattle.vscsi_client.specs.State.{ClientState, next_tag}
use Rattle.vscsi_client.specs.Turned.{Site, Turned, unlinked}
use Rattle.vscsi_client.specs.declared.answers.LoginTurn.{LoginTurn}
use Rattle.vscsi_client.specs.declared.answers.Taken.{Taken}
use Rattle.vscsi_client.specs.declared.answers.Taken.TheVariants as takens
use Rattle.vcpu_run.specs.declared.driver.Driver.{Driver}
use Rattle.vcpu_run.specs.Answered.{AreBegun}
use Rattle.vcpu_run.specs.AnswersTaken.{AreAmong, IsAnswerOf, answered_tags, tags_among, tags_taken}
use Rattle.vcpu_run.specs.Takings.{Gives, HasMoreAnswers, IsBegun, Notes, SameServer, waiting}
use Rattle.vcpu_run.proofs.Announcing.{both_bools}
use Rattle.vscsi_client.specs.declared.row.Row.TheVariants as rows
use Rattle.vcpu_run.specs.DataKept.{KeepsData}
use Rattle.vcpu_run.proofs.DataStays.{data_more, data_on, data_same}
use Rattle.vcpu_run.proofs.DataTurns.{NotesAs, StaysData, asked_more, not_given, runs_data, stays_same}
use Rattle.vcpu_run.proofs.ServersKept.{runs_server}
use Rattle.vcpu_run.proofs.TakeOrder.{TakesIn, more_tags}
use Rattle.vcpu_run.proofs.TurnOrder.{Goes, InOrder, SameTaken, runs_goes, session_as, taken_ready, taken_sent}
use Rattle.vcpu_run.proofs.TurnRest.{turn_rest}
use Rattle.vcpu_run.specs.EventsHeard.{Hears, StepHears, events_waiting, lost_in}
use Rattle.vcpu_run.proofs.EventsHeard.{NoneLost, hears_none, hears_on, hears_same, none_lost, runs_hear}

-- what stands in order where none waits, and the same said of what waits
order_to : (tags : List ℕ) (s : ClientState) (e : EndState) → waiting s ≡ [] → AreAmong (tags ++ tags_among s.kept) (tags_taken e.taken) → InOrder tags s e
order_to tags s e none is =
    subst (λ (all : List Entry). AreAmong (tags ++ tags_among all) (tags_taken e.taken)) (sym (ap (λ (w : List Entry). s.kept ++ w) none ∙ append-nil s.kept)) is

order_from : (tags : List ℕ) (s : ClientState) (e : EndState) → waiting s ≡ [] → InOrder tags s e → AreAmong (tags ++ tags_among s.kept) (tags_taken e.taken)
order_from tags s e none is =
    subst (λ (all : List Entry). AreAmong (tags ++ tags_among all) (tags_taken e.taken)) (ap (λ (w : List Entry). s.kept ++ w) none ∙ append-nil s.kept) is

no_more : (rows new : List AnswerRow) → new ≡ rows → HasMoreAnswers rows new
no_more rows new is = ([], is ∙ sym (append-nil rows))

-- the answers are those of before
pub same_gives : (a b : Driver) (e f : EndState) → Hears 0 a.client b.client e f → SameServer a.client b.client → KeepsData a.client b.client a.answers.items b.answers.items → b.answers.items ≡ a.answers.items → Goes a.client b.client e f → waiting b.client ≡ [] → Gives a b e f
same_gives a b e f heard server keeps answers goes rest = record {
  heard = heard;
  server = server;
  keeps = keeps;
  more = no_more a.answers.items b.answers.items answers;
  session = goes.session;
  given = λ begun given. record {
    begun = goes.begun begun given.begun;
    order = order_from (answered_tags b.answers.items) b.client f rest
        (subst (λ (rows : List AnswerRow). InOrder (answered_tags rows) b.client f) (sym answers) (goes.order (answered_tags a.answers.items) (order_to (answered_tags a.answers.items) a.client e given.rest given.order)));
    rest = rest;
    each = subst (All IsAnswerOf) (sym answers) given.each;
  };
}

-- a turn of a login
pub turn_gives : (driver : Driver) (s' : ClientState) (line : ℕ) (a b : Site) (turn : LoginTurn) → a.client ≡ driver.client → b.client ≡ s' → Turned line a b (Ok turn)
    → Gives driver (record driver { client = s' }) a.at.crq b.at.crq
turn_gives driver s' line a b turn from to turned =
    same_gives driver (record driver { client = s' }) a.at.crq b.at.crq
    (subst (λ (s : ClientState). Hears 0 s s' a.at.crq b.at.crq) from (subst (λ (t : ClientState). Hears 0 a.client t a.at.crq b.at.crq) to (runs_hear line turned.steps a b turned.runs)))
    (subst (λ (s : ClientState). SameServer s s') from (subst (λ (t : ClientState). SameServer a.client t) to (runs_server line turned.steps a b turned.runs)))
    (subst (λ (s : ClientState). KeepsData s s' driver.answers.items driver.answers.items) from
    (subst (λ (t : ClientState). KeepsData a.client t driver.answers.items driver.answers.items) to (runs_data line turned.steps a b turned.runs driver.answers.items))) refl
    (subst (λ (s : ClientState). Goes s s' a.at.crq b.at.crq) from (subst (λ (t : ClientState). Goes a.client t a.at.crq b.at.crq) to (runs_goes line turned.steps a b turned.runs)))
    (ap waiting (sym to) ∙ turn_rest line a b turn turned)

-- an entry that is no answer notes none
not_noted : (taken : Taken) (xs ys : List AnswerRow) → ((tags : List ℕ) → more_tags taken tags ≡ tags) → ys ≡ xs → NotesAs taken xs ys
not_noted (takens.Answer tag response) xs ys none same = absurd (no_tag (none []))
  where
    no_tag : (tag ∷ [] ≡ []) → ⊥
    no_tag is = cc (is)
not_noted (takens.Stray tag) xs ys none same = same
not_noted takens.Lost xs ys none same = same
not_noted takens.Other xs ys none same = same
not_noted (takens.Again page word) xs ys none same = same
not_noted (takens.Empty number) xs ys none same = same

-- an entry was taken that is no answer
pub other_gives : (taken : Taken) (a b : Driver) (s' : ClientState) (e f : EndState) → ((tags : List ℕ) → more_tags taken tags ≡ tags) → b.answers.items ≡ a.answers.items → b.client ≡ s'
    → TakesIn taken a.client s' e f → Gives a b e f
other_gives taken a b s' e f none answers client takes = record {
  heard = subst (λ (t : ClientState). Hears 0 a.client t e f) (sym client) takes.heard;
  server = ap (λ (t : ClientState). t.server) client ∙ takes.server;
  keeps = subst (λ (t : ClientState). KeepsData a.client t a.answers.items b.answers.items) (sym client) (takes.keeps a.answers.items b.answers.items (not_noted taken a.answers.items b.answers.items none answers));
  more = no_more a.answers.items b.answers.items answers;
  session = session_as e f takes.session takes.last;
  given = λ begun given. record {
    begun = takes.begun begun given.begun;
    order = subst (λ (rows : List AnswerRow). AreAmong (answered_tags rows ++ tags_among b.client.kept) (tags_taken f.taken)) (sym answers)
        (subst (λ (t : ClientState). AreAmong (answered_tags a.answers.items ++ tags_among t.kept) (tags_taken f.taken)) (sym client)
        (subst (λ (tags : List ℕ). AreAmong (tags ++ tags_among s'.kept) (tags_taken f.taken)) (none (answered_tags a.answers.items)) (takes.order (answered_tags a.answers.items) given.order)));
    rest = ap waiting client ∙ takes.rest given.rest;
    each = subst (All IsAnswerOf) (sym answers) given.each;
  };
}

-- an answer was taken, and noted
pub answer_gives : (tag : ℕ) (response : Response) (a b : Driver) (s' : ClientState) (e f : EndState) → response.tag ≡ tag → Notes tag response a.answers.items b.answers.items → b.client ≡ s'
    → TakesIn (takens.Answer tag response) a.client s' e f → Gives a b e f
answer_gives tag response a b s' e f of notes client takes = record {
  heard = subst (λ (t : ClientState). Hears 0 a.client t e f) (sym client) takes.heard;
  server = ap (λ (t : ClientState). t.server) client ∙ takes.server;
  keeps = subst (λ (t : ClientState). KeepsData a.client t a.answers.items b.answers.items) (sym client) (takes.keeps a.answers.items b.answers.items notes);
  more = (notes.row ∷ [], notes.rows);
  session = session_as e f takes.session takes.last;
  given = λ begun given. record {
    begun = takes.begun begun given.begun;
    order = subst (λ (tags : List ℕ). AreAmong (tags ++ tags_among b.client.kept) (tags_taken f.taken)) (sym all)
        (subst (λ (t : ClientState). AreAmong ((answered_tags a.answers.items ++ tag ∷ []) ++ tags_among t.kept) (tags_taken f.taken)) (sym client)
        (takes.order (answered_tags a.answers.items) given.order));
    rest = ap waiting client ∙ takes.rest given.rest;
    each = subst (All IsAnswerOf) (sym notes.rows)
        (All-append IsAnswerOf a.answers.items (notes.row ∷ []) given.each
        (All-cons IsAnswerOf notes.row [] (record { response = response; canonical = notes.canonical; tag_is = of ∙ sym notes.tag_is }) (All-nil IsAnswerOf)));
  };
}
  where
    all : answered_tags b.answers.items ≡ answered_tags a.answers.items ++ tag ∷ []
    all =
        ap answered_tags notes.rows
        ∙ (map-append (λ (row : AnswerRow). row.tag) a.answers.items (notes.row ∷ []) ∙ ap (λ (t : ℕ). answered_tags a.answers.items ++ t ∷ []) notes.tag_is)

-- one step behind another
pub gives_on : (a b c : Driver) (e f g : EndState) → Gives a b e f → Gives b c f g → Gives a c e g
gives_on a b c e f g first next = record {
  heard = hears_on 0 0 a.client b.client c.client e f g first.heard next.heard;
  server = next.server ∙ first.server;
  keeps = data_on a.client b.client c.client a.answers.items b.answers.items c.answers.items first.keeps next.keeps;
  more = (first.more.0 ++ next.more.0, next.more.1 ∙ (ap (λ (rows : List AnswerRow). rows ++ next.more.0) first.more.1 ∙ append_assoc a.answers.items first.more.0 next.more.0));
  session = λ begun. next.session (first.session begun);
  given = λ begun given. next.given (first.session begun) (first.given begun given);
}

-- nothing was taken, and what is kept and what waits are as before
pub still_gives : (a b : Driver) (e f : EndState) → events_waiting b.client ≡ events_waiting a.client → SameServer a.client b.client → KeepsData a.client b.client a.answers.items b.answers.items → b.answers.items ≡ a.answers.items → b.client.kept ≡ a.client.kept → waiting b.client ≡ waiting a.client → f.taken ≡ e.taken
    → (IsBegun e → IsBegun f) → Gives a b e f
still_gives a b e f events server keeps answers kept wait taken session = record {
  heard = hears_none a.client b.client e f (omega (arith, events)) taken;
  server = server;
  keeps = keeps;
  more = no_more a.answers.items b.answers.items answers;
  session = session;
  given = λ begun given. record {
    begun = subst AreBegun (sym taken) given.begun;
    order = subst (λ (rows : List AnswerRow). AreAmong (answered_tags rows ++ tags_among b.client.kept) (tags_taken f.taken)) (sym answers)
        (subst (λ (entries : List Entry). AreAmong (answered_tags a.answers.items ++ tags_among entries) (tags_taken f.taken)) (sym kept)
        (subst (λ (rows : List PipeRow). AreAmong (answered_tags a.answers.items ++ tags_among a.client.kept) (tags_taken rows)) (sym taken) given.order));
    rest = wait ∙ given.rest;
    each = subst (All IsAnswerOf) (sym answers) given.each;
  };
}

-- the end took nothing and is in its session
pub beside_gives : (a b : Driver) (e f : EndState) → events_waiting b.client ≡ events_waiting a.client → SameServer a.client b.client → KeepsData a.client b.client a.answers.items b.answers.items → b.answers.items ≡ a.answers.items → b.client.kept ≡ a.client.kept → waiting b.client ≡ waiting a.client → SameTaken e f → Gives a b e f
beside_gives a b e f events server keeps answers kept wait same = still_gives a b e f events server keeps answers kept wait same.0 (session_as e f same.1 same.2)

-- What a request leaves of the entries that a client keeps.
pub record SameKept (s s' : ClientState) : Type 0 where
  pub kept : s'.kept ≡ s.kept
  pub wait : waiting s' ≡ waiting s
  pub events : events_waiting s' ≡ events_waiting s
  pub server : SameServer s s'
  pub keeps : StaysData s s'

pub kept_by : (s s' t : ClientState) → s' ≡ t → t.kept ≡ s.kept → waiting t ≡ waiting s → events_waiting t ≡ events_waiting s → SameServer s t → StaysData s t → SameKept s s'
kept_by s s' t is kept wait events server keeps = record { kept = ap (λ (u : ClientState). u.kept) is ∙ kept; wait = ap waiting is ∙ wait; events = ap events_waiting is ∙ events; server = ap (λ (u : ClientState). u.server) is ∙ server; keeps = subst (StaysData s) (sym is) keeps }

pub submit_kept : (line : ℕ) (op : Op) (s s' : ClientState) (old new : Ports) (answer : Result ℕ Refused)
    → IfSome (command_refusal old.own.place.size s op) (λ why. (answer ≡ Err why) × (s' ≡ s) × (new.crq ≡ old.crq) × (new.own ≡ old.own))
    → IfOk answer (Submitted line op s s' old new)
    → (command_refusal old.own.place.size s op ≡ None → IfErr answer (WhyNotSubmitted line op s s' old new)) → SameKept s s'
submit_kept line op s s' old new (Ok tag) refused sent not_sent = kept_by s s' (with_command op sent.slot s) sent.client refl refl refl refl (λ xs.
    data_more s (with_command op sent.slot s) (rows.Command op.dir op.at op.len None) xs xs (not_given op.dir op.at op.len) refl (asked_more s.outgoing (request_of op (next_tag s) sent.slot) (omega arith)) refl)
submit_kept line op s s' old new (Err why) refused sent not_sent = at (Err why) (command_refusal old.own.place.size s op) refl refused
  where
    not : WhyNotSubmitted line op s s' old new why → SameKept s s'
    not (inl h) = kept_by s s' s h.client refl refl refl refl (stays_same s s s refl refl refl)
    not (inr h) = kept_by s s' _ h.client refl refl refl refl (stays_same s _ _ refl refl refl)

    at : (r : Result ℕ Refused) (o : Option Refused) → command_refusal old.own.place.size s op ≡ o
        → IfSome o (λ w. (r ≡ Err w) × (s' ≡ s) × (new.crq ≡ old.crq) × (new.own ≡ old.own)) → SameKept s s'
    at r None none h = not (not_sent none)
    at r (Some w) some h = kept_by s s' s h.1 refl refl refl refl (stays_same s s s refl refl refl)

pub task_kept : (line function task : ℕ) (s s' : ClientState) (old new : Ports) (answer : Result ℕ Refused) → IfOk answer (Tasked line function task s s' old new)
    → OnErr answer (s' ≡ s) → SameKept s s'
task_kept line function task s s' old new (Ok tag) sent same = kept_by s s' (with_task sent.slot s) sent.client refl refl refl refl (λ xs.
    data_more s (with_task sent.slot s) rows.Task xs xs refl refl (asked_more s.outgoing (task_of (next_tag s) sent.slot) (omega arith)) refl)
task_kept line function task s s' old new (Err why) sent same = kept_by s s' s same refl refl refl refl (stays_same s s s refl refl refl)

pub logout_kept : (line : ℕ) (s s' : ClientState) (old new : Ports) (answer : Result ℕ Refused) → IfOk answer (LoggedOut line s s' old new)
    → OnErr answer (s' ≡ s) → SameKept s s'
logout_kept line s s' old new (Ok tag) sent same = kept_by s s' (with_logout sent.slot s) sent.client refl refl refl refl (λ xs.
    data_more s (with_logout sent.slot s) rows.Logout xs xs refl refl (λ asked. asked) refl)
logout_kept line s s' old new (Err why) sent same = kept_by s s' s same refl refl refl refl (stays_same s s s refl refl refl)

-- a request was sent, or was not
pub asks_gives : (driver : Driver) (s' : ClientState) (result : Result Step NoMemory) (shared : Bool) (e f : EndState) → SameKept driver.client s' → OnlySends shared e f
    → OnOk result (Gives driver (record driver { client = s' }) e f)
asks_gives driver s' (Err memory) shared e f kept rest = tt
asks_gives driver s' (Ok step) shared e f kept rest = beside_gives driver (record driver { client = s' }) e f kept.events kept.server (kept.keeps driver.answers.items) refl kept.kept kept.wait (taken_sent shared e f rest)

-- the same of the result of a step as of all that comes of it
pub gives_ok : (a b : Driver) (e f : EndState) (result : Result Step NoMemory) → Gives a b e f → OnOk result (Gives a b e f)
gives_ok a b e f (Ok step) gives = gives
gives_ok a b e f (Err memory) gives = tt

pub gives_same : (a : Driver) (e : EndState) → Gives a a e e
gives_same a e = record {
  heard = hears_same a.client a.client e e refl refl refl;
  server = refl;
  keeps = data_same a.client a.client a.answers.items a.answers.items refl refl refl;
  more = no_more a.answers.items a.answers.items refl;
  session = λ begun. begun;
  given = λ begun given. given;
}

-- room was made
pub gives_ready : (a : Driver) (e f : EndState) → OnlyReserves e f → Gives a a e f
gives_ready a e f ready = beside_gives a a e f refl refl (data_same a.client a.client a.answers.items a.answers.items refl refl refl) refl refl refl (taken_ready e f ready)

-- the queue was freed, and the client was told
pub gives_freed : (shared : Bool) (a b : Driver) (e f : EndState) → TellsFreed shared e f → OnlyFrees shared e f → b.answers ≡ a.answers → b.client ≡ unlinked a.client → Gives a b e f
gives_freed shared a b e f tells rest answers client =
    still_gives a b e f (ap events_waiting client) (ap (λ (s : ClientState). s.server) client)
    (data_same a.client b.client a.answers.items b.answers.items (ap (λ (s : ClientState). s.rows) client) (ap (λ (s : ClientState). s.outgoing) client) (ap (λ xs. xs.items) answers)) (ap (λ xs. xs.items) answers) (ap (λ (s : ClientState). s.kept) client) (ap waiting client) rest.taken
    (λ begun opened. absurd (both_bools f.registered opened tells.freed))

-- of what a step keeps, where it tells of no loss
pub asks_hear : (a b : Driver) (e f : EndState) (result : Result Step NoMemory) → NoneLost result → OnOk result (Gives a b e f) → StepHears result a.client b.client e f
asks_hear a b e f (Ok step) none gives = none_lost (Ok step) a.client b.client e f none gives.heard
asks_hear a b e f (Err memory) none gives = tt

-- and where it tells of one, behind others that told of none
pub loss_hears : (a b c : Driver) (e f g : EndState) (n : ℕ) → Gives a b e f → Hears n b.client c.client f g → Hears n a.client c.client e g
loss_hears a b c e f g n first next =
    let same : 0 + n ≡ n = omega arith in
    subst (λ (m : ℕ). Hears m a.client c.client e g) same (hears_on 0 n a.client b.client c.client e f g first.heard next)

pub step_hears_on : (result : Result Step NoMemory) (a b : Driver) (s : ClientState) (e f g : EndState) → Gives a b e f → StepHears result b.client s f g → StepHears result a.client s e g
step_hears_on (Ok step) a b s e f g first next =
    let same : 0 + lost_in step ≡ lost_in step = omega arith in
    subst (λ (m : ℕ). Hears m a.client s e g) same (hears_on 0 (lost_in step) a.client b.client s e f g first.heard next)
step_hears_on (Err memory) a b s e f g first next = tt
