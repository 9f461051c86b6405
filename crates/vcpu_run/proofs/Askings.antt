-- A command, a task or a logout that was sent, or was not, and what its record then says.
use Rattle.std.proofs.Common.{◌≡◌, ◌≢◌, ◌∙◌, inl, inr, ℕ, ◌+◌, ◌<◌, ◌==◌, cond, not, Bool, true, false, All, List, [], ◌∷◌, ◌++◌, Option, Some, None, Result, Ok, Err, IfSome, IfOk, IfErr, OnErr, length, min, refl, sym, ap, subst, arith, find, length-append}
use Rattle.std.specs.Prelude.{⊤, MatchBool}
use Rattle.std.specs.Option.{option_map}
use Rattle.std.specs.List.{Contains}
use Rattle.std.proofs.lemmas.Bool.Decides.{nat_tests}
use Rattle.std.proofs.lemmas.List.Elements.{All-head, All-push, All-tail, All-weaker, Contains-append_left, Contains-push}
use Rattle.vio_num.specs.declared.memory.NoMemory.{NoMemory}
use Rattle.boot_text.specs.declared.verb.Verb.{Verb}
use Rattle.boot_text.specs.declared.verb.Verb.TheVariants as verbs
use Rattle.vio_trace.specs.declared.outcome.Outcome.{Outcome}
use Rattle.vio_trace.specs.declared.outcome.Outcome.TheVariants as outcomes
use Rattle.unit_region.specs.declared.step.Step.{Step}
use Rattle.unit_region.specs.declared.step.Step.TheVariants as steps
use Rattle.unit_region.specs.Steps.{IsPlain, is_plain}
use Rattle.vscsi_client.specs.declared.answers.Refused.{Refused}
use Rattle.vscsi_client.specs.declared.answers.Refused.TheVariants as whys
use Rattle.vscsi_client.specs.declared.op.Op.{Op}
use Rattle.vscsi_client.specs.declared.outgoing.Outgoing.{Outgoing}
use Rattle.srp_iu.specs.declared.unit.Iu.{Iu}
use Rattle.tce_window.specs.PortState.{PortState}
use Rattle.vscsi_client.specs.declared.row.Row.TheVariants as rows
use Rattle.vscsi_client.specs.Ports.{Ports, WhyNotPut, WhyNotWritten, Write}
use Rattle.vscsi_client.specs.Sending.{LoggedOut, Submitted, Tasked, WhyNotSent, WhyNotSubmitted, command_refusal, logout_refusal, logout_refused_by, logout_unit, refused_by, request_of, table_writes, task_of, task_refusal, task_unit, waits_for}
use Rattle.vscsi_client.specs.Spans.{data_span, first_sharing, op_in_range, shares, table_span}
use Rattle.vscsi_client.specs.State.{ClientState, next_tag}
use Rattle.vscsi_client.proofs.Laws.{not_range}
use Rattle.vcpu_run.specs.declared.script.Progress.{Progress}
use Rattle.vcpu_run.specs.Commands.{IsOpOf}
use Rattle.vcpu_run.specs.Credited.{Ended, is_take, taken_in}
use Rattle.vcpu_run.specs.Freeing.{is_reset}
use Rattle.vcpu_run.specs.Refusals.{IsAsked, IsLogout, IsSaid, IsTried, LoginNow, asked_in, credit_refusal, login_by, tag_of, told_refusal}
use Rattle.vcpu_run.specs.Replay.{Range, asks, lie_within, ranges_of}
use Rattle.vcpu_run.specs.Sendings.{SaysSent, SaysWhy, says_as}
use Rattle.vcpu_run.specs.Telling.{AgreesOn, AgreesTold, IsOf, IsToldAt, SameTold, Seated, StepsTold, at_rest, is_freed, login_after}
use Rattle.vcpu_run.proofs.Driving.{some_is}
use Rattle.vcpu_run.proofs.Sayings.{asked_why, credit_none, kept_login, one_asked, plain_login, plain_tags, said_by, is_logout, same_range, sent_login, under}
use Rattle.vcpu_run.proofs.Tellings.{TagsWithin, agrees_fresh, agrees_same, ended, ends_told, same_of, still_open, waits_told}

-- a line that asks takes nothing and resets nothing
pub asks_plain : (verb : Verb) → asks verb ≡ true → (is_take verb ≡ false) × (is_reset verb ≡ false)
asks_plain verbs.Login is = absurd (cc)
asks_plain verbs.Reset is = absurd (cc)
asks_plain verbs.Logout is = absurd (cc)
asks_plain verbs.Tur is = (refl, refl)
asks_plain (verbs.Read lba blocks at pieces table) is = (refl, refl)
asks_plain (verbs.Write lba blocks at pieces table) is = (refl, refl)
asks_plain (verbs.Command cdb) is = (refl, refl)
asks_plain (verbs.CommandIn cdb at len pieces table) is = (refl, refl)
asks_plain (verbs.CommandOut cdb at len pieces table) is = (refl, refl)
asks_plain (verbs.Task function of) is = (refl, refl)
asks_plain (verbs.Take count) is = absurd (cc)
asks_plain (verbs.Data of) is = absurd (cc)
asks_plain verbs.Open is = absurd (cc)
asks_plain verbs.Close is = absurd (cc)
asks_plain (verbs.Post at len count) is = absurd (cc)
asks_plain (verbs.Send to len seed at) is = absurd (cc)
asks_plain (verbs.ChangeMac own) is = absurd (cc)
asks_plain (verbs.Multicast control group) is = absurd (cc)
asks_plain (verbs.Fill at len seed) is = absurd (cc)
asks_plain (verbs.Poke at bytes) is = absurd (cc)
asks_plain (verbs.Peek at len) is = absurd (cc)
asks_plain (verbs.Tce entry page readable writable) is = absurd (cc)
asks_plain (verbs.Hcall number arguments) is = absurd (cc)
asks_plain verbs.Fail is = absurd (cc)

-- what a request says that was not sent tells of no login and of no tag
pub says_plain : (why : Refused) (outcome : Outcome) → says_as why ≡ Some outcome → is_plain outcome ≡ true
says_plain whys.Range outcome is = ap is_plain (some_is outcome outcomes.Range (sym is))
says_plain whys.NotLoggedIn outcome is = ap is_plain (some_is outcome outcomes.NotLoggedIn (sym is))
says_plain (whys.NoCredit limit) outcome is = ap is_plain (some_is outcome (outcomes.NoCredit limit) (sym is))
says_plain (whys.Overlap tag) outcome is = ap is_plain (some_is outcome (outcomes.Overlap tag) (sym is))
says_plain (whys.Closed control) outcome is = ap is_plain (some_is outcome outcomes.Closed (sym is))
says_plain (whys.Dropped number held) outcome is = ap is_plain (some_is outcome (outcomes.Dropped number held) (sym is))
says_plain (whys.InUse page word) outcome is = absurd (cc)
says_plain whys.NoMemory outcome is = absurd (cc)

-- by what the range says
ranged : (pages : ℕ) (ranges : List Range) (login : Option LoginNow) (b : Bool) → lie_within pages ranges ≡ b
    → told_refusal pages ranges login ≡ cond (not b) (Some outcomes.Range) (credit_refusal login)
ranged pages ranges login b is = ap (λ c. cond (not c) (Some outcomes.Range) (credit_refusal login)) is

-- how a client and its queue stand before and after a request, of which the line took nothing
pub record Asks (verb : Verb) (a b : Seated) : Type 0 where
  pub asks_one : asks verb ≡ true
  pub progress : b.progress ≡ a.progress
  pub queue : b.registered ≡ a.registered

going : (verb : Verb) (p : Progress) → asks verb ≡ true → IsOf verb p → (is_freed p ≡ false) × (taken_in p ≡ 0)
going verb p is of = let plain = asks_plain verb is in (of.reset plain.1, of.take plain.0)

no_tags : (n m : ℕ) (outcome : Outcome) → is_plain outcome ≡ true → TagsWithin n m (tag_of outcome)
no_tags n m outcome plain = subst (TagsWithin n m) (sym (plain_tags outcome plain)) (record { from = tt; below = tt })

plain_kept : (verb : Verb) (outcome : Outcome) (login : Option LoginNow) → is_plain outcome ≡ true → is_reset verb ≡ false → login_by verb outcome login ≡ login
plain_kept verb outcome login plain not_reset = plain_login verb outcome login plain ∙ kept_login verb login not_reset

-- a line ended, and tells of no login and of no tag
pub plain_ends : (pages : ℕ) (verb : Verb) (outcome : Outcome) (own : List Ended) (a b : Seated) → is_take verb ≡ false → is_reset verb ≡ false → IsOf verb a.progress
    → is_plain outcome ≡ true → b.registered ≡ a.registered → SameTold a.client b.client → IsToldAt pages own a
    → (AgreesTold 0 (login_after None own) a.client → IsSaid pages (login_after None own) verb outcome) → IsToldAt pages (own ++ ended verb outcome ∷ []) (at_rest b)
plain_ends pages verb outcome own a b no_take no_reset of plain queue same told said =
    let agrees = agrees_fresh pages own a told (of.reset no_reset) (of.take no_take) in
    ends_told pages verb outcome own a b told (said agrees) same.tags (no_tags (next_tag a.client) (next_tag b.client) outcome plain)
    (subst (λ (login : Option LoginNow). AgreesTold 0 login b.client) (sym (plain_kept verb outcome (login_after None own) plain no_reset))
    (agrees_same 0 (login_after None own) a.client b.client same agrees))
    (still_open pages own a b told (of.reset no_reset) same.granted queue)

-- it was not sent, and says why
pub unsent_said : (pages : ℕ) (verb : Verb) (a b : Seated) (why : Refused) (result : Result Step NoMemory) → is_take verb ≡ false → is_reset verb ≡ false
    → b.progress ≡ a.progress → b.registered ≡ a.registered → SameTold a.client b.client → SaysWhy why result
    → ((login : Option LoginNow) (outcome : Outcome) → AgreesTold 0 login a.client → says_as why ≡ Some outcome → IsSaid pages login verb outcome)
    → StepsTold pages verb a b result
unsent_said pages verb a b why (Ok (steps.Ends outcome)) no_take no_reset progress queue same says said = λ of own told.
    plain_ends pages verb outcome own a b no_take no_reset of (says_plain why outcome says) queue same told (λ agrees. said (login_after None own) outcome agrees says)
unsent_said pages verb a b why (Ok (steps.Waits did)) no_take no_reset progress queue same says said = λ of.
    (subst (IsOf verb) (sym progress) of, λ own told. waits_told pages own a b progress same queue told)
unsent_said pages verb a b why (Err memory) no_take no_reset progress queue same says said = tt

pub unsent_told : (pages : ℕ) (verb : Verb) (a b : Seated) (why : Refused) (result : Result Step NoMemory) → Asks verb a b → SameTold a.client b.client → SaysWhy why result
    → ((login : Option LoginNow) (outcome : Outcome) → AgreesTold 0 login a.client → says_as why ≡ Some outcome → IsAsked login (told_refusal pages (ranges_of verb) login) outcome)
    → StepsTold pages verb a b result
unsent_told pages verb a b why result asked same says said =
    let plain = asks_plain verb asked.asks_one in
    unsent_said pages verb a b why result plain.0 plain.1 asked.progress asked.queue same says
    (λ login outcome agrees is. said_by pages login verb outcome asked.asks_one (said login outcome agrees is))

-- it was sent under the next tag
pub record Sends (tag : ℕ) (request : Outgoing) (s s' : ClientState) : Type 0 where
  pub tag_is : tag ≡ next_tag s
  pub request_tag : request.tag ≡ next_tag s
  pub granted : s'.granted ≡ s.granted
  pub outgoing : s'.outgoing ≡ s.outgoing ++ request ∷ []
  pub next : next_tag s' ≡ next_tag s + 1

one_more : (tag : ℕ) (request : Outgoing) (s s' : ClientState) (overlap : Option ℕ) (l : LoginNow) → Sends tag request s s'
    → refused_by s.granted (length s.outgoing) overlap ≡ None → AgreesOn 0 s l → AgreesOn 0 s' (one_asked tag l)
one_more tag request s s' overlap l sent none h =
    let long : length s'.outgoing ≡ length s.outgoing + 1 = ap length sent.outgoing ∙ length-append s.outgoing (request ∷ []) in
    let less : length s.outgoing < min l.granted 200 =
    under (min l.granted 200) (length s.outgoing) overlap (subst (λ (g : Option ℕ). refused_by g (length s.outgoing) overlap ≡ None) h.granted none) in
    let own : Contains (l.asked ++ tag ∷ []) request.tag = subst (Contains (l.asked ++ tag ∷ [])) (sent.tag_is ∙ sym sent.request_tag) (Contains-push l.asked tag) in
    record {
      granted = sent.granted ∙ h.granted;
      outstanding = omega (arith, long, h.outstanding);
      within = omega (arith, long, less);
      asked = subst (All (λ (o : Outgoing). Contains (l.asked ++ tag ∷ []) o.tag)) (sym sent.outgoing)
          (All-push (λ (o : Outgoing). Contains (l.asked ++ tag ∷ []) o.tag) s.outgoing request
          (All-weaker (λ (o : Outgoing). Contains l.asked o.tag) (λ (o : Outgoing). Contains (l.asked ++ tag ∷ []) o.tag) (λ o c. Contains-append_left l.asked (tag ∷ []) o.tag c) s.outgoing h.asked) own);
    }

more_told : (tag : ℕ) (request : Outgoing) (s s' : ClientState) (overlap : Option ℕ) (login : Option LoginNow) → Sends tag request s s'
    → refused_by s.granted (length s.outgoing) overlap ≡ None → AgreesTold 0 login s → AgreesTold 0 (option_map (one_asked tag) login) s'
more_told tag request s s' overlap None sent none h = sent.granted ∙ h
more_told tag request s s' overlap (Some l) sent none h = one_more tag request s s' overlap l sent none h

tag_within : (tag n m : ℕ) → tag ≡ n → m ≡ n + 1 → TagsWithin n m (tag ∷ [])
tag_within tag n m is next = record { from = (omega (arith, is), tt); below = (omega (arith, is, next), tt) }

pub sent_told : (pages : ℕ) (verb : Verb) (a b : Seated) (tag : ℕ) (request : Outgoing) (overlap : Option ℕ) → Asks verb a b → Sends tag request a.client b.client
    → lie_within pages (ranges_of verb) ≡ true → refused_by a.client.granted (length a.client.outgoing) overlap ≡ None
    → StepsTold pages verb a b (Ok (steps.Ends (outcomes.Sent tag)))
sent_told pages verb a b tag request overlap asked sent lies none = λ of own told.
    let at = going verb a.progress asked.asks_one of in
    let login = login_after None own in
    let agrees = agrees_fresh pages own a told at.0 at.1 in
    let nothing : told_refusal pages (ranges_of verb) login ≡ None = ranged pages (ranges_of verb) login true lies ∙ credit_none login a.client overlap agrees none in
    ends_told pages verb (outcomes.Sent tag) own a b told
    (said_by pages login verb (outcomes.Sent tag) asked.asks_one (subst (λ (w : Option Outcome). IsAsked login w (outcomes.Sent tag)) (sym nothing) tt))
    (omega (arith, sent.next)) (tag_within tag (next_tag a.client) (next_tag b.client) sent.tag_is sent.next)
    (subst (λ (l : Option LoginNow). AgreesTold 0 l b.client) (sym (sent_login verb tag login asked.asks_one)) (more_told tag request a.client b.client overlap login sent none agrees))
    (still_open pages own a b told at.0 sent.granted asked.queue)

-- the oldest request that shares a page is one of those that were asked
found_asked : (test : Outgoing → Bool) (tags : List ℕ) (os : List Outgoing) → All (λ (o : Outgoing). Contains tags o.tag) os
    → IfSome (option_map (λ (o : Outgoing). o.tag) (find test os)) (Contains tags)
found_asked test tags [] all = tt
found_asked test tags (o ∷ os) all = at (test o) (All-head (λ (o : Outgoing). Contains tags o.tag) o os all) (found_asked test tags os (All-tail (λ (o : Outgoing). Contains tags o.tag) o os all))
  where
    at : (b : Bool) → Contains tags o.tag → IfSome (option_map (λ (o : Outgoing). o.tag) (find test os)) (Contains tags)
        → IfSome (option_map (λ (o : Outgoing). o.tag) (cond b (Some o) (find test os))) (Contains tags)
    at true here later = here
    at false here later = later

-- a request that nothing speaks against, and that was not put, is tried
tried_put : (line slot : ℕ) (bytes : List ℕ) (old new : Ports) (why : Refused) (asked : List ℕ) (outcome : Outcome) → WhyNotPut line slot bytes old new why
    → says_as why ≡ Some outcome → IsTried asked outcome
tried_put line slot bytes old new whys.Range asked outcome h says = absurd h
tried_put line slot bytes old new whys.NotLoggedIn asked outcome h says = absurd h
tried_put line slot bytes old new (whys.NoCredit limit) asked outcome h says = absurd h
tried_put line slot bytes old new (whys.Overlap tag) asked outcome h says = absurd h
tried_put line slot bytes old new (whys.Closed control) asked outcome h says = subst (IsTried asked) (some_is outcomes.Closed outcome says) tt
tried_put line slot bytes old new (whys.Dropped number held) asked outcome h says = subst (IsTried asked) (some_is (outcomes.Dropped number held) outcome says) tt
tried_put line slot bytes old new (whys.InUse page word) asked outcome h says = absurd (cc)
tried_put line slot bytes old new whys.NoMemory asked outcome h says = absurd (cc)

tried_written : (shared : Bool) (writes : List Write) (old new : PortState) (why : Refused) (asked : List ℕ) (outcome : Outcome) → WhyNotWritten shared writes old new why
    → says_as why ≡ Some outcome → IsTried asked outcome
tried_written shared writes old new whys.Range asked outcome h says = absurd h
tried_written shared writes old new whys.NotLoggedIn asked outcome h says = absurd h
tried_written shared writes old new (whys.NoCredit limit) asked outcome h says = absurd h
tried_written shared writes old new (whys.Overlap tag) asked outcome h says = absurd h
tried_written shared writes old new (whys.Closed control) asked outcome h says = absurd h
tried_written shared writes old new (whys.Dropped number held) asked outcome h says = absurd h
tried_written shared writes old new (whys.InUse page word) asked outcome h says = absurd (cc)
tried_written shared writes old new whys.NoMemory asked outcome h says = absurd (cc)

tried_submit : (line : ℕ) (op : Op) (s s' : ClientState) (old new : Ports) (why : Refused) (asked : List ℕ) (outcome : Outcome) → WhyNotSubmitted line op s s' old new why
    → says_as why ≡ Some outcome → IsTried asked outcome
tried_submit line op s s' old new why asked outcome (inl h) says = tried_written old.own_shared (table_writes line op s) old.own new.own why asked outcome h.why_not says
tried_submit line op s s' old new why asked outcome (inr h) says =
    tried_put line h.why_not.0 h.why_not.1 h.before new why asked outcome h.why_not.3 says

pub tried_sent : (line : ℕ) (s : ClientState) (iu : Iu) (old new : Ports) (why : Refused) (asked : List ℕ) (outcome : Outcome) → WhyNotSent line s iu old new why
    → says_as why ≡ Some outcome → IsTried asked outcome
tried_sent line s iu old new why asked outcome (inl h) says = absurd (not_memory (ap says_as (sym h.0) ∙ says))
  where
    not_memory : says_as whys.NoMemory ≡ Some outcome → ⊥
    not_memory e = cc
tried_sent line s iu old new why asked outcome (inr h) says =
    tried_put line h.why_not.0 h.why_not.1 h.before new why asked outcome h.why_not.3 says

not_submitted : (line : ℕ) (op : Op) (s s' : ClientState) (old new : Ports) (why : Refused) → WhyNotSubmitted line op s s' old new why → SameTold s s'
not_submitted line op s s' old new why (inl h) = same_of s s' h.client
not_submitted line op s s' old new why (inr h) = subst (SameTold s) (sym h.client) (record { granted = refl; outgoing = refl; tags = omega arith })

pub err_is : (x y : Refused) (r : Result ℕ Refused) → r ≡ Err x → r ≡ Err y → x ≡ y
err_is x y r e f = cc

overlap_asked : (test : Outgoing → Bool) (s : ClientState) (login : Option LoginNow) → AgreesTold 0 login s
    → IfSome (option_map (λ (o : Outgoing). o.tag) (find test s.outgoing)) (λ tag. IfSome login (λ l. Contains l.asked tag))
overlap_asked test s None agrees = at (option_map (λ (o : Outgoing). o.tag) (find test s.outgoing))
  where
    at : (o : Option ℕ) → IfSome o (λ tag. ⊤)
    at None = tt
    at (Some tag) = tt
overlap_asked test s (Some l) agrees = found_asked test l.asked s.outgoing agrees.asked

-- a command that is refused before anything is written
refused_says : (pages : ℕ) (ranges : List Range) (s : ClientState) (op : Op) (b : Bool) (why : Refused) (login : Option LoginNow) (outcome : Outcome) → lie_within pages ranges ≡ b
    → cond b (refused_by s.granted (length s.outgoing) (first_sharing op s.outgoing)) (Some whys.Range) ≡ Some why
    → AgreesTold 0 login s → says_as why ≡ Some outcome → IsAsked login (told_refusal pages ranges login) outcome
refused_says pages ranges s op true why login outcome lies is agrees says =
    subst (λ (w : Option Outcome). IsAsked login w outcome) (sym (ranged pages ranges login true lies))
    (asked_why login s (first_sharing op s.outgoing) why outcome agrees is says (overlap_asked (shares (data_span op) (table_span op)) s login agrees))
refused_says pages ranges s op false why login outcome lies is agrees says =
    subst (λ (w : Option Outcome). IsAsked login w outcome) (sym (ranged pages ranges login false lies))
    (some_is outcome outcomes.Range (sym (subst (λ (w : Refused). says_as w ≡ Some outcome) (some_is why whys.Range (sym is)) says)))

allowed_says : (pages : ℕ) (ranges : List Range) (s : ClientState) (overlap : Option ℕ) (login : Option LoginNow) (outcome : Outcome) → lie_within pages ranges ≡ true
    → refused_by s.granted (length s.outgoing) overlap ≡ None → AgreesTold 0 login s → IsTried (asked_in login) outcome → IsAsked login (told_refusal pages ranges login) outcome
allowed_says pages ranges s overlap login outcome lies none agrees tried =
    subst (λ (w : Option Outcome). IsAsked login w outcome) (sym (ranged pages ranges login true lies ∙ credit_none login s overlap agrees none)) tried

pub submit_told : (verb : Verb) (line : ℕ) (op : Op) (a b : Seated) (old new : Ports) (answer : Result ℕ Refused) (result : Result Step NoMemory)
    → Asks verb a b → IsOpOf verb op → SaysSent answer result → IfErr answer (λ why. SaysWhy why result)
    → IfSome (command_refusal old.own.place.size a.client op) (λ why. (answer ≡ Err why) × (b.client ≡ a.client) × (new.crq ≡ old.crq) × (new.own ≡ old.own))
    → IfOk answer (Submitted line op a.client b.client old new)
    → (command_refusal old.own.place.size a.client op ≡ None → IfErr answer (WhyNotSubmitted line op a.client b.client old new))
    → StepsTold old.own.place.size verb a b result
submit_told verb line op a b old new (Ok tag) result asked is says why refused sent not_sent =
    let pages = old.own.place.size in
    let both = not_range (op_in_range pages op) (refused_by a.client.granted (length a.client.outgoing) (first_sharing op a.client.outgoing)) sent.allowed in
    subst (StepsTold pages verb a b) (sym says)
    (sent_told pages verb a b tag (request_of op (next_tag a.client) sent.slot) (first_sharing op a.client.outgoing) asked
    (record {
      tag_is = sent.tag_is;
      request_tag = refl;
      granted = ap (λ (t : ClientState). t.granted) sent.client;
      outgoing = ap (λ (t : ClientState). t.outgoing) sent.client;
      next = let rows = ap (λ (t : ClientState). length t.rows) sent.client ∙ length-append a.client.rows (rows.Command op.dir op.at op.len None ∷ []) in omega (arith, rows);
    }) (same_range pages verb op is ∙ both.0) both.1)
submit_told verb line op a b old new (Err w) result asked is says why refused sent not_sent =
    at (Err w) refl (command_refusal pages a.client op) refl refused
  where
    pages : ℕ
    pages = old.own.place.size

    at : (answer : Result ℕ Refused) → answer ≡ Err w → (r : Option Refused) → command_refusal pages a.client op ≡ r
        → IfSome r (λ x. (answer ≡ Err x) × (b.client ≡ a.client) × (new.crq ≡ old.crq) × (new.own ≡ old.own)) → StepsTold pages verb a b result
    at answer e None none h =
        let both = not_range (op_in_range pages op) (refused_by a.client.granted (length a.client.outgoing) (first_sharing op a.client.outgoing)) none in
        unsent_told pages verb a b w result asked (not_submitted line op a.client b.client old new w (not_sent none)) why
        (λ login outcome agrees said. allowed_says pages (ranges_of verb) a.client (first_sharing op a.client.outgoing) login outcome (same_range pages verb op is ∙ both.0) both.1 agrees
        (tried_submit line op a.client b.client old new w (asked_in login) outcome (not_sent none) said))
    at answer e (Some x) some h =
        unsent_told pages verb a b w result asked (same_of a.client b.client h.1) why
        (λ login outcome agrees said. refused_says pages (ranges_of verb) a.client op (op_in_range pages op) w login outcome (same_range pages verb op is)
        (some ∙ ap Some (sym (err_is w x answer e h.0))) agrees said)

-- a line whose command is known asks
pub asks_by : (verb : Verb) (op : Op) → IsOpOf verb op → asks verb ≡ true
asks_by verbs.Login op is = absurd is
asks_by verbs.Reset op is = absurd is
asks_by verbs.Logout op is = absurd is
asks_by verbs.Tur op is = refl
asks_by (verbs.Read lba blocks at pieces table) op is = refl
asks_by (verbs.Write lba blocks at pieces table) op is = refl
asks_by (verbs.Command cdb) op is = refl
asks_by (verbs.CommandIn cdb at len pieces table) op is = refl
asks_by (verbs.CommandOut cdb at len pieces table) op is = refl
asks_by (verbs.Task function of) op is = absurd is
asks_by (verbs.Take count) op is = absurd is
asks_by (verbs.Data of) op is = absurd is
asks_by verbs.Open op is = absurd is
asks_by verbs.Close op is = absurd is
asks_by (verbs.Post at len count) op is = absurd is
asks_by (verbs.Send to len seed at) op is = absurd is
asks_by (verbs.ChangeMac own) op is = absurd is
asks_by (verbs.Multicast control group) op is = absurd is
asks_by (verbs.Fill at len seed) op is = absurd is
asks_by (verbs.Poke at bytes) op is = absurd is
asks_by (verbs.Peek at len) op is = absurd is
asks_by (verbs.Tce entry page readable writable) op is = absurd is
asks_by (verbs.Hcall number arguments) op is = absurd is
asks_by verbs.Fail op is = absurd is

-- a task asks for no bytes
pub task_told : (pages : ℕ) (verb : Verb) (line function task : ℕ) (a b : Seated) (old new : Ports) (answer : Result ℕ Refused) (result : Result Step NoMemory)
    → Asks verb a b → ranges_of verb ≡ [] → SaysSent answer result → IfErr answer (λ why. SaysWhy why result)
    → IfSome (task_refusal a.client) (λ why. (answer ≡ Err why) × (new.crq ≡ old.crq) × (new.own ≡ old.own))
    → IfOk answer (Tasked line function task a.client b.client old new)
    → (task_refusal a.client ≡ None → IfErr answer (WhyNotSent line a.client (task_unit function task a.client) old new))
    → OnErr answer (b.client ≡ a.client) → StepsTold pages verb a b result
task_told pages verb line function task a b old new (Ok tag) result asked none says why refused sent not_sent same =
    subst (StepsTold pages verb a b) (sym says)
    (sent_told pages verb a b tag (task_of (next_tag a.client) sent.slot) None asked
    (record {
      tag_is = sent.tag_is;
      request_tag = refl;
      granted = ap (λ (t : ClientState). t.granted) sent.client;
      outgoing = ap (λ (t : ClientState). t.outgoing) sent.client;
      next = let rows = ap (λ (t : ClientState). length t.rows) sent.client ∙ length-append a.client.rows (rows.Task ∷ []) in omega (arith, rows);
    }) (ap (lie_within pages) none) sent.allowed)
task_told pages verb line function task a b old new (Err w) result asked none says why refused sent not_sent same =
    at (Err w) refl (task_refusal a.client) refl refused
  where
    at : (answer : Result ℕ Refused) → answer ≡ Err w → (r : Option Refused) → task_refusal a.client ≡ r
        → IfSome r (λ x. (answer ≡ Err x) × (new.crq ≡ old.crq) × (new.own ≡ old.own)) → StepsTold pages verb a b result
    at answer e None allowed h =
        unsent_told pages verb a b w result asked (same_of a.client b.client same) why
        (λ login outcome agrees said. allowed_says pages (ranges_of verb) a.client None login outcome (ap (lie_within pages) none) allowed agrees
        (tried_sent line a.client (task_unit function task a.client) old new w (asked_in login) outcome (not_sent allowed) said))
    at answer e (Some x) some h =
        unsent_told pages verb a b w result asked (same_of a.client b.client same) why
        (λ login outcome agrees said. subst (λ (why : Option Outcome). IsAsked login why outcome) (sym (ranged pages (ranges_of verb) login true (ap (lie_within pages) none)))
        (asked_why login a.client None w outcome agrees (some ∙ ap Some (sym (err_is w x answer e h.0))) said tt))

-- a logout
logout_says : (login : Option LoginNow) (s : ClientState) (why : Refused) (outcome : Outcome) → AgreesTold 0 login s → logout_refused_by s.granted s.outgoing ≡ Some why
    → says_as why ≡ Some outcome → IsLogout login outcome
logout_says None s why outcome agrees is says =
    let why_is : Some whys.NotLoggedIn ≡ Some why = subst (λ (g : Option ℕ). logout_refused_by g s.outgoing ≡ Some why) agrees is in
    some_is outcome outcomes.NotLoggedIn (sym (subst (λ (w : Refused). says_as w ≡ Some outcome) (some_is why whys.NotLoggedIn (sym why_is)) says))
logout_says (Some l) s why outcome agrees is says =
    at s.outgoing agrees.outstanding agrees.asked (subst (λ (g : Option ℕ). logout_refused_by g s.outgoing ≡ Some why) agrees.granted is)
  where
    over : (b : Bool) (n tag : ℕ) → (l.outstanding == 0) ≡ b → l.outstanding ≡ (n + 1) + 0 → outcome ≡ outcomes.Overlap tag → Contains l.asked tag
        → MatchBool b (IsTried [] outcome) ((tag : ℕ) × (outcome ≡ outcomes.Overlap tag) × Contains l.asked tag)
    over true n tag e more said there = let none : l.outstanding ≡ 0 = grind (arith, nat_tests) in absurd (omega (arith, none, more))
    over false n tag e more said there = (tag, said, there)

    at : (os : List Outgoing) → l.outstanding ≡ length os + 0 → All (λ (o : Outgoing). Contains l.asked o.tag) os → waits_for os ≡ Some why → IsLogout (Some l) outcome
    at [] many all w = absurd (cc)
    at (o ∷ os) many all w =
        over (l.outstanding == 0) (length os) o.tag refl (omega (arith, many))
        (some_is outcome (outcomes.Overlap o.tag) (sym (subst (λ (x : Refused). says_as x ≡ Some outcome) (some_is why (whys.Overlap o.tag) (sym w)) says)))
        (All-head (λ (o : Outgoing). Contains l.asked o.tag) o os all)

logout_tried : (login : Option LoginNow) (s : ClientState) (outcome : Outcome) → AgreesTold 0 login s → logout_refused_by s.granted s.outgoing ≡ None → IsTried [] outcome → IsLogout login outcome
logout_tried None s outcome agrees is tried = absurd (some_none (subst (λ (g : Option ℕ). logout_refused_by g s.outgoing ≡ None) agrees is))
  where
    some_none : logout_refused_by None s.outgoing ≡ None → ⊥
    some_none e = cc
logout_tried (Some l) s outcome agrees is tried =
    at s.outgoing agrees.outstanding (subst (λ (g : Option ℕ). logout_refused_by g s.outgoing ≡ None) agrees.granted is)
  where
    zero : (b : Bool) → (l.outstanding == 0) ≡ b → l.outstanding ≡ 0 → MatchBool b (IsTried [] outcome) ((tag : ℕ) × (outcome ≡ outcomes.Overlap tag) × Contains l.asked tag)
    zero true e none = tried
    zero false e none = let some : l.outstanding ≢ 0 = grind (arith, nat_tests) in absurd (some none)

    at : (os : List Outgoing) → l.outstanding ≡ length os + 0 → waits_for os ≡ None → IsLogout (Some l) outcome
    at [] many w = zero (l.outstanding == 0) refl (omega (arith, many))
    at (o ∷ os) many w = absurd (cc)

pub logout_told : (pages line : ℕ) (a b : Seated) (old new : Ports) (answer : Result ℕ Refused) (result : Result Step NoMemory)
    → b.progress ≡ a.progress → b.registered ≡ a.registered → SaysSent answer result → IfErr answer (λ why. SaysWhy why result)
    → IfSome (logout_refusal a.client) (λ why. (answer ≡ Err why) × (new.crq ≡ old.crq) × (new.own ≡ old.own))
    → IfOk answer (LoggedOut line a.client b.client old new)
    → (logout_refusal a.client ≡ None → IfErr answer (WhyNotSent line a.client (logout_unit a.client) old new))
    → OnErr answer (b.client ≡ a.client) → StepsTold pages verbs.Logout a b result
logout_told pages line a b old new (Ok tag) result progress queue says why refused sent not_sent same =
    subst (StepsTold pages verbs.Logout a b) (sym says) (λ of own told.
    let agrees = agrees_fresh pages own a told (of.reset refl) (of.take refl) in
    let next : next_tag b.client ≡ next_tag a.client + 1 =
    (let rows = ap (λ (t : ClientState). length t.rows) sent.client ∙ length-append a.client.rows (rows.Logout ∷ []) in omega (arith, rows)) in
    let out : b.client.granted ≡ None = ap (λ (t : ClientState). t.granted) sent.client in
    ends_told pages verbs.Logout (outcomes.Sent tag) own a b told (logout_tried (login_after None own) a.client (outcomes.Sent tag) agrees sent.allowed tt)
    (omega (arith, next)) (tag_within tag (next_tag a.client) (next_tag b.client) sent.tag_is next) out (inl out))
logout_told pages line a b old new (Err w) result progress queue says why refused sent not_sent same =
    unsent_said pages verbs.Logout a b w result refl refl progress queue (same_of a.client b.client same) why (at (Err w) refl (logout_refusal a.client) refl refused)
  where
    at : (answer : Result ℕ Refused) → answer ≡ Err w → (r : Option Refused) → logout_refusal a.client ≡ r
        → IfSome r (λ x. (answer ≡ Err x) × (new.crq ≡ old.crq) × (new.own ≡ old.own))
        → (login : Option LoginNow) (outcome : Outcome) → AgreesTold 0 login a.client → says_as w ≡ Some outcome → IsLogout login outcome
    at answer e None allowed h login outcome agrees said =
        logout_tried login a.client outcome agrees allowed (tried_sent line a.client (logout_unit a.client) old new w [] outcome (not_sent allowed) said)
    at answer e (Some x) some h login outcome agrees said =
        logout_says login a.client w outcome agrees (some ∙ ap Some (sym (err_is w x answer e h.0))) said

-- a line of the unit alone: it asks nothing, logs nothing out, takes nothing and resets nothing
pub record IsAside (verb : Verb) : Type 0 where
  pub no_ask : asks verb ≡ false
  pub no_logout : is_logout verb ≡ false
  pub no_take : is_take verb ≡ false
  pub no_reset : is_reset verb ≡ false

pub aside_told : (pages : ℕ) (verb : Verb) (a b : Seated) (result : Result Step NoMemory) → IsAside verb → b.client ≡ a.client → b.progress ≡ a.progress → b.registered ≡ a.registered
    → IsPlain result → ((login : Option LoginNow) (outcome : Outcome) → result ≡ Ok (steps.Ends outcome) → IsSaid pages login verb outcome)
    → StepsTold pages verb a b result
aside_told pages verb a b (Ok (steps.Ends outcome)) aside client progress queue plain says = λ of own told.
    plain_ends pages verb outcome own a b aside.no_take aside.no_reset of plain queue (same_of a.client b.client client) told
    (λ agrees. says (login_after None own) outcome refl)
aside_told pages verb a b (Ok (steps.Waits did)) aside client progress queue plain says = λ of.
    (subst (IsOf verb) (sym progress) of, λ own told. waits_told pages own a b progress (same_of a.client b.client client) queue told)
aside_told pages verb a b (Err memory) aside client progress queue plain says = tt

pub told_as : (pages : ℕ) (verb verb' : Verb) (a b : Seated) (result : Result Step NoMemory) → verb ≡ verb' → StepsTold pages verb' a b result → StepsTold pages verb a b result
told_as pages verb verb' a b result is told = subst (λ (v : Verb). StepsTold pages v a b result) (sym is) told

pub aside_as : (verb verb' : Verb) → verb ≡ verb' → IsAside verb' → IsAside verb
aside_as verb verb' is aside = subst IsAside (sym is) aside
