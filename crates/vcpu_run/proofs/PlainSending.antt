-- A command, a task or a logout of a plain client goes on as the replay of the client's lines says.
use Rattle.std.proofs.Common.{◌≡◌, ◌∙◌, ◌⊎◌, inl, inr, ℕ, ◌+◌, ◌<◌, ◌≤◌, ◌++◌, ◌||◌, nat_le, Bool, true, false, true≢false, cond, drop, List, [], ◌∷◌, Option, Some, None, Result, Ok, Err, IfErr, IfOk, IfSome, IsErr, OnErr, is_some, length, length-append, min, refl, sym, ap, ap₂, subst, arith}
use Rattle.std.specs.Prelude.{⊤}
use Rattle.std.proofs.lemmas.List.Elements.{All-cons, All-nil}
use Rattle.std.specs.Option.{option_map}
use Rattle.std.proofs.lemmas.Bool.Decides.{nat_tests}
use Rattle.vio_num.specs.declared.memory.NoMemory.{NoMemory}
use Rattle.crq_session.specs.EndState.{OnlySends}
use Rattle.srp_iu.specs.declared.unit.Iu.TheVariants as units
use Rattle.tce_window.specs.PortState.{OnlyWrites}
use Rattle.block_server.specs.Talk.{Word, tag_asked}
use Rattle.block_server.specs.Talk.Word.{asks as asks', begins, gone}
use Rattle.boot_text.specs.declared.verb.Verb.{Verb}
use Rattle.boot_text.specs.declared.verb.Verb.TheVariants as verbs
use Rattle.unit_region.specs.declared.step.Step.{Step}
use Rattle.vio_trace.specs.declared.outcome.Outcome.{Outcome}
use Rattle.vio_trace.specs.declared.rows.AnswerRow.{AnswerRow}
use Rattle.vscsi_client.specs.Sending.{LoggedOut, Submitted, Tasked, WhyNotSent, WhyNotSubmitted, command_refusal, logout_refusal as logout_why, logout_refused_by, logout_unit, refused_by, request_of, task_of, task_refusal, task_unit}
use Rattle.vscsi_client.specs.Spans.{data_span, first_sharing, has_page_of, meets, no_pages, op_in_range, table_span}
use Rattle.vscsi_client.specs.State.{ClientState, next_tag}
use Rattle.vscsi_client.specs.Units.{FitsOp}
use Rattle.vscsi_client.specs.declared.answers.Refused.{Refused}
use Rattle.vscsi_client.specs.declared.answers.Refused.TheVariants as whys
use Rattle.vscsi_client.specs.declared.op.Op.{Op}
use Rattle.vscsi_client.specs.declared.outgoing.Outgoing.{Outgoing}
use Rattle.vscsi_client.specs.declared.outgoing.Span.{Span}
use Rattle.vscsi_client.specs.declared.row.Row.{Row}
use Rattle.vcpu_run.specs.Commands.{IsOpOf}
use Rattle.vcpu_run.specs.PlainSteps.{AreReplayedAs, AsksAnew, HasCome, FollowsReplay, IsNewWord, StepsOn, have_page_of, KeepsLogin}
use Rattle.vcpu_run.specs.PlainTalk.{Between, ServerStays, TalksPlainly, client_ports, owes, word_of, is_login}
use Rattle.vcpu_run.specs.Replay.{Asked as Replayed, Range, Replay, asks, logged_out, ranges_of, refusal, with_asked}
use Rattle.vcpu_run.specs.Sendings.{SaysSent, SaysWhy, says_as}
use Rattle.vcpu_run.specs.declared.script.Progress.{Progress}
use Rattle.vcpu_run.proofs.Askings.{asks_by}
use Rattle.vcpu_run.proofs.PlainAsking.{SendsUnless, asks_on, knows}
use Rattle.vcpu_run.proofs.PlainCommands.{command_says, logout_says, task_says}
use Rattle.vcpu_run.proofs.PlainRefused.{KnowsCredits, command_as, logout_as, says_of, task_as}
use Rattle.vcpu_run.proofs.PlainShares.{HasPagesOf, no_page, oldest_as, pages_of, replayed_long, replayed_push}
use Rattle.vcpu_run.proofs.PlainUnsent.{not_sent, not_submitted}
use Rattle.vcpu_run.proofs.Sayings.{same_range}

none_some : {X : Type 0} {x : X} → None ≡ Some x → ⊥
none_some e = cc (e)

-- one thing was asked, under the next tag
abbrev TagIs : ℕ → Word → Type 0
TagIs tag (asks' address bytes iu) = tag_asked iu ≡ tag
TagIs tag word = ⊤

-- and it was no login
abbrev IsOther : Word → Type 0
IsOther (asks' address bytes iu) = is_login iu ≡ false
IsOther word = ⊤

one_anew : (s s' : ClientState) (word : Word) → length s'.rows ≡ length s.rows + 1 → TagIs (next_tag s) word → IsOther word → AsksAnew (length s.rows) s' (word ∷ [])
one_anew s s' word more tag other = record {
  more = omega (arith, more);
  asked = All-cons (IsNewWord (length s.rows) (length s'.rows)) word [] (by word tag) (All-nil (IsNewWord (length s.rows) (length s'.rows)));
  logins = All-cons (KeepsLogin s'.rows) word [] (none word other) (All-nil (KeepsLogin s'.rows));
}
  where
    none : (word : Word) → IsOther word → KeepsLogin s'.rows word
    none (asks' address bytes iu) other = λ login. absurd (true≢false (sym login ∙ other))
    none begins other = tt
    none gone other = tt

    by : (word : Word) → TagIs (next_tag s) word → IsNewWord (length s.rows) (length s'.rows) word
    by (asks' address bytes iu) tag = (omega (arith, tag), omega (arith, tag, more))
    by begins tag = tt
    by gone tag = tt

-- ---- a refusal says why

spoken_credit : (g : Option ℕ) (n : ℕ) (found : Option ℕ) → says_of (refused_by g n found) ≡ None → refused_by g n found ≡ None
spoken_credit None n found none = absurd (none_some (sym none))
spoken_credit (Some m) n found none = by (nat_le m n) found none
  where
    by : (b : Bool) (found : Option ℕ) → says_of (cond b (Some (whys.NoCredit 0)) (option_map (λ (tag : ℕ). whys.Overlap tag) found)) ≡ None
        → cond b (Some (whys.NoCredit 0)) (option_map (λ (tag : ℕ). whys.Overlap tag) found) ≡ None
    by true found none = absurd (none_some (sym none))
    by false None none = refl
    by false (Some tag) none = absurd (none_some (sym none))

spoken_range : (b : Bool) (why : Option Refused) → (says_of why ≡ None → why ≡ None) → says_of (cond b why (Some whys.Range)) ≡ None → cond b why (Some whys.Range) ≡ None
spoken_range true why rest none = rest none
spoken_range false why rest none = absurd (none_some (sym none))

spoken_logout : (g : Option ℕ) (outgoing : List Outgoing) → says_of (logout_refused_by g outgoing) ≡ None → logout_refused_by g outgoing ≡ None
spoken_logout None outgoing none = absurd (none_some (sym none))
spoken_logout (Some n) [] none = refl
spoken_logout (Some n) (o ∷ outgoing) none = absurd (none_some (sym none))

speaks : (why : Option Refused) (x : Refused) → (says_of why ≡ None → why ≡ None) → why ≡ Some x → says_as x ≡ None → ⊥
speaks why x spoken is none = none_some (sym (spoken (ap says_of is ∙ none)) ∙ is)

-- ---- what is not refused

lends : (g : Option ℕ) (n : ℕ) (found : Option ℕ) → refused_by g n found ≡ None → (m : ℕ) × (g ≡ Some m) × (n < m)
lends None n found none = absurd (none_some (sym none))
lends (Some m) n found none = (m, refl, by (nat_le m n) refl none)
  where
    by : (b : Bool) → nat_le m n ≡ b → cond b (Some (whys.NoCredit 0)) (option_map (λ (tag : ℕ). whys.Overlap tag) found) ≡ None → n < m
    by true is none = absurd (none_some (sym none))
    by false is none = grind (arith, nat_tests, is)

ranged : (b : Bool) (why : Option Refused) → cond b why (Some whys.Range) ≡ None → (b ≡ true) × (why ≡ None)
ranged true why none = (refl, none)
ranged false why none = absurd (none_some (sym none))

lends_out : (g : Option ℕ) (outgoing : List Outgoing) → logout_refused_by g outgoing ≡ None → ((m : ℕ) × (g ≡ Some m)) × (outgoing ≡ [])
lends_out None outgoing none = absurd (none_some (sym none))
lends_out (Some m) [] none = ((m, refl), refl)
lends_out (Some m) (o ∷ outgoing) none = absurd (none_some (sym none))

-- a login is on in the replay, and the client's queue is registered
on_there : (granted : ℕ) (now : Replay) (at : Between) (m : ℕ) → FollowsReplay granted now at → at.client.granted ≡ Some m → (now.is_on ≡ true) × (at.own.registered ≡ true)
on_there granted now at m holds some = (on, holds.credits.there on)
  where
    on : now.is_on ≡ true
    on = sym holds.credits.is_on ∙ ap (λ (g : Option ℕ). is_some g) some

-- ---- what the replay has once it was sent

-- One request more is outstanding.
pub record AsksMore (at at' : Between) (o : Outgoing) : Type 0 where
  pub registered : at'.own.registered ≡ at.own.registered
  pub granted : at'.client.granted ≡ at.client.granted
  pub outgoing : at'.client.outgoing ≡ at.client.outgoing ++ o ∷ []
  pub rows : length at'.client.rows ≡ length at.client.rows + 1
  pub login : at'.client.login ≡ at.client.login
  pub handshake : at'.client.handshake ≡ at.client.handshake

asked_more : (granted : ℕ) (now : Replay) (ranges : List Range) (at at' : Between) (o : Outgoing) (m : ℕ) → FollowsReplay granted now at
    → KnowsCredits granted now at.client.granted at.client.outgoing → at.client.granted ≡ Some m → length at.client.outgoing < m → o.tag ≡ next_tag at.client
    → ((span : Span) → has_page_of span o ≡ have_page_of span ranges) → ((span : Span) → meets o.table span ≡ have_page_of span (drop 1 ranges)) → AsksMore at at' o
    → FollowsReplay granted (with_asked ranges now) at'
asked_more granted now ranges at at' o m holds known some less tag pages table more = record {
  tag = ap (λ (n : ℕ). n + 1) (more.rows ∙ holds.tag);
  login = more.login ∙ holds.login;
  settled = λ waits. holds.settled (sym more.handshake ∙ waits);
  fresh = λ off. absurd (true≢false (sym (more.registered ∙ (on_there granted now at m holds some).1) ∙ off));
  credits = record {
    is_on = ap (λ (g : Option ℕ). is_some g) more.granted ∙ holds.credits.is_on;
    there = λ on. more.registered ∙ holds.credits.there on;
    outstanding = subst (λ (list : List Outgoing). AreReplayedAs list (now.outstanding ++ asked ∷ [])) (sym more.outgoing)
        (replayed_push at.client.outgoing now.outstanding o asked holds.credits.outstanding (record { tag = tag ∙ holds.tag; pages = pages; table = table }));
    none = λ off. absurd (true≢false (sym (on_there granted now at m holds some).0 ∙ off));
    within = subst (λ (n : ℕ). n ≤ granted) (sym (length-append now.outstanding (asked ∷ [])))
        (omega (arith, less, most known.grants, known.most, replayed_long at.client.outgoing now.outstanding holds.credits.outstanding));
  };
}
  where
    asked : Replayed
    asked = record { tag = now.tag; ranges = ranges }

    some_same : (x y : ℕ) → Some x ≡ Some y → x ≡ y
    some_same x y e = cc (e)

    most : (at.client.granted ≡ None) ⊎ (at.client.granted ≡ Some (min granted 200)) → m ≤ granted
    most (inl none) = absurd (none_some (sym none ∙ some))
    most (inr is) = omega (arith, some_same m (min granted 200) (sym some ∙ is))

rows_more : (rows : List Row) (row : Row) (new : List Row) → new ≡ rows ++ row ∷ [] → length new ≡ length rows + 1
rows_more rows row new is = ap (λ (list : List Row). length list) is ∙ length-append rows (row ∷ [])

-- ---- a line that asks

sends_unless : (granted pages : ℕ) (verb : Verb) (now : Replay) → asks verb ≡ true
    → SendsUnless granted pages verb now (refusal granted pages now (ranges_of verb)) (with_asked (ranges_of verb) now)
sends_unless granted pages verbs.Tur now is = record { come = λ p at come. come; ends = refl; after = refl }
sends_unless granted pages (verbs.Read lba blocks at pieces table) now is = record { come = λ p between come. come; ends = refl; after = refl }
sends_unless granted pages (verbs.Write lba blocks at pieces table) now is = record { come = λ p between come. come; ends = refl; after = refl }
sends_unless granted pages (verbs.Command cdb) now is = record { come = λ p at come. come; ends = refl; after = refl }
sends_unless granted pages (verbs.CommandIn cdb at len pieces table) now is = record { come = λ p between come. come; ends = refl; after = refl }
sends_unless granted pages (verbs.CommandOut cdb at len pieces table) now is = record { come = λ p between come. come; ends = refl; after = refl }
sends_unless granted pages (verbs.Task function of) now is = record { come = λ p at come. come; ends = refl; after = refl }
sends_unless granted pages verbs.Login now is = absurd (true≢false (sym is))
sends_unless granted pages verbs.Reset now is = absurd (true≢false (sym is))
sends_unless granted pages verbs.Logout now is = absurd (true≢false (sym is))
sends_unless granted pages (verbs.Take count) now is = absurd (true≢false (sym is))
sends_unless granted pages (verbs.Data of) now is = absurd (true≢false (sym is))
sends_unless granted pages verbs.Open now is = absurd (true≢false (sym is))
sends_unless granted pages verbs.Close now is = absurd (true≢false (sym is))
sends_unless granted pages (verbs.Post at len count) now is = absurd (true≢false (sym is))
sends_unless granted pages (verbs.Send to len seed at) now is = absurd (true≢false (sym is))
sends_unless granted pages (verbs.ChangeMac own) now is = absurd (true≢false (sym is))
sends_unless granted pages (verbs.Multicast control group) now is = absurd (true≢false (sym is))
sends_unless granted pages (verbs.Fill at len seed) now is = absurd (true≢false (sym is))
sends_unless granted pages (verbs.Poke at bytes) now is = absurd (true≢false (sym is))
sends_unless granted pages (verbs.Peek at len) now is = absurd (true≢false (sym is))
sends_unless granted pages (verbs.Tce entry page readable writable) now is = absurd (true≢false (sym is))
sends_unless granted pages (verbs.Hcall number arguments) now is = absurd (true≢false (sym is))
sends_unless granted pages verbs.Fail now is = absurd (true≢false (sym is))

-- ---- a command

pub command_on : (granted line : ℕ) (verb : Verb) (p : Progress) (op : Op) (now : Replay) (at at' : Between) (before after : List AnswerRow) (answer : Result ℕ Refused) (result : Result Step NoMemory)
    → after ≡ before → IsOpOf verb op → FitsOp op → TalksPlainly granted at [] → HasCome granted verb p now at → ServerStays at at' → OnlySends false at.own at'.own → OnlyWrites at.window at'.window
    → SaysSent answer result → IfErr answer (λ x. SaysWhy x result) → IfErr answer (λ x. x ≡ whys.NoMemory → IsErr result)
    → IfSome (command_refusal at.window.place.size at.client op) (λ x. (answer ≡ Err x) × (at'.client ≡ at.client) × (at'.own ≡ at.own) × (at'.window ≡ at.window))
    → IfOk answer (Submitted line op at.client at'.client (client_ports at) (client_ports at'))
    → (command_refusal at.window.place.size at.client op ≡ None → IfErr answer (WhyNotSubmitted line op at.client at'.client (client_ports at) (client_ports at')))
    → IfOk result (StepsOn granted verb p now (length at.client.rows) (owes at []) before after at')
command_on granted line verb p op now at at' before after answer result noted is fits talks come stays sends wrote says reason memory refused submitted why_not =
    asks_on granted verb p now sent at at' before after why answer result noted
    (subst (λ (o : Option Outcome). SendsUnless granted pages verb now o sent) (sym as_replayed) unless) talks holds stays wrote.place
    (record { says = λ x. speaks why x spoken; refused = refused; went = went; unsent = unsent }) says reason memory
  where
    pages : ℕ
    pages = at.window.place.size

    why : Option Refused
    why = command_refusal pages at.client op

    sent : Replay
    sent = with_asked (ranges_of verb) now

    unless : SendsUnless granted pages verb now (refusal granted pages now (ranges_of verb)) sent
    unless = sends_unless granted pages verb now (asks_by verb op is)

    holds : FollowsReplay granted now at
    holds = unless.come p at come

    known : KnowsCredits granted now at.client.granted at.client.outgoing
    known = knows granted now at talks holds

    has : HasPagesOf op (ranges_of verb)
    has = pages_of verb op is

    as_replayed : says_of why ≡ refusal granted pages now (ranges_of verb)
    as_replayed = command_as granted pages now at.client.granted at.client.outgoing op (ranges_of verb) known (same_range pages verb op is)
        (oldest_as op (ranges_of verb) at.client.outgoing now.outstanding has holds.credits.outstanding)

    spoken : says_of why ≡ None → why ≡ None
    spoken = spoken_range (op_in_range pages op) (refused_by at.client.granted (length at.client.outgoing) (first_sharing op at.client.outgoing))
        (spoken_credit at.client.granted (length at.client.outgoing) (first_sharing op at.client.outgoing))

    free : why ≡ None → (op_in_range pages op ≡ true) × (m : ℕ) × (at.client.granted ≡ Some m) × (length at.client.outgoing < m)
    free none =
        let both = ranged (op_in_range pages op) (refused_by at.client.granted (length at.client.outgoing) (first_sharing op at.client.outgoing)) none in
        let lent = lends at.client.granted (length at.client.outgoing) (first_sharing op at.client.outgoing) both.1 in
        (both.0, lent.0, lent.1, lent.2)

    went : (tag : ℕ) → answer ≡ Ok tag → (why ≡ None) × (tag ≡ now.tag) × FollowsReplay granted sent at' × (words : List Word) × TalksPlainly granted at' words × AsksAnew (length at.client.rows) at'.client words
    went tag ok = (
      sub.allowed,
      sub.tag_is ∙ holds.tag,
      asked_more granted now (ranges_of verb) at at' (request_of op (next_tag at.client) sub.slot) (free sub.allowed).1 holds known (free sub.allowed).2 (free sub.allowed).3 refl
          (λ span. has.has span) (λ span. has.tabled span)
          (record {
            registered = sends.registered;
            granted = ap (λ (s : ClientState). s.granted) sub.client;
            outgoing = ap (λ (s : ClientState). s.outgoing) sub.client;
            rows = rows_more at.client.rows _ at'.client.rows (ap (λ (s : ClientState). s.rows) sub.client);
            login = ap (λ (s : ClientState). s.login) sub.client;
            handshake = ap (λ (s : ClientState). s.handshake) sub.client;
          }),
      word_of (record { tag = next_tag at.client; slot = sub.slot; iu = units.Cmd sub.command; bytes = sub.put.0; pages = data_span op; table = table_span op; start = op.at }) ∷ [],
      command_says granted line op at at' tag sub fits talks holds.login sends stays,
      one_anew at.client at'.client (word_of (record { tag = next_tag at.client; slot = sub.slot; iu = units.Cmd sub.command; bytes = sub.put.0; pages = data_span op; table = table_span op; start = op.at }))
          (rows_more at.client.rows _ at'.client.rows (ap (λ (s : ClientState). s.rows) sub.client)) sub.is_command.tag_is refl,
    )
      where
        sub : Submitted line op at.client at'.client (client_ports at) (client_ports at') tag
        sub = subst (λ (r : Result ℕ Refused). IfOk r (Submitted line op at.client at'.client (client_ports at) (client_ports at'))) ok submitted

    unsent : (x : Refused) → answer ≡ Err x → why ≡ None → x ≡ whys.NoMemory
    unsent x err none =
        not_submitted granted line op at at' x talks.calm (on_there granted now at (free none).1 holds (free none).2).1 (free none).0 stays
        (subst (λ (r : Result ℕ Refused). IfErr r (WhyNotSubmitted line op at.client at'.client (client_ports at) (client_ports at'))) err (why_not none))

-- what a client that was refused left as it was
both_stay : (why : Option Refused) (answer : Result ℕ Refused) (at at' : Between) → IfSome why (λ x. (answer ≡ Err x) × (at'.own ≡ at.own) × (at'.window ≡ at.window))
    → OnErr answer (at'.client ≡ at.client) → IfSome why (λ x. (answer ≡ Err x) × (at'.client ≡ at.client) × (at'.own ≡ at.own) × (at'.window ≡ at.window))
both_stay None answer at at' refused same = tt
both_stay (Some x) answer at at' refused same =
    (refused.0, subst (λ (r : Result ℕ Refused). OnErr r (at'.client ≡ at.client)) refused.0 same, refused.1, refused.2)

-- ---- a task

pub task_on : (granted line function task : ℕ) (p : Progress) (now : Replay) (at at' : Between) (before after : List AnswerRow) (answer : Result ℕ Refused) (result : Result Step NoMemory) → after ≡ before → TalksPlainly granted at []
    → HasCome granted (verbs.Task function task) p now at → ServerStays at at' → OnlySends false at.own at'.own → OnlyWrites at.window at'.window
    → SaysSent answer result → IfErr answer (λ x. SaysWhy x result) → IfErr answer (λ x. x ≡ whys.NoMemory → IsErr result)
    → IfSome (task_refusal at.client) (λ x. (answer ≡ Err x) × (at'.own ≡ at.own) × (at'.window ≡ at.window)) → OnErr answer (at'.client ≡ at.client)
    → IfOk answer (Tasked line function task at.client at'.client (client_ports at) (client_ports at'))
    → (task_refusal at.client ≡ None → IfErr answer (WhyNotSent line at.client (task_unit function task at.client) (client_ports at) (client_ports at')))
    → IfOk result (StepsOn granted (verbs.Task function task) p now (length at.client.rows) (owes at []) before after at')
task_on granted line function task p now at at' before after answer result noted talks come stays sends wrote says reason memory refused same tasked why_not =
    asks_on granted (verbs.Task function task) p now sent at at' before after why answer result noted
    (subst (λ (o : Option Outcome). SendsUnless granted pages (verbs.Task function task) now o sent)
    (sym (task_as granted pages now at.client.granted at.client.outgoing known)) (sends_unless granted pages (verbs.Task function task) now refl)) talks come stays wrote.place
    (record {
      says = λ x. speaks why x (spoken_credit at.client.granted (length at.client.outgoing) None);
      refused = both_stay why answer at at' refused same;
      went = went;
      unsent = λ x err none. not_sent granted line (task_unit function task at.client) at at' x talks.calm (on_there granted now at (free none).0 come (free none).1).1 stays
          (subst (λ (r : Result ℕ Refused). IfErr r (WhyNotSent line at.client (task_unit function task at.client) (client_ports at) (client_ports at'))) err (why_not none));
    }) says reason memory
  where
    pages : ℕ
    pages = at.window.place.size

    why : Option Refused
    why = task_refusal at.client

    sent : Replay
    sent = with_asked [] now

    known : KnowsCredits granted now at.client.granted at.client.outgoing
    known = knows granted now at talks come

    free : why ≡ None → (m : ℕ) × (at.client.granted ≡ Some m) × (length at.client.outgoing < m)
    free none = lends at.client.granted (length at.client.outgoing) None none

    went : (tag : ℕ) → answer ≡ Ok tag → (why ≡ None) × (tag ≡ now.tag) × FollowsReplay granted sent at' × (words : List Word) × TalksPlainly granted at' words × AsksAnew (length at.client.rows) at'.client words
    went tag ok = (
      sub.allowed,
      sub.tag_is ∙ come.tag,
      asked_more granted now [] at at' (task_of (next_tag at.client) sub.slot) (free sub.allowed).0 come known (free sub.allowed).1 (free sub.allowed).2 refl
          (λ span. ap₂ (λ a b. a || b) (no_page span) (no_page span)) (λ span. no_page span)
          (record {
            registered = sends.registered;
            granted = ap (λ (s : ClientState). s.granted) sub.client;
            outgoing = ap (λ (s : ClientState). s.outgoing) sub.client;
            rows = rows_more at.client.rows _ at'.client.rows (ap (λ (s : ClientState). s.rows) sub.client);
            login = ap (λ (s : ClientState). s.login) sub.client;
            handshake = ap (λ (s : ClientState). s.handshake) sub.client;
          }),
      word_of (record { tag = next_tag at.client; slot = sub.slot; iu = task_unit function task at.client; bytes = sub.put.put.0; pages = no_pages; table = no_pages; start = 0 }) ∷ [],
      task_says granted line function task at at' tag sub talks come.login sends stays,
      one_anew at.client at'.client (word_of (record { tag = next_tag at.client; slot = sub.slot; iu = task_unit function task at.client; bytes = sub.put.put.0; pages = no_pages; table = no_pages; start = 0 }))
          (rows_more at.client.rows _ at'.client.rows (ap (λ (s : ClientState). s.rows) sub.client)) refl refl,
    )
      where
        sub : Tasked line function task at.client at'.client (client_ports at) (client_ports at') tag
        sub = subst (λ (r : Result ℕ Refused). IfOk r (Tasked line function task at.client at'.client (client_ports at) (client_ports at'))) ok tasked

-- ---- a logout

none_asked : (outgoing : List Outgoing) (outstanding : List Replayed) → AreReplayedAs outgoing outstanding → outgoing ≡ [] → outstanding ≡ []
none_asked [] [] are none = refl
none_asked [] (asked ∷ outstanding) are none = absurd are
none_asked (o ∷ outgoing) outstanding are none = absurd (cc (none))

pub logout_on : (granted line : ℕ) (p : Progress) (now : Replay) (at at' : Between) (before after : List AnswerRow) (answer : Result ℕ Refused) (result : Result Step NoMemory) → after ≡ before → TalksPlainly granted at []
    → HasCome granted verbs.Logout p now at → ServerStays at at' → OnlySends false at.own at'.own → OnlyWrites at.window at'.window
    → SaysSent answer result → IfErr answer (λ x. SaysWhy x result) → IfErr answer (λ x. x ≡ whys.NoMemory → IsErr result)
    → IfSome (logout_why at.client) (λ x. (answer ≡ Err x) × (at'.own ≡ at.own) × (at'.window ≡ at.window)) → OnErr answer (at'.client ≡ at.client)
    → IfOk answer (LoggedOut line at.client at'.client (client_ports at) (client_ports at'))
    → (logout_why at.client ≡ None → IfErr answer (WhyNotSent line at.client (logout_unit at.client) (client_ports at) (client_ports at')))
    → IfOk result (StepsOn granted verbs.Logout p now (length at.client.rows) (owes at []) before after at')
logout_on granted line p now at at' before after answer result noted talks come stays sends wrote says reason memory refused same logged why_not =
    asks_on granted verbs.Logout p now (logged_out now) at at' before after why answer result noted
    (subst (λ (o : Option Outcome). SendsUnless granted at.window.place.size verbs.Logout now o (logged_out now))
    (sym (logout_as granted now at.client.granted at.client.outgoing (knows granted now at talks come)))
    (record { come = λ p between come. come; ends = refl; after = refl })) talks come stays wrote.place
    (record {
      says = λ x. speaks why x (spoken_logout at.client.granted at.client.outgoing);
      refused = both_stay why answer at at' refused same;
      went = went;
      unsent = λ x err none. not_sent granted line (logout_unit at.client) at at' x talks.calm (on_there granted now at (free none).0.0 come (free none).0.1).1 stays
          (subst (λ (r : Result ℕ Refused). IfErr r (WhyNotSent line at.client (logout_unit at.client) (client_ports at) (client_ports at'))) err (why_not none));
    }) says reason memory
  where
    why : Option Refused
    why = logout_why at.client

    free : why ≡ None → ((m : ℕ) × (at.client.granted ≡ Some m)) × (at.client.outgoing ≡ [])
    free none = lends_out at.client.granted at.client.outgoing none

    went : (tag : ℕ) → answer ≡ Ok tag → (why ≡ None) × (tag ≡ now.tag) × FollowsReplay granted (logged_out now) at' × (words : List Word) × TalksPlainly granted at' words × AsksAnew (length at.client.rows) at'.client words
    went tag ok = (
      sub.allowed,
      sub.tag_is ∙ come.tag,
      record {
        tag = ap (λ (n : ℕ). n + 1) (rows_more at.client.rows _ at'.client.rows (ap (λ (s : ClientState). s.rows) sub.client) ∙ come.tag);
        login = ap (λ (s : ClientState). s.login) sub.client ∙ come.login;
        settled = λ waits. come.settled (sym (ap (λ (s : ClientState). s.handshake) sub.client) ∙ waits);
        fresh = λ off. absurd (true≢false (sym (sends.registered ∙ (on_there granted now at (free sub.allowed).0.0 come (free sub.allowed).0.1).1) ∙ off));
        credits = record {
          is_on = ap (λ (s : ClientState). is_some s.granted) sub.client;
          there = λ on. absurd (true≢false (sym on));
          outstanding = subst (λ (s : ClientState). AreReplayedAs s.outgoing now.outstanding) (sym sub.client) come.credits.outstanding;
          none = λ off. none_asked at.client.outgoing now.outstanding come.credits.outstanding (free sub.allowed).1;
          within = come.credits.within;
        };
      },
      word_of (record { tag = next_tag at.client; slot = sub.slot; iu = logout_unit at.client; bytes = sub.put.put.0; pages = no_pages; table = no_pages; start = 0 }) ∷ [],
      logout_says granted line at at' tag sub talks come.login sends stays,
      one_anew at.client at'.client (word_of (record { tag = next_tag at.client; slot = sub.slot; iu = logout_unit at.client; bytes = sub.put.put.0; pages = no_pages; table = no_pages; start = 0 }))
          (rows_more at.client.rows _ at'.client.rows (ap (λ (s : ClientState). s.rows) sub.client)) refl refl,
    )
      where
        sub : LoggedOut line at.client at'.client (client_ports at) (client_ports at') tag
        sub = subst (λ (r : Result ℕ Refused). IfOk r (LoggedOut line at.client at'.client (client_ports at) (client_ports at'))) ok logged
