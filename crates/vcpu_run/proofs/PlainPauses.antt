-- A turn of a plain client's login that ends before the login's answer is there: the server unit has something to do.
use Rattle.std.proofs.Common.{◌≡◌, ◌∙◌, ◌⊎◌, inl, inr, ℕ, ◌+◌, ◌≤◌, ◌++◌, ◌&&◌, true, false, true≢false, not, All, List, [], ◌∷◌, Option, Some, None, IsSome, arith, length, refl, sym, ap, subst}
use Rattle.std.specs.List.{list_any}
use Rattle.std.proofs.lemmas.List.Elements.{All-cons, All-nil}
use Rattle.vio_num.specs.Entry.{initialization_complete}
use Rattle.vio_num.specs.declared.entry.Entry.{Entry}
use Rattle.crq_session.specs.Answered.{Sends as SendsEntry}
use Rattle.crq_session.specs.EndState.{EndState}
use Rattle.crq_session.specs.declared.answers.SendAnswer.{SendAnswer}
use Rattle.crq_session.specs.declared.answers.SendAnswer.TheVariants as send
use Rattle.srp_iu.specs.declared.unit.Iu.TheVariants as units
use Rattle.block_server.specs.Ends.{IsGrantable}
use Rattle.block_server.specs.Talk.{Word, to_come}
use Rattle.vio_num.specs.declared.names.UnitId.{UnitId}
use Rattle.vscsi_client.specs.Login.{login_slot}
use Rattle.vscsi_client.specs.Spans.{no_pages}
use Rattle.vscsi_client.specs.State.{ClientState, next_tag}
use Rattle.vscsi_client.specs.Turned.{IsHeldUp, IsLooked, IsSpent, LoginStep, Pauses, Site, begins, finds_use, is_dropped, is_idle, is_login, is_up}
use Rattle.vscsi_client.specs.Turned.LoginStep.{Began, NotWritten, Put, Wrote}
use Rattle.vscsi_client.specs.Units.{login_request}
use Rattle.vscsi_client.specs.declared.row.Row.{Row}
use Rattle.vscsi_client.specs.declared.stage.Due.{Due}
use Rattle.vscsi_client.specs.declared.stage.Due.TheVariants as dues
use Rattle.vscsi_client.specs.declared.stage.Stage.{Stage}
use Rattle.vscsi_client.specs.declared.stage.Stage.TheVariants.{Idle, Sent}
use Rattle.vcpu_run.specs.PlainSteps.{AgreeOnCredits, AsksAnew, HasSentLogin, HasToDo, IsLoggingIn, IsNewWord, KeepsLogin, KeptApart}
use Rattle.vcpu_run.specs.PlainTalk.{Ask, Between, HearsOfClient, ServerStays, TalksPlainly, is_sent, word_of}
use Rattle.vcpu_run.specs.Replay.{Replay}
use Rattle.vcpu_run.specs.TagRows.{is_inward, row_at}
use Rattle.vcpu_run.proofs.PlainAsking.{none_anew}
use Rattle.vcpu_run.proofs.PlainDues.{IsDue, IsOver, IsPut, IsWritten, put_over}
use Rattle.vcpu_run.proofs.PlainEndings.{end_at, has_pending, kept_below, talks_end}
use Rattle.vcpu_run.proofs.PlainEnds.{rise_front}
use Rattle.vcpu_run.proofs.PlainLogin.{login_says}
use Rattle.vcpu_run.proofs.PlainLogins.{SameLogin, agree_move, sent_on}
use Rattle.vcpu_run.proofs.PlainMids.{mid_at}
use Rattle.vcpu_run.proofs.PlainRests.{Begun, Clears, Counts, Rests, Since}
use Rattle.vcpu_run.proofs.PlainRooms.{put_success}
use Rattle.vcpu_run.proofs.PlainWalks.{Walked}
use Rattle.vcpu_run.proofs.PlainWalks.Walked.{BecameDue, BecamePut, BecameWritten, Holding, Resting, Sticking}

-- A login may begin, as the replay has it.
pub record MayBegin (granted : ℕ) (now : Replay) (at : Between) : Type 0 where
  pub idle : at.client.login ≡ Idle
  pub tag : next_tag at.client ≡ now.tag
  pub credits : AgreeOnCredits granted now at

-- Where a turn begins, once the queue was found registered.
pub record Starts (granted : ℕ) (now : Replay) (at : Between) : Type 0 where
  pub few : length (to_come at.own) ≤ 202
  pub slots : 256 ≤ at.own.place.own_slots
  pub tabled : at.client.tabled ≡ None
  pub started : MayBegin granted now at ⊎ HasSentLogin granted now at

-- What is left of a turn that is to go on.
abbrev pub GoesOn : (granted : ℕ) → Replay → (last : ℕ) → Between → Type 0
GoesOn granted now last at = (words : List Word) × TalksPlainly granted at words × AsksAnew last at.client words × IsLoggingIn granted now at × HasToDo at words

-- ---- no entry is held

-- all that was there was taken
spent_none : (granted : ℕ) (now : Replay) (at : Between) (steps : List LoginStep) (b : Site) → Starts granted now at → Counts at steps b → IsSpent at.own.place.own_slots steps
    → to_come b.at.crq ≡ []
spent_none granted now at steps b starts counts (inl last) = counts.spent last
spent_none granted now at steps b starts counts (inr (inl all)) = absurd (omega (arith, all, counts.left, starts.few, starts.slots))
spent_none granted now at steps b starts counts (inr (inr used)) = absurd (true≢false (sym used ∙ counts.unused))

-- a login begins where none is under way
pub begins_now : (s : ClientState) → is_up s.handshake ≡ true → s.login ≡ Idle → s.due ≡ [] → begins s ≡ true
begins_now s up idle none =
    ap (λ b. b && (is_idle s.login && not (list_any is_login s.due))) up
    ∙ ap (λ (stage : Stage). is_idle stage && not (list_any is_login s.due)) idle
    ∙ ap (λ (due : List Due). not (list_any is_login due)) none

some_come : (list : List Entry) (entry : Entry) → list ≡ entry ∷ [] → list ≡ [] → ⊥
some_come list entry one none = cc (one, none)

same_login : (at : Between) (b : Site) (server : EndState) → Since at b → SameLogin at (end_at at b server)
same_login at b server since = record { registered = since.registered; granted = since.granted; outgoing = since.outgoing }

rest_pauses : (granted : ℕ) (now : Replay) (at : Between) (steps : List LoginStep) (b : Site) (server : EndState) → Starts granted now at → ServerStays at (end_at at b server)
    → Rests granted at steps b → Pauses at.own.place.own_slots steps b → GoesOn granted now (length at.client.rows) (end_at at b server)
rest_pauses granted now at steps b server starts stays rests pauses = by rests.rest
  where
    none : to_come b.at.crq ≡ []
    none = spent_none granted now at steps b starts rests.counts pauses.spent

    hears : HearsOfClient (mid_at at b) [] → ⊥
    hears (inl one) = cc (one.0)
    hears (inr two) = some_come (to_come b.at.crq) initialization_complete two.2 none

    on : (clears : Clears granted at b) → MayBegin granted now at ⊎ HasSentLogin granted now at → GoesOn granted now (length at.client.rows) (end_at at b server)
    on clears (inl may) =
        absurd (true≢false (sym (begins_now b.client (ap is_up clears.clear.talk.handshake) (rests.since.login ∙ may.idle) clears.clear.talk.due) ∙ pauses.begun))
    on clears (inr sent) = (
      [],
      talks_end granted at b server clears.asked clears.answers stays clears.clear.calm clears.clear.talk (rests.since.tabled ∙ starts.tabled),
      none_anew at.client b.client (ap (λ (list : List Row). length list) rests.since.rows),
      inr (inr (record {
        tag = ap (λ (list : List Row). length list + 1) rests.since.rows ∙ sent.tag;
        registered = rests.since.registered ∙ sent.registered;
        apart = clears.apart;
        login = ap is_sent rests.since.login ∙ sent.login;
        credits = agree_move granted now at (end_at at b server) sent.credits (same_login at b server rests.since);
      })),
      inr (has_pending granted (mid_at at b) clears.asked clears.answers clears.clear.talk none (ap is_sent rests.since.login ∙ sent.login) clears.apart),
    )

    by : Begun granted at b ⊎ Clears granted at b → GoesOn granted now (length at.client.rows) (end_at at b server)
    by (inl begun) = absurd (hears begun.begun.heard)
    by (inr clears) = on clears starts.started

-- ---- an entry is held

no_look : (held : Option Entry) (steps : List LoginStep) → IsSome held → list_any finds_use steps ≡ false → IsLooked held steps → ⊥
no_look None steps some unused looked = cc (some)
no_look (Some entry) steps some unused looked = true≢false (sym looked ∙ unused)

-- ---- the login is due, or its unit is written

held_last : (due : Due) (others due_list : List Due) (step : LoginStep) (before steps : List LoginStep) → steps ≡ step ∷ before
    → ((answer : SendAnswer) → step ≡ Put due answer → ⊥) → ((page word : ℕ) → step ≡ NotWritten page word → ⊥) → due_list ≡ due ∷ others → IsHeldUp due_list steps → ⊥
held_last due others [] step before steps is no_put no_not list held = cc (list)
held_last due others (first ∷ more) step before steps is no_put no_not list (inl (number, held, last)) = no_put (send.Dropped number held) (cc (is, last.is, list))
held_last due others (first ∷ more) step before steps is no_put no_not list (inr (login, (page, word, last))) = no_not page word (cc (is, last.is))

-- the client knows of the due login alone
began_held : (granted : ℕ) (at : Between) (steps : List LoginStep) (b : Site) (before : List LoginStep) → steps ≡ Began ∷ before → IsDue granted at b → IsHeldUp b.client.due steps → ⊥
began_held granted at steps b before last is held =
    held_last dues.Login [] b.client.due Began before steps last (λ answer same. cc (same)) (λ page word same. cc (same))
    (ap (λ (s : ClientState). s.due) is.client ∙ ap (λ (due : List Due). due ++ dues.Login ∷ []) is.ready.clears.clear.talk.due) held

wrote_held : (granted line : ℕ) (at : Between) (steps : List LoginStep) (b : Site) (before : List LoginStep) → steps ≡ Wrote ∷ before → IsWritten granted line at b
    → IsHeldUp b.client.due steps → ⊥
wrote_held granted line at steps b before last is held =
    held_last dues.Login [] b.client.due Wrote before steps last (λ answer same. cc (same)) (λ page word same. cc (same))
    (ap (λ (s : ClientState). s.due) is.wrote.client ∙ ap (λ (due : List Due). due ++ dues.Login ∷ []) is.ready.clears.clear.talk.due) held

-- ---- the login was put

-- a login of a client is granted where none is on
pub client_fair : (id server : UnitId) (tag : ℕ) → IsGrantable 0 (login_request id server tag)
client_fair id server tag = record { none_on = refl; length = omega arith; channels = refl; formats = omega arith }

put_pauses : (granted line : ℕ) (now : Replay) (at : Between) (b : Site) (server : EndState) (answer : SendAnswer) → Starts granted now at → ServerStays at (end_at at b server)
    → IsPut granted line at b answer → GoesOn granted now (length at.client.rows) (end_at at b server)
put_pauses granted line now at b server answer starts stays is = by starts.started
  where
    c : Site
    c = is.c

    clears : Clears granted at c
    clears = is.ready.clears

    since : Since at c
    since = is.ready.since

    later : ServerStays (mid_at at c) (end_at at b server)
    later = record {
      unit = stays.unit;
      session = stays.session;
      registered = stays.registered;
      kept = stays.kept;
      taken = stays.taken;
      slots = stays.slots;
      ends = stays.ends;
    }

    success : (number : ℕ) × (answer ≡ send.Success number) × SendsEntry false is.puts.room is.puts.entry b.at.crq number
    success = put_success granted (mid_at at c) (end_at at b server) is.puts.room is.puts.entry answer clears.clear.calm is.puts.ready.sent is.puts.ready.place
        (is.puts.ready.registered ∙ clears.clear.talk.registered) later is.puts.sent

    over : IsOver c.client is.wrote.slot b.client
    over = put_over granted line at b answer is (ap is_dropped success.1)

    ask : Ask
    ask = record {
      tag = next_tag c.client;
      slot = is.wrote.slot;
      iu = units.LoginReq (login_request c.client.id c.client.server (next_tag c.client));
      bytes = is.wrote.bytes;
      pages = no_pages;
      table = no_pages;
      start = 0;
    }

    talks : TalksPlainly granted (end_at at b server) (word_of ask ∷ [])
    talks = login_says granted line (mid_at at c) (end_at at b server) clears.asked clears.answers is.mid answer clears.clear.calm clears.clear.talk (since.tabled ∙ starts.tabled)
        is.ready.idle (client_fair c.client.id c.client.server (next_tag c.client)) is.wrote is.puts later

    same : SameLogin at (end_at at b server)
    same = record {
      registered = is.puts.rest.registered ∙ is.puts.ready.registered ∙ since.registered;
      granted = over.granted ∙ since.granted;
      outgoing = over.outgoing ∙ since.outgoing;
    }

    apart : KeptApart b.client
    apart = subst (λ (stage : Stage). All (λ (entry : Entry). login_slot entry.low stage ≡ None) b.client.kept) (sym over.login)
        (subst (All (λ (entry : Entry). login_slot entry.low (Sent (next_tag c.client) is.wrote.slot) ≡ None)) (sym over.kept)
        (kept_below c.at.own c.client.kept (to_come c.at.crq) clears.asked.answered clears.answers (length c.client.rows) is.wrote.slot clears.clear.talk.answered
        (rise_front (length c.client.rows) clears.asked.answered (clears.asked.pending ++ clears.asked.coming) clears.clear.talk.tags)))

    more : length b.client.rows ≡ length at.client.rows + 1
    more = over.rows ∙ ap (λ (list : List Row). length list + 1) since.rows

    login_kept : is_inward (row_at b.client.rows (next_tag c.client)) ≡ false
    login_kept = over.login_row

    anew : AsksAnew (length at.client.rows) b.client (word_of ask ∷ [])
    anew = record {
      more = omega (arith, more);
      asked = All-cons (IsNewWord (length at.client.rows) (length b.client.rows)) (word_of ask) []
          (omega (arith, ap (λ (list : List Row). length list) since.rows), omega (arith, over.rows))
          (All-nil (IsNewWord (length at.client.rows) (length b.client.rows)));
      logins = All-cons (KeepsLogin b.client.rows) (word_of ask) [] (λ is. login_kept) (All-nil (KeepsLogin b.client.rows));
    }

    by : MayBegin granted now at ⊎ HasSentLogin granted now at → GoesOn granted now (length at.client.rows) (end_at at b server)
    by (inl may) = (
      word_of ask ∷ [],
      talks,
      anew,
      inr (inr (sent_on granted now at (end_at at b server) may.tag may.credits more (ap is_sent over.login) same
          (same.registered ∙ sym since.registered ∙ clears.clear.talk.registered) apart)),
      inl (λ none. cc (none)),
    )
    by (inr sent) = absurd (true≢false (sym sent.login ∙ sym (ap is_sent since.login) ∙ ap is_sent is.ready.idle))

-- ---- all of these

pub pauses_on : (granted line : ℕ) (now : Replay) (at : Between) (steps : List LoginStep) (b : Site) (server : EndState) → Starts granted now at → ServerStays at (end_at at b server)
    → Walked granted line at steps b → Pauses at.own.place.own_slots steps b → GoesOn granted now (length at.client.rows) (end_at at b server)
pauses_on granted line now at steps b server starts stays (Resting rests) pauses = rest_pauses granted now at steps b server starts stays rests pauses
pauses_on granted line now at steps b server starts stays (Holding holds) pauses =
    absurd (no_look b.client.held steps (subst IsSome (sym (ap (λ (s : ClientState). s.held) holds.took.0.client)) refl)
    (ap (list_any finds_use) holds.is ∙ holds.rests.counts.unused) pauses.looked)
pauses_on granted line now at steps b server starts stays (Sticking is) pauses = absurd (no_look b.client.held steps is.held is.unused pauses.looked)
pauses_on granted line now at steps b server starts stays (BecameDue before last is) pauses = absurd (began_held granted at steps b before last is pauses.held_up)
pauses_on granted line now at steps b server starts stays (BecameWritten before last is) pauses =
    absurd (wrote_held granted line at steps b before last is pauses.held_up)
pauses_on granted line now at steps b server starts stays (BecamePut last) pauses = put_pauses granted line now at b server last.answer starts stays last.put
