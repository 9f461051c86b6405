-- What is so between a plain client that waits for its login and its server unit, once the client took an entry and looked at it.
use Rattle.std.proofs.Common.{◌≡◌, ◌∙◌, ◌⊎◌, inl, inr, ℕ, ◌++◌, Bool, true, false, List, [], ◌∷◌, Some, append_assoc, is_some, length, not, refl, sym, ap, ap₂, subst, All, filter}
use Rattle.std.specs.Prelude.{⊤}
use Rattle.std.proofs.lemmas.List.Elements.{All-head}
use Rattle.vio_num.specs.declared.entry.Entry.{Entry}
use Rattle.crq_session.specs.EndState.{EndState, OnlyTakes, Rises}
use Rattle.srp_iu.specs.declared.login.LoginRej.{LoginRej}
use Rattle.srp_iu.specs.declared.login.LoginRsp.{LoginRsp}
use Rattle.srp_iu.specs.declared.login.TheConstants.{UNABLE_TO_ESTABLISH_CHANNEL}
use Rattle.srp_iu.specs.declared.unit.Iu.{Iu}
use Rattle.srp_iu.specs.declared.unit.Iu.TheVariants as units
use Rattle.block_server.specs.Talk.{to_come, tag_asked}
use Rattle.block_server.specs.declared.unit.Unit.{Unit}
use Rattle.vscsi_client.specs.Login.{Finds, found_by}
use Rattle.vscsi_client.specs.State.{ClientState}
use Rattle.vscsi_client.specs.Taking.{is_step}
use Rattle.vscsi_client.specs.Turned.{Looks, TakesNext}
use Rattle.vscsi_client.specs.declared.found.Found.{Found}
use Rattle.vscsi_client.specs.declared.found.Found.TheVariants.{Answer, Granted, Rejected}
use Rattle.vscsi_client.specs.declared.stage.Due.{Due}
use Rattle.vcpu_run.proofs.PlainAsks.{all_parts}
use Rattle.vcpu_run.specs.PlainTalk.{Ask, AskedParts, Between, HaveAnswers, IsAsk, IsCalm, IsTalking, IsAnswerBy, ServerStays, is_granted, is_login}
use Rattle.vcpu_run.proofs.PlainEnds.{EndsGranted, IsAmong, IsLast, SaysLast, among, granted_talk, last_is, says_last}
use Rattle.vcpu_run.proofs.PlainFinds.{finds_answer, finds_login, found_in}
use Rattle.vcpu_run.proofs.PlainKeeps.{kept_talk}
use Rattle.vcpu_run.proofs.PlainLooks.{all_about, login_answer, tells_login, tells_other}
use Rattle.vcpu_run.proofs.PlainPuts.{LeavesWindow}
use Rattle.vcpu_run.proofs.PlainRejects.{EndsRejected, rejected_talk}
use Rattle.vcpu_run.proofs.PlainStarts.{same_places}
use Rattle.vcpu_run.proofs.PlainStill.{reads_data, reads_leave}
use Rattle.vcpu_run.proofs.PlainTaking.{poll_come}
use Rattle.vcpu_run.proofs.PlainRejected.{rejection_move}
use Rattle.vcpu_run.specs.PlainRejected.{HasRejection}

-- Either it keeps the entry, or its login was granted, behind which nothing is asked, or rejected, behind which what was answered stays.
pub record KeptOne (granted : ℕ) (at' : Between) (asked : AskedParts) (answers : List Iu) (found : Found) : Type 0 where
  pub found_is : found ≡ Answer
  pub talk : IsTalking granted at' [] asked answers

pub record WasGranted (granted : ℕ) (at at' : Between) (found : Found) : Type 0 where
  pub credits : ℕ
  pub found_is : found ≡ Granted credits
  pub credits_are : credits ≡ granted
  pub off : is_some at.client.granted ≡ false
  pub ends : EndsGranted at at' credits
  pub tabled : at'.client.tabled ≡ at.client.tabled
  pub rows : at'.client.rows ≡ at.client.rows
  pub talk : IsTalking granted at' [] (record { answered = []; pending = []; coming = [] }) []

pub record WasRejected (granted : ℕ) (at at' : Between) (found : Found) : Type 0 where
  pub reason : ℕ
  pub found_is : found ≡ Rejected reason
  pub reason_is : reason ≡ UNABLE_TO_ESTABLISH_CHANNEL
  pub laid : HasRejection at'.unit.id reason at'.window.strokes
  pub on : is_some at.client.granted ≡ true
  pub kept : List Entry
  pub ends : EndsRejected at at' kept
  pub tabled : at'.client.tabled ≡ at.client.tabled
  pub front : List Ask
  pub before : List Iu
  pub talk : IsTalking granted at' [] (record { answered = front; pending = []; coming = [] }) before

abbrev pub LookedAt : (granted : ℕ) → (at at' : Between) → AskedParts → List Iu → Found → Type 0
LookedAt granted at at' asked answers found = KeptOne granted at' asked answers found ⊎ (WasGranted granted at at' found ⊎ WasRejected granted at at' found)

pub some_same : (a b : Entry) → Some a ≡ Some b → a ≡ b
some_same a b e = cc (e)

-- taking one behind room that was made
pub takes_on : (at mid : ClientState) (old new : EndState) → (takes : TakesNext false at mid old new) → OnlyTakes false old new
takes_on at mid old new takes = record {
  place = takes.rest.place ∙ takes.ready.place;
  last_session = takes.rest.last_session ∙ takes.ready.last_session;
  registered = takes.rest.registered ∙ takes.ready.registered;
  kept = takes.rest.kept ∙ takes.ready.kept;
  sent = takes.rest.sent ∙ takes.ready.sent;
  drops = takes.rest.drops ∙ takes.ready.drops;
  counts = subst (λ counts. Rises false counts new.counts) takes.ready.counts takes.rest.counts;
  full = takes.rest.full ∙ ap (λ counts. counts.full) takes.ready.counts;
  closed = takes.rest.closed ∙ ap (λ counts. counts.closed) takes.ready.counts;
  in_use = takes.rest.in_use ∙ ap (λ counts. counts.in_use) takes.ready.counts;
}

pub took_looked : (granted : ℕ) (at at' : Between) (asked : AskedParts) (answers : List Iu) (mid : ClientState) (found : Found) → IsCalm granted at [] → IsTalking granted at [] asked answers
    → TakesNext false at.client mid at.own at'.own → Looks false mid at'.client at.window at'.window found → ServerStays at at' → LookedAt granted at at' asked answers found
took_looked granted at at' asked answers mid found calm talk takes looks stays = by (is_login is.ask.iu) refl
  where
    entry : Entry
    entry = takes.entry

    only : OnlyTakes false at.own at'.own
    only = takes_on at.client mid at.own at'.own takes

    come : to_come at.own ≡ entry ∷ to_come at'.own
    come = poll_come at.own at'.own entry (record { room = takes.room; ready = takes.ready; number = takes.number; taken = takes.taken }) only

    is : IsAmong at.window at.client.kept entry (to_come at'.own) asked.answered answers
    is = among at.window at.client.kept entry (to_come at'.own) asked.answered answers
        (subst (λ (list : List Entry). HaveAnswers at.window (at.client.kept ++ list) asked.answered answers) come talk.answered)

    left : LeavesWindow (λ slot. ⊤) at.window at'.window
    left = reads_leave at.window at'.window calm.usable looks.reads

    same : looks.entry ≡ entry
    same = sym (some_same entry looks.entry (sym (ap (λ (s : ClientState). s.held) takes.client) ∙ looks.held))

    finds : Finds false mid entry at.window at'.window found
    finds = subst (λ (e : Entry). Finds false mid e at.window at'.window found) same looks.finds

    client : at'.client ≡ found_by entry found (record at.client { held = Some entry })
    client = looks.client ∙ ap₂ (λ (e : Entry) (s : ClientState). found_by e found s) same takes.client

    keeps : found ≡ Answer → KeptOne granted at' asked answers found
    keeps answer = record {
      found_is = answer;
      talk = kept_talk granted at at' asked answers talk (record {
        unit = stays.unit;
        registered = only.registered;
        keeps = left.keeps;
        tables = reads_data at.window at'.window looks.reads;
        entries = ap (λ (s : ClientState). s.kept ++ to_come at'.own) now ∙ append_assoc at.client.kept (entry ∷ []) (to_come at'.own)
            ∙ ap (λ (list : List Entry). at.client.kept ++ list) (sym come);
        handshake = ap (λ (s : ClientState). s.handshake) now;
        due = ap (λ (s : ClientState). s.due) now;
        held = ap (λ (s : ClientState). s.held) now ∙ sym talk.held;
        granted = ap (λ (s : ClientState). s.granted) now;
        outgoing = ap (λ (s : ClientState). s.outgoing) now;
        login = ap (λ (s : ClientState). s.login) now;
        logout = ap (λ (s : ClientState). s.logout) now;
        rows = ap (λ (s : ClientState). length s.rows) now;
        places = same_places at.client.rows at'.client.rows (ap (λ (s : ClientState). s.rows) now);
      });
    }
      where
        now : at'.client ≡ found_by entry Answer (record at.client { held = Some entry })
        now = client ∙ ap (λ (f : Found). found_by entry f (record at.client { held = Some entry })) answer

    ends : is_login is.ask.iu ≡ true → WasGranted granted at at' found ⊎ WasRejected granted at at' found
    ends login = at_answer (login_answer is.ask.tag is.ask.iu is.answer login is_tag is.has.suits)
      where
        is_tag : tag_asked is.ask.iu ≡ is.ask.tag
        is_tag = (All-head IsAsk is.ask (is.behind ++ (asked.pending ++ asked.coming))
            (all_parts IsAsk is.front (is.ask ∷ (is.behind ++ (asked.pending ++ asked.coming)))
            (subst (All IsAsk) (all_about at at.client.kept entry (to_come at'.own) asked answers is) talk.each)).1).tag_is

        last : IsLast at asked (to_come at'.own) is.front is.ask
        last = (last_is granted at asked answers at.client.kept entry (to_come at'.own) talk is login).0

        found_is : found ≡ found_in is.answer
        found_is = finds_login mid entry at.window at'.window found is.answer calm.usable
            (tells_login granted at asked answers at.client.kept entry (to_come at'.own) talk is login at'.window left mid (ap (λ (s : ClientState). s.login) takes.client)) finds

        says : SaysLast granted at asked is.answer
        says = says_last granted at asked answers at.client.kept entry (to_come at'.own) talk is login

        no_due : (due : List Due) → due ≡ [] → filter is_step due ≡ []
        no_due due none = ap (filter is_step) none

        at_answer : ((r : LoginRsp) × (is.answer ≡ units.LoginRsp r) × (r.tag ≡ is.ask.tag)) ⊎ ((r : LoginRej) × (is.answer ≡ units.LoginRej r) × (r.tag ≡ is.ask.tag))
            → WasGranted granted at at' found ⊎ WasRejected granted at at' found
        at_answer (inl (r, said, tag_is)) = inl (record {
          credits = r.delta;
          found_is = found_is ∙ ap found_in said;
          credits_are = subst (IsAnswerBy granted at.unit.id at.window) said says.says;
          off = says.known ∙ ap (λ (iu : Iu). not (is_granted iu)) said;
          ends = over;
          tabled = ap (λ (s : ClientState). s.tabled) now;
          rows = ap (λ (s : ClientState). s.rows) now;
          talk = granted_talk granted at at' asked answers at.client.kept entry (to_come at'.own) r talk is login said over;
        })
          where
            now : at'.client ≡ found_by entry (Granted r.delta) (record at.client { held = Some entry })
            now = client ∙ ap (λ (f : Found). found_by entry f (record at.client { held = Some entry })) (found_is ∙ ap found_in said)

            over : EndsGranted at at' r.delta
            over = record {
              unit = stays.unit;
              registered = only.registered;
              come = last.come_none;
              handshake = ap (λ (s : ClientState). s.handshake) now;
              due = ap (λ (s : ClientState). s.due) now ∙ no_due at.client.due talk.due;
              held = ap (λ (s : ClientState). s.held) now;
              granted = ap (λ (s : ClientState). s.granted) now;
              outgoing = ap (λ (s : ClientState). s.outgoing) now;
              login = ap (λ (s : ClientState). s.login) now;
              kept = ap (λ (s : ClientState). s.kept) now;
            }
        at_answer (inr (r, said, tag_is)) = inr (record {
          reason = r.reason;
          found_is = found_is ∙ ap found_in said;
          reason_is = (subst (IsAnswerBy granted at.unit.id at.window) said says.says).0;
          laid = rejection_move at.unit.id at'.unit.id r.reason at.window.strokes at'.window.strokes (ap (λ (u : Unit). u.id) stays.unit) left.keeps.strokes
              (subst (IsAnswerBy granted at.unit.id at.window) said says.says).1;
          on = says.known ∙ ap (λ (iu : Iu). not (is_granted iu)) said;
          kept = at.client.kept;
          ends = over;
          tabled = ap (λ (s : ClientState). s.tabled) now;
          front = is.front;
          before = is.before;
          talk = rejected_talk granted at at' asked answers at.client.kept entry (to_come at'.own) r talk is login said over;
        })
          where
            now : at'.client ≡ found_by entry (Rejected r.reason) (record at.client { held = Some entry })
            now = client ∙ ap (λ (f : Found). found_by entry f (record at.client { held = Some entry })) (found_is ∙ ap found_in said)

            over : EndsRejected at at' at.client.kept
            over = record {
              unit = stays.unit;
              registered = only.registered;
              come = last.come_none;
              keeps = left.keeps;
              handshake = ap (λ (s : ClientState). s.handshake) now;
              due = ap (λ (s : ClientState). s.due) now ∙ no_due at.client.due talk.due;
              held = ap (λ (s : ClientState). s.held) now;
              granted = ap (λ (s : ClientState). s.granted) now;
              outgoing = ap (λ (s : ClientState). s.outgoing) now;
              login = ap (λ (s : ClientState). s.login) now;
              logout = ap (λ (s : ClientState). s.logout) now;
              rows = ap (λ (s : ClientState). length s.rows) now;
              kept_is = ap (λ (s : ClientState). s.kept) now;
            }

    by : (b : Bool) → is_login is.ask.iu ≡ b → LookedAt granted at at' asked answers found
    by true login = inr (ends login)
    by false isnt =
        inl (keeps (finds_answer mid entry at.window at'.window found
        (tells_other granted at asked answers at.client.kept entry (to_come at'.own) talk is isnt mid (ap (λ (s : ClientState). s.outgoing) takes.client)
        (ap (λ (s : ClientState). s.login) takes.client) (ap (λ (s : ClientState). s.kept) takes.client)) finds).0)
