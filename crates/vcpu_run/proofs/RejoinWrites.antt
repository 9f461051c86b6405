-- A client beside a server unit whose session is over, or was, of which nothing more is to come: the unit of its login is written.
use Rattle.std.proofs.Common.{◌≡◌, ◌≢◌, ◌∙◌, ◌⊎◌, inl, inr, ℕ, ◌+◌, ◌≤◌, ◌++◌, ◌||◌, All, Bool, true, false, true≢false, cond, List, [], ◌∷◌, Some, append-nil, append_assoc, length, length-append, refl, sym, ap, subst}
use Rattle.std.specs.List.{list_any}
use Rattle.std.proofs.lemmas.List.Elements.{All-cons, All-head, All-nil, All-push, All-tail}
use Rattle.vio_num.specs.declared.entry.Entry.{Entry}
use Rattle.vio_num.specs.declared.names.UnitId.{UnitId}
use Rattle.crq_session.specs.EndState.{EndState}
use Rattle.crq_session.specs.declared.handshake.Handshake.TheVariants.{Down}
use Rattle.srp_iu.specs.declared.unit.Iu.{Iu}
use Rattle.srp_iu.specs.declared.unit.Iu.TheVariants as units
use Rattle.tce_window.specs.PortState.{PortState}
use Rattle.block_server.specs.Doings.{Doing}
use Rattle.block_server.specs.Talk.{to_come}
use Rattle.vscsi_client.specs.Ports.{MeetsUse, unit_write}
use Rattle.vscsi_client.specs.Sending.{task_of}
use Rattle.vscsi_client.specs.Spans.{no_pages}
use Rattle.vscsi_client.specs.State.{ClientState, is_asked, is_slot, next_tag, stage_uses}
use Rattle.vscsi_client.specs.Turned.{IsFirst, SameHands, Site, Steps, WritesLogin, written_at}
use Rattle.vscsi_client.specs.Turned.LoginStep.{NotWritten, Wrote}
use Rattle.vscsi_client.specs.Units.{login_request, slot_address}
use Rattle.vscsi_client.specs.declared.TheConstants.{SLOTS}
use Rattle.vscsi_client.specs.declared.outgoing.Outgoing.{Outgoing}
use Rattle.vscsi_client.specs.declared.row.Row.TheVariants as rows
use Rattle.vscsi_client.specs.declared.stage.Due.{Due}
use Rattle.vscsi_client.specs.declared.stage.Due.TheVariants as dues
use Rattle.vscsi_client.specs.declared.stage.Stage.{Stage}
use Rattle.vscsi_client.specs.declared.stage.Stage.TheVariants.{Idle, Sent, Written}
use Rattle.vcpu_run.specs.OwnOver.{IsAnew, IsOwed, IsShut, Joins, LoginLast, LoginShows, Stirs, WillHear, answers_among, is_login_due, is_under_way, stream_of, under_way}
use Rattle.vcpu_run.specs.PlainTalk.{AreApart, Ask, IsAsk, TagsRise, has_login, is_login, is_logout, names_of}
use Rattle.vcpu_run.proofs.RejoinBegins.{PutsIn, PutsOn, kept_gone, kept_phase, stream_kept}
use Rattle.vcpu_run.proofs.RejoinEnded.{ends_still, stale_window, with_window}
use Rattle.vcpu_run.proofs.RejoinPhases.{PhaseOver, off_on}
use Rattle.vcpu_run.proofs.RejoinSteps.{NextIn, rest_come}
use Rattle.vcpu_run.proofs.OwnStreams.{AreSrp}
use Rattle.vcpu_run.proofs.PlainAsks.{all_parts, apart_push, free_outgoing, login_parts, names_push}
use Rattle.vcpu_run.proofs.PlainDues.{idle_is}
use Rattle.vcpu_run.proofs.PlainLists.{login_push, rise_push}
use Rattle.vcpu_run.proofs.PlainLogin.{login_free}
use Rattle.vcpu_run.proofs.PlainLogs.{IsFreeFor, free_asks}
use Rattle.vcpu_run.proofs.PlainPauses.{client_fair}
use Rattle.vcpu_run.proofs.PlainPuts.{LeavesUnit, unit_laid}
use Rattle.vcpu_run.proofs.PlainRejected.{says_move}
use Rattle.vcpu_run.proofs.PlainServed.{answers_move}
use Rattle.vcpu_run.proofs.PlainSlots.{keeps_same}
use Rattle.vcpu_run.proofs.PlainUnits.{canon_some}
use Rattle.vcpu_run.proofs.PlainUnsent.{none_in_use}

-- ---- what is asked then

-- the login of a client, in this slot
abbrev pub login_ask : ClientState → (slot : ℕ) → (bytes : List ℕ) → Ask
login_ask s slot bytes = record {
  tag = next_tag s;
  slot = slot;
  iu = units.LoginReq (login_request s.id s.server (next_tag s));
  bytes = bytes;
  pages = no_pages;
  table = no_pages;
  start = 0;
}

last_push : (asked : List Ask) (ask : Ask) → has_login asked ≡ false → LoginLast (asked ++ ask ∷ [])
last_push [] ask none = (λ is. refl, tt)
last_push (first ∷ asked) ask none = by (is_login first.iu) refl none (λ more. last_push asked ask more)
  where
    by : (b : Bool) → is_login first.iu ≡ b → cond b true (has_login asked) ≡ false → (has_login asked ≡ false → LoginLast (asked ++ ask ∷ [])) → LoginLast (first ∷ (asked ++ ask ∷ []))
    by true is none rest = absurd (true≢false none)
    by false isnt none rest = (λ is. absurd (true≢false (sym is ∙ isnt)), rest none)

shows_push : (window : PortState) (tag slot : ℕ) (lost : List Ask) (ask : Ask) → All (λ (one : Ask). one.slot ≢ slot) lost → LoginShows window (Written tag slot) ask
    → All (LoginShows window (Written tag slot)) (lost ++ ask ∷ [])
shows_push window tag slot [] ask apart shows = All-cons (LoginShows window (Written tag slot)) ask [] shows (All-nil (LoginShows window (Written tag slot)))
shows_push window tag slot (first ∷ lost) ask apart shows =
    All-cons (LoginShows window (Written tag slot)) first (lost ++ ask ∷ []) (λ same. absurd (All-head (λ (one : Ask). one.slot ≢ slot) first lost apart same))
    (shows_push window tag slot lost ask (All-tail (λ (one : Ask). one.slot ≢ slot) first lost apart) shows)

written_owed : (granted : ℕ) (id : UnitId) (old new : PortState) (s : ClientState) (slot : ℕ) (bytes : List ℕ) (stream : List Entry) (answered lost : List Ask) (answers : List Iu)
    → IsOwed granted id old s stream answered lost answers → s.login ≡ Idle → (slot ≤ SLOTS) × IsFreeFor s slot → IsAsk (login_ask s slot bytes) → LeavesUnit slot bytes old new
    → IsOwed granted id new (written_at slot s) stream answered (lost ++ login_ask s slot bytes ∷ []) answers
written_owed granted id old new s slot bytes stream answered lost answers owed idle free is_ask unit = record {
  each = subst (All IsAsk) all_is (All-push IsAsk (answered ++ lost) (login_ask s slot bytes) owed.each is_ask);
  slots = subst AreApart all_is (apart_push (answered ++ lost) (login_ask s slot bytes) owed.slots apart);
  tags = subst (λ (n : ℕ). TagsRise n (answered ++ (lost ++ login_ask s slot bytes ∷ []))) (sym (length-append s.rows (rows.Login ∷ [])))
      (subst (TagsRise (length s.rows + 1)) all_is (rise_push (length s.rows) (answered ++ lost) (login_ask s slot bytes) owed.tags refl));
  order = subst LoginLast all_is (last_push (answered ++ lost) (login_ask s slot bytes) no_login);
  told = answers_move old new (λ other. other ≢ slot) unit.keeps (answers_among stream) answered answers
      (all_parts (λ (one : Ask). one.slot ≢ slot) answered lost apart).0 (all_parts IsAsk answered lost owed.each).0 owed.told;
  news = owed.news;
  behind = owed.behind;
  awaited = ap names_of (sym all_is) ∙ names_push (answered ++ lost) (login_ask s slot bytes) refl
      ∙ ap (λ (names : List Outgoing). names ++ task_of (next_tag s) slot ∷ []) names;
  logouts = subst (All (λ one. is_logout one.iu ≡ true → s.logout ≡ Some one.slot)) all_is
      (All-push (λ (one : Ask). is_logout one.iu ≡ true → s.logout ≡ Some one.slot) (answered ++ lost) (login_ask s slot bytes) owed.logouts (λ logout. absurd (true≢false (sym logout))));
  sent = ap has_login (sym all_is) ∙ login_push (answered ++ lost) (login_ask s slot bytes) no_login;
  written = shows_push new (next_tag s) slot lost (login_ask s slot bytes) (all_parts (λ (one : Ask). one.slot ≢ slot) answered lost apart).1 (λ same. unit.stands);
  unanswered = (login_parts answered lost no_login).0;
  none = owed.none;
  within = owed.within;
  credits = owed.credits;
  grant = says_move granted id id old new refl unit.keeps.unit unit.keeps.strokes answers owed.grant;
}
  where
    all_is : (answered ++ lost) ++ login_ask s slot bytes ∷ [] ≡ answered ++ (lost ++ login_ask s slot bytes ∷ [])
    all_is = append_assoc answered lost (login_ask s slot bytes ∷ [])

    no_login : has_login (answered ++ lost) ≡ false
    no_login = owed.sent ∙ ap is_under_way idle

    names : names_of (answered ++ lost) ≡ s.outgoing
    names = owed.awaited ∙ ap (λ (stage : Stage). s.outgoing ++ under_way stage) idle ∙ append-nil s.outgoing

    front_false : (a b : Bool) → (a || b) ≡ false → a ≡ false
    front_false true b e = absurd (true≢false e)
    front_false false b e = refl

    apart : All (λ (one : Ask). one.slot ≢ slot) (answered ++ lost)
    apart = free_asks s slot (answered ++ lost) s.outgoing names free.1 owed.each no_login owed.logouts
        (λ unused. free_outgoing s.outgoing slot (front_false (is_asked s.outgoing slot) (stage_uses s.login slot || is_slot s.logout slot) unused))

-- ---- where both stand then

first_due : (due : List Due) → IsFirst dues.Login due → list_any is_login_due due ≡ true
first_due [] is = absurd is
first_due (first ∷ due) is = ap (λ (d : Due). is_login_due d || list_any is_login_due due) is

written_anew : (d : Doing) (window : PortState) (slot : ℕ) (s : ClientState) (own : EndState) (stream : List Entry) → own.registered ≡ true → list_any is_login_due s.due ≡ true
    → IsAnew d s own stream → IsAnew (with_window window d) (written_at slot s) own stream
written_anew d window slot s own stream there due anew = record {
  idle = record { current = anew.idle.current; pending = anew.idle.pending; stage = anew.idle.stage };
  kept = anew.kept;
  queue = anew.queue;
  unsent = λ on tag other is. cc (is);
  first = anew.first;
  stirs = λ on waits. by (anew.stirs on waits);
  logging = λ on logs. let was = anew.logging on (inl due) in record { up = was.up; complete = was.complete; entry = was.entry; last = was.last };
}
  where
    by : Stirs d s stream → Stirs (with_window window d) (written_at slot s) stream
    by (inl news) = inl news
    by (inr (inl kept)) = inr (inl kept)
    by (inr (inr (inl coming))) = inr (inr (inl coming))
    by (inr (inr (inr one))) = inr (inr (inr one))

written_shut : (d : Doing) (window : PortState) (slot : ℕ) (s : ClientState) (own : EndState) → own.registered ≡ true → AreSrp s.kept → list_any is_login_due s.due ≡ true
    → IsShut d s own (s.kept ++ []) → IsShut (with_window window d) (written_at slot s) own (s.kept ++ [])
written_shut d window slot s own there are due shut = record {
  over = shut.over;
  idle = record { current = shut.idle.current; pending = shut.idle.pending; stage = shut.idle.stage };
  kept = shut.kept;
  event = shut.event;
  told = by shut.told;
}
  where
    by : (d.handshake ≢ Down) ⊎ WillHear d s own (s.kept ++ []) → (d.handshake ≢ Down) ⊎ WillHear (with_window window d) (written_at slot s) own (s.kept ++ [])
    by (inl up) = inl up
    by (inr (inl off)) = absurd (off_on own there off)
    by (inr (inr (inl (gone, behind)))) = absurd (kept_gone s.kept are gone)
    by (inr (inr (inr (inl event)))) = inr (inr (inr (inl event)))
    by (inr (inr (inr (inr fresh)))) = absurd (true≢false (sym due ∙ fresh.due))

written_phase : (granted : ℕ) (d : Doing) (window : PortState) (slot : ℕ) (s : ClientState) (own : EndState) (answered lost lost' : List Ask) → own.registered ≡ true → AreSrp s.kept
    → s.login ≡ Idle → list_any is_login_due s.due ≡ true → PhaseOver granted d s own (s.kept ++ []) answered lost
    → PhaseOver granted (with_window window d) (written_at slot s) own (s.kept ++ []) answered lost'
written_phase granted d window slot s own answered lost lost' there are idle due (inl shut) = inl (written_shut d window slot s own there are due shut)
written_phase granted d window slot s own answered lost lost' there are idle due (inr (inl stale)) = inr (inl (stale_window d window stale))
written_phase granted d window slot s own answered lost lost' there are idle due (inr (inr (inl un))) = absurd (kept_gone s.kept are un.gone)
written_phase granted d window slot s own answered lost lost' there are idle due (inr (inr (inr joins))) = inr (inr (inr (record {
  going = joins.going;
  event = joins.event;
  open_is = joins.open_is;
  none_gone = joins.none_gone;
  aware = λ on. let aware = joins.aware on in record { granted = aware.granted; outgoing = aware.outgoing; logout = aware.logout; kept = aware.kept };
  there = inl there;
  how = by joins.how;
})))
  where
    no_stage : (tag slot' : ℕ) → s.login ≡ Sent tag slot' → ⊥
    no_stage tag slot' is = cc (is, idle)

    by : IsAnew d s own (s.kept ++ []) ⊎ Joins granted d s own (s.kept ++ []) answered lost
        → IsAnew (with_window window d) (written_at slot s) own (s.kept ++ []) ⊎ Joins granted (with_window window d) (written_at slot s) own (s.kept ++ []) answered lost'
    by (inl anew) = inl (written_anew d window slot s own (s.kept ++ []) there due anew)
    by (inr asked) = absurd (no_stage asked.ask.tag asked.ask.slot asked.has.login)

-- ---- the steps

pub over_writes : (promised : Bool) (granted line : ℕ) (d : Doing) (a b : Site) → PutsIn promised granted d a → Steps line Wrote a b → SameHands a b → PutsOn promised granted d a b
over_writes promised granted line d a b puts wrote hands = record {
  steps = ends_still promised promised granted d a b puts.stands hands wrote.2 unit.own (subst (λ (s : ClientState). NextIn promised granted (with_window b.at.own d) s a.at.crq) (sym writes.client) next);
  none = ap to_come wrote.2 ∙ puts.none;
  held = ap (λ (s : ClientState). s.held) writes.client ∙ puts.held;
}
  where
    writes : WritesLogin false line a.client b.client a.at.own b.at.own
    writes = subst (λ shared. WritesLogin shared line a.client b.client a.at.own b.at.own) puts.stands.seen.apart wrote.1

    idle : a.client.login ≡ Idle
    idle = idle_is a.client.login wrote.0.idle

    free : (writes.slot ≤ SLOTS) × IsFreeFor a.client writes.slot
    free = login_free a.client writes.slot writes.unit.slot_is

    unit : LeavesUnit writes.slot writes.bytes d.client b.at.own
    unit = subst (λ (window : PortState). LeavesUnit writes.slot writes.bytes window b.at.own) (sym puts.stands.seen.window)
        (unit_laid line writes.slot writes.bytes a.at.own a.at.own b.at.own (record { own = puts.stands.seen.usable; keeps = keeps_same a.at.own a.at.own refl }) free.0
        (canon_some writes.bytes (units.LoginReq (login_request a.client.id a.client.server (next_tag a.client))) writes.unit.canonical) writes.unit.canonical.within writes.laid.0 writes.laid.1)

    is_ask : IsAsk (login_ask a.client writes.slot writes.bytes)
    is_ask = record {
      kind = inl refl;
      tag_is = refl;
      slot_is = free.0;
      below = λ isnt. absurd (true≢false isnt);
      canonical = writes.unit.canonical;
      fair = client_fair a.client.id a.client.server (next_tag a.client);
    }

    same : stream_of a.client puts.stands.over.rest ≡ stream_of (written_at writes.slot a.client) (to_come a.at.crq)
    same = ap (λ (rest : List Entry). stream_of a.client rest) (rest_come promised granted d a puts.stands)

    next : NextIn promised granted (with_window b.at.own d) (written_at writes.slot a.client) a.at.crq
    next = record {
      answered = puts.stands.over.answered;
      lost = puts.stands.over.lost ++ login_ask a.client writes.slot writes.bytes ∷ [];
      answers = puts.stands.over.answers;
      rest = to_come a.at.crq;
      come = refl;
      owed = subst (λ (list : List Entry). IsOwed granted d.id b.at.own (written_at writes.slot a.client) list puts.stands.over.answered
          (puts.stands.over.lost ++ login_ask a.client writes.slot writes.bytes ∷ []) puts.stands.over.answers) same
          (written_owed granted d.id d.client b.at.own a.client writes.slot writes.bytes (stream_of a.client puts.stands.over.rest) puts.stands.over.answered puts.stands.over.lost
          puts.stands.over.answers puts.stands.over.owed idle free is_ask unit);
      there = puts.stands.over.there puts.stands.registered;
      tabled = puts.stands.over.tabled;
      on = λ current. puts.stands.over.on puts.stands.registered current;
      phase = subst (λ (list : List Entry). PhaseOver granted (with_window b.at.own d) (written_at writes.slot a.client) a.at.crq list puts.stands.over.answered
          (puts.stands.over.lost ++ login_ask a.client writes.slot writes.bytes ∷ [])) (sym (stream_kept promised granted d a puts) ∙ same)
          (written_phase granted d b.at.own writes.slot a.client a.at.crq puts.stands.over.answered puts.stands.over.lost
          (puts.stands.over.lost ++ login_ask a.client writes.slot writes.bytes ∷ []) puts.stands.registered puts.stands.kept idle (first_due a.client.due wrote.0.first)
          (kept_phase promised granted d a puts));
      kept = puts.stands.kept;
      logout = puts.stands.logout;
      fewer = puts.stands.fewer;
    }

-- no page of it is in use
pub over_unwritten : (promised : Bool) (granted line page word : ℕ) (d : Doing) (a b : Site) → PutsIn promised granted d a → Steps line (NotWritten page word) a b → ⊥
over_unwritten promised granted line page word d a b puts not' =
    none_in_use a.at.own (slot_address not'.1.slot) (length not'.1.bytes) page puts.stands.seen.usable
    (subst (λ shared. MeetsUse shared (unit_write not'.1.slot not'.1.bytes) a.at.own b.at.own page) puts.stands.seen.apart not'.1.meets).in_use
