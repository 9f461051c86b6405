-- A login that a plain client writes and puts: what is so between it and its server unit is so behind that, and the login is to come.
use Rattle.std.proofs.Common.{◌≡◌, ◌∙◌, inl, inr, ℕ, ◌≤◌, ◌++◌, false, true≢false, List, [], ◌∷◌, None, length, length-append, refl, sym, ap, subst, arith}
use Rattle.vio_num.specs.Entry.{srp_entry}
use Rattle.crq_session.specs.Answered.{Sends as SendsEntry}
use Rattle.crq_session.specs.declared.answers.SendAnswer.{SendAnswer}
use Rattle.crq_session.specs.declared.answers.SendAnswer.TheVariants as send
use Rattle.srp_iu.specs.declared.unit.Iu.{Iu}
use Rattle.srp_iu.specs.declared.unit.Iu.TheVariants as units
use Rattle.block_server.specs.Ends.{IsGrantable}
use Rattle.vscsi_client.specs.Spans.{no_pages}
use Rattle.vscsi_client.specs.State.{ClientState, IsLoginSlot, next_tag}
use Rattle.vscsi_client.specs.Turned.{IsEntryOf, Puts, WritesLogin, login_due, sent_by}
use Rattle.vscsi_client.specs.Units.{login_request, slot_address}
use Rattle.vscsi_client.specs.declared.TheConstants.{SLOTS}
use Rattle.vscsi_client.specs.declared.row.Row.TheVariants as rows
use Rattle.vscsi_client.specs.declared.stage.Due.{Due}
use Rattle.vscsi_client.specs.declared.stage.Due.TheVariants as dues
use Rattle.vscsi_client.specs.declared.stage.Stage.{Stage}
use Rattle.vscsi_client.specs.declared.stage.Stage.TheVariants.{Idle, Sent, Written}
use Rattle.vcpu_run.proofs.PlainData.{unit_data}
use Rattle.vcpu_run.specs.PlainTalk.{Ask, AskedParts, Between, IsAsk, IsCalm, IsTalking, ServerStays, TalksPlainly, word_of}
use Rattle.vcpu_run.proofs.PlainLogs.{IsFreeFor, SendsLogin, logs_in}
use Rattle.vcpu_run.proofs.PlainPuts.{LeavesUnit, entry_put, unit_laid}
use Rattle.vcpu_run.proofs.PlainRooms.{put_success}
use Rattle.vcpu_run.proofs.PlainSays.{EntryPut, calm_asks}
use Rattle.vcpu_run.proofs.PlainSlots.{keeps_same, unit_said}
use Rattle.vcpu_run.proofs.PlainStarts.{push_places, starts_none}
use Rattle.vcpu_run.proofs.PlainTurns.{come_same}
use Rattle.vcpu_run.proofs.PlainUnits.{canon_some}

-- a slot for a login
pub login_free : (s : ClientState) (slot : ℕ) → IsLoginSlot s slot → (slot ≤ SLOTS) × IsFreeFor s slot
login_free s slot (inl least) = (omega (arith, least.within), inl least.free)
login_free s slot (inr behind) = (omega (arith, behind.1), inr behind.1)

pub login_says : (granted line : ℕ) (at at' : Between) (asked : AskedParts) (answers : List Iu) (mid : ClientState) (answer : SendAnswer) → IsCalm granted at []
    → IsTalking granted at [] asked answers → at.client.tabled ≡ None → at.client.login ≡ Idle → IsGrantable 0 (login_request at.client.id at.client.server (next_tag at.client))
    → (wrote : WritesLogin false line (login_due at.client) mid at.window at'.window) → Puts false mid at'.client at.own at'.own dues.Login answer → ServerStays at at'
    → TalksPlainly granted at' (word_of (record { tag = next_tag at.client; slot = wrote.slot; iu = units.LoginReq (login_request at.client.id at.client.server (next_tag at.client)); bytes = wrote.bytes; pages = no_pages; table = no_pages; start = 0 }) ∷ [])
login_says granted line at at' asked answers mid answer calm talk tabled idle fair wrote puts stays = record {
  calm = calm_asks granted at at' (srp_entry (length wrote.bytes) (slot_address wrote.slot)) (word_of ask) calm put
      (unit_said at'.window ask is_ask unit.stands);
  phase = inr (inr (record { answered = asked.answered; pending = asked.pending; coming = ask ∷ [] }, answers, logs_in granted at at' asked answers ask talk sends));
  tabled = ap (λ (s : ClientState). s.tabled) client ∙ ap (λ (s : ClientState). s.tabled) wrote.client ∙ tabled;
}
  where
    ask : Ask
    ask = record {
      tag = next_tag at.client;
      slot = wrote.slot;
      iu = units.LoginReq (login_request at.client.id at.client.server (next_tag at.client));
      bytes = wrote.bytes;
      pages = no_pages;
      table = no_pages;
      start = 0;
    }

    free : (wrote.slot ≤ SLOTS) × IsFreeFor at.client wrote.slot
    free = login_free (login_due at.client) wrote.slot wrote.unit.slot_is

    is_ask : IsAsk ask
    is_ask = record {
      kind = inl refl;
      tag_is = refl;
      slot_is = free.0;
      below = λ isnt. absurd (true≢false isnt);
      canonical = wrote.unit.canonical;
      fair = fair;
    }

    unit : LeavesUnit wrote.slot wrote.bytes at.window at'.window
    unit = unit_laid line wrote.slot wrote.bytes at.window at.window at'.window (record { own = calm.usable; keeps = keeps_same at.window at.window refl }) free.0
        (canon_some wrote.bytes ask.iu wrote.unit.canonical) wrote.unit.canonical.within wrote.laid.0 wrote.laid.1

    written : mid.login ≡ Written (next_tag at.client) wrote.slot
    written = ap (λ (s : ClientState). s.login) wrote.client

    success : (number : ℕ) × (answer ≡ send.Success number) × SendsEntry false puts.room puts.entry at'.own number
    success = put_success granted at at' puts.room puts.entry answer calm puts.ready.sent puts.ready.place (puts.ready.registered ∙ talk.registered) stays puts.sent

    client : at'.client ≡ sent_by dues.Login puts.others (send.Success success.0) mid
    client = puts.client ∙ ap (λ (a : SendAnswer). sent_by dues.Login puts.others a mid) success.1

    entry : puts.entry ≡ srp_entry (length wrote.bytes) (slot_address wrote.slot)
    entry = subst (λ (stage : Stage). IsEntryOf dues.Login stage puts.entry) written puts.is_entry
        ∙ ap (λ (n : ℕ). srp_entry n (slot_address wrote.slot)) (sym wrote.unit.canonical.unit.exact)

    place : at'.own.place ≡ at.own.place
    place = puts.rest.place ∙ puts.ready.place

    put : EntryPut at at' (srp_entry (length wrote.bytes) (slot_address wrote.slot))
    put = subst (EntryPut at at') entry
        (entry_put at at' puts.room puts.entry calm.ends calm.registered puts.ready.sent success.2.puts place stays unit.own)

    others : puts.others ≡ []
    others = none puts.others (sym puts.first ∙ ap (λ (s : ClientState). s.due) wrote.client ∙ ap (λ (list : List Due). list ++ dues.Login ∷ []) talk.due)
      where
        none : (list : List Due) → dues.Login ∷ list ≡ dues.Login ∷ [] → list ≡ []
        none list e = cc (e)

    stage_sent : (stage : Stage) (tag slot : ℕ) → stage ≡ Written tag slot → (sent_by dues.Login [] (send.Success 0) (record at.client { login = stage })).login ≡ Sent tag slot
    stage_sent (Written t s) tag slot is = cc (is)
    stage_sent (Sent t s) tag slot is = absurd (cc (is))
    stage_sent Idle tag slot is = absurd (cc (is))

    more : at'.client.rows ≡ at.client.rows ++ rows.Login ∷ []
    more = ap (λ (s : ClientState). s.rows) client ∙ ap (λ (s : ClientState). s.rows) wrote.client

    sends : SendsLogin at at' ask
    sends = record {
      unit = stays.unit;
      registered = puts.rest.registered ∙ puts.ready.registered;
      come = come_same at.own at'.own place (puts.rest.last_session ∙ puts.ready.last_session) (puts.rest.taken ∙ puts.ready.taken);
      keeps = unit.keeps;
      tables = unit_data at.window at'.window wrote.slot line wrote.bytes free.0 wrote.unit.canonical.within wrote.laid.0;
      idle = idle;
      free = free.1;
      is_ask = is_ask;
      is_login = refl;
      none = (refl, refl);
      next = refl;
      rows = ap (λ (s : ClientState). length s.rows) client ∙ ap (λ (s : ClientState). length s.rows) wrote.client ∙ length-append at.client.rows (rows.Login ∷ []);
      places = push_places at.client.rows at'.client.rows rows.Login more;
      starts = starts_none at.client.rows at'.client.rows rows.Login ask more refl refl;
      login = ap (λ (s : ClientState). s.login) client ∙ stage_sent mid.login (next_tag at.client) wrote.slot written;
      handshake = ap (λ (s : ClientState). s.handshake) client ∙ ap (λ (s : ClientState). s.handshake) wrote.client;
      due = ap (λ (s : ClientState). s.due) client ∙ others ∙ sym talk.due;
      held = ap (λ (s : ClientState). s.held) client ∙ ap (λ (s : ClientState). s.held) wrote.client;
      kept = ap (λ (s : ClientState). s.kept) client ∙ ap (λ (s : ClientState). s.kept) wrote.client;
      outgoing = ap (λ (s : ClientState). s.outgoing) client ∙ ap (λ (s : ClientState). s.outgoing) wrote.client;
      granted = ap (λ (s : ClientState). s.granted) client ∙ ap (λ (s : ClientState). s.granted) wrote.client;
      logout = ap (λ (s : ClientState). s.logout) client ∙ ap (λ (s : ClientState). s.logout) wrote.client;
    }
