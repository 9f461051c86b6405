-- A command of a client whose server unit's session is over, or was, while no login is under way: whatever comes of it, it stays so.
use Rattle.std.proofs.Common.{◌≡◌, ◌≢◌, ◌∙◌, ◌⊎◌, inl, inr, ℕ, ◌+◌, ◌<◌, ◌≤◌, ◌++◌, Bool, true, false, true≢false, cond, IfSome, List, [], ◌∷◌, Option, Some, None, Result, Ok, Err, length, length-append, min, refl, sym, ap, subst, arith}
use Rattle.srp_iu.specs.declared.unit.Iu.TheVariants as units
use Rattle.block_server.specs.Doings.{Doing}
use Rattle.vscsi_client.specs.Ports.{LaysAll, Ports, WhyNotWritten}
use Rattle.vscsi_client.specs.Sending.{Submitted, TableReady, UnitNotPut, refused_by, table_writes, tabled_by}
use Rattle.vscsi_client.specs.Spans.{data_span, first_sharing, op_in_range, table_span}
use Rattle.vscsi_client.specs.State.{ClientState, next_tag}
use Rattle.vscsi_client.specs.declared.TheConstants.{SLOTS}
use Rattle.vscsi_client.specs.declared.answers.Refused.{Refused}
use Rattle.vscsi_client.specs.declared.answers.Refused.TheVariants.{NoMemory, Range}
use Rattle.vscsi_client.specs.declared.op.Op.{Op}
use Rattle.vscsi_client.specs.declared.outgoing.Outgoing.{Outgoing}
use Rattle.vscsi_client.specs.declared.row.Row.{Row}
use Rattle.vscsi_client.specs.declared.table.Table.{Table}
use Rattle.vcpu_run.specs.Acts.{Acting, RefusesOp, SubmitsAs}
use Rattle.vcpu_run.specs.PlainTalk.{Ask, IsAsk, is_counted, is_logout, name_of}
use Rattle.vcpu_run.proofs.OwnActAnswers.{KeepsOver}
use Rattle.vcpu_run.proofs.OwnActAsking.{AskedOne, Asking, BeforeUnit, LaidAlone, asks_nothing, asks_put, asks_unput, laid_alone}
use Rattle.vcpu_run.proofs.PlainCommands.{in_range_is}
use Rattle.vcpu_run.proofs.PlainLists.{counted_no_login, logout_not_counted}
use Rattle.vcpu_run.proofs.PlainPuts.{tables_leave}
use Rattle.vcpu_run.proofs.PlainSent.{lends, slot_free, within_range}
use Rattle.vcpu_run.proofs.PlainUnits.{canon_some}
use Rattle.vcpu_run.proofs.PlainUnsent.{not_written}

-- ---- one request more that a login grants

-- what it leaves of the client
pub record Grows (s s' : ClientState) (o : Outgoing) : Type 0 where
  pub rows : length s'.rows ≡ length s.rows + 1
  pub outgoing : s'.outgoing ≡ s.outgoing ++ o ∷ []
  pub login : s'.login ≡ s.login
  pub logout : s'.logout ≡ s.logout
  pub granted : s'.granted ≡ s.granted
  pub handshake : s'.handshake ≡ s.handshake
  pub due : s'.due ≡ s.due
  pub kept : s'.kept ≡ s.kept
  pub held : s'.held ≡ s.held
  pub tabled : s'.tabled ≡ None

grant_within : (granted n : ℕ) (known : Option ℕ) → known ≡ Some n → (known ≡ None) ⊎ (known ≡ Some (min granted 200)) → n ≤ 200
grant_within granted n known some (inl none) = absurd (cc (some, none))
grant_within granted n known some (inr is) = omega (arith, same (sym some ∙ is))
  where
    same : Some n ≡ Some (min granted 200) → n ≡ min granted 200
    same e = cc (e)

pub grows_asked : (granted : ℕ) (failed : Bool) (d : Doing) (s s' : ClientState) (old new : Ports) (ask : Ask) → Asking granted failed d s old new
    → (n : ℕ) × (s.granted ≡ Some n) × (length s.outgoing < n) → IsAsk ask → is_counted ask.iu ≡ true → ask.tag ≡ next_tag s → Grows s s' (name_of ask) → AskedOne granted s s' ask
grows_asked granted failed d s s' old new ask at lent is counted tag grows = record {
  more = record {
    is_ask = is;
    plain = counted_no_login ask.iu counted;
    next = tag;
    rows = grows.rows;
    login = grows.login;
    names = grows.outgoing ∙ ap (λ (names : List Outgoing). s.outgoing ++ names) (sym (ap (λ b. cond b [] (name_of ask ∷ [])) no_logout));
    before = λ one was out. grows.logout ∙ was out;
    logout = λ out. absurd (true≢false (sym out ∙ no_logout));
    none = λ off. absurd (no_grant (sym off ∙ grows.granted ∙ lent.1));
    within = subst (λ (list : List Outgoing). length list ≤ 200) (sym grows.outgoing)
        (omega (arith, length-append s.outgoing (name_of ask ∷ []), lent.2, grant_within granted lent.0 s.granted lent.1 at.over.owed.credits));
    credits = subst (λ (known : Option ℕ). (known ≡ None) ⊎ (known ≡ Some (min granted 200))) (sym grows.granted) at.over.owed.credits;
  };
  known = (lent.0, lent.1);
  handshake = grows.handshake;
  due = grows.due;
  kept = grows.kept;
  held = grows.held;
  tabled = grows.tabled;
  logout = subst (λ (known : Option ℕ). IfSome known (λ _. s'.logout ≡ None)) (sym grows.granted)
      (subst (λ (slot : Option ℕ). IfSome s.granted (λ _. slot ≡ None)) (sym grows.logout) at.settled.logout);
}
  where
    no_logout : is_logout ask.iu ≡ false
    no_logout = logout_not_counted ask.iu counted

    no_grant : None ≡ Some lent.0 → ⊥
    no_grant e = cc (e)

pub rows_more : (rows : List Row) (row : Row) (new : List Row) → new ≡ rows ++ row ∷ [] → length new ≡ length rows + 1
rows_more rows row new is = ap (λ (list : List Row). length list) is ∙ length-append rows (row ∷ [])

-- ---- a command

-- what stands before its unit is written: room was made, and its table lies there
command_before : (granted : ℕ) (failed : Bool) (line : ℕ) (op : Op) (d : Doing) (s : ClientState) (old before new : Ports) → Asking granted failed d s old new
    → op_in_range old.own.place.size op ≡ true → TableReady line op s old before → BeforeUnit old before
command_before granted failed line op d s old before new at inside ready = record {
  crq_alone = ready.crq_shared ∙ at.sends.seen.alone;
  own_alone = ready.own_shared ∙ at.sends.seen.apart;
  room = ready.crq;
  left = tables_leave line op s old.own.place.size old.own before.own at.sends.seen.usable inside
      (subst (λ shared. LaysAll shared line (table_writes line op s) old.own before.own) at.sends.seen.apart ready.own);
}

submitted_over : (granted : ℕ) (failed : Bool) (line : ℕ) (op : Op) (d : Doing) (s s' : ClientState) (old new : Ports) (tag : ℕ) → Asking granted failed d s old new
    → Submitted line op s s' old new tag → KeepsOver granted failed d s' old new
submitted_over granted failed line op d s s' old new tag at sub =
    asks_put granted failed d s s' old sub.before new line ask at (grows_asked granted failed d s s' old new ask at lent is_ask refl refl grows) sub.put.1.1
    (command_before granted failed line op d s old sub.before new at inside sub.ready) is_ask.slot_is (canon_some sub.put.0 (units.Cmd sub.command) sub.put.1.0) sub.put.1.0.within sub.put.2
  where
    why : Option Refused
    why = refused_by s.granted (length s.outgoing) (first_sharing op s.outgoing)

    inside : op_in_range old.own.place.size op ≡ true
    inside = in_range_is (op_in_range old.own.place.size op) why sub.allowed

    lent : (n : ℕ) × (s.granted ≡ Some n) × (length s.outgoing < n)
    lent = lends s.granted (length s.outgoing) (first_sharing op s.outgoing) (within_range (op_in_range old.own.place.size op) why sub.allowed)

    ask : Ask
    ask = record { tag = next_tag s; slot = sub.slot; iu = units.Cmd sub.command; bytes = sub.put.0; pages = data_span op; table = table_span op; start = op.at }

    below : sub.slot < SLOTS
    below = (slot_free s sub.slot at.idle sub.put.1.1).0

    is_ask : IsAsk ask
    is_ask = record {
      kind = inr (inr refl);
      tag_is = sub.is_command.tag_is;
      slot_is = omega (arith, below);
      below = λ isnt. below;
      canonical = sub.put.1.0;
      fair = tt;
    }

    grows : Grows s s' (name_of ask)
    grows = record {
      rows = rows_more s.rows _ s'.rows (ap (λ (s : ClientState). s.rows) sub.client);
      outgoing = ap (λ (s : ClientState). s.outgoing) sub.client;
      login = ap (λ (s : ClientState). s.login) sub.client;
      logout = ap (λ (s : ClientState). s.logout) sub.client;
      granted = ap (λ (s : ClientState). s.granted) sub.client;
      handshake = ap (λ (s : ClientState). s.handshake) sub.client;
      due = ap (λ (s : ClientState). s.due) sub.client;
      kept = ap (λ (s : ClientState). s.kept) sub.client;
      held = ap (λ (s : ClientState). s.held) sub.client;
      tabled = ap (λ (s : ClientState). s.tabled) sub.client;
    }

-- a client that stays is as it was
pub keeps_client : (granted : ℕ) (failed : Bool) (d : Doing) (s s' : ClientState) (old new : Ports) → s' ≡ s → KeepsOver granted failed d s old new → KeepsOver granted failed d s' old new
keeps_client granted failed d s s' old new same keeps = subst (λ (s : ClientState). KeepsOver granted failed d s old new) (sym same) keeps

unput_over : (granted : ℕ) (failed : Bool) (line : ℕ) (op : Op) (d : Doing) (s s' : ClientState) (old new : Ports) (why : Refused) → Asking granted failed d s old new → why ≢ NoMemory
    → cond (op_in_range old.own.place.size op) (refused_by s.granted (length s.outgoing) (first_sharing op s.outgoing)) (Some Range) ≡ None
    → UnitNotPut line op s s' old new why → KeepsOver granted failed d s' old new
unput_over granted failed line op d s s' old new why at memory allowed sub =
    keeps_client granted failed d s s' old new same
    (asks_unput granted failed d s old sub.before new line slot lent.0 bytes why at lent.1 sub.why_not.2.1 room (omega (arith, below)) (canon_some bytes (units.Cmd sub.command) sub.why_not.2.0)
    sub.why_not.2.0.within alone)
  where
    refused : Option Refused
    refused = refused_by s.granted (length s.outgoing) (first_sharing op s.outgoing)

    slot : ℕ
    slot = sub.why_not.0

    bytes : List ℕ
    bytes = sub.why_not.1

    lent : (n : ℕ) × (s.granted ≡ Some n) × (length s.outgoing < n)
    lent = lends s.granted (length s.outgoing) (first_sharing op s.outgoing) (within_range (op_in_range old.own.place.size op) refused allowed)

    below : slot < SLOTS
    below = (slot_free s slot at.idle sub.why_not.2.1).0

    room : BeforeUnit old sub.before
    room = command_before granted failed line op d s old sub.before new at (in_range_is (op_in_range old.own.place.size op) refused allowed) sub.ready

    alone : LaidAlone line slot bytes sub.before new why
    alone = laid_alone line slot bytes sub.before new why room.left.own room.own_alone memory sub.why_not.3

    same : s' ≡ s
    same = sub.client ∙ ap (λ (table : Option Table). record s { tabled = table }) (alone.tabled (tabled_by line op op.table s.tabled) ∙ sym at.over.tabled)

refused_over : (granted : ℕ) (failed : Bool) (line : ℕ) (op : Op) (d : Doing) (old new : Acting) (why : Refused) → Asking granted failed d old.client old.ports new.ports → why ≢ NoMemory
    → RefusesOp line op old new why → KeepsOver granted failed d new.client old.ports new.ports
refused_over granted failed line op d old new why at memory (inl refused) =
    keeps_client granted failed d old.client new.client old.ports new.ports refused.2 (asks_nothing granted failed d old.client old.ports new.ports at refused.1)
refused_over granted failed line op d old new why at memory (inr (allowed, inl tabled)) =
    absurd (memory (not_written (table_writes line op old.client) old.ports.own new.ports.own why at.sends.seen.usable
    (subst (λ shared. WhyNotWritten shared (table_writes line op old.client) old.ports.own new.ports.own why) at.sends.seen.apart tabled.why_not)))
refused_over granted failed line op d old new why at memory (inr (allowed, inr unput)) =
    unput_over granted failed line op d old.client new.client old.ports new.ports why at memory allowed unput

pub submits_over : (granted : ℕ) (failed : Bool) (line : ℕ) (op : Op) (d : Doing) (old new : Acting) (answer : Result ℕ Refused) → Asking granted failed d old.client old.ports new.ports
    → answer ≢ Err NoMemory → SubmitsAs line op old new answer → KeepsOver granted failed d new.client old.ports new.ports
submits_over granted failed line op d old new (Ok tag) at memory sub = submitted_over granted failed line op d old.client new.client old.ports new.ports tag at sub
submits_over granted failed line op d old new (Err why) at memory refused =
    refused_over granted failed line op d old new why at (λ is. memory (ap (λ (x : Refused). Err x) is)) refused
