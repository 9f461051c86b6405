-- What a client's calls leave of its end, its window and its driver, and steps one behind the other.
use Rattle.std.proofs.Common.{◌≡◌, ◌∙◌, ℕ, Bool, true, false, None, Option, Some, Result, Err, IfSome, IfOk, IfErr, OnErr, refl, sym, ap, subst}
use Rattle.vio_num.specs.declared.memory.NoMemory.{NoMemory}
use Rattle.vio_num.specs.Entry.{partner_freed}
use Rattle.crq_session.specs.Answered.{TellsFreed}
use Rattle.crq_session.specs.EndState.{EndPlace, EndState, OnlyFrees, OnlyReserves, OnlySends, OnlyTakes}
use Rattle.tce_window.specs.PortState.{PortState, OnlyReads, OnlyWrites}
use Rattle.vscsi_client.specs.declared.answers.LoginTurn.{LoginTurn}
use Rattle.vscsi_client.specs.declared.answers.Refused.{Refused}
use Rattle.vscsi_client.specs.declared.answers.Taken.{Taken}
use Rattle.vscsi_client.specs.declared.op.Op.{Op}
use Rattle.vscsi_client.specs.Frames.{OnlyTurns}
use Rattle.vscsi_client.specs.State.{ClientState}
use Rattle.vscsi_client.specs.Ports.{ports}
use Rattle.vscsi_client.specs.Sending.{Submitted, WhyNotSubmitted, Tasked, LoggedOut, WhyNotSent, command_refusal, task_refusal, logout_refusal, task_unit, logout_unit}
use Rattle.vscsi_client.specs.Taking.{TakesEntry, TakesLater}
use Rattle.vscsi_client.specs.Transferred.{FitRows}
use Rattle.vscsi_client.specs.Turned.{site, unlinked, Turned}
use Rattle.vscsi_client.specs.Units.{FitsOp}
use Rattle.vcpu_run.specs.declared.driver.Driver.{Driver}
use Rattle.vcpu_run.specs.AnswersSeen.{AreResponsesRead, fronts_of}
use Rattle.vcpu_run.specs.Freed.{FreesNone}
use Rattle.vcpu_run.specs.Announces.{Announces}
use Rattle.vcpu_run.specs.Works.{LaysBy, Works}
use Rattle.vcpu_run.proofs.AnswersSeen.{responses_keep}
use Rattle.vcpu_run.proofs.Announcing.{frees_none, puts_freed, puts_none, puts_on, puts_reserves, puts_same, turn_frees}
use Rattle.vcpu_run.proofs.DropsStay.{stay_same}
use Rattle.vcpu_run.proofs.TurnsPut.{turn_puts}
use Rattle.vcpu_run.proofs.Calls.{submit_grows, submit_fits, task_grows, task_fits, logout_grows, logout_fits, turn_grows, turn_fits, take_fits}
use Rattle.vcpu_run.proofs.Announcing.{both_bools}
use Rattle.vcpu_run.specs.EventsPut.{MakesNoEvent}
use Rattle.vcpu_run.proofs.Calming.{calm_on, calm_ready, calm_same, turn_calm}
use Rattle.vcpu_run.proofs.Reached.{KeepsBlank, blank_as, blank_same, logout_blank, reaches_by, submit_blank, take_blank, task_blank, turn_reaches}
use Rattle.vcpu_run.proofs.Requesting.{logout_more, puts_sends, sends_calm, submit_more, task_more}
use Rattle.unit_region.specs.Kept.{KeepsWindow}
use Rattle.unit_region.proofs.Laws.{keeps_on, keeps_reads, keeps_same, keeps_writes, none_under}
use Rattle.vcpu_run.specs.ClientSlots.{HoldsSlots}
use Rattle.vcpu_run.proofs.SlotsKept.{logout_slots, slots_same, submit_slots, take_slots, task_slots, turn_slots}
use Rattle.vcpu_run.proofs.CallsLay.{logout_lays, none_laid_then, reads_none_laid, same_none_laid, submit_lays, task_lays, turn_lays, under_then}

-- no stroke more, whichever mark these would bear
lays_same : (shared : Bool) (mark : Option ℕ) (own : PortState) → LaysBy shared mark own own
lays_same shared None own = same_none_laid shared own own refl
lays_same shared (Some mark) own = none_under shared mark own own (same_none_laid shared own own refl)

lays_on : (shared : Bool) (mark : Option ℕ) (o p q : PortState) → p.place.unit ≡ o.place.unit → LaysBy shared mark o p → LaysBy shared mark p q → LaysBy shared mark o q
lays_on shared None o p q unit first next = none_laid_then shared o p q first next
lays_on shared (Some mark) o p q unit first next = under_then shared shared mark o p q refl unit first next

pub works_same : {mark : Option ℕ} (mf cs shared : Bool) (end : EndState) (own : PortState) (driver : Driver) → Works mf cs shared mark end end own own driver driver
works_same {mark} mf cs shared end own driver = record { place = refl; session = λ alone. refl; stays = λ none kept. kept; puts = λ alone. puts_same end; calm = λ none. calm_same end end refl refl; window = keeps_same shared own; lays = lays_same shared mark own; unit = refl; rows = λ fit. fit; slots = λ has. has; answers = λ has read. read; reached = λ alone is. is }

pub works_on : {mark : Option ℕ} (mf cs shared : Bool) (e f g : EndState) (o p q : PortState) (a b c : Driver) → Works mf cs shared mark e f o p a b → Works mf cs shared mark f g p q b c
    → Works mf cs shared mark e g o q a c
works_on {mark} mf cs shared e f g o p q a b c first next = record {
  place = next.place ∙ first.place;
  session = λ alone. next.session alone ∙ first.session alone;
  stays = λ none kept. next.stays none (first.stays none kept);
  puts = λ alone. puts_on e f g (ap (λ (p : EndPlace). p.partner_registered) first.place) (next.session alone) (first.puts alone) (next.puts alone);
  calm = λ none. calm_on e f g (first.calm none) (next.calm none);
  window = keeps_on shared o p q first.window next.window;
  lays = lays_on shared mark o p q (ap (λ place. place.unit) first.window.place) first.lays next.lays;
  unit = next.unit ∙ first.unit;
  rows = λ fit. subst (λ n. FitRows n c.client) size (next.rows (subst (λ n. FitRows n b.client) (sym size) (first.rows fit)));
  slots = λ has. next.slots (first.slots has);
  answers = λ has read. next.answers (first.slots has) (first.answers has read);
  reached = λ alone is. next.reached alone (first.reached alone is);
}
  where
    size : p.place.size ≡ o.place.size
    size = ap (λ place. place.size) first.window.place

pub submit_works : (cs os : Bool) (end end' : EndState) (own own' : PortState) (driver driver' : Driver) (line : ℕ) (op : Op) (result : Result ℕ Refused)
    → driver'.unit ≡ driver.unit → driver'.answers.items ≡ driver.answers.items → FitsOp op
    → IfSome (command_refusal own.place.size driver.client op)
    (λ why. (result ≡ Err why) × (driver'.client ≡ driver.client) × (end' ≡ end) × (own' ≡ own))
    → IfOk result (Submitted line op driver.client driver'.client (ports cs end os own) (ports cs end' os own'))
    → (command_refusal own.place.size driver.client op ≡ None
    → IfErr result (WhyNotSubmitted line op driver.client driver'.client (ports cs end os own) (ports cs end' os own')))
    → OnlySends cs end end' → OnlyWrites own own' → Works false cs os (Some line) end end' own own' driver driver'
submit_works cs os end end' own own' driver driver' line op result unit noted fits refused sent why crq rest = record {
  place = crq.place;
  session = crq.counts.same_session;
  stays = λ none. frees_none end end' crq.last_session crq.registered;
  puts = λ alone. puts_sends cs end end' crq (submit_more line op driver.client driver'.client (ports cs end os own) (ports cs end' os own') result refused sent why);
  calm = λ none. sends_calm cs end end' crq (submit_more line op driver.client driver'.client (ports cs end os own) (ports cs end' os own') result refused sent why);
  window = keeps_writes os own own' rest (submit_grows line op driver.client driver'.client (ports cs end os own) (ports cs end' os own') result refused sent why);
  lays = submit_lays line op driver.client driver'.client (ports cs end os own) (ports cs end' os own') result refused sent why;
  unit = unit;
  rows = submit_fits line op driver.client driver'.client (ports cs end os own) (ports cs end' os own') result fits refused sent why;
  slots = submit_slots line op driver.client driver'.client (ports cs end os own) (ports cs end' os own') result refused sent why;
  answers = λ has. responses_keep os own own' driver.answers.items driver'.answers.items (keeps_writes os own own' rest (submit_grows line op driver.client driver'.client (ports cs end os own) (ports cs end' os own') result refused sent why)) noted;
  reached = λ alone. reaches_by driver.client driver'.client end end' (submit_blank line op driver.client driver'.client (ports cs end os own) (ports cs end' os own') result refused sent why) crq.place;
}

pub task_works : (cs os : Bool) (end end' : EndState) (own own' : PortState) (driver driver' : Driver) (line function task : ℕ) (result : Result ℕ Refused)
    → driver'.unit ≡ driver.unit → driver'.answers.items ≡ driver.answers.items
    → IfSome (task_refusal driver.client) (λ why. (result ≡ Err why) × (end' ≡ end) × (own' ≡ own))
    → IfOk result (Tasked line function task driver.client driver'.client (ports cs end os own) (ports cs end' os own'))
    → (task_refusal driver.client ≡ None
    → IfErr result (WhyNotSent line driver.client (task_unit function task driver.client) (ports cs end os own) (ports cs end' os own')))
    → OnErr result (driver'.client ≡ driver.client)
    → OnlySends cs end end' → OnlyWrites own own' → Works false cs os (Some line) end end' own own' driver driver'
task_works cs os end end' own own' driver driver' line function task result unit noted refused sent why same crq rest = record {
  place = crq.place;
  session = crq.counts.same_session;
  stays = λ none. frees_none end end' crq.last_session crq.registered;
  puts = λ alone. puts_sends cs end end' crq (task_more line function task driver.client driver'.client (ports cs end os own) (ports cs end' os own') result refused sent why);
  calm = λ none. sends_calm cs end end' crq (task_more line function task driver.client driver'.client (ports cs end os own) (ports cs end' os own') result refused sent why);
  window = keeps_writes os own own' rest (task_grows line function task driver.client driver'.client (ports cs end os own) (ports cs end' os own') result refused sent why);
  lays = task_lays line function task driver.client driver'.client (ports cs end os own) (ports cs end' os own') result refused sent why;
  unit = unit;
  rows = task_fits own.place.size line function task driver.client driver'.client (ports cs end os own) (ports cs end' os own') result sent same;
  slots = task_slots line function task driver.client driver'.client (ports cs end os own) (ports cs end' os own') result sent same;
  answers = λ has. responses_keep os own own' driver.answers.items driver'.answers.items (keeps_writes os own own' rest (task_grows line function task driver.client driver'.client (ports cs end os own) (ports cs end' os own') result refused sent why)) noted;
  reached = λ alone. reaches_by driver.client driver'.client end end' (task_blank line function task driver.client driver'.client (ports cs end os own) (ports cs end' os own') result sent same) crq.place;
}

pub logout_works : (cs os : Bool) (end end' : EndState) (own own' : PortState) (driver driver' : Driver) (line : ℕ) (result : Result ℕ Refused)
    → driver'.unit ≡ driver.unit → driver'.answers.items ≡ driver.answers.items
    → IfSome (logout_refusal driver.client) (λ why. (result ≡ Err why) × (end' ≡ end) × (own' ≡ own))
    → IfOk result (LoggedOut line driver.client driver'.client (ports cs end os own) (ports cs end' os own'))
    → (logout_refusal driver.client ≡ None
    → IfErr result (WhyNotSent line driver.client (logout_unit driver.client) (ports cs end os own) (ports cs end' os own')))
    → OnErr result (driver'.client ≡ driver.client)
    → OnlySends cs end end' → OnlyWrites own own' → Works false cs os (Some line) end end' own own' driver driver'
logout_works cs os end end' own own' driver driver' line result unit noted refused sent why same crq rest = record {
  place = crq.place;
  session = crq.counts.same_session;
  stays = λ none. frees_none end end' crq.last_session crq.registered;
  puts = λ alone. puts_sends cs end end' crq (logout_more line driver.client driver'.client (ports cs end os own) (ports cs end' os own') result refused sent why);
  calm = λ none. sends_calm cs end end' crq (logout_more line driver.client driver'.client (ports cs end os own) (ports cs end' os own') result refused sent why);
  window = keeps_writes os own own' rest (logout_grows line driver.client driver'.client (ports cs end os own) (ports cs end' os own') result refused sent why);
  lays = logout_lays line driver.client driver'.client (ports cs end os own) (ports cs end' os own') result refused sent why;
  unit = unit;
  rows = logout_fits own.place.size line driver.client driver'.client (ports cs end os own) (ports cs end' os own') result sent same;
  slots = logout_slots line driver.client driver'.client (ports cs end os own) (ports cs end' os own') result sent same;
  answers = λ has. responses_keep os own own' driver.answers.items driver'.answers.items (keeps_writes os own own' rest (logout_grows line driver.client driver'.client (ports cs end os own) (ports cs end' os own') result refused sent why)) noted;
  reached = λ alone. reaches_by driver.client driver'.client end end' (logout_blank line driver.client driver'.client (ports cs end os own) (ports cs end' os own') result sent same) crq.place;
}

pub turn_works : (cs os : Bool) (end end' : EndState) (own own' : PortState) (driver driver' : Driver) (line : ℕ) (result : Result LoginTurn NoMemory)
    → driver'.unit ≡ driver.unit → driver'.answers.items ≡ driver.answers.items
    → Turned line (site driver.client (ports cs end os own)) (site driver'.client (ports cs end' os own')) result
    → OnlyTurns cs end end' → OnlyWrites own own' → Works false cs os (Some line) end end' own own' driver driver'
turn_works cs os end end' own own' driver driver' line result unit noted turned crq rest = record {
  place = crq.place;
  session = crq.counts.same_session;
  stays = λ none. turn_frees cs end end' crq;
  puts = λ alone. turn_puts line (site driver.client (ports cs end os own)) (site driver'.client (ports cs end' os own')) result alone turned;
  calm = λ none. turn_calm line (site driver.client (ports cs end os own)) (site driver'.client (ports cs end' os own')) result turned;
  window = keeps_writes os own own' rest (turn_grows line (site driver.client (ports cs end os own)) (site driver'.client (ports cs end' os own')) result turned);
  lays = turn_lays line (site driver.client (ports cs end os own)) (site driver'.client (ports cs end' os own')) result turned;
  unit = unit;
  rows = turn_fits own.place.size line (site driver.client (ports cs end os own)) (site driver'.client (ports cs end' os own')) result turned;
  slots = turn_slots line (site driver.client (ports cs end os own)) (site driver'.client (ports cs end' os own')) result turned;
  answers = λ has. responses_keep os own own' driver.answers.items driver'.answers.items (keeps_writes os own own' rest (turn_grows line (site driver.client (ports cs end os own)) (site driver'.client (ports cs end' os own')) result turned)) noted;
  reached = λ alone. turn_reaches line (site driver.client (ports cs end os own)) (site driver'.client (ports cs end' os own')) result alone turned;
}

pub take_works : (cs os : Bool) (end end' : EndState) (own own' : PortState) (driver driver' : Driver) (client : ClientState) (result : Result Taken NoMemory)
    → driver'.unit ≡ driver.unit → driver'.client ≡ client
    → IfOk result (TakesEntry driver.client client (ports cs end os own) (ports cs end' os own'))
    → OnErr result (TakesLater cs driver.client client end end')
    → OnlyTakes cs end end' → OnlyReads os own own'
    → (HoldsSlots driver.client → AreResponsesRead (fronts_of own'.strokes) driver.answers.items → AreResponsesRead (fronts_of own'.strokes) driver'.answers.items)
    → Works false cs os None end end' own own' driver driver'
take_works cs os end end' own own' driver driver' client result unit is taken later crq rest noted = record {
  place = crq.place;
  session = crq.counts.same_session;
  stays = λ none. frees_none end end' crq.last_session crq.registered;
  puts = λ alone. puts_none end end' crq.sent crq.kept crq.registered crq.last_session (stay_same end.drops end'.drops crq.drops);
  calm = λ none. calm_same end end' crq.sent crq.kept;
  window = keeps_reads os own own' rest;
  lays = reads_none_laid os own own' rest;
  unit = unit;
  rows = λ fit. subst (FitRows own.place.size) (sym is) (take_fits own.place.size driver.client client (ports cs end os own) (ports cs end' os own') result taken later fit);
  slots = λ has. subst HoldsSlots (sym is) (take_slots driver.client client (ports cs end os own) (ports cs end' os own') result taken later has);
  answers = λ has read. noted has (responses_keep os own own' driver.answers.items driver.answers.items (keeps_reads os own own' rest) refl read);
  reached = λ alone. reaches_by driver.client driver'.client end end'
      (blank_as driver.client driver'.client client is (take_blank driver.client client (ports cs end os own) (ports cs end' os own') result taken later)) crq.place;
}

-- the same where the queue may be freed, too
pub works_any : {mark : Option ℕ} (mf cs shared : Bool) (e f : EndState) (o p : PortState) (a b : Driver) → Works false cs shared mark e f o p a b → Works mf cs shared mark e f o p a b
works_any mf cs shared e f o p a b works = record {
  place = works.place;
  session = works.session;
  stays = λ none. works.stays refl;
  puts = works.puts;
  calm = λ none. works.calm refl;
  window = works.window;
  lays = works.lays;
  unit = works.unit;
  rows = works.rows;
  slots = works.slots;
  answers = works.answers;
  reached = works.reached;
}

-- the same by other words
pub works_as : (mf mf' cs shared : Bool) (mark mark' : ℕ) (e f : EndState) (o p : PortState) (a b : Driver) → mf ≡ mf' → mark ≡ mark'
    → Works mf cs shared (Some mark) e f o p a b → Works mf' cs shared (Some mark') e f o p a b
works_as mf mf' cs shared mark mark' e f o p a b free is works =
    subst (λ x. Works x cs shared (Some mark') e f o p a b) free (subst (λ n. Works mf cs shared (Some n) e f o p a b) is works)

-- where no stroke was laid, none was laid under another mark
pub works_marked : (mark : ℕ) (mf cs shared : Bool) (e f : EndState) (o p : PortState) (a b : Driver) → Works mf cs shared None e f o p a b → Works mf cs shared (Some mark) e f o p a b
works_marked mark mf cs shared e f o p a b works = record {
  place = works.place;
  session = works.session;
  stays = works.stays;
  puts = works.puts;
  calm = works.calm;
  window = works.window;
  lays = none_under shared mark o p works.lays;
  unit = works.unit;
  rows = works.rows;
  slots = works.slots;
  answers = works.answers;
  reached = works.reached;
}

-- at the end alone
pub works_end : {mark : Option ℕ} (mf cs shared : Bool) (e f : EndState) (own : PortState) (a b : Driver) → f.place ≡ e.place
    → (cs ≡ false → f.counts.partner_session ≡ e.counts.partner_session) → (mf ≡ false → FreesNone e f) → (cs ≡ false → Announces e f) → (mf ≡ false → MakesNoEvent e f)
    → b.unit ≡ a.unit → b.answers.items ≡ a.answers.items → (FitRows own.place.size a.client → FitRows own.place.size b.client) → (HoldsSlots a.client → HoldsSlots b.client) → KeepsBlank a.client b.client
    → Works mf cs shared mark e f own own a b
works_end {mark} mf cs shared e f own a b place session stays puts calm unit noted rows slots blank = record {
  place = place;
  session = session;
  stays = stays;
  puts = puts;
  calm = calm;
  window = keeps_same shared own;
  lays = lays_same shared mark own;
  unit = unit;
  rows = rows;
  slots = slots;
  answers = λ has read. subst (AreResponsesRead (fronts_of own.strokes)) (sym noted) read;
  reached = λ alone. reaches_by a.client b.client e f blank place;
}

-- room was made
pub works_ready : {mark : Option ℕ} (mf cs shared : Bool) (e f : EndState) (own : PortState) (a : Driver) → OnlyReserves e f → Works mf cs shared mark e f own own a a
works_ready mf cs shared e f own a ready =
    works_end mf cs shared e f own a a ready.place (λ alone. ap (λ counts. counts.partner_session) ready.counts)
    (λ none. frees_none e f ready.last_session ready.registered) (λ alone. puts_reserves e f ready) (λ none. calm_ready e f ready) refl refl (λ fit. fit) (λ has. has) (blank_same a.client)

-- the queue was freed, and the client was told
pub works_freed : {mark : Option ℕ} (cs shared : Bool) (e f : EndState) (own : PortState) (a b : Driver) → TellsFreed cs e f → OnlyFrees cs e f → b.unit ≡ a.unit → b.answers.items ≡ a.answers.items
    → b.client ≡ unlinked a.client → Works true cs shared mark e f own own a b
works_freed cs shared e f own a b tells rest unit noted client =
    works_end true cs shared e f own a b rest.place rest.counts.same_session (λ none. absurd (both_bools true refl none))
    (λ alone. puts_freed cs e f partner_freed alone refl tells) (λ none. absurd (both_bools true refl none)) unit noted (λ fit. subst (λ s. FitRows own.place.size s) (sym client) fit)
    (λ has. subst HoldsSlots (sym client) (slots_same a.client (unlinked a.client) refl refl has))
    (blank_as a.client b.client (unlinked a.client) client (record { granted = λ is. is; held = λ is. is }))

-- bytes were written into the window, or read there, or a value was put into it
pub works_window : {mark : Option ℕ} (mf cs shared : Bool) (end : EndState) (own own' : PortState) (a b : Driver) → KeepsWindow shared own own' → LaysBy shared mark own own' → b.unit ≡ a.unit → b.answers.items ≡ a.answers.items
    → b.client ≡ a.client → Works mf cs shared mark end end own own' a b
works_window mf cs shared end own own' a b keeps lays unit noted client = record {
  place = refl;
  session = λ alone. refl;
  stays = λ none kept. kept;
  puts = λ alone. puts_same end;
  calm = λ none. calm_same end end refl refl;
  window = keeps;
  lays = lays;
  unit = unit;
  rows = λ fit. subst (λ s. FitRows own.place.size s) (sym client) fit;
  slots = λ has. subst HoldsSlots (sym client) has;
  answers = λ has. responses_keep shared own own' a.answers.items b.answers.items keeps noted;
  reached = λ alone. reaches_by a.client b.client end end (blank_as a.client b.client a.client client (blank_same a.client)) refl;
}
