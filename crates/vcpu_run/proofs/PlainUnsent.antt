-- Nothing but want of memory keeps a plain client from sending what is not refused.
use Rattle.std.proofs.Common.{◌≡◌, ◌∙◌, inl, inr, ℕ, ◌+◌, ◌*◌, ◌≤◌, ◌&&◌, nat_le, Bool, true, false, true≢false, List, [], ◌∷◌, Option, Some, None, IsSome, length, refl, sym, subst, arith}
use Rattle.std.specs.Prelude.{IsTrue}
use Rattle.std.proofs.lemmas.Bool.Decides.{nat_tests}
use Rattle.page_slots.specs.Stroke.{StrokeValue}
use Rattle.crq_session.specs.Answered.{FindsFull, MeetsClosed}
use Rattle.crq_session.specs.EndState.{OnlyReserves}
use Rattle.srp_iu.specs.declared.unit.Iu.{Iu}
use Rattle.tce_window.specs.PortState.{FindsInUse, PortState}
use Rattle.tce_window.specs.Region.{in_region}
use Rattle.vscsi_client.specs.Ports.{OneMeetsUse, Ports, WhyNotPut, WhyNotWritten, Write}
use Rattle.vscsi_client.specs.Sending.{WhyNotSent, WhyNotSubmitted, table_writes}
use Rattle.vscsi_client.specs.Spans.{op_in_range}
use Rattle.vscsi_client.specs.Units.{slot_address}
use Rattle.vscsi_client.specs.declared.answers.Refused.{Refused}
use Rattle.vscsi_client.specs.declared.answers.Refused.TheVariants.{Closed, Dropped, InUse, NoCredit, NoMemory, NotLoggedIn, Overlap, Range}
use Rattle.vscsi_client.specs.declared.op.Op.{Op}
use Rattle.vcpu_run.specs.PlainTalk.{Between, IsCalm, IsOwnWindow, ServerStays, client_ports}
use Rattle.vcpu_run.proofs.PlainPuts.{tables_leave}
use Rattle.vcpu_run.proofs.PlainRooms.{not_closed, not_full}

-- ---- pages

range_end : (n at len : ℕ) → IsTrue (in_region n at len) → at + len ≤ 4096 * n
range_end n at len inside = by (nat_le 1 len) (nat_le len 65536) (nat_le (at + len) (4096 * n)) refl inside
  where
    by : (x y z : Bool) → nat_le (at + len) (4096 * n) ≡ z → ((x && y) && z) ≡ true → at + len ≤ 4096 * n
    by true true true is e = grind (arith, nat_tests, is)
    by true true false is e = absurd (true≢false (sym e))
    by true false z is e = absurd (true≢false (sym e))
    by false y z is e = absurd (true≢false (sym e))

away_there : (page : Option (List StrokeValue)) → page ≡ None → IsSome page → ⊥
away_there None away there = cc (there)
away_there (Some strokes) away there = cc (away)

-- none is in use
pub none_in_use : (window : PortState) (at len page : ℕ) → IsOwnWindow window → FindsInUse false window at len page → ⊥
none_in_use window at len page own found =
    let end : at + len ≤ 4096 * window.place.size = range_end window.place.size at len found.inside in
    away_there (window.strokes page) (found.away refl) (own.there page (omega (arith, end, found.below)))

none_meets : (writes : List Write) (old new : PortState) (page : ℕ) → IsOwnWindow old → OneMeetsUse false writes old new page → ⊥
none_meets [] old new page own meets = meets
none_meets (write ∷ []) old new page own meets = none_in_use old write.at (length write.bytes) page own meets.in_use
none_meets (write ∷ next ∷ more) old new page own meets = meets

-- ---- a unit that was not put

pub not_written : (writes : List Write) (old new : PortState) (why : Refused) → IsOwnWindow old → WhyNotWritten false writes old new why → why ≡ NoMemory
not_written writes old new NoMemory own why_not = refl
not_written writes old new (InUse page word) own why_not = absurd (none_meets writes old new page own why_not)
not_written writes old new Range own why_not = absurd why_not
not_written writes old new NotLoggedIn own why_not = absurd why_not
not_written writes old new (NoCredit limit) own why_not = absurd why_not
not_written writes old new (Overlap tag) own why_not = absurd why_not
not_written writes old new (Closed control) own why_not = absurd why_not
not_written writes old new (Dropped number held) own why_not = absurd why_not

-- What a call finds that made room, and wrote what lies behind the slots: nobody else has a hand in the end and the window.
pub record FindsRoom (at : Between) (before : Ports) : Type 0 where
  pub crq_alone : before.crq_shared ≡ false
  pub own_alone : before.own_shared ≡ false
  pub room : OnlyReserves at.own before.crq
  pub own : IsOwnWindow before.own

pub not_put : (granted : ℕ) (at at' : Between) (before : Ports) (line slot : ℕ) (bytes : List ℕ) (why : Refused) → IsCalm granted at [] → FindsRoom at before
    → at.own.registered ≡ true → ServerStays at at' → WhyNotPut line slot bytes before (client_ports at') why → why ≡ NoMemory
not_put granted at at' before line slot bytes NoMemory calm finds there stays why_not = refl
not_put granted at at' before line slot bytes (InUse page word) calm finds there stays why_not =
    absurd (none_in_use before.own (slot_address slot) (length bytes) page finds.own
    (subst (λ shared. FindsInUse shared before.own (slot_address slot) (length bytes) page) finds.own_alone why_not.1.in_use))
not_put granted at at' before line slot bytes (Closed control) calm finds there stays (laid, inl own) =
    absurd (true≢false (sym there ∙ sym finds.room.registered ∙ own.0))
not_put granted at at' before line slot bytes (Closed control) calm finds there stays (laid, inr back) =
    absurd (not_closed granted at before.crq at'.own calm finds.room.place
    (subst (λ shared. MeetsClosed shared before.crq at'.own) finds.crq_alone back.1.closed.meets))
not_put granted at at' before line slot bytes (Dropped number held) calm finds there stays (laid, (on, full)) =
    absurd (not_full granted at at' before.crq number held calm finds.room.sent finds.room.place stays
    (subst (λ shared. FindsFull shared before.crq at'.own number held) finds.crq_alone full))
not_put granted at at' before line slot bytes Range calm finds there stays why_not = absurd why_not
not_put granted at at' before line slot bytes NotLoggedIn calm finds there stays why_not = absurd why_not
not_put granted at at' before line slot bytes (NoCredit limit) calm finds there stays why_not = absurd why_not
not_put granted at at' before line slot bytes (Overlap tag) calm finds there stays why_not = absurd why_not

-- a command
pub not_submitted : (granted line : ℕ) (op : Op) (at at' : Between) (why : Refused) → IsCalm granted at [] → at.own.registered ≡ true → op_in_range at.window.place.size op ≡ true
    → ServerStays at at' → WhyNotSubmitted line op at.client at'.client (client_ports at) (client_ports at') why → why ≡ NoMemory
not_submitted granted line op at at' why calm there inside stays (inl tabled) =
    not_written (table_writes line op at.client) at.window at'.window why calm.usable tabled.why_not
not_submitted granted line op at at' why calm there inside stays (inr unput) =
    not_put granted at at' unput.before line unput.why_not.0 unput.why_not.1 why calm
    (record {
      crq_alone = unput.ready.crq_shared;
      own_alone = unput.ready.own_shared;
      room = unput.ready.crq;
      own = (tables_leave line op at.client at.window.place.size at.window unput.before.own calm.usable inside unput.ready.own).own;
    }) there stays unput.why_not.3

-- a task or a logout
pub not_sent : (granted line : ℕ) (iu : Iu) (at at' : Between) (why : Refused) → IsCalm granted at [] → at.own.registered ≡ true → ServerStays at at'
    → WhyNotSent line at.client iu (client_ports at) (client_ports at') why → why ≡ NoMemory
not_sent granted line iu at at' why calm there stays (inl memory) = memory.0
not_sent granted line iu at at' why calm there stays (inr unput) =
    not_put granted at at' unput.before line unput.why_not.0 unput.why_not.1 why calm
    (record {
      crq_alone = unput.ready.crq_shared;
      own_alone = unput.ready.own_shared;
      room = unput.ready.crq;
      own = subst IsOwnWindow (sym unput.ready.own) calm.usable;
    }) there stays unput.why_not.3
