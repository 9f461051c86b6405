-- Which entries that are taken are SRP entries, and which of a unit's steps leave its session going on.
use Rattle.std.proofs.Common.{◌≡◌, ◌≢◌, ◌⊎◌, ◌==◌, ◌&&◌, ◌||◌, ◌<◌, ◌≤◌, ℕ, Bool, true, false, cond, if◌then◌else◌, List, [], length, take, Option, Some, None, Result, Ok, Err, IfOk, refl, sym, ◌∙◌, ap, subst}
use Rattle.std.proofs.lemmas.Bool.{eq-eqb, eqb-true, ne_eqb}
use Rattle.vio_num.specs.Entry.{entry_format, first_byte, is_srp_entry, iu_length, kind_of}
use Rattle.vio_num.specs.declared.entry.Entry.{Entry}
use Rattle.vio_num.specs.declared.entry.Kind.{Kind}
use Rattle.vio_num.specs.declared.entry.Kind.TheVariants.{Unused, Command, Init, Event, Reserved}
use Rattle.vio_num.specs.declared.memory.NoMemory.{NoMemory}
use Rattle.std.specs.Result.{IsErrOf, OnErr}
use Rattle.block_server.specs.declared.site.Halt.{Halt}
use Rattle.crq_session.specs.Answered.{FindsNone, HoldsUp}
use Rattle.crq_session.specs.Answers.{IfEmpty, IfHeldUp, OnNotPolled, OnNotRegistered}
use Rattle.crq_session.specs.EndState.{EndState, OnlyReserves}
use Rattle.crq_session.specs.declared.answers.PollAnswer.{PollAnswer}
use Rattle.crq_session.specs.declared.answers.PollAnswer.TheVariants as polling
use Rattle.crq_session.specs.declared.answers.RegAnswer.{RegAnswer}
use Rattle.crq_session.specs.declared.answers.RegAnswer.TheVariants as registering
use Rattle.crq_session.specs.Handshake.{state_after, state_by}
use Rattle.crq_session.specs.declared.handshake.Handshake.{Handshake}
use Rattle.crq_session.specs.declared.handshake.Handshake.TheVariants.{Down, Up, Waiting}
use Rattle.crq_ring.specs.Sessions.{of_session}
use Rattle.block_server.specs.Books.{books_at, is_up, number_of}
use Rattle.block_server.specs.Closings.{IsEarly, heard, is_event, is_handshake}
use Rattle.block_server.specs.Judged.{AreKept, Judged}
use Rattle.block_server.specs.SiteState.{SiteState}
use Rattle.block_server.specs.declared.records.Records.{Records}
use Rattle.block_server.specs.declared.request.Arrival.{Arrival}
use Rattle.block_server.specs.declared.unit.Unit.{Unit}
use Rattle.block_server.specs.Receipts.{is_down, is_ended, standing_of}
use Rattle.block_server.specs.declared.intake.Next.{Next}
use Rattle.block_server.specs.declared.intake.Next.TheVariants.{Entry as NextEntry}

command_by : (a b c d : Bool) → (if a then Unused else if b then Command else if c then Init else if d then Event else Reserved) ≡ Command → b ≡ true
command_by true b c d is = absurd (cc (is))
command_by false true c d is = refl
command_by false false true d is = absurd (cc (is))
command_by false false false true is = absurd (cc (is))
command_by false false false false is = absurd (cc (is))

-- a command's first byte
pub command_first : (entry : Entry) → kind_of (first_byte entry) ≡ Command → first_byte entry ≡ 0x80
command_first entry is = by (first_byte entry) is
  where
    by : (first : ℕ) → kind_of first ≡ Command → first ≡ 0x80
    by first is = eqb-true first 0x80 (command_by (first == 0x00) (first == 0x80) (first == 0xC0) (first == 0xFF) is)

-- an SRP entry is a command of format 1
pub srp_command : (entry : Entry) → first_byte entry ≡ 0x80 → entry_format entry ≡ 0x01 → is_srp_entry entry ≡ true
srp_command entry first format = both (first_byte entry == 0x80) (entry_format entry == 0x01) (eq-eqb (first_byte entry) 0x80 first) (eq-eqb (entry_format entry) 0x01 format)
  where
    both : (a b : Bool) → a ≡ true → b ≡ true → a && b ≡ true
    both a b x y = cc (x, y)

pub not_format : (entry : Entry) → entry_format entry ≢ 0x01 → is_srp_entry entry ≡ false
not_format entry format = both (first_byte entry == 0x80) (entry_format entry == 0x01) (ne_eqb (entry_format entry) 0x01 format)
  where
    both : (a b : Bool) → b ≡ false → a && b ≡ false
    both true b is = is
    both false b is = refl

pub not_command : (entry : Entry) → kind_of (first_byte entry) ≢ Command → is_srp_entry entry ≡ false
not_command entry apart = by (first_byte entry) (entry_format entry == 0x01) apart
  where
    by : (first : ℕ) (b : Bool) → kind_of first ≢ Command → (first == 0x80) && b ≡ false
    by first b apart = both (first == 0x80) b (ne_eqb first 0x80 (λ same. apart (ap kind_of same)))
      where
        both : (a b : Bool) → a ≡ false → a && b ≡ false
        both a b is = cc (is)

-- an entry that comes neither registers a queue nor frees it
got_by : (h : Handshake) (kind : Kind) (byte : ℕ) → is_down (state_by h kind byte) ≡ is_down h
got_by Down kind byte = refl
got_by Waiting Init byte = if_up (byte == 0x01 || byte == 0x02)
  where
    if_up : (t : Bool) → is_down (cond t Up Waiting) ≡ false
    if_up true = refl
    if_up false = refl
got_by Waiting Unused byte = refl
got_by Waiting Command byte = refl
got_by Waiting Event byte = refl
got_by Waiting Reserved byte = refl
got_by Up Event byte = refl
got_by Up Unused byte = refl
got_by Up Command byte = refl
got_by Up Init byte = refl
got_by Up Reserved byte = refl

pub got_ended : (closing : Bool) (h h' : Handshake) (entry : Entry) → h' ≡ state_after h entry → closing || is_down h' ≡ closing || is_down h
got_ended closing h h' entry got = ap (λ down. closing || down) (ap is_down got ∙ got_by h (kind_of (first_byte entry)) (entry_format entry))

pub down_ended : (closing : Bool) (h : Handshake) → h ≡ Down → closing || is_down h ≡ true
down_ended true h down = refl
down_ended false h down = ap is_down down

pub open_goes_on : (closing : Bool) (h : Handshake) → closing ≡ false → h ≢ Down → closing || is_down h ≡ false
open_goes_on true h none on = absurd (cc (none))
open_goes_on false Down none on = absurd (on refl)
open_goes_on false Waiting none on = refl
open_goes_on false Up none on = refl

-- a session that begins goes on
pub begun_ended : (closing : Bool) (h : Handshake) → closing ≡ false → h ≡ Waiting → closing || is_down h ≡ false
begun_ended true h on begun = absurd (cc (on))
begun_ended false h on begun = ap is_down begun

-- freed or not, a session that is to be closed takes nothing more
pub freed_ended : (closing closing' : Bool) (h h' : Handshake) → closing ≡ true → h' ≡ Down → closing' || is_down h' ≡ closing || is_down h
freed_ended true closing' h h' over down = down_ended closing' h' down
freed_ended false closing' h h' over down = absurd (cc (over))

-- what is so where intake goes on
pub next_map : (result : Result Next NoMemory) (P Q : Type 0) → (P → Q) → IfOk result (λ next. next ≡ NextEntry → P) → IfOk result (λ next. next ≡ NextEntry → Q)
next_map (Ok next) P Q more all = λ entry. more (all entry)
next_map (Err memory) P Q more all = tt

-- what a call left that neither took an entry nor registered a queue
pub poll_taken : (shared : Bool) (old new : EndState) (answer : PollAnswer) → ((number : ℕ) (entry : Entry) → answer ≡ polling.Got number entry → ⊥)
    → IfEmpty answer (FindsNone shared old new) → OnNotPolled answer (OnlyReserves old new) → new.taken ≡ old.taken
poll_taken shared old new (polling.Got number entry) got empty refused = absurd (got number entry refl)
poll_taken shared old new (polling.Empty number) got empty refused = empty.taken
poll_taken shared old new polling.NotRegistered got empty refused = refused.taken

pub register_session : (shared : Bool) (old new : EndState) (answer : RegAnswer) → (answer ≡ registering.Success → ⊥)
    → ((control : ℕ) → answer ≡ registering.Closed control → ⊥) → IfHeldUp answer (HoldsUp shared old new)
    → OnNotRegistered answer (OnlyReserves old new) → new.last_session ≡ old.last_session
register_session shared old new registering.Success success closed held refused = absurd (success refl)
register_session shared old new (registering.Closed control) success closed held refused = absurd (closed control refl)
register_session shared old new (registering.Busy number word) success closed held refused = held.session
register_session shared old new registering.Parameter success closed held refused = refused.last_session
register_session shared old new registering.Resource success closed held refused = refused.last_session

-- what a fetch left that was not made
pub missed_is : {X : Type 0} (result : Result X Halt) (halt : Halt) (P : Type 0) → IsErrOf result halt → OnErr result P → P
missed_is (Ok x) halt P is missed = absurd (cc (is))
missed_is (Err other) halt P is missed = missed

-- which entries are events, and which are of the initialisation
pub no_event : (entry : Entry) → kind_of (first_byte entry) ≢ Event → is_event entry ≡ false
no_event entry apart = ne_eqb (first_byte entry) 0xFF (λ same. apart (ap kind_of same))

pub no_handshake : (entry : Entry) → kind_of (first_byte entry) ≢ Init → is_handshake entry ≡ false
no_handshake entry apart = both (first_byte entry == 0xC0) (ne_eqb (first_byte entry) 0xC0 (λ same. apart (ap kind_of same))) ((entry_format entry == 0x01) || (entry_format entry == 0x02))
  where
    both : (a : Bool) → a ≡ false → (b : Bool) → (a && b) ≡ false
    both a is b = cc (is)

pub srp_no_event : (entry : Entry) → is_srp_entry entry ≡ true → is_event entry ≡ false
srp_no_event entry srp = no_event entry (λ event. absurd (cc (ap kind_of (eqb-true (first_byte entry) 0x80 (front (first_byte entry == 0x80) (entry_format entry == 0x01) srp)), event)))
  where
    front : (a b : Bool) → (a && b) ≡ true → a ≡ true
    front true b is = refl
    front false b is = absurd (cc (is))

pub event_is : (entry : Entry) → kind_of (first_byte entry) ≡ Event → is_event entry ≡ true
event_is entry is = by (first_byte entry) is
  where
    event_by : (a b c d : Bool) → (if a then Unused else if b then Command else if c then Init else if d then Event else Reserved) ≡ Event → d ≡ true
    event_by true b c d is = absurd (cc (is))
    event_by false true c d is = absurd (cc (is))
    event_by false false true d is = absurd (cc (is))
    event_by false false false true is = refl
    event_by false false false false is = absurd (cc (is))

    by : (first : ℕ) → kind_of first ≡ Event → (first == 0xFF) ≡ true
    by first is = event_by (first == 0x00) (first == 0x80) (first == 0xC0) (first == 0xFF) is

-- an entry after which the other end is not heard was none of the initialisation, nor was it heard before
pub up_got : (closing : Bool) (h h' : Handshake) (entry : Entry) → h' ≡ state_after h entry → kind_of (first_byte entry) ≢ Event → closing || is_down h ≡ false → is_up h' ≡ false
    → (is_up h ≡ false) × (is_handshake entry ≡ false)
up_got closing Down h' entry got apart on down = absurd (cc (down_ended closing Down refl, on))
up_got closing Up h' entry got apart on down = absurd (still (kind_of (first_byte entry)) apart (sym (ap is_up got) ∙ down))
  where
    still : (kind : Kind) → kind ≢ Event → is_up (state_by Up kind (entry_format entry)) ≡ false → ⊥
    still Unused apart is = absurd (cc (is))
    still Command apart is = absurd (cc (is))
    still Init apart is = absurd (cc (is))
    still Event apart is = absurd (apart refl)
    still Reserved apart is = absurd (cc (is))
up_got closing Waiting h' entry got apart on down = (refl, at (first_byte entry == 0xC0) refl)
  where
    none : (t : Bool) → is_up (cond t Up Waiting) ≡ false → t ≡ false
    none true is = absurd (cc (is))
    none false is = refl

    at : (b : Bool) → (first_byte entry == 0xC0) ≡ b → (b && ((entry_format entry == 0x01) || (entry_format entry == 0x02))) ≡ false
    at false is = refl
    at true is =
        let init : kind_of (first_byte entry) ≡ Init = ap kind_of (eqb-true (first_byte entry) 0xC0 is) in
        none ((entry_format entry == 0x01) || (entry_format entry == 0x02)) (ap (λ kind. is_up (state_by Waiting kind (entry_format entry))) (sym init) ∙ sym (ap is_up got) ∙ down)

-- what an entry that waits says
pub none_waits : (waiting : Option Arrival) (arrival : Arrival) → waiting ≡ Some arrival → waiting ≡ None → ⊥
none_waits waiting arrival some none = absurd (cc (some, none))

pub up_is : (h : Handshake) → h ≡ Up → is_up h ≡ true
up_is h up = ap is_up up

-- an entry that came before the other end was heard
pub early_entry : (unit : Unit) (site : SiteState) (records : Records) (judged : List Judged) (arrival other : Arrival) → unit.waiting ≡ Some other → unit.waiting ≡ Some arrival → AreKept (books_at unit site records) judged
    → is_ended unit.line ≡ false → unit.line.handshake ≢ Up → IsEarly site.queue.taken (record { session = site.queue.last_session; number = arrival.number; entry = arrival.entry; copy = None; bytes = [] })
early_entry unit site records judged arrival other first same is going apart = record {
  none = refl;
  there = subst (λ (n : ℕ). n ≤ length (of_session site.queue.last_session site.queue.taken)) at is.lines.upto;
  unheard = ap (λ (n : ℕ). heard (take n (of_session site.queue.last_session site.queue.taken))) (sym at) ∙ is.lines.unheard going (down unit.line.handshake apart);
}
  where
    at : number_of unit.waiting site.queue ≡ arrival.number
    at = ap (λ w. number_of w site.queue) same

    down : (h : Handshake) → h ≢ Up → is_up h ≡ false
    down Down apart = refl
    down Waiting apart = refl
    down Up apart = absurd (apart refl)

-- a length that no information unit has
pub bad_len : (waiting : Option Arrival) (arrival other : Arrival) → waiting ≡ Some other → waiting ≡ Some arrival → (iu_length other.entry ≡ 0) ⊎ (256 < iu_length other.entry)
    → (iu_length arrival.entry ≡ 0) ⊎ (256 < iu_length arrival.entry)
bad_len waiting arrival other first same is = subst (λ (a : Arrival). (iu_length a.entry ≡ 0) ⊎ (256 < iu_length a.entry)) (taken_of (sym first ∙ same)) is
  where
    taken_of : Some other ≡ Some arrival → other ≡ arrival
    taken_of e = cc (e)

pub command_no_event : (entry : Entry) → first_byte entry ≡ 0x80 → is_event entry ≡ false
command_no_event entry first = no_event entry (λ event. absurd (cc (ap kind_of first, event)))

pub command_no_handshake : (entry : Entry) → first_byte entry ≡ 0x80 → is_handshake entry ≡ false
command_no_handshake entry first = no_handshake entry (λ init. absurd (cc (ap kind_of first, init)))

-- an entry that came leaves the unit's standing
pub stands_got : (unit : Unit) (h : Handshake) → is_ended (record unit.line { handshake = h }) ≡ is_ended unit.line → standing_of (record unit { line = record unit.line { handshake = h } }) ≡ standing_of unit
stands_got unit h ended = λ i. record { id = unit.id; granted = unit.logins.granted; waiting = unit.waiting; ended = ended i }
