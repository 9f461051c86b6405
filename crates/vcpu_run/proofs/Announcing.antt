-- What the calls of an end put into the partner's queue, one behind the other.
use Rattle.std.proofs.Common.{◌≡◌, ◌∙◌, ◌⊎◌, inl, inr, ℕ, ◌+◌, ◌≤◌, zero, suc, Bool, true, false, List, [], ◌∷◌, ◌++◌, Option, Some, None, IfSome, IsSome, length, slice_get, refl, sym, ap, subst, arith, append-nil, append_assoc}
use Rattle.std.proofs.lemmas.List.{append_cancel_left}
use Rattle.std.proofs.lemmas.List.Elements.{All-append, All-cons, All-nil}
use Rattle.vio_num.specs.Entry.{first_byte}
use Rattle.vio_num.specs.declared.entry.Entry.{Entry}
use Rattle.crq_ring.specs.declared.rows.PipeRow.{PipeRow}
use Rattle.std.specs.Borrow.{GName}
use Rattle.crq_session.specs.Answered.{FindsFull, FindsInUse, Frees, HoldsUp, LosesKept, MaySend, Opens, Pushes, Puts, PutsNone, Sends, Settles, StillKept, TurnsBack}
use Rattle.crq_session.specs.Answers.{IfClosed, IfDropped, IfHeldUp, IfInUse, IfSent, OnFreed, OnNotFreed, OnNotRegistered, OnNotSent, OnOpened, OnReached}
use Rattle.crq_session.specs.declared.answers.FreeAnswer.{FreeAnswer}
use Rattle.crq_session.specs.declared.answers.FreeAnswer.TheVariants as free
use Rattle.crq_session.specs.declared.answers.RegAnswer.{RegAnswer}
use Rattle.crq_session.specs.declared.answers.RegAnswer.TheVariants as reg
use Rattle.crq_session.specs.declared.answers.SendAnswer.{SendAnswer}
use Rattle.crq_session.specs.declared.answers.SendAnswer.TheVariants as send
use Rattle.crq_session.specs.PlainState.{end_of}
use Rattle.crq_session.specs.declared.link.PlainLink.{PlainLink}
use Rattle.crq_session.specs.EndState.{EndPlace, EndState, OnlyPushes, OnlyReserves, OnlySends}
use Rattle.vscsi_client.specs.Frames.{HasMore, IsOpened, OnlyTurns, Renews}
use Rattle.vcpu_run.specs.Freed.{FreesNone}
use Rattle.vcpu_run.specs.DropsStay.{DropsStay}
use Rattle.vcpu_run.proofs.DropsStay.{stay_full, stay_none, stay_on, stay_puts, stay_ready, stay_same}
use Rattle.vcpu_run.specs.Announces.{Announces, HaveEvents, IsAmong, IsOnItsWay, IsAnnounced, KeepsEvent}

pub both_bools : (b : Bool) → b ≡ true → b ≡ false → ⊥
both_bools b t f = cc

no_some : (event : Entry) → None ≡ Some event → ⊥
no_some event e = cc

entry_is : (a b : Entry) → Some a ≡ Some b → a ≡ b
entry_is a b e = cc

-- rows in front of others, and behind them
front_there : (xs ys : List PipeRow) (n : ℕ) (row : PipeRow) → slice_get xs n ≡ Some row → slice_get (xs ++ ys) n ≡ Some row
front_there [] ys n row there = cc
front_there (x ∷ xs) ys zero row there = there
front_there (x ∷ xs) ys (suc n) row there = front_there xs ys n row there

behind_there : (xs ys : List PipeRow) (n : ℕ) → slice_get (xs ++ ys) (length xs + n) ≡ slice_get ys n
behind_there [] ys n = let e : length {A = PipeRow} [] + n ≡ n = omega arith in ap (slice_get ys) e
behind_there (x ∷ xs) ys n =
    let e : length (x ∷ xs) + n ≡ suc (length xs + n) = omega arith in
    ap (slice_get (x ∷ (xs ++ ys))) e ∙ behind_there xs ys n

no_events : HaveEvents []
no_events = All-nil (λ (row : PipeRow). first_byte row.entry ≡ 0xFF)

one_event : (row : PipeRow) → first_byte row.entry ≡ 0xFF → HaveEvents (row ∷ [])
one_event row says = All-cons (λ (row : PipeRow). first_byte row.entry ≡ 0xFF) row [] says no_events

-- no rows stand behind rows that are all
none_behind : (xs ys : List PipeRow) → xs ++ ys ≡ xs → ys ≡ []
none_behind xs ys same = append_cancel_left xs ys [] (same ∙ sym (append-nil xs))

-- nothing was put, and the registration and the kept event are as before
pub puts_none : (a b : EndState) → b.sent ≡ a.sent → b.kept ≡ a.kept → b.registered ≡ a.registered → b.last_session ≡ a.last_session → DropsStay a.drops b.drops → Announces a b
puts_none a b sent kept registered session drops = record {
  rows = [];
  sent = sent ∙ sym (append-nil a.sent);
  kept = λ event is on. inl (record { freed = registered ∙ is.freed; there = kept ∙ is.there });
  freed = λ was off on. absurd (both_bools a.registered was (sym registered ∙ off));
  renewed = λ was on. inl session;
  says = λ is event there. is event (sym kept ∙ there);
  off = λ is gone on. inl no_events;
  drops = drops;
}

pub puts_same : (a : EndState) → Announces a a
puts_same a = puts_none a a refl refl refl refl (stay_same a.drops a.drops refl)

pub puts_reserves : (a b : EndState) → OnlyReserves a b → Announces a b
puts_reserves a b r = puts_none a b r.sent r.kept r.registered r.last_session (stay_ready a b r)

-- more was put, and they are as before; while the queue was not registered, none was
pub puts_more : (a b : EndState) → HasMore a.sent b.sent → b.kept ≡ a.kept → b.registered ≡ a.registered → b.last_session ≡ a.last_session
    → (a.registered ≡ false → b.sent ≡ a.sent) → DropsStay a.drops b.drops → Announces a b
puts_more a b more kept registered session unsent drops = record {
  rows = more.rows;
  sent = more.is;
  kept = λ event is on. inl (record { freed = registered ∙ is.freed; there = kept ∙ is.there });
  freed = λ was off on. absurd (both_bools a.registered was (sym registered ∙ off));
  renewed = λ was on. inl session;
  says = λ is event there. is event (sym kept ∙ there);
  off = λ is gone on. inl (subst HaveEvents (sym (none_behind a.sent more.rows (sym more.is ∙ unsent (sym registered ∙ gone)))) no_events);
  drops = drops;
}

-- one call behind another, with the partner in the same session
among_front : (event : Entry) (q q' : ℕ) (rows more : List PipeRow) → q' ≡ q → IsAmong event q rows → IsAmong event q' (rows ++ more)
among_front event q q' rows more same is = record {
  number = is.number;
  row = is.row;
  there = front_there rows more is.number is.row is.there;
  session_is = is.session_is ∙ sym same;
  entry_is = is.entry_is;
}

among_behind : (event : Entry) (q : ℕ) (rows more : List PipeRow) → IsAmong event q more → IsAmong event q (rows ++ more)
among_behind event q rows more is = record {
  number = length rows + is.number;
  row = is.row;
  there = behind_there rows more is.number ∙ is.there;
  session_is = is.session_is;
  entry_is = is.entry_is;
}

pub puts_on : (a b c : EndState) → b.place.partner_registered ≡ a.place.partner_registered → c.counts.partner_session ≡ b.counts.partner_session
    → Announces a b → Announces b c → Announces a c
puts_on a b c place session first next = record {
  rows = first.rows ++ next.rows;
  sent = next.sent ∙ (ap (λ (rows : List PipeRow). rows ++ next.rows) first.sent ∙ append_assoc a.sent first.rows next.rows);
  kept = λ event is on. way_on event on (first.kept event is on);
  freed = λ was off on. freed was off on b.registered refl;
  renewed = λ was on. renewed was on b.registered refl;
  says = λ is. next.says (first.says is);
  off = λ is off on. gone is off on b.registered refl;
  drops = stay_on a.drops b.drops c.drops first.drops next.drops;
}
  where
    way_behind : (event : Entry) → IsOnItsWay event next.rows c → IsOnItsWay event (first.rows ++ next.rows) c
    way_behind event (inl is) = inl is
    way_behind event (inr is) = inr (among_behind event c.counts.partner_session first.rows next.rows is)

    way_on : (event : Entry) → a.place.partner_registered ≡ true → IsOnItsWay event first.rows b → IsOnItsWay event (first.rows ++ next.rows) c
    way_on event on (inl is) = way_behind event (next.kept event is (place ∙ on))
    way_on event on (inr is) = inr (among_front event b.counts.partner_session c.counts.partner_session first.rows next.rows session is)

    freed : a.registered ≡ true → c.registered ≡ false → a.place.partner_registered ≡ true → (r : Bool) → b.registered ≡ r → IsAnnounced (first.rows ++ next.rows) c
    freed was off on true e =
        let told = next.freed e off (place ∙ on) in
        (told.0, told.1, way_behind told.0 told.2)
    freed was off on false e =
        let told = first.freed was e on in
        (told.0, told.1, way_on told.0 on told.2)

    next_on : a.place.partner_registered ≡ true → c.last_session ≡ b.last_session → (b.last_session ≡ a.last_session) ⊎ IsAnnounced first.rows b
        → (c.last_session ≡ a.last_session) ⊎ IsAnnounced (first.rows ++ next.rows) c
    next_on on then (inl same) = inl (then ∙ same)
    next_on on then (inr told) = inr (told.0, told.1, way_on told.0 on told.2)

    later_on : a.place.partner_registered ≡ true → (b.last_session ≡ a.last_session) ⊎ IsAnnounced first.rows b → (c.last_session ≡ b.last_session) ⊎ IsAnnounced next.rows c
        → (c.last_session ≡ a.last_session) ⊎ IsAnnounced (first.rows ++ next.rows) c
    later_on on was (inl same) = next_on on same was
    later_on on was (inr told) = inr (told.0, told.1, way_behind told.0 told.2)

    renewed : a.registered ≡ true → a.place.partner_registered ≡ true → (r : Bool) → b.registered ≡ r → (c.last_session ≡ a.last_session) ⊎ IsAnnounced (first.rows ++ next.rows) c
    renewed was on true e = later_on on (first.renewed was on) (next.renewed e (place ∙ on))
    renewed was on false e =
        let told = first.freed was e on in
        inr (told.0, told.1, way_on told.0 on told.2)

    told_first : a.place.partner_registered ≡ true → IsAnnounced first.rows b → IsAnnounced (first.rows ++ next.rows) c
    told_first on told = (told.0, told.1, way_on told.0 on told.2)

    told_next : IsAnnounced next.rows c → IsAnnounced (first.rows ++ next.rows) c
    told_next told = (told.0, told.1, way_behind told.0 told.2)

    both : a.place.partner_registered ≡ true → HaveEvents first.rows ⊎ IsAnnounced first.rows b → HaveEvents next.rows ⊎ IsAnnounced next.rows c
        → HaveEvents (first.rows ++ next.rows) ⊎ IsAnnounced (first.rows ++ next.rows) c
    both on (inl events) (inl more) = inl (All-append (λ (row : PipeRow). first_byte row.entry ≡ 0xFF) first.rows next.rows events more)
    both on (inr told) more = inr (told_first on told)
    both on (inl events) (inr told) = inr (told_next told)

    gone : KeepsEvent a.kept → c.registered ≡ false → a.place.partner_registered ≡ true → (r : Bool) → b.registered ≡ r
        → HaveEvents (first.rows ++ next.rows) ⊎ IsAnnounced (first.rows ++ next.rows) c
    gone is off on true e = inr (told_next (next.freed e off (place ∙ on)))
    gone is off on false e = both on (first.off is e on) (next.off (first.says is) off (place ∙ on))

-- the first of these rows
first_among : (entry : Entry) (session q : ℕ) → session ≡ q → IsAmong entry q (record { session = session; entry = entry } ∷ [])
first_among entry session q same = record { number = 0; row = record { session = session; entry = entry }; there = refl; session_is = same; entry_is = refl }

kept_none : (kept : Option Entry) → kept ≡ None → KeepsEvent kept
kept_none kept none event there = absurd (no_some event (sym none ∙ there))

kept_some : (kept : Option Entry) (entry : Entry) → kept ≡ Some entry → first_byte entry ≡ 0xFF → KeepsEvent kept
kept_some kept entry some says event there = subst (λ (e : Entry). first_byte e ≡ 0xFF) (entry_is entry event (sym some ∙ there)) says

-- the own queue was registered
opens_settled : (shared : Bool) (a b : EndState) (kept : Option Entry) → shared ≡ false → a.kept ≡ kept → a.registered ≡ false → Settles shared kept a b → b.registered ≡ true → b.kept ≡ None
    → Announces a b
opens_settled shared a b None alone was shut none on gone = record {
  rows = [];
  sent = none.sent ∙ sym (append-nil a.sent);
  kept = λ event is partner. absurd (no_some event (sym was ∙ is.there));
  freed = λ before off partner. absurd (both_bools b.registered on off);
  renewed = λ before partner. absurd (both_bools a.registered before shut);
  says = λ is. kept_none b.kept gone;
  off = λ is off partner. absurd (both_bools b.registered on off);
  drops = stay_none a b none;
}
opens_settled shared a b (Some entry) alone was shut settles on gone = elim settles as (λ _. Announces a b) [
  | inl puts ↦ record {
    rows = record { session = b.counts.partner_session; entry = entry } ∷ [];
    sent = puts.sent;
    kept = λ event is partner.
        inr (subst (λ (e : Entry). IsAmong e b.counts.partner_session (record { session = b.counts.partner_session; entry = entry } ∷ [])) (entry_is entry event (sym was ∙ is.there))
        (first_among entry b.counts.partner_session b.counts.partner_session refl));
    freed = λ before off partner. absurd (both_bools b.registered on off);
    renewed = λ before partner. absurd (both_bools a.registered before shut);
    says = λ is. kept_none b.kept gone;
    off = λ is off partner. absurd (both_bools b.registered on off);
    drops = stay_puts shared a b entry puts;
  }
  | inr loses ↦ record {
    rows = [];
    sent = loses.none.sent ∙ sym (append-nil a.sent);
    kept = λ event is partner. absurd (both_bools a.place.partner_registered partner (loses.meets.partner alone));
    freed = λ before off partner. absurd (both_bools b.registered on off);
    renewed = λ before partner. absurd (both_bools a.registered before shut);
    says = λ is. kept_none b.kept gone;
    off = λ is off partner. absurd (both_bools b.registered on off);
    drops = stay_none a b loses.none;
  }
]

pub puts_opens : (shared : Bool) (a b : EndState) → shared ≡ false → Opens shared a b → Announces a b
puts_opens shared a b alone opens = opens_settled shared a b a.kept alone refl opens.unregistered opens.settles opens.registered opens.kept

pub puts_held : (shared : Bool) (a b : EndState) (number held : ℕ) → HoldsUp shared a b number held → Announces a b
puts_held shared a b number held up = puts_none a b up.kept.full.sent up.kept.kept (up.still ∙ sym up.unregistered) up.session (stay_full shared a b number held up.kept.full)

-- behind room that was made
pub puts_ready : (a room b : EndState) → OnlyReserves a room → b.counts.partner_session ≡ room.counts.partner_session → Announces room b → Announces a b
puts_ready a room b ready session more =
    puts_on a room b (ap (λ (p : EndPlace). p.partner_registered) ready.place) session (puts_reserves a room ready) more

-- the own queue was freed, and this event tells of it
pub puts_freed : (shared : Bool) (a b : EndState) (event : Entry) → shared ≡ false → first_byte event ≡ 0xFF → Frees shared a event b → Announces a b
puts_freed shared a b event alone says frees = elim frees.tells as (λ _. Announces a b) [
  | inl put ↦ record {
    rows = record { session = b.counts.partner_session; entry = event } ∷ [];
    sent = put.0.sent;
    kept = λ other is on. absurd (both_bools a.registered frees.registered is.freed);
    freed = λ was off on. (event, says, inr (first_among event b.counts.partner_session b.counts.partner_session refl));
    renewed = λ was on. inr (event, says, inr (first_among event b.counts.partner_session b.counts.partner_session refl));
    says = λ is. kept_none b.kept put.1;
    off = λ is off on. inr (event, says, inr (first_among event b.counts.partner_session b.counts.partner_session refl));
    drops = stay_puts shared a b event put.0;
  }
  | inr later ↦ elim later as (λ _. Announces a b) [
    | inl keeps ↦ record {
      rows = [];
      sent = keeps.full.sent ∙ sym (append-nil a.sent);
      kept = λ other is on. absurd (both_bools a.registered frees.registered is.freed);
      freed = λ was off on. (event, says, inl (record { freed = frees.freed; there = keeps.kept }));
      renewed = λ was on. inr (event, says, inl (record { freed = frees.freed; there = keeps.kept }));
      says = λ is. kept_some b.kept event keeps.kept says;
      off = λ is off on. inr (event, says, inl (record { freed = frees.freed; there = keeps.kept }));
      drops = stay_full shared a b keeps.number keeps.held keeps.full;
    }
    | inr lost ↦ record {
      rows = [];
      sent = lost.0.none.sent ∙ sym (append-nil a.sent);
      kept = λ other is on. absurd (both_bools a.registered frees.registered is.freed);
      freed = λ was off on. absurd (both_bools a.place.partner_registered on (lost.0.meets.partner alone));
      renewed = λ was on. absurd (both_bools a.place.partner_registered on (lost.0.meets.partner alone));
      says = λ is. kept_none b.kept lost.1;
      off = λ is off on. absurd (both_bools a.place.partner_registered on (lost.0.meets.partner alone));
      drops = stay_none a b lost.0.none;
    }
  ]
]

-- a turn of a login frees no queue
pub frees_none : (a b : EndState) → b.last_session ≡ a.last_session → b.registered ≡ a.registered → FreesNone a b
frees_none a b session registered kept some = registered ∙ kept (subst (λ n. 1 ≤ n) session some)

pub turn_frees : (shared : Bool) (a c : EndState) → OnlyTurns shared a c → FreesNone a c
turn_frees shared a c turns kept = frees_none turns.opened c turns.later.last_session turns.later.registered (opened turns.opens)
  where
    renewed : (renews : Renews shared a turns.opened) → 1 ≤ turns.opened.last_session → turns.opened.registered ≡ true
    renewed renews some = elim renews.opens as (λ _. turns.opened.registered ≡ true) [
      | inl opens ↦ opens.registered
      | inr meets ↦
          frees_none a turns.opened (meets.still.session ∙ renews.ready.last_session) (meets.still.still ∙ (sym meets.still.unregistered ∙ renews.ready.registered)) kept some
    ]

    opened : IsOpened shared a turns.opened → 1 ≤ turns.opened.last_session → turns.opened.registered ≡ true
    opened is some = elim is.opens as (λ _. turns.opened.registered ≡ true) [
      | inl none ↦ frees_none a turns.opened none.last_session none.registered kept some
      | inr renews ↦ renewed renews some
    ]

-- seen from the pair, by whatever borrows the end is reached
pub puts_at : (f g : Bool) (a b : List GName) (old new : PlainLink) → f ≡ false → (end_of b new g).place ≡ (end_of a old f).place
    → Announces (end_of a old f) (end_of b new g) → Announces (end_of [] old false) (end_of [] new false)
puts_at f g a b old new is place puts = at f g is (ap (λ (p : EndPlace). p.first) place ∙ is) puts
  where
    here : Announces (end_of a old false) (end_of b new false) → Announces (end_of [] old false) (end_of [] new false)
    here p = record { rows = p.rows; sent = p.sent; kept = p.kept; freed = p.freed; renewed = p.renewed; says = p.says; off = p.off; drops = p.drops }

    at : (d d' : Bool) → d ≡ false → d' ≡ false → Announces (end_of a old d) (end_of b new d') → Announces (end_of [] old false) (end_of [] new false)
    at false false e e' p = here p
    at true d' e e' p = absurd (both_bools true refl e)
    at false true e e' p = absurd (both_bools true refl e')

-- a call that puts the kept event
pub puts_pushes : (a b : EndState) → OnlyPushes false a b → Pushes false a b → Announces a b
puts_pushes a b rest pushes = at a.kept refl pushes.puts
  where
    at : (kept : Option Entry) → a.kept ≡ kept → IfSome kept (λ event. Puts false a event b) → Announces a b
    at None e puts = absurd (some_not_none a.kept pushes.some e)
      where
        some_not_none : (o : Option Entry) → IsSome o → o ≡ None → ⊥
        some_not_none None some e = cc
        some_not_none (Some x) some e = cc
    at (Some entry) e puts = record {
      rows = record { session = b.counts.partner_session; entry = entry } ∷ [];
      sent = puts.sent;
      kept = λ event is partner.
          inr (subst (λ (t : Entry). IsAmong t b.counts.partner_session (record { session = b.counts.partner_session; entry = entry } ∷ [])) (entry_is entry event (sym e ∙ is.there))
          (first_among entry b.counts.partner_session b.counts.partner_session refl));
      freed = λ was off partner. absurd (both_bools a.registered was (sym rest.registered ∙ off));
      renewed = λ was partner. inl rest.last_session;
      says = λ is. kept_none b.kept pushes.kept;
      off = λ is off partner. inl (one_event (record { session = b.counts.partner_session; entry = entry }) (is entry e));
      drops = stay_puts false a b entry puts;
    }

pub puts_nothing : (a b : EndState) → OnlyPushes false a b → PutsNone false a b → Announces a b
puts_nothing a b rest none = at a.kept refl none.loses
  where
    freed : a.registered ≡ true → b.registered ≡ false → ⊥
    freed was off = both_bools a.registered was (sym rest.registered ∙ off)

    at : (kept : Option Entry) → a.kept ≡ kept → LosesKept false kept a b → Announces a b
    at None e sends = record {
      rows = [];
      sent = sends.sent ∙ sym (append-nil a.sent);
      kept = λ event is partner. absurd (no_some event (sym e ∙ is.there));
      freed = λ was off partner. absurd (freed was off);
      renewed = λ was partner. inl rest.last_session;
      says = λ is. kept_none b.kept none.kept;
      off = λ is off partner. inl no_events;
      drops = stay_none a b sends;
    }
    at (Some entry) e loses = record {
      rows = [];
      sent = loses.none.sent ∙ sym (append-nil a.sent);
      kept = λ event is partner. absurd (both_bools a.place.partner_registered partner (loses.meets.partner refl));
      freed = λ was off partner. absurd (freed was off);
      renewed = λ was partner. inl rest.last_session;
      says = λ is. kept_none b.kept none.kept;
      off = λ is off partner. inl no_events;
      drops = stay_none a b loses.none;
    }

pub puts_kept : (a b : EndState) (number held : ℕ) → OnlyPushes false a b → StillKept false a b number held → Announces a b
puts_kept a b number held rest kept = puts_none a b kept.full.sent kept.kept rest.registered rest.last_session (stay_full false a b number held kept.full)

-- the own queue is to be registered, freed, or sent from, by the answer
pub puts_registers : (shared : Bool) (a b : EndState) (answer : RegAnswer) → shared ≡ false → OnOpened answer (Opens shared a b) → IfHeldUp answer (HoldsUp shared a b)
    → OnNotRegistered answer (OnlyReserves a b) → Announces a b
puts_registers shared a b reg.Success alone opens up none = puts_opens shared a b alone opens
puts_registers shared a b (reg.Closed control) alone opens up none = puts_opens shared a b alone opens
puts_registers shared a b (reg.Busy number held) alone opens up none = puts_held shared a b number held up
puts_registers shared a b reg.Parameter alone opens up none = puts_reserves a b none
puts_registers shared a b reg.Resource alone opens up none = puts_reserves a b none

pub puts_frees : (shared : Bool) (a b : EndState) (event : Entry) (answer : FreeAnswer) → shared ≡ false → first_byte event ≡ 0xFF → OnFreed answer (Frees shared a event b)
    → IfInUse answer (FindsInUse shared a b) → OnNotFreed answer (OnlyReserves a b) → Announces a b
puts_frees shared a b event free.Success alone says frees busy none = puts_freed shared a b event alone says frees
puts_frees shared a b event (free.Busy control) alone says frees busy none = absurd (both_bools shared busy.shared_end alone)
puts_frees shared a b event free.Parameter alone says frees busy none = puts_reserves a b none

pub puts_entry : (shared : Bool) (a b : EndState) (entry : Entry) (answer : SendAnswer) → OnlySends shared a b → IfSent answer (Sends shared a entry b)
    → IfClosed answer (TurnsBack shared a b) → IfDropped answer (FindsFull shared a b) → OnNotSent answer (OnlyReserves a b) → OnReached answer (MaySend a entry) → Announces a b
puts_entry shared a b entry answer rest sent closed dropped none may =
    puts_more a b (at answer sent closed dropped none) rest.kept rest.registered rest.last_session (λ off. unsent answer off closed dropped none may)
    (stay answer sent closed dropped none)
  where
    unsent : (answer : SendAnswer) → a.registered ≡ false → IfClosed answer (TurnsBack shared a b) → IfDropped answer (FindsFull shared a b) → OnNotSent answer (OnlyReserves a b)
        → OnReached answer (MaySend a entry) → b.sent ≡ a.sent
    unsent (send.Success number) off closed dropped none may = absurd (both_bools a.registered may.registered off)
    unsent (send.Closed control) off closed dropped none may = closed.none.sent
    unsent (send.Dropped number held) off closed dropped none may = dropped.sent
    unsent send.NotRegistered off closed dropped none may = none.sent
    unsent send.Parameter off closed dropped none may = none.sent

    stay : (answer : SendAnswer) → IfSent answer (Sends shared a entry b) → IfClosed answer (TurnsBack shared a b) → IfDropped answer (FindsFull shared a b)
        → OnNotSent answer (OnlyReserves a b) → DropsStay a.drops b.drops
    stay (send.Success number) sent closed dropped none = stay_puts shared a b entry sent.puts
    stay (send.Closed control) sent closed dropped none = stay_none a b closed.none
    stay (send.Dropped number held) sent closed dropped none = stay_full shared a b number held dropped
    stay send.NotRegistered sent closed dropped none = stay_ready a b none
    stay send.Parameter sent closed dropped none = stay_ready a b none

    same : b.sent ≡ a.sent → HasMore a.sent b.sent
    same is = record { rows = []; is = is ∙ sym (append-nil a.sent) }

    at : (answer : SendAnswer) → IfSent answer (Sends shared a entry b) → IfClosed answer (TurnsBack shared a b) → IfDropped answer (FindsFull shared a b)
        → OnNotSent answer (OnlyReserves a b) → HasMore a.sent b.sent
    at (send.Success number) sent closed dropped none = record { rows = record { session = b.counts.partner_session; entry = entry } ∷ []; is = sent.puts.sent }
    at (send.Closed control) sent closed dropped none = same closed.none.sent
    at (send.Dropped number held) sent closed dropped none = same dropped.sent
    at send.NotRegistered sent closed dropped none = same none.sent
    at send.Parameter sent closed dropped none = same none.sent
