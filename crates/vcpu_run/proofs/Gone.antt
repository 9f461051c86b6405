-- Over the calls of a server unit's end, and over what its client's side does: while the client is gone an event says so, or nothing was
-- received.
use Rattle.std.proofs.Common.{◌≡◌, ◌∙◌, ◌⊎◌, inl, inr, ℕ, ◌==◌, zero, suc, Bool, true, false, cond, All, List, [], ◌∷◌, ◌++◌, Option, Some, None, filter, length, map, slice_get, refl, sym, ap, ap₂, subst}
use Rattle.std.specs.Borrow.{GName}
use Rattle.std.proofs.lemmas.Bool.{eq-eqb}
use Rattle.std.proofs.lemmas.List.Elements.{All-cons, All-head, All-nil, All-tail, filter-append}
use Rattle.vio_num.specs.Entry.{first_byte}
use Rattle.vio_num.specs.declared.entry.Entry.{Entry}
use Rattle.crq_ring.specs.Sessions.{of_session}
use Rattle.crq_ring.specs.declared.rows.PipeRow.{PipeRow}
use Rattle.crq_session.specs.Answered.{FindsInUse, Frees, HoldsUp, Opens, received_now}
use Rattle.crq_session.specs.Answers.{IfHeldUp, IfInUse, OnFreed, OnNotFreed, OnNotRegistered, OnOpened}
use Rattle.crq_session.specs.declared.answers.FreeAnswer.{FreeAnswer}
use Rattle.crq_session.specs.declared.answers.FreeAnswer.TheVariants as free
use Rattle.crq_session.specs.declared.answers.RegAnswer.{RegAnswer}
use Rattle.crq_session.specs.declared.answers.RegAnswer.TheVariants as reg
use Rattle.crq_session.specs.EndState.{EndPlace, EndState, OnlyFrees, OnlyRegisters, OnlyReserves}
use Rattle.crq_session.specs.PlainState.{end_of, side_of}
use Rattle.crq_session.specs.declared.link.PlainLink.{PlainLink}
use Rattle.block_server.specs.Closings.{is_event}
use Rattle.vcpu_run.specs.declared.pair.Pair.{Pair}
use Rattle.vcpu_run.specs.Announces.{HaveEvents, IsOnItsWay, IsAnnounced, KeepsEvent}
use Rattle.vcpu_run.specs.Gone.{HeardNoEvent, HearsEvent, IsToldOfGone}
use Rattle.vcpu_run.specs.Pairs.{Drives}
use Rattle.vcpu_run.specs.Sessions.{entries_of}
use Rattle.vcpu_run.proofs.Losing.{entries_there, of_append, unregistered}
use Rattle.vcpu_run.proofs.QueueLaws.{entries_are}

both_bools : (b : Bool) → b ≡ true → b ≡ false → ⊥
both_bools b is other = cc (is, other)

-- THE CALLS OF THE END ---------------------------------------------------------------------------

-- The place, the session and the registration stay.
pub gone_same : (a b : EndState) → b.place ≡ a.place → b.last_session ≡ a.last_session → b.registered ≡ a.registered → IsToldOfGone a → IsToldOfGone b
gone_same a b place session registered is = record {
  says = λ event there. is.says event (sym (ap (λ (p : EndPlace). p.partner_kept) place) ∙ there);
  gone = λ on off none. ap length got ∙ is.gone (sym registered ∙ on) (sym (ap (λ (p : EndPlace). p.partner_registered) place) ∙ off) (record {
    kept = sym (ap (λ (p : EndPlace). p.partner_kept) place) ∙ none.kept;
    none = ap (filter is_event) (sym got) ∙ none.none;
  });
}
  where
    got : received_now b ≡ received_now a
    got = ap₂ of_session session (ap (λ (p : EndPlace). p.received) place)

-- An event that was heard stays so.
pub hears_same : (a b : EndState) → b.place ≡ a.place → b.last_session ≡ a.last_session → b.registered ≡ true → HearsEvent a → HearsEvent b
hears_same a b place session on is = record {
  registered = on;
  says = λ event there. is.says event (sym (ap (λ (p : EndPlace). p.partner_kept) place) ∙ there);
  heard = λ none. is.heard (record {
    kept = sym (ap (λ (p : EndPlace). p.partner_kept) place) ∙ none.kept;
    none = ap (filter is_event) (sym (ap₂ of_session session (ap (λ (p : EndPlace). p.received) place))) ∙ none.none;
  });
}

gone_off : (a b : EndState) → b.place ≡ a.place → b.registered ≡ false → IsToldOfGone a → IsToldOfGone b
gone_off a b place off is = record {
  says = λ event there. is.says event (sym (ap (λ (p : EndPlace). p.partner_kept) place) ∙ there);
  gone = λ on. absurd (both_bools b.registered on off);
}

gone_opens : (a b : EndState) → b.place ≡ a.place → Opens false a b → IsToldOfGone a → IsToldOfGone b
gone_opens a b place opens is = record {
  says = λ event there. is.says event (sym (ap (λ (p : EndPlace). p.partner_kept) place) ∙ there);
  gone = λ on off none. ap length (opens.none_received refl);
}

pub gone_registers : (a b : EndState) (answer : RegAnswer) → OnlyRegisters false a b → OnOpened answer (Opens false a b) → IfHeldUp answer (HoldsUp false a b)
    → OnNotRegistered answer (OnlyReserves a b) → IsToldOfGone a → IsToldOfGone b
gone_registers a b reg.Success rest opens up none is = gone_opens a b rest.place opens is
gone_registers a b (reg.Closed control) rest opens up none is = gone_opens a b rest.place opens is
gone_registers a b (reg.Busy number held) rest opens up none is = gone_off a b rest.place up.still is
gone_registers a b reg.Parameter rest opens up none is = gone_same a b none.place none.last_session none.registered is
gone_registers a b reg.Resource rest opens up none is = gone_same a b none.place none.last_session none.registered is

pub gone_frees : (a b : EndState) (event : Entry) (answer : FreeAnswer) → OnlyFrees false a b → OnFreed answer (Frees false a event b) → IfInUse answer (FindsInUse false a b)
    → OnNotFreed answer (OnlyReserves a b) → IsToldOfGone a → IsToldOfGone b
gone_frees a b event free.Success rest frees busy none is = gone_off a b rest.place frees.freed is
gone_frees a b event (free.Busy control) rest frees busy none is = absurd (both_bools false busy.shared_end refl)
gone_frees a b event free.Parameter rest frees busy none is = gone_same a b none.place none.last_session none.registered is

-- THE CLIENT'S SIDE ------------------------------------------------------------------------------

-- the entries of a session among rows of events are events
abbrev pub AreEvents : List Entry → Type 0
AreEvents entries = All (λ entry. first_byte entry ≡ 0xFF) entries

events_of : (q : ℕ) (rows : List PipeRow) → HaveEvents rows → AreEvents (entries_of q rows)
events_of q [] events = All-nil (λ (entry : Entry). first_byte entry ≡ 0xFF)
events_of q (row ∷ rows) events = at (row.session == q) (events_of q rows (All-tail Says row rows events)) (All-head Says row rows events)
  where
    Says : PipeRow → Type 0
    Says row = first_byte row.entry ≡ 0xFF

    in_q : List PipeRow → List PipeRow
    in_q rows = filter (λ row. row.session == q) rows

    at : (b : Bool) → AreEvents (entries_of q rows) → Says row → AreEvents (map (λ (row : PipeRow). row.entry) (cond b (row ∷ in_q rows) (in_q rows)))
    at true rest says = All-cons (λ (entry : Entry). first_byte entry ≡ 0xFF) row.entry (entries_of q rows) says rest
    at false rest says = rest

-- an event among entries of which none is one
event_is : (entry : Entry) → first_byte entry ≡ 0xFF → is_event entry ≡ true
event_is entry says = eq-eqb (first_byte entry) 0xFF says

kept_first : (entry : Entry) (entries : List Entry) → is_event entry ≡ true → filter is_event (entry ∷ entries) ≡ [] → ⊥
kept_first entry entries is none = some (sym (first is) ∙ none)
  where
    first : is_event entry ≡ true → filter is_event (entry ∷ entries) ≡ entry ∷ filter is_event entries
    first e = rw e refl

    some : entry ∷ filter is_event entries ≡ [] → ⊥
    some same = cc (same)

all_none : (entries : List Entry) → AreEvents entries → filter is_event entries ≡ [] → entries ≡ []
all_none [] events none = refl
all_none (entry ∷ entries) events none = absurd (kept_first entry entries (event_is entry (All-head (λ (entry : Entry). first_byte entry ≡ 0xFF) entry entries events)) none)

there_none : (entries : List Entry) (n : ℕ) (entry : Entry) → slice_get entries n ≡ Some entry → first_byte entry ≡ 0xFF → filter is_event entries ≡ [] → ⊥
there_none [] n entry there says none = cc (there)
there_none (first ∷ entries) zero entry there says none = kept_first first entries (event_is first (subst (λ (e : Entry). first_byte e ≡ 0xFF) (sym (same there)) says)) none
  where
    same : Some first ≡ Some entry → first ≡ entry
    same e = cc (e)
there_none (first ∷ entries) (suc n) entry there says none = there_none entries n entry there says (rest (is_event first) refl none)
  where
    rest : (b : Bool) → is_event first ≡ b → filter is_event (first ∷ entries) ≡ [] → filter is_event entries ≡ []
    rest true is none = absurd (kept_first first entries is none)
    rest false is none = sym (skip is) ∙ none
      where
        skip : is_event first ≡ false → filter is_event (first ∷ entries) ≡ filter is_event entries
        skip e = rw e refl

empty : (entries : List Entry) → length entries ≡ 0 → entries ≡ []
empty [] none = refl
empty (entry ∷ entries) none = absurd (cc (none))

-- of entries of which none is an event
none_front : (entries more : List Entry) → filter is_event (entries ++ more) ≡ [] → filter is_event entries ≡ []
none_front entries more none = front (filter is_event entries) (filter is_event more) (sym (filter-append is_event entries more) ∙ none)
  where
    front : (xs ys : List Entry) → xs ++ ys ≡ [] → xs ≡ []
    front [] ys same = refl
    front (x ∷ xs) ys same = absurd (cc (same))

none_behind : (entries more : List Entry) → filter is_event (entries ++ more) ≡ [] → filter is_event more ≡ []
none_behind entries more none = behind (filter is_event entries) (filter is_event more) (sym (filter-append is_event entries more) ∙ none)
  where
    behind : (xs ys : List Entry) → xs ++ ys ≡ [] → ys ≡ []
    behind [] ys same = same
    behind (x ∷ xs) ys same = absurd (cc (same))

module _ (old new : Pair) (d : Drives old new) where
  abbrev q : ℕ
  q = (side_of old.link true).queue.session

  grown : received_now (end_of [] new.link true) ≡ received_now (end_of [] old.link true) ++ of_session q d.puts.rows
  grown = ap₂ of_session d.server_session d.puts.sent ∙ of_append q (side_of old.link true).queue.sent d.puts.rows

  none_put : HeardNoEvent (end_of [] new.link true) → filter is_event (of_session q d.puts.rows) ≡ []
  none_put none = none_behind (received_now (end_of [] old.link true)) (of_session q d.puts.rows) (sym (ap (filter is_event) grown) ∙ none.none)

  none_was : HeardNoEvent (end_of [] new.link true) → filter is_event (received_now (end_of [] old.link true)) ≡ []
  none_was none = none_front (received_now (end_of [] old.link true)) (of_session q d.puts.rows) (sym (ap (filter is_event) grown) ∙ none.none)

  -- no event is on its way
  not_on_its_way : (event : Entry) → first_byte event ≡ 0xFF → HeardNoEvent (end_of [] new.link true) → IsOnItsWay event d.puts.rows (end_of [] new.link false) → ⊥
  not_on_its_way event says none (inl kept) = some (sym none.kept ∙ kept.there)
    where
      some : None ≡ Some event → ⊥
      some same = cc (same)
  not_on_its_way event says none (inr among) =
      let there = entries_there q d.puts.rows among.number among.row among.there (among.session_is ∙ d.server_session) in
      there_none (entries_of q d.puts.rows) there.0 among.row.entry there.1 (subst (λ (e : Entry). first_byte e ≡ 0xFF) (sym among.entry_is) says)
      (ap (filter is_event) (sym (entries_are q d.puts.rows)) ∙ none_put none)

  -- nor was one before
  none_kept : (side_of old.link true).registered ≡ true → KeepsEvent (side_of old.link false).kept → HeardNoEvent (end_of [] new.link true) → (side_of old.link false).kept ≡ None
  none_kept on says none = at (side_of old.link false).kept refl
    where
      at : (kept : Option Entry) → (side_of old.link false).kept ≡ kept → (side_of old.link false).kept ≡ None
      at None is = is
      at (Some event) is = absurd (not_on_its_way event (says event is) none (d.puts.kept event (record { freed = unregistered old.link event is; there = is }) on))

  no_event : (side_of old.link true).registered ≡ true → KeepsEvent (side_of old.link false).kept → HeardNoEvent (end_of [] new.link true) → HeardNoEvent (end_of [] old.link true)
  no_event on says none = record { kept = none_kept on says none; none = none_was none }

  pub hears_driven : HearsEvent (end_of [] old.link true) → HearsEvent (end_of [] new.link true)
  hears_driven is = record { registered = d.server_registered ∙ is.registered; says = d.puts.says is.says; heard = λ none. is.heard (no_event is.registered is.says none) }

  pub gone_driven : IsToldOfGone (end_of [] old.link true) → IsToldOfGone (end_of [] new.link true)
  gone_driven is = record {
    says = d.puts.says is.says;
    gone = λ on off none. by (sym d.server_registered ∙ on) off none (side_of old.link false).registered refl (d.puts.off is.says off (sym d.server_registered ∙ on));
  }
    where
      untold : HeardNoEvent (end_of [] new.link true) → IsAnnounced d.puts.rows (end_of [] new.link false) → ⊥
      untold none told = not_on_its_way told.0 told.1 none told.2

      by : (side_of old.link true).registered ≡ true → (side_of new.link false).registered ≡ false → HeardNoEvent (end_of [] new.link true) → (r : Bool) → (side_of old.link false).registered ≡ r
          → HaveEvents d.puts.rows ⊎ IsAnnounced d.puts.rows (end_of [] new.link false) → length (received_now (end_of [] new.link true)) ≡ 0
      by on off none r was (inr told) = absurd (untold none told)
      by on off none true was (inl events) = absurd (untold none (d.puts.freed was off on))
      by on off none false was (inl events) = ap length (grown
          ∙ ap₂ (λ (a b : List Entry). a ++ b) (empty (received_now (end_of [] old.link true)) (is.gone on was (no_event on is.says none)))
          (all_none (of_session q d.puts.rows) (subst AreEvents (sym (entries_are q d.puts.rows)) (events_of q d.puts.rows events)) (none_put none)))

-- BY WHATEVER BORROW THE END IS REACHED ----------------------------------------------------------

pub gone_here : (a b : List GName) (link : PlainLink) → IsToldOfGone (end_of a link true) → IsToldOfGone (end_of b link true)
gone_here a b link is = record { says = is.says; gone = λ on off none. is.gone on off (record { kept = none.kept; none = none.none }) }

pub hears_here : (a b : List GName) (link : PlainLink) → HearsEvent (end_of a link true) → HearsEvent (end_of b link true)
hears_here a b link is = record { registered = is.registered; says = is.says; heard = λ none. is.heard (record { kept = none.kept; none = none.none }) }

pub hears_lent : (f : Bool) (a b : List GName) (link lent : PlainLink) → f ≡ true → lent ≡ link → HearsEvent (end_of a link true) → HearsEvent (end_of b lent f)
hears_lent f a b link lent is same hears =
    subst (λ d. HearsEvent (end_of b lent d)) (sym is) (subst (λ l. HearsEvent (end_of b l true)) (sym same) (hears_here a b link hears))

pub hears_back : (f : Bool) (a b : List GName) (link : PlainLink) → f ≡ true → HearsEvent (end_of b link f) → HearsEvent (end_of a link true)
hears_back f a b link is hears = hears_here b a link (subst (λ d. HearsEvent (end_of b link d)) is hears)

pub gone_back : (f : Bool) (a b : List GName) (link : PlainLink) → f ≡ true → IsToldOfGone (end_of b link f) → IsToldOfGone (end_of a link true)
gone_back f a b link is gone = gone_here b a link (subst (λ d. IsToldOfGone (end_of b link d)) is gone)
