-- That an event of a client's freeing is on its way to its server unit: over what the client's side does, and at rest.
use Rattle.std.proofs.Common.{◌≡◌, ◌∙◌, ◌⊎◌, inl, inr, ℕ, ◌+◌, ◌==◌, ◌<◌, ◌≤◌, zero, suc, Bool, true, false, cond, List, [], ◌∷◌, ◌++◌, Option, Some, None, IsNone, filter, length, map, slice_get, refl, sym, ap, ap₂, subst, arith, eqb-true, length-append}
use Rattle.std.specs.Borrow.{GName}
use Rattle.std.proofs.lemmas.Bool.Decides.{nat_tests}
use Rattle.std.proofs.lemmas.Bool.{eq-eqb}
use Rattle.std.proofs.lemmas.Option.{slice_get_within}
use Rattle.vio_num.specs.Entry.{first_byte}
use Rattle.vio_num.specs.declared.entry.Entry.{Entry}
use Rattle.crq_ring.specs.Sessions.{of_session}
use Rattle.crq_ring.specs.declared.rows.PipeRow.{PipeRow}
use Rattle.crq_session.specs.Answered.{FindsNone, HoldsUp, Opens, Takes, received_now, taken_now}
use Rattle.crq_session.specs.Answers.{IfEmpty, IfGot, IfHeldUp, OnNotPolled, OnNotRegistered, OnOpened}
use Rattle.crq_session.specs.declared.answers.PollAnswer.{PollAnswer}
use Rattle.crq_session.specs.declared.answers.PollAnswer.TheVariants as poll
use Rattle.crq_session.specs.declared.answers.RegAnswer.{RegAnswer}
use Rattle.crq_session.specs.declared.answers.RegAnswer.TheVariants as reg
use Rattle.crq_session.specs.EndState.{EndPlace, EndState, OnlyRegisters, OnlyReserves, OnlyTakes}
use Rattle.crq_session.specs.PlainState.{end_of, side_of}
use Rattle.crq_session.specs.declared.link.PlainLink.{PlainLink}
use Rattle.block_server.specs.Owed.{IsEventAhead, IsEventKept, IsLossAhead, SeesAnswers}
use Rattle.vcpu_run.specs.declared.pair.Pair.{Pair}
use Rattle.vcpu_run.specs.Announces.{IsAmong, IsOnItsWay, IsAnnounced}
use Rattle.vcpu_run.specs.Answered.{IsBehind}
use Rattle.vcpu_run.specs.Pairs.{Drives}
use Rattle.vcpu_run.specs.Sessions.{entries_of}
use Rattle.vcpu_run.proofs.QueueLaws.{entries_are}

-- the entries of a session among rows
entries_append : (q : ℕ) (xs ys : List PipeRow) → entries_of q (xs ++ ys) ≡ entries_of q xs ++ entries_of q ys
entries_append q [] ys = refl
entries_append q (x ∷ xs) ys = at (x.session == q) (entries_append q xs ys)
  where
    in_q : List PipeRow → List PipeRow
    in_q rows = filter (λ row. row.session == q) rows

    at : (b : Bool) → entries_of q (xs ++ ys) ≡ entries_of q xs ++ entries_of q ys
        → map (λ (row : PipeRow). row.entry) (cond b (x ∷ in_q (xs ++ ys)) (in_q (xs ++ ys))) ≡ map (λ (row : PipeRow). row.entry) (cond b (x ∷ in_q xs) (in_q xs)) ++ entries_of q ys
    at true rest = ap (λ (es : List Entry). x.entry ∷ es) rest
    at false rest = rest

row_is : (a b : PipeRow) → Some a ≡ Some b → a ≡ b
row_is a b e = cc

pub entries_there : (q : ℕ) (rows : List PipeRow) (n : ℕ) (row : PipeRow) → slice_get rows n ≡ Some row → row.session ≡ q → (j : ℕ) × (slice_get (entries_of q rows) j ≡ Some row.entry)
entries_there q [] n row there is = cc
entries_there q (x ∷ xs) zero row there is =
    let same : x ≡ row = row_is x row there in
    let here : (x.session == q) ≡ true = eq-eqb x.session q (ap (λ (r : PipeRow). r.session) same ∙ is) in (
      0,
      ap (λ b. slice_get (map (λ (r : PipeRow). r.entry) (cond b (x ∷ filter (λ (r : PipeRow). r.session == q) xs) (filter (λ (r : PipeRow). r.session == q) xs))) 0) here
          ∙ ap (λ (r : PipeRow). Some r.entry) same,
    )
entries_there q (x ∷ xs) (suc n) row there is = at (x.session == q) (entries_there q xs n row there is)
  where
    at : (b : Bool) → (j : ℕ) × (slice_get (entries_of q xs) j ≡ Some row.entry)
        → (j : ℕ) × (slice_get (map (λ (r : PipeRow). r.entry) (cond b (x ∷ filter (λ (r : PipeRow). r.session == q) xs) (filter (λ (r : PipeRow). r.session == q) xs))) j ≡ Some row.entry)
    at true rest = (suc rest.0, rest.1)
    at false rest = rest

pub of_append : (q : ℕ) (xs ys : List PipeRow) → of_session q (xs ++ ys) ≡ of_session q xs ++ of_session q ys
of_append q xs ys =
    entries_are q (xs ++ ys) ∙ (entries_append q xs ys ∙ sym (ap₂ (λ (a b : List Entry). a ++ b) (entries_are q xs) (entries_are q ys)))

of_none : (q : ℕ) → of_session q [] ≡ []
of_none q = entries_are q []

-- entries in front of others, and behind them
front_there : (xs ys : List Entry) (n : ℕ) (entry : Entry) → slice_get xs n ≡ Some entry → slice_get (xs ++ ys) n ≡ Some entry
front_there [] ys n entry there = cc
front_there (x ∷ xs) ys zero entry there = there
front_there (x ∷ xs) ys (suc n) entry there = front_there xs ys n entry there

behind_there : (xs ys : List Entry) (n : ℕ) → slice_get (xs ++ ys) (length xs + n) ≡ slice_get ys n
behind_there [] ys n = let e : length {A = Entry} [] + n ≡ n = omega arith in ap (slice_get ys) e
behind_there (x ∷ xs) ys n =
    let e : length (x ∷ xs) + n ≡ suc (length xs + n) = omega arith in
    ap (slice_get (x ∷ (xs ++ ys))) e ∙ behind_there xs ys n

-- what was taken in the session is a front of what was received
pub behind_same : (a b : EndState) → b.last_session ≡ a.last_session → b.taken ≡ a.taken → b.place ≡ a.place → IsBehind a → IsBehind b
behind_same a b session taken place is =
    let took : taken_now b ≡ taken_now a = ap₂ of_session session taken in
    let got : received_now b ≡ received_now a = ap₂ of_session session (ap (λ (p : EndPlace). p.received) place) in
    let long = ap length took in
    let whole = ap length got in
    let low = is.low in
    record {
      low = omega (arith, low, long, whole);
      same = λ k less.
          ap (λ (es : List Entry). slice_get es k) got ∙ (is.same k (omega (arith, less, long)) ∙ ap (λ (es : List Entry). slice_get es k) (sym took));
    }

-- a front of a list, and what stands behind it
front_same : (xs ys : List Entry) (k : ℕ) → k < length xs → slice_get (xs ++ ys) k ≡ slice_get xs k
front_same [] ys k less = absurd (omega (arith, less))
front_same (x ∷ xs) ys zero less = refl
front_same (x ∷ xs) ys (suc k) less = front_same xs ys k (omega (arith, less))

last_there : (xs : List Entry) (entry : Entry) → slice_get (xs ++ entry ∷ []) (length xs) ≡ Some entry
last_there [] entry = refl
last_there (x ∷ xs) entry = last_there xs entry

-- one entry more of it
front_next : (received taken : List Entry) (number : ℕ) (entry : Entry) → number ≡ length taken → slice_get received number ≡ Some entry
    → ((k : ℕ) → k < length taken → slice_get received k ≡ slice_get taken k) → (k : ℕ) → k < length (taken ++ entry ∷ []) → slice_get received k ≡ slice_get (taken ++ entry ∷ []) k
front_next received taken number entry at there same k less = by (k == length taken) refl
  where
    apart : (k == length taken) ≡ false → k < length taken
    apart e = let sum = length-append taken (entry ∷ []) in grind (arith, nat_tests, less, sum, e)

    by : (b : Bool) → (k == length taken) ≡ b → slice_get received k ≡ slice_get (taken ++ entry ∷ []) k
    by true e =
        let is : k ≡ length taken = eqb-true k (length taken) e in
        ap (slice_get received) (is ∙ sym at) ∙ (there ∙ (sym (last_there taken entry) ∙ ap (slice_get (taken ++ entry ∷ [])) (sym is)))
    by false e = same k (apart e) ∙ sym (front_same taken (entry ∷ []) k (apart e))

pub behind_takes : (a b : EndState) (number : ℕ) (entry : Entry) → b.last_session ≡ a.last_session → b.place ≡ a.place → Takes false a b number entry → IsBehind a → IsBehind b
behind_takes a b number entry session place takes is =
    let row : PipeRow = record { session = a.last_session; entry = entry } in
    let took : taken_now b ≡ taken_now a ++ of_session a.last_session (row ∷ []) =
    ap₂ of_session session takes.taken ∙ of_append a.last_session a.taken (row ∷ []) in
    let one : of_session a.last_session (row ∷ []) ≡ entry ∷ [] =
    entries_are a.last_session (row ∷ []) ∙ ap (λ b. map (λ (r : PipeRow). r.entry) (cond b (row ∷ []) [])) (eq-eqb a.last_session a.last_session refl) in
    let got : received_now b ≡ received_now a = ap₂ of_session session (ap (λ (p : EndPlace). p.received) place) in
    let whole : taken_now b ≡ taken_now a ++ entry ∷ [] = took ∙ ap (λ (es : List Entry). taken_now a ++ es) one in
    let less = slice_get_within (received_now a) number entry (takes.there refl) in
    let long = ap length whole in
    let sum = length-append (taken_now a) (entry ∷ []) in
    let all = ap length got in
    let at = takes.number_is in
    record {
      low = omega (arith, less, long, sum, all, at);
      same = λ k within.
          ap (λ (es : List Entry). slice_get es k) got
          ∙ (front_next (received_now a) (taken_now a) number entry takes.number_is (takes.there refl) is.same k (omega (arith, within, long))
          ∙ ap (λ (es : List Entry). slice_get es k) (sym whole));
    }

pub behind_opens : (a b : EndState) → Opens false a b → IsBehind b
behind_opens a b opens = let none = ap length opens.none_taken in record { low = omega (arith, none); same = λ k less. absurd (omega (arith, less, none)) }

behind_grows : (q q' : ℕ) (taken taken' received rows received' : List PipeRow) → q' ≡ q → taken' ≡ taken → received' ≡ received ++ rows
    → length (of_session q taken) ≤ length (of_session q received) → length (of_session q' taken') ≤ length (of_session q' received')
behind_grows q q' taken taken' received rows received' session same grown is =
    let took : of_session q' taken' ≡ of_session q taken = ap₂ of_session session same in
    let got : of_session q' received' ≡ of_session q received ++ of_session q rows = ap₂ of_session session grown ∙ of_append q received rows in
    let long = ap length took in
    let whole = ap length got in
    let sum = length-append (of_session q received) (of_session q rows) in
    omega (arith, is, long, whole, sum)

front_grows : (q q' : ℕ) (taken taken' received rows received' : List PipeRow) → q' ≡ q → taken' ≡ taken → received' ≡ received ++ rows
    → length (of_session q taken) ≤ length (of_session q received) → ((k : ℕ) → k < length (of_session q taken) → slice_get (of_session q received) k ≡ slice_get (of_session q taken) k)
    → (k : ℕ) → k < length (of_session q' taken') → slice_get (of_session q' received') k ≡ slice_get (of_session q' taken') k
front_grows q q' taken taken' received rows received' session same grown low is k less =
    let took : of_session q' taken' ≡ of_session q taken = ap₂ of_session session same in
    let got : of_session q' received' ≡ of_session q received ++ of_session q rows = ap₂ of_session session grown ∙ of_append q received rows in
    let long = ap length took in
    ap (λ (es : List Entry). slice_get es k) got
    ∙ (front_same (of_session q received) (of_session q rows) k (omega (arith, less, long, low))
    ∙ (is k (omega (arith, less, long)) ∙ ap (λ (es : List Entry). slice_get es k) (sym took)))

pub behind_driven : (old new : Pair) → Drives old new → IsBehind (end_of [] old.link true) → IsBehind (end_of [] new.link true)
behind_driven old new d is = record {
  low = behind_grows (side_of old.link true).queue.session (side_of new.link true).queue.session (side_of old.link true).queue.taken (side_of new.link true).queue.taken
      (side_of old.link true).queue.sent d.puts.rows (side_of new.link true).queue.sent d.server_session d.server_taken d.puts.sent is.low;
  same = front_grows (side_of old.link true).queue.session (side_of new.link true).queue.session (side_of old.link true).queue.taken (side_of new.link true).queue.taken
      (side_of old.link true).queue.sent d.puts.rows (side_of new.link true).queue.sent d.server_session d.server_taken d.puts.sent is.low is.same;
}

-- an event that was put stands ahead
ahead_among : (old new : Pair) (d : Drives old new) (event : Entry) → IsBehind (end_of [] old.link true) → first_byte event ≡ 0xFF
    → IsAmong event (side_of new.link true).queue.session d.puts.rows → IsEventAhead (end_of [] new.link true)
ahead_among old new d event is says among =
    let q = (side_of old.link true).queue.session in
    let received = (side_of old.link true).queue.sent in
    let there = entries_there q d.puts.rows among.number among.row among.there (among.session_is ∙ d.server_session) in
    let got : of_session (side_of new.link true).queue.session (side_of new.link true).queue.sent ≡ of_session q received ++ of_session q d.puts.rows =
    ap₂ of_session d.server_session d.puts.sent ∙ of_append q received d.puts.rows in
    let took = ap length (ap₂ of_session d.server_session d.server_taken) in
    record {
      number = length (of_session q received) + there.0;
      event = event;
      there = ap (λ (es : List Entry). slice_get es (length (of_session q received) + there.0)) got
          ∙ (behind_there (of_session q received) (of_session q d.puts.rows) there.0
          ∙ (ap (λ (es : List Entry). slice_get es there.0) (entries_are q d.puts.rows) ∙ (there.1 ∙ ap Some among.entry_is)));
      ahead = let low = is.low in omega (arith, low, took);
      says = says;
    }

pub comes_by : (old new : Pair) (d : Drives old new) (event : Entry) → IsBehind (end_of [] old.link true) → first_byte event ≡ 0xFF
    → IsOnItsWay event d.puts.rows (end_of [] new.link false) → IsEventAhead (end_of [] new.link true) ⊎ IsEventKept (end_of [] new.link true)
comes_by old new d event is says (inl kept) = inr (record { event = event; kept = kept.there; says = says })
comes_by old new d event is says (inr among) = inl (ahead_among old new d event is says among)

-- an end that is registered keeps no event
pub unregistered : (side : PlainLink) (event : Entry) → (side_of side false).kept ≡ Some event → (side_of side false).registered ≡ false
unregistered link event kept = at (side_of link false).registered refl
  where
    no_event : (o : Option Entry) → o ≡ Some event → o ≡ None → ⊥
    no_event o is none = cc

    at : (b : Bool) → (side_of link false).registered ≡ b → (side_of link false).registered ≡ false
    at false e = e
    at true e = absurd (no_event (side_of link false).kept kept (none_of (side_of link false).kept ((side_of link false).idle e)))
      where
        none_of : (o : Option Entry) → IsNone o → o ≡ None
        none_of None is = refl
        none_of (Some x) is = cc

-- what a client's partition leaves of its server unit's queue
pub sees_driven : (old new : Pair) → Drives old new → IsBehind (end_of [] old.link true) → SeesAnswers (end_of [] old.link true) (end_of [] new.link true)
sees_driven old new d is = record {
  session = d.server_session;
  registered = d.server_registered;
  ahead = λ loss. record { registered = d.server_registered ∙ loss.registered; comes = still loss.registered loss.comes };
  gone = λ on off. gone on off (side_of old.link false).registered refl;
}
  where
    still : (side_of old.link true).registered ≡ true → IsEventAhead (end_of [] old.link true) ⊎ IsEventKept (end_of [] old.link true)
        → IsEventAhead (end_of [] new.link true) ⊎ IsEventKept (end_of [] new.link true)
    still on (inl ahead) =
        let q = (side_of old.link true).queue.session in
        let received = (side_of old.link true).queue.sent in
        let got : of_session (side_of new.link true).queue.session (side_of new.link true).queue.sent ≡ of_session q received ++ of_session q d.puts.rows =
        ap₂ of_session d.server_session d.puts.sent ∙ of_append q received d.puts.rows in
        let took = ap length (ap₂ of_session d.server_session d.server_taken) in
        let before = ahead.ahead in
        inl (record {
          number = ahead.number;
          event = ahead.event;
          there = ap (λ (es : List Entry). slice_get es ahead.number) got ∙ front_there (of_session q received) (of_session q d.puts.rows) ahead.number ahead.event ahead.there;
          ahead = omega (arith, before, took);
          says = ahead.says;
        })
    still on (inr kept) =
        comes_by old new d kept.event is kept.says
        (d.puts.kept kept.event (record { freed = unregistered old.link kept.event kept.kept; there = kept.kept }) on)

    gone : (side_of old.link true).registered ≡ true → (side_of new.link false).registered ≡ false → (b : Bool) → (side_of old.link false).registered ≡ b
        → ((side_of old.link false).registered ≡ false) ⊎ IsLossAhead (end_of [] new.link true)
    gone on off false e = inl e
    gone on off true e =
        let told : IsAnnounced d.puts.rows (end_of [] new.link false) = d.puts.freed e off on in
        inr (record { registered = d.server_registered ∙ on; comes = comes_by old new d told.0 is told.1 told.2 })

-- the same link, by whatever borrow its end is reached
sees_here : (a b : List GName) (link : PlainLink) → SeesAnswers (end_of a link true) (end_of b link true)
sees_here a b link = record {
  session = refl;
  registered = refl;
  ahead = λ loss. record { registered = loss.registered; comes = comes loss.comes };
  gone = λ on off. inl off;
}
  where
    comes : IsEventAhead (end_of a link true) ⊎ IsEventKept (end_of a link true) → IsEventAhead (end_of b link true) ⊎ IsEventKept (end_of b link true)
    comes (inl h) = inl (record { number = h.number; event = h.event; there = h.there; ahead = h.ahead; says = h.says })
    comes (inr h) = inr (record { event = h.event; kept = h.kept; says = h.says })

pub sees_lent : (f : Bool) (a b : List GName) (link lent : PlainLink) → f ≡ true → lent ≡ link → SeesAnswers (end_of a link true) (end_of b lent f)
sees_lent f a b link lent is same =
    subst (λ d. SeesAnswers (end_of a link true) (end_of b lent d)) (sym is)
    (subst (λ l. SeesAnswers (end_of a link true) (end_of b l true)) (sym same) (sees_here a b link))

pub sees_back : (f : Bool) (a b : List GName) (link : PlainLink) → f ≡ true → SeesAnswers (end_of b link f) (end_of a link true)
sees_back f a b link is = subst (λ d. SeesAnswers (end_of b link d) (end_of a link true)) (sym is) (sees_here b a link)

-- no event is on its way to a queue all of which was taken, and of which the client keeps none
pub none_ahead : (a : List GName) (link : PlainLink) → received_now (end_of a link true) ≡ taken_now (end_of a link true) → (side_of link false).kept ≡ None
    → IsLossAhead (end_of a link true) → ⊥
none_ahead a link all none loss = at loss.comes
  where
    no_event : (event : Entry) → None ≡ Some event → ⊥
    no_event event e = cc

    at : IsEventAhead (end_of a link true) ⊎ IsEventKept (end_of a link true) → ⊥
    at (inl ahead) =
        let less = slice_get_within (received_now (end_of a link true)) ahead.number ahead.event ahead.there in
        let long = ap length all in
        let before = ahead.ahead in
        omega (arith, less, long, before)
    at (inr kept) = no_event kept.event (sym none ∙ kept.kept)

pub sees_same : (queue : EndState) → SeesAnswers queue queue
sees_same queue = record { session = refl; registered = refl; ahead = λ loss. loss; gone = λ on off. inl off }

pub behind_none : (link : PlainLink) → (side_of link true).queue.taken ≡ [] → IsBehind (end_of [] link true)
behind_none link none =
    let long : length (taken_now (end_of [] link true)) ≡ 0 = ap length (ap (of_session (side_of link true).queue.session) none ∙ of_none (side_of link true).queue.session) in
    record { low = omega (arith, long); same = λ k less. absurd (omega (arith, less, long)) }

pub behind_back : (f : Bool) (a b : List GName) (link : PlainLink) → f ≡ true → IsBehind (end_of b link f) → IsBehind (end_of a link true)
behind_back f a b link is behind = here (subst (λ d. IsBehind (end_of b link d)) is behind)
  where
    here : IsBehind (end_of b link true) → IsBehind (end_of a link true)
    here h = record { low = h.low; same = h.same }

pub behind_polls : (a b : EndState) (answer : PollAnswer) → OnlyTakes false a b → IfGot answer (Takes false a b) → IfEmpty answer (FindsNone false a b)
    → OnNotPolled answer (OnlyReserves a b) → IsBehind a → IsBehind b
behind_polls a b (poll.Got number entry) rest got empty none is = behind_takes a b number entry rest.last_session rest.place got is
behind_polls a b (poll.Empty number) rest got empty none is = behind_same a b rest.last_session empty.taken rest.place is
behind_polls a b poll.NotRegistered rest got empty none is = behind_same a b none.last_session none.taken none.place is

pub behind_registers : (a b : EndState) (answer : RegAnswer) → OnlyRegisters false a b → OnOpened answer (Opens false a b) → IfHeldUp answer (HoldsUp false a b)
    → OnNotRegistered answer (OnlyReserves a b) → IsBehind a → IsBehind b
behind_registers a b reg.Success rest opens up none is = behind_opens a b opens
behind_registers a b (reg.Closed control) rest opens up none is = behind_opens a b opens
behind_registers a b (reg.Busy number held) rest opens up none is = behind_same a b up.session rest.taken rest.place is
behind_registers a b reg.Parameter rest opens up none is = behind_same a b none.last_session none.taken none.place is
behind_registers a b reg.Resource rest opens up none is = behind_same a b none.last_session none.taken none.place is
