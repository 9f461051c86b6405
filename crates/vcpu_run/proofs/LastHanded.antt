-- In a gathered trace of idle units the answers of a login that no line cuts off, and of those behind it, are the last of its client's last session.
use Rattle.std.proofs.Common.{◌≡◌, ◌⊎◌, inl, inr, ◌∙◌, ◌+◌, ◌==◌, ◌<◌, ◌≤◌, ◌++◌, ℕ, zero, suc, Bool, true, false, cond, All, List, [], ◌∷◌, Option, Some, IfSome, filter, if◌then◌else◌, length, map, slice_get, option_map, refl, sym, ap, subst, arith, eq-eqb, eqb-true, length-append}
use Rattle.std.proofs.Math.Logic.{∥∥₁_elim, ∥∥₁_map₂, ∥∥₁_prop}
use Rattle.std.proofs.lemmas.List.Elements.{filter-append}
use Rattle.vio_num.specs.declared.entry.Entry.{Entry}
use Rattle.vio_num.specs.declared.history.Grant.{Grant}
use Rattle.vio_num.specs.declared.history.Grant.TheVariants.{Granted}
use Rattle.vio_num.specs.declared.history.Served.{Served}
use Rattle.vio_num.specs.declared.names.UnitId.{UnitId}
use Rattle.crq_ring.specs.Pipe.{IsLawfulPipe, PipeValue}
use Rattle.crq_ring.specs.declared.rows.PipeRow.{PipeRow}
use Rattle.crq_session.specs.PlainState.{end_of, side_of}
use Rattle.crq_session.specs.declared.link.PlainLink.{PlainLink}
use Rattle.rdma_copy.specs.declared.copy.CopyRecord.{CopyRecord}
use Rattle.block_server.specs.Answering.{answers_of, responses}
use Rattle.block_server.specs.Entries.{is_response}
use Rattle.block_server.specs.Owed.{IsCutOff}
use Rattle.block_server.specs.Ready.{HasNothing}
use Rattle.block_server.specs.declared.unit.Unit.{Unit}
use Rattle.block_server.proofs.Rows.{answers_append}
use Rattle.boot_text.specs.declared.plan.Partition.{Partition}
use Rattle.boot_text.specs.declared.plan.UnitPlan.TheVariants as units
use Rattle.lan_script.specs.Units.{LanValue}
use Rattle.lan_script.specs.declared.rows.LanRows.{LanRows}
use Rattle.vio_trace.specs.declared.rows.QueueRow.{QueueRow}
use Rattle.vio_trace.specs.declared.rows.Trace.{Trace}
use Rattle.vcpu_run.specs.declared.pair.Pair.{Pair}
use Rattle.vcpu_run.specs.declared.script.Script.{Script}
use Rattle.vcpu_run.specs.declared.unit_seat.Seat.TheVariants as sits
use Rattle.vcpu_run.specs.declared.unit_seat.UnitSeat.{UnitSeat}
use Rattle.vcpu_run.specs.Answered.{AreAnswered, AreBegun}
use Rattle.vcpu_run.specs.AnswersSent.{responses_to}
use Rattle.vcpu_run.specs.CopyRows.{same_unit}
use Rattle.vcpu_run.specs.Freeing.{NoneBreaks}
use Rattle.vcpu_run.specs.Gathered.{HasLawfulQueue, queue_at, rows_if, sessions_at, trace_of}
use Rattle.vcpu_run.specs.LastGiven.{AreEarlier, AreLastGiven, IsEventComing, IsLastGiven, most_now, responses_now}
use Rattle.vcpu_run.specs.Links.{ClientWaits, EventWaits, link_state, links_of}
use Rattle.vcpu_run.specs.Machines.{AreScripts, IsOfPlan}
use Rattle.vcpu_run.specs.Pairs.{AreOfOneHome}
use Rattle.vcpu_run.specs.Received.{AreAtRest}
use Rattle.vcpu_run.specs.Sessions.{entries_of, session_rows, sessions_from}
use Rattle.vcpu_run.specs.Settled.{LastIsTakenIf, script_of}
use Rattle.vcpu_run.specs.Shown.{sessions_of}
use Rattle.vcpu_run.specs.Units.{seats_of, unit_seat}
use Rattle.vcpu_run.specs.WholeLogins.{AreLastOf, LastAreHandedOver, last_sent, last_taken}
use Rattle.vcpu_run.proofs.Copied.{names_apart}
use Rattle.vcpu_run.proofs.Following.{each_from_all, ordered_from}
use Rattle.vcpu_run.proofs.GivenAnswers.{keeps_none}
use Rattle.vcpu_run.proofs.InSessions.{in_session}
use Rattle.vcpu_run.proofs.Listed.{held, held_is}
use Rattle.vcpu_run.proofs.Losing.{none_ahead}
use Rattle.vcpu_run.proofs.Parts.{IsIn, each_in, found}
use Rattle.vcpu_run.proofs.Placing.{seats_ordered}
use Rattle.vcpu_run.proofs.QueueLaws.{entries_are, sessions_told}
use Rattle.vcpu_run.proofs.Seated.{planned_in}
use Rattle.vcpu_run.proofs.SentTo.{answers_are}
use Rattle.vcpu_run.proofs.Resting.{link_at}
use Rattle.vcpu_run.proofs.Settling.{client_waits, emptied, handed_are, unfreed_taken}
use Rattle.vcpu_run.proofs.Sole.{same_refl}
use Rattle.lan_script.proofs.Order.{Each, Ordered}

-- THE LAST SESSION -------------------------------------------------------------------------------

none_here : (q : ℕ) (rows : List PipeRow) → Each (λ (row : PipeRow). q < row.session) rows → entries_of q rows ≡ []
none_here q [] all = refl
none_here q (row ∷ rows) all = at (none_here q rows all.1) (row.session == q) refl
  where
    at : entries_of q rows ≡ [] → (b : Bool) → (row.session == q) ≡ b → entries_of q (row ∷ rows) ≡ []
    at rest true e = let same = eqb-true row.session q e in let less : q < row.session = all.0 in absurd (omega (arith, same, less))
    at rest false e = ap (λ b. map (λ (r : PipeRow). r.entry) (cond b (row ∷ in_session q rows) (in_session q rows))) e ∙ rest

all_here : (q : ℕ) (rows : List PipeRow) → Each (λ (row : PipeRow). q ≤ row.session) rows → Each (λ (row : PipeRow). row.session ≤ q) rows → map (λ (r : PipeRow). r.entry) rows ≡ entries_of q rows
all_here q [] low high = refl
all_here q (row ∷ rows) low high =
    let most : row.session ≤ q = high.0 in
    let least : q ≤ row.session = low.0 in
    let here : (row.session == q) ≡ true = eq-eqb row.session q (omega (arith, most, least)) in
    ap (λ (es : List Entry). row.entry ∷ es) (all_here q rows low.1 high.1)
    ∙ sym (ap (λ b. map (λ (r : PipeRow). r.entry) (cond b (row ∷ in_session q rows) (in_session q rows))) here)

-- rows in the order of their sessions, of which this is the last
last_split : (q : ℕ) (rows : List PipeRow) → Ordered (λ (a b : PipeRow). a.session ≤ b.session) rows → Each (λ (row : PipeRow). row.session ≤ q) rows
    → (early : List Entry) × (map (λ (r : PipeRow). r.entry) rows ≡ early ++ entries_of q rows)
last_split q [] ordered all = ([], refl)
last_split q (row ∷ rows) ordered all = at (last_split q rows ordered.1 all.1) (row.session == q) refl
  where
    at : (early : List Entry) × (map (λ (r : PipeRow). r.entry) rows ≡ early ++ entries_of q rows) → (b : Bool) → (row.session == q) ≡ b → (early : List Entry) × (map (λ (r : PipeRow). r.entry) (row ∷ rows) ≡ early ++ entries_of q (row ∷ rows))
    at rest true e = (
      [],
      all_here q (row ∷ rows) (let same = eqb-true row.session q e in (omega (arith, same), subst (λ n. Each (λ (r : PipeRow). n ≤ r.session) rows) same ordered.0)) all,
    )
    at rest false e = (
      row.entry ∷ rest.0,
      ap (λ (es : List Entry). row.entry ∷ es) rest.1
          ∙ ap (λ (es : List Entry). row.entry ∷ (rest.0 ++ es)) (sym (ap (λ b. map (λ (r : PipeRow). r.entry) (cond b (row ∷ in_session q rows) (in_session q rows))) e)),
    )

-- what stands behind is the end of a list that is as long at least
suffix : (xs ys us vs : List Entry) → xs ++ ys ≡ us ++ vs → length vs ≤ length ys → (front : List Entry) × (ys ≡ front ++ vs)
suffix [] ys us vs same less = (us, same)
suffix (x ∷ xs) ys [] vs same less =
    let long = ap length same in
    let sum = length-append (x ∷ xs) ys in
    absurd (omega (arith, long, sum, less))
suffix (x ∷ xs) ys (u ∷ us) vs same less = suffix xs ys us vs (tail (x ∷ (xs ++ ys)) (u ∷ (us ++ vs)) same) less
  where
    behind : List Entry → List Entry
    behind [] = []
    behind (e ∷ es) = es

    tail : (one other : List Entry) → one ≡ other → behind one ≡ behind other
    tail one other e = ap behind e

last_from : (unit : UnitId) (pipe : PipeValue) (q n : ℕ) → last_sent (sessions_from unit pipe q (suc n)) ≡ entries_of (q + n) pipe.sent
last_from unit pipe q zero = let e : q ≡ q + 0 = omega arith in ap (λ m. entries_of m pipe.sent) e
last_from unit pipe q (suc n) = let e : q + 1 + n ≡ q + suc n = omega arith in last_from unit pipe (q + 1) n ∙ ap (λ m. entries_of m pipe.sent) e

last_is : (unit : UnitId) (pipe : PipeValue) → AreBegun pipe.sent → last_sent (session_rows unit pipe) ≡ entries_of pipe.session pipe.sent
last_is unit pipe begun = at pipe.session
  where
    at : (n : ℕ) → last_sent (sessions_from unit pipe 1 n) ≡ entries_of n pipe.sent
    at zero = sym (none_here 0 pipe.sent (each_from_all (λ (row : PipeRow). 1 ≤ row.session) pipe.sent begun))
    at (suc n) = let e : 1 + n ≡ suc n = omega arith in last_from unit pipe 1 n ∙ ap (λ m. entries_of m pipe.sent) e

last_same : (rows : List QueueRow) → LastIsTakenIf rows → last_taken rows ≡ last_sent rows
last_same [] is = refl
last_same (row ∷ []) is = is
last_same (row ∷ next ∷ rows) is = last_same (next ∷ rows) is

-- AT REST ----------------------------------------------------------------------------------------

most_least : (link : PlainLink) → most_now link ≤ responses_now link
most_least link = at (side_of link false).registered
  where
    at : (b : Bool) → (if b then responses_now link else 0) ≤ responses_now link
    at true = omega arith
    at false = omega arith

-- the answers of rows at the end are the last responses of the last session
pub ends_with : (unit : UnitId) (pipe : PipeValue) (history before behind : List Served) → IsLawfulPipe pipe → history ≡ before ++ behind → responses pipe.sent ≡ answers_of unit history
    → length (answers_of unit behind) ≤ length (filter is_response (entries_of pipe.session pipe.sent))
    → (front : List Entry) × (filter is_response (entries_of pipe.session pipe.sent) ≡ front ++ answers_of unit behind)
ends_with unit pipe history before behind laws parts same few =
    let split = last_split pipe.session pipe.sent (ordered_from (λ (a b : PipeRow). a.session ≤ b.session) pipe.sent laws.sent.in_order)
    (each_from_all (λ (row : PipeRow). row.session ≤ pipe.session) pipe.sent laws.sent.none_later) in
    suffix (filter is_response split.0) (filter is_response (entries_of pipe.session pipe.sent)) (answers_of unit before) (answers_of unit behind)
    (sym (filter-append is_response split.0 (entries_of pipe.session pipe.sent))
    ∙ (ap (filter is_response) (sym split.1) ∙ (same ∙ (ap (answers_of unit) parts ∙ answers_append unit before behind)))) few

-- none are no more than 0
none_few : (entries : List Entry) → length entries ≤ 0 → entries ≡ []
none_few [] few = refl
none_few (entry ∷ entries) few = absurd (omega (arith, few))

-- a queue that is not registered got none in its session
most_none : (link : PlainLink) → (side_of link false).registered ≡ false → most_now link ≡ 0
most_none link off = ap {B = ℕ} (λ b. cond b (responses_now link) 0) off

-- What is so of a login of a pair whose link has no event on its way.
at_rest : (partitions : List Partition) (trace : Trace) (server client : UnitId) (pair : Pair) (history : List Served) (grants : List Grant) (session login : ℕ) → trace.serves ≡ history → trace.grants ≡ grants
    → IsLawfulPipe (side_of pair.link false).queue → pair.own.unit ≡ server → pair.server ≡ server
    → last_sent (sessions_of trace client) ≡ entries_of (side_of pair.link false).queue.session (side_of pair.link false).queue.sent
    → responses_to trace client ≡ answers_of server trace.serves
    → (NoneBreaks (script_of partitions client.partition) → last_taken (sessions_of trace client) ≡ last_sent (sessions_of trace client))
    → ((side_of pair.link false).registered ≡ true → last_taken (sessions_of trace client) ≡ last_sent (sessions_of trace client))
    → responses (side_of pair.link false).queue.sent ≡ answers_of pair.server history → (IsEventComing (end_of [] pair.link true) → ⊥)
    → IsLastGiven pair.own.unit pair.link grants history session login → IsCutOff server trace.grants session login ⊎ AreLastOf partitions trace server client login
at_rest partitions trace server client pair history grants session login serves lines laws own name last_row once handed stays same quiet (inl cut) =
    inl (subst (λ (all : List Grant). IsCutOff server all session login) (sym lines) (subst (λ (id : UnitId). IsCutOff id grants session login) own cut))
at_rest partitions trace server client pair history grants session login serves lines laws own name last_row once handed stays same quiet (inr (inl comes)) = absurd (quiet comes)
at_rest partitions trace server client pair history grants session login serves lines laws own name last_row once handed stays same quiet (inr (inr few)) =
    let pipe : PipeValue = (side_of pair.link false).queue in
    let least = most_least pair.link in
    let most = few.few in
    let now = ap (λ (es : List Entry). length (filter is_response es)) (entries_are pipe.session pipe.sent) in
    let ours = ap (λ (id : UnitId). length (answers_of id few.behind)) own in
    let ends = ends_with server pipe history few.before few.behind laws few.parts (same ∙ ap (λ (id : UnitId). answers_of id history) name) (omega (arith, least, most, now, ours)) in
    let sent : filter is_response (last_sent (sessions_of trace client)) ≡ ends.0 ++ answers_of server few.behind = ap (filter is_response) last_row ∙ ends.1 in
    inr (record {
      before = few.before;
      behind = few.behind;
      parts = serves ∙ few.parts;
      earlier = subst (λ (id : UnitId). AreEarlier id login few.before) own few.earlier;
      once = once;
      front = ends.0;
      sent = sent;
      handed = given (side_of pair.link false).registered refl few.behind (ends.0) sent (subst (λ (id : UnitId). length (answers_of id few.behind) ≤ most_now pair.link) own few.few);
      taken = λ none. ap (filter is_response) (handed none) ∙ sent;
    })
  where
    given : (b : Bool) → (side_of pair.link false).registered ≡ b → (behind : List Served) (front : List Entry)
        → filter is_response (last_sent (sessions_of trace client)) ≡ front ++ answers_of server behind → length (answers_of server behind) ≤ most_now pair.link
        → (answers_of server behind ≡ []) ⊎ (filter is_response (last_taken (sessions_of trace client)) ≡ front ++ answers_of server behind)
    given true on behind front sent few = inr (ap (filter is_response) (stays on) ∙ sent)
    given false off behind front sent few = inl (none_few (answers_of server behind) (omega (arith, few, most_none pair.link off)))

pub last_are_handed_over : (pairs : List Pair) (scripts : List Script) (lan : LanValue) (rows : LanRows) (history : List Served) (grants : List Grant) (copies : List CopyRecord) (partitions : List Partition)
    → AreOfOneHome copies pairs → AreScripts pairs lan.seats scripts → All (HasLawfulQueue pairs) (seats_of scripts)
    → IsOfPlan partitions pairs scripts lan.seats → AreAnswered history pairs → AreAtRest copies grants history pairs scripts
    → LastAreHandedOver partitions (trace_of pairs scripts lan rows history grants copies)
last_are_handed_over pairs scripts lan rows history grants copies partitions home are lawful plan answered rests server client serves drives =
    let there = held (λ (pair : Pair). pair.server ≡ server) (slice_get pairs server.unit) (plan.pairs_are.servers server serves) in
    let pair : Pair = there.0 in
    let pipe : PipeValue = (side_of pair.link true).queue in
    let client_pipe : PipeValue = (side_of pair.link false).queue in
    let seats = seats_of scripts in
    let own_seat : UnitSeat = unit_seat server.partition server.unit sits.Server in
    let inside : IsIn own_seat seats = planned_in partitions pairs scripts lan.seats server (units.Server serves.0) are plan serves.1 in
    let queue : queue_at pairs own_seat ≡ Some pipe = ap (option_map (λ (pair : Pair). (side_of pair.link true).queue)) there.1 in
    let laws : IsLawfulPipe pipe =
    subst (λ slot. IfSome slot IsLawfulPipe) queue (each_in (HasLawfulQueue pairs) own_seat seats inside (each_from_all (HasLawfulQueue pairs) seats lawful)) in
    let seat : UnitSeat = unit_seat client.partition client.unit (sits.Client server.unit) in
    let sits : IsIn seat seats = planned_in partitions pairs scripts lan.seats client (units.Client server drives.0 drives.1) are plan drives.2 in
    let client_queue : queue_at pairs seat ≡ Some client_pipe = ap (option_map (λ (pair : Pair). (side_of pair.link false).queue)) there.1 in
    let client_laws : IsLawfulPipe client_pipe =
    subst (λ slot. IfSome slot IsLawfulPipe) client_queue (each_in (HasLawfulQueue pairs) seat seats sits (each_from_all (HasLawfulQueue pairs) seats lawful)) in
    let trace : Trace = trace_of pairs scripts lan rows history grants copies in
    let sessions : sessions_of trace client ≡ session_rows client client_pipe =
    found (λ (row : QueueRow). same_unit row.unit client) (λ (other : UnitSeat). same_unit other.unit client) (sessions_at pairs) seat (same_refl client) seats sits
    (sessions_told pairs client seats) (names_apart client seats (seats_ordered pairs lan.seats scripts are))
    ∙ ap (rows_if (session_rows client)) client_queue in
    let is = answered server.unit pair there.1 in
    let own : pair.own.unit ≡ server = (home.pairs_are server.unit pair there.1).own_unit ∙ there.2 in
    let rest = emptied rests.units pairs scripts lan.seats partitions server pair are lawful plan rests.idle serves there.1 there.2 in
    let u = held HasNothing (slice_get rests.units server.unit) rest.1 in
    let event : EventWaits pair =
    subst (λ (o : Option Pair). IfSome o EventWaits) there.1 (client_waits rests.units pairs scripts lan.seats partitions client server plan rests.idle serves drives).1 in
    let waits : ClientWaits (link_state pair.link) =
    held_is ClientWaits (slice_get (links_of pairs) server.unit) (link_state pair.link) (link_at pairs server.unit pair there.1)
    (client_waits rests.units pairs scripts lan.seats partitions client server plan rests.idle serves drives).0 in
    let quiet : IsEventComing (end_of [] pair.link true) → ⊥ =
    λ comes. none_ahead [] pair.link rest.0.taken (keeps_none pair laws.some_slots rest.0 event) (record { registered = rest.0.registered; comes = comes }) in
    let last_row : last_sent (sessions_of trace client) ≡ entries_of client_pipe.session client_pipe.sent = ap last_sent sessions ∙ last_is client client_pipe is.begun in
    λ place session login number credits some line.
    ∥∥₁_elim (rests.received server.unit pair there.1).last ∥∥₁_prop
    (λ last. ∥∥₁_map₂ is.answers
    (subst (λ (o : Option Unit). IfSome o (λ u. AreLastGiven pair.own.unit pair.link grants history)) u.1 last place session login number credits some
    (subst (λ (id : UnitId). slice_get grants place ≡ Some (Granted id session login number credits)) (sym own) line))
    (λ same given. at_rest partitions trace server client pair history grants session login refl refl client_laws own there.2 last_row
    (answers_are pairs scripts lan rows history grants copies partitions are lawful plan answered server client serves drives)
    (λ none. last_same (sessions_of trace client)
    (handed_are pairs scripts lan rows history grants copies partitions rests.units are plan rests.idle rests.unfreed rests.over client server drives none))
    (λ on. last_same (sessions_of trace client) (subst LastIsTakenIf (sym sessions) (unfreed_taken client pair (λ some. on) waits))) same quiet given))
