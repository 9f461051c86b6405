-- To which ports a frame that is sent is offered, by where they stand in their replays.
use Rattle.std.proofs.Common.{◌≡◌, ◌⊎◌, ◌≤◌, ◌+◌, ◌<◌, ◌==◌, ◌++◌, inl, inr, ℕ, arith, Bool, true, false, true≢false, All, IfOk, IsSomeAnd, IsTrue, List, [], ◌∷◌, Option, Some, None, Result, Ok, Err, filter, length, map, slice_get, refl, sym, ◌∙◌, ap, subst}
use Rattle.std.proofs.lemmas.Bool.{eqb-true}
use Rattle.std.proofs.lemmas.List.{append-nil, append_assoc}
use Rattle.std.proofs.lemmas.List.Elements.{All-cons, All-head, All-nil, All-tail}
use Rattle.vio_num.specs.Words.{Begins}
use Rattle.vio_num.specs.declared.memory.NoMemory.{NoMemory}
use Rattle.vio_num.specs.declared.names.Mac.{Mac}
use Rattle.vio_num.specs.declared.names.UnitId.{UnitId}
use Rattle.tce_window.specs.declared.piece.Piece.{Piece}
use Rattle.tce_window.specs.PortState.{PortState}
use Rattle.lan_buffers.specs.Buffer.{frame_offset}
use Rattle.lan_buffers.specs.Calls.{AcceptsTo, FindsNoBuffer, FindsNoSize}
use Rattle.lan_buffers.specs.Pools.{has_size, post_len, sizes_with, with_size}
use Rattle.lan_buffers.specs.Port.{PortValue, now as session_now}
use Rattle.lan_buffers.specs.declared.rows.PostRow.{PostRow as Post}
use Rattle.lan_buffers.specs.declared.answers.Deliver.{Deliver}
use Rattle.lan_buffers.specs.declared.answers.Deliver.TheVariants as sent
use Rattle.lan_switch.specs.declared.answers.Offer.{Offer}
use Rattle.lan_switch.specs.declared.answers.SendRecord.{SendRecord}
use Rattle.lan_switch.specs.declared.station.Station.{Station}
use Rattle.lan_switch.specs.Sending.{AreOffered, GoesOut, IsSent, LanWindows, Offering, OffersFrame, SaysFrame, Takes, is_numbered, next_name, next_number, offering, to_of as sent_to}
use Rattle.lan_switch.specs.Switch.{AreAscending, order_of, port_of, same_unit, unit_of}
use Rattle.lan_frame.specs.Station.{IsGroup}
use Rattle.vio_trace.specs.declared.lan_rows.DeliverRow.{DeliverRow}
use Rattle.vio_trace.specs.declared.lan_rows.FrameRow.{FrameRow}
use Rattle.vio_trace.specs.declared.lan_rows.Offered.{Offered}
use Rattle.vio_trace.specs.declared.lan_rows.Offered.TheVariants as offered
use Rattle.lan_script.specs.Frames.{frame_row_of, offered_as}
use Rattle.lan_script.specs.PortReplay.{PortReplay}
use Rattle.lan_script.specs.Replayed.{bytes_sent, lengths_of, replay_of}
use Rattle.lan_script.specs.Targets.{GoesNoLater, IsTarget, OffersAt, OffersMade, OffersTo, SpentFor, least_for, offers_to}
use Rattle.lan_script.specs.RowsOf.{CountsRows}
use Rattle.lan_script.specs.declared.rows.LanRows.{LanRows}
use Rattle.lan_script.specs.Spent.{Grows, IsNamed, PortGrows, WasSpent}
use Rattle.lan_script.specs.Units.{LanValue, to_of}
use Rattle.lan_script.specs.Invariant.{HaveBegun}
use Rattle.lan_script.proofs.Bringing.{begun_at}
use Rattle.lan_script.proofs.Gains.{apart_from, rows_of}
use Rattle.lan_script.proofs.Keys.{port_head, port_tail}
use Rattle.lan_script.proofs.Order.{Each}
use Rattle.lan_script.proofs.Placing.{by_bool, one_unit, same_some}

-- ---- the lengths of posts, and the different ones among them

size_among : (P : ℕ → Type 0) (size : ℕ) (sizes : List ℕ) → has_size size sizes ≡ true → All P sizes → P size
size_among P size [] e all = absurd (cc (e))
size_among P size (x ∷ xs) e all =
    by_bool (x == size) (P size) (λ is. subst P (eqb-true x size is) (All-head P x xs all))
    (λ isnt. size_among P size xs (later isnt) (All-tail P x xs all))
  where
    later : (x == size) ≡ false → has_size size xs ≡ true
    later f = sym (past f) ∙ e
      where
        past : (x == size) ≡ false → has_size size (x ∷ xs) ≡ has_size size xs
        past g = rw g refl

-- what is so of the lengths with one more
size_more : (P : ℕ → Type 0) (size : ℕ) (sizes : List ℕ) → All P (with_size size sizes) → All P sizes × P size
size_more P size sizes all = by_bool (has_size size sizes) (All P sizes × P size) (λ e. among e (subst (λ l. All P l) (kept e) all))
    (λ e. (front sizes (subst (λ l. All P l) (more e) all), last sizes (subst (λ l. All P l) (more e) all)))
  where
    kept : has_size size sizes ≡ true → with_size size sizes ≡ sizes
    kept e = rw e refl

    more : has_size size sizes ≡ false → with_size size sizes ≡ sizes ++ size ∷ []
    more e = rw e refl

    among : has_size size sizes ≡ true → All P sizes → All P sizes × P size
    among e all' = (all', size_among P size sizes e all')

    front : (xs : List ℕ) → All P (xs ++ size ∷ []) → All P xs
    front [] h = All-nil P
    front (x ∷ xs) h = All-cons P x xs (All-head P x (xs ++ size ∷ []) h) (front xs (All-tail P x (xs ++ size ∷ []) h))

    last : (xs : List ℕ) → All P (xs ++ size ∷ []) → P size
    last [] h = All-head P size [] h
    last (x ∷ xs) h = last xs (All-tail P x (xs ++ size ∷ []) h)

-- what is so of the different lengths of posts is so of each
sizes_all : (P : ℕ → Type 0) (found : List ℕ) (posts : List Post) → All P (sizes_with found posts) → All P found × All P (map post_len posts)
sizes_all P found [] all = (all, All-nil P)
sizes_all P found (post ∷ posts) all =
    let rest = sizes_all P (with_size (post_len post) found) posts all in
    let here = size_more P (post_len post) found rest.0 in
    (here.0, All-cons P (post_len post) (map post_len posts) here.1 rest.1)

-- ---- the offers of a frame to one port

-- An offer to a port, and what the port made of the frame.
record Answers (o : Offering) (stations : List Station) (v : UnitId) (told : List Offered) : Type 0 where
  port : PortValue
  here : port_of stations v ≡ Some port
  accepts : AcceptsTo port (sent_to o.frame)
  answer : Deliver
  told_is : told ≡ offered_as answer ∷ []
  small : answer ≡ sent.NoSize → FindsNoSize port (length o.frame)
  spent : answer ≡ sent.NoBuffer → FindsNoBuffer port (length o.frame)

-- No offer to a port. Of a frame to a group it is no target.
record PassesBy (o : Offering) (all : Bool) (stations : List Station) (v : UnitId) (told : List Offered) : Type 0 where
  told_is : told ≡ []
  none : all ≡ true → same_unit v o.name.who ≡ false → (port : PortValue) → port_of stations v ≡ Some port → AcceptsTo port (sent_to o.frame) → ⊥

-- one of both
abbrev Meets : Offering → Bool → List Station → UnitId → List Offered → Type 0
Meets o all stations v told = Answers o stations v told ⊎ PassesBy o all stations v told

-- the offers with one more
to_own : (o : Offering) (u v : UnitId) (answer : Deliver) (later : List Offer) → same_unit u v ≡ true
    → offers_to v (rows_of o (record { unit = u; answer = answer } ∷ later)) ≡ offered_as answer ∷ offers_to v (rows_of o later)
to_own o u v answer later e = rw e refl

to_other : (o : Offering) (u v : UnitId) (answer : Deliver) (later : List Offer) → same_unit u v ≡ false
    → offers_to v (rows_of o (record { unit = u; answer = answer } ∷ later)) ≡ offers_to v (rows_of o later)
to_other o u v answer later e = rw e refl

-- none is to a unit that is none of these
none_to : (o : Offering) (all : Bool) (old new : List Station) (offers : List Offer) (v : UnitId) → AreOffered o all old new offers
    → Each (λ (s : Station). same_unit (unit_of s) v ≡ false) old → offers_to v (rows_of o offers) ≡ []
none_to o all [] [] offers v h apart = ap (λ l. offers_to v (rows_of o l)) h
none_to o all [] (n ∷ news) offers v h apart = absurd h
none_to o all (s ∷ olds) [] offers v h apart = absurd h
none_to o true (s ∷ olds) (n ∷ news) offers v (inl (answer, later, is, takes, rest)) apart =
    ap (λ l. offers_to v (rows_of o l)) is ∙ to_other o (unit_of s) v answer later apart.0 ∙ none_to o true olds news later v rest apart.1
none_to o false (s ∷ olds) (n ∷ news) offers v (inl (answer, later, is, takes, rest)) apart =
    ap (λ l. offers_to v (rows_of o l)) is ∙ to_other o (unit_of s) v answer later apart.0 ∙ ap (λ l. offers_to v (rows_of o l)) rest.0
none_to o all (s ∷ olds) (n ∷ news) offers v (inr (passed, rest)) apart = none_to o all olds news offers v rest apart.1

-- past a station of another unit
meets_past : (o : Offering) (all : Bool) (s : Station) (olds : List Station) (v : UnitId) (told told' : List Offered) → same_unit (unit_of s) v ≡ false
    → told' ≡ told → Meets o all olds v told → Meets o all (s ∷ olds) v told'
meets_past o all s olds v told told' e same (inl h) = inl (record {
  port = h.port;
  here = port_tail v s olds e ∙ h.here;
  accepts = h.accepts;
  answer = h.answer;
  told_is = same ∙ h.told_is;
  small = h.small;
  spent = h.spent;
})
meets_past o all s olds v told told' e same (inr h) = inr (record {
  told_is = same ∙ h.told_is;
  none = λ group other port at accepts. h.none group other port (sym (port_tail v s olds e) ∙ at) accepts;
})

-- the station of the unit takes the offer
meets_own : (o : Offering) (all : Bool) (s n : Station) (olds : List Station) (answer : Deliver) (v : UnitId) (told : List Offered) → Takes o s n answer
    → same_unit (unit_of s) v ≡ true → told ≡ offered_as answer ∷ [] → Meets o all (s ∷ olds) v told
meets_own o all s n olds answer v told takes e is = inl (record {
  port = s.port;
  here = port_head v s olds e;
  accepts = takes.target.accepts;
  answer = answer;
  told_is = is;
  small = λ none. takes.offered.no_size.0 none;
  spent = λ none. takes.offered.no_buffer.0 none;
})

-- What the offers say of each unit's port.
meets : (o : Offering) (all : Bool) (old new : List Station) (offers : List Offer) (v : UnitId) → AreOffered o all old new offers
    → AreAscending (map unit_of old) → Meets o all old v (offers_to v (rows_of o offers))
meets o all [] [] offers v h ascending = inr (record { told_is = ap (λ l. offers_to v (rows_of o l)) h; none = λ group other port at accepts. cc (at) })
meets o all [] (n ∷ news) offers v h ascending = absurd h
meets o all (s ∷ olds) [] offers v h ascending = absurd h
meets o true (s ∷ olds) (n ∷ news) offers v (inl (answer, later, is, takes, rest)) ascending =
    by_bool (same_unit (unit_of s) v) (Meets o true (s ∷ olds) v (offers_to v (rows_of o offers)))
    (λ e.
    meets_own o true s n olds answer v (offers_to v (rows_of o offers)) takes e
    (ap (λ l. offers_to v (rows_of o l)) is ∙ to_own o (unit_of s) v answer later e
    ∙ ap (λ l. offered_as answer ∷ l) (none_to o true olds news later v rest (apart_from s olds v e ascending))))
    (λ e.
    meets_past o true s olds v (offers_to v (rows_of o later)) (offers_to v (rows_of o offers)) e
    (ap (λ l. offers_to v (rows_of o l)) is ∙ to_other o (unit_of s) v answer later e) (meets o true olds news later v rest ascending.1))
meets o false (s ∷ olds) (n ∷ news) offers v (inl (answer, later, is, takes, rest)) ascending =
    by_bool (same_unit (unit_of s) v) (Meets o false (s ∷ olds) v (offers_to v (rows_of o offers)))
    (λ e.
    meets_own o false s n olds answer v (offers_to v (rows_of o offers)) takes e
    (ap (λ l. offers_to v (rows_of o l)) is ∙ to_own o (unit_of s) v answer later e
    ∙ ap (λ l. offered_as answer ∷ offers_to v (rows_of o l)) rest.0))
    (λ e. inr (record {
      told_is = ap (λ l. offers_to v (rows_of o l)) is ∙ to_other o (unit_of s) v answer later e ∙ ap (λ l. offers_to v (rows_of o l)) rest.0;
      none = λ group other port at accepts. true≢false (sym group);
    }))
meets o all (s ∷ olds) (n ∷ news) offers v (inr (passed, rest)) ascending =
    by_bool (same_unit (unit_of s) v) (Meets o all (s ∷ olds) v (offers_to v (rows_of o offers)))
    (λ e. inr (record {
      told_is = none_to o all olds news offers v rest (apart_from s olds v e ascending);
      none = λ group other port at accepts.
          passed.0 (record {
            other = subst (λ (u : UnitId). same_unit u o.name.who ≡ false) (sym (one_unit (unit_of s) v e)) other;
            accepts = subst (λ (p : PortValue). AcceptsTo p (sent_to o.frame)) (same_some port s.port (sym at ∙ port_head v s olds e)) accepts;
          });
    }))
    (λ e. meets_past o all s olds v (offers_to v (rows_of o offers)) (offers_to v (rows_of o offers)) e refl (meets o all olds news offers v rest ascending.1))

-- a port that stands behind a station is of a later unit
later_port : (n : ℕ) (ss : List Station) (v : UnitId) (port : PortValue) → All (λ other. n < order_of other) (map unit_of ss) → port_of ss v ≡ Some port
    → n < order_of v
later_port n [] v port all at = absurd (cc (at))
later_port n (s ∷ ss) v port all at =
    by_bool (same_unit (unit_of s) v) (n < order_of v)
    (λ e. subst (λ (u : UnitId). n < order_of u) (one_unit (unit_of s) v e) (All-head (λ other. n < order_of other) (unit_of s) (map unit_of ss) all))
    (λ e. later_port n ss v port (All-tail (λ other. n < order_of other) (unit_of s) (map unit_of ss) all) (sym (port_tail v s ss e) ∙ at))

-- a frame to one station has its offer to the first target
first_offer : (o : Offering) (old new : List Station) (offers : List Offer) (v : UnitId) (port : PortValue) → AreOffered o false old new offers
    → AreAscending (map unit_of old) → same_unit v o.name.who ≡ false → port_of old v ≡ Some port → AcceptsTo port (sent_to o.frame)
    → GoesNoLater v (rows_of o offers)
first_offer o [] [] offers v port h ascending other at accepts = absurd (cc (at))
first_offer o [] (n ∷ news) offers v port h ascending other at accepts = absurd h
first_offer o (s ∷ olds) [] offers v port h ascending other at accepts = absurd h
first_offer o (s ∷ olds) (n ∷ news) offers v port (inl (answer, later, is, takes, rest)) ascending other at accepts =
    subst (λ l. GoesNoLater v (rows_of o l)) (sym is)
    (by_bool (same_unit (unit_of s) v) (order_of (unit_of s) ≤ order_of v)
    (λ e. omega (arith, ap (λ (u : UnitId). order_of u) (one_unit (unit_of s) v e)))
    (λ e. omega (arith, later_port (order_of (unit_of s)) olds v port ascending.0 (sym (port_tail v s olds e) ∙ at))))
first_offer o (s ∷ olds) (n ∷ news) offers v port (inr (passed, rest)) ascending other at accepts =
    by_bool (same_unit (unit_of s) v) (GoesNoLater v (rows_of o offers))
    (λ e.
    absurd (passed.0 (record {
      other = subst (λ (u : UnitId). same_unit u o.name.who ≡ false) (sym (one_unit (unit_of s) v e)) other;
      accepts = subst (λ (p : PortValue). AcceptsTo p (sent_to o.frame)) (same_some port s.port (sym at ∙ port_head v s olds e)) accepts;
    })))
    (λ e. first_offer o olds news offers v port rest ascending.1 other (sym (port_tail v s olds e) ∙ at) accepts)

-- ---- the row of a frame

is_no_size : (answer : Deliver) → offered_as answer ≡ offered.NoSize → answer ≡ sent.NoSize
is_no_size (sent.Done post) e = absurd (cc (e))
is_no_size (sent.Ungranted post fault) e = absurd (cc (e))
is_no_size sent.NoSize e = refl
is_no_size sent.NoBuffer e = absurd (cc (e))
is_no_size (sent.Turn word) e = absurd (cc (e))
is_no_size (sent.InUse page word) e = absurd (cc (e))
is_no_size (sent.Closed control) e = absurd (cc (e))
is_no_size sent.NoMemory e = absurd (cc (e))

is_no_buffer : (answer : Deliver) → offered_as answer ≡ offered.NoBuffer → answer ≡ sent.NoBuffer
is_no_buffer (sent.Done post) e = absurd (cc (e))
is_no_buffer (sent.Ungranted post fault) e = absurd (cc (e))
is_no_buffer sent.NoSize e = absurd (cc (e))
is_no_buffer sent.NoBuffer e = refl
is_no_buffer (sent.Turn word) e = absurd (cc (e))
is_no_buffer (sent.InUse page word) e = absurd (cc (e))
is_no_buffer (sent.Closed control) e = absurd (cc (e))
is_no_buffer sent.NoMemory e = absurd (cc (e))

one_offered : (x y : Offered) → x ∷ [] ≡ y ∷ [] → x ≡ y
one_offered x y e = cc (e)

none_offered : (told : List Offered) (x : Offered) → told ≡ [] → told ≡ x ∷ [] → ⊥
none_offered told x e f = cc (e, f)

-- A target of a frame is a port that accepts it.
record TargetOf (port : Option PortValue) (to : Mac) : Type 0 where
  value : PortValue
  is : port ≡ Some value
  accepts : AcceptsTo value to

target_of : (port : Option PortValue) (frames : List (List ℕ)) (to : Mac) → IsTarget (replay_of port frames) to → TargetOf port to
target_of (Some port) frames to h =
    record { value = port; is = refl; accepts = record { settings = h.settings; shown = h.shown; accepted = h.accepted } }
target_of None frames to h = absurd (cc (h.shown))

is_target : (port : PortValue) (frames : List (List ℕ)) (to : Mac) → AcceptsTo port to → IsTarget (replay_of (Some port) frames) to
is_target port frames to h = record { settings = h.settings; shown = h.shown; accepted = h.accepted }

-- The row of a frame that went out.
row_to : (o : Offering) (old new : List Station) (r : SendRecord) (frames : List (List ℕ)) (v : UnitId) → GoesOut o old new r.offers.items
    → AreAscending (map unit_of old) → r.bytes ≡ o.frame → same_unit v o.name.who ≡ false
    → OffersTo v (replay_of (port_of old v) frames) (frame_row_of o.name.who o.name.mark r)
row_to o old new r frames v out ascending bytes other = by (meets o out.all old new r.offers.items v out.offered ascending)
  where
    told : List Offered
    told = offers_to v (rows_of o r.offers.items)

    to_is : to_of (frame_row_of o.name.who o.name.mark r) ≡ sent_to o.frame
    to_is = ap (λ b. sent_to b) bytes

    group_of : IsGroup (to_of (frame_row_of o.name.who o.name.mark r)) → IsTrue out.all
    group_of group = out.group.1 (subst IsGroup to_is group)

    target : IsTarget (replay_of (port_of old v) frames) (to_of (frame_row_of o.name.who o.name.mark r)) → TargetOf (port_of old v) (sent_to o.frame)
    target h = subst (λ (to : Mac). TargetOf (port_of old v) to) to_is (target_of (port_of old v) frames (to_of (frame_row_of o.name.who o.name.mark r)) h)

    some : ¬ IsGroup (to_of (frame_row_of o.name.who o.name.mark r)) → TargetOf (port_of old v) (sent_to o.frame) → GoesNoLater v (rows_of o r.offers.items)
    some single t = at out.all refl
      where
        at : (all : Bool) → out.all ≡ all → GoesNoLater v (rows_of o r.offers.items)
        at true e = absurd (single (subst IsGroup (sym to_is) (out.group.0 e)))
        at false e =
            first_offer o old new r.offers.items v t.value (subst (λ b. AreOffered o b old new r.offers.items) e out.offered) ascending other t.is t.accepts

    by : Meets o out.all old v told → OffersTo v (replay_of (port_of old v) frames) (frame_row_of o.name.who o.name.mark r)
    by (inl h) = record {
      few = omega (arith, ap (λ l. length l) h.told_is);
      only = λ one.
          subst (λ (to : Mac). IsTarget (replay_of (port_of old v) frames) to) (sym to_is)
          (subst (λ (p : Option PortValue). IsTarget (replay_of p frames) (sent_to o.frame)) (sym h.here) (is_target h.port frames (sent_to o.frame) h.accepts));
      many = λ group t. omega (arith, ap (λ l. length l) h.told_is);
      one = λ single t. some single (target t);
      no_size = λ is.
          let small : FindsNoSize h.port (length o.frame) =
          h.small (is_no_size h.answer (one_offered (offered_as h.answer) offered.NoSize (sym h.told_is ∙ is))) in
          let each : All (λ len. len < frame_offset + length o.frame) (map post_len (session_now h.port).posts) =
          (sizes_all (λ len. len < frame_offset + length o.frame) [] (session_now h.port).posts small.small).1 in
          subst (λ (b : List ℕ). All (λ len. len < frame_offset + length b) (lengths_of (port_of old v))) (sym bytes)
          (subst (λ (p : Option PortValue). All (λ len. len < frame_offset + length o.frame) (lengths_of p)) (sym h.here) each);
    }
    by (inr h) = record {
      few = omega (arith, ap (λ l. length l) h.told_is);
      only = λ one. absurd (omega (arith, one, ap (λ l. length l) h.told_is));
      many = λ group t.
          let there = target t in
          absurd (h.none (group_of group) other there.value there.is there.accepts);
      one = λ single t. some single (target t);
      no_size = λ is. absurd (none_offered told offered.NoSize h.told_is is);
    }

-- ---- a port that had no buffer for it

-- a port all of whose long posts are taken
spent_now : (port : PortValue) (frames : List (List ℕ)) (len : ℕ) → 1 ≤ length port.drop_counts → FindsNoBuffer port len
    → WasSpent port (replay_of (Some port) frames).sessions (replay_of (Some port) frames).lengths (frame_offset + len)
spent_now port frames len begun h = record {
  posts = port.posts;
  deliveries = port.deliveries;
  posted = ([], sym (append-nil port.posts));
  delivered = ([], sym (append-nil port.deliveries));
  begun = begun;
  within = omega arith;
  lengths_are = refl;
  none = h.taken;
}

spent_to : (o : Offering) (old new : List Station) (r : SendRecord) (frames : List (List ℕ)) (v : UnitId) → GoesOut o old new r.offers.items
    → AreAscending (map unit_of old) → HaveBegun old → r.bytes ≡ o.frame
    → SpentFor v (frame_row_of o.name.who o.name.mark r) (replay_of (port_of old v) frames) (port_of old v)
spent_to o old new r frames v out ascending begun bytes is = by (meets o out.all old new r.offers.items v out.offered ascending)
  where
    by : Meets o out.all old v (offers_to v (rows_of o r.offers.items))
        → IsSomeAnd (port_of old v) (λ p. WasSpent p (replay_of (port_of old v) frames).sessions (replay_of (port_of old v) frames).lengths (frame_offset + length r.bytes))
    by (inl h) =
        let none : FindsNoBuffer h.port (length o.frame) = h.spent (is_no_buffer h.answer (one_offered (offered_as h.answer) offered.NoBuffer (sym h.told_is ∙ is))) in
        subst (λ (b : List ℕ). IsSomeAnd (port_of old v) (λ p. WasSpent p (replay_of (port_of old v) frames).sessions (replay_of (port_of old v) frames).lengths (frame_offset + length b)))
        (sym bytes)
        (subst (λ (q : Option PortValue). IsSomeAnd q (λ p. WasSpent p (replay_of q frames).sessions (replay_of q frames).lengths (frame_offset + length o.frame)))
        (sym h.here) (spent_now h.port frames (length o.frame) (begun_at old v h.port begun h.here none.opened) none))
    by (inr h) = absurd (none_offered (offers_to v (rows_of o r.offers.items)) offered.NoBuffer h.told_is is)

begins_later : {X : Type 0} (front whole longer : List X) → Begins front whole → Begins whole longer → Begins front longer
begins_later front whole longer (ra, ea) (rb, eb) = (ra ++ rb, eb ∙ ap (λ l. l ++ rb) ea ∙ append_assoc front ra rb)

-- what was spent is so for good
pub spent_later : (before after : PortValue) (q : ℕ) (lengths : List ℕ) (least : ℕ) → PortGrows before after → WasSpent before q lengths least → WasSpent after q lengths least
spent_later before after q lengths least grows h = record {
  posts = h.posts;
  deliveries = h.deliveries;
  posted = begins_later h.posts before.posts after.posts h.posted grows.posted;
  delivered = begins_later h.deliveries before.deliveries after.deliveries h.delivered grows.delivered;
  begun = h.begun;
  within = omega (arith, h.within, grows.sessions);
  lengths_are = h.lengths_are;
  none = h.none;
}

pub spent_on : (v : UnitId) (row : FrameRow) (now : PortReplay) (before after : Option PortValue) → Grows before after → SpentFor v row now before
    → SpentFor v row now after
spent_on v row now (Some before) (Some after) grows spent is =
    spent_later before after now.sessions now.lengths (frame_offset + length row.bytes) grows (spent is)
spent_on v row now (Some before) None grows spent is = absurd grows
spent_on v row now None after grows spent is = absurd (spent is)

-- the rows of a run name what was spent
pub named_at : (lan : LanValue) (rows : LanRows) (v : UnitId) (row : FrameRow) (now : PortReplay) → CountsRows lan rows → SpentFor v row now (port_of lan.stations v)
    → offers_to v row.offers ≡ offered.NoBuffer ∷ [] → (number len : ℕ) → slice_get now.lengths number ≡ Some len → least_for row ≤ len
    → IsNamed (filter (λ (d : DeliverRow). same_unit d.unit v) rows.delivers.items) v now.sessions number
named_at lan rows v row now counted spent is number len at enough = by (port_of lan.stations v) refl (spent is)
  where
    by : (o : Option PortValue) → port_of lan.stations v ≡ o → IsSomeAnd o (λ p. WasSpent p now.sessions now.lengths (least_for row))
        → IsNamed (filter (λ (d : DeliverRow). same_unit d.unit v) rows.delivers.items) v now.sessions number
    by (Some value) e h = counted.named v value e now.sessions now.lengths (least_for row) h number len at enough
    by None e h = absurd h

-- ---- a frame that is sent

no_number : (frame : Option ℕ) (n : ℕ) → frame ≡ None → frame ≡ Some n → ⊥
no_number frame n e f = cc (e, f)

-- what a record says that has a number
record Numbered (n : ℕ) (frame : List ℕ) (number : ℕ) (r : SendRecord) : Type 0 where
  number_is : number ≡ n
  bytes_are : r.bytes ≡ frame

numbered : (b : Bool) (n number : ℕ) (pieces : List Piece) (frame : List ℕ) (r : SendRecord) → SaysFrame b n pieces frame r → r.frame ≡ Some number
    → Numbered n frame number r
numbered true n number pieces frame r says e = record { number_is = same_some number n (sym e ∙ says.0); bytes_are = says.2 }
numbered false n number pieces frame r says e = absurd (no_number r.frame number says.0 e)

frame_targets : (lan : LanValue) (ss : List Station) (unit : UnitId) (parts : List ℕ) (window window' : PortState) (windows : LanWindows) (r : SendRecord)
    → AreAscending (map unit_of lan.stations) → HaveBegun lan.stations → OffersFrame lan.stations ss unit parts window window' windows r → OffersMade unit lan r
frame_targets lan ss unit parts window window' windows r ascending begun k number is v other =
    subst (λ n. OffersAt lan lan v (frame_row_of unit n r)) (sym said.number_is)
    (record {
      offers = row_to (offering (next_name lan.stations unit) k.frame windows) lan.stations k.answered.mid r (bytes_sent lan v) v k.answered.out ascending said.bytes_are other;
      spent = spent_to (offering (next_name lan.stations unit) k.frame windows) lan.stations k.answered.mid r (bytes_sent lan v) v k.answered.out ascending begun said.bytes_are;
    })
  where
    said : Numbered (next_number lan.stations unit) k.frame number r
    said = numbered (is_numbered r.code) (next_number lan.stations unit) number k.pieces k.frame r k.answered.says is

sent_targets : (lan : LanValue) (ss : List Station) (unit : UnitId) (parts : List ℕ) (is_shared : Bool) (Found : ℕ → ℕ → Type 0) (window window' : PortState)
    (windows : LanWindows) (r : SendRecord) → AreAscending (map unit_of lan.stations) → HaveBegun lan.stations
    → IsSent lan.stations ss unit parts is_shared Found window window' windows r → OffersMade unit lan r
sent_targets lan ss unit parts is_shared Found window window' windows r ascending begun (inl (k, beside)) number is =
    absurd (no_number r.frame number k.says.frame is)
sent_targets lan ss unit parts is_shared Found window window' windows r ascending begun (inr (inl (k, beside))) number is =
    absurd (no_number r.frame number k.says.frame is)
sent_targets lan ss unit parts is_shared Found window window' windows r ascending begun (inr (inr k)) number is =
    frame_targets lan ss unit parts window window' windows r ascending begun k number is

-- the same of units of a run, where the send was answered
pub sends_targets : (lan now : LanValue) (ss : List Station) (unit : UnitId) (parts : List ℕ) (is_shared : Bool) (Found : ℕ → ℕ → Type 0) (window window' : PortState)
    (windows : LanWindows) (r : Result SendRecord NoMemory) → lan ≡ now → AreAscending (map unit_of lan.stations) → HaveBegun lan.stations
    → IfOk r (IsSent lan.stations ss unit parts is_shared Found window window' windows) → IfOk r (OffersMade unit now)
sends_targets lan now ss unit parts is_shared Found window window' windows (Ok r) same ascending begun sent =
    subst (λ (l : LanValue). OffersMade unit l r) same
    (sent_targets lan ss unit parts is_shared Found window window' windows r ascending begun sent)
sends_targets lan now ss unit parts is_shared Found window window' windows (Err memory) same ascending begun sent = tt
