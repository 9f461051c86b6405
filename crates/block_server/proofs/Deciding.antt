-- What the parts of a turn judge, one behind the other.
use Rattle.std.proofs.Common.{◌≡◌, inl, inr, ◌+◌, ◌++◌, ◌≤◌, ℕ, Bool, true, false, All, List, [], ◌∷◌, Option, Some, None, IfSome, slice_get, ◌<◌, filter, length, map, refl, sym, ◌∙◌, ap, subst, arith, append-nil, append_assoc}
use Rattle.std.proofs.lemmas.List.{map-append}
use Rattle.std.proofs.lemmas.List.Elements.{All-append, All-cons, All-nil, All-weaker, filter-append}
use Rattle.vio_num.specs.declared.history.Grant.{Grant}
use Rattle.vio_num.specs.declared.history.Lapse.{Lapse}
use Rattle.vio_num.specs.declared.history.Lapse.TheVariants as lapses
use Rattle.vio_num.specs.declared.names.UnitId.{UnitId}
use Rattle.block_server.specs.Advances.{Advances}
use Rattle.block_server.specs.Judges.{Judges, JudgesMore}
use Rattle.block_server.specs.Judged.{Ahead, AreKept, Books, IsInTime, IsOn, Judged, Keeps, ends, login_of, is_limit}
use Rattle.block_server.specs.Fates.Fate.{ends_it}
use Rattle.block_server.specs.Moves.{Passes}
use Rattle.block_server.specs.Receipts.{EndedFor, Intake, IsIntake, LinesMore, MayTake, Receipt, Standing, TakesEntry, TakesIn, intake_of, is_fatal}
use Rattle.block_server.specs.SiteState.{SameWindows, SiteState}
use Rattle.std.proofs.lemmas.Option.{slice_get_within}
use Rattle.crq_ring.specs.Sessions.{of_session}
use Rattle.vio_num.specs.Entry.{is_srp_entry, iu_address, iu_length}
use Rattle.vio_num.specs.declared.entry.Entry.{Entry}
use Rattle.block_server.specs.Books.{next_of}
use Rattle.block_server.specs.Closings.{Gives}
use Rattle.block_server.specs.Decided.{IsEnd, IsToJudge, JudgesOne}
use Rattle.block_server.specs.Moves.{Fetches, FetchesOne, is_intake}
use Rattle.block_server.specs.declared.request.Arrival.{Arrival}
use Rattle.rdma_copy.specs.declared.copy.CopyRecord.{CopyRecord}
use Rattle.tce_window.specs.PortState.{PortPlace}
use Rattle.block_server.proofs.Judging.{filter_kept}
use Rattle.block_server.proofs.Receiving.{Grown, intake_begins, intake_closes, intake_ends, intake_fetches, intake_passes, intake_stays, intake_takes, receipt_of}
use Rattle.block_server.proofs.Taking.{grown_of, lines_same, passed_copies, passed_session, passed_taken, window_copies}

-- a login that no line ends is ended by none of the first of them
on_before : (unit : UnitId) (login : ℕ) (old more : List Grant) → IsOn unit login (old ++ more) → IsOn unit login old
on_before unit login old more on = front (filter (ends unit login) old) (filter (ends unit login) more) (sym (filter-append (ends unit login) old more) ∙ on)
  where
    front : {X : Type 0} (xs ys : List X) → xs ++ ys ≡ [] → xs ≡ []
    front [] ys none = refl
    front (x ∷ xs) ys none = absurd (cc (none))

in_time_before : {granted : ℕ} (unit : UnitId) (old new : List Grant) → LinesMore unit granted old new → (judged : List Judged) → All (IsInTime unit new) judged → All (IsInTime unit old) judged
in_time_before unit old new lines judged all = All-weaker (IsInTime unit new) (IsInTime unit old)
    (λ j is some. on_before unit (login_of j.fate) old lines.more (subst (IsOn unit (login_of j.fate)) lines.added (is some))) judged all

-- Nothing was judged.
pub judges_still : (unit unit' : Standing) (old new : SiteState) (books books' : Books)
    → ((receipts : List Receipt) → IsIntake (intake_of unit old books.grants) receipts → IsIntake (intake_of unit' new books'.grants) receipts)
    → Keeps books books' → Judges unit unit' old new books books'
judges_still unit unit' old new books books' still keeps = record {
  more = λ own receipts judged intake is. record {
    more = [];
    received = subst (IsIntake (intake_of unit' new books'.grants)) (sym (append-nil receipts)) (still receipts intake);
    kept = subst (AreKept books') (sym (append-nil judged)) (keeps judged is);
    in_time = All-nil (IsInTime books'.id books.grants);
  };
}

-- Nothing was judged, and what is kept goes by what the intake says.
judges_idle : (unit unit' : Standing) (old new : SiteState) (books books' : Books)
    → ((receipts : List Receipt) → IsIntake (intake_of unit old books.grants) receipts → IsIntake (intake_of unit' new books'.grants) receipts)
    → ((receipts : List Receipt) → IsIntake (intake_of unit old books.grants) receipts → unit.waiting ≡ None) → (unit.waiting ≡ None → Keeps books books') → Judges unit unit' old new books books'
judges_idle unit unit' old new books books' still waits keeps = record {
  more = λ own receipts judged intake is. record {
    more = [];
    received = subst (IsIntake (intake_of unit' new books'.grants)) (sym (append-nil receipts)) (still receipts intake);
    kept = subst (AreKept books') (sym (append-nil judged)) (keeps (waits receipts intake) judged is);
    in_time = All-nil (IsInTime books'.id books.grants);
  };
}

-- Nothing was taken and fetched either.
pub judges_none : (unit unit' : Standing) (old new : SiteState) (books books' : Books) → unit' ≡ unit → Advances old new → Passes old new
    → LinesMore unit.id unit.granted books.grants books'.grants → Keeps books books' → Judges unit unit' old new books books'
judges_none unit unit' old new books books' same advances passes lines keeps = judges_still unit unit' old new books books'
    (λ receipts is. intake_stays (intake_of unit old books.grants) (intake_of unit' new books'.grants) receipts (grown_of unit unit' old new books.grants books'.grants unit.id unit.granted advances lines)
    (passed_session old new passes) (passed_taken old new passes) (passed_copies old new passes) (ap (λ s. s.waiting) same) (ap (λ s. s.ended) same) is) keeps

-- One part of a turn behind another.
pub judges_on : (u0 u1 u2 : Standing) (s0 s1 s2 : SiteState) (b0 b1 b2 : Books) → TakesIn u0 u1 s0 s1 b0.grants b1.grants → b1.id ≡ u0.id → b2.id ≡ b1.id
    → Judges u0 u1 s0 s1 b0 b1 → Judges u1 u2 s1 s2 b1 b2 → Judges u0 u2 s0 s2 b0 b2
judges_on u0 u1 u2 s0 s1 s2 b0 b1 b2 takes named same first next = record {
  more = λ own receipts judged intake is.
      let one = first.more own receipts judged intake is in
      let other = next.more (takes.id ∙ own ∙ sym takes.place) (receipts ++ map (λ j. j.receipt) one.more) (judged ++ one.more) one.received one.kept in
      record {
        more = one.more ++ other.more;
        received = subst (IsIntake (intake_of u2 s2 b2.grants))
            (append_assoc receipts (map (λ j. j.receipt) one.more) (map (λ j. j.receipt) other.more) ∙ ap (λ xs. receipts ++ xs) (sym (map-append (λ (j : Judged). j.receipt) one.more other.more))) other.received;
        kept = subst (AreKept b2) (append_assoc judged one.more other.more) other.kept;
        in_time = All-append (IsInTime b2.id b0.grants) one.more other.more
            (subst (λ (unit : UnitId). All (IsInTime unit b0.grants) one.more) (sym same) one.in_time)
            (in_time_before b2.id b0.grants b1.grants (subst (λ (unit : UnitId). LinesMore unit u0.granted b0.grants b1.grants) (sym (same ∙ named)) takes.lines) other.more other.in_time);
      };
}

-- A part that ends the session for such a cause: the entry that waits, if one does, ended it.
pub judges_ended : (unit unit' : Standing) (old new : SiteState) (books books' : Books) (next' : Ahead) (cause : Lapse) (outstanding granted : ℕ) → unit'.id ≡ unit.id → unit'.waiting ≡ None → unit'.ended ≡ true
    → books'.id ≡ unit.id → EndedFor unit.id old.queue.last_session books'.grants → Advances old new → Passes old new → LinesMore unit.id unit.granted books.grants books'.grants
    → books.session ≡ old.queue.last_session → next'.taken ≡ books.next.taken → next'.number ≡ length (of_session books.session next'.taken) → is_fatal cause ≡ true → is_limit cause ≡ false
    → (unit.waiting ≡ None → cause ≡ lapses.Refused)
    → ((receipts : List Receipt) (judged : List Judged) → IsIntake (intake_of unit old books.grants) receipts → AreKept books judged → books.ended ≡ false)
    → ((arrival : Arrival) → unit.waiting ≡ Some arrival → (judged : List Judged) → books.ended ≡ false → AreKept books judged
    → Gives books.id books.next.taken judged books.grants (receipt_of (intake_of unit old books.grants) arrival None []) cause outstanding granted)
    → ((judged more : List Judged) → IsEnd books next' true cause outstanding granted judged more → AreKept books judged → AreKept books' (judged ++ more))
    → Judges unit unit' old new books books'
judges_ended unit unit' old new books books' next' cause outstanding granted id none over named ended advances passes lines session taken done fatal limited down going gives keeps = record {
  more = λ own receipts judged intake is.
      at (intake_of unit old books.grants) (intake_of unit' new books'.grants) receipts judged
      (grown_of unit unit' old new books.grants books'.grants unit.id unit.granted advances lines) (passed_session old new passes) (passed_taken old new passes) (passed_copies old new passes)
      (subst (λ (u : UnitId). EndedFor u old.queue.last_session books'.grants) (own ∙ sym advances.own.unit) ended)
      none over intake
      (λ waits. keeps judged [] (record {
        going = going receipts judged intake is;
        done = done;
        full = λ limit. absurd (cc (limit, limited));
        why = inr (inl (record { cause_is = down waits; none = refl; over = refl; taken = taken }));
      }) is)
      (λ arrival waits. keeps judged (record { receipt = receipt_of (intake_of unit old books.grants) arrival None []; fate = ends_it } ∷ []) (record {
        going = going receipts judged intake is;
        done = done;
        full = λ limit. absurd (cc (limit, limited));
        why = inr (inr (record {
          receipt = receipt_of (intake_of unit old books.grants) arrival None [];
          one = refl;
          session_is = sym session;
          fatal = fatal;
          gives = gives arrival waits judged (going receipts judged intake is) is;
          over = refl;
          taken = taken;
        }));
      }) is)
      unit.waiting refl;
}
  where
    at : (before after : Intake) (receipts : List Receipt) (judged : List Judged) → Grown before after → after.queue.last_session ≡ before.queue.last_session → after.queue.taken ≡ before.queue.taken
        → filter (is_intake after.own.place.unit) after.copies ≡ filter (is_intake before.own.place.unit) before.copies
        → EndedFor after.own.place.unit before.queue.last_session after.grants
        → after.waiting ≡ None → after.ended ≡ true → IsIntake before receipts → (before.waiting ≡ None → AreKept books' (judged ++ []))
        → ((arrival : Arrival) → before.waiting ≡ Some arrival → AreKept books' (judged ++ record { receipt = receipt_of before arrival None []; fate = ends_it } ∷ []))
        → (waiting : Option Arrival) → before.waiting ≡ waiting → JudgesMore after books' books.grants receipts judged
    at before after receipts judged grown session taken copies ended none over intake kept_none kept_one None waits = record {
      more = [];
      received = subst (IsIntake after) (sym (append-nil receipts)) (intake_closes before after receipts grown session taken copies waits none over intake);
      kept = kept_none waits;
      in_time = All-nil (IsInTime books'.id books.grants);
    }
    at before after receipts judged grown session taken copies ended none over intake kept_none kept_one (Some arrival) waits =
        let one : Judged = record { receipt = receipt_of before arrival None []; fate = ends_it } in
        record {
          more = one ∷ [];
          received = intake_ends before after receipts arrival grown session taken copies ended waits none over intake;
          kept = kept_one arrival waits;
          in_time = All-cons (IsInTime books'.id books.grants) one [] (λ some. absurd (no_login some)) (All-nil (IsInTime books'.id books.grants));
        }
      where
        no_login : 1 ≤ 0 → ⊥
        no_login some = absurd (omega (arith, some))

-- while an entry waits the session goes on
pub waits_going : (intake : Intake) (receipts : List Receipt) (arrival : Arrival) (ended : Bool) → IsIntake intake receipts → intake.waiting ≡ Some arrival → ended ≡ intake.ended → ended ≡ false
waits_going intake receipts arrival true is waits same = absurd (cc (is.idle (sym same), waits))
waits_going intake receipts arrival false is waits same = refl

-- where the entry that waits stands
waits_there : (intake : Intake) (receipts : List Receipt) (arrival : Arrival) → IsIntake intake receipts → intake.waiting ≡ Some arrival
    → slice_get (of_session intake.queue.last_session intake.queue.taken) arrival.number ≡ Some arrival.entry
waits_there intake receipts arrival is waits =
    subst (λ w. IfSome w (λ arrival. slice_get (of_session intake.queue.last_session intake.queue.taken) arrival.number ≡ Some arrival.entry)) waits is.waits

-- the copies that fetched information units, once one more was
one_more : (old new : SiteState) (copy : CopyRecord) → new.copies ≡ old.copies ++ copy ∷ [] → is_intake new.own.place.unit copy ≡ true → new.own.place ≡ old.own.place
    → filter (is_intake new.own.place.unit) new.copies ≡ filter (is_intake old.own.place.unit) old.copies ++ copy ∷ []
one_more old new copy made is place =
    ap (filter (is_intake new.own.place.unit)) made ∙ filter_kept (is_intake new.own.place.unit) old.copies copy is
    ∙ ap (λ (p : PortPlace). filter (is_intake p.unit) old.copies ++ copy ∷ []) place

-- A part that fetches the information unit of the entry that waits, and judges it.
pub judges_fetched : (unit unit' : Standing) (old new : SiteState) (books books' : Books) (arrival : Arrival) (address : ℕ) (bytes : List ℕ)
    → unit.waiting ≡ Some arrival → unit'.waiting ≡ None → unit'.id ≡ unit.id → address ≡ iu_address arrival.entry → FetchesOne old new address bytes → length bytes ≡ iu_length arrival.entry
    → new.queue ≡ old.queue → Advances old new → LinesMore unit.id unit.granted books.grants books'.grants
    → books.session ≡ old.queue.last_session → books.next ≡ next_of (Some arrival) old.queue → books.ended ≡ unit.ended → books'.id ≡ books.id → books.up ≡ true
    → ((receipt : Receipt) → IsToJudge books old.queue.last_session (next_of None old.queue) arrival.number bytes receipt → JudgesOne books books' receipt)
    → Judges unit unit' old new books books'
judges_fetched unit unit' old new books books' arrival address bytes waits none id at one long queue advances lines session next ended named up judge = record {
  more = λ own receipts judged intake is.
      let before = intake_of unit old books.grants in
      let receipt = receipt_of before arrival (Some one.copy) bytes in
      let made = judge receipt (record {
        present = session;
        session_is = refl;
        number_is = refl;
        bytes_are = refl;
        copied = refl;
        most = ap (λ (n : Ahead). n.number) next;
        below = slice_get_within (of_session old.queue.last_session old.queue.taken) arrival.number arrival.entry (waits_there before receipts arrival intake waits);
        going = waits_going before receipts arrival books.ended intake waits ended;
        up = up;
        taken = sym (ap (λ (n : Ahead). n.taken) next);
        all = ap (λ rows. length (of_session old.queue.last_session rows)) (sym (ap (λ (n : Ahead). n.taken) next));
      }) in
      let done : Judged = record { receipt = receipt; fate = made.fate } in
      record {
        more = done ∷ [];
        received = intake_fetches before (intake_of unit' new books'.grants) receipts arrival one.copy bytes (grown_of unit unit' old new books.grants books'.grants unit.id unit.granted advances lines)
            (ap (λ q. q.last_session) queue) (ap (λ q. q.taken) queue) (one_more old new one.copy one.made one.is_unit advances.own_place)
            long
            (subst (λ (z : ℕ × ℕ). Fetches new.own new.client z.0 0 z.1 bytes one.copy) (λ i. (at i, long i)) one.fetched) waits none intake;
        kept = made.kept judged is;
        in_time = All-cons (IsInTime books'.id books.grants) done []
            (subst (λ (u : UnitId). IsInTime u books.grants done) (sym named) (made.in_time judged is)) (All-nil (IsInTime books'.id books.grants));
      };
}

-- A part that takes an SRP entry, which waits to be fetched.
pub judges_entry : (unit unit' : Standing) (old new : SiteState) (books books' : Books) (number : ℕ) (entry : Entry) (arrival : Arrival) → MayTake unit
    → TakesEntry old new number entry → is_srp_entry entry ≡ true → arrival.number ≡ number → arrival.entry ≡ entry → Advances old new
    → unit'.waiting ≡ Some arrival → unit'.ended ≡ unit.ended → books'.grants ≡ books.grants → Keeps books books' → Judges unit unit' old new books books'
judges_entry unit unit' old new books books' number entry arrival may taken srp at of advances waits ended same keeps = judges_still unit unit' old new books books'
    (λ receipts is. intake_takes (intake_of unit old books.grants) (intake_of unit' new books'.grants) receipts number entry arrival
    (grown_of unit unit' old new books.grants books'.grants unit.id unit.granted advances (lines_same unit.id unit.granted _ _ same))
    taken.session taken.number_is taken.taken srp (window_copies old new taken.windows) may.none waits at of (ended ∙ may.goes_on) may.goes_on is) keeps

-- A part that takes another entry.
pub judges_other : (unit unit' : Standing) (old new : SiteState) (books books' : Books) (number : ℕ) (entry : Entry) → MayTake unit
    → TakesEntry old new number entry → is_srp_entry entry ≡ false → Advances old new → unit'.waiting ≡ None → books'.grants ≡ books.grants → Keeps books books'
    → Judges unit unit' old new books books'
judges_other unit unit' old new books books' number entry may taken other advances none same keeps = judges_still unit unit' old new books books'
    (λ receipts is. intake_passes (intake_of unit old books.grants) (intake_of unit' new books'.grants) receipts entry
    (grown_of unit unit' old new books.grants books'.grants unit.id unit.granted advances (lines_same unit.id unit.granted _ _ same))
    taken.session taken.taken other (window_copies old new taken.windows) may.none none may.goes_on is) keeps

-- A part in which a session begins.
pub judges_session : (unit unit' : Standing) (old mid new : SiteState) (books books' : Books) → unit.ended ≡ true
    → mid.queue.last_session ≡ old.queue.last_session + 1 → mid.queue.taken ≡ old.queue.taken → SameWindows old mid → Passes mid new → Advances old new
    → unit'.waiting ≡ unit.waiting → books'.grants ≡ books.grants → (unit.waiting ≡ None → Keeps books books') → Judges unit unit' old new books books'
judges_session unit unit' old mid new books books' ended session taken windows passes advances waiting same keeps = judges_idle unit unit' old new books books'
    (λ receipts is. intake_begins (intake_of unit old books.grants) (intake_of unit' new books'.grants) receipts
    (grown_of unit unit' old new books.grants books'.grants unit.id unit.granted advances (lines_same unit.id unit.granted _ _ same))
    (later _ _ _ session (passed_session mid new passes)) (passed_taken mid new passes ∙ taken) (passed_copies mid new passes ∙ window_copies old mid windows)
    waiting ended is) (λ receipts is. is.idle ended) keeps
  where
    later : (a b c : ℕ) → b ≡ a + 1 → c ≡ b → a < c
    later a b c next same = omega (arith, next, same)
