-- What the parts of a turn leave of the lines and their causes.
use Rattle.std.proofs.Common.{◌≡◌, ◌≢◌, ◌⊎◌, inl, inr, ◌+◌, ◌==◌, ◌&&◌, ◌++◌, ◌<◌, ◌≤◌, ℕ, Bool, true, false, All, List, [], ◌∷◌, Some, get_or, length, filter, take, refl, sym, ◌∙◌, ap, subst, arith, append-nil, length-append}
use Rattle.std.specs.List.{AllPairs}
use Rattle.std.proofs.lemmas.Bool.{cases_lt, eq-eqb, eqb-true, ne_eqb}
use Rattle.std.proofs.lemmas.List.{take-append-le, take_all}
use Rattle.std.proofs.lemmas.List.Elements.{All-push, All-weaker, Contains-append_left}
use Rattle.std.proofs.lemmas.List.Quantifiers.{all_pairs_push}
use Rattle.crq_ring.specs.Sessions.{of_session}
use Rattle.crq_ring.specs.declared.rows.PipeRow.{PipeRow}
use Rattle.crq_ring.proofs.SessionLaws.{of_session-pass, of_session-push}
use Rattle.vio_num.specs.declared.entry.Entry.{Entry}
use Rattle.vio_num.specs.declared.history.Grant.{Grant}
use Rattle.vio_num.specs.declared.history.Grant.TheVariants.{Granted, Lapsed}
use Rattle.vio_num.specs.declared.history.Lapse.TheVariants as lapses
use Rattle.vio_num.specs.declared.names.UnitId.{UnitId}
use Rattle.block_server.specs.Closings.{AreLosses, EndsBefore, HasCauses, TakesNone, heard, is_closing, is_event, is_handshake, is_line, is_loss, last_of}
use Rattle.block_server.specs.Fates.{Fate, Judged, accepted}
use Rattle.block_server.specs.Fates.Fate.{ends_it}
use Rattle.block_server.specs.Judged.{Ahead, Credits, IsPast, KeepsLines}
use Rattle.block_server.specs.Makers.{same_unit}
use Rattle.block_server.specs.Receipts.{EndedFor, Receipt}
use Rattle.block_server.proofs.Closing.{causes_grow, causes_push}
use Rattle.block_server.proofs.Heard.{and_next, heard_pass, last_own, none_closing, take_none}
use Rattle.block_server.proofs.Judging.{filter_kept, filter_left, unit_self}

-- A session that ended for a cause did so by more lines, too.
pub closed_more : (unit : UnitId) (q : ℕ) (grants more : List Grant) → EndedFor unit q grants → EndedFor unit q (grants ++ more)
closed_more unit q grants more is = record {
  login = is.login;
  cause = is.cause;
  outstanding = is.outstanding;
  granted = is.granted;
  listed = Contains-append_left grants more _ is.listed;
  fatal = is.fatal;
}

-- What is over as a session begins was over before.
past_before : (session session' q : ℕ) (ended : Bool) → session' ≡ session + 1 → ended ≡ true → IsPast session' false q → IsPast session ended q
past_before session session' q ended one over (inl earlier) = by (cases_lt q session)
  where
    by : (q < session) ⊎ (session ≤ q) → IsPast session ended q
    by (inl before) = inl before
    by (inr least) = inr (omega (arith, least, earlier, one), over)
past_before session session' q ended one over (inr last) = absurd (cc (last.1))

-- THE SESSION ------------------------------------------------------------------------------------

-- Nothing more was taken in the session, and the line stands otherwise.
pub lines_closed : (unit : UnitId) (session : ℕ) (next : Ahead) (current : ℕ) (taking up up' : Bool) (credits : Credits) (grants : List Grant) (judged : List Judged)
    → KeepsLines unit session next current taking up credits grants true judged → KeepsLines unit session next current taking up' credits grants true judged
lines_closed unit session next current taking up up' credits grants judged is = record {
  causes = is.causes;
  begun = is.begun;
  risen = is.risen;
  later = is.later;
  over = λ k d less fate same. refl;
  going = λ on. absurd (cc (on));
  closed = is.closed;
  upto = is.upto;
  near = is.near;
  unheard = λ on down. absurd (cc (on));
  on = is.on;
  off = is.off;
  counted = is.counted;
}

-- A session begins, while no login is on.
pub lines_session : (unit : UnitId) (session session' : ℕ) (next next' : Ahead) (current : ℕ) (taking up up' : Bool) (credits : Credits) (grants : List Grant) (ended : Bool) (judged : List Judged)
    → session' ≡ session + 1 → ended ≡ true → next'.taken ≡ next.taken → next'.number ≡ 0 → current ≡ 0
    → KeepsLines unit session next current taking up credits grants ended judged → KeepsLines unit session' next' current taking up' credits grants false judged
lines_session unit session session' next next' current taking up up' credits grants ended judged one over taken number none is = record {
  causes = subst (λ rows. HasCauses unit rows judged grants) (sym taken) is.causes;
  begun = All-weaker (λ j. j.receipt.session ≤ session) (λ j. j.receipt.session ≤ session') (λ j. most j.receipt.session session session' later) judged is.begun;
  risen = λ q above. ap (of_session q) taken ∙ is.risen q (between session session' q later above);
  later = λ q above. is.later q (between session session' q later above);
  over = λ k d less fate same. absurd (apart (get_or judged k d).receipt.session session session' (is.begun k d less) later same);
  going = λ on. none_closing unit session' grants (is.later session' later);
  closed = λ q some past. is.closed q some (past_before session session' q ended one over past);
  upto = zero_below _ _ number;
  near = subst (λ (xs : List Entry). length xs ≤ next'.number + 1) (sym fresh) (some next'.number);
  unheard = λ on down. ap (λ xs. heard (take next'.number xs)) fresh ∙ ap heard (take_none next'.number);
  on = λ some. absurd (none_one current none some);
  off = λ off login number credits last. absurd (cc (last, ap last_of (is.later session' later)));
  counted = λ some. absurd (none_one current none some);
}
  where
    later : session < session'
    later = omega (arith, one)

    fresh : of_session session' next'.taken ≡ []
    fresh = ap (of_session session') taken ∙ is.risen session' later

    most : (a b c : ℕ) → b < c → a ≤ b → a ≤ c
    most a b c high low = omega (arith, low, high)

    between : (a b c : ℕ) → a < b → b < c → a < c
    between a b c low high = omega (arith, low, high)

    apart : (a b c : ℕ) → a ≤ b → b < c → ¬ (a ≡ c)
    apart a b c low high same = absurd (omega (arith, low, high, same))

    zero_below : (a b : ℕ) → a ≡ 0 → a ≤ b
    zero_below a b none = omega (arith, none)

    some : (n : ℕ) → 0 ≤ n + 1
    some n = omega arith

    none_one : (n : ℕ) → n ≡ 0 → 1 ≤ n → ⊥
    none_one n none some = absurd (omega (arith, none, some))

-- WHAT IS TAKEN ----------------------------------------------------------------------------------

-- the row of an entry that is taken
abbrev pub row_at : (session : ℕ) → Entry → PipeRow
row_at session entry = record { session = session; entry = entry }

pub apart_later : (session q : ℕ) → session < q → ¬ (session ≡ q)
apart_later session q later same = absurd (omega (arith, later, same))

-- no session's events are others, where the entry is none
losses_passed : (unit : UnitId) (taken : List PipeRow) (session : ℕ) (entry : Entry) (grants : List Grant) → is_event entry ≡ false
    → AreLosses unit taken grants → AreLosses unit (taken ++ row_at session entry ∷ []) grants
losses_passed unit taken session entry grants other is = λ q. is q ∙ sym (at q (session == q) refl)
  where
    own : length (filter is_event (of_session session (taken ++ row_at session entry ∷ []))) ≡ length (filter is_event (of_session session taken))
    own = ap (λ xs. length (filter is_event xs)) (of_session-push (row_at session entry) taken) ∙ ap length (filter_left is_event (of_session session taken) entry other)

    at : (q : ℕ) (b : Bool) → (session == q) ≡ b → length (filter is_event (of_session q (taken ++ row_at session entry ∷ []))) ≡ length (filter is_event (of_session q taken))
    at q true is = subst (λ (n : ℕ). length (filter is_event (of_session n (taken ++ row_at session entry ∷ []))) ≡ length (filter is_event (of_session n taken))) (eqb-true session q is) own
    at q false is = ap (λ xs. length (filter is_event xs)) (of_session-pass q (row_at session entry) taken (λ same. no (sym is ∙ eq-eqb session q same)))
      where
        no : false ≡ true → ⊥
        no e = cc

-- An entry was taken that is no event: either waits to be judged, or is passed over, and then it is of no initialisation where
-- the other end is not heard.
pub lines_taken : (unit : UnitId) (session : ℕ) (next next' : Ahead) (current : ℕ) (taking up up' : Bool) (credits : Credits) (grants : List Grant) (ended : Bool) (judged : List Judged) (entry : Entry)
    → next'.taken ≡ next.taken ++ row_at session entry ∷ [] → next.number ≡ length (of_session session next.taken) → is_event entry ≡ false
    → ((next'.number ≡ next.number) × (up' ≡ up)) ⊎ ((next'.number ≡ next.number + 1) × (ended ≡ false → up' ≡ false → (up ≡ false) × (is_handshake entry ≡ false)))
    → KeepsLines unit session next current taking up credits grants ended judged → KeepsLines unit session next' current taking up' credits grants ended judged
lines_taken unit session next next' current taking up up' credits grants ended judged entry taken all other how is = record {
  causes = subst (λ (z : List PipeRow × List Judged). HasCauses unit z.0 z.1 grants) (λ i. ((sym taken) i, append-nil judged i))
      (causes_grow unit next.taken (row_at session entry ∷ []) judged [] grants (losses_passed unit next.taken session entry grants other is.causes.losses)
      (subst (AllPairs EndsBefore) (sym (append-nil judged)) is.causes.once) is.causes);
  begun = is.begun;
  risen = λ q later. ap (of_session q) taken ∙ of_session-pass q (row_at session entry) next.taken (apart_later session q later) ∙ is.risen q later;
  later = is.later;
  over = is.over;
  going = is.going;
  closed = is.closed;
  upto = upto how;
  near = near how;
  unheard = unheard how;
  on = is.on;
  off = is.off;
  counted = is.counted;
}
  where
    pushed : of_session session next'.taken ≡ of_session session next.taken ++ entry ∷ []
    pushed = ap (of_session session) taken ∙ of_session-push (row_at session entry) next.taken

    longer : length (of_session session next'.taken) ≡ next.number + 1
    longer = ap length pushed ∙ length-append (of_session session next.taken) (entry ∷ []) ∙ ap (λ n. n + 1) (sym all)

    upto : ((next'.number ≡ next.number) × (up' ≡ up)) ⊎ ((next'.number ≡ next.number + 1) × (ended ≡ false → up' ≡ false → (up ≡ false) × (is_handshake entry ≡ false)))
        → next'.number ≤ length (of_session session next'.taken)
    upto (inl waits) = low next'.number next.number _ waits.0 longer
      where
        low : (a b c : ℕ) → a ≡ b → c ≡ b + 1 → a ≤ c
        low a b c same more = omega (arith, same, more)
    upto (inr passed) = low next'.number next.number _ passed.0 longer
      where
        low : (a b c : ℕ) → a ≡ b + 1 → c ≡ b + 1 → a ≤ c
        low a b c same more = omega (arith, same, more)

    near : ((next'.number ≡ next.number) × (up' ≡ up)) ⊎ ((next'.number ≡ next.number + 1) × (ended ≡ false → up' ≡ false → (up ≡ false) × (is_handshake entry ≡ false)))
        → length (of_session session next'.taken) ≤ next'.number + 1
    near (inl waits) = low next'.number next.number _ waits.0 longer
      where
        low : (a b c : ℕ) → a ≡ b → c ≡ b + 1 → c ≤ a + 1
        low a b c same more = omega (arith, same, more)
    near (inr passed) = low next'.number next.number _ passed.0 longer
      where
        low : (a b c : ℕ) → a ≡ b + 1 → c ≡ b + 1 → c ≤ a + 1
        low a b c same more = omega (arith, same, more)

    unheard : ((next'.number ≡ next.number) × (up' ≡ up)) ⊎ ((next'.number ≡ next.number + 1) × (ended ≡ false → up' ≡ false → (up ≡ false) × (is_handshake entry ≡ false)))
        → ended ≡ false → up' ≡ false → heard (take next'.number (of_session session next'.taken)) ≡ false
    unheard (inl waits) on down =
        ap (λ n. heard (take n (of_session session next'.taken))) waits.0 ∙ ap (λ xs. heard (take next.number xs)) pushed
        ∙ ap heard (take-append-le next.number (of_session session next.taken) (entry ∷ []) is.upto) ∙ is.unheard on (sym waits.1 ∙ down)
    unheard (inr passed) on down =
        let was = passed.1 on down in
        ap heard (take_all next'.number (of_session session next'.taken) (low _ next'.number next.number longer passed.0)) ∙ ap heard pushed
        ∙ heard_pass (of_session session next.taken) entry other was.1
        ∙ ap heard (sym (take_all next.number (of_session session next.taken) (same _ _ all))) ∙ is.unheard on was.0
      where
        low : (a b c : ℕ) → a ≡ c + 1 → b ≡ c + 1 → a ≤ b
        low a b c same more = omega (arith, same, more)

        same : (a b : ℕ) → a ≡ b → b ≤ a
        same a b e = omega (arith, e)

-- WHAT IS JUDGED ---------------------------------------------------------------------------------

-- an entry of the present session, which goes on, behind those that were judged
pub once_push : (session : ℕ) (ended : Bool) (judged : List Judged) (j : Judged) → j.receipt.session ≡ session → ended ≡ false
    → All (λ j. j.receipt.session ≤ session) judged → All (λ j. j.fate ≡ ends_it → j.receipt.session ≡ session → ended ≡ true) judged
    → AllPairs EndsBefore judged → AllPairs EndsBefore (judged ++ j ∷ [])
once_push session ended judged j now going begun over once =
    all_pairs_push EndsBefore judged j once
    (λ k d less fate. subst (λ (n : ℕ). (get_or judged k d).receipt.session < n) (sym now)
    (below (get_or judged k d).receipt.session session (begun k d less) (λ same. no (over k d less fate same))))
  where
    no : ended ≡ true → ⊥
    no is = absurd (cc (is, going))

    below : (a b : ℕ) → a ≤ b → ¬ (a ≡ b) → a < b
    below a b most apart = omega (arith, most, apart)

-- An entry was judged that does not end its session, once the other end was heard.
pub lines_judged : (unit : UnitId) (session : ℕ) (next next' : Ahead) (current : ℕ) (taking taking' up : Bool) (credits credits' : Credits) (grants : List Grant) (ended : Bool) (judged : List Judged)
    (receipt : Receipt) (fate : Fate) → next'.taken ≡ next.taken → next'.number ≡ length (of_session session next.taken) → receipt.session ≡ session → ended ≡ false → up ≡ true → fate ≢ ends_it
    → credits'.granted ≡ credits.granted
    → (taking' ≡ false → TakesNone unit session (judged ++ record { receipt = receipt; fate = fate } ∷ []) grants)
    → (1 ≤ current → credits'.outstanding ≤ length (accepted current (judged ++ record { receipt = receipt; fate = fate } ∷ [])))
    → KeepsLines unit session next current taking up credits grants ended judged
    → KeepsLines unit session next' current taking' up credits' grants ended (judged ++ record { receipt = receipt; fate = fate } ∷ [])
lines_judged unit session next next' current taking taking' up credits credits' grants ended judged receipt fate taken all now going heard_is other granted off counted is =
    let j : Judged = record { receipt = receipt; fate = fate } in
    record {
      causes = subst (λ rows. HasCauses unit rows (judged ++ j ∷ []) grants) (append_nil next.taken ∙ sym taken)
          (causes_grow unit next.taken [] judged (j ∷ []) grants (subst (λ rows. AreLosses unit rows grants) (sym (append_nil next.taken)) is.causes.losses)
          (once_push session ended judged j now going is.begun is.over is.causes.once) is.causes);
      begun = All-push (λ j. j.receipt.session ≤ session) judged j is.begun (upto _ _ now);
      risen = λ q later. ap (of_session q) taken ∙ is.risen q later;
      later = is.later;
      over = All-push (λ j. j.fate ≡ ends_it → j.receipt.session ≡ session → ended ≡ true) judged j is.over (λ ends same. absurd (other ends));
      going = is.going;
      closed = is.closed;
      upto = subst (λ rows. next'.number ≤ length (of_session session rows)) (sym taken) (upto _ _ all);
      near = subst (λ rows. length (of_session session rows) ≤ next'.number + 1) (sym taken) (near _ _ all);
      unheard = λ on down. absurd (cc (heard_is, down));
      on = λ some. let last = is.on some in record { number = last.number; last = last.last ∙ ap (λ (n : ℕ). Some (Granted unit session current last.number n)) (sym granted) };
      off = off;
      counted = counted;
    }
  where
    append_nil : (rows : List PipeRow) → rows ++ [] ≡ rows
    append_nil rows = append-nil rows

    upto : (a b : ℕ) → a ≡ b → a ≤ b
    upto a b same = omega (arith, same)

    near : (a b : ℕ) → a ≡ b → b ≤ a + 1
    near a b same = omega (arith, same)

-- LINES ------------------------------------------------------------------------------------------

-- a line on the present session is on no later one
pub line_later : (unit : UnitId) (session q : ℕ) (a : Bool) → session < q → (a && (session == q)) ≡ false
line_later unit session q a later = and_next a (session == q) (ne_eqb session q (apart_later session q later))

-- a line that says that the partner is gone, and the losses of each session
pub losses_other : (unit : UnitId) (taken : List PipeRow) (grants : List Grant) (line : Grant) → ((q : ℕ) → is_loss unit q line ≡ false)
    → AreLosses unit taken grants → AreLosses unit taken (grants ++ line ∷ [])
losses_other unit taken grants line other is = λ q. ap length (filter_left (is_loss unit q) grants line (other q)) ∙ is q

pub losses_gone : (unit : UnitId) (taken : List PipeRow) (session login outstanding granted : ℕ) (entry : Entry) (grants : List Grant) → is_event entry ≡ true → AreLosses unit taken grants
    → AreLosses unit (taken ++ row_at session entry ∷ []) (grants ++ Lapsed unit session login lapses.Lost outstanding granted ∷ [])
losses_gone unit taken session login outstanding granted entry grants says is = λ q. at q (session == q) refl
  where
    line : Grant
    line = Lapsed unit session login lapses.Lost outstanding granted

    more : {X : Type 0} (xs ys : List X) (x : X) → ys ≡ xs ++ x ∷ [] → length ys ≡ length xs + 1
    more xs ys x is = ap length is ∙ length-append xs (x ∷ [])

    both : (q : ℕ) (a b c d : ℕ) → a ≡ b + 1 → c ≡ d + 1 → b ≡ d → a ≡ c
    both q a b c d first next same = omega (arith, first, next, same)

    and_both : (a b : Bool) → a ≡ true → b ≡ true → (a && b) ≡ true
    and_both a b x y = cc (x, y)

    own : length (filter is_event (of_session session (taken ++ row_at session entry ∷ []))) ≡ length (filter is_event (of_session session taken)) + 1
    own = more _ _ entry (ap (filter is_event) (of_session-push (row_at session entry) taken) ∙ filter_kept is_event (of_session session taken) entry says)

    at : (q : ℕ) (b : Bool) → (session == q) ≡ b
        → length (filter (is_loss unit q) (grants ++ line ∷ [])) ≡ length (filter is_event (of_session q (taken ++ row_at session entry ∷ [])))
    at q true same = both q _ (length (filter (is_loss unit q) grants)) _ (length (filter is_event (of_session q taken)))
        (more _ _ line (filter_kept (is_loss unit q) grants line (and_both (same_unit unit unit) (session == q) (unit_self unit) same)))
        (subst (λ (n : ℕ). length (filter is_event (of_session n (taken ++ row_at session entry ∷ []))) ≡ length (filter is_event (of_session n taken)) + 1) (eqb-true session q same) own)
        (is q)
    at q false other = ap length (filter_left (is_loss unit q) grants line (and_next (same_unit unit unit) (session == q) other)) ∙ is q
        ∙ sym (ap (λ xs. length (filter is_event xs)) (of_session-pass q (row_at session entry) taken (λ same. no (sym other ∙ eq-eqb session q same))))
      where
        no : false ≡ true → ⊥
        no e = cc

-- A login began, with nothing outstanding.
pub lines_granted : (unit : UnitId) (session : ℕ) (next : Ahead) (current login number : ℕ) (taking up : Bool) (credits : Credits) (grants : List Grant) (ended : Bool) (judged : List Judged)
    → ended ≡ false → KeepsLines unit session next current taking up credits grants ended judged
    → KeepsLines unit session next login true up (record { outstanding = 0; granted = credits.granted }) (grants ++ Granted unit session login number credits.granted ∷ []) ended judged
lines_granted unit session next current login number taking up credits grants ended judged going is =
    let line = Granted unit session login number credits.granted in
    record {
      causes = causes_push unit next.taken judged grants line (losses_other unit next.taken grants line (λ q. refl) is.causes.losses)
          (λ q own. open_at q (eqb-true session q (second (same_unit unit unit) (session == q) own))) (λ n some ends. absurd (cc (ends))) tt
          is.causes.once is.causes.last is.causes.single is.causes.causes;
      begun = is.begun;
      risen = is.risen;
      later = λ q above. filter_left (is_line unit q) grants line (line_later unit session q (same_unit unit unit) above) ∙ is.later q above;
      over = is.over;
      going = λ on. filter_left (is_closing unit session) grants line refl ∙ is.going on;
      closed = λ q some past. closed_more unit q grants (line ∷ []) (is.closed q some past);
      upto = is.upto;
      near = is.near;
      unheard = is.unheard;
      on = λ some. record { number = number; last = last_own unit session grants line (both (same_unit unit unit) (session == session) (unit_self unit) (eq-eqb session session refl)) };
      off = λ off. absurd (cc (off));
      counted = λ some. zero _;
    }
  where
    open_at : (q : ℕ) → session ≡ q → filter (is_closing unit q) grants ≡ []
    open_at q same = subst (λ (n : ℕ). filter (is_closing unit n) grants ≡ []) same (is.going going)

    second : (a b : Bool) → (a && b) ≡ true → b ≡ true
    second true b is = is
    second false b is = absurd (cc (is))

    both : (a b : Bool) → a ≡ true → b ≡ true → (a && b) ≡ true
    both a b x y = cc (x, y)

    zero : (n : ℕ) → 0 ≤ n
    zero n = omega arith
