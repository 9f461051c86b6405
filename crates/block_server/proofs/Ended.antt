-- What a line that ends a login for another cause than its logout leaves of what a unit's books say.
use Rattle.std.proofs.Common.{◌≡◌, ◌⊎◌, inl, inr, ◌+◌, ◌==◌, ◌&&◌, ◌++◌, ◌<◌, ◌≤◌, ℕ, Bool, false, All, Contains, List, [], ◌∷◌, None, length, ◌-◌, refl, sym, ◌∙◌, ap, subst, arith, append-nil, length-append}
use Rattle.std.proofs.lemmas.List.Elements.{All-append, All-nil, All-push, Contains-push}
use Rattle.crq_ring.proofs.SessionLaws.{of_session-push}
use Rattle.crq_ring.specs.Sessions.{of_session}
use Rattle.crq_ring.specs.declared.rows.PipeRow.{PipeRow}
use Rattle.vio_num.specs.declared.entry.Entry.{Entry}
use Rattle.vio_num.specs.declared.history.Grant.{Grant}
use Rattle.vio_num.specs.declared.history.Grant.TheVariants.{Lapsed}
use Rattle.vio_num.specs.declared.history.Lapse.{Lapse}
use Rattle.vio_num.specs.declared.history.Lapse.TheVariants as lapses
use Rattle.block_server.specs.Decided.{IsEnd, IsGone, IsJudgedLast, IsTurnedDown}
use Rattle.block_server.specs.Judged.{Ahead, AreKept, Books, Credits, HasLimit, accepted, answered_under, is_limit, HasFate, IsServedUnder, Judged, due, has_row, is_logout}
use Rattle.block_server.specs.Fates.Fate.{ends_it}
use Rattle.block_server.specs.declared.service.Stage.TheVariants as stages
use Rattle.block_server.proofs.Numbering.{numbers_ended}
use Rattle.block_server.proofs.Rising.{rising_lapsed, rising_later, rising_none}
use Rattle.block_server.proofs.RowsRising.{rows_later, rows_none}
use Rattle.block_server.proofs.Counting.{accepted_pass, limits_to, open_start, other_login}
use Rattle.block_server.proofs.Lapsing.{lines_end}
use Rattle.block_server.proofs.Judging.{served_ended, served_other}
use Rattle.block_server.proofs.Keeping.{fate_grows, off_logins, zero_one}

-- the fate of the entry that ended its session, by the line on that
more_fates : (books : Books) (next' : Ahead) (ended' : Bool) (cause : Lapse) (outstanding granted : ℕ) (judged more : List Judged) → IsEnd books next' ended' cause outstanding granted judged more
    → All (λ j. HasFate books.id (books.grants ++ Lapsed books.id books.session books.current cause outstanding granted ∷ []) j.receipt j.fate) more
more_fates books next' ended' cause outstanding granted judged more end = by end.why
  where
    line : Grant
    line = Lapsed books.id books.session books.current cause outstanding granted

    Has : Judged → Type 0
    Has j = HasFate books.id (books.grants ++ line ∷ []) j.receipt j.fate

    by : IsGone books next' ended' cause more ⊎ (IsTurnedDown books next' ended' cause more ⊎ IsJudgedLast books next' ended' cause outstanding granted judged more) → All Has more
    by (inl gone) = subst (All Has) (sym gone.none) (All-nil Has)
    by (inr (inl down)) = subst (All Has) (sym down.none) (All-nil Has)
    by (inr (inr last)) = subst (All Has) (sym last.one) (All-push Has [] (record { receipt = last.receipt; fate = ends_it }) (All-nil Has) (record {
      login = books.current;
      cause = cause;
      outstanding = outstanding;
      granted = granted;
      listed = subst (λ (n : ℕ). Contains (books.grants ++ line ∷ []) (Lapsed books.id n books.current cause outstanding granted)) (sym last.session_is) (Contains-push books.grants line);
      fatal = last.fatal;
    }))

more_served : (books : Books) (next' : Ahead) (ended' : Bool) (cause : Lapse) (outstanding granted : ℕ) (judged more : List Judged) (grants : List Grant) (login : ℕ) → 1 ≤ login
    → IsEnd books next' ended' cause outstanding granted judged more → IsServedUnder books.id books.session judged books.rows grants stages.Start [] login
    → IsServedUnder books.id books.session (judged ++ more) books.rows grants stages.Start [] login
more_served books next' ended' cause outstanding granted judged more grants login some end is = by end.why
  where
    Is : List Judged → Type 0
    Is js = IsServedUnder books.id books.session (judged ++ js) books.rows grants stages.Start [] login

    by : IsGone books next' ended' cause more ⊎ (IsTurnedDown books next' ended' cause more ⊎ IsJudgedLast books next' ended' cause outstanding granted judged more) → Is more
    by (inl gone) = subst Is (sym gone.none) (subst (λ (js : List Judged). IsServedUnder books.id books.session js books.rows grants stages.Start [] login) (sym (append-nil judged)) is)
    by (inr (inl down)) = subst Is (sym down.none) (subst (λ (js : List Judged). IsServedUnder books.id books.session js books.rows grants stages.Start [] login) (sym (append-nil judged)) is)
    by (inr (inr last)) = subst Is (sym last.one) (served_other books.id books.session judged books.rows grants stages.Start [] last.receipt ends_it login refl some is)

-- the entry that ended its session is no request of a login
more_accepted : (books : Books) (next' : Ahead) (ended' : Bool) (cause : Lapse) (outstanding granted : ℕ) (judged more : List Judged) (login : ℕ) → 1 ≤ login
    → IsEnd books next' ended' cause outstanding granted judged more → accepted login (judged ++ more) ≡ accepted login judged
more_accepted books next' ended' cause outstanding granted judged more login some end = by end.why
  where
    none : more ≡ [] → accepted login (judged ++ more) ≡ accepted login judged
    none empty = ap (λ (js : List Judged). accepted login (judged ++ js)) empty ∙ ap (accepted login) (append-nil judged)

    by : IsGone books next' ended' cause more ⊎ (IsTurnedDown books next' ended' cause more ⊎ IsJudgedLast books next' ended' cause outstanding granted judged more)
        → accepted login (judged ++ more) ≡ accepted login judged
    by (inl gone) = none gone.none
    by (inr (inl down)) = none down.none
    by (inr (inr last)) = ap (λ (js : List Judged). accepted login (judged ++ js)) last.one
        ∙ accepted_pass login judged (record { receipt = last.receipt; fate = ends_it }) (other_login 0 login refl some)

-- the entry that is judged next is then a later one
end_most : (books : Books) (next' : Ahead) (ended' : Bool) (cause : Lapse) (outstanding granted : ℕ) (judged more : List Judged) → books.next.number ≤ length (of_session books.session books.next.taken)
    → IsEnd books next' ended' cause outstanding granted judged more → books.next.number ≤ next'.number
end_most books next' ended' cause outstanding granted judged more upto end = by end.why
  where
    from : next'.taken ≡ books.next.taken → books.next.number ≤ next'.number
    from same = subst (λ (n : ℕ). books.next.number ≤ n) (sym (end.done ∙ ap (λ rows. length (of_session books.session rows)) same)) upto

    one : (n : ℕ) (xs : List Entry) (x : Entry) → n ≤ length xs → n ≤ length (xs ++ x ∷ [])
    one n xs x low = omega (arith, low, length-append xs (x ∷ []))

    by : IsGone books next' ended' cause more ⊎ (IsTurnedDown books next' ended' cause more ⊎ IsJudgedLast books next' ended' cause outstanding granted judged more)
        → books.next.number ≤ next'.number
    by (inl gone) =
        let row : PipeRow = record { session = books.session; entry = gone.event } in
        subst (λ (n : ℕ). books.next.number ≤ n)
        (sym (end.done ∙ ap (λ rows. length (of_session books.session rows)) gone.taken ∙ ap length (of_session-push row books.next.taken)))
        (one books.next.number (of_session books.session books.next.taken) gone.event upto)
    by (inr (inl down)) = from down.taken
    by (inr (inr last)) = from last.taken

-- The login that is on ended for another cause than its logout, and nothing is pending.
pub keeps_ended : (books : Books) (next' : Ahead) (cause : Lapse) (outstanding granted : ℕ) (ended' up' : Bool) (credits' : Credits) (judged more : List Judged) → is_logout cause ≡ false
    → IsEnd books next' ended' cause outstanding granted judged more → AreKept books judged → AreKept (record books {
      next = next';
      current = 0;
      taking = false;
      stage = stages.Start;
      kept = None;
      pending = [];
      grants = books.grants ++ Lapsed books.id books.session books.current cause outstanding granted ∷ [];
      ended = ended';
      up = up';
      credits = credits';
    }) (judged ++ more)
keeps_ended books next' cause outstanding granted ended' up' credits' judged more other end is =
    let line = Lapsed books.id books.session books.current cause outstanding granted in
    record {
      fates = All-append (λ j. HasFate books.id (books.grants ++ line ∷ []) j.receipt j.fate) judged more (fate_grows books.id books.grants (line ∷ []) judged is.fates)
          (more_fates books next' ended' cause outstanding granted judged more end);
      served = λ login some. more_served books next' ended' cause outstanding granted judged more (books.grants ++ line ∷ []) login some end
          (served_ended books.id books.session books.session books.session judged books.rows books.grants books.stage books.pending books.current books.next.number login books.taking
          cause outstanding granted other is.pending (is.served login some));
      logins = off_logins books.id books.session books.next.number books.current books.last books.session books.session next'.number books.taking cause outstanding granted books.grants is.logins;
      pending = tt;
      stage = tt;
      kept = tt;
      under = is.under;
      lines = lines_end books next' up' credits' ended' cause outstanding granted judged more is.logins.on end is.lines;
      idle = λ over. (refl, refl);
      numbers = numbers_ended books.id books.session books.current books.last cause outstanding granted books.grants is.numbers;
      rising = rising_lapsed books.id books.id books.session next'.number books.session books.current cause outstanding granted [] books.grants
          (rising_later books.id books.session books.next.number next'.number [] books.grants (end_most books next' ended' cause outstanding granted judged more is.lines.upto end)
          (rising_none books.id books.session books.next.number books.pending books.grants is.rising));
      rows = rows_later books.id books.session books.next.number next'.number [] books.rows (end_most books next' ended' cause outstanding granted judged more is.lines.upto end)
          (rows_none books.id books.session books.next.number (due (has_row books.stage) books.pending) books.rows is.rows);
      counted = record {
        row = open_start books.id 0 books.rows;
        exact = λ some. absurd (zero_one some);
        most = λ some. absurd (zero_one some);
        limits = All-push (HasLimit books.id books.rows (judged ++ more)) books.grants line
            (limits_to books.id books.rows books.rows judged (judged ++ more) books.grants (λ login some. (refl, ap length (more_accepted books next' ended' cause outstanding granted judged more login some end))) is.counted.limits)
            (limit cause refl);
        asked_out = λ some. absurd (zero_one some);
        none_later = λ login high. more_accepted books next' ended' cause outstanding granted judged more login (above books.last login high) end ∙ is.counted.none_later login high;
      };
    }
  where
    above : (a b : ℕ) → a < b → 1 ≤ b
    above a b high = omega (arith, high)

    limit : (c : Lapse) → cause ≡ c → HasLimit books.id books.rows (judged ++ more) (Lapsed books.id books.session books.current c outstanding granted)
    limit lapses.Logout same = tt
    limit lapses.Lost same = tt
    limit lapses.Early same = tt
    limit lapses.BadIu same = tt
    limit lapses.NotLogin same = tt
    limit lapses.Refused same = tt
    limit lapses.OverLimit same = λ own.
        let full = end.full (ap is_limit same) in (
          full.0,
          ap (λ (n : ℕ). n + answered_under books.id books.current books.rows) full.1 ∙ is.counted.exact full.0
              ∙ sym (ap length (more_accepted books next' ended' cause outstanding granted judged more books.current full.0 end)),
        )
