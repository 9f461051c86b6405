-- What an entry that is judged leaves of a unit's books.
use Rattle.std.proofs.Common.{◌≡◌, ◌≢◌, ◌+◌, length, ◌⊎◌, inl, inr, ◌==◌, ◌&&◌, ◌++◌, ◌<◌, ◌≤◌, ℕ, Bool, true, false, Contains, List, [], ◌∷◌, IsSome, refl, sym, ◌∙◌, ap, subst, arith}
use Rattle.std.proofs.lemmas.Bool.{eq-eqb, ne_eqb}
use Rattle.std.proofs.lemmas.List.Elements.{All-push}
use Rattle.crq_ring.specs.Sessions.{of_session}
use Rattle.vio_num.specs.declared.history.Grant.TheVariants.{Granted}
use Rattle.block_server.specs.Receipts.{Receipt}
use Rattle.block_server.specs.Closings.{TakesNone}
use Rattle.block_server.specs.Judged.{Ahead, AreCounted, AreKept, AreLogins, HasLogout, ArePending, Asks, Books, Fate, HasFate, HasFront, HasGrant, IsAtStage, Judged, accepted, gets_row, has_row, is_login, login_of, due, receipt_key, request_key}
use Rattle.block_server.specs.Fates.Fate.{asked, ends_it}
use Rattle.block_server.specs.declared.request.Request.{Request}
use Rattle.block_server.specs.declared.service.Outcome.TheVariants as outcomes
use Rattle.block_server.specs.declared.service.Stage.{Stage}
use Rattle.block_server.specs.declared.service.Stage.TheVariants as stages
use Rattle.block_server.proofs.Closing.{none_grows}
use Rattle.block_server.specs.declared.request.Order.TheVariants as orders
use Rattle.block_server.proofs.Counting.{accepted_pass, limits_on, limits_to, logout_more, other_login}
use Rattle.block_server.proofs.Heard.{accepted_more, accepted_one}
use Rattle.block_server.proofs.Lines.{lines_judged}
use Rattle.block_server.proofs.Judging.{due_pass, served_due, served_more, served_other}
use Rattle.block_server.proofs.Rising.{rising_later, rising_pushed}
use Rattle.block_server.proofs.RowsRising.{rows_later, rows_pushed}
use Rattle.block_server.proofs.Keeping.{front_of, later_logins, later_pending}

logins_push : (pending : List Request) (request : Request) → is_login request.order ≡ true → AreLogins pending → AreLogins (pending ++ request ∷ [])
logins_push [] request is are = (is, tt)
logins_push (first ∷ pending) request is are = (are.0, logins_push pending request is are.1)

-- A request that asks for a login came behind the others, or one under the login that takes requests.
pub pending_push : (current next next' : ℕ) (taking taking' : Bool) (pending : List Request) (request : Request) → next ≤ next' → request.number < next'
    → (is_login request.order ≡ true) ⊎ ((request.login ≡ current) × ((1 ≤ current) × (taking ≡ true))) → (is_login request.order ≡ false → gets_row request.order ≡ false → taking' ≡ false)
    → (taking' ≡ true → taking ≡ true) → ArePending current next taking pending → ArePending current next' taking' (pending ++ request ∷ [])
pending_push current next next' taking taking' [] request most number (inl login) off stays are =
    (record { under = λ other. absurd (cc (other, login)); number = number; last = λ other none. absurd (cc (other, login)) }, tt)
pending_push current next next' taking taking' [] request most number (inr under) off stays are =
    (record { under = λ other. (under.0, under.1.0); number = number; last = λ other none. (off other none, tt) }, tt)
pending_push current next next' taking taking' (first ∷ pending) request most number how off stays are = (
  record {
    under = are.0.under;
    number = below first.number next next' are.0.number most;
    last = λ other none. behind how (are.0.last other none);
  },
  pending_push current next next' taking taking' pending request most number how off stays are.1,
)
  where
    below : (a b c : ℕ) → a < b → b ≤ c → a < c
    below a b c low high = omega (arith, low, high)

    still_off : (t : Bool) → (t ≡ true → taking ≡ true) → taking ≡ false → t ≡ false
    still_off true stays off = absurd (cc (stays refl, off))
    still_off false stays off = refl

    behind : (is_login request.order ≡ true) ⊎ ((request.login ≡ current) × ((1 ≤ current) × (taking ≡ true))) → (taking ≡ false) × AreLogins pending
        → (taking' ≡ false) × AreLogins (pending ++ request ∷ [])
    behind (inl login) was = (still_off taking' stays was.0, logins_push pending request login was.1)
    behind (inr under) was = absurd (cc (under.1.1, was.0))

front_push : (pending : List Request) (request : Request) → HasFront pending → HasFront (pending ++ request ∷ [])
front_push pending request is = record { front = is.front; rest = is.rest ++ request ∷ []; parts = ap (λ xs. xs ++ request ∷ []) is.parts; gets = is.gets }

-- the stage of the oldest request
pub stage_push : (current : ℕ) (pending : List Request) (request : Request) (stage : Stage) → IsAtStage current pending stage → IsAtStage current (pending ++ request ∷ []) stage
stage_push current pending request stages.Start is = tt
stage_push current pending request stages.OutTable is = tt
stage_push current pending request stages.InTable is = tt
stage_push current pending request (stages.DataOut cursor) is = tt
stage_push current pending request (stages.Given row reply) is = record { front = is.front; rest = is.rest ++ request ∷ []; parts = ap (λ xs. xs ++ request ∷ []) is.parts; asks = is.asks }
stage_push current pending request (stages.DataIn row reply cursor) is =
    record { front = is.front; rest = is.rest ++ request ∷ []; parts = ap (λ xs. xs ++ request ∷ []) is.parts; asks = is.asks }
stage_push current pending request (stages.Answer (outcomes.Granted number)) is =
    record { front = is.front; rest = is.rest ++ request ∷ []; parts = ap (λ xs. xs ++ request ∷ []) is.parts; asks = is.asks; number_is = is.number_is; none_on = is.none_on }
stage_push current pending request (stages.Answer outcomes.Rejected) is =
    record { front = is.front; rest = is.rest ++ request ∷ []; parts = ap (λ xs. xs ++ request ∷ []) is.parts; asks = is.asks }
stage_push current pending request (stages.Answer (outcomes.Served row)) is = front_push pending request is
stage_push current pending request (stages.Entry (outcomes.Granted number)) is =
    record { front = is.front; rest = is.rest ++ request ∷ []; parts = ap (λ xs. xs ++ request ∷ []) is.parts; asks = is.asks; number_is = is.number_is; none_on = is.none_on }
stage_push current pending request (stages.Entry outcomes.Rejected) is =
    record { front = is.front; rest = is.rest ++ request ∷ []; parts = ap (λ xs. xs ++ request ∷ []) is.parts; asks = is.asks }
stage_push current pending request (stages.Entry (outcomes.Served row)) is = front_push pending request is

-- the grant of the login that takes requests
pub grant_of : (books : Books) (receipt : Receipt) (judged : List Judged) → books.taking ≡ true → receipt.session ≡ books.session → books.next.number ≤ receipt.number → AreKept books judged
    → HasGrant books.id books.grants receipt.session books.current receipt.number
grant_of books receipt judged taking session most is =
    let grant = is.logins.granted (is.logins.takes taking) in
    record {
      at = grant.at;
      credits = grant.credits;
      listed = subst (λ (n : ℕ). Contains books.grants (Granted books.id n books.current grant.at grant.credits)) (sym session) grant.listed;
      earlier = below grant.at books.next.number receipt.number grant.earlier most;
    }
  where
    below : (a b c : ℕ) → a < b → b ≤ c → a < c
    below a b c low high = omega (arith, low, high)

-- How an entry of the present session is judged behind the others: the other end was heard, and it is the last that was taken.
pub record IsNext (books : Books) (next' : Ahead) (receipt : Receipt) : Type 0 where
  pub session_is : receipt.session ≡ books.session
  pub number_is : receipt.number ≡ books.next.number
  pub below : books.next.number < next'.number
  pub going : books.ended ≡ false
  pub up : books.up ≡ true
  pub taken : next'.taken ≡ books.next.taken
  pub all : next'.number ≡ length (of_session books.session books.next.taken)

one_more : (n : ℕ) (a b : ℕ) → a ≤ b → a + 1 ≤ b + 1
one_more n a b low = omega (arith, low)

-- A command or a task was accepted.
pub keeps_asked : (books : Books) (next' : Ahead) (request : Request) (receipt : Receipt) (judged : List Judged) → receipt_key receipt ≡ request_key books.session request
    → gets_row request.order ≡ true → is_login request.order ≡ false → request.login ≡ books.current → books.taking ≡ true → IsNext books next' receipt
    → IsSome receipt.copy → Asks receipt.bytes → books.credits.outstanding + 1 ≤ books.credits.granted
    → AreKept books judged → AreKept (record books {
      next = next';
      pending = books.pending ++ request ∷ [];
      credits = record { outstanding = books.credits.outstanding + 1; granted = books.credits.granted };
    }) (judged ++ record { receipt = receipt; fate = asked books.current } ∷ [])
keeps_asked books next' request receipt judged key row other under taking to copy asks within is =
    let j : Judged = record { receipt = receipt; fate = asked books.current } in
    let low = upto _ _ (sym to.number_is) in
    let most = below _ _ to.below in
    let some = is.logins.takes taking in
    record {
      fates = All-push (λ j. HasFate books.id books.grants j.receipt j.fate) judged j is.fates
          (copy, (asks, grant_of books receipt judged taking (ap (λ k. k.session) key) low is));
      served = λ login one. served_more books.id books.session judged books.rows books.grants books.stage books.pending request receipt books.current login key row under
          (front_of books.current books.pending books.stage is.stage) (is.logins.on some) (is.served login one);
      logins = later_logins books.id books.session books.next.number next'.number books.current books.last books.taking books.grants most is.logins;
      pending = pending_push books.current books.next.number next'.number books.taking books.taking books.pending request most
          (subst (λ (n : ℕ). n < next'.number) (sym to.number_is ∙ ap (λ k. k.number) key) to.below)
          (inr (under, (some, taking))) (λ no_login none. absurd (cc (row, none))) (λ on. on) is.pending;
      stage = stage_push books.current books.pending request books.stage is.stage;
      kept = is.kept;
      under = is.under;
      lines = lines_judged books.id books.session books.next next' books.current books.taking books.taking books.up books.credits
          (record { outstanding = books.credits.outstanding + 1; granted = books.credits.granted }) books.grants books.ended judged receipt (asked books.current)
          to.taken to.all to.session_is to.going to.up (λ ends. absurd (cc (ends))) refl (λ off. absurd (cc (taking, off)))
          (λ on. subst (λ (n : ℕ). books.credits.outstanding + 1 ≤ n) (sym (accepted_one books.current judged j (eq-eqb books.current books.current refl)))
          (one_more 0 books.credits.outstanding _ (is.lines.counted on))) is.lines;
      idle = λ over. absurd (cc (over, to.going));
      numbers = is.numbers;
      rising = rising_pushed books.id books.session books.next.number next'.number books.pending request books.grants (sym (sym to.number_is ∙ ap (λ k. k.number) key)) to.below is.rising;
      rows = rows_pushed books.id books.session books.next.number next'.number (has_row books.stage) books.pending request books.rows (sym (sym to.number_is ∙ ap (λ k. k.number) key)) to.below is.rows;
      counted = record {
        row = is.counted.row;
        exact = λ on. counts books.credits.outstanding _ _ _ (is.counted.exact on) (accepted_one books.current judged j (eq-eqb books.current books.current refl));
        most = λ on. within;
        limits = limits_on books.id books.current books.rows books.rows judged (judged ++ j ∷ []) books.grants (is.logins.on some)
            (λ login one apart. (refl, ap length (accepted_pass login judged j apart))) is.counted.limits;
        asked_out = λ on off. absurd (cc (taking, off));
        none_later = λ login high. accepted_pass login judged j (ne_eqb books.current login (λ same. apart_high books.current books.last login is.logins.most high same)) ∙ is.counted.none_later login high;
      };
    }
  where
    counts : (a b n n' : ℕ) → a + b ≡ n → n' ≡ n + 1 → a + 1 + b ≡ n'
    counts a b n n' was more = omega (arith, was, more)

    apart_high : (a b c : ℕ) → a ≤ b → b < c → a ≡ c → ⊥
    apart_high a b c low high same = absurd (omega (arith, low, high, same))

    upto : (a b : ℕ) → a ≡ b → a ≤ b
    upto a b same = omega (arith, same)

    below : (a b : ℕ) → a < b → a ≤ b
    below a b low = omega (arith, low)

-- what is counted as another entry is judged that is no request of a login
counted_pass : (books : Books) (judged : List Judged) (receipt : Receipt) (fate : Fate) (taking' : Bool) (pending' : List Request) → login_of fate ≡ 0 → AreKept books judged
    → (1 ≤ books.current → taking' ≡ false → HasLogout pending')
    → AreCounted (record books { taking = taking'; pending = pending' }) (judged ++ record { receipt = receipt; fate = fate } ∷ [])
counted_pass books judged receipt fate taking' pending' none is out =
    let j : Judged = record { receipt = receipt; fate = fate } in
    record {
      row = is.counted.row;
      exact = λ some. is.counted.exact some ∙ sym (ap length (accepted_pass books.current judged j (other_login (login_of fate) books.current none some)));
      most = is.counted.most;
      limits = limits_to books.id books.rows books.rows judged (judged ++ j ∷ []) books.grants
          (λ login some. (refl, ap length (accepted_pass login judged j (other_login (login_of fate) login none some)))) is.counted.limits;
      asked_out = out;
      none_later = λ login high. accepted_pass login judged j (other_login (login_of fate) login none (above books.last login high)) ∙ is.counted.none_later login high;
    }
  where
    above : (a b : ℕ) → a < b → 1 ≤ b
    above a b high = omega (arith, high)

-- what is counted as another entry is judged
counted_on : (books : Books) (judged : List Judged) (j : Judged) → AreKept books judged → 1 ≤ books.current → books.credits.outstanding ≤ length (accepted books.current (judged ++ j ∷ []))
counted_on books judged j is on = below _ _ _ (is.lines.counted on) (accepted_more books.current judged j)
  where
    below : (a b c : ℕ) → a ≤ b → b ≤ c → a ≤ c
    below a b c low high = omega (arith, low, high)

-- A login request or a logout was accepted.
pub keeps_unasked : (books : Books) (next' : Ahead) (taking' : Bool) (request : Request) (receipt : Receipt) (fate : Fate) (judged : List Judged) → login_of fate ≡ 0
    → HasFate books.id books.grants receipt fate → IsNext books next' receipt → request.number ≡ receipt.number → gets_row request.order ≡ false
    → (is_login request.order ≡ true) ⊎ ((request.login ≡ books.current) × ((1 ≤ books.current) × (books.taking ≡ true))) → (is_login request.order ≡ false → taking' ≡ false)
    → (taking' ≡ true → books.taking ≡ true) → (taking' ≡ false → (books.taking ≡ false) ⊎ (request.order ≡ orders.Logout)) → fate ≢ ends_it
    → (taking' ≡ false → TakesNone books.id books.session (judged ++ record { receipt = receipt; fate = fate } ∷ []) books.grants)
    → AreKept books judged → AreKept (record books { next = next'; taking = taking'; pending = books.pending ++ request ∷ [] }) (judged ++ record { receipt = receipt; fate = fate } ∷ [])
keeps_unasked books next' taking' request receipt fate judged none has to number row how off stays closes other off_is is = record {
  fates = All-push (λ j. HasFate books.id books.grants j.receipt j.fate) judged (record { receipt = receipt; fate = fate }) is.fates has;
  served = λ login one. served_due books.id books.session (judged ++ record { receipt = receipt; fate = fate } ∷ []) books.rows books.grants books.stage books.stage books.pending (books.pending ++ request ∷ []) login
      (sym (due_pass books.session login (has_row books.stage) books.pending request (front_of books.current books.pending books.stage is.stage) (and_first (gets_row request.order) (request.login == login) row)))
      (served_other books.id books.session judged books.rows books.grants books.stage books.pending receipt fate login none one (is.served login one));
  logins = let later = later_logins books.id books.session books.next.number next'.number books.current books.last books.taking books.grants (below _ _ to.below) is.logins in
      record { most = later.most; on = later.on; none_later = later.none_later; granted = later.granted; takes = λ on. later.takes (stays on) };
  pending = pending_push books.current books.next.number next'.number books.taking taking' books.pending request (below _ _ to.below)
      (subst (λ (n : ℕ). n < next'.number) (sym (number ∙ to.number_is)) to.below) how (λ other no_row. off other) stays is.pending;
  stage = stage_push books.current books.pending request books.stage is.stage;
  kept = is.kept;
  under = is.under;
  lines = lines_judged books.id books.session books.next next' books.current books.taking taking' books.up books.credits books.credits books.grants books.ended judged receipt fate
      to.taken to.all to.session_is to.going to.up other refl off_is (counted_on books judged (record { receipt = receipt; fate = fate }) is) is.lines;
  idle = λ over. absurd (cc (over, to.going));
  numbers = is.numbers;
  rising = rising_pushed books.id books.session books.next.number next'.number books.pending request books.grants (number ∙ to.number_is) to.below is.rising;
  rows = rows_pushed books.id books.session books.next.number next'.number (has_row books.stage) books.pending request books.rows (number ∙ to.number_is) to.below is.rows;
  counted = let is' = counted_pass books judged receipt fate taking' (books.pending ++ request ∷ []) none is (λ some off. out some (closes off)) in
      record { row = is'.row; exact = is'.exact; most = is'.most; limits = is'.limits; asked_out = is'.asked_out; none_later = is'.none_later };
}
  where
    out : 1 ≤ books.current → (books.taking ≡ false) ⊎ (request.order ≡ orders.Logout) → HasLogout (books.pending ++ request ∷ [])
    out some (inl was) = logout_more books.pending request (is.counted.asked_out some was)
    out some (inr asks) = record { before = books.pending; request = request; after = []; parts = refl; asks = asks }

    below : (a b : ℕ) → a < b → a ≤ b
    below a b low = omega (arith, low)

    and_first : (a b : Bool) → a ≡ false → a && b ≡ false
    and_first a b e = cc (e)

-- An entry was judged that is no request.
pub keeps_judged : (books : Books) (next' : Ahead) (receipt : Receipt) (fate : Fate) (judged : List Judged) → login_of fate ≡ 0 → HasFate books.id books.grants receipt fate → IsNext books next' receipt
    → fate ≢ ends_it → AreKept books judged → AreKept (record books { next = next' }) (judged ++ record { receipt = receipt; fate = fate } ∷ [])
keeps_judged books next' receipt fate judged none has to other is = record {
  fates = All-push (λ j. HasFate books.id books.grants j.receipt j.fate) judged (record { receipt = receipt; fate = fate }) is.fates has;
  served = λ login one. served_other books.id books.session judged books.rows books.grants books.stage books.pending receipt fate login none one (is.served login one);
  logins = later_logins books.id books.session books.next.number next'.number books.current books.last books.taking books.grants (below _ _ to.below) is.logins;
  pending = later_pending books.current books.next.number next'.number books.taking books.pending (below _ _ to.below) is.pending;
  stage = is.stage;
  kept = is.kept;
  under = is.under;
  lines = lines_judged books.id books.session books.next next' books.current books.taking books.taking books.up books.credits books.credits books.grants books.ended judged receipt fate
      to.taken to.all to.session_is to.going to.up other refl
      (λ off. none_grows books.id books.session judged (record { receipt = receipt; fate = fate } ∷ []) books.grants (is.lines.off off))
      (counted_on books judged (record { receipt = receipt; fate = fate }) is) is.lines;
  idle = is.idle;
  numbers = is.numbers;
  rising = rising_later books.id books.session books.next.number next'.number books.pending books.grants (below _ _ to.below) is.rising;
  rows = rows_later books.id books.session books.next.number next'.number (due (has_row books.stage) books.pending) books.rows (below _ _ to.below) is.rows;
  counted = let is' = counted_pass books judged receipt fate books.taking books.pending none is is.counted.asked_out in
      record { row = is'.row; exact = is'.exact; most = is'.most; limits = is'.limits; asked_out = is'.asked_out; none_later = is'.none_later };
}
  where
    below : (a b : ℕ) → a < b → a ≤ b
    below a b low = omega (arith, low)
