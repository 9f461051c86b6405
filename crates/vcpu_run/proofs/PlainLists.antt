-- Lists of what a client asked: their order, and what is counted of them, as one is put behind or the oldest is served.
use Rattle.std.proofs.Common.{◌≡◌, ◌≢◌, ◌∙◌, ℕ, ◌+◌, ◌<◌, ◌++◌, All, Bool, true, false, true≢false, cond, List, [], ◌∷◌, refl, sym, ap, arith}
use Rattle.std.proofs.lemmas.List.Elements.{All-cons, All-head, All-nil, All-push, All-tail}
use Rattle.srp_iu.specs.declared.unit.Iu.{Iu}
use Rattle.srp_iu.specs.declared.unit.Iu.TheVariants as units
use Rattle.tce_window.specs.PortState.{PortState}
use Rattle.vio_num.specs.declared.entry.Entry.{Entry}
use Rattle.block_server.specs.Talk.{order_asked, outstanding_behind, takes_behind}
use Rattle.block_server.specs.declared.request.Order.TheVariants as orders
use Rattle.block_server.specs.declared.request.Request.{Request}
use Rattle.vscsi_client.specs.declared.outgoing.Outgoing.{Outgoing}
use Rattle.vcpu_run.specs.PlainTalk.{AreApart, AreInOrder, ArePending, Ask, HasAnswer, HaveAnswers, IsAnswerTo, IsPendingAs, TagsRise, counted, grants_one, has_login, has_logout, is_counted, is_granted, is_login, is_logout, name_of, names_of, on_behind}

both_ways : (b : Bool) → b ≡ true → b ≡ false → ⊥
both_ways b is isnt = cc

-- ---- kinds

pub takes_by : (taking : Bool) (iu : Iu) → takes_behind taking iu ≡ cond (is_logout iu) false taking
takes_by taking (units.LoginReq request) = refl
takes_by taking (units.TskMgmt task) = refl
takes_by taking (units.Cmd command) = refl
takes_by taking (units.ILogout tag) = refl
takes_by taking iu = refl

pub outstanding_by : (n : ℕ) (iu : Iu) → outstanding_behind n iu ≡ n + cond (is_counted iu) 1 0
outstanding_by n (units.LoginReq request) = omega arith
outstanding_by n (units.TskMgmt task) = refl
outstanding_by n (units.Cmd command) = refl
outstanding_by n (units.ILogout tag) = omega arith
outstanding_by n iu = omega arith

-- a logout alone is asked so
pub order_logout : (iu : Iu) → order_asked iu ≡ orders.Logout → is_logout iu ≡ true
order_logout (units.ILogout tag) is = refl
order_logout (units.LoginReq request) is = absurd (cc (is))
order_logout (units.TskMgmt task) is = absurd (cc (is))
order_logout (units.Cmd command) is = absurd (cc (is))
order_logout iu is = absurd (cc (is))

pub logout_no_login : (iu : Iu) → is_logout iu ≡ true → is_login iu ≡ false
logout_no_login (units.ILogout tag) is = refl
logout_no_login (units.LoginReq request) is = absurd (cc (is))
logout_no_login iu is = absurd (cc (is))

pub logout_not_counted : (iu : Iu) → is_counted iu ≡ true → is_logout iu ≡ false
logout_not_counted (units.TskMgmt task) is = refl
logout_not_counted (units.Cmd command) is = refl
logout_not_counted iu is = absurd (cc (is))

pub counted_no_login : (iu : Iu) → is_counted iu ≡ true → is_login iu ≡ false
counted_no_login (units.TskMgmt task) is = refl
counted_no_login (units.Cmd command) is = refl
counted_no_login iu is = absurd (cc (is))

pub login_no_logout : (iu : Iu) → is_login iu ≡ true → is_logout iu ≡ false
login_no_logout (units.LoginReq request) is = refl
login_no_logout iu is = absurd (cc (is))

pub login_not_counted : (iu : Iu) → is_login iu ≡ true → is_counted iu ≡ false
login_not_counted (units.LoginReq request) is = refl
login_not_counted iu is = absurd (cc (is))

-- ---- one more behind others

pub logout_push : (asked : List Ask) (ask : Ask) → has_logout (asked ++ ask ∷ []) ≡ cond (is_logout ask.iu) true (has_logout asked)
logout_push [] ask = by (is_logout ask.iu)
  where
    by : (b : Bool) → cond b true false ≡ cond b true false
    by b = refl
logout_push (first ∷ asked) ask = by (is_logout first.iu) (logout_push asked ask)
  where
    by : (b : Bool) → has_logout (asked ++ ask ∷ []) ≡ cond (is_logout ask.iu) true (has_logout asked)
        → cond b true (has_logout (asked ++ ask ∷ [])) ≡ cond (is_logout ask.iu) true (cond b true (has_logout asked))
    by true e = sym (always (is_logout ask.iu))
      where
        always : (c : Bool) → cond c true true ≡ true
        always true = refl
        always false = refl
    by false e = e

pub counted_push : (asked : List Ask) (ask : Ask) → counted (asked ++ ask ∷ []) ≡ counted asked + cond (is_counted ask.iu) 1 0
counted_push [] ask = omega arith
counted_push (first ∷ asked) ask = omega (arith, counted_push asked ask)

pub pending_push : (requests : List Request) (asked : List Ask) (request : Request) (ask : Ask) → ArePending requests asked → IsPendingAs request ask
    → ArePending (requests ++ request ∷ []) (asked ++ ask ∷ [])
pending_push [] [] request ask are is = (is, tt)
pending_push [] (first ∷ asked) request ask are is = absurd are
pending_push (first ∷ requests) [] request ask are is = absurd are
pending_push (first ∷ requests) (one ∷ asked) request ask are is = (are.0, pending_push requests asked request ask are.1 is)

pub answers_push : (window : PortState) (entries : List Entry) (asked : List Ask) (answers : List Iu) (entry : Entry) (ask : Ask) (answer : Iu)
    → HaveAnswers window entries asked answers → HasAnswer window entry ask answer → HaveAnswers window (entries ++ entry ∷ []) (asked ++ ask ∷ []) (answers ++ answer ∷ [])
answers_push window [] [] [] entry ask answer have is = (is, tt)
answers_push window [] [] (other ∷ answers) entry ask answer have is = absurd have
answers_push window [] (first ∷ asked) answers entry ask answer have is = absurd have
answers_push window (first ∷ entries) [] answers entry ask answer have is = absurd have
answers_push window (first ∷ entries) (one ∷ asked) [] entry ask answer have is = absurd have
answers_push window (first ∷ entries) (one ∷ asked) (other ∷ answers) entry ask answer have is = (have.0, answers_push window entries asked answers entry ask answer have.1 is)

pub granted_push : (answers : List Iu) (answer : Iu) → grants_one answers ≡ false → grants_one (answers ++ answer ∷ []) ≡ is_granted answer
granted_push [] answer none = by (is_granted answer)
  where
    by : (b : Bool) → cond b true false ≡ b
    by true = refl
    by false = refl
granted_push (first ∷ answers) answer none = by (is_granted first) (λ no. granted_push answers answer no) none
  where
    by : (b : Bool) → (grants_one answers ≡ false → grants_one (answers ++ answer ∷ []) ≡ is_granted answer) → cond b true (grants_one answers) ≡ false
        → cond b true (grants_one (answers ++ answer ∷ [])) ≡ is_granted answer
    by true rest isnt = absurd (true≢false isnt)
    by false rest isnt = rest isnt

-- no answer grants a login where none was asked
pub answer_plain : (asked answer : Iu) → is_login asked ≡ false → IsAnswerTo asked answer → is_granted answer ≡ false
answer_plain (units.LoginReq request) answer isnt suits = absurd (cc (isnt))
answer_plain (units.TskMgmt task) (units.Rsp response) isnt suits = refl
answer_plain (units.Cmd command) (units.Rsp response) isnt suits = refl
answer_plain asked answer isnt suits = absurd suits

pub answers_plain : (window : PortState) (entries : List Entry) (asked : List Ask) (answers : List Iu) → HaveAnswers window entries asked answers → has_login asked ≡ false
    → grants_one answers ≡ false
answers_plain window [] [] [] have none = refl
answers_plain window [] [] (answer ∷ answers) have none = absurd have
answers_plain window [] (ask ∷ asked) answers have none = absurd have
answers_plain window (entry ∷ entries) [] answers have none = absurd have
answers_plain window (entry ∷ entries) (ask ∷ asked) [] have none = absurd have
answers_plain window (entry ∷ entries) (ask ∷ asked) (answer ∷ answers) have none =
    by (is_login ask.iu) refl (λ no. answers_plain window entries asked answers have.1 no) none
  where
    by : (b : Bool) → is_login ask.iu ≡ b → (has_login asked ≡ false → grants_one answers ≡ false) → cond b true (has_login asked) ≡ false
        → cond (is_granted answer) true (grants_one answers) ≡ false
    by true e rest isnt = absurd (true≢false isnt)
    by false e rest isnt = ap (λ c. cond c true (grants_one answers)) (answer_plain ask.iu answer e have.0.suits) ∙ rest isnt

-- ---- order

pub order_tail : (ask : Ask) (more : List Ask) → AreInOrder (ask ∷ more) → AreInOrder more
order_tail ask [] order = tt
order_tail ask (next ∷ more) order = order.3

pub first_logout : (front : List Ask) (ask : Ask) (more : List Ask) → AreInOrder (front ++ ask ∷ more) → is_logout ask.iu ≡ true → front ≡ []
first_logout [] ask more order is = refl
first_logout (first ∷ []) ask more order is = absurd (both_ways (is_logout ask.iu) is order.1)
first_logout (first ∷ next ∷ front) ask more order is = absurd (no_items (first_logout (next ∷ front) ask more order.3 is))
  where
    no_items : next ∷ front ≡ [] → ⊥
    no_items e = cc (e)

pub last_login : (front : List Ask) (ask : Ask) (more : List Ask) → AreInOrder (front ++ ask ∷ more) → is_login ask.iu ≡ true → more ≡ []
last_login [] ask [] order is = refl
last_login [] ask (next ∷ more) order is = absurd (both_ways (is_login ask.iu) is order.0)
last_login (first ∷ []) ask more order is = last_login [] ask more (order_tail first (ask ∷ more) order) is
last_login (first ∷ next ∷ front) ask more order is = last_login (next ∷ front) ask more order.3 is

pub no_login : (front : List Ask) (ask : Ask) (more : List Ask) → AreInOrder (front ++ ask ∷ more) → has_login front ≡ false
no_login [] ask more order = refl
no_login (first ∷ []) ask more order = ap (λ b. cond b true false) order.0
no_login (first ∷ next ∷ front) ask more order =
    ap (λ b. cond b true (has_login (next ∷ front))) order.0 ∙ no_login (next ∷ front) ask more order.3

pub login_push : (front : List Ask) (ask : Ask) → has_login front ≡ false → has_login (front ++ ask ∷ []) ≡ is_login ask.iu
login_push [] ask none = by (is_login ask.iu)
  where
    by : (b : Bool) → cond b true false ≡ b
    by true = refl
    by false = refl
login_push (first ∷ front) ask none = by (is_login first.iu) (λ no. login_push front ask no) none
  where
    by : (b : Bool) → (has_login front ≡ false → has_login (front ++ ask ∷ []) ≡ is_login ask.iu) → cond b true (has_login front) ≡ false
        → cond b true (has_login (front ++ ask ∷ [])) ≡ is_login ask.iu
    by true rest isnt = absurd (true≢false isnt)
    by false rest isnt = rest isnt

-- ---- slots

pub apart_front : (front : List Ask) (ask : Ask) (more : List Ask) → AreApart (front ++ ask ∷ more) → All (λ one. one.slot ≢ ask.slot) front
apart_front [] ask more apart = All-nil (λ (one : Ask). one.slot ≢ ask.slot)
apart_front (first ∷ front) ask more apart =
    All-cons (λ (one : Ask). one.slot ≢ ask.slot) first front (at front apart.0) (apart_front front ask more apart.1)
  where
    at : (xs : List Ask) → All (λ other. first.slot ≢ other.slot) (xs ++ ask ∷ more) → first.slot ≢ ask.slot
    at [] all = All-head (λ (other : Ask). first.slot ≢ other.slot) ask more all
    at (x ∷ xs) all = at xs (All-tail (λ (other : Ask). first.slot ≢ other.slot) x (xs ++ ask ∷ more) all)

-- a list without one of its elements
pub all_without : {X : Type 0} (P : X → Type 0) (front : List X) (one : X) (more : List X) → All P (front ++ one ∷ more) → All P (front ++ more)
all_without P [] one more all = All-tail P one more all
all_without P (first ∷ front) one more all =
    All-cons P first (front ++ more) (All-head P first (front ++ one ∷ more) all) (all_without P front one more (All-tail P first (front ++ one ∷ more) all))

-- ---- tags

pub rise_push : (last : ℕ) (asked : List Ask) (ask : Ask) → TagsRise last asked → ask.tag ≡ last + 1 → TagsRise (last + 1) (asked ++ ask ∷ [])
rise_push last [] ask rise is = (omega (arith, is), All-nil (λ (other : Ask). ask.tag < other.tag), tt)
rise_push last (first ∷ asked) ask rise is = (
  omega (arith, rise.0),
  All-push (λ (other : Ask). first.tag < other.tag) asked ask rise.1 (omega (arith, rise.0, is)),
  rise_push last asked ask rise.2 is,
)

pub rise_without : (last : ℕ) (front : List Ask) (ask : Ask) (more : List Ask) → TagsRise last (front ++ ask ∷ more) → TagsRise last (front ++ more)
rise_without last [] ask more rise = rise.2
rise_without last (first ∷ front) ask more rise =
    (rise.0, all_without (λ (other : Ask). first.tag < other.tag) front ask more rise.1, rise_without last front ask more rise.2)

-- ---- without one of them

pub apart_without : (front : List Ask) (ask : Ask) (more : List Ask) → AreApart (front ++ ask ∷ more) → AreApart (front ++ more)
apart_without [] ask more apart = apart.1
apart_without (first ∷ front) ask more apart =
    (all_without (λ (other : Ask). first.slot ≢ other.slot) front ask more apart.0, apart_without front ask more apart.1)

pub names_without : (front : List Ask) (ask : Ask) (more : List Ask) → is_logout ask.iu ≡ true → names_of (front ++ ask ∷ more) ≡ names_of (front ++ more)
names_without [] ask more is = ap (λ b. cond b (names_of more) (name_of ask ∷ names_of more)) is
names_without (first ∷ front) ask more is =
    ap (λ (names : List Outgoing). cond (is_logout first.iu) names (name_of first ∷ names)) (names_without front ask more is)

-- whether a login is on behind one of them
pub on_out : (on : Bool) (ask : Ask) (more : List Ask) → is_logout ask.iu ≡ true → on_behind on (ask ∷ more) ≡ on_behind false more
on_out on ask more is =
    ap (λ b. cond b on (on_behind (cond (is_logout ask.iu) false on) more)) (logout_no_login ask.iu is)
    ∙ ap (λ b. on_behind (cond b false on) more) is

pub on_counted : (on : Bool) (ask : Ask) (more : List Ask) → is_counted ask.iu ≡ true → on_behind on (ask ∷ more) ≡ on_behind on more
on_counted on ask more is =
    ap (λ b. cond b on (on_behind (cond (is_logout ask.iu) false on) more)) (counted_no_login ask.iu is)
    ∙ ap (λ b. on_behind (cond b false on) more) (logout_not_counted ask.iu is)

pub on_login : (on : Bool) (ask : Ask) (more : List Ask) → is_login ask.iu ≡ true → on_behind on (ask ∷ more) ≡ on
on_login on ask more is = ap (λ b. cond b on (on_behind (cond (is_logout ask.iu) false on) more)) is

pub logout_behind : (ask : Ask) (more : List Ask) → is_logout ask.iu ≡ false → has_logout (ask ∷ more) ≡ has_logout more
logout_behind ask more isnt = ap (λ b. cond b true (has_logout more)) isnt

pub counted_behind : (ask : Ask) (more : List Ask) → is_counted ask.iu ≡ true → counted (ask ∷ more) ≡ 1 + counted more
counted_behind ask more is = ap (λ b. cond b 1 0 + counted more) is

pub login_counted : (ask : Ask) (more : List Ask) → is_login ask.iu ≡ true → counted (ask ∷ more) ≡ counted more
login_counted ask more is = omega (arith, ap (λ b. cond b 1 0 + counted more) (login_not_counted ask.iu is))

pub login_without : (front : List Ask) (ask : Ask) (more : List Ask) → is_login ask.iu ≡ false → has_login (front ++ ask ∷ more) ≡ has_login (front ++ more)
login_without [] ask more isnt = ap (λ b. cond b true (has_login more)) isnt
login_without (first ∷ front) ask more isnt = ap (λ b. cond (is_login first.iu) true b) (login_without front ask more isnt)
