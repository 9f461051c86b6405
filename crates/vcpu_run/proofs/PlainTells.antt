-- The entry that a plain client took as it waits for a login: what it tells of, by what is asked.
use Rattle.std.proofs.Common.{◌≡◌, ◌≢◌, ◌∙◌, ◌⊎◌, inl, inr, ℕ, ◌<◌, ◌==◌, ◌||◌, ◌++◌, find, All, Bool, true, false, true≢false, cond, List, [], ◌∷◌, Some, None, IsSome, refl, sym, ap, subst, arith}
use Rattle.std.specs.Option.{option_map}
use Rattle.std.proofs.lemmas.Bool.Decides.{nat_tests}
use Rattle.std.proofs.lemmas.List.Elements.{All-cons, All-head, All-nil, All-push, All-tail}
use Rattle.vio_num.specs.declared.entry.Entry.{Entry}
use Rattle.srp_iu.specs.declared.unit.Iu.{Iu}
use Rattle.tce_window.specs.PortState.{PortState}
use Rattle.vscsi_client.specs.Login.{is_kept, login_slot}
use Rattle.vscsi_client.specs.Sending.{task_of}
use Rattle.vscsi_client.specs.State.{ClientState}
use Rattle.vscsi_client.specs.Taking.{slot_of}
use Rattle.vscsi_client.specs.declared.outgoing.Outgoing.{Outgoing}
use Rattle.vscsi_client.specs.declared.stage.Stage.{Stage}
use Rattle.vscsi_client.specs.declared.stage.Stage.TheVariants.{Idle, Sent, Written}
use Rattle.vcpu_run.specs.PlainTalk.{AreInOrder, Ask, HaveAnswers, TagsRise, has_login, is_login, is_logout, is_sent, login_name, name_of, names_of}
use Rattle.vcpu_run.proofs.PlainAsks.{all_parts, names_push}
use Rattle.vcpu_run.proofs.PlainLists.{login_no_logout}

-- ---- tags

-- those before one have lower tags
pub tags_below : (last : ℕ) (front : List Ask) (ask : Ask) (more : List Ask) → TagsRise last (front ++ ask ∷ more) → All (λ one. one.tag < ask.tag) front
tags_below last [] ask more rise = All-nil (λ (one : Ask). one.tag < ask.tag)
tags_below last (first ∷ front) ask more rise =
    All-cons (λ (one : Ask). one.tag < ask.tag) first front
    (All-head (λ (other : Ask). first.tag < other.tag) ask more (all_parts (λ (other : Ask). first.tag < other.tag) front (ask ∷ more) rise.1).1)
    (tags_below last front ask more rise.2)

-- entries that tell of the answers to those are of other tags
pub kept_no : (window : PortState) (kept : List Entry) (front : List Ask) (before : List Iu) (tag : ℕ) → HaveAnswers window kept front before → All (λ one. one.tag < tag) front
    → is_kept tag kept ≡ false
kept_no window [] front before tag have below = refl
kept_no window (entry ∷ kept) [] before tag have below = absurd have
kept_no window (entry ∷ kept) (ask ∷ front) [] tag have below = absurd have
kept_no window (entry ∷ kept) (ask ∷ front) (answer ∷ before) tag have below =
    other (entry.low == tag) differs (kept_no window kept front before tag have.1 (All-tail (λ (one : Ask). one.tag < tag) ask front below))
  where
    low : entry.low ≡ ask.tag
    low = ap (λ (e : Entry). e.low) have.0.entry_is

    less : ask.tag < tag
    less = All-head (λ (one : Ask). one.tag < tag) ask front below

    differs : (entry.low == tag) ≡ false
    differs = grind (arith, nat_tests, low, less)

    other : (b : Bool) → b ≡ false → is_kept tag kept ≡ false → (b || is_kept tag kept) ≡ false
    other b e rest = ap (λ (c : Bool). c || is_kept tag kept) e ∙ rest

-- ---- the login

-- What is so of the login that is under way: it is the last of what is asked.
pub record IsLastAsked (asked : List Ask) : Type 0 where
  pub front : List Ask
  pub login : Ask
  pub is : asked ≡ front ++ login ∷ []
  pub is_login : is_login login.iu ≡ true

pub last_asked : (asked : List Ask) → AreInOrder asked → has_login asked ≡ true → IsLastAsked asked
last_asked [] order has = absurd (true≢false (sym has))
last_asked (ask ∷ []) order has = record { front = []; login = ask; is = refl; is_login = only (is_login ask.iu) has }
  where
    only : (b : Bool) → cond b true false ≡ true → b ≡ true
    only true e = refl
    only false e = absurd (true≢false (sym e))
last_asked (ask ∷ next ∷ more) order has =
    let last = last_asked (next ∷ more) order.3 (sym (ap (λ b. cond b true (has_login (next ∷ more))) order.0) ∙ has) in
    record { front = ask ∷ last.front; login = last.login; is = ap (λ (list : List Ask). ask ∷ list) last.is; is_login = last.is_login }

-- lists with one behind them that are equal end with one
last_same : (xs ys : List Outgoing) (a b : Outgoing) → xs ++ a ∷ [] ≡ ys ++ b ∷ [] → a ≡ b
last_same [] [] a b e = cc (e)
last_same [] (y ∷ []) a b e = absurd (cc (e))
last_same [] (y ∷ z ∷ ys) a b e = absurd (cc (e))
last_same (x ∷ []) [] a b e = absurd (cc (e))
last_same (x ∷ z ∷ xs) [] a b e = absurd (cc (e))
last_same (x ∷ xs) (y ∷ ys) a b e = last_same xs ys a b (tails x y (xs ++ a ∷ []) (ys ++ b ∷ []) e)
  where
    tails : (x y : Outgoing) (xs ys : List Outgoing) → x ∷ xs ≡ y ∷ ys → xs ≡ ys
    tails x y xs ys e = cc (e)

-- its name is that of the stage
pub login_named : (asked : List Ask) (outgoing : List Outgoing) (tag slot : ℕ) → (last : IsLastAsked asked) → names_of asked ≡ outgoing ++ task_of tag slot ∷ []
    → name_of last.login ≡ task_of tag slot
login_named asked outgoing tag slot last names =
    last_same (names_of last.front) outgoing (name_of last.login) (task_of tag slot)
    (sym (names_push last.front last.login (login_no_logout last.login.iu last.is_login)) ∙ sym (ap names_of last.is) ∙ names)

-- all else has a lower tag
pub others_below : (last : ℕ) (asked : List Ask) → TagsRise last asked → (is : IsLastAsked asked) → All (λ one. is_login one.iu ≡ false → one.tag < is.login.tag) asked
others_below last asked rise is =
    subst (All (λ (one : Ask). is_login one.iu ≡ false → one.tag < is.login.tag)) (sym is.is)
    (All-push (λ (one : Ask). is_login one.iu ≡ false → one.tag < is.login.tag) is.front is.login
    (weaken is.front (tags_below last is.front is.login [] (subst (TagsRise last) is.is rise))) (λ isnt. absurd (true≢false (sym is.is_login ∙ isnt))))
  where
    weaken : (list : List Ask) → All (λ one. one.tag < is.login.tag) list → All (λ one. is_login one.iu ≡ false → one.tag < is.login.tag) list
    weaken [] all = All-nil (λ (one : Ask). is_login one.iu ≡ false → one.tag < is.login.tag)
    weaken (first ∷ list) all =
        All-cons (λ (one : Ask). is_login one.iu ≡ false → one.tag < is.login.tag) first list (λ isnt. All-head (λ (one : Ask). one.tag < is.login.tag) first list all)
        (weaken list (All-tail (λ (one : Ask). one.tag < is.login.tag) first list all))

-- ---- another request

-- the names about one that is no logout
pub names_mid : (front : List Ask) (ask : Ask) (more : List Ask) → is_logout ask.iu ≡ false → names_of (front ++ ask ∷ more) ≡ names_of front ++ name_of ask ∷ names_of more
names_mid [] ask more isnt = ap (λ b. cond b (names_of more) (name_of ask ∷ names_of more)) isnt
names_mid (first ∷ front) ask more isnt = by (is_logout first.iu) (names_mid front ask more isnt)
  where
    by : (b : Bool) → names_of (front ++ ask ∷ more) ≡ names_of front ++ name_of ask ∷ names_of more
        → cond b (names_of (front ++ ask ∷ more)) (name_of first ∷ names_of (front ++ ask ∷ more)) ≡ cond b (names_of front) (name_of first ∷ names_of front) ++ name_of ask ∷ names_of more
    by true rest = rest
    by false rest = ap (λ (names : List Outgoing). name_of first ∷ names) rest

-- the login that is under way is of another tag
pub other_login : (last : ℕ) (s : ClientState) (asked : List Ask) (front : List Ask) (ask : Ask) (more : List Ask) → asked ≡ front ++ ask ∷ more → is_login ask.iu ≡ false
    → TagsRise last asked → AreInOrder asked → names_of asked ≡ s.outgoing ++ login_name s.login → has_login asked ≡ is_sent s.login
    → (s.login ≡ Idle) ⊎ (is_sent s.login ≡ true) → All (λ (name : Outgoing). name.tag ≢ ask.tag) (login_name s.login) × (login_slot ask.tag s.login ≡ None)
other_login last s asked front ask more is isnt rise order names sent stage = by s.login refl stage
  where
    by : (login : Stage) → s.login ≡ login → (login ≡ Idle) ⊎ (is_sent login ≡ true)
        → All (λ (name : Outgoing). name.tag ≢ ask.tag) (login_name login) × (login_slot ask.tag login ≡ None)
    by Idle e stage = (All-nil (λ (name : Outgoing). name.tag ≢ ask.tag), refl)
    by (Written tag slot) e (inl idle) = absurd (cc (idle))
    by (Written tag slot) e (inr sent) = absurd (true≢false (sym sent))
    by (Sent tag slot) e stage = (
      All-cons (λ (name : Outgoing). name.tag ≢ ask.tag) (task_of tag slot) [] (λ same. omega (arith, less, same, tag_is)) (All-nil (λ (name : Outgoing). name.tag ≢ ask.tag)),
      ap (λ b. cond b (Some slot) None) differs,
    )
      where
        login : IsLastAsked asked
        login = last_asked asked order (sent ∙ ap is_sent e)

        tag_is : login.login.tag ≡ tag
        tag_is = ap (λ (name : Outgoing). name.tag)
            (login_named asked s.outgoing tag slot login (names ∙ ap (λ (l : Stage). s.outgoing ++ login_name l) e))

        less : ask.tag < login.login.tag
        less = All-head (λ (one : Ask). is_login one.iu ≡ false → one.tag < login.login.tag) ask more
            (all_parts (λ (one : Ask). is_login one.iu ≡ false → one.tag < login.login.tag) front (ask ∷ more)
            (subst (All (λ (one : Ask). is_login one.iu ≡ false → one.tag < login.login.tag)) is (others_below last asked rise login))).1 isnt

        differs : (tag == ask.tag) ≡ false
        differs = grind (arith, nat_tests, less, tag_is)

-- a request of a tag is found among names
pub find_named : (front : List Outgoing) (name : Outgoing) (more : List Outgoing) → IsSome (slot_of name.tag (front ++ name ∷ more))
find_named [] name more = ap_some (name.tag == name.tag) (grind (arith, nat_tests))
  where
    ap_some : (b : Bool) → b ≡ true → IsSome (option_map (λ (o : Outgoing). o.slot) (cond b (Some name) (find (λ (o : Outgoing). o.tag == name.tag) more)))
    ap_some true e = refl
    ap_some false e = absurd (true≢false (sym e))
find_named (first ∷ front) name more = by (first.tag == name.tag) (find_named front name more)
  where
    by : (b : Bool) → IsSome (slot_of name.tag (front ++ name ∷ more))
        → IsSome (option_map (λ (o : Outgoing). o.slot) (cond b (Some first) (find (λ (o : Outgoing). o.tag == name.tag) (front ++ name ∷ more))))
    by true some = refl
    by false some = some

-- and it is none of those of other tags
pub find_front : (tag : ℕ) (front more : List Outgoing) → All (λ (name : Outgoing). name.tag ≢ tag) more → IsSome (slot_of tag (front ++ more)) → IsSome (slot_of tag front)
find_front tag [] [] others some = some
find_front tag [] (first ∷ more) others some = find_front tag [] more (All-tail (λ (name : Outgoing). name.tag ≢ tag) first more others) (by (first.tag == tag) refl some)
  where
    differs : first.tag ≢ tag
    differs = All-head (λ (name : Outgoing). name.tag ≢ tag) first more others

    by : (b : Bool) → (first.tag == tag) ≡ b → IsSome (option_map (λ (o : Outgoing). o.slot) (cond b (Some first) (find (λ (o : Outgoing). o.tag == tag) more)))
        → IsSome (slot_of tag more)
    by true e some = absurd (differs (grind (arith, nat_tests, e)))
    by false e some = some
find_front tag (first ∷ front) more others some = by (first.tag == tag) some (λ rest. find_front tag front more others rest)
  where
    by : (b : Bool) → IsSome (option_map (λ (o : Outgoing). o.slot) (cond b (Some first) (find (λ (o : Outgoing). o.tag == tag) (front ++ more))))
        → (IsSome (slot_of tag (front ++ more)) → IsSome (slot_of tag front))
        → IsSome (option_map (λ (o : Outgoing). o.slot) (cond b (Some first) (find (λ (o : Outgoing). o.tag == tag) front)))
    by true some later = refl
    by false some later = later some
