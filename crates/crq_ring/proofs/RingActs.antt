-- From what an end keeps to what its steps ask, and from what these tell to what it keeps afterwards.
use Rattle.std.proofs.Common.{◌≡◌, ℕ, ◌+◌, ◌*◌, ◌%◌, ◌<◌, ◌≤◌, true, List, [], ◌∷◌, ◌++◌, length, sym, refl, ap, ◌∙◌, subst, arith}
use Rattle.std.proofs.Math.Nat.{mod-lt, add-mod-mod, zero-mod}
use Rattle.std.proofs.lemmas.List.{length-append}
use mathlib.Core.Option.{none}
use Rattle.atomic_table.specs.Table.{step, Allows}
use Rattle.vio_num.specs.declared.entry.Entry.{Entry}
use Rattle.crq_ring.specs.declared.rows.PipeRow.{PipeRow}
use Rattle.crq_ring.specs.declared.view.Role.{Role}
use Rattle.crq_ring.specs.declared.view.Role.TheVariants.{Sender, Receiver}
use Rattle.crq_ring.specs.EndsKept.{RingSeat, IsEnd}
use Rattle.crq_ring.specs.Kept.{Present}
use Rattle.crq_ring.specs.RingRule.{InOrder}
use Rattle.crq_ring.specs.RingSteps.{Seated, own_now, other_now, seated_row, Keeps, probed, staged, sent, looked, read, cleared}
use Rattle.crq_ring.specs.Sessions.{of_session}
use Rattle.crq_ring.specs.Window.{words_of, IsFull}
use Rattle.crq_ring.proofs.RingAllows.{Inside, Opened, probes, stages_low, sends_high, looks, reads_low, clears_high}
use Rattle.crq_ring.proofs.Sessions.{of_session-push, Present-push, Present-later, Present-none, of_session-nil}

-- An end that may use its slots, as Sits says, whose next slot is `next`, at a table that was told the
-- number `key`.
pub record Stands (Sits : ℕ → Seated → Type 0) (key n next : ℕ) (me : Seated) : Type 0 where
  pub key_is : key ≡ n
  pub sits : Sits n me
  pub next_is : next ≡ length (own_now me) % n

module _ (key n next slots id : ℕ) (me : Seated) where
  at_next : (F : ℕ → ℕ → Type 0) → key ≡ n → next ≡ length (own_now me) % n → F n (length (own_now me) % n) → F key next
  at_next F told here = subst (λ (z : ℕ × ℕ). F z.0 z.1) (λ i. (sym told i, sym here i))

  pub probe_next : Stands Inside key n next me → Allows (InOrder key) slots id me (2 * next) (λ x. x) (probed (step slots (2 * next) 0 0 none) me)
  probe_next st = at_next (λ a b. Allows (InOrder a) slots id me (2 * b) (λ x. x) (probed (step slots (2 * b) 0 0 none) me)) st.key_is st.next_is (probes n slots id me st.sits)

  pub stage_next : (low : ℕ) → Stands Inside key n next me → length (own_now me) < length (other_now me) + n
      → Allows (InOrder key) slots id me (2 * next + 1) (λ _. low) (λ _. staged (step slots (2 * next + 1) low 0 none) me low)
  stage_next low st vacant = at_next (λ a b. Allows (InOrder a) slots id me (2 * b + 1) (λ _. low) (λ _. staged (step slots (2 * b + 1) low 0 none) me low)) st.key_is st.next_is (stages_low n slots id me low st.sits vacant)

  pub send_next : (high : ℕ) → Stands Inside key n next me → length (own_now me) < length (other_now me) + n → IsFull high
      → Allows (InOrder key) slots id me (2 * next) (λ _. high) (λ _. sent (step slots (2 * next) high 0 none) me high)
  send_next high st vacant marked = at_next (λ a b. Allows (InOrder a) slots id me (2 * b) (λ _. high) (λ _. sent (step slots (2 * b) high 0 none) me high)) st.key_is st.next_is (sends_high n slots id me high st.sits vacant marked)

  pub look_next : Stands Opened key n next me → Allows (InOrder key) slots id me (2 * next) (λ x. x) (looked (step slots (2 * next) 0 0 none) me)
  look_next st = at_next (λ a b. Allows (InOrder a) slots id me (2 * b) (λ x. x) (looked (step slots (2 * b) 0 0 none) me)) st.key_is st.next_is (looks n slots id me st.sits)

  pub read_next : Stands Opened key n next me → length (own_now me) < length (other_now me) → Allows (InOrder key) slots id me (2 * next + 1) (λ x. x) (read (step slots (2 * next + 1) 0 0 none) me)
  read_next st more = at_next (λ a b. Allows (InOrder a) slots id me (2 * b + 1) (λ x. x) (read (step slots (2 * b + 1) 0 0 none) me)) st.key_is st.next_is (reads_low n slots id me st.sits more)

  pub clear_next : Stands Opened key n next me → length (own_now me) < length (other_now me) → Allows (InOrder key) slots id me (2 * next) (λ _. 0) (λ _. cleared (step slots (2 * next) 0 0 none) me 0)
  clear_next st more = at_next (λ a b. Allows (InOrder a) slots id me (2 * b) (λ _. 0) (λ _. cleared (step slots (2 * b) 0 0 none) me 0)) st.key_is st.next_is (clears_high n slots id me st.sits more)

-- The seat has the same role in the same session, and its list of before.
pub record Alike (m m' : Seated) : Type 0 where
  pub role : m'.0.role ≡ m.0.role
  pub slots : m'.0.slots ≡ m.0.slots
  pub carried : m'.1 ≡ m.1
  pub session : m'.0.session ≡ m.0.session
  pub own : m'.0.own ≡ m.0.own

pub alike : (m m' : Seated) → Keeps m m' → m'.0.own ≡ m.0.own → Alike m m'
alike m m' k own = record { role = k.role; slots = k.slots; carried = k.carried; session = k.session; own = own }

-- the lists of the session stay
pub own_stays : (m m' : Seated) → m'.0.session ≡ m.0.session → m'.0.own ≡ m.0.own → own_now m' ≡ own_now m
own_stays m m' session own = λ i. of_session (session i) (own i)

pub other_stays : (m m' : Seated) → m'.0.session ≡ m.0.session → m'.0.other ≡ m.0.other → other_now m' ≡ other_now m
other_stays m m' session other = λ i. of_session (session i) (other i)

same_slots : (a n words : ℕ) → words ≡ words_of a → words ≡ words_of n → a ≡ n
same_slots a n words x y = omega arith

turns : (next m n : ℕ) → next ≡ m % n → (next + 1) % n ≡ (m + 1) % n
turns next m n e = let a : next + 1 ≡ 1 + m % n = (let x : ℕ = m % n in let e' : next ≡ x = e in omega arith) in let b : 1 + m ≡ m + 1 = omega arith in
    ap (λ i. i % n) a ∙ (add-mod-mod 1 m n ∙ ap (λ i. i % n) b)

module _ (role : Role) (seat : RingSeat) (next session from : ℕ) (rows : List PipeRow) (n : ℕ) (end : IsEnd role seat next session from rows) (words : seat.table_id.words ≡ words_of n) where
  -- the end's number of slots is the ring's
  pub slots_is : seat.me.0.slots ≡ n
  slots_is = same_slots seat.me.0.slots n seat.table_id.words end.words words

  pub next_of : next ≡ length (own_now seat.me) % n
  next_of = end.next_is ∙ ap (λ z. length (own_now seat.me) % z) slots_is

  -- both words of the next slot lie in the table
  pub slot_inside : (total : ℕ) → total ≡ words_of n → (2 * next < total) × (2 * next + 1 < total)
  slot_inside total w = let a : next < seat.me.0.slots = end.within in let b : seat.me.0.slots ≡ n = slots_is in let c : total ≡ 2 * n + 16 = w in (omega arith, omega arith)

  -- the end where its list has not changed
  pub same_end : (seat' : RingSeat) → seat'.table_id ≡ seat.table_id → Alike seat.me seat'.me → IsEnd role seat' next session from rows
  same_end seat' table g = let slots : seat'.me.0.slots ≡ seat.me.0.slots = g.slots in record {
    role_is = g.role ∙ end.role_is;
    words = ap (λ z. z.words) table ∙ (end.words ∙ ap words_of (sym slots));
    some_slots = subst (λ z. 0 < z) (sym slots) end.some_slots;
    few_slots = subst (λ z. z ≤ 4096) (sym slots) end.few_slots;
    within = subst (λ z. next < z) (sym slots) end.within;
    next_is = end.next_is ∙ (λ i. length (sym (own_stays seat.me seat'.me g.session g.own) i) % sym slots i);
    session_is = end.session_is ∙ sym g.session;
    rows_are = end.rows_are ∙ sym g.own;
    present = end.present;
    carries_none = g.carried ∙ end.carries_none;
  }

  -- the end with one entry more
  pub longer_end : (seat' : RingSeat) (e : Entry) (rows' : List PipeRow) (next' : ℕ) → seat'.table_id ≡ seat.table_id → Keeps seat.me seat'.me → seat'.me.0.own ≡ seat.me.0.own ++ seated_row seat.me e ∷ []
      → rows' ≡ rows ++ record { session = session; entry = e } ∷ [] → next' ≡ (next + 1) % n → IsEnd role seat' next' session from rows'
  longer_end seat' e rows' next' table g own longer turned = let slots : seat'.me.0.slots ≡ seat.me.0.slots = g.slots in let xs : List Entry = own_now seat.me in let a : ℕ = seat.me.0.slots in
      let pushed : own_now seat'.me ≡ xs ++ e ∷ [] = (λ i. of_session (g.session i) (own i)) ∙ of_session-push (seated_row seat.me e) seat.me.0.own in
      let long : length (own_now seat'.me) ≡ length xs + 1 = ap length pushed ∙ length-append xs (e ∷ []) in let round : next' ≡ (next + 1) % a = turned ∙ ap (λ z. (next + 1) % z) (sym slots_is) in
      let here : next' ≡ (length xs + 1) % a = round ∙ turns next (length xs) a end.next_is in record {
        role_is = g.role ∙ end.role_is;
        words = ap (λ z. z.words) table ∙ (end.words ∙ ap words_of (sym slots));
        some_slots = subst (λ z. 0 < z) (sym slots) end.some_slots;
        few_slots = subst (λ z. z ≤ 4096) (sym slots) end.few_slots;
        within = subst (λ (z : ℕ × ℕ). z.0 < z.1) (λ i. (sym round i, sym slots i)) (mod-lt (next + 1) end.some_slots);
        next_is = here ∙ (λ i. sym long i % sym slots i);
        session_is = end.session_is ∙ sym g.session;
        rows_are = longer ∙ ((λ i. end.rows_are i ++ record { session = end.session_is i; entry = e } ∷ []) ∙ sym own);
        present = subst (Present session from) (sym longer) (Present-push session from rows (record { session = session; entry = e }) refl end.present);
        carries_none = g.carried ∙ end.carries_none;
      }

  -- the end in a later session, of which it has no rows
  pub later_end : (seat' : RingSeat) (session' : ℕ) → seat'.table_id ≡ seat.table_id → seat'.me.0.role ≡ seat.me.0.role → seat'.me.0.slots ≡ seat.me.0.slots → seat'.me.1 ≡ seat.me.1
      → seat'.me.0.own ≡ seat.me.0.own → session' ≡ seat'.me.0.session → session < session' → IsEnd role seat' 0 session' (length rows) rows
  later_end seat' session' table same slots carried own is later = let here = Present-later session session' from rows later end.present in
      let none_now : own_now seat'.me ≡ [] = (λ i. of_session (sym is i) ((own ∙ sym end.rows_are) i)) ∙ end.present.none_later session' later in record {
        role_is = same ∙ end.role_is;
        words = ap (λ z. z.words) table ∙ (end.words ∙ ap words_of (sym slots));
        some_slots = subst (λ z. 0 < z) (sym slots) end.some_slots;
        few_slots = subst (λ z. z ≤ 4096) (sym slots) end.few_slots;
        within = subst (λ z. 0 < z) (sym slots) end.some_slots;
        next_is = sym (ap (λ (l : List Entry). length l % seat'.me.0.slots) none_now ∙ zero-mod seat'.me.0.slots);
        session_is = is;
        rows_are = end.rows_are ∙ sym own;
        present = here;
        carries_none = carried ∙ end.carries_none;
      }

-- a sender that is inside, and a receiver whose queue is open, may use their slots
pub stands_inside : (seat : RingSeat) (next session from : ℕ) (rows : List PipeRow) (n key : ℕ) → IsEnd Sender seat next session from rows → seat.table_id.words ≡ words_of n → key ≡ n
    → seat.me.0.inside ≡ true → Stands Inside key n next seat.me
stands_inside seat next session from rows n key end words told inside = record {
  key_is = told;
  sits = record { role = end.role_is; slots = slots_is Sender seat next session from rows n end words; inside = inside };
  next_is = next_of Sender seat next session from rows n end words;
}

pub stands_opened : (seat : RingSeat) (next session from : ℕ) (rows : List PipeRow) (n key : ℕ) → IsEnd Receiver seat next session from rows → seat.table_id.words ≡ words_of n → key ≡ n
    → seat.me.0.is_open ≡ true → Stands Opened key n next seat.me
stands_opened seat next session from rows n key end words told is_open = record {
  key_is = told;
  sits = record { role = end.role_is; slots = slots_is Receiver seat next session from rows n end words; is_open = is_open };
  next_is = next_of Receiver seat next session from rows n end words;
}

-- the list has not changed
pub stays_inside : (key n next : ℕ) (m m' : Seated) → Stands Inside key n next m → Keeps m m' → m'.0.own ≡ m.0.own → Stands Inside key n next m'
stays_inside key n next m m' st g own = record {
  key_is = st.key_is;
  sits = record { role = g.role ∙ st.sits.role; slots = g.slots ∙ st.sits.slots; inside = g.inside ∙ st.sits.inside };
  next_is = st.next_is ∙ ap (λ l. length l % n) (sym (own_stays m m' g.session own));
}

pub stays_opened : (key n next : ℕ) (m m' : Seated) → Stands Opened key n next m → Keeps m m' → m'.0.own ≡ m.0.own → Stands Opened key n next m'
stays_opened key n next m m' st g own = record {
  key_is = st.key_is;
  sits = record { role = g.role ∙ st.sits.role; slots = g.slots ∙ st.sits.slots; is_open = g.is_open ∙ st.sits.is_open };
  next_is = st.next_is ∙ ap (λ l. length l % n) (sym (own_stays m m' g.session own));
}

pub then_on : (a b c : Seated) → Keeps a b → Keeps b c → Keeps a c
then_on a b c g h = record {
  role = h.role ∙ g.role;
  slots = h.slots ∙ g.slots;
  carried = h.carried ∙ g.carried;
  inside = h.inside ∙ g.inside;
  is_open = h.is_open ∙ g.is_open;
  session = h.session ∙ g.session;
  swept = h.swept ∙ g.swept;
}

-- the slot is still empty, as the probe told
pub vacant_after : (n : ℕ) (m m' : Seated) → m.0.slots ≡ n → own_now m' ≡ own_now m → length (own_now m) < length (other_now m') + m.0.slots → length (own_now m') < length (other_now m') + n
vacant_after n m m' slots own l = let a : m.0.slots ≡ n = slots in let b : length (own_now m') ≡ length (own_now m) = ap length own in omega arith

pub vacant_still : (n : ℕ) (m m' : Seated) → own_now m' ≡ own_now m → other_now m' ≡ other_now m → length (own_now m) < length (other_now m) + n → length (own_now m') < length (other_now m') + n
vacant_still n m m' own other l = let a : length (other_now m') ≡ length (other_now m) = ap length other in let b : length (own_now m') ≡ length (own_now m) = ap length own in omega arith

-- an entry still lies in the slot, as the look told
pub held_after : (m m' : Seated) → own_now m' ≡ own_now m → length (own_now m) < length (other_now m') → length (own_now m') < length (other_now m')
held_after m m' own l = let b : length (own_now m') ≡ length (own_now m) = ap length own in omega arith

pub some_words : (n total : ℕ) → total ≡ words_of n → 0 < total
some_words n total w = let e : total ≡ 2 * n + 16 = w in omega arith

-- the end of a new ring
pub new_end : (role : Role) (seat : RingSeat) (n session : ℕ) (rows : List PipeRow) → seat.me.0.role ≡ role → seat.me.0.slots ≡ n → 1 ≤ n → n ≤ 4096 → seat.table_id.words ≡ words_of n
    → seat.me.0.own ≡ [] → session ≡ seat.me.0.session → seat.me.1 ≡ [] → rows ≡ [] → IsEnd role seat 0 session 0 rows
new_end role seat n session rows role_is slots some few words own is carried empty = let here : own_now seat.me ≡ [] = ap (of_session seat.me.0.session) own ∙ of_session-nil seat.me.0.session in record {
  role_is = role_is;
  words = words ∙ ap words_of (sym slots);
  some_slots = omega (arith, some, slots);
  few_slots = omega (arith, few, slots);
  within = omega (arith, some, slots);
  next_is = sym (ap (λ (l : List Entry). length l % seat.me.0.slots) here ∙ zero-mod seat.me.0.slots);
  session_is = is;
  rows_are = empty ∙ sym own;
  present = subst (Present session 0) (sym empty) (Present-none session);
  carries_none = carried;
}
