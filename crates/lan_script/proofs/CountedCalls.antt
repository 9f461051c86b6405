-- The counts of a port over each call at it.
use Rattle.std.proofs.Common.{◌≡◌, ◌+◌, ◌/◌, ◌%◌, ◌==◌, ◌^◌, ◌<◌, ◌≤◌, ℕ, suc, arith, Bool, true, false, IsSome, List, [], ◌∷◌, ◌++◌, append-nil, Option, Some, None, length, length-append, filter, if◌then◌else◌, refl, sym, ◌∙◌, ap, subst, Result}
use Rattle.std.specs.List.{flat_map}
use Rattle.vio_num.specs.declared.names.Mac.{Mac}
use Rattle.vio_num.specs.declared.names.UnitId.{UnitId}
use Rattle.vio_num.specs.declared.memory.NoMemory.{NoMemory}
use Rattle.vio_num.specs.declared.hypervisor.Hrc.{Hrc}
use Rattle.vio_num.specs.declared.hypervisor.Hrc.TheVariants.{Success, Busy, Closed, Function, Parameter, NotFound, Dropped, SourceParm, DestParm, Resource}
use Rattle.tce_window.specs.PortState.{PortState}
use Rattle.tce_window.specs.Held.{held_len}
use Rattle.lan_buffers.specs.Buffer.{frame_bits, toggle, toggle_bit}
use Rattle.lan_buffers.specs.Calls.{BeginsSession, IsOpen, Reads}
use Rattle.lan_buffers.specs.Port.{PortValue, Session, last_session, told_of}
use Rattle.lan_buffers.specs.declared.rows.DeliverRow.{DeliverRow}
use Rattle.lan_buffers.specs.declared.rows.HarvestRow.{HarvestRow}
use Rattle.lan_buffers.specs.declared.rows.PostRow.{PostRow as Post}
use Rattle.lan_buffers.specs.declared.settings.Settings.{Settings}
use Rattle.vio_trace.specs.declared.lan_rows.HarvestRow.{HarvestRow as TakenRow}
use Rattle.lan_buffers.specs.declared.answers.Harvest.{Harvest}
use Rattle.lan_buffers.specs.declared.answers.Harvest.TheVariants as harvests
use Rattle.lan_buffers.specs.Answers.{IfFrame}
use Rattle.lan_switch.specs.declared.answers.LanAnswer.{LanAnswer}
use Rattle.lan_switch.specs.Calls.{Adds, ChangesMac, Frees, Harvests, Multicasts, Registers, Reserves}
use Rattle.lan_script.specs.PortCounts.{PortCounts, counts, counts_in, is_frame, posted_on}
use Rattle.lan_script.specs.Rows.{harvests_in, posts_in, sessions_from}
use Rattle.lan_script.specs.Taking.{harvested_on}
use Rattle.lan_script.proofs.Called.{by_code}
use Rattle.lan_script.proofs.Counting.{HasMore, SameRows, counts_of, same_rows}
use Rattle.lan_script.proofs.PostRows.{begins_at, rows_behind}
use Rattle.lan_script.proofs.PortsGrow.{grows_equal, grows_with}
use Rattle.lan_script.proofs.SessionCounts.{frames_counted, frames_of, frames_one, one_if, posts_counted, posts_of, posts_one, sum_more, sum_none}
use Rattle.lan_script.proofs.Tallies.{shut}

still : (before after : PortValue) → after ≡ before → SameRows before after
still before after e =
    same_rows before after (ap (λ (p : PortValue). p.unit) e) (ap (λ (p : PortValue). p.posts) e) (ap (λ (p : PortValue). p.harvests) e) (ap (λ (p : PortValue). length p.drop_counts) e) (grows_equal before after e)

-- a session more, of which there is no row
begins_rows : (before after : PortValue) (mac : Mac) → BeginsSession before mac after → SameRows before after
begins_rows before after mac h = record {
  unit = ap (λ (p : PortValue). p.unit) h.rest;
  same = λ v.
      ap (λ n. counts_of v after.posts after.harvests n) long
      ∙ ap (λ n. counts n (length (filter (λ row. is_frame row.high) (flat_map (harvests_in v after.harvests) (sessions_from 1 (suc last))))))
      (posts_counted v after.posts (sessions_from 1 (suc last)) ∙ sum_none (posts_of after.posts) 1 last none_posted ∙ sym (posts_counted v after.posts (sessions_from 1 last)))
      ∙ ap (λ n. counts (length (flat_map (posts_in v after.posts) (sessions_from 1 last))) n)
      (frames_counted v after.harvests (sessions_from 1 (suc last)) ∙ sum_none (frames_of after.harvests) 1 last none_taken ∙ sym (frames_counted v after.harvests (sessions_from 1 last)))
      ∙ ap (λ l. counts_of v l after.harvests last) (ap (λ (p : PortValue). p.posts) h.rest)
      ∙ ap (λ l. counts_of v before.posts l last) (ap (λ (p : PortValue). p.harvests) h.rest);
  grows = record {
    sessions = omega (arith, long);
    posted = ([], ap (λ (p : PortValue). p.posts) h.rest ∙ sym (append-nil before.posts));
    delivered = ([], ap (λ (p : PortValue). p.deliveries) h.rest ∙ sym (append-nil before.deliveries));
    rows = λ v. begins_at v before.posts after.posts last (length after.drop_counts) long (ap (λ (p : PortValue). p.posts) h.rest) none_now;
  };
}
  where
    last : ℕ
    last = length before.drop_counts

    long : length after.drop_counts ≡ suc last
    long = omega (arith, ap (λ (l : List ℕ). length l) h.counts, length-append before.drop_counts (0 ∷ []))

    at : last_session after ≡ 1 + last
    at = omega (arith, long)

    none_posted : posts_of after.posts (1 + last) ≡ 0
    none_posted = ap (λ q. posts_of after.posts q) (sym at) ∙ ap (λ (s : Session). length s.posts) h.empty

    none_now : filter (λ (p : Post). p.session == 1 + last) after.posts ≡ []
    none_now = ap (λ q. filter (λ (p : Post). p.session == q) after.posts) (sym at) ∙ ap (λ (s : Session). s.posts) h.empty

    none_taken : frames_of after.harvests (1 + last) ≡ 0
    none_taken =
        ap (λ q. frames_of after.harvests q) (sym at)
        ∙ ap (λ (s : Session). length (filter (λ (r : HarvestRow). is_frame r.high) s.harvests)) h.empty

pub registers_rows : (list queue filters : ℕ) (mac : Mac) (answer : LanAnswer) (before after : PortValue)
    → Registers list queue filters mac answer before after → SameRows before after
registers_rows list queue filters mac answer before after h =
    by_code answer.code (SameRows before after) (λ e. begins_rows before after mac (h.success e)) (λ not. still before after (h.refused not))

pub frees_rows : (answer : LanAnswer) (before after : PortValue) → Frees answer before after → SameRows before after
frees_rows answer before after h =
    same_rows before after (ap (λ (p : PortValue). p.unit) h.done) (ap (λ (p : PortValue). p.posts) h.done) (ap (λ (p : PortValue). p.harvests) h.done) (ap (λ (p : PortValue). length p.drop_counts) h.done)
    (grows_with before after (ap (λ (p : PortValue). p.posts) h.done) (ap (λ (p : PortValue). p.deliveries) h.done) (ap (λ (p : PortValue). length p.drop_counts) h.done))

pub changes_rows : (mac : Mac) (answer : LanAnswer) (before after : PortValue) → ChangesMac mac answer before after → SameRows before after
changes_rows mac answer before after h =
    by_code answer.code (SameRows before after)
    (λ e.
    let is = (h.success e).sets in
    same_rows before after (ap (λ (p : PortValue). p.unit) is) (ap (λ (p : PortValue). p.posts) is) (ap (λ (p : PortValue). p.harvests) is) (ap (λ (p : PortValue). length p.drop_counts) is)
    (grows_with before after (ap (λ (p : PortValue). p.posts) is) (ap (λ (p : PortValue). p.deliveries) is) (ap (λ (p : PortValue). length p.drop_counts) is)))
    (λ not. still before after (h.refused not))

pub multicasts_rows : (control : ℕ) (mac : Mac) (answer : LanAnswer) (before after : PortValue) → Multicasts control mac answer before after
    → SameRows before after
multicasts_rows control mac answer before after h =
    by_code answer.code (SameRows before after)
    (λ e.
    let is = (h.success e).sets in
    same_rows before after (ap (λ (p : PortValue). p.unit) is) (ap (λ (p : PortValue). p.posts) is) (ap (λ (p : PortValue). p.harvests) is) (ap (λ (p : PortValue). length p.drop_counts) is)
    (grows_with before after (ap (λ (p : PortValue). p.posts) is) (ap (λ (p : PortValue). p.deliveries) is) (ap (λ (p : PortValue). length p.drop_counts) is)))
    (λ not. still before after (h.refused not))

pub reserves_rows : (n : ℕ) (answer : Result Unit NoMemory) (before after : PortValue) → Reserves n answer before after → SameRows before after
reserves_rows n answer before after h =
    same_rows before after (ap (λ (p : PortValue). p.unit) h.rest) (ap (λ (p : PortValue). p.posts) h.rest) (ap (λ (p : PortValue). p.harvests) h.rest) (ap (λ (p : PortValue). length p.drop_counts) h.rest)
    (grows_with before after (ap (λ (p : PortValue). p.posts) h.rest) (ap (λ (p : PortValue). p.deliveries) h.rest) (ap (λ (p : PortValue). length p.drop_counts) h.rest))

-- a code that is not Success posted nothing
pub no_post : (code : Hrc) → (code ≡ Success → ⊥) → posted_on code ≡ counts 0 0
no_post Success not = absurd (not refl)
no_post Busy not = refl
no_post Closed not = refl
no_post Function not = refl
no_post Parameter not = refl
no_post NotFound not = refl
no_post Dropped not = refl
no_post SourceParm not = refl
no_post DestParm not = refl
no_post Resource not = refl

none_more : (before after : PortValue) → SameRows before after → HasMore (counts 0 0) before after
none_more before after h = record {
  unit = h.unit;
  posts = λ v. omega (arith, ap (λ (c : PortCounts). c.posts) (h.same v));
  taken = λ v. omega (arith, ap (λ (c : PortCounts). c.taken) (h.same v));
  grows = h.grows;
}

-- rows of one session more than before
posts_behind : (before after : PortValue) (post : Post) (v : UnitId) → after.posts ≡ before.posts ++ post ∷ [] → after.drop_counts ≡ before.drop_counts
    → post.session ≡ last_session before → 1 ≤ last_session before
    → (counts_in v (Some after)).posts ≡ (counts_in v (Some before)).posts + 1
posts_behind before after post v posts drops own some =
    ap (λ l. length (flat_map (posts_in v l) (sessions_from 1 (length after.drop_counts)))) posts
    ∙ ap (λ n. length (flat_map (posts_in v (before.posts ++ post ∷ [])) (sessions_from 1 n))) (ap (λ (l : List ℕ). length l) drops)
    ∙ posts_counted v (before.posts ++ post ∷ []) (sessions_from 1 (length before.drop_counts))
    ∙ sum_more (posts_of before.posts) (posts_of (before.posts ++ post ∷ [])) post.session 1 1 (length before.drop_counts) (posts_one before.posts post)
    (omega (arith, own, some)) (omega (arith, own))
    ∙ ap (λ n. n + 1) (sym (posts_counted v before.posts (sessions_from 1 (length before.drop_counts))))

frames_behind : (before after : PortValue) (row : HarvestRow) (v : UnitId) → after.harvests ≡ before.harvests ++ row ∷ [] → after.drop_counts ≡ before.drop_counts
    → row.session ≡ last_session before → 1 ≤ last_session before
    → (counts_in v (Some after)).taken ≡ (counts_in v (Some before)).taken + one_if (is_frame row.high)
frames_behind before after row v rows drops own some =
    ap (λ l. length (filter (λ (r : TakenRow). is_frame r.high) (flat_map (harvests_in v l) (sessions_from 1 (length after.drop_counts))))) rows
    ∙ ap (λ n. length (filter (λ (r : TakenRow). is_frame r.high) (flat_map (harvests_in v (before.harvests ++ row ∷ [])) (sessions_from 1 n)))) (ap (λ (l : List ℕ). length l) drops)
    ∙ frames_counted v (before.harvests ++ row ∷ []) (sessions_from 1 (length before.drop_counts))
    ∙ sum_more (frames_of before.harvests) (frames_of (before.harvests ++ row ∷ [])) row.session (one_if (is_frame row.high)) 1 (length before.drop_counts)
    (frames_one before.harvests row) (omega (arith, own, some)) (omega (arith, own))
    ∙ ap (λ n. n + one_if (is_frame row.high)) (sym (frames_counted v before.harvests (sessions_from 1 (length before.drop_counts))))

-- the port is open, which it is in a session alone
abbrev pub HasBegun : PortValue → Type 0
HasBegun port = IsOpen port → 1 ≤ length port.drop_counts

-- only an open port posts
was_open : (descriptor : ℕ) (is_shared : Bool) (Found : ℕ → ℕ → Type 0) (window window' : PortState) (answer : LanAnswer) (before after : PortValue)
    → Adds descriptor is_shared Found window window' answer before after → answer.code ≡ Success → (IsOpen before → ⊥) → ⊥
was_open descriptor is_shared Found window window' answer before after h e shut =
    let refused = h.parameter (λ may. shut may.opened) in
    cc (e, refused.0)

pub adds_begun : (descriptor : ℕ) (is_shared : Bool) (Found : ℕ → ℕ → Type 0) (window window' : PortState) (answer : LanAnswer) (before after : PortValue)
    → HasBegun before → Adds descriptor is_shared Found window window' answer before after → answer.code ≡ Success → 1 ≤ length before.drop_counts
adds_begun descriptor is_shared Found window window' answer before after begun h e = by before.settings refl
  where
    by : (o : Option Settings) → before.settings ≡ o → 1 ≤ length before.drop_counts
    by (Some settings) f = begun (subst (λ (o : Option Settings). IsSome o) (sym f) refl)
    by None f = absurd (was_open descriptor is_shared Found window window' answer before after h e (λ is. shut before.settings f is))

pub adds_more : (descriptor : ℕ) (is_shared : Bool) (Found : ℕ → ℕ → Type 0) (window window' : PortState) (answer : LanAnswer) (before after : PortValue)
    → HasBegun before → Adds descriptor is_shared Found window window' answer before after → HasMore (posted_on answer.code) before after
adds_more descriptor is_shared Found window window' answer before after begun h =
    by_code answer.code (HasMore (posted_on answer.code) before after)
    (λ e.
    let posts = (h.success e).posts.posted in
    subst (λ (code : Hrc). HasMore (posted_on code) before after) (sym e)
    (record {
      unit = ap (λ (p : PortValue). p.unit) posts.rest;
      posts = λ v. posts_behind before after _ v posts.posted (ap (λ (p : PortValue). p.drop_counts) posts.rest) refl (some e);
      taken = λ v.
          ap (λ l. length (filter (λ (r : TakenRow). is_frame r.high) (flat_map (harvests_in v l) (sessions_from 1 (length after.drop_counts)))))
          (ap (λ (p : PortValue). p.harvests) posts.rest)
          ∙ ap (λ (l : List ℕ). length (filter (λ (r : TakenRow). is_frame r.high) (flat_map (harvests_in v before.harvests) (sessions_from 1 (length l)))))
          (ap (λ (p : PortValue). p.drop_counts) posts.rest)
          ∙ omega arith;
      grows = record {
        sessions = omega (arith, ap (λ (p : PortValue). length p.drop_counts) posts.rest);
        posted = (_, posts.posted);
        delivered = ([], ap (λ (p : PortValue). p.deliveries) posts.rest ∙ sym (append-nil before.deliveries));
        rows = λ v. (_, rows_behind before after _ v posts.posted (ap (λ (p : PortValue). p.drop_counts) posts.rest) refl (some e));
      };
    }))
    (λ not.
    subst (λ (more : PortCounts). HasMore more before after) (sym (no_post answer.code not))
    (none_more before after (still before after (h.refused not))))
  where
    some : answer.code ≡ Success → 1 ≤ length before.drop_counts
    some e = adds_begun descriptor is_shared Found window window' answer before after begun h e

-- the high half of a receive entry says whether a frame came
is_one : (x : ℕ) → x ≡ 1 → (x == 1) ≡ true
is_one x e = subst (λ (y : ℕ). (y == 1) ≡ true) (sym e) refl

is_none : (x : ℕ) → x ≡ 0 → (x == 1) ≡ false
is_none x e = subst (λ (y : ℕ). (y == 1) ≡ false) (sym e) refl

frame_high : (b : Bool) (len : ℕ) → len < 2 ^ 32 → is_frame ((if b then toggle_bit else 0) + (frame_bits + len)) ≡ true
frame_high true len short = is_one _ (omega (arith, short))
frame_high false len short = is_one _ (omega (arith, short))

blank_high : (b : Bool) → is_frame ((if b then toggle_bit else 0) + 0) ≡ false
blank_high true = refl
blank_high false = refl

-- an entry was read whose high half says so
reads_more : (before after : PortValue) (number : ℕ) (row : DeliverRow) (b : Bool) → 1 ≤ length before.drop_counts → Reads before after number row
    → is_frame (toggle before.slots number + told_of row) ≡ b → HasMore (counts 0 (one_if b)) before after
reads_more before after number row b some h e = record {
  unit = ap (λ (p : PortValue). p.unit) h.rest;
  posts = λ v.
      ap (λ l. length (flat_map (posts_in v l) (sessions_from 1 (length after.drop_counts)))) (ap (λ (p : PortValue). p.posts) h.rest)
      ∙ ap (λ (l : List ℕ). length (flat_map (posts_in v before.posts) (sessions_from 1 (length l)))) (ap (λ (p : PortValue). p.drop_counts) h.rest)
      ∙ omega arith;
  taken = λ v.
      frames_behind before after _ v h.read (ap (λ (p : PortValue). p.drop_counts) h.rest) refl some
      ∙ ap (λ t. (counts_in v (Some before)).taken + one_if t) e;
  grows = grows_with before after (ap (λ (p : PortValue). p.posts) h.rest) (ap (λ (p : PortValue). p.deliveries) h.rest)
      (ap (λ (p : PortValue). length p.drop_counts) h.rest);
}

told_frame : (row : DeliverRow) → row.blank ≡ false → told_of row ≡ frame_bits + held_len row.to.items
told_frame row e = rw e refl

told_blank : (row : DeliverRow) → row.blank ≡ true → told_of row ≡ 0
told_blank row e = rw e refl

pub harvests_more : (answer : Harvest) (before after : PortValue) → 1 ≤ length before.drop_counts → IfFrame answer (λ number len correlator. len < 2 ^ 32) → Harvests answer before after
    → HasMore (harvested_on answer) before after
harvests_more (harvests.Frame number len correlator) before after some short h =
    reads_more before after number h.frame.row true some h.frame.reads
    (ap (λ n. is_frame (toggle before.slots number + n)) (told_frame h.frame.row h.frame.filled)
    ∙ frame_high (number / before.slots % 2 == 0) (held_len h.frame.row.to.items) (subst (λ (n : ℕ). n < 2 ^ 32) h.frame.len_is short))
harvests_more (harvests.Blank number correlator) before after some short h =
    reads_more before after number h.blank.row false some h.blank.reads
    (ap (λ n. is_frame (toggle before.slots number + n)) (told_blank h.blank.row h.blank.blank)
    ∙ blank_high (number / before.slots % 2 == 0))
harvests_more (harvests.Nothing number high) before after some short h = none_more before after (still before after h.rest)
