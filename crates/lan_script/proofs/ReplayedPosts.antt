-- What a post says in its port's replay.
use Rattle.std.proofs.Common.{◌≡◌, ◌==◌, ℕ, suc, arith, Bool, true, false, List, [], ◌∷◌, ◌++◌, Some, IfOk, Result, Ok, Err, filter, length, map, refl, ◌∙◌, ap, subst}
use Rattle.std.proofs.lemmas.Bool.{eq-eqb}
use Rattle.std.proofs.lemmas.List.{map-append}
use Rattle.std.proofs.lemmas.List.Elements.{filter-append}
use Rattle.vio_num.specs.declared.hypervisor.Hrc.{Hrc}
use Rattle.vio_num.specs.declared.hypervisor.Hrc.TheVariants.{Success, Busy, Parameter}
use Rattle.vio_num.specs.declared.memory.NoMemory.{NoMemory}
use Rattle.vio_num.specs.declared.names.UnitId.{UnitId}
use Rattle.tce_window.specs.declared.answers.HoldFault.{HoldFault}
use Rattle.tce_window.specs.declared.answers.HoldFault.TheVariants.{Past, NotGranted, InUse}
use Rattle.tce_window.specs.PortState.{PortState}
use Rattle.tce_window.specs.Pieces.{IsSharedUse}
use Rattle.lan_buffers.specs.declared.rows.PostRow.{PostRow as Post}
use Rattle.lan_buffers.specs.Buffer.{IsBuffer, buffer_len, is_valid}
use Rattle.lan_buffers.specs.Calls.{Posts, post_row}
use Rattle.lan_buffers.specs.Pools.{post_len}
use Rattle.lan_buffers.specs.Port.{PortValue, last_session}
use Rattle.lan_switch.specs.declared.answers.LanAnswer.{LanAnswer}
use Rattle.lan_switch.specs.Calls.{Adds, IsUnread, SaysUnread}
use Rattle.lan_script.specs.PortReplay.{IsBufferLen, IsOn, PortReplay}
use Rattle.lan_script.specs.Replayed.{AddSays, HasPosted, ReplaysOn, SameReplays, replay_at, replay_of}
use Rattle.lan_script.specs.Units.{LanValue}
use Rattle.lan_script.proofs.Called.{by_code}
use Rattle.lan_script.proofs.Replaying.{Moves, replay_with, replays_behind, stays_equal}

-- the lengths of a session with one more
lengths_more : (posts : List Post) (row : Post) (session : ℕ) → row.session ≡ session
    → map post_len (filter (λ (r : Post). r.session == session) (posts ++ row ∷ []))
    ≡ map post_len (filter (λ (r : Post). r.session == session) posts) ++ post_len row ∷ []
lengths_more posts row session own =
    ap (λ l. map post_len l) (filter-append (λ (r : Post). r.session == session) posts (row ∷ []))
    ∙ map-append post_len (filter (λ (r : Post). r.session == session) posts) (filter (λ (r : Post). r.session == session) (row ∷ []))
    ∙ ap (λ l. map post_len (filter (λ (r : Post). r.session == session) posts) ++ map post_len l) (one (row.session == session) refl)
  where
    one : (b : Bool) → (row.session == session) ≡ b → filter (λ (r : Post). r.session == session) (row ∷ []) ≡ row ∷ []
    one true e = rw e refl
    one false e = absurd (cc (e, eq-eqb row.session session own))

posted_replay : (before after : PortValue) (descriptor correlator number : ℕ) (n : List (List ℕ)) → Posts before descriptor correlator after number
    → HasPosted (buffer_len descriptor) 1 (replay_of (Some before) n) (replay_of (Some after) n)
posted_replay before after descriptor correlator number n h =
    ap (λ s. replay_with s after.posts (length after.drop_counts) n) (ap (λ (p : PortValue). p.settings) h.rest)
    ∙ ap (λ l. replay_with before.settings l (length after.drop_counts) n) h.posted
    ∙ ap (λ k. replay_with before.settings (before.posts ++ post_row (last_session before) descriptor correlator ∷ []) k n)
    (ap (λ (p : PortValue). length p.drop_counts) h.rest)
    ∙ ap (λ l. record { settings = before.settings; lengths = l; sessions = length before.drop_counts; frames = n })
    (lengths_more before.posts (post_row (last_session before) descriptor correlator) (length before.drop_counts) refl)

-- a correlator that could not be read is not busy where nobody else has a hand in the window
unread_ends : (descriptor : ℕ) (Found : ℕ → ℕ → Type 0) (window window' : PortState) (answer : LanAnswer)
    → IsUnread false Found window window' descriptor answer → answer.code ≡ Busy → ⊥
unread_ends descriptor Found window window' answer h e = by h.fault h.says h.cause.shared
  where
    by : (fault : HoldFault) → SaysUnread fault answer → IsSharedUse false fault → ⊥
    by (InUse page word) says shared = cc (shared)
    by (Past entry) says shared = cc (e, says.0)
    by (NotGranted entry version tce) says shared = cc (e, says.0)

pub adds_replay : (descriptor : ℕ) (Found : ℕ → ℕ → Type 0) (window window' : PortState) (answer : LanAnswer) (before after : PortValue)
    → Adds descriptor false Found window window' answer before after
    → Moves (AddSays (buffer_len descriptor) (IsBuffer descriptor) answer.code) before after
adds_replay descriptor Found window window' answer before after h = by_code answer.code Goal posts refuses
  where
    Goal : Type 0
    Goal = Moves (AddSays (buffer_len descriptor) (IsBuffer descriptor) answer.code) before after

    may : (n : List (List ℕ)) → ((IsOn (replay_of (Some before) n) × IsBuffer descriptor) → ⊥) → answer.code ≡ Parameter
    may n not = (h.parameter (λ m. not (m.opened, m.buffer))).0

    ends : answer.code ≡ Busy → ⊥
    ends e = unread_ends descriptor Found window window' answer (h.busy e) e

    posts : answer.code ≡ Success → Goal
    posts e = record {
      unit = ap (λ (p : PortValue). p.unit) (h.success e).posts.posted.rest;
      says = λ n. record {
        posted = λ _. posted_replay before after descriptor (h.success e).correlator (h.success e).posts.number n (h.success e).posts.posted;
        refused = λ not. absurd (not e);
        parameter = may n;
        ends = ends;
      };
    }

    refuses : (answer.code ≡ Success → ⊥) → Goal
    refuses not =
        let same = stays_equal before after (h.refused not) in
        record { unit = same.unit; says = λ n. record { posted = λ e. absurd (not e); refused = λ _. same.says n; parameter = may n; ends = ends } }

-- a descriptor of a buffer's length is one
pub add_of_len : (unit : UnitId) (descriptor len : ℕ) (code : Hrc) (old new : LanValue) → is_valid descriptor ≡ true → buffer_len descriptor ≡ len
    → ReplaysOn unit (AddSays (buffer_len descriptor) (IsBuffer descriptor) code) old new → ReplaysOn unit (AddSays len (IsBufferLen len) code) old new
add_of_len unit descriptor len code old new valid is h = record {
  says = record {
    posted = λ e. subst (λ (n : ℕ). HasPosted n 1 (replay_at old unit) (replay_at new unit)) is (h.says.posted e);
    refused = h.says.refused;
    parameter = λ not. h.says.parameter (λ both. not (both.0, (omega (arith, is, both.1.long_enough), omega (arith, is, both.1.short_enough))));
    ends = h.says.ends;
  };
  beside = h.beside;
}

-- one buffer more
pub posts_more : (unit : UnitId) (len count : ℕ) (IsOne : Type 0) (code : Hrc) (old mid new : LanValue) → code ≡ Success → ReplaysOn unit (HasPosted len count) old mid
    → ReplaysOn unit (AddSays len IsOne code) mid new → ReplaysOn unit (HasPosted len (suc count)) old new
posts_more unit len count IsOne code old mid new e h k = record {
  says = k.says.posted e ∙ ap (λ (a : PortReplay). record a { lengths = a.lengths ++ len ∷ [] }) h.says;
  beside = λ other f. k.beside other f ∙ h.beside other f;
}

-- the last call of a buffer that was written
pub add_tail : (unit : UnitId) (descriptor len : ℕ) (r : Result Hrc NoMemory) (old mid new : LanValue) → is_valid descriptor ≡ true → buffer_len descriptor ≡ len
    → SameReplays old mid → IfOk r (λ code. ReplaysOn unit (AddSays (buffer_len descriptor) (IsBuffer descriptor) code) mid new)
    → IfOk r (λ code. ReplaysOn unit (AddSays len (IsBufferLen len) code) old new)
add_tail unit descriptor len (Ok code) old mid new valid is same h =
    replays_behind unit (AddSays len (IsBufferLen len) code) old mid new same (add_of_len unit descriptor len code mid new valid is h)
add_tail unit descriptor len (Err memory) old mid new valid is same h = tt
