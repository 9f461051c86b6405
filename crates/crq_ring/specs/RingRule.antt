-- The ring's rule: what its words and what its seats know have to meet, at every moment.
use Rattle.std.specs.Prelude.{◌≡◌, ℕ, ◌+◌, ◌*◌, ◌<◌, ◌≤◌, Bool, true, false, List, [], length, slice_index}
use mathlib.Core.Option.{some}
use lib.ListN.{get_elem?}
use Rattle.atomic_table.specs.Table.{State}
use Rattle.crq_ring.specs.declared.rows.PipeRow.{PipeRow}
use Rattle.crq_ring.specs.declared.view.RingKey.{RingKey}
use Rattle.crq_ring.specs.declared.view.RingView.{RingView}
use Rattle.crq_ring.specs.declared.view.Role.{Role}
use Rattle.crq_ring.specs.declared.view.Role.TheVariants.{Both, Sender, Receiver, Front, Room, Spent}
use Rattle.crq_ring.specs.Control.{control_word, IsEnded}
use Rattle.vio_num.specs.Words.{Begins}
use Rattle.crq_ring.specs.Sessions.{of_session}
use Rattle.crq_ring.specs.Window.{words_of, control_at, low_at, Window}

-- the session that a ring begins in
abbrev pub first_session : Bool → ℕ
first_session true = 1
first_session false = 0

-- the first seat of a ring, which begins in session 1 with its sender inside, or closed
abbrev pub opened : RingKey → RingView
opened key = record {
  role = Both;
  slots = key.slots;
  inside = key.begun;
  is_open = key.begun;
  session = first_session key.begun;
  shown = first_session key.begun;
  own = [];
  other = [];
  told_own = [];
  told_other = [];
  low = 0;
  swept = key.slots;
  reads = 0;
  word = 0;
}

-- What is so of a ring at one moment.
pub record Moment : Type 0 where
  -- the last session, whether it is open, and whether its sender is inside
  pub session : ℕ
  pub is_open : Bool
  pub inside : Bool
  -- what was put and taken, over all sessions
  pub sent : List PipeRow
  pub taken : List PipeRow
  -- how many slots were zeroed since it was closed
  pub swept : ℕ
  -- the seats of the two ends
  pub putter : ℕ
  pub getter : ℕ

-- The words of a ring of n slots at a moment: the control word shows the session; while it is open its
-- entries lie in their slots and all other slots are empty; while it is closed slots are zeroed. No sender
-- is inside a closed queue, and no row is of a session to come.
pub record Shows (n : ℕ) (words : List ℕ) (now : Moment) : Type 0 where
  pub some_slots : 0 < n
  pub wide : length words ≡ words_of n
  pub control : slice_index words (control_at n) ≡ control_word now.session now.is_open now.inside
  pub within : now.inside ≡ true → now.is_open ≡ true
  pub handed : (q : ℕ) → Begins (of_session q now.taken) (of_session q now.sent)
  pub room : (q : ℕ) → length (of_session q now.sent) ≤ length (of_session q now.taken) + n
  pub none_sent : (q : ℕ) → now.session < q → of_session q now.sent ≡ []
  pub none_taken : (q : ℕ) → now.session < q → of_session q now.taken ≡ []
  pub slots : now.is_open ≡ true → Window n words (of_session now.session now.sent) (of_session now.session now.taken)
  pub zeros : now.is_open ≡ false → (k : ℕ) → k < now.swept → k < n → slice_index words (2 * k) ≡ 0

module _ (n : ℕ) (now : Moment) (words : List ℕ) where
  -- What the sender's seat j knows: its own list, some of what was taken, whether it is inside, and then
  -- its session and what lies in the low half of its next slot.
  pub record SenderKnows (j : ℕ) (v : RingView) : Type 0 where
    pub seat : j ≡ now.putter
    pub own : v.own ≡ now.sent
    pub other : Begins v.other now.taken
    pub told_own : Begins v.told_own now.sent
    pub told_other : Begins v.told_other now.taken
    pub inside : v.inside ≡ now.inside
    pub session : v.session ≤ now.session
    pub shown : v.shown ≤ now.session
    pub present : now.inside ≡ true → v.session ≡ now.session
    pub low : now.inside ≡ true → slice_index words (low_at n (length (of_session now.session now.sent))) ≡ v.low

  -- What the receiver's seat j knows: its own list, the session and whether it is open, and some of what was
  -- put, but of each session that has ended all.
  pub record ReceiverKnows (j : ℕ) (v : RingView) : Type 0 where
    pub seat : j ≡ now.getter
    pub own : v.own ≡ now.taken
    pub other : Begins v.other now.sent
    pub told_own : Begins v.told_own now.taken
    pub told_other : Begins v.told_other now.sent
    pub is_open : v.is_open ≡ now.is_open
    pub session : v.session ≡ now.session
    pub swept : v.swept ≡ now.swept
    pub ended : (q : ℕ) → IsEnded v.session v.is_open q → of_session q v.other ≡ of_session q now.sent

  -- What one seat knows that is both ends. Of each session that has ended the list `told_other` has all.
  pub record BothKnow (j : ℕ) (v : RingView) : Type 0 where
    pub putter_is : j ≡ now.putter
    pub getter_is : j ≡ now.getter
    pub own : v.own ≡ now.sent
    pub other : v.other ≡ now.taken
    pub inside : v.inside ≡ now.inside
    pub is_open : v.is_open ≡ now.is_open
    pub session : v.session ≡ now.session
    pub shown : v.shown ≤ now.session
    pub swept : v.swept ≡ now.swept
    pub low : now.inside ≡ true → slice_index words (low_at n (length (of_session now.session now.sent))) ≡ v.low
    pub ended : (q : ℕ) → IsEnded v.session v.is_open q → of_session q v.told_other ≡ of_session q now.sent

  abbrev pub KnowsAs : ℕ → Role → RingView → Type 0
  KnowsAs j Both v = BothKnow j v
  KnowsAs j Sender v = SenderKnows j v
  KnowsAs j Receiver v = ReceiverKnows j v
  KnowsAs j Front v = Begins v.own now.sent × Begins v.other now.taken
  KnowsAs j Room v = Begins v.own now.taken × Begins v.other now.sent
  KnowsAs j Spent v = Unit {0}

  abbrev pub Knows : ℕ → RingView → Type 0
  Knows j v = KnowsAs j v.role v

-- The words show some moment. No two seats are one end, and what a seat knows is so.
pub record InOrder (n : ℕ) (s : State (Unit {0}) RingView) : Type 0 where
  pub now : Moment
  pub words_show : Shows n s.words now
  pub each_seat : (j : ℕ) (v : RingView) → get_elem? s.views j ≡ some v → Knows n now s.words j v

abbrev pub holds : RingKey → State (Unit {0}) RingView → Type 0
holds key = InOrder key.slots
