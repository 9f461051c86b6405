-- A step of one end keeps the rule: what it leaves of the words, and what the other seats know.
use Rattle.std.proofs.Common.{◌≡◌, ℕ, ◌≤◌, ◌≢◌, Bool, true, List, length, get_or, set, sym, ap, ◌∙◌, subst, ⊎_elim, le_trans}
use mathlib.Core.Option.{some}
use lib.ListN.{get_elem?}
use lib.Seq.{set-get_or}
use Rattle.atomic_table.specs.Table.{State, keeps, stepped}
use Rattle.atomic_table.proofs.Lists.{at_set}
use Rattle.crq_ring.specs.declared.rows.PipeRow.{PipeRow}
use Rattle.crq_ring.specs.declared.view.RingView.{RingView}
use Rattle.crq_ring.specs.declared.view.Role.{Role}
use Rattle.crq_ring.specs.declared.view.Role.TheVariants.{Both, Sender, Receiver, Front, Room, Spent}
use Rattle.crq_ring.specs.Control.{IsEnded}
use Rattle.vio_num.specs.Words.{Begins}
use Rattle.crq_ring.specs.RingRule.{Moment, Shows, KnowsAs, Knows, InOrder}
use Rattle.crq_ring.specs.Sessions.{of_session}
use Rattle.crq_ring.specs.Window.{low_at}
use Rattle.crq_ring.proofs.Fronts.{begins_on}
use Rattle.crq_ring.proofs.Moments.{put_in}

abbrev pub Table : Type 0
Table = State (Unit {0}) RingView

-- one seat's view changes
pub seats_stay : (K : ℕ → RingView → Type 0) (vs : List RingView) (me : ℕ) (w : RingView) → K me w → ((j : ℕ) (d : RingView) → j ≢ me → get_elem? vs j ≡ some d → K j d)
    → (j : ℕ) (d : RingView) → get_elem? (set vs me w) j ≡ some d → K j d
seats_stay K vs me w own others j d e = ⊎_elim (λ (t : (j ≡ me) × (w ≡ d)). subst (λ (x : ℕ × RingView). K x.0 x.1) (λ i. (sym t.0 i, t.1 i)) own)
    (λ (t : (j ≢ me) × (get_elem? vs j ≡ some d)). others j d t.0 t.1) (at_set vs me j w d e)

-- What a step of the sender changes: it may put an entry into the open session, and go in and out.
pub record BySender (a b : Moment) : Type 0 where
  pub session : b.session ≡ a.session
  pub is_open : b.is_open ≡ a.is_open
  pub taken : b.taken ≡ a.taken
  pub swept : b.swept ≡ a.swept
  pub putter : b.putter ≡ a.putter
  pub getter : b.getter ≡ a.getter
  pub sent : Begins a.sent b.sent
  pub ended : (q : ℕ) → IsEnded a.session a.is_open q → of_session q b.sent ≡ of_session q a.sent

-- What a step of the receiver changes: it may take an entry, and begin and end a session. While a sender is
-- inside, the session stays, and so does the low half of the sender's next slot.
pub record ByReceiver (n : ℕ) (ws ws' : List ℕ) (a b : Moment) : Type 0 where
  pub sent : b.sent ≡ a.sent
  pub inside : b.inside ≡ a.inside
  pub putter : b.putter ≡ a.putter
  pub getter : b.getter ≡ a.getter
  pub taken : Begins a.taken b.taken
  pub session : a.session ≤ b.session
  pub present : a.inside ≡ true → b.session ≡ a.session
  pub low : a.inside ≡ true → get_or ws' (low_at n (length (put_in a))) 0 ≡ get_or ws (low_at n (length (put_in a))) 0

module _ (n : ℕ) (a b : Moment) (ws ws' : List ℕ) (j : ℕ) (v : RingView) where
  -- what a seat that is not the sender's knows after a step of the sender
  pub after_sender : BySender a b → j ≢ a.putter → (r : Role) → KnowsAs n a ws j r v → KnowsAs n b ws' j r v
  after_sender by not Both k = absurd (not k.putter_is)
  after_sender by not Sender k = absurd (not k.seat)
  after_sender by not Receiver k = record {
    seat = k.seat ∙ sym by.getter;
    own = k.own ∙ sym by.taken;
    other = begins_on v.other a.sent b.sent k.other by.sent;
    told_own = subst (λ l. Begins v.told_own l) (sym by.taken) k.told_own;
    told_other = begins_on v.told_other a.sent b.sent k.told_other by.sent;
    is_open = k.is_open ∙ sym by.is_open;
    session = k.session ∙ sym by.session;
    swept = k.swept ∙ sym by.swept;
    ended = λ q e. k.ended q e ∙ sym (by.ended q (subst (λ (z : ℕ × Bool). IsEnded z.0 z.1 q) (λ i. (k.session i, k.is_open i)) e));
  }
  after_sender by not Front k = (begins_on v.own a.sent b.sent k.0 by.sent, subst (λ l. Begins v.other l) (sym by.taken) k.1)
  after_sender by not Room k = (subst (λ l. Begins v.own l) (sym by.taken) k.0, begins_on v.other a.sent b.sent k.1 by.sent)
  after_sender by not Spent k = tt

  -- what a seat that is not the receiver's knows after a step of the receiver
  pub after_receiver : ByReceiver n ws ws' a b → j ≢ a.getter → (r : Role) → KnowsAs n a ws j r v → KnowsAs n b ws' j r v
  after_receiver by not Both k = absurd (not k.getter_is)
  after_receiver by not Receiver k = absurd (not k.seat)
  after_receiver by not Sender k = record {
    seat = k.seat ∙ sym by.putter;
    own = k.own ∙ sym by.sent;
    other = begins_on v.other a.taken b.taken k.other by.taken;
    told_own = subst (λ l. Begins v.told_own l) (sym by.sent) k.told_own;
    told_other = begins_on v.told_other a.taken b.taken k.told_other by.taken;
    inside = k.inside ∙ sym by.inside;
    session = le_trans k.session by.session;
    shown = le_trans k.shown by.session;
    present = λ on. let was = sym by.inside ∙ on in k.present was ∙ sym (by.present was);
    low = λ on. let was = sym by.inside ∙ on in
        ap (λ (z : ℕ × List PipeRow). get_or ws' (low_at n (length (of_session z.0 z.1))) 0) (λ i. (by.present was i, by.sent i)) ∙ (by.low was ∙ k.low was);
  }
  after_receiver by not Front k = (subst (λ l. Begins v.own l) (sym by.sent) k.0, begins_on v.other a.taken b.taken k.1 by.taken)
  after_receiver by not Room k = (begins_on v.own a.taken b.taken k.0 by.taken, subst (λ l. Begins v.other l) (sym by.sent) k.1)
  after_receiver by not Spent k = tt

module _ (n : ℕ) (s : Table) (r : InOrder n s) where
  -- a step that changes no word: one seat learns
  pub unmoved : (i id : ℕ) (cs : List (ℕ × Unit {0})) (w : RingView) → Knows n r.now s.words id w → InOrder n (stepped s i (get_or s.words i 0) id cs w keeps)
  unmoved i id cs w own = subst (λ (ws : List ℕ). InOrder n record { words = ws; homes = s.homes; views = set s.views id w }) (sym (set-get_or s.words i 0)) record {
    now = r.now;
    words_show = r.words_show;
    each_seat = seats_stay (Knows n r.now s.words) s.views id w own (λ j d _. r.each_seat j d);
  }

  -- a step of the sender, from one moment to the next
  pub sender_moves : (b : Moment) (i z id : ℕ) (cs : List (ℕ × Unit {0})) (w : RingView) → id ≡ r.now.putter → BySender r.now b → Shows n (set s.words i z) b
      → Knows n b (set s.words i z) id w → InOrder n (stepped s i z id cs w keeps)
  sender_moves b i z id cs w mine by shown own = record {
    now = b;
    words_show = shown;
    each_seat = seats_stay (Knows n b (set s.words i z)) s.views id w own
        (λ j d other at. after_sender n r.now b s.words (set s.words i z) j d by (λ e. other (e ∙ sym mine)) d.role (r.each_seat j d at));
  }

  -- a step of the receiver
  pub receiver_moves : (b : Moment) (i z id : ℕ) (cs : List (ℕ × Unit {0})) (w : RingView) → id ≡ r.now.getter → ByReceiver n s.words (set s.words i z) r.now b → Shows n (set s.words i z) b
      → Knows n b (set s.words i z) id w → InOrder n (stepped s i z id cs w keeps)
  receiver_moves b i z id cs w mine by shown own = record {
    now = b;
    words_show = shown;
    each_seat = seats_stay (Knows n b (set s.words i z)) s.views id w own
        (λ j d other at. after_receiver n r.now b s.words (set s.words i z) j d by (λ e. other (e ∙ sym mine)) d.role (r.each_seat j d at));
  }
