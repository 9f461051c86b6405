-- The rows that the ends keep: the number of the next entry, the drop law, and the queue law where the ring
-- ends.
use Rattle.std.proofs.Common.{◌≡◌, ℕ, ◌+◌, ◌-◌, ◌<◌, ◌≤◌, List, length, take, drop, Some, option_map, sym, ◌∙◌, ap, subst, arith, length-drop, All, AllPairs}
use Rattle.std.proofs.Math.Seq.{take-append_seam}
use Rattle.std.proofs.lemmas.List.{length-append, length-map}
use Rattle.std.proofs.lemmas.Option.{slice_get-get_or, slice_get-map}
use Rattle.vio_num.specs.declared.entry.Entry.{Entry}
use Rattle.vio_num.specs.Queue.{Handed, LawfulDrop}
use Rattle.crq_ring.specs.declared.rows.PipeRow.{PipeRow}
use Rattle.crq_ring.specs.declared.rows.DropRow.{DropRow}
use Rattle.crq_ring.specs.declared.view.RingView.{RingView}
use Rattle.crq_ring.specs.declared.view.Role.{Role}
use Rattle.vio_num.specs.Words.{Begins}
use Rattle.crq_ring.specs.EndsKept.{RingSeat, IsEnd}
use Rattle.crq_ring.specs.Kept.{HandsOver, KeepsDrops}
use Rattle.crq_ring.specs.RingSteps.{own_now}
use Rattle.crq_ring.specs.Sessions.{of_session, recorded, NotAfter, Precedes}
use Rattle.crq_ring.specs.Window.{entry_of, entry_at}
use Rattle.crq_ring.proofs.Dropping.{none_after, Drops-record, all_weaken}
use Rattle.crq_ring.proofs.RingSeats.{LastSays}

module _ (role : Role) (seat : RingSeat) (next session from : ℕ) (rows : List PipeRow) (end : IsEnd role seat next session from rows) where
  -- the rows of the session are the seat's
  pub now_is : of_session session rows ≡ own_now seat.me
  now_is = λ i. of_session (end.session_is i) (end.rows_are i)

  -- the number of the next entry
  pub number_now : (k : ℕ) → k ≡ length rows - from → k ≡ length (own_now seat.me)
  number_now k is = is ∙ (sym (length-drop from rows) ∙ (sym (length-map (drop from rows) (λ row. row.entry)) ∙ (ap length (sym end.present.entries) ∙ ap length now_is)))

-- the entry of one lap before lies in a full slot
pub lapped : (own : List Entry) (n t k held : ℕ) → 0 < n → k ≡ length own → length own ≡ t + n → held ≡ (entry_at own (length own - n)).high → LawfulDrop own n k held
lapped own n t k held some last full there = let inside : k - n < length own = omega arith in record {
  lapped = omega arith;
  reached = omega arith;
  held_there =
      slice_get-map (λ e. e.high) own (k - n)
      ∙ (ap (option_map (λ e. e.high)) (slice_get-get_or own (k - n) (entry_of 0 0) inside)
      ∙ ap Some (ap (λ z. (entry_at own (z - n)).high) last ∙ sym there));
}

-- the queue law of two lists, as it is told, and as a pipe keeps it
pub Handed-lists : (xs ys : List Entry) (n : ℕ) → Begins ys xs → length xs ≤ length ys + n → Handed xs ys n
Handed-lists xs ys n b room = let e : length xs ≡ length ys + length b.0 = ap length b.1 ∙ length-append ys b.0 in record { rest = b.0; in_order = b.1; within = omega arith }

in_front : (xs ys : List Entry) → Begins ys xs → ys ≡ take (length ys) xs
in_front xs ys b = sym (ap (take (length ys)) b.1 ∙ take-append_seam ys b.0)

pub hands_over : (n : ℕ) (v w : RingView) → LastSays n v w → HandsOver v.own w.own n
hands_over n v w last = record { in_order = λ q. in_front (of_session q v.own) (of_session q w.own) (last.handed q); within = last.room }

pub handed_at : (n : ℕ) (v w : RingView) → LastSays n v w → (q : ℕ) → Handed (of_session q v.own) (of_session q w.own) n
handed_at n v w last q = Handed-lists (of_session q v.own) (of_session q w.own) n (last.handed q) (last.room q)

-- the drop law in a later session
pub drops_later : (rows : List PipeRow) (drops : List DropRow) (session q n : ℕ) → session ≤ q → KeepsDrops rows drops session n → KeepsDrops rows drops q n
drops_later rows drops session q n later h = record {
  lawful = h.lawful;
  none_later = all_weaken (λ d. d.session ≤ session) (λ d. d.session ≤ q) (λ d l. omega (arith, l, later)) drops h.none_later;
}

module _ (rows : List PipeRow) (own : List Entry) (drops : List DropRow) (session n number held : ℕ) (are : of_session session rows ≡ own) (last : number ≡ length own) (kept : KeepsDrops rows drops session n) where
  abbrev pub row : DropRow
  row = record { session = session; number = number; held = held }

  -- no record comes after the next number
  pub none_behind : All (λ d. NotAfter d row) drops
  none_behind = none_after rows drops n row (last ∙ ap length (sym are)) kept

  -- the drop law after a drop
  pub drops_recorded : LawfulDrop own n number held → AllPairs Precedes (recorded drops row) → KeepsDrops rows (recorded drops row) session n
  drops_recorded lawful ordered = Drops-record rows drops n row (subst (λ l. LawfulDrop l n number held) (sym are) lawful) ordered kept
