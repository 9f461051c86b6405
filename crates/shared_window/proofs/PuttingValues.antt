-- Values that the owner puts one after another into entries without pins.
use Rattle.std.proofs.Common.{◌≡◌, ℕ, ◌+◌, ◌/◌, ◌<◌, ◌≤◌, ◌==◌, not, List, ◌++◌, filter, length, take, get_or, refl, sym, ap, ◌∙◌, subst, arith}
use Rattle.std.specs.Borrow.{GName}
use Rattle.std.proofs.lemmas.List.{length-map, length-take-le}
use Rattle.std.proofs.lemmas.List.Filters.{length-filter_both}
use Rattle.tce_window.specs.declared.answers.TceRow.{TceRow}
use Rattle.tce_window.specs.declared.answers.TceAnswer.{TceAnswer}
use Rattle.tce_window.specs.Grant.{values_of}
use Rattle.tce_window.specs.PortState.{Puts}
use Rattle.tce_window.specs.Puts.{put_into, put_by}
use Rattle.tce_window.specs.Table.{TableValue}
use Rattle.tce_window.proofs.Laws.{values_of-other, rows_next, values_told}
use Rattle.entry_slots.specs.Entries.{EntriesValue, EntrySeatValue, IsPinned}
use Rattle.shared_window.specs.Opening.{OwnerValue, IsOwnerAt}
use Rattle.shared_window.specs.Putting.{IsTableOf, PutsUpTo, PutsValue, PutsList}
use Rattle.shared_window.specs.SharedWindow.{SharedWindowValue, port_of}

-- an entry has at most one value more than were put
pub few_values : (rows : List TceRow) (e : ℕ) → length (values_of rows e) ≤ length rows + 1
unfolding values_of
few_values rows e =
    let both = length-filter_both (λ (row : TceRow). row.entry == e) (λ row. not (row.entry == e)) (λ row. refl) rows in
    let same = length-map (filter (λ (row : TceRow). row.entry == e) rows) (λ row. row.value) in
    omega (arith, both, same)

-- the table has all values still
pub table_stays : (entries : EntriesValue) (old new : EntrySeatValue) (before after : TableValue) (entry value : ℕ) → IsTableOf entries old before → PutsValue old before entry value new after → IsTableOf entries new after
table_stays entries old new before after entry value t p = record {
  ours = ap (λ s. s.entries) p.rest ∙ t.ours;
  owns = ap (λ s. s.owns) p.rest ∙ t.owns;
  size = p.size ∙ t.size;
  rows = sym (ap (λ s. s.rows) p.rest);
}

module _ (old seat new : EntrySeatValue) (before table : TableValue) (first at : ℕ) (list : List ℕ) (less : at < length list) (up : PutsUpTo old before first (take at list) seat table) where
  -- one value more
  pub one_more : (after : TableValue) → PutsValue seat table (first + at) (get_or list at 0) new after → PutsUpTo old before first (take (at + 1) list) new after
  one_more after p =
      let row : TceRow = record { entry = first + at; version = length (values_of table.rows (first + at)); value = get_or list at 0 } in
      let size : length (take at list) ≡ at = length-take-le at list (omega (arith, less)) in
      let size' : length (take (at + 1) list) ≡ at + 1 = length-take-le (at + 1) list (omega (arith, less)) in
      let was = up.spare in let now = p.spare in let a = up.read in let b = p.read in
      record {
        rows = p.rows ∙ rows_next before.rows table.rows first at list less up.rows;
        held = λ e h.
            let mine : IsPinned seat e = subst (λ s. IsPinned s e) (sym up.rest) h in
            ap (λ rs. values_of rs e) p.rows ∙ (values_of-other table.rows row e (λ is. p.free (subst (IsPinned seat) (sym is) mine)) ∙ up.held e h);
        spare = omega (arith, was, now, size, size');
        size = p.size ∙ up.size;
        read = omega (arith, a, b);
        rest = p.rest ∙ ap (λ (s : EntrySeatValue). record s { rows = after.rows; last = new.last }) up.rest;
      }

-- what the owner put, as a port through any borrows
pub puts_port : (w : SharedWindowValue) (old new : OwnerValue) (ioba : ℕ) (list : List ℕ) (ls : List GName) (answer : TceAnswer) → IsOwnerAt w old → IsOwnerAt w new → PutsList w old ioba list answer new
    → Puts (port_of ls w old.seat) ioba (put_by answer list) (port_of ls w new.seat)
puts_port w old new ioba list ls answer was is p = record {
  values = λ e. ap (λ rows. values_of rows e) (sym is.rows)
      ∙ (values_told new.rows old.rows (ioba / 4096) (put_by answer list) e p.rows ∙ ap (λ rows. values_of rows e ++ put_into (ioba / 4096) (put_by answer list) e) was.rows);
  held = λ e h. ap (λ rows. values_of rows e) (sym is.rows) ∙ (p.held e h ∙ ap (λ rows. values_of rows e) was.rows);
}
