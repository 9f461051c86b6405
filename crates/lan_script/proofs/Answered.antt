-- What a port made of a frame, as its deliveries and drops say it.
use Rattle.std.proofs.Common.{◌≡◌, ◌+◌, ◌≤◌, ℕ, arith, Bool, true, false, List, [], ◌∷◌, ◌++◌, append-nil, length, map, if◌then◌else◌, refl, sym, ◌∙◌, ap}
use Rattle.std.specs.List.{flat_map}
use Rattle.vio_num.specs.declared.names.UnitId.{UnitId}
use Rattle.page_slots.specs.declared.stroke.StrokeName.{StrokeName}
use Rattle.tce_window.specs.declared.piece.Piece.{Piece}
use Rattle.lan_buffers.specs.Calls.{one_more}
use Rattle.lan_buffers.specs.Port.{PortValue}
use Rattle.lan_buffers.specs.declared.answers.Deliver.{Deliver}
use Rattle.lan_buffers.specs.declared.answers.Deliver.TheVariants as sent
use Rattle.lan_buffers.specs.declared.rows.DeliverRow.{DeliverRow as Delivery}
use Rattle.lan_switch.specs.Sending.{IsOfferedAt, Offering}
use Rattle.vio_trace.specs.declared.lan_rows.Offered.{Offered}
use Rattle.lan_switch.specs.Switch.{same_unit}
use Rattle.lan_script.specs.Delivered.{bytes_in, drops_of, offer_says, taken}
use Rattle.lan_script.specs.Frames.{offered_as, piece_row_of}
use Rattle.lan_script.specs.Invariant.{total}
use Rattle.lan_script.specs.Rows.{deliver_row_of, deliver_rows, deliveries_in, sessions_from}
use Rattle.lan_script.proofs.Tallies.{AddsTally, KeepsTally, one_more_long, one_more_total, one_row, one_taken, said, same_tally, taken_append, touched_bytes}

-- an offer that says nothing says nothing of a sender
pub said_none : (name : StrokeName) (len : ℕ) (offered : Offered) (sender : UnitId) → offer_says name.mark len offered ≡ []
    → said name len offered sender ≡ []
said_none name len offered sender e = by (same_unit name.who sender)
  where
    by : (b : Bool) → (if b then offer_says name.mark len offered else []) ≡ []
    by true = e
    by false = refl

-- an answer that left the port as it was
adds_none : (name : StrokeName) (len : ℕ) (offered : Offered) (old new : PortValue) → KeepsTally old new → offer_says name.mark len offered ≡ []
    → drops_of offered ≡ 0 → 1 ≤ length old.drop_counts → AddsTally name len offered old new
adds_none name len offered old new keeps says drops some = record {
  begun = λ is. keeps.begun (λ _. some) is;
  rows = λ unit sender.
      ap (λ l. taken sender l) (keeps.rows unit) ∙ sym (append-nil (taken sender (deliver_rows unit old)))
      ∙ ap (λ l. taken sender (deliver_rows unit old) ++ l) (sym (said_none name len offered sender says));
  drops = λ _. omega (arith, keeps.drops, drops);
}

-- a frame that was dropped without a buffer
adds_drop : (name : StrokeName) (len : ℕ) (offered : Offered) (old new : PortValue) → new ≡ record old { drop_counts = one_more old.drop_counts }
    → offer_says name.mark len offered ≡ [] → drops_of offered ≡ 1 → 1 ≤ length old.drop_counts → AddsTally name len offered old new
adds_drop name len offered old new e says drops some = record {
  begun = λ is. omega (arith, long, some);
  rows = λ unit sender.
      ap (λ l. taken sender l) (rows unit) ∙ sym (append-nil (taken sender (deliver_rows unit old)))
      ∙ ap (λ l. taken sender (deliver_rows unit old) ++ l) (sym (said_none name len offered sender says));
  drops = λ less. ap (λ (p : PortValue). total p.drop_counts) e ∙ one_more_total old.drop_counts some (omega (arith, less, drops))
      ∙ ap (λ n. total old.drop_counts + n) (sym drops);
}
  where
    long : length new.drop_counts ≡ length old.drop_counts
    long = ap (λ (p : PortValue). length p.drop_counts) e ∙ one_more_long old.drop_counts

    rows : (unit : UnitId) → deliver_rows unit new ≡ deliver_rows unit old
    rows unit =
        ap (λ (l : List Delivery). flat_map (deliveries_in unit l) (sessions_from 1 (length new.drop_counts))) (ap (λ (p : PortValue). p.deliveries) e)
        ∙ ap (λ n. flat_map (deliveries_in unit old.deliveries) (sessions_from 1 n)) long

-- a delivery behind the others
row_added : (old new : PortValue) (row : Delivery) → new.deliveries ≡ old.deliveries ++ row ∷ [] → row.session ≡ length old.drop_counts
    → length new.drop_counts ≡ length old.drop_counts → 1 ≤ length old.drop_counts → (unit sender : UnitId)
    → taken sender (deliver_rows unit new) ≡ taken sender (deliver_rows unit old) ++ taken sender (deliver_row_of unit row ∷ [])
row_added old new row rows session same some unit sender =
    ap (λ l. taken sender l) (one_row unit old new row rows session same some)
    ∙ taken_append sender (deliver_rows unit old) (deliver_row_of unit row ∷ [])

pub offered_tally : (o : Offering) (unit : UnitId) (old new : PortValue) (answer : Deliver) → IsOfferedAt o unit old new answer
    → (answer ≡ sent.NoMemory → ⊥) → 1 ≤ length old.drop_counts → AddsTally o.name (length o.frame) (offered_as answer) old new
offered_tally o unit old new (sent.Done post) h not some =
    let d = h.done in
    let same : length new.drop_counts ≡ length old.drop_counts = ap (λ (p : PortValue). length p.drop_counts) d.rest in
    let bytes : bytes_in (map piece_row_of d.row.to.items) ≡ length o.frame = omega (arith, touched_bytes _ _ _ d.row.to.items d.written.written.touched) in
    record {
      begun = λ is. omega (arith, same, some);
      rows = λ u sender.
          row_added old new d.row (ap (λ (p : PortValue). p.deliveries) d.rest) d.takes.session_is same some u sender
          ∙ ap (λ l. taken sender (deliver_rows u old) ++ l) (one_taken u sender d.row o.name false (length o.frame) d.takes.name_is d.filled bytes);
      drops = λ _. omega (arith, ap (λ (p : PortValue). total p.drop_counts) d.rest);
    }
offered_tally o unit old new (sent.Ungranted post fault) h not some =
    let b = h.ungranted.blank in
    let same : length new.drop_counts ≡ length old.drop_counts = ap (λ (p : PortValue). length p.drop_counts) b.rest ∙ one_more_long old.drop_counts in
    let bytes : bytes_in (map piece_row_of b.row.to.items) ≡ 0 = ap (λ (l : List Piece). bytes_in (map piece_row_of l)) b.empty in
    record {
      begun = λ is. omega (arith, same, some);
      rows = λ u sender.
          row_added old new b.row (ap (λ (p : PortValue). p.deliveries) b.rest) b.takes.session_is same some u sender
          ∙ ap (λ l. taken sender (deliver_rows u old) ++ l) (one_taken u sender b.row o.name true 0 b.takes.name_is b.blank bytes);
      drops = λ less. ap (λ (p : PortValue). total p.drop_counts) b.rest ∙ one_more_total old.drop_counts some less;
    }
offered_tally o unit old new sent.NoSize h not some = adds_drop o.name (length o.frame) (offered_as sent.NoSize) old new h.dropped refl refl some
offered_tally o unit old new sent.NoBuffer h not some = adds_drop o.name (length o.frame) (offered_as sent.NoBuffer) old new h.dropped refl refl some
offered_tally o unit old new (sent.Turn word) h not some =
    adds_none o.name (length o.frame) (offered_as (sent.Turn word)) old new (same_tally old new h.nothing) refl refl some
offered_tally o unit old new (sent.InUse page word) h not some =
    adds_none o.name (length o.frame) (offered_as (sent.InUse page word)) old new (same_tally old new h.nothing) refl refl some
offered_tally o unit old new (sent.Closed control) h not some =
    adds_none o.name (length o.frame) (offered_as (sent.Closed control)) old new (same_tally old new h.nothing) refl refl some
offered_tally o unit old new sent.NoMemory h not some = absurd (not refl)
