use Rattle.std.proofs.Common.{arith, ◌≡◌, ◌+◌, ◌-◌, ℕ, List, map, slice_get, Some, refl, sym, ◌∙◌, ap, subst}
use Rattle.lan_buffers.specs.declared.rows.PostRow.{PostRow}
use Rattle.lan_buffers.specs.declared.rows.DeliverRow.{DeliverRow}
use Rattle.lan_buffers.specs.Port.{PortValue, now}
use Rattle.std.proofs.lemmas.Option.{slice_get-map}
use Rattle.std.specs.Option.{option_map}
use Rattle.vio_num.specs.declared.entry.Entry.{Entry}
use Rattle.lan_buffers.specs.Port.{receive_entries, receive_entry, entries_from}
use Rattle.lan_buffers.proofs.Lawful.{entry_at}
use Rattle.lan_buffers.proofs.Keeping.{entry_told}
use Rattle.lan_buffers.specs.Buffer.{toggle}
use Rattle.lan_buffers.proofs.port.PlainPort.lapped.Goals as goal

later : (n number : ℕ) (posts : List PostRow) (rows : List DeliverRow) (row : DeliverRow) (high : ℕ) → slice_get rows number ≡ Some row
    → high ≡ (receive_entry n number posts row).high → slice_get (map (λ (entry : Entry). entry.high) (entries_from n 0 posts rows)) number ≡ Some high
later n number posts rows row high made is =
    slice_get-map (λ (entry : Entry). entry.high) (entries_from n 0 posts rows) number
    ∙ ap (option_map (λ (entry : Entry). entry.high)) (entry_at n 0 posts rows number row made ∙ ap (λ k. Some (receive_entry n k posts row)) (omega arith))
    ∙ ap (λ h. Some h) (sym is)

pub returns : goal.returns
returns c =
    let told = c.in-Some.ensures.found in
    let slots : c.from-slots.result ≡ c.args.self.now.slots = c.from-slots.ensures ∙ ap (λ (v : PortValue). v.slots) c.self.view_is in
    let top = c.toggle_of.ensures ∙ ap (λ (v : PortValue). toggle v.slots (c.args.number - c.from-slots.result)) c.self.view_is in
    record {
      number_is = c.requires.number;
      all_read = c.requires.read;
      first_lap = λ lt. absurd (omega (arith, lt, slots, c.if-number-slots.false));
      later_lap = λ le. subst (λ n. slice_get (map (λ (entry : Entry). entry.high) (receive_entries c.args.self.now.slots (now c.args.self.now))) (c.args.number - n) ≡ Some (c.toggle_of.result + c.high.result)) slots
          (later c.args.self.now.slots _ _ _ told.row _ told.made
          (ap (λ (e : Entry). e.high) (entry_told c.args.self.now.slots _ _ (now c.args.self.now).posts told.row c.toggle_of.result c.high.result c.in-Some.told.len c.in-Some.told.correlator c.in-Some.told.blank refl top c.high.ensures told.blank_is told.len_is told.correlator_is)));
    }
