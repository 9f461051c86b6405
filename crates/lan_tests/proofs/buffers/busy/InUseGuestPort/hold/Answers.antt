use Rattle.std.proofs.Common.{rules, true, refl, ◌≡◌, ℕ, ◌+◌, ◌/◌, ◌<◌, ◌≤◌, All, List, [], ◌∷◌, length, get_or, arith, sym, subst, ◌∙◌}
use Rattle.vio_num.specs.declared.names.UnitId.{UnitId}
use Rattle.tce_window.specs.declared.piece.Piece.{Piece}
use Rattle.tce_window.specs.declared.answers.HoldFault.{HoldFault}
use Rattle.tce_window.specs.declared.answers.HoldFault.TheVariants.{Past, NotGranted, InUse}
use Rattle.tce_window.specs.declared.answers.Right.{Right}
use Rattle.tce_window.specs.Held.{held_len}
use Rattle.tce_window.specs.Pieces.{end_entry, AreUsable, IsGranted, IsLast, IsOfRange, IsSharedUse, Touches}
use Rattle.tce_window.specs.Port.{Later}
use Rattle.rdma_copy.proofs.Laws.{later_begins}
use Rattle.lan_tests.proofs.buffers.busy.InUseGuestPort.hold.Goals as goal

some_pieces : (pieces : List Piece) → 1 ≤ held_len pieces → 0 < length pieces
some_pieces [] h = h
some_pieces (piece ∷ pieces) h = omega arith

-- the page of the first piece is one of the range
first_of_range : (values : ℕ → List ℕ) (right : Right) (n ioba len page : ℕ) (unit : UnitId) (pieces : List Piece) → 1 ≤ len → 1 ≤ held_len pieces
    → ((d : Piece) → page ≡ (get_or pieces 0 d).page) → Touches unit ioba (ioba + len) pieces
    → All (IsGranted values right) pieces → All (IsLast values) pieces → All (λ piece. piece.page < n) pieces
    → (page < n) × IsOfRange values ioba len page
first_of_range values right n ioba len page unit [] some held is touched granted last inside = absurd (omega (arith, held))
first_of_range values right n ioba len page unit (piece ∷ pieces) some held is touched granted last inside =
    let here : page ≡ piece.page = is piece in
    let within : piece.page < n = inside 0 piece (omega arith) in
    let grant : IsGranted values right piece = granted 0 piece (omega arith) in
    let end : length (values piece.entry) ≡ piece.version + 1 = last 0 piece (omega arith) in
    let entry : piece.entry ≡ ioba / 4096 = touched.1.entry in (
      omega (arith, here, within),
      (
        piece.entry,
        omega (arith, entry),
        omega (arith, entry, some),
        record { version = piece.version; value = grant.value; current = record { shown = grant.shown; last = end }; named = sym grant.page ∙ sym here },
      ),
    )

pub first_page-page-requires : goal.first_page-page-requires
first_page-page-requires g c = some_pieces c.in-Ok.held.pieces (omega (arith, c.in-Ok.ensures.ok.bytes, c.requires.len.0))

pub returns-in-Ok-clause-cause : goal.returns-in-Ok-clause-cause
returns-in-Ok-clause-cause g c =
    let n = (g.G.WindowPort.state c.args.self.now.port).place.size in
    let held = c.in-Ok.held in
    let ok = c.in-Ok.ensures.ok in
    let Refused : (ℕ → List ℕ) → Type 0 = λ v.
    (c.first_page-page.result < n) × IsOfRange v c.args.ioba c.args.len c.first_page-page.result × AreUsable v c.args.right n (c.args.ioba / 4096) (end_entry c.args.ioba c.args.len) in
    let first = first_of_range _ c.args.right n c.args.ioba c.args.len c.first_page-page.result _ held.pieces c.requires.len.0
    (omega (arith, ok.bytes, c.requires.len.0)) c.first_page-page.ensures ok.touched ok.granted ok.last ok.inside in
    subst Refused (sym (c.give_back.ensures.rest.values)) (first.0, first.1, ok.usable)

pub returns-in-Ok-clause-rest : goal.returns-in-Ok-clause-rest
returns-in-Ok-clause-rest g c =
    let before = (g.G.WindowPort.state c.args.self.now.port).values in
    let held = c.in-Ok.ensures.rest in
    let back = c.give_back.ensures.rest in
    record {
      place = back.place ∙ held.place;
      values = λ e. subst (λ (v : ℕ → List ℕ). Later true (before e) (v e)) (sym back.values) (later_begins g.G.WindowPort.is_shared (before e) _ (held.values e));
      in_use = search rules;
    }

pub returns-in-Err-InUse-clause-rest : goal.returns-in-Err-InUse-clause-rest
returns-in-Err-InUse-clause-rest g c =
    let held = c.in-Err-InUse.ensures.rest in
    record {
      place = held.place;
      values = λ e. later_begins g.G.WindowPort.is_shared ((g.G.WindowPort.state c.args.self.now.port).values e) _ (held.values e);
      in_use = search rules;
    }

shared_use : (fault : HoldFault) → IsSharedUse true fault
shared_use (Past entry) = tt
shared_use (NotGranted entry version tce) = tt
shared_use (InUse page word) = refl

pub returns-in-Err-clause-shared : goal.returns-in-Err-clause-shared
returns-in-Err-clause-shared g c = shared_use c.in-Err.fault

pub returns-in-Err-clause-rest : goal.returns-in-Err-clause-rest
returns-in-Err-clause-rest g c =
    let held = c.in-Err.ensures.rest in
    record {
      place = held.place;
      values = λ e. later_begins g.G.WindowPort.is_shared ((g.G.WindowPort.state c.args.self.now.port).values e) _ (held.values e);
      in_use = search rules;
    }
