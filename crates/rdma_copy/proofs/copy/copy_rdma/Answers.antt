use Rattle.std.proofs.Common.{◌≡◌, ℕ, ◌+◌, ◌≤◌, ◌⊎◌, inr, All, List, IsSome, length, flat_map, arith, refl, sym, subst, ◌∙◌, ap}
use Rattle.tce_window.specs.declared.answers.HoldFault.{HoldFault}
use Rattle.tce_window.specs.declared.answers.Right.TheVariants.{Read, Write}
use Rattle.tce_window.specs.Pieces.{HasStrokes, IsGranted, IsLast, Touches}
use Rattle.tce_window.specs.Held.{held_strokes, joined}
use Rattle.tce_window.specs.Moved.{piece_strokes, read_bytes, IsLaid, IsReadFrom, IsWrittenTo}
use Rattle.tce_window.proofs.Laws.{held_pieces_are_read, read_from}
use Rattle.rdma_copy.specs.Answers.{IsBusySide}
use Rattle.rdma_copy.specs.Copies.{Copies, Fills, MayHold, RefusesRange}
use Rattle.rdma_copy.proofs.Copied.{copied_weaker, held_weaker, may_hold, source_weaker, dest_weaker, busy_weaker, copies_none}
use Rattle.rdma_copy.proofs.Holding.{held_back, strokes_back}
use Rattle.rdma_copy.proofs.copy.copy_rdma.Goals as goal

pub returns-then-len-eq0-clause-copied : goal.returns-then-len-eq0-clause-copied
returns-then-len-eq0-clause-copied g c =
    let none : c.args.len ≡ 0 = omega arith in
    copies_none g.D.WindowPort.is_shared (g.S.WindowPort.state c.args.src.now) (g.D.WindowPort.state c.args.dst.now) c.args.s_ioba c.args.d_ioba c.args.len c.args.name
    (record { name = c.args.name; len = 0; from = c.new.result; to = c.new-then-len-eq0.result }) refl (sym none) none c.new.ensures.items c.new-then-len-eq0.ensures.items

pub returns-clause-copied : goal.returns-clause-copied
returns-clause-copied g c =
    let held = c.in-Ok.held in
    let src = g.S.WindowPort.state c.give_back.new.self in
    let dst = g.D.WindowPort.state c.args.dst.now in
    let dst' = g.D.WindowPort.state c.copy_held-answer.new.dst in
    let shared = g.D.WindowPort.is_shared in
    let bytes : List ℕ = joined held.pages held.pieces in
    let answer = c.copy_held-answer.result in
    let place : src.place ≡ (g.S.WindowPort.state c.args.src.now).place = c.give_back.ensures.rest.place ∙ c.hold.ensures.rest.place in
    let unit : src.place.unit ≡ (g.S.WindowPort.state c.args.src.now).place.unit = ap (λ place. place.unit) place in
    let granted : All (IsGranted src.values Read) held.pieces =
    subst (λ v. All (IsGranted v Read) held.pieces) (sym (c.give_back.ensures.rest.values)) c.in-Ok.ensures.ok.granted in
    let last : All (IsLast src.values) held.pieces =
    subst (λ v. All (IsLast v) held.pieces) (sym (c.give_back.ensures.rest.values)) c.in-Ok.ensures.ok.last in
    let same : (p : ℕ) → IsSome (held_strokes held.pages p) → src.strokes p ≡ held_strokes held.pages p = λ p some.
    c.give_back.ensures.strokes p ∙ held_back g.S.WindowPort.is_shared ((g.S.WindowPort.state c.args.src.now).strokes p) (held_strokes held.pages p)
    ((g.S.WindowPort.state c.hold.new.self).strokes p) (held_strokes held.pages p) (c.in-Ok.ensures.ok.taken p) some in
    let whole : All (λ piece. HasStrokes piece (src.strokes piece.page)) held.pieces =
    strokes_back held.pieces (held_strokes held.pages) src.strokes same c.in-Ok.ensures.ok.strokes in
    let touched : Touches src.place.unit c.args.s_ioba (c.args.s_ioba + c.args.len) held.pieces = subst (λ u. Touches u c.args.s_ioba (c.args.s_ioba + c.args.len) held.pieces) (sym unit) c.in-Ok.ensures.ok.touched in
    let read : length bytes ≡ c.args.len → IsReadFrom src.place.unit src.values src.strokes c.args.s_ioba held.pieces bytes = λ long.
    read_from src.place.unit src.values src.strokes c.args.s_ioba held.pages held.pieces bytes
    (subst (λ len. Touches src.place.unit c.args.s_ioba (c.args.s_ioba + len) held.pieces) (sym long) touched)
    granted c.in-Ok.ensures.ok.strokes same refl in
    let join : flat_map (read_bytes src.strokes) held.pieces ≡ bytes = held_pieces_are_read held.pages held.pieces src.strokes c.in-Ok.ensures.ok.strokes same in
    copied_weaker c.copy_held-answer.result (Fills shared held dst dst' c.args.d_ioba c.args.len c.args.name)
    (Copies shared src dst dst' c.args.s_ioba c.args.d_ioba c.args.len c.args.name)
    (λ copy filled. record {
      name_is = filled.name_is;
      len_is = filled.len_is;
      lawful = record {
        bytes = bytes;
        len = filled.long ∙ sym filled.len_is;
        read = subst (λ list. IsReadFrom src.place.unit src.values src.strokes c.args.s_ioba list bytes) (sym filled.from) (read filled.long);
        written = subst (λ name. IsWrittenTo dst'.place.unit dst'.values dst'.strokes c.args.d_ioba name copy.to.items bytes) (sym filled.name_is) filled.written;
      };
      last_read = subst (λ list. All (IsLast src.values) list) (sym filled.from) last;
      all_read = subst (All (λ piece. HasStrokes piece (src.strokes piece.page))) (sym filled.from) whole;
      last_written = filled.last;
      laid = λ p. subst (λ found. IsLaid shared p copy.to.items (piece_strokes c.args.name found copy.to.items) (dst.strokes p) (dst'.strokes p))
          (sym (ap (flat_map (read_bytes src.strokes)) filled.from ∙ join)) (filled.laid p);
      places = filled.places;
    })
    c.copy_held-answer.ensures.copied

pub returns-clause-held : goal.returns-clause-held
returns-clause-held g c =
    let src = g.S.WindowPort.state c.give_back.new.self in
    let source : MayHold src Read c.args.s_ioba c.args.len =
    may_hold (g.S.WindowPort.state c.hold.new.self).values ((g.S.WindowPort.state c.args.src.now).place.size) src Read c.args.s_ioba c.args.len c.give_back.ensures.rest.values
    (ap (λ place. place.size) (c.give_back.ensures.rest.place ∙ c.hold.ensures.rest.place)) c.in-Ok.ensures.ok.usable in
    let Target : Type 0 = MayHold (g.D.WindowPort.state c.copy_held-answer.new.dst) Write c.args.d_ioba c.args.len in
    held_weaker c.copy_held-answer.result Target (1 ≤ c.args.len → MayHold src Read c.args.s_ioba c.args.len × Target) (λ target _. (source, target)) c.copy_held-answer.ensures.held

pub returns-clause-source_parm : goal.returns-clause-source_parm
returns-clause-source_parm g c = source_weaker c.copy_held-answer.result (λ _. ⊥) _ (λ fault none. absurd none) c.copy_held-answer.ensures.source_parm

pub returns-clause-dest_parm : goal.returns-clause-dest_parm
returns-clause-dest_parm g c =
    let src = g.S.WindowPort.state c.give_back.new.self in
    let source : MayHold src Read c.args.s_ioba c.args.len =
    may_hold (g.S.WindowPort.state c.hold.new.self).values ((g.S.WindowPort.state c.args.src.now).place.size) src Read c.args.s_ioba c.args.len c.give_back.ensures.rest.values
    (ap (λ place. place.size) (c.give_back.ensures.rest.place ∙ c.hold.ensures.rest.place)) c.in-Ok.ensures.ok.usable in
    let Refused : HoldFault → Type 0 = RefusesRange (g.D.WindowPort.state c.copy_held-answer.new.dst) Write c.args.d_ioba c.args.len in
    dest_weaker c.copy_held-answer.result Refused (λ fault. Refused fault × MayHold src Read c.args.s_ioba c.args.len) (λ fault h. (h, source)) c.copy_held-answer.ensures.dest_parm

pub returns-clause-busy : goal.returns-clause-busy
returns-clause-busy g c =
    let len = c.args.len in
    let src = g.S.WindowPort.state c.give_back.new.self in
    let dst' = g.D.WindowPort.state c.copy_held-answer.new.dst in
    let source : MayHold src Read c.args.s_ioba len =
    may_hold (g.S.WindowPort.state c.hold.new.self).values ((g.S.WindowPort.state c.args.src.now).place.size) src Read c.args.s_ioba len c.give_back.ensures.rest.values
    (ap (λ place. place.size) (c.give_back.ensures.rest.place ∙ c.hold.ensures.rest.place)) c.in-Ok.ensures.ok.usable in
    let AtSource : ℕ → ℕ → Type 0 = λ page word. IsBusySide g.S.WindowPort.is_shared src.values c.args.s_ioba len page (g.S.GuestPort.found c.give_back.new.self page word) in
    let AtTarget : ℕ → ℕ → Type 0 = λ page word. IsBusySide g.D.WindowPort.is_shared dst'.values c.args.d_ioba len page (g.D.GuestPort.found c.copy_held-answer.new.dst page word) in
    let Target : Type 0 = MayHold dst' Write c.args.d_ioba len in
    let some : 1 ≤ len = omega arith in
    let most : len ≤ 65536 = omega arith in
    busy_weaker c.copy_held-answer.result (λ page word. Target × AtTarget page word)
    (λ page word. (1 ≤ len) × (len ≤ 65536) × MayHold src Read c.args.s_ioba len × (AtSource page word ⊎ (AtTarget page word × Target)))
    (λ page word h. (some, most, source, inr (h.1, h.0))) c.copy_held-answer.ensures.busy
