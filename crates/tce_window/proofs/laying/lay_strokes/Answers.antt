-- Each step lays the stroke of the next piece.
use Rattle.std.proofs.Common.{◌≡◌, ℕ, ◌+◌, ◌++◌, ◌≤◌, ◌<◌, ◌==◌, List, [], ◌∷◌, ◌∙◌, IsSome, All, length, get_or, take, drop, set, cond, ap, refl, sym, subst, rules, arith}
use Rattle.std.specs.Option.{option_map}
use Rattle.std.specs.Vec.Iter.{into_iter_items}
use Rattle.std.proofs.lemmas.Bool.{eqb-true}
use Rattle.std.proofs.lemmas.List.{nil_from_length, drop_more, drop-set-lt, length-set}
use Rattle.std.proofs.lemmas.List.Elements.{All-head, All-rest, All-weaker}
use Rattle.page_slots.specs.Stroke.{StrokeValue}
use Rattle.tce_window.specs.declared.piece.Piece.{Piece}
use Rattle.tce_window.specs.Laying.{count_on, with_stroke}
use Rattle.tce_window.specs.Moved.{stroke_count, strokes_on, numbered}
use Rattle.tce_window.proofs.Growing.{none_left, there_after, strokes_after, count_after, numbered_step, room_first, room_after}
use Rattle.tce_window.proofs.Naming.{same_at}
use Rattle.tce_window.proofs.laying.lay_strokes.Goals as goal

pub loop-stroke-init : goal.loop-stroke-init
loop-stroke-init g c = record {
  steps = tt;
  ends = tt;
  there = c.requires.there;
  room = c.requires.room;
  count = search rules;
  strokes = λ p. search rules;
  pieces = search rules;
  places = refl;
}

pub write-at-requires-clause-there : goal.write-at-requires-clause-there
write-at-requires-clause-there g c =
    let split : into_iter_items c.loop-stroke.stroke-iterator ≡ c.in-Some.stroke ∷ into_iter_items c.next.new.self = search rules in
    let less : c.loop-stroke.place < length c.loop-stroke.pieces = omega (arith, c.loop-stroke.invariant.count, ap length split) in
    let d : Piece = c.index-pieces-place.result in
    let rest = drop_more c.loop-stroke.pieces c.loop-stroke.place d less in
    All-head (λ piece. IsSome (g.P.PageSet.strokes c.loop-stroke.pages piece.page)) (get_or c.loop-stroke.pieces c.loop-stroke.place d) (drop (c.loop-stroke.place + 1) c.loop-stroke.pieces)
    (subst (All (λ piece. IsSome (g.P.PageSet.strokes c.loop-stroke.pages piece.page))) rest c.loop-stroke.invariant.there)

pub write-at-requires-clause-room : goal.write-at-requires-clause-room
write-at-requires-clause-room g c =
    let split : into_iter_items c.loop-stroke.stroke-iterator ≡ c.in-Some.stroke ∷ into_iter_items c.next.new.self = search rules in
    let less : c.loop-stroke.place < length c.loop-stroke.pieces = omega (arith, c.loop-stroke.invariant.count, ap length split) in
    let d : Piece = c.index-pieces-place.result in
    let piece = get_or c.loop-stroke.pieces c.loop-stroke.place d in
    let rest = drop_more c.loop-stroke.pieces c.loop-stroke.place d less in
    room_first piece (drop c.loop-stroke.place c.loop-stroke.pieces) (drop (c.loop-stroke.place + 1) c.loop-stroke.pieces) (g.P.PageSet.room c.loop-stroke.pages piece.page) rest
    (c.loop-stroke.invariant.room piece.page)

pub loop-stroke-preserved : goal.loop-stroke-preserved
loop-stroke-preserved g c =
    let pages = c.loop-stroke.pages in
    let pieces = c.loop-stroke.pieces in
    let i = c.loop-stroke.place in
    let split : into_iter_items c.loop-stroke.stroke-iterator ≡ c.in-Some.stroke ∷ into_iter_items c.next.new.self = search rules in
    let less : i < length pieces = omega (arith, c.loop-stroke.invariant.count, ap length split) in
    let read : Piece = get_or pieces i c.index-pieces-place.result in
    let d : Piece = c.index-pieces-place-in-loop-stroke.result in
    let piece : Piece = get_or pieces i d in
    let same_page : read.page ≡ piece.page = ap (λ (q : Piece). q.page) (same_at pieces i c.index-pieces-place.result d less) in
    let index : c.write-at.result ≡ stroke_count (g.P.PageSet.strokes pages piece.page) = subst (λ n. c.write-at.result ≡ stroke_count (g.P.PageSet.strokes pages n)) same_page c.write-at.ensures.index in
    let laid : (p : ℕ) → g.P.PageSet.strokes c.write-at.new.self p ≡ with_stroke piece.page c.in-Some.stroke p (g.P.PageSet.strokes pages p) =
    subst (λ n. (p : ℕ) → g.P.PageSet.strokes c.write-at.new.self p ≡ with_stroke n c.in-Some.stroke p (g.P.PageSet.strokes pages p)) same_page c.write-at.ensures.strokes in
    let room : (p : ℕ) → g.P.PageSet.room pages p ≡ g.P.PageSet.room c.write-at.new.self p + cond (piece.page == p) 1 0 =
    subst (λ n. (p : ℕ) → g.P.PageSet.room pages p ≡ g.P.PageSet.room c.write-at.new.self p + cond (n == p) 1 0) same_page c.write-at.ensures.room in
    let placed : Piece = c.set_place.new.self in
    let is_placed : placed ≡ record piece { at = c.write-at.result } = c.set_place.ensures in
    let next : drop i pieces ≡ piece ∷ drop (i + 1) pieces = drop_more pieces i d less in
    let behind : drop (i + 1) (set pieces i placed) ≡ drop (i + 1) pieces = drop-set-lt (i + 1) pieces i placed (omega arith) in
    let there : IsSome (g.P.PageSet.strokes pages piece.page) =
    All-head (λ piece. IsSome (g.P.PageSet.strokes pages piece.page)) piece (drop (i + 1) pieces) (subst (All (λ piece. IsSome (g.P.PageSet.strokes pages piece.page))) next c.loop-stroke.invariant.there) in
    record {
      steps = tt;
      ends = tt;
      there =
          subst (All (λ piece. IsSome (g.P.PageSet.strokes c.write-at.new.self piece.page))) (sym behind)
          (All-weaker (λ piece. IsSome (g.P.PageSet.strokes pages piece.page)) (λ piece. IsSome (g.P.PageSet.strokes c.write-at.new.self piece.page))
          (λ other h. there_after (piece.page == other.page) (g.P.PageSet.strokes pages other.page) (g.P.PageSet.strokes c.write-at.new.self other.page) c.in-Some.stroke (laid other.page) h)
          (drop (i + 1) pieces)
          (All-rest (λ piece. IsSome (g.P.PageSet.strokes pages piece.page)) piece (drop (i + 1) pieces) (drop i pieces) next c.loop-stroke.invariant.there));
      room = λ p.
          subst (λ (rest : List Piece). count_on p rest ≤ g.P.PageSet.room c.write-at.new.self p) (sym behind)
          (room_after piece (drop i pieces) (drop (i + 1) pieces) p (g.P.PageSet.room pages p) (g.P.PageSet.room c.write-at.new.self p) next (room p) (c.loop-stroke.invariant.room p));
      count = omega (arith, c.loop-stroke.invariant.count, ap length split, length-set pieces i placed);
      strokes = λ p.
          ap (λ (rest : List Piece). option_map (λ s. s ++ strokes_on p rest (into_iter_items c.next.new.self)) (g.P.PageSet.strokes c.write-at.new.self p)) behind
          ∙ strokes_after (piece.page == p) (g.P.PageSet.strokes pages p) (g.P.PageSet.strokes c.write-at.new.self p) c.in-Some.stroke (strokes_on p (drop (i + 1) pieces) (into_iter_items c.next.new.self)) (laid p)
          ∙ ap (λ (rest : List Piece). option_map (λ s. s ++ strokes_on p rest (c.in-Some.stroke ∷ into_iter_items c.next.new.self)) (g.P.PageSet.strokes pages p)) (sym next)
          ∙ ap (λ (rest : List StrokeValue). option_map (λ s. s ++ strokes_on p (drop i pieces) rest) (g.P.PageSet.strokes pages p)) (sym split)
          ∙ c.loop-stroke.invariant.strokes p;
      pieces =
          subst (λ (q : Piece). take (i + 1) (set pieces i q) ++ numbered (λ p. stroke_count (g.P.PageSet.strokes c.write-at.new.self p)) (drop (i + 1) (set pieces i q)) ≡ take i pieces ++ numbered (λ p. stroke_count (g.P.PageSet.strokes pages p)) (drop i pieces)) (sym is_placed)
          (numbered_step pieces i c.write-at.result d (λ p. stroke_count (g.P.PageSet.strokes pages p)) (λ p. stroke_count (g.P.PageSet.strokes c.write-at.new.self p)) less index
          (λ p. count_after (piece.page == p) (g.P.PageSet.strokes pages p) (g.P.PageSet.strokes c.write-at.new.self p) c.in-Some.stroke (laid p)
          (λ same. subst (λ q. IsSome (g.P.PageSet.strokes pages q)) (eqb-true piece.page p same) there)))
          ∙ c.loop-stroke.invariant.pieces;
      places = c.write-at.ensures.places ∙ c.loop-stroke.invariant.places;
    }

pub returns-clause-strokes : goal.returns-clause-strokes
returns-clause-strokes g c p =
    let none : into_iter_items c.loop-stroke.stroke-iterator ≡ [] = nil_from_length (into_iter_items c.loop-stroke.stroke-iterator) (search rules) in
    none_left p (drop c.loop-stroke.place c.loop-stroke.pieces) (g.P.PageSet.strokes c.loop-stroke.pages p) (into_iter_items c.loop-stroke.stroke-iterator) none
    ∙ c.loop-stroke.invariant.strokes p
