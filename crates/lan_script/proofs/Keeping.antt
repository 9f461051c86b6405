-- The ports of seats while a frame is owed, and when it is kept.
use Rattle.std.proofs.Common.{◌≡◌, ◌+◌, ◌<◌, ℕ, zero, suc, arith, get_or, set, Bool, true, false, List, [], ◌∷◌, ◌++◌, Option, Some, None, length, length-append, map, slice_get, refl, sym, ◌∙◌, ap, subst}
use Rattle.vio_num.specs.declared.names.UnitId.{UnitId}
use Rattle.lan_switch.specs.Switch.{same_unit}
use Rattle.vio_trace.specs.declared.lan_rows.FrameRow.{FrameRow}
use Rattle.lan_script.specs.declared.seat.PortSeat.{PortSeat}
use Rattle.lan_script.specs.Frames.{count_in, with_count}
use Rattle.lan_script.specs.Seats.{seat_place}
use Rattle.lan_script.specs.Units.{AreFrames, HavePorts, IsLawfulFrame, PortKey}
use Rattle.lan_script.proofs.Placing.{by_bool, one_unit}

count_here : (unit : UnitId) (n : ℕ) (k : PortKey) (ks : List PortKey) → same_unit k.unit unit ≡ true
    → with_count unit (Some n) (k ∷ ks) ≡ record k { frames = n } ∷ ks
count_here unit n k ks e = rw e refl

count_later : (unit : UnitId) (n : ℕ) (k : PortKey) (ks : List PortKey) → same_unit k.unit unit ≡ false
    → with_count unit (Some n) (k ∷ ks) ≡ k ∷ with_count unit (Some n) ks
count_later unit n k ks e = rw e refl

-- what is owed needs no frame
pub short_ports : (unit : UnitId) (count : Option ℕ) (seats : List PortSeat) (keys : List PortKey) (frames : List (List FrameRow))
    → HavePorts true seats keys frames → HavePorts false seats (with_count unit count keys) frames
short_ports unit None [] [] [] have = tt
short_ports unit None (s ∷ seats) (k ∷ keys) (f ∷ frames) have =
    ((have.0.0, λ e. absurd (cc (e))), short_ports unit None seats keys frames have.1)
short_ports unit (Some n) [] [] [] have = tt
short_ports unit (Some n) (s ∷ seats) (k ∷ keys) (f ∷ frames) have =
    by_bool (same_unit k.unit unit) (HavePorts false (s ∷ seats) (with_count unit (Some n) (k ∷ keys)) (f ∷ frames))
    (λ e.
    subst (λ l. HavePorts false (s ∷ seats) l (f ∷ frames)) (sym (count_here unit n k keys e))
    ((record { unit_is = have.0.0.unit_is; slots_is = have.0.0.slots_is }, λ g. absurd (cc (g))), short_ports unit None seats keys frames have.1))
    (λ e.
    subst (λ l. HavePorts false (s ∷ seats) l (f ∷ frames)) (sym (count_later unit n k keys e))
    ((have.0.0, λ g. absurd (cc (g))), short_ports unit (Some n) seats keys frames have.1))
short_ports unit None [] (k ∷ keys) frames have = absurd have
short_ports unit None [] [] (f ∷ frames) have = absurd have
short_ports unit None (s ∷ seats) [] frames have = absurd have
short_ports unit None (s ∷ seats) (k ∷ keys) [] have = absurd have
short_ports unit (Some n) [] (k ∷ keys) frames have = absurd have
short_ports unit (Some n) [] [] (f ∷ frames) have = absurd have
short_ports unit (Some n) (s ∷ seats) [] frames have = absurd have
short_ports unit (Some n) (s ∷ seats) (k ∷ keys) [] have = absurd have

-- one frame more behind those that are numbered
frames_next : (unit : UnitId) (n : ℕ) (rows : List FrameRow) (row : FrameRow) → AreFrames unit n rows → IsLawfulFrame unit (n + length rows) row
    → AreFrames unit n (rows ++ row ∷ [])
frames_next unit n [] row are law = (subst (λ k. IsLawfulFrame unit k row) (same n) law, tt)
  where
    same : (k : ℕ) → k + length {A = FrameRow} [] ≡ k
    same k = omega arith
frames_next unit n (x ∷ rows) row are law =
    (are.0, frames_next unit (n + 1) rows row are.1 (subst (λ k. IsLawfulFrame unit k row) (same n) law))
  where
    same : (k : ℕ) → k + length (x ∷ rows) ≡ k + 1 + length rows
    same k = omega arith

-- the frame that was owed is kept
pub kept_ports : (unit : UnitId) (n : ℕ) (seats : List PortSeat) (keys : List PortKey) (frames : List (List FrameRow)) (rows : List FrameRow)
    (row : FrameRow) → HavePorts true seats keys frames → slice_get frames (seat_place unit seats) ≡ Some rows → n ≡ count_in unit keys + 1
    → IsLawfulFrame unit n row
    → HavePorts true seats (with_count unit (Some n) keys) (set frames (seat_place unit seats) (rows ++ row ∷ []))
kept_ports unit n [] [] [] rows row have at next law = absurd (cc (at))
kept_ports unit n [] (k ∷ keys) frames rows row have at next law = absurd have
kept_ports unit n [] [] (f ∷ frames) rows row have at next law = absurd have
kept_ports unit n (s ∷ seats) [] frames rows row have at next law = absurd have
kept_ports unit n (s ∷ seats) (k ∷ keys) [] rows row have at next law = absurd have
kept_ports unit n (s ∷ seats) (k ∷ keys) (f ∷ frames) rows row have at next law =
    let same : same_unit k.unit unit ≡ same_unit s.unit unit = ap (λ (u : UnitId). same_unit u unit) have.0.0.unit_is in
    by_bool (same_unit s.unit unit) (HavePorts true (s ∷ seats) (with_count unit (Some n) (k ∷ keys)) (set (f ∷ frames) (seat_place unit (s ∷ seats)) (rows ++ row ∷ [])))
    (λ e.
    let here : seat_place unit (s ∷ seats) ≡ 0 = place_here e in
    let is : f ≡ rows = some (ap (λ p. slice_get (f ∷ frames) p) (sym here) ∙ at) in
    let next' : n ≡ k.frames + 1 = next ∙ ap (λ c. c + 1) (counts_here (same ∙ e)) in
    let own = have.0.1 refl in
    let unit_is : k.unit ≡ unit = one (same ∙ e) in
    subst (λ l. HavePorts true (s ∷ seats) l (set (f ∷ frames) (seat_place unit (s ∷ seats)) (rows ++ row ∷ []))) (sym (count_here unit n k keys (same ∙ e)))
    (subst (λ p. HavePorts true (s ∷ seats) (record k { frames = n } ∷ keys) (set (f ∷ frames) p (rows ++ row ∷ []))) (sym here) (
      (
        record { unit_is = have.0.0.unit_is; slots_is = have.0.0.slots_is },
        λ whole. record {
          numbered = frames_next k.unit 1 rows row (subst (λ (l : List FrameRow). AreFrames k.unit 1 l) is own.numbered)
              (subst (λ m. IsLawfulFrame k.unit m row)
              (number n k.frames (length rows) next' (own.all ∙ ap (λ (l : List FrameRow). length l) is))
              (subst (λ (u : UnitId). IsLawfulFrame u n row) (sym unit_is) law));
          all = total n k.frames (length rows) next' (own.all ∙ ap (λ (l : List FrameRow). length l) is) ∙ sym (length-append rows (row ∷ []));
        },
      ),
      have.1,
    )))
    (λ e.
    let later : seat_place unit (s ∷ seats) ≡ suc (seat_place unit seats) = place_later e in
    subst (λ l. HavePorts true (s ∷ seats) l (set (f ∷ frames) (seat_place unit (s ∷ seats)) (rows ++ row ∷ []))) (sym (count_later unit n k keys (same ∙ e)))
    (subst (λ p. HavePorts true (s ∷ seats) (k ∷ with_count unit (Some n) keys) (set (f ∷ frames) p (rows ++ row ∷ []))) (sym later) (
      have.0,
      kept_ports unit n seats keys frames rows row have.1 (ap (λ p. slice_get (f ∷ frames) p) (sym later) ∙ at)
          (next ∙ ap (λ c. c + 1) (counts_later (same ∙ e))) law,
    )))
  where
    place_here : same_unit s.unit unit ≡ true → seat_place unit (s ∷ seats) ≡ 0
    place_here e = rw e refl

    place_later : same_unit s.unit unit ≡ false → seat_place unit (s ∷ seats) ≡ suc (seat_place unit seats)
    place_later e = rw e refl

    counts_here : same_unit k.unit unit ≡ true → count_in unit (k ∷ keys) ≡ k.frames
    counts_here e = rw e refl

    counts_later : same_unit k.unit unit ≡ false → count_in unit (k ∷ keys) ≡ count_in unit keys
    counts_later e = rw e refl

    some : Some f ≡ Some rows → f ≡ rows
    some e = cc (e)

    one : same_unit k.unit unit ≡ true → k.unit ≡ unit
    one e = one_unit k.unit unit e

    number : (n c l : ℕ) → n ≡ c + 1 → c ≡ l → n ≡ 1 + l
    number n c l e f = omega (arith, e, f)

    total : (n c l : ℕ) → n ≡ c + 1 → c ≡ l → n ≡ l + 1
    total n c l e f = omega (arith, e, f)

-- a change in a list, told of what is seen of it
pub map_set : {X Y : Type 0} (f : X → Y) (xs : List X) (p : ℕ) (x : X) → map f (set xs p x) ≡ set (map f xs) p (f x)
map_set f [] p x = refl
map_set f (y ∷ xs) zero x = refl
map_set f (y ∷ xs) (suc p) x = ap (λ l. f y ∷ l) (map_set f xs p x)

pub map_get : {X Y : Type 0} (f : X → Y) (xs : List X) (p : ℕ) (x : X) → p < length xs → x ≡ get_or xs p x → slice_get (map f xs) p ≡ Some (f x)
map_get f [] p x less is = absurd (omega (arith, less))
map_get f (y ∷ xs) zero x less is = ap (λ z. Some (f z)) (sym is)
map_get f (y ∷ xs) (suc p) x less is = map_get f xs p x (omega (arith, less)) is

-- each seat has its frames
pub frames_long : (whole : Bool) (seats : List PortSeat) (keys : List PortKey) (frames : List (List FrameRow)) → HavePorts whole seats keys frames
    → length frames ≡ length seats
frames_long whole [] [] [] have = refl
frames_long whole [] (k ∷ keys) frames have = absurd have
frames_long whole [] [] (f ∷ frames) have = absurd have
frames_long whole (s ∷ seats) [] frames have = absurd have
frames_long whole (s ∷ seats) (k ∷ keys) [] have = absurd have
frames_long whole (s ∷ seats) (k ∷ keys) (f ∷ frames) have = ap suc (frames_long whole seats keys frames have.1)

pub map_long : {X Y : Type 0} (f : X → Y) (xs : List X) → length (map f xs) ≡ length xs
map_long f [] = refl
map_long f (x ∷ xs) = ap suc (map_long f xs)
