-- A frame that was owed is kept.
use Rattle.std.proofs.Common.{◌≡◌, ◌+◌, ◌<◌, ℕ, zero, suc, Bool, true, false, List, [], ◌∷◌, ◌++◌, Option, Some, IfSome, length, map, set, get_or, slice_get, sym, ◌∙◌, ap, subst}
use Rattle.vio_num.specs.declared.names.UnitId.{UnitId}
use Rattle.lan_switch.specs.declared.answers.SendRecord.{SendRecord}
use Rattle.vio_trace.specs.declared.lan_rows.FrameRow.{FrameRow}
use Rattle.lan_switch.specs.declared.station.Station.{Station}
use Rattle.lan_script.specs.declared.seat.PortSeat.{PortSeat}
use Rattle.lan_script.specs.declared.windows.Place.{Place}
use Rattle.lan_script.specs.Frames.{count_in, frame_row_of, with_count}
use Rattle.lan_script.specs.Invariant.{CarryAll, IsBalanced, IsLan, Owes, with_frame, with_sent}
use Rattle.lan_script.specs.Seats.{seat_place}
use Rattle.lan_script.specs.Units.{HavePorts, IsLawfulFrame, LanValue, PortKey, port_key}
use Rattle.lan_script.proofs.Balancing.{set_frame}
use Rattle.lan_script.proofs.Keeping.{frames_long, kept_ports, map_get, map_set}

pub keep_frame : (lan now : LanValue) (unit : UnitId) (r : SendRecord) (n : ℕ) (row : FrameRow) (place : ℕ) (rows : List FrameRow) → lan ≡ now → IsLan lan
    → Owes now unit r → r.frame ≡ Some n → row ≡ frame_row_of unit n r → place ≡ seat_place unit lan.seats → slice_get lan.frames place ≡ Some rows
    → IsLan (record lan { frames = set lan.frames place (rows ++ row ∷ []); whole = true })
keep_frame lan now unit r n row place rows same is owed frame row_is at here =
    let o : Owes lan unit r = subst (λ (l : LanValue). Owes l unit r) (sym same) owed in
    let next : n ≡ count_in unit o.keys + 1 = subst (λ (x : Option ℕ). IfSome x (λ m. m ≡ count_in unit o.keys + 1)) frame o.next in
    let law : IsLawfulFrame unit n row =
    subst (λ (f : FrameRow). IsLawfulFrame unit n f) (sym row_is)
    (subst (λ (x : Option ℕ). IfSome x (λ m. IsLawfulFrame unit m (frame_row_of unit m r))) frame o.lawful) in
    record {
      few = is.few;
      ascending = is.ascending;
      sized = is.sized;
      named = is.named;
      ports = subst (λ (keys : List PortKey). HavePorts true lan.seats keys (set lan.frames place (rows ++ row ∷ [])))
          (sym (o.counts ∙ ap (λ x. with_count unit x o.keys) frame))
          (subst (λ p. HavePorts true lan.seats (with_count unit (Some n) o.keys) (set lan.frames p (rows ++ row ∷ []))) (sym at)
          (kept_ports unit n lan.seats o.keys lan.frames rows row o.kept (ap (λ p. slice_get lan.frames p) (sym at) ∙ here) next law));
      windows = is.windows;
      begun = is.begun;
      balanced = λ _. subst (λ (l : List (List FrameRow)). IsBalanced lan.seats lan.stations l)
          (ap (λ x. with_sent unit r x lan.seats lan.frames) frame ∙ ap (λ (f : FrameRow). with_frame unit f lan.seats lan.frames) (sym row_is)
          ∙ set_frame unit row lan.seats lan.frames rows (frames_long true lan.seats o.keys lan.frames o.kept) (ap (λ p. slice_get lan.frames p) (sym at) ∙ here)
          ∙ ap (λ p. set lan.frames p (rows ++ row ∷ [])) (sym at)) o.balanced;
      carried = λ _. subst (λ (l : List (List FrameRow)). CarryAll lan.stations lan.places l)
          (ap (λ x. with_sent unit r x lan.seats lan.frames) frame ∙ ap (λ (f : FrameRow). with_frame unit f lan.seats lan.frames) (sym row_is)
          ∙ set_frame unit row lan.seats lan.frames rows (frames_long true lan.seats o.keys lan.frames o.kept) (ap (λ p. slice_get lan.frames p) (sym at) ∙ here)
          ∙ ap (λ p. set lan.frames p (rows ++ row ∷ [])) (sym at)) o.carried;
    }

-- while a frame is owed nothing is said of the frames
short_set : (seats : List PortSeat) (keys : List PortKey) (frames : List (List FrameRow)) (p : ℕ) (rows : List FrameRow) → HavePorts false seats keys frames
    → HavePorts false seats keys (set frames p rows)
short_set [] [] [] p rows have = tt
short_set [] (k ∷ keys) frames p rows have = absurd have
short_set [] [] (f ∷ frames) p rows have = absurd have
short_set (s ∷ seats) [] frames p rows have = absurd have
short_set (s ∷ seats) (k ∷ keys) [] p rows have = absurd have
short_set (s ∷ seats) (k ∷ keys) (f ∷ frames) zero rows have = ((have.0.0, λ e. absurd (cc (e))), have.1)
short_set (s ∷ seats) (k ∷ keys) (f ∷ frames) (suc p) rows have = (have.0, short_set seats keys frames p rows have.1)

pub keep_short : (lan now : LanValue) (place : ℕ) (rows : List FrameRow) → lan ≡ now → IsLan lan → now.whole ≡ false
    → IsLan (record lan { frames = set lan.frames place rows })
keep_short lan now place rows same is short =
    let whole : lan.whole ≡ false = ap (λ (l : LanValue). l.whole) same ∙ short in
    record {
      few = is.few;
      ascending = is.ascending;
      sized = is.sized;
      named = is.named;
      ports = subst (λ w. HavePorts w lan.seats (map port_key lan.stations) (set lan.frames place rows)) (sym whole)
          (short_set lan.seats (map port_key lan.stations) lan.frames place rows
          (subst (λ w. HavePorts w lan.seats (map port_key lan.stations) lan.frames) whole is.ports));
      windows = is.windows;
      begun = is.begun;
      balanced = λ full. absurd (cc (full, whole));
      carried = λ full. absurd (cc (full, whole));
    }

-- the same of frames that are seen through another list
pub short_in : {V : Type 0} (f : V → List FrameRow) (seats : List PortSeat) (ss : List Station) (ps : List Place) (vecs : List V) (whole : Bool)
    (now : LanValue) (p : ℕ) (v : V) → record { seats = seats; stations = ss; places = ps; frames = map f vecs; whole = whole } ≡ now
    → IsLan (record { seats = seats; stations = ss; places = ps; frames = map f vecs; whole = whole }) → now.whole ≡ false
    → IsLan (record { seats = seats; stations = ss; places = ps; frames = map f (set vecs p v); whole = whole })
short_in f seats ss ps vecs whole now p v same is short =
    subst (λ (l : List (List FrameRow)). IsLan (record { seats = seats; stations = ss; places = ps; frames = l; whole = whole })) (sym (map_set f vecs p v))
    (keep_short (record { seats = seats; stations = ss; places = ps; frames = map f vecs; whole = whole }) now p (f v) same is short)

pub kept_in : {V : Type 0} (f : V → List FrameRow) (seats : List PortSeat) (ss : List Station) (ps : List Place) (vecs : List V) (whole : Bool)
    (now : LanValue) (unit : UnitId) (r : SendRecord) (n : ℕ) (row : FrameRow) (p : ℕ) (old new : V)
    → record { seats = seats; stations = ss; places = ps; frames = map f vecs; whole = whole } ≡ now
    → IsLan (record { seats = seats; stations = ss; places = ps; frames = map f vecs; whole = whole }) → Owes now unit r → r.frame ≡ Some n
    → row ≡ frame_row_of unit n r → p ≡ seat_place unit seats → p < length vecs → old ≡ get_or vecs p old → f new ≡ f old ++ row ∷ []
    → IsLan (record { seats = seats; stations = ss; places = ps; frames = map f (set vecs p new); whole = true })
kept_in f seats ss ps vecs whole now unit r n row p old new same is owed frame row_is at less here grown =
    subst (λ (l : List (List FrameRow)). IsLan (record { seats = seats; stations = ss; places = ps; frames = l; whole = true }))
    (sym (map_set f vecs p new ∙ ap (λ l. set (map f vecs) p l) grown))
    (keep_frame (record { seats = seats; stations = ss; places = ps; frames = map f vecs; whole = whole }) now unit r n row p (f old) same is owed frame
    row_is at (map_get f vecs p old less here))
