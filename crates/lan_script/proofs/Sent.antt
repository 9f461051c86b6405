-- What a send leaves of the ports, and the row that it makes.
use Rattle.std.proofs.Common.{◌≡◌, ◌≤◌, inl, inr, ℕ, suc, arith, Bool, true, false, true≢false, IsTrue, IsSome, List, [], ◌∷◌, Option, Some, All, length, map, if◌then◌else◌, refl, sym, ◌∙◌, ap, subst}
use Rattle.std.proofs.lemmas.List.Elements.{All-cons, All-nil}
use Rattle.vio_num.specs.declared.names.UnitId.{UnitId}
use Rattle.vio_num.specs.declared.hypervisor.Hrc.TheVariants.{Success, Dropped}
use Rattle.tce_window.specs.declared.piece.Piece.{Piece}
use Rattle.lan_frame.specs.Station.{IsGroup}
use Rattle.lan_buffers.specs.Calls.{IsOpen}
use Rattle.lan_buffers.specs.Port.{PortValue}
use Rattle.lan_buffers.specs.declared.settings.Settings.{Settings}
use Rattle.lan_buffers.specs.declared.answers.Deliver.{Deliver}
use Rattle.lan_buffers.specs.declared.answers.Deliver.TheVariants as sent
use Rattle.lan_switch.specs.declared.answers.Offer.{Offer}
use Rattle.lan_switch.specs.declared.answers.SendRecord.{SendRecord}
use Rattle.lan_switch.specs.declared.station.Station.{Station}
use Rattle.lan_switch.specs.Sending.{AnswersFrame, AreOffered, IsOfferedAt, LanWindows, Offering, Takes, code_after, has_offer, is_numbered, offering, one_code as sent_code, to_of as sent_to, with_frames}
use Rattle.lan_switch.specs.Switch.{same_unit, unit_of}
use Rattle.vio_trace.specs.declared.lan_rows.FrameRow.{FrameRow}
use Rattle.lan_script.specs.Frames.{frame_row_of, offer_row_of, offered_as, with_count}
use Rattle.lan_script.specs.Units.{IsLawfulFrame, IsLawfulOffer, IsSingle, PortKey, is_decided, is_done, one_code, port_key, to_of}
use Rattle.lan_script.proofs.Placing.{by_bool, flip}
use Rattle.lan_script.proofs.Tallies.{shut}

-- what a port made of a frame keeps its slots
offered_slots : (o : Offering) (unit : UnitId) (old new : PortValue) (answer : Deliver) → IsOfferedAt o unit old new answer
    → (answer ≡ sent.NoMemory → ⊥) → new.slots ≡ old.slots
offered_slots o unit old new (sent.Done post) h not = ap (λ (p : PortValue). p.slots) h.done.rest
offered_slots o unit old new (sent.Ungranted post fault) h not = ap (λ (p : PortValue). p.slots) h.ungranted.blank.rest
offered_slots o unit old new sent.NoSize h not = ap (λ (p : PortValue). p.slots) h.dropped
offered_slots o unit old new sent.NoBuffer h not = ap (λ (p : PortValue). p.slots) h.dropped
offered_slots o unit old new (sent.Turn word) h not = ap (λ (p : PortValue). p.slots) h.nothing
offered_slots o unit old new (sent.InUse page word) h not = ap (λ (p : PortValue). p.slots) h.nothing
offered_slots o unit old new (sent.Closed control) h not = ap (λ (p : PortValue). p.slots) h.nothing
offered_slots o unit old new sent.NoMemory h not = absurd (not refl)

key_of : (a b : Station) → unit_of a ≡ unit_of b → a.port.slots ≡ b.port.slots → a.frames ≡ b.frames → port_key a ≡ port_key b
key_of a b e f g =
    ap (λ (u : UnitId). record { unit = u; slots = a.port.slots; frames = a.frames }) e
    ∙ ap (λ (n : ℕ). record { unit = unit_of b; slots = n; frames = a.frames }) f
    ∙ ap (λ (n : ℕ). record { unit = unit_of b; slots = b.port.slots; frames = n }) g

takes_key : (o : Offering) (old new : Station) (answer : Deliver) → Takes o old new answer → port_key new ≡ port_key old
takes_key o old new answer h = key_of new old h.unit (offered_slots o (unit_of old) old.port new.port answer h.offered h.memory) h.frames

-- offers keep the keys of the ports
pub offered_keys : (o : Offering) (all : Bool) (old new : List Station) (offers : List Offer) → AreOffered o all old new offers
    → map port_key new ≡ map port_key old
offered_keys o all [] [] offers h = refl
offered_keys o all [] (n ∷ news) offers h = absurd h
offered_keys o all (s ∷ olds) [] offers h = absurd h
offered_keys o true (s ∷ olds) (n ∷ news) offers (inl (answer, later, is, takes, rest)) =
    ap (λ (k : PortKey). k ∷ map port_key news) (takes_key o s n answer takes) ∙ ap (λ l. port_key s ∷ l) (offered_keys o true olds news later rest)
offered_keys o false (s ∷ olds) (n ∷ news) offers (inl (answer, later, is, takes, rest)) =
    ap (λ (k : PortKey). k ∷ map port_key news) (takes_key o s n answer takes) ∙ ap (λ l. port_key s ∷ map port_key l) rest.1
offered_keys o all (s ∷ olds) (n ∷ news) offers (inr (passed, rest)) =
    ap (λ (x : Station). port_key x ∷ map port_key news) passed.1 ∙ ap (λ l. port_key s ∷ l) (offered_keys o all olds news offers rest)

-- an offer is to another unit than this one
abbrev pub IsBeside : UnitId → Offer → Type 0
IsBeside unit offer = same_unit offer.unit unit ≡ false

-- each offer is to another unit than the sender
pub offered_others : (o : Offering) (all : Bool) (old new : List Station) (offers : List Offer) → AreOffered o all old new offers
    → All (IsBeside o.name.who) offers
offered_others o all [] [] offers h = subst (λ l. All (IsBeside o.name.who) l) (sym h) (All-nil (IsBeside o.name.who))
offered_others o all [] (n ∷ news) offers h = absurd h
offered_others o all (s ∷ olds) [] offers h = absurd h
offered_others o true (s ∷ olds) (n ∷ news) offers (inl (answer, later, is, takes, rest)) =
    subst (λ l. All (IsBeside o.name.who) l) (sym is)
    (All-cons (IsBeside o.name.who) _ later takes.target.other (offered_others o true olds news later rest))
offered_others o false (s ∷ olds) (n ∷ news) offers (inl (answer, later, is, takes, rest)) =
    subst (λ l. All (IsBeside o.name.who) l) (sym is)
    (All-cons (IsBeside o.name.who) _ later takes.target.other
    (subst (λ l. All (IsBeside o.name.who) l) (sym rest.0) (All-nil (IsBeside o.name.who))))
offered_others o all (s ∷ olds) (n ∷ news) offers (inr (passed, rest)) = offered_others o all olds news offers rest

-- an open port without another's hand in its window takes the frame or drops it
decided_at : (o : Offering) (unit : UnitId) (old new : PortValue) (answer : Deliver) → o.windows.is_shared ≡ false → IsOfferedAt o unit old new answer
    → (answer ≡ sent.NoMemory → ⊥) → IsOpen old → is_decided (offered_as answer) ≡ true
decided_at o unit old new (sent.Done post) plain h not opened = refl
decided_at o unit old new (sent.Ungranted post fault) plain h not opened = refl
decided_at o unit old new sent.NoSize plain h not opened = refl
decided_at o unit old new sent.NoBuffer plain h not opened = refl
decided_at o unit old new (sent.Turn word) plain h not opened = absurd h.plain
decided_at o unit old new (sent.InUse page word) plain h not opened = absurd (true≢false (sym h.in_use.in_use.shared ∙ plain))
decided_at o unit old new (sent.Closed control) plain h not opened =
    absurd (shut old.settings (h.closed.0 (ap (λ (n : ℕ). sent.Closed n) h.plain)) opened)
decided_at o unit old new sent.NoMemory plain h not opened = absurd (not refl)

-- an offer that was decided
abbrev pub IsDecided : Offer → Type 0
IsDecided offer = is_decided (offered_as offer.answer) ≡ true

takes_decided : (o : Offering) (old new : Station) (answer : Deliver) → o.windows.is_shared ≡ false → Takes o old new answer
    → is_decided (offered_as answer) ≡ true
takes_decided o old new answer plain h =
    decided_at o (unit_of old) old.port new.port answer plain h.offered h.memory
    (subst (λ (s : Option Settings). IsSome s) (sym h.target.accepts.shown) refl)

-- each offer was decided
pub offered_decided : (o : Offering) (all : Bool) (old new : List Station) (offers : List Offer) → o.windows.is_shared ≡ false
    → AreOffered o all old new offers → All IsDecided offers
offered_decided o all [] [] offers plain h = subst (λ l. All IsDecided l) (sym h) (All-nil IsDecided)
offered_decided o all [] (n ∷ news) offers plain h = absurd h
offered_decided o all (s ∷ olds) [] offers plain h = absurd h
offered_decided o true (s ∷ olds) (n ∷ news) offers plain (inl (answer, later, is, takes, rest)) =
    subst (λ l. All IsDecided l) (sym is)
    (All-cons IsDecided _ later (takes_decided o s n answer plain takes) (offered_decided o true olds news later plain rest))
offered_decided o false (s ∷ olds) (n ∷ news) offers plain (inl (answer, later, is, takes, rest)) =
    subst (λ l. All IsDecided l) (sym is)
    (All-cons IsDecided _ later (takes_decided o s n answer plain takes)
    (subst (λ l. All IsDecided l) (sym rest.0) (All-nil IsDecided)))
offered_decided o all (s ∷ olds) (n ∷ news) offers plain (inr (passed, rest)) = offered_decided o all olds news offers plain rest

-- a frame to one station has at most one offer
pub offered_few : (o : Offering) (old new : List Station) (offers : List Offer) → AreOffered o false old new offers → length offers ≤ 1
offered_few o [] [] offers h = omega (arith, ap (λ l. length l) h)
offered_few o [] (n ∷ news) offers h = absurd h
offered_few o (s ∷ olds) [] offers h = absurd h
offered_few o (s ∷ olds) (n ∷ news) offers (inl (answer, later, is, takes, rest)) =
    omega (arith, ap (λ l. length l) is, ap (λ l. length l) rest.0)
offered_few o (s ∷ olds) (n ∷ news) offers (inr (passed, rest)) = offered_few o olds news offers rest

-- the sender is offered nothing
pub none_offered : (unit : UnitId) (offers : List Offer) → All (IsBeside unit) offers
    → has_offer unit offers ≡ false
none_offered unit [] h = refl
none_offered unit (offer ∷ offers) h =
    let here : same_unit unit offer.unit ≡ false = flip unit offer.unit (h 0 offer (omega arith)) in
    let rest : has_offer unit offers ≡ false = none_offered unit offers (λ k d less. h (suc k) d (omega (arith, less))) in
    rw here rest

-- the numbers of frames among the keys
pub counted : (unit : UnitId) (n : ℕ) (ss : List Station) → map port_key (with_frames unit n ss) ≡ with_count unit (Some n) (map port_key ss)
counted unit n [] = refl
counted unit n (s ∷ ss) =
    by_bool (same_unit (unit_of s) unit) (map port_key (with_frames unit n (s ∷ ss)) ≡ with_count unit (Some n) (map port_key (s ∷ ss)))
    (λ e. at_head e)
    (λ e. at_tail e (counted unit n ss))
  where
    at_head : same_unit (unit_of s) unit ≡ true → map port_key (with_frames unit n (s ∷ ss)) ≡ with_count unit (Some n) (map port_key (s ∷ ss))
    at_head e = rw e refl

    at_tail : same_unit (unit_of s) unit ≡ false → map port_key (with_frames unit n ss) ≡ with_count unit (Some n) (map port_key ss)
        → map port_key (with_frames unit n (s ∷ ss)) ≡ with_count unit (Some n) (map port_key (s ∷ ss))
    at_tail e rest = rw e (ap (λ l. port_key s ∷ l) rest)

-- the code of a frame to one station is that of its offer's row
one_row : (answer : Deliver) → is_numbered (code_after answer) ≡ true → code_after answer ≡ (if is_done (offered_as answer) then Success else Dropped)
one_row (sent.Done post) e = refl
one_row (sent.Ungranted post fault) e = refl
one_row sent.NoSize e = refl
one_row sent.NoBuffer e = refl
one_row (sent.Turn word) e = absurd (cc (e))
one_row (sent.InUse page word) e = absurd (cc (e))
one_row (sent.Closed control) e = refl
one_row sent.NoMemory e = refl

pub code_is : (unit : UnitId) (number : ℕ) (offers : List Offer) → is_numbered (sent_code offers) ≡ true
    → sent_code offers ≡ one_code (map (offer_row_of unit number) offers)
code_is unit number [] e = refl
code_is unit number (offer ∷ offers) e = one_row offer.answer e

rows_few : (unit : UnitId) (number : ℕ) (offers : List Offer) → length (map (offer_row_of unit number) offers) ≡ length offers
rows_few unit number [] = refl
rows_few unit number (offer ∷ offers) = ap suc (rows_few unit number offers)

rows_others : (unit : UnitId) (number : ℕ) (frame : FrameRow) (offers : List Offer) → frame.unit ≡ unit → frame.number ≡ number
    → All (IsBeside unit) offers → All IsDecided offers → All (IsLawfulOffer frame) (map (offer_row_of unit number) offers)
rows_others unit number frame [] e f h d = All-nil (IsLawfulOffer frame)
rows_others unit number frame (offer ∷ offers) e f h d =
    All-cons (IsLawfulOffer frame) (offer_row_of unit number offer) (map (offer_row_of unit number) offers) (record {
      named = record { unit = sym e; number = sym f };
      other = subst (λ (u : UnitId). same_unit offer.unit u ≡ false) (sym e) (h 0 offer (omega arith));
      decided = d 0 offer (omega arith);
    })
    (rows_others unit number frame offers e f (λ k x less. h (suc k) x (omega (arith, less))) (λ k x less. d (suc k) x (omega (arith, less))))

-- The row of a frame that was answered is lawful.
pub row_lawful : (old new : List Station) (unit : UnitId) (number : ℕ) (pieces : List Piece) (frame : List ℕ) (windows : LanWindows) (r : SendRecord)
    → (h : AnswersFrame old new (record { who = unit; mark = number }) pieces frame windows r) → is_numbered r.code ≡ true
    → r.bytes ≡ frame → windows.is_shared ≡ false → IsLawfulFrame unit number (frame_row_of unit number r)
row_lawful old new unit number pieces frame windows r h numbered bytes plain =
    let row = frame_row_of unit number r in
    let to_is : to_of row ≡ sent_to frame = ap (λ b. sent_to b) bytes in
    record {
      unit_is = refl;
      number_is = refl;
      many = λ group.
          h.code
          ∙ all_code h.out.all (h.out.group.1 (subst IsGroup to_is group));
      one = λ single. one_of h.out.all refl (λ e. single (subst IsGroup (sym to_is) (h.out.group.0 e)));
      offers = rows_others unit number row r.offers.items refl refl (offered_others _ h.out.all old h.mid r.offers.items h.out.offered)
          (offered_decided _ h.out.all old h.mid r.offers.items plain h.out.offered);
    }
  where
    all_code : (all : Bool) → IsTrue all → (if all then Success else sent_code r.offers.items) ≡ Success
    all_code true e = refl
    all_code false e = absurd (cc (e))

    one_of : (all : Bool) → h.out.all ≡ all → (IsTrue h.out.all → ⊥) → IsSingle (frame_row_of unit number r)
    one_of true e not = absurd (not e)
    one_of false e not =
        let code : r.code ≡ sent_code r.offers.items = h.code ∙ ap (λ b. if b then Success else sent_code r.offers.items) e in
        record {
          few = subst (λ n. n ≤ 1) (sym (rows_few unit number r.offers.items))
              (offered_few _ old h.mid r.offers.items (subst (λ b. AreOffered (offering (record { who = unit; mark = number }) frame windows) b old h.mid r.offers.items) e h.out.offered));
          code_is = code ∙ code_is unit number r.offers.items (ap is_numbered (sym code) ∙ numbered);
        }
