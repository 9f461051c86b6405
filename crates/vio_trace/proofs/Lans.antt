-- The rows of what LAN ports do: each row's text can be cut off in one way alone, a frame's where no offer follows.
use Rattle.std.proofs.Common.{◌≡◌, ◌≤◌, ℕ, List, [], ◌∷◌, ◌++◌, length, slice_index, codes, decimal, refl, sym, ap, ◌∙◌, append_assoc, arith, rules, ◌==◌, if◌then◌else◌}
use Rattle.std.specs.List.{flat_map}
use Rattle.vio_num.specs.declared.names.UnitId.{UnitId}
use Rattle.vio_num.specs.declared.hypervisor.Hrc.{Hrc}
use Rattle.vio_trace.specs.declared.lan_rows.FrameRow.{FrameRow}
use Rattle.vio_trace.specs.declared.lan_rows.OfferRow.{OfferRow}
use Rattle.vio_trace.specs.declared.lan_rows.Offered.{Offered}
use Rattle.vio_trace.specs.declared.lan_rows.Offered.TheVariants as offers
use Rattle.vio_trace.specs.declared.lan_rows.PortRow.{PortRow}
use Rattle.vio_trace.specs.declared.lan_rows.PostRow.{PostRow}
use Rattle.vio_trace.specs.declared.lan_rows.DeliverRow.{DeliverRow}
use Rattle.vio_trace.specs.declared.lan_rows.Filled.{Filled}
use Rattle.vio_trace.specs.declared.lan_rows.Filled.TheVariants as fills
use Rattle.vio_trace.specs.declared.lan_rows.HarvestRow.{HarvestRow}
use Rattle.vio_trace.specs.declared.window_rows.PieceRow.{PieceRow}
use Rattle.vio_trace.specs.Form.{IsPieceRow, IsFrameLine, IsFrameRow, IsOfferRow, IsPortRow, IsPostRow, IsDeliverLine, IsDeliverRow, IsHarvestRow}
use Rattle.vio_trace.specs.Text.{name, digits, bytes, code, offered, filled, piece_text, frame_line, frame_text, offer_text, port_text, post_text, deliver_line, deliver_text, harvest_text}
use Rattle.vio_trace.proofs.Cuts.{Above, ArePlain, IsCut, IsCutBefore, line_row, line_cut, counted_cut, kind_cut}
use Rattle.vio_trace.proofs.Spelled.{plain_decimal, plain_name, name_tells, plain_digits, digits_tell, plain_bytes, bytes_tell, plain_code, uncode, from_code}
use Rattle.vio_trace.proofs.RowsTold.{word_of, told, half_is_word}
use Rattle.vio_trace.proofs.Windows.{piece_cut}

-- what became of a frame, and of a buffer

pub plain_offered : (o : Offered) → Above 32 (offered o)
plain_offered offers.Done = search (rules, arith)
plain_offered offers.Ungranted = search (rules, arith)
plain_offered offers.NoSize = search (rules, arith)
plain_offered offers.NoBuffer = search (rules, arith)
plain_offered offers.Turn = search (rules, arith)
plain_offered offers.InUse = search (rules, arith)
plain_offered offers.Closed = search (rules, arith)

-- what became of a frame, by a word's letters
abbrev offered_of : List ℕ → Offered
offered_of word =
    if slice_index word 0 == 100 then offers.Done
    else if slice_index word 0 == 117 then offers.Ungranted
    else if slice_index word 0 == 116 then offers.Turn
    else if slice_index word 0 == 105 then offers.InUse
    else if slice_index word 0 == 99 then offers.Closed
    else if slice_index word 2 == 115 then offers.NoSize
    else offers.NoBuffer

offered_back : (o : Offered) → offered_of (offered o) ≡ o
offered_back offers.Done = refl
offered_back offers.Ungranted = refl
offered_back offers.NoSize = refl
offered_back offers.NoBuffer = refl
offered_back offers.Turn = refl
offered_back offers.InUse = refl
offered_back offers.Closed = refl

pub offered_tells : (a b : Offered) → offered a ≡ offered b → a ≡ b
offered_tells a b e = sym (offered_back a) ∙ ap offered_of e ∙ offered_back b

pub plain_filled : (f : Filled) → Above 32 (filled f)
plain_filled fills.Frame = search (rules, arith)
plain_filled fills.Blank = search (rules, arith)

abbrev filled_of : List ℕ → Filled
filled_of word = if slice_index word 0 == 102 then fills.Frame else fills.Blank

filled_back : (f : Filled) → filled_of (filled f) ≡ f
filled_back fills.Frame = refl
filled_back fills.Blank = refl

pub filled_tells : (a b : Filled) → filled a ≡ filled b → a ≡ b
filled_tells a b e = sym (filled_back a) ∙ ap filled_of e ∙ filled_back b

pub code_tells : (a b : Hrc) → code a ≡ code b → a ≡ b
code_tells a b e = sym (from_code a) ∙ ap uncode e ∙ from_code b

-- offers

abbrev offer_row : UnitId → ℕ → UnitId → Offered → OfferRow
offer_row a b c d = record { unit = a; number = b; port = c; offered = d }

offer_parts : (a az : UnitId) (b bz : ℕ) (c cz : UnitId) (d dz : Offered)
    → a ≡ az → b ≡ bz → c ≡ cz → d ≡ dz
    → offer_row a b c d ≡ offer_row az bz cz dz
offer_parts a az b bz c cz d dz e0 e1 e2 e3 = rw (e0, e1, e2, e3) refl

offer_from : (x y : OfferRow) → x.unit ≡ y.unit → x.number ≡ y.number → x.port ≡ y.port → x.offered ≡ y.offered → x ≡ y
offer_from x y = offer_parts x.unit y.unit x.number y.number x.port y.port x.offered y.offered

pub offer_cut : IsCut offer_text IsOfferRow
offer_cut = line_row (λ row. codes "offer") (λ row. name row.unit ∷ decimal row.number ∷ name row.port ∷ offered row.offered ∷ []) IsOfferRow
    (λ a h. (search (rules, arith), (plain_name a.unit h.unit, (plain_decimal a.number h.number, (plain_name a.port h.port, (plain_offered a.offered, tt))))))
    (λ a b h k e f. offer_from a b
    (name_tells a.unit b.unit h.unit k.unit (word_of 0 _ _ f))
    (told 1 a.number b.number _ _ h.number k.number f refl refl)
    (name_tells a.port b.port h.port k.port (word_of 2 _ _ f))
    (offered_tells a.offered b.offered (word_of 3 _ _ f)))

-- sessions of ports

abbrev port_row : UnitId → ℕ → ℕ → ℕ → PortRow
port_row a b c d = record { unit = a; session = b; slots = c; drops = d }

port_parts : (a az : UnitId) (b bz : ℕ) (c cz : ℕ) (d dz : ℕ)
    → a ≡ az → b ≡ bz → c ≡ cz → d ≡ dz
    → port_row a b c d ≡ port_row az bz cz dz
port_parts a az b bz c cz d dz e0 e1 e2 e3 = rw (e0, e1, e2, e3) refl

port_from : (x y : PortRow) → x.unit ≡ y.unit → x.session ≡ y.session → x.slots ≡ y.slots → x.drops ≡ y.drops → x ≡ y
port_from x y = port_parts x.unit y.unit x.session y.session x.slots y.slots x.drops y.drops

pub port_cut : IsCut port_text IsPortRow
port_cut = line_row (λ row. codes "port") (λ row. name row.unit ∷ decimal row.session ∷ decimal row.slots ∷ decimal row.drops ∷ []) IsPortRow
    (λ a h. (search (rules, arith), (plain_name a.unit h.unit, (plain_decimal a.session h.session, (plain_decimal a.slots (half_is_word a.slots h.slots), (plain_decimal a.drops h.drops, tt))))))
    (λ a b h k e f. port_from a b
    (name_tells a.unit b.unit h.unit k.unit (word_of 0 _ _ f))
    (told 1 a.session b.session _ _ h.session k.session f refl refl)
    (told 2 a.slots b.slots _ _ (half_is_word a.slots h.slots) (half_is_word b.slots k.slots) f refl refl)
    (told 3 a.drops b.drops _ _ h.drops k.drops f refl refl))

-- posted buffers

abbrev post_row : UnitId → ℕ → ℕ → ℕ → ℕ → PostRow
post_row a b c d e = record { unit = a; session = b; number = c; descriptor = d; correlator = e }

post_parts : (a az : UnitId) (b bz : ℕ) (c cz : ℕ) (d dz : ℕ) (e ez : ℕ)
    → a ≡ az → b ≡ bz → c ≡ cz → d ≡ dz → e ≡ ez
    → post_row a b c d e ≡ post_row az bz cz dz ez
post_parts a az b bz c cz d dz e ez e0 e1 e2 e3 e4 = rw (e0, e1, e2, e3, e4) refl

post_from : (x y : PostRow) → x.unit ≡ y.unit → x.session ≡ y.session → x.number ≡ y.number → x.descriptor ≡ y.descriptor → x.correlator ≡ y.correlator → x ≡ y
post_from x y = post_parts x.unit y.unit x.session y.session x.number y.number x.descriptor y.descriptor x.correlator y.correlator

pub post_cut : IsCut post_text IsPostRow
post_cut = line_row (λ row. codes "post") (λ row. name row.unit ∷ decimal row.session ∷ decimal row.number ∷ digits row.descriptor ∷ digits row.correlator ∷ []) IsPostRow
    (λ a h. (search (rules, arith), (plain_name a.unit h.unit, (plain_decimal a.session h.session, (plain_decimal a.number h.number, (plain_digits a.descriptor, (plain_digits a.correlator, tt)))))))
    (λ a b h k e f. post_from a b
    (name_tells a.unit b.unit h.unit k.unit (word_of 0 _ _ f))
    (told 1 a.session b.session _ _ h.session k.session f refl refl)
    (told 2 a.number b.number _ _ h.number k.number f refl refl)
    (digits_tell a.descriptor b.descriptor h.descriptor k.descriptor (word_of 3 _ _ f))
    (digits_tell a.correlator b.correlator h.correlator k.correlator (word_of 4 _ _ f)))

-- receive entries

abbrev harvest_row : UnitId → ℕ → ℕ → ℕ → HarvestRow
harvest_row a b c d = record { unit = a; session = b; high = c; low = d }

harvest_parts : (a az : UnitId) (b bz : ℕ) (c cz : ℕ) (d dz : ℕ)
    → a ≡ az → b ≡ bz → c ≡ cz → d ≡ dz
    → harvest_row a b c d ≡ harvest_row az bz cz dz
harvest_parts a az b bz c cz d dz e0 e1 e2 e3 = rw (e0, e1, e2, e3) refl

harvest_from : (x y : HarvestRow) → x.unit ≡ y.unit → x.session ≡ y.session → x.high ≡ y.high → x.low ≡ y.low → x ≡ y
harvest_from x y = harvest_parts x.unit y.unit x.session y.session x.high y.high x.low y.low

pub harvest_cut : IsCut harvest_text IsHarvestRow
harvest_cut = line_row (λ row. codes "harvest") (λ row. name row.unit ∷ decimal row.session ∷ digits row.high ∷ digits row.low ∷ []) IsHarvestRow
    (λ a h. (search (rules, arith), (plain_name a.unit h.unit, (plain_decimal a.session h.session, (plain_digits a.high, (plain_digits a.low, tt))))))
    (λ a b h k e f. harvest_from a b
    (name_tells a.unit b.unit h.unit k.unit (word_of 0 _ _ f))
    (told 1 a.session b.session _ _ h.session k.session f refl refl)
    (digits_tell a.high b.high h.high k.high (word_of 2 _ _ f))
    (digits_tell a.low b.low h.low k.low (word_of 3 _ _ f)))

-- deliveries

-- what the first line of a deliver row tells
pub record SameDeliverLine (a b : DeliverRow) (xs ys : List ℕ) : Type 0 where
  pub unit : a.unit ≡ b.unit
  pub session : a.session ≡ b.session
  pub post : a.post ≡ b.post
  pub sender : a.sender ≡ b.sender
  pub frame : a.frame ≡ b.frame
  pub filled : a.filled ≡ b.filled
  pub to : length a.to ≡ length b.to
  pub rest : xs ≡ ys

abbrev pub deliver_words : DeliverRow → List (List ℕ)
deliver_words row = name row.unit ∷ decimal row.session ∷ decimal row.post ∷ name row.sender ∷ decimal row.frame ∷ filled row.filled ∷ decimal (length row.to) ∷ []

pub deliver_plain : (a : DeliverRow) → IsDeliverLine a → ArePlain (codes "deliver" ∷ deliver_words a)
deliver_plain a h = (search (rules, arith), (plain_name a.unit h.unit, (plain_decimal a.session h.session, (plain_decimal a.post h.post, (plain_name a.sender h.sender, (plain_decimal a.frame h.frame, (plain_filled a.filled, (plain_decimal (length a.to) h.to, tt))))))))

deliver_line_cut : (a b : DeliverRow) (xs ys : List ℕ) → IsDeliverLine a → IsDeliverLine b → deliver_line a ++ xs ≡ deliver_line b ++ ys → SameDeliverLine a b xs ys
deliver_line_cut a b xs ys h k e =
    let s = line_cut (codes "deliver") (deliver_words a) (codes "deliver") (deliver_words b) xs ys (deliver_plain a h) (deliver_plain b k) e in
    record {
      unit = name_tells a.unit b.unit h.unit k.unit (word_of 0 _ _ s.words);
      session = told 1 a.session b.session _ _ h.session k.session s.words refl refl;
      post = told 2 a.post b.post _ _ h.post k.post s.words refl refl;
      sender = name_tells a.sender b.sender h.sender k.sender (word_of 3 _ _ s.words);
      frame = told 4 a.frame b.frame _ _ h.frame k.frame s.words refl refl;
      filled = filled_tells a.filled b.filled (word_of 5 _ _ s.words);
      to = told 6 (length a.to) (length b.to) _ _ h.to k.to s.words refl refl;
      rest = s.rest;
    }

abbrev deliver_row : UnitId → ℕ → ℕ → UnitId → ℕ → Filled → List PieceRow → DeliverRow
deliver_row a b c d e f g = record { unit = a; session = b; post = c; sender = d; frame = e; filled = f; to = g }

deliver_parts : (a az : UnitId) (b bz : ℕ) (c cz : ℕ) (d dz : UnitId) (e ez : ℕ) (f fz : Filled) (g gz : List PieceRow)
    → a ≡ az → b ≡ bz → c ≡ cz → d ≡ dz → e ≡ ez → f ≡ fz → g ≡ gz
    → deliver_row a b c d e f g ≡ deliver_row az bz cz dz ez fz gz
deliver_parts a az b bz c cz d dz e ez f fz g gz e0 e1 e2 e3 e4 e5 e6 = rw (e0, e1, e2, e3, e4, e5, e6) refl

deliver_from : (x y : DeliverRow) → x.unit ≡ y.unit → x.session ≡ y.session → x.post ≡ y.post → x.sender ≡ y.sender → x.frame ≡ y.frame → x.filled ≡ y.filled → x.to ≡ y.to → x ≡ y
deliver_from x y = deliver_parts x.unit y.unit x.session y.session x.post y.post x.sender y.sender x.frame y.frame x.filled y.filled x.to y.to

pub deliver_cut : IsCut deliver_text IsDeliverRow
deliver_cut a b xs ys h k e =
    let to : IsCut (piece_text (codes "to")) IsPieceRow = piece_cut (codes "to") (search (rules, arith)) in
    let s = deliver_line_cut a b _ _ h.line k.line
    (sym (append_assoc (deliver_line a) (flat_map (piece_text (codes "to")) a.to) xs) ∙ e ∙ append_assoc (deliver_line b) (flat_map (piece_text (codes "to")) b.to) ys) in
    let t = counted_cut (piece_text (codes "to")) IsPieceRow to a.to b.to _ _ h.to k.to s.to s.rest in
    record { row = deliver_from a b s.unit s.session s.post s.sender s.frame s.filled t.row; rest = t.rest }

-- frames

-- what the first line of a frame row tells
pub record SameFrameLine (a b : FrameRow) (xs ys : List ℕ) : Type 0 where
  pub unit : a.unit ≡ b.unit
  pub number : a.number ≡ b.number
  pub code : a.code ≡ b.code
  pub from : length a.from ≡ length b.from
  pub bytes : a.bytes ≡ b.bytes
  pub rest : xs ≡ ys

abbrev pub frame_words : FrameRow → List (List ℕ)
frame_words row = name row.unit ∷ decimal row.number ∷ code row.code ∷ decimal (length row.from) ∷ bytes row.bytes ∷ []

pub frame_plain : (a : FrameRow) → IsFrameLine a → ArePlain (codes "frame" ∷ frame_words a)
frame_plain a h = (search (rules, arith), (plain_name a.unit h.unit, (plain_decimal a.number h.number, (plain_code a.code, (plain_decimal (length a.from) h.from, (plain_bytes a.bytes h.bytes, tt))))))

pub frame_line_cut : (a b : FrameRow) (xs ys : List ℕ) → IsFrameLine a → IsFrameLine b → frame_line a ++ xs ≡ frame_line b ++ ys → SameFrameLine a b xs ys
frame_line_cut a b xs ys h k e =
    let s = line_cut (codes "frame") (frame_words a) (codes "frame") (frame_words b) xs ys (frame_plain a h) (frame_plain b k) e in
    record {
      unit = name_tells a.unit b.unit h.unit k.unit (word_of 0 _ _ s.words);
      number = told 1 a.number b.number _ _ h.number k.number s.words refl refl;
      code = code_tells a.code b.code (word_of 2 _ _ s.words);
      from = told 3 (length a.from) (length b.from) _ _ h.from k.from s.words refl refl;
      bytes = bytes_tell a.bytes b.bytes h.bytes k.bytes (word_of 4 _ _ s.words);
      rest = s.rest;
    }

abbrev frame_row : UnitId → ℕ → Hrc → List PieceRow → List ℕ → List OfferRow → FrameRow
frame_row a b c d e f = record { unit = a; number = b; code = c; from = d; bytes = e; offers = f }

frame_parts : (a az : UnitId) (b bz : ℕ) (c cz : Hrc) (d dz : List PieceRow) (e ez : List ℕ) (f fz : List OfferRow)
    → a ≡ az → b ≡ bz → c ≡ cz → d ≡ dz → e ≡ ez → f ≡ fz
    → frame_row a b c d e f ≡ frame_row az bz cz dz ez fz
frame_parts a az b bz c cz d dz e ez f fz e0 e1 e2 e3 e4 e5 = rw (e0, e1, e2, e3, e4, e5) refl

pub frame_from : (x y : FrameRow) → x.unit ≡ y.unit → x.number ≡ y.number → x.code ≡ y.code → x.from ≡ y.from → x.bytes ≡ y.bytes → x.offers ≡ y.offers → x ≡ y
frame_from x y = frame_parts x.unit y.unit x.number y.number x.code y.code x.from y.from x.bytes y.bytes x.offers y.offers

pub frame_apart : (row : FrameRow) (xs : List ℕ) → frame_text row ++ xs
    ≡ frame_line row ++ (flat_map (piece_text (codes "from")) row.from ++ (flat_map offer_text row.offers ++ xs))
frame_apart row xs = simp append_assoc

-- a frame's text, where what follows is of a kind above that of offers, which is 0
pub frame_cut : (kind : List ℕ → ℕ) (k : ℕ) → 1 ≤ k → ((o : OfferRow) (xs : List ℕ) → kind (offer_text o ++ xs) ≡ 0)
    → IsCutBefore frame_text IsFrameRow kind k
frame_cut kind n some is a b xs ys h k p q e =
    let from : IsCut (piece_text (codes "from")) IsPieceRow = piece_cut (codes "from") (search (rules, arith)) in
    let s = frame_line_cut a b _ _ h.line k.line (sym (frame_apart a xs) ∙ e ∙ frame_apart b ys) in
    let t = counted_cut (piece_text (codes "from")) IsPieceRow from a.from b.from _ _ h.from k.from s.from s.rest in
    let u = kind_cut offer_text IsOfferRow kind 0 offer_cut is a.offers b.offers xs ys h.offers k.offers (omega (arith, some, p)) (omega (arith, some, q)) t.rest in
    record { row = frame_from a b s.unit s.number s.code t.row s.bytes u.row; rest = u.rest }
