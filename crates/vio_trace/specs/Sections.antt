-- The sections of a trace's text: to which a line belongs, and what rows a section has.
use Rattle.std.specs.Prelude.{ℕ, ◌≡◌, ◌<◌, ◌==◌, ◌++◌, List, All, flat_map, slice_index, if◌then◌else◌}
use Rattle.vio_num.specs.declared.names.UnitId.{UnitId}
use Rattle.vio_trace.specs.declared.lan_rows.OfferRow.{OfferRow}
use Rattle.vio_trace.specs.declared.lan_rows.FrameRow.{FrameRow}
use Rattle.vio_trace.specs.Form.{Ascend, IsOfferRow}
use Rattle.vio_trace.specs.Text.{offer_text}

-- the section of a line, by its letters; an offer, which stands below a frame, is of none
abbrev pub section : List ℕ → ℕ
section text =
    if slice_index text 0 == 111 then 0
    else if slice_index text 0 == 101 then 14
    else if slice_index text 1 == 116 then 13
    else if slice_index text 0 == 99 then 12
    else if slice_index text 0 == 116 then 11
    else if slice_index text 0 == 104 then 10
    else if slice_index text 0 == 100 then 9
    else if slice_index text 0 == 112 then (if slice_index text 2 == 115 then 8 else 7)
    else if slice_index text 0 == 102 then 6
    else if slice_index text 0 == 97 then 5
    else if slice_index text 0 == 115 then 4
    else if slice_index text 0 == 103 then 3
    else if slice_index text 0 == 113 then 2
    else if slice_index text 1 == 97 then 3
    else 1

-- anything may stand behind a row
abbrev pub AnyBehind : {Row : Type 0} → Row → List ℕ → Type 0
AnyBehind row rest = Unit {0}

-- the bytes begin with no offer that names this frame
abbrev pub NoOfferOf : UnitId → ℕ → List ℕ → Type 0
NoOfferOf unit number bytes = (offer : OfferRow) (more : List ℕ) → IsOfferRow offer
    → (offer.unit ≡ unit) → (offer.number ≡ number) → ¬ (bytes ≡ offer_text offer ++ more)

-- no offer of the frame stands behind it
abbrev pub NoOfferBehind : FrameRow → List ℕ → Type 0
NoOfferBehind frame rest = NoOfferOf frame.unit frame.number rest

-- What the texts of the rows of a section keep: a row and what is behind it can be told apart in one way alone; a row may stand
-- behind a row, and a later section may; a row's text begins a line of the section.
pub record KeepsApart {Row : Type 0} (text : Row → List ℕ) (in_range named : Row → Type 0) (follows : Row → List ℕ → Type 0) (kind : ℕ) : Type 0 where
  pub cut : (a b : Row) (xs ys : List ℕ) → in_range a → in_range b → named a → named b → follows a xs → follows b ys
      → text a ++ xs ≡ text b ++ ys → (a ≡ b) × (xs ≡ ys)
  pub joins : (a b : Row) (xs : List ℕ) → follows a (text b ++ xs)
  pub ends : (a : Row) (xs : List ℕ) → kind < section xs → follows a xs
  pub begins : (a : Row) (xs : List ℕ) → section (text a ++ xs) ≡ kind

-- the bytes are the rows of a whole section, with a later one behind them
pub record IsSection {Row : Type 0} (text : Row → List ℕ) (in_range named : Row → Type 0) (before : Row → Row → Type 0) (kind : ℕ)
    (rows : List Row) (rest bytes : List ℕ) : Type 0 where
  pub range : All in_range rows
  pub names : All named rows
  pub order : Ascend before rows
  pub later : kind < section rest
  pub whole : bytes ≡ flat_map text rows ++ rest

-- a whole section at the front of the bytes has these rows, and this behind them
abbrev pub OnlySection : {Row : Type 0} → (Row → List ℕ) → (Row → Type 0) → (Row → Type 0) → (Row → Row → Type 0) → ℕ
    → List Row → List ℕ → List ℕ → Type 0
OnlySection {Row} text in_range named before kind rows rest bytes = (others : List Row) (more : List ℕ)
    → IsSection text in_range named before kind others more bytes → (others ≡ rows) × (more ≡ rest)

-- no whole section stands at the front of the bytes
abbrev pub NoSection : {Row : Type 0} → (Row → List ℕ) → (Row → Type 0) → (Row → Type 0) → (Row → Row → Type 0) → ℕ
    → List ℕ → Type 0
NoSection {Row} text in_range named before kind bytes = (others : List Row) (more : List ℕ)
    → ¬ (IsSection text in_range named before kind others more bytes)
