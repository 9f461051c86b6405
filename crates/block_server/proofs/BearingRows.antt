-- What becomes of the row whose data-in are copied, and of the rows as their answers are put.
use Rattle.std.proofs.Common.{◌≡◌, ◌⊎◌, inl, inr, ℕ, zero, suc, List, [], ◌∷◌, Option, Some, None, Result, Ok, Err, OnOk, length, ◌++◌, refl, sym, ◌∙◌, ap, ap₂, slice_get, slice_set, subst, take}
use Rattle.page_slots.specs.declared.stroke.StrokeName.{StrokeName}
use Rattle.srp_iu.specs.declared.buffer.Desc.{Desc}
use Rattle.block_disk.specs.declared.reply.ScsiReply.{ScsiReply}
use Rattle.vio_num.specs.declared.history.Served.{Served}
use Rattle.vio_num.specs.declared.memory.NoMemory.{NoMemory}
use Rattle.block_server.specs.Bearing.{BearsIn, HasGiven, IsDataPart}
use Rattle.block_server.specs.Cargo.{AreShown}
use Rattle.block_server.specs.Owed.{row_in}
use Rattle.block_server.specs.Parts.{IsPlacedAt}
use Rattle.block_server.specs.Ranges.{Known}
use Rattle.block_server.specs.Records.{FillsRow}
use Rattle.block_server.specs.declared.cursor.Cursor.{Cursor}
use Rattle.block_server.specs.declared.data_pieces.DataPieces.{DataPieces}
use Rattle.block_server.specs.declared.service.Outcome.{Outcome}
use Rattle.block_server.specs.declared.service.Stage.{Stage}
use Rattle.block_server.specs.declared.service.Stage.TheVariants as stages
use Rattle.block_server.proofs.BearingParts.{cursor_same, place_same, row_borne}
use Rattle.block_server.proofs.Hands.{first_placed}
use Rattle.block_server.proofs.LastRows.{last_there}

-- a row that was set is there
pub set_there : (rows : List Served) (place : ℕ) (row new : Served) → slice_get rows place ≡ Some row → slice_get (slice_set rows place new) place ≡ Some new
set_there [] place row new there = absurd (cc (there))
set_there (first ∷ rows) zero row new there = refl
set_there (first ∷ rows) (suc place) row new there = set_there rows place row new there

-- DATA-IN ----------------------------------------------------------------------------------------

-- the row has those of its data-in that were copied
pub cut_row : (stage : Stage) (row : ℕ) (reply : ScsiReply) (cursor : Cursor) (given inn : List ℕ) (rows rows' : List Served) → stage ≡ stages.DataIn row reply cursor
    → inn ≡ take cursor.done given → FillsRow rows rows' row inn → (row' : ℕ) (reply' : ScsiReply) (cursor' : Cursor) → stage ≡ stages.DataIn row' reply' cursor'
    → (before : Served) → slice_get rows row' ≡ Some before → (after : Served) × (slice_get rows' row' ≡ Some after) × (after.inn ≡ take cursor'.done given)
cut_row stage row reply cursor given inn rows rows' at cut fills row' reply' cursor' is before there = (
  filled,
  subst (λ (n : ℕ). slice_get rows' n ≡ Some filled) places (ap (λ (list : List Served). slice_get list row) (fills before here) ∙ set_there rows row before filled here),
  cut ∙ ap (λ (c : Cursor). take c.done given) (cursor_same row row' reply reply' cursor cursor' (sym at ∙ is)),
)
  where
    filled : Served
    filled = record before { inn = inn }

    places : row ≡ row'
    places = place_same row row' reply reply' cursor cursor' (sym at ∙ is)

    here : slice_get rows row ≡ Some before
    here = subst (λ (n : ℕ). slice_get rows n ≡ Some before) (sym places) there

pub any_cut : {A : Type 0} (result : Result A NoMemory) (rows : List Served) (row : ℕ) (before : Served) (part : List ℕ)
    → OnOk result ((after : Served) × (slice_get rows row ≡ Some after) × (after.inn ≡ part))
    → OnOk result ((after : Served) × (slice_get rows row ≡ Some after) × ((after.inn ≡ before.inn) ⊎ (after.inn ≡ part)))
any_cut (Ok done) rows row before part is = (is.0, is.1, inr is.2)
any_cut (Err memory) rows row before part is = tt

pub any_whole : {A : Type 0} (result : Result A NoMemory) (rows : List Served) (row : ℕ) (before : Served) (part : List ℕ) → slice_get rows row ≡ Some before
    → OnOk result ((after : Served) × (slice_get rows row ≡ Some after) × ((after.inn ≡ before.inn) ⊎ (after.inn ≡ part)))
any_whole (Ok done) rows row before part there = (before, there, inl refl)
any_whole (Err memory) rows row before part there = tt

either_of : (inn given given' all : List ℕ) (n : ℕ) → all ≡ given → given' ≡ given → (inn ≡ all) ⊎ (inn ≡ take n given') → (inn ≡ given) ⊎ (inn ≡ take n given)
either_of inn given given' all n same kept (inl is) = inl (is ∙ same)
either_of inn given given' all n same kept (inr is) = inr (is ∙ ap (take n) kept)

-- the data-in of a row were copied, as far as they come
pub hand_borne : {A : Type 0} (result : Result A NoMemory) (name : StrokeName) (list : List Desc) (given given' : List ℕ) (stage : Stage) (row : ℕ) (reply : ScsiReply) (start end : Cursor)
    → (rows rows' : List Served) (old new : Option Known) → stage ≡ stages.DataIn row reply start → given' ≡ given
    → (IsPlacedAt list start → BearsIn (IsDataPart name list (take end.done given)) old new)
    → ((before : Served) → slice_get rows row ≡ Some before
    → OnOk result ((after : Served) × (slice_get rows' row ≡ Some after) × ((after.inn ≡ before.inn) ⊎ (after.inn ≡ take end.done given'))))
    → (row' : ℕ) (reply' : ScsiReply) (cursor : Cursor) → stage ≡ stages.DataIn row' reply' cursor → IsPlacedAt list cursor → (before : Served) → slice_get rows row' ≡ Some before
    → before.inn ≡ given → OnOk result ((after : Served) × (slice_get rows' row' ≡ Some after) × BearsIn (IsDataPart name list after.inn) old new)
hand_borne (Err memory) name list given given' stage row reply start end rows rows' old new at kept bears cut row' reply' cursor is placed before there all = tt
hand_borne (Ok done) name list given given' stage row reply start end rows rows' old new at kept bears cut row' reply' cursor is placed before there all = (
  found.0,
  subst (λ (n : ℕ). slice_get rows' n ≡ Some found.0) places found.1,
  row_borne name list given found.0.inn end.done old new (either_of found.0.inn given given' before.inn end.done all kept found.2)
      (bears (subst (IsPlacedAt list) (sym (cursor_same row row' reply reply' start cursor (sym at ∙ is))) placed)),
)
  where
    places : row ≡ row'
    places = place_same row row' reply reply' start cursor (sym at ∙ is)

    found : (after : Served) × (slice_get rows' row ≡ Some after) × ((after.inn ≡ before.inn) ⊎ (after.inn ≡ take end.done given'))
    found = cut before (subst (λ (n : ℕ). slice_get rows n ≡ Some before) (sym places) there)

-- BEFORE THEY ARE COPIED -------------------------------------------------------------------------

-- nothing was copied yet
start_placed : (list : List Desc) (cursor : Cursor) → cursor ≡ record { piece = 0; inside = 0; done = 0 } → IsPlacedAt list cursor
start_placed list cursor is = subst (IsPlacedAt list) (sym is) (first_placed list)

-- they were written to the data's pages
pub stored_at : (stage : Stage) (row : ℕ) (reply : ScsiReply) (cursor : Cursor) (inn : DataPieces) (given : List ℕ) (shown : ℕ → ℕ) → stage ≡ stages.Given row reply
    → cursor ≡ record { piece = 0; inside = 0; done = 0 } → AreShown shown given → (row' : ℕ) (reply' : ScsiReply) → stage ≡ stages.Given row' reply'
    → (at : Cursor) × (stages.DataIn row reply cursor ≡ stages.DataIn row' reply' at) × IsPlacedAt inn.list.items at × AreShown shown given × (given ≡ given) × (inn ≡ inn)
stored_at stage row reply cursor inn given shown at starts are row' reply' is = (
  cursor,
  ap₂ (λ (n : ℕ) (r : ScsiReply). stages.DataIn n r cursor) (row_is (sym at ∙ is)) (reply_is (sym at ∙ is)),
  start_placed inn.list.items cursor starts,
  are,
  refl,
  refl,
)
  where
    row_is : stages.Given row reply ≡ stages.Given row' reply' → row ≡ row'
    row_is same = cc (same)

    reply_is : stages.Given row reply ≡ stages.Given row' reply' → reply ≡ reply'
    reply_is same = cc (same)

-- while no row is in service, none has them
pub no_given : (stage : Stage) (given : List ℕ) (rows : List Served) → row_in stage ≡ None → HasGiven stage given rows
no_given stages.Start given rows none = tt
no_given stages.OutTable given rows none = tt
no_given stages.InTable given rows none = tt
no_given (stages.DataOut cursor) given rows none = tt
no_given (stages.Given row reply) given rows none = absurd (cc (none))
no_given (stages.DataIn row reply cursor) given rows none = absurd (cc (none))
no_given (stages.Answer outcome) given rows none = tt
no_given (stages.Entry outcome) given rows none = tt

pub answer_given : (stage : Stage) (outcome : Outcome) (given : List ℕ) (rows : List Served) → stage ≡ stages.Answer outcome → HasGiven stage given rows
answer_given stage outcome given rows is = subst (λ (s : Stage). HasGiven s given rows) (sym is) tt

-- the row that was added has them
pub given_added : (rows rows' : List Served) (row : Served) (place : ℕ) (given : List ℕ) → place ≡ length rows → rows' ≡ rows ++ row ∷ [] → row.inn ≡ given
    → (found : Served) × (slice_get rows' place ≡ Some found) × (found.inn ≡ given)
given_added rows rows' row place given at added has = (row, (λ i. slice_get (added i) (at i)) ∙ last_there rows row, has)
