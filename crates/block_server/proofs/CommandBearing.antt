-- What the parts of the service of a command lay: data-in of its row, or nothing.
use Rattle.std.proofs.Common.{◌≡◌, inl, inr, ℕ, false, List, Option, Some, Result, Ok, Err, OnOk, slice_get, refl, sym, ◌∙◌, ap, subst}
use Rattle.vio_num.specs.declared.history.Served.{Served as ServedRow}
use Rattle.vio_num.specs.declared.memory.NoMemory.{NoMemory}
use Rattle.page_slots.specs.declared.stroke.StrokeName.{StrokeName}
use Rattle.block_disk.specs.declared.reply.ScsiReply.{ScsiReply}
use Rattle.srp_iu.specs.declared.buffer.Desc.{Desc}
use Rattle.srp_iu.specs.declared.command.Cmd.{Cmd}
use Rattle.block_server.specs.Bearing.{BearsIn, BearsRow, HasGiven, IsDataPart, IsNamedPart, NamesData}
use Rattle.block_server.specs.Cargo.{AreShown}
use Rattle.block_server.specs.Causes.{Hearing, IsNamed}
use Rattle.block_server.specs.Fetched.{Gathers}
use Rattle.block_server.specs.Owed.{row_in}
use Rattle.block_server.specs.Parts.{IsPlacedAt}
use Rattle.block_server.specs.Ranges.{Known}
use Rattle.block_server.specs.Stage.{is_data_in, is_given}
use Rattle.block_server.specs.declared.cursor.Cursor.{Cursor}
use Rattle.block_server.specs.declared.request.Order.{Order}
use Rattle.block_server.specs.declared.request.Order.TheVariants as orders
use Rattle.block_server.specs.declared.service.Stage.{Stage}
use Rattle.block_server.specs.declared.service.Stage.TheVariants as stages
use Rattle.block_server.proofs.Bearing.{bears_wider}

-- THE PARTS OF A COMMAND'S SERVICE ---------------------------------------------------------------

-- where its data-in are to be copied: where that begins, and the row that has them
pub record IsHandedAt (shown : ℕ → ℕ) (list : List Desc) (given : List ℕ) (rows : List ServedRow) (row : ℕ) (cursor : Cursor) : Type 0 where
  pub placed : IsPlacedAt list cursor
  pub shows : AreShown shown given
  pub before : ServedRow
  pub there : slice_get rows row ≡ Some before
  pub inn_is : before.inn ≡ given

-- at no other stage are they
handed_none : (A : Type 0) (stage now : Stage) (row : ℕ) (reply : ScsiReply) (cursor : Cursor) → now ≡ stage → is_data_in stage ≡ false → now ≡ stages.DataIn row reply cursor → A
handed_none A stage now row reply cursor same not at = absurd (cc (ap is_data_in (sym same ∙ at), not))

same_given : (place row : ℕ) (reply reply' : ScsiReply) (c cursor : Cursor) → stages.DataIn place reply c ≡ stages.DataIn row reply' cursor → (place ≡ row) × (c ≡ cursor)
same_given place row reply reply' c cursor same = (cc (same), cc (same))

pub handed_at : (shown : ℕ → ℕ) (stage now : Stage) (list : List Desc) (given given' : List ℕ) (rows : List ServedRow)
    → HasGiven stage given rows
    → ((row : ℕ) (reply : ScsiReply) → stage ≡ stages.Given row reply → (cursor : Cursor) × (now ≡ stages.DataIn row reply cursor) × IsPlacedAt list cursor × AreShown shown given' × (given' ≡ given))
    → (is_given stage ≡ false → now ≡ stage)
    → (row : ℕ) (reply : ScsiReply) (cursor : Cursor) → now ≡ stages.DataIn row reply cursor → IsHandedAt shown list given' rows row cursor
handed_at shown (stages.Given place reply') now list given given' rows has stored unstored row reply cursor at =
    let to = stored place reply' refl in
    let same = same_given place row reply' reply to.0 cursor (sym to.1 ∙ at) in
    record {
      placed = subst (IsPlacedAt list) same.1 to.2;
      shows = to.3;
      before = has.0;
      there = subst (λ (n : ℕ). slice_get rows n ≡ Some has.0) same.0 has.1;
      inn_is = has.2 ∙ sym to.4;
    }
handed_at shown (stages.DataIn place reply' cursor') now list given given' rows has stored unstored row reply cursor at = absurd has
handed_at shown stages.Start now list given given' rows has stored unstored row reply cursor at = handed_none _ stages.Start now row reply cursor (unstored refl) refl at
handed_at shown stages.OutTable now list given given' rows has stored unstored row reply cursor at = handed_none _ stages.OutTable now row reply cursor (unstored refl) refl at
handed_at shown stages.InTable now list given given' rows has stored unstored row reply cursor at = handed_none _ stages.InTable now row reply cursor (unstored refl) refl at
handed_at shown (stages.DataOut c) now list given given' rows has stored unstored row reply cursor at = handed_none _ (stages.DataOut c) now row reply cursor (unstored refl) refl at
handed_at shown (stages.Answer o) now list given given' rows has stored unstored row reply cursor at = handed_none _ (stages.Answer o) now row reply cursor (unstored refl) refl at
handed_at shown (stages.Entry o) now list given given' rows has stored unstored row reply cursor at = handed_none _ (stages.Entry o) now row reply cursor (unstored refl) refl at

-- none was laid
pub row_unlaid : {A : Type 0} (Hears : Hearing) (name : StrokeName) (order : Order) (rows : List ServedRow) (place : Option ℕ) (old new : Option Known) (result : Result A NoMemory) → new ≡ old
    → OnOk result (BearsRow Hears name order rows place old new)
row_unlaid Hears name order rows place old new (Ok done) same = inl same
row_unlaid Hears name order rows place old new (Err memory) same = tt

-- the data-in that the row has behind it
row_handed : (Hears : Hearing) (name : StrokeName) (command : Cmd) (order : Order) (list : List Desc) (rows : List ServedRow) (row : ℕ) (after : ServedRow) (place : Option ℕ) (old mid new : Option Known)
    → order ≡ orders.Command command → IsNamed Hears command.inn list → mid ≡ old → place ≡ Some row → slice_get rows row ≡ Some after → BearsIn (IsDataPart name list after.inn) mid new
    → BearsRow Hears name order rows place old new
row_handed Hears name command order list rows row after place old mid new asked named same at there bears = inr (
  row,
  after,
  at,
  there,
  subst (λ (known : Option Known). BearsIn (IsNamedPart Hears name order after.inn) known new) same
      (bears_wider (IsDataPart name list after.inn) (IsNamedPart Hears name order after.inn)
      (λ address bytes name' part. record { list = list; named = subst (λ (o : Order). NamesData Hears o list) (sym asked) named; part = part }) mid new bears),
)

-- what the last part of a command's service lays
pub row_bears : {A : Type 0} (Hears : Hearing) (name : StrokeName) (command : Cmd) (order : Order) (stage stage' : Stage) (outs inns : List Desc) (rows : List ServedRow) (old mid new : Option Known)
    (result : Result A NoMemory) → order ≡ orders.Command command → Gathers Hears command stage outs inns → mid ≡ old → row_in stage' ≡ row_in stage
    → (is_data_in stage ≡ false → new ≡ mid)
    → ((row : ℕ) (reply : ScsiReply) (cursor : Cursor) → stage ≡ stages.DataIn row reply cursor
    → OnOk result ((after : ServedRow) × (slice_get rows row ≡ Some after) × BearsIn (IsDataPart name inns after.inn) mid new))
    → OnOk result (BearsRow Hears name order rows (row_in stage') old new)
row_bears Hears name command order stage stage' outs inns rows old mid new (Err memory) asked named same at unlaid bears = tt
row_bears Hears name command order (stages.DataIn row reply cursor) stage' outs inns rows old mid new (Ok done) asked named same at unlaid bears =
    let is = bears row reply cursor refl in
    row_handed Hears name command order inns rows row is.0 (row_in stage') old mid new asked named same at is.1 is.2
row_bears Hears name command order stages.Start stage' outs inns rows old mid new (Ok done) asked named same at unlaid bears = inl (unlaid refl ∙ same)
row_bears Hears name command order stages.OutTable stage' outs inns rows old mid new (Ok done) asked named same at unlaid bears = inl (unlaid refl ∙ same)
row_bears Hears name command order stages.InTable stage' outs inns rows old mid new (Ok done) asked named same at unlaid bears = inl (unlaid refl ∙ same)
row_bears Hears name command order (stages.DataOut c) stage' outs inns rows old mid new (Ok done) asked named same at unlaid bears = inl (unlaid refl ∙ same)
row_bears Hears name command order (stages.Given row reply) stage' outs inns rows old mid new (Ok done) asked named same at unlaid bears = inl (unlaid refl ∙ same)
row_bears Hears name command order (stages.Answer o) stage' outs inns rows old mid new (Ok done) asked named same at unlaid bears = inl (unlaid refl ∙ same)
row_bears Hears name command order (stages.Entry o) stage' outs inns rows old mid new (Ok done) asked named same at unlaid bears = inl (unlaid refl ∙ same)
