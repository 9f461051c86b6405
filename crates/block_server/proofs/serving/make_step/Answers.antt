use Rattle.block_server.specs.Cargo.{Pages}
use Rattle.block_server.proofs.CopyKinds.{pages_show}
use Rattle.std.proofs.Common.{Some, rules, length-take, ap, refl, subst, sym, ◌≡◌, ◌∙◌, ◌++◌, ◌∷◌, [], ℕ, List, length, min, take, arith}
use Rattle.vio_num.specs.declared.history.Served.{Served as ServedRow}
use Rattle.crq_session.specs.EndState.{EndState}
use Rattle.block_server.specs.Answering.{responses}
use Rattle.block_server.specs.declared.service.Stage.TheVariants.{Given}
use Rattle.block_disk.specs.Steps.{made_step}
use Rattle.block_server.specs.Causes.{IsNamed, told_to}
use Rattle.vio_num.specs.declared.names.UnitId.{UnitId}
use Rattle.block_server.specs.Fetched.{Gathers, HasBoth, HasPieces}
use Rattle.block_server.specs.Serving.{AreBrought, HasReply, Terms, held, terms_of}
use Rattle.block_server.specs.Stage.{is_before_step}
use Rattle.block_server.specs.declared.data_pieces.DataPieces.{DataPieces}
use Rattle.block_server.specs.declared.service.Stage.{Stage}
use Rattle.block_server.proofs.Staging.{not_data_out}
use Rattle.block_server.proofs.Stepping.{IsNewRow, has_reply, new_row_serves, stays_stepped, tells_map}
use Rattle.block_server.proofs.Onces.{once_same}
use Rattle.block_server.proofs.Serves.{gathers_of, once_added, once_before, pieces_of}
use Rattle.block_server.proofs.Working.{command_row, one_row, one_same}
use Rattle.block_server.specs.Judged.{has_row, is_command, keys_of}
use Rattle.block_server.proofs.Cargoes.{shown_same}
use Rattle.block_server.proofs.Makings.{made_given}
use Rattle.block_server.proofs.Sendings.{same_out}
use Rattle.block_server.proofs.Hands.{keeps_same}
use Rattle.std.specs.Prelude.{slice_index}
use Rattle.block_server.specs.Standing.{stood}
use Rattle.block_server.proofs.LastRows.{none_added}
use Rattle.block_server.proofs.BearingRows.{given_added, no_given}
use Rattle.block_server.proofs.serving.make_step.Goals as goal

pub returns-in_default-clause-once : goal.returns-in_default-clause-once
returns-in_default-clause-once g c = λ told credits rest serving. once_same _ _ _ _ _ _ refl refl refl _ serving

pub returns-in_err-row-clause-once : goal.returns-in_err-row-clause-once
returns-in_err-row-clause-once g c = λ told credits rest serving. once_same _ _ _ _ _ _ refl c.new_row.ensures.lists.history refl _ serving

pub returns-in_err-out-clause-once : goal.returns-in_err-out-clause-once
returns-in_err-out-clause-once g c = λ told credits rest serving. once_same _ _ _ _ _ _ refl c.new_row.ensures.lists.history refl _ serving

pub returns-in_err-room-clause-once : goal.returns-in_err-room-clause-once
returns-in_err-room-clause-once g c = λ told credits rest serving. once_same _ _ _ _ _ _ refl c.new_row.ensures.lists.history refl _ serving

pub returns-in_err-make_room-clause-once : goal.returns-in_err-make_room-clause-once
returns-in_err-make_room-clause-once g c = λ told credits rest serving.
    let made = c.make_room.ensures in
    once_before _ _ _ _ _ _ _ refl (ap is_before_step (made.stage ∙ c.in-DataOut.is)) refl
    (subst (λ (z : Stage × DataPieces × DataPieces). HasPieces (told_to told c.args.id) z.0 z.1.list.items z.2.list.items (c.args.request.now ∷ rest))
    (λ i. ((sym made.stage) i, (sym made.out) i, (sym made.inn) i)) serving.fetched)
    c.new_row.ensures.lists.history refl serving.brought

pub returns-clause-once : goal.returns-clause-once
returns-clause-once g c = λ told credits rest serving.
    let blank = c.in_ok-row.ensures.row in
    let service = c.args.service.now in
    let request = c.args.request.now in
    let command = c.args.command.now in
    let outs = service.out.list.items in
    let inns = service.inn.list.items in
    let reply = c.execute-reply.result in
    let buffer = c.execute-reply.new.self.given.items in
    let out = c.deref.result.now in
    let given = c.given-given.result.now in
    let both : HasBoth (told_to told c.args.id) command outs inns =
    subst (λ (stage : Stage). Gathers (told_to told c.args.id) command stage outs inns) c.in-DataOut.is (gathers_of _ _ _ _ request rest command c.requires.asked serving.fetched) in
    let size = c.args.disk.now.count in
    let row : ServedRow = record c.in_ok-row.row { out = c.from.result; inn = c.filled.result; fault = reply.fault } in
    let expected = c.named_pieces_sum_up.ensures.sum command.inn both.in_named.table inns both.in_named.named_is in
    let kept : c.keep.new.self.given.items ≡ given = c.keep.ensures.given ∙ ap (λ (xs : List ℕ). xs ++ given) c.make_room.ensures.none in
    let new : IsNewRow (terms_of told size) request command outs inns out given buffer reply row = record {
      order = c.requires.asked;
      both = subst (λ (unit : UnitId). HasBoth (told_to told unit) command outs inns) (sym blank.unit_is) both;
      all_out = ap length c.deref.ensures.value ∙ c.read_out-out.ensures.len ∙ c.in_ok-out.ensures ∙ c.total.ensures.total ∙ sym service.out.summed;
      expected = expected;
      given_is = c.given-given.ensures ∙ ap (λ (n : ℕ). take n buffer) (c.min.ensures ∙ ap (min reply.in_len) (c.total-expected.ensures.total ∙ sym service.inn.summed ∙ expected));
      room = omega (arith, c.execute-reply.ensures.room, c.execute-reply.new.self.room);
      reply_is = c.execute-reply.ensures.reply;
      iu = blank.iu;
      out_is = c.from.ensures ∙ sym c.deref.ensures.value;
      inn_is = c.filled.ensures;
      fault_is = refl;
      blank = blank.answer;
    } in
    let in_named : IsNamed (told_to told c.args.id) command.inn c.keep.new.self.inn.list.items =
    subst (λ (inn : DataPieces). IsNamed (told_to told c.args.id) command.inn inn.list.items) (sym (c.keep.ensures.inn ∙ c.make_room.ensures.inn)) both.in_named in
    let added = c.add_row-row.ensures.history ∙ ap (λ (list : List ServedRow). list ++ row ∷ []) c.new_row.ensures.lists.history in
    once_added (held told size (g.B.Blocks.state c.args.disk.now.image).blocks) (held told c.execute-reply.new.self.count (g.B.Blocks.state c.execute-reply.new.self.image).blocks) _ _ _ _ _ _ request rest row
    (Given (length c.args.records.now.history.items) reply)
    refl refl refl (ap (λ (n : ℕ). Given n reply) (c.add_row-row.ensures.place ∙ ap length c.new_row.ensures.lists.history)) (λ P is. is)
    blank.unit_is blank.iu blank.answer added
    (ap (λ (q : EndState). responses q.sent) c.read_out-out.ensures.queue)
    (ap (terms_of told) c.execute-reply.ensures.count) (pieces_of (told_to told c.args.id) (Given (length c.args.records.now.history.items) reply) c.keep.new.self.out.list.items c.keep.new.self.inn.list.items request rest command c.requires.asked in_named)
    (subst (λ (z : ℕ × List ℕ). HasReply (terms_of told z.0) request z.1 reply row) (λ i. ((sym c.execute-reply.ensures.count) i, (sym kept) i)) (has_reply request command outs inns out given buffer (terms_of told size) reply row new))
    (stays_stepped _ _ _ _ row (made_step command.lun command.cdb out reply buffer) _ (ap (terms_of told) c.execute-reply.ensures.count) c.execute-reply.ensures.step c.execute-reply.ensures.image added
    (new_row_serves request command outs inns out given buffer (terms_of told size) reply row new))
    (tells_map _ _ _ c.execute-reply.ensures.image)
    (subst (λ (t : Terms). AreBrought (told_to t.told c.args.id) (request ∷ rest)) (sym (ap (terms_of told) c.execute-reply.ensures.count)) serving.brought) tt

pub returns-in_default-clause-went : goal.returns-in_default-clause-went
returns-in_default-clause-went g c = λ out. not_data_out _ _ (λ cursor is. c.in_default.not-DataOut cursor is) out

pub returns-in_default-clause-books : goal.returns-in_default-clause-books
returns-in_default-clause-books g c = one_same _ _ _ _ _ _ _ refl refl

pub returns-in_err-row-clause-books : goal.returns-in_err-row-clause-books
returns-in_err-row-clause-books g c = one_same _ _ _ _ _ _ _ refl (ap keys_of c.new_row.ensures.lists.history)

pub returns-in_err-out-clause-books : goal.returns-in_err-out-clause-books
returns-in_err-out-clause-books g c = one_same _ _ _ _ _ _ _ refl (ap keys_of c.new_row.ensures.lists.history)

pub returns-in_err-room-clause-books : goal.returns-in_err-room-clause-books
returns-in_err-room-clause-books g c = one_same _ _ _ _ _ _ _ refl (ap keys_of c.new_row.ensures.lists.history)

pub returns-in_err-make_room-clause-books : goal.returns-in_err-make_room-clause-books
returns-in_err-make_room-clause-books g c = one_same _ _ _ _ _ _ _ c.make_room.ensures.stage (ap keys_of c.new_row.ensures.lists.history)

pub returns-clause-books : goal.returns-clause-books
returns-clause-books g c =
    let blank = c.in_ok-row.ensures.row in
    let row : ServedRow = record c.in_ok-row.row { out = c.from.result; inn = c.filled.result; fault = c.execute-reply.result.fault } in
    one_row _ _ _ _ _ _ _ row (ap has_row c.in-DataOut.is) refl (ap Some (search rules)) blank.answer
    (λ current pending rest parts. record { front = c.args.request.now; rest = rest; parts = parts; asks = ap is_command c.requires.asked })
    (command_row c.args.request.now.order (ap is_command c.requires.asked))
    (c.add_row-row.ensures.history ∙ ap (λ (list : List ServedRow). list ++ row ∷ []) c.new_row.ensures.lists.history)
    blank.unit_is (blank.session_is ∙ c.session.ensures) blank.login blank.number blank.iu

pub returns-in_default-clause-cargo : goal.returns-in_default-clause-cargo
returns-in_default-clause-cargo g c = λ told asked known done hand. hand

pub returns-in_err-row-clause-cargo : goal.returns-in_err-row-clause-cargo
returns-in_err-row-clause-cargo g c = λ told asked known done hand. keeps_same _ _ (shown_same _ _ _ _ _ _ refl c.new_row.ensures.lists.history) told asked hand

pub returns-in_err-out-clause-cargo : goal.returns-in_err-out-clause-cargo
returns-in_err-out-clause-cargo g c = λ told asked known done hand. keeps_same _ _ (shown_same _ _ _ _ _ _ refl c.new_row.ensures.lists.history) told asked hand

pub returns-in_err-room-clause-cargo : goal.returns-in_err-room-clause-cargo
returns-in_err-room-clause-cargo g c = λ told asked known done hand. keeps_same _ _ (shown_same _ _ _ _ _ _ refl c.new_row.ensures.lists.history) told asked hand

pub returns-in_err-make_room-clause-cargo : goal.returns-in_err-make_room-clause-cargo
returns-in_err-make_room-clause-cargo g c = λ told asked known done hand.
    keeps_same _ _ (shown_same _ c.make_room.new.self _ _ _ _ refl c.new_row.ensures.lists.history
    ∙ same_out _ c.args.service.now c.make_room.new.self _ _ c.in-DataOut.field-0 c.in-DataOut.is (c.make_room.ensures.stage ∙ c.in-DataOut.is) c.make_room.ensures.out c.make_room.ensures.inn) told asked hand

pub returns-clause-cargo : goal.returns-clause-cargo
returns-clause-cargo g c = λ told asked known done hand.
    let blank = c.in_ok-row.ensures.row in
    let service = c.args.service.now in
    let command = c.args.command.now in
    let both : HasBoth (told_to told c.args.id) command service.out.list.items service.inn.list.items =
    subst (λ (stage : Stage). Gathers (told_to told c.args.id) command stage service.out.list.items service.inn.list.items) c.in-DataOut.is known in
    let row : ServedRow = record c.in_ok-row.row { out = c.from.result; inn = c.filled.result; fault = c.execute-reply.result.fault } in
    let kept : c.keep.new.self.given.items ≡ c.given-given.result.now = c.keep.ensures.given ∙ ap (λ (xs : List ℕ). xs ++ c.given-given.result.now) c.make_room.ensures.none in
    made_given told asked c.args.id service _ _ _ _ _ row command c.args.request.now (length c.args.records.now.history.items) c.execute-reply.result c.in-DataOut.field-0
    (ap (λ (p : Pages). p.count) c.read_out-out.ensures.data) c.in-DataOut.is done
    (ap (λ (n : ℕ). Given n c.execute-reply.result) (c.add_row-row.ensures.place ∙ ap length c.new_row.ensures.lists.history)) refl
    (c.keep.ensures.inn ∙ c.make_room.ensures.inn) (c.add_row-row.ensures.history ∙ ap (λ (list : List ServedRow). list ++ row ∷ []) c.new_row.ensures.lists.history)
    blank.unit_is (c.filled.ensures ∙ sym kept) blank.iu c.requires.asked both.in_named
    (omega (arith, ap length kept, ap length c.given-given.ensures, length-take c.min.result c.execute-reply.new.self.given.items, c.min.ensures, c.total-expected.ensures.total, service.inn.summed))
    both.out_named
    (ap length c.from.ensures ∙ c.read_out-out.ensures.len ∙ c.in_ok-out.ensures ∙ c.total.ensures.total ∙ sym service.out.summed)
    (λ k less. ap (λ (p : Pages). p.bytes k) (sym c.read_out-out.ensures.data) ∙ pages_show _ _ k ∙ c.read_out-out.ensures.read k (omega (arith, less, ap length c.from.ensures))
    ∙ ap (λ (list : List ℕ). slice_index list k) (sym c.from.ensures)) hand

pub returns-in_default-clause-suits : goal.returns-in_default-clause-suits
returns-in_default-clause-suits g c = λ current old. old

pub returns-clause-suits : goal.returns-clause-suits
returns-clause-suits g c = λ current old. tt

pub returns-in_default-clause-made : goal.returns-in_default-clause-made
returns-in_default-clause-made g c = λ granted old. old

pub returns-clause-made : goal.returns-clause-made
returns-clause-made g c = λ granted old. tt

pub returns-in_default-clause-stood : goal.returns-in_default-clause-stood
returns-in_default-clause-stood g c = λ client known. known

pub returns-clause-stood : goal.returns-clause-stood
returns-clause-stood g c = λ client known.
    let both : HasBoth (stood client) c.args.command.now c.args.service.now.out.list.items c.args.service.now.inn.list.items =
    subst (λ (stage : Stage). Gathers (stood client) c.args.command.now stage c.args.service.now.out.list.items c.args.service.now.inn.list.items) c.in-DataOut.is known in
    subst (λ (inn : DataPieces). IsNamed (stood client) c.args.command.now.inn inn.list.items) (sym (c.keep.ensures.inn ∙ c.make_room.ensures.inn)) both.in_named

pub returns-in_default-clause-rows : goal.returns-in_default-clause-rows
returns-in_default-clause-rows g c = λ none. none_added _ _ _ _ none

pub returns-clause-rows : goal.returns-clause-rows
returns-clause-rows g c = λ none.
    let blank = c.in_ok-row.ensures.row in
    let row : ServedRow = record c.in_ok-row.row { out = c.from.result; inn = c.filled.result; fault = c.execute-reply.result.fault } in
    record {
      place_is = c.add_row-row.ensures.place ∙ ap length c.new_row.ensures.lists.history;
      row = row;
      added = c.add_row-row.ensures.history ∙ ap (λ (list : List ServedRow). list ++ row ∷ []) c.new_row.ensures.lists.history;
      unit_is = blank.unit_is;
      iu_is = blank.iu;
    }

pub returns-in_default-clause-given : goal.returns-in_default-clause-given
returns-in_default-clause-given g c = λ none. no_given _ _ _ none

pub returns-clause-given : goal.returns-clause-given
returns-clause-given g c = λ none.
    let row : ServedRow = record c.in_ok-row.row { out = c.from.result; inn = c.filled.result; fault = c.execute-reply.result.fault } in
    given_added c.args.records.now.history.items c.add_row-row.new.self.history.items row c.add_row-row.result c.keep.new.self.given.items
    (c.add_row-row.ensures.place ∙ ap length c.new_row.ensures.lists.history)
    (c.add_row-row.ensures.history ∙ ap (λ (list : List ServedRow). list ++ row ∷ []) c.new_row.ensures.lists.history)
    (c.filled.ensures ∙ sym (c.keep.ensures.given ∙ ap (λ (xs : List ℕ). xs ++ c.given-given.result.now) c.make_room.ensures.none))
