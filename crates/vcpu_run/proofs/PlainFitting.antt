-- Each entry that a plain client took has the length of the answer with its tag, which is that of a response.
use Rattle.std.proofs.Common.{◌≡◌, ◌∙◌, ◌⊎◌, ◌+◌, ◌*◌, inl, inr, ℕ, All, Bool, true, false, cond, nat_lt, Contains, List, [], ◌∷◌, Option, Some, None, length, refl, sym, ap, subst, arith}
use Rattle.std.proofs.lemmas.List.Elements.{All-contains_itself, All-weaker}
use Rattle.vio_num.specs.Entry.{iu_length, srp_entry}
use Rattle.vio_num.specs.declared.entry.Entry.{Entry}
use Rattle.vio_num.specs.declared.history.Served.{Served}
use Rattle.vio_num.specs.declared.names.UnitId.{UnitId}
use Rattle.crq_ring.specs.Pipe.{IsLawfulPipe, PipeValue}
use Rattle.crq_ring.specs.declared.rows.PipeRow.{PipeRow}
use Rattle.srp_iu.specs.Grammar.{Canon}
use Rattle.srp_iu.specs.declared.response.Rsp.{Rsp as Response}
use Rattle.srp_iu.specs.declared.response_code.ResponseCode.{ResponseCode}
use Rattle.srp_iu.specs.declared.unit.Iu.TheVariants as units
use Rattle.block_disk.specs.Disk.{answer, performed, reply_to}
use Rattle.block_disk.specs.Cdb.{command_of, refusal}
use Rattle.block_disk.specs.declared.command.DiskOp.{DiskOp}
use Rattle.block_disk.specs.declared.command.DiskOp.TheVariants.{Ready, Inquiry, Capacity10, Capacity16, Luns, Read, Write, Sync}
use Rattle.block_disk.specs.declared.reply.ScsiReply.{ScsiReply}
use Rattle.block_server.specs.Answering.{answer_entry}
use Rattle.block_server.specs.Causes.{Told}
use Rattle.block_server.specs.DiskLaw.{IsCutShort, SaysStatus}
use Rattle.block_server.specs.Entries.{is_response}
use Rattle.block_server.specs.Formed.{IsStepFormed}
use Rattle.block_server.specs.Makers.{same_unit}
use Rattle.block_server.specs.Responses.{Answers, HasCode, HasStatus, sense_of}
use Rattle.block_server.specs.RowsOn.{row_tag}
use Rattle.block_server.specs.Written.{IsAnswerWritten}
use Rattle.vio_trace.specs.declared.rows.AnswerRow.{AnswerRow}
use Rattle.vcpu_run.specs.PlainBorne.{rows_by}
use Rattle.vcpu_run.specs.PlainClients.{FitsAnswers, HasAnswerRow}
use Rattle.vcpu_run.specs.PlainRows.{IsAnswerEntry}
use Rattle.vcpu_run.proofs.LinesShown.{all_has}
use Rattle.vcpu_run.proofs.PlainDataTold.{contains_filter, taken_as}
use Rattle.vcpu_run.proofs.PlainSlots.{entry_long}
use Rattle.vcpu_run.proofs.PlainTags.{one_same}

-- ---- how long the answer of a row is

-- the lengths of responses
abbrev IsLong : ℕ → Type 0
IsLong n = (n ≡ 36) ⊎ ((n ≡ 40) ⊎ (n ≡ 54))

-- sense data are none, or eighteen bytes
abbrev HasSense : ScsiReply → Type 0
HasSense reply = (length (sense_of reply.sense) ≡ 0) ⊎ (length (sense_of reply.sense) ≡ 18)

either : (b : Bool) (x y : ScsiReply) → HasSense x → HasSense y → HasSense (cond b x y)
either true x y one other = one
either false x y one other = other

performed_sense : (op : DiskOp) (count sent : ℕ) (fault : Option ℕ) → HasSense (performed op count sent fault)
performed_sense Ready count sent fault = inl refl
performed_sense (Inquiry max) count sent fault = inl refl
performed_sense Capacity10 count sent fault = inl refl
performed_sense (Capacity16 max) count sent fault = inl refl
performed_sense (Luns max) count sent fault = inl refl
performed_sense (Read lba blocks) count sent None = either (nat_lt count (lba + blocks)) _ _ (inr refl) (inl refl)
performed_sense (Read lba blocks) count sent (Some call) = either (nat_lt count (lba + blocks)) _ _ (inr refl) (inr refl)
performed_sense (Write lba blocks) count sent None =
    either (nat_lt count (lba + blocks)) _ _ (inr refl) (either (nat_lt sent (512 * blocks)) _ _ (inr refl) (inl refl))
performed_sense (Write lba blocks) count sent (Some call) =
    either (nat_lt count (lba + blocks)) _ _ (inr refl) (either (nat_lt sent (512 * blocks)) _ _ (inr refl) (inr refl))
performed_sense (Sync lba blocks) count sent None = either (nat_lt count (lba + blocks)) _ _ (inr refl) (inl refl)
performed_sense (Sync lba blocks) count sent (Some call) = either (nat_lt count (lba + blocks)) _ _ (inr refl) (inr refl)

answer_sense : (cause : Option (List ℕ)) (op : Option DiskOp) (count sent : ℕ) (fault : Option ℕ) → HasSense (answer cause op count sent fault)
answer_sense (Some cause) op count sent fault = inr refl
answer_sense None None count sent fault = inl refl
answer_sense None (Some op) count sent fault = performed_sense op count sent fault

reply_sense : (count lun : ℕ) (cdb : List ℕ) (sent : ℕ) (fault : Option ℕ) → HasSense (reply_to count lun cdb sent fault)
reply_sense count lun cdb sent fault = answer_sense (refusal lun cdb) (command_of cdb) count sent fault

some_canon : (response : Response) → Canon [] (units.Rsp response) → ⊥
some_canon response canon = let exact = canon.unit.exact in absurd (omega (arith, exact))

-- one that says a code has 40, or none
code_long : (tag : ℕ) (code : ResponseCode) (bytes : List ℕ) (response : Response) → Canon bytes (units.Rsp response) → Answers bytes (HasCode tag code) → IsLong (length bytes)
code_long tag code [] response canon is = absurd (some_canon response canon)
code_long tag code (byte ∷ bytes) response canon (r, says, has) =
    let none : length r.sense.items ≡ 0 = ap length has.no_sense in
    let four : length r.response.items ≡ 4 = ap length has.response in
    inr (inl (omega (arith, says.unit.exact, none, four)))

-- one that says a status has 36, or 54
status_long : (tag offered expected : ℕ) (reply : ScsiReply) (bytes : List ℕ) (response : Response) → HasSense reply → Canon bytes (units.Rsp response)
    → Answers bytes (HasStatus tag offered expected reply) → IsLong (length bytes)
status_long tag offered expected reply [] response sense canon is = absurd (some_canon response canon)
status_long tag offered expected reply (byte ∷ bytes) response (inl short) canon (r, says, has) =
    let none : length r.response.items ≡ 0 = ap length has.no_response in
    let sense : length r.sense.items ≡ 0 = ap length has.sense ∙ short in
    inl (omega (arith, says.unit.exact, none, sense))
status_long tag offered expected reply (byte ∷ bytes) response (inr whole) canon (r, says, has) =
    let none : length r.response.items ≡ 0 = ap length has.no_response in
    let sense : length r.sense.items ≡ 18 = ap length has.sense ∙ whole in
    inr (inr (omega (arith, says.unit.exact, none, sense)))

step_long : (size : ℕ) (told : Told → Bool) (row : Served) (response : Response) → (is : IsStepFormed size told row) → Canon row.answer (units.Rsp response) → IsLong (length row.answer)
step_long size told row response is canon = by is.answer
  where
    by : (row.answer ≡ []) ⊎ (SaysStatus is.command is.reply row ⊎ IsCutShort told is.command is.reply row) → IsLong (length row.answer)
    by (inl none) = absurd (some_canon response (subst (λ (bytes : List ℕ). Canon bytes (units.Rsp response)) none canon))
    by (inr (inl says)) =
        status_long _ _ _ is.reply row.answer response (subst HasSense (sym is.reply_is) (reply_sense size is.command.lun is.command.cdb (length row.out) row.fault)) canon says.answer
    by (inr (inr says)) = code_long _ _ row.answer response canon says.answer

row_long : (size : ℕ) (told : Told → Bool) (row : Served) (response : Response) → IsAnswerWritten size told row → Canon row.answer (units.Rsp response) → IsLong (length row.answer)
row_long size told row response (inl none) canon = absurd (some_canon response (subst (λ (bytes : List ℕ). Canon bytes (units.Rsp response)) none canon))
row_long size told row response (inr (over, inl is)) canon = step_long size told row response is canon
row_long size told row response (inr (over, inr (inl is))) canon = code_long _ _ row.answer response canon is.none.answer
row_long size told row response (inr (over, inr (inr (inl is)))) canon = code_long _ _ row.answer response canon is.none.answer
row_long size told row response (inr (over, inr (inr (inr is)))) canon = code_long _ _ row.answer response canon is.none.answer

-- ---- the entries that were taken

long_response : (n tag : ℕ) → IsLong n → is_response (srp_entry n tag) ≡ true
long_response n tag (inl is) = subst (λ k. is_response (srp_entry k tag) ≡ true) (sym is) refl
long_response n tag (inr (inl is)) = subst (λ k. is_response (srp_entry k tag) ≡ true) (sym is) refl
long_response n tag (inr (inr is)) = subst (λ k. is_response (srp_entry k tag) ≡ true) (sym is) refl

entry_fits : (server : UnitId) (rows : List Served) (answers : List AnswerRow) (size : ℕ) (told : Told → Bool) → All (HasAnswerRow rows server) answers → All (IsAnswerWritten size told) rows
    → (entry : Entry) → IsAnswerEntry (rows_by server rows) entry → FitsAnswers answers entry
entry_fits server rows answers size told noted written entry is srp row there same =
    let has : HasAnswerRow rows server row = all_has (HasAnswerRow rows server) answers row noted there in
    let inside : Contains (rows_by server rows) has.row =
    contains_filter (λ (r : Served). same_unit r.unit server) rows has.row (one_same has.row.unit server has.of_unit) has.there in
    let entry_is : entry ≡ answer_entry has.row =
    all_has (λ (r : Served). row_tag r ≡ entry.low → entry ≡ answer_entry r) (rows_by server rows) has.row (is srp) inside (has.tag_is ∙ same) in
    let long : IsLong (length has.row.answer) =
    row_long size told has.row has.response (all_has (IsAnswerWritten size told) rows has.row written has.there) has.row_says in
    let one : length has.row.answer ≡ length row.answer = has.row_says.unit.exact ∙ sym has.answer_says.unit.exact in (
      ap iu_length entry_is ∙ entry_long (length has.row.answer) (row_tag has.row) has.row_says.within ∙ one,
      ap is_response entry_is ∙ long_response (length has.row.answer) (row_tag has.row) long,
    )

-- What is so of all that was put is so of all that was taken.
pub entries_fit : (server : UnitId) (rows : List Served) (answers : List AnswerRow) (size : ℕ) (told : Told → Bool) (pipe : PipeValue) → IsLawfulPipe pipe → All (HasAnswerRow rows server) answers
    → All (IsAnswerWritten size told) rows → All (λ (row : PipeRow). IsAnswerEntry (rows_by server rows) row.entry) pipe.sent → All (λ (row : PipeRow). FitsAnswers answers row.entry) pipe.taken
entries_fit server rows answers size told pipe laws noted written put =
    All-weaker (Contains pipe.taken) (λ (row : PipeRow). FitsAnswers answers row.entry)
    (λ row there. entry_fits server rows answers size told noted written row.entry (taken_as (IsAnswerEntry (rows_by server rows)) pipe laws put row there))
    pipe.taken (All-contains_itself pipe.taken)
