-- How many data-in a row has against what its answer says of them: no more than the answer leaves of what the client asked for.
use Rattle.std.proofs.Common.{◌≡◌, ◌∙◌, ◌⊎◌, inl, inr, ℕ, ◌+◌, ◌-◌, ◌≤◌, ◌==◌, nat_lt, Bool, true, false, true≢false, cond, bit_and, List, [], ◌∷◌, Option, Some, None, length, min, refl, sym, ap, subst, arith}
use Rattle.vio_num.specs.declared.history.Served.{Served}
use Rattle.srp_iu.specs.Buffer.{SpellsBuffer}
use Rattle.srp_iu.specs.Grammar.{Canon}
use Rattle.srp_iu.specs.Residual.{HasResiduals, in_flag, in_residual, out_flag, residual_count}
use Rattle.srp_iu.specs.declared.buffer.Buffer.{Buffer}
use Rattle.srp_iu.specs.declared.buffer.Buffer.TheVariants.{Absent, Direct, Indirect}
use Rattle.srp_iu.specs.declared.command.Cmd.{Cmd}
use Rattle.srp_iu.specs.declared.residual.Residual.{Residual}
use Rattle.srp_iu.specs.declared.residual.Residual.TheVariants.{Exact, Over, Under}
use Rattle.srp_iu.specs.declared.response.Rsp.{Rsp as Response}
use Rattle.srp_iu.specs.declared.response.TheConstants.{DIUNDER, RSPVALID}
use Rattle.srp_iu.specs.declared.response_code.ResponseCode.{ResponseCode}
use Rattle.srp_iu.specs.declared.unit.Iu.TheVariants as units
use Rattle.srp_iu.specs.Grammar.{Spells}
use Rattle.srp_desc.specs.Pieces.{total_of}
use Rattle.block_server.specs.Causes.{Told}
use Rattle.block_server.specs.DiskLaw.{IsCutShort, SaysStatus}
use Rattle.block_server.specs.Formed.{IsStepFormed}
use Rattle.block_server.specs.Responses.{Answers, HasCode, sense_flag}
use Rattle.block_server.specs.Written.{IsAnswerWritten}
use Rattle.vscsi_client.specs.Transferred.{transferred}
use Rattle.vscsi_client.specs.declared.row.DataIn.{DataIn}
use Rattle.vcpu_run.specs.DataKept.{said_by}
use Rattle.vcpu_run.specs.PlainNoted.{AsksLong}

-- ---- what bytes spell

-- a buffer that bytes begin with takes as much as they say
total_one : (format count : ℕ) (bytes : List ℕ) (a b : Buffer) → SpellsBuffer format count bytes a → SpellsBuffer format count bytes b → total_of a ≡ total_of b
total_one format count bytes Absent Absent one two = refl
total_one format count bytes Absent (Direct desc) one two = absurd (omega (arith, one, two.direct))
total_one format count bytes Absent (Indirect table total list) one two = absurd (omega (arith, one, two.indirect))
total_one format count bytes (Direct desc) Absent one two = absurd (omega (arith, one.direct, two))
total_one format count bytes (Direct desc) (Direct other) one two = ap (λ d. d.len) (one.named ∙ sym two.named)
total_one format count bytes (Direct desc) (Indirect table total list) one two = absurd (omega (arith, one.direct, two.indirect))
total_one format count bytes (Indirect table total list) Absent one two = absurd (omega (arith, one.indirect, two))
total_one format count bytes (Indirect table total list) (Direct desc) one two = absurd (omega (arith, one.indirect, two.direct))
total_one format count bytes (Indirect table total list) (Indirect table' total' list') one two = one.in_all ∙ sym two.in_all

-- a command that bytes spell takes as much as they say
asked_one : (bytes : List ℕ) (len : ℕ) (command : Cmd) → Spells bytes (units.Cmd command) → AsksLong bytes len → total_of command.inn ≡ len
asked_one bytes len command spells asks = total_one _ _ _ command.inn asks.command.inn spells.unit.inn asks.spells.unit.inn ∙ asks.long

-- Two responses of which the same bytes are the canonical ones say the same of data-in.
pub says_one : (bytes : List ℕ) (a b : Response) → Canon bytes (units.Rsp a) → Canon bytes (units.Rsp b) → said_by a ≡ said_by b
says_one bytes a b one two =
    let flags : a.flags ≡ b.flags = one.unit.spells.flags ∙ sym two.unit.spells.flags in
    let count : a.in_residual ≡ b.in_residual = one.unit.spells.in_residual ∙ sym two.unit.spells.in_residual in
    λ i. record { flags = flags i; in_residual = count i }

-- a response has some bytes
not_empty : (response : Response) → Canon [] (units.Rsp response) → ⊥
not_empty response canon = let exact = canon.unit.exact in absurd (omega (arith, exact))

-- what is so of the response of an answer is so of what its bytes say of data-in
answer_says : (bytes : List ℕ) (P : Response → Type 0) (Q : DataIn → Type 0) (response : Response) → Canon bytes (units.Rsp response) → Answers bytes P → ((r : Response) → P r → Q (said_by r))
    → Q (said_by response)
answer_says [] P Q response canon says then_q = absurd (not_empty response canon)
answer_says (byte ∷ bytes) P Q response canon says then_q = subst Q (says_one (byte ∷ bytes) says.0 response says.1 canon) (then_q says.0 says.2)

-- ---- a status

-- no flag says that data-in were lacking where there was no room for all
over_flag : (sense : Option (List ℕ)) (out : Residual) (n : ℕ) → bit_and (sense_flag sense + out_flag out + in_flag (Over n)) DIUNDER ≡ 0
over_flag None Exact n = refl
over_flag None (Under m) n = refl
over_flag None (Over m) n = refl
over_flag (Some s) Exact n = refl
over_flag (Some s) (Under m) n = refl
over_flag (Some s) (Over m) n = refl

abbrev left_of : (len given flags : ℕ) → ℕ
left_of len count flags = transferred len (record { flags = flags; in_residual = count })

-- nothing is left out without a residual
all_left : (len flags : ℕ) → left_of len 0 flags ≡ len
all_left len flags = by (bit_and flags RSPVALID == 0) (bit_and flags DIUNDER == 0)
  where
    by : (b c : Bool) → cond b (cond c len (len - 0)) len ≡ len
    by true true = refl
    by true false = omega arith
    by false c = refl

status_left : (len given : ℕ) (sense : Option (List ℕ)) (out inn : Residual) → in_residual len given ≡ inn → min given len ≤ left_of len (residual_count inn) (sense_flag sense + out_flag out + in_flag inn)
status_left len given sense out Exact is = let all = all_left len (sense_flag sense + out_flag out + in_flag Exact) in omega (arith, all)
status_left len given sense out (Over n) is =
    by (bit_and (sense_flag sense + out_flag out + in_flag (Over n)) RSPVALID == 0) (bit_and (sense_flag sense + out_flag out + in_flag (Over n)) DIUNDER == 0)
    (ap (λ x. x == 0) (over_flag sense out n))
  where
    by : (b c : Bool) → c ≡ true → min given len ≤ cond b (cond c len (len - n)) len
    by true true e = omega arith
    by true false e = absurd (true≢false (sym e))
    by false c e = omega arith
status_left len given sense out (Under n) is =
    by (bit_and (sense_flag sense + out_flag out + in_flag (Under n)) RSPVALID == 0) (bit_and (sense_flag sense + out_flag out + in_flag (Under n)) DIUNDER == 0) (nat_lt given len) refl (nat_lt len given) is
  where
    count_is : (a b : ℕ) → Under a ≡ Under b → a ≡ b
    count_is a b e = cc (e)

    by : (b c d : Bool) → nat_lt given len ≡ d → (e : Bool) → cond d (Under (len - given)) (cond e (Over (given - len)) Exact) ≡ Under n → min given len ≤ cond b (cond c len (len - n)) len
    by true true d t e h = omega arith
    by false c d t e h = omega arith
    by true false true t e h = let n_is = count_is (len - given) n h in omega (arith, n_is)
    by true false false t true h = absurd (cc (h))
    by true false false t false h = absurd (cc (h))

status_few : (len given : ℕ) (sense : Option (List ℕ)) (out : Residual) (r : Response) → HasResiduals out (in_residual len given) (sense_flag sense) r → min given len ≤ transferred len (said_by r)
status_few len given sense out r is =
    subst (λ (said : DataIn). min given len ≤ transferred len said) (λ i. record { flags = (sym is.flags) i; in_residual = (sym is.in_count) i })
    (status_left len given sense out (in_residual len given) refl)

code_few : (tag len : ℕ) (code : ResponseCode) (r : Response) → HasCode tag code r → len ≤ transferred len (said_by r)
code_few tag len code r is =
    subst (λ (said : DataIn). len ≤ transferred len said) (λ i. record { flags = r.flags; in_residual = (sym is.residuals.in_count) i })
    (let all = all_left len r.flags in omega (arith, all))

-- ---- the row

data_few : (size : ℕ) (told : Told → Bool) (row : Served) (response : Response) (len : ℕ) → (is : IsStepFormed size told row) → Canon row.answer (units.Rsp response) → AsksLong row.iu len
    → length row.inn ≤ transferred len (said_by response)
data_few size told row response len is canon asks = by is.answer
  where
    takes : total_of is.command.inn ≡ len
    takes = asked_one row.iu len is.command is.spells asks

    status : SaysStatus is.command is.reply row → length row.inn ≤ transferred len (said_by response)
    status says =
        let few : min is.reply.in_len (total_of is.command.inn) ≤ transferred (total_of is.command.inn) (said_by response) =
        answer_says row.answer _ (λ said. min is.reply.in_len (total_of is.command.inn) ≤ transferred (total_of is.command.inn) said) response canon says.answer
        (λ r has. status_few (total_of is.command.inn) is.reply.in_len is.reply.sense _ r has.residuals) in
        let few_len : min is.reply.in_len (total_of is.command.inn) ≤ transferred len (said_by response) =
        subst (λ n. min is.reply.in_len (total_of is.command.inn) ≤ transferred n (said_by response)) takes few in
        let all = says.all_in in
        omega (arith, few_len, all)

    cut : IsCutShort told is.command is.reply row → length row.inn ≤ transferred len (said_by response)
    cut says =
        let few : len ≤ transferred len (said_by response) =
        answer_says row.answer _ (λ said. len ≤ transferred len said) response canon says.answer (λ r has. code_few _ len _ r has) in
        let most = is.few in
        omega (arith, few, most, takes)

    by : (row.answer ≡ []) ⊎ (SaysStatus is.command is.reply row ⊎ IsCutShort told is.command is.reply row) → length row.inn ≤ transferred len (said_by response)
    by (inl none) = absurd (not_empty response (subst (λ (bytes : List ℕ). Canon bytes (units.Rsp response)) none canon))
    by (inr (inl says)) = status says
    by (inr (inr says)) = cut says

-- A row has no more data-in than its answer leaves of what its command asked for.
pub row_few : (size : ℕ) (told : Told → Bool) (row : Served) (response : Response) (len : ℕ) → IsAnswerWritten size told row → Canon row.answer (units.Rsp response) → AsksLong row.iu len
    → length row.inn ≤ transferred len (said_by response)
row_few size told row response len (inl none) canon asks = absurd (not_empty response (subst (λ (bytes : List ℕ). Canon bytes (units.Rsp response)) none canon))
row_few size told row response len (inr (over, inl is)) canon asks = data_few size told row response len is canon asks
row_few size told row response len (inr (over, inr (inl is))) canon asks = let few = ap length is.none.inn in omega (arith, few)
row_few size told row response len (inr (over, inr (inr (inl is)))) canon asks = let few = ap length is.none.inn in omega (arith, few)
row_few size told row response len (inr (over, inr (inr (inr is)))) canon asks = let few = ap length is.none.inn in omega (arith, few)
