-- In a client's rows the data of what it asked lie where they lay, and are as many, whatever it sends or takes.
use Rattle.std.proofs.Common.{◌≡◌, ◌∙◌, ◌⊎◌, inl, inr, ℕ, zero, suc, ◌+◌, ◌-◌, ◌*◌, ◌/◌, ◌≤◌, ◌==◌, ◌++◌, All, Bool, true, false, cond, List, [], ◌∷◌, Option, Some, None, length, refl, sym, ap, ap₂, subst, arith, eq-eqb, eqb-true}
use Rattle.std.specs.Prelude.{MatchBool, MatchOption}
use Rattle.std.proofs.lemmas.List.Elements.{All-cons, All-head, All-nil, All-tail}
use Rattle.srp_desc.specs.Pieces.{total_of}
use Rattle.srp_iu.specs.declared.buffer.Buffer.{Buffer}
use Rattle.srp_iu.specs.declared.buffer.Buffer.TheVariants.{Absent, Direct}
use Rattle.srp_iu.specs.declared.command.Cmd.{Cmd as Command}
use Rattle.srp_iu.specs.declared.response.Rsp.{Rsp as Response}
use Rattle.srp_iu.specs.declared.unit.Iu.TheVariants as units
use Rattle.vscsi_client.specs.Taking.{answered, row_answered}
use Rattle.vscsi_client.specs.Units.{InDir, IsBuffer, IsCommand, IsIndirect, piece_of, pieces}
use Rattle.vscsi_client.specs.declared.op.Dir.{Dir}
use Rattle.vscsi_client.specs.declared.op.Dir.TheVariants as dirs
use Rattle.vscsi_client.specs.declared.op.Op.{Op}
use Rattle.vscsi_client.specs.declared.row.DataIn.{DataIn}
use Rattle.vscsi_client.specs.declared.row.Row.{Row}
use Rattle.vscsi_client.specs.declared.row.Row.TheVariants as rows
use Rattle.vcpu_run.specs.DataKept.{IsInwardAt}
use Rattle.vcpu_run.specs.PlainTalk.{Ask, StartsAt, TagsRise}
use Rattle.vcpu_run.specs.TagRows.{is_inward, row_at}
use Rattle.vcpu_run.proofs.Announcing.{both_bools}
use Rattle.vcpu_run.proofs.Crediting.{here_or}
use Rattle.vcpu_run.proofs.TagsKept.{row_before, row_here, row_set, row_unset}

-- ---- rows

-- What is a command with data-in under a tag of before was one, and its data lay there.
abbrev pub KeepPlaces : (old new : List Row) → Type 0
KeepPlaces old new = (tag at len : ℕ) → tag ≤ length old → IsInwardAt new tag at len → IsInwardAt old tag at len

pub same_places : (old new : List Row) → new ≡ old → KeepPlaces old new
same_places old new same tag at len within is = subst (λ (rs : List Row). IsInwardAt rs tag at len) same is

-- one row more
pub push_places : (old new : List Row) (row : Row) → new ≡ old ++ row ∷ [] → KeepPlaces old new
push_places old new row is tag at len within inward =
    let its : IsInwardAt (old ++ row ∷ []) tag at len = subst (λ (rs : List Row). IsInwardAt rs tag at len) is inward in
    (its.0, sym (row_before old row tag within) ∙ its.1)

-- an answer that was taken
was_inward : (response : Response) (row : Row) (at len : ℕ) (said : Option DataIn) → row_answered response row ≡ rows.Command dirs.In at len said
    → (was : Option DataIn) × (row ≡ rows.Command dirs.In at len was)
was_inward response (rows.Command dirs.In a l s) at len said is = (s, cc (is))
was_inward response (rows.Command dirs.Out a l s) at len said is = absurd (cc (is))
was_inward response (rows.Command dirs.Neither a l s) at len said is = absurd (cc (is))
was_inward response rows.Login at len said is = absurd (cc (is))
was_inward response rows.Logout at len said is = absurd (cc (is))
was_inward response rows.Task at len said is = absurd (cc (is))

begun_places : (old new : List Row) (tag : ℕ) (response : Response) → 1 ≤ tag → new ≡ answered tag response old → KeepPlaces old new
begun_places old new tag response begun is t at len within inward = by (here_or tag t)
  where
    its : IsInwardAt (answered tag response old) t at len
    its = subst (λ (rs : List Row). IsInwardAt rs t at len) is inward

    by : ((tag == t) ≡ true) ⊎ ((tag == t) ≡ false) → IsInwardAt old t at len
    by (inl e) =
        let same : tag ≡ t = eqb-true tag t e in
        was_inward response (row_at old t) at len its.0
        (sym (subst (λ n. row_at (answered tag response old) n ≡ row_answered response (row_at old n)) same (row_set old tag response begun (omega (arith, same, within)))) ∙ its.1)
    by (inr e) = (its.0, sym (row_unset old tag t response begun (λ same. both_bools (tag == t) (eq-eqb tag t (sym same)) e)) ∙ its.1)

pub answered_places : (old new : List Row) (tag : ℕ) (response : Response) → new ≡ answered tag response old → KeepPlaces old new
answered_places old new zero response is = begun_places old new 1 response (omega arith) is
answered_places old new (suc n) response is = begun_places old new (suc n) response (omega arith) is

-- ---- what was asked

pub starts_on : (old new : List Row) → KeepPlaces old new → (asked : List Ask) → TagsRise (length old) asked → All (StartsAt old) asked → All (StartsAt new) asked
starts_on old new keep [] rise all = All-nil (StartsAt new)
starts_on old new keep (ask ∷ asked) rise all =
    All-cons (StartsAt new) ask asked (λ at len is. All-head (StartsAt old) ask asked all at len (keep ask.tag at len rise.0 is))
    (starts_on old new keep asked rise.2 (All-tail (StartsAt old) ask asked all))

rise_behind : (last : ℕ) (front rest : List Ask) → TagsRise last (front ++ rest) → TagsRise last rest
rise_behind last [] rest rise = rise
rise_behind last (ask ∷ front) rest rise = rise_behind last front rest rise.2

-- of those behind others
pub starts_behind : (old new : List Row) → KeepPlaces old new → (front rest : List Ask) → TagsRise (length old) (front ++ rest) → All (StartsAt old) rest → All (StartsAt new) rest
starts_behind old new keep front rest rise all = starts_on old new keep rest (rise_behind (length old) front rest rise) all

-- ---- what is asked anew

row_new : (old new : List Row) (row : Row) (tag : ℕ) → new ≡ old ++ row ∷ [] → tag ≡ length old + 1 → row_at new tag ≡ row
row_new old new row tag is next = ap₂ (λ (rs : List Row) (n : ℕ). row_at rs n) is next ∙ row_here old row

-- no command with data-in
pub starts_none : (old new : List Row) (row : Row) (ask : Ask) → new ≡ old ++ row ∷ [] → ask.tag ≡ length old + 1 → is_inward row ≡ false → StartsAt new ask
starts_none old new row ask is next none at len inward =
    absurd (both_bools (is_inward row) (ap is_inward (sym (row_new old new row ask.tag is next) ∙ inward.1)) none)

-- the buffer of a command's data takes as many bytes as these are
piece_all : (op : Op) → (op.pieces == 1) ≡ true → (piece_of op 0).len ≡ op.len
piece_all op one =
    ap (λ (b : Bool). cond b (op.len - op.len / op.pieces * 0) (op.len / op.pieces)) (ap (λ n. 1 == n) (eqb-true op.pieces 1 one)) ∙ omega arith

buffer_total : (op : Op) (buffer : Buffer) → IsBuffer op buffer → total_of buffer ≡ op.len
buffer_total op buffer = by op.table
  where
    direct : (b : Bool) → (op.pieces == 1) ≡ b → MatchBool b (buffer ≡ Direct (piece_of op 0)) (IsIndirect op 0 (pieces op op.pieces) buffer) → total_of buffer ≡ op.len
    direct true e is = ap total_of is ∙ piece_all op e
    direct false e is = ap total_of is.buffer_is

    by : (table : Option ℕ) → MatchOption table (MatchBool (op.pieces == 1) (buffer ≡ Direct (piece_of op 0)) (IsIndirect op 0 (pieces op op.pieces) buffer)) (λ at. IsIndirect op at [] buffer)
        → total_of buffer ≡ op.len
    by None is = direct (op.pieces == 1) refl is
    by (Some at) is = ap total_of is.buffer_is

inn_total : (tag : ℕ) (op : Op) (command : Command) → IsCommand tag op command → op.dir ≡ dirs.In → total_of command.inn ≡ op.len
inn_total tag op command is inward =
    buffer_total op command.inn (subst (λ (d : Dir). InDir d (command.inn ≡ Absent) (command.inn ≡ Absent) (IsBuffer op command.inn)) inward is.inn)

record IsInwardOp (op : Op) (at len : ℕ) : Type 0 where
  dir_is : op.dir ≡ dirs.In
  at_is : op.at ≡ at
  len_is : op.len ≡ len

command_at : (op : Op) (at len : ℕ) (said : Option DataIn) → rows.Command op.dir op.at op.len None ≡ rows.Command dirs.In at len said → IsInwardOp op at len
command_at op at len said is = record { dir_is = cc (is); at_is = cc (is); len_is = cc (is) }

pub starts_command : (old new : List Row) (op : Op) (command : Command) (tag : ℕ) (ask : Ask) → new ≡ old ++ rows.Command op.dir op.at op.len None ∷ [] → ask.tag ≡ length old + 1
    → ask.start ≡ op.at → ask.iu ≡ units.Cmd command → IsCommand tag op command → StartsAt new ask
starts_command old new op command tag ask is next start iu asks' at len inward =
    let its = command_at op at len inward.0 (sym (row_new old new (rows.Command op.dir op.at op.len None) ask.tag is next) ∙ inward.1) in
    (sym its.at_is ∙ sym start, (command, iu, inn_total tag op command asks' its.dir_is ∙ its.len_is))
