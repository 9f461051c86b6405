-- What a raw call returned, at the unit that it names, and what its record says of it.
use Rattle.std.proofs.Common.{◌≡◌, ◌↔◌, ◌∙◌, ℕ, Bool, true, false, cond, List, Option, Some, None, Result, Ok, Err, IfOk, IfSome, refl, sym, ap, subst}
use Rattle.vio_num.specs.declared.hypervisor.Hrc.{Hrc}
use Rattle.vio_num.specs.declared.hypervisor.Hrc.TheVariants as codes
use Rattle.vio_num.specs.declared.memory.NoMemory.{NoMemory}
use Rattle.hcall_table.specs.Asked.{bare}
use Rattle.hcall_table.specs.Named.{unit_of}
use Rattle.hcall_table.specs.Rows.{IsAnswer, further, gives_value, row_of}
use Rattle.hcall_table.specs.declared.hcall.Hcall.{Hcall}
use Rattle.hcall_table.specs.declared.hcall.Hcall.TheVariants as rows
use Rattle.hcall_table.specs.declared.returned.Returned.{Returned}
use Rattle.vio_trace.specs.declared.outcome.Outcome.{Outcome}
use Rattle.vio_trace.specs.declared.outcome.Outcome.TheVariants as outcomes
use Rattle.unit_region.specs.declared.step.Step.TheVariants as steps
use Rattle.vcpu_run.specs.declared.pair.Pair.{Pair}
use Rattle.vcpu_run.specs.declared.unit_seat.Seat.{Seat}
use Rattle.vcpu_run.specs.CallRows.{gives, says}
use Rattle.vcpu_run.specs.CallsAnswered.{IsDone, IsReturned, UnitSeen, is_taken, is_unsaid}
use Rattle.vcpu_run.specs.CallsSaid.{EndsCall, IfDone, IsCallSaid, IsUnitSaid, UnitsSeen, units_seen}
use Rattle.vcpu_run.proofs.CallsKept.{no_value, parameter_says as bare_says}
use Rattle.vcpu_run.proofs.RawSaid.{says_call}

-- a row that gives a value gives it with Success
gives_success : (row : Hcall) (code : Hrc) → gives_value row code ≡ true → code ≡ codes.Success
gives_success rows.GetTce codes.Success is = refl
gives_success rows.GetTce codes.Busy is = absurd (cc)
gives_success rows.GetTce codes.Closed is = absurd (cc)
gives_success rows.GetTce codes.Function is = absurd (cc)
gives_success rows.GetTce codes.Parameter is = absurd (cc)
gives_success rows.GetTce codes.NotFound is = absurd (cc)
gives_success rows.GetTce codes.Dropped is = absurd (cc)
gives_success rows.GetTce codes.SourceParm is = absurd (cc)
gives_success rows.GetTce codes.DestParm is = absurd (cc)
gives_success rows.GetTce codes.Resource is = absurd (cc)
gives_success rows.PutTce code is = absurd (cc)
gives_success rows.StuffTce code is = absurd (cc)
gives_success rows.PutTceIndirect code is = absurd (cc)
gives_success rows.RegCrq code is = absurd (cc)
gives_success rows.FreeCrq code is = absurd (cc)
gives_success rows.SendCrq code is = absurd (cc)
gives_success rows.EnableCrq code is = absurd (cc)
gives_success rows.CopyRdma code is = absurd (cc)
gives_success rows.RegisterLogicalLan code is = absurd (cc)
gives_success rows.FreeLogicalLan code is = absurd (cc)
gives_success rows.AddLogicalLanBuffer code is = absurd (cc)
gives_success rows.SendLogicalLan code is = absurd (cc)
gives_success rows.MulticastCtrl code is = absurd (cc)
gives_success rows.ChangeLogicalLanMac code is = absurd (cc)

-- what a record says of a row's call
abbrev says_row : Hcall → Returned → Outcome
says_row row returned = cond (gives_value row returned.code) (outcomes.Value returned.r4) (outcomes.Code returned.code)

not_parameter : (value : ℕ) → outcomes.Value value ≡ outcomes.Code codes.Parameter → ⊥
not_parameter value e = cc

is_code : (a b : Hrc) → outcomes.Code a ≡ outcomes.Code b → a ≡ b
is_code a b e = cc

-- it says Parameter exactly where that is the code
parameter_by : (row : Hcall) (returned : Returned) → (says_row row returned ≡ outcomes.Code codes.Parameter) ↔ (returned.code ≡ codes.Parameter)
parameter_by row returned = at (gives_value row returned.code) refl
  where
    gone : returned.code ≡ codes.Parameter → gives_value row returned.code ≡ true → ⊥
    gone is gave = both (gives_value row codes.Parameter) (no_value row) (ap (gives_value row) (sym is) ∙ gave)
      where
        both : (b : Bool) → b ≡ false → b ≡ true → ⊥
        both b isnt is = cc

    at : (b : Bool) → gives_value row returned.code ≡ b
        → (cond b (outcomes.Value returned.r4) (outcomes.Code returned.code) ≡ outcomes.Code codes.Parameter) ↔ (returned.code ≡ codes.Parameter)
    at true gave = (λ e. absurd (not_parameter returned.r4 e), λ is. absurd (gone is gave))
    at false none = (λ e. is_code returned.code codes.Parameter e, λ is. ap (λ code. outcomes.Code code) is)

-- it says Busy only where that is the code
no_busy : (value : ℕ) → outcomes.Value value ≡ outcomes.Code codes.Busy → ⊥
no_busy value e = cc

busy_by : (row : Hcall) (returned : Returned) → says_row row returned ≡ outcomes.Code codes.Busy → returned.code ≡ codes.Busy
busy_by row returned = at (gives_value row returned.code)
  where
    at : (b : Bool) → cond b (outcomes.Value returned.r4) (outcomes.Code returned.code) ≡ outcomes.Code codes.Busy → returned.code ≡ codes.Busy
    at true e = absurd (no_busy returned.r4 e)
    at false e = is_code returned.code codes.Busy e

parameter_says : (row : Hcall) (returned : Returned) (taken : Option Bool) → IfSome taken (λ taken. (returned.code ≡ codes.Parameter) ↔ (taken ≡ false))
    → IfSome taken (λ taken. (says_row row returned ≡ outcomes.Code codes.Parameter) ↔ (taken ≡ false))
parameter_says row returned None is = tt
parameter_says row returned (Some taken) is =
    let by = parameter_by row returned in
    (λ e. is.0 (by.0 e), λ e. by.1 (is.1 e))

code_done : (code : Hrc) (P : ℕ → Type 0) → (code ≡ codes.Success → P 0) → IfDone (outcomes.Code code) P
code_done codes.Success P is = is refl
code_done codes.Busy P is = tt
code_done codes.Closed P is = tt
code_done codes.Function P is = tt
code_done codes.Parameter P is = tt
code_done codes.NotFound P is = tt
code_done codes.Dropped P is = tt
code_done codes.SourceParm P is = tt
code_done codes.DestParm P is = tt
code_done codes.Resource P is = tt

done_says : (seen : UnitSeen) (row : Hcall) (args : List ℕ) (returned : Returned) → IsAnswer row returned → (returned.code ≡ codes.Success → IsDone seen row args returned.r4)
    → IfDone (says_row row returned) (IsDone seen row args)
done_says seen row args returned answer is = at (gives_value row returned.code) refl
  where
    at : (b : Bool) → gives_value row returned.code ≡ b → IfDone (cond b (outcomes.Value returned.r4) (outcomes.Code returned.code)) (IsDone seen row args)
    at true gave = is (gives_success row returned.code gave)
    at false none = code_done returned.code (IsDone seen row args) (λ good. subst (IsDone seen row args) (answer.value none) (is good))

-- so is it of the unit that the call names
row_says : (seen : UnitSeen) (row : Hcall) (args : List ℕ) (returned : Returned) → IsAnswer row returned → IsReturned seen row args returned
    → IsUnitSaid seen row args (says_row row returned)
row_says seen row args returned answer is = record {
  parameter = parameter_says row returned (is_taken row seen.pages args) is.parameter;
  refused = λ e. is.refused ((parameter_by row returned).0 e);
  busy = λ e. is.busy (busy_by row returned e);
  done = done_says seen row args returned answer is.done;
}

pub unit_says : (seen : UnitsSeen) (number : ℕ) (args : List ℕ) (returned : Returned) (unit : Option ℕ) (row : Hcall) → row_of number ≡ Some row → IsAnswer row returned
    → IfSome unit (λ unit. IsReturned (seen.of_unit unit) row (further row args) returned)
    → IfSome unit (λ unit. IsUnitSaid (seen.of_unit unit) row (further row args) (says number returned))
unit_says seen number args returned None row is answer here = tt
unit_says seen number args returned (Some unit) row is answer here =
    let same : says_row row returned ≡ says number returned =
    ap (λ (o : Option Hcall). cond (gives o returned.code) (outcomes.Value returned.r4) (outcomes.Code returned.code)) (sym is) in
    subst (λ (outcome : Outcome). IsUnitSaid (seen.of_unit unit) row (further row args) outcome) same
    (row_says (seen.of_unit unit) row (further row args) returned answer here)

-- what a call's record says
pub call_says : (seen : UnitsSeen) (number : ℕ) (args : List ℕ) (returned : Returned) → (row_of number ≡ None → returned.code ≡ codes.Function)
    → IfSome (row_of number) (λ row. IsAnswer row returned)
    → IfSome (row_of number) (λ row. unit_of seen.place row args ≡ None → says number returned ≡ outcomes.Code codes.Parameter)
    → IfSome (row_of number) (λ row. IfSome (unit_of seen.place row args) (λ unit. IsReturned (seen.of_unit unit) row (further row args) returned))
    → IsCallSaid seen number args (says number returned)
call_says seen number args returned unknown answer elsewhere here = record {
  row = says_call number returned unknown answer;
  elsewhere = elsewhere;
  here = at (row_of number) refl answer here;
}
  where
    at : (o : Option Hcall) → row_of number ≡ o → IfSome o (λ row. IsAnswer row returned)
        → IfSome o (λ row. IfSome (unit_of seen.place row args) (λ unit. IsReturned (seen.of_unit unit) row (further row args) returned))
        → IfSome o (λ row. IfSome (unit_of seen.place row args) (λ unit. IsUnitSaid (seen.of_unit unit) row (further row args) (says number returned)))
    at None is a h = tt
    at (Some row) is a h = unit_says seen number args returned (unit_of seen.place row args) row is a h

-- a call that was made ended its line so
pub ends_call : (partition : ℕ) (seat : ℕ → Option Seat) (pairs later : List Pair) (number : ℕ) (args : List ℕ) (returned : Returned) (outcome : Outcome) → pairs ≡ later
    → outcome ≡ says number returned → (row_of number ≡ None → returned.code ≡ codes.Function) → IfSome (row_of number) (λ row. IsAnswer row returned)
    → IfSome (row_of number) (λ row. unit_of (units_seen partition seat pairs).place row args ≡ None → returned ≡ bare codes.Parameter)
    → IfSome (row_of number) (λ row. IfSome (unit_of (units_seen partition seat pairs).place row args)
    (λ unit. IsReturned ((units_seen partition seat pairs).of_unit unit) row (further row args) returned))
    → EndsCall (units_seen partition seat later) number args (steps.Ends outcome)
ends_call partition seat pairs later number args returned outcome same is unknown answer elsewhere here =
    subst (λ (list : List Pair). IsCallSaid (units_seen partition seat list) number args outcome) same
    (subst (λ (o : Outcome). IsCallSaid (units_seen partition seat pairs) number args o) (sym is)
    (call_says (units_seen partition seat pairs) number args returned unknown answer (at (row_of number) elsewhere) here))
  where
    at : (o : Option Hcall) → IfSome o (λ row. unit_of (units_seen partition seat pairs).place row args ≡ None → returned ≡ bare codes.Parameter)
        → IfSome o (λ row. unit_of (units_seen partition seat pairs).place row args ≡ None → says number returned ≡ outcomes.Code codes.Parameter)
    at None h = tt
    at (Some row) h = λ none. bare_says number returned (h none)

-- a call of a row of which no more is said
pub unsaid : (seen : UnitSeen) (row : Hcall) (args : List ℕ) (result : Result Returned NoMemory) → is_unsaid row ≡ true → IfOk result (IsReturned seen row args)
unsaid seen rows.GetTce args result is = absurd (cc)
unsaid seen rows.PutTce args result is = absurd (cc)
unsaid seen rows.StuffTce args result is = absurd (cc)
unsaid seen rows.PutTceIndirect args result is = absurd (cc)
unsaid seen rows.RegCrq args (Ok returned) is = record { parameter = tt; refused = λ e. tt; busy = λ e. tt; done = λ good. tt }
unsaid seen rows.RegCrq args (Err memory) is = tt
unsaid seen rows.FreeCrq args (Ok returned) is = record { parameter = tt; refused = λ e. tt; busy = λ e. tt; done = λ good. tt }
unsaid seen rows.FreeCrq args (Err memory) is = tt
unsaid seen rows.SendCrq args result is = absurd (cc)
unsaid seen rows.EnableCrq args (Ok returned) is = record { parameter = tt; refused = λ e. tt; busy = λ e. tt; done = λ good. tt }
unsaid seen rows.EnableCrq args (Err memory) is = tt
unsaid seen rows.CopyRdma args result is = absurd (cc)
unsaid seen rows.RegisterLogicalLan args (Ok returned) is = record { parameter = tt; refused = λ e. tt; busy = λ e. tt; done = λ good. tt }
unsaid seen rows.RegisterLogicalLan args (Err memory) is = tt
unsaid seen rows.FreeLogicalLan args (Ok returned) is = record { parameter = tt; refused = λ e. tt; busy = λ e. tt; done = λ good. tt }
unsaid seen rows.FreeLogicalLan args (Err memory) is = tt
unsaid seen rows.AddLogicalLanBuffer args (Ok returned) is = record { parameter = tt; refused = λ e. tt; busy = λ e. tt; done = λ good. tt }
unsaid seen rows.AddLogicalLanBuffer args (Err memory) is = tt
unsaid seen rows.SendLogicalLan args (Ok returned) is = record { parameter = tt; refused = λ e. tt; busy = λ e. tt; done = λ good. tt }
unsaid seen rows.SendLogicalLan args (Err memory) is = tt
unsaid seen rows.MulticastCtrl args (Ok returned) is = record { parameter = tt; refused = λ e. tt; busy = λ e. tt; done = λ good. tt }
unsaid seen rows.MulticastCtrl args (Err memory) is = tt
unsaid seen rows.ChangeLogicalLanMac args (Ok returned) is = record { parameter = tt; refused = λ e. tt; busy = λ e. tt; done = λ good. tt }
unsaid seen rows.ChangeLogicalLanMac args (Err memory) is = tt
