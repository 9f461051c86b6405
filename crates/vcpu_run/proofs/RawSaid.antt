-- What a record says of a raw call is an answer of its row.
use Rattle.std.proofs.Common.{◌≡◌, ℕ, Bool, true, false, Option, Some, None, IfSome, if◌then◌else◌, refl}
use Rattle.vio_num.specs.declared.hypervisor.Hrc.{Hrc}
use Rattle.vio_num.specs.declared.hypervisor.Hrc.TheVariants as codes
use Rattle.vio_trace.specs.declared.outcome.Outcome.TheVariants as outcomes
use Rattle.hcall_table.specs.Rows.{IsAnswer, gives_value, row_of}
use Rattle.hcall_table.specs.declared.hcall.Hcall.{Hcall}
use Rattle.hcall_table.specs.declared.hcall.Hcall.TheVariants as rows
use Rattle.hcall_table.specs.declared.returned.Returned.{Returned}
use Rattle.vcpu_run.specs.CallRows.{CodedBy, SaysCall, gives, says}

-- the row that gives a value
gives_row : (row : Hcall) (code : Hrc) → gives_value row code ≡ true → Some row ≡ Some rows.GetTce
gives_row rows.GetTce code h = refl
gives_row rows.PutTce code h = absurd (cc)
gives_row rows.StuffTce code h = absurd (cc)
gives_row rows.PutTceIndirect code h = absurd (cc)
gives_row rows.RegCrq code h = absurd (cc)
gives_row rows.FreeCrq code h = absurd (cc)
gives_row rows.SendCrq code h = absurd (cc)
gives_row rows.EnableCrq code h = absurd (cc)
gives_row rows.CopyRdma code h = absurd (cc)
gives_row rows.RegisterLogicalLan code h = absurd (cc)
gives_row rows.FreeLogicalLan code h = absurd (cc)
gives_row rows.AddLogicalLanBuffer code h = absurd (cc)
gives_row rows.SendLogicalLan code h = absurd (cc)
gives_row rows.MulticastCtrl code h = absurd (cc)
gives_row rows.ChangeLogicalLanMac code h = absurd (cc)

given_by : (row : Option Hcall) (code : Hrc) → gives row code ≡ true → row ≡ Some rows.GetTce
given_by None code h = absurd (cc)
given_by (Some row) code h = gives_row row code h

coded_by : (row : Option Hcall) (returned : Returned) → (row ≡ None → returned.code ≡ codes.Function)
    → IfSome row (λ row. IsAnswer row returned) → CodedBy row returned.code
coded_by None returned unknown answer = unknown refl
coded_by (Some row) returned unknown answer = answer.code

pub says_call : (number : ℕ) (returned : Returned) → (row_of number ≡ None → returned.code ≡ codes.Function)
    → IfSome (row_of number) (λ row. IsAnswer row returned) → SaysCall number (says number returned)
says_call number returned unknown answer = at (gives (row_of number) returned.code) refl
  where
    at : (b : Bool) → gives (row_of number) returned.code ≡ b
        → SaysCall number (if b then outcomes.Value returned.r4 else outcomes.Code returned.code)
    at true e = given_by (row_of number) returned.code e
    at false e = coded_by (row_of number) returned unknown answer
