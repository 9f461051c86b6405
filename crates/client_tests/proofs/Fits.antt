-- What the calls of a client leave of where its data lie.
use Rattle.std.proofs.Common.{◌≡◌, inl, inr, ℕ, Option, Some, None, Result, Ok, Err, IfSome, IfOk, IfErr, OnErr, refl, sym, subst}
use Rattle.vio_num.specs.declared.memory.NoMemory.{NoMemory}
use Rattle.vscsi_client.specs.declared.answers.LoginTurn.{LoginTurn}
use Rattle.vscsi_client.specs.declared.answers.Refused.{Refused}
use Rattle.vscsi_client.specs.declared.answers.Taken.{Taken}
use Rattle.vscsi_client.specs.declared.answers.Taken.TheVariants as takens
use Rattle.vscsi_client.specs.declared.op.Op.{Op}
use Rattle.vscsi_client.specs.State.{ClientState}
use Rattle.vscsi_client.specs.Ports.{Ports}
use Rattle.vscsi_client.specs.Sending.{Submitted, WhyNotSubmitted, Tasked, LoggedOut, command_refusal}
use Rattle.vscsi_client.specs.Taking.{TakesEntry, TakesLater}
use Rattle.vscsi_client.specs.Transferred.{FitRows}
use Rattle.vscsi_client.specs.Turned.{Site, Turned}
use Rattle.vscsi_client.specs.Units.{FitsOp}
use Rattle.vscsi_client.proofs.Fits.{submitted_fits, tasked_fits, logged_out_fits, taken_fits, turned_fits}

not_submitted_fits : (pages line : ℕ) (op : Op) (s s' : ClientState) (old new : Ports) (why : Refused) → WhyNotSubmitted line op s s' old new why → FitRows pages s → FitRows pages s'
not_submitted_fits pages line op s s' old new why (inl h) all = subst (FitRows pages) (sym h.client) all
not_submitted_fits pages line op s s' old new why (inr h) all = subst (FitRows pages) (sym h.client) all

pub submit_fits : (line : ℕ) (op : Op) (s s' : ClientState) (old new : Ports) (result : Result ℕ Refused) → FitsOp op
    → IfSome (command_refusal old.own.place.size s op) (λ why. (result ≡ Err why) × (s' ≡ s) × (new.crq ≡ old.crq) × (new.own ≡ old.own))
    → IfOk result (Submitted line op s s' old new)
    → (command_refusal old.own.place.size s op ≡ None → IfErr result (WhyNotSubmitted line op s s' old new))
    → FitRows old.own.place.size s → FitRows old.own.place.size s'
submit_fits line op s s' old new (Ok tag) fits refused sent not_sent all = submitted_fits line op s s' old new tag fits sent all
submit_fits line op s s' old new (Err why) fits refused sent not_sent all = at (Err why) (command_refusal old.own.place.size s op) refl refused
  where
    at : (res : Result ℕ Refused) (r : Option Refused) → command_refusal old.own.place.size s op ≡ r
        → IfSome r (λ w. (res ≡ Err w) × (s' ≡ s) × (new.crq ≡ old.crq) × (new.own ≡ old.own)) → FitRows old.own.place.size s'
    at res None is h = not_submitted_fits old.own.place.size line op s s' old new why (not_sent is) all
    at res (Some w) is h = subst (FitRows old.own.place.size) (sym h.1) all

pub task_fits : (pages line function task : ℕ) (s s' : ClientState) (old new : Ports) (result : Result ℕ Refused)
    → IfOk result (Tasked line function task s s' old new) → OnErr result (s' ≡ s) → FitRows pages s → FitRows pages s'
task_fits pages line function task s s' old new (Ok tag) sent same all = tasked_fits pages line function task s s' old new tag sent all
task_fits pages line function task s s' old new (Err why) sent same all = subst (FitRows pages) (sym same) all

pub logout_fits : (pages line : ℕ) (s s' : ClientState) (old new : Ports) (result : Result ℕ Refused)
    → IfOk result (LoggedOut line s s' old new) → OnErr result (s' ≡ s) → FitRows pages s → FitRows pages s'
logout_fits pages line s s' old new (Ok tag) sent same all = logged_out_fits pages line s s' old new tag sent all
logout_fits pages line s s' old new (Err why) sent same all = subst (FitRows pages) (sym same) all

pub turn_fits : (pages line : ℕ) (a b : Site) (result : Result LoginTurn NoMemory) → Turned line a b result → FitRows pages a.client → FitRows pages b.client
turn_fits pages line a b result turned = turned_fits pages line turned.steps a b turned.runs

pub take_fits : (pages : ℕ) (s s' : ClientState) (old new : Ports) (result : Result Taken NoMemory)
    → IfOk result (TakesEntry s s' old new) → OnErr result (TakesLater old.crq_shared s s' old.crq new.crq) → FitRows pages s → FitRows pages s'
take_fits pages s s' old new (Ok (takens.Answer tag response)) taken later all = taken_fits pages s s' old new (takens.Answer tag response) taken all
take_fits pages s s' old new (Ok (takens.Stray tag)) taken later all = taken_fits pages s s' old new (takens.Stray tag) taken all
take_fits pages s s' old new (Ok takens.Lost) taken later all = taken_fits pages s s' old new takens.Lost taken all
take_fits pages s s' old new (Ok takens.Other) taken later all = taken_fits pages s s' old new takens.Other taken all
take_fits pages s s' old new (Ok (takens.Again page word)) taken later all = taken_fits pages s s' old new (takens.Again page word) taken all
take_fits pages s s' old new (Ok (takens.Empty number)) taken later all = subst (FitRows pages) (sym taken.fetched.client) all
take_fits pages s s' old new (Err memory) taken later all = kept later
  where
    kept : TakesLater old.crq_shared s s' old.crq new.crq → FitRows pages s'
    kept (inl h) = subst (FitRows pages) (sym h.0) all
    kept (inr h) = subst (FitRows pages) (sym h.client) all
