-- A client's server unit stays the same, whatever the client does.
use Rattle.std.proofs.Common.{◌≡◌, ◌∙◌, Bool, true, false, cond, List, [], ◌∷◌, ℕ, refl, ap}
use Rattle.vio_num.specs.declared.entry.Entry.{Entry}
use Rattle.crq_session.specs.declared.answers.SendAnswer.{SendAnswer}
use Rattle.crq_session.specs.declared.answers.RegAnswer.TheVariants as reg
use Rattle.vscsi_client.specs.Ports.{Ports}
use Rattle.vscsi_client.specs.State.{ClientState}
use Rattle.vscsi_client.specs.Taking.{TakesAs, taken_by}
use Rattle.vscsi_client.specs.Login.{found_by}
use Rattle.vscsi_client.specs.Turned.{Began, LoginStep, Looked, NotWritten, Put, RanOut, Registered, Runs, Site, Steps, Took, TookNone, Wrote, is_dropped, sent_by, sent_stage}
use Rattle.vscsi_client.specs.declared.answers.Taken.{Taken}
use Rattle.vscsi_client.specs.declared.answers.Taken.TheVariants as takens
use Rattle.vscsi_client.specs.declared.found.Found.{Found}
use Rattle.vscsi_client.specs.declared.found.Found.TheVariants as found
use Rattle.vscsi_client.specs.declared.stage.Due.{Due}
use Rattle.vcpu_run.specs.Takings.{SameServer}

server_by : (s s' t : ClientState) → s' ≡ t → t.server ≡ s.server → SameServer s s'
server_by s s' t is same = ap (λ (u : ClientState). u.server) is ∙ same

-- an entry was taken as something
taken_server : (entry : Entry) (taken : Taken) (s : ClientState) → SameServer s (taken_by entry taken s)
taken_server entry (takens.Answer tag response) s = refl
taken_server entry takens.Lost s = refl
taken_server entry takens.Other s = refl
taken_server entry (takens.Again page word) s = refl
taken_server entry (takens.Stray tag) s = refl
taken_server entry (takens.Empty number) s = refl

pub takes_server : (s s' : ClientState) (old new : Ports) (taken : Taken) → TakesAs s s' old new taken → SameServer s s'
takes_server s s' old new taken takes =
    let j = takes.judged in
    server_by s s' _ j.client
    (taken_server j.entry taken (record takes.kept { kept = j.rest }) ∙ ap (λ (t : ClientState). t.server) takes.fetched.client)

-- the steps of a turn of a login
found_server : (entry : Entry) (f : Found) (s : ClientState) → SameServer s (found_by entry f s)
found_server entry (found.Granted credits) s = refl
found_server entry (found.Rejected reason) s = refl
found_server entry found.Lost s = refl
found_server entry found.Step s = refl
found_server entry found.Answer s = refl
found_server entry found.Nothing s = refl
found_server entry (found.InUse page word) s = refl

put_server : (due : Due) (others : List Due) (answer : SendAnswer) (s : ClientState) → SameServer s (sent_by due others answer s)
put_server due others answer s = at (is_dropped answer)
  where
    at : (b : Bool) → SameServer s (cond b s (record s { due = others; login = sent_stage due s.login }))
    at true = refl
    at false = refl

step_server : (line : ℕ) (step : LoginStep) (a b : Site) → Steps line step a b → SameServer a.client b.client
step_server line (Registered reg.Resource) a b h = ap (λ (t : ClientState). t.server) h.0.registers.2
step_server line (Registered reg.Success) a b h = ap (λ (t : ClientState). t.server) h.0.registers.2
step_server line (Registered (reg.Closed control)) a b h = ap (λ (t : ClientState). t.server) h.0.registers.2
step_server line (Registered (reg.Busy number held)) a b h = ap (λ (t : ClientState). t.server) h.0.registers.1
step_server line (Registered reg.Parameter) a b h = absurd h.0.registers
step_server line Took a b h = ap (λ (t : ClientState). t.server) h.0.client
step_server line TookNone a b h = ap (λ (t : ClientState). t.server) h.0.client
step_server line (Looked f) a b h = ap (λ (t : ClientState). t.server) h.0.client ∙ found_server h.0.entry f a.client
step_server line Began a b h = ap (λ (t : ClientState). t.server) h.0.client
step_server line Wrote a b h = ap (λ (t : ClientState). t.server) h.1.client
step_server line (NotWritten page word) a b h = ap (λ (t : ClientState). t.server) h.1.client
step_server line (Put due answer) a b h = ap (λ (t : ClientState). t.server) h.0.client ∙ put_server due h.0.others answer a.client
step_server line RanOut a b h = ap (λ (t : ClientState). t.server) h.client

pub runs_server : (line : ℕ) (steps : List LoginStep) (a b : Site) → Runs line steps a b → SameServer a.client b.client
runs_server line [] a b runs = ap (λ (t : Site). t.client.server) runs
runs_server line (step ∷ steps) a b runs = step_server line step runs.0 b runs.2 ∙ runs_server line steps a runs.0 runs.1
