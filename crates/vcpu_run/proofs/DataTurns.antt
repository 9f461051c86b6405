-- What a login's turn, the taking of an entry and a request leave of the data of a client's commands.
use Rattle.std.proofs.Common.{◌≡◌, ◌∙◌, ◌⊎◌, inl, inr, ℕ, ◌≤◌, ◌==◌, Bool, true, false, cond, List, [], ◌∷◌, ◌++◌, None, refl, sym, ap, subst, eqb-true}
use Rattle.std.proofs.lemmas.List.{map-append}
use Rattle.vio_num.specs.declared.entry.Entry.{Entry}
use Rattle.crq_session.specs.declared.answers.RegAnswer.TheVariants as reg
use Rattle.crq_session.specs.declared.answers.SendAnswer.{SendAnswer}
use Rattle.vio_trace.specs.declared.rows.AnswerRow.{AnswerRow}
use Rattle.vscsi_client.specs.Login.{found_by}
use Rattle.vscsi_client.specs.Ports.{Ports}
use Rattle.vscsi_client.specs.State.{ClientState, tags_of}
use Rattle.vscsi_client.specs.Taking.{TakesAs, answered, without_tag}
use Rattle.vscsi_client.specs.Turned.{Began, LoginStep, Looked, NotWritten, Put, RanOut, Registered, Runs, Site, Steps, Took, TookNone, Wrote, is_dropped, sent_by, sent_stage}
use Rattle.vscsi_client.specs.declared.answers.Taken.{Taken}
use Rattle.vscsi_client.specs.declared.answers.Taken.TheVariants as takens
use Rattle.vscsi_client.specs.declared.found.Found.{Found}
use Rattle.vscsi_client.specs.declared.found.Found.TheVariants as found
use Rattle.vscsi_client.specs.declared.op.Dir.{Dir}
use Rattle.vscsi_client.specs.declared.op.Dir.TheVariants as dirs
use Rattle.vscsi_client.specs.declared.outgoing.Outgoing.{Outgoing}
use Rattle.vscsi_client.specs.declared.row.Row.TheVariants as rows
use Rattle.vscsi_client.specs.declared.stage.Due.{Due}
use Rattle.vcpu_run.specs.AnswersTaken.{has_tag}
use Rattle.vcpu_run.specs.DataKept.{AreAsked, KeepsData}
use Rattle.vcpu_run.specs.TagRows.{is_given}
use Rattle.vcpu_run.specs.Takings.{Notes}
use Rattle.vcpu_run.proofs.Crediting.{here_or}
use Rattle.vcpu_run.proofs.DataStays.{data_answered, data_more, data_none, data_on, data_same}
use Rattle.vcpu_run.proofs.TagsKept.{has_else}
use Rattle.vcpu_run.proofs.TakingTurns.{slot_has}

-- a step that notes nothing
abbrev pub StaysData : ClientState → ClientState → Type 0
StaysData s s' = (xs : List AnswerRow) → KeepsData s s' xs xs

pub stays_same : (s s' t : ClientState) → s' ≡ t → t.rows ≡ s.rows → t.outgoing ≡ s.outgoing → StaysData s s'
stays_same s s' t is rows_are outgoing xs = data_same s s' xs xs (ap (λ (u : ClientState). u.rows) is ∙ rows_are) (ap (λ (u : ClientState). u.outgoing) is ∙ outgoing) refl

stays_none : (s s' t : ClientState) → s' ≡ t → t.rows ≡ s.rows → t.outgoing ≡ [] → StaysData s s'
stays_none s s' t is rows_are outgoing xs = data_none s s' xs xs (ap (λ (u : ClientState). u.rows) is ∙ rows_are) (ap (λ (u : ClientState). u.outgoing) is ∙ outgoing) refl

found_data : (entry : Entry) (f : Found) (s s' : ClientState) → s' ≡ found_by entry f s → StaysData s s'
found_data entry (found.Granted credits) s s' is = stays_none s s' (found_by entry (found.Granted credits) s) is refl refl
found_data entry (found.Rejected reason) s s' is = stays_same s s' (found_by entry (found.Rejected reason) s) is refl refl
found_data entry found.Lost s s' is = stays_none s s' (found_by entry found.Lost s) is refl refl
found_data entry found.Step s s' is = stays_same s s' (found_by entry found.Step s) is refl refl
found_data entry found.Answer s s' is = stays_same s s' (found_by entry found.Answer s) is refl refl
found_data entry found.Nothing s s' is = stays_same s s' (found_by entry found.Nothing s) is refl refl
found_data entry (found.InUse page word) s s' is = stays_same s s' (found_by entry (found.InUse page word) s) is refl refl

put_data : (due : Due) (others : List Due) (answer : SendAnswer) (s : ClientState) → StaysData s (sent_by due others answer s)
put_data due others answer s = at (is_dropped answer)
  where
    at : (b : Bool) → StaysData s (cond b s (record s { due = others; login = sent_stage due s.login }))
    at true = stays_same s s s refl refl refl
    at false = stays_same s (record s { due = others; login = sent_stage due s.login }) (record s { due = others; login = sent_stage due s.login }) refl refl refl

step_data : (line : ℕ) (step : LoginStep) (a b : Site) → Steps line step a b → StaysData a.client b.client
step_data line (Registered reg.Resource) a b h = stays_same a.client b.client _ h.0.registers.2 refl refl
step_data line (Registered reg.Success) a b h = stays_none a.client b.client _ h.0.registers.2 refl refl
step_data line (Registered (reg.Closed control)) a b h = stays_none a.client b.client _ h.0.registers.2 refl refl
step_data line (Registered (reg.Busy number held)) a b h = stays_none a.client b.client _ h.0.registers.1 refl refl
step_data line (Registered reg.Parameter) a b h = absurd h.0.registers
step_data line Took a b h = stays_same a.client b.client _ h.0.client refl refl
step_data line TookNone a b h = stays_same a.client b.client _ h.0.client refl refl
step_data line (Looked f) a b h = found_data h.0.entry f a.client b.client h.0.client
step_data line Began a b h = stays_same a.client b.client _ h.0.client refl refl
step_data line Wrote a b h = λ xs.
    data_more a.client b.client rows.Login xs xs refl (ap (λ (t : ClientState). t.rows) h.1.client)
    (λ asked. subst AreAsked (sym (ap (λ (t : ClientState). t.outgoing) h.1.client)) asked) refl
step_data line (NotWritten page word) a b h = stays_same a.client b.client _ h.1.client refl refl
step_data line (Put due answer) a b h = subst (StaysData a.client) (sym h.0.client) (put_data due h.0.others answer a.client)
step_data line RanOut a b h = stays_same a.client b.client _ h.client refl refl

pub runs_data : (line : ℕ) (steps : List LoginStep) (a b : Site) → Runs line steps a b → StaysData a.client b.client
runs_data line [] a b runs = λ xs. data_same a.client b.client xs xs (ap (λ (t : Site). t.client.rows) runs) (ap (λ (t : Site). t.client.outgoing) runs) refl
runs_data line (step ∷ steps) a b runs = λ xs.
    data_on a.client runs.0.client b.client xs xs xs (runs_data line steps a runs.0 runs.1 xs) (step_data line step runs.0 b runs.2 xs)

-- what is noted of an entry that was taken
abbrev pub NotesAs : Taken → List AnswerRow → List AnswerRow → Type 0
NotesAs (takens.Answer tag response) xs ys = Notes tag response xs ys
NotesAs _ xs ys = ys ≡ xs

pub takes_data : (taken : Taken) (s s' : ClientState) (old new : Ports) → TakesAs s s' old new taken → (xs ys : List AnswerRow) → NotesAs taken xs ys → KeepsData s s' xs ys
takes_data (takens.Answer tag response) s s' old new h xs ys notes =
    data_answered s s' tag response xs ys
    (ap (λ (t : ClientState). t.rows) h.judged.client ∙ ap (λ (t : ClientState). answered tag response t.rows) h.fetched.client)
    (ap (λ (t : ClientState). t.outgoing) h.judged.client ∙ ap (λ (t : ClientState). without_tag tag t.outgoing) h.fetched.client)
    (subst (λ (os : List Outgoing). has_tag tag (tags_of os) ≡ true) (ap (λ (t : ClientState). t.outgoing) h.fetched.client) (slot_has _ tag h.kept.outgoing h.judged.judged.2)) notes
takes_data (takens.Stray tag) s s' old new h xs ys same =
    data_same s s' xs ys (ap (λ (t : ClientState). t.rows) h.judged.client ∙ ap (λ (t : ClientState). t.rows) h.fetched.client)
    (ap (λ (t : ClientState). t.outgoing) h.judged.client ∙ ap (λ (t : ClientState). t.outgoing) h.fetched.client) same
takes_data takens.Lost s s' old new h xs ys same =
    data_none s s' xs ys (ap (λ (t : ClientState). t.rows) h.judged.client ∙ ap (λ (t : ClientState). t.rows) h.fetched.client) (ap (λ (t : ClientState). t.outgoing) h.judged.client) same
takes_data takens.Other s s' old new h xs ys same =
    data_same s s' xs ys (ap (λ (t : ClientState). t.rows) h.judged.client ∙ ap (λ (t : ClientState). t.rows) h.fetched.client)
    (ap (λ (t : ClientState). t.outgoing) h.judged.client ∙ ap (λ (t : ClientState). t.outgoing) h.fetched.client) same
takes_data (takens.Again page word) s s' old new h xs ys same =
    data_same s s' xs ys (ap (λ (t : ClientState). t.rows) h.judged.client ∙ ap (λ (t : ClientState). t.rows) h.fetched.client)
    (ap (λ (t : ClientState). t.outgoing) h.judged.client ∙ ap (λ (t : ClientState). t.outgoing) h.fetched.client) same
takes_data (takens.Empty number) s s' old new h xs ys same =
    data_same s s' xs ys (ap (λ (t : ClientState). t.rows) h.judged.client ∙ ap (λ (t : ClientState). t.rows) h.fetched.client)
    (ap (λ (t : ClientState). t.outgoing) h.judged.client ∙ ap (λ (t : ClientState). t.outgoing) h.fetched.client) same

-- a request that was sent is outstanding under the next tag
pub asked_more : (outgoing : List Outgoing) (o : Outgoing) → 1 ≤ o.tag → AreAsked outgoing → AreAsked (outgoing ++ o ∷ [])
asked_more outgoing o begun asked t has = by (here_or o.tag t)
  where
    all : tags_of (outgoing ++ o ∷ []) ≡ tags_of outgoing ++ o.tag ∷ []
    all = map-append (λ (x : Outgoing). x.tag) outgoing (o ∷ [])

    by : ((o.tag == t) ≡ true) ⊎ ((o.tag == t) ≡ false) → 1 ≤ t
    by (inl e) = subst (λ n. 1 ≤ n) (eqb-true o.tag t e) begun
    by (inr e) = asked t (sym (has_else t o.tag (tags_of outgoing) e) ∙ (sym (ap (has_tag t) all) ∙ has))

pub not_given : (dir : Dir) (at len : ℕ) → is_given (rows.Command dir at len None) ≡ false
not_given dirs.In at len = refl
not_given dirs.Out at len = refl
not_given dirs.Neither at len = refl
