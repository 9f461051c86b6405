-- Each step of a server unit within a turn keeps what is so of its rows and of what it laid, while its client talks to it.
use Rattle.std.proofs.Common.{◌∙◌, ◌⊎◌, inl, inr, ℕ, ◌≤◌, ◌++◌, All, List, [], ◌∷◌, length, subst}
use Rattle.std.proofs.lemmas.List.Elements.{All-head}
use Rattle.crq_session.specs.EndState.{EndState}
use Rattle.block_server.specs.Doings.{DoesOne, Doing, DropsAll, KeepsEntry, LogsOutFirst, LosesEntry, Prepares, PutsEntry, StaysAside, StaysUnit, TakesRequest, WritesAnswer}
use Rattle.block_server.specs.declared.request.Request.{Request}
use Rattle.block_server.specs.declared.service.Stage.{Stage}
use Rattle.vscsi_client.specs.State.{ClientState}
use Rattle.vcpu_run.specs.OwnRows.{KeepsRows}
use Rattle.vcpu_run.specs.OwnTurns.{IsServedAt, StillTalks, TalksWithin, unserved}
use Rattle.vcpu_run.specs.PlainTalk.{ArePending, Ask, DataLies, IsAsk, StartsAt, TagsRise}
use Rattle.vcpu_run.proofs.OwnNever.{never_loses}
use Rattle.vcpu_run.proofs.OwnPrepares.{prepares_data}
use Rattle.vcpu_run.proofs.OwnRowsLaid.{IsServedFor, prepares_rows}
use Rattle.vcpu_run.proofs.OwnRowsPut.{puts_rows}
use Rattle.vcpu_run.proofs.OwnRowsStay.{calls_rows, drops_rows, keeps_rows, logs_rows, service_stays, settles_rows, takes_rows}
use Rattle.vcpu_run.proofs.OwnRowsWrites.{writes_rows}
use Rattle.vcpu_run.proofs.OwnWrites.{worked_first}
use Rattle.vcpu_run.proofs.PlainReady.{all_rest}
use Rattle.vcpu_run.proofs.PlainServed.{pending_first}

-- a step beside the service leaves them as they are
pub aside_rows : (d d' : Doing) (s : ClientState) → StaysUnit d d' → StaysAside d d' → KeepsRows d s → KeepsRows d' s
aside_rows d d' s stays aside keeps = service_stays d d' s (record {
  id = stays.id;
  rows = aside.rows;
  stage = aside.served.stage;
  answer = aside.served.answer;
  first = λ request rest is. (rest, aside.served.pending ∙ is);
}) aside.client keeps

-- the tag of one of these is none above this
pub rise_at : (last : ℕ) (front : List Ask) (ask : Ask) (more : List Ask) → TagsRise last (front ++ ask ∷ more) → ask.tag ≤ last
rise_at last [] ask more rise = rise.0
rise_at last (first ∷ front) ask more rise = rise_at last front ask more rise.2

pub prepares_keep : (granted : ℕ) (d d' : Doing) (s : ClientState) (own : EndState) (coming0 whole0 : List Ask) → StillTalks granted d s own coming0 whole0 → Prepares d d'
    → KeepsRows d s → KeepsRows d' s
prepares_keep granted d d' s own coming0 whole0 still step keeps =
    let first = pending_first step.request step.rest still.pending (subst (λ (requests : List Request). ArePending requests still.pending) step.pending still.talks.pends) in
    let talks : TalksWithin granted d s own still.answered (first.0 ∷ first.1) still.coming still.answers =
    subst (λ (pending : List Ask). TalksWithin granted d s own still.answered pending still.coming still.answers) first.2 still.talks in
    let tables : All (DataLies d.client) ((first.0 ∷ first.1) ++ still.coming) =
    subst (λ (stage : Stage). All (DataLies d.client) (unserved stage (first.0 ∷ first.1) ++ still.coming)) step.first talks.tables in
    let lies : DataLies d.client first.0 = All-head (DataLies d.client) first.0 (first.1 ++ still.coming) tables in
    let for : IsServedFor d s step.request first.0 = record {
      is_ask = All-head IsAsk first.0 (first.1 ++ still.coming) (all_rest IsAsk still.answered (first.0 ∷ first.1 ++ still.coming) talks.all.each);
      pending = first.3;
      lies = lies;
      starts = All-head (StartsAt s.rows) first.0 (first.1 ++ still.coming) talks.starts;
      known = rise_at (length s.rows) still.answered first.0 (first.1 ++ still.coming) talks.all.tags;
    } in
    prepares_rows d d' s first.0 step talks.goes.usable for (prepares_data d d' first.0 step talks.goes.usable lies first.3) keeps

pub writes_keep : (granted : ℕ) (d d' : Doing) (s : ClientState) (own : EndState) (coming0 whole0 : List Ask) → StillTalks granted d s own coming0 whole0 → WritesAnswer d d'
    → KeepsRows d s → KeepsRows d' s
writes_keep granted d d' s own coming0 whole0 still step keeps =
    let first = pending_first step.request step.rest still.pending (subst (λ (requests : List Request). ArePending requests still.pending) step.pending still.talks.pends) in
    let talks : TalksWithin granted d s own still.answered (first.0 ∷ first.1) still.coming still.answers =
    subst (λ (pending : List Ask). TalksWithin granted d s own still.answered pending still.coming still.answers) first.2 still.talks in
    writes_rows granted d d' s first.0 step talks.goes.usable
    (All-head IsAsk first.0 (first.1 ++ still.coming) (all_rest IsAsk still.answered (first.0 ∷ first.1 ++ still.coming) talks.all.each)) first.3
    (worked_first granted d step.outcome first.0 first.1 (subst (IsServedAt granted d (first.0 ∷ first.1)) step.first talks.served).1) keeps

pub rows_does : (granted : ℕ) (d d' : Doing) (s : ClientState) (own : EndState) (coming0 whole0 : List Ask) → StillTalks granted d s own coming0 whole0 → DoesOne d d'
    → KeepsRows d s → KeepsRows d' s
rows_does granted d d' s own coming0 whole0 still (inl step) keeps = calls_rows d d' s step keeps
rows_does granted d d' s own coming0 whole0 still (inr (inl step)) keeps = settles_rows d d' s step keeps
rows_does granted d d' s own coming0 whole0 still (inr (inr (inl step))) keeps = aside_rows d d' s step.stays step.aside keeps
rows_does granted d d' s own coming0 whole0 still (inr (inr (inr (inl step)))) keeps = aside_rows d d' s step.stays step.aside keeps
rows_does granted d d' s own coming0 whole0 still (inr (inr (inr (inr (inl step))))) keeps = aside_rows d d' s step.stays step.aside keeps
rows_does granted d d' s own coming0 whole0 still (inr (inr (inr (inr (inr (inl step)))))) keeps = aside_rows d d' s step.stays step.aside keeps
rows_does granted d d' s own coming0 whole0 still (inr (inr (inr (inr (inr (inr (inl step))))))) keeps = aside_rows d d' s step.stays step.aside keeps
rows_does granted d d' s own coming0 whole0 still (inr (inr (inr (inr (inr (inr (inr (inl step)))))))) keeps = aside_rows d d' s step.stays step.aside keeps
rows_does granted d d' s own coming0 whole0 still (inr (inr (inr (inr (inr (inr (inr (inr rest)))))))) keeps = serves rest
  where
    serves : TakesRequest d d' ⊎ (DropsAll d d' ⊎ (LogsOutFirst d d' ⊎ (Prepares d d' ⊎ (WritesAnswer d d' ⊎ (KeepsEntry d d' ⊎ (PutsEntry d d' ⊎ LosesEntry d d')))))) → KeepsRows d' s
    serves (inl step) = takes_rows d d' s step keeps
    serves (inr (inl step)) = drops_rows d d' s step keeps
    serves (inr (inr (inl step))) = logs_rows d d' s step keeps
    serves (inr (inr (inr (inl step)))) = prepares_keep granted d d' s own coming0 whole0 still step keeps
    serves (inr (inr (inr (inr (inl step))))) = writes_keep granted d d' s own coming0 whole0 still step keeps
    serves (inr (inr (inr (inr (inr (inl step)))))) = keeps_rows d d' s step keeps
    serves (inr (inr (inr (inr (inr (inr (inl step))))))) = puts_rows d d' s step keeps
    serves (inr (inr (inr (inr (inr (inr (inr step))))))) = absurd (never_loses granted d d' s own coming0 whole0 still step)
