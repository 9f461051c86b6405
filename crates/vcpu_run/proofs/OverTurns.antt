-- A turn of a server unit, whether its client talks to it as the turn begins, or its session is over, or was: step by step it is so of them, and of
-- its rows and of what it laid.
use Rattle.std.proofs.Common.{inl, inr, ℕ, false, List}
use Rattle.crq_session.specs.EndState.{EndState}
use Rattle.block_server.specs.Doings.{DoesOne, Doing}
use Rattle.vscsi_client.specs.State.{ClientState}
use Rattle.vcpu_run.specs.OwnRows.{KeepsRows}
use Rattle.vcpu_run.specs.PlainTalk.{Ask}
use Rattle.vcpu_run.proofs.OverDoes.{over_does}
use Rattle.vcpu_run.proofs.OverRows.{over_rows}
use Rattle.vcpu_run.proofs.OwnDoes.{TalksOrOver, talks_does}
use Rattle.vcpu_run.proofs.OwnRowsDo.{rows_does}

-- both of these
abbrev pub KeepsBoth : (granted : ℕ) → Doing → ClientState → EndState → (coming0 whole0 : List Ask) → Type 0
KeepsBoth granted d s own coming0 whole0 = TalksOrOver granted d s own coming0 whole0 × KeepsRows d s

pub both_does : (granted : ℕ) (d d' : Doing) (s : ClientState) (own : EndState) (coming0 whole0 : List Ask) → KeepsBoth granted d s own coming0 whole0 → DoesOne d d'
    → KeepsBoth granted d' s own coming0 whole0
both_does granted d d' s own coming0 whole0 (inl still, keeps) step =
    (talks_does granted d d' s own coming0 whole0 still step, rows_does granted d d' s own coming0 whole0 still step keeps)
both_does granted d d' s own coming0 whole0 (inr is, keeps) step =
    (inr (over_does granted false d d' s own is step), over_rows granted false d d' s own is step keeps)
