-- A step of a server unit within a turn, while its client talks to it, whatever rights the client's window has: both talk still, or the session is
-- over, and the client is yet to hear of that.
use Rattle.std.proofs.Common.{◌⊎◌, inl, inr, ℕ, false, List}
use Rattle.crq_session.specs.EndState.{EndState}
use Rattle.block_server.specs.Doings.{DoesOne, Doing, DropsAll, KeepsEntry, LogsOutFirst, LosesEntry, Prepares, PutsEntry, TakesRequest, WritesAnswer}
use Rattle.vscsi_client.specs.State.{ClientState}
use Rattle.vcpu_run.specs.OwnOver.{IsOver}
use Rattle.vcpu_run.specs.OwnTurns.{StillTalks}
use Rattle.vcpu_run.specs.PlainTalk.{Ask}
use Rattle.vcpu_run.proofs.OwnDrops.{drops_over}
use Rattle.vcpu_run.proofs.OwnIdle.{calls_only, settles_none}
use Rattle.vcpu_run.proofs.OwnNever.{never_datagram, never_frees, never_inits, never_loses, never_opens, never_passes, never_sends}
use Rattle.vcpu_run.proofs.OwnOuts.{logs_on}
use Rattle.vcpu_run.proofs.OwnPrepares.{prepares_on}
use Rattle.vcpu_run.proofs.OwnPuts.{keeps_entry, puts_on}
use Rattle.vcpu_run.proofs.OwnTakes.{takes_on}
use Rattle.vcpu_run.proofs.OwnWrites.{writes_on}

-- both talk still, or it is over
abbrev pub TalksOrOver : (granted : ℕ) → Doing → ClientState → EndState → (coming0 whole0 : List Ask) → Type 0
TalksOrOver granted d s own coming0 whole0 = StillTalks granted d s own coming0 whole0 ⊎ IsOver granted false d s own

pub talks_does : (granted : ℕ) (d d' : Doing) (s : ClientState) (own : EndState) (coming0 whole0 : List Ask) → StillTalks granted d s own coming0 whole0 → DoesOne d d'
    → TalksOrOver granted d' s own coming0 whole0
talks_does granted d d' s own coming0 whole0 still (inl step) = inl (calls_only granted d d' s own coming0 whole0 step still)
talks_does granted d d' s own coming0 whole0 still (inr (inl step)) = inl (settles_none granted d d' s own coming0 whole0 step still)
talks_does granted d d' s own coming0 whole0 still (inr (inr (inl step))) = absurd (never_frees granted d d' s own coming0 whole0 still step)
talks_does granted d d' s own coming0 whole0 still (inr (inr (inr (inl step)))) = absurd (never_opens granted d d' s own coming0 whole0 still step)
talks_does granted d d' s own coming0 whole0 still (inr (inr (inr (inr (inl step))))) = absurd (never_sends granted d d' s own coming0 whole0 still step)
talks_does granted d d' s own coming0 whole0 still (inr (inr (inr (inr (inr (inl step)))))) = absurd (never_inits granted d d' s own coming0 whole0 still step)
talks_does granted d d' s own coming0 whole0 still (inr (inr (inr (inr (inr (inr (inl step))))))) = absurd (never_datagram granted d d' s own coming0 whole0 still step)
talks_does granted d d' s own coming0 whole0 still (inr (inr (inr (inr (inr (inr (inr (inl step)))))))) = absurd (never_passes granted d d' s own coming0 whole0 still step)
talks_does granted d d' s own coming0 whole0 still (inr (inr (inr (inr (inr (inr (inr (inr rest)))))))) = serves rest
  where
    serves : TakesRequest d d' ⊎ (DropsAll d d' ⊎ (LogsOutFirst d d' ⊎ (Prepares d d' ⊎ (WritesAnswer d d' ⊎ (KeepsEntry d d' ⊎ (PutsEntry d d' ⊎ LosesEntry d d'))))))
        → TalksOrOver granted d' s own coming0 whole0
    serves (inl step) = inl (takes_on granted d d' s own coming0 whole0 step still)
    serves (inr (inl step)) = inr (drops_over granted d d' s own coming0 whole0 still step)
    serves (inr (inr (inl step))) = inl (logs_on granted d d' s own coming0 whole0 step still)
    serves (inr (inr (inr (inl step)))) = inl (prepares_on granted d d' s own coming0 whole0 step still)
    serves (inr (inr (inr (inr (inl step))))) = inl (writes_on granted d d' s own coming0 whole0 step still)
    serves (inr (inr (inr (inr (inr (inl step)))))) = inl (keeps_entry granted d d' s own coming0 whole0 step still)
    serves (inr (inr (inr (inr (inr (inr (inl step))))))) = inl (puts_on granted d d' s own coming0 whole0 step still)
    serves (inr (inr (inr (inr (inr (inr (inr step))))))) = absurd (never_loses granted d d' s own coming0 whole0 still step)
