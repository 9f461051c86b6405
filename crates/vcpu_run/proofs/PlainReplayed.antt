-- The replay over the lines of a plain client that ended: one more, what the next is to find, and the tables that no line writes over.
use Rattle.std.proofs.Common.{◌≡◌, ◌∙◌, inl, inr, ℕ, ◌++◌, List, [], ◌∷◌, IfSome, is_some, refl, sym, ap, subst, arith}
use Rattle.boot_text.specs.declared.verb.Verb.{Verb}
use Rattle.boot_text.specs.declared.verb.Verb.TheVariants as verbs
use Rattle.vscsi_client.specs.State.{ClientState, next_tag}
use Rattle.vcpu_run.specs.Credited.{Ended}
use Rattle.vcpu_run.specs.PlainScripts.{after_ended}
use Rattle.vcpu_run.specs.PlainSteps.{AgreeOnCredits, AreReplayedAs, FollowsReplay, HasCome, IsLoggingIn, IsResetting, KeptApart}
use Rattle.vcpu_run.specs.PlainTalk.{Between, is_sent}
use Rattle.vcpu_run.specs.Replay.{IsReplayed, Replay, after_line, ends_as, forgotten}
use Rattle.vcpu_run.specs.declared.script.Progress.{Progress}
use Rattle.vcpu_run.specs.declared.script.Progress.TheVariants as progress
use Rattle.vcpu_run.proofs.PlainAsking.{follows_still}

-- ---- one line more

pub after_push : (granted pages : ℕ) (now : Replay) (own : List Ended) (e : Ended)
    → after_ended granted pages now (own ++ e ∷ []) ≡ after_line granted pages (after_ended granted pages now own) e.verb
after_push granted pages now [] e = refl
after_push granted pages now (first ∷ own) e = after_push granted pages (after_line granted pages now first.verb) own e

pub replayed_more : (granted pages : ℕ) (now : Replay) (own : List Ended) (e : Ended) → IsReplayed granted pages now own
    → IfSome (ends_as granted pages (after_ended granted pages now own) e.verb) (λ said. e.outcome ≡ said) → IsReplayed granted pages now (own ++ e ∷ [])
replayed_more granted pages now [] e is ends = (ends, tt)
replayed_more granted pages now (first ∷ own) e is ends = (is.0, replayed_more granted pages (after_line granted pages now first.verb) own e is.1 ends)

-- ---- the next line is to begin

pub line_begins : (granted : ℕ) (verb : Verb) (now : Replay) (at : Between) → FollowsReplay granted now at → HasCome granted verb progress.Fresh now at
line_begins granted verbs.Login now at follows = inl follows
line_begins granted verbs.Reset now at follows = follows
line_begins granted (verbs.Take count) now at follows = record { wanted = omega arith; there = omega arith; left = follows }
line_begins granted verbs.Logout now at follows = follows
line_begins granted verbs.Tur now at follows = follows
line_begins granted (verbs.Read lba blocks place pieces table) now at follows = follows
line_begins granted (verbs.Write lba blocks place pieces table) now at follows = follows
line_begins granted (verbs.Command cdb) now at follows = follows
line_begins granted (verbs.CommandIn cdb place len pieces table) now at follows = follows
line_begins granted (verbs.CommandOut cdb place len pieces table) now at follows = follows
line_begins granted (verbs.Task function tag) now at follows = follows
line_begins granted (verbs.Data tag) now at follows = follows
line_begins granted verbs.Open now at follows = follows
line_begins granted verbs.Close now at follows = follows
line_begins granted (verbs.Post place len count) now at follows = follows
line_begins granted (verbs.Send to len seed place) now at follows = follows
line_begins granted (verbs.ChangeMac own) now at follows = follows
line_begins granted (verbs.Multicast control group) now at follows = follows
line_begins granted (verbs.Fill place len seed) now at follows = follows
line_begins granted (verbs.Poke place bytes) now at follows = follows
line_begins granted (verbs.Peek place len) now at follows = follows
line_begins granted (verbs.Tce entry page readable writable) now at follows = follows
line_begins granted (verbs.Hcall number arguments) now at follows = follows
line_begins granted verbs.Fail now at follows = follows

-- ---- where the client is as it was, and its queue as registered

pub agree_still : (granted : ℕ) (now : Replay) (at at' : Between) → AgreeOnCredits granted now at → at'.client ≡ at.client → at'.own.registered ≡ at.own.registered → AgreeOnCredits granted now at'
agree_still granted now at at' agree client registered = record {
  is_on = ap (λ (s : ClientState). is_some s.granted) client ∙ agree.is_on;
  there = λ on. registered ∙ agree.there on;
  outstanding = subst (λ (s : ClientState). AreReplayedAs s.outgoing now.outstanding) (sym client) agree.outstanding;
  none = agree.none;
  within = agree.within;
}

logging_still : (granted : ℕ) (now : Replay) (at at' : Between) → at'.client ≡ at.client → at'.own.registered ≡ at.own.registered → IsLoggingIn granted now at → IsLoggingIn granted now at'
logging_still granted now at at' client registered (inl follows) = inl (follows_still granted now at at' follows client registered)
logging_still granted now at at' client registered (inr (inl awaits)) = inr (inl (record {
  tag = ap next_tag client ∙ awaits.tag;
  waits = ap (λ (s : ClientState). s.handshake) client ∙ awaits.waits;
  off = awaits.off;
  none = awaits.none;
}))
logging_still granted now at at' client registered (inr (inr sent)) = inr (inr (record {
  tag = ap next_tag client ∙ sent.tag;
  registered = registered ∙ sent.registered;
  apart = subst KeptApart (sym client) sent.apart;
  login = ap (λ (s : ClientState). is_sent s.login) client ∙ sent.login;
  credits = agree_still granted now at at' sent.credits client registered;
}))

resetting_still : (granted : ℕ) (p : Progress) (now : Replay) (at at' : Between) → at'.client ≡ at.client → at'.own.registered ≡ at.own.registered → IsResetting granted p now at
    → IsResetting granted p now at'
resetting_still granted progress.Freed now at at' client registered (inl freed) =
    inl (record { registered = registered ∙ freed.registered; tag = ap next_tag client ∙ freed.tag })
resetting_still granted progress.Freed now at at' client registered (inr logging) = inr (logging_still granted (forgotten now) at at' client registered logging)
resetting_still granted progress.Fresh now at at' client registered follows = follows_still granted now at at' follows client registered
resetting_still granted (progress.Took taken) now at at' client registered follows = follows_still granted now at at' follows client registered
resetting_still granted (progress.Posted count) now at at' client registered follows = follows_still granted now at at' follows client registered

pub come_still : (granted : ℕ) (verb : Verb) (p : Progress) (now : Replay) (at at' : Between) → at'.client ≡ at.client → at'.own.registered ≡ at.own.registered
    → HasCome granted verb p now at → HasCome granted verb p now at'
come_still granted verbs.Login p now at at' client registered come = logging_still granted now at at' client registered come
come_still granted verbs.Reset p now at at' client registered come = resetting_still granted p now at at' client registered come
come_still granted (verbs.Take count) p now at at' client registered come =
    record { wanted = come.wanted; there = come.there; left = follows_still granted _ at at' come.left client registered }
come_still granted verbs.Logout p now at at' client registered come = follows_still granted now at at' come client registered
come_still granted verbs.Tur p now at at' client registered come = follows_still granted now at at' come client registered
come_still granted (verbs.Read lba blocks place pieces table) p now at at' client registered come = follows_still granted now at at' come client registered
come_still granted (verbs.Write lba blocks place pieces table) p now at at' client registered come = follows_still granted now at at' come client registered
come_still granted (verbs.Command cdb) p now at at' client registered come = follows_still granted now at at' come client registered
come_still granted (verbs.CommandIn cdb place len pieces table) p now at at' client registered come = follows_still granted now at at' come client registered
come_still granted (verbs.CommandOut cdb place len pieces table) p now at at' client registered come = follows_still granted now at at' come client registered
come_still granted (verbs.Task function tag) p now at at' client registered come = follows_still granted now at at' come client registered
come_still granted (verbs.Data tag) p now at at' client registered come = follows_still granted now at at' come client registered
come_still granted verbs.Open p now at at' client registered come = follows_still granted now at at' come client registered
come_still granted verbs.Close p now at at' client registered come = follows_still granted now at at' come client registered
come_still granted (verbs.Post place len count) p now at at' client registered come = follows_still granted now at at' come client registered
come_still granted (verbs.Send to len seed place) p now at at' client registered come = follows_still granted now at at' come client registered
come_still granted (verbs.ChangeMac own) p now at at' client registered come = follows_still granted now at at' come client registered
come_still granted (verbs.Multicast control group) p now at at' client registered come = follows_still granted now at at' come client registered
come_still granted (verbs.Fill place len seed) p now at at' client registered come = follows_still granted now at at' come client registered
come_still granted (verbs.Poke place bytes) p now at at' client registered come = follows_still granted now at at' come client registered
come_still granted (verbs.Peek place len) p now at at' client registered come = follows_still granted now at at' come client registered
come_still granted (verbs.Tce entry page readable writable) p now at at' client registered come = follows_still granted now at at' come client registered
come_still granted (verbs.Hcall number arguments) p now at at' client registered come = follows_still granted now at at' come client registered
come_still granted verbs.Fail p now at at' client registered come = follows_still granted now at at' come client registered
