-- The steps that no turn of a server unit makes while its client talks to it: what is to come are requests alone, and nothing but an answer is kept.
use Rattle.std.proofs.Common.{◌≡◌, ◌∙◌, ◌⊎◌, inl, inr, ℕ, ◌++◌, All, true, List, [], ◌∷◌, Some, None, length, map, refl, sym, ap, subst, arith, true≢false}
use Rattle.std.proofs.lemmas.Bool.Decides.{nat_tests}
use Rattle.std.proofs.lemmas.List.Elements.{All-head}
use Rattle.vio_num.specs.Entry.{first_byte, is_srp_entry, iu_address, iu_length, kind_of}
use Rattle.vio_num.specs.declared.entry.Entry.{Entry}
use Rattle.vio_num.specs.declared.entry.Kind.TheVariants.{Command, Event, Init}
use Rattle.crq_session.specs.EndState.{EndState}
use Rattle.crq_session.specs.declared.handshake.Handshake.TheVariants.{Down, Up}
use Rattle.srp_iu.specs.Grammar.{Spells}
use Rattle.tce_window.specs.PortState.{PortState}
use Rattle.block_server.specs.Doings.{AsksNothing, Doing, FreesLine, HearsDatagram, HearsInit, IsLostBy, LosesEntry, OpensLine, PassesEntry, SendsKept}
use Rattle.block_server.specs.Talk.{IsReadWhole}
use Rattle.block_server.specs.declared.line.Kept.TheVariants as keeps
use Rattle.block_server.specs.declared.service.Stage.{Stage}
use Rattle.block_server.specs.declared.service.Stage.TheVariants as stages
use Rattle.vscsi_client.specs.State.{ClientState}
use Rattle.vscsi_client.specs.Units.{slot_address}
use Rattle.vcpu_run.specs.OwnTurns.{IsServedAt, KeepsAnswer, StillTalks}
use Rattle.vcpu_run.specs.PlainTalk.{AreSaidThere, Ask, IsAsk, IsAskedThere, IsOwnWindow, word_of}
use Rattle.vcpu_run.proofs.AskedBytes.{asked_bytes}
use Rattle.vcpu_run.proofs.PlainReady.{all_rest}
use Rattle.vcpu_run.proofs.PlainSlots.{slot_on}
use Rattle.vcpu_run.proofs.PlainStands.{IsOnPage, read_shown}

-- ---- what is to come first

pub record ComesFirst (window : PortState) (entry : Entry) (rest : List Entry) (coming : List Ask) : Type 0 where
  pub ask : Ask
  pub more : List Ask
  pub is : coming ≡ ask ∷ more
  pub said : IsAskedThere window entry (slot_address ask.slot) ask.bytes ask.iu
  pub others : AreSaidThere window rest (map word_of more)

pub comes_first : (window : PortState) (entries : List Entry) (coming : List Ask) (entry : Entry) (rest : List Entry) → entries ≡ entry ∷ rest
    → AreSaidThere window entries (map word_of coming) → ComesFirst window entry rest coming
comes_first window entries coming entry rest is said = by coming (subst (λ (list : List Entry). AreSaidThere window list (map word_of coming)) is said)
  where
    by : (coming : List Ask) → AreSaidThere window (entry ∷ rest) (map word_of coming) → ComesFirst window entry rest coming
    by [] said = absurd said
    by (ask ∷ more) said = record { ask = ask; more = more; is = refl; said = said.0; others = said.1 }

srp_kind : (entry : Entry) → is_srp_entry entry ≡ true → kind_of (first_byte entry) ≡ Command
srp_kind entry is = let first : first_byte entry ≡ 0x80 = grind (arith, nat_tests, is) in ap kind_of first

no_init : (entry : Entry) → is_srp_entry entry ≡ true → kind_of (first_byte entry) ≡ Init → ⊥
no_init entry is kind = by (sym (srp_kind entry is) ∙ kind)
  where
    by : Command ≡ Init → ⊥
    by e = cc (e)

no_event : (entry : Entry) → is_srp_entry entry ≡ true → kind_of (first_byte entry) ≡ Event → ⊥
no_event entry is kind = by (sym (srp_kind entry is) ∙ kind)
  where
    by : Command ≡ Event → ⊥
    by e = cc (e)

-- it is a request
first_srp : (granted : ℕ) (d : Doing) (s : ClientState) (own : EndState) (coming0 whole0 : List Ask) (entry : Entry) (rest : List Entry) → StillTalks granted d s own coming0 whole0
    → d.coming ≡ entry ∷ rest → is_srp_entry entry ≡ true
first_srp granted d s own coming0 whole0 entry rest still is = (comes_first d.client d.coming still.coming entry rest is still.talks.comes).said.srp

-- what was read of it is it
pub read_ask : (window : PortState) → IsOwnWindow window → (entry : Entry) (ask : Ask) → IsAsk ask → IsAskedThere window entry (slot_address ask.slot) ask.bytes ask.iu
    → (address : ℕ) (bytes : List ℕ) → address ≡ iu_address entry → length bytes ≡ iu_length entry → IsReadWhole window address bytes → bytes ≡ ask.bytes
read_ask window own entry ask is_ask said address bytes at long read =
    read_shown window own (slot_address ask.slot) (length ask.bytes) bytes on.some on.fits
    (subst (λ (a : ℕ). IsReadWhole window a bytes) (at ∙ said.address_is) read) (long ∙ said.long)
    ∙ said.shows
  where
    on : IsOnPage window (slot_address ask.slot) (length ask.bytes)
    on = slot_on window own ask.slot (length ask.bytes) is_ask.slot_is said.some said.few

-- ---- what cannot be

-- no entry is kept that answers nothing
no_reply : (granted : ℕ) (d : Doing) (pending : List Ask) (stage : Stage) (entry : Entry) → IsServedAt granted d pending stage → d.kept ≡ Some (keeps.Reply entry) → ⊥
no_reply granted d pending stages.Start entry served is = cc (served, is)
no_reply granted d pending (stages.Answer outcome) entry served is = let none = served.0 in cc (none, is)
no_reply granted d pending (stages.Entry outcome) entry served is = by served.0
  where
    by : (d.kept ≡ None) ⊎ KeepsAnswer d outcome → ⊥
    by (inl none) = cc (none, is)
    by (inr keeps) = let kept = keeps.kept in cc (kept, is)
no_reply granted d pending stage entry served is = absurd served

down_up : (d : Doing) → d.handshake ≡ Up → d.handshake ≡ Down → ⊥
down_up d up down = cc (up, down)

pub never_frees : (granted : ℕ) (d d' : Doing) (s : ClientState) (own : EndState) (coming0 whole0 : List Ask) → StillTalks granted d s own coming0 whole0 → FreesLine d d' → ⊥
never_frees granted d d' s own coming0 whole0 still step = true≢false (sym step.over ∙ still.talks.goes.going)

pub never_opens : (granted : ℕ) (d d' : Doing) (s : ClientState) (own : EndState) (coming0 whole0 : List Ask) → StillTalks granted d s own coming0 whole0 → OpensLine d d' → ⊥
never_opens granted d d' s own coming0 whole0 still step = down_up d still.talks.goes.up step.was

pub never_sends : (granted : ℕ) (d d' : Doing) (s : ClientState) (own : EndState) (coming0 whole0 : List Ask) → StillTalks granted d s own coming0 whole0 → SendsKept d d' → ⊥
never_sends granted d d' s own coming0 whole0 still step = no_reply granted d still.pending d.stage step.entry still.talks.served step.was

pub never_inits : (granted : ℕ) (d d' : Doing) (s : ClientState) (own : EndState) (coming0 whole0 : List Ask) → StillTalks granted d s own coming0 whole0 → HearsInit d d' → ⊥
never_inits granted d d' s own coming0 whole0 still step = no_init step.entry (first_srp granted d s own coming0 whole0 step.entry d'.coming still step.heard) step.kind

pub never_datagram : (granted : ℕ) (d d' : Doing) (s : ClientState) (own : EndState) (coming0 whole0 : List Ask) → StillTalks granted d s own coming0 whole0 → HearsDatagram d d' → ⊥
never_datagram granted d d' s own coming0 whole0 still step =
    true≢false (sym (first_srp granted d s own coming0 whole0 step.entry d'.coming still step.heard) ∙ step.other)

pub never_lost : (granted : ℕ) (d d' : Doing) (s : ClientState) (own : EndState) (coming0 whole0 : List Ask) → StillTalks granted d s own coming0 whole0 → IsLostBy d d' → ⊥
never_lost granted d d' s own coming0 whole0 still step = no_event step.entry (first_srp granted d s own coming0 whole0 step.entry d'.coming still step.heard) step.kind

pub never_loses : (granted : ℕ) (d d' : Doing) (s : ClientState) (own : EndState) (coming0 whole0 : List Ask) → StillTalks granted d s own coming0 whole0 → LosesEntry d d' → ⊥
never_loses granted d d' s own coming0 whole0 still step = true≢false (sym still.talks.goes.reaches ∙ step.reaches)

pub never_passes : (granted : ℕ) (d d' : Doing) (s : ClientState) (own : EndState) (coming0 whole0 : List Ask) → StillTalks granted d s own coming0 whole0 → PassesEntry d d' → ⊥
never_passes granted d d' s own coming0 whole0 still step =
    let first = comes_first d.client d.coming still.coming step.entry d'.coming step.heard still.talks.comes in
    let reads : AsksNothing d step.entry = step.nothing first.said.srp in
    let is_ask : IsAsk first.ask =
    All-head IsAsk first.ask first.more (subst (All IsAsk) first.is
    (all_rest IsAsk still.pending still.coming (all_rest IsAsk still.answered (still.pending ++ still.coming) still.talks.all.each))) in
    let same : reads.bytes ≡ first.ask.bytes =
    read_ask d.client still.talks.goes.usable step.entry first.ask is_ask first.said (iu_address step.entry) reads.bytes refl reads.long reads.read in
    asked_bytes reads.bytes first.ask.iu reads.iu is_ask.kind (subst (λ (bytes : List ℕ). Spells bytes first.ask.iu) (sym same) first.said.spelled) reads.spelled reads.ignored
