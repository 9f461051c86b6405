-- In the midst of a turn of a plain client's login, before anything is put: what is so between two entries that it takes.
use Rattle.std.proofs.Common.{◌≡◌, ◌∙◌, ◌⊎◌, inl, inr, ℕ, ◌+◌, ◌++◌, ◌||◌, All, Bool, true, false, true≢false, List, [], ◌∷◌, Option, Some, None, arith, length, refl, sym, ap, ap₂, subst}
use Rattle.std.specs.List.{list_any}
use Rattle.std.specs.Prelude.{MatchOption, ⊤}
use Rattle.std.proofs.lemmas.List.Elements.{All-cons, All-nil, All-push}
use Rattle.vio_num.specs.declared.entry.Entry.{Entry}
use Rattle.srp_iu.specs.declared.unit.Iu.{Iu}
use Rattle.srp_iu.specs.declared.unit.Iu.TheVariants as units
use Rattle.tce_window.specs.PortState.{PortState}
use Rattle.block_server.specs.Talk.{to_come}
use Rattle.vscsi_client.specs.Login.{Finds, IsToOthers, SaysIn, SaysOf, found_by, login_slot}
use Rattle.vscsi_client.specs.State.{ClientState}
use Rattle.vscsi_client.specs.Turned.{LoginStep, SameHands, Site, Steps, ends_login, finds_use, found_none_last, times_taken}
use Rattle.vscsi_client.specs.Turned.LoginStep.{Looked, Took, TookNone}
use Rattle.vscsi_client.specs.declared.found.Found.{Found}
use Rattle.vscsi_client.specs.declared.found.Found.TheVariants.{Answer, Granted, InUse, Lost, Nothing, Rejected, Step}
use Rattle.vscsi_client.specs.declared.stage.Stage.TheVariants.{Idle}
use Rattle.vcpu_run.specs.PlainSteps.{KeptApart}
use Rattle.vcpu_run.specs.PlainTalk.{AskedParts, Between, IsBeginning, IsCalm}
use Rattle.vcpu_run.proofs.PlainLooked.{KeptOne, LookedAt}
use Rattle.vcpu_run.proofs.PlainMeets.{HasMet, meets_plainly}
use Rattle.vcpu_run.proofs.PlainMids.{IsClear, TookNothing, TookOne, TookThen, mid_at, takes_looks, takes_none, took_nothing, took_then}
use Rattle.vcpu_run.proofs.PlainStill.{begun_still}

-- What the turn left of the client as it was.
pub record Since (at : Between) (b : Site) : Type 0 where
  pub registered : b.at.crq.registered ≡ at.own.registered
  pub granted : b.client.granted ≡ at.client.granted
  pub outgoing : b.client.outgoing ≡ at.client.outgoing
  pub login : b.client.login ≡ at.client.login
  pub tabled : b.client.tabled ≡ at.client.tabled
  pub rows : b.client.rows ≡ at.client.rows

-- What these steps took, and what is left.
pub record Counts (at : Between) (steps : List LoginStep) (b : Site) : Type 0 where
  pub left : times_taken steps + length (to_come b.at.crq) ≡ length (to_come at.own)
  pub spent : found_none_last steps ≡ true → to_come b.at.crq ≡ []
  pub unused : list_any finds_use steps ≡ false

-- The client waits to hear of its server unit.
pub record Begun (granted : ℕ) (at : Between) (b : Site) : Type 0 where
  pub calm : IsCalm granted (mid_at at b) []
  pub begun : IsBeginning (mid_at at b) []
  pub crq_alone : b.at.crq_shared ≡ false
  pub own_alone : b.at.own_shared ≡ false

-- Both have heard of one another, and the login's answer was not taken.
pub record Clears (granted : ℕ) (at : Between) (b : Site) : Type 0 where
  pub asked : AskedParts
  pub answers : List Iu
  pub clear : IsClear granted at b asked answers
  pub apart : KeptApart b.client

abbrev pub AtRest : (granted : ℕ) → Between → Site → Type 0
AtRest granted at b = Begun granted at b ⊎ Clears granted at b

-- What is so where no entry is held.
pub record Rests (granted : ℕ) (at : Between) (steps : List LoginStep) (b : Site) : Type 0 where
  pub since : Since at b
  pub counts : Counts at steps b
  pub rest : AtRest granted at b

-- An entry was taken last, and is held.
pub record Holds (granted line : ℕ) (at : Between) (steps : List LoginStep) (b : Site) : Type 0 where
  pub before : List LoginStep
  pub is : steps ≡ Took ∷ before
  pub c : Site
  pub rests : Rests granted at before c
  pub took : Steps line Took c b
  pub hands : SameHands c b

-- where no login is under way, none that is kept is its answer
pub idle_apart : (s : ClientState) → s.login ≡ Idle → KeptApart s
idle_apart s idle = by s.kept
  where
    by : (kept : List Entry) → All (λ (entry : Entry). login_slot entry.low s.login ≡ None) kept
    by [] = All-nil (λ (entry : Entry). login_slot entry.low s.login ≡ None)
    by (entry ∷ kept) = All-cons (λ (entry : Entry). login_slot entry.low s.login ≡ None) entry kept (ap (login_slot entry.low) idle) (by kept)

rest_calm : (granted : ℕ) (at : Between) (b : Site) → AtRest granted at b → IsCalm granted (mid_at at b) []
rest_calm granted at b (inl begun) = begun.calm
rest_calm granted at b (inr clears) = clears.clear.calm

rest_crq : (granted : ℕ) (at : Between) (b : Site) → AtRest granted at b → b.at.crq_shared ≡ false
rest_crq granted at b (inl begun) = begun.crq_alone
rest_crq granted at b (inr clears) = clears.clear.crq_alone

rest_own : (granted : ℕ) (at : Between) (b : Site) → AtRest granted at b → b.at.own_shared ≡ false
rest_own granted at b (inl begun) = begun.own_alone
rest_own granted at b (inr clears) = clears.clear.own_alone

-- its queue is registered, and nothing is due or held
pub rest_there : (granted : ℕ) (at : Between) (b : Site) → AtRest granted at b → b.at.crq.registered ≡ true
rest_there granted at b (inl begun) = begun.begun.registered
rest_there granted at b (inr clears) = clears.clear.talk.registered

pub rest_held : (granted : ℕ) (at : Between) (b : Site) → AtRest granted at b → b.client.held ≡ None
rest_held granted at b (inl begun) = begun.begun.held
rest_held granted at b (inr clears) = clears.clear.talk.held

pub rest_due : (granted : ℕ) (at : Between) (b : Site) → AtRest granted at b → b.client.due ≡ []
rest_due granted at b (inl begun) = begun.begun.due
rest_due granted at b (inr clears) = clears.clear.talk.due

-- ---- it finds none

since_same : (at : Between) (b c : Site) → Since at b → c.client ≡ b.client → c.at.crq.registered ≡ b.at.crq.registered → Since at c
since_same at b c since client registered = record {
  registered = registered ∙ since.registered;
  granted = ap (λ (s : ClientState). s.granted) client ∙ since.granted;
  outgoing = ap (λ (s : ClientState). s.outgoing) client ∙ since.outgoing;
  login = ap (λ (s : ClientState). s.login) client ∙ since.login;
  tabled = ap (λ (s : ClientState). s.tabled) client ∙ since.tabled;
  rows = ap (λ (s : ClientState). s.rows) client ∙ since.rows;
}

pub rests_none : (granted line : ℕ) (at : Between) (steps : List LoginStep) (b c : Site) → Rests granted at steps b → Steps line TookNone b c → SameHands b c
    → Rests granted at (TookNone ∷ steps) c
rests_none granted line at steps b c rests took hands = record {
  since = since_same at b c rests.since nothing.client nothing.registered;
  counts = record {
    left = omega (arith, ap length nothing.come, rests.counts.left);
    spent = λ last. nothing.none (rest_there granted at b rests.rest);
    unused = rests.counts.unused;
  };
  rest = by rests.rest;
}
  where
    nothing : TookNothing granted at b c
    nothing = took_nothing granted line at b c (rest_calm granted at b rests.rest) (rest_crq granted at b rests.rest) (rest_own granted at b rests.rest) took hands

    by : AtRest granted at b → AtRest granted at c
    by (inl begun) = inl (record {
      calm = nothing.calm;
      begun = begun_still (λ o. ⊤) (mid_at at b) (mid_at at c) nothing.still begun.begun;
      crq_alone = nothing.crq_alone;
      own_alone = nothing.own_alone;
    })
    by (inr clears) = inr (record {
      asked = clears.asked;
      answers = clears.answers;
      clear = takes_none granted at b c clears.asked clears.answers clears.clear nothing;
      apart = subst KeptApart (sym nothing.client) clears.apart;
    })

-- ---- it looks at the entry that it took

-- what a look leaves of the client that ends no login
record KeepsParts (s s' : ClientState) : Type 0 where
  granted : s'.granted ≡ s.granted
  outgoing : s'.outgoing ≡ s.outgoing
  login : s'.login ≡ s.login
  tabled : s'.tabled ≡ s.tabled
  rows : s'.rows ≡ s.rows

keeps_parts : (entry : Entry) (found : Found) (s : ClientState) → ends_login found ≡ false → KeepsParts s (found_by entry found s)
keeps_parts entry Step s going = record { granted = refl; outgoing = refl; login = refl; tabled = refl; rows = refl }
keeps_parts entry Answer s going = record { granted = refl; outgoing = refl; login = refl; tabled = refl; rows = refl }
keeps_parts entry Nothing s going = record { granted = refl; outgoing = refl; login = refl; tabled = refl; rows = refl }
keeps_parts entry (InUse page word) s going = record { granted = refl; outgoing = refl; login = refl; tabled = refl; rows = refl }
keeps_parts entry Lost s going = absurd (true≢false going)
keeps_parts entry (Granted credits) s going = absurd (true≢false going)
keeps_parts entry (Rejected reason) s going = absurd (true≢false going)

since_looked : (granted : ℕ) (at : Between) (b c d : Site) (found : Found) → Since at b → TookThen granted at b c d found → ends_login found ≡ false → Since at d
since_looked granted at b c d found since then' going = record {
  registered = then'.only.registered ∙ since.registered;
  granted = ap (λ (s : ClientState). s.granted) client ∙ parts.granted ∙ ap (λ (s : ClientState). s.granted) then'.takes.client ∙ since.granted;
  outgoing = ap (λ (s : ClientState). s.outgoing) client ∙ parts.outgoing ∙ ap (λ (s : ClientState). s.outgoing) then'.takes.client ∙ since.outgoing;
  login = ap (λ (s : ClientState). s.login) client ∙ parts.login ∙ ap (λ (s : ClientState). s.login) then'.takes.client ∙ since.login;
  tabled = ap (λ (s : ClientState). s.tabled) client ∙ parts.tabled ∙ ap (λ (s : ClientState). s.tabled) then'.takes.client ∙ since.tabled;
  rows = ap (λ (s : ClientState). s.rows) client ∙ parts.rows ∙ ap (λ (s : ClientState). s.rows) then'.takes.client ∙ since.rows;
}
  where
    client : d.client ≡ found_by then'.looks.entry found c.client
    client = then'.looks.client

    parts : KeepsParts c.client (found_by then'.looks.entry found c.client)
    parts = keeps_parts then'.looks.entry found c.client going

-- an entry that is kept for another request is not the login's answer
says_none : (tag : ℕ) (iu : Iu) → SaysOf tag iu Answer → ⊥
says_none tag (units.LoginRsp r) says = says
says_none tag (units.LoginRej r) says = says
says_none tag (units.LoginReq r) says = says
says_none tag (units.TskMgmt r) says = says
says_none tag (units.Cmd r) says = says
says_none tag (units.Rsp r) says = says
says_none tag (units.ILogout t) says = says
says_none tag (units.TLogout reason t) says = says
says_none tag (units.CredReq delta t) says = says
says_none tag (units.CredRsp t) says = says

answer_apart : (s : ClientState) (entry : Entry) (old new : PortState) → Finds false s entry old new Answer → login_slot entry.low s.login ≡ None
answer_apart s entry old new finds = by (login_slot entry.low s.login) refl finds.2
  where
    by : (slot : Option ℕ) → login_slot entry.low s.login ≡ slot
        → MatchOption slot (IsToOthers s entry Answer × (new ≡ old)) (λ slot. SaysIn false entry.low slot old new Answer) → login_slot entry.low s.login ≡ None
    by None e is = e
    by (Some slot) e is = absurd (says_none entry.low is.0 is.2)

-- What comes of the look: the client heard of its server unit, or kept an answer, or the login has its answer.
pub record LooksOn (granted : ℕ) (at : Between) (b c d : Site) (found : Found) : Type 0 where
  pub then' : TookThen granted at b c d found
  pub looked : HasMet granted (mid_at at d) found ⊎ ((asked : AskedParts) × (answers : List Iu) × TookOne granted at b d asked answers found × KeptApart b.client)

pub looks_on : (granted line : ℕ) (at : Between) (b c d : Site) (found : Found) → AtRest granted at b → Steps line Took b c → SameHands b c → Steps line (Looked found) c d
    → SameHands c d → LooksOn granted at b c d found
looks_on granted line at b c d found rest took hands looked hands' = record { then' = then'; looked = by rest }
  where
    then' : TookThen granted at b c d found
    then' = took_then granted line at b c d found (rest_calm granted at b rest) (rest_crq granted at b rest) (rest_own granted at b rest) took hands looked hands'

    by : AtRest granted at b
        → HasMet granted (mid_at at d) found ⊎ ((asked : AskedParts) × (answers : List Iu) × TookOne granted at b d asked answers found × KeptApart b.client)
    by (inl begun) = inl (meets_plainly granted (mid_at at b) (mid_at at d) c.client found begun.begun then'.takes then'.looks then'.stays)
    by (inr clears) =
        inr (clears.asked, clears.answers, takes_looks granted line at b c d found clears.asked clears.answers clears.clear took hands looked hands', clears.apart)

met_clears : (granted : ℕ) (at : Between) (b c d : Site) (found : Found) → TookThen granted at b c d found → HasMet granted (mid_at at d) found → Clears granted at d
met_clears granted at b c d found then' met = record {
  asked = record { answered = []; pending = []; coming = [] };
  answers = [];
  clear = record { calm = then'.calm; talk = met.talk; crq_alone = then'.crq_alone; own_alone = then'.own_alone };
  apart = idle_apart d.client met.idle;
}

kept_clears : (granted : ℕ) (at : Between) (b c d : Site) (found : Found) (asked : AskedParts) (answers : List Iu) → TookThen granted at b c d found
    → KeptOne granted (mid_at at d) asked answers found → KeptApart b.client → Clears granted at d
kept_clears granted at b c d found asked answers then' kept apart = record {
  asked = asked;
  answers = answers;
  clear = record { calm = then'.calm; talk = kept.talk; crq_alone = then'.crq_alone; own_alone = then'.own_alone };
  apart = subst KeptApart (sym client) more;
}
  where
    entry : Entry
    entry = then'.looks.entry

    client : d.client ≡ found_by entry Answer (record b.client { held = Some then'.takes.entry })
    client = then'.looks.client ∙ ap₂ (λ (f : Found) (s : ClientState). found_by entry f s) kept.found_is then'.takes.client

    login : login_slot entry.low b.client.login ≡ None
    login = ap (λ (s : ClientState). login_slot entry.low s.login) (sym then'.takes.client)
        ∙ answer_apart c.client entry b.at.own d.at.own (subst (λ (f : Found). Finds false c.client entry b.at.own d.at.own f) kept.found_is then'.looks.finds)

    more : All (λ (entry : Entry). login_slot entry.low b.client.login ≡ None) (b.client.kept ++ entry ∷ [])
    more = All-push (λ (entry : Entry). login_slot entry.low b.client.login ≡ None) b.client.kept entry apart login

pub rests_looked : (granted line : ℕ) (at : Between) (steps : List LoginStep) (b d : Site) (found : Found) → Holds granted line at steps b → Steps line (Looked found) b d
    → SameHands b d → ends_login found ≡ false → Rests granted at (Looked found ∷ steps) d
rests_looked granted line at steps b d found holds looked hands going = record {
  since = since_looked granted at holds.c b d found holds.rests.since on.then' going;
  counts = record {
    left = omega (arith, ap times_taken holds.is, ap length on.then'.come, holds.rests.counts.left);
    spent = λ last. absurd (true≢false (sym last ∙ ap found_none_last holds.is));
    unused = ap₂ (λ (b c : Bool). b || c) (unused on.looked).1 (ap (list_any finds_use) holds.is ∙ holds.rests.counts.unused);
  };
  rest = inr (unused on.looked).0;
}
  where
    on : LooksOn granted at holds.c b d found
    on = looks_on granted line at holds.c b d found holds.rests.rest holds.took holds.hands looked hands

    unused : HasMet granted (mid_at at d) found
        ⊎ ((asked : AskedParts) × (answers : List Iu) × TookOne granted at holds.c d asked answers found × KeptApart holds.c.client)
        → Clears granted at d × (finds_use (Looked found) ≡ false)
    unused (inl met) = (met_clears granted at holds.c b d found on.then' met, ap (λ (f : Found). finds_use (Looked f)) met.found_is)
    unused (inr (asked, answers, one, apart)) = at_one one.looked
      where
        at_one : LookedAt granted (mid_at at holds.c) (mid_at at d) asked answers found → Clears granted at d × (finds_use (Looked found) ≡ false)
        at_one (inl kept) = (kept_clears granted at holds.c b d found asked answers on.then' kept apart, ap (λ (f : Found). finds_use (Looked f)) kept.found_is)
        at_one (inr (inl given)) = absurd (true≢false (sym (ap ends_login given.found_is) ∙ going))
        at_one (inr (inr rejected)) = absurd (true≢false (sym (ap ends_login rejected.found_is) ∙ going))
