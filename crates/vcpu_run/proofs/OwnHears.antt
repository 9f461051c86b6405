-- The rights of a client's window do not change in a turn of its server unit; and where the unit could read what was asked, that is said.
use Rattle.std.proofs.Common.{◌≡◌, ◌∙◌, ◌⊎◌, inl, inr, ℕ, ◌+◌, ◌++◌, All, List, [], ◌∷◌, Some, append-nil, append_assoc, length, map, sym, ap, subst}
use Rattle.std.proofs.lemmas.List.Elements.{All-head, All-tail}
use Rattle.vio_num.specs.declared.entry.Entry.{Entry}
use Rattle.tce_window.specs.PortState.{PortState}
use Rattle.block_server.specs.Bearing.{BearsRow}
use Rattle.block_server.specs.Doings.{Does, DoesOne, Doing, DropsAll, KeepsEntry, LeadsOver, LogsOutFirst, LosesEntry, Prepares, PutsEntry, TakesRequest, WritesAnswer, name_for}
use Rattle.block_server.specs.Judged.{row_in}
use Rattle.block_server.specs.Ranges.{Known, known_in}
use Rattle.block_server.specs.Standing.{stood}
use Rattle.block_server.specs.Talk.{HearsAll, SayWords, Talk}
use Rattle.block_server.specs.declared.request.Request.{Request}
use Rattle.vscsi_client.specs.Units.{slot_address}
use Rattle.vcpu_run.specs.OwnTurns.{MayRead}
use Rattle.vcpu_run.specs.PlainTalk.{AreSaidThere, ArePending, Ask, IsAsk, IsOwnWindow, word_of}
use Rattle.vcpu_run.proofs.OwnSame.{rights_stay}
use Rattle.vcpu_run.proofs.OwnWindows.{StaysGranted}
use Rattle.vcpu_run.proofs.PlainLists.{pending_push}
use Rattle.vcpu_run.proofs.PlainSlots.{slot_on}
use Rattle.vcpu_run.proofs.PlainStands.{shown_stand}

-- ---- rights stay

same_known : (a b : Known) → Some a ≡ Some b → a ≡ b
same_known a b e = cc (e)

prepares_granted : (d d' : Doing) → Prepares d d' → StaysGranted d.client d'.client
prepares_granted d d' step = record { place = step.place; values = by step.bears }
  where
    by : BearsRow (stood d.client) (name_for d.name step.request) step.request.order d'.rows (row_in d'.stage) (Some (known_in d.client)) (Some (known_in d'.client))
        → d'.client.values ≡ d.client.values
    by (inl same) = ap (λ (k : Known). k.values) (same_known (known_in d'.client) (known_in d.client) same)
    by (inr (at, row, some, found, bears)) = bears.values

pub does_granted : (d d' : Doing) → DoesOne d d' → StaysGranted d.client d'.client
does_granted d d' (inl step) = rights_stay d.client d'.client step.aside.client
does_granted d d' (inr (inl step)) = rights_stay d.client d'.client step.aside.client
does_granted d d' (inr (inr (inl step))) = rights_stay d.client d'.client step.aside.client
does_granted d d' (inr (inr (inr (inl step)))) = rights_stay d.client d'.client step.aside.client
does_granted d d' (inr (inr (inr (inr (inl step))))) = rights_stay d.client d'.client step.aside.client
does_granted d d' (inr (inr (inr (inr (inr (inl step)))))) = rights_stay d.client d'.client step.aside.client
does_granted d d' (inr (inr (inr (inr (inr (inr (inl step))))))) = rights_stay d.client d'.client step.aside.client
does_granted d d' (inr (inr (inr (inr (inr (inr (inr (inl step)))))))) = rights_stay d.client d'.client step.aside.client
does_granted d d' (inr (inr (inr (inr (inr (inr (inr (inr rest)))))))) = serves rest
  where
    serves : TakesRequest d d' ⊎ (DropsAll d d' ⊎ (LogsOutFirst d d' ⊎ (Prepares d d' ⊎ (WritesAnswer d d' ⊎ (KeepsEntry d d' ⊎ (PutsEntry d d' ⊎ LosesEntry d d')))))) → StaysGranted d.client d'.client
    serves (inl step) = rights_stay d.client d'.client step.put.client
    serves (inr (inl step)) = rights_stay d.client d'.client step.put.client
    serves (inr (inr (inl step))) = rights_stay d.client d'.client step.put.client
    serves (inr (inr (inr (inl step)))) = prepares_granted d d' step
    serves (inr (inr (inr (inr (inl step))))) = record { place = step.place; values = step.bears.values }
    serves (inr (inr (inr (inr (inr (inl step)))))) = rights_stay d.client d'.client step.put.client
    serves (inr (inr (inr (inr (inr (inr (inl step))))))) = rights_stay d.client d'.client step.client
    serves (inr (inr (inr (inr (inr (inr (inr step))))))) = rights_stay d.client d'.client step.put.client

leads_granted : (over : List Doing) (d d' : Doing) → LeadsOver over d d' → StaysGranted d.client d'.client
leads_granted [] d d' leads = record { place = ap (λ (at : Doing). at.client.place) leads; values = ap (λ (at : Doing). at.client.values) leads }
leads_granted (next ∷ over) d d' leads =
    let first = does_granted d next leads.0 in
    let rest = leads_granted over next d' leads.1 in
    record { place = rest.place ∙ first.place; values = rest.values ∙ first.values }

pub turn_granted : (d d' : Doing) → Does d d' → StaysGranted d.client d'.client
turn_granted d d' does = leads_granted does.over d d' does.leads

-- the same backwards
pub granted_back : (old new : PortState) → StaysGranted old new → StaysGranted new old
granted_back old new stays = record { place = sym stays.place; values = sym stays.values }

-- ---- what could be read is said

pub said_read : (window : PortState) → IsOwnWindow window → (entries : List Entry) (coming : List Ask) → All IsAsk coming → All (MayRead window) coming
    → AreSaidThere window entries (map word_of coming) → SayWords window entries (map word_of coming)
said_read window own [] [] each read said = tt
said_read window own [] (ask ∷ coming) each read said = absurd said
said_read window own (entry ∷ entries) [] each read said = absurd said
said_read window own (entry ∷ entries) (ask ∷ coming) each read said = (
  record {
    srp = said.0.srp;
    address_is = said.0.address_is;
    long = said.0.long;
    some = said.0.some;
    few = said.0.few;
    may = All-head (MayRead window) ask coming read;
    stand = shown_stand window own (slot_address ask.slot) ask.bytes
        (slot_on window own ask.slot (length ask.bytes) (All-head IsAsk ask coming each).slot_is said.0.some said.0.few) said.0.shows;
    spelled = said.0.spelled;
  },
  said_read window own entries coming (All-tail IsAsk ask coming each) (All-tail (MayRead window) ask coming read) said.1,
)

-- ---- what is pending once all was heard

pub heard_pending : (talk talk' : Talk) (n : ℕ) (pending coming : List Ask) → All IsAsk coming → ArePending talk.pending pending → HearsAll talk n (map word_of coming) talk'
    → ArePending talk'.pending (pending ++ coming)
heard_pending talk talk' n pending [] each are heard =
    subst (ArePending talk'.pending) (sym (append-nil pending)) (subst (λ (t : Talk). ArePending t.pending pending) (sym heard) are)
heard_pending talk talk' n pending (ask ∷ coming) each are heard =
    subst (ArePending talk'.pending) (append_assoc pending (ask ∷ []) coming)
    (heard_pending heard.0 talk' (n + 1) (pending ++ ask ∷ []) coming (All-tail IsAsk ask coming each)
    (subst (λ (requests : List Request). ArePending requests (pending ++ ask ∷ [])) (sym heard.1.pending)
    (pending_push talk.pending pending heard.1.request ask are
    (record {
      address = heard.1.is.address_is;
      tag = heard.1.is.tag_is ∙ (All-head IsAsk ask coming each).tag_is;
      order = heard.1.is.order_is;
      bytes = heard.1.is.bytes_are;
    }))) heard.2)
