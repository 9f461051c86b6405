-- What a plain client finds an entry to be that tells of the answer to the oldest request that is outstanding: that answer, and nothing else.
use Rattle.std.proofs.Common.{◌≡◌, ◌∙◌, inl, inr, ℕ, ◌≤◌, ◌==◌, true, false, true≢false, cond, List, ◌∷◌, Option, Some, None, IsSome, find, length, option_map, refl, sym, ap, subst, arith}
use Rattle.std.specs.Prelude.{IsSomeAnd, MatchOption}
use Rattle.std.proofs.lemmas.Bool.{eq-eqb}
use Rattle.vio_num.specs.Entry.{first_byte, is_srp_entry, srp_entry}
use Rattle.vio_num.specs.declared.entry.Entry.{Entry}
use Rattle.srp_iu.specs.Grammar.{Spells}
use Rattle.srp_iu.specs.declared.response.Rsp.{Rsp}
use Rattle.srp_iu.specs.declared.unit.Iu.{Iu}
use Rattle.srp_iu.specs.declared.unit.Iu.TheVariants as units
use Rattle.srp_iu.proofs.GrammarLaws.{spelled_bytes_are_accepted}
use Rattle.tce_window.specs.PortState.{FindsInUse, PortState}
use Rattle.block_server.specs.Talk.{tag_asked}
use Rattle.vscsi_client.specs.Slots.{AreIn, IsSlotInUse}
use Rattle.vscsi_client.specs.Taking.{HoldsNoAnswer, IsNoAnswer, Judges, slot_of}
use Rattle.vscsi_client.specs.Units.{slot_address}
use Rattle.vscsi_client.specs.declared.TheConstants.{SLOTS}
use Rattle.vscsi_client.specs.declared.answers.Taken.{Taken}
use Rattle.vscsi_client.specs.declared.answers.Taken.TheVariants.{Again, Answer, Empty, Lost, Other, Stray}
use Rattle.vscsi_client.specs.declared.outgoing.Outgoing.{Outgoing}
use Rattle.vcpu_run.specs.PlainTalk.{IsAnswerTo, IsOwnWindow, ShowsAt, is_counted, shown}
use Rattle.vcpu_run.proofs.PlainSlots.{entry_srp, slot_on}
use Rattle.vcpu_run.proofs.PlainStands.{region_shown}

-- ---- what a slot holds

-- 256 bytes that the client reads in a slot are those that show there
pub slot_read : (window : PortState) → IsOwnWindow window → (slot : ℕ) → slot ≤ SLOTS → (bytes read : List ℕ) → length bytes ≡ 256 → ShowsAt window (slot_address slot) bytes
    → AreIn window slot read → read ≡ bytes
slot_read window own slot within bytes read whole shows are =
    region_shown window own (slot_address slot) read (slot_on window own slot (length read) within (omega (arith, are.long)) (omega (arith, are.long))) are.read
    ∙ ap (λ (n : ℕ). shown window (slot_address slot) n) (are.long ∙ sym whole) ∙ shows

pub spelled_tag : (bytes : List ℕ) (r : Rsp) (iu : Iu) → Spells bytes (units.Rsp r) → Spells bytes iu → (other : Rsp) × (iu ≡ units.Rsp other) × (other.tag ≡ r.tag)
spelled_tag bytes r (units.Rsp other) is also = (other, refl, also.unit.tag ∙ sym is.unit.tag)
spelled_tag bytes r (units.LoginReq other) is also = absurd (omega (arith, is.unit.kind, also.unit.kind))
spelled_tag bytes r (units.TskMgmt other) is also = absurd (omega (arith, is.unit.kind, also.unit.kind))
spelled_tag bytes r (units.Cmd other) is also = absurd (omega (arith, is.unit.kind, also.unit.kind))
spelled_tag bytes r (units.ILogout tag) is also = absurd (omega (arith, is.unit.kind, also.unit.kind))
spelled_tag bytes r (units.CredRsp tag) is also = absurd (omega (arith, is.unit.kind, also.unit.kind))
spelled_tag bytes r (units.TLogout reason tag) is also = absurd (omega (arith, is.unit.kind, also.unit.kind))
spelled_tag bytes r (units.CredReq delta tag) is also = absurd (omega (arith, is.unit.kind, also.unit.kind))
spelled_tag bytes r (units.LoginRsp other) is also = absurd (omega (arith, is.unit.kind, also.unit.kind))
spelled_tag bytes r (units.LoginRej other) is also = absurd (omega (arith, is.unit.kind, also.unit.kind))

-- A response of this tag stands in the slot.
pub record HoldsResponse (window : PortState) (tag slot : ℕ) : Type 0 where
  pub own : IsOwnWindow window
  pub within : slot ≤ SLOTS
  pub bytes : List ℕ
  pub stand : ShowsAt window (slot_address slot) bytes
  pub whole : length bytes ≡ 256
  pub response : Rsp
  pub spelled : Spells bytes (units.Rsp response)
  pub tag_is : response.tag ≡ tag

no_other : (window : PortState) (tag slot : ℕ) → HoldsResponse window tag slot → HoldsNoAnswer window tag slot → ⊥
no_other window tag slot has (inl none) =
    let same = slot_read window has.own slot has.within has.bytes none.bytes has.whole has.stand none.are in
    no_fault (sym (spelled_bytes_are_accepted none.bytes (units.Rsp has.response) (subst (λ (list : List ℕ). Spells list (units.Rsp has.response)) (sym same) has.spelled)) ∙ none.is_fault)
  where
    no_fault : None ≡ Some none.fault → ⊥
    no_fault e = cc (e)
no_other window tag slot has (inr (iu, holds, isnt)) =
    let same = slot_read window has.own slot has.within has.bytes holds.bytes has.whole has.stand holds.are in
    let other = spelled_tag has.bytes has.response iu has.spelled (subst (λ (list : List ℕ). Spells list iu) same holds.spells) in
    subst (IsNoAnswer tag) other.1 isnt (other.2 ∙ has.tag_is)

-- ---- what an entry is

-- an answered command or task has a response of its tag
pub counted_answer : (asked answer : Iu) → is_counted asked ≡ true → IsAnswerTo asked answer → (response : Rsp) × (answer ≡ units.Rsp response) × (response.tag ≡ tag_asked asked)
counted_answer (units.TskMgmt task) (units.Rsp response) is suits = (response, refl, suits)
counted_answer (units.Cmd command) (units.Rsp response) is suits = (response, refl, suits)
counted_answer (units.TskMgmt task) answer is suits = absurd suits
counted_answer (units.Cmd command) answer is suits = absurd suits
counted_answer asked answer isnt suits = absurd (cc (isnt))

pub slot_first : (tag : ℕ) (oldest : Outgoing) (others : List Outgoing) → oldest.tag ≡ tag → slot_of tag (oldest ∷ others) ≡ Some oldest.slot
slot_first tag oldest others is =
    ap (λ b. option_map (λ (o : Outgoing). o.slot) (cond b (Some oldest) (find (λ (o : Outgoing). o.tag == tag) others))) (eq-eqb oldest.tag tag is)

pub entry_first : (n low : ℕ) → n ≤ 256 → first_byte (srp_entry n low) ≡ 0x80
entry_first n low few = omega (arith, few)

-- An entry tells of the answer to the oldest request that is outstanding.
pub record TellsOldest (window : PortState) (entry : Entry) (tag : ℕ) (oldest : Outgoing) : Type 0 where
  pub long : ℕ
  pub few : long ≤ 256
  pub entry_is : entry ≡ srp_entry long tag
  pub tag_is : oldest.tag ≡ tag
  pub has : HoldsResponse window tag oldest.slot

pub page_there : (window : PortState) (slot page : ℕ) → IsOwnWindow window → slot ≤ SLOTS → FindsInUse false window (slot_address slot) 256 page → ⊥
page_there window slot page own within found = none (sym (found.away refl)) (own.there page (omega (arith, found.below, own.size, within)))
  where
    none : None ≡ window.strokes page → IsSome (window.strokes page) → ⊥
    none is there = cc (is, there)

pub is_answer : (outgoing : List Outgoing) (entry : Entry) (old new : PortState) (taken : Taken) (tag : ℕ) (oldest : Outgoing) (others : List Outgoing)
    → outgoing ≡ oldest ∷ others → TellsOldest old entry tag oldest → HoldsResponse new tag oldest.slot → Judges false outgoing entry old new taken
    → (response : Rsp) × (taken ≡ Answer tag response)
is_answer outgoing entry old new (Answer named response) tag oldest others is tells has judged =
    (response, ap (λ (t : ℕ). Answer t response) (sym judged.0.tag_is ∙ ap (λ (e : Entry). e.low) tells.entry_is))
is_answer outgoing entry old new (Stray named) tag oldest others is tells has judged =
    let tag' : named ≡ tag = sym judged.0.tag_is ∙ ap (λ (e : Entry). e.low) tells.entry_is in
    let found : slot_of named outgoing ≡ Some oldest.slot = ap (slot_of named) is ∙ slot_first named oldest others (tells.tag_is ∙ sym tag') in
    absurd (no_other new tag oldest.slot has
    (subst (λ (t : ℕ). HoldsNoAnswer new t oldest.slot) tag' (subst (λ (s : Option ℕ). MatchOption s (new ≡ old) (HoldsNoAnswer new named)) found judged.1)))
is_answer outgoing entry old new Lost tag oldest others is tells has judged =
    absurd (true≢false (sym judged.0 ∙ ap (λ (n : ℕ). n == 0xFF) (ap first_byte tells.entry_is ∙ entry_first tells.long tag tells.few)))
is_answer outgoing entry old new Other tag oldest others is tells has judged =
    absurd (true≢false (sym (ap is_srp_entry tells.entry_is ∙ entry_srp tells.long tag tells.few) ∙ judged.1))
is_answer outgoing entry old new (Again page word) tag oldest others is tells has judged =
    let found : slot_of entry.low outgoing ≡ Some oldest.slot =
    ap (slot_of entry.low) is ∙ slot_first entry.low oldest others (tells.tag_is ∙ sym (ap (λ (e : Entry). e.low) tells.entry_is)) in
    absurd (page_there old oldest.slot page tells.has.own tells.has.within
    (subst (λ (s : Option ℕ). IsSomeAnd s (λ slot. IsSlotInUse false slot old new page)) found judged.1).in_use)
is_answer outgoing entry old new (Empty number) tag oldest others is tells has judged = absurd judged
