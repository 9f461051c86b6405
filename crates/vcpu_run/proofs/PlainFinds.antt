-- What a plain client that waits for a login finds an entry to be: the answer to another request, or what became of its login.
use Rattle.std.proofs.Common.{◌≡◌, ◌∙◌, ◌⊎◌, inl, inr, ℕ, ◌≤◌, ◌==◌, true, false, true≢false, List, Option, Some, None, IsSome, MatchOption, length, refl, sym, ap, subst, arith}
use Rattle.vio_num.specs.Entry.{first_byte, is_srp_entry, srp_entry}
use Rattle.vio_num.specs.declared.entry.Entry.{Entry}
use Rattle.srp_iu.proofs.GrammarLaws.{spelled_bytes_are_accepted}
use Rattle.srp_iu.specs.Grammar.{Spells}
use Rattle.srp_iu.specs.declared.login.LoginRej.{LoginRej}
use Rattle.srp_iu.specs.declared.login.LoginRsp.{LoginRsp}
use Rattle.srp_iu.specs.declared.unit.Iu.{Iu}
use Rattle.srp_iu.specs.declared.unit.Iu.TheVariants as units
use Rattle.tce_window.specs.PortState.{PortState}
use Rattle.vscsi_client.specs.Login.{Finds, IsToOthers, SaysIn, SaysOf, is_kept, login_slot}
use Rattle.vscsi_client.specs.Slots.{Holds, HoldsNone}
use Rattle.vscsi_client.specs.State.{ClientState}
use Rattle.vscsi_client.specs.Taking.{slot_of}
use Rattle.vscsi_client.specs.Units.{slot_address}
use Rattle.vscsi_client.specs.declared.TheConstants.{SLOTS}
use Rattle.vscsi_client.specs.declared.found.Found.{Found}
use Rattle.vscsi_client.specs.declared.found.Found.TheVariants.{Answer, Granted, InUse, Lost, Nothing, Rejected, Step}
use Rattle.vcpu_run.specs.PlainTalk.{IsOwnWindow, ShowsAt}
use Rattle.vcpu_run.proofs.PlainJudged.{entry_first, page_there, slot_read}
use Rattle.vcpu_run.proofs.PlainSlots.{entry_srp}

-- ---- an entry

-- The entry of an answer is an SRP entry of its tag.
record IsEntry (entry : Entry) (tag : ℕ) : Type 0 where
  no_event : (first_byte entry == 0xFF) ≡ true → ⊥
  srp : is_srp_entry entry ≡ false → ⊥
  low : entry.low ≡ tag

entry_of : (entry : Entry) (long tag : ℕ) → long ≤ 256 → entry ≡ srp_entry long tag → IsEntry entry tag
entry_of entry long tag few is = record {
  no_event = λ event. true≢false (sym event ∙ ap (λ (n : ℕ). n == 0xFF) (ap first_byte is ∙ entry_first long tag few));
  srp = λ none. true≢false (sym (ap is_srp_entry is ∙ entry_srp long tag few) ∙ none);
  low = ap (λ (e : Entry). e.low) is;
}

-- ---- the answer to another request

some_none : (slot : Option ℕ) → IsSome slot → slot ≡ None → ⊥
some_none slot some none = cc (some, none)

to_others : (s : ClientState) (entry : Entry) (found : Found) → IsSome (slot_of entry.low s.outgoing) → is_kept entry.low s.kept ≡ false → IsToOthers s entry found → found ≡ Answer
to_others s entry Answer some kept is = refl
to_others s entry Nothing some kept (inl none) = absurd (some_none (slot_of entry.low s.outgoing) some none)
to_others s entry Nothing some kept (inr twice) = absurd (true≢false (sym twice ∙ kept))
to_others s entry (Granted credits) some kept is = absurd is
to_others s entry (Rejected reason) some kept is = absurd is
to_others s entry Lost some kept is = absurd is
to_others s entry Step some kept is = absurd is
to_others s entry (InUse page word) some kept is = absurd is

-- What is so of an entry that tells of the answer to a request that is outstanding.
pub record TellsOther (s : ClientState) (entry : Entry) : Type 0 where
  pub long : ℕ
  pub tag : ℕ
  pub few : long ≤ 256
  pub entry_is : entry ≡ srp_entry long tag
  pub other : login_slot tag s.login ≡ None
  pub outstanding : IsSome (slot_of tag s.outgoing)
  pub first : is_kept tag s.kept ≡ false

pub finds_answer : (s : ClientState) (entry : Entry) (old new : PortState) (found : Found) → TellsOther s entry → Finds false s entry old new found → (found ≡ Answer) × (new ≡ old)
finds_answer s entry old new found tells finds = by found finds
  where
    is : IsEntry entry tells.tag
    is = entry_of entry tells.long tells.tag tells.few tells.entry_is

    other : login_slot entry.low s.login ≡ None
    other = ap (λ (tag : ℕ). login_slot tag s.login) is.low ∙ tells.other

    at : (found : Found) → MatchOption (login_slot entry.low s.login) (IsToOthers s entry found × (new ≡ old)) (λ slot. SaysIn false entry.low slot old new found) → (found ≡ Answer) × (new ≡ old)
    at found finds =
        let both = subst (λ (o : Option ℕ). MatchOption o (IsToOthers s entry found × (new ≡ old)) (λ slot. SaysIn false entry.low slot old new found)) other finds in (
          to_others s entry found (subst (λ (tag : ℕ). IsSome (slot_of tag s.outgoing)) (sym is.low) tells.outstanding)
              (ap (λ (tag : ℕ). is_kept tag s.kept) is.low ∙ tells.first) both.0,
          both.1,
        )

    by : (found : Found) → Finds false s entry old new found → (found ≡ Answer) × (new ≡ old)
    by Lost finds = absurd (is.no_event finds.0)
    by Step finds = absurd (is.srp finds.1)
    by Answer finds = at Answer finds.2
    by Nothing finds = at Nothing finds.2
    by (Granted credits) finds = at (Granted credits) finds.2
    by (Rejected reason) finds = at (Rejected reason) finds.2
    by (InUse page word) finds = at (InUse page word) finds.2

-- ---- the answer to the login

-- A unit stands in the slot.
pub record HoldsUnit (window : PortState) (slot : ℕ) (iu : Iu) : Type 0 where
  pub own : IsOwnWindow window
  pub within : slot ≤ SLOTS
  pub bytes : List ℕ
  pub stand : ShowsAt window (slot_address slot) bytes
  pub whole : length bytes ≡ 256
  pub spelled : Spells bytes iu

held_spells : (window : PortState) (slot : ℕ) (iu other : Iu) → (has : HoldsUnit window slot iu) → Holds window slot other → Spells has.bytes other
held_spells window slot iu other has holds =
    subst (λ (list : List ℕ). Spells list other) (slot_read window has.own slot has.within has.bytes holds.bytes has.whole has.stand holds.are) holds.spells

held_some : (window : PortState) (slot : ℕ) (iu : Iu) → HoldsUnit window slot iu → HoldsNone window slot → ⊥
held_some window slot iu has none =
    let same = slot_read window has.own slot has.within has.bytes none.bytes has.whole has.stand none.are in
    no_fault (sym (spelled_bytes_are_accepted none.bytes iu (subst (λ (list : List ℕ). Spells list iu) (sym same) has.spelled)) ∙ none.is_fault)
  where
    no_fault : None ≡ Some none.fault → ⊥
    no_fault e = cc (e)

-- bytes that spell what was granted or rejected spell no other unit
spelled_grant : (bytes : List ℕ) (r : LoginRsp) (iu : Iu) → Spells bytes (units.LoginRsp r) → Spells bytes iu → (other : LoginRsp) × (iu ≡ units.LoginRsp other) × (other.tag ≡ r.tag) × (other.delta ≡ r.delta)
spelled_grant bytes r (units.LoginRsp other) is also = (other, refl, also.unit.tag ∙ sym is.unit.tag, also.unit.delta ∙ sym is.unit.delta)
spelled_grant bytes r (units.Rsp other) is also = absurd (omega (arith, is.unit.kind, also.unit.kind))
spelled_grant bytes r (units.LoginReq other) is also = absurd (omega (arith, is.unit.kind, also.unit.kind))
spelled_grant bytes r (units.TskMgmt other) is also = absurd (omega (arith, is.unit.kind, also.unit.kind))
spelled_grant bytes r (units.Cmd other) is also = absurd (omega (arith, is.unit.kind, also.unit.kind))
spelled_grant bytes r (units.ILogout tag) is also = absurd (omega (arith, is.unit.kind, also.unit.kind))
spelled_grant bytes r (units.CredRsp tag) is also = absurd (omega (arith, is.unit.kind, also.unit.kind))
spelled_grant bytes r (units.TLogout reason tag) is also = absurd (omega (arith, is.unit.kind, also.unit.kind))
spelled_grant bytes r (units.CredReq delta tag) is also = absurd (omega (arith, is.unit.kind, also.unit.kind))
spelled_grant bytes r (units.LoginRej other) is also = absurd (omega (arith, is.unit.kind, also.unit.kind))

spelled_reject : (bytes : List ℕ) (r : LoginRej) (iu : Iu) → Spells bytes (units.LoginRej r) → Spells bytes iu → (other : LoginRej) × (iu ≡ units.LoginRej other) × (other.tag ≡ r.tag) × (other.reason ≡ r.reason)
spelled_reject bytes r (units.LoginRej other) is also = (other, refl, also.unit.tag ∙ sym is.unit.tag, also.unit.reason ∙ sym is.unit.reason)
spelled_reject bytes r (units.Rsp other) is also = absurd (omega (arith, is.unit.kind, also.unit.kind))
spelled_reject bytes r (units.LoginReq other) is also = absurd (omega (arith, is.unit.kind, also.unit.kind))
spelled_reject bytes r (units.TskMgmt other) is also = absurd (omega (arith, is.unit.kind, also.unit.kind))
spelled_reject bytes r (units.Cmd other) is also = absurd (omega (arith, is.unit.kind, also.unit.kind))
spelled_reject bytes r (units.ILogout tag) is also = absurd (omega (arith, is.unit.kind, also.unit.kind))
spelled_reject bytes r (units.CredRsp tag) is also = absurd (omega (arith, is.unit.kind, also.unit.kind))
spelled_reject bytes r (units.TLogout reason tag) is also = absurd (omega (arith, is.unit.kind, also.unit.kind))
spelled_reject bytes r (units.CredReq delta tag) is also = absurd (omega (arith, is.unit.kind, also.unit.kind))
spelled_reject bytes r (units.LoginRsp other) is also = absurd (omega (arith, is.unit.kind, also.unit.kind))

-- what an answer to a login says of it
abbrev pub found_in : Iu → Found
found_in (units.LoginRsp r) = Granted r.delta
found_in (units.LoginRej r) = Rejected r.reason
found_in iu = Nothing

-- What is so of an entry that tells of the answer to the login that is under way.
pub record TellsLogin (s : ClientState) (window : PortState) (entry : Entry) (answer : Iu) : Type 0 where
  pub long : ℕ
  pub tag : ℕ
  pub slot : ℕ
  pub few : long ≤ 256
  pub entry_is : entry ≡ srp_entry long tag
  pub login : login_slot tag s.login ≡ Some slot
  pub has : HoldsUnit window slot answer
  pub of_login : ((r : LoginRsp) × (answer ≡ units.LoginRsp r) × (r.tag ≡ tag)) ⊎ ((r : LoginRej) × (answer ≡ units.LoginRej r) × (r.tag ≡ tag))

says_grant : (window : PortState) (slot tag : ℕ) (r : LoginRsp) (iu : Iu) (found : Found) → HoldsUnit window slot (units.LoginRsp r) → r.tag ≡ tag → Holds window slot iu → SaysOf tag iu found
    → found ≡ Granted r.delta
says_grant window slot tag r iu found has tag_is holds says =
    let other = spelled_grant has.bytes r iu has.spelled (held_spells window slot (units.LoginRsp r) iu has holds) in
    by other.0 other.2 other.3 found (subst (λ (i : Iu). SaysOf tag i found) other.1 says)
  where
    by : (other : LoginRsp) → other.tag ≡ r.tag → other.delta ≡ r.delta → (found : Found) → SaysOf tag (units.LoginRsp other) found → found ≡ Granted r.delta
    by other same delta (Granted credits) says = ap Granted (sym says.1 ∙ delta)
    by other same delta (Rejected reason) says = absurd says
    by other same delta Nothing says = absurd (says (same ∙ tag_is))
    by other same delta Answer says = absurd says
    by other same delta Lost says = absurd says
    by other same delta Step says = absurd says
    by other same delta (InUse page word) says = absurd says

says_reject : (window : PortState) (slot tag : ℕ) (r : LoginRej) (iu : Iu) (found : Found) → HoldsUnit window slot (units.LoginRej r) → r.tag ≡ tag → Holds window slot iu → SaysOf tag iu found
    → found ≡ Rejected r.reason
says_reject window slot tag r iu found has tag_is holds says =
    let other = spelled_reject has.bytes r iu has.spelled (held_spells window slot (units.LoginRej r) iu has holds) in
    by other.0 other.2 other.3 found (subst (λ (i : Iu). SaysOf tag i found) other.1 says)
  where
    by : (other : LoginRej) → other.tag ≡ r.tag → other.reason ≡ r.reason → (found : Found) → SaysOf tag (units.LoginRej other) found → found ≡ Rejected r.reason
    by other same reason (Rejected given) says = ap Rejected (sym says.1 ∙ reason)
    by other same reason (Granted credits) says = absurd says
    by other same reason Nothing says = absurd (says (same ∙ tag_is))
    by other same reason Answer says = absurd says
    by other same reason Lost says = absurd says
    by other same reason Step says = absurd says
    by other same reason (InUse page word) says = absurd says

says_login : (window : PortState) (slot tag : ℕ) (answer iu : Iu) (found : Found) → HoldsUnit window slot answer
    → ((r : LoginRsp) × (answer ≡ units.LoginRsp r) × (r.tag ≡ tag)) ⊎ ((r : LoginRej) × (answer ≡ units.LoginRej r) × (r.tag ≡ tag))
    → Holds window slot iu → SaysOf tag iu found → found ≡ found_in answer
says_login window slot tag answer iu found has (inl (r, is, tag_is)) holds says =
    says_grant window slot tag r iu found (subst (HoldsUnit window slot) is has) tag_is holds says ∙ sym (ap found_in is)
says_login window slot tag answer iu found has (inr (r, is, tag_is)) holds says =
    says_reject window slot tag r iu found (subst (HoldsUnit window slot) is has) tag_is holds says ∙ sym (ap found_in is)

-- what the client finds is what its answer says
pub finds_login : (s : ClientState) (entry : Entry) (old new : PortState) (found : Found) (answer : Iu) → IsOwnWindow old → TellsLogin s new entry answer
    → Finds false s entry old new found → found ≡ found_in answer
finds_login s entry old new found answer own tells finds = by found finds
  where
    is : IsEntry entry tells.tag
    is = entry_of entry tells.long tells.tag tells.few tells.entry_is

    login : login_slot entry.low s.login ≡ Some tells.slot
    login = ap (λ (tag : ℕ). login_slot tag s.login) is.low ∙ tells.login

    at : (found : Found) → MatchOption (login_slot entry.low s.login) (IsToOthers s entry found × (new ≡ old)) (λ slot. SaysIn false entry.low slot old new found)
        → SaysIn false tells.tag tells.slot old new found
    at found finds =
        subst (λ (tag : ℕ). SaysIn false tag tells.slot old new found) is.low
        (subst (λ (o : Option ℕ). MatchOption o (IsToOthers s entry found × (new ≡ old)) (λ slot. SaysIn false entry.low slot old new found)) login finds)

    by : (found : Found) → Finds false s entry old new found → found ≡ found_in answer
    by Lost finds = absurd (is.no_event finds.0)
    by Step finds = absurd (is.srp finds.1)
    by (InUse page word) finds = absurd (page_there old tells.slot page own tells.has.within (at (InUse page word) finds.2).in_use)
    by Nothing finds = nothing_is (at Nothing finds.2)
      where
        nothing_is : HoldsNone new tells.slot ⊎ ((iu : Iu) × Holds new tells.slot iu × SaysOf tells.tag iu Nothing) → Nothing ≡ found_in answer
        nothing_is (inl empty) = absurd (held_some new tells.slot answer tells.has empty)
        nothing_is (inr (iu, holds, says)) = says_login new tells.slot tells.tag answer iu Nothing tells.has tells.of_login holds says
    by Answer finds =
        let said = at Answer finds.2 in
        says_login new tells.slot tells.tag answer said.0 Answer tells.has tells.of_login said.1 said.2
    by (Granted credits) finds =
        let said = at (Granted credits) finds.2 in
        says_login new tells.slot tells.tag answer said.0 (Granted credits) tells.has tells.of_login said.1 said.2
    by (Rejected reason) finds =
        let said = at (Rejected reason) finds.2 in
        says_login new tells.slot tells.tag answer said.0 (Rejected reason) tells.has tells.of_login said.1 said.2
