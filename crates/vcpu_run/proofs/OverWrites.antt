-- A unit writes the answer to a login over it: it stands in the login's slot, whether the window lets be read there or not.
use Rattle.std.proofs.Common.{◌≡◌, ◌∙◌, ◌⊎◌, inl, inr, ℕ, ◌*◌, ◌/◌, ◌%◌, ◌<◌, ◌≤◌, Bool, true, List, [], ◌∷◌, Option, Some, None, IsSome, length, refl, sym, ap, subst, arith}
use Rattle.crq_session.specs.EndState.{EndState}
use Rattle.page_slots.specs.Stroke.{StrokeValue}
use Rattle.srp_iu.specs.declared.unit.Iu.{Iu}
use Rattle.srp_iu.specs.declared.unit.Iu.TheVariants as units
use Rattle.tce_window.specs.PortState.{PortPlace, PortState}
use Rattle.vio_num.specs.declared.TheConstants.{PAGE_BYTES}
use Rattle.vio_num.specs.declared.entry.Entry.{Entry}
use Rattle.vio_num.specs.declared.names.UnitId.{UnitId}
use Rattle.block_server.specs.Bearing.{IsAnswerPart, StrokeBears}
use Rattle.block_server.specs.Doings.{Doing, WritesAnswer, name_for}
use Rattle.block_server.specs.Granting.{LoginState}
use Rattle.block_server.specs.Ranges.{AddsEach}
use Rattle.block_server.specs.Responses.{login_response}
use Rattle.block_server.specs.Standing.{IsAnswerTo as IsAnswer, IsShown}
use Rattle.block_server.specs.Talk.{order_asked}
use Rattle.block_server.specs.declared.request.Request.{Request}
use Rattle.block_server.specs.declared.service.Outcome.{Outcome}
use Rattle.block_server.specs.declared.service.Outcome.TheVariants as outcomes
use Rattle.block_server.specs.declared.service.Stage.{Stage}
use Rattle.block_server.specs.declared.service.Stage.TheVariants as stages
use Rattle.vscsi_client.specs.State.{ClientState}
use Rattle.vscsi_client.specs.Units.{slot_address}
use Rattle.vscsi_client.specs.declared.TheConstants.{DATA_START}
use Rattle.vcpu_run.specs.OwnOver.{HasAsked, IsPrepared, IsWritten}
use Rattle.vcpu_run.specs.PlainTalk.{AnswerStands, Ask, IsAnswerTo, IsAsk, IsOwnEntry, IsOwnWindow, is_grant, shown, shown_on}
use Rattle.vcpu_run.proofs.OverAnew.{LeadsOn, leads_none}
use Rattle.vcpu_run.proofs.OverPhases.{IsGoing, joins_again, kept_as, queue_as, serving_as}
use Rattle.vcpu_run.proofs.OverServes.{same_request}
use Rattle.vcpu_run.proofs.OverTakes.{line_going}
use Rattle.vcpu_run.proofs.PlainAnswered.{Says, answer_few, asked_login, says_stands}
use Rattle.vcpu_run.proofs.PlainUnits.{granted_more}

-- ---- the window

-- strokes are added to each page
added_some : (P : StrokeValue → Type 0) (old new : Option (List StrokeValue)) → AddsEach P old new → IsSome old → IsSome new
added_some P (Some old) (Some new) adds there = refl
added_some P None new adds there = absurd (cc (there))
added_some P (Some old) None adds there = absurd adds

pub writes_own : (d d' : Doing) → WritesAnswer d d' → IsOwnWindow d.client → IsOwnWindow d'.client
writes_own d d' step own = record {
  values = subst (λ (values : ℕ → List ℕ). (e : ℕ) → IsOwnEntry e (values e)) (sym step.bears.values) own.values;
  size = subst (λ (place : PortPlace). DATA_START ≤ 4096 * place.size) (sym step.place) own.size;
  most = subst (λ (place : PortPlace). place.size ≤ 256) (sym step.place) own.most;
  there = λ p less.
      added_some (StrokeBears d.client.values (IsAnswerPart (name_for d.name step.request) step.request.address d.answer) p) (d.client.strokes p) (d'.client.strokes p) (step.bears.strokes p)
      (own.there p (subst (λ (place : PortPlace). p < place.size) step.place less));
}

-- what shows on the page that the entry names shows at the address, if each entry names its own page
shown_own : (window : PortState) → IsOwnWindow window → (address : ℕ) (bytes : List ℕ) → IsShown window address bytes → shown window address (length bytes) ≡ bytes
shown_own window own address bytes is =
    ap (λ (strokes : Option (List StrokeValue)). shown_on strokes (address % PAGE_BYTES) (length bytes)) (ap window.strokes page ∙ is.there) ∙ is.shows
  where
    page : address / PAGE_BYTES ≡ is.page
    page = sym ((own.values (address / PAGE_BYTES)).names is.named.version is.named.value is.named.current.shown) ∙ is.named.named

-- ---- what the answer says

login_says : (granted : ℕ) (tag : ℕ) (who : UnitId) (window : PortState) (ask : Ask) (outcome : Outcome) (bytes : List ℕ) → is_grant outcome ≡ true
    → IsAnswer 0 granted tag (order_asked ask.iu) outcome bytes → Says granted who window ask outcome bytes
login_says granted tag who window ask (outcomes.Granted number) bytes is (login, of, canon) = record {
  answer = units.LoginRsp (login_response login.tag granted);
  spelled = λ rest fits. record { within = fits; unit = granted_more bytes rest (login_response login.tag granted) canon.unit.spells };
  suits = subst (λ (iu : Iu). IsAnswerTo iu (units.LoginRsp (login_response login.tag granted))) (sym (asked_login ask.iu login of)) refl;
  grants = refl;
  credits = refl;
  few = canon.within;
}
login_says granted tag who window ask outcome bytes isnt answer = absurd (cc (isnt))

same_answer : (stage : Stage) (a b : Outcome) → stage ≡ stages.Answer a → stage ≡ stages.Answer b → a ≡ b
same_answer stage a b is other = cc (is, other)

-- ---- the step

pub login_written : (granted : ℕ) (d d' : Doing) (own : EndState) (ask : Ask) → d.logins.granted ≡ granted → IsOwnWindow d.client → IsAsk ask → WritesAnswer d d' → IsPrepared d own ask
    → IsWritten granted d' own ask
login_written granted d d' own ask grants usable is_ask step is = record {
  serves = serving_as d d' own ask (ap (λ (l : LoginState). l.current) step.logins) step.pends step.line.handshake (queue_as own d.coming d'.coming step.coming is.serves.queue) is.serves;
  outcome = is.outcome;
  stage = step.stage ∙ ap stages.Entry (same_answer d.stage step.outcome is.outcome step.first is.stage);
  grants = is.grants;
  iu = says.answer;
  stands = subst (λ (bytes : List ℕ). AnswerStands granted d'.id d'.client ask (length bytes) is.outcome says.answer) (sym step.answer)
      (says_stands d'.client (writes_own d d' step usable) ask is.outcome d.answer (length d.answer) is_ask granted d'.id says step.stands.some few shows);
  kept = inl (kept_as d.kept d'.kept step.kept is.kept);
  entry = λ begins. is.entry (sym step.kept ∙ begins);
}
  where
    says : Says granted d'.id d'.client ask is.outcome d.answer
    says = login_says granted ask.tag d'.id d'.client ask is.outcome d.answer is.grants
        (subst (λ (n : ℕ). IsAnswer 0 n ask.tag (order_asked ask.iu) is.outcome d.answer) grants is.answer)

    few : length d.answer ≤ 256
    few = answer_few 0 d.logins.granted ask.tag (order_asked ask.iu) is.outcome d.answer is.answer

    at : step.request.address ≡ slot_address ask.slot
    at = ap (λ (r : Request). r.address) (same_request d.pending step.request is.serves.request step.rest [] step.pending is.serves.pending) ∙ is.serves.is.address

    shows : shown d'.client (slot_address ask.slot) (length d.answer) ≡ d.answer
    shows = subst (λ (a : ℕ). shown d'.client a (length d.answer) ≡ d.answer) at
        (shown_own d'.client (writes_own d d' step usable) step.request.address d.answer (step.stands.shows (omega (arith, at, few))))

pub prepared_writes : (granted : ℕ) (failed : Bool) (d d' : Doing) (s : ClientState) (own : EndState) (stream : List Entry) (answered lost : List Ask) (ask : Ask) → d.logins.granted ≡ granted
    → IsOwnWindow d.client → IsAsk ask → WritesAnswer d d' → IsGoing d s own stream → (own.registered ≡ true) ⊎ (failed ≡ true) → (answered ≡ []) × (lost ≡ ask ∷ []) → HasAsked s own stream ask
    → IsPrepared d own ask → LeadsOn granted failed d d' s own stream answered lost
prepared_writes granted failed d d' s own stream answered lost ask grants usable is_ask step goes there parts has is =
    leads_none granted failed d d' s own stream answered lost step.sent
    (joins_again granted failed d' s own stream answered lost (line_going d d' s own stream step.line goes) there
    (record { ask = ask; has = has; where_is = inl (parts, inr (inr (inr (login_written granted d d' own ask grants usable is_ask step is)))) }))
