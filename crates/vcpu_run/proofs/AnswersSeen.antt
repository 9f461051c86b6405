-- The answers of a client stay read as its window grows, and one that is noted was read.
use Rattle.std.proofs.Common.{◌≡◌, ◌∙◌, ℕ, ◌<◌, Bool, true, List, [], ◌∷◌, ◌++◌, Option, Some, None, IsSomeAnd, length, refl, sym, ap, subst, append_assoc}
use Rattle.std.proofs.lemmas.List.Elements.{All-append, All-cons, All-nil, All-weaker}
use Rattle.page_slots.specs.Stroke.{StrokeValue}
use Rattle.tce_window.specs.Port.{Grows}
use Rattle.tce_window.specs.PortState.{PortState}
use Rattle.rdma_copy.specs.Copy.{Side, SideGrows}
use Rattle.rdma_copy.specs.Copies.{side_of as side_at}
use Rattle.srp_iu.specs.Grammar.{Canon}
use Rattle.srp_iu.specs.declared.response.Rsp.{Rsp as Response}
use Rattle.srp_iu.specs.declared.unit.Iu.TheVariants as units
use Rattle.vio_trace.specs.declared.rows.AnswerRow.{AnswerRow}
use Rattle.vscsi_client.specs.Ports.{Ports}
use Rattle.vscsi_client.specs.Slots.{Holds}
use Rattle.vscsi_client.specs.State.{ClientState}
use Rattle.vscsi_client.specs.Taking.{TakesEntry, slot_of}
use Rattle.vscsi_client.specs.Units.{slot_address}
use Rattle.vscsi_client.specs.declared.TheConstants.{SLOTS}
use Rattle.vscsi_client.specs.declared.answers.Taken.TheVariants as takens
use Rattle.vscsi_client.proofs.Requests.{slot_within}
use Rattle.unit_region.specs.Kept.{KeepsWindow}
use Rattle.vcpu_run.specs.AnswersSeen.{AreResponsesRead, IsFront, IsResponseRead, fronts_of}
use Rattle.vcpu_run.specs.Takings.{Notes}
use Rattle.vcpu_run.specs.ClientSlots.{HoldsSlots}
use Rattle.vcpu_run.proofs.SlotsKept.{fetched_slots}
use Rattle.unit_region.proofs.Laws.{front_of, touched}

-- a front stays one as the page grows
front_later : (front old new : Option (List StrokeValue)) → Grows true old new → IsFront front old → IsFront front new
front_later None old new grows is = absurd is
front_later (Some front) None new grows is = absurd is
front_later (Some front) (Some old) None grows is = absurd grows
front_later (Some front) (Some old) (Some new) grows is =
    (is.0 ++ grows.0, grows.1 ∙ (ap (λ (list : List StrokeValue). list ++ grows.0) is.1 ∙ append_assoc front is.0 grows.0))

abbrev pub Fronts : Type 1
Fronts = (page : ℕ) → Option (List StrokeValue) → Type 0

-- all that was a front is one still
abbrev pub HasFronts : Fronts → Fronts → Type 0
HasFronts a b = (page : ℕ) (front : Option (List StrokeValue)) → a page front → b page front

response_more : (a b : Fronts) → HasFronts a b → (row : AnswerRow) → IsResponseRead a row → IsResponseRead b row
response_more a b more row is = record {
  response = is.response;
  canonical = is.canonical;
  tag_is = is.tag_is;
  slot = is.slot;
  within = is.within;
  bytes = is.bytes;
  spells = is.spells;
  fronts = is.fronts;
  there = λ page here. more page (is.fronts page) (is.there page here);
  read = is.read;
}

pub responses_more : (a b : Fronts) → HasFronts a b → (answers : List AnswerRow) → AreResponsesRead a answers → AreResponsesRead b answers
responses_more a b more answers all = All-weaker (IsResponseRead a) (IsResponseRead b) (response_more a b more) answers all

-- what lies on the pages of a window grows
pub responses_grow : (old new : Side) → SideGrows old new → (answers : List AnswerRow) → AreResponsesRead (fronts_of old.strokes) answers → AreResponsesRead (fronts_of new.strokes) answers
responses_grow old new grows answers all =
    responses_more (fronts_of old.strokes) (fronts_of new.strokes) (λ page front is. front_later front (old.strokes page) (new.strokes page) (grows.strokes page) is) answers all

pub responses_keep : (shared : Bool) (own own' : PortState) (answers answers' : List AnswerRow) → KeepsWindow shared own own' → answers' ≡ answers
    → AreResponsesRead (fronts_of own.strokes) answers → AreResponsesRead (fronts_of own'.strokes) answers'
responses_keep shared own own' answers answers' keeps same all =
    subst (AreResponsesRead (fronts_of own'.strokes)) (sym same) (responses_grow (side_at own) (side_at own') keeps.grows answers all)

-- what a slot holds was read there
held_read : (own : PortState) (slot : ℕ) (response : Response) (row : AnswerRow) → slot < SLOTS → response.tag ≡ row.tag → Holds own slot (units.Rsp response) → Canon row.answer (units.Rsp response) → IsResponseRead (fronts_of own.strokes) row
held_read own slot response row within tagged holds canonical = record {
  response = response;
  canonical = canonical;
  tag_is = tagged;
  slot = slot;
  within = within;
  bytes = holds.bytes;
  spells = holds.spells;
  fronts = own.strokes;
  there = λ page here. let within = touched (slot_address slot) (length holds.bytes) page here in front_of (own.strokes page) (holds.are.read.there page within.0 within.1);
  read = holds.are.read.bytes;
}

-- a request that is outstanding has a slot, and what it holds
pub record SlotHeld (own : PortState) (response : Response) : Type 0 where
  pub slot : ℕ
  pub within : slot < SLOTS
  pub holds : Holds own slot (units.Rsp response)

slot_held : (own : PortState) (response : Response) (o : Option ℕ) → ((slot : ℕ) → o ≡ Some slot → slot < SLOTS) → IsSomeAnd o (λ slot. Holds own slot (units.Rsp response))
    → SlotHeld own response
slot_held own response None within is = absurd is
slot_held own response (Some slot) within is = record { slot = slot; within = within slot refl; holds = is }

-- an answer was taken, and noted
pub noted_read : (s s' : ClientState) (old new : Ports) (tag : ℕ) (response : Response) (answers answers' : List AnswerRow) → TakesEntry s s' old new (takens.Answer tag response)
    → Notes tag response answers answers' → HoldsSlots s → AreResponsesRead (fronts_of new.own.strokes) answers → AreResponsesRead (fronts_of new.own.strokes) answers'
noted_read s s' old new tag response answers answers' takes notes has all =
    let kept : HoldsSlots takes.kept = fetched_slots s s' old new (takens.Answer tag response) takes has in
    let held = slot_held new.own response (slot_of tag takes.kept.outgoing) (λ slot. slot_within tag takes.kept.outgoing slot kept.requests) takes.judged.judged.2 in
    subst (AreResponsesRead (fronts_of new.own.strokes)) (sym notes.rows)
    (All-append (IsResponseRead (fronts_of new.own.strokes)) answers (notes.row ∷ []) all
    (All-cons (IsResponseRead (fronts_of new.own.strokes)) notes.row [] (held_read new.own held.slot response notes.row held.within (takes.judged.judged.1 ∙ sym notes.tag_is) held.holds notes.canonical) (All-nil (IsResponseRead (fronts_of new.own.strokes)))))
