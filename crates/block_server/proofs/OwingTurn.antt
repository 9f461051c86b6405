-- The answers that a unit owes over its turn.
use Rattle.std.proofs.Common.{◌≡◌, ℕ, Bool, false, List, Option, Some, IfSome, map, slice_get, slice_set, refl, sym, ◌∙◌, ap, subst}
use Rattle.crq_session.specs.EndState.{EndState}
use Rattle.rdma_copy.specs.declared.copy.CopyRecord.{CopyRecord}
use Rattle.tce_window.specs.PortState.{PortState}
use Rattle.block_server.specs.Books.{books_at, books_seen, next_of}
use Rattle.block_server.specs.Judged.{AreKept, Judged}
use Rattle.block_server.specs.Judges.{HasJudged}
use Rattle.block_server.specs.Owed.{HasAnswers, HaveAnswers, KeepsAnswersAll, owing_of, owing_seen}
use Rattle.block_server.specs.Receipts.{IsIntake, TakesIn, intake_of, standing_of}
use Rattle.block_server.specs.SiteState.{SiteState}
use Rattle.block_server.specs.declared.records.Records.{Records}
use Rattle.block_server.specs.declared.unit.Unit.{Unit}
use Rattle.block_server.proofs.Jointly.{intake_seen}
use Rattle.block_server.proofs.Keeping.{moved_to}
use Rattle.block_server.proofs.Owing.{owes_seen, seen_same}
use Rattle.block_server.proofs.Units.{get_set_same}

pub answered_turn : (shared : Bool) (units : List Unit) (n : ℕ) (unit unit' : Unit) (old new : SiteState) (records records' : Records) (own client : PortState) (queue queue' : EndState)
    (copies : List CopyRecord) → slice_get units n ≡ Some unit → unit.id ≡ old.own.place.unit
    → TakesIn (standing_of unit) (standing_of unit') old new records.grants.items records'.grants.items → KeepsAnswersAll shared unit unit' old new records records'
    → old.own ≡ own → old.client ≡ client → old.queue ≡ queue → old.copies ≡ copies → new.queue ≡ queue' → shared ≡ false
    → (judged : List Judged) → HasJudged units n own client queue copies records.history.items records.grants.items judged
    → HaveAnswers units n own.place.unit queue records.history.items records.grants.items
    → HaveAnswers (slice_set units n unit') n own.place.unit queue' records'.history.items records'.grants.items
answered_turn shared units n unit unit' old new records records' own client queue queue' copies there named takes keeps own_is client_is queue_is copies_is queue_is' alone judged has answers =
    let grants = records.grants.items in
    let named_own : unit.id ≡ own.place.unit = named ∙ ap (λ (port : PortState). port.place.unit) own_is in
    let before : IsIntake (intake_of (standing_of unit) old grants) (map (λ j. j.receipt) judged) =
    subst (λ (z : PortState × PortState × EndState × List CopyRecord). IsIntake (intake_seen unit z.0 z.1 z.2 z.3 grants) (map (λ j. j.receipt) judged))
    (λ i. ((sym own_is) i, (sym client_is) i, (sym queue_is) i, (sym copies_is) i))
    (subst (λ (u : Option Unit). IfSome u (λ u. IsIntake (intake_seen u own client queue copies grants) (map (λ j. j.receipt) judged))) there has.received) in
    let kept : AreKept (books_seen unit own.place.unit queue records.history.items grants) judged =
    subst (λ (u : Option Unit). IfSome u (λ u. AreKept (books_seen u own.place.unit queue records.history.items grants) judged)) there has.kept in
    let owes : HasAnswers (owing_seen unit own.place.unit queue records.history.items grants) =
    subst (λ (u : Option Unit). IfSome u (λ u. HasAnswers (owing_seen u own.place.unit queue records.history.items grants))) there answers in
    let after = keeps named (map (λ j. j.receipt) judged) before judged
    (moved_to (books_seen unit own.place.unit queue records.history.items grants) (books_at unit old records) judged named_own
    (ap (λ (q : EndState). q.last_session) queue_is) (ap (next_of unit.waiting) queue_is) refl refl refl refl refl refl refl refl refl refl refl kept) alone
    (owes_seen (owing_seen unit own.place.unit queue records.history.items grants) (owing_of unit old.queue records) (seen_same queue old.queue queue_is) named_own refl refl refl refl refl refl owes) in
    subst (λ (u : Option Unit). IfSome u (λ u. HasAnswers (owing_seen u own.place.unit queue' records'.history.items records'.grants.items))) (sym (get_set_same units n unit unit' there))
    (owes_seen (owing_of unit' new.queue records') (owing_seen unit' own.place.unit queue' records'.history.items records'.grants.items) (seen_same new.queue queue' (sym queue_is'))
    (sym (takes.id ∙ named_own)) refl refl refl refl refl refl after)
