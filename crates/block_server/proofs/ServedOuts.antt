-- That a turn serves a request, unless it is stopped or none is pending: how the parts of the turn follow one another.
use Rattle.std.proofs.Common.{◌≡◌, ◌≢◌, ◌⊎◌, inl, inr, ◌++◌, ◌+◌, ◌<◌, ◌≤◌, ℕ, Bool, true, false, List, [], ◌∷◌, None, Result, Ok, Err, IfOk, OnOk, drop, length, length-append, refl, sym, ◌∙◌, ap, subst, arith}
use Rattle.crq_session.specs.EndState.{EndState}
use Rattle.vio_num.specs.declared.entry.Entry.{Entry}
use Rattle.vio_num.specs.declared.memory.NoMemory.{NoMemory}
use Rattle.block_server.specs.HeardOut.{BringsFew, BringsOne, CopiesOrEnds, IsStopped, ServesOrStops, ServesOut, to_serve}
use Rattle.block_server.specs.SiteState.{SiteState}
use Rattle.block_server.specs.Stage.{is_answered}
use Rattle.block_server.specs.Talk.{IsAnswerAt, to_come}
use Rattle.block_server.specs.Waits.{MeetsUse}
use Rattle.block_server.specs.declared.intake.Next.{Next}
use Rattle.block_server.specs.declared.intake.Next.TheVariants.{End, Entry as NextEntry}
use Rattle.block_server.specs.declared.request.Request.{Request}
use Rattle.block_server.specs.declared.service.Outcome.{Outcome}
use Rattle.block_server.specs.declared.service.Stage.{Stage}
use Rattle.block_server.specs.declared.service.Stage.TheVariants as stages
use Rattle.block_server.specs.declared.unit.Unit.{Unit}
use Rattle.block_server.proofs.Servicing.{answer_at}
use Rattle.block_server.proofs.Talking.{not_in_use}

-- WHAT AN ENTRY BRINGS ---------------------------------------------------------------------------

same_long : (items items' : List Request) → items' ≡ items → length items' ≤ length items
same_long items items' same = omega (arith, ap (λ (list : List Request). length list) same)

-- nothing, and the turn goes on
pub brings_none : (unit unit' : Unit) (next : Next) → unit'.pending.items ≡ unit.pending.items → (next ≡ End → IsStopped unit') → BringsOne unit unit' next
brings_none unit unit' next pending ends = record { most = omega (arith, same_long unit.pending.items unit'.pending.items pending); ends = ends }

-- a request
pub brings_request : (unit unit' : Unit) (next : Next) (request : Request) → unit'.pending.items ≡ unit.pending.items ++ request ∷ [] → next ≢ End → BringsOne unit unit' next
brings_request unit unit' next request pending goes = record {
  most = omega (arith, ap (λ (list : List Request). length list) pending, length-append unit.pending.items (request ∷ []));
  ends = λ is. absurd (goes is);
}

-- the end of the session
pub brings_end : (unit unit' : Unit) (next : Next) → unit'.pending.items ≡ [] → unit'.line.closing ≡ true → BringsOne unit unit' next
brings_end unit unit' next pending closing = record { most = omega (arith, ap (λ (list : List Request). length list) pending); ends = λ is. inl closing }

-- the same of a unit that had as many pending
pub brings_from : (unit mid unit' : Unit) (result : Result Next NoMemory) → mid.pending.items ≡ unit.pending.items → IfOk result (BringsOne mid unit') → IfOk result (BringsOne unit unit')
brings_from unit mid unit' (Ok next) pending brings = record { most = omega (arith, brings.most, same_long unit.pending.items mid.pending.items pending); ends = brings.ends }
brings_from unit mid unit' (Err memory) pending brings = tt

-- it is one of those that were to come
pub few_one : (unit unit' : Unit) (old new : EndState) (next : Next) → length (to_come new) + 1 ≡ length (to_come old) → BringsOne unit unit' next → BringsFew unit unit' old new next
few_one unit unit' old new next less brings = record { most = omega (arith, less, brings.most); ends = brings.ends }

pub few_ok : (unit unit' : Unit) (old new : EndState) (result : Result Next NoMemory) → length (to_come new) + 1 ≡ length (to_come old) → IfOk result (BringsOne unit unit')
    → IfOk result (BringsFew unit unit' old new)
few_ok unit unit' old new (Ok next) less brings = few_one unit unit' old new next less brings
few_ok unit unit' old new (Err memory) less brings = tt

-- none came
pub few_none : (unit : Unit) (old new : EndState) (next : Next) → to_come new ≡ to_come old → next ≢ End → BringsFew unit unit old new next
few_none unit old new next same goes = record { most = omega (arith, ap (λ (entries : List Entry). length entries) same); ends = λ is. absurd (goes is) }

pub other_entry : (next : Next) → next ≢ NextEntry → next ≡ NextEntry → ⊥
other_entry next other is = other is

-- one behind others
pub few_then : (unit mid before unit' : Unit) (old q new : EndState) (next : Next) → to_serve mid q ≤ to_serve unit old → before.pending.items ≡ mid.pending.items → BringsFew before unit' q new next
    → BringsFew unit unit' old new next
few_then unit mid before unit' old q new next front pending brings =
    record { most = omega (arith, front, same_long mid.pending.items before.pending.items pending, brings.most); ends = brings.ends }

pub few_end : (unit unit' : Unit) (old new : EndState) (next : Next) → to_serve unit' new ≤ to_serve unit old → next ≢ End → BringsFew unit unit' old new next
few_end unit unit' old new next most goes = record { most = most; ends = λ is. absurd (goes is) }

-- WHAT AN ANSWER DOES ----------------------------------------------------------------------------

drop_less : (items : List Request) → length (drop 1 items) ≤ length items
drop_less [] = omega arith
drop_less (request ∷ requests) = omega arith

pub drops_less : (items items' : List Request) → items' ≡ drop 1 items → length items' ≤ length items
drops_less items items' drops = omega (arith, drop_less items, ap (λ (list : List Request). length list) drops)

-- the oldest request was served
pub serves_first : (unit unit' : Unit) (request : Request) (rest : List Request) → unit.pending.items ≡ request ∷ rest → unit'.pending.items ≡ drop 1 unit.pending.items → ServesOrStops unit unit'
serves_first unit unit' request rest parts drops =
    inr (omega (arith, ap (λ (list : List Request). length list) (drops ∙ ap (λ (list : List Request). drop 1 list) parts), ap (λ (list : List Request). length list) parts))

-- its answer was not copied
pub copies_ends : (unit unit' : Unit) (outcome : Outcome) → ((o : Outcome) → unit'.service.stage ≡ stages.Entry o → ⊥) → CopiesOrEnds unit unit' outcome → ServesOrStops unit unit'
copies_ends unit unit' outcome not (inl copied) = absurd (not outcome copied.0)
copies_ends unit unit' outcome not (inr ended) = inl (inl ended.1)

entry_start : (stage : Stage) (outcome : Outcome) → stage ≡ stages.Entry outcome → stage ≡ stages.Start → ⊥
entry_start stage outcome entry start = cc (entry, start)

-- it was, and then its entry was put, kept or lost
pub copies_puts : (unit mid unit' : Unit) (outcome at : Outcome) (request : Request) (rest : List Request) → mid.service.stage ≡ stages.Entry at → unit.pending.items ≡ request ∷ rest
    → CopiesOrEnds unit mid outcome → (mid.pending.items ≡ request ∷ rest → ServesOrStops mid unit') → ServesOrStops unit unit'
copies_puts unit mid unit' outcome at request rest entry parts (inr ended) puts = absurd (entry_start mid.service.stage at entry ended.0)
copies_puts unit mid unit' outcome at request rest entry parts (inl copied) puts = by (puts (copied.1 ∙ parts))
  where
    by : ServesOrStops mid unit' → ServesOrStops unit unit'
    by (inl stopped) = inl stopped
    by (inr less) = inr (omega (arith, less, same_long unit.pending.items mid.pending.items copied.1))

-- THE TURN ---------------------------------------------------------------------------------------

pub stopped_out : (unit unit' : Unit) (old new : EndState) → IsStopped unit' → ServesOut unit unit' old new
stopped_out unit unit' old new (inl closing) = inr (inl closing)
stopped_out unit unit' old new (inr kept) = inr (inr (inl kept))

pub serves_out : (unit unit' : Unit) (old new : EndState) → to_come new ≡ to_come old → ServesOrStops unit unit' → ServesOut unit unit' old new
serves_out unit unit' old new coming (inl stopped) = stopped_out unit unit' old new stopped
serves_out unit unit' old new coming (inr less) = inr (inr (inr (omega (arith, less, ap (λ (entries : List Entry). length entries) coming))))

pub none_pending : (items : List Request) → ((request : Request) (rest : List Request) → items ≡ request ∷ rest → ⊥) → items ≡ []
none_pending [] other = refl
none_pending (request ∷ rest) other = absurd (other request rest refl)

-- What the oldest request asks was done, up to its answer, and then it was answered.
pub serve_out : {A : Type 0} (unit mid unit' : Unit) (old at new : SiteState) (found : Request) (rest : List Request) (stage : Stage) (result : Result A NoMemory) → old.shared ≡ false
    → unit.pending.items ≡ found ∷ rest → mid.pending.items ≡ unit.pending.items → mid.service.stage ≡ stage → at.shared ≡ old.shared → to_come new.queue ≡ to_come old.queue
    → (is_answered stage ≡ true) ⊎ MeetsUse old at
    → ((outcome : Outcome) → IsAnswerAt mid.service.stage outcome → mid.pending.items ≡ found ∷ rest → at.shared ≡ false → OnOk result (ServesOrStops mid unit'))
    → OnOk result (ServesOut unit unit' old.queue new.queue)
serve_out unit mid unit' old at new found rest stage (Err memory) apart parts pending is shared coming went answers = tt
serve_out unit mid unit' old at new found rest stage (Ok done) apart parts pending is shared coming went answers = by went
  where
    from : ServesOrStops mid unit' → ServesOrStops unit unit'
    from (inl stopped) = inl stopped
    from (inr less) = inr (omega (arith, less, same_long unit.pending.items mid.pending.items pending))

    by : (is_answered stage ≡ true) ⊎ MeetsUse old at → ServesOut unit unit' old.queue new.queue
    by (inl answered) =
        let at_answer = answer_at stage answered in
        serves_out unit unit' old.queue new.queue coming
        (from (answers at_answer.0 (subst (λ (s : Stage). IsAnswerAt s at_answer.0) (sym is) at_answer.1) (pending ∙ parts) (shared ∙ apart)))
    by (inr busy) = absurd (not_in_use old at apart busy)

-- no more were pending or could come than before
pub out_from : {A : Type 0} (unit mid unit' : Unit) (old q new : EndState) (result : Result A NoMemory) → to_serve mid q ≤ to_serve unit old → OnOk result (ServesOut mid unit' q new)
    → OnOk result (ServesOut unit unit' old new)
out_from unit mid unit' old q new (Err memory) few out = tt
out_from unit mid unit' old q new (Ok done) few out = by out
  where
    by : ServesOut mid unit' q new → ServesOut unit unit' old new
    by (inl empty) = inl empty
    by (inr (inl closing)) = inr (inl closing)
    by (inr (inr (inl kept))) = inr (inr (inl kept))
    by (inr (inr (inr less))) = inr (inr (inr (omega (arith, few, less))))

-- what is pending after an entry that was kept was put, if one was, and what is to come
pub few_kept : (unit mid unit' : Unit) (old q new : EndState) → mid.pending.items ≡ unit.pending.items → to_come q ≡ to_come old → length unit'.pending.items ≤ length mid.pending.items → to_come new ≡ to_come q
    → to_serve unit' new ≤ to_serve unit old
few_kept unit mid unit' old q new pending come less coming =
    omega (arith, same_long unit.pending.items mid.pending.items pending, less, ap (λ (entries : List Entry). length entries) (coming ∙ come))
