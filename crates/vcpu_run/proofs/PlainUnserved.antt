-- A turn of a server unit lays no stroke in the window of a client whose queue is not registered: nothing is pending.
use Rattle.std.proofs.Common.{◌≡◌, ◌∙◌, inl, inr, ℕ, true, false, true≢false, List, [], ◌∷◌, Some, length, sym, ap}
use Rattle.std.specs.Borrow.{GName}
use Rattle.vio_num.specs.declared.history.Grant.{Grant}
use Rattle.vio_num.specs.declared.names.UnitId.{UnitId}
use Rattle.crq_session.specs.Answered.{taken_now}
use Rattle.crq_session.specs.PlainState.{end_of}
use Rattle.tce_window.specs.PlainPort.{known_of}
use Rattle.tce_window.specs.PortState.{PortState}
use Rattle.block_server.specs.Ranges.{Known, known_in}
use Rattle.block_server.specs.Talk.{Word, talk_of}
use Rattle.block_server.specs.Talk.Word.{gone}
use Rattle.vcpu_run.specs.Credited.{Ended}
use Rattle.vcpu_run.specs.PlainPairs.{IsReadyPair, LeavesAway, ServerBooks, between_of}
use Rattle.vcpu_run.specs.PlainTalk.{Between, HearsOfGone, InPhase, IsVacant, TalksPlainly}
use Rattle.vcpu_run.specs.declared.pair.Pair.{Pair}
use Rattle.vcpu_run.proofs.PlainPaired.{TurnsOn}
use Rattle.vcpu_run.proofs.PlainReady.{talk_ready}
use Rattle.vcpu_run.proofs.PlainTurned.{lent_at, talks_lent}
use Rattle.vcpu_run.proofs.PlainTurns.{Turns, gone_vacant, hears_these, none_vacant}

-- the queue is not registered: the client is away, and its server unit is vacant once it has heard of that
pub away_vacant : (granted : ℕ) (at at' : Between) (lines lines' : List Grant) (words : List Word) → TalksPlainly granted at words → at.own.registered ≡ false
    → (turn : Turns at at' lines lines' words) → IsVacant turn.middle
away_vacant granted at at' lines lines' words talks off turn = by talks.phase
  where
    n : ℕ
    n = length (taken_now at.server)

    away : HearsOfGone at words → IsVacant turn.middle
    away (inl one) = gone_vacant at.unit turn.middle n (hears_these at.unit turn.middle n words (gone ∷ []) one turn.hears.heard)
    away (inr none) = none_vacant at.unit turn.middle n (hears_these at.unit turn.middle n words [] none.0 turn.hears.heard) none.1

    by : InPhase granted at words → IsVacant turn.middle
    by (inl is) = away is.heard
    by (inr (inl is)) = absurd (true≢false (sym is.registered ∙ off))
    by (inr (inr (asked, answers, talk))) = absurd (true≢false (sym talk.registered ∙ off))

same_known : (a b : Known) → Some a ≡ Some b → a ≡ b
same_known a b e = cc (e)

pub served_away : (granted : ℕ) (told : List Ended) (home k : ℕ) (name : UnitId) (books books' : ServerBooks) (a b : List GName) (old new : Pair)
    → TurnsOn name books books' k (end_of a old.link true) (end_of b new.link true) (known_of old.window) (known_of new.window)
    → IsReadyPair granted told home books k old → LeavesAway old new
served_away granted told home k name books books' a b old new turns (inl (words, plain)) off =
    let at : Between = lent_at a [] (between_of plain.unit plain.driver old) in
    let talks : TalksPlainly granted at words = talks_lent a [] granted (between_of plain.unit plain.driver old) words plain.talks in
    let ready = talk_ready granted at words plain.rights talks in
    let on = turns.talks words plain.unit plain.there ready in
    let at' : Between = lent_at b [] (between_of on.unit' plain.driver new) in
    let turn : Turns at at' books.lines books'.lines words = on.talks in
    let vacant : IsVacant turn.middle = away_vacant granted at at' books.lines books'.lines words talks off turn in
    let same : known_in (known_of new.window) ≡ known_in (known_of old.window) =
    same_known (known_in (known_of new.window)) (known_in (known_of old.window)) ((turns.places words plain.unit plain.there ready).none (talk_of turn.middle) turn.hears.heard vacant.pending) in
    (turns.window_place, λ page. ap (λ (known : Known). known.strokes page) same)
served_away granted told home k name books books' a b old new turns (inr is) off =
    let made = is.new.made in
    let on = turns.opens is.unit is.there (record { alone = made.alone; apart = made.apart; unregistered = made.unregistered; partner = made.partner; event = made.event; made = made.made }) in
    (turns.window_place, λ page. ap (λ (port : PortState). port.strokes page) on.opens.opens.window)
