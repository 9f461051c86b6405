-- A turn of a client's server unit, whatever rights the client's window has: where the two talk still behind it, all the rights were there that the
-- turn needs.
use Rattle.std.proofs.Common.{◌≡◌, ◌≢◌, ◌∙◌, inl, inr, ℕ, ◌++◌, All, true, false, List, [], ◌∷◌, append-nil, length, length-append, map, refl, sym, ap, subst, arith}
use Rattle.std.proofs.lemmas.List.Elements.{All-cons, All-head, All-nil}
use Rattle.vio_num.specs.declared.history.Grant.{Grant}
use Rattle.vio_num.specs.declared.history.Served.{Served}
use Rattle.vio_num.specs.declared.names.UnitId.{UnitId}
use Rattle.crq_session.specs.Answered.{taken_now}
use Rattle.srp_iu.specs.declared.unit.Iu.{Iu}
use Rattle.srp_iu.specs.declared.unit.Iu.TheVariants as units
use Rattle.block_server.specs.HeardOut.{HearsOut, ServesOut, to_serve}
use Rattle.block_server.specs.Talk.{HearsAll, MayAnswerNext, MayWriteAnswer, SayWords, Talk, Word, order_asked, reach, talk_of, to_come}
use Rattle.block_server.specs.declared.request.Order.TheVariants as orders
use Rattle.block_server.specs.declared.request.Request.{Request}
use Rattle.vcpu_run.specs.OwnTurns.{MayAnswer, MayRead, StillTalks}
use Rattle.vcpu_run.specs.PlainTalk.{AreSaidThere, ArePending, Ask, AskedParts, Between, IsAsk, IsCalm, IsPendingAs, IsTalking, is_logout, word_of}
use Rattle.vcpu_run.proofs.OwnStarts.{doing_of}
use Rattle.vcpu_run.proofs.OwnHeardOut.{SeesClient, first_may, heard_out, said_long}
use Rattle.vcpu_run.proofs.OwnHears.{granted_back, heard_pending, said_read}
use Rattle.vcpu_run.proofs.OwnWindows.{StaysGranted, answers_stay, reads_stay}
use Rattle.vcpu_run.proofs.PlainReady.{all_rest, pending_long}
use Rattle.vcpu_run.proofs.PlainServed.{pending_first}

-- ---- the rights that a turn needs

-- What is to come may be read, and what is the oldest then may be answered.
pub record HasItsRights (at : Between) (words : List Word) : Type 0 where
  pub said : SayWords at.window (to_come at.server) words
  pub next : MayAnswerNext at.unit (reach at.server at.window false) words

-- a logout is asked so
logout_order : (iu : Iu) → is_logout iu ≡ true → order_asked iu ≡ orders.Logout
logout_order (units.ILogout tag) is = refl
logout_order iu isnt = absurd (cc (isnt))

-- they were there, where the turn heard all, and served a request
pub rights_told : (granted : ℕ) (at at' : Between) (words : List Word) (asked : AskedParts) (answers : List Iu) (name : UnitId) (rows' : List Served) (lines' : List Grant)
    → IsCalm granted at words → IsTalking granted at words asked answers → StaysGranted at.window at'.window
    → StillTalks granted (doing_of at' name rows' lines') at.client at.own asked.coming (asked.pending ++ asked.coming) → SeesClient at'.server at.own
    → HearsOut 255 false at'.unit at'.server → ServesOut at.unit at'.unit at.server at'.server → HasItsRights at words
rights_told granted at at' words asked answers name rows' lines' calm talk rights still sees out serves = record {
  said = subst (SayWords at.window (to_come at.server)) (sym talk.coming)
      (said_read at.window calm.usable (to_come at.server) asked.coming coming_each
      (reads_stay at'.window at.window (granted_back at.window at'.window rights) asked.coming read)
      (subst (AreSaidThere at.window (to_come at.server)) talk.coming calm.said));
  next = λ told request rest heard first isnt. may told request rest (subst (λ (list : List Word). HearsAll (talk_of at.unit) (length (taken_now at.server)) list told) talk.coming heard) first isnt;
}
  where
    pending_each : All IsAsk (asked.pending ++ asked.coming)
    pending_each = all_rest IsAsk asked.answered (asked.pending ++ asked.coming) talk.each

    coming_each : All IsAsk asked.coming
    coming_each = all_rest IsAsk asked.pending asked.coming pending_each

    none : still.coming ≡ []
    none = heard_out granted at'.unit name at'.server at'.window rows' lines' at.client at.own asked.coming (asked.pending ++ asked.coming) still sees out

    read : All (MayRead at'.window) asked.coming
    read = subst (All (MayRead at'.window))
        (sym (still.done.heard_is ∙ ap (λ (list : List Ask). still.done.heard ++ list) none ∙ append-nil still.done.heard)) still.done.read

    long : to_serve at.unit at.server ≡ length (asked.pending ++ asked.coming)
    long = omega (
      arith,
      pending_long at.unit.pending.items asked.pending talk.pending,
      said_long at.window (to_come at.server) asked.coming (subst (AreSaidThere at.window (to_come at.server)) talk.coming calm.said),
      length-append asked.pending asked.coming,
    )

    may : (told : Talk) (request : Request) (rest : List Request) → HearsAll (talk_of at.unit) (length (taken_now at.server)) (map word_of asked.coming) told
        → told.pending ≡ request ∷ rest → request.order ≢ orders.Logout → MayWriteAnswer at.window request.address
    may told request rest heard items isnt =
        let are : ArePending told.pending (asked.pending ++ asked.coming) =
        heard_pending (talk_of at.unit) told (length (taken_now at.server)) asked.pending asked.coming coming_each talk.pending heard in
        let first = pending_first request rest (asked.pending ++ asked.coming) (subst (λ (requests : List Request). ArePending requests (asked.pending ++ asked.coming)) items are) in
        by first.0 first.3 (All-head (MayAnswer at.window) first.0 [] (answers_stay at'.window at.window (granted_back at.window at'.window rights) (first.0 ∷ [])
        (All-cons (MayAnswer at'.window) first.0 []
        (first_may granted at.unit at'.unit name at.server at'.server at'.window rows' lines' at.client at.own asked.coming (asked.pending ++ asked.coming) still none long serves
        first.0 first.1 first.2) (All-nil (MayAnswer at'.window)))))
      where
        by : (ask : Ask) → IsPendingAs request ask → MayAnswer at.window ask → MayWriteAnswer at.window request.address
        by ask is (inl logout) = absurd (isnt (is.order ∙ logout_order ask.iu logout))
        by ask is (inr yes') = subst (MayWriteAnswer at.window) (sym is.address) yes'
