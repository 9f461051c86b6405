-- What is left at its pair of a plain client whose partition fails.
use Rattle.std.proofs.Common.{◌≡◌, ◌∙◌, ◌⊎◌, inl, inr, ℕ, Bool, true, false, true≢false, List, [], ◌∷◌, Option, Some, None, length, refl, sym, ap, subst, append-nil}
use Rattle.std.specs.Borrow.{GName}
use Rattle.vio_num.specs.Entry.{partner_failed}
use Rattle.crq_session.specs.Answered.{Frees}
use Rattle.crq_session.specs.EndState.{EndPlace, EndState, OnlyFrees, OnlyReserves}
use Rattle.crq_session.specs.PlainState.{end_of, side_of}
use Rattle.crq_session.specs.declared.link.PlainLink.{PlainLink}
use Rattle.tce_window.specs.PlainPort.{known_of}
use Rattle.tce_window.specs.Window.{WindowValue}
use Rattle.block_server.specs.Talk.{Word}
use Rattle.block_server.specs.Talk.Word.{gone}
use Rattle.block_server.specs.declared.unit.Unit.{Unit}
use Rattle.vscsi_client.specs.State.{ClientState}
use Rattle.vscsi_client.specs.Turned.{unlinked}
use Rattle.vcpu_run.specs.Agreed.{OnDrivers}
use Rattle.vcpu_run.specs.Pairs.{Drives}
use Rattle.vcpu_run.specs.PlainPairs.{between_of}
use Rattle.vcpu_run.specs.PlainScripts.{PairFailsPlainly, PairIs, answers_in, rows_in}
use Rattle.vcpu_run.specs.PlainSeated.{own_in}
use Rattle.vcpu_run.specs.PlainSteps.{WasFailed, Own, beside, own_of}
use Rattle.vcpu_run.specs.PlainTalk.{ServerStays, TalksPlainly, TookNoMore}
use Rattle.vcpu_run.specs.declared.driver.Driver.{Driver}
use Rattle.vcpu_run.specs.declared.pair.Pair.{Pair}
use Rattle.vcpu_run.proofs.PlainRights.{rights_same}
use Rattle.vcpu_run.proofs.PlainFails.{fails_free, fails_shut}
use Rattle.vcpu_run.proofs.PlainPaired.{took_on}
use Rattle.vcpu_run.proofs.PlainSeated.{driver_behind, driver_of, pair_is, pair_was, server_stays, talks_at}
use Rattle.vcpu_run.proofs.PlainThrough.{failed_through, own_lent, stays_through, talks_own}

-- ---- of the client and its own end

-- Its queue was freed, or was not registered; of a free the server unit is to hear.
abbrev FailsSo : (old new : Own) → Type 0
FailsSo old new = (granted : ℕ) (unit : Unit) (server server' : EndState) (words : List Word) → ServerStays (beside unit server old) (beside unit server' new)
    → TalksPlainly granted (beside unit server old) words → ((words ≡ []) × (old.end.registered ≡ true)) ⊎ WasFailed (beside unit server old)
    → (later : List Word) × TalksPlainly granted (beside unit server' new) later × ((later ≡ words) ⊎ (later ≡ gone ∷ [])) × WasFailed (beside unit server' new)
    × (length new.client.rows ≡ length old.client.rows)

record FailsAt (old new : Own) : Type 0 where
  so : FailsSo old new
  took : TookNoMore old.end → TookNoMore new.end

freed_so : (old new : Own) (room : EndState) → OnlyReserves old.end room → Frees false room partner_failed new.end → OnlyFrees false room new.end → new.client ≡ unlinked old.client
    → new.window ≡ old.window → FailsAt old new
freed_so old new room ready frees rest client window = record {
  so = λ granted unit server server' words stays talks may. by granted unit server server' words stays talks may;
  took = took_on old.end new.end (rest.last_session ∙ ready.last_session) (rest.taken ∙ ready.taken) []
      (ap (λ (p : EndPlace). p.received) (rest.place ∙ ready.place) ∙ sym (append-nil old.end.place.received));
}
  where
    by : FailsSo old new
    by granted unit server server' words stays talks (inl (none, there)) =
        let at = fails_free granted (beside unit server old) (beside unit server' new) room (subst (TalksPlainly granted (beside unit server old)) none talks) ready frees rest client window stays in
        (gone ∷ [], at.0, inr refl, at.1, ap (λ (s : ClientState). length s.rows) client)
    by granted unit server server' words stays talks (inr failed) = absurd (true≢false (sym frees.registered ∙ (ready.registered ∙ failed.registered)))

shut_so : (old new : Own) (room : EndState) → OnlyReserves old.end room → OnlyReserves room new.end → room.registered ≡ false → new.client ≡ old.client
    → new.window ≡ old.window → FailsAt old new
shut_so old new room ready refused off client window = record {
  so = λ granted unit server server' words stays talks may. by granted unit server server' words stays talks may;
  took = took_on old.end new.end (refused.last_session ∙ ready.last_session) (refused.taken ∙ ready.taken) []
      (ap (λ (p : EndPlace). p.received) (refused.place ∙ ready.place) ∙ sym (append-nil old.end.place.received));
}
  where
    by : FailsSo old new
    by granted unit server server' words stays talks (inl (none, there)) = absurd (true≢false (sym there ∙ (sym ready.registered ∙ off)))
    by granted unit server server' words stays talks (inr failed) =
        let at = fails_shut granted (beside unit server old) (beside unit server' new) words room talks ready refused failed client window stays in
        (words, at.0, inl refl, at.1, ap (λ (s : ClientState). length s.rows) client)

-- through whichever borrow
fails_through : (a b x y : List GName) (old new : Own) → FailsAt (own_lent a old) (own_lent b new) → FailsAt (own_lent x old) (own_lent y new)
fails_through a b x y old new is = record { so = λ granted unit server server' words stays talks may. by granted unit server server' words stays talks may; took = is.took }
  where
    by : FailsSo (own_lent x old) (own_lent y new)
    by granted unit server server' words stays talks may = (at.0, talks_own y granted unit server' (own_lent b new) at.0 at.1, at.2, failed_through y unit unit server' server' (own_lent b new) at.3, at.4)
      where
        here : ((words ≡ []) × (old.end.registered ≡ true)) ⊎ WasFailed (beside unit server (own_lent x old)) → ((words ≡ []) × (old.end.registered ≡ true)) ⊎ WasFailed (beside unit server (own_lent a old))
        here (inl none) = inl none
        here (inr failed) = inr (failed_through a unit unit server server (own_lent x old) failed)

        at : (later : List Word) × TalksPlainly granted (beside unit server' (own_lent b new)) later × ((later ≡ words) ⊎ (later ≡ gone ∷ [])) × WasFailed (beside unit server' (own_lent b new))
            × (length new.client.rows ≡ length old.client.rows)
        at = is.so granted unit server server' words (stays_through a b unit server server' (own_lent x old) (own_lent y new) stays)
            (talks_own a granted unit server (own_lent x old) words talks) (here may)

-- ---- at its pair

pair_fails : (f g : Bool) (x y : List GName) (lent : PlainLink) (old new : Pair) → lent ≡ old.link → f ≡ false → g ≡ false → Drives old new → new.window ≡ old.window
    → ((a : Driver) → old.driver ≡ Some a → (b : Driver) × (new.driver ≡ Some b) × (b.answers.items ≡ a.answers.items)
    × FailsAt (own_of a (end_of x lent f) (known_of old.window)) (own_of b (end_of y new.link g) (known_of new.window)))
    → PairFailsPlainly old new
pair_fails f g x y lent old new same first next drives window step granted unit words talks may =
    let (a, was, talk) = driver_of (λ driver. TalksPlainly granted (between_of unit driver old) words) old.driver talks in
    let (b, there, answers, is) = step a was in
    let fails : FailsAt (own_in a old) (own_in b new) =
    fails_through x y [] [] (own_in a old) (own_in b new)
    (subst (λ (l : PlainLink). FailsAt (own_of a (end_of x l false) (known_of old.window)) (own_of b (end_of y new.link false) (known_of new.window))) same
    (subst (λ (d : Bool). FailsAt (own_of a (end_of x lent d) (known_of old.window)) (own_of b (end_of y new.link false) (known_of new.window))) first
    (subst (λ (d : Bool). FailsAt (own_of a (end_of x lent f) (known_of old.window)) (own_of b (end_of y new.link d) (known_of new.window))) next is))) in
    let (later, talk', said, failed, rows) = fails.so granted unit (end_of [] old.link true) (end_of [] new.link true) words
    (server_stays unit a b old new drives talk.calm.ends.server_took (fails.took talk.calm.ends.own_took)) talk (here a was unit words may) in
    record {
      later = later;
      talks = talks_at granted unit later new b there talk';
      said = said;
      rows = ap rows_in there ∙ (rows ∙ sym (ap rows_in was));
      answers = ap answers_in there ∙ (answers ∙ sym (ap answers_in was));
      left = inr (pair_is WasFailed new b there (λ other. failed_through [] unit other (end_of [] new.link true) (end_of [] new.link true) (own_in b new) failed));
      rights = rights_same (known_of old.window) (known_of new.window) (ap (λ (w : WindowValue). (known_of w).values) window);
    }
  where
    here : (a : Driver) → old.driver ≡ Some a → (unit : Unit) (words : List Word) → ((words ≡ []) × ((side_of old.link false).registered ≡ true)) ⊎ PairIs WasFailed old
        → ((words ≡ []) × ((side_of old.link false).registered ≡ true)) ⊎ WasFailed (between_of unit a old)
    here a was unit words (inl none) = inl none
    here a was unit words (inr failed) = inr (pair_was WasFailed old a was failed unit)

-- the queue was freed, and the driver told
pub pair_freed : (f g : Bool) (x y : List GName) (lent link : PlainLink) (room : EndState) (old new : Pair) → lent ≡ old.link → f ≡ false → g ≡ false → Drives old new → new.link ≡ link
    → new.window ≡ old.window → OnDrivers old.driver new.driver (λ a b. b.client ≡ unlinked a.client)
    → OnDrivers old.driver new.driver (λ a b. b.answers.items ≡ a.answers.items) → OnlyReserves (end_of x lent f) room
    → Frees false room partner_failed (end_of y link g) → OnlyFrees false room (end_of y link g) → PairFailsPlainly old new
pair_freed f g x y lent link room old new same first next drives linked window told noted ready frees rest =
    pair_fails f g x y lent old new same first next drives window
    (λ a was. let b = driver_behind (λ a b. (b.client ≡ unlinked a.client) × (b.answers.items ≡ a.answers.items)) old.driver new.driver a was (both old.driver new.driver told noted) in (
      b.0,
      b.1,
      b.2.1,
      freed_so (own_of a (end_of x lent f) (known_of old.window)) (own_of b.0 (end_of y new.link g) (known_of new.window)) room ready
          (subst (λ (l : PlainLink). Frees false room partner_failed (end_of y l g)) (sym linked) frees)
          (subst (λ (l : PlainLink). OnlyFrees false room (end_of y l g)) (sym linked) rest) b.2.0 (ap (λ (w : WindowValue). known_of w) window),
    ))
  where
    both : (o p : Option Driver) → OnDrivers o p (λ a b. b.client ≡ unlinked a.client) → OnDrivers o p (λ a b. b.answers.items ≡ a.answers.items)
        → OnDrivers o p (λ a b. (b.client ≡ unlinked a.client) × (b.answers.items ≡ a.answers.items))
    both None None told noted = tt
    both (Some a) (Some b) told noted = (told, noted)
    both None (Some b) told noted = told
    both (Some a) None told noted = told

-- it was not registered
pub pair_shut : (f g : Bool) (x y : List GName) (lent : PlainLink) (room : EndState) (old new : Pair) → lent ≡ old.link → f ≡ false → g ≡ false → Drives old new
    → new.window ≡ old.window → new.driver ≡ old.driver → OnlyReserves (end_of x lent f) room → OnlyReserves room (end_of y new.link g) → room.registered ≡ false
    → PairFailsPlainly old new
pair_shut f g x y lent room old new same first next drives window driver ready refused off =
    pair_fails f g x y lent old new same first next drives window (λ a was. (
      a,
      driver ∙ was,
      refl,
      shut_so (own_of a (end_of x lent f) (known_of old.window)) (own_of a (end_of y new.link g) (known_of new.window)) room ready refused off refl
          (ap (λ (w : WindowValue). known_of w) window),
    ))
