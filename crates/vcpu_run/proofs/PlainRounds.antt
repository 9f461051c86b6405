-- The turns of the server units, one behind the other, and what they leave of the pairs of plain clients.
use Rattle.std.proofs.Common.{◌≡◌, ◌≢◌, ◌∙◌, ◌⊎◌, ◌+◌, ◌<◌, ◌≤◌, inl, inr, ℕ, true, List, [], map, Option, Some, None, IsSomeAnd, length, refl, slice_get, slice_set, sym, ap, subst, arith}
use Rattle.std.proofs.lemmas.Option.{slice_get_within}
use Rattle.vio_num.specs.declared.history.Served.{Served}
use Rattle.tce_window.specs.PlainPort.{known_of}
use Rattle.block_server.specs.RowsOn.{row_tag}
use Rattle.block_server.specs.Talk.{Word}
use Rattle.vcpu_run.specs.declared.pair.Pair.{Pair}
use Rattle.block_server.specs.declared.unit.Unit.{Unit}
use Rattle.crq_session.specs.PlainState.{end_of}
use Rattle.vcpu_run.specs.Machines.{server_id}
use Rattle.vcpu_run.specs.PlainBorne.{AreBorne}
use Rattle.vcpu_run.specs.PlainNoted.{AreAnswers, AreAskedFor}
use Rattle.vcpu_run.specs.PlainPairs.{IdlesPlainly, IdlesPlainlyAt, IsIdleUnit, IsNewPair, IsPlainAt, IsPlainPair, IsReadyAt, IsReadyPair, LeavesAway, LeavesAwayAt, ServerBooks, ServesPlainly, ServesPlainlyAt, SparesUnit}
use Rattle.vcpu_run.specs.PlainRows.{AnswersKept, EntriesKept, TagsKept}
use Rattle.vcpu_run.proofs.Driving.{get_set_same, same_or, some_is}
use Rattle.vcpu_run.specs.Credited.{Ended}

-- ---- one turn

pub served_at : (home : ℕ) (books books' : ServerBooks) (pairs : List Pair) (n : ℕ) (old new : Pair) → n < length pairs → slice_get pairs n ≡ Some old
    → ServesPlainly home books books' n old new → ServesPlainlyAt home books books' pairs (slice_set pairs n new) n
served_at home books books' pairs n old new less found serves granted told ready = (
  subst (λ (o : Option Pair). IsSomeAnd o (IsPlainPair granted told home books' n [])) (sym (get_set_same pairs n new less)) served.0,
  λ before after was now.
      subst (λ (pair : Pair). LeavesAway pair after) (some_is old before (sym found ∙ was))
      (subst (LeavesAway old) (some_is new after (sym (get_set_same pairs n new less) ∙ now)) served.1),
)
  where
    served : IsPlainPair granted told home books' n [] new × LeavesAway old new
    served = serves granted told (subst (λ (o : Option Pair). IsSomeAnd o (IsReadyPair granted told home books n)) found ready)

pub idled_at : (home : ℕ) (books books' : ServerBooks) (pairs : List Pair) (n : ℕ) (old : Pair) → slice_get pairs n ≡ Some old → IdlesPlainly home books books' n old
    → IdlesPlainlyAt home books books' pairs n
idled_at home books books' pairs n old found idles granted told ready =
    idles granted told (subst (λ (o : Option Pair). IsSomeAnd o (IsReadyPair granted told home books n)) found ready)

-- ---- a turn of another unit

plain_spared : (granted : ℕ) (told : List Ended) (home : ℕ) (books books' : ServerBooks) (k : ℕ) (words : List Word) (pair : Pair) → SparesUnit home books books' k → IsPlainPair granted told home books k words pair
    → IsPlainPair granted told home books' k words pair
plain_spared granted told home books books' k words pair spares is = record {
  unit = is.unit;
  there = spares.same ∙ is.there;
  id = is.id;
  driver = is.driver;
  driver_is = is.driver_is;
  talks = is.talks;
  rights = is.rights;
  owed = omega (arith, spares.grants, is.owed);
  laid = is.laid;
  lines = spares.lines is.lines;
  tags = λ talk heard. subst (λ (tags : List ℕ). TagsKept tags (length is.driver.client.rows) talk.pending) (sym (ap (map row_tag) spares.rows)) (is.tags talk heard);
  answers = λ talk heard. subst (λ (tags : List ℕ). AnswersKept tags is.driver.client (end_of [] pair.link true).sent talk.pending) (sym (ap (map row_tag) spares.rows)) (is.answers talk heard);
  entries = λ talk heard. subst (λ (list : List Served). EntriesKept list (end_of [] pair.link true).sent talk.pending) (sym spares.rows) (is.entries talk heard);
  apart = is.apart;
  borne = subst (λ (list : List Served). AreBorne list (server_id home k) is.driver.client.rows (known_of pair.window).strokes) (sym spares.rows) is.borne;
  answered = subst (λ (list : List Served). AreAnswers list pair.window.unit (known_of pair.window).strokes) (sym spares.rows) is.answered;
  sized = subst (λ (list : List Served). AreAskedFor list is.driver.client.rows) (sym spares.rows) is.sized;
  noted = is.noted;
}

new_spared : (granted : ℕ) (told : List Ended) (home : ℕ) (books books' : ServerBooks) (k : ℕ) (pair : Pair) → SparesUnit home books books' k → IsNewPair granted told home books k pair → IsNewPair granted told home books' k pair
new_spared granted told home books books' k pair spares is = record {
  unit = is.unit;
  there = spares.same ∙ is.there;
  id = is.id;
  driver = is.driver;
  driver_is = is.driver_is;
  new = is.new;
  rights = is.rights;
  owed = omega (arith, spares.grants, is.owed);
  laid = is.laid;
  lines = spares.lines is.lines;
  tags = ap (map row_tag) spares.rows ∙ is.tags;
  sent = is.sent;
  apart = is.apart;
  borne = subst (λ (list : List Served). AreBorne list (server_id home k) is.driver.client.rows (known_of pair.window).strokes) (sym spares.rows) is.borne;
  answered = subst (λ (list : List Served). AreAnswers list pair.window.unit (known_of pair.window).strokes) (sym spares.rows) is.answered;
  sized = subst (λ (list : List Served). AreAskedFor list is.driver.client.rows) (sym spares.rows) is.sized;
  noted = is.noted;
}

ready_spared : (granted : ℕ) (told : List Ended) (home : ℕ) (books books' : ServerBooks) (k : ℕ) (pair : Pair) → SparesUnit home books books' k → IsReadyPair granted told home books k pair → IsReadyPair granted told home books' k pair
ready_spared granted told home books books' k pair spares (inl (words, plain)) = inl (words, plain_spared granted told home books books' k words pair spares plain)
ready_spared granted told home books books' k pair spares (inr is) = inr (new_spared granted told home books books' k pair spares is)

some_map : {X : Type 0} (P Q : X → Type 0) (o : Option X) → ((x : X) → P x → Q x) → IsSomeAnd o P → IsSomeAnd o Q
some_map P Q None step is = absurd is
some_map P Q (Some x) step is = step x is

pub plain_else : (granted : ℕ) (told : List Ended) (home : ℕ) (books books' : ServerBooks) (k : ℕ) (words : List Word) (old new : List Pair) → SparesUnit home books books' k → slice_get new k ≡ slice_get old k
    → IsPlainAt granted told home books k words old → IsPlainAt granted told home books' k words new
plain_else granted told home books books' k words old new spares same is =
    subst (λ (o : Option Pair). IsSomeAnd o (IsPlainPair granted told home books' k words)) (sym same)
    (some_map (IsPlainPair granted told home books k words) (IsPlainPair granted told home books' k words) (slice_get old k) (λ pair. plain_spared granted told home books books' k words pair spares) is)

pub ready_else : (granted : ℕ) (told : List Ended) (home : ℕ) (books books' : ServerBooks) (k : ℕ) (old new : List Pair) → SparesUnit home books books' k → slice_get new k ≡ slice_get old k
    → IsReadyAt granted told home books k old → IsReadyAt granted told home books' k new
ready_else granted told home books books' k old new spares same is =
    subst (λ (o : Option Pair). IsSomeAnd o (IsReadyPair granted told home books' k)) (sym same)
    (some_map (IsReadyPair granted told home books k) (IsReadyPair granted told home books' k) (slice_get old k) (λ pair. ready_spared granted told home books books' k pair spares) is)

-- a pair that is plain is one before a turn
pub plain_ready : (granted : ℕ) (told : List Ended) (home : ℕ) (books : ServerBooks) (k : ℕ) (words : List Word) (pairs : List Pair) → IsPlainAt granted told home books k words pairs → IsReadyAt granted told home books k pairs
plain_ready granted told home books k words pairs = some_map (IsPlainPair granted told home books k words) (IsReadyPair granted told home books k) (slice_get pairs k) (λ pair plain. inl (words, plain))

-- ---- the turns of a round

-- The first units had their turns, and the others and their pairs are as they were.
pub record ServedTo (count home : ℕ) (books books' : ServerBooks) (old new : List Pair) : Type 0 where
  pub before : (k : ℕ) → k < count → ServesPlainlyAt home books books' old new k
  pub later : (k : ℕ) → count ≤ k → SparesUnit home books books' k × (slice_get new k ≡ slice_get old k)

pub served_none : (home : ℕ) (books : ServerBooks) (pairs : List Pair) → ServedTo 0 home books books pairs pairs
served_none home books pairs = record {
  before = λ k less. absurd (omega (arith, less));
  later = λ k upto. (record { same = refl; lines = λ is. is; grants = omega arith; rows = refl }, refl);
}

pub spares_on : (home k : ℕ) (books middle books' : ServerBooks) → SparesUnit home books middle k → SparesUnit home middle books' k → SparesUnit home books books' k
spares_on home k books middle books' first next = record {
  same = next.same ∙ first.same;
  lines = λ is. next.lines (first.lines is);
  grants = omega (arith, first.grants, next.grants);
  rows = next.rows ∙ first.rows;
}

pub served_next : (n home now_home : ℕ) (books middle books' : ServerBooks) (old between new : List Pair) → now_home ≡ home → ServedTo n home books middle old between
    → ServesPlainlyAt now_home middle books' between new n → ((k : ℕ) → k ≢ n → SparesUnit now_home middle books' k)
    → ((k : ℕ) → k ≢ n → slice_get new k ≡ slice_get between k) → ServedTo (n + 1) home books books' old new
served_next n home now_home books middle books' old between new home_is to serves_now spares_now same = record {
  before = λ k less granted told ready. by k granted told ready less (same_or k n);
  later = λ k upto.
      let apart : k ≢ n = λ is. omega (arith, upto, is) in
      (spares_on home k books middle books' (to.later k (omega (arith, upto))).0 (spares k apart), same k apart ∙ (to.later k (omega (arith, upto))).1);
}
  where
    serves : ServesPlainlyAt home middle books' between new n
    serves = subst (λ h. ServesPlainlyAt h middle books' between new n) home_is serves_now

    spares : (k : ℕ) → k ≢ n → SparesUnit home middle books' k
    spares k apart = subst (λ h. SparesUnit h middle books' k) home_is (spares_now k apart)

    now : (k granted : ℕ) (told : List Ended) → k ≡ n → IsReadyAt granted told home middle k between → IsPlainAt granted told home books' k [] new × LeavesAwayAt k between new
    now k granted told is ready =
        subst (λ i. IsPlainAt granted told home books' i [] new × LeavesAwayAt i between new) (sym is) (serves granted told (subst (λ i. IsReadyAt granted told home middle i between) is ready))

    by : (k granted : ℕ) (told : List Ended) → IsReadyAt granted told home books k old → k < n + 1 → (k ≡ n) ⊎ (k ≢ n) → IsPlainAt granted told home books' k [] new × LeavesAwayAt k old new
    by k granted told ready less (inl is) =
        let upto : n ≤ k = omega (arith, is) in
        let one = now k granted told is (ready_else granted told home books middle k old between (to.later k upto).0 (to.later k upto).1 ready) in
        (one.0, λ before after was then'. one.1 before after ((to.later k upto).1 ∙ was) then')
    by k granted told ready less (inr apart) =
        let one = to.before k (omega (arith, less, apart)) granted told ready in (
          plain_else granted told home middle books' k [] between new (spares k apart) (same k apart) one.0,
          λ before after was then'. one.1 before after was (sym (same k apart) ∙ then'),
        )

within_pairs : (granted : ℕ) (told : List Ended) (home : ℕ) (books : ServerBooks) (k : ℕ) (pairs : List Pair) → IsReadyAt granted told home books k pairs → k < length pairs
within_pairs granted told home books k pairs is = by (slice_get pairs k) refl is
  where
    by : (o : Option Pair) → slice_get pairs k ≡ o → IsSomeAnd o (IsReadyPair granted told home books k) → k < length pairs
    by None none is = absurd is
    by (Some pair) found is = slice_get_within pairs k pair found

-- each unit that has a pair had its turn
pub served_all : (count home : ℕ) (books books' : ServerBooks) (old new : List Pair) → length old ≤ count → ServedTo count home books books' old new → (k : ℕ)
    → ServesPlainlyAt home books books' old new k
served_all count home books books' old new all to k granted told ready = to.before k (omega (arith, all, within_pairs granted told home books k old ready)) granted told ready

-- ---- and where nothing was done, nothing is pending

pub record IdledTo (count home : ℕ) (books books' : ServerBooks) (old : List Pair) : Type 0 where
  pub before : (k : ℕ) → k < count → IdlesPlainlyAt home books books' old k

pub idled_none : (home : ℕ) (books : ServerBooks) (pairs : List Pair) → IdledTo 0 home books books pairs
idled_none home books pairs = record { before = λ k less. absurd (omega (arith, less)) }

pub idled_next : (n home now_home : ℕ) (books middle books' : ServerBooks) (old between : List Pair) → now_home ≡ home → ServedTo n home books middle old between
    → IdledTo n home books middle old → IdlesPlainlyAt now_home middle books' between n → ((k : ℕ) → k ≢ n → SparesUnit now_home middle books' k)
    → IdledTo (n + 1) home books books' old
idled_next n home now_home books middle books' old between home_is to idled idles_now spares_now = record { before = λ k less granted told ready. by k granted told ready less (same_or k n) }
  where
    idles : IdlesPlainlyAt home middle books' between n
    idles = subst (λ h. IdlesPlainlyAt h middle books' between n) home_is idles_now

    spares : (k : ℕ) → k ≢ n → SparesUnit home middle books' k
    spares k apart = subst (λ h. SparesUnit h middle books' k) home_is (spares_now k apart)

    by : (k granted : ℕ) (told : List Ended) → IsReadyAt granted told home books k old → k < n + 1 → (k ≡ n) ⊎ (k ≢ n) → IsIdleUnit k books'
    by k granted told ready less (inl is) =
        let upto : n ≤ k = omega (arith, is) in
        subst (λ i. IsIdleUnit i books') (sym is)
        (idles granted told (subst (λ i. IsReadyAt granted told home middle i between) is (ready_else granted told home books middle k old between (to.later k upto).0 (to.later k upto).1 ready)))
    by k granted told ready less (inr apart) =
        subst (λ (o : Option Unit). IsSomeAnd o (λ unit. unit.pending.items ≡ [])) (sym (spares k apart).same) (idled.before k (omega (arith, less, apart)) granted told ready)

pub idled_all : (count home : ℕ) (books books' : ServerBooks) (old : List Pair) → length old ≤ count → IdledTo count home books books' old → (k : ℕ) → IdlesPlainlyAt home books books' old k
idled_all count home books books' old all to k granted told ready = to.before k (omega (arith, all, within_pairs granted told home books k old ready)) granted told ready
