-- Plain clients in a run: what the turns of the server units, those of the scripts, and the end of a line that waits leave of them.
use Rattle.std.proofs.Common.{◌≡◌, ◌≢◌, ◌∙◌, ◌⊎◌, inl, inr, ℕ, ◌+◌, ◌<◌, ◌≤◌, true, false, true≢false, List, [], ◌∷◌, Option, Some, None, IsSomeAnd, length, refl, slice_get, slice_set, sym, ap, subst, arith}
use Rattle.std.proofs.lemmas.List.Elements.{All-head}
use Rattle.std.proofs.lemmas.Option.{slice_get_within}
use Rattle.crq_session.specs.Answered.{taken_now}
use Rattle.crq_session.specs.PlainState.{end_of}
use Rattle.tce_window.specs.PlainPort.{known_of}
use Rattle.block_server.specs.Talk.{HearsAll, Talk, Word, talk_of}
use Rattle.block_server.specs.Talk.Word.{asks, begins, gone}
use Rattle.block_server.specs.declared.unit.Unit.{Unit}
use Rattle.lan_script.specs.declared.seat.PortSeat.{PortSeat}
use Rattle.vcpu_run.specs.Agreed.{OnDrivers, SameElse}
use Rattle.vcpu_run.specs.NotedOn.{KeepsNoted}
use Rattle.vcpu_run.specs.Pairs.{AreDriven, Drives}
use Rattle.vscsi_client.specs.State.{ClientState}
use Rattle.vcpu_run.specs.Machines.{AreScripts, server_id}
use Rattle.vcpu_run.specs.PlainBorne.{rows_by}
use Rattle.vcpu_run.specs.PlainClients.{IsPlainClient}
use Rattle.vcpu_run.specs.PlainPairs.{IdlesPlainlyAt, IsIdleUnit, IsPlainAt, IsPlainPair, IsReadyAt, IsReadyPair, LeavesAway, ServerBooks, ServesPlainlyAt, between_of}
use Rattle.vcpu_run.specs.PlainRuns.{ArePlain, ArePlainTo, ArePlainlyQuietTo, AwaitsNoneAt, ComesBehind, NoneAwait, RestsInRound, StandsInRound}
use Rattle.vcpu_run.specs.PlainRows.{TagsKept, tags_by}
use Rattle.vcpu_run.specs.PlainScripts.{EndsPlainly, IsPlainSeat, NoneAwaits, PairIs, PairTalks, QuietsPlainly, StandsPlainly, TurnedPlainly, TurnsPlainly, rows_in, told_in}
use Rattle.vcpu_run.specs.PlainSteps.{AsksAnew, IsNewWord, WasFailed}
use Rattle.vcpu_run.specs.PlainTalk.{TalksPlainly}
use Rattle.vcpu_run.specs.Scripts.{OnlyRuns, are_servers}
use Rattle.vcpu_run.specs.ScriptTold.{SameClient, SameClients}
use Rattle.vcpu_run.specs.declared.driver.Driver.{Driver}
use Rattle.vcpu_run.specs.declared.pair.Pair.{Pair}
use Rattle.vcpu_run.specs.declared.script.Script.{Script}
use Rattle.vcpu_run.specs.declared.unit_seat.Seat.{Seat}
use Rattle.vcpu_run.proofs.Driving.{get_set_other, get_set_same, same_or, some_is}
use Rattle.vcpu_run.proofs.Listed.{each_set, held, held_is, is_held}
use Rattle.vcpu_run.proofs.PlainBorne.{borne_turned}
use Rattle.vcpu_run.proofs.PlainFits.{entries_turned}
use Rattle.vcpu_run.proofs.PlainGiven.{answers_on}
use Rattle.vcpu_run.proofs.PlainReady.{words_few}
use Rattle.vcpu_run.proofs.PlainRounds.{plain_ready}
use Rattle.vcpu_run.proofs.PlainNotesKept.{answers_turned, noted_turned, sized_turned}
use Rattle.vcpu_run.proofs.PlainSeated.{owes_there, pair_is}
use Rattle.vcpu_run.proofs.PlainTags.{tags_asked, tags_none, tags_on}
use Rattle.vcpu_run.proofs.PlainTurning.{clients_stand, was_still}
use Rattle.vcpu_run.proofs.RoundsTold.{others_same}
use Rattle.vcpu_run.specs.Credited.{Ended}

-- ---- scripts

seat_same : (script later : Script) (u k : ℕ) → OnlyRuns script later → IsPlainSeat later u k → IsPlainSeat script u k
seat_same script later u k rest seat = record {
  sits = sym (ap (λ (seats : List Seat). slice_get seats u) (ap (λ s. s.items) rest.seats)) ∙ seat.sits;
  plain = subst (IsPlainClient u) (ap (λ lines. lines.now) rest.lines) seat.plain;
}

-- the script of the server units is where it was
pub behind_set : (home i n : ℕ) (scripts : List Script) (script later : Script) → slice_get scripts n ≡ Some script → OnlyRuns script later → ComesBehind home i scripts
    → ComesBehind home i (slice_set scripts n later)
behind_set home i n scripts script later found rest behind = record { less = behind.less; servers = by (same_or home n) }
  where
    at : (s : Script) × (slice_get scripts home ≡ Some s) × (are_servers s.seats.items ≡ true)
    at = held (λ (s : Script). are_servers s.seats.items ≡ true) (slice_get scripts home) behind.servers

    by : (home ≡ n) ⊎ (home ≢ n) → IsSomeAnd (slice_get (slice_set scripts n later) home) (λ s. are_servers s.seats.items ≡ true)
    by (inl is) =
        let same : at.0 ≡ script = some_is at.0 script (sym at.1 ∙ (ap (slice_get scripts) is ∙ found)) in
        is_held (λ (s : Script). are_servers s.seats.items ≡ true) (slice_get (slice_set scripts n later) home) later
        (ap (slice_get (slice_set scripts n later)) is ∙ get_set_same scripts n later (slice_get_within scripts n script found))
        (ap (λ seats. are_servers seats.items) rest.seats ∙ (sym (ap (λ (s : Script). are_servers s.seats.items) same) ∙ at.2))
    by (inr apart) =
        is_held (λ (s : Script). are_servers s.seats.items ≡ true) (slice_get (slice_set scripts n later) home) at.0 (get_set_other scripts n home later apart ∙ at.1) at.2

-- ---- the server units have their turns

-- a client whose partition failed is as it was
away_stays : (before after : Pair) → SameClient before after → LeavesAway before after → PairIs WasFailed before → PairIs WasFailed after
away_stays before after same leaves failed = by before.driver refl failed
  where
    by : (o : Option Driver) → before.driver ≡ o → IsSomeAnd o (λ d. (unit : Unit) → WasFailed (between_of unit d before)) → PairIs WasFailed after
    by None e h = absurd h
    by (Some d) e h = pair_is WasFailed after d (same.driver ∙ e) (λ unit.
        let still = leaves (h unit).registered in
        was_still (between_of unit d before) (between_of unit d after) refl same.queue still.0 still.1 (h unit))

pub served_plainly : (granted home n : ℕ) (books books' : ServerBooks) (old new : List Pair) (scripts : List Script) → ((k : ℕ) → ServesPlainlyAt home books books' old new k) → SameClients old new
    → ArePlainTo granted home n books old scripts → ArePlainTo granted home (n + 1) books' new scripts
served_plainly granted home n books books' old new scripts serves same plain i u k script found seat =
    let is = plain i u k script found seat in
    let told : List Ended = told_in u script in
    let serve = serves k granted told is.ready in
    let now : IsPlainAt granted told home books' k [] new = serve.0 in
    let at = held (IsPlainPair granted told home books' k []) (slice_get new k) now in
    record {
      behind = is.behind;
      others = is.others;
      ready = plain_ready granted told home books' k [] new now;
      served = λ _ _. now;
      stands = clients_stand granted u k old new script (λ none. absurd (no_pair (slice_get new k) none at.1))
          (λ before after there here. away_stays before after (held_is (λ b. SameClient b after) (slice_get old k) before there (same k after here)) (serve.1 before after there here)) same is.stands;
    }
  where
    no_pair : {pair : Pair} (o : Option Pair) → o ≡ None → o ≡ Some pair → ⊥
    no_pair o a b = cc (a, b)

pub idled_plainly : (granted home n : ℕ) (books books' : ServerBooks) (old : List Pair) (scripts : List Script) (here : Script) → slice_get scripts n ≡ Some here
    → are_servers here.seats.items ≡ true → ((k : ℕ) → IdlesPlainlyAt home books books' old k) → ArePlainTo granted home n books old scripts → ArePlainlyQuietTo home n books scripts
    → ArePlainlyQuietTo home (n + 1) books' scripts
idled_plainly granted home n books books' old scripts here there of idles plain quiet i u k script found seat = record {
  idle = λ _. idles k granted (told_in u script) (plain i u k script found seat).ready;
  none = λ less. by less (same_or i n);
}
  where
    by : i < n + 1 → (i ≡ n) ⊎ (i ≢ n) → NoneAwaits u script
    by less (inr apart) = (quiet i u k script found seat).none (omega (arith, less, apart))
    by less (inl is) =
        let same : here ≡ script = some_is here script (sym there ∙ (ap (slice_get scripts) (sym is) ∙ found)) in
        absurd (true≢false (sym (ap (λ (s : Script). are_servers s.seats.items) (sym same) ∙ of) ∙ (plain i u k script found seat).others))

-- ---- a script has its turn

-- what of a pair is so where nothing is to come
talks_at : (granted : ℕ) (told : List Ended) (home : ℕ) (books : ServerBooks) (k : ℕ) (words : List Word) (pairs : List Pair) → IsPlainAt granted told home books k words pairs
    → (pair : Pair) × (slice_get pairs k ≡ Some pair) × IsPlainPair granted told home books k words pair
talks_at granted told home books k words pairs = held (IsPlainPair granted told home books k words) (slice_get pairs k)

pair_talks : (granted : ℕ) (told : List Ended) (home : ℕ) (books : ServerBooks) (k : ℕ) (words : List Word) (pair : Pair) → (is : IsPlainPair granted told home books k words pair) → PairTalks granted is.unit words pair
pair_talks granted told home books k words pair is =
    is_held (λ (driver : Driver). TalksPlainly granted (between_of is.unit driver pair) words) pair.driver is.driver is.driver_is is.talks

-- the others' pairs and lines are as they were
else_plainly : (granted home n : ℕ) (books : ServerBooks) (old new : List Pair) (scripts : List Script) (script later : Script) (i u k : ℕ) (other : Script)
    → slice_get scripts n ≡ Some script → OnlyRuns script later → are_servers script.seats.items ≡ false → slice_get new k ≡ slice_get old k → i ≢ n
    → StandsInRound granted home n books old scripts i u k other → StandsInRound granted home (n + 1) books new (slice_set scripts n later) i u k other
else_plainly granted home n books old new scripts script later i u k other found rest plain same apart is = record {
  behind = behind_set home i n scripts script later found rest is.behind;
  others = is.others;
  ready = subst (λ (o : Option Pair). IsSomeAnd o (IsReadyPair granted (told_in u other) home books k)) (sym same) is.ready;
  served = λ less upto. subst (λ (o : Option Pair). IsSomeAnd o (IsPlainPair granted (told_in u other) home books k [])) (sym same) (is.served (before less) (omega (arith, upto)));
  stands = subst (λ (o : Option Pair). IsSomeAnd o (StandsPlainly granted u other)) (sym same) is.stands;
}
  where
    at : (s : Script) × (slice_get scripts home ≡ Some s) × (are_servers s.seats.items ≡ true)
    at = held (λ (s : Script). are_servers s.seats.items ≡ true) (slice_get scripts home) is.behind.servers

    -- the script that had its turn is not that of the server units
    before : home < n + 1 → home < n
    before less = by (same_or home n)
      where
        by : (home ≡ n) ⊎ (home ≢ n) → home < n
        by (inr differ) = omega (arith, less, differ)
        by (inl e) = absurd (true≢false (sym at.2
            ∙ ap (λ (s : Script). are_servers s.seats.items) (some_is at.0 script (sym at.1 ∙ (ap (slice_get scripts) e ∙ found)))
            ∙ plain))

-- no two of these rows and of what is pending once the words are heard have one tag
tags_heard : (tags : List ℕ) (last n : ℕ) (s : ClientState) (words : List Word) (talk talk' : Talk) → length words ≤ 1 → AsksAnew last s words → TagsKept tags last talk.pending
    → HearsAll talk n words talk' → TagsKept tags (length s.rows) talk'.pending
tags_heard tags last n s [] talk talk' few anew kept heard =
    subst (λ (t : Talk). TagsKept tags (length s.rows) t.pending) (sym heard) (tags_on tags last (length s.rows) talk.pending anew.more kept)
tags_heard tags last n s (begins ∷ []) talk talk' few anew kept (middle, one, rest) =
    subst (λ (t : Talk). TagsKept tags (length s.rows) t.pending) (sym (rest ∙ one)) (tags_on tags last (length s.rows) talk.pending anew.more kept)
tags_heard tags last n s (gone ∷ []) talk talk' few anew kept (middle, one, rest) =
    subst (TagsKept tags (length s.rows)) (sym (ap (λ (t : Talk). t.pending) rest ∙ one.loses.pending)) (tags_none tags last (length s.rows) talk.pending anew.more kept)
tags_heard tags last n s (asks address bytes iu ∷ []) talk talk' few anew kept (middle, one, rest) =
    let new : IsNewWord last (length s.rows) (asks address bytes iu) = All-head (IsNewWord last (length s.rows)) (asks address bytes iu) [] anew.asked in
    subst (TagsKept tags (length s.rows)) (sym (ap (λ (t : Talk). t.pending) rest ∙ one.pending))
    (tags_asked tags last (length s.rows) talk.pending one.request anew.more (omega (arith, one.is.tag_is, new.0)) (omega (arith, one.is.tag_is, new.1)) kept)
tags_heard tags last n s (word ∷ next ∷ words) talk talk' few anew kept heard = absurd (omega (arith, few))

drivers_at : (o p : Option Driver) (a b : Driver) → o ≡ Some a → p ≡ Some b → (P : Driver → Driver → Type 0) → OnDrivers o p P → P a b
drivers_at o p a b was is P on = subst (λ (q : Option Driver). OnDrivers (Some a) q P) is (subst (λ (q : Option Driver). OnDrivers q p P) was on)

-- the pair is one before its server unit's turn
ready_again : (granted : ℕ) (told : List Ended) (home : ℕ) (books : ServerBooks) (k u : ℕ) (old new : List Pair) (script : Script) (pair : Pair) → AreDriven old new → slice_get old k ≡ Some pair
    → (is : IsPlainPair granted told home books k [] pair) → TurnedPlainly granted told u k is.unit old new script → IsReadyAt granted (told_in u script) home books k new
ready_again granted told home books k u old new script pair driven there is turned =
    let after = held (PairTalks granted is.unit turned.words) (slice_get new k) turned.talks in
    let driver = held (λ (d : Driver). TalksPlainly granted (between_of is.unit d after.0) turned.words) after.0.driver after.2 in
    let anew : AsksAnew (length is.driver.client.rows) driver.0.client turned.words =
    subst (λ (o : Option Driver). AsksAnew (rows_in o) driver.0.client turned.words) is.driver_is
    (held_is (λ (d : Driver). AsksAnew (rows_in pair.driver) d.client turned.words) after.0.driver driver.0 driver.1 (turned.anew pair after.0 there after.1)) in
    let drives : Drives pair after.0 = held_is (Drives pair) (slice_get new k) after.0 after.1 (driven.each k pair there) in
    let keeps : KeepsNoted is.driver driver.0 =
    drivers_at pair.driver after.0.driver is.driver driver.0 is.driver_is driver.1 KeepsNoted (turned.keeps k pair after.0 there after.1) in
    is_held (IsReadyPair granted (told_in u script) home books k) (slice_get new k) after.0 after.1 (inl (
      turned.words,
      record {
        unit = is.unit;
        there = is.there;
        id = is.id;
        driver = driver.0;
        driver_is = driver.1;
        talks = driver.2;
        rights = turned.rights pair after.0 there after.1 is.rights;
        owed = omega (
          arith,
          turned.owed pair after.0 there after.1,
          owes_there is.unit turned.words after.0 driver.0 driver.1,
          owes_there is.unit [] pair is.driver is.driver_is,
          is.owed,
        );
        laid = turned.laid pair after.0 there after.1 is.laid;
        lines = is.lines;
        tags = λ talk heard.
            tags_heard (tags_by (server_id home k) books.rows) (length is.driver.client.rows) (length (taken_now (end_of [] after.0.link true))) driver.0.client turned.words (talk_of is.unit) talk
            (words_few granted (between_of is.unit driver.0 after.0) turned.words driver.2.phase) anew (is.tags (talk_of is.unit) refl) heard;
        answers = λ talk heard.
            answers_on (tags_by (server_id home k) books.rows) (length is.driver.client.rows) (length (taken_now (end_of [] after.0.link true))) is.driver.client driver.0.client
            is.driver.answers.items driver.0.answers.items (end_of [] pair.link true).sent (end_of [] after.0.link true).sent turned.words (talk_of is.unit) talk
            (words_few granted (between_of is.unit driver.0 after.0) turned.words driver.2.phase) anew keeps.keeps drives.got (is.tags (talk_of is.unit) refl)
            (is.answers (talk_of is.unit) refl) heard;
        entries = λ talk heard.
            entries_turned (rows_by (server_id home k) books.rows) (tags_by (server_id home k) books.rows) is.driver.client.rows (length (taken_now (end_of [] after.0.link true)))
            driver.0.client (end_of [] pair.link true).sent (end_of [] after.0.link true).sent turned.words (talk_of is.unit) talk
            (words_few granted (between_of is.unit driver.0 after.0) turned.words driver.2.phase) anew drives.got (is.answers (talk_of is.unit) refl).put
            (is.entries (talk_of is.unit) refl) heard;
        apart = λ same. is.apart (sym drives.unit ∙ same);
        answered = answers_turned (rows_by (server_id home k) books.rows) pair.window.unit after.0.window.unit (known_of pair.window).strokes (known_of after.0.window).strokes drives.unit drives.laid is.answered;
        sized = sized_turned (rows_by (server_id home k) books.rows) is.driver.client driver.0.client is.driver.answers.items driver.0.answers.items keeps.keeps
            (is.answers (talk_of is.unit) refl).asked (is.tags (talk_of is.unit) refl).most is.sized;
        noted = noted_turned pair after.0 is.driver driver.0 is.driver_is driver.1 drives (turned.noted pair after.0 there after.1) is.noted;
        borne = borne_turned (rows_by (server_id home k) books.rows) (server_id home k) pair.window.unit is.driver.client driver.0.client is.driver.answers.items driver.0.answers.items
            (known_of pair.window).strokes (known_of after.0.window).strokes is.apart keeps.keeps (is.answers (talk_of is.unit) refl).asked drives.laid is.borne;
      },
    ))

pub turned_plainly : (granted home n : ℕ) (books : ServerBooks) (old new : List Pair) (ports : List PortSeat) (scripts : List Script) (script later : Script) → slice_get scripts n ≡ Some script
    → AreScripts old ports scripts → AreDriven old new → SameElse script.seats.items old new → OnlyRuns script later → are_servers script.seats.items ≡ false → TurnsPlainly old new script later
    → ArePlainTo granted home n books old scripts → ArePlainTo granted home (n + 1) books new (slice_set scripts n later)
turned_plainly granted home n books old new ports scripts script later found are driven others rest plain turns is i u k now there seat =
    each_set (λ j (s : Script). IsPlainSeat s u k → StandsInRound granted home (n + 1) books new (slice_set scripts n later) j u k s) scripts n later
    (λ j s at apart sits.
    else_plainly granted home n books old new scripts script later j u k s found rest plain
    (others_same old new ports scripts n j script s found at apart are others u k sits.sits) apart (is j u k s at sits))
    (λ sits. own (seat_same script later u k rest sits)) i now there seat
  where
    own : IsPlainSeat script u k → StandsInRound granted home (n + 1) books new (slice_set scripts n later) n u k later
    own sits =
        let was = is n u k script found sits in
        let told : List Ended = told_in u script in
        let at = talks_at granted told home books k [] old (was.served was.behind.less (omega arith)) in
        let turned = turns granted u k at.2.unit sits (is_held (PairTalks granted at.2.unit []) (slice_get old k) at.0 at.1 (pair_talks granted told home books k [] at.0 at.2)) was.stands in
        record {
          behind = behind_set home n n scripts script later found rest was.behind;
          others = ap (λ seats. are_servers seats.items) rest.seats ∙ was.others;
          ready = ready_again granted told home books k u old new later at.0 driven at.1 at.2 turned;
          served = λ less upto. absurd (omega (arith, upto));
          stands = turned.stands;
        }

-- ---- and did nothing in it

pub quieted_plainly : (granted home n : ℕ) (books : ServerBooks) (old new : List Pair) (scripts : List Script) (script later : Script) → slice_get scripts n ≡ Some script → OnlyRuns script later
    → are_servers script.seats.items ≡ false → QuietsPlainly old new script later → ArePlainTo granted home n books old scripts → ArePlainlyQuietTo home n books scripts
    → ArePlainlyQuietTo home (n + 1) books (slice_set scripts n later)
quieted_plainly granted home n books old new scripts script later found rest plain quiets is quiet i u k now there seat =
    each_set (λ j (s : Script). IsPlainSeat s u k → RestsInRound home (n + 1) books j u k s) scripts n later
    (λ j s at apart sits. record {
      idle = λ less. (quiet j u k s at sits).idle (before (is j u k s at sits).behind.servers less);
      none = λ less. (quiet j u k s at sits).none (omega (arith, less, apart));
    })
    (λ sits. own (seat_same script later u k rest sits)) i now there seat
  where
    before : IsSomeAnd (slice_get scripts home) (λ (s : Script). are_servers s.seats.items ≡ true) → home < n + 1 → home < n
    before servers less = by (same_or home n)
      where
        at : (s : Script) × (slice_get scripts home ≡ Some s) × (are_servers s.seats.items ≡ true)
        at = held (λ (s : Script). are_servers s.seats.items ≡ true) (slice_get scripts home) servers

        by : (home ≡ n) ⊎ (home ≢ n) → home < n
        by (inr differ) = omega (arith, less, differ)
        by (inl e) = absurd (true≢false (sym at.2
            ∙ ap (λ (s : Script). are_servers s.seats.items) (some_is at.0 script (sym at.1 ∙ (ap (slice_get scripts) e ∙ found)))
            ∙ plain))

    own : IsPlainSeat script u k → RestsInRound home (n + 1) books n u k later
    own sits =
        let was = is n u k script found sits in
        let told : List Ended = told_in u script in
        let at = talks_at granted told home books k [] old (was.served was.behind.less (omega arith)) in
        let idle : IsIdleUnit k books = (quiet n u k script found sits).idle was.behind.less in
        record {
          idle = λ _. idle;
          none = λ _. quiets granted u k at.2.unit sits (is_held (PairTalks granted at.2.unit []) (slice_get old k) at.0 at.1 (pair_talks granted told home books k [] at.0 at.2)) was.stands
              (held_is (λ (unit : Unit). unit.pending.items ≡ []) (slice_get books.units k) at.2.unit at.2.there idle);
        }

-- ---- a round

pub quiet_none : (home : ℕ) (books : ServerBooks) (scripts : List Script) → ArePlainlyQuietTo home 0 books scripts
quiet_none home books scripts i u k script found seat = record { idle = λ less. absurd (omega (arith, less)); none = λ less. absurd (omega (arith, less)) }

-- all scripts had their turns
pub round_plainly : (granted home n : ℕ) (books : ServerBooks) (pairs : List Pair) (scripts : List Script) → length scripts ≤ n → ArePlainTo granted home n books pairs scripts
    → ArePlain granted home books pairs scripts
round_plainly granted home n books pairs scripts all is i u k script found seat =
    let at = is i u k script found seat in
    record { behind = at.behind; others = at.others; ready = at.ready; served = λ less upto. absurd (omega (arith, less)); stands = at.stands }

pub round_quietly : (home n : ℕ) (books : ServerBooks) (scripts : List Script) → length scripts ≤ n → ArePlainlyQuietTo home n books scripts → NoneAwait scripts
round_quietly home n books scripts all quiet i u k script found seat = (quiet i u k script found seat).none (omega (arith, all, slice_get_within scripts i script found))

-- ---- a line that waited is ended

pub ended_plainly : (granted home n : ℕ) (books : ServerBooks) (pairs : List Pair) (scripts : List Script) (script later : Script) → slice_get scripts n ≡ Some script → OnlyRuns script later
    → ((u k : ℕ) → EndsPlainly granted u k pairs script later) → ((u k : ℕ) → IsPlainSeat script u k → NoneAwaits u script)
    → ArePlain granted home books pairs scripts → ArePlain granted home books pairs (slice_set scripts n later)
ended_plainly granted home n books pairs scripts script later found rest kept none is i u k now there seat =
    each_set (λ j (s : Script). IsPlainSeat s u k → StandsInRound granted home 0 books pairs (slice_set scripts n later) j u k s) scripts n later
    (λ j s at apart sits. let was = is j u k s at sits in record {
      behind = behind_set home j n scripts script later found rest was.behind;
      others = was.others;
      ready = was.ready;
      served = was.served;
      stands = was.stands;
    })
    (λ sits. let own = seat_same script later u k rest sits in let was = is n u k script found own in let ends = kept u k (none u k own) was.stands in record {
      behind = behind_set home n n scripts script later found rest was.behind;
      others = ap (λ seats. are_servers seats.items) rest.seats ∙ was.others;
      ready = subst (λ told. IsReadyAt granted told home books k pairs) (sym ends.1) was.ready;
      served = λ less upto. absurd (omega (arith, less));
      stands = ends.0;
    }) i now there seat

-- the script that is next has not been touched
pub awaits_next : (scripts now : List Script) (n : ℕ) → ((i : ℕ) → n ≤ i → slice_get now i ≡ slice_get scripts i) → NoneAwait scripts → AwaitsNoneAt n now
awaits_next scripts now n rest none i u k script found seat is = none i u k script (sym (rest i (omega (arith, is))) ∙ found) seat
