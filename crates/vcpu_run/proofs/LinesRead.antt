-- What the lines of a client read, at their own moments, and a line more.
use Rattle.std.proofs.Common.{◌≡◌, ◌∙◌, ◌⊎◌, inl, inr, ℕ, ◌<◌, ◌++◌, Bool, true, false, List, [], ◌∷◌, Ok, IfSome, IsSomeAnd, MatchOption, Option, Some, None, cond, length, nat_lt, refl, sym, ap, subst, slice_get, arith}
use Rattle.vio_num.specs.declared.names.UnitId.{UnitId}
use Rattle.boot_text.specs.declared.plan.Line.{Line}
use Rattle.boot_text.specs.declared.verb.Verb.{Verb}
use Rattle.boot_text.specs.declared.verb.Verb.TheVariants as verbs
use Rattle.page_slots.specs.Stroke.{StrokeValue}
use Rattle.tce_window.specs.Window.{strokes_at}
use Rattle.unit_region.specs.RegionLines.{IsFrontOn, region_seen}
use Rattle.unit_region.specs.declared.step.Step.TheVariants as steps
use Rattle.vio_trace.specs.declared.outcome.Outcome.{Outcome}
use Rattle.vio_trace.specs.declared.outcome.Outcome.TheVariants as outcomes
use Rattle.vio_trace.specs.declared.rows.LogRow.{LogRow}
use Rattle.vscsi_client.specs.State.{ClientState}
use Rattle.vscsi_client.specs.Transferred.{DataRange, data_range, name_of}
use Rattle.vcpu_run.specs.declared.driver.Driver.{Driver}
use Rattle.vcpu_run.specs.declared.pair.Pair.{Pair}
use Rattle.vcpu_run.specs.declared.script.Progress.{Progress}
use Rattle.vcpu_run.specs.declared.unit_seat.Seat.{Seat}
use Rattle.vcpu_run.specs.Agreed.{OnDrivers}
use Rattle.vcpu_run.specs.CopiesCounted.{AreMadeBy, CopiesCounted, Naming}
use Rattle.vcpu_run.specs.DataKept.{IsKeptAt, range_in}
use Rattle.vcpu_run.specs.DataNoted.{HasNoted}
use Rattle.vcpu_run.specs.NotedOn.{AllKeepNoted, KeepsNoted}
use Rattle.vcpu_run.specs.DataRead.{IsDataTold, IsKeptTold, IsNoData, given_by}
use Rattle.vcpu_run.specs.LinesShow.{IsFurtherShown, IsShown, Seen, Sees, further_of, seen_between, seen_now}
use Rattle.vcpu_run.specs.LinesRead.{AskedOf, ClientLines, IsAnsweredIn, IsAskedBefore, IsDataIn, IsDataInIf, IsLineRead, LineRead, asked_by, seen_of}
use Rattle.vcpu_run.specs.Pairs.{AreDrivers, IsDriver}
use Rattle.vcpu_run.specs.Suited.{is_call}
use Rattle.vcpu_run.specs.TakenScripts.{StepKeeps}
use Rattle.vcpu_run.specs.Telling.{LineTold}
use Rattle.vcpu_run.specs.Works.{fails}
use Rattle.vcpu_run.proofs.CopiesCounted.{counted_none, counted_one}
use Rattle.vcpu_run.proofs.DataNoted.{answered_there, asked_there}
use Rattle.vcpu_run.proofs.DataOf.{kept_told_more}
use Rattle.vcpu_run.proofs.DataSteps.{call_no_range, fails_no_data, fails_no_range, none_keeps}
use Rattle.vcpu_run.proofs.Driving.{some_is}
use Rattle.vcpu_run.proofs.FurtherKept.{answer_more}
use Rattle.vcpu_run.proofs.LinesShown.{fail_shows, no_row, row_at}
use Rattle.vcpu_run.proofs.PortLines.{EndsTold, below_it, has_place, lines_fresh, lines_one, moments_grown, moments_same, not_below}

-- ---- a line

abbrev pub Strokes : Type 0
Strokes = ℕ → Option (List StrokeValue)

-- what there is at a pair, of its region alone
now_of : (pair : Pair) → Sees (seen_now pair) (seen_of (region_seen (strokes_at pair.window.pages)))
now_of pair = record { strokes = λ page stroke is. is; fronts = λ page front is. is; values = λ entry value is. tt; entries = λ entry is. tt }

-- what is said of the data that a client keeps under a tag
data_in : (server : UnitId) (strokes : Strokes) (asked : AskedOf) (tag : ℕ) (range : DataRange) (outcome : Outcome) → IsDataTold (seen_of (region_seen strokes)) (record { who = server; mark = tag }) range outcome
    → IsAnsweredIn strokes asked tag range → IsDataInIf server strokes asked tag outcome
data_in server strokes asked tag range (outcomes.Granted credits) told answered = tt
data_in server strokes asked tag range (outcomes.Sent other) told answered = tt
data_in server strokes asked tag range (outcomes.Took count) told answered = tt
data_in server strokes asked tag range outcomes.Lost told answered = tt
data_in server strokes asked tag range (outcomes.TookThenLost count) told answered = tt
data_in server strokes asked tag range (outcomes.Rejected reason) told answered = tt
data_in server strokes asked tag range outcomes.Unanswered told answered = tt
data_in server strokes asked tag range outcomes.Range told answered = tt
data_in server strokes asked tag range outcomes.NotLoggedIn told answered = tt
data_in server strokes asked tag range (outcomes.NoCredit limit) told answered = tt
data_in server strokes asked tag range (outcomes.Overlap other) told answered = tt
data_in server strokes asked tag range outcomes.Closed told answered = tt
data_in server strokes asked tag range (outcomes.Dropped number held) told answered = tt
data_in server strokes asked tag range (outcomes.Data size sum) told answered = record { range = range; told = told; answered = answered }
data_in server strokes asked tag range (outcomes.Stale page) told answered = record { range = range; told = told; answered = answered }
data_in server strokes asked tag range outcomes.Unknown told answered = tt
data_in server strokes asked tag range (outcomes.Code code) told answered = tt
data_in server strokes asked tag range (outcomes.Value value) told answered = tt
data_in server strokes asked tag range (outcomes.Posted buffers code) told answered = tt
data_in server strokes asked tag range (outcomes.Frame code number) told answered = tt
data_in server strokes asked tag range outcomes.Done told answered = tt
data_in server strokes asked tag range (outcomes.Bytes shown) told answered = tt

data_none : (server : UnitId) (strokes : Strokes) (asked : AskedOf) (tag : ℕ) (outcome : Outcome) → IsNoData outcome → IsDataInIf server strokes asked tag outcome
data_none server strokes asked tag (outcomes.Granted credits) none = tt
data_none server strokes asked tag (outcomes.Sent other) none = tt
data_none server strokes asked tag (outcomes.Took count) none = tt
data_none server strokes asked tag outcomes.Lost none = tt
data_none server strokes asked tag (outcomes.TookThenLost count) none = tt
data_none server strokes asked tag (outcomes.Rejected reason) none = tt
data_none server strokes asked tag outcomes.Unanswered none = tt
data_none server strokes asked tag outcomes.Range none = tt
data_none server strokes asked tag outcomes.NotLoggedIn none = tt
data_none server strokes asked tag (outcomes.NoCredit limit) none = tt
data_none server strokes asked tag (outcomes.Overlap other) none = tt
data_none server strokes asked tag outcomes.Closed none = tt
data_none server strokes asked tag (outcomes.Dropped number held) none = tt
data_none server strokes asked tag (outcomes.Data size sum) none = absurd none
data_none server strokes asked tag (outcomes.Stale page) none = absurd none
data_none server strokes asked tag outcomes.Unknown none = tt
data_none server strokes asked tag (outcomes.Code code) none = tt
data_none server strokes asked tag (outcomes.Value value) none = tt
data_none server strokes asked tag (outcomes.Posted buffers code) none = tt
data_none server strokes asked tag (outcomes.Frame code number) none = tt
data_none server strokes asked tag outcomes.Done none = tt
data_none server strokes asked tag (outcomes.Bytes shown) none = tt

data_read : (server : UnitId) (strokes : Strokes) (asked : AskedOf) (client : ClientState) (tag : ℕ) (outcome : Outcome) → client.server ≡ server
    → ((range : DataRange) → data_range client tag ≡ Some range → IsAnsweredIn strokes asked tag range)
    → IsKeptTold (seen_of (region_seen strokes)) client (Some tag) outcome → IsDataInIf server strokes asked tag outcome
data_read server strokes asked client tag outcome of answered = at (data_range client tag) refl
  where
    at : (o : Option DataRange) → data_range client tag ≡ o → MatchOption o (IsNoData outcome) (λ range. IsDataTold (seen_of (region_seen strokes)) (name_of client tag) range outcome)
        → IsDataInIf server strokes asked tag outcome
    at None e none = data_none server strokes asked tag outcome none
    at (Some range) e told =
        data_in server strokes asked tag range outcome
        (subst (λ (u : UnitId). IsDataTold (seen_of (region_seen strokes)) (record { who = u; mark = tag }) range outcome) of told) (answered range e)

-- what a line that is no call shows, and says of data
pub one_read : (seen : Seen) (server : UnitId) (strokes : Strokes) (asked : AskedOf) (verb : Verb) (outcome : Outcome) → Sees seen (seen_of (region_seen strokes)) → (is_call verb ≡ false → IsFurtherShown seen (further_of verb) outcome)
    → ((tag : ℕ) → is_call verb ≡ false → given_by verb ≡ Some tag → IsDataInIf server strokes asked tag outcome) → IsLineRead server strokes asked verb outcome
one_read seen server strokes asked verbs.Login outcome sees is given = answer_more seen (seen_of (region_seen strokes)) sees outcome (is refl)
one_read seen server strokes asked verbs.Reset outcome sees is given = answer_more seen (seen_of (region_seen strokes)) sees outcome (is refl)
one_read seen server strokes asked verbs.Logout outcome sees is given = tt
one_read seen server strokes asked verbs.Tur outcome sees is given = tt
one_read seen server strokes asked (verbs.Read lba blocks at pieces table) outcome sees is given = tt
one_read seen server strokes asked (verbs.Write lba blocks at pieces table) outcome sees is given = tt
one_read seen server strokes asked (verbs.Command cdb) outcome sees is given = tt
one_read seen server strokes asked (verbs.CommandIn cdb at len pieces table) outcome sees is given = tt
one_read seen server strokes asked (verbs.CommandOut cdb at len pieces table) outcome sees is given = tt
one_read seen server strokes asked (verbs.Task function of) outcome sees is given = tt
one_read seen server strokes asked (verbs.Take count) outcome sees is given = tt
one_read seen server strokes asked (verbs.Data tag) outcome sees is given = given tag refl refl
one_read seen server strokes asked verbs.Open outcome sees is given = tt
one_read seen server strokes asked verbs.Close outcome sees is given = tt
one_read seen server strokes asked (verbs.Post at len count) outcome sees is given = tt
one_read seen server strokes asked (verbs.Send to len seed at) outcome sees is given = tt
one_read seen server strokes asked (verbs.ChangeMac own) outcome sees is given = tt
one_read seen server strokes asked (verbs.Multicast control group) outcome sees is given = tt
one_read seen server strokes asked (verbs.Fill at len seed) outcome sees is given = tt
one_read seen server strokes asked (verbs.Poke at bytes) outcome sees is given = tt
one_read seen server strokes asked (verbs.Peek at len) outcome sees is given = tt
one_read seen server strokes asked (verbs.Tce entry page readable writable) outcome sees is given = tt
one_read seen server strokes asked (verbs.Hcall number arguments) outcome sees is given = tt
one_read seen server strokes asked verbs.Fail outcome sees is given = tt

-- the same by what fewer lines asked
data_fewer : (server : UnitId) (strokes : Strokes) (asked fewer : AskedOf) (tag : ℕ) (outcome : Outcome) → ((whole : DataRange) → fewer tag whole → asked tag whole)
    → IsDataIn server strokes asked tag outcome → IsDataIn server strokes fewer tag outcome
data_fewer server strokes asked fewer tag outcome less is = record {
  range = is.range;
  told = is.told;
  answered = record {
    row = is.answered.row;
    tag_is = is.answered.tag_is;
    response = is.answered.response;
    canonical = is.answered.canonical;
    read = is.answered.read;
    range_is = λ whole few. is.answered.range_is whole (less whole few);
  };
}

told_fewer : (server : UnitId) (strokes : Strokes) (asked fewer : AskedOf) (tag : ℕ) (outcome : Outcome) → ((whole : DataRange) → fewer tag whole → asked tag whole)
    → IsDataInIf server strokes asked tag outcome → IsDataInIf server strokes fewer tag outcome
told_fewer server strokes asked fewer tag (outcomes.Granted credits) less is = tt
told_fewer server strokes asked fewer tag (outcomes.Sent other) less is = tt
told_fewer server strokes asked fewer tag (outcomes.Took count) less is = tt
told_fewer server strokes asked fewer tag outcomes.Lost less is = tt
told_fewer server strokes asked fewer tag (outcomes.TookThenLost count) less is = tt
told_fewer server strokes asked fewer tag (outcomes.Rejected reason) less is = tt
told_fewer server strokes asked fewer tag outcomes.Unanswered less is = tt
told_fewer server strokes asked fewer tag outcomes.Range less is = tt
told_fewer server strokes asked fewer tag outcomes.NotLoggedIn less is = tt
told_fewer server strokes asked fewer tag (outcomes.NoCredit limit) less is = tt
told_fewer server strokes asked fewer tag (outcomes.Overlap other) less is = tt
told_fewer server strokes asked fewer tag outcomes.Closed less is = tt
told_fewer server strokes asked fewer tag (outcomes.Dropped number held) less is = tt
told_fewer server strokes asked fewer tag (outcomes.Data size sum) less is = data_fewer server strokes asked fewer tag (outcomes.Data size sum) less is
told_fewer server strokes asked fewer tag (outcomes.Stale page) less is = data_fewer server strokes asked fewer tag (outcomes.Stale page) less is
told_fewer server strokes asked fewer tag outcomes.Unknown less is = tt
told_fewer server strokes asked fewer tag (outcomes.Code code) less is = tt
told_fewer server strokes asked fewer tag (outcomes.Value value) less is = tt
told_fewer server strokes asked fewer tag (outcomes.Posted buffers code) less is = tt
told_fewer server strokes asked fewer tag (outcomes.Frame code number) less is = tt
told_fewer server strokes asked fewer tag outcomes.Done less is = tt
told_fewer server strokes asked fewer tag (outcomes.Bytes shown) less is = tt

pub read_fewer : (server : UnitId) (strokes : Strokes) (asked fewer : AskedOf) (verb : Verb) (outcome : Outcome) → ((tag : ℕ) (whole : DataRange) → fewer tag whole → asked tag whole)
    → IsLineRead server strokes asked verb outcome → IsLineRead server strokes fewer verb outcome
read_fewer server strokes asked fewer verbs.Login outcome less is = is
read_fewer server strokes asked fewer verbs.Reset outcome less is = is
read_fewer server strokes asked fewer verbs.Logout outcome less is = tt
read_fewer server strokes asked fewer verbs.Tur outcome less is = tt
read_fewer server strokes asked fewer (verbs.Read lba blocks at pieces table) outcome less is = tt
read_fewer server strokes asked fewer (verbs.Write lba blocks at pieces table) outcome less is = tt
read_fewer server strokes asked fewer (verbs.Command cdb) outcome less is = tt
read_fewer server strokes asked fewer (verbs.CommandIn cdb at len pieces table) outcome less is = tt
read_fewer server strokes asked fewer (verbs.CommandOut cdb at len pieces table) outcome less is = tt
read_fewer server strokes asked fewer (verbs.Task function of) outcome less is = tt
read_fewer server strokes asked fewer (verbs.Take count) outcome less is = tt
read_fewer server strokes asked fewer (verbs.Data tag) outcome less is = told_fewer server strokes asked fewer tag outcome (less tag) is
read_fewer server strokes asked fewer verbs.Open outcome less is = tt
read_fewer server strokes asked fewer verbs.Close outcome less is = tt
read_fewer server strokes asked fewer (verbs.Post at len count) outcome less is = tt
read_fewer server strokes asked fewer (verbs.Send to len seed at) outcome less is = tt
read_fewer server strokes asked fewer (verbs.ChangeMac own) outcome less is = tt
read_fewer server strokes asked fewer (verbs.Multicast control group) outcome less is = tt
read_fewer server strokes asked fewer (verbs.Fill at len seed) outcome less is = tt
read_fewer server strokes asked fewer (verbs.Poke at bytes) outcome less is = tt
read_fewer server strokes asked fewer (verbs.Peek at len) outcome less is = tt
read_fewer server strokes asked fewer (verbs.Tce entry page readable writable) outcome less is = tt
read_fewer server strokes asked fewer (verbs.Hcall number arguments) outcome less is = tt
read_fewer server strokes asked fewer verbs.Fail outcome less is = tt

-- a step of a line, by what it shows and by what it says of the data that its client keeps
between_of : (before after : Pair) → Sees (seen_between before after) (seen_of (region_seen (strokes_at after.window.pages)))
between_of before after = record { strokes = λ page stroke is. is; fronts = λ page front is. is; values = λ entry value is. tt; entries = λ entry is. tt }

pub line_read : (seats : List Seat) (line : Line) (p p' : Progress) (old new : List Pair) (outcome : Outcome) → AllKeepNoted old new → AreDrivers new
    → (is_call line.verb ≡ false → LineTold seats line p p' old new (Ok (steps.Ends outcome))) → LineRead seats line old new outcome
line_read seats line p p' old new outcome keep drivers told k before after sits was is noted = record {
  reads =
      one_read (seen_between before after) before.server strokes (asked_by before.driver) line.verb outcome (between_of before after)
      (λ no. (((told no).client k sits).shows before after was is).0.1)
      (λ tag no given.
      kept tag given before.driver after.driver noted (keep k before after was is) (drivers k after is) (((told no).client k sits).reads before after was is));
  keeps = by (is_call line.verb) refl;
}
  where
    strokes : Strokes
    strokes = strokes_at after.window.pages

    kept : (tag : ℕ) → given_by line.verb ≡ Some tag → (o o' : Option Driver) → IsSomeAnd o (HasNoted before.server) → OnDrivers o o' KeepsNoted → IfSome o' (IsDriver after.window)
        → OnDrivers o o' (λ a b. StepKeeps (seen_now after) a.client b.client line.verb (steps.Ends outcome)) → IsDataInIf before.server strokes (asked_by o) tag outcome
    kept tag given None o' some on driver keeps = absurd some
    kept tag given (Some a) None some on driver keeps = absurd keeps
    kept tag given (Some a) (Some b) some on driver keeps =
        data_read before.server strokes (asked_by (Some a)) a.client tag outcome some.of_server
        (λ range is. answered_there before.server strokes a b tag range some on is driver.answers)
        (subst (λ (o : Option ℕ). IsKeptTold (seen_of (region_seen strokes)) a.client o outcome) given
        (kept_told_more (seen_now after) (seen_of (region_seen strokes)) (now_of after) a.client (given_by line.verb) outcome keeps.reads))

    sends : (o o' : Option Driver) → OnDrivers o o' (λ a b. StepKeeps (seen_now after) a.client b.client line.verb (steps.Ends outcome))
        → IfSome o' (λ driver. IsKeptAt driver.client.rows (range_in line.verb) outcome)
    sends None None keeps = tt
    sends None (Some b) keeps = absurd keeps
    sends (Some a) None keeps = tt
    sends (Some a) (Some b) keeps = keeps.sends

    by : (b : Bool) → is_call line.verb ≡ b → IfSome after.driver (λ driver. IsKeptAt driver.client.rows (range_in line.verb) outcome)
    by true e = none_keeps after.driver (range_in line.verb) outcome (call_no_range line.verb e)
    by false e = sends before.driver after.driver (((told e).client k sits).reads before after was is)

-- a line of which the same is shown whatever there is, and that gives no data and asks for none, as one that fails its partition
no_tag : (tag : ℕ) (o : Option ℕ) → o ≡ None → o ≡ Some tag → ⊥
no_tag tag o none some = cc

pub always_read : (seats : List Seat) (line : Line) (old new : List Pair) (outcome : Outcome) → ((seen : Seen) (unit : UnitId) → IsShown seen unit line.number line.verb outcome)
    → given_by line.verb ≡ None → range_in line.verb ≡ None → LineRead seats line old new outcome
always_read seats line old new outcome shows none apart k before after sits was is noted = record {
  reads =
      one_read (seen_between before after) before.server (strokes_at after.window.pages) (asked_by before.driver) line.verb outcome (between_of before after)
      (λ no. (shows (seen_between before after) after.window.unit).1) (λ tag no given. absurd (no_tag tag (given_by line.verb) none given));
  keeps = none_keeps after.driver (range_in line.verb) outcome apart;
}

pub fails_read : (seats : List Seat) (line : Line) (old new : List Pair) (outcome : Outcome) → fails line.verb ≡ true → LineRead seats line old new outcome
fails_read seats line old new outcome failing =
    always_read seats line old new outcome (λ seen unit. fail_shows seen unit line.number line.verb outcome failing) (fails_no_data line.verb failing) (fails_no_range line.verb failing)

-- ---- lines one after the other

pub client_grown : (server : UnitId) (strokes strokes' : ℕ → Option (List StrokeValue)) (pages : ℕ) (who : UnitId) (lines : List Line) (rows : List LogRow) (most : ℕ) (named : Naming)
    → ((i : ℕ) (line : Line) (row : LogRow) → slice_get lines i ≡ Some line → slice_get rows i ≡ Some row → (page : ℕ)
    → IsFrontOn who (λ mark. line.number < mark) (strokes page) (strokes' page))
    → ClientLines server strokes pages who lines rows most named → ClientLines server strokes' pages who lines rows most named
unfolding moments_grown
client_grown server strokes strokes' pages who lines rows most named more is = record {
  told = moments_grown strokes strokes' pages who lines rows more is.told;
  reads = λ i line row there at own. is.reads i line row there at own;
  counted = is.counted;
}

pub client_same : (server : UnitId) (strokes strokes' : ℕ → Option (List StrokeValue)) (pages : ℕ) (who : UnitId) (lines : List Line) (rows : List LogRow) (most : ℕ) (named : Naming)
    → ((page : ℕ) → strokes' page ≡ strokes page) → ClientLines server strokes pages who lines rows most named → ClientLines server strokes' pages who lines rows most named
unfolding moments_same moments_grown
client_same server strokes strokes' pages who lines rows most named same is = record {
  told = moments_same strokes strokes' pages who lines rows same is.told;
  reads = λ i line row there at own. is.reads i line row there at own;
  counted = is.counted;
}

pub client_fresh : (server : UnitId) (strokes : ℕ → Option (List StrokeValue)) (pages : ℕ) (who : UnitId) (lines : List Line) (most : ℕ) (named : Naming) → ClientLines server strokes pages who lines [] most named
client_fresh server strokes pages who lines most named = record {
  told = lines_fresh strokes pages who lines;
  reads = λ i line row there at own. absurd (no_row row at);
  counted = counted_none who _ most named;
}

pub client_one : (server : UnitId) (strokes : ℕ → Option (List StrokeValue)) (pages : ℕ) (who : UnitId) (lines : List Line) (rows : List LogRow) (line : Line) (row : LogRow)
    (most : ℕ) (named : Naming) → slice_get lines (length rows) ≡ Some line → ClientLines server strokes pages who lines rows most named → EndsTold strokes pages who line row
    → (line.unit ≡ who.unit → IsLineRead server strokes (IsAskedBefore who.unit lines (rows ++ row ∷ []) (length rows)) line.verb row.outcome) → AreMadeBy who strokes (named most)
    → ClientLines server strokes pages who lines (rows ++ row ∷ []) most named
unfolding lines_one
client_one server strokes pages who lines rows line row most named found is last login now = record {
  told = lines_one strokes pages who lines rows line row found is.told last;
  reads = λ i l r there at own. by i l r there own (row_at rows row r i at);
  counted = counted_one who is.told.had strokes rows row most named now is.counted;
}
  where
    asked : (i : ℕ) → AskedOf
    asked i = IsAskedBefore who.unit lines (rows ++ row ∷ []) i

    by : (i : ℕ) (l : Line) (r : LogRow) → slice_get lines i ≡ Some l → l.unit ≡ who.unit → (slice_get rows i ≡ Some r) ⊎ ((i ≡ length rows) × (r ≡ row))
        → IsLineRead server (λ page. cond (nat_lt i (length rows)) (is.told.had i page) (strokes page)) (asked i) l.verb r.outcome
    by i l r there own (inl at) =
        let place = has_place rows i r at in
        subst (λ b. IsLineRead server (λ page. cond b (is.told.had i page) (strokes page)) (asked i) l.verb r.outcome) (sym (below_it i (length rows) place))
        (read_fewer server (is.told.had i) (IsAskedBefore who.unit lines rows i) (asked i) l.verb r.outcome
        (λ tag whole few. asked_there who.unit lines rows row i tag whole (omega (arith, place)) few) (is.reads i l r there at own))
    by i l r there own (inr at) =
        let same : line ≡ l = sym (some_is l line (sym there ∙ (ap (slice_get lines) at.0 ∙ found))) in
        subst (λ b. IsLineRead server (λ page. cond b (is.told.had i page) (strokes page)) (asked i) l.verb r.outcome) (sym (not_below i (length rows) at.0))
        (subst (λ (n : ℕ). IsLineRead server strokes (asked n) l.verb r.outcome) (sym at.0)
        (subst (λ (x : LogRow). IsLineRead server strokes (asked (length rows)) l.verb x.outcome) (sym at.1)
        (subst (λ (x : Line). IsLineRead server strokes (asked (length rows)) x.verb row.outcome) same
        (login (ap (λ (x : Line). x.unit) same ∙ own)))))

-- by other names of copies, or more of them
pub client_counted : (server : UnitId) (strokes : ℕ → Option (List StrokeValue)) (pages : ℕ) (who : UnitId) (lines : List Line) (rows : List LogRow) (most more : ℕ) (named named' : Naming)
    → ((had : (place page : ℕ) → Option (List StrokeValue)) → CopiesCounted who had rows most named → CopiesCounted who had rows more named')
    → ClientLines server strokes pages who lines rows most named → ClientLines server strokes pages who lines rows more named'
client_counted server strokes pages who lines rows most more named named' on is = record { told = is.told; reads = is.reads; counted = on is.told.had is.counted }
