-- What a client noted stays noted, and what it says of data was answered.
use Rattle.std.proofs.Common.{◌≡◌, ◌∙◌, ◌⊎◌, inl, inr, ℕ, ◌≤◌, ◌++◌, Bool, true, false, Contains, IfSome, IsSomeAnd, List, [], ◌∷◌, Ok, Option, Some, None, append-nil, append_assoc, length, refl, sym, ap, subst, slice_get, arith}
use Rattle.std.proofs.lemmas.List.Elements.{Contains-append_left}
use Rattle.vio_num.specs.declared.names.UnitId.{UnitId}
use Rattle.boot_text.specs.declared.plan.Line.{Line}
use Rattle.page_slots.specs.Stroke.{StrokeValue}
use Rattle.unit_region.specs.declared.step.Step.{Step}
use Rattle.vio_trace.specs.declared.outcome.Outcome.{Outcome}
use Rattle.vio_trace.specs.declared.outcome.Outcome.TheVariants as outcomes
use Rattle.vio_trace.specs.declared.rows.AnswerRow.{AnswerRow}
use Rattle.vio_trace.specs.declared.rows.LogRow.{LogRow}
use Rattle.vscsi_client.specs.State.{tags_of}
use Rattle.vscsi_client.specs.declared.outgoing.Outgoing.{Outgoing}
use Rattle.vscsi_client.specs.declared.row.Row.{Row}
use Rattle.vscsi_client.specs.Transferred.{DataRange, data_range, transferred}
use Rattle.vscsi_client.specs.declared.row.DataIn.{DataIn}
use Rattle.vcpu_run.specs.declared.driver.Driver.{Driver}
use Rattle.vcpu_run.specs.declared.pair.Pair.{Pair}
use Rattle.vcpu_run.specs.declared.script.Progress.{Progress}
use Rattle.vcpu_run.specs.declared.unit_seat.Seat.{Seat}
use Rattle.vcpu_run.specs.declared.unit_seat.Seat.TheVariants as places
use Rattle.vcpu_run.specs.Agreed.{OnDrivers, SameDrivers, driver_in}
use Rattle.vcpu_run.specs.AnswersSeen.{AreResponsesRead, IsResponseRead, fronts_of}
use Rattle.vcpu_run.specs.DataKept.{IsInwardAt, IsKeptAt, range_in}
use Rattle.vcpu_run.specs.DataNoted.{HasNoted, PairNoted}
use Rattle.vcpu_run.specs.Pairs.{AreDriven, Drives}
use Rattle.vcpu_run.specs.NotedOn.{AllKeepNoted, KeepsNoted}
use Rattle.vcpu_run.specs.LinesRead.{AreKept, IsAnsweredIn, IsAskedBefore}
use Rattle.vcpu_run.specs.Machines.{AllStay, Stays}
use Rattle.vcpu_run.specs.ScriptTold.{SameClient, SameClients}
use Rattle.vcpu_run.specs.Suited.{is_call, suits}
use Rattle.crq_session.specs.PlainState.{end_of, side_of}
use Rattle.vcpu_run.specs.TagRows.{row_at}
use Rattle.vcpu_run.specs.TakenScripts.{AllGive, HasTakenNone, PairGives, PairUntaken}
use Rattle.vcpu_run.specs.Takings.{Gives}
use Rattle.vcpu_run.specs.Telling.{LineTold}
use Rattle.vcpu_run.proofs.DataRanges.{range_noted, range_of}
use Rattle.vcpu_run.specs.AnswersTaken.{has_tag}
use Rattle.vcpu_run.proofs.Announcing.{both_bools}
use Rattle.vcpu_run.proofs.DataOf.{kept_as}
use Rattle.vcpu_run.proofs.DataStays.{data_on, data_same, no_login}
use Rattle.vcpu_run.proofs.Driving.{some_is}
use Rattle.vcpu_run.proofs.TakenOn.{empty_row}
use Rattle.vcpu_run.proofs.Listed.{held}
use Rattle.vcpu_run.proofs.LinesShown.{all_has, no_row, row_at as found_at}

-- ---- a step

noted_on : (server : UnitId) (a b : Driver) → KeepsNoted a b → HasNoted server a → HasNoted server b
noted_on server a b keeps is = record {
  asked = keeps.keeps.asked is.asked;
  noted = keeps.keeps.noted is.asked is.noted;
  of_server = keeps.server ∙ is.of_server;
}

pub pair_noted_on : (old new : Pair) → new.server ≡ old.server → OnDrivers old.driver new.driver KeepsNoted → PairNoted old → PairNoted new
pair_noted_on old new server keeps is = at old.driver new.driver keeps is
  where
    at : (o p : Option Driver) → OnDrivers o p KeepsNoted → IfSome o (HasNoted old.server) → IfSome p (HasNoted new.server)
    at None None keeps is = tt
    at None (Some b) keeps is = absurd keeps
    at (Some a) None keeps is = absurd keeps
    at (Some a) (Some b) keeps is = subst (λ (u : UnitId). HasNoted u b) (sym server) (noted_on old.server a b keeps is)

keeps_self : (a : Driver) → KeepsNoted a a
keeps_self a = record { keeps = data_same a.client a.client a.answers.items a.answers.items refl refl refl; server = refl; more = ([], sym (append-nil a.answers.items)) }

keeps_as : (o p : Option Driver) → p ≡ o → OnDrivers o p KeepsNoted
keeps_as o p same = subst (λ (q : Option Driver). OnDrivers o q KeepsNoted) (sym same) (at o)
  where
    at : (o : Option Driver) → OnDrivers o o KeepsNoted
    at None = tt
    at (Some a) = keeps_self a

-- ---- all pairs

pub keep_same : (old new : List Pair) → SameDrivers old new → AllKeepNoted old new
keep_same old new same k before after was is = keeps_as before.driver after.driver (sym (ap driver_in is) ∙ (same k ∙ ap driver_in was))

pub keep_clients : (old new : List Pair) → SameClients old new → AllKeepNoted old new
keep_clients old new same k before after was is =
    keeps_as before.driver after.driver (subst (λ (o : Option Pair). IsSomeAnd o (λ before. SameClient before after)) was (same k after is)).driver

pub keep_gives : (old new : List Pair) → AllGive old new → AllKeepNoted old new
keep_gives old new gives k before after was is =
    by before.driver after.driver (subst (λ (o : Option Pair). IsSomeAnd o (λ before. PairGives before after)) was (gives k after is))
  where
    by : (o p : Option Driver) → OnDrivers o p (λ a b. Gives a b (end_of [] before.link false) (end_of [] after.link false)) → OnDrivers o p KeepsNoted
    by None None gives = tt
    by None (Some b) gives = absurd gives
    by (Some a) None gives = absurd gives
    by (Some a) (Some b) gives = record { keeps = gives.keeps; server = gives.server; more = gives.more }

-- one step behind another, where no pair is gone
keeps_then : (o p q : Option Driver) → OnDrivers o p KeepsNoted → OnDrivers p q KeepsNoted → OnDrivers o q KeepsNoted
keeps_then None None None first next = tt
keeps_then None None (Some c) first next = absurd next
keeps_then None (Some b) q first next = absurd first
keeps_then (Some a) None q first next = absurd first
keeps_then (Some a) (Some b) None first next = absurd next
keeps_then (Some a) (Some b) (Some c) first next = record {
  keeps = data_on a.client b.client c.client a.answers.items b.answers.items c.answers.items first.keeps next.keeps;
  server = next.server ∙ first.server;
  more = (first.more.0 ++ next.more.0, next.more.1 ∙ (ap (λ (list : List AnswerRow). list ++ next.more.0) first.more.1 ∙ append_assoc a.answers.items first.more.0 next.more.0));
}

pub keep_on : (old mid new : List Pair) → AreDriven old mid → AllKeepNoted old mid → AllKeepNoted mid new → AllKeepNoted old new
keep_on old mid new driven first next k before after was is =
    let between = held (Drives before) (slice_get mid k) (driven.each k before was) in
    keeps_then before.driver between.0.driver after.driver (first k before between.0 was between.1) (next k between.0 after between.1 is)

pub keep_told : (seats : List Seat) (line : Line) (p p' : Progress) (old new : List Pair) (step : Step) → IsSomeAnd (slice_get seats line.unit) (suits line.verb)
    → LineTold seats line p p' old new (Ok step) → AllKeepNoted old new
keep_told seats line p p' old new step suited told = at (slice_get seats line.unit) refl suited
  where
    at : (o : Option Seat) → slice_get seats line.unit ≡ o → IsSomeAnd o (suits line.verb) → AllKeepNoted old new
    at None e h = absurd h
    at (Some places.Server) e h = absurd h
    at (Some (places.Client k)) e h = keep_gives old new (told.client k e).gives
    at (Some places.Port) e h = subst (AllKeepNoted old) (sym (told.port e)) (keep_same old old (λ k. refl))

pub keep_line : (seats : List Seat) (line : Line) (p p' : Progress) (old new : List Pair) (step : Step) → IsSomeAnd (slice_get seats line.unit) (suits line.verb)
    → (is_call line.verb ≡ true → SameDrivers old new) → (is_call line.verb ≡ false → LineTold seats line p p' old new (Ok step)) → AllKeepNoted old new
keep_line seats line p p' old new step suited calls told = by (is_call line.verb) refl
  where
    by : (b : Bool) → is_call line.verb ≡ b → AllKeepNoted old new
    by true e = keep_same old new (calls e)
    by false e = keep_told seats line p p' old new step suited (told e)

pub server_of : (old new : List Pair) → AllStay old new → (k : ℕ) (before after : Pair) → slice_get old k ≡ Some before → slice_get new k ≡ Some after → after.server ≡ before.server
server_of old new stay k before after was is = (subst (λ (o : Option Pair). IsSomeAnd o (Stays before)) is (stay.each k before was)).server

-- before the first turn
pub none_noted : (pair : Pair) → PairUntaken pair → PairNoted pair
none_noted pair = at pair.driver
  where
    at : (o : Option Driver) → IfSome o (HasTakenNone pair.server (side_of pair.link false).queue.taken) → IfSome o (HasNoted pair.server)
    at None is = tt
    at (Some driver) is = record {
      asked = λ tag has. absurd (both_bools (has_tag tag (tags_of driver.client.outgoing)) has (ap (λ (os : List Outgoing). has_tag tag (tags_of os)) is.outgoing));
      noted = λ tag at len said row. absurd (no_login at len (Some said) (sym (ap (λ (rs : List Row). row_at rs tag) is.rows ∙ empty_row tag) ∙ row));
      of_server = is.server;
    }

-- ---- data that are given or stale

pub answered_there : (server : UnitId) (strokes : ℕ → Option (List StrokeValue)) (a b : Driver) (tag : ℕ) (range : DataRange) → HasNoted server a → KeepsNoted a b
    → data_range a.client tag ≡ Some range → AreResponsesRead (fronts_of strokes) b.answers.items
    → IsAnsweredIn strokes (λ tag whole. IsInwardAt a.client.rows tag whole.at whole.len) tag range
answered_there server strokes a b tag range is keeps some read =
    let is_noted = range_noted a.client a.answers.items tag range is.noted some in
    let row : AnswerRow = is_noted.noted.row in
    record {
      row = row;
      tag_is = is_noted.noted.tag_is;
      response = is_noted.noted.response;
      canonical = is_noted.noted.canonical;
      read = all_has (IsResponseRead (fronts_of strokes)) b.answers.items row read
          (subst (λ (rows : List AnswerRow). Contains rows row) (sym keeps.more.1) (Contains-append_left a.answers.items keeps.more.0 row is_noted.noted.there));
      range_is = λ whole inward. is_noted.cut whole inward ∙ ap (λ (said : DataIn). range_of whole.at (transferred whole.len said)) is_noted.noted.says;
    }

-- ---- where the data lie of the commands of lines that have a record

kept_on : (unit : ℕ) (lines : List Line) (rows : List LogRow) (server : UnitId) (a b : Driver) → HasNoted server a → KeepsNoted a b → AreKept unit lines rows a.client.rows
    → AreKept unit lines rows b.client.rows
kept_on unit lines rows server a b is keeps kept i line row there at own =
    kept_as a.client.rows b.client.rows (range_in line.verb) row.outcome (keeps.keeps.rows_stay is.asked) (kept i line row there at own)

pub pair_kept_on : (unit : ℕ) (lines : List Line) (rows : List LogRow) (old new : Pair) → OnDrivers old.driver new.driver KeepsNoted → PairNoted old
    → IfSome old.driver (λ driver. AreKept unit lines rows driver.client.rows) → IfSome new.driver (λ driver. AreKept unit lines rows driver.client.rows)
pair_kept_on unit lines rows old new = at old.driver new.driver
  where
    at : (o p : Option Driver) → OnDrivers o p KeepsNoted → IfSome o (HasNoted old.server) → IfSome o (λ driver. AreKept unit lines rows driver.client.rows)
        → IfSome p (λ driver. AreKept unit lines rows driver.client.rows)
    at None None keeps is kept = tt
    at None (Some b) keeps is kept = absurd keeps
    at (Some a) None keeps is kept = absurd keeps
    at (Some a) (Some b) keeps is kept = kept_on unit lines rows old.server a b is keeps kept

-- and of a line more
kept_one : (unit : ℕ) (lines : List Line) (rows : List LogRow) (line : Line) (row : LogRow) (rs : List Row) → slice_get lines (length rows) ≡ Some line → AreKept unit lines rows rs
    → (line.unit ≡ unit → IsKeptAt rs (range_in line.verb) row.outcome) → AreKept unit lines (rows ++ row ∷ []) rs
kept_one unit lines rows line row rs found kept last i l r there at own = by (found_at rows row r i at)
  where
    by : (slice_get rows i ≡ Some r) ⊎ ((i ≡ length rows) × (r ≡ row)) → IsKeptAt rs (range_in l.verb) r.outcome
    by (inl h) = kept i l r there h own
    by (inr h) =
        let same : l ≡ line = some_is l line (sym there ∙ (ap (slice_get lines) h.0 ∙ found)) in
        subst (λ (x : LogRow). IsKeptAt rs (range_in l.verb) x.outcome) (sym h.1)
        (subst (λ (x : Line). IsKeptAt rs (range_in x.verb) row.outcome) (sym same) (last (sym (ap (λ (x : Line). x.unit) same) ∙ own)))

pub pair_kept_one : (unit : ℕ) (lines : List Line) (rows : List LogRow) (line : Line) (row : LogRow) (pair : Pair) → slice_get lines (length rows) ≡ Some line
    → IfSome pair.driver (λ driver. AreKept unit lines rows driver.client.rows)
    → (line.unit ≡ unit → IfSome pair.driver (λ driver. IsKeptAt driver.client.rows (range_in line.verb) row.outcome))
    → IfSome pair.driver (λ driver. AreKept unit lines (rows ++ row ∷ []) driver.client.rows)
pair_kept_one unit lines rows line row pair found = at pair.driver
  where
    at : (o : Option Driver) → IfSome o (λ driver. AreKept unit lines rows driver.client.rows)
        → (line.unit ≡ unit → IfSome o (λ driver. IsKeptAt driver.client.rows (range_in line.verb) row.outcome))
        → IfSome o (λ driver. AreKept unit lines (rows ++ row ∷ []) driver.client.rows)
    at None kept last = tt
    at (Some driver) kept last = kept_one unit lines rows line row driver.client.rows found kept last

pub pair_kept_none : (unit : ℕ) (lines : List Line) (rows : List LogRow) (pair : Pair) → rows ≡ [] → IfSome pair.driver (λ driver. AreKept unit lines rows driver.client.rows)
pair_kept_none unit lines rows pair none = at pair.driver
  where
    at : (o : Option Driver) → IfSome o (λ driver. AreKept unit lines rows driver.client.rows)
    at None = tt
    at (Some driver) = λ i line row there has own. absurd (no_row row (sym (ap (λ (rs : List LogRow). slice_get rs i) none) ∙ has))

-- a line sent a command with data-in before, by the records that there are
pub asked_there : (unit : ℕ) (lines : List Line) (rows : List LogRow) (row : LogRow) (i tag : ℕ) (whole : DataRange) → i ≤ length rows
    → IsAskedBefore unit lines (rows ++ row ∷ []) i tag whole → IsAskedBefore unit lines rows i tag whole
asked_there unit lines rows row i tag whole few is = record {
  place = is.place;
  earlier = is.earlier;
  line = is.line;
  row = is.row;
  there = is.there;
  ended = by (found_at rows row is.row is.place is.ended);
  own = is.own;
  sent = is.sent;
  reads = is.reads;
}
  where
    by : (slice_get rows is.place ≡ Some is.row) ⊎ ((is.place ≡ length rows) × (is.row ≡ row)) → slice_get rows is.place ≡ Some is.row
    by (inl h) = h
    by (inr h) = let less = is.earlier in let last = h.0 in absurd (omega (arith, few, less, last))

pub asked_kept : (unit : ℕ) (lines : List Line) (rows : List LogRow) (row : LogRow) (rs : List Row) (i tag : ℕ) (whole : DataRange) → i ≤ length rows → AreKept unit lines rows rs
    → IsAskedBefore unit lines (rows ++ row ∷ []) i tag whole → IsInwardAt rs tag whole.at whole.len
asked_kept unit lines rows row rs i tag whole few kept is =
    let before : IsAskedBefore unit lines rows i tag whole = asked_there unit lines rows row i tag whole few is in
    subst (λ (o : Option DataRange). IsKeptAt rs o (outcomes.Sent tag)) before.reads
    (subst (λ (o : Outcome). IsKeptAt rs (range_in before.line.verb) o) before.sent (kept before.place before.line before.row before.there before.ended before.own))
