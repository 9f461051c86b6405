-- The range of a tag's data, as a client keeps it, is that of its records and its answers.
use Rattle.std.proofs.Common.{◌≡◌, ◌∙◌, ◌⊎◌, inl, inr, ℕ, ◌*◌, ◌-◌, ◌==◌, ◌&&◌, ◌||◌, nat_le, Bool, true, false, cond, List, [], ◌∷◌, Option, Some, None, refl, sym, ap, subst, eqb-true}
use Rattle.std.specs.List.{Contains, slice_index_or}
use Rattle.std.proofs.lemmas.List.Elements.{Contains-append_right}
use Rattle.boot_text.specs.declared.verb.Verb.{Verb}
use Rattle.boot_text.specs.declared.verb.Verb.TheVariants as verbs
use Rattle.vio_trace.specs.declared.outcome.Outcome.{Outcome}
use Rattle.vio_trace.specs.declared.outcome.Outcome.TheVariants as outcomes
use Rattle.vio_trace.specs.declared.rows.AnswerRow.{AnswerRow}
use Rattle.vscsi_client.specs.State.{ClientState}
use Rattle.vscsi_client.specs.Transferred.{DataRange, data_of_row, data_range, transferred}
use Rattle.vscsi_client.specs.declared.op.Dir.TheVariants as dirs
use Rattle.vscsi_client.specs.declared.row.DataIn.{DataIn}
use Rattle.vscsi_client.specs.declared.row.Row.{Row}
use Rattle.vscsi_client.specs.declared.row.Row.TheVariants as rows
use Rattle.vcpu_run.specs.declared.driver.Driver.{Driver}
use Rattle.vcpu_run.specs.AnswersTaken.{TakesNow, answered_tags, has_tag, no_takes, reads_in, sent_inward, takes_after, takes_by}
use Rattle.vcpu_run.specs.Credited.{Ended}
use Rattle.vcpu_run.specs.DataKept.{AreKeptAt, AreNoted, IsInwardAt, IsKeptAt, IsNoted, IsRangeOf, range_in}
use Rattle.vcpu_run.specs.TagRows.{is_given, row_at}
use Rattle.vcpu_run.specs.Takings.{AgreesTaken}
use Rattle.vcpu_run.proofs.Driving.{some_is}
use Rattle.vcpu_run.proofs.LinesShown.{contains_first}
use Rattle.vcpu_run.proofs.TagsKept.{has_more}

-- a command with data-in was sent by a line that says where its data are to lie
range_reads : (verb : Verb) → reads_in verb ≡ true → (range : DataRange) × (range_in verb ≡ Some range)
range_reads verbs.Login is = absurd (cc)
range_reads verbs.Reset is = absurd (cc)
range_reads verbs.Logout is = absurd (cc)
range_reads verbs.Tur is = absurd (cc)
range_reads (verbs.Read lba blocks at pieces table) is = (record { at = at; len = 512 * blocks }, refl)
range_reads (verbs.Write lba blocks at pieces table) is = absurd (cc)
range_reads (verbs.Command cdb) is = absurd (cc)
range_reads (verbs.CommandIn cdb at len pieces table) is = (record { at = at; len = len }, refl)
range_reads (verbs.CommandOut cdb at len pieces table) is = absurd (cc)
range_reads (verbs.Task function of) is = absurd (cc)
range_reads (verbs.Take count) is = absurd (cc)
range_reads (verbs.Data of) is = absurd (cc)
range_reads verbs.Open is = absurd (cc)
range_reads verbs.Close is = absurd (cc)
range_reads (verbs.Post at len count) is = absurd (cc)
range_reads (verbs.Send to len seed at) is = absurd (cc)
range_reads (verbs.ChangeMac own) is = absurd (cc)
range_reads (verbs.Multicast control group) is = absurd (cc)
range_reads (verbs.Fill at len seed) is = absurd (cc)
range_reads (verbs.Poke at bytes) is = absurd (cc)
range_reads (verbs.Peek at len) is = absurd (cc)
range_reads (verbs.Tce entry page readable writable) is = absurd (cc)
range_reads (verbs.Hcall number arguments) is = absurd (cc)
range_reads verbs.Fail is = absurd (cc)

-- a record that tells of a command with data-in
told_inward : (tag : ℕ) (inward : Bool) (t : ℕ) (now : TakesNow) → has_tag tag (sent_inward inward t now).inward ≡ true → (has_tag tag now.inward ≡ true) ⊎ ((t ≡ tag) × (inward ≡ true))
told_inward tag false t now has = inl has
told_inward tag true t now has = at (has_tag tag now.inward) (t == tag) refl refl (sym (has_more tag t now.inward) ∙ has)
  where
    at : (a b : Bool) → has_tag tag now.inward ≡ a → (t == tag) ≡ b → (a || (b || false)) ≡ true → (has_tag tag now.inward ≡ true) ⊎ ((t ≡ tag) × (true ≡ true))
    at true b e f h = inl e
    at false true e f h = inr (eqb-true t tag f, refl)
    at false false e f h = absurd (cc (h))

by_record : (tag : ℕ) (verb : Verb) (outcome : Outcome) (now : TakesNow) → has_tag tag (takes_by verb outcome now).inward ≡ true
    → (has_tag tag now.inward ≡ true) ⊎ ((outcome ≡ outcomes.Sent tag) × (reads_in verb ≡ true))
by_record tag verb (outcomes.Granted credits) now has = inl has
by_record tag verb (outcomes.Rejected reason) now has = inl has
by_record tag verb outcomes.Lost now has = inl has
by_record tag verb outcomes.Unanswered now has = inl has
by_record tag verb (outcomes.Sent t) now has = at (told_inward tag (reads_in verb) t now has)
  where
    at : (has_tag tag now.inward ≡ true) ⊎ ((t ≡ tag) × (reads_in verb ≡ true)) → (has_tag tag now.inward ≡ true) ⊎ ((outcomes.Sent t ≡ outcomes.Sent tag) × (reads_in verb ≡ true))
    at (inl h) = inl h
    at (inr h) = inr (ap outcomes.Sent h.0, h.1)
by_record tag verb outcomes.Range now has = inl has
by_record tag verb outcomes.NotLoggedIn now has = inl has
by_record tag verb (outcomes.NoCredit limit) now has = inl has
by_record tag verb (outcomes.Overlap t) now has = inl has
by_record tag verb outcomes.Closed now has = inl has
by_record tag verb (outcomes.Dropped number held) now has = inl has
by_record tag verb (outcomes.Took count) now has = inl has
by_record tag verb (outcomes.TookThenLost count) now has = inl has
by_record tag verb (outcomes.Data len total) now has = inl has
by_record tag verb (outcomes.Stale page) now has = inl has
by_record tag verb outcomes.Unknown now has = inl has
by_record tag verb (outcomes.Code code) now has = inl has
by_record tag verb (outcomes.Value value) now has = inl has
by_record tag verb (outcomes.Posted buffers code) now has = inl has
by_record tag verb (outcomes.Frame code number) now has = inl has
by_record tag verb outcomes.Done now has = inl has
by_record tag verb (outcomes.Bytes shown) now has = inl has

-- A line sent a command with data-in under a tag.
record IsSentBy (own : List Ended) (tag : ℕ) : Type 0 where
  line : Ended
  there : Contains own line
  sent : line.outcome ≡ outcomes.Sent tag
  reads : reads_in line.verb ≡ true

behind : (e : Ended) (own : List Ended) (tag : ℕ) → IsSentBy own tag → IsSentBy (e ∷ own) tag
behind e own tag is = record { line = is.line; there = Contains-append_right (e ∷ []) own is.line is.there; sent = is.sent; reads = is.reads }

sent_under : (tag : ℕ) (now : TakesNow) (own : List Ended) → has_tag tag (takes_after now own).inward ≡ true → (has_tag tag now.inward ≡ true) ⊎ IsSentBy own tag
sent_under tag now [] has = inl has
sent_under tag now (e ∷ own) has = at (sent_under tag (takes_by e.verb e.outcome now) own has)
  where
    first : (has_tag tag now.inward ≡ true) ⊎ ((e.outcome ≡ outcomes.Sent tag) × (reads_in e.verb ≡ true)) → (has_tag tag now.inward ≡ true) ⊎ IsSentBy (e ∷ own) tag
    first (inl h) = inl h
    first (inr h) = inr (record { line = e; there = contains_first e own; sent = h.0; reads = h.1 })

    at : (has_tag tag (takes_by e.verb e.outcome now).inward ≡ true) ⊎ IsSentBy own tag → (has_tag tag now.inward ≡ true) ⊎ IsSentBy (e ∷ own) tag
    at (inl h) = first (by_record tag e.verb e.outcome now h)
    at (inr is) = inr (behind e own tag is)

abbrev pub range_of : (at len : ℕ) → DataRange
range_of at len = record { at = at; len = len }

-- what a row says
abbrev row_start : Row → ℕ
row_start (rows.Command dir at len said) = at
row_start rows.Login = 0
row_start rows.Logout = 0
row_start rows.Task = 0

abbrev row_long : Row → ℕ
row_long (rows.Command dir at len said) = len
row_long rows.Login = 0
row_long rows.Logout = 0
row_long rows.Task = 0

-- A row of a command with data-in that was answered, in whose range the data lie.
record IsAnswered (row : Row) (range : DataRange) : Type 0 where
  len : ℕ
  said : DataIn
  row_is : row ≡ rows.Command dirs.In range.at len (Some said)
  cut : range.len ≡ transferred len said

row_answered : (row : Row) (range : DataRange) → data_of_row row ≡ Some range → IsAnswered row range
row_answered (rows.Command dirs.In at len (Some said)) range is =
    let same : range ≡ record { at = at; len = transferred len said } = some_is range (record { at = at; len = transferred len said }) (sym is) in
    record {
      len = len;
      said = said;
      row_is = ap (λ (r : DataRange). rows.Command dirs.In r.at len (Some said)) (sym same);
      cut = ap (λ (r : DataRange). r.len) same;
    }
row_answered (rows.Command dirs.In at len None) range is = absurd (cc (is))
row_answered (rows.Command dirs.Out at len said) range is = absurd (cc (is))
row_answered (rows.Command dirs.Neither at len said) range is = absurd (cc (is))
row_answered rows.Login range is = absurd (cc (is))
row_answered rows.Logout range is = absurd (cc (is))
row_answered rows.Task range is = absurd (cc (is))

range_row : (client : ClientState) (tag : ℕ) → data_range client tag ≡ data_of_row (row_at client.rows tag)
range_row client tag = at (nat_le 1 tag)
  where
    at : (b : Bool) → cond b (data_of_row (slice_index_or client.rows (tag - 1) rows.Login)) None ≡ data_of_row (cond b (slice_index_or client.rows (tag - 1) rows.Login) rows.Login)
    at true = refl
    at false = refl

first_of : (a b : Bool) → (a && b) ≡ true → b ≡ true
first_of true b is = is
first_of false b is = absurd (cc (is))

-- the line that sent the command has its data where the row says
pub range_told : (taken : ℕ) (own : List Ended) (driver : Driver) (tag : ℕ) (range : DataRange) → AgreesTaken taken (takes_after no_takes own) driver
    → AreNoted driver.client.rows driver.answers.items → AreKeptAt driver.client.rows own → data_range driver.client tag ≡ Some range → IsRangeOf own driver.answers.items tag range
range_told taken own driver tag range agrees noted kept is = by (sent_under tag no_takes own inward)
  where
    row : IsAnswered (row_at driver.client.rows tag) range
    row = row_answered (row_at driver.client.rows tag) range (sym (range_row driver.client tag) ∙ is)

    inward : has_tag tag (takes_after no_takes own).inward ≡ true
    inward = first_of (has_tag tag (answered_tags driver.answers.items)) (has_tag tag (takes_after no_takes own).inward) (sym (agrees.tags tag).known ∙ ap is_given row.row_is)

    kept_at : (line : Ended) (r : DataRange) → Contains own line → line.outcome ≡ outcomes.Sent tag → range_in line.verb ≡ Some r → IsInwardAt driver.client.rows tag r.at r.len
    kept_at line r there sent reads =
        subst (λ (o : Option DataRange). IsKeptAt driver.client.rows o (outcomes.Sent tag)) reads
        (subst (λ (o : Outcome). IsKeptAt driver.client.rows (range_in line.verb) o) sent (kept line there))

    from : (s : IsSentBy own tag) → (r : DataRange) × (range_in s.line.verb ≡ Some r) → IsRangeOf own driver.answers.items tag range
    from s found =
        let at_row = kept_at s.line found.0 s.there s.sent found.1 in
        let same : rows.Command dirs.In found.0.at found.0.len at_row.0 ≡ rows.Command dirs.In range.at row.len (Some row.said) = sym at_row.1 ∙ row.row_is in
        record {
          line = s.line;
          there = s.there;
          sent = s.sent;
          len = row.len;
          reads = found.1 ∙ (ap (λ (n : ℕ). Some (range_of n found.0.len)) (ap row_start same) ∙ ap (λ (n : ℕ). Some (range_of range.at n)) (ap row_long same));
          said = row.said;
          noted = noted tag range.at row.len row.said row.row_is;
          cut = row.cut;
        }

    by : (has_tag tag no_takes.inward ≡ true) ⊎ IsSentBy own tag → IsRangeOf own driver.answers.items tag range
    by (inl h) = absurd (cc (h))
    by (inr s) = from s (range_reads s.line.verb s.reads)

-- An answer of the tag was noted, which cuts to this range that of each command which was sent under the tag.
pub record IsRangeNoted (client : ClientState) (answers : List AnswerRow) (tag : ℕ) (range : DataRange) : Type 0 where
  pub said : DataIn
  pub noted : IsNoted answers tag said
  pub cut : (whole : DataRange) → IsInwardAt client.rows tag whole.at whole.len → range ≡ range_of whole.at (transferred whole.len said)

pub range_noted : (client : ClientState) (answers : List AnswerRow) (tag : ℕ) (range : DataRange) → AreNoted client.rows answers → data_range client tag ≡ Some range
    → IsRangeNoted client answers tag range
range_noted client answers tag range noted is = record {
  said = row.said;
  noted = noted tag range.at row.len row.said row.row_is;
  cut = λ whole inward.
      let same : rows.Command dirs.In whole.at whole.len inward.0 ≡ rows.Command dirs.In range.at row.len (Some row.said) = sym inward.1 ∙ row.row_is in
      ap (λ (n : ℕ). range_of n range.len) (sym (ap row_start same))
      ∙ ap (λ (n : ℕ). range_of whole.at n) (row.cut ∙ ap (λ (n : ℕ). transferred n row.said) (sym (ap row_long same)));
}
  where
    row : IsAnswered (row_at client.rows tag) range
    row = row_answered (row_at client.rows tag) range (sym (range_row client tag) ∙ is)
