-- What a plain client's lines say of the data of a command: a row of its server unit has the command's tag, and the length and the sum are
-- those of the row's data-in.
use Rattle.std.proofs.Common.{◌≡◌, ◌≢◌, ◌∙◌, ◌⊎◌, ◌++◌, ◌==◌, ◌+◌, ◌*◌, ◌≤◌, ◌&&◌, inl, inr, ℕ, All, Bool, true, false, true≢false, cond, length, nat_le, not, Contains, filter, IfSome, List, [], ◌∷◌, Option, Some, None, map, take, refl, sym, ap, subst, arith}
use Rattle.std.proofs.lemmas.Bool.Decides.{nat_tests}
use Rattle.std.proofs.lemmas.List.{take_all}
use Rattle.std.proofs.lemmas.List.Elements.{All-cons, All-head, All-nil, All-tail, Contains-append_left}
use Rattle.std.specs.List.{AllPairs, sum}
use Rattle.vio_num.specs.Entry.{is_srp_entry}
use Rattle.vio_num.specs.Queue.{Handed}
use Rattle.vio_num.specs.declared.entry.Entry.{Entry}
use Rattle.vio_num.specs.declared.history.Served.{Served}
use Rattle.vio_num.specs.declared.names.UnitId.{UnitId}
use Rattle.crq_ring.specs.Pipe.{IsLawfulPipe, PipeValue}
use Rattle.crq_ring.specs.Sessions.{of_session}
use Rattle.crq_ring.specs.declared.rows.PipeRow.{PipeRow}
use Rattle.page_slots.specs.Stroke.{StrokeValue}
use Rattle.page_slots.specs.declared.stroke.StrokeName.{StrokeName}
use Rattle.boot_text.specs.declared.verb.Verb.{Verb}
use Rattle.boot_text.specs.declared.verb.Verb.TheVariants as verbs
use Rattle.vio_trace.specs.declared.outcome.Outcome.{Outcome}
use Rattle.vio_trace.specs.declared.outcome.Outcome.TheVariants as outcomes
use Rattle.vio_trace.specs.declared.rows.AnswerRow.{AnswerRow}
use Rattle.block_server.specs.Makers.{same_unit}
use Rattle.block_server.specs.RowsOn.{row_tag}
use Rattle.vscsi_client.specs.State.{ClientState}
use Rattle.vscsi_client.specs.Transferred.{DataRange}
use Rattle.vscsi_client.specs.declared.TheConstants.{DATA_START}
use Rattle.vscsi_client.specs.declared.row.Row.{Row}
use Rattle.vcpu_run.specs.AnswersTaken.{AreAmong, answered_tags, tags_among, tags_taken}
use Rattle.vcpu_run.specs.Credited.{Ended}
use Rattle.vcpu_run.specs.DataKept.{AreKeptAt, IsInwardAt, IsKeptAt, IsRangeOf, range_in}
use Rattle.vcpu_run.specs.DataRead.{given_by}
use Rattle.vcpu_run.specs.DataTold.{AreDataTold, IsGivenIf}
use Rattle.vcpu_run.specs.LinesShow.{Seen}
use Rattle.vcpu_run.specs.PlainBorne.{rows_by}
use Rattle.vcpu_run.specs.PlainClients.{HasRowOf, IsDataOfRow, SumsUp, tells_data}
use Rattle.vcpu_run.specs.PlainRows.{IsAnswerFor, tags_by}
use Rattle.vcpu_run.specs.Replay.{IsReplayed, Range, Replay, after_line, before_lines, ends_as, lie_within, oldest_sharing, ranges_of, sent_unless, table_range}
use Rattle.vcpu_run.specs.Sessions.{entries_of}
use Rattle.vcpu_run.specs.TagRows.{is_inward, row_at}
use Rattle.vcpu_run.proofs.AnswersShown.{contains_map}
use Rattle.vcpu_run.proofs.LinesShown.{all_has, behind_first, contains_first, first_or, in_session, no_element}
use Rattle.vcpu_run.proofs.PlainAnswerRows.{KnowsAnswers, no_more}
use Rattle.vcpu_run.proofs.PlainBorne.{IsOnlyOne, only_apart}
use Rattle.vcpu_run.proofs.PlainSums.{BearAll, sums_first}
use Rattle.vcpu_run.proofs.PlainTags.{same_one}

-- ---- what stands among others is one of them

among_has : {X : Type 0} (items others : List X) (x : X) → AreAmong items others → Contains items x → Contains others x
among_has [] others x among has = absurd (no_element x has)
among_has (item ∷ items) [] x among has = absurd among
among_has (item ∷ items) (other ∷ others) x (inl (same, rest)) has = by (among_has items others x rest) (first_or item x items has)
  where
    by : (Contains items x → Contains others x) → (item ≡ x) ⊎ Contains items x → Contains (other ∷ others) x
    by later (inl is) = subst (λ y. Contains (other ∷ others) y) (sym same ∙ is) (contains_first other others)
    by later (inr h) = behind_first other x others (later h)
among_has (item ∷ items) (other ∷ others) x (inr rest) has = behind_first other x others (among_has (item ∷ items) others x rest has)

-- one of those for which a test holds, under what a function makes of it
record IsMadeOf {X Y : Type 0} (f : X → Y) (p : X → Bool) (xs : List X) (y : Y) : Type 0 where
  x : X
  there : Contains xs x
  passes : p x ≡ true
  made : f x ≡ y

made_of : {X Y : Type 0} (f : X → Y) (p : X → Bool) (xs : List X) (y : Y) → Contains (map f (filter p xs)) y → IsMadeOf f p xs y
made_of f p [] y has = absurd (no_element y has)
made_of {X} {Y} f p (first ∷ xs) y has = at (made_of f p xs y) (p first) refl has
  where
    later : IsMadeOf f p xs y → IsMadeOf f p (first ∷ xs) y
    later is = record { x = is.x; there = behind_first first is.x xs is.there; passes = is.passes; made = is.made }

    by : p first ≡ true → (Contains (map f (filter p xs)) y → IsMadeOf f p xs y) → (f first ≡ y) ⊎ Contains (map f (filter p xs)) y → IsMadeOf f p (first ∷ xs) y
    by e rest (inl is) = record { x = first; there = contains_first first xs; passes = e; made = is }
    by e rest (inr h) = later (rest h)

    at : (Contains (map f (filter p xs)) y → IsMadeOf f p xs y) → (b : Bool) → p first ≡ b → Contains (map f (cond b (first ∷ filter p xs) (filter p xs))) y → IsMadeOf f p (first ∷ xs) y
    at rest false e h = later (rest h)
    at rest true e h = by e rest (first_or (f first) y (map f (filter p xs)) h)

-- ---- what is so of all that was put is so of all that was taken

entries_all : (P : Entry → Type 0) (q : ℕ) (rows : List PipeRow) → All (λ (row : PipeRow). P row.entry) rows → All P (entries_of q rows)
entries_all P q [] all = All-nil P
entries_all P q (row ∷ rows) all = at (entries_all P q rows (All-tail (λ (r : PipeRow). P r.entry) row rows all)) (row.session == q)
  where
    at : All P (entries_of q rows) → (b : Bool) → All P (map (λ (r : PipeRow). r.entry) (cond b (row ∷ filter (λ (r : PipeRow). r.session == q) rows) (filter (λ (r : PipeRow). r.session == q) rows)))
    at rest true = All-cons P row.entry (entries_of q rows) (All-head (λ (r : PipeRow). P r.entry) row rows all) rest
    at rest false = rest

session_entries : (q : ℕ) (rows : List PipeRow) → of_session q rows ≡ entries_of q rows
unfolding of_session
session_entries q rows = refl

pub taken_as : (P : Entry → Type 0) (pipe : PipeValue) → IsLawfulPipe pipe → All (λ (row : PipeRow). P row.entry) pipe.sent → (row : PipeRow) → Contains pipe.taken row → P row.entry
taken_as P pipe laws all row there =
    let handed : Handed (of_session row.session pipe.sent) (of_session row.session pipe.taken) pipe.slots = laws.handed row.session in
    let own : Contains (of_session row.session pipe.taken) row.entry =
    subst (λ (list : List Entry). Contains list row.entry) (sym (session_entries row.session pipe.taken)) (in_session row.session pipe.taken row refl there) in
    let put : Contains (entries_of row.session pipe.sent) row.entry =
    subst (λ (list : List Entry). Contains list row.entry) (sym handed.in_order ∙ session_entries row.session pipe.sent)
    (Contains-append_left (of_session row.session pipe.taken) handed.rest row.entry own) in
    all_has P (entries_of row.session pipe.sent) row.entry (entries_all P row.session pipe.sent all) put

row_of_entry : (rows : List PipeRow) (entry : Entry) → Contains (map (λ (row : PipeRow). row.entry) rows) entry → (row : PipeRow) × Contains rows row × (row.entry ≡ entry)
row_of_entry [] entry has = absurd (no_element entry has)
row_of_entry (first ∷ rows) entry has = by (row_of_entry rows entry) (first_or first.entry entry (map (λ (row : PipeRow). row.entry) rows) has)
  where
    by : (Contains (map (λ (row : PipeRow). row.entry) rows) entry → (row : PipeRow) × Contains rows row × (row.entry ≡ entry)) → (first.entry ≡ entry) ⊎ Contains (map (λ (row : PipeRow). row.entry) rows) entry → (row : PipeRow) × Contains (first ∷ rows) row × (row.entry ≡ entry)
    by rest (inl is) = (first, contains_first first rows, is)
    by rest (inr h) = let later = rest h in (later.0, behind_first first later.0 rows later.1, later.2)

-- ---- an answer that a client noted is to something that has a row, if that is a command with data-in

row_noted : (pipe : PipeValue) (answers : List AnswerRow) (kept : List Entry) (tags : List ℕ) (rs : List Row) (tag : ℕ) → IsLawfulPipe pipe
    → AreAmong (answered_tags answers ++ tags_among kept) (tags_taken pipe.taken) → All (λ (row : PipeRow). IsAnswerFor tags rs row.entry) pipe.sent → Contains (answered_tags answers) tag
    → is_inward (row_at rs tag) ≡ true → Contains tags tag
row_noted pipe answers kept tags rs tag laws among put noted inward =
    let taken : Contains (tags_taken pipe.taken) tag =
    among_has (answered_tags answers ++ tags_among kept) (tags_taken pipe.taken) tag among (Contains-append_left (answered_tags answers) (tags_among kept) tag noted) in
    let entry : IsMadeOf (λ (e : Entry). e.low) is_srp_entry (map (λ (row : PipeRow). row.entry) pipe.taken) tag =
    made_of (λ (e : Entry). e.low) is_srp_entry (map (λ (row : PipeRow). row.entry) pipe.taken) tag taken in
    let row = row_of_entry pipe.taken entry.x entry.there in
    let answer : IsAnswerFor tags rs entry.x = subst (IsAnswerFor tags rs) row.2 (taken_as (IsAnswerFor tags rs) pipe laws put row.0 row.1) in
    subst (Contains tags) entry.made (answer.row entry.passes (subst (λ t. is_inward (row_at rs t) ≡ true) (sym entry.made) inward))

-- what passes a test is among those that do
pub contains_filter : {X : Type 0} (p : X → Bool) (xs : List X) (x : X) → p x ≡ true → Contains xs x → Contains (filter p xs) x
contains_filter p [] x passes has = absurd (no_element x has)
contains_filter p (first ∷ xs) x passes has = at (contains_filter p xs x passes) (p first) refl (first_or first x xs has)
  where
    at : (Contains xs x → Contains (filter p xs) x) → (b : Bool) → p first ≡ b → (first ≡ x) ⊎ Contains xs x → Contains (cond b (first ∷ filter p xs) (filter p xs)) x
    at rest true e (inl is) = subst (λ y. Contains (first ∷ filter p xs) y) is (contains_first first (filter p xs))
    at rest false e (inl is) = absurd (true≢false (sym passes ∙ ap p (sym is) ∙ e))
    at rest true e (inr h) = behind_first first x (filter p xs) (rest h)
    at rest false e (inr h) = rest h

-- the tag is that of a row
row_under : (rows : List Served) (server : UnitId) (tag : ℕ) (outcome : Outcome) → ((row : Served) → Contains (rows_by server rows) row → row_tag row ≡ tag → SumsUp row.inn outcome)
    → Contains (tags_by server rows) tag → HasRowOf rows server tag outcome
row_under rows server tag outcome sums has =
    let made : IsMadeOf row_tag (λ (row : Served). same_unit row.unit server) rows tag = made_of row_tag (λ (row : Served). same_unit row.unit server) rows tag has in
    record {
      row = made.x;
      there = made.there;
      of_unit = same_one made.x.unit server made.passes;
      tag_is = made.made;
      says = sums made.x (contains_filter (λ (row : Served). same_unit row.unit server) rows made.x made.passes made.there) made.made;
    }

-- ---- the client's lines

-- What is known of a client: what its lines sent, what they say of data, and what it noted.
pub record KnowsData (seen : Seen) (server : UnitId) (s : ClientState) (answers : List AnswerRow) (pipe : PipeValue) (own : List Ended) : Type 0 where
  pub laws : IsLawfulPipe pipe
  pub order : AreAmong (answered_tags answers ++ tags_among s.kept) (tags_taken pipe.taken)
  pub kept : AreKeptAt s.rows own
  pub reads : AreDataTold seen server own answers

pub range_told : (seen : Seen) (name : StrokeName) (own : List Ended) (answers : List AnswerRow) (outcome : Outcome) → tells_data outcome ≡ true → IsGivenIf seen name own answers outcome
    → (range : DataRange) × IsRangeOf own answers name.mark range
range_told seen name own answers (outcomes.Data len total) is told = (told.range, told.of_line)
range_told seen name own answers (outcomes.Stale page) is told = (told.range, told.of_line)
range_told seen name own answers outcome is told = absurd (cc (is))

-- where a line's command was sent, and an answer of its tag noted
pub placed_at : (rs : List Row) (own : List Ended) (answers : List AnswerRow) (tag : ℕ) (range : DataRange) → AreKeptAt rs own → (is : IsRangeOf own answers tag range)
    → IsInwardAt rs tag range.at is.len
placed_at rs own answers tag range kept is =
    subst (λ (o : Option DataRange). IsKeptAt rs o (outcomes.Sent tag)) is.reads
    (subst (λ (outcome : Outcome). IsKeptAt rs (range_in is.line.verb) outcome) is.sent (kept is.line is.there))

noted_tag : (own : List Ended) (answers : List AnswerRow) (tag : ℕ) (range : DataRange) → IsRangeOf own answers tag range → Contains (answered_tags answers) tag
noted_tag own answers tag range is =
    subst (Contains (answered_tags answers)) is.noted.tag_is (contains_map (λ (row : AnswerRow). row.tag) answers is.noted.row is.noted.there)

-- ---- where the data of a line's command lie that was sent: behind the driver's pages

within_behind : (at : ℕ) (x y : Bool) → ((nat_le DATA_START at && x) && y) ≡ true → DATA_START ≤ at
within_behind at x y is = by (nat_le DATA_START at) refl is
  where
    by : (b : Bool) → nat_le DATA_START at ≡ b → ((b && x) && y) ≡ true → DATA_START ≤ at
    by true e h = grind (arith, nat_tests, e)
    by false e h = absurd (true≢false (sym h))

sent_within : (b : Bool) (rest : Option Outcome) (now : Replay) (tag : ℕ) → outcomes.Sent tag ≡ sent_unless (cond (not b) (Some outcomes.Range) rest) now → b ≡ true
sent_within true rest now tag is = refl
sent_within false rest now tag is = absurd (cc (is))

same_at : (a b : DataRange) → Some a ≡ Some b → a.at ≡ b.at
same_at a b is = ap (λ (r : DataRange). r.at) (one a b is)
  where
    one : (a b : DataRange) → Some a ≡ Some b → a ≡ b
    one a b e = cc (e)

-- what else speaks against sending
abbrev others : (granted : ℕ) → Replay → List Range → Option Outcome
others granted now ranges = cond (not now.is_on) (Some outcomes.NotLoggedIn) (cond (length now.outstanding == granted) (Some (outcomes.NoCredit 0)) (oldest_sharing ranges now.outstanding))

line_behind : (granted pages : ℕ) (now : Replay) (verb : Verb) (outcome : Outcome) (tag : ℕ) (range : DataRange) → IfSome (ends_as granted pages now verb) (λ said. outcome ≡ said)
    → outcome ≡ outcomes.Sent tag → range_in verb ≡ Some range → DATA_START ≤ range.at
line_behind granted pages now (verbs.Read lba blocks place pieces table) outcome tag range said sent is =
    let ranges : List Range = ranges_of (verbs.Read lba blocks place pieces table) in
    let within = sent_within (lie_within pages ranges) (others granted now ranges) now tag (sym sent ∙ said) in
    subst (λ a. DATA_START ≤ a) (same_at (record { at = place; len = 512 * blocks }) range is)
    (within_behind place (nat_le (place + 512 * blocks) (4096 * pages)) (lie_within pages (table_range pieces table)) within)
line_behind granted pages now (verbs.CommandIn cdb place len pieces table) outcome tag range said sent is =
    let ranges : List Range = ranges_of (verbs.CommandIn cdb place len pieces table) in
    let within = sent_within (lie_within pages ranges) (others granted now ranges) now tag (sym sent ∙ said) in
    subst (λ a. DATA_START ≤ a) (same_at (record { at = place; len = len }) range is)
    (within_behind place (nat_le (place + len) (4096 * pages)) (lie_within pages (table_range pieces table)) within)
line_behind granted pages now verb outcome tag range said sent is = absurd (cc (is))

sent_behind : (granted pages : ℕ) (now : Replay) (own : List Ended) → IsReplayed granted pages now own → (e : Ended) → Contains own e → (tag : ℕ) (range : DataRange) → e.outcome ≡ outcomes.Sent tag
    → range_in e.verb ≡ Some range → DATA_START ≤ range.at
sent_behind granted pages now [] replayed e has tag range sent is = absurd (no_element e has)
sent_behind granted pages now (first ∷ own) replayed e has tag range sent is =
    by (λ h. sent_behind granted pages (after_line granted pages now first.verb) own replayed.1 e h tag range sent is) (first_or first e own has)
  where
    by : (Contains own e → DATA_START ≤ range.at) → (first ≡ e) ⊎ Contains own e → DATA_START ≤ range.at
    by rest (inl same) =
        line_behind granted pages now first.verb first.outcome tag range replayed.0 (ap (λ (x : Ended). x.outcome) same ∙ sent) (ap (λ (x : Ended). range_in x.verb) same ∙ is)
    by rest (inr h) = rest h

-- ---- the rows

-- where no more are there than are summed up
whole_sum : (len total : ℕ) (inn : List ℕ) → (len ≤ length inn) × (total ≡ sum (take len inn)) → length inn ≤ len → (len ≡ length inn) × (total ≡ sum inn)
whole_sum len total inn first most = (omega (arith, first.0, most), first.1 ∙ ap sum (take_all len inn most))

-- The strokes under the tag of a row bear its data-in, where the client's command of the tag has its data.
abbrev pub BearRows : Seen → (server unit : UnitId) → (rows : List Served) → List Row → Type 0
BearRows seen server unit rows rs = (tag len : ℕ) (range : DataRange) (row : Served) → IsInwardAt rs tag range.at len → DATA_START ≤ range.at
    → IsOnlyOne (rows_by unit rows) tag row → BearAll seen (record { who = server; mark = tag }) range row.inn

-- where the data of a tag lie
abbrev pub LiesBehind : List Ended → List AnswerRow → (tag : ℕ) → Type 0
LiesBehind own answers tag = (range : DataRange) → IsRangeOf own answers tag range → DATA_START ≤ range.at

-- What is said of data of a tag is so of the one row that has it.
pub data_sums : (seen : Seen) (server : UnitId) (rs : List Row) (answers : List AnswerRow) (own : List Ended) (rows : List Served) (unit self : UnitId) (strokes : ℕ → Option (List StrokeValue))
    → AreKeptAt rs own → KnowsAnswers unit self rows rs answers strokes → BearRows seen server unit rows rs → (tag : ℕ) (outcome : Outcome) → LiesBehind own answers tag
    → IsGivenIf seen (record { who = server; mark = tag }) own answers outcome → (row : Served) → Contains (rows_by unit rows) row → row_tag row ≡ tag → IsOnlyOne (rows_by unit rows) tag row
    → SumsUp row.inn outcome
data_sums seen server rs answers own rows unit self strokes kept judged bears tag (outcomes.Data len total) behind told row has is alone =
    let line = told.of_line in
    let at : IsInwardAt rs tag told.range.at line.len = placed_at rs own answers tag told.range kept line in
    whole_sum len total row.inn
    (sums_first seen (record { who = server; mark = tag }) told.range len total row.inn (bears tag line.len told.range row at (behind told.range line) alone) told.told)
    (let most = no_more unit self rows rs answers strokes judged tag told.range.at line.len line.said at line.noted row has alone is in omega (arith, most, line.cut, told.told.in_range))
data_sums seen server rs answers own rows unit self strokes kept judged bears tag outcome behind told row has is alone = tt

pub data_of_rows : (seen : Seen) (server : UnitId) (s : ClientState) (answers : List AnswerRow) (pipe : PipeValue) (own : List Ended) (rows : List Served) (unit self : UnitId)
    (strokes : ℕ → Option (List StrokeValue)) (granted pages : ℕ) → KnowsData seen server s answers pipe own → All (λ (row : PipeRow). IsAnswerFor (tags_by unit rows) s.rows row.entry) pipe.sent
    → AllPairs (λ a b. a ≢ b) (tags_by unit rows) → KnowsAnswers unit self rows s.rows answers strokes → IsReplayed granted pages before_lines own → BearRows seen server unit rows s.rows → (e : Ended) → Contains own e → IsDataOfRow rows unit e
data_of_rows seen server s answers pipe own rows unit self strokes granted pages knows put apart judged replayed bears e there = by (given_by e.verb) (knows.reads e there)
  where
    sums : (tag : ℕ) (outcome : Outcome) → IsGivenIf seen (record { who = server; mark = tag }) own answers outcome → (row : Served) → Contains (rows_by unit rows) row → row_tag row ≡ tag
        → SumsUp row.inn outcome
    sums tag outcome told row has is =
        data_sums seen server s.rows answers own rows unit self strokes knows.kept judged bears tag outcome
        (λ range line. sent_behind granted pages before_lines own replayed line.line line.there tag (record { at = range.at; len = line.len }) line.sent line.reads) told row has is
        (only_apart (rows_by unit rows) tag row apart has is)

    by : (o : Option ℕ) → IfSome o (λ tag. IsGivenIf seen (record { who = server; mark = tag }) own answers e.outcome) → IfSome o (λ tag. tells_data e.outcome ≡ true → HasRowOf rows unit tag e.outcome)
    by None told = tt
    by (Some tag) told = λ tells.
        let range = range_told seen (record { who = server; mark = tag }) own answers e.outcome tells told in
        row_under rows unit tag e.outcome (sums tag e.outcome told)
        (row_noted pipe answers s.kept (tags_by unit rows) s.rows tag knows.laws knows.order put (noted_tag own answers tag range.0 range.1)
        (ap is_inward (placed_at s.rows own answers tag range.0 knows.kept range.1).1))
