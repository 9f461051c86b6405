-- What a client's data are, as far as its records tell: what was read in their range, and why they were not.
use Rattle.std.proofs.Common.{◌≡◌, ◌∙◌, inl, inr, ℕ, ◌+◌, ◌-◌, ◌<◌, ◌≤◌, ◌==◌, nat_le, nat_lt, Bool, true, false, cond, bit_and, slice_index_or, List, [], Option, Some, None, IfSome, IsSome, MatchBool, MatchOption, length, min, take, drop, refl, sym, ap, subst, arith}
use Rattle.std.specs.Bool.{⊤}
use Rattle.std.proofs.lemmas.Bool.Decides.{nat_tests}
use Rattle.std.specs.List.{sum}
use Rattle.std.proofs.lemmas.List.{get_or_past, length-drop}
use Rattle.std.proofs.lemmas.List.Elements.{All-get_or}
use Rattle.page_slots.specs.Stroke.{StrokeValue}
use Rattle.page_slots.specs.declared.stroke.StrokeName.{StrokeName}
use Rattle.tce_window.specs.Named.{IsFresh, IsStale, from_place, to_place}
use Rattle.tce_window.specs.Port.{Grows}
use Rattle.tce_window.specs.PortState.{FindsStale, Learns, PortState}
use Rattle.tce_window.specs.Region.{first_page, touches}
use Rattle.crq_session.specs.EndState.{EndState}
use Rattle.srp_desc.specs.declared.pieces.TheConstants.{MAX_DATA_LEN}
use Rattle.srp_iu.specs.declared.response.TheConstants.{DIUNDER, RSPVALID}
use Rattle.boot_text.specs.declared.verb.Verb.TheVariants as verbs
use Rattle.vio_trace.specs.declared.outcome.Outcome.TheVariants as outcomes
use Rattle.unit_region.specs.declared.step.Step.TheVariants as steps
use Rattle.vscsi_client.specs.State.{ClientState}
use Rattle.vscsi_client.specs.declared.op.Dir.TheVariants as dirs
use Rattle.vscsi_client.specs.declared.row.DataIn.{DataIn}
use Rattle.vscsi_client.specs.declared.row.Row.{Row}
use Rattle.vscsi_client.specs.declared.row.Row.TheVariants as rows
use Rattle.vscsi_client.specs.Transferred.{DataRange, FitRows, FitsRow, GivesData, ReadsBoth, ReadsNamed, WhyNoData, WhyNotRead, data_of_row, data_range, name_of, transferred}
use Rattle.vscsi_client.specs.declared.answers.DataFault.TheVariants as faults
use Rattle.vscsi_client.specs.declared.TheConstants.{PART_BYTES}
use Rattle.vcpu_run.specs.DataRead.{AreAllRead, AreBothRead, IsDataRead, IsDataStale, IsDataTold, IsPartRead, IsPartStale, StepReads}
use Rattle.vcpu_run.specs.LinesShow.{Seen, seen_by}
use Rattle.vcpu_run.proofs.Driving.{some_is}
use Rattle.unit_region.proofs.Laws.{touched}

-- the strokes of each page in its place are a front there
abbrev pub ShowsFronts : Seen → PortState → Type 0
ShowsFronts seen port = (page : ℕ) → IsSome (port.strokes page) → seen.front_at page (port.strokes page)

-- what is known of a page is what is known of it later, where nobody else lays strokes there
front_same : (old new : Option (List StrokeValue)) → Grows false old new → IsSome old → old ≡ new
front_same None new grows some = absurd (cc (some))
front_same (Some old) None grows some = absurd grows
front_same (Some old) (Some new) grows some = ap Some (sym grows)

pub part_read : (seen : Seen) (port : PortState) (name : StrokeName) (at len : ℕ) (bytes : List ℕ) → ShowsFronts seen port → ReadsNamed name at len port bytes
    → IsPartRead seen name at len bytes
part_read seen port name at len bytes fronts is = record {
  long = is.long;
  fronts = port.strokes;
  there = λ page here.
      let within = touched at (length bytes) page (subst (λ n. touches at n page ≡ true) (sym is.long) here) in
      fronts page (is.read.there page within.0 within.1);
  fresh = is.fresh;
  read = λ k less. is.read.bytes k (subst (λ n. k < n) (sym is.long) less);
}

-- a page that is fresh, or stale, is in its place
fresh_some : (name : StrokeName) (from to : ℕ) (o : Option (List StrokeValue)) → IsFresh name from to o → IsSome o
fresh_some name from to None is = absurd is
fresh_some name from to (Some strokes) is = refl

stale_some : (name : StrokeName) (from to : ℕ) (found : Option StrokeName) (o : Option (List StrokeValue)) → IsStale name from to found o → IsSome o
stale_some name from to found None is = absurd is
stale_some name from to found (Some strokes) is = refl

pub part_stale : (seen : Seen) (port : PortState) (name : StrokeName) (at len page : ℕ) (found : Option StrokeName) → ShowsFronts seen port → FindsStale name port at len page found
    → IsPartStale seen name at len page
part_stale seen port name at len page found fronts is = record {
  fronts = port.strokes;
  there = λ p here le. fronts p (some p (touched at len p here).0 le (nat_lt p page) refl);
  found = found;
  first = is.first;
}
  where
    some : (p : ℕ) → first_page at ≤ p → p ≤ page → (b : Bool) → nat_lt p page ≡ b → IsSome (port.strokes p)
    some p from le true e = fresh_some name (from_place at p) (to_place at len p) (port.strokes p) (is.first.before p from (grind (arith, nat_tests, e)))
    some p from le false e =
        let same : page ≡ p = grind (arith, nat_tests, e, le) in
        subst (λ n. IsSome (port.strokes n)) same (stale_some name (from_place at page) (to_place at len page) found (port.strokes page) is.first.stale)

-- both parts of a longer range
both_read : (seen : Seen) (shared : Bool) (name : StrokeName) (range : DataRange) (old new : PortState) (bytes : List ℕ)
    → ((port : PortState) → Learns shared port new → ShowsFronts seen port) → ShowsFronts seen new → ReadsBoth name shared range old new bytes → AreBothRead seen name range bytes
both_read seen shared name range old new bytes earlier fronts is = (
  part_read seen is.middle name range.at PART_BYTES (take PART_BYTES bytes) (earlier is.middle is.after.strokes) is.first,
  part_read seen new name (range.at + PART_BYTES) (range.len - PART_BYTES) (drop PART_BYTES bytes) fronts is.second,
)

pub all_read : (seen : Seen) (shared : Bool) (name : StrokeName) (range : DataRange) (old new : PortState) (bytes : List ℕ)
    → ((port : PortState) → Learns shared port new → ShowsFronts seen port) → ShowsFronts seen new → GivesData name shared range old new bytes → AreAllRead seen name range bytes
all_read seen shared name range old new bytes earlier fronts = at (range.len == 0) (nat_le range.len PART_BYTES)
  where
    at : (b c : Bool) → MatchBool b ((bytes ≡ []) × (new ≡ old)) (MatchBool c (ReadsNamed name range.at range.len new bytes) (ReadsBoth name shared range old new bytes))
        → MatchBool b (bytes ≡ []) (MatchBool c (IsPartRead seen name range.at range.len bytes) (AreBothRead seen name range bytes))
    at true c is = is.0
    at false true is = part_read seen new name range.at range.len bytes fronts is
    at false false is = both_read seen shared name range old new bytes earlier fronts is

-- as many bytes are given as the range has
pub all_long : (name : StrokeName) (shared : Bool) (range : DataRange) (old new : PortState) (bytes : List ℕ) → GivesData name shared range old new bytes → length bytes ≡ range.len
all_long name shared range old new bytes = at (range.len == 0) (nat_le range.len PART_BYTES) refl refl
  where
    at : (b c : Bool) → (range.len == 0) ≡ b → nat_le range.len PART_BYTES ≡ c
        → MatchBool b ((bytes ≡ []) × (new ≡ old)) (MatchBool c (ReadsNamed name range.at range.len new bytes) (ReadsBoth name shared range old new bytes)) → length bytes ≡ range.len
    at true c e f is =
        let none : range.len ≡ 0 = grind (arith, nat_tests, e) in
        ap length is.0 ∙ sym none
    at false true e f is = is.long
    at false false e f is =
        let more : PART_BYTES < range.len = grind (arith, nat_tests, f) in
        let rest : length bytes - PART_BYTES ≡ range.len - PART_BYTES = sym (length-drop PART_BYTES bytes) ∙ is.second.long in
        omega (arith, more, rest)

-- the page of a range that is stale
pub range_stale : (seen : Seen) (shared : Bool) (name : StrokeName) (range : DataRange) (old new : PortState) (page : ℕ) → ShowsFronts seen new
    → WhyNotRead name shared range old new (faults.Stale page) → IsDataStale seen name range page
range_stale seen shared name range old new page fronts (inl why) = inl (part_stale seen new name range.at (min range.len PART_BYTES) page why.0 fronts why.1)
range_stale seen shared name range old new page fronts (inr later) = inr (record {
  long = later.long;
  stale = part_stale seen new name (range.at + PART_BYTES) (range.len - PART_BYTES) page later.why_not.0 fronts later.why_not.1;
})

-- what is there at a window has what is known of its pages, and what was known of them before
pub fronts_there : (shared : Bool) (port : PortState) (end : EndState) → ShowsFronts (seen_by shared port end) port
fronts_there shared port end page some = (refl, some)

fronts_earlier : (shared learned : Bool) (new : PortState) (end : EndState) (port : PortState) → learned ≡ false → Learns learned port new → ShowsFronts (seen_by shared new end) port
fronts_earlier shared learned new end port alone learns page some =
    (front_same (port.strokes page) (new.strokes page) (subst (λ b. Grows b (port.strokes page) (new.strokes page)) alone (learns page)) some, some)

-- what a line says of data that are kept
pub told_read : (client : ClientState) (tag : ℕ) (shared own_shared : Bool) (old new : PortState) (end : EndState) (bytes : List ℕ) (len total : ℕ) → own_shared ≡ false
    → (data_range client tag ≡ None → ⊥) → IfSome (data_range client tag) (λ range. GivesData (name_of client tag) own_shared range old new bytes) → len ≡ length bytes → total ≡ sum bytes
    → StepReads (seen_by shared new end) client (verbs.Data tag) (steps.Ends (outcomes.Data len total))
told_read client tag shared own_shared old new end bytes len total alone some given long adds = at (data_range client tag) some given
  where
    at : (o : Option DataRange) → (o ≡ None → ⊥) → IfSome o (λ range. GivesData (name_of client tag) own_shared range old new bytes)
        → MatchOption o ⊥ (λ range. IsDataRead (seen_by shared new end) (name_of client tag) range len total)
    at None some given = some refl
    at (Some range) some given = record {
      bytes = bytes;
      len_is = long;
      in_range = long ∙ all_long (name_of client tag) own_shared range old new bytes given;
      total_is = adds;
      read = all_read (seen_by shared new end) own_shared (name_of client tag) range old new bytes (λ port learns. fronts_earlier shared own_shared new end port alone learns) (fronts_there shared new end) given;
    }

pub told_stale : (client : ClientState) (tag : ℕ) (shared own_shared : Bool) (old new : PortState) (end : EndState) (page : ℕ) → (data_range client tag ≡ None → ⊥)
    → WhyNoData (name_of client tag) own_shared (data_range client tag) old new (faults.Stale page)
    → StepReads (seen_by shared new end) client (verbs.Data tag) (steps.Ends (outcomes.Stale page))
told_stale client tag shared own_shared old new end page some = at (data_range client tag) some
  where
    at : (o : Option DataRange) → (o ≡ None → ⊥) → WhyNoData (name_of client tag) own_shared o old new (faults.Stale page)
        → MatchOption o ⊥ (λ range. IsDataStale (seen_by shared new end) (name_of client tag) range page)
    at None some why = some refl
    at (Some range) some why = range_stale (seen_by shared new end) own_shared (name_of client tag) range old new page (fronts_there shared new end) why

pub told_unknown : (seen : Seen) (client : ClientState) (tag : ℕ) → StepReads seen client (verbs.Data tag) (steps.Ends outcomes.Unknown)
told_unknown seen client tag = at (data_range client tag)
  where
    at : (o : Option DataRange) → MatchOption o ⊤ (λ range. IsDataTold seen (name_of client tag) range outcomes.Unknown)
    at None = tt
    at (Some range) = tt

-- data that are kept are not more than a command may have
transferred_least : (len : ℕ) (said : DataIn) → transferred len said ≤ len
transferred_least len said = at (bit_and said.flags RSPVALID == 0) (bit_and said.flags DIUNDER == 0)
  where
    at : (b c : Bool) → cond b (cond c len (len - said.in_residual)) len ≤ len
    at true true = omega arith
    at true false = omega arith
    at false c = omega arith

row_few : (pages : ℕ) (row : Row) (range : DataRange) → FitsRow pages row → data_of_row row ≡ Some range → range.len ≤ MAX_DATA_LEN
row_few pages (rows.Command dirs.In at len (Some said)) range fits is =
    let same : range ≡ record { at = at; len = transferred len said } = some_is range (record { at = at; len = transferred len said }) (sym is) in
    let least = transferred_least len said in
    subst (λ (r : DataRange). r.len ≤ MAX_DATA_LEN) (sym same) (omega (arith, least, fits.1))
row_few pages (rows.Command dirs.In at len None) range fits is = absurd (cc)
row_few pages (rows.Command dirs.Out at len said) range fits is = absurd (cc)
row_few pages (rows.Command dirs.Neither at len said) range fits is = absurd (cc)
row_few pages rows.Login range fits is = absurd (cc)
row_few pages rows.Logout range fits is = absurd (cc)
row_few pages rows.Task range fits is = absurd (cc)

pub data_few : (pages tag : ℕ) (client : ClientState) (range : DataRange) → FitRows pages client → data_range client tag ≡ Some range → range.len ≤ MAX_DATA_LEN
data_few pages tag client range fits = at (nat_le 1 tag)
  where
    row : Row
    row = slice_index_or client.rows (tag - 1) rows.Login

    fit : (b : Bool) → nat_lt (tag - 1) (length client.rows) ≡ b → FitsRow pages row
    fit true is = All-get_or (FitsRow pages) client.rows (tag - 1) rows.Login (grind (arith, nat_tests, is)) fits.1
    fit false is = subst (FitsRow pages) (sym (get_or_past client.rows (tag - 1) rows.Login (grind (arith, nat_tests, is)))) tt

    at : (b : Bool) → cond b (data_of_row row) None ≡ Some range → range.len ≤ MAX_DATA_LEN
    at true is = row_few pages row range (fit (nat_lt (tag - 1) (length client.rows)) refl) is
    at false is = absurd (cc)

-- so many bytes were given
pub given_few : (pages tag : ℕ) (client : ClientState) (shared : Bool) (old new : PortState) (bytes : List ℕ) → FitRows pages client → (data_range client tag ≡ None → ⊥)
    → IfSome (data_range client tag) (λ range. GivesData (name_of client tag) shared range old new bytes) → length bytes ≤ MAX_DATA_LEN
given_few pages tag client shared old new bytes fits some = at (data_range client tag) refl
  where
    at : (o : Option DataRange) → data_range client tag ≡ o → IfSome o (λ range. GivesData (name_of client tag) shared range old new bytes) → length bytes ≤ MAX_DATA_LEN
    at None is given = absurd (some is)
    at (Some range) is given =
        subst (λ n. n ≤ MAX_DATA_LEN) (sym (all_long (name_of client tag) shared range old new bytes given)) (data_few pages tag client range fits is)
