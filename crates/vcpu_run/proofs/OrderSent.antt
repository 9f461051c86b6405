-- The entries of a client's requests stand in the order of its records, as its records and its server unit's queue grow.
use Rattle.std.proofs.Common.{◌≡◌, ◌∙◌, ℕ, ◌≤◌, ◌==◌, ◌&&◌, Bool, true, false, cond, filter, map, List, [], ◌∷◌, ◌++◌, Option, Some, None, Ok, MatchBool, MatchOption, length, refl, sym, ap, subst, arith, slice_get, append-nil, append_assoc}
use Rattle.std.proofs.lemmas.Bool.{eqb-true}
use Rattle.std.proofs.lemmas.Bool.Decides.{nat_tests}
use Rattle.vio_num.specs.Entry.{srp_entry}
use Rattle.vio_num.specs.declared.entry.Entry.{Entry}
use Rattle.vio_num.specs.declared.names.UnitId.{UnitId}
use Rattle.crq_ring.specs.declared.rows.PipeRow.{PipeRow}
use Rattle.crq_session.specs.PlainState.{side_of}
use Rattle.boot_text.specs.declared.plan.Line.{Line}
use Rattle.boot_text.specs.declared.verb.Verb.{Verb}
use Rattle.vio_trace.specs.declared.outcome.Outcome.{Outcome}
use Rattle.vio_trace.specs.declared.outcome.Outcome.TheVariants as outcomes
use Rattle.vio_trace.specs.declared.rows.LogRow.{LogRow}
use Rattle.vscsi_client.specs.Units.{slot_address}
use Rattle.unit_region.specs.declared.step.Step.TheVariants as steps
use Rattle.vcpu_run.specs.declared.pair.Pair.{Pair}
use Rattle.vcpu_run.specs.declared.script.Script.{Script}
use Rattle.vcpu_run.specs.DropsShown.{IsFullAt, LinesFull, PairShowsLine}
use Rattle.vcpu_run.specs.ShutShown.{HadEnd, LinesShut, SaysShut}
use Rattle.vcpu_run.proofs.ShutKept.{had_on, lines_shut_more, lines_shut_next}
use Rattle.vcpu_run.specs.LinesShow.{IsSent, IsSentIf, LinesShow, PairPutsOne, PairShows, RegionShows, Seen, Sees, read_by, requests, seen_at, seen_between, written_by}
use Rattle.vcpu_run.specs.ScriptTold.{PairShown, PutsMore}
use Rattle.vcpu_run.specs.SentOrder.{AreSentIn, IsNextSent, entries_begun, entries_put, is_begun, said_tag, tag_sent, with_entry}
use Rattle.vcpu_run.proofs.Driving.{some_is}
use Rattle.vcpu_run.proofs.DropsKept.{full_on, lines_full_more, lines_full_next}
use Rattle.vcpu_run.proofs.LinesShown.{between_sees, lines_more, lines_next, sent_more, shown_more}

-- more is there, and more entries stand behind
with_sees : (a b : Seen) (entry : Entry) → Sees a b → Sees (with_entry a entry) (with_entry b entry)
with_sees a b entry more = record { strokes = more.strokes; fronts = more.fronts; values = more.values; entries = λ other is. is }

next_more : (a b : Seen) (who : UnitId) (mark : ℕ) (verb : Verb) (tag : ℕ) (entries behind later : List Entry) → Sees a b → IsNextSent a who mark verb tag entries behind
    → IsNextSent b who mark verb tag (entries ++ later) (behind ++ later)
next_more a b who mark verb tag entries behind later more is = record {
  front = is.front;
  entry = is.entry;
  split = ap (λ (list : List Entry). list ++ later) is.split ∙ append_assoc is.front (is.entry ∷ behind) later;
  sent = sent_more (with_entry a is.entry) (with_entry b is.entry) (with_sees a b is.entry more) who mark verb tag is.sent;
}

pub order_more : (a b : Seen) (who : UnitId) (unit : ℕ) (lines : List Line) (rows : List LogRow) (entries later : List Entry) → Sees a b → AreSentIn a who unit lines rows entries
    → AreSentIn b who unit lines rows (entries ++ later)
order_more a b who unit [] rows entries later more is = tt
order_more a b who unit (line ∷ lines) [] entries later more is = tt
order_more a b who unit (line ∷ lines) (row ∷ rows) entries later more is =
    at (order_more a b who unit lines rows entries later more) (λ behind. order_more a b who unit lines rows behind later more) (tag_sent unit line row) is
  where
    at : (AreSentIn a who unit lines rows entries → AreSentIn b who unit lines rows (entries ++ later))
        → ((behind : List Entry) → AreSentIn a who unit lines rows behind → AreSentIn b who unit lines rows (behind ++ later)) → (o : Option ℕ)
        → MatchOption o (AreSentIn a who unit lines rows entries) (λ tag. (behind : List Entry) × IsNextSent a who line.number line.verb tag entries behind × AreSentIn a who unit lines rows behind)
        → MatchOption o (AreSentIn b who unit lines rows (entries ++ later))
        (λ tag. (behind : List Entry) × IsNextSent b who line.number line.verb tag (entries ++ later) behind × AreSentIn b who unit lines rows behind)
    at here next None h = here h
    at here next (Some tag) h = (h.0 ++ later, next_more a b who line.number line.verb tag entries h.0 later more h.1, next h.0 h.2)

pub order_seen : (a b : Seen) (who : UnitId) (unit : ℕ) (lines : List Line) (rows : List LogRow) (entries : List Entry) → Sees a b → AreSentIn a who unit lines rows entries
    → AreSentIn b who unit lines rows entries
order_seen a b who unit lines rows entries more is = subst (AreSentIn b who unit lines rows) (append-nil entries) (order_more a b who unit lines rows entries [] more is)

pub order_none : (a : Seen) (who : UnitId) (unit : ℕ) (lines : List Line) (rows : List LogRow) (entries : List Entry) (line : Line) (row : LogRow) → slice_get lines (length rows) ≡ Some line
    → tag_sent unit line row ≡ None → AreSentIn a who unit lines rows entries → AreSentIn a who unit lines (rows ++ row ∷ []) entries
order_none a who unit [] rows entries line row found none is = tt
order_none a who unit (first ∷ lines) [] entries line row found none is =
    let same : tag_sent unit first row ≡ None = subst (λ (l : Line). tag_sent unit l row ≡ None) (sym (some_is first line found)) none in
    subst (λ (o : Option ℕ). MatchOption o (AreSentIn a who unit lines [] entries) (λ tag. (behind : List Entry) × IsNextSent a who first.number first.verb tag entries behind × AreSentIn a who unit lines [] behind))
    (sym same) (ended lines)
  where
    ended : (ls : List Line) → AreSentIn a who unit ls [] entries
    ended [] = tt
    ended (l ∷ ls) = tt
order_none a who unit (first ∷ lines) (r ∷ rows) entries line row found none is =
    at (order_none a who unit lines rows entries line row found none) (λ behind. order_none a who unit lines rows behind line row found none) (tag_sent unit first r) is
  where
    at : (AreSentIn a who unit lines rows entries → AreSentIn a who unit lines (rows ++ row ∷ []) entries)
        → ((behind : List Entry) → AreSentIn a who unit lines rows behind → AreSentIn a who unit lines (rows ++ row ∷ []) behind) → (o : Option ℕ)
        → MatchOption o (AreSentIn a who unit lines rows entries) (λ tag. (behind : List Entry) × IsNextSent a who first.number first.verb tag entries behind × AreSentIn a who unit lines rows behind)
        → MatchOption o (AreSentIn a who unit lines (rows ++ row ∷ []) entries)
        (λ tag. (behind : List Entry) × IsNextSent a who first.number first.verb tag entries behind × AreSentIn a who unit lines (rows ++ row ∷ []) behind)
    at here next None h = here h
    at here next (Some tag) h = (h.0, h.1, next h.0 h.2)

pub order_one : (a : Seen) (who : UnitId) (unit : ℕ) (lines : List Line) (rows : List LogRow) (entries : List Entry) (line : Line) (row : LogRow) (tag : ℕ) (entry : Entry)
    → slice_get lines (length rows) ≡ Some line → tag_sent unit line row ≡ Some tag → IsSent (with_entry a entry) who line.number line.verb tag → AreSentIn a who unit lines rows entries
    → AreSentIn a who unit lines (rows ++ row ∷ []) (entries ++ entry ∷ [])
order_one a who unit [] rows entries line row tag entry found some sent is = tt
order_one a who unit (first ∷ lines) [] entries line row tag entry found some sent is =
    let same : first ≡ line = some_is first line found in
    let here : tag_sent unit first row ≡ Some tag = subst (λ (l : Line). tag_sent unit l row ≡ Some tag) (sym same) some in
    subst (λ (o : Option ℕ). MatchOption o (AreSentIn a who unit lines [] (entries ++ entry ∷ []))
    (λ t. (behind : List Entry) × IsNextSent a who first.number first.verb t (entries ++ entry ∷ []) behind × AreSentIn a who unit lines [] behind)) (sym here)
    ([], record { front = entries; entry = entry; split = refl; sent = subst (λ (l : Line). IsSent (with_entry a entry) who l.number l.verb tag) (sym same) sent }, ended lines)
  where
    ended : (ls : List Line) → AreSentIn a who unit ls [] []
    ended [] = tt
    ended (l ∷ ls) = tt
order_one a who unit (first ∷ lines) (r ∷ rows) entries line row tag entry found some sent is =
    at (order_one a who unit lines rows entries line row tag entry found some sent) (λ behind. order_one a who unit lines rows behind line row tag entry found some sent) (tag_sent unit first r) is
  where
    same : (s : Seen) → Sees s s
    same s = record { strokes = λ page stroke is. is; fronts = λ page front is. is; values = λ e value is. is; entries = λ e is. is }

    at : (AreSentIn a who unit lines rows entries → AreSentIn a who unit lines (rows ++ row ∷ []) (entries ++ entry ∷ []))
        → ((behind : List Entry) → AreSentIn a who unit lines rows behind → AreSentIn a who unit lines (rows ++ row ∷ []) (behind ++ entry ∷ [])) → (o : Option ℕ)
        → MatchOption o (AreSentIn a who unit lines rows entries) (λ t. (behind : List Entry) × IsNextSent a who first.number first.verb t entries behind × AreSentIn a who unit lines rows behind)
        → MatchOption o (AreSentIn a who unit lines (rows ++ row ∷ []) (entries ++ entry ∷ []))
        (λ t. (behind : List Entry) × IsNextSent a who first.number first.verb t (entries ++ entry ∷ []) behind × AreSentIn a who unit lines (rows ++ row ∷ []) behind)
    at here next None h = here h
    at here next (Some t) h = (h.0 ++ entry ∷ [], next_more a a who first.number first.verb t entries h.0 (entry ∷ []) (same a) h.1, next h.0 h.2)

pub order_begun : (a : Seen) (who : UnitId) (unit : ℕ) (lines : List Line) (entries : List Entry) → AreSentIn a who unit lines [] entries
order_begun a who unit [] entries = tt
order_begun a who unit (line ∷ lines) entries = tt

-- the entries of rows, behind those of others
begun_more : (xs ys : List PipeRow) → entries_begun (xs ++ ys) ≡ entries_begun xs ++ entries_begun ys
begun_more [] ys = refl
begun_more (x ∷ xs) ys = at (is_begun x) (begun_more xs ys)
  where
    entry : PipeRow → Entry
    entry row = row.entry

    at : (b : Bool) → entries_begun (xs ++ ys) ≡ entries_begun xs ++ entries_begun ys
        → map entry (cond b (x ∷ filter is_begun (xs ++ ys)) (filter is_begun (xs ++ ys))) ≡ map entry (cond b (x ∷ filter is_begun xs) (filter is_begun xs)) ++ entries_begun ys
    at true rest = ap (λ (list : List Entry). x.entry ∷ list) rest
    at false rest = rest

pub put_more : (old new : Pair) → PutsMore old new → (more : List Entry) × (entries_put new ≡ entries_put old ++ more)
put_more old new is = (entries_begun is.0, ap entries_begun is.1 ∙ begun_more (side_of old.link true).queue.sent is.0)

one_begun : (row : PipeRow) → 1 ≤ row.session → entries_begun (row ∷ []) ≡ row.entry ∷ []
one_begun row from = ap (λ b. map (λ (r : PipeRow). r.entry) (cond b (row ∷ []) [])) test
  where
    test : is_begun row ≡ true
    test = grind (arith, nat_tests, from)

pub put_one : (old new : Pair) (entry : Entry) → PairPutsOne old new entry → entries_put new ≡ entries_put old ++ entry ∷ []
put_one old new entry is =
    ap entries_begun is.sent
    ∙ (begun_more (side_of old.link true).queue.sent (is.row ∷ [])
    ∙ ap (λ (list : List Entry). entries_put old ++ list) (one_begun is.row is.begun ∙ ap (λ (e : Entry). e ∷ []) is.entry_is))

-- which record says that a request was sent
said_sent : (outcome : Outcome) (tag : ℕ) → said_tag outcome ≡ Some tag → outcome ≡ outcomes.Sent tag
said_sent (outcomes.Granted credits) tag e = absurd (cc (e))
said_sent (outcomes.Sent other) tag e = ap outcomes.Sent (some_is other tag e)
said_sent (outcomes.Took count) tag e = absurd (cc (e))
said_sent outcomes.Lost tag e = absurd (cc (e))
said_sent (outcomes.TookThenLost count) tag e = absurd (cc (e))
said_sent (outcomes.Rejected reason) tag e = absurd (cc (e))
said_sent outcomes.Unanswered tag e = absurd (cc (e))
said_sent outcomes.Range tag e = absurd (cc (e))
said_sent outcomes.NotLoggedIn tag e = absurd (cc (e))
said_sent (outcomes.NoCredit limit) tag e = absurd (cc (e))
said_sent (outcomes.Overlap other) tag e = absurd (cc (e))
said_sent outcomes.Closed tag e = absurd (cc (e))
said_sent (outcomes.Dropped number held) tag e = absurd (cc (e))
said_sent (outcomes.Data size total) tag e = absurd (cc (e))
said_sent (outcomes.Stale page) tag e = absurd (cc (e))
said_sent outcomes.Unknown tag e = absurd (cc (e))
said_sent (outcomes.Code code) tag e = absurd (cc (e))
said_sent (outcomes.Value value) tag e = absurd (cc (e))
said_sent (outcomes.Posted buffers code) tag e = absurd (cc (e))
said_sent (outcomes.Frame code number) tag e = absurd (cc (e))
said_sent outcomes.Done tag e = absurd (cc (e))
said_sent (outcomes.Bytes shown) tag e = absurd (cc (e))

record IsSaid (unit : ℕ) (line : Line) (row : LogRow) (tag : ℕ) : Type 0 where
  pub here : (line.unit == unit) ≡ true
  pub asked : requests line.verb ≡ true
  pub said : row.outcome ≡ outcomes.Sent tag

is_said : (unit : ℕ) (line : Line) (row : LogRow) (tag : ℕ) → tag_sent unit line row ≡ Some tag → IsSaid unit line row tag
is_said unit line row tag e = at (line.unit == unit) (requests line.verb) refl refl e
  where
    none : None ≡ Some tag → ⊥
    none h = cc

    at : (a b : Bool) → (line.unit == unit) ≡ a → requests line.verb ≡ b → cond (a && b) (said_tag row.outcome) None ≡ Some tag → IsSaid unit line row tag
    at true true here asked h = record { here = here; asked = asked; said = said_sent row.outcome tag h }
    at true false here asked h = absurd (none h)
    at false b here asked h = absurd (none h)

-- a step that sent a request put its entry
record PutsSent (old new : Pair) (who : UnitId) (mark : ℕ) (verb : Verb) (tag : ℕ) : Type 0 where
  pub entry : Entry
  pub put : entries_put new ≡ entries_put old ++ entry ∷ []
  pub sent : IsSent (with_entry (seen_at new) entry) who mark verb tag

one_sent : (old new : Pair) (who : UnitId) (mark : ℕ) (verb : Verb) (tag : ℕ) → IsSent (seen_between old new) who mark verb tag → PutsSent old new who mark verb tag
one_sent old new who mark verb tag is = record {
  entry = srp_entry (length is.bytes) (slot_address is.slot);
  put = put_one old new (srp_entry (length is.bytes) (slot_address is.slot)) is.entry;
  sent = record {
    slot = is.slot;
    within = is.within;
    iu = is.iu;
    of_line = is.of_line;
    bytes = is.bytes;
    canonical = is.canonical;
    written = is.written;
    entry = refl;
  };
}

-- a step that ended adds its record
pub order_next : (old new : Pair) (unit : ℕ) (lines : List Line) (rows : List LogRow) (line : Line) (row : LogRow) → slice_get lines (length rows) ≡ Some line → new.window.unit ≡ old.window.unit
    → Sees (seen_at old) (seen_at new) → PutsMore old new → ((line.unit == unit) ≡ true → PairShows line old new (Ok (steps.Ends row.outcome)))
    → AreSentIn (seen_at old) old.window.unit unit lines rows (entries_put old) → AreSentIn (seen_at new) new.window.unit unit lines (rows ++ row ∷ []) (entries_put new)
order_next old new unit lines rows line row found who sees more shows is = at (tag_sent unit line row) refl
  where
    id : UnitId
    id = new.window.unit

    was : AreSentIn (seen_at old) id unit lines rows (entries_put old)
    was = subst (λ (u : UnitId). AreSentIn (seen_at old) u unit lines rows (entries_put old)) (sym who) is

    now : (later : List Entry) → AreSentIn (seen_at new) id unit lines rows (entries_put old ++ later)
    now later = order_more (seen_at old) (seen_at new) id unit lines rows (entries_put old) later sees was

    sent : (tag : ℕ) → IsSaid unit line row tag → PutsSent old new id line.number line.verb tag
    sent tag said =
        let shown = shows said.here in
        let asked : IsSentIf (seen_between old new) id line.number line.verb row.outcome =
        subst (λ b. MatchBool b (IsSentIf (seen_between old new) id line.number line.verb row.outcome)
        (RegionShows (seen_between old new) id line.number (written_by line.verb) (read_by line.verb) row.outcome)) said.asked shown.0 in
        one_sent old new id line.number line.verb tag (subst (λ (o : Outcome). IsSentIf (seen_between old new) id line.number line.verb o) said.said asked)

    at : (o : Option ℕ) → tag_sent unit line row ≡ o → AreSentIn (seen_at new) id unit lines (rows ++ row ∷ []) (entries_put new)
    at None none =
        let grown = put_more old new more in
        subst (λ (list : List Entry). AreSentIn (seen_at new) id unit lines (rows ++ row ∷ []) list) (sym grown.1)
        (order_none (seen_at new) id unit lines rows (entries_put old ++ grown.0) line row found none (now grown.0))
    at (Some tag) some =
        let put = sent tag (is_said unit line row tag some) in
        subst (λ (list : List Entry). AreSentIn (seen_at new) id unit lines (rows ++ row ∷ []) list) (sym put.put)
        (order_one (seen_at new) id unit lines rows (entries_put old) line row tag put.entry found some put.sent
        (order_seen (seen_at old) (seen_at new) id unit lines rows (entries_put old) sees was))

-- what the lines of a unit show is there still, and its requests in their order
pub shown_on : (script : Script) (unit : ℕ) (old new : Pair) → new.window.unit ≡ old.window.unit → Sees (seen_at old) (seen_at new) → PutsMore old new → PairShown script unit old
    → PairShown script unit new
shown_on script unit old new who sees more is =
    let grown = put_more old new more in
    record {
      show = subst (λ (u : UnitId). LinesShow (seen_at new) u unit script.lines.now script.logs.items) (sym who)
          (lines_more (seen_at old) (seen_at new) old.window.unit unit script.lines.now script.logs.items sees is.show);
      order = subst (λ (u : UnitId). AreSentIn (seen_at new) u unit script.lines.now script.logs.items (entries_put new)) (sym who)
          (subst (λ (list : List Entry). AreSentIn (seen_at new) old.window.unit unit script.lines.now script.logs.items list) (sym grown.1)
          (order_more (seen_at old) (seen_at new) old.window.unit unit script.lines.now script.logs.items (entries_put old) grown.0 sees is.order));
      drops = lines_full_more (IsFullAt old) (IsFullAt new) unit script.lines.now script.logs.items (full_on old new more) is.drops;
      shut = lines_shut_more (HadEnd old.link) (HadEnd new.link) unit script.lines.now script.logs.items (had_on old.link new.link more.3) is.shut;
    }

-- and with what a line did that ended
pub one_shown : (script done : Script) (unit : ℕ) (old new : Pair) (line : Line) (row : LogRow) → slice_get script.lines.now script.at ≡ Some line → length script.logs.items ≡ script.at
    → done.lines ≡ script.lines → done.logs.items ≡ script.logs.items ++ row ∷ [] → new.window.unit ≡ old.window.unit → Sees (seen_at old) (seen_at new) → PutsMore old new
    → (line.unit ≡ unit → PairShowsLine line old new (Ok (steps.Ends row.outcome))) → (line.unit ≡ unit → SaysShut (HadEnd new.link) line.verb row.outcome) → PairShown script unit old
    → PairShown done unit new
one_shown script done unit old new line row found many lines logs who sees more last ends is =
    let here : slice_get script.lines.now (length script.logs.items) ≡ Some line = ap (slice_get script.lines.now) many ∙ found in
    let show : LinesShow (seen_at new) new.window.unit unit script.lines.now (script.logs.items ++ row ∷ []) =
    lines_next (seen_at new) new.window.unit unit script.lines.now script.logs.items line row here (shown_on script unit old new who sees more is).show
    (λ same. shown_more (seen_between old new) (seen_at new) (between_sees old new) new.window.unit line.number line.verb row.outcome (last same).0) in
    let order : AreSentIn (seen_at new) new.window.unit unit script.lines.now (script.logs.items ++ row ∷ []) (entries_put new) =
    order_next old new unit script.lines.now script.logs.items line row here who sees more (λ test. (last (eqb-true line.unit unit test)).0) is.order in
    let drops : LinesFull (IsFullAt new) unit script.lines.now (script.logs.items ++ row ∷ []) =
    lines_full_next (IsFullAt new) unit script.lines.now script.logs.items line row here (shown_on script unit old new who sees more is).drops (λ same. (last same).1) in
    let shut : LinesShut (HadEnd new.link) unit script.lines.now (script.logs.items ++ row ∷ []) =
    lines_shut_next (HadEnd new.link) unit script.lines.now script.logs.items line row here (shown_on script unit old new who sees more is).shut ends in
    record {
      show = subst (λ ls. LinesShow (seen_at new) new.window.unit unit ls.now done.logs.items) (sym lines)
          (subst (λ (rows : List LogRow). LinesShow (seen_at new) new.window.unit unit script.lines.now rows) (sym logs) show);
      order = subst (λ ls. AreSentIn (seen_at new) new.window.unit unit ls.now done.logs.items (entries_put new)) (sym lines)
          (subst (λ (rows : List LogRow). AreSentIn (seen_at new) new.window.unit unit script.lines.now rows (entries_put new)) (sym logs) order);
      drops = subst (λ ls. LinesFull (IsFullAt new) unit ls.now done.logs.items) (sym lines)
          (subst (λ (rows : List LogRow). LinesFull (IsFullAt new) unit script.lines.now rows) (sym logs) drops);
      shut = subst (λ ls. LinesShut (HadEnd new.link) unit ls.now done.logs.items) (sym lines)
          (subst (λ (rows : List LogRow). LinesShut (HadEnd new.link) unit script.lines.now rows) (sym logs) shut);
    }
