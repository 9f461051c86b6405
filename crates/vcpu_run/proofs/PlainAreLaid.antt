-- The answers that a plain client has yet to take were laid by its server unit: those of a client that talks with it, and what that leaves
-- where an answer is taken.
use Rattle.std.proofs.Common.{◌≡◌, ◌∙◌, ◌⊎◌, inl, inr, ℕ, ◌+◌, ◌/◌, ◌%◌, ◌<◌, ◌==◌, ◌++◌, All, Bool, true, false, Contains, cond, find, List, [], ◌∷◌, Option, Some, IsSome, IsSomeAnd, eqb-true, length, option_map, refl, sym, ap, subst, arith}
use Rattle.std.specs.Prelude.{⊤, IsTrue}
use Rattle.std.proofs.lemmas.List.Elements.{All-cons, All-contains, All-head, All-nil, All-tail, Contains-append_left}
use Rattle.vio_num.specs.declared.entry.Entry.{Entry}
use Rattle.vio_num.specs.declared.names.UnitId.{UnitId}
use Rattle.page_slots.specs.Stroke.{StrokeValue}
use Rattle.srp_iu.specs.Grammar.{Spells}
use Rattle.srp_iu.specs.Response.{CanonRsp, SpellsRsp}
use Rattle.srp_iu.specs.declared.response.Rsp.{Rsp as Response}
use Rattle.srp_iu.specs.declared.unit.Iu.{Iu}
use Rattle.srp_iu.specs.declared.unit.Iu.TheVariants as units
use Rattle.tce_window.specs.PortState.{OnlyReads, PortState}
use Rattle.tce_window.specs.Region.{ReadsRange, byte_in, in_region}
use Rattle.unit_region.specs.RegionLines.{IsOn}
use Rattle.block_server.specs.Talk.{Word, to_come}
use Rattle.vio_trace.specs.declared.rows.AnswerRow.{AnswerRow}
use Rattle.vscsi_client.specs.Slots.{AreIn, Holds}
use Rattle.vscsi_client.specs.State.{ClientState}
use Rattle.vscsi_client.specs.Taking.{Judges, TakesAs, slot_of, without_tag}
use Rattle.vscsi_client.specs.declared.answers.Taken.{Taken}
use Rattle.vscsi_client.specs.declared.answers.Taken.TheVariants.{Again, Answer, Empty, Lost, Other, Stray}
use Rattle.vscsi_client.specs.declared.outgoing.Outgoing.{Outgoing}
use Rattle.vcpu_run.specs.PlainNoted.{AreLaid, HasResponse, IsLaidAnswer, NotesLaid}
use Rattle.vcpu_run.specs.PlainTalk.{Ask, AskedParts, Between, HasAnswer, HaveAnswers, IsAnswerBy, IsAsk, IsOwnWindow, IsTalking, TagsRise, all_asked, client_ports, is_logout, login_name, name_of, names_of}
use Rattle.vcpu_run.specs.Takings.{Notes}
use Rattle.vcpu_run.proofs.LinesShown.{behind_first, contains_first, first_or, no_element}
use Rattle.vcpu_run.proofs.PlainJudged.{slot_read, spelled_tag}
use Rattle.vcpu_run.proofs.PlainNotes.{notes_same}
use Rattle.vcpu_run.proofs.PlainRejected.{response_move}
use Rattle.vcpu_run.proofs.PlainStays.{grown_same}

-- ---- of which request it is

-- A name of one of these is that of one of them.
record IsNameOf (asked : List Ask) (name : Outgoing) : Type 0 where
  ask : Ask
  there : Contains asked ask
  tag_is : ask.tag ≡ name.tag
  slot_is : ask.slot ≡ name.slot

name_in : (asked : List Ask) (name : Outgoing) → Contains (names_of asked) name → IsNameOf asked name
name_in [] name has = absurd (no_element name has)
name_in (first ∷ asked) name has = by (name_in asked name) (is_logout first.iu) has
  where
    behind : IsNameOf asked name → IsNameOf (first ∷ asked) name
    behind is = record { ask = is.ask; there = behind_first first is.ask asked is.there; tag_is = is.tag_is; slot_is = is.slot_is }

    or : (Contains (names_of asked) name → IsNameOf asked name) → (name_of first ≡ name) ⊎ Contains (names_of asked) name → IsNameOf (first ∷ asked) name
    or next (inl same) = record {
      ask = first;
      there = contains_first first asked;
      tag_is = ap (λ (o : Outgoing). o.tag) same;
      slot_is = ap (λ (o : Outgoing). o.slot) same;
    }
    or next (inr more) = behind (next more)

    by : (Contains (names_of asked) name → IsNameOf asked name) → (b : Bool) → Contains (cond b (names_of asked) (name_of first ∷ names_of asked)) name → IsNameOf (first ∷ asked) name
    by next true has = behind (next has)
    by next false has = or next (first_or (name_of first) name (names_of asked) has)

-- two of one tag have one slot
one_slot : (last : ℕ) (asked : List Ask) (a b : Ask) → TagsRise last asked → Contains asked a → Contains asked b → a.tag ≡ b.tag → a.slot ≡ b.slot
one_slot last [] a b rise there also same = absurd (no_element a there)
one_slot last (first ∷ asked) a b rise there also same = by (λ one other. one_slot last asked a b rise.2 one other same) (first_or first a asked there) (first_or first b asked also)
  where
    above : (ask : Ask) → Contains asked ask → first.tag < ask.tag
    above ask has = All-contains (λ (other : Ask). first.tag < other.tag) asked ask rise.1 has

    by : (Contains asked a → Contains asked b → a.slot ≡ b.slot) → (first ≡ a) ⊎ Contains asked a → (first ≡ b) ⊎ Contains asked b → a.slot ≡ b.slot
    by next (inl is) (inl also) = sym (ap (λ (ask : Ask). ask.slot) is) ∙ ap (λ (ask : Ask). ask.slot) also
    by next (inl is) (inr more) = absurd (omega (arith, above b more, ap (λ (ask : Ask). ask.tag) is, same))
    by next (inr more) (inl is) = absurd (omega (arith, above a more, ap (λ (ask : Ask). ask.tag) is, same))
    by next (inr more) (inr also) = next more also

-- An entry tells of the answer to one of these.
record IsTold (P : Iu → Type 0) (window : PortState) (asked : List Ask) (entry : Entry) : Type 0 where
  ask : Ask
  there : Contains asked ask
  answer : Iu
  has : HasAnswer window entry ask answer
  by : P answer

told_by : (P : Iu → Type 0) (window : PortState) (entries : List Entry) (asked : List Ask) (answers : List Iu) (entry : Entry) → HaveAnswers window entries asked answers → All P answers
    → Contains entries entry → IsTold P window asked entry
told_by P window [] asked answers entry have all there = absurd (no_element entry there)
told_by P window (first ∷ entries) [] answers entry have all there = absurd have
told_by P window (first ∷ entries) (ask ∷ asked) [] entry have all there = absurd have
told_by P window (first ∷ entries) (ask ∷ asked) (answer ∷ answers) entry have all there =
    or (told_by P window entries asked answers entry have.1 (All-tail P answer answers all)) (first_or first entry entries there)
  where
    or : (Contains entries entry → IsTold P window asked entry) → (first ≡ entry) ⊎ Contains entries entry → IsTold P window (ask ∷ asked) entry
    or next (inl same) = record {
      ask = ask;
      there = contains_first ask asked;
      answer = answer;
      has = subst (λ (e : Entry). HasAnswer window e ask answer) same have.0;
      by = All-head P answer answers all;
    }
    or next (inr more) =
        let is : IsTold P window asked entry = next more in
        record { ask = is.ask; there = behind_first ask is.ask asked is.there; answer = is.answer; has = is.has; by = is.by }

-- ---- the response

canon_same : (bytes laid : List ℕ) (r other : Response) → SpellsRsp bytes r → SpellsRsp bytes other → CanonRsp laid other → CanonRsp laid r
canon_same bytes laid r other a b is = record {
  spells = record {
    kind = is.spells.kind;
    full = is.spells.full;
    delta = a.delta ∙ sym b.delta ∙ is.spells.delta;
    tag = a.tag ∙ sym b.tag ∙ is.spells.tag;
    flags = a.flags ∙ sym b.flags ∙ is.spells.flags;
    status = a.status ∙ sym b.status ∙ is.spells.status;
    out_residual = a.out_residual ∙ sym b.out_residual ∙ is.spells.out_residual;
    in_residual = a.in_residual ∙ sym b.in_residual ∙ is.spells.in_residual;
    response = lines ∙ is.spells.response;
    sense = sense ∙ is.spells.sense;
  };
  exact = omega (arith, is.exact, ap length lines, ap length sense);
  from_1 = is.from_1;
  from_16 = is.from_16;
  sense_said = is.sense_said ∙ sym (ap length sense);
  response_said = is.response_said ∙ sym (ap length lines);
}
  where
    lines : r.response.items ≡ other.response.items
    lines = a.response ∙ sym b.response

    sense : r.sense.items ≡ other.sense.items
    sense = a.sense ∙ sym b.sense

-- bytes that spell both say the same of both
pub response_same : (own : UnitId) (strokes : ℕ → Option (List StrokeValue)) (bytes : List ℕ) (r other : Response) → Spells bytes (units.Rsp r) → Spells bytes (units.Rsp other)
    → HasResponse own other strokes → HasResponse own r strokes
response_same own strokes bytes r other a b is = record {
  page = is.page;
  within = is.within;
  stroke = is.stroke;
  there = is.there;
  other = is.other;
  begins = is.begins;
  mark_is = is.mark_is ∙ (b.unit.tag ∙ sym a.unit.tag);
  canonical = record { within = is.canonical.within; unit = canon_same bytes is.stroke.bytes r other a.unit b.unit is.canonical.unit };
}

-- ---- of a client that talks

pub talk_laid : (granted : ℕ) (at : Between) (words : List Word) (asked : AskedParts) (answers : List Iu) → IsOwnWindow at.window → IsTalking granted at words asked answers
    → AreLaid at.client at.window (at.client.kept ++ to_come at.own)
talk_laid granted at words asked answers own talk entry there name has named response tag holds =
    response_same at.window.place.unit at.window.strokes told.has.bytes response other.0 spelled (subst (Spells told.has.bytes) other.1 told.has.spelled)
    (subst (IsAnswerBy granted at.unit.id at.window) other.1 told.by)
  where
    told : IsTold (IsAnswerBy granted at.unit.id at.window) at.window asked.answered entry
    told = told_by (IsAnswerBy granted at.unit.id at.window) at.window (at.client.kept ++ to_come at.own) asked.answered answers entry talk.answered talk.login.grant there

    in_all : Contains (all_asked asked) told.ask
    in_all = Contains-append_left asked.answered (asked.pending ++ asked.coming) told.ask told.there

    is : IsNameOf (all_asked asked) name
    is = name_in (all_asked asked) name
        (subst (λ (names : List Outgoing). Contains names name) (sym talk.awaited) (Contains-append_left at.client.outgoing (login_name at.client.login) name has))

    slot_is : name.slot ≡ told.ask.slot
    slot_is = sym is.slot_is ∙ one_slot (length at.client.rows) (all_asked asked) is.ask told.ask talk.tags is.there in_all
        (is.tag_is ∙ named ∙ ap (λ (e : Entry). e.low) told.has.entry_is)

    is_ask : IsAsk told.ask
    is_ask = All-contains IsAsk (all_asked asked) told.ask talk.each in_all

    read : holds.bytes ≡ told.has.bytes
    read = slot_read at.window own told.ask.slot is_ask.slot_is told.has.bytes holds.bytes told.has.whole told.has.stand
        (subst (λ (slot : ℕ). AreIn at.window slot holds.bytes) slot_is holds.are)

    spelled : Spells told.has.bytes (units.Rsp response)
    spelled = subst (λ (list : List ℕ). Spells list (units.Rsp response)) read holds.spells

    other : (r : Response) × (told.answer ≡ units.Rsp r) × (r.tag ≡ response.tag)
    other = spelled_tag told.has.bytes response told.answer spelled told.has.spelled

-- ---- what stays so

-- What a window holds another one holds, whose strokes are the same.
reads_back : (old new : PortState) (at : ℕ) (out : List ℕ) → new.place.size ≡ old.place.size → ((p : ℕ) → new.strokes p ≡ old.strokes p)
    → ReadsRange new.strokes new.place.size at out → ReadsRange old.strokes old.place.size at out
reads_back old new at out size same reads = record {
  inside = subst (λ (n : ℕ). IsTrue (in_region n at (length out))) size reads.inside;
  there = λ p from below. subst IsSome (same p) (reads.there p from below);
  bytes = λ k below. reads.bytes k below ∙ ap (λ (page : Option (List StrokeValue)). byte_in page ((at + k) % 4096)) (same ((at + k) / 4096));
}

-- So it is of fewer entries and fewer requests, where the strokes are the same.
pub laid_fewer : (s s' : ClientState) (old new : PortState) (entries entries' : List Entry) → ((entry : Entry) → Contains entries' entry → Contains entries entry)
    → ((o : Outgoing) → Contains s'.outgoing o → Contains s.outgoing o) → new.place.unit ≡ old.place.unit → new.place.size ≡ old.place.size
    → ((p : ℕ) → new.strokes p ≡ old.strokes p) → AreLaid s old entries → AreLaid s' new entries'
laid_fewer s s' old new entries entries' fewer less unit size same laid entry there name has named response tag holds =
    response_move old.place.unit new.place.unit response old.strokes new.strokes unit (λ page stroke on. subst (IsOn stroke) (sym (same page)) on) is
  where
    is : HasResponse old.place.unit response old.strokes
    is = laid entry (fewer entry there) name (less name has) named response tag
        (record { bytes = holds.bytes; are = record { long = holds.are.long; read = reads_back old new _ holds.bytes size same holds.are.read }; spells = holds.spells })

pub laid_same : (s s' : ClientState) (old new : PortState) → s'.kept ≡ s.kept → s'.outgoing ≡ s.outgoing → new.place.unit ≡ old.place.unit → new.place.size ≡ old.place.size
    → ((p : ℕ) → new.strokes p ≡ old.strokes p) → AreLaid s old s.kept → AreLaid s' new s'.kept
laid_same s s' old new kept outgoing unit size same laid =
    laid_fewer s s' old new s.kept s'.kept (λ entry. subst (λ (list : List Entry). Contains list entry) kept)
    (λ o. subst (λ (list : List Outgoing). Contains list o) outgoing) unit size same laid

-- nor is there any entry
pub none_laid : (s : ClientState) (window : PortState) → s.kept ≡ [] → AreLaid s window s.kept
none_laid s window none entry there name has named response tag holds = absurd (no_element entry (subst (λ (list : List Entry). Contains list entry) none there))

-- a read leaves all strokes
pub laid_read : (s s' : ClientState) (old new : PortState) (entries entries' : List Entry) → OnlyReads false old new → ((entry : Entry) → Contains entries' entry → Contains entries entry)
    → ((o : Outgoing) → Contains s'.outgoing o → Contains s.outgoing o) → AreLaid s old entries → AreLaid s' new entries'
laid_read s s' old new entries entries' reads fewer less laid =
    laid_fewer s s' old new entries entries' fewer less (ap (λ place. place.unit) reads.place) (ap (λ place. place.size) reads.place)
    (λ p. grown_same (old.strokes p) (new.strokes p) (reads.strokes p)) laid

-- without a request there are fewer
pub without_fewer : (tag : ℕ) (outgoing : List Outgoing) (o : Outgoing) → Contains (without_tag tag outgoing) o → Contains outgoing o
without_fewer tag [] o has = has
without_fewer tag (first ∷ outgoing) o has = by (without_fewer tag outgoing o) (first.tag == tag) has
  where
    or : (Contains (without_tag tag outgoing) o → Contains outgoing o) → (first ≡ o) ⊎ Contains (without_tag tag outgoing) o → Contains (first ∷ outgoing) o
    or next (inl same) = subst (λ (one : Outgoing). Contains (first ∷ outgoing) one) same (contains_first first outgoing)
    or next (inr more) = behind_first first o outgoing (next more)

    by : (Contains (without_tag tag outgoing) o → Contains outgoing o) → (b : Bool) → Contains (cond b outgoing (first ∷ without_tag tag outgoing)) o → Contains (first ∷ outgoing) o
    by next true has = behind_first first o outgoing has
    by next false has = or next (first_or first o (without_tag tag outgoing) has)

-- ---- where it is taken

-- An answer that was taken was laid.
abbrev pub IsTakenLaid : Taken → PortState → Type 0
IsTakenLaid (Answer tag response) window = (response.tag ≡ tag) × HasResponse window.place.unit response window.strokes
IsTakenLaid taken window = ⊤

record SlotIn (tag : ℕ) (outgoing : List Outgoing) (P : ℕ → Type 0) : Type 0 where
  name : Outgoing
  there : Contains outgoing name
  tag_is : name.tag ≡ tag
  is : P name.slot

slot_in : (tag : ℕ) (outgoing : List Outgoing) (P : ℕ → Type 0) → IsSomeAnd (slot_of tag outgoing) P → SlotIn tag outgoing P
slot_in tag [] P is = absurd is
slot_in tag (first ∷ outgoing) P is = by (slot_in tag outgoing P) (first.tag == tag) refl is
  where
    by : (IsSomeAnd (slot_of tag outgoing) P → SlotIn tag outgoing P) → (b : Bool) → (first.tag == tag) ≡ b → IsSomeAnd (option_map (λ (o : Outgoing). o.slot) (cond b (Some first) (find (λ (o : Outgoing). o.tag == tag) outgoing))) P
        → SlotIn tag (first ∷ outgoing) P
    by next true same is = record { name = first; there = contains_first first outgoing; tag_is = eqb-true first.tag tag same; is = is }
    by next false other is =
        let more : SlotIn tag outgoing P = next is in
        record { name = more.name; there = behind_first first more.name outgoing more.there; tag_is = more.tag_is; is = more.is }

pub taken_laid : (s : ClientState) (old new : PortState) (entries : List Entry) (entry : Entry) (taken : Taken) → AreLaid s new entries → Contains entries entry
    → Judges false s.outgoing entry old new taken → IsTakenLaid taken new
taken_laid s old new entries entry (Answer tag response) laid there judged =
    let is : SlotIn tag s.outgoing (λ slot. Holds new slot (units.Rsp response)) = slot_in tag s.outgoing (λ slot. Holds new slot (units.Rsp response)) judged.2 in
    (judged.1, laid entry there is.name is.there (is.tag_is ∙ sym judged.0.tag_is) response (judged.1 ∙ sym judged.0.tag_is) is.is)
taken_laid s old new entries entry (Stray tag) laid there judged = tt
taken_laid s old new entries entry Lost laid there judged = tt
taken_laid s old new entries entry Other laid there judged = tt
taken_laid s old new entries entry (Again page word) laid there judged = tt
taken_laid s old new entries entry (Empty number) laid there judged = tt

-- That of an entry that a client took is among these.
pub takes_laid : (at at' : Between) (taken : Taken) (entries : List Entry) → AreLaid at.client at.window entries → (takes : TakesAs at.client at'.client (client_ports at) (client_ports at') taken)
    → Contains entries takes.fetched.entry → OnlyReads false at.window at'.window → IsTakenLaid taken at'.window
takes_laid at at' taken entries laid takes there reads =
    taken_laid takes.kept at.window at'.window entries takes.judged.entry taken
    (laid_read at.client takes.kept at.window at'.window entries entries reads (λ entry has. has)
    (λ o. subst (λ (list : List Outgoing). Contains list o) (ap (λ (s : ClientState). s.outgoing) takes.fetched.client)) laid)
    (subst (λ (entry : Entry). Contains entries entry) (heads takes.fetched.entry takes.judged.entry takes.fetched.rest takes.judged.rest
    (sym (ap (λ (s : ClientState). s.kept) takes.fetched.client) ∙ takes.judged.first)) there) takes.judged.judged
  where
    heads : (a b : Entry) (xs ys : List Entry) → a ∷ xs ≡ b ∷ ys → a ≡ b
    heads a b xs ys e = cc (e)

-- ---- where it is noted

-- an answer that was taken was noted, and nothing else
abbrev pub IsNotedAs : Taken → (old new : List AnswerRow) → Type 0
IsNotedAs (Answer tag response) old new = Notes tag response old new
IsNotedAs taken old new = new ≡ old

pub noted_laid : (taken : Taken) (window : PortState) (old new : List AnswerRow) → IsTakenLaid taken window → IsNotedAs taken old new → NotesLaid window.place.unit window.strokes old new
noted_laid (Answer tag response) window old new laid notes = record {
  rows = notes.row ∷ [];
  more = notes.rows;
  laid = All-cons (IsLaidAnswer window.place.unit window.strokes) notes.row [] (record {
    response = response;
    tag_is = laid.0 ∙ sym notes.tag_is;
    canonical = notes.canonical;
    laid = laid.1;
  }) (All-nil (IsLaidAnswer window.place.unit window.strokes));
}
noted_laid (Stray tag) window old new laid same = notes_same window.place.unit window.strokes old new same
noted_laid Lost window old new laid same = notes_same window.place.unit window.strokes old new same
noted_laid Other window old new laid same = notes_same window.place.unit window.strokes old new same
noted_laid (Again page word) window old new laid same = notes_same window.place.unit window.strokes old new same
noted_laid (Empty number) window old new laid same = notes_same window.place.unit window.strokes old new same
