-- What a turn lays in its client's window, and which answer it leaves there.
use Rattle.std.proofs.Common.{◌≡◌, ◌≢◌, ◌⊎◌, inl, inr, ◌+◌, ◌≤◌, ℕ, Bool, false, cond, List, [], ◌∷◌, ◌++◌, Option, Some, None, Result, Ok, Err, OnOk, length, map, refl, slice_get, sym, ◌∙◌, ap, subst}
use Rattle.std.proofs.lemmas.List.{map-append}
use Rattle.tce_window.specs.PortState.{PortState}
use Rattle.crq_session.specs.Answered.{taken_now}
use Rattle.crq_session.specs.EndState.{EndState}
use Rattle.vio_num.specs.declared.history.Grant.{Grant}
use Rattle.vio_num.specs.declared.memory.NoMemory.{NoMemory}
use Rattle.vio_num.specs.declared.history.Served.{Served}
use Rattle.vio_num.specs.declared.names.UnitId.{UnitId}
use Rattle.page_slots.specs.declared.stroke.StrokeName.{StrokeName}
use Rattle.srp_iu.specs.declared.buffer.Desc.{Desc}
use Rattle.block_server.specs.Bearing.{BearsWithin, IsOfQuestion, NamesData, Question, question_of}
use Rattle.block_server.specs.Causes.{Hearing, Includes}
use Rattle.block_server.specs.Ranges.{IsDataIn, Known, LaysIn, MayWrite, WritesOn, client_known, known_in}
use Rattle.block_server.specs.RowsOn.{KeepsIdleRows}
use Rattle.block_server.specs.SiteState.{SiteState}
use Rattle.block_server.specs.Standing.{LeavesAnswer, LeavesOn, stood}
use Rattle.block_server.specs.Talk.{FitOneTurn, HasHeard, HearsAll, HearsOne, IsListening, IsServable, IsTurnReady, Reach, Replies, StaysKnown, Talk, Word, reach_of, replies, talk_of}
use Rattle.block_server.specs.Talk.Word.{asks, begins, gone}
use Rattle.block_server.specs.declared.request.Order.{Order}
use Rattle.block_server.specs.declared.request.Order.TheVariants as orders
use Rattle.block_server.specs.declared.request.Request.{Request}
use Rattle.block_server.specs.declared.service.Stage.TheVariants as stages
use Rattle.block_server.specs.declared.unit.Unit.{Unit}
use Rattle.block_server.proofs.Bearing.{bears_wider}
use Rattle.block_server.proofs.Denying.{named_map}
use Rattle.block_server.proofs.Listening.{heard_on}
use Rattle.block_server.proofs.Stood.{stood_known}
use Rattle.block_server.proofs.Talks.{heard_still, may_known, ready_on, slots_left}

-- WHAT WAS HEARD ---------------------------------------------------------------------------------

-- the login that is on, how many requests it grants, and what is pending
abbrev view_of : Talk → ℕ × ℕ × List Question
view_of talk = (talk.current, talk.granted, map question_of talk.pending)

-- the same words leave requests pending that came at the same addresses and ask the same
alike_one : (a b a' b' : Talk) (number : ℕ) (word : Word) → view_of a ≡ view_of b → HearsOne a number word a' → HearsOne b number word b' → view_of a' ≡ view_of b'
alike_one a b a' b' number begins same is is' = ap view_of is ∙ same ∙ sym (ap view_of is')
alike_one a b a' b' number gone same is is' = λ i. (
  (is.loses.current ∙ sym is'.loses.current) i,
  (is.loses.granted ∙ ap (λ (v : ℕ × ℕ × List Question). v.1) same ∙ sym is'.loses.granted) i,
  (ap (λ (l : List Request). map question_of l) is.loses.pending ∙ sym (ap (λ (l : List Request). map question_of l) is'.loses.pending)) i,
)
alike_one a b a' b' number (asks address bytes iu) same is is' = λ i. (
  (is.current ∙ ap (λ (v : ℕ × ℕ × List Question). v.0) same ∙ sym is'.current) i,
  (is.granted ∙ ap (λ (v : ℕ × ℕ × List Question). v.1) same ∙ sym is'.granted) i,
  pending i,
)
  where
    one : question_of is.request ≡ question_of is'.request
    one = λ i. record {
      address = (is.is.address_is ∙ sym is'.is.address_is) i;
      tag = (is.is.tag_is ∙ sym is'.is.tag_is) i;
      order = (is.is.order_is ∙ sym is'.is.order_is) i;
      iu = (is.is.bytes_are ∙ sym is'.is.bytes_are) i;
    }

    before : map question_of a.pending ≡ map question_of b.pending
    before = ap (λ (v : ℕ × ℕ × List Question). v.2) same

    pending : map question_of a'.pending ≡ map question_of b'.pending
    pending =
        ap (λ (l : List Request). map question_of l) is.pending
        ∙ map-append question_of a.pending (is.request ∷ [])
        ∙ (λ i. before i ++ one i ∷ [])
        ∙ sym (ap (λ (l : List Request). map question_of l) is'.pending ∙ map-append question_of b.pending (is'.request ∷ []))

alike_all : (words : List Word) (a b a' b' : Talk) (number : ℕ) → view_of a ≡ view_of b → HearsAll a number words a' → HearsAll b number words b' → view_of a' ≡ view_of b'
alike_all [] a b a' b' number same is is' = ap view_of is ∙ same ∙ sym (ap view_of is')
alike_all (word ∷ words) a b a' b' number same is is' =
    alike_all words is.0 is'.0 a' b' (number + 1) (alike_one a b is.0 is'.0 number word same is.1 is'.1) is.2 is'.2

-- what is pending behind it, of two that heard the same
pub pending_alike : (words : List Word) (talk a b : Talk) (number : ℕ) (rest : List Request) → HearsAll talk number words a → HearsAll talk number words b → b.pending ≡ rest
    → map question_of a.pending ≡ map question_of rest
pending_alike words talk a b number rest is is' pending =
    ap (λ (v : ℕ × ℕ × List Question). v.2) (alike_all words talk talk a b number refl is is') ∙ ap (λ (l : List Request). map question_of l) pending

pub first_asks : (a b : Question) (xs ys : List Question) → a ∷ xs ≡ b ∷ ys → a ≡ b
first_asks a b xs ys same = cc (same)

pub no_first : (a : Question) (xs : List Question) → [] ≡ a ∷ xs → ⊥
no_first a xs same = cc (same)

wrote_alike : (Hears : Hearing) (old new : Option Known) (pending : List Request) (request : Request) (rest : List Request)
    → ((first : Request) (others : List Request) → pending ≡ first ∷ others → LaysIn (MayWrite Hears first) old new) → map question_of pending ≡ map question_of (request ∷ rest)
    → LaysIn (MayWrite Hears request) old new
wrote_alike Hears old new [] request rest wrote same = absurd (no_first (question_of request) (map question_of rest) same)
wrote_alike Hears old new (first ∷ others) request rest wrote same =
    subst (λ (z : Question). LaysIn (λ address len. ((address ≡ z.address) × (len ≤ 256)) ⊎ IsDataIn Hears z.order address len) old new)
    (first_asks (question_of first) (question_of request) (map question_of others) (map question_of rest) same) (wrote first others refl)

leaves_alike : (current granted : ℕ) (name : UnitId) (queue : EndState) (old new : PortState) (rows rows' : List Served) (pending : List Request) (request : Request) (rest : List Request)
    → ((first : Request) (others : List Request) → pending ≡ first ∷ others → first.order ≢ orders.Logout → LeavesAnswer current granted name (question_of first) queue old new rows rows')
    → map question_of pending ≡ map question_of (request ∷ rest) → request.order ≢ orders.Logout
    → LeavesAnswer current granted name (question_of request) queue old new rows rows'
leaves_alike current granted name queue old new rows rows' [] request rest leaves same other = absurd (no_first (question_of request) (map question_of rest) same)
leaves_alike current granted name queue old new rows rows' (first ∷ others) request rest leaves same other =
    subst (λ (z : Question). LeavesAnswer current granted name z queue old new rows rows') alike (leaves first others refl (λ is. other (ap (λ (z : Question). z.order) (sym alike) ∙ is)))
  where
    alike : question_of first ≡ question_of request
    alike = first_asks (question_of first) (question_of request) (map question_of others) (map question_of rest) same

out_alike : (a b : PortState) (pending : List Request) (request : Request) (rest : List Request)
    → ((first : Request) (others : List Request) → pending ≡ first ∷ others → first.order ≡ orders.Logout → a ≡ b) → map question_of pending ≡ map question_of (request ∷ rest)
    → request.order ≡ orders.Logout → a ≡ b
out_alike a b [] request rest out same is = absurd (no_first (question_of request) (map question_of rest) same)
out_alike a b (first ∷ others) request rest out same is =
    out first others refl (ap (λ (z : Question). z.order) (first_asks (question_of first) (question_of request) (map question_of others) (map question_of rest) same) ∙ is)

-- what is told of a request by more that is heard
names_map : (F G : Hearing) (order : Order) (list : List Desc) → Includes F G → NamesData F order list → NamesData G order list
names_map F G (orders.Command command) list more is = named_map F G command.inn list more is
names_map F G (orders.Login login) list more is = absurd is
names_map F G orders.Logout list more is = absurd is
names_map F G (orders.Task task) list more is = absurd is
names_map F G orders.Unreadable list more is = absurd is

of_map : (F G : Hearing) (unit : UnitId) (asked : Question) (answer : List ℕ) (rows rows' : List Served) → Includes F G → (address : ℕ) (bytes : List ℕ) (name : StrokeName)
    → IsOfQuestion F unit asked answer rows rows' address bytes name → IsOfQuestion G unit asked answer rows rows' address bytes name
of_map F G unit asked answer rows rows' more address bytes name (inl is) = inl is
of_map F G unit asked answer rows rows' more address bytes name (inr is) =
    inr (is.0, is.1, record { list = is.2.list; named = names_map F G asked.order is.2.list more is.2.named; part = is.2.part })

-- the same over a window of which as much was known before
left_before : (current granted : ℕ) (name : UnitId) (asked : Question) (queue : EndState) (first old new : PortState) (rows rows' : List Served) → StaysKnown first old
    → LeavesAnswer current granted name asked queue old new rows rows' → LeavesAnswer current granted name asked queue first new rows rows'
left_before current granted name asked queue first old new rows rows' same is = record {
  outcome = is.outcome;
  suits = is.suits;
  bytes = is.bytes;
  answer = is.answer;
  put = is.put;
  stands = is.stands;
  row = is.row;
  lays = subst (λ (known : Known). BearsWithin (IsOfQuestion (stood first) name asked is.bytes rows rows') known (known_in new)) known
      (bears_wider (IsOfQuestion (stood old) name asked is.bytes rows rows') (IsOfQuestion (stood first) name asked is.bytes rows rows')
      (of_map (stood old) (stood first) name asked is.bytes rows rows' (stood_known first old same)) (Some (known_in old)) (Some (known_in new)) is.lays);
}
  where
    known : known_in old ≡ known_in first
    known = λ i. record { strokes = same.strokes i; values = same.values i }

pub none_alike : (pending : List Request) → map question_of pending ≡ [] → pending ≡ []
none_alike [] same = refl
none_alike (first ∷ others) same = absurd (no_first (question_of first) (map question_of others) (sym same))

-- THE WHOLE --------------------------------------------------------------------------------------

-- a window of which as much is known as before
known_stays : (a b : SiteState) → b.shared ≡ a.shared → StaysKnown a.client b.client → client_known b ≡ client_known a
known_stays a b shared known = λ i. cond (shared i) None (Some (record { strokes = known.strokes i; values = known.values i }))

-- the steps of a turn, one behind the other: all was heard, and then the first request that is pending was served, if there is one
pub writes_on : {A : Type 0} (Hears : Hearing) (link : Bool) (unit u1 u2 u3 : Unit) (s0 s1 s2 s3 s4 : SiteState) (l0 l2 l3 : List Grant) (words : List Word)
    (result : Result A NoMemory) → IsTurnReady unit (reach_of s0) link words → u1 ≡ unit → Replies s0.queue s1.queue [] → s1.client ≡ s0.client → s1.shared ≡ s0.shared
    → u2 ≡ u1 → s2 ≡ s1 → l2 ≡ l0 → s3.shared ≡ s2.shared
    → (IsListening u2 (reach_of s2) link words → FitOneTurn u2 (reach_of s2) words → HasHeard u2 u3 (reach_of s2) (reach_of s3) l2 l3 words)
    → (StaysKnown s0.client s3.client → s3.shared ≡ false → u3.service.stage ≡ stages.Start → (request : Request) (rest : List Request) → u3.pending.items ≡ request ∷ rest
    → LaysIn (MayWrite Hears request) (client_known s3) (client_known s4))
    → (u3.pending.items ≡ [] → s4 ≡ s3) → OnOk result (WritesOn Hears unit s0.queue words (client_known s0) (client_known s4))
writes_on Hears link unit u1 u2 u3 s0 s1 s2 s3 s4 l0 l2 l3 words (Err memory) calm same1 still client shared same2 site lines shared3 hears wrote none = tt
writes_on Hears link unit u1 u2 u3 s0 s1 s2 s3 s4 l0 l2 l3 words (Ok done) calm same1 still client shared same2 site lines shared3 hears wrote none = record {
  wrote = λ talk request rest heard is.
      subst (λ (known : Option Known). LaysIn (MayWrite Hears request) known (client_known s4)) known
      (wrote_alike Hears (client_known s3) (client_known s4) u3.pending.items request rest (wrote all.window (same3 ∙ calm.calm.apart) (all.stage calm.stage))
      (pending_alike words (talk_of unit) (talk_of u3) talk (length (taken_now s0.queue)) (request ∷ rest) all.heard heard is));
  none = λ talk heard empty.
      ap client_known (none (none_alike u3.pending.items (pending_alike words (talk_of unit) (talk_of u3) talk (length (taken_now s0.queue)) [] all.heard heard empty))) ∙ known;
}
  where
    reach : reach_of s2 ≡ reach_of s1
    reach = ap reach_of site

    ready : IsListening u2 (reach_of s2) link words × FitOneTurn u2 (reach_of s2) words
    ready = ready_on link unit u1 u2 (reach_of s0) (reach_of s1) (reach_of s2) words calm same1 still client shared same2 reach

    all : HasHeard unit u3 (reach_of s0) (reach_of s3) l0 l3 words
    all =
        heard_on unit u2 u3 (reach_of s0) (reach_of s2) (reach_of s3) l0 l2 l3 [] words
        (heard_still unit u2 (reach_of s0) (reach_of s2) l0 l2 (same2 ∙ same1) (subst (λ (s : SiteState). Replies s0.queue s.queue []) (sym site) still)
        (ap (λ (s : SiteState). s.client) site ∙ client) lines) (hears ready.0 ready.1)

    same3 : s3.shared ≡ s0.shared
    same3 = shared3 ∙ (ap (λ (s : SiteState). s.shared) site ∙ shared)

    known : client_known s3 ≡ client_known s0
    known = known_stays s0 s3 same3 all.window

-- the same steps: the answer to that request was left
pub leaves_on : {A : Type 0} (link : Bool) (unit u1 u2 u3 : Unit) (r0 r1 r2 r3 : Reach) (name name' : UnitId) (queue : EndState) (client' : PortState) (l0 l2 l3 : List Grant) (h0 h2 h3 h4 : List Served)
    (words : List Word) (result : Result A NoMemory) → IsTurnReady unit r0 link words → u1 ≡ unit → Replies r0.queue r1.queue [] → r1.client ≡ r0.client → r1.shared ≡ r0.shared
    → u2 ≡ u1 → r2 ≡ r1 → l2 ≡ l0 → r3.shared ≡ r2.shared → name' ≡ name → h2 ≡ h0 → KeepsIdleRows u2.service.stage u3.service.stage h2 h3
    → (IsListening u2 r2 link words → FitOneTurn u2 r2 words → HasHeard u2 u3 r2 r3 l2 l3 words)
    → ((request : Request) (rest : List Request) → IsServable u3 r3 link request rest → request.order ≢ orders.Logout
    → OnOk result (LeavesAnswer u3.logins.current u3.logins.granted name' (question_of request) queue r3.client client' h3 h4))
    → ((request : Request) (rest : List Request) → u3.pending.items ≡ request ∷ rest → request.order ≡ orders.Logout → client' ≡ r3.client)
    → OnOk result (LeavesOn name unit r0.queue words queue r0.client client' h0 h4)
leaves_on link unit u1 u2 u3 r0 r1 r2 r3 name name' queue client' l0 l2 l3 h0 h2 h3 h4 words (Err memory) calm same1 still client shared same2 reach lines shared3 named first idle hears leaves out = tt
leaves_on link unit u1 u2 u3 r0 r1 r2 r3 name name' queue client' l0 l2 l3 h0 h2 h3 h4 words (Ok done) calm same1 still client shared same2 reach lines shared3 named first idle hears leaves out = record {
  leaves = λ talk request rest heard is other.
      subst (λ (v : ℕ × ℕ × List Question). LeavesAnswer v.0 v.1 name (question_of request) queue r0.client client' h0 h4)
      (alike_all words (talk_of unit) (talk_of unit) (talk_of u3) talk (length (taken_now r0.queue)) refl all.heard heard)
      (leaves_alike u3.logins.current u3.logins.granted name queue r0.client client' h0 h4 u3.pending.items request rest
      (λ found others pending asked.
      left_before u3.logins.current u3.logins.granted name (question_of found) queue r0.client r3.client client' h0 h4 all.window
      (subst (λ (z : UnitId × List Served). LeavesAnswer u3.logins.current u3.logins.granted z.0 (question_of found) queue r3.client client' z.1 h4) (λ i. (named i, rows i))
      (leaves found others (servable found others pending) asked)))
      (pending_alike words (talk_of unit) (talk_of u3) talk (length (taken_now r0.queue)) (request ∷ rest) all.heard heard is) other);
  out = λ talk request rest heard is asks_out.
      subst (StaysKnown r0.client) (sym (out_alike client' r3.client u3.pending.items request rest out
      (pending_alike words (talk_of unit) (talk_of u3) talk (length (taken_now r0.queue)) (request ∷ rest) all.heard heard is) asks_out)) all.window;
}
  where
    rows : h3 ≡ h0
    rows = (idle (ap (λ (u : Unit). u.service.stage) (same2 ∙ same1) ∙ calm.stage)).1 ∙ first

    still2 : Replies r0.queue r2.queue []
    still2 = subst (λ (r : Reach). Replies r0.queue r.queue []) (sym reach) still

    client2 : r2.client ≡ r0.client
    client2 = ap (λ (r : Reach). r.client) reach ∙ client

    shared2 : r2.shared ≡ r0.shared
    shared2 = ap (λ (r : Reach). r.shared) reach ∙ shared

    ready : IsListening u2 r2 link words × FitOneTurn u2 r2 words
    ready = ready_on link unit u1 u2 r0 r1 r2 words calm same1 still client shared same2 reach

    all : HasHeard unit u3 r0 r3 l0 l3 words
    all = heard_on unit u2 u3 r0 r2 r3 l0 l2 l3 [] words (heard_still unit u2 r0 r2 l0 l2 (same2 ∙ same1) still2 client2 lines) (hears ready.0 ready.1)

    servable : (request : Request) (rest : List Request) → u3.pending.items ≡ request ∷ rest → IsServable u3 r3 link request rest
    servable request rest is = record {
      alone = calm.calm.alone;
      apart = shared3 ∙ shared2 ∙ calm.calm.apart;
      registered = all.registered ∙ calm.calm.registered;
      pending = is;
      stage = all.stage calm.stage;
      may = λ asked. may_known r0.client r3.client request.address all.window (calm.next (talk_of u3) request rest all.heard is asked);
      slots = slots_left r0.queue r3.queue 1 (replies words) all.place all.partner all.put calm.slots;
    }

-- a turn begins by noting that nothing moved yet
pub writes_from : (Hears : Hearing) (unit unit1 : Unit) (queue : EndState) (words : List Word) (old new : Option Known) → talk_of unit1 ≡ talk_of unit
    → WritesOn Hears unit1 queue words old new → WritesOn Hears unit queue words old new
writes_from Hears unit unit1 queue words old new talk is = record {
  wrote = λ t request rest heard. is.wrote t request rest (subst (λ (from : Talk). HearsAll from (length (taken_now queue)) words t) (sym talk) heard);
  none = λ t heard. is.none t (subst (λ (from : Talk). HearsAll from (length (taken_now queue)) words t) (sym talk) heard);
}

pub leaves_from : (name : UnitId) (unit unit1 : Unit) (before : EndState) (words : List Word) (queue : EndState) (old new : PortState) (rows rows' : List Served) → talk_of unit1 ≡ talk_of unit
    → LeavesOn name unit1 before words queue old new rows rows' → LeavesOn name unit before words queue old new rows rows'
leaves_from name unit unit1 before words queue old new rows rows' talk is = record {
  leaves = λ t request rest heard. is.leaves t request rest (subst (λ (from : Talk). HearsAll from (length (taken_now before)) words t) (sym talk) heard);
  out = λ t request rest heard. is.out t request rest (subst (λ (from : Talk). HearsAll from (length (taken_now before)) words t) (sym talk) heard);
}

-- the unit of a number, which is then that of the turn
pub found_same : (found unit : Unit) → Some found ≡ Some unit → found ≡ unit
found_same found unit same = cc (same)

pub unit_writes : {A : Type 0} (Hears : Hearing) (link : Bool) (units : List Unit) (n : ℕ) (unit found : Unit) (reach : Reach) (words : List Word) (old new : Option Known)
    (result : Result A NoMemory) → slice_get units n ≡ Some found → slice_get units n ≡ Some unit
    → (IsTurnReady found reach link words → OnOk result (WritesOn Hears found reach.queue words old new)) → IsTurnReady unit reach link words
    → OnOk result (WritesOn Hears unit reach.queue words old new)
unit_writes Hears link units n unit found reach words old new result there at writes =
    subst (λ (u : Unit). IsTurnReady u reach link words → OnOk result (WritesOn Hears u reach.queue words old new)) (found_same found unit (sym there ∙ at)) writes

pub unit_leaves : {A : Type 0} (link : Bool) (name : UnitId) (units : List Unit) (n : ℕ) (unit found : Unit) (reach : Reach) (words : List Word) (queue : EndState) (old new : PortState) (rows rows' : List Served)
    (result : Result A NoMemory) → slice_get units n ≡ Some found → slice_get units n ≡ Some unit
    → (IsTurnReady found reach link words → OnOk result (LeavesOn name found reach.queue words queue old new rows rows')) → IsTurnReady unit reach link words
    → OnOk result (LeavesOn name unit reach.queue words queue old new rows rows')
unit_leaves link name units n unit found reach words queue old new rows rows' result there at leaves =
    subst (λ (u : Unit). IsTurnReady u reach link words → OnOk result (LeavesOn name u reach.queue words queue old new rows rows')) (found_same found unit (sym there ∙ at)) leaves
