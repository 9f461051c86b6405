-- How a unit's intake stays lawful as entries are taken, units are fetched, and sessions end and begin.
use Rattle.std.proofs.Common.{◌≡◌, ◌++◌, ◌<◌, ◌≤◌, ℕ, true, false, List, [], ◌∷◌, Option, Some, None, IfSome, All, Contains, MatchOption, get_or, length, map, filter, slice_get, refl, sym, ◌∙◌, ap, subst, arith, append-nil, length-append}
use Rattle.std.specs.List.{filter_map}
use Rattle.std.proofs.lemmas.List.{map-append, get_or_append_left, get_or_push}
use Rattle.std.proofs.lemmas.List.Elements.{All-push, All-weaker, Contains-append_left, filter-append, filter_map-append}
use Rattle.std.proofs.lemmas.List.Quantifiers.{all_pairs_push}
use Rattle.std.proofs.lemmas.Option.{slice_get_within, slice_get-get_or, get_or_from_slice_get}
use Rattle.crq_ring.specs.Sessions.{of_session}
use Rattle.crq_ring.specs.declared.rows.PipeRow.{PipeRow}
use Rattle.crq_ring.proofs.SessionLaws.{of_session-append, of_session-push}
use Rattle.rdma_copy.proofs.Laws.{read_stays, written_stays}
use Rattle.rdma_copy.specs.Copies.{side_of}
use Rattle.rdma_copy.specs.Copy.{SideGrows}
use Rattle.rdma_copy.specs.declared.copy.CopyRecord.{CopyRecord}
use Rattle.tce_window.specs.Moved.{IsReadFrom, IsWrittenTo}
use Rattle.tce_window.specs.PortState.{PortState}
use Rattle.vio_num.specs.Entry.{is_srp_entry, iu_address, iu_length}
use Rattle.vio_num.specs.Words.{Begins}
use Rattle.vio_num.specs.declared.entry.Entry.{Entry}
use Rattle.vio_num.specs.declared.history.Grant.{Grant}
use Rattle.vio_num.specs.declared.history.Grant.TheVariants.{Lapsed}
use Rattle.vio_num.specs.declared.names.UnitId.{UnitId}
use Rattle.block_server.specs.Moves.{Fetches, is_intake}
use Rattle.block_server.specs.Receipts.{EndedFor, GoesOn, Intake, IsIntake, IsOver, IsReceived, Receipt, copy_of, row_of, srp_rows, waiting_rows}
use Rattle.block_server.specs.declared.request.Arrival.{Arrival}

-- an element of a list is that of each list that begins with it
pub slice_more : {X : Type 0} (xs rest : List X) (i : ℕ) (x : X) → slice_get xs i ≡ Some x → slice_get (xs ++ rest) i ≡ Some x
slice_more xs rest i x e =
    let less = slice_get_within xs i x e in
    slice_get-get_or (xs ++ rest) i x (omega (arith, less, length-append xs rest))
    ∙ ap Some (get_or_append_left xs rest x i less ∙ get_or_from_slice_get xs i x x e)

-- the entries of a session stay at their places
pub session_more : (q : ℕ) (old new : List PipeRow) (i : ℕ) (entry : Entry) → Begins old new → slice_get (of_session q old) i ≡ Some entry → slice_get (of_session q new) i ≡ Some entry
session_more q old new i entry more e =
    ap (λ rows. slice_get (of_session q rows) i) more.1 ∙ ap (λ xs. slice_get xs i) (of_session-append q old more.0)
    ∙ slice_more (of_session q old) (of_session q more.0) i entry e

-- what a copy fetched is what it fetched, as more is known of the windows
pub fetches_stays : (own own' client client' : PortState) → SideGrows (side_of own) (side_of own') → SideGrows (side_of client) (side_of client')
    → (address at len : ℕ) (bytes : List ℕ) (copy : CopyRecord) → Fetches own client address at len bytes copy → Fetches own' client' address at len bytes copy
fetches_stays own own' client client' own_grows client_grows address at len bytes copy is = record {
  name_is = is.name_is ∙ ap (λ (unit : UnitId). record { who = unit; mark = 0 }) (sym own_grows.unit);
  len_is = is.len_is;
  read = subst (λ unit. IsReadFrom unit client'.values client'.strokes address copy.from.items bytes) (sym client_grows.unit)
      (read_stays client.place.unit address copy.from.items bytes client.values client'.values client.strokes client'.strokes client_grows.values client_grows.strokes is.read);
  written = subst (λ unit. IsWrittenTo unit own'.values own'.strokes at copy.name copy.to.items bytes) (sym own_grows.unit)
      (written_stays own.place.unit at copy.name copy.to.items bytes own.values own'.values own.strokes own'.strokes own_grows.values own_grows.strokes is.written);
}

ended_stays : (unit unit' : UnitId) (session : ℕ) (old new : List Grant) → unit' ≡ unit → Begins old new → EndedFor unit session old → EndedFor unit' session new
ended_stays unit unit' session old new same more is =
    let line = Lapsed unit session is.login is.cause is.outstanding is.granted in
    subst (λ u. EndedFor u session new) (sym same) (record {
      login = is.login;
      cause = is.cause;
      outstanding = is.outstanding;
      granted = is.granted;
      listed = subst (λ lines. Contains lines line) (sym more.1) (Contains-append_left old more.0 line is.listed);
      fatal = is.fatal;
    })

-- What only grows in a unit's intake.
pub record Grown (old new : Intake) : Type 0 where
  pub own : SideGrows (side_of old.own) (side_of new.own)
  pub client : SideGrows (side_of old.client) (side_of new.client)
  pub taken : Begins old.queue.taken new.queue.taken
  pub grants : Begins old.grants new.grants

fetched_stays : (old new : Intake) (receipt : Receipt) → Grown old new → (copy : Option CopyRecord)
    → MatchOption copy (EndedFor old.own.place.unit receipt.session old.grants) (Fetches old.own old.client (iu_address receipt.entry) 0 (iu_length receipt.entry) receipt.bytes)
    → MatchOption copy (EndedFor new.own.place.unit receipt.session new.grants) (Fetches new.own new.client (iu_address receipt.entry) 0 (iu_length receipt.entry) receipt.bytes)
fetched_stays old new receipt grown None is = ended_stays old.own.place.unit new.own.place.unit receipt.session old.grants new.grants grown.own.unit grown.grants is
fetched_stays old new receipt grown (Some copy) is =
    fetches_stays old.own new.own old.client new.client grown.own grown.client (iu_address receipt.entry) 0 (iu_length receipt.entry) receipt.bytes copy is

pub received_stays : (old new : Intake) → Grown old new → (receipt : Receipt) → IsReceived old receipt → IsReceived new receipt
received_stays old new grown receipt is = record {
  there = session_more receipt.session old.queue.taken new.queue.taken receipt.number receipt.entry grown.taken is.there;
  long = is.long;
  fetched = fetched_stays old new receipt grown receipt.copy is.fetched;
}

all_received : (old new : Intake) → Grown old new → (receipts : List Receipt) → All (IsReceived old) receipts → All (IsReceived new) receipts
all_received old new grown = All-weaker (IsReceived old) (IsReceived new) (received_stays old new grown)

-- THE STEPS OF INTAKE ----------------------------------------------------------------------------

some_none : {X : Type 0} (option : Option X) (x : X) → option ≡ Some x → ¬ (option ≡ None)
some_none option x some none = cc (some, none)

-- the waiting entry is the only thing that the end of a session is judged by, as long as it waits
none_before : (intake : Intake) (receipts : List Receipt) (arrival : Arrival) → IsIntake intake receipts → intake.waiting ≡ Some arrival
    → All (λ receipt. receipt.copy ≡ None → receipt.session < intake.queue.last_session) receipts
none_before intake receipts arrival is waits k d lt none =
    let most = is.begun k d lt in
    let apart : ¬ (get_or receipts k d).session ≡ intake.queue.last_session = λ same. some_none intake.waiting arrival waits (is.idle (is.over k d lt none same)) in
    below (get_or receipts k d).session intake.queue.last_session most apart
  where
    below : (a b : ℕ) → a ≤ b → ¬ (a ≡ b) → a < b
    below a b most apart = omega (arith, most, apart)

-- Nothing was taken and nothing fetched.
pub intake_stays : (old new : Intake) (receipts : List Receipt) → Grown old new → new.queue.last_session ≡ old.queue.last_session → new.queue.taken ≡ old.queue.taken
    → filter (is_intake new.own.place.unit) new.copies ≡ filter (is_intake old.own.place.unit) old.copies → new.waiting ≡ old.waiting → new.ended ≡ old.ended
    → IsIntake old receipts → IsIntake new receipts
intake_stays old new receipts grown session taken copies waiting ended is = record {
  entries = cc (is.entries, session, taken, waiting);
  copies_are = is.copies_are ∙ sym copies;
  each = all_received old new grown receipts is.each;
  last = is.last;
  over = λ k d lt none same. ended ∙ is.over k d lt none (same ∙ session);
  begun = λ k d lt. subst (λ (n : ℕ). (get_or receipts k d).session ≤ n) (sym session) (is.begun k d lt);
  waits = subst (λ waiting. IfSome waiting (λ arrival. slice_get (of_session new.queue.last_session new.queue.taken) arrival.number ≡ Some arrival.entry)) (sym waiting)
      (subst (λ rows. IfSome old.waiting (λ arrival. slice_get (of_session new.queue.last_session rows) arrival.number ≡ Some arrival.entry)) (sym taken)
      (subst (λ n. IfSome old.waiting (λ arrival. slice_get (of_session n old.queue.taken) arrival.number ≡ Some arrival.entry)) (sym session) is.waits));
  idle = λ over. waiting ∙ is.idle (sym ended ∙ over);
}

no_wait : (session : ℕ) (waiting : Option Arrival) (rows : List PipeRow) → waiting ≡ None → IfSome waiting (λ arrival. slice_get (of_session session rows) arrival.number ≡ Some arrival.entry)
no_wait session None rows none = tt
no_wait session (Some arrival) rows none = absurd (cc (none))

-- A session began.
pub intake_begins : (old new : Intake) (receipts : List Receipt) → Grown old new → old.queue.last_session < new.queue.last_session → new.queue.taken ≡ old.queue.taken
    → filter (is_intake new.own.place.unit) new.copies ≡ filter (is_intake old.own.place.unit) old.copies → new.waiting ≡ old.waiting → old.ended ≡ true
    → IsIntake old receipts → IsIntake new receipts
intake_begins old new receipts grown session taken copies waiting ended is =
    let none : new.waiting ≡ None = waiting ∙ is.idle ended in
    record {
      entries = ap (λ w. map row_of receipts ++ waiting_rows new.queue.last_session w) none
          ∙ sym (ap (λ w. map row_of receipts ++ waiting_rows old.queue.last_session w) (is.idle ended)) ∙ is.entries ∙ ap srp_rows (sym taken);
      copies_are = is.copies_are ∙ sym copies;
      each = all_received old new grown receipts is.each;
      last = is.last;
      over = λ k d lt none same. absurd (above (get_or receipts k d).session _ _ (is.begun k d lt) session same);
      begun = λ k d lt. most (get_or receipts k d).session _ _ (is.begun k d lt) session;
      waits = no_wait new.queue.last_session new.waiting new.queue.taken none;
      idle = λ over. none;
    }
  where
    above : (a b c : ℕ) → a ≤ b → b < c → ¬ (a ≡ c)
    above a b c low high same = omega (arith, low, high, same)

    most : (a b c : ℕ) → a ≤ b → b < c → a ≤ c
    most a b c low high = omega (arith, low, high)

srp_push : (rows : List PipeRow) (row : PipeRow) → is_srp_entry row.entry ≡ true → srp_rows (rows ++ row ∷ []) ≡ srp_rows rows ++ row ∷ []
srp_push rows row is = filter-append (λ r. is_srp_entry r.entry) rows (row ∷ []) ∙ ap (λ more. srp_rows rows ++ more) (rw is refl)

srp_pass : (rows : List PipeRow) (row : PipeRow) → is_srp_entry row.entry ≡ false → srp_rows (rows ++ row ∷ []) ≡ srp_rows rows
srp_pass rows row is =
    filter-append (λ r. is_srp_entry r.entry) rows (row ∷ []) ∙ ap (λ more. srp_rows rows ++ more) (none is) ∙ append-nil (srp_rows rows)
  where
    none : is_srp_entry row.entry ≡ false → srp_rows (row ∷ []) ≡ []
    none is = rw is refl

-- the rows of the receipts where none waits
all_entries : (intake : Intake) (receipts : List Receipt) → IsIntake intake receipts → intake.waiting ≡ None → map row_of receipts ≡ srp_rows intake.queue.taken
all_entries intake receipts is none =
    sym (append-nil (map row_of receipts)) ∙ ap (λ w. map row_of receipts ++ waiting_rows intake.queue.last_session w) (sym none) ∙ is.entries

-- An SRP entry was taken, and waits to be fetched.
pub intake_takes : (old new : Intake) (receipts : List Receipt) (number : ℕ) (entry : Entry) (arrival : Arrival) → Grown old new → new.queue.last_session ≡ old.queue.last_session
    → number ≡ length (of_session old.queue.last_session old.queue.taken)
    → new.queue.taken ≡ old.queue.taken ++ record { session = old.queue.last_session; entry = entry } ∷ [] → is_srp_entry entry ≡ true
    → filter (is_intake new.own.place.unit) new.copies ≡ filter (is_intake old.own.place.unit) old.copies
    → old.waiting ≡ None → new.waiting ≡ Some arrival → arrival.number ≡ number → arrival.entry ≡ entry → new.ended ≡ false → old.ended ≡ false
    → IsIntake old receipts → IsIntake new receipts
intake_takes old new receipts number entry arrival grown session number_is taken srp copies none waits at of ended was is =
    let row : PipeRow = record { session = old.queue.last_session; entry = entry } in
    let found : slice_get (of_session new.queue.last_session new.queue.taken) arrival.number ≡ Some arrival.entry =
    ap (λ n. slice_get (of_session n new.queue.taken) arrival.number) session
    ∙ ap (λ rows. slice_get (of_session old.queue.last_session rows) arrival.number) taken
    ∙ ap (λ xs. slice_get xs arrival.number) (of_session-push row old.queue.taken)
    ∙ last_of (of_session old.queue.last_session old.queue.taken) entry arrival.number (at ∙ number_is) ∙ ap Some (sym of) in
    record {
      entries = ap (λ w. map row_of receipts ++ waiting_rows new.queue.last_session w) waits
          ∙ ap (λ (n : ℕ). map row_of receipts ++ record { session = n; entry = arrival.entry } ∷ []) session
          ∙ ap (λ (e : Entry). map row_of receipts ++ record { session = old.queue.last_session; entry = e } ∷ []) of
          ∙ ap (λ rows. rows ++ row ∷ []) (all_entries old receipts is none)
          ∙ sym (srp_push old.queue.taken row srp) ∙ ap srp_rows (sym taken);
      copies_are = is.copies_are ∙ sym copies;
      each = all_received old new grown receipts is.each;
      last = is.last;
      over = λ k d lt none same. absurd (cc (is.over k d lt none (same ∙ session), was));
      begun = λ k d lt. subst (λ (n : ℕ). (get_or receipts k d).session ≤ n) (sym session) (is.begun k d lt);
      waits = if_some new.waiting arrival new.queue.last_session new.queue.taken waits found;
      idle = λ over. absurd (cc (over, ended));
    }
  where
    last_of : (xs : List Entry) (x : Entry) (n : ℕ) → n ≡ length xs → slice_get (xs ++ x ∷ []) n ≡ Some x
    last_of xs x n is = slice_get-get_or (xs ++ x ∷ []) n x (omega (arith, is, length-append xs (x ∷ []))) ∙ ap Some (get_or_push xs x x n (sym is))

    if_some : (waiting : Option Arrival) (arrival : Arrival) (session : ℕ) (rows : List PipeRow) → waiting ≡ Some arrival
        → slice_get (of_session session rows) arrival.number ≡ Some arrival.entry
        → IfSome waiting (λ arrival. slice_get (of_session session rows) arrival.number ≡ Some arrival.entry)
    if_some waiting arrival session rows waits found =
        subst (λ w. IfSome w (λ arrival. slice_get (of_session session rows) arrival.number ≡ Some arrival.entry)) (sym waits) found

-- An entry was taken that is no SRP entry.
pub intake_passes : (old new : Intake) (receipts : List Receipt) (entry : Entry) → Grown old new → new.queue.last_session ≡ old.queue.last_session
    → new.queue.taken ≡ old.queue.taken ++ record { session = old.queue.last_session; entry = entry } ∷ [] → is_srp_entry entry ≡ false
    → filter (is_intake new.own.place.unit) new.copies ≡ filter (is_intake old.own.place.unit) old.copies
    → old.waiting ≡ None → new.waiting ≡ None → old.ended ≡ false → IsIntake old receipts → IsIntake new receipts
intake_passes old new receipts entry grown session taken other copies none waits was is =
    let row : PipeRow = record { session = old.queue.last_session; entry = entry } in
    record {
      entries = ap (λ w. map row_of receipts ++ waiting_rows new.queue.last_session w) waits ∙ append-nil (map row_of receipts)
          ∙ all_entries old receipts is none ∙ sym (srp_pass old.queue.taken row other) ∙ ap srp_rows (sym taken);
      copies_are = is.copies_are ∙ sym copies;
      each = all_received old new grown receipts is.each;
      last = is.last;
      over = λ k d lt none same. absurd (cc (is.over k d lt none (same ∙ session), was));
      begun = λ k d lt. subst (λ (n : ℕ). (get_or receipts k d).session ≤ n) (sym session) (is.begun k d lt);
      waits = no_wait new.queue.last_session new.waiting new.queue.taken waits;
      idle = λ over. waits;
    }

-- the rows of the receipts where one waits, which has its receipt then
with_waiting : (intake : Intake) (receipts : List Receipt) (arrival : Arrival) (copy : Option CopyRecord) (bytes : List ℕ) → IsIntake intake receipts → intake.waiting ≡ Some arrival
    → map row_of (receipts ++ record { session = intake.queue.last_session; number = arrival.number; entry = arrival.entry; copy = copy; bytes = bytes } ∷ []) ≡ srp_rows intake.queue.taken
with_waiting intake receipts arrival copy bytes is waits =
    map-append row_of receipts _ ∙ ap (λ w. map row_of receipts ++ waiting_rows intake.queue.last_session w) (sym waits) ∙ is.entries

-- where it stands
waits_there : (intake : Intake) (receipts : List Receipt) (arrival : Arrival) → IsIntake intake receipts → intake.waiting ≡ Some arrival
    → slice_get (of_session intake.queue.last_session intake.queue.taken) arrival.number ≡ Some arrival.entry
waits_there intake receipts arrival is waits =
    subst (λ w. IfSome w (λ arrival. slice_get (of_session intake.queue.last_session intake.queue.taken) arrival.number ≡ Some arrival.entry)) waits is.waits

-- the receipt of the entry that waits
abbrev pub receipt_of : Intake → Arrival → Option CopyRecord → List ℕ → Receipt
receipt_of intake arrival copy bytes =
    record { session = intake.queue.last_session; number = arrival.number; entry = arrival.entry; copy = copy; bytes = bytes }

-- The information unit of the entry that waits was fetched.
pub intake_fetches : (old new : Intake) (receipts : List Receipt) (arrival : Arrival) (copy : CopyRecord) (bytes : List ℕ) → Grown old new
    → new.queue.last_session ≡ old.queue.last_session → new.queue.taken ≡ old.queue.taken
    → filter (is_intake new.own.place.unit) new.copies ≡ filter (is_intake old.own.place.unit) old.copies ++ copy ∷ []
    → length bytes ≡ iu_length arrival.entry → Fetches new.own new.client (iu_address arrival.entry) 0 (iu_length arrival.entry) bytes copy
    → old.waiting ≡ Some arrival → new.waiting ≡ None → IsIntake old receipts → IsIntake new (receipts ++ receipt_of old arrival (Some copy) bytes ∷ [])
intake_fetches old new receipts arrival copy bytes grown session taken copies long fetched waits none is =
    let receipt = receipt_of old arrival (Some copy) bytes in
    let before = none_before old receipts arrival is waits in
    record {
      entries = ap (λ w. map row_of (receipts ++ receipt ∷ []) ++ waiting_rows new.queue.last_session w) none ∙ append-nil (map row_of (receipts ++ receipt ∷ []))
          ∙ with_waiting old receipts arrival (Some copy) bytes is waits ∙ ap srp_rows (sym taken);
      copies_are = filter_map-append copy_of receipts (receipt ∷ []) ∙ ap (λ made. made ++ copy ∷ []) is.copies_are ∙ sym copies;
      each = All-push (IsReceived new) receipts receipt (all_received old new grown receipts is.each) (record {
        there = ap (λ rows. slice_get (of_session old.queue.last_session rows) arrival.number) taken ∙ waits_there old receipts arrival is waits;
        long = long;
        fetched = fetched;
      });
      last = all_pairs_push GoesOn receipts receipt is.last (λ k d lt. before k d lt);
      over = All-push (IsOver new) receipts receipt (λ k d lt gone same. absurd (apart _ _ _ (before k d lt gone) same session)) (λ gone same. absurd (cc (gone)));
      begun = All-push (λ r. r.session ≤ new.queue.last_session) receipts receipt
          (λ k d lt. subst (λ (n : ℕ). (get_or receipts k d).session ≤ n) (sym session) (is.begun k d lt)) (omega (arith, session));
      waits = no_wait new.queue.last_session new.waiting new.queue.taken none;
      idle = λ over. none;
    }
  where
    apart : (a b c : ℕ) → a < b → a ≡ c → ¬ (c ≡ b)
    apart a b c low same session = omega (arith, low, same, session)

-- The session ended before the information unit of the entry that waits was fetched.
pub intake_ends : (old new : Intake) (receipts : List Receipt) (arrival : Arrival) → Grown old new
    → new.queue.last_session ≡ old.queue.last_session → new.queue.taken ≡ old.queue.taken
    → filter (is_intake new.own.place.unit) new.copies ≡ filter (is_intake old.own.place.unit) old.copies
    → EndedFor new.own.place.unit old.queue.last_session new.grants
    → old.waiting ≡ Some arrival → new.waiting ≡ None → new.ended ≡ true → IsIntake old receipts → IsIntake new (receipts ++ receipt_of old arrival None [] ∷ [])
intake_ends old new receipts arrival grown session taken copies ended waits none over is =
    let receipt = receipt_of old arrival None [] in
    record {
      entries = ap (λ w. map row_of (receipts ++ receipt ∷ []) ++ waiting_rows new.queue.last_session w) none ∙ append-nil (map row_of (receipts ++ receipt ∷ []))
          ∙ with_waiting old receipts arrival None [] is waits ∙ ap srp_rows (sym taken);
      copies_are = filter_map-append copy_of receipts (receipt ∷ []) ∙ append-nil (filter_map copy_of receipts) ∙ is.copies_are ∙ sym copies;
      each = All-push (IsReceived new) receipts receipt (all_received old new grown receipts is.each) (record {
        there = ap (λ rows. slice_get (of_session old.queue.last_session rows) arrival.number) taken ∙ waits_there old receipts arrival is waits;
        long = tt;
        fetched = ended;
      });
      last = all_pairs_push GoesOn receipts receipt is.last (λ k d lt. none_before old receipts arrival is waits k d lt);
      over = λ k d lt gone same. over;
      begun = All-push (λ r. r.session ≤ new.queue.last_session) receipts receipt
          (λ k d lt. subst (λ (n : ℕ). (get_or receipts k d).session ≤ n) (sym session) (is.begun k d lt)) (omega (arith, session));
      waits = no_wait new.queue.last_session new.waiting new.queue.taken none;
      idle = λ over. none;
    }

-- The session ended while none waited.
pub intake_closes : (old new : Intake) (receipts : List Receipt) → Grown old new
    → new.queue.last_session ≡ old.queue.last_session → new.queue.taken ≡ old.queue.taken
    → filter (is_intake new.own.place.unit) new.copies ≡ filter (is_intake old.own.place.unit) old.copies
    → old.waiting ≡ None → new.waiting ≡ None → new.ended ≡ true → IsIntake old receipts → IsIntake new receipts
intake_closes old new receipts grown session taken copies was none over is = record {
  entries = ap (λ w. map row_of receipts ++ waiting_rows new.queue.last_session w) none ∙ append-nil (map row_of receipts)
      ∙ all_entries old receipts is was ∙ ap srp_rows (sym taken);
  copies_are = is.copies_are ∙ sym copies;
  each = all_received old new grown receipts is.each;
  last = is.last;
  over = λ k d lt gone same. over;
  begun = λ k d lt. subst (λ (n : ℕ). (get_or receipts k d).session ≤ n) (sym session) (is.begun k d lt);
  waits = no_wait new.queue.last_session new.waiting new.queue.taken none;
  idle = λ over. none;
}
