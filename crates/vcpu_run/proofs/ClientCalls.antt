-- What a raw call returns at a client's pair: what its window and its end answered.
use Rattle.std.proofs.Common.{◌≡◌, ◌≢◌, ◌↔◌, ◌∙◌, ◌<◌, ◌+◌, ◌/◌, ◌==◌, ◌++◌, ℕ, zero, suc, replicate, Bool, true, false, cond, List, [], ◌∷◌, Option, Some, None, Result, Ok, Err, IfOk, IfSome, IsSome, Contains, drop, slice_get, refl, sym, ap, subst, arith}
use Rattle.std.specs.Option.{option_map}
use Rattle.std.proofs.lemmas.Bool.{eq-eqb}
use Rattle.std.proofs.lemmas.Bool.Decides.{nat_tests}
use Rattle.std.proofs.lemmas.List.Elements.{Contains-append_right, Contains-get_or}
use Rattle.std.proofs.lemmas.Option.{get_or_from_slice_get, slice_get_within}
use Rattle.vio_num.specs.Entry.{first_byte}
use Rattle.vio_num.specs.declared.entry.Entry.{Entry}
use Rattle.vio_num.specs.declared.hypervisor.Hrc.{Hrc}
use Rattle.vio_num.specs.declared.hypervisor.Hrc.TheVariants as codes
use Rattle.vio_num.specs.declared.memory.NoMemory.{NoMemory}
use Rattle.crq_ring.specs.declared.rows.PipeRow.{PipeRow}
use Rattle.crq_session.specs.Answered.{Sends}
use Rattle.crq_session.specs.EndState.{EndPlace, EndState, OnlySends}
use Rattle.tce_window.specs.Answers.{gives, is_entry}
use Rattle.tce_window.specs.PortState.{PortState, Puts, Reads}
use Rattle.tce_window.specs.Puts.{put_into, takes, takes_all}
use Rattle.hcall_table.specs.Rows.{IsAnswer, may_answer}
use Rattle.hcall_table.specs.declared.hcall.Hcall.TheVariants as rows
use Rattle.hcall_table.specs.declared.returned.Returned.{Returned}
use Rattle.unit_region.specs.EntryAnswers.{AnswersEntry, ReadsList, is_list, put_if}
use Rattle.unit_region.specs.EntryRows.{answer_by, entry_row}
use Rattle.unit_region.specs.declared.entry_calls.EntryCall.{EntryCall}
use Rattle.unit_region.specs.declared.entry_calls.EntryCall.TheVariants as entries
use Rattle.unit_region.specs.InUse.{BusyFor}
use Rattle.unit_region.specs.RegionLines.{AreRead, RegionSeen}
use Rattle.vcpu_run.specs.CallRows.{entry_arguments}
use Rattle.vcpu_run.specs.CallsAnswered.{IsListPut, IsListRead, IsListUntaken, IsReturned, SendsOne, is_taken}
use Rattle.vcpu_run.specs.LinesShow.{IsPutBy}
use Rattle.vcpu_run.proofs.LinesShown.{contains_first}
use Rattle.vcpu_run.proofs.ValuesBehind.{behind_put}

-- what is at a place of a list is in it
has_at : {X : Type 0} (xs : List X) (i : ℕ) (x : X) → slice_get xs i ≡ Some x → Contains xs x
has_at xs i x shown =
    subst (λ y. Contains xs y) (get_or_from_slice_get xs i x x shown) (Contains-get_or xs i x (slice_get_within xs i x shown))

-- the value of an entry
not_both : (b : Bool) → b ≡ true → b ≡ false → ⊥
not_both b is isnt = cc

get_parameter : (n address value : ℕ) (values : ℕ → List ℕ) (code : Hrc) → may_answer rows.GetTce code ≡ true → gives n values address (answer_by code value)
    → (code ≡ codes.Parameter) ↔ (is_entry n address ≡ false)
get_parameter n address value values codes.Success may is = (λ e. absurd (apart e), λ none. absurd (not_both (is_entry n address) is.0 none))
  where
    apart : codes.Success ≡ codes.Parameter → ⊥
    apart e = cc
get_parameter n address value values codes.Parameter may is = (λ e. is, λ none. refl)
get_parameter n address value values codes.Busy may is = absurd (cc)
get_parameter n address value values codes.Closed may is = absurd (cc)
get_parameter n address value values codes.Function may is = absurd (cc)
get_parameter n address value values codes.NotFound may is = absurd (cc)
get_parameter n address value values codes.Dropped may is = absurd (cc)
get_parameter n address value values codes.SourceParm may is = absurd (cc)
get_parameter n address value values codes.DestParm may is = absurd (cc)
get_parameter n address value values codes.Resource may is = absurd (cc)

got_there : (n address value : ℕ) (values : ℕ → List ℕ) (code : Hrc) → gives n values address (answer_by code value) → code ≡ codes.Success
    → Contains (values (address / 4096)) value
got_there n address value values code is good =
    let got = subst (λ (c : Hrc). gives n values address (answer_by c value)) good is in
    has_at (values (address / 4096)) got.1.0 value got.1.1.shown

-- each entry had its first value
abbrev pub HasFirst : PortState → Type 0
HasFirst port = (entry : ℕ) → IsSome (slice_get (port.values entry) 0)

value_there : (old new : PortState) (address value : ℕ) (code : Hrc) → HasFirst old → Puts old address (put_if code value) new → code ≡ codes.Success
    → Contains (drop 1 (new.values (address / 4096))) value
value_there old new address value code first puts good =
    let is = subst (λ (c : Hrc). Puts old address (put_if c value) new) good puts in
    let entry : ℕ = address / 4096 in
    let put : new.values entry ≡ old.values entry ++ value ∷ [] = is.values entry ∙ ap (λ b. old.values entry ++ cond b (value ∷ []) []) (eq-eqb entry entry refl) in
    behind_put (old.values entry) (new.values entry) (value ∷ []) value (first entry) put (contains_first value [])

-- each of the entries that a list of one value names takes it
taken_at : (entry value count j : ℕ) → j < count → put_into entry (replicate count value) (entry + j) ≡ value ∷ []
taken_at entry value zero j less = absurd (omega (arith, less))
taken_at entry value (suc count) zero less = ap (λ b. cond b (value ∷ []) (put_into (entry + 1) (replicate count value) (entry + 0))) (eq-eqb entry (entry + 0) (omega arith))
taken_at entry value (suc count) (suc j) less =
    ap (λ b. cond b (value ∷ []) (put_into (entry + 1) (replicate count value) (entry + suc j))) (apart (entry == (entry + suc j)) refl)
    ∙ ap (λ e. put_into (entry + 1) (replicate count value) e) (omega arith) ∙ taken_at (entry + 1) value count j (omega (arith, less))
  where
    apart : (b : Bool) → (entry == (entry + suc j)) ≡ b → b ≡ false
    apart true e = absurd (grind (arith, nat_tests, e))
    apart false e = refl

each_there : (old new : PortState) (address value count j : ℕ) → HasFirst old → Puts old address (replicate count value) new → j < count
    → Contains (drop 1 (new.values (address / 4096 + j))) value
each_there old new address value count j first is less =
    let entry : ℕ = address / 4096 + j in
    let put : new.values entry ≡ old.values entry ++ value ∷ [] = is.values entry ∙ ap (λ list. old.values entry ++ list) (taken_at (address / 4096) value count j less) in
    behind_put (old.values entry) (new.values entry) (value ∷ []) value (first entry) put (contains_first value [])

-- each of the values of a list is put into its entry
put_there : (entry : ℕ) (list : List ℕ) (j value : ℕ) → slice_get list j ≡ Some value → put_into entry list (entry + j) ≡ value ∷ []
put_there entry [] j value there = absurd (cc (there))
put_there entry (first ∷ list) zero value there =
    ap (λ b. cond b (first ∷ []) (put_into (entry + 1) list (entry + 0))) (eq-eqb entry (entry + 0) (omega arith)) ∙ ap (λ v. v ∷ []) (is_first first value there)
  where
    is_first : (a b : ℕ) → Some a ≡ Some b → a ≡ b
    is_first a b e = cc (e)
put_there entry (first ∷ list) (suc j) value there =
    ap (λ b. cond b (first ∷ []) (put_into (entry + 1) list (entry + suc j))) (apart (entry == (entry + suc j)) refl)
    ∙ ap (λ e. put_into (entry + 1) list e) (omega arith) ∙ put_there (entry + 1) list j value there
  where
    apart : (b : Bool) → (entry == (entry + suc j)) ≡ b → b ≡ false
    apart true e = absurd (grind (arith, nat_tests, e))
    apart false e = refl

item_there : (old new : PortState) (address : ℕ) (list : List ℕ) (j value : ℕ) → HasFirst old → Puts old address list new → slice_get list j ≡ Some value
    → Contains (drop 1 (new.values (address / 4096 + j))) value
item_there old new address list j value first is there =
    let entry : ℕ = address / 4096 + j in
    let put : new.values entry ≡ old.values entry ++ value ∷ [] = is.values entry ∙ ap (λ list. old.values entry ++ list) (put_there (address / 4096) list j value there) in
    behind_put (old.values entry) (new.values entry) (value ∷ []) value (first entry) put (contains_first value [])

-- a list that was read in the unit's region
list_read : (port : PortState) (region : RegionSeen) (list count : ℕ) (read : ReadsList port list count)
    → ((bytes : List ℕ) → Reads port list bytes → AreRead region list bytes) → IsListRead region list count read.values
list_read port region list count read reads = record {
  count_is = read.count_is;
  bytes = read.bytes;
  spelled = read.spelled;
  read = λ some. reads read.bytes (read.read some);
}

-- a call on the entries of a unit's window, of so many pages, which has these values then
pub entry_seen : {X : Type 0} (old new : PortState) (n : ℕ) (values : ℕ → List ℕ) (region : RegionSeen) (held : Type 0) (put : Entry → Type 0) (slot : Option X) (call : EntryCall) (returned : Returned)
    → old.place.size ≡ n → HasFirst old → new.values ≡ values → ((at : ℕ) (bytes : List ℕ) → Reads new at bytes → AreRead region at bytes) → (returned.code ≡ codes.Busy → held)
    → IsAnswer (entry_row call) returned → AnswersEntry old new call returned
    → IsReturned (record { pages = option_map (λ (x : X). n) slot; value_at = λ entry value. Contains (values entry) value; put_at = λ entry value. Contains (drop 1 (values entry)) value; region = region; is_held = held; entry_put = put })
    (entry_row call) (entry_arguments call) returned
entry_seen {X} old new n values region held put slot (entries.Get address) returned size first same reads busy answer is =
    let given : gives n values address (answer_by returned.code returned.r4) =
    subst (λ m. gives m values address (answer_by returned.code returned.r4)) size
    (subst (λ (v : ℕ → List ℕ). gives old.place.size v address (answer_by returned.code returned.r4)) same is) in
    record { parameter = at given slot; refused = λ e. tt; busy = λ e. tt; done = got_there n address returned.r4 values returned.code given }
  where
    at : gives n values address (answer_by returned.code returned.r4) → (o : Option X)
        → IfSome (is_taken rows.GetTce (option_map (λ (x : X). n) o) (address ∷ [])) (λ taken. (returned.code ≡ codes.Parameter) ↔ (taken ≡ false))
    at given None = tt
    at given (Some x) = get_parameter n address returned.r4 values returned.code answer.code given
entry_seen {X} old new n values region held put slot (entries.Put address value) returned size first same reads busy answer is =
    record {
      parameter = at slot;
      refused = λ e. tt;
      busy = busy;
      done = λ good. subst (λ (v : ℕ → List ℕ). Contains (drop 1 (v (address / 4096))) value) same (value_there old new address value returned.code first is.put good);
    }
  where
    at : (o : Option X)
        → IfSome (is_taken rows.PutTce (option_map (λ (x : X). n) o) (address ∷ value ∷ [])) (λ taken. (returned.code ≡ codes.Parameter) ↔ (taken ≡ false))
    at None = tt
    at (Some x) = subst (λ m. (returned.code ≡ codes.Parameter) ↔ (takes m address value ≡ false)) size is.parameter
entry_seen {X} old new n values region held put slot (entries.Stuff address value count) returned size first same reads busy answer is =
    record {
      parameter = at slot;
      refused = λ e. tt;
      busy = busy;
      done = λ good j less. subst (λ (v : ℕ → List ℕ). Contains (drop 1 (v (address / 4096 + j))) value) same (each_there old new address value count j first (is.put good) less);
    }
  where
    at : (o : Option X)
        → IfSome (is_taken rows.StuffTce (option_map (λ (x : X). n) o) (address ∷ value ∷ count ∷ [])) (λ taken. (returned.code ≡ codes.Parameter) ↔ (taken ≡ false))
    at None = tt
    at (Some x) = subst (λ m. (returned.code ≡ codes.Parameter) ↔ (takes_all m address (replicate count value) ≡ false)) size is.parameter
entry_seen {X} old new n values region held put slot (entries.PutList address list count) returned size first same reads busy answer is = record {
  parameter = at slot;
  refused = λ e. untaken e slot;
  busy = busy;
  done = λ good. put_at (is.put good) slot;
}
  where
    by : (b : Bool) → is_list n list count ≡ b → IfSome (cond b None (Some false)) (λ taken. (returned.code ≡ codes.Parameter) ↔ (taken ≡ false))
    by true lies = tt
    by false none = (λ e. refl, λ e. is.missing (subst (λ m. is_list m list count ≡ false) (sym size) none))

    at : (o : Option X)
        → IfSome (is_taken rows.PutTceIndirect (option_map (λ (x : X). n) o) (address ∷ list ∷ count ∷ [])) (λ taken. (returned.code ≡ codes.Parameter) ↔ (taken ≡ false))
    at None = tt
    at (Some x) = by (is_list n list count) refl

    untaken : returned.code ≡ codes.Parameter → (o : Option X)
        → IfSome (option_map (λ (x : X). n) o) (λ pages. is_list pages list count ≡ true → IsListUntaken region pages address list count)
    untaken e None = tt
    untaken e (Some x) = λ lies.
        let refused = is.refused e (subst (λ m. is_list m list count ≡ true) (sym size) lies) in
        record {
          values = refused.0.values;
          read = list_read new region list count refused.0 (reads list);
          refused = subst (λ m. takes_all m address refused.0.values ≡ false) size refused.1;
        }

    put_at : (read : ReadsList new list count) × (takes_all old.place.size address read.values ≡ true) × Puts old address read.values new → (o : Option X)
        → IfSome (option_map (λ (x : X). n) o) (λ pages. IsListPut
        (record { pages = option_map (λ (x : X). n) slot; value_at = λ entry value. Contains (values entry) value; put_at = λ entry value. Contains (drop 1 (values entry)) value; region = region; is_held = held; entry_put = put }) pages address list count)
    put_at both None = tt
    put_at both (Some x) = record {
      values = both.0.values;
      read = list_read new region list count both.0 (reads list);
      taken = subst (λ m. takes_all m address both.0.values ≡ true) size both.1;
      put = λ j value there. subst (λ (v : ℕ → List ℕ). Contains (drop 1 (v (address / 4096 + j))) value) same (item_there old new address both.0.values j value first both.2 there);
    }

pub entry_seen_ok : {X : Type 0} (old new : PortState) (n : ℕ) (values : ℕ → List ℕ) (region : RegionSeen) (held : Type 0) (put : Entry → Type 0) (slot : Option X) (call : EntryCall) (result : Result Returned NoMemory)
    → old.place.size ≡ n → HasFirst old → new.values ≡ values → ((at : ℕ) (bytes : List ℕ) → Reads new at bytes → AreRead region at bytes)
    → IfOk result (λ returned. returned.code ≡ codes.Busy → held) → IfOk result (IsAnswer (entry_row call)) → IfOk result (AnswersEntry old new call)
    → IfOk result (IsReturned (record { pages = option_map (λ (x : X). n) slot; value_at = λ entry value. Contains (values entry) value; put_at = λ entry value. Contains (drop 1 (values entry)) value; region = region; is_held = held; entry_put = put })
    (entry_row call) (entry_arguments call))
entry_seen_ok {X} old new n values region held put slot call (Ok returned) size first same reads busy answer is =
    entry_seen old new n values region held put slot call returned size first same reads busy answer is
entry_seen_ok {X} old new n values region held put slot call (Err memory) size first same reads busy answer is = tt

-- what is in use of a window that nobody else has a hand in is held
pub in_use_held : (old new : PortState) (result : Result Returned NoMemory) → new.held_count ≡ old.held_count → IfOk result (λ returned. BusyFor false old new returned.code)
    → IfOk result (λ returned. returned.code ≡ codes.Busy → new.held_count ≢ 0)
in_use_held old new (Ok returned) kept busy = λ e none. (busy e).held refl (sym kept ∙ none)
in_use_held old new (Err memory) kept busy = tt

-- an entry that an end sent
pub sent_by : (shared : Bool) (old new : EndState) (entry : Entry) (number : ℕ) → OnlySends shared old new → Sends shared old entry new number → IsPutBy shared new entry
sent_by shared old new entry number rest sends =
    let row : PipeRow = record { session = new.counts.partner_session; entry = entry } in
    record {
      there = subst (λ (rows : List PipeRow). Contains rows row) (sym sends.puts.sent) (Contains-append_right old.sent (row ∷ []) row (contains_first row []));
      partner = λ alone. ap (λ (place : EndPlace). place.partner_registered) rest.place ∙ sends.puts.partner alone;
    }

pub sends_one : (shared : Bool) (new : EndState) (entry : Entry) (result : Result Hrc NoMemory) → IfOk result (λ code. (code ≡ codes.Parameter) ↔ (first_byte entry < 0x80))
    → IfOk result (λ code. code ≡ codes.Success → IsPutBy shared new entry) → IfOk result (SendsOne shared new entry)
sends_one shared new entry (Ok code) parameter put = record { parameter = parameter; put = put }
sends_one shared new entry (Err memory) parameter put = tt
