-- That the buffers of a port keep their own addresses as their correlators.
use Rattle.std.proofs.Common.{◌≡◌, ◌+◌, ◌/◌, ◌<◌, ◌^◌, ℕ, arith, All, Bool, false, IfOk, IsSome, OnOk, List, [], ◌∷◌, ◌++◌, Option, Some, None, Result, Ok, Err, map, get_or, refl, sym, ◌∙◌, ap, subst}
use Rattle.std.proofs.lemmas.List.Elements.{All-append, All-cons, All-nil}
use Rattle.byteorder.specs.Endian.{big_bytes, big_number}
use Rattle.byteorder.specs.Numbers.{big_number-reads_back}
use Rattle.vio_num.specs.declared.hypervisor.Hrc.{Hrc}
use Rattle.vio_num.specs.declared.memory.NoMemory.{NoMemory}
use Rattle.vio_num.specs.declared.names.UnitId.{UnitId}
use Rattle.vio_trace.specs.declared.lan_rows.PostRow.{PostRow}
use Rattle.vio_trace.specs.declared.outcome.Outcome.TheVariants as outcomes
use Rattle.boot_text.specs.declared.verb.Verb.TheVariants as verbs
use Rattle.tce_window.specs.PlainPort.{known_of}
use Rattle.tce_window.specs.PortState.{PortState}
use Rattle.tce_window.specs.Region.{region_byte}
use Rattle.tce_window.specs.Window.{WindowValue}
use Rattle.lan_buffers.specs.Buffer.{buffer_address}
use Rattle.lan_buffers.specs.Port.{PortValue}
use Rattle.lan_switch.specs.declared.answers.LanAnswer.{LanAnswer}
use Rattle.lan_switch.specs.declared.station.Station.{Station}
use Rattle.lan_switch.specs.Calls.{Adds, ReadsCorrelator}
use Rattle.lan_switch.specs.Source.{OnlyReadThrough}
use Rattle.lan_switch.specs.Switch.{AtPort, MadeAt, port_of}
use Rattle.lan_script.specs.Buffers.{posted_at as buffers_at, posted_of}
use Rattle.lan_script.specs.Correlators.{CarriesAddress, CarryAddresses, KeepsAddresses, ShowsAddress}
use Rattle.lan_script.specs.Invariant.{IsLan, posts_at, posted_in}
use Rattle.lan_script.specs.PortCounts.{CountsOn, CountsStep, PortCounts, SameCounts, counts, counts_in}
use Rattle.lan_script.specs.Replayed.{Shows}
use Rattle.lan_script.specs.Rows.{post_rows}
use Rattle.lan_script.specs.Seats.{seat_at}
use Rattle.lan_script.specs.Spent.{Grows}
use Rattle.lan_script.specs.Taking.{TakesUpTo}
use Rattle.lan_script.specs.Units.{LanValue}
use Rattle.lan_script.specs.Values.{AreOwn, NamesOwn, SameValues}
use Rattle.lan_script.specs.Windows.{facts_in, facts_of, window_in}
use Rattle.lan_script.specs.declared.lines.PortStep.{PortStep}
use Rattle.lan_script.specs.declared.lines.PortStep.TheVariants as steps
use Rattle.lan_script.specs.declared.windows.Place.{Place}
use Rattle.lan_script.proofs.Bringing.{begun_at}
use Rattle.lan_script.proofs.Buffering.{begins_whole}
use Rattle.lan_script.proofs.Called.{by_code}
use Rattle.lan_script.proofs.CountedCalls.{HasBegun, adds_begun}
use Rattle.lan_script.proofs.Lans.{port_there, port_with}
use Rattle.lan_script.proofs.OwnPages.{names_kept}
use Rattle.lan_script.proofs.PostRows.{rows_behind}
use Rattle.lan_script.proofs.RegionShown.{reads_shown}

-- ---- where none was posted

-- a port that posted none more has the posts that it had
pub rows_still : (unit : UnitId) (before after : Option PortValue) → Grows before after → (counts_in unit after).posts ≡ (counts_in unit before).posts
    → posted_in unit after ≡ posted_in unit before
rows_still unit None None grows same = refl
rows_still unit None (Some after) grows same = absurd grows
rows_still unit (Some before) None grows same = absurd grows
rows_still unit (Some before) (Some after) grows same = begins_whole (post_rows unit before) (post_rows unit after) (grows.rows unit) same

pub still_carry : (unit : UnitId) (old new : LanValue) → posts_at new.stations unit ≡ posts_at old.stations unit → KeepsAddresses unit old new
still_carry unit old new e = subst (λ (l : List PostRow). All CarriesAddress l) (sym e)

pub posts_same : (unit : UnitId) (old new : LanValue) → SameCounts old new → posts_at new.stations unit ≡ posts_at old.stations unit
posts_same unit old new same =
    rows_still unit (port_of old.stations unit) (port_of new.stations unit) (same.grows unit) (ap (λ (c : PortCounts). c.posts) (same.same unit))

pub same_carry : (unit : UnitId) (old new : LanValue) → SameCounts old new → KeepsAddresses unit old new
same_carry unit old new same = still_carry unit old new (posts_same unit old new same)

counts_carry : (unit : UnitId) (a b : PortCounts) (old new : LanValue) → a.posts ≡ b.posts → CountsOn unit a b old new → KeepsAddresses unit old new
counts_carry unit a b old new same h =
    still_carry unit old new
    (rows_still unit (port_of old.stations unit) (port_of new.stations unit) (h.grows unit) (omega (arith, h.posts, same)))

-- a port that posted none
no_rows : (rows : List PostRow) → map (λ (r : PostRow). r.descriptor) rows ≡ [] → rows ≡ []
no_rows [] e = refl
no_rows (row ∷ rows) e = absurd (cc (e))

pub none_carry : (lan : LanValue) (unit : UnitId) → buffers_at lan unit ≡ [] → CarryAddresses lan unit
none_carry lan unit none = by (port_of lan.stations unit) none
  where
    by : (o : Option PortValue) → posted_of unit o ≡ [] → All CarriesAddress (posted_in unit o)
    by None e = All-nil CarriesAddress
    by (Some port) e = subst (λ (l : List PostRow). All CarriesAddress l) (sym (no_rows (post_rows unit port) e)) (All-nil CarriesAddress)

-- ---- a call that posts

-- a port to whose posts one is added that carries its address
adds_row : (before after : List PostRow) (row : PostRow) → after ≡ before ++ row ∷ [] → CarriesAddress row → All CarriesAddress before
    → All CarriesAddress after
adds_row before after row e own carry =
    subst (λ (l : List PostRow). All CarriesAddress l) (sym e)
    (All-append CarriesAddress before (row ∷ []) carry (All-cons CarriesAddress row [] own (All-nil CarriesAddress)))

-- What a call at a port leaves of its posts.
record PortCarries (before after : PortValue) : Type 0 where
  unit : after.unit ≡ before.unit
  keeps : (v : UnitId) → All CarriesAddress (post_rows v before) → All CarriesAddress (post_rows v after)

-- the correlators that are read are the address
abbrev ReadsAddress : PortState → PortState → ℕ → Type 0
ReadsAddress window window' address = (correlator : ℕ) → ReadsCorrelator window window' address correlator → correlator ≡ address

port_carries : (descriptor : ℕ) (is_shared : Bool) (Found : ℕ → ℕ → Type 0) (window window' : PortState) (answer : LanAnswer) (before after : PortValue)
    → HasBegun before → ReadsAddress window window' (buffer_address descriptor) → Adds descriptor is_shared Found window window' answer before after
    → PortCarries before after
port_carries descriptor is_shared Found window window' answer before after begun reads h =
    by_code answer.code (PortCarries before after)
    (λ e.
    let posted = (h.success e).posts.posted in
    record {
      unit = ap (λ (p : PortValue). p.unit) posted.rest;
      keeps = λ v carry.
          adds_row (post_rows v before) (post_rows v after) _
          (rows_behind before after _ v posted.posted (ap (λ (p : PortValue). p.drop_counts) posted.rest) refl
          (adds_begun descriptor is_shared Found window window' answer before after begun h e))
          (reads (h.success e).correlator (h.success e).read) carry;
    })
    (λ not. record {
      unit = ap (λ (p : PortValue). p.unit) (h.refused not);
      keeps = λ v. subst (λ (p : PortValue). All CarriesAddress (post_rows v p)) (sym (h.refused not));
    })

-- the switch made it at the port
at_carries : (old : List Station) (unit : UnitId) (new : List Station) (P : PortValue → PortValue → Type 0)
    → ((before after : PortValue) → port_of old unit ≡ Some before → P before after → PortCarries before after) → AtPort old unit new P
    → All CarriesAddress (posts_at old unit) → All CarriesAddress (posts_at new unit)
at_carries old unit new P has h carry =
    subst (λ (o : Option PortValue). All CarriesAddress (posted_in unit o)) (sym there)
    (kept.keeps unit (subst (λ (o : Option PortValue). All CarriesAddress (posted_in unit o)) h.was carry))
  where
    kept : PortCarries h.before h.after
    kept = has h.before h.after h.was h.done

    there : port_of new unit ≡ Some h.after
    there = ap (λ l. port_of l unit) h.rest ∙ port_with unit old h.before h.after h.was kept.unit

-- what is read of a region that shows the address
reads_address : (lan : LanValue) (unit : UnitId) (descriptor : ℕ) (own own' : WindowValue) → window_in unit lan.places ≡ Some own
    → OnlyReadThrough false (known_of own) (known_of own') → NamesOwn lan unit → ShowsAddress lan unit descriptor
    → ReadsAddress (known_of own) (known_of own') (buffer_address descriptor)
reads_address lan unit descriptor own own' here through names shows correlator r =
    r.number
    ∙ ap (λ l. big_number 8 l)
    (reads_shown (known_of own) (known_of own') (buffer_address descriptor) r.pieces r.bytes shows.bytes through r.reads values (r.long ∙ sym shows.long)
    (λ k less.
    subst (λ (o : Option WindowValue). IsSome ((facts_of unit lan.places o).strokes ((buffer_address descriptor + k) / 4096))) here (shows.shown.there k less))
    (λ k less.
    subst (λ (o : Option WindowValue). region_byte (facts_of unit lan.places o).strokes (buffer_address descriptor + k) ≡ get_or shows.bytes k 0) here
    (shows.shown.each k less)))
    ∙ shows.number
  where
    values : AreOwn (known_of own).values
    values e = subst (λ (o : Option WindowValue). All (λ v. v / 4096 ≡ e) ((facts_of unit lan.places o).values e)) here (names e)

shows_kept : (unit : UnitId) (descriptor : ℕ) (old new : LanValue) → new.places ≡ old.places → ShowsAddress old unit descriptor → ShowsAddress new unit descriptor
shows_kept unit descriptor old new same h = record {
  bytes = h.bytes;
  long = h.long;
  number = h.number;
  shown = subst (λ (ps : List Place). Shows ps unit (buffer_address descriptor) h.bytes) (sym same) h.shown;
}

-- a call that was made through the window that was taken for it
pub made_carries : (lan now mid : LanValue) (ss : List Station) (unit : UnitId) (answer : LanAnswer) (descriptor : ℕ) (Found : ℕ → ℕ → Type 0)
    (own own' : WindowValue) → lan ≡ mid → IsLan lan → IsSome (seat_at mid.seats unit) → window_in unit lan.places ≡ Some own
    → OnlyReadThrough false (known_of own) (known_of own')
    → MadeAt lan.stations unit answer ss (Adds descriptor false Found (known_of own) (known_of own') answer)
    → mid.places ≡ now.places → SameCounts now mid → NamesOwn now unit → ShowsAddress now unit descriptor → CarryAddresses now unit
    → All CarriesAddress (posts_at ss unit)
made_carries lan now mid ss unit answer descriptor Found own own' same is there here through made places counted names shows carry =
    at_carries lan.stations unit ss (Adds descriptor false Found (known_of own) (known_of own') answer)
    (λ before after was h.
    port_carries descriptor false Found (known_of own) (known_of own') answer before after (begun_at lan.stations unit before is.begun was)
    (reads_address lan unit descriptor own own' here through
    (subst (λ (ps : List Place). AreOwn (λ e. (facts_in ps unit).values e)) (sym placed) names) (shows_kept unit descriptor now lan placed shows)) h)
    (made.made (port_there lan mid unit same is there))
    (subst (λ (l : LanValue). CarryAddresses l unit) (sym same) (same_carry unit now mid counted carry))
  where
    placed : lan.places ≡ now.places
    placed = ap (λ (l : LanValue). l.places) same ∙ places

-- ---- a line that posts

-- an address in 8 bytes
pub address_bytes : (address : ℕ) (rest bytes : List ℕ) → bytes ≡ big_bytes 8 address ++ rest → address < 2 ^ 64 → big_number 8 bytes ≡ address
address_bytes address rest bytes e less = ap (λ l. big_number 8 l) e ∙ big_number-reads_back 8 address rest (omega (arith, less))

-- a buffer whose address was written to its begin
pub one_carries : (unit : UnitId) (descriptor : ℕ) (r : Result Hrc NoMemory) (old mid new : LanValue) → SameCounts old mid → SameValues old mid
    → ShowsAddress mid unit descriptor → (NamesOwn mid unit → ShowsAddress mid unit descriptor → OnOk r (KeepsAddresses unit mid new))
    → NamesOwn old unit → OnOk r (KeepsAddresses unit old new)
one_carries unit descriptor (Ok code) old mid new counted values shows adds names = λ carry.
    adds (names_kept unit old mid (values unit) names) shows (same_carry unit old mid counted carry)
one_carries unit descriptor (Err memory) old mid new counted values shows adds names = tt

-- a buffer more
pub then_carries : (unit : UnitId) (old mid new : LanValue) → SameValues old mid → (NamesOwn old unit → KeepsAddresses unit old mid)
    → (NamesOwn mid unit → KeepsAddresses unit mid new) → NamesOwn old unit → KeepsAddresses unit old new
then_carries unit old mid new values before adds names carry = adds (names_kept unit old mid (values unit) names) (before names carry)

-- ---- the arms of a step

pub carry_here : (unit : UnitId) (old new : LanValue) → SameCounts old new → NamesOwn old unit → KeepsAddresses unit old new
carry_here unit old new same names = same_carry unit old new same

pub carry_ok : {X : Type 0} (unit : UnitId) (r : Result X NoMemory) (old new : LanValue) → OnOk r (SameCounts old new)
    → NamesOwn old unit → OnOk r (KeepsAddresses unit old new)
carry_ok unit (Ok x) old new same names = same_carry unit old new same
carry_ok unit (Err memory) old new same names = tt

takes_carry : (unit : UnitId) (count done : ℕ) (step : PortStep) (old new : LanValue) → TakesUpTo count done step
    → CountsStep unit (verbs.Take count) done step old new → KeepsAddresses unit old new
takes_carry unit count done (steps.Ends (outcomes.Took taken)) old new within h = counts_carry unit (counts 0 done) (counts 0 taken) old new refl h
takes_carry unit count done (steps.Waits did far) old new within h = counts_carry unit (counts 0 done) (counts 0 far) old new refl h
takes_carry unit count done (steps.Ends outcome) old new within h = absurd within

pub carry_taken : (unit : UnitId) (count done : ℕ) (r : Result PortStep NoMemory) (old new : LanValue) → IfOk r (TakesUpTo count done)
    → IfOk r (λ step. CountsStep unit (verbs.Take count) done step old new) → NamesOwn old unit → OnOk r (KeepsAddresses unit old new)
carry_taken unit count done (Ok step) old new within h names = takes_carry unit count done step old new within h
carry_taken unit count done (Err memory) old new within h names = tt
