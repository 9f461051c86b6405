-- Which copies are of tables and data, and how many of these a copy more leaves.
use Rattle.std.proofs.Common.{◌≡◌, ◌≢◌, ◌+◌, ◌*◌, ◌/◌, ◌<◌, ◌≤◌, ◌==◌, ◌&&◌, ◌++◌, ℕ, Bool, true, false, not, cond, filter, List, [], ◌∷◌, Some, Result, Ok, Err, OnOk, OnErr, length, slice_get, append-nil, length-append, refl, sym, ◌∙◌, ap, ap₂, subst, arith}
use Rattle.std.proofs.lemmas.Bool.{ne_eqb}
use Rattle.std.proofs.lemmas.List.Elements.{filter-append}
use Rattle.vio_num.specs.declared.names.UnitId.{UnitId}
use Rattle.page_slots.specs.declared.stroke.StrokeName.{StrokeName}
use Rattle.tce_window.specs.Pieces.{Touches}
use Rattle.tce_window.specs.PortState.{OnlyWrites, PortPlace, PortState}
use Rattle.tce_window.specs.declared.answers.Right.TheVariants.{Read, Write}
use Rattle.rdma_copy.specs.Copies.{Copies, OnlyCopies}
use Rattle.rdma_copy.specs.declared.copy.CopyRecord.{CopyRecord}
use Rattle.block_server.specs.Advances.{Advances}
use Rattle.block_server.specs.Cargo.{AreShown, data_bytes, pages_in, pages_of}
use Rattle.block_server.specs.Causes.News.{nth_delivered, nth_fetched}
use Rattle.block_server.specs.Copied.{MakesOne, own_name}
use Rattle.block_server.specs.Delivers.{DeliversOne, FetchesTo}
use Rattle.block_server.specs.Heard.{heard_between}
use Rattle.block_server.specs.Moves.{begin_on, data_copies, data_count, is_data}
use Rattle.block_server.specs.SiteState.{SameWindows, SiteState}
use Rattle.block_server.proofs.FirstPages.{other_begins, own_begins}
use Rattle.block_server.proofs.NamedWindows.{unit_same}
use Rattle.block_server.proofs.Owning.{same_first}

-- what counts is where it begins in the own window
kind_of : (unit : UnitId) (copy : CopyRecord) (to from : Bool) → copy.name.who ≡ unit → begin_on unit 0 copy.to.items ≡ to → begin_on unit 0 copy.from.items ≡ from
    → is_data unit copy ≡ (not to && not from)
kind_of unit copy to from who to_is from_is =
    ap (λ t. t && (not (begin_on unit 0 copy.to.items) && not (begin_on unit 0 copy.from.items))) (unit_same copy.name.who unit who)
    ∙ ap₂ (λ (t f : Bool). not t && not f) to_is from_is

-- a copy from the client's window to the own one
in_kind : (shared : Bool) (unit : UnitId) (own own' client : PortState) (from to len : ℕ) (copy : CopyRecord) → ((e : ℕ) → e < 34 → own'.values e ≡ (4096 * e + 3) ∷ []) → 1 ≤ len
    → to + len ≤ 139264 → own.place.unit ≡ unit → own'.place.unit ≡ unit → client.place.unit ≢ unit → Copies shared client own own' from to len (own_name own 0) copy
    → is_data unit copy ≡ (not (to / 4096 == 0) && true)
in_kind shared unit own own' client from to len copy first some inside mine mine' apart copied =
    kind_of unit copy (to / 4096 == 0) false (ap (λ (n : StrokeName). n.who) copied.name_is ∙ mine)
    (own_begins own'.values Write unit 0 to (to + length copied.lawful.bytes) copy.to.items first (omega (arith, some, inside))
    (omega (arith, some, copied.lawful.len, copied.len_is))
    (subst (λ u. Touches u to (to + length copied.lawful.bytes) copy.to.items) mine' copied.lawful.written.touched)
    copied.lawful.written.granted copied.last_written)
    (other_begins unit client.place.unit 0 from _ copy.from.items apart copied.lawful.read.touched)

-- a copy from the own window to the client's
out_kind : (shared : Bool) (unit : UnitId) (own old client client' : PortState) (from to len mark : ℕ) (copy : CopyRecord) → ((e : ℕ) → e < 34 → own.values e ≡ (4096 * e + 3) ∷ [])
    → 1 ≤ len → from + len ≤ 139264 → own.place.unit ≡ unit → old.place.unit ≡ unit → client'.place.unit ≢ unit
    → Copies shared own client client' from to len (own_name old mark) copy → is_data unit copy ≡ (true && not (from / 4096 == 0))
out_kind shared unit own old client client' from to len mark copy first some inside mine was apart copied =
    kind_of unit copy false (from / 4096 == 0) (ap (λ (n : StrokeName). n.who) copied.name_is ∙ was)
    (other_begins unit client'.place.unit 0 to _ copy.to.items apart copied.lawful.written.touched)
    (own_begins own.values Read unit 0 from (from + length copied.lawful.bytes) copy.from.items first (omega (arith, some, inside))
    (omega (arith, some, copied.lawful.len, copied.len_is))
    (subst (λ u. Touches u from (from + length copied.lawful.bytes) copy.from.items) mine copied.lawful.read.touched)
    copied.lawful.read.granted copied.last_read)

behind_first : (at : ℕ) → 4096 ≤ at → (at / 4096 == 0) ≡ false
behind_first at behind = ne_eqb (at / 4096) 0 (λ is. omega (arith, is, behind))

-- behind page 0 it is of tables or data
pub in_behind : (shared : Bool) (unit : UnitId) (own own' client : PortState) (from to len : ℕ) (copy : CopyRecord) → ((e : ℕ) → e < 34 → own'.values e ≡ (4096 * e + 3) ∷ []) → 1 ≤ len
    → to + len ≤ 139264 → 4096 ≤ to → own.place.unit ≡ unit → own'.place.unit ≡ unit → client.place.unit ≢ unit → Copies shared client own own' from to len (own_name own 0) copy
    → is_data unit copy ≡ true
in_behind shared unit own own' client from to len copy first some inside behind mine mine' apart copied =
    in_kind shared unit own own' client from to len copy first some inside mine mine' apart copied ∙ ap (λ t. not t && true) (behind_first to behind)

pub out_behind : (shared : Bool) (unit : UnitId) (own old client client' : PortState) (from to len mark : ℕ) (copy : CopyRecord) → ((e : ℕ) → e < 34 → own.values e ≡ (4096 * e + 3) ∷ [])
    → 1 ≤ len → from + len ≤ 139264 → 4096 ≤ from → own.place.unit ≡ unit → old.place.unit ≡ unit → client'.place.unit ≢ unit
    → Copies shared own client client' from to len (own_name old mark) copy → is_data unit copy ≡ true
out_behind shared unit own old client client' from to len mark copy first some inside behind mine was apart copied =
    out_kind shared unit own old client client' from to len mark copy first some inside mine was apart copied ∙ ap (λ t. true && not t) (behind_first from behind)

-- ---- how many there are

copies_more : (unit : UnitId) (old new : List CopyRecord) (copy : CopyRecord) → new ≡ old ++ copy ∷ [] → data_copies unit new ≡ data_copies unit old ++ cond (is_data unit copy) (copy ∷ []) []
copies_more unit old new copy made = ap (filter (is_data unit)) made ∙ filter-append (is_data unit) old (copy ∷ [])

pub one_more : (unit : UnitId) (old new : List CopyRecord) (copy : CopyRecord) → new ≡ old ++ copy ∷ [] → is_data unit copy ≡ true → data_copies unit new ≡ data_copies unit old ++ copy ∷ []
one_more unit old new copy made is = copies_more unit old new copy made ∙ ap (λ t. data_copies unit old ++ cond t (copy ∷ []) []) is

pub none_more : (unit : UnitId) (old new : List CopyRecord) (copy : CopyRecord) → new ≡ old ++ copy ∷ [] → is_data unit copy ≡ false → data_copies unit new ≡ data_copies unit old
none_more unit old new copy made is = copies_more unit old new copy made ∙ ap (λ t. data_copies unit old ++ cond t (copy ∷ []) []) is ∙ append-nil (data_copies unit old)

-- the copy of the first information unit, and of an answer, is none of them
pub unit_uncounted : (shared : Bool) (client own own' : PortState) (address len : ℕ) (old new : List CopyRecord) → ((e : ℕ) → e < 34 → own'.values e ≡ (4096 * e + 3) ∷ [])
    → 1 ≤ len → len ≤ 4096 → own'.place ≡ own.place → client.place.unit ≢ own.place.unit → MakesOne shared client own own' address 0 len (own_name own 0) old new
    → data_count own.place.unit new ≡ data_count own.place.unit old
unit_uncounted shared client own own' address len old new first some few place apart made =
    ap length (none_more own.place.unit old new made.copy made.made
    (in_kind shared own.place.unit own own' client address 0 len made.copy first some (omega (arith, few)) refl (ap (λ p. p.unit) place) apart made.copied))

pub answer_uncounted : (shared : Bool) (own before client client' : PortState) (address len mark : ℕ) (old new : List CopyRecord) → ((e : ℕ) → e < 34 → own.values e ≡ (4096 * e + 3) ∷ [])
    → 1 ≤ len → len ≤ 4096 → own.place ≡ before.place → client.place.unit ≢ before.place.unit → MakesOne shared own client client' 0 address len (own_name before mark) old new
    → data_count before.place.unit new ≡ data_count before.place.unit old
answer_uncounted shared own before client client' address len mark old new first some few place apart made =
    ap length (none_more before.place.unit old new made.copy made.made
    (out_kind shared before.place.unit own before client client' 0 address len mark made.copy first some (omega (arith, few)) (ap (λ p. p.unit) place) refl
    (λ is. apart (sym (ap (λ p. p.unit) made.rest.place) ∙ is)) made.copied))

-- what was not changed shows the same, and counts as many
pub same_pages : (own own' : PortState) (copies copies' : List CopyRecord) → data_bytes own' ≡ data_bytes own → own'.place ≡ own.place
    → data_count own.place.unit copies' ≡ data_count own.place.unit copies → pages_in own' copies' ≡ pages_in own copies
unfolding pages_in
same_pages own own' copies copies' bytes place count i = record { bytes = bytes i; count = (ap (λ p. data_count p.unit copies') place ∙ count) i }

-- what pages show
pub pages_show : (own : PortState) (copies : List CopyRecord) (k : ℕ) → (pages_in own copies).bytes k ≡ data_bytes own k
unfolding pages_in
pages_show own copies k = refl

pub shown_in : (own : PortState) (copies : List CopyRecord) (bytes : List ℕ) → AreShown (data_bytes own) bytes → AreShown (pages_in own copies).bytes bytes
unfolding pages_in
shown_in own copies bytes is = is

pub still_pages : (old new : SiteState) → SameWindows old new → pages_of new ≡ pages_of old
still_pages old new same i = pages_in (same.own i) (same.copies i)

-- ---- what a copy of them tells

get_end : (list : List CopyRecord) (copy : CopyRecord) → slice_get (list ++ copy ∷ []) (length list) ≡ Some copy
get_end [] copy = refl
get_end (first ∷ list) copy = get_end list copy

pub nth_of_fetch : (old new : SiteState) (address at : ℕ) (bytes : List ℕ) → new.own.place ≡ old.own.place → FetchesTo old new address at bytes
    → heard_between old new (nth_fetched (pages_of old).count address at bytes)
unfolding pages_in
nth_of_fetch old new address at bytes place one = record {
  copy = one.copy;
  since = omega (arith, ap (λ p. data_count p.unit old.copies) place);
  there = subst (λ (u : UnitId). slice_get (data_copies new.own.place.unit new.copies) (data_count u old.copies) ≡ Some one.copy) (ap (λ p. p.unit) place)
      (ap (λ list. slice_get list (data_count new.own.place.unit old.copies)) (one_more new.own.place.unit old.copies new.copies one.copy one.made one.kind)
      ∙ get_end (data_copies new.own.place.unit old.copies) one.copy);
  is = one.fetched;
}

pub nth_of_delivery : (old new : SiteState) (at address mark : ℕ) (bytes : List ℕ) → new.own.place ≡ old.own.place → (one : DeliversOne old new at address mark bytes)
    → is_data new.own.place.unit one.copy ≡ true → heard_between old new (nth_delivered (pages_of old).count at address mark bytes)
unfolding pages_in
nth_of_delivery old new at address mark bytes place one kind = record {
  copy = one.copy;
  since = omega (arith, ap (λ p. data_count p.unit old.copies) place);
  there = subst (λ (u : UnitId). slice_get (data_copies new.own.place.unit new.copies) (data_count u old.copies) ≡ Some one.copy) (ap (λ p. p.unit) place)
      (ap (λ list. slice_get list (data_count new.own.place.unit old.copies)) (one_more new.own.place.unit old.copies new.copies one.copy one.made kind)
      ∙ get_end (data_copies new.own.place.unit old.copies) one.copy);
  is = one.delivered;
}

pub count_more : (own own' : PortState) (copies copies' : List CopyRecord) (copy : CopyRecord) → own'.place ≡ own.place → copies' ≡ copies ++ copy ∷ [] → is_data own'.place.unit copy ≡ true
    → (pages_in own' copies').count ≡ (pages_in own copies).count + 1
unfolding pages_in
count_more own own' copies copies' copy place made kind =
    ap length (one_more own'.place.unit copies copies' copy made kind) ∙ length-append (data_copies own'.place.unit copies) (copy ∷ [])
    ∙ ap (λ p. data_count p.unit copies + 1) place

pub same_total : (own own' : PortState) (copies copies' : List CopyRecord) → own'.place ≡ own.place → copies' ≡ copies → (pages_in own' copies').count ≡ (pages_in own copies).count
unfolding pages_in
same_total own own' copies copies' place same i = data_count (place i).unit (same i)

-- none is gone
pub count_grows : (old new : SiteState) → Advances old new → (pages_of old).count ≤ (pages_of new).count
unfolding pages_in
count_grows old new grows =
    omega (
      arith,
      ap (λ list. length (filter (is_data new.own.place.unit) list)) grows.copies.made,
      ap length (filter-append (is_data new.own.place.unit) old.copies grows.copies.more),
      length-append (data_copies new.own.place.unit old.copies) (data_copies new.own.place.unit grows.copies.more),
      ap (λ p. data_count p.unit old.copies) grows.own_place,
    )

-- ---- calls of the windows

pub apart_still : (old new : PortPlace) (unit : UnitId) → new ≡ old → old.unit ≢ unit → new.unit ≢ unit
apart_still old new unit same apart is = apart (sym (ap (λ (p : PortPlace). p.unit) same) ∙ is)

pub same_count : (unit : UnitId) (old new : List CopyRecord) → new ≡ old → data_count unit new ≡ data_count unit old
same_count unit old new same = ap (data_count unit) same

pub err_pages : {T E : Type 0} (result : Result T E) (own own' : PortState) (copies copies' : List CopyRecord) → own'.place ≡ own.place → OnErr result (data_bytes own' ≡ data_bytes own)
    → OnErr result (copies' ≡ copies) → OnErr result (pages_in own' copies' ≡ pages_in own copies)
err_pages (Ok value) own own' copies copies' place bytes none = tt
err_pages (Err error) own own' copies copies' place bytes none = same_pages own own' copies copies' bytes place (ap (data_count own.place.unit) none)

-- an answer that was written and copied, or not
pub answer_counted : {T E : Type 0} (result : Result T E) (own_shared shared : Bool) (before own own' client mid client' : PortState) (address len mark : ℕ) (old copies new : List CopyRecord)
    → own_shared ≡ false → ((e : ℕ) → e < 34 → before.values e ≡ (4096 * e + 3) ∷ []) → 1 ≤ len → len ≤ 4096 → OnlyWrites before own → OnlyCopies own_shared own own'
    → mid ≡ client → client.place.unit ≢ before.place.unit → copies ≡ old
    → OnOk result (MakesOne shared own' mid client' 0 address len (own_name own mark) copies new) → OnErr result (new ≡ copies)
    → data_count before.place.unit new ≡ data_count before.place.unit old
answer_counted (Ok value) own_shared shared before own own' client mid client' address len mark old copies new alone first some few wrote rest same apart before_is made none =
    by_place (answer_uncounted shared own' own mid client' address len mark copies new (same_first own_shared own own' alone rest (λ e below. ap (λ v. v e) wrote.values ∙ first e below)) some few rest.place
    (λ is. apart (sym (ap (λ (p : PortState). p.place.unit) same) ∙ is ∙ ap (λ p. p.unit) wrote.place)) made)
  where
    by_place : data_count own.place.unit new ≡ data_count own.place.unit copies → data_count before.place.unit new ≡ data_count before.place.unit old
    by_place is = ap (λ p. data_count p.unit new) (sym wrote.place) ∙ is ∙ ap (λ p. data_count p.unit copies) wrote.place ∙ ap (data_count before.place.unit) before_is
answer_counted (Err error) own_shared shared before own own' client mid client' address len mark old copies new alone first some few wrote rest same apart before_is made none =
    ap (data_count before.place.unit) (none ∙ before_is)
