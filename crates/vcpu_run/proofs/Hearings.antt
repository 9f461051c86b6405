-- What is shown of windows and copies is shown of them later, and is all that a turn's windows told; and whether it is shown is decided.
use Rattle.std.proofs.Common.{◌≡◌, ◌∙◌, ◌++◌, ℕ, ◌/◌, ◌<◌, ◌≤◌, Bool, true, false, List, [], ◌∷◌, Option, Some, None, Contains, length, slice_get, zero, suc, refl, sym, ap, subst, arith}
use Rattle.std.proofs.lemmas.List.Elements.{Contains-append_left, Contains-append_right, filter-append}
use native.Mathlib.Decide.{ℕ_discrete, dec_le, dec_lt, map_dec}
use Rattle.vio_num.specs.Words.{Begins}
use Rattle.vio_num.specs.declared.names.UnitId.{UnitId}
use Rattle.page_slots.specs.declared.stroke.StrokeName.{StrokeName}
use Rattle.tce_window.specs.Grant.{grants, told}
use Rattle.tce_window.specs.Moved.{IsReadFrom, IsWrittenTo}
use Rattle.tce_window.specs.Pieces.{AreUsable, IsOfEntry, IsRefused, end_entry}
use Rattle.tce_window.specs.PortState.{PortState}
use Rattle.tce_window.specs.declared.answers.HoldFault.{HoldFault}
use Rattle.tce_window.specs.declared.answers.HoldFault.TheVariants.{InUse, NotGranted, Past}
use Rattle.tce_window.specs.declared.answers.Right.{Right}
use Rattle.rdma_copy.proofs.Laws.{read_stays, written_stays}
use Rattle.rdma_copy.specs.Copies.{side_of as side_at}
use Rattle.rdma_copy.specs.Copy.{Side, SideGrows}
use Rattle.rdma_copy.specs.declared.copy.CopyRecord.{CopyRecord}
use Rattle.block_server.specs.Causes.{Includes, News}
use Rattle.block_server.specs.Causes.News.{delivered, denied, fetched, nth_delivered, nth_fetched}
use Rattle.block_server.specs.Heard.{IsMadeBetween, heard_of}
use Rattle.block_server.specs.Moves.{data_copies, is_data}
use Rattle.vcpu_run.specs.News.{HasDenied, HasGranted, HasLacked, HasMoved, HaveGranted, IsNth, IsReached, MovesBytes, hearing}
use Rattle.vcpu_run.proofs.Choices.{all_three, both, given, each_below, one_at, one_of, reading, same_bool, same_name, writing}

-- LATER ------------------------------------------------------------------------------------------

still_there : (xs rest : List ℕ) (n x : ℕ) → slice_get xs n ≡ Some x → slice_get (xs ++ rest) n ≡ Some x
still_there [] rest n x is = absurd (cc (is))
still_there (y ∷ ys) rest zero x is = is
still_there (y ∷ ys) rest (suc n) x is = still_there ys rest n x is

shown_on : (front whole : List ℕ) (n x : ℕ) → Begins front whole → slice_get front n ≡ Some x → slice_get whole n ≡ Some x
shown_on front whole n x begins is = subst (λ (list : List ℕ). slice_get list n ≡ Some x) (sym begins.1) (still_there front begins.0 n x is)

granted_on : (values values' : ℕ → List ℕ) (right : Right) (e : ℕ) → Begins (values e) (values' e) → HasGranted values right e → HasGranted values' right e
granted_on values values' right e begins is = record {
  version = is.version;
  value = is.value;
  shown = shown_on (values e) (values' e) is.version is.value begins is.shown;
  granted = is.granted;
}

reached_on : (values values' : ℕ → List ℕ) (right : Right) (n address len entry : ℕ) → ((e : ℕ) → Begins (values e) (values' e))
    → IsReached values right n address len entry → IsReached values' right n address len entry
reached_on values values' right n address len entry begins is = record {
  from = is.from;
  to = is.to;
  before = λ e first below. ((is.before e first below).0, granted_on values values' right e (begins e) (is.before e first below).1);
}

denied_on : (values values' : ℕ → List ℕ) (right : Right) (n address len : ℕ) (fault : HoldFault) → ((e : ℕ) → Begins (values e) (values' e))
    → HasDenied values right n address len fault → HasDenied values' right n address len fault
denied_on values values' right n address len (Past entry) begins is = (reached_on values values' right n address len entry begins is.0, is.1)
denied_on values values' right n address len (NotGranted entry version tce) begins is = (
  reached_on values values' right n address len entry begins is.0,
  is.1,
  record {
    value = is.2.value;
    shown = shown_on (values entry) (values' entry) version is.2.value (begins entry) is.2.shown;
    lacked = is.2.lacked;
    told_is = is.2.told_is;
  },
)
denied_on values values' right n address len (InUse page word) begins is = absurd is

-- a copy between windows of which more is known
moves_on : (source source' target target' : Side) (name name' : StrokeName) (from to : ℕ) (bytes : List ℕ) (copy : CopyRecord) → SideGrows source source' → SideGrows target target' → name ≡ name'
    → MovesBytes source target name from to bytes copy → MovesBytes source' target' name' from to bytes copy
moves_on source source' target target' name name' from to bytes copy source_grows target_grows same is = record {
  name_is = is.name_is ∙ same;
  len_is = is.len_is;
  read = subst (λ unit. IsReadFrom unit source'.values source'.strokes from copy.from.items bytes) (sym source_grows.unit)
      (read_stays source.unit from copy.from.items bytes source.values source'.values source.strokes source'.strokes source_grows.values source_grows.strokes is.read);
  written = subst (λ (n : StrokeName). IsWrittenTo target'.unit target'.values target'.strokes to n copy.to.items bytes) same
      (subst (λ unit. IsWrittenTo unit target'.values target'.strokes to name copy.to.items bytes) (sym target_grows.unit)
      (written_stays target.unit to name copy.to.items bytes target.values target'.values target.strokes target'.strokes target_grows.values target_grows.strokes is.written));
}

-- copies among more
pub listed_on : (copies copies' : List CopyRecord) → Begins copies copies' → (copy : CopyRecord) → Contains copies copy → Contains copies' copy
listed_on copies copies' begins copy listed = subst (λ (list : List CopyRecord). Contains list copy) (sym begins.1) (Contains-append_left copies begins.0 copy listed)

still_copy : (list rest : List CopyRecord) (n : ℕ) (copy : CopyRecord) → slice_get list n ≡ Some copy → slice_get (list ++ rest) n ≡ Some copy
still_copy [] rest n copy is = absurd (cc (is))
still_copy (first ∷ list) rest zero copy is = is
still_copy (first ∷ list) rest (suc n) copy is = still_copy list rest n copy is

pub nth_on : (unit : UnitId) (copies copies' : List CopyRecord) → Begins copies copies' → (number : ℕ) (copy : CopyRecord) → IsNth unit copies number copy → IsNth unit copies' number copy
nth_on unit copies copies' begins number copy is =
    subst (λ (list : List CopyRecord). slice_get list number ≡ Some copy) (sym (ap (data_copies unit) begins.1 ∙ filter-append (is_data unit) copies begins.0))
    (still_copy (data_copies unit copies) (data_copies unit begins.0) number copy is)

abbrev name_of : UnitId → ℕ → StrokeName
name_of unit mark = record { who = unit; mark = mark }

named_on : (own own' : Side) (mark : ℕ) → SideGrows own own' → name_of own.unit mark ≡ name_of own'.unit mark
named_on own own' mark grows = ap (λ unit. name_of unit mark) (sym grows.unit)

pub hearing_on : (Listed Listed' : CopyRecord → Type 0) (Nth Nth' : ℕ → CopyRecord → Type 0) (own own' client client' : Side) (pages pages' : ℕ)
    → ((copy : CopyRecord) → copy.name.who ≡ own.unit → Listed copy → Listed' copy) → ((number : ℕ) (copy : CopyRecord) → Nth number copy → Nth' number copy)
    → SideGrows own own' → SideGrows client client'
    → pages ≡ pages' → Includes (hearing Listed Nth own client pages) (hearing Listed' Nth' own' client' pages')
hearing_on Listed Listed' Nth Nth' own own' client client' pages pages' more nth own_grows client_grows same (denied right address len fault) is =
    subst (λ (n : ℕ). HasDenied client'.values right n address len fault) same (denied_on client.values client'.values right pages address len fault client_grows.values is)
hearing_on Listed Listed' Nth Nth' own own' client client' pages pages' more nth own_grows client_grows same (fetched address at bytes) is = record {
  copy = is.copy;
  listed = more is.copy (ap (λ (name : StrokeName). name.who) is.moves.name_is) is.listed;
  moves = moves_on client client' own own' (name_of own.unit 0) (name_of own'.unit 0) address at bytes is.copy client_grows own_grows (named_on own own' 0 own_grows) is.moves;
}
hearing_on Listed Listed' Nth Nth' own own' client client' pages pages' more nth own_grows client_grows same (delivered at address mark bytes) is = record {
  copy = is.copy;
  listed = more is.copy (ap (λ (name : StrokeName). name.who) is.moves.name_is) is.listed;
  moves = moves_on own own' client client' (name_of own.unit mark) (name_of own'.unit mark) at address bytes is.copy own_grows client_grows (named_on own own' mark own_grows) is.moves;
}
hearing_on Listed Listed' Nth Nth' own own' client client' pages pages' more nth own_grows client_grows same (nth_fetched number address at bytes) is = record {
  copy = is.copy;
  listed = nth number is.copy is.listed;
  moves = moves_on client client' own own' (name_of own.unit 0) (name_of own'.unit 0) address at bytes is.copy client_grows own_grows (named_on own own' 0 own_grows) is.moves;
}
hearing_on Listed Listed' Nth Nth' own own' client client' pages pages' more nth own_grows client_grows same (nth_delivered number at address mark bytes) is = record {
  copy = is.copy;
  listed = nth number is.copy is.listed;
  moves = moves_on own own' client client' (name_of own.unit mark) (name_of own'.unit mark) at address bytes is.copy own_grows client_grows (named_on own own' mark own_grows) is.moves;
}

-- A TURN -----------------------------------------------------------------------------------------

usable_on : (values last : ℕ → List ℕ) (right : Right) (n first entry : ℕ) → ((e : ℕ) → Begins (values e) (last e)) → AreUsable values right n first entry → HaveGranted last right n first entry
usable_on values last right n first entry begins is e from below =
    let at = is e from below in (
      at.0,
      record {
        version = at.1.version;
        value = at.1.value;
        shown = shown_on (values e) (last e) at.1.version at.1.value (begins e) at.1.current.shown;
        granted = at.1.granted;
      },
    )

refused_shown : (values last : ℕ → List ℕ) (right : Right) (n address len : ℕ) (fault : HoldFault) → ((e : ℕ) → Begins (values e) (last e)) → IsOfEntry fault
    → IsRefused values right n address len fault → HasDenied last right n address len fault
refused_shown values last right n address len (Past entry) begins of is = (
  record { from = is.0; to = is.1; before = usable_on values last right n (address / 4096) entry begins is.3 },
  is.2,
)
refused_shown values last right n address len (NotGranted entry version tce) begins of is = (
  record { from = is.0; to = is.1; before = usable_on values last right n (address / 4096) entry begins is.4 },
  is.2,
  record {
    value = is.3.0;
    shown = shown_on (values entry) (last entry) version is.3.0 (begins entry) is.3.1.shown;
    lacked = is.3.2;
    told_is = is.3.3;
  },
)
refused_shown values last right n address len (InUse page word) begins of is = absurd of

-- a copy that was made is listed
contains_first : (copy : CopyRecord) (rest : List CopyRecord) → Contains (copy ∷ rest) copy
contains_first copy rest = (zero, omega arith, refl)

made_listed : (P : CopyRecord → Type 0) (old new : List CopyRecord) (is : IsMadeBetween P old new) → Contains new is.copy
made_listed P old new is =
    subst (λ (list : List CopyRecord). Contains list is.copy) (sym is.made)
    (Contains-append_right old (is.front ++ is.copy ∷ is.rest) is.copy (Contains-append_right is.front (is.copy ∷ is.rest) is.copy (contains_first is.copy is.rest)))

-- All that a turn's windows told is shown behind it.
pub turn_shown : (shared : Bool) (own client client' : PortState) (copies copies' : List CopyRecord) → client'.place.size ≡ client.place.size
    → Includes (heard_of shared own client client' copies copies') (hearing (Contains copies') (IsNth own.place.unit copies') (side_at own) (side_at client') client'.place.size)
turn_shown shared own client client' copies copies' size (denied right address len fault) is =
    refused_shown is.values client'.values right client'.place.size address len fault is.until is.of_entry
    (subst (λ (n : ℕ). IsRefused is.values right n address len fault) (sym size) is.refused)
turn_shown shared own client client' copies copies' size (fetched address at bytes) is = record {
  copy = is.copy;
  listed = made_listed _ copies copies' is;
  moves = record {
    name_is = is.is.name_is;
    len_is = is.is.len_is;
    read = is.is.read;
    written = subst (λ (n : StrokeName). IsWrittenTo own.place.unit own.values own.strokes at n is.copy.to.items bytes) is.is.name_is is.is.written;
  };
}
turn_shown shared own client client' copies copies' size (delivered at address mark bytes) is = record {
  copy = is.copy;
  listed = made_listed _ copies copies' is;
  moves = record {
    name_is = is.is.name_is;
    len_is = is.is.len_is;
    read = is.is.read;
    written = subst (λ (n : StrokeName). IsWrittenTo client'.place.unit client'.values client'.strokes address n is.copy.to.items bytes) is.is.name_is is.is.written;
  };
}
turn_shown shared own client client' copies copies' size (nth_fetched number address at bytes) is = record {
  copy = is.copy;
  listed = is.there;
  moves = record {
    name_is = is.is.name_is;
    len_is = is.is.len_is;
    read = is.is.read;
    written = subst (λ (n : StrokeName). IsWrittenTo own.place.unit own.values own.strokes at n is.copy.to.items bytes) is.is.name_is is.is.written;
  };
}
turn_shown shared own client client' copies copies' size (nth_delivered number at address mark bytes) is = record {
  copy = is.copy;
  listed = is.there;
  moves = record {
    name_is = is.is.name_is;
    len_is = is.is.len_is;
    read = is.is.read;
    written = subst (λ (n : StrokeName). IsWrittenTo client'.place.unit client'.values client'.strokes address n is.copy.to.items bytes) is.is.name_is is.is.written;
  };
}

-- DECIDED ----------------------------------------------------------------------------------------

moved : (source target : Side) (name : StrokeName) (from to : ℕ) (bytes : List ℕ) (copy : CopyRecord) → Dec (MovesBytes source target name from to bytes copy)
moved source target name from to bytes copy =
    map_dec (λ e. record { name_is = e.0; len_is = e.1.0; read = e.1.1.0; written = e.1.1.1 }) (λ is. (is.name_is, (is.len_is, (is.read, is.written))))
    (both (same_name copy.name name)
    (both (ℕ_discrete copy.len (length bytes))
    (both (reading source.unit source.values source.strokes from copy.from.items bytes) (writing target.unit target.values target.strokes to name copy.to.items bytes))))

has_moved : (copies : List CopyRecord) (source target : Side) (name : StrokeName) (from to : ℕ) (bytes : List ℕ) → Dec (HasMoved (Contains copies) source target name from to bytes)
has_moved copies source target name from to bytes =
    map_dec (λ e. record { copy = e.0; listed = e.1; moves = e.2 }) (λ is. (is.copy, is.listed, is.moves))
    (one_of (MovesBytes source target name from to bytes) (moved source target name from to bytes) copies)

-- the copy of this number
nth_moved : (list : List CopyRecord) (number : ℕ) (source target : Side) (name : StrokeName) (from to : ℕ) (bytes : List ℕ)
    → Dec (HasMoved (λ copy. slice_get list number ≡ Some copy) source target name from to bytes)
nth_moved list number source target name from to bytes = at (slice_get list number) refl
  where
    one : (a b : CopyRecord) → Some a ≡ Some b → a ≡ b
    one a b same = cc (same)

    at : (found : Option CopyRecord) → slice_get list number ≡ found → Dec (HasMoved (λ copy. slice_get list number ≡ Some copy) source target name from to bytes)
    at None there = no (λ is. cc (there, is.listed))
    at (Some copy) there =
        map_dec (λ moves. record { copy = copy; listed = there; moves = moves })
        (λ is. subst (MovesBytes source target name from to bytes) (one is.copy copy (sym is.listed ∙ there)) is.moves)
        (moved source target name from to bytes copy)

has_granted : (values : ℕ → List ℕ) (right : Right) (e : ℕ) → Dec (HasGranted values right e)
has_granted values right e =
    map_dec (λ e. record { version = e.0; value = e.1; shown = e.2; granted = e.3 }) (λ is. (is.version, is.value, is.shown, is.granted))
    (one_at (λ value. grants right value ≡ true) (λ value. same_bool (grants right value) true) (values e))

has_lacked : (values : ℕ → List ℕ) (right : Right) (e version tce : ℕ) → Dec (HasLacked values right e version tce)
has_lacked values right e version tce = at (slice_get (values e) version) refl
  where
    one : (a b : ℕ) → Some a ≡ Some b → a ≡ b
    one a b same = cc (same)

    at : (found : Option ℕ) → slice_get (values e) version ≡ found → Dec (HasLacked values right e version tce)
    at None there = no (λ is. cc (there, is.shown))
    at (Some value) there =
        map_dec (λ e. record { value = value; shown = there; lacked = e.0; told_is = e.1 })
        (λ is.
        let same : is.value ≡ value = one is.value value (sym is.shown ∙ there) in
        (subst (λ (v : ℕ). grants right v ≡ false) same is.lacked, subst (λ (v : ℕ). tce ≡ told v) same is.told_is))
        (both (same_bool (grants right value) false) (ℕ_discrete tce (told value)))

is_reached : (values : ℕ → List ℕ) (right : Right) (n address len entry : ℕ) → Dec (IsReached values right n address len entry)
is_reached values right n address len entry =
    map_dec (λ e. record { from = e.0; to = e.1.0; before = λ k first below. e.1.1 k below first }) (λ is. (is.from, (is.to, λ k below first. is.before k first below)))
    (both (dec_le (address / 4096) entry)
    (both (dec_lt entry (end_entry address len))
    (each_below (λ k. address / 4096 ≤ k → (k < n) × HasGranted values right k) (λ k. given (dec_le (address / 4096) k) (both (dec_lt k n) (has_granted values right k))) entry)))

has_denied : (values : ℕ → List ℕ) (right : Right) (n address len : ℕ) (fault : HoldFault) → Dec (HasDenied values right n address len fault)
has_denied values right n address len (Past entry) = both (is_reached values right n address len entry) (dec_le n entry)
has_denied values right n address len (NotGranted entry version tce) =
    all_three (is_reached values right n address len entry) (dec_lt entry n) (has_lacked values right entry version tce)
has_denied values right n address len (InUse page word) = no (λ never. never)

pub hearing_decided : (copies numbered : List CopyRecord) (own client : Side) (pages : ℕ) (news : News)
    → Dec (hearing (Contains copies) (λ number copy. slice_get numbered number ≡ Some copy) own client pages news)
hearing_decided copies numbered own client pages (denied right address len fault) = has_denied client.values right pages address len fault
hearing_decided copies numbered own client pages (fetched address at bytes) = has_moved copies client own (name_of own.unit 0) address at bytes
hearing_decided copies numbered own client pages (delivered at address mark bytes) = has_moved copies own client (name_of own.unit mark) at address bytes
hearing_decided copies numbered own client pages (nth_fetched number address at bytes) = nth_moved numbered number client own (name_of own.unit 0) address at bytes
hearing_decided copies numbered own client pages (nth_delivered number at address mark bytes) = nth_moved numbered number own client (name_of own.unit mark) at address bytes
