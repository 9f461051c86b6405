-- On which page of the unit's own window a copy begins.
use Rattle.std.proofs.Common.{◌≡◌, ◌≢◌, ◌+◌, ◌*◌, ◌/◌, ◌<◌, ◌≤◌, ◌==◌, ◌&&◌, ◌++◌, ℕ, Bool, true, false, cond, All, filter, List, [], ◌∷◌, Result, Ok, Err, OnOk, OnErr, length, refl, sym, ◌∙◌, ap, subst, arith, append-nil}
use Rattle.std.proofs.lemmas.Bool.{ne_eqb}
use Rattle.std.proofs.lemmas.List.Elements.{All-head, filter-append}
use Rattle.vio_num.specs.declared.names.UnitId.{UnitId}
use Rattle.page_slots.specs.declared.stroke.StrokeName.{StrokeName}
use Rattle.tce_window.specs.declared.piece.Piece.{Piece}
use Rattle.tce_window.specs.declared.answers.Right.{Right}
use Rattle.tce_window.specs.Pieces.{IsGranted, IsLast, Touches}
use Rattle.tce_window.specs.PortState.{PortPlace, PortState}
use Rattle.tce_window.proofs.Laws.{on_ok_map}
use Rattle.rdma_copy.specs.declared.copy.CopyRecord.{CopyRecord}
use Rattle.rdma_copy.specs.declared.copy.CopyAnswer.{CopyAnswer}
use Rattle.rdma_copy.specs.declared.copy.CopyAnswer.TheVariants as copies
use Rattle.rdma_copy.specs.Answers.{IfCopied}
use Rattle.rdma_copy.specs.Copies.{Copies, OnlyCopies}
use Rattle.block_server.specs.Copied.{FetchesNone, IsMade, MakesOne, copies_in, own_name}
use Rattle.block_server.specs.Makers.{same_unit}
use Rattle.block_server.specs.Moves.{Passes, begin_on, is_intake, taken_so_far}
use Rattle.block_server.specs.SiteState.{Lenders, SiteState, site}
use Rattle.crq_session.specs.EndState.{EndState}
use Rattle.block_server.proofs.NamedWindows.{unit_other, unit_same}
use Rattle.block_server.proofs.Owning.{only_one, same_first}

-- a piece of an entry that has its first value alone lies on the page of that number
pub entry_page : (values : ℕ → List ℕ) (right : Right) (piece : Piece) → ((e : ℕ) → e < 34 → values e ≡ (4096 * e + 3) ∷ []) → piece.entry < 34
    → IsGranted values right piece → IsLast values piece → piece.page ≡ piece.entry
entry_page values right piece first below granted last =
    let value_is = only_one (values piece.entry) (4096 * piece.entry + 3) piece.version granted.value (first piece.entry below) granted.shown last in
    omega (arith, granted.page, value_is)

-- pieces of the own window begin on the page of their address
pub own_begins : (values : ℕ → List ℕ) (right : Right) (unit : UnitId) (page at to : ℕ) (pieces : List Piece)
    → ((e : ℕ) → e < 34 → values e ≡ (4096 * e + 3) ∷ []) → at < 139264 → at < to → Touches unit at to pieces
    → All (IsGranted values right) pieces → All (IsLast values) pieces → begin_on unit page pieces ≡ (at / 4096 == page)
own_begins values right unit page at to [] first inside some touched granted last = absurd (omega (arith, some, touched))
own_begins values right unit page at to (piece ∷ pieces) first inside some touched granted last =
    let below : piece.entry < 34 = omega (arith, touched.1.entry, inside) in
    ap (λ t. t && (piece.page == page)) (unit_same piece.unit unit touched.1.unit_is)
    ∙ ap (λ (p : ℕ). p == page) (entry_page values right piece first below (All-head (IsGranted values right) piece pieces granted) (All-head (IsLast values) piece pieces last)
    ∙ touched.1.entry)

-- pieces of another window do not begin on a page of the own one
pub other_begins : (unit other : UnitId) (page at to : ℕ) (pieces : List Piece) → other ≢ unit → Touches other at to pieces
    → begin_on unit page pieces ≡ false
other_begins unit other page at to [] apart touched = refl
other_begins unit other page at to (piece ∷ pieces) apart touched =
    ap (λ t. t && (piece.page == page)) (unit_other piece.unit unit (λ is. apart (sym touched.1.unit_is ∙ is)))

and_false : (a b : Bool) → b ≡ false → a && b ≡ false
and_false true b is = is
and_false false b is = refl

-- one copy more, which fetched no information unit
fetches_none : (unit : UnitId) (old new : List CopyRecord) (copy : CopyRecord) → new ≡ old ++ copy ∷ [] → is_intake unit copy ≡ false → FetchesNone unit old new
fetches_none unit old new copy made not =
    ap (filter (is_intake unit)) made ∙ filter-append (is_intake unit) old (copy ∷ [])
    ∙ ap (λ t. filter (is_intake unit) old ++ cond t (copy ∷ []) []) not ∙ append-nil (filter (is_intake unit) old)

pub fetches_same : (unit : UnitId) (old new : List CopyRecord) → new ≡ old → FetchesNone unit old new
fetches_same unit old new same = ap (filter (is_intake unit)) same

-- a copy from the client's window behind page 0 of the own one
pub behind_first : (shared : Bool) (own own' client : PortState) (from to len : ℕ) (name : StrokeName) (answer : CopyAnswer) (old new : List CopyRecord)
    → shared ≡ false → ((e : ℕ) → e < 34 → own.values e ≡ (4096 * e + 3) ∷ []) → 1 ≤ len → to + len ≤ 139264 → OnlyCopies shared own own'
    → IfCopied answer (Copies shared client own own' from to len name) → new ≡ old ++ copies_in answer
    → 4096 ≤ to → FetchesNone own.place.unit old new
behind_first shared own own' client from to len name (copies.Copied copy) old new alone first some inside rest copied made behind =
    fetches_none own.place.unit old new copy made (and_false (same_unit copy.name.who own.place.unit) _ (begins ∙ not_first))
  where
    begins : begin_on own.place.unit 0 copy.to.items ≡ (to / 4096 == 0)
    begins = own_begins own'.values _ own.place.unit 0 to (to + length copied.lawful.bytes) copy.to.items
        (same_first shared own own' alone rest first) (omega (arith, some, inside)) (omega (arith, some, copied.lawful.len, copied.len_is))
        (subst (λ unit. Touches unit to (to + length copied.lawful.bytes) copy.to.items) (ap (λ place. place.unit) rest.place) copied.lawful.written.touched)
        copied.lawful.written.granted copied.last_written

    not_first : (to / 4096 == 0) ≡ false
    not_first = ne_eqb (to / 4096) 0 (λ is. omega (arith, is, behind))
behind_first shared own own' client from to len name copies.Parameter old new alone first some inside rest copied made behind = fetches_same _ old new (made ∙ append-nil old)
behind_first shared own own' client from to len name (copies.SourceParm fault) old new alone first some inside rest copied made behind = fetches_same _ old new (made ∙ append-nil old)
behind_first shared own own' client from to len name (copies.DestParm fault) old new alone first some inside rest copied made behind = fetches_same _ old new (made ∙ append-nil old)
behind_first shared own own' client from to len name (copies.Busy page word) old new alone first some inside rest copied made behind = fetches_same _ old new (made ∙ append-nil old)
behind_first shared own own' client from to len name copies.NoMemory old new alone first some inside rest copied made behind = fetches_same _ old new (made ∙ append-nil old)

-- a copy to the client's window
pub to_client : (shared : Bool) (unit : UnitId) (own client client' : PortState) (from to len : ℕ) (name : StrokeName) (answer : CopyAnswer) (old new : List CopyRecord)
    → client.place.unit ≢ unit → OnlyCopies shared client client'
    → IfCopied answer (Copies shared own client client' from to len name) → new ≡ old ++ copies_in answer → FetchesNone unit old new
to_client shared unit own client client' from to len name (copies.Copied copy) old new apart rest copied made =
    fetches_none unit old new copy made (and_false (same_unit copy.name.who unit) _
    (other_begins unit client'.place.unit 0 to _ copy.to.items (λ is. apart (sym (ap (λ place. place.unit) rest.place) ∙ is)) copied.lawful.written.touched))
to_client shared unit own client client' from to len name copies.Parameter old new apart rest copied made = fetches_same _ old new (made ∙ append-nil old)
to_client shared unit own client client' from to len name (copies.SourceParm fault) old new apart rest copied made = fetches_same _ old new (made ∙ append-nil old)
to_client shared unit own client client' from to len name (copies.DestParm fault) old new apart rest copied made = fetches_same _ old new (made ∙ append-nil old)
to_client shared unit own client client' from to len name (copies.Busy page word) old new apart rest copied made = fetches_same _ old new (made ∙ append-nil old)
to_client shared unit own client client' from to len name copies.NoMemory old new apart rest copied made = fetches_same _ old new (made ∙ append-nil old)

-- the copy of an answer that tells of one
pub makes_one : (shared : Bool) (src dst dst' : PortState) (from to len : ℕ) (name : StrokeName) (answer : CopyAnswer) (old new : List CopyRecord)
    → OnlyCopies shared dst dst' → IfCopied answer (Copies shared src dst dst' from to len name) → new ≡ old ++ copies_in answer
    → IsMade answer → MakesOne shared src dst dst' from to len name old new
makes_one shared src dst dst' from to len name (copies.Copied copy) old new rest copied made is = record { copy = copy; made = made; copied = copied; rest = rest }
makes_one shared src dst dst' from to len name copies.Parameter old new rest copied made is = absurd is
makes_one shared src dst dst' from to len name (copies.SourceParm fault) old new rest copied made is = absurd is
makes_one shared src dst dst' from to len name (copies.DestParm fault) old new rest copied made is = absurd is
makes_one shared src dst dst' from to len name (copies.Busy page word) old new rest copied made is = absurd is
makes_one shared src dst dst' from to len name copies.NoMemory old new rest copied made is = absurd is

-- of a call whose own answer is ok where one was made, and else an error
pub made_in : {T E : Type 0} (result : Result T E) (shared : Bool) (port src own own' : PortState) (from to len : ℕ) (unit : UnitId) (mark : ℕ) (answer : CopyAnswer)
    (old new : List CopyRecord) → unit ≡ port.place.unit → OnlyCopies shared own own'
    → IfCopied answer (Copies shared src own own' from to len (record { who = unit; mark = mark })) → new ≡ old ++ copies_in answer
    → OnOk result (IsMade answer) → OnOk result (MakesOne shared src own own' from to len (own_name port mark) old new)
made_in result shared port src own own' from to len unit mark answer old new named rest copied made is =
    on_ok_map result (IsMade answer) (MakesOne shared src own own' from to len (own_name port mark) old new)
    (λ is. subst (λ u. MakesOne shared src own own' from to len (record { who = u; mark = mark }) old new) named
    (makes_one shared src own own' from to len (record { who = unit; mark = mark }) answer old new rest copied made is)) is

pub none_in : {T E : Type 0} (result : Result T E) (answer : CopyAnswer) (old new : List CopyRecord) → new ≡ old ++ copies_in answer
    → OnErr result (copies_in answer ≡ []) → OnErr result (new ≡ old)
none_in (Ok value) answer old new made is = tt
none_in (Err error) answer old new made is = made ∙ ap (λ more. old ++ more) is ∙ append-nil old

-- of a call that took nothing from the queue, in the same session, and fetched no information unit
pub passes : (old new : SiteState) → new.queue.last_session ≡ old.queue.last_session → new.queue.taken ≡ old.queue.taken → new.own.place ≡ old.own.place
    → FetchesNone old.own.place.unit old.copies new.copies → Passes old new
unfolding taken_so_far
passes old new session taken place copies =
    ap (λ (n : ℕ). record { session = n; taken = new.queue.taken; copies = filter (is_intake new.own.place.unit) new.copies }) session
    ∙ ap (λ rows. record { session = old.queue.last_session; taken = rows; copies = filter (is_intake new.own.place.unit) new.copies }) taken
    ∙ ap (λ place. record { session = old.queue.last_session; taken = old.queue.taken; copies = filter (is_intake place.unit) new.copies }) place
    ∙ ap (λ list. record { session = old.queue.last_session; taken = old.queue.taken; copies = list }) copies

-- the queue was left alone, or the windows were
pub queue_stays : (old new : SiteState) → new.queue ≡ old.queue → new.own.place ≡ old.own.place → FetchesNone old.own.place.unit old.copies new.copies → Passes old new
queue_stays old new queue place copies = passes old new (ap (λ q. q.last_session) queue) (ap (λ q. q.taken) queue) place copies

pub windows_stay : (reached : Lenders) (queue queue' : EndState) (own client : PortState) (shared : Bool) (copies : List CopyRecord)
    → queue'.last_session ≡ queue.last_session → queue'.taken ≡ queue.taken
    → Passes (site reached queue own client shared copies) (site reached queue' own client shared copies)
windows_stay reached queue queue' own client shared copies session taken =
    passes (site reached queue own client shared copies) (site reached queue' own client shared copies) session taken refl refl

-- one call behind another
pub none_behind : (place place' : PortPlace) (old mid new : List CopyRecord) → place' ≡ place → FetchesNone place.unit old mid
    → FetchesNone place'.unit mid new → FetchesNone place.unit old new
none_behind place place' old mid new same first next = subst (λ p. FetchesNone p.unit mid new) same next ∙ first

pub on_error : {T E : Type 0} (result : Result T E) (P : Type 0) → P → OnErr result P
on_error (Ok value) P p = tt
on_error (Err error) P p = p
