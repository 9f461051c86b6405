-- What a client's window denied, over calls one after the other, and which causes that gives.
use Rattle.std.proofs.Common.{◌≡◌, ◌∙◌, ◌++◌, inl, inr, ℕ, zero, suc, Bool, false, filter, List, [], ◌∷◌, length, length-append, slice_get, ap, subst, sym, append_assoc, arith}
use Rattle.std.proofs.lemmas.List.Elements.{filter-append}
use Rattle.vio_num.specs.declared.names.UnitId.{UnitId}
use Rattle.srp_iu.specs.declared.buffer.Buffer.{Buffer}
use Rattle.srp_iu.specs.declared.buffer.Desc.{Desc}
use Rattle.srp_iu.specs.declared.command.Cmd.{Cmd}
use Rattle.tce_window.specs.Pieces.{IsRefused}
use Rattle.tce_window.specs.Port.{Later}
use Rattle.tce_window.specs.PortState.{PortState}
use Rattle.tce_window.specs.declared.answers.HoldFault.{HoldFault}
use Rattle.tce_window.specs.declared.answers.Right.{Right}
use Rattle.std.specs.Prelude.{Option, Ok, Some, None}
use Rattle.block_disk.specs.declared.reply.ScsiReply.{ScsiReply}
use Rattle.tce_window.specs.declared.answers.Right.TheVariants.{Read, Write}
use Rattle.block_server.specs.Fetched.{Gathers, IfRefused}
use Rattle.block_server.specs.declared.cursor.Cursor.{Cursor}
use Rattle.block_server.specs.declared.fetching.Progress.{Progress}
use Rattle.block_server.specs.declared.fetching.Progress.TheVariants.{Refused}
use Rattle.block_server.specs.declared.service.Stage.{Stage}
use Rattle.block_server.specs.declared.service.Stage.TheVariants.{DataIn}
use Rattle.block_server.specs.Advances.{Advances}
use Rattle.block_server.specs.Causes.{Denies, Hearing, Includes, IsFetched, IsNamed, RefusesBuffer, RefusesData, RefusesIn, Told, tables_at, told_to}
use Rattle.block_server.specs.Causes.News.{delivered, denied, fetched, nth_delivered, nth_fetched}
use Rattle.block_server.specs.Delivers.{Delivers}
use Rattle.block_server.specs.Heard.{IsMadeAs, IsMadeBetween, Tells, TellsAll, heard_between}
use Rattle.block_server.specs.Moves.{Fetches, data_copies, is_data}
use Rattle.block_server.proofs.Receiving.{fetches_stays}
use Rattle.rdma_copy.proofs.Laws.{read_stays, written_stays}
use Rattle.rdma_copy.specs.Copies.{side_of}
use Rattle.rdma_copy.specs.Copy.{SideGrows}
use Rattle.rdma_copy.specs.declared.copy.CopyRecord.{CopyRecord}
use Rattle.srp_desc.specs.Tables.{tables_of}
use Rattle.tce_window.specs.Moved.{IsReadFrom, IsWrittenTo}
use Rattle.block_server.specs.Parts.{LiesIn}
use Rattle.block_server.specs.SiteState.{IsDeniedBetween, SiteState}
use Rattle.block_server.proofs.Advancing.{begins_on, later_on}

-- what was denied later, or before, was denied in all
denied_after : (old mid new : SiteState) → Advances old mid → (right : Right) (address len : ℕ) (fault : HoldFault)
    → heard_between mid new (denied right address len fault) → heard_between old new (denied right address len fault)
denied_after old mid new first right address len fault is = record {
  values = is.values;
  since = λ e. later_on old.shared (old.client.values e) (mid.client.values e) (is.values e) (first.values e)
      (subst (λ (shared : Bool). Later shared (mid.client.values e) (is.values e)) first.shared (is.since e));
  until = is.until;
  of_entry = is.of_entry;
  refused = subst (λ (n : ℕ). IsRefused is.values right n address len fault) (ap (λ place. place.size) first.client_place) is.refused;
}

denied_before : (old mid new : SiteState) → Advances mid new → (right : Right) (address len : ℕ) (fault : HoldFault)
    → heard_between old mid (denied right address len fault) → heard_between old new (denied right address len fault)
denied_before old mid new next right address len fault is = record {
  values = is.values;
  since = is.since;
  until = λ e. begins_on (is.values e) (mid.client.values e) (new.client.values e) (is.until e) (next.client.values e);
  of_entry = is.of_entry;
  refused = is.refused;
}

-- a copy that was made later, or before, was made in all
pub made_after : (P : CopyRecord → Type 0) (old mid new more : List CopyRecord) → mid ≡ old ++ more → IsMadeBetween P mid new → IsMadeBetween P old new
made_after P old mid new more first is = record {
  front = more ++ is.front;
  copy = is.copy;
  rest = is.rest;
  made = is.made ∙ ap (λ list. list ++ (is.front ++ is.copy ∷ is.rest)) first ∙ append_assoc old more (is.front ++ is.copy ∷ is.rest)
      ∙ ap (λ list. old ++ list) (sym (append_assoc more is.front (is.copy ∷ is.rest)));
  is = is.is;
}

pub made_before : (P Q : CopyRecord → Type 0) (old mid new more : List CopyRecord) → new ≡ mid ++ more → ((copy : CopyRecord) → P copy → Q copy)
    → IsMadeBetween P old mid → IsMadeBetween Q old new
made_before P Q old mid new more next then is = record {
  front = is.front;
  copy = is.copy;
  rest = is.rest ++ more;
  made = next ∙ ap (λ list. list ++ more) is.made ∙ append_assoc old (is.front ++ is.copy ∷ is.rest) more
      ∙ ap (λ list. old ++ list) (append_assoc is.front (is.copy ∷ is.rest) more);
  is = then is.copy is.is;
}

-- the same of copies that bear a number
data_front : (unit : UnitId) (old new more : List CopyRecord) → new ≡ old ++ more → data_copies unit new ≡ data_copies unit old ++ data_copies unit more
data_front unit old new more made = ap (filter (is_data unit)) made ∙ filter-append (is_data unit) old more

get_front : (list rest : List CopyRecord) (n : ℕ) (copy : CopyRecord) → slice_get list n ≡ Some copy → slice_get (list ++ rest) n ≡ Some copy
get_front [] rest n copy is = absurd (cc (is))
get_front (first ∷ list) rest zero copy is = is
get_front (first ∷ list) rest (suc n) copy is = get_front list rest n copy is

pub as_after : (P : CopyRecord → Type 0) (unit : UnitId) (number : ℕ) (old mid new more : List CopyRecord) → mid ≡ old ++ more → IsMadeAs P unit number mid new → IsMadeAs P unit number old new
as_after P unit number old mid new more first is = record {
  copy = is.copy;
  since = omega (arith, is.since, ap length (data_front unit old mid more first), length-append (data_copies unit old) (data_copies unit more));
  there = is.there;
  is = is.is;
}

pub as_before : (P Q : CopyRecord → Type 0) (unit unit' : UnitId) (number : ℕ) (old mid new more : List CopyRecord) → unit ≡ unit' → new ≡ mid ++ more → ((copy : CopyRecord) → P copy → Q copy)
    → IsMadeAs P unit number old mid → IsMadeAs Q unit' number old new
as_before P Q unit unit' number old mid new more same next then is = subst (λ (u : UnitId). IsMadeAs Q u number old new) same (record {
  copy = is.copy;
  since = is.since;
  there = ap (λ list. slice_get list number) (data_front unit mid new more next) ∙ get_front (data_copies unit mid) (data_copies unit more) number is.copy is.there;
  is = then is.copy is.is;
})

-- what a copy carried is what it carried, as more is known of the windows
pub delivers_stays : (own own' client client' : PortState) → SideGrows (side_of own) (side_of own') → SideGrows (side_of client) (side_of client')
    → (at address len mark : ℕ) (bytes : List ℕ) (copy : CopyRecord) → Delivers own client at address len mark bytes copy → Delivers own' client' at address len mark bytes copy
delivers_stays own own' client client' own_grows client_grows at address len mark bytes copy is = record {
  name_is = is.name_is ∙ ap (λ (unit : UnitId). record { who = unit; mark = mark }) (sym own_grows.unit);
  len_is = is.len_is;
  read = subst (λ unit. IsReadFrom unit own'.values own'.strokes at copy.from.items bytes) (sym own_grows.unit)
      (read_stays own.place.unit at copy.from.items bytes own.values own'.values own.strokes own'.strokes own_grows.values own_grows.strokes is.read);
  written = subst (λ unit. IsWrittenTo unit client'.values client'.strokes address copy.name copy.to.items bytes) (sym client_grows.unit)
      (written_stays client.place.unit address copy.name copy.to.items bytes client.values client'.values client.strokes client'.strokes
      client_grows.values client_grows.strokes is.written);
}

-- what was told later, or before, was told in all
pub heard_after : (old mid new : SiteState) → Advances old mid → Includes (heard_between mid new) (heard_between old new)
heard_after old mid new first (denied right address len fault) is = denied_after old mid new first right address len fault is
heard_after old mid new first (fetched address at bytes) is =
    made_after (Fetches new.own new.client address at (length bytes) bytes) old.copies mid.copies new.copies first.copies.more first.copies.made is
heard_after old mid new first (delivered at address mark bytes) is =
    made_after (Delivers new.own new.client at address (length bytes) mark bytes) old.copies mid.copies new.copies first.copies.more first.copies.made is
heard_after old mid new first (nth_fetched number address at bytes) is =
    as_after (Fetches new.own new.client address at (length bytes) bytes) new.own.place.unit number old.copies mid.copies new.copies first.copies.more first.copies.made is
heard_after old mid new first (nth_delivered number at address mark bytes) is =
    as_after (Delivers new.own new.client at address (length bytes) mark bytes) new.own.place.unit number old.copies mid.copies new.copies first.copies.more first.copies.made is

pub heard_before : (old mid new : SiteState) → Advances mid new → Includes (heard_between old mid) (heard_between old new)
heard_before old mid new next (denied right address len fault) is = denied_before old mid new next right address len fault is
heard_before old mid new next (fetched address at bytes) is =
    made_before (Fetches mid.own mid.client address at (length bytes) bytes) (Fetches new.own new.client address at (length bytes) bytes)
    old.copies mid.copies new.copies next.copies.more next.copies.made
    (fetches_stays mid.own new.own mid.client new.client next.own next.client address at (length bytes) bytes) is
heard_before old mid new next (delivered at address mark bytes) is =
    made_before (Delivers mid.own mid.client at address (length bytes) mark bytes) (Delivers new.own new.client at address (length bytes) mark bytes)
    old.copies mid.copies new.copies next.copies.more next.copies.made
    (delivers_stays mid.own new.own mid.client new.client next.own next.client at address (length bytes) mark bytes) is
heard_before old mid new next (nth_fetched number address at bytes) is =
    as_before (Fetches mid.own mid.client address at (length bytes) bytes) (Fetches new.own new.client address at (length bytes) bytes)
    mid.own.place.unit new.own.place.unit number old.copies mid.copies new.copies next.copies.more (sym next.own.unit) next.copies.made
    (fetches_stays mid.own new.own mid.client new.client next.own next.client address at (length bytes) bytes) is
heard_before old mid new next (nth_delivered number at address mark bytes) is =
    as_before (Delivers mid.own mid.client at address (length bytes) mark bytes) (Delivers new.own new.client at address (length bytes) mark bytes)
    mid.own.place.unit new.own.place.unit number old.copies mid.copies new.copies next.copies.more (sym next.own.unit) next.copies.made
    (delivers_stays mid.own new.own mid.client new.client next.own next.client at address (length bytes) mark bytes) is

-- so what is told in all is told of each part
pub tells_first : (told : Told → Bool) (unit : UnitId) (old mid new : SiteState) → Advances mid new → TellsAll told unit old new → TellsAll told unit old mid
tells_first told unit old mid new next all news is = all news (heard_before old mid new next news is)

pub tells_next : (told : Told → Bool) (unit : UnitId) (old mid new : SiteState) → Advances old mid → TellsAll told unit old new → TellsAll told unit mid new
tells_next told unit old mid new first all news is = all news (heard_after old mid new first news is)

-- ---- one reason to refuse in the place of another

pub data_map : (F G : Hearing) (right : Right) (list : List Desc) → Includes F G → RefusesData F right list → RefusesData G right list
data_map F G right list more (inl is) =
    inl (record { address = is.address; len = is.len; fault = is.fault; part = is.part; told = more (denied right is.address is.len is.fault) is.told })
data_map F G right list more (inr is) = inr is

pub brought_map : (F G : Hearing) (tables : List Desc) (bytes : List ℕ) → Includes F G → IsFetched F tables bytes → IsFetched G tables bytes
brought_map F G [] bytes more is = tt
brought_map F G (table ∷ tables) bytes more is = more (fetched table.address tables_at bytes) is

pub named_map : (F G : Hearing) (buffer : Buffer) (list : List Desc) → Includes F G → IsNamed F buffer list → IsNamed G buffer list
named_map F G buffer list more is =
    record { table = is.table; full = is.full; brought = brought_map F G (tables_of buffer) is.table more is.brought; named_is = is.named_is }

pub buffer_map : (F G : Hearing) (buffer : Buffer) → Includes F G → RefusesBuffer F buffer → RefusesBuffer G buffer
buffer_map F G buffer more (inl is) = inl is
buffer_map F G buffer more (inr (inl is)) = inr (inl (record {
  table = is.table;
  own = is.own;
  bytes = is.bytes;
  full = is.full;
  brought = more (fetched is.table.address tables_at is.bytes) is.brought;
  fault = is.fault;
  refused_is = is.refused_is;
}))
buffer_map F G buffer more (inr (inr is)) =
    inr (inr (record { table = is.table; own = is.own; fault = is.fault; told = more (denied Read is.table.address is.table.len is.fault) is.told }))

-- ---- what copies of data found

-- where a copy of data-in was refused, the window refuses the command's data-in
pub handed_cause : (told : Told → Bool) (unit : UnitId) (old new : SiteState) (command : Cmd) (row : ℕ) (reply : ScsiReply) (cursor : Cursor) (stage : Stage) (outs inns : List Desc)
    (progress : Progress) → stage ≡ DataIn row reply cursor → TellsAll told unit old new → Gathers (told_to told unit) command stage outs inns
    → IfRefused (Ok progress) (RefusesData (heard_between old new) Write inns) → progress ≡ Refused → RefusesIn (told_to told unit) command
handed_cause told unit old new command row reply cursor stage outs inns progress is all known refused at = record {
  inns = inns;
  in_named = subst (λ (st : Stage). Gathers (told_to told unit) command st outs inns) is known;
  refuses = data_map (heard_between old new) (told_to told unit) Write inns all
      (subst (λ (p : Progress). IfRefused (Ok p) (RefusesData (heard_between old new) Write inns)) at refused);
}

-- a part of the pieces was refused, behind other calls, or it has no address
pub part_refused : (old mid new : SiteState) (right : Right) (list list' : List Desc) (found : Option ℕ) (address len : ℕ) → Advances old mid → found ≡ Some address → list' ≡ list
    → LiesIn list' found len → IsDeniedBetween mid new right address len → RefusesData (heard_between old new) right list
part_refused old mid new right list list' found address len first is same lies refusal = inl (record {
  address = address;
  len = len;
  fault = refusal.fault;
  part = subst (λ (z : List Desc × Option ℕ). LiesIn z.0 z.1 len) (λ i. (same i, is i)) lies;
  told = denied_after old mid new first right address len refusal.fault refusal.denied_is;
})

pub part_past : (Hears : Hearing) (right : Right) (list list' : List Desc) (found : Option ℕ) (len : ℕ) → found ≡ None → list' ≡ list → LiesIn list' found len → RefusesData Hears right list
part_past Hears right list list' found len is same lies = inr (subst (λ (z : List Desc × Option ℕ). LiesIn z.0 z.1 len) (λ i. (same i, is i)) lies)

-- what is told to a turn's unit is told to the one in service, of the windows as its calls left them
pub tells_turn : (told : Told → Bool) (unit unit' : UnitId) (shared : Bool) (own own' old new new' : PortState) (copies copies' : List CopyRecord) → unit ≡ unit' → own ≡ own' → new ≡ new'
    → Tells told unit shared own' old new' copies copies' → Tells told unit' shared own old new copies copies'
tells_turn told unit unit' shared own own' old new new' copies copies' same own_is is tells =
    subst (λ (z : UnitId × PortState × PortState). Tells told z.0 shared z.1 old z.2 copies copies') (λ i. (same i, (sym own_is) i, (sym is) i)) tells

-- ---- a window in which nobody else has a hand

-- it denied what its values refuse, as they were before
pub denies_plain : (old new : PortState) (right : Right) (address len : ℕ) (fault : HoldFault) → Denies false old new right address len fault
    → IsRefused old.values right old.place.size address len fault
denies_plain old new right address len fault is =
    subst (λ (values : ℕ → List ℕ). IsRefused values right old.place.size address len fault) (λ i e. is.since e i) is.refused
