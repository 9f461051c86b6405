-- Where in its client's window a unit lays strokes: over the request that it serves, and where the data of that go.
use Rattle.std.specs.Prelude.{◌≡◌, ◌⊎◌, ◌+◌, ◌*◌, ◌++◌, ◌≤◌, ℕ, Bool, All, List, [], ◌∷◌, Option, Some, None, length, ⊤, if◌then◌else◌}
use Rattle.crq_session.specs.Answered.{taken_now}
use Rattle.crq_session.specs.EndState.{EndState}
use Rattle.page_slots.specs.Stroke.{StrokeValue}
use Rattle.srp_iu.specs.declared.buffer.Buffer.{Buffer}
use Rattle.srp_iu.specs.declared.buffer.Desc.{Desc}
use Rattle.tce_window.specs.Pieces.{NamesPage}
use Rattle.tce_window.specs.PortState.{PortState}
use Rattle.block_server.specs.Causes.{Hearing, IsNamed, IsPartOf}
use Rattle.block_server.specs.SiteState.{SiteState}
use Rattle.block_server.specs.Talk.{HearsAll, Talk, Word, talk_of}
use Rattle.block_server.specs.declared.request.Order.{Order}
use Rattle.block_server.specs.declared.request.Order.TheVariants as orders
use Rattle.block_server.specs.declared.request.Request.{Request}
use Rattle.block_server.specs.declared.unit.Unit.{Unit}

-- what is known of a window in which nobody else has a hand: the strokes on its pages, and the values of its entries
pub record Known : Type 0 where
  pub strokes : ℕ → Option (List StrokeValue)
  pub values : ℕ → List ℕ

abbrev pub known_in : PortState → Known
known_in port = record { strokes = port.strokes; values = port.values }

-- that of a window, and of a unit's client, where nobody else has a hand in it
abbrev pub seen_in : (shared : Bool) → PortState → Option Known
seen_in shared port = if shared then None else Some (known_in port)

abbrev pub client_known : SiteState → Option Known
client_known site = seen_in site.shared site.client

-- A stroke of a page lies in a range of addresses: in that of an entry which names the page by its last value.
pub record StrokeLiesIn (values : ℕ → List ℕ) (address len page : ℕ) (stroke : StrokeValue) : Type 0 where
  pub entry : ℕ
  pub named : NamesPage values entry page
  pub from : address ≤ 4096 * entry + stroke.offset
  pub to : 4096 * entry + stroke.offset + length stroke.bytes ≤ address + len
  pub within : stroke.offset + length stroke.bytes ≤ 4096

-- It lies in one of these ranges.
pub record StrokeLiesInOne (values : ℕ → List ℕ) (Ranges : (address len : ℕ) → Type 0) (page : ℕ) (stroke : StrokeValue) : Type 0 where
  pub address : ℕ
  pub len : ℕ
  pub range : Ranges address len
  pub lies : StrokeLiesIn values address len page stroke

-- a page has the strokes that it had, and behind them others, of each of which this is so
abbrev pub AddsEach : (StrokeValue → Type 0) → (old new : Option (List StrokeValue)) → Type 0
AddsEach P (Some old) (Some new) = (rest : List StrokeValue) × (new ≡ old ++ rest) × All P rest
AddsEach P None None = ⊤
AddsEach P _ _ = ⊥

-- Each stroke that was laid lies in one of these ranges, and no value was put.
pub record LaysWithin (Ranges : (address len : ℕ) → Type 0) (old new : Known) : Type 0 where
  pub values : new.values ≡ old.values
  pub strokes : (page : ℕ) → AddsEach (StrokeLiesInOne old.values Ranges page) (old.strokes page) (new.strokes page)

abbrev pub LaysIn : ((address len : ℕ) → Type 0) → (old new : Option Known) → Type 0
LaysIn Ranges (Some old) (Some new) = LaysWithin Ranges old new
LaysIn Ranges None None = ⊤
LaysIn Ranges _ _ = ⊥

-- this range alone
abbrev pub IsRange : (address len : ℕ) → (address' len' : ℕ) → Type 0
IsRange address len address' len' = (address' ≡ address) × (len' ≡ len)

-- It lies in a piece of this buffer, where its table holds bytes that were heard, if it was fetched.
pub record IsInNamed (Hears : Hearing) (buffer : Buffer) (address len : ℕ) : Type 0 where
  pub list : List Desc
  pub named : IsNamed Hears buffer list
  pub part : IsPartOf list address len

-- where the data of what is asked go
abbrev pub IsDataIn : Hearing → Order → (address len : ℕ) → Type 0
IsDataIn Hears (orders.Command command) address len = IsInNamed Hears command.inn address len
IsDataIn Hears order address len = ⊥

-- where a unit may write its answer to a request
abbrev pub IsAnswerRange : Request → (address len : ℕ) → Type 0
IsAnswerRange request address len = (address ≡ request.address) × (len ≤ 256)

-- where a unit may write as it serves a request: 256 bytes from its address on, and where its data go
abbrev pub MayWrite : Hearing → Request → (address len : ℕ) → Type 0
MayWrite Hears request address len = IsAnswerRange request address len ⊎ IsDataIn Hears request.order address len

-- What a turn in which nothing is amiss lays in its client's window: what the service of the first request that is pending once all was
-- heard may write, and nothing where none is.
pub record WritesOn (Hears : Hearing) (unit : Unit) (queue : EndState) (words : List Word) (old new : Option Known) : Type 0 where
  pub wrote : (talk : Talk) (request : Request) (rest : List Request) → HearsAll (talk_of unit) (length (taken_now queue)) words talk → talk.pending ≡ request ∷ rest
      → LaysIn (MayWrite Hears request) old new
  pub none : (talk : Talk) → HearsAll (talk_of unit) (length (taken_now queue)) words talk → talk.pending ≡ [] → new ≡ old
