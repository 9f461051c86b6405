-- The data-in that a disk step gave, as the row comes.
use Rattle.std.specs.Prelude.{slice_index}
use Rattle.std.proofs.Common.{◌<◌, ◌≡◌, ◌≤◌, ◌++◌, ℕ, Bool, List, [], ◌∷◌, Some, length, sym, ◌∙◌, ap, subst}
use Rattle.std.proofs.lemmas.List.{length-map}
use Rattle.vio_num.specs.declared.history.Served.{Served}
use Rattle.vio_num.specs.declared.names.UnitId.{UnitId}
use Rattle.block_disk.specs.declared.reply.ScsiReply.{ScsiReply}
use Rattle.srp_desc.specs.Pieces.{sum_of}
use Rattle.srp_iu.specs.Grammar.{Spells}
use Rattle.srp_iu.specs.declared.command.Cmd.{Cmd}
use Rattle.srp_iu.specs.declared.unit.Iu.TheVariants as units
use Rattle.block_server.specs.Cargo.{IsAccounted, IsFetchedAll, Pages, cargo, cargo_at, load_at, rows_of, sight, unanswered}
use Rattle.block_server.specs.Cargo.Load.{fetching, given}
use Rattle.block_server.specs.Causes.{IsNamed, Told, told_to}
use Rattle.block_server.specs.Orders.{IsOrder}
use Rattle.block_server.specs.declared.cursor.Cursor.{Cursor}
use Rattle.block_server.specs.declared.request.Order.{Order}
use Rattle.block_server.specs.declared.request.Order.TheVariants.{Command}
use Rattle.block_server.specs.declared.request.Request.{Request}
use Rattle.block_server.specs.declared.service.Service.{Service}
use Rattle.block_server.specs.declared.service.Stage.TheVariants.{DataOut, Given}
use Rattle.block_server.proofs.Cargoes.{cargo_is}
use Rattle.block_server.proofs.HandRows.{rows_push}
use Rattle.block_server.proofs.Hands.{added_given}

rows_long : (h : List Served) → length (rows_of h) ≡ length h
rows_long h = length-map h unanswered

pub made_given : (told : Told → Bool) (asked : Bool) (id : UnitId) (a b : Service) (shown shown' : Pages) (h h' : List Served) (row : Served) (command : Cmd) (request : Request) (place : ℕ)
    (reply : ScsiReply) (cursor : Cursor) → shown'.count ≡ shown.count → a.stage ≡ DataOut cursor → IsFetchedAll a → b.stage ≡ Given place reply → place ≡ length h → b.inn ≡ a.inn
    → h' ≡ h ++ row ∷ [] → row.unit ≡ id
    → row.inn ≡ b.given.items → row.iu ≡ request.unit.items → request.order ≡ Command command → IsNamed (told_to told id) command.inn a.inn.list.items
    → length b.given.items ≤ sum_of a.inn.list.items → IsNamed (told_to told id) command.out a.out.list.items → length row.out ≡ sum_of a.out.list.items
    → ((k : ℕ) → k < length row.out → shown.bytes k ≡ slice_index row.out k) → IsAccounted told asked (cargo_at id a (sight (Some command) shown) h)
    → IsAccounted told asked (cargo_at id b (sight (Some command) shown') h')
made_given told asked id a b shown shown' h h' row command request place reply cursor same was done is at inn added unit bytes iu order named fits out_named long shows hand =
    subst (IsAccounted told asked)
    (sym (cargo_is id b (sight (Some command) shown') h' (given (length (rows_of h)) a.inn.list.items b.given.items)
    ((λ i. load_at (Some command) (is i) b.out.list.items ((inn i).list.items) b.given.items) ∙ ap (λ (n : ℕ). given n a.inn.list.items b.given.items) (at ∙ sym (rows_long h)))
    ∙ ap (cargo id shown' (given (length (rows_of h)) a.inn.list.items b.given.items)) (rows_push h h' row added)))
    (added_given told asked id shown shown' (rows_of h) (unanswered row) cursor a.out.list.items a.inn.list.items b.given.items command unit bytes spells named fits out_named
    long (done cursor was) shows same
    (subst (IsAccounted told asked) (cargo_is id a (sight (Some command) shown) h (fetching (Some command) cursor a.out.list.items a.inn.list.items)
    (ap (λ st. load_at (Some command) st a.out.list.items a.inn.list.items a.given.items) was)) hand))
  where
    spells : Spells row.iu (units.Cmd command)
    spells = subst (λ (list : List ℕ). Spells list (units.Cmd command)) (sym iu) (subst (λ (o : Order). IsOrder o request.unit.items) order request.spelled)
