-- The data-in that a unit has in hand, as its service goes on.
use Rattle.std.proofs.Common.{◌≡◌, ◌⊎◌, inl, inr, ◌≤◌, ◌++◌, ℕ, false, List, [], ◌∷◌, Option, None, take, refl, sym, ◌∙◌, ap, subst, arith}
use Rattle.vio_num.specs.declared.history.Served.{Served}
use Rattle.vio_num.specs.declared.names.UnitId.{UnitId}
use Rattle.block_disk.specs.declared.reply.ScsiReply.{ScsiReply}
use Rattle.srp_iu.specs.declared.buffer.Desc.{Desc}
use Rattle.srp_iu.specs.declared.command.Cmd.{Cmd}
use Rattle.block_server.specs.Cargo.{KeepsCargo, Load, Pages, Sight, cargo, cargo_at, first_command, is_loaded, is_moving, load_at, rows_of, sight, unanswered}
use Rattle.block_server.specs.Cargo.Load.{fetching, given, none, sending, tabled}
use Rattle.block_server.specs.Records.{FillsRow}
use Rattle.block_server.specs.declared.cursor.Cursor.{Cursor}
use Rattle.block_server.specs.declared.request.Request.{Request}
use Rattle.block_server.specs.declared.service.Service.{Service}
use Rattle.block_server.specs.declared.service.Stage.{Stage}
use Rattle.block_server.specs.declared.service.Stage.TheVariants.{Start, OutTable, InTable, DataOut, Given, DataIn, Answer, Entry}
use Rattle.block_server.proofs.HandRows.{rows_push}
use Rattle.block_server.proofs.Hands.{blank_none, cut_given, cut_sending, dropped, keeps_by, keeps_on, keeps_same, more_none, no_parts, no_table, tables_dropped}

-- the cargo of a service whose load is this
pub cargo_is : (id : UnitId) (service : Service) (shown : Sight) (h : List Served) (load : Load) → load_at shown.command service.stage service.out.list.items service.inn.list.items service.given.items ≡ load
    → cargo_at id service shown h ≡ cargo id shown.pages load (rows_of h)
unfolding cargo_at
cargo_is id service shown h load is = ap (λ l. cargo id shown.pages l (rows_of h)) is

pub no_load : (command : Option Cmd) (stage : Stage) (outs inns : List Desc) (bytes : List ℕ) → is_moving stage ≡ false → load_at command stage outs inns bytes ≡ none
no_load command Start outs inns bytes is = refl
no_load command OutTable outs inns bytes is = refl
no_load command InTable outs inns bytes is = absurd (cc (is))
no_load command (DataOut cursor) outs inns bytes is = absurd (cc (is))
no_load command (Given row reply) outs inns bytes is = absurd (cc (is))
no_load command (DataIn row reply cursor) outs inns bytes is = absurd (cc (is))
no_load command (Answer outcome) outs inns bytes is = refl
no_load command (Entry outcome) outs inns bytes is = refl

pub other_stage : (stage : Stage) → ((row : ℕ) (reply : ScsiReply) → stage ≡ Given row reply → ⊥) → ((row : ℕ) (reply : ScsiReply) (cursor : Cursor) → stage ≡ DataIn row reply cursor → ⊥)
    → is_loaded stage ≡ false
other_stage Start first next = refl
other_stage OutTable first next = refl
other_stage InTable first next = refl
other_stage (DataOut cursor) first next = refl
other_stage (Given row reply) first next = absurd (first row reply refl)
other_stage (DataIn row reply cursor) first next = absurd (next row reply cursor refl)
other_stage (Answer outcome) first next = refl
other_stage (Entry outcome) first next = refl

-- the cargo of a service without a load
pub cargo_none : (id : UnitId) (service : Service) (shown : Sight) (h : List Served) → is_moving service.stage ≡ false → cargo_at id service shown h ≡ cargo id shown.pages none (rows_of h)
cargo_none id service shown h is = cargo_is id service shown h none (no_load shown.command service.stage service.out.list.items service.inn.list.items service.given.items is)

-- a service that has no data-in to be copied, and is to do nothing more, whatever was copied
pub to_none : (id : UnitId) (a : Service) (shown : Sight) (shown' : Pages) (h : List Served) → shown.pages.count ≤ shown'.count → is_loaded a.stage ≡ false
    → KeepsCargo (cargo_at id a shown h) (cargo id shown' none (rows_of h))
to_none id a shown shown' h more was = by a.stage refl
  where
    idle : is_moving a.stage ≡ false → KeepsCargo (cargo_at id a shown h) (cargo id shown' none (rows_of h))
    idle is = keeps_by _ _ _ _ (cargo_none id a shown h is) refl (more_none id shown.pages shown' (rows_of h) more)

    by : (stage : Stage) → a.stage ≡ stage → KeepsCargo (cargo_at id a shown h) (cargo id shown' none (rows_of h))
    by Start at = idle (ap is_moving at)
    by OutTable at = idle (ap is_moving at)
    by InTable at =
        keeps_by _ _ _ _ (cargo_is id a shown h (tabled shown.command a.out.list.items) (ap (λ st. load_at shown.command st a.out.list.items a.inn.list.items a.given.items) at)) refl
        (tables_dropped id shown.pages shown' (rows_of h) shown.command a.out.list.items more)
    by (DataOut cursor) at =
        keeps_by _ _ _ _ (cargo_is id a shown h (fetching shown.command cursor a.out.list.items a.inn.list.items)
        (ap (λ st. load_at shown.command st a.out.list.items a.inn.list.items a.given.items) at)) refl
        (dropped id shown.pages shown' (rows_of h) shown.command cursor a.out.list.items a.inn.list.items more)
    by (Given row reply) at = absurd (cc (sym was ∙ ap is_loaded at))
    by (DataIn row reply cursor) at = absurd (cc (sym was ∙ ap is_loaded at))
    by (Answer outcome) at = idle (ap is_moving at)
    by (Entry outcome) at = idle (ap is_moving at)

-- where none has data-in to be copied, the rows alone count
pub none_more : (id : UnitId) (a b : Service) (shown shown' : Sight) (h h' : List Served) → shown.pages.count ≤ shown'.pages.count → is_loaded a.stage ≡ false → is_moving b.stage ≡ false
    → rows_of h' ≡ rows_of h → KeepsCargo (cargo_at id a shown h) (cargo_at id b shown' h')
none_more id a b shown shown' h h' more was is rows =
    keeps_by _ _ _ _ refl (cargo_none id b shown' h' is ∙ ap (cargo id shown'.pages none) rows) (to_none id a shown shown'.pages h more was)

pub none_keeps : (id : UnitId) (a b : Service) (shown shown' : Sight) (h h' : List Served) → shown'.pages.count ≡ shown.pages.count → is_loaded a.stage ≡ false → is_moving b.stage ≡ false
    → rows_of h' ≡ rows_of h → KeepsCargo (cargo_at id a shown h) (cargo_at id b shown' h')
none_keeps id a b shown shown' h h' same = none_more id a b shown shown' h h' (omega (arith, same))

pub none_seen : (id : UnitId) (a b : Service) (shown shown' : Sight) (h h' : List Served) → shown'.pages ≡ shown.pages → is_moving a.stage ≡ false → is_moving b.stage ≡ false → rows_of h' ≡ rows_of h
    → cargo_at id b shown' h' ≡ cargo_at id a shown h
none_seen id a b shown shown' h h' same was is rows =
    cargo_none id b shown' h' is ∙ (λ i. cargo id (same i) none (rows i)) ∙ sym (cargo_none id a shown h was)

-- a row without data came
pub blank_keeps : (id : UnitId) (a b : Service) (shown shown' : Sight) (h h' : List Served) (row : Served) → shown'.pages.count ≡ shown.pages.count → is_loaded a.stage ≡ false
    → is_moving b.stage ≡ false → row.inn ≡ [] → row.out ≡ [] → h' ≡ h ++ row ∷ [] → KeepsCargo (cargo_at id a shown h) (cargo_at id b shown' h')
blank_keeps id a b shown shown' h h' row same was is blank no_out added =
    keeps_by _ _ _ _ refl (cargo_none id b shown' h' is ∙ ap (cargo id shown'.pages none) (rows_push h h' row added))
    (keeps_on _ _ _ (to_none id a shown shown.pages h (omega arith) was) (blank_none id shown.pages shown'.pages (rows_of h) (unanswered row) same blank no_out))

-- a service that is broken off
pub cut_at_given : (id : UnitId) (a b : Service) (shown shown' : Sight) (h h' : List Served) (row : ℕ) (reply : ScsiReply) (inn : List ℕ) → shown'.pages.count ≡ shown.pages.count
    → a.stage ≡ Given row reply → is_moving b.stage ≡ false
    → inn ≡ take 0 a.given.items → FillsRow (rows_of h) (rows_of h') row inn → KeepsCargo (cargo_at id a shown h) (cargo_at id b shown' h')
cut_at_given id a b shown shown' h h' row reply inn same was is cut fills =
    keeps_by _ _ _ _ (cargo_is id a shown h (given row a.inn.list.items a.given.items) (ap (λ st. load_at shown.command st a.out.list.items a.inn.list.items a.given.items) was))
    (cargo_none id b shown' h' is)
    (cut_given id shown.pages shown'.pages (rows_of h) (rows_of h') row a.inn.list.items a.given.items same (subst (FillsRow (rows_of h) (rows_of h') row) cut fills))

pub cut_at_sending : (id : UnitId) (a b : Service) (shown shown' : Sight) (h h' : List Served) (row : ℕ) (reply : ScsiReply) (cursor : Cursor) (inn : List ℕ)
    → shown'.pages.count ≡ shown.pages.count → a.stage ≡ DataIn row reply cursor
    → is_moving b.stage ≡ false → inn ≡ take cursor.done a.given.items → FillsRow (rows_of h) (rows_of h') row inn → KeepsCargo (cargo_at id a shown h) (cargo_at id b shown' h')
cut_at_sending id a b shown shown' h h' row reply cursor inn same was is cut fills =
    keeps_by _ _ _ _ (cargo_is id a shown h (sending row cursor a.inn.list.items a.given.items) (ap (λ st. load_at shown.command st a.out.list.items a.inn.list.items a.given.items) was))
    (cargo_none id b shown' h' is)
    (cut_sending id shown.pages shown'.pages (rows_of h) (rows_of h') row cursor a.inn.list.items a.given.items same (subst (FillsRow (rows_of h) (rows_of h') row) cut fills))

-- ---- what changes no load

-- a unit bears its name
pub named_keeps : (id id' : UnitId) (a b : Service) (shown shown' : Sight) (h h' : List Served) → id' ≡ id → KeepsCargo (cargo_at id a shown h) (cargo_at id b shown' h')
    → KeepsCargo (cargo_at id a shown h) (cargo_at id' b shown' h')
named_keeps id id' a b shown shown' h h' same keeps = subst (λ (u : UnitId). KeepsCargo (cargo_at id a shown h) (cargo_at u b shown' h')) (sym same) keeps

pub named_same : (id id' : UnitId) (a b : Service) (shown shown' : Sight) (h h' : List Served) → id' ≡ id → cargo_at id b shown' h' ≡ cargo_at id a shown h
    → cargo_at id' b shown' h' ≡ cargo_at id a shown h
named_same id id' a b shown shown' h h' same is = ap (λ (u : UnitId). cargo_at u b shown' h') same ∙ is

-- the pages show what they did, over the same rows, to the same command
pub shown_same : (id : UnitId) (a : Service) (shown shown' : Sight) (h h' : List Served) → shown' ≡ shown → h' ≡ h → cargo_at id a shown' h' ≡ cargo_at id a shown h
shown_same id a shown shown' h h' same rows = ap (λ (s : Sight). cargo_at id a s h') same ∙ ap (cargo_at id a shown) rows

pub sees : (command : Option Cmd) (old new : Pages) → new ≡ old → sight command new ≡ sight command old
sees command old new = ap (sight command)

-- a unit whose name and service are as they were
pub cargo_named : (id id' : UnitId) (a b : Service) (shown : Sight) (h : List Served) → id' ≡ id → b ≡ a → cargo_at id' b shown h ≡ cargo_at id a shown h
cargo_named id id' a b shown h same service i = cargo_at (same i) (service i) shown h

-- the oldest command stays, or there was none
pub command_more : (id : UnitId) (a : Service) (command command' : Option Cmd) (pages : Pages) (h : List Served) → (command ≡ None) ⊎ (command' ≡ command)
    → KeepsCargo (cargo_at id a (sight command pages) h) (cargo_at id a (sight command' pages) h)
unfolding cargo_at
command_more id a command command' pages h (inr same) = keeps_same _ _ (ap (λ (c : Option Cmd). cargo_at id a (sight c pages) h) same)
command_more id a command command' pages h (inl none_was) = by a.stage a.out.list.items a.inn.list.items a.given.items
  where
    by : (stage : Stage) (outs inns : List Desc) (bytes : List ℕ)
        → KeepsCargo (cargo id pages (load_at command stage outs inns bytes) (rows_of h)) (cargo id pages (load_at command' stage outs inns bytes) (rows_of h))
    by Start outs inns bytes = keeps_same _ _ refl
    by OutTable outs inns bytes = keeps_same _ _ refl
    by InTable outs inns bytes = no_table id pages (rows_of h) command command' outs none_was
    by (DataOut cursor) outs inns bytes = no_parts id pages (rows_of h) command command' cursor outs inns none_was
    by (Given row reply) outs inns bytes = keeps_same _ _ refl
    by (DataIn row reply cursor) outs inns bytes = keeps_same _ _ refl
    by (Answer outcome) outs inns bytes = keeps_same _ _ refl
    by (Entry outcome) outs inns bytes = keeps_same _ _ refl

pub first_pushed : (pending pending' : List Request) (request : Request) → pending' ≡ pending ++ request ∷ [] → (first_command pending ≡ None) ⊎ (first_command pending' ≡ first_command pending)
first_pushed [] pending' request pushed = inl refl
first_pushed (first ∷ pending) pending' request pushed = inr (ap first_command pushed)
