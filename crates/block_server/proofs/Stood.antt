-- The pieces of a command are those of the tables that stood in its client's window, where nobody else has a hand in that.
use Rattle.std.proofs.Common.{◌≡◌, ℕ, Bool, true, false, cond, List, [], ◌∷◌, length, Option, Some, None, sym, ◌∙◌, ap, subst}
use Rattle.srp_desc.specs.Pieces.{named, pieces}
use Rattle.srp_desc.specs.Tables.{table_len, tables_of}
use Rattle.srp_iu.specs.declared.buffer.Buffer.{Buffer}
use Rattle.srp_iu.specs.declared.buffer.Desc.{Desc}
use Rattle.srp_iu.specs.declared.command.Cmd.{Cmd}
use Rattle.tce_window.specs.PortState.{PortState}
use Rattle.block_server.specs.Advances.{Advances}
use Rattle.block_server.specs.Causes.{Hearing, IsFetched, IsNamed, IsPartOf, News}
use Rattle.block_server.specs.Causes.News.{delivered, denied, fetched, nth_delivered, nth_fetched}
use Rattle.block_server.specs.Fetched.{Gathers}
use Rattle.block_server.specs.Ranges.{IsInNamed, Known, LaysIn, client_known, known_in, seen_in}
use Rattle.block_server.specs.SiteState.{SiteState}
use Rattle.block_server.specs.Stage.{is_data_in}
use Rattle.block_server.specs.Standing.{stood}
use Rattle.block_server.specs.Talk.{IsReadWhole, StandAt, StaysKnown}
use Rattle.block_server.specs.declared.service.Service.{Service}
use Rattle.block_server.specs.declared.service.Outcome.{Outcome}
use Rattle.block_server.specs.declared.service.Stage.{Stage}
use Rattle.block_server.specs.declared.service.Stage.TheVariants as stages
use Rattle.block_server.proofs.RangeLaws.{handed_within}
use Rattle.block_server.proofs.Reading.{known_on, reads_known}

-- what stood in a window of which as much is known as before stood there before
pub stood_known : (client new : PortState) → StaysKnown client new → (news : News) → stood new news → stood client news
stood_known client new same (fetched address at bytes) is = reads_known client new address bytes same is
stood_known client new same (denied right address len fault) is = absurd is
stood_known client new same (delivered at address mark bytes) is = absurd is
stood_known client new same (nth_fetched number address at bytes) is = absurd is
stood_known client new same (nth_delivered number at address mark bytes) is = absurd is

-- the window of a part of a turn in which nothing was laid, and nobody else has a hand
pub stays_after : (client : PortState) (old new : SiteState) → StaysKnown client old.client → old.shared ≡ false → Advances old new → client_known new ≡ client_known old
    → StaysKnown client new.client
stays_after client old new same alone advances known =
    known_on client old.client new.client same (record { place = advances.client_place; strokes = ap (λ (k : Known). k.strokes) is; values = ap (λ (k : Known). k.values) is })
  where
    some_known : (a b : Known) → Some a ≡ Some b → a ≡ b
    some_known a b same = cc (same)

    seen_now : (shared : Bool) (port : PortState) → shared ≡ false → seen_in shared port ≡ Some (known_in port)
    seen_now shared port apart = ap (λ (b : Bool). cond b None (Some (known_in port))) apart

    is : known_in new.client ≡ known_in old.client
    is = some_known (known_in new.client) (known_in old.client)
        (sym (seen_now new.shared new.client (advances.shared ∙ alone)) ∙ known ∙ seen_now old.shared old.client alone)

-- what is known at a stage
pub knows_at : (Hears : Hearing) (command : Cmd) (stage was : Stage) (outs inns : List Desc) → stage ≡ was → Gathers Hears command was outs inns → Gathers Hears command stage outs inns
knows_at Hears command stage was outs inns at = subst (λ (s : Stage). Gathers Hears command s outs inns) (sym at)

pub knows_then : (Hears : Hearing) (command : Cmd) (stage now : Stage) (outs inns : List Desc) → stage ≡ now → Gathers Hears command stage outs inns → Gathers Hears command now outs inns
knows_then Hears command stage now outs inns at = subst (λ (s : Stage). Gathers Hears command s outs inns) at

pub knows_answered : (Hears : Hearing) (command : Cmd) (stage : Stage) (outcome : Outcome) (outs inns : List Desc) → stage ≡ stages.Answer outcome → Gathers Hears command stage outs inns
knows_answered Hears command stage outcome outs inns at = knows_at Hears command stage (stages.Answer outcome) outs inns at tt

-- what the service of a command lays
pub placed_within : (Hears : Hearing) (command : Cmd) (service : Service) (old mid new : Option Known)
    → Gathers Hears command service.stage service.out.list.items service.inn.list.items → mid ≡ old
    → (is_data_in service.stage ≡ true → LaysIn (IsPartOf service.inn.list.items) mid new) → (is_data_in service.stage ≡ false → new ≡ mid)
    → LaysIn (IsInNamed Hears command.inn) old new
placed_within Hears command service old mid new known same wrote unwritten =
    subst (λ (k : Option Known). LaysIn (IsInNamed Hears command.inn) k new) same
    (handed_within Hears command service.stage service.out.list.items service.inn.list.items mid new known wrote unwritten)

-- The pieces are those of the bytes that stand where the table of a buffer is.
pub named_standing : (client : PortState) (buffer : Buffer) (table : Desc) (list : List Desc) (bytes : List ℕ) → tables_of buffer ≡ table ∷ [] → StandAt client table.address bytes
    → length bytes ≡ table_len buffer → IsNamed (stood client) buffer list → pieces buffer bytes ≡ named list
named_standing client buffer table list bytes own stand long is = ap (λ (t : List ℕ). pieces buffer t) (sym (stand is.table read (is.full ∙ sym long))) ∙ is.named_is
  where
    read : IsReadWhole client table.address is.table
    read = subst (λ (tables : List Desc). IsFetched (stood client) tables is.table) own is.brought
