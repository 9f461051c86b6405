-- What a unit is told of the copies that its calls made, and each answer once, where a part of a turn makes copies.
use Rattle.std.proofs.Common.{◌≡◌, ℕ, Bool, List, [], subst, sym}
use Rattle.vio_num.specs.declared.names.UnitId.{UnitId}
use Rattle.block_server.specs.declared.records.Records.{Records}
use Rattle.block_server.specs.Advances.{Advances}
use Rattle.block_server.specs.Causes.{Told, told_to, units_at}
use Rattle.block_server.specs.Causes.News.{delivered, fetched}
use Rattle.block_server.specs.Delivers.{DeliversOne}
use Rattle.block_server.specs.Heard.{TellsAll}
use Rattle.block_server.specs.Moves.{FetchesOne}
use Rattle.block_server.specs.Serving.{AnswersOnceBy, Desk}
use Rattle.block_server.specs.SiteState.{SiteState}
use Rattle.block_server.proofs.Denying.{tells_first, tells_next}
use Rattle.block_server.proofs.Onces.{once_then}

-- a call told which information unit its copy brought, and which answer it wrote
pub heard_fetched : (told : Told → Bool) (unit : UnitId) (old new : SiteState) (address at : ℕ) (bytes : List ℕ) → address ≡ at → TellsAll told unit old new
    → FetchesOne old new address bytes → told_to told unit (fetched at units_at bytes)
heard_fetched told unit old new address at bytes same all one =
    subst (λ (n : ℕ). told_to told unit (fetched n units_at bytes)) same
    (all (fetched address units_at bytes) (record { front = []; copy = one.copy; rest = []; made = one.made; is = one.fetched }))

pub heard_delivered : (told : Told → Bool) (unit : UnitId) (old new : SiteState) (address mark : ℕ) (bytes : List ℕ) → TellsAll told unit old new
    → DeliversOne old new 0 address mark bytes → told_to told unit (delivered units_at address mark bytes)
heard_delivered told unit old new address mark bytes all one =
    all (delivered units_at address mark bytes) (record { front = []; copy = one.copy; rest = []; made = one.made; is = one.delivered })

-- one part of a turn behind another
pub once_by : (old mid new : SiteState) (a b c : Desk) (r r' r'' : Records) → Advances old mid → Advances mid new → AnswersOnceBy old mid a b r r' → AnswersOnceBy mid new b c r' r''
    → AnswersOnceBy old new a c r r''
once_by old mid new a b c r r' r'' first next one two disk all serving =
    let did = one disk (tells_first disk.terms.told a.id old mid new next all) serving in
    once_then disk disk disk a b c old.queue.sent mid.queue.sent new.queue.sent r.history.items r'.history.items r''.history.items
    (λ again. did)
    (two disk (subst (λ (id : UnitId). TellsAll disk.terms.told id mid new) (sym did.id) (tells_next disk.terms.told a.id old mid new first all))) serving
