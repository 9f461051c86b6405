-- What is told over a run of turns is told of each turn.
use Rattle.std.proofs.Common.{◌≡◌, ◌++◌, ℕ, Bool, List, length, sym, ap, subst}
use Rattle.vio_num.specs.declared.names.UnitId.{UnitId}
use Rattle.tce_window.specs.Pieces.{IsRefused}
use Rattle.tce_window.specs.Port.{Later}
use Rattle.tce_window.specs.PortState.{PortState}
use Rattle.rdma_copy.specs.Copies.{side_of}
use Rattle.rdma_copy.specs.Copy.{SideGrows}
use Rattle.rdma_copy.specs.declared.copy.CopyRecord.{CopyRecord}
use Rattle.block_server.specs.Causes.{Includes, Told}
use Rattle.block_server.specs.Causes.News.{delivered, denied, fetched, nth_delivered, nth_fetched}
use Rattle.block_server.specs.Delivers.{Delivers}
use Rattle.block_server.specs.Heard.{Tells, heard_of}
use Rattle.block_server.specs.Moves.{Fetches}
use Rattle.block_server.proofs.Advancing.{begins_on, later_on}
use Rattle.block_server.proofs.Denying.{as_after, as_before, delivers_stays, made_after, made_before}
use Rattle.block_server.proofs.Receiving.{fetches_stays}

-- The windows, and the copies, between which a run of turns is, and one turn of them.
pub record IsPartOfRun (shared : Bool) (own own' first old new last : PortState) (before copies copies' after : List CopyRecord) : Type 0 where
  pub own_grows : SideGrows (side_of own) (side_of own')
  pub client_grows : SideGrows (side_of new) (side_of last)
  pub since : (e : ℕ) → Later shared (first.values e) (old.values e)
  pub place : old.place ≡ first.place
  pub earlier : List CopyRecord
  pub began : copies ≡ before ++ earlier
  pub later : List CopyRecord
  pub ended : after ≡ copies' ++ later

heard_in_all : (shared : Bool) (own own' first old new last : PortState) (before copies copies' after : List CopyRecord)
    → IsPartOfRun shared own own' first old new last before copies copies' after
    → Includes (heard_of shared own old new copies copies') (heard_of shared own' first last before after)
heard_in_all shared own own' first old new last before copies copies' after part (denied right address len fault) is = record {
  values = is.values;
  since = λ e. later_on shared (first.values e) (old.values e) (is.values e) (part.since e) (is.since e);
  until = λ e. begins_on (is.values e) (new.values e) (last.values e) (is.until e) (part.client_grows.values e);
  of_entry = is.of_entry;
  refused = subst (λ (n : ℕ). IsRefused is.values right n address len fault) (ap (λ place. place.size) part.place) is.refused;
}
heard_in_all shared own own' first old new last before copies copies' after part (fetched address at bytes) is =
    made_after (Fetches own' last address at (length bytes) bytes) before copies after part.earlier part.began
    (made_before (Fetches own new address at (length bytes) bytes) (Fetches own' last address at (length bytes) bytes) copies copies' after part.later part.ended
    (fetches_stays own own' new last part.own_grows part.client_grows address at (length bytes) bytes) is)
heard_in_all shared own own' first old new last before copies copies' after part (delivered at address mark bytes) is =
    made_after (Delivers own' last at address (length bytes) mark bytes) before copies after part.earlier part.began
    (made_before (Delivers own new at address (length bytes) mark bytes) (Delivers own' last at address (length bytes) mark bytes) copies copies' after part.later part.ended
    (delivers_stays own own' new last part.own_grows part.client_grows at address (length bytes) mark bytes) is)
heard_in_all shared own own' first old new last before copies copies' after part (nth_fetched number address at bytes) is =
    as_after (Fetches own' last address at (length bytes) bytes) own'.place.unit number before copies after part.earlier part.began
    (as_before (Fetches own new address at (length bytes) bytes) (Fetches own' last address at (length bytes) bytes) own.place.unit own'.place.unit number copies copies' after
    part.later (sym part.own_grows.unit) part.ended (fetches_stays own own' new last part.own_grows part.client_grows address at (length bytes) bytes) is)
heard_in_all shared own own' first old new last before copies copies' after part (nth_delivered number at address mark bytes) is =
    as_after (Delivers own' last at address (length bytes) mark bytes) own'.place.unit number before copies after part.earlier part.began
    (as_before (Delivers own new at address (length bytes) mark bytes) (Delivers own' last at address (length bytes) mark bytes) own.place.unit own'.place.unit number copies copies' after
    part.later (sym part.own_grows.unit) part.ended (delivers_stays own own' new last part.own_grows part.client_grows at address (length bytes) mark bytes) is)

-- Where all news of a run are told, those of each of its turns are.
pub tells_of_run : (told : Told → Bool) (unit : UnitId) (shared : Bool) (own own' first old new last : PortState) (before copies copies' after : List CopyRecord)
    → IsPartOfRun shared own own' first old new last before copies copies' after → Tells told unit shared own' first last before after
    → Tells told unit shared own old new copies copies'
tells_of_run told unit shared own own' first old new last before copies copies' after part all news is =
    all news (heard_in_all shared own own' first old new last before copies copies' after part news is)
