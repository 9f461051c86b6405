-- What the service of the oldest request does: it logs out, or is prepared and answered.
use Rattle.std.proofs.Common.{◌≡◌, ◌≢◌, ◌⊎◌, inl, inr, ℕ, Bool, true, false, List, [], ◌∷◌, Option, refl, sym, ◌∙◌, ap, subst}
use Rattle.crq_session.specs.EndState.{EndState}
use Rattle.tce_window.specs.PortState.{PortPlace}
use Rattle.block_server.specs.Advances.{Advances}
use Rattle.block_server.specs.Bearing.{BearsRow}
use Rattle.block_server.specs.Copied.{own_name}
use Rattle.block_server.specs.Doings.{DoesOne, DoesTurn, Doing, LogsOutFirst, Prepares, doing}
use Rattle.block_server.specs.Granting.{LoginState, login_state}
use Rattle.block_server.specs.Judged.{row_in}
use Rattle.block_server.specs.Ranges.{Known, client_known}
use Rattle.block_server.specs.Receipts.{is_ended}
use Rattle.block_server.specs.RowsOn.{HasLastRow}
use Rattle.block_server.specs.SiteState.{SiteState}
use Rattle.block_server.specs.Stage.{is_answered}
use Rattle.block_server.specs.Standing.{HasAnswerAt, stood}
use Rattle.block_server.specs.Talk.{LogsOut, SuitsStage}
use Rattle.block_server.specs.Waits.{MeetsUse}
use Rattle.block_server.specs.declared.line.Line.{Line}
use Rattle.block_server.specs.declared.logins.Logins.{Logins}
use Rattle.block_server.specs.declared.records.Records.{Records}
use Rattle.block_server.specs.declared.request.Order.TheVariants as orders
use Rattle.block_server.specs.declared.request.Request.{Request}
use Rattle.block_server.specs.declared.service.Outcome.{Outcome}
use Rattle.block_server.specs.declared.service.Service.{Service}
use Rattle.block_server.specs.declared.service.Stage.{Stage}
use Rattle.block_server.specs.declared.service.Stage.TheVariants as stages
use Rattle.block_server.specs.declared.unit.Unit.{Unit}
use Rattle.block_server.proofs.DoingAnswers.{dropped, line_queue, seen_alone, unit_queue}
use Rattle.block_server.proofs.DoingReplies.{known_equal, reaches_of}
use Rattle.block_server.proofs.Doings.{does_one, does_then}
use Rattle.block_server.proofs.Leaving.{made_at}
use Rattle.block_server.proofs.Talking.{not_in_use}

-- The login ended, since the oldest request asks for that.
pub logs_out_first : (unit unit' : Unit) (site : SiteState) (records records' : Records) (request : Request) (rest : List Request) → unit.pending.items ≡ request ∷ rest → request.order ≡ orders.Logout
    → unit.service.stage ≡ stages.Start → unit'.id ≡ unit.id → LogsOut unit unit' site.queue site.queue records.grants.items records'.grants.items → records'.history.items ≡ records.history.items
    → LogsOutFirst (doing unit site records) (doing unit' site records')
logs_out_first unit unit' site records records' request rest parts order start id out rows = record {
  stays = unit_queue unit unit' site site records records' refl id out.granted refl;
  line = line_queue unit unit' site site records records' (ap is_ended out.over.line) (ap (λ (l : Line). l.handshake) out.over.line) refl;
  put = record { sent = refl; client = known_equal site.client site.client refl; rows = rows };
  first = start;
  stage = out.over.stage;
  kept = ap (λ (l : Line). l.kept) out.over.line;
  coming = refl;
  request = request;
  order = order;
  pending = dropped unit.pending.items unit'.pending.items rest request parts out.over.pending;
  current = out.current;
  session = site.queue.last_session;
  lines = out.lines_are;
}

-- where nobody else has a hand in the window, its service came to an answer
pub made_alone : (old mid : SiteState) (on : LoginState) (request : Request) (stage : Stage) (made : List ℕ) → old.shared ≡ false → (is_answered stage ≡ true) ⊎ MeetsUse old mid
    → HasAnswerAt on request stage made → (outcome : Outcome) × (stage ≡ stages.Answer outcome)
made_alone old mid on request stage made apart (inl answered) has = made_at on request stage made answered has
made_alone old mid on request stage made apart (inr busy) has = absurd (not_in_use old mid apart busy)

prepares_at : (unit unit2 : Unit) (service : Service) (old mid : SiteState) (records records2 : Records) (found : Request) (rest : List Request) (outcome : Outcome)
    → unit.service.stage ≡ stages.Start → unit.pending.items ≡ found ∷ rest → found.order ≢ orders.Logout → unit2.id ≡ unit.id → unit2.logins ≡ unit.logins → unit2.line ≡ unit.line
    → unit2.pending.items ≡ unit.pending.items → mid.queue ≡ old.queue → Advances old mid → old.shared ≡ false → records2.grants.items ≡ records.grants.items → service.stage ≡ stages.Answer outcome
    → SuitsStage unit.logins.current found.order service.stage → HasAnswerAt (login_state unit.logins) found service.stage service.answer.items
    → HasLastRow unit.id found records.history.items (row_in service.stage) records2.history.items
    → BearsRow (stood old.client) (own_name old.own found.tag) found.order records2.history.items (row_in service.stage) (client_known old) (client_known mid)
    → Prepares (doing unit old records) (record (doing unit2 mid records2) { stage = service.stage; answer = service.answer.items })
prepares_at unit unit2 service old mid records records2 found rest outcome start parts order id logins line pending queue advances apart lines at suits has last bears = record {
  stays = record {
    name = ap (λ (p : PortPlace). p.unit) advances.own_place;
    id = id;
    granted = ap (λ (l : Logins). l.granted) logins;
    partner = ap (λ (q : EndState). q.place.partner_registered) queue;
    to = ap (λ (q : EndState). q.counts.partner_session) queue;
  };
  line = record {
    ended = ap is_ended line;
    handshake = ap (λ (l : Line). l.handshake) line;
    event = ap (λ (q : EndState). q.kept) queue;
    reaches = ap reaches_of queue;
  };
  first = start;
  outcome = outcome;
  stage = at;
  kept = ap (λ (l : Line). l.kept) line;
  coming = ap (λ (q : EndState). (doing unit (record mid { queue = q }) records).coming) queue;
  sent = ap (λ (q : EndState). q.sent) queue;
  logins = ap login_state logins;
  lines = lines;
  request = found;
  rest = rest;
  pending = parts;
  pends = pending;
  order = order;
  suits = subst (λ (s : Stage). SuitsStage unit.logins.current found.order s) at suits;
  answer = subst (λ (s : Stage). HasAnswerAt (login_state unit.logins) found s service.answer.items) at has;
  rows = last;
  place = advances.client_place;
  bears = subst (λ (z : Option Known × Option Known). BearsRow (stood old.client) (own_name old.own found.tag) found.order records2.history.items (row_in service.stage) z.0 z.1)
      (λ i. (seen_alone old.shared old.client apart i, seen_alone mid.shared mid.client (advances.shared ∙ apart) i)) bears;
}

-- What the oldest request asks was done, up to its answer.
pub prepares : (unit unit2 : Unit) (service : Service) (old mid : SiteState) (records records2 : Records) (found : Request) (rest : List Request) (outcome : Outcome) → unit2.service ≡ service
    → unit.service.stage ≡ stages.Start → unit.pending.items ≡ found ∷ rest → found.order ≢ orders.Logout → unit2.id ≡ unit.id → unit2.logins ≡ unit.logins → unit2.line ≡ unit.line
    → unit2.pending.items ≡ unit.pending.items → mid.queue ≡ old.queue → Advances old mid → old.shared ≡ false → records2.grants.items ≡ records.grants.items → service.stage ≡ stages.Answer outcome
    → SuitsStage unit.logins.current found.order service.stage → HasAnswerAt (login_state unit.logins) found service.stage service.answer.items
    → HasLastRow unit.id found records.history.items (row_in service.stage) records2.history.items
    → BearsRow (stood old.client) (own_name old.own found.tag) found.order records2.history.items (row_in service.stage) (client_known old) (client_known mid)
    → Prepares (doing unit old records) (doing unit2 mid records2)
prepares unit unit2 service old mid records records2 found rest outcome same start parts order id logins line pending queue advances apart lines at suits has last bears =
    subst (λ (s : Service). Prepares (doing unit old records) (record (doing unit2 mid records2) { stage = s.stage; answer = s.answer.items })) (sym same)
    (prepares_at unit unit2 service old mid records records2 found rest outcome start parts order id logins line pending queue advances apart lines at suits has last bears)

pub does_log_out : (old new : Doing) → LogsOutFirst old new → DoesOne old new
does_log_out old new is = inr (inr (inr (inr (inr (inr (inr (inr (inr (inr (inl is))))))))))

pub does_prepare : (old new : Doing) → Prepares old new → DoesOne old new
does_prepare old new is = inr (inr (inr (inr (inr (inr (inr (inr (inr (inr (inr (inl is)))))))))))

pub turn_then : (a m b : Doing) → DoesOne a m → DoesTurn m b → DoesTurn a b
turn_then a m b one turn = record { does = does_then a m b (does_one a m one) turn.does; rests = turn.rests }

-- the session goes on while a request is pending
pub pending_on : (ended : Bool) (items rest : List Request) (request : Request) → items ≡ request ∷ rest → (ended ≡ false) ⊎ (items ≡ []) → ended ≡ false
pending_on ended items rest request parts (inl going) = going
pending_on ended items rest request parts (inr empty) = absurd (cc (parts, empty))
