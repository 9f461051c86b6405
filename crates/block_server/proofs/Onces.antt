-- Each answer once, over steps one after the other.
use Rattle.std.proofs.Common.{◌≡◌, ◌⊎◌, inl, inr, ◌++◌, ◌==◌, ℕ, length, List, [], ◌∷◌, Bool, true, false, Option, Some, None, IfSome, take, filter, map, refl, sym, ◌∙◌, ap, subst, arith, append-nil, append_assoc, drop}
use Rattle.std.proofs.lemmas.List.Elements.{filter-append}
use Rattle.std.proofs.lemmas.List.{map-append}
use Rattle.std.proofs.lemmas.Bool.{eqb-true}
use Rattle.vio_num.specs.Entry.{srp_entry}
use Rattle.vio_num.specs.declared.entry.Entry.{Entry as QueueEntry}
use Rattle.vio_num.specs.declared.names.UnitId.{UnitId}
use Rattle.vio_num.specs.declared.history.Served.{Served as ServedRow}
use Rattle.crq_ring.specs.declared.rows.PipeRow.{PipeRow}
use Rattle.block_server.specs.Answering.{AnswersMore, IsInService, OnlyRowsOf, answers_of, has_bytes, responses}
use Rattle.block_server.specs.Entries.{IsPlain, is_response, is_response_len}
use Rattle.block_server.specs.declared.service.Stage.{Stage}
use Rattle.block_server.specs.declared.service.Stage.TheVariants.{Start, OutTable, InTable, DataOut, Given, DataIn, Answer, Entry}
use Rattle.block_disk.specs.declared.reply.ScsiReply.{ScsiReply}
use Rattle.block_server.specs.declared.line.Kept.{Kept}
use Rattle.block_server.specs.declared.request.Request.{Request}
use Rattle.block_server.specs.Records.{AnswersRow}
use Rattle.block_server.specs.Stage.{fits, is_answered}
use Rattle.block_server.specs.declared.line.Kept.TheVariants as keeps
use Rattle.block_server.specs.declared.service.Outcome.{Outcome}
use Rattle.block_server.specs.declared.service.Outcome.TheVariants.{Granted, Rejected, Served}
use Rattle.srp_iu.specs.declared.unit.Iu.TheVariants as units
use Rattle.block_server.specs.DiskLaw.{ServeBy, ServesRowBy}
use Rattle.srp_iu.specs.Grammar.{Spells}
use Rattle.block_server.specs.Orders.{IsOrder}
use Rattle.block_server.specs.declared.request.Order.{Order}
use Rattle.block_server.specs.Records.{FillsRow}
use Rattle.std.proofs.lemmas.Option.{IfSome_then}
use Rattle.std.specs.Prelude.{IsSome}
use Rattle.block_server.specs.Causes.{Hearing, told_to}
use Rattle.block_server.specs.Fetched.{Buffers, HasPieces}
use Rattle.block_server.specs.Granting.{HasOffer}
use Rattle.block_server.specs.Serving.{AreBrought, Desk, HasReply, Held, IsReady, IfRow, IsKept, IsServed, IsServing, LeavesRow, Once, Place, ServeFrom, SettlesRow, StaysServed, Terms, place_of}
use Rattle.block_server.proofs.AnswerLaws.{answered_there, answers_filled, answers_one, filled_there, only_there}
use Rattle.block_server.specs.Written.{AreWritten}
use Rattle.block_server.proofs.DiskLaws.{serve_changed}
use Rattle.block_server.proofs.Offering.{offer_at, offer_none}
use Rattle.block_server.proofs.Writing.{written_same, written_there}
use Rattle.block_server.proofs.DiskRows.{IsKnown, SpellsOne, may_cut}
use Rattle.block_server.proofs.Rows.{stays_on, stays_same}

pub more_none : (unit : UnitId) (sent sent' : List PipeRow) (history history' : List ServedRow) → responses sent' ≡ responses sent → answers_of unit history' ≡ answers_of unit history
    → AnswersMore unit sent sent' history history'
more_none unit sent sent' history history' put rows =
    record { more = []; put = put ∙ sym (append-nil (responses sent)); rows = rows ∙ sym (append-nil (answers_of unit history)) }

pub more_on : (unit : UnitId) (s s' s'' : List PipeRow) (h h' h'' : List ServedRow) → AnswersMore unit s s' h h' → AnswersMore unit s' s'' h' h'' → AnswersMore unit s s'' h h''
more_on unit s s' s'' h h' h'' first next = record {
  more = first.more ++ next.more;
  put = next.put ∙ ap (λ front. front ++ next.more) first.put ∙ append_assoc (responses s) first.more next.more;
  rows = next.rows ∙ ap (λ front. front ++ next.more) first.rows ∙ append_assoc (answers_of unit h) first.more next.more;
}

-- ---- the disk law from one part to the next

pub tells_on : (x y z : Option (List (List ℕ))) → IfSome x (λ all. IsSome y) → IfSome y (λ all. IsSome z) → IfSome x (λ all. IsSome z)
tells_on None y z first next = tt
tells_on (Some all) (Some other) z first next = next
tells_on (Some all) None z first next = absurd (cc (first))

pub tells_same : (x : Option (List (List ℕ))) → IfSome x (λ all. IsSome x)
tells_same None = tt
tells_same (Some all) = refl

-- the rows of later take the blocks to where those of before did
pub stays_rows : (d : Held) (h h' : List ServedRow) → ((before all : List (List ℕ)) → length before ≡ d.terms.size → ServeBy d.terms.told before h all → ServeBy d.terms.told before h' all) → StaysServed d d h h'
stays_rows d h h' rows before is = IfSome_then d.now is (λ all (from : ServeFrom d.terms before h all). record { size = from.size; serve = rows before all from.size from.serve })

pub stays_equal : (d : Held) (h h' : List ServedRow) → h' ≡ h → StaysServed d d h h'
stays_equal d h h' rows = stays_rows d h h' (λ before all size is. subst (λ (list : List ServedRow). ServeBy d.terms.told before list all) (sym rows) is)

-- another row in the place of the one in service
pub stays_there : (d : Held) (h h' before behind : List ServedRow) (row new : ServedRow) → h ≡ before ++ row ∷ behind → h' ≡ before ++ new ∷ behind
    → ((b a : List (List ℕ)) → length b ≡ d.terms.size → ServesRowBy d.terms.told b row a → ServesRowBy d.terms.told b new a) → StaysServed d d h h'
stays_there d h h' before behind row new was is changed = stays_rows d h h' (λ b all size serve.
    subst (λ (list : List ServedRow). ServeBy d.terms.told b list all) (sym is)
    (serve_changed d.terms.told b all before behind row new (λ m m' same. changed m m' (same ∙ size)) (subst (λ (list : List ServedRow). ServeBy d.terms.told b list all) was serve)))

-- one part of a turn behind another
pub once_then : (d d' d'' : Held) (a b c : Desk) (s s' s'' : List PipeRow) (h h' h'' : List ServedRow) → (IsServing d.terms a h → Once d d' a b s s' h h')
    → (IsServing d'.terms b h' → Once d' d'' b c s' s'' h' h'') → IsServing d.terms a h → Once d d'' a c s s'' h h''
once_then d d' d'' a b c s s' s'' h h' h'' first next serving =
    let did = first serving in
    let then = next did.serving in
    record {
      id = then.id ∙ did.id;
      terms = then.terms ∙ did.terms;
      serving = then.serving;
      answers = more_on a.id s s' s'' h h' h'' did.answers (subst (λ unit. AnswersMore unit s' s'' h' h'') did.id then.answers);
      others = stays_on a.id h h' h'' did.others (subst (λ unit. OnlyRowsOf unit h' h'') did.id then.others);
      stays = λ before is. then.stays before (did.stays before is);
      written = λ is. then.written (did.written is);
      tells = tells_on d.now d'.now d''.now did.tells then.tells;
    }

pub once_on : (a b c : Desk) (s s' s'' : List PipeRow) (h h' h'' : List ServedRow) → ((d : Held) → IsServing d.terms a h → Once d d a b s s' h h')
    → ((d : Held) → IsServing d.terms b h' → Once d d b c s' s'' h' h'') → (d : Held) → IsServing d.terms a h → Once d d a c s s'' h h''
once_on a b c s s' s'' h h' h'' first next d = once_then d d d a b c s s' s'' h h' h'' (first d) (next d)

-- the desk and its rows are as they were, and no response was put
pub once_same : (a b : Desk) (s s' : List PipeRow) (h h' : List ServedRow) → b ≡ a → h' ≡ h → responses s' ≡ responses s → (d : Held) → IsServing d.terms a h → Once d d a b s s' h h'
once_same a b s s' h h' same rows put d serving = record {
  id = ap (λ x. x.id) same;
  terms = refl;
  serving = subst (λ (z : Desk × List ServedRow). IsServing d.terms z.0 z.1) (λ i. (sym same i, sym rows i)) serving;
  answers = more_none a.id s s' h h' put (ap (answers_of a.id) rows);
  others = subst (OnlyRowsOf a.id h) (sym rows) (stays_same a.id h);
  stays = stays_equal d h h' rows;
  written = written_same d.terms.size d.terms.told h h' rows;
  tells = tells_same d.now;
}

-- a desk is in order where nothing is kept
pub unkept : (terms : Terms) (desk : Desk) (h : List ServedRow) → IsServing terms desk h → IsServing terms (record desk { kept = None }) h
unkept terms desk h serving = record { row = serving.row; kept = λ kept is. absurd (cc (is)); fetched = serving.fetched; brought = serving.brought; offer = serving.offer }

-- the same over a disk that changed in nothing
pub once_disk : (d d' : Held) (a b : Desk) (s s' : List PipeRow) (h h' : List ServedRow) → d' ≡ d → ((x : Held) → IsServing x.terms a h → Once x x a b s s' h h')
    → IsServing d.terms a h → Once d d' a b s s' h h'
once_disk d d' a b s s' h h' same once serving = subst (λ (x : Held). Once d x a b s s' h h') (sym same) (once d serving)

-- the entries of some kind among those that were put
abbrev pub put_by : (QueueEntry → Bool) → List PipeRow → List QueueEntry
put_by P rows = filter P (map (λ (row : PipeRow). row.entry) rows)

pub put_append : (P : QueueEntry → Bool) (xs ys : List PipeRow) → put_by P (xs ++ ys) ≡ put_by P xs ++ put_by P ys
put_append P xs ys = ap (filter P) (map-append (λ (row : PipeRow). row.entry) xs ys) ∙ filter-append P (map (λ (row : PipeRow). row.entry) xs) (map (λ (row : PipeRow). row.entry) ys)

-- an entry of another kind adds none, and one of the kind adds itself
pub put_plain : (P : QueueEntry → Bool) (sent sent' : List PipeRow) (row : PipeRow) → P row.entry ≡ false → sent' ≡ sent ++ row ∷ [] → put_by P sent' ≡ put_by P sent
put_plain P sent sent' row plain put = ap (put_by P) put ∙ put_append P sent (row ∷ []) ∙ ap (λ list. put_by P sent ++ list) (one plain) ∙ append-nil (put_by P sent)
  where
    one : P row.entry ≡ false → put_by P (row ∷ []) ≡ []
    one e = rw e refl

pub put_one : (P : QueueEntry → Bool) (sent sent' : List PipeRow) (row : PipeRow) → P row.entry ≡ true → sent' ≡ sent ++ row ∷ [] → put_by P sent' ≡ put_by P sent ++ row.entry ∷ []
put_one P sent sent' row is put = ap (put_by P) put ∙ put_append P sent (row ∷ []) ∙ ap (λ list. put_by P sent ++ list) (one is)
  where
    one : P row.entry ≡ true → put_by P (row ∷ []) ≡ row.entry ∷ []
    one e = rw e refl

-- an entry that answers no request adds no response, and one that answers a command adds itself
pub responses_plain : (sent sent' : List PipeRow) (row : PipeRow) → is_response row.entry ≡ false → sent' ≡ sent ++ row ∷ [] → responses sent' ≡ responses sent
responses_plain = put_plain is_response

pub responses_one : (sent sent' : List PipeRow) (row : PipeRow) → is_response row.entry ≡ true → sent' ≡ sent ++ row ∷ [] → responses sent' ≡ responses sent ++ row.entry ∷ []
responses_one = put_one is_response

-- the requests of a desk were brought, where they are these
pub brought_at : (terms : Terms) (a b : Desk) (pending : List Request) → b.id ≡ a.id → b.pending ≡ pending → AreBrought (told_to terms.told a.id) pending
    → AreBrought (told_to terms.told b.id) b.pending
brought_at terms a b pending id same = subst (λ (z : UnitId × List Request). AreBrought (told_to terms.told z.0) z.1) (λ i. ((sym id) i, (sym same) i))

pub brought_rest : (Hears : Hearing) (list : List Request) → AreBrought Hears list → AreBrought Hears (drop 1 list)
brought_rest Hears [] all = tt
brought_rest Hears (request ∷ requests) all = all.1

pub brought_none : (Hears : Hearing) (list : List Request) → list ≡ [] → AreBrought Hears list
brought_none Hears list none = subst (AreBrought Hears) (sym none) tt

-- A desk without a service and without a kept entry is in order.
pub cleared : (terms : Terms) (desk : Desk) (history : List ServedRow) → desk.stage ≡ Start → desk.kept ≡ None → AreBrought (told_to terms.told desk.id) desk.pending
    → IsServing terms desk history
cleared terms desk history stage kept brought = record {
  row = subst (λ st. IfRow st (IsServed terms (place_of desk) history)) (sym stage) tt;
  kept = λ entry is. absurd (cc (kept, is));
  fetched = subst (λ st. HasPieces (told_to terms.told desk.id) st desk.buffers.outs desk.buffers.inns desk.pending) (sym stage) tt;
  brought = brought;
  offer = offer_none (told_to terms.told desk.id) desk.stage desk.logins desk.answer desk.pending (ap is_answered stage);
}

-- the row in service, whose disk step was made
pub known_of : (terms : Terms) (p : Place) (h : List ServedRow) (row : ℕ) (reply : ScsiReply) (is : IsServed terms p h row)
    → (made : HasReply terms is.request p.given reply is.in_service.served) → IsKnown terms made.command reply is.in_service.served
known_of terms p h row reply is made = record {
  spells = subst (λ (iu : List ℕ). Spells iu (units.Cmd made.command)) (sym is.in_service.iu_is)
      (subst (λ (order : Order). IsOrder order is.request.unit.items) made.order is.request.spelled);
  brought = made.brought;
  fault_is = made.fault_is;
  reply_is = made.reply_is;
  few = omega (arith, made.all_in);
}

-- a service that is broken off leaves the answers and the disk law as they are
module _ (one : SpellsOne) (d : Held) (a : Desk) (h h' : List ServedRow) (serving : IsServing d.terms a h) where
  -- what is so of the rows that it leaves
  abbrev Leaves : Type 0
  Leaves = (answers_of a.id h' ≡ answers_of a.id h) × OnlyRowsOf a.id h h' × StaysServed d d h h' × (AreWritten d.terms.size d.terms.told h → AreWritten d.terms.size d.terms.told h')

  left_same : h' ≡ h → Leaves
  left_same same = (ap (answers_of a.id) same, subst (OnlyRowsOf a.id h) (sym same) (stays_same a.id h), stays_equal d h h' same, written_same d.terms.size d.terms.told h h' same)

  left_cut : (at : ℕ) (reply : ScsiReply) (p : Place) → p.id ≡ a.id → p.given ≡ a.buffers.given → (row : IsServed d.terms p h at)
      → HasReply d.terms row.request p.given reply row.in_service.served
      → (n : ℕ) × FillsRow h h' at (take n a.buffers.given) → Leaves
  left_cut at reply p id given row made leaves =
      let is = subst (λ (unit : UnitId). IsInService unit row.request.unit.items h at) id row.in_service in
      let iu = row.request.unit.items in
      let inn = take leaves.0 a.buffers.given in
      let there = filled_there a.id iu h h' at inn is leaves.1 in
      let new : ServedRow = record row.in_service.served { inn = take leaves.0 row.in_service.served.inn } in
      let there' : h' ≡ row.in_service.before ++ new ∷ row.in_service.behind =
      filled_there p.id iu h h' at inn row.in_service leaves.1
      ∙ ap (λ (xs : List ℕ). row.in_service.before ++ record row.in_service.served { inn = take leaves.0 xs } ∷ row.in_service.behind) (sym (made.given_is ∙ given)) in (
        answers_filled a.id iu h h' at inn is there,
        only_there a.id iu h h' at is (record is.served { inn = inn }) is.unit_is refl there,
        stays_there d h h' row.in_service.before row.in_service.behind row.in_service.served new row.in_service.history_is there'
            (may_cut one d.terms made.command reply row.in_service.served (known_of d.terms p h at reply row made) leaves.0 row.in_service.unanswered),
        written_there d.terms.size d.terms.told h h' row.in_service.before row.in_service.behind row.in_service.served new row.in_service.history_is there' (λ was. inl row.in_service.unanswered),
      )

  broken : (stage : Stage) → stage ≡ a.stage → IfRow stage (IsServed d.terms (record { id = a.id; stage = stage; answer = a.answer; given = a.buffers.given; pending = a.pending }) h)
      → LeavesRow stage a.buffers.given h h' → Leaves
  broken Start at row leaves = left_same leaves
  broken OutTable at row leaves = left_same leaves
  broken InTable at row leaves = left_same leaves
  broken (DataOut cursor) at row leaves = left_same leaves
  broken (Given place reply) at row leaves =
      left_cut place reply (record { id = a.id; stage = Given place reply; answer = a.answer; given = a.buffers.given; pending = a.pending }) refl refl row row.holds leaves
  broken (DataIn place reply cursor) at row leaves =
      left_cut place reply (record { id = a.id; stage = DataIn place reply cursor; answer = a.answer; given = a.buffers.given; pending = a.pending }) refl refl row row.holds leaves
  broken (Answer outcome) at row leaves = left_same leaves
  broken (Entry outcome) at row leaves = left_same leaves

  -- the service is broken off, and nothing is kept
  pub once_broken : (b : Desk) (s s' : List PipeRow) → b.id ≡ a.id → b.stage ≡ Start → b.kept ≡ None → b.pending ≡ [] → LeavesRow a.stage a.buffers.given h h' → responses s' ≡ responses s
      → Once d d a b s s' h h'
  once_broken b s s' id stage kept none leaves put =
      let rest = broken a.stage refl serving.row leaves in
      record {
        id = id;
        terms = refl;
        serving = cleared d.terms b h' stage kept (brought_none (told_to d.terms.told b.id) b.pending none);
        answers = more_none a.id s s' h h' put rest.0;
        others = rest.1;
        stays = rest.2;
        written = rest.3;
        tells = tells_same d.now;
      }

-- the request in service is finished without a row's answer, and nothing is kept
pub once_cleared : (a b : Desk) (s s' : List PipeRow) (h h' : List ServedRow) → b.id ≡ a.id → b.stage ≡ Start → b.kept ≡ None → h' ≡ h → responses s' ≡ responses s
    → (d : Held) → b.pending ≡ drop 1 a.pending → IsServing d.terms a h → Once d d a b s s' h h'
once_cleared a b s s' h h' id stage kept rows put d pending serving = record {
  id = id;
  terms = refl;
  serving = cleared d.terms b h' stage kept
      (brought_at d.terms a b (drop 1 a.pending) id pending (brought_rest (told_to d.terms.told a.id) a.pending serving.brought));
  answers = more_none a.id s s' h h' put (ap (answers_of a.id) rows);
  others = subst (OnlyRowsOf a.id h) (sym rows) (stays_same a.id h);
  stays = stays_equal d h h' rows;
  written = written_same d.terms.size d.terms.told h h' rows;
  tells = tells_same d.now;
}

-- nothing is kept, no response was put, and the row in service is the same
pub once_goes : (a b : Desk) (s s' : List PipeRow) (h h' : List ServedRow) → b.id ≡ a.id → b.kept ≡ None → h' ≡ h → responses s' ≡ responses s
    → (d : Held) → IfRow b.stage (IsServed d.terms (place_of b) h)
    → HasPieces (told_to d.terms.told b.id) b.stage b.buffers.outs b.buffers.inns b.pending → AreBrought (told_to d.terms.told b.id) b.pending
    → HasOffer (told_to d.terms.told b.id) b.stage b.logins b.answer b.pending → Once d d a b s s' h h'
once_goes a b s s' h h' id kept rows put d row fetched brought offer = record {
  id = id;
  terms = refl;
  serving = record {
    row = subst (λ list. IfRow b.stage (IsServed d.terms (place_of b) list)) (sym rows) row;
    kept = λ entry is. absurd (cc (kept, is));
    fetched = fetched;
    brought = brought;
    offer = offer;
  };
  answers = more_none a.id s s' h h' put (ap (answers_of a.id) rows);
  others = subst (OnlyRowsOf a.id h) (sym rows) (stays_same a.id h);
  stays = stays_equal d h h' rows;
  written = written_same d.terms.size d.terms.told h h' rows;
  tells = tells_same d.now;
}

-- the place of a desk whose parts are those of another
pub place_is : (a b : Desk) → b.id ≡ a.id → b.stage ≡ a.stage → b.answer ≡ a.answer → b.buffers ≡ a.buffers → b.pending ≡ a.pending → place_of b ≡ place_of a
place_is a b id stage answer buffers pending =
    λ i. record { id = id i; stage = stage i; answer = answer i; given = (buffers i).given; pending = pending i }

-- the row in service and the pieces, at a desk whose parts are those of another
pub row_at : (terms : Terms) (a b : Desk) (h : List ServedRow) → b.id ≡ a.id → b.stage ≡ a.stage → b.answer ≡ a.answer → b.buffers ≡ a.buffers → b.pending ≡ a.pending
    → IfRow a.stage (IsServed terms (place_of a) h) → IfRow b.stage (IsServed terms (place_of b) h)
row_at terms a b h id stage answer buffers pending =
    subst (λ (p : Place). IfRow p.stage (IsServed terms p h)) (sym (place_is a b id stage answer buffers pending))

pub pieces_at : (terms : Terms) (a b : Desk) → b.id ≡ a.id → b.stage ≡ a.stage → b.buffers ≡ a.buffers → b.pending ≡ a.pending
    → HasPieces (told_to terms.told a.id) a.stage a.buffers.outs a.buffers.inns a.pending → HasPieces (told_to terms.told b.id) b.stage b.buffers.outs b.buffers.inns b.pending
pieces_at terms a b id stage buffers pending =
    subst (λ (z : UnitId × Stage × Buffers × List Request). HasPieces (told_to terms.told z.0) z.1 z.2.outs z.2.inns z.3) (λ i. ((sym id) i, (sym stage) i, (sym buffers) i, (sym pending) i))

-- the service is where it was; nothing is kept, and no response was put
pub once_still : (a b : Desk) (s s' : List PipeRow) (h h' : List ServedRow) → b.id ≡ a.id → b.logins ≡ a.logins → b.stage ≡ a.stage → b.answer ≡ a.answer → b.buffers ≡ a.buffers → b.pending ≡ a.pending
    → b.kept ≡ None → h' ≡ h → responses s' ≡ responses s → (d : Held) → IsServing d.terms a h → Once d d a b s s' h h'
once_still a b s s' h h' id logins stage answer buffers pending kept rows put d serving =
    once_goes a b s s' h h' id kept rows put d (row_at d.terms a b h id stage answer buffers pending serving.row) (pieces_at d.terms a b id stage buffers pending serving.fetched)
    (brought_at d.terms a b a.pending id pending serving.brought) (offer_at d.terms a b a.stage a.answer a.pending id logins stage answer pending serving.offer)

-- an entry that answers no request is kept in the place of what was kept
pub once_reply_kept : (a b : Desk) (s s' : List PipeRow) (h : List ServedRow) (entry : QueueEntry) → b.id ≡ a.id → b.logins ≡ a.logins → b.pending ≡ a.pending → b.stage ≡ a.stage → b.answer ≡ a.answer
    → b.buffers ≡ a.buffers → b.kept ≡ Some (keeps.Reply entry) → IsPlain entry → responses s' ≡ responses s → (d : Held) → IsServing d.terms a h → Once d d a b s s' h h
once_reply_kept a b s s' h entry id logins pending stage answer buffers kept plain put d serving = record {
  id = id;
  terms = refl;
  serving = record {
    row = row_at d.terms a b h id stage answer buffers pending serving.row;
    kept = λ other is. subst (IsKept b) (some_is entry other (sym kept ∙ is)) plain;
    fetched = pieces_at d.terms a b id stage buffers pending serving.fetched;
    brought = brought_at d.terms a b a.pending id pending serving.brought;
    offer = offer_at d.terms a b a.stage a.answer a.pending id logins stage answer pending serving.offer;
  };
  answers = more_none a.id s s' h h put refl;
  others = stays_same a.id h;
  stays = stays_equal d h h refl;
  written = λ is. is;
  tells = tells_same d.now;
}
  where
    some_is : (e : QueueEntry) (other : Kept) → Some (keeps.Reply e) ≡ Some other → keeps.Reply e ≡ other
    some_is e other same = cc (same)

-- the lengths of responses
pub response_lens : (n : ℕ) → is_response_len n ≡ true → (n ≡ 36) ⊎ ((n ≡ 40) ⊎ (n ≡ 54))
response_lens n is = by (n == 36) refl (n == 40) refl (n == 54) refl
  where
    by : (a : Bool) → (n == 36) ≡ a → (b : Bool) → (n == 40) ≡ b → (c : Bool) → (n == 54) ≡ c → (n ≡ 36) ⊎ ((n ≡ 40) ⊎ (n ≡ 54))
    by true a b b_is c c_is = inl (eqb-true n 36 a)
    by false a true b c c_is = inr (inl (eqb-true n 40 b))
    by false a false b true c = inr (inr (eqb-true n 54 c))
    by false a false b false c = absurd (cc (is, a, b, c))

answers_command : (n tag : ℕ) → (n ≡ 36) ⊎ ((n ≡ 40) ⊎ (n ≡ 54)) → is_response (srp_entry n tag) ≡ true
answers_command n tag (inl is) = subst (λ k. is_response (srp_entry k tag) ≡ true) (sym is) refl
answers_command n tag (inr (inl is)) = subst (λ k. is_response (srp_entry k tag) ≡ true) (sym is) refl
answers_command n tag (inr (inr is)) = subst (λ k. is_response (srp_entry k tag) ≡ true) (sym is) refl

answers_login : (n k tag : ℕ) → (n == k) ≡ true → is_response (srp_entry k tag) ≡ false → is_response (srp_entry n tag) ≡ false
answers_login n k tag is none = subst (λ m. is_response (srp_entry m tag) ≡ false) (sym (eqb-true n k is)) none

some_bytes : (bytes : List ℕ) → (length bytes ≡ 36) ⊎ ((length bytes ≡ 40) ⊎ (length bytes ≡ 54)) → has_bytes bytes ≡ true
some_bytes [] (inl is) = absurd (cc (is))
some_bytes [] (inr (inl is)) = absurd (cc (is))
some_bytes [] (inr (inr is)) = absurd (cc (is))
some_bytes (byte ∷ bytes) is = refl

-- The answer in service was put: its row, if it has one, has it, and nothing is kept.
module _ (a b : Desk) (s s' : List PipeRow) (h h' : List ServedRow) (put : PipeRow) (request : Request) (rest : List Request) (d : Held)
    (serving : IsServing d.terms a h) (id : b.id ≡ a.id) (stage : b.stage ≡ Start) (kept : b.kept ≡ None) (front : a.pending ≡ request ∷ rest)
    (pending : b.pending ≡ drop 1 a.pending)
    (entry_is : put.entry ≡ srp_entry (length a.answer) request.tag) (sent : s' ≡ s ++ put ∷ []) where
  login : (outcome : Outcome) → is_response (srp_entry (length a.answer) request.tag) ≡ false → h' ≡ h → Once d d a b s s' h h'
  login outcome none rows =
      once_cleared a b s s' h h' id stage kept rows (responses_plain s s' put (ap is_response entry_is ∙ none) sent) d pending serving

  served : (row : ℕ) (p : Place) → p.id ≡ a.id → p.pending ≡ a.pending → (is : IsServed d.terms p h row) → IsReady d.terms a.answer is.in_service.served
      → (length a.answer ≡ 36) ⊎ ((length a.answer ≡ 40) ⊎ (length a.answer ≡ 54)) → AnswersRow h h' row a.answer → Once d d a b s s' h h'
  served row p p_id p_pending is may len answers =
      let iu = is.request.unit.items in
      let in_service = subst (λ (unit : UnitId). IsInService unit iu h row) p_id is.in_service in
      let there = answered_there a.id iu h h' row a.answer in_service answers in
      let same : is.request ≡ request = head_is is.request request is.rest rest (sym is.front ∙ p_pending ∙ front) in
      let one = answers_one a.id iu h h' row a.answer in_service (some_bytes a.answer len) there in
      record {
        id = id;
        terms = refl;
        serving = cleared d.terms b h' stage kept
            (brought_at d.terms a b (drop 1 a.pending) id pending (brought_rest (told_to d.terms.told a.id) a.pending serving.brought));
        answers = record {
          more = put.entry ∷ [];
          put = responses_one s s' put (ap is_response entry_is ∙ answers_command (length a.answer) request.tag len) sent;
          rows = one ∙ ap (λ e. answers_of a.id h ++ e ∷ [])
              (ap (srp_entry (length a.answer)) (sym is.request.tagged ∙ ap (λ (r : Request). r.tag) same) ∙ sym entry_is);
        };
        others = only_there a.id iu h h' row in_service (record in_service.served { answer = a.answer }) in_service.unit_is refl there;
        stays = stays_there d h h' is.in_service.before is.in_service.behind is.in_service.served (record is.in_service.served { answer = a.answer })
            is.in_service.history_is (answered_there p.id iu h h' row a.answer is.in_service answers) may.may.law;
        written = written_there d.terms.size d.terms.told h h' is.in_service.before is.in_service.behind is.in_service.served (record is.in_service.served { answer = a.answer })
            is.in_service.history_is (answered_there p.id iu h h' row a.answer is.in_service answers) (λ was. inr (may.over, may.may.form));
        tells = tells_same d.now;
      }
    where
      head_is : (x y : Request) (xs ys : List Request) → x ∷ xs ≡ y ∷ ys → x ≡ y
      head_is x y xs ys e = cc (e)

  served_at : (stage : Stage) (row : ℕ) → stage ≡ Entry (Served row)
      → IfRow stage (IsServed d.terms (record { id = a.id; stage = stage; answer = a.answer; given = a.buffers.given; pending = a.pending }) h)
      → IsServed d.terms (record { id = a.id; stage = Entry (Served row); answer = a.answer; given = a.buffers.given; pending = a.pending }) h row
  served_at stage row at =
      subst (λ (st : Stage). IfRow st (IsServed d.terms (record { id = a.id; stage = st; answer = a.answer; given = a.buffers.given; pending = a.pending }) h)) at

  pub once_settled : (outcome : Outcome) → a.stage ≡ Entry outcome → fits outcome (length a.answer) ≡ true → SettlesRow outcome a.answer h h' → Once d d a b s s' h h'
  once_settled (Granted number) at len rows = login (Granted number) (answers_login (length a.answer) 52 request.tag len refl) rows
  once_settled Rejected at len rows = login Rejected (answers_login (length a.answer) 32 request.tag len refl) rows
  once_settled (Served row) at len rows =
      let is = served_at a.stage row at serving.row in
      served row (record { id = a.id; stage = Entry (Served row); answer = a.answer; given = a.buffers.given; pending = a.pending }) refl refl is is.holds
      (response_lens (length a.answer) len) rows
