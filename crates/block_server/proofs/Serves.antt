-- Each answer once, where the service of a request goes on, and where an entry is kept or a request comes.
use Rattle.std.proofs.Common.{inl, ◌≡◌, ◌≢◌, ◌++◌, ◌<◌, ℕ, length, List, [], ◌∷◌, Bool, true, false, Option, Some, None, IfSome, take, Result, Ok, Err, OnOk, OnErr, refl, sym, ◌∙◌, ap, subst, arith}
use Rattle.std.specs.List.{HoldsAt}
use Rattle.std.specs.Prelude.{IsSome}
use Rattle.vio_num.specs.declared.entry.Entry.{Entry as QueueEntry}
use Rattle.vio_num.specs.declared.names.UnitId.{UnitId}
use Rattle.vio_num.specs.declared.memory.NoMemory.{NoMemory}
use Rattle.vio_num.specs.declared.history.Served.{Served as ServedRow}
use Rattle.crq_ring.specs.declared.rows.PipeRow.{PipeRow}
use Rattle.block_disk.specs.declared.reply.ScsiReply.{ScsiReply}
use Rattle.crq_session.specs.declared.answers.SendAnswer.{SendAnswer}
use Rattle.crq_session.specs.declared.answers.SendAnswer.TheVariants as sending
use Rattle.crq_session.specs.Answers.{IfClosed, OnNotSent}
use Rattle.crq_session.specs.Answered.{TurnsBack}
use Rattle.crq_session.specs.EndState.{EndState, OnlyReserves}
use Rattle.block_server.specs.Answering.{OnlyRowsOf, responses}
use Rattle.block_server.specs.Records.{FillsRow}
use Rattle.block_server.specs.Stage.{is_answered, is_before_step}
use Rattle.block_server.specs.declared.cursor.Cursor.{Cursor}
use Rattle.block_server.specs.declared.intake.Next.{Next}
use Rattle.block_server.specs.declared.intake.Next.TheVariants as nexts
use Rattle.block_server.specs.declared.line.Kept.{Kept}
use Rattle.block_server.specs.declared.line.Kept.TheVariants as keeps
use Rattle.block_server.specs.declared.request.Request.{Request}
use Rattle.block_server.specs.declared.service.Outcome.{Outcome}
use Rattle.block_server.specs.declared.service.Outcome.TheVariants.{Granted, Rejected, Served}
use Rattle.block_server.specs.declared.service.Stage.{Stage}
use Rattle.block_server.specs.declared.service.Stage.TheVariants.{Start, OutTable, InTable, DataOut, Given, DataIn, Answer, Entry}
use Rattle.block_server.specs.Serving.{AreBrought, AsNone, Desk, Held, HoldsAtStage, IfRow, IsAnswerKept, IsKept, IsServed, IsServing, MayAnswer, Once, Place, StaysServed, Terms, desk_at, place_of, desk_of}
use Rattle.srp_iu.specs.Layout.{field}
use Rattle.srp_iu.specs.declared.buffer.Desc.{Desc}
use Rattle.srp_iu.specs.declared.command.Cmd.{Cmd}
use Rattle.srp_iu.specs.declared.response.Rsp.{Rsp}
use Rattle.srp_iu.specs.declared.response_code.ResponseCode.TheVariants.{FieldsInvalid}
use Rattle.srp_desc.specs.Pieces.{total_of}
use Rattle.block_server.specs.declared.request.Order.TheVariants.{Command}
use Rattle.block_server.specs.declared.logins.Logins.{Logins}
use Rattle.block_server.specs.declared.service.Service.{Service}
use Rattle.block_server.specs.declared.unit.Unit.{Unit as ServerUnit}
use Rattle.block_server.specs.Causes.{Hearing, IsNamed, RefusesIn, told_to, units_at}
use Rattle.block_server.specs.Written.{AreWritten, IsWrittenOver}
use Rattle.block_server.proofs.Writing.{written_blank, written_there}
use Rattle.block_server.specs.Causes.{News as news}
use Rattle.block_server.specs.DiskLaw.{ServeBy, ServesRowBy, handed_over}
use Rattle.block_server.specs.Fetched.{Buffers, Gathers, HasBoth, HasPieces, OfFirst}
use Rattle.block_server.specs.Responses.{Answers, HasCode, HasStatus}
use Rattle.block_server.proofs.AnswerLaws.{answers_blank, answers_filled, filled_there, in_service_filled, in_service_new, only_there}
use Rattle.block_server.proofs.DiskLaws.{serve_push}
use Rattle.block_server.proofs.DiskRows.{SpellsOne, known_cut, may_cut, may_refuse, may_status}
use Rattle.block_server.specs.Judged.{is_login}
use Rattle.block_server.proofs.Offering.{offer_at, offer_copied, offer_none, offer_pushed}
use Rattle.block_server.specs.Granting.{HasOffer, LoginState, login_state}
use Rattle.block_server.proofs.Onces.{brought_at, known_of, more_none, once_goes, once_still, pieces_at, row_at, stays_equal, stays_rows, stays_there, tells_same}
use Rattle.block_server.proofs.Rows.{stays_one, stays_same}

-- the answer's entry is kept in the place of what was kept
pub once_kept : (a b : Desk) (s s' : List PipeRow) (h : List ServedRow) (entry : QueueEntry) (outcome : Outcome) → b.id ≡ a.id → b.logins ≡ a.logins → b.pending ≡ a.pending → b.stage ≡ a.stage
    → b.answer ≡ a.answer → b.buffers ≡ a.buffers → b.kept ≡ Some (keeps.Answer entry outcome) → IsAnswerKept b entry outcome → responses s' ≡ responses s
    → (d : Held) → IsServing d.terms a h → Once d d a b s s' h h
once_kept a b s s' h entry outcome id logins pending stage answer buffers kept is put d serving = record {
  id = id;
  terms = refl;
  serving = record {
    row = row_at d.terms a b h id stage answer buffers pending serving.row;
    kept = λ other other_is. subst (IsKept b) (some_is entry outcome other (sym kept ∙ other_is)) is;
    fetched = pieces_at d.terms a b id stage buffers pending serving.fetched;
    brought = brought_at d.terms a b a.pending id pending serving.brought;
    offer = offer_at d.terms a b a.stage a.answer a.pending id logins stage answer pending serving.offer;
  };
  answers = more_none a.id s s' h h put refl;
  others = stays_same a.id h;
  stays = stays_equal d h h refl;
  written = λ is. is;
  tells = tells_same d.now;
}
  where
    some_is : (e : QueueEntry) (o : Outcome) (other : Kept) → Some (keeps.Answer e o) ≡ Some other → keeps.Answer e o ≡ other
    some_is e o other same = cc (same)

-- the row of the oldest request is served still as another comes behind it
served_pushed : (terms : Terms) (p q : Place) (h : List ServedRow) (new : Request) (row : ℕ) → q ≡ record p { pending = p.pending ++ new ∷ [] }
    → IsServed terms p h row → IsServed terms q h row
served_pushed terms p q h new row same is = subst (λ (x : Place). IsServed terms x h row) (sym same) (record {
  request = is.request;
  rest = is.rest ++ new ∷ [];
  front = ap (λ list. list ++ new ∷ []) is.front;
  in_service = is.in_service;
  holds = is.holds;
})

-- what is so of the row of a stage, if it has one, is so of it at another desk
pub row_map : (stage : Stage) (P Q : ℕ → Type 0) → ((row : ℕ) → P row → Q row) → IfRow stage P → IfRow stage Q
row_map Start P Q then is = tt
row_map OutTable P Q then is = tt
row_map InTable P Q then is = tt
row_map (DataOut cursor) P Q then is = tt
row_map (Given row reply) P Q then is = then row is
row_map (DataIn row reply cursor) P Q then is = then row is
row_map (Answer (Granted number)) P Q then is = tt
row_map (Answer Rejected) P Q then is = tt
row_map (Answer (Served row)) P Q then is = then row is
row_map (Entry (Granted number)) P Q then is = tt
row_map (Entry Rejected) P Q then is = tt
row_map (Entry (Served row)) P Q then is = then row is

-- the pieces of the oldest request are known still
first_pushed : (P : Cmd → Type 0) (pending : List Request) (new : Request) → OfFirst pending P → OfFirst (pending ++ new ∷ []) P
first_pushed P pending new is = record { request = is.request; rest = is.rest ++ new ∷ []; front = ap (λ list. list ++ new ∷ []) is.front; holds = is.holds }

pieces_pushed : (Hears : Hearing) (stage : Stage) (outs inns : List Desc) (pending : List Request) (new : Request) → HasPieces Hears stage outs inns pending → HasPieces Hears stage outs inns (pending ++ new ∷ [])
pieces_pushed Hears Start outs inns pending new is = tt
pieces_pushed Hears OutTable outs inns pending new is = tt
pieces_pushed Hears InTable outs inns pending new is = first_pushed (λ command. IsNamed Hears command.out outs) pending new is
pieces_pushed Hears (DataOut cursor) outs inns pending new is = first_pushed (λ command. HasBoth Hears command outs inns) pending new is
pieces_pushed Hears (Given row reply) outs inns pending new is = first_pushed (λ command. IsNamed Hears command.inn inns) pending new is
pieces_pushed Hears (DataIn row reply cursor) outs inns pending new is = first_pushed (λ command. IsNamed Hears command.inn inns) pending new is
pieces_pushed Hears (Answer outcome) outs inns pending new is = tt
pieces_pushed Hears (Entry outcome) outs inns pending new is = tt

brought_pushed : (Hears : Hearing) (list : List Request) (new : Request) → AreBrought Hears list → Hears (news.fetched new.address units_at new.unit.items) → AreBrought Hears (list ++ new ∷ [])
brought_pushed Hears [] new all one = (one, tt)
brought_pushed Hears (request ∷ requests) new all one = (all.0, brought_pushed Hears requests new all.1 one)

-- a request came behind those that are pending
pub once_pushed : (a b : Desk) (s s' : List PipeRow) (h : List ServedRow) (new : Request) → b.id ≡ a.id → b.logins ≡ a.logins → b.pending ≡ a.pending ++ new ∷ [] → b.stage ≡ a.stage
    → b.answer ≡ a.answer → b.buffers ≡ a.buffers → b.kept ≡ None → responses s' ≡ responses s
    → (d : Held) → told_to d.terms.told a.id (news.fetched new.address units_at new.unit.items) → IsServing d.terms a h → Once d d a b s s' h h
once_pushed a b s s' h new id logins pending stage answer buffers kept put d one serving =
    let q : Place = record (place_of a) { pending = a.pending ++ new ∷ [] } in
    once_goes a b s s' h h id kept refl put d
    (subst (λ (p : Place). IfRow p.stage (IsServed d.terms p h)) (λ i. record { id = (sym id) i; stage = (sym stage) i; answer = (sym answer) i; given = ((sym buffers) i).given; pending = (sym pending) i })
    (row_map a.stage (IsServed d.terms (place_of a) h) (IsServed d.terms q h) (λ row. served_pushed d.terms (place_of a) q h new row refl) serving.row))
    (subst (λ (z : UnitId × Stage × Buffers × List Request). HasPieces (told_to d.terms.told z.0) z.1 z.2.outs z.2.inns z.3) (λ i. ((sym id) i, (sym stage) i, (sym buffers) i, (sym pending) i))
    (pieces_pushed (told_to d.terms.told a.id) a.stage a.buffers.outs a.buffers.inns a.pending new serving.fetched))
    (brought_at d.terms a b (a.pending ++ new ∷ []) id pending (brought_pushed (told_to d.terms.told a.id) a.pending new serving.brought one))
    (offer_at d.terms a b a.stage a.answer (a.pending ++ new ∷ []) id logins stage answer pending
    (offer_pushed (told_to d.terms.told a.id) a.stage a.logins a.answer a.pending new serving.offer))

-- a stage before the disk step has no row
before_row : (stage : Stage) (P : ℕ → Type 0) → is_before_step stage ≡ true → IfRow stage P
before_row Start P is = tt
before_row OutTable P is = tt
before_row InTable P is = tt
before_row (DataOut cursor) P is = tt
before_row (Given row reply) P is = absurd (cc (is))
before_row (DataIn row reply cursor) P is = absurd (cc (is))
before_row (Answer outcome) P is = absurd (cc (is))
before_row (Entry outcome) P is = absurd (cc (is))

-- nor has it an answer
before_answered : (stage : Stage) → is_before_step stage ≡ true → is_answered stage ≡ false
before_answered Start is = refl
before_answered OutTable is = refl
before_answered InTable is = refl
before_answered (DataOut cursor) is = refl
before_answered (Given row reply) is = absurd (cc (is))
before_answered (DataIn row reply cursor) is = absurd (cc (is))
before_answered (Answer outcome) is = absurd (cc (is))
before_answered (Entry outcome) is = absurd (cc (is))

-- the service is before its disk step, and nothing is kept
pub once_before : (d : Held) (a b : Desk) (s s' : List PipeRow) (h h' : List ServedRow) → b.id ≡ a.id → is_before_step b.stage ≡ true → b.kept ≡ None
    → HasPieces (told_to d.terms.told b.id) b.stage b.buffers.outs b.buffers.inns b.pending → h' ≡ h → responses s' ≡ responses s → AreBrought (told_to d.terms.told b.id) b.pending → Once d d a b s s' h h'
once_before d a b s s' h h' id stage kept fetched rows put brought =
    once_goes a b s s' h h' id kept rows put d (before_row b.stage (IsServed d.terms (place_of b) h) stage) fetched brought
    (offer_none (told_to d.terms.told b.id) b.stage b.logins b.answer b.pending (before_answered b.stage stage))

-- what is known of the pieces of a command that is the oldest request, and back
first_is : (request other : Request) (rest tail : List Request) → request ∷ rest ≡ other ∷ tail → other ≡ request
first_is request other rest tail same = cc (same)

command_is : (x y : Cmd) → Command x ≡ Command y → x ≡ y
command_is x y same = cc (same)

pub gathers_of : (Hears : Hearing) (stage : Stage) (outs inns : List Desc) (request : Request) (rest : List Request) (command : Cmd) → request.order ≡ Command command
    → HasPieces Hears stage outs inns (request ∷ rest) → Gathers Hears command stage outs inns
gathers_of Hears Start outs inns request rest command order is = tt
gathers_of Hears OutTable outs inns request rest command order is = tt
gathers_of Hears InTable outs inns request rest command order is = is.holds command (ap (λ (r : Request). r.order) (first_is request is.request rest is.rest is.front) ∙ order)
gathers_of Hears (DataOut cursor) outs inns request rest command order is = is.holds command (ap (λ (r : Request). r.order) (first_is request is.request rest is.rest is.front) ∙ order)
gathers_of Hears (Given row reply) outs inns request rest command order is = is.holds command (ap (λ (r : Request). r.order) (first_is request is.request rest is.rest is.front) ∙ order)
gathers_of Hears (DataIn row reply cursor) outs inns request rest command order is = is.holds command (ap (λ (r : Request). r.order) (first_is request is.request rest is.rest is.front) ∙ order)
gathers_of Hears (Answer outcome) outs inns request rest command order is = tt
gathers_of Hears (Entry outcome) outs inns request rest command order is = tt

pub pieces_of : (Hears : Hearing) (stage : Stage) (outs inns : List Desc) (request : Request) (rest : List Request) (command : Cmd) → request.order ≡ Command command
    → Gathers Hears command stage outs inns → HasPieces Hears stage outs inns (request ∷ rest)
pieces_of Hears Start outs inns request rest command order is = tt
pieces_of Hears OutTable outs inns request rest command order is = tt
pieces_of Hears InTable outs inns request rest command order is = record {
  request = request;
  rest = rest;
  front = refl;
  holds = λ c other. subst (λ (x : Cmd). IsNamed Hears x.out outs) (command_is command c (sym order ∙ other)) is;
}
pieces_of Hears (DataOut cursor) outs inns request rest command order is = record {
  request = request;
  rest = rest;
  front = refl;
  holds = λ c other. subst (λ (x : Cmd). HasBoth Hears x outs inns) (command_is command c (sym order ∙ other)) is;
}
pieces_of Hears (Given row reply) outs inns request rest command order is = record {
  request = request;
  rest = rest;
  front = refl;
  holds = λ c other. subst (λ (x : Cmd). IsNamed Hears x.inn inns) (command_is command c (sym order ∙ other)) is;
}
pieces_of Hears (DataIn row reply cursor) outs inns request rest command order is = record {
  request = request;
  rest = rest;
  front = refl;
  holds = λ c other. subst (λ (x : Cmd). IsNamed Hears x.inn inns) (command_is command c (sym order ∙ other)) is;
}
pieces_of Hears (Answer outcome) outs inns request rest command order is = tt
pieces_of Hears (Entry outcome) outs inns request rest command order is = tt

-- ---- from one stage to another with the same row

-- a place whose stage is this
abbrev placed : Desk → Stage → Place
placed desk stage = record (place_of desk) { stage = stage }

-- what is so at a stage that the desk's is
row_from : (terms : Terms) (a : Desk) (h : List ServedRow) (stage : Stage) → a.stage ≡ stage → IfRow a.stage (IsServed terms (place_of a) h) → IfRow stage (IsServed terms (placed a stage) h)
row_from terms a h stage is = subst (λ (st : Stage). IfRow st (IsServed terms (placed a st) h)) is

row_into : (terms : Terms) (b : Desk) (h : List ServedRow) (stage : Stage) → b.stage ≡ stage → IfRow stage (IsServed terms (placed b stage) h) → IfRow b.stage (IsServed terms (place_of b) h)
row_into terms b h stage is = subst (λ (st : Stage). IfRow st (IsServed terms (placed b st) h)) (sym is)

-- the place of a desk at a stage, with this answer and these data-in
abbrev pub staged : Desk → Stage → (answer given : List ℕ) → Place
staged a stage answer given = record { id = a.id; stage = stage; answer = answer; given = given; pending = a.pending }

-- what is so of a row at one stage, so that something is at another
abbrev Carries : (terms : Terms) → Desk → (h : List ServedRow) → (row : ℕ) → (old new : Stage) → (answer given answer' given' : List ℕ) → Type 0
Carries terms a h row old new answer given answer' given' =
    (is : IsServed terms (staged a old answer given) h row) → HoldsAtStage terms new answer' given' is.request is.in_service.served

carried : (terms : Terms) (a : Desk) (h : List ServedRow) (row : ℕ) (old new : Stage) (answer given answer' given' : List ℕ) → Carries terms a h row old new answer given answer' given'
    → IsServed terms (staged a old answer given) h row → IsServed terms (staged a new answer' given') h row
carried terms a h row old new answer given answer' given' carry is = record {
  request = is.request;
  rest = is.rest;
  front = is.front;
  in_service = is.in_service;
  holds = carry is;
}

-- the service came from one stage to another, both with a row; nothing is kept, and no response was put
pub once_to : (d : Held) (a b : Desk) (s s' : List PipeRow) (h h' : List ServedRow) (old new : Stage) (answer given : List ℕ) → b.id ≡ a.id → b.pending ≡ a.pending → a.stage ≡ old → b.stage ≡ new
    → b.answer ≡ answer → b.buffers.given ≡ given → b.kept ≡ None → h' ≡ h → responses s' ≡ responses s → HasPieces (told_to d.terms.told b.id) new b.buffers.outs b.buffers.inns b.pending
    → (IfRow old (IsServed d.terms (staged a old a.answer a.buffers.given) h) → IfRow new (IsServed d.terms (staged a new answer given) h))
    → HasOffer (told_to d.terms.told b.id) new b.logins b.answer b.pending → IsServing d.terms a h → Once d d a b s s' h h'
once_to d a b s s' h h' old new answer given id pending was is answer_is given_is kept rows put fetched row offer serving =
    once_goes a b s s' h h' id kept rows put d
    (subst (λ (p : Place). IfRow p.stage (IsServed d.terms p h)) (λ i. record { id = (sym id) i; stage = (sym is) i; answer = (sym answer_is) i; given = (sym given_is) i; pending = (sym pending) i })
    (row (subst (λ (st : Stage). IfRow st (IsServed d.terms (staged a st a.answer a.buffers.given) h)) was serving.row)))
    (subst (λ (st : Stage). HasPieces (told_to d.terms.told b.id) st b.buffers.outs b.buffers.inns b.pending) (sym is) fetched)
    (brought_at d.terms a b a.pending id pending serving.brought)
    (subst (λ (st : Stage). HasOffer (told_to d.terms.told b.id) st b.logins b.answer b.pending) (sym is) offer)

-- what is known of the pieces at one stage is known at another which says the same of them
pieces_there : (terms : Terms) (a b : Desk) (old new : Stage) → b.id ≡ a.id → a.stage ≡ old → b.buffers ≡ a.buffers → b.pending ≡ a.pending
    → ((outs inns : List Desc) (pending : List Request) → HasPieces (told_to terms.told a.id) old outs inns pending → HasPieces (told_to terms.told a.id) new outs inns pending)
    → HasPieces (told_to terms.told a.id) a.stage a.buffers.outs a.buffers.inns a.pending → HasPieces (told_to terms.told b.id) new b.buffers.outs b.buffers.inns b.pending
pieces_there terms a b old new id was buffers pending same fetched =
    subst (λ (z : UnitId × Buffers × List Request). HasPieces (told_to terms.told z.0) new z.1.outs z.1.inns z.2) (λ i. ((sym id) i, (sym buffers) i, (sym pending) i))
    (same a.buffers.outs a.buffers.inns a.pending (subst (λ (st : Stage). HasPieces (told_to terms.told a.id) st a.buffers.outs a.buffers.inns a.pending) was fetched))

-- data-in were written to the unit's region
pub once_stored : (a b : Desk) (s s' : List PipeRow) (h h' : List ServedRow) (row : ℕ) (reply : ScsiReply) (cursor : Cursor) → b.id ≡ a.id → b.pending ≡ a.pending
    → a.stage ≡ Given row reply → b.stage ≡ DataIn row reply cursor → b.buffers ≡ a.buffers → b.kept ≡ None → h' ≡ h → responses s' ≡ responses s
    → (d : Held) → IsServing d.terms a h → Once d d a b s s' h h'
once_stored a b s s' h h' row reply cursor id pending was is same kept rows put d serving =
    once_to d a b s s' h h' (Given row reply) (DataIn row reply cursor) b.answer a.buffers.given id pending was is refl (ap (λ (x : Buffers). x.given) same) kept rows put
    (pieces_there d.terms a b (Given row reply) (DataIn row reply cursor) id was same pending (λ outs inns list is. is) serving.fetched)
    (carried d.terms a h row (Given row reply) (DataIn row reply cursor) a.answer a.buffers.given b.answer a.buffers.given (λ is. is.holds)) tt serving

-- data-in were copied on, as far as it went
pub once_moved : (a b : Desk) (s s' : List PipeRow) (h : List ServedRow) (row : ℕ) (reply : ScsiReply) (old : Cursor) → b.id ≡ a.id → b.pending ≡ a.pending
    → a.stage ≡ DataIn row reply old → (new : Cursor) × (b.stage ≡ DataIn row reply new) → b.buffers ≡ a.buffers → b.kept ≡ None → responses s' ≡ responses s
    → (d : Held) → IsServing d.terms a h → Once d d a b s s' h h
once_moved a b s s' h row reply old id pending was is same kept put d serving =
    once_to d a b s s' h h (DataIn row reply old) (DataIn row reply is.0) b.answer a.buffers.given id pending was is.1 refl (ap (λ (x : Buffers). x.given) same) kept refl put
    (pieces_there d.terms a b (DataIn row reply old) (DataIn row reply is.0) id was same pending (λ outs inns list is. is) serving.fetched)
    (carried d.terms a h row (DataIn row reply old) (DataIn row reply is.0) a.answer a.buffers.given b.answer a.buffers.given (λ is. is.holds)) tt serving

-- the answer was copied over the request
pub once_copied : (a b : Desk) (s s' : List PipeRow) (h h' : List ServedRow) (outcome : Outcome) (request : Request) (rest : List Request) → b.id ≡ a.id → b.logins ≡ a.logins → b.pending ≡ a.pending
    → a.pending ≡ request ∷ rest → a.stage ≡ Answer outcome → b.stage ≡ Entry outcome → b.answer ≡ a.answer → b.kept ≡ None → h' ≡ h → responses s' ≡ responses s
    → (d : Held) → told_to d.terms.told a.id (news.delivered units_at request.address request.tag a.answer) → IsServing d.terms a h → Once d d a b s s' h h'
once_copied a b s s' h h' outcome request rest id logins pending front was is answer kept rows put d written serving =
    once_to d a b s s' h h' (Answer outcome) (Entry outcome) a.answer b.buffers.given id pending was is answer refl kept rows put tt (row outcome) offer serving
  where
    offer : HasOffer (told_to d.terms.told b.id) (Entry outcome) b.logins b.answer b.pending
    offer = subst (λ (st : Stage). HasOffer (told_to d.terms.told b.id) st b.logins b.answer b.pending) is
        (offer_at d.terms a b (Entry outcome) a.answer a.pending id logins is answer pending
        (offer_copied (told_to d.terms.told a.id) outcome a.logins a.answer request rest a.pending front written
        (subst (λ (st : Stage). HasOffer (told_to d.terms.told a.id) st a.logins a.answer a.pending) was serving.offer)))

    brought : AreBrought (told_to d.terms.told a.id) (request ∷ rest)
    brought = subst (AreBrought (told_to d.terms.told a.id)) front serving.brought

    over : (at : ℕ) (is : IsServed d.terms (staged a (Answer (Served at)) a.answer a.buffers.given) h at)
        → IsWrittenOver (told_to d.terms.told is.in_service.served.unit) is.in_service.served.iu a.answer
    over at is =
        let same : is.request ≡ request = first_is request is.request rest is.rest (sym front ∙ is.front) in
        let iu : request.unit.items ≡ is.in_service.served.iu = ap (λ (r : Request). r.unit.items) (sym same) ∙ sym is.in_service.iu_is in
        subst (λ (z : UnitId × List ℕ). IsWrittenOver (told_to d.terms.told z.0) z.1 a.answer) (λ i. ((sym is.in_service.unit_is) i, iu i)) (record {
          address = request.address;
          brought = brought.0;
          written = subst (λ (tag : ℕ). told_to d.terms.told a.id (news.delivered units_at request.address tag a.answer)) request.tagged written;
        })

    row : (o : Outcome) → IfRow (Answer o) (IsServed d.terms (staged a (Answer o) a.answer a.buffers.given) h) → IfRow (Entry o) (IsServed d.terms (staged a (Entry o) a.answer b.buffers.given) h)
    row (Granted number) none = tt
    row Rejected none = tt
    row (Served at) served =
        carried d.terms a h at (Answer (Served at)) (Entry (Served at)) a.answer a.buffers.given a.answer b.buffers.given
        (λ is. record { may = is.holds; over = over at is }) served

-- the command of the row in service is that of the oldest request
module _ (terms : Terms) (a : Desk) (h : List ServedRow) (row : ℕ) (stage : Stage) (request : Request) (rest : List Request) (command : Cmd) (front : a.pending ≡ request ∷ rest)
    (order : request.order ≡ Command command) (is : IsServed terms (staged a stage a.answer a.buffers.given) h row) where
  request_same : is.request ≡ request
  request_same = first_is request is.request rest is.rest (sym front ∙ is.front)

  command_same : (c : Cmd) → is.request.order ≡ Command c → c ≡ command
  command_same c its = command_is c command (sym its ∙ ap (λ (r : Request). r.order) request_same ∙ order)

  tag_same : request.tag ≡ field 8 8 is.in_service.served.iu
  tag_same = request.tagged ∙ ap (λ (r : Request). field 8 8 r.unit.items) (sym request_same) ∙ ap (field 8 8) (sym is.in_service.iu_is)

-- all data-in were copied, and the answer that says the status is next
pub once_stated : SpellsOne → (a b : Desk) (s s' : List PipeRow) (h h' : List ServedRow) (row : ℕ) (reply : ScsiReply) (cursor : Cursor) (request : Request) (rest : List Request) (command : Cmd)
    → b.id ≡ a.id → b.pending ≡ a.pending → a.stage ≡ DataIn row reply cursor → b.stage ≡ Answer (Served row) → a.pending ≡ request ∷ rest → request.order ≡ Command command
    → Answers b.answer (HasStatus request.tag (total_of command.out) (total_of command.inn) reply) → b.kept ≡ None → h' ≡ h → responses s' ≡ responses s
    → (d : Held) → IsServing d.terms a h → Once d d a b s s' h h'
once_stated one a b s s' h h' row reply cursor request rest command id pending was is front order says kept rows put d =
    once_to d a b s s' h h' (DataIn row reply cursor) (Answer (Served row)) b.answer b.buffers.given id pending was is refl refl kept rows put tt
    (carried d.terms a h row (DataIn row reply cursor) (Answer (Served row)) a.answer a.buffers.given b.answer b.buffers.given may)
    (record { front = request; rest = rest; parts = pending ∙ front; other = ap is_login order })
  where
    may : (is : IsServed d.terms (staged a (DataIn row reply cursor) a.answer a.buffers.given) h row) → MayAnswer d.terms b.answer is.in_service.served
    may is =
        let made = is.holds in
        let same = command_same d.terms a h row (DataIn row reply cursor) request rest command front order is made.command made.order in
        let tag = tag_same d.terms a h row (DataIn row reply cursor) request rest command front order is in
        may_status one d.terms made.command reply is.in_service.served
        (known_of d.terms (staged a (DataIn row reply cursor) a.answer a.buffers.given) h row reply is made) made.all_in b.answer
        (subst (λ (z : ℕ × Cmd). Answers b.answer (HasStatus z.0 (total_of z.1.out) (total_of z.1.inn) reply)) (λ i. (tag i, (sym same) i)) says)

-- the same, or there was no memory for the answer and the service is where it was
pub once_stated_if : SpellsOne → (a b : Desk) (s : List PipeRow) (h : List ServedRow) (row : ℕ) (reply : ScsiReply) (cursor : Cursor) (request : Request) (rest : List Request) (command : Cmd)
    (bytes : List ℕ) (result : Result (Unit {0}) NoMemory)
    → b.id ≡ a.id → b.logins ≡ a.logins → b.pending ≡ a.pending → a.stage ≡ DataIn row reply cursor → OnOk result (b.stage ≡ Answer (Served row)) → OnOk result (b.answer ≡ bytes) → OnErr result (b.stage ≡ a.stage)
    → OnErr result (b.answer ≡ a.answer) → b.buffers ≡ a.buffers → a.pending ≡ request ∷ rest → request.order ≡ Command command
    → Answers bytes (HasStatus request.tag (total_of command.out) (total_of command.inn) reply) → b.kept ≡ None → (d : Held) → IsServing d.terms a h → Once d d a b s s h h
once_stated_if one a b s h row reply cursor request rest command bytes (Ok done) id logins pending was is answer err same buffers front order says kept d =
    once_stated one a b s s h h row reply cursor request rest command id pending was is front order
    (subst (λ (xs : List ℕ). Answers xs (HasStatus request.tag (total_of command.out) (total_of command.inn) reply)) (sym answer) says) kept refl refl d
once_stated_if one a b s h row reply cursor request rest command bytes (Err memory) id logins pending was is answer err same buffers front order says kept d =
    once_still a b s s h h id logins err same buffers pending kept refl refl d

-- the data-in were refused: the row keeps those that were copied, and the answer that says so is next
pub once_cut : SpellsOne → (a b : Desk) (s : List PipeRow) (h h' : List ServedRow) (row n : ℕ) (reply : ScsiReply) (cursor : Cursor) (request : Request) (rest : List Request) (command : Cmd)
    → b.id ≡ a.id → b.pending ≡ a.pending → a.stage ≡ DataIn row reply cursor → b.stage ≡ Answer (Served row) → a.pending ≡ request ∷ rest → request.order ≡ Command command → 0 < length a.buffers.given
    → Answers b.answer (HasCode request.tag FieldsInvalid) → b.kept ≡ None → FillsRow h h' row (take n a.buffers.given) → (d : Held) → RefusesIn (told_to d.terms.told a.id) command → IsServing d.terms a h → Once d d a b s s h h'
once_cut one a b s h h' row n reply cursor request rest command id pending was is front order some says kept fills d refuses serving =
    let p = staged a (DataIn row reply cursor) a.answer a.buffers.given in
    let served : IsServed d.terms p h row = subst (λ (st : Stage). IfRow st (IsServed d.terms (staged a st a.answer a.buffers.given) h)) was serving.row in
    let made = served.holds in
    let old = served.in_service.served in
    let iu = served.request.unit.items in
    let known = known_of d.terms p h row reply served made in
    let new : ServedRow = record old { inn = take n old.inn } in
    let there : h' ≡ served.in_service.before ++ new ∷ served.in_service.behind =
    filled_there a.id iu h h' row (take n a.buffers.given) served.in_service fills
    ∙ ap (λ (xs : List ℕ). served.in_service.before ++ record old { inn = take n xs } ∷ served.in_service.behind) (sym made.given_is) in
    let tag : request.tag ≡ field 8 8 old.iu =
    request.tagged ∙ ap (λ (r : Request). field 8 8 r.unit.items) (sym (first_is request served.request rest served.rest (sym front ∙ served.front))) ∙ ap (field 8 8) (sym served.in_service.iu_is) in
    let same = command_same d.terms a h row (DataIn row reply cursor) request rest command front order served made.command made.order in
    let cause : RefusesIn (told_to d.terms.told new.unit) made.command =
    subst (λ (z : UnitId × Cmd). RefusesIn (told_to d.terms.told z.0) z.1) (λ i. ((sym served.in_service.unit_is) i, (sym same) i)) refuses in
    let given_some : 0 < handed_over made.command reply = omega (arith, some, ap length made.given_is, made.all_in) in
    let served' : IsServed d.terms (staged a (Answer (Served row)) b.answer b.buffers.given) h' row = record {
      request = served.request;
      rest = served.rest;
      front = served.front;
      in_service = in_service_filled a.id iu h h' row (take n old.inn) served.in_service there;
      holds = may_refuse one d.terms made.command reply new (known_cut one d.terms made.command reply old known n) cause given_some b.answer
          (subst (λ (t : ℕ). Answers b.answer (HasCode t FieldsInvalid)) tag says);
    } in
    record {
      id = id;
      terms = refl;
      serving = record {
        row = subst (λ (q : Place). IfRow q.stage (IsServed d.terms q h')) (λ i. record { id = (sym id) i; stage = (sym is) i; answer = b.answer; given = b.buffers.given; pending = (sym pending) i }) served';
        kept = λ entry some_kept. absurd (cc (kept, some_kept));
        fetched = subst (λ (st : Stage). HasPieces (told_to d.terms.told b.id) st b.buffers.outs b.buffers.inns b.pending) (sym is) tt;
        brought = brought_at d.terms a b a.pending id pending serving.brought;
        offer = subst (λ (st : Stage). HasOffer (told_to d.terms.told b.id) st b.logins b.answer b.pending) (sym is)
            (record { front = request; rest = rest; parts = pending ∙ front; other = ap is_login order });
      };
      answers = more_none a.id s s h h' refl (answers_filled a.id iu h h' row (take n old.inn) served.in_service there);
      others = only_there a.id iu h h' row served.in_service new served.in_service.unit_is refl there;
      stays = stays_there d h h' served.in_service.before served.in_service.behind old new served.in_service.history_is there
          (may_cut one d.terms made.command reply old known n served.in_service.unanswered);
      written = written_there d.terms.size d.terms.told h h' served.in_service.before served.in_service.behind old new served.in_service.history_is there (λ was. inl served.in_service.unanswered);
      tells = tells_same d.now;
    }

-- The stage is of this row.
abbrev pub IsStageOf : Stage → ℕ → Type 1
IsStageOf stage row = (P : ℕ → Type 0) → P row → IfRow stage P

-- the request in service got its row, which is the last one
pub once_added : (d d' : Held) (a b : Desk) (s s' : List PipeRow) (h h' : List ServedRow) (request : Request) (rest : List Request) (served : ServedRow) (stage : Stage)
    → b.id ≡ a.id → b.pending ≡ request ∷ rest → b.kept ≡ None → b.stage ≡ stage → IsStageOf stage (length h)
    → served.unit ≡ a.id → served.iu ≡ request.unit.items → served.answer ≡ [] → h' ≡ h ++ served ∷ [] → responses s' ≡ responses s
    → d'.terms ≡ d.terms → HasPieces (told_to d'.terms.told b.id) stage b.buffers.outs b.buffers.inns b.pending → HoldsAtStage d'.terms stage b.answer b.buffers.given request served
    → StaysServed d d' h h' → IfSome d.now (λ all. IsSome d'.now) → AreBrought (told_to d'.terms.told b.id) b.pending
    → HasOffer (told_to d'.terms.told b.id) stage b.logins b.answer b.pending → Once d d' a b s s' h h'
once_added d d' a b s s' h h' request rest served stage id front kept stage_is of unit iu blank added put terms fetched holds disk tells brought offer =
    let q : Place = record { id = b.id; stage = stage; answer = b.answer; given = b.buffers.given; pending = b.pending } in
    let served' : IsServed d'.terms q h' (length h) = record {
      request = request;
      rest = rest;
      front = front;
      in_service = in_service_new b.id request.unit.items h h' served (unit ∙ sym id) iu blank added;
      holds = holds;
    } in
    record {
      id = id;
      terms = terms;
      serving = record {
        row = subst (λ (st : Stage). IfRow st (IsServed d'.terms (record { id = b.id; stage = st; answer = b.answer; given = b.buffers.given; pending = b.pending }) h')) (sym stage_is)
            (of (IsServed d'.terms q h') served');
        kept = λ entry some. absurd (cc (kept, some));
        fetched = subst (λ (st : Stage). HasPieces (told_to d'.terms.told b.id) st b.buffers.outs b.buffers.inns b.pending) (sym stage_is) fetched;
        brought = brought;
        offer = subst (λ (st : Stage). HasOffer (told_to d'.terms.told b.id) st b.logins b.answer b.pending) (sym stage_is) offer;
      };
      answers = more_none a.id s s' h h' put (answers_blank a.id h h' served blank added);
      others = subst (OnlyRowsOf a.id h) (sym added) (stays_one a.id h served unit);
      stays = disk;
      written = λ is. written_blank d'.terms.size d'.terms.told h h' served blank added (subst (λ (t : Terms). AreWritten t.size t.told h) (sym terms) is);
      tells = tells;
    }

-- a row without a disk step leaves the disk law as it is
pub stays_pushed : (d : Held) (h h' : List ServedRow) (row : ServedRow) → h' ≡ h ++ row ∷ [] → ((b : List (List ℕ)) → ServesRowBy d.terms.told b row b) → StaysServed d d h h'
stays_pushed d h h' row added still = stays_rows d h h' (λ before all size serve.
    subst (λ (list : List ServedRow). ServeBy d.terms.told before list all) (sym added) (serve_push d.terms.told before all all h row serve (still all)))

-- a response code says nothing of a row without an answer
pub says_none : (bytes : List ℕ) (P : Rsp → Type 0) → bytes ≡ [] → Answers bytes P
says_none bytes P none = subst (λ (xs : List ℕ). Answers xs P) (sym none) tt

-- an answer without a row is next, or there was no memory for it and the service is where it was
pub once_judged : (a b : Desk) (s : List PipeRow) (h : List ServedRow) (outcome : Outcome) (result : Result (Unit {0}) NoMemory) → b.id ≡ a.id → b.logins ≡ a.logins → b.pending ≡ a.pending → b.kept ≡ None
    → ((P : ℕ → Type 0) → IfRow (Answer outcome) P) → OnOk result (b.stage ≡ Answer outcome) → OnErr result (b.stage ≡ a.stage) → OnErr result (b.answer ≡ a.answer) → b.buffers ≡ a.buffers
    → (d : Held) → OnOk result (HasOffer (told_to d.terms.told b.id) (Answer outcome) b.logins b.answer b.pending) → IsServing d.terms a h → Once d d a b s s h h
once_judged a b s h outcome (Ok done) id logins pending kept none ok err same buffers d offer serving =
    once_goes a b s s h h id kept refl refl d
    (subst (λ st. IfRow st (IsServed d.terms (place_of b) h)) (sym ok) (none (IsServed d.terms (place_of b) h)))
    (subst (λ st. HasPieces (told_to d.terms.told b.id) st b.buffers.outs b.buffers.inns b.pending) (sym ok) tt)
    (brought_at d.terms a b a.pending id pending serving.brought)
    (subst (λ st. HasOffer (told_to d.terms.told b.id) st b.logins b.answer b.pending) (sym ok) offer)
once_judged a b s h outcome (Err memory) id logins pending kept none ok err same buffers d offer serving =
    once_still a b s s h h id logins err same buffers pending kept refl refl d serving

-- the same between desks that are equal to these
pub once_between : (a b a' b' : Desk) (s s' : List PipeRow) (h h' : List ServedRow) → a' ≡ a → b' ≡ b → (d d' : Held) → (IsServing d.terms a h → Once d d' a b s s' h h')
    → IsServing d.terms a' h → Once d d' a' b' s s' h h'
once_between a b a' b' s s' h h' was is d d' once =
    subst (λ (z : Desk × Desk). IsServing d.terms z.0 h → Once d d' z.0 z.1 s s' h h') (λ i. (sym was i, sym is i)) once

-- what a next step says of what is kept
pub as_none_next : (next : Next) (kept kept' : Option Kept) → kept ≡ None → (next ≢ nexts.End → kept' ≡ kept) → AsNone (Ok next) kept'
as_none_next nexts.Entry kept kept' none still = still (λ e. cc (e)) ∙ none
as_none_next nexts.Service kept kept' none still = still (λ e. cc (e)) ∙ none
as_none_next nexts.End kept kept' none still = tt

pub none_next : (next : Next) (kept : Option Kept) → AsNone (Ok next) kept → next ≢ nexts.End → kept ≡ None
none_next nexts.Entry kept none still = none
none_next nexts.Service kept none still = none
none_next nexts.End kept none still = absurd (still refl)

-- where an entry was neither put nor found its slot full, nothing was put
pub same_sent : (shared : Bool) (old new : EndState) (answer : SendAnswer) → ((number : ℕ) → answer ≡ sending.Success number → ⊥)
    → ((number held : ℕ) → answer ≡ sending.Dropped number held → ⊥) → IfClosed answer (TurnsBack shared old new) → OnNotSent answer (OnlyReserves old new)
    → new.sent ≡ old.sent
same_sent shared old new (sending.Success number) success dropped closed refused = absurd (success number refl)
same_sent shared old new (sending.Dropped number held) success dropped closed refused = absurd (dropped number held refl)
same_sent shared old new (sending.Closed control) success dropped closed refused = closed.none.sent
same_sent shared old new sending.Parameter success dropped closed refused = refused.sent
same_sent shared old new sending.NotRegistered success dropped closed refused = refused.sent

pub none_sent : (shared : Bool) (old new : EndState) (answer : SendAnswer) → ((number : ℕ) → answer ≡ sending.Success number → ⊥)
    → ((number held : ℕ) → answer ≡ sending.Dropped number held → ⊥) → IfClosed answer (TurnsBack shared old new) → OnNotSent answer (OnlyReserves old new)
    → responses new.sent ≡ responses old.sent
none_sent shared old new answer success dropped closed refused = ap responses (same_sent shared old new answer success dropped closed refused)

-- the request that a list lends as its first is its first
pub front_is : (items : List Request) (request : Request) → (0 < length items) × HoldsAt (λ (item : Request). request ≡ item) items 0
    → (rest : List Request) × (items ≡ request ∷ rest)
front_is [] request is = absurd (omega (arith, is.0))
front_is (item ∷ items) request is = (items, ap (λ (x : Request). x ∷ items) (sym (is.1 request)))

pub desk_is : (id : UnitId) (logins : LoginState) (service : Service) (kept kept' : Option Kept) (pending pending' : List Request) → kept' ≡ kept → pending' ≡ pending
    → desk_at id logins service kept' pending' ≡ desk_at id logins service kept pending
desk_is id logins service kept kept' pending pending' kept_is pending_is = λ i. desk_at id logins service (kept_is i) (pending_is i)

-- what logins are offered by stays where each grants as many requests and the same one is on
pub logins_stay : (old new : Logins) → new.granted ≡ old.granted → new.current ≡ old.current → login_state new ≡ login_state old
logins_stay old new granted current = λ i. record { granted = granted i; current = current i }

-- the same desk of a unit whose logins grant as many requests, while the same one is on
pub desk_logins : (unit : ServerUnit) (logins : Logins) → logins.granted ≡ unit.logins.granted → logins.current ≡ unit.logins.current → desk_of (record unit { logins = logins }) ≡ desk_of unit
desk_logins unit logins granted current = λ i. record (desk_of unit) { logins = record { granted = granted i; current = current i } }

pub entry_none : (next : Next) (kept : Option Kept) → AsNone (Ok next) kept → next ≡ nexts.Entry → kept ≡ None
entry_none nexts.Entry kept none is = none
entry_none nexts.Service kept none is = none
entry_none nexts.End kept none is = absurd (cc (is))
