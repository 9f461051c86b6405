use Rattle.std.proofs.Common.{ap, drop, refl, ◌∙◌, ◌++◌, ◌+◌, Global, Vec}
use Rattle.vio_num.specs.declared.history.Grant.{Grant}
use Rattle.block_server.specs.Judged.{IsOpenRow, keys_of, row_key}
use Rattle.block_server.specs.Receipts.{is_ended}
use Rattle.block_server.specs.declared.logins.Logins.{Logins}
use Rattle.block_server.specs.declared.records.Records.{Records}
use Rattle.block_server.specs.declared.service.Stage.TheVariants.{Entry}
use Rattle.block_server.specs.declared.unit.Unit.{Unit as ServerUnit}
use Rattle.block_server.proofs.Booking.{granted_same, key_from, key_there, keys_marked}
use Rattle.block_server.specs.Books.{books_of, credits_of, is_up}
use Rattle.block_server.specs.declared.line.Line.{Line}
use Rattle.block_server.proofs.Keeping.{keeps_answered, keeps_begun, keeps_finished, moved_to}
use Rattle.std.proofs.Common.{sym, slice_get, ◌∷◌, [], inr}
use Rattle.block_server.proofs.Owing.{none_some, owes_on}
use Rattle.block_server.proofs.OwingRows.{owes_answered, owes_dropped}
use Rattle.block_server.proofs.OwingCalls.{served_bytes}
use Rattle.block_server.specs.Answering.{has_bytes}
use Rattle.block_server.specs.Owed.{row_states, row_in}
use Rattle.vio_num.specs.declared.history.Grant.TheVariants.{Granted}
use Rattle.block_server.proofs.Settling.{explains_granted, explains_rejected, explains_served}
use Rattle.block_server.proofs.Taking.{ended_stands, waiting_stands}
use Rattle.block_server.specs.Refusals.{ledger_at}
use Rattle.block_server.specs.Serving.{IsAnswerKept, desk_of}
use Rattle.std.proofs.Common.{length, subst, true, ◌≡◌}
use Rattle.block_server.specs.Stage.{fits, has_answer}
use Rattle.block_server.specs.declared.service.Outcome.{Outcome}
use Rattle.block_server.specs.declared.service.Stage.{Stage}
use Rattle.std.proofs.Common.{append-nil}
use Rattle.block_server.specs.Talk.{SettlesLogins, settled_lines}
use Rattle.block_server.proofs.answering.settle.Goals as goal
use Rattle.block_server.proofs.answering.settle.Goals.{in-Granted, in-Rejected, in-Served}

pub returns-clause-books : goal.returns-clause-books
returns-clause-books c = λ next stage kept judged is.
    elim c.match-outcome.branch [
      | in-Granted w ↦ moved_to _ _ judged (c.finish.ensures.id ∙ ap (λ (u : ServerUnit). u.id) w.unit-is) refl refl (ap (λ (l : Logins). l.current) c.finish.ensures.logins ∙ ap (λ (u : ServerUnit). u.logins.current) w.unit-is ∙ w.begin-login.ensures.current ∙ w.begin-login.ensures.number) (ap (λ (l : Logins). l.last) c.finish.ensures.logins ∙ ap (λ (u : ServerUnit). u.logins.last) w.unit-is ∙ w.begin-login.ensures.last ∙ w.begin-login.ensures.number) (ap (λ (l : Logins). l.taking) c.finish.ensures.logins ∙ ap (λ (u : ServerUnit). u.logins.taking) w.unit-is ∙ w.begin-login.ensures.taking) c.finish.ensures.stage (c.finish.ensures.kept ∙ ap (λ (u : ServerUnit). u.line.kept) w.unit-is ∙ kept) (c.finish.ensures.pending ∙ ap (λ (u : ServerUnit). drop 1 u.pending.items) w.unit-is) (ap (λ (r : Records). keys_of r.history.items) w.records-is) (granted_same _ _ _ _ _ _ _ _ (ap (λ (r : Records). r.grants.items) w.records-is ∙ w.push_reserved.ensures.items) w.begin-login.ensures.number ∙ (λ i. c.args.records.now.grants.items ++ Granted c.args.unit.now.id c.args.session (c.args.unit.now.logins.last + 1) w.in-Granted.number (w.credits-credits.ensures i) ∷ [])) (ap is_ended c.finish.ensures.line ∙ ap (λ (u : ServerUnit). is_ended u.line) w.unit-is) (ap (λ (l : Line). is_up l.handshake) c.finish.ensures.line ∙ ap (λ (u : ServerUnit). is_up u.line.handshake) w.unit-is) (ap credits_of c.finish.ensures.logins ∙ ap (λ (u : ServerUnit). credits_of u.logins) w.unit-is ∙ (λ i. record { outstanding = w.begin-login.ensures.outstanding i; granted = w.begin-login.ensures.granted i }))
          (keeps_begun _ w.in-Granted.number judged (stage ∙ ap Entry w.in-Granted.is) is)
      | in-Rejected w ↦ moved_to _ _ judged (c.finish.ensures.id ∙ ap (λ (u : ServerUnit). u.id) w.unit-is) refl refl (ap (λ (l : Logins). l.current) c.finish.ensures.logins ∙ ap (λ (u : ServerUnit). u.logins.current) w.unit-is) (ap (λ (l : Logins). l.last) c.finish.ensures.logins ∙ ap (λ (u : ServerUnit). u.logins.last) w.unit-is) (ap (λ (l : Logins). l.taking) c.finish.ensures.logins ∙ ap (λ (u : ServerUnit). u.logins.taking) w.unit-is) c.finish.ensures.stage (c.finish.ensures.kept ∙ ap (λ (u : ServerUnit). u.line.kept) w.unit-is ∙ kept) (c.finish.ensures.pending ∙ ap (λ (u : ServerUnit). drop 1 u.pending.items) w.unit-is) (ap (λ (r : Records). keys_of r.history.items) w.records-is) (ap (λ (r : Records). r.grants.items) w.records-is) (ap is_ended c.finish.ensures.line ∙ ap (λ (u : ServerUnit). is_ended u.line) w.unit-is) (ap (λ (l : Line). is_up l.handshake) c.finish.ensures.line ∙ ap (λ (u : ServerUnit). is_up u.line.handshake) w.unit-is) (ap credits_of c.finish.ensures.logins ∙ ap (λ (u : ServerUnit). credits_of u.logins) w.unit-is)
          (keeps_finished _ c.args.outcome judged stage is)
      | in-Served w ↦ let place = w.in-Served.row in
          let at = stage ∙ ap Entry w.in-Served.is in
          let lacks : IsOpenRow c.args.unit.now.id c.args.unit.now.logins.current (keys_of c.args.records.now.history.items) place = is.counted.row place (ap row_in at) in
          let found = key_from c.args.records.now.history.items place lacks.row lacks.there in
          let has = ap has_bytes w.take_answer-answer.ensures.answer ∙ served_bytes c.args.unit.now.service.stage place c.args.unit.now.service.answer.items at c.args.unit.now.service.answered in
          moved_to _ _ judged (c.finish.ensures.id ∙ ap (λ (u : ServerUnit). u.id) w.unit-is) refl refl (ap (λ (l : Logins). l.current) c.finish.ensures.logins ∙ ap (λ (u : ServerUnit). u.logins.current) w.unit-is ∙ w.answer.ensures.current) (ap (λ (l : Logins). l.last) c.finish.ensures.logins ∙ ap (λ (u : ServerUnit). u.logins.last) w.unit-is ∙ w.answer.ensures.last) (ap (λ (l : Logins). l.taking) c.finish.ensures.logins ∙ ap (λ (u : ServerUnit). u.logins.taking) w.unit-is ∙ w.answer.ensures.taking) c.finish.ensures.stage (c.finish.ensures.kept ∙ ap (λ (u : ServerUnit). u.line.kept) w.unit-is ∙ kept) (c.finish.ensures.pending ∙ ap (λ (u : ServerUnit). drop 1 u.pending.items) w.unit-is) (ap (λ (r : Records). keys_of r.history.items) w.records-is ∙ ap keys_of (w.answer-in-Served.ensures.row found.0 found.1) ∙ keys_marked c.args.records.now.history.items place found.0 w.take_answer-answer.result found.1 has) (ap (λ (r : Records). r.grants.items) w.records-is ∙ ap (λ (v : Vec Grant Global). v.items) w.answer-in-Served.ensures.grants) (ap is_ended c.finish.ensures.line ∙ ap (λ (u : ServerUnit). is_ended u.line) w.unit-is) (ap (λ (l : Line). is_up l.handshake) c.finish.ensures.line ∙ ap (λ (u : ServerUnit). is_up u.line.handshake) w.unit-is) (ap credits_of c.finish.ensures.logins ∙ ap (λ (u : ServerUnit). credits_of u.logins) w.unit-is ∙ (λ i. record { outstanding = w.answer.ensures.less i; granted = w.answer.ensures.granted i }))
          (keeps_answered (books_of c.args.unit.now c.args.session next c.args.records.now) place (row_key found.0) judged at (key_there c.args.records.now.history.items place found.0 found.1) is)
    ]

pub returns-clause-answers : goal.returns-clause-answers
returns-clause-answers c = λ q stage going up has.
    elim c.match-outcome.branch [
      | in-Granted w ↦ owes_on _ _ (Granted c.args.unit.now.id c.args.session w.begin-login.result w.in-Granted.number w.credits-credits.result ∷ []) (c.finish.ensures.id ∙ ap (λ (u : ServerUnit). u.id) w.unit-is) refl
          (ap is_ended c.finish.ensures.line ∙ ap (λ (u : ServerUnit). is_ended u.line) w.unit-is) (ap (λ (r : Records). r.grants.items) w.records-is ∙ w.push_reserved.ensures.items)
          (λ at row there lacks. (ap (λ (r : Records). slice_get (row_states r.history.items) at) (sym w.records-is) ∙ there, λ in_service. absurd (none_some at (sym (ap row_in (stage ∙ ap Entry w.in-Granted.is)) ∙ in_service))))
          (ap row_in c.finish.ensures.stage) (λ some. inr (up.own, (going, up.partner))) has
      | in-Rejected w ↦ owes_dropped _ _ (λ at in_service. absurd (none_some at (sym (ap row_in (stage ∙ ap Entry w.in-Rejected.is)) ∙ in_service))) (c.finish.ensures.id ∙ ap (λ (u : ServerUnit). u.id) w.unit-is)
          (ap (λ (l : Logins). l.current) c.finish.ensures.logins ∙ ap (λ (u : ServerUnit). u.logins.current) w.unit-is) (ap row_in c.finish.ensures.stage) (ap is_ended c.finish.ensures.line ∙ ap (λ (u : ServerUnit). is_ended u.line) w.unit-is) refl (ap (λ (r : Records). row_states r.history.items) w.records-is) (ap (λ (r : Records). r.grants.items) w.records-is) has
      | in-Served w ↦ owes_answered _ _ w.in-Served.row w.take_answer-answer.result c.args.records.now.history.items w.answer-in-Served.new.self.history.items refl (ap (λ (r : Records). row_states r.history.items) w.records-is)
          (ap row_in (stage ∙ ap Entry w.in-Served.is))
          (ap has_bytes w.take_answer-answer.ensures.answer ∙ served_bytes c.args.unit.now.service.stage w.in-Served.row c.args.unit.now.service.answer.items (stage ∙ ap Entry w.in-Served.is) c.args.unit.now.service.answered)
          w.answer-in-Served.ensures.row (c.finish.ensures.id ∙ ap (λ (u : ServerUnit). u.id) w.unit-is) (ap (λ (l : Logins). l.current) c.finish.ensures.logins ∙ ap (λ (u : ServerUnit). u.logins.current) w.unit-is ∙ w.answer.ensures.current) (ap row_in c.finish.ensures.stage) (ap is_ended c.finish.ensures.line ∙ ap (λ (u : ServerUnit). is_ended u.line) w.unit-is) refl
          (ap (λ (r : Records). r.grants.items) w.records-is ∙ ap (λ (v : Vec Grant Global). v.items) w.answer-in-Served.ensures.grants) has
    ]

pub returns-clause-refuses : goal.returns-clause-refuses
returns-clause-refuses c = λ terms taken answers entry kept.
    let desk = desk_of c.args.unit.now in
    let bytes = c.args.unit.now.service.answer.items in
    let old = ledger_at c.args.unit.now c.args.session taken answers c.args.records.now in
    let fits_at : (outcome : Outcome) → c.args.outcome ≡ outcome → fits outcome (length bytes) ≡ true =
    λ outcome is. subst (λ (stage : Stage). has_answer stage (length bytes) ≡ true) (kept.stage ∙ ap Entry is) c.args.unit.now.service.answered in
    let kept_at : (outcome : Outcome) → c.args.outcome ≡ outcome → IsAnswerKept desk entry outcome =
    λ outcome is. subst (IsAnswerKept desk entry) is kept in
    elim c.match-outcome.branch [
      | in-Granted w ↦ explains_granted terms desk c.args.records.now.history.items old _
          w.begin-login.result w.in-Granted.number w.credits-credits.result entry (kept.stage ∙ ap Entry w.in-Granted.is) (kept_at _ w.in-Granted.is) (fits_at _ w.in-Granted.is) refl
          w.credits-credits.ensures refl refl
          (waiting_stands _ _ c.finish.ensures.stands ∙ ap (λ (u : ServerUnit). u.waiting) w.unit-is) (ended_stands _ _ c.finish.ensures.stands ∙ ap (λ (u : ServerUnit). is_ended u.line) w.unit-is)
          (c.finish.ensures.pending ∙ ap (λ (u : ServerUnit). drop 1 u.pending.items) w.unit-is) (ap (λ (r : Records). r.grants.items) w.records-is ∙ w.push_reserved.ensures.items) refl
          (c.finish.ensures.id ∙ ap (λ (u : ServerUnit). u.id) w.unit-is) refl (ap (λ (l : Logins). l.current) c.finish.ensures.logins ∙ ap (λ (u : ServerUnit). u.logins.current) w.unit-is ∙ w.begin-login.ensures.current)
      | in-Rejected w ↦ explains_rejected terms desk c.args.records.now.history.items old _ entry (kept.stage ∙ ap Entry w.in-Rejected.is) (kept_at _ w.in-Rejected.is) (fits_at _ w.in-Rejected.is)
          refl refl refl
          (waiting_stands _ _ c.finish.ensures.stands ∙ ap (λ (u : ServerUnit). u.waiting) w.unit-is) (ended_stands _ _ c.finish.ensures.stands ∙ ap (λ (u : ServerUnit). is_ended u.line) w.unit-is)
          (c.finish.ensures.pending ∙ ap (λ (u : ServerUnit). drop 1 u.pending.items) w.unit-is) (ap (λ (r : Records). r.grants.items) w.records-is) refl
          (c.finish.ensures.id ∙ ap (λ (u : ServerUnit). u.id) w.unit-is) (ap (λ (l : Logins). l.current) c.finish.ensures.logins ∙ ap (λ (u : ServerUnit). u.logins.current) w.unit-is) refl
      | in-Served w ↦ explains_served terms desk c.args.records.now.history.items old _ entry w.in-Served.row (kept.stage ∙ ap Entry w.in-Served.is) (kept_at _ w.in-Served.is) (fits_at _ w.in-Served.is) refl refl refl
          (waiting_stands _ _ c.finish.ensures.stands ∙ ap (λ (u : ServerUnit). u.waiting) w.unit-is) (ended_stands _ _ c.finish.ensures.stands ∙ ap (λ (u : ServerUnit). is_ended u.line) w.unit-is)
          (c.finish.ensures.pending ∙ ap (λ (u : ServerUnit). drop 1 u.pending.items) w.unit-is)
          (ap (λ (r : Records). r.grants.items) w.records-is ∙ ap (λ (v : Vec Grant Global). v.items) w.answer-in-Served.ensures.grants) refl
          (c.finish.ensures.id ∙ ap (λ (u : ServerUnit). u.id) w.unit-is) (ap (λ (l : Logins). l.current) c.finish.ensures.logins ∙ ap (λ (u : ServerUnit). u.logins.current) w.unit-is ∙ w.answer.ensures.current)
    ]

pub returns-clause-line : goal.returns-clause-line
returns-clause-line c = elim c.match-outcome.branch [
  | in-Granted w ↦ c.finish.ensures.line ∙ ap (λ (u : ServerUnit). u.line) w.unit-is
  | in-Rejected w ↦ c.finish.ensures.line ∙ ap (λ (u : ServerUnit). u.line) w.unit-is
  | in-Served w ↦ c.finish.ensures.line ∙ ap (λ (u : ServerUnit). u.line) w.unit-is
]

pub returns-clause-logins : goal.returns-clause-logins
returns-clause-logins c = elim c.match-outcome.branch [
  | in-Granted w ↦ subst (λ (o : Outcome). SettlesLogins o c.args.unit.now.logins c.finish.new.unit.logins) (sym w.in-Granted.is) (record {
    last = ap (λ (l : Logins). l.last) c.finish.ensures.logins ∙ ap (λ (u : ServerUnit). u.logins.last) w.unit-is ∙ w.begin-login.ensures.last ∙ w.begin-login.ensures.number;
    current = ap (λ (l : Logins). l.current) c.finish.ensures.logins ∙ ap (λ (u : ServerUnit). u.logins.current) w.unit-is ∙ w.begin-login.ensures.current ∙ w.begin-login.ensures.number;
    taking = ap (λ (l : Logins). l.taking) c.finish.ensures.logins ∙ ap (λ (u : ServerUnit). u.logins.taking) w.unit-is ∙ w.begin-login.ensures.taking;
    outstanding = ap (λ (l : Logins). l.target.outstanding) c.finish.ensures.logins ∙ ap (λ (u : ServerUnit). u.logins.target.outstanding) w.unit-is ∙ w.begin-login.ensures.outstanding;
    granted = ap (λ (l : Logins). l.granted) c.finish.ensures.logins ∙ ap (λ (u : ServerUnit). u.logins.granted) w.unit-is ∙ w.begin-login.ensures.granted;
  })
  | in-Rejected w ↦ subst (λ (o : Outcome). SettlesLogins o c.args.unit.now.logins c.finish.new.unit.logins) (sym w.in-Rejected.is)
      (c.finish.ensures.logins ∙ ap (λ (u : ServerUnit). u.logins) w.unit-is)
  | in-Served w ↦ subst (λ (o : Outcome). SettlesLogins o c.args.unit.now.logins c.finish.new.unit.logins) (sym w.in-Served.is) (record {
    last = ap (λ (l : Logins). l.last) c.finish.ensures.logins ∙ ap (λ (u : ServerUnit). u.logins.last) w.unit-is ∙ w.answer.ensures.last;
    current = ap (λ (l : Logins). l.current) c.finish.ensures.logins ∙ ap (λ (u : ServerUnit). u.logins.current) w.unit-is ∙ w.answer.ensures.current;
    taking = ap (λ (l : Logins). l.taking) c.finish.ensures.logins ∙ ap (λ (u : ServerUnit). u.logins.taking) w.unit-is ∙ w.answer.ensures.taking;
    outstanding = ap (λ (l : Logins). l.target.outstanding) c.finish.ensures.logins ∙ ap (λ (u : ServerUnit). u.logins.target.outstanding) w.unit-is ∙ w.answer.ensures.less;
    granted = ap (λ (l : Logins). l.granted) c.finish.ensures.logins ∙ ap (λ (u : ServerUnit). u.logins.granted) w.unit-is ∙ w.answer.ensures.granted;
  })
]

pub returns-clause-added : goal.returns-clause-added
returns-clause-added c =
    let lines = λ (o : Outcome). c.args.records.now.grants.items ++ settled_lines o c.args.unit.now.id c.args.session c.args.unit.now.logins in
    elim c.match-outcome.branch [
      | in-Granted w ↦ ap (λ (r : Records). r.grants.items) w.records-is ∙ w.push_reserved.ensures.items
          ∙ (λ i. c.args.records.now.grants.items ++ Granted c.args.unit.now.id c.args.session (w.begin-login.ensures.number i) w.in-Granted.number (w.credits-credits.ensures i) ∷ [])
          ∙ ap lines (sym w.in-Granted.is)
      | in-Rejected w ↦ ap (λ (r : Records). r.grants.items) w.records-is ∙ sym (append-nil c.args.records.now.grants.items) ∙ ap lines (sym w.in-Rejected.is)
      | in-Served w ↦ ap (λ (r : Records). r.grants.items) w.records-is ∙ ap (λ (v : Vec Grant Global). v.items) w.answer-in-Served.ensures.grants
          ∙ sym (append-nil c.args.records.now.grants.items) ∙ ap lines (sym w.in-Served.is)
    ]
