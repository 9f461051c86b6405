-- Frames, one behind the other.
use Rattle.std.proofs.Common.{◌≡◌, ◌∙◌, inl, inr, ◌≤◌, ◌++◌, Bool, true, false, List, [], ◌∷◌, Result, Ok, Err, IfOk, OnErr, refl, sym, ap, subst, arith, append-nil, append_assoc}
use Rattle.vio_num.specs.declared.memory.NoMemory.{NoMemory}
use Rattle.crq_ring.specs.declared.rows.PipeRow.{PipeRow}
use Rattle.crq_session.specs.declared.answers.RegAnswer.{RegAnswer}
use Rattle.crq_session.specs.declared.answers.RegAnswer.TheVariants as reg
use Rattle.crq_session.specs.declared.answers.SendAnswer.{SendAnswer}
use Rattle.crq_session.specs.declared.answers.SendAnswer.TheVariants as send
use Rattle.crq_session.specs.Answered.{MaySend}
use Rattle.crq_session.specs.Answers.{OnReached}
use Rattle.crq_session.specs.EndState.{EndState, EndCounts, Rises, OnlyRegisters, OnlyReserves, OnlySends, OnlyTakes}
use Rattle.tce_window.specs.PortState.{PortState, OnlyReads, OnlyWrites}
use Rattle.vscsi_client.specs.Frames.{HasMore, IsOpened, KeepsEnd, OnlyTurns}
use Rattle.vscsi_client.specs.State.{ClientState}
use Rattle.vscsi_client.specs.Turned.{Puts, Registers, RegistersAs, SentAs}
use Rattle.vscsi_client.specs.declared.stage.Due.{Due}

rises_same : (shared : Bool) (a : EndCounts) → Rises shared a a
rises_same shared a = record {
  partner_session = omega arith;
  same_session = λ is. refl;
  full = omega arith;
  empty = omega arith;
  closed = omega arith;
  in_use = omega arith;
}

rises_trans : (shared : Bool) (a b c : EndCounts) → Rises shared a b → Rises shared b c → Rises shared a c
rises_trans shared a b c x y = record {
  partner_session = omega (arith, x.partner_session, y.partner_session);
  same_session = λ is. y.same_session is ∙ x.same_session is;
  full = omega (arith, x.full, y.full);
  empty = omega (arith, x.empty, y.empty);
  closed = omega (arith, x.closed, y.closed);
  in_use = omega (arith, x.in_use, y.in_use);
}

-- rows behind rows
more_same : (rows rows' : List PipeRow) → rows' ≡ rows → HasMore rows rows'
more_same rows rows' same = record { rows = []; is = same ∙ sym (append-nil rows) }

more_trans : (a b c : List PipeRow) → HasMore a b → HasMore b c → HasMore a c
more_trans a b c x y = record { rows = x.rows ++ y.rows; is = y.is ∙ (ap (λ rows. rows ++ y.rows) x.is ∙ append_assoc a x.rows y.rows) }

pub keeps_same : (shared : Bool) (a : EndState) → KeepsEnd shared a a
keeps_same shared a =
    record { place = refl; last_session = refl; registered = refl; kept = refl; sent = more_same a.sent a.sent refl; unsent = λ off. refl; counts = rises_same shared a.counts; in_use = refl }

pub keeps_takes : (shared : Bool) (a b : EndState) → OnlyTakes shared a b → KeepsEnd shared a b
keeps_takes shared a b t =
    record { place = t.place; last_session = t.last_session; registered = t.registered; kept = t.kept; sent = more_same a.sent b.sent t.sent; unsent = λ off. t.sent; counts = t.counts; in_use = t.in_use }

keeps_sends : (shared : Bool) (a b : EndState) → OnlySends shared a b → HasMore a.sent b.sent → (a.registered ≡ false → b.sent ≡ a.sent) → KeepsEnd shared a b
keeps_sends shared a b t more unsent =
    record { place = t.place; last_session = t.last_session; registered = t.registered; kept = t.kept; sent = more; unsent = unsent; counts = t.counts; in_use = t.in_use }

-- the entry of what is due was put, or was not
sent_more : (shared : Bool) (s s' : ClientState) (a b : EndState) (due : Due) (answer : SendAnswer) → Puts shared s s' a b due answer → HasMore a.sent b.sent
sent_more shared s s' a b due answer puts = at answer puts.sent
  where
    from : (rows : List PipeRow) → b.sent ≡ puts.room.sent ++ rows → HasMore a.sent b.sent
    from rows is = record { rows = rows; is = is ∙ ap (λ before. before ++ rows) puts.ready.sent }

    same : b.sent ≡ puts.room.sent → HasMore a.sent b.sent
    same is = more_same a.sent b.sent (is ∙ puts.ready.sent)

    at : (answer : SendAnswer) → SentAs shared puts.room puts.entry b answer → HasMore a.sent b.sent
    at (send.Success number) sent = from _ sent.puts.sent
    at (send.Closed control) sent = same sent.none.sent
    at (send.Dropped number held) sent = same sent.sent
    at send.NotRegistered sent = same sent.1.sent
    at send.Parameter sent = absurd sent

-- none is put while the own queue is not registered
sent_none : (shared : Bool) (s s' : ClientState) (a b : EndState) (due : Due) (answer : SendAnswer) → Puts shared s s' a b due answer → a.registered ≡ false → b.sent ≡ a.sent
sent_none shared s s' a b due answer puts off = at answer puts.may puts.sent ∙ puts.ready.sent
  where
    both : (registered : Bool) → registered ≡ true → registered ≡ false → ⊥
    both registered on none = cc (on, none)

    at : (answer : SendAnswer) → OnReached answer (MaySend puts.room puts.entry) → SentAs shared puts.room puts.entry b answer → b.sent ≡ puts.room.sent
    at (send.Success number) may sent = absurd (both puts.room.registered may.registered (puts.ready.registered ∙ off))
    at (send.Closed control) may sent = sent.none.sent
    at (send.Dropped number held) may sent = sent.sent
    at send.NotRegistered may sent = sent.1.sent
    at send.Parameter may sent = absurd sent

pub keeps_puts : (shared : Bool) (s s' : ClientState) (a b : EndState) (due : Due) (result : Result SendAnswer NoMemory) → IfOk result (Puts shared s s' a b due)
    → OnErr result (OnlyReserves a b) → OnlySends shared a b → KeepsEnd shared a b
keeps_puts shared s s' a b due (Ok answer) puts none rest = keeps_sends shared a b rest (sent_more shared s s' a b due answer puts) (sent_none shared s s' a b due answer puts)
keeps_puts shared s s' a b due (Err memory) puts none rest = keeps_sends shared a b rest (more_same a.sent b.sent none.sent) (λ off. none.sent)

pub keeps_trans : (shared : Bool) (a b c : EndState) → KeepsEnd shared a b → KeepsEnd shared b c → KeepsEnd shared a c
keeps_trans shared a b c x y = record {
  place = y.place ∙ x.place;
  last_session = y.last_session ∙ x.last_session;
  registered = y.registered ∙ x.registered;
  kept = y.kept ∙ x.kept;
  sent = more_trans a.sent b.sent c.sent x.sent y.sent;
  unsent = λ off. y.unsent (x.registered ∙ off) ∙ x.unsent off;
  counts = rises_trans shared a.counts b.counts c.counts x.counts y.counts;
  in_use = y.in_use ∙ x.in_use;
}

-- the queue was registered, or not
reserves_trans : (a b c : EndState) → OnlyReserves a b → OnlyReserves b c → OnlyReserves a c
reserves_trans a b c x y = record {
  place = y.place ∙ x.place;
  last_session = y.last_session ∙ x.last_session;
  registered = y.registered ∙ x.registered;
  kept = y.kept ∙ x.kept;
  sent = y.sent ∙ x.sent;
  drops = y.drops ∙ x.drops;
  taken = y.taken ∙ x.taken;
  counts = y.counts ∙ x.counts;
}

pub opened_none : (shared : Bool) (a b : EndState) → OnlyReserves a b → OnlyRegisters shared a b → IsOpened shared a b
opened_none shared a b none rest = record { rest = rest; opens = inl none }

pub opened_by : (shared : Bool) (s s' : ClientState) (a b : EndState) (answer : RegAnswer) → Registers shared s s' a b answer → OnlyRegisters shared a b → IsOpened shared a b
opened_by shared s s' a b answer did rest = at answer did.registers
  where
    at : (answer : RegAnswer) → RegistersAs shared s s' did.room b answer → IsOpened shared a b
    at reg.Resource r = record { rest = rest; opens = inl (reserves_trans a did.room b did.ready r.1) }
    at reg.Success r = record { rest = rest; opens = inr (record { room = did.room; ready = did.ready; opens = inl r.0 }) }
    at (reg.Closed control) r = record { rest = rest; opens = inr (record { room = did.room; ready = did.ready; opens = inl r.0 }) }
    at (reg.Busy number held) r =
        record { rest = rest; opens = inr (record { room = did.room; ready = did.ready; opens = inr (record { number = number; held = held; still = r.0 }) }) }
    at reg.Parameter r = absurd r

pub turns_after : (shared : Bool) (a b c : EndState) → IsOpened shared a b → KeepsEnd shared b c → OnlyTurns shared a c
turns_after shared a b c x y = record {
  place = y.place ∙ x.rest.place;
  last_session = subst (λ n. a.last_session ≤ n) (sym y.last_session) x.rest.last_session;
  counts = rises_trans shared a.counts b.counts c.counts x.rest.counts y.counts;
  in_use = y.in_use ∙ x.rest.in_use;
  opened = b;
  opens = x;
  later = y;
}

pub turns_opened : (shared : Bool) (a b : EndState) → IsOpened shared a b → OnlyTurns shared a b
turns_opened shared a b x = turns_after shared a b b x (keeps_same shared b)

pub writes_same : (a : PortState) → OnlyWrites a a
writes_same a = record { place = refl; values = refl; held_from = refl; held_count = refl; taken = refl; in_use = omega arith }

pub writes_reads : (shared : Bool) (a b : PortState) → OnlyReads shared a b → OnlyWrites a b
writes_reads shared a b r = record { place = r.place; values = r.values; held_from = r.held_from; held_count = r.held_count; taken = r.taken; in_use = r.in_use }

pub writes_trans : (a b c : PortState) → OnlyWrites a b → OnlyWrites b c → OnlyWrites a c
writes_trans a b c x y = record {
  place = y.place ∙ x.place;
  values = y.values ∙ x.values;
  held_from = y.held_from ∙ x.held_from;
  held_count = y.held_count ∙ x.held_count;
  taken = y.taken ∙ x.taken;
  in_use = omega (arith, x.in_use, y.in_use);
}
