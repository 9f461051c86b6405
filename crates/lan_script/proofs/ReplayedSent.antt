-- A frame that is sent leaves each port where it stood in its replay.
use Rattle.std.proofs.Common.{◌≡◌, inl, inr, ℕ, Bool, true, false, List, [], ◌∷◌, Some, Result, Ok, Err, IfOk, OnOk, length, refl, sym, ◌∙◌, ap, if◌then◌else◌}
use Rattle.vio_num.specs.declared.names.UnitId.{UnitId}
use Rattle.tce_window.specs.PortState.{PortState}
use Rattle.lan_buffers.specs.Port.{PortValue}
use Rattle.lan_buffers.specs.declared.answers.Deliver.{Deliver}
use Rattle.lan_buffers.specs.declared.answers.Deliver.TheVariants as sent
use Rattle.lan_switch.specs.declared.answers.Offer.{Offer}
use Rattle.lan_switch.specs.declared.answers.SendRecord.{SendRecord}
use Rattle.lan_switch.specs.declared.station.Station.{Station}
use Rattle.lan_switch.specs.Sending.{AreOffered, IsOfferedAt, IsSent, LanWindows, Offering, Takes, is_numbered, next_number, with_frames}
use Rattle.lan_switch.specs.Switch.{port_of, same_unit, unit_of}
use Rattle.vio_num.specs.declared.memory.NoMemory.{NoMemory}
use Rattle.lan_script.specs.Replayed.{SameReplays, bytes_sent, replay_at, replay_of}
use Rattle.lan_script.specs.Units.{LanValue}
use Rattle.lan_script.proofs.Balancing.{numbered_port}
use Rattle.lan_script.proofs.Replaying.{Stays, stays_with}
use Rattle.lan_script.proofs.Keys.{port_head, port_tail}
use Rattle.lan_script.proofs.Placing.{by_bool}
use Rattle.lan_script.proofs.Tallies.{one_more_long}

-- a port that made something of a frame
offered_stays : (o : Offering) (unit : UnitId) (old new : PortValue) (answer : Deliver) → IsOfferedAt o unit old new answer
    → (answer ≡ sent.NoMemory → ⊥) → Stays old new
offered_stays o unit old new (sent.Done post) h not =
    let e = h.done.rest in
    stays_with old new (ap (λ (p : PortValue). p.unit) e) (ap (λ (p : PortValue). p.settings) e) (ap (λ (p : PortValue). p.posts) e) (ap (λ (p : PortValue). length p.drop_counts) e)
offered_stays o unit old new (sent.Ungranted post fault) h not =
    let e = h.ungranted.blank.rest in
    stays_with old new (ap (λ (p : PortValue). p.unit) e) (ap (λ (p : PortValue). p.settings) e) (ap (λ (p : PortValue). p.posts) e) (ap (λ (p : PortValue). length p.drop_counts) e ∙ one_more_long old.drop_counts)
offered_stays o unit old new sent.NoSize h not =
    stays_with old new (ap (λ (p : PortValue). p.unit) h.dropped) (ap (λ (p : PortValue). p.settings) h.dropped) (ap (λ (p : PortValue). p.posts) h.dropped) (ap (λ (p : PortValue). length p.drop_counts) h.dropped ∙ one_more_long old.drop_counts)
offered_stays o unit old new sent.NoBuffer h not =
    stays_with old new (ap (λ (p : PortValue). p.unit) h.dropped) (ap (λ (p : PortValue). p.settings) h.dropped) (ap (λ (p : PortValue). p.posts) h.dropped) (ap (λ (p : PortValue). length p.drop_counts) h.dropped ∙ one_more_long old.drop_counts)
offered_stays o unit old new (sent.Turn word) h not =
    stays_with old new (ap (λ (p : PortValue). p.unit) h.nothing) (ap (λ (p : PortValue). p.settings) h.nothing) (ap (λ (p : PortValue). p.posts) h.nothing) (ap (λ (p : PortValue). length p.drop_counts) h.nothing)
offered_stays o unit old new (sent.InUse page word) h not =
    stays_with old new (ap (λ (p : PortValue). p.unit) h.nothing) (ap (λ (p : PortValue). p.settings) h.nothing) (ap (λ (p : PortValue). p.posts) h.nothing) (ap (λ (p : PortValue). length p.drop_counts) h.nothing)
offered_stays o unit old new (sent.Closed control) h not =
    stays_with old new (ap (λ (p : PortValue). p.unit) h.nothing) (ap (λ (p : PortValue). p.settings) h.nothing) (ap (λ (p : PortValue). p.posts) h.nothing) (ap (λ (p : PortValue). length p.drop_counts) h.nothing)
offered_stays o unit old new sent.NoMemory h not = absurd (not refl)

-- lists that begin with stations of one unit and the same replay, and go on with the same
same_lists : (s n : Station) (olds news : List Station) (v : UnitId) (k : List (List ℕ)) → unit_of n ≡ unit_of s → replay_of (Some n.port) k ≡ replay_of (Some s.port) k
    → replay_of (port_of news v) k ≡ replay_of (port_of olds v) k → replay_of (port_of (n ∷ news) v) k ≡ replay_of (port_of (s ∷ olds) v) k
same_lists s n olds news v k unit head tail =
    by_bool (same_unit (unit_of s) v) (replay_of (port_of (n ∷ news) v) k ≡ replay_of (port_of (s ∷ olds) v) k)
    (λ e.
    ap (λ o. replay_of o k) (port_head v n news (ap (λ (u : UnitId). same_unit u v) unit ∙ e)) ∙ head
    ∙ sym (ap (λ o. replay_of o k) (port_head v s olds e)))
    (λ e.
    ap (λ o. replay_of o k) (port_tail v n news (ap (λ (u : UnitId). same_unit u v) unit ∙ e)) ∙ tail
    ∙ sym (ap (λ o. replay_of o k) (port_tail v s olds e)))

took : (o : Offering) (s n : Station) (answer : Deliver) (v : UnitId) (k : List (List ℕ)) → Takes o s n answer → replay_of (Some n.port) k ≡ replay_of (Some s.port) k
took o s n answer v k h = (offered_stays o (unit_of s) s.port n.port answer h.offered h.memory).says k

offered_replays : (o : Offering) (all : Bool) (old new : List Station) (offers : List Offer) → AreOffered o all old new offers → (v : UnitId) (k : List (List ℕ))
    → replay_of (port_of new v) k ≡ replay_of (port_of old v) k
offered_replays o all [] [] offers h v k = refl
offered_replays o all [] (n ∷ news) offers h v k = absurd h
offered_replays o all (s ∷ olds) [] offers h v k = absurd h
offered_replays o true (s ∷ olds) (n ∷ news) offers (inl (answer, later, is, takes, rest)) v k =
    same_lists s n olds news v k takes.unit (took o s n answer v k takes) (offered_replays o true olds news later rest v k)
offered_replays o false (s ∷ olds) (n ∷ news) offers (inl (answer, later, is, takes, rest)) v k =
    same_lists s n olds news v k takes.unit (took o s n answer v k takes) (ap (λ l. replay_of (port_of l v) k) rest.1)
offered_replays o all (s ∷ olds) (n ∷ news) offers (inr (passed, rest)) v k =
    same_lists s n olds news v k (ap (λ (x : Station). unit_of x) passed.1) (ap (λ (x : Station). replay_of (Some x.port) k) passed.1)
    (offered_replays o all olds news offers rest v k)

pub sent_replays : (ss ss' : List Station) (unit : UnitId) (parts : List ℕ) (is_shared : Bool) (Found : ℕ → ℕ → Type 0) (window window' : PortState)
    (windows : LanWindows) (r : SendRecord) → IsSent ss ss' unit parts is_shared Found window window' windows r → (v : UnitId) (k : List (List ℕ))
    → replay_of (port_of ss' v) k ≡ replay_of (port_of ss v) k
sent_replays ss ss' unit parts is_shared Found window window' windows r (inl (h, beside)) v k = ap (λ l. replay_of (port_of l v) k) h.stays
sent_replays ss ss' unit parts is_shared Found window window' windows r (inr (inl (h, beside))) v k = ap (λ l. replay_of (port_of l v) k) h.stays
sent_replays ss ss' unit parts is_shared Found window window' windows r (inr (inr h)) v k =
    ap (λ l. replay_of (port_of l v) k) h.answered.rest ∙ by (is_numbered r.code)
    ∙ offered_replays _ h.answered.out.all ss h.answered.mid r.offers.items h.answered.out.offered v k
  where
    by : (b : Bool) → replay_of (port_of (if b then with_frames unit (next_number ss unit) h.answered.mid else h.answered.mid) v) k
        ≡ replay_of (port_of h.answered.mid v) k
    by true = ap (λ o. replay_of o k) (numbered_port unit v (next_number ss unit) h.answered.mid)
    by false = refl

-- the same of units of a run, where the send was answered
pub sends_stay : (lan now : LanValue) (ss : List Station) (unit : UnitId) (parts : List ℕ) (is_shared : Bool) (Found : ℕ → ℕ → Type 0) (window window' : PortState)
    (windows : LanWindows) (r : Result SendRecord NoMemory) → lan ≡ now → IfOk r (IsSent lan.stations ss unit parts is_shared Found window window' windows)
    → OnOk r (SameReplays now (record lan { stations = ss }))
sends_stay lan now ss unit parts is_shared Found window window' windows (Ok made) same sent = λ v.
    sent_replays lan.stations ss unit parts is_shared Found window window' windows made sent v (bytes_sent lan v)
    ∙ ap (λ (l : LanValue). replay_at l v) same
sends_stay lan now ss unit parts is_shared Found window window' windows (Err memory) same sent = tt
