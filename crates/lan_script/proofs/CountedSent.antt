-- A frame that is sent changes no count of posts and frames taken.
use Rattle.std.proofs.Common.{◌≡◌, inl, inr, ℕ, Bool, true, false, List, [], ◌∷◌, Some, Result, Ok, Err, IfOk, OnOk, length, refl, sym, ◌∙◌, ap, subst, if◌then◌else◌}
use Rattle.vio_num.specs.declared.names.UnitId.{UnitId}
use Rattle.tce_window.specs.PortState.{PortState}
use Rattle.lan_buffers.specs.Port.{PortValue}
use Rattle.lan_buffers.specs.declared.answers.Deliver.{Deliver}
use Rattle.lan_buffers.specs.declared.answers.Deliver.TheVariants as sent
use Rattle.lan_switch.specs.declared.answers.Offer.{Offer}
use Rattle.lan_switch.specs.declared.answers.SendRecord.{SendRecord}
use Rattle.lan_switch.specs.declared.station.Station.{Station}
use Rattle.lan_switch.specs.Sending.{AreOffered, IsOfferedAt, IsSent, LanWindows, Offering, Takes, is_numbered, next_number, with_frames}
use Rattle.lan_switch.specs.Switch.{port_of, same_unit, unit_of}
use Rattle.vio_num.specs.declared.memory.NoMemory.{NoMemory}
use Rattle.lan_script.specs.PortCounts.{SameCounts, counts_in}
use Rattle.lan_script.specs.Spent.{Grows}
use Rattle.lan_script.specs.Units.{LanValue}
use Rattle.lan_script.proofs.Balancing.{numbered_port}
use Rattle.lan_script.proofs.Counting.{SameRows, same_rows}
use Rattle.lan_script.proofs.Keys.{port_head, port_tail}
use Rattle.lan_script.proofs.Placing.{by_bool}
use Rattle.lan_script.proofs.PortsGrow.{offered_grows, sent_grows}
use Rattle.lan_script.proofs.Tallies.{one_more_long}

-- a port that made something of a frame
offered_rows : (o : Offering) (unit : UnitId) (old new : PortValue) (answer : Deliver) → IsOfferedAt o unit old new answer
    → (answer ≡ sent.NoMemory → ⊥) → SameRows old new
offered_rows o unit old new (sent.Done post) h not =
    let e = h.done.rest in
    same_rows old new (ap (λ (p : PortValue). p.unit) e) (ap (λ (p : PortValue). p.posts) e) (ap (λ (p : PortValue). p.harvests) e) (ap (λ (p : PortValue). length p.drop_counts) e)
    (offered_grows o unit old new (sent.Done post) h not)
offered_rows o unit old new (sent.Ungranted post fault) h not =
    let e = h.ungranted.blank.rest in
    same_rows old new (ap (λ (p : PortValue). p.unit) e) (ap (λ (p : PortValue). p.posts) e) (ap (λ (p : PortValue). p.harvests) e) (ap (λ (p : PortValue). length p.drop_counts) e ∙ one_more_long old.drop_counts)
    (offered_grows o unit old new (sent.Ungranted post fault) h not)
offered_rows o unit old new sent.NoSize h not =
    same_rows old new (ap (λ (p : PortValue). p.unit) h.dropped) (ap (λ (p : PortValue). p.posts) h.dropped) (ap (λ (p : PortValue). p.harvests) h.dropped) (ap (λ (p : PortValue). length p.drop_counts) h.dropped ∙ one_more_long old.drop_counts)
    (offered_grows o unit old new sent.NoSize h not)
offered_rows o unit old new sent.NoBuffer h not =
    same_rows old new (ap (λ (p : PortValue). p.unit) h.dropped) (ap (λ (p : PortValue). p.posts) h.dropped) (ap (λ (p : PortValue). p.harvests) h.dropped) (ap (λ (p : PortValue). length p.drop_counts) h.dropped ∙ one_more_long old.drop_counts)
    (offered_grows o unit old new sent.NoBuffer h not)
offered_rows o unit old new (sent.Turn word) h not =
    same_rows old new (ap (λ (p : PortValue). p.unit) h.nothing) (ap (λ (p : PortValue). p.posts) h.nothing) (ap (λ (p : PortValue). p.harvests) h.nothing) (ap (λ (p : PortValue). length p.drop_counts) h.nothing)
    (offered_grows o unit old new (sent.Turn word) h not)
offered_rows o unit old new (sent.InUse page word) h not =
    same_rows old new (ap (λ (p : PortValue). p.unit) h.nothing) (ap (λ (p : PortValue). p.posts) h.nothing) (ap (λ (p : PortValue). p.harvests) h.nothing) (ap (λ (p : PortValue). length p.drop_counts) h.nothing)
    (offered_grows o unit old new (sent.InUse page word) h not)
offered_rows o unit old new (sent.Closed control) h not =
    same_rows old new (ap (λ (p : PortValue). p.unit) h.nothing) (ap (λ (p : PortValue). p.posts) h.nothing) (ap (λ (p : PortValue). p.harvests) h.nothing) (ap (λ (p : PortValue). length p.drop_counts) h.nothing)
    (offered_grows o unit old new (sent.Closed control) h not)
offered_rows o unit old new sent.NoMemory h not = absurd (not refl)

-- lists that begin with stations of one unit and the same counts, and go on with the same
same_lists : (s n : Station) (olds news : List Station) (v : UnitId) → unit_of n ≡ unit_of s → counts_in v (Some n.port) ≡ counts_in v (Some s.port)
    → counts_in v (port_of news v) ≡ counts_in v (port_of olds v) → counts_in v (port_of (n ∷ news) v) ≡ counts_in v (port_of (s ∷ olds) v)
same_lists s n olds news v unit head tail =
    by_bool (same_unit (unit_of s) v) (counts_in v (port_of (n ∷ news) v) ≡ counts_in v (port_of (s ∷ olds) v))
    (λ e.
    ap (λ o. counts_in v o) (port_head v n news (ap (λ (u : UnitId). same_unit u v) unit ∙ e)) ∙ head
    ∙ sym (ap (λ o. counts_in v o) (port_head v s olds e)))
    (λ e.
    ap (λ o. counts_in v o) (port_tail v n news (ap (λ (u : UnitId). same_unit u v) unit ∙ e)) ∙ tail
    ∙ sym (ap (λ o. counts_in v o) (port_tail v s olds e)))

took : (o : Offering) (s n : Station) (answer : Deliver) (v : UnitId) → Takes o s n answer → counts_in v (Some n.port) ≡ counts_in v (Some s.port)
took o s n answer v h = (offered_rows o (unit_of s) s.port n.port answer h.offered h.memory).same v

offered_counts : (o : Offering) (all : Bool) (old new : List Station) (offers : List Offer) → AreOffered o all old new offers → (v : UnitId)
    → counts_in v (port_of new v) ≡ counts_in v (port_of old v)
offered_counts o all [] [] offers h v = refl
offered_counts o all [] (n ∷ news) offers h v = absurd h
offered_counts o all (s ∷ olds) [] offers h v = absurd h
offered_counts o true (s ∷ olds) (n ∷ news) offers (inl (answer, later, is, takes, rest)) v =
    same_lists s n olds news v takes.unit (took o s n answer v takes) (offered_counts o true olds news later rest v)
offered_counts o false (s ∷ olds) (n ∷ news) offers (inl (answer, later, is, takes, rest)) v =
    same_lists s n olds news v takes.unit (took o s n answer v takes) (ap (λ l. counts_in v (port_of l v)) rest.1)
offered_counts o all (s ∷ olds) (n ∷ news) offers (inr (passed, rest)) v =
    same_lists s n olds news v (ap (λ (x : Station). unit_of x) passed.1) (ap (λ (x : Station). counts_in v (Some x.port)) passed.1)
    (offered_counts o all olds news offers rest v)

pub sent_counts : (ss ss' : List Station) (unit : UnitId) (parts : List ℕ) (is_shared : Bool) (Found : ℕ → ℕ → Type 0) (window window' : PortState)
    (windows : LanWindows) (r : SendRecord) → IsSent ss ss' unit parts is_shared Found window window' windows r → (v : UnitId)
    → counts_in v (port_of ss' v) ≡ counts_in v (port_of ss v)
sent_counts ss ss' unit parts is_shared Found window window' windows r (inl (h, beside)) v = ap (λ l. counts_in v (port_of l v)) h.stays
sent_counts ss ss' unit parts is_shared Found window window' windows r (inr (inl (h, beside))) v = ap (λ l. counts_in v (port_of l v)) h.stays
sent_counts ss ss' unit parts is_shared Found window window' windows r (inr (inr h)) v =
    ap (λ l. counts_in v (port_of l v)) h.answered.rest ∙ by (is_numbered r.code)
    ∙ offered_counts _ h.answered.out.all ss h.answered.mid r.offers.items h.answered.out.offered v
  where
    by : (b : Bool) → counts_in v (port_of (if b then with_frames unit (next_number ss unit) h.answered.mid else h.answered.mid) v)
        ≡ counts_in v (port_of h.answered.mid v)
    by true = ap (λ o. counts_in v o) (numbered_port unit v (next_number ss unit) h.answered.mid)
    by false = refl

-- the same of units of a run, where the send was answered
pub sends_same : (lan now after : LanValue) (ss : List Station) (unit : UnitId) (parts : List ℕ) (is_shared : Bool) (Found : ℕ → ℕ → Type 0) (window window' : PortState)
    (windows : LanWindows) (r : Result SendRecord NoMemory) → lan ≡ now → after.stations ≡ ss → IfOk r (IsSent lan.stations ss unit parts is_shared Found window window' windows)
    → OnOk r (SameCounts now after)
sends_same lan now after ss unit parts is_shared Found window window' windows (Ok made) same at sent =
    subst (λ (l : LanValue). SameCounts l after) same
    (record {
      same = λ v. ap (λ l. counts_in v (port_of l v)) at ∙ sent_counts lan.stations ss unit parts is_shared Found window window' windows made sent v;
      grows = λ v. subst (λ (l : List Station). Grows (port_of lan.stations v) (port_of l v)) (sym at) (sent_grows lan.stations ss unit parts is_shared Found window window' windows made sent v);
    })
sends_same lan now after ss unit parts is_shared Found window window' windows (Err memory) same at sent = tt
