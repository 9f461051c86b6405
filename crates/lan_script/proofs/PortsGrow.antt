-- That ports lose no session, no post and no delivery.
use Rattle.std.proofs.Common.{◌≡◌, inl, inr, ℕ, arith, Bool, true, false, List, [], ◌∷◌, ◌++◌, append-nil, Option, Some, None, length, refl, sym, ◌∙◌, ap, subst, if◌then◌else◌}
use Rattle.std.specs.List.{flat_map}
use Rattle.std.proofs.lemmas.List.{append_assoc}
use Rattle.vio_num.specs.Words.{Begins}
use Rattle.vio_num.specs.declared.names.UnitId.{UnitId}
use Rattle.tce_window.specs.PortState.{PortState}
use Rattle.lan_buffers.specs.Port.{PortValue}
use Rattle.lan_buffers.specs.declared.answers.Deliver.{Deliver}
use Rattle.lan_buffers.specs.declared.answers.Deliver.TheVariants as sent
use Rattle.lan_buffers.specs.declared.rows.DeliverRow.{DeliverRow as Delivery}
use Rattle.lan_buffers.specs.declared.rows.PostRow.{PostRow as Post}
use Rattle.lan_switch.specs.declared.answers.Offer.{Offer}
use Rattle.lan_switch.specs.declared.answers.SendRecord.{SendRecord}
use Rattle.lan_switch.specs.declared.station.Station.{Station}
use Rattle.lan_switch.specs.Sending.{AreOffered, IsOfferedAt, IsSent, LanWindows, Offering, is_numbered, next_number, with_frames}
use Rattle.lan_switch.specs.Switch.{AtPort, port_of, same_unit, unit_of, with_port}
use Rattle.lan_script.specs.Rows.{post_rows, posts_in, sessions_from}
use Rattle.lan_script.specs.Spent.{AllGrow, Grows, PortGrows}
use Rattle.lan_script.specs.Units.{LanValue}
use Rattle.lan_script.proofs.Balancing.{numbered_port}
use Rattle.lan_script.proofs.CarriedOn.{Changed, changed}
use Rattle.lan_script.proofs.Keys.{port_head, port_tail}
use Rattle.lan_script.proofs.Placing.{by_bool}
use Rattle.lan_script.proofs.Tallies.{one_more_long}

begins_same : {X : Type 0} (old new : List X) → new ≡ old → Begins old new
begins_same old new e = ([], e ∙ sym (append-nil old))

begins_on : {X : Type 0} (a b d : List X) → Begins a b → Begins b d → Begins a d
begins_on a b d (ra, ea) (rb, eb) = (ra ++ rb, eb ∙ ap (λ l. l ++ rb) ea ∙ append_assoc a ra rb)

-- the rows of posts, where there are no more posts and sessions
rows_same : (before after : PortValue) → after.posts ≡ before.posts → length after.drop_counts ≡ length before.drop_counts → (unit : UnitId)
    → Begins (post_rows unit before) (post_rows unit after)
rows_same before after posts long unit =
    begins_same (post_rows unit before) (post_rows unit after)
    (ap (λ (l : List Post). flat_map (posts_in unit l) (sessions_from 1 (length after.drop_counts))) posts
    ∙ ap (λ (n : ℕ). flat_map (posts_in unit before.posts) (sessions_from 1 n)) long)

-- a port with the posts, deliveries and sessions that it had
pub grows_with : (before after : PortValue) → after.posts ≡ before.posts → after.deliveries ≡ before.deliveries
    → length after.drop_counts ≡ length before.drop_counts → PortGrows before after
grows_with before after posts deliveries long = record {
  sessions = omega (arith, long);
  posted = begins_same before.posts after.posts posts;
  delivered = begins_same before.deliveries after.deliveries deliveries;
  rows = rows_same before after posts long;
}

pub grows_equal : (before after : PortValue) → after ≡ before → PortGrows before after
grows_equal before after e =
    grows_with before after (ap (λ (p : PortValue). p.posts) e) (ap (λ (p : PortValue). p.deliveries) e) (ap (λ (p : PortValue). length p.drop_counts) e)

-- one with more deliveries
grows_taking : (before after : PortValue) (row : Delivery) → after.posts ≡ before.posts → after.deliveries ≡ before.deliveries ++ row ∷ []
    → length after.drop_counts ≡ length before.drop_counts → PortGrows before after
grows_taking before after row posts deliveries long = record {
  sessions = omega (arith, long);
  posted = begins_same before.posts after.posts posts;
  delivered = (row ∷ [], deliveries);
  rows = rows_same before after posts long;
}

pub grows_same : (port : Option PortValue) → Grows port port
grows_same (Some port) = grows_equal port port refl
grows_same None = tt

pub grows_as : (before after : Option PortValue) → after ≡ before → Grows before after
grows_as before after e = subst (λ (o : Option PortValue). Grows before o) (sym e) (grows_same before)

-- one step behind another
pub grows_then : (a b d : Option PortValue) → Grows a b → Grows b d → Grows a d
grows_then None None d h k = k
grows_then None (Some b) d h k = absurd h
grows_then (Some a) None d h k = absurd h
grows_then (Some a) (Some b) None h k = absurd k
grows_then (Some a) (Some b) (Some d) h k = record {
  sessions = omega (arith, h.sessions, k.sessions);
  posted = begins_on a.posts b.posts d.posts h.posted k.posted;
  delivered = begins_on a.deliveries b.deliveries d.deliveries h.delivered k.delivered;
  rows = λ unit. begins_on (post_rows unit a) (post_rows unit b) (post_rows unit d) (h.rows unit) (k.rows unit);
}

pub grow_on : (old mid new : LanValue) → AllGrow old mid → AllGrow mid new → AllGrow old new
grow_on old mid new a b unit = grows_then (port_of old.stations unit) (port_of mid.stations unit) (port_of new.stations unit) (a unit) (b unit)

-- a call at a port
pub at_grows : (old : List Station) (unit : UnitId) (new : List Station) (P : PortValue → PortValue → Type 0) (h : AtPort old unit new P)
    → h.after.unit ≡ h.before.unit → PortGrows h.before h.after → (v : UnitId) → Grows (port_of old v) (port_of new v)
at_grows old unit new P h same grows v =
    subst (λ (l : List Station). Grows (port_of old v) (port_of l v)) (sym h.rest) (by (changed unit v old h.before h.after h.was same))
  where
    by : Changed unit v old h.before h.after → Grows (port_of old v) (port_of (with_port unit h.after old) v)
    by (inl e) = grows_as (port_of old v) (port_of (with_port unit h.after old) v) e
    by (inr e) =
        subst (λ (o : Option PortValue). Grows o (port_of (with_port unit h.after old) v)) (sym e.0)
        (subst (λ (o : Option PortValue). Grows (Some h.before) o) (sym e.1) grows)

-- ---- a frame that is sent

pub offered_grows : (o : Offering) (unit : UnitId) (old new : PortValue) (answer : Deliver) → IsOfferedAt o unit old new answer
    → (answer ≡ sent.NoMemory → ⊥) → PortGrows old new
offered_grows o unit old new (sent.Done post) h not =
    let e = h.done.rest in
    grows_taking old new h.done.row (ap (λ (p : PortValue). p.posts) e) (ap (λ (p : PortValue). p.deliveries) e) (ap (λ (p : PortValue). length p.drop_counts) e)
offered_grows o unit old new (sent.Ungranted post fault) h not =
    let e = h.ungranted.blank.rest in
    grows_taking old new h.ungranted.blank.row (ap (λ (p : PortValue). p.posts) e) (ap (λ (p : PortValue). p.deliveries) e)
    (ap (λ (p : PortValue). length p.drop_counts) e ∙ one_more_long old.drop_counts)
offered_grows o unit old new sent.NoSize h not =
    grows_with old new (ap (λ (p : PortValue). p.posts) h.dropped) (ap (λ (p : PortValue). p.deliveries) h.dropped)
    (ap (λ (p : PortValue). length p.drop_counts) h.dropped ∙ one_more_long old.drop_counts)
offered_grows o unit old new sent.NoBuffer h not =
    grows_with old new (ap (λ (p : PortValue). p.posts) h.dropped) (ap (λ (p : PortValue). p.deliveries) h.dropped)
    (ap (λ (p : PortValue). length p.drop_counts) h.dropped ∙ one_more_long old.drop_counts)
offered_grows o unit old new (sent.Turn word) h not = grows_equal old new h.nothing
offered_grows o unit old new (sent.InUse page word) h not = grows_equal old new h.nothing
offered_grows o unit old new (sent.Closed control) h not = grows_equal old new h.nothing
offered_grows o unit old new sent.NoMemory h not = absurd (not refl)

-- lists that begin with stations of one unit, of which the first grows, and go on with those that do
list_grows : (s n : Station) (olds news : List Station) (v : UnitId) → unit_of n ≡ unit_of s → PortGrows s.port n.port
    → Grows (port_of olds v) (port_of news v) → Grows (port_of (s ∷ olds) v) (port_of (n ∷ news) v)
list_grows s n olds news v unit head tail =
    by_bool (same_unit (unit_of s) v) (Grows (port_of (s ∷ olds) v) (port_of (n ∷ news) v))
    (λ e.
    subst (λ (a : Option PortValue). Grows a (port_of (n ∷ news) v)) (sym (port_head v s olds e))
    (subst (λ (b : Option PortValue). Grows (Some s.port) b) (sym (port_head v n news (ap (λ (u : UnitId). same_unit u v) unit ∙ e))) head))
    (λ e.
    subst (λ (a : Option PortValue). Grows a (port_of (n ∷ news) v)) (sym (port_tail v s olds e))
    (subst (λ (b : Option PortValue). Grows (port_of olds v) b) (sym (port_tail v n news (ap (λ (u : UnitId). same_unit u v) unit ∙ e))) tail))

offers_grow : (o : Offering) (all : Bool) (old new : List Station) (offers : List Offer) → AreOffered o all old new offers → (v : UnitId)
    → Grows (port_of old v) (port_of new v)
offers_grow o all [] [] offers h v = tt
offers_grow o all [] (n ∷ news) offers h v = absurd h
offers_grow o all (s ∷ olds) [] offers h v = absurd h
offers_grow o true (s ∷ olds) (n ∷ news) offers (inl (answer, later, is, takes, rest)) v =
    list_grows s n olds news v takes.unit (offered_grows o (unit_of s) s.port n.port answer takes.offered takes.memory) (offers_grow o true olds news later rest v)
offers_grow o false (s ∷ olds) (n ∷ news) offers (inl (answer, later, is, takes, rest)) v =
    list_grows s n olds news v takes.unit (offered_grows o (unit_of s) s.port n.port answer takes.offered takes.memory)
    (grows_as (port_of olds v) (port_of news v) (ap (λ l. port_of l v) rest.1))
offers_grow o all (s ∷ olds) (n ∷ news) offers (inr (passed, rest)) v =
    list_grows s n olds news v (ap (λ (x : Station). unit_of x) passed.1) (grows_equal s.port n.port (ap (λ (x : Station). x.port) passed.1))
    (offers_grow o all olds news offers rest v)

pub sent_grows : (ss ss' : List Station) (unit : UnitId) (parts : List ℕ) (is_shared : Bool) (Found : ℕ → ℕ → Type 0) (window window' : PortState)
    (windows : LanWindows) (r : SendRecord) → IsSent ss ss' unit parts is_shared Found window window' windows r → (v : UnitId)
    → Grows (port_of ss v) (port_of ss' v)
sent_grows ss ss' unit parts is_shared Found window window' windows r (inl (h, beside)) v = grows_as (port_of ss v) (port_of ss' v) (ap (λ l. port_of l v) h.stays)
sent_grows ss ss' unit parts is_shared Found window window' windows r (inr (inl (h, beside))) v =
    grows_as (port_of ss v) (port_of ss' v) (ap (λ l. port_of l v) h.stays)
sent_grows ss ss' unit parts is_shared Found window window' windows r (inr (inr h)) v =
    subst (λ (o : Option PortValue). Grows (port_of ss v) o) (sym (ap (λ l. port_of l v) h.answered.rest ∙ by (is_numbered r.code)))
    (offers_grow _ h.answered.out.all ss h.answered.mid r.offers.items h.answered.out.offered v)
  where
    by : (b : Bool) → port_of (if b then with_frames unit (next_number ss unit) h.answered.mid else h.answered.mid) v ≡ port_of h.answered.mid v
    by true = numbered_port unit v (next_number ss unit) h.answered.mid
    by false = refl
