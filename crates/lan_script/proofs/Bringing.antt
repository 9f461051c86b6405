-- What the offers of a frame did at each unit.
use Rattle.std.proofs.Common.{◌≡◌, ◌≤◌, ◌⊎◌, inl, inr, Bool, true, false, List, [], ◌∷◌, Option, Some, IsSome, length, map, refl, sym, ◌∙◌, ap, subst}
use Rattle.std.specs.List.{Contains}
use Rattle.vio_num.specs.declared.names.UnitId.{UnitId}
use Rattle.tce_window.specs.PortState.{WindowFacts}
use Rattle.rdma_copy.specs.Copy.{Side}
use Rattle.rdma_copy.proofs.Laws.{side_same}
use Rattle.lan_buffers.specs.Calls.{IsOpen}
use Rattle.lan_buffers.specs.Port.{PortValue}
use Rattle.lan_buffers.specs.declared.answers.Deliver.{Deliver}
use Rattle.lan_buffers.specs.declared.answers.Deliver.TheVariants as sent
use Rattle.lan_buffers.specs.declared.settings.Settings.{Settings}
use Rattle.lan_switch.specs.declared.answers.Offer.{Offer}
use Rattle.lan_switch.specs.declared.station.Station.{Station}
use Rattle.lan_switch.specs.Sending.{AreOffered, IsOfferedAt, Offering, Takes, has_offer}
use Rattle.lan_switch.specs.Switch.{AreAscending, port_of, same_unit, unit_of}
use Rattle.vio_trace.specs.declared.lan_rows.FrameRow.{FrameRow}
use Rattle.vio_trace.specs.declared.lan_rows.PostRow.{PostRow}
use Rattle.lan_script.specs.Invariant.{HaveBegun, posts_at, posted_in, rows_at, rows_in}
use Rattle.lan_script.proofs.Carrying.{Gathers, gathers_own}
use Rattle.lan_script.proofs.Filling.{HasFrame, offer_gathers, side_after, side_before}
use Rattle.lan_script.proofs.Gains.{apart_from}
use Rattle.lan_script.proofs.Keys.{port_head, port_tail}
use Rattle.lan_script.proofs.Order.{Each}
use Rattle.lan_script.proofs.Placing.{by_bool, flip, none_some, one_unit, same_some}
use Rattle.unit_region.proofs.Laws.{own_same}

-- The unit's port was offered the frame.
pub record IsOffer (o : Offering) (old new : List Station) (v : UnitId) : Type 0 where
  pub before : PortValue
  pub after : PortValue
  pub was : port_of old v ≡ Some before
  pub is : port_of new v ≡ Some after
  pub answer : Deliver
  pub offered : IsOfferedAt o v before after answer
  pub memory : answer ≡ sent.NoMemory → ⊥
  pub opened : IsOpen before
  pub other : same_unit v o.name.who ≡ false

-- it was not, and is as it was
pub record IsLeft (old new : List Station) (offers : List Offer) (v : UnitId) : Type 0 where
  pub none : has_offer v offers ≡ false
  pub same : port_of new v ≡ port_of old v

abbrev pub Brings : Offering → (old new : List Station) → List Offer → UnitId → Type 0
Brings o old new offers v = IsOffer o old new v ⊎ IsLeft old new offers v

offer_beside : (v u : UnitId) (answer : Deliver) (later : List Offer) → same_unit u v ≡ false → has_offer v later ≡ false
    → has_offer v (record { unit = u; answer = answer } ∷ later) ≡ false
offer_beside v u answer later e none = let away : same_unit v u ≡ false = flip v u e in rw away none

-- no unit that is none of these is offered the frame
none_there : (o : Offering) (all : Bool) (old new : List Station) (offers : List Offer) (v : UnitId) → AreOffered o all old new offers
    → Each (λ (s : Station). same_unit (unit_of s) v ≡ false) old → has_offer v offers ≡ false
none_there o all [] [] offers v h apart = ap (λ l. has_offer v l) h
none_there o all [] (n ∷ news) offers v h apart = absurd h
none_there o all (s ∷ olds) [] offers v h apart = absurd h
none_there o true (s ∷ olds) (n ∷ news) offers v (inl (answer, later, is, takes, rest)) apart =
    ap (λ l. has_offer v l) is ∙ offer_beside v (unit_of s) answer later apart.0 (none_there o true olds news later v rest apart.1)
none_there o false (s ∷ olds) (n ∷ news) offers v (inl (answer, later, is, takes, rest)) apart =
    ap (λ l. has_offer v l) is ∙ offer_beside v (unit_of s) answer later apart.0 (ap (λ l. has_offer v l) rest.0)
none_there o all (s ∷ olds) (n ∷ news) offers v (inr (passed, rest)) apart = none_there o all olds news offers v rest apart.1

-- past a station that is not the unit's
past : (o : Offering) (s n : Station) (olds news : List Station) (offers : List Offer) (v : UnitId) → same_unit (unit_of s) v ≡ false
    → same_unit (unit_of n) v ≡ false → Brings o olds news offers v → Brings o (s ∷ olds) (n ∷ news) offers v
past o s n olds news offers v e f (inl h) =
    inl (record {
      before = h.before;
      after = h.after;
      was = port_tail v s olds e ∙ h.was;
      is = port_tail v n news f ∙ h.is;
      answer = h.answer;
      offered = h.offered;
      memory = h.memory;
      opened = h.opened;
      other = h.other;
    })
past o s n olds news offers v e f (inr h) =
    inr (record { none = h.none; same = port_tail v n news f ∙ h.same ∙ sym (port_tail v s olds e) })

-- past an offer that is not to the unit
past_offer : (o : Offering) (old new : List Station) (u v : UnitId) (answer : Deliver) (later : List Offer) → same_unit u v ≡ false
    → Brings o old new later v → Brings o old new (record { unit = u; answer = answer } ∷ later) v
past_offer o old new u v answer later e (inl h) = inl h
past_offer o old new u v answer later e (inr h) = inr (record { none = offer_beside v u answer later e h.none; same = h.same })

-- the unit's own station
own_offer : (o : Offering) (s n : Station) (olds news : List Station) (answer : Deliver) (v : UnitId) → Takes o s n answer → same_unit (unit_of s) v ≡ true
    → IsOffer o (s ∷ olds) (n ∷ news) v
own_offer o s n olds news answer v takes e = record {
  before = s.port;
  after = n.port;
  was = port_head v s olds e;
  is = port_head v n news (ap (λ (u : UnitId). same_unit u v) takes.unit ∙ e);
  answer = answer;
  offered = subst (λ (u : UnitId). IsOfferedAt o u s.port n.port answer) (one_unit (unit_of s) v e) takes.offered;
  memory = takes.memory;
  opened = subst (λ (x : Option Settings). IsSome x) (sym takes.target.accepts.shown) refl;
  other = subst (λ (u : UnitId). same_unit u o.name.who ≡ false) (one_unit (unit_of s) v e) takes.target.other;
}

pub brings : (o : Offering) (all : Bool) (old new : List Station) (offers : List Offer) (v : UnitId) → AreOffered o all old new offers
    → AreAscending (map unit_of old) → Brings o old new offers v
brings o all [] [] offers v h ascending = inr (record { none = ap (λ l. has_offer v l) h; same = refl })
brings o all [] (n ∷ news) offers v h ascending = absurd h
brings o all (s ∷ olds) [] offers v h ascending = absurd h
brings o true (s ∷ olds) (n ∷ news) offers v (inl (answer, later, is, takes, rest)) ascending =
    subst (λ l. Brings o (s ∷ olds) (n ∷ news) l v) (sym is)
    (by_bool (same_unit (unit_of s) v) (Brings o (s ∷ olds) (n ∷ news) (record { unit = unit_of s; answer = answer } ∷ later) v)
    (λ e. inl (own_offer o s n olds news answer v takes e))
    (λ e.
    past_offer o (s ∷ olds) (n ∷ news) (unit_of s) v answer later e
    (past o s n olds news later v e (ap (λ (u : UnitId). same_unit u v) takes.unit ∙ e) (brings o true olds news later v rest ascending.1))))
brings o false (s ∷ olds) (n ∷ news) offers v (inl (answer, later, is, takes, rest)) ascending =
    subst (λ l. Brings o (s ∷ olds) (n ∷ news) l v) (sym is)
    (by_bool (same_unit (unit_of s) v) (Brings o (s ∷ olds) (n ∷ news) (record { unit = unit_of s; answer = answer } ∷ later) v)
    (λ e. inl (own_offer o s n olds news answer v takes e))
    (λ e.
    past_offer o (s ∷ olds) (n ∷ news) (unit_of s) v answer later e
    (past o s n olds news later v e (ap (λ (u : UnitId). same_unit u v) takes.unit ∙ e)
    (inr (record { none = ap (λ l. has_offer v l) rest.0; same = ap (λ l. port_of l v) rest.1 })))))
brings o all (s ∷ olds) (n ∷ news) offers v (inr (passed, rest)) ascending =
    subst (λ (x : Station). Brings o (s ∷ olds) (x ∷ news) offers v) (sym passed.1)
    (by_bool (same_unit (unit_of s) v) (Brings o (s ∷ olds) (s ∷ news) offers v)
    (λ e. inr (record {
      none = none_there o all olds news offers v rest (apart_from s olds v e ascending);
      same = port_head v s news e ∙ sym (port_head v s olds e);
    }))
    (λ e. past o s s olds news offers v e e (brings o all olds news offers v rest ascending.1)))

-- an open port is in a session
pub begun_at : (ss : List Station) (v : UnitId) (port : PortValue) → HaveBegun ss → port_of ss v ≡ Some port → IsOpen port → 1 ≤ length port.drop_counts
begun_at [] v port begun at opened = absurd (none_some port at)
begun_at (s ∷ ss) v port begun at opened =
    by_bool (same_unit (unit_of s) v) (1 ≤ length port.drop_counts)
    (λ e.
    let is : s.port ≡ port = same_some s.port port (sym (port_head v s ss e) ∙ at) in
    subst (λ (p : PortValue). 1 ≤ length p.drop_counts) is (begun.0 (subst IsOpen (sym is) opened)))
    (λ e. begun_at ss v port begun.1 (sym (port_tail v s ss e) ∙ at) opened)

-- nothing was done at the unit
pub left_alone : (o : Offering) (old new : List Station) (frames : List FrameRow) (v : UnitId) → o.windows.facts' v ≡ o.windows.facts v
    → port_of new v ≡ port_of old v
    → Gathers (side_before o v) (side_after o v) (posts_at old v) (posts_at new v) (rows_at old v) (rows_at new v) frames
left_alone o old new frames v facts port =
    subst (λ (w : Side). Gathers (side_before o v) w (posts_at old v) (posts_at new v) (rows_at old v) (rows_at new v) frames)
    (sym (ap (λ (f : WindowFacts). record { unit = v; values = f.values; strokes = f.strokes }) facts))
    (gathers_own (side_before o v) (side_before o v) (posts_at old v) (posts_at new v) (rows_at old v) (rows_at new v) frames (side_same (side_before o v))
    (λ p. own_same v ((side_before o v).strokes p))
    (λ post has. subst (λ (l : List PostRow). Contains l post) (sym (ap (λ x. posted_in v x) port)) has) (ap (λ x. rows_in v x) port))

-- What a frame that was offered leaves at a unit.
pub brought : (o : Offering) (old new : List Station) (offers : List Offer) (frames : List FrameRow) (v : UnitId) → o.windows.is_shared ≡ false
    → (o.windows.facts v).unit ≡ v → HaveBegun old
    → ((other : UnitId) → has_offer other offers ≡ false → o.windows.facts' other ≡ o.windows.facts other) → HasFrame o frames → Brings o old new offers v
    → Gathers (side_before o v) (side_after o v) (posts_at old v) (posts_at new v) (rows_at old v) (rows_at new v) frames
brought o old new offers frames v plain own begun beside f (inl h) =
    subst (λ (a : Option PortValue). Gathers (side_before o v) (side_after o v) (posted_in v a) (posts_at new v) (rows_in v a) (rows_at new v) frames) (sym h.was)
    (subst (λ (b : Option PortValue). Gathers (side_before o v) (side_after o v) (posted_in v (Some h.before)) (posted_in v b) (rows_in v (Some h.before)) (rows_in v b) frames) (sym h.is)
    (offer_gathers o v h.before h.after frames h.answer plain own h.offered h.memory (begun_at old v h.before begun h.was h.opened) f))
brought o old new offers frames v plain own begun beside f (inr h) = left_alone o old new frames v (beside v h.none) h.same
