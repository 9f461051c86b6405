-- Over what a client's side does, over a turn of another server unit, and before the first turn: the answers of a login that goes on are of
-- the client's present session.
use Rattle.std.proofs.Common.{◌≡◌, ◌≢◌, ◌⊎◌, inl, inr, ◌∙◌, ◌<◌, ◌≤◌, ◌||◌, ◌++◌, ℕ, Bool, true, false, List, [], Option, Some, None, IfSome, filter, if◌then◌else◌, length, slice_get, refl, sym, ap, ap₂, subst, arith}
use Rattle.std.proofs.Math.Logic.{∥∥₁_map}
use Rattle.vio_num.specs.declared.history.Grant.{Grant}
use Rattle.vio_num.specs.declared.history.Grant.TheVariants.{Granted}
use Rattle.vio_num.specs.declared.history.Served.{Served}
use Rattle.vio_num.specs.declared.names.UnitId.{UnitId}
use Rattle.crq_ring.specs.Sessions.{of_session}
use Rattle.crq_session.specs.EndState.{EndState}
use Rattle.crq_session.specs.PlainState.{end_of, side_of}
use Rattle.crq_session.specs.declared.handshake.Handshake.{Handshake}
use Rattle.crq_session.specs.declared.handshake.Handshake.TheVariants.{Down}
use Rattle.crq_session.specs.declared.link.PlainLink.{PlainLink}
use Rattle.block_server.specs.Answering.{OnlyRowsOf}
use Rattle.block_server.specs.Books.{books_seen}
use Rattle.block_server.specs.Entries.{is_response}
use Rattle.block_server.specs.Judged.{AreKept, IsPast, Judged}
use Rattle.block_server.specs.Judges.{HasKept}
use Rattle.block_server.specs.Owed.{IsCutOff}
use Rattle.block_server.specs.Ready.{Agrees, AgreesAt}
use Rattle.block_server.specs.Receipts.{LinesMore, is_down, is_ended}
use Rattle.block_server.specs.declared.unit.Unit.{Unit}
use Rattle.vcpu_run.specs.declared.pair.Pair.{Pair}
use Rattle.vcpu_run.specs.Announces.{IsAnnounced}
use Rattle.vcpu_run.specs.Answered.{IsBehind}
use Rattle.vcpu_run.specs.LastGiven.{AreLastGiven, HasFewBehind, HaveLastGiven, IsEventComing, IsLastGiven, most_now, responses_now}
use Rattle.vcpu_run.specs.Pairs.{Drives}
use Rattle.vcpu_run.proofs.CutLogins.{cut_more, which}
use Rattle.vcpu_run.proofs.FewBehind.{few_elsewhere, few_more}
use Rattle.vcpu_run.proofs.LastServed.{ServesLast, cut_past, last_served, line_own, not_later, where_at}
use Rattle.vcpu_run.proofs.Losing.{comes_by, sees_driven}

-- A unit takes nothing more in a session whose queue is not registered.
ended_off : (unit : Unit) (queue : EndState) → Agrees unit.line.handshake queue → queue.registered ≡ false → is_ended unit.line ≡ true
ended_off unit queue agrees off = at (is_ended unit.line) refl
  where
    either : (b : Bool) → (b || true) ≡ true
    either true = refl
    either false = refl

    apart : false ≡ true → ⊥
    apart same = absurd (cc (same))

    up : is_ended unit.line ≡ false → unit.line.handshake ≢ Down
    up none down = absurd (apart (sym none ∙ (ap (λ (h : Handshake). unit.line.closing || is_down h) down ∙ either unit.line.closing)))

    at : (b : Bool) → is_ended unit.line ≡ b → is_ended unit.line ≡ true
    at true e = e
    at false e = absurd (cc (agrees.on (up e), off))

-- Where the server unit's queue is not registered each login is cut off.
cut_off : (unit : Unit) (id : UnitId) (queue : EndState) (history : List Served) (grants : List Grant) (judged : List Judged) → AreKept (books_seen unit id queue history grants) judged
    → Agrees unit.line.handshake queue → queue.registered ≡ false → (place session login number credits : ℕ) → 1 ≤ session
    → slice_get grants place ≡ Some (Granted id session login number credits) → IsCutOff id grants session login
cut_off unit id queue history grants judged kept agrees off place session login number credits some there =
    cut_past unit id queue history grants judged kept place session login number credits some (past (which session queue.last_session)) there
  where
    past : (session < queue.last_session) ⊎ ((session ≡ queue.last_session) ⊎ (queue.last_session < session)) → IsPast queue.last_session (is_ended unit.line) session
    past (inl less) = inl less
    past (inr (inl same)) = inr (same, ended_off unit queue agrees off)
    past (inr (inr more)) = let low = not_later unit id queue history grants judged kept place session login number credits there in absurd (omega (arith, low, more))

module _ (old new : Pair) (d : Drives old new) (behind : IsBehind (end_of [] old.link true)) (id : UnitId) (grants : List Grant) (history : List Served) (on : (side_of old.link true).registered ≡ true) where
  told_comes : IsAnnounced d.puts.rows (end_of [] new.link false) → IsEventComing (end_of [] new.link true)
  told_comes told = comes_by old new d told.0 behind told.1 told.2

  -- Responses are of the present session still, or an event tells that it is over.
  few_driven : (session login : ℕ) → HasFewBehind id login (most_now old.link) history → IsLastGiven id new.link grants history session login
  few_driven session login few = at (side_of old.link false).registered refl
    where
      off : (side_of old.link false).registered ≡ false → most_now old.link ≡ 0
      off e = ap (λ b. if b then responses_now old.link else 0) e

      still : (side_of old.link false).registered ≡ true → (side_of new.link false).queue.session ≡ (side_of old.link false).queue.session → (b : Bool) → (side_of new.link false).registered ≡ b
          → IsLastGiven id new.link grants history session login
      still was same true e =
          let first : most_now old.link ≡ responses_now old.link = ap (λ b. if b then responses_now old.link else 0) was in
          let next : most_now new.link ≡ responses_now new.link = ap (λ b. if b then responses_now new.link else 0) e in
          let got : responses_now new.link ≡ responses_now old.link = ap length (ap (filter is_response) (ap₂ of_session same d.got)) in
          inr (inr (few_more id login (most_now old.link) (most_now new.link) history (omega (arith, first, next, got)) few))
      still was same false e = inr (inl (told_comes (d.puts.freed was e on)))

      at : (b : Bool) → (side_of old.link false).registered ≡ b → IsLastGiven id new.link grants history session login
      at false e = let none = off e in inr (inr (few_more id login (most_now old.link) (most_now new.link) history (omega (arith, none)) few))
      at true e = by (d.puts.renewed e on)
        where
          by : ((side_of new.link false).queue.session ≡ (side_of old.link false).queue.session) ⊎ IsAnnounced d.puts.rows (end_of [] new.link false)
              → IsLastGiven id new.link grants history session login
          by (inl same) = still e same (side_of new.link false).registered refl
          by (inr told) = inr (inl (told_comes told))

  login_driven : (session login : ℕ) → IsLastGiven id old.link grants history session login → IsLastGiven id new.link grants history session login
  login_driven session login (inl cut) = inl cut
  login_driven session login (inr (inl comes)) = inr (inl ((sees_driven old new d behind).ahead (record { registered = on; comes = comes })).comes)
  login_driven session login (inr (inr few)) = few_driven session login few

-- What a client's side does.
pub last_driven : (unit : Unit) (old new : Pair) (id : UnitId) (grants : List Grant) (history : List Served) (judged : List Judged) → Drives old new → IsBehind (end_of [] old.link true)
    → AreKept (books_seen unit id (end_of [] old.link true) history grants) judged → Agrees unit.line.handshake (end_of [] old.link true)
    → AreLastGiven id old.link grants history → AreLastGiven id new.link grants history
last_driven unit old new id grants history judged d behind kept agrees last place session login number credits some there = at (side_of old.link true).registered refl
  where
    at : (b : Bool) → (side_of old.link true).registered ≡ b → ∥ IsLastGiven id new.link grants history session login ∥₁
    at false off = ∣ inl (cut_off unit id (end_of [] old.link true) history grants judged kept agrees off place session login number credits some there) ∣₁
    at true on = ∥∥₁_map (last place session login number credits some there) (login_driven old new d behind id grants history on session login)

-- A turn of another server unit.
pub last_elsewhere : {granted : ℕ} (id other : UnitId) (link : PlainLink) (grants grants' : List Grant) (history history' : List Served) → other ≢ id → LinesMore other granted grants grants'
    → OnlyRowsOf other history history' → AreLastGiven id link grants history → AreLastGiven id link grants' history'
last_elsewhere id other link grants grants' history history' apart lines only last place session login number credits some there =
    subst (λ (all : List Grant). ∥ IsLastGiven id link all history' session login ∥₁) (sym lines.added)
    (at (where_at grants lines.more place grant (ap (λ (all : List Grant). slice_get all place) (sym lines.added) ∙ there)))
  where
    grant : Grant
    grant = Granted id session login number credits

    on : IsLastGiven id link grants history session login → IsLastGiven id link (grants ++ lines.more) history' session login
    on (inl cut) = inl (cut_more id grants lines.more session login cut)
    on (inr (inl comes)) = inr (inl comes)
    on (inr (inr few)) = inr (inr (few_elsewhere id other login (most_now link) history history' apart only few))

    at : (slice_get grants place ≡ Some grant) ⊎ ((j : ℕ) × (slice_get lines.more j ≡ Some grant)) → ∥ IsLastGiven id link (grants ++ lines.more) history' session login ∥₁
    at (inl was) = ∥∥₁_map (last place session login number credits some was) on
    at (inr came) = absurd (apart (sym (line_own other _ grants grants' lines came.0 grant came.1)))

-- Before the first turn.
pub last_fresh : (id : UnitId) (link : PlainLink) (grants : List Grant) (history : List Served) → grants ≡ [] → AreLastGiven id link grants history
last_fresh id link grants history none place session login number credits some there = absurd (no_line (ap (λ (all : List Grant). slice_get all place) (sym none) ∙ there))
  where
    no_line : slice_get [] place ≡ Some (Granted id session login number credits) → ⊥
    no_line e = cc (e)

-- OF A UNIT BY ITS NUMBER ------------------------------------------------------------------------

if_some : (units : List Unit) (k : ℕ) (X : Type 0) → ((u : Unit) → slice_get units k ≡ Some u → X) → IfSome (slice_get units k) (λ u. X)
if_some units k X each = at (slice_get units k) refl
  where
    at : (o : Option Unit) → slice_get units k ≡ o → IfSome o (λ u. X)
    at None e = tt
    at (Some u) e = each u e

held_at : (P : Unit → Type 0) (units : List Unit) (k : ℕ) (u : Unit) → slice_get units k ≡ Some u → IfSome (slice_get units k) P → P u
held_at P units k u there is = subst (λ (o : Option Unit). IfSome o P) there is

pub served_received : {granted : ℕ} (units units' : List Unit) (k : ℕ) (id : UnitId) (old new : PlainLink) (grants grants' : List Grant) (history history' : List Served) (judged judged' : List Judged)
    → ((u' : Unit) → slice_get units' k ≡ Some u' → (u : Unit) × (slice_get units k ≡ Some u)) → HasKept units k id (end_of [] old true) history grants judged
    → HasKept units' k id (end_of [] new true) history' grants' judged' → (lines : LinesMore id granted grants grants') → ServesLast id old new lines.more history history'
    → HaveLastGiven units k id old grants history → HaveLastGiven units' k id new grants' history'
served_received units units' k id old new grants grants' history history' judged judged' there kept kept' lines is last =
    if_some units' k (AreLastGiven id new grants' history')
    (λ u' e.
    let u = there u' e in
    subst (λ (all : List Grant). AreLastGiven id new all history') (sym lines.added)
    (last_served u.0 u' id old new grants lines.more history history' judged judged'
    (held_at (λ unit. AreKept (books_seen unit id (end_of [] old true) history grants) judged) units k u.0 u.1 kept)
    (subst (λ (all : List Grant). AreKept (books_seen u' id (end_of [] new true) history' all) judged') lines.added
    (held_at (λ unit. AreKept (books_seen unit id (end_of [] new true) history' grants') judged') units' k u' e kept'))
    is (held_at (λ unit. AreLastGiven id old grants history) units k u.0 u.1 last)))

pub driven_received : (units : List Unit) (k : ℕ) (old new : Pair) (id : UnitId) (grants : List Grant) (history : List Served) (judged : List Judged) → Drives old new → IsBehind (end_of [] old.link true)
    → HasKept units k id (end_of [] old.link true) history grants judged → AgreesAt units k (end_of [] old.link true) → HaveLastGiven units k id old.link grants history
    → HaveLastGiven units k id new.link grants history
driven_received units k old new id grants history judged d behind kept agrees last =
    if_some units k (AreLastGiven id new.link grants history)
    (λ u e.
    last_driven u old new id grants history judged d behind
    (held_at (λ unit. AreKept (books_seen unit id (end_of [] old.link true) history grants) judged) units k u e kept)
    (held_at (λ unit. Agrees unit.line.handshake (end_of [] old.link true)) units k u e agrees) (held_at (λ unit. AreLastGiven id old.link grants history) units k u e last))

pub elsewhere_received : {granted : ℕ} (units units' : List Unit) (k : ℕ) (id other : UnitId) (link : PlainLink) (grants grants' : List Grant) (history history' : List Served) → slice_get units' k ≡ slice_get units k
    → other ≢ id → LinesMore other granted grants grants' → OnlyRowsOf other history history' → HaveLastGiven units k id link grants history → HaveLastGiven units' k id link grants' history'
elsewhere_received units units' k id other link grants grants' history history' same apart lines only last =
    if_some units' k (AreLastGiven id link grants' history')
    (λ u e. last_elsewhere id other link grants grants' history history' apart lines only (held_at (λ unit. AreLastGiven id link grants history) units k u (sym same ∙ e) last))

pub fresh_received : (units : List Unit) (k : ℕ) (id : UnitId) (link : PlainLink) (grants : List Grant) (history : List Served) → grants ≡ [] → HaveLastGiven units k id link grants history
fresh_received units k id link grants history none = if_some units k (AreLastGiven id link grants history) (λ u e. last_fresh id link grants history none)
