-- What calls leave of a unit's site, one after the other.
use Rattle.std.proofs.Common.{◌≡◌, ◌⊎◌, inl, inr, ℕ, ◌<◌, ◌≤◌, ◌++◌, Bool, true, false, List, [], ◌∷◌, refl, sym, ◌∙◌, ap, subst, arith, append-nil, append_assoc}
use Rattle.std.proofs.lemmas.List.Elements.{All-nil, All-cons, All-append, All-weaker}
use Rattle.crq_ring.specs.declared.rows.PipeRow.{PipeRow}
use Rattle.crq_session.specs.EndState.{EndPlace, EndState}
use Rattle.vio_num.specs.Words.{Begins}
use Rattle.tce_window.specs.Port.{Later}
use Rattle.tce_window.specs.PortState.{PortState}
use Rattle.rdma_copy.proofs.Laws.{lawful_stays, side_same, side_on}
use Rattle.rdma_copy.specs.declared.copy.CopyRecord.{CopyRecord}
use Rattle.rdma_copy.specs.Copies.{side_of}
use Rattle.rdma_copy.specs.Copy.{IsLawful, SideGrows}
use Rattle.block_server.specs.Advances.{Advances, CopiesMore, IsOwnCopy, OpensLater, PutsMore, PutsNow, rows_elsewhere}
use Rattle.block_server.specs.Entries.{MayPut}
use Rattle.block_server.specs.SiteState.{Lenders, SiteState}
use Rattle.block_server.proofs.OwnerNames.{owner_on, owner_same}

pub begins_same : {X : Type 0} (xs : List X) → Begins xs xs
begins_same xs = ([], sym (append-nil xs))

pub begins_on : {X : Type 0} (old mid new : List X) → Begins old mid → Begins mid new → Begins old new
begins_on old mid new first next =
    (first.0 ++ next.0, next.1 ∙ ap (λ front. front ++ next.0) first.1 ∙ append_assoc old first.0 next.0)

-- a list as it is found later, and later still
pub later_same : {X : Type 0} (shared : Bool) (xs : List X) → Later shared xs xs
later_same true xs = begins_same xs
later_same false xs = refl

pub later_on : {X : Type 0} (shared : Bool) (old mid new : List X) → Later shared old mid → Later shared mid new → Later shared old new
later_on true old mid new first next = begins_on old mid new first next
later_on false old mid new first next = next ∙ first

pub puts_none : (old new : List PipeRow) → new ≡ old → PutsMore old new
puts_none old new same = record { more = []; put = same ∙ sym (append-nil old); may = All-nil (λ row. MayPut row.entry) }

pub puts_one : (old new : List PipeRow) (row : PipeRow) → MayPut row.entry → new ≡ old ++ row ∷ [] → PutsMore old new
puts_one old new row may put = record { more = row ∷ []; put = put; may = All-cons (λ row. MayPut row.entry) row [] may (All-nil (λ row. MayPut row.entry)) }

pub puts_on : (old mid new : List PipeRow) → PutsMore old mid → PutsMore mid new → PutsMore old new
puts_on old mid new first next = record {
  more = first.more ++ next.more;
  put = next.put ∙ ap (λ front. front ++ next.more) first.put ∙ append_assoc old first.more next.more;
  may = All-append (λ row. MayPut row.entry) first.more next.more first.may next.may;
}

-- nothing was put
pub now_none : (old new : EndState) → new.sent ≡ old.sent → PutsNow old new
now_none old new same = record { others = ap (rows_elsewhere old.counts.partner_session) same; none = λ off. same }

now_on : (old mid new : EndState) → mid.place ≡ old.place → mid.counts.partner_session ≡ old.counts.partner_session → PutsNow old mid → PutsNow mid new → PutsNow old new
now_on old mid new place session first next = record {
  others = subst (λ q. rows_elsewhere q new.sent ≡ rows_elsewhere q mid.sent) session next.others ∙ first.others;
  none = λ off. next.none (ap (λ (p : EndPlace). p.partner_registered) place ∙ off) ∙ first.none off;
}

-- a copy of the unit stays one as more is known of the windows
still_lawful : (own own' client client' : PortState) → SideGrows (side_of own) (side_of own') → SideGrows (side_of client) (side_of client')
    → (copy : CopyRecord) (from to : ℕ)
    → IsLawful copy (side_of client) from (side_of own) to ⊎ IsLawful copy (side_of own) from (side_of client) to
    → IsLawful copy (side_of client') from (side_of own') to ⊎ IsLawful copy (side_of own') from (side_of client') to
still_lawful own own' client client' own_grows client_grows copy from to (inl lawful) =
    inl (lawful_stays copy (side_of client) (side_of client') from (side_of own) (side_of own') to client_grows own_grows lawful)
still_lawful own own' client client' own_grows client_grows copy from to (inr lawful) =
    inr (lawful_stays copy (side_of own) (side_of own') from (side_of client) (side_of client') to own_grows client_grows lawful)

pub copy_stays : (own own' client client' : PortState) → SideGrows (side_of own) (side_of own') → SideGrows (side_of client) (side_of client')
    → (copy : CopyRecord) → IsOwnCopy own client copy → IsOwnCopy own' client' copy
copy_stays own own' client client' own_grows client_grows copy is = record {
  who = is.who ∙ sym own_grows.unit;
  from = is.from;
  to = is.to;
  lawful = still_lawful own own' client client' own_grows client_grows copy is.from is.to is.lawful;
}

pub copies_none : (own client : PortState) (old new : List CopyRecord) → new ≡ old → CopiesMore own client old new
copies_none own client old new same = record { more = []; made = same ∙ sym (append-nil old); lawful = All-nil (IsOwnCopy own client) }

pub copies_one : (own client : PortState) (old new : List CopyRecord) (copy : CopyRecord) → IsOwnCopy own client copy → new ≡ old ++ copy ∷ []
    → CopiesMore own client old new
copies_one own client old new copy is made =
    record { more = copy ∷ []; made = made; lawful = All-cons (IsOwnCopy own client) copy [] is (All-nil (IsOwnCopy own client)) }

pub copies_on : (own own' client client' : PortState) → SideGrows (side_of own) (side_of own') → SideGrows (side_of client) (side_of client')
    → (old mid new : List CopyRecord) → CopiesMore own client old mid → CopiesMore own' client' mid new → CopiesMore own' client' old new
copies_on own own' client client' own_grows client_grows old mid new first next = record {
  more = first.more ++ next.more;
  made = next.made ∙ ap (λ front. front ++ next.more) first.made ∙ append_assoc old first.more next.more;
  lawful = All-append (IsOwnCopy own' client') first.more next.more
      (All-weaker (IsOwnCopy own client) (IsOwnCopy own' client') (copy_stays own own' client client' own_grows client_grows) first.more first.lawful)
      next.lawful;
}

-- one part behind another
opens_on : (a b c : EndState) → a.last_session ≤ b.last_session → b.last_session ≤ c.last_session → OpensLater a b → OpensLater b c → OpensLater a c
opens_on a b c most least first next on = last (next on)
  where
    earlier : (a.registered ≡ true) ⊎ (a.last_session < b.last_session) → (a.registered ≡ true) ⊎ (a.last_session < c.last_session)
    earlier (inl was) = inl was
    earlier (inr less) = inr (omega (arith, less, least))

    last : (b.registered ≡ true) ⊎ (b.last_session < c.last_session) → (a.registered ≡ true) ⊎ (a.last_session < c.last_session)
    last (inl was) = earlier (first was)
    last (inr less) = inr (omega (arith, most, less))

pub advances_same : (site : SiteState) → Advances site site
advances_same site = record {
  reached = refl;
  queue_place = refl;
  own_place = refl;
  client_place = refl;
  shared = refl;
  partner = λ plain. refl;
  now = λ plain. now_none site.queue site.queue refl;
  closed = omega arith;
  values = λ e. later_same site.shared (site.client.values e);
  session = omega arith;
  opens = λ on. inl on;
  taken = begins_same site.queue.taken;
  put = puts_none site.queue.sent site.queue.sent refl;
  own = side_same (side_of site.own);
  client = side_same (side_of site.client);
  copies = copies_none site.own site.client site.copies site.copies refl;
  own_in_use = omega arith;
  client_in_use = omega arith;
  owner = λ alone. owner_same (side_of site.client);
  named = λ alone is. is;
  own_named = λ is. is;
}

pub advances_on : (old mid new : SiteState) → Advances old mid → Advances mid new → Advances old new
advances_on old mid new first next = record {
  reached = next.reached ∙ first.reached;
  queue_place = next.queue_place ∙ first.queue_place;
  own_place = next.own_place ∙ first.own_place;
  client_place = next.client_place ∙ first.client_place;
  shared = next.shared ∙ first.shared;
  partner = λ plain. next.partner (ap (λ (reached : Lenders). reached.link_shared) first.reached ∙ plain) ∙ first.partner plain;
  now = λ plain. now_on old.queue mid.queue new.queue first.queue_place (first.partner plain) (first.now plain)
      (next.now (ap (λ (reached : Lenders). reached.link_shared) first.reached ∙ plain));
  closed = omega (arith, first.closed, next.closed);
  values = λ e. later_on old.shared (old.client.values e) (mid.client.values e) (new.client.values e) (first.values e)
      (subst (λ (shared : Bool). Later shared (mid.client.values e) (new.client.values e)) first.shared (next.values e));
  session = omega (arith, first.session, next.session);
  opens = opens_on old.queue mid.queue new.queue first.session next.session first.opens next.opens;
  taken = begins_on old.queue.taken mid.queue.taken new.queue.taken first.taken next.taken;
  put = puts_on old.queue.sent mid.queue.sent new.queue.sent first.put next.put;
  own = side_on (side_of old.own) (side_of mid.own) (side_of new.own) first.own next.own;
  client = side_on (side_of old.client) (side_of mid.client) (side_of new.client) first.client next.client;
  copies = copies_on mid.own new.own mid.client new.client next.own next.client old.copies mid.copies new.copies first.copies next.copies;
  own_in_use = omega (arith, first.own_in_use, next.own_in_use);
  client_in_use = omega (arith, first.client_in_use, next.client_in_use);
  owner = λ alone. owner_on (side_of old.client) (side_of mid.client) (side_of new.client) first.client.unit (first.owner alone) (next.owner (first.shared ∙ alone));
  named = λ alone is. next.named (first.shared ∙ alone) (first.named alone is);
  own_named = λ is. next.own_named (first.own_named is);
}
