-- What a step leaves of what became of the requests to log in.
use Rattle.std.proofs.Common.{◌≡◌, ◌⊎◌, inl, inr, ◌++◌, ◌∙◌, ℕ, suc, zero, Bool, true, false, List, [], ◌∷◌, Option, Some, None, drop, filter, length, slice_get, slice_index, refl, sym, ap, subst, append_assoc}
use Rattle.std.proofs.lemmas.List.Elements.{Contains-append_left, filter-append}
use Rattle.crq_ring.specs.Sessions.{of_session}
use Rattle.crq_ring.specs.declared.rows.PipeRow.{PipeRow}
use Rattle.crq_ring.proofs.SessionLaws.{of_session-nil, of_session-push}
use Rattle.srp_iu.specs.Grammar.{Spells}
use Rattle.srp_iu.specs.declared.login.LoginReq.{LoginReq}
use Rattle.srp_iu.specs.declared.unit.Iu.{Iu}
use Rattle.srp_iu.specs.declared.unit.Iu.TheVariants as units
use Rattle.vio_num.specs.Entry.{is_srp_entry, iu_address, iu_length}
use Rattle.vio_num.specs.Words.{Begins}
use Rattle.vio_num.specs.declared.entry.Entry.{Entry}
use Rattle.block_server.specs.Asked.{AskedAt}
use Rattle.block_server.specs.Causes.{Hearing, units_at}
use Rattle.block_server.specs.Causes.News.{fetched}
use Rattle.block_server.specs.Closings.{is_event}
use Rattle.block_server.specs.Dealt.{AreDealt, AsksNoLogin, IsDealt, IsLoginAnswered, IsLoginSettled, IsPutOrLost, IsStillPending, IsStillWaiting, SendsSoFar, TookNoEventFrom}
use Rattle.block_server.specs.Granting.{IsGrantedOver, IsRejectedOver, IsSrpAt}
use Rattle.block_server.specs.Decided.{Decides, DecidesOrder, StaysOn}
use Rattle.block_server.specs.Judged.{Asks, IsIgnored, is_login}
use Rattle.block_server.specs.declared.request.Arrival.{Arrival}
use Rattle.block_server.specs.declared.intake.Verdict.{Verdict}
use Rattle.block_server.specs.declared.intake.Verdict.TheVariants.{Accepted, Ignored}
use Rattle.block_server.specs.declared.logins.Logins.{Logins}
use Rattle.block_server.specs.declared.request.Order.{Order}
use Rattle.block_server.specs.declared.request.Order.TheVariants as orders
use Rattle.block_server.specs.declared.request.Request.{Request}
use Rattle.block_server.proofs.LoginPuts.{granted_more, rejected_more}

apart : (b : Bool) → b ≡ true → b ≡ false → ⊥
apart b is other = cc (is, other)

-- Nothing of it changed.
pub deal_same : (Hears : Hearing) (sends : SendsSoFar) (session session' : ℕ) (taken taken' : List PipeRow) (waiting waiting' : Option Arrival) (pending pending' : List Request) (ended ended' : Bool)
    → session' ≡ session → taken' ≡ taken → waiting' ≡ waiting → pending' ≡ pending → ended' ≡ ended → AreDealt Hears session taken waiting pending ended sends
    → AreDealt Hears session' taken' waiting' pending' ended' sends
deal_same Hears sends session session' taken taken' waiting waiting' pending pending' ended ended' s t w p e =
    subst (λ (z : ℕ × List PipeRow × Option Arrival × List Request × Bool). AreDealt Hears z.0 z.1 z.2 z.3 z.4 sends) (λ i. (sym s i, sym t i, sym w i, sym p i, sym e i))

-- Nothing more is taken in the session.
pub deal_over : (Hears : Hearing) (sends : SendsSoFar) (session : ℕ) (taken : List PipeRow) (waiting waiting' : Option Arrival) (pending pending' : List Request) (ended ended' : Bool) → ended' ≡ true
    → AreDealt Hears session taken waiting pending ended sends → AreDealt Hears session taken waiting' pending' ended' sends
deal_over Hears sends session taken waiting waiting' pending pending' ended ended' over is = λ going. absurd (apart ended' over going)

-- An event was taken behind each SRP entry of the session.
abbrev pub AreBeforeEvent : (session : ℕ) → List PipeRow → Type 0
AreBeforeEvent session taken = (number : ℕ) (entry : Entry) → IsSrpAt taken session number entry → TookNoEventFrom session number taken → ⊥

pub deal_lost : (Hears : Hearing) (sends : SendsSoFar) (session : ℕ) (taken : List PipeRow) (waiting waiting' : Option Arrival) (pending pending' : List Request) (ended ended' : Bool)
    → AreBeforeEvent session taken → AreDealt Hears session taken waiting pending ended sends → AreDealt Hears session taken waiting' pending' ended' sends
deal_lost Hears sends session taken waiting waiting' pending pending' ended ended' lost is = λ going number entry at none. absurd (lost number entry at none)

-- More answers were put.
pub put_later : (sends : SendsSoFar) (more : List AskedAt) (session number : ℕ) → IsPutOrLost sends session number → IsPutOrLost (record sends { put = sends.put ++ more }) session number
put_later sends more session number (inl put) = inl (Contains-append_left sends.put more (record { session = session; number = number }) put)
put_later sends more session number (inr lost) = inr lost

pub deal_put : (Hears : Hearing) (sends : SendsSoFar) (more : List AskedAt) (session : ℕ) (taken : List PipeRow) (waiting : Option Arrival) (pending : List Request) (ended : Bool)
    → AreDealt Hears session taken waiting pending ended sends → AreDealt Hears session taken waiting pending ended (record sends { put = sends.put ++ more })
deal_put Hears sends more session taken waiting pending ended is = λ going number entry at none. by number entry (is going number entry at none)
  where
    by : (number : ℕ) (entry : Entry) → IsDealt Hears session taken waiting pending sends number entry
        → IsDealt Hears session taken waiting pending (record sends { put = sends.put ++ more }) number entry
    by number entry (inl w) = inl w
    by number entry (inr (inl p)) = inr (inl p)
    by number entry (inr (inr (inl none))) = inr (inr (inl none))
    by number entry (inr (inr (inr is))) = inr (inr (inr (record { answered = is.answered; put = put_later sends more session number is.put })))

-- A session begins.
no_entry : (session : ℕ) (taken : List PipeRow) (number : ℕ) (entry : Entry) → of_session session taken ≡ [] → IsSrpAt taken session number entry → ⊥
no_entry session taken number entry none at = nothing (subst (λ (xs : List Entry). slice_get xs number ≡ Some entry) none at.there)
  where
    nothing : slice_get [] number ≡ Some entry → ⊥
    nothing same = by number same
      where
        by : (n : ℕ) → slice_get [] n ≡ Some entry → ⊥
        by zero same = cc (same)
        by (suc n) same = cc (same)

pub deal_begun : (Hears : Hearing) (sends : SendsSoFar) (session : ℕ) (taken : List PipeRow) (waiting : Option Arrival) (pending : List Request) (ended : Bool)
    → (ended ≡ true) ⊎ (of_session session taken ≡ []) → AreDealt Hears session taken waiting pending ended sends
deal_begun Hears sends session taken waiting pending ended (inl over) = λ going. absurd (apart ended over going)
deal_begun Hears sends session taken waiting pending ended (inr none) = λ going number entry at quiet. absurd (no_entry session taken number entry none at)

-- ONE ENTRY MORE ---------------------------------------------------------------------------------

-- an entry of a list to which one more was added
last_or : (xs : List Entry) (x : Entry) (n : ℕ) (e : Entry) → slice_get (xs ++ x ∷ []) n ≡ Some e → (slice_get xs n ≡ Some e) ⊎ ((n ≡ length xs) × (x ≡ e))
last_or [] x zero e is = inr (refl, some_is is)
  where
    some_is : Some x ≡ Some e → x ≡ e
    some_is same = cc (same)
last_or [] x (suc n) e is = absurd (nothing n is)
  where
    nothing : (n : ℕ) → slice_get [] n ≡ Some e → ⊥
    nothing zero same = cc (same)
    nothing (suc n) same = cc (same)
last_or (y ∷ ys) x zero e is = inl is
last_or (y ∷ ys) x (suc n) e is = on (last_or ys x n e is)
  where
    on : (slice_get ys n ≡ Some e) ⊎ ((n ≡ length ys) × (x ≡ e)) → (slice_get (y ∷ ys) (suc n) ≡ Some e) ⊎ ((suc n ≡ length (y ∷ ys)) × (x ≡ e))
    on (inl there) = inl there
    on (inr last) = inr (ap suc last.0, last.1)

-- no event stands behind an entry, where none stands behind it in a longer list
quiet_front : (xs : List Entry) (x : Entry) (n : ℕ) → filter is_event (drop n (xs ++ x ∷ [])) ≡ [] → filter is_event (drop n xs) ≡ []
quiet_front [] x zero none = refl
quiet_front [] x (suc n) none = refl
quiet_front (y ∷ ys) x zero none = front (filter is_event (y ∷ ys)) (filter is_event (x ∷ [])) (sym (filter-append is_event (y ∷ ys) (x ∷ [])) ∙ none)
  where
    front : (es more : List Entry) → es ++ more ≡ [] → es ≡ []
    front [] more same = refl
    front (e ∷ es) more same = absurd (cc (same))
quiet_front (y ∷ ys) x (suc n) none = quiet_front ys x n none

-- an event at the end stands behind each
event_last : (xs : List Entry) (x : Entry) (n : ℕ) (e : Entry) → is_event x ≡ true → slice_get (xs ++ x ∷ []) n ≡ Some e → filter is_event (drop n (xs ++ x ∷ [])) ≡ [] → ⊥
event_last xs x zero e event there none = some (filter is_event xs) x (sym (filter-append is_event xs (x ∷ []) ∙ ap (λ list. filter is_event xs ++ list) (one event)) ∙ none)
  where
    one : is_event x ≡ true → filter is_event (x ∷ []) ≡ x ∷ []
    one is = rw is refl

    some : (es : List Entry) (last : Entry) → es ++ last ∷ [] ≡ [] → ⊥
    some [] last same = cc (same)
    some (y ∷ ys) last same = cc (same)
event_last [] x (suc n) e event there none = nothing n there
  where
    nothing : (n : ℕ) → slice_get [] n ≡ Some e → ⊥
    nothing zero same = cc (same)
    nothing (suc n) same = cc (same)
event_last (y ∷ ys) x (suc n) e event there none = event_last ys x n e event there none

module _ (Hears : Hearing) (session : ℕ) (taken taken' : List PipeRow) (row : PipeRow) (own : row.session ≡ session) (more : taken' ≡ taken ++ row ∷ []) where
  grown : of_session session taken' ≡ of_session session taken ++ row.entry ∷ []
  grown = subst (λ (q : ℕ). of_session q taken' ≡ of_session q taken ++ row.entry ∷ []) own (ap (of_session row.session) more ∙ of_session-push row taken)

  begins : Begins taken taken'
  begins = (row ∷ [], more)

  quiet_before : (number : ℕ) → TookNoEventFrom session number taken' → TookNoEventFrom session number taken
  quiet_before number none = quiet_front (of_session session taken) row.entry number (sym (ap (λ (xs : List Entry). filter is_event (drop number xs)) grown) ∙ none)

  -- an event is one
  pub heard_event : is_event row.entry ≡ true → AreBeforeEvent session taken'
  heard_event event number entry at none = event_last (of_session session taken) row.entry number entry event
      (subst (λ (xs : List Entry). slice_get xs number ≡ Some entry) grown at.there) (sym (ap (λ (xs : List Entry). filter is_event (drop number xs)) grown) ∙ none)

  answered_later : (number : ℕ) → IsLoginAnswered Hears taken session number → IsLoginAnswered Hears taken' session number
  answered_later number (inl granted) = inl (granted.0, granted_more Hears taken taken' session number granted.0 begins granted.1)
  answered_later number (inr rejected) = inr (rejected_more Hears taken taken' session number begins rejected)

module _ (Hears : Hearing) (sends : SendsSoFar) (session : ℕ) (taken taken' : List PipeRow) (row : PipeRow) (own : row.session ≡ session) (more : taken' ≡ taken ++ row ∷ []) where
  dealt_later : (waiting waiting' : Option Arrival) (pending : List Request) (number : ℕ) (entry : Entry) → (IsStillWaiting waiting number → IsStillWaiting waiting' number)
      → IsDealt Hears session taken waiting pending sends number entry → IsDealt Hears session taken' waiting' pending sends number entry
  dealt_later waiting waiting' pending number entry waits (inl is) = inl (waits is)
  dealt_later waiting waiting' pending number entry waits (inr (inl is)) = inr (inl is)
  dealt_later waiting waiting' pending number entry waits (inr (inr (inl is))) = inr (inr (inl is))
  dealt_later waiting waiting' pending number entry waits (inr (inr (inr is))) = inr (inr (inr (record { answered = answered_later Hears session taken taken' row own more number is.answered; put = is.put })))

  -- where an entry stands, and what became of it before
  entry_was : (number : ℕ) (entry : Entry) → IsSrpAt taken' session number entry → (slice_get (of_session session taken) number ≡ Some entry) ⊎ ((number ≡ length (of_session session taken)) × (row.entry ≡ entry))
  entry_was number entry at = last_or (of_session session taken) row.entry number entry (subst (λ (xs : List Entry). slice_get xs number ≡ Some entry) (grown Hears session taken taken' row own more) at.there)

  -- It is no SRP entry, or it is an event.
  pub deal_taken : (waiting : Option Arrival) (pending : List Request) (ended ended' : Bool) → ended' ≡ ended → (is_event row.entry ≡ true) ⊎ (is_srp_entry row.entry ≡ false)
      → AreDealt Hears session taken waiting pending ended sends → AreDealt Hears session taken' waiting pending ended' sends
  deal_taken waiting pending ended ended' same (inl event) is = λ going number entry at none. absurd (heard_event Hears session taken taken' row own more event number entry at none)
  deal_taken waiting pending ended ended' same (inr other) is = λ going number entry at none.
      by number entry at (entry_was number entry at) (λ was. is (sym same ∙ going) number entry was (quiet_before Hears session taken taken' row own more number none))
    where
      by : (number : ℕ) (entry : Entry) → IsSrpAt taken' session number entry → (slice_get (of_session session taken) number ≡ Some entry) ⊎ ((number ≡ length (of_session session taken)) × (row.entry ≡ entry))
          → (IsSrpAt taken session number entry → IsDealt Hears session taken waiting pending sends number entry) → IsDealt Hears session taken' waiting pending sends number entry
      by number entry at (inl there) old = dealt_later waiting waiting pending number entry (λ w. w) (old (record { there = there; srp = at.srp }))
      by number entry at (inr last) old = absurd (apart (is_srp_entry entry) at.srp (sym (ap is_srp_entry last.1) ∙ other))

  -- It waits.
  pub deal_entry : (arrival : Arrival) (pending : List Request) (ended ended' : Bool) → ended' ≡ ended → arrival.number ≡ length (of_session session taken)
      → AreDealt Hears session taken None pending ended sends → AreDealt Hears session taken' (Some arrival) pending ended' sends
  deal_entry arrival pending ended ended' same number_is is = λ going number entry at none.
      by number entry at (entry_was number entry at) (λ was. is (sym same ∙ going) number entry was (quiet_before Hears session taken taken' row own more number none))
    where
      by : (number : ℕ) (entry : Entry) → IsSrpAt taken' session number entry → (slice_get (of_session session taken) number ≡ Some entry) ⊎ ((number ≡ length (of_session session taken)) × (row.entry ≡ entry))
          → (IsSrpAt taken session number entry → IsDealt Hears session taken None pending sends number entry) → IsDealt Hears session taken' (Some arrival) pending sends number entry
      by number entry at (inl there) old = dealt_later None (Some arrival) pending number entry (λ w. absurd (none_some w.arrival w.waits)) (old (record { there = there; srp = at.srp }))
        where
          none_some : (a : Arrival) → None ≡ Some a → ⊥
          none_some a same = cc (same)
      by number entry at (inr last) old = inl (record { arrival = arrival; waits = refl; number_is = number_is ∙ sym last.0 })

-- REQUESTS COME AND GO ---------------------------------------------------------------------------

-- the one entry at a place
one_at : (taken : List PipeRow) (session number : ℕ) (a b : Entry) → IsSrpAt taken session number a → IsSrpAt taken session number b → a ≡ b
one_at taken session number a b first other = some_is (sym first.there ∙ other.there)
  where
    some_is : Some a ≡ Some b → a ≡ b
    some_is same = cc (same)

module _ (Hears : Hearing) (sends : SendsSoFar) (session : ℕ) (taken : List PipeRow) (pending : List Request) (ended ended' : Bool) (same : ended' ≡ ended) where
  -- What waited asks for no login, or is pending now.
  module _ (arrival : Arrival) (at_place : IsSrpAt taken session arrival.number arrival.entry) where
    waited : (number : ℕ) → IsStillWaiting (Some arrival) number → arrival.number ≡ number
    waited number w = ap (λ (a : Arrival). a.number) (some_is w.waits) ∙ w.number_is
      where
        some_is : {a : Arrival} → Some arrival ≡ Some a → arrival ≡ a
        some_is e = cc (e)

    asks_none : (number : ℕ) (entry : Entry) → IsSrpAt taken session number entry → arrival.number ≡ number → AsksNoLogin Hears arrival.entry → AsksNoLogin Hears entry
    asks_none number entry at place = subst (AsksNoLogin Hears) (one_at taken session number arrival.entry entry (subst (λ (n : ℕ). IsSrpAt taken session n arrival.entry) place at_place) at)

    pub deal_ignored : AsksNoLogin Hears arrival.entry → AreDealt Hears session taken (Some arrival) pending ended sends → AreDealt Hears session taken None pending ended' sends
    deal_ignored none is = λ going number entry at quiet. by number entry at (is (sym same ∙ going) number entry at quiet)
      where
        by : (number : ℕ) (entry : Entry) → IsSrpAt taken session number entry → IsDealt Hears session taken (Some arrival) pending sends number entry → IsDealt Hears session taken None pending sends number entry
        by number entry at (inl w) = inr (inr (inl (asks_none number entry at (waited number w) none)))
        by number entry at (inr rest) = inr rest

    pub deal_pushed : (request : Request) → request.number ≡ arrival.number → (is_login request.order ≡ true) ⊎ AsksNoLogin Hears arrival.entry
        → AreDealt Hears session taken (Some arrival) pending ended sends → AreDealt Hears session taken None (pending ++ request ∷ []) ended' sends
    deal_pushed request number_is how is = λ going number entry at quiet. by number entry at how (is (sym same ∙ going) number entry at quiet)
      where
        by : (number : ℕ) (entry : Entry) → IsSrpAt taken session number entry → (is_login request.order ≡ true) ⊎ AsksNoLogin Hears arrival.entry
            → IsDealt Hears session taken (Some arrival) pending sends number entry → IsDealt Hears session taken None (pending ++ request ∷ []) sends number entry
        by number entry at (inl asks) (inl w) =
            inr (inl (record { before = pending; request = request; after = []; parts = refl; number_is = number_is ∙ waited number w; asks = asks }))
        by number entry at (inr none) (inl w) = inr (inr (inl (asks_none number entry at (waited number w) none)))
        by number entry at how (inr (inl p)) = inr (inl (record {
          before = p.before;
          request = p.request;
          after = p.after ++ request ∷ [];
          parts = ap (λ list. list ++ request ∷ []) p.parts ∙ append_assoc p.before (p.request ∷ p.after) (request ∷ []);
          number_is = p.number_is;
          asks = p.asks;
        }))
        by number entry at how (inr (inr rest)) = inr (inr rest)

  -- The oldest request asks for no login, or was answered.
  pub deal_popped : (waiting : Option Arrival) → ((front : Request) (rest : List Request) → pending ≡ front ∷ rest → (is_login front.order ≡ false) ⊎ IsLoginSettled Hears taken sends session front.number)
      → AreDealt Hears session taken waiting pending ended sends → AreDealt Hears session taken waiting (drop 1 pending) ended' sends
  deal_popped waiting gone is = λ going number entry at quiet. by number entry (is (sym same ∙ going) number entry at quiet)
    where
      answered : (p : Request) (number : ℕ) (entry : Entry) → p.number ≡ number → is_login p.order ≡ true → (is_login p.order ≡ false) ⊎ IsLoginSettled Hears taken sends session p.number
          → IsDealt Hears session taken waiting (drop 1 pending) sends number entry
      answered p number entry place asks (inl other) = absurd (apart (is_login p.order) asks other)
      answered p number entry place asks (inr is) = inr (inr (inr (subst (IsLoginSettled Hears taken sends session) place is)))

      among : (number : ℕ) (entry : Entry) (request : Request) (before after : List Request) → pending ≡ before ++ request ∷ after → request.number ≡ number → is_login request.order ≡ true
          → IsDealt Hears session taken waiting (drop 1 pending) sends number entry
      among number entry request [] after parts place asks = answered request number entry place asks (gone request after parts)
      among number entry request (first ∷ before) after parts place asks =
          inr (inl (record { before = before; request = request; after = after; parts = ap (drop 1) parts; number_is = place; asks = asks }))

      by : (number : ℕ) (entry : Entry) → IsDealt Hears session taken waiting pending sends number entry → IsDealt Hears session taken waiting (drop 1 pending) sends number entry
      by number entry (inl w) = inl w
      by number entry (inr (inl p)) = among number entry p.request p.before p.after p.parts p.number_is p.asks
      by number entry (inr (inr rest)) = inr (inr rest)

-- Nothing was taken from a queue that is new.
pub deal_none : (Hears : Hearing) (sends : SendsSoFar) (session : ℕ) (taken : List PipeRow) (waiting : Option Arrival) (pending : List Request) (ended : Bool) → taken ≡ [] → AreDealt Hears session taken waiting pending ended sends
deal_none Hears sends session taken waiting pending ended none = deal_begun Hears sends session taken waiting pending ended (inr (ap (of_session session) none ∙ of_session-nil session))

-- WHAT WAS JUDGED --------------------------------------------------------------------------------

-- bytes of another type ask for no login
other_type : (bytes : List ℕ) (n : ℕ) → slice_index bytes 0 ≡ suc n → (asked : LoginReq) → Spells bytes (units.LoginReq asked) → ⊥
other_type bytes n type asked is = differ (slice_index bytes 0) type is.unit.kind
  where
    differ : (x : ℕ) → x ≡ suc n → x ≡ 0x00 → ⊥
    differ x one none = cc (one, none)

asks_other : (bytes : List ℕ) → Asks bytes → (asked : LoginReq) → Spells bytes (units.LoginReq asked) → ⊥
asks_other bytes asks asked is = by asks.type_is
  where
    by : (slice_index bytes 0 ≡ 0x01) ⊎ (slice_index bytes 0 ≡ 0x02) → ⊥
    by (inl type) = other_type bytes 0 type asked is
    by (inr type) = other_type bytes 1 type asked is

ignored_other : (bytes : List ℕ) (iu : Iu) → Spells bytes iu → IsIgnored iu → (asked : LoginReq) → Spells bytes (units.LoginReq asked) → ⊥
ignored_other bytes (units.LoginReq r) is none asked login = none
ignored_other bytes (units.TskMgmt t) is none asked login = none
ignored_other bytes (units.Cmd c) is none asked login = none
ignored_other bytes (units.ILogout tag) is none asked login = none
ignored_other bytes (units.CredRsp tag) is none asked login = other_type bytes 0x40 is.unit.kind asked login
ignored_other bytes (units.TLogout reason tag) is none asked login = other_type bytes 0x7F is.unit.kind asked login
ignored_other bytes (units.CredReq delta tag) is none asked login = other_type bytes 0x80 is.unit.kind asked login
ignored_other bytes (units.LoginRsp r) is none asked login = other_type bytes 0xBF is.unit.kind asked login
ignored_other bytes (units.Rsp r) is none asked login = other_type bytes 0xC0 is.unit.kind asked login
ignored_other bytes (units.LoginRej r) is none asked login = other_type bytes 0xC1 is.unit.kind asked login

-- An information unit was ignored.
pub ignored_none : (Hears : Hearing) (old new : Logins) (bytes : List ℕ) (verdict : Verdict) (entry : Entry) → verdict ≡ Ignored → Decides old new bytes verdict → length bytes ≡ iu_length entry
    → Hears (fetched (iu_address entry) units_at bytes) → AsksNoLogin Hears entry
ignored_none Hears old new bytes verdict entry is decides long brought =
    let why : StaysOn old new × ((iu : Iu) × (Spells bytes iu × IsIgnored iu)) = subst (Decides old new bytes) is decides in
    record { bytes = bytes; long = long; brought = brought; none = ignored_other bytes why.1.0 why.1.1.0 why.1.1.1 }

-- One was accepted: it asks for a login, or for none.
pub accepted_how : (Hears : Hearing) (old new : Logins) (bytes : List ℕ) (verdict : Verdict) (login tag : ℕ) (order : Order) (entry : Entry) → verdict ≡ Accepted login tag order
    → Decides old new bytes verdict → length bytes ≡ iu_length entry → Hears (fetched (iu_address entry) units_at bytes) → (is_login order ≡ true) ⊎ AsksNoLogin Hears entry
accepted_how Hears old new bytes verdict login tag order entry is decides long brought = by order (subst (Decides old new bytes) is decides)
  where
    other : ((asked : LoginReq) → Spells bytes (units.LoginReq asked) → ⊥) → AsksNoLogin Hears entry
    other none = record { bytes = bytes; long = long; brought = brought; none = none }

    by : (order : Order) → DecidesOrder old new login bytes order → (is_login order ≡ true) ⊎ AsksNoLogin Hears entry
    by (orders.Login request) why = inl refl
    by orders.Logout why = inr (other (other_type bytes 0x02 why.spelled.unit.kind))
    by (orders.Task task) why = inr (other (asks_other bytes why.asks))
    by (orders.Command command) why = inr (other (asks_other bytes why.asks))
    by orders.Unreadable why = inr (other (asks_other bytes why.asks))
