-- What is accepted of an information unit that may be asked.
use Rattle.std.proofs.Common.{◌≡◌, ◌≢◌, ◌⊎◌, inl, inr, ◌+◌, ◌++◌, ◌<◌, ◌≤◌, ℕ, Bool, true, false, List, [], ◌∷◌, Some, None, Result, Ok, Err, IfOk, length, slice_get, slice_index, refl, sym, ◌∙◌, ap, subst, arith}
use Rattle.srp_iu.specs.Grammar.{Spells}
use Rattle.srp_iu.specs.Layout.{field}
use Rattle.srp_iu.specs.declared.unit.Iu.{Iu}
use Rattle.srp_iu.specs.declared.unit.Iu.TheVariants as units
use Rattle.vio_num.specs.declared.history.Grant.{Grant}
use Rattle.vio_num.specs.declared.memory.NoMemory.{NoMemory}
use Rattle.vio_num.specs.declared.history.Lapse.{Lapse}
use Rattle.vio_num.specs.declared.history.Lapse.TheVariants as lapses
use Rattle.block_server.specs.Decided.{Decides, IsCause, StaysOn, TakesUnder}
use Rattle.block_server.specs.Fates.{Asks, IsIgnored}
use Rattle.block_server.specs.Talk.{AcceptsRequest, IsAccepted, MayAsk, Talk, IsAskedUnder, order_asked, outstanding_behind, tag_asked, takes_behind, talk_of}
use Rattle.block_server.specs.Verdicts.{IsTagged}
use Rattle.block_server.specs.declared.intake.Verdict.{Verdict}
use Rattle.block_server.specs.declared.intake.Verdict.TheVariants as verdicts
use Rattle.block_server.specs.declared.logins.Logins.{Logins}
use Rattle.block_server.specs.declared.request.Order.{Order}
use Rattle.block_server.specs.declared.request.Order.TheVariants as orders
use Rattle.block_server.specs.declared.request.Request.{Request}
use Rattle.block_server.specs.declared.unit.Unit.{Unit}
use Rattle.crq_session.specs.declared.handshake.Handshake.{Handshake}
use Rattle.crq_session.specs.declared.handshake.Handshake.TheVariants.{Up}
use Rattle.tce_window.specs.Pieces.{IsOfEntry, IsRefused, IsUsable, Lacks, MayUse}
use Rattle.tce_window.specs.Grant.{IsCurrent, grants}
use Rattle.tce_window.specs.Port.{Later}
use Rattle.tce_window.specs.declared.answers.HoldFault.{HoldFault}
use Rattle.tce_window.specs.declared.answers.HoldFault.TheVariants.{InUse, NotGranted, Past}
use Rattle.tce_window.specs.declared.answers.Right.{Right}
use Rattle.block_server.specs.Causes.{Denies}
use Rattle.block_server.specs.SiteState.{IsDeniedBetween, SiteState}
use Rattle.block_server.specs.Talk.{IsReadWhole, IsReceivedAs, Reach, StandAt, StaysKnown}
use Rattle.block_server.specs.Waits.{MeetsUse}
use Rattle.block_server.specs.declared.intake.Next.{Next}
use Rattle.block_server.specs.declared.intake.Next.TheVariants.{Entry as NextEntry}
use Rattle.block_server.proofs.Reading.{reads_known}

-- that bytes spell one unit at most
abbrev pub SpellOne : Type 0
SpellOne = (bytes : List ℕ) (a b : Iu) → Spells bytes a → Spells bytes b → a ≡ b

-- what a server ignores may not be asked
ignored_no : (talk : Talk) (iu : Iu) → IsIgnored iu → MayAsk talk iu → ⊥
ignored_no talk (units.LoginReq r) is may = is
ignored_no talk (units.TskMgmt t) is may = is
ignored_no talk (units.Cmd c) is may = is
ignored_no talk (units.ILogout tag) is may = is
ignored_no talk (units.CredRsp tag) is may = may
ignored_no talk (units.TLogout reason tag) is may = may
ignored_no talk (units.CredReq delta tag) is may = may
ignored_no talk (units.LoginRsp r) is may = may
ignored_no talk (units.Rsp r) is may = may
ignored_no talk (units.LoginRej r) is may = may

pub not_ignored : SpellOne → (talk : Talk) (old new : Logins) (bytes : List ℕ) (iu : Iu) (verdict : Verdict) → verdict ≡ verdicts.Ignored → Decides old new bytes verdict
    → Spells bytes iu → MayAsk talk iu → ⊥
not_ignored one talk old new bytes iu verdict is decides spelled may =
    let why : StaysOn old new × ((other : Iu) × (Spells bytes other × IsIgnored other)) = subst (Decides old new bytes) is decides in
    ignored_no talk iu (subst IsIgnored (one bytes why.1.0 iu why.1.1.0 spelled) why.1.1.1) may

-- bytes of a login or of a logout have not the type of a task or a command
type_is : (bytes : List ℕ) (n m : ℕ) → slice_index bytes 0 ≡ n → slice_index bytes 0 ≡ m → n ≡ m
type_is bytes n m a b = sym a ∙ b

asks_not : (bytes : List ℕ) (n : ℕ) → slice_index bytes 0 ≡ n → Asks bytes → (n ≡ 0x01) ⊎ (n ≡ 0x02)
asks_not bytes n is asks = by asks.type_is
  where
    by : (slice_index bytes 0 ≡ 0x01) ⊎ (slice_index bytes 0 ≡ 0x02) → (n ≡ 0x01) ⊎ (n ≡ 0x02)
    by (inl one) = inl (type_is bytes n 0x01 is one)
    by (inr two) = inr (type_is bytes n 0x02 is two)

login_not : (bytes : List ℕ) → slice_index bytes 0 ≡ 0x00 → Asks bytes → ⊥
login_not bytes is asks = apart 0x00 refl (asks_not bytes 0x00 is asks)
  where
    apart : (n : ℕ) → n ≡ 0x00 → (n ≡ 0x01) ⊎ (n ≡ 0x02) → ⊥
    apart n at (inl one) = cc (at, one)
    apart n at (inr two) = cc (at, two)

logout_not : (bytes : List ℕ) → slice_index bytes 0 ≡ 0x03 → Asks bytes → ⊥
logout_not bytes is asks = apart 0x03 refl (asks_not bytes 0x03 is asks)
  where
    apart : (n : ℕ) → n ≡ 0x03 → (n ≡ 0x01) ⊎ (n ≡ 0x02) → ⊥
    apart n at (inl one) = cc (at, one)
    apart n at (inr two) = cc (at, two)

-- what a unit goes by of its logins
pub record TalkOf (talk : Talk) (logins : Logins) : Type 0 where
  pub current : talk.current ≡ logins.current
  pub taking : talk.taking ≡ logins.taking
  pub outstanding : talk.outstanding ≡ logins.target.outstanding
  pub granted : talk.granted ≡ logins.granted

full_not : (outstanding granted : ℕ) → outstanding < granted → granted ≡ outstanding → ⊥
full_not outstanding granted less full = omega (arith, less, full)

-- what may be asked ends no session
pub not_fatal : SpellOne → (talk : Talk) (old new : Logins) (bytes : List ℕ) (iu : Iu) (verdict : Verdict) (cause : Lapse) (outstanding granted : ℕ)
    → TalkOf talk old → verdict ≡ verdicts.Fatal cause outstanding granted → Decides old new bytes verdict → Spells bytes iu → MayAsk talk iu → ⊥
not_fatal one talk old new bytes iu verdict cause outstanding granted of is decides spelled may =
    let why : StaysOn old new × IsCause old bytes cause outstanding granted = subst (Decides old new bytes) is decides in
    by cause iu spelled may why.1
  where
    off : talk.taking ≡ true → old.taking ≡ false → ⊥
    off on none = cc (on, none, of.taking)

    by : (cause : Lapse) (iu : Iu) → Spells bytes iu → MayAsk talk iu → IsCause old bytes cause outstanding granted → ⊥
    by lapses.BadIu iu spelled may why = why.0 iu spelled
    by lapses.NotLogin (units.LoginReq r) spelled may why = no why.1
      where
        no : ((tag : ℕ) × Spells bytes (units.ILogout tag)) ⊎ Asks bytes → ⊥
        no (inl out) = cc (one bytes (units.ILogout out.0) (units.LoginReq r) out.1 spelled)
        no (inr asks) = login_not bytes spelled.unit.kind asks
    by lapses.NotLogin (units.ILogout tag) spelled may why = off may why.0
    by lapses.NotLogin (units.TskMgmt t) spelled may why = off may.0 why.0
    by lapses.NotLogin (units.Cmd c) spelled may why = off may.0 why.0
    by lapses.NotLogin (units.CredRsp tag) spelled may why = may
    by lapses.NotLogin (units.TLogout reason tag) spelled may why = may
    by lapses.NotLogin (units.CredReq delta tag) spelled may why = may
    by lapses.NotLogin (units.LoginRsp r) spelled may why = may
    by lapses.NotLogin (units.Rsp r) spelled may why = may
    by lapses.NotLogin (units.LoginRej r) spelled may why = may
    by lapses.OverLimit (units.LoginReq r) spelled may why = login_not bytes spelled.unit.kind why.0
    by lapses.OverLimit (units.ILogout tag) spelled may why = logout_not bytes spelled.unit.kind why.0
    by lapses.OverLimit (units.TskMgmt t) spelled may why = full_not talk.outstanding talk.granted may.1 (of.granted ∙ sym why.1.granted_is ∙ why.1.full ∙ sym of.outstanding)
    by lapses.OverLimit (units.Cmd c) spelled may why = full_not talk.outstanding talk.granted may.1 (of.granted ∙ sym why.1.granted_is ∙ why.1.full ∙ sym of.outstanding)
    by lapses.OverLimit (units.CredRsp tag) spelled may why = may
    by lapses.OverLimit (units.TLogout reason tag) spelled may why = may
    by lapses.OverLimit (units.CredReq delta tag) spelled may why = may
    by lapses.OverLimit (units.LoginRsp r) spelled may why = may
    by lapses.OverLimit (units.Rsp r) spelled may why = may
    by lapses.OverLimit (units.LoginRej r) spelled may why = may
    by lapses.Early iu spelled may why = why
    by lapses.Refused iu spelled may why = why
    by lapses.Logout iu spelled may why = why
    by lapses.Lost iu spelled may why = why

-- THE REQUEST ------------------------------------------------------------------------------------

-- what was accepted, and what it leaves of the logins
record IsTaken (talk : Talk) (new : Logins) (iu : Iu) (login : ℕ) (order : Order) : Type 0 where
  pub under : IsAskedUnder talk.current iu login
  pub order_is : order ≡ order_asked iu
  pub current : new.current ≡ talk.current
  pub taking : new.taking ≡ takes_behind talk.taking iu
  pub outstanding : new.target.outstanding ≡ outstanding_behind talk.outstanding iu
  pub granted : new.granted ≡ talk.granted

taken_under : (talk : Talk) (old new : Logins) (bytes : List ℕ) (iu : Iu) (login : ℕ) (order : Order) → TalkOf talk old → order ≡ order_asked iu → IsAskedUnder talk.current iu login
    → takes_behind talk.taking iu ≡ talk.taking → outstanding_behind talk.outstanding iu ≡ talk.outstanding + 1 → TakesUnder old new login bytes → IsTaken talk new iu login order
taken_under talk old new bytes iu login order of same under taking more is = record {
  under = under;
  order_is = same;
  current = is.stays.current ∙ sym of.current;
  taking = is.stays.taking ∙ sym of.taking ∙ sym taking;
  outstanding = is.more ∙ ap (λ n. n + 1) (sym of.outstanding) ∙ sym more;
  granted = is.stays.granted ∙ sym of.granted;
}

-- what was accepted is what was asked
taken_as : SpellOne → (talk : Talk) (old new : Logins) (bytes : List ℕ) (iu : Iu) (login tag : ℕ) (order : Order) → TalkOf talk old → IsTagged (verdicts.Accepted login tag order) bytes
    → Decides old new bytes (verdicts.Accepted login tag order) → Spells bytes iu → IsTaken talk new iu login order
taken_as one talk old new bytes iu login tag (orders.Login request) of tagged decides spelled = at iu (one bytes (units.LoginReq request) iu decides.1 spelled)
  where
    at : (iu : Iu) → units.LoginReq request ≡ iu → IsTaken talk new iu login (orders.Login request)
    at iu same = subst (λ (asked : Iu). IsTaken talk new asked login (orders.Login request)) same (record {
      under = tt;
      order_is = refl;
      current = decides.0.current ∙ sym of.current;
      taking = decides.0.taking ∙ sym of.taking;
      outstanding = decides.0.outstanding ∙ sym of.outstanding;
      granted = decides.0.granted ∙ sym of.granted;
    })
taken_as one talk old new bytes iu login tag orders.Logout of tagged decides spelled =
    subst (λ (asked : Iu). IsTaken talk new asked login orders.Logout) (one bytes (units.ILogout decides.tag) iu decides.spelled spelled) (record {
      under = decides.login_is ∙ sym of.current;
      order_is = refl;
      current = decides.current ∙ sym of.current;
      taking = decides.off;
      outstanding = decides.outstanding ∙ sym of.outstanding;
      granted = decides.granted ∙ sym of.granted;
    })
taken_as one talk old new bytes iu login tag (orders.Task task) of tagged decides spelled =
    subst (λ (asked : Iu). IsTaken talk new asked login (orders.Task task)) (one bytes (units.TskMgmt task) iu tagged.order_is spelled)
    (taken_under talk old new bytes (units.TskMgmt task) login (orders.Task task) of refl (decides.login_is ∙ sym of.current) refl refl decides)
taken_as one talk old new bytes iu login tag (orders.Command command) of tagged decides spelled =
    subst (λ (asked : Iu). IsTaken talk new asked login (orders.Command command)) (one bytes (units.Cmd command) iu tagged.order_is spelled)
    (taken_under talk old new bytes (units.Cmd command) login (orders.Command command) of refl (decides.login_is ∙ sym of.current) refl refl decides)
taken_as one talk old new bytes iu login tag orders.Unreadable of tagged decides spelled = absurd (tagged.order_is iu spelled)

-- The request asks what its bytes spell.
asked_as : SpellOne → (old new : Logins) (bytes : List ℕ) (iu : Iu) (login tag : ℕ) (order : Order) → IsTagged (verdicts.Accepted login tag order) bytes
    → Decides old new bytes (verdicts.Accepted login tag order) → Spells bytes iu → (order ≡ order_asked iu) × (tag ≡ tag_asked iu)
asked_as one old new bytes iu login tag (orders.Login request) tagged decides spelled =
    subst (λ (asked : Iu). (orders.Login request ≡ order_asked asked) × (tag ≡ tag_asked asked)) (one bytes (units.LoginReq request) iu decides.1 spelled)
    (refl, tagged.tag_is ∙ sym decides.1.unit.tag)
asked_as one old new bytes iu login tag orders.Logout tagged decides spelled =
    subst (λ (asked : Iu). (orders.Logout ≡ order_asked asked) × (tag ≡ tag_asked asked)) (one bytes (units.ILogout decides.tag) iu decides.spelled spelled)
    (refl, tagged.tag_is ∙ sym decides.spelled.unit.tagged)
asked_as one old new bytes iu login tag (orders.Task task) tagged decides spelled =
    subst (λ (asked : Iu). (orders.Task task ≡ order_asked asked) × (tag ≡ tag_asked asked)) (one bytes (units.TskMgmt task) iu tagged.order_is spelled)
    (refl, tagged.tag_is ∙ sym tagged.order_is.unit.tag)
asked_as one old new bytes iu login tag (orders.Command command) tagged decides spelled =
    subst (λ (asked : Iu). (orders.Command command ≡ order_asked asked) × (tag ≡ tag_asked asked)) (one bytes (units.Cmd command) iu tagged.order_is spelled)
    (refl, tagged.tag_is ∙ sym tagged.order_is.unit.tag)
asked_as one old new bytes iu login tag orders.Unreadable tagged decides spelled = absurd (tagged.order_is iu spelled)

pub asked_by : SpellOne → (old new : Logins) (bytes : List ℕ) (verdict : Verdict) (login tag : ℕ) (order : Order) → verdict ≡ verdicts.Accepted login tag order → IsTagged verdict bytes
    → Decides old new bytes verdict → (iu : Iu) → Spells bytes iu → (order ≡ order_asked iu) × (tag ≡ tag_asked iu)
asked_by one old new bytes verdict login tag order is tagged decides iu spelled =
    asked_as one old new bytes iu login tag order (subst (λ (v : Verdict). IsTagged v bytes) is tagged) (subst (Decides old new bytes) is decides) spelled

-- its tag is that of the bytes
tag_spelled : (talk : Talk) (bytes : List ℕ) (iu : Iu) → Spells bytes iu → MayAsk talk iu → tag_asked iu ≡ field 8 8 bytes
tag_spelled talk bytes (units.LoginReq r) spelled may = spelled.unit.tag
tag_spelled talk bytes (units.ILogout tag) spelled may = spelled.unit.tagged
tag_spelled talk bytes (units.TskMgmt t) spelled may = spelled.unit.tag
tag_spelled talk bytes (units.Cmd c) spelled may = spelled.unit.tag
tag_spelled talk bytes (units.CredRsp tag) spelled may = absurd may
tag_spelled talk bytes (units.TLogout reason tag) spelled may = absurd may
tag_spelled talk bytes (units.CredReq delta tag) spelled may = absurd may
tag_spelled talk bytes (units.LoginRsp r) spelled may = absurd may
tag_spelled talk bytes (units.Rsp r) spelled may = absurd may
tag_spelled talk bytes (units.LoginRej r) spelled may = absurd may

-- A request was pushed behind those that are pending, by what was decided of its bytes.
pub accepts_pushed : SpellOne → (unit unit' : Unit) (request : Request) (lines : List Grant) (number address : ℕ) (bytes : List ℕ) (iu : Iu) (verdict : Verdict)
    → verdict ≡ verdicts.Accepted request.login request.tag request.order → IsTagged verdict bytes → Decides unit.logins unit'.logins bytes verdict → Spells bytes iu → MayAsk (talk_of unit) iu
    → request.number ≡ number → request.address ≡ address → request.unit.items ≡ bytes → unit'.pending.items ≡ unit.pending.items ++ request ∷ [] → unit'.line ≡ unit.line → unit'.service ≡ unit.service
    → IsAccepted unit unit' lines lines number address bytes iu
accepts_pushed one unit unit' request lines number address bytes iu verdict is tagged decides spelled may number_is address_is bytes_are pushed same service = record {
  accepts = record {
    request = request;
    is = record {
      number_is = number_is;
      address_is = address_is;
      under = taken.under;
      tag_is = judged.tag_is ∙ sym (tag_spelled (talk_of unit) bytes iu spelled may);
      bytes_are = bytes_are;
      order_is = taken.order_is;
    };
    pending = pushed;
    handshake = ap (λ line. line.handshake) same;
    current = taken.current;
    taking = taken.taking;
    outstanding = taken.outstanding;
    granted = taken.granted;
  };
  line = same;
  service = service;
  lines_are = refl;
}
  where
    judged : IsTagged (verdicts.Accepted request.login request.tag request.order) bytes
    judged = subst (λ (v : Verdict). IsTagged v bytes) is tagged

    taken : IsTaken (talk_of unit) unit'.logins iu request.login request.order
    taken = taken_as one (talk_of unit) unit.logins unit'.logins bytes iu request.login request.tag request.order
        (record { current = refl; taking = refl; outstanding = refl; granted = refl }) judged (subst (Decides unit.logins unit'.logins bytes) is decides) spelled

-- RECEIVING --------------------------------------------------------------------------------------

pub waits_up : (h : Handshake) → h ≡ Up → (h ≢ Up) → ⊥
waits_up h up apart = apart up

-- a length that may be asked is one of an information unit
pub long_enough : (n m : ℕ) → n ≡ m → 1 ≤ m → m ≤ 256 → ((n ≡ 0) ⊎ (256 < n)) → ⊥
long_enough n m is some few (inl none) = omega (arith, is, some, none)
long_enough n m is some few (inr more) = omega (arith, is, few, more)

-- a value that grants a right lacks it not
granted_apart : (values : ℕ → List ℕ) (right : Right) (e version : ℕ) → MayUse values right e → (value : ℕ) → IsCurrent values e version value → grants right value ≡ false → ⊥
granted_apart values right e version may value current lacks =
    let same : may.version ≡ version = omega (arith, may.current.last, current.last) in
    let one : Some may.value ≡ Some value = sym may.current.shown ∙ ap (slice_get (values e)) same ∙ current.shown in
    cc (one, may.granted, lacks)

-- a range that may be used is not denied
usable_apart : (values : ℕ → List ℕ) (right : Right) (n address len : ℕ) (fault : HoldFault) → IsOfEntry fault → IsUsable values right n address len → IsRefused values right n address len fault → ⊥
usable_apart values right n address len (Past entry) of usable is = omega (arith, (usable entry is.0 is.1).0, is.2)
usable_apart values right n address len (NotGranted entry version tce) of usable is = by (usable entry is.0 is.1).1 is.3
  where
    by : MayUse values right entry → Lacks values right entry version tce → ⊥
    by may lacks = granted_apart values right entry version may lacks.0 lacks.1 lacks.2
usable_apart values right n address len (InUse page word) of usable is = of

pub not_denied : (old new : SiteState) (right : Right) (address at len k n : ℕ) → old.shared ≡ false → IsUsable old.client.values right old.client.place.size at n → address ≡ at → len ≡ k → k ≡ n
    → IsDeniedBetween old new right address len → ⊥
not_denied old new right address at len k n alone usable place long size denied = by old.shared alone denied.denied_is
  where
    values_are : (e : ℕ) (values : ℕ → List ℕ) → Later false (old.client.values e) (values e) → values e ≡ old.client.values e
    values_are e values is = is

    by : (shared : Bool) → shared ≡ false → Denies shared old.client new.client right address len denied.fault → ⊥
    by true alone is = cc (alone)
    by false alone is = usable_apart old.client.values right old.client.place.size at n denied.fault is.of_entry usable
        (subst (λ (count : ℕ). IsRefused old.client.values right old.client.place.size at count denied.fault) (long ∙ size)
        (subst (λ (k : ℕ). IsRefused old.client.values right old.client.place.size k len denied.fault) place
        (subst (λ (values : ℕ → List ℕ). IsRefused values right old.client.place.size address len denied.fault) (λ i e. values_are e is.values (is.since e) i) is.refused)))

pub not_in_use : (old new : SiteState) → old.shared ≡ false → MeetsUse old new → ⊥
not_in_use old new alone busy = cc (alone, busy.shared_is)

-- the same of a unit that judges by the same
accepted_from : (unit unit1 unit' : Unit) (lines lines' : List Grant) (number address : ℕ) (bytes : List ℕ) (iu : Iu) → talk_of unit1 ≡ talk_of unit → unit1.line ≡ unit.line → unit1.service ≡ unit.service
    → IsAccepted unit1 unit' lines lines' number address bytes iu → IsAccepted unit unit' lines lines' number address bytes iu
accepted_from unit unit1 unit' lines lines' number address bytes iu talk line service is = record {
  accepts = subst (λ (t : Talk). AcceptsRequest t number address bytes iu (talk_of unit')) talk is.accepts;
  line = is.line ∙ line;
  service = is.service ∙ service;
  lines_are = is.lines_are;
}

-- An information unit was fetched: it is the one that stood there, and was accepted.
pub received_as : (unit unit1 unit' : Unit) (old new : Reach) (lines lines' : List Grant) (number address at k : ℕ) (bytes read : List ℕ) (iu : Iu) (next : Next)
    → talk_of unit1 ≡ talk_of unit → unit1.line ≡ unit.line → unit1.service ≡ unit.service → StaysKnown old.client new.client → StandAt old.client address bytes → IsReadWhole new.client at read → at ≡ address → length read ≡ k → k ≡ length bytes → new.queue ≡ old.queue → unit'.waiting ≡ None
    → (Spells read iu → (next ≡ NextEntry) × IsAccepted unit1 unit' lines lines' number at read iu) → Spells bytes iu
    → (next ≡ NextEntry) × IsReceivedAs unit unit' old new lines lines' number address bytes iu
received_as unit unit1 unit' old new lines lines' number address at k bytes read iu next talk line service same stand whole place long size queue none judged spelled = (
  is.0,
  record {
    accepted = accepted_from unit unit1 unit' lines lines' number address bytes iu talk line service
        (subst (λ (b : List ℕ). IsAccepted unit1 unit' lines lines' number address b iu) there
        (subst (λ (k : ℕ). IsAccepted unit1 unit' lines lines' number k read iu) place is.1));
    waiting = none;
    queue = queue;
    window = same;
  },
)
  where
    there : read ≡ bytes
    there = stand read (reads_known old.client new.client address read same (subst (λ (k : ℕ). IsReadWhole new.client k read) place whole)) (long ∙ size)

    is : (next ≡ NextEntry) × IsAccepted unit1 unit' lines lines' number at read iu
    is = judged (subst (λ (b : List ℕ). Spells b iu) (sym there) spelled)

-- the same of a unit that judges by the same
pub received_from : (unit unit1 unit' : Unit) (old new : Reach) (lines lines' : List Grant) (number address : ℕ) (bytes : List ℕ) (iu : Iu) (result : Result Next NoMemory)
    → talk_of unit1 ≡ talk_of unit → unit1.line ≡ unit.line → unit1.service ≡ unit.service → IfOk result (λ next. (next ≡ NextEntry) × IsReceivedAs unit1 unit' old new lines lines' number address bytes iu)
    → IfOk result (λ next. (next ≡ NextEntry) × IsReceivedAs unit unit' old new lines lines' number address bytes iu)
received_from unit unit1 unit' old new lines lines' number address bytes iu (Err memory) talk line service is = tt
received_from unit unit1 unit' old new lines lines' number address bytes iu (Ok next) talk line service is = (
  is.0,
  record {
    accepted = accepted_from unit unit1 unit' lines lines' number address bytes iu talk line service is.1.accepted;
    waiting = is.1.waiting;
    queue = is.1.queue;
    window = is.1.window;
  },
)
