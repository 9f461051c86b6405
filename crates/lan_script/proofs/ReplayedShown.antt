-- That a frame which a line wrote and sent has the bytes that the line wrote.
use Rattle.std.proofs.Common.{◌≡◌, ◌+◌, ◌/◌, ◌++◌, get_or, inl, inr, ℕ, arith, All, Bool, true, false, IfOk, IsSome, OnOk, List, [], ◌∷◌, Option, Some, None, IfSome, Result, Ok, Err, sym, ◌∙◌, ap, subst, append-nil}
use Rattle.vio_num.specs.declared.memory.NoMemory.{NoMemory}
use Rattle.vio_num.specs.declared.names.Mac.{Mac}
use Rattle.vio_num.specs.declared.names.UnitId.{UnitId}
use Rattle.tce_window.specs.declared.answers.OwnFault.{OwnFault}
use Rattle.tce_window.specs.declared.piece.Piece.{Piece}
use Rattle.tce_window.specs.PlainPort.{known_of}
use Rattle.tce_window.specs.PortState.{Writes}
use Rattle.tce_window.specs.Region.{region_byte}
use Rattle.tce_window.specs.Window.{WindowValue}
use Rattle.lan_buffers.specs.Buffer.{buffer_address}
use Rattle.lan_buffers.specs.Port.{PortValue}
use Rattle.lan_buffers.specs.declared.settings.Settings.{Settings}
use Rattle.lan_switch.specs.declared.answers.SendRecord.{SendRecord}
use Rattle.lan_switch.specs.declared.station.Station.{Station}
use Rattle.lan_switch.specs.Sending.{IsSent, LanWindows, OffersFrame, SaysFrame, is_numbered, next_number}
use Rattle.lan_switch.specs.Switch.{port_of}
use Rattle.lan_switch.specs.Source.{AreRead, OnlyReadThrough}
use Rattle.lan_script.specs.Replayed.{AddsBytes, HasShown, SameReplays, SendsShown, Shows, replay_at, settings_of}
use Rattle.lan_script.specs.PortReplay.{PortReplay}
use Rattle.lan_script.specs.Units.{LanValue}
use Rattle.lan_script.specs.Values.{AreOwn}
use Rattle.lan_script.specs.Windows.{facts_of, window_in, with_window}
use Rattle.lan_script.specs.declared.sending.Sent.{Sent}
use Rattle.lan_script.specs.declared.windows.Place.{Place}
use Rattle.lan_script.proofs.Placing.{has_place, same_some, window_with, with_twice}
use Rattle.lan_script.proofs.RegionShown.{reads_shown, write_shows, write_there}

-- a window that was taken, written and put back shows what was written
shown_back : (places ps₁ ps₂ : List Place) (unit : UnitId) (own own' : WindowValue) (at mark : ℕ) (bytes : List ℕ) → window_in unit places ≡ Some own
    → ps₁ ≡ with_window unit None places → ps₂ ≡ with_window unit (Some own') ps₁ → Writes false (known_of own) at bytes mark (known_of own')
    → Shows ps₂ unit at bytes
shown_back places ps₁ ps₂ unit own own' at mark bytes here e f wrote = record {
  there = λ k less.
      subst (λ (o : Option WindowValue). IsSome ((facts_of unit ps₂ o).strokes ((at + k) / 4096))) (sym there)
      (write_there (known_of own) (known_of own') at mark bytes wrote (at + k) (omega arith) (omega (arith, less)));
  each = λ k less.
      subst (λ (o : Option WindowValue). region_byte (facts_of unit ps₂ o).strokes (at + k) ≡ get_or bytes k 0) (sym there)
      (write_shows (known_of own) (known_of own') at mark bytes wrote (at + k) (omega arith) (omega (arith, less))
      ∙ ap (λ (i : ℕ). get_or bytes i 0) (omega arith));
}
  where
    there : window_in unit ps₂ ≡ Some own'
    there = ap (λ l. window_in unit l) (f ∙ ap (λ l. with_window unit (Some own') l) e ∙ with_twice unit None (Some own') places)
        ∙ window_with unit (Some own') places (has_place unit own places here)

pub write_shown : (places ps₁ ps₂ : List Place) (unit : UnitId) (own own' : WindowValue) (at mark : ℕ) (bytes : List ℕ) (answer : Result Unit OwnFault)
    → window_in unit places ≡ Some own → ps₁ ≡ with_window unit None places → ps₂ ≡ with_window unit (Some own') ps₁
    → OnOk answer (Writes false (known_of own) at bytes mark (known_of own')) → OnOk answer (Shows ps₂ unit at bytes)
write_shown places ps₁ ps₂ unit own own' at mark bytes (Ok done) here e f wrote = shown_back places ps₁ ps₂ unit own own' at mark bytes here e f wrote
write_shown places ps₁ ps₂ unit own own' at mark bytes (Err fault) here e f wrote = tt

-- ---- a frame that is offered

not_numbered : (frame : Option ℕ) → frame ≡ None → IsSome frame → ⊥
not_numbered None e is = cc (is)
not_numbered (Some n) e is = cc (e)

-- the bytes of a frame that has a number
said_bytes : (b : Bool) (n : ℕ) (pieces : List Piece) (frame : List ℕ) (r : SendRecord) → SaysFrame b n pieces frame r → IsSome r.frame → r.bytes ≡ frame
said_bytes true n pieces frame r says some = says.2
said_bytes false n pieces frame r says some = absurd (not_numbered r.frame says.0 some)

offered_shown : (lan : LanValue) (unit : UnitId) (ss : List Station) (parts : List ℕ) (own own' : WindowValue) (windows : LanWindows) (r : SendRecord)
    → window_in unit lan.places ≡ Some own → OnlyReadThrough false (known_of own) (known_of own')
    → OffersFrame lan.stations ss unit parts (known_of own) (known_of own') windows r → IsSome r.frame → HasShown lan unit parts r.bytes
offered_shown lan unit ss parts own own' windows r here through k some at bytes part grants shows =
    said_bytes (is_numbered r.code) (next_number lan.stations unit) k.pieces k.frame r k.answered.says some
    ∙ of_part (subst (λ (l : List ℕ). AreRead (known_of own) (known_of own') l k.pieces k.frame) part.alone k.source.read)
  where
    values : AreOwn (known_of own).values
    values e = subst (λ o. All (λ v. v / 4096 ≡ e) ((facts_of unit lan.places o).values e)) here (grants e)

    of_part : AreRead (known_of own) (known_of own') (part.part ∷ []) k.pieces k.frame → k.frame ≡ bytes
    of_part (pieces₁, pieces₂, pieces_are, bytes₁, bytes₂, frame_is, long, reads, (none, empty)) =
        frame_is ∙ ap (λ l. bytes₁ ++ l) empty ∙ append-nil bytes₁
        ∙ reads_shown (known_of own) (known_of own') (buffer_address part.part) pieces₁ bytes₁ bytes through reads values (long ∙ part.len_is)
        (λ n less.
        subst (λ (x : ℕ). IsSome ((known_of own).strokes ((x + n) / 4096))) (sym part.at_is)
        (subst (λ (o : Option WindowValue). IsSome ((facts_of unit lan.places o).strokes ((at + n) / 4096))) here (shows.there n less)))
        (λ n less.
        subst (λ (x : ℕ). region_byte (known_of own).strokes (x + n) ≡ get_or bytes n 0) (sym part.at_is)
        (subst (λ (o : Option WindowValue). region_byte (facts_of unit lan.places o).strokes (at + n) ≡ get_or bytes n 0) here (shows.each n less)))

sent_shown : (lan now : LanValue) (unit : UnitId) (ss : List Station) (parts : List ℕ) (Found : ℕ → ℕ → Type 0) (own own' : WindowValue)
    (windows : LanWindows) (r : SendRecord) → lan ≡ now → window_in unit lan.places ≡ Some own → OnlyReadThrough false (known_of own) (known_of own')
    → IsSent lan.stations ss unit parts false Found (known_of own) (known_of own') windows r → IsSome r.frame → HasShown now unit parts r.bytes
sent_shown lan now unit ss parts Found own own' windows r same here through (inl (k, beside)) some = absurd (not_numbered r.frame k.says.frame some)
sent_shown lan now unit ss parts Found own own' windows r same here through (inr (inl (k, beside))) some = absurd (not_numbered r.frame k.says.frame some)
sent_shown lan now unit ss parts Found own own' windows r same here through (inr (inr k)) some =
    subst (λ (l : LanValue). HasShown l unit parts r.bytes) same (offered_shown lan unit ss parts own own' windows r here through k some)

pub sends_shown : (lan now : LanValue) (unit : UnitId) (ss : List Station) (parts : List ℕ) (Found : ℕ → ℕ → Type 0) (own own' : WindowValue)
    (windows : LanWindows) (r : Result SendRecord NoMemory) → lan ≡ now → window_in unit lan.places ≡ Some own
    → OnlyReadThrough false (known_of own) (known_of own')
    → IfOk r (IsSent lan.stations ss unit parts false Found (known_of own) (known_of own') windows)
    → IfOk r (λ made. IsSome made.frame → HasShown now unit parts made.bytes)
sends_shown lan now unit ss parts Found own own' windows (Ok made) same here through sent =
    sent_shown lan now unit ss parts Found own own' windows made same here through sent
sends_shown lan now unit ss parts Found own own' windows (Err memory) same here through sent = tt

-- a frame that was offered so, and kept
kept_so : (unit : UnitId) (parts : List ℕ) (made : SendRecord) (number : Option ℕ) (old mid new : LanValue) → SameReplays old mid
    → (IsSome made.frame → HasShown old unit parts made.bytes) → number ≡ made.frame → AddsBytes unit made.frame made.bytes mid new
    → SendsShown unit parts number old new
kept_so unit parts made number old mid new same shown is adds some at bytes part grants shows =
    let has : IsSome made.frame = subst (λ (o : Option ℕ). IsSome o) is some in
    adds has ∙ ap (λ (a : PortReplay). a.frames ++ made.bytes ∷ []) (same unit)
    ∙ ap (λ (b : List ℕ). (replay_at old unit).frames ++ b ∷ []) (shown has at bytes part grants shows)

pub kept_shown : (unit : UnitId) (parts : List ℕ) (made : SendRecord) (r : Result Sent NoMemory) (old mid new : LanValue) → SameReplays old mid
    → (IsSome made.frame → HasShown old unit parts made.bytes) → IfOk r (λ s. s.number ≡ made.frame)
    → OnOk r (AddsBytes unit made.frame made.bytes mid new) → IfOk r (λ s. SendsShown unit parts s.number old new)
kept_shown unit parts made (Ok s) old mid new same shown is adds = kept_so unit parts made s.number old mid new same shown is adds
kept_shown unit parts made (Err memory) old mid new same shown is adds = tt

-- ---- the present address of a port

pub present_open : (lan now : LanValue) (unit : UnitId) (found : Option Settings) (own : Settings) → lan ≡ now
    → IfSome (port_of lan.stations unit) (λ port. found ≡ port.settings) → found ≡ Some own
    → (settings : Settings) → (replay_at now unit).settings ≡ Some settings → own.mac ≡ settings.mac
present_open lan now unit found own same shows is settings here =
    by (port_of lan.stations unit) shows (ap (λ (l : LanValue). settings_of (port_of l.stations unit)) same ∙ here)
  where
    by : (o : Option PortValue) → IfSome o (λ port. found ≡ port.settings) → settings_of o ≡ Some settings → own.mac ≡ settings.mac
    by (Some port) e h = ap (λ (s : Settings). s.mac) (same_some own settings (sym is ∙ e ∙ h))
    by None e h = absurd (cc (h))

pub present_closed : (lan now : LanValue) (unit : UnitId) (found : Option Settings) (own : Mac) → lan ≡ now
    → IfSome (port_of lan.stations unit) (λ port. found ≡ port.settings) → found ≡ None
    → (settings : Settings) → (replay_at now unit).settings ≡ Some settings → own ≡ settings.mac
present_closed lan now unit found own same shows is settings here =
    by (port_of lan.stations unit) shows (ap (λ (l : LanValue). settings_of (port_of l.stations unit)) same ∙ here)
  where
    by : (o : Option PortValue) → IfSome o (λ port. found ≡ port.settings) → settings_of o ≡ Some settings → own ≡ settings.mac
    by (Some port) e h = absurd (cc (is, e, h))
    by None e h = absurd (cc (h))
