-- What calls on a port keep of it, and the codes that they answer.
use Rattle.std.proofs.Common.{◌≡◌, ℕ, Bool, List, [], ◌∷◌, Option, Some, IsSome, arith, length, length-append, map, refl, sym, ◌∙◌, ap, subst, Result}
use Rattle.vio_num.specs.declared.names.Mac.{Mac}
use Rattle.vio_num.specs.declared.names.UnitId.{UnitId}
use Rattle.vio_num.specs.declared.memory.NoMemory.{NoMemory}
use Rattle.vio_num.specs.declared.hypervisor.Hrc.{Hrc}
use Rattle.vio_num.specs.declared.hypervisor.Hrc.TheVariants.{Success, Busy, Closed, Function, Parameter, NotFound, Dropped, SourceParm, DestParm, Resource}
use Rattle.tce_window.specs.PortState.{PortState}
use Rattle.lan_buffers.specs.Calls.{IsOpen}
use Rattle.lan_buffers.specs.Port.{PortValue}
use Rattle.lan_buffers.specs.declared.settings.Settings.{Settings}
use Rattle.lan_buffers.specs.declared.answers.Harvest.{Harvest}
use Rattle.lan_buffers.specs.declared.answers.Harvest.TheVariants.{Frame, Blank, Nothing}
use Rattle.lan_switch.specs.declared.answers.LanAnswer.{LanAnswer}
use Rattle.lan_switch.specs.declared.station.Station.{Station}
use Rattle.lan_switch.specs.Calls.{Adds, ChangesMac, Frees, Harvests, Multicasts, Registers, Reserves}
use Rattle.lan_switch.specs.Switch.{AtPort}
use Rattle.vio_trace.specs.declared.lan_rows.FrameRow.{FrameRow}
use Rattle.lan_script.specs.declared.seat.PortSeat.{PortSeat}
use Rattle.lan_script.specs.declared.windows.Place.{Place}
use Rattle.lan_script.specs.Invariant.{CarryAll, HaveBegun, IsBalanced}
use Rattle.lan_script.specs.Units.{port_key}
use Rattle.lan_script.proofs.Balance.{balance_with, begun_with}
use Rattle.lan_script.proofs.CarriedOn.{carried_with}
use Rattle.lan_script.proofs.Keys.{keys_with}
use Rattle.lan_script.proofs.Posted.{KeepsPosts, posts_begin, posts_more, posts_stay}
use Rattle.lan_script.proofs.Tallies.{KeepsTally, begins_tally, keeps_tally, same_tally, shut}

-- a port that has the unit and the slots of before
pub record SamePort (before after : PortValue) : Type 0 where
  pub unit : after.unit ≡ before.unit
  pub slots : after.slots ≡ before.slots
  pub tally : KeepsTally before after
  pub posts : KeepsPosts before after

same_port : (before after : PortValue) → after ≡ before → SamePort before after
same_port before after e = record {
  unit = ap (λ (p : PortValue). p.unit) e;
  slots = ap (λ (p : PortValue). p.slots) e;
  tally = same_tally before after e;
  posts = posts_stay before after (ap (λ (p : PortValue). p.posts) e) (ap (λ (p : PortValue). length p.drop_counts) e);
}

-- a port whose deliveries and drops stay, and that was open if it is
still_port : (before after : PortValue) → after.unit ≡ before.unit → after.slots ≡ before.slots → after.deliveries ≡ before.deliveries
    → after.drop_counts ≡ before.drop_counts → KeepsPosts before after → (IsOpen after → IsOpen before) → SamePort before after
still_port before after unit slots rows drops posts opened =
    record { unit = unit; slots = slots; tally = keeps_tally before after rows drops opened; posts = posts }

-- the posts of a port that has them as it had them
posts_of : (before after : PortValue) → after.posts ≡ before.posts → after.drop_counts ≡ before.drop_counts → KeepsPosts before after
posts_of before after posts drops = posts_stay before after posts (ap (λ (l : List ℕ). length l) drops)

-- the settings of a port that has them as it had them
settings_of : (before after : PortValue) → after.settings ≡ before.settings → IsOpen after → IsOpen before
settings_of before after e is = subst (λ (o : Option Settings). IsSome o) e is

was_open : (port : PortValue) (settings : Settings) → port.settings ≡ Some settings → IsOpen port
was_open port settings e = subst (λ (o : Option Settings). IsSome o) (sym e) refl

-- a code is Success or another
pub by_code : (x : Hrc) (Q : Type 0) → (x ≡ Success → Q) → ((x ≡ Success → ⊥) → Q) → Q
by_code Success Q f g = f refl
by_code Busy Q f g = g (λ e. cc (e))
by_code Closed Q f g = g (λ e. cc (e))
by_code Function Q f g = g (λ e. cc (e))
by_code Parameter Q f g = g (λ e. cc (e))
by_code NotFound Q f g = g (λ e. cc (e))
by_code Dropped Q f g = g (λ e. cc (e))
by_code SourceParm Q f g = g (λ e. cc (e))
by_code DestParm Q f g = g (λ e. cc (e))
by_code Resource Q f g = g (λ e. cc (e))

pub registers_same : (list queue filters : ℕ) (mac : Mac) (answer : LanAnswer) (before after : PortValue)
    → Registers list queue filters mac answer before after → SamePort before after
registers_same list queue filters mac answer before after h =
    by_code answer.code (SamePort before after)
    (λ e. record {
      unit = ap (λ (p : PortValue). p.unit) (h.success e).rest;
      slots = ap (λ (p : PortValue). p.slots) (h.success e).rest;
      tally = begins_tally before after mac (h.success e);
      posts = posts_begin before after (ap (λ (p : PortValue). p.posts) (h.success e).rest)
          (omega (arith, ap (λ (l : List ℕ). length l) (h.success e).counts, length-append before.drop_counts (0 ∷ [])));
    })
    (λ not. same_port before after (h.refused not))

pub frees_same : (answer : LanAnswer) (before after : PortValue) → Frees answer before after → SamePort before after
frees_same answer before after h =
    still_port before after (ap (λ (p : PortValue). p.unit) h.done) (ap (λ (p : PortValue). p.slots) h.done)
    (ap (λ (p : PortValue). p.deliveries) h.done) (ap (λ (p : PortValue). p.drop_counts) h.done) (posts_of before after (ap (λ (p : PortValue). p.posts) h.done) (ap (λ (p : PortValue). p.drop_counts) h.done))
    (λ is. absurd (shut after.settings (ap (λ (p : PortValue). p.settings) h.done) is))

pub changes_same : (mac : Mac) (answer : LanAnswer) (before after : PortValue) → ChangesMac mac answer before after → SamePort before after
changes_same mac answer before after h =
    by_code answer.code (SamePort before after)
    (λ e.
    let is = (h.success e).sets in
    still_port before after (ap (λ (p : PortValue). p.unit) is) (ap (λ (p : PortValue). p.slots) is) (ap (λ (p : PortValue). p.deliveries) is)
    (ap (λ (p : PortValue). p.drop_counts) is) (posts_of before after (ap (λ (p : PortValue). p.posts) is) (ap (λ (p : PortValue). p.drop_counts) is)) (λ _. was_open before (h.success e).settings (h.success e).shown))
    (λ not. same_port before after (h.refused not))

pub multicasts_same : (control : ℕ) (mac : Mac) (answer : LanAnswer) (before after : PortValue) → Multicasts control mac answer before after
    → SamePort before after
multicasts_same control mac answer before after h =
    by_code answer.code (SamePort before after)
    (λ e.
    let is = (h.success e).sets in
    still_port before after (ap (λ (p : PortValue). p.unit) is) (ap (λ (p : PortValue). p.slots) is) (ap (λ (p : PortValue). p.deliveries) is)
    (ap (λ (p : PortValue). p.drop_counts) is) (posts_of before after (ap (λ (p : PortValue). p.posts) is) (ap (λ (p : PortValue). p.drop_counts) is)) (λ _. was_open before (h.success e).settings (h.success e).shown))
    (λ not. same_port before after (h.refused not))

pub adds_same : (descriptor : ℕ) (is_shared : Bool) (Found : ℕ → ℕ → Type 0) (window window' : PortState) (answer : LanAnswer) (before after : PortValue)
    → Adds descriptor is_shared Found window window' answer before after → SamePort before after
adds_same descriptor is_shared Found window window' answer before after h =
    by_code answer.code (SamePort before after)
    (λ e.
    let is = (h.success e).posts.posted.rest in
    still_port before after (ap (λ (p : PortValue). p.unit) is) (ap (λ (p : PortValue). p.slots) is) (ap (λ (p : PortValue). p.deliveries) is)
    (ap (λ (p : PortValue). p.drop_counts) is)
    (posts_more before after _ (h.success e).posts.posted.posted (ap (λ (p : PortValue). length p.drop_counts) is)) (settings_of before after (ap (λ (p : PortValue). p.settings) is)))
    (λ not. same_port before after (h.refused not))

pub reserves_same : (n : ℕ) (answer : Result Unit NoMemory) (before after : PortValue) → Reserves n answer before after → SamePort before after
reserves_same n answer before after h =
    still_port before after (ap (λ (p : PortValue). p.unit) h.rest) (ap (λ (p : PortValue). p.slots) h.rest)
    (ap (λ (p : PortValue). p.deliveries) h.rest) (ap (λ (p : PortValue). p.drop_counts) h.rest) (posts_of before after (ap (λ (p : PortValue). p.posts) h.rest) (ap (λ (p : PortValue). p.drop_counts) h.rest))
    (settings_of before after (ap (λ (p : PortValue). p.settings) h.rest))

pub harvests_same : (answer : Harvest) (before after : PortValue) → Harvests answer before after → SamePort before after
harvests_same (Frame number len correlator) before after h =
    let is = h.frame.reads.rest in
    still_port before after (ap (λ (p : PortValue). p.unit) is) (ap (λ (p : PortValue). p.slots) is) (ap (λ (p : PortValue). p.deliveries) is)
    (ap (λ (p : PortValue). p.drop_counts) is) (posts_of before after (ap (λ (p : PortValue). p.posts) is) (ap (λ (p : PortValue). p.drop_counts) is)) (settings_of before after (ap (λ (p : PortValue). p.settings) is))
harvests_same (Blank number correlator) before after h =
    let is = h.blank.reads.rest in
    still_port before after (ap (λ (p : PortValue). p.unit) is) (ap (λ (p : PortValue). p.slots) is) (ap (λ (p : PortValue). p.deliveries) is)
    (ap (λ (p : PortValue). p.drop_counts) is) (posts_of before after (ap (λ (p : PortValue). p.posts) is) (ap (λ (p : PortValue). p.drop_counts) is)) (settings_of before after (ap (λ (p : PortValue). p.settings) is))
harvests_same (Nothing number high) before after h = same_port before after h.rest

-- a call at a port that keeps its unit and slots keeps the keys of all
pub at_keys : (old : List Station) (unit : UnitId) (new : List Station) (P : PortValue → PortValue → Type 0)
    → ((before after : PortValue) → P before after → SamePort before after) → AtPort old unit new P → map port_key new ≡ map port_key old
at_keys old unit new P same h =
    let kept = same h.before h.after h.done in
    ap (λ l. map port_key l) h.rest ∙ keys_with unit old h.before h.after h.was kept.unit kept.slots

-- an open port is still in a session
pub at_begun : (old : List Station) (unit : UnitId) (new : List Station) (P : PortValue → PortValue → Type 0)
    → ((before after : PortValue) → P before after → SamePort before after) → AtPort old unit new P → HaveBegun old → HaveBegun new
at_begun old unit new P same h begun =
    let kept = same h.before h.after h.done in
    subst HaveBegun (sym h.rest) (begun_with unit old h.before h.after h.was kept.tally begun)

-- and the balance of frames, deliveries and drops
pub at_balance : (seats : List PortSeat) (frames : List (List FrameRow)) (old : List Station) (unit : UnitId) (new : List Station)
    (P : PortValue → PortValue → Type 0) → ((before after : PortValue) → P before after → SamePort before after) → AtPort old unit new P
    → IsBalanced seats old frames → IsBalanced seats new frames
at_balance seats frames old unit new P same h balanced =
    let kept = same h.before h.after h.done in
    subst (λ (l : List Station). IsBalanced seats l frames) (sym h.rest) (balance_with seats frames unit old h.before h.after h.was kept.unit kept.tally balanced)

-- and what frames and deliveries carry
pub at_carried : (ps : List Place) (frames : List (List FrameRow)) (old : List Station) (unit : UnitId) (new : List Station)
    (P : PortValue → PortValue → Type 0) → ((before after : PortValue) → P before after → SamePort before after) → AtPort old unit new P
    → CarryAll old ps frames → CarryAll new ps frames
at_carried ps frames old unit new P same h carried =
    let kept = same h.before h.after h.done in
    subst (λ (l : List Station). CarryAll l ps frames) (sym h.rest)
    (carried_with ps frames unit old h.before h.after h.was kept.unit kept.tally kept.posts carried)
