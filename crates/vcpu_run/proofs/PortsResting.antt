-- That nothing is left to take of ports, through the turns of a round in which nothing moved.
use Rattle.std.proofs.Common.{◌≡◌, ◌≢◌, ◌∙◌, ◌+◌, ◌<◌, ◌≤◌, ◌⊎◌, inl, inr, ℕ, arith, true, false, IfOk, Result, Ok, Err, IsSomeAnd, List, Some, length, slice_get, slice_set, refl, sym, ap, subst}
use Rattle.std.proofs.lemmas.Option.{slice_get_within}
use Rattle.vio_num.specs.declared.names.UnitId.{UnitId}
use Rattle.lan_script.specs.Resting.{FindsNone, IsAllTaken, SamePorts}
use Rattle.lan_script.specs.Units.{LanValue}
use Rattle.lan_script.proofs.Laws.{still_taken}
use Rattle.vcpu_run.specs.declared.script.Script.{Script}
use Rattle.vcpu_run.specs.declared.unit_seat.Seat.{Seat}
use Rattle.vcpu_run.specs.declared.unit_seat.Seat.TheVariants as sits
use Rattle.vcpu_run.specs.Lines.{IsOver}
use Rattle.vcpu_run.specs.Links.{AreOverTo}
use Rattle.vcpu_run.specs.Ports.{unit_of}
use Rattle.vcpu_run.specs.PortsRest.{AreTaken, AreTakenTo, PortsRest, SeatTaken, TurnRests}
use Rattle.vcpu_run.specs.Scripts.{are_servers}
use Rattle.vcpu_run.proofs.Announcing.{both_bools}
use Rattle.vcpu_run.proofs.Driving.{get_set_same, same_or}
use Rattle.vcpu_run.proofs.Listed.{held_is, is_held, there_is}

-- what is so of each value is so of the one that came
pub ok_any : {T E : Type 0} (r : Result T E) (P : T → Type 0) → ((x : T) → P x) → IfOk r P
ok_any (Ok x) P all = all x
ok_any (Err e) P all = tt

-- a turn that reached no port
pub ports_same : (lan : LanValue) → SamePorts lan lan
ports_same lan unit = refl

-- a seat that is no port
pub seat_none : (unit : UnitId) (seat : Seat) (lan : LanValue) → (seat ≡ sits.Port → ⊥) → SeatTaken unit seat lan lan
seat_none unit seat lan none = record { still = ports_same lan; taken = λ e. absurd (none e) }

-- the seat of a port from which nothing was taken
pub seat_port : (unit : UnitId) (seat : Seat) (old new : LanValue) → FindsNone unit old new → SeatTaken unit seat old new
seat_port unit seat old new found = record { still = found.still; taken = λ e. found.all }

-- one seat more
pub taken_next : (partition k : ℕ) (seat : Seat) (seats : List Seat) (mid new : LanValue) → slice_get seats k ≡ Some seat → SeatTaken (unit_of partition k) seat mid new
    → AreTaken partition k seats mid → AreTaken partition (k + 1) seats new
taken_next partition k seat seats mid new here rests before u below sat = by (same_or u k)
  where
    by : (u ≡ k) ⊎ (u ≢ k) → IsAllTaken new (unit_of partition u)
    by (inl e) =
        subst (λ (n : ℕ). IsAllTaken new (unit_of partition n)) (sym e)
        (rests.taken (one seat sits.Port (sym here ∙ ap (λ n. slice_get seats n) (sym e) ∙ sat)))
      where
        one : (a b : Seat) → Some a ≡ Some b → a ≡ b
        one a b e = cc (e)
    by (inr apart) = still_taken mid new (unit_of partition u) rests.still (before u (omega (arith, below, apart)) sat)

-- all seats
pub taken_all : (partition k : ℕ) (seats : List Seat) (old new : LanValue) → length seats ≤ k → SamePorts old new → AreTaken partition k seats new
    → PortsRest partition seats old new
taken_all partition k seats old new all still taken = record {
  still = still;
  taken = λ u sat. taken u (omega (arith, all, slice_get_within seats u sits.Port sat)) sat;
}

-- the script that had a turn, in its place
pub set_ports : (scripts : List Script) (i : ℕ) (new : Script) (partition : ℕ) (seats : List Seat) (before after : LanValue) → i < length scripts
    → new.partition ≡ partition → new.seats.items ≡ seats → (IsOver new → PortsRest partition seats before after)
    → IsSomeAnd (slice_get (slice_set scripts i new) i) IsOver → IsSomeAnd (slice_get (slice_set scripts i new) i) (λ script. TurnRests script before after)
set_ports scripts i new partition seats before after less named same rests over =
    let there = get_set_same scripts i new less in
    let rest : PortsRest partition seats before after = rests (held_is IsOver (slice_get (slice_set scripts i new) i) new there over) in
    is_held (λ (script : Script). TurnRests script before after) (slice_get (slice_set scripts i new) i) new there
    (record {
      still = rest.still;
      taken = λ none u sat.
          subst (λ (p : ℕ). IsAllTaken after (unit_of p u)) (sym named)
          (rest.taken u (subst (λ (list : List Seat). slice_get list u ≡ Some sits.Port) same sat));
    })

-- a turn of server units reaches no port
pub servers_rest : (scripts : List Script) (n : ℕ) (here : Script) (lan : LanValue) → slice_get scripts n ≡ Some here → are_servers here.seats.items ≡ true
    → IsSomeAnd (slice_get scripts n) (λ script. TurnRests script lan lan)
servers_rest scripts n here lan there is =
    is_held (λ (script : Script). TurnRests script lan lan) (slice_get scripts n) here there
    (record { still = ports_same lan; taken = λ other u sat. absurd (both_bools (are_servers here.seats.items) is other) })

-- one script more
pub ports_next : (n : ℕ) (lan lan' : LanValue) (scripts scripts' : List Script) → n < length scripts' → ((i : ℕ) → i ≢ n → slice_get scripts' i ≡ slice_get scripts i)
    → (IsSomeAnd (slice_get scripts' n) IsOver → IsSomeAnd (slice_get scripts' n) (λ script. TurnRests script lan lan'))
    → (AreOverTo n scripts → AreTakenTo n lan scripts) → AreOverTo (n + 1) scripts' → AreTakenTo (n + 1) lan' scripts'
ports_next n lan lan' scripts scripts' less else turn before over i script below found other u sat = by (same_or i n)
  where
    this : (s : Script) × (slice_get scripts' n ≡ Some s)
    this = there_is scripts' n less

    rests : TurnRests this.0 lan lan'
    rests = held_is (λ (s : Script). TurnRests s lan lan') (slice_get scripts' n) this.0 this.1
        (turn (is_held IsOver (slice_get scripts' n) this.0 this.1 (over n this.0 (omega arith) this.1)))

    was : AreTakenTo n lan scripts
    was = before (λ j s under at. over j s (omega (arith, under)) (else j (apart j under) ∙ at))
      where
        apart : (j : ℕ) → j < n → j ≢ n
        apart j under e = omega (arith, under, e)

    one : (a b : Script) → Some a ≡ Some b → a ≡ b
    one a b e = cc (e)

    by : (i ≡ n) ⊎ (i ≢ n) → IsAllTaken lan' (unit_of script.partition u)
    by (inl e) =
        let same : this.0 ≡ script = one this.0 script (sym this.1 ∙ ap (λ k. slice_get scripts' k) (sym e) ∙ found) in
        subst (λ (s : Script). IsAllTaken lan' (unit_of s.partition u)) same
        (rests.taken (subst (λ (s : Script). are_servers s.seats.items ≡ false) (sym same) other) u
        (subst (λ (s : Script). slice_get s.seats.items u ≡ Some sits.Port) (sym same) sat))
    by (inr e) =
        still_taken lan lan' (unit_of script.partition u) rests.still (was i script (omega (arith, below, e)) (sym (else i e) ∙ found) other u sat)

pub ports_none : (lan : LanValue) (scripts : List Script) → AreTakenTo 0 lan scripts
ports_none lan scripts i script below found other u sat = absurd (omega (arith, below))

pub ports_all : (n : ℕ) (lan : LanValue) (scripts : List Script) → length scripts ≤ n → (AreOverTo n scripts → AreTakenTo n lan scripts)
    → AreOverTo (length scripts) scripts → AreTakenTo (length scripts) lan scripts
ports_all n lan scripts all taken over i script below found other u sat =
    taken (λ j s under at. over j s (slice_get_within scripts j s at) at) i script (omega (arith, below, all)) found other u sat
