-- A copy that was refused was refused by the client's window: the unit's own grants all.
use Rattle.std.proofs.Common.{◌≡◌, ◌+◌, ◌*◌, ◌/◌, ◌%◌, ◌<◌, ◌≤◌, ◌==◌, ℕ, Bool, true, false, List, [], ◌∷◌, Some, length, slice_get, refl, sym, ◌∙◌, ap, subst, arith}
use Rattle.tce_window.specs.Grant.{grants}
use Rattle.tce_window.specs.Pieces.{IsOfEntry, IsRefused}
use Rattle.tce_window.specs.PortState.{PortState}
use Rattle.tce_window.specs.declared.answers.HoldFault.{HoldFault}
use Rattle.tce_window.specs.declared.answers.HoldFault.TheVariants.{InUse, NotGranted, Past}
use Rattle.tce_window.specs.declared.answers.Right.{Right}
use Rattle.tce_window.specs.declared.answers.Right.TheVariants.{Read, Write}
use Rattle.rdma_copy.specs.Answers.{IfDestParm, IfSourceParm}
use Rattle.rdma_copy.specs.Copies.{MayHold, OnlyCopies, RefusesRange}
use Rattle.rdma_copy.specs.declared.copy.CopyAnswer.{CopyAnswer}
use Rattle.rdma_copy.specs.declared.copy.CopyAnswer.TheVariants as copies
use Rattle.block_server.specs.Causes.{IsDenied}
use Rattle.block_server.specs.Copied.{IsRefusal}
use Rattle.block_server.specs.SiteState.{AreReady}
use Rattle.block_server.proofs.Advancing.{begins_same}

-- the first value of an entry grants both rights
first_grants : (right : Right) (e : ℕ) → grants right (4096 * e + 3) ≡ true
first_grants Read e = odd ((4096 * e + 3) % 2) (omega arith)
  where
    odd : (n : ℕ) → n ≡ 1 → (n == 1) ≡ true
    odd n is = subst (λ (m : ℕ). (m == 1) ≡ true) (sym is) refl
first_grants Write e = odd ((4096 * e + 3) / 2 % 2) (omega arith)
  where
    odd : (n : ℕ) → n ≡ 1 → (n == 1) ≡ true
    odd n is = subst (λ (m : ℕ). (m == 1) ≡ true) (sym is) refl

-- the only value of a list of one is its last
pub only_one : (xs : List ℕ) (value version x : ℕ) → xs ≡ value ∷ [] → slice_get xs version ≡ Some x → length xs ≡ version + 1 → x ≡ value
only_one xs value version x is shown last =
    let none : version ≡ 0 = omega (arith, ap length is, last) in
    some_is value x (sym (ap (λ (ys : List ℕ). slice_get ys 0) is) ∙ ap (slice_get xs) (sym none) ∙ shown)
  where
    some_is : (a b : ℕ) → Some a ≡ Some b → b ≡ a
    some_is a b same = cc (same)

-- a window of 34 pages with its first values refuses no range that lies in it
own_grants : (values : ℕ → List ℕ) (right : Right) (n address len : ℕ) (fault : HoldFault) → n ≡ 34 → ((e : ℕ) → e < 34 → values e ≡ (4096 * e + 3) ∷ [])
    → address + len ≤ 139264 → IsOfEntry fault → ¬ IsRefused values right n address len fault
own_grants values right n address len (Past entry) size first inside of_entry is = absurd (omega (arith, is.1, is.2, size, inside))
own_grants values right n address len (NotGranted entry version tce) size first inside of_entry is =
    let lacks = is.3 in
    let below : entry < 34 = omega (arith, is.2, size) in
    let value_is = only_one (values entry) (4096 * entry + 3) version lacks.0 (first entry below) lacks.1.shown lacks.1.last in
    absurd (cc (lacks.2, ap (grants right) value_is, first_grants right entry))
own_grants values right n address len (InUse page word) size first inside of_entry is = absurd of_entry

-- of a window in which nobody else has a hand the values are as before a copy
pub same_first : (shared : Bool) (old new : PortState) → shared ≡ false → OnlyCopies shared old new → ((e : ℕ) → e < 34 → old.values e ≡ (4096 * e + 3) ∷ [])
    → (e : ℕ) → e < 34 → new.values e ≡ (4096 * e + 3) ∷ []
same_first true old new alone rest first e below = absurd (cc (alone))
same_first false old new alone rest first e below = rest.values e ∙ first e below

-- the client's window refused the range as it was then
client_denied : (shared : Bool) (old new : PortState) (right : Right) (address len : ℕ) (fault : HoldFault) → OnlyCopies shared old new
    → RefusesRange new right address len fault → IsDenied shared old new right address len
client_denied shared old new right address len fault rest is = record {
  fault = fault;
  denied_is = record {
    values = new.values;
    since = rest.values;
    until = λ e. begins_same (new.values e);
    of_entry = is.of_entry;
    refused = subst (λ (n : ℕ). IsRefused new.values right n address len fault) (ap (λ place. place.size) rest.place) is.refused;
  };
}

-- a copy from the client's window to the own one that was refused
pub fetch_denied : (own_shared shared : Bool) (own own' client client' : PortState) (address at len : ℕ) (answer : CopyAnswer) → own_shared ≡ false → AreReady own client
    → len ≤ 65536 → at + len ≤ 139264 → ((answer ≡ copies.Parameter) → 65536 < len)
    → IfSourceParm answer (RefusesRange client' Read address len) → IfDestParm answer (λ fault. RefusesRange own' Write at len fault × MayHold client' Read address len)
    → OnlyCopies own_shared own own' → OnlyCopies shared client client' → IsRefusal answer → IsDenied shared client client' Read address len
fetch_denied own_shared shared own own' client client' address at len copies.Parameter alone ready few inside long source target own_rest rest is = absurd (omega (arith, long refl, few))
fetch_denied own_shared shared own own' client client' address at len (copies.SourceParm fault) alone ready few inside long source target own_rest rest is =
    client_denied shared client client' Read address len fault rest source
fetch_denied own_shared shared own own' client client' address at len (copies.DestParm fault) alone ready few inside long source target own_rest rest is =
    absurd (own_grants own'.values Write own'.place.size at len fault (ap (λ place. place.size) own_rest.place ∙ ready.size)
    (same_first own_shared own own' alone own_rest ready.first) inside target.0.of_entry target.0.refused)
fetch_denied own_shared shared own own' client client' address at len (copies.Copied copy) alone ready few inside long source target own_rest rest is = absurd is
fetch_denied own_shared shared own own' client client' address at len (copies.Busy page word) alone ready few inside long source target own_rest rest is = absurd is
fetch_denied own_shared shared own own' client client' address at len copies.NoMemory alone ready few inside long source target own_rest rest is = absurd is

-- and one from the own window to the client's
pub deliver_denied : (own_shared shared : Bool) (own own' client client' : PortState) (address at len : ℕ) (answer : CopyAnswer) → own_shared ≡ false → AreReady own client
    → len ≤ 65536 → at + len ≤ 139264 → ((answer ≡ copies.Parameter) → 65536 < len)
    → IfSourceParm answer (RefusesRange own' Read at len) → IfDestParm answer (λ fault. RefusesRange client' Write address len fault × MayHold own' Read at len)
    → OnlyCopies own_shared own own' → OnlyCopies shared client client' → IsRefusal answer → IsDenied shared client client' Write address len
deliver_denied own_shared shared own own' client client' address at len copies.Parameter alone ready few inside long source target own_rest rest is = absurd (omega (arith, long refl, few))
deliver_denied own_shared shared own own' client client' address at len (copies.SourceParm fault) alone ready few inside long source target own_rest rest is =
    absurd (own_grants own'.values Read own'.place.size at len fault (ap (λ place. place.size) own_rest.place ∙ ready.size)
    (same_first own_shared own own' alone own_rest ready.first) inside source.of_entry source.refused)
deliver_denied own_shared shared own own' client client' address at len (copies.DestParm fault) alone ready few inside long source target own_rest rest is =
    client_denied shared client client' Write address len fault rest target.0
deliver_denied own_shared shared own own' client client' address at len (copies.Copied copy) alone ready few inside long source target own_rest rest is = absurd is
deliver_denied own_shared shared own own' client client' address at len (copies.Busy page word) alone ready few inside long source target own_rest rest is = absurd is
deliver_denied own_shared shared own own' client client' address at len copies.NoMemory alone ready few inside long source target own_rest rest is = absurd is
