-- The first entry that is to come to a unit, by where both stand: of which kind it is, and what is to come behind it.
use Rattle.std.proofs.Common.{◌≡◌, ◌≢◌, ◌∙◌, ◌⊎◌, inl, inr, ◌++◌, All, true, false, List, [], ◌∷◌, length, refl, sym, ap, subst}
use Rattle.std.proofs.lemmas.List.Elements.{All-head, All-nil, All-tail, All-weaker}
use Rattle.crq_session.specs.EndState.{EndState}
use Rattle.vio_num.specs.Entry.{is_srp_entry, srp_entry}
use Rattle.vio_num.specs.declared.entry.Entry.{Entry}
use Rattle.block_server.specs.Closings.{is_event}
use Rattle.block_server.specs.Doings.{Doing}
use Rattle.vscsi_client.specs.Units.{slot_address}
use Rattle.vcpu_run.specs.OwnOver.{AreShakes, EndsEarly, HasEntry, IsComing, IsShake, StandsBehind}
use Rattle.vcpu_run.specs.PlainTalk.{Ask}

first_of : (x y : Entry) (xs ys : List Entry) → x ∷ xs ≡ y ∷ ys → x ≡ y
first_of x y xs ys is = cc (is)

rest_of : (x y : Entry) (xs ys : List Entry) → x ∷ xs ≡ y ∷ ys → xs ≡ ys
rest_of x y xs ys is = cc (is)

no_entry : (x : Entry) (xs entries : List Entry) → entries ≡ [] → entries ≡ x ∷ xs → ⊥
no_entry x xs entries none is = cc (none, is)

pub head_none : (entries : List Entry) (entry : Entry) (rest : List Entry) → entries ≡ [] → entries ≡ entry ∷ rest → ⊥
head_none entries entry rest none is = no_entry entry rest entries none is

pub head_early : (d : Doing) (entry : Entry) (rest : List Entry) → EndsEarly d → d.coming ≡ entry ∷ rest → is_srp_entry entry ≡ true
head_early d entry rest early is = subst (λ (e : Entry). is_srp_entry e ≡ true) (first_of early.entry entry early.more rest (sym early.coming ∙ is)) early.srp

-- an entry of the initialisation, or an event
abbrev pub IsStir : Entry → Type 0
IsStir entry = IsShake entry ⊎ (is_event entry ≡ true)

pub head_shakes : (entries : List Entry) (entry : Entry) (rest : List Entry) → AreShakes entries → entries ≡ entry ∷ rest → IsStir entry × AreShakes rest
head_shakes entries entry rest all is = (All-head IsStir entry rest (subst AreShakes is all), All-tail IsStir entry rest (subst AreShakes is all))

-- the entry of the login itself, or one before it
pub record IsFirst (d : Doing) (own : EndState) (ask : Ask) (coming : IsComing d own ask) (entry : Entry) (rest : List Entry) : Type 0 where
  pub is : entry ≡ srp_entry (length ask.bytes) (slot_address ask.slot)
  pub behind : rest ≡ coming.back

pub record IsBefore (d : Doing) (own : EndState) (ask : Ask) (coming : IsComing d own ask) (entry : Entry) (rest : List Entry) : Type 0 where
  pub stir : IsStir entry
  pub front : List Entry
  pub shakes : AreShakes front
  pub queue : rest ≡ front ++ srp_entry (length ask.bytes) (slot_address ask.slot) ∷ coming.back

pub head_coming : (d : Doing) (own : EndState) (ask : Ask) (coming : IsComing d own ask) (entry : Entry) (rest : List Entry) → d.coming ≡ entry ∷ rest
    → IsFirst d own ask coming entry rest ⊎ IsBefore d own ask coming entry rest
head_coming d own ask coming entry rest is = by coming.front refl
  where
    asks : Entry
    asks = srp_entry (length ask.bytes) (slot_address ask.slot)

    parts : (front : List Entry) → coming.front ≡ front → front ++ asks ∷ coming.back ≡ entry ∷ rest
    parts front same = ap (λ (list : List Entry). list ++ asks ∷ coming.back) (sym same) ∙ sym coming.queue ∙ is

    by : (front : List Entry) → coming.front ≡ front → IsFirst d own ask coming entry rest ⊎ IsBefore d own ask coming entry rest
    by [] same = inl (record { is = sym (first_of asks entry coming.back rest (parts [] same)); behind = sym (rest_of asks entry coming.back rest (parts [] same)) })
    by (first ∷ front) same = inr (record {
      stir = subst IsStir (first_of first entry (front ++ asks ∷ coming.back) rest (parts (first ∷ front) same)) (All-head IsStir first front (subst AreShakes same coming.shakes));
      front = front;
      shakes = All-tail IsStir first front (subst AreShakes same coming.shakes);
      queue = sym (rest_of first entry (front ++ asks ∷ coming.back) rest (parts (first ∷ front) same));
    })

-- behind the login: an event of a client whose queue is not registered
pub record IsBehind (own : EndState) (entry : Entry) (rest : List Entry) : Type 0 where
  pub away : own.registered ≡ false
  pub event : is_event entry ≡ true
  pub more : All (λ (e : Entry). is_event e ≡ true) rest

pub head_behind : (own : EndState) (entries : List Entry) (entry : Entry) (rest : List Entry) → StandsBehind own entries → entries ≡ entry ∷ rest → IsBehind own entry rest
head_behind own entries entry rest (inl none) is = absurd (no_entry entry rest entries none is)
head_behind own entries entry rest (inr (away, all)) is = record {
  away = away;
  event = All-head (λ (e : Entry). is_event e ≡ true) entry rest (subst (All (λ (e : Entry). is_event e ≡ true)) is all);
  more = All-tail (λ (e : Entry). is_event e ≡ true) entry rest (subst (All (λ (e : Entry). is_event e ≡ true)) is all);
}

pub events_shakes : (entries : List Entry) → All (λ (e : Entry). is_event e ≡ true) entries → AreShakes entries
events_shakes entries all = All-weaker (λ (e : Entry). is_event e ≡ true) IsStir (λ entry is. inr is) entries all

pub behind_shakes : (own : EndState) (entries : List Entry) → StandsBehind own entries → AreShakes entries
behind_shakes own entries (inl none) = subst AreShakes (sym none) (All-nil IsStir)
behind_shakes own entries (inr (away, all)) = events_shakes entries all

-- one that is not the first stands behind it
pub has_tail : (one : Entry) (entries : List Entry) (entry : Entry) (rest : List Entry) → entries ≡ entry ∷ rest → entry ≢ one → HasEntry one entries → HasEntry one rest
has_tail one entries entry rest is apart ([], more, parts) = absurd (apart (sym (first_of one entry more rest (sym parts ∙ is))))
has_tail one entries entry rest is apart (first ∷ front, more, parts) = (front, more, sym (rest_of first entry (front ++ one ∷ more) rest (sym parts ∙ is)))
