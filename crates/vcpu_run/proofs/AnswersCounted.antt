-- What the records tell of the answers that a client took, as the steps of its lines go on.
use Rattle.std.proofs.Common.{◌≡◌, ◌∙◌, ◌⊎◌, inl, inr, ℕ, ◌+◌, ◌<◌, ◌==◌, Bool, true, false, List, [], ◌∷◌, ◌++◌, Result, Ok, Err, length, refl, sym, ap, subst, arith, eqb-true}
use Rattle.std.proofs.lemmas.List.{map-append}
use Rattle.vio_num.specs.declared.memory.NoMemory.{NoMemory}
use Rattle.boot_text.specs.declared.verb.Verb.{Verb}
use Rattle.boot_text.specs.declared.verb.Verb.TheVariants as verbs
use Rattle.vio_trace.specs.declared.outcome.Outcome.{Outcome}
use Rattle.vio_trace.specs.declared.outcome.Outcome.TheVariants as outcomes
use Rattle.vio_trace.specs.declared.rows.AnswerRow.{AnswerRow}
use Rattle.unit_region.specs.declared.step.Step.{Step}
use Rattle.unit_region.specs.declared.step.Step.TheVariants as steps
use Rattle.unit_region.specs.Steps.{IsPlain, is_plain}
use Rattle.vscsi_client.specs.State.{tags_of}
use Rattle.vscsi_client.specs.declared.outgoing.Outgoing.{Outgoing}
use Rattle.vscsi_client.specs.declared.row.Row.{Row}
use Rattle.vcpu_run.specs.declared.driver.Driver.{Driver}
use Rattle.vcpu_run.specs.AnswersTaken.{IsTakeSaid, TakesNow, answered_tags, has_tag, reads_in, sent_inward, takes_by}
use Rattle.vcpu_run.specs.Credited.{is_take}
use Rattle.vcpu_run.specs.Takings.{AgreesTaken, FitsTag, IsTakenUpTo, KeepsTaken, StepsTaken}
use Rattle.vcpu_run.specs.TagRows.{is_given, is_inward, row_at}
use Rattle.vcpu_run.proofs.Announcing.{both_bools}
use Rattle.vcpu_run.proofs.TagsKept.{fits_more, has_else, has_this, row_past}

-- whether a line gives the data of a tag
abbrev pub is_data : Verb → Bool
is_data (verbs.Data tag) = true
is_data _ = false

-- a record that tells of no login, request or answer changes nothing
pub plain_takes : (verb : Verb) (outcome : Outcome) (now : TakesNow) → is_plain outcome ≡ true → takes_by verb outcome now ≡ now
plain_takes verb (outcomes.Granted credits) now plain = absurd (cc)
plain_takes verb (outcomes.Rejected reason) now plain = refl
plain_takes verb outcomes.Lost now plain = absurd (cc)
plain_takes verb outcomes.Unanswered now plain = refl
plain_takes verb (outcomes.Sent tag) now plain = absurd (cc)
plain_takes verb outcomes.Range now plain = refl
plain_takes verb outcomes.NotLoggedIn now plain = refl
plain_takes verb (outcomes.NoCredit limit) now plain = refl
plain_takes verb (outcomes.Overlap tag) now plain = refl
plain_takes verb outcomes.Closed now plain = refl
plain_takes verb (outcomes.Dropped number held) now plain = refl
plain_takes verb (outcomes.Took count) now plain = absurd (cc)
plain_takes verb (outcomes.TookThenLost count) now plain = absurd (cc)
plain_takes verb (outcomes.Data len sum) now plain = refl
plain_takes verb (outcomes.Stale page) now plain = refl
plain_takes verb outcomes.Unknown now plain = refl
plain_takes verb (outcomes.Code code) now plain = refl
plain_takes verb (outcomes.Value value) now plain = refl
plain_takes verb (outcomes.Posted buffers code) now plain = refl
plain_takes verb (outcomes.Frame code number) now plain = refl
plain_takes verb outcomes.Done now plain = refl
plain_takes verb (outcomes.Bytes shown) now plain = refl

-- a line that neither takes nor gives data says nothing of answers
pub said_none : (tags : List ℕ) (now : TakesNow) (verb : Verb) (outcome : Outcome) → is_take verb ≡ false → is_data verb ≡ false → IsTakeSaid tags now verb outcome
said_none tags now verbs.Login outcome no_take no_data = tt
said_none tags now verbs.Reset outcome no_take no_data = tt
said_none tags now verbs.Logout outcome no_take no_data = tt
said_none tags now verbs.Tur outcome no_take no_data = tt
said_none tags now (verbs.Read lba blocks at pieces table) outcome no_take no_data = tt
said_none tags now (verbs.Write lba blocks at pieces table) outcome no_take no_data = tt
said_none tags now (verbs.Command cdb) outcome no_take no_data = tt
said_none tags now (verbs.CommandIn cdb at len pieces table) outcome no_take no_data = tt
said_none tags now (verbs.CommandOut cdb at len pieces table) outcome no_take no_data = tt
said_none tags now (verbs.Task function tag) outcome no_take no_data = tt
said_none tags now (verbs.Take count) outcome no_take no_data = absurd (cc)
said_none tags now (verbs.Data tag) outcome no_take no_data = absurd (cc)
said_none tags now verbs.Open outcome no_take no_data = tt
said_none tags now verbs.Close outcome no_take no_data = tt
said_none tags now (verbs.Post at len count) outcome no_take no_data = tt
said_none tags now (verbs.Send mac len seed at) outcome no_take no_data = tt
said_none tags now (verbs.ChangeMac mac) outcome no_take no_data = tt
said_none tags now (verbs.Multicast control mac) outcome no_take no_data = tt
said_none tags now (verbs.Fill at len seed) outcome no_take no_data = tt
said_none tags now (verbs.Poke at bytes) outcome no_take no_data = tt
said_none tags now (verbs.Peek at len) outcome no_take no_data = tt
said_none tags now (verbs.Tce entry page readable writable) outcome no_take no_data = tt
said_none tags now (verbs.Hcall number arguments) outcome no_take no_data = tt
said_none tags now verbs.Fail outcome no_take no_data = tt

-- and has taken nothing
pub up_to_none : (verb : Verb) (taken : ℕ) → is_take verb ≡ false → IsTakenUpTo verb taken → taken ≡ 0
up_to_none verbs.Login taken no_take none = none
up_to_none verbs.Reset taken no_take none = none
up_to_none verbs.Logout taken no_take none = none
up_to_none verbs.Tur taken no_take none = none
up_to_none (verbs.Read lba blocks at pieces table) taken no_take none = none
up_to_none (verbs.Write lba blocks at pieces table) taken no_take none = none
up_to_none (verbs.Command cdb) taken no_take none = none
up_to_none (verbs.CommandIn cdb at len pieces table) taken no_take none = none
up_to_none (verbs.CommandOut cdb at len pieces table) taken no_take none = none
up_to_none (verbs.Task function tag) taken no_take none = none
up_to_none (verbs.Take count) taken no_take none = absurd (cc)
up_to_none (verbs.Data tag) taken no_take none = none
up_to_none verbs.Open taken no_take none = none
up_to_none verbs.Close taken no_take none = none
up_to_none (verbs.Post at len count) taken no_take none = none
up_to_none (verbs.Send mac len seed at) taken no_take none = none
up_to_none (verbs.ChangeMac mac) taken no_take none = none
up_to_none (verbs.Multicast control mac) taken no_take none = none
up_to_none (verbs.Fill at len seed) taken no_take none = none
up_to_none (verbs.Poke at bytes) taken no_take none = none
up_to_none (verbs.Peek at len) taken no_take none = none
up_to_none (verbs.Tce entry page readable writable) taken no_take none = none
up_to_none (verbs.Hcall number arguments) taken no_take none = none
up_to_none verbs.Fail taken no_take none = none

pub none_up_to : (verb : Verb) (taken : ℕ) → is_take verb ≡ false → taken ≡ 0 → IsTakenUpTo verb taken
none_up_to verbs.Login taken no_take none = none
none_up_to verbs.Reset taken no_take none = none
none_up_to verbs.Logout taken no_take none = none
none_up_to verbs.Tur taken no_take none = none
none_up_to (verbs.Read lba blocks at pieces table) taken no_take none = none
none_up_to (verbs.Write lba blocks at pieces table) taken no_take none = none
none_up_to (verbs.Command cdb) taken no_take none = none
none_up_to (verbs.CommandIn cdb at len pieces table) taken no_take none = none
none_up_to (verbs.CommandOut cdb at len pieces table) taken no_take none = none
none_up_to (verbs.Task function tag) taken no_take none = none
none_up_to (verbs.Take count) taken no_take none = absurd (cc)
none_up_to (verbs.Data tag) taken no_take none = none
none_up_to verbs.Open taken no_take none = none
none_up_to verbs.Close taken no_take none = none
none_up_to (verbs.Post at len count) taken no_take none = none
none_up_to (verbs.Send mac len seed at) taken no_take none = none
none_up_to (verbs.ChangeMac mac) taken no_take none = none
none_up_to (verbs.Multicast control mac) taken no_take none = none
none_up_to (verbs.Fill at len seed) taken no_take none = none
none_up_to (verbs.Poke at bytes) taken no_take none = none
none_up_to (verbs.Peek at len) taken no_take none = none
none_up_to (verbs.Tce entry page readable writable) taken no_take none = none
none_up_to (verbs.Hcall number arguments) taken no_take none = none
none_up_to verbs.Fail taken no_take none = none

-- The tags and the requests of a client are those of before.
pub record SameTags (a b : Driver) : Type 0 where
  pub answers : b.answers.items ≡ a.answers.items
  pub rows : b.client.rows ≡ a.client.rows
  pub outgoing : b.client.outgoing ≡ a.client.outgoing

fits_as : (rs rs' : List Row) (asked asked' tags tags' inward : List ℕ) (t : ℕ) → rs' ≡ rs → asked' ≡ asked → tags' ≡ tags → FitsTag rs asked tags inward t → FitsTag rs' asked' tags' inward t
fits_as rs rs' asked asked' tags tags' inward t r a g fits =
    subst (λ (x : List Row). FitsTag x asked' tags' inward t) (sym r) (subst (λ (x : List ℕ). FitsTag rs x tags' inward t) (sym a) (subst (λ (x : List ℕ). FitsTag rs asked x inward t) (sym g) fits))

pub same_agrees : (taken : ℕ) (now : TakesNow) (a b : Driver) → SameTags a b → AgreesTaken taken now a → AgreesTaken taken now b
same_agrees taken now a b same agrees = record {
  count = ap length same.answers ∙ agrees.count;
  tags = λ t. fits_as a.client.rows b.client.rows (tags_of a.client.outgoing) (tags_of b.client.outgoing) (answered_tags a.answers.items) (answered_tags b.answers.items) now.inward t
      same.rows (ap tags_of same.outgoing) (ap answered_tags same.answers) (agrees.tags t);
}

-- a step that tells of no login, request or answer
pub plain_taken : (verb : Verb) (taken : ℕ) (a b : Driver) (result : Result Step NoMemory) → is_take verb ≡ false → is_data verb ≡ false → SameTags a b → IsPlain result
    → StepsTaken verb taken taken a b result
plain_taken verb taken a b (Ok (steps.Ends outcome)) no_take no_data same plain = λ up_to now agrees. (
  said_none (answered_tags b.answers.items) now verb outcome no_take no_data,
  subst (λ (n : TakesNow). AgreesTaken 0 n b) (sym (plain_takes verb outcome now plain))
      (same_agrees 0 now a b same (subst (λ n. AgreesTaken n now a) (up_to_none verb taken no_take up_to) agrees)),
)
plain_taken verb taken a b (Ok (steps.Waits did)) no_take no_data same plain = λ up_to. (up_to, λ now agrees. same_agrees taken now a b same agrees)
plain_taken verb taken a b (Err memory) no_take no_data same plain = tt

-- no command with data-in has a tag that was not used
pub no_inward : (rs : List Row) (asked tags inward : List ℕ) (t : ℕ) → FitsTag rs asked tags inward t → length rs < t → has_tag t inward ≡ false
no_inward rs asked tags inward t fits past = at (has_tag t inward) refl
  where
    at : (b : Bool) → has_tag t inward ≡ b → has_tag t inward ≡ false
    at true e = absurd (both_bools (is_inward (row_at rs t)) (fits.sent e) (ap is_inward (row_past rs t past)))
    at false e = e

-- a request was sent under the next tag: what is known of the others stays
sent_fits : (rs : List Row) (row : Row) (asked asked' tags inward : List ℕ) (inw : Bool) (now : TakesNow) (t : ℕ) → now.inward ≡ inward → is_inward row ≡ inw → is_given row ≡ false
    → ((length rs + 1 == t) ≡ false → has_tag t asked' ≡ has_tag t asked) → FitsTag rs asked tags inward t → FitsTag (rs ++ row ∷ []) asked' tags (sent_inward inw (length rs + 1) now).inward t
sent_fits rs row asked asked' tags inward true now t is row_is none same fits =
    subst (λ (xs : List ℕ). FitsTag (rs ++ row ∷ []) asked' tags (xs ++ (length rs + 1) ∷ []) t) (sym is)
    (fits_more rs row asked asked' tags inward (inward ++ (length rs + 1) ∷ []) t fits same (has_else t (length rs + 1) inward) (λ e. has_this t (length rs + 1) inward e ∙ sym row_is) none)
sent_fits rs row asked asked' tags inward false now t is row_is none same fits =
    subst (λ (xs : List ℕ). FitsTag (rs ++ row ∷ []) asked' tags xs t) (sym is)
    (fits_more rs row asked asked' tags inward inward t fits same (λ e. refl)
    (λ e. no_inward rs asked tags inward t fits (let same : length rs + 1 ≡ t = eqb-true (length rs + 1) t e in omega (arith, same)) ∙ sym row_is) none)

-- What a request leaves that was sent under a tag: its row, and that it is outstanding, if it may be answered.
pub record SendsAs (row : Row) (tag : ℕ) (a b : Driver) : Type 0 where
  pub answers : b.answers.items ≡ a.answers.items
  pub tag_is : tag ≡ length a.client.rows + 1
  pub rows : b.client.rows ≡ a.client.rows ++ row ∷ []
  pub outgoing : (b.client.outgoing ≡ a.client.outgoing) ⊎ ((o : Outgoing) × (o.tag ≡ tag) × (b.client.outgoing ≡ a.client.outgoing ++ o ∷ []))
  pub none : is_given row ≡ false

asked_else : (tag t : ℕ) (a b : Driver) → (tag == t) ≡ false → (b.client.outgoing ≡ a.client.outgoing) ⊎ ((o : Outgoing) × (o.tag ≡ tag) × (b.client.outgoing ≡ a.client.outgoing ++ o ∷ []))
    → has_tag t (tags_of b.client.outgoing) ≡ has_tag t (tags_of a.client.outgoing)
asked_else tag t a b apart (inl same) = ap (λ (os : List Outgoing). has_tag t (tags_of os)) same
asked_else tag t a b apart (inr more) =
    ap (λ (os : List Outgoing). has_tag t (tags_of os)) more.2
    ∙ (ap (has_tag t) (map-append (λ (o : Outgoing). o.tag) a.client.outgoing (more.0 ∷ []))
    ∙ has_else t more.0.tag (tags_of a.client.outgoing) (subst (λ n. (n == t) ≡ false) (sym more.1) apart))

sent_agrees : (verb : Verb) (row : Row) (tag : ℕ) (now : TakesNow) (a b : Driver) → is_inward row ≡ reads_in verb → SendsAs row tag a b → AgreesTaken 0 now a
    → AgreesTaken 0 (sent_inward (reads_in verb) tag now) b
sent_agrees verb row tag now a b direction sends agrees = record {
  count = ap length sends.answers ∙ (agrees.count ∙ ap (λ n. n + 0) (sym (same_count (reads_in verb))));
  tags = λ t.
      subst (λ (xs : List Row). FitsTag xs (tags_of b.client.outgoing) (answered_tags b.answers.items) (sent_inward (reads_in verb) tag now).inward t) (sym sends.rows)
      (subst (λ (xs : List AnswerRow). FitsTag (a.client.rows ++ row ∷ []) (tags_of b.client.outgoing) (answered_tags xs) (sent_inward (reads_in verb) tag now).inward t) (sym sends.answers)
      (subst (λ n. FitsTag (a.client.rows ++ row ∷ []) (tags_of b.client.outgoing) (answered_tags a.answers.items) (sent_inward (reads_in verb) n now).inward t) (sym sends.tag_is)
      (sent_fits a.client.rows row (tags_of a.client.outgoing) (tags_of b.client.outgoing) (answered_tags a.answers.items) now.inward (reads_in verb) now t refl direction sends.none
      (λ e. asked_else (length a.client.rows + 1) t a b e (subst (λ n. (b.client.outgoing ≡ a.client.outgoing) ⊎ ((o : Outgoing) × (o.tag ≡ n) × (b.client.outgoing ≡ a.client.outgoing ++ o ∷ []))) sends.tag_is sends.outgoing))
      (agrees.tags t))));
}
  where
    same_count : (b : Bool) → (sent_inward b tag now).count ≡ now.count
    same_count true = refl
    same_count false = refl

-- a line that sent a request
pub sent_taken : (verb : Verb) (row : Row) (tag : ℕ) (a b : Driver) (result : Result Step NoMemory) → is_take verb ≡ false → is_data verb ≡ false → is_inward row ≡ reads_in verb
    → SendsAs row tag a b → result ≡ Ok (steps.Ends (outcomes.Sent tag)) → StepsTaken verb 0 0 a b result
sent_taken verb row tag a b result no_take no_data direction sends is =
    subst (StepsTaken verb 0 0 a b) (sym is)
    (λ up_to now agrees. (said_none (answered_tags b.answers.items) now verb (outcomes.Sent tag) no_take no_data, sent_agrees verb row tag now a b direction sends agrees))

-- a line that takes nothing, whatever its progress
pub none_taken : (verb : Verb) (taken : ℕ) (a b : Driver) (result : Result Step NoMemory) → is_take verb ≡ false → StepsTaken verb 0 0 a b result → StepsTaken verb taken taken a b result
none_taken verb taken a b (Ok step) no_take steps_so = λ up_to.
    let none : taken ≡ 0 = up_to_none verb taken no_take up_to in
    subst (λ n. KeepsTaken verb n n a b step) (sym none) (steps_so (none_up_to verb 0 no_take refl))
none_taken verb taken a b (Err memory) no_take steps_so = tt

pub from_taken : (verb : Verb) (taken : ℕ) (a b : Driver) (result : Result Step NoMemory) → is_take verb ≡ false → StepsTaken verb 0 0 a b result → StepsTaken verb taken 0 a b result
from_taken verb taken a b (Ok step) no_take steps_so = λ up_to.
    let none : taken ≡ 0 = up_to_none verb taken no_take up_to in
    subst (λ n. KeepsTaken verb n 0 a b step) (sym none) (steps_so (none_up_to verb 0 no_take refl))
from_taken verb taken a b (Err memory) no_take steps_so = tt
