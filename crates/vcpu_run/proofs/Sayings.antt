-- What a line says of a request that it sends, or does not, by the records before it.
use Rattle.std.proofs.Common.{◌≡◌, ◌≢◌, ◌∙◌, ℕ, ◌+◌, ◌*◌, ◌≤◌, ◌<◌, ◌==◌, ◌&&◌, nat_le, cond, Bool, true, false, [], ◌∷◌, ◌++◌, Option, Some, None, IfSome, length, min, refl, sym, ap, subst, arith}
use Rattle.std.specs.List.{Contains}
use Rattle.std.specs.Option.{option_map}
use Rattle.std.proofs.lemmas.Bool.Decides.{nat_tests}
use Rattle.boot_text.specs.declared.verb.Verb.{Verb}
use Rattle.boot_text.specs.declared.verb.Verb.TheVariants as verbs
use Rattle.vio_trace.specs.declared.outcome.Outcome.{Outcome}
use Rattle.vio_trace.specs.declared.outcome.Outcome.TheVariants as outcomes
use Rattle.vscsi_client.specs.declared.op.Dir.{Dir}
use Rattle.vscsi_client.specs.declared.op.Dir.TheVariants as dirs
use Rattle.vscsi_client.specs.declared.op.Op.{Op}
use Rattle.vscsi_client.specs.declared.answers.Refused.{Refused}
use Rattle.vscsi_client.specs.declared.answers.Refused.TheVariants as whys
use Rattle.vscsi_client.specs.Sending.{refused_by}
use Rattle.vscsi_client.specs.Spans.{in_range, by_dir, op_in_range, table_in_range, table_len}
use Rattle.vscsi_client.specs.State.{ClientState}
use Rattle.vcpu_run.specs.Commands.{HasData, HasNoData, IsOpOf}
use Rattle.unit_region.specs.Steps.{is_plain}
use Rattle.vcpu_run.specs.Freeing.{is_reset}
use Rattle.vcpu_run.specs.Refusals.{IsAsked, IsSaid, IsTried, LoginNow, credit_refusal, kept_by, login_by, tag_of, told_refusal}
use Rattle.vcpu_run.specs.Replay.{asks, lie_within, ranges_of, table_range}
use Rattle.vcpu_run.specs.Sendings.{says_as}
use Rattle.vcpu_run.specs.Telling.{AgreesTold}
use Rattle.lan_script.proofs.Order.{Ordered}
use Rattle.vcpu_run.proofs.Driving.{some_is}

-- the bytes of a line's command lie in the region exactly where those of its operation do
and_true : (b : Bool) → (b && true) ≡ b
and_true true = refl
and_true false = refl

data_lies : (pages at len pieces : ℕ) (table : Option ℕ) → lie_within pages (table_range pieces table) ≡ table_in_range pages table pieces
data_lies pages at len pieces None = refl
data_lies pages at len pieces (Some t) = and_true (in_range pages t (table_len pieces))

with_data : (pages at len pieces : ℕ) (table : Option ℕ) (dir : Dir) (op : Op) → (by_dir dir true (in_range pages at len) ≡ in_range pages at len) → HasData dir at len pieces table op
    → (in_range pages at len && lie_within pages (table_range pieces table)) ≡ op_in_range pages op
with_data pages at len pieces table dir op some h =
    ap (λ b. in_range pages at len && b) (data_lies pages at len pieces table)
    ∙ (ap (λ b. b && table_in_range pages table pieces) (sym some)
    ∙ (ap (λ d. by_dir d true (in_range pages at len) && table_in_range pages table pieces) (sym h.dir_is)
    ∙ (ap (λ a. by_dir op.dir true (in_range pages a len) && table_in_range pages table pieces) (sym h.at_is)
    ∙ (ap (λ n. by_dir op.dir true (in_range pages op.at n) && table_in_range pages table pieces) (sym h.len_is)
    ∙ (ap (λ t. by_dir op.dir true (in_range pages op.at op.len) && table_in_range pages t pieces) (sym h.table_is)
    ∙ ap (λ n. by_dir op.dir true (in_range pages op.at op.len) && table_in_range pages op.table n) (sym h.pieces_is))))))

without_data : (pages : ℕ) (op : Op) → HasNoData op → true ≡ op_in_range pages op
without_data pages op h =
    ap (λ d. by_dir d true (in_range pages op.at op.len) && true) (sym h.dir_is)
    ∙ ap (λ t. by_dir op.dir true (in_range pages op.at op.len) && table_in_range pages t op.pieces) (sym h.table_is)

pub same_range : (pages : ℕ) (verb : Verb) (op : Op) → IsOpOf verb op → lie_within pages (ranges_of verb) ≡ op_in_range pages op
same_range pages verbs.Tur op h = without_data pages op h
same_range pages (verbs.Read lba blocks at pieces table) op h = with_data pages at (512 * blocks) pieces table dirs.In op refl h
same_range pages (verbs.Write lba blocks at pieces table) op h = with_data pages at (512 * blocks) pieces table dirs.Out op refl h
same_range pages (verbs.Command cdb) op h = without_data pages op h
same_range pages (verbs.CommandIn cdb at len pieces table) op h = with_data pages at len pieces table dirs.In op refl h
same_range pages (verbs.CommandOut cdb at len pieces table) op h = with_data pages at len pieces table dirs.Out op refl h
same_range pages verbs.Login op h = absurd h
same_range pages verbs.Reset op h = absurd h
same_range pages verbs.Logout op h = absurd h
same_range pages (verbs.Task function tag) op h = absurd h
same_range pages (verbs.Take count) op h = absurd h
same_range pages (verbs.Data tag) op h = absurd h
same_range pages verbs.Open op h = absurd h
same_range pages verbs.Close op h = absurd h
same_range pages (verbs.Post at len count) op h = absurd h
same_range pages (verbs.Send to len seed at) op h = absurd h
same_range pages (verbs.ChangeMac own) op h = absurd h
same_range pages (verbs.Multicast control group) op h = absurd h
same_range pages (verbs.Fill at len seed) op h = absurd h
same_range pages (verbs.Poke at bytes) op h = absurd h
same_range pages (verbs.Peek at len) op h = absurd h
same_range pages (verbs.Tce entry page readable writable) op h = absurd h
same_range pages (verbs.Hcall number arguments) op h = absurd h
same_range pages verbs.Fail op h = absurd h

abbrev says_in : Option Refused → Option Outcome
says_in None = None
says_in (Some why) = says_as why

pub under : (g n : ℕ) (overlap : Option ℕ) → refused_by (Some g) n overlap ≡ None → n < g
under g n overlap none = left (nat_le g n) refl none
  where
    left : (b : Bool) → nat_le g n ≡ b → cond b (Some (whys.NoCredit 0)) (option_map whys.Overlap overlap) ≡ None → n < g
    left true is e = absurd (cc)
    left false is e = grind (arith, nat_tests)

abbrev pub is_logout : Verb → Bool
is_logout verbs.Logout = true
is_logout _ = false

-- whether a line is one of the client's own region
abbrev pub is_own : Verb → Bool
is_own (verbs.Fill at len seed) = true
is_own (verbs.Poke at bytes) = true
is_own (verbs.Peek at len) = true
is_own (verbs.Tce entry page readable writable) = true
is_own _ = false

-- what a line that asks says, and what its request leaves of a login
pub said_by : (pages : ℕ) (login : Option LoginNow) (verb : Verb) (outcome : Outcome) → asks verb ≡ true
    → IsAsked login (told_refusal pages (ranges_of verb) login) outcome → IsSaid pages login verb outcome
said_by pages login verbs.Login outcome is h = absurd (cc)
said_by pages login verbs.Reset outcome is h = absurd (cc)
said_by pages login verbs.Logout outcome is h = absurd (cc)
said_by pages login verbs.Tur outcome is h = h
said_by pages login (verbs.Read lba blocks at pieces table) outcome is h = h
said_by pages login (verbs.Write lba blocks at pieces table) outcome is h = h
said_by pages login (verbs.Command cdb) outcome is h = h
said_by pages login (verbs.CommandIn cdb at len pieces table) outcome is h = h
said_by pages login (verbs.CommandOut cdb at len pieces table) outcome is h = h
said_by pages login (verbs.Task function of) outcome is h = h
said_by pages login (verbs.Take count) outcome is h = absurd (cc)
said_by pages login (verbs.Data of) outcome is h = absurd (cc)
said_by pages login verbs.Open outcome is h = absurd (cc)
said_by pages login verbs.Close outcome is h = absurd (cc)
said_by pages login (verbs.Post at len count) outcome is h = absurd (cc)
said_by pages login (verbs.Send to len seed at) outcome is h = absurd (cc)
said_by pages login (verbs.ChangeMac own) outcome is h = absurd (cc)
said_by pages login (verbs.Multicast control group) outcome is h = absurd (cc)
said_by pages login (verbs.Fill at len seed) outcome is h = absurd (cc)
said_by pages login (verbs.Poke at bytes) outcome is h = absurd (cc)
said_by pages login (verbs.Peek at len) outcome is h = absurd (cc)
said_by pages login (verbs.Tce entry page readable writable) outcome is h = absurd (cc)
said_by pages login (verbs.Hcall number arguments) outcome is h = absurd (cc)
said_by pages login verbs.Fail outcome is h = absurd (cc)

-- a line that neither asks nor logs out says nothing of requests
pub says_nothing : (pages : ℕ) (login : Option LoginNow) (verb : Verb) (outcome : Outcome) → asks verb ≡ false → is_logout verb ≡ false → is_own verb ≡ false → IsSaid pages login verb outcome
says_nothing pages login verbs.Login outcome none is aside = tt
says_nothing pages login verbs.Reset outcome none is aside = tt
says_nothing pages login verbs.Logout outcome none is aside = absurd (cc)
says_nothing pages login verbs.Tur outcome none is aside = absurd (cc)
says_nothing pages login (verbs.Read lba blocks at pieces table) outcome none is aside = absurd (cc)
says_nothing pages login (verbs.Write lba blocks at pieces table) outcome none is aside = absurd (cc)
says_nothing pages login (verbs.Command cdb) outcome none is aside = absurd (cc)
says_nothing pages login (verbs.CommandIn cdb at len pieces table) outcome none is aside = absurd (cc)
says_nothing pages login (verbs.CommandOut cdb at len pieces table) outcome none is aside = absurd (cc)
says_nothing pages login (verbs.Task function of) outcome none is aside = absurd (cc)
says_nothing pages login (verbs.Take count) outcome none is aside = tt
says_nothing pages login (verbs.Data of) outcome none is aside = tt
says_nothing pages login verbs.Open outcome none is aside = tt
says_nothing pages login verbs.Close outcome none is aside = tt
says_nothing pages login (verbs.Post at len count) outcome none is aside = tt
says_nothing pages login (verbs.Send to len seed at) outcome none is aside = tt
says_nothing pages login (verbs.ChangeMac own) outcome none is aside = tt
says_nothing pages login (verbs.Multicast control group) outcome none is aside = tt
says_nothing pages login (verbs.Fill at len seed) outcome none is aside = absurd (cc)
says_nothing pages login (verbs.Poke at bytes) outcome none is aside = absurd (cc)
says_nothing pages login (verbs.Peek at len) outcome none is aside = absurd (cc)
says_nothing pages login (verbs.Tce entry page readable writable) outcome none is aside = absurd (cc)
says_nothing pages login (verbs.Hcall number arguments) outcome none is aside = tt
says_nothing pages login verbs.Fail outcome none is aside = tt

-- one request more under a login
abbrev pub one_asked : (tag : ℕ) → LoginNow → LoginNow
one_asked tag l = record l { outstanding = l.outstanding + 1; asked = l.asked ++ tag ∷ [] }

pub sent_login : (verb : Verb) (tag : ℕ) (login : Option LoginNow) → asks verb ≡ true → login_by verb (outcomes.Sent tag) login ≡ option_map (one_asked tag) login
sent_login verbs.Login tag login is = absurd (cc)
sent_login verbs.Reset tag login is = absurd (cc)
sent_login verbs.Logout tag login is = absurd (cc)
sent_login verbs.Tur tag login is = refl
sent_login (verbs.Read lba blocks at pieces table) tag login is = refl
sent_login (verbs.Write lba blocks at pieces table) tag login is = refl
sent_login (verbs.Command cdb) tag login is = refl
sent_login (verbs.CommandIn cdb at len pieces table) tag login is = refl
sent_login (verbs.CommandOut cdb at len pieces table) tag login is = refl
sent_login (verbs.Task function of) tag login is = refl
sent_login (verbs.Take count) tag login is = absurd (cc)
sent_login (verbs.Data of) tag login is = absurd (cc)
sent_login verbs.Open tag login is = absurd (cc)
sent_login verbs.Close tag login is = absurd (cc)
sent_login (verbs.Post at len count) tag login is = absurd (cc)
sent_login (verbs.Send to len seed at) tag login is = absurd (cc)
sent_login (verbs.ChangeMac own) tag login is = absurd (cc)
sent_login (verbs.Multicast control group) tag login is = absurd (cc)
sent_login (verbs.Fill at len seed) tag login is = absurd (cc)
sent_login (verbs.Poke at bytes) tag login is = absurd (cc)
sent_login (verbs.Peek at len) tag login is = absurd (cc)
sent_login (verbs.Tce entry page readable writable) tag login is = absurd (cc)
sent_login (verbs.Hcall number arguments) tag login is = absurd (cc)
sent_login verbs.Fail tag login is = absurd (cc)

-- but for a reset a login is kept
pub kept_login : (verb : Verb) (login : Option LoginNow) → is_reset verb ≡ false → kept_by verb login ≡ login
kept_login verbs.Login login not_reset = refl
kept_login verbs.Reset login not_reset = absurd (cc)
kept_login verbs.Logout login not_reset = refl
kept_login verbs.Tur login not_reset = refl
kept_login (verbs.Read lba blocks at pieces table) login not_reset = refl
kept_login (verbs.Write lba blocks at pieces table) login not_reset = refl
kept_login (verbs.Command cdb) login not_reset = refl
kept_login (verbs.CommandIn cdb at len pieces table) login not_reset = refl
kept_login (verbs.CommandOut cdb at len pieces table) login not_reset = refl
kept_login (verbs.Task function of) login not_reset = refl
kept_login (verbs.Take count) login not_reset = refl
kept_login (verbs.Data of) login not_reset = refl
kept_login verbs.Open login not_reset = refl
kept_login verbs.Close login not_reset = refl
kept_login (verbs.Post at len count) login not_reset = refl
kept_login (verbs.Send to len seed at) login not_reset = refl
kept_login (verbs.ChangeMac own) login not_reset = refl
kept_login (verbs.Multicast control group) login not_reset = refl
kept_login (verbs.Fill at len seed) login not_reset = refl
kept_login (verbs.Poke at bytes) login not_reset = refl
kept_login (verbs.Peek at len) login not_reset = refl
kept_login (verbs.Tce entry page readable writable) login not_reset = refl
kept_login (verbs.Hcall number arguments) login not_reset = refl
kept_login verbs.Fail login not_reset = refl

-- an outcome that tells of no login and of no request leaves it
pub plain_login : (verb : Verb) (outcome : Outcome) (login : Option LoginNow) → is_plain outcome ≡ true → login_by verb outcome login ≡ kept_by verb login
plain_login verb (outcomes.Granted credits) login plain = absurd (cc)
plain_login verb (outcomes.Rejected reason) login plain = refl
plain_login verb outcomes.Lost login plain = absurd (cc)
plain_login verb outcomes.Unanswered login plain = refl
plain_login verb (outcomes.Sent tag) login plain = absurd (cc)
plain_login verb outcomes.Range login plain = refl
plain_login verb outcomes.NotLoggedIn login plain = refl
plain_login verb (outcomes.NoCredit limit) login plain = refl
plain_login verb (outcomes.Overlap tag) login plain = refl
plain_login verb outcomes.Closed login plain = refl
plain_login verb (outcomes.Dropped number held) login plain = refl
plain_login verb (outcomes.Took count) login plain = absurd (cc)
plain_login verb (outcomes.TookThenLost count) login plain = absurd (cc)
plain_login verb (outcomes.Data len sum) login plain = refl
plain_login verb (outcomes.Stale page) login plain = refl
plain_login verb outcomes.Unknown login plain = refl
plain_login verb (outcomes.Code code) login plain = refl
plain_login verb (outcomes.Value value) login plain = refl
plain_login verb (outcomes.Posted buffers code) login plain = refl
plain_login verb (outcomes.Frame code number) login plain = refl
plain_login verb outcomes.Done login plain = refl
plain_login verb (outcomes.Bytes shown) login plain = refl

pub plain_tags : (outcome : Outcome) → is_plain outcome ≡ true → tag_of outcome ≡ []
plain_tags (outcomes.Granted credits) plain = absurd (cc)
plain_tags (outcomes.Rejected reason) plain = refl
plain_tags outcomes.Lost plain = absurd (cc)
plain_tags outcomes.Unanswered plain = refl
plain_tags (outcomes.Sent tag) plain = absurd (cc)
plain_tags outcomes.Range plain = refl
plain_tags outcomes.NotLoggedIn plain = refl
plain_tags (outcomes.NoCredit limit) plain = refl
plain_tags (outcomes.Overlap tag) plain = refl
plain_tags outcomes.Closed plain = refl
plain_tags (outcomes.Dropped number held) plain = refl
plain_tags (outcomes.Took count) plain = absurd (cc)
plain_tags (outcomes.TookThenLost count) plain = absurd (cc)
plain_tags (outcomes.Data len sum) plain = refl
plain_tags (outcomes.Stale page) plain = refl
plain_tags outcomes.Unknown plain = refl
plain_tags (outcomes.Code code) plain = refl
plain_tags (outcomes.Value value) plain = refl
plain_tags (outcomes.Posted buffers code) plain = refl
plain_tags (outcomes.Frame code number) plain = refl
plain_tags outcomes.Done plain = refl
plain_tags (outcomes.Bytes shown) plain = refl

-- at most one tag is told
pub one_tag : (outcome : Outcome) → Ordered (λ a b. a < b) (tag_of outcome)
one_tag (outcomes.Granted credits) = tt
one_tag (outcomes.Rejected reason) = tt
one_tag outcomes.Lost = tt
one_tag outcomes.Unanswered = tt
one_tag (outcomes.Sent tag) = (tt, tt)
one_tag outcomes.Range = tt
one_tag outcomes.NotLoggedIn = tt
one_tag (outcomes.NoCredit limit) = tt
one_tag (outcomes.Overlap tag) = tt
one_tag outcomes.Closed = tt
one_tag (outcomes.Dropped number held) = tt
one_tag (outcomes.Took count) = tt
one_tag (outcomes.TookThenLost count) = tt
one_tag (outcomes.Data len sum) = tt
one_tag (outcomes.Stale page) = tt
one_tag outcomes.Unknown = tt
one_tag (outcomes.Code code) = tt
one_tag (outcomes.Value value) = tt
one_tag (outcomes.Posted buffers code) = tt
one_tag (outcomes.Frame code number) = tt
one_tag outcomes.Done = tt
one_tag (outcomes.Bytes shown) = tt

-- where nothing speaks against a request, nothing does by the records
pub credit_none : (login : Option LoginNow) (s : ClientState) (overlap : Option ℕ) → AgreesTold 0 login s
    → refused_by s.granted (length s.outgoing) overlap ≡ None → credit_refusal login ≡ None
credit_none None s overlap agrees none =
    absurd (not_none (subst (λ (g : Option ℕ). refused_by g (length s.outgoing) overlap ≡ None) agrees none))
  where
    not_none : refused_by None (length s.outgoing) overlap ≡ None → ⊥
    not_none e = cc
credit_none (Some l) s overlap agrees none =
    let less : length s.outgoing < min l.granted 200 = under (min l.granted 200) (length s.outgoing) overlap
    (subst (λ (g : Option ℕ). refused_by g (length s.outgoing) overlap ≡ None) agrees.granted none) in
    left (l.outstanding == min l.granted 200) refl less
  where
    left : (b : Bool) → (l.outstanding == min l.granted 200) ≡ b → length s.outgoing < min l.granted 200 → cond b (Some (outcomes.NoCredit 0)) None ≡ None
    left true is less =
        let same : l.outstanding ≡ min l.granted 200 = grind (arith, nat_tests) in absurd (omega (arith, same, less, agrees.outstanding))
    left false is less = refl

-- a request that is refused says so
pub asked_why : (login : Option LoginNow) (s : ClientState) (overlap : Option ℕ) (why : Refused) (outcome : Outcome) → AgreesTold 0 login s
    → refused_by s.granted (length s.outgoing) overlap ≡ Some why → says_as why ≡ Some outcome
    → IfSome overlap (λ tag. IfSome login (λ l. Contains l.asked tag)) → IsAsked login (credit_refusal login) outcome
asked_why None s overlap why outcome agrees is says over =
    let why_is : Some whys.NotLoggedIn ≡ Some why = subst (λ (g : Option ℕ). refused_by g (length s.outgoing) overlap ≡ Some why) agrees is in
    some_is outcome outcomes.NotLoggedIn (sym says ∙ ap says_in (sym why_is))
asked_why (Some l) s overlap why outcome agrees is says over =
    at (nat_le (min l.granted 200) (length s.outgoing)) refl overlap over
    (subst (λ (g : Option ℕ). refused_by g (length s.outgoing) overlap ≡ Some why) agrees.granted is)
  where
    none : (b : Bool) → (l.outstanding == min l.granted 200) ≡ b → outcome ≡ outcomes.NoCredit 0 → min l.granted 200 ≤ length s.outgoing
        → IsAsked (Some l) (cond b (Some (outcomes.NoCredit 0)) None) outcome
    none true e said more = said
    none false e said more =
        let other : l.outstanding ≢ min l.granted 200 = grind (arith, nat_tests) in
        let same : l.outstanding ≡ min l.granted 200 = omega (arith, more, agrees.outstanding, agrees.within) in absurd (other same)

    some : (b : Bool) (tag : ℕ) → (l.outstanding == min l.granted 200) ≡ b → outcome ≡ outcomes.Overlap tag → length s.outgoing < min l.granted 200 → Contains l.asked tag
        → IsAsked (Some l) (cond b (Some (outcomes.NoCredit 0)) None) outcome
    some true tag e said less there =
        let same : l.outstanding ≡ min l.granted 200 = grind (arith, nat_tests) in absurd (omega (arith, same, less, agrees.outstanding))
    some false tag e said less there = subst (IsTried l.asked) (sym said) there

    at : (b : Bool) → nat_le (min l.granted 200) (length s.outgoing) ≡ b → (over : Option ℕ) → IfSome over (λ tag. Contains l.asked tag)
        → cond b (Some (whys.NoCredit 0)) (option_map whys.Overlap over) ≡ Some why → IsAsked (Some l) (credit_refusal (Some l)) outcome
    at true e over there w =
        none (l.outstanding == min l.granted 200) refl (some_is outcome (outcomes.NoCredit 0) (sym says ∙ ap says_in (sym w))) (grind (arith, nat_tests))
    at false e None there w = absurd (cc)
    at false e (Some tag) there w =
        some (l.outstanding == min l.granted 200) tag refl (some_is outcome (outcomes.Overlap tag) (sym says ∙ ap says_in (sym w))) (grind (arith, nat_tests)) there
