-- Which buffers the steps of a line post.
use Rattle.std.proofs.Common.{◌≡◌, ◌+◌, ◌*◌, ◌<◌, ℕ, suc, arith, Bool, true, false, IfOk, IfSome, IsSome, OnOk, List, [], ◌∷◌, ◌++◌, append-nil, Option, Some, None, Result, Ok, Err, length, length-append, map, min, refl, sym, ◌∙◌, ap, subst}
use Rattle.std.proofs.lemmas.List.{append_assoc, map-append}
use Rattle.vio_num.specs.Words.{Begins}
use Rattle.vio_num.specs.declared.names.UnitId.{UnitId}
use Rattle.vio_num.specs.declared.hypervisor.Hrc.{Hrc}
use Rattle.vio_num.specs.declared.hypervisor.Hrc.TheVariants.{Success}
use Rattle.vio_num.specs.declared.memory.NoMemory.{NoMemory}
use Rattle.boot_text.specs.declared.verb.Verb.{Verb}
use Rattle.boot_text.specs.declared.verb.Verb.TheVariants as verbs
use Rattle.vio_trace.specs.declared.lan_rows.PostRow.{PostRow}
use Rattle.vio_trace.specs.declared.outcome.Outcome.TheVariants as outcomes
use Rattle.tce_window.specs.PortState.{PortState}
use Rattle.lan_buffers.specs.Port.{PortValue}
use Rattle.lan_switch.specs.declared.answers.LanAnswer.{LanAnswer}
use Rattle.lan_switch.specs.declared.station.Station.{Station}
use Rattle.lan_switch.specs.Calls.{Adds}
use Rattle.lan_switch.specs.Switch.{AtPort, MadeAt, port_of}
use Rattle.lan_script.specs.Buffers.{AddsAt, AddsBuffer, AddsBuffers, PostsStep, buffers_after, buffers_by, descriptor_of, line_buffers, posted_at, posted_of}
use Rattle.lan_script.specs.Invariant.{IsLan}
use Rattle.lan_script.specs.PortCounts.{CountsOn, CountsStep, PortCounts, SameCounts, counts, counts_in, posted_on}
use Rattle.lan_script.specs.Rows.{post_rows}
use Rattle.lan_script.specs.Seats.{is_in_region, seat_at}
use Rattle.lan_script.specs.Spent.{AllGrow, Grows}
use Rattle.lan_script.specs.Taking.{TakesUpTo}
use Rattle.lan_script.specs.Units.{LanValue}
use Rattle.lan_script.specs.declared.lines.PortStep.{PortStep}
use Rattle.lan_script.specs.declared.lines.PortStep.TheVariants as steps
use Rattle.lan_script.proofs.Bringing.{begun_at}
use Rattle.lan_script.proofs.CountedCalls.{HasBegun, adds_begun, no_post}
use Rattle.lan_script.proofs.Lans.{port_there, port_with}
use Rattle.lan_script.proofs.PostRows.{rows_behind}

none_long : {X : Type 0} (l : List X) → length l ≡ 0 → l ≡ []
none_long [] e = refl
none_long (x ∷ xs) e = absurd (omega (arith, e))

-- a list that is no longer than its front is that front
pub begins_whole : {X : Type 0} (front whole : List X) → Begins front whole → length whole ≡ length front → whole ≡ front
begins_whole front whole (more, e) same =
    e ∙ ap (λ l. front ++ l) (none_long more (omega (arith, ap (λ l. length l) e, length-append front more, same))) ∙ append-nil front

-- a port that posted none more has the buffers that it had
pub posted_still : (unit : UnitId) (before after : Option PortValue) → Grows before after → (counts_in unit after).posts ≡ (counts_in unit before).posts
    → posted_of unit after ≡ posted_of unit before
posted_still unit None None grows same = refl
posted_still unit None (Some after) grows same = absurd grows
posted_still unit (Some before) None grows same = absurd grows
posted_still unit (Some before) (Some after) grows same =
    ap (λ (l : List PostRow). map (λ (r : PostRow). r.descriptor) l) (begins_whole (post_rows unit before) (post_rows unit after) (grows.rows unit) same)

-- a port that lost no row has the buffers that it had, and others behind them, if any
posted_grows : (unit : UnitId) (before after : Option PortValue) → Grows before after → Begins (posted_of unit before) (posted_of unit after)
posted_grows unit None None grows = ([], refl)
posted_grows unit None (Some after) grows = absurd grows
posted_grows unit (Some before) None grows = absurd grows
posted_grows unit (Some before) (Some after) grows =
    let rows = grows.rows unit in (
      map (λ (r : PostRow). r.descriptor) rows.0,
      ap (λ (l : List PostRow). map (λ (r : PostRow). r.descriptor) l) rows.1 ∙ map-append (λ (r : PostRow). r.descriptor) (post_rows unit before) rows.0,
    )

pub grown_posted : (lan lan' : LanValue) (unit : UnitId) → AllGrow lan lan' → Begins (posted_at lan unit) (posted_at lan' unit)
grown_posted lan lan' unit grows = posted_grows unit (port_of lan.stations unit) (port_of lan'.stations unit) (grows unit)

pub same_posted : (unit : UnitId) (old new : LanValue) → SameCounts old new → posted_at new unit ≡ posted_at old unit
same_posted unit old new same =
    posted_still unit (port_of old.stations unit) (port_of new.stations unit) (same.grows unit) (ap (λ (c : PortCounts). c.posts) (same.same unit))

pub counts_posted : (unit : UnitId) (a b : PortCounts) (old new : LanValue) → a.posts ≡ b.posts → CountsOn unit a b old new
    → posted_at new unit ≡ posted_at old unit
counts_posted unit a b old new same h =
    posted_still unit (port_of old.stations unit) (port_of new.stations unit) (h.grows unit) (omega (arith, h.posts, same))

-- ---- steps of a line

adds_none : (unit : UnitId) (b : List ℕ) (old new : LanValue) → posted_at new unit ≡ posted_at old unit → AddsBuffers unit b b old new
adds_none unit b old new e = record { more = []; posted = e ∙ sym (append-nil (posted_at old unit)); told = sym (append-nil b) }

adds_then : (unit : UnitId) (a b : List ℕ) (old mid new : LanValue) → AddsBuffers unit a b old mid → posted_at new unit ≡ posted_at mid unit → AddsBuffers unit a b old new
adds_then unit a b old mid new h e = record { more = h.more; posted = e ∙ h.posted; told = h.told }

-- a line that posts none
pub still_posts : (unit : UnitId) (verb : Verb) (done : ℕ) (step : PortStep) (old new : LanValue) → ((d : ℕ) → buffers_by verb d ≡ [])
    → ((s : PortStep) → buffers_after verb s ≡ []) → posted_at new unit ≡ posted_at old unit → PostsStep unit verb done step old new
still_posts unit verb done step old new by after e =
    subst (λ (b : List ℕ). AddsBuffers unit b (buffers_after verb step) old new) (sym (by done))
    (subst (λ (b : List ℕ). AddsBuffers unit [] b old new) (sym (after step)) (adds_none unit [] old new e))

-- whether a line posts
abbrev pub is_posting : Verb → Bool
is_posting (verbs.Post at len count) = true
is_posting _ = false

none_by : (verb : Verb) → is_posting verb ≡ false → (d : ℕ) → buffers_by verb d ≡ []
none_by (verbs.Post at len count) e d = absurd (cc (e))
none_by verb e d = refl

none_told : (verb : Verb) → is_posting verb ≡ false → (s : PortStep) → buffers_after verb s ≡ []
none_told (verbs.Post at len count) e s = absurd (cc (e))
none_told verb e (steps.Ends outcome) = refl
none_told verb e (steps.Waits did done) = refl

pub other_posts : (unit : UnitId) (verb : Verb) (done : ℕ) (step : PortStep) (old new : LanValue) → is_posting verb ≡ false
    → posted_at new unit ≡ posted_at old unit → PostsStep unit verb done step old new
other_posts unit verb done step old new e same = still_posts unit verb done step old new (none_by verb e) (none_told verb e) same

region_posts : (verb : Verb) → is_in_region verb ≡ true → is_posting verb ≡ false
region_posts (verbs.Post at len count) e = absurd (cc (e))
region_posts verb e = refl

pub in_region : (unit : UnitId) (verb : Verb) (done : ℕ) (step : PortStep) (old new : LanValue) → is_in_region verb ≡ true → SameCounts old new
    → PostsStep unit verb done step old new
in_region unit verb done step old new e same = other_posts unit verb done step old new (region_posts verb e) (same_posted unit old new same)

pub takes_none : (unit : UnitId) (count done : ℕ) (step : PortStep) (old new : LanValue) → TakesUpTo count done step
    → CountsStep unit (verbs.Take count) done step old new → PostsStep unit (verbs.Take count) done step old new
takes_none unit count done step old new within h = other_posts unit (verbs.Take count) done step old new refl (by step within h)
  where
    by : (s : PortStep) → TakesUpTo count done s → CountsStep unit (verbs.Take count) done s old new → posted_at new unit ≡ posted_at old unit
    by (steps.Ends (outcomes.Took taken)) within h = counts_posted unit (counts 0 done) (counts 0 taken) old new refl h
    by (steps.Waits did d) within h = counts_posted unit (counts 0 done) (counts 0 d) old new refl h
    by (steps.Ends outcome) within h = absurd within

-- ---- a line that posts

adds_as : (unit : UnitId) (a b b' : List ℕ) (old new : LanValue) → b' ≡ b → AddsBuffers unit a b old new → AddsBuffers unit a b' old new
adds_as unit a b b' old new e h = record { more = h.more; posted = h.posted; told = e ∙ h.told }

buffers_to : (at len n m : ℕ) → n ≡ m → line_buffers at len n ≡ line_buffers at len m
buffers_to at len n m e = ap (λ (k : ℕ). line_buffers at len k) e

-- a buffer more
pub adds_more : (unit : UnitId) (at len done count posted : ℕ) (address : Option ℕ) (code : Hrc) (old mid new : LanValue) → code ≡ Success → posted < count
    → IfSome address (λ a. a ≡ at + len * posted) → (code ≡ Success → AddsAt unit address len mid new)
    → AddsBuffers unit (line_buffers at len (min done count)) (line_buffers at len (min posted count)) old mid
    → AddsBuffers unit (line_buffers at len (min done count)) (line_buffers at len (min (posted + 1) count)) old new
adds_more unit at len done count posted None code old mid new is less place adds h = absurd (adds is)
adds_more unit at len done count posted (Some a) code old mid new is less place adds h = record {
  more = h.more ++ one ∷ [];
  posted = adds is ∙ ap (λ l. l ++ one ∷ []) h.posted ∙ append_assoc (posted_at old unit) h.more (one ∷ []);
  told = buffers_to at len (min (posted + 1) count) (suc posted) (omega (arith, less))
      ∙ ap (λ (l : List ℕ). l ++ descriptor_of (at + len * posted) len ∷ []) (buffers_to at len posted (min posted count) (omega (arith, less)))
      ∙ ap (λ (x : ℕ). line_buffers at len (min posted count) ++ descriptor_of x len ∷ []) (sym place)
      ∙ ap (λ (l : List ℕ). l ++ one ∷ []) h.told
      ∙ append_assoc (line_buffers at len (min done count)) h.more (one ∷ []);
}
  where
    one : ℕ
    one = descriptor_of a len

-- a call that was refused
pub adds_refused : (unit : UnitId) (a b : List ℕ) (code : Hrc) (old mid new : LanValue) → (code ≡ Success → ⊥) → CountsOn unit (counts 0 0) (posted_on code) mid new
    → AddsBuffers unit a b old mid → AddsBuffers unit a b old new
adds_refused unit a b code old mid new not h is =
    adds_then unit a b old mid new is
    (counts_posted unit (counts 0 0) (posted_on code) mid new (sym (ap (λ (c : PortCounts). c.posts) (no_post code not))) h)

-- the line ends, and says how many it posted
pub adds_ended : (unit : UnitId) (at len done count posted told : ℕ) (code : Hrc) (step : PortStep) (old new : LanValue)
    → step ≡ steps.Ends (outcomes.Posted told code) → told ≡ min posted count
    → AddsBuffers unit (line_buffers at len (min done count)) (line_buffers at len (min posted count)) old new
    → PostsStep unit (verbs.Post at len count) done step old new
adds_ended unit at len done count posted told code step old new tells e h =
    subst (λ (s : PortStep). PostsStep unit (verbs.Post at len count) done s old new) (sym tells)
    (adds_as unit (line_buffers at len (min done count)) (line_buffers at len (min posted count)) (line_buffers at len told) old new (buffers_to at len told (min posted count) e) h)

-- ---- a call that posts

-- What a call at a port adds to its buffers.
pub record HasBuffer (descriptor : ℕ) (before after : PortValue) : Type 0 where
  pub unit : after.unit ≡ before.unit
  pub posted : (v : UnitId) → posted_of v (Some after) ≡ posted_of v (Some before) ++ descriptor ∷ []

map_behind : (xs : List PostRow) (x : PostRow) → map (λ (r : PostRow). r.descriptor) (xs ++ x ∷ []) ≡ map (λ (r : PostRow). r.descriptor) xs ++ x.descriptor ∷ []
map_behind [] x = refl
map_behind (y ∷ ys) x = ap (λ l. y.descriptor ∷ l) (map_behind ys x)

adds_buffer : (descriptor : ℕ) (is_shared : Bool) (Found : ℕ → ℕ → Type 0) (window window' : PortState) (answer : LanAnswer) (before after : PortValue)
    → HasBegun before → Adds descriptor is_shared Found window window' answer before after → answer.code ≡ Success → HasBuffer descriptor before after
adds_buffer descriptor is_shared Found window window' answer before after begun h e =
    let posts = (h.success e).posts.posted in
    record {
      unit = ap (λ (p : PortValue). p.unit) posts.rest;
      posted = λ v.
          ap (λ (l : List PostRow). map (λ (r : PostRow). r.descriptor) l)
          (rows_behind before after _ v posts.posted (ap (λ (p : PortValue). p.drop_counts) posts.rest) refl
          (adds_begun descriptor is_shared Found window window' answer before after begun h e))
          ∙ map_behind (post_rows v before) _;
    }

at_buffer : (old : List Station) (unit : UnitId) (new : List Station) (P : PortValue → PortValue → Type 0) (descriptor : ℕ)
    → ((before after : PortValue) → port_of old unit ≡ Some before → P before after → HasBuffer descriptor before after) → AtPort old unit new P
    → posted_of unit (port_of new unit) ≡ posted_of unit (port_of old unit) ++ descriptor ∷ []
at_buffer old unit new P descriptor has h =
    let kept : HasBuffer descriptor h.before h.after = has h.before h.after h.was h.done in
    ap (λ l. posted_of unit (port_of l unit)) h.rest
    ∙ ap (λ o. posted_of unit o) (port_with unit old h.before h.after h.was kept.unit)
    ∙ kept.posted unit
    ∙ sym (ap (λ o. posted_of unit o ++ descriptor ∷ []) h.was)

pub made_buffer : (lan now : LanValue) (ss : List Station) (unit : UnitId) (answer : LanAnswer) (descriptor : ℕ) (is_shared : Bool) (Found : ℕ → ℕ → Type 0)
    (window window' : PortState) → lan ≡ now → IsLan lan → IsSome (seat_at now.seats unit)
    → MadeAt lan.stations unit answer ss (Adds descriptor is_shared Found window window' answer) → answer.code ≡ Success
    → posted_of unit (port_of ss unit) ≡ posted_at now unit ++ descriptor ∷ []
made_buffer lan now ss unit answer descriptor is_shared Found window window' same is there h e =
    subst (λ (l : LanValue). posted_of unit (port_of ss unit) ≡ posted_at l unit ++ descriptor ∷ []) same
    (at_buffer lan.stations unit ss (Adds descriptor is_shared Found window window' answer) descriptor
    (λ before after was p.
    adds_buffer descriptor is_shared Found window window' answer before after (begun_at lan.stations unit before is.begun was) p e)
    (h.made (port_there lan now unit same is there)))

-- behind a call that posted none
pub buffer_behind : (unit : UnitId) (descriptor : ℕ) (old mid : LanValue) (after : List ℕ) → SameCounts old mid → after ≡ posted_at mid unit ++ descriptor ∷ []
    → after ≡ posted_at old unit ++ descriptor ∷ []
buffer_behind unit descriptor old mid after same h = h ∙ ap (λ l. l ++ descriptor ∷ []) (same_posted unit old mid same)

pub adds_there : (unit : UnitId) (address len descriptor : ℕ) (r : Result Hrc NoMemory) (old mid new : LanValue) → descriptor ≡ descriptor_of address len
    → SameCounts old mid → IfOk r (λ code. code ≡ Success → AddsBuffer unit descriptor mid new)
    → IfOk r (λ code. code ≡ Success → AddsAt unit (Some address) len old new)
adds_there unit address len descriptor (Ok code) old mid new e same h = λ is.
    subst (λ (d : ℕ). AddsBuffer unit d old new) e (buffer_behind unit descriptor old mid (posted_at new unit) same (h is))
adds_there unit address len descriptor (Err memory) old mid new e same h = tt

-- ---- the arms of a step

pub other_ok : (unit : UnitId) (verb : Verb) (done : ℕ) (r : Result PortStep NoMemory) (old new : LanValue) → is_posting verb ≡ false → OnOk r (SameCounts old new)
    → IfOk r (λ step. PostsStep unit verb done step old new)
other_ok unit verb done (Ok step) old new other same = other_posts unit verb done step old new other (same_posted unit old new same)
other_ok unit verb done (Err memory) old new other same = tt

pub take_ok : (unit : UnitId) (verb : Verb) (count done : ℕ) (r : Result PortStep NoMemory) (old new : LanValue) → verb ≡ verbs.Take count
    → IfOk r (TakesUpTo count done) → IfOk r (λ step. CountsStep unit (verbs.Take count) done step old new) → IfOk r (λ step. PostsStep unit verb done step old new)
take_ok unit verb count done (Ok step) old new is within h =
    subst (λ (v : Verb). PostsStep unit v done step old new) (sym is) (takes_none unit count done step old new within h)
take_ok unit verb count done (Err memory) old new is within h = tt

pub not_posting : (verb : Verb) → ((at len count : ℕ) → verb ≡ verbs.Post at len count → ⊥) → is_posting verb ≡ false
not_posting (verbs.Post at len count) not = absurd (not at len count refl)
not_posting verb not = refl

pub counts_ok : (r : Result PortStep NoMemory) (old new : LanValue) → SameCounts old new → OnOk r (SameCounts old new)
counts_ok (Ok step) old new same = same
counts_ok (Err memory) old new same = tt
