-- How far a service came that stopped.
use Rattle.std.proofs.Common.{◌≡◌, ◌≢◌, ◌⊎◌, inl, inr, ℕ, ◌<◌, Bool, true, false, List, [], ◌∷◌, Option, None, length, arith, Result, Ok, Err, OnOk, refl, subst}
use Rattle.std.specs.Option.{IsSome}
use Rattle.block_disk.specs.declared.reply.ScsiReply.{ScsiReply}
use Rattle.block_server.specs.Advances.{Advances}
use Rattle.block_server.specs.SiteState.{SiteState}
use Rattle.block_server.specs.Stage.{is_answered, is_before_step, is_data_in, is_data_out, is_entry, is_given}
use Rattle.block_server.specs.Ready.{Idles, MeetsFull}
use Rattle.block_server.specs.Waits.{IsEntryDue, IsHeldUp, IsPending, MeetsUse}
use Rattle.block_server.specs.declared.request.Request.{Request}
use Rattle.block_server.specs.declared.service.Outcome.{Outcome}
use Rattle.block_server.specs.declared.unit.Unit.{Unit}
use Rattle.block_server.specs.declared.cursor.Cursor.{Cursor}
use Rattle.block_server.specs.declared.fetching.Progress.{Progress}
use Rattle.block_server.specs.declared.fetching.Progress.TheVariants as progresses
use Rattle.block_server.specs.declared.service.Stage.{Stage}
use Rattle.block_server.specs.declared.service.Stage.TheVariants as stages
use Rattle.block_server.proofs.Readying.{full_later, held_later, idles_equal, uses_later, uses_sooner}

-- a stage behind the disk step, whose data-in are neither to be written nor to be copied, is that of an answer
pub at_answer : (stage : Stage) → ((row : ℕ) (reply : ScsiReply) (cursor : Cursor) → stage ≢ stages.DataIn row reply cursor)
    → is_before_step stage ≡ false → is_given stage ≡ false → is_answered stage ≡ true
at_answer stages.Start apart before given = cc (before)
at_answer stages.OutTable apart before given = cc (before)
at_answer stages.InTable apart before given = cc (before)
at_answer (stages.DataOut cursor) apart before given = cc (before)
at_answer (stages.Given row reply) apart before given = cc (given)
at_answer (stages.DataIn row reply cursor) apart before given = absurd (apart row reply cursor refl)
at_answer (stages.Answer outcome) apart before given = refl
at_answer (stages.Entry outcome) apart before given = refl

pub not_data_in : (stage : Stage) (P : Type 0) → ((row : ℕ) (reply : ScsiReply) (cursor : Cursor) → stage ≢ stages.DataIn row reply cursor) → is_data_in stage ≡ true → P
not_data_in stages.Start P apart is = absurd (cc (is))
not_data_in stages.OutTable P apart is = absurd (cc (is))
not_data_in stages.InTable P apart is = absurd (cc (is))
not_data_in (stages.DataOut cursor) P apart is = absurd (cc (is))
not_data_in (stages.Given row reply) P apart is = absurd (cc (is))
not_data_in (stages.DataIn row reply cursor) P apart is = absurd (apart row reply cursor refl)
not_data_in (stages.Answer outcome) P apart is = absurd (cc (is))
not_data_in (stages.Entry outcome) P apart is = absurd (cc (is))

-- the end of a command: its data-in were copied or refused, or a page was in use
pub ended : {X Y : Type 0} (result : Result X Y) (progress : Progress) (answered U : Type 0) → (progress ≡ progresses.Busy → U)
    → OnOk result (progress ≢ progresses.Busy → answered) → OnOk result (answered ⊎ U)
ended (Err y) progress answered U busy went = tt
ended (Ok x) progresses.Busy answered U busy went = inr (busy refl)
ended (Ok x) progresses.Done answered U busy went = inl (went (λ is. cc (is)))
ended (Ok x) progresses.Refused answered U busy went = inl (went (λ is. cc (is)))

-- what a later part says, where an earlier one stopped at no page in use
pub came_on : {X Y : Type 0} (result : Result X Y) (B U A W : Type 0) → (U → W) → B ⊎ U → (B → OnOk result (A ⊎ W)) → OnOk result (A ⊎ W)
came_on (Ok x) B U A W sooner (inl b) went = went b
came_on (Ok x) B U A W sooner (inr met) went = inr (sooner met)
came_on (Err y) B U A W sooner first went = tt

pub not_given : (stage : Stage) → ((row : ℕ) (reply : ScsiReply) → stage ≢ stages.Given row reply) → is_given stage ≡ false
not_given stages.Start apart = refl
not_given stages.OutTable apart = refl
not_given stages.InTable apart = refl
not_given (stages.DataOut cursor) apart = refl
not_given (stages.Given row reply) apart = absurd (apart row reply refl)
not_given (stages.DataIn row reply cursor) apart = refl
not_given (stages.Answer outcome) apart = refl
not_given (stages.Entry outcome) apart = refl

pub not_data_out : (stage : Stage) (P : Type 0) → ((cursor : Cursor) → stage ≢ stages.DataOut cursor) → is_data_out stage ≡ true → P
not_data_out stages.Start P apart is = absurd (cc (is))
not_data_out stages.OutTable P apart is = absurd (cc (is))
not_data_out stages.InTable P apart is = absurd (cc (is))
not_data_out (stages.DataOut cursor) P apart is = absurd (apart cursor refl)
not_data_out (stages.Given row reply) P apart is = absurd (cc (is))
not_data_out (stages.DataIn row reply cursor) P apart is = absurd (cc (is))
not_data_out (stages.Answer outcome) P apart is = absurd (cc (is))
not_data_out (stages.Entry outcome) P apart is = absurd (cc (is))

-- an answer that is not to be copied has its entry to be put
pub at_entry : (stage : Stage) → ((outcome : Outcome) → stage ≢ stages.Answer outcome) → is_answered stage ≡ true → is_entry stage ≡ true
at_entry stages.Start apart is = cc (is)
at_entry stages.OutTable apart is = cc (is)
at_entry stages.InTable apart is = cc (is)
at_entry (stages.DataOut cursor) apart is = cc (is)
at_entry (stages.Given row reply) apart is = cc (is)
at_entry (stages.DataIn row reply cursor) apart is = cc (is)
at_entry (stages.Answer outcome) apart is = absurd (apart outcome refl)
at_entry (stages.Entry outcome) apart is = refl

pub not_entry : (stage : Stage) (P : Type 0) → ((outcome : Outcome) → stage ≢ stages.Entry outcome) → is_entry stage ≡ true → P
not_entry stages.Start P apart is = absurd (cc (is))
not_entry stages.OutTable P apart is = absurd (cc (is))
not_entry stages.InTable P apart is = absurd (cc (is))
not_entry (stages.DataOut cursor) P apart is = absurd (cc (is))
not_entry (stages.Given row reply) P apart is = absurd (cc (is))
not_entry (stages.DataIn row reply cursor) P apart is = absurd (cc (is))
not_entry (stages.Answer outcome) P apart is = absurd (cc (is))
not_entry (stages.Entry outcome) P apart is = absurd (apart outcome refl)

-- the answer was copied, or its page is in use; then its entry was put, or its slot is full
pub answer_held : (shared : Bool) (old reserved copied new : SiteState) (unit : Unit) → Advances old copied → Advances copied new → Advances old reserved
    → Idles shared old.queue copied.queue → MeetsUse reserved copied ⊎ IsEntryDue unit → (IsPending unit → MeetsFull shared copied.queue new.queue) → IsHeldUp shared old new
answer_held shared old reserved copied new unit first next room idles (inl met) full = inl (uses_sooner old copied new (uses_later old reserved copied room met) next)
answer_held shared old reserved copied new unit first next room idles (inr due) full = inr (full_later shared old.queue copied.queue new.queue idles (full due.pending))

pub answer_stops : (shared : Bool) (old reserved copied : SiteState) (unit : Unit) → Advances old reserved → ((outcome : Outcome) → unit.service.stage ≢ stages.Entry outcome)
    → MeetsUse reserved copied ⊎ IsEntryDue unit → IsHeldUp shared old copied
answer_stops shared old reserved copied unit room apart (inl met) = inl (uses_later old reserved copied room met)
answer_stops shared old reserved copied unit room apart (inr due) = not_entry unit.service.stage (IsHeldUp shared old copied) apart due.stage

-- the service came to an answer, or a page is in use; then the answer is held up
pub serve_held : (shared : Bool) (old mid new : SiteState) (A : Type 0) → Advances old mid → Advances mid new → mid.queue ≡ old.queue → A ⊎ MeetsUse old mid
    → (A → IsHeldUp shared mid new) → IsHeldUp shared old new
serve_held shared old mid new A first next queue (inr met) held = inl (uses_sooner old mid new met next)
serve_held shared old mid new A first next queue (inl answered) held = held_later shared old mid new first (idles_equal shared old.queue mid.queue queue) (held answered)

-- a list whose first element is not to be had is empty
pub no_front : {X : Type 0} (items : List Request) (result : Option X) (P : Type 0) → ((0 < length items) → IsSome result) → result ≡ None → items ≢ [] → P
no_front [] result P front none some = absurd (some refl)
no_front (request ∷ items) result P front none some = absurd (cc (subst IsSome none (front (omega arith))))

pub some_front : (items : List Request) (request : Request) (rest : List Request) (P : Type 0) → items ≡ request ∷ rest → items ≡ [] → P
some_front items request rest P front none = absurd (cc (front, none))
