-- The initialisation of a queue (LoPAR, "CRQ Initialization"): the table of its machine, by the kind of
-- an entry that comes and its byte 1.
use Rattle.std.specs.Prelude.{ℕ, ◌==◌, ◌||◌, Option, Some, None, if◌then◌else◌}
use Rattle.vio_num.specs.declared.entry.Entry.{Entry}
use Rattle.vio_num.specs.declared.entry.Kind.{Kind}
use Rattle.vio_num.specs.declared.entry.Kind.TheVariants.{Init, Event}
use Rattle.vio_num.specs.Entry.{entry_format, first_byte, kind_of, initialize, initialization_complete}
use Rattle.crq_session.specs.declared.handshake.Handshake.{Handshake}
use Rattle.crq_session.specs.declared.handshake.Handshake.TheVariants.{Waiting, Up}
use Rattle.crq_session.specs.declared.handshake.Step.{Step}
use Rattle.crq_session.specs.declared.handshake.Step.TheVariants.{Nothing, SendInitialize, SendComplete}

-- where an entry of this kind and byte 1 leads
abbrev pub state_by : Handshake → Kind → ℕ → Handshake
state_by Waiting Init byte = if byte == 0x01 || byte == 0x02 then Up else Waiting
state_by Up Event byte = Waiting
state_by state kind byte = state

-- what is then to be sent
abbrev pub step_by : Handshake → Kind → ℕ → Step
step_by Waiting Init byte = if byte == 0x01 then SendComplete else Nothing
step_by Up Init byte = if byte == 0x01 then SendComplete else Nothing
step_by state kind byte = Nothing

abbrev pub state_after : Handshake → Entry → Handshake
state_after state entry = state_by state (kind_of (first_byte entry)) (entry_format entry)

abbrev pub step_after : Handshake → Entry → Step
step_after state entry = step_by state (kind_of (first_byte entry)) (entry_format entry)

-- the entry that a step sends
abbrev pub step_entry : Step → Option Entry
step_entry Nothing = None
step_entry SendInitialize = Some initialize
step_entry SendComplete = Some initialization_complete
