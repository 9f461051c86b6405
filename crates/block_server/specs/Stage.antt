-- The stages of the service of a request.
use Rattle.std.specs.Prelude.{◌==◌, ℕ, Bool, true, false}
use Rattle.block_server.specs.declared.service.Outcome.{Outcome}
use Rattle.block_server.specs.declared.service.Outcome.TheVariants.{Granted, Rejected, Served}
use Rattle.block_server.specs.Entries.{is_response_len, login_rej_len, login_rsp_len}
use Rattle.block_server.specs.declared.service.Stage.{Stage}
use Rattle.block_server.specs.declared.service.Stage.TheVariants.{Start, OutTable, InTable, DataOut, Given, DataIn, Answer, Entry}

-- whether the disk step of a command is still to be made
abbrev pub is_before_step : Stage → Bool
is_before_step Start = true
is_before_step OutTable = true
is_before_step InTable = true
is_before_step (DataOut cursor) = true
is_before_step _ = false

-- whether the descriptors were judged, and the disk step is still to be made
abbrev pub is_judged : Stage → Bool
is_judged OutTable = true
is_judged InTable = true
is_judged (DataOut cursor) = true
is_judged _ = false

-- whether the pieces of data-out are found besides
abbrev pub has_outs : Stage → Bool
has_outs InTable = true
has_outs (DataOut cursor) = true
has_outs _ = false

-- whether data-out are copied from the client
abbrev pub is_data_out : Stage → Bool
is_data_out (DataOut cursor) = true
is_data_out _ = false

-- whether the disk step was made and its data-in are to be written to the unit's region
abbrev pub is_given : Stage → Bool
is_given (Given row reply) = true
is_given _ = false

-- whether data-in are copied to the client
abbrev pub is_data_in : Stage → Bool
is_data_in (DataIn row reply cursor) = true
is_data_in _ = false

-- whether the answer is to be copied, or its entry to be put
abbrev pub is_answered : Stage → Bool
is_answered (Answer outcome) = true
is_answered (Entry outcome) = true
is_answered _ = false

-- whether its entry is to be put
abbrev pub is_entry : Stage → Bool
is_entry (Entry outcome) = true
is_entry _ = false

-- whether an answer that does this once its entry is put may have so many bytes
abbrev pub fits : Outcome → ℕ → Bool
fits (Granted number) n = n == login_rsp_len
fits Rejected n = n == login_rej_len
fits (Served row) n = is_response_len n

-- whether the answer has a length of its kind, where it is to be copied or put
abbrev pub has_answer : Stage → ℕ → Bool
has_answer (Answer outcome) n = fits outcome n
has_answer (Entry outcome) n = fits outcome n
has_answer _ n = true

-- how far a service has come: the number of its stage, and the bytes that its copies of data moved there
abbrev pub how_far : Stage → ℕ × ℕ
how_far Start = (0, 0)
how_far OutTable = (1, 0)
how_far InTable = (2, 0)
how_far (DataOut cursor) = (3, cursor.done)
how_far (Given row reply) = (4, 0)
how_far (DataIn row reply cursor) = (5, cursor.done)
how_far (Answer outcome) = (6, 0)
how_far (Entry outcome) = (7, 0)
