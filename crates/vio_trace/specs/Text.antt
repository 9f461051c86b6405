-- The text of a trace: its words, its lines and its sections. Every line ends with LF, and its words are
-- joined by one space.
use Rattle.std.specs.Prelude.{ℕ, ◌++◌, List, [], ◌∷◌, length, flat_map, codes, decimal, Option, Some, None}
use Rattle.std.specs.Fmt.{signed_decimal}
use Rattle.std.specs.Int.{w32, w64, to_be_bytes}
use Rattle.hex.specs.Hex.{encode_lower}
use Rattle.vio_num.specs.declared.entry.Entry.{Entry}
use Rattle.vio_num.specs.declared.names.UnitId.{UnitId}
use Rattle.vio_num.specs.declared.history.Grant.{Grant}
use Rattle.vio_num.specs.declared.history.Grant.TheVariants as grants
use Rattle.vio_num.specs.declared.history.Lapse.{Lapse}
use Rattle.vio_num.specs.declared.history.Lapse.TheVariants as lapses
use Rattle.vio_num.specs.declared.history.Served.{Served}
use Rattle.vio_num.specs.declared.hypervisor.Hrc.{Hrc}
use Rattle.vio_num.specs.Hypervisor.{code_of}
use Rattle.vio_trace.specs.declared.outcome.Outcome.{Outcome}
use Rattle.vio_trace.specs.declared.outcome.Outcome.TheVariants as outcomes
use Rattle.vio_trace.specs.declared.rows.Trace.{Trace}
use Rattle.vio_trace.specs.declared.rows.LogRow.{LogRow}
use Rattle.vio_trace.specs.declared.rows.QueueRow.{QueueRow}
use Rattle.vio_trace.specs.declared.rows.DropRow.{DropRow}
use Rattle.vio_trace.specs.declared.rows.AnswerRow.{AnswerRow}
use Rattle.vio_trace.specs.declared.lan_rows.FrameRow.{FrameRow}
use Rattle.vio_trace.specs.declared.lan_rows.OfferRow.{OfferRow}
use Rattle.vio_trace.specs.declared.lan_rows.Offered.{Offered}
use Rattle.vio_trace.specs.declared.lan_rows.Offered.TheVariants as offers
use Rattle.vio_trace.specs.declared.lan_rows.PortRow.{PortRow}
use Rattle.vio_trace.specs.declared.lan_rows.PostRow.{PostRow}
use Rattle.vio_trace.specs.declared.lan_rows.DeliverRow.{DeliverRow}
use Rattle.vio_trace.specs.declared.lan_rows.Filled.{Filled}
use Rattle.vio_trace.specs.declared.lan_rows.Filled.TheVariants as fills
use Rattle.vio_trace.specs.declared.lan_rows.HarvestRow.{HarvestRow}
use Rattle.vio_trace.specs.declared.window_rows.TceValueRow.{TceValueRow}
use Rattle.vio_trace.specs.declared.window_rows.PieceRow.{PieceRow}
use Rattle.vio_trace.specs.declared.window_rows.CopyRow.{CopyRow}
use Rattle.vio_trace.specs.declared.window_rows.StrokeRow.{StrokeRow}

-- a line of these words
abbrev pub line : List (List ℕ) → List ℕ
line [] = codes "\n"
line (word ∷ []) = word ++ codes "\n"
line (word ∷ next ∷ words) = word ++ codes " " ++ line (next ∷ words)

-- a text with these words behind it, each behind a space
abbrev pub with_words : List ℕ → List (List ℕ) → List ℕ
with_words text [] = text
with_words text (word ∷ words) = with_words (text ++ codes " " ++ word) words

-- a unit's name: its partition's number and its own
abbrev pub name : UnitId → List ℕ
name unit = decimal unit.partition ++ codes "." ++ decimal unit.unit

-- a number of 64 bits in sixteen lower-case digits
abbrev pub digits : ℕ → List ℕ
digits n = encode_lower (to_be_bytes w64 n)

-- a number of 32 bits in eight lower-case digits
abbrev pub half_digits : ℕ → List ℕ
half_digits n = encode_lower (to_be_bytes w32 n)

-- a list of bytes in lower-case digits, two a byte
abbrev pub bytes : List ℕ → List ℕ
bytes [] = codes "-"
bytes (first ∷ rest) = encode_lower (first ∷ rest)

-- a number that may be absent
abbrev pub number_or_none : Option ℕ → List ℕ
number_or_none None = codes "-"
number_or_none (Some n) = decimal n

-- the code of a call, in decimal
abbrev pub code : Hrc → List ℕ
code answer = signed_decimal (code_of answer)

-- how a script line ended
abbrev pub outcome_words : Outcome → List (List ℕ)
outcome_words (outcomes.Granted n) = codes "granted" ∷ decimal n ∷ []
outcome_words (outcomes.Rejected reason) = codes "rejected" ∷ half_digits reason ∷ []
outcome_words outcomes.Lost = codes "lost" ∷ []
outcome_words outcomes.Unanswered = codes "none" ∷ []
outcome_words (outcomes.Sent tag) = codes "sent" ∷ decimal tag ∷ []
outcome_words outcomes.Range = codes "range" ∷ []
outcome_words outcomes.NotLoggedIn = codes "notlogged" ∷ []
outcome_words (outcomes.NoCredit limit) = codes "nocredit" ∷ decimal limit ∷ []
outcome_words (outcomes.Overlap tag) = codes "overlap" ∷ decimal tag ∷ []
outcome_words outcomes.Closed = codes "closed" ∷ []
outcome_words (outcomes.Dropped k held) = codes "dropped" ∷ decimal k ∷ digits held ∷ []
outcome_words (outcomes.Took n) = codes "took" ∷ decimal n ∷ []
outcome_words (outcomes.TookThenLost n) = codes "took" ∷ decimal n ∷ codes "lost" ∷ []
outcome_words (outcomes.Data len sum) = codes "ok" ∷ decimal len ∷ decimal sum ∷ []
outcome_words (outcomes.Stale page) = codes "stale" ∷ decimal page ∷ []
outcome_words outcomes.Unknown = codes "unknown" ∷ []
outcome_words (outcomes.Code c) = codes "code" ∷ code c ∷ []
outcome_words (outcomes.Value v) = codes "code" ∷ codes "0" ∷ codes "value" ∷ digits v ∷ []
outcome_words (outcomes.Posted n c) = codes "posted" ∷ decimal n ∷ codes "code" ∷ code c ∷ []
outcome_words (outcomes.Frame c n) = codes "code" ∷ code c ∷ codes "frame" ∷ decimal n ∷ []
outcome_words outcomes.Done = codes "done" ∷ []
outcome_words (outcomes.Bytes shown) = codes "bytes" ∷ bytes shown ∷ []

-- why a login ended
abbrev pub cause : Lapse → List ℕ
cause lapses.Logout = codes "logout"
cause lapses.Lost = codes "lost"
cause lapses.Early = codes "early"
cause lapses.BadIu = codes "badiu"
cause lapses.NotLogin = codes "notlogin"
cause lapses.OverLimit = codes "overlimit"
cause lapses.Refused = codes "refused"

-- log P LINE WORDS
abbrev pub log_text : LogRow → List ℕ
log_text row = line (codes "log" ∷ decimal row.partition ∷ decimal row.line ∷ outcome_words row.outcome)

-- sent W W, or took W W
abbrev pub entry_text : List ℕ → Entry → List ℕ
entry_text word entry = line (word ∷ digits entry.high ∷ digits entry.low ∷ [])

-- drop K W
abbrev pub drop_text : DropRow → List ℕ
drop_text row = line (codes "drop" ∷ decimal row.number ∷ digits row.held ∷ [])

-- queue U S N A B D
abbrev pub queue_line : QueueRow → List ℕ
queue_line row = line (codes "queue" ∷ name row.unit ∷ decimal row.session ∷ decimal row.slots
    ∷ decimal (length row.sent) ∷ decimal (length row.taken) ∷ decimal (length row.drops) ∷ [])

-- a queue's line, then A lines of what was sent, B of what was taken, and D of what was dropped
abbrev pub queue_text : QueueRow → List ℕ
queue_text row = queue_line row
    ++ flat_map (entry_text (codes "sent")) row.sent
    ++ flat_map (entry_text (codes "took")) row.taken
    ++ flat_map drop_text row.drops

-- grant U S LOGIN NUMBER N, or lapse U S LOGIN CAUSE A B
abbrev pub grant_text : Grant → List ℕ
grant_text (grants.Granted unit session login number credits) =
    line (codes "grant" ∷ name unit ∷ decimal session ∷ decimal login ∷ decimal number ∷ decimal credits ∷ [])
grant_text (grants.Lapsed unit session login why outstanding granted) =
    line (codes "lapse" ∷ name unit ∷ decimal session ∷ decimal login ∷ cause why
    ∷ decimal outstanding ∷ decimal granted ∷ [])

-- serve U S LOGIN NUMBER H H F H H
abbrev pub serve_text : Served → List ℕ
serve_text row = line (codes "serve" ∷ name row.unit ∷ decimal row.session ∷ decimal row.login ∷ decimal row.number
    ∷ bytes row.iu ∷ bytes row.out ∷ number_or_none row.fault ∷ bytes row.answer ∷ bytes row.inn ∷ [])

-- answer U S TAG H
abbrev pub answer_text : AnswerRow → List ℕ
answer_text row = line (codes "answer" ∷ name row.unit ∷ decimal row.session ∷ decimal row.tag ∷ bytes row.answer ∷ [])

-- tce U E V W
abbrev pub tce_text : TceValueRow → List ℕ
tce_text row = line (codes "tce" ∷ name row.unit ∷ decimal row.entry ∷ decimal row.version ∷ digits row.value ∷ [])

-- from U E V P O L AT, or to U E V P O L AT
abbrev pub piece_text : List ℕ → PieceRow → List ℕ
piece_text word row = line (word ∷ name row.unit ∷ decimal row.entry ∷ decimal row.version ∷ decimal row.page
    ∷ decimal row.offset ∷ decimal row.len ∷ decimal row.at ∷ [])

-- what became of a frame at a port
abbrev pub offered : Offered → List ℕ
offered offers.Done = codes "done"
offered offers.Ungranted = codes "ungranted"
offered offers.NoSize = codes "nosize"
offered offers.NoBuffer = codes "nobuffer"
offered offers.Turn = codes "turn"
offered offers.InUse = codes "inuse"
offered offers.Closed = codes "closed"

-- how a buffer was given back
abbrev pub filled : Filled → List ℕ
filled fills.Frame = codes "frame"
filled fills.Blank = codes "blank"

-- frame U N C A H
abbrev pub frame_line : FrameRow → List ℕ
frame_line row = line (codes "frame" ∷ name row.unit ∷ decimal row.number ∷ code row.code
    ∷ decimal (length row.from) ∷ bytes row.bytes ∷ [])

-- offer U N U2 RESULT
abbrev pub offer_text : OfferRow → List ℕ
offer_text row = line (codes "offer" ∷ name row.unit ∷ decimal row.number ∷ name row.port ∷ offered row.offered ∷ [])

-- a frame's line, then A lines of what was read, then a line for each port that it was offered to
abbrev pub frame_text : FrameRow → List ℕ
frame_text row = frame_line row
    ++ flat_map (piece_text (codes "from")) row.from
    ++ flat_map offer_text row.offers

-- port U S N K
abbrev pub port_text : PortRow → List ℕ
port_text row = line (codes "port" ∷ name row.unit ∷ decimal row.session ∷ decimal row.slots ∷ decimal row.drops ∷ [])

-- post U S N W W
abbrev pub post_text : PostRow → List ℕ
post_text row = line (codes "post" ∷ name row.unit ∷ decimal row.session ∷ decimal row.number
    ∷ digits row.descriptor ∷ digits row.correlator ∷ [])

-- deliver U S POST U2 FRAME END B
abbrev pub deliver_line : DeliverRow → List ℕ
deliver_line row = line (codes "deliver" ∷ name row.unit ∷ decimal row.session ∷ decimal row.post ∷ name row.sender
    ∷ decimal row.frame ∷ filled row.filled ∷ decimal (length row.to) ∷ [])

-- a delivery's line, then B lines of what was written
abbrev pub deliver_text : DeliverRow → List ℕ
deliver_text row = deliver_line row ++ flat_map (piece_text (codes "to")) row.to

-- harvest U S W W
abbrev pub harvest_text : HarvestRow → List ℕ
harvest_text row = line (codes "harvest" ∷ name row.unit ∷ decimal row.session ∷ digits row.high ∷ digits row.low ∷ [])

-- copy U MARK LEN A B
abbrev pub copy_line : CopyRow → List ℕ
copy_line row = line (codes "copy" ∷ name row.unit ∷ decimal row.mark ∷ decimal row.len
    ∷ decimal (length row.from) ∷ decimal (length row.to) ∷ [])

-- a copy's line, then A lines of what was read, and B of what was written
abbrev pub copy_text : CopyRow → List ℕ
copy_text row = copy_line row
    ++ flat_map (piece_text (codes "from")) row.from
    ++ flat_map (piece_text (codes "to")) row.to

-- stroke U P AT U2 MARK O H
abbrev pub stroke_text : StrokeRow → List ℕ
stroke_text row = line (codes "stroke" ∷ name row.unit ∷ decimal row.page ∷ decimal row.place ∷ name row.writer
    ∷ decimal row.mark ∷ decimal row.offset ∷ bytes row.bytes ∷ [])

-- the one text of a trace: its first line, its sections, its last line
abbrev pub trace_text : Trace → List ℕ
trace_text trace = codes "trace 1\n"
    ++ flat_map log_text trace.logs
    ++ flat_map queue_text trace.queues
    ++ flat_map grant_text trace.grants
    ++ flat_map serve_text trace.serves
    ++ flat_map answer_text trace.answers
    ++ flat_map frame_text trace.frames
    ++ flat_map port_text trace.ports
    ++ flat_map post_text trace.posts
    ++ flat_map deliver_text trace.delivers
    ++ flat_map harvest_text trace.harvests
    ++ flat_map tce_text trace.tces
    ++ flat_map copy_text trace.copies
    ++ flat_map stroke_text trace.strokes
    ++ codes "end\n"
