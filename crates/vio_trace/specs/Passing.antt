-- How a text goes to a sink: whole, or up to where the sink failed or memory ran out.
use Rattle.std.specs.Prelude.{◌≡◌, ℕ, ◌≤◌, ◌++◌, List, Option, Result, Ok, Err, flat_map, length, take}
use Rattle.std.specs.Io.KnownBytes.{Appends}
use Rattle.vio_num.specs.Counts.{Rose}
use Rattle.vio_trace.specs.Text.{log_text, queue_text, grant_text, serve_text, answer_text, frame_text, port_text, post_text, deliver_text, harvest_text, tce_text, copy_text, stroke_text}
use Rattle.vio_trace.specs.declared.rows.Trace.{Trace}
use Rattle.vio_io.specs.declared.outside.WriteFault.{WriteFault}
use Rattle.vio_io.specs.declared.outside.WriteFault.TheVariants.{Failed, NoMemory}

-- the sink took a front of the text, the whole text at most
abbrev pub AppendsFront : Option (List ℕ) → Option (List ℕ) → List ℕ → Type 0
AppendsFront old new text = (n : ℕ) × (n ≤ length text) × Appends old new (take n text)

-- The sink took the whole text; or a front of it, as it failed, or as memory ran out.
abbrev pub IsWritten : {A : Type 0} → Result A WriteFault → (text : List ℕ) → (taken taken' : Option (List ℕ)) → (faults faults' : ℕ) → Type 0
IsWritten (Ok done) text taken taken' faults faults' = Appends taken taken' text × (faults' ≡ faults)
IsWritten (Err Failed) text taken taken' faults faults' = AppendsFront taken taken' text × Rose faults faults'
IsWritten (Err NoMemory) text taken taken' faults faults' = AppendsFront taken taken' text × (faults' ≡ faults)

-- What had been gathered, and the text behind it, are what the sink took and what is gathered now.
pub record Passes (gathered text : List ℕ) (taken taken' : Option (List ℕ)) (gathered' : List ℕ) : Type 0 where
  pub sent : List ℕ
  pub took : Appends taken taken' sent
  pub whole : gathered ++ text ≡ sent ++ gathered'

-- The text stands behind what was gathered, of which the sink may have taken some; or the sink took a front of both, as it
-- failed, or as memory ran out.
abbrev pub IsPassed : {A : Type 0} → Result A WriteFault → (gathered text : List ℕ) → (taken taken' : Option (List ℕ)) → (faults faults' : ℕ) → (gathered' : List ℕ) → Type 0
IsPassed (Ok done) gathered text taken taken' faults faults' gathered' = Passes gathered text taken taken' gathered' × (faults' ≡ faults)
IsPassed (Err Failed) gathered text taken taken' faults faults' gathered' = AppendsFront taken taken' (gathered ++ text) × Rose faults faults'
IsPassed (Err NoMemory) gathered text taken taken' faults faults' gathered' = AppendsFront taken taken' (gathered ++ text) × (faults' ≡ faults)

-- the lines of the rows of scripts, queues and servers
abbrev pub served_text : Trace → List ℕ
served_text trace = flat_map log_text trace.logs ++ flat_map queue_text trace.queues ++ flat_map grant_text trace.grants
    ++ flat_map serve_text trace.serves ++ flat_map answer_text trace.answers

-- of LAN ports
abbrev pub ports_text : Trace → List ℕ
ports_text trace = flat_map frame_text trace.frames ++ flat_map port_text trace.ports ++ flat_map post_text trace.posts
    ++ flat_map deliver_text trace.delivers ++ flat_map harvest_text trace.harvests

-- and of windows
abbrev pub windows_text : Trace → List ℕ
windows_text trace = flat_map tce_text trace.tces ++ flat_map copy_text trace.copies ++ flat_map stroke_text trace.strokes
