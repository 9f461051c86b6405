-- What the program makes of a text.
use Rattle.std.specs.Prelude.{◌≡◌, List, ℕ, Option, IfSome, ⊤}
use Rattle.std.specs.Io.KnownBytes.{Appends}
use Rattle.vio_trace.specs.declared.rows.Trace.{Trace}
use Rattle.vio_trace.specs.Form.{IsTextOf}
use Rattle.vio_chart.specs.Picture.{IsPictureOf}
use Rattle.vio_chart.specs.declared.stop.Stop.{Stop}
use Rattle.vio_chart.specs.declared.stop.Stop.TheVariants.{Bad}

-- the text is that of a trace, and this the trace's picture
pub record IsPictureOfText (text picture : List ℕ) : Type 0 where
  pub trace : Trace
  pub read : IsTextOf trace text
  pub drawn : IsPictureOf trace picture

-- Of the whole text that there was to read, where that is known, the picture was written behind what was written before.
pub record Draws (told before after : Option (List ℕ)) : Type 0 where
  pub text : List ℕ
  pub picture : List ℕ
  pub whole : IfSome told (λ all. text ≡ all)
  pub made : IsPictureOfText text picture
  pub written : Appends before after picture

-- the text was refused
abbrev pub IsRefusal : Stop → Type 0
IsRefusal (Bad line) = ⊤
IsRefusal _ = ⊥
