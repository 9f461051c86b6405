-- Figures are put together of what was written, and the parts of the picture of these.
use Rattle.std.proofs.Common.{◌≡◌, ℕ, ◌-◌, List, [], ◌∷◌, ◌++◌, refl, sym, ap, ◌∙◌, append_assoc, codes, Result, Ok, Err, OnOk}
use Rattle.vio_num.specs.declared.names.UnitId.{UnitId}
use Rattle.vio_trace.specs.declared.rows.Trace.{Trace}
use Rattle.vio_chart.specs.Columns.{lanes_below}
use Rattle.vio_chart.specs.Drawn.{Adds, AreDrawn}
use Rattle.vio_chart.specs.Picture.{HasParts, IsArrow, IsCopy, IsFrame, IsGroup, IsHead, IsLabel, IsLane, IsSquare, IsService, IsSession, IsUnitLine, label_text, line_text, rectangle_text, unit_x}
use Rattle.vio_chart.proofs.Lists.{joined}

-- a label
label_is : (x y : ℕ) (label : List ℕ) → IsLabel (label_text x y label)
label_is x y label = record { x = x; y = y; label = label; spelled = refl }

pub arrow_of : (from to y at_x at_y : ℕ) (label before middle after : List ℕ) → middle ≡ before ++ line_text from y to y
    → after ≡ middle ++ label_text at_x at_y label → Adds (IsArrow from to) before after
arrow_of from to y at_x at_y label before middle after e f = record {
  text = line_text from y to y ++ label_text at_x at_y label;
  behind = joined before middle after (line_text from y to y) (label_text at_x at_y label) e f;
  holds = record { y = y; label = label_text at_x at_y label; named = label_is at_x at_y label; spelled = refl };
}

pub square_of : (x y at_x at_y : ℕ) (label before middle after : List ℕ) → middle ≡ before ++ rectangle_text (x - 5) y 10 10
    → after ≡ middle ++ label_text at_x at_y label → Adds (IsSquare x) before after
square_of x y at_x at_y label before middle after e f = record {
  text = rectangle_text (x - 5) y 10 10 ++ label_text at_x at_y label;
  behind = joined before middle after (rectangle_text (x - 5) y 10 10) (label_text at_x at_y label) e f;
  holds = record { y = y; label = label_text at_x at_y label; named = label_is at_x at_y label; spelled = refl };
}

pub lane_of : (partition x width height at_x at_y : ℕ) (label before middle after : List ℕ)
    → middle ≡ before ++ rectangle_text x 74 width height → after ≡ middle ++ label_text at_x at_y label
    → Adds (IsLane partition) before after
lane_of partition x width height at_x at_y label before middle after e f = record {
  text = rectangle_text x 74 width height ++ label_text at_x at_y label;
  behind = joined before middle after (rectangle_text x 74 width height) (label_text at_x at_y label) e f;
  holds = record {
    x = x;
    width = width;
    height = height;
    label = label_text at_x at_y label;
    named = label_is at_x at_y label;
    spelled = refl;
  };
}

pub unit_line_of : (units : List UnitId) (unit : UnitId) (x bottom at_x at_y : ℕ) (label before middle after : List ℕ)
    → x ≡ unit_x units unit → middle ≡ before ++ line_text x 118 x bottom
    → after ≡ middle ++ label_text at_x at_y label → Adds (IsUnitLine units unit) before after
unit_line_of units unit x bottom at_x at_y label before middle after is e f = record {
  text = line_text x 118 x bottom ++ label_text at_x at_y label;
  behind = joined before middle after (line_text x 118 x bottom) (label_text at_x at_y label) e f;
  holds = record {
    bottom = bottom;
    label = label_text at_x at_y label;
    named = label_is at_x at_y label;
    spelled = ap (λ (n : ℕ). line_text n 118 n bottom ++ label_text at_x at_y label) is;
  };
}

-- the beginning of a picture
pub head_of : (b m1 m2 m3 a w2 d2 w3 d3 legend : List ℕ) → m1 ≡ b ++ codes "<svg xmlns=\"http://www.w3.org/2000/svg\""
    → m2 ≡ m1 ++ w2 ++ d2 → m3 ≡ m2 ++ w3 ++ d3 → a ≡ m3 ++ legend → Adds IsHead b a
head_of b m1 m2 m3 a w2 d2 w3 d3 legend e1 e2 e3 e4 =
    let front : List ℕ = codes "<svg xmlns=\"http://www.w3.org/2000/svg\"" in
    let j2 = joined b m1 m2 front (w2 ++ d2) e1 (e2 ∙ append_assoc m1 w2 d2) in
    let j3 = joined b m2 m3 (front ++ (w2 ++ d2)) (w3 ++ d3) j2 (e3 ∙ append_assoc m2 w3 d3) in
    let j4 = joined b m3 a ((front ++ (w2 ++ d2)) ++ (w3 ++ d3)) legend j3 e4 in
    record {
      text = ((front ++ (w2 ++ d2)) ++ (w3 ++ d3)) ++ legend;
      behind = j4;
      holds = record {
        legend = ((w2 ++ d2) ++ (w3 ++ d3)) ++ legend;
        begins = ap (λ (t : List ℕ). t ++ legend) (append_assoc front (w2 ++ d2) (w3 ++ d3))
            ∙ append_assoc front ((w2 ++ d2) ++ (w3 ++ d3)) legend;
      };
    }

-- what follows from a fact where there is an answer
pub on_ok : {T E : Type 0} → (result : Result T E) (P Q : Type 0) → (P → Q) → OnOk result P → OnOk result Q
on_ok (Ok value) P Q f h = f h
on_ok (Err error) P Q f h = tt

-- a group, whose first line and last line stand round what was added
pub group_of : (kind opened : List ℕ) (Is : List ℕ → Type 0) (before middle inner after : List ℕ)
    → opened ≡ codes "<g class=\"" ++ kind ++ codes "\">\n" → middle ≡ before ++ opened → Adds Is middle inner
    → after ≡ inner ++ codes "</g>\n" → Adds (IsGroup kind Is) before after
group_of kind opened Is before middle inner after o e adds f = record {
  text = opened ++ adds.text ++ codes "</g>\n";
  behind = joined before inner after (opened ++ adds.text) (codes "</g>\n")
      (joined before middle inner opened adds.text e adds.behind) f;
  holds = record {
    inner = adds.text;
    holds = adds.holds;
    spelled = ap (λ (t : List ℕ). t ++ adds.text ++ codes "</g>\n") o;
  };
}

-- the parts, one behind the other
pub parts_of : (trace : Trace) (units : List UnitId) (b m1 m2 m3 m4 m5 m6 m7 a : List ℕ)
    → Adds IsHead b m1
    → Adds (IsGroup (codes "lane") (AreDrawn IsLane (lanes_below units 256))) m1 m2
    → Adds (IsGroup (codes "unit") (AreDrawn (IsUnitLine units) units)) m2 m3
    → Adds (IsGroup (codes "entry") (AreDrawn (IsSession units trace.copies) trace.queues)) m3 m4
    → Adds (IsGroup (codes "copy") (AreDrawn (IsCopy units) trace.copies)) m4 m5
    → Adds (IsGroup (codes "serve") (AreDrawn (IsService units) trace.serves)) m5 m6
    → Adds (IsGroup (codes "frame") (AreDrawn (IsFrame units) trace.frames)) m6 m7
    → a ≡ m7 ++ codes "</svg>\n" → Adds (HasParts trace units) b a
parts_of trace units b m1 m2 m3 m4 m5 m6 m7 a head lanes lines entries copies services frames e =
    let j2 = joined b m1 m2 head.text lanes.text head.behind lanes.behind in
    let j3 = joined b m2 m3 _ lines.text j2 lines.behind in
    let j4 = joined b m3 m4 _ entries.text j3 entries.behind in
    let j5 = joined b m4 m5 _ copies.text j4 copies.behind in
    let j6 = joined b m5 m6 _ services.text j5 services.behind in
    let j7 = joined b m6 m7 _ frames.text j6 frames.behind in
    record {
      text = head.text ++ lanes.text ++ lines.text ++ entries.text ++ copies.text ++ services.text ++ frames.text
          ++ codes "</svg>\n";
      behind = joined b m7 a _ (codes "</svg>\n") j7 e;
      holds = record {
        head = head.text;
        lanes = lanes.text;
        lines = lines.text;
        entries = entries.text;
        copies = copies.text;
        services = services.text;
        frames = frames.text;
        begins = head.holds;
        each_partition = lanes.holds;
        each_unit = lines.holds;
        each_entry = entries.holds;
        each_copy = copies.holds;
        each_service = services.holds;
        each_frame = frames.holds;
        whole = refl;
      };
    }
