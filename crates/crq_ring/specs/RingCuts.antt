-- How what one seat knows is cut in two, and what two know is made one.
use Rattle.std.specs.Prelude.{[], false}
use Rattle.crq_ring.specs.declared.view.RingView.{RingView}
use Rattle.crq_ring.specs.declared.view.Role.TheVariants.{Both, Sender, Receiver, Front, Room, Spent}

-- the first seat as the two ends
abbrev pub sender_part : RingView → RingView
sender_part v = record v { role = Sender; shown = v.session; told_own = []; told_other = [] }

abbrev pub receiver_part : RingView → RingView
receiver_part v = record v { role = Receiver; own = v.other; other = v.own; told_own = []; told_other = [] }

-- a note of what an end knows: the sender's is a front, the receiver's a room
abbrev pub front_of : RingView → RingView
front_of v = record v { role = Front }

abbrev pub room_of : RingView → RingView
room_of v = record v { role = Room }

-- an end that was handed a note
abbrev pub told_by : RingView → RingView → RingView
told_by v note = record v { told_own = note.other; told_other = note.own }

-- the two ends as one
abbrev pub rejoined : RingView → RingView → RingView
rejoined v w = record w { role = Both; inside = v.inside; shown = v.session; own = v.own; other = w.own; told_other = w.other; low = v.low }

abbrev pub spent : RingView
spent = record {
  role = Spent;
  slots = 0;
  inside = false;
  is_open = false;
  session = 0;
  shown = 0;
  own = [];
  other = [];
  told_own = [];
  told_other = [];
  low = 0;
  swept = 0;
  reads = 0;
  word = 0;
}
