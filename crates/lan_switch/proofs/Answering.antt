-- What a sender is answered, from what its frame was offered.
use Rattle.std.proofs.Common.{◌≡◌, ℕ, Bool, false, List, ◌++◌, None, take, length, if◌then◌else◌, sym, ◌∙◌, ap, subst}
use Rattle.vio_num.specs.declared.names.Mac.{Mac}
use Rattle.vio_num.specs.declared.hypervisor.Hrc.{Hrc}
use Rattle.vio_num.specs.declared.hypervisor.Hrc.TheVariants.{Success}
use Rattle.vio_num.specs.declared.names.UnitId.{UnitId}
use Rattle.page_slots.specs.declared.stroke.StrokeName.{StrokeName}
use Rattle.tce_window.specs.declared.piece.Piece.{Piece}
use Rattle.tce_window.specs.PortState.{PortState}
use Rattle.lan_frame.specs.Station.{IsGroup}
use Rattle.lan_switch.specs.declared.answers.Offer.{Offer}
use Rattle.lan_switch.specs.declared.answers.SendRecord.{SendRecord}
use Rattle.lan_switch.specs.declared.station.Station.{Station}
use Rattle.lan_switch.specs.Sending.{AnswersFrame, AreOffered, GoesOut, IsSenderPlace, LanWindows, MakesFrame, ReadsFrame, SaysFrame, has_offer, is_numbered, offering, one_code, to_of, with_frames}
use Rattle.lan_switch.specs.Source.{AreRead, parts_of}
use Rattle.lan_switch.proofs.Codes.{code_by}
use Rattle.lan_switch.proofs.Lists.{take_whole_front}

pub answered : (old mid new : List Station) (name : StrokeName) (pieces : List Piece) (frame : List ℕ) (windows : LanWindows) (offers : List Offer) (to : Mac)
    (code : Hrc) (numbered : Bool) (r : SendRecord) → GoesOut (offering name frame windows) old mid offers → to ≡ to_of frame
    → (IsGroup to → code ≡ Success) → (¬ IsGroup to → code ≡ one_code offers) → is_numbered code ≡ numbered
    → r.code ≡ code → r.fault ≡ None → r.offers.items ≡ offers → SaysFrame numbered name.mark pieces frame r
    → new ≡ (if numbered then with_frames name.who name.mark mid else mid) → AnswersFrame old new name pieces frame windows r
answered old mid new name pieces frame windows offers to code numbered r out to_is many single numbered_is code_is fault same says rest =
    let numbered_is' : is_numbered r.code ≡ numbered = ap is_numbered code_is ∙ numbered_is in
    let by : r.code ≡ (if out.all then Success else one_code offers) =
    code_is ∙ code_by out.all (IsGroup (to_of frame)) code (one_code offers) out.group
    (subst (λ (m : Mac). IsGroup m → code ≡ Success) to_is many) (subst (λ (m : Mac). (¬ IsGroup m) → code ≡ one_code offers) to_is single) in
    record {
      mid = mid;
      out = record {
        all = out.all;
        group = out.group;
        offered = subst (λ (l : List Offer). AreOffered (offering name frame windows) out.all old mid l) (sym same) out.offered;
        beside = λ other. subst (λ (l : List Offer). has_offer other l ≡ false → windows.facts' other ≡ windows.facts other) (sym same) (out.beside other);
      };
      code = subst (λ (l : List Offer). r.code ≡ (if out.all then Success else one_code l)) (sym same) by;
      fault = fault;
      says = subst (λ (b : Bool). SaysFrame b name.mark pieces frame r) (sym numbered_is') says;
      rest = subst (λ (b : Bool). new ≡ (if b then with_frames name.who name.mark mid else mid)) (sym numbered_is') rest;
    }

-- a frame that was read into memory of its own
pub frame_read : (old : List Station) (unit : UnitId) (descriptors parts : List ℕ) (place : ℕ) (window window' : PortState) (pieces : List Piece)
    (bytes behind frame : List ℕ) (n : ℕ) → parts ≡ parts_of descriptors → IsSenderPlace old unit parts place → AreRead window window' parts pieces bytes
    → window'.in_use ≡ window.in_use → frame ≡ take n (bytes ++ behind) → length bytes ≡ n → ReadsFrame old unit descriptors window window' pieces frame
frame_read old unit descriptors parts place window window' pieces bytes behind frame n parts_is sender read uncounted frame_is long = record {
  asked = subst (λ (l : List ℕ). MakesFrame old unit l) parts_is sender.asked;
  read = subst (λ (l : List ℕ). AreRead window window' l pieces frame) parts_is
      (subst (λ (l : List ℕ). AreRead window window' parts pieces l) (sym (frame_is ∙ take_whole_front n bytes behind long)) read);
  uncounted = uncounted;
}
