-- What the copies of a unit's site lay: its answer, and parts of a row's data-in.
use Rattle.std.proofs.Common.{◌≡◌, ◌⊎◌, inl, inr, ◌+◌, ◌<◌, ◌≤◌, ℕ, Bool, true, false, cond, arith, List, [], Option, Some, None, Result, Ok, Err, OnErr, OnOk, get_or, length, refl, sym, ◌∙◌, ap, subst, take}
use Rattle.std.specs.Prelude.{slice_index}
use Rattle.std.proofs.lemmas.List.{get_or-take, length-take, length-take-le, take_all}
use Rattle.page_slots.specs.declared.stroke.StrokeName.{StrokeName}
use Rattle.tce_window.specs.PortState.{LaysNone, OnlyWrites, PortState, Writes}
use Rattle.tce_window.specs.Region.{region_byte}
use Rattle.srp_iu.specs.declared.buffer.Desc.{Desc}
use Rattle.block_disk.specs.declared.reply.ScsiReply.{ScsiReply}
use Rattle.rdma_copy.specs.Answers.{OnRefused}
use Rattle.rdma_copy.specs.Copies.{OnlyCopies}
use Rattle.rdma_copy.specs.declared.copy.CopyAnswer.{CopyAnswer}
use Rattle.block_server.specs.Bearing.{BearsIn, IsDataPart, IsShownAs}
use Rattle.block_server.specs.Cargo.{AreShown, data_bytes}
use Rattle.block_server.specs.Copied.{copies_in, own_name}
use Rattle.block_server.specs.Parts.{LiesAt}
use Rattle.block_server.specs.declared.cursor.Cursor.{Cursor}
use Rattle.block_server.specs.declared.service.Stage.{Stage}
use Rattle.block_server.specs.declared.service.Stage.TheVariants as stages
use Rattle.block_server.specs.Ranges.{Known, known_in}
use Rattle.block_server.proofs.Bearing.{bears_on, bears_wider}
use Rattle.block_server.proofs.DataCopies.{refused_none}
use Rattle.block_server.proofs.DataPages.{write_shows}
use Rattle.block_server.proofs.NamedWindows.{grows_same}

-- a copy that was not made lays nothing
known_same : (shared : Bool) (old new : PortState) → LaysNone shared old new → OnlyCopies shared old new → cond shared None (Some (known_in new)) ≡ cond shared None (Some (known_in old))
known_same true old new none rest = refl
known_same false old new none rest = λ i. Some (record { strokes = λ p. grows_same (old.strokes p) (new.strokes p) (none.strokes p) i; values = λ e. rest.values e i })

known_on_err : {T E : Type 0} (result : Result T E) (shared : Bool) (old new : PortState) → OnErr result (LaysNone shared old new) → OnlyCopies shared old new
    → OnErr result (cond shared None (Some (known_in new)) ≡ cond shared None (Some (known_in old)))
known_on_err (Ok made) shared old new none rest = tt
known_on_err (Err error) shared old new none rest = known_same shared old new none rest

pub copy_missed : {T E : Type 0} (result : Result T E) (answer : CopyAnswer) (shared : Bool) (old new : PortState) → OnRefused answer (LaysNone shared old new)
    → OnErr result (copies_in answer ≡ []) → OnlyCopies shared old new → OnErr result (cond shared None (Some (known_in new)) ≡ cond shared None (Some (known_in old)))
copy_missed result answer shared old new refused none rest = known_on_err result shared old new (refused_none result answer (LaysNone shared old new) refused none) rest

-- the same bytes, under the same name
shown_as : (name name' : StrokeName) (address len len' : ℕ) (shown shown' : ℕ → ℕ) → name' ≡ name → len' ≡ len → ((k : ℕ) → k < len → shown' k ≡ shown k)
    → (address' : ℕ) (bytes : List ℕ) (stroke : StrokeName) → IsShownAs name' address len' shown' address' bytes stroke → IsShownAs name address len shown address' bytes stroke
shown_as name name' address len len' shown shown' named long same address' bytes stroke is = record {
  name_is = is.name_is ∙ named;
  address_is = is.address_is;
  long = is.long ∙ long;
  are = λ k less. is.are k (omega (arith, less, long)) ∙ same k less;
}

-- a unit that was written to page 0 and copied from there
pub unit_bears : (own_shared : Bool) (own own' : PortState) (mark address len : ℕ) (bytes : List ℕ) (old mid new : Option Known) → own_shared ≡ false → len ≡ length bytes
    → Writes own_shared own 0 bytes mark own' → OnlyWrites own own' → mid ≡ old
    → BearsIn (IsShownAs (own_name own' mark) address len (λ k. region_byte own'.strokes (0 + k))) mid new
    → BearsIn (IsShownAs (own_name own mark) address (length bytes) (slice_index bytes)) old new
unit_bears true own own' mark address len bytes old mid new alone long wrote rest same bears = absurd (cc (alone))
unit_bears false own own' mark address len bytes old mid new alone long wrote rest same bears =
    subst (λ (known : Option Known). BearsIn (IsShownAs (own_name own mark) address (length bytes) (slice_index bytes)) known new) same
    (bears_wider (IsShownAs (own_name own' mark) address len (λ k. region_byte own'.strokes (0 + k))) (IsShownAs (own_name own mark) address (length bytes) (slice_index bytes))
    (shown_as (own_name own mark) (own_name own' mark) address (length bytes) len (slice_index bytes) (λ k. region_byte own'.strokes (0 + k))
    (ap (λ place. record { who = place.unit; mark = mark }) rest.place) long (λ k less. write_shows own own' 0 mark bytes wrote (0 + k) (omega arith) (omega (arith, less))
    ∙ ap (λ (n : ℕ). get_or bytes n 0) (omega arith))) mid new bears)

-- a part of the data that was copied, by numbers of another type
pub data_bears : (own : PortState) (at at' address len len' mark : ℕ) (old new : Option Known) → at' ≡ at → len' ≡ len
    → BearsIn (IsShownAs (own_name own mark) address len' (λ k. region_byte own.strokes (8192 + at' + k))) old new
    → BearsIn (IsShownAs (own_name own mark) address len (λ k. data_bytes own (at + k))) old new
unfolding data_bytes
data_bears own at at' address len len' mark old new same long =
    bears_wider (IsShownAs (own_name own mark) address len' (λ k. region_byte own.strokes (8192 + at' + k))) (IsShownAs (own_name own mark) address len (λ k. data_bytes own (at + k)))
    (shown_as (own_name own mark) (own_name own mark) address len len' (λ k. data_bytes own (at + k)) (λ k. region_byte own.strokes (8192 + at' + k)) refl long
    (λ k less. ap (region_byte own.strokes) (omega (arith, same)))) old new

-- A PART OF DATA-IN ------------------------------------------------------------------------------

-- what one copy lays is a part of the data as far as it comes
data_part : (name : StrokeName) (list : List Desc) (given : List ℕ) (at address len done : ℕ) (shown : ℕ → ℕ) → LiesAt list at (Some address) len → at + len ≤ length given
    → AreShown shown given → done ≡ at + len → (address' : ℕ) (bytes : List ℕ) (stroke : StrokeName) → IsShownAs name address len (λ k. shown (at + k)) address' bytes stroke
    → IsDataPart name list (take done given) address' bytes stroke
data_part name list given at address len done shown lies within are ends address' bytes stroke is = record {
  name_is = is.name_is;
  at = at;
  inside = omega (arith, is.long, length-take-le done given (omega (arith, ends, within)), ends);
  there = λ k less. lies k (omega (arith, less, is.long)) ∙ ap (λ (n : ℕ). Some (n + k)) (sym is.address_is);
  are = λ k less.
      is.are k (omega (arith, less, is.long)) ∙ are (at + k) (omega (arith, less, is.long, within))
      ∙ sym (get_or-take done given (at + k) 0 (omega (arith, less, is.long, ends)));
}

-- a part of the first bytes is one of more of them
more_part : (name : StrokeName) (list : List Desc) (given : List ℕ) (n m : ℕ) → n ≤ m → (address : ℕ) (bytes : List ℕ) (stroke : StrokeName)
    → IsDataPart name list (take n given) address bytes stroke → IsDataPart name list (take m given) address bytes stroke
more_part name list given n m more address bytes stroke is = record {
  name_is = is.name_is;
  at = is.at;
  inside = omega (arith, is.inside, length-take n given, length-take m given, more);
  there = is.there;
  are = λ k less.
      is.are k less ∙ get_or-take n given (is.at + k) 0 (omega (arith, less, is.inside, length-take n given))
      ∙ sym (get_or-take m given (is.at + k) 0 (omega (arith, less, is.inside, length-take n given, more)));
}

whole_part : (name : StrokeName) (list : List Desc) (given : List ℕ) (n : ℕ) (address : ℕ) (bytes : List ℕ) (stroke : StrokeName)
    → IsDataPart name list (take n given) address bytes stroke → IsDataPart name list given address bytes stroke
whole_part name list given n address bytes stroke is =
    subst (λ (all : List ℕ). IsDataPart name list all address bytes stroke) (take_all (n + length given) given (omega arith))
    (more_part name list given n (n + length given) (omega arith) address bytes stroke is)

-- data-in that were laid, and the next part
pub part_borne : (name : StrokeName) (list : List Desc) (given : List ℕ) (at address len done : ℕ) (shown shown' : ℕ → ℕ) (old mid new : Option Known) → LiesAt list at (Some address) len
    → at + len ≤ length given → AreShown shown given → shown' ≡ shown → done ≡ at + len → BearsIn (IsDataPart name list (take at given)) old mid
    → BearsIn (IsShownAs name address len (λ k. shown' (at + k))) mid new → BearsIn (IsDataPart name list (take done given)) old new
part_borne name list given at address len done shown shown' old mid new lies within are same ends first next =
    bears_on (IsDataPart name list (take done given)) old mid new
    (bears_wider (IsDataPart name list (take at given)) (IsDataPart name list (take done given)) (more_part name list given at done (omega (arith, ends))) old mid first)
    (bears_wider (IsShownAs name address len (λ k. shown' (at + k))) (IsDataPart name list (take done given))
    (data_part name list given at address len done shown' lies within (λ k less. ap (λ (s : ℕ → ℕ). s k) same ∙ are k less) ends) mid new next)

-- the row has all of the data, or as many as were copied
pub row_borne : (name : StrokeName) (list : List Desc) (given inn : List ℕ) (n : ℕ) (old new : Option Known) → (inn ≡ given) ⊎ (inn ≡ take n given)
    → BearsIn (IsDataPart name list (take n given)) old new → BearsIn (IsDataPart name list inn) old new
row_borne name list given inn n old new (inl all) bears =
    subst (λ (bytes : List ℕ). BearsIn (IsDataPart name list bytes) old new) (sym all)
    (bears_wider (IsDataPart name list (take n given)) (IsDataPart name list given) (whole_part name list given n) old new bears)
row_borne name list given inn n old new (inr some) bears = subst (λ (bytes : List ℕ). BearsIn (IsDataPart name list bytes) old new) (sym some) bears

-- THE LOOP ---------------------------------------------------------------------------------------

-- the next part was copied
pub part_sent : (own first : PortState) (tag : ℕ) (list inns : List Desc) (given : List ℕ) (at from : ℕ) (found : Option ℕ) (address len done limit : ℕ) (old mid new : Option Known)
    → own.place ≡ first.place → data_bytes own ≡ data_bytes first → list ≡ inns → found ≡ Some address → LiesAt list at found len → at ≡ from → at + len ≤ limit → limit ≡ length given
    → done ≡ at + len → AreShown (data_bytes first) given → BearsIn (IsDataPart (own_name first tag) inns (take from given)) old mid
    → BearsIn (IsShownAs (own_name own tag) address len (λ k. data_bytes own (at + k))) mid new → BearsIn (IsDataPart (own_name first tag) inns (take done given)) old new
part_sent own first tag list inns given at from found address len done limit old mid new place same pieces is lies starts within all ends are borne next =
    part_borne (own_name first tag) inns given at address len done (data_bytes first) (data_bytes own) old mid new
    (subst (λ (z : List Desc × Option ℕ). LiesAt z.0 at z.1 len) (λ i. (pieces i, is i)) lies) (omega (arith, within, all)) are same ends
    (subst (λ (n : ℕ). BearsIn (IsDataPart (own_name first tag) inns (take n given)) old mid) (sym starts) borne)
    (subst (λ (name : StrokeName). BearsIn (IsShownAs name address len (λ k. data_bytes own (at + k))) mid new) (ap (λ place'. record { who = place'.unit; mark = tag }) place) next)

pub cursor_same : (row row' : ℕ) (reply reply' : ScsiReply) (cursor cursor' : Cursor) → stages.DataIn row reply cursor ≡ stages.DataIn row' reply' cursor' → cursor ≡ cursor'
cursor_same row row' reply reply' cursor cursor' is = cc (is)

-- the data that were copied, by where the service stands, and what came of a copy that was not made
pub borne_at : (name : StrokeName) (list : List Desc) (given : List ℕ) (stage : Stage) (row : ℕ) (reply : ScsiReply) (cursor other : Cursor) (old mid new : Option Known)
    → stage ≡ stages.DataIn row reply cursor → stage ≡ stages.DataIn row reply other → new ≡ mid → BearsIn (IsDataPart name list (take cursor.done given)) old mid
    → BearsIn (IsDataPart name list (take other.done given)) old new
borne_at name list given stage row reply cursor other old mid new at is same borne =
    subst (λ (z : Cursor × Option Known). BearsIn (IsDataPart name list (take z.0.done given)) old z.1) (λ i. (cursors i, sym same i)) borne
  where
    cursors : cursor ≡ other
    cursors = cursor_same row row reply reply cursor other (sym at ∙ is)

-- THE ROW ----------------------------------------------------------------------------------------

pub place_same : (row row' : ℕ) (reply reply' : ScsiReply) (cursor cursor' : Cursor) → stages.DataIn row reply cursor ≡ stages.DataIn row' reply' cursor' → row ≡ row'
place_same row row' reply reply' cursor cursor' is = cc (is)
