-- The disk step of a command gives a row that the disk law serves.
use Rattle.std.proofs.Common.{◌≡◌, inl, ℕ, ◌≤◌, List, [], ◌∷◌, ◌++◌, Option, Some, None, IfSome, length, take, refl, sym, ◌∙◌, ap, subst, arith, length-take}
use Rattle.std.specs.Prelude.{IsSome, option_map}
use Rattle.std.proofs.lemmas.List.{take-take}
use Rattle.vio_num.specs.declared.history.Served.{Served as ServedRow}
use Rattle.srp_iu.specs.declared.buffer.Desc.{Desc}
use Rattle.srp_iu.specs.declared.command.Cmd.{Cmd}
use Rattle.srp_iu.specs.declared.unit.Iu.TheVariants as units
use Rattle.srp_iu.specs.Grammar.{Spells}
use Rattle.srp_desc.specs.Pieces.{sum_of, total_of}
use Rattle.block_disk.specs.Disk.{reply_to}
use Rattle.block_disk.specs.Steps.{DiskStep, IsStep, StepOn, blocks_after, made_step}
use Rattle.block_disk.specs.declared.reply.ScsiReply.{ScsiReply}
use Rattle.block_server.specs.Causes.{Hearing, told_to}
use Rattle.block_server.specs.DiskLaw.{HasData, ServeBy, ServesRowBy, handed_over}
use Rattle.block_server.specs.Fetched.{HasBoth}
use Rattle.block_server.specs.Orders.{IsOrder}
use Rattle.block_server.specs.Serving.{HasReply, Held, ServeFrom, StaysServed, Terms}
use Rattle.block_server.specs.declared.request.Order.{Order}
use Rattle.block_server.specs.declared.request.Order.TheVariants.{Command}
use Rattle.block_server.specs.declared.request.Request.{Request}
use Rattle.block_server.proofs.DiskLaws.{serve_push}

pub has_data : (Hears : Hearing) (command : Cmd) (outs inns : List Desc) (out : List ℕ) → HasBoth Hears command outs inns → length out ≡ sum_of outs → HasData Hears command out
has_data Hears command outs inns out both all = record { outs = outs; inns = inns; out_named = both.out_named; in_named = both.in_named; all_out = all }

-- what the disk step of a command gave, and the row that it got
pub record IsNewRow (terms : Terms) (request : Request) (command : Cmd) (outs inns : List Desc) (out given buffer : List ℕ) (reply : ScsiReply) (row : ServedRow) : Type 0 where
  pub order : request.order ≡ Command command
  pub both : HasBoth (told_to terms.told row.unit) command outs inns
  pub all_out : length out ≡ sum_of outs
  pub expected : sum_of inns ≡ total_of command.inn
  pub given_is : given ≡ take (handed_over command reply) buffer
  pub room : reply.in_len ≤ length buffer
  pub reply_is : reply ≡ reply_to terms.size command.lun command.cdb (length out) reply.fault
  pub iu : row.iu ≡ request.unit.items
  pub out_is : row.out ≡ out
  pub inn_is : row.inn ≡ given
  pub fault_is : row.fault ≡ reply.fault
  pub blank : row.answer ≡ []

module _ (request : Request) (command : Cmd) (outs inns : List Desc) (out given buffer : List ℕ) (terms : Terms) (reply : ScsiReply) (row : ServedRow)
    (new : IsNewRow terms request command outs inns out given buffer reply row) where
  len_given : length row.inn ≡ handed_over command reply
  len_given = omega (arith, ap length new.inn_is, ap length new.given_is, length-take (handed_over command reply) buffer, new.room)

  brought : HasData (told_to terms.told row.unit) command row.out
  brought = subst (HasData (told_to terms.told row.unit) command) (sym new.out_is) (has_data (told_to terms.told row.unit) command outs inns out new.both new.all_out)

  pub has_reply : HasReply terms request given reply row
  has_reply = record {
    command = command;
    order = new.order;
    brought = brought;
    fault_is = sym new.fault_is;
    reply_is = new.reply_is ∙ (λ i. reply_to terms.size command.lun command.cdb (length ((sym new.out_is) i)) ((sym new.fault_is) i));
    given_is = new.inn_is;
    all_in = len_given;
  }

  first_given : row.inn ≡ take (length row.inn) (take reply.in_len buffer)
  first_given =
      new.inn_is ∙ new.given_is ∙ sym (take-take (handed_over command reply) reply.in_len buffer (omega arith))
      ∙ ap (λ (n : ℕ). take n (take reply.in_len buffer)) (sym len_given)

  pub new_row_serves : (b a : List (List ℕ)) → IsStep b (made_step command.lun command.cdb out reply buffer) a → ServesRowBy terms.told b row a
  new_row_serves b a made = inl (record {
    command = command;
    spells = subst (λ (bytes : List ℕ). Spells bytes (units.Cmd command)) (sym new.iu)
        (subst (λ (order : Order). IsOrder order request.unit.items) new.order request.spelled);
    brought = brought;
    reply = reply;
    given = take reply.in_len buffer;
    step = subst (λ (bytes : List ℕ). IsStep b (record { lun = command.lun; cdb = command.cdb; data_out = bytes; reply = reply; given = take reply.in_len buffer }) a) (sym new.out_is) made;
    fault = sym new.fault_is;
    inn = first_given;
    few = omega (arith, len_given);
    answer = inl new.blank;
  })

-- the disk law goes on over a step and its row
stepped : (terms : Terms) (now now' : Option (List (List ℕ))) (h h' : List ServedRow) (row : ServedRow) (made : DiskStep) → StepOn now made now' → (now ≡ None → now' ≡ None)
    → h' ≡ h ++ row ∷ [] → ((b a : List (List ℕ)) → IsStep b made a → ServesRowBy terms.told b row a) → (before : List (List ℕ))
    → IfSome now (ServeFrom terms before h) → IfSome now' (ServeFrom terms before h')
stepped terms None now' h h' row made step none added serves before is = subst (λ (n : Option (List (List ℕ))). IfSome n (ServeFrom terms before h')) (sym (none refl)) tt
stepped terms (Some all) now' h h' row made step none added serves before is =
    subst (λ (n : Option (List (List ℕ))). IfSome n (ServeFrom terms before h')) (sym step.0) (record {
      size = is.size;
      serve = subst (λ (list : List ServedRow). ServeBy terms.told before list (blocks_after all made)) (sym added)
          (serve_push terms.told before all (blocks_after all made) h row is.serve (serves all (blocks_after all made) step.1));
    })

none_map : (now now' : Option (List (List ℕ))) (f : List (List ℕ) → List (List ℕ)) → now' ≡ option_map f now → now ≡ None → now' ≡ None
none_map now now' f is none = is ∙ ap (option_map f) none

pub tells_map : (now now' : Option (List (List ℕ))) (f : List (List ℕ) → List (List ℕ)) → now' ≡ option_map f now → IfSome now (λ all. IsSome now')
tells_map None now' f is = tt
tells_map (Some all) now' f is = subst (λ (n : Option (List (List ℕ))). IsSome n) (sym is) refl

pub stays_stepped : (d d' : Held) (h h' : List ServedRow) (row : ServedRow) (made : DiskStep) (f : List (List ℕ) → List (List ℕ)) → d'.terms ≡ d.terms → StepOn d.now made d'.now
    → d'.now ≡ option_map f d.now → h' ≡ h ++ row ∷ [] → ((b a : List (List ℕ)) → IsStep b made a → ServesRowBy d.terms.told b row a) → StaysServed d d' h h'
stays_stepped d d' h h' row made f terms step image added serves before is =
    subst (λ (t : Terms). IfSome d'.now (ServeFrom t before h')) (sym terms)
    (stepped d.terms d.now d'.now h h' row made step (none_map d.now d'.now f image) added serves before is)
