-- The row in service, as the disk law goes: what its answer may be, and what stays where its data-in are cut.
use Rattle.std.proofs.Common.{◌≡◌, inl, inr, ℕ, zero, suc, ◌+◌, ◌-◌, ◌*◌, ◌<◌, ◌≤◌, nat_lt, Bool, true, false, if◌then◌else◌, List, [], ◌∷◌, Option, Some, None, IfSome, length, take, refl, sym, ◌∙◌, ap, subst, arith, length-take}
use Rattle.vio_num.specs.declared.history.Served.{Served}
use Rattle.srp_iu.specs.declared.unit.Iu.{Iu}
use Rattle.srp_iu.specs.declared.unit.Iu.TheVariants as units
use Rattle.srp_iu.specs.declared.command.Cmd.{Cmd}
use Rattle.srp_iu.specs.declared.task.TskMgmt.{TskMgmt}
use Rattle.srp_iu.specs.declared.response_code.ResponseCode.{ResponseCode}
use Rattle.srp_iu.specs.declared.response_code.ResponseCode.TheVariants.{FieldsInvalid}
use Rattle.srp_iu.specs.Grammar.{Spells}
use Rattle.srp_iu.specs.Layout.{field}
use Rattle.srp_desc.specs.Pieces.{total_of}
use Rattle.block_disk.specs.Cdb.{command_of, refusal}
use Rattle.block_disk.specs.Disk.{answer, device_calls, image_after, read_reply, refused, reply_to, step, sync_reply, write_reply}
use Rattle.block_disk.specs.Sense.{invalid_field, out_of_range}
use Rattle.block_disk.specs.Steps.{IsStep}
use Rattle.block_disk.specs.declared.command.DiskOp.{DiskOp}
use Rattle.block_disk.specs.declared.command.DiskOp.TheVariants.{Ready, Inquiry, Capacity10, Capacity16, Luns, Read, Write, Sync}
use Rattle.block_disk.specs.declared.reply.ScsiReply.{ScsiReply}
use Rattle.block_server.specs.Formed.{IsFormed}
use Rattle.block_server.specs.Causes.{RefusesIn, told_to}
use Rattle.block_server.specs.DiskLaw.{HasData, IsStepped, SaysCode, ServesRowBy, handed_over, step_of}
use Rattle.block_server.specs.Orders.{IsCauseOf, IsCodeOf, IsOrder}
use Rattle.block_server.specs.Responses.{Answers, HasCode, HasStatus}
use Rattle.block_server.specs.Serving.{MayAnswer, Terms}
use Rattle.block_server.specs.declared.request.Order.{Order}
use Rattle.block_server.specs.declared.request.Order.TheVariants as orders
use Rattle.block_server.proofs.DiskLaws.{none_written, row_still}

-- Bytes spell one unit at most.
abbrev pub SpellsOne : Type 0
SpellsOne = (bytes : List ℕ) (a b : Iu) → Spells bytes a → Spells bytes b → a ≡ b

-- ---- an answer with data-in has no fault

read_sound : (past : Bool) (blocks : ℕ) (fault : Option ℕ) → 0 < (if past then refused out_of_range 0 else read_reply blocks fault).in_len
    → (if past then refused out_of_range 0 else read_reply blocks fault).fault ≡ None
read_sound true blocks fault some = refl
read_sound false blocks None some = refl
read_sound false blocks (Some call) some = absurd (omega (arith, some))

write_sound : (past short : Bool) (blocks lack : ℕ) (fault : Option ℕ)
    → 0 < (if past then refused out_of_range 0 else if short then refused invalid_field lack else write_reply blocks fault).in_len
    → (if past then refused out_of_range 0 else if short then refused invalid_field lack else write_reply blocks fault).fault ≡ None
write_sound true short blocks lack fault some = refl
write_sound false true blocks lack fault some = refl
write_sound false false blocks lack None some = refl
write_sound false false blocks lack (Some call) some = absurd (omega (arith, some))

sync_sound : (past : Bool) (fault : Option ℕ) → 0 < (if past then refused out_of_range 0 else sync_reply fault).in_len
    → (if past then refused out_of_range 0 else sync_reply fault).fault ≡ None
sync_sound true fault some = refl
sync_sound false None some = refl
sync_sound false (Some call) some = absurd (omega (arith, some))

sound : (why : Option (List ℕ)) (op : Option DiskOp) (count sent : ℕ) (fault : Option ℕ) → 0 < (answer why op count sent fault).in_len
    → (answer why op count sent fault).fault ≡ None
sound (Some cause) op count sent fault some = refl
sound None None count sent fault some = refl
sound None (Some Ready) count sent fault some = refl
sound None (Some (Inquiry max)) count sent fault some = refl
sound None (Some Capacity10) count sent fault some = refl
sound None (Some (Capacity16 max)) count sent fault some = refl
sound None (Some (Luns max)) count sent fault some = refl
sound None (Some (Read lba n)) count sent fault some = read_sound (nat_lt count (lba + n)) n fault some
sound None (Some (Write lba n)) count sent fault some =
    write_sound (nat_lt count (lba + n)) (nat_lt sent (512 * n)) n (512 * n - sent) fault some
sound None (Some (Sync lba n)) count sent fault some = sync_sound (nat_lt count (lba + n)) fault some

-- ---- the disk step of a row

-- what is known of a row whose disk step was made
pub record IsKnown (terms : Terms) (command : Cmd) (reply : ScsiReply) (row : Served) : Type 0 where
  pub spells : Spells row.iu (units.Cmd command)
  pub brought : HasData (told_to terms.told row.unit) command row.out
  pub fault_is : reply.fault ≡ row.fault
  pub reply_is : reply ≡ reply_to terms.size command.lun command.cdb (length row.out) row.fault
  pub few : length row.inn ≤ handed_over command reply

-- the step, with the data-in that it gave
pub record Made (command : Cmd) (reply : ScsiReply) (row : Served) (b a : List (List ℕ)) : Type 0 where
  pub given : List ℕ
  pub step : IsStep b (step_of command row reply given) a
  pub inn : row.inn ≡ take (length row.inn) given

module _ (one : SpellsOne) (terms : Terms) (command : Cmd) (reply : ScsiReply) (row : Served) (known : IsKnown terms command reply row)
    (b a : List (List ℕ)) (size : length b ≡ terms.size) where
  same_command : (c : Cmd) → Spells row.iu (units.Cmd c) → c ≡ command
  same_command c spells = command_is c command (one row.iu (units.Cmd c) (units.Cmd command) spells known.spells)
    where
      command_is : (x y : Cmd) → units.Cmd x ≡ units.Cmd y → x ≡ y
      command_is x y same = cc (same)

  made_stepped : IsStepped terms.told b row a → Made command reply row b a
  made_stepped is =
      let same = same_command is.command is.spells in
      let reply_same : is.reply ≡ reply =
      is.step.reply ∙ (λ i. reply_to (size i) (same i).lun (same i).cdb (length row.out) (is.fault i)) ∙ sym known.reply_is in
      record {
        given = is.given;
        step = subst (λ (z : Cmd × ScsiReply). IsStep b (step_of z.0 row z.1 is.given) a) (λ i. (same i, reply_same i)) is.step;
        inn = is.inn;
      }

  made_still : row.out ≡ [] → row.inn ≡ [] → row.fault ≡ None → a ≡ b → Made command reply row b a
  made_still out inn fault same =
      let fault_none : reply.fault ≡ None = known.fault_is ∙ fault in
      record {
        given = (step b command.lun command.cdb row.out reply.fault).given;
        step = record {
          index = subst (λ (f : Option ℕ). IfSome f (λ call. call < device_calls (length b) command.lun command.cdb (length row.out))) (sym fault_none) tt;
          reply = known.reply_is ∙ (λ i. reply_to ((sym size) i) command.lun command.cdb (length row.out) ((sym known.fault_is) i));
          given = refl;
          blocks = same ∙ sym ((λ i. image_after (refusal command.lun command.cdb) (command_of command.cdb) b (out i) (fault_none i))
              ∙ none_written (refusal command.lun command.cdb) (command_of command.cdb) b);
        };
        inn = subst (λ (xs : List ℕ). xs ≡ take (length xs) (step b command.lun command.cdb row.out reply.fault).given) (sym inn) refl;
      }

  pub made_of : ServesRowBy terms.told b row a → Made command reply row b a
  made_of (inl is) = made_stepped is
  made_of (inr (inl is)) = made_still is.none.out is.none.inn is.none.fault is.none.same
  made_of (inr (inr (inl is))) = absurd (apart is.task command (one row.iu (units.TskMgmt is.task) (units.Cmd command) is.spells known.spells))
    where
      apart : (t : TskMgmt) (c : Cmd) → units.TskMgmt t ≡ units.Cmd c → ⊥
      apart t c same = absurd (cc (same))
  made_of (inr (inr (inr is))) = absurd (is.unread (units.Cmd command) known.spells)

-- ---- what the row law says of another row in the place of this one

-- the first of a list's first are its first
pub first_of : (n : ℕ) (xs ys : List ℕ) → xs ≡ take (length xs) ys → take n xs ≡ take (length (take n xs)) ys
first_of zero xs ys is = refl
first_of (suc n) [] ys is = refl
first_of (suc n) (x ∷ xs) [] is = absurd (cc (is))
first_of (suc n) (x ∷ xs) (y ∷ ys) is = (λ i. (head is) i ∷ (first_of n xs ys (tail is)) i)
  where
    head : x ∷ xs ≡ y ∷ take (length xs) ys → x ≡ y
    head same = cc (same)

    tail : x ∷ xs ≡ y ∷ take (length xs) ys → xs ≡ take (length xs) ys
    tail same = cc (same)

module _ (one : SpellsOne) (terms : Terms) (command : Cmd) (reply : ScsiReply) (row : Served) (known : IsKnown terms command reply row) where
  -- the answer says the status, where the row has all data-in
  pub may_status : length row.inn ≡ handed_over command reply → (bytes : List ℕ)
      → Answers bytes (HasStatus (field 8 8 row.iu) (total_of command.out) (total_of command.inn) reply) → MayAnswer terms bytes row
  may_status all_in bytes says = record {
    law = λ b a size is.
        let made = made_of one terms command reply row known b a size is in
        inl (record {
          command = command;
          spells = known.spells;
          brought = known.brought;
          reply = reply;
          given = made.given;
          step = made.step;
          fault = known.fault_is;
          inn = made.inn;
          few = known.few;
          answer = inr (inl (record { all_in = all_in; answer = says }));
        });
    form = inl (record {
      command = command;
      spells = known.spells;
      brought = known.brought;
      reply = reply;
      reply_is = known.reply_is;
      few = known.few;
      answer = inr (inl (record { all_in = all_in; answer = says }));
    });
  }

  -- the answer says that the data-in were refused
  pub may_refuse : RefusesIn (told_to terms.told row.unit) command → 0 < handed_over command reply → (bytes : List ℕ) → Answers bytes (HasCode (field 8 8 row.iu) FieldsInvalid) → MayAnswer terms bytes row
  may_refuse cause some bytes says =
      let given : 0 < (reply_to terms.size command.lun command.cdb (length row.out) row.fault).in_len =
      subst (λ (r : ScsiReply). 0 < r.in_len) known.reply_is (omega (arith, some)) in
      let none : reply.fault ≡ None =
      ap (λ (r : ScsiReply). r.fault) known.reply_is
      ∙ sound (refusal command.lun command.cdb) (command_of command.cdb) terms.size (length row.out) row.fault given in
      record {
        law = λ b a size is.
            let made = made_of one terms command reply row known b a size is in
            inl (record {
              command = command;
              spells = known.spells;
              brought = known.brought;
              reply = reply;
              given = made.given;
              step = made.step;
              fault = known.fault_is;
              inn = made.inn;
              few = known.few;
              answer = inr (inr (record { cause = cause; some = some; no_fault = sym known.fault_is ∙ none; answer = says }));
            });
        form = inl (record {
          command = command;
          spells = known.spells;
          brought = known.brought;
          reply = reply;
          reply_is = known.reply_is;
          few = known.few;
          answer = inr (inr (record { cause = cause; some = some; no_fault = sym known.fault_is ∙ none; answer = says }));
        });
      }

  -- its data-in are cut
  pub may_cut : (n : ℕ) → row.answer ≡ [] → (b a : List (List ℕ)) → length b ≡ terms.size → ServesRowBy terms.told b row a → ServesRowBy terms.told b (record row { inn = take n row.inn }) a
  may_cut n blank b a size is =
      let made = made_of one terms command reply row known b a size is in
      inl (record {
        command = command;
        spells = known.spells;
        brought = known.brought;
        reply = reply;
        given = made.given;
        step = made.step;
        fault = known.fault_is;
        inn = first_of n row.inn made.given made.inn;
        few = omega (arith, known.few, length-take n row.inn);
        answer = inl blank;
      })

  pub known_cut : (n : ℕ) → IsKnown terms command reply (record row { inn = take n row.inn })
  known_cut n = record {
    spells = known.spells;
    brought = known.brought;
    fault_is = known.fault_is;
    reply_is = known.reply_is;
    few = omega (arith, known.few, length-take n row.inn);
  }

-- ---- rows without a disk step

-- what a row is whose request is answered with this code
pub code_row : (terms : Terms) (order : Order) (code : ResponseCode) (row : Served) (b : List (List ℕ)) → IsOrder order row.iu → IsCodeOf order code
    → IsCauseOf (told_to terms.told row.unit) order → row.out ≡ [] → row.inn ≡ [] → row.fault ≡ None → SaysCode code row → ServesRowBy terms.told b row b
code_row terms (orders.Task task) code row b order is cause out inn fault says =
    let says' : SaysCode _ row = subst (λ (c : ResponseCode). SaysCode c row) is says in
    inr (inr (inl (record { task = task; spells = order; none = record { same = refl; out = out; inn = inn; fault = fault; answer = says' } })))
code_row terms (orders.Command command) code row b order is cause out inn fault says =
    let says' : SaysCode FieldsInvalid row = subst (λ (c : ResponseCode). SaysCode c row) is says in
    inr (inl (record { command = command; spells = order; cause = cause; none = record { same = refl; out = out; inn = inn; fault = fault; answer = says' } }))
code_row terms orders.Unreadable code row b order is cause out inn fault says =
    let says' : SaysCode FieldsInvalid row = subst (λ (c : ResponseCode). SaysCode c row) is says in
    inr (inr (inr (record { unread = order; none = record { same = refl; out = out; inn = inn; fault = fault; answer = says' } })))
code_row terms (orders.Login request) code row b order is cause out inn fault says = absurd is
code_row terms orders.Logout code row b order is cause out inn fault says = absurd is

-- and it is in form
code_form : (terms : Terms) (order : Order) (code : ResponseCode) (row : Served) → IsOrder order row.iu → IsCodeOf order code → IsCauseOf (told_to terms.told row.unit) order
    → row.out ≡ [] → row.inn ≡ [] → row.fault ≡ None → SaysCode code row → IsFormed terms.size terms.told row
code_form terms (orders.Task task) code row order is cause out inn fault says =
    let says' : SaysCode _ row = subst (λ (c : ResponseCode). SaysCode c row) is says in
    inr (inr (inl (record { task = task; spells = order; none = record { out = out; inn = inn; fault = fault; answer = says' } })))
code_form terms (orders.Command command) code row order is cause out inn fault says =
    let says' : SaysCode FieldsInvalid row = subst (λ (c : ResponseCode). SaysCode c row) is says in
    inr (inl (record { command = command; spells = order; cause = cause; none = record { out = out; inn = inn; fault = fault; answer = says' } }))
code_form terms orders.Unreadable code row order is cause out inn fault says =
    let says' : SaysCode FieldsInvalid row = subst (λ (c : ResponseCode). SaysCode c row) is says in
    inr (inr (inr (record { unread = order; none = record { out = out; inn = inn; fault = fault; answer = says' } })))
code_form terms (orders.Login request) code row order is cause out inn fault says = absurd is
code_form terms orders.Logout code row order is cause out inn fault says = absurd is

-- it may get that answer
pub may_code : (order : Order) (code : ResponseCode) (row : Served) (terms : Terms) (bytes : List ℕ) → IsOrder order row.iu → IsCodeOf order code
    → IsCauseOf (told_to terms.told row.unit) order → row.out ≡ [] → row.inn ≡ [] → row.fault ≡ None → Answers bytes (HasCode (field 8 8 row.iu) code) → MayAnswer terms bytes row
may_code order code row terms bytes spelled is cause out inn fault says = record {
  law = λ b a size serves.
      subst (λ (x : List (List ℕ)). ServesRowBy terms.told b (record row { answer = bytes }) x) (sym (row_still terms.told b row a out fault serves))
      (code_row terms order code (record row { answer = bytes }) b spelled is cause out inn fault says);
  form = code_form terms order code (record row { answer = bytes }) spelled is cause out inn fault says;
}
