-- The lists and buffers of a command, read back from its canonical bytes.
use Rattle.std.proofs.Common.{◌≡◌, ◌<◌, ◌≤◌, ℕ, ◌+◌, ◌*◌, List, [], ◌++◌, length, drop, slice_index, refl, sym, subst, arith}
use Rattle.std.proofs.lemmas.List.{append-nil}
use Rattle.srp_iu.specs.declared.command.Cmd.{Cmd}
use Rattle.srp_iu.specs.declared.buffer.Buffer.{Buffer}
use Rattle.srp_iu.specs.declared.buffer.Buffer.TheVariants.{Absent, Direct, Indirect}
use Rattle.srp_iu.specs.Layout.{part}
use Rattle.srp_iu.specs.Buffer.{SpellsBuffer, buffer_len, buffer_bytes, format_of, count_of, written_len}
use Rattle.srp_iu.specs.Command.{FitsCmd, more_len, out_format, in_format, out_at, in_at, cmd_len}
use Rattle.srp_iu.proofs.Parts.{Places, places}

-- a format is below 3
format_small : (b : Buffer) → format_of b < 3
format_small Absent = omega arith
format_small (Direct desc) = omega arith
format_small (Indirect table total list) = omega arith

-- the length that a buffer's format and count announce
len_announced : (b : Buffer) → buffer_len (format_of b) (count_of b) ≡ written_len b
len_announced Absent = refl
len_announced (Direct desc) = refl
len_announced (Indirect table total list) = refl

-- a buffer at equal bytes
pub buffer_moved : (f g n m : ℕ) (bs cs : List ℕ) (b : Buffer) → f ≡ g → n ≡ m → bs ≡ cs → SpellsBuffer f n bs b → SpellsBuffer g m cs b
buffer_moved f g n m bs cs b e h k s =
    subst (λ (x : ℕ). SpellsBuffer x m cs b) e
    (subst (λ (x : ℕ). SpellsBuffer f x cs b) h
    (subst (λ (x : List ℕ). SpellsBuffer f n x b) k s))

-- a buffer is read back, whatever follows
abbrev pub ReadsBack : Buffer → Type 0
ReadsBack b = (rest : List ℕ) → SpellsBuffer (format_of b) (count_of b) (buffer_bytes b ++ rest) b

-- what the lists and buffers of a command's bytes are
pub record Tail (bytes : List ℕ) (c : Cmd) : Type 0 where
  pub full : cmd_len bytes ≤ length bytes
  pub cdb : c.cdb ≡ part 32 16 bytes
  pub more : c.more.items ≡ part 48 (more_len bytes) bytes
  pub out : SpellsBuffer (out_format bytes) (slice_index bytes 6) (drop (out_at bytes) bytes) c.out
  pub inn : SpellsBuffer (in_format bytes) (slice_index bytes 7) (drop (in_at bytes) bytes) c.inn
  pub exact : length bytes ≡ 48 + length c.more.items + written_len c.out + written_len c.inn

-- what stands behind 32 bytes is read back
pub tail : (bytes front : List ℕ) (c : Cmd)
    → bytes ≡ (((front ++ c.cdb) ++ c.more.items) ++ buffer_bytes c.out) ++ buffer_bytes c.inn
    → length front ≡ 32
    → length c.cdb ≡ 16
    → FitsCmd c
    → slice_index bytes 5 ≡ 16 * format_of c.out + format_of c.inn
    → slice_index bytes 6 ≡ count_of c.out
    → slice_index bytes 7 ≡ count_of c.inn
    → slice_index bytes 31 ≡ length c.more.items
    → length (buffer_bytes c.out) ≡ written_len c.out
    → length (buffer_bytes c.inn) ≡ written_len c.inn
    → ReadsBack c.out
    → ReadsBack c.inn
    → Tail bytes c
tail bytes front c whole front_len cdb_len fits at_5 at_6 at_7 at_31 out_bytes in_bytes out_back in_back =
    let p : Places bytes c.cdb c.more.items (buffer_bytes c.out) (buffer_bytes c.inn) = rw whole (places front c.cdb c.more.items (buffer_bytes c.out) (buffer_bytes c.inn) front_len cdb_len) in
    let more_is : more_len bytes ≡ length c.more.items = omega (arith, fits.fours) in
    let small_out = format_small c.out in
    let small_in = format_small c.inn in
    let out_is : format_of c.out ≡ out_format bytes = omega arith in
    let in_is : format_of c.inn ≡ in_format bytes = omega arith in
    let out_len : buffer_len (out_format bytes) (slice_index bytes 6) ≡ written_len c.out = rw (← out_is, at_6) (len_announced c.out) in
    let in_len : buffer_len (in_format bytes) (slice_index bytes 7) ≡ written_len c.inn = rw (← in_is, at_7) (len_announced c.inn) in
    let out_place : buffer_bytes c.out ++ buffer_bytes c.inn ≡ drop (out_at bytes) bytes = rw more_is (sym p.out_at) in
    let in_at_is : in_at bytes ≡ 48 + length c.more.items + length (buffer_bytes c.out) = omega arith in
    let in_place : buffer_bytes c.inn ++ [] ≡ drop (in_at bytes) bytes = rw (append-nil, in_at_is) (sym p.in_at) in
    let exact : length bytes ≡ 48 + length c.more.items + written_len c.out + written_len c.inn = omega (arith, p.all) in
    let full : cmd_len bytes ≤ length bytes = omega arith in
    record {
      full = full;
      cdb = sym p.cdb_at;
      more = rw more_is (sym p.more_at);
      out = buffer_moved _ _ _ _ _ _ c.out out_is (sym at_6) out_place (out_back (buffer_bytes c.inn));
      inn = buffer_moved _ _ _ _ _ _ c.inn in_is (sym at_7) in_place (in_back []);
      exact = exact;
    }
