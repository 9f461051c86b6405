use Rattle.std.proofs.Common.{rules, arith, ◌≡◌, ◌+◌, ◌*◌, ◌++◌, ℕ, length, slice_index, ap, length-append}
use Rattle.srp_iu.specs.Buffer.{buffer_bytes, format_of, count_of, written_len}
use Rattle.srp_iu.proofs.Commands.{tail}
use Rattle.srp_iu.proofs.command.Cmd.write.Goals as goal

pub returns : goal.returns
returns c =
    let front : length c.put-5.new.out.items ≡ 32 = search rules in
    let cdb : length c.args.self.now.cdb ≡ 16 = omega arith in
    let whole : c.append_to-2.new.out.items ≡ (((c.put-5.new.out.items ++ c.args.self.now.cdb) ++ c.args.self.now.more.items) ++ buffer_bytes c.args.self.now.out) ++ buffer_bytes c.args.self.now.inn = search rules in
    let at_5 : slice_index c.append_to-2.new.out.items 5 ≡ 16 * format_of c.args.self.now.out + format_of c.args.self.now.inn = search rules in
    let at_6 : slice_index c.append_to-2.new.out.items 6 ≡ count_of c.args.self.now.out = search rules in
    let at_7 : slice_index c.append_to-2.new.out.items 7 ≡ count_of c.args.self.now.inn = search rules in
    let at_31 : slice_index c.append_to-2.new.out.items 31 ≡ length c.args.self.now.more.items = search rules in
    let out_bytes : length (buffer_bytes c.args.self.now.out) ≡ written_len c.args.self.now.out = omega (arith, c.append_to.ensures.len, ap length c.append_to.ensures.bytes, length-append {A = ℕ}) in
    let in_bytes : length (buffer_bytes c.args.self.now.inn) ≡ written_len c.args.self.now.inn = omega (arith, c.append_to-2.ensures.len, ap length c.append_to-2.ensures.bytes, length-append {A = ℕ}) in
    let t = tail c.append_to-2.new.out.items c.put-5.new.out.items c.args.self.now whole front cdb c.requires at_5 at_6 at_7 at_31 out_bytes in_bytes c.append_to.ensures.reads_back c.append_to-2.ensures.reads_back in
    let at_29 : slice_index c.append_to-2.new.out.items 29 ≡ c.args.self.now.attribute = search rules in
    record {
      spells = record {
        kind = search rules;
        full = t.full;
        tag = search rules;
        lun = search rules;
        attribute = omega (arith, c.requires.attribute);
        cdb = t.cdb;
        more = t.more;
        out = t.out;
        inn = t.inn;
      };
      exact = t.exact;
      from_1 = search rules;
      out_count = at_6;
      in_count = at_7;
      from_16 = search rules;
      at_28 = search rules;
      at_29 = at_29;
      at_30 = search rules;
      at_31 = at_31;
    }
