use Rattle.std.proofs.Common.{rules, arith, ◌≡◌, length, ℕ, ◌++◌, sym, length-append}
use Rattle.srp_iu.proofs.Parts.{middle_part, last_part}
use Rattle.srp_iu.proofs.login.LoginReq.write.Goals as goal

-- the two identifiers are lists whose cells no step computes
pub returns : goal.returns
returns c =
    let front : length c.put-6.new.out.items ≡ 32 = search rules in
    let initiator : length c.args.self.now.initiator ≡ 16 = omega arith in
    let target : length c.args.self.now.target ≡ 16 = omega arith in
    let whole : c.put-8.new.out.items ≡ (c.put-6.new.out.items ++ c.args.self.now.initiator) ++ c.args.self.now.target = search rules in
    let both : length (c.put-6.new.out.items ++ c.args.self.now.initiator) ≡ 48 = omega (arith, length-append {A = ℕ}) in
    let exact : length c.put-8.new.out.items ≡ 64 = rw whole (omega (arith, length-append {A = ℕ})) in
    record {
      spells = record {
        kind = search rules;
        full = omega arith;
        tag = search rules;
        iu_len = search rules;
        formats = search rules;
        flags = search rules;
        initiator = rw whole (sym (middle_part 32 16 _ _ _ front initiator));
        target = rw whole (sym (last_part 48 16 _ _ both target));
      };
      exact = exact;
      from_1 = search rules;
      from_20 = search rules;
      from_27 = search rules;
    }
