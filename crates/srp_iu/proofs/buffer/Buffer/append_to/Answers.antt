use Rattle.std.proofs.Common.{arith, refl, sym, subst, ◌≡◌, ◌<◌, ◌^◌, ◌++◌, ℕ, List, [], length}
use Rattle.std.specs.List.{flat_map}
use Rattle.byteorder.specs.Endian.{big_bytes}
use Rattle.byteorder.specs.Numbers.{big_number-reads_back}
use Rattle.srp_iu.specs.declared.buffer.Desc.{Desc}
use Rattle.srp_iu.specs.Buffer.{desc_bytes, descs_of}
use Rattle.srp_iu.proofs.buffer.Buffer.append_to.Goals as goal

pub returns-in-Direct-clause-reads_back : goal.returns-in-Direct-clause-reads_back
returns-in-Direct-clause-reads_back c rest =
    rw c.in-Direct.is (record { direct = refl; named = sym (c.put_desc.ensures.reads_back rest) })

pub returns-in-Indirect-clause-reads_back : goal.returns-in-Indirect-clause-reads_back
returns-in-Indirect-clause-reads_back c rest =
    let total : c.in-Indirect.total < 2 ^ 32 = omega arith in
    let behind : List ℕ = flat_map desc_bytes c.in-Indirect.list.items ++ rest in
    rw c.in-Indirect.is (record {
      indirect = refl;
      at_table = sym (c.put_desc-in-Indirect.ensures.reads_back (big_bytes 4 c.in-Indirect.total ++ behind));
      in_all = sym (big_number-reads_back 4 c.in-Indirect.total [] total);
      listed = sym (subst (λ (list : List Desc). (rest : List ℕ) → descs_of (length list) (flat_map desc_bytes list ++ rest) ≡ list) c.deref.ensures.0 c.put_descs.ensures.reads_back rest);
    })
