-- The first entry that is kept.
use Rattle.std.proofs.Common.{◌≡◌, Bool, List, [], ◌∷◌, refl, sym, ap, subst}
use Rattle.vio_num.specs.declared.entry.Entry.{Entry}
use Rattle.crq_session.specs.EndState.{EndState}
use Rattle.vscsi_client.specs.State.{ClientState}
use Rattle.vscsi_client.specs.Taking.{Fetches, IsNext}

pub fetches_kept : (shared : Bool) (s : ClientState) (e : EndState) (kept : List Entry) → s.kept ≡ kept → (kept ≡ [] → ⊥) → Fetches shared s s e e
fetches_kept shared s e [] is some = absurd (some refl)
fetches_kept shared s e (x ∷ xs) is some = record {
  entry = x;
  rest = xs;
  next = subst (λ ks. IsNext ks shared e x xs e) (sym is) (refl, refl, refl);
  client = ap (λ ks. record s { kept = ks }) is;
}
