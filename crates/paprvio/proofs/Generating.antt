-- Texts that grow piece by piece, and what is left of a seed's text.
use Rattle.std.proofs.Common.{◌≡◌, ◌∙◌, ◌++◌, ◌-◌, ◌<◌, ◌≤◌, ℕ, suc, ◌+◌, List, [], Result, Ok, Err, OnOk, refl, sym, ap, arith}
use Rattle.std.proofs.lemmas.List.{append_assoc, append-nil}
use Rattle.paprvio.specs.Generated.{after, client, clients, drawn, transfer, transfers}

-- a piece behind a text that has pieces
pub piece : (t a b u v : List ℕ) → u ≡ t ++ a → v ≡ u ++ b → v ≡ t ++ (a ++ b)
piece t a b u v before more = more ∙ ap (λ z. z ++ b) before ∙ append_assoc t a b

-- the last one, where it was put
pub last_piece : {X E : Type 0} (r : Result X E) (t a b u v : List ℕ) → u ≡ t ++ a → OnOk r (v ≡ u ++ b) → OnOk r (v ≡ t ++ (a ++ b))
last_piece (Ok r) t a b u v before more = piece t a b u v before more
last_piece (Err r) t a b u v before more = more

pub transfers_more : (count number x : ℕ) → transfers (suc count) number x ≡ transfer number (drawn x) ++ transfers count number (drawn x)
unfolding transfers
transfers_more count number x = refl

pub transfers_none : (number x : ℕ) → transfers 0 number x ≡ []
unfolding transfers
transfers_none number x = refl

pub after_more : (count x : ℕ) → after (suc count) x ≡ after count (drawn x)
unfolding after
after_more count x = refl

pub after_none : (x : ℕ) → after 0 x ≡ x
unfolding after
after_none x = refl

-- one transfer more, of those that are left
pub left_more : (i number last x : ℕ) (t t' all : List ℕ) → i < 64 → x ≡ drawn last → t' ≡ t ++ transfer number x → t ++ transfers (64 - i) number last ≡ all
    → t' ++ transfers (64 - (i + 1)) number x ≡ all
left_more i number last x t t' all fits draw put before =
    let more : 64 - i ≡ suc (64 - (i + 1)) = omega (arith, fits) in
    let cut : transfers (64 - i) number last ≡ transfer number x ++ transfers (64 - (i + 1)) number x = rw (more, draw) (transfers_more (64 - (i + 1)) number last) in
    ap (λ z. z ++ transfers (64 - (i + 1)) number x) put ∙ append_assoc t (transfer number x) (transfers (64 - (i + 1)) number x) ∙ ap (λ z. t ++ z) (sym cut) ∙ before

pub left_draws : (i last x all : ℕ) → i < 64 → x ≡ drawn last → after (64 - i) last ≡ all → after (64 - (i + 1)) x ≡ all
left_draws i last x all fits draw before =
    let more : 64 - i ≡ suc (64 - (i + 1)) = omega (arith, fits) in
    let cut : after (64 - i) last ≡ after (64 - (i + 1)) x = rw (more, draw) (after_more (64 - (i + 1)) last) in
    sym cut ∙ before

-- none is left
pub left_none : (i number last : ℕ) (t all : List ℕ) → 64 ≤ i → t ++ transfers (64 - i) number last ≡ all → t ≡ all
left_none i number last t all over before =
    let none : 64 - i ≡ 0 = omega (arith, over) in
    let empty : transfers (64 - i) number last ≡ [] = rw none (transfers_none number last) in
    sym (append-nil t) ∙ ap (λ z. t ++ z) (sym empty) ∙ before

pub left_last : (i last all : ℕ) → 64 ≤ i → after (64 - i) last ≡ all → last ≡ all
left_last i last all over before =
    let none : 64 - i ≡ 0 = omega (arith, over) in
    let same : after (64 - i) last ≡ last = rw none (after_none last) in
    sym same ∙ before

pub clients_more : (count number x : ℕ) → clients (suc count) number x ≡ client number x ++ clients count (number + 1) (after 64 x)
unfolding clients
clients_more count number x = refl

pub clients_none : (number x : ℕ) → clients 0 number x ≡ []
unfolding clients
clients_none number x = refl

-- one client more, of those that are left
pub clients_left : (n last x : ℕ) (t t' all : List ℕ) → n < 8 → x ≡ after 64 last → t' ≡ t ++ client n last → t ++ clients (8 - n) n last ≡ all
    → t' ++ clients (8 - (n + 1)) (n + 1) x ≡ all
clients_left n last x t t' all fits draw put before =
    let more : 8 - n ≡ suc (8 - (n + 1)) = omega (arith, fits) in
    let cut : clients (8 - n) n last ≡ client n last ++ clients (8 - (n + 1)) (n + 1) x = rw (more, draw) (clients_more (8 - (n + 1)) n last) in
    ap (λ z. z ++ clients (8 - (n + 1)) (n + 1) x) put ∙ append_assoc t (client n last) (clients (8 - (n + 1)) (n + 1) x) ∙ ap (λ z. t ++ z) (sym cut) ∙ before

pub clients_over : (n last : ℕ) (t all : List ℕ) → 8 ≤ n → t ++ clients (8 - n) n last ≡ all → t ≡ all
clients_over n last t all over before =
    let none : 8 - n ≡ 0 = omega (arith, over) in
    let empty : clients (8 - n) n last ≡ [] = rw none (clients_none n last) in
    sym (append-nil t) ∙ ap (λ z. t ++ z) (sym empty) ∙ before
