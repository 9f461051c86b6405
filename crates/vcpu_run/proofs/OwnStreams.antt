-- What a client is to look at, behind answers that it kept: what of it answers, what tells something else, and what stands behind the last event.
use Rattle.std.proofs.Common.{◌≡◌, ◌≢◌, ◌∙◌, inl, inr, ℕ, ◌++◌, ◌==◌, ◌&&◌, All, Bool, true, false, true≢false, cond, List, [], ◌∷◌, arith, refl, sym, ap}
use Rattle.std.proofs.lemmas.Bool.Decides.{nat_tests}
use Rattle.std.proofs.lemmas.List.Elements.{All-head, All-tail}
use Rattle.vio_num.specs.Entry.{entry_format, first_byte, is_srp_entry}
use Rattle.vio_num.specs.declared.entry.Entry.{Entry}
use Rattle.block_server.specs.Closings.{is_event}
use Rattle.vcpu_run.specs.OwnOver.{HasEntry, IsNews, IsShake, NoneBehindGone, answers_among, behind_gone, news_among, tells_gone}

-- these are SRP entries
abbrev pub AreSrp : List Entry → Type 0
AreSrp = All (λ (entry : Entry). is_srp_entry entry ≡ true)

-- ---- one entry

pub srp_no_event : (entry : Entry) → is_srp_entry entry ≡ true → is_event entry ≡ false
srp_no_event entry srp = by (first_byte entry) (entry_format entry) srp
  where
    by : (first format : ℕ) → ((first == 0x80) && (format == 0x01)) ≡ true → (first == 0xFF) ≡ false
    by first format is = grind (arith, nat_tests, is)

pub event_no_srp : (entry : Entry) → is_event entry ≡ true → is_srp_entry entry ≡ false
event_no_srp entry event = by (is_srp_entry entry) refl
  where
    by : (b : Bool) → is_srp_entry entry ≡ b → is_srp_entry entry ≡ false
    by true srp = absurd (true≢false (sym event ∙ srp_no_event entry srp))
    by false none = none

-- one of the initialisation is neither
pub shake_no_event : (entry : Entry) → IsShake entry → is_event entry ≡ false
shake_no_event entry (inl is) = ap is_event is
shake_no_event entry (inr is) = ap is_event is

pub shake_no_srp : (entry : Entry) → IsShake entry → is_srp_entry entry ≡ false
shake_no_srp entry (inl is) = ap is_srp_entry is
shake_no_srp entry (inr is) = ap is_srp_entry is

-- one that tells something and is no event
pub news_shake : (entry : Entry) → IsNews entry → is_event entry ≡ false → IsShake entry
news_shake entry (inl shake) isnt = shake
news_shake entry (inr freed) isnt = absurd (true≢false (ap is_event (sym freed) ∙ isnt))

-- ---- the first of several

pub answers_srp : (entry : Entry) (entries : List Entry) → is_srp_entry entry ≡ true → answers_among (entry ∷ entries) ≡ entry ∷ answers_among entries
answers_srp entry entries is = ap (λ b. cond b (entry ∷ answers_among entries) (answers_among entries)) is

pub answers_other : (entry : Entry) (entries : List Entry) → is_srp_entry entry ≡ false → answers_among (entry ∷ entries) ≡ answers_among entries
answers_other entry entries is = ap (λ b. cond b (entry ∷ answers_among entries) (answers_among entries)) is

pub news_srp : (entry : Entry) (entries : List Entry) → is_srp_entry entry ≡ true → news_among (entry ∷ entries) ≡ news_among entries
news_srp entry entries is = ap (λ b. cond b (news_among entries) (entry ∷ news_among entries)) is

pub news_other : (entry : Entry) (entries : List Entry) → is_srp_entry entry ≡ false → news_among (entry ∷ entries) ≡ entry ∷ news_among entries
news_other entry entries is = ap (λ b. cond b (news_among entries) (entry ∷ news_among entries)) is

pub gone_other : (entry : Entry) (entries : List Entry) → is_event entry ≡ false → tells_gone (entry ∷ entries) ≡ tells_gone entries
gone_other entry entries is = ap (λ b. cond b true (tells_gone entries)) is

pub behind_more : (entry : Entry) (entries : List Entry) → tells_gone entries ≡ true → behind_gone (entry ∷ entries) ≡ behind_gone entries
behind_more entry entries is = ap (λ b. cond b (behind_gone entries) (cond (is_event entry) entries (entry ∷ entries))) is

pub behind_last : (entry : Entry) (entries : List Entry) → tells_gone entries ≡ false → is_event entry ≡ true → behind_gone (entry ∷ entries) ≡ entries
behind_last entry entries none is =
    ap (λ b. cond b (behind_gone entries) (cond (is_event entry) entries (entry ∷ entries))) none ∙ ap (λ b. cond b entries (entry ∷ entries)) is

-- ---- behind answers that are kept

pub answers_kept : (kept entries : List Entry) → AreSrp kept → answers_among (kept ++ entries) ≡ kept ++ answers_among entries
answers_kept [] entries are = refl
answers_kept (entry ∷ kept) entries are =
    answers_srp entry (kept ++ entries) (All-head (λ (e : Entry). is_srp_entry e ≡ true) entry kept are)
    ∙ ap (λ (list : List Entry). entry ∷ list) (answers_kept kept entries (All-tail (λ (e : Entry). is_srp_entry e ≡ true) entry kept are))

pub news_kept : (kept entries : List Entry) → AreSrp kept → news_among (kept ++ entries) ≡ news_among entries
news_kept [] entries are = refl
news_kept (entry ∷ kept) entries are =
    news_srp entry (kept ++ entries) (All-head (λ (e : Entry). is_srp_entry e ≡ true) entry kept are)
    ∙ news_kept kept entries (All-tail (λ (e : Entry). is_srp_entry e ≡ true) entry kept are)

pub gone_kept : (kept entries : List Entry) → AreSrp kept → tells_gone (kept ++ entries) ≡ tells_gone entries
gone_kept [] entries are = refl
gone_kept (entry ∷ kept) entries are =
    gone_other entry (kept ++ entries) (srp_no_event entry (All-head (λ (e : Entry). is_srp_entry e ≡ true) entry kept are))
    ∙ gone_kept kept entries (All-tail (λ (e : Entry). is_srp_entry e ≡ true) entry kept are)

pub behind_kept : (kept entries : List Entry) → AreSrp kept → tells_gone entries ≡ true → behind_gone (kept ++ entries) ≡ behind_gone entries
behind_kept [] entries are gone = refl
behind_kept (entry ∷ kept) entries are gone =
    let more = All-tail (λ (e : Entry). is_srp_entry e ≡ true) entry kept are in
    behind_more entry (kept ++ entries) (gone_kept kept entries more ∙ gone) ∙ behind_kept kept entries more gone

pub none_kept : (kept entries : List Entry) → AreSrp kept → NoneBehindGone (kept ++ entries) → NoneBehindGone entries
none_kept [] entries are none = none
none_kept (entry ∷ kept) entries are none = none_kept kept entries (All-tail (λ (e : Entry). is_srp_entry e ≡ true) entry kept are) none.1

pub none_behind : (kept entries : List Entry) → AreSrp kept → NoneBehindGone entries → NoneBehindGone (kept ++ entries)
none_behind [] entries are none = none
none_behind (entry ∷ kept) entries are none = (
  λ event. absurd (true≢false (sym event ∙ srp_no_event entry (All-head (λ (e : Entry). is_srp_entry e ≡ true) entry kept are))),
  none_behind kept entries (All-tail (λ (e : Entry). is_srp_entry e ≡ true) entry kept are) none,
)

-- ---- one that is among them

no_news : (entry : Entry) (front rest : List Entry) → is_srp_entry entry ≡ false → news_among (front ++ entry ∷ rest) ≡ [] → ⊥
no_news entry [] rest isnt e = no_items entry (news_among rest) (sym (news_other entry rest isnt) ∙ e)
  where
    no_items : (x : Entry) (xs : List Entry) → x ∷ xs ≡ [] → ⊥
    no_items x xs e = cc (e)
no_news entry (first ∷ front) rest isnt e = by (is_srp_entry first) (λ none. no_news entry front rest isnt none) e
  where
    by : (b : Bool) → (news_among (front ++ entry ∷ rest) ≡ [] → ⊥) → cond b (news_among (front ++ entry ∷ rest)) (first ∷ news_among (front ++ entry ∷ rest)) ≡ [] → ⊥
    by true more e = more e
    by false more e = cc (e)

pub news_has : (entry : Entry) (entries : List Entry) → is_srp_entry entry ≡ false → HasEntry entry entries → news_among entries ≢ []
news_has entry entries isnt (front, rest, is) none = no_news entry front rest isnt (sym (ap news_among is) ∙ none)
