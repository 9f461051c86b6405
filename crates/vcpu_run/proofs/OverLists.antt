-- Lists of entries, one of which is put behind: which answer, which are news, and what stands behind the last event.
use Rattle.std.proofs.Common.{◌≡◌, ◌∙◌, ◌++◌, Bool, true, false, true≢false, cond, List, [], ◌∷◌, refl, sym, ap}
use Rattle.vio_num.specs.Entry.{is_srp_entry}
use Rattle.vio_num.specs.declared.entry.Entry.{Entry}
use Rattle.block_server.specs.Closings.{is_event}
use Rattle.vcpu_run.specs.OwnOver.{HasEntry, NoneBehindGone, answers_among, behind_gone, news_among, tells_gone}

-- ---- answers and news

pub answers_other : (entries : List Entry) (entry : Entry) → is_srp_entry entry ≡ false → answers_among (entries ++ entry ∷ []) ≡ answers_among entries
answers_other [] entry isnt = ap (λ (b : Bool). cond b (entry ∷ []) []) isnt
answers_other (first ∷ entries) entry isnt = ap (λ (list : List Entry). cond (is_srp_entry first) (first ∷ list) list) (answers_other entries entry isnt)

pub answers_last : (entries : List Entry) (entry : Entry) → is_srp_entry entry ≡ true → answers_among (entries ++ entry ∷ []) ≡ answers_among entries ++ entry ∷ []
answers_last [] entry is = ap (λ (b : Bool). cond b (entry ∷ []) []) is
answers_last (first ∷ entries) entry is = by (answers_last entries entry is) (is_srp_entry first)
  where
    by : answers_among (entries ++ entry ∷ []) ≡ answers_among entries ++ entry ∷ [] → (b : Bool) → cond b (first ∷ answers_among (entries ++ entry ∷ [])) (answers_among (entries ++ entry ∷ []))
        ≡ cond b (first ∷ answers_among entries) (answers_among entries) ++ entry ∷ []
    by rest true = ap (λ (list : List Entry). first ∷ list) rest
    by rest false = rest

pub news_other : (entries : List Entry) (entry : Entry) → is_srp_entry entry ≡ true → news_among (entries ++ entry ∷ []) ≡ news_among entries
news_other [] entry is = ap (λ (b : Bool). cond b [] (entry ∷ [])) is
news_other (first ∷ entries) entry is = ap (λ (list : List Entry). cond (is_srp_entry first) list (first ∷ list)) (news_other entries entry is)

pub news_last : (entries : List Entry) (entry : Entry) → is_srp_entry entry ≡ false → news_among (entries ++ entry ∷ []) ≡ news_among entries ++ entry ∷ []
news_last [] entry isnt = ap (λ (b : Bool). cond b [] (entry ∷ [])) isnt
news_last (first ∷ entries) entry isnt = by (news_last entries entry isnt) (is_srp_entry first)
  where
    by : news_among (entries ++ entry ∷ []) ≡ news_among entries ++ entry ∷ [] → (b : Bool) → cond b (news_among (entries ++ entry ∷ [])) (first ∷ news_among (entries ++ entry ∷ []))
        ≡ cond b (news_among entries) (first ∷ news_among entries) ++ entry ∷ []
    by rest true = rest
    by rest false = ap (λ (list : List Entry). first ∷ list) rest

-- there is some
pub some_last : (entries : List Entry) (entry : Entry) → entries ++ entry ∷ [] ≡ [] → ⊥
some_last [] entry none = cc (none)
some_last (first ∷ entries) entry none = cc (none)

-- ---- events

pub gone_event : (entries : List Entry) (entry : Entry) → is_event entry ≡ true → tells_gone (entries ++ entry ∷ []) ≡ true
gone_event [] entry is = ap (λ (b : Bool). cond b true false) is
gone_event (first ∷ entries) entry is = ap (λ (b : Bool). cond (is_event first) true b) (gone_event entries entry is) ∙ always (is_event first)
  where
    always : (b : Bool) → cond b true true ≡ true
    always true = refl
    always false = refl

pub gone_other : (entries : List Entry) (entry : Entry) → is_event entry ≡ false → tells_gone (entries ++ entry ∷ []) ≡ tells_gone entries
gone_other [] entry isnt = ap (λ (b : Bool). cond b true false) isnt
gone_other (first ∷ entries) entry isnt = ap (λ (b : Bool). cond (is_event first) true b) (gone_other entries entry isnt)

-- whether an event is there or not, it is so behind another entry
pub gone_more : (entries : List Entry) (entry : Entry) → tells_gone entries ≡ true → tells_gone (entries ++ entry ∷ []) ≡ true
gone_more [] entry is = absurd (true≢false (sym is))
gone_more (first ∷ entries) entry is = by (λ more. gone_more entries entry more) (is_event first) is
  where
    by : (tells_gone entries ≡ true → tells_gone (entries ++ entry ∷ []) ≡ true) → (b : Bool) → cond b true (tells_gone entries) ≡ true → cond b true (tells_gone (entries ++ entry ∷ [])) ≡ true
    by rest true is = refl
    by rest false is = rest is

pub behind_event : (entries : List Entry) (entry : Entry) → is_event entry ≡ true → behind_gone (entries ++ entry ∷ []) ≡ []
behind_event [] entry is = ap (λ (b : Bool). cond b [] (entry ∷ [])) is
behind_event (first ∷ entries) entry is =
    ap (λ (b : Bool). cond b (behind_gone (entries ++ entry ∷ [])) (cond (is_event first) (entries ++ entry ∷ []) (first ∷ (entries ++ entry ∷ [])))) (gone_event entries entry is)
    ∙ behind_event entries entry is

pub behind_other : (entries : List Entry) (entry : Entry) → is_event entry ≡ false → tells_gone entries ≡ true → behind_gone (entries ++ entry ∷ []) ≡ behind_gone entries ++ entry ∷ []
behind_other [] entry isnt is = absurd (true≢false (sym is))
behind_other (first ∷ entries) entry isnt is =
    ap (λ (b : Bool). cond b (behind_gone (entries ++ entry ∷ [])) (cond (is_event first) (entries ++ entry ∷ []) (first ∷ (entries ++ entry ∷ [])))) (gone_other entries entry isnt)
    ∙ by (tells_gone entries) (λ more. behind_other entries entry isnt more) (is_event first) is
  where
    by : (a : Bool) → (a ≡ true → behind_gone (entries ++ entry ∷ []) ≡ behind_gone entries ++ entry ∷ []) → (b : Bool) → cond b true a ≡ true
        → cond a (behind_gone (entries ++ entry ∷ [])) (cond b (entries ++ entry ∷ []) (first ∷ (entries ++ entry ∷ [])))
        ≡ cond a (behind_gone entries) (cond b entries (first ∷ entries)) ++ entry ∷ []
    by true rest b is = rest refl
    by false rest true is = refl
    by false rest false is = absurd (true≢false (sym is))

-- ---- none answers behind an event

pub unanswered_other : (entries : List Entry) (entry : Entry) → is_srp_entry entry ≡ false → NoneBehindGone entries → NoneBehindGone (entries ++ entry ∷ [])
unanswered_other [] entry isnt none = (λ event. refl, tt)
unanswered_other (first ∷ entries) entry isnt none = (λ event. answers_other entries entry isnt ∙ none.0 event, unanswered_other entries entry isnt none.1)

pub unanswered_last : (entries : List Entry) (entry : Entry) → tells_gone entries ≡ false → NoneBehindGone (entries ++ entry ∷ [])
unanswered_last [] entry isnt = (λ event. refl, tt)
unanswered_last (first ∷ entries) entry isnt = (λ event. absurd (both (is_event first) event isnt), unanswered_last entries entry (rest (is_event first) isnt))
  where
    both : (b : Bool) → b ≡ true → cond b true (tells_gone entries) ≡ false → ⊥
    both true is isnt = true≢false isnt
    both false is isnt = true≢false (sym is)

    rest : (b : Bool) → cond b true (tells_gone entries) ≡ false → tells_gone entries ≡ false
    rest true isnt = absurd (true≢false isnt)
    rest false isnt = isnt

-- ---- it stands there

pub has_last : (entry : Entry) (entries : List Entry) → HasEntry entry (entries ++ entry ∷ [])
has_last entry entries = (entries, [], refl)
