-- What a plain client's look for an answer leaves between it and its server unit: the oldest answer that is there is taken, or there is none.
use Rattle.std.proofs.Common.{◌≡◌, ◌∙◌, ◌⊎◌, inl, inr, ℕ, suc, zero, ◌+◌, ◌≤◌, ◌++◌, All, Bool, true, false, true≢false, cond, List, [], ◌∷◌, Some, drop, length, length-append, refl, slice_get, sym, ap, ap₂, subst, arith}
use Rattle.std.proofs.lemmas.List.Elements.{All-head}
use Rattle.vio_num.specs.declared.entry.Entry.{Entry}
use Rattle.crq_ring.proofs.SessionLaws.{of_session-append}
use Rattle.crq_ring.specs.Sessions.{of_session}
use Rattle.crq_ring.specs.declared.rows.PipeRow.{PipeRow}
use Rattle.crq_session.specs.Answered.{FindsNone, received_now, taken_now}
use Rattle.crq_session.specs.EndState.{EndState, OnlyReserves, OnlyTakes}
use Rattle.srp_iu.specs.Grammar.{Spells}
use Rattle.srp_iu.specs.declared.response.Rsp.{Rsp}
use Rattle.srp_iu.specs.declared.unit.Iu.{Iu}
use Rattle.srp_iu.specs.declared.unit.Iu.TheVariants as units
use Rattle.block_server.specs.Talk.{tag_asked, to_come}
use Rattle.vscsi_client.specs.Taking.{IsNext, Polls, PollsEmpty}
use Rattle.vscsi_client.specs.Units.{slot_address}
use Rattle.vscsi_client.specs.declared.TheConstants.{SLOTS}
use Rattle.vscsi_client.specs.declared.outgoing.Outgoing.{Outgoing}
use Rattle.vscsi_client.specs.declared.stage.Stage.{Stage}
use Rattle.vscsi_client.specs.declared.stage.Stage.TheVariants.{Idle}
use Rattle.vcpu_run.specs.PlainTalk.{Ask, AskedParts, Between, HasAnswer, HaveAnswers, IsAsk, IsOwnWindow, IsTalking, ShowsAt, all_asked, has_login, is_counted, is_login, is_logout, is_sent, login_name, name_of, names_of}
use Rattle.vcpu_run.proofs.PlainAsks.{answer_to}
use Rattle.vcpu_run.proofs.PlainJudged.{TellsOldest, counted_answer}
use Rattle.vcpu_run.proofs.PlainTakes.{answers_head, first_slot, first_tag}
use Rattle.vcpu_run.proofs.PlainTurns.{come_same, own_rows}

-- ---- what is to come

-- the entry of a number, and what is behind it
drop_get : (xs : List Entry) (n : ℕ) (x : Entry) → slice_get xs n ≡ Some x → drop n xs ≡ x ∷ drop (suc n) xs
drop_get [] n x is = absurd (cc (is))
drop_get (y ∷ xs) zero x is = ap (λ (e : Entry). e ∷ xs) (some_one is)
  where
    some_one : Some y ≡ Some x → y ≡ x
    some_one e = cc (e)
drop_get (y ∷ xs) (suc n) x is = drop_get xs n x is

-- one more was taken
pub taken_more : (session : ℕ) (rows : List PipeRow) (entry : Entry) → length (of_session session (rows ++ record { session = session; entry = entry } ∷ [])) ≡ length (of_session session rows) + 1
taken_more session rows entry =
    ap (λ (list : List Entry). length list) (of_session-append session rows (record { session = session; entry = entry } ∷ []))
    ∙ length-append (of_session session rows) (of_session session (record { session = session; entry = entry } ∷ []))
    ∙ ap (λ (list : List Entry). length (of_session session rows) + length list) (own_rows session (entry ∷ []))

pub poll_come : (old new : EndState) (entry : Entry) → Polls false old entry new → OnlyTakes false old new → to_come old ≡ entry ∷ to_come new
poll_come old new entry polls rest =
    drop_get (received_now old) (length (taken_now old)) entry there
    ∙ ap₂ (λ (n : ℕ) (list : List Entry). entry ∷ drop n list) (sym one_more) (sym received)
  where
    session : polls.room.last_session ≡ old.last_session
    session = polls.ready.last_session

    taken_room : taken_now polls.room ≡ taken_now old
    taken_room = ap₂ (λ q (rows : List PipeRow). of_session q rows) session polls.ready.taken

    there : slice_get (received_now old) (length (taken_now old)) ≡ Some entry
    there =
        ap₂ (λ (list : List Entry) (n : ℕ). slice_get list n)
        (sym (ap₂ (λ q (rows : List PipeRow). of_session q rows) session (ap (λ place. place.received) polls.ready.place)))
        (sym (polls.taken.number_is ∙ ap (λ (list : List Entry). length list) taken_room))
        ∙ polls.taken.there refl

    received : received_now new ≡ received_now old
    received = ap₂ (λ q (rows : List PipeRow). of_session q rows) rest.last_session (ap (λ place. place.received) rest.place)

    took : length (taken_now new) ≡ length (taken_now old) + 1
    took =
        ap₂ (λ (q : ℕ) (rows : List PipeRow). length (of_session q rows)) rest.last_session
        (polls.taken.taken ∙ ap₂ (λ (rows : List PipeRow) (q : ℕ). rows ++ record { session = q; entry = entry } ∷ []) polls.ready.taken session)
        ∙ taken_more old.last_session old.taken entry

    one_more : length (taken_now new) ≡ suc (length (taken_now old))
    one_more = omega (arith, took)

-- the entry that is next is the first of what is kept and to come
pub next_entries : (kept : List Entry) (old new : EndState) (entry : Entry) (rest : List Entry) → IsNext kept false old entry rest new → OnlyTakes false old new
    → kept ++ to_come old ≡ entry ∷ (rest ++ to_come new)
next_entries [] old new entry rest next only =
    poll_come old new entry next.1 only ∙ ap (λ (list : List Entry). entry ∷ (list ++ to_come new)) (sym next.0)
next_entries (first ∷ more) old new entry rest next only =
    ap₂ (λ (e : Entry) (list : List Entry). e ∷ (list ++ to_come old)) (sym next.0) (sym next.1)
    ∙ ap (λ (end : EndState). entry ∷ (rest ++ to_come end)) (sym next.2)

-- where none was found there is none
pub empty_come : (old new : EndState) (number : ℕ) → old.registered ≡ true → PollsEmpty false old number new → to_come old ≡ []
empty_come old new number there polls = by polls.none
  where
    none_left : (xs : List Entry) → drop (length xs) xs ≡ []
    none_left [] = refl
    none_left (x ∷ xs) = none_left xs

    by : FindsNone false polls.room new number ⊎ ((polls.room.registered ≡ false) × (number ≡ 0) × OnlyReserves polls.room new) → to_come old ≡ []
    by (inl finds) =
        sym (come_same old polls.room polls.ready.place polls.ready.last_session polls.ready.taken)
        ∙ ap (λ (list : List Entry). drop (length (taken_now polls.room)) list) (finds.all_taken refl) ∙ none_left (taken_now polls.room)
    by (inr closed) = absurd (true≢false (sym there ∙ sym polls.ready.registered ∙ closed.0))

-- ---- the oldest answer

-- What is so of the first entry: it tells of the oldest request that is outstanding.
pub record Oldest (at : Between) (asked : AskedParts) (entry : Entry) : Type 0 where
  pub oldest : Outgoing
  pub others : List Outgoing
  pub tag : ℕ
  pub before : at.client.outgoing ≡ oldest ∷ others
  pub tells : TellsOldest at.window entry tag oldest

pub oldest_is : (granted : ℕ) (at : Between) (asked : AskedParts) (answers : List Iu) (entry : Entry) (entries : List Entry) → IsOwnWindow at.window → IsTalking granted at [] asked answers
    → at.client.login ≡ Idle → at.client.kept ++ to_come at.own ≡ entry ∷ entries → Oldest at asked entry
oldest_is granted at asked answers entry entries own talk idle is = by at.client.outgoing refl
  where
    head : (ask : Ask) × (more : List Ask) × (answer : Iu) × (rest : List Iu) × (asked.answered ≡ ask ∷ more) × (answers ≡ answer ∷ rest) × HasAnswer at.window entry ask answer
        × HaveAnswers at.window entries more rest
    head = answers_head at.window entry entries asked.answered answers (subst (λ (list : List Entry). HaveAnswers at.window list asked.answered answers) is talk.answered)

    ask : Ask
    ask = head.0

    has : HasAnswer at.window entry ask head.2
    has = head.6

    left : List Ask
    left = head.1 ++ (asked.pending ++ asked.coming)

    all_is : all_asked asked ≡ ask ∷ left
    all_is = ap (λ (list : List Ask). list ++ (asked.pending ++ asked.coming)) head.4

    is_ask : IsAsk ask
    is_ask = All-head IsAsk ask left (subst (All IsAsk) all_is talk.each)

    no_logout : is_logout ask.iu ≡ false
    no_logout = answer_to ask.iu head.2 has.suits

    front_false : (b c : Bool) → cond b true c ≡ false → b ≡ false
    front_false true c e = absurd (true≢false e)
    front_false false c e = refl

    no_login : is_login ask.iu ≡ false
    no_login = front_false (is_login ask.iu) (has_login left) (sym (ap has_login all_is) ∙ talk.sent ∙ ap is_sent idle)

    counted : is_counted ask.iu ≡ true
    counted = kind is_ask.kind
      where
        kind : (is_login ask.iu ≡ true) ⊎ ((is_logout ask.iu ≡ true) ⊎ (is_counted ask.iu ≡ true)) → is_counted ask.iu ≡ true
        kind (inl login) = absurd (true≢false (sym login ∙ no_login))
        kind (inr (inl logout)) = absurd (true≢false (sym logout ∙ no_logout))
        kind (inr (inr counted)) = counted

    response : (r : Rsp) × (head.2 ≡ units.Rsp r) × (r.tag ≡ tag_asked ask.iu)
    response = counted_answer ask.iu head.2 counted has.suits

    names : name_of ask ∷ names_of left ≡ at.client.outgoing ++ []
    names = sym (ap (λ b. cond b (names_of left) (name_of ask ∷ names_of left)) no_logout) ∙ sym (ap names_of all_is) ∙ talk.awaited
        ∙ ap (λ (stage : Stage). at.client.outgoing ++ login_name stage) idle

    by : (outgoing : List Outgoing) → at.client.outgoing ≡ outgoing → Oldest at asked entry
    by [] e = absurd (no_names (names ∙ ap (λ (list : List Outgoing). list ++ []) e))
      where
        no_names : name_of ask ∷ names_of left ≡ [] → ⊥
        no_names e = cc (e)
    by (oldest ∷ others) e = record {
      oldest = oldest;
      others = others;
      tag = ask.tag;
      before = e;
      tells = record {
        long = has.long;
        few = has.few;
        entry_is = has.entry_is;
        tag_is = tag_is;
        has = record {
          own = own;
          within = subst (λ slot. slot ≤ SLOTS) (sym slot_is) is_ask.slot_is;
          bytes = has.bytes;
          stand = subst (λ slot. ShowsAt at.window (slot_address slot) has.bytes) (sym slot_is) has.stand;
          whole = has.whole;
          response = response.0;
          spelled = subst (Spells has.bytes) response.1 has.spelled;
          tag_is = response.2 ∙ is_ask.tag_is;
        };
      };
    }
      where
        both : name_of ask ∷ names_of left ≡ oldest ∷ (others ++ [])
        both = names ∙ ap (λ (list : List Outgoing). list ++ []) e

        tag_is : oldest.tag ≡ ask.tag
        tag_is = sym (ap (λ (list : List Outgoing). first_tag list) both)

        slot_is : oldest.slot ≡ ask.slot
        slot_is = sym (ap (λ (list : List Outgoing). first_slot list) both)
