-- A plain client's look for an answer: the oldest answer that is there is taken, or there is none.
use Rattle.std.proofs.Common.{◌≡◌, ◌∙◌, ◌⊎◌, inl, inr, ℕ, ◌-◌, ◌++◌, false, cond, List, [], ◌∷◌, length, length-set, refl, sym, ap, subst}
use Rattle.std.specs.Prelude.{⊤, slice_index_or}
use Rattle.std.proofs.lemmas.Bool.{eq-eqb}
use Rattle.vio_num.specs.declared.entry.Entry.{Entry}
use Rattle.crq_session.specs.Answered.{FindsNone}
use Rattle.crq_session.specs.EndState.{OnlyReserves, OnlyTakes}
use Rattle.srp_iu.specs.declared.response.Rsp.{Rsp}
use Rattle.srp_iu.specs.declared.unit.Iu.{Iu}
use Rattle.tce_window.specs.PortState.{OnlyReads, PortState}
use Rattle.block_server.specs.Talk.{to_come}
use Rattle.vscsi_client.specs.State.{ClientState}
use Rattle.vscsi_client.specs.Taking.{Judges, TakesAs, TakesEntry, TakesNone, row_answered, taken_by, without_tag, answered}
use Rattle.vscsi_client.specs.declared.answers.Taken.{Taken}
use Rattle.vscsi_client.specs.declared.answers.Taken.TheVariants.{Again, Answer, Empty, Lost, Other, Stray}
use Rattle.vscsi_client.specs.declared.outgoing.Outgoing.{Outgoing}
use Rattle.vscsi_client.specs.declared.row.Row.TheVariants as rows
use Rattle.vscsi_client.specs.declared.stage.Stage.TheVariants.{Idle}
use Rattle.vcpu_run.proofs.PlainData.{data_kept}
use Rattle.vcpu_run.specs.PlainTalk.{Ask, AskedParts, Between, HasAnswer, HaveAnswers, IsCalm, IsOwnWindow, IsTalking, ServerStays, awaited, client_ports}
use Rattle.vcpu_run.proofs.PlainJudged.{HoldsResponse, is_answer}
use Rattle.vcpu_run.proofs.PlainPuts.{LeavesWindow}
use Rattle.vcpu_run.proofs.PlainSlots.{keeps_same}
use Rattle.vcpu_run.proofs.PlainStarts.{answered_places}
use Rattle.vcpu_run.proofs.PlainStill.{StandsStill, all_true, reads_data, reads_leave, talk_still}
use Rattle.vcpu_run.proofs.PlainTakes.{TakesHead, takes_talk}
use Rattle.vcpu_run.proofs.PlainTaking.{Oldest, empty_come, next_entries, oldest_is}
use Rattle.vcpu_run.proofs.PlainTurns.{come_same}

-- The oldest answer was taken, and with it the oldest request that was outstanding.
pub record TookAnswer (granted : ℕ) (at at' : Between) (asked : AskedParts) (taken : Taken) : Type 0 where
  pub entry : Entry
  pub oldest : Outgoing
  pub others : List Outgoing
  pub head : TakesHead at at' entry oldest others
  pub ask : Ask
  pub more : List Ask
  pub is : asked.answered ≡ ask ∷ more
  pub response : Rsp
  pub taken_is : taken ≡ Answer ask.tag response
  pub rest : List Iu
  pub talk : IsTalking granted at' [] (record { answered = more; pending = asked.pending; coming = asked.coming }) rest

-- There was none.
pub record TookNoAnswer (granted : ℕ) (at' : Between) (asked : AskedParts) (answers : List Iu) (taken : Taken) : Type 0 where
  pub number : ℕ
  pub taken_is : taken ≡ Empty number
  pub none : asked.answered ≡ []
  pub talk : IsTalking granted at' [] asked answers

no_answers : (window : PortState) (entries : List Entry) (asked : List Ask) (answers : List Iu) → entries ≡ [] → HaveAnswers window entries asked answers → asked ≡ []
no_answers window [] [] answers none have = refl
no_answers window [] (ask ∷ asked) answers none have = absurd have
no_answers window (entry ∷ entries) asked answers none have = absurd (cc (none))

took_none : (granted : ℕ) (at at' : Between) (asked : AskedParts) (answers : List Iu) (number : ℕ) → IsCalm granted at [] → IsTalking granted at [] asked answers
    → TakesNone at.client at'.client (client_ports at) (client_ports at') number → OnlyTakes false at.own at'.own → ServerStays at at'
    → TookNoAnswer granted at' asked answers (Empty number)
took_none granted at at' asked answers number calm talk takes only stays = record {
  number = number;
  taken_is = refl;
  none = no_answers at.window (at.client.kept ++ to_come at.own) asked.answered answers
      (ap (λ (list : List Entry). list ++ to_come at.own) takes.fetched.none_kept ∙ empty_come at.own at'.own number talk.registered takes.fetched.none) talk.answered;
  talk = talk_still (λ o. ⊤) granted at at' [] asked answers still talk;
}
  where
    taken : at'.own.taken ≡ at.own.taken
    taken = by takes.fetched.none.none ∙ takes.fetched.none.ready.taken
      where
        by : FindsNone false takes.fetched.none.room at'.own number
            ⊎ ((takes.fetched.none.room.registered ≡ false) × (number ≡ 0) × OnlyReserves takes.fetched.none.room at'.own) → at'.own.taken ≡ takes.fetched.none.room.taken
        by (inl finds) = finds.taken
        by (inr closed) = closed.2.taken

    still : StandsStill (λ o. ⊤) at at'
    still = record {
      server = stays;
      client = takes.fetched.client;
      sent = only.sent;
      registered = only.registered;
      kept = only.kept;
      come = come_same at.own at'.own only.place only.last_session taken;
      slots = ap (λ place. place.own_slots) only.place;
      window = record { own = subst IsOwnWindow (sym takes.own) calm.usable; keeps = keeps_same at.window at'.window takes.own };
      spares = all_true (awaited at.client);
      tables = data_kept at.window at'.window takes.own;
    }

-- the first of a list of requests is the one of its tag
pub without_first : (tag : ℕ) (oldest : Outgoing) (others : List Outgoing) → oldest.tag ≡ tag → without_tag tag (oldest ∷ others) ≡ others
without_first tag oldest others is = ap (λ b. cond b others (oldest ∷ without_tag tag others)) (eq-eqb oldest.tag tag is)

heads : (a b : Entry) (xs ys : List Entry) → a ∷ xs ≡ b ∷ ys → a ≡ b
heads a b xs ys e = cc (e)

tails : (a b : Entry) (xs ys : List Entry) → a ∷ xs ≡ b ∷ ys → xs ≡ ys
tails a b xs ys e = cc (e)

took_one : (granted : ℕ) (at at' : Between) (asked : AskedParts) (answers : List Iu) (taken : Taken) → IsCalm granted at [] → IsTalking granted at [] asked answers
    → at.client.login ≡ Idle → TakesAs at.client at'.client (client_ports at) (client_ports at') taken → OnlyTakes false at.own at'.own → OnlyReads false at.window at'.window
    → ServerStays at at' → TookAnswer granted at at' asked taken
took_one granted at at' asked answers taken calm talk idle takes only reads stays = record {
  entry = entry;
  oldest = first.oldest;
  others = first.others;
  head = head;
  ask = took.0;
  more = took.1;
  is = took.4;
  response = answer.0;
  taken_is = answer.1 ∙ ap (λ (tag : ℕ). Answer tag answer.0) (sym first.tells.tag_is ∙ took.6);
  rest = took.3;
  talk = took.8;
}
  where
    entry : Entry
    entry = takes.fetched.entry

    entries : at.client.kept ++ to_come at.own ≡ entry ∷ (takes.fetched.rest ++ to_come at'.own)
    entries = next_entries at.client.kept at.own at'.own entry takes.fetched.rest takes.fetched.next only

    first : Oldest at asked entry
    first = oldest_is granted at asked answers entry (takes.fetched.rest ++ to_come at'.own) calm.usable talk idle entries

    kept_is : takes.judged.entry ∷ takes.judged.rest ≡ entry ∷ takes.fetched.rest
    kept_is = sym takes.judged.first ∙ ap (λ (s : ClientState). s.kept) takes.fetched.client

    left : LeavesWindow (λ slot. ⊤) at.window at'.window
    left = reads_leave at.window at'.window calm.usable reads

    has : HoldsResponse at'.window first.tag first.oldest.slot
    has = record {
      own = left.own;
      within = first.tells.has.within;
      bytes = first.tells.has.bytes;
      stand = left.keeps.slots first.oldest.slot first.tells.has.bytes first.tells.has.within tt first.tells.has.whole first.tells.has.stand;
      whole = first.tells.has.whole;
      response = first.tells.has.response;
      spelled = first.tells.has.spelled;
      tag_is = first.tells.has.tag_is;
    }

    before : takes.kept.outgoing ≡ first.oldest ∷ first.others
    before = ap (λ (s : ClientState). s.outgoing) takes.fetched.client ∙ first.before

    answer : (response : Rsp) × (taken ≡ Answer first.tag response)
    answer = is_answer takes.kept.outgoing entry at.window at'.window taken first.tag first.oldest first.others before first.tells has
        (subst (λ (e : Entry). Judges false takes.kept.outgoing e at.window at'.window taken) (heads takes.judged.entry entry takes.judged.rest takes.fetched.rest kept_is) takes.judged.judged)

    client : at'.client ≡ taken_by takes.judged.entry (Answer first.tag answer.0) (record takes.kept { kept = takes.judged.rest })
    client = takes.judged.client ∙ ap (λ (t : Taken). taken_by takes.judged.entry t (record takes.kept { kept = takes.judged.rest })) answer.1

    head : TakesHead at at' entry first.oldest first.others
    head = record {
      unit = stays.unit;
      registered = only.registered;
      keeps = left.keeps;
      tables = reads_data at.window at'.window reads;
      entries = entries ∙ ap (λ (list : List Entry). entry ∷ (list ++ to_come at'.own))
          (sym (ap (λ (s : ClientState). s.kept) client ∙ tails takes.judged.entry entry takes.judged.rest takes.fetched.rest kept_is));
      before = first.before;
      outgoing = ap (λ (s : ClientState). s.outgoing) client ∙ ap (without_tag first.tag) before ∙ without_first first.tag first.oldest first.others first.tells.tag_is;
      rows = ap (λ (s : ClientState). length s.rows) client ∙ length-set takes.kept.rows (first.tag - 1) (row_answered answer.0 (slice_index_or takes.kept.rows (first.tag - 1) rows.Login))
          ∙ ap (λ (s : ClientState). length s.rows) takes.fetched.client;
      places = answered_places at.client.rows at'.client.rows first.tag answer.0
          (ap (λ (s : ClientState). s.rows) client ∙ ap (λ (s : ClientState). answered first.tag answer.0 s.rows) takes.fetched.client);
      handshake = ap (λ (s : ClientState). s.handshake) client ∙ ap (λ (s : ClientState). s.handshake) takes.fetched.client;
      due = ap (λ (s : ClientState). s.due) client ∙ ap (λ (s : ClientState). s.due) takes.fetched.client;
      held = ap (λ (s : ClientState). s.held) client ∙ ap (λ (s : ClientState). s.held) takes.fetched.client;
      granted = ap (λ (s : ClientState). s.granted) client ∙ ap (λ (s : ClientState). s.granted) takes.fetched.client;
      login = ap (λ (s : ClientState). s.login) client ∙ ap (λ (s : ClientState). s.login) takes.fetched.client;
      logout = ap (λ (s : ClientState). s.logout) client ∙ ap (λ (s : ClientState). s.logout) takes.fetched.client;
    }

    took : (ask : Ask) × (more : List Ask) × (answer : Iu) × (rest : List Iu) × (asked.answered ≡ ask ∷ more) × HasAnswer at.window entry ask answer × (first.oldest.tag ≡ ask.tag) × (first.oldest.slot ≡ ask.slot)
        × IsTalking granted at' [] (record { answered = more; pending = asked.pending; coming = asked.coming }) rest
    took = takes_talk granted at at' asked answers entry first.oldest first.others talk head

-- what a plain client takes once both have heard of one another, while no login is under way
pub takes_plainly : (granted : ℕ) (at at' : Between) (asked : AskedParts) (answers : List Iu) (taken : Taken) → IsCalm granted at [] → IsTalking granted at [] asked answers
    → at.client.login ≡ Idle → TakesEntry at.client at'.client (client_ports at) (client_ports at') taken → OnlyTakes false at.own at'.own → OnlyReads false at.window at'.window
    → ServerStays at at' → TookAnswer granted at at' asked taken ⊎ TookNoAnswer granted at' asked answers taken
takes_plainly granted at at' asked answers (Empty number) calm talk idle takes only reads stays = inr (took_none granted at at' asked answers number calm talk takes only stays)
takes_plainly granted at at' asked answers (Answer tag response) calm talk idle takes only reads stays =
    inl (took_one granted at at' asked answers (Answer tag response) calm talk idle takes only reads stays)
takes_plainly granted at at' asked answers (Stray tag) calm talk idle takes only reads stays = inl (took_one granted at at' asked answers (Stray tag) calm talk idle takes only reads stays)
takes_plainly granted at at' asked answers Lost calm talk idle takes only reads stays = inl (took_one granted at at' asked answers Lost calm talk idle takes only reads stays)
takes_plainly granted at at' asked answers Other calm talk idle takes only reads stays = inl (took_one granted at at' asked answers Other calm talk idle takes only reads stays)
takes_plainly granted at at' asked answers (Again page word) calm talk idle takes only reads stays =
    inl (took_one granted at at' asked answers (Again page word) calm talk idle takes only reads stays)

-- No table is written by that.
pub takes_tabled : (at at' : Between) (taken : Taken) → TakesEntry at.client at'.client (client_ports at) (client_ports at') taken → at'.client.tabled ≡ at.client.tabled
takes_tabled at at' (Empty number) takes = ap (λ (s : ClientState). s.tabled) takes.fetched.client
takes_tabled at at' (Answer tag response) takes = ap (λ (s : ClientState). s.tabled) takes.judged.client ∙ ap (λ (s : ClientState). s.tabled) takes.fetched.client
takes_tabled at at' (Stray tag) takes = ap (λ (s : ClientState). s.tabled) takes.judged.client ∙ ap (λ (s : ClientState). s.tabled) takes.fetched.client
takes_tabled at at' Lost takes = ap (λ (s : ClientState). s.tabled) takes.judged.client ∙ ap (λ (s : ClientState). s.tabled) takes.fetched.client
takes_tabled at at' Other takes = ap (λ (s : ClientState). s.tabled) takes.judged.client ∙ ap (λ (s : ClientState). s.tabled) takes.fetched.client
takes_tabled at at' (Again page word) takes = ap (λ (s : ClientState). s.tabled) takes.judged.client ∙ ap (λ (s : ClientState). s.tabled) takes.fetched.client
