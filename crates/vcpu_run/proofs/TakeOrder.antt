-- An entry that is taken leaves the answers of a client in the order of the entries.
use Rattle.std.proofs.Common.{◌≡◌, ◌∙◌, ◌⊎◌, inl, inr, ℕ, ◌≤◌, Bool, false, cond, List, [], ◌∷◌, ◌++◌, filter, map, sym, ap, subst}
use Rattle.std.proofs.lemmas.List.{append_assoc}
use Rattle.std.proofs.lemmas.List.Elements.{All-append, All-cons, All-nil}
use Rattle.vio_num.specs.declared.entry.Entry.{Entry}
use Rattle.vio_num.specs.Entry.{is_srp_entry}
use Rattle.crq_ring.specs.declared.rows.PipeRow.{PipeRow}
use Rattle.crq_session.specs.EndState.{EndState, OnlyReserves, OnlyTakes}
use Rattle.crq_session.specs.Answered.{FindsNone}
use Rattle.tce_window.specs.PortState.{PortState}
use Rattle.vscsi_client.specs.Ports.{Ports}
use Rattle.vscsi_client.specs.State.{ClientState}
use Rattle.vscsi_client.specs.Taking.{IsNext, IsOfTag, JudgesFirst, PollsEmpty, TakesAs, TakesEntry}
use Rattle.vscsi_client.specs.declared.answers.Taken.{Taken}
use Rattle.vscsi_client.specs.declared.answers.Taken.TheVariants as takens
use Rattle.vcpu_run.specs.Answered.{AreBegun}
use Rattle.vcpu_run.specs.AnswersTaken.{AreAmong, tags_among, tags_taken}
use Rattle.vcpu_run.specs.Takings.{IsBegun, SameServer, waiting}
use Rattle.vio_trace.specs.declared.rows.AnswerRow.{AnswerRow}
use Rattle.vcpu_run.specs.DataKept.{KeepsData}
use Rattle.vcpu_run.proofs.DataStays.{data_same}
use Rattle.vcpu_run.proofs.DataTurns.{NotesAs, takes_data}
use Rattle.vcpu_run.proofs.ServersKept.{takes_server}
use Rattle.vcpu_run.proofs.Among.{among_less, tags_both, wait_next, wait_none}
use Rattle.vcpu_run.specs.EventsHeard.{Hears}
use Rattle.vcpu_run.proofs.EventsHeard.{as_hears, hears_less, none_hears, taken_lost}

-- tags, and behind them those of what is kept, among what was taken
abbrev pub KeptIn : (tags : List ℕ) → List Entry → EndState → Type 0
KeptIn tags kept end = AreAmong (tags ++ tags_among kept) (tags_taken end.taken)

-- the next entry was taken, or was kept
fetch_kept : (tags : List ℕ) (shared : Bool) (kept rest : List Entry) (entry : Entry) (e f : EndState) → IsNext kept shared e entry rest f → KeptIn tags kept e → KeptIn tags (entry ∷ rest) f
fetch_kept tags shared [] rest entry e f next is =
    subst (λ (more : List Entry). KeptIn tags (entry ∷ more) f) (sym next.0)
    (subst (λ (rows : List PipeRow). AreAmong (tags ++ tags_among (entry ∷ [])) (tags_taken rows)) (sym next.1.taken.taken)
    (subst (λ (rows : List PipeRow). AreAmong (tags ++ tags_among (entry ∷ [])) (tags_taken (rows ++ record { session = next.1.room.last_session; entry = entry } ∷ []))) (sym next.1.ready.taken)
    (wait_next tags [] e.taken (record { session = next.1.room.last_session; entry = entry }) is)))
fetch_kept tags shared (first ∷ more) rest entry e f next is =
    subst (λ (end : EndState). KeptIn tags (entry ∷ rest) end) (sym next.2)
    (subst (λ (x : Entry). KeptIn tags (x ∷ rest) e) (sym next.0) (subst (λ (xs : List Entry). KeptIn tags (first ∷ xs) e) (sym next.1) is))

fetch_begun : (shared : Bool) (kept rest : List Entry) (entry : Entry) (e f : EndState) → IsNext kept shared e entry rest f → IsBegun e → AreBegun e.taken → AreBegun f.taken
fetch_begun shared [] rest entry e f next begun is =
    let polls = next.1 in
    subst AreBegun (sym polls.taken.taken)
    (All-append (λ (row : PipeRow). 1 ≤ row.session) polls.room.taken (record { session = polls.room.last_session; entry = entry } ∷ []) (subst AreBegun (sym polls.ready.taken) is)
    (All-cons (λ (row : PipeRow). 1 ≤ row.session) (record { session = polls.room.last_session; entry = entry }) [] (subst (λ n. 1 ≤ n) (sym polls.ready.last_session) (begun (sym polls.ready.registered ∙ polls.taken.registered))) (All-nil (λ (row : PipeRow). 1 ≤ row.session))))
fetch_begun shared (first ∷ more) rest entry e f next begun is = subst (λ (end : EndState). AreBegun end.taken) (sym next.2) is

-- the first that is kept is no answer
without_first : (tags : List ℕ) (entry : Entry) (rest : List Entry) (e : EndState) → KeptIn tags (entry ∷ rest) e → KeptIn tags rest e
without_first tags entry rest e is =
    among_less tags (tags_among (entry ∷ [])) (tags_among rest) (tags_taken e.taken)
    (subst (λ (more : List ℕ). AreAmong (tags ++ more) (tags_taken e.taken)) (tags_both (entry ∷ []) rest) is)

-- it is an answer of this tag
with_answer : (tags : List ℕ) (tag : ℕ) (entry : Entry) (rest : List Entry) (e : EndState) → IsOfTag entry tag → KeptIn tags (entry ∷ rest) e → KeptIn (tags ++ tag ∷ []) rest e
with_answer tags tag entry rest e of is =
    subst (λ (all : List ℕ). AreAmong all (tags_taken e.taken)) (sym (append_assoc tags (tag ∷ []) (tags_among rest)))
    (subst (λ (more : List ℕ). AreAmong (tags ++ more) (tags_taken e.taken)) first is)
  where
    first : tags_among (entry ∷ rest) ≡ tag ∷ tags_among rest
    first =
        ap (λ (b : Bool). map (λ (x : Entry). x.low) (cond b (entry ∷ filter is_srp_entry rest) (filter is_srp_entry rest))) of.srp
        ∙ ap (λ (t : ℕ). t ∷ tags_among rest) of.tag_is

-- the tags of the answers once an entry was taken as this
abbrev pub more_tags : Taken → List ℕ → List ℕ
more_tags (takens.Answer tag response) tags = tags ++ tag ∷ []
more_tags _ tags = tags

judged_kept : (tags : List ℕ) (shared : Bool) (k s' : ClientState) (old new : PortState) (taken : Taken) (e : EndState) → JudgesFirst shared k s' old new taken → KeptIn tags k.kept e
    → KeptIn (more_tags taken tags) s'.kept e
judged_kept tags shared k s' old new (takens.Answer tag response) e h is =
    subst (λ (t : ClientState). KeptIn (tags ++ tag ∷ []) t.kept e) (sym h.client) (with_answer tags tag h.entry h.rest e h.judged.0 (subst (λ (xs : List Entry). KeptIn tags xs e) h.first is))
judged_kept tags shared k s' old new (takens.Stray tag) e h is =
    subst (λ (t : ClientState). KeptIn tags t.kept e) (sym h.client) (without_first tags h.entry h.rest e (subst (λ (xs : List Entry). KeptIn tags xs e) h.first is))
judged_kept tags shared k s' old new takens.Lost e h is =
    subst (λ (t : ClientState). KeptIn tags t.kept e) (sym h.client) (wait_none tags k.kept (tags_taken e.taken) is)
judged_kept tags shared k s' old new takens.Other e h is =
    subst (λ (t : ClientState). KeptIn tags t.kept e) (sym h.client) (without_first tags h.entry h.rest e (subst (λ (xs : List Entry). KeptIn tags xs e) h.first is))
judged_kept tags shared k s' old new (takens.Again page word) e h is =
    subst (λ (t : ClientState). KeptIn tags t.kept e) (sym h.client) (subst (λ (xs : List Entry). KeptIn tags xs e) h.first is)
judged_kept tags shared k s' old new (takens.Empty number) e h is = absurd h.judged

judged_rest : (shared : Bool) (k s' : ClientState) (old new : PortState) (taken : Taken) → JudgesFirst shared k s' old new taken → waiting k ≡ [] → waiting s' ≡ []
judged_rest shared k s' old new (takens.Answer tag response) h is = ap waiting h.client ∙ is
judged_rest shared k s' old new (takens.Stray tag) h is = ap waiting h.client ∙ is
judged_rest shared k s' old new takens.Lost h is = ap waiting h.client
judged_rest shared k s' old new takens.Other h is = ap waiting h.client ∙ is
judged_rest shared k s' old new (takens.Again page word) h is = ap waiting h.client ∙ is
judged_rest shared k s' old new (takens.Empty number) h is = absurd h.judged

-- What a call that takes an entry leaves: the answers and what is kept stay in order, and what is taken is taken in sessions.
pub record TakesIn (taken : Taken) (s s' : ClientState) (e f : EndState) : Type 0 where
  pub order : (tags : List ℕ) → KeptIn tags s.kept e → KeptIn (more_tags taken tags) s'.kept f
  pub begun : IsBegun e → AreBegun e.taken → AreBegun f.taken
  pub session : f.registered ≡ e.registered
  pub last : f.last_session ≡ e.last_session
  pub rest : waiting s ≡ [] → waiting s' ≡ []
  pub heard : Hears 0 s s' e f
  pub server : SameServer s s'
  pub keeps : (xs ys : List AnswerRow) → NotesAs taken xs ys → KeepsData s s' xs ys

takes_as : (taken : Taken) (s s' : ClientState) (old new : Ports) → TakesAs s s' old new taken → OnlyTakes old.crq_shared old.crq new.crq → TakesIn taken s s' old.crq new.crq
takes_as taken s s' old new h rest = record {
  order = λ tags is.
      judged_kept tags old.own_shared h.kept s' old.own new.own taken new.crq h.judged
      (subst (λ (t : ClientState). KeptIn tags t.kept new.crq) (sym h.fetched.client) (fetch_kept tags old.crq_shared s.kept h.fetched.rest h.fetched.entry old.crq new.crq h.fetched.next is));
  begun = λ begun is. fetch_begun old.crq_shared s.kept h.fetched.rest h.fetched.entry old.crq new.crq h.fetched.next begun is;
  session = rest.registered;
  last = rest.last_session;
  rest = λ none. judged_rest old.own_shared h.kept s' old.own new.own taken h.judged (ap waiting h.fetched.client ∙ none);
  heard = hears_less (taken_lost taken) s s' old.crq new.crq (as_hears s s' old new taken h);
  server = takes_server s s' old new taken h;
  keeps = takes_data taken s s' old new h;
}

polled_none : (shared : Bool) (e f : EndState) (number : ℕ) → PollsEmpty shared e number f → f.taken ≡ e.taken
polled_none shared e f number h = at h.none
  where
    at : FindsNone shared h.room f number ⊎ ((h.room.registered ≡ false) × (number ≡ 0) × OnlyReserves h.room f) → f.taken ≡ e.taken
    at (inl none) = none.taken ∙ h.ready.taken
    at (inr shut) = shut.2.taken ∙ h.ready.taken

pub takes_in : (taken : Taken) (s s' : ClientState) (old new : Ports) → TakesEntry s s' old new taken → OnlyTakes old.crq_shared old.crq new.crq → TakesIn taken s s' old.crq new.crq
takes_in (takens.Answer tag response) s s' old new h rest = takes_as (takens.Answer tag response) s s' old new h rest
takes_in (takens.Stray tag) s s' old new h rest = takes_as (takens.Stray tag) s s' old new h rest
takes_in takens.Lost s s' old new h rest = takes_as takens.Lost s s' old new h rest
takes_in takens.Other s s' old new h rest = takes_as takens.Other s s' old new h rest
takes_in (takens.Again page word) s s' old new h rest = takes_as (takens.Again page word) s s' old new h rest
takes_in (takens.Empty number) s s' old new h rest =
    let same : new.crq.taken ≡ old.crq.taken = polled_none old.crq_shared old.crq new.crq number h.fetched.none in
    record {
      order = λ tags is.
          subst (λ (t : ClientState). KeptIn tags t.kept new.crq) (sym h.fetched.client)
          (subst (λ (rows : List PipeRow). AreAmong (tags ++ tags_among s.kept) (tags_taken rows)) (sym same) is);
      begun = λ begun is. subst AreBegun (sym same) is;
      session = rest.registered;
      last = rest.last_session;
      rest = λ none. ap waiting h.fetched.client ∙ none;
      heard = none_hears s s' old new number h;
      server = ap (λ (t : ClientState). t.server) h.fetched.client;
      keeps = λ xs ys same. data_same s s' xs ys (ap (λ (t : ClientState). t.rows) h.fetched.client) (ap (λ (t : ClientState). t.outgoing) h.fetched.client) same;
    }
