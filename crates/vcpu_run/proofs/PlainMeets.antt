-- A plain client that has registered its queue hears that its server unit has heard of that: both have then heard of one another, and nothing
-- is asked.
use Rattle.std.proofs.Common.{◌≡◌, ◌∙◌, inl, inr, ℕ, ◌≤◌, ◌++◌, ◌&&◌, nat_le, true, false, true≢false, List, [], ◌∷◌, Some, None, is_some, length, refl, sym, ap, ap₂, subst, arith}
use Rattle.std.proofs.lemmas.Bool.Decides.{nat_tests}
use Rattle.std.proofs.lemmas.List.Elements.{All-nil}
use Rattle.vio_num.specs.Entry.{initialization_complete, is_srp_entry}
use Rattle.vio_num.specs.declared.entry.Entry.{Entry}
use Rattle.crq_session.specs.Handshake.{state_after, step_after}
use Rattle.crq_session.specs.declared.handshake.Handshake.{Handshake}
use Rattle.crq_session.specs.declared.handshake.Handshake.TheVariants.{Up}
use Rattle.tce_window.specs.PortState.{PortState}
use Rattle.block_server.specs.Talk.{MayAsk, talk_of, to_come}
use Rattle.block_server.specs.Talk.Word.{begins}
use Rattle.block_server.specs.declared.request.Request.{Request}
use Rattle.block_server.specs.declared.unit.Unit.{Unit}
use Rattle.vscsi_client.specs.Login.{Finds, found_by}
use Rattle.vscsi_client.specs.Slots.{is_event}
use Rattle.vscsi_client.specs.State.{ClientState}
use Rattle.vscsi_client.specs.Taking.{due_by}
use Rattle.vscsi_client.specs.Turned.{Looks, TakesNext}
use Rattle.vscsi_client.specs.declared.found.Found.{Found}
use Rattle.vscsi_client.specs.declared.found.Found.TheVariants.{Answer, Granted, InUse, Lost, Nothing, Rejected, Step}
use Rattle.vscsi_client.specs.declared.outgoing.Outgoing.{Outgoing}
use Rattle.vscsi_client.specs.declared.stage.Due.{Due}
use Rattle.vscsi_client.specs.declared.stage.Stage.TheVariants.{Idle}
use Rattle.vscsi_client.specs.declared.stage.Stage.{Stage}
use Rattle.vcpu_run.specs.PlainTalk.{ArePending, Ask, Between, DataLies, HaveAnswers, HearsOfClient, IsAsk, IsBeginning, IsTalking, IsAnswerBy, ServerStays, is_logout, is_sent, login_name, StartsAt}
use Rattle.vcpu_run.proofs.PlainLooked.{some_same, takes_on}
use Rattle.vcpu_run.proofs.PlainTaking.{poll_come}

-- an entry that completes the handshake is no more and no less
finds_step : (s : ClientState) (entry : Entry) (old new : PortState) (found : Found) → entry ≡ initialization_complete → Finds false s entry old new found → found ≡ Step
finds_step s entry old new Step is finds = refl
finds_step s entry old new Lost is finds = absurd (true≢false (sym finds.0 ∙ ap is_event is))
finds_step s entry old new Answer is finds = absurd (true≢false (sym finds.1 ∙ ap is_srp_entry is))
finds_step s entry old new Nothing is finds = absurd (true≢false (sym finds.1 ∙ ap is_srp_entry is))
finds_step s entry old new (Granted credits) is finds = absurd (true≢false (sym finds.1 ∙ ap is_srp_entry is))
finds_step s entry old new (Rejected reason) is finds = absurd (true≢false (sym finds.1 ∙ ap is_srp_entry is))
finds_step s entry old new (InUse page word) is finds = absurd (true≢false (sym finds.1 ∙ ap is_srp_entry is))

-- What such a client finds, and what is so then.
pub record HasMet (granted : ℕ) (at' : Between) (found : Found) : Type 0 where
  pub found_is : found ≡ Step
  pub none : to_come at'.own ≡ []
  pub idle : at'.client.login ≡ Idle
  pub talk : IsTalking granted at' [] (record { answered = []; pending = []; coming = [] }) []

heads : (a b : Entry) (xs ys : List Entry) → a ∷ xs ≡ b ∷ ys → (a ≡ b) × (xs ≡ ys)
heads a b xs ys e = (cc (e), cc (e))

none_pending : (requests : List Request) → requests ≡ [] → ArePending requests []
none_pending requests none = subst (λ (list : List Request). ArePending list []) (sym none) tt

none_on : (n : ℕ) → n ≡ 0 → nat_le 1 n ≡ false
none_on n none = grind (arith, nat_tests, none)

pub meets_plainly : (granted : ℕ) (at at' : Between) (mid : ClientState) (found : Found) → IsBeginning at [] → TakesNext false at.client mid at.own at'.own
    → Looks false mid at'.client at.window at'.window found → ServerStays at at' → HasMet granted at' found
meets_plainly granted at at' mid found begun takes looks stays = by begun.heard
  where
    entry : Entry
    entry = takes.entry

    come : to_come at.own ≡ entry ∷ to_come at'.own
    come = poll_come at.own at'.own entry (record { room = takes.room; ready = takes.ready; number = takes.number; taken = takes.taken })
        (takes_on at.client mid at.own at'.own takes)

    same : looks.entry ≡ entry
    same = sym (some_same entry looks.entry (sym (ap (λ (s : ClientState). s.held) takes.client) ∙ looks.held))

    finds : Finds false mid entry at.window at'.window found
    finds = subst (λ (e : Entry). Finds false mid e at.window at'.window found) same looks.finds

    client : at'.client ≡ found_by entry found (record at.client { held = Some entry })
    client = looks.client ∙ ap₂ (λ (e : Entry) (s : ClientState). found_by e found s) same takes.client

    met : at.unit.line.handshake ≡ Up → to_come at.own ≡ initialization_complete ∷ [] → HasMet granted at' found
    met up complete = record {
      found_is = step;
      none = first.1;
      idle = login;
      talk = record {
        registered = (takes_on at.client mid at.own at'.own takes).registered ∙ begun.registered;
        handshake = ap (λ (s : ClientState). s.handshake) now ∙ ap₂ (λ (h : Handshake) (e : Entry). state_after h e) begun.handshake first.0;
        up = ap (λ (u : Unit). u.line.handshake) stays.unit ∙ up;
        due = ap (λ (s : ClientState). s.due) now ∙ ap₂ (λ (due : List Due) (more : List Due). due ++ more) begun.due
            (ap₂ (λ (h : Handshake) (e : Entry). due_by (step_after h e)) begun.handshake first.0);
        held = ap (λ (s : ClientState). s.held) now;
        each = All-nil IsAsk;
        slots = tt;
        tags = tt;
        order = tt;
        pending = none_pending at'.unit.pending.items (ap (λ (u : Unit). u.pending.items) stays.unit ∙ begun.vacant.pending);
        coming = refl;
        few = omega arith;
        may = All-nil (λ (one : Ask). MayAsk (talk_of at'.unit) one.iu);
        answered = subst (λ (list : List Entry). HaveAnswers at'.window list [] [])
            (sym (ap₂ (λ (kept come : List Entry). kept ++ come) (ap (λ (s : ClientState). s.kept) now ∙ begun.kept) first.1)) tt;
        awaited = sym (ap₂ (λ (outgoing : List Outgoing) (stage : Stage). outgoing ++ login_name stage) outgoing login);
        logouts = All-nil (λ (one : Ask). is_logout one.iu ≡ true → at'.client.logout ≡ Some one.slot);
        sent = sym (ap is_sent login);
        stage = inl login;
        none = λ none. outgoing;
        within = subst (λ (list : List Outgoing). length list ≤ 200) (sym outgoing) (omega arith);
        counts = record {
          taking = ap (λ (u : Unit). u.logins.taking) stays.unit ∙ begun.vacant.taking ∙ sym (ap (λ b. b && true) off);
          outstanding = λ on. absurd (omega (arith, on, current));
        };
        tables = All-nil (DataLies at'.window);
        starts = All-nil (StartsAt at'.client.rows);
        spared = tt;
        login = record {
          credits = inl known;
          before = λ no'. ap is_some known ∙ sym off;
          on = λ has. absurd (true≢false (sym has));
          answer = λ has. absurd (true≢false (sym has));
          grant = All-nil (IsAnswerBy granted at'.unit.id at'.window);
        };
      };
    }
      where
        first : (entry ≡ initialization_complete) × (to_come at'.own ≡ [])
        first = heads entry initialization_complete (to_come at'.own) [] (sym come ∙ complete)

        step : found ≡ Step
        step = finds_step mid entry at.window at'.window found first.0 finds

        now : at'.client ≡ found_by entry Step (record at.client { held = Some entry })
        now = client ∙ ap (λ (f : Found). found_by entry f (record at.client { held = Some entry })) step

        login : at'.client.login ≡ Idle
        login = ap (λ (s : ClientState). s.login) now ∙ begun.login

        outgoing : at'.client.outgoing ≡ []
        outgoing = ap (λ (s : ClientState). s.outgoing) now ∙ begun.outgoing

        known : at'.client.granted ≡ None
        known = ap (λ (s : ClientState). s.granted) now ∙ begun.granted

        current : at'.unit.logins.current ≡ 0
        current = ap (λ (u : Unit). u.logins.current) stays.unit ∙ begun.vacant.current

        off : nat_le 1 at'.unit.logins.current ≡ false
        off = none_on at'.unit.logins.current current

    by : HearsOfClient at [] → HasMet granted at' found
    by (inl one) = absurd (no_word one.0)
      where
        no_word : [] ≡ begins ∷ [] → ⊥
        no_word e = cc (e)
    by (inr two) = met two.1 two.2
