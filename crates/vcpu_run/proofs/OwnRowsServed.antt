-- The oldest request is served within a turn of a server unit, up to its answer: its row is added, if it gets one, and what is laid bears data-in
-- of that.
use Rattle.std.proofs.Common.{◌≡◌, ◌∙◌, ℕ, ◌++◌, All, true, Contains, List, [], ◌∷◌, Option, Some, None, append-nil, length, refl, slice_get, sym, ap, subst}
use Rattle.std.proofs.lemmas.List.Elements.{All-append, All-cons, All-nil, All-weaker, Contains-push}
use Rattle.vio_num.specs.declared.history.Served.{Served}
use Rattle.vio_num.specs.declared.names.UnitId.{UnitId}
use Rattle.srp_iu.specs.Grammar.{Spells}
use Rattle.srp_iu.specs.Layout.{field}
use Rattle.srp_iu.specs.declared.unit.Iu.{Iu}
use Rattle.srp_iu.specs.declared.unit.Iu.TheVariants as units
use Rattle.block_server.specs.Doings.{Doing, Prepares}
use Rattle.block_server.specs.Judged.{row_in}
use Rattle.block_server.specs.RowsOn.{HasLastRow, row_tag}
use Rattle.block_server.specs.Talk.{Suits, order_asked, tag_asked}
use Rattle.block_server.specs.declared.request.Order.{Order}
use Rattle.block_server.specs.declared.service.Outcome.{Outcome}
use Rattle.block_server.specs.declared.service.Outcome.TheVariants as outcomes
use Rattle.block_server.specs.declared.service.Stage.TheVariants as stages
use Rattle.vscsi_client.specs.State.{ClientState}
use Rattle.vscsi_client.specs.declared.row.Row.{Row}
use Rattle.vcpu_run.specs.DataKept.{IsInwardAt}
use Rattle.vcpu_run.specs.OwnRows.{AreSettled}
use Rattle.vcpu_run.specs.PlainBorne.{rows_by}
use Rattle.vcpu_run.specs.PlainNoted.{AreAskedFor, AsksFor}
use Rattle.vcpu_run.specs.PlainTalk.{Ask, IsAsk, IsPendingAs, StartsAt, is_counted}
use Rattle.vcpu_run.proofs.PlainAnswered.{suits_counted}
use Rattle.vcpu_run.proofs.PlainBorne.{rows_push}
use Rattle.vcpu_run.proofs.PlainUnits.{canon_spells}

-- ---- the row

-- the tag of what is asked stands in its bytes
tag_spelled : (bytes : List ℕ) (iu : Iu) → is_counted iu ≡ true → Spells bytes iu → field 8 8 bytes ≡ tag_asked iu
tag_spelled bytes (units.TskMgmt task) is spells = sym spells.unit.tag
tag_spelled bytes (units.Cmd command) is spells = sym spells.unit.tag
tag_spelled bytes iu isnt spells = absurd (cc (isnt))

-- what gets a row is counted
row_counted : (current place : ℕ) (ask : Ask) → IsAsk ask → (outcome : Outcome) → Suits current (order_asked ask.iu) outcome → row_in (stages.Answer outcome) ≡ Some place → is_counted ask.iu ≡ true
row_counted current place ask is_ask (outcomes.Granted number) suits none = absurd (cc (none))
row_counted current place ask is_ask outcomes.Rejected suits none = absurd (cc (none))
row_counted current place ask is_ask (outcomes.Served row) suits some = suits_counted current ask.iu row is_ask.kind suits

-- A row is that of what was asked.
pub record IsRowFor (ask : Ask) (row : Served) : Type 0 where
  pub tag_is : row_tag row ≡ ask.tag
  pub iu_is : row.iu ≡ ask.bytes

-- The unit's rows are those of before, which are settled, and that one, if there is one.
pub record AddsItsRow (d d' : Doing) (ask : Ask) : Type 0 where
  pub more : List Served
  pub by_unit : rows_by d.id d'.rows ≡ rows_by d.id d.rows ++ more
  pub each : All (IsRowFor ask) more
  pub settled : AreSettled d' (rows_by d.id d.rows)
  pub last : (place : ℕ) (row : Served) → row_in d'.stage ≡ Some place → slice_get d'.rows place ≡ Some row → Contains (rows_by d.id d'.rows) row × (row_tag row ≡ ask.tag)

last_got : (before : List Served) (row other : Served) → slice_get (before ++ row ∷ []) (length before) ≡ Some other → row ≡ other
last_got [] row other is = cc (is)
last_got (first ∷ before) row other is = last_got before row other is

pub adds_its_row : (d d' : Doing) (ask : Ask) (step : Prepares d d') → IsAsk ask → IsPendingAs step.request ask → AddsItsRow d d' ask
adds_its_row d d' ask step is_ask is = by (row_in d'.stage) refl (subst (λ (o : Option ℕ). HasLastRow d.id step.request d.rows o d'.rows) refl step.rows)
  where
    no_row : (place : ℕ) → None ≡ Some place → ⊥
    no_row place e = cc (e)

    same_place : (a b : ℕ) → Some a ≡ Some b → a ≡ b
    same_place a b e = cc (e)

    by : (o : Option ℕ) → row_in d'.stage ≡ o → HasLastRow d.id step.request d.rows o d'.rows → AddsItsRow d d' ask
    by None none rows = record {
      more = [];
      by_unit = ap (rows_by d.id) rows ∙ sym (append-nil (rows_by d.id d.rows));
      each = All-nil (IsRowFor ask);
      settled = record {
        none = λ same. ap (λ (id : UnitId). rows_by id d'.rows) step.stays.id ∙ ap (rows_by d.id) rows;
        one = λ place some. absurd (no_row place (sym none ∙ some));
      };
      last = λ place row some there. absurd (no_row place (sym none ∙ some));
    }
    by (Some place) some last = record {
      more = last.row ∷ [];
      by_unit = by_unit;
      each = All-cons (IsRowFor ask) last.row [] (record { tag_is = tag; iu_is = last.iu_is ∙ is.bytes }) (All-nil (IsRowFor ask));
      settled = record {
        none = λ none. absurd (no_row place (sym none ∙ some));
        one = λ other at. record {
          request = step.request;
          rest = step.rest;
          pending = step.pends ∙ step.pending;
          before = d.rows;
          row = last.row;
          place_is = same_place other place (sym at ∙ some) ∙ last.place_is;
          rows = last.added;
          unit_is = last.unit_is ∙ sym step.stays.id;
          tag_is = tag ∙ sym is.tag;
          settled_is = ap (λ (id : UnitId). rows_by id d.rows) step.stays.id;
        };
      };
      last = λ other row at there.
          let same : last.row ≡ row = last_got d.rows last.row row (sym (ap (λ (list : List Served). slice_get list (length d.rows)) last.added)
          ∙ ap (slice_get d'.rows) (sym (same_place other place (sym at ∙ some) ∙ last.place_is)) ∙ there) in (
            subst (Contains (rows_by d.id d'.rows)) same (subst (λ (list : List Served). Contains list last.row) (sym by_unit) (Contains-push (rows_by d.id d.rows) last.row)),
            ap row_tag (sym same) ∙ tag,
          );
    }
      where
        by_unit : rows_by d.id d'.rows ≡ rows_by d.id d.rows ++ last.row ∷ []
        by_unit = ap (rows_by d.id) last.added ∙ rows_push d.id d.rows last.row last.unit_is

        counted : is_counted ask.iu ≡ true
        counted = row_counted d.logins.current place ask is_ask step.outcome (subst (λ (order : Order). Suits d.logins.current order step.outcome) is.order step.suits)
            (ap row_in (sym step.stage) ∙ some)

        tag : row_tag last.row ≡ ask.tag
        tag = ap (field 8 8) (last.iu_is ∙ is.bytes) ∙ tag_spelled ask.bytes ask.iu counted (canon_spells ask.bytes ask.iu is_ask.canonical) ∙ is_ask.tag_is

-- ---- what it asks for

row_asks : (ask : Ask) (rs : List Row) (row : Served) → IsAsk ask → StartsAt rs ask → IsRowFor ask row → AsksFor rs row
row_asks ask rs row is_ask starts is from len inward =
    let start = starts from len (subst (λ n. IsInwardAt rs n from len) is.tag_is inward) in
    record {
      command = start.1.0;
      spells = subst (λ (list : List ℕ). Spells list (units.Cmd start.1.0)) (sym is.iu_is)
          (subst (λ (iu : Iu). Spells ask.bytes iu) start.1.1 (canon_spells ask.bytes ask.iu is_ask.canonical));
      long = start.1.2;
    }

pub sized_more : (d d' : Doing) (s : ClientState) (ask : Ask) → IsAsk ask → StartsAt s.rows ask → AddsItsRow d d' ask → AreAskedFor (rows_by d.id d.rows) s.rows
    → AreAskedFor (rows_by d.id d'.rows) s.rows
sized_more d d' s ask is_ask starts adds sized =
    subst (λ (rows : List Served). AreAskedFor rows s.rows) (sym adds.by_unit)
    (All-append (AsksFor s.rows) (rows_by d.id d.rows) adds.more sized
    (All-weaker (IsRowFor ask) (AsksFor s.rows) (λ row is. row_asks ask s.rows row is_ask starts is) adds.more adds.each))
