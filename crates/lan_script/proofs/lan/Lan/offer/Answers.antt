use Rattle.std.proofs.Common.{◌∙◌, arith, ℕ, false, map, refl, sym}
use Rattle.tce_window.specs.PlainPort.{known_of}
use Rattle.lan_switch.specs.Sending.{LanWindows, windows_of}
use Rattle.lan_script.specs.Windows.{FoundIn, facts_in}
use Rattle.lan_script.proofs.Begun.{begun_sent}
use Rattle.lan_script.proofs.Lans.{lending, lent_keys, others_free, owes_ok, place_lent, sent_ports, sent_untouched, whole_carried, whole_sends, window_free, window_there}
use Rattle.lan_script.proofs.CountedSent.{sends_same}
use Rattle.lan_script.proofs.ReplayedSent.{sends_stay}
use Rattle.lan_script.proofs.ReplayedSends.{goes_all}
use Rattle.lan_script.proofs.ReplayedShown.{sends_shown}
use Rattle.lan_script.proofs.ReplayedValues.{sends_values}
use Rattle.lan_script.proofs.Targeting.{sends_targets}
use Rattle.lan_script.proofs.RegionsGrow.{regions_sent}
use Rattle.lan_script.proofs.RegionMarks.{marks_sent}
use Rattle.lan_script.proofs.lan.Lan.offer.Goals as goal

abbrev none_found : ℕ → ℕ → Type 0
none_found page word = ⊥

pub take-own-requires : goal.take-own-requires
take-own-requires c = window_there _ c.args.self.now c.args.unit c.self.view_is c.self.invariant c.requires.there

pub send-answer-requires-clause-window : goal.send-answer-requires-clause-window
send-answer-requires-clause-window c =
    window_free _ c.args.self.now c.args.unit c.take-own.result c.self.view_is c.self.invariant c.requires.there c.take-own.ensures.window

pub send-answer-requires-clause-others : goal.send-answer-requires-clause-others
send-answer-requires-clause-others c =
    others_free _ c.args.unit c.take-own.new.self c.take-own.result c.self.invariant c.take-own.ensures.window c.take-own.ensures.rest

pub put-requires-clause-place : goal.put-requires-clause-place
put-requires-clause-place c =
    place_lent c.args.unit c.self.inside.windows c.take-own.new.self c.send-answer.new.others c.take-own.result c.take-own.ensures.window
    c.take-own.ensures.rest
    (sent_untouched c.self.inside.switch c.send-answer.new.self c.args.unit c.args.parts.now false none_found (known_of c.take-own.result)
    (known_of c.send-answer.new.window) (windows_of false facts_in FoundIn c.take-own.new.self c.send-answer.new.others) c.send-answer.result
    c.send-answer.ensures.sent c.send-answer.ensures.failed)

pub invariant_of-self : goal.invariant_of-self
invariant_of-self c =
    let windows : LanWindows = windows_of false facts_in FoundIn c.take-own.new.self c.send-answer.new.others in
    let sends = whole_sends _ c.args.self.now c.args.unit c.self.view_is c.self.invariant c.requires.whole c.requires.there in
    let free = window_free _ c.args.self.now c.args.unit c.take-own.result c.self.view_is c.self.invariant c.requires.there c.take-own.ensures.window in
    record {
      few = c.self.invariant.few;
      ascending = c.self.invariant.ascending;
      sized = c.self.invariant.sized;
      named = c.self.invariant.named;
      ports = sent_ports c.self.inside.seats.items c.self.inside.switch c.send-answer.new.self (map (λ rows. rows.items) c.self.inside.frames.items) c.args.unit
          c.args.parts.now false none_found (known_of c.take-own.result) (known_of c.send-answer.new.window) windows c.send-answer.result sends refl
          c.send-answer.ensures.sent c.send-answer.ensures.failed;
      windows = lent_keys _ c.args.unit c.take-own.new.self c.send-answer.new.others c.put.new.self c.take-own.result c.send-answer.new.window
          c.self.invariant c.take-own.ensures.window c.take-own.ensures.rest
          (sent_untouched c.self.inside.switch c.send-answer.new.self c.args.unit c.args.parts.now false none_found (known_of c.take-own.result)
          (known_of c.send-answer.new.window) windows c.send-answer.result c.send-answer.ensures.sent c.send-answer.ensures.failed)
          c.send-answer.ensures.others c.put.ensures c.send-answer.ensures.window.rest.place (c.send-answer.ensures.window.free ∙ sym free)
          ∙ c.self.invariant.windows;
      begun = begun_sent c.self.inside.switch c.send-answer.new.self c.args.unit c.args.parts.now false none_found (known_of c.take-own.result)
          (known_of c.send-answer.new.window) windows c.send-answer.result c.send-answer.ensures.sent c.send-answer.ensures.failed c.self.invariant.begun;
      balanced = λ whole. absurd (cc (whole));
      carried = λ whole. absurd (cc (whole));
    }

pub returns-clause-owes : goal.returns-clause-owes
returns-clause-owes c =
    owes_ok c.self.inside.seats.items c.self.inside.switch c.send-answer.new.self c.self.inside.windows c.take-own.new.self c.send-answer.new.others c.put.new.self
    c.take-own.result c.send-answer.new.window (map (λ rows. rows.items) c.self.inside.frames.items) c.args.unit c.args.parts.now none_found c.send-answer.result
    (whole_sends _ c.args.self.now c.args.unit c.self.view_is c.self.invariant c.requires.whole c.requires.there)
    (whole_carried _ c.args.self.now c.self.view_is c.self.invariant c.requires.whole)
    (lending c.self.inside.windows c.args.unit c.take-own.new.self c.send-answer.new.others c.put.new.self c.take-own.result c.send-answer.new.window c.take-own.ensures.window
    c.take-own.ensures.unit c.take-own.ensures.rest c.put.ensures
    (place_lent c.args.unit c.self.inside.windows c.take-own.new.self c.send-answer.new.others c.take-own.result c.take-own.ensures.window
    c.take-own.ensures.rest
    (sent_untouched c.self.inside.switch c.send-answer.new.self c.args.unit c.args.parts.now false none_found (known_of c.take-own.result)
    (known_of c.send-answer.new.window) (windows_of false facts_in FoundIn c.take-own.new.self c.send-answer.new.others) c.send-answer.result
    c.send-answer.ensures.sent c.send-answer.ensures.failed))
    (window_free _ c.args.self.now c.args.unit c.take-own.result c.self.view_is c.self.invariant c.requires.there c.take-own.ensures.window)
    c.send-answer.ensures.window) (omega arith) c.send-answer.ensures.sent

pub returns-clause-counts : goal.returns-clause-counts
returns-clause-counts c =
    sends_same _ c.args.self.now _ c.send-answer.new.self c.args.unit c.args.parts.now false none_found (known_of c.take-own.result) (known_of c.send-answer.new.window)
    (windows_of false facts_in FoundIn c.take-own.new.self c.send-answer.new.others) c.send-answer.result c.self.view_is refl c.send-answer.ensures.sent

pub returns-clause-replays : goal.returns-clause-replays
returns-clause-replays c =
    sends_stay _ c.args.self.now c.send-answer.new.self c.args.unit c.args.parts.now false none_found (known_of c.take-own.result) (known_of c.send-answer.new.window)
    (windows_of false facts_in FoundIn c.take-own.new.self c.send-answer.new.others) c.send-answer.result c.self.view_is c.send-answer.ensures.sent

pub returns-clause-goes : goal.returns-clause-goes
returns-clause-goes c =
    goes_all _ c.args.self.now c.args.unit c.send-answer.new.self c.args.parts.now none_found c.take-own.result c.send-answer.new.window
    (windows_of false facts_in FoundIn c.take-own.new.self c.send-answer.new.others) c.send-answer.result c.self.view_is c.self.invariant c.take-own.ensures.window
    c.send-answer.ensures.window.rest.values refl c.send-answer.ensures.sent

pub returns-clause-values : goal.returns-clause-values
returns-clause-values c =
    sends_values _ c.args.self.now c.send-answer.new.self c.args.unit c.args.parts.now c.take-own.new.self c.send-answer.new.others c.put.new.self
    c.take-own.result c.send-answer.new.window none_found c.send-answer.result c.self.view_is
    (whole_sends _ c.args.self.now c.args.unit c.self.view_is c.self.invariant c.requires.whole c.requires.there)
    (lending c.self.inside.windows c.args.unit c.take-own.new.self c.send-answer.new.others c.put.new.self c.take-own.result c.send-answer.new.window c.take-own.ensures.window
    c.take-own.ensures.unit c.take-own.ensures.rest c.put.ensures
    (place_lent c.args.unit c.self.inside.windows c.take-own.new.self c.send-answer.new.others c.take-own.result c.take-own.ensures.window
    c.take-own.ensures.rest
    (sent_untouched c.self.inside.switch c.send-answer.new.self c.args.unit c.args.parts.now false none_found (known_of c.take-own.result)
    (known_of c.send-answer.new.window) (windows_of false facts_in FoundIn c.take-own.new.self c.send-answer.new.others) c.send-answer.result
    c.send-answer.ensures.sent c.send-answer.ensures.failed))
    (window_free _ c.args.self.now c.args.unit c.take-own.result c.self.view_is c.self.invariant c.requires.there c.take-own.ensures.window)
    c.send-answer.ensures.window) c.send-answer.ensures.window.rest.values c.send-answer.ensures.sent

pub returns-clause-shown : goal.returns-clause-shown
returns-clause-shown c =
    sends_shown _ c.args.self.now c.args.unit c.send-answer.new.self c.args.parts.now none_found c.take-own.result c.send-answer.new.window
    (windows_of false facts_in FoundIn c.take-own.new.self c.send-answer.new.others) c.send-answer.result c.self.view_is c.take-own.ensures.window
    c.send-answer.ensures.window c.send-answer.ensures.sent

pub returns-clause-targets : goal.returns-clause-targets
returns-clause-targets c =
    sends_targets _ c.args.self.now c.send-answer.new.self c.args.unit c.args.parts.now false none_found (known_of c.take-own.result)
    (known_of c.send-answer.new.window) (windows_of false facts_in FoundIn c.take-own.new.self c.send-answer.new.others) c.send-answer.result c.self.view_is
    (whole_sends _ c.args.self.now c.args.unit c.self.view_is c.self.invariant c.requires.whole c.requires.there).ascending c.self.invariant.begun c.send-answer.ensures.sent

pub returns-clause-regions : goal.returns-clause-regions
returns-clause-regions c =
    regions_sent _ c.args.self.now c.send-answer.new.self c.args.unit c.args.parts.now c.take-own.new.self c.send-answer.new.others c.put.new.self
    c.take-own.result c.send-answer.new.window none_found c.send-answer.result c.self.view_is
    (whole_sends _ c.args.self.now c.args.unit c.self.view_is c.self.invariant c.requires.whole c.requires.there)
    (lending c.self.inside.windows c.args.unit c.take-own.new.self c.send-answer.new.others c.put.new.self c.take-own.result c.send-answer.new.window c.take-own.ensures.window
    c.take-own.ensures.unit c.take-own.ensures.rest c.put.ensures
    (place_lent c.args.unit c.self.inside.windows c.take-own.new.self c.send-answer.new.others c.take-own.result c.take-own.ensures.window
    c.take-own.ensures.rest
    (sent_untouched c.self.inside.switch c.send-answer.new.self c.args.unit c.args.parts.now false none_found (known_of c.take-own.result)
    (known_of c.send-answer.new.window) (windows_of false facts_in FoundIn c.take-own.new.self c.send-answer.new.others) c.send-answer.result
    c.send-answer.ensures.sent c.send-answer.ensures.failed))
    (window_free _ c.args.self.now c.args.unit c.take-own.result c.self.view_is c.self.invariant c.requires.there c.take-own.ensures.window)
    c.send-answer.ensures.window) c.send-answer.ensures.sent

pub returns-clause-marks : goal.returns-clause-marks
returns-clause-marks c =
    marks_sent _ c.args.self.now c.send-answer.new.self c.args.unit c.args.parts.now c.take-own.new.self c.send-answer.new.others c.put.new.self
    c.take-own.result c.send-answer.new.window none_found c.send-answer.result c.self.view_is
    (whole_sends _ c.args.self.now c.args.unit c.self.view_is c.self.invariant c.requires.whole c.requires.there)
    (lending c.self.inside.windows c.args.unit c.take-own.new.self c.send-answer.new.others c.put.new.self c.take-own.result c.send-answer.new.window c.take-own.ensures.window
    c.take-own.ensures.unit c.take-own.ensures.rest c.put.ensures
    (place_lent c.args.unit c.self.inside.windows c.take-own.new.self c.send-answer.new.others c.take-own.result c.take-own.ensures.window
    c.take-own.ensures.rest
    (sent_untouched c.self.inside.switch c.send-answer.new.self c.args.unit c.args.parts.now false none_found (known_of c.take-own.result)
    (known_of c.send-answer.new.window) (windows_of false facts_in FoundIn c.take-own.new.self c.send-answer.new.others) c.send-answer.result
    c.send-answer.ensures.sent c.send-answer.ensures.failed))
    (window_free _ c.args.self.now c.args.unit c.take-own.result c.self.view_is c.self.invariant c.requires.there c.take-own.ensures.window)
    c.send-answer.ensures.window) c.send-answer.ensures.window c.send-answer.ensures.sent
