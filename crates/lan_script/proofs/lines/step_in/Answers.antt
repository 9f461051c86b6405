use Rattle.std.proofs.Common.{ap, refl, rules, sym, ◌≡◌, ◌∙◌, ℕ, List, Some, None, IfOk, subst}
use Rattle.lan_script.specs.Values.{is_put}
use Rattle.lan_script.proofs.OwnPages.{puts_is, puts_none}
use Rattle.unit_region.proofs.Laws.{fill_told, just_by, just_read, just_under, none_under, peek_told, poke_told, tce_told}
use Rattle.unit_region.specs.Answers.{AnswersWrite}
use Rattle.unit_region.specs.Pattern.{pattern}
use Rattle.unit_region.specs.Marks.{LaysJust}
use Rattle.unit_region.specs.RegionLines.{written_by}
use Rattle.lan_script.proofs.lines.step_in.Goals as goal

pub returns-in-Fill-clause-puts : goal.returns-in-Fill-clause-puts
returns-in-Fill-clause-puts g c = puts_none c.args.line.now.verb c.fill.result _ _ (ap is_put c.in-Fill.is)

pub returns-in-Poke-clause-puts : goal.returns-in-Poke-clause-puts
returns-in-Poke-clause-puts g c = puts_none c.args.line.now.verb c.poke.result _ _ (ap is_put c.in-Poke.is)

pub returns-in-Peek-clause-puts : goal.returns-in-Peek-clause-puts
returns-in-Peek-clause-puts g c = puts_none c.args.line.now.verb c.peek.result _ _ (ap is_put c.in-Peek.is)

pub returns-in-Tce-clause-puts : goal.returns-in-Tce-clause-puts
returns-in-Tce-clause-puts g c =
    puts_is c.args.line.now.verb c.in-Tce.entry c.in-Tce.page c.in-Tce.readable c.in-Tce.writable c.put_tce.result _ _ c.in-Tce.is c.put_tce.ensures.answer

pub returns-in-Fill-clause-shows : goal.returns-in-Fill-clause-shows
returns-in-Fill-clause-shows g c =
    let mark : c.from-mark.result ≡ c.args.line.now.number = search rules in
    fill_told g.O.WindowPort.is_shared (g.O.WindowPort.state c.args.own.now) (g.O.WindowPort.state c.fill.new.own) c.in-Fill.at c.in-Fill.len c.in-Fill.seed
    c.args.line.now.number c.args.line.now.verb c.fill.result c.in-Fill.is
    (subst (λ n. IfOk c.fill.result (AnswersWrite g.O.WindowPort.is_shared (g.O.WindowPort.state c.args.own.now) (g.O.WindowPort.state c.fill.new.own) c.in-Fill.at
    (pattern c.in-Fill.seed c.in-Fill.len) n)) mark c.fill.ensures.answer)

pub returns-in-Poke-clause-shows : goal.returns-in-Poke-clause-shows
returns-in-Poke-clause-shows g c =
    let mark : c.from-mark.result ≡ c.args.line.now.number = search rules in
    poke_told g.O.WindowPort.is_shared (g.O.WindowPort.state c.args.own.now) (g.O.WindowPort.state c.poke.new.own) c.in-Poke.at c.in-Poke.bytes
    c.args.line.now.number c.args.line.now.verb c.poke.result c.in-Poke.is
    (subst (λ n. IfOk c.poke.result (AnswersWrite g.O.WindowPort.is_shared (g.O.WindowPort.state c.args.own.now) (g.O.WindowPort.state c.poke.new.own) c.in-Poke.at
    c.in-Poke.bytes n)) mark
    (subst (λ (bytes : List ℕ). IfOk c.poke.result (AnswersWrite g.O.WindowPort.is_shared (g.O.WindowPort.state c.args.own.now) (g.O.WindowPort.state c.poke.new.own) c.in-Poke.at bytes c.from-mark.result))
    c.as_slice.ensures c.poke.ensures.answer))

pub returns-in-Peek-clause-shows : goal.returns-in-Peek-clause-shows
returns-in-Peek-clause-shows g c =
    peek_told (g.O.WindowPort.state c.args.own.now) (g.O.WindowPort.state c.peek.new.own) c.in-Peek.at c.in-Peek.len c.args.line.now.number
    c.args.line.now.verb c.peek.result c.in-Peek.is c.peek.ensures.rest.place c.peek.ensures.answer

pub returns-in-Tce-clause-shows : goal.returns-in-Tce-clause-shows
returns-in-Tce-clause-shows g c =
    tce_told (g.O.WindowPort.state c.args.own.now) (g.O.WindowPort.state c.put_tce.new.own) c.in-Tce.entry c.in-Tce.page c.in-Tce.readable c.in-Tce.writable
    c.args.line.now.number c.args.line.now.verb c.put_tce.result c.in-Tce.is c.put_tce.ensures.answer

pub returns-in-Fill-clause-marks : goal.returns-in-Fill-clause-marks
returns-in-Fill-clause-marks g c =
    let mark : c.from-mark.result ≡ c.args.line.now.number = search rules in
    just_under g.O.WindowPort.is_shared (g.O.WindowPort.state c.args.own.now) (g.O.WindowPort.state c.fill.new.own) c.args.line.now.number
    (Some (record { at = c.in-Fill.at; bytes = pattern c.in-Fill.seed c.in-Fill.len })) c.fill.result
    (subst (λ n. LaysJust g.O.WindowPort.is_shared (g.O.WindowPort.state c.args.own.now) (g.O.WindowPort.state c.fill.new.own) n
    (Some (record { at = c.in-Fill.at; bytes = pattern c.in-Fill.seed c.in-Fill.len })) c.fill.result) mark c.fill.ensures.lays)

pub returns-in-Poke-clause-marks : goal.returns-in-Poke-clause-marks
returns-in-Poke-clause-marks g c =
    let mark : c.from-mark.result ≡ c.args.line.now.number = search rules in
    just_under g.O.WindowPort.is_shared (g.O.WindowPort.state c.args.own.now) (g.O.WindowPort.state c.poke.new.own) c.args.line.now.number
    (Some (record { at = c.in-Poke.at; bytes = c.as_slice.result.now })) c.poke.result
    (subst (λ n. LaysJust g.O.WindowPort.is_shared (g.O.WindowPort.state c.args.own.now) (g.O.WindowPort.state c.poke.new.own) n
    (Some (record { at = c.in-Poke.at; bytes = c.as_slice.result.now })) c.poke.result) mark c.poke.ensures.lays)

pub returns-in-Peek-clause-marks : goal.returns-in-Peek-clause-marks
returns-in-Peek-clause-marks g c =
    none_under g.O.WindowPort.is_shared c.args.line.now.number (g.O.WindowPort.state c.args.own.now) (g.O.WindowPort.state c.peek.new.own) c.peek.ensures.marks

pub returns-in-Tce-clause-marks : goal.returns-in-Tce-clause-marks
returns-in-Tce-clause-marks g c =
    none_under g.O.WindowPort.is_shared c.args.line.now.number (g.O.WindowPort.state c.args.own.now) (g.O.WindowPort.state c.put_tce.new.own) c.put_tce.ensures.marks

pub returns-in-Fill-clause-lays : goal.returns-in-Fill-clause-lays
returns-in-Fill-clause-lays g c =
    let mark : c.from-mark.result ≡ c.args.line.now.number = search rules in
    just_by g.O.WindowPort.is_shared (g.O.WindowPort.state c.args.own.now) (g.O.WindowPort.state c.fill.new.own) c.from-mark.result c.args.line.now.number
    (Some (record { at = c.in-Fill.at; bytes = pattern c.in-Fill.seed c.in-Fill.len })) (written_by c.args.line.now.verb) c.fill.result mark
    (sym (ap written_by c.in-Fill.is)) c.fill.ensures.lays

pub returns-in-Poke-clause-lays : goal.returns-in-Poke-clause-lays
returns-in-Poke-clause-lays g c =
    let mark : c.from-mark.result ≡ c.args.line.now.number = search rules in
    just_by g.O.WindowPort.is_shared (g.O.WindowPort.state c.args.own.now) (g.O.WindowPort.state c.poke.new.own) c.from-mark.result c.args.line.now.number
    (Some (record { at = c.in-Poke.at; bytes = c.as_slice.result.now })) (written_by c.args.line.now.verb) c.poke.result mark
    (ap (λ (bytes : List ℕ). Some (record { at = c.in-Poke.at; bytes = bytes })) c.as_slice.ensures ∙ sym (ap written_by c.in-Poke.is)) c.poke.ensures.lays

pub returns-in-Peek-clause-lays : goal.returns-in-Peek-clause-lays
returns-in-Peek-clause-lays g c =
    just_by g.O.WindowPort.is_shared (g.O.WindowPort.state c.args.own.now) (g.O.WindowPort.state c.peek.new.own) c.args.line.now.number c.args.line.now.number
    None (written_by c.args.line.now.verb) c.peek.result refl (sym (ap written_by c.in-Peek.is))
    (just_read g.O.WindowPort.is_shared (g.O.WindowPort.state c.args.own.now) (g.O.WindowPort.state c.peek.new.own) c.args.line.now.number c.peek.result c.peek.ensures.marks)

pub returns-in-Tce-clause-lays : goal.returns-in-Tce-clause-lays
returns-in-Tce-clause-lays g c =
    just_by g.O.WindowPort.is_shared (g.O.WindowPort.state c.args.own.now) (g.O.WindowPort.state c.put_tce.new.own) c.args.line.now.number c.args.line.now.number
    None (written_by c.args.line.now.verb) c.put_tce.result refl (sym (ap written_by c.in-Tce.is))
    (just_read g.O.WindowPort.is_shared (g.O.WindowPort.state c.args.own.now) (g.O.WindowPort.state c.put_tce.new.own) c.args.line.now.number c.put_tce.result c.put_tce.ensures.marks)
