use Rattle.std.proofs.Common.{rules, ◌++◌, codes, refl}
use Rattle.vio_trace.specs.declared.fields.Then.{Then}
use Rattle.vio_trace.proofs.Parted.{none_without, word_refused, rest_refused}
use Rattle.vio_trace.proofs.fields.ThenFields.read.Goals as goal

pub returns-in_default : goal.returns-in_default
returns-in_default g c value fits e =
    none_without 32 g.A.Word.word g.B.Fields.line (λ a b. g.A.Word.fits a) c.args.text.now (search rules) value.word value.rest e

pub returns-in_err-word : goal.returns-in_err-word
returns-in_err-word g c =
    let fact = word_refused 32 g.A.Word.word g.A.Word.fits (λ (fields : Then g.row.A.Denot g.row.B.Denot). g.A.Word.word fields.word ++ codes " " ++ g.B.Fields.line fields.rest)
    (λ fields. g.A.Word.fits fields.word × g.B.Fields.fits fields.rest) (λ fields. fields.word) (λ fields. g.B.Fields.line fields.rest)
    (λ fields h. h.0) (λ fields. refl) c.in_err-word.ensures.plain
    c.in-Some.word.now c.in-Some.rest.now c.args.text.now (search rules) (search rules) c.in_err-word.field-0.0 (search rules) in
    search (rules, fact)

pub returns-in_err-rest : goal.returns-in_err-rest
returns-in_err-rest g c =
    let fact = rest_refused 32 g.A.Word.word g.A.Word.fits g.B.Fields.line g.B.Fields.fits
    (λ (fields : Then g.row.A.Denot g.row.B.Denot). g.A.Word.word fields.word ++ codes " " ++ g.B.Fields.line fields.rest)
    (λ fields. g.A.Word.fits fields.word × g.B.Fields.fits fields.rest) (λ fields. fields.word) (λ fields. fields.rest)
    (λ fields h. h) (λ fields. refl) c.in_ok-word.ensures.plain
    c.in-Some.word.now c.in-Some.rest.now c.args.text.now (search rules) (search rules) c.in_err-rest.field-0.0 (search rules) in
    search (rules, fact)
