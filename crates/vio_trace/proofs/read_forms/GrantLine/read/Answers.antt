use Rattle.vio_num.specs.declared.history.Grant.TheVariants as grants
use Rattle.vio_trace.proofs.Parted.{nothing}
use Rattle.vio_trace.proofs.read_forms.GrantLine.read.Goals as goal

pub returns-in_default-2 : goal.returns-in_default-2
returns-in_default-2 c (grants.Granted u s l n k) h e =
    (nothing _ _ _ _ c.in_default.is c.in_ok-fields.ensures)
    (record { word = u; rest = record { word = s; rest = record { word = l; rest = record { word = n; rest = record { word = k } } } } })
    (h.name_of, (h.in_session, (h.at_login, (h.at_number, h.limit)))) e
returns-in_default-2 c (grants.Lapsed u s l why o g) h e =
    (nothing _ _ _ _ c.in_default-2.is c.in_ok-fields-2.ensures)
    (record { word = u; rest = record { word = s; rest = record { word = l; rest = record { word = why; rest = record { word = o; rest = record { word = g } } } } } })
    (h.name_of, (h.in_session, (h.of_login, (tt, (h.then_outstanding, h.then_granted))))) e
