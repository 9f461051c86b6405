-- Data-in lie in the region, whatever a client does.
use Rattle.std.proofs.Common.{◌≡◌, ◌∙◌, ℕ, ◌-◌, ◌≤◌, ◌<◌, nat_lt, cond, Bool, true, false, All, List, [], ◌∷◌, ◌++◌, None, length, refl, sym, ap, subst, arith}
use Rattle.std.specs.List.{slice_index_or}
use Rattle.std.proofs.lemmas.Bool.Decides.{nat_tests}
use Rattle.std.proofs.lemmas.List.{get_or_past}
use Rattle.std.proofs.lemmas.List.Elements.{All-append, All-cons, All-get_or, All-set}
use Rattle.vio_num.specs.declared.entry.Entry.{Entry}
use Rattle.crq_session.specs.declared.answers.RegAnswer.TheVariants as reg
use Rattle.crq_session.specs.declared.answers.SendAnswer.{SendAnswer}
use Rattle.srp_iu.specs.declared.response.Rsp.{Rsp as Response}
use Rattle.vscsi_client.specs.declared.answers.Taken.{Taken}
use Rattle.vscsi_client.specs.declared.answers.Taken.TheVariants as takens
use Rattle.vscsi_client.specs.declared.found.Found.{Found}
use Rattle.vscsi_client.specs.declared.found.Found.TheVariants as found
use Rattle.vscsi_client.specs.declared.stage.Due.{Due}
use Rattle.vscsi_client.specs.Taking.{row_answered, taken_by, TakesAs}
use Rattle.vscsi_client.specs.Login.{found_by}
use Rattle.vscsi_client.specs.Turned.{Site, LoginStep, Registered, Took, TookNone, Looked, Began, Wrote, NotWritten, Put, RanOut, Runs, Steps, is_dropped, sent_by, sent_stage}
use Rattle.vscsi_client.specs.declared.op.Dir.{Dir}
use Rattle.vscsi_client.specs.declared.op.Dir.TheVariants.{Neither, In, Out}
use Rattle.vscsi_client.specs.declared.op.Op.{Op}
use Rattle.vscsi_client.specs.declared.row.Row.{Row}
use Rattle.vscsi_client.specs.declared.row.Row.TheVariants as rows
use Rattle.vscsi_client.specs.State.{ClientState}
use Rattle.vscsi_client.specs.Ports.{Ports}
use Rattle.vscsi_client.specs.Spans.{op_in_range, data_in_range, table_in_range, in_range, by_dir}
use Rattle.vscsi_client.specs.Units.{FitsOp, InDir, FitsNone, FitsData}
use Rattle.vscsi_client.specs.Sending.{Submitted, Tasked, LoggedOut}
use Rattle.vscsi_client.specs.Transferred.{FitsRow, FitRows}
use Rattle.vscsi_client.proofs.Allowing.{not_range}
use Rattle.vscsi_client.proofs.Ranges.{both_of, end_of}

row_fits : (dir : Dir) (pages at len : ℕ) (N D : Type 0) → (D → len ≤ 131072) → InDir dir N D D → by_dir dir true (in_range pages at len) ≡ true
    → FitsRow pages (rows.Command dir at len None)
row_fits Neither pages at len N D most fits inside = tt
row_fits Out pages at len N D most fits inside = tt
row_fits In pages at len N D most fits inside = let e = end_of pages at len inside in (e.1, most fits)

rows_more : (pages : ℕ) (s s' : ClientState) (row : Row) → s'.rows ≡ s.rows ++ row ∷ [] → FitsRow pages row → FitRows pages s → FitRows pages s'
rows_more pages s s' row is fits all = (all.0, subst (All (FitsRow pages)) (sym is) (All-append (FitsRow pages) s.rows (row ∷ []) all.1 (one fits)))
  where
    one : FitsRow pages row → All (FitsRow pages) (row ∷ [])
    one h = All-cons (FitsRow pages) row [] h (λ k d less. absurd (omega (arith, less)))

pub submitted_fits : (line : ℕ) (op : Op) (s s' : ClientState) (old new : Ports) (tag : ℕ) → FitsOp op → Submitted line op s s' old new tag
    → FitRows old.own.place.size s → FitRows old.own.place.size s'
submitted_fits line op s s' old new tag fits sent =
    let inside = (not_range (op_in_range old.own.place.size op) _ sent.allowed).0 in
    rows_more old.own.place.size s s' (rows.Command op.dir op.at op.len None) (ap (λ (t : ClientState). t.rows) sent.client)
    (row_fits op.dir old.own.place.size op.at op.len (FitsNone op) (FitsData op) (λ d. d.most) fits (both_of (data_in_range old.own.place.size op) (table_in_range old.own.place.size op.table op.pieces) inside).0)

pub tasked_fits : (pages line function task : ℕ) (s s' : ClientState) (old new : Ports) (tag : ℕ) → Tasked line function task s s' old new tag → FitRows pages s → FitRows pages s'
tasked_fits pages line function task s s' old new tag sent = rows_more pages s s' rows.Task (ap (λ (t : ClientState). t.rows) sent.client) tt

pub logged_out_fits : (pages line : ℕ) (s s' : ClientState) (old new : Ports) (tag : ℕ) → LoggedOut line s s' old new tag → FitRows pages s → FitRows pages s'
logged_out_fits pages line s s' old new tag sent = rows_more pages s s' rows.Logout (ap (λ (t : ClientState). t.rows) sent.client) tt

below : (x y : ℕ) → nat_lt x y ≡ true → x < y
below x y e = grind (arith, nat_tests)

past : (x y : ℕ) → nat_lt x y ≡ false → y ≤ x
past x y e = grind (arith, nat_tests)

row_at : (pages i : ℕ) (rs : List Row) → All (FitsRow pages) rs → FitsRow pages (slice_index_or rs i rows.Login)
row_at pages i rs all = at (nat_lt i (length rs)) refl
  where
    at : (b : Bool) → nat_lt i (length rs) ≡ b → FitsRow pages (slice_index_or rs i rows.Login)
    at true is = All-get_or (FitsRow pages) rs i rows.Login (below i (length rs) is) all
    at false is = subst (FitsRow pages) (sym (get_or_past rs i rows.Login (past i (length rs) is))) tt

row_answered_fits : (pages : ℕ) (response : Response) (row : Row) → FitsRow pages row → FitsRow pages (row_answered response row)
row_answered_fits pages response (rows.Command In at len said) fits = fits
row_answered_fits pages response (rows.Command Out at len said) fits = tt
row_answered_fits pages response (rows.Command Neither at len said) fits = tt
row_answered_fits pages response rows.Login fits = tt
row_answered_fits pages response rows.Logout fits = tt
row_answered_fits pages response rows.Task fits = tt

fits_by : (pages : ℕ) (entry : Entry) (taken : Taken) (s : ClientState) → FitRows pages s → FitRows pages (taken_by entry taken s)
fits_by pages entry (takens.Answer tag response) s all = (
  all.0,
  All-set (FitsRow pages) s.rows (tag - 1) (row_answered response (slice_index_or s.rows (tag - 1) rows.Login))
      (row_answered_fits pages response (slice_index_or s.rows (tag - 1) rows.Login) (row_at pages (tag - 1) s.rows all.1)) all.1,
)
fits_by pages entry takens.Lost s all = all
fits_by pages entry takens.Other s all = all
fits_by pages entry (takens.Again page word) s all = all
fits_by pages entry (takens.Stray tag) s all = all
fits_by pages entry (takens.Empty number) s all = all

fits_same : (pages : ℕ) (s s' : ClientState) → s'.rows ≡ s.rows → FitRows pages s → FitRows pages s'
fits_same pages s s' is all = (all.0, subst (All (FitsRow pages)) (sym is) all.1)

pub taken_fits : (pages : ℕ) (s s' : ClientState) (old new : Ports) (taken : Taken) → TakesAs s s' old new taken → FitRows pages s → FitRows pages s'
taken_fits pages s s' old new taken takes all =
    let j = takes.judged in
    subst (FitRows pages) (sym j.client)
    (fits_by pages j.entry taken (record takes.kept { kept = j.rest }) (fits_same pages s (record takes.kept { kept = j.rest }) (ap (λ (t : ClientState). t.rows) takes.fetched.client) all))

found_rows : (entry : Entry) (f : Found) (s : ClientState) → (found_by entry f s).rows ≡ s.rows
found_rows entry (found.Granted credits) s = refl
found_rows entry (found.Rejected reason) s = refl
found_rows entry found.Lost s = refl
found_rows entry found.Step s = refl
found_rows entry found.Answer s = refl
found_rows entry found.Nothing s = refl
found_rows entry (found.InUse page word) s = refl

put_rows : (due : Due) (others : List Due) (answer : SendAnswer) (s : ClientState) → (sent_by due others answer s).rows ≡ s.rows
put_rows due others answer s = at (is_dropped answer)
  where
    at : (b : Bool) → (cond b s (record s { due = others; login = sent_stage due s.login })).rows ≡ s.rows
    at true = refl
    at false = refl

fits_step : (pages line : ℕ) (step : LoginStep) (a b : Site) → Steps line step a b → FitRows pages a.client → FitRows pages b.client
fits_step pages line (Registered reg.Resource) a b h all = fits_same pages a.client b.client (ap (λ (t : ClientState). t.rows) h.0.registers.2) all
fits_step pages line (Registered reg.Success) a b h all = fits_same pages a.client b.client (ap (λ (t : ClientState). t.rows) h.0.registers.2) all
fits_step pages line (Registered (reg.Closed control)) a b h all = fits_same pages a.client b.client (ap (λ (t : ClientState). t.rows) h.0.registers.2) all
fits_step pages line (Registered (reg.Busy number held)) a b h all = fits_same pages a.client b.client (ap (λ (t : ClientState). t.rows) h.0.registers.1) all
fits_step pages line (Registered reg.Parameter) a b h all = absurd h.0.registers
fits_step pages line Took a b h all = fits_same pages a.client b.client (ap (λ (t : ClientState). t.rows) h.0.client) all
fits_step pages line TookNone a b h all = fits_same pages a.client b.client (ap (λ (t : ClientState). t.rows) h.0.client) all
fits_step pages line (Looked f) a b h all = fits_same pages a.client b.client (ap (λ (t : ClientState). t.rows) h.0.client ∙ found_rows h.0.entry f a.client) all
fits_step pages line Began a b h all = fits_same pages a.client b.client (ap (λ (t : ClientState). t.rows) h.0.client) all
fits_step pages line Wrote a b h all = rows_more pages a.client b.client rows.Login (ap (λ (t : ClientState). t.rows) h.1.client) tt all
fits_step pages line (NotWritten page word) a b h all = fits_same pages a.client b.client (ap (λ (t : ClientState). t.rows) h.1.client) all
fits_step pages line (Put due answer) a b h all = fits_same pages a.client b.client (ap (λ (t : ClientState). t.rows) h.0.client ∙ put_rows due h.0.others answer a.client) all
fits_step pages line RanOut a b h all = fits_same pages a.client b.client (ap (λ (t : ClientState). t.rows) h.client) all

pub turned_fits : (pages line : ℕ) (steps : List LoginStep) (a b : Site) → Runs line steps a b → FitRows pages a.client → FitRows pages b.client
turned_fits pages line [] a b runs all = subst (λ (t : Site). FitRows pages t.client) (sym runs) all
turned_fits pages line (step ∷ steps) a b runs all = fits_step pages line step runs.0 b runs.2 (turned_fits pages line steps a runs.0 runs.1 all)
