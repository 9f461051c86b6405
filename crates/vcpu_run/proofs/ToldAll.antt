-- At the end of a run it is decided what counts as told: all that the pairs show, and nothing but what the trace shows.
use Rattle.std.proofs.Common.{◌≡◌, ◌∙◌, Bool, true, false, All, Contains, List, Option, Some, None, IfSome, length, option_map, slice_get, refl, sym, ap, subst}
use Rattle.vio_num.specs.declared.history.Grant.{Grant}
use Rattle.vio_num.specs.declared.history.Served.{Served}
use Rattle.vio_num.specs.declared.names.UnitId.{UnitId}
use Rattle.tce_window.specs.PlainPort.{known_of}
use Rattle.rdma_copy.specs.Copies.{side_of as side_at}
use Rattle.rdma_copy.specs.declared.copy.CopyRecord.{CopyRecord}
use Rattle.block_server.specs.Causes.{Includes, News, Told}
use Rattle.block_server.specs.Moves.{data_copies}
use Rattle.boot_text.specs.Sound.{IsClientOf, IsServer}
use Rattle.boot_text.specs.declared.plan.Partition.{Partition}
use Rattle.boot_text.specs.declared.plan.UnitPlan.TheVariants as units
use Rattle.lan_script.specs.Units.{LanValue}
use Rattle.lan_script.specs.declared.rows.LanRows.{LanRows}
use Rattle.vcpu_run.specs.declared.pair.Pair.{Pair}
use Rattle.vcpu_run.specs.declared.script.Script.{Script}
use Rattle.vcpu_run.specs.declared.unit_seat.Seat.TheVariants as sits
use Rattle.vcpu_run.specs.declared.unit_seat.UnitSeat.{UnitSeat}
use Rattle.vcpu_run.specs.Caused.{IsShownAll}
use Rattle.vcpu_run.specs.CopyRows.{copy_row, same_unit}
use Rattle.vcpu_run.specs.Gathered.{HasLawfulWindow, trace_of}
use Rattle.vcpu_run.specs.Heard.{TellsPairs, heard_at}
use Rattle.vcpu_run.specs.Machines.{ArePlanned, AreScripts, IsOfPlan}
use Rattle.vcpu_run.specs.News.{IsNth}
use Rattle.vcpu_run.specs.Pairs.{AreOfOneHome}
use Rattle.vcpu_run.specs.RowsCopied.{data_shown, shown_to}
use Rattle.vcpu_run.specs.Shown.{pages_at, window_shown}
use Rattle.vcpu_run.specs.Units.{seats_of, unit_seat}
use Rattle.vcpu_run.proofs.Copied.{windows_shown}
use Rattle.vcpu_run.proofs.DataRows.{data_are, nth_shown}
use Rattle.vcpu_run.proofs.Following.{each_from_all}
use Rattle.vcpu_run.proofs.Hearings.{hearing_decided, hearing_on}
use Rattle.vcpu_run.proofs.Listed.{held}
use Rattle.vcpu_run.proofs.Parts.{IsIn, each_in}
use Rattle.vcpu_run.proofs.RowCopies.{row_in_all}
use Rattle.vcpu_run.proofs.Seated.{IsSeated, IsSeatedAt, all_seated, planned_in}
use Rattle.vcpu_run.proofs.Sole.{same_refl}

abbrev says : {A : Type 0} → Dec A → Bool
says (yes a) = true
says (no h) = false

says_yes : {A : Type 0} (d : Dec A) → A → says d ≡ true
says_yes (yes a) b = refl
says_yes (no h) b = absurd (h b)

yes_of : {A : Type 0} (d : Dec A) → says d ≡ true → A
yes_of (yes a) is = a
yes_of (no h) is = absurd (cc (is))

-- of a pair's own unit what the pair shows, and of others whatever is told
abbrev chosen : (of : Bool) → Bool → Bool
chosen true is = is
chosen false is = true

shown_at : (copies : List CopyRecord) (pair : Pair) (news : News) → Dec (heard_at copies pair news)
shown_at copies pair news = hearing_decided copies (data_copies pair.own.unit copies) (side_at (known_of pair.own)) (side_at (known_of pair.window)) (length pair.window.pages) news

abbrev told_at : Option Pair → List CopyRecord → Told → Bool
told_at None copies told = true
told_at (Some pair) copies told = chosen (same_unit told.unit pair.own.unit) (says (shown_at copies pair told.news))

-- what counts as told
abbrev told_all : List CopyRecord → List Pair → Told → Bool
told_all copies pairs told = told_at (slice_get pairs told.unit.unit) copies told

tells_one : (copies : List CopyRecord) (pair : Pair) (found : Option Pair) → found ≡ Some pair → (news : News) → heard_at copies pair news → told_at found copies (record { unit = pair.own.unit; news = news }) ≡ true
tells_one copies pair found is news heard =
    ap (λ o. told_at o copies (record { unit = pair.own.unit; news = news })) is ∙ at (same_unit pair.own.unit pair.own.unit)
  where
    at : (of : Bool) → chosen of (says (shown_at copies pair news)) ≡ true
    at true = says_yes (shown_at copies pair news) heard
    at false = refl

told_one : (copies : List CopyRecord) (pair : Pair) (server : UnitId) (found : Option Pair) → found ≡ Some pair → pair.own.unit ≡ server → (news : News) → told_at found copies (record { unit = server; news = news }) ≡ true
    → heard_at copies pair news
told_one copies pair server found is own news told =
    yes_of (shown_at copies pair news)
    (sym (ap (λ of. chosen of (says (shown_at copies pair news))) (ap (same_unit server) own ∙ same_refl server))
    ∙ (sym (ap (λ o. told_at o copies (record { unit = server; news = news })) is) ∙ told))

tells_all : (copies : List CopyRecord) (pairs : List Pair) (partitions : List Partition) → AreOfOneHome copies pairs → ArePlanned partitions pairs → TellsPairs (told_all copies pairs) copies pairs
tells_all copies pairs partitions home planned k pair there news heard = tells_one copies pair (slice_get pairs pair.own.unit.unit) (ap (slice_get pairs) number ∙ there) news heard
  where
    number : pair.own.unit.unit ≡ k
    number = ap (λ (u : UnitId). u.unit) (home.pairs_are k pair there).own_unit ∙ (planned.each k pair there).number

-- what a pair shows, the trace shows
pair_shows : (pairs : List Pair) (scripts : List Script) (lan : LanValue) (rows : LanRows) (history : List Served) (grants : List Grant) (copies : List CopyRecord) (partitions : List Partition)
    → AreOfOneHome copies pairs → AreScripts pairs lan.seats scripts → All (HasLawfulWindow pairs lan) (seats_of scripts) → IsOfPlan partitions pairs scripts lan.seats
    → (server client : UnitId) → IsServer partitions server → IsClientOf partitions client server → (pair : Pair) → slice_get pairs server.unit ≡ Some pair → pair.server ≡ server
    → Includes (heard_at copies pair) (shown_to partitions (trace_of pairs scripts lan rows history grants copies) server client)
pair_shows pairs scripts lan rows history grants copies partitions home are windows plan server client serves drives pair there is =
    let trace = trace_of pairs scripts lan rows history grants copies in
    let seats = seats_of scripts in
    let seat : UnitSeat = unit_seat server.partition server.unit sits.Server in
    let inside : IsIn seat seats = planned_in partitions pairs scripts lan.seats server (units.Server serves.0) are plan serves.1 in
    let seat' : UnitSeat = unit_seat client.partition client.unit (sits.Client server.unit) in
    let inside' : IsIn seat' seats = planned_in partitions pairs scripts lan.seats client (units.Client server drives.0 drives.1) are plan drives.2 in
    let own : pair.own.unit ≡ server = (home.pairs_are server.unit pair there).own_unit ∙ is in
    let own_grows = windows_shown pairs scripts lan rows history grants copies partitions home are windows plan seat pair.own inside (ap (option_map (λ (pair : Pair). pair.own)) there) in
    let client_grows = windows_shown pairs scripts lan rows history grants copies partitions home are windows plan seat' pair.window inside' (ap (option_map (λ (pair : Pair). pair.window)) there) in
    let pages : length pair.window.pages ≡ pages_at partitions client =
    sym (subst (λ slot. IfSome slot (IsSeatedAt partitions client)) (ap (option_map (λ (pair : Pair). pair.window)) there)
    (each_in (IsSeated partitions pairs lan) seat' seats inside'
    (all_seated partitions pairs scripts lan copies home are plan (each_from_all (HasLawfulWindow pairs lan) seats windows)))).size in
    hearing_on (Contains copies) (λ copy. Contains trace.copies (copy_row copy)) (IsNth pair.own.unit copies) (λ number copy. slice_get (data_shown trace server) number ≡ Some (copy_row copy)) (side_at (known_of pair.own)) (window_shown partitions trace server) (side_at (known_of pair.window)) (window_shown partitions trace client)
    (length pair.window.pages) (pages_at partitions client) (λ copy mine listed. row_in_all server copies pairs server.unit pair copy there is (mine ∙ own) listed)
    (λ number copy nth. nth_shown server copies (data_shown trace server) number copy (data_are partitions copies pairs server server.unit pair plan.pairs_are there is)
    (subst (λ (unit : UnitId). IsNth unit copies number copy) own nth)) own_grows client_grows pages

pub shown_all : (pairs : List Pair) (scripts : List Script) (lan : LanValue) (rows : LanRows) (history : List Served) (grants : List Grant) (copies : List CopyRecord) (partitions : List Partition)
    → AreOfOneHome copies pairs → AreScripts pairs lan.seats scripts → All (HasLawfulWindow pairs lan) (seats_of scripts) → IsOfPlan partitions pairs scripts lan.seats
    → IsShownAll partitions (trace_of pairs scripts lan rows history grants copies) copies pairs
shown_all pairs scripts lan rows history grants copies partitions home are windows plan = record {
  told = told_all copies pairs;
  all = tells_all copies pairs partitions home plan.pairs_are;
  only = λ server client serves drives news told.
      let there = held (λ (pair : Pair). pair.server ≡ server) (slice_get pairs server.unit) (plan.pairs_are.servers server serves) in
      let own : there.0.own.unit ≡ server = (home.pairs_are server.unit there.0 there.1).own_unit ∙ there.2 in
      pair_shows pairs scripts lan rows history grants copies partitions home are windows plan server client serves drives there.0 there.1 there.2 news
      (told_one copies there.0 server (slice_get pairs server.unit) there.1 own news told);
}
