use Rattle.std.proofs.Common.{ap, rules, ◌≡◌, OnOk, subst, sym}
use Rattle.lan_script.proofs.Buffering.{counts_ok, is_posting, not_posting, other_ok, other_posts, same_posted, take_ok}
use Rattle.lan_script.proofs.Correlating.{carry_here, carry_ok, carry_taken}
use Rattle.lan_script.specs.OwnMac.{gives_mac}
use Rattle.lan_script.specs.Replayed.{replay_at}
use Rattle.lan_script.proofs.OwnMacs.{change_as, close_steps, closes_mac, multicasts_mac, not_giving, open_ok, replays_any, replays_ok, same_ok}
use Rattle.lan_script.proofs.EntriesPut.{puts_placed, puts_same}
use Rattle.lan_script.specs.Values.{is_put}
use Rattle.std.proofs.Common.{Ok}
use Rattle.lan_script.proofs.OwnPages.{bytes_ok, names_placed, names_same, names_still, no_bytes, no_bytes_here}
use Rattle.lan_script.proofs.RegionsGrow.{told_apart, told_ok}
use Rattle.lan_script.proofs.RegionMarks.{lays_apart}
use Rattle.lan_script.proofs.Forms.{coded_form, form_ok, take_forms}
use Rattle.lan_script.specs.LineForms.{HasForm}
use Rattle.boot_text.specs.declared.verb.Verb.{Verb}
use Rattle.hcall_table.specs.declared.hcall.Hcall.TheVariants as rows
use Rattle.lan_script.proofs.SendRanges.{is_sending, not_sending, other_range, other_ranges, send_ranges}
use Rattle.lan_script.specs.Seats.{is_in_region}
use Rattle.lan_script.specs.Regions.{LaysLine}
use Rattle.lan_script.proofs.lan.Lan.step.Goals as goal

pub returns-in-Open-clause-posts : goal.returns-in-Open-clause-posts
returns-in-Open-clause-posts c =
    other_ok c.args.unit c.args.line.now.verb c.args.done c.open_line.result c.args.self.now c.open_line.new.self (ap is_posting c.in-Open.is) c.open_line.ensures.counts

pub returns-in-Close-clause-posts : goal.returns-in-Close-clause-posts
returns-in-Close-clause-posts c =
    other_posts c.args.unit c.args.line.now.verb c.args.done c.coded.result c.args.self.now c.free.new.self (ap is_posting c.in-Close.is)
    (same_posted c.args.unit c.args.self.now c.free.new.self c.free.ensures.counts)

pub returns-in-Send-clause-posts : goal.returns-in-Send-clause-posts
returns-in-Send-clause-posts c =
    other_ok c.args.unit c.args.line.now.verb c.args.done c.send_line.result c.args.self.now c.send_line.new.self (ap is_posting c.in-Send.is) c.send_line.ensures.counts

pub returns-in-Take-clause-posts : goal.returns-in-Take-clause-posts
returns-in-Take-clause-posts c =
    take_ok c.args.unit c.args.line.now.verb c.in-Take.count c.args.done c.take_line.result c.args.self.now c.take_line.new.self c.in-Take.is
    c.take_line.ensures.within c.take_line.ensures.counts

pub returns-in-ChangeMac-clause-posts : goal.returns-in-ChangeMac-clause-posts
returns-in-ChangeMac-clause-posts c =
    other_posts c.args.unit c.args.line.now.verb c.args.done c.coded-in-ChangeMac.result c.args.self.now c.change_mac.new.self (ap is_posting c.in-ChangeMac.is)
    (same_posted c.args.unit c.args.self.now c.change_mac.new.self c.change_mac.ensures.counts)

pub returns-in-Multicast-clause-posts : goal.returns-in-Multicast-clause-posts
returns-in-Multicast-clause-posts c =
    other_posts c.args.unit c.args.line.now.verb c.args.done c.coded-in-Multicast.result c.args.self.now c.multicast.new.self (ap is_posting c.in-Multicast.is)
    (same_posted c.args.unit c.args.self.now c.multicast.new.self c.multicast.ensures.counts)

pub returns-in_default-clause-posts : goal.returns-in_default-clause-posts
returns-in_default-clause-posts c =
    other_ok c.args.unit c.args.line.now.verb c.args.done c.step_in_region.result c.args.self.now c.step_in_region.new.self
    (not_posting c.args.line.now.verb (λ at len count is. c.in_default.not-Post at len count is)) (counts_ok c.step_in_region.result c.args.self.now c.step_in_region.new.self c.step_in_region.ensures.counts)

pub returns-in-Open-clause-macs : goal.returns-in-Open-clause-macs
returns-in-Open-clause-macs c =
    open_ok c.args.unit c.args.line.now.verb c.open_line.result c.args.self.now c.open_line.new.self c.in-Open.is c.open_line.ensures.macs

pub returns-in-Close-clause-macs : goal.returns-in-Close-clause-macs
returns-in-Close-clause-macs c =
    close_steps c.args.unit c.args.line.now.verb c.coded.result c.args.self.now c.free.new.self (ap gives_mac c.in-Close.is)
    (closes_mac _ _ (replay_at c.args.self.now c.args.unit) (replay_at c.free.new.self c.args.unit) c.free.ensures.replays.says)

pub returns-in-Post-clause-macs : goal.returns-in-Post-clause-macs
returns-in-Post-clause-macs c =
    same_ok c.args.unit c.args.line.now.verb c.post_line.result c.args.self.now c.post_line.new.self
    (ap gives_mac c.in-Post.is) c.post_line.ensures.macs

pub returns-in-Send-clause-macs : goal.returns-in-Send-clause-macs
returns-in-Send-clause-macs c =
    same_ok c.args.unit c.args.line.now.verb c.send_line.result c.args.self.now c.send_line.new.self
    (ap gives_mac c.in-Send.is) c.send_line.ensures.macs

pub returns-in-Take-clause-macs : goal.returns-in-Take-clause-macs
returns-in-Take-clause-macs c =
    replays_ok c.args.unit c.args.line.now.verb c.take_line.result c.args.self.now c.take_line.new.self
    (ap gives_mac c.in-Take.is) c.take_line.ensures.replays

pub returns-in-ChangeMac-clause-macs : goal.returns-in-ChangeMac-clause-macs
returns-in-ChangeMac-clause-macs c =
    change_as c.args.unit c.args.line.now.verb c.in-ChangeMac.mac c.change_mac.result c.coded-in-ChangeMac.result c.args.self.now c.change_mac.new.self
    c.in-ChangeMac.is c.coded-in-ChangeMac.ensures.coded c.change_mac.ensures.replays

pub returns-in-Multicast-clause-macs : goal.returns-in-Multicast-clause-macs
returns-in-Multicast-clause-macs c =
    close_steps c.args.unit c.args.line.now.verb c.coded-in-Multicast.result c.args.self.now c.multicast.new.self (ap gives_mac c.in-Multicast.is)
    (multicasts_mac _ _ _ (replay_at c.args.self.now c.args.unit) (replay_at c.multicast.new.self c.args.unit) c.multicast.ensures.replays.says)

pub returns-in_default-clause-macs : goal.returns-in_default-clause-macs
returns-in_default-clause-macs c =
    replays_ok c.args.unit c.args.line.now.verb c.step_in_region.result c.args.self.now c.step_in_region.new.self
    (not_giving c.args.line.now.verb (λ is. c.in_default.not-Open is) (λ mac is. c.in_default.not-ChangeMac mac is))
    (replays_any c.step_in_region.result c.args.self.now c.step_in_region.new.self c.step_in_region.ensures.replays)

pub returns-in-Open-clause-names : goal.returns-in-Open-clause-names
returns-in-Open-clause-names c = λ other. names_still c.args.unit c.open_line.result c.args.self.now c.open_line.new.self c.open_line.ensures.places

pub returns-in-Take-clause-names : goal.returns-in-Take-clause-names
returns-in-Take-clause-names c = λ other. names_still c.args.unit c.take_line.result c.args.self.now c.take_line.new.self c.take_line.ensures.places

pub returns-in-Close-clause-names : goal.returns-in-Close-clause-names
returns-in-Close-clause-names c = λ other. names_placed c.args.unit c.args.self.now c.free.new.self c.free.ensures.places

pub returns-in-ChangeMac-clause-names : goal.returns-in-ChangeMac-clause-names
returns-in-ChangeMac-clause-names c = λ other. names_placed c.args.unit c.args.self.now c.change_mac.new.self c.change_mac.ensures.places

pub returns-in-Multicast-clause-names : goal.returns-in-Multicast-clause-names
returns-in-Multicast-clause-names c = λ other. names_placed c.args.unit c.args.self.now c.multicast.new.self c.multicast.ensures.places

pub returns-in-Post-clause-names : goal.returns-in-Post-clause-names
returns-in-Post-clause-names c = λ other. names_same c.args.unit c.post_line.result c.args.self.now c.post_line.new.self c.post_line.ensures.values

pub returns-in-Send-clause-names : goal.returns-in-Send-clause-names
returns-in-Send-clause-names c = λ other. names_same c.args.unit c.send_line.result c.args.self.now c.send_line.new.self c.send_line.ensures.values

pub returns-in-Open-clause-bytes : goal.returns-in-Open-clause-bytes
returns-in-Open-clause-bytes c = no_bytes c.args.unit c.args.line.now.verb c.open_line.result c.args.self.now c.open_line.new.self c.open_line.ensures.none

pub returns-in-Take-clause-bytes : goal.returns-in-Take-clause-bytes
returns-in-Take-clause-bytes c = no_bytes c.args.unit c.args.line.now.verb c.take_line.result c.args.self.now c.take_line.new.self c.take_line.ensures.none

pub returns-in-Post-clause-bytes : goal.returns-in-Post-clause-bytes
returns-in-Post-clause-bytes c = no_bytes c.args.unit c.args.line.now.verb c.post_line.result c.args.self.now c.post_line.new.self c.post_line.ensures.none

pub returns-in_default-clause-bytes : goal.returns-in_default-clause-bytes
returns-in_default-clause-bytes c = no_bytes c.args.unit c.args.line.now.verb c.step_in_region.result c.args.self.now c.step_in_region.new.self c.step_in_region.ensures.none

pub returns-in-Close-clause-bytes : goal.returns-in-Close-clause-bytes
returns-in-Close-clause-bytes c = no_bytes_here c.args.unit c.args.line.now.verb c.coded.result c.args.self.now c.free.new.self c.coded.ensures.none

pub returns-in-ChangeMac-clause-bytes : goal.returns-in-ChangeMac-clause-bytes
returns-in-ChangeMac-clause-bytes c = no_bytes_here c.args.unit c.args.line.now.verb c.coded-in-ChangeMac.result c.args.self.now c.change_mac.new.self c.coded-in-ChangeMac.ensures.none

pub returns-in-Multicast-clause-bytes : goal.returns-in-Multicast-clause-bytes
returns-in-Multicast-clause-bytes c = no_bytes_here c.args.unit c.args.line.now.verb c.coded-in-Multicast.result c.args.self.now c.multicast.new.self c.coded-in-Multicast.ensures.none

pub returns-in-Send-clause-bytes : goal.returns-in-Send-clause-bytes
returns-in-Send-clause-bytes c = bytes_ok c.args.unit c.args.line.now.verb _ c.send_line.result c.args.self.now c.send_line.new.self c.in-Send.is c.send_line.ensures.bytes

pub returns-in-Open-clause-puts : goal.returns-in-Open-clause-puts
returns-in-Open-clause-puts c =
    puts_placed c.args.unit c.args.line.now.verb c.open_line.result c.args.self.now c.open_line.new.self (ap is_put c.in-Open.is) c.open_line.ensures.places

pub returns-in-Take-clause-puts : goal.returns-in-Take-clause-puts
returns-in-Take-clause-puts c =
    puts_placed c.args.unit c.args.line.now.verb c.take_line.result c.args.self.now c.take_line.new.self (ap is_put c.in-Take.is) c.take_line.ensures.places

pub returns-in-Post-clause-puts : goal.returns-in-Post-clause-puts
returns-in-Post-clause-puts c =
    puts_same c.args.unit c.args.line.now.verb c.post_line.result c.args.self.now c.post_line.new.self (ap is_put c.in-Post.is) c.post_line.ensures.values

pub returns-in-Send-clause-puts : goal.returns-in-Send-clause-puts
returns-in-Send-clause-puts c =
    puts_same c.args.unit c.args.line.now.verb c.send_line.result c.args.self.now c.send_line.new.self (ap is_put c.in-Send.is) c.send_line.ensures.values

pub returns-in-Close-clause-puts : goal.returns-in-Close-clause-puts
returns-in-Close-clause-puts c =
    puts_placed c.args.unit c.args.line.now.verb (Ok c.coded.result) c.args.self.now c.free.new.self (ap is_put c.in-Close.is) c.free.ensures.places

pub returns-in-ChangeMac-clause-puts : goal.returns-in-ChangeMac-clause-puts
returns-in-ChangeMac-clause-puts c =
    puts_placed c.args.unit c.args.line.now.verb (Ok c.coded-in-ChangeMac.result) c.args.self.now c.change_mac.new.self (ap is_put c.in-ChangeMac.is) c.change_mac.ensures.places

pub returns-in-Multicast-clause-puts : goal.returns-in-Multicast-clause-puts
returns-in-Multicast-clause-puts c =
    puts_placed c.args.unit c.args.line.now.verb (Ok c.coded-in-Multicast.result) c.args.self.now c.multicast.new.self (ap is_put c.in-Multicast.is) c.multicast.ensures.places

pub returns-in-Open-clause-addresses : goal.returns-in-Open-clause-addresses
returns-in-Open-clause-addresses c = carry_ok c.args.unit c.open_line.result c.args.self.now c.open_line.new.self c.open_line.ensures.counts

pub returns-in-Send-clause-addresses : goal.returns-in-Send-clause-addresses
returns-in-Send-clause-addresses c = carry_ok c.args.unit c.send_line.result c.args.self.now c.send_line.new.self c.send_line.ensures.counts

pub returns-in-Take-clause-addresses : goal.returns-in-Take-clause-addresses
returns-in-Take-clause-addresses c = carry_taken c.args.unit c.in-Take.count c.args.done c.take_line.result c.args.self.now c.take_line.new.self c.take_line.ensures.within c.take_line.ensures.counts

pub returns-in-Close-clause-addresses : goal.returns-in-Close-clause-addresses
returns-in-Close-clause-addresses c = carry_here c.args.unit c.args.self.now c.free.new.self c.free.ensures.counts

pub returns-in-ChangeMac-clause-addresses : goal.returns-in-ChangeMac-clause-addresses
returns-in-ChangeMac-clause-addresses c = carry_here c.args.unit c.args.self.now c.change_mac.new.self c.change_mac.ensures.counts

pub returns-in-Multicast-clause-addresses : goal.returns-in-Multicast-clause-addresses
returns-in-Multicast-clause-addresses c = carry_here c.args.unit c.args.self.now c.multicast.new.self c.multicast.ensures.counts

pub returns-in_default-clause-addresses : goal.returns-in_default-clause-addresses
returns-in_default-clause-addresses c = carry_ok c.args.unit c.step_in_region.result c.args.self.now c.step_in_region.new.self
    (counts_ok c.step_in_region.result c.args.self.now c.step_in_region.new.self c.step_in_region.ensures.counts)

pub returns-in-Open-clause-shows : goal.returns-in-Open-clause-shows
returns-in-Open-clause-shows c =
    told_ok c.args.unit c.args.line.now.number c.args.line.now.verb c.open_line.result c.open_line.new.self (ap is_in_region c.in-Open.is)

pub returns-in-Post-clause-shows : goal.returns-in-Post-clause-shows
returns-in-Post-clause-shows c =
    told_ok c.args.unit c.args.line.now.number c.args.line.now.verb c.post_line.result c.post_line.new.self (ap is_in_region c.in-Post.is)

pub returns-in-Send-clause-shows : goal.returns-in-Send-clause-shows
returns-in-Send-clause-shows c =
    told_ok c.args.unit c.args.line.now.number c.args.line.now.verb c.send_line.result c.send_line.new.self (ap is_in_region c.in-Send.is)

pub returns-in-Take-clause-shows : goal.returns-in-Take-clause-shows
returns-in-Take-clause-shows c =
    told_ok c.args.unit c.args.line.now.number c.args.line.now.verb c.take_line.result c.take_line.new.self (ap is_in_region c.in-Take.is)

pub returns-in-Close-clause-shows : goal.returns-in-Close-clause-shows
returns-in-Close-clause-shows c =
    told_apart c.args.unit c.args.line.now.number c.args.line.now.verb c.coded.result c.free.new.self (ap is_in_region c.in-Close.is)

pub returns-in-ChangeMac-clause-shows : goal.returns-in-ChangeMac-clause-shows
returns-in-ChangeMac-clause-shows c =
    told_apart c.args.unit c.args.line.now.number c.args.line.now.verb c.coded-in-ChangeMac.result c.change_mac.new.self (ap is_in_region c.in-ChangeMac.is)

pub returns-in-Multicast-clause-shows : goal.returns-in-Multicast-clause-shows
returns-in-Multicast-clause-shows c =
    told_apart c.args.unit c.args.line.now.number c.args.line.now.verb c.coded-in-Multicast.result c.multicast.new.self (ap is_in_region c.in-Multicast.is)

pub returns-in-Post-clause-marks : goal.returns-in-Post-clause-marks
returns-in-Post-clause-marks c =
    let mark : c.from-mark.result ≡ c.args.line.now.number = search rules in
    subst (λ n. OnOk c.post_line.result (LaysLine c.args.unit n c.args.self.now c.post_line.new.self)) mark c.post_line.ensures.marks

pub returns-in-Send-clause-marks : goal.returns-in-Send-clause-marks
returns-in-Send-clause-marks c =
    let mark : c.from-mark.result ≡ c.args.line.now.number = search rules in
    subst (λ n. OnOk c.send_line.result (LaysLine c.args.unit n c.args.self.now c.send_line.new.self)) mark c.send_line.ensures.marks

pub returns-in-Open-clause-lays : goal.returns-in-Open-clause-lays
returns-in-Open-clause-lays c = lays_apart c.args.line.now.verb _ (ap is_in_region c.in-Open.is)

pub returns-in-Close-clause-lays : goal.returns-in-Close-clause-lays
returns-in-Close-clause-lays c = lays_apart c.args.line.now.verb _ (ap is_in_region c.in-Close.is)

pub returns-in-Post-clause-lays : goal.returns-in-Post-clause-lays
returns-in-Post-clause-lays c = lays_apart c.args.line.now.verb _ (ap is_in_region c.in-Post.is)

pub returns-in-Send-clause-lays : goal.returns-in-Send-clause-lays
returns-in-Send-clause-lays c = lays_apart c.args.line.now.verb _ (ap is_in_region c.in-Send.is)

pub returns-in-Take-clause-lays : goal.returns-in-Take-clause-lays
returns-in-Take-clause-lays c = lays_apart c.args.line.now.verb _ (ap is_in_region c.in-Take.is)

pub returns-in-ChangeMac-clause-lays : goal.returns-in-ChangeMac-clause-lays
returns-in-ChangeMac-clause-lays c = lays_apart c.args.line.now.verb _ (ap is_in_region c.in-ChangeMac.is)

pub returns-in-Multicast-clause-lays : goal.returns-in-Multicast-clause-lays
returns-in-Multicast-clause-lays c = lays_apart c.args.line.now.verb _ (ap is_in_region c.in-Multicast.is)

pub returns-in-Open-clause-ranges : goal.returns-in-Open-clause-ranges
returns-in-Open-clause-ranges c = other_ranges c.args.unit c.args.line.now.verb c.open_line.result c.args.self.now.seats (ap is_sending c.in-Open.is)

pub returns-in-Post-clause-ranges : goal.returns-in-Post-clause-ranges
returns-in-Post-clause-ranges c = other_ranges c.args.unit c.args.line.now.verb c.post_line.result c.args.self.now.seats (ap is_sending c.in-Post.is)

pub returns-in-Take-clause-ranges : goal.returns-in-Take-clause-ranges
returns-in-Take-clause-ranges c = other_ranges c.args.unit c.args.line.now.verb c.take_line.result c.args.self.now.seats (ap is_sending c.in-Take.is)

pub returns-in-Close-clause-ranges : goal.returns-in-Close-clause-ranges
returns-in-Close-clause-ranges c = other_range c.args.unit c.args.line.now.verb c.coded.result c.args.self.now.seats (ap is_sending c.in-Close.is)

pub returns-in-ChangeMac-clause-ranges : goal.returns-in-ChangeMac-clause-ranges
returns-in-ChangeMac-clause-ranges c = other_range c.args.unit c.args.line.now.verb c.coded-in-ChangeMac.result c.args.self.now.seats (ap is_sending c.in-ChangeMac.is)

pub returns-in-Multicast-clause-ranges : goal.returns-in-Multicast-clause-ranges
returns-in-Multicast-clause-ranges c = other_range c.args.unit c.args.line.now.verb c.coded-in-Multicast.result c.args.self.now.seats (ap is_sending c.in-Multicast.is)

pub returns-in-Send-clause-ranges : goal.returns-in-Send-clause-ranges
returns-in-Send-clause-ranges c = send_ranges c.args.unit c.args.line.now.verb _ c.send_line.result c.args.self.now.seats c.in-Send.is c.send_line.ensures.ranges

pub returns-in_default-clause-ranges : goal.returns-in_default-clause-ranges
returns-in_default-clause-ranges c =
    other_ranges c.args.unit c.args.line.now.verb c.step_in_region.result c.args.self.now.seats
    (not_sending c.args.line.now.verb (λ to len seed at is. c.in_default.not-Send to len seed at is))

pub returns-in-Open-clause-forms : goal.returns-in-Open-clause-forms
returns-in-Open-clause-forms c = form_ok c.args.line.now.verb _ c.open_line.result c.in-Open.is c.open_line.ensures.form

pub returns-in-Post-clause-forms : goal.returns-in-Post-clause-forms
returns-in-Post-clause-forms c = form_ok c.args.line.now.verb _ c.post_line.result c.in-Post.is c.post_line.ensures.form

pub returns-in-Send-clause-forms : goal.returns-in-Send-clause-forms
returns-in-Send-clause-forms c = form_ok c.args.line.now.verb _ c.send_line.result c.in-Send.is c.send_line.ensures.form

pub returns-in-Close-clause-forms : goal.returns-in-Close-clause-forms
returns-in-Close-clause-forms c =
    coded_form c.args.line.now.verb rows.FreeLogicalLan c.free.result c.coded.result (λ o is. subst (λ (v : Verb). HasForm v o) (sym c.in-Close.is) is) c.free.ensures.code
    c.coded.ensures.form

pub returns-in-ChangeMac-clause-forms : goal.returns-in-ChangeMac-clause-forms
returns-in-ChangeMac-clause-forms c =
    coded_form c.args.line.now.verb rows.ChangeLogicalLanMac c.change_mac.result c.coded-in-ChangeMac.result (λ o is. subst (λ (v : Verb). HasForm v o) (sym c.in-ChangeMac.is) is) c.change_mac.ensures.code
    c.coded-in-ChangeMac.ensures.form

pub returns-in-Multicast-clause-forms : goal.returns-in-Multicast-clause-forms
returns-in-Multicast-clause-forms c =
    coded_form c.args.line.now.verb rows.MulticastCtrl c.multicast.result c.coded-in-Multicast.result (λ o is. subst (λ (v : Verb). HasForm v o) (sym c.in-Multicast.is) is) c.multicast.ensures.code
    c.coded-in-Multicast.ensures.form

pub returns-in-Take-clause-forms : goal.returns-in-Take-clause-forms
returns-in-Take-clause-forms c = take_forms c.args.line.now.verb c.in-Take.count c.args.done c.take_line.result c.in-Take.is c.take_line.ensures.within
