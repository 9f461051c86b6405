use Rattle.lan_script.specs.Replayed.{replay_at}
use Rattle.lan_script.proofs.CalledMacs.{called_change, called_entry, called_none, called_register}
use Rattle.lan_script.proofs.EntriesPut.{entry_is}
use Rattle.lan_script.proofs.OwnMacs.{closes_mac, multicasts_mac}
use Rattle.lan_script.proofs.lan.Lan.call.Goals as goal

pub returns-in-Entry-clause-macs : goal.returns-in-Entry-clause-macs
returns-in-Entry-clause-macs c = called_entry c.args.unit c.args.call c.entry_call.result c.args.self.now c.entry_call.new.self c.entry_call.ensures.replays

pub returns-in_ok-code-in-Register-clause-macs : goal.returns-in_ok-code-in-Register-clause-macs
returns-in_ok-code-in-Register-clause-macs c =
    called_register c.args.unit c.args.call c.in-Register.list c.in-Register.queue c.in-Register.filters c.in-Register.mac c.mac_of.result c.in_ok-code-in-Register.code
    c.bare.result c.args.self.now c.register.new.self c.in-Register.is c.mac_of.ensures c.bare.ensures c.in_ok-code-in-Register.ensures.macs

pub returns-in-Free-clause-macs : goal.returns-in-Free-clause-macs
returns-in-Free-clause-macs c =
    called_none c.args.unit c.args.call c.bare-in-Free.result.code c.args.self.now c.free.new.self
    (closes_mac _ _ (replay_at c.args.self.now c.args.unit) (replay_at c.free.new.self c.args.unit) c.free.ensures.replays.says)

pub returns-in-ChangeMac-clause-macs : goal.returns-in-ChangeMac-clause-macs
returns-in-ChangeMac-clause-macs c =
    called_change c.args.unit c.args.call c.in-ChangeMac.mac c.mac_of-in-ChangeMac.result c.change_mac.result c.bare-in-ChangeMac.result
    c.args.self.now c.change_mac.new.self c.in-ChangeMac.is c.mac_of-in-ChangeMac.ensures c.bare-in-ChangeMac.ensures c.change_mac.ensures.replays

pub returns-in-Multicast-clause-macs : goal.returns-in-Multicast-clause-macs
returns-in-Multicast-clause-macs c =
    called_none c.args.unit c.args.call c.bare-in-Multicast.result.code c.args.self.now c.multicast.new.self
    (multicasts_mac _ _ _ (replay_at c.args.self.now c.args.unit) (replay_at c.multicast.new.self c.args.unit) c.multicast.ensures.replays.says)

pub returns-in-Entry-clause-entry : goal.returns-in-Entry-clause-entry
returns-in-Entry-clause-entry c =
    entry_is c.args.unit c.args.call c.in-Entry.call c.args.self.now c.entry_call.new.self c.entry_call.result c.in-Entry.is c.entry_call.ensures.entry
