-- Entries of a command/response queue (LoPAR, "Command/Response Queue Entries"): their bytes, and what
-- the first byte says.
use Rattle.std.specs.Prelude.{ℕ, ◌+◌, ◌++◌, ◌==◌, ◌&&◌, Bool, List, slice_index, drop, if◌then◌else◌}
use Rattle.byteorder.specs.Endian.{big_number, big_bytes}
use Rattle.vio_num.specs.declared.entry.Entry.{Entry}
use Rattle.vio_num.specs.declared.entry.Kind.{Kind}
use Rattle.vio_num.specs.declared.entry.Kind.TheVariants.{Unused, Command, Init, Event, Reserved}

-- the sixteen bytes of an entry, the most significant first
abbrev pub entry_bytes : Entry → List ℕ
entry_bytes e = big_bytes 8 e.high ++ big_bytes 8 e.low

-- what an entry is, by its first byte
abbrev pub kind_of : ℕ → Kind
kind_of first =
    if first == 0x00 then Unused
    else if first == 0x80 then Command
    else if first == 0xC0 then Init
    else if first == 0xFF then Event
    else Reserved

-- the fields of an entry: byte 0, the format in byte 1, the status in byte 3
abbrev pub first_byte : Entry → ℕ
first_byte e = slice_index (entry_bytes e) 0

abbrev pub entry_format : Entry → ℕ
entry_format e = slice_index (entry_bytes e) 1

abbrev pub entry_status : Entry → ℕ
entry_status e = slice_index (entry_bytes e) 3

-- the length of the information unit in bytes 6 to 7, and its address in bytes 8 to 15
abbrev pub iu_length : Entry → ℕ
iu_length e = big_number 2 (drop 6 (entry_bytes e))

abbrev pub iu_address : Entry → ℕ
iu_address e = big_number 8 (drop 8 (entry_bytes e))

-- whether an entry carries an SRP information unit: a command or response of format 1
abbrev pub is_srp_entry : Entry → Bool
is_srp_entry e = first_byte e == 0x80 && entry_format e == 0x01

-- whether it carries one of n bytes
abbrev pub is_srp_of_length : ℕ → Entry → Bool
is_srp_of_length n e = is_srp_entry e && iu_length e == n

-- the entry of an SRP information unit of this length, with its address or the tag that it answers
abbrev pub srp_entry : ℕ → ℕ → Entry
srp_entry length low = record { high = 0x8001_0000_0000_0000 + length; low = low }

-- the initialisation command and response (LoPAR, "CRQ Initialization")
abbrev pub initialize : Entry
initialize = record { high = 0xC001_0000_0000_0000; low = 0 }

abbrev pub initialization_complete : Entry
initialization_complete = record { high = 0xC002_0000_0000_0000; low = 0 }

-- the transport events (LoPAR, "Transport Events"): the partner failed, or freed its queue
abbrev pub partner_failed : Entry
partner_failed = record { high = 0xFF01_0000_0000_0000; low = 0 }

abbrev pub partner_freed : Entry
partner_freed = record { high = 0xFF02_0000_0000_0000; low = 0 }
