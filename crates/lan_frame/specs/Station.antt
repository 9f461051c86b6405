-- The stations of a LAN, and the head of a frame (IEEE 802.3): destination, source and type, 14 bytes.
use Rattle.std.specs.Prelude.{ℕ, ◌≡◌, ◌%◌, List, slice_index, take, replicate}
use Rattle.vio_num.specs.declared.names.Mac.{Mac}

-- the destination is bytes 0 to 5, the first on the wire first
abbrev pub destination_of : List ℕ → List ℕ
destination_of frame = take 6 frame

-- the address of a group of stations: bit 0 of its first byte
abbrev pub IsGroup : Mac → Type 0
IsGroup mac = slice_index mac.bytes 0 % 2 ≡ 1

-- the address of every station: six bytes 0xFF
abbrev pub IsBroadcast : Mac → Type 0
IsBroadcast mac = mac.bytes ≡ replicate 6 0xFF

-- the address of no station: six bytes 0
abbrev pub IsZero : Mac → Type 0
IsZero mac = mac.bytes ≡ replicate 6 0x00
