-- The boot text of a seed: what its draws say.
use Rattle.std.specs.Prelude.{ℕ, zero, suc, ◌+◌, ◌*◌, ◌/◌, ◌%◌, ◌^◌, ◌++◌, List, [], codes, decimal}

-- the draw behind another
abbrev pub drawn : ℕ → ℕ
drawn x = (1103515245 * x + 12345) % 2 ^ 31

-- the last of so many draws behind x
unfoldable pub after : ℕ → ℕ → ℕ
after zero x = x
after (suc n) x = after n (drawn x)

-- what a draw says: the blocks that are written and read, their bytes, the first of them for a client, and the pattern's seed
abbrev pub blocks_in : ℕ → ℕ
blocks_in x = 1 + x / 4096 % 8

abbrev pub bytes_in : ℕ → ℕ
bytes_in x = 512 * blocks_in x

abbrev pub first_in : (client x : ℕ) → ℕ
first_in client x = 64 * client + x / 65536 % 57

abbrev pub fill : ℕ → List ℕ
fill x = codes "0 fill 65536 " ++ decimal (bytes_in x) ++ codes " " ++ decimal (x / 256 % 256) ++ codes "\n"

abbrev pub command : (word : List ℕ) → (client x : ℕ) → (address : List ℕ) → List ℕ
command word client x address =
    codes "0 " ++ word ++ codes " " ++ decimal (first_in client x) ++ codes " " ++ decimal (blocks_in x) ++ address ++ codes "\n0 take 1\n"

-- a transfer: the pattern is laid, written, and read back to another place
abbrev pub transfer : (client x : ℕ) → List ℕ
transfer client x = fill x ++ command (codes "write") client x (codes " 65536") ++ command (codes "read") client x (codes " 98304")

-- so many transfers of a client, behind the draw x
unfoldable pub transfers : (count client x : ℕ) → List ℕ
transfers zero client x = []
transfers (suc count) client x = transfer client (drawn x) ++ transfers count client (drawn x)

abbrev pub client : (number x : ℕ) → List ℕ
client number x = codes "partition\nclient 0." ++ decimal number ++ codes " pages 64 queue 1\n0 login\n" ++ transfers 64 number x ++ codes "end\n"

-- so many clients from this number on, behind the draw x
unfoldable pub clients : (count number x : ℕ) → List ℕ
clients zero number x = []
clients (suc count) number x = client number x ++ clients count (number + 1) (after 64 x)

-- the lines before the first client
abbrev pub head : List ℕ
head = codes "vio 1\nrounds 4096\ngrant 8\npartition\nserver 1\nserver 1\nserver 1\nserver 1\nserver 1\nserver 1\nserver 1\nserver 1\nend\n"

abbrev pub generated : ℕ → List ℕ
generated seed = head ++ clients 8 0 (seed % 2 ^ 31)
