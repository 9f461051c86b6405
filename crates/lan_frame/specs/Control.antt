-- The control word of H_MULTICAST_CTRL (LoPAR, "H_MULTICAST_CTRL"): its bits, and what they ask for.
use Rattle.std.specs.Prelude.{ℕ, ◌≡◌, ◌==◌, ◌+◌, Bool, Option, None, Some, not, bit_and, if◌then◌else◌}
use Rattle.lan_frame.specs.declared.control.FilterAction.{FilterAction}
use Rattle.lan_frame.specs.declared.control.FilterAction.TheVariants.{Nothing, Add, Remove, Clear}

-- bit 0x80000 says that bit 0x20000 is the new reception
abbrev pub reception_is_given : ℕ
reception_is_given = 0x80000

abbrev pub reception_bit : ℕ
reception_bit = 0x20000

-- bit 0x40000 says that bit 0x10000 is the new filtering
abbrev pub filtering_is_given : ℕ
filtering_is_given = 0x40000

abbrev pub filtering_bit : ℕ
filtering_bit = 0x10000

-- the two low bits are the action on the filter list
abbrev pub action_bits : ℕ
action_bits = 0x3

-- the bits of all these together
abbrev pub control_bits : ℕ
control_bits = reception_is_given + reception_bit + filtering_is_given + filtering_bit + action_bits

-- a control word has no bit but these
abbrev pub IsControlWord : ℕ → Type 0
IsControlWord word = bit_and word control_bits ≡ word

-- whether this bit of the word is set
abbrev pub is_set : (word bit : ℕ) → Bool
is_set word bit = not (bit_and word bit == 0)

-- the new reception and the new filtering, each where the word gives one
abbrev pub new_reception : ℕ → Option Bool
new_reception word = if is_set word reception_is_given then Some (is_set word reception_bit) else None

abbrev pub new_filtering : ℕ → Option Bool
new_filtering word = if is_set word filtering_is_given then Some (is_set word filtering_bit) else None

-- the number of the action
abbrev pub action_number : ℕ → ℕ
action_number word = bit_and word action_bits

-- the numbers of the actions; 3 is to clear the list
abbrev pub nothing : ℕ
nothing = 0

abbrev pub add : ℕ
add = 1

abbrev pub remove : ℕ
remove = 2

-- the action of a number below 4
abbrev pub action_of : ℕ → FilterAction
action_of number =
    if number == nothing then Nothing
    else if number == add then Add
    else if number == remove then Remove
    else Clear
