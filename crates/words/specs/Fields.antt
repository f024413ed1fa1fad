-- Bit fields of a word.
use Rattle.std.specs.Prelude.{ℕ, zero, suc, ◌+◌, ◌*◌, ◌/◌, ◌%◌, ◌^◌}

-- the field of `width` bits whose lowest is bit `at`. At a numeral it computes to w / 2^at % 2^width, and at 0 to w % 2^width
abbrev pub field : ℕ → ℕ → ℕ → ℕ
field zero width w = w % 2 ^ width
field (suc at) width w = w / 2 ^ suc at % 2 ^ width

-- a word whose uppermost field, its type, stands from bit `at` on, over what lies below
abbrev pub typed : ℕ → ℕ → ℕ → ℕ
typed at top below = top * 2 ^ at + below

-- the word with `mid` in that field, `high` above it and `low` below
abbrev pub placed : ℕ → ℕ → ℕ → ℕ → ℕ → ℕ
placed at width high mid low = high * 2 ^ (at + width) + mid * 2 ^ at + low
