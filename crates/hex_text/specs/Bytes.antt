-- The bytes of a text: white space and hexadecimal digits.
use Rattle.std.specs.Prelude.{ℕ, ◌-◌, Bool, cond, ◌&&◌, ◌||◌, Some, None, Option, ◌==◌, nat_le}

-- White space: tab, line feed, carriage return and space.
abbrev pub white : ℕ → Bool
white b = b == 9 || (b == 10 || (b == 13 || b == 32))

-- From the first of two bytes to the second.
abbrev pub among : ℕ → ℕ → ℕ → Bool
among first last b = nat_le first b && nat_le b last

-- The number that a digit stands for: 0 to 9 for 0 to 9, 10 to 15 for a to f and for A to F.
abbrev pub hex_digit : ℕ → Option ℕ
hex_digit b =
    cond (among 48 57 b) (Some (b - 48)) (cond (among 97 102 b) (Some (b - 87)) (cond (among 65 70 b) (Some (b - 55)) None))
