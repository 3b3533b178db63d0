-- Words written as a text, and the law that such a text is read as just these words.
use Rattle.std.specs.Prelude.{◌≡◌, ℕ, zero, suc, ◌+◌, ◌/◌, ◌%◌, ◌^◌, ◌<◌, cond, List, [], ◌∷◌, ◌++◌, nat_lt}
use Rattle.std.specs.List.{AllByRecursion}
use Rattle.hex_text.specs.Reading.{complete, reading}

-- The byte of a digit: 0 to 9, then a to f.
abbrev pub digit_byte : ℕ → ℕ
digit_byte d = cond (nat_lt d 10) (48 + d) (87 + d)

-- The lowest digits of a number, as many as are asked for, the highest of them first.
abbrev pub low_digits : ℕ → ℕ → List ℕ
low_digits zero n = []
low_digits (suc k) n = low_digits k (n / 16) ++ (digit_byte (n % 16) ∷ [])

-- Each word is written on a line of its own, as eight digits and byte 10.
abbrev pub text_of : List ℕ → List ℕ
text_of [] = []
text_of (w ∷ ws) = low_digits 8 w ++ (10 ∷ text_of ws)

-- The text of any words below 2^32 is read to its end, as exactly these words.
abbrev pub TextReadsBack : Type 0
TextReadsBack = (ws : List ℕ) → AllByRecursion (λ w. w < 2 ^ 32) ws → reading (text_of ws) ≡ complete ws
