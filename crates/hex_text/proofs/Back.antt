-- The text of words is read as these words: digit by digit, and then word by word.
use Rattle.std.proofs.Common.{◌≡◌, ℕ, zero, suc, ◌+◌, ◌*◌, ◌/◌, ◌%◌, ◌^◌, ◌<◌, ◌≤◌, true, false, eqb, ltb, List, [], ◌∷◌, ◌++◌, Some, sym, ap, ◌∙◌, pow-suc, arith}
use Rattle.std.proofs.lemmas.List.{append_assoc, append-nil}
use Rattle.std.proofs.lemmas.Bool.Decides.{nat_tests}
use Rattle.std.specs.List.{AllByRecursion}
use Rattle.hex_text.specs.Bytes.{white, hex_digit}
use Rattle.hex_text.specs.Reading.{Passed, no_word, complete, read_on, reading}
use Rattle.hex_text.specs.Writing.{digit_byte, low_digits, text_of, TextReadsBack}

-- The byte of a digit goes onto a word of fewer than eight digits.
digit_read : (ws : List ℕ) (k v : ℕ) (p : Passed) (d : ℕ) (rest : List ℕ) → k < 8 → d < 16 → read_on ws (record { digits = k; value = v }) p (digit_byte d ∷ rest) ≡ read_on ws (record { digits = k + 1; value = v * 16 + d }) (record { lines = p.lines; bytes = p.bytes + 1 }) rest
digit_read ws k v p d rest few small =
    let dark : white (digit_byte d) ≡ false = grind (arith, nat_tests) in
    let inline : eqb (digit_byte d) 10 ≡ false = grind (arith, nat_tests) in
    let back : hex_digit (digit_byte d) ≡ Some d = grind (arith, nat_tests) in
    let room : ltb k 8 ≡ true = grind (arith, nat_tests) in
    rw (dark, room, back, inline)

-- The low digits of a number that has no others are read as a word.
digits_read : (k n : ℕ) (ws : List ℕ) (p : Passed) (rest : List ℕ) → k ≤ 8 → n < 16 ^ k → read_on ws no_word p (low_digits k n ++ rest) ≡ read_on ws (record { digits = k; value = n }) (record { lines = p.lines; bytes = p.bytes + k }) rest
digits_read zero n ws p rest few range =
    let none : n ≡ 0 = omega arith in
    let same : p.bytes + 0 ≡ p.bytes = omega arith in
    rw (none, same)
digits_read (suc k) n ws p rest few range =
    let split : low_digits (suc k) n ++ rest ≡ low_digits k (n / 16) ++ (digit_byte (n % 16) ∷ rest) = append_assoc (low_digits k (n / 16)) (digit_byte (n % 16) ∷ []) rest in
    let power = pow-suc 16 k in
    let high = digits_read k (n / 16) ws p (digit_byte (n % 16) ∷ rest) (omega arith) (omega arith) in
    let low = digit_read ws k (n / 16) (record { lines = p.lines; bytes = p.bytes + k }) (n % 16) rest (omega arith) (omega arith) in
    let value : n / 16 * 16 + n % 16 ≡ n = omega arith in
    let digits : k + 1 ≡ suc k = omega arith in
    let bytes : p.bytes + k + 1 ≡ p.bytes + suc k = omega arith in
    rw split (high ∙ low ∙ rw (value, digits, bytes))

words_read : (vs ws : List ℕ) (p : Passed) → AllByRecursion (λ w. w < 2 ^ 32) ws → read_on vs no_word p (text_of ws) ≡ complete (vs ++ ws)
words_read vs [] p small = ap complete (sym (append-nil vs))
words_read vs (w ∷ ws) p small =
    digits_read 8 w vs p (10 ∷ text_of ws) (omega arith) (omega (arith, small.0))
    ∙ words_read (vs ++ (w ∷ [])) ws _ small.1
    ∙ ap complete (append_assoc vs (w ∷ []) ws)

pub text_back : TextReadsBack
unfolding reading
text_back ws small = words_read [] ws _ small
