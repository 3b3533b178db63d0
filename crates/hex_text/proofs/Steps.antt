-- The loop over a text, byte by byte, and the room in a word for one digit more.
use Rattle.std.proofs.Common.{◌≡◌, ℕ, ◌+◌, ◌^◌, ◌<◌, ◌≤◌, true, false, List, length, get_or, drop, Some, refl, ◌∙◌, arith}
use native.Mathlib.Nat.{pow-le-pow_right}
use Rattle.std.proofs.lemmas.List.{at_drop_more}
use Rattle.hex_text.specs.declared.words.Word.{Word}
use Rattle.hex_text.specs.Bytes.{white}
use Rattle.hex_text.specs.Reading.{Passed, no_word, ended, lengthened, past, read_on}

-- What fewer than eight digits can write is below 2^28.
pub below_room : (digits : ℕ) → digits < 8 → 16 ^ digits ≤ 2 ^ 28
below_room digits few = pow-le-pow_right {n = 16} (omega arith) {i = digits} {j = 7} (omega arith)

-- White space ends the word.
pub white_on : (text ws : List ℕ) (w : Word) (p : Passed) (at : ℕ) → at < length text → white (get_or text at 0) ≡ true → read_on ws w p (drop at text) ≡ read_on (ended ws w) no_word (past p (get_or text at 0)) (drop (at + 1) text)
white_on text ws w p at h e = at_drop_more (read_on ws w p) text at 0 h ∙ rw e refl

-- A digit goes onto the word.
pub digit_on : (text ws : List ℕ) (w longer : Word) (p : Passed) (at : ℕ) → at < length text → white (get_or text at 0) ≡ false → lengthened w (get_or text at 0) ≡ Some longer → read_on ws w p (drop at text) ≡ read_on ws longer (past p (get_or text at 0)) (drop (at + 1) text)
digit_on text ws w longer p at h e l = at_drop_more (read_on ws w p) text at 0 h ∙ rw (e, l) refl
