-- Reading a text: its words, byte by byte, up to its end or to the first byte that no word can take.
-- A Word is what is read of a word so far: how many digits, and the number that they write.
use Rattle.std.specs.Prelude.{ℕ, ◌+◌, ◌*◌, cond, List, [], ◌∷◌, ◌++◌, length, drop, Some, None, Ok, Err, Option, Result, ◌==◌, nat_lt}
use Rattle.hex_text.specs.declared.faults.TextFault.{TextFault}
use Rattle.hex_text.specs.declared.faults.TextFault.TheVariants.{Long, Short, Stray}
use Rattle.hex_text.specs.declared.words.Word.{Word}
use Rattle.hex_text.specs.Bytes.{white, hex_digit}

-- What of a text is behind: whole lines, and bytes of the line after them.
pub record Passed : Type 0 where
  pub lines : ℕ
  pub bytes : ℕ

-- No word is being read: it has no digits.
abbrev pub no_word : Word
no_word = record { digits = 0; value = 0 }

-- A word with one digit more.
abbrev pub with_digit : Word → Option ℕ → Option Word
with_digit w (Some d) = Some (record { digits = w.digits + 1; value = w.value * 16 + d })
with_digit w None = None

-- A word takes a byte if it has fewer than eight digits and the byte is a digit.
abbrev pub lengthened : Word → ℕ → Option Word
lengthened w b = cond (nat_lt w.digits 8) (with_digit w (hex_digit b)) None

-- The words read so far, once the word that is being read ends.
abbrev pub ended : List ℕ → Word → List ℕ
ended ws w = cond (w.digits == 0) ws (ws ++ (w.value ∷ []))

-- Byte 10 ends a line.
abbrev pub past : Passed → ℕ → Passed
past p b = cond (b == 10) (record { lines = p.lines + 1; bytes = 0 }) (record { lines = p.lines; bytes = p.bytes + 1 })

-- A stray byte is named by its line and its column, both from 1.
abbrev pub stray_at : Passed → TextFault
stray_at p = Stray (p.lines + 1) (p.bytes + 1)

-- What reading a text gives: its words up to where it stopped, and what is answered.
pub record Reading : Type 0 where
  pub words : List ℕ
  pub answer : Result ℕ TextFault

-- The whole text is read.
abbrev pub complete : List ℕ → Reading
complete ws = record { words = ws; answer = Ok (length ws) }

-- A stray byte stops the reading: the words that ended before it stand, and the one that is being read is lost.
abbrev pub stopped : List ℕ → Passed → Reading
stopped ws p = record { words = ws; answer = Err (stray_at p) }

-- One reading where there is a longer word, another where there is none.
abbrev pub by_word : Option Word → (Word → Reading) → Reading → Reading
by_word (Some w) more otherwise = more w
by_word None more otherwise = otherwise

-- The rest of a text is read on, after the words so far, within a word, with some of the text behind: white space ends
-- the word, a digit goes onto it, and any other byte is stray.
abbrev pub read_on : List ℕ → Word → Passed → List ℕ → Reading
read_on ws w p [] = complete (ended ws w)
read_on ws w p (b ∷ bs) =
    cond (white b)
    (read_on (ended ws w) no_word (past p b) bs)
    (by_word (lengthened w b) (λ longer. read_on ws longer (past p b) bs) (stopped ws p))

-- A text is read from its start.
unfoldable pub reading : List ℕ → Reading
reading text = read_on [] no_word (record { lines = 0; bytes = 0 }) text

-- Words in the front of a buffer; the rest of it is as it was.
abbrev pub laid : List ℕ → List ℕ → List ℕ
laid ws buffer = ws ++ drop (length ws) buffer

-- How many bytes a text may have.
abbrev pub longest : ℕ
longest = 1048576

-- The answer for a text and a buffer: a text that is too long is refused, and then a buffer that is shorter than the text.
abbrev pub answer_to : List ℕ → List ℕ → Result ℕ TextFault
answer_to text buffer =
    cond (nat_lt longest (length text)) (Err Long) (cond (nat_lt (length buffer) (length text)) (Err Short) (reading text).answer)

-- The buffer afterwards: where the text or the buffer is refused, it is left alone.
abbrev pub buffer_after : List ℕ → List ℕ → List ℕ
buffer_after text buffer =
    cond (nat_lt longest (length text)) buffer (cond (nat_lt (length buffer) (length text)) buffer (laid (reading text).words buffer))
