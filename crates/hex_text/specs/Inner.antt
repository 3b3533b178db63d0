-- What the inner functions promise besides. No public promise rests on this page.
use Rattle.std.specs.Prelude.{◌≡◌, ◌+◌, ◌^◌, ◌<◌, cond, length, take, drop, ◌==◌}
use Rattle.hex_text.specs.declared.words.Word.{Word}
use Rattle.hex_text.specs.declared.words.Written.{Written}
use Rattle.hex_text.specs.Reading.{ended}

-- A word's number is one that its digits can write.
abbrev pub InRange : Word → Type 0
InRange w = w.value < 16 ^ w.digits

-- A word ends: it comes after the words that are written, if it has a digit, and the rest of the same buffer is as it was.
pub record Ends (w : Word) (before after : Written) : Type 0 where
  pub counted : after.count ≡ cond (w.digits == 0) before.count (before.count + 1)
  pub words : take after.count after.buffer.now ≡ ended (take before.count before.buffer.now) w
  pub rest : drop after.count after.buffer.now ≡ drop after.count before.buffer.now
  pub size : length after.buffer.now ≡ length before.buffer.now
  pub lender : after.buffer.ghost_name ≡ before.buffer.ghost_name
