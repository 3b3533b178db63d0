use Rattle.std.proofs.Common.{◌≡◌, ◌+◌, ◌-◌, ◌<◌, ◌≤◌, drop, length, take}
use Rattle.hex_text.specs.Inner.{InRange}
use Rattle.hex_text.specs.Reading.{read_on, reading}
use Rattle.hex_text.proofs.read_words.Given as goal

-- What is left, read on, gives the reading of the text, and the buffer is as it was after the words.
abbrev pub invariant-loop-at : goal.invariant-loop-at
invariant-loop-at l = record {
  reads : read_on (take l.written.count l.written.buffer.now) l.word (record { lines = l.line - 1; bytes = l.at - l.line_start }) (drop l.at l.text) ≡ reading l.text;
  rest : drop l.written.count l.written.buffer.now ≡ drop l.written.count l.initial.written.buffer.now;
  room : l.written.count + l.word.digits ≤ l.at;
  range : InRange l.word;
  line_from : 0 < l.line;
  line_to : l.line ≤ l.at + 1;
  start_to : l.line_start ≤ l.at;
  size : length l.written.buffer.now ≡ length l.initial.written.buffer.now;
  lender : l.written.buffer.ghost_name ≡ l.initial.written.buffer.ghost_name;
}
