use Rattle.std.proofs.Common.{◌≡◌, ◌+◌, ◌-◌, get_or, sym, ◌∙◌, arith, rules}
use Rattle.std.proofs.lemmas.Grind.{common_steps}
use Rattle.hex_text.specs.Reading.{Passed, past}
use Rattle.hex_text.proofs.Steps.{white_on, digit_on}
use Rattle.hex_text.proofs.read_words.Goals as goal
use Rattle.hex_text.proofs.read_words.Goals.{then-is_white, else-is_white+in_ok-word}

pub loop-at-preserved : goal.loop-at-preserved
loop-at-preserved c = record {
  reads =
      let p : Passed = record { lines = c.loop-at.line - 1; bytes = c.loop-at.at - c.loop-at.line_start } in
      let q : Passed = record { lines = c.if-byte-eq10.line - 1; bytes = c.loop-at.at + 1 - c.if-byte-eq10.line_start } in
      let next : past p (get_or c.args.text.now c.loop-at.at 0) ≡ q = grind (arith, common_steps) in
      elim c.if-is_white.branch [
        | then-is_white w ↦ grind (arith, white_on)
        | else-is_white+in_ok-word w ↦
            let longer = sym w.lengthen.ensures.value ∙ w.in_ok-word.ensures.ok_part in
            let on = digit_on _ _ _ _ p _ c.loop-at-test.true (search rules) longer in
            rw (w.written-is, w.word-is, ← next) (sym on ∙ c.loop-at.invariant.reads)
      ];
  rest = grind (arith, common_steps);
  room = search rules;
  range = search rules;
  line_from = search rules;
  line_to = search rules;
  start_to = search rules;
  size = search rules;
  lender = search rules;
}
