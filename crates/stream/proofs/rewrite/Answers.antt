use Rattle.std.proofs.Common.{arith, rules}
use Rattle.std.proofs.lemmas.Grind.{common_steps}
use Rattle.stream.proofs.Rewrites.{rewriting_done, rewriting_on, rewriting_stopped}
use Rattle.stream.proofs.rewrite.Goals as goal

pub returns-in_err-found : goal.returns-in_err-found
returns-in_err-found c =
    let walk = c.loop-reader in
    let stop =
    rewriting_stopped c.args.words.now c.args.out.now walk.out walk.reader.at walk.count c.in_err-found.field-0.0 walk.invariant.1
    (grind (arith, common_steps)) (grind (arith, common_steps)) in
    record { answer = grind (arith, common_steps); words = stop.1; same = grind (arith, common_steps) }

pub loop-reader-preserved : goal.loop-reader-preserved
loop-reader-preserved c =
    let walk = c.loop-reader in
    let found = c.in_ok-found.found in
    let on =
    rewriting_on c.args.words.now c.args.out.now walk.out c.write_at.new.out found.words.now walk.reader.at walk.count found.packet walk.invariant.1
    (grind (arith, common_steps)) (grind (arith, common_steps)) (grind (arith, common_steps)) (grind (arith, common_steps)) in
    (search rules, rw c.in_ok-found.ensures.at on)

pub returns : goal.returns
returns c =
    let walk = c.loop-reader in
    let done = rewriting_done c.args.words.now c.args.out.now walk.out walk.reader.at walk.count walk.invariant.1 (grind (arith, common_steps)) in
    record { answer = done.0; words = done.1; same = grind (arith, common_steps) }
