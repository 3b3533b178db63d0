use Rattle.std.proofs.Common.{ap, ◌∙◌}
use Rattle.network.specs.Traffic.{after_put, put_answer}
use Rattle.network_client.proofs.Pairs.{puts_apart}
use Rattle.network_client.proofs.put_both.Goals as goal

pub returns-clause-apart : goal.returns-clause-apart
returns-clause-apart g c =
    puts_apart _ _ c.args.first c.args.x c.args.second c.args.y (c.put.result, c.put-2.result) c.put.ensures.answer
    (c.put-2.ensures.answer ∙ ap (λ t. put_answer t c.args.second c.args.y) c.put.ensures.after)
    (c.put-2.ensures.after ∙ ap (λ t. after_put t c.args.second c.args.y) c.put.ensures.after)
