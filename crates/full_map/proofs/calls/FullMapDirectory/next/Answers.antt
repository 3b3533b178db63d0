use Rattle.std.proofs.Common.{rules, None, sym, ap, ◌∙◌, arith}
use Rattle.std.proofs.lemmas.Option.{IfSome_then}
use Rattle.directory.specs.Sets.{least}
use Rattle.directory.proofs.Finding.{least_is}
use Rattle.full_map.specs.Words.{bit}
use Rattle.full_map.specs.Laws.{unserved_terminal}
use Rattle.full_map.proofs.Bits.{next_from}
use Rattle.full_map.proofs.calls.FullMapDirectory.next.Goals as goal

pub returns-then-t-self : goal.returns-then-t-self
returns-then-t-self c =
    let m = c.args.self.now in
    record { answer = sym (least_is _ c.args.t 64 None (λ u h _. unserved_terminal m.words m.terminals c.args.r u m.narrow (omega arith))) }

pub returns : goal.returns
returns c = record {
  answer = next_from c.word.result c.args.t c.then.result (omega arith) c.word.type_inv c.then.ensures.variant (IfSome_then c.then.result c.then.ensures.some (λ z p. search rules))
      ∙ ap (λ w. least (bit w) c.args.t 64) c.word.ensures.answer;
}
