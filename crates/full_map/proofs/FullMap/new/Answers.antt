use Rattle.std.proofs.Common.{ℕ, zero, suc, ◌≡◌, eqb, slice_index, replicate, ap, ◌∙◌, arith, pow_pos, refl}
use Rattle.std.proofs.Math.Path.{fun_ext}
use Rattle.std.proofs.lemmas.Bool.Decides.{nat_tests}
use Rattle.std.proofs.lemmas.Nat.Bits.{bit_at-zero}
use Rattle.directory.specs.Directories.{empty}
use Rattle.directory.specs.Changes.{with_holders}
use Rattle.full_map.specs.Words.{bit}
use Rattle.full_map.proofs.FullMap.new.Goals as goal

-- each of some words of 0, and each past them, is 0
zeros : (n r : ℕ) → slice_index (replicate n 0) r ≡ 0
zeros zero r = refl
zeros (suc n) zero = refl
zeros (suc n) (suc r) = zeros n r

pub invariant_of-result-clause-narrow : goal.invariant_of-result-clause-narrow
invariant_of-result-clause-narrow c = λ r. rw (zeros 64 r) (pow_pos c.args.terminals)

pub invariant_of-result-clause-unused : goal.invariant_of-result-clause-unused
invariant_of-result-clause-unused c = λ r _. zeros 64 r

pub returns : goal.returns
returns c = record { made = (grind (arith, nat_tests), ap (with_holders (empty c.args.records c.args.terminals 64)) (fun_ext (λ r. fun_ext (λ t. ap (λ w. bit w t) (zeros 64 r) ∙ ap (λ d. eqb d 1) (bit_at-zero t))))) }
