-- Words that are laid over a buffer from a place on.
use Rattle.std.proofs.Common.{◌≡◌, ℕ, ◌+◌, ◌-◌, ◌≤◌, List, ◌++◌, length, take, drop, ap, ◌∙◌, arith}
use Rattle.std.proofs.lemmas.List.{append_assoc, drop_at, drop-drop}
use Rattle.std.proofs.lemmas.Grind.{common_steps}
use Rattle.packet.specs.Writing.{laid_over}

-- A buffer that is written up to a place, and from there on is as it was.
pub record Filled (old out : List ℕ) (at : ℕ) : Type 0 where
  pub within : at ≤ length old
  pub same : drop at out ≡ drop at old
  pub long : length out ≡ length old

-- Words at that place fill it further.
pub filled_on : (old out words : List ℕ) (at : ℕ) → Filled old out at → length words ≤ length old - at
    → Filled old (take at out ++ laid_over words (drop at out)) (at + length words)
    × (take (at + length words) (take at out ++ laid_over words (drop at out)) ≡ take at out ++ words)
filled_on old out words at filled room =
    let front = take at out ++ words in
    let long : length front ≡ at + length words = grind (arith, common_steps) in
    let rest = ap (drop (length words)) filled.same ∙ drop-drop (length words) at old in (
      record {
        within = grind (arith, common_steps);
        same = rw (← append_assoc) (drop_at front _ (at + length words) long ∙ rest);
        long = grind (arith, common_steps);
      },
      grind (arith, common_steps),
    )

-- What a filled buffer holds.
pub filled_is : (old out words : List ℕ) (at : ℕ) → Filled old out at → take at out ≡ words → (length words ≡ at) × (out ≡ laid_over words old)
filled_is old out words at filled is = (grind (arith, common_steps), grind (arith, common_steps))
