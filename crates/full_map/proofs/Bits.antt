-- What shifts, masks and counts say of the bits of a word.
use Rattle.std.specs.Prelude.{◌≡◌, ◌≢◌, ℕ, zero, suc, ◌+◌, ◌-◌, ◌*◌, ◌/◌, ◌%◌, ◌^◌, ◌<◌, ◌≤◌, Bool, cond, ◌||◌, Some, None, Option, IfSome, is_some, not, ◌==◌, ◌&&◌, false, nat_le, bit_and, bit_or, count_ones}
use Rattle.std.proofs.Common.{sym, ◌∙◌, ap, ap₂, ⊎_elim, arith}
use Rattle.std.proofs.Math.Path.{fun_ext}
use Rattle.std.proofs.Math.Pow.{pow-lt}
use Rattle.std.specs.Int.{w64, bit_at, trailing_zeros}
use Rattle.std.specs.Int.Bits.{and_le_l}
use Rattle.std.specs.Int.Count.{ones_step}
use Rattle.std.proofs.lemmas.Nat.{ones-le, or_lt, one_shl}
use Rattle.std.proofs.lemmas.Nat.Bits.{bit_at_lowest, bit_at-suc, bit_at-lt, bit_at_and, bit_at-zero, bit_at_set_same, bit_at_set_other, bit_at_above, bit_at_mask_inside, bit_at_mask_below, bit_at-trailing_zeros, ones_shl}
use Rattle.std.proofs.lemmas.Bool.{cases_eq}
use Rattle.std.proofs.lemmas.Bool.Decides.{nat_tests}
use Rattle.directory.specs.Sets.{tally, least}
use Rattle.directory.proofs.Finding.{least_is}
use Rattle.full_map.specs.Words.{bit}

-- `w | 1 << t`: bit t is set, and the others stay
pub bit_set : (w t u : ℕ) → t < 64 → bit (bit_or w (1 * 2 ^ t % 2 ^ 64)) u ≡ (u == t || bit w u)
bit_set w t u h =
    ⊎_elim (λ (e : u ≡ t). let a = bit_at_set_same w64 w t h in grind (arith, nat_tests))
    (λ (ne : u ≢ t). let a = bit_at_set_other w64 w t h u ne in grind (arith, nat_tests)) (cases_eq u t)

pub set_lt : (w ts t : ℕ) → w < 2 ^ ts → ts ≤ 64 → t < ts → bit_or w (1 * 2 ^ t % 2 ^ 64) < 2 ^ ts
set_lt w ts t h l k = or_lt ts w _ h (rw (one_shl t 64 (omega arith)) (pow-lt k))

-- `count_ones` counts the places that are set
pub ones_tally : (k w : ℕ) → w < 2 ^ k → count_ones w ≡ tally (bit w) k
unfolding tally
ones_tally zero w h = omega (arith, ones-le 0 w h)
ones_tally (suc k) w h =
    ones_step w
    ∙ ap₂ ◌+◌ lowest (ones_tally k (w / 2) (omega arith) ∙ ap (λ (p : ℕ → Bool). tally p k) (fun_ext (λ i. ap (λ (d : ℕ). d == 1) (sym (bit_at-suc w i))))) where
      lowest : w % 2 ≡ cond (bit w 0) 1 0
      lowest = let a = bit_at_lowest w in let b = bit_at-lt w 0 in grind (arith, nat_tests)

-- `u64::MAX << t`
abbrev pub from : ℕ → ℕ
from t = (2 ^ 64 - 1) * 2 ^ t % 2 ^ 64

-- the bits below t go, and the others stay
pub masked : (w t u : ℕ) → t < 64 → w < 2 ^ 64 → bit (bit_and w (from t)) u ≡ (nat_le t u && bit w u)
masked w t u h l =
    let e = ap (λ (m : ℕ). bit_at (bit_and w m) u) (ones_shl 64 t (omega arith)) ∙ bit_at_and w (2 ^ 64 - 2 ^ t) u in
    let digit = bit_at-lt w u in
    let below = bit_at_mask_below t 64 u in
    let inside = bit_at_mask_inside t 64 u in
    let above = bit_at_above w 64 u l in
    grind (arith, nat_tests)

-- the lowest bit that is left is the least at or above t
pub next_from : (w t : ℕ) (o : Option ℕ) → t < 64 → w < 2 ^ 64 → is_some o ≡ not (bit_and w (from t) == 0)
    → IfSome o (λ z. z ≡ trailing_zeros w64 (bit_and w (from t))) → o ≡ least (bit w) t 64
next_from w t None h l e f =
    let none : bit_and w (from t) ≡ 0 = grind (arith, nat_tests) in
    sym (least_is (bit w) t 64 None (λ u k _.
    let clear : bit (bit_and w (from t)) u ≡ false = ap (λ (m : ℕ). bit m u) none ∙ ap (λ (d : ℕ). d == 1) (bit_at-zero u) in
    let same = masked w t u h l in
    grind (arith, nat_tests)))
next_from w t (Some x) h l e f =
    let some : 0 < bit_and w (from t) = grind (arith, nat_tests) in
    let set = bit_at-trailing_zeros w64 (bit_and w (from t)) some (omega (arith, and_le_l w (from t))) in
    let at = masked w t x h l in
    sym (least_is (bit w) t 64 (Some x) (grind (arith, nat_tests), omega arith, grind (arith, nat_tests), λ u k i. let same = masked w t u h l in let clear = set.2 u in grind (arith, nat_tests)))
