-- Why what is not served has and is no holder: what the impl's proof of `sound` cites.
use Rattle.std.specs.Prelude.{◌≡◌, ℕ, ◌^◌, ◌<◌, ◌≤◌, true, false, List, slice_index}
use Rattle.std.proofs.Common.{arith}
use Rattle.std.proofs.lemmas.Bool.Decides.{nat_tests}
use Rattle.std.proofs.lemmas.Nat.Bits.{bit_at-zero, bit_at_above}
use Rattle.full_map.specs.Words.{bit, Narrow, Unused}

-- no bit of 0 is set
pub bit_none : (t : ℕ) → bit 0 t ≡ false
bit_none t = let zero = bit_at-zero t in grind (arith, nat_tests)

-- no bit above a number's digits is set
pub bit_above : (w k t : ℕ) → w < 2 ^ k → k ≤ t → bit w t ≡ false
bit_above w k t small above = let no = bit_at_above w k t small above in grind (arith, nat_tests)

-- a record that is not served has no holder
pub unserved_record : (ws : List ℕ) (rs r t : ℕ) → Unused ws rs → rs ≤ r → bit (slice_index ws r) t ≡ false
unserved_record ws rs r t unused h = let zero = bit_at-zero t in grind (arith, nat_tests, unused r)

-- a terminal that is not served is no holder
pub unserved_terminal : (ws : List ℕ) (ts r t : ℕ) → Narrow ws ts → ts ≤ t → bit (slice_index ws r) t ≡ false
unserved_terminal ws ts r t narrow h = let no = bit_at_above (slice_index ws r) ts t (narrow r) h in grind (arith, nat_tests)

-- so a holder is a served terminal, and what it holds a served record
pub served : (ws : List ℕ) (rs ts : ℕ) → Narrow ws ts → Unused ws rs → (r t : ℕ) → bit (slice_index ws r) t ≡ true → (r < rs) × (t < ts)
served ws rs ts narrow unused r t e =
    let zero = bit_at-zero t in
    let no = unserved_terminal ws ts r t narrow in
    (grind (arith, nat_tests, unused r), grind (arith, nat_tests))
