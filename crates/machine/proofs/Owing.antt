-- Who owes in a transaction: where the value is owed, one acknowledgement is, and nobody else owes. The last acknowledgement
-- and the exclusion of other copies rest on this.
use Rattle.std.proofs.Common.{◌≡◌, ℕ, suc, ◌<◌, Bool, true, false, sym, refl, ◌∙◌, inl, inr, arith}
use Rattle.machine.specs.Machine.{Access, Cell, Transaction, home, count, besides}
use Rattle.machine.specs.Invariant.{owing, has_value, Settled, RecordInvariant}
use Rattle.machine.proofs.Counts.{same_refl, same_no, same_tells, count_drop, count_zero, clash}

module _ {V : Type 0} where
  module _
      (n : ℕ) (last v : V) (a : ℕ) (k : Access) (holders : ℕ → Bool) (cells : ℕ → Cell V)
      (I : RecordInvariant n last (home (Transaction k) v a holders) cells) (t : ℕ) (lt : t < n) where
    -- One less owes besides t, where t owes.
    pub fewer : owing (I.shape t) ≡ true → a ≡ suc (count (besides t (λ u. owing (I.shape u))) n)
    fewer o =
        sym I.fit.counts
        ∙ count_drop (λ u. owing (I.shape u)) (besides t (λ u. owing (I.shape u))) n t lt o (rw (same_refl t) refl)
        (λ u l d. rw (same_no t u d) refl)

    -- Where one acknowledgement is owed, and t owes it, no other owes; as a test, for `grind`.
    pub others_free : owing (I.shape t) ≡ true → a ≡ 1 → (u : ℕ) → u < n → besides t (λ u. owing (I.shape u)) u ≡ false
    others_free o one =
        let z : count (besides t (λ u. owing (I.shape u))) n ≡ 0 = omega (arith, fewer o) in
        count_zero (besides t (λ u. owing (I.shape u))) n z

    -- The same of one other.
    pub alone : owing (I.shape t) ≡ true → a ≡ 1 → (u : ℕ) → u < n → (t ≡ u → ⊥) → owing (I.shape u) ≡ false
    alone o one u l d =
        let y : besides t (λ u. owing (I.shape u)) u ≡ false = others_free o one u l in
        rw (same_no t u d) at y

    -- Who owes the value owes the only acknowledgement.
    pub one_owes : has_value (I.shape t) ≡ true → Settled n v last a I.shape → a ≡ 1
    one_owes so (inl h) = clash (sym (h.1 t lt) ∙ so)
    one_owes so (inr h) = h.0

    -- Where the last acknowledgement comes without a value, the home has it.
    pub value_is_home : has_value (I.shape t) ≡ false → owing (I.shape t) ≡ true → Settled n v last a I.shape → v ≡ last
    value_is_home so ow (inl h) = h.0
    value_is_home so ow (inr h) =
        let al : (u : ℕ) → u < n → besides t (λ u. owing (I.shape u)) u ≡ false = others_free ow h.0 in
        let z : has_value (I.shape h.2.0) ≡ false = grind (arith, al, h.2.1, same_tells t h.2.0) in
        clash (sym z ∙ h.2.2)
