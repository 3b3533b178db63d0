-- Lists by number: what a change of one of them leaves.
use Rattle.std.proofs.Common.{◌≡◌, ℕ, eqb, List, sym, refl, ap, ◌∙◌, ⊎_elim}
use mathlib.Core.Path.{fun_ext}
use Rattle.std.proofs.lemmas.Bool.{cases_eq, cond-false, cond-true, eq-eqb, ne_eqb}
use Rattle.message.specs.Lists.{with_list}

pub with_same : {X : Type 0} (lists : ℕ → List X) (l : ℕ) (new : List X) → with_list lists l new l ≡ new
unfolding with_list
with_same lists l new = cond-true (eqb l l) new (lists l) (eq-eqb l l refl)

pub with_other : {X : Type 0} (lists : ℕ → List X) (l k : ℕ) (new : List X) → (k ≡ l → ⊥) → with_list lists l new k ≡ lists k
unfolding with_list
with_other lists l k new apart = cond-false (eqb k l) new (lists k) (ne_eqb k l apart)

-- Lists that agree at the number and at every other are the lists with that one.
pub with_is : {X : Type 0} (lists others : ℕ → List X) (l : ℕ) (new : List X) → others l ≡ new
    → ((k : ℕ) → (k ≡ l → ⊥) → others k ≡ lists k) → others ≡ with_list lists l new
with_is lists others l new here apart =
    fun_ext (λ k. ⊎_elim
    (λ (same : k ≡ l). ap others same ∙ here ∙ sym (ap (with_list lists l new) same ∙ with_same lists l new))
    (λ (differ : k ≡ l → ⊥). apart k differ ∙ sym (with_other lists l k new differ))
    (cases_eq k l))

-- A list put where it is already changes nothing.
pub with_self : {X : Type 0} (lists : ℕ → List X) (l : ℕ) → lists ≡ with_list lists l (lists l)
with_self lists l = with_is lists lists l (lists l) refl (λ k apart. refl)

-- The later of two changes stays.
pub with_with : {X : Type 0} (lists : ℕ → List X) (l : ℕ) (old new : List X) → with_list (with_list lists l old) l new ≡ with_list lists l new
with_with lists l old new =
    with_is lists (with_list (with_list lists l old) l new) l new (with_same (with_list lists l old) l new)
    (λ k apart. with_other (with_list lists l old) l k new apart ∙ with_other lists l k old apart)
