-- The pointers of a record go below: their union with the holders there becomes the holders there.
use Rattle.std.proofs.Common.{◌≡◌, ℕ, ◌<◌, ◌≤◌, Bool, false, cond, ◌||◌, eqb, List, [], ◌∷◌, sym, ap, ◌∙◌, subst, arith}
use Rattle.std.proofs.Math.Path.{fun_ext}
use Rattle.std.proofs.lemmas.Bool.Decides.{nat_tests}
use Rattle.directory.specs.Sets.{tally}
use Rattle.directory.specs.Directories.{View, Holders, count}
use Rattle.directory.specs.Changes.{added, with_holders}
use Rattle.directory.proofs.Counting.{tally_more, tally_mono}
use Rattle.pointers.specs.Layers.{spilled}
use Rattle.pointers.proofs.Unions.{union}

-- the sets below with the pointers of r among its holders
abbrev pub sunk : View → List ℕ → ℕ → Holders
sunk v xs r q u = cond (eqb q r) (union v xs r u) (v.holders q u)

-- a pointer that is served and no holder yet finds room below
accepts : (v : View) (x : ℕ) (xs : List ℕ) (r : ℕ) → r < v.records → x < v.terminals → v.terminals ≤ 64 → tally (union v (x ∷ xs) r) 64 ≤ v.limit
    → v.holders r x ≡ false → count v r < v.limit
accepts v x xs r h k m l e =
    let one = tally_more (v.holders r) x 64 (omega arith) e in
    let some = tally_mono (λ u. eqb u x || v.holders r u) (union v (x ∷ xs) r) 64 (λ u i. grind (arith, nat_tests)) in
    omega arith

-- one pointer goes below: it is still in the union
goes : (v : View) (x : ℕ) (xs : List ℕ) (r : ℕ) → r < v.records → v.terminals ≤ 64 → tally (union v (x ∷ xs) r) 64 ≤ v.limit
    → union (added v r x) xs r ≡ union v (x ∷ xs) r
goes v x xs r h m l = fun_ext (λ u. let room = λ (k : x < v.terminals). accepts v x xs r h k m l in grind (arith, nat_tests))

pub sinks : (xs : List ℕ) (v : View) (r : ℕ) → r < v.records → v.terminals ≤ 64 → tally (union v xs r) 64 ≤ v.limit
    → spilled v r xs ≡ with_holders v (sunk v xs r)
sinks [] v r h m l = ap (with_holders v) (fun_ext (λ q. fun_ext (λ u. grind (arith, nat_tests))))
sinks (x ∷ xs) v r h m l =
    let one = goes v x xs r h m l in
    let few : tally (union (added v r x) xs r) 64 ≤ v.limit = subst (λ (p : ℕ → Bool). tally p 64 ≤ v.limit) (sym one) l in
    sinks xs (added v r x) r h m few ∙ ap (with_holders v) (fun_ext (λ q. fun_ext (λ u. let at = ap (λ (p : ℕ → Bool). p u) one in grind (arith, nat_tests))))
