-- The union of some pointers and the holders below, at one record.
use Rattle.std.proofs.Common.{◌≡◌, ℕ, ◌+◌, ◌<◌, ◌≤◌, Bool, true, false, cond, not, ◌&&◌, ◌||◌, ◌++◌, eqb, nat_lt, nat_le, filter, length, List, [], ◌∷◌, Some, None, Option, min, sym, refl, ap, ◌∙◌, ◌⊎◌, inl, inr, arith}
use Rattle.std.proofs.Math.Path.{fun_ext}
use Rattle.std.specs.List.{reduce, fold}
use Rattle.std.specs.Option.{option_to_list}
use Rattle.std.proofs.lemmas.Bool.{cases_lt, cases_Bool, lt-ltb, le-ltb}
use Rattle.std.proofs.lemmas.Bool.Decides.{nat_tests}
use Rattle.directory.specs.Sets.{tally, least}
use Rattle.directory.specs.Directories.{Sound, View, count, next}
use Rattle.directory.proofs.Counting.{tally_more}
use Rattle.directory.proofs.Finding.{least_more, least_less, lesser}
use Rattle.pointers.specs.declared.rows.Row.{Row}
use Rattle.pointers.specs.Rows.{apart, row_of, free_row}
use Rattle.pointers.specs.Layers.{pointed, over}

-- the row of a record in a table, or one with all places free where the directory below does not serve the record
abbrev pub served_row : List Row → View → ℕ → Row
served_row rows v r = cond (nat_lt r v.records) (row_of rows r) free_row

-- the row that a served record has
pub row_found : (rows : List Row) (v : View) (r : ℕ) (row : Row) → cond (nat_lt r v.records) (Some (row_of rows r)) None ≡ Some row → served_row rows v r ≡ row
row_found rows v r row e = grind (arith, nat_tests)

abbrev pub union : View → List ℕ → ℕ → ℕ → Bool
union v xs r u = pointed v xs r u || v.holders r u

-- where the record is not served they are the holders below
union_unserved : (v : View) (xs : List ℕ) (r : ℕ) → v.records ≤ r → union v xs r ≡ v.holders r
union_unserved v xs r h = fun_ext (λ u. grind (arith, nat_tests))

-- and then there are none
pub unserved : (v : View) (xs : List ℕ) (r u : ℕ) → Sound v → v.records ≤ r → union v xs r u ≡ false
unserved v xs r u s h = by (cases_Bool (v.holders r u)) where
  by : (v.holders r u ≡ true) ⊎ (v.holders r u ≡ false) → union v xs r u ≡ false
  by (inl e) = let served = s.served r u e in grind (arith, nat_tests)
  by (inr e) = grind (arith, nat_tests)

union_none : (v : View) (r : ℕ) → union v [] r ≡ v.holders r
union_none v r = fun_ext (λ u. grind (arith, nat_tests))

-- one pointer more: where it is served it joins, and else, or where it is a holder below, nothing changes
union_joins : (v : View) (x : ℕ) (xs : List ℕ) (r : ℕ) → r < v.records → x < v.terminals → union v (x ∷ xs) r ≡ (λ u. eqb u x || union v xs r u)
union_joins v x xs r h k = fun_ext (λ u. grind (arith, nat_tests))

union_stays : (v : View) (x : ℕ) (xs : List ℕ) (r : ℕ) → (v.terminals ≤ x) ⊎ (v.holders r x ≡ true) → union v (x ∷ xs) r ≡ union v xs r
union_stays v x xs r e = fun_ext (λ u. grind (arith, nat_tests))

-- whether a number is that of a terminal that is no holder below
abbrev pub fresh : View → ℕ → ℕ → Bool
fresh v r t = nat_lt t v.terminals && not (v.holders r t)

count_union : (v : View) (xs : List ℕ) (r : ℕ) → r < v.records → v.terminals ≤ 64 → apart xs ≡ true
    → tally (union v xs r) 64 ≡ tally (v.holders r) 64 + length (filter (fresh v r) xs)
count_union v [] r h m a = let e = ap (λ (p : ℕ → Bool). tally p 64) (union_none v r) in omega arith
count_union v (x ∷ xs) r h m a = by (cases_lt x v.terminals) (cases_Bool (v.holders r x)) (count_union v xs r h m (grind (arith, nat_tests))) where
  Counted : List ℕ → Type 0
  Counted ys = tally (union v ys r) 64 ≡ tally (v.holders r) 64 + length (filter (fresh v r) ys)

  stays : (v.terminals ≤ x) ⊎ (v.holders r x ≡ true) → Counted xs → Counted (x ∷ xs)
  stays e more = let same = ap (λ (p : ℕ → Bool). tally p 64) (union_stays v x xs r e) in grind (arith, nat_tests)

  by : (x < v.terminals) ⊎ (v.terminals ≤ x) → (v.holders r x ≡ true) ⊎ (v.holders r x ≡ false) → Counted xs → Counted (x ∷ xs)
  by (inr k) e more = stays (inl k) more
  by k (inl e) more = stays (inr e) more
  by (inl k) (inr e) more =
      let new : union v xs r x ≡ false = grind (arith, nat_tests) in
      let one = ap (λ (p : ℕ → Bool). tally p 64) (union_joins v x xs r h k) ∙ tally_more (union v xs r) x 64 (omega arith) new in
      grind (arith, nat_tests)

-- how many holders there are: those below and the fresh pointers
pub count_over : (rows : List Row) (v : View) (r : ℕ) → v.terminals ≤ 64 → apart (row_of rows r).numbers ≡ true
    → count (over rows v) r ≡ count v r + length (filter (fresh v r) (served_row rows v r).numbers)
count_over rows v r m a = by (cases_lt r v.records) where
  by : (r < v.records) ⊎ (v.records ≤ r) → count (over rows v) r ≡ count v r + length (filter (fresh v r) (served_row rows v r).numbers)
  by (inl h) = rw (lt-ltb r v.records h) (count_union v (row_of rows r).numbers r h m a)
  by (inr h) =
      let same = ap (λ (p : ℕ → Bool). tally p 64) (union_unserved v (row_of rows r).numbers r h) in
      rw (le-ltb r v.records h) (grind (arith, nat_tests))

-- the least of a list with one number more
fold_min : (x y : ℕ) (xs : List ℕ) → fold min (min x y) xs ≡ min x (fold min y xs)
fold_min x y [] = refl
fold_min x y (z ∷ xs) = let e : min (min x y) z ≡ min x (min y z) = omega arith in ap (λ m. fold min m xs) e ∙ fold_min x (min y z) xs

min_cons : (x : ℕ) (xs : List ℕ) → reduce min (x ∷ xs) ≡ lesser (reduce min xs) x
min_cons x [] = refl
min_cons x (y ∷ xs) = let e = fold_min x y xs in grind (arith, nat_tests)

-- and of one number alone
alone : (o : Option ℕ) → reduce min (option_to_list o) ≡ o
alone None = refl
alone (Some x) = refl

-- whether a number is that of a terminal from t on
abbrev pub from : View → ℕ → ℕ → Bool
from v t u = nat_le t u && nat_lt u v.terminals

next_union : (v : View) (xs : List ℕ) (r t : ℕ) → r < v.records → v.terminals ≤ 64
    → reduce min (filter (from v t) xs ++ option_to_list (least (v.holders r) t 64)) ≡ least (union v xs r) t 64
next_union v [] r t h m = alone (least (v.holders r) t 64) ∙ ap (λ (p : ℕ → Bool). least p t 64) (sym (union_none v r))
next_union v (x ∷ xs) r t h m = by (cases_lt x v.terminals) (cases_lt x t) (next_union v xs r t h m) where
  chosen : List ℕ → List ℕ
  chosen ys = filter (from v t) ys ++ option_to_list (least (v.holders r) t 64)

  skipped : nat_le t x && nat_lt x v.terminals ≡ false → chosen (x ∷ xs) ≡ chosen xs
  skipped e = grind (arith, nat_tests)

  by : (x < v.terminals) ⊎ (v.terminals ≤ x) → (x < t) ⊎ (t ≤ x) → reduce min (chosen xs) ≡ least (union v xs r) t 64 → reduce min (chosen (x ∷ xs)) ≡ least (union v (x ∷ xs) r) t 64
  by (inr k) _ more = ap (reduce min) (skipped (grind (arith, nat_tests))) ∙ more ∙ ap (λ (p : ℕ → Bool). least p t 64) (sym (union_stays v x xs r (inl k)))
  by (inl k) (inl l) more = ap (reduce min) (skipped (grind (arith, nat_tests))) ∙ more ∙ sym (ap (λ (p : ℕ → Bool). least p t 64) (union_joins v x xs r h k) ∙ least_less (union v xs r) t 64 x l)
  by (inl k) (inr l) more =
      let new : chosen (x ∷ xs) ≡ x ∷ chosen xs = grind (arith, nat_tests) in
      ap (reduce min) new ∙ min_cons x (chosen xs) ∙ ap (λ o. lesser o x) more ∙ sym (ap (λ (p : ℕ → Bool). least p t 64) (union_joins v x xs r h k) ∙ least_more (union v xs r) t 64 x l (omega arith))

-- the least holder from t on is that of the pointers and the one below
pub next_over : (rows : List Row) (v : View) (r t : ℕ) → v.terminals ≤ 64
    → next (over rows v) r t ≡ reduce min (filter (from v t) (served_row rows v r).numbers ++ option_to_list (next v r t))
next_over rows v r t m = by (cases_lt r v.records) where
  by : (r < v.records) ⊎ (v.records ≤ r) → next (over rows v) r t ≡ reduce min (filter (from v t) (served_row rows v r).numbers ++ option_to_list (next v r t))
  by (inl h) = rw (lt-ltb r v.records h) (sym (next_union v (row_of rows r).numbers r t h m))
  by (inr h) =
      let same = ap (λ (p : ℕ → Bool). least p t 64) (union_unserved v (row_of rows r).numbers r h) in
      let none : filter (from v t) free_row.numbers ≡ [] = grind (arith, nat_tests) in
      rw (le-ltb r v.records h) (rw none (same ∙ sym (alone (next v r t))))
