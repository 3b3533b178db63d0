-- The parts of a slice, each a lane's: they lie side by side, so that a write to one leaves the others.
use Rattle.std.proofs.Common.{◌≡◌, ℕ, ◌+◌, ◌-◌, ◌*◌, ◌<◌, ◌≤◌, List, length, take, drop, sym, ap, ◌∙◌, ⊎_elim, mul-le-mul_right, suc-mul, arith}
use borrow.Rule.Slice.PartMut.{put_mid}
use Rattle.std.proofs.lemmas.List.Edits.{length-between}
use Rattle.std.proofs.lemmas.Slice.{between_is, between-put_mid, drop-put_mid, take-put_mid_below}
use Rattle.std.proofs.lemmas.Bool.{cases_order}
use Rattle.lanes.specs.Parts.{part}

-- A lane ends before a later one begins.
pub ends_before : (size k l : ℕ) → k < l → k * size + size ≤ l * size
ends_before size k l earlier = omega (arith, mul-le-mul_right size earlier, suc-mul k size)

-- So each lane has its slots.
pub ends_within : (slots count size l : ℕ) → count * size ≤ slots → l < count → l * size + size ≤ slots
ends_within slots count size l room there = omega (arith, ends_before size l count there)

pub length_part : {X : Type 0} (xs : List X) (count size l : ℕ) → count * size ≤ length xs → l < count → length (part xs size l) ≡ size
length_part xs count size l room there =
    length-between xs (l * size) (l * size + size) (ends_within (length xs) count size l room there) ∙ omega arith

-- The slots after a lane's part holds other elements.
abbrev pub over : {X : Type 0} → List X → ℕ → ℕ → List X → List X
over xs size l ys = put_mid (l * size) (l * size + size - l * size) xs ys

pub part_same : {X : Type 0} (xs ys : List X) (count size l : ℕ) → count * size ≤ length xs → l < count → length ys ≡ size
    → part (over xs size l ys) size l ≡ ys
part_same xs ys count size l room there long =
    between-put_mid (l * size) _ xs ys (l * size + size) (omega (arith, ends_within (length xs) count size l room there)) (long ∙ omega arith)

pub part_other : {X : Type 0} (xs ys : List X) (count size l k : ℕ) → count * size ≤ length xs → l < count → length ys ≡ size → (k ≡ l → ⊥)
    → part (over xs size l ys) size k ≡ part xs size k
part_other xs ys count size l k room there long apart =
    let end = ends_within (length xs) count size l room there in
    let begin : l * size ≤ length xs = omega arith in
    let width = l * size + size - l * size in
    ⊎_elim (λ (same : k ≡ l). absurd (apart same))
    (⊎_elim
    (λ (earlier : k < l). between_is (over xs size l ys) (k * size) (k * size + size)
    ∙ ap (drop (k * size)) (take-put_mid_below (l * size) width xs ys (k * size + size) (ends_before size k l earlier) begin)
    ∙ sym (between_is xs (k * size) (k * size + size)))
    (λ (later : l < k). ap (take (k * size + size - k * size))
    (drop-put_mid (l * size) width xs ys (k * size) (omega (arith, ends_before size l k later)) begin (long ∙ omega arith))))
    (cases_order k l)
