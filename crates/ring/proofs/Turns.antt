-- The slots of a ring, read from its start on.
use Rattle.std.proofs.Common.{◌≡◌, ℕ, ◌+◌, ◌-◌, ◌<◌, ◌≤◌, ltb, List, length, take, drop, set, sym, arith, rules}
use lib.Seq.{take-set-lt}
use Rattle.std.proofs.lemmas.List.{places, drop-set-add, drop-set-lt, length-drop, set-append_left, set-append_right, take-set-le}
use Rattle.std.proofs.lemmas.Bool.{cond_both, ltb-true, ltb-false}
use Rattle.ring.specs.declared.Span.{Span}
use Rattle.ring.specs.Waiting.{turned, waiting, place}

pub length_turned : {X : Type 0} (xs : List X) (start : ℕ) → start ≤ length xs → length (turned xs start) ≡ length xs
length_turned xs start within = search (rules, places)

-- As many wait as are counted.
pub length_waiting : {X : Type 0} (xs : List X) (span : Span) → span.start ≤ length xs → span.count ≤ length xs
    → length (waiting xs span) ≡ span.count
length_waiting xs span within few = search (rules, places)

-- A write to the slot of the k-th, before and after the last slot.
set_low : {X : Type 0} (xs : List X) (start k : ℕ) (x : X) → k < length xs - start
    → turned (set xs (start + k) x) start ≡ set (turned xs start) k x
set_low xs start k x low =
    rw (drop-set-add, take-set-le start xs (start + k) x (omega arith))
    (sym (set-append_left (drop start xs) (take start xs) k x (omega (arith, length-drop start xs))))

set_high : {X : Type 0} (xs : List X) (start k : ℕ) (x : X) → start ≤ length xs → k < length xs → length xs - start ≤ k
    → turned (set xs (k - (length xs - start)) x) start ≡ set (turned xs start) k x
set_high xs start k x inside here high =
    let at = k - (length xs - start) in
    let early : at < start = omega arith in
    rw (drop-set-lt start xs at x early, take-set-lt start xs at x early)
    (sym (set-append_right (drop start xs) (take start xs) (length xs - start) k x (length-drop start xs) high))

pub set_turned : {X : Type 0} (xs : List X) (start k : ℕ) (x : X) → start ≤ length xs → k < length xs
    → turned (set xs (place (length xs) start k) x) start ≡ set (turned xs start) k x
set_turned xs start k x inside here =
    cond_both (ltb k (length xs - start)) (start + k) (k - (length xs - start)) (λ at. turned (set xs at x) start ≡ set (turned xs start) k x)
    (λ low. set_low xs start k x (ltb-true k (length xs - start) low))
    (λ high. set_high xs start k x inside here (ltb-false k (length xs - start) high))
