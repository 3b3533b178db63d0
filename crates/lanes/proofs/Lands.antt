-- What a change of one lane's part and span makes of what waits in the lanes.
use Rattle.std.proofs.Common.{◌≡◌, ℕ, ◌+◌, ◌-◌, ◌*◌, ◌<◌, ◌≤◌, ltb, List, [], length, set, replicate, sym, ap, ◌∙◌, ⊎_elim, arith, Ok}
use borrow.Rule.Slice.PartMut.{put_mid}
use mathlib.Core.Path.{fun_ext}
use Rattle.std.proofs.lemmas.List.{get_or_past, get_or-replicate, get_or-set_other, get_or-set_same, length-replicate}
use Rattle.std.proofs.lemmas.Bool.{cases_lt, cond-true, le-ltb, lt-ltb}
use Rattle.std.specs.List.{between}
use Rattle.std.specs.declared.ops.Range.{Range}
use Rattle.message.specs.Lists.{with_list}
use Rattle.message.proofs.Lists.{with_is}
use Rattle.ring.specs.Calls as ring
use Rattle.ring.specs.Waiting.{waiting}
use Rattle.ring.specs.declared.Span.{Span}
use Rattle.lanes.specs.declared.Lanes.{Lanes}
use Rattle.lanes.specs.Contents.{contents, held}
use Rattle.lanes.specs.Calls.{ring_of, with_ring}
use Rattle.lanes.specs.Parts.{no_span, part, part_answer, span_at, waiting_in}
use Rattle.lanes.proofs.Parts.{length_part, over, part_other, part_same}

-- What is known of a lane that is there.
pub record Found (count size l : ℕ) (slots : Range ℕ) : Type 0 where
  pub there : l < count
  pub are : slots ≡ record { start = l * size; end = l * size + size }

pub found : (count size l : ℕ) (slots : Range ℕ) → Ok slots ≡ part_answer count size l → Found count size l slots
found count size l slots is =
    ⊎_elim
    (λ (there : l < count). let yes = lt-ltb l count there in
    let are = rw yes at is in record { there = there; are = cc })
    (λ (past : count ≤ l). let no = le-ltb l count past in
    let never = rw no at is in absurd (let z : ◌≡◌ {A = ℕ} 0 1 = cc in omega arith))
    (cases_lt l count)

-- The ring over a lane's part holds what the lane does.
pub same_ring : {X : Type 0} (lanes : Lanes X) (l : ℕ) (slots : Range ℕ) → Found lanes.count lanes.size l slots
    → ◌≡◌ {A = ring.Contents X} (record { items = waiting (between slots.start slots.end lanes.slots.now) (span_at lanes.spans l); room = length (between slots.start slots.end lanes.slots.now); lender = lanes.slots.ghost_name })
    (ring_of (contents lanes) l)
unfolding waiting_in
same_ring lanes l slots here =
    let xs : List _ = lanes.slots.now in
    let long : length (part xs lanes.size l) ≡ lanes.size = length_part xs lanes.count lanes.size l lanes.room here.there in
    ap (λ (slots : Range ℕ). record { items = waiting (between slots.start slots.end xs) (span_at lanes.spans l); room = length (between slots.start slots.end xs); lender = lanes.slots.ghost_name }) here.are
    ∙ ap (λ (n : ℕ). record { items = waiting (part xs lanes.size l) (span_at lanes.spans l); room = n; lender = lanes.slots.ghost_name }) long

lands : {X : Type 0} (xs : List X) (spans : List Span) (count size l : ℕ) (ys : List X) (span : Span) → count * size ≤ length xs → l < count → l < length spans → length ys ≡ size
    → waiting_in (over xs size l ys) (set spans l span) size ≡ with_list (waiting_in xs spans size) l (waiting ys span)
unfolding waiting_in
lands xs spans count size l ys span room there listed long =
    with_is (waiting_in xs spans size) (waiting_in (over xs size l ys) (set spans l span) size) l (waiting ys span)
    (ap (λ (s : Span). waiting (part (over xs size l ys) size l) s) (get_or-set_same spans l span no_span listed)
    ∙ ap (λ (zs : List _). waiting zs span) (part_same xs ys count size l room there long))
    (λ k apart. ap (λ (zs : List _). waiting zs (span_at (set spans l span) k)) (part_other xs ys count size l k room there long apart)
    ∙ ap (λ (s : Span). waiting (part xs size k) s) (get_or-set_other spans l k span no_span apart))

-- The lanes after a change of one.
pub landed : {X : Type 0} (lanes : Lanes X) (l : ℕ) (slots : Range ℕ) (ys : List X) (span : Span) (now : ring.Contents X)
    → Found lanes.count lanes.size l slots → l < length lanes.spans → length ys ≡ lanes.size → waiting ys span ≡ now.items
    → record (contents lanes) { held = waiting_in (put_mid slots.start (slots.end - slots.start) lanes.slots.now ys) (set lanes.spans l span) lanes.size }
    ≡ with_ring (contents lanes) l now
landed lanes l slots ys span now here listed long is =
    ap (λ (f : ℕ → List _). record (contents lanes) { held = f })
    (ap (λ (slots : Range ℕ). waiting_in (put_mid slots.start (slots.end - slots.start) lanes.slots.now ys) (set lanes.spans l span) lanes.size) here.are
    ∙ lands lanes.slots.now lanes.spans lanes.count lanes.size l ys span lanes.room here.there listed long
    ∙ ap (with_list (held lanes) l) is
    ∙ sym (cond-true (ltb l lanes.count) (with_list (held lanes) l now.items) (held lanes) (lt-ltb l lanes.count here.there)))

-- New lanes hold nothing.
pub waiting_none : {X : Type 0} (n : ℕ) (xs : List X) (size : ℕ) (none : Span) → (none.start ≡ 0) × (none.count ≡ 0)
    → ◌≡◌ {A = ℕ → List X} (waiting_in xs (replicate n none) size) (λ l. [])
unfolding waiting_in
waiting_none n xs size none is =
    let empty : none ≡ no_span = ap (λ (start : ℕ). record none { start = start }) is.0 ∙ ap (λ (count : ℕ). record no_span { count = count }) is.1 in
    fun_ext (λ l. ap (λ (s : Span). waiting (part xs size l) s)
    (⊎_elim (λ (inside : l < n). get_or-replicate n l none no_span inside ∙ empty)
    (λ (past : n ≤ l). let long : length {A = Span} (replicate n none) ≡ n = length-replicate n none in
    let end : length {A = Span} (replicate n none) ≤ l = omega arith in get_or_past (replicate n none) l no_span end)
    (cases_lt l n)))
