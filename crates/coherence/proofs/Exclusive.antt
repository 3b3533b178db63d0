-- Exclusive: what the machine owns in one place it copies in no place of another terminal.
use Rattle.std.proofs.Common.{◌≡◌, ℕ, Bool, true, false, cond, eqb, sym, refl, ap, ◌∙◌, arith, eqb-true}
use Rattle.protocol.specs.declared.PlaceState.{PlaceState}
use Rattle.protocol.specs.declared.PlaceState.TheVariants.{Invalid, ReadOnly as InRead, ReadWrite as InWrite}
use Rattle.protocol.specs.declared.Place.{Place}
use Rattle.protocol.specs.Places.{if_valid, if_read_write}
use Rattle.protocol.specs.Sites.{Site, place_at}
use Rattle.protocol.specs.Coherence as law
use Rattle.machine.specs.Machine.{no_copy, readable, writable, same}
use Rattle.machine.specs.Site.{owned, copy_of}
use Rattle.machine.proofs.Coherence.{exclusive_at}
use Rattle.coherence.proofs.Abstraction.{abs, sizes, place_by}
use Rattle.coherence.proofs.Changes.{places_at}
use Rattle.coherence.proofs.Runs.{Stands}

-- a copy in Read-Write is one that the machine's terminal owns
owned_by : (r : ℕ) (st : PlaceState) (x v : ℕ) → if_read_write st (eqb x r) ≡ true → place_by st x v ≡ owned r v
owned_by r Invalid x v e = absurd (let z : ◌≡◌ {A = ℕ} 0 1 = cc in omega arith)
owned_by r InRead x v e = absurd (let z : ◌≡◌ {A = ℕ} 0 1 = cc in omega arith)
owned_by r InWrite x v e = ap (λ (y : ℕ). owned y v) (eqb-true x r e)

-- a place without a copy in the machine shows none
shows_none : (r : ℕ) (st : PlaceState) (x v : ℕ) → copy_of r (place_by st x v) ≡ no_copy → if_valid st (eqb x r) ≡ false
unfolding copy_of same
shows_none r Invalid x v e = refl
shows_none r InRead x v e = pick (eqb x r) e
  where
    pick : (b : Bool) → cond b (readable v) no_copy ≡ no_copy → b ≡ false
    pick true f = absurd (let z : ◌≡◌ {A = ℕ} 0 1 = cc in omega arith)
    pick false f = refl
shows_none r InWrite x v e = pick (eqb x r) e
  where
    pick : (b : Bool) → cond b (writable v) no_copy ≡ no_copy → b ≡ false
    pick true f = absurd (let z : ◌≡◌ {A = ℕ} 0 1 = cc in omega arith)
    pick false f = refl

pub exclusive : (s : Site) (last : ℕ → ℕ) → Stands s last → law.Exclusive s
exclusive s last K r t u p q tn un d pl ql e =
    let P : Place = place_at s t p in
    let Q : Place = place_at s u q in
    let owns : (abs s).place t p ≡ owned r P.value = places_at s.places s.row t p pl ∙ owned_by r P.state P.«record» P.value e in
    let none-there : copy_of r ((abs s).place u q) ≡ no_copy = exclusive_at (sizes s) (abs s) last K.kept r t u p q P.value tn un d owns in
    shows_none r Q.state Q.«record» Q.value (ap (copy_of r) (sym (places_at s.places s.row u q ql)) ∙ none-there)
