-- What a packet network holds of its lanes is kept by a change of one lane.
use Rattle.std.proofs.Common.{◌≡◌, ℕ, ◌<◌, ◌≤◌, List, [], length, get_or, set, replicate, sym, refl, ap, subst, ⊎_elim, arith}
use Rattle.std.proofs.lemmas.List.{get_or_past, get_or-replicate, get_or-set_other, get_or-set_same, length-replicate}
use Rattle.std.proofs.lemmas.Bool.{cases_eq, cases_lt}
use Rattle.message.specs.Lists.{with_list}
use Rattle.message.proofs.Lists.{with_is, with_other, with_same}
use Rattle.packet_network.specs.Holds.{Holds, Packed}
use Rattle.packet_network.specs.Means.{said_in}
use Rattle.packet_network.specs.Packets.{said}

-- What holds of each lane still does after a change of one lane if it does of that one.
pub kept : (f : ℕ → List ℕ) (counts : List ℕ) (lanes depth l : ℕ) (words : List ℕ) (n : ℕ) → l < length counts
    → Holds f counts lanes depth → Packed l words n depth → Holds (with_list f l words) (set counts l n) lanes depth
kept f counts lanes depth l words n listed holds one k there =
    ⊎_elim
    (λ (same : k ≡ l). subst (λ (j : ℕ). Packed j (with_list f l words j) (get_or (set counts l n) j 0) depth) (sym same)
    (subst (λ (m : ℕ). Packed l (with_list f l words l) m depth) (sym (get_or-set_same counts l n 0 listed))
    (subst (λ (ws : List ℕ). Packed l ws n depth) (sym (with_same f l words)) one)))
    (λ (apart : k ≡ l → ⊥). subst (λ (m : ℕ). Packed k (with_list f l words k) m depth) (sym (get_or-set_other counts l k n 0 apart))
    (subst (λ (ws : List ℕ). Packed k ws (get_or counts k 0) depth) (sym (with_other f l k words apart)) (holds k there)))
    (cases_eq k l)

-- The messages of the lanes after a change of one lane's words.
pub said_with : (f : ℕ → List ℕ) (l : ℕ) (words : List ℕ) → said_in (with_list f l words) ≡ with_list (said_in f) l (said words)
said_with f l words =
    with_is (said_in f) (said_in (with_list f l words)) l (said words) (ap said (with_same f l words)) (λ k apart. ap said (with_other f l k words apart))

-- A new network holds it.
none_packed : (l n depth : ℕ) → ◌≡◌ {A = ℕ} n 0 → Packed l [] n depth
unfolding said
none_packed l n depth zero = record { whole = refl; sendable = refl; counted = sym zero; within = omega arith }

zeros : (n l : ℕ) → ◌≡◌ {A = ℕ} (get_or (replicate n 0) l 0) 0
zeros n l =
    ⊎_elim (λ (inside : l < n). get_or-replicate n l 0 0 inside)
    (λ (past : n ≤ l). let long : length {A = ℕ} (replicate n 0) ≡ n = length-replicate n _ in
    let end : length {A = ℕ} (replicate n 0) ≤ l = omega arith in get_or_past _ l _ end)
    (cases_lt l n)

pub holds_none : (f : ℕ → List ℕ) (n lanes depth : ℕ) → ((l : ℕ) → f l ≡ []) → Holds f (replicate n 0) lanes depth
holds_none f n lanes depth none l there =
    subst (λ (ws : List ℕ). Packed l ws (get_or (replicate n 0) l 0) depth) (sym (none l)) (none_packed l _ depth (zeros n l))
