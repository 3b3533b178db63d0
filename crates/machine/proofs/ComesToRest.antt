-- With deep lanes, where no step is accepted the lanes are empty and nobody waits: who waits with empty lanes is a requester,
-- and a requester is owed an acknowledgement, which is in a lane.
use Rattle.std.proofs.Common.{◌≡◌, ℕ, ◌+◌, ◌<◌, ◌≤◌, Bool, true, false, List, [], ◌∷◌, sym, refl, subst, arith}
use Rattle.machine.specs.Machine.{Access, reading, writing, Phase, read_only, read_write, Transaction, Home, home, count}
use Rattle.machine.specs.Site.{Mail, Want, rests, wants, Sizes, Site, messages_about, wait_of, projection}
use Rattle.machine.specs.Calls.{step}
use Rattle.machine.specs.Shapes.{Shape, idle, sharer, owner, requester, clean, dirty, decode}
use Rattle.machine.specs.Invariant.{owing, allowed, Fit, RecordInvariant, PlaceFree, Invariant}
use Rattle.machine.specs.Claims.{Deep, by_home, by_terminal, Stuck, AtRest}
use Rattle.machine.proofs.Counts.{count_some, same_refl, clash}
use Rattle.machine.proofs.Weights.{weigh, one}
use Rattle.machine.proofs.TerminalTakes.{wait_weight}
use Rattle.machine.proofs.NeverFull.{home_accepts, terminal_accepts}

-- Whether a shape is that of a requester.
abbrev is_requester : Shape → Bool
is_requester (idle x) = false
is_requester (sharer x) = false
is_requester (owner x) = false
is_requester (requester x) = true
is_requester (clean x) = false
is_requester (dirty x) = false

module _ {V : Type 0} where
  -- Who waits with empty lanes is a requester.
  only_requester : (v : V) (s : Shape) → weigh one (decode v s).up ≡ 0 → weigh one (decode v s).down ≡ 0
      → wait_weight (decode v s).wait ≡ 1 → is_requester s ≡ true
  only_requester v s u d w = grind arith

  -- Who owes has a message in a lane.
  owes_mail : (v : V) (s : Shape) → owing s ≡ true → 1 ≤ weigh one (decode v s).up + weigh one (decode v s).down
  owes_mail v s h = grind arith

  -- Where there is a requester, somebody owes.
  requester_owed : (n : ℕ) (last : V) (ph : Phase) (v : V) (a : ℕ) (p : ℕ → Bool) (f : ℕ → Shape) → Fit n last (home ph v a p) f
      → (t : ℕ) → t < n → is_requester (f t) ≡ true → 1 ≤ count (λ u. owing (f u)) n
  requester_owed n last read_only v a p f F t l h = absurd (bad (p t) (f t) (F.each t l) h)
    where
      bad : (b : Bool) (s : Shape) → allowed read_only b s ≡ true → is_requester s ≡ true → ⊥
      bad b (requester x) o i = clash o
      bad b (idle x) o i = clash i
      bad b (sharer x) o i = clash i
      bad b (owner x) o i = clash i
      bad b (clean x) o i = clash i
      bad b (dirty x) o i = clash i
  requester_owed n last read_write v a p f F t l h = absurd (bad (p t) (f t) (F.each t l) h)
    where
      bad : (b : Bool) (s : Shape) → allowed read_write b s ≡ true → is_requester s ≡ true → ⊥
      bad b (requester x) o i = clash o
      bad b (idle x) o i = clash i
      bad b (sharer x) o i = clash i
      bad b (owner x) o i = clash i
      bad b (clean x) o i = clash i
      bad b (dirty x) o i = clash i
  requester_owed n last (Transaction reading) v a p f F t l h = omega (arith, F.counts, F.owed)
  requester_owed n last (Transaction writing) v a p f F t l h = omega (arith, F.counts, F.owed)

-- Who waits for a record has a wait that it sees.
seen_wait : (k : Access) (r : ℕ) (w : Want) → w ≡ wants k r → wait_weight (wait_of r w) ≡ 1
unfolding wait_of
seen_wait k r w e = rw (e, same_refl r) refl

module _ {V : Type 0} where
  -- An empty lane holds nothing about a record.
  about_none : (r : ℕ) (xs : List (Mail V)) → xs ≡ [] → weigh one (messages_about r xs) ≡ 0
  unfolding messages_about
  about_none r xs e = rw e refl

  module _
      (sizes : Sizes) (site : Site V) (last : ℕ → V) (I : Invariant sizes site last) (D : Deep sizes)
      (stuck : Stuck sizes site) where
    -- Up lanes are empty: the home's turn would be accepted.
    up_empty : (t : ℕ) → t < sizes.n → (ys : List (Mail V)) → site.up t ≡ ys → site.up t ≡ []
    unfolding step
    up_empty t lt [] e = e
    up_empty t lt (x ∷ xs) e = absurd (stuck (by_home t) (home_accepts sizes site last I D t lt x xs e))

    -- Down lanes are empty: the terminal's turn would be accepted.
    down_empty : (t : ℕ) → t < sizes.n → (ys : List (Mail V)) → site.down t ≡ ys → site.down t ≡ []
    unfolding step
    down_empty t lt [] e = e
    down_empty t lt (x ∷ xs) e = absurd (stuck (by_terminal t) (terminal_accepts sizes site last I D t lt x xs e))

    -- Nobody waits.
    no_wait : (t : ℕ) → t < sizes.n → (w : Want) → site.wait t ≡ w → site.wait t ≡ rests
    no_wait t lt rests e = e
    no_wait t lt (wants k r) e =
        let F : PlaceFree sizes.l sizes.b (site.place t) (wants k r)
        = subst (PlaceFree sizes.l sizes.b (site.place t)) e (I.place_free t lt) in
        let J : RecordInvariant sizes.n (last r) (site.homes r) (projection sizes site r) = I.each r F.0 in
        let a : is_requester (J.shape t) ≡ true
        = subst
        (λ c. weigh one c.up ≡ 0 → weigh one c.down ≡ 0 → wait_weight c.wait ≡ 1 → is_requester (J.shape t) ≡ true)
        (sym (J.is t lt))
        (only_requester (last r) (J.shape t))
        (about_none r (site.up t) (up_empty t lt (site.up t) refl))
        (about_none r (site.down t) (down_empty t lt (site.down t) refl))
        (seen_wait k r (site.wait t) e) in
        let entry : Home V = site.homes r in
        let c : (u : ℕ) × (u < sizes.n) × (owing (J.shape u) ≡ true)
        = count_some (λ u. owing (J.shape u)) sizes.n
        (requester_owed sizes.n (last r) entry.phase entry.value entry.acks entry.holds J.shape J.fit t lt a) in
        let m : 1 ≤ weigh one (messages_about r (site.up c.0)) + weigh one (messages_about r (site.down c.0))
        = subst (λ y. 1 ≤ weigh one y.up + weigh one y.down) (sym (J.is c.0 c.1))
        (owes_mail (last r) (J.shape c.0) c.2) in
        absurd
        (omega (
          arith,
          m,
          about_none r (site.up c.0) (up_empty c.0 c.1 (site.up c.0) refl),
          about_none r (site.down c.0) (down_empty c.0 c.1 (site.down c.0) refl),
        ))

    -- Where no step is accepted all is at rest.
    pub at_rest : AtRest sizes site
    at_rest t lt = (up_empty t lt (site.up t) refl, down_empty t lt (site.down t) refl, no_wait t lt (site.wait t) refl)
