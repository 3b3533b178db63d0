-- The potential is at most 2 n for each terminal that waits and 1 for each replacement on its way. Who waits pays for the
-- acknowledgements of the others, and a transaction is owed fewer than n.
use Rattle.std.proofs.Common.{◌≡◌, ℕ, ◌+◌, ◌-◌, ◌*◌, ◌<◌, ◌≤◌, Bool, true, false, cond, List, [], ◌∷◌, sym, refl, ap, ◌∙◌, subst, arith}
use Rattle.machine.specs.Machine.{Access, Cell, Phase, read_only, read_write, Transaction, Home, home, count}
use Rattle.machine.specs.HomeRules.{one_replacement}
use Rattle.machine.specs.Site.{Mail, Sizes, Site, messages_about, wait_of, projection, total}
use Rattle.machine.specs.Shapes.{Shape, idle, sharer, owner, requester, clean, dirty, decode}
use Rattle.machine.specs.Invariant.{Role, idles, shares, owns, requests, owes_clean, owes_dirty, role, owing, allowed, Fit, RecordInvariant, Invariant}
use Rattle.machine.specs.Claims.{is_waiting, lane_replacements, waiters, replacements}
use Rattle.machine.proofs.Counts.{count_less, same_refl, clash}
use Rattle.machine.proofs.Sums.{total_ext, total_le, total_add, total_mul, total_count, total_point, total_swap}
use Rattle.machine.proofs.Weights.{weigh, load, split, cost_up, cost_down}
use Rattle.machine.proofs.TerminalTakes.{wait_weight}
use Rattle.machine.proofs.LaneBounds.{one_wait_weighs_one}
use Rattle.machine.proofs.Potential.{potential}

-- Whether this part is that of a requester.
abbrev is_requesting : Role → Bool
is_requesting idles = false
is_requesting shares = false
is_requesting owns = false
is_requesting (requests k) = true
is_requesting owes_clean = false
is_requesting owes_dirty = false

-- What is left of a requester's 2 n for the acknowledgements of the others.
abbrev allowance : ℕ → Shape → ℕ
allowance n s = cond (is_requesting (role s)) (2 * n - 1) 0

module _ {V : Type 0} where
  -- What a cell may cost: 2 n for its wait, and 1 for each replacement.
  abbrev budget : ℕ → Cell V → ℕ
  budget n c = (2 * n) * wait_weight c.wait + weigh one_replacement c.up

  -- What a cell adds to the potential.
  abbrev cost : ℕ → Cell V → ℕ
  cost n c = wait_weight c.wait + (weigh (cost_up n) c.up + weigh cost_down c.down)

  -- A shape costs at most 2 n for its wait, 1 for each replacement, and 2 where it owes; a requester 2 n - 1 less.
  shape_cost : (n : ℕ) (v : V) → 1 ≤ n → (s : Shape)
      → cost n (decode v s) + allowance n s
      ≤ (2 * n) * wait_weight (decode v s).wait + weigh one_replacement (decode v s).up + 2 * cond (owing s) 1 0
  shape_cost n v l s = grind arith

  module _ (n : ℕ) (last : V) (entry : Home V) (cells : ℕ → Cell V) (I : RecordInvariant n last entry cells) where
    -- A requester has that left for all that is owed.
    owed_fits : (ph : Phase) (v : V) (a : ℕ) (p : ℕ → Bool) → (F : Fit n last (home ph v a p) I.shape)
        → 2 * count (λ u. owing (I.shape u)) n ≤ total (λ u. allowance n (I.shape u)) n
    owed_fits read_only v a p F = omega (arith, F.counts, F.owed)
    owed_fits read_write v a p F = omega (arith, F.counts, F.owed)
    owed_fits (Transaction k) v a p F =
        let h : ℕ = F.held.0 in
        let e : allowed (Transaction k) true (I.shape h) ≡ true
        = subst (λ b. allowed (Transaction k) b (I.shape h) ≡ true) (F.held.2 h F.held.1 ∙ same_refl h) (F.each h F.held.1) in
        let g : (is_requesting (role (I.shape h)) ≡ true) × (owing (I.shape h) ≡ false) = asks_not k (I.shape h) e in
        let c : count (λ u. owing (I.shape u)) n < n = count_less (λ u. owing (I.shape u)) n h F.held.1 g.1 in
        let m : allowance n (I.shape h) ≤ total (λ u. allowance n (I.shape u)) n
        = total_point (λ u. allowance n (I.shape u)) n h F.held.1 in
        let m' : allowance n (I.shape h) ≡ 2 * n - 1 = rw g.0 refl in
        omega (arith, c, m, m')
      where
        asks_not : (k : Access) (s : Shape) → allowed (Transaction k) true s ≡ true
            → (is_requesting (role s) ≡ true) × (owing s ≡ false)
        asks_not k (requester a) h = (refl, refl)
        asks_not k (idle x) h = clash h
        asks_not k (sharer x) h = clash h
        asks_not k (owner x) h = clash h
        asks_not k (clean x) h = clash h
        asks_not k (dirty x) h = clash h

    -- A record costs at most 2 n for each wait and 1 for each replacement.
    pub record_cost : total (λ t. cost n (cells t)) n
        ≤ (2 * n) * total (λ t. wait_weight (cells t).wait) n + total (λ t. weigh one_replacement (cells t).up) n
    record_cost =
        let each : total (λ t. cost n (cells t) + allowance n (I.shape t)) n
        ≤ total (λ t. budget n (cells t) + 2 * cond (owing (I.shape t)) 1 0) n
        = total_le (λ t. cost n (cells t) + allowance n (I.shape t))
        (λ t. budget n (cells t) + 2 * cond (owing (I.shape t)) 1 0) n
        (λ t l.
        subst (λ c. cost n c + allowance n (I.shape t) ≤ budget n c + 2 * cond (owing (I.shape t)) 1 0) (sym (I.is t l))
        (shape_cost n last (omega arith) (I.shape t))) in
        omega (
          arith,
          each,
          total_add (λ t. cost n (cells t)) (λ t. allowance n (I.shape t)) n,
          total_add (λ t. budget n (cells t)) (λ t. 2 * cond (owing (I.shape t)) 1 0) n,
          total_add (λ t. (2 * n) * wait_weight (cells t).wait) (λ t. weigh one_replacement (cells t).up) n,
          total_mul (2 * n) (λ t. wait_weight (cells t).wait) n,
          total_mul 2 (λ t. cond (owing (I.shape t)) 1 0) n,
          total_count (λ u. owing (I.shape u)) 1 n,
          owed_fits entry.phase entry.value entry.acks entry.holds I.fit,
        )

  -- Replacements as a weight.
  replacements_load : (xs : List (Mail V)) → lane_replacements xs ≡ load one_replacement xs
  replacements_load [] = refl
  replacements_load (x ∷ xs) = ap (λ y. one_replacement x.msg + y) (replacements_load xs)

  module _ (sizes : Sizes) (site : Site V) (last : ℕ → V) (J : Invariant sizes site last) where
    -- A sum over the terminals of what each has about each record, the other way round.
    turned : (f : ℕ → ℕ) (g : ℕ → ℕ → ℕ) → ((t : ℕ) → t < sizes.n → f t ≡ total (λ r. g r t) sizes.b)
        → total f sizes.n ≡ total (λ r. total (λ t. g r t) sizes.n) sizes.b
    turned f g h = total_ext f (λ t. total (λ r. g r t) sizes.b) sizes.n h ∙ sym (total_swap g sizes.n sizes.b)

    -- The potential is at most 2 n for each waiting terminal and 1 for each replacement.
    pub potential_bound : potential sizes site ≤ 2 * sizes.n * waiters sizes site + replacements sizes site
    potential_bound =
        let F : ℕ → ℕ = λ r. total (λ t. wait_weight (wait_of r (site.wait t))) sizes.n in
        let U : ℕ → ℕ = λ r. total (λ t. weigh (cost_up sizes.n) (messages_about r (site.up t))) sizes.n in
        let D : ℕ → ℕ = λ r. total (λ t. weigh cost_down (messages_about r (site.down t))) sizes.n in
        let R : ℕ → ℕ = λ r. total (λ t. weigh one_replacement (messages_about r (site.up t))) sizes.n in
        let f : total (λ t. cond (is_waiting (site.wait t)) 1 0) sizes.n ≡ total F sizes.b
        = turned (λ t. cond (is_waiting (site.wait t)) 1 0) (λ r t. wait_weight (wait_of r (site.wait t)))
        (λ t l. sym (one_wait_weighs_one sizes.l sizes.b (site.place t) (site.wait t) (J.place_free t l))) in
        let u : total (λ t. load (cost_up sizes.n) (site.up t)) sizes.n ≡ total U sizes.b
        = turned (λ t. load (cost_up sizes.n) (site.up t)) (λ r t. weigh (cost_up sizes.n) (messages_about r (site.up t)))
        (λ t l. split (cost_up sizes.n) sizes.b (site.up t) (J.ups t l)) in
        let d : total (λ t. load cost_down (site.down t)) sizes.n ≡ total D sizes.b
        = turned (λ t. load cost_down (site.down t)) (λ r t. weigh cost_down (messages_about r (site.down t)))
        (λ t l. split cost_down sizes.b (site.down t) (J.downs t l)) in
        let g : total (λ t. lane_replacements (site.up t)) sizes.n ≡ total R sizes.b
        = turned (λ t. lane_replacements (site.up t)) (λ r t. weigh one_replacement (messages_about r (site.up t)))
        (λ t l. replacements_load (site.up t) ∙ split one_replacement sizes.b (site.up t) (J.ups t l)) in
        let each : total (λ r. F r + (U r + D r)) sizes.b ≤ total (λ r. (2 * sizes.n) * F r + R r) sizes.b
        = total_le (λ r. F r + (U r + D r)) (λ r. (2 * sizes.n) * F r + R r) sizes.b below in
        let w : total (λ t. cond (is_waiting (site.wait t)) 1 0) sizes.n ≡ waiters sizes site
        = total_count (λ t. is_waiting (site.wait t)) 1 sizes.n ∙ omega arith in
        let k : 2 * sizes.n * waiters sizes site ≡ (2 * sizes.n) * total F sizes.b
        = ap (λ y. 2 * sizes.n * y) (sym w ∙ f) in
        omega (
          arith,
          f,
          u,
          d,
          g,
          each,
          k,
          total_add F (λ r. U r + D r) sizes.b,
          total_add U D sizes.b,
          total_add (λ r. (2 * sizes.n) * F r) R sizes.b,
          total_mul (2 * sizes.n) F sizes.b,
        )
      where
        below : (r : ℕ) → r < sizes.b
            → total (λ t. wait_weight (wait_of r (site.wait t))) sizes.n
            + (total (λ t. weigh (cost_up sizes.n) (messages_about r (site.up t))) sizes.n
            + total (λ t. weigh cost_down (messages_about r (site.down t))) sizes.n)
            ≤ (2 * sizes.n) * total (λ t. wait_weight (wait_of r (site.wait t))) sizes.n
            + total (λ t. weigh one_replacement (messages_about r (site.up t))) sizes.n
        below r l =
            omega (
              arith,
              record_cost sizes.n (last r) (site.homes r) (projection sizes site r) (J.each r l),
              total_add (λ t. wait_weight (wait_of r (site.wait t)))
                  (λ t.
                  weigh (cost_up sizes.n) (messages_about r (site.up t)) + weigh cost_down (messages_about r (site.down t)))
                  sizes.n,
              total_add (λ t. weigh (cost_up sizes.n) (messages_about r (site.up t)))
                  (λ t. weigh cost_down (messages_about r (site.down t))) sizes.n,
            )
