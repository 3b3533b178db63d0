-- Each accepted step lowers the potential of the site, so from any state there are at most as many accepted steps as that.
use Rattle.std.proofs.Common.{◌≡◌, ℕ, ◌+◌, ◌<◌, ◌≤◌, Bool, true, false, cond, eqb, ltb, ◌⊎◌, List, [], ◌∷◌, ◌++◌, sym, refl, ap, ◌∙◌, subst, inl, inr, arith, ltb-true, lt-ltb}
use mathlib.Core.Option.{none}
use Rattle.std.proofs.lemmas.Bool.{cond_both}
use Rattle.machine.specs.Machine.{still, waits, same, Cell}
use Rattle.machine.specs.HomeRules.{Act}
use Rattle.machine.specs.Site.{Mail, mail, mails, Place, Want, rests, wants, Sizes, Site, wait_of, want_of, total, projection}
use Rattle.machine.specs.TerminalRules.{Took}
use Rattle.machine.specs.Turns.{room_up, Out, out, room, home_step, terminal_step, after_home, after_terminal}
use Rattle.machine.specs.Calls.{step}
use Rattle.machine.specs.Invariant.{PlaceFree, Invariant}
use Rattle.machine.specs.Claims.{is_waiting, Step, by_home, by_terminal, call_of, accepted}
use Rattle.machine.proofs.Sums.{total_ext, total_add, total_changed, total_count}
use Rattle.machine.proofs.Weights.{load, load-++, load_mails, cost_up, cost_down}
use Rattle.machine.proofs.NewShapes.{CostsLess}
use Rattle.machine.proofs.TerminalTakes.{Cheaper, Ends, wait_weight, waiting}
use Rattle.machine.proofs.Places.{waits_clear, want_keeps}
use Rattle.machine.proofs.TurnsGive.{home_turn_gives, terminal_turn_gives}

-- 1 for a terminal that waits.
abbrev pub want_weight : Want → ℕ
want_weight w = cond (is_waiting w) 1 0

module _ {V : Type 0} where
  -- What is left to do: one for each wait, and what the messages in the lanes still cost.
  abbrev pub potential : Sizes → Site V → ℕ
  potential sizes site =
      total (λ t. want_weight (site.wait t)) sizes.n
      + (total (λ t. load (cost_up sizes.n) (site.up t)) sizes.n + total (λ t. load cost_down (site.down t)) sizes.n)

-- A record sees no more waits than there are.
want_at_most : (r : ℕ) (w : Want) → wait_weight (wait_of r w) ≤ cond (is_waiting w) 1 0
unfolding wait_of
want_at_most r rests = omega arith
want_at_most r (wants k x) = go (same x r)
  where
    go : (b : Bool) → wait_weight (cond b (waits k) still) ≤ 1
    go true = omega arith
    go false = omega arith

module _ {V : Type 0} where
  module _ (sizes : Sizes) (site : Site V) (t : ℕ) (lt : t < sizes.n) (x : Mail V) (xs : List (Mail V)) where
    -- The home's step lowers the potential.
    after_home_falls : site.up t ≡ x ∷ xs → (a : Act V)
        → CostsLess sizes.n x.msg a
        → potential sizes (after_home site t x xs a) < potential sizes site
    after_home_falls e a p =
        let w : load (cost_up sizes.n) (site.up t) ≡ cost_up sizes.n x.msg + load (cost_up sizes.n) xs
        = rw e refl in
        let d : total (λ y. load cost_down ((after_home site t x xs a).down y)) sizes.n
        ≡ total (λ y. load cost_down (site.down y) + cond (a.to y) (cost_down a.msg) 0) sizes.n
        = total_ext (λ y. load cost_down ((after_home site t x xs a).down y))
        (λ y. load cost_down (site.down y) + cond (a.to y) (cost_down a.msg) 0) sizes.n (λ y l. go y (a.to y)) in
        omega (
          arith,
          total_changed (load (cost_up sizes.n)) site.up sizes.n t xs lt,
          w,
          d,
          total_add (λ y. load cost_down (site.down y)) (λ y. cond (a.to y) (cost_down a.msg) 0) sizes.n,
          total_count a.to (cost_down a.msg) sizes.n,
          p,
        )
      where
        go : (y : ℕ) (b : Bool)
            → load cost_down (cond b (site.down y ++ (mail x.of a.msg ∷ [])) (site.down y))
            ≡ load cost_down (site.down y) + cond b (cost_down a.msg) 0
        go y true = omega (arith, load-++ cost_down (site.down y) (mail x.of a.msg ∷ []))
        go y false = omega arith

    -- The wait goes on, or it ended.
    want_falls : (l b : ℕ) (k : Took V) (f : ℕ → Place V) (c : Cell V) → c.wait ≡ wait_of x.of (site.wait t)
        → Ends x.msg k c → PlaceFree l b f (site.wait t)
        → cond (is_waiting (want_of x.of k.wait (site.wait t))) 1 0 + wait_weight (wait_of x.of (site.wait t))
        ≤ cond (is_waiting (site.wait t)) 1 0 + wait_weight k.wait
    want_falls l b k f c ce (inl h) F =
        rw (h.0, (waits_clear l b x.of f (site.wait t) (ap waiting (sym ce) ∙ h.1) F).1)
        (omega (arith, want_at_most x.of (site.wait t)))
    want_falls l b k f c ce (inr h) F = rw (h.1, ce, want_keeps x.of (site.wait t)) (omega arith)

    -- A terminal's step lowers the potential.
    after_terminal_falls : (l b : ℕ) (f : ℕ → Place V) → PlaceFree l b f (site.wait t) → site.down t ≡ x ∷ xs → (k : Took V)
        → Ends x.msg k (projection sizes site x.of t)
        → Cheaper x.msg k (wait_of x.of (site.wait t))
        → potential sizes (after_terminal sizes site t x xs k) < potential sizes site
    after_terminal_falls l b f F e k E p =
        let w' : Want = want_of x.of k.wait (site.wait t) in
        let ys : List (Mail V) = site.up t ++ mails x.of k.reply in
        let d : load cost_down (site.down t) ≡ cost_down x.msg + load cost_down xs = rw e refl in
        omega (
          arith,
          total_changed want_weight site.wait sizes.n t w' lt,
          total_changed (load (cost_up sizes.n)) site.up sizes.n t ys lt,
          total_changed (load cost_down) site.down sizes.n t xs lt,
          d,
          load-++ (cost_up sizes.n) (site.up t) (mails x.of k.reply),
          load_mails (cost_up sizes.n) x.of k.reply,
          want_falls l b k f (projection sizes site x.of t) refl E F,
          p sizes.n,
        )

  module _ (sizes : Sizes) (site : Site V) (last : ℕ → V) (I : Invariant sizes site last) where
    -- Accepted, with a lower potential; or refused, and nothing changed.
    abbrev FallsTo : Out V → Type 0
    FallsTo o =
        ((o.code ≡ 0) × Invariant sizes o.site last × (potential sizes o.site < potential sizes site))
        ⊎ ((eqb o.code 0 ≡ false) × (o.site ≡ site))

    -- The home's turn.
    home_falls : (t : ℕ) → t < sizes.n → (ys : List (Mail V)) → site.up t ≡ ys → FallsTo (home_step sizes site t)
    unfolding home_step
    home_falls t lt [] e = rw (lt-ltb t sizes.n lt, e) (inr (refl, refl))
    home_falls t lt (x ∷ xs) e =
        let k = home_turn_gives sizes site last I t lt x xs e in
        subst
        FallsTo
        (sym k.1)
        (cond_both (room sizes.down_depth site.down sizes.n k.0.to) (out (after_home site t x xs k.0) 0 none)
        (out site 3 none) FallsTo (λ _. inl (refl, k.2, after_home_falls sizes site t lt x xs e k.0 k.3))
        (λ _. inr (refl, refl)))

    -- A terminal's turn.
    terminal_falls : (t : ℕ) → t < sizes.n → (ys : List (Mail V)) → site.down t ≡ ys → FallsTo (terminal_step sizes site t)
    unfolding terminal_step
    terminal_falls t lt [] e = rw (lt-ltb t sizes.n lt, e) (inr (refl, refl))
    terminal_falls t lt (x ∷ xs) e =
        let k = terminal_turn_gives sizes site last I t lt x xs e in
        subst
        FallsTo
        (sym k.1)
        (cond_both (room_up sizes.up_depth (site.up t) k.0.reply) (out (after_terminal sizes site t x xs k.0) 0 none)
        (out site 3 none) FallsTo (λ _. inl (refl, k.2, falls k.0 k.3 k.4)) (λ _. inr (refl, refl)))
      where
        falls : (k : Took V) → Ends x.msg k (projection sizes site x.of t)
            → Cheaper x.msg k (wait_of x.of (site.wait t))
            → potential sizes (after_terminal sizes site t x xs k) < potential sizes site
        falls = after_terminal_falls sizes site t lt x xs sizes.l sizes.b (site.place t) (I.place_free t lt) e

    -- The home's turn at no terminal.
    home_out_of : (t : ℕ) → ltb t sizes.n ≡ false → FallsTo (home_step sizes site t)
    unfolding home_step
    home_out_of t e = rw e (inr (refl, refl))

    -- The turn of no terminal.
    terminal_out_of : (t : ℕ) → ltb t sizes.n ≡ false → FallsTo (terminal_step sizes site t)
    unfolding terminal_step
    terminal_out_of t e = rw e (inr (refl, refl))

    -- Each step.
    step_falls : (s : Step) → FallsTo (step sizes site (call_of s))
    unfolding step
    step_falls (by_home t) = go (ltb t sizes.n) refl
      where
        go : (b : Bool) → ltb t sizes.n ≡ b → FallsTo (home_step sizes site t)
        go true e = home_falls t (ltb-true t sizes.n e) (site.up t) refl
        go false e = home_out_of t e
    step_falls (by_terminal t) = go (ltb t sizes.n) refl
      where
        go : (b : Bool) → ltb t sizes.n ≡ b → FallsTo (terminal_step sizes site t)
        go true e = terminal_falls t (ltb-true t sizes.n e) (site.down t) refl
        go false e = terminal_out_of t e

  -- Of any list of steps, no more are accepted than the potential.
  pub accepted_within_potential : (sizes : Sizes) (last : ℕ → V) (ss : List Step) (site : Site V) → Invariant sizes site last
      → accepted sizes site ss ≤ potential sizes site
  unfolding accepted
  accepted_within_potential sizes last [] site I = omega arith
  accepted_within_potential sizes last (s ∷ ss) site I =
      go (step_falls sizes site last I s) (accepted_within_potential sizes last ss)
    where
      go : FallsTo sizes site last I (step sizes site (call_of s))
          → ((site : Site V) → Invariant sizes site last → accepted sizes site ss ≤ potential sizes site)
          → cond (eqb (step sizes site (call_of s)).code 0) 1 0 + accepted sizes (step sizes site (call_of s)).site ss
          ≤ potential sizes site
      go (inl h) ih = rw h.0 (omega (arith, h.2, ih (step sizes site (call_of s)).site h.1))
      go (inr h) ih = rw (h.0, h.1) (omega (arith, ih site I))
