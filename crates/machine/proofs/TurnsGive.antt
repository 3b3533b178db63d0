-- What a turn of the home or of a terminal gives where a message waits: it is expected, so the turn is refused for a full
-- lane at the most; the invariant is kept; and the step costs something.
use Rattle.std.proofs.Common.{◌≡◌, ℕ, ◌<◌, cond, List, ◌∷◌, refl, subst, lt-ltb}
use mathlib.Core.Option.{none}
use Rattle.machine.specs.HomeRules.{Act}
use Rattle.machine.specs.Site.{Mail, Sizes, Site, wait_of, projection}
use Rattle.machine.specs.TerminalRules.{Took}
use Rattle.machine.specs.Turns.{room_up, out, room, home_step, terminal_step, after_home, after_terminal}
use Rattle.machine.specs.Invariant.{RecordsBelow, Invariant}
use Rattle.machine.proofs.NewShapes.{CostsLess}
use Rattle.machine.proofs.TerminalTakes.{Cheaper, Ends}
use Rattle.machine.proofs.HomeOnSite.{home-on-site}
use Rattle.machine.proofs.TerminalOnSite.{terminal_on_site}

module _ {V : Type 0} where
  module _ (sizes : Sizes) (site : Site V) (last : ℕ → V) (I : Invariant sizes site last) where
    -- The home's turn at a lane where a message waits.
    pub home_turn_gives : (t : ℕ) → t < sizes.n → (x : Mail V) (xs : List (Mail V)) → site.up t ≡ x ∷ xs
        → (a : Act V)
        × (home_step sizes site t
        ≡ cond (room sizes.down_depth site.down sizes.n a.to) (out (after_home site t x xs a) 0 none) (out site 3 none))
        × Invariant sizes (after_home site t x xs a) last
        × CostsLess sizes.n x.msg a
    unfolding home_step
    home_turn_gives t lt x xs e =
        let k = home-on-site sizes site last I t lt x xs e in
        let h : RecordsBelow sizes.b (x ∷ xs) = subst (RecordsBelow sizes.b) e (I.ups t lt) in
        (k.0, rw (lt-ltb t sizes.n lt, e, lt-ltb x.of sizes.b h.0, k.1) refl, k.2.0, k.2.1)

    -- A terminal's turn at its lane where a message waits.
    pub terminal_turn_gives : (t : ℕ) → t < sizes.n → (x : Mail V) (xs : List (Mail V)) → site.down t ≡ x ∷ xs
        → (k : Took V)
        × (terminal_step sizes site t
        ≡ cond (room_up sizes.up_depth (site.up t) k.reply) (out (after_terminal sizes site t x xs k) 0 none)
        (out site 3 none))
        × Invariant sizes (after_terminal sizes site t x xs k) last × Ends x.msg k (projection sizes site x.of t)
        × Cheaper x.msg k (wait_of x.of (site.wait t))
    unfolding terminal_step
    terminal_turn_gives t lt x xs e =
        let k = terminal_on_site sizes site last I t lt x xs e in
        let h : RecordsBelow sizes.b (x ∷ xs) = subst (RecordsBelow sizes.b) e (I.downs t lt) in
        (k.0, rw (lt-ltb t sizes.n lt, e, lt-ltb x.of sizes.b h.0, k.2, k.1) refl, k.3, k.4, k.5)
