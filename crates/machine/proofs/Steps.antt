-- Every call keeps the invariant, accepted or refused, with the last values as the call leaves them. All laws of the
-- machine follow from this and from the invariant of one state.
use Rattle.std.proofs.Common.{◌≡◌, ℕ, zero, suc, ◌+◌, ◌%◌, ◌<◌, true, cond, ◌&&◌, ltb, leb, List, [], ◌∷◌, length, sym, refl, ap, subst, arith, ltb-true, lt-ltb}
use mathlib.Core.Option.{none}
use lib.Dec.{eqb-suc-zero}
use Rattle.std.proofs.lemmas.Bool.{cond_both}
use Rattle.machine.specs.Machine.{Access, reading, writing, Copy, no_copy, readable, writable, same}
use Rattle.machine.specs.Site.{Mail, Want, rests, wants, Sizes, Site, copy_of}
use Rattle.machine.specs.Turns.{room_up, Out, out, room, home_lane, home_step, terminal_lane, terminal_step, after_home, after_terminal}
use Rattle.machine.specs.Calls.{evict, after_asking, miss, read_at, write_at, after_releasing, release_at, checked, Call, read, release, write, home_turn, terminal_turn, step, effect}
use Rattle.machine.specs.Invariant.{RecordsBelow, Invariant}
use Rattle.machine.proofs.TerminalAsks.{may_ask}
use Rattle.machine.proofs.Writing.{is_writable}
use Rattle.machine.proofs.HomeOnSite.{home-on-site}
use Rattle.machine.proofs.TerminalOnSite.{terminal_on_site}
use Rattle.machine.proofs.CallsOnSite.{after_asking_kept, after_releasing_kept, after_writing_kept}

module _ {V : Type 0} where
  module _ (sizes : Sizes) (site : Site V) (last : ℕ → V) (I : Invariant sizes site last) where
    -- The invariant after a call that writes nothing.
    abbrev Kept : Out V → Type 0
    Kept o = Invariant sizes o.site last

    -- The home's turn.
    home_kept : (t : ℕ) → t < sizes.n → (ys : List (Mail V)) → site.up t ≡ ys → Kept (home_lane sizes site t ys)
    home_kept t lt [] e = I
    home_kept t lt (x ∷ xs) e =
        let k = home-on-site sizes site last I t lt x xs e in
        let h : RecordsBelow sizes.b (x ∷ xs) = subst (RecordsBelow sizes.b) e (I.ups t lt) in
        rw
        (lt-ltb x.of sizes.b h.0, k.1)
        (cond_both (room sizes.down_depth site.down sizes.n k.0.to) (out (after_home site t x xs k.0) 0 none)
        (out site 3 none) Kept (λ _. k.2.0) (λ _. I))

    -- A terminal's turn.
    terminal_kept : (t : ℕ) → t < sizes.n → (ys : List (Mail V)) → site.down t ≡ ys → Kept (terminal_lane sizes site t ys)
    terminal_kept t lt [] e = I
    terminal_kept t lt (x ∷ xs) e =
        let k = terminal_on_site sizes site last I t lt x xs e in
        let h : RecordsBelow sizes.b (x ∷ xs) = subst (RecordsBelow sizes.b) e (I.downs t lt) in
        rw
        (lt-ltb x.of sizes.b h.0, k.2, k.1)
        (cond_both (room_up sizes.up_depth (site.up t) k.0.reply) (out (after_terminal sizes site t x xs k.0) 0 none)
        (out site 3 none) Kept (λ _. k.3) (λ _. I))

    -- A request, or its refusal.
    asks_kept : (t r : ℕ) (k : Access) → t < sizes.n → r < sizes.b
        → may_ask k (copy_of r (site.place t (r % sizes.l))) ≡ true → (w : Want) → site.wait t ≡ w → (P : Out V → Type 0)
        → ((c : ℕ) → 0 < c → P (out site c none))
        → (Invariant sizes (after_asking sizes site t r k) last → P (out (after_asking sizes site t r k) 1 none))
        → P (miss sizes site t r k w)
    asks_kept t r k lt rl m (wants j x) e P nay y = nay 2 (omega arith)
    asks_kept t r k lt rl m rests e P nay y =
        cond_both
        (leb (length (site.up t) + (length (evict (site.place t (r % sizes.l))) + 1)) sizes.up_depth)
        (out (after_asking sizes site t r k) 1 none)
        (out site 3 none)
        P
        (λ _. y (after_asking_kept sizes site last I t lt r rl k e m))
        (λ _. nay 3 (omega arith))

    -- A read.
    read_kept : (t r : ℕ) → t < sizes.n → r < sizes.b → (c : Copy V) → copy_of r (site.place t (r % sizes.l)) ≡ c
        → Kept (read_at sizes site t r c)
    read_kept t r lt rl no_copy e =
        asks_kept t r reading lt rl (ap (may_ask reading) e) (site.wait t) refl Kept (λ _ _. I) (λ J. J)
    read_kept t r lt rl (readable v) e = I
    read_kept t r lt rl (writable v) e = I

    -- A release.
    release_kept : (t r : ℕ) → t < sizes.n → r < sizes.b → (c : Copy V) → copy_of r (site.place t (r % sizes.l)) ≡ c
        → Kept (release_at sizes site t r c)
    release_kept t r lt rl no_copy e = I
    release_kept t r lt rl (readable v) e = after_releasing_kept sizes site last I t lt r rl
    release_kept t r lt rl (writable v) e =
        cond_both (leb (length (site.up t) + 1) sizes.up_depth) (out (after_releasing sizes site t r) 0 none)
        (out site 3 none) Kept (λ _. after_releasing_kept sizes site last I t lt r rl) (λ _. I)

    -- The invariant after a write, with the last values as the code tells.
    abbrev Wrote : ℕ → ℕ → V → Out V → Type 0
    Wrote t r v o = Invariant sizes o.site (effect (write t r v) o.code last)

    -- A write that is refused leaves the last values.
    refused_write : (t r : ℕ) (v : V) (c : ℕ) → 0 < c → Wrote t r v (out site c none)
    refused_write t r v zero h = absurd (omega arith)
    refused_write t r v (suc c) h =
        subst (λ b. Invariant sizes site (λ x. cond (b && same r x) v (last x))) (sym (eqb-suc-zero c)) I

    -- A write.
    write_kept : (t r : ℕ) (v : V) → t < sizes.n → r < sizes.b → (c : Copy V) → copy_of r (site.place t (r % sizes.l)) ≡ c
        → Wrote t r v (write_at sizes site t r v c)
    write_kept t r v lt rl no_copy e =
        asks_kept t r writing lt rl (ap (may_ask writing) e) (site.wait t) refl (Wrote t r v) (refused_write t r v) (λ J. J)
    write_kept t r v lt rl (readable w) e =
        asks_kept t r writing lt rl (ap (may_ask writing) e) (site.wait t) refl (Wrote t r v) (refused_write t r v) (λ J. J)
    write_kept t r v lt rl (writable w) e = after_writing_kept sizes site last I t lt r rl v (ap is_writable e)

    -- A call that is refused for its numbers changes nothing.
    checked_kept : (P : Out V → Type 0) (t r : ℕ) (o : Out V) → ((c : ℕ) → 0 < c → P (out site c none))
        → (t < sizes.n → r < sizes.b → P o) → P (checked sizes site t r o)
    checked_kept P t r o nay y =
        cond_both
        (ltb t sizes.n)
        (cond (ltb r sizes.b) o (out site 8 none))
        (out site 7 none)
        P
        (λ a.
        cond_both (ltb r sizes.b) o (out site 8 none) P (λ b. y (ltb-true t sizes.n a) (ltb-true r sizes.b b))
        (λ _. nay 8 (omega arith)))
        (λ _. nay 7 (omega arith))

    -- Every call.
    pub step_kept : (c : Call V) → Invariant sizes (step sizes site c).site (effect c (step sizes site c).code last)
    unfolding step home_step terminal_step
    step_kept (read t r) =
        checked_kept Kept t r (read_at sizes site t r (copy_of r (site.place t (r % sizes.l)))) (λ _ _. I)
        (λ lt rl. read_kept t r lt rl (copy_of r (site.place t (r % sizes.l))) refl)
    step_kept (release t r) =
        checked_kept Kept t r (release_at sizes site t r (copy_of r (site.place t (r % sizes.l)))) (λ _ _. I)
        (λ lt rl. release_kept t r lt rl (copy_of r (site.place t (r % sizes.l))) refl)
    step_kept (write t r v) =
        checked_kept (Wrote t r v) t r (write_at sizes site t r v (copy_of r (site.place t (r % sizes.l)))) (refused_write t r v)
        (λ lt rl. write_kept t r v lt rl (copy_of r (site.place t (r % sizes.l))) refl)
    step_kept (home_turn t) =
        cond_both (ltb t sizes.n) (home_lane sizes site t (site.up t)) (out site 7 none) Kept
        (λ a. home_kept t (ltb-true t sizes.n a) (site.up t) refl) (λ _. I)
    step_kept (terminal_turn t) =
        cond_both (ltb t sizes.n) (terminal_lane sizes site t (site.down t)) (out site 7 none) Kept
        (λ a. terminal_kept t (ltb-true t sizes.n a) (site.down t) refl) (λ _. I)
