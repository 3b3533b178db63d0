-- With deep lanes no call is refused for a full one: the bound on lanes holds of the site after the step, so the room was
-- there before it.
use Rattle.std.proofs.Common.{◌≡◌, ℕ, zero, suc, ◌+◌, ◌%◌, ◌<◌, ◌≤◌, Bool, true, false, cond, ltb, leb, List, [], ◌∷◌, ◌++◌, length, refl, ap, ◌∙◌, append_assoc, arith, length-append, ltb-true, lt-ltb, le-leb}
use mathlib.Core.Option.{none}
use Rattle.std.proofs.lemmas.Bool.{cond_both}
use Rattle.machine.specs.Machine.{Access, reading, writing, Copy, no_copy, readable, writable, Msg, REQ, same}
use Rattle.machine.specs.HomeRules.{Act}
use Rattle.machine.specs.Site.{Mail, mail, mails, Place, empty, shared, owned, Want, rests, wants, Sizes, Site, changed, copy_of}
use Rattle.machine.specs.Turns.{room_up, Out, out, room, home_step, terminal_step, after_home, after_terminal}
use Rattle.machine.specs.Calls.{evict, after_asking, miss, read_at, write_at, after_releasing, release_at, checked, Call, read, release, write, home_turn, terminal_turn, step}
use Rattle.machine.specs.Invariant.{Invariant}
use Rattle.machine.specs.Claims.{Deep}
use Rattle.machine.proofs.Counts.{clash, same_refl}
use Rattle.machine.proofs.Weights.{length_mails}
use Rattle.machine.proofs.TerminalAsks.{may_ask}
use Rattle.machine.proofs.Writing.{is_writable}
use Rattle.machine.proofs.CallsOnSite.{after_asking_kept, after_releasing_kept}
use Rattle.machine.proofs.LaneBounds.{up_bound, down_bound}
use Rattle.machine.proofs.TurnsGive.{home_turn_gives, terminal_turn_gives}

module _ {V : Type 0} where
  -- A lane with room can take the reply.
  pub room_up_true : (d : ℕ) (xs : List (Mail V)) (ms : List (Msg V)) → length xs + length ms ≤ d → room_up d xs ms ≡ true
  room_up_true d xs [] h = refl
  room_up_true d xs (m ∷ ms) h = le-leb (length xs + length (m ∷ ms)) d h

  -- Receivers that have room have room together.
  pub room_from : (d : ℕ) (down : ℕ → List (Mail V)) (m : ℕ) (p : ℕ → Bool)
      → ((u : ℕ) → u < m → p u ≡ true → length (down u) < d) → room d down m p ≡ true
  unfolding room
  room_from d down zero p h = refl
  room_from d down (suc m) p h =
      rw (go (p m) refl, room_from d down m p (λ u l. h u (omega arith))) refl
    where
      go : (b : Bool) → p m ≡ b → cond b (ltb (length (down m)) d) true ≡ true
      go true e = lt-ltb (length (down m)) d (h m (omega arith) e)
      go false e = refl

  -- A writable copy makes one message.
  evict_one : (r : ℕ) (pl : Place V) → is_writable (copy_of r pl) ≡ true → length (evict pl) ≡ 1
  unfolding copy_of
  evict_one r empty h = clash h
  evict_one r (shared x v) h = go (same x r) h
    where
      go : {A : Type 0} (b : Bool) → is_writable (cond b (readable v) no_copy) ≡ true → A
      go true y = clash y
      go false y = clash y
  evict_one r (owned x v) h = refl

  module _ (sizes : Sizes) (site : Site V) (last : ℕ → V) (I : Invariant sizes site last) where
    module _ (D : Deep sizes) where
      -- The receivers had room: their lanes keep the bound afterwards.
      home_room : (t : ℕ) → t < sizes.n → (x : Mail V) (xs : List (Mail V)) (a : Act V)
          → Invariant sizes (after_home site t x xs a) last → room sizes.down_depth site.down sizes.n a.to ≡ true
      home_room t lt x xs a J =
          room_from sizes.down_depth site.down sizes.n a.to
          (λ u l e. go u (a.to u) e (down_bound sizes (after_home site t x xs a) last J u l))
        where
          go : (u : ℕ) (b : Bool) → b ≡ true
              → length (cond b (site.down u ++ (mail x.of a.msg ∷ [])) (site.down u)) ≤ sizes.b + 1
              → length (site.down u) < sizes.down_depth
          go u true e h = omega (arith, D.1, length-append (site.down u) (mail x.of a.msg ∷ []))
          go u false e h = clash e

      -- The lane had room: it keeps the bound afterwards.
      up_room : (new : Site V) → Invariant sizes new last → (t : ℕ) → t < sizes.n → (ys : List (Mail V))
          → new.up t ≡ site.up t ++ ys → length (site.up t) + length ys ≤ sizes.up_depth
      up_room new J t lt ys e =
          omega (arith, D.0, up_bound sizes new last J t lt, ap length e, length-append (site.up t) ys)

      -- The member that changed.
      changed_here : {A : Type 0} (f : ℕ → A) (t : ℕ) (a : A) → changed f t a t ≡ a
      changed_here f t a = rw (same_refl t) refl

      -- The home's turn is accepted where a message waits.
      pub home_accepts : (t : ℕ) → t < sizes.n → (x : Mail V) (xs : List (Mail V)) → site.up t ≡ x ∷ xs
          → (home_step sizes site t).code ≡ 0
      home_accepts t lt x xs e =
          let k = home_turn_gives sizes site last I t lt x xs e in
          rw (k.1, home_room t lt x xs k.0 k.2) refl

      -- A terminal's turn is accepted where a message waits.
      pub terminal_accepts : (t : ℕ) → t < sizes.n → (x : Mail V) (xs : List (Mail V)) → site.down t ≡ x ∷ xs
          → (terminal_step sizes site t).code ≡ 0
      terminal_accepts t lt x xs e =
          let k = terminal_turn_gives sizes site last I t lt x xs e in
          let h : length (site.up t) + length (mails x.of k.0.reply) ≤ sizes.up_depth
          = up_room (after_terminal sizes site t x xs k.0) k.2 t lt (mails x.of k.0.reply)
          (changed_here site.up t (site.up t ++ mails x.of k.0.reply)) in
          rw (k.1, room_up_true sizes.up_depth (site.up t) k.0.reply (omega (arith, h, length_mails x.of k.0.reply))) refl

      -- Not refused for a full lane.
      abbrev Fine : Out V → Type 0
      Fine o = o.code ≡ 3 → ⊥

      -- A request.
      miss_fine : (t r : ℕ) (k : Access) → t < sizes.n → r < sizes.b
          → may_ask k (copy_of r (site.place t (r % sizes.l))) ≡ true → (w : Want) → site.wait t ≡ w
          → Fine (miss sizes site t r k w)
      miss_fine t r k lt rl m (wants j x) e = λ y. omega arith
      miss_fine t r k lt rl m rests e =
          let h : length (site.up t) + length (evict (site.place t (r % sizes.l)) ++ (mail r (REQ k) ∷ [])) ≤ sizes.up_depth
          = up_room (after_asking sizes site t r k) (after_asking_kept sizes site last I t lt r rl k e m) t lt
          (evict (site.place t (r % sizes.l)) ++ (mail r (REQ k) ∷ []))
          (changed_here site.up t ((site.up t ++ evict (site.place t (r % sizes.l))) ++ (mail r (REQ k) ∷ []))
          ∙ append_assoc (site.up t) (evict (site.place t (r % sizes.l))) (mail r (REQ k) ∷ [])) in
          let g : leb (length (site.up t) + (length (evict (site.place t (r % sizes.l))) + 1)) sizes.up_depth ≡ true
          = le-leb (length (site.up t) + (length (evict (site.place t (r % sizes.l))) + 1)) sizes.up_depth
          (omega (arith, h, length-append (evict (site.place t (r % sizes.l))) (mail r (REQ k) ∷ []))) in
          rw g (λ y. omega arith)

      -- A read.
      read_fine : (t r : ℕ) → t < sizes.n → r < sizes.b → (c : Copy V) → copy_of r (site.place t (r % sizes.l)) ≡ c
          → Fine (read_at sizes site t r c)
      read_fine t r lt rl no_copy e = miss_fine t r reading lt rl (ap (may_ask reading) e) (site.wait t) refl
      read_fine t r lt rl (readable v) e = λ y. omega arith
      read_fine t r lt rl (writable v) e = λ y. omega arith

      -- A write.
      write_fine : (t r : ℕ) (v : V) → t < sizes.n → r < sizes.b → (c : Copy V) → copy_of r (site.place t (r % sizes.l)) ≡ c
          → Fine (write_at sizes site t r v c)
      write_fine t r v lt rl no_copy e = miss_fine t r writing lt rl (ap (may_ask writing) e) (site.wait t) refl
      write_fine t r v lt rl (readable w) e = miss_fine t r writing lt rl (ap (may_ask writing) e) (site.wait t) refl
      write_fine t r v lt rl (writable w) e = λ y. omega arith

      -- A release.
      release_fine : (t r : ℕ) → t < sizes.n → r < sizes.b → (c : Copy V) → copy_of r (site.place t (r % sizes.l)) ≡ c
          → Fine (release_at sizes site t r c)
      release_fine t r lt rl no_copy e = λ y. omega arith
      release_fine t r lt rl (readable v) e = λ y. omega arith
      release_fine t r lt rl (writable v) e =
          let h : length (site.up t) + length (evict (site.place t (r % sizes.l))) ≤ sizes.up_depth
          = up_room (after_releasing sizes site t r) (after_releasing_kept sizes site last I t lt r rl) t lt
          (evict (site.place t (r % sizes.l))) (changed_here site.up t (site.up t ++ evict (site.place t (r % sizes.l)))) in
          let g : leb (length (site.up t) + 1) sizes.up_depth ≡ true
          = le-leb (length (site.up t) + 1) sizes.up_depth
          (omega (arith, h, evict_one r (site.place t (r % sizes.l)) (ap is_writable e))) in
          rw g (λ y. omega arith)

      -- A call that is refused for its numbers.
      checked_fine : (t r : ℕ) (o : Out V) → (t < sizes.n → r < sizes.b → Fine o) → Fine (checked sizes site t r o)
      checked_fine t r o y =
          cond_both
          (ltb t sizes.n)
          (cond (ltb r sizes.b) o (out site 8 none))
          (out site 7 none)
          Fine
          (λ a.
          cond_both (ltb r sizes.b) o (out site 8 none) Fine (λ b. y (ltb-true t sizes.n a) (ltb-true r sizes.b b))
          (λ _ z. omega arith))
          (λ _ z. omega arith)

      -- The home's turn.
      home_fine : (t : ℕ) → t < sizes.n → (ys : List (Mail V)) → site.up t ≡ ys → Fine (home_step sizes site t)
      unfolding home_step
      home_fine t lt [] e = rw (lt-ltb t sizes.n lt, e) (λ z. omega arith)
      home_fine t lt (x ∷ xs) e = λ z. omega (arith, z, home_accepts t lt x xs e)

      -- A terminal's turn.
      terminal_fine : (t : ℕ) → t < sizes.n → (ys : List (Mail V)) → site.down t ≡ ys → Fine (terminal_step sizes site t)
      unfolding terminal_step
      terminal_fine t lt [] e = rw (lt-ltb t sizes.n lt, e) (λ z. omega arith)
      terminal_fine t lt (x ∷ xs) e = λ z. omega (arith, z, terminal_accepts t lt x xs e)

      -- The home's turn at no terminal.
      home_out_of : (t : ℕ) → ltb t sizes.n ≡ false → Fine (home_step sizes site t)
      unfolding home_step
      home_out_of t e = rw e (λ z. omega arith)

      -- The turn of no terminal.
      terminal_out_of : (t : ℕ) → ltb t sizes.n ≡ false → Fine (terminal_step sizes site t)
      unfolding terminal_step
      terminal_out_of t e = rw e (λ z. omega arith)

      -- With deep lanes no call is refused for a full one.
      pub step_never_full : (c : Call V) → Fine (step sizes site c)
      unfolding step
      step_never_full (read t r) =
          checked_fine t r (read_at sizes site t r (copy_of r (site.place t (r % sizes.l))))
          (λ lt rl. read_fine t r lt rl (copy_of r (site.place t (r % sizes.l))) refl)
      step_never_full (release t r) =
          checked_fine t r (release_at sizes site t r (copy_of r (site.place t (r % sizes.l))))
          (λ lt rl. release_fine t r lt rl (copy_of r (site.place t (r % sizes.l))) refl)
      step_never_full (write t r v) =
          checked_fine t r (write_at sizes site t r v (copy_of r (site.place t (r % sizes.l))))
          (λ lt rl. write_fine t r v lt rl (copy_of r (site.place t (r % sizes.l))) refl)
      step_never_full (home_turn t) = go (ltb t sizes.n) refl
        where
          go : (b : Bool) → ltb t sizes.n ≡ b → Fine (home_step sizes site t)
          go true e = home_fine t (ltb-true t sizes.n e) (site.up t) refl
          go false e = home_out_of t e
      step_never_full (terminal_turn t) = go (ltb t sizes.n) refl
        where
          go : (b : Bool) → ltb t sizes.n ≡ b → Fine (terminal_step sizes site t)
          go true e = terminal_fine t (ltb-true t sizes.n e) (site.down t) refl
          go false e = terminal_out_of t e
