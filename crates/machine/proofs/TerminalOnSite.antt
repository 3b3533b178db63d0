-- A terminal's step on the whole site: it expects its oldest message, its place is free for it, and the invariant is kept.
-- No other record sees a change.
use Rattle.std.proofs.Common.{◌≡◌, ℕ, ◌%◌, ◌<◌, Bool, true, false, cond, ◌⊎◌, List, ◌∷◌, ◌++◌, sym, refl, ap, ◌∙◌, subst, inl, inr, arith}
use mathlib.Core.Option.{some}
use Rattle.machine.specs.Machine.{no_copy, Cell, same}
use Rattle.machine.specs.Site.{Mail, mails, Place, Want, rests, wants, Sizes, Site, messages_about, copy_of, wait_of, projection, clear, place_of, want_of, put_place}
use Rattle.machine.specs.TerminalRules.{Took, receive, lands}
use Rattle.machine.specs.Turns.{after_terminal}
use Rattle.machine.specs.Shapes.{Shape}
use Rattle.machine.specs.Invariant.{RecordInvariant, InItsPlace, RecordsBelow, PlaceFree, Invariant}
use Rattle.machine.proofs.Counts.{Same, eq, ne, view, same_refl, same_tells}
use Rattle.machine.proofs.Lanes.{about_mine, about_other, sent_mine, sent_other}
use Rattle.machine.proofs.TerminalAsks.{Moved}
use Rattle.machine.proofs.TerminalTakes.{Cheaper, taken, Takes, Ends, take_good}
use Rattle.machine.proofs.Places.{copy_place, other_place, want_mine, want_other, lands_clear, free_ext, place_of_in_place, waits_clear, clear_void, want_keeps, row_all, row_there}
use Rattle.machine.proofs.Moves.{record_same, record_moved, mails-++, mails_of, changed_all}

module _ {V : Type 0} where
  module _
      (sizes : Sizes) (site : Site V) (last : ℕ → V) (I : Invariant sizes site last) (t : ℕ) (lt : t < sizes.n) (x : Mail V)
      (xs : List (Mail V)) (e : site.down t ≡ x ∷ xs) where
    -- The lane is about known records.
    heads : RecordsBelow sizes.b (x ∷ xs)
    heads = subst (RecordsBelow sizes.b) e (I.downs t lt)

    -- The place for the record.
    abbrev pl : Place V
    pl = site.place t (x.of % sizes.l)

    -- The terminal's part of the record.
    abbrev c : Cell V
    c = projection sizes site x.of t

    -- Other terminals' parts stay.
    apart : (k : Took V) (r u : ℕ) → (t ≡ u → ⊥)
        → projection sizes (after_terminal sizes site t x xs k) r u ≡ projection sizes site r u
    apart k r u d = grind (arith, same_tells)

    -- The terminal's part of the record is what taking the message makes it.
    here : (k : Took V) → Ends x.msg k c → projection sizes (after_terminal sizes site t x xs k) x.of t ≡ taken k c
    here k h = grind (arith, same_tells, same_refl, copy_place, want_mine, sent_mine, about_mine, e)

    -- The place is clear for the record, or the copy goes.
    frees : (k : Took V) → Ends x.msg k c → (clear x.of pl ≡ true) ⊎ (k.copy ≡ no_copy)
    frees k (inl h) =
        inl (waits_clear sizes.l sizes.b x.of (site.place t) (site.wait t) h.1 (I.place_free t lt)).0
    frees k (inr h) = inr h.2

    -- The terminal's parts of other records stay.
    there : (k : Took V) → Ends x.msg k c → (r : ℕ) → (x.of ≡ r → ⊥)
        → projection sizes (after_terminal sizes site t x xs k) r t ≡ projection sizes site r t
    there k h r d = grind (arith, same_tells, same_refl, other_place, want_other, sent_other, about_other, e, frees k h)

    -- So the invariant of the site is kept.
    after_terminal_kept : (k : Took V) → Ends x.msg k c
        → Moved (last x.of) ((I.each x.of heads.0).shape t) (taken k c)
        → Invariant sizes (after_terminal sizes site t x xs k) last
    after_terminal_kept k h m =
        record {
          wide = I.wide;
          each = λ r l. go r l (same x.of r) (view x.of r);
          in_place =
              row_all (λ u q y. InItsPlace sizes.l sizes.b q y) sizes.n t (x.of % sizes.l)
              (place_of x.of k.copy pl) site.place
              (λ _. place_of_in_place sizes.l sizes.b x.of k.copy pl heads.0 (I.in_place t (x.of % sizes.l) lt))
              I.in_place;
          place_free = λ u l. freed u l (same t u) (view t u);
          ups =
              changed_all (λ u y. RecordsBelow sizes.b y) sizes.n t (site.up t ++ mails x.of k.reply) site.up
              (λ _.
              mails-++ sizes.b (site.up t) (mails x.of k.reply) (I.ups t lt)
              (mails_of sizes.b x.of k.reply heads.0))
              I.ups;
          downs = changed_all (λ u y. RecordsBelow sizes.b y) sizes.n t xs site.down (λ _. heads.1) I.downs;
        }
      where
        go : (r : ℕ) → r < sizes.b → (b : Bool) → Same x.of r b
            → RecordInvariant sizes.n (last r) (site.homes r) (projection sizes (after_terminal sizes site t x xs k) r)
        go r l true (eq q) =
            subst
            (λ y. RecordInvariant sizes.n (last y) (site.homes y) (projection sizes (after_terminal sizes site t x xs k) y))
            q
            (record_moved
            sizes.n
            (last x.of)
            (site.homes x.of)
            (projection sizes site x.of)
            (projection sizes (after_terminal sizes site t x xs k) x.of)
            t
            lt
            (λ u _ d. apart k x.of u d)
            (I.each x.of heads.0)
            (subst (Moved (last x.of) ((I.each x.of heads.0).shape t)) (sym (here k h)) m))
        go r l false (ne d) =
            record_same sizes.n (last r) (site.homes r) (projection sizes site r)
            (projection sizes (after_terminal sizes site t x xs k) r) (λ u _. at u (same t u) (view t u)) (I.each r l)
          where
            at : (u : ℕ) (b : Bool) → Same t u b
                → projection sizes (after_terminal sizes site t x xs k) r u ≡ projection sizes site r u
            at u true (eq q) =
                subst (λ y. projection sizes (after_terminal sizes site t x xs k) r y ≡ projection sizes site r y) q (there k h r d)
            at u false (ne q) = apart k r u q

        now : Ends x.msg k c
            → PlaceFree sizes.l sizes.b (put_place site.place t (x.of % sizes.l) (place_of x.of k.copy pl) t)
            (want_of x.of k.wait (site.wait t))
        now (inl y) =
            rw (y.0, (waits_clear sizes.l sizes.b x.of (site.place t) (site.wait t) y.1 (I.place_free t lt)).1) tt
        now (inr y) =
            rw (y.1, want_keeps x.of (site.wait t), y.2)
            (free_ext sizes.l sizes.b
            (λ q. cond (same (x.of % sizes.l) q) (place_of x.of no_copy pl) (site.place t q))
            (put_place site.place t (x.of % sizes.l) (place_of x.of no_copy pl) t) (site.wait t)
            (λ q. rw (same_refl t) refl) (kept (site.wait t) (I.place_free t lt)))
          where
            kept : (w : Want) → PlaceFree sizes.l sizes.b (site.place t) w
                → PlaceFree sizes.l sizes.b (λ q. cond (same (x.of % sizes.l) q) (place_of x.of no_copy pl) (site.place t q)) w
            kept rests z = tt
            kept (wants j r) z = (z.0, is (same (x.of % sizes.l) (r % sizes.l)) (view (x.of % sizes.l) (r % sizes.l)))
              where
                is : (b : Bool) → Same (x.of % sizes.l) (r % sizes.l) b
                    → clear r (cond b (place_of x.of no_copy pl) (site.place t (r % sizes.l))) ≡ true
                is true (eq q) = clear_void x.of r pl (subst (λ y. clear r (site.place t y) ≡ true) (sym q) z.1)
                is false (ne q) = z.1

        freed : (u : ℕ) → u < sizes.n → (b : Bool) → Same t u b
            → PlaceFree sizes.l sizes.b (put_place site.place t (x.of % sizes.l) (place_of x.of k.copy pl) u)
            (cond b (want_of x.of k.wait (site.wait t)) (site.wait u))
        freed u l true (eq q) =
            subst
            (λ y.
            PlaceFree sizes.l sizes.b
            (put_place site.place t (x.of % sizes.l) (place_of x.of k.copy pl) y)
            (want_of x.of k.wait (site.wait t)))
            q (now h)
        freed u l false (ne d) =
            free_ext sizes.l sizes.b (site.place u)
            (put_place site.place t (x.of % sizes.l) (place_of x.of k.copy pl) u) (site.wait u)
            (row_there t (x.of % sizes.l) u (place_of x.of k.copy pl) site.place d) (I.place_free u l)

    -- The terminal expects its oldest message, has the place for it, keeps the invariant, and the step costs something.
    pub terminal_on_site : (k : Took V)
        × (receive x.msg (copy_of x.of pl) (wait_of x.of (site.wait t)) ≡ some k)
        × (lands x.msg x.of pl ≡ true)
        × Invariant sizes (after_terminal sizes site t x xs k) last
        × Ends x.msg k c
        × Cheaper x.msg k c.wait
    terminal_on_site =
        let s : Shape = (I.each x.of heads.0).shape t in
        let g : Takes (last x.of) s c c.down
        = subst (λ y. Takes (last x.of) s y y.down) (sym ((I.each x.of heads.0).is t lt)) (take_good (last x.of) s) in
        let h : Takes (last x.of) s c (x.msg ∷ messages_about x.of xs)
        = subst (Takes (last x.of) s c) (ap (messages_about x.of) e ∙ about_mine x.of x.msg xs) g in
        (h.0, h.1, land h.0 h.2, after_terminal_kept h.0 h.2 h.3, h.2, h.4)
      where
        land : (k : Took V) → Ends x.msg k c → lands x.msg x.of pl ≡ true
        land k (inl y) =
            lands_clear x.msg x.of pl
            (waits_clear sizes.l sizes.b x.of (site.place t) (site.wait t) y.1 (I.place_free t lt)).0
        land k (inr y) = subst (λ m. lands m x.of pl ≡ true) (sym y.0) refl
