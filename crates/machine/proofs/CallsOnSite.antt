-- A release, a request and a write in place keep the invariant of the site.
use Rattle.std.proofs.Common.{◌≡◌, ℕ, ◌%◌, ◌<◌, Bool, true, false, cond, [], ◌∷◌, ◌++◌, sym, refl, ap, ◌∙◌, subst, arith}
use Rattle.machine.specs.Machine.{Access, writable, REQ, cell, same}
use Rattle.machine.specs.Site.{mail, Place, empty, owned, rests, wants, Sizes, Site, messages_about, copy_of, wait_of, projection, clear, put_place}
use Rattle.machine.specs.Calls.{evict, cleared, after_asking, after_writing, after_releasing}
use Rattle.machine.specs.Invariant.{RecordInvariant, InItsPlace, RecordsBelow, PlaceFree, Invariant}
use Rattle.machine.proofs.Counts.{Same, eq, ne, view, same_refl, same_no}
use Rattle.machine.proofs.Lanes.{push_mine, push_other}
use Rattle.machine.proofs.TerminalAsks.{Moved, may_ask, can_ask, asked_cell, ask_good, gone}
use Rattle.machine.proofs.Places.{free_ext, row_all, row_here, row_there, clear_other}
use Rattle.machine.proofs.Writing.{is_writable, record_written}
use Rattle.machine.proofs.Moves.{mails-++, changed_all, cell_path}
use Rattle.machine.proofs.Evictions.{evict_mine, evict_apart, gone_is, cleared_mine, cleared_clear, cleared_in_place, want_is, want_not, rests_still, emptied, void_is, cleared_other, owned_is, owned_mine, owned_clear, can_is}
use Rattle.machine.proofs.OnePlace.{part_moved, part_same, part_gone, places_free, evicted_below}

module _ {V : Type 0} where
  module _
      (sizes : Sizes) (site : Site V) (last : ℕ → V) (I : Invariant sizes site last) (t : ℕ) (lt : t < sizes.n) (r : ℕ)
      (rl : r < sizes.b) where
    -- The place.
    abbrev pl : Place V
    pl = site.place t (r % sizes.l)

    -- A release.
    pub after_releasing_kept : Invariant sizes (after_releasing sizes site t r) last
    after_releasing_kept =
        record {
          wide = I.wide;
          each = λ q ql. go q ql (same (r % sizes.l) (q % sizes.l)) (view (r % sizes.l) (q % sizes.l));
          in_place =
              row_all (λ u q y. InItsPlace sizes.l sizes.b q y) sizes.n t (r % sizes.l) empty site.place (λ _. tt)
              I.in_place;
          place_free = places_free sizes site last I t lt r rl empty (λ q h. emptied V q);
          ups =
              changed_all (λ u y. RecordsBelow sizes.b y) sizes.n t (site.up t ++ evict pl) site.up
              (λ _. evicted_below sizes site last I t lt r rl) I.ups;
          downs = I.downs;
        }
      where
        apart : (q u : ℕ) → (t ≡ u → ⊥) → projection sizes (after_releasing sizes site t r) q u ≡ projection sizes site q u
        apart q u d = rw (same_no t u d) refl

        go : (q : ℕ) → q < sizes.b → (b : Bool) → Same (r % sizes.l) (q % sizes.l) b
            → RecordInvariant sizes.n (last q) (site.homes q) (projection sizes (after_releasing sizes site t r) q)
        go q ql true (eq e) =
            part_moved sizes site last I t lt r rl (after_releasing sizes site t r) apart (λ _. refl) q ql
            (subst (Moved (last q) ((I.each q ql).shape t)) (sym at) (part_gone sizes site last I t lt r rl q ql))
          where
            at : projection sizes (after_releasing sizes site t r) q t
                ≡ gone (projection sizes site q t).copy (projection sizes site q t)
            at =
                rw
                (same_refl t, ← e, same_refl (r % sizes.l), void_is q)
                (gone_is q pl (wait_of q (site.wait t)) (site.up t) (messages_about q (site.down t)))
        go q ql false (ne d) =
            part_same sizes site last I t lt r rl (after_releasing sizes site t r) apart (λ _. refl) q ql
            (rw (same_refl t, same_no (r % sizes.l) (q % sizes.l) d)
            (cell_path refl refl
            (evict_apart sizes.l sizes.b (r % sizes.l) q pl (site.up t) (I.in_place t (r % sizes.l) lt) d) refl))

    module _ (k : Access) (resting : site.wait t ≡ rests) (may : may_ask k (copy_of r pl) ≡ true) where
      -- Other terminals' parts stay.
      asked_apart : (q u : ℕ) → (t ≡ u → ⊥) → projection sizes (after_asking sizes site t r k) q u ≡ projection sizes site q u
      asked_apart q u d = rw (same_no t u d) refl

      -- The record that is asked for: the terminal's part asks.
      asked_here : projection sizes (after_asking sizes site t r k) r t ≡ asked_cell k (projection sizes site r t)
      asked_here = grind (arith, same_refl, cleared_mine, want_is, push_mine, evict_mine, may)

      -- A record of the same place: the copy goes.
      asked_near : (q : ℕ) → (r ≡ q → ⊥) → r % sizes.l ≡ q % sizes.l
          → projection sizes (after_asking sizes site t r k) q t
          ≡ gone (projection sizes site q t).copy (projection sizes site q t)
      asked_near q d e = grind (arith, same_refl, resting, rests_still, cleared_other, want_not, push_other, gone_is)

      -- A record of another place: nothing changes.
      asked_far : (q : ℕ) → (r ≡ q → ⊥) → (r % sizes.l ≡ q % sizes.l → ⊥)
          → projection sizes (after_asking sizes site t r k) q t ≡ projection sizes site q t
      asked_far q d e = grind (arith, same_refl, same_no, resting, rests_still, want_not, push_other, evict_apart, I.in_place)

      -- A request.
      pub after_asking_kept : Invariant sizes (after_asking sizes site t r k) last
      after_asking_kept =
          record {
            wide = I.wide;
            each =
                λ q ql. go q ql (same r q) (view r q) (same (r % sizes.l) (q % sizes.l)) (view (r % sizes.l) (q % sizes.l));
            in_place =
                row_all (λ u q y. InItsPlace sizes.l sizes.b q y) sizes.n t (r % sizes.l) (cleared k r pl)
                site.place
                (λ _. cleared_in_place sizes.l sizes.b k r (r % sizes.l) pl (I.in_place t (r % sizes.l) lt))
                I.in_place;
            place_free = λ u l. freed u l (same t u) (view t u);
            ups =
                changed_all (λ u y. RecordsBelow sizes.b y) sizes.n t ((site.up t ++ evict pl) ++ (mail r (REQ k) ∷ []))
                site.up
                (λ _.
                mails-++ sizes.b (site.up t ++ evict pl) (mail r (REQ k) ∷ [])
                (evicted_below sizes site last I t lt r rl) (rl, tt))
                I.ups;
            downs = I.downs;
          }
        where
          go : (q : ℕ) → q < sizes.b → (a : Bool) → Same r q a → (b : Bool) → Same (r % sizes.l) (q % sizes.l) b
              → RecordInvariant sizes.n (last q) (site.homes q) (projection sizes (after_asking sizes site t r k) q)
          go q ql true (eq e) b f =
              subst
              (λ y. RecordInvariant sizes.n (last y) (site.homes y) (projection sizes (after_asking sizes site t r k) y))
              e
              (part_moved sizes site last I t lt r rl (after_asking sizes site t r k) asked_apart (λ _. refl) r rl
              (subst (Moved (last r) ((I.each r rl).shape t)) (sym asked_here)
              (subst (λ c. can_ask k c ≡ true → Moved (last r) ((I.each r rl).shape t) (asked_cell k c))
              (sym ((I.each r rl).is t lt)) (ask_good (last r) k ((I.each r rl).shape t))
              (can_is k r (site.wait t) (copy_of r pl) (messages_about r (site.up t)) (messages_about r (site.down t))
              resting may))))
          go q ql false (ne d) true (eq f) =
              part_moved sizes site last I t lt r rl (after_asking sizes site t r k) asked_apart (λ _. refl) q ql
              (subst (Moved (last q) ((I.each q ql).shape t)) (sym (asked_near q d f)) (part_gone sizes site last I t lt r rl q ql))
          go q ql false (ne d) false (ne f) =
              part_same sizes site last I t lt r rl (after_asking sizes site t r k) asked_apart (λ _. refl) q ql (asked_far q d f)

          freed : (u : ℕ) → u < sizes.n → (b : Bool) → Same t u b
              → PlaceFree sizes.l sizes.b (put_place site.place t (r % sizes.l) (cleared k r pl) u)
              (cond b (wants k r) (site.wait u))
          freed u l true (eq e) =
              let here : put_place site.place t (r % sizes.l) (cleared k r pl) u (r % sizes.l) ≡ cleared k r pl
              = ap (λ y. put_place site.place t (r % sizes.l) (cleared k r pl) y (r % sizes.l)) (sym e)
              ∙ row_here t (r % sizes.l) (cleared k r pl) site.place in
              (rl, ap (clear r) here ∙ cleared_clear k r pl)
          freed u l false (ne d) =
              free_ext sizes.l sizes.b (site.place u) (put_place site.place t (r % sizes.l) (cleared k r pl) u)
              (site.wait u) (row_there t (r % sizes.l) u (cleared k r pl) site.place d) (I.place_free u l)

    -- A write in place.
    pub after_writing_kept : (v : V) → is_writable (copy_of r pl) ≡ true
        → Invariant sizes (after_writing sizes site t r (owned r v)) (λ q. cond (same r q) v (last q))
    after_writing_kept v h =
        record {
          wide = I.wide;
          each = λ q ql. go q ql (same r q) (view r q);
          in_place =
              row_all (λ u q y. InItsPlace sizes.l sizes.b q y) sizes.n t (r % sizes.l) (owned r v) site.place
              (λ _. (refl, rl)) I.in_place;
          place_free = places_free sizes site last I t lt r rl (owned r v) (λ q y. (owned_is r pl h).1 v q ∙ y);
          ups = I.ups;
          downs = I.downs;
        }
      where
        apart : (q u : ℕ) → (t ≡ u → ⊥)
            → projection sizes (after_writing sizes site t r (owned r v)) q u ≡ projection sizes site q u
        apart q u d = rw (same_no t u d) refl

        here : projection sizes (after_writing sizes site t r (owned r v)) r t
            ≡ cell (writable v) (wait_of r (site.wait t)) (messages_about r (site.up t)) (messages_about r (site.down t))
        here = rw (same_refl t, same_refl (r % sizes.l)) (cell_path (owned_mine r v) refl refl refl)

        there : (q : ℕ) → (r ≡ q → ⊥) → (b : Bool) → Same (r % sizes.l) (q % sizes.l) b
            → copy_of q (cond b (owned r v) (site.place t (q % sizes.l))) ≡ copy_of q (site.place t (q % sizes.l))
        there q d true (eq e) =
            clear_other r q (owned r v) d (owned_clear r v)
            ∙ (sym (clear_other r q pl d (owned_is r pl h).0) ∙ ap (λ y. copy_of q (site.place t y)) e)
        there q d false (ne e) = refl

        go : (q : ℕ) → q < sizes.b → (a : Bool) → Same r q a
            → RecordInvariant sizes.n (cond a v (last q)) (site.homes q)
            (projection sizes (after_writing sizes site t r (owned r v)) q)
        go q ql true (eq e) =
            subst
            (λ y. RecordInvariant sizes.n v (site.homes y) (projection sizes (after_writing sizes site t r (owned r v)) y))
            e
            (record_written sizes.n (last r) v (site.homes r) (projection sizes site r)
            (projection sizes (after_writing sizes site t r (owned r v)) r) t lt (λ u _ d. apart r u d) (I.each r rl) h here)
        go q ql false (ne d) =
            part_same sizes site last I t lt r rl (after_writing sizes site t r (owned r v)) apart (λ _. refl) q ql
            (rw (same_refl t)
            (cell_path (there q d (same (r % sizes.l) (q % sizes.l)) (view (r % sizes.l) (q % sizes.l))) refl refl refl))
