-- What reads, writes and releases have in common: one place of one terminal changes, and the record that it showed may go
-- home. Records of that place move; the others see no change.
use Rattle.std.proofs.Common.{◌≡◌, ℕ, ◌%◌, ◌<◌, Bool, true, false, cond, ◌&&◌, ◌++◌, sym, subst}
use Rattle.machine.specs.Machine.{same}
use Rattle.machine.specs.Site.{Place, Want, rests, wants, Sizes, Site, projection, clear, put_place}
use Rattle.machine.specs.Calls.{evict}
use Rattle.machine.specs.Invariant.{RecordInvariant, RecordsBelow, PlaceFree, Invariant}
use Rattle.machine.proofs.Counts.{Same, eq, ne, view}
use Rattle.machine.proofs.TerminalAsks.{Moved, gone, gone_good}
use Rattle.machine.proofs.Moves.{record_same, record_moved, mails-++}
use Rattle.machine.proofs.Evictions.{evict_mails}

module _ {V : Type 0} where
  module _
      (sizes : Sizes) (site : Site V) (last : ℕ → V) (I : Invariant sizes site last) (t : ℕ) (lt : t < sizes.n) (r : ℕ)
      (rl : r < sizes.b) where
    -- The place.
    abbrev pl : Place V
    pl = site.place t (r % sizes.l)

    -- A record's invariant where t's part of it moved.
    pub part_moved : (new : Site V) → ((q u : ℕ) → (t ≡ u → ⊥) → projection sizes new q u ≡ projection sizes site q u)
        → ((u : ℕ) → new.homes u ≡ site.homes u) → (q : ℕ) (ql : q < sizes.b)
        → Moved (last q) ((I.each q ql).shape t) (projection sizes new q t)
        → RecordInvariant sizes.n (last q) (new.homes q) (projection sizes new q)
    part_moved new ap' hs q ql m =
        rw (hs q)
        (record_moved sizes.n (last q) (site.homes q) (projection sizes site q) (projection sizes new q) t lt
        (λ u _ d. ap' q u d) (I.each q ql) m)

    -- A record's invariant where nothing moved.
    pub part_same : (new : Site V) → ((q u : ℕ) → (t ≡ u → ⊥) → projection sizes new q u ≡ projection sizes site q u)
        → ((u : ℕ) → new.homes u ≡ site.homes u) → (q : ℕ) (ql : q < sizes.b)
        → projection sizes new q t ≡ projection sizes site q t
        → RecordInvariant sizes.n (last q) (new.homes q) (projection sizes new q)
    part_same new ap' hs q ql m =
        rw (hs q)
        (record_same sizes.n (last q) (site.homes q) (projection sizes site q) (projection sizes new q)
        (λ u _. at u (same t u) (view t u)) (I.each q ql))
      where
        at : (u : ℕ) (b : Bool) → Same t u b → projection sizes new q u ≡ projection sizes site q u
        at u true (eq e) = subst (λ y. projection sizes new q y ≡ projection sizes site q y) e m
        at u false (ne d) = ap' q u d

    -- A record whose copy goes moves so.
    pub part_gone : (q : ℕ) (ql : q < sizes.b)
        → Moved (last q) ((I.each q ql).shape t) (gone (projection sizes site q t).copy (projection sizes site q t))
    part_gone q ql =
        subst (λ c. Moved (last q) ((I.each q ql).shape t) (gone c.copy c)) (sym ((I.each q ql).is t lt))
        (gone_good (last q) ((I.each q ql).shape t))

    -- Another content that is as clear leaves places free.
    pub places_free : (a : Place V) → ((q : ℕ) → clear q pl ≡ true → clear q a ≡ true) → (u : ℕ) → u < sizes.n
        → PlaceFree sizes.l sizes.b (put_place site.place t (r % sizes.l) a u) (site.wait u)
    places_free a h u l = go (site.wait u) (I.place_free u l)
      where
        go : (w : Want) → PlaceFree sizes.l sizes.b (site.place u) w
            → PlaceFree sizes.l sizes.b (put_place site.place t (r % sizes.l) a u) w
        go rests z = tt
        go (wants k q) z =
            (z.0, is (same t u) (view t u) (same (r % sizes.l) (q % sizes.l)) (view (r % sizes.l) (q % sizes.l)))
          where
            is : (b : Bool) → Same t u b → (c : Bool) → Same (r % sizes.l) (q % sizes.l) c
                → clear q (cond (b && c) a (site.place u (q % sizes.l))) ≡ true
            is true (eq e) true (eq f) =
                h q
                (subst (λ y. clear q (site.place t y) ≡ true) (sym f)
                (subst (λ y. clear q (site.place y (q % sizes.l)) ≡ true) (sym e) z.1))
            is true (eq e) false (ne f) = z.1
            is false (ne e) c f = z.1

    -- The lane is about known records after an eviction.
    pub evicted_below : RecordsBelow sizes.b (site.up t ++ evict pl)
    evicted_below =
        mails-++ sizes.b (site.up t) (evict pl) (I.ups t lt)
        (evict_mails sizes.l sizes.b (r % sizes.l) pl (I.in_place t (r % sizes.l) lt))
