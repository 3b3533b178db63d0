-- The home's step on the whole site: the record of the message goes by its own rule, and no other record sees a change.
use Rattle.std.proofs.Common.{◌≡◌, ℕ, ◌<◌, Bool, true, false, cond, List, [], ◌∷◌, ◌++◌, ap, ◌∙◌, subst, arith}
use Rattle.machine.specs.Machine.{Msg, same}
use Rattle.machine.specs.HomeRules.{after, Act, rule}
use Rattle.machine.specs.Site.{Mail, mail, Sizes, Site, messages_about, projection}
use Rattle.machine.specs.Turns.{after_home}
use Rattle.machine.specs.Invariant.{Invariant, RecordInvariant, RecordsBelow}
use Rattle.machine.proofs.Counts.{Same, eq, ne, view, same_tells}
use Rattle.machine.proofs.Lanes.{about_mine, about_other, push_mine, push_other}
use Rattle.machine.proofs.NewShapes.{CostsLess, Accepts}
use Rattle.machine.proofs.HomeGood.{GoodUp, home_good}
use Rattle.machine.proofs.Moves.{record_same, mails-++, changed_all}

module _ {V : Type 0} where
  module _
      (sizes : Sizes) (site : Site V) (last : ℕ → V) (I : Invariant sizes site last) (t : ℕ) (lt : t < sizes.n) (x : Mail V)
      (xs : List (Mail V)) (e : site.up t ≡ x ∷ xs) where
    -- The lane is about known records.
    heads : RecordsBelow sizes.b (x ∷ xs)
    heads = subst (RecordsBelow sizes.b) e (I.ups t lt)

    -- The record of the message sees what its rule says.
    mine : (a : Act V) (u : ℕ)
        → projection sizes (after_home site t x xs a) x.of u ≡ after t a.to a.msg (projection sizes site x.of) u
    mine a u = grind (arith, same_tells, about_mine, push_mine, e)

    -- Another record sees no change.
    others : (a : Act V) (r : ℕ) → (x.of ≡ r → ⊥) → (u : ℕ)
        → projection sizes (after_home site t x xs a) r u ≡ projection sizes site r u
    others a r d u = grind (arith, same_tells, about_other, push_other, e)

    -- So the invariant of the site is kept if that of the record is.
    pub after_home_kept : (a : Act V)
        → RecordInvariant sizes.n (last x.of) a.next (after t a.to a.msg (projection sizes site x.of))
        → Invariant sizes (after_home site t x xs a) last
    after_home_kept a J =
        record {
          wide = I.wide;
          each = λ r l. go r l (same x.of r) (view x.of r);
          in_place = I.in_place;
          place_free = I.place_free;
          ups = changed_all (λ u y. RecordsBelow sizes.b y) sizes.n t xs site.up (λ _. heads.1) I.ups;
          downs = λ u l. grown u l (a.to u);
        }
      where
        go : (r : ℕ) → r < sizes.b → (b : Bool) → Same x.of r b
            → RecordInvariant sizes.n (last r) (cond b a.next (site.homes r)) (projection sizes (after_home site t x xs a) r)
        go r l true (eq q) =
            subst
            (λ y. RecordInvariant sizes.n (last y) a.next (projection sizes (after_home site t x xs a) y))
            q
            (record_same sizes.n (last x.of) a.next (after t a.to a.msg (projection sizes site x.of))
            (projection sizes (after_home site t x xs a) x.of) (λ u _. mine a u) J)
        go r l false (ne d) =
            record_same sizes.n (last r) (site.homes r) (projection sizes site r)
            (projection sizes (after_home site t x xs a) r) (λ u _. others a r d u) (I.each r l)

        grown : (u : ℕ) → u < sizes.n → (c : Bool)
            → RecordsBelow sizes.b (cond c (site.down u ++ (mail x.of a.msg ∷ [])) (site.down u))
        grown u l true = mails-++ sizes.b (site.down u) (mail x.of a.msg ∷ []) (I.downs u l) (heads.0, tt)
        grown u l false = I.downs u l

    -- The home expects the oldest message, keeps the invariant, and the step costs something.
    pub home-on-site :
        Accepts (λ a. Invariant sizes (after_home site t x xs a) last × CostsLess sizes.n x.msg a)
        (rule sizes.n sizes.served sizes.limit (site.homes x.of) t x.msg)
    home-on-site =
        let h : GoodLane (messages_about x.of (site.up t))
        = home_good sizes.n sizes.served sizes.limit (last x.of) I.wide (site.homes x.of)
        (projection sizes site x.of) (I.each x.of heads.0) t lt in
        let g : GoodLane (x.msg ∷ messages_about x.of xs)
        = subst GoodLane (ap (messages_about x.of) e ∙ about_mine x.of x.msg xs) h in
        (g.0, g.1, (after_home_kept g.0 g.2.0, g.2.1))
      where
        GoodLane : List (Msg V) → Type 0
        GoodLane =
            GoodUp sizes.n sizes.served sizes.limit (last x.of) (site.homes x.of) (projection sizes site x.of) t
