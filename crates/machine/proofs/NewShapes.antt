-- How new shapes make a new invariant of a record: one terminal changes, or one changes and others are told. Every rule
-- of the home is proved by naming the shapes afterwards.
use Rattle.std.proofs.Common.{◌≡◌, ℕ, ◌*◌, ◌<◌, ◌≤◌, Bool, true, false, cond, sym, refl, ap, ◌∙◌, subst, inl, inr, arith}
use mathlib.Core.Option.{Option, some}
use Rattle.machine.specs.Machine.{Msg, Cell, Phase, read_only, read_write, Transaction, Home, home, same, count}
use Rattle.machine.specs.HomeRules.{after, pop_up, push_down, Act, rule}
use Rattle.machine.specs.Shapes.{Sharer, holding, asking_again, data_coming, Owner, permission_coming, owning, given_back, given_back_asking, Clean, told, told_asking, data_coming_told, Dirty, permission_coming_told, owning_told, given_back_told, given_back_asking_told, Shape, idle, sharer, owner, requester, clean, dirty, decode}
use Rattle.machine.specs.Invariant.{role, owing, has_value, owing_by, has_value_by, copyless, allowed, allowed_by, Sole, Valued, Fit, RecordInvariant}
use Rattle.machine.proofs.Counts.{Same, eq, ne, view, same_refl, same_no, count_ext, count_none}
use Rattle.machine.proofs.Weights.{cost_up, cost_down}

-- Terminal t gets the shape s, those that p picks go by g, and the others stay.
unfoldable pub mark : ℕ → Shape → (ℕ → Bool) → (Shape → Shape) → (ℕ → Shape) → ℕ → Shape
mark t s p g f u = cond (same t u) s (cond (p u) (g (f u)) (f u))

-- Terminal t gets the shape s, and the others stay.
unfoldable pub put : ℕ → Shape → (ℕ → Shape) → ℕ → Shape
put t s f u = cond (same t u) s (f u)

-- What holds of s at t and of all others holds afterwards.
pub put_all : (P : ℕ → Shape → Type 0) (n t : ℕ) (s : Shape) (f : ℕ → Shape) → P t s
    → ((u : ℕ) → u < n → (t ≡ u → ⊥) → P u (f u)) → (u : ℕ) → u < n → P u (put t s f u)
unfolding put
put_all P n t s f at rest u l = go (same t u) (view t u)
  where
    go : (b : Bool) → Same t u b → P u (cond b s (f u))
    go true (eq e) = subst (λ y. P y s) e at
    go false (ne d) = rest u l d

module _ {V : Type 0} where
  -- The cells are as the shapes say, where t alone moved.
  pub put_is : (n : ℕ) (last : V) (t : ℕ) (s : Shape) (cells new : ℕ → Cell V) (f : ℕ → Shape)
      → ((u : ℕ) → u < n → cells u ≡ decode last (f u)) → new t ≡ decode last s
      → ((u : ℕ) → u < n → (t ≡ u → ⊥) → new u ≡ cells u) → (u : ℕ) → u < n → new u ≡ decode last (put t s f u)
  put_is n last t s cells new f is at rest =
      put_all (λ u x. new u ≡ decode last x) n t s f at (λ u l d. rest u l d ∙ is u l)

-- A shape that goes with a state, for an equal test.
pub turn : (ph : Phase) (b c : Bool) (s : Shape) → b ≡ c → allowed ph b s ≡ true → allowed ph c s ≡ true
turn ph b c s e h = subst (λ x. allowed ph x s ≡ true) e h

-- At a Read-Only record nobody owes.
pub owes_nothing_read_only : (b : Bool) (s : Shape) → allowed read_only b s ≡ true → owing s ≡ false
owes_nothing_read_only b s h = grind arith

-- At a Read-Write record nobody owes.
pub owes_nothing_read_write : (b : Bool) (s : Shape) → allowed read_write b s ≡ true → owing s ≡ false
owes_nothing_read_write b s h = grind arith

module _ {V : Type 0} where
  -- What it takes to fit a Read-Only entry.
  pub fit_read_only : (n : ℕ) (last v : V) (p : ℕ → Bool) (f : ℕ → Shape)
      → ((u : ℕ) → u < n → allowed read_only (p u) (f u) ≡ true) → ((u : ℕ) → n ≤ u → p u ≡ false) → v ≡ last
      → Fit n last (home read_only v 0 p) f
  fit_read_only n last v p f each ins e =
      record {
        each = each;
        inside = ins;
        held = tt;
        owed = refl;
        counts = count_none (λ u. owing (f u)) n (λ u l. owes_nothing_read_only (p u) (f u) (each u l));
        valued = e;
      }

  -- What it takes to fit a Read-Write entry.
  pub fit_read_write : (n : ℕ) (last v : V) (p : ℕ → Bool) (f : ℕ → Shape)
      → ((u : ℕ) → u < n → allowed read_write (p u) (f u) ≡ true) → ((u : ℕ) → n ≤ u → p u ≡ false) → Sole n p
      → Fit n last (home read_write v 0 p) f
  fit_read_write n last v p f each ins sole =
      record {
        each = each;
        inside = ins;
        held = sole;
        owed = refl;
        counts = count_none (λ u. owing (f u)) n (λ u l. owes_nothing_read_write (p u) (f u) (each u l));
        valued = tt;
      }

  -- Terminal t alone changes, and keeps its part in what the home is at.
  pub fit_put : (n : ℕ) (last : V) (ph : Phase) (v : V) (a : ℕ) (p : ℕ → Bool) (f : ℕ → Shape) (t : ℕ) (s : Shape) → t < n
      → Fit n last (home ph v a p) f → role s ≡ role (f t) → (copyless (f t) ≡ true → copyless s ≡ true)
      → Fit n last (home ph v a p) (put t s f)
  fit_put n last ph v a p f t s lt F same-role cl =
      record {
        each =
            put_all (λ u x. allowed ph (p u) x ≡ true) n t s f
            (subst (λ x. allowed_by ph (p t) x ≡ true) (sym same-role) (F.each t lt)) (λ u l d. F.each u l);
        inside = F.inside;
        held = F.held;
        owed = F.owed;
        counts =
            count_ext (λ u. owing (put t s f u)) (λ u. owing (f u)) n
            (put_all (λ u x. owing x ≡ owing (f u)) n t s f (ap owing_by same-role) (λ u l d. refl))
            ∙ F.counts;
        valued = go ph F.valued;
      }
    where
      go : (ph : Phase) → Valued ph n v last a f → Valued ph n v last a (put t s f)
      go read_only h = h
      go read_write h = tt
      go (Transaction k) (inl h) =
          inl (h.0, put_all (λ u x. has_value x ≡ false) n t s f (ap has_value_by same-role ∙ h.1 t lt) (λ u l d. h.1 u l))
      go (Transaction k) (inr h) =
          inr (
            h.0,
            put_all (λ u x. copyless x ≡ true) n t s f (cl (h.1 t lt)) (λ u l d. h.1 u l),
            (
              h.2.0,
              h.2.1,
              put_all (λ u x. has_value x ≡ has_value (f u)) n t s f (ap has_value_by same-role) (λ u l d. refl) h.2.0
                  h.2.1
                  ∙ h.2.2,
            ),
          )

  -- The cells are as the shapes say, where the home answered t alone.
  pub reply_is : (n : ℕ) (last : V) (t : ℕ) (s : Shape) (m : Msg V) (cells : ℕ → Cell V) (f : ℕ → Shape)
      → ((u : ℕ) → u < n → cells u ≡ decode last (f u)) → push_down true m (pop_up (cells t)) ≡ decode last s → (u : ℕ) → u < n
      → after t (same t) m cells u ≡ decode last (put t s f u)
  reply_is n last t s m cells f is at =
      put_is n last t s cells (after t (same t) m cells) f is (rw (same_refl t) at) (λ u l d. rw (same_no t u d) refl)

  -- The message is taken, and what is done has the property.
  abbrev pub Accepts : (Act V → Type 0) → Option (Act V) → Type 0
  Accepts R o = (x : Act V) × (o ≡ some x) × R x

  -- Both ways of a test take the message.
  pub pick : (R : Act V → Type 0) (b : Bool) (o o' : Option (Act V)) → (b ≡ true → Accepts R o) → (b ≡ false → Accepts R o')
      → Accepts R (cond b o o')
  pick R true o o' y z = y refl
  pick R false o o' y z = z refl

  -- The step costs something: what the home sends costs less than the message.
  abbrev pub CostsLess : ℕ → Msg V → Act V → Type 0
  CostsLess n x a = cost_down a.msg * count a.to n < cost_up n x

  -- The home takes the message, keeps the invariant, and the step costs something.
  abbrev pub Good : ℕ → ℕ → ℕ → V → Home V → (ℕ → Cell V) → ℕ → Msg V → Type 0
  Good n m limit last entry cells t x =
      Accepts
      (λ a. RecordInvariant n last a.next (after t a.to a.msg cells) × CostsLess n x a)
      (rule n m limit entry t x)

-- What an invalidation makes of a sharer.
abbrev pub sharer_told : Sharer → Clean
sharer_told (holding b) = told b
sharer_told (asking_again a) = told_asking a
sharer_told data_coming = data_coming_told

-- What an invalidation makes of an owner.
abbrev pub owner_told : Owner → Dirty
owner_told (permission_coming b) = permission_coming_told b
owner_told owning = owning_told
owner_told given_back = given_back_told
owner_told (given_back_asking k) = given_back_asking_told k

-- What an invalidation makes of a shape.
abbrev pub shape_told : Shape → Shape
shape_told (idle x) = idle x
shape_told (sharer x) = clean (sharer_told x)
shape_told (owner x) = dirty (owner_told x)
shape_told (requester a) = requester a
shape_told (clean x) = clean x
shape_told (dirty x) = dirty x
