-- The invariant after one terminal moved, where the others stay: of a record, and of the lists and families of a site.
use Rattle.std.proofs.Common.{◌≡◌, ℕ, ◌<◌, Bool, true, false, cond, List, [], ◌∷◌, ◌++◌, ◌∙◌, subst, arith}
use Rattle.machine.specs.Machine.{Msg, Cell, Home, same, Copy, Wait, cell}
use Rattle.machine.specs.Site.{Mail, mails, changed}
use Rattle.machine.specs.Invariant.{RecordInvariant, RecordsBelow}
use Rattle.machine.proofs.Counts.{Same, eq, ne, view}
use Rattle.machine.proofs.NewShapes.{put, put_is, fit_put}
use Rattle.machine.proofs.TerminalAsks.{Moved}

module _ {V : Type 0} where
  -- Cells of equal parts are equal.
  pub cell_path : {a a' : Copy V} {b b' : Wait} {c c' d d' : List (Msg V)} → a ≡ a' → b ≡ b' → c ≡ c' → d ≡ d'
      → cell a b c d ≡ cell a' b' c' d'
  cell_path p q r s = λ i. cell (p i) (q i) (r i) (s i)

  -- Cells that are the same keep the invariant.
  pub record_same : (n : ℕ) (last : V) (entry : Home V) (cells new : ℕ → Cell V) → ((u : ℕ) → u < n → new u ≡ cells u)
      → RecordInvariant n last entry cells → RecordInvariant n last entry new
  record_same n last entry cells new e I =
      record { shape = I.shape; is = λ u l. e u l ∙ I.is u l; fit = I.fit }

  -- Terminal t alone moved, to a shape of the same part.
  pub record_moved : (n : ℕ) (last : V) (entry : Home V) (cells new : ℕ → Cell V) (t : ℕ) → t < n
      → ((u : ℕ) → u < n → (t ≡ u → ⊥) → new u ≡ cells u) → (I : RecordInvariant n last entry cells)
      → Moved last (I.shape t) (new t) → RecordInvariant n last entry new
  record_moved n last entry cells new t lt e I k =
      record {
        shape = put t k.0 I.shape;
        is = put_is n last t k.0 cells new I.shape I.is k.1 e;
        fit =
            fit_put n last entry.phase entry.value entry.acks entry.holds I.shape t k.0 lt I.fit k.2 k.3;
      }

  -- Two lanes about known records make one.
  pub mails-++ : (b : ℕ) (xs ys : List (Mail V)) → RecordsBelow b xs → RecordsBelow b ys → RecordsBelow b (xs ++ ys)
  mails-++ b [] ys h k = k
  mails-++ b (x ∷ xs) ys h k = (h.0, mails-++ b xs ys h.1 k)

  -- Messages about a known record make one.
  pub mails_of : (b r : ℕ) (ms : List (Msg V)) → r < b → RecordsBelow b (mails r ms)
  mails_of b r [] l = tt
  mails_of b r (m ∷ ms) l = (l, mails_of b r ms l)

-- What holds of all members holds after one changed.
pub changed_all : {A : Type 0} (P : ℕ → A → Type 0) (n t : ℕ) (a : A) (f : ℕ → A) → (t < n → P t a)
    → ((u : ℕ) → u < n → P u (f u)) → (u : ℕ) → u < n → P u (changed f t a u)
changed_all P n t a f at h u l = go (same t u) (view t u)
  where
    go : (b : Bool) → Same t u b → P u (cond b a (f u))
    go true (eq e) = subst (λ y. P y a) e (at (omega arith))
    go false (ne d) = h u l
