-- What is kept along every call: of each record, that the terminals' shapes fit the home's entry; and of the site, what ties
-- the records together.
use Rattle.std.specs.Prelude.{◌≡◌, ℕ, ◌%◌, ◌<◌, ◌≤◌, Bool, true, false, not, ◌&&◌, ◌⊎◌, List, [], ◌∷◌}
use Rattle.machine.specs.Machine.{Access, reading, writing, Cell, Phase, read_only, read_write, Transaction, Home, same, count}
use Rattle.machine.specs.Site.{Mail, Place, empty, shared, owned, Want, rests, wants, Sizes, Site, clear, projection}
use Rattle.machine.specs.Shapes.{Shape, idle, sharer, owner, requester, clean, dirty, access, has_copy, decode}

-- The part that a terminal has in what the home is at.
pub data Role : Type 0 where
  idles shares owns owes_clean owes_dirty : Role
  requests : Access → Role

-- The part of a shape.
abbrev pub role : Shape → Role
role (idle x) = idles
role (sharer x) = shares
role (owner x) = owns
role (requester a) = requests (access a)
role (clean x) = owes_clean
role (dirty x) = owes_dirty

-- Whether this part owes an acknowledgement.
abbrev pub owing_by : Role → Bool
owing_by idles = false
owing_by shares = false
owing_by owns = false
owing_by (requests k) = false
owing_by owes_clean = true
owing_by owes_dirty = true

-- Whether this part owes the value with the acknowledgement.
abbrev pub has_value_by : Role → Bool
has_value_by idles = false
has_value_by shares = false
has_value_by owns = false
has_value_by (requests k) = false
has_value_by owes_clean = false
has_value_by owes_dirty = true

-- Whether a shape owes an acknowledgement.
abbrev pub owing : Shape → Bool
owing s = owing_by (role s)

-- Whether a shape owes the value with the acknowledgement.
abbrev pub has_value : Shape → Bool
has_value s = has_value_by (role s)

-- A requester has no copy. Of other shapes nothing is said.
abbrev pub copyless : Shape → Bool
copyless (idle x) = true
copyless (sharer x) = true
copyless (owner x) = true
copyless (requester a) = not (has_copy a)
copyless (clean x) = true
copyless (dirty x) = true

-- Whether two accesses are the same.
abbrev pub same_access : Access → Access → Bool
same_access reading reading = true
same_access reading writing = false
same_access writing reading = false
same_access writing writing = true

-- The parts that go with the home's state, for a holder and for others: Read-Only has sharers for its holders, Read-Write an
-- owner, a transaction the requester; who owes in a transaction is no holder any more.
abbrev pub allowed_by : Phase → Bool → Role → Bool
allowed_by read_only holder idles = not holder
allowed_by read_only holder shares = holder
allowed_by read_only holder owns = false
allowed_by read_only holder (requests k) = false
allowed_by read_only holder owes_clean = false
allowed_by read_only holder owes_dirty = false
allowed_by read_write holder idles = not holder
allowed_by read_write holder shares = false
allowed_by read_write holder owns = holder
allowed_by read_write holder (requests k) = false
allowed_by read_write holder owes_clean = false
allowed_by read_write holder owes_dirty = false
allowed_by (Transaction j) holder idles = not holder
allowed_by (Transaction j) holder shares = false
allowed_by (Transaction j) holder owns = false
allowed_by (Transaction j) holder (requests k) = holder && same_access j k
allowed_by (Transaction j) holder owes_clean = not holder
allowed_by (Transaction j) holder owes_dirty = not holder

-- Whether a shape goes with the home's state.
abbrev pub allowed : Phase → Bool → Shape → Bool
allowed phase holder s = allowed_by phase holder (role s)

-- There is one holder, and it is below n.
abbrev pub Sole : ℕ → (ℕ → Bool) → Type 0
Sole n holders = (h : ℕ) × (h < n) × ((u : ℕ) → u < n → holders u ≡ same h u)

-- Outside Read-Only there is one holder.
abbrev pub Held : Phase → ℕ → (ℕ → Bool) → Type 0
Held read_only n holders = Unit {0}
Held read_write n holders = Sole n holders
Held (Transaction k) n holders = Sole n holders

-- How many acknowledgements are owed: none outside transactions, one in a transaction to read, some in one to write.
abbrev pub Owed : Phase → ℕ → Type 0
Owed read_only acks = acks ≡ 0
Owed read_write acks = acks ≡ 0
Owed (Transaction reading) acks = acks ≡ 1
Owed (Transaction writing) acks = 1 ≤ acks

module _ {V : Type 0} where
  -- The home has the last value, and nobody owes it.
  abbrev pub ValueHome : ℕ → V → V → (ℕ → Shape) → Type 0
  ValueHome n value last shape = (value ≡ last) × ((u : ℕ) → u < n → has_value (shape u) ≡ false)

-- One acknowledgement is owed, and the value with it; and the requester has no copy, which might be old by now.
abbrev pub ValueOwed : ℕ → ℕ → (ℕ → Shape) → Type 0
ValueOwed n acks shape =
    (acks ≡ 1) × ((u : ℕ) → u < n → copyless (shape u) ≡ true) × ((i : ℕ) × (i < n) × (has_value (shape i) ≡ true))

module _ {V : Type 0} where
  -- Where the value is in a transaction: at home, or with the one that owes.
  abbrev pub Settled : ℕ → V → V → ℕ → (ℕ → Shape) → Type 0
  Settled n value last acks shape = ValueHome n value last shape ⊎ ValueOwed n acks shape

  -- Where the value is: at home in Read-Only, with the owner in Read-Write.
  abbrev pub Valued : Phase → ℕ → V → V → ℕ → (ℕ → Shape) → Type 0
  Valued read_only n value last acks shape = value ≡ last
  Valued read_write n value last acks shape = Unit {0}
  Valued (Transaction k) n value last acks shape = Settled n value last acks shape

  -- The shapes of n terminals fit the home's entry.
  pub record Fit (n : ℕ) (last : V) (entry : Home V) (shape : ℕ → Shape) : Type 0 where
    pub each : (u : ℕ) → u < n → allowed entry.phase (entry.holds u) (shape u) ≡ true
    pub inside : (u : ℕ) → n ≤ u → entry.holds u ≡ false
    pub held : Held entry.phase n entry.holds
    pub owed : Owed entry.phase entry.acks
    pub counts : count (λ u. owing (shape u)) n ≡ entry.acks
    pub valued : Valued entry.phase n entry.value last entry.acks shape

  -- The invariant of one record: its cells have shapes, and these fit the home's entry.
  pub record RecordInvariant (n : ℕ) (last : V) (entry : Home V) (cells : ℕ → Cell V) : Type 0 where
    pub shape : ℕ → Shape
    pub is : (u : ℕ) → u < n → cells u ≡ decode last (shape u)
    pub fit : Fit n last entry shape

  -- Place p shows only a record that is there and has its place there.
  abbrev pub InItsPlace : ℕ → ℕ → ℕ → Place V → Type 0
  InItsPlace l b p empty = Unit {0}
  InItsPlace l b p (shared x v) = (x % l ≡ p) × (x < b)
  InItsPlace l b p (owned x v) = (x % l ≡ p) × (x < b)

  -- While a terminal waits for a record, the record's place is clear for it.
  abbrev pub PlaceFree : ℕ → ℕ → (ℕ → Place V) → Want → Type 0
  PlaceFree l b row rests = Unit {0}
  PlaceFree l b row (wants k r) = (r < b) × (clear r (row (r % l)) ≡ true)

  -- Every message of a lane is about a record below b.
  abbrev pub RecordsBelow : ℕ → List (Mail V) → Type 0
  RecordsBelow b [] = Unit {0}
  RecordsBelow b (x ∷ xs) = (x.of < b) × RecordsBelow b xs

  -- The invariant of the site, where `last` has the last value written to each record.
  pub record Invariant (sizes : Sizes) (site : Site V) (last : ℕ → V) : Type 0 where
    pub wide : sizes.n ≤ sizes.served
    pub each : (r : ℕ) → r < sizes.b → RecordInvariant sizes.n (last r) (site.homes r) (projection sizes site r)
    pub in_place : (t p : ℕ) → t < sizes.n → InItsPlace sizes.l sizes.b p (site.place t p)
    pub place_free : (t : ℕ) → t < sizes.n → PlaceFree sizes.l sizes.b (site.place t) (site.wait t)
    pub ups : (t : ℕ) → t < sizes.n → RecordsBelow sizes.b (site.up t)
    pub downs : (t : ℕ) → t < sizes.n → RecordsBelow sizes.b (site.down t)
