-- The words in which the machine's laws are stated: how a site opens, which steps are accepted, and when all is at rest.
use Rattle.std.specs.Prelude.{◌≡◌, ℕ, ◌+◌, ◌*◌, ◌%◌, ◌<◌, ◌≤◌, Bool, true, false, cond, List, [], ◌∷◌, ◌==◌, ◌≢◌}
use Rattle.machine.specs.Machine.{Copy, reading, writing, Phase, read_only, read_write, Transaction, home, nobody, count}
use Rattle.machine.specs.HomeRules.{one_replacement}
use Rattle.machine.specs.Site.{Mail, empty, Want, rests, wants, Sizes, Site, copy_of, total}
use Rattle.machine.specs.Calls.{Call, home_turn, terminal_turn, step}

module _ {V : Type 0} where
  -- A newly opened site: every record is Read-Only with its opening value and no holder; nothing is copied, waits or is sent.
  pub record Opened (sizes : Sizes) (site : Site V) (opening : ℕ → V) : Type 0 where
    pub wide : sizes.n ≤ sizes.served
    pub homes : (r : ℕ) → r < sizes.b → site.homes r ≡ home read_only (opening r) 0 nobody
    pub places : (t p : ℕ) → t < sizes.n → site.place t p ≡ empty
    pub waits : (t : ℕ) → t < sizes.n → site.wait t ≡ rests
    pub ups : (t : ℕ) → t < sizes.n → site.up t ≡ []
    pub downs : (t : ℕ) → t < sizes.n → site.down t ≡ []

  -- Terminal t's copy of record r.
  abbrev pub copy_at : Sizes → Site V → ℕ → ℕ → Copy V
  copy_at sizes site t r = copy_of r (site.place t (r % sizes.l))

-- Lanes that never fill: two messages a record and one more on the way up, one a record and one more on the way down.
abbrev pub Deep : Sizes → Type 0
Deep sizes = (2 * sizes.b + 1 ≤ sizes.up_depth) × (sizes.b + 1 ≤ sizes.down_depth)

-- A turn of the home at a terminal's lane, or of a terminal at its own.
pub data Step : Type 0 where
  by_home by_terminal : ℕ → Step

module _ {V : Type 0} where
  -- The call that a step is.
  abbrev pub call_of : Step → Call V
  call_of (by_home t) = home_turn t
  call_of (by_terminal t) = terminal_turn t

  -- How many of a list of steps are accepted.
  unfoldable pub accepted : Sizes → Site V → List Step → ℕ
  accepted sizes site [] = 0
  accepted sizes site (s ∷ ss) =
      cond ((step sizes site (call_of s)).code == 0) 1 0 + accepted sizes (step sizes site (call_of s)).site ss

-- Whether a terminal waits for something.
abbrev pub is_waiting : Want → Bool
is_waiting rests = false
is_waiting (wants k r) = true

module _ {V : Type 0} where
  -- How many replacements there are in a lane.
  abbrev pub lane_replacements : List (Mail V) → ℕ
  lane_replacements [] = 0
  lane_replacements (x ∷ xs) = one_replacement x.msg + lane_replacements xs

  -- How many terminals wait.
  abbrev pub waiters : Sizes → Site V → ℕ
  waiters sizes site = count (λ t. is_waiting (site.wait t)) sizes.n

  -- How many replacements there are in the up lanes.
  abbrev pub replacements : Sizes → Site V → ℕ
  replacements sizes site = total (λ t. lane_replacements (site.up t)) sizes.n

  -- No step would be accepted.
  abbrev pub Stuck : Sizes → Site V → Type 0
  Stuck sizes site = (s : Step) → (step sizes site (call_of s)).code ≢ 0

  -- All lanes are empty, and no terminal waits.
  abbrev pub AtRest : Sizes → Site V → Type 0
  AtRest sizes site = (t : ℕ) → t < sizes.n → (site.up t ≡ []) × (site.down t ≡ []) × (site.wait t ≡ rests)

-- A legal count of acknowledgements: none outside transactions, one in a transaction to read, 1 to n - 1 in one to write.
abbrev pub Legal : ℕ → Phase → ℕ → Type 0
Legal n read_only acks = acks ≡ 0
Legal n read_write acks = acks ≡ 0
Legal n (Transaction reading) acks = acks ≡ 1
Legal n (Transaction writing) acks = (1 ≤ acks) × (acks < n)
