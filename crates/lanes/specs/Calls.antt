-- What lanes hold, and what the calls on them answer and leave.
use Rattle.std.specs.Prelude.{ℕ, Bool, cond, List, length, None, Option, nat_lt, Err}
use Rattle.std.specs.List.{slice_get}
use Rattle.message.specs.Refusals.{Answer}
use Rattle.message.specs.declared.refusals.Refusal.TheVariants.{NoSuchTerminal}
use Rattle.message.specs.Checks.{given}
use Rattle.message.specs.Lists.{with_list}
use Rattle.ring.specs.Calls as ring

-- How many lanes there are, how many slots each has, what waits in each, oldest first, and the ghost name of the slice that
-- lends the slots.
pub record Contents (X : Type 0) : Type 0 where
  pub count : ℕ
  pub size : ℕ
  pub held : ℕ → List X
  pub lender : ℕ

-- Whether a lane is there.
abbrev pub has_lane : {X : Type 0} → Contents X → ℕ → Bool
has_lane lanes l = nat_lt l lanes.count

-- A lane is a ring.
abbrev pub ring_of : {X : Type 0} → Contents X → ℕ → ring.Contents X
ring_of lanes l = record { items = lanes.held l; room = lanes.size; lender = lanes.lender }

-- The lanes where a lane that is there holds what a ring does; the other lanes stay.
abbrev pub with_ring : {X : Type 0} → Contents X → ℕ → ring.Contents X → Contents X
with_ring lanes l now = record lanes { held = cond (has_lane lanes l) (with_list lanes.held l now.items) lanes.held }

-- Put: is the lane there? Then as its ring does.
abbrev pub put_answer : {X : Type 0} → Contents X → ℕ → List X → Answer
put_answer lanes l new = given (has_lane lanes l) (Err NoSuchTerminal) (ring.put_answer (ring_of lanes l) new)

abbrev pub after_put : {X : Type 0} → Contents X → ℕ → List X → Contents X
after_put lanes l new = with_ring lanes l (ring.after_put (ring_of lanes l) new)

-- Discard: is the lane there? Then as its ring does.
abbrev pub discard_answer : {X : Type 0} → ℕ → Contents X → ℕ → Answer
discard_answer k lanes l = given (has_lane lanes l) (Err NoSuchTerminal) (ring.discard_answer k (ring_of lanes l))

abbrev pub after_discard : {X : Type 0} → ℕ → Contents X → ℕ → Contents X
after_discard k lanes l = with_ring lanes l (ring.after_discard k (ring_of lanes l))

-- How many wait in a lane.
abbrev pub counted : {X : Type 0} → Contents X → ℕ → ℕ
counted lanes l = cond (has_lane lanes l) (length (lanes.held l)) 0

-- The k-th that waits in a lane, or none.
abbrev pub looked : {X : Type 0} → Contents X → ℕ → ℕ → Option X
looked lanes l k = cond (has_lane lanes l) (slice_get (lanes.held l) k) None
