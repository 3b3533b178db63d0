-- Two puts to two lanes.
use Rattle.std.specs.Prelude.{◌≡◌, ℕ, [], ◌∷◌, ◌++◌, ◌≢◌}
use Rattle.message.specs.declared.Message.{Message}
use Rattle.message.specs.Refusals.{Answer, accepted}
use Rattle.network.specs.Traffic.{Traffic, put_answer}

-- The second is answered as if it were the first, each that is accepted is the last of its own lane, and every third lane
-- stays.
pub record Apart (before after : Traffic) (first : ℕ) (x : Message) (second : ℕ) (y : Message) (answers : Answer × Answer) : Type 0 where
  pub alone : answers.1 ≡ put_answer before second y
  pub one : answers.0 ≡ accepted → after.waiting first ≡ before.waiting first ++ x ∷ []
  pub other : answers.1 ≡ accepted → after.waiting second ≡ before.waiting second ++ y ∷ []
  pub rest : (k : ℕ) → (k ≢ first) → (k ≢ second) → after.waiting k ≡ before.waiting k
