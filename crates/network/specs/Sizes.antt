-- The sizes that a network is made with.
use Rattle.std.specs.Prelude.{ℕ, ◌*◌, ◌&&◌, [], nat_le, Err}
use Rattle.message.specs.Refusals.{Answer, accepted}
use Rattle.message.specs.declared.refusals.Refusal.TheVariants.{Unfit}
use Rattle.message.specs.Checks.{given}
use Rattle.network.specs.Traffic.{Traffic}

-- Are there 1 to 64 lanes, is the depth 1 to 255, and is there room for each lane to have its part?
abbrev pub check_answer : ℕ → ℕ → ℕ → ℕ → Answer
check_answer lanes depth each room =
    given (nat_le 1 lanes && nat_le lanes 64) (Err Unfit)
    (given (nat_le 1 depth && nat_le depth 255) (Err Unfit)
    (given (nat_le (lanes * each) room) (Err Unfit)
    accepted))

-- A new network: nothing waits.
abbrev pub no_traffic : ℕ → ℕ → Traffic
no_traffic lanes depth = record { lanes = lanes; depth = depth; waiting = λ l. [] }
