-- What a passed check of sizes says, and what a new network means: for whoever makes networks.
use Rattle.std.proofs.Common.{◌≡◌, ℕ, ◌*◌, ◌≤◌, List, [], ap, ◌∙◌, arith}
use Rattle.std.proofs.Math.Path.{fun_ext}
use Rattle.std.proofs.lemmas.Bool.Decides.{nat_tests}
use Rattle.message.specs.declared.Message.{Message}
use Rattle.message.specs.Refusals.{accepted}
use Rattle.network.specs.Sizes.{check_answer, no_traffic}
use Rattle.network.specs.Traffic.{Traffic}

-- A check that was passed.
pub record Sizes (lanes depth each room : ℕ) : Type 0 where
  pub some_lanes : 1 ≤ lanes
  pub few_lanes : lanes ≤ 64
  pub some_depth : 1 ≤ depth
  pub small_depth : depth ≤ 255
  pub enough : lanes * each ≤ room

pub checked : (lanes depth each room : ℕ) → check_answer lanes depth each room ≡ accepted → Sizes lanes depth each room
checked lanes depth each room took = record {
  some_lanes = grind (arith, nat_tests);
  few_lanes = grind (arith, nat_tests);
  some_depth = grind (arith, nat_tests);
  small_depth = grind (arith, nat_tests);
  enough = grind (arith, nat_tests);
}

-- Equal parts make equal traffic.
pub same_traffic : (t u : Traffic) → t.lanes ≡ u.lanes → t.depth ≡ u.depth → t.waiting ≡ u.waiting → t ≡ u
same_traffic t u lanes depth waiting =
    ap (λ (n : ℕ). record { lanes = n; depth = t.depth; waiting = t.waiting }) lanes
    ∙ ap (λ (n : ℕ). record { lanes = u.lanes; depth = n; waiting = t.waiting }) depth
    ∙ ap (λ (lists : ℕ → List Message). record { lanes = u.lanes; depth = u.depth; waiting = lists }) waiting

pub new_traffic : (t : Traffic) (lanes depth : ℕ) → t.lanes ≡ lanes → t.depth ≡ depth → ((l : ℕ) → t.waiting l ≡ []) → t ≡ no_traffic lanes depth
new_traffic t lanes depth same_lanes same_depth none = same_traffic t (no_traffic lanes depth) same_lanes same_depth (fun_ext none)
