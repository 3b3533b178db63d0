-- A clear and an add make a terminal the only holder, since an empty record is below every limit.
use Rattle.std.proofs.Common.{◌≡◌, ℕ, ◌<◌, arith, ap}
use Rattle.std.proofs.Math.Path.{fun_ext}
use Rattle.std.proofs.lemmas.Bool.Decides.{nat_tests}
use Rattle.message.specs.Refusals.{accepted}
use Rattle.directory.specs.Directories.{View, Sound}
use Rattle.directory.specs.Changes.{with_holders, emptied, add_answer, added, cleared}
use Rattle.directory.proofs.Counting.{tally_none}
use Rattle.directory_client.specs.Clients.{handed_over}

-- the add after the clear is accepted
pub add_accepted : (v : View) (r t : ℕ) → Sound v → r < v.records → t < v.terminals → add_answer (cleared v r) r t ≡ accepted
add_accepted v r t s h k =
    let none = tally_none (emptied v.holders r r) 64 (λ u. grind (arith, nat_tests)) in
    grind (arith, nat_tests)

pub hands_over : (v : View) (r t : ℕ) → Sound v → r < v.records → t < v.terminals → added (cleared v r) r t ≡ handed_over v r t
hands_over v r t s h k =
    let e = add_accepted v r t s h k in
    ap (with_holders v) (fun_ext (λ q. fun_ext (λ u. grind (arith, nat_tests))))
