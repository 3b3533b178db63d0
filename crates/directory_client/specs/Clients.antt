-- What the calls over any directory do.
use Rattle.std.specs.Prelude.{ℕ, cond, None, Option, ◌==◌, is_ok}
use Rattle.message.specs.Refusals.{Answer}
use Rattle.directory.specs.Directories.{Holders, View, count, next}
use Rattle.directory.specs.Changes.{served_answer, with_holders}

-- A hand-over: the record and then the terminal must be served.
abbrev pub hand_over_answer : View → ℕ → ℕ → Answer
hand_over_answer v r t = served_answer v r t

-- Terminal t alone holds record r; the sets of other records stay.
abbrev pub alone : Holders → ℕ → ℕ → Holders
alone h r t q u = cond (q == r) (u == t) (h q u)

-- After an accepted hand-over the terminal alone is a holder; a refusal changes nothing.
abbrev pub handed_over : View → ℕ → ℕ → View
handed_over v r t = with_holders v (cond (is_ok (hand_over_answer v r t)) (alone v.holders r t) v.holders)

-- The holder of a record that has just one.
abbrev pub only_holder : View → ℕ → Option ℕ
only_holder v r = cond (count v r == 1) (next v r 0) None
