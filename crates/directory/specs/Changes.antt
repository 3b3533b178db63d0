-- How calls change a directory, and what they answer.
use Rattle.std.specs.Prelude.{ℕ, cond, not, ◌&&◌, ◌||◌, ◌==◌, nat_lt, Err, is_ok}
use Rattle.message.specs.Refusals.{Answer, accepted}
use Rattle.message.specs.declared.refusals.Refusal.TheVariants.{NoSuchTerminal, NoSuchRecord, AtLimit}
use Rattle.message.specs.Checks.{given}
use Rattle.directory.specs.Directories.{Holders, View, count}

-- Other holders; the sizes stay.
abbrev pub with_holders : View → Holders → View
with_holders v h = record { holders = h; records = v.records; terminals = v.terminals; limit = v.limit }

-- Terminal t is among the holders of record r; the sets of other records stay.
abbrev pub joined : Holders → ℕ → ℕ → Holders
joined h r t q u = (q == r && u == t) || h q u

-- Record r has no holder; the sets of other records stay.
abbrev pub emptied : Holders → ℕ → Holders
emptied h r q u = not (q == r) && h q u

-- The record and then the terminal must be served.
abbrev pub served_answer : View → ℕ → ℕ → Answer
served_answer v r t = given (nat_lt r v.records) (Err NoSuchRecord) (given (nat_lt t v.terminals) (Err NoSuchTerminal) accepted)

-- Add: the record and then the terminal must be served; a holder is accepted again, another terminal below the limit.
abbrev pub add_answer : View → ℕ → ℕ → Answer
add_answer v r t =
    given (nat_lt r v.records) (Err NoSuchRecord)
    (given (nat_lt t v.terminals) (Err NoSuchTerminal)
    (given (v.holders r t || nat_lt (count v r) v.limit) (Err AtLimit) accepted))

-- After an accepted add the terminal is a holder; a refusal changes nothing.
abbrev pub added : View → ℕ → ℕ → View
added v r t = with_holders v (cond (is_ok (add_answer v r t)) (joined v.holders r t) v.holders)

-- Clear: the record must be served.
abbrev pub clear_answer : View → ℕ → Answer
clear_answer v r = given (nat_lt r v.records) (Err NoSuchRecord) accepted

-- After an accepted clear the record has no holder; a refusal changes nothing.
abbrev pub cleared : View → ℕ → View
cleared v r = with_holders v (cond (is_ok (clear_answer v r)) (emptied v.holders r) v.holders)
