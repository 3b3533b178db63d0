-- What a network means, and what its calls answer and leave.
use Rattle.std.specs.Prelude.{ℕ, Bool, cond, List, [], ◌∷◌, ◌++◌, length, None, Option, nat_le, nat_lt, Err, is_ok}
use Rattle.std.specs.List.{slice_get}
use Rattle.message.specs.declared.Message.{Message}
use Rattle.message.specs.Refusals.{Answer, accepted}
use Rattle.message.specs.declared.refusals.Refusal.TheVariants.{Full, Empty, NoSuchTerminal, Malformed}
use Rattle.message.specs.Checks.{given}
use Rattle.message.specs.Lists.{with_list}
use Rattle.message.specs.Messages.{well_formed}

-- How many lanes there are, the one depth of all of them, and for each lane the messages that wait, oldest first.
pub record Traffic : Type 0 where
  pub lanes : ℕ
  pub depth : ℕ
  pub waiting : ℕ → List Message

-- Whether a lane is there.
abbrev pub has_lane : Traffic → ℕ → Bool
has_lane t l = nat_lt l t.lanes

-- The traffic where other messages wait; the number of lanes and the depth never change.
abbrev pub with_waiting : Traffic → (ℕ → List Message) → Traffic
with_waiting t lists = record { lanes = t.lanes; depth = t.depth; waiting = lists }

-- How many messages wait in a lane: 0 in a lane that is not there.
abbrev pub number_waiting : Traffic → ℕ → ℕ
number_waiting t l = cond (has_lane t l) (length (t.waiting l)) 0

-- The oldest message of a lane, or none: none in a lane that is not there.
abbrev pub oldest : Traffic → ℕ → Option Message
oldest t l = cond (has_lane t l) (slice_get (t.waiting l) 0) None

-- Put: is the lane there, then is the message well formed, then do fewer messages wait than the depth?
unfoldable pub put_answer : Traffic → ℕ → Message → Answer
put_answer t l m =
    given (has_lane t l) (Err NoSuchTerminal)
    (given (well_formed m) (Err Malformed)
    (given (nat_lt (length (t.waiting l)) t.depth) (Err Full)
    accepted))

-- If so, it joins the end of its lane; else nothing changes. The other lanes stay.
unfoldable pub put_waiting : Traffic → ℕ → Message → ℕ → List Message
put_waiting t l m = cond (is_ok (put_answer t l m)) (with_list t.waiting l (t.waiting l ++ m ∷ [])) t.waiting

abbrev pub after_put : Traffic → ℕ → Message → Traffic
after_put t l m = with_waiting t (put_waiting t l m)

-- Drop: is the lane there, then does a message wait?
unfoldable pub drop_answer : Traffic → ℕ → Answer
drop_answer t l =
    given (has_lane t l) (Err NoSuchTerminal)
    (given (nat_le 1 (length (t.waiting l))) (Err Empty)
    accepted)

-- All but the oldest.
abbrev pub later : List Message → List Message
later [] = []
later (m ∷ ms) = ms

-- If so, the oldest goes; else nothing changes. The other lanes stay.
unfoldable pub drop_waiting : Traffic → ℕ → ℕ → List Message
drop_waiting t l = cond (is_ok (drop_answer t l)) (with_list t.waiting l (later (t.waiting l))) t.waiting

abbrev pub after_drop : Traffic → ℕ → Traffic
after_drop t l = with_waiting t (drop_waiting t l)
