-- What a put and a drop mean for each lane: for whoever uses networks.
use Rattle.std.proofs.Common.{◌≡◌, ℕ, Bool, true, false, cond, List, [], ◌∷◌, ◌++◌, refl, is_ok}
use Rattle.message.specs.Refusals.{accepted}
use Rattle.message.proofs.Lists.{with_other, with_same}
use Rattle.message.specs.declared.Message.{Message}
use Rattle.message.specs.Lists.{with_list}
use Rattle.network.specs.Traffic.{Traffic, drop_answer, drop_waiting, later, put_answer, put_waiting}

-- An accepted message is the last of its lane.
pub put_here : (t : Traffic) (l : ℕ) (m : Message) → put_answer t l m ≡ accepted → put_waiting t l m l ≡ t.waiting l ++ m ∷ []
unfolding put_waiting
put_here t l m took = rw took (with_same t.waiting l (t.waiting l ++ m ∷ []))

-- The other lanes stay, accepted or not.
other : (test : Bool) (lists : ℕ → List Message) (l k : ℕ) (new : List Message) → (k ≡ l → ⊥) → cond test (with_list lists l new) lists k ≡ lists k
other true lists l k new apart = with_other lists l k new apart
other false lists l k new apart = refl

pub put_elsewhere : (t : Traffic) (l k : ℕ) (m : Message) → (k ≡ l → ⊥) → put_waiting t l m k ≡ t.waiting k
unfolding put_waiting
put_elsewhere t l k m apart = other (is_ok (put_answer t l m)) t.waiting l k (t.waiting l ++ m ∷ []) apart

pub drop_here : (t : Traffic) (l : ℕ) → drop_answer t l ≡ accepted → drop_waiting t l l ≡ later (t.waiting l)
unfolding drop_waiting
drop_here t l took = rw took (with_same t.waiting l (later (t.waiting l)))

pub drop_elsewhere : (t : Traffic) (l k : ℕ) → (k ≡ l → ⊥) → drop_waiting t l k ≡ t.waiting k
unfolding drop_waiting
drop_elsewhere t l k apart = other (is_ok (drop_answer t l)) t.waiting l k (later (t.waiting l)) apart

-- What a put answers hangs on its own lane alone.
pub put_code_at : (t u : Traffic) (l : ℕ) (m : Message) → t.lanes ≡ u.lanes → t.depth ≡ u.depth → t.waiting l ≡ u.waiting l
    → put_answer t l m ≡ put_answer u l m
unfolding put_answer
put_code_at t u l m lanes depth waiting = rw (lanes, depth, waiting)
