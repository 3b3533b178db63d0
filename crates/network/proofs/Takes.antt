-- What an accepted put and an accepted drop say, and what they leave: for whoever makes a network.
use Rattle.std.proofs.Common.{◌≡◌, ℕ, ◌<◌, ◌≤◌, Bool, true, false, ltb, leb, [], ◌∷◌, ◌++◌, length, refl, arith, Err}
use Rattle.std.proofs.lemmas.Bool.{leb-true, ltb-true}
use Rattle.message.specs.declared.Message.{Message}
use Rattle.message.specs.Checks.{given}
use Rattle.message.specs.Refusals.{Answer, accepted}
use Rattle.message.specs.declared.refusals.Refusal.{Refusal}
use Rattle.message.specs.declared.refusals.Refusal.TheVariants.{Full, Empty, NoSuchTerminal, Malformed}
use Rattle.message.specs.Lists.{with_list}
use Rattle.message.specs.Messages.{well_formed}
use Rattle.network.specs.Traffic.{Traffic, drop_answer, drop_waiting, has_lane, later, put_answer, put_waiting}

-- A check that was passed.
passed : (test : Bool) (refusal : Refusal) (follows : Answer) → given test (Err refusal) follows ≡ accepted → (test ≡ true) × (follows ≡ accepted)
passed true refusal follows took = (refl, took)
passed false refusal follows took = absurd (let z : ◌≡◌ {A = ℕ} 0 1 = cc in omega arith)

pub record Took (t : Traffic) (l : ℕ) (m : Message) : Type 0 where
  pub there : l < t.lanes
  pub formed : well_formed m ≡ true
  pub room : length (t.waiting l) < t.depth
  pub after : put_waiting t l m ≡ with_list t.waiting l (t.waiting l ++ m ∷ [])

joined : (t : Traffic) (l : ℕ) (m : Message) → put_answer t l m ≡ accepted → put_waiting t l m ≡ with_list t.waiting l (t.waiting l ++ m ∷ [])
unfolding put_waiting
joined t l m is = rw is

pub took : (t : Traffic) (l : ℕ) (m : Message) → put_answer t l m ≡ accepted → Took t l m
unfolding put_answer
took t l m is =
    let one = passed (has_lane t l) NoSuchTerminal _ is in
    let two = passed (well_formed m) Malformed _ one.1 in
    let three = passed (ltb (length (t.waiting l)) t.depth) Full _ two.1 in
    record {
      there = ltb-true l t.lanes one.0;
      formed = two.0;
      room = ltb-true (length (t.waiting l)) t.depth three.0;
      after = joined t l m is;
    }

pub record Lost (t : Traffic) (l : ℕ) : Type 0 where
  pub there : l < t.lanes
  pub some : 1 ≤ length (t.waiting l)
  pub after : drop_waiting t l ≡ with_list t.waiting l (later (t.waiting l))

left : (t : Traffic) (l : ℕ) → drop_answer t l ≡ accepted → drop_waiting t l ≡ with_list t.waiting l (later (t.waiting l))
unfolding drop_waiting
left t l is = rw is

pub lost : (t : Traffic) (l : ℕ) → drop_answer t l ≡ accepted → Lost t l
unfolding drop_answer
lost t l is =
    let one = passed (has_lane t l) NoSuchTerminal _ is in
    let two = passed (leb 1 (length (t.waiting l))) Empty _ one.1 in
    record { there = ltb-true l t.lanes one.0; some = leb-true 1 (length (t.waiting l)) two.0; after = left t l is }
