-- What the messages of a lane weigh together, and that a lane weighs what it holds about each record. With the weight 1
-- this bounds a lane's length; with the cost of messages, the number of steps.
use Rattle.std.proofs.Common.{◌≡◌, ℕ, suc, ◌+◌, ◌-◌, ◌*◌, Bool, true, false, cond, List, [], ◌∷◌, ◌++◌, length, sym, refl, ap, arith}
use Rattle.machine.specs.Machine.{same, count, Msg, REQ, REPM, UPDATE, ACKC, INV, BUSY, DATA}
use Rattle.machine.specs.Site.{Mail, mails, messages_about, total}
use Rattle.machine.specs.Invariant.{RecordsBelow}
use Rattle.machine.proofs.Counts.{count_same}
use Rattle.machine.proofs.Sums.{total_ext, total_add, total_none, total_count}

module _ {V : Type 0} where
  -- The weight of messages.
  abbrev pub weigh : (Msg V → ℕ) → List (Msg V) → ℕ
  weigh w [] = 0
  weigh w (m ∷ ms) = w m + weigh w ms

  -- The weight of a lane.
  abbrev pub load : (Msg V → ℕ) → List (Mail V) → ℕ
  load w [] = 0
  load w (x ∷ xs) = w x.msg + load w xs

  -- Of two lanes in a row, the sum.
  pub load-++ : (w : Msg V → ℕ) (xs ys : List (Mail V)) → load w (xs ++ ys) ≡ load w xs + load w ys
  load-++ w [] ys = omega arith
  load-++ w (x ∷ xs) ys = omega (arith, load-++ w xs ys)

  -- A lane of messages about one record weighs what they do.
  pub load_mails : (w : Msg V → ℕ) (r : ℕ) (ms : List (Msg V)) → load w (mails r ms) ≡ weigh w ms
  load_mails w r [] = refl
  load_mails w r (m ∷ ms) = ap (λ y. w m + y) (load_mails w r ms)

  -- A lane weighs what it holds about each record.
  pub split : (w : Msg V → ℕ) (b : ℕ) (xs : List (Mail V)) → RecordsBelow b xs
      → load w xs ≡ total (λ r. weigh w (messages_about r xs)) b
  unfolding messages_about
  split w b [] h = sym (total_none b)
  split w b (x ∷ xs) h =
      let g : total (λ r. cond (same x.of r) (w x.msg) 0 + weigh w (messages_about r xs)) b
      ≡ total (λ r. cond (same x.of r) (w x.msg) 0) b + total (λ r. weigh w (messages_about r xs)) b
      = total_add (λ r. cond (same x.of r) (w x.msg) 0) (λ r. weigh w (messages_about r xs)) b in
      let k : total (λ r. weigh w (cond (same x.of r) (x.msg ∷ messages_about r xs) (messages_about r xs))) b
      ≡ total (λ r. cond (same x.of r) (w x.msg) 0 + weigh w (messages_about r xs)) b
      = total_ext (λ r. weigh w (cond (same x.of r) (x.msg ∷ messages_about r xs) (messages_about r xs)))
      (λ r. cond (same x.of r) (w x.msg) 0 + weigh w (messages_about r xs)) b
      (λ r l. pick (same x.of r) (messages_about r xs)) in
      let c : count (same x.of) b ≡ 1 = count_same b x.of h.0 in
      let m : w x.msg * count (same x.of) b ≡ w x.msg = rw c (omega arith) in
      omega (arith, g, k, m, total_count (same x.of) (w x.msg) b, split w b xs h.1)
    where
      pick : (c : Bool) (ms : List (Msg V)) → weigh w (cond c (x.msg ∷ ms) ms) ≡ cond c (w x.msg) 0 + weigh w ms
      pick true ms = refl
      pick false ms = omega arith

  -- How many steps a message on its way up may still cost, at n terminals: one to take it, and for a request the
  -- invalidation and the acknowledgement of each of the others.
  abbrev pub cost_up : ℕ → Msg V → ℕ
  cost_up n (REQ k) = 2 * n - 1
  cost_up n (REPM v) = 1
  cost_up n (UPDATE v) = 1
  cost_up n ACKC = 1
  cost_up n INV = 1
  cost_up n BUSY = 1
  cost_up n (DATA k v) = 1

  -- How many steps a message on its way down may still cost, besides ending a wait: one to take an invalidation, and one to
  -- take its acknowledgement.
  abbrev pub cost_down : Msg V → ℕ
  cost_down (REQ k) = 0
  cost_down (REPM v) = 0
  cost_down (UPDATE v) = 0
  cost_down ACKC = 0
  cost_down INV = 2
  cost_down BUSY = 0
  cost_down (DATA k v) = 0

  -- Each message weighs 1.
  abbrev pub one : Msg V → ℕ
  one m = 1

  -- Then a lane weighs its length.
  pub length_load : (xs : List (Mail V)) → length xs ≡ load one xs
  length_load [] = refl
  length_load (x ∷ xs) = omega (arith, length_load xs)

  -- As many messages make as long a lane.
  pub length_mails : (r : ℕ) (ms : List (Msg V)) → length (mails r ms) ≡ length ms
  length_mails r [] = refl
  length_mails r (m ∷ ms) = ap suc (length_mails r ms)
