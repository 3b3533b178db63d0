-- What a terminal does about a message, as shapes: it expects the oldest message of its lane, and a shape with the same part
-- is left. So a terminal never drops a message that the home sent.
use Rattle.std.proofs.Common.{◌≡◌, ℕ, ◌+◌, ◌<◌, Bool, true, false, ◌⊎◌, List, [], ◌∷◌, ◌++◌, refl, inl, inr, arith}
use mathlib.Core.Option.{some}
use Rattle.machine.specs.Machine.{reading, writing, no_copy, Wait, still, waits, Msg, INV, Cell, cell}
use Rattle.machine.specs.HomeRules.{rest}
use Rattle.machine.specs.TerminalRules.{Took, receive, on_data, on_inv, on_busy}
use Rattle.machine.specs.Shapes.{to_read, to_write, quiet, asking, turned_away, holding, asking_again, data_coming, permission_coming, owning, given_back, given_back_asking, told, told_asking, told_turned_away, data_coming_told, acked, asked_acked, acked_asked, acked_turned_away, permission_coming_told, owning_told, given_back_told, given_back_asking_told, update_sent, given_back_acked, given_back_asked_acked, given_back_acked_asked, update_sent_asked, Shape, idle, sharer, owner, requester, clean, dirty, decode}
use Rattle.machine.proofs.Weights.{weigh, cost_up, cost_down}
use Rattle.machine.proofs.TerminalAsks.{Moved}

module _ {V : Type 0} where
  -- The cell after taking the oldest message of the down lane.
  abbrev pub taken : Took V → Cell V → Cell V
  taken k c = cell k.copy k.wait (c.up ++ k.reply) (rest c.down)

-- Whether something is waited for.
abbrev pub waiting : Wait → Bool
waiting still = false
waiting (waits k) = true

-- 1 for a wait.
abbrev pub wait_weight : Wait → ℕ
wait_weight still = 0
wait_weight (waits k) = 1

module _ {V : Type 0} where
  -- The message ends the wait, or it is an invalidation and the wait goes on without a copy.
  abbrev pub Ends : Msg V → Took V → Cell V → Type 0
  Ends m k c =
      ((k.wait ≡ still) × (waiting c.wait ≡ true)) ⊎ ((m ≡ INV) × (k.wait ≡ c.wait) × (k.copy ≡ no_copy))

  -- The step costs something: the reply and what is still waited for cost less than the message and the wait before.
  abbrev pub Cheaper : Msg V → Took V → Wait → Type 0
  Cheaper m k w = (n : ℕ) → weigh (cost_up n) k.reply + wait_weight k.wait < cost_down m + wait_weight w

  -- The oldest message of a down lane, if there is one, is expected, and a shape of the same part is left.
  abbrev pub Takes : V → Shape → Cell V → List (Msg V) → Type 0
  Takes v s c [] = Unit {0}
  Takes v s c (m ∷ ms) =
      (k : Took V) × (receive m c.copy c.wait ≡ some k) × Ends m k c × Moved v s (taken k c) × Cheaper m k c.wait

  -- Taking a message, shape by shape.
  pub take_good : (v : V) (s : Shape) → Takes v s (decode v s) (decode v s).down
  unfolding on_data on_inv on_busy
  take_good v (idle quiet) = tt
  take_good v (idle (asking k)) = tt
  take_good v (idle (turned_away k)) = (_, refl, inl (refl, refl), (idle quiet, refl, refl, λ y. y), λ n. omega arith)
  take_good v (sharer (holding b)) = tt
  take_good v (sharer (asking_again a)) = tt
  take_good v (sharer data_coming) = (_, refl, inl (refl, refl), (sharer (holding true), refl, refl, λ y. y), λ n. omega arith)
  take_good v (owner (permission_coming true)) =
      (_, refl, inl (refl, refl), (owner owning, refl, refl, λ y. y), λ n. omega arith)
  take_good v (owner (permission_coming false)) =
      (_, refl, inl (refl, refl), (owner owning, refl, refl, λ y. y), λ n. omega arith)
  take_good v (owner owning) = tt
  take_good v (owner given_back) = tt
  take_good v (owner (given_back_asking k)) = tt
  take_good v (requester a) = tt
  take_good v (clean (told true)) = (_, refl, inr (refl, refl, refl), (clean acked, refl, refl, λ y. y), λ n. omega arith)
  take_good v (clean (told false)) = (_, refl, inr (refl, refl, refl), (clean acked, refl, refl, λ y. y), λ n. omega arith)
  take_good v (clean (told_asking to_read)) =
      (_, refl, inr (refl, refl, refl), (clean (asked_acked reading), refl, refl, λ y. y), λ n. omega arith)
  take_good v (clean (told_asking (to_write true))) =
      (_, refl, inr (refl, refl, refl), (clean (asked_acked writing), refl, refl, λ y. y), λ n. omega arith)
  take_good v (clean (told_asking (to_write false))) =
      (_, refl, inr (refl, refl, refl), (clean (asked_acked writing), refl, refl, λ y. y), λ n. omega arith)
  take_good v (clean (told_turned_away to_read)) =
      (_, refl, inr (refl, refl, refl), (clean (acked_turned_away reading), refl, refl, λ y. y), λ n. omega arith)
  take_good v (clean (told_turned_away (to_write true))) =
      (_, refl, inr (refl, refl, refl), (clean (acked_turned_away writing), refl, refl, λ y. y), λ n. omega arith)
  take_good v (clean (told_turned_away (to_write false))) =
      (_, refl, inr (refl, refl, refl), (clean (acked_turned_away writing), refl, refl, λ y. y), λ n. omega arith)
  take_good v (clean data_coming_told) = (_, refl, inl (refl, refl), (clean (told true), refl, refl, λ y. y), λ n. omega arith)
  take_good v (clean acked) = tt
  take_good v (clean (asked_acked k)) = tt
  take_good v (clean (acked_asked k)) = tt
  take_good v (clean (acked_turned_away k)) = (_, refl, inl (refl, refl), (clean acked, refl, refl, λ y. y), λ n. omega arith)
  take_good v (dirty (permission_coming_told true)) =
      (_, refl, inl (refl, refl), (dirty owning_told, refl, refl, λ y. y), λ n. omega arith)
  take_good v (dirty (permission_coming_told false)) =
      (_, refl, inl (refl, refl), (dirty owning_told, refl, refl, λ y. y), λ n. omega arith)
  take_good v (dirty owning_told) = (_, refl, inr (refl, refl, refl), (dirty update_sent, refl, refl, λ y. y), λ n. omega arith)
  take_good v (dirty given_back_told) =
      (_, refl, inr (refl, refl, refl), (dirty given_back_acked, refl, refl, λ y. y), λ n. omega arith)
  take_good v (dirty (given_back_asking_told k)) =
      (_, refl, inr (refl, refl, refl), (dirty (given_back_asked_acked k), refl, refl, λ y. y), λ n. omega arith)
  take_good v (dirty update_sent) = tt
  take_good v (dirty given_back_acked) = tt
  take_good v (dirty (given_back_asked_acked k)) = tt
  take_good v (dirty (given_back_acked_asked k)) = tt
  take_good v (dirty (update_sent_asked k)) = tt
