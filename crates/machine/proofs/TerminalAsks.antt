-- What a terminal does of itself about one record, as shapes: it asks, or it lets its copy go. Both leave a shape with the same
-- part in what the home is at, so the home's entry need not change.
use Rattle.std.proofs.Common.{◌≡◌, Bool, true, false, ◌&&◌, [], ◌∷◌, ◌++◌, refl, arith}
use Rattle.machine.specs.Machine.{Access, reading, writing, Copy, no_copy, readable, writable, Wait, still, waits, REQ, REPM, Cell, cell}
use Rattle.machine.specs.Shapes.{Ask, to_read, to_write, quiet, asking, turned_away, holding, asking_again, data_coming, permission_coming, owning, given_back, given_back_asking, told, told_asking, told_turned_away, data_coming_told, acked, asked_acked, acked_asked, acked_turned_away, permission_coming_told, owning_told, given_back_told, given_back_asking_told, update_sent, given_back_acked, given_back_asked_acked, given_back_acked_asked, update_sent_asked, Shape, idle, sharer, owner, requester, clean, dirty, decode}
use Rattle.machine.specs.Invariant.{role, copyless}
use Rattle.machine.proofs.Counts.{clash}

module _ {V : Type 0} where
  -- A cell is of a shape with the same part; and a requester without a copy gets none.
  abbrev pub Moved : V → Shape → Cell V → Type 0
  Moved v s c = (z : Shape) × (c ≡ decode v z) × (role z ≡ role s) × (copyless s ≡ true → copyless z ≡ true)

-- Whether nothing is waited for.
abbrev pub is_still : Wait → Bool
is_still still = true
is_still (waits k) = false

module _ {V : Type 0} where
  -- Whether a terminal with this copy may ask for an access.
  abbrev pub may_ask : Access → Copy V → Bool
  may_ask reading no_copy = true
  may_ask reading (readable v) = false
  may_ask reading (writable v) = false
  may_ask writing no_copy = true
  may_ask writing (readable v) = true
  may_ask writing (writable v) = false

  -- It may, and does not wait yet.
  abbrev pub can_ask : Access → Cell V → Bool
  can_ask k c = is_still c.wait && may_ask k c.copy

  -- The cell after asking.
  abbrev pub asked_cell : Access → Cell V → Cell V
  asked_cell k c = cell c.copy (waits k) (c.up ++ (REQ k ∷ [])) c.down

  -- Asking, shape by shape.
  pub ask_good : (v : V) (k : Access) (s : Shape) → can_ask k (decode v s) ≡ true → Moved v s (asked_cell k (decode v s))
  ask_good v k (idle quiet) h = (idle (asking k), refl, refl, λ y. y)
  ask_good v k (idle (asking j)) h = clash h
  ask_good v k (idle (turned_away j)) h = clash h
  ask_good v reading (sharer (holding true)) h = clash h
  ask_good v reading (sharer (holding false)) h = (sharer (asking_again to_read), refl, refl, λ y. y)
  ask_good v writing (sharer (holding b)) h = (sharer (asking_again (to_write b)), refl, refl, λ y. y)
  ask_good v k (sharer (asking_again a)) h = clash h
  ask_good v k (sharer data_coming) h = clash h
  ask_good v k (owner (permission_coming b)) h = clash h
  ask_good v reading (owner owning) h = clash h
  ask_good v writing (owner owning) h = clash h
  ask_good v k (owner given_back) h = (owner (given_back_asking k), refl, refl, λ y. y)
  ask_good v k (owner (given_back_asking j)) h = clash h
  ask_good v k (requester a) h = clash h
  ask_good v reading (clean (told true)) h = clash h
  ask_good v reading (clean (told false)) h = (clean (told_asking to_read), refl, refl, λ y. y)
  ask_good v writing (clean (told b)) h = (clean (told_asking (to_write b)), refl, refl, λ y. y)
  ask_good v k (clean (told_asking a)) h = clash h
  ask_good v k (clean (told_turned_away a)) h = clash h
  ask_good v k (clean data_coming_told) h = clash h
  ask_good v k (clean acked) h = (clean (acked_asked k), refl, refl, λ y. y)
  ask_good v k (clean (asked_acked j)) h = clash h
  ask_good v k (clean (acked_asked j)) h = clash h
  ask_good v k (clean (acked_turned_away j)) h = clash h
  ask_good v k (dirty (permission_coming_told b)) h = clash h
  ask_good v reading (dirty owning_told) h = clash h
  ask_good v writing (dirty owning_told) h = clash h
  ask_good v k (dirty given_back_told) h = (dirty (given_back_asking_told k), refl, refl, λ y. y)
  ask_good v k (dirty (given_back_asking_told j)) h = clash h
  ask_good v k (dirty update_sent) h = (dirty (update_sent_asked k), refl, refl, λ y. y)
  ask_good v k (dirty given_back_acked) h = (dirty (given_back_acked_asked k), refl, refl, λ y. y)
  ask_good v k (dirty (given_back_asked_acked j)) h = clash h
  ask_good v k (dirty (given_back_acked_asked j)) h = clash h
  ask_good v k (dirty (update_sent_asked j)) h = clash h

  -- The copy goes: a readable one silently, a writable one as a replacement.
  abbrev pub gone : Copy V → Cell V → Cell V
  gone no_copy c = c
  gone (readable v) c = cell no_copy c.wait c.up c.down
  gone (writable v) c = cell no_copy c.wait (c.up ++ (REPM v ∷ [])) c.down

-- To wait with no copy.
abbrev without : Ask → Ask
without to_read = to_read
without (to_write b) = to_write false

-- A shape after its copy has gone.
abbrev shape_gone : Shape → Shape
shape_gone (idle x) = idle x
shape_gone (sharer (holding b)) = sharer (holding false)
shape_gone (sharer (asking_again a)) = sharer (asking_again (without a))
shape_gone (sharer data_coming) = sharer data_coming
shape_gone (owner (permission_coming b)) = owner (permission_coming false)
shape_gone (owner owning) = owner given_back
shape_gone (owner given_back) = owner given_back
shape_gone (owner (given_back_asking k)) = owner (given_back_asking k)
shape_gone (requester a) = requester (without a)
shape_gone (clean (told b)) = clean (told false)
shape_gone (clean (told_asking a)) = clean (told_asking (without a))
shape_gone (clean (told_turned_away a)) = clean (told_turned_away (without a))
shape_gone (clean data_coming_told) = clean data_coming_told
shape_gone (clean acked) = clean acked
shape_gone (clean (asked_acked k)) = clean (asked_acked k)
shape_gone (clean (acked_asked k)) = clean (acked_asked k)
shape_gone (clean (acked_turned_away k)) = clean (acked_turned_away k)
shape_gone (dirty (permission_coming_told b)) = dirty (permission_coming_told false)
shape_gone (dirty owning_told) = dirty given_back_told
shape_gone (dirty given_back_told) = dirty given_back_told
shape_gone (dirty (given_back_asking_told k)) = dirty (given_back_asking_told k)
shape_gone (dirty update_sent) = dirty update_sent
shape_gone (dirty given_back_acked) = dirty given_back_acked
shape_gone (dirty (given_back_asked_acked k)) = dirty (given_back_asked_acked k)
shape_gone (dirty (given_back_acked_asked k)) = dirty (given_back_acked_asked k)
shape_gone (dirty (update_sent_asked k)) = dirty (update_sent_asked k)

module _ {V : Type 0} where
  -- Letting the copy go.
  pub gone_good : (v : V) (s : Shape) → Moved v s (gone (decode v s).copy (decode v s))
  gone_good v s = (shape_gone s, grind arith, grind arith, grind arith)
