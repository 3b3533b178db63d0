-- A site: many records, terminals with a few places each, and lanes that all records share; and what one record sees of it.
use Rattle.std.specs.Prelude.{ℕ, zero, suc, ◌+◌, ◌%◌, Bool, true, cond, ◌&&◌, List, [], ◌∷◌}
use Rattle.machine.specs.Machine.{Access, Copy, no_copy, readable, writable, Wait, still, waits, Msg, Cell, cell, Home, same}

-- A message and the record that it is about.
pub record Mail (V : Type 0) : Type 0 where
  pub of : ℕ
  pub msg : Msg V

-- A place of a terminal: empty, or a copy of a record, shared or owned.
pub data Place (V : Type 0) : Type 0 where
  empty : Place V
  shared owned : ℕ → V → Place V

-- What a terminal waits for: nothing, or access to one record.
pub data Want : Type 0 where
  rests : Want
  wants : Access → ℕ → Want

-- How large the site is: n terminals, b records and l places a terminal; how many terminals the directory serves and how
-- many holders it takes for one record; how many messages a lane holds on its way up and down.
pub record Sizes : Type 0 where
  pub n : ℕ
  pub b : ℕ
  pub l : ℕ
  pub served : ℕ
  pub limit : ℕ
  pub up_depth : ℕ
  pub down_depth : ℕ

-- The home's entry of each record; each terminal's places, its wait, and its lanes to the home and back, oldest first.
pub record Site (V : Type 0) : Type 0 where
  pub homes : ℕ → Home V
  pub place : ℕ → ℕ → Place V
  pub wait : ℕ → Want
  pub up : ℕ → List (Mail V)
  pub down : ℕ → List (Mail V)

-- A family with another member t.
abbrev pub changed : {A : Type 0} → (ℕ → A) → ℕ → A → ℕ → A
changed f t a u = cond (same t u) a (f u)

-- The sum of a family over the numbers below n.
unfoldable pub total : (ℕ → ℕ) → ℕ → ℕ
total f zero = 0
total f (suc n) = f n + total f n

module _ {V : Type 0} where
  -- A message about record r.
  abbrev pub mail : ℕ → Msg V → Mail V
  mail r m = record { of = r; msg = m }

  -- Messages about record r.
  abbrev pub mails : ℕ → List (Msg V) → List (Mail V)
  mails r [] = []
  mails r (m ∷ ms) = mail r m ∷ mails r ms

  -- The rows of places with another place p of terminal t.
  abbrev pub put_place : (ℕ → ℕ → Place V) → ℕ → ℕ → Place V → ℕ → ℕ → Place V
  put_place rows t p a u q = cond (same t u && same p q) a (rows u q)

  -- What a lane holds about record r.
  unfoldable pub messages_about : ℕ → List (Mail V) → List (Msg V)
  messages_about r [] = []
  messages_about r (x ∷ xs) = cond (same x.of r) (x.msg ∷ messages_about r xs) (messages_about r xs)

  -- The copy of record r that a place shows.
  unfoldable pub copy_of : ℕ → Place V → Copy V
  copy_of r empty = no_copy
  copy_of r (shared x v) = cond (same x r) (readable v) no_copy
  copy_of r (owned x v) = cond (same x r) (writable v) no_copy

-- What a terminal waits for, of record r.
unfoldable pub wait_of : ℕ → Want → Wait
wait_of r rests = still
wait_of r (wants k x) = cond (same x r) (waits k) still

module _ {V : Type 0} where
  -- Terminal t's part of record r: the place r mod l, its wait, and what its lanes hold about r.
  abbrev pub projection : Sizes → Site V → ℕ → ℕ → Cell V
  projection sizes site r t =
      cell
      (copy_of r (site.place t (r % sizes.l)))
      (wait_of r (site.wait t))
      (messages_about r (site.up t))
      (messages_about r (site.down t))

  -- Whether a copy of record r may come into a place: it is empty, or shows r already.
  unfoldable pub clear : ℕ → Place V → Bool
  clear r empty = true
  clear r (shared x v) = same x r
  clear r (owned x v) = same x r

  -- A place after the copy of record r in it became another; losing a copy that it does not show leaves it.
  unfoldable pub place_of : ℕ → Copy V → Place V → Place V
  place_of r no_copy place = cond (clear r place) empty place
  place_of r (readable v) place = shared r v
  place_of r (writable v) place = owned r v

-- A terminal's wait after that of record r went on or ended.
unfoldable pub want_of : ℕ → Wait → Want → Want
want_of r (waits k) want = want
want_of r still rests = rests
want_of r still (wants k x) = cond (same x r) rests (wants k x)
