-- What emptying a place sends, and what a place shows when it is cleared for a request, as each record sees it.
use Rattle.std.proofs.Common.{◌≡◌, ℕ, ◌%◌, true, List, [], ◌++◌, refl, ap, arith}
use Rattle.machine.specs.Machine.{Access, Copy, no_copy, writable, Wait, still, waits, Msg, cell}
use Rattle.machine.specs.Site.{Mail, Place, empty, owned, Want, rests, wants, messages_about, copy_of, wait_of, clear}
use Rattle.machine.specs.Calls.{evict, cleared}
use Rattle.machine.specs.Invariant.{InItsPlace, RecordsBelow}
use Rattle.machine.proofs.Counts.{same_refl, same_no, same_tells}
use Rattle.machine.proofs.Lanes.{push_mine, push_other, append_none}
use Rattle.machine.proofs.TerminalAsks.{may_ask, can_ask, gone}
use Rattle.machine.proofs.Places.{clear_other}
use Rattle.machine.proofs.Writing.{is_writable}

module _ {V : Type 0} where
  -- Nothing sent is nothing seen.
  pub plain-++ : (r : ℕ) (xs : List (Mail V)) → messages_about r (xs ++ []) ≡ messages_about r xs
  plain-++ r xs = ap (messages_about r) (append_none xs)

  -- A record that may be asked for sees no eviction: no writable copy of it is there.
  pub evict_mine : (k : Access) (r : ℕ) (pl : Place V) (xs : List (Mail V)) → may_ask k (copy_of r pl) ≡ true
      → messages_about r (xs ++ evict pl) ≡ messages_about r xs
  unfolding copy_of
  evict_mine k r pl xs h = grind (arith, same_tells, plain-++, push_other)

  -- A record of another place sees no eviction.
  pub evict_apart : (l b p r : ℕ) (pl : Place V) (xs : List (Mail V)) → InItsPlace l b p pl → (p ≡ r % l → ⊥)
      → messages_about r (xs ++ evict pl) ≡ messages_about r xs
  evict_apart l b p r pl xs h d = grind (arith, same_tells, plain-++, push_other)

  -- What is sent is about a known record.
  pub evict_mails : (l b p : ℕ) (pl : Place V) → InItsPlace l b p pl → RecordsBelow b (evict pl)
  evict_mails l b p pl h = grind arith

  -- A record of the place sees its copy go.
  pub gone_is : (r : ℕ) (pl : Place V) (w : Wait) (xs : List (Mail V)) (d : List (Msg V))
      → cell no_copy w (messages_about r (xs ++ evict pl)) d
      ≡ gone (copy_of r pl) (cell (copy_of r pl) w (messages_about r xs) d)
  unfolding copy_of
  gone_is r pl w xs d = grind (arith, same_tells, plain-++, push_mine, push_other)

  -- The record that is asked for keeps its copy.
  pub cleared_mine : (k : Access) (r : ℕ) (pl : Place V) → may_ask k (copy_of r pl) ≡ true
      → copy_of r (cleared k r pl) ≡ copy_of r pl
  unfolding copy_of cleared
  cleared_mine k r pl h = grind (arith, same_tells)

  -- The place is clear for it.
  pub cleared_clear : (k : Access) (r : ℕ) (pl : Place V) → clear r (cleared k r pl) ≡ true
  unfolding clear cleared
  cleared_clear k r pl = grind (arith, same_tells)

  -- What is left is in its place.
  pub cleared_in_place : (l b : ℕ) (k : Access) (r p : ℕ) (pl : Place V) → InItsPlace l b p pl
      → InItsPlace l b p (cleared k r pl)
  unfolding cleared
  cleared_in_place l b k r p pl h = grind (arith, same_tells)

-- The record that is asked for is waited for.
pub want_is : (k : Access) (r : ℕ) → wait_of r (wants k r) ≡ waits k
unfolding wait_of
want_is k r = rw (same_refl r) refl

-- Another is not.
pub want_not : (k : Access) (r q : ℕ) → (r ≡ q → ⊥) → wait_of q (wants k r) ≡ still
unfolding wait_of
want_not k r q d = rw (same_no r q d) refl

-- Who rests waits for none.
pub rests_still : (r : ℕ) → wait_of r rests ≡ still
unfolding wait_of
rests_still r = refl

-- An empty place is clear.
pub emptied : (V : Type 0) (q : ℕ) → clear {V = V} q empty ≡ true
unfolding clear
emptied V q = refl

-- An empty place shows nothing.
pub void_is : {V : Type 0} (q : ℕ) → copy_of {V = V} q empty ≡ no_copy
unfolding copy_of
void_is q = refl

module _ {V : Type 0} where
  -- A cleared place shows no other record.
  pub cleared_other : (k : Access) (r q : ℕ) (pl : Place V) → (r ≡ q → ⊥) → copy_of q (cleared k r pl) ≡ no_copy
  cleared_other k r q pl d = clear_other r q (cleared k r pl) d (cleared_clear k r pl)

  -- A place with a writable copy of r is as clear as one with another value.
  pub owned_is : (r : ℕ) (pl : Place V) → is_writable (copy_of r pl) ≡ true
      → (clear r pl ≡ true) × ((v : V) (q : ℕ) → clear q (owned r v) ≡ clear q pl)
  unfolding copy_of clear
  owned_is r pl h = grind (arith, same_tells)

  -- It shows the value.
  pub owned_mine : (r : ℕ) (v : V) → copy_of r (owned r v) ≡ writable v
  unfolding copy_of
  owned_mine r v = rw (same_refl r) refl

  -- It is clear for r.
  pub owned_clear : (r : ℕ) (v : V) → clear r (owned r v) ≡ true
  unfolding clear
  owned_clear r v = same_refl r

  -- Who rests, and whose copy allows it, can ask.
  pub can_is : (k : Access) (r : ℕ) (w : Want) (c : Copy V) (u d : List (Msg V)) → w ≡ rests → may_ask k c ≡ true
      → can_ask k (cell c (wait_of r w) u d) ≡ true
  can_is k r w c u d e h = rw (e, rests_still r) h
