-- Each rule of the home leaves a legal entry where it found one. The one rule that counts anew is that of a write request while
-- others hold the record: it awaits one acknowledgement from each of these, and as the writer is none of them, 1 to 63.
use Rattle.std.proofs.Common.{◌≡◌, ℕ, ◌<◌, ◌≤◌, Bool, true, false, cond, not, eqb, ltb, List, Some, None, Option, refl, arith, is_ok}
use Rattle.std.proofs.lemmas.Bool.{cond_both, eqb-false, eq-eqb, ltb-true, not_from_true, and_right}
use Rattle.message.specs.declared.refusals.Refusal.{Refusal}
use Rattle.message.specs.declared.Message.{Message}
use Rattle.message.specs.declared.refusals.Refusal.TheVariants.{Full, OutOfTurn}
use Rattle.message.specs.declared.kinds.Kind.{Kind}
use Rattle.message.specs.declared.kinds.Kind.TheVariants.{ReadRequest, WriteRequest, Replacement, Update, Acknowledgement, ReadData, WriteData, Invalidate, Busy}
use Rattle.message.specs.Checks.{given}
use Rattle.directory.specs.Directories.{Holders}
use Rattle.directory.specs.Changes.{add_answer}
use Rattle.directory.proofs.Counting.{tally_lt}
use Rattle.protocol.specs.declared.Entry.{Entry}
use Rattle.protocol.specs.declared.HomeState.{HomeState}
use Rattle.protocol.specs.declared.HomeState.TheVariants.{ReadOnly, ReadWrite, ReadTransaction, WriteTransaction}
use Rattle.protocol.specs.Sends.{has_room, each_has_room, besides}
use Rattle.protocol.specs.Scenes.{Scene, Ruling, refuses, accepts, entry_after}
use Rattle.protocol.specs.HomeRules.{others, all_holders_below, sole_holder, read_granted, write_unshared, write_shared, recalled_from, replaced_by, turned_away, value_kept, counted_down, finished_for, finished, read_requested, write_requested, replacement_came, update_came, acknowledged, ruled}
use Rattle.protocol.specs.HomeSteps.{answered}
use Rattle.protocol.specs.Legal.{LegalCount, Legal}

-- the entry after a ruling is legal
pub record LeavesLegalEntry (before : Entry) (ruling : Ruling) : Type 0 where
  pub legal : Legal (entry_after ruling before)

-- fewer than 64 terminals are others than the writer
others_few : (s : Scene) (r t : ℕ) → t < 64 → others s.directory r t < 64
others_few s r t served =
    let no_other : besides (s.directory.holders r) t t ≡ false = and_right (s.directory.holders r t) _ (not_from_true _ (eq-eqb t t refl)) in
    tally_lt (besides (s.directory.holders r) t) t 64 served no_other

module _ (s : Scene) (r t : ℕ) (before : Legal s.entry) where
  abbrev Leaves : Ruling → Type 0
  Leaves = LeavesLegalEntry s.entry

  -- a refusal, and an acceptance with the same entry
  refused_legal : {refusal : Refusal} → Leaves (refuses refusal)
  refused_legal = record { legal = before }

  same_legal : {holders : Holders} {waiting : ℕ → List Message} → Leaves (accepts s.entry holders waiting)
  same_legal = record { legal = before }

  -- one of two, by a test; and a rule behind a check
  either : (test : Bool) {one other : Ruling} → (test ≡ true → Leaves one) → (test ≡ false → Leaves other) → Leaves (cond test one other)
  either test {one} {other} = cond_both test one other Leaves

  behind : (test : Bool) (refusal : Refusal) {ruling : Ruling} → Leaves ruling → Leaves (given test (refuses refusal) ruling)
  behind test code follows = either test (λ _. follows) (λ _. refused_legal)

  -- the rules, in their order
  read_granted_legal : Leaves (read_granted s r t)
  read_granted_legal =
      behind (has_room s.down t) Full (either (is_ok (add_answer s.directory r t)) (λ _. same_legal) (λ _. same_legal))

  write_unshared_legal : s.entry.awaited ≡ 0 → Leaves (write_unshared s r t)
  write_unshared_legal none = behind (has_room s.down t) Full (record { legal = none })

  write_shared_legal : t < 64 → eqb (others s.directory r t) 0 ≡ false → Leaves (write_shared s r t)
  write_shared_legal served some =
      let few = others_few s r t served in
      let not_None = eqb-false (others s.directory r t) 0 some in
      behind (all_holders_below s.terminals s.directory r) OutOfTurn
      (behind (each_has_room s.down (besides (s.directory.holders r) t) s.terminals) Full
      (record { legal = (omega arith, omega arith) }))

  recalled_legal : (holder : Option ℕ) (transaction : HomeState) → LegalCount transaction 1 → Leaves (recalled_from holder transaction s r t)
  recalled_legal None transaction one = refused_legal
  recalled_legal (Some i) transaction one = behind (not (eqb i t)) OutOfTurn (behind (has_room s.down i) Full (record { legal = one }))

  replaced_legal : (holder : Option ℕ) (v : ℕ) → s.entry.awaited ≡ 0 → Leaves (replaced_by holder s r t v)
  replaced_legal None v none = refused_legal
  replaced_legal (Some i) v none = behind (eqb i t) OutOfTurn (record { legal = none })

  turned_away_legal : Leaves (turned_away s r t)
  turned_away_legal = behind (has_room s.down t) Full same_legal

  value_kept_legal : (v : ℕ) → Leaves (value_kept s v)
  value_kept_legal v = record { legal = before }

  counted_down_legal : s.entry.state ≡ WriteTransaction → s.entry.awaited ≤ 63 → 1 < s.entry.awaited → Leaves (counted_down s)
  counted_down_legal is few several = record { legal = rw is (omega arith, omega arith) }

  finished_for_legal : (holder : Option ℕ) (next : HomeState) (reply : Kind) (v : ℕ) → LegalCount next 0 → Leaves (finished_for holder next reply s r v)
  finished_for_legal None next reply v ends = refused_legal
  finished_for_legal (Some i) next reply v ends = behind (has_room s.down i) Full (record { legal = ends })

  finished_legal : (next : HomeState) (reply : Kind) (v : ℕ) → LegalCount next 0 → Leaves (finished next reply s r v)
  finished_legal next reply v ends = behind (eqb s.entry.awaited 1) OutOfTurn (finished_for_legal (sole_holder s r) next reply v ends)

  -- the kinds of messages, in each state
  read_requested_legal : (state : HomeState) → Leaves (read_requested state s r t)
  read_requested_legal ReadOnly = read_granted_legal
  read_requested_legal ReadWrite = recalled_legal (sole_holder s r) ReadTransaction refl
  read_requested_legal ReadTransaction = turned_away_legal
  read_requested_legal WriteTransaction = turned_away_legal

  write_requested_legal : (state : HomeState) → LegalCount state s.entry.awaited → t < 64 → Leaves (write_requested state s r t)
  write_requested_legal ReadOnly none served =
      either (eqb (others s.directory r t) 0) (λ _. write_unshared_legal none) (write_shared_legal served)
  write_requested_legal ReadWrite none served = recalled_legal (sole_holder s r) WriteTransaction (omega arith, omega arith)
  write_requested_legal ReadTransaction one served = turned_away_legal
  write_requested_legal WriteTransaction some served = turned_away_legal

  replacement_came_legal : (state : HomeState) (v : ℕ) → LegalCount state s.entry.awaited → Leaves (replacement_came state s r t v)
  replacement_came_legal ReadOnly v none = refused_legal
  replacement_came_legal ReadWrite v none = replaced_legal (sole_holder s r) v none
  replacement_came_legal ReadTransaction v one = value_kept_legal v
  replacement_came_legal WriteTransaction v some = value_kept_legal v

  update_came_legal : (state : HomeState) (v : ℕ) → Leaves (update_came state s r v)
  update_came_legal ReadOnly v = refused_legal
  update_came_legal ReadWrite v = refused_legal
  update_came_legal ReadTransaction v = finished_legal ReadOnly ReadData v refl
  update_came_legal WriteTransaction v = finished_legal ReadWrite WriteData v refl

  acknowledged_legal : (state : HomeState) → s.entry.state ≡ state → LegalCount state s.entry.awaited → Leaves (acknowledged state s r)
  acknowledged_legal ReadOnly is none = refused_legal
  acknowledged_legal ReadWrite is none = refused_legal
  acknowledged_legal ReadTransaction is one = finished_legal ReadOnly ReadData s.entry.value refl
  acknowledged_legal WriteTransaction is some =
      either (ltb 1 s.entry.awaited)
      (λ several. counted_down_legal is some.1 (ltb-true 1 s.entry.awaited several))
      (λ _. finished_legal ReadWrite WriteData s.entry.value refl)

  ruled_legal : (kind : Kind) (v : ℕ) → t < 64 → Leaves (ruled kind s r t v)
  ruled_legal ReadRequest v served = read_requested_legal s.entry.state
  ruled_legal WriteRequest v served = write_requested_legal s.entry.state before served
  ruled_legal Replacement v served = replacement_came_legal s.entry.state v before
  ruled_legal Update v served = update_came_legal s.entry.state v
  ruled_legal Acknowledgement v served = acknowledged_legal s.entry.state refl before
  ruled_legal ReadData v served = refused_legal
  ruled_legal WriteData v served = refused_legal
  ruled_legal Invalidate v served = refused_legal
  ruled_legal Busy v served = refused_legal

-- whatever message comes from a terminal below 64
pub answered_legal : (kind : Option Kind) (s : Scene) (r t v : ℕ) → t < 64 → Legal s.entry → LeavesLegalEntry s.entry (answered kind s r t v)
unfolding answered
answered_legal None s r t v served before = record { legal = before }
answered_legal (Some kind) s r t v served before = ruled_legal s r t before kind v served
