-- The home's rules are those of the machine.
use Rattle.std.proofs.Common.{◌≡◌, ℕ, ◌-◌, ◌<◌, ◌≤◌, Bool, true, false, cond, not, ◌&&◌, ◌||◌, eqb, ltb, ◌⊎◌, List, Some, None, Option, sym, refl, ap, ◌∙◌, subst, ap₂, inl, inr, arith, ltb-true, lt-ltb, eq-eqb, ne_eqb, eqb-true, Err, is_ok}
use mathlib.Core.Option.{Option as Maybe, none, some}
use Rattle.message.specs.declared.Message.{Message}
use Rattle.message.specs.Refusals.{accepted}
use Rattle.message.specs.declared.refusals.Refusal.TheVariants.{AtLimit, Full, OutOfTurn}
use Rattle.message.specs.declared.kinds.Kind.{Kind}
use Rattle.message.specs.declared.kinds.Kind.TheVariants.{ReadRequest, WriteRequest, Replacement, Update, Acknowledgement, ReadData, WriteData, Invalidate, Busy}
use Rattle.message.specs.Messages.{message_of}
use Rattle.directory.specs.Sets.{tally}
use Rattle.directory.specs.Directories.{Holders, View}
use Rattle.directory.specs.Changes.{joined, emptied, add_answer}
use Rattle.directory_client.specs.Clients.{alone}
use Rattle.network.specs.Traffic.{Traffic}
use Rattle.protocol.specs.declared.Entry.{Entry}
use Rattle.protocol.specs.declared.HomeState.{HomeState}
use Rattle.protocol.specs.declared.HomeState.TheVariants.{ReadOnly, ReadWrite, ReadTransaction, WriteTransaction}
use Rattle.protocol.specs.Sends as sending
use Rattle.protocol.specs.Sends.{has_room, each_has_room, sent_to_each}
use Rattle.protocol.specs.Scenes.{Scene, Ruling, refuses, accepts}
use Rattle.protocol.specs.HomeRules as law
use Rattle.protocol.specs.HomeRules.{entry_of, others, all_holders_below, sole_holder, ruled, recalled_from, replaced_by, finished_for}
use Rattle.machine.specs.Machine as machine
use Rattle.machine.specs.HomeRules as machine_homerules
use Rattle.machine.specs.Machine.{reading, writing, Phase, read_only, read_write, Transaction, Msg, REQ, REPM, UPDATE, ACKC, INV, BUSY, DATA, Home, home, same, count, besides, join, nobody}
use Rattle.machine.specs.HomeRules.{Act, act, one_holder, on, on_read_only, on_read_write, on_transaction}
use Rattle.machine.specs.Site.{Mail, mail}
use Rattle.machine.specs.Turns.{room}
use Rattle.machine.specs.Invariant.{Owed}
use Rattle.machine.proofs.Counts.{Same, eq, ne, view}
use Rattle.coherence.proofs.Abstraction.{phase_of, within, home_of, up_msg, down_of, lanes}
use Rattle.coherence.proofs.Holders.{within_below, count_within, Sole, sole, one_same, none_above, others_count}
use Rattle.coherence.proofs.Sends.{room_none, room_one, room_others, sent, sent_one, sent_others, joined_is, alone_holds, emptied_holds, joined_else, emptied_else, alone_else}

-- What an accepting ruling leaves is what the machine's act leaves; a refusal leaves nothing of the kind.
pub record Done (s : Scene) (r : ℕ) (entry : Entry) (holders : Holders) (waiting : ℕ → List Message) (a : Act ℕ) : Type 0 where
  pub next_is : home_of entry (holders r) ≡ a.next
  pub others_are : (k : ℕ) → (r ≡ k → ⊥) → holders k ≡ s.directory.holders k
  pub down_is : lanes down_of waiting ≡ sent a.to (mail r a.msg) (lanes down_of s.down.waiting)

abbrev pub Acts : Scene → ℕ → Ruling → Act ℕ → Type 0
Acts s r (refuses code) a = ⊥
Acts s r (accepts entry holders waiting) a = Done s r entry holders waiting a

-- Whether the lanes that an act writes have room.
abbrev pub roomy : Scene → Act ℕ → Bool
roomy s a = room s.down.depth (lanes down_of s.down.waiting) s.terminals a.to

abbrev pub Does : Scene → ℕ → Ruling → Maybe (Act ℕ) → Type 0
Does s r o none = o ≡ refuses OutOfTurn
Does s r o (some a) = ((roomy s a ≡ true) × Acts s r o a) ⊎ ((roomy s a ≡ false) × (o ≡ refuses Full))

module _ (n : ℕ) (dir : View) (down : Traffic) (n64 : n ≤ 64) (r t : ℕ) (tn : t < n) (served-record : r < dir.records) (served-terminal : t < dir.terminals) where
  abbrev sc : HomeState → ℕ → ℕ → Scene
  sc st v a = record { terminals = n; entry = entry_of st v a; directory = dir; down = down }

  abbrev holders : Holders
  holders = dir.holders

  abbrev h : ℕ → Bool
  h = dir.holders r

  abbrev p : ℕ → Bool
  p = within (dir.holders r)

  abbrev f : ℕ → List Message
  f = down.waiting

  abbrev L : ℕ → List (Mail ℕ)
  L = lanes down_of down.waiting

  -- a message to i alone
  to_one : (st : HomeState) (v a : ℕ) (i : ℕ) → i < n → (o : Ruling) (x : Act ℕ) → x.to ≡ same i → Acts (sc st v a) r o x → Does (sc st v a) r (cond (has_room down i) o (refuses Full)) (some x)
  to_one st v a i l o x e D = pick (has_room down i) (ap (room down.depth L n) e ∙ room_one down_of down n i l)
    where
      pick : (b : Bool) → room down.depth (lanes down_of down.waiting) n x.to ≡ b → Does (sc st v a) r (cond b o (refuses Full)) (some x)
      pick true g = inl (g, D)
      pick false g = inr (g, refl)

  to_none : (st : HomeState) (v a : ℕ) (o : Ruling) (x : Act ℕ) → x.to ≡ nobody → Acts (sc st v a) r o x → Does (sc st v a) r o (some x)
  to_none st v a o x e D = inl (ap (room down.depth L n) e ∙ room_none down.depth L n nobody (λ u l. refl), D)

  turned_away : (st : HomeState) (v a : ℕ) → Does (sc st v a) r (law.turned_away (sc st v a) r t) (act (home (phase_of st) v a p) (same t) BUSY)
  turned_away st v a =
      to_one st v a t tn _ _ refl
      (record { next_is = refl; others_are = λ k d. refl; down_is = sent_one down_of f t (message_of Busy r 0) (mail r BUSY) refl })

  -- Read-Only
  admitted : is_ok (add_answer dir r t) ≡ (p t || ltb (count p 64) dir.limit)
  admitted =
      rw (lt-ltb r dir.records served-record, lt-ltb t dir.terminals served-terminal, within_below h t (omega arith), count_within h 64 (omega arith))
      (pick (h t || ltb (tally h 64) dir.limit))
    where
      pick : (b : Bool) → is_ok (cond b accepted (Err AtLimit)) ≡ b
      pick true = refl
      pick false = refl

  read_ro : (v a : ℕ) → a ≡ 0 → Does (sc ReadOnly v a) r (law.read_granted (sc ReadOnly v a) r t) (on_read_only n 64 dir.limit v p t (REQ reading))
  unfolding on_read_only
  read_ro v a z = pick (is_ok (add_answer dir r t)) admitted
    where
      pick : (b : Bool) → b ≡ (p t || ltb (count p 64) dir.limit)
          → Does (sc ReadOnly v a) r
          (cond (has_room down t)
          (cond b
          (accepts (entry_of ReadOnly v a) (cond b (joined holders r t) holders) (sending.sent f t (message_of ReadData r v)))
          (accepts (entry_of ReadOnly v a) (cond b (joined holders r t) holders) (sending.sent f t (message_of Busy r 0))))
          (refuses Full))
          (cond (p t || ltb (count p 64) dir.limit) (act (home read_only v 0 (join t p)) (same t) (DATA reading v)) (act (home read_only v 0 p) (same t) BUSY))
      pick true e =
          rw (sym e)
          (to_one ReadOnly v a t tn _ _ refl
          (record {
            next_is = ap₂ (λ (x : ℕ) (q : ℕ → Bool). home read_only v x q) z (joined_is holders r t (omega arith));
            others_are = λ k d. joined_else holders r t k d;
            down_is = sent_one down_of f t (message_of ReadData r v) (mail r (DATA reading v)) refl;
          }))
      pick false e =
          rw (sym e)
          (to_one ReadOnly v a t tn _ _ refl
          (record { next_is = ap (λ (x : ℕ). home read_only v x p) z; others_are = λ k d. refl; down_is = sent_one down_of f t (message_of Busy r 0) (mail r BUSY) refl }))

  write_unshared : (v a : ℕ) → a ≡ 0 → Does (sc ReadOnly v a) r (law.write_unshared (sc ReadOnly v a) r t) (act (home read_write v 0 (same t)) (same t) (DATA writing v))
  write_unshared v a z =
      to_one ReadOnly v a t tn _ _ refl
      (record {
        next_is = ap₂ (λ (x : ℕ) (q : ℕ → Bool). home read_write v x q) z (alone_holds holders r t (omega arith));
        others_are = λ k d. alone_else holders r t k d;
        down_is = sent_one down_of f t (message_of WriteData r v) (mail r (DATA writing v)) refl;
      })

  write_shared : (v a : ℕ) → Does (sc ReadOnly v a) r (law.write_shared (sc ReadOnly v a) r t) (cond (eqb (count p 64) (count p n)) (act (home (Transaction writing) v (count (besides t p) 64) (same t)) (besides t p) INV) none)
  write_shared v a = rw (count_within h 64 (omega arith), count_within h n n64) (pick (eqb (tally h n) (tally h 64)) refl (eqb (tally h 64) (tally h n)) refl)
    where
      told : Ruling
      told = accepts (entry_of WriteTransaction v (others dir r t)) (alone holders r t) (sent_to_each f (sending.besides h t) n (message_of Invalidate r 0))

      at : tally h n ≡ tally h 64 → (b : Bool) → room down.depth (lanes down_of down.waiting) n (besides t (within (dir.holders r))) ≡ b
          → Does (sc ReadOnly v a) r (cond b told (refuses Full)) (act (home (Transaction writing) v (count (besides t p) 64) (same t)) (besides t p) INV)
      at e true g =
          inl (
            g,
            record {
              next_is = ap₂ (λ (x : ℕ) (q : ℕ → Bool). home (Transaction writing) v x q) (sym (others_count h t)) (alone_holds holders r t (omega arith));
              others_are = λ k d. alone_else holders r t k d;
              down_is = sent_others down_of f h t n (message_of Invalidate r 0) (mail r INV) n64 (none_above n h n64 e) refl;
            },
          )
      at e false g = inr (g, refl)

      pick : (b : Bool) → eqb (tally h n) (tally h 64) ≡ b → (c : Bool) → eqb (tally h 64) (tally h n) ≡ c
          → Does (sc ReadOnly v a) r (cond b (cond (each_has_room down (sending.besides h t) n) told (refuses Full)) (refuses OutOfTurn))
          (cond c (act (home (Transaction writing) v (count (besides t p) 64) (same t)) (besides t p) INV) none)
      pick true e true g = at (eqb-true (tally h n) (tally h 64) e) (each_has_room down (sending.besides h t) n) (room_others down_of down h t n n64)
      pick true e false g = absurd (borrow.Author.Tests.eqb-false (tally h 64) (tally h n) g (sym (eqb-true (tally h n) (tally h 64) e)))
      pick false e true g = absurd (borrow.Author.Tests.eqb-false (tally h n) (tally h 64) e (sym (eqb-true (tally h 64) (tally h n) g)))
      pick false e false g = refl

  write_ro : (v a : ℕ) → a ≡ 0 → Does (sc ReadOnly v a) r (law.write_requested ReadOnly (sc ReadOnly v a) r t) (on_read_only n 64 dir.limit v p t (REQ writing))
  unfolding on_read_only
  write_ro v a z = rw (others_count h t) (pick (eqb (others dir r t) 0))
    where
      pick : (b : Bool)
          → Does (sc ReadOnly v a) r (cond b (law.write_unshared (sc ReadOnly v a) r t) (law.write_shared (sc ReadOnly v a) r t))
          (cond b (act (home read_write v 0 (same t)) (same t) (DATA writing v)) (cond (eqb (count p 64) (count p n)) (act (home (Transaction writing) v (tally (sending.besides h t) 64) (same t)) (besides t p) INV) none))
      pick true = write_unshared v a z
      pick false =
          subst (λ (k : ℕ). Does (sc ReadOnly v a) r (law.write_shared (sc ReadOnly v a) r t) (cond (eqb (count p 64) (count p n)) (act (home (Transaction writing) v k (same t)) (besides t p) INV) none)) (others_count h t) (write_shared v a)

  -- Read-Write
  and_no : (b : Bool) → (b && false) ≡ false
  and_no true = refl
  and_no false = refl

  recalled : (k : machine.Access) (st : HomeState) → phase_of st ≡ Transaction k → (v a : ℕ) (x : Option ℕ) → Sole n h x
      → Does (sc ReadWrite v a) r (recalled_from x st (sc ReadWrite v a) r t) (cond (not (p t) && one_holder n 64 p) (act (home (Transaction k) v 1 (same t)) p INV) none)
  recalled k st q v a None S = rw (S, and_no (not (p t))) refl
  recalled k st q v a (Some i) S =
      subst (λ (y : ℕ → Bool). Does (sc ReadWrite v a) r (recalled_from (Some i) st (sc ReadWrite v a) r t) (cond (not (y t) && one_holder n 64 y) (act (home (Transaction k) v 1 (same t)) y INV) none)) (sym S.0)
      (rw (one_same n i n64 S.1) (pick (same i t) (view i t)))
    where
      pick : (b : Bool) → Same i t b
          → Does (sc ReadWrite v a) r (cond (not (eqb i t)) (cond (has_room down i) (accepts (entry_of st v 1) (alone holders r t) (sending.sent f i (message_of Invalidate r 0))) (refuses Full)) (refuses OutOfTurn))
          (cond (not b && true) (act (home (Transaction k) v 1 (same t)) (same i) INV) none)
      pick true (eq e) = rw (eq-eqb i t e) refl
      pick false (ne d) =
          rw (ne_eqb i t d)
          (to_one ReadWrite v a i S.1 _ _ refl
          (record {
            next_is = ap₂ (λ (y : Phase) (g : ℕ → Bool). home y v 1 g) q (alone_holds holders r t (omega arith));
            others_are = λ k d. alone_else holders r t k d;
            down_is = sent_one down_of f i (message_of Invalidate r 0) (mail r INV) refl;
          }))

  replaced : (v a w : ℕ) → a ≡ 0 → (x : Option ℕ) → Sole n h x
      → Does (sc ReadWrite v a) r (replaced_by x (sc ReadWrite v a) r t w) (cond (p t && one_holder n 64 p) (act (home read_only w 0 nobody) nobody BUSY) none)
  replaced v a w z None S = rw (S, and_no (p t)) refl
  replaced v a w z (Some i) S =
      subst (λ (y : ℕ → Bool). Does (sc ReadWrite v a) r (replaced_by (Some i) (sc ReadWrite v a) r t w) (cond (y t && one_holder n 64 y) (act (home read_only w 0 nobody) nobody BUSY) none)) (sym S.0)
      (rw (one_same n i n64 S.1) (pick (same i t) (view i t)))
    where
      pick : (b : Bool) → Same i t b
          → Does (sc ReadWrite v a) r (cond (eqb i t) (accepts (entry_of ReadOnly w a) (emptied holders r) f) (refuses OutOfTurn))
          (cond (b && true) (act (home read_only w 0 nobody) nobody BUSY) none)
      pick true (eq e) =
          rw (eq-eqb i t e)
          (to_none ReadWrite v a _ _ refl
          (record { next_is = ap₂ (λ (y : ℕ) (g : ℕ → Bool). home read_only w y g) z (emptied_holds holders r); others_are = λ k d. emptied_else holders r k d; down_is = refl }))
      pick false (ne d) = rw (ne_eqb i t d) refl

  -- transactions: the requester gets the value in the next state
  finished_for_is : (k : machine.Access) (st next : HomeState) (reply : Kind) (w : ℕ) → phase_of next ≡ machine_homerules.granted k → down_of (message_of reply r w) ≡ mail r (DATA k w) → (v a : ℕ) (x : Option ℕ) → Sole n h x
      → Does (sc st v a) r (finished_for x next reply (sc st v a) r w) (machine_homerules.finish n 64 k w p)
  unfolding machine_homerules.finish
  finished_for_is k st next reply w q m v a None S = rw S refl
  finished_for_is k st next reply w q m v a (Some i) S =
      subst (λ (y : ℕ → Bool). y ≡ p → Does (sc st v a) r (finished_for (Some i) next reply (sc st v a) r w) (cond (one_holder n 64 y) (act (home (machine_homerules.granted k) w 0 y) y (DATA k w)) none)) (sym S.0)
      (λ g. rw (one_same n i n64 S.1)
      (to_one st v a i S.1 _ _ refl
      (record { next_is = ap₂ (λ (ph : Phase) (y : ℕ → Bool). home ph w 0 y) q (sym g); others_are = λ k d. refl; down_is = sent_one down_of f i (message_of reply r w) (mail r (DATA k w)) m })))
      refl

  finished_rt : (v a w : ℕ) → Does (sc ReadTransaction v a) r (finished_for (sole_holder (sc ReadTransaction v a) r) ReadOnly ReadData (sc ReadTransaction v a) r w) (machine_homerules.finish n 64 reading w p)
  finished_rt v a w = finished_for_is reading ReadTransaction ReadOnly ReadData w refl refl v a (sole_holder (sc ReadTransaction v a) r) (sole n dir r n64)

  finished_wt : (v a w : ℕ) → Does (sc WriteTransaction v a) r (finished_for (sole_holder (sc WriteTransaction v a) r) ReadWrite WriteData (sc WriteTransaction v a) r w) (machine_homerules.finish n 64 writing w p)
  finished_wt v a w = finished_for_is writing WriteTransaction ReadWrite WriteData w refl refl v a (sole_holder (sc WriteTransaction v a) r) (sole n dir r n64)

  -- a rule on a test, and else out of turn
  or_six : (st : HomeState) (v a : ℕ) (b : Bool) (o : Ruling) (x : Maybe (Act ℕ)) → Does (sc st v a) r o x → Does (sc st v a) r (cond b o (refuses OutOfTurn)) (cond b x none)
  or_six st v a true o x D = D
  or_six st v a false o x D = refl

  keeps : (st : HomeState) (v a w : ℕ) → Does (sc st v a) r (law.value_kept (sc st v a) w) (act (home (phase_of st) w a p) nobody BUSY)
  keeps st v a w = to_none st v a _ _ refl (record { next_is = refl; others_are = λ k d. refl; down_is = refl })

  acked : (v a : ℕ) → Does (sc WriteTransaction v a) r (law.acknowledged WriteTransaction (sc WriteTransaction v a) r) (on_transaction n 64 writing v a p t ACKC)
  unfolding on_transaction
  acked v a = pick (eqb a 1) refl (ltb 1 a) refl
    where
      pick : (b : Bool) → eqb a 1 ≡ b → (c : Bool) → ltb 1 a ≡ c
          → Does (sc WriteTransaction v a) r
          (cond c (law.counted_down (sc WriteTransaction v a)) (cond b (finished_for (sole_holder (sc WriteTransaction v a) r) ReadWrite WriteData (sc WriteTransaction v a) r v) (refuses OutOfTurn)))
          (cond b (machine_homerules.finish n 64 writing v p) (cond c (act (home (Transaction writing) v (a - 1) p) nobody BUSY) none))
      pick true e true g = absurd (omega (arith, eqb-true a 1 e, ltb-true 1 a g))
      pick true e false g = finished_wt v a v
      pick false e true g = to_none WriteTransaction v a _ _ refl (record { next_is = refl; others_are = λ k d. refl; down_is = refl })
      pick false e false g = refl

  pub does : (st : HomeState) (k : Kind) (v a w : ℕ) → Owed (phase_of st) a → Does (sc st v a) r (ruled k (sc st v a) r t w) (on n 64 dir.limit (phase_of st) v a p t (up_msg (Some k) w))
  unfolding on_read_only on_read_write on_transaction
  does ReadOnly ReadRequest v a w z = read_ro v a z
  does ReadOnly WriteRequest v a w z = write_ro v a z
  does ReadOnly Replacement v a w z = refl
  does ReadOnly Update v a w z = refl
  does ReadOnly Acknowledgement v a w z = refl
  does ReadOnly ReadData v a w z = refl
  does ReadOnly WriteData v a w z = refl
  does ReadOnly Invalidate v a w z = refl
  does ReadOnly Busy v a w z = refl
  does ReadWrite ReadRequest v a w z = recalled reading ReadTransaction refl v a (sole_holder (sc ReadWrite v a) r) (sole n dir r n64)
  does ReadWrite WriteRequest v a w z = recalled writing WriteTransaction refl v a (sole_holder (sc ReadWrite v a) r) (sole n dir r n64)
  does ReadWrite Replacement v a w z = replaced v a w z (sole_holder (sc ReadWrite v a) r) (sole n dir r n64)
  does ReadWrite Update v a w z = refl
  does ReadWrite Acknowledgement v a w z = refl
  does ReadWrite ReadData v a w z = refl
  does ReadWrite WriteData v a w z = refl
  does ReadWrite Invalidate v a w z = refl
  does ReadWrite Busy v a w z = refl
  does ReadTransaction ReadRequest v a w z = turned_away ReadTransaction v a
  does ReadTransaction WriteRequest v a w z = turned_away ReadTransaction v a
  does ReadTransaction Replacement v a w z = keeps ReadTransaction v a w
  does ReadTransaction Update v a w z = or_six ReadTransaction v a (eqb a 1) _ _ (finished_rt v a w)
  does ReadTransaction Acknowledgement v a w z = or_six ReadTransaction v a (eqb a 1) _ _ (finished_rt v a v)
  does ReadTransaction ReadData v a w z = refl
  does ReadTransaction WriteData v a w z = refl
  does ReadTransaction Invalidate v a w z = refl
  does ReadTransaction Busy v a w z = refl
  does WriteTransaction ReadRequest v a w z = turned_away WriteTransaction v a
  does WriteTransaction WriteRequest v a w z = turned_away WriteTransaction v a
  does WriteTransaction Replacement v a w z = keeps WriteTransaction v a w
  does WriteTransaction Update v a w z = or_six WriteTransaction v a (eqb a 1) _ _ (finished_wt v a w)
  does WriteTransaction Acknowledgement v a w z = acked v a
  does WriteTransaction ReadData v a w z = refl
  does WriteTransaction WriteData v a w z = refl
  does WriteTransaction Invalidate v a w z = refl
  does WriteTransaction Busy v a w z = refl
