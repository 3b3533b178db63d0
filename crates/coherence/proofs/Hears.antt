-- What a terminal does with a message is what it does in the machine.
use Rattle.std.proofs.Common.{◌≡◌, ℕ, ◌+◌, Bool, true, false, cond, eqb, leb, List, [], ◌∷◌, ◌++◌, length, Some, None, Option, sym, refl, ap, subst, eqb-true}
use mathlib.Core.Option.{Option as Maybe, none}
use Rattle.message.specs.declared.Message.{Message}
use Rattle.message.specs.declared.refusals.Refusal.TheVariants.{Full, OutOfTurn}
use Rattle.protocol.specs.declared.Code.TheVariants.{Accepted}
use Rattle.message.specs.declared.kinds.Kind.{Kind}
use Rattle.message.specs.declared.kinds.Kind.TheVariants.{ReadRequest, WriteRequest, Replacement, Update, Acknowledgement, ReadData, WriteData, Invalidate, Busy}
use Rattle.message.specs.Messages.{message_of}
use Rattle.network.specs.Traffic.{Traffic}
use Rattle.protocol.specs.declared.Place.{Place}
use Rattle.protocol.specs.declared.PlaceState.{PlaceState}
use Rattle.protocol.specs.declared.PlaceState.TheVariants.{Invalid, ReadOnly as InRead, ReadWrite as InWrite}
use Rattle.protocol.specs.declared.Wait.{Wait}
use Rattle.protocol.specs.declared.Wait.TheVariants.{Nothing, ToRead, ToWrite}
use Rattle.protocol.specs.Sends as sending
use Rattle.protocol.specs.Sends.{has_room_for}
use Rattle.protocol.specs.Places.{invalid, waits_to_read, waits_to_write}
use Rattle.protocol.specs.Seats.{refuses, moves}
use Rattle.protocol.specs.TerminalRules.{heard, heard_as}
use Rattle.machine.specs.Site as model
use Rattle.machine.specs.Machine as machine
use Rattle.machine.specs.Machine.{reading, writing, no_copy, readable, writable, Wait as Waits, still, waits, Msg, UPDATE, ACKC, INV, BUSY, DATA, same}
use Rattle.machine.specs.Site.{Mail, mail, empty, shared, owned, Want, rests, wants, copy_of, wait_of, clear}
use Rattle.machine.specs.TerminalRules.{Took, on_data, on_inv, on_busy}
use Rattle.coherence.proofs.Abstraction.{up_of, place_by, place_of, want_of, down_msg}
use Rattle.coherence.proofs.Moves.{Local, loc, stays, goes, a_takes, a_hear}
use Rattle.coherence.proofs.Turns.{Meets, refused, place, seat, append_nil, if, lane, here, keeps, sends, room}

-- what the terminal waits for stays, unless it was told of it
want_stays : (r : ℕ) (W : Want) → model.want_of r (wait_of r W) W ≡ W
unfolding model.want_of wait_of
want_stays r rests = refl
want_stays r (wants k x) = pick (same x r) refl
  where
    pick : (b : Bool) → same x r ≡ b → model.want_of r (cond b (waits k) still) (wants k x) ≡ wants k x
    pick true e = refl
    pick false e = rw e refl

module _ (up : Traffic) (t r v' : ℕ) where
  abbrev f : ℕ → List Message
  f = up.waiting

  abbrev d : ℕ
  d = up.depth

  abbrev L : model.Place ℕ → Want → Local
  L P W = loc P W (lane up t)

  six : Meets f t (refuses OutOfTurn) (stays 6)
  six = refused f t OutOfTurn

  -- data comes: the place has the value, and waiting ends
  comes : (pl : Place) (P : model.Place ℕ) (W : Want) → place_of pl ≡ P → rests ≡ W → Meets f t (moves Accepted 0 pl Nothing f) (goes 0 none (loc P W (lane up t ++ [])))
  comes pl P W e g = rw (append_nil (lane up t)) (keeps up t Accepted 0 none refl pl Nothing P W e g)

  -- read data comes to an Invalid place
  read_void : (P : model.Place ℕ) (w : Wait)
      → Meets f t (cond (waits_to_read r w) (moves Accepted 0 (place InRead r v') Nothing f) (refuses OutOfTurn)) (a_takes d r (on_data reading v' no_copy (wait_of r (want_of w))) (L P (want_of w)))
  unfolding on_data wait_of same model.want_of model.place_of
  read_void P Nothing = six
  read_void P (ToWrite y) = pick (eqb y r)
    where
      pick : (b : Bool) → Meets f t (refuses OutOfTurn) (a_takes d r (on_data reading v' no_copy (cond b (waits writing) still)) (L P (wants writing y)))
      pick true = six
      pick false = six
  read_void P (ToRead y) = pick (eqb y r) refl
    where
      pick : (b : Bool) → eqb y r ≡ b → Meets f t (cond b (moves Accepted 0 (place InRead r v') Nothing f) (refuses OutOfTurn)) (a_takes d r (on_data reading v' no_copy (cond b (waits reading) still)) (L P (wants reading y)))
      pick true e = comes (place InRead r v') (shared r v') (model.want_of r still (wants reading y)) refl (rw e refl)
      pick false e = six

  -- write data comes to an Invalid place, or to a Read-Only copy
  write_void : (P : model.Place ℕ) (w : Wait)
      → Meets f t (cond (waits_to_write r w) (moves Accepted 0 (place InWrite r v') Nothing f) (refuses OutOfTurn)) (a_takes d r (on_data writing v' no_copy (wait_of r (want_of w))) (L P (want_of w)))
  unfolding on_data wait_of same model.want_of model.place_of
  write_void P Nothing = six
  write_void P (ToRead y) = pick (eqb y r)
    where
      pick : (b : Bool) → Meets f t (refuses OutOfTurn) (a_takes d r (on_data writing v' no_copy (cond b (waits reading) still)) (L P (wants reading y)))
      pick true = six
      pick false = six
  write_void P (ToWrite y) = pick (eqb y r) refl
    where
      pick : (b : Bool) → eqb y r ≡ b → Meets f t (cond b (moves Accepted 0 (place InWrite r v') Nothing f) (refuses OutOfTurn)) (a_takes d r (on_data writing v' no_copy (cond b (waits writing) still)) (L P (wants writing y)))
      pick true e = comes (place InWrite r v') (owned r v') (model.want_of r still (wants writing y)) refl (rw e refl)
      pick false e = six

  same_take : (v : ℕ) (W : Waits) → on_data writing v' (readable v) W ≡ on_data writing v' no_copy W
  unfolding on_data
  same_take v still = refl
  same_take v (waits reading) = refl
  same_take v (waits writing) = refl

  -- no data comes onto a copy that may be written, and no read data onto any
  none_ro : (v : ℕ) (W : Waits) → on_data reading v' (readable v) W ≡ none
  unfolding on_data
  none_ro v still = refl
  none_ro v (waits reading) = refl
  none_ro v (waits writing) = refl

  none_rw : (k : machine.Access) (v : ℕ) (W : Waits) → on_data k v' (writable v) W ≡ none
  unfolding on_data
  none_rw reading v still = refl
  none_rw reading v (waits reading) = refl
  none_rw reading v (waits writing) = refl
  none_rw writing v still = refl
  none_rw writing v (waits reading) = refl
  none_rw writing v (waits writing) = refl

  -- refused whatever the terminal waits for
  sixes : (b : Bool) (P : model.Place ℕ) (W : Want) (o : Maybe (Took ℕ)) → o ≡ none → (c : Bool) → Meets f t (cond b (refuses OutOfTurn) (refuses OutOfTurn)) (cond c (a_takes d r o (L P W)) (stays 6))
  sixes b P W o e c = subst (λ (x : Maybe (Took ℕ)). Meets f t (cond b (refuses OutOfTurn) (refuses OutOfTurn)) (cond c (a_takes d r x (L P W)) (stays 6))) (sym e) (pick b c)
    where
      pick : (b c : Bool) → Meets f t (cond b (refuses OutOfTurn) (refuses OutOfTurn)) (cond c (a_takes d r none (L P W)) (stays 6))
      pick true true = six
      pick true false = six
      pick false true = six
      pick false false = six

  read_data_heard : (st : PlaceState) (x v : ℕ) (w : Wait) → Meets f t (heard ReadData (seat st x v w up) t r v') (a_hear d r (DATA reading v') (here up t st x v w))
  unfolding clear copy_of same
  read_data_heard Invalid x v w = read_void empty w
  read_data_heard InRead x v w = pick (eqb x r)
    where
      pick : (b : Bool) → Meets f t (cond (waits_to_read r w) (refuses OutOfTurn) (refuses OutOfTurn)) (cond b (a_takes d r (on_data reading v' (cond b (readable v) no_copy) (wait_of r (want_of w))) (L (shared x v) (want_of w))) (stays 6))
      pick true = sixes (waits_to_read r w) (shared x v) (want_of w) (on_data reading v' (readable v) (wait_of r (want_of w))) (none_ro v (wait_of r (want_of w))) true
      pick false = sixes (waits_to_read r w) (shared x v) (want_of w) none refl false
  read_data_heard InWrite x v w = pick (eqb x r)
    where
      pick : (b : Bool) → Meets f t (cond (waits_to_read r w) (refuses OutOfTurn) (refuses OutOfTurn)) (cond b (a_takes d r (on_data reading v' (cond b (writable v) no_copy) (wait_of r (want_of w))) (L (owned x v) (want_of w))) (stays 6))
      pick true = sixes (waits_to_read r w) (owned x v) (want_of w) (on_data reading v' (writable v) (wait_of r (want_of w))) (none_rw reading v (wait_of r (want_of w))) true
      pick false = sixes (waits_to_read r w) (owned x v) (want_of w) none refl false

  write_data_heard : (st : PlaceState) (x v : ℕ) (w : Wait) → Meets f t (heard WriteData (seat st x v w up) t r v') (a_hear d r (DATA writing v') (here up t st x v w))
  unfolding clear copy_of same
  write_data_heard Invalid x v w = write_void empty w
  write_data_heard InRead x v w = pick (eqb x r)
    where
      pick : (b : Bool) → Meets f t (cond (waits_to_write r w) (cond b (moves Accepted 0 (place InWrite r v') Nothing f) (refuses OutOfTurn)) (refuses OutOfTurn)) (cond b (a_takes d r (on_data writing v' (cond b (readable v) no_copy) (wait_of r (want_of w))) (L (shared x v) (want_of w))) (stays 6))
      pick true =
          subst (λ (o : Maybe (Took ℕ)). Meets f t (cond (waits_to_write r w) (moves Accepted 0 (place InWrite r v') Nothing f) (refuses OutOfTurn)) (a_takes d r o (L (shared x v) (want_of w)))) (sym (same_take v (wait_of r (want_of w)))) (write_void (shared x v) w)
      pick false = sixes (waits_to_write r w) (shared x v) (want_of w) none refl false
  write_data_heard InWrite x v w = pick (eqb x r)
    where
      pick : (b : Bool) → Meets f t (cond (waits_to_write r w) (refuses OutOfTurn) (refuses OutOfTurn)) (cond b (a_takes d r (on_data writing v' (cond b (writable v) no_copy) (wait_of r (want_of w))) (L (owned x v) (want_of w))) (stays 6))
      pick true = sixes (waits_to_write r w) (owned x v) (want_of w) (on_data writing v' (writable v) (wait_of r (want_of w))) (none_rw writing v (wait_of r (want_of w))) true
      pick false = sixes (waits_to_write r w) (owned x v) (want_of w) none refl false

  -- an invalidation is answered by k
  answers : (pl' : Place) (w : Wait) (m : Message) (P' : model.Place ℕ) (k : Msg ℕ) → place_of pl' ≡ P' → up_of m ≡ mail r k
      → Meets f t (cond (has_room_for 1 up t) (moves Accepted 0 pl' w (sending.sent f t m)) (refuses Full))
      (cond (leb (length (lane up t) + 1) d) (goes 0 none (loc P' (model.want_of r (wait_of r (want_of w)) (want_of w)) (lane up t ++ (mail r k ∷ [])))) (stays 3))
  answers pl' w m P' k e' g =
      if f t (has_room_for 1 up t) (leb (length (lane up t) + 1) d) (room up t 1)
      (sends up t Accepted pl' w m P' (model.want_of r (wait_of r (want_of w)) (want_of w)) (mail r k) e' (sym (want_stays r (want_of w))) g)
      (refused f t Full)

  invalidate_heard : (st : PlaceState) (x v : ℕ) (w : Wait) → Meets f t (heard Invalidate (seat st x v w up) t r v') (a_hear d r INV (here up t st x v w))
  unfolding clear copy_of same on_inv model.place_of
  invalidate_heard Invalid x v w = answers (place Invalid x v) w (message_of Acknowledgement r 0) empty ACKC refl refl
  invalidate_heard InRead x v w = pick (eqb x r) refl
    where
      pick : (b : Bool) → eqb x r ≡ b
          → Meets f t (cond (has_room_for 1 up t) (moves Accepted 0 (cond b invalid (place InRead x v)) w (sending.sent f t (message_of Acknowledgement r 0))) (refuses Full)) (a_takes d r (on_inv (cond b (readable v) no_copy) (wait_of r (want_of w))) (L (shared x v) (want_of w)))
      pick true e = answers invalid w (message_of Acknowledgement r 0) (model.place_of r no_copy (shared x v)) ACKC (rw e refl) refl
      pick false e = answers (place InRead x v) w (message_of Acknowledgement r 0) (model.place_of r no_copy (shared x v)) ACKC (rw e refl) refl
  invalidate_heard InWrite x v w = pick (eqb x r) refl
    where
      pick : (b : Bool) → eqb x r ≡ b
          → Meets f t (cond (has_room_for 1 up t) (cond b (moves Accepted 0 invalid w (sending.sent f t (message_of Update r v))) (moves Accepted 0 (place InWrite x v) w (sending.sent f t (message_of Acknowledgement r 0)))) (refuses Full)) (a_takes d r (on_inv (cond b (writable v) no_copy) (wait_of r (want_of w))) (L (owned x v) (want_of w)))
      pick true e = answers invalid w (message_of Update r v) (model.place_of r no_copy (owned x v)) (UPDATE v) (rw e refl) refl
      pick false e = answers (place InWrite x v) w (message_of Acknowledgement r 0) (model.place_of r no_copy (owned x v)) ACKC (rw e refl) refl

  -- a place stays
  place_stays : (P : model.Place ℕ) → model.place_of r (copy_of r P) P ≡ P
  unfolding clear copy_of same model.place_of
  place_stays empty = refl
  place_stays (shared x v) = pick (eqb x r) refl
    where
      pick : (b : Bool) → eqb x r ≡ b → model.place_of r (cond b (readable v) no_copy) (shared x v) ≡ shared x v
      pick true e = ap (λ (y : ℕ). shared y v) (sym (eqb-true x r e))
      pick false e = rw e refl
  place_stays (owned x v) = pick (eqb x r) refl
    where
      pick : (b : Bool) → eqb x r ≡ b → model.place_of r (cond b (writable v) no_copy) (owned x v) ≡ owned x v
      pick true e = ap (λ (y : ℕ). owned y v) (sym (eqb-true x r e))
      pick false e = rw e refl

  busy_heard : (st : PlaceState) (x v : ℕ) (w : Wait) → Meets f t (heard Busy (seat st x v w up) t r v') (a_hear d r BUSY (here up t st x v w))
  unfolding wait_of same on_busy model.want_of
  busy_heard st x v Nothing = six
  busy_heard st x v (ToRead y) = pick (eqb y r) refl
    where
      pick : (b : Bool) → eqb y r ≡ b → Meets f t (cond b (moves Accepted 0 (place st x v) Nothing f) (refuses OutOfTurn)) (a_takes d r (on_busy (copy_of r (place_by st x v)) (cond b (waits reading) still)) (L (place_by st x v) (wants reading y)))
      pick true e = comes (place st x v) (model.place_of r (copy_of r (place_by st x v)) (place_by st x v)) (model.want_of r still (wants reading y)) (sym (place_stays (place_by st x v))) (rw e refl)
      pick false e = six
  busy_heard st x v (ToWrite y) = pick (eqb y r) refl
    where
      pick : (b : Bool) → eqb y r ≡ b → Meets f t (cond b (moves Accepted 0 (place st x v) Nothing f) (refuses OutOfTurn)) (a_takes d r (on_busy (copy_of r (place_by st x v)) (cond b (waits writing) still)) (L (place_by st x v) (wants writing y)))
      pick true e = comes (place st x v) (model.place_of r (copy_of r (place_by st x v)) (place_by st x v)) (model.want_of r still (wants writing y)) (sym (place_stays (place_by st x v))) (rw e refl)
      pick false e = six

  pub hears : (k : Option Kind) (st : PlaceState) (x v : ℕ) (w : Wait) → Meets f t (heard_as k (seat st x v w up) t r v') (a_hear d r (down_msg k v') (here up t st x v w))
  hears None st x v w = six
  hears (Some ReadRequest) st x v w = six
  hears (Some WriteRequest) st x v w = six
  hears (Some Replacement) st x v w = six
  hears (Some Update) st x v w = six
  hears (Some Acknowledgement) st x v w = six
  hears (Some ReadData) st x v w = read_data_heard st x v w
  hears (Some WriteData) st x v w = write_data_heard st x v w
  hears (Some Invalidate) st x v w = invalidate_heard st x v w
  hears (Some Busy) st x v w = busy_heard st x v w
