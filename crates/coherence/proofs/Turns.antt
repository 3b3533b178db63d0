-- A terminal's read, write and release are those of the machine.
use Rattle.std.proofs.Common.{◌≡◌, ℕ, ◌+◌, ◌≤◌, Bool, true, false, cond, eqb, leb, List, [], ◌∷◌, ◌++◌, length, sym, refl, ap, ◌∙◌, arith, eqb-true, le-leb}
use mathlib.Core.Option.{Option as Maybe, none, some}
use Rattle.message.specs.declared.refusals.Refusal.{Refusal}
use Rattle.message.specs.declared.Message.{Message}
use Rattle.protocol.specs.declared.Code.{Code}
use Rattle.message.specs.declared.refusals.Refusal.TheVariants.{Waiting, Full, NoCopy}
use Rattle.protocol.specs.declared.Code.TheVariants.{Accepted, Requested, Refused}
use Rattle.message.specs.declared.kinds.Kind.TheVariants.{ReadRequest, WriteRequest, Replacement}
use Rattle.protocol.specs.Codes.{number}
use Rattle.message.specs.Messages.{message_of}
use Rattle.network.specs.Traffic.{Traffic}
use Rattle.protocol.specs.declared.Place.{Place}
use Rattle.protocol.specs.declared.PlaceState.{PlaceState}
use Rattle.protocol.specs.declared.PlaceState.TheVariants.{Invalid, ReadOnly as InRead, ReadWrite as InWrite}
use Rattle.protocol.specs.declared.Wait.{Wait}
use Rattle.protocol.specs.declared.Wait.TheVariants.{Nothing, ToRead, ToWrite}
use Rattle.protocol.specs.Sends as sending
use Rattle.protocol.specs.Sends.{has_room_for}
use Rattle.protocol.specs.Places.{invalid, is_read_write}
use Rattle.protocol.specs.Places as at_place
use Rattle.protocol.specs.Seats.{Seat, Turn, refuses, moves}
use Rattle.protocol.specs.TerminalRules.{missed, requested, read_turn, write_turn, release_turn}
use Rattle.machine.specs.Site as model
use Rattle.machine.specs.Machine.{Access, reading, writing, no_copy, readable, writable, REQ, REPM, same}
use Rattle.machine.specs.Site.{Mail, mail, empty, shared, owned, Want, rests, wants, changed, copy_of}
use Rattle.machine.specs.Calls.{cleared}
use Rattle.coherence.proofs.Abstraction.{lanes, up_of, place_by, place_of, want_of}
use Rattle.coherence.proofs.Changes.{each_length, upd_still, lanes_sent, lanes_twice}
use Rattle.coherence.proofs.Moves.{Local, loc, Move, stays, goes, a_miss, a_read, a_write, a_release}
use Rattle.coherence.proofs.Simulates.{value_of}

-- What a turn leaves is what the machine's move leaves.
pub record Left (up : ℕ → List Message) (t : ℕ) (code value : ℕ) (place : Place) (wait : Wait) (waiting : ℕ → List Message) (k : ℕ) (v : Maybe ℕ) (L : Local) : Type 0 where
  pub code_is : code ≡ k
  pub value_is : value ≡ value_of v
  pub place_is : place_of place ≡ L.place
  pub want_is : want_of wait ≡ L.want
  pub lanes_are : lanes up_of waiting ≡ changed (lanes up_of up) t L.lane

abbrev pub Met : (ℕ → List Message) → ℕ → Turn → Move → Type 0
Met up t (refuses c) (stays k) = number (Refused c) ≡ k
Met up t (refuses c) (goes k v L) = ⊥
Met up t (moves c value place wait waiting) (stays k) = ⊥
Met up t (moves c value place wait waiting) (goes k v L) = Left up t (number c) value place wait waiting k v L

-- A turn is a move of the machine.
pub record Meets (up : ℕ → List Message) (t : ℕ) (turn : Turn) (move : Move) : Type 0 where
  pub is : Met up t turn move

pub refused : (up : ℕ → List Message) (t : ℕ) (c : Refusal) → Meets up t (refuses c) (stays (number (Refused c)))
refused up t c = record { is = refl }

abbrev pub place : PlaceState → ℕ → ℕ → Place
place st x v = at_place.place_of st x v

abbrev pub seat : PlaceState → ℕ → ℕ → Wait → Traffic → Seat
seat st x v w up = record { place = place st x v; wait = w; up = up }

pub append_nil : {A : Type 0} (xs : List A) → xs ++ [] ≡ xs
append_nil [] = refl
append_nil (x ∷ xs) = ap (λ ys. x ∷ ys) (append_nil xs)

pub if : (up : ℕ → List Message) (t : ℕ) (b b' : Bool) {o o' : Turn} {a a' : Move} → b' ≡ b → Meets up t o a → Meets up t o' a' → Meets up t (cond b o o') (cond b' a a')
if up t true true e x y = x
if up t false false e x y = y
if up t true false e x y = absurd (let z : ◌≡◌ {A = ℕ} 0 1 = cc in omega arith)
if up t false true e x y = absurd (let z : ◌≡◌ {A = ℕ} 0 1 = cc in omega arith)

-- A place that holds a record to be sent home shows one that can be sent.
abbrev pub Sendable : PlaceState → ℕ → Type 0
Sendable Invalid x = Unit {0}
Sendable InRead x = Unit {0}
Sendable InWrite x = x ≤ 63

module _ (up : Traffic) (t : ℕ) where
  abbrev f : ℕ → List Message
  f = up.waiting

  abbrev pub lane : List (Mail ℕ)
  lane = lanes up_of up.waiting t

  abbrev pub here : PlaceState → ℕ → ℕ → Wait → Local
  here st x v w = loc (place_by st x v) (want_of w) lane

  -- nothing is sent
  pub keeps : (c : Code) (v : ℕ) (y : Maybe ℕ) → v ≡ value_of y → (pl : Place) (w : Wait) (P : model.Place ℕ) (W : Want) → place_of pl ≡ P → want_of w ≡ W → Meets f t (moves c v pl w f) (goes (number c) y (loc P W lane))
  keeps c v y g pl w P W e h = record { is = record { code_is = refl; value_is = g; place_is = e; want_is = h; lanes_are = sym (upd_still (lanes up_of f) t) } }

  -- one message goes up
  pub sends : (c : Code) (pl : Place) (w : Wait) (m : Message) (P : model.Place ℕ) (W : Want) (x : Mail ℕ) → place_of pl ≡ P → want_of w ≡ W → up_of m ≡ x
      → Meets f t (moves c 0 pl w (sending.sent f t m)) (goes (number c) none (loc P W (lane ++ (x ∷ []))))
  sends c pl w m P W x e h g =
      record { is = record { code_is = refl; value_is = refl; place_is = e; want_is = h; lanes_are = lanes_sent up_of f t m ∙ ap (λ (y : Mail ℕ). changed (lanes up_of f) t (lane ++ (y ∷ []))) g } }

  pub room : (k : ℕ) → leb (length lane + k) up.depth ≡ has_room_for k up t
  room k = ap (λ (y : ℕ). leb (y + k) up.depth) (each_length up_of (f t))

  -- a request, where the place has nothing to send
  plainly : (r : ℕ) (k : Access) (m : Message) (pl' : Place) (w' : Wait) (P' : model.Place ℕ) → place_of pl' ≡ P' → want_of w' ≡ wants k r → up_of m ≡ mail r (REQ k)
      → Meets f t (cond (has_room_for 1 up t) (moves Requested 0 pl' w' (sending.sent f t m)) (refuses Full))
      (cond (leb (length lane + 1) up.depth) (goes 1 none (loc P' (wants k r) ((lane ++ []) ++ (mail r (REQ k) ∷ [])))) (stays 3))
  plainly r k m pl' w' P' e' h g =
      if f t (has_room_for 1 up t) (leb (length lane + 1) up.depth) (room 1)
      (rw (append_nil lane) (sends Requested pl' w' m P' (wants k r) (mail r (REQ k)) e' h g))
      (refused f t Full)

  asks : (r : ℕ) (k : Access) (m : Message) (st : PlaceState) (x v : ℕ) → Sendable st x → (w : Wait) (pl' : Place) (w' : Wait) → place_of pl' ≡ cleared k r (place_by st x v) → want_of w' ≡ wants k r → up_of m ≡ mail r (REQ k)
      → Meets f t (requested m w' pl' (seat st x v w up) t) (a_miss up.depth r k rests (here st x v w))
  asks r k m Invalid x v s w pl' w' e h g = plainly r k m pl' w' (cleared k r empty) e h g
  asks r k m InRead x v s w pl' w' e h g = plainly r k m pl' w' (cleared k r (shared x v)) e h g
  asks r k m InWrite x v s w pl' w' e h g =
      rw (le-leb x 63 s)
      (if f t (has_room_for 2 up t) (leb (length lane + 2) up.depth) (room 2)
      (record {
        is =
            record {
              code_is = refl;
              value_is = refl;
              place_is = e;
              want_is = h;
              lanes_are = lanes_twice up_of f t (message_of Replacement x v) m ∙ ap (λ (y : Mail ℕ). changed (lanes up_of f) t ((lane ++ (mail x (REPM v) ∷ [])) ++ (y ∷ []))) g;
            };
      })
      (refused f t Full))

  misses : (r : ℕ) (k : Access) (m : Message) (st : PlaceState) (x v : ℕ) → Sendable st x → (w : Wait) (pl' : Place) (w' : Wait) → place_of pl' ≡ cleared k r (place_by st x v) → want_of w' ≡ wants k r → up_of m ≡ mail r (REQ k)
      → Meets f t (missed m w' pl' (seat st x v w up) t) (a_miss up.depth r k (want_of w) (here st x v w))
  misses r k m st x v s Nothing pl' w' e h g = asks r k m st x v s Nothing pl' w' e h g
  misses r k m st x v s (ToRead y) pl' w' e h g = refused f t Waiting
  misses r k m st x v s (ToWrite y) pl' w' e h g = refused f t Waiting

  cleared_rd : (r : ℕ) (P : model.Place ℕ) → empty ≡ cleared reading r P
  unfolding cleared
  cleared_rd r P = refl

  read_misses : (r : ℕ) (st : PlaceState) (x v : ℕ) → Sendable st x → (w : Wait) → Meets f t (missed (message_of ReadRequest r 0) (ToRead r) invalid (seat st x v w up) t) (a_miss up.depth r reading (want_of w) (here st x v w))
  read_misses r st x v s w = misses r reading (message_of ReadRequest r 0) st x v s w invalid (ToRead r) (cleared_rd r (place_by st x v)) refl refl

  pub reads : (r : ℕ) (st : PlaceState) (x v : ℕ) → Sendable st x → (w : Wait) → Meets f t (read_turn (seat st x v w up) t r) (a_read up.depth r (copy_of r (place_by st x v)) (here st x v w))
  unfolding copy_of same
  reads r Invalid x v s w = read_misses r Invalid x v s w
  reads r InRead x v s w = pick (eqb x r)
    where
      pick : (b : Bool) → Meets f t (cond b (moves Accepted v (place InRead x v) w f) (missed (message_of ReadRequest r 0) (ToRead r) invalid (seat InRead x v w up) t)) (a_read up.depth r (cond b (readable v) no_copy) (here InRead x v w))
      pick true = keeps Accepted v (some v) refl (place InRead x v) w (shared x v) (want_of w) refl refl
      pick false = read_misses r InRead x v s w
  reads r InWrite x v s w = pick (eqb x r)
    where
      pick : (b : Bool) → Meets f t (cond b (moves Accepted v (place InWrite x v) w f) (missed (message_of ReadRequest r 0) (ToRead r) invalid (seat InWrite x v w up) t)) (a_read up.depth r (cond b (writable v) no_copy) (here InWrite x v w))
      pick true = keeps Accepted v (some v) refl (place InWrite x v) w (owned x v) (want_of w) refl refl
      pick false = read_misses r InWrite x v s w

  pub writes : (r v' : ℕ) (st : PlaceState) (x v : ℕ) → Sendable st x → (w : Wait) → Meets f t (write_turn (seat st x v w up) t r v') (a_write up.depth r v' (copy_of r (place_by st x v)) (here st x v w))
  unfolding copy_of same cleared
  writes r v' Invalid x v s w = misses r writing (message_of WriteRequest r 0) Invalid x v s w invalid (ToWrite r) refl refl refl
  writes r v' InRead x v s w = pick (eqb x r) refl
    where
      pick : (b : Bool) → eqb x r ≡ b → Meets f t (missed (message_of WriteRequest r 0) (ToWrite r) (cond b (place InRead x v) invalid) (seat InRead x v w up) t) (a_write up.depth r v' (cond b (readable v) no_copy) (here InRead x v w))
      pick true e = misses r writing (message_of WriteRequest r 0) InRead x v s w (place InRead x v) (ToWrite r) (rw e refl) refl refl
      pick false e = misses r writing (message_of WriteRequest r 0) InRead x v s w invalid (ToWrite r) (rw e refl) refl refl
  writes r v' InWrite x v s w = pick (eqb x r) refl
    where
      pick : (b : Bool) → eqb x r ≡ b → Meets f t (cond b (moves Accepted 0 (place InWrite x v') w f) (missed (message_of WriteRequest r 0) (ToWrite r) invalid (seat InWrite x v w up) t)) (a_write up.depth r v' (cond b (writable v) no_copy) (here InWrite x v w))
      pick true e = keeps Accepted 0 none refl (place InWrite x v') w (owned r v') (want_of w) (ap (λ (y : ℕ). owned y v') (eqb-true x r e)) refl
      pick false e = misses r writing (message_of WriteRequest r 0) InWrite x v s w invalid (ToWrite r) refl refl refl

  pub releases : (r : ℕ) (st : PlaceState) (x v : ℕ) (w : Wait) → Meets f t (release_turn (seat st x v w up) t r) (a_release up.depth r (copy_of r (place_by st x v)) (here st x v w))
  unfolding copy_of same
  releases r Invalid x v w = refused f t NoCopy
  releases r InRead x v w = pick (eqb x r)
    where
      pick : (b : Bool) → Meets f t (cond b (moves Accepted 0 invalid w f) (refuses NoCopy)) (a_release up.depth r (cond b (readable v) no_copy) (here InRead x v w))
      pick true = rw (append_nil lane) (keeps Accepted 0 none refl invalid w empty (want_of w) refl refl)
      pick false = refused f t NoCopy
  releases r InWrite x v w = pick (eqb x r) refl
    where
      pick : (b : Bool) → eqb x r ≡ b
          → Meets f t (cond b (cond b (cond (has_room_for 1 up t) (moves Accepted 0 invalid w (sending.sent f t (message_of Replacement r v))) (refuses Full)) (moves Accepted 0 invalid w f)) (refuses NoCopy)) (a_release up.depth r (cond b (writable v) no_copy) (here InWrite x v w))
      pick true e =
          if f t (has_room_for 1 up t) (leb (length lane + 1) up.depth) (room 1)
          (sends Accepted invalid w (message_of Replacement r v) empty (want_of w) (mail x (REPM v)) refl refl (ap (λ (y : ℕ). mail y (REPM v)) (sym (eqb-true x r e))))
          (refused f t Full)
      pick false e = refused f t NoCopy
