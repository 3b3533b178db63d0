-- The calls at a terminal are those of the machine.
use Rattle.std.proofs.Common.{◌≡◌, ℕ, ◌%◌, ◌<◌, ◌≤◌, Bool, true, false, cond, ◌&&◌, eqb, ltb, List, [], ◌∷◌, set, sym, refl, ap, ◌∙◌, subst, mod-lt, arith, ltb-true, lt-ltb}
use mathlib.Core.Option.{none}
use Rattle.std.specs.List.{slice_get}
use Rattle.message.specs.declared.Message.{Message}
use Rattle.message.specs.declared.refusals.Refusal.TheVariants.{OutOfTurn, NoSuchTerminal, NoSuchRecord}
use Rattle.protocol.specs.declared.Code.TheVariants.{Refused}
use Rattle.protocol.specs.Codes.{number}
use Rattle.message.specs.Kinds.{kind_of}
use Rattle.protocol.specs.declared.Place.{Place}
use Rattle.protocol.specs.declared.PlaceState.{PlaceState}
use Rattle.protocol.specs.declared.PlaceState.TheVariants.{Invalid, ReadOnly as InRead, ReadWrite as InWrite}
use Rattle.protocol.specs.HomeSteps.{Given, unchanged}
use Rattle.protocol.specs.Seats.{Turn, refuses, moves}
use Rattle.protocol.specs.TerminalRules.{read_turn, write_turn, release_turn, heard_as}
use Rattle.protocol.specs.Sites.{Site, spot, place_for, place_at, wait_at, seat_at}
use Rattle.protocol.specs.Calls.{at_terminal, of_record, turned, stepped, message_heard, read, write, release, terminal_step}
use Rattle.machine.specs.Turns as model_turns
use Rattle.machine.specs.Site as model
use Rattle.machine.specs.Calls as model_calls
use Rattle.machine.specs.Site.{Mail, mail, changed, put_place, copy_of, wait_of}
use Rattle.machine.specs.TerminalRules.{lands, receive}
use Rattle.machine.specs.Turns.{terminal_takes, drop_down}
use Rattle.machine.specs.Invariant.{InItsPlace, Invariant}
use Rattle.coherence.proofs.Abstraction.{abs, sizes, each, down_of, place_by, place_of, places, down_msg}
use Rattle.coherence.proofs.Changes.{places_set, places_at, wants_set, lanes_dropped}
use Rattle.coherence.proofs.Simulates.{Simulates, Sized, served, row_is_long, refused}
use Rattle.coherence.proofs.Moves.{Local, loc, Move, stays, goes, out_of, site_path, a_read, a_write, a_release, a_hear, read_is, write_is, release_is, out_down, hear_is}
use Rattle.coherence.proofs.Turns as turns
use Rattle.coherence.proofs.Turns.{Meets, Sendable}
use Rattle.coherence.proofs.Hears as hearing

-- First the terminal, then the record.
at_simulates : (s : Site) → Sized s → (t : ℕ) (o : Given Site) (a : model_turns.Out ℕ) → (t < s.home.terminals → Simulates o a)
    → Simulates (at_terminal s t o) (cond (ltb t s.home.terminals) a (model_turns.out (abs s) 7 none))
at_simulates s I t o a f = rw (I.row_long, I.parts_large) (pick (ltb t s.home.terminals) refl)
  where
    pick : (b : Bool) → ltb t s.home.terminals ≡ b → Simulates (cond b o (unchanged NoSuchTerminal s)) (cond b a (model_turns.out (abs s) 7 none))
    pick true e = f (ltb-true t s.home.terminals e)
    pick false e = refused s NoSuchTerminal

of_simulates : (s : Site) (r : ℕ) (o : Given Site) (a : model_turns.Out ℕ) → Simulates o a → Simulates (of_record s r o) (cond (ltb r s.home.records) a (model_turns.out (abs s) 8 none))
of_simulates s r o a f = pick (ltb r s.home.records)
  where
    pick : (b : Bool) → Simulates (cond b o (unchanged NoSuchRecord s)) (cond b a (model_turns.out (abs s) 8 none))
    pick true = f
    pick false = refused s NoSuchRecord

-- A place that shows a record of the site can be sent home.
sendable : (l b p : ℕ) → b ≤ 64 → (st : PlaceState) (x v : ℕ) → InItsPlace l b p (place_by st x v) → Sendable st x
sendable l b p few Invalid x v h = tt
sendable l b p few InRead x v h = tt
sendable l b p few InWrite x v h = omega (arith, few, h.1)

module _ (s : Site) (last : ℕ → ℕ) (I : Sized s) (J : Invariant (sizes s) (abs s) last) (t : ℕ) (tn : t < s.home.terminals) (r : ℕ) where
  abbrev p : ℕ
  p = r % s.places

  abbrev S : model.Site ℕ
  S = abs s

  abbrev pl : Place
  pl = place_at s t (place_for s r)

  p_there : r % s.places < s.places
  p_there = mod-lt r I.some_place

  places_are : (x : Place) → places s.places (set s.row (spot s t (place_for s r)) x) ≡ put_place S.place t p (place_of x)
  places_are x = places_set s.home.terminals s.places s.row t p x tn p_there (row_is_long s I)

  place_is : S.place t p ≡ place_of pl
  place_is = places_at s.places s.row t p p_there

  small : Sendable pl.state pl.«record»
  small = sendable s.places s.home.records p I.few_records pl.state pl.«record» pl.value (subst (InItsPlace s.places s.home.records p) place_is (J.in_place t p tn))

  turned_simulates : (o : Turn) (a : Move) → Meets s.home.up.waiting t o a → Simulates (turned s t r o) (out_of S t p a)
  turned_simulates (refuses c) (stays k) M = record { site_is = refl; code_is = M.is; value_is = refl }
  turned_simulates (refuses c) (goes k v X) M = absurd M.is
  turned_simulates (moves c value place wait waiting) (stays k) M = absurd M.is
  turned_simulates (moves c value place wait waiting) (goes k v X) M =
      record {
        site_is =
            site_path
            (places_are place ∙ ap (put_place S.place t p) M.is.place_is)
            (wants_set s.waits t wait (omega (arith, I.waits_long, I.few_terminals)) ∙ ap (changed S.wait t) M.is.want_is)
            M.is.lanes_are
            refl;
        code_is = M.is.code_is;
        value_is = M.is.value_is;
      }

  stepped_simulates : (m : Message) (ms : List Message) → s.home.down.waiting t ≡ m ∷ ms → (o : Turn) (a : Move) → Meets s.home.up.waiting t o a → Simulates (stepped s t r o) (out_down (sizes s) S t r (each down_of ms) a)
  stepped_simulates m ms e (refuses c) (stays k) M =
      subst (λ (j : ℕ). Simulates (stepped s t r (refuses c)) (out_down (sizes s) S t r (each down_of ms) (stays j))) M.is (pick (eqb (number (Refused c)) 6))
    where
      pick : (b : Bool) → Simulates (unchanged c (cond b (Rattle.protocol.specs.Calls.down_taken s t) s)) (model_turns.out (cond b (drop_down S t (each down_of ms)) S) (number (Refused c)) none)
      pick true =
          record { site_is = site_path refl refl refl (lanes_dropped down_of s.home.down t m ms (omega (arith, (served s I).down_lanes)) e); code_is = refl; value_is = refl }
      pick false = refused s c
  stepped_simulates m ms e (refuses c) (goes k v X) M = absurd M.is
  stepped_simulates m ms e (moves c value place wait waiting) (stays k) M = absurd M.is
  stepped_simulates m ms e (moves c value place wait waiting) (goes k v X) M =
      record {
        site_is =
            site_path
            (places_are place ∙ ap (put_place S.place t p) M.is.place_is)
            (wants_set s.waits t wait (omega (arith, I.waits_long, I.few_terminals)) ∙ ap (changed S.wait t) M.is.want_is)
            M.is.lanes_are
            (lanes_dropped down_of s.home.down t m ms (omega (arith, (served s I).down_lanes)) e);
        code_is = M.is.code_is;
        value_is = M.is.value_is;
      }

  at_its_place : (o : Turn) (f : model.Place ℕ → Move) → Meets s.home.up.waiting t o (f (place_of pl)) → Meets s.home.up.waiting t o (f (S.place t p))
  at_its_place o f = subst (λ (P : model.Place ℕ). Meets s.home.up.waiting t o (f P)) (sym place_is)

  makes : (o : Turn) (f : model.Place ℕ → Move) (a : model_turns.Out ℕ) → Meets s.home.up.waiting t o (f (place_of pl)) → a ≡ out_of S t p (f (S.place t p)) → Simulates (turned s t r o) a
  makes o f a M e = subst (λ (x : model_turns.Out ℕ). Simulates (turned s t r o) x) (sym e) (turned_simulates o (f (S.place t p)) (at_its_place o f M))

  abbrev around : model.Place ℕ → Local
  around P = loc P (S.wait t) (S.up t)

  pub read_makes : Simulates (turned s t r (read_turn (seat_at s t r) t r)) (model_calls.read_at (sizes s) S t r (copy_of r (S.place t p)))
  read_makes =
      makes (read_turn (seat_at s t r) t r) (λ (P : model.Place ℕ). a_read s.home.up.depth r (copy_of r P) (around P)) (model_calls.read_at (sizes s) S t r (copy_of r (S.place t p)))
      (turns.reads s.home.up t r pl.state pl.«record» pl.value small (wait_at s t))
      (read_is (sizes s) S t r (copy_of r (S.place t p)))

  pub write_makes : (v : ℕ) → Simulates (turned s t r (write_turn (seat_at s t r) t r v)) (model_calls.write_at (sizes s) S t r v (copy_of r (S.place t p)))
  write_makes v =
      makes (write_turn (seat_at s t r) t r v) (λ (P : model.Place ℕ). a_write s.home.up.depth r v (copy_of r P) (around P)) (model_calls.write_at (sizes s) S t r v (copy_of r (S.place t p)))
      (turns.writes s.home.up t r v pl.state pl.«record» pl.value small (wait_at s t))
      (write_is (sizes s) S t r v (copy_of r (S.place t p)))

  pub release_makes : Simulates (turned s t r (release_turn (seat_at s t r) t r)) (model_calls.release_at (sizes s) S t r (copy_of r (S.place t p)))
  release_makes =
      makes (release_turn (seat_at s t r) t r) (λ (P : model.Place ℕ). a_release s.home.up.depth r (copy_of r P) (around P)) (model_calls.release_at (sizes s) S t r (copy_of r (S.place t p)))
      (turns.releases s.home.up t r pl.state pl.«record» pl.value (wait_at s t))
      (release_is (sizes s) S t r (copy_of r (S.place t p)))

  pub hearing_makes : (m : Message) (ms : List Message) → s.home.down.waiting t ≡ m ∷ ms
      → Simulates (stepped s t r (heard_as (kind_of m.opcode) (seat_at s t r) t r m.value))
      (cond (lands (down_msg (kind_of m.opcode) m.value) r (S.place t p)) (terminal_takes (sizes s) S t (mail r (down_msg (kind_of m.opcode) m.value)) (each down_of ms) (receive (down_msg (kind_of m.opcode) m.value) (copy_of r (S.place t p)) (wait_of r (S.wait t)))) (model_turns.out (drop_down S t (each down_of ms)) 6 none))
  hearing_makes m ms e =
      let k = kind_of m.opcode in
      let o = heard_as k (seat_at s t r) t r m.value in
      let f = λ (P : model.Place ℕ). a_hear s.home.up.depth r (down_msg k m.value) (around P) in
      subst (λ (x : model_turns.Out ℕ). Simulates (stepped s t r o) x) (sym (hear_is (sizes s) S t r (down_msg k m.value) (each down_of ms)))
      (stepped_simulates m ms e o (f (S.place t p)) (at_its_place o f (hearing.hears s.home.up t r m.value k pl.state pl.«record» pl.value (wait_at s t))))

module _ (s : Site) (last : ℕ → ℕ) (I : Sized s) (J : Invariant (sizes s) (abs s) last) (t : ℕ) where
  pub read_simulates : (r : ℕ) → Simulates (read s t r) (model_calls.step (sizes s) (abs s) (model_calls.read t r))
  unfolding model_calls.step
  read_simulates r = at_simulates s I t _ _ (λ tn. of_simulates s r _ _ (read_makes s last I J t tn r))

  pub write_simulates : (r v : ℕ) → Simulates (write s t r v) (model_calls.step (sizes s) (abs s) (model_calls.write t r v))
  unfolding model_calls.step
  write_simulates r v = at_simulates s I t _ _ (λ tn. of_simulates s r _ _ (write_makes s last I J t tn r v))

  pub release_simulates : (r : ℕ) → Simulates (release s t r) (model_calls.step (sizes s) (abs s) (model_calls.release t r))
  unfolding model_calls.step
  release_simulates r = at_simulates s I t _ _ (λ tn. of_simulates s r _ _ (release_makes s last I J t tn r))

  head_simulates : t < s.home.terminals → (xs : List Message) → s.home.down.waiting t ≡ xs → Simulates (message_heard s t (slice_get xs 0)) (model_turns.terminal_lane (sizes s) (abs s) t (each down_of xs))
  head_simulates tn [] e = record { site_is = refl; code_is = refl; value_is = refl }
  head_simulates tn (m ∷ ms) e = pick (ltb m.«record» s.home.records)
    where
      pick : (b : Bool)
          → Simulates (cond b (stepped s t m.«record» (heard_as (kind_of m.opcode) (seat_at s t m.«record») t m.«record» m.value)) (stepped s t m.«record» (refuses OutOfTurn)))
          (cond (b && lands (down_msg (kind_of m.opcode) m.value) m.«record» ((abs s).place t (m.«record» % s.places))) (terminal_takes (sizes s) (abs s) t (down_of m) (each down_of ms) (receive (down_msg (kind_of m.opcode) m.value) (copy_of m.«record» ((abs s).place t (m.«record» % s.places))) (wait_of m.«record» ((abs s).wait t)))) (model_turns.out (drop_down (abs s) t (each down_of ms)) 6 none))
      pick true = hearing_makes s last I J t tn m.«record» m ms e
      pick false =
          record { site_is = site_path refl refl refl (lanes_dropped down_of s.home.down t m ms (omega (arith, (served s I).down_lanes)) e); code_is = refl; value_is = refl }

  pub terminal_step_simulates : Simulates (terminal_step s t) (model_calls.step (sizes s) (abs s) (model_calls.terminal_turn t))
  unfolding model_calls.step model_turns.terminal_step
  terminal_step_simulates =
      at_simulates s I t _ _ (λ tn. rw (lt-ltb t s.home.down.lanes (omega (arith, (served s I).down_lanes))) (head_simulates tn (s.home.down.waiting t) refl))
