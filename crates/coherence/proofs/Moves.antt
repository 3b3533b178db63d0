-- What a terminal does in the machine, told of its own place, wait and up lane alone.
use Rattle.std.proofs.Common.{◌≡◌, ℕ, ◌+◌, ◌%◌, Bool, true, false, cond, eqb, leb, List, [], ◌∷◌, ◌++◌, length, sym, refl, ap}
use mathlib.Core.Option.{Option, none, some}
use Rattle.machine.specs.Machine.{Access, reading, writing, Copy, no_copy, readable, writable, Msg, REQ, Home}
use Rattle.machine.specs.Site.{Mail, mail, mails, Place, empty, owned, Want, rests, wants, Sizes, Site, changed, put_place, copy_of, wait_of, place_of, want_of}
use Rattle.machine.specs.TerminalRules.{Took, receive, lands}
use Rattle.machine.specs.Turns.{Out, out, room_up, drop_down, after_terminal, terminal_takes}
use Rattle.machine.specs.Calls.{evict, cleared, miss, read_at, write_at, after_releasing, release_at}
use Rattle.coherence.proofs.Changes.{upd_still, put_still}

pub record Local : Type 0 where
  pub place : Place ℕ
  pub want : Want
  pub lane : List (Mail ℕ)

abbrev pub loc : Place ℕ → Want → List (Mail ℕ) → Local
loc p w u = record { place = p; want = w; lane = u }

-- A refusal, or a code, a value and what the terminal then has.
pub data Move : Type 0 where
  stays : ℕ → Move
  goes : ℕ → Option ℕ → Local → Move

abbrev pub at_site : Site ℕ → ℕ → ℕ → Local → Site ℕ
at_site S t p L =
    record { homes = S.homes; place = put_place S.place t p L.place; wait = changed S.wait t L.want; up = changed S.up t L.lane; down = S.down }

abbrev pub local_of : Site ℕ → ℕ → ℕ → Local
local_of S t p = loc (S.place t p) (S.wait t) (S.up t)

abbrev pub out_of : Site ℕ → ℕ → ℕ → Move → Out ℕ
out_of S t p (stays k) = out S k none
out_of S t p (goes k v L) = out (at_site S t p L) k v

pub site_path : {h : ℕ → Home ℕ} {f g : ℕ → ℕ → Place ℕ} {w x : ℕ → Want} {u v d e : ℕ → List (Mail ℕ)} → f ≡ g → w ≡ x → u ≡ v → d ≡ e
    → ◌≡◌ {A = Site ℕ} (record { homes = h; place = f; wait = w; up = u; down = d }) (record { homes = h; place = g; wait = x; up = v; down = e })
site_path {h = h} a b c d = λ i. record { homes = h; place = a i; wait = b i; up = c i; down = d i }

pub still_site : (S : Site ℕ) (t p : ℕ) → at_site S t p (local_of S t p) ≡ S
still_site S t p = site_path (put_still S.place t p) (upd_still S.wait t) (upd_still S.up t) refl

abbrev pub a_miss : ℕ → ℕ → Access → Want → Local → Move
a_miss d r k (wants j x) L = stays 2
a_miss d r k rests L =
    cond (leb (length L.lane + (length (evict L.place) + 1)) d)
    (goes 1 none (loc (cleared k r L.place) (wants k r) ((L.lane ++ evict L.place) ++ (mail r (REQ k) ∷ []))))
    (stays 3)

abbrev pub a_read : ℕ → ℕ → Copy ℕ → Local → Move
a_read d r no_copy L = a_miss d r reading L.want L
a_read d r (readable v) L = goes 0 (some v) L
a_read d r (writable v) L = goes 0 (some v) L

abbrev pub a_write : ℕ → ℕ → ℕ → Copy ℕ → Local → Move
a_write d r v no_copy L = a_miss d r writing L.want L
a_write d r v (readable w) L = a_miss d r writing L.want L
a_write d r v (writable w) L = goes 0 none (loc (owned r v) L.want L.lane)

abbrev pub a_release : ℕ → ℕ → Copy ℕ → Local → Move
a_release d r no_copy L = stays 5
a_release d r (readable v) L = goes 0 none (loc empty L.want (L.lane ++ evict L.place))
a_release d r (writable v) L =
    cond (leb (length L.lane + 1) d) (goes 0 none (loc empty L.want (L.lane ++ evict L.place))) (stays 3)

abbrev pub a_takes : ℕ → ℕ → Option (Took ℕ) → Local → Move
a_takes d r none L = stays 6
a_takes d r (some k) L =
    cond (room_up d L.lane k.reply)
    (goes 0 none (loc (place_of r k.copy L.place) (want_of r k.wait L.want) (L.lane ++ mails r k.reply)))
    (stays 3)

abbrev pub a_hear : ℕ → ℕ → Msg ℕ → Local → Move
a_hear d r m L =
    cond (lands m r L.place) (a_takes d r (receive m (copy_of r L.place) (wait_of r L.want)) L) (stays 6)

module _ (Z : Sizes) (S : Site ℕ) (t r : ℕ) where
  abbrev p : ℕ
  p = r % Z.l

  abbrev L : Local
  L = local_of S t p

  moved_if : (b : Bool) (X : Local) (k : ℕ) → cond b (out (at_site S t p X) k none) (out S 3 none) ≡ out_of S t p (cond b (goes k none X) (stays 3))
  moved_if true X k = refl
  moved_if false X k = refl

  miss_is : (k : Access) (w : Want) → miss Z S t r k w ≡ out_of S t p (a_miss Z.up_depth r k w L)
  miss_is k (wants j x) = refl
  miss_is k rests =
      moved_if (leb (length (S.up t) + (length (evict (S.place t p)) + 1)) Z.up_depth) (loc (cleared k r (S.place t p)) (wants k r) ((S.up t ++ evict (S.place t p)) ++ (mail r (REQ k) ∷ []))) 1

  pub read_is : (c : Copy ℕ) → read_at Z S t r c ≡ out_of S t p (a_read Z.up_depth r c L)
  read_is no_copy = miss_is reading (S.wait t)
  read_is (readable v) = ap (λ (X : Site ℕ). out X 0 (some v)) (sym (still_site S t p))
  read_is (writable v) = ap (λ (X : Site ℕ). out X 0 (some v)) (sym (still_site S t p))

  pub write_is : (v : ℕ) (c : Copy ℕ) → write_at Z S t r v c ≡ out_of S t p (a_write Z.up_depth r v c L)
  write_is v no_copy = miss_is writing (S.wait t)
  write_is v (readable w) = miss_is writing (S.wait t)
  write_is v (writable w) = ap (λ (X : Site ℕ). out X 0 none) (site_path refl (sym (upd_still S.wait t)) (sym (upd_still S.up t)) refl)

  gone : after_releasing Z S t r ≡ at_site S t p (loc empty (S.wait t) (S.up t ++ evict (S.place t p)))
  gone = site_path refl (sym (upd_still S.wait t)) refl refl

  pub release_is : (c : Copy ℕ) → release_at Z S t r c ≡ out_of S t p (a_release Z.up_depth r c L)
  release_is no_copy = refl
  release_is (readable v) = ap (λ (X : Site ℕ). out X 0 none) gone
  release_is (writable v) = pick (leb (length (S.up t) + 1) Z.up_depth)
    where
      pick : (b : Bool) → cond b (out (after_releasing Z S t r) 0 none) (out S 3 none) ≡ out_of S t p (cond b (goes 0 none (loc empty (S.wait t) (S.up t ++ evict (S.place t p)))) (stays 3))
      pick true = ap (λ (X : Site ℕ). out X 0 none) gone
      pick false = refl

  -- A step takes the message off the lane unless it is refused for want of room.
  abbrev pub out_down : List (Mail ℕ) → Move → Out ℕ
  out_down xs (stays k) = out (cond (eqb k 6) (drop_down S t xs) S) k none
  out_down xs (goes k v X) =
      out
      (record {
        homes = S.homes;
        place = put_place S.place t p X.place;
        wait = changed S.wait t X.want;
        up = changed S.up t X.lane;
        down = changed S.down t xs;
      })
      k
      v

  takes_is : (m : Msg ℕ) (xs : List (Mail ℕ)) (o : Option (Took ℕ)) → terminal_takes Z S t (mail r m) xs o ≡ out_down xs (a_takes Z.up_depth r o L)
  takes_is m xs none = refl
  takes_is m xs (some k) = pick (room_up Z.up_depth (S.up t) k.reply)
    where
      pick : (b : Bool) → cond b (out (after_terminal Z S t (mail r m) xs k) 0 none) (out S 3 none)
          ≡ out_down xs (cond b (goes 0 none (loc (place_of r k.copy (S.place t p)) (want_of r k.wait (S.wait t)) (S.up t ++ mails r k.reply))) (stays 3))
      pick true = refl
      pick false = refl

  pub hear_is : (m : Msg ℕ) (xs : List (Mail ℕ)) → cond (lands m r (S.place t p)) (terminal_takes Z S t (mail r m) xs (receive m (copy_of r (S.place t p)) (wait_of r (S.wait t)))) (out (drop_down S t xs) 6 none)
      ≡ out_down xs (a_hear Z.up_depth r m L)
  hear_is m xs = pick (lands m r (S.place t p))
    where
      o : Option (Took ℕ)
      o = receive m (copy_of r (S.place t p)) (wait_of r (S.wait t))

      pick : (b : Bool) → cond b (terminal_takes Z S t (mail r m) xs o) (out (drop_down S t xs) 6 none) ≡ out_down xs (cond b (a_takes Z.up_depth r o L) (stays 6))
      pick true = takes_is m xs o
      pick false = refl
