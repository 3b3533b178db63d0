-- The two steps that move messages: the home takes the oldest message of a lane, and a terminal takes its own oldest.
use Rattle.std.specs.Prelude.{ℕ, zero, suc, ◌+◌, ◌%◌, Bool, true, cond, ◌&&◌, List, [], ◌∷◌, ◌++◌, length, nat_le, nat_lt}
use Rattle.std.proofs.Math.Option.{Option, none, some}
use Rattle.machine.specs.Machine.{Msg}
use Rattle.machine.specs.HomeRules.{Act, rule}
use Rattle.machine.specs.Site.{Mail, mail, mails, Sizes, Site, changed, put_place, copy_of, wait_of, place_of, want_of}
use Rattle.machine.specs.TerminalRules.{Took, receive, lands}

-- What a call gives: the site afterwards, a code and, of a read, a value. The codes: 0 accepted, 1 asked for, 2 the terminal
-- waits already, 3 a lane is full, 4 the lane is empty, 5 nothing to release, 6 not expected, 7 no terminal, 8 no record.
pub record Out (V : Type 0) : Type 0 where
  pub site : Site V
  pub code : ℕ
  pub value : Option V

module _ {V : Type 0} where
  -- An answer of these three parts.
  abbrev pub out : Site V → ℕ → Option V → Out V
  out site code value = record { site = site; code = code; value = value }

  -- Whether each receiver below m has room for one message in its down lane.
  unfoldable pub room : ℕ → (ℕ → List (Mail V)) → ℕ → (ℕ → Bool) → Bool
  room depth down zero receivers = true
  room depth down (suc m) receivers =
      cond (receivers m) (nat_lt (length (down m)) depth) true && room depth down m receivers

  -- The oldest message of t's up lane is dropped; the others stay.
  abbrev pub drop_up : Site V → ℕ → List (Mail V) → Site V
  drop_up site t xs =
      record {
        homes = site.homes;
        place = site.place;
        wait = site.wait;
        up = changed site.up t xs;
        down = site.down;
      }

  -- The site after the home took t's message x and acted: the entry of x's record, t's up lane, the receivers' down lanes.
  abbrev pub after_home : Site V → ℕ → Mail V → List (Mail V) → Act V → Site V
  after_home site t x xs a =
      record {
        homes = changed site.homes x.of a.next;
        place = site.place;
        wait = site.wait;
        up = changed site.up t xs;
        down = λ u. cond (a.to u) (site.down u ++ (mail x.of a.msg ∷ [])) (site.down u);
      }

  -- A message that no rule expects is dropped; one that would need a full lane stays where it is.
  abbrev pub home_acts : Sizes → Site V → ℕ → Mail V → List (Mail V) → Option (Act V) → Out V
  home_acts sizes site t x xs none = out (drop_up site t xs) 6 none
  home_acts sizes site t x xs (some a) =
      cond
      (room sizes.down_depth site.down sizes.n a.to)
      (out (after_home site t x xs a) 0 none)
      (out site 3 none)

  -- The home looks at t's up lane; a message about no record is dropped.
  abbrev pub home_lane : Sizes → Site V → ℕ → List (Mail V) → Out V
  home_lane sizes site t [] = out site 4 none
  home_lane sizes site t (x ∷ xs) =
      cond
      (nat_lt x.of sizes.b)
      (home_acts
      sizes
      site
      t
      x
      xs
      (rule sizes.n sizes.served sizes.limit (site.homes x.of) t x.msg))
      (out (drop_up site t xs) 6 none)

  -- The home's turn at terminal t's lane.
  unfoldable pub home_step : Sizes → Site V → ℕ → Out V
  home_step sizes site t = cond (nat_lt t sizes.n) (home_lane sizes site t (site.up t)) (out site 7 none)

  -- The oldest message of t's down lane is dropped; the others stay.
  abbrev pub drop_down : Site V → ℕ → List (Mail V) → Site V
  drop_down site t xs =
      record {
        homes = site.homes;
        place = site.place;
        wait = site.wait;
        up = site.up;
        down = changed site.down t xs;
      }

  -- The site after terminal t took the message x: its place for x's record, its wait, its reply in the up lane.
  abbrev pub after_terminal : Sizes → Site V → ℕ → Mail V → List (Mail V) → Took V → Site V
  after_terminal sizes site t x xs k =
      record {
        homes = site.homes;
        place =
            put_place site.place t (x.of % sizes.l) (place_of x.of k.copy (site.place t (x.of % sizes.l)));
        wait = changed site.wait t (want_of x.of k.wait (site.wait t));
        up = changed site.up t (site.up t ++ mails x.of k.reply);
        down = changed site.down t xs;
      }

  -- Whether the lane can take the reply; without a reply nothing is asked of it.
  abbrev pub room_up : ℕ → List (Mail V) → List (Msg V) → Bool
  room_up depth xs [] = true
  room_up depth xs (m ∷ ms) = nat_le (length xs + length (m ∷ ms)) depth

  -- A message that no rule expects is dropped; one whose reply would need a full lane stays where it is.
  abbrev pub terminal_takes : Sizes → Site V → ℕ → Mail V → List (Mail V) → Option (Took V) → Out V
  terminal_takes sizes site t x xs none = out (drop_down site t xs) 6 none
  terminal_takes sizes site t x xs (some k) =
      cond
      (room_up sizes.up_depth (site.up t) k.reply)
      (out (after_terminal sizes site t x xs k) 0 none)
      (out site 3 none)

  -- Terminal t looks at its down lane; a message about no record, or whose place is taken, is dropped.
  abbrev pub terminal_lane : Sizes → Site V → ℕ → List (Mail V) → Out V
  terminal_lane sizes site t [] = out site 4 none
  terminal_lane sizes site t (x ∷ xs) =
      cond
      (nat_lt x.of sizes.b && lands x.msg x.of (site.place t (x.of % sizes.l)))
      (terminal_takes
      sizes
      site
      t
      x
      xs
      (receive
      x.msg
      (copy_of x.of (site.place t (x.of % sizes.l)))
      (wait_of x.of (site.wait t))))
      (out (drop_down site t xs) 6 none)

  -- Terminal t's turn at its own lane.
  unfoldable pub terminal_step : Sizes → Site V → ℕ → Out V
  terminal_step sizes site t =
      cond (nat_lt t sizes.n) (terminal_lane sizes site t (site.down t)) (out site 7 none)
