-- The five calls of a site: read, write, release, and the turns of the home and of a terminal.
use Rattle.std.specs.Prelude.{ℕ, ◌+◌, ◌%◌, cond, ◌&&◌, List, [], ◌∷◌, ◌++◌, length, ◌==◌, nat_le, nat_lt}
use Rattle.std.proofs.Math.Option.{none, some}
use Rattle.machine.specs.Machine.{Access, reading, writing, Copy, no_copy, readable, writable, REQ, REPM, same}
use Rattle.machine.specs.Site.{Mail, mail, Place, empty, shared, owned, Want, rests, wants, Sizes, Site, changed, put_place, copy_of}
use Rattle.machine.specs.Turns.{Out, out, home_step, terminal_step}

module _ {V : Type 0} where
  -- What a place sends home when it is emptied: an owned copy goes as a replacement, a shared one goes silently.
  abbrev pub evict : Place V → List (Mail V)
  evict empty = []
  evict (shared x v) = []
  evict (owned x v) = mail x (REPM v) ∷ []

  -- A request leaves its place empty; a request to write keeps a shared copy of the record itself.
  unfoldable pub cleared : Access → ℕ → Place V → Place V
  cleared reading r place = empty
  cleared writing r empty = empty
  cleared writing r (shared x v) = cond (same x r) (shared x v) empty
  cleared writing r (owned x v) = empty

  -- The site after terminal t asked for record r: what the place showed went home, then the request, and t waits.
  abbrev pub after_asking : Sizes → Site V → ℕ → ℕ → Access → Site V
  after_asking sizes site t r k =
      record {
        homes = site.homes;
        place = put_place site.place t (r % sizes.l) (cleared k r (site.place t (r % sizes.l)));
        wait = changed site.wait t (wants k r);
        up =
            changed
            site.up
            t
            ((site.up t ++ evict (site.place t (r % sizes.l))) ++ (mail r (REQ k) ∷ []));
        down = site.down;
      }

  -- The copy does not allow the access: the terminal asks for it, unless it waits already or its lane is full.
  abbrev pub miss : Sizes → Site V → ℕ → ℕ → Access → Want → Out V
  miss sizes site t r k (wants j x) = out site 2 none
  miss sizes site t r k rests =
      cond
      (nat_le (length (site.up t) + (length (evict (site.place t (r % sizes.l))) + 1)) sizes.up_depth)
      (out (after_asking sizes site t r k) 1 none)
      (out site 3 none)

  -- A read gives the value of a copy; without a copy the terminal asks to read.
  abbrev pub read_at : Sizes → Site V → ℕ → ℕ → Copy V → Out V
  read_at sizes site t r no_copy = miss sizes site t r reading (site.wait t)
  read_at sizes site t r (readable v) = out site 0 (some v)
  read_at sizes site t r (writable v) = out site 0 (some v)

  -- The site with another content of terminal t's place for record r.
  abbrev pub after_writing : Sizes → Site V → ℕ → ℕ → Place V → Site V
  after_writing sizes site t r a =
      record {
        homes = site.homes;
        place = put_place site.place t (r % sizes.l) a;
        wait = site.wait;
        up = site.up;
        down = site.down;
      }

  -- A write is done in a copy that may be written; without one the terminal asks to write.
  abbrev pub write_at : Sizes → Site V → ℕ → ℕ → V → Copy V → Out V
  write_at sizes site t r v no_copy = miss sizes site t r writing (site.wait t)
  write_at sizes site t r v (readable w) = miss sizes site t r writing (site.wait t)
  write_at sizes site t r v (writable w) = out (after_writing sizes site t r (owned r v)) 0 none

  -- The site after terminal t let its copy of record r go.
  abbrev pub after_releasing : Sizes → Site V → ℕ → ℕ → Site V
  after_releasing sizes site t r =
      record {
        homes = site.homes;
        place = put_place site.place t (r % sizes.l) empty;
        wait = site.wait;
        up = changed site.up t (site.up t ++ evict (site.place t (r % sizes.l)));
        down = site.down;
      }

  -- A release needs a copy, and for one that may be written room in the up lane.
  abbrev pub release_at : Sizes → Site V → ℕ → ℕ → Copy V → Out V
  release_at sizes site t r no_copy = out site 5 none
  release_at sizes site t r (readable v) = out (after_releasing sizes site t r) 0 none
  release_at sizes site t r (writable v) =
      cond
      (nat_le (length (site.up t) + 1) sizes.up_depth)
      (out (after_releasing sizes site t r) 0 none)
      (out site 3 none)

-- A call: terminal t reads, releases or writes record r, the home has its turn at t's lane, or t has its own.
pub data Call (V : Type 0) : Type 0 where
  read release : ℕ → ℕ → Call V
  write : ℕ → ℕ → V → Call V
  home_turn terminal_turn : ℕ → Call V

module _ {V : Type 0} where
  -- The terminal and then the record must be there.
  abbrev pub checked : Sizes → Site V → ℕ → ℕ → Out V → Out V
  checked sizes site t r follows =
      cond (nat_lt t sizes.n) (cond (nat_lt r sizes.b) follows (out site 8 none)) (out site 7 none)

  -- What a call does and answers.
  unfoldable pub step : Sizes → Site V → Call V → Out V
  step sizes site (read t r) =
      checked sizes site t r (read_at sizes site t r (copy_of r (site.place t (r % sizes.l))))
  step sizes site (release t r) =
      checked sizes site t r (release_at sizes site t r (copy_of r (site.place t (r % sizes.l))))
  step sizes site (write t r v) =
      checked sizes site t r (write_at sizes site t r v (copy_of r (site.place t (r % sizes.l))))
  step sizes site (home_turn t) = home_step sizes site t
  step sizes site (terminal_turn t) = terminal_step sizes site t

  -- The last value written to each record, after a call with this code: a write with code 0 sets that of its record.
  abbrev pub effect : Call V → ℕ → (ℕ → V) → ℕ → V
  effect (read t r) code last = last
  effect (release t r) code last = last
  effect (write t r v) code last = λ x. cond (code == 0 && same r x) v (last x)
  effect (home_turn t) code last = last
  effect (terminal_turn t) code last = last
