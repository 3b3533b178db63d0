-- What it means that a call on a site is the machine's call on the machine's view of it.
use Rattle.std.proofs.Common.{◌≡◌, ℕ, ◌*◌, ◌≤◌, true, ◌&&◌, leb, length, refl, leb-true}
use mathlib.Core.Option.{Option as Maybe, none, some}
use Rattle.std.proofs.lemmas.Bool.{and_parts}
use Rattle.message.specs.declared.refusals.Refusal.{Refusal}
use Rattle.protocol.specs.declared.Code.TheVariants.{Refused}
use Rattle.protocol.specs.Codes.{number}
use Rattle.protocol.specs.HomeSteps.{Given, unchanged, parts_serve}
use Rattle.protocol.specs.Sites.{Site, row_fits}
use Rattle.machine.specs.Turns as model_turns
use Rattle.coherence.proofs.Abstraction.{abs}

-- The value of an answer: 0 where the machine gives none.
abbrev pub value_of : Maybe ℕ → ℕ
value_of none = 0
value_of (some v) = v

-- The same answer, and the same site after it.
pub record Simulates (o : Given Site) (a : model_turns.Out ℕ) : Type 0 where
  pub site_is : abs o.after ≡ a.site
  pub code_is : number o.code ≡ a.code
  pub value_is : o.value ≡ value_of a.value

pub refused : (s : Site) (c : Refusal) → Simulates (unchanged c s) (model_turns.out (abs s) (number (Refused c)) none)
refused s c = record { site_is = refl; code_is = refl; value_is = refl }

-- What is true of the sizes and tables of every site that is open.
pub record Sized (s : Site) : Type 0 where
  pub row_long : row_fits s ≡ true
  pub parts_large : parts_serve s.home ≡ true
  pub entries_long : length s.home.entries ≡ 64
  pub waits_long : length s.waits ≡ 64
  pub few_terminals : s.home.terminals ≤ 64
  pub few_records : s.home.records ≤ 64
  pub some_place : 1 ≤ s.places

-- What that says of the parts.
pub record Served (s : Site) : Type 0 where
  pub terminals : s.home.terminals ≤ s.home.directory.terminals
  pub records : s.home.records ≤ s.home.directory.records
  pub up_lanes : s.home.terminals ≤ s.home.up.lanes
  pub down_lanes : s.home.terminals ≤ s.home.down.lanes

pub served : (s : Site) → Sized s → Served s
served s I =
    let d = leb s.home.terminals s.home.directory.terminals in
    let r = leb s.home.records s.home.directory.records in
    let u = leb s.home.terminals s.home.up.lanes in
    let w = leb s.home.terminals s.home.down.lanes in
    let both = and_parts (d && r) (u && w) I.parts_large in
    let first = and_parts d r both.0 in
    let second = and_parts u w both.1 in
    record {
      terminals = leb-true s.home.terminals s.home.directory.terminals first.0;
      records = leb-true s.home.records s.home.directory.records first.1;
      up_lanes = leb-true s.home.terminals s.home.up.lanes second.0;
      down_lanes = leb-true s.home.terminals s.home.down.lanes second.1;
    }

pub row_is_long : (s : Site) → Sized s → s.home.terminals * s.places ≤ length s.row
row_is_long s I = leb-true (s.home.terminals * s.places) (length s.row) I.row_long
