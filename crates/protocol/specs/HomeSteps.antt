-- A home step: the oldest message of an up lane is taken, and the home rules on it.
use Rattle.std.specs.Prelude.{ℕ, Bool, cond, ◌&&◌, List, Some, None, Option, ◌==◌, nat_le, nat_lt, slice_index_or, slice_set}
use Rattle.message.specs.declared.refusals.Refusal.{Refusal}
use Rattle.message.specs.declared.Message.{Message}
use Rattle.protocol.specs.declared.Code.{Code}
use Rattle.message.specs.declared.refusals.Refusal.TheVariants.{Empty, OutOfTurn, NoSuchTerminal, Unfit}
use Rattle.protocol.specs.declared.Code.TheVariants.{Accepted, Refused}
use Rattle.message.specs.declared.kinds.Kind.{Kind}
use Rattle.message.specs.Checks.{given}
use Rattle.message.specs.Refusals.{number}
use Rattle.message.specs.Kinds.{kind_of}
use Rattle.directory.specs.Directories.{View}
use Rattle.directory.specs.Changes.{with_holders}
use Rattle.network.specs.Traffic.{Traffic, oldest, after_drop, with_waiting}
use Rattle.protocol.specs.declared.Entry.{Entry}
use Rattle.protocol.specs.declared.HomeState.TheVariants.{ReadOnly}
use Rattle.protocol.specs.Scenes.{Scene, Ruling, refuses, accepts}
use Rattle.protocol.specs.HomeRules.{entry_of, ruled}

-- The home and all that it works on: how many terminals and records the site has, the entries, the directory, both networks.
pub record Home : Type 0 where
  pub terminals : ℕ
  pub records : ℕ
  pub entries : List Entry
  pub directory : View
  pub up : Traffic
  pub down : Traffic

-- What a call gives: a code and a value, and what then holds.
pub record Given (S : Type 0) : Type 0 where
  pub code : Code
  pub value : ℕ
  pub after : S

abbrev pub gives : {S : Type 0} → Code → ℕ → S → Given S
gives code value after = record { code = code; value = value; after = after }

-- A refusal changes nothing.
abbrev pub unchanged : {S : Type 0} → Refusal → S → Given S
unchanged refusal before = gives (Refused refusal) 0 before

-- A refusal of a step: only a message out of turn is taken off its lane.
abbrev pub takes_off : Refusal → Bool
takes_off refusal = number refusal == number OutOfTurn

-- The entry of a record that was never opened.
abbrev pub blank : Entry
blank = entry_of ReadOnly 0 0

abbrev pub entry_at : List Entry → ℕ → Entry
entry_at entries r = slice_index_or entries r blank

-- What the rules look at for record r.
abbrev pub scene_at : Home → ℕ → Scene
scene_at home r =
    record { terminals = home.terminals; entry = entry_at home.entries r; directory = home.directory; down = home.down }

-- The oldest message of up lane t is taken off.
abbrev pub up_taken : Home → ℕ → Home
up_taken home t =
    record {
      terminals = home.terminals;
      records = home.records;
      entries = home.entries;
      directory = home.directory;
      up = after_drop home.up t;
      down = home.down;
    }

-- What the home does with a message, by its kind; shut, so that what stands above need not look inside. An opcode of no kind is
-- out of turn.
unfoldable pub answered : Option Kind → Scene → ℕ → ℕ → ℕ → Ruling
answered None s r t v = refuses OutOfTurn
answered (Some kind) s r t v = ruled kind s r t v

-- The home carries out a ruling on a message about record r from up lane t: one entry changes, and no other.
abbrev pub settled : Home → ℕ → ℕ → Ruling → Given Home
settled home t r (refuses refusal) = unchanged refusal (cond (takes_off refusal) (up_taken home t) home)
settled home t r (accepts entry holders waiting) =
    gives Accepted 0
    (record {
      terminals = home.terminals;
      records = home.records;
      entries = slice_set home.entries r entry;
      directory = with_holders home.directory holders;
      up = after_drop home.up t;
      down = with_waiting home.down waiting;
    })

-- A message about a record that the site has not is out of turn.
abbrev pub message_taken : Home → ℕ → Message → Given Home
message_taken home t m =
    given (nat_lt m.«record» home.records) (settled home t m.«record» (refuses OutOfTurn))
    (settled home t m.«record»
    (answered (kind_of m.opcode) (scene_at home m.«record») m.«record» t m.value))

abbrev pub head_taken : Home → ℕ → Option Message → Given Home
head_taken home t None = unchanged Empty home
head_taken home t (Some m) = message_taken home t m

-- Do the parts serve as many records and terminals as the site has?
abbrev pub parts_serve : Home → Bool
parts_serve home =
    (nat_le home.terminals home.directory.terminals && nat_le home.records home.directory.records)
    && (nat_le home.terminals home.up.lanes && nat_le home.terminals home.down.lanes)

-- A home step on up lane t.
abbrev pub home_step : Home → ℕ → Given Home
home_step home t =
    given (parts_serve home) (unchanged Unfit home)
    (given (nat_lt t home.terminals) (unchanged NoSuchTerminal home)
    (head_taken home t (oldest home.up t)))
