-- What a rule of the home looks at, and what it rules.
use Rattle.std.specs.Prelude.{ℕ, List}
use Rattle.message.specs.declared.refusals.Refusal.{Refusal}
use Rattle.message.specs.declared.Message.{Message}
use Rattle.protocol.specs.declared.Code.{Code}
use Rattle.protocol.specs.declared.Code.TheVariants.{Accepted, Refused}
use Rattle.directory.specs.Directories.{Holders, View}
use Rattle.directory.specs.Changes.{with_holders}
use Rattle.network.specs.Traffic.{Traffic, with_waiting}
use Rattle.protocol.specs.declared.Entry.{Entry}

-- The site has so many terminals; the entry of the record in question; the directory; the down network.
pub record Scene : Type 0 where
  pub terminals : ℕ
  pub entry : Entry
  pub directory : View
  pub down : Traffic

-- A rule refuses, and changes nothing; or it accepts, and says what the entry, the holders and the down lanes then are.
pub data Ruling : Type 0 where
  refuses : Refusal → Ruling
  accepts : Entry → Holders → (ℕ → List Message) → Ruling

-- The code that a ruling answers.
abbrev pub code_of : Ruling → Code
code_of (refuses refusal) = Refused refusal
code_of (accepts entry holders waiting) = Accepted

-- The entry after a ruling.
abbrev pub entry_after : Ruling → Entry → Entry
entry_after (refuses refusal) before = before
entry_after (accepts entry holders waiting) before = entry

-- The directory after a ruling.
abbrev pub directory_after : Ruling → View → View
directory_after (refuses refusal) before = before
directory_after (accepts entry holders waiting) before = with_holders before holders

-- The down network after a ruling.
abbrev pub down_after : Ruling → Traffic → Traffic
down_after (refuses refusal) before = before
down_after (accepts entry holders waiting) before = with_waiting before waiting
