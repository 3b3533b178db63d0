-- The law of coherence over every list of calls.
use Rattle.std.specs.Prelude.{◌≡◌, ℕ, zero, suc, ◌+◌, ◌*◌, ◌<◌, ◌≤◌, true, false, cond, List, [], ◌∷◌, length, ◌==◌, ◌≢◌}
use Rattle.message.specs.declared.Message.{Message}
use Rattle.message.specs.declared.refusals.Refusal.TheVariants.{Full}
use Rattle.protocol.specs.declared.Code.TheVariants.{Accepted, Refused}
use Rattle.message.specs.declared.kinds.Kind.TheVariants.{Replacement}
use Rattle.protocol.specs.Codes.{accepted}
use Rattle.message.specs.Kinds.{opcode_of}
use Rattle.directory.specs.Sets.{tally}
use Rattle.protocol.specs.declared.Call.{Call}
use Rattle.protocol.specs.declared.Call.TheVariants.{Read, Write, Release, HomeStep, TerminalStep}
use Rattle.protocol.specs.declared.Sizes.{Sizes}
use Rattle.protocol.specs.declared.Wait.TheVariants.{Nothing}
use Rattle.protocol.specs.HomeSteps.{entry_at}
use Rattle.protocol.specs.Places.{has_copy, has_read_write, is_waiting}
use Rattle.protocol.specs.Sites.{Site, place_at, wait_at}
use Rattle.protocol.specs.Calls.{step}
use Rattle.protocol.specs.Opening.{opening, opening_value}
use Rattle.protocol.specs.Legal.{Legal, Operation, Parts, operated, new_site, LegalEntries}
use Rattle.protocol.specs.Runs.{Answer, run, answers, effect, with_effect}

-- Exclusive: while one terminal has a copy of a record in Read-Write, in whichever of its places, no other terminal has a copy
-- of it, in any of its places.
abbrev pub Exclusive : Site → Type 0
Exclusive site =
    (r t u p q : ℕ) → t < site.home.terminals → u < site.home.terminals → (t ≢ u)
    → p < site.places → q < site.places
    → has_read_write r (place_at site t p) ≡ true → has_copy r (place_at site u q) ≡ false

-- A read that answered 0 gave the last value of its record.
abbrev pub GaveLast : (ℕ → ℕ) → Call → Answer → Type 0
GaveLast last (Read t r) answer = accepted answer.0 ≡ true → answer.1 ≡ last r
GaveLast last (Write t r v) answer = Unit {0}
GaveLast last (Release t r) answer = Unit {0}
GaveLast last (HomeStep t) answer = Unit {0}
GaveLast last (TerminalStep t) answer = Unit {0}

-- Latest: in a list of calls with their answers, each read that answered 0 gave the value that its record last took before it in
-- the list, or else the value that it had at the start.
abbrev pub Latest : (ℕ → ℕ) → List Call → List Answer → Type 0
Latest last [] given = Unit {0}
Latest last (call ∷ calls) [] = Unit {0}
Latest last (call ∷ calls) (answer ∷ given) =
    GaveLast last call answer × Latest (with_effect last (effect call answer)) calls given

-- Deep lanes: up lanes take 2 × B + 1 messages, down lanes B + 1.
abbrev pub Deep : Site → Type 0
Deep site = (2 * site.home.records + 1 ≤ site.home.up.depth) × (site.home.records + 1 ≤ site.home.down.depth)

-- Never full: no answer says that a lane was full.
abbrev pub NeverFull : List Answer → Type 0
NeverFull [] = Unit {0}
NeverFull (answer ∷ given) = (answer.0 ≢ Refused Full) × NeverFull given

-- A step is a home step or a terminal step.
pub data Step : Type 0 where
  by_home by_terminal : ℕ → Step

abbrev pub call_of : Step → Call
call_of (by_home t) = HomeStep t
call_of (by_terminal t) = TerminalStep t

abbrev pub calls_of : List Step → List Call
calls_of [] = []
calls_of (s ∷ ss) = call_of s ∷ calls_of ss

-- How many of some answers say that the call was accepted.
unfoldable pub number_accepted : List Answer → ℕ
number_accepted [] = 0
number_accepted (answer ∷ given) = cond (accepted answer.0) 1 0 + number_accepted given

-- How many terminals wait.
abbrev pub waiting_terminals : Site → ℕ
waiting_terminals site = tally (λ t. is_waiting (wait_at site t)) site.home.terminals

-- How many of some messages are replacements.
abbrev pub replacements : List Message → ℕ
replacements [] = 0
replacements (m ∷ ms) = cond (m.opcode == opcode_of Replacement) 1 0 + replacements ms

-- The sum of f over the numbers below n.
unfoldable pub sum_below : (ℕ → ℕ) → ℕ → ℕ
sum_below f zero = 0
sum_below f (suc n) = f n + sum_below f n

-- How many replacements are on their way home.
abbrev pub replacements_coming : Site → ℕ
replacements_coming site = sum_below (λ t. replacements (site.home.up.waiting t)) site.home.terminals

-- Bounded: of any further steps, at most 2 × N × W + R are accepted.
abbrev pub Bounded : Site → Type 0
Bounded site =
    (steps : List Step) → number_accepted (answers site (calls_of steps))
    ≤ 2 * site.home.terminals * waiting_terminals site + replacements_coming site

-- No step would be accepted.
abbrev pub NoStepLeft : Site → Type 0
NoStepLeft site = (s : Step) → (step site (call_of s)).code ≢ Accepted

-- The lanes of all terminals are empty, and none waits.
abbrev pub AtRest : Site → Type 0
AtRest site =
    (t : ℕ) → t < site.home.terminals
    → (site.home.up.waiting t ≡ []) × (site.home.down.waiting t ≡ []) × (wait_at site t ≡ Nothing)

-- The entries of the site's records are legal.
abbrev pub EntriesLegal : Site → Type 0
EntriesLegal site = (r : ℕ) → r < site.home.records → Legal (entry_at site.home.entries r)

-- What holds of a list of calls with its answers, on a site that was newly opened with some values, and of the site after it.
pub record Coherent (values : ℕ → ℕ) (calls : List Call) (given : List Answer) (after : Site) : Type 0 where
  pub exclusive : Exclusive after
  pub latest : Latest values calls given
  pub never_full : Deep after → NeverFull given
  pub bounded : Bounded after
  pub comes_to_rest : Deep after → NoStepLeft after → AtRest after
  pub entries_legal : EntriesLegal after

-- The tables of the home and of the terminals have 64 entries.
pub record Tables (site : Site) : Type 0 where
  pub entries : length site.home.entries ≡ 64
  pub waits : length site.waits ≡ 64

-- Every list of calls on every newly opened site is coherent.
abbrev pub EveryRunCoherent : Type 0
EveryRunCoherent =
    (site : Site) (sizes : Sizes) (values : List ℕ) → Tables site → (opening site sizes values).code ≡ Accepted → (calls : List Call)
    → let opened = (opening site sizes values).after in
    Coherent (opening_value values) calls (answers opened calls) (run opened calls)

-- No list of operations, openings among them and with whatever parts, leaves an illegal entry in the home's table.
abbrev pub EntriesStayLegal : Type 0
EntriesStayLegal = (parts : Parts) (operations : List (Operation × Parts)) → LegalEntries (operated (new_site parts) operations)

-- The whole law.
pub record Coherence : Type 0 where
  pub every_run_coherent : EveryRunCoherent
  pub entries_stay_legal : EntriesStayLegal
