-- Each of the five calls leaves a legal home where it found one. Only a home step changes entries, and none changes how many
-- terminals there are.
use Rattle.std.proofs.Common.{ℕ, Bool, ltb, Some, None, Option}
use Rattle.std.proofs.lemmas.Bool.{cond_both}
use Rattle.message.specs.declared.refusals.Refusal.{Refusal}
use Rattle.message.specs.declared.Message.{Message}
use Rattle.message.specs.declared.refusals.Refusal.TheVariants.{OutOfTurn, NoSuchTerminal, NoSuchRecord, Unfit}
use Rattle.message.specs.Checks.{given}
use Rattle.message.specs.Kinds.{kind_of}
use Rattle.network.specs.Traffic.{oldest}
use Rattle.protocol.specs.declared.Call.{Call}
use Rattle.protocol.specs.declared.Call.TheVariants.{Read, Write, Release, HomeStep, TerminalStep}
use Rattle.protocol.specs.HomeSteps.{Given, unchanged, takes_off}
use Rattle.protocol.specs.Seats.{Turn, refuses, moves}
use Rattle.protocol.specs.TerminalRules.{read_turn, write_turn, release_turn, heard_as}
use Rattle.protocol.specs.Sites.{Site, seat_at, row_fits, fits}
use Rattle.protocol.specs.Calls.{at_terminal, of_record, turned, down_taken, stepped, message_heard, step}
use Rattle.legal.proofs.Homes.{LegalHome, home_step_legal}

-- the site after an operation has a legal home
pub record LeavesLegalSite (given : Given Site) : Type 0 where
  pub home : LegalHome given.after.home

module _ (site : Site) (before : LegalHome site.home) where
  -- what follows a check, and what follows the checks of a terminal
  behind : (test : Bool) (refusal : Refusal) (follows : Given Site) → LeavesLegalSite follows → LeavesLegalSite (given test (unchanged refusal site) follows)
  behind test refusal follows legal = cond_both test follows (unchanged refusal site) LeavesLegalSite (λ _. legal) (λ _. record { home = before })

  at_terminal_legal : (t : ℕ) (follows : Given Site) → LeavesLegalSite follows → LeavesLegalSite (at_terminal site t follows)
  at_terminal_legal t follows legal = behind (fits site) Unfit _ (behind (ltb t site.home.terminals) NoSuchTerminal follows legal)

  -- a turn of a terminal: read, write or release, behind the checks
  turned_legal : (t r : ℕ) (turn : Turn) → LeavesLegalSite (turned site t r turn)
  turned_legal t r (refuses refusal) = record { home = before }
  turned_legal t r (moves code value place wait waiting) = record { home = record { entries = before.entries; size = before.size } }

  asked_legal : (t r : ℕ) (turn : Turn) → LeavesLegalSite (at_terminal site t (of_record site r (turned site t r turn)))
  asked_legal t r turn =
      at_terminal_legal t _ (behind (ltb r site.home.records) NoSuchRecord (turned site t r turn) (turned_legal t r turn))

  -- a turn about a message, and the message
  stepped_legal : (t r : ℕ) (turn : Turn) → LeavesLegalSite (stepped site t r turn)
  stepped_legal t r (refuses refusal) =
      record {
        home =
            cond_both (takes_off refusal) (down_taken site t) site (λ after. LegalHome after.home)
            (λ _. record { entries = before.entries; size = before.size })
            (λ _. before);
      }
  stepped_legal t r (moves code value place wait waiting) = record { home = record { entries = before.entries; size = before.size } }

  heard_legal : (t : ℕ) (head : Option Message) → LeavesLegalSite (message_heard site t head)
  heard_legal t None = record { home = before }
  heard_legal t (Some m) =
      cond_both (ltb m.«record» site.home.records) _ _ LeavesLegalSite
      (λ _. stepped_legal t m.«record» (heard_as (kind_of m.opcode) (seat_at site t m.«record») t m.«record» m.value))
      (λ _. stepped_legal t m.«record» (refuses OutOfTurn))

  pub step_legal : (call : Call) → LeavesLegalSite (step site call)
  step_legal (Read t r) = asked_legal t r (read_turn (seat_at site t r) t r)
  step_legal (Write t r v) = asked_legal t r (write_turn (seat_at site t r) t r v)
  step_legal (Release t r) = asked_legal t r (release_turn (seat_at site t r) t r)
  step_legal (HomeStep t) = behind (row_fits site) Unfit _ (record { home = home_step_legal site.home t before })
  step_legal (TerminalStep t) = at_terminal_legal t _ (heard_legal t (oldest site.home.down t))
