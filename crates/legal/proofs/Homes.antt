-- A home step leaves a legal table where it found one. A home has at most 64 terminals, so the one whose lane is served is below
-- 64, and this is what the rules ask of it.
use Rattle.std.proofs.Common.{ℕ, ◌<◌, ◌≤◌, ltb, Some, None, Option, arith}
use Rattle.std.proofs.lemmas.Bool.{cond_both, ltb-true}
use Rattle.message.specs.declared.Message.{Message}
use Rattle.message.specs.declared.refusals.Refusal.TheVariants.{OutOfTurn}
use Rattle.message.specs.Kinds.{kind_of}
use Rattle.network.specs.Traffic.{oldest}
use Rattle.protocol.specs.Scenes.{Ruling, refuses, accepts}
use Rattle.protocol.specs.HomeSteps.{Home, Given, takes_off, entry_at, scene_at, up_taken, settled, head_taken, parts_serve, home_step}
use Rattle.legal.proofs.Tables.{LegalTable, set_legal}
use Rattle.legal.proofs.Rules.{LeavesLegalEntry, answered_legal}

-- what stays true of a home, whatever is done to its site
pub record LegalHome (home : Home) : Type 0 where
  pub entries : LegalTable home.entries
  pub size : home.terminals ≤ 64

-- the home after a step is legal
record LeavesLegalHome (given : Given Home) : Type 0 where
  home : LegalHome given.after

-- a ruling is carried out
settled_legal : (home : Home) (t r : ℕ) (ruling : Ruling) → LegalHome home → LeavesLegalEntry (entry_at home.entries r) ruling → LeavesLegalHome (settled home t r ruling)
settled_legal home t r (refuses refusal) before ruled =
    record { home = cond_both (takes_off refusal) (up_taken home t) home LegalHome (λ _. record { entries = before.entries; size = before.size }) (λ _. before) }
settled_legal home t r (accepts entry holders waiting) before ruled =
    record { home = record { entries = set_legal home.entries r entry ruled.legal before.entries; size = before.size } }

-- a message is taken
taken_legal : (home : Home) (t : ℕ) (head : Option Message) → t < 64 → LegalHome home → LeavesLegalHome (head_taken home t head)
taken_legal home t None served before = record { home = before }
taken_legal home t (Some m) served before =
    cond_both (ltb m.«record» home.records) _ _ LeavesLegalHome
    (λ _. settled_legal home t m.«record» _ before
    (answered_legal (kind_of m.opcode) (scene_at home m.«record») m.«record» t m.value served (before.entries m.«record»)))
    (λ _. settled_legal home t m.«record» (refuses OutOfTurn) before (record { legal = before.entries m.«record» }))

-- a step, behind its checks
checked_legal : (home : Home) (t : ℕ) → LegalHome home → LeavesLegalHome (home_step home t)
checked_legal home t before =
    cond_both (parts_serve home) _ _ LeavesLegalHome
    (λ _. cond_both (ltb t home.terminals) _ _ LeavesLegalHome
    (λ there. taken_legal home t (oldest home.up t) (omega (arith, ltb-true t home.terminals there, before.size)) before)
    (λ _. record { home = before }))
    (λ _. record { home = before })

pub home_step_legal : (home : Home) (t : ℕ) → LegalHome home → LegalHome (home_step home t).after
home_step_legal home t before = (checked_legal home t before).home
