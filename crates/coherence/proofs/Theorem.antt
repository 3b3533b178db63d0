-- The law of coherence: what the machine's invariant says of the machine's view, told of the site.
use Rattle.std.proofs.Common.{◌≡◌, ℕ, ◌+◌, ◌*◌, ◌≤◌, List, [], ◌∷◌, sym, refl, ap, ◌∙◌, subst, le_trans, arith, eqb-true}
use Rattle.message.specs.declared.Message.{Message}
use Rattle.protocol.specs.declared.Code.{Code}
use Rattle.message.specs.declared.refusals.Refusal.TheVariants.{Full}
use Rattle.protocol.specs.declared.Code.TheVariants.{Accepted, Refused}
use Rattle.protocol.proofs.Accepts.{accepted_only}
use Rattle.protocol.specs.Codes.{number}
use Rattle.protocol.specs.declared.Call.{Call}
use Rattle.protocol.specs.declared.Call.TheVariants.{Read, Write, Release, HomeStep, TerminalStep}
use Rattle.protocol.specs.declared.HomeState.{HomeState}
use Rattle.protocol.specs.declared.HomeState.TheVariants.{ReadOnly, ReadWrite, ReadTransaction, WriteTransaction}
use Rattle.protocol.specs.declared.Wait.{Wait}
use Rattle.protocol.specs.declared.Wait.TheVariants.{Nothing, ToRead, ToWrite}
use Rattle.protocol.specs.HomeSteps.{entry_at}
use Rattle.protocol.specs.Sites.{Site, wait_at}
use Rattle.protocol.specs.Calls.{step}
use Rattle.protocol.specs.Opening.{opening, opening_value}
use Rattle.protocol.specs.Runs.{run, answers, effect, with_effect}
use Rattle.protocol.specs.Legal.{LegalCount}
use Rattle.protocol.specs.Coherence as law
use Rattle.protocol.specs.Coherence.{by_home, by_terminal, EveryRunCoherent, Coherence}
use Rattle.legal.proofs.Operations.{entries_stay_legal}
use Rattle.machine.specs.Site as model
use Rattle.machine.specs.Claims as told
use Rattle.machine.proofs.Coherence.{latest_at, legal_at}
use Rattle.machine.proofs.NeverFull.{step_never_full}
use Rattle.machine.proofs.Potential.{accepted_within_potential}
use Rattle.machine.proofs.PotentialBound.{potential_bound}
use Rattle.machine.proofs.ComesToRest.{at_rest}
use Rattle.coherence.proofs.Abstraction.{abs, sizes, call_of, phase_of, want_of, each, up_of, down_of}
use Rattle.coherence.proofs.Simulates.{value_of}
use Rattle.coherence.proofs.Runs.{Stands, answer_to, step_keeps, step_simulates, step_stands}
use Rattle.coherence.proofs.Opening.{opening_stands}
use Rattle.coherence.proofs.Exclusive.{exclusive}
use Rattle.coherence.proofs.Counting.{steps_of, accepted_alike, waiters_alike, replacements_alike}

nothing_waits : (f : Message → model.Mail ℕ) (xs : List Message) → each f xs ≡ [] → xs ≡ []
nothing_waits f [] e = refl
nothing_waits f (x ∷ xs) e = absurd (let z : ◌≡◌ {A = ℕ} 0 1 = cc in omega arith)

rests : (w : Wait) → want_of w ≡ model.rests → w ≡ Nothing
rests Nothing e = refl
rests (ToRead x) e = absurd (let z : ◌≡◌ {A = ℕ} 0 1 = cc in omega arith)
rests (ToWrite x) e = absurd (let z : ◌≡◌ {A = ℕ} 0 1 = cc in omega arith)

legal_count : (n : ℕ) (state : HomeState) (awaited : ℕ) → n ≤ 64 → told.Legal n (phase_of state) awaited → LegalCount state awaited
legal_count n ReadOnly awaited few h = h
legal_count n ReadWrite awaited few h = h
legal_count n ReadTransaction awaited few h = h
legal_count n WriteTransaction awaited few h = (h.0, omega (arith, h.1, few))

module _ (s : Site) (last : ℕ → ℕ) (K : Stands s last) where
  abbrev S : model.Site ℕ
  S = abs s

  -- a read that is accepted gives the last value
  gave_last : (c : Call) → law.GaveLast last c (answer_to s c)
  gave_last (Read t r) =
      λ e.
      let M = step_simulates s last K.sized K.kept (Read t r) in
      let z : number (step s (Read t r)).code ≡ 0 = eqb-true (number (step s (Read t r)).code) 0 e in
      M.value_is ∙ ap value_of (latest_at (sizes s) S last K.kept t r (sym M.code_is ∙ z))
  gave_last (Write t r v) = tt
  gave_last (Release t r) = tt
  gave_last (HomeStep t) = tt
  gave_last (TerminalStep t) = tt

  -- with deep lanes no call is refused for want of room
  finds_room : told.Deep (sizes s) → (c : Call) → (step s c).code ≡ Refused Full → ⊥
  finds_room deep c e =
      let M = step_simulates s last K.sized K.kept c in
      step_never_full (sizes s) S last K.kept deep (call_of c) (sym M.code_is ∙ ap number e)

  bounded : law.Bounded s
  bounded xs =
      let most = le_trans (accepted_within_potential (sizes s) last (steps_of xs) S K.kept) (potential_bound (sizes s) S last K.kept) in
      subst (λ (x : ℕ). x ≤ 2 * s.home.terminals * law.waiting_terminals s + law.replacements_coming s) (sym (accepted_alike last xs s K))
      (subst (λ (x : ℕ). told.accepted (sizes s) S (steps_of xs) ≤ 2 * s.home.terminals * law.waiting_terminals s + x) (replacements_alike s)
      (subst (λ (x : ℕ). told.accepted (sizes s) S (steps_of xs) ≤ 2 * s.home.terminals * x + told.replacements (sizes s) S) (waiters_alike s) most))

  accepted_number : (c : Code) → number c ≡ 0 → c ≡ Accepted
  accepted_number c e = accepted_only c (rw e refl)

  stuck : law.NoStepLeft s → told.Stuck (sizes s) S
  stuck h (told.by_home t) e = h (by_home t) (accepted_number (step s (HomeStep t)).code ((step_simulates s last K.sized K.kept (HomeStep t)).code_is ∙ e))
  stuck h (told.by_terminal t) e = h (by_terminal t) (accepted_number (step s (TerminalStep t)).code ((step_simulates s last K.sized K.kept (TerminalStep t)).code_is ∙ e))

  comes_to_rest : law.Deep s → law.NoStepLeft s → law.AtRest s
  comes_to_rest deep h t l =
      let R = at_rest (sizes s) S last K.kept deep (stuck h) t l in
      (nothing_waits up_of (s.home.up.waiting t) R.0, nothing_waits down_of (s.home.down.waiting t) R.1, rests (wait_at s t) R.2)

  entries_legal : law.EntriesLegal s
  entries_legal r l =
      let e = entry_at s.home.entries r in
      legal_count s.home.terminals e.state e.awaited K.sized.few_terminals (legal_at (sizes s) S last K.kept r l)

-- What a list of calls has done to a site that stands.
record Ran (s : Site) (last : ℕ → ℕ) (calls : List Call) : Type 0 where
  pub values : ℕ → ℕ
  pub stands : Stands (run s calls) values
  pub sizes_are : sizes (run s calls) ≡ sizes s
  pub latest : law.Latest last calls (answers s calls)
  pub never_full : told.Deep (sizes s) → law.NeverFull (answers s calls)

ran : (calls : List Call) (s : Site) (last : ℕ → ℕ) → Stands s last → Ran s last calls
unfolding run answers
ran [] s last K = record { values = last; stands = K; sizes_are = refl; latest = tt; never_full = λ deep. tt }
ran (c ∷ cs) s last K =
    let more = ran cs (step s c).after (with_effect last (effect c (answer_to s c))) (step_stands s last K c) in
    let same-sizes = (step_keeps s c).sizes_are in
    record {
      values = more.values;
      stands = more.stands;
      sizes_are = more.sizes_are ∙ same-sizes;
      latest = (gave_last s last K c, more.latest);
      never_full = λ deep. (finds_room s last K deep c, more.never_full (subst told.Deep (sym same-sizes) deep));
    }

pub every_run_coherent : EveryRunCoherent
every_run_coherent s sizes-wanted values tables accepted calls =
    let o = (opening s sizes-wanted values).after in
    let R = ran calls o (opening_value values) (opening_stands s sizes-wanted values tables accepted) in
    record {
      exclusive = exclusive (run o calls) R.values R.stands;
      latest = R.latest;
      never_full = λ deep. R.never_full (subst told.Deep R.sizes_are deep);
      bounded = bounded (run o calls) R.values R.stands;
      comes_to_rest = comes_to_rest (run o calls) R.values R.stands;
      entries_legal = entries_legal (run o calls) R.values R.stands;
    }

pub coherence : Coherence
coherence = record { every_run_coherent = every_run_coherent; entries_stay_legal = entries_stay_legal }
