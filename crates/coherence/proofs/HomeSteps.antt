-- A home step is that of the machine.
use Rattle.std.proofs.Common.{◌≡◌, ℕ, ◌<◌, Bool, true, false, cond, ltb, List, [], ◌∷◌, Some, None, Option, sym, refl, ap, ◌∙◌, subst, inl, inr, arith, ltb-true, lt-ltb}
use mathlib.Core.Option.{Option as Maybe, none, some}
use Rattle.std.specs.List.{slice_get}
use Rattle.message.specs.declared.Message.{Message}
use Rattle.message.specs.declared.refusals.Refusal.TheVariants.{OutOfTurn, NoSuchTerminal}
use Rattle.message.specs.declared.kinds.Kind.{Kind}
use Rattle.message.specs.Kinds.{kind_of}
use Rattle.network.specs.Traffic.{oldest}
use Rattle.protocol.specs.Scenes.{Ruling, refuses, accepts}
use Rattle.protocol.specs.HomeRules.{ruled}
use Rattle.protocol.specs.HomeSteps.{unchanged, entry_at, scene_at, answered, settled, head_taken}
use Rattle.protocol.specs.Sites.{Site}
use Rattle.protocol.specs.Calls.{with_home, site_home_step}
use Rattle.machine.specs.Site as model
use Rattle.machine.specs.Turns as model_turns
use Rattle.machine.specs.HomeRules as machine_homerules
use Rattle.machine.specs.Machine as machine
use Rattle.machine.specs.Calls as model_calls
use Rattle.machine.specs.Machine.{Home}
use Rattle.machine.specs.HomeRules.{Act}
use Rattle.machine.specs.Site.{Mail, Want, changed}
use Rattle.machine.specs.Turns.{home_acts}
use Rattle.machine.specs.Invariant.{Owed, Invariant}
use Rattle.coherence.proofs.Abstraction.{abs, sizes, each, lanes, up_of, phase_of, up_msg}
use Rattle.coherence.proofs.Changes.{homes_set, lanes_dropped}
use Rattle.coherence.proofs.HomeRules.{Does, does}
use Rattle.coherence.proofs.Simulates.{Simulates, Sized, served}

site_path : {h k : ℕ → Home ℕ} {f : ℕ → ℕ → model.Place ℕ} {w : ℕ → Want} {u v d e : ℕ → List (Mail ℕ)} → h ≡ k → u ≡ v → d ≡ e
    → ◌≡◌ {A = model.Site ℕ} (record { homes = h; place = f; wait = w; up = u; down = d }) (record { homes = k; place = f; wait = w; up = v; down = e })
site_path {f = f} {w = w} a c d = λ i. record { homes = a i; place = f; wait = w; up = c i; down = d i }

module _ (s : Site) (I : Sized s) (t : ℕ) (tn : t < s.home.terminals) (m : Message) (ms : List Message) (e : s.home.up.waiting t ≡ m ∷ ms) where
  abbrev r : ℕ
  r = m.«record»

  abbrev S : model.Site ℕ
  S = abs s

  taken : lanes up_of (Rattle.network.specs.Traffic.after_drop s.home.up t).waiting ≡ changed S.up t (each up_of ms)
  taken = lanes_dropped up_of s.home.up t m ms (omega (arith, (served s I).up_lanes)) e

  out_of_turn : Simulates (with_home s (settled s.home t r (refuses OutOfTurn))) (model_turns.out (model_turns.drop_up S t (each up_of ms)) 6 none)
  out_of_turn = record { site_is = site_path refl taken refl; code_is = refl; value_is = refl }

  acts : m.«record» < s.home.records → (o : Ruling) (a : Act ℕ) → Rattle.coherence.proofs.HomeRules.Acts (scene_at s.home r) r o a
      → Simulates (with_home s (settled s.home t r o)) (model_turns.out (model_turns.after_home S t (up_of m) (each up_of ms) a) 0 none)
  acts rb (refuses c) a D = absurd D
  acts rb (accepts entry holders waiting) a D =
      record {
        site_is =
            site_path
            (homes_set s.home.entries s.home.directory.holders holders r entry (omega (arith, I.entries_long, I.few_records, rb)) D.others_are ∙ ap (changed S.homes r) D.next_is)
            taken
            D.down_is;
        code_is = refl;
        value_is = refl;
      }

  settle_simulates : m.«record» < s.home.records → (o : Ruling) (x : Maybe (Act ℕ)) → Does (scene_at s.home r) r o x
      → Simulates (with_home s (settled s.home t r o)) (home_acts (sizes s) S t (up_of m) (each up_of ms) x)
  settle_simulates rb o none D =
      subst (λ (y : Ruling). Simulates (with_home s (settled s.home t r y)) (home_acts (sizes s) S t (up_of m) (each up_of ms) none)) (sym D) out_of_turn
  settle_simulates rb o (some a) (inl D) = rw D.0 (acts rb o a D.1)
  settle_simulates rb o (some a) (inr D) =
      rw D.0
      (subst (λ (y : Ruling). Simulates (with_home s (settled s.home t r y)) (model_turns.out S 3 none)) (sym D.1)
      (record { site_is = refl; code_is = refl; value_is = refl }))

  -- the home refuses what is not for it
  unknown : (st : Rattle.protocol.specs.declared.HomeState.HomeState) (v a : ℕ) (p : ℕ → Bool) → machine_homerules.on s.home.terminals 64 s.home.directory.limit (phase_of st) v a p t machine.BUSY ≡ none
  unfolding machine_homerules.on_read_only machine_homerules.on_read_write machine_homerules.on_transaction
  unknown Rattle.protocol.specs.declared.HomeState.TheVariants.ReadOnly v a p = refl
  unknown Rattle.protocol.specs.declared.HomeState.TheVariants.ReadWrite v a p = refl
  unknown Rattle.protocol.specs.declared.HomeState.TheVariants.ReadTransaction v a p = refl
  unknown Rattle.protocol.specs.declared.HomeState.TheVariants.WriteTransaction v a p = refl

  pub answer_simulates : m.«record» < s.home.records → Owed (phase_of (entry_at s.home.entries r).state) (entry_at s.home.entries r).awaited
      → Simulates (with_home s (settled s.home t r (answered (kind_of m.opcode) (scene_at s.home r) r t m.value)))
      (home_acts (sizes s) S t (up_of m) (each up_of ms) (machine_homerules.rule s.home.terminals 64 s.home.directory.limit (S.homes r) t (up_msg (kind_of m.opcode) m.value)))
  unfolding answered
  answer_simulates rb z = pick (kind_of m.opcode)
    where
      pick : (k : Option Kind) → Simulates (with_home s (settled s.home t r (answered k (scene_at s.home r) r t m.value)))
          (home_acts (sizes s) S t (up_of m) (each up_of ms) (machine_homerules.rule s.home.terminals 64 s.home.directory.limit (S.homes r) t (up_msg k m.value)))
      pick None =
          subst (λ (x : Maybe (Act ℕ)). Simulates (with_home s (settled s.home t r (refuses OutOfTurn))) (home_acts (sizes s) S t (up_of m) (each up_of ms) x))
          (sym (unknown (entry_at s.home.entries r).state (entry_at s.home.entries r).value (entry_at s.home.entries r).awaited (S.homes r).holds)) out_of_turn
      pick (Some k) =
          settle_simulates rb (ruled k (scene_at s.home r) r t m.value) (machine_homerules.rule s.home.terminals 64 s.home.directory.limit (S.homes r) t (up_msg (Some k) m.value))
          (does s.home.terminals s.home.directory s.home.down I.few_terminals r t tn
          (omega (arith, (served s I).records, rb)) (omega (arith, (served s I).terminals))
          (entry_at s.home.entries r).state k (entry_at s.home.entries r).value (entry_at s.home.entries r).awaited m.value z)

head_simulates : (s : Site) (last : ℕ → ℕ) → Sized s → Invariant (sizes s) (abs s) last → (t : ℕ) → t < s.home.terminals → (xs : List Message) → s.home.up.waiting t ≡ xs
    → Simulates (with_home s (head_taken s.home t (slice_get xs 0))) (model_turns.home_lane (sizes s) (abs s) t (each up_of xs))
head_simulates s last I J t tn [] e = record { site_is = refl; code_is = refl; value_is = refl }
head_simulates s last I J t tn (m ∷ ms) e = pick (ltb m.«record» s.home.records) refl
  where
    pick : (b : Bool) → ltb m.«record» s.home.records ≡ b
        → Simulates (with_home s (cond b (settled s.home t m.«record» (answered (kind_of m.opcode) (scene_at s.home m.«record») m.«record» t m.value)) (settled s.home t m.«record» (refuses OutOfTurn))))
        (cond b (home_acts (sizes s) (abs s) t (up_of m) (each up_of ms) (machine_homerules.rule s.home.terminals 64 s.home.directory.limit ((abs s).homes m.«record») t (up_msg (kind_of m.opcode) m.value))) (model_turns.out (model_turns.drop_up (abs s) t (each up_of ms)) 6 none))
    pick true f =
        let rb = ltb-true m.«record» s.home.records f in
        answer_simulates s I t tn m ms e rb (J.each m.«record» rb).fit.owed
    pick false f = out_of_turn s I t tn m ms e

pub home_step_simulates : (s : Site) (last : ℕ → ℕ) → Sized s → Invariant (sizes s) (abs s) last → (t : ℕ) → Simulates (site_home_step s t) (model_calls.step (sizes s) (abs s) (model_calls.home_turn t))
unfolding model_calls.step model_turns.home_step
home_step_simulates s last I J t = rw (I.row_long, I.parts_large) (pick (ltb t s.home.terminals) refl)
  where
    pick : (b : Bool) → ltb t s.home.terminals ≡ b
        → Simulates (with_home s (cond b (head_taken s.home t (oldest s.home.up t)) (unchanged NoSuchTerminal s.home))) (cond b (model_turns.home_lane (sizes s) (abs s) t ((abs s).up t)) (model_turns.out (abs s) 7 none))
    pick true e =
        let tn = ltb-true t s.home.terminals e in
        rw (lt-ltb t s.home.up.lanes (omega (arith, (served s I).up_lanes))) (head_simulates s last I J t tn (s.home.up.waiting t) refl)
    pick false e = record { site_is = refl; code_is = refl; value_is = refl }
