-- Along every list of calls the machine's invariant holds of the machine's view.
use Rattle.std.proofs.Common.{◌≡◌, ℕ, ◌*◌, Bool, true, false, cond, ◌&&◌, ltb, leb, length, Some, None, Option, sym, refl, ap, ◌∙◌, subst, length-set}
use mathlib.Core.Path.{fun_ext}
use Rattle.message.specs.declared.Message.{Message}
use Rattle.protocol.specs.declared.Code.{Code}
use Rattle.message.specs.declared.refusals.Refusal.TheVariants.{OutOfTurn, NoSuchTerminal, Unfit}
use Rattle.protocol.specs.Codes.{number, accepted}
use Rattle.message.specs.Kinds.{kind_of}
use Rattle.network.specs.Traffic.{oldest}
use Rattle.protocol.specs.declared.Call.{Call}
use Rattle.protocol.specs.declared.Call.TheVariants.{Read, Write, Release, HomeStep, TerminalStep}
use Rattle.protocol.specs.Scenes as ruling
use Rattle.protocol.specs.Scenes.{Ruling}
use Rattle.protocol.specs.HomeSteps.{Given, unchanged, takes_off, scene_at, answered, settled, head_taken, parts_serve, up_taken}
use Rattle.protocol.specs.Seats.{Turn, refuses, moves}
use Rattle.protocol.specs.TerminalRules.{read_turn, write_turn, release_turn, heard_as}
use Rattle.protocol.specs.Sites.{Site, spot, place_for, seat_at, row_fits, fits}
use Rattle.protocol.specs.Calls.{at_terminal, of_record, turned, stepped, message_heard, down_taken, with_home, site_home_step, step}
use Rattle.protocol.specs.Runs.{Answer, effect, with_effect}
use Rattle.machine.specs.Site as model
use Rattle.machine.specs.Calls as model_calls
use Rattle.machine.specs.Machine.{same}
use Rattle.machine.specs.Invariant.{Invariant}
use Rattle.machine.proofs.Steps.{step_kept}
use Rattle.coherence.proofs.Abstraction.{abs, sizes, call_of}
use Rattle.coherence.proofs.Changes.{flip}
use Rattle.coherence.proofs.Simulates.{Simulates, Sized}
use Rattle.coherence.proofs.HomeSteps.{home_step_simulates}
use Rattle.coherence.proofs.TerminalCalls.{read_simulates, write_simulates, release_simulates, terminal_step_simulates}

-- What no call changes: the sizes of the site and of its parts, and how long its lists are.
pub record Unmoved (s s' : Site) : Type 0 where
  pub sizes_are : sizes s' ≡ sizes s
  pub parts_are : parts_serve s'.home ≡ parts_serve s.home
  pub entries_are : length s'.home.entries ≡ length s.home.entries
  pub waits_are : length s'.waits ≡ length s.waits
  pub row_is : length s'.row ≡ length s.row

abbrev Keeps : Site → Given Site → Type 0
Keeps s o = Unmoved s o.after

still : (s : Site) → Unmoved s s
still s = record { sizes_are = refl; parts_are = refl; entries_are = refl; waits_are = refl; row_is = refl }

either : (s : Site) (b : Bool) (o o' : Given Site) → Keeps s o → Keeps s o' → Keeps s (cond b o o')
either s true o o' x y = x
either s false o o' x y = y

at_keeps : (s : Site) (t : ℕ) (o : Given Site) → Keeps s o → Keeps s (at_terminal s t o)
at_keeps s t o x = either s (fits s) _ _ (either s (ltb t s.home.terminals) _ _ x (still s)) (still s)

of_keeps : (s : Site) (r : ℕ) (o : Given Site) → Keeps s o → Keeps s (of_record s r o)
of_keeps s r o x = either s (ltb r s.home.records) _ _ x (still s)

turned_keeps : (s : Site) (t r : ℕ) (o : Turn) → Keeps s (turned s t r o)
turned_keeps s t r (refuses c) = still s
turned_keeps s t r (moves c v place wait waiting) =
    record { sizes_are = refl; parts_are = refl; entries_are = refl; waits_are = length-set s.waits t wait; row_is = length-set s.row (spot s t (place_for s r)) place }

stepped_keeps : (s : Site) (t r : ℕ) (o : Turn) → Keeps s (stepped s t r o)
stepped_keeps s t r (refuses c) = pick (takes_off c)
  where
    pick : (b : Bool) → Unmoved s (cond b (down_taken s t) s)
    pick true = record { sizes_are = refl; parts_are = refl; entries_are = refl; waits_are = refl; row_is = refl }
    pick false = still s
stepped_keeps s t r (moves c v place wait waiting) =
    record { sizes_are = refl; parts_are = refl; entries_are = refl; waits_are = length-set s.waits t wait; row_is = length-set s.row (spot s t (place_for s r)) place }

heard_keeps : (s : Site) (t : ℕ) (x : Option Message) → Keeps s (message_heard s t x)
heard_keeps s t None = still s
heard_keeps s t (Some m) =
    either s (ltb m.«record» s.home.records) _ _
    (stepped_keeps s t m.«record» (heard_as (kind_of m.opcode) (seat_at s t m.«record») t m.«record» m.value))
    (stepped_keeps s t m.«record» (refuses OutOfTurn))

settled_keeps : (s : Site) (t r : ℕ) (o : Ruling) → Keeps s (with_home s (settled s.home t r o))
settled_keeps s t r (ruling.refuses c) = pick (takes_off c)
  where
    pick : (b : Bool) → Unmoved s (record { home = cond b (up_taken s.home t) s.home; places = s.places; waits = s.waits; row = s.row })
    pick true = record { sizes_are = refl; parts_are = refl; entries_are = refl; waits_are = refl; row_is = refl }
    pick false = still s
settled_keeps s t r (ruling.accepts entry holders waiting) =
    record { sizes_are = refl; parts_are = refl; entries_are = length-set s.home.entries r entry; waits_are = refl; row_is = refl }

taken_keeps : (s : Site) (t : ℕ) (x : Option Message) → Keeps s (with_home s (head_taken s.home t x))
taken_keeps s t None = still s
taken_keeps s t (Some m) = pick (ltb m.«record» s.home.records)
  where
    r : ℕ
    r = m.«record»

    pick : (b : Bool) → Keeps s (with_home s (cond b (settled s.home t m.«record» (answered (kind_of m.opcode) (scene_at s.home m.«record») m.«record» t m.value)) (settled s.home t m.«record» (ruling.refuses OutOfTurn))))
    pick true = settled_keeps s t r (answered (kind_of m.opcode) (scene_at s.home r) r t m.value)
    pick false = settled_keeps s t r (ruling.refuses OutOfTurn)

home_keeps : (s : Site) (t : ℕ) → Keeps s (site_home_step s t)
home_keeps s t = either s (row_fits s) _ _ (pick (parts_serve s.home) (ltb t s.home.terminals)) (still s)
  where
    pick : (b c : Bool) → Keeps s (with_home s (cond b (cond c (head_taken s.home t (oldest s.home.up t)) (unchanged NoSuchTerminal s.home)) (unchanged Unfit s.home)))
    pick true true = taken_keeps s t (oldest s.home.up t)
    pick true false = still s
    pick false c = still s

pub step_keeps : (s : Site) (c : Call) → Keeps s (step s c)
step_keeps s (Read t r) = at_keeps s t _ (of_keeps s r _ (turned_keeps s t r (read_turn (seat_at s t r) t r)))
step_keeps s (Write t r v) = at_keeps s t _ (of_keeps s r _ (turned_keeps s t r (write_turn (seat_at s t r) t r v)))
step_keeps s (Release t r) = at_keeps s t _ (of_keeps s r _ (turned_keeps s t r (release_turn (seat_at s t r) t r)))
step_keeps s (HomeStep t) = home_keeps s t
step_keeps s (TerminalStep t) = at_keeps s t _ (heard_keeps s t (oldest s.home.down t))

sized_still : (s s' : Site) → Unmoved s s' → Sized s → Sized s'
sized_still s s' K I =
    let n = ap (λ (Z : model.Sizes). Z.n) K.sizes_are in
    let b = ap (λ (Z : model.Sizes). Z.b) K.sizes_are in
    let l = ap (λ (Z : model.Sizes). Z.l) K.sizes_are in
    record {
      row_long = ap (λ (Z : model.Sizes). leb (Z.n * Z.l) (length s'.row)) K.sizes_are ∙ ap (leb (s.home.terminals * s.places)) K.row_is ∙ I.row_long;
      parts_large = K.parts_are ∙ I.parts_large;
      entries_long = K.entries_are ∙ I.entries_long;
      waits_long = K.waits_are ∙ I.waits_long;
      few_terminals = rw n I.few_terminals;
      few_records = rw b I.few_records;
      some_place = rw l I.some_place;
    }

pub step_simulates : (s : Site) (last : ℕ → ℕ) → Sized s → Invariant (sizes s) (abs s) last → (c : Call) → Simulates (step s c) (model_calls.step (sizes s) (abs s) (call_of c))
step_simulates s last I J (Read t r) = read_simulates s last I J t r
step_simulates s last I J (Write t r v) = write_simulates s last I J t r v
step_simulates s last I J (Release t r) = release_simulates s last I J t r
step_simulates s last I J (HomeStep t) = home_step_simulates s last I J t
step_simulates s last I J (TerminalStep t) = terminal_step_simulates s last I J t

-- What a call writes is what the machine notes.
effect_is : (c : Call) (code : Code) (v : ℕ) (last : ℕ → ℕ) → with_effect last (effect c (code, v)) ≡ model_calls.effect (call_of c) (number code) last
effect_is (Read t r) code v last = refl
effect_is (Write t r w) code v last = pick (accepted code)
  where
    pick : (b : Bool) → with_effect last (cond b (Some (r, w)) None) ≡ (λ x. cond (b && same r x) w (last x))
    pick true = fun_ext (λ x. ap (λ (y : Bool). cond y w (last x)) (flip r x))
    pick false = refl
effect_is (Release t r) code v last = refl
effect_is (HomeStep t) code v last = refl
effect_is (TerminalStep t) code v last = refl

-- What holds of an open site after any list of calls, where last has the values that its records took last.
pub record Stands (s : Site) (last : ℕ → ℕ) : Type 0 where
  pub sized : Sized s
  pub kept : Invariant (sizes s) (abs s) last

abbrev pub answer_to : Site → Call → Answer
answer_to s c = ((step s c).code, (step s c).value)

pub step_stands : (s : Site) (last : ℕ → ℕ) → Stands s last → (c : Call) → Stands (step s c).after (with_effect last (effect c (answer_to s c)))
step_stands s last K c =
    let M = step_simulates s last K.sized K.kept c in
    let A = model_calls.step (sizes s) (abs s) (call_of c) in
    let U = step_keeps s c in
    let e : model_calls.effect (call_of c) A.code last ≡ with_effect last (effect c (answer_to s c)) =
    ap (λ (k : ℕ). model_calls.effect (call_of c) k last) (sym M.code_is) ∙ sym (effect_is c (step s c).code (step s c).value last) in
    record {
      sized = sized_still s (step s c).after U K.sized;
      kept =
          subst (λ (Z : model.Sizes). Invariant Z (abs (step s c).after) (with_effect last (effect c (answer_to s c)))) (sym U.sizes_are)
          (subst (λ (x : ℕ → ℕ). Invariant (sizes s) (abs (step s c).after) x) e
          (subst (λ (X : model.Site ℕ). Invariant (sizes s) X (model_calls.effect (call_of c) A.code last)) (sym M.site_is) (step_kept (sizes s) (abs s) last K.kept (call_of c))));
    }
