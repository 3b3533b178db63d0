use Rattle.std.proofs.Common.{◌≡◌, ℕ, ◌<◌, ◌≤◌, arith, List, slice_index, sym, ap, false}
use Rattle.std.proofs.Math.Path.{fun_ext}
use Rattle.std.proofs.lemmas.Bool.Decides.{nat_tests}
use Rattle.std.proofs.lemmas.Grind.{common_steps}
use Rattle.message.specs.Refusals.{accepted}
use Rattle.directory.specs.Sets.{tally}
use Rattle.directory.specs.Directories.{View}
use Rattle.directory.specs.Changes.{add_answer, with_holders}
use Rattle.directory.proofs.Counting.{tally_lt}
use Rattle.full_map.specs.Maps.{map_view}
use Rattle.full_map.specs.Words.{bit, of_words}
use Rattle.full_map.proofs.Bits.{set_lt, bit_set}
use Rattle.full_map.proofs.calls.FullMapDirectory.add.Goals as goal

-- a full map has room for every terminal that it serves
accepts : (ws : List ℕ) (rs ts r t : ℕ) → r < rs → t < ts → ts ≤ 64 → add_answer (of_words ws rs ts) r t ≡ accepted
accepts ws rs ts r t h k l =
    let room : bit (slice_index ws r) t ≡ false → tally (bit (slice_index ws r)) 64 < 64 = tally_lt _ t 64 (omega arith) in
    grind (arith, nat_tests)

pub returns : goal.returns
returns c =
    let m = c.args.self.now in
    let r = c.args.r in
    let t = c.args.t in
    let v : View = map_view m in
    let served : (r < m.records) × (t < m.terminals) = (grind (arith, nat_tests), grind (arith, nat_tests)) in
    let e : add_answer v r t ≡ accepted = accepts m.words m.records m.terminals r t served.0 served.1 (omega arith) in
    record {
      answer = sym e;
      after = ap (with_holders v) (fun_ext (λ q. fun_ext (λ u. let a = bit_set (slice_index m.words r) t u (omega arith) in grind (arith, nat_tests, common_steps))));
    }

pub invariant_of-self : goal.invariant_of-self
invariant_of-self c =
    let m = c.args.self.now in
    let served : c.args.t < m.terminals = grind (arith, nat_tests) in
    let small = set_lt (slice_index m.words c.args.r) m.terminals c.args.t (m.narrow c.args.r) (omega arith) served in
    record { sizes = m.sizes; narrow = λ q. grind (arith, common_steps, m.narrow q); unused = λ q l. grind (arith, common_steps) }
