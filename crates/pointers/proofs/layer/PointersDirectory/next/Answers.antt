use Rattle.std.proofs.Common.{rules, tests, arith, ◌≡◌, ◌≤◌, None, ◌++◌, filter, min, sym, ap, ◌∙◌}
use Rattle.std.specs.List.{reduce}
use Rattle.std.specs.Option.{option_to_list}
use Rattle.std.proofs.lemmas.Iterator.{YieldsList-from_slice}
use Rattle.std.proofs.lemmas.Iterator.Consumers.{YieldsList-at, YieldsList-from_chain, YieldsList-from_filter, YieldsList-from_copied, min_from_yields_List}
use Rattle.std.proofs.lemmas.Iterator.Adapters.{YieldsList-from_once, option_map_id}
use Rattle.std.proofs.lemmas.Bool.Decides.{nat_tests}
use Rattle.directory.specs.Directories.{View, next}
use Rattle.directory.proofs.Finding.{least_is}
use Rattle.pointers.specs.declared.rows.Row.{Row}
use Rattle.pointers.proofs.Unions.{from, next_over, row_found, unserved}
use Rattle.pointers.proofs.layer.PointersDirectory.next.Goals as goal

pub returns-in_err-row : goal.returns-in_err-row
returns-in_err-row g c =
    let p = c.args.self.now in
    let v : View = g.D.Directory.view p.below in
    let absent : v.records ≤ c.args.r = grind (arith, nat_tests) in
    record { answer = c.from_residual.ensures ∙ sym (least_is _ c.args.t 64 None (λ u _ _. unserved v _ c.args.r u (g.met.D.Directory.sound p.below) absent)) }

pub returns : goal.returns
returns g c =
    let p = c.args.self.now in
    let v : View = g.D.Directory.view p.below in
    let s = g.met.D.Directory.sound p.below in
    let r = c.args.r in
    let t = c.args.t in
    let w : Row = c.in_ok-row.row in
    let same = row_found p.table.rows v r w (sym c.row.ensures.value ∙ c.in_ok-row.was) in
    let least : c.min.result ≡ reduce min (filter (from v t) w.numbers ++ option_to_list (next v r t)) =
    sym (option_map_id c.min.result) ∙ min_from_yields_List {v = λ x. x} c.chain.result c.min.result c.min.ensures.ran (YieldsList-from_chain
    (YieldsList-at c.chain.ensures.first (YieldsList-from_filter _ (from v t) (YieldsList-at c.filter.ensures.source (YieldsList-from_copied (YieldsList-from_slice w.numbers (cc)))) c.filter.ensures.closure (λ x b k h. search (rules, tests))))
    (YieldsList-from_once (next v r t) (c.chain.ensures.second.0 ∙ c.next.ensures.answer)) c.chain.ensures.first_done c.chain.ensures.second_done) in
    record {
      answer = least ∙ sym (next_over p.table.rows v r t s.most_terminals
          ∙ ap (λ (x : Row). reduce min (filter (from v t) x.numbers ++ option_to_list (next v r t))) same);
    }
