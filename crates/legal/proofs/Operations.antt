-- Every operation leaves a legal home where it found one, whatever parts come with it; a new site has one. So every entry is
-- legal at all times.
use Rattle.std.proofs.Common.{◌≡◌, ℕ, ◌≤◌, true, leb, List, [], ◌∷◌, arith}
use Rattle.std.proofs.lemmas.Bool.{cond_both, and_parts, leb-true}
use Rattle.directory.specs.Directories.{size_fits}
use Rattle.protocol.specs.Sites.{Site}
use Rattle.protocol.specs.declared.Sizes.{Sizes}
use Rattle.protocol.specs.Opening.{sizes_fit, may_open, opening}
use Rattle.protocol.specs.Legal.{Operation, to_open, to_call, Parts, with_parts, operation, operated, new_site}
use Rattle.protocol.specs.Coherence.{EntriesStayLegal}
use Rattle.legal.proofs.Tables.{blank_legal, opened_legal}
use Rattle.legal.proofs.Homes.{LegalHome}
use Rattle.legal.proofs.Calls.{LeavesLegalSite, step_legal}

-- a site that is opened has at most 64 terminals
few_terminals : (site : Site) (sizes : Sizes) (values : List ℕ) → may_open site sizes values ≡ true → sizes.terminals ≤ 64
few_terminals site sizes values may =
    let fit = (and_parts (sizes_fit sizes) _ may).0 in
    let terminals-fit = (and_parts (size_fits sizes.terminals) _ fit).0 in
    leb-true sizes.terminals 64 (and_parts (leb 1 sizes.terminals) _ terminals-fit).1

-- an opening, refused or accepted
opening_legal : (site : Site) (sizes : Sizes) (values : List ℕ) → LegalHome site.home → LeavesLegalSite (opening site sizes values)
unfolding opening
opening_legal site sizes values before =
    cond_both (may_open site sizes values) _ _ LeavesLegalSite
    (λ may. record {
      home =
          record {
            entries = opened_legal site.home.entries values sizes.records before.entries;
            size = few_terminals site sizes values may;
          };
    })
    (λ _. record { home = before })

operation_legal : (site : Site) (asked : Operation) → LegalHome site.home → LeavesLegalSite (operation site asked)
operation_legal site (to_open sizes values) before = opening_legal site sizes values before
operation_legal site (to_call call) before = step_legal site before call

-- other parts leave the entries and the sizes as they are
operated_legal : (site : Site) (operations : List (Operation × Parts)) → LegalHome site.home → LegalHome (operated site operations).home
unfolding operated
operated_legal site [] before = before
operated_legal site (asked ∷ more) before =
    let handed-in : LegalHome (with_parts site asked.1).home = record { entries = before.entries; size = before.size } in
    operated_legal (operation (with_parts site asked.1) asked.0).after more
    (operation_legal (with_parts site asked.1) asked.0 handed-in).home

pub entries_stay_legal : EntriesStayLegal
entries_stay_legal parts operations =
    (operated_legal (new_site parts) operations (record { entries = blank_legal 64; size = omega arith })).entries
