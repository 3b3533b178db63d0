use Rattle.std.proofs.Common.{◌<◌, ap, ◌∙◌, arith}
use Rattle.std.proofs.lemmas.Bool.Decides.{nat_tests}
use Rattle.directory.specs.Directories.{View}
use Rattle.directory.specs.Changes.{added}
use Rattle.directory_client.proofs.HandOver.{add_accepted, hands_over}
use Rattle.directory_client.proofs.hand_over.Goals as goal

pub returns : goal.returns
returns g c =
    let v : View = g.D.Directory.view c.args.d.now in
    let s = g.met.D.Directory.sound c.args.d.now in
    let served : (c.args.r < v.records) × (c.args.t < v.terminals) = (grind (arith, nat_tests), grind (arith, nat_tests)) in
    let accepted = add_accepted v c.args.r c.args.t s served.0 served.1 in
    let alone = hands_over v c.args.r c.args.t s served.0 served.1 in
    record { answer = grind (arith, nat_tests); after = c.add.ensures.after ∙ ap (λ (w : View). added w c.args.r c.args.t) c.clear.ensures.after ∙ alone }
