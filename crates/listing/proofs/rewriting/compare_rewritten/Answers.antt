use Rattle.std.proofs.Common.{◌≡◌, length, drop, true}
use Rattle.std.proofs.lemmas.Slice.Eq.{starts_is}
use Rattle.std.proofs.lemmas.Bool.Decides.{Decides-eqb}
use Rattle.listing.proofs.rewriting.compare_rewritten.Goals as goal

-- What was written begins with the words: that it does not, does not come to pass.
pub returns-else-starts_with-clause-answer : goal.returns-else-starts_with-clause-answer
returns-else-starts_with-clause-answer c =
    let words = c.args.words.now in
    let same : c.starts_with.result ≡ true =
    (starts_is Decides-eqb _ words _ c.starts_with.ensures.value).1 (drop (length words) c.args.again.now) c.in_ok-rewrite.ensures.same in
    cc
