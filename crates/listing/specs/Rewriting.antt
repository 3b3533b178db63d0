-- What comes of writing words again.
use Rattle.std.specs.Prelude.{ℕ, List, Ok, Err, codes, Result}
use Rattle.packet.specs.declared.Fault.{Fault}
use Rattle.listing.specs.declared.rewriting.Rewritten.{Rewritten}
use Rattle.listing.specs.declared.rewriting.Rewritten.TheVariants.{Same, Different}

-- Where the walk comes to the end, the words are the same; else its fault stands.
abbrev pub compared : Result ℕ Fault → Result Rewritten Fault
compared (Ok count) = Ok Same
compared (Err f) = Err f

-- What is printed of it.
abbrev pub rewriting_text : Rewritten → List ℕ
rewriting_text Same = codes "written again: the same words"
rewriting_text Different = codes "written again: other words"
