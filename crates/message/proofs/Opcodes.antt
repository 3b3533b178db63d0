-- Kinds and opcodes stand for each other.
use Rattle.std.proofs.Common.{◌≡◌, ℕ, ◌^◌, ◌<◌, Bool, true, false, cond, eqb, List, [], ◌∷◌, Some, Option, refl, arith}
use Rattle.std.proofs.lemmas.Bool.{eqb-true}
use Rattle.message.specs.declared.kinds.Kind.{Kind}
use Rattle.message.specs.declared.kinds.Kind.TheVariants.{ReadRequest, WriteRequest, Replacement, Update, Acknowledgement, ReadData, WriteData, Invalidate, Busy}
use Rattle.message.specs.Kinds.{opcode_of, kind_among, all_kinds, kind_of}

-- The kind of a kind's opcode is that kind.
pub kind_of_opcode : (k : Kind) → kind_of (opcode_of k) ≡ Some k
kind_of_opcode ReadRequest = refl
kind_of_opcode WriteRequest = refl
kind_of_opcode Replacement = refl
kind_of_opcode Update = refl
kind_of_opcode Acknowledgement = refl
kind_of_opcode ReadData = refl
kind_of_opcode WriteData = refl
kind_of_opcode Invalidate = refl
kind_of_opcode Busy = refl

found_among : (test : Bool) (opcode : ℕ) (k x : Kind) (rest : Option Kind)
    → eqb opcode (opcode_of x) ≡ test → (rest ≡ Some k → opcode_of k ≡ opcode) → cond test (Some x) rest ≡ Some k → opcode_of k ≡ opcode
found_among true opcode k x rest test later here = let same = eqb-true opcode (opcode_of x) test in cc
found_among false opcode k x rest test later here = later here

among : (ks : List Kind) (opcode : ℕ) (k : Kind) → kind_among ks opcode ≡ Some k → opcode_of k ≡ opcode
among [] opcode k here = absurd (let z : ◌≡◌ {A = ℕ} 0 1 = cc in omega arith)
among (x ∷ xs) opcode k here = found_among (eqb opcode (opcode_of x)) opcode k x (kind_among xs opcode) refl (among xs opcode k) here

-- The opcode of the kind of an opcode is that opcode.
pub opcode_of_kind : (opcode : ℕ) (k : Kind) → kind_of opcode ≡ Some k → opcode_of k ≡ opcode
opcode_of_kind = among all_kinds

-- An opcode fits its eight bits of a header.
pub opcode_small : (k : Kind) → opcode_of k < 2 ^ 8
opcode_small ReadRequest = omega arith
opcode_small WriteRequest = omega arith
opcode_small Replacement = omega arith
opcode_small Update = omega arith
opcode_small Acknowledgement = omega arith
opcode_small ReadData = omega arith
opcode_small WriteData = omega arith
opcode_small Invalidate = omega arith
opcode_small Busy = omega arith
