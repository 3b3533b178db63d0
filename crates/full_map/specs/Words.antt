-- A set of terminals as the bits of a word.
use Rattle.std.specs.Prelude.{◌≡◌, ℕ, ◌^◌, ◌<◌, ◌≤◌, Bool, List, ◌==◌, slice_index}
use Rattle.std.specs.Int.{bit_at}
use Rattle.directory.specs.Directories.{View}

-- Whether bit t of a word is set.
abbrev pub bit : ℕ → ℕ → Bool
bit word t = bit_at word t == 1

-- What words mean, one for each record: terminal t is a holder where bit t is set. The limit is 64.
abbrev pub of_words : List ℕ → ℕ → ℕ → View
of_words words records terminals =
    record { holders = λ r t. bit (slice_index words r) t; records = records; terminals = terminals; limit = 64 }

-- No word has a bit set at or above the number of terminals.
abbrev pub Narrow : List ℕ → ℕ → Type 0
Narrow words terminals = (r : ℕ) → slice_index words r < 2 ^ terminals

-- The words of records that are not served are 0.
abbrev pub Unused : List ℕ → ℕ → Type 0
Unused words records = (r : ℕ) → records ≤ r → slice_index words r ≡ 0
