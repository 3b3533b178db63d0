-- What a full map means, and which are made.
use Rattle.std.specs.Prelude.{◌≡◌, ℕ, Bool, true, false, ◌&&◌, Result, MatchResult}
use Rattle.message.specs.declared.refusals.Refusal.{Refusal}
use Rattle.message.specs.declared.refusals.Refusal.TheVariants.{Unfit}
use Rattle.directory.specs.Directories.{View, size_fits, empty}
use Rattle.full_map.specs.Words.{of_words}
use Rattle.full_map.specs.declared.FullMap.{FullMap}

-- The holders and the sizes of a full map.
abbrev pub map_view : FullMap → View
map_view m = of_words m.words m.records m.terminals

-- Both sizes are from 1 to 64.
abbrev pub sizes_fit : ℕ → ℕ → Bool
sizes_fit records terminals = size_fits records && size_fits terminals

-- Where the sizes fit, an empty map of these sizes is made; else they are refused.
abbrev pub Makes : ℕ → ℕ → Result FullMap Refusal → Type 0
Makes records terminals made =
    MatchResult made
    (λ m. (sizes_fit records terminals ≡ true) × (map_view m ≡ empty records terminals 64))
    (λ refusal. (sizes_fit records terminals ≡ false) × (refusal ≡ Unfit))
