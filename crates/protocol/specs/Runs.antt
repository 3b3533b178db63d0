-- Lists of calls: what they leave, what they answer, and which values they write.
use Rattle.std.specs.Prelude.{ℕ, cond, List, [], ◌∷◌, Some, None, Option, ◌==◌}
use Rattle.protocol.specs.declared.Code.{Code}
use Rattle.protocol.specs.Codes.{accepted}
use Rattle.protocol.specs.declared.Call.{Call}
use Rattle.protocol.specs.declared.Call.TheVariants.{Read, Write, Release, HomeStep, TerminalStep}
use Rattle.protocol.specs.Sites.{Site}
use Rattle.protocol.specs.Calls.{step}

-- A call answers a code and a value.
abbrev pub Answer : Type 0
Answer = Code × ℕ

-- The site after a list of calls.
unfoldable pub run : Site → List Call → Site
run site [] = site
run site (call ∷ calls) = run (step site call).after calls

-- What the calls of a list answer, in their order.
unfoldable pub answers : Site → List Call → List Answer
answers site [] = []
answers site (call ∷ calls) = ((step site call).code, (step site call).value) ∷ answers (step site call).after calls

-- Which record took which value through a call with its answer, if any did: an accepted write.
abbrev pub effect : Call → Answer → Option (ℕ × ℕ)
effect (Read t r) answer = None
effect (Write t r v) answer = cond (accepted answer.0) (Some (r, v)) None
effect (Release t r) answer = None
effect (HomeStep t) answer = None
effect (TerminalStep t) answer = None

-- The last value of each record after an effect.
abbrev pub with_effect : (ℕ → ℕ) → Option (ℕ × ℕ) → ℕ → ℕ
with_effect last None = last
with_effect last (Some (r, v)) = λ x. cond (x == r) v (last x)
