-- Two puts to two lanes do not touch each other.
use Rattle.std.proofs.Common.{◌≡◌, ℕ, List, [], ◌∷◌, ◌++◌, sym, refl, ap, ◌∙◌}
use Rattle.message.specs.declared.Message.{Message}
use Rattle.message.specs.Refusals.{Answer}
use Rattle.network.proofs.Clients.{put_code_at, put_elsewhere, put_here}
use Rattle.network.specs.Traffic.{Traffic, after_put, put_answer}
use Rattle.network_client.specs.Pairs.{Apart}

pub puts_apart : (before after : Traffic) (first : ℕ) (x : Message) (second : ℕ) (y : Message) (answers : Answer × Answer) → answers.0 ≡ put_answer before first x
    → answers.1 ≡ put_answer (after_put before first x) second y → after ≡ after_put (after_put before first x) second y
    → (first ≡ second → ⊥) → Apart before after first x second y answers
puts_apart before after first x second y answers one other is apart =
    let between = after_put before first x in
    let there : (k : ℕ) → (k ≡ second → ⊥) → after.waiting k ≡ between.waiting k =
    λ k differ. ap (λ (t : Traffic). t.waiting k) is ∙ put_elsewhere between second k y differ in
    let second-before : between.waiting second ≡ before.waiting second = put_elsewhere before first second x (λ same. apart (sym same)) in
    record {
      alone = other ∙ put_code_at between before second y refl refl second-before;
      one = λ took. there first apart ∙ put_here before first x (sym one ∙ took);
      other = λ took. ap (λ (t : Traffic). t.waiting second) is ∙ put_here between second y (sym other ∙ took) ∙ ap (λ (ms : List Message). ms ++ y ∷ []) second-before;
      rest = λ k not_first not-second. there k not-second ∙ put_elsewhere before first k x not_first;
    }
