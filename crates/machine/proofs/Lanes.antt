-- What a lane holds about one record: its own messages in their order, and nothing of others. By this each record sees
-- the lanes that all records share as lanes of its own.
use Rattle.std.proofs.Common.{◌≡◌, ℕ, Bool, true, false, cond, List, [], ◌∷◌, ◌++◌, refl, ap, ◌∙◌}
use Rattle.machine.specs.Machine.{same, Msg}
use Rattle.machine.specs.Site.{Mail, mail, mails, messages_about}
use Rattle.machine.proofs.Counts.{same_refl, same_no}

module _ {V : Type 0} where
  -- Of two lanes in a row, what each holds.
  pub about-++ : (r : ℕ) (xs ys : List (Mail V)) → messages_about r (xs ++ ys) ≡ messages_about r xs ++ messages_about r ys
  unfolding messages_about
  about-++ r [] ys = refl
  about-++ r (x ∷ xs) ys = rw (about-++ r xs ys) (go (same x.of r))
    where
      go : (b : Bool)
          → cond b (x.msg ∷ (messages_about r xs ++ messages_about r ys)) (messages_about r xs ++ messages_about r ys)
          ≡ cond b (x.msg ∷ messages_about r xs) (messages_about r xs) ++ messages_about r ys
      go true = refl
      go false = refl

  -- A message about the record is the first.
  pub about_mine : (r : ℕ) (m : Msg V) (xs : List (Mail V)) → messages_about r (mail r m ∷ xs) ≡ m ∷ messages_about r xs
  unfolding messages_about
  about_mine r m xs = rw (same_refl r) refl

  -- A message about another is not there.
  pub about_other : (r x : ℕ) (m : Msg V) (xs : List (Mail V)) → (x ≡ r → ⊥)
      → messages_about r (mail x m ∷ xs) ≡ messages_about r xs
  unfolding messages_about
  about_other r x m xs d = rw (same_no x r d) refl

  -- A message about the record is put last.
  pub push_mine : (r : ℕ) (m : Msg V) (xs : List (Mail V))
      → messages_about r (xs ++ (mail r m ∷ [])) ≡ messages_about r xs ++ (m ∷ [])
  unfolding messages_about
  push_mine r m xs = rw (about-++ r xs (mail r m ∷ []), same_refl r) refl

-- Nothing put behind a list leaves it.
pub append_none : {A : Type 0} (xs : List A) → xs ++ [] ≡ xs
append_none [] = refl
append_none (x ∷ xs) = ap (λ ys. x ∷ ys) (append_none xs)

module _ {V : Type 0} where
  -- Putting a message about another changes nothing.
  pub push_other : (r x : ℕ) (m : Msg V) (xs : List (Mail V)) → (x ≡ r → ⊥)
      → messages_about r (xs ++ (mail x m ∷ [])) ≡ messages_about r xs
  unfolding messages_about
  push_other r x m xs d = rw (about-++ r xs (mail x m ∷ []), same_no x r d) (append_none (messages_about r xs))

  -- Messages about the record are all there.
  pub mails_mine : (r : ℕ) (ms : List (Msg V)) → messages_about r (mails r ms) ≡ ms
  unfolding messages_about
  mails_mine r [] = refl
  mails_mine r (m ∷ ms) = rw (same_refl r) (ap (λ ys. m ∷ ys) (mails_mine r ms))

  -- Messages about another are not.
  pub mails_other : (r x : ℕ) (ms : List (Msg V)) → (x ≡ r → ⊥) → messages_about r (mails x ms) ≡ []
  unfolding messages_about
  mails_other r x [] d = refl
  mails_other r x (m ∷ ms) d = rw (same_no x r d) (mails_other r x ms d)

  -- Messages about the record are put last.
  pub sent_mine : (r : ℕ) (ms : List (Msg V)) (xs : List (Mail V))
      → messages_about r (xs ++ mails r ms) ≡ messages_about r xs ++ ms
  sent_mine r ms xs = about-++ r xs (mails r ms) ∙ ap (λ ys. messages_about r xs ++ ys) (mails_mine r ms)

  -- Putting messages about another changes nothing.
  pub sent_other : (r x : ℕ) (ms : List (Msg V)) (xs : List (Mail V)) → (x ≡ r → ⊥)
      → messages_about r (xs ++ mails x ms) ≡ messages_about r xs
  sent_other r x ms xs d =
      about-++ r xs (mails x ms) ∙ (ap (λ ys. messages_about r xs ++ ys) (mails_other r x ms d) ∙ append_none (messages_about r xs))
