-- Whatever shape a terminal has, the home expects the oldest message of its lane, and what it does keeps the record's
-- invariant. So the home never drops a message that a call sent.
use Rattle.std.proofs.Common.{◌≡◌, ℕ, ◌<◌, ◌≤◌, Bool, true, false, not, List, [], ◌∷◌, sym, refl, ap, ◌∙◌, subst}
use borrow.Author.Tests.{not-true}
use Rattle.machine.specs.Machine.{Access, reading, writing, Msg, BUSY, Cell, Phase, read_only, read_write, Transaction, Home, home, REQ, REPM, ACKC, UPDATE}
use Rattle.machine.specs.HomeRules.{pop_up, push_down}
use Rattle.machine.specs.Shapes.{to_read, to_write, Idle, quiet, asking, turned_away, holding, asking_again, data_coming, permission_coming, owning, given_back, given_back_asking, Clean, told, told_asking, told_turned_away, data_coming_told, acked, asked_acked, acked_asked, acked_turned_away, Dirty, permission_coming_told, owning_told, given_back_told, given_back_asking_told, update_sent, given_back_acked, given_back_asked_acked, given_back_acked_asked, update_sent_asked, Shape, idle, sharer, owner, requester, clean, dirty, decode, access}
use Rattle.machine.specs.Invariant.{role, owing, has_value, copyless, allowed, RecordInvariant}
use Rattle.machine.proofs.Counts.{clash}
use Rattle.machine.proofs.NewShapes.{Good}
use Rattle.machine.proofs.HomeReadOnly.{read_only_read, read_only_write}
use Rattle.machine.proofs.HomeReadWrite.{read_write_request, read_write_replaced}
use Rattle.machine.proofs.HomeTransaction.{transaction_request, transaction_replaced, transaction_acked, transaction_updated}

module _ {V : Type 0} where
  -- The oldest message of an up lane, if there is one, is good.
  abbrev pub GoodUp : ℕ → ℕ → ℕ → V → Home V → (ℕ → Cell V) → ℕ → List (Msg V) → Type 0
  GoodUp n served limit last entry cells t [] = Unit {0}
  GoodUp n served limit last entry cells t (x ∷ xs) = Good n served limit last entry cells t x

  module _
      (n served limit : ℕ) (last v : V) (a : ℕ) (wide : n ≤ served) (holders : ℕ → Bool) (cells : ℕ → Cell V) (t : ℕ)
      (lt : t < n) where
    -- At a Read-Only record, shape by shape.
    read_only_good : (I : RecordInvariant n last (home read_only v a holders) cells) (s : Shape) → I.shape t ≡ s
        → allowed read_only (holders t) s ≡ true → cells t ≡ decode last s
        → GoodUp n served limit last (home read_only v a holders) cells t (decode last s).up
    read_only_good I (idle quiet) e o c = tt
    read_only_good I (idle (asking reading)) e o c =
        read_only_read n served limit last v a wide holders cells I t lt (ap pop_up c)
    read_only_good I (idle (asking writing)) e o c =
        read_only_write n served limit last v a wide holders cells I t lt false (ap pop_up c)
    read_only_good I (idle (turned_away k)) e o c = tt
    read_only_good I (sharer (holding b)) e o c = tt
    read_only_good I (sharer (asking_again to_read)) e o c =
        read_only_read n served limit last v a wide holders cells I t lt (ap pop_up c)
    read_only_good I (sharer (asking_again (to_write b))) e o c =
        read_only_write n served limit last v a wide holders cells I t lt b (ap pop_up c)
    read_only_good I (sharer data_coming) e o c = tt
    read_only_good I (owner x) e o c = clash o
    read_only_good I (requester x) e o c = clash o
    read_only_good I (clean x) e o c = clash o
    read_only_good I (dirty x) e o c = clash o

    -- At a Read-Write record, shape by shape.
    read_write_good : (I : RecordInvariant n last (home read_write v a holders) cells) (s : Shape) → I.shape t ≡ s
        → allowed read_write (holders t) s ≡ true → cells t ≡ decode last s
        → GoodUp n served limit last (home read_write v a holders) cells t (decode last s).up
    read_write_good I (idle quiet) e o c = tt
    read_write_good I (idle (asking k)) e o c =
        read_write_request n served limit last v a wide holders cells I t lt k (not-true (holders t) o) (ap pop_up c)
    read_write_good I (idle (turned_away k)) e o c = tt
    read_write_good I (owner (permission_coming b)) e o c = tt
    read_write_good I (owner owning) e o c = tt
    read_write_good I (owner given_back) e o c =
        read_write_replaced n served limit last v a wide holders cells I t lt quiet o (ap pop_up c)
    read_write_good I (owner (given_back_asking k)) e o c =
        read_write_replaced n served limit last v a wide holders cells I t lt (asking k) o (ap pop_up c)
    read_write_good I (sharer x) e o c = clash o
    read_write_good I (requester x) e o c = clash o
    read_write_good I (clean x) e o c = clash o
    read_write_good I (dirty x) e o c = clash o

    module _ (k : Access) (I : RecordInvariant n last (home (Transaction k) v a holders) cells) where
      -- A request in a transaction leaves a shape of the same part.
      turn_away : (j : Access) (s z : Shape) → I.shape t ≡ z → push_down true BUSY (pop_up (cells t)) ≡ decode last s
          → role s ≡ role z → (copyless z ≡ true → copyless s ≡ true)
          → Good n served limit last (home (Transaction k) v a holders) cells t (REQ j)
      turn_away j s z e c same-role cl =
          transaction_request n served limit last v a wide k holders cells I t lt j s c (same-role ∙ sym (ap role e))
          (λ h. cl (subst (λ x. copyless x ≡ true) e h))

      -- A replacement in a transaction leaves a clean shape.
      takes_value : (x : Clean) (y : Dirty) → I.shape t ≡ dirty y → not (holders t) ≡ true
          → pop_up (cells t) ≡ decode last (clean x)
          → Good n served limit last (home (Transaction k) v a holders) cells t (REPM last)
      takes_value x y e o c =
          transaction_replaced n served limit last v a wide k holders cells I t lt x (not-true (holders t) o) (ap has_value e)
          (ap owing e) c

      -- An acknowledgement leaves an idle shape.
      takes_ack : (x : Idle) (y : Clean) → I.shape t ≡ clean y → not (holders t) ≡ true
          → pop_up (cells t) ≡ decode last (idle x) → Good n served limit last (home (Transaction k) v a holders) cells t ACKC
      takes_ack x y e o c =
          transaction_acked n served limit last v a wide k holders cells I t lt x (not-true (holders t) o) (ap has_value e) (ap owing e) c

      -- An update leaves an idle shape.
      takes_update : (x : Idle) (y : Dirty) → I.shape t ≡ dirty y → not (holders t) ≡ true
          → pop_up (cells t) ≡ decode last (idle x)
          → Good n served limit last (home (Transaction k) v a holders) cells t (UPDATE last)
      takes_update x y e o c =
          transaction_updated n served limit last v a wide k holders cells I t lt x (not-true (holders t) o) (ap has_value e) (ap owing e) c

      -- In a transaction, shape by shape.
      transaction_good : (s : Shape) → I.shape t ≡ s → allowed (Transaction k) (holders t) s ≡ true → cells t ≡ decode last s
          → GoodUp n served limit last (home (Transaction k) v a holders) cells t (decode last s).up
      transaction_good (idle quiet) e o c = tt
      transaction_good (idle (asking j)) e o c =
          turn_away j (idle (turned_away j)) (idle (asking j)) e (ap (λ x. push_down true BUSY (pop_up x)) c) refl (λ h. h)
      transaction_good (idle (turned_away j)) e o c = tt
      transaction_good (requester x) e o c = tt
      transaction_good (clean (told b)) e o c = tt
      transaction_good (clean (told_asking j)) e o c =
          turn_away (access j) (clean (told_turned_away j)) (clean (told_asking j)) e (ap (λ x. push_down true BUSY (pop_up x)) c)
          refl (λ h. h)
      transaction_good (clean (told_turned_away j)) e o c = tt
      transaction_good (clean data_coming_told) e o c = tt
      transaction_good (clean acked) e o c = takes_ack quiet acked e o (ap pop_up c)
      transaction_good (clean (asked_acked j)) e o c =
          turn_away j (clean (acked_turned_away j)) (clean (asked_acked j)) e (ap (λ x. push_down true BUSY (pop_up x)) c) refl (λ h. h)
      transaction_good (clean (acked_asked j)) e o c = takes_ack (asking j) (acked_asked j) e o (ap pop_up c)
      transaction_good (clean (acked_turned_away j)) e o c = takes_ack (turned_away j) (acked_turned_away j) e o (ap pop_up c)
      transaction_good (dirty (permission_coming_told b)) e o c = tt
      transaction_good (dirty owning_told) e o c = tt
      transaction_good (dirty given_back_told) e o c = takes_value (told false) given_back_told e o (ap pop_up c)
      transaction_good (dirty (given_back_asking_told reading)) e o c =
          takes_value (told_asking to_read) (given_back_asking_told reading) e o (ap pop_up c)
      transaction_good (dirty (given_back_asking_told writing)) e o c =
          takes_value (told_asking (to_write false)) (given_back_asking_told writing) e o (ap pop_up c)
      transaction_good (dirty update_sent) e o c = takes_update quiet update_sent e o (ap pop_up c)
      transaction_good (dirty given_back_acked) e o c = takes_value acked given_back_acked e o (ap pop_up c)
      transaction_good (dirty (given_back_asked_acked j)) e o c =
          takes_value (asked_acked j) (given_back_asked_acked j) e o (ap pop_up c)
      transaction_good (dirty (given_back_acked_asked j)) e o c =
          takes_value (acked_asked j) (given_back_acked_asked j) e o (ap pop_up c)
      transaction_good (dirty (update_sent_asked j)) e o c = takes_update (asking j) (update_sent_asked j) e o (ap pop_up c)
      transaction_good (sharer x) e o c = clash o
      transaction_good (owner x) e o c = clash o

  -- The oldest message of every up lane is good.
  pub home_good : (n served limit : ℕ) (last : V) → n ≤ served → (entry : Home V) (cells : ℕ → Cell V)
      → RecordInvariant n last entry cells → (t : ℕ) → t < n → GoodUp n served limit last entry cells t (cells t).up
  home_good n served limit last wide entry cells I t lt =
      subst
      (λ c. GoodUp n served limit last entry cells t c.up)
      (sym (I.is t lt))
      (go entry.phase entry.value entry.acks entry.holds I)
    where
      go : (ph : Phase) (v : V) (a : ℕ) (holders : ℕ → Bool) (J : RecordInvariant n last (home ph v a holders) cells)
          → GoodUp n served limit last (home ph v a holders) cells t (decode last (J.shape t)).up
      go read_only v a holders J =
          read_only_good n served limit last v a wide holders cells t lt J (J.shape t) refl (J.fit.each t lt) (J.is t lt)
      go read_write v a holders J =
          read_write_good n served limit last v a wide holders cells t lt J (J.shape t) refl (J.fit.each t lt) (J.is t lt)
      go (Transaction k) v a holders J =
          transaction_good n served limit last v a wide holders cells t lt k J (J.shape t) refl (J.fit.each t lt) (J.is t lt)
