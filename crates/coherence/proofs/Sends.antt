-- What the home sends, and the holders that it leaves, in the rules and in the machine.
use Rattle.std.proofs.Common.{◌≡◌, ℕ, zero, suc, ◌<◌, ◌≤◌, Bool, true, false, cond, not, ◌&&◌, ◌||◌, ltb, List, [], ◌∷◌, ◌++◌, length, sym, refl, ap, ◌∙◌, ap₂, ⊎_elim, arith, le-ltb, lt-ltb, eq-eqb, ne_eqb}
use mathlib.Core.Path.{fun_ext}
use Rattle.std.proofs.lemmas.Bool.{cond-false, cases_lt}
use Rattle.message.specs.declared.Message.{Message}
use Rattle.directory.specs.Directories.{Holders}
use Rattle.directory.specs.Changes.{joined, emptied}
use Rattle.directory_client.specs.Clients.{alone}
use Rattle.network.specs.Traffic.{Traffic}
use Rattle.protocol.specs.Sends as law
use Rattle.protocol.specs.Sends.{has_room, all_below, each_has_room, sent_to_each}
use Rattle.machine.specs.Machine.{same, besides, join, nobody}
use Rattle.machine.specs.Site.{Mail}
use Rattle.machine.specs.Turns.{room}
use Rattle.machine.proofs.Counts.{Same, eq, ne, view, same_no}
use Rattle.coherence.proofs.Abstraction.{within, each, lanes}
use Rattle.coherence.proofs.Changes.{flip, each_length, each_append, lanes_sent}
use Rattle.coherence.proofs.Holders.{other_is}

pub room_none : (d : ℕ) (f : ℕ → List (Mail ℕ)) (n : ℕ) (p : ℕ → Bool) → ((u : ℕ) → u < n → p u ≡ false) → room d f n p ≡ true
unfolding room
room_none d f zero p h = refl
room_none d f (suc n) p h = rw (h n (omega arith)) (room_none d f n p (λ u l. h u (omega arith)))

pub room_one : (g : Message → Mail ℕ) (traffic : Traffic) (n i : ℕ) → i < n → room traffic.depth (lanes g traffic.waiting) n (same i) ≡ has_room traffic i
unfolding room
room_one g traffic zero i l = absurd (omega arith)
room_one g traffic (suc n) i l = go (same i n) (view i n) (room_one g traffic n i)
  where
    d : ℕ
    d = traffic.depth

    f : ℕ → List Message
    f = traffic.waiting

    and_true : (b : Bool) → (b && true) ≡ b
    and_true true = refl
    and_true false = refl

    go : (b : Bool) → Same i n b → (i < n → room d (lanes g f) n (same i) ≡ ltb (length (f i)) d) → (cond b (ltb (length (lanes g f n)) d) true && room d (lanes g f) n (same i)) ≡ ltb (length (f i)) d
    go true (eq e) ih =
        rw (room_none d (lanes g f) n (same i) (λ u k. same_no i u (λ z. omega arith)), and_true (ltb (length (lanes g f n)) d), each_length g (f n)) (ap (λ (x : ℕ). ltb (length (f x)) d) (sym e))
    go false (ne z) ih = ih (omega arith)

pub room_others : (g : Message → Mail ℕ) (traffic : Traffic) (h : ℕ → Bool) (t n : ℕ) → n ≤ 64
    → room traffic.depth (lanes g traffic.waiting) n (besides t (within h)) ≡ each_has_room traffic (law.besides h t) n
unfolding room all_below
room_others g traffic h t zero l = refl
room_others g traffic h t (suc n) l =
    rw (other_is h t n (omega arith), each_length g (traffic.waiting n), room_others g traffic h t n (omega arith))
    (pick (law.besides h t n) (has_room traffic n) (each_has_room traffic (law.besides h t) n))
  where
    pick : (a b c : Bool) → (cond a b true && c) ≡ (c && (not a || b))
    pick true true true = refl
    pick true true false = refl
    pick true false true = refl
    pick true false false = refl
    pick false true true = refl
    pick false true false = refl
    pick false false true = refl
    pick false false false = refl

abbrev pub sent : (ℕ → Bool) → Mail ℕ → (ℕ → List (Mail ℕ)) → ℕ → List (Mail ℕ)
sent p x f u = cond (p u) (f u ++ (x ∷ [])) (f u)

pub sent_one : (g : Message → Mail ℕ) (f : ℕ → List Message) (i : ℕ) (m : Message) (x : Mail ℕ) → g m ≡ x → lanes g (law.sent f i m) ≡ sent (same i) x (lanes g f)
sent_one g f i m x e = lanes_sent g f i m ∙ fun_ext (λ u. go u (same i u) (view i u))
  where
    go : (u : ℕ) (b : Bool) → Same i u b → cond b (lanes g f i ++ (g m ∷ [])) (lanes g f u) ≡ cond b (lanes g f u ++ (x ∷ [])) (lanes g f u)
    go u true (eq z) = ap₂ (λ (k : ℕ) (y : Mail ℕ). lanes g f k ++ (y ∷ [])) z e
    go u false (ne z) = refl

pub sent_others : (g : Message → Mail ℕ) (f : ℕ → List Message) (h : ℕ → Bool) (t n : ℕ) (m : Message) (x : Mail ℕ) → n ≤ 64 → ((u : ℕ) → n ≤ u → within h u ≡ false) → g m ≡ x
    → lanes g (sent_to_each f (law.besides h t) n m) ≡ sent (besides t (within h)) x (lanes g f)
unfolding sent_to_each
sent_others g f h t n m x l none e = fun_ext (λ u. ⊎_elim (λ (k : u < n). inside u k) (λ (k : n ≤ u). outside u k) (cases_lt u n))
  where
    pick : (u : ℕ) (b : Bool) → each g (cond b (f u ++ m ∷ []) (f u)) ≡ cond b (lanes g f u ++ (x ∷ [])) (lanes g f u)
    pick u true = each_append g (f u) (m ∷ []) ∙ ap (λ (y : Mail ℕ). lanes g f u ++ (y ∷ [])) e
    pick u false = refl

    inside : (u : ℕ) → u < n → each g (cond (ltb u n && law.besides h t u) (f u ++ m ∷ []) (f u)) ≡ cond (besides t (within h) u) (lanes g f u ++ (x ∷ [])) (lanes g f u)
    inside u k =
        let q : (ltb u n && law.besides h t u) ≡ besides t (within h) u = rw (lt-ltb u n k) (sym (other_is h t u (omega arith))) in
        pick u (ltb u n && law.besides h t u) ∙ ap (λ (b : Bool). cond b (lanes g f u ++ (x ∷ [])) (lanes g f u)) q

    no_one : (a b : Bool) → b ≡ false → (a && b) ≡ false
    no_one true b z = z
    no_one false b z = refl

    outside : (u : ℕ) → n ≤ u → each g (cond (ltb u n && law.besides h t u) (f u ++ m ∷ []) (f u)) ≡ cond (besides t (within h) u) (lanes g f u ++ (x ∷ [])) (lanes g f u)
    outside u k =
        rw (le-ltb u n k) (sym (cond-false (besides t (within h) u) (lanes g f u ++ (x ∷ [])) (lanes g f u) (no_one (not (same t u)) (within h u) (none u k))))

and_no : (a : Bool) → (a && false) ≡ false
and_no true = refl
and_no false = refl

-- the holders afterwards
pub joined_is : (h : Holders) (r t : ℕ) → t < 64 → within (joined h r t r) ≡ join t (within (h r))
joined_is h r t l = fun_ext (λ u. rw (eq-eqb r r refl, flip t u) (go u (same t u) (view t u)))
  where
    go : (u : ℕ) (b : Bool) → Same t u b → (ltb u 64 && (b || h r u)) ≡ (b || (ltb u 64 && h r u))
    go u true (eq e) = rw (lt-ltb u 64 (omega arith)) refl
    go u false (ne d) = refl

pub alone_holds : (h : Holders) (r t : ℕ) → t < 64 → within (alone h r t r) ≡ same t
alone_holds h r t l = fun_ext (λ u. rw (eq-eqb r r refl, flip t u) (go u (same t u) (view t u)))
  where
    go : (u : ℕ) (b : Bool) → Same t u b → (ltb u 64 && b) ≡ b
    go u true (eq e) = rw (lt-ltb u 64 (omega arith)) refl
    go u false (ne d) = and_no (ltb u 64)

pub emptied_holds : (h : Holders) (r : ℕ) → within (emptied h r r) ≡ nobody
emptied_holds h r = fun_ext (λ u. rw (eq-eqb r r refl) (and_no (ltb u 64)))

pub joined_else : (h : Holders) (r t k : ℕ) → (r ≡ k → ⊥) → joined h r t k ≡ h k
joined_else h r t k d = fun_ext (λ i. rw (ne_eqb k r (λ e. d (sym e))) refl)

pub emptied_else : (h : Holders) (r k : ℕ) → (r ≡ k → ⊥) → emptied h r k ≡ h k
emptied_else h r k d = fun_ext (λ i. rw (ne_eqb k r (λ e. d (sym e))) refl)

pub alone_else : (h : Holders) (r t k : ℕ) → (r ≡ k → ⊥) → alone h r t k ≡ h k
alone_else h r t k d = fun_ext (λ i. rw (ne_eqb k r (λ e. d (sym e))) refl)
