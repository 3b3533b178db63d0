-- How a change of one part of a site looks in the machine.
use Rattle.std.proofs.Common.{◌≡◌, ℕ, suc, ◌+◌, ◌*◌, ◌/◌, ◌%◌, ◌<◌, ◌≤◌, Bool, true, false, cond, ◌&&◌, eqb, ltb, leb, List, [], ◌∷◌, ◌++◌, length, get_or, set, sym, refl, ap, ◌∙◌, subst, ap₂, arith, ltb-true, lt-ltb, eq-eqb, ne_eqb, le-leb}
use mathlib.Core.Path.{fun_ext}
use lib.Arith.{digits_lt, digits_div, digits_mod}
use Rattle.std.proofs.lemmas.List.{get_or-set_same, get_or-set_other}
use Rattle.std.proofs.lemmas.Bool.{cond-true}
use Rattle.message.specs.declared.Message.{Message}
use Rattle.message.specs.Lists.{with_list}
use Rattle.directory.specs.Directories.{Holders}
use Rattle.network.specs.Traffic.{Traffic, after_drop, drop_answer, drop_waiting, later}
use Rattle.protocol.specs.declared.Entry.{Entry}
use Rattle.protocol.specs.declared.Place.{Place}
use Rattle.protocol.specs.declared.Wait.{Wait}
use Rattle.protocol.specs.declared.Wait.TheVariants.{Nothing}
use Rattle.protocol.specs.Sends.{sent}
use Rattle.protocol.specs.HomeSteps.{blank}
use Rattle.protocol.specs.Places.{invalid}
use Rattle.machine.specs.Site as model
use Rattle.machine.specs.Machine.{same}
use Rattle.machine.specs.Site.{Mail, Want, changed, put_place, empty}
use Rattle.machine.proofs.Counts.{Same, eq, ne, view, same_refl}
use Rattle.coherence.proofs.Abstraction.{each, lanes, homes, home_of, places, place_of, wants_of, want_of}

-- the code's test of a number and the machine's
pub flip : (t u : ℕ) → eqb u t ≡ same t u
flip t u = go (same t u) (view t u)
  where
    go : (b : Bool) → Same t u b → eqb u t ≡ b
    go true (eq e) = eq-eqb u t (sym e)
    go false (ne d) = ne_eqb u t (λ e. d (sym e))

pub each_append : (f : Message → Mail ℕ) (xs ys : List Message) → each f (xs ++ ys) ≡ each f xs ++ each f ys
each_append f [] ys = refl
each_append f (x ∷ xs) ys = ap (λ zs. f x ∷ zs) (each_append f xs ys)

pub each_length : (f : Message → Mail ℕ) (xs : List Message) → length (each f xs) ≡ length xs
each_length f [] = refl
each_length f (x ∷ xs) = ap suc (each_length f xs)

-- a change that changes nothing
pub upd_still : {A : Type 0} (f : ℕ → A) (t : ℕ) → changed f t (f t) ≡ f
upd_still f t = fun_ext (λ u. go u (same t u) (view t u))
  where
    go : (u : ℕ) (b : Bool) → Same t u b → cond b (f t) (f u) ≡ f u
    go u true (eq e) = ap f e
    go u false (ne d) = refl

pub put_still : (f : ℕ → ℕ → model.Place ℕ) (t p : ℕ) → put_place f t p (f t p) ≡ f
put_still f t p = fun_ext (λ u. fun_ext (λ q. go u q (same t u) (view t u) (same p q) (view p q)))
  where
    go : (u q : ℕ) (b : Bool) → Same t u b → (c : Bool) → Same p q c → cond (b && c) (f t p) (f u q) ≡ f u q
    go u q true (eq e) true (eq g) = ap₂ f e g
    go u q true (eq e) false (ne g) = refl
    go u q false (ne d) c k = refl

pub lanes_with : (f : Message → Mail ℕ) (g : ℕ → List Message) (t : ℕ) (ms : List Message) → lanes f (with_list g t ms) ≡ changed (lanes f g) t (each f ms)
unfolding with_list
lanes_with f g t ms = fun_ext (λ u. rw (flip t u) (go u (same t u)))
  where
    go : (u : ℕ) (b : Bool) → each f (cond b ms (g u)) ≡ cond b (each f ms) (each f (g u))
    go u true = refl
    go u false = refl

pub lanes_sent : (f : Message → Mail ℕ) (g : ℕ → List Message) (t : ℕ) (m : Message) → lanes f (sent g t m) ≡ changed (lanes f g) t (lanes f g t ++ (f m ∷ []))
lanes_sent f g t m = lanes_with f g t (g t ++ m ∷ []) ∙ ap (changed (lanes f g) t) (each_append f (g t) (m ∷ []))

upd_upd : {A : Type 0} (f : ℕ → A) (t : ℕ) (a b : A) → changed (changed f t a) t b ≡ changed f t b
upd_upd f t a b = fun_ext (λ u. go u (same t u))
  where
    go : (u : ℕ) (c : Bool) → cond c b (cond c a (f u)) ≡ cond c b (f u)
    go u true = refl
    go u false = refl

pub upd_here : {A : Type 0} (f : ℕ → A) (t : ℕ) (a : A) → changed f t a t ≡ a
upd_here f t a = cond-true (same t t) a (f t) (same_refl t)

pub lanes_twice : (f : Message → Mail ℕ) (g : ℕ → List Message) (t : ℕ) (m k : Message) → lanes f (sent (sent g t m) t k) ≡ changed (lanes f g) t ((lanes f g t ++ (f m ∷ [])) ++ (f k ∷ []))
lanes_twice f g t m k =
    let e = lanes_sent f g t m in
    lanes_sent f (sent g t m) t k
    ∙ (ap (λ (h : ℕ → List (Mail ℕ)). changed h t (h t ++ (f k ∷ []))) e
    ∙ (upd_upd (lanes f g) t (lanes f g t ++ (f m ∷ [])) (changed (lanes f g) t (lanes f g t ++ (f m ∷ [])) t ++ (f k ∷ []))
    ∙ ap (λ (x : List (Mail ℕ)). changed (lanes f g) t (x ++ (f k ∷ []))) (upd_here (lanes f g) t (lanes f g t ++ (f m ∷ [])))))

-- the oldest message is taken off
pub lanes_dropped : (f : Message → Mail ℕ) (traffic : Traffic) (t : ℕ) (m : Message) (ms : List Message) → t < traffic.lanes → traffic.waiting t ≡ m ∷ ms
    → lanes f (after_drop traffic t).waiting ≡ changed (lanes f traffic.waiting) t (each f ms)
unfolding drop_waiting drop_answer
lanes_dropped f traffic t m ms there e =
    let yes = lt-ltb t traffic.lanes there in
    let some : leb 1 (length (traffic.waiting t)) ≡ true = le-leb 1 (length (traffic.waiting t)) (rw e (omega arith)) in
    rw (yes, some) (lanes_with f traffic.waiting t (later (traffic.waiting t)) ∙ ap (λ (xs : List Message). changed (lanes f traffic.waiting) t (each f (later xs))) e)

-- one element of a list
pub get_or_upd : {A : Type 0} (xs : List A) (i : ℕ) (a d : A) → i < length xs → (k : ℕ) → get_or (set xs i a) k d ≡ changed (λ j. get_or xs j d) i a k
get_or_upd xs i a d l k = go (same i k) (view i k)
  where
    go : (b : Bool) → Same i k b → get_or (set xs i a) k d ≡ cond b a (get_or xs k d)
    go true (eq e) = subst (λ j. get_or (set xs i a) j d ≡ a) e (get_or-set_same xs i a d l)
    go false (ne n) = get_or-set_other xs i k a d (λ e. n (sym e))

pub wants_set : (ws : List Wait) (t : ℕ) (w : Wait) → t < length ws → wants_of (set ws t w) ≡ changed (wants_of ws) t (want_of w)
wants_set ws t w l = fun_ext (λ u. ap want_of (get_or_upd ws t w Nothing l u) ∙ go u (same t u))
  where
    go : (u : ℕ) (b : Bool) → want_of (cond b w (get_or ws u Nothing)) ≡ cond b (want_of w) (wants_of ws u)
    go u true = refl
    go u false = refl

-- one entry, and its holders
pub homes_set : (es : List Entry) (h h' : Holders) (r : ℕ) (e : Entry) → r < length es → ((k : ℕ) → (r ≡ k → ⊥) → h' k ≡ h k) → homes (set es r e) h' ≡ changed (homes es h) r (home_of e (h' r))
homes_set es h h' r e l keeps = fun_ext (λ k. ap (λ (x : Entry). home_of x (h' k)) (get_or_upd es r e blank l k) ∙ go k (same r k) (view r k))
  where
    go : (k : ℕ) (b : Bool) → Same r k b → home_of (cond b e (get_or es k blank)) (h' k) ≡ cond b (home_of e (h' r)) (homes es h k)
    go k true (eq q) = ap (λ (j : ℕ). home_of e (h' j)) (sym q)
    go k false (ne n) = ap (home_of (get_or es k blank)) (keeps k n)

row_apart : (l t p u q : ℕ) → p < l → q < l → t * l + p ≡ u * l + q → (t ≡ u) × (p ≡ q)
row_apart l t p u q pl ql e = (
  sym (digits_div t pl) ∙ (ap (λ y. y / l) e ∙ digits_div u ql),
  sym (digits_mod t pl) ∙ (ap (λ y. y % l) e ∙ digits_mod u ql),
)

pub places_set : (n l : ℕ) (row : List Place) (t p : ℕ) (a : Place) → t < n → p < l → n * l ≤ length row → places l (set row (t * l + p) a) ≡ put_place (places l row) t p (place_of a)
places_set n l row t p a tn pl fits = fun_ext (λ u. fun_ext (λ q. go u q (same t u) (view t u) (same p q) (view p q)))
  where
    here : get_or (set row (t * l + p) a) (t * l + p) invalid ≡ a
    here = get_or-set_same row (t * l + p) a invalid (omega (arith, digits_lt {q = t} {m = n} {r = p} {c = l} tn pl))

    other : (u q : ℕ) → (t * l + p ≡ u * l + q → ⊥) → get_or (set row (t * l + p) a) (u * l + q) invalid ≡ get_or row (u * l + q) invalid
    other u q d = get_or-set_other row (t * l + p) (u * l + q) a invalid (λ e. d (sym e))

    there : (u q : ℕ) → (q < l → t * l + p ≡ u * l + q → ⊥) → places l (set row (t * l + p) a) u q ≡ places l row u q
    there u q d = pick (ltb q l) refl
      where
        pick : (c : Bool) → ltb q l ≡ c → cond c (place_of (get_or (set row (t * l + p) a) (u * l + q) invalid)) empty ≡ cond c (place_of (get_or row (u * l + q) invalid)) empty
        pick true e = ap place_of (other u q (d (ltb-true q l e)))
        pick false e = refl

    go : (u q : ℕ) (b : Bool) → Same t u b → (c : Bool) → Same p q c → places l (set row (t * l + p) a) u q ≡ cond (b && c) (place_of a) (places l row u q)
    go u q true (eq e) true (eq f) =
        subst (λ y. places l (set row (t * l + p) a) y q ≡ place_of a) e (subst (λ y. places l (set row (t * l + p) a) t y ≡ place_of a) f (rw (lt-ltb p l pl) (ap place_of here)))
    go u q true (eq e) false (ne f) = there u q (λ ql z. f (row_apart l t p u q pl ql z).1)
    go u q false (ne e) c f = there u q (λ ql z. e (row_apart l t p u q pl ql z).0)

pub places_at : (l : ℕ) (row : List Place) (t p : ℕ) → p < l → places l row t p ≡ place_of (get_or row (t * l + p) invalid)
places_at l row t p pl = cond-true (ltb p l) (place_of (get_or row (t * l + p) invalid)) empty (lt-ltb p l pl)
