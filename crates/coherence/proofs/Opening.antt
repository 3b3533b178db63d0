-- A site that open accepts is a newly opened machine.
use Rattle.std.proofs.Common.{◌≡◌, ℕ, zero, suc, ◌+◌, ◌*◌, ◌<◌, ◌≤◌, Bool, true, false, cond, ◌&&◌, eqb, ltb, leb, List, [], ◌∷◌, length, get_or, set, sym, refl, ap, ◌∙◌, subst, arith, length-set, ltb-true, lt-ltb, eqb-true, leb-true}
use mathlib.Core.Path.{fun_ext}
use lib.Arith.{digits_lt}
use Rattle.std.proofs.lemmas.List.{get_or-set_same, get_or-set_other}
use Rattle.std.proofs.lemmas.Bool.{and_parts}
use Rattle.message.specs.declared.Message.{Message}
use Rattle.message.specs.declared.refusals.Refusal.TheVariants.{Unfit}
use Rattle.protocol.specs.declared.Code.TheVariants.{Accepted}
use Rattle.directory.specs.Directories.{size_fits}
use Rattle.network.specs.Traffic.{Traffic}
use Rattle.protocol.specs.declared.Entry.{Entry}
use Rattle.protocol.specs.declared.HomeState.TheVariants.{ReadOnly}
use Rattle.protocol.specs.declared.Place.{Place}
use Rattle.protocol.specs.declared.Wait.{Wait}
use Rattle.protocol.specs.declared.Wait.TheVariants.{Nothing}
use Rattle.protocol.specs.Sends.{all_below}
use Rattle.protocol.specs.HomeRules.{entry_of}
use Rattle.protocol.specs.HomeSteps.{gives, unchanged, blank, parts_serve}
use Rattle.protocol.specs.Places.{invalid}
use Rattle.protocol.specs.Sites.{Site, row_fits}
use Rattle.protocol.specs.declared.Sizes.{Sizes}
use Rattle.protocol.specs.Opening.{opening_value, opened_entries, opened_holders, opened_row, opened_waits, all_empty, sized, may_open, opened, opening}
use Rattle.protocol.specs.Coherence.{Tables}
use Rattle.machine.specs.Site as model
use Rattle.machine.specs.Claims as model_law
use Rattle.machine.specs.Machine.{home, read_only, nobody, same}
use Rattle.machine.proofs.Counts.{Same, eq, ne, view}
use Rattle.machine.proofs.Coherence.{opened_invariant}
use Rattle.coherence.proofs.Abstraction.{abs, sizes, within, home_of, place_of, want_of, each, up_of, down_of}
use Rattle.coherence.proofs.Simulates.{Sized}
use Rattle.coherence.proofs.Runs.{Stands}

-- A list of which the first k elements are set, one after another.
abbrev Filled : {A : Type 0} → (ℕ → List A) → (ℕ → A) → Type 0
Filled {A} lists value = (k : ℕ) → lists (suc k) ≡ set (lists k) k (value k)

filled_length : {A : Type 0} (lists : ℕ → List A) (value : ℕ → A) → Filled lists value → (k : ℕ) → length (lists k) ≡ length (lists 0)
filled_length lists value step zero = refl
filled_length lists value step (suc k) = ap length (step k) ∙ length-set (lists k) k (value k) ∙ filled_length lists value step k

filled_at : {A : Type 0} (lists : ℕ → List A) (value : ℕ → A) (d : A) → Filled lists value → (k i : ℕ) → k ≤ length (lists 0) → i < k → get_or (lists k) i d ≡ value i
filled_at lists value d step zero i l h = absurd (omega arith)
filled_at lists value d step (suc k) i l h = ap (λ xs. get_or xs i d) (step k) ∙ go (same k i) (view k i) (filled_at lists value d step k i (omega arith))
  where
    go : (b : Bool) → Same k i b → (i < k → get_or (lists k) i d ≡ value i) → get_or (set (lists k) k (value k)) i d ≡ value i
    go true (eq e) ih =
        subst (λ (x : ℕ). get_or (set (lists k) k (value k)) x d ≡ value x) e (get_or-set_same (lists k) k (value k) d (omega (arith, filled_length lists value step k)))
    go false (ne d') ih = get_or-set_other (lists k) k i (value k) d (λ e. d' (sym e)) ∙ ih (omega arith)

row_filled : (row : List Place) → Filled (opened_row row) (λ i. invalid)
unfolding opened_row
row_filled row k = refl

row_start : (row : List Place) → opened_row row 0 ≡ row
unfolding opened_row
row_start row = refl

waits_filled : (waits : List Wait) → Filled (opened_waits waits) (λ i. Nothing)
unfolding opened_waits
waits_filled waits k = refl

waits_start : (waits : List Wait) → opened_waits waits 0 ≡ waits
unfolding opened_waits
waits_start waits = refl

entries_filled : (entries : List Entry) (values : List ℕ) → Filled (opened_entries entries values) (λ i. entry_of ReadOnly (opening_value values i) 0)
unfolding opened_entries
entries_filled entries values k = refl

entries_start : (entries : List Entry) (values : List ℕ) → opened_entries entries values 0 ≡ entries
unfolding opened_entries
entries_start entries values = refl

all_below_at : (k : ℕ) (test : ℕ → Bool) → all_below k test ≡ true → (i : ℕ) → i < k → test i ≡ true
unfolding all_below
all_below_at zero test q i l = absurd (omega arith)
all_below_at (suc k) test q i l =
    let parts = and_parts (all_below k test) (test k) q in
    go (same k i) (view k i) (all_below_at k test parts.0 i) parts.1
  where
    go : (b : Bool) → Same k i b → (i < k → test i ≡ true) → test k ≡ true → test i ≡ true
    go true (eq e) before here = subst (λ (x : ℕ). test x ≡ true) e here
    go false (ne d) before here = before (omega arith)

empty_at : (traffic : Traffic) (k i : ℕ) → all_empty traffic k ≡ true → i < k → traffic.waiting i ≡ []
empty_at traffic k i q l = nil (traffic.waiting i) (eqb-true (length (traffic.waiting i)) 0 (all_below_at k (λ j. eqb (length (traffic.waiting j)) 0) q i l))
  where
    nil : (xs : List Message) → length xs ≡ 0 → xs ≡ []
    nil [] e = refl
    nil (x ∷ xs) e = absurd (omega (arith, e))

-- What the test says.
record Openable (s : Site) (z : Sizes) : Type 0 where
  pub few_terminals : z.terminals ≤ 64
  pub few_records : z.records ≤ 64
  pub some_place : 1 ≤ z.places
  pub row_long : row_fits (sized s z) ≡ true
  pub parts_large : parts_serve (sized s z).home ≡ true
  pub up_empty : all_empty s.home.up z.terminals ≡ true
  pub down_empty : all_empty s.home.down z.terminals ≡ true

openable : (s : Site) (z : Sizes) (values : List ℕ) → may_open s z values ≡ true → Openable s z
openable s z values e =
    let n = size_fits z.terminals in
    let b = size_fits z.records in
    let l = size_fits z.places in
    let f = row_fits (sized s z) in
    let g = parts_serve (sized s z).home in
    let v = leb z.records (length values) in
    let u = all_empty s.home.up z.terminals in
    let d = all_empty s.home.down z.terminals in
    let all = and_parts (n && (b && l)) ((g && f) && (v && (u && d))) e in
    let of-n = and_parts n (b && l) all.0 in
    let of-b = and_parts b l of-n.1 in
    let of-f = and_parts (g && f) (v && (u && d)) all.1 in
    let of-g = and_parts g f of-f.0 in
    let of-v = and_parts v (u && d) of-f.1 in
    let of-u = and_parts u d of-v.1 in
    record {
      few_terminals = leb-true z.terminals 64 (and_parts (leb 1 z.terminals) (leb z.terminals 64) of-n.0).1;
      few_records = leb-true z.records 64 (and_parts (leb 1 z.records) (leb z.records 64) of-b.0).1;
      some_place = leb-true 1 z.places (and_parts (leb 1 z.places) (leb z.places 64) of-b.1).0;
      row_long = of-g.1;
      parts_large = of-g.0;
      up_empty = of-u.0;
      down_empty = of-u.1;
    }

module _ (s : Site) (z : Sizes) (values : List ℕ) (K : Tables s) (F : Openable s z) where
  abbrev s' : Site
  s' = opened s z values

  abbrev spots : ℕ
  spots = z.terminals * z.places

  row_length : length (opened_row s.row spots) ≡ length s.row
  row_length = filled_length (opened_row s.row) (λ i. invalid) (row_filled s.row) spots ∙ ap length (row_start s.row)

  newly_sized : Sized s'
  newly_sized =
      record {
        row_long = ap (leb spots) row_length ∙ F.row_long;
        parts_large = F.parts_large;
        entries_long =
            filled_length (opened_entries s.home.entries values) (λ i. entry_of ReadOnly (opening_value values i) 0) (entries_filled s.home.entries values) z.records
            ∙ ap length (entries_start s.home.entries values) ∙ K.entries;
        waits_long = filled_length (opened_waits s.waits) (λ i. Nothing) (waits_filled s.waits) z.terminals ∙ ap length (waits_start s.waits) ∙ K.waits;
        few_terminals = F.few_terminals;
        few_records = F.few_records;
        some_place = F.some_place;
      }

  nobody_holds : (r : ℕ) → r < z.records → within (opened_holders s.home.directory.holders z.records r) ≡ nobody
  nobody_holds r l = fun_ext (λ u. rw (lt-ltb r z.records l) (both (ltb u 64)))
    where
      both : (a : Bool) → (a && false) ≡ false
      both true = refl
      both false = refl

  empty_place : (t p : ℕ) → t < z.terminals → (abs s').place t p ≡ model.empty
  empty_place t p tn = pick (ltb p z.places) refl
    where
      pick : (b : Bool) → ltb p z.places ≡ b → cond b (place_of (get_or (opened_row s.row spots) (t * z.places + p) invalid)) model.empty ≡ model.empty
      pick true e =
          ap place_of
          (filled_at (opened_row s.row) (λ i. invalid) invalid (row_filled s.row) spots (t * z.places + p)
          (rw (row_start s.row) (leb-true spots (length s.row) F.row_long))
          (digits_lt {q = t} {m = z.terminals} {r = p} {c = z.places} tn (ltb-true p z.places e)))
      pick false e = refl

  fresh : (r : ℕ) → r < z.records → get_or (opened_entries s.home.entries values z.records) r blank ≡ entry_of ReadOnly (opening_value values r) 0
  fresh r l =
      filled_at (opened_entries s.home.entries values) (λ i. entry_of ReadOnly (opening_value values i) 0) blank (entries_filled s.home.entries values) z.records r
      (rw (entries_start s.home.entries values) (omega (arith, K.entries, F.few_records))) l

  rests : (t : ℕ) → t < z.terminals → get_or (opened_waits s.waits z.terminals) t Nothing ≡ Nothing
  rests t l =
      filled_at (opened_waits s.waits) (λ i. Nothing) Nothing (waits_filled s.waits) z.terminals t
      (rw (waits_start s.waits) (omega (arith, K.waits, F.few_terminals))) l

  newly_opened : model_law.Opened (sizes s') (abs s') (opening_value values)
  newly_opened =
      record {
        wide = F.few_terminals;
        homes =
            λ r l.
            ap (λ (e : Entry). home_of e (opened_holders s.home.directory.holders z.records r)) (fresh r l)
            ∙ ap (λ (q : ℕ → Bool). home read_only (opening_value values r) 0 q) (nobody_holds r l);
        places = empty_place;
        waits = λ t l. ap want_of (rests t l);
        ups = λ t l. ap (each up_of) (empty_at s.home.up z.terminals t F.up_empty l);
        downs = λ t l. ap (each down_of) (empty_at s.home.down z.terminals t F.down_empty l);
      }

  stands : Stands s' (opening_value values)
  stands = record { sized = newly_sized; kept = opened_invariant (sizes s') (abs s') (opening_value values) newly_opened }

pub opening_stands : (s : Site) (z : Sizes) (values : List ℕ) → Tables s → (opening s z values).code ≡ Accepted → Stands (opening s z values).after (opening_value values)
unfolding opening
opening_stands s z values K = pick (may_open s z values) refl
  where
    pick : (b : Bool) → may_open s z values ≡ b → (cond b (gives Accepted 0 (opened s z values)) (unchanged Unfit s)).code ≡ Accepted
        → Stands (cond b (gives Accepted 0 (opened s z values)) (unchanged Unfit s)).after (opening_value values)
    pick true e f = stands s z values K (openable s z values e)
    pick false e f = absurd (let h = ap Rattle.protocol.specs.Codes.number f in omega (arith, h))
