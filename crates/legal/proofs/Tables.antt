-- Tables of entries stay legal: a new one, one in which a legal entry is set, and one that is opened.
use Rattle.std.proofs.Common.{ℕ, zero, suc, List, [], ◌∷◌, set, refl}
use Rattle.protocol.specs.declared.Entry.{Entry}
use Rattle.protocol.specs.declared.HomeState.TheVariants.{ReadOnly}
use Rattle.protocol.specs.HomeRules.{entry_of}
use Rattle.protocol.specs.HomeSteps.{blank, entry_at}
use Rattle.protocol.specs.Opening.{opening_value, opened_entries}
use Rattle.protocol.specs.Legal.{Legal, copies}

-- every entry of a table is legal; past its end, it shows blank ones
abbrev pub LegalTable : List Entry → Type 0
LegalTable entries = (r : ℕ) → Legal (entry_at entries r)

-- a table of blank entries
pub blank_legal : (n : ℕ) → LegalTable (copies n blank)
unfolding copies
blank_legal zero r = refl
blank_legal (suc n) zero = refl
blank_legal (suc n) (suc r) = blank_legal n r

-- one entry is set; past the table's end, none is
pub set_legal : (entries : List Entry) (r : ℕ) (entry : Entry) → Legal entry → LegalTable entries → LegalTable (set entries r entry)
set_legal [] r entry new old q = old q
set_legal (first ∷ rest) zero entry new old zero = new
set_legal (first ∷ rest) zero entry new old (suc q) = old (suc q)
set_legal (first ∷ rest) (suc r) entry new old zero = old zero
set_legal (first ∷ rest) (suc r) entry new old (suc q) = set_legal rest r entry new (λ p. old (suc p)) q

-- the first k entries are opened
pub opened_legal : (entries : List Entry) (values : List ℕ) (k : ℕ) → LegalTable entries → LegalTable (opened_entries entries values k)
unfolding opened_entries
opened_legal entries values zero old = old
opened_legal entries values (suc k) old =
    set_legal (opened_entries entries values k) k (entry_of ReadOnly (opening_value values k) 0) refl (opened_legal entries values k old)
