-- What a directory means: for each record the set of its holders, and its sizes.
use Rattle.std.specs.Prelude.{◌≡◌, ℕ, ◌<◌, ◌≤◌, Bool, true, false, ◌&&◌, Option, nat_le}
use Rattle.directory.specs.Sets.{tally, least}

-- For each record and terminal, whether the terminal is a holder of the record.
abbrev pub Holders : Type 0
Holders = ℕ → ℕ → Bool

-- The holders, how many records and terminals are served, and how many holders a record may come to have.
pub record View : Type 0 where
  pub holders : Holders
  pub records : ℕ
  pub terminals : ℕ
  pub limit : ℕ

-- What holds of every directory at all times: each size is from 1 to 64, and what is not served has and is no holder.
pub record Sound (v : View) : Type 0 where
  pub some_records : 1 ≤ v.records
  pub most_records : v.records ≤ 64
  pub some_terminals : 1 ≤ v.terminals
  pub most_terminals : v.terminals ≤ 64
  pub some_limit : 1 ≤ v.limit
  pub most_limit : v.limit ≤ 64
  pub served : (r t : ℕ) → v.holders r t ≡ true → (r < v.records) × (t < v.terminals)

-- How many holders a record has. No number above 63 is a holder.
abbrev pub count : View → ℕ → ℕ
count v r = tally (v.holders r) 64

-- The least holder of a record at or above t, or none.
abbrev pub next : View → ℕ → ℕ → Option ℕ
next v r t = least (v.holders r) t 64

-- A size is from 1 to 64.
abbrev pub size_fits : ℕ → Bool
size_fits n = nat_le 1 n && nat_le n 64

-- A directory in which no record has a holder.
abbrev pub empty : ℕ → ℕ → ℕ → View
empty records terminals limit =
    record { holders = λ _ _. false; records = records; terminals = terminals; limit = limit }
