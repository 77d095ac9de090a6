-- For each byte a lower one that leads where it does, as the filler goes by them.
use Rattle.std.specs.Prelude.{ℕ, ◌<◌, ◌≡◌, List, get_or, eqb}
use Rattle.rules.specs.Scan.{first}
use Rattle.table.specs.Table.{byte_values}

-- the lowest byte that has the class of byte c
abbrev pub low_in : List ℕ → ℕ → ℕ
low_in C c = first byte_values (λ d. eqb (get_or C d 0) (get_or C c 0))

-- where C has for byte c a lower one, that leads where c does
abbrev pub Led : (ℕ → ℕ) → List ℕ → ℕ → Type 0
Led t C c = get_or C c 0 < c → t (get_or C c 0) ≡ t c
