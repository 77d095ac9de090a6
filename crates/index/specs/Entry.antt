-- The index by places: the states that the list names, then an entry for each split. An entry has a word for each byte, the place of the entry that the byte leads to, and 2^31 more where that one tells; then the signatures told on reaching it, what a byte at it costs, and whether its states are all named. How it is read.
use Rattle.std.specs.Prelude.{ℕ, ◌+◌, ◌*◌, ◌-◌, ◌/◌, Bool, cond, not, ◌||◌, List, length, get_or, ltb, eqb}
use Rattle.sets.specs.Set.{set_size, sig_size, within, set_at, sigs_at}
use Rattle.table.specs.Table.{byte_values, most_splits, split_size, split_count, bad_count}

-- ---- its bytes

-- the places of the signatures, of the cost and of the flag in an entry; bytes of an entry
abbrev pub sigs_place : ℕ
sigs_place = 4 * byte_values

abbrev pub cost_place : ℕ
cost_place = sigs_place + sig_size

abbrev pub flag_place : ℕ
flag_place = cost_place + 1

abbrev pub entry_size : ℕ
entry_size = cost_place + sig_size

-- where the entry of split i stands; so many bytes has the index of i splits
abbrev pub entry_place : ℕ → ℕ
entry_place i = set_size + entry_size * i

-- a word from here on tells
abbrev pub telling : ℕ
telling = 2147483648

-- ---- what is read of an index X

-- places below this one have a whole entry behind them
abbrev pub limit : List ℕ → ℕ
limit X = length X - (entry_size - 1)

-- the place that a word names, and the signatures told on going there: none where no whole entry stands there
abbrev pub place_of : ℕ → ℕ
place_of w = cond (ltb w telling) w (w - telling)

unfoldable pub told_of : List ℕ → ℕ → ℕ
told_of X w = cond (ltb w telling) 0 (cond (ltb (w - telling) (limit X)) (sigs_at X (w - telling + sigs_place)) 0)

-- what a byte at place p costs; 0 where the states of the split there are not all named
abbrev pub cost_at : List ℕ → ℕ → ℕ
cost_at X p = get_or X (p + cost_place) 0

abbrev pub flag_at : List ℕ → ℕ → ℕ
flag_at X p = get_or X (p + flag_place) 0

-- the split whose entry stands at place p; the number of splits where no whole entry does
unfoldable pub split_at : List ℕ → List ℕ → ℕ → ℕ
split_at S X p = cond (ltb p (limit X)) ((p - set_size) / entry_size) (split_count S)

-- the states of F count as named: each is in the set that X begins with; where X is too short to hold one, every state counts so
unfoldable pub known_in : List ℕ → ℕ → Bool
known_in X F = ltb (length X) set_size || within F (set_at X 0)

-- ---- 8: no good number of splits, or an index without an entry for each

abbrev pub wrong_index : List ℕ → List ℕ → Bool
wrong_index S X = not (eqb (length X) (entry_place (split_count S)))

unfoldable pub bad_index : List ℕ → List ℕ → Bool
bad_index S X = bad_count split_size most_splits S || wrong_index S X
