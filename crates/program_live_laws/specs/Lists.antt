-- Whose state it is: the length and the checksum of a list stand in the first 16 bytes of a state, and no turn touches them.
use Rattle.std.specs.Prelude.{ℕ, ◌<◌, Bool, true, false, List, ◌∷◌, ◌++◌, ◌≡◌, length, replicate}
use Rattle.program_turn.specs.State.{state_size, whole_numbers, sum_of, is_state_of, fresh_state}
use Rattle.program_turn.specs.Turn.{turn_of, open_turn}

pub record ListsKept : Type 0 where
  -- a fresh state is one of its list
  pub fresh : (L : List ℕ) (kind : ℕ) → length L < whole_numbers → is_state_of L (fresh_state L kind (replicate state_size 0)) ≡ true
  -- after the opening and after any turn, by any list, a state is one of the lists that it was one of, and of no other
  pub opened : (keeping : Bool) (L M S : List ℕ) → is_state_of M (open_turn keeping L S).saved ≡ is_state_of M S
  pub turned : (keeping saving : Bool) (L M S : List ℕ) (more : Bool) (start : ℕ) (rest : List ℕ) → is_state_of M (turn_of keeping saving L S more start rest).saved ≡ is_state_of M S
  -- two lists of one state are of one length and one checksum
  pub alike : (L M S : List ℕ) → is_state_of L S ≡ true → is_state_of M S ≡ true → (length L ≡ length M) × (sum_of L ≡ sum_of M)
  -- each byte counts: a list that differs in one byte from a list of the state is none of it
  pub one_byte : (xs ys S : List ℕ) (b c : ℕ) → b < 256 → c < 256 → (b ≡ c → ⊥) → is_state_of (xs ++ (b ∷ ys)) S ≡ true → is_state_of (xs ++ (c ∷ ys)) S ≡ false
  -- and their order does: so is one that differs in two bytes in a row, exchanged or otherwise
  pub two_bytes : (xs ys S : List ℕ) (b c d e : ℕ) → b < 256 → c < 256 → d < 256 → e < 256 → ((b ≡ d) × (c ≡ e) → ⊥)
      → is_state_of (xs ++ (b ∷ c ∷ ys)) S ≡ true → is_state_of (xs ++ (d ∷ e ∷ ys)) S ≡ false
