-- Joining's refusals in words, and what a call leaves.
use Rattle.std.specs.Prelude.{ℕ, ◌+◌, ◌*◌, ◌≤◌, ◌<◌, ◌≡◌, true, List, [], ◌∷◌, ◌++◌, ◌⊎◌, ◌↔◌, length, take, drop}
use Rattle.sets.specs.Set.{states, holds}
use Rattle.rules.specs.Rules.{Rises, Refuses}
use Rattle.list.specs.List.{most_records, records, list_refusal}
use Rattle.list.specs.Automaton.{named}
use Rattle.rules.specs.Words.{Row, InWords}
use Rattle.laws.specs.Words.{list_words}
use Rattle.list_join.specs.declared.Joined.{Joined}
use Rattle.list_join.specs.Join.{naming, renamed, kept, joined, front, join_rules, refusal_of, Joins}

-- 1 to 3 of the front; 27: the other list is refused by the list check; 28: the lent list is shorter than the front or than the joined list, or that is refused by the list check
abbrev pub join_words : List ℕ → ℕ → ℕ → List ℕ → List Row
join_words A used lent B =
    list_words A
    ++ ((27, list_refusal B ≡ 0 → ⊥) ∷ (28, ((lent < used) ⊎ (lent < length (joined A B))) ⊎ (list_refusal (joined A B) ≡ 0 → ⊥)) ∷ [])

-- of every call of joining
pub record JoinDemand : Type 0 where
  -- the numbers rise: of those that apply, the lowest is given; each exactly when its words hold and those of no row before it do
  pub lowest : (list : List ℕ) (used : ℕ) (B : List ℕ) → Rises (join_rules (front list used) used (length list) B)
  pub refuses : (list : List ℕ) (used : ℕ) (B : List ℕ) → Refuses (join_rules (front list used) used (length list) B) (refusal_of list used B)
  pub said : (list : List ℕ) (used : ℕ) (B : List ℕ) → InWords (join_words (front list used) used (length list) B) (refusal_of list used B)
  -- of two good lists: the joined one has 8 bytes for each record that is kept, and is refused exactly when these are too many or a state that the other names gets a number over the largest
  pub long : (A B : List ℕ) → list_refusal A ≡ 0 → length (joined A B) ≡ length A + 8 * kept (naming A B) B (records B)
  pub limits : (A B : List ℕ) → list_refusal A ≡ 0 → list_refusal B ≡ 0
      → (list_refusal (joined A B) ≡ 0)
      ↔ ((records A + kept (naming A B) B (records B) ≤ most_records) × ((s : ℕ) → holds (named B) s ≡ true → renamed (naming A B) s < states))
  -- a refusal answers no length and changes nothing
  pub unchanged : (list : List ℕ) (used : ℕ) (B : List ℕ) (r : Joined) (exit : List ℕ) → Joins list used B r exit → (r.refusal ≡ 0 → ⊥) → (r.length ≡ 0) × (exit ≡ list)
  -- else the front of that length is the joined list, and the bytes behind it stay
  pub left : (list : List ℕ) (used : ℕ) (B : List ℕ) (r : Joined) (exit : List ℕ) → Joins list used B r exit → r.refusal ≡ 0
      → (take r.length exit ≡ joined (front list used) B) × (drop r.length exit ≡ drop r.length list)
  -- any two outcomes are equal
  pub unique : (list : List ℕ) (used : ℕ) (B : List ℕ) (r s : Joined) (x y : List ℕ) → Joins list used B r x → Joins list used B s y → (r ≡ s) × (x ≡ y)
