-- First, last, follow and the byte sets of an expression whose positions are the states from k on; and what the code's values and its work place say of them.
use Rattle.std.specs.Prelude.{ℕ, ◌+◌, ◌*◌, ◌≤◌, ◌<◌, ◌⊎◌, length, ◌≡◌, Bool, true, false, ◌&&◌, ◌||◌, cond, List, ltb, eqb}
use Rattle.text.specs.Exp.{Exp, one, eps, cat, alt, plus, size, null}
use Rattle.sets.specs.Set.{states, set_size, byte_set_size, set_of, set_at, byte_set_at, holds, join, insert}
use Rattle.sets_words.specs.inner.Further.{further}
use Rattle.text_walk.specs.declared.Shape.{Shape}

unfoldable pub first_at : ℕ → Exp → ℕ → Bool
first_at k (one s) q = eqb q k
first_at k eps q = false
first_at k (cat a b) q = first_at k a q || (null a && first_at (k + size a) b q)
first_at k (alt a b) q = first_at k a q || first_at (k + size a) b q
first_at k (plus a) q = first_at k a q

unfoldable pub last_at : ℕ → Exp → ℕ → Bool
last_at k (one s) p = eqb p k
last_at k eps p = false
last_at k (cat a b) p = (last_at k a p && null b) || last_at (k + size a) b p
last_at k (alt a b) p = last_at k a p || last_at (k + size a) b p
last_at k (plus a) p = last_at k a p

unfoldable pub follows_at : ℕ → Exp → ℕ → ℕ → Bool
follows_at k (one s) p q = false
follows_at k eps p q = false
follows_at k (cat a b) p q = (follows_at k a p q || follows_at (k + size a) b p q) || (last_at k a p && first_at (k + size a) b q)
follows_at k (alt a b) p q = follows_at k a p q || follows_at (k + size a) b p q
follows_at k (plus a) p q = follows_at k a p q || (last_at k a p && first_at k a q)

-- the byte set of state p
unfoldable pub letter_at : ℕ → Exp → ℕ → ℕ → Bool
letter_at k (one s) p c = eqb p k && s c
letter_at k eps p c = false
letter_at k (cat a b) p c = letter_at k a p c || letter_at (k + size a) b p c
letter_at k (alt a b) p c = letter_at k a p c || letter_at (k + size a) b p c
letter_at k (plus a) p c = letter_at k a p c

-- counts stop at the number of states
unfoldable pub cap : ℕ → ℕ
cap n = cond (ltb states n) states n

-- ---- the work place: a row for each state, the set of the states that it may come after and its byte set

abbrev pub row_size : ℕ
row_size = set_size + byte_set_size

abbrev pub rows_size : ℕ
rows_size = row_size * states

-- the states that t may come after
abbrev pub prior_at : List ℕ → ℕ → ℕ
prior_at R t = set_at R (row_size * t)

-- the bytes that lead to t
abbrev pub bytes_of : List ℕ → ℕ → ℕ
bytes_of R t = byte_set_at R (row_size * t + set_size)

-- the row of t stays
pub record Same (A B : List ℕ) (t : ℕ) : Type 0 where
  pub prior : prior_at B t ≡ prior_at A t
  pub bytes : bytes_of B t ≡ bytes_of A t

-- the rows below k stay
pub record Keeps (k : ℕ) (A B : List ℕ) : Type 0 where
  pub long : length B ≡ length A
  pub below : (t : ℕ) → t < k → Same A B t

-- where all positions of e from k on are states: which may begin e, which may end it, and the rows of its own states
pub record Known (R : List ℕ) (k : ℕ) (e : Exp) (r : Shape) : Type 0 where
  pub firsts : (q : ℕ) → holds (set_of r.first) q ≡ first_at k e q
  pub lasts : (q : ℕ) → holds (set_of r.last) q ≡ last_at k e q
  pub priors : (t : ℕ) → k ≤ t → t < k + size e → (q : ℕ) → holds (prior_at R t) q ≡ follows_at k e q t
  pub letters : (t : ℕ) → k ≤ t → t < k + size e → (c : ℕ) → c < 256 → holds (bytes_of R t) c ≡ letter_at k e t c

pub record Sums (R : List ℕ) (k : ℕ) (e : Exp) (r : Shape) : Type 0 where
  pub sized : r.size ≡ cap (size e)
  pub nulls : r.null ≡ null e
  pub known : k + size e ≤ states → Known R k e r

-- ---- what happens to the rows

-- the row of t is anew that of a leaf
pub record Leafed (t s : ℕ) (A B : List ℕ) : Type 0 where
  pub kept : Keeps t A B
  pub prior : t < states → prior_at B t ≡ 0
  pub bytes : t < states → bytes_of B t ≡ s

-- t may come after the states of F, too
pub record Entered (F t : ℕ) (A B : List ℕ) : Type 0 where
  pub long : length B ≡ length A
  pub bytes : (u : ℕ) → bytes_of B u ≡ bytes_of A u
  pub others : (u : ℕ) → (u ≡ t → ⊥) → prior_at B u ≡ prior_at A u
  pub there : prior_at B t ≡ join (prior_at A t) F

-- each state of G from low to high may come after those of F, too
pub record Seamed (F G low high : ℕ) (A B : List ℕ) : Type 0 where
  pub long : length B ≡ length A
  pub bytes : (t : ℕ) → bytes_of B t ≡ bytes_of A t
  pub outside : (t : ℕ) → (t < low) ⊎ (high ≤ t) → prior_at B t ≡ prior_at A t
  pub inside : (t : ℕ) → low ≤ t → t < high → (q : ℕ) → holds (prior_at B t) q ≡ (holds (prior_at A t) q || (holds F q && holds G t))

-- the n rows from k on are written again, d further on
pub record Copied (k n d : ℕ) (A B : List ℕ) : Type 0 where
  pub long : length B ≡ length A
  pub outside : (t : ℕ) → (t < k + d) ⊎ (k + d + n ≤ t) → Same A B t
  pub prior : (t : ℕ) → k ≤ t → t < k + n → prior_at B (t + d) ≡ further d (prior_at A t)
  pub bytes : (t : ℕ) → k ≤ t → t < k + n → bytes_of B (t + d) ≡ bytes_of A t

-- ---- what each combination of shapes makes: nothing, one byte at a state, one after the other, either, one or more times, the same or nothing, the same further on

abbrev pub Nothing : Shape → Type 0
Nothing r = (r.size ≡ 0) × (r.null ≡ true) × (set_of r.first ≡ 0) × (set_of r.last ≡ 0)

abbrev pub Single : ℕ → Shape → Type 0
Single base r = (r.size ≡ 1) × (r.null ≡ false) × (set_of r.first ≡ insert states 0 base) × (set_of r.last ≡ insert states 0 base)

abbrev pub Both : Shape → Shape → Shape → Type 0
Both x y r =
    (r.size ≡ cap (x.size + y.size)) × (r.null ≡ (x.null && y.null))
    × (set_of r.first ≡ join (set_of x.first) (cond x.null (set_of y.first) 0))
    × (set_of r.last ≡ join (cond y.null (set_of x.last) 0) (set_of y.last))

abbrev pub Either : Shape → Shape → Shape → Type 0
Either x y r =
    (r.size ≡ cap (x.size + y.size)) × (r.null ≡ (x.null || y.null))
    × (set_of r.first ≡ join (set_of x.first) (set_of y.first)) × (set_of r.last ≡ join (set_of x.last) (set_of y.last))

abbrev pub Alike : Bool → Shape → Shape → Type 0
Alike n x r = (r.size ≡ x.size) × (r.null ≡ n) × (set_of r.first ≡ set_of x.first) × (set_of r.last ≡ set_of x.last)

abbrev pub Further : ℕ → Shape → Shape → Type 0
Further d x r = (r.size ≡ x.size) × (r.null ≡ x.null) × (set_of r.first ≡ further d (set_of x.first)) × (set_of r.last ≡ further d (set_of x.last))
