-- The states that the loop looks out for: a frontier that holds none of them accepts nothing, and has no state past the first words. Assumes nothing.
use Prim.Native.Nat.{ℕ, zero, suc, ◌+◌, ◌-◌, ◌*◌, ◌/◌, ◌%◌, ◌^◌, ◌≤◌, ◌<◌}
use mathlib.Core.Path.{◌≡◌, refl, sym, ap, ◌∙◌}
use mathlib.Core.Bool.{Bool, true, false, cond}
use mathlib.Core.List.{List}
use native.Mathlib.Omega.{arith}
use native.Mathlib.Decide.{dec_lt}
use native.Mathlib.Nat.{lt_of_not-le, zero-mul}
use lib.ListN.{length, get_or, get_or-eq_default, take, drop, replicate, length-drop, length-append, length-replicate, get_or-append, get_or-replicate}
use mathlib.Core.List.{◌++◌}
use lib.Seq.{get_or-take, get_or-append-add, length-take-le, drop-length}
use borrow.Rule.Slice.PartMut.{put_mid}
use Rattle.std.proofs.lemmas.List.{append-nil, drop-drop}
use lib.Dec.{leb, eqb, lit<}
use lib.Pow.{split, shr-shr, high, ones_split, ones_lt, pow_pos}
use borrow.Author.Tests.{eq-eqb, le-leb, lt-leb}
use Rattle.numbers.specs.Number.{num, bit}
use Rattle.sets.specs.Set.{set_words, states, holds, meets}
use Rattle.numbers.proofs.Laws.{Small}
use Rattle.sets.proofs.Sets.{Words, holds-num, holds-empty, holds-past, word_holds, set-ext}
use Rattle.sets.proofs.Meets.{apart-exactly}

-- a set that holds nothing from m on is below 2 ^ m
pub none-past : (m F : ℕ) → ((s : ℕ) → m ≤ s → holds F s ≡ false) → F < 2 ^ m
unfolding holds
none-past m F h =
    let z : F / 2 ^ m ≡ 0 = set-ext (F / 2 ^ m) 0 (λ t. up t ∙ h (m + t) (omega arith) ∙ sym (holds-empty t)) in
    let e = split F m in
    let l = native.Mathlib.Nat.mod-lt F (pow_pos m) in
    omega (arith, e, l, ap (λ (x : ℕ). x * 2 ^ m) z, zero-mul (2 ^ m))
  where
    up : (t : ℕ) → holds (F / 2 ^ m) t ≡ holds F (m + t)
    up t = ap (λ (x : ℕ). eqb (x % 2) 1) (shr-shr F m t)

-- the word with all ones holds each of its places
all_ones : (j : ℕ) → j < 64 → bit 18446744073709551615 j ≡ 1
all_ones j h =
    let e : (64 - j) + j ≡ 64 = omega arith in
    let s : 2 ^ 64 - 1 ≡ (2 ^ (64 - j) - 1) * 2 ^ j + (2 ^ j - 1) = ap (λ (k : ℕ). 2 ^ k - 1) (sym e) ∙ ones_split (64 - j) j in
    let d : (2 ^ 64 - 1) / 2 ^ j ≡ 2 ^ (64 - j) - 1 = ap (λ (x : ℕ). x / 2 ^ j) s ∙ high (2 ^ (64 - j) - 1) j (ones_lt j) in
    ap (λ (x : ℕ). x % 2) d ∙ odd (64 - j) (omega arith)
  where
    odd : (k : ℕ) → zero < k → (2 ^ k - 1) % 2 ≡ 1
    odd zero l = absurd (omega arith)
    odd (suc k) l = let p : 2 ^ suc k ≡ 2 ^ k * 2 = native.Mathlib.Nat.pow-suc 2 k in omega (arith, pow_pos k)

-- the words of a set, with all ones from word `wide` on, as far as word i
abbrev pub Widened : List ℕ → ℕ → ℕ → List ℕ → Type 0
Widened a wide i w = (length w ≡ set_words) × ((j : ℕ) → j < i → get_or w j 0 ≡ cond (leb wide j) 18446744073709551615 (get_or a j 0)) × ((j : ℕ) → i ≤ j → get_or w j 0 ≡ get_or a j 0) × Small 64 w

-- the first m words of a set, and all ones behind them
module _ (a R : List ℕ) (wide m : ℕ) (v : Words set_words a) (room : m ≤ set_words) (low : m ≤ wide) (up : (j : ℕ) → j < set_words → j < wide → j < m)
    (r : R ≡ replicate (set_words - m) 18446744073709551615) where
  front-long : length (take m a) ≡ m
  front-long = length-take-le m a (omega (arith, v.long))

  all-long : length (take m a ++ R) ≡ set_words
  all-long = length-append (take m a) R ∙ omega (arith, front-long, ap length r ∙ length-replicate (set_words - m) 18446744073709551615)

  in_front : (j : ℕ) → j < m → get_or (take m a ++ R) j 0 ≡ get_or a j 0
  in_front j h = get_or-append (take m a) R 0 j (omega (arith, h, front-long)) ∙ get_or-take m a j 0 h

  behind : (j : ℕ) → m ≤ j → j < set_words → get_or (take m a ++ R) j 0 ≡ 18446744073709551615
  behind j h k =
      let e : length (take m a) + (j - m) ≡ j = omega (arith, front-long) in
      ap (λ (n : ℕ). get_or (take m a ++ R) n 0) (sym e) ∙ get_or-append-add (take m a) R (j - m) 0 ∙ ap (λ (ys : List ℕ). get_or ys (j - m) 0) r
      ∙ get_or-replicate (set_words - m) (j - m) 18446744073709551615 0 (omega arith)

  past_all : (j : ℕ) → set_words ≤ j → get_or (take m a ++ R) j 0 ≡ 0
  past_all j h = get_or-eq_default (take m a ++ R) 0 (omega (arith, all-long))

  pub widened-fill : Widened a wide set_words (take m a ++ R)
  widened-fill = (
    all-long,
    λ j h.
        elim (dec_lt j wide) [
          | yes l ↦ in_front j (up j h l) ∙ sym (rw (lt-leb wide j l))
          | no n ↦ let k : wide ≤ j = omega (arith, lt_of_not-le (λ (l : suc j ≤ wide). n l)) in behind j (omega (arith, k, low)) h ∙ sym (rw (le-leb wide j k))
        ],
    λ j h. past_all j h ∙ sym (get_or-eq_default a 0 (omega (arith, v.long))),
    λ j.
        elim (dec_lt j m) [
          | yes l ↦ rw (in_front j l) (v.small j)
          | no n ↦
              elim (dec_lt j set_words) [
                | yes k ↦ rw (behind j (omega (arith, lt_of_not-le (λ (l : suc j ≤ m). n l))) k) (lit< tt)
                | no q ↦ rw (past_all j (omega (arith, lt_of_not-le (λ (l : suc j ≤ set_words). q l)))) (lit< tt)
              ]
        ],
  )

pub filled-rest : (a R : List ℕ) (m : ℕ) → Words set_words a → m ≤ set_words → R ≡ replicate (length (take (set_words - m) (drop m a))) 18446744073709551615
    → R ≡ replicate (set_words - m) 18446744073709551615
filled-rest a R m v room r =
    r ∙ ap (λ (n : ℕ). replicate n 18446744073709551615) (length-take-le (set_words - m) (drop m a) (simp length-drop (omega (arith, v.long))))

pub filled-end : (a R : List ℕ) (m : ℕ) → Words set_words a → m ≤ set_words → put_mid m (set_words - m) a R ≡ take m a ++ R
filled-end a R m v room =
    let e : m + (set_words - m) ≡ length a = omega (arith, v.long) in
    ap (λ (zs : List ℕ). take m a ++ (R ++ zs)) (drop-drop (set_words - m) m a ∙ ap (λ (n : ℕ). drop n a) e ∙ drop-length a) ∙ ap (λ (zs : List ℕ). take m a ++ zs) (append-nil R)

-- what it says of a frontier that holds none of them
pub looked-out : (a w : List ℕ) (wide : ℕ) → Words set_words a → Widened a wide set_words w → (F : ℕ) → F < 2 ^ states → meets F (num 64 w) ≡ false
    → (meets F (num 64 a) ≡ false) × (F < 2 ^ (64 * wide))
looked-out a w wide va v F h_f e = ((apart-exactly F (num 64 a)).1 (λ s f g. out s f (kept s g)), none-past (64 * wide) F (λ s l. past s l (holds F s) refl))
  where
    out : (s : ℕ) → holds F s ≡ true → holds (num 64 w) s ≡ true → ⊥
    out s f g = (apart-exactly F (num 64 w)).0 e s f g

    there : (s : ℕ) → eqb (bit (get_or w (s / 64) 0) (s % 64)) 1 ≡ true → holds (num 64 w) s ≡ true
    there s q = holds-num 64 w v.3 (lit< tt) s ∙ q

    wider : (s : ℕ) → s / 64 < set_words → wide ≤ s / 64 → holds (num 64 w) s ≡ true
    wider s l k = there s (rw (v.1 (s / 64) l, le-leb wide (s / 64) k) (eq-eqb _ _ (all_ones (s % 64) (omega arith))))

    kept : (s : ℕ) → holds (num 64 a) s ≡ true → holds (num 64 w) s ≡ true
    kept s g =
        let r = word_holds set_words a va s g in
        elim (dec_lt (s / 64) wide) [
          | yes l ↦ there s (rw (v.1 (s / 64) r.0, lt-leb wide (s / 64) l) (sym (holds-num 64 a va.small (lit< tt) s) ∙ g))
          | no n ↦ wider s r.0 (omega (arith, lt_of_not-le (λ (l : suc (s / 64) ≤ wide). n l)))
        ]

    past : (s : ℕ) → 64 * wide ≤ s → (b : Bool) → holds F s ≡ b → holds F s ≡ false
    past s l false q = q
    past s l true q = elim (dec_lt s states) [ yes k ↦ absurd (out s q (wider s (omega arith) (omega arith))) | no n ↦ holds-past states F s h_f (omega (arith, lt_of_not-le (λ (k : suc s ≤ states). n k))) ]
