-- A state stays one of its list, and of none that differs in one byte. Assumes nothing.
use Prim.Native.Nat.{ℕ, ◌+◌, ◌-◌, ◌*◌, ◌/◌, ◌%◌, ◌≤◌, ◌<◌}
use mathlib.Core.Path.{◌≡◌, refl, sym, ap, ◌∙◌}
use mathlib.Core.Bool.{Bool, true, false, cond, true≢false}
use mathlib.Core.List.{List, [], ◌∷◌, ◌++◌}
use mathlib.Core.Logic.{inl}
use native.Mathlib.Omega.{arith}
use native.Mathlib.Decide.{dec_lt}
use native.Mathlib.Nat.{div-add-mod, add-mul-mod_self_right}
use lib.ListN.{length, take, drop, replicate, length-replicate}
use lib.Dec.{eqb, leb}
use borrow.Author.Tests.{eqb-true, eq-eqb, leb-true}
use Rattle.numbers.specs.Number.{num, digits, placed}
use Rattle.numbers.proofs.Laws.{num-digits, length_digits}
use Rattle.feed.specs.Opening.{Opening}
use Rattle.list_flow.specs.Flow.{offset_of}
use Rattle.list_flow.specs.Opening.{open_flow}
use Rattle.list_renew.specs.Renewal.{renewal}
use Rattle.program_turn.specs.State.{state_size, whole_numbers, long_at, word_at, flow_of, length_at, sum_at, kind_at, first_at, held_start_at, held_length_at, before_at, place_at, lines_at, flow_at, held_at, bytes_kind, segments_kind, near, numbered, renew_on, renewed_state, sum_from, sum_of, is_state_of, fresh_state}
use Rattle.program_turn.proofs.Laws.{sum-append}
use Rattle.program_turn.specs.Turn.{Turn, Given, no_words, no_record, is_end, plain_given, segment_given, given_of, feed_turn, turn_of, open_turn, last_turn, lines_turn}
use Rattle.program_live_laws.specs.Lists.{ListsKept}
use Rattle.program_live_laws.proofs.Parts.{part-other, Put, number, Fit, put_same, put-size}

-- ---- the first 16 bytes stay

abbrev Same : List ℕ → List ℕ → Type 0
Same S T = (a n : ℕ) → a + n ≤ 16 → take n (drop a T) ≡ take n (drop a S)

-- what is put behind them, where it fits or not
put-behind : (S : List ℕ) (at : ℕ) (xs : List ℕ) → 16 ≤ at → Same S (placed S at xs)
unfolding placed
put-behind S at xs l a n h = go (leb (at + length xs) (length S)) refl
  where
    go : (t : Bool) → leb (at + length xs) (length S) ≡ t → take n (drop a (cond t (take at S ++ (xs ++ drop (at + length xs) S)) S)) ≡ take n (drop a S)
    go true e = rw e at (part-other S at xs (leb-true (at + length xs) (length S) e) a n (inl (omega (arith, l, h))))
    go false e = refl

then_same : {S T U : List ℕ} → Same S T → Same T U → Same S U
then_same p q a n h = q a n h ∙ p a n h

same-list : (M S T : List ℕ) → Same S T → is_state_of M T ≡ is_state_of M S
unfolding is_state_of
same-list M S T p = rw (p length_at 8 (omega arith), p sum_at 8 (omega arith))

-- two such parts, or none
twice-behind : (S : List ℕ) (at : ℕ) (xs : List ℕ) (to : ℕ) (ys : List ℕ) → 16 ≤ at → 16 ≤ to → (t : Bool) → Same S (cond t (placed (placed S at xs) to ys) S)
twice-behind S at xs to ys l m true = then_same (put-behind S at xs l) (put-behind (placed S at xs) to ys m)
twice-behind S at xs to ys l m false = λ a n h. refl

numbered-same : (v : ℕ) (S : List ℕ) → Same S (numbered v S)
unfolding numbered
numbered-same v S = twice-behind S first_at (digits 8 4 v) kind_at _ (omega arith) (omega arith) (eqb (word_at S kind_at) segments_kind)

renewed-same : (S : List ℕ) → Same S (renew_on S)
unfolding renew_on
renewed-same S = go (leb (offset_of (flow_of S)) near) (eqb (renewal (flow_of S)).refusal 0)
  where
    go : (t u : Bool) → Same S (cond t S (cond u (renewed_state S) S))
    go true u = λ a n h. refl
    go false false = λ a n h. refl
    go false true = then_same (then_same (put-behind S flow_at _ (omega arith)) (put-behind _ before_at _ (omega arith))) (put-behind _ first_at _ (omega arith))

given-same : (L S : List ℕ) (start : ℕ) (rest out : List ℕ) → Same S (given_of L S start rest out).saved
unfolding given_of
given-same L S start rest out = go (eqb (word_at S kind_at) bytes_kind)
  where
    go : (t : Bool) → Same S (cond t (plain_given L S rest out) (segment_given L S start rest out)).saved
    go true = put-behind S flow_at _ (omega arith)
    go false =
        then_same (then_same (then_same (put-behind S flow_at _ (omega arith)) (put-behind _ held_at _ (omega arith))) (put-behind _ held_start_at _ (omega arith)))
        (put-behind _ held_length_at _ (omega arith))

-- the counts of a turn
lines_same : (keeping : Bool) (n done moved : ℕ) (again : Bool) (ws S : List ℕ) (start : ℕ) → Same S (lines_turn keeping n done moved again ws S start).saved
lines_same keeping n done moved again ws S start = then_same (put-behind S place_at _ (omega arith)) (put-behind _ lines_at _ (omega arith))

opened-same : (keeping : Bool) (L S : List ℕ) → Same S (open_turn keeping L S).saved
unfolding open_turn
opened-same keeping L S = go (eqb o.refusal 0)
  where
    o : Opening
    o = open_flow L no_record no_words

    T : List ℕ
    T = placed S flow_at o.saved

    go : (t : Bool) → Same S (cond t (lines_turn keeping o.pairs 0 0 false o.words T 0) (last_turn o.refusal S)).saved
    go true = then_same (put-behind S flow_at o.saved (omega arith)) (lines_same keeping o.pairs 0 0 false o.words T 0)
    go false = λ a n h. refl

turned_same : (keeping saving : Bool) (L S : List ℕ) (more : Bool) (start : ℕ) (rest : List ℕ) → Same S (turn_of keeping saving L S more start rest).saved
unfolding turn_of feed_turn
turned_same keeping saving L S more start rest = go saving (is_end S more (length rest)) (eqb g.refusal 0)
  where
    T : List ℕ
    T = renew_on (numbered start S)

    g : Given
    g = given_of L T start rest no_words

    fed : Turn
    fed = lines_turn keeping g.pairs g.done g.moved g.again g.words g.saved start

    given : Same S g.saved
    given = then_same (then_same (numbered-same start S) (renewed-same (numbered start S))) (given-same L T start rest no_words)

    go : (a e z : Bool) → Same S (cond a (record { last = false; saving = false; done = 0; text = S; saved = S }) (cond e (last_turn 0 S) (cond z fed (last_turn g.refusal g.saved)))).saved
    go true e z = λ a n h. refl
    go false true z = λ a n h. refl
    go false false true = then_same given (lines_same keeping g.pairs g.done g.moved g.again g.words g.saved start)
    go false false false = given

-- ---- a fresh state

sum_below : (s : ℕ) (xs : List ℕ) → s < 4294967291 → sum_from s xs < 4294967291
unfolding sum_from
sum_below s [] l = l
sum_below s (x ∷ xs) l = sum_below ((s * 257 + x) % 4294967291) xs (omega arith)

fresh-own : (L : List ℕ) (kind : ℕ) → length L < whole_numbers → is_state_of L (fresh_state L kind (replicate state_size 0)) ≡ true
unfolding is_state_of
fresh-own L kind l =
    rw (eq-eqb (long_at (fresh_state L kind zeros) length_at) (length L) length-is, eq-eqb (long_at (fresh_state L kind zeros) sum_at) (sum_of L) sum_is)
  where
    zeros : List ℕ
    zeros = replicate state_size 0

    p₁ : Put
    p₁ = number length_at 8 (length L)

    p₂ : Put
    p₂ = number sum_at 8 (sum_of L)

    p₃ : Put
    p₃ = number kind_at 4 kind

    f₂ : Fit (p₂ ∷ p₃ ∷ [])
    f₂ = (length_digits 8 8 (sum_of L), refl, (length_digits 8 4 kind, refl, tt))

    f₁ : Fit (p₁ ∷ p₂ ∷ p₃ ∷ [])
    f₁ = (length_digits 8 8 (length L), refl, f₂)

    size : length zeros ≡ state_size
    size = length-replicate {A = ℕ} state_size 0

    length-is : long_at (fresh_state L kind (replicate state_size 0)) length_at ≡ length L
    length-is = ap (num 8) (put_same p₁ (p₂ ∷ p₃ ∷ []) zeros size f₁ refl) ∙ num-digits 8 8 (length L) l

    sum_is : long_at (fresh_state L kind (replicate state_size 0)) sum_at ≡ sum_of L
    sum_is =
        ap (num 8) (put_same p₂ (p₃ ∷ []) (placed zeros length_at (digits 8 8 (length L))) (put-size (p₁ ∷ []) zeros ∙ size) f₂ refl)
        ∙ num-digits 8 8 (sum_of L) (omega (arith, sum_below 0 L (omega arith)))

-- ---- each byte counts

no-multiple : (d h : ℕ) → d ≡ 4294967291 * h → d < 4294967291 → d ≡ 0
no-multiple d h m l = omega (arith, m, l)

-- 257 and the modulus have no common factor: a multiple of 257, less 4, is the modulus
coprime-by : (d e f h : ℕ) → 257 * d ≡ 4294967291 * e → f + d ≡ 16711935 * e → h + 64 * f ≡ e → d < 4294967291 → d ≡ 0
coprime-by d e f h q p r l =
    let j : 257 * f ≡ 4 * e = omega (arith, p, q) in
    let i : f ≡ 4 * h = omega (arith, j, r) in
    let k : e ≡ 257 * h = omega (arith, i, r) in
    let m : d ≡ 4294967291 * h = omega (arith, p, i, k) in
    no-multiple d h m l

coprime : (d e : ℕ) → 257 * d ≡ 4294967291 * e → d < 4294967291 → d ≡ 0
coprime d e q l =
    let p : 16711935 * e - d + d ≡ 16711935 * e = omega (arith, q) in
    coprime-by d e (16711935 * e - d) (e - 64 * (16711935 * e - d)) q p (omega (arith, p, q)) l

-- so a step forgets nothing
step-least : (s t x : ℕ) → t ≤ s → s < 4294967291 → (s * 257 + x) % 4294967291 ≡ (t * 257 + x) % 4294967291 → s ≡ t
step-least s t x l a e =
    let u = div-add-mod (s * 257 + x) 4294967291 in
    let v = div-add-mod (t * 257 + x) 4294967291 in
    let m = (s * 257 + x) / 4294967291 in
    let n = (t * 257 + x) / 4294967291 in
    let q : 257 * (s - t) ≡ 4294967291 * (m - n) = omega (arith, u, v, e, l) in
    omega (arith, coprime (s - t) (m - n) q (omega (arith, a)), l)

step-one : (s t x : ℕ) → s < 4294967291 → t < 4294967291 → (s * 257 + x) % 4294967291 ≡ (t * 257 + x) % 4294967291 → s ≡ t
step-one s t x a b e = elim (dec_lt s t) [ yes l ↦ sym (step-least t s x (omega (arith, l)) b (sym e)) | no l ↦ step-least s t x (omega (arith, l)) a e ]

sum_one : (s t : ℕ) (xs : List ℕ) → s < 4294967291 → t < 4294967291 → sum_from s xs ≡ sum_from t xs → s ≡ t
unfolding sum_from
sum_one s t [] a b e = e
sum_one s t (x ∷ xs) a b e = step-one s t x a b (sum_one ((s * 257 + x) % 4294967291) ((t * 257 + x) % 4294967291) xs (omega arith) (omega arith) e)

byte_one : (s b c : ℕ) → b < 256 → c < 256 → (s * 257 + b) % 4294967291 ≡ (s * 257 + c) % 4294967291 → b ≡ c
byte_one s b c l m e = omega (arith, e)

sums-differ : (xs ys : List ℕ) (b c : ℕ) → b < 256 → c < 256 → sum_of (xs ++ (b ∷ ys)) ≡ sum_of (xs ++ (c ∷ ys)) → b ≡ c
unfolding sum_from
sums-differ xs ys b c l m e =
    let s = sum_from 0 xs in
    byte_one s b c l m (sum_one ((s * 257 + b) % 4294967291) ((s * 257 + c) % 4294967291) ys (omega arith) (omega arith) (sym (sum-append 0 xs (b ∷ ys)) ∙ e ∙ sum-append 0 xs (c ∷ ys)))

own-means : (L S : List ℕ) → is_state_of L S ≡ true → (long_at S length_at ≡ length L) × (long_at S sum_at ≡ sum_of L)
unfolding is_state_of
own-means L S = go (eqb (long_at S length_at) (length L)) refl
  where
    go : (t : Bool) → eqb (long_at S length_at) (length L) ≡ t → cond t (eqb (long_at S sum_at) (sum_of L)) false ≡ true → (long_at S length_at ≡ length L) × (long_at S sum_at ≡ sum_of L)
    go true e h = (eqb-true (long_at S length_at) (length L) e, eqb-true (long_at S sum_at) (sum_of L) h)
    go false e h = absurd (true≢false (sym h))

alike : (L M S : List ℕ) → is_state_of L S ≡ true → is_state_of M S ≡ true → (length L ≡ length M) × (sum_of L ≡ sum_of M)
alike L M S p q =
    let a = own-means L S p in
    let b = own-means M S q in
    (sym a.0 ∙ b.0, sym a.1 ∙ b.1)

one_byte : (xs ys S : List ℕ) (b c : ℕ) → b < 256 → c < 256 → (b ≡ c → ⊥) → is_state_of (xs ++ (b ∷ ys)) S ≡ true → is_state_of (xs ++ (c ∷ ys)) S ≡ false
one_byte xs ys S b c l m d p = go (is_state_of (xs ++ (c ∷ ys)) S) refl
  where
    go : (t : Bool) → is_state_of (xs ++ (c ∷ ys)) S ≡ t → is_state_of (xs ++ (c ∷ ys)) S ≡ false
    go true e = absurd (d (sums-differ xs ys b c l m (alike (xs ++ (b ∷ ys)) (xs ++ (c ∷ ys)) S p e).1))
    go false e = e

-- two steps in one
in_one : (s b c : ℕ) → ((s * 257 + b) % 4294967291 * 257 + c) % 4294967291 ≡ (s * 66049 + (b * 257 + c)) % 4294967291
in_one s b c =
    let q = div-add-mod (s * 257 + b) 4294967291 in
    let r = (s * 257 + b) % 4294967291 in
    let n = (s * 257 + b) / 4294967291 in
    let e : s * 66049 + (b * 257 + c) ≡ r * 257 + c + n * 257 * 4294967291 = omega (arith, q) in
    sym (rw e (add-mul-mod_self_right (r * 257 + c) (n * 257) 4294967291))

near-one : (a x y : ℕ) → x < 4294967291 → y < 4294967291 → (a + x) % 4294967291 ≡ (a + y) % 4294967291 → x ≡ y
near-one a x y l m e = omega (arith, e)

pair-below : (b c : ℕ) → b < 256 → c < 256 → b * 257 + c < 4294967291
pair-below b c l m = omega arith

apart-so : (b c d e : ℕ) → c < 256 → e < 256 → b * 257 + c ≡ d * 257 + e → (b ≡ d) × (c ≡ e)
apart-so b c d e l m w = let h : b ≡ d = omega (arith, w) in (h, omega (arith, w, h))

-- two steps keep two bytes apart
pair_one : (s b c d e : ℕ) → b < 256 → c < 256 → d < 256 → e < 256
    → ((s * 257 + b) % 4294967291 * 257 + c) % 4294967291 ≡ ((s * 257 + d) % 4294967291 * 257 + e) % 4294967291 → (b ≡ d) × (c ≡ e)
pair_one s b c d e lb lc ld le q =
    let u : ((s * 257 + b) % 4294967291 * 257 + c) % 4294967291 ≡ (s * 66049 + (b * 257 + c)) % 4294967291 = in_one s b c in
    let v : ((s * 257 + d) % 4294967291 * 257 + e) % 4294967291 ≡ (s * 66049 + (d * 257 + e)) % 4294967291 = in_one s d e in
    let w : b * 257 + c ≡ d * 257 + e = near-one (s * 66049) (b * 257 + c) (d * 257 + e) (pair-below b c lb lc) (pair-below d e ld le) (sym u ∙ q ∙ v) in
    apart-so b c d e lc le w

two_bytes : (xs ys S : List ℕ) (b c d e : ℕ) → b < 256 → c < 256 → d < 256 → e < 256 → ((b ≡ d) × (c ≡ e) → ⊥)
    → is_state_of (xs ++ (b ∷ c ∷ ys)) S ≡ true → is_state_of (xs ++ (d ∷ e ∷ ys)) S ≡ false
unfolding sum_from
two_bytes xs ys S b c d e lb lc ld le n p = go (is_state_of (xs ++ (d ∷ e ∷ ys)) S) refl
  where
    go : (t : Bool) → is_state_of (xs ++ (d ∷ e ∷ ys)) S ≡ t → is_state_of (xs ++ (d ∷ e ∷ ys)) S ≡ false
    go true q =
        absurd
        (n
        (pair_one (sum_from 0 xs) b c d e lb lc ld le
        (sum_one _ _ ys (omega arith) (omega arith)
        (sym (sum-append 0 xs (b ∷ c ∷ ys)) ∙ (alike (xs ++ (b ∷ c ∷ ys)) (xs ++ (d ∷ e ∷ ys)) S p q).1 ∙ sum-append 0 xs (d ∷ e ∷ ys)))))
    go false q = q

pub lists-kept : ListsKept
lists-kept =
    record {
      fresh = fresh-own;
      opened = λ keeping L M S. same-list M S (open_turn keeping L S).saved (opened-same keeping L S);
      turned = λ keeping saving L M S more start rest. same-list M S (turn_of keeping saving L S more start rest).saved (turned_same keeping saving L S more start rest);
      alike = alike;
      one_byte = one_byte;
      two_bytes = two_bytes;
    }
