-- What arrives is a front of what an undisturbed run says. Only the last line has letters, and its line feed is its end: a front that has a letter and ends in a line feed is all of it. Assumes nothing.
use Prim.Native.Nat.{ℕ, zero, suc, ◌+◌, ◌*◌, ◌-◌, ◌/◌, ◌%◌, ◌≤◌, ◌<◌}
use mathlib.Core.Path.{◌≡◌, refl, sym, ap, ◌∙◌}
use mathlib.Core.Bool.{Bool, true, false, cond, true≢false}
use mathlib.Core.List.{List, [], ◌∷◌, ◌++◌, append_assoc}
use native.Mathlib.Omega.{arith}
use native.Mathlib.Nat.{lt_of_not-le}
use native.Mathlib.Decide.{dec_lt}
use lib.ListN.{length, take, drop, get_or, length-append, take-append-drop, get_or-append}
use lib.Seq.{take_all, take-append_seam, length-take-le, get_or-take, get_or-append-add}
use lib.Dec.{eqb, ltb}
use borrow.Author.Tests.{lt-ltb, ltb-true}
use Rattle.io.specs.Digits.{last_digits, hex_digit_ascii}
use Rattle.list.specs.List.{list_refusal}
use Rattle.list_feed.specs.Plain.{pairs_of}
use Rattle.program_text.specs.Text.{places, decimal, line, lines, end_word, refused_word, last_line}
use Rattle.program_text.specs.Hand.{handed, joined}
use Rattle.program_text.proofs.Handed.{joined-append, handed-front}
use Rattle.program.specs.App.{texts}
use Rattle.program.specs.Words.{lines_of, lines_due}
use Rattle.program.proofs.Output.{undisturbed, output}

-- P holds of each element
abbrev Each : (ℕ → Type 0) → List ℕ → Type 0
Each P xs = (i : ℕ) → i < length xs → P (get_or xs i 0)

module _ (P : ℕ → Type 0) where
  each_none : Each P []
  each_none i l = absurd (omega (arith, l))

  each_more : (x : ℕ) (xs : List ℕ) → P x → Each P xs → Each P (x ∷ xs)
  each_more x xs p h zero l = p
  each_more x xs p h (suc i) l = h i (omega (arith, l))

  each_append : (xs ys : List ℕ) → Each P xs → Each P ys → Each P (xs ++ ys)
  each_append [] ys h k = k
  each_append (x ∷ xs) ys h k = each_more x (xs ++ ys) (h 0 (omega arith)) (each_append xs ys (λ i l. h (suc i) (omega (arith, l))) k)

  -- the digits of a number
  each-decimal : ((d : ℕ) → d < 10 → P (48 + d)) → (n : ℕ) → Each P (decimal n)
  unfolding decimal
  each-decimal g n = go (places 19 n) n
    where
      go : (k n : ℕ) → Each P (last_digits 10 k n)
      go zero n = each_none
      go (suc k) n =
          let l : n % 10 < 10 = omega arith in
          each_append (last_digits 10 k (n / 10)) (hex_digit_ascii (n % 10) ∷ []) (go k (n / 10)) (each_more (hex_digit_ascii (n % 10)) [] (rw (lt-ltb (n % 10) 10 l) (g (n % 10) l)) each_none)

-- a letter: from `a` on
abbrev pub Letter : ℕ → Type 0
Letter x = 97 ≤ x

-- lines of pairs have none
lines-small : (ws : List ℕ) (n : ℕ) → Each (λ x. x < 97) (lines ws n)
unfolding lines line
lines-small ws zero = each_none (λ x. x < 97)
lines-small ws (suc n) =
    let P : ℕ → Type 0 = (λ x. x < 97) in
    let d : (m : ℕ) → Each P (decimal m) = each-decimal P (λ e l. omega (arith, l)) in
    let g = get_or ws (2 * n) 0 in
    let k = get_or ws (2 * n + 1) 0 in
    each_append P (lines ws n) (decimal g ++ (32 ∷ []) ++ decimal k ++ (10 ∷ [])) (lines-small ws n)
    (each_append P (decimal g ++ (32 ∷ []) ++ decimal k) (10 ∷ [])
    (each_append P (decimal g ++ (32 ∷ [])) (decimal k) (each_append P (decimal g) (32 ∷ []) (d g) (each_more P 32 [] (omega arith) (each_none P))) (d k))
    (each_more P 10 [] (omega arith) (each_none P)))

due-small : (L bs : List ℕ) → Each (λ x. x < 97) (lines_due L bs)
due-small L bs = go (eqb (list_refusal L) 0)
  where
    go : (b : Bool) → Each (λ x. x < 97) (cond b (lines_of (pairs_of L bs)) [])
    go true = lines-small _ _
    go false = each_none (λ x. x < 97)

-- no line feed, and then one: so is the last line
record Closed (xs : List ℕ) : Type 0 where
  body : List ℕ
  over : Each (λ x. 10 < x) body
  ends : xs ≡ body ++ (10 ∷ [])

-- each is above a line feed, by computing
abbrev above : List ℕ → Bool
above [] = true
above (x ∷ xs) = cond (ltb 10 x) (above xs) false

above-each : (xs : List ℕ) → above xs ≡ true → Each (λ x. 10 < x) xs
above-each [] e = each_none (λ x. 10 < x)
above-each (x ∷ xs) e = go (ltb 10 x) refl e (above-each xs)
  where
    go : (b : Bool) → ltb 10 x ≡ b → cond b (above xs) false ≡ true → (above xs ≡ true → Each (λ y. 10 < y) xs) → Each (λ y. 10 < y) (x ∷ xs)
    go true p q ih = each_more (λ y. 10 < y) x xs (ltb-true 10 x p) (ih q)
    go false p q ih = absurd (true≢false (sym q))

closed : (word : List ℕ) (n : ℕ) → Each (λ x. 10 < x) word → Closed (word ++ decimal n ++ (10 ∷ []))
closed word n h =
    let P : ℕ → Type 0 = (λ x. 10 < x) in
    record { body = word ++ decimal n; over = each_append P word (decimal n) h (each-decimal P (λ e l. omega (arith, l)) n); ends = refl }

last-closed : (refusal at : ℕ) → Closed (last_line refusal at)
unfolding last_line
last-closed refusal at = go (eqb refusal 0)
  where
    go : (b : Bool) → Closed (cond b (end_word ++ decimal at ++ (10 ∷ [])) (refused_word ++ decimal refusal ++ (10 ∷ [])))
    go true = closed end_word at (above-each end_word refl)
    go false = closed refused_word refusal (above-each refused_word refl)

-- a front of lines without letters and a last line that has a letter and ends in a line feed
front-whole : (ls xs : List ℕ) → Each (λ x. x < 97) ls → Closed xs → (m i : ℕ) → let out = take m (ls ++ xs) in
    i < length out → Letter (get_or out i 0) → get_or out (length out - 1) 0 ≡ 10 → out ≡ ls ++ xs
front-whole ls xs small c m i l g e =
    elim (dec_lt m (length (ls ++ xs))) [
      | yes h ↦ absurd (short h)
      | no h ↦ take_all m (ls ++ xs) (omega (arith, lt_of_not-le (λ (k : suc m ≤ length (ls ++ xs)). h k)))
    ]
  where
    short : m < length (ls ++ xs) → ⊥
    short h =
        let n : length (take m (ls ++ xs)) ≡ m = length-take-le m (ls ++ xs) (omega (arith, h)) in
        let s : length (ls ++ xs) ≡ length ls + length xs = length-append ls xs in
        let t : length xs ≡ length c.body + 1 = ap length c.ends ∙ length-append c.body (10 ∷ []) in
        let a : get_or (take m (ls ++ xs)) i 0 ≡ get_or (ls ++ xs) i 0 = get_or-take m (ls ++ xs) i 0 (omega (arith, l, n)) in
        elim (dec_lt i (length ls)) [
          | yes b ↦ omega (arith, small i b, g, a, get_or-append ls xs 0 i b)
          | no b ↦
              let r : length ls ≤ i = omega (arith, lt_of_not-le (λ (k : suc i ≤ length ls). b k)) in
              let j : ℕ = m - 1 - length ls in
              let f : m - 1 ≡ length ls + j = omega (arith, l, n, r) in
              let q : get_or (take m (ls ++ xs)) (length (take m (ls ++ xs)) - 1) 0 ≡ get_or c.body j 0 =
              ap (λ (k : ℕ). get_or (take m (ls ++ xs)) (k - 1) 0) n
              ∙ get_or-take m (ls ++ xs) (m - 1) 0 (omega (arith, l, n))
              ∙ ap (λ (k : ℕ). get_or (ls ++ xs) k 0) f
              ∙ get_or-append-add ls xs j 0
              ∙ ap (λ (ys : List ℕ). get_or ys j 0) c.ends
              ∙ get_or-append c.body (10 ∷ []) 0 j (omega (arith, h, s, t, f, l, n)) in
              omega (arith, c.over j (omega (arith, h, s, t, f, l, n)), q, e)
        ]

-- what is handed over is a front of what an undisturbed run says, and so is every front of it
arrives : (L B answers : List ℕ) (m : ℕ) → let out = take m (joined (handed (texts L B) answers)) in take (length out) (joined (texts L B)) ≡ out
arrives L B answers m =
    let all = joined (handed (texts L B) answers) in
    let f = handed-front (texts L B) answers in
    let e : joined (texts L B) ≡ take m all ++ (drop m all ++ joined f.0) =
    ap joined f.1 ∙ joined-append (handed (texts L B) answers) f.0
    ∙ ap (λ (xs : List ℕ). xs ++ joined f.0) (sym (take-append-drop m all)) ∙ append_assoc (take m all) (drop m all) (joined f.0) in
    ap (take (length (take m all))) e ∙ take-append_seam (take m all) (drop m all ++ joined f.0)

-- whatever the answers: a front of what is handed over that has a letter and a line feed at its end is all that an undisturbed run says
pub nothing-lost : (L B answers : List ℕ) (m i : ℕ) → let out = take m (joined (handed (texts L B) answers)) in
    i < length out → Letter (get_or out i 0) → get_or out (length out - 1) 0 ≡ 10 → out ≡ joined (texts L B)
nothing-lost L B answers m i l g e =
    let u = undisturbed L B in
    let w = arrives L B answers m in
    let o = output L B in
    sym w
    ∙ rw o (front-whole (lines_due L (take u.bytes B)) (last_line u.refusal u.bytes) (due-small L (take u.bytes B)) (last-closed u.refusal u.bytes)
    (length (take m (joined (handed (texts L B) answers)))) i (rw (← w, o) at l) (rw (← w, o) at g) (rw (← w, o) at e))
