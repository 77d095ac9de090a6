-- Lines of pairs, one part after the other; with a number added to each offset; and those of the first bytes of a line. Assumes nothing.
use Prim.Native.Nat.{ℕ, zero, suc, ◌+◌, ◌*◌, ◌/◌, ◌%◌, ◌≤◌, ◌<◌}
use mathlib.Core.Path.{◌≡◌, refl, sym, ap, ◌∙◌}
use mathlib.Core.List.{List, [], ◌∷◌, ◌++◌, append-nil, append_assoc}
use native.Mathlib.Omega.{arith}
use lib.ListN.{length, take, drop, get_or, length-append, length-take, take-append-drop, get_or-append}
use lib.Seq.{take-add, get_or-append-add}
use Rattle.list.specs.Automaton.{start}
use Rattle.feed.specs.Engine.{run, told}
use Rattle.feed.proofs.Runs.{run-append, told-append, told-length}
use Rattle.list_flow.specs.Opening.{open_pairs}
use Rattle.list_flow.proofs.Opening.{open_pairs-long}
use Rattle.list_feed.specs.Plain.{plain, pairs_of}
use Rattle.list_renew_laws.specs.Renewed.{raised}
use Rattle.program_text.specs.Text.{line}
use Rattle.program_turn.specs.State.{whole_numbers}
use Rattle.program_turn.specs.Turn.{lines_from}
use Rattle.program_live_laws.specs.Killed.{lines_to}

-- words behind the pairs have no say
pub lines-front : (b : ℕ) (xs ys : List ℕ) (m : ℕ) → 2 * m ≤ length xs → lines_from b (xs ++ ys) m ≡ lines_from b xs m
unfolding lines_from
lines-front b xs ys zero l = refl
lines-front b xs ys (suc m) l =
    rw (lines-front b xs ys m (omega arith), get_or-append xs ys 0 (2 * m) (omega arith), get_or-append xs ys 0 (2 * m + 1) (omega arith))

pub lines-taken : (b : ℕ) (ws : List ℕ) (n : ℕ) → 2 * n ≤ length ws → lines_from b ws n ≡ lines_from b (take (2 * n) ws) n
lines-taken b ws n l =
    ap (λ (vs : List ℕ). lines_from b vs n) (sym (take-append-drop (2 * n) ws))
    ∙ lines-front b (take (2 * n) ws) (drop (2 * n) ws) n (omega (arith, l, length-take (2 * n) ws))

-- the lines of pairs behind others
pub lines-append : (b : ℕ) (xs ys : List ℕ) (m n : ℕ) → length xs ≡ 2 * m → lines_from b (xs ++ ys) (m + n) ≡ lines_from b xs m ++ lines_from b ys n
unfolding lines_from
lines-append b xs ys m zero e =
    let z : m + 0 ≡ m = omega arith in
    rw (z, append-nil (lines_from b xs m)) (lines-front b xs ys m (omega arith))
lines-append b xs ys m (suc n) e =
    let z : m + suc n ≡ suc (m + n) = omega arith in
    let g : 2 * (m + n) ≡ length xs + 2 * n = omega arith in
    let h : 2 * (m + n) + 1 ≡ length xs + (2 * n + 1) = omega arith in
    rw (z, h, g, get_or-append-add xs ys (2 * n) 0, get_or-append-add xs ys (2 * n + 1) 0, lines-append b xs ys m n e)
    (append_assoc (lines_from b xs m) (lines_from b ys n) (line (get_or ys (2 * n) 0) ((b + get_or ys (2 * n + 1) 0) % whole_numbers)))

-- ---- offsets with a number added

raised-even : (b : ℕ) (ws : List ℕ) (i : ℕ) → get_or (raised b ws) (2 * i) 0 ≡ get_or ws (2 * i) 0
unfolding raised
raised-even b [] i = refl
raised-even b (g ∷ []) i = refl
raised-even b (g ∷ (k ∷ ws)) zero = refl
raised-even b (g ∷ (k ∷ ws)) (suc i) = let e : 2 * suc i ≡ suc (suc (2 * i)) = omega arith in rw e (raised-even b ws i)

raised-odd : (b : ℕ) (ws : List ℕ) (i : ℕ) → 2 * i + 1 < length ws → get_or (raised b ws) (2 * i + 1) 0 ≡ b + get_or ws (2 * i + 1) 0
unfolding raised
raised-odd b [] i l = absurd (omega (arith, l))
raised-odd b (g ∷ []) i l = absurd (omega (arith, l))
raised-odd b (g ∷ (k ∷ ws)) zero l = refl
raised-odd b (g ∷ (k ∷ ws)) (suc i) l = let e : 2 * suc i + 1 ≡ suc (suc (2 * i + 1)) = omega arith in rw e (raised-odd b ws i (omega (arith, l)))

pub lines-raised : (b : ℕ) (ws : List ℕ) (n : ℕ) → 2 * n ≤ length ws → lines_from b ws n ≡ lines_from 0 (raised b ws) n
unfolding lines_from
lines-raised b ws zero l = refl
lines-raised b ws (suc n) l =
    let z : 0 + (b + get_or ws (2 * n + 1) 0) ≡ b + get_or ws (2 * n + 1) 0 = omega arith in
    rw (lines-raised b ws n (omega (arith, l)), raised-even b ws n, raised-odd b ws n (omega (arith, l)), z)

-- ---- the lines of the first bytes of a line

module _ (L B : List ℕ) (k m : ℕ) (within : k ≤ length B) where
  -- the frontier there, and the words of the next bytes
  abbrev pub frontier_at : ℕ
  frontier_at = run (plain L) (start L) (take k B)

  abbrev pub told_next : List ℕ
  told_next = told (plain L) frontier_at k (take m (drop k B))

  front_long : length (take k B) ≡ k
  front_long = length-take k B ∙ omega (arith, within)

  pub frontier-more : run (plain L) (start L) (take (k + m) B) ≡ run (plain L) frontier_at (take m (drop k B))
  frontier-more = ap (run (plain L) (start L)) (take-add k m B) ∙ run-append (plain L) (start L) (take k B) (take m (drop k B))

  pairs-more : pairs_of L (take (k + m) B) ≡ pairs_of L (take k B) ++ told_next
  pairs-more =
      let z : 0 + length (take k B) ≡ k = omega (arith, front_long) in
      ap (λ (bs : List ℕ). open_pairs L ++ told (plain L) (start L) 0 bs) (take-add k m B)
      ∙ ap (λ (ws : List ℕ). open_pairs L ++ ws) (told-append (plain L) (start L) 0 (take k B) (take m (drop k B)))
      ∙ rw z (sym (append_assoc (open_pairs L) (told (plain L) (start L) 0 (take k B)) told_next))

  pub pairs-even : length (pairs_of L (take k B)) ≡ 2 * (length (pairs_of L (take k B)) / 2)
  pairs-even = omega (arith, length-append (open_pairs L) (told (plain L) (start L) 0 (take k B)), open_pairs-long L, told-length (plain L) (start L) 0 (take k B))

  pub lines_more : lines_to L B (k + m) ≡ lines_to L B k ++ lines_from 0 told_next (length told_next / 2)
  lines_more =
      let P = pairs_of L (take k B) in
      let h : length (P ++ told_next) / 2 ≡ length P / 2 + length told_next / 2 = omega (arith, length-append P told_next, pairs-even) in
      ap (λ (ws : List ℕ). lines_from 0 ws (length ws / 2)) pairs-more ∙ rw h (lines-append 0 P told_next (length P / 2) (length told_next / 2) pairs-even)

pub length-raised : (b : ℕ) (ws : List ℕ) → length (raised b ws) ≡ length ws
unfolding raised
length-raised b [] = refl
length-raised b (g ∷ []) = refl
length-raised b (g ∷ (k ∷ ws)) = ap (λ (n : ℕ). suc (suc n)) (length-raised b ws)

-- the lines of the first words of a feed, by what it tells in all
pub lines-told : (b : ℕ) (ws : List ℕ) (p : ℕ) (told-words : List ℕ) → 2 * p ≤ length ws → raised b (take (2 * p) ws) ≡ told-words
    → lines_from b ws p ≡ lines_from 0 told-words (length told-words / 2)
lines-told b ws p ts l e =
    let n : length (take (2 * p) ws) ≡ 2 * p = length-take (2 * p) ws ∙ omega (arith, l) in
    let h : length ts / 2 ≡ p = omega (arith, ap length (sym e), length-raised b (take (2 * p) ws), n) in
    lines-taken b ws p l ∙ lines-raised b (take (2 * p) ws) p (omega (arith, n)) ∙ rw (e, h)
