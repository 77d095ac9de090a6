-- The filler: what its loops leave of empty sets is the list's matrix; record by record, byte by byte. Assumes nothing.
use Prim.Native.Nat.{ℕ, zero, suc, ◌*◌, ◌^◌, ◌≤◌, ◌<◌}
use mathlib.Core.Path.{◌≡◌, refl, sym, ap, ◌∙◌}
use mathlib.Core.Bool.{Bool, true, false, ◌&&◌, ◌||◌, cond}
use mathlib.Core.List.{List, [], ◌∷◌}
use native.Mathlib.Omega.{arith}
use native.Mathlib.Decide.{ℕ_discrete, dec_lt}
use native.Mathlib.Nat.{lt_of_not-le}
use lib.ListN.{length, replicate}
use lib.Dec.{eqb, ltb}
use borrow.Author.Tests.{eqb-true, eq-eqb, ne_eqb, lt-ltb, le-ltb, not-false}
use Rattle.sets.specs.Set.{states, set_size, insert, set_at}
use Rattle.sets.proofs.Sets.{holds-pow}
use Rattle.rules.specs.Scan.{gather}
use Rattle.rules.specs.Rules.{verdict}
use Rattle.rules.proofs.Rules.{passes, passes-front, verdict-then}
use Rattle.rules.proofs.Scanning.{both, gather-lt}
use Rattle.list.specs.List.{records, is_edge, either_case, from, target, list_rules, list_refusal}
use Rattle.list.specs.Automaton.{exchanged, between, edge, leaves, step, highest}
use Rattle.matrix.specs.Matrix.{byte_values, matrix_length, cell_at, cells, filled, wrong_matrix, fill_rules}
use Rattle.matrix.specs.inner.Filling.{marked, marked_bytes, marked_records}
use Rattle.list.proofs.Highest.{edge-low}
use Rattle.matrix.proofs.Cells.{cells_same, cells_at, cells-put, cells-empty}

module _ (L : List ℕ) where
  -- where the first i records lead from state s alone on byte c
  abbrev pub partly : ℕ → ℕ → ℕ → ℕ
  partly i s c = gather states (leaves L (2 ^ s) (edge L c)) (target L) i

  -- the same, with record i as well on the bytes below b
  abbrev upto : ℕ → ℕ → ℕ → ℕ → ℕ
  upto i b s c = cond (ltb c b) (partly (suc i) s c) (partly i s c)

  upto-lt : (i b s c : ℕ) → upto i b s c < 2 ^ states
  upto-lt i b s c = go (ltb c b)
    where
      go : (t : Bool) → cond t (partly (suc i) s c) (partly i s c) < 2 ^ states
      go true = gather-lt states (leaves L (2 ^ s) (edge L c)) (target L) (suc i)
      go false = gather-lt states (leaves L (2 ^ s) (edge L c)) (target L) i

  -- one record more: its target, where byte c takes it and it leaves s
  one_more : (i s c : ℕ) → partly (suc i) s c ≡ cond (edge L c i && eqb (from L i) s) (insert states (partly i s c) (target L i)) (partly i s c)
  unfolding gather
  one_more i s c = rw (holds-pow s (from L i))

  module _ (n i : ℕ) where
    -- one byte more, where the record's state has stored sets
    byte_more : (b : ℕ) → b < byte_values → (edge L b i ≡ true → from L i < n) → marked L i (cells (upto i b) n) b ≡ cells (upto i (suc b)) n
    byte_more b hb there = go (edge L b i) refl
      where
        -- other bytes stay
        aside : (s c : ℕ) → (c ≡ b → ⊥) → upto i b s c ≡ upto i (suc b) s c
        aside s c d = elim (dec_lt c b) [ yes l ↦ rw (lt-ltb c b l, lt-ltb c (suc b) (omega arith)) | no g ↦ rw (le-ltb c b (high g), le-ltb c (suc b) (omega (arith, high g))) ]
          where
            high : (c < b → ⊥) → b ≤ c
            high g = omega (arith, lt_of_not-le (λ (l : suc c ≤ b). g l))

        here : (s : ℕ) → upto i b s b ≡ partly i s b
        here s = rw (le-ltb b b (omega arith))

        then : (s : ℕ) → upto i (suc b) s b ≡ partly (suc i) s b
        then s = rw (lt-ltb b (suc b) (omega arith))

        go : (t : Bool) → edge L b i ≡ t → marked L i (cells (upto i b) n) b ≡ cells (upto i (suc b)) n
        go false e = rw e (cells_same n (upto i b) (upto i (suc b)) (λ s c hs hc. at s c (ℕ_discrete c b)))
          where
            at : (s c : ℕ) → Dec (c ≡ b) → upto i b s c ≡ upto i (suc b) s c
            at s c (no d) = aside s c d
            at s c (yes q) = rw q (here s ∙ sym (then s ∙ one_more i s b ∙ rw e))
        go true e =
            let f = from L i in
            let v = insert states (partly i (from L i) b) (target L i) in
            let r : set_at (cells (upto i b) n) (cell_at (from L i) b) ≡ partly i (from L i) b = cells_at n (upto i b) (from L i) b (there e) hb (upto-lt i b (from L i) b) ∙ here (from L i) in
            rw (e, r) (cells-put n (upto i b) (from L i) b (there e) hb v
            ∙ cells_same n (λ x y. cond (eqb x (from L i) && eqb y b) v (upto i b x y)) (upto i (suc b)) (λ s c hs hc. at s c (ℕ_discrete c b) (ℕ_discrete s (from L i))))
          where
            at : (s c : ℕ) → Dec (c ≡ b) → Dec (s ≡ from L i)
                → cond (eqb s (from L i) && eqb c b) (insert states (partly i (from L i) b) (target L i)) (upto i b s c) ≡ upto i (suc b) s c
            at s c (no d) x = rw (ne_eqb c b d) (none (eqb s (from L i)) ∙ aside s c d)
              where
                none : (t : Bool) → cond (t && false) (insert states (partly i (from L i) b) (target L i)) (upto i b s c) ≡ upto i b s c
                none true = refl
                none false = refl
            at s c (yes q) (yes p) = rw (q, p, eq-eqb (from L i) (from L i) refl, eq-eqb b b refl) (sym (then (from L i) ∙ one_more i (from L i) b ∙ rw (e, eq-eqb (from L i) (from L i) refl)))
            at s c (yes q) (no d) = rw (q, ne_eqb s (from L i) d) (here s ∙ sym (then s ∙ one_more i s b ∙ rw (e, ne_eqb (from L i) s (λ p. d (sym p)))))

    bytes-more : (b : ℕ) → b ≤ byte_values → ((c : ℕ) → edge L c i ≡ true → from L i < n) → marked_bytes L i (cells (upto i 0) n) b ≡ cells (upto i b) n
    unfolding marked_bytes
    bytes-more zero hb there = refl
    bytes-more (suc b) hb there = ap (λ (X : List ℕ). marked L i X b) (bytes-more b (omega arith) there) ∙ byte_more b (omega arith) (there b)

    -- one record more
    record-more : ((c : ℕ) → edge L c i ≡ true → from L i < n) → marked_bytes L i (cells (partly i) n) byte_values ≡ cells (partly (suc i)) n
    record-more there =
        ap (λ (X : List ℕ). marked_bytes L i X byte_values) (cells_same n (partly i) (upto i 0) (λ s c hs hc. rw (le-ltb c 0 (omega arith))))
        ∙ bytes-more byte_values (omega arith) there
        ∙ cells_same n (upto i byte_values) (partly (suc i)) (λ s c hs hc. rw (lt-ltb c byte_values hc))

  records-more : (n i : ℕ) → ((j c : ℕ) → j < i → edge L c j ≡ true → from L j < n) → marked_records L (cells (λ s c. 0) n) i ≡ cells (partly i) n
  unfolding marked_records gather
  records-more n zero there = refl
  records-more n (suc i) there =
      ap (λ (X : List ℕ). marked_bytes L i X byte_values) (records-more n i (λ j c l. there j c (omega arith))) ∙ record-more n i (λ c. there i c (omega arith))

  -- all of them: the sets that the list leads to from each state alone
  pub all-marked : (n : ℕ) → ((j c : ℕ) → j < records L → edge L c j ≡ true → from L j < n)
      → marked_records L (replicate (set_size * (byte_values * n)) 0) (records L) ≡ cells (λ s c. step L (2 ^ s) c) n
  unfolding step
  all-marked n there = rw (cells-empty n) (records-more n (records L) there)

-- a record that is no edge changes nothing
pub no_edge : (L : List ℕ) (i : ℕ) (X : List ℕ) (b : ℕ) → is_edge L i ≡ false → marked_bytes L i X b ≡ X
unfolding marked_bytes
no_edge L i X zero e = refl
no_edge L i X (suc b) e = rw e (no_edge L i X b e)

-- ---- what the filler knows that no rule refuses

pub fill-passes : (L X : List ℕ) → verdict (fill_rules L X) ≡ 0 → (list_refusal L ≡ 0) × (length X ≡ matrix_length L)
fill-passes L X v =
    let l = passes-front (list_rules L) ((8, wrong_matrix L X) ∷ []) v in
    let w = verdict-then (list_rules L) ((8, wrong_matrix L X) ∷ []) refl l in
    (l, eqb-true (length X) (matrix_length L) (not-false (eqb (length X) (matrix_length L)) (passes 7 (wrong_matrix L X) [] (sym w ∙ v)).0))

-- an edge's state has stored sets, and they stand in the matrix
pub edge-placed : (L : List ℕ) → list_refusal L ≡ 0 → (i n : ℕ) → n ≡ matrix_length L → i < records L → is_edge L i ≡ true → (target L i < states) × (cell_at (suc (from L i)) 0 ≤ n)
edge-placed L e i n q h k = let g = edge-low L e i h k in (g.0, omega (arith, g.1, q))

pub all-filled : (L : List ℕ) → list_refusal L ≡ 0 → (n : ℕ) → n ≡ matrix_length L → marked_records L (replicate n 0) (records L) ≡ filled L
all-filled L e n q =
    rw q (all-marked L (suc (highest L)) (λ j c h t. omega (arith, (edge-low L e j h (both (is_edge L j) (between L c j || either_case L j && between L (exchanged c) j) t).0).1)))
