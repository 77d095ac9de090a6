-- Taking a segment and the bytes due, in words of sequence numbers. Assumes nothing.
use Rattle.std.proofs.Common.{◌≡◌, ℕ, ◌+◌, ◌-◌, ◌%◌, ◌<◌, Bool, true, false, cond, not, ◌||◌, eqb, ltb, ◌⊎◌, ◌↔◌, List, length, get_or, drop, sym, refl, ap, ◌∙◌, inl, inr, arith, length-drop, length-take, get_or-drop, get_or-take}
use Rattle.rules.proofs.Scanning.{either-words, differ-words, over-words}
use Rattle.segment.specs.Resend.{circle, most_segment, held_size, distance, has_next, bad_sizes, early, up_to, taking, due}
use Rattle.segment.proofs.Circle.{distance-leads}
use Rattle.segment.proofs.Parts.{has-bound, sizes-good, up-to-most, up-to-some, due-bad, due-held, due-seg, due-none, refuses, take-refused, take-kept, take-other}

-- ---- 18

-- the sizes that are refused first
pub bad-sizes : (h n s : ℕ) → bad_sizes h n s ≡ true ↔ (((most_segment < s) ⊎ (h ≡ held_size → ⊥)) ⊎ (held_size < n))
unfolding bad_sizes
bad-sizes h n s =
    either-words ((most_segment < s) ⊎ (h ≡ held_size → ⊥)) (held_size < n) (ltb most_segment s || not (eqb h held_size)) (ltb held_size n)
    (either-words (most_segment < s) (h ≡ held_size → ⊥) (ltb most_segment s) (not (eqb h held_size)) (over-words most_segment s) (differ-words h held_size))
    (over-words held_size n)

-- what is answered, by the test alone
pub refused-18 : (next : ℕ) (held : List ℕ) (p n q : ℕ) (seg : List ℕ) → (taking next held p n q seg).refusal ≡ cond (refuses next held p n q seg) 18 0
refused-18 next held p n q seg = go (refuses next held p n q seg) refl (early next q (length seg)) refl
  where
    go : (r : Bool) → refuses next held p n q seg ≡ r → (b : Bool) → early next q (length seg) ≡ b → (taking next held p n q seg).refusal ≡ cond r 18 0
    go true e b f = rw (take-refused next held p n q seg e)
    go false e true f = rw (take-kept next held p n q seg e f)
    go false e false f = rw (take-other next held p n q seg e f)

-- 18 leaves the held place and the buffer as they were
pub refused-stays : (next : ℕ) (held : List ℕ) (p n q : ℕ) (seg : List ℕ) → (taking next held p n q seg).refusal ≡ 18
    → ((taking next held p n q seg).start ≡ p) × ((taking next held p n q seg).length ≡ n) × ((taking next held p n q seg).bytes ≡ held)
refused-stays next held p n q seg z = go (refuses next held p n q seg) refl
  where
    go : (r : Bool) → refuses next held p n q seg ≡ r
        → ((taking next held p n q seg).start ≡ p) × ((taking next held p n q seg).length ≡ n) × ((taking next held p n q seg).bytes ≡ held)
    go true e = rw (take-refused next held p n q seg e) (refl, refl, refl)
    go false e = let f : ◌≡◌ {A = ℕ} 0 18 = rw e at (sym (refused-18 next held p n q seg) ∙ z) in absurd (omega arith)

-- ---- the bytes due

-- byte j of what is due is the byte with number next + j, of the held part or of the segment
pub due-numbers : (next : ℕ) (held : List ℕ) (p n q : ℕ) (seg : List ℕ) → next < circle → p < circle → q < circle
    → (j : ℕ) → j < length (due next held p n q seg)
    → ((i : ℕ) × (i < n) × ((p + i) % circle ≡ (next + j) % circle) × (get_or (due next held p n q seg) j 0 ≡ get_or held i 0))
    ⊎ ((i : ℕ) × (i < length seg) × ((q + i) % circle ≡ (next + j) % circle) × (get_or (due next held p n q seg) j 0 ≡ get_or seg i 0))
due-numbers next held p n q seg ln lp lq j l =
    go (bad_sizes (length held) n (length seg)) refl (has_next next p n) refl (has_next next q (length seg)) refl
  where
    Answer : Type 0
    Answer =
        ((i : ℕ) × (i < n) × ((p + i) % circle ≡ (next + j) % circle) × (get_or (due next held p n q seg) j 0 ≡ get_or held i 0))
        ⊎ ((i : ℕ) × (i < length seg) × ((q + i) % circle ≡ (next + j) % circle) × (get_or (due next held p n q seg) j 0 ≡ get_or seg i 0))

    on : (x d : ℕ) → (x + d) % circle ≡ next → (x + (d + j)) % circle ≡ (next + j) % circle
    on x d e = omega (arith, e)

    go : (b : Bool) → bad_sizes (length held) n (length seg) ≡ b → (h : Bool) → has_next next p n ≡ h → (g : Bool) → has_next next q (length seg) ≡ g → Answer
    go true eb h eh g eg = absurd (omega (arith, ap length (due-bad next held p n q seg eb)))
    go false eb true eh g eg =
        let e = due-held next held p n q seg eb eh in
        let m = rw (e, length-take (n - distance p next) (drop (distance p next) held)) at l in
        inl (
          distance p next + j,
          omega arith,
          on p (distance p next) (distance-leads p next lp ln),
          ap (λ (xs : List ℕ). get_or xs j 0) e ∙ get_or-take (n - distance p next) (drop (distance p next) held) j 0 (omega arith) ∙ get_or-drop (distance p next) held j 0,
        )
    go false eb false eh true eg =
        let e = due-seg next held p n q seg eb eh eg in
        let u = up-to-most next p n (length seg - distance q next) in
        let m = rw (e, length-take (up_to next p n (length seg - distance q next)) (drop (distance q next) seg)) at l in
        inr (
          distance q next + j,
          omega arith,
          on q (distance q next) (distance-leads q next lq ln),
          ap (λ (xs : List ℕ). get_or xs j 0) e ∙ get_or-take (up_to next p n (length seg - distance q next)) (drop (distance q next) seg) j 0 (omega arith)
              ∙ get_or-drop (distance q next) seg j 0,
        )
    go false eb false eh false eg = absurd (omega (arith, ap length (due-none next held p n q seg eb eh eg)))

-- where the held part or the segment has the next byte, something is due
module _ (next : ℕ) (held : List ℕ) (p n q : ℕ) (seg : List ℕ) (good : bad_sizes (length held) n (length seg) ≡ false) where
  pub held_gives : has_next next p n ≡ true → 0 < length (due next held p n q seg)
  held_gives h =
      let s = sizes-good (length held) n (length seg) good in
      let d = has-bound next p n h in
      rw (due-held next held p n q seg good h, length-take (n - distance p next) (drop (distance p next) held), length-drop) (omega arith)

  pub segment-gives : has_next next p n ≡ false → has_next next q (length seg) ≡ true → 0 < length (due next held p n q seg)
  segment-gives h g =
      let d = has-bound next q (length seg) g in
      let e = up-to-some next p n (length seg - distance q next) (omega arith) in
      let u = up-to-most next p n (length seg - distance q next) in
      rw (due-seg next held p n q seg good h g, length-take (up_to next p n (length seg - distance q next)) (drop (distance q next) seg), length-drop) (omega arith)
