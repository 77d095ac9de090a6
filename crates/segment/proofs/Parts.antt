-- What is due in each case, that it fits the buffer it comes from, and what taking a segment leaves in each case. Assumes nothing.
use Rattle.std.proofs.Common.{◌≡◌, ℕ, ◌+◌, ◌-◌, ◌<◌, ◌≤◌, Bool, true, false, cond, not, ◌&&◌, ◌||◌, eqb, ltb, List, [], ◌++◌, length, take, drop, refl, arith, length-take, ltb-false, ltb-true, eq-eqb, ne_eqb, eqb-true}
use borrow.Author.Tests.{not-false}
use Rattle.rules.proofs.Scanning.{neither}
use Rattle.segment.specs.Resend.{most_segment, held_size, distance, ahead, has_next, all_before, bad_sizes, early, full, up_to, taking, part_due, Part, due}
use Rattle.segment.proofs.Circle.{ahead_more}

pub has-bound : (next p n : ℕ) → has_next next p n ≡ true → distance p next < n
unfolding has_next
has-bound next p n e = ltb-true (distance p next) n e

pub sizes-good : (h n s : ℕ) → bad_sizes h n s ≡ false → (h ≡ held_size) × (n ≤ held_size) × (s ≤ most_segment)
unfolding bad_sizes
sizes-good h n s e =
    let r = neither (ltb most_segment s || not (eqb h held_size)) (ltb held_size n) e in
    let q = neither (ltb most_segment s) (not (eqb h held_size)) r.0 in
    (eqb-true h held_size (not-false (eqb h held_size) q.1), ltb-false held_size n r.1, ltb-false most_segment s q.0)

-- the bytes before a held part are no more than there are, and at least one where there is one
pub up-to-most : (next p n m : ℕ) → up_to next p n m ≤ m
unfolding up_to
up-to-most next p n m = go (ltb 0 n && ahead next p) (ltb (distance next p) m) refl
  where
    go : (a b : Bool) → ltb (distance next p) m ≡ b → cond (a && b) (distance next p) m ≤ m
    go true true e = omega (arith, ltb-true (distance next p) m e)
    go true false e = omega arith
    go false b e = omega arith

pub up-to-some : (next p n m : ℕ) → 0 < m → 0 < up_to next p n m
unfolding up_to
up-to-some next p n m h = go (ltb 0 n) (ahead next p) refl (ltb (distance next p) m)
  where
    go : (z a : Bool) → ahead next p ≡ a → (b : Bool) → 0 < cond (z && a && b) (distance next p) m
    go true true e true = ahead_more next p e
    go true true e false = h
    go true false e b = h
    go false a e b = h

-- ---- the part due, by cases

module _ (next h p n q s : ℕ) where
  pub part-bad : bad_sizes h n s ≡ true → part_due next h p n q s ≡ record { source = 0; at = 0; length = 0 }
  unfolding part_due
  part-bad e = rw e

  pub part_held : bad_sizes h n s ≡ false → has_next next p n ≡ true → part_due next h p n q s ≡ record { source = 1; at = distance p next; length = n - distance p next }
  unfolding part_due
  part_held e f = rw (e, f)

  pub part-seg : bad_sizes h n s ≡ false → has_next next p n ≡ false → has_next next q s ≡ true
      → part_due next h p n q s ≡ record { source = 2; at = distance q next; length = up_to next p n (s - distance q next) }
  unfolding part_due
  part-seg e f g = rw (e, f, g)

  pub part_none : bad_sizes h n s ≡ false → has_next next p n ≡ false → has_next next q s ≡ false → part_due next h p n q s ≡ record { source = 0; at = 0; length = 0 }
  unfolding part_due
  part_none e f g = rw (e, f, g)

  -- what holds in each of the four holds of the part
  pub part-cases : (P : Part → Type 0)
      → P (record { source = 0; at = 0; length = 0 })
      → (bad_sizes h n s ≡ false → has_next next p n ≡ true → P (record { source = 1; at = distance p next; length = n - distance p next }))
      → (bad_sizes h n s ≡ false → has_next next p n ≡ false → has_next next q s ≡ true
      → P (record { source = 2; at = distance q next; length = up_to next p n (s - distance q next) }))
      → P (part_due next h p n q s)
  part-cases P none held seg = go (bad_sizes h n s) refl (has_next next p n) refl (has_next next q s) refl
    where
      go : (a : Bool) → bad_sizes h n s ≡ a → (b : Bool) → has_next next p n ≡ b → (c : Bool) → has_next next q s ≡ c → P (part_due next h p n q s)
      go true ea b eb c ec = rw (part-bad ea) none
      go false ea true eb c ec = rw (part_held ea eb) (held ea eb)
      go false ea false eb true ec = rw (part-seg ea eb ec) (seg ea eb ec)
      go false ea false eb false ec = rw (part_none ea eb ec) none

  -- it fits where it comes from: the held buffer, of which n bytes are held, or the segment
  pub part-fits : (part_due next h p n q s).at + (part_due next h p n q s).length ≤ cond (eqb (part_due next h p n q s).source 1) h s
  part-fits =
      part-cases (λ d. d.at + d.length ≤ cond (eqb d.source 1) h s) (omega arith)
      (λ e f. omega (arith, has-bound next p n f, sizes-good h n s e))
      (λ e f g. omega (arith, has-bound next q s g, up-to-most next p n (s - distance q next)))

  -- so: of the held buffer, or of the segment; and it is short
  pub part-in-held : (part_due next h p n q s).source ≡ 1 → (part_due next h p n q s).at + (part_due next h p n q s).length ≤ h
  part-in-held e = rw (eq-eqb (part_due next h p n q s).source 1 e) at part-fits

  pub part-in-seg : ((part_due next h p n q s).source ≡ 1 → ⊥) → (part_due next h p n q s).at + (part_due next h p n q s).length ≤ s
  part-in-seg e = rw (ne_eqb (part_due next h p n q s).source 1 e) at part-fits

  pub part-short : (part_due next h p n q s).at + (part_due next h p n q s).length ≤ most_segment
  part-short =
      part-cases (λ d. d.at + d.length ≤ most_segment) (omega arith)
      (λ e f. omega (arith, has-bound next p n f, sizes-good h n s e))
      (λ e f g. omega (arith, has-bound next q s g, up-to-most next p n (s - distance q next), sizes-good h n s e))

-- ---- the bytes due, by cases

module _ (next : ℕ) (held : List ℕ) (p n q : ℕ) (seg : List ℕ) where
  pub due-of-held : (part_due next (length held) p n q (length seg)).source ≡ 1
      → due next held p n q seg ≡ take (part_due next (length held) p n q (length seg)).length (drop (part_due next (length held) p n q (length seg)).at held)
  unfolding due
  due-of-held e = rw (eq-eqb (part_due next (length held) p n q (length seg)).source 1 e)

  pub due-of-seg : ((part_due next (length held) p n q (length seg)).source ≡ 1 → ⊥)
      → due next held p n q seg ≡ take (part_due next (length held) p n q (length seg)).length (drop (part_due next (length held) p n q (length seg)).at seg)
  unfolding due
  due-of-seg e = rw (ne_eqb (part_due next (length held) p n q (length seg)).source 1 e)

  -- it is short
  pub due-short : length (due next held p n q seg) ≤ most_segment
  unfolding due
  due-short = rw (length-take (part_due next (length held) p n q (length seg)).length) (omega (arith, part-short next (length held) p n q (length seg)))

  pub due-bad : bad_sizes (length held) n (length seg) ≡ true → due next held p n q seg ≡ []
  unfolding due
  due-bad e = rw (part-bad next (length held) p n q (length seg) e)

  pub due-held : bad_sizes (length held) n (length seg) ≡ false → has_next next p n ≡ true → due next held p n q seg ≡ take (n - distance p next) (drop (distance p next) held)
  unfolding due
  due-held e h = rw (part_held next (length held) p n q (length seg) e h)

  pub due-seg : bad_sizes (length held) n (length seg) ≡ false → has_next next p n ≡ false → has_next next q (length seg) ≡ true
      → due next held p n q seg ≡ take (up_to next p n (length seg - distance q next)) (drop (distance q next) seg)
  unfolding due
  due-seg e h g = rw (part-seg next (length held) p n q (length seg) e h g)

  pub due-none : bad_sizes (length held) n (length seg) ≡ false → has_next next p n ≡ false → has_next next q (length seg) ≡ false → due next held p n q seg ≡ []
  unfolding due
  due-none e h g = rw (part_none next (length held) p n q (length seg) e h g)

-- ---- taking a segment, by cases

module _ (next : ℕ) (held : List ℕ) (p n q : ℕ) (seg : List ℕ) where
  -- the segment is refused
  abbrev pub refuses : Bool
  refuses = bad_sizes (length held) n (length seg) || (early next q (length seg) && full next p n (length seg))

  pub take-refused : refuses ≡ true → taking next held p n q seg ≡ record { refusal = 18; start = p; length = n; bytes = held }
  unfolding taking
  take-refused e = rw e

  pub take-kept : refuses ≡ false → early next q (length seg) ≡ true
      → taking next held p n q seg ≡ record { refusal = 0; start = q; length = length seg; bytes = seg ++ drop (length seg) held }
  unfolding taking
  take-kept e b = rw (e, b)

  pub take-other : refuses ≡ false → early next q (length seg) ≡ false
      → taking next held p n q seg ≡ record { refusal = 0; start = p; length = cond (all_before next p n) 0 n; bytes = held }
  unfolding taking
  take-other e b = rw (e, b)

  -- what is held fits: a segment that begins ahead and is not refused has at most as many bytes as the buffer
  pub kept-fits : refuses ≡ false → early next q (length seg) ≡ true → (length seg ≤ held_size) × (length held ≡ held_size) × (all_before next p n ≡ true)
  unfolding full
  kept-fits e b =
      let r = neither (bad_sizes (length held) n (length seg)) (early next q (length seg) && full next p n (length seg)) e in
      let t = neither (not (all_before next p n)) (ltb held_size (length seg)) (rw b at r.1) in
      (ltb-false held_size (length seg) t.1, (sizes-good (length held) n (length seg) r.0).0, not-false (all_before next p n) t.0)
