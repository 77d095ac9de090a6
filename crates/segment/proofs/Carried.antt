-- Each byte first consumed or held at a place of the flow came in some segment, under the number of that place. Assumes nothing.
use Rattle.std.proofs.Common.{◌≡◌, ℕ, suc, ◌+◌, ◌-◌, ◌%◌, ◌<◌, ◌≤◌, Bool, true, false, cond, not, ◌&&◌, ◌||◌, eqb, ltb, leb, ◌⊎◌, List, [], ◌∷◌, length, get_or, take, drop, sym, refl, ap, ◌∙◌, subst, inl, inr, ⊎_elim, arith, length-drop, length-take, ltb-false, ltb-true, eqb-true, leb-true}
use borrow.Author.Tests.{not-true}
use Rattle.rules.proofs.Scanning.{both, neither}
use Rattle.segment.specs.Resend.{circle, half, held_size, distance, ahead, has_next, all_before, bad_sizes, early, full, up_to, due}
use Rattle.segment.specs.Stream.{Line, Look, mark, claim, number_of, kept, taken, passed, torn_by, looking, looks, begun, Numbered, Carried}
use Rattle.segment.proofs.Circle.{distance-leads, number_at, ahead-lt}
use Rattle.segment.proofs.Parts.{has-bound, due-short, due-bad, due-held, due-seg, due-none}
use Rattle.segment.proofs.Streams.{Stands, has-next-means, part_length, part-byte, take_none, taken-good, look-stands, begun-stands, stream, number_lt}

-- a byte that is claimed was claimed before, or is one of those that are claimed now
claim-by : (f : ℕ → ℕ) (p : ℕ) (bs : List ℕ) (i v : ℕ) → claim f p bs i ≡ suc v
    → (f i ≡ suc v) ⊎ ((f i ≡ 0) × ((j : ℕ) × (j < length bs) × (i ≡ p + j) × (v ≡ get_or bs j 0)))
unfolding claim mark
claim-by f p bs i v e = go (eqb (f i) 0) refl e
  where
    go : (b : Bool) → eqb (f i) 0 ≡ b → cond b (mark p bs i) (f i) ≡ suc v → (f i ≡ suc v) ⊎ ((f i ≡ 0) × ((j : ℕ) × (j < length bs) × (i ≡ p + j) × (v ≡ get_or bs j 0)))
    go false q h = inl h
    go true q h = inr (eqb-true (f i) 0 q, at (leb p i) refl (ltb i (p + length bs)) refl h)
      where
        at : (a : Bool) → leb p i ≡ a → (b : Bool) → ltb i (p + length bs) ≡ b → mark p bs i ≡ suc v → (j : ℕ) × (j < length bs) × (i ≡ p + j) × (v ≡ get_or bs j 0)
        at true k true l m =
            let low = leb-true p i k in
            let high = ltb-true i (p + length bs) l in
            let n : suc (get_or bs (i - p) 0) ≡ suc v = rw (k, l) at m in
            (i - p, omega arith, omega arith, omega (arith, n))
        at true k false l m = let n : ◌≡◌ {A = ℕ} 0 (suc v) = rw (k, l) at m in absurd (omega arith)
        at false k b l m = let n : ◌≡◌ {A = ℕ} 0 (suc v) = rw k at m in absurd (omega arith)

-- F holds of each byte that a segment carries, at the place from k on, less than half the circle and a held part further, that has its number
abbrev pub Brings : (ℕ → ℕ → Type 0) → ℕ → ℕ → ℕ → List ℕ → Type 0
Brings F s k q seg = (i j : ℕ) → k ≤ i → i < k + half + held_size → j < length seg → (s + i) % circle ≡ (q + j) % circle → F i (get_or seg j 0)

-- and so of each byte first consumed or held, at its place
abbrev pub Firsts : (ℕ → ℕ → Type 0) → Line → Type 0
Firsts F W = (i v : ℕ) → W.first i ≡ suc v → F i v

module _ (F : ℕ → ℕ → Type 0) (s : ℕ) where
  -- a segment that is held begins less than half the circle ahead, and is short
  kept_near : (W : Line) (q : ℕ) (seg : List ℕ) → kept (number_of s W) W q seg ≡ true → (distance (number_of s W) q < half) × (length seg ≤ held_size)
  unfolding early full
  kept_near W q seg k =
      let a = both (sized && begins) (not (all_busy || ltb held_size (length seg))) k in
      let b = both sized begins a.0 in (
        ahead-lt (number_of s W) q (both (ltb 0 (length seg)) (ahead (number_of s W) q) b.1).1,
        ltb-false held_size (length seg) (neither all_busy (ltb held_size (length seg)) (not-true (all_busy || ltb held_size (length seg)) a.1)).1,
      )
    where
      sized : Bool
      sized = not (bad_sizes (length W.held) W.length (length seg))

      begins : Bool
      begins = ltb 0 (length seg) && ahead (number_of s W) q

      all_busy : Bool
      all_busy = not (all_before (number_of s W) W.start W.length)

  taken-firsts : (W : Line) (q : ℕ) (seg : List ℕ) → q < circle → Brings F s (length W.down) q seg → Firsts F W → Firsts F (taken s W q seg)
  unfolding taken
  taken-firsts W q seg lq c f i v = go (kept (number_of s W) W q seg) refl
    where
      go : (b : Bool) → kept (number_of s W) W q seg ≡ b → cond b (claim W.first (length W.down + distance (number_of s W) q) seg) W.first i ≡ suc v → F i v
      go false k e = f i v e
      go true k e = ⊎_elim (λ h. f i v h) (λ h. rw h.1.3 (new h.1.0 h.1.1 h.1.2)) (claim-by W.first (length W.down + distance (number_of s W) q) seg i v e)
        where
          new : (j : ℕ) → j < length seg → i ≡ length W.down + distance (number_of s W) q + j → F i (get_or seg j 0)
          new j l e =
              let near = kept_near W q seg k in
              c i j (omega (arith, e)) (omega (arith, e, l, near.0, near.1)) l (omega (arith, number_at s (length W.down) q lq, e))

  -- byte j of what is passed down was claimed for its place, or is the segment's
  due-from : (W : Line) (place q : ℕ) (seg : List ℕ) (m : ℕ) → q < circle → Stands s W place → (j : ℕ) → j < length (take m (due (number_of s W) W.held W.start W.length q seg))
      → (W.first (length W.down + j) ≡ suc (get_or (take m (due (number_of s W) W.held W.start W.length q seg)) j 0))
      ⊎ ((i : ℕ) × (i < length seg) × ((q + i) % circle ≡ (number_of s W + j) % circle)
      × (get_or (take m (due (number_of s W) W.held W.start W.length q seg)) j 0 ≡ get_or seg i 0))
  due-from W place q seg m lq v j l =
      go (bad_sizes (length W.held) W.length (length seg)) refl (has_next (number_of s W) W.start W.length) refl (has_next (number_of s W) q (length seg)) refl
    where
      P : List ℕ → Type 0
      P ds =
          j < length (take m ds) → (W.first (length W.down + j) ≡ suc (get_or (take m ds) j 0))
          ⊎ ((i : ℕ) × (i < length seg) × ((q + i) % circle ≡ (number_of s W + j) % circle) × (get_or (take m ds) j 0 ≡ get_or seg i 0))

      none : due (number_of s W) W.held W.start W.length q seg ≡ [] → P (due (number_of s W) W.held W.start W.length q seg)
      none e k = absurd (omega (arith, take_none m (due (number_of s W) W.held W.start W.length q seg) e))

      go : (b : Bool) → bad_sizes (length W.held) W.length (length seg) ≡ b → (h : Bool) → has_next (number_of s W) W.start W.length ≡ h
          → (g : Bool) → has_next (number_of s W) q (length seg) ≡ g
          → (W.first (length W.down + j) ≡ suc (get_or (take m (due (number_of s W) W.held W.start W.length q seg)) j 0))
          ⊎ ((i : ℕ) × (i < length seg) × ((q + i) % circle ≡ (number_of s W + j) % circle)
          × (get_or (take m (due (number_of s W) W.held W.start W.length q seg)) j 0 ≡ get_or seg i 0))
      go true eb h eh g eg = none (due-bad (number_of s W) W.held W.start W.length q seg eb) l
      go false eb true eh g eg =
          let c : 0 < W.length = omega (arith, has-bound (number_of s W) W.start W.length eh) in
          let w = has-next-means s W place v c eh in
          let d = distance W.start (number_of s W) in
          let n = W.length - distance W.start (number_of s W) in
          subst P (sym (due-held (number_of s W) W.held W.start W.length q seg eb eh))
          (λ k.
          let short = part_length m (W.length - distance W.start (number_of s W)) (distance W.start (number_of s W)) W.held in
          inl (ap W.first (same j w.0 w.1) ∙ v.claimed (d + j) (omega (arith, w.1, w.2, short)) (omega (arith, w.1))
          ∙ ap suc (sym (part-byte m n d W.held j k)))) l
        where
          same : (j : ℕ) → place ≤ length W.down → distance W.start (number_of s W) ≡ length W.down - place
              → length W.down + j ≡ place + (distance W.start (number_of s W) + j)
          same j a b = omega arith
      go false eb false eh false eg = none (due-none (number_of s W) W.held W.start W.length q seg eb eh eg) l
      go false eb false eh true eg =
          let b = distance q (number_of s W) in
          let e = up_to (number_of s W) W.start W.length (length seg - distance q (number_of s W)) in
          subst P (sym (due-seg (number_of s W) W.held W.start W.length q seg eb eh eg))
          (λ k. inr (b + j, within k, on (distance-leads q (number_of s W) lq (number_lt s W)), part-byte m e b seg j k)) l
        where
          on : (q + distance q (number_of s W)) % circle ≡ number_of s W → (q + (distance q (number_of s W) + j)) % circle ≡ (number_of s W + j) % circle
          on e = omega (arith, e)

          within : j < length (take m (take (up_to (number_of s W) W.start W.length (length seg - distance q (number_of s W))) (drop (distance q (number_of s W)) seg)))
              → distance q (number_of s W) + j < length seg
          within k =
              let r = rw (
                length-take m (take (up_to (number_of s W) W.start W.length (length seg - distance q (number_of s W))) (drop (distance q (number_of s W)) seg)),
                length-take (up_to (number_of s W) W.start W.length (length seg - distance q (number_of s W))) (drop (distance q (number_of s W)) seg),
                length-drop,
              ) at k in
              omega (arith, r)

  passed-firsts : (W : Line) (place q : ℕ) (seg : List ℕ) (m : ℕ) → q < circle → Stands s W place → Brings F s (length W.down) q seg → Firsts F W → Firsts F (passed s W q seg m)
  unfolding passed
  passed-firsts W place q seg m lq v c f i x e =
      ⊎_elim (λ h. f i x h) new (claim-by W.first (length W.down) (take m (due (number_of s W) W.held W.start W.length q seg)) i x e)
    where
      new : (W.first i ≡ 0) × ((j : ℕ) × (j < length (take m (due (number_of s W) W.held W.start W.length q seg))) × (i ≡ length W.down + j)
          × (x ≡ get_or (take m (due (number_of s W) W.held W.start W.length q seg)) j 0)) → F i x
      new h =
          ⊎_elim (λ k. f i x (ap W.first h.1.2 ∙ k ∙ ap suc (sym h.1.3)))
          (λ k. rw (h.1.3 ∙ k.3) (c i k.0 (omega (arith, h.1.2)) (few h.1.0 h.1.1 h.1.2) k.1 (number h.1.0 k.0 h.1.2 k.2)))
          (due-from W place q seg m lq v h.1.0 h.1.1)
        where
          few : (j : ℕ) → j < length (take m (due (number_of s W) W.held W.start W.length q seg)) → i ≡ length W.down + j → i < length W.down + half + held_size
          few j l e =
              let a = rw (length-take m (due (number_of s W) W.held W.start W.length q seg)) at l in
              omega (arith, a, e, due-short (number_of s W) W.held W.start W.length q seg)

          number : (j k : ℕ) → i ≡ length W.down + j → (q + k) % circle ≡ (number_of s W + j) % circle → (s + i) % circle ≡ (q + k) % circle
          number j k a b = omega (arith, a, b)

  pub look-firsts : (W : Line) (place : ℕ) (l : Look) → l.start < circle → Stands s W place → Brings F s (length W.down) l.start l.seg → Firsts F W → Firsts F (looking s W l)
  unfolding looking torn_by taken
  look-firsts W place l h v c f = go l.torn
    where
      go : (b : Bool) → Firsts F (cond b (torn_by s W l.start l.seg) (passed s (taken s W l.start l.seg) l.start l.seg l.eaten))
      go true = f
      go false =
          let g = taken-good s W place l.start l.seg h v in
          passed-firsts (taken s W l.start l.seg) g.0 l.start l.seg l.eaten h g.1 c (taken-firsts W l.start l.seg h c f)

-- what holds of each number and byte that some segment carries
looks-firsts : (C : ℕ → ℕ → Type 0) (s : ℕ) (ls : List Look) → Numbered ls → ((p v : ℕ) → Carried p v ls → C p v) → (W : Line) (place : ℕ) → Stands s W place
    → Firsts (λ i v. C ((s + i) % circle) v) W → Firsts (λ i v. C ((s + i) % circle) v) (looks s W ls)
unfolding looks
looks-firsts C s [] h c W place v f = f
looks-firsts C s (l ∷ ls) h c W place v f =
    let g = look-stands s W place l h.0 v in
    looks-firsts C s ls h.1 (λ p x k. c p x (inr k)) (looking s W l) g.0 g.1
    (look-firsts (λ i v. C ((s + i) % circle) v) s W place l h.0 v (λ i j low high k e. rw e (c ((l.start + j) % circle) (get_or l.seg j 0) (inl (j, k, refl, refl)))) f)

-- the byte passed down at place i is one that some segment carried under number s + i
pub carried : (s : ℕ) (held : List ℕ) (ls : List Look) → Numbered ls → (i : ℕ) → i < length (looks s (begun held) ls).down
    → Carried ((s + i) % circle) (get_or (looks s (begun held) ls).down i 0) ls
carried s held ls h i l =
    looks-firsts (λ p v. Carried p v ls) s ls h (λ p v k. k) (begun held) 0 (begun-stands s held) (λ i v e. absurd (omega (arith, e)))
    i (get_or (looks s (begun held) ls).down i 0) (stream s held ls h i l)
