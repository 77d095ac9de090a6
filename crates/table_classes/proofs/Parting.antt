-- The classes state by state: how one more state splits them, in place from the last byte down; and their numbers, in place from the first byte up. Assumes nothing.
use Prim.Native.Nat.{ℕ, suc, ◌+◌, ◌-◌, ◌^◌, ◌≤◌, ◌<◌}
use mathlib.Core.Path.{◌≡◌, refl, sym, ap, ◌∙◌}
use mathlib.Core.Bool.{Bool, true, false, ◌&&◌, true≢false}
use mathlib.Core.List.{List}
use native.Mathlib.Omega.{arith}
use native.Mathlib.Nat.{lt_of_not-le}
use native.Mathlib.Decide.{dec_lt, ℕ_discrete}
use lib.ListN.{length, get_or, set, length-set}
use lib.Seq.{get_or-set_same, get_or-set_other}
use lib.Dec.{eqb}
use borrow.Author.Tests.{eqb-true, eq-eqb, ne_eqb}
use Rattle.sets.specs.Set.{states, holds}
use Rattle.sets.proofs.Sets.{holds-empty, holds-pow, set-ext}
use Rattle.rules.specs.Scan.{some, every, first}
use Rattle.list.specs.List.{records, from}
use Rattle.list.specs.Automaton.{step}
use Rattle.list.proofs.Listed.{same_truth}
use Rattle.list.proofs.Steps.{step-exactly}
use Rattle.rules.proofs.Scanning.{both, some-intro, some-none, none-some, every-at, every-all, first-at, first_found}
use Rattle.table.specs.Table.{byte_values, part}
use Rattle.table_classes.specs.Classes.{alike, count, lowest_like, leads, class_of}
use Rattle.table_classes.specs.inner.Loops.{alike_to, low_to, like, parted, Parting, Filled, Lows}
use Rattle.table_classes.proofs.Classes.{first-same, lowest-upto, count-lead, count-pass, class-lead, class_low}

-- ---- the first n states

module _ (L : List ℕ) (n : ℕ) where
  to_at : (c d : ℕ) → alike_to L n c d ≡ true → (s : ℕ) → s < n → step L (2 ^ s) c ≡ step L (2 ^ s) d
  unfolding alike_to
  to_at c d e s h = eqb-true _ _ (every-at n (λ u. eqb (step L (2 ^ u) c) (step L (2 ^ u) d)) e s h)

  to-all : (c d : ℕ) → ((s : ℕ) → s < n → step L (2 ^ s) c ≡ step L (2 ^ s) d) → alike_to L n c d ≡ true
  unfolding alike_to
  to-all c d h = every-all n (λ u. eqb (step L (2 ^ u) c) (step L (2 ^ u) d)) (λ s l. eq-eqb _ _ (h s l))

  to-refl : (c : ℕ) → alike_to L n c c ≡ true
  to-refl c = to-all c c (λ s h. refl)

  to-sym : (c d : ℕ) → alike_to L n c d ≡ true → alike_to L n d c ≡ true
  to-sym c d e = to-all d c (λ s h. sym (to_at c d e s h))

  to-trans : (a b c : ℕ) → alike_to L n a b ≡ true → alike_to L n b c ≡ true → alike_to L n a c ≡ true
  to-trans a b c e f = to-all a c (λ s h. to_at a b e s h ∙ to_at b c f s h)

  low-found : (c : ℕ) → c < byte_values → alike_to L n (low_to L n c) c ≡ true
  unfolding low_to
  low-found c h = (first_found byte_values (λ d. alike_to L n d c) (some-intro byte_values (λ d. alike_to L n d c) c h (to-refl c))).1

  low_same : (d c : ℕ) → alike_to L n d c ≡ true → low_to L n d ≡ low_to L n c
  unfolding low_to
  low_same d c e =
      first-same byte_values (λ x. alike_to L n x d) (λ x. alike_to L n x c)
      (λ j h. same_truth (alike_to L n j d) (alike_to L n j c) (λ t. to-trans j d c t e) (λ t. to-trans j c d t (to-sym d c e)))

  -- two bytes have one lowest byte exactly where they are alike
  low-eqb : (d c : ℕ) → d < byte_values → c < byte_values → eqb (low_to L n d) (low_to L n c) ≡ alike_to L n d c
  low-eqb d c hd hc =
      same_truth (eqb (low_to L n d) (low_to L n c)) (alike_to L n d c)
      (λ t. to-trans d (low_to L n d) c (to-sym (low_to L n d) d (low-found d hd)) (ap (λ (x : ℕ). alike_to L n x c) (eqb-true (low_to L n d) (low_to L n c) t) ∙ low-found c hc))
      (λ t. eq-eqb (low_to L n d) (low_to L n c) (low_same d c t))

-- no state: one class
pub low-none : (L : List ℕ) (c : ℕ) → low_to L 0 c ≡ 0
unfolding low_to alike_to every some
low-none L c = first-at byte_values (λ d. alike_to L 0 d c) 0 (omega arith) refl refl

-- one more state splits the classes
pub low-more : (L : List ℕ) (n : ℕ) (C W : List ℕ) → ((c : ℕ) → c < byte_values → get_or C c 0 ≡ low_to L n c)
    → ((c : ℕ) → c < byte_values → part W c ≡ step L (2 ^ n) c) → (c : ℕ) → c < byte_values → parted C W c ≡ low_to L (n + 1) c
unfolding parted low_to
low-more L n C W h w c hc =
    first-same byte_values (like C W c) (λ d. alike_to L (n + 1) d c)
    (λ d hd. rw (h d hd, h c hc, w d hd, w c hc, low-eqb L n d c hd hc) (last d))
  where
    last : (d : ℕ) → (alike_to L n d c && eqb (step L (2 ^ n) d) (step L (2 ^ n) c)) ≡ alike_to L (n + 1) d c
    last d =
        same_truth (alike_to L n d c && eqb (step L (2 ^ n) d) (step L (2 ^ n) c)) (alike_to L (n + 1) d c)
        (λ t. let b = both (alike_to L n d c) (eqb (step L (2 ^ n) d) (step L (2 ^ n) c)) t in
        to-all L (n + 1) d c (λ s l. elim (ℕ_discrete s n) [ yes e ↦ rw e (eqb-true _ _ b.1) | no ne ↦ to_at L n d c b.0 s (omega (arith, ne)) ]))
        (λ t. rw (to-all L n d c (λ s l. to_at L (n + 1) d c t s (omega arith)), eq-eqb _ _ (to_at L (n + 1) d c t n (omega arith))))

-- a state that no record leaves splits none
pub low-still : (L : List ℕ) (n : ℕ) → some (records L) (λ i. eqb (from L i) n) ≡ false → (c : ℕ) → low_to L (n + 1) c ≡ low_to L n c
unfolding low_to
low-still L n e c =
    first-same byte_values (λ d. alike_to L (n + 1) d c) (λ d. alike_to L n d c)
    (λ d h. same_truth (alike_to L (n + 1) d c) (alike_to L n d c)
    (λ t. to-all L n d c (λ s l. to_at L (n + 1) d c t s (omega arith)))
    (λ t. to-all L (n + 1) d c (λ s l. elim (ℕ_discrete s n) [ yes q ↦ rw q (still d ∙ sym (still c)) | no ne ↦ to_at L n d c t s (omega (arith, ne)) ])))
  where
    nowhere : (d t : ℕ) (b : Bool) → holds (step L (2 ^ n) d) t ≡ b → holds (step L (2 ^ n) d) t ≡ holds 0 t
    nowhere d t false q = q ∙ sym (holds-empty t)
    nowhere d t true q =
        let w = ((step-exactly L (2 ^ n) d t).0 q).1 in
        absurd (true≢false (sym (sym (holds-pow n (from L w.0)) ∙ w.3) ∙ none-some (records L) (λ i. eqb (from L i) n) e w.0 w.1))

    still : (d : ℕ) → step L (2 ^ n) d ≡ 0
    still d = set-ext (step L (2 ^ n) d) 0 (λ t. nowhere d t (holds (step L (2 ^ n) d) t) refl)

-- all states
pub low-all : (L : List ℕ) (c : ℕ) → low_to L states c ≡ lowest_like L c
unfolding low_to lowest_like alike_to alike
low-all L c = refl

-- ---- splitting in place, from the last byte down

-- where two tests agree up to a place that passes, the first that passes is the same
first-upto : (n : ℕ) (p q : ℕ → Bool) (c : ℕ) → c < n → p c ≡ true → ((j : ℕ) → j ≤ c → p j ≡ q j) → first n p ≡ first n q
first-upto n p q c h e k =
    let w = first_found n p (some-intro n p c h e) in
    let l : first n p ≤ c = upto w.2 in
    sym (first-at n q (first n p) w.0
    (some-none (first n p) q (λ j b. sym (k j (omega arith)) ∙ none-some (first n p) p w.2 j b))
    (sym (k (first n p) l) ∙ w.1))
  where
    upto : some (first n p) p ≡ false → first n p ≤ c
    upto s = elim (dec_lt c (first n p)) [ yes b ↦ absurd (true≢false (sym e ∙ none-some (first n p) p s c b)) | no g ↦ omega (arith, lt_of_not-le (λ (b : suc c ≤ first n p). g b)) ]

pub like-self : (C W : List ℕ) (c : ℕ) → like C W c c ≡ true
like-self C W c = rw (eq-eqb (get_or C c 0) (get_or C c 0) refl, eq-eqb (part W c) (part W c) refl)

pub part-start : (C W : List ℕ) → Parting C C W byte_values
part-start C W = record { long = refl; upto = omega arith; below = λ d h. refl; above = λ d h l. absurd (omega arith); rest = λ d h. refl }

pub part-more : (C D W : List ℕ) (c : ℕ) → byte_values ≤ length C → 0 < c → Parting C D W c → Parting C (set D (c - 1) (parted D W (c - 1))) W (c - 1)
unfolding parted
part-more C D W c h z g =
    let b = c - 1 in
    let v = parted D W b in
    let e : v ≡ parted C W b =
    first-upto byte_values (like D W b) (like C W b) b (omega (arith, g.upto)) (like-self D W b) (λ j l. rw (g.below j (omega arith), g.below b (omega arith))) in
    record {
      long = length-set D b v ∙ g.long;
      upto = omega (arith, g.upto);
      below = λ d l. get_or-set_other D b d v 0 (λ q. omega arith) ∙ g.below d (omega arith);
      above = λ d l k. elim (ℕ_discrete d b) [
        | yes q ↦ rw (q, get_or-set_same D b v 0 (omega (arith, g.long, g.upto))) e
        | no q ↦ get_or-set_other D b d v 0 q ∙ g.above d (omega (arith, q)) k
      ];
      rest = λ d l. get_or-set_other D b d v 0 (λ q. omega (arith, g.upto)) ∙ g.rest d l;
    }

-- the turns of the loop over states
pub low-start : (L C : List ℕ) → ((c : ℕ) → get_or C c 0 ≡ 0) → Filled C C (low_to L 0) byte_values
low-start L C z = record { long = refl; below = λ d h. z d ∙ sym (low-none L d); rest = λ d h. refl }

pub low_turn : (L C D E W : List ℕ) (n : ℕ) → Filled C D (low_to L n) byte_values → ((c : ℕ) → c < byte_values → part W c ≡ step L (2 ^ n) c) → Parting D E W 0
    → Filled C E (low_to L (n + 1)) byte_values
low_turn L C D E W n g w p =
    record {
      long = p.long ∙ g.long;
      below = λ d h. p.above d (omega arith) h ∙ low-more L n D W g.below w d h;
      rest = λ d h. p.rest d h ∙ g.rest d h;
    }

pub low-stays : (L C D : List ℕ) (n : ℕ) → some (records L) (λ i. eqb (from L i) n) ≡ false → Filled C D (low_to L n) byte_values → Filled C D (low_to L (n + 1)) byte_values
low-stays L C D n e g = record { long = g.long; below = λ d h. g.below d h ∙ sym (low-still L n e d); rest = g.rest }

pub low_end : (L C D : List ℕ) (n : ℕ) → n ≡ states → Filled C D (low_to L n) byte_values → Filled C D (lowest_like L) byte_values
low_end L C D n e g = record { long = g.long; below = λ d h. g.below d h ∙ ap (λ (m : ℕ). low_to L m d) e ∙ low-all L d; rest = g.rest }

-- ---- numbers in place, from the first byte up

pub record Numbering (L C D : List ℕ) (c next : ℕ) : Type 0 where
  pub filled : Filled C D (class_of L) c
  pub counted : next ≡ count (leads L) c

pub number-start : (L C : List ℕ) → Numbering L C C 0 0
unfolding count
number-start L C = record { filled = record { long = refl; below = λ d h. absurd (omega arith); rest = λ d h. refl }; counted = refl }

module _ (L C D : List ℕ) (c next low : ℕ) (h : c < byte_values) (room : byte_values ≤ length C) (lows : Lows L C) (g : Numbering L C D c next) (e : low ≡ get_or D c 0) where
  is-low : low ≡ lowest_like L c
  is-low = e ∙ g.filled.rest c (omega arith) ∙ lows c h

  put-class : (v : ℕ) → v ≡ class_of L c → Filled C (set D c v) (class_of L) (c + 1)
  put-class v q =
      record {
        long = length-set D c v ∙ g.filled.long;
        below = λ d l. elim (ℕ_discrete d c) [
          | yes k ↦ rw (k, get_or-set_same D c v 0 (omega (arith, g.filled.long))) q
          | no ne ↦ get_or-set_other D c d v 0 ne ∙ g.filled.below d (omega (arith, ne))
        ];
        rest = λ d l. get_or-set_other D c d v 0 (λ k. omega arith) ∙ g.filled.rest d (omega arith);
      }

  pub number-lead : low ≡ c → Numbering L C (set D c next) (c + 1) (next + 1)
  number-lead q =
      let l : leads L c ≡ true = eq-eqb (lowest_like L c) c (sym is-low ∙ q) in
      record { filled = put-class next (g.counted ∙ sym (class-lead L c l)); counted = ap (λ (x : ℕ). x + 1) g.counted ∙ sym (count-lead (leads L) c l) }

  pub number-other : (low ≡ c → ⊥) → Numbering L C (set D c (get_or D low 0)) (c + 1) next
  number-other ne =
      let l : low < c = omega (arith, ne, is-low, lowest-upto L c h) in
      record {
        filled = put-class (get_or D low 0) (g.filled.below low l ∙ ap (class_of L) is-low ∙ class_low L c h);
        counted = g.counted ∙ sym (count-pass (leads L) c (ne_eqb (lowest_like L c) c (λ q. ne (is-low ∙ q))));
      }

pub number-end : (L C D : List ℕ) (c next : ℕ) → c ≡ byte_values → Numbering L C D c next → Filled C D (class_of L) byte_values
number-end L C D c next e g = rw e at g.filled
