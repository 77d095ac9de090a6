-- The automaton in a reader's words: what is in the start set, in a step and among the accepted signatures; the step of a union. Assumes nothing.
use Prim.Native.Nat.{ℕ, suc, ◌^◌, ◌≤◌, ◌<◌}
use mathlib.Core.Path.{◌≡◌, refl, sym, ◌∙◌}
use mathlib.Core.Bool.{Bool, true, false, ◌&&◌, ◌||◌, true≢false}
use mathlib.Core.List.{List}
use mathlib.Core.Logic.{◌⊎◌, ◌↔◌}
use native.Mathlib.Omega.{arith}
use native.Mathlib.Nat.{lt_of_not-le}
use native.Mathlib.Decide.{dec_lt}
use borrow.Author.Tests.{eqb-true, eq-eqb, not-false}
use Rattle.sets.specs.Set.{states, signatures, holds, join, meets}
use Rattle.sets.proofs.Sets.{holds-empty, holds-join, holds-past, set-ext}
use Rattle.sets.proofs.Meets.{apart-exactly}
use Rattle.rules.specs.Scan.{every, gather}
use Rattle.list.specs.List.{records, byte_of, is_edge, is_start, is_accept, low, high, either_case, from, target, good_record, bad_record, list_refusal}
use Rattle.list.specs.Automaton.{exchanged, between, edge, leaves, start, step, accepted, accepting, reached}
use Rattle.rules.proofs.Scanning.{and-false, both, either-words, every-at, gather-exactly, gather-lt, gather_none, gather-join}
use Rattle.rules.proofs.Rules.{passes}
use Rattle.list.proofs.Letters.{between-words}
use Rattle.list.specs.Words.{Takes}
use Rattle.list.proofs.Listed.{good-edge, good-start, good-accept, edge-good, start-good, accept-good}

pub edge-exactly : (L : List ℕ) (c i : ℕ) → edge L c i ≡ true ↔ Takes L c i
edge-exactly L c i = (there, λ t. rw t.kind (range.1 t.range))
  where
    partner : (either_case L i && between L (exchanged c) i) ≡ true ↔ ((byte_of L i 3 ≡ 1) × (low L i ≤ exchanged c) × (exchanged c ≤ high L i))
    partner =
        let w = between-words (low L i) (high L i) (exchanged c) in (
          λ e. let r = both (either_case L i) (between L (exchanged c) i) e in let q = w.0 r.1 in (eqb-true _ _ r.0, q.0, q.1),
          λ t. rw (eq-eqb _ _ t.0) (w.1 (t.1, t.2)),
        )

    range : (between L c i || either_case L i && between L (exchanged c) i) ≡ true
        ↔ (((low L i ≤ c) × (c ≤ high L i)) ⊎ ((byte_of L i 3 ≡ 1) × (low L i ≤ exchanged c) × (exchanged c ≤ high L i)))
    range = either-words _ _ (between L c i) (either_case L i && between L (exchanged c) i) (between-words (low L i) (high L i) c) partner

    there : edge L c i ≡ true → Takes L c i
    there e =
        let r = both (is_edge L i) (between L c i || either_case L i && between L (exchanged c) i) e in
        record { kind = r.0; range = range.0 r.1 }

-- s is a start state exactly when some start record names it
pub start-exactly : (L : List ℕ) (s : ℕ) → holds (start L) s ≡ true ↔ ((s < states) × ((i : ℕ) × (i < records L) × (is_start L i ≡ true) × (target L i ≡ s)))
unfolding start
start-exactly L s = gather-exactly states (is_start L) (target L) (records L) s

-- some record of L that q passes leads from a member of F to t
abbrev pub Leads : List ℕ → ℕ → (ℕ → Type 0) → ℕ → Type 0
Leads L F q t = (i : ℕ) × (i < records L) × q i × (holds F (from L i) ≡ true) × (target L i ≡ t)

-- what is gathered of the records that q passes and that leave a member of F, where Q says in words what q tests
leads-exactly : (m : ℕ) (L : List ℕ) (F : ℕ) (q : ℕ → Bool) (Q : ℕ → Type 0) → ((i : ℕ) → q i ≡ true ↔ Q i) → (t : ℕ)
    → holds (gather m (leaves L F q) (target L) (records L)) t ≡ true ↔ ((t < m) × Leads L F Q t)
leads-exactly m L F q Q f t = (there, back)
  where
    g : holds (gather m (leaves L F q) (target L) (records L)) t ≡ true ↔ ((t < m) × ((i : ℕ) × (i < records L) × (leaves L F q i ≡ true) × (target L i ≡ t)))
    g = gather-exactly m (leaves L F q) (target L) (records L) t

    there : holds (gather m (leaves L F q) (target L) (records L)) t ≡ true → (t < m) × Leads L F Q t
    there h =
        let w = g.0 h in
        let r = both (q w.1.0) (holds F (from L w.1.0)) w.1.2 in
        (w.0, (w.1.0, w.1.1, (f w.1.0).0 r.0, r.1, w.1.3))

    back : (t < m) × Leads L F Q t → holds (gather m (leaves L F q) (target L) (records L)) t ≡ true
    back w = g.1 (w.0, (w.1.0, w.1.1, rw ((f w.1.0).1 w.1.2, w.1.3), w.1.4))

-- t is in the step of F on c exactly when some edge record that c takes leads there from a member of F
pub step-exactly : (L : List ℕ) (F c t : ℕ) → holds (step L F c) t ≡ true ↔ ((t < states) × Leads L F (Takes L c) t)
unfolding step
step-exactly L F c t = leads-exactly states L F (edge L c) (Takes L c) (edge-exactly L c) t

-- g is accepted at F exactly when some accept record gives it at a member of F
pub accepted-exactly : (L : List ℕ) (F g : ℕ) → holds (accepted L F) g ≡ true ↔ ((g < signatures) × Leads L F (λ i. is_accept L i ≡ true) g)
unfolding accepted
accepted-exactly L F g = leads-exactly signatures L F (is_accept L) (λ i. is_accept L i ≡ true) (λ i. (λ e. e, λ e. e)) g

-- s is reached exactly when some edge record leads to it
pub reached-exactly : (L : List ℕ) (s : ℕ) → holds (reached L) s ≡ true ↔ ((s < states) × ((i : ℕ) × (i < records L) × (is_edge L i ≡ true) × (target L i ≡ s)))
unfolding reached
reached-exactly L s = gather-exactly states (is_edge L) (target L) (records L) s

-- s is an accepting state exactly when some accept record names it
pub accepting-exactly : (L : List ℕ) (s : ℕ) → holds (accepting L) s ≡ true ↔ ((s < states) × ((i : ℕ) × (i < records L) × (is_accept L i ≡ true) × (from L i ≡ s)))
unfolding accepting
accepting-exactly L s = gather-exactly states (is_accept L) (from L) (records L) s

-- so a frontier that holds none of them accepts nothing
pub quiet : (L : List ℕ) (F : ℕ) → F < 2 ^ states → meets F (accepting L) ≡ false → accepted L F ≡ 0
quiet L F h e = set-ext (accepted L F) 0 (λ g. none g (holds (accepted L F) g) refl ∙ sym (holds-empty g))
  where
    none : (g : ℕ) (b : Bool) → holds (accepted L F) g ≡ b → b ≡ false
    none g false q = refl
    none g true q =
        let w = ((accepted-exactly L F g).0 q).1 in
        let l : from L w.0 < states = elim (dec_lt (from L w.0) states) [ yes l ↦ l | no n ↦ absurd (true≢false (sym w.3 ∙ holds-past states F (from L w.0) h (omega (arith, lt_of_not-le (λ (l : suc (from L w.0) ≤ states). n l))))) ] in
        absurd ((apart-exactly F (accepting L)).0 e (from L w.0) w.3 ((accepting-exactly L (from L w.0)).1 (l, (w.0, w.1, w.2, refl))))

-- ---- the step of a union is the union of the steps

and-distrib : (q a b : Bool) → (q && (a || b)) ≡ (q && a || q && b)
and-distrib true a b = refl
and-distrib false a b = refl

leaves-join : (L : List ℕ) (F G : ℕ) (q : ℕ → Bool) (i : ℕ) → leaves L (join F G) q i ≡ (leaves L F q i || leaves L G q i)
leaves-join L F G q i = rw (holds-join F G (from L i)) (and-distrib (q i) (holds F (from L i)) (holds G (from L i)))

pub step-join : (L : List ℕ) (F G c : ℕ) → step L (join F G) c ≡ join (step L F c) (step L G c)
unfolding step
step-join L F G c =
    gather-join states (leaves L F (edge L c)) (leaves L G (edge L c)) (leaves L (join F G) (edge L c)) (target L) (records L) (leaves-join L F G (edge L c))

pub step-empty : (L : List ℕ) (c : ℕ) → step L 0 c ≡ 0
unfolding step
step-empty L c = gather_none states (leaves L 0 (edge L c)) (target L) (records L) (λ i. rw (holds-empty (from L i)) (and-false (edge L c i)))

-- ---- bounds: a list makes states and signatures only

pub start-lt : (L : List ℕ) → start L < 2 ^ states
unfolding start
start-lt L = gather-lt states (is_start L) (target L) (records L)

pub step-lt : (L : List ℕ) (F c : ℕ) → step L F c < 2 ^ states
unfolding step
step-lt L F c = gather-lt states (leaves L F (edge L c)) (target L) (records L)

-- ---- in a list that the check passes every record's numbers are in range, so the limit above says nothing more

pub good-at : (L : List ℕ) → list_refusal L ≡ 0 → (i : ℕ) → i < records L → good_record L i ≡ true
unfolding bad_record
good-at L e i h =
    let r1 = passes 0 _ _ e in
    let r2 = passes 1 (bad_record L) _ r1.1 in
    every-at (records L) (good_record L) (not-false (every (records L) (good_record L)) r2.0) i h

-- so where the targets are below the limit, it says nothing
unlimited : (m X t : ℕ) (L : List ℕ) (F : ℕ) (Q : ℕ → Type 0) → holds X t ≡ true ↔ ((t < m) × Leads L F Q t)
    → ((i : ℕ) → i < records L → Q i → target L i < m) → holds X t ≡ true ↔ Leads L F Q t
unlimited m X t L F Q g below = (λ h. (g.0 h).1, λ w. g.1 (rw w.4 at (below w.0 w.1 w.2), w))

-- of a checked list: t is in the step exactly when some edge leads there
pub step-checked : (L : List ℕ) → list_refusal L ≡ 0 → (F c t : ℕ) → holds (step L F c) t ≡ true ↔ Leads L F (Takes L c) t
step-checked L e F c t = unlimited states (step L F c) t L F (Takes L c) (step-exactly L F c t) below
  where
    below : (i : ℕ) → i < records L → Takes L c i → target L i < states
    below i h k = ((edge-good L i).0 (sym (good-edge L i k.kind) ∙ good-at L e i h)).4

-- and g is accepted exactly when some accept record gives it
pub accepted-checked : (L : List ℕ) → list_refusal L ≡ 0 → (F g : ℕ) → holds (accepted L F) g ≡ true ↔ Leads L F (λ i. is_accept L i ≡ true) g
accepted-checked L e F g = unlimited signatures (accepted L F) g L F (λ i. is_accept L i ≡ true) (accepted-exactly L F g) below
  where
    below : (i : ℕ) → i < records L → is_accept L i ≡ true → target L i < signatures
    below i h k = ((accept-good L i).0 (sym (good-accept L i k) ∙ good-at L e i h)).3

-- ---- the numbers of a list that the check passes are states and signatures

module _ (L : List ℕ) (e : list_refusal L ≡ 0) where
  pub edge-states : (i : ℕ) → i < records L → is_edge L i ≡ true → (from L i < states) × (target L i < states)
  edge-states i h k = let g = (edge-good L i).0 (sym (good-edge L i k) ∙ good-at L e i h) in (g.3, g.4)

  pub start-states : (i : ℕ) → i < records L → is_start L i ≡ true → target L i < states
  start-states i h k = ((start-good L i).0 (sym (good-start L i k) ∙ good-at L e i h)).2

  pub accept-states : (i : ℕ) → i < records L → is_accept L i ≡ true → (from L i < states) × (target L i < signatures)
  accept-states i h k = let g = (accept-good L i).0 (sym (good-accept L i k) ∙ good-at L e i h) in (g.2, g.3)
