-- The states that a list names, in a reader's words; what opens and steps is among them; and how the code finds them. Assumes nothing.
use Prim.Native.Nat.{ℕ, zero, suc, ◌+◌, ◌*◌, ◌^◌, ◌≤◌, ◌<◌}
use mathlib.Core.Path.{◌≡◌, refl, sym, ap, ◌∙◌}
use mathlib.Core.Bool.{Bool, true, false, ◌&&◌, ◌||◌, cond, not, true≢false, false≢true}
use mathlib.Core.List.{List}
use mathlib.Core.Logic.{◌⊎◌, inl, inr, ◌↔◌}
use native.Mathlib.Omega.{arith}
use native.Mathlib.Nat.{lt_of_not-le, lt_of_le_of_lt}
use native.Mathlib.Decide.{dec_lt}
use native.Mathlib.Numerals.{add-one}
use lib.ListN.{length}
use lib.Dec.{ltb, eqb}
use lib.Bits.{bit_or, or_lt}
use borrow.Author.Tests.{eqb-true, eq-eqb, ne_eqb, not-true}
use Rattle.numbers.specs.Number.{num}
use Rattle.sets.specs.Set.{states, holds, join, within, insert}
use Rattle.sets.proofs.Sets.{or-false, holds-join, holds-insert, holds-past, lt-pow, set-ext}
use Rattle.sets.proofs.Within.{within-exactly, within-le}
use Rattle.rules.specs.Scan.{every, gather}
use Rattle.rules.proofs.Scanning.{choose, or-true, or_cases, refuses-exactly, every-at, gather-exactly, gather-lt}
use Rattle.list.specs.List.{records, byte_of, is_edge, is_start, is_accept, from, target, list_refusal}
use Rattle.list.specs.Automaton.{start, step, names_from, names_target, with_named, named_by, named}
use Rattle.list.specs.inner.Survey.{Surveys}
use Rattle.list.specs.declared.Survey.{Survey}
use Rattle.list.specs.Words.{Names-bytes}
use Rattle.list.proofs.Listed.{kind-edge, kind-start, kind-accept, from_bytes, target-bytes}
use Rattle.list.proofs.Steps.{start-exactly, step-exactly}

-- record i names state s: an edge the state that it leaves and the one that it leads to, a start its state, an accept its state
abbrev pub Names : List ℕ → ℕ → ℕ → Type 0
Names L i s =
    ((is_edge L i ≡ true) × ((from L i ≡ s) ⊎ (target L i ≡ s)))
    ⊎ (((is_start L i ≡ true) × (target L i ≡ s)) ⊎ ((is_accept L i ≡ true) × (from L i ≡ s)))

-- s is among the states that the first n records name exactly when one of them names it
by-exactly : (L : List ℕ) (n s : ℕ) → holds (named_by L n) s ≡ true ↔ ((s < states) × ((i : ℕ) × (i < n) × Names L i s))
unfolding named_by
by-exactly L n s = (there, back)
  where
    left : (i : ℕ) → names_from L i ≡ true → from L i ≡ s → Names L i s
    left i p e = choose (or_cases (is_edge L i) (is_accept L i) p) (λ k. inl (k, inl e)) (λ k. inr (inr (k, e)))

    right : (i : ℕ) → names_target L i ≡ true → target L i ≡ s → Names L i s
    right i p e = choose (or_cases (is_edge L i) (is_start L i) p) (λ k. inl (k, inr e)) (λ k. inr (inl (k, e)))

    there : holds (join (gather states (names_from L) (from L) n) (gather states (names_target L) (target L) n)) s ≡ true → (s < states) × ((i : ℕ) × (i < n) × Names L i s)
    there h =
        choose (or_cases (holds (gather states (names_from L) (from L) n) s) (holds (gather states (names_target L) (target L) n) s) (sym (holds-join (gather states (names_from L) (from L) n) (gather states (names_target L) (target L) n) s) ∙ h))
        (λ a. let w = (gather-exactly states (names_from L) (from L) n s).0 a in (w.0, (w.1.0, w.1.1, left w.1.0 w.1.2 w.1.3)))
        (λ b. let w = (gather-exactly states (names_target L) (target L) n s).0 b in (w.0, (w.1.0, w.1.1, right w.1.0 w.1.2 w.1.3)))

    from-side : s < states → (i : ℕ) → i < n → names_from L i ≡ true → from L i ≡ s
        → holds (join (gather states (names_from L) (from L) n) (gather states (names_target L) (target L) n)) s ≡ true
    from-side l i h p e = holds-join (gather states (names_from L) (from L) n) (gather states (names_target L) (target L) n) s ∙ rw ((gather-exactly states (names_from L) (from L) n s).1 (l, (i, h, p, e)))

    target-side : s < states → (i : ℕ) → i < n → names_target L i ≡ true → target L i ≡ s
        → holds (join (gather states (names_from L) (from L) n) (gather states (names_target L) (target L) n)) s ≡ true
    target-side l i h p e = holds-join (gather states (names_from L) (from L) n) (gather states (names_target L) (target L) n) s ∙ rw ((gather-exactly states (names_target L) (target L) n s).1 (l, (i, h, p, e))) (or-true (holds (gather states (names_from L) (from L) n) s))

    back : (s < states) × ((i : ℕ) × (i < n) × Names L i s) → holds (join (gather states (names_from L) (from L) n) (gather states (names_target L) (target L) n)) s ≡ true
    back w =
        let i = w.1.0 in
        let h = w.1.1 in
        choose w.1.2
        (λ k. choose k.1 (λ e. from-side w.0 i h (rw k.0) e) (λ e. target-side w.0 i h (rw k.0) e))
        (λ k. choose k (λ q. target-side w.0 i h (rw q.0 (or-true (is_edge L i))) q.1) (λ q. from-side w.0 i h (rw q.0 (or-true (is_edge L i))) q.1))

-- s is named exactly when some record names it; a signature names nothing
pub named-exactly : (L : List ℕ) (s : ℕ) → holds (named L) s ≡ true ↔ ((s < states) × ((i : ℕ) × (i < records L) × Names L i s))
named-exactly L s = by-exactly L (records L) s

pub names-bytes : (L : List ℕ) (i s : ℕ) → Names L i s ↔ Names-bytes L i s
names-bytes L i s =
    rw (from_bytes L i, target-bytes L i) (
      λ n. choose n (λ e. inl ((kind-edge L i).0 e.0, e.1)) (λ m. inr (choose m (λ e. inl ((kind-start L i).0 e.0, e.1)) (λ e. inr ((kind-accept L i).0 e.0, e.1)))),
      λ n. choose n (λ e. inl ((kind-edge L i).1 e.0, e.1)) (λ m. inr (choose m (λ e. inl ((kind-start L i).1 e.0, e.1)) (λ e. inr ((kind-accept L i).1 e.0, e.1)))),
    )

pub named-bytes : (L : List ℕ) (s : ℕ) → holds (named L) s ≡ true ↔ ((s < states) × ((i : ℕ) × (i < records L) × Names-bytes L i s))
named-bytes L s =
    let e = named-exactly L s in (
      λ h. let w = e.0 h in (w.0, (w.1.0, w.1.1, (names-bytes L w.1.0 s).0 w.1.2)),
      λ w. e.1 (w.0, (w.1.0, w.1.1, (names-bytes L w.1.0 s).1 w.1.2)),
    )

-- ---- a set is not within another exactly when some member is none of the other's

pub outside-exactly : (F N : ℕ) → not (within F N) ≡ true ↔ ((s : ℕ) × (holds F s ≡ true) × (holds N s ≡ true → ⊥))
outside-exactly F N = (there, λ w. ap not (gone (within F N) refl (λ e. w.2 ((within-exactly F N).0 e w.0 w.1))))
  where
    gone : (b : Bool) → within F N ≡ b → (within F N ≡ true → ⊥) → within F N ≡ false
    gone true e n = absurd (n e)
    gone false e n = e

    implied : (a b : Bool) → (not a || b) ≡ true → a ≡ true → b ≡ true
    implied true b e h = e
    implied false b e h = absurd (false≢true h)

    failed : (a b : Bool) → (not a || b) ≡ false → (a ≡ true) × (b ≡ true → ⊥)
    failed true true e = absurd (true≢false e)
    failed true false e = (refl, λ h. false≢true h)
    failed false b e = absurd (true≢false e)

    below : (s : ℕ) → holds F s ≡ true → s < F
    below s h = elim (dec_lt s F) [ yes l ↦ l | no n ↦ absurd (true≢false (sym h ∙ holds-past F F s (lt-pow F) (omega (arith, lt_of_not-le (λ (l : suc s ≤ F). n l))))) ]

    there : not (within F N) ≡ true → (s : ℕ) × (holds F s ≡ true) × (holds N s ≡ true → ⊥)
    there e = go (every F (λ s. not (holds F s) || holds N s)) refl
      where
        go : (b : Bool) → every F (λ s. not (holds F s) || holds N s) ≡ b → (s : ℕ) × (holds F s ≡ true) × (holds N s ≡ true → ⊥)
        go true q =
            absurd (true≢false (sym ((within-exactly F N).1 (λ s h. implied (holds F s) (holds N s) (every-at F (λ s. not (holds F s) || holds N s) q s (below s h)) h)) ∙ not-true (within F N) e))
        go false q =
            let w = (refuses-exactly F (λ s. not (holds F s) || holds N s)).0 (ap not q) in
            let r = failed (holds F w.0) (holds N w.0) w.2 in
            (w.0, r.0, r.1)

-- a set of named states is a set of states
pub named-lt : (L : List ℕ) (F : ℕ) → within F (named L) ≡ true → F < 2 ^ states
unfolding named_by join
named-lt L F w = lt_of_le_of_lt (within-le F (named L) w) most
  where
    most : bit_or (gather states (names_from L) (from L) (records L)) (gather states (names_target L) (target L) (records L)) < 2 ^ states
    most = or_lt states (gather states (names_from L) (from L) (records L)) (gather states (names_target L) (target L) (records L)) (gather-lt states (names_from L) (from L) (records L)) (gather-lt states (names_target L) (target L) (records L))

-- ---- what opens and steps is named

pub start-named : (L : List ℕ) → within (start L) (named L) ≡ true
start-named L =
    (within-exactly (start L) (named L)).1
    (λ s h. let w = (start-exactly L s).0 h in (named-exactly L s).1 (w.0, (w.1.0, w.1.1, inr (inl (w.1.2, w.1.3)))))

pub step-named : (L : List ℕ) (F c : ℕ) → within (step L F c) (named L) ≡ true
step-named L F c =
    (within-exactly (step L F c) (named L)).1
    (λ s h. let w = (step-exactly L F c s).0 h in (named-exactly L s).1 (w.0, (w.1.0, w.1.1, inl (w.1.2.kind, inr w.1.4))))

-- ---- how the code finds them

-- a number is put in where a test holds
holds-put : (t : Bool) (n x s : ℕ) → holds (cond t (insert states n x) n) s ≡ (holds n s || t && (ltb x states && eqb s x))
holds-put true n x s = holds-insert states n x s
holds-put false n x s = sym (or-false (holds n s))

-- what one record more names
by-more : (L : List ℕ) (i s : ℕ) → holds (named_by L (suc i)) s
    ≡ (holds (named_by L i) s || names_from L i && (ltb (from L i) states && eqb s (from L i)) || names_target L i && (ltb (target L i) states && eqb s (target L i)))
unfolding named_by gather
by-more L i s =
    let A = gather states (names_from L) (from L) i in
    let B = gather states (names_target L) (target L) i in
    holds-join (cond (names_from L i) (insert states A (from L i)) A) (cond (names_target L i) (insert states B (target L i)) B) s
    ∙ rw (holds-put (names_from L i) A (from L i) s, holds-put (names_target L i) B (target L i) s, holds-join A B s)
    (swap (holds A s) (names_from L i && (ltb (from L i) states && eqb s (from L i))) (holds B s) (names_target L i && (ltb (target L i) states && eqb s (target L i))))
  where
    swap : (a p b q : Bool) → ((a || p) || (b || q)) ≡ (((a || b) || p) || q)
    swap true p b q = refl
    swap false true true q = refl
    swap false true false q = refl
    swap false false b q = sym (ap (λ (x : Bool). x || q) (or-false b))

-- record by record
pub by-none : (L : List ℕ) → named_by L 0 ≡ 0
unfolding named_by gather join
by-none L = refl

pub by-put : (L : List ℕ) (i : ℕ) → with_named states L i (named_by L i) ≡ named_by L (i + 1)
by-put L i =
    let M = named_by L i in
    rw (add-one i)
    (set-ext (with_named states L i M) (named_by L (suc i))
    (λ s.
    holds-put (names_target L i) (cond (names_from L i) (insert states M (from L i)) M) (target L i) s
    ∙ rw (holds-put (names_from L i) M (from L i) s) (sym (by-more L i s))))

-- by the kind
module _ (m : ℕ) (L : List ℕ) (i n : ℕ) where
  pub with-edge : is_edge L i ≡ true → with_named m L i n ≡ insert m (insert m n (from L i)) (target L i)
  with-edge k = rw k

  pub with-start : is_start L i ≡ true → with_named m L i n ≡ insert m n (target L i)
  with-start k = rw (eqb-true (byte_of L i 0) 2 k)

  pub with-accept : is_accept L i ≡ true → with_named m L i n ≡ insert m n (from L i)
  with-accept k = rw (eqb-true (byte_of L i 0) 3 k)

-- an edge's two states are put in one after the other
pub edge-put : (L : List ℕ) (i : ℕ) (w v u : List ℕ) (x y : ℕ) → is_edge L i ≡ true → length v ≡ length w → x ≡ from L i → y ≡ target L i
    → num 64 v ≡ insert (64 * length w) (num 64 w) x → num 64 u ≡ insert (64 * length v) (num 64 v) y → num 64 u ≡ with_named (64 * length w) L i (num 64 w)
edge-put L i w v u x y k l p q e f = f ∙ rw (with-edge (64 * length w) L i (num 64 w) k, l, e, p, q)

-- ---- the list check and the states named, in one answer

-- what the first records name the list names
by-within : (L : List ℕ) (F i : ℕ) → i ≤ records L → within F (named_by L i) ≡ true → within F (named L) ≡ true
by-within L F i l w =
    (within-exactly F (named L)).1
    (λ s h. let n = (by-exactly L i s).0 ((within-exactly F (named_by L i)).0 w s h) in (named-exactly L s).1 (n.0, (n.1.0, omega (arith, n.1.1, l), n.1.2)))

-- whether all of F are found among what the first i records name; before the first nothing is asked
abbrev pub Seeks : List ℕ → ℕ → ℕ → Bool → Type 0
Seeks L F i known = (known ≡ true → within F (named L) ≡ true) × (known ≡ false → zero < i → within F (named_by L i) ≡ false)

pub seeks-more : (L : List ℕ) (F i : ℕ) (known : Bool) → i ≤ records L → known ≡ within F (named_by L i) → Seeks L F i known
seeks-more L F i known l e = (λ t. by-within L F i l (sym e ∙ t), λ t z. sym e ∙ t)

-- at the end that is whether all of F are named
pub seeks-end : (L : List ℕ) (F i : ℕ) (known : Bool) → zero < records L → Seeks L F i known → (known ≡ false → i ≡ records L) → known ≡ within F (named L)
seeks-end L F i true z s e = sym (s.0 refl)
seeks-end L F i false z s e = sym (rw (e refl) at (s.1 refl (rw (e refl) z)))

module _ (L : List ℕ) (F : ℕ) (s : Survey) where
  pub surveys-not : (list_refusal L ≡ 0 → ⊥) → s.refusal ≡ list_refusal L → s.known ≡ false → Surveys L F s
  surveys-not n e k = record { refusal = e; known = k ∙ rw (ne_eqb (list_refusal L) 0 n) }

  pub surveys-all : list_refusal L ≡ 0 → s.refusal ≡ 0 → s.known ≡ within F (named L) → Surveys L F s
  surveys-all l e k = record { refusal = e ∙ sym l; known = k ∙ rw (eq-eqb (list_refusal L) 0 l) }

-- ---- any record, in words

pub words-put : (L : List ℕ) (i : ℕ) (w v u : List ℕ) (x y z : Bool) → x ≡ is_edge L i → y ≡ is_accept L i → z ≡ is_start L i → length v ≡ length w
    → num 64 v ≡ cond (x || y) (insert (64 * length w) (num 64 w) (from L i)) (num 64 w) → num 64 u ≡ cond (x || z) (insert (64 * length v) (num 64 v) (target L i)) (num 64 v)
    → num 64 u ≡ with_named (64 * length w) L i (num 64 w)
words-put L i w v u x y z p q r l e f = f ∙ rw (p, r, l, e, q, p)
