-- The lowest of the states from which a record leads to t, in words; and the lowest state that answers a question. Assumes nothing.
use Prim.Native.Nat.{ℕ, zero, suc, ◌≤◌, ◌<◌, ◌^◌}
use mathlib.Core.Path.{◌≡◌, refl, sym, ap, ◌∙◌}
use mathlib.Core.Bool.{Bool, true, false, ◌&&◌, cond, true≢false}
use mathlib.Core.List.{List}
use mathlib.Core.Logic.{◌⊎◌, inl, inr}
use native.Mathlib.Omega.{arith}
use native.Mathlib.Decide.{dec_lt}
use lib.Dec.{eqb, ltb}
use borrow.Author.Tests.{eqb-true, eq-eqb, lt-ltb, le-ltb}
use Rattle.sets.specs.Set.{states, holds}
use Rattle.sets.proofs.Sets.{holds-past}
use Rattle.rules.proofs.Scanning.{both, choose, below_suc}
use Rattle.list.specs.List.{list_refusal, records, is_accept, from, target}
use Rattle.list.specs.Automaton.{leaves}
use Rattle.list.proofs.Steps.{accepted-exactly, accepted-checked}
use Rattle.std.specs.Prelude.{Option, Some, None}
use Rattle.std.specs.Bool.{then_some}
use Rattle.list_why.specs.inner.Asked.{some_state}
use Rattle.list_why.specs.Run.{Question, of_signature, of_state, Ends}
use Rattle.list_why.specs.Reason.{leads_to, least, lowest, end_of, due}

-- ---- the lowest of some numbers

module _ (m : ℕ) (p : ℕ → Bool) (to : ℕ → ℕ) where
  -- with one more number it is that one, where p holds of it and it is lower
  least_more : (n : ℕ) (b : Bool) → p n ≡ b
      → ((least m p to (suc n) ≡ to n) × (to n < least m p to n) × (b ≡ true)) ⊎ ((least m p to (suc n) ≡ least m p to n) × (b ≡ true → least m p to n ≤ to n))
  unfolding least
  least_more n false e = inr (rw e, λ z. absurd (true≢false (sym z)))
  least_more n true e =
      elim (dec_lt (to n) (least m p to n)) [
        | yes l ↦ inl (rw (e, lt-ltb (to n) (least m p to n) l), l, refl)
        | no k ↦ inr (rw (e, le-ltb (to n) (least m p to n) (omega arith)), λ z. omega arith)
      ]

  -- it is at most m, and at most each of them
  pub least-most : (n : ℕ) → least m p to n ≤ m
  unfolding least
  least-most zero = omega arith
  least-most (suc n) = choose (least_more n (p n) refl) (λ w. omega (arith, w.0, w.1, least-most n)) (λ w. omega (arith, w.0, least-most n))

  pub least-each : (n i : ℕ) → i < n → p i ≡ true → least m p to n ≤ to i
  least-each zero i l h = absurd (omega arith)
  least-each (suc n) i l h =
      choose (below_suc i n l)
      (λ k. let o = least-each n i k h in choose (least_more n (p n) refl) (λ w. omega (arith, w.0, w.1, o)) (λ w. omega (arith, w.0, o)))
      (λ e. choose (least_more n (p n) refl) (λ w. rw e (omega (arith, w.0))) (λ w. rw e (omega (arith, w.0, w.1 (rw e at h)))))

  -- and where it is not m it is one of them
  pub least-is : (n : ℕ) → (least m p to n ≡ m) ⊎ ((i : ℕ) × (i < n) × (p i ≡ true) × (to i ≡ least m p to n))
  unfolding least
  least-is zero = inl refl
  least-is (suc n) =
      choose (least_more n (p n) refl)
      (λ w. inr (n, omega arith, w.2, sym w.0))
      (λ w. choose (least-is n) (λ z. inl (w.0 ∙ z)) (λ x. inr (x.0, omega (arith, x.1), x.2, x.3 ∙ sym w.0)))

  -- so a loop finds it
  pub least_on : (i best : ℕ) (b : Bool) (r : ℕ) → best ≡ least m p to i → b ≡ p i → r ≡ cond (b && ltb (to i) best) (to i) best → r ≡ least m p to (suc i)
  unfolding least
  least_on i best b r e h q = q ∙ rw (h, e)

  pub least-none : least m p to 0 ≡ m
  unfolding least
  least-none = refl

-- ---- the lowest state from which a record leads to t

-- a record that p holds of leads from s to t
abbrev pub Link : List ℕ → (ℕ → Bool) → ℕ → ℕ → Type 0
Link L p s t = (i : ℕ) × (i < records L) × (p i ≡ true) × (from L i ≡ s) × (target L i ≡ t)

module _ (L : List ℕ) (F : ℕ) (p : ℕ → Bool) (t : ℕ) where
  -- where it is a state, it is in F, and a record leads from it to t
  pub lowest-is : (lowest L F p t ≡ states → ⊥) → (holds F (lowest L F p t) ≡ true) × Link L p (lowest L F p t) t
  lowest-is ne =
      choose (least-is states (leads_to L F p t) (from L) (records L))
      (λ z. absurd (ne z))
      (λ w. let r = both (eqb (target L w.0) t) (leaves L F p w.0) w.2 in
      let u = both (p w.0) (holds F (from L w.0)) r.1 in
      (rw w.3 at u.1, (w.0, w.1, u.0, w.3, eqb-true (target L w.0) t r.0)))

  -- where a record leads from a state s of F to t, it is no higher than s
  pub lowest-of : (s : ℕ) → s < states → holds F s ≡ true → Link L p s t
      → (lowest L F p t < states) × (holds F (lowest L F p t) ≡ true) × Link L p (lowest L F p t) t × (lowest L F p t ≤ s)
  lowest-of s l h w =
      let o = least-each states (leads_to L F p t) (from L) (records L) w.0 w.1 (rw (eq-eqb (target L w.0) t w.4, w.2, w.3, h)) in
      let k : lowest L F p t ≤ s = rw w.3 at o in
      let x = lowest-is (λ z. omega (arith, z, k)) in
      (omega (arith, k), x.0, x.1, k)

-- what a set of states holds is a state
pub state-of : (S s : ℕ) → S < 2 ^ states → holds S s ≡ true → s < states
state-of S s h e = elim (dec_lt s states) [ yes l ↦ l | no n ↦ absurd (true≢false (sym e ∙ holds-past states S s h (omega arith))) ]

-- ---- the lowest state that answers a question

module _ (L : List ℕ) (F : ℕ) (small : F < 2 ^ states) where
  -- where a state of F answers it, the lowest is in F, answers it, and is no higher
  pub end-of : (q : Question) (s : ℕ) → holds F s ≡ true → Ends L q s
      → (end_of L F q < states) × (holds F (end_of L F q) ≡ true) × Ends L q (end_of L F q) × (end_of L F q ≤ s)
  end-of (of_signature g) s h e =
      lowest-of L F (is_accept L) g s (state-of F s small h) h e
  end-of (of_state t) s h e =
      let k : holds F t ≡ true = rw e at h in
      rw k (state-of F t small k, k, refl, omega (arith, e))

  -- what is asked is so exactly when some state of F answers it
  pub due-end : (q : Question) → due L F q ≡ true → (s : ℕ) × (holds F s ≡ true) × Ends L q s
  due-end (of_signature g) h = let w = ((accepted-exactly L F g).0 h).1 in (from L w.0, w.3, (w.0, w.1, w.2, refl, w.4))
  due-end (of_state t) h = (t, h, refl)

  pub end-due : list_refusal L ≡ 0 → (q : Question) (s : ℕ) → holds F s ≡ true → Ends L q s → due L F q ≡ true
  end-due ok (of_signature g) s h e = (accepted-checked L ok F g).1 (e.0, e.1, e.2, rw e.3 h, e.4)
  end-due ok (of_state t) s h e = rw e at h

  -- and the code's test: the lowest is the number of all states exactly when none does
  end-answers : (q : Question) → (end_of L F q ≡ states → ⊥) → (holds F (end_of L F q) ≡ true) × Ends L q (end_of L F q)
  end-answers (of_signature g) ne = lowest-is L F (is_accept L) g ne
  end-answers (of_state t) ne = go (holds F t) refl ne
    where
      go : (b : Bool) → holds F t ≡ b → (cond b t states ≡ states → ⊥) → (holds F (cond b t states) ≡ true) × (cond b t states ≡ t)
      go true e n = (e, refl)
      go false e n = absurd (n refl)

  pub end-found : list_refusal L ≡ 0 → (q : Question) → (end_of L F q ≡ states → ⊥) → due L F q ≡ true
  end-found ok q ne = let a = end-answers q ne in end-due ok q (end_of L F q) a.0 a.1

  pub end_none : (q : Question) → end_of L F q ≡ states → due L F q ≡ false
  end_none q z = go (due L F q) refl
    where
      go : (b : Bool) → due L F q ≡ b → due L F q ≡ false
      go false e = e
      go true e = let w = due-end q e in absurd (omega (arith, (end-of q w.0 w.1 w.2).0, z))

-- ---- a state or none

pub state-none : some_state states ≡ None
state-none = refl

pub state-some : (k : ℕ) → k < states → some_state k ≡ Some k
state-some k h = rw (lt-ltb k states h) refl

-- where a set of states has it
pub held : (S t : ℕ) → S < 2 ^ states → (b : Bool) → b ≡ holds S t → then_some b t ≡ some_state (cond (holds S t) t states)
held S t h true e = rw (sym e) (sym (state-some t (state-of S t h (sym e))))
held S t h false e = rw (sym e) (sym state-none)

-- what the loop finds, where the states passed have k as their lowest
pub state_on : (m : ℕ) (p : ℕ → Bool) (to : ℕ → ℕ) (i : ℕ) (b : Bool) (r : Option ℕ) → b ≡ p i
    → r ≡ some_state (cond (b && ltb (to i) (least m p to i)) (to i) (least m p to i)) → r ≡ some_state (least m p to (suc i))
state_on m p to i b r h e = e ∙ ap some_state (least_on m p to i (least m p to i) b (cond (b && ltb (to i) (least m p to i)) (to i) (least m p to i)) refl h refl)

-- a state that is found is one
pub state-is : (k t : ℕ) → some_state k ≡ Some t → (k ≡ t) × (t < states)
state-is k t e =
    elim (dec_lt k states) [
      | yes l ↦ let q : Some k ≡ Some t = sym (state-some k l) ∙ e in let r : k ≡ t = cc in (r, rw r at l)
      | no n ↦ let z : some_state k ≡ None = rw (le-ltb k states (omega arith)) refl in let q : None ≡ Some t = sym z ∙ e in absurd cc
    ]

-- and where none is found, it is the number of all states
pub state-not : (k : ℕ) → k ≤ states → some_state k ≡ None → k ≡ states
state-not k l e =
    elim (dec_lt k states) [
      | yes h ↦ let q : Some k ≡ None = sym (state-some k h) ∙ e in absurd cc
      | no n ↦ omega arith
    ]

module _ (L : List ℕ) (F : ℕ) (small : F < 2 ^ states) (q : Question) where
  end-le : (p : Question) → end_of L F p ≤ states
  end-le (of_signature g) = least-most states (leads_to L F (is_accept L) g) (from L) (records L)
  end-le (of_state t) = go (holds F t) refl
    where
      go : (b : Bool) → holds F t ≡ b → cond b t states ≤ states
      go true e = let k = state-of F t small e in omega arith
      go false e = omega arith

  -- what the code finds: the lowest state that answers, which is in the frontier
  pub end_told : (G : ℕ) (r : Option ℕ) (t : ℕ) → r ≡ some_state (end_of L G q) → G ≡ F → r ≡ Some t → (t ≡ end_of L F q) × (t < states) × (holds F t ≡ true)
  end_told G r t e g h =
      let z : some_state (end_of L F q) ≡ Some t = ap (λ (x : ℕ). some_state (end_of L x q)) (sym g) ∙ sym e ∙ h in
      let k = state-is (end_of L F q) t z in
      (sym k.0, k.1, rw k.0 at ((end-answers L F small q (λ w. omega (arith, w, k.0, k.1))).0))

  -- or none
  pub end-not : (G : ℕ) (r : Option ℕ) → r ≡ some_state (end_of L G q) → G ≡ F → r ≡ None → end_of L F q ≡ states
  end-not G r e g h = state-not (end_of L F q) (end-le q) (ap (λ (x : ℕ). some_state (end_of L x q)) (sym g) ∙ sym e ∙ h)

-- as the code tests a record: where it leads, whether it is taken, and from where
pub leads-by : (e q h v r : Bool) → v ≡ (e && q) → r ≡ (v && h) → r ≡ (e && (q && h))
leads-by true q h v r a b = b ∙ ap (λ (x : Bool). x && h) a
leads-by false q h v r a b = b ∙ ap (λ (x : Bool). x && h) a
