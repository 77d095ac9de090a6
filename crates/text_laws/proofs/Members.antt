-- The records of a text: an edge for each run of bytes between two states, the start, and the accepts.
use Prim.Native.Nat.{ℕ, suc, ◌≤◌}
use mathlib.Core.Path.{◌≡◌, refl, sym, ap, subst}
use mathlib.Core.Bool.{Bool, true, cond, false}
use mathlib.Core.List.{List, [], ◌∷◌}
use mathlib.Core.Logic.{◌⊎◌, inl, inr}
use native.Mathlib.Omega.{arith}
use lib.ListN.{length}
use Rattle.text.specs.Exp.{Exp, size, edge, accepts}
use Rattle.text.specs.Records.{runs, edge_record, edge_records, start_record, accept_record, each, edges_from, edges_to, accepts_of, all_records}
use Rattle.text_records.proofs.Rising.{Mem}
use Rattle.text_laws.proofs.Found.{mem-left, mem-right, mem-either, mem-each, each-mem}
use Rattle.text_laws.proofs.Ran.{Has}

-- the edge from s to t on the bytes from low to high
pub record AnEdge (free : Bool) (e : Exp) (r : List ℕ) : Type 0 where
  pub source : ℕ
  pub target : ℕ
  pub range : ℕ × ℕ
  pub source_in : source ≤ size e
  pub target-in : target ≤ size e
  pub run : Has range (runs (edge free e source target) 256 0 0)
  pub is : r ≡ edge_record range.0 range.1 source target

pub record AnAccept (e : Exp) (g : ℕ) (r : List ℕ) : Type 0 where
  pub state : ℕ
  pub state-in : state ≤ size e
  pub accepting : accepts e state ≡ true
  pub is : r ≡ accept_record state g

abbrev pub One : Bool → Exp → ℕ → List ℕ → Type 0
One free e g r = AnEdge free e r ⊎ ((r ≡ start_record) ⊎ AnAccept e g r)

pub edges-has : (s t : ℕ) (ps : List (ℕ × ℕ)) (r : List ℕ) → Mem r (edge_records s t ps) → (p : ℕ × ℕ) × Has p ps × (r ≡ edge_record p.0 p.1 s t)
unfolding edge_records
edges-has s t [] r x' = elim x' [ ]
edges-has s t (x ∷ ps) r (inl e) = (x, inl refl, e)
edges-has s t (x ∷ ps) r (inr m) = let w = edges-has s t ps r m in (w.0, inr w.1, w.2)

has-edges : (s t : ℕ) (ps : List (ℕ × ℕ)) (p : ℕ × ℕ) → Has p ps → Mem (edge_record p.0 p.1 s t) (edge_records s t ps)
unfolding edge_records
has-edges s t [] p x' = elim x' [ ]
has-edges s t (x ∷ ps) p (inl e) = inl (ap (λ (z : ℕ × ℕ). edge_record z.0 z.1 s t) e)
has-edges s t (x ∷ ps) p (inr m) = inr (has-edges s t ps p m)

module _ (free : Bool) (e : Exp) (g : ℕ) where
  pub mem-one : (r : List ℕ) → Mem r (all_records free e g) → One free e g r
  unfolding all_records edges_to edges_from accepts_of
  mem-one r m = go (mem-either r (each (edges_to free e) (suc (size e))) (start_record ∷ each (accepts_of e g) (suc (size e))) m)
    where
      edges : Mem r (each (edges_to free e) (suc (size e))) → AnEdge free e r
      edges z =
          let (t, lt, u) = mem-each r (edges_to free e) (suc (size e)) z in
          let (s, ls, v) = mem-each r (edges_from free e t) (suc (size e)) u in
          let (p, h, q) = edges-has s t (runs (edge free e s t) 256 0 0) r v in
          record { source = s; target = t; range = p; source_in = omega arith; target-in = omega arith; run = h; is = q }

      taken : (s : ℕ) → s ≤ size e → (b : Bool) → accepts e s ≡ b → Mem r (cond b (accept_record s g ∷ []) []) → AnAccept e g r
      taken s l false q x'' = elim x'' [ ]
      taken s l true q (inr x4) = elim x4 [ ]
      taken s l true q (inl w) = record { state = s; state-in = l; accepting = q; is = w }

      accepting : Mem r (each (accepts_of e g) (suc (size e))) → AnAccept e g r
      accepting z = let (s, l, u) = mem-each r (accepts_of e g) (suc (size e)) z in taken s (omega arith) (accepts e s) refl u

      go : Mem r (each (edges_to free e) (suc (size e))) ⊎ ((r ≡ start_record) ⊎ Mem r (each (accepts_of e g) (suc (size e)))) → One free e g r
      go (inl z) = inl (edges z)
      go (inr (inl z)) = inr (inl z)
      go (inr (inr z)) = inr (inr (accepting z))

  pub edge-mem : (s t : ℕ) (p : ℕ × ℕ) → s ≤ size e → t ≤ size e → Has p (runs (edge free e s t) 256 0 0) → Mem (edge_record p.0 p.1 s t) (all_records free e g)
  unfolding all_records edges_to edges_from
  edge-mem s t p ls lt h =
      let r = edge_record p.0 p.1 s t in
      mem-left r (each (edges_to free e) (suc (size e))) (start_record ∷ each (accepts_of e g) (suc (size e)))
      (each-mem r (edges_to free e) (suc (size e)) t (omega arith) (each-mem r (edges_from free e t) (suc (size e)) s (omega arith) (has-edges s t (runs (edge free e s t) 256 0 0) p h)))

  pub start-mem : Mem start_record (all_records free e g)
  unfolding all_records
  start-mem = mem-right start_record (each (edges_to free e) (suc (size e))) (start_record ∷ each (accepts_of e g) (suc (size e))) (inl refl)

  pub accept-mem : (s : ℕ) → s ≤ size e → accepts e s ≡ true → Mem (accept_record s g) (all_records free e g)
  unfolding all_records accepts_of
  accept-mem s l h =
      mem-right (accept_record s g) (each (edges_to free e) (suc (size e))) (start_record ∷ each (accepts_of e g) (suc (size e)))
      (inr (each-mem (accept_record s g) (accepts_of e g) (suc (size e)) s (omega arith) (subst (λ b. Mem (accept_record s g) (cond b (accept_record s g ∷ []) [])) (sym h) (inl refl))))

  pub one-long : (r : List ℕ) → One free e g r → length r ≡ 8
  one-long r (inl a) = ap length a.is
  one-long r (inr (inl q)) = ap length q
  one-long r (inr (inr a)) = ap length a.is
