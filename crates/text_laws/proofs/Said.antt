-- The records of a text are those that its automaton's words say. Assumes nothing.
use Prim.Native.Nat.{ℕ}
use mathlib.Core.Path.{◌≡◌, sym, subst}
use mathlib.Core.Bool.{Bool, not}
use mathlib.Core.List.{List, [], ◌∷◌}
use mathlib.Core.Logic.{◌⊎◌, inl, inr}
use Rattle.text.specs.Exp.{Exp, eps, edge}
use Rattle.text.specs.Grammar.{exp}
use Rattle.text.specs.Records.{start_record, all_records}
use Rattle.text_records.proofs.Rising.{Mem}
use Rattle.text_laws.specs.Records.{OneOf, EdgeOf, AcceptOf, RecordsSaid}
use Rattle.text_laws.proofs.Ran.{all-longest, longest-has}
use Rattle.text_laws.proofs.Members.{One, mem-one, edge-mem, start-mem, accept-mem}

one-mem : (r : List ℕ) (rs : List (List ℕ)) → OneOf r rs → Mem r rs
one-mem r [] x' = elim x' [ ]
one-mem r (x ∷ rs) (inl e) = inl e
one-mem r (x ∷ rs) (inr h) = inr (one-mem r rs h)

mem-of : (r : List ℕ) (rs : List (List ℕ)) → Mem r rs → OneOf r rs
mem-of r [] x' = elim x' [ ]
mem-of r (x ∷ rs) (inl e) = inl e
mem-of r (x ∷ rs) (inr h) = inr (mem-of r rs h)

module _ (free : Bool) (e : Exp) (g : ℕ) (r : List ℕ) where
  said : One free e g r → EdgeOf free e r ⊎ ((r ≡ start_record) ⊎ AcceptOf e g r)
  said (inl a) =
      inl (a.source, a.target, a.range.0, a.range.1, a.source_in, a.target-in, all-longest (edge free e a.source a.target) a.range a.run, a.is)
  said (inr (inl q)) = inr (inl q)
  said (inr (inr a)) = inr (inr (a.state, a.state-in, a.accepting, a.is))

  there : EdgeOf free e r ⊎ ((r ≡ start_record) ⊎ AcceptOf e g r) → Mem r (all_records free e g)
  there (inl (s, t, low, high, ls, lt, run, q)) =
      subst (λ z. Mem z (all_records free e g)) (sym q) (edge-mem free e g s t (low, high) ls lt (longest-has (edge free e s t) low high run))
  there (inr (inl q)) = subst (λ z. Mem z (all_records free e g)) (sym q) (start-mem free e g)
  there (inr (inr (s, l, a, q))) = subst (λ z. Mem z (all_records free e g)) (sym q) (accept-mem free e g s l a)

pub records-said : RecordsSaid
records-said x g r =
    let free = not x.bound in
    let e = exp eps x.body in (
      λ h. said free e g r (mem-one free e g r (one-mem r (all_records free e g) h)),
      λ h. mem-of r (all_records free e g) (there free e g r h),
    )
