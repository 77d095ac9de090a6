-- What the call answers and leaves: a refusal of 1 to 25, 26, or the run. Assumes nothing.
use Prim.Native.Nat.{ℕ, suc, ◌-◌, ◌<◌, ◌^◌}
use mathlib.Core.Path.{◌≡◌, refl, sym, ap, ap₂, ◌∙◌}
use mathlib.Core.Bool.{not}
use mathlib.Core.List.{List, [], ◌∷◌, ◌++◌}
use native.Mathlib.Omega.{arith}
use lib.ListN.{drop}
use borrow.Author.Tests.{ne_eqb, eq-eqb}
use Rattle.numbers.specs.Number.{placed}
use Rattle.sets.specs.Set.{states}
use Rattle.rules.specs.Rules.{verdict}
use Rattle.rules.proofs.Rules.{stop, last, verdict-then, verdict-refused}
use Rattle.list_flow.specs.Flow.{frontier_of, offset_of}
use Rattle.list_why.specs.Run.{Question}
use Rattle.list_why.specs.Reason.{front, end_of, trace, fronts, not_due, place_rules, why_rules, Explains}
use Rattle.list_why.proofs.Sources.{end-found, end_none}
use Rattle.list_why.proofs.Traces.{front-lt}
use Rattle.list_why.proofs.Keeping.{kept-all}
use Rattle.list_why.proofs.Placed.{Knows}

module _ (L R : List ℕ) (at : ℕ) (piece : List ℕ) (q : Question) (k : ℕ) (out work : List ℕ) where
  -- a refusal, whatever its number, changes nothing
  unchanged : (r : ℕ) → r ≡ verdict (why_rules L R at piece q k out work) → (r ≡ 0 → ⊥) → Explains L R at piece q k out work r out work
  unchanged r e ne =
      let z = ne_eqb (verdict (why_rules L R at piece q k out work)) 0 (λ v. ne (e ∙ v)) in
      record { refuses = e; wrote = rw z; worked = rw z }

  -- 1 to 25
  pub refused-explains : (r : ℕ) → r ≡ verdict (place_rules L R at piece k out work) → (r ≡ 0 → ⊥) → Explains L R at piece q k out work r out work
  refused-explains r e ne =
      unchanged r (e ∙ sym (verdict-refused (place_rules L R at piece k out work) ((26, not_due L (frontier_of R) piece (k - offset_of R) q) ∷ []) (λ v. ne (e ∙ v)))) ne

  module _ (known : Knows L R at piece k out work) (F : ℕ) (is : F ≡ frontier_of R) (small : F < 2 ^ states) (e : ℕ) (end : e ≡ end_of L (front L F piece (k - at)) q) where
    past : verdict (why_rules L R at piece q k out work) ≡ verdict ((26, not_due L F piece (k - at) q) ∷ [])
    past =
        verdict-then (place_rules L R at piece k out work) ((26, not_due L (frontier_of R) piece (k - offset_of R) q) ∷ []) refl known.passed
        ∙ ap₂ (λ (G n : ℕ). verdict ((26, not_due L G piece n q) ∷ [])) (sym is) (ap (λ (o : ℕ). k - o) (sym known.start))

    few : front L F piece (k - at) < 2 ^ states
    few = front-lt L F piece small (k - at) (omega (arith, known.before, known.behind))

    -- 26
    pub none : e ≡ states → Explains L R at piece q k out work 26 out work
    none z = unchanged 26 (sym (past ∙ stop 26 [] (ap not (end_none L (front L F piece (k - at)) few q (sym end ∙ z))))) (λ w. omega arith)

    -- the run
    pub told : (e ≡ states → ⊥) → Explains L R at piece q k out work 0 (trace L F piece (k - at) e ++ drop (suc (k - at)) out) (placed work 0 (fronts L F piece (k - at)))
    told ne =
        let h = end-found L (front L F piece (k - at)) few known.listed q (λ z. ne (end ∙ z)) in
        let v = past ∙ last 26 (ap not h) in
        let z = eq-eqb (verdict (why_rules L R at piece q k out work)) 0 v in
        record {
          refuses = sym v;
          wrote = rw (z, sym known.start, sym is, sym end);
          worked = rw (z, sym known.start, sym is) (kept-all (front L F piece) work (suc (k - at)) known.work-fits);
        }
