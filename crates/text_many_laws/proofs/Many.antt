-- A list joined of many texts' lists tells what some text tells. Assumes nothing.
use Prim.Native.Nat.{ℕ, ◌<◌}
use mathlib.Core.Path.{◌≡◌, refl, sym, subst}
use mathlib.Core.List.{List, [], ◌∷◌, ◌++◌}
use mathlib.Core.Logic.{inl, inr, ◌↔◌}
use lib.ListN.{length, take}
use Rattle.rules.proofs.Scanning.{choose}
use Rattle.feed.specs.Calls.{Bytes}
use Rattle.text.specs.Grammar.{Text}
use Rattle.text_compile.specs.declared.Compiled.{Compiled}
use Rattle.text_compile.specs.Compile.{Compiles}
use Rattle.text_compile.specs.Words.{Reading}
use Rattle.text_laws.specs.Language.{EndsIn}
use Rattle.text_laws.specs.Flows.{front}
use Rattle.text_laws.proofs.Pairs.{compiled-passes, compiled-pairs}
use Rattle.text_laws.proofs.Flows.{passes-all, text-list}
use Rattle.list_join_laws.specs.Union.{Sense, Signs, Either}
use Rattle.list_join_laws.proofs.Both.{joined-unites, unites-signs, signs-flows}
use Rattle.list_fold_laws.proofs.Keeping.{left, keeps-signs}
use Rattle.text_many_laws.specs.Many.{Collects, one, both, fewer, Readings, SomeEnds, CollectedServes}

-- ---- senses that say the same

same-signs : (L : List ℕ) (P Q : Sense) → ((h : ℕ) (w : List ℕ) → P h w ↔ Q h w) → Signs L P → Signs L Q
same-signs L P Q e s =
    record {
      passes = s.passes;
      pairs = λ bs b h k. (
        λ p. let w = (s.pairs bs b h k).0 p in (w.0, (e h (take k bs)).0 w.1),
        λ w. (s.pairs bs b h k).1 (w.0, (e h (take k bs)).1 w.1),
      );
    }

some-append : (xs ys : List (Text × ℕ)) (h : ℕ) (w : List ℕ) → Either (SomeEnds xs) (SomeEnds ys) h w ↔ SomeEnds (xs ++ ys) h w
some-append [] ys h w = (λ s. choose s (λ x. absurd x) (λ y. y), λ y. inr y)
some-append (x ∷ xs) ys h w = (
  λ s. choose s (λ t. choose t (λ p. inl p) (λ q. inr ((some-append xs ys h w).0 (inl q)))) (λ q. inr ((some-append xs ys h w).0 (inr q))),
  λ s. choose s (λ p. inl (inl p)) (λ q. choose ((some-append xs ys h w).1 q) (λ a. inl (inr a)) (λ b. inr b)),
)

readings-append : (ts us : List (List ℕ × ℕ)) (xs ys : List (Text × ℕ)) → Readings ts xs → Readings us ys → Readings (ts ++ us) (xs ++ ys)
readings-append [] us [] ys a b = b
readings-append [] us (x ∷ xs) ys a b = absurd a
readings-append (t ∷ ts) us [] ys a b = absurd a
readings-append (t ∷ ts) us (x ∷ xs) ys a b = (a.0, readings-append ts us xs ys a.1 b)

-- ---- one text

module _ (T : List ℕ) (g : ℕ) (A : List ℕ) (r : Compiled) (B : List ℕ) (bytes : Bytes T) (small : g < 256) (c : Compiles T g A r B) (z : r.refusal ≡ 0) where
  compiled-signs : (x : Text) × Reading T x × Signs (front r B) (λ h w. (h ≡ g) × EndsIn x w)
  compiled-signs =
      let (x, (ok, e), fits, q) = text-list T g A r B bytes small c z in (
        x,
        (ok, e),
        subst (λ (L : List ℕ). Signs L (λ h w. (h ≡ g) × EndsIn x w)) (sym q)
            (record { passes = compiled-passes x g (length A) ok small fits; pairs = λ bs y h k. let p = compiled-pairs x g (length A) ok small fits bs y h k in (λ q. let w = p.0 q in (w.0, (w.1, w.2)), λ w. p.1 (w.0, w.1.0, w.1.1)) }),
      )

-- ---- all of them

collected : (ts : List (List ℕ × ℕ)) (L : List ℕ) → Collects ts L → (xs : List (Text × ℕ)) × Readings ts xs × Signs L (SomeEnds xs)
collected ts L (one T g A r B bytes small c z) =
    let (x, e, s) = compiled-signs T g A r B bytes small c z in (
      (x, g) ∷ [],
      ((e, refl), tt),
      same-signs (front r B) (λ h w. (h ≡ g) × EndsIn x w) (SomeEnds ((x, g) ∷ [])) (λ h w. (λ p. inl p, λ p. choose p (λ y. y) (λ y. absurd y))) s,
    )
collected vs M (both ts us list used other r exit a b j z) =
    let (xs, e, s) = collected ts (take used list) a in
    let (ys, f, t) = collected us other b in (
      xs ++ ys,
      readings-append ts us xs ys e f,
      same-signs (take r.length exit) (Either (SomeEnds xs) (SomeEnds ys)) (SomeEnds (xs ++ ys)) (some-append xs ys)
          (unites-signs (take used list) other (take r.length exit) (SomeEnds xs) (SomeEnds ys) (joined-unites list used other r exit j z) s t),
    )
collected ts M (fewer us L out r exit a f z) =
    let (xs, e, s) = collected us L a in
    (xs, e, keeps-signs L (take r.length exit) (SomeEnds xs) (left L out r exit f z).2 s)

pub collected-serves : CollectedServes
collected-serves ts L c =
    let (xs, e, s) = collected ts L c in
    (xs, e, record { passes = passes-all L s.passes; signs = s; tells = signs-flows L (SomeEnds xs) s })
