-- The first place where no continuation fits is where the acceptor dies.
use Prim.Native.Nat.{ℕ, zero, suc, ◌+◌, ◌<◌}
use mathlib.Core.Path.{◌≡◌, refl, sym, ap, ◌∙◌}
use mathlib.Core.Bool.{Bool, true, false, true≢false, false≢true}
use mathlib.Core.List.{List, [], ◌∷◌, ◌++◌}
use mathlib.Core.Logic.{⊎_elim, ◌⊎◌, inl, inr, ◌↔◌}
use native.Mathlib.Omega.{arith}
use lib.ListN.{length, take, drop}
use Rattle.text.specs.Grammar.{Bytes, Fits, Viable}
use Rattle.text.specs.Acceptor.{begin, State, dead, live, mode, step, run, good, is_dead, deep, verdict}
use Rattle.text.proofs.Viable.{Fine, fine-mode, ends, bytes-none, bytes-more}
use Rattle.text.proofs.Scanned.{fits-good}
use Rattle.text.proofs.Passed.{good-fits}

run-append : (u v : List ℕ) (s : State) → run s (u ++ v) ≡ run (run s u) v
unfolding run
run-append [] v s = refl
run-append (c ∷ u) v s = run-append u v (step s c)

run-dead : (v : List ℕ) → run dead v ≡ dead
unfolding run step
run-dead [] = refl
run-dead (c ∷ v) = run-dead v

fine-run : (u : List ℕ) (s : State) → Bytes u → Fine s → Fine (run s u)
unfolding run step
fine-run [] s b f = f
fine-run (c ∷ u) dead b f = fine-run u dead (λ i. b (suc i)) tt
fine-run (c ∷ u) (live d m) b f = fine-run u (mode d m c) (λ i. b (suc i)) (fine-mode d m c (b 0) f)

-- alive: some continuation fits
pub alive-viable : (u : List ℕ) → Bytes u → is_dead (run (live 0 begin) u) ≡ false → Viable u
alive-viable u b h = go (run (live 0 begin) u) refl (fine-run u (live 0 begin) b tt) h
  where
    go : (s : State) → run (live 0 begin) u ≡ s → Fine s → is_dead s ≡ false → Viable u
    go dead e f h = absurd (unfold is_dead in true≢false h)
    go (live d m) e f h =
        let (v, l, g) = ends d m f in
        (v, l, good-fits (u ++ v) (ap good (run-append u v (live 0 begin) ∙ ap (λ z. run z v) e) ∙ g))

-- dead: none does
pub dead_not : (u : List ℕ) → is_dead (run (live 0 begin) u) ≡ true → Viable u → ⊥
dead_not u h (v, l, (t, ok, e)) = go (run (live 0 begin) u) refl h
  where
    gone : good (run dead v) ≡ false
    gone = ap good (run-dead v) ∙ unfold good in refl

    go : (s : State) → run (live 0 begin) u ≡ s → is_dead s ≡ true → ⊥
    go (live d m) p h = unfold is_dead in false≢true h
    go dead p h =
        true≢false (sym (fits-good t ok) ∙ ap (λ z. good (run (live 0 begin) z)) e ∙ ap good (run-append u v (live 0 begin) ∙ ap (λ z. run z v) p) ∙ gone)

-- good exactly when it fits
pub fits_iff : (w : List ℕ) → (good (run (live 0 begin) w) ≡ true) ↔ Fits w
fits_iff w = (good-fits w, λ f. ap (λ z. good (run (live 0 begin) z)) (sym f.2) ∙ fits-good f.0 f.1)

-- where a verdict of 19 stands
abbrev Found : State → ℕ → List ℕ → Type 0
Found s i w =
    (j : ℕ) × ((verdict s i w).1 ≡ i + j) × (is_dead (run s (take j w)) ≡ false)
    × (((j ≡ length w) × (good (run s w) ≡ false)) ⊎ ((j < length w) × (is_dead (run s (take (suc j) w)) ≡ true)))

verdict-on : (c : ℕ) (w : List ℕ) (s : State) (i : ℕ) → deep s ≡ false → is_dead (step s c) ≡ false → verdict s i (c ∷ w) ≡ verdict (step s c) (suc i) w
unfolding verdict
verdict-on c w s i p q = rw (p, q)

find : (w : List ℕ) (s : State) (i : ℕ) → is_dead s ≡ false → (verdict s i w).0 ≡ 19 → Found s i w
unfolding verdict run
find [] s i a h = go (deep s) (good s) refl refl
  where
    go : (x y : Bool) → deep s ≡ x → good s ≡ y → Found s i []
    go true y p q = absurd (omega (arith, (rw p at h)))
    go false true p q = absurd (omega (arith, (rw (p, q) at h)))
    go false false p q = (0, rw (p, q) (omega arith), a, inl (refl, q))
find (c ∷ w) s i a h = go (deep s) (is_dead (step s c)) refl refl (find w (step s c) (suc i))
  where
    go : (x y : Bool) → deep s ≡ x → is_dead (step s c) ≡ y
        → (is_dead (step s c) ≡ false → (verdict (step s c) (suc i) w).0 ≡ 19 → Found (step s c) (suc i) w) → Found s i (c ∷ w)
    go true y p q ih = absurd (omega (arith, (rw p at h)))
    go false true p q ih = (0, rw (p, q) (omega arith), a, inr (omega arith, q))
    go false false p q ih =
        let v : verdict s i (c ∷ w) ≡ verdict (step s c) (suc i) w = verdict-on c w s i p q in
        let (j, e, l, t) = ih q (sym (ap (λ (z : ℕ × ℕ). z.0) v) ∙ h) in
        let f : suc i + j ≡ i + suc j = omega arith in
        (suc j, ap (λ (z : ℕ × ℕ). z.1) v ∙ e ∙ f, l, ⊎_elim (λ z. inl (ap suc z.0, z.1)) (λ z. inr (omega (arith, z.0), z.1)) t)

bytes_take : (j : ℕ) (w : List ℕ) → Bytes w → Bytes (take j w)
bytes_take zero w b = bytes-none
bytes_take (suc j) [] b = bytes-none
bytes_take (suc j) (c ∷ w) b = bytes-more c (take j w) (b 0) (bytes_take j w (λ i. b (suc i)))

-- what is left of bytes is bytes
pub bytes_drop : (j : ℕ) (w : List ℕ) → Bytes w → Bytes (drop j w)
bytes_drop zero w b = b
bytes_drop (suc j) [] b = bytes-none
bytes_drop (suc j) (c ∷ w) b = bytes_drop j w (λ i. b (suc i))

-- 19 stands at the first place where no continuation fits, or at the end of a text cut short
pub place-19 : (w : List ℕ) → Bytes w → (verdict (live 0 begin) 0 w).0 ≡ 19
    → (p : ℕ) × ((verdict (live 0 begin) 0 w).1 ≡ p) × Viable (take p w)
    × (((p ≡ length w) × (Fits w → ⊥)) ⊎ ((p < length w) × (Viable (take (suc p) w) → ⊥)))
place-19 w b h =
    let (j, e, l, t) = find w (live 0 begin) 0 (unfold is_dead in refl) h in (
      j,
      e ∙ omega arith,
      alive-viable (take j w) (bytes_take j w b) l,
      ⊎_elim (λ z. inl (z.0, λ f. true≢false (sym ((fits_iff w).1 f) ∙ z.1))) (λ z. inr (z.0, dead_not (take (suc j) w) z.1)) t,
    )
