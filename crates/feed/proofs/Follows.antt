-- One engine follows another: over the same bytes the same pairs, the same cuts, and related configurations. Assumes nothing.
use Prim.Native.Nat.{ℕ, suc, ◌+◌, ◌*◌, ◌-◌, ◌≤◌, ◌<◌}
use mathlib.Core.Path.{◌≡◌, refl, sym, ap, ap₂, ◌∙◌}
use mathlib.Core.List.{List, [], ◌∷◌}
use lib.ListN.{length}
use Rattle.sets.specs.Set.{signatures, members}
use Rattle.feed.specs.Engine.{Engine, due, run, costs, told, consumed}
use Rattle.feed.specs.Calls.{Bytes, Follows}
use Rattle.feed.proofs.Runs.{costs-most}

module _ {C D : Type 0} (E : Engine C) (G : Engine D) (Rel : C → D → Type 0) (f : Follows E G Rel) where
  -- related configurations stay related
  pub run-related : (x : C) (y : D) (cs : List ℕ) → Rel x y → Bytes cs → Rel (run E x cs) (run G y cs)
  unfolding run
  run-related x y [] r h = r
  run-related x y (c ∷ cs) r h = run-related (E.next x c) (G.next y c) cs (f.stays x y c (h 0) r) (λ i. h (suc i))

  -- the same signatures due at a byte
  pub due-same : (x : C) (y : D) (c : ℕ) → c < 256 → Rel x y → due E x c ≡ due G y c
  unfolding due
  due-same x y c l r = ap (members signatures) (f.same x y c l r)

  -- the same pairs
  pub told_same : (x : C) (y : D) (k : ℕ) (cs : List ℕ) → Rel x y → Bytes cs → told E x k cs ≡ told G y k cs
  unfolding told
  told_same x y k [] r h = refl
  told_same x y k (c ∷ cs) r h =
      rw (due-same x y c (h 0) r, told_same (E.next x c) (G.next y c) (k + 1) cs (f.stays x y c (h 0) r) (λ i. h (suc i)))

  -- the same cuts
  pub consumed-same : (x : C) (y : D) (room : ℕ) (cs : List ℕ) → Rel x y → Bytes cs → consumed E x room cs ≡ consumed G y room cs
  unfolding consumed
  consumed-same x y room [] r h = refl
  consumed-same x y room (c ∷ cs) r h =
      rw (f.goes x y r, due-same x y c (h 0) r, consumed-same (E.next x c) (G.next y c) (room - length (due G y c)) cs (f.stays x y c (h 0) r) (λ i. h (suc i)))

  -- at most b rows for each byte, where related configurations cost no more
  pub costs-few : (b : ℕ) → ((x : C) (y : D) → Rel x y → E.cost x ≤ b) → (x : C) (y : D) (cs : List ℕ) → Rel x y → Bytes cs → costs E x cs ≤ b * length cs
  costs-few b g x y cs r h =
      costs-most E (λ x. (y : D) × Rel x y) (λ x c l p. (G.next p.0 c, f.stays x p.0 c l p.1)) b (λ x p. g x p.0 p.1) x cs (y, r) h

  -- the rows of an engine H that moves as G does, where related configurations cost the same
  pub costs-same : (H : Engine D) → H.next ≡ G.next → ((x : C) (y : D) → Rel x y → E.cost x ≡ H.cost y)
      → (x : C) (y : D) (cs : List ℕ) → Rel x y → Bytes cs → costs E x cs ≡ costs H y cs
  unfolding costs
  costs-same H q g x y [] r h = refl
  costs-same H q g x y (c ∷ cs) r h =
      ap₂ (λ (m n : ℕ). m + n) (g x y r) (costs-same H q g (E.next x c) (G.next y c) cs (f.stays x y c (h 0) r) (λ i. h (suc i)))
      ∙ ap (λ (s : D → ℕ → D). H.cost y + costs H (s y c) cs) (sym q)

-- engines that move alike run alike
pub run-next : {D : Type 0} (H G : Engine D) → H.next ≡ G.next → (y : D) (cs : List ℕ) → run H y cs ≡ run G y cs
unfolding run
run-next H G q y [] = refl
run-next H G q y (c ∷ cs) = ap (λ move. run H (move y c) cs) q ∙ run-next H G q (G.next y c) cs

-- ---- an engine follows itself

-- on equal configurations
pub follows_itself : {C : Type 0} (E : Engine C) → Follows E E (λ x y. x ≡ y)
follows_itself E =
    record { same = λ x y c l e. ap (λ z. E.alerts z c) e; goes = λ x y e. ap E.halts e; stays = λ x y c l e. ap (λ z. E.next z c) e }

-- on equal configurations of a kind that its moves keep
pub follows-within : {C : Type 0} (E : Engine C) (P : C → Type 0) → ((x : C) (c : ℕ) → c < 256 → P x → P (E.next x c))
    → Follows E E (λ x y. (x ≡ y) × P x)
follows-within E P k =
    let f = follows_itself E in
    record {
      same = λ x y c l r. f.same x y c l r.0;
      goes = λ x y r. f.goes x y r.0;
      stays = λ x y c l r. (f.stays x y c l r.0, k x c l r.1);
    }
