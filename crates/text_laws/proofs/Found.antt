-- Members of lists, and records in a list of bytes.
use Prim.Native.Nat.{ℕ, zero, suc, ◌+◌, ◌*◌, ◌<◌}
use mathlib.Core.Path.{◌≡◌, refl, sym, ap, subst, ◌∙◌}
use mathlib.Core.List.{List, [], ◌∷◌, ◌++◌}
use mathlib.Core.Logic.{◌⊎◌, inl, inr, ⊎_elim}
use native.Mathlib.Omega.{arith}
use native.Mathlib.Decide.{dec_lt}
use lib.ListN.{length, take, drop, get_or, length-append}
use Rattle.list.specs.List.{records}
use Rattle.list.proofs.Listed.{records-exactly}
use Rattle.text.specs.Records.{each, flat}
use Rattle.text_records.proofs.Rising.{Mem, Long}

-- ---- members of joined lists, and of each

pub mem-left : (q : List ℕ) (a b : List (List ℕ)) → Mem q a → Mem q (a ++ b)
mem-left q [] b x' = elim x' [ ]
mem-left q (x ∷ a) b (inl e) = inl e
mem-left q (x ∷ a) b (inr m) = inr (mem-left q a b m)

pub mem-right : (q : List ℕ) (a b : List (List ℕ)) → Mem q b → Mem q (a ++ b)
mem-right q [] b m = m
mem-right q (x ∷ a) b m = inr (mem-right q a b m)

pub mem-either : (q : List ℕ) (a b : List (List ℕ)) → Mem q (a ++ b) → Mem q a ⊎ Mem q b
mem-either q [] b m = inr m
mem-either q (x ∷ a) b (inl e) = inl (inl e)
mem-either q (x ∷ a) b (inr m) = ⊎_elim (λ (z : Mem q a). inl (inr z)) (λ (z : Mem q b). inr z) (mem-either q a b m)

pub mem-each : (q : List ℕ) (f : ℕ → List (List ℕ)) (n : ℕ) → Mem q (each f n) → (i : ℕ) × (i < n) × Mem q (f i)
unfolding each
mem-each q f zero m = elim m [ ]
mem-each q f (suc n) m = go (mem-either q (each f n) (f n) m) (mem-each q f n)
  where
    go : Mem q (each f n) ⊎ Mem q (f n) → (Mem q (each f n) → (i : ℕ) × (i < n) × Mem q (f i)) → (i : ℕ) × (i < suc n) × Mem q (f i)
    go (inl z) ih = let w = ih z in (w.0, omega (arith, w.1), w.2)
    go (inr z) ih = (n, omega arith, z)

pub each-mem : (q : List ℕ) (f : ℕ → List (List ℕ)) (n i : ℕ) → i < n → Mem q (f i) → Mem q (each f n)
unfolding each
each-mem q f zero i h m = absurd (omega arith)
each-mem q f (suc n) i h m =
    elim (dec_lt i n) [
      | yes l ↦ mem-left q (each f n) (f n) (each-mem q f n i l m)
      | no g ↦ let e : i ≡ n = omega arith in mem-right q (each f n) (f n) (subst (λ z. Mem q (f z)) e m)
    ]

-- a member stands at some place, and what stands at a place is a member
pub mem-at : (q : List ℕ) (rs : List (List ℕ)) → Mem q rs → (i : ℕ) × (i < length rs) × (get_or rs i [] ≡ q)
mem-at q [] x' = elim x' [ ]
mem-at q (x ∷ rs) (inl e) = (0, omega arith, sym e)
mem-at q (x ∷ rs) (inr m) = let w = mem-at q rs m in (suc w.0, omega (arith, w.1), w.2)

pub at_mem : (rs : List (List ℕ)) (i : ℕ) → i < length rs → Mem (get_or rs i []) rs
at_mem [] i h = absurd (omega arith)
at_mem (x ∷ rs) zero h = inl refl
at_mem (x ∷ rs) (suc i) h = inr (at_mem rs i (omega arith))

pub long-all : (n : ℕ) (rs : List (List ℕ)) → ((q : List ℕ) → Mem q rs → length q ≡ n) → Long n rs
long-all n [] f = tt
long-all n (x ∷ rs) f = (f x (inl refl), long-all n rs (λ q m. f q (inr m)))

-- ---- records of eight bytes, one after the other

get_d-left : (a b : List ℕ) (i : ℕ) → i < length a → get_or (a ++ b) i 0 ≡ get_or a i 0
get_d-left [] b i h = absurd (omega arith)
get_d-left (x ∷ a) b zero h = refl
get_d-left (x ∷ a) b (suc i) h = get_d-left a b i (omega arith)

get_d-right : (a b : List ℕ) (i : ℕ) → get_or (a ++ b) (length a + i) 0 ≡ get_or b i 0
get_d-right [] b i = ap (λ z. get_or b z 0) (none i)
  where
    none : (i : ℕ) → 0 + i ≡ i
    none i = omega arith
get_d-right (x ∷ a) b i = ap (λ z. get_or (x ∷ (a ++ b)) z 0) (one (length a) i) ∙ get_d-right a b i
  where
    one : (n i : ℕ) → suc n + i ≡ suc (n + i)
    one n i = omega arith

pub flat-length : (rs : List (List ℕ)) → Long 8 rs → length (flat rs) ≡ 8 * length rs
unfolding flat
flat-length [] l = refl
flat-length (r ∷ rs) (e, l) = length-append r (flat rs) ∙ (let w = flat-length rs l in omega arith)

pub flat-records : (rs : List (List ℕ)) → Long 8 rs → records (flat rs) ≡ length rs
flat-records rs l = let e = flat-length rs l in (records-exactly (flat rs) (length rs)).1 (omega arith, omega arith)

flat-cons : (r : List ℕ) (rs : List (List ℕ)) → flat (r ∷ rs) ≡ r ++ flat rs
unfolding flat
flat-cons r rs = refl

pub flat-at : (rs : List (List ℕ)) (i k : ℕ) → Long 8 rs → i < length rs → k < 8 → get_or (flat rs) (8 * i + k) 0 ≡ get_or (get_or rs i []) k 0
flat-at [] i k l h j = absurd (omega arith)
flat-at (r ∷ rs) zero k (e, l) h j = ap (λ z. get_or z (8 * 0 + k) 0) (flat-cons r rs) ∙ ap (λ z. get_or (r ++ flat rs) z 0) none ∙ get_d-left r (flat rs) k (omega arith)
  where
    none : 8 * 0 + k ≡ k
    none = omega arith
flat-at (r ∷ rs) (suc i) k (e, l) h j = ap (λ z. get_or z (8 * suc i + k) 0) (flat-cons r rs) ∙ ap (λ z. get_or (r ++ flat rs) z 0) place ∙ get_d-right r (flat rs) (8 * i + k) ∙ flat-at rs i k l (omega arith) j
  where
    place : 8 * suc i + k ≡ length r + (8 * i + k)
    place = omega (arith, e)

take_left : (a b : List ℕ) → take (length a) (a ++ b) ≡ a
take_left [] b = refl
take_left (x ∷ a) b = ap (λ z. x ∷ z) (take_left a b)

drop-right : (a b : List ℕ) (i : ℕ) → drop (length a + i) (a ++ b) ≡ drop i b
drop-right [] b i = ap (λ z. drop z b) (none i)
  where
    none : (i : ℕ) → 0 + i ≡ i
    none i = omega arith
drop-right (x ∷ a) b i = ap (λ z. drop z (x ∷ (a ++ b))) (one (length a) i) ∙ drop-right a b i
  where
    one : (n i : ℕ) → suc n + i ≡ suc (n + i)
    one n i = omega arith

pub flat-take : (rs : List (List ℕ)) (i : ℕ) → Long 8 rs → i < length rs → take 8 (drop (8 * i) (flat rs)) ≡ get_or rs i []
flat-take [] i l h = absurd (omega arith)
flat-take (r ∷ rs) zero (e, l) h = ap (λ z. take 8 z) (flat-cons r rs) ∙ ap (λ z. take z (r ++ flat rs)) (sym e) ∙ take_left r (flat rs)
flat-take (r ∷ rs) (suc i) (e, l) h = ap (λ z. take 8 (drop (8 * suc i) z)) (flat-cons r rs) ∙ ap (λ z. take 8 (drop z (r ++ flat rs))) place ∙ ap (take 8) (drop-right r (flat rs) (8 * i)) ∙ flat-take rs i l (omega arith)
  where
    place : 8 * suc i ≡ length r + 8 * i
    place = omega (arith, e)
