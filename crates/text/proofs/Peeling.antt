-- What stands at a place of a text, and behind it.
use Prim.Native.Nat.{ℕ, zero, suc, ◌+◌, ◌≤◌, ◌<◌}
use mathlib.Core.Path.{◌≡◌, refl, sym, ◌∙◌}
use mathlib.Core.Bool.{Bool, true, false, not, cond}
use mathlib.Core.List.{List, [], ◌∷◌, ◌++◌}
use native.Mathlib.Omega.{arith}
use native.Mathlib.Numerals.{add-one}
use lib.ListN.{length, drop, get_or}
use lib.Seq.{drop-cons}
use lib.Dec.{ltb, eqb}
use borrow.Author.Tests.{ltb-true, ltb-false, eqb-false}
use Rattle.text.specs.Grammar.{plain, hex, line, Leaf, single, space, any, class, amid, special, ok_single, ok_leaf, spell, spell_members, spell_leaf}
use Rattle.text.proofs.Reading.{amid-out, not-true}

pub drop_past : (T : List ℕ) (i : ℕ) → length T ≤ i → drop i T ≡ []
drop_past [] zero h = refl
drop_past [] (suc i) h = refl
drop_past (c ∷ T) zero h = absurd (omega arith)
drop_past (c ∷ T) (suc i) h = drop_past T i (omega arith)

pub nil-cons : (c : ℕ) (w : List ℕ) → ◌≡◌ {A = List ℕ} [] (c ∷ w) → ⊥
nil-cons c w e = let z : ◌≡◌ {A = ℕ} 0 1 = cc in omega arith

pub peel-lt : (T : List ℕ) (i c : ℕ) (w : List ℕ) → drop i T ≡ c ∷ w → i < length T
peel-lt T i c w e = go (ltb i (length T)) refl
  where
    go : (b : Bool) → ltb i (length T) ≡ b → i < length T
    go true h = ltb-true i (length T) h
    go false h = absurd (nil-cons c w (sym (drop_past T i (ltb-false i (length T) h)) ∙ e))

pub peel-at : (T : List ℕ) (i c : ℕ) (w : List ℕ) → drop i T ≡ c ∷ w → get_or T i 0 ≡ c
peel-at T i c w e = let d = drop-cons T i 0 (peel-lt T i c w e) in cc

pub peel-tail : (T : List ℕ) (i c : ℕ) (w : List ℕ) → drop i T ≡ c ∷ w → drop (i + 1) T ≡ w
peel-tail T i c w e = let d = drop-cons T i 0 (peel-lt T i c w e) in rw add-one (cc)

pub gone : (T : List ℕ) (n c : ℕ) (u y : List ℕ) → length T ≤ n → drop n T ≡ u ++ (c ∷ y) → ⊥
gone T n c [] y h e = nil-cons c y (sym (drop_past T n h) ∙ e)
gone T n c (d ∷ u) y h e = nil-cons d (u ++ (c ∷ y)) (sym (drop_past T n h) ∙ e)

module _ (T : List ℕ) (n : ℕ) (y : List ℕ) where
  pub not_plain : (b c : ℕ) → amid c special ≡ true → not (amid b special) ≡ true → drop n T ≡ b ∷ y → get_or T n 0 ≡ c → ⊥
  not_plain b c h k e g =
      eqb-false b c (amid-out b c special (not-true (amid b special) k) h) (sym (peel-at T n b y e) ∙ g)

  pub differ : (b c : ℕ) (w : List ℕ) → eqb b c ≡ false → drop n T ≡ b ∷ w → get_or T n 0 ≡ c → ⊥
  differ b c w h e g = eqb-false b c h (sym (peel-at T n b w e) ∙ g)

  -- a leaf begins with no special byte but its own
  pub leaf-not : (l : Leaf) (d : ℕ) → amid d special ≡ true → eqb 92 d ≡ false → eqb 46 d ≡ false → eqb 91 d ≡ false → ok_leaf l ≡ true → drop n T ≡ spell_leaf l ++ y → get_or T n 0 ≡ d → ⊥
  unfolding spell_leaf ok_leaf spell ok_single
  leaf-not (single (plain b)) d h i j k ok e g = not_plain b d h ok e g
  leaf-not (single (hex a b)) d h i j k ok e g = differ 92 d (120 ∷ a ∷ b ∷ y) i e g
  leaf-not (single line) d h i j k ok e g = differ 92 d (110 ∷ y) i e g
  leaf-not space d h i j k ok e g = differ 92 d (115 ∷ y) i e g
  leaf-not any d h i j k ok e g = differ 46 d y j e g
  leaf-not (class neg ms) d h i j k ok e g = differ 91 d ((cond neg (94 ∷ []) [] ++ (spell_members ms ++ (93 ∷ []))) ++ y) k e g
