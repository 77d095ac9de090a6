-- Which byte a text begins with, and whether that binds it to the front.
use Prim.Native.Nat.{ℕ}
use mathlib.Core.Path.{◌≡◌, refl, sym, ap, ◌∙◌}
use mathlib.Core.Bool.{Bool, true, false, cond}
use mathlib.Core.List.{List, [], ◌∷◌}
use lib.Dec.{eqb}
use lib.ListN.{get_or, drop}
use Rattle.text.specs.Grammar.{Text, text_reads, ok_body, reads}
use Rattle.text.specs.inner.Heads.{head_of}
use Rattle.text.proofs.Reading.{body-caret}

pub head-read : (T : List ℕ) → get_or T 0 0 ≡ head_of 0 T
head-read [] = refl
head-read (c ∷ T) = refl

-- the first byte of a good text tells whether it is bound
pub bound-first : (x : Text) (T : List ℕ) → ok_body x.body ≡ true → text_reads x ≡ T → eqb (head_of 0 T) 94 ≡ x.bound
bound-first x T ok e = go x.bound refl
  where
    go : (b : Bool) → x.bound ≡ b → eqb (head_of 0 T) 94 ≡ b
    go true q = ap (λ z. eqb (head_of 0 z) 94) (sym e ∙ ap (λ b. cond b (94 ∷ reads x.body) (reads x.body)) q)
    go false q = ap (λ z. eqb (head_of 0 z) 94) (sym e ∙ ap (λ b. cond b (94 ∷ reads x.body) (reads x.body)) q) ∙ body-caret x.body ok

-- behind the byte that binds it a text is its body
pub front-body : (x : Text) (T : List ℕ) → text_reads x ≡ T → drop (cond x.bound 1 0) T ≡ reads x.body
front-body x T e = go x.bound refl
  where
    go : (b : Bool) → x.bound ≡ b → drop (cond b 1 0) T ≡ reads x.body
    go true q = ap (drop 1) (sym e ∙ ap (λ b. cond b (94 ∷ reads x.body) (reads x.body)) q)
    go false q = sym e ∙ ap (λ b. cond b (94 ∷ reads x.body) (reads x.body)) q
