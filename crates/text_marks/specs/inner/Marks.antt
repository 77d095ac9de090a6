-- An item without its mark, and what a mark says, as the code has them.
use Rattle.std.specs.Prelude.{ℕ, ◌≡◌, ◌≤◌, Bool, true, ◌&&◌, not, List, [], ◌∷◌, ◌++◌, eqb}
use Rattle.text.specs.Grammar.{Leaf, Body, Mark, bare, star, more, maybe, rep, ok_leaf, ok_body, spell_leaf, reads, number}
use Rattle.text_marks.specs.declared.Times.{Times}
use Rattle.text_marks.specs.declared.Times.TheVariants.{Once, Star, Plus, Maybe, Between}

-- an item without its mark
pub data Atom : Type 0 where
  byte : Leaf → Atom
  brackets : Body → Atom

abbrev pub ok_atom : Atom → Bool
ok_atom (byte l) = ok_leaf l
ok_atom (brackets x) = ok_body x

-- what it reads as, with y behind it
abbrev pub atom_then : Atom → List ℕ → List ℕ
atom_then (byte l) y = spell_leaf l ++ y
atom_then (brackets x) y = 40 ∷ (reads x ++ (41 ∷ y))

-- what a mark says, as the code has it
abbrev pub times_of : Mark → Times
times_of bare = Once
times_of star = Star
times_of more = Plus
times_of maybe = Maybe
times_of (rep m n) = Between (number m) (number n)

-- a repeat's numbers are at most n
abbrev pub UpTo : ℕ → Times → Type 0
UpTo n Once = Unit {0}
UpTo n Star = Unit {0}
UpTo n Plus = Unit {0}
UpTo n Maybe = Unit {0}
UpTo n (Between least most) = (least ≤ n) × (most ≤ n)

-- a repeat at most no times
abbrev pub Never : Times → Type 0
Never Once = ⊥
Never Star = ⊥
Never Plus = ⊥
Never Maybe = ⊥
Never (Between least most) = most ≡ 0

-- no byte of a list is d
unfoldable pub without : ℕ → List ℕ → Bool
without d [] = true
without d (c ∷ w) = not (eqb c d) && without d w
