-- Signature text: its grammar as trees with what they read as, without any parser.
use Rattle.std.specs.Prelude.{ℕ, zero, suc, ◌+◌, ◌-◌, ◌*◌, ◌<◌, ◌≡◌, Bool, true, false, ◌&&◌, ◌||◌, not, cond, List, [], ◌∷◌, ◌++◌, ◌⊎◌, length, get_or, leb, eqb}
use Rattle.text.specs.Exp.{Exp, one, eps, cat, alt, plus, opt, times}

-- a byte that stands for itself; \xHH with its two digits as written; \n
pub data Single : Type 0 where
  plain : ℕ → Single
  hex : ℕ → ℕ → Single
  line : Single

pub data Member : Type 0 where
  lone : Single → Member
  spaces : Member
  range : Single → Single → Member

pub data Leaf : Type 0 where
  single : Single → Leaf
  space : Leaf
  any : Leaf
  class : Bool → List Member → Leaf

-- no mark, *, +, ?, {m,n} with the digits as written
pub data Mark : Type 0 where
  bare : Mark
  star : Mark
  more : Mark
  maybe : Mark
  rep : List ℕ → List ℕ → Mark

-- alternatives of sequences of items: a bar ends a sequence and begins the next
pub data Body : Type 0 where
  end : Body
  bar : Body → Body
  leaf : Leaf → Mark → Body → Body
  group : Body → Mark → Body → Body

-- ---- what a tree reads as

unfoldable pub spell : Single → List ℕ
spell (plain b) = b ∷ []
spell (hex a b) = 92 ∷ 120 ∷ a ∷ b ∷ []
spell line = 92 ∷ 110 ∷ []

unfoldable pub spell_member : Member → List ℕ
spell_member (lone s) = spell s
spell_member spaces = 92 ∷ 115 ∷ []
spell_member (range s t) = spell s ++ (45 ∷ spell t)

unfoldable pub spell_members : List Member → List ℕ
spell_members [] = []
spell_members (m ∷ ms) = spell_member m ++ spell_members ms

unfoldable pub spell_leaf : Leaf → List ℕ
spell_leaf (single s) = spell s
spell_leaf space = 92 ∷ 115 ∷ []
spell_leaf any = 46 ∷ []
spell_leaf (class neg ms) = 91 ∷ (cond neg (94 ∷ []) [] ++ (spell_members ms ++ (93 ∷ [])))

unfoldable pub spell_mark : Mark → List ℕ
spell_mark bare = []
spell_mark star = 42 ∷ []
spell_mark more = 43 ∷ []
spell_mark maybe = 63 ∷ []
spell_mark (rep m n) = 123 ∷ (m ++ (44 ∷ (n ++ (125 ∷ []))))

unfoldable pub reads : Body → List ℕ
reads end = []
reads (bar b) = 124 ∷ reads b
reads (leaf l m b) = spell_leaf l ++ (spell_mark m ++ reads b)
reads (group x m b) = 40 ∷ (reads x ++ (41 ∷ (spell_mark m ++ reads b)))

-- ---- which trees are good

unfoldable pub amid : ℕ → List ℕ → Bool
amid c [] = false
amid c (d ∷ ds) = eqb c d || amid c ds

-- \ . [ ] ( ) | * + ? { } ^  and, in a class, \ [ ] ^ -
abbrev pub special : List ℕ
special = 92 ∷ 46 ∷ 91 ∷ 93 ∷ 40 ∷ 41 ∷ 124 ∷ 42 ∷ 43 ∷ 63 ∷ 123 ∷ 125 ∷ 94 ∷ []

abbrev pub class_special : List ℕ
class_special = 92 ∷ 91 ∷ 93 ∷ 94 ∷ 45 ∷ []

unfoldable pub is_digit : ℕ → Bool
is_digit c = leb 48 c && leb c 57

unfoldable pub is_hex : ℕ → Bool
is_hex c = is_digit c || (leb 65 c && leb c 70) || (leb 97 c && leb c 102)

unfoldable pub hex_value : ℕ → ℕ
hex_value c = cond (is_digit c) (c - 48) (cond (leb c 70) (c - 55) (c - 87))

unfoldable pub value : Single → ℕ
value (plain b) = b
value (hex a b) = 16 * hex_value a + hex_value b
value line = 10

unfoldable pub ok_single : List ℕ → Single → Bool
ok_single out (plain b) = not (amid b out)
ok_single out (hex a b) = is_hex a && is_hex b
ok_single out line = true

unfoldable pub ok_member : Member → Bool
ok_member (lone s) = ok_single class_special s
ok_member spaces = true
ok_member (range s t) = ok_single class_special s && ok_single class_special t && leb (value s) (value t)

unfoldable pub ok_members : List Member → Bool
ok_members [] = true
ok_members (m ∷ ms) = ok_member m && ok_members ms

unfoldable pub ok_leaf : Leaf → Bool
ok_leaf (single s) = ok_single special s
ok_leaf space = true
ok_leaf any = true
ok_leaf (class neg ms) = not (eqb (length ms) 0) && ok_members ms

unfoldable pub all_digits : List ℕ → Bool
all_digits [] = true
all_digits (c ∷ cs) = is_digit c && all_digits cs

unfoldable pub number_from : ℕ → List ℕ → ℕ
number_from v [] = v
number_from v (c ∷ cs) = number_from (10 * v + (c - 48)) cs

abbrev pub number : List ℕ → ℕ
number cs = number_from 0 cs

unfoldable pub ok_number : List ℕ → Bool
ok_number cs = leb 1 (length cs) && leb (length cs) 3 && all_digits cs && leb (number cs) 300

unfoldable pub ok_mark : Mark → Bool
ok_mark bare = true
ok_mark star = true
ok_mark more = true
ok_mark maybe = true
ok_mark (rep m n) = ok_number m && ok_number n && leb (number m) (number n)

unfoldable pub ok_body : Body → Bool
ok_body end = true
ok_body (bar b) = ok_body b
ok_body (leaf l m b) = ok_leaf l && ok_mark m && ok_body b
ok_body (group x m b) = ok_body x && ok_mark m && ok_body b

unfoldable pub larger : ℕ → ℕ → ℕ
larger a b = cond (leb a b) b a

unfoldable pub depth : Body → ℕ
depth end = 0
depth (bar b) = depth b
depth (leaf l m b) = depth b
depth (group x m b) = larger (suc (depth x)) (depth b)

pub record Text : Type 0 where
  pub bound : Bool
  pub body : Body

abbrev pub text_reads : Text → List ℕ
text_reads t = cond t.bound (94 ∷ reads t.body) (reads t.body)

abbrev pub Bytes : List ℕ → Type 0
Bytes w = (i : ℕ) → get_or w i 0 < 256

-- a text fits, depth aside; a front has a continuation that fits
abbrev pub Fits : List ℕ → Type 0
Fits w = (t : Text) × (ok_body t.body ≡ true) × (text_reads t ≡ w)

abbrev pub Viable : List ℕ → Type 0
Viable u = (v : List ℕ) × Bytes v × Fits (u ++ v)

-- n brackets open, each inside the one before; the seventeenth does
abbrev pub Opens : ℕ → List ℕ → Type 0
Opens zero w = Unit {0}
Opens (suc n) w = (b : Body) × (v : List ℕ) × (ok_body b ≡ true) × (w ≡ reads b ++ (40 ∷ v)) × Opens n v

abbrev pub TooDeep : List ℕ → Type 0
TooDeep w = ((v : List ℕ) × (w ≡ 94 ∷ v) × Opens 17 v) ⊎ Opens 17 w

-- ---- what a tree means

unfoldable pub member_has : Member → ℕ → Bool
member_has (lone s) c = eqb c (value s)
member_has spaces c = eqb c 32 || (leb 9 c && leb c 13)
member_has (range s t) c = leb (value s) c && leb c (value t)

unfoldable pub members_have : List Member → ℕ → Bool
members_have [] c = false
members_have (m ∷ ms) c = member_has m c || members_have ms c

unfoldable pub leaf_has : Leaf → ℕ → Bool
leaf_has (single s) c = eqb c (value s)
leaf_has space c = member_has spaces c
leaf_has any c = true
leaf_has (class neg ms) c = cond neg (not (members_have ms c)) (members_have ms c)

unfoldable pub marked : Mark → Exp → Exp
marked bare e = e
marked star e = opt (plus e)
marked more e = plus e
marked maybe e = opt e
marked (rep m n) e = times e (number m) (number n)

-- e stands for the sequence read so far
unfoldable pub exp : Exp → Body → Exp
exp e end = e
exp e (bar b) = alt e (exp eps b)
exp e (leaf l m b) = exp (cat e (marked m (one (leaf_has l)))) b
exp e (group x m b) = exp (cat e (marked m (exp eps x))) b
