-- Worked texts: the lists of good ones under signature 7, the limits on both sides, and the refusal and place of bad ones; each text stands in a comment before its bytes.
use Rattle.std.specs.Prelude.{ℕ, Bool, true, false, ◌&&◌, not, List, [], ◌∷◌, eqb}
use Rattle.text.specs.Exp.{eps, size}
use Rattle.text.specs.Grammar.{plain, hex, line, spaces, range, single, space, any, class, bare, star, more, maybe, rep, Body, end, bar, leaf, group, Text, text_reads, ok_body, exp}
use Rattle.text.specs.Acceptor.{begin, live, verdict}
use Rattle.text.specs.Records.{flat, list_of, too_big}

unfoldable pub same : List ℕ → List ℕ → Bool
same [] [] = true
same [] (b ∷ bs) = false
same (a ∷ xs) [] = false
same (a ∷ xs) (b ∷ bs) = eqb a b && same xs bs

-- ---- good texts: what the tree reads as, and its list

abbrev byte : ℕ → Body → Body
byte b rest = leaf (single (plain b)) bare rest

-- an edge, the start record, an accept record
abbrev E : ℕ → ℕ → ℕ → ℕ → List ℕ
E low high s t = 1 ∷ low ∷ high ∷ 0 ∷ s ∷ 0 ∷ t ∷ 0 ∷ []

abbrev S : List ℕ
S = 2 ∷ 0 ∷ 0 ∷ 0 ∷ 0 ∷ 0 ∷ 0 ∷ 0 ∷ []

abbrev A : ℕ → List ℕ
A s = 3 ∷ 0 ∷ 0 ∷ 0 ∷ s ∷ 0 ∷ 7 ∷ 0 ∷ []

pub record Good : Type 0 where
  pub text : List ℕ
  pub tree : Text
  pub list : List (List ℕ)

unfoldable pub all_good : List Good → Bool
all_good [] = true
all_good (r ∷ rs) = same (text_reads r.tree) r.text && ok_body r.tree.body && same (list_of r.tree 7) (flat r.list) && all_good rs

unfoldable pub good_rows : List Good
good_rows =
    -- ab
    record { text = 97 ∷ 98 ∷ []; tree = record { bound = false; body = byte 97 (byte 98 end) }; list = E 0 255 0 0 ∷ E 97 97 0 1 ∷ E 98 98 1 2 ∷ S ∷ A 2 ∷ [] }
    -- ^a|b
    ∷ record { text = 94 ∷ 97 ∷ 124 ∷ 98 ∷ []; tree = record { bound = true; body = byte 97 (bar (byte 98 end)) }; list = E 97 97 0 1 ∷ E 98 98 0 2 ∷ S ∷ A 1 ∷ A 2 ∷ [] }
    -- ^a{1,3}
    ∷ record { text = 94 ∷ 97 ∷ 123 ∷ 49 ∷ 44 ∷ 51 ∷ 125 ∷ []; tree = record { bound = true; body = leaf (single (plain 97)) (rep (49 ∷ []) (51 ∷ [])) end }; list = E 97 97 0 1 ∷ E 97 97 1 2 ∷ E 97 97 2 3 ∷ S ∷ A 1 ∷ A 2 ∷ A 3 ∷ [] }
    -- ^(a|b){2,2}
    ∷ record { text = 94 ∷ 40 ∷ 97 ∷ 124 ∷ 98 ∷ 41 ∷ 123 ∷ 50 ∷ 44 ∷ 50 ∷ 125 ∷ []; tree = record { bound = true; body = group (byte 97 (bar (byte 98 end))) (rep (50 ∷ []) (50 ∷ [])) end }; list = E 97 97 0 1 ∷ E 97 97 1 3 ∷ E 97 97 2 3 ∷ E 98 98 0 2 ∷ E 98 98 1 4 ∷ E 98 98 2 4 ∷ S ∷ A 3 ∷ A 4 ∷ [] }
    -- the empty text
    ∷ record { text = []; tree = record { bound = false; body = end }; list = E 0 255 0 0 ∷ S ∷ A 0 ∷ [] }
    -- ^
    ∷ record { text = 94 ∷ []; tree = record { bound = true; body = end }; list = S ∷ A 0 ∷ [] }
    -- ^\s
    ∷ record { text = 94 ∷ 92 ∷ 115 ∷ []; tree = record { bound = true; body = leaf space bare end }; list = E 9 13 0 1 ∷ E 32 32 0 1 ∷ S ∷ A 1 ∷ [] }
    -- ^[^\x00-\xFF]
    ∷ record { text = 94 ∷ 91 ∷ 94 ∷ 92 ∷ 120 ∷ 48 ∷ 48 ∷ 45 ∷ 92 ∷ 120 ∷ 70 ∷ 70 ∷ 93 ∷ []; tree = record { bound = true; body = leaf (class true (range (hex 48 48) (hex 70 70) ∷ [])) bare end }; list = S ∷ A 1 ∷ [] }
    -- ^[^\s]
    ∷ record { text = 94 ∷ 91 ∷ 94 ∷ 92 ∷ 115 ∷ 93 ∷ []; tree = record { bound = true; body = leaf (class true (spaces ∷ [])) bare end }; list = E 0 8 0 1 ∷ E 14 31 0 1 ∷ E 33 255 0 1 ∷ S ∷ A 1 ∷ [] }
    -- ^a{0,0}
    ∷ record { text = 94 ∷ 97 ∷ 123 ∷ 48 ∷ 44 ∷ 48 ∷ 125 ∷ []; tree = record { bound = true; body = leaf (single (plain 97)) (rep (48 ∷ []) (48 ∷ [])) end }; list = S ∷ A 0 ∷ [] }
    -- ^(ab?)*
    ∷ record { text = 94 ∷ 40 ∷ 97 ∷ 98 ∷ 63 ∷ 41 ∷ 42 ∷ []; tree = record { bound = true; body = group (byte 97 (leaf (single (plain 98)) maybe end)) star end }; list = E 97 97 0 1 ∷ E 97 97 1 1 ∷ E 97 97 2 1 ∷ E 98 98 1 2 ∷ S ∷ A 0 ∷ A 1 ∷ A 2 ∷ [] }
    -- ^.\n+
    ∷ record { text = 94 ∷ 46 ∷ 92 ∷ 110 ∷ 43 ∷ []; tree = record { bound = true; body = leaf any bare (leaf (single line) more end) }; list = E 0 255 0 1 ∷ E 10 10 1 2 ∷ E 10 10 2 2 ∷ S ∷ A 2 ∷ [] }
    ∷ []

-- ---- the limits: 39 bytes do not hold the list of "ab", 40 do; 1,023 positions are not too many states, 1,024 are

-- a{300,300}a{300,300}a{300,300}a{..}, the last with 12 and a digit
abbrev repeats : List ℕ → Body → Body
repeats n rest = leaf (single (plain 97)) (rep n n) rest

abbrev long : ℕ → Body
long d = let n : List ℕ = 51 ∷ 48 ∷ 48 ∷ [] in repeats n (repeats n (repeats n (repeats (49 ∷ 50 ∷ d ∷ []) end)))

unfoldable pub limits : Bool
limits =
    too_big 39 (record { bound = false; body = byte 97 (byte 98 end) }) 7
    && not (too_big 40 (record { bound = false; body = byte 97 (byte 98 end) }) 7)
    && eqb (size (exp eps (long 51))) 1023
    && eqb (size (exp eps (long 52))) 1024
    && too_big 65536 (record { bound = true; body = long 52 }) 7

-- ---- texts with their refusal and its place; 0 where they fit

unfoldable pub all_placed : List (List ℕ × ℕ × ℕ) → Bool
all_placed [] = true
all_placed (r ∷ rs) = eqb (verdict (live 0 begin) 0 r.0).0 r.1 && eqb (verdict (live 0 begin) 0 r.0).1 r.2 && all_placed rs

unfoldable pub placed_rows : List (List ℕ × ℕ × ℕ)
placed_rows =
    -- (^a)
    (40 ∷ 94 ∷ 97 ∷ 41 ∷ [], 19, 1)
    -- \.
    ∷ (92 ∷ 46 ∷ [], 19, 1)
    -- a{301
    ∷ (97 ∷ 123 ∷ 51 ∷ 48 ∷ 49 ∷ [], 19, 4)
    -- a{300,2
    ∷ (97 ∷ 123 ∷ 51 ∷ 48 ∷ 48 ∷ 44 ∷ 50 ∷ [], 19, 6)
    -- a{300,0
    ∷ (97 ∷ 123 ∷ 51 ∷ 48 ∷ 48 ∷ 44 ∷ 48 ∷ [], 19, 6)
    -- a{99,0
    ∷ (97 ∷ 123 ∷ 57 ∷ 57 ∷ 44 ∷ 48 ∷ [], 19, 6)
    -- a{45,3}
    ∷ (97 ∷ 123 ∷ 52 ∷ 53 ∷ 44 ∷ 51 ∷ 125 ∷ [], 19, 6)
    -- a{45,301}
    ∷ (97 ∷ 123 ∷ 52 ∷ 53 ∷ 44 ∷ 51 ∷ 48 ∷ 49 ∷ 125 ∷ [], 19, 7)
    -- [b-\x5
    ∷ (91 ∷ 98 ∷ 45 ∷ 92 ∷ 120 ∷ 53 ∷ [], 19, 5)
    -- [b-\x61
    ∷ (91 ∷ 98 ∷ 45 ∷ 92 ∷ 120 ∷ 54 ∷ 49 ∷ [], 19, 6)
    -- [\xFF-\n
    ∷ (91 ∷ 92 ∷ 120 ∷ 70 ∷ 70 ∷ 45 ∷ 92 ∷ 110 ∷ [], 19, 7)
    -- [a-]
    ∷ (91 ∷ 97 ∷ 45 ∷ 93 ∷ [], 19, 3)
    -- [\s-
    ∷ (91 ∷ 92 ∷ 115 ∷ 45 ∷ [], 19, 3)
    -- a{3}
    ∷ (97 ∷ 123 ∷ 51 ∷ 125 ∷ [], 19, 3)
    -- a{3,}
    ∷ (97 ∷ 123 ∷ 51 ∷ 44 ∷ 125 ∷ [], 19, 4)
    -- []
    ∷ (91 ∷ 93 ∷ [], 19, 1)
    -- [^]
    ∷ (91 ∷ 94 ∷ 93 ∷ [], 19, 2)
    -- a-b
    ∷ (97 ∷ 45 ∷ 98 ∷ [], 0, 0)
    -- {
    ∷ (123 ∷ [], 19, 0)
    -- a{1,2}b
    ∷ (97 ∷ 123 ∷ 49 ∷ 44 ∷ 50 ∷ 125 ∷ 98 ∷ [], 0, 0)
    -- (((((((((((((((())))))))))))))))
    ∷ (40 ∷ 40 ∷ 40 ∷ 40 ∷ 40 ∷ 40 ∷ 40 ∷ 40 ∷ 40 ∷ 40 ∷ 40 ∷ 40 ∷ 40 ∷ 40 ∷ 40 ∷ 40 ∷ 41 ∷ 41 ∷ 41 ∷ 41 ∷ 41 ∷ 41 ∷ 41 ∷ 41 ∷ 41 ∷ 41 ∷ 41 ∷ 41 ∷ 41 ∷ 41 ∷ 41 ∷ 41 ∷ [], 0, 0)
    -- (((((((((((((((((
    ∷ (40 ∷ 40 ∷ 40 ∷ 40 ∷ 40 ∷ 40 ∷ 40 ∷ 40 ∷ 40 ∷ 40 ∷ 40 ∷ 40 ∷ 40 ∷ 40 ∷ 40 ∷ 40 ∷ 40 ∷ [], 20, 0)
    -- *(((((((((((((((((
    ∷ (42 ∷ 40 ∷ 40 ∷ 40 ∷ 40 ∷ 40 ∷ 40 ∷ 40 ∷ 40 ∷ 40 ∷ 40 ∷ 40 ∷ 40 ∷ 40 ∷ 40 ∷ 40 ∷ 40 ∷ 40 ∷ [], 19, 0)
    -- ((((((((((((((((a{(
    ∷ (40 ∷ 40 ∷ 40 ∷ 40 ∷ 40 ∷ 40 ∷ 40 ∷ 40 ∷ 40 ∷ 40 ∷ 40 ∷ 40 ∷ 40 ∷ 40 ∷ 40 ∷ 40 ∷ 97 ∷ 123 ∷ 40 ∷ [], 19, 18)
    -- ^(((((((((((((((((
    ∷ (94 ∷ 40 ∷ 40 ∷ 40 ∷ 40 ∷ 40 ∷ 40 ∷ 40 ∷ 40 ∷ 40 ∷ 40 ∷ 40 ∷ 40 ∷ 40 ∷ 40 ∷ 40 ∷ 40 ∷ 40 ∷ [], 20, 0)
    -- ^((((((((((((((((
    ∷ (94 ∷ 40 ∷ 40 ∷ 40 ∷ 40 ∷ 40 ∷ 40 ∷ 40 ∷ 40 ∷ 40 ∷ 40 ∷ 40 ∷ 40 ∷ 40 ∷ 40 ∷ 40 ∷ 40 ∷ [], 19, 17)
    -- (
    ∷ (40 ∷ [], 19, 1)
    -- )
    ∷ (41 ∷ [], 19, 0)
    -- a**
    ∷ (97 ∷ 42 ∷ 42 ∷ [], 19, 2)
    -- *
    ∷ (42 ∷ [], 19, 0)
    -- (*)
    ∷ (40 ∷ 42 ∷ 41 ∷ [], 19, 1)
    -- a|*
    ∷ (97 ∷ 124 ∷ 42 ∷ [], 19, 2)
    -- ()*
    ∷ (40 ∷ 41 ∷ 42 ∷ [], 0, 0)
    -- ^^
    ∷ (94 ∷ 94 ∷ [], 19, 1)
    -- a^
    ∷ (97 ∷ 94 ∷ [], 19, 1)
    -- ]
    ∷ (93 ∷ [], 19, 0)
    -- }
    ∷ (125 ∷ [], 19, 0)
    -- -,:
    ∷ (45 ∷ 44 ∷ 58 ∷ [], 0, 0)
    -- [a
    ∷ (91 ∷ 97 ∷ [], 19, 2)
    -- [b-a]
    ∷ (91 ∷ 98 ∷ 45 ∷ 97 ∷ 93 ∷ [], 19, 3)
    -- [b-\x6
    ∷ (91 ∷ 98 ∷ 45 ∷ 92 ∷ 120 ∷ 54 ∷ [], 19, 6)
    -- [z-\n]
    ∷ (91 ∷ 122 ∷ 45 ∷ 92 ∷ 110 ∷ 93 ∷ [], 19, 4)
    -- [\n-\n]
    ∷ (91 ∷ 92 ∷ 110 ∷ 45 ∷ 92 ∷ 110 ∷ 93 ∷ [], 0, 0)
    -- [a-\s]
    ∷ (91 ∷ 97 ∷ 45 ∷ 92 ∷ 115 ∷ 93 ∷ [], 19, 4)
    -- [\s-a]
    ∷ (91 ∷ 92 ∷ 115 ∷ 45 ∷ 97 ∷ 93 ∷ [], 19, 3)
    -- [a-b-c]
    ∷ (91 ∷ 97 ∷ 45 ∷ 98 ∷ 45 ∷ 99 ∷ 93 ∷ [], 19, 4)
    -- [-a]
    ∷ (91 ∷ 45 ∷ 97 ∷ 93 ∷ [], 19, 1)
    -- [a[]
    ∷ (91 ∷ 97 ∷ 91 ∷ 93 ∷ [], 19, 2)
    -- [a^]
    ∷ (91 ∷ 97 ∷ 94 ∷ 93 ∷ [], 19, 2)
    -- \
    ∷ (92 ∷ [], 19, 1)
    -- \q
    ∷ (92 ∷ 113 ∷ [], 19, 1)
    -- \x
    ∷ (92 ∷ 120 ∷ [], 19, 2)
    -- \xg0
    ∷ (92 ∷ 120 ∷ 103 ∷ 48 ∷ [], 19, 2)
    -- \x0g
    ∷ (92 ∷ 120 ∷ 48 ∷ 103 ∷ [], 19, 3)
    -- \xa_f
    ∷ (92 ∷ 120 ∷ 97 ∷ 70 ∷ [], 0, 0)
    -- \\
    ∷ (92 ∷ 92 ∷ [], 19, 1)
    -- a{
    ∷ (97 ∷ 123 ∷ [], 19, 2)
    -- a{}
    ∷ (97 ∷ 123 ∷ 125 ∷ [], 19, 2)
    -- a{1}
    ∷ (97 ∷ 123 ∷ 49 ∷ 125 ∷ [], 19, 3)
    -- a{1,}
    ∷ (97 ∷ 123 ∷ 49 ∷ 44 ∷ 125 ∷ [], 19, 4)
    -- a{,1}
    ∷ (97 ∷ 123 ∷ 44 ∷ 49 ∷ 125 ∷ [], 19, 2)
    -- a{5,3}
    ∷ (97 ∷ 123 ∷ 53 ∷ 44 ∷ 51 ∷ 125 ∷ [], 19, 5)
    -- a{300,300}
    ∷ (97 ∷ 123 ∷ 51 ∷ 48 ∷ 48 ∷ 44 ∷ 51 ∷ 48 ∷ 48 ∷ 125 ∷ [], 0, 0)
    -- a{4000
    ∷ (97 ∷ 123 ∷ 52 ∷ 48 ∷ 48 ∷ 48 ∷ [], 19, 4)
    -- a{0000
    ∷ (97 ∷ 123 ∷ 48 ∷ 48 ∷ 48 ∷ 48 ∷ [], 19, 5)
    -- a{000,000}
    ∷ (97 ∷ 123 ∷ 48 ∷ 48 ∷ 48 ∷ 44 ∷ 48 ∷ 48 ∷ 48 ∷ 125 ∷ [], 0, 0)
    -- a{1,301}
    ∷ (97 ∷ 123 ∷ 49 ∷ 44 ∷ 51 ∷ 48 ∷ 49 ∷ 125 ∷ [], 19, 6)
    -- a{50,4
    ∷ (97 ∷ 123 ∷ 53 ∷ 48 ∷ 44 ∷ 52 ∷ [], 19, 5)
    -- a{45,4
    ∷ (97 ∷ 123 ∷ 52 ∷ 53 ∷ 44 ∷ 52 ∷ [], 19, 6)
    -- a{300,3
    ∷ (97 ∷ 123 ∷ 51 ∷ 48 ∷ 48 ∷ 44 ∷ 51 ∷ [], 19, 7)
    -- a{50,00
    ∷ (97 ∷ 123 ∷ 53 ∷ 48 ∷ 44 ∷ 48 ∷ 48 ∷ [], 19, 6)
    -- a{5,000
    ∷ (97 ∷ 123 ∷ 53 ∷ 44 ∷ 48 ∷ 48 ∷ 48 ∷ [], 19, 6)
    -- a{1,2}{1,2}
    ∷ (97 ∷ 123 ∷ 49 ∷ 44 ∷ 50 ∷ 125 ∷ 123 ∷ 49 ∷ 44 ∷ 50 ∷ 125 ∷ [], 19, 6)
    -- a{1,2}*
    ∷ (97 ∷ 123 ∷ 49 ∷ 44 ∷ 50 ∷ 125 ∷ 42 ∷ [], 19, 6)
    -- a{1 ,2}
    ∷ (97 ∷ 123 ∷ 49 ∷ 32 ∷ 44 ∷ 50 ∷ 125 ∷ [], 19, 3)
    -- ((((((((((((((((()))))))))))))))))
    ∷ (40 ∷ 40 ∷ 40 ∷ 40 ∷ 40 ∷ 40 ∷ 40 ∷ 40 ∷ 40 ∷ 40 ∷ 40 ∷ 40 ∷ 40 ∷ 40 ∷ 40 ∷ 40 ∷ 40 ∷ 41 ∷ 41 ∷ 41 ∷ 41 ∷ 41 ∷ 41 ∷ 41 ∷ 41 ∷ 41 ∷ 41 ∷ 41 ∷ 41 ∷ 41 ∷ 41 ∷ 41 ∷ 41 ∷ 41 ∷ [], 20, 0)
    -- (((((((((((((((((*
    ∷ (40 ∷ 40 ∷ 40 ∷ 40 ∷ 40 ∷ 40 ∷ 40 ∷ 40 ∷ 40 ∷ 40 ∷ 40 ∷ 40 ∷ 40 ∷ 40 ∷ 40 ∷ 40 ∷ 40 ∷ 42 ∷ [], 20, 0)
    -- [((((((((((((((((((((((](((((((((((((((())))))))))))))))
    ∷ (91 ∷ 40 ∷ 40 ∷ 40 ∷ 40 ∷ 40 ∷ 40 ∷ 40 ∷ 40 ∷ 40 ∷ 40 ∷ 40 ∷ 40 ∷ 40 ∷ 40 ∷ 40 ∷ 40 ∷ 40 ∷ 40 ∷ 40 ∷ 40 ∷ 40 ∷ 40 ∷ 93 ∷ 40 ∷ 40 ∷ 40 ∷ 40 ∷ 40 ∷ 40 ∷ 40 ∷ 40 ∷ 40 ∷ 40 ∷ 40 ∷ 40 ∷ 40 ∷ 40 ∷ 40 ∷ 40 ∷ 41 ∷ 41 ∷ 41 ∷ 41 ∷ 41 ∷ 41 ∷ 41 ∷ 41 ∷ 41 ∷ 41 ∷ 41 ∷ 41 ∷ 41 ∷ 41 ∷ 41 ∷ 41 ∷ [], 0, 0)
    ∷ []
