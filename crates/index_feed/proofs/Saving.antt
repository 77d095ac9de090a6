-- The frontier of a record in place: compared with a set byte by byte, left as it is, and written over. Assumes nothing.
use Prim.Native.Nat.{ℕ, ◌+◌, ◌≤◌, ◌<◌}
use mathlib.Core.Path.{◌≡◌, refl, sym, ap, ◌∙◌}
use mathlib.Core.Bool.{Bool, true, false, ◌&&◌, not, cond}
use mathlib.Core.List.{List, ◌++◌}
use native.Mathlib.Omega.{arith}
use lib.ListN.{length, get_or, take, drop, length-append, length-drop, take-append-drop}
use lib.Seq.{get_or-take, get_or-drop, drop_at, length-take-le, ext_get_or}
use lib.Dec.{eqb}
use borrow.Author.Tests.{eq-eqb, ne_eqb, eqb-true}
use Rattle.numbers.specs.Number.{num, digits, placed}
use Rattle.sets.specs.Set.{set_size, set_bytes, bytes_at, set_at, read_at}
use Rattle.numbers.proofs.Laws.{Small, small-take, small-drop, num-inj, length_digits}
use Rattle.sets.proofs.Words.{Alike}
use Rattle.numbers.proofs.Placing.{placed-fits}
use Rattle.rules.specs.Rules.{verdict}
use Rattle.rules.proofs.Rules.{stop}
use Rattle.list_flow.specs.Flow.{flow_size, frontier_of, flow_bytes, bad_flow}
use Rattle.list_flow.proofs.Records.{placed-flow}
use Rattle.table.specs.Table.{split_set}
use Rattle.table.proofs.Entries.{set-bytes}
use Rattle.index.specs.Stand.{holds_at, stand_rules}
use Rattle.index.proofs.Hints.{holds-said}

-- the bytes of a set are so many
long : (b : List ℕ) (at : ℕ) → at + set_size ≤ length b → length (bytes_at b at) ≡ set_size
long b at l = length-take-le set_size (drop at b) (simp length-drop (omega arith))

-- and each is the list's
pub byte-of : (b : List ℕ) (at j : ℕ) → j < set_size → get_or (bytes_at b at) j 0 ≡ get_or b (at + j) 0
byte-of b at j l = get_or-take set_size (drop at b) j 0 l ∙ get_or-drop at b j 0

-- sets whose bytes are alike are the same
module _ (S R : List ℕ) (at : ℕ) (hs : Small 8 S) (hr : Small 8 R) (l : at + set_size ≤ length S) (m : set_size ≤ length R) where
  same-long : length (bytes_at S at) ≡ length (bytes_at R 0)
  same-long = long S at l ∙ sym (long R 0 (omega arith))

  front : (j : ℕ) → j < set_size → get_or (bytes_at R 0) j 0 ≡ get_or R j 0
  front j k = let z : 0 + j ≡ j = omega arith in rw z at (byte-of R 0 j k)

  pub set-alike : (all : Bool) → Alike (λ j. get_or S (at + j) 0) (λ j. get_or R j 0) set_size all → all ≡ eqb (set_at S at) (set_at R 0)
  unfolding read_at
  set-alike true h =
      sym (eq-eqb (num 8 (bytes_at S at)) (num 8 (bytes_at R 0)) (ap (num 8) (ext_get_or 0 (bytes_at S at) (bytes_at R 0) same-long (λ j k.
      let q : j < set_size = omega (arith, k, long S at l) in
      byte-of S at j q ∙ h.0 refl j q ∙ sym (front j q)))))
  set-alike false h =
      let w = h.1 refl in
      sym (ne_eqb (num 8 (bytes_at S at)) (num 8 (bytes_at R 0)) (λ e. w.2 (sym (byte-of S at w.0 w.1)
      ∙ ap (λ (x : List ℕ). get_or x w.0 0)
      (num-inj 8 (bytes_at S at) (bytes_at R 0) (small-take 8 set_size (drop at S) (small-drop 8 at S hs)) (small-take 8 set_size (drop 0 R) (small-drop 8 0 R hr)) same-long e)
      ∙ front w.0 w.1)))

-- all of it
pub put_all : (S R : List ℕ) (at : ℕ) → Small 8 S → at + set_size ≤ length S → placed R 0 (take set_size (drop at S)) ≡ placed R 0 (set_bytes (set_at S at))
put_all S R at h l = ap (placed R 0) (sym (set-bytes S at h l))

-- a record has the bytes of its frontier, so that they need not be written again
front_kept : (R : List ℕ) → Small 8 R → set_size ≤ length R → placed R 0 (set_bytes (frontier_of R)) ≡ R
front_kept R h l =
    let e : length (bytes_at R 0) ≡ set_size = long R 0 (omega arith) in
    let z : 0 + length (bytes_at R 0) ≡ set_size = omega (arith, e) in
    ap (placed R 0) (set-bytes R 0 h (omega arith)) ∙ placed-fits R 0 (bytes_at R 0) (omega (arith, e)) ∙ rw z (take-append-drop set_size R)

-- with another offset and other rows it is the record of that frontier
pub advanced : (R : List ℕ) (k n : ℕ) → Small 8 R → length R ≡ flow_size
    → placed (placed (placed R set_size (digits 8 4 k)) (set_size + 4) (digits 8 4 0)) (set_size + 8) (digits 8 8 n) ≡ flow_bytes (frontier_of R) k n
advanced R k n h l = rw (front_kept R h (omega (arith, l))) at (placed-flow R (frontier_of R) k n l)

-- another frontier written over a record's
pub front-over : (F G k n : ℕ) → placed (flow_bytes F k n) 0 (set_bytes G) ≡ flow_bytes G k n
unfolding flow_bytes
front-over F G k n =
    let rest = digits 8 4 k ++ (digits 8 4 0 ++ digits 8 8 n) in
    let f : length (set_bytes F) ≡ set_size = length_digits 8 set_size F in
    let g : length (set_bytes G) ≡ set_size = length_digits 8 set_size G in
    let z : 0 + length (set_bytes G) ≡ set_size = omega (arith, g) in
    let t : length (set_bytes F ++ rest) ≡ length (set_bytes F) + length rest = length-append (set_bytes F) rest in
    placed-fits (set_bytes F ++ rest) 0 (set_bytes G) (omega (arith, f, g, t)) ∙ ap (λ (x : List ℕ). set_bytes G ++ x) (ap (λ (j : ℕ). drop j (set_bytes F ++ rest)) z ∙ drop_at (set_bytes F) rest set_size f)

-- where the hint holds and the feed stands at it, the frontier is the one that it began with, as where no byte is consumed
pub kept : (S X : List ℕ) (h F i b : ℕ) (held : Bool) → held ≡ holds_at S X h F → cond (not (held && eqb i h) && not (eqb b 0)) (split_set S i) F ≡ cond (eqb b 0) F (split_set S i)
kept S X h F i b true e = go (eqb i h) refl (eqb b 0)
  where
    go : (u : Bool) → eqb i h ≡ u → (t : Bool) → cond (not (true && u) && not t) (split_set S i) F ≡ cond t F (split_set S i)
    go true q true = refl
    go true q false = sym (ap (split_set S) (eqb-true i h q) ∙ (holds-said S X h F (sym e)).2)
    go false q true = refl
    go false q false = refl
kept S X h F i b false e = go (eqb b 0)
  where
    go : (t : Bool) → cond (not t) (split_set S i) F ≡ cond t F (split_set S i)
    go true = refl
    go false = refl

-- rule 4 refuses a record of another size
pub unsized : (S X : List ℕ) (h : ℕ) (R : List ℕ) (at : ℕ) (piece : List ℕ) → (length R ≡ flow_size → ⊥) → verdict (stand_rules S X h R at piece) ≡ 4
unfolding bad_flow
unsized S X h R at piece n = stop 4 _ (rw (ne_eqb (length R) flow_size n))
