-- What the parts of the compiler leave: the one reading of a text as rows and a shape, and the answer by the acceptor's verdict.
use Rattle.std.specs.Prelude.{ℕ, ◌≤◌, ◌<◌, ◌≡◌, Bool, true, not, ◌&&◌, cond, List, ◌++◌, length, drop}
use Rattle.sets.specs.Set.{holds}
use Rattle.text.specs.Exp.{Exp, eps, size, edge, accepts}
use Rattle.text.specs.Grammar.{Text, text_reads, ok_body, exp}
use Rattle.text.specs.Acceptor.{begin, live, verdict}
use Rattle.text.specs.Records.{list_of, too_big}
use Rattle.text_walk.specs.declared.Shape.{Shape}
use Rattle.text_walk.specs.inner.Rows.{Sums}
use Rattle.text_compile.specs.declared.Compiled.{Compiled}

-- a text's expression, and whether it may begin anywhere
abbrev pub exp_of : Text → Exp
exp_of x = exp eps x.body

abbrev pub free_of : Text → Bool
free_of x = not x.bound

-- the rows in the work place and the shape are the text's
abbrev pub Walked : List ℕ → Shape → Bool → Text → Type 0
Walked R r bound x = Sums R 1 (exp_of x) r × (bound ≡ x.bound)

-- the edges to state t are those from the states of F on the bytes of l
abbrev pub Arrive : Bool → Exp → ℕ → ℕ → (ℕ → Bool) → Type 0
Arrive free e t F l = (s c : ℕ) → s ≤ size e → c < 256 → (holds F s && l c) ≡ edge free e s t c

-- the states of F are those that accept
abbrev pub Ends : Exp → ℕ → Type 0
Ends e F = (s : ℕ) → s ≤ size e → holds F s ≡ accepts e s

-- the answer, and the list at exit
pub record Outcome : Type 0 where
  pub refusal : ℕ
  pub place : ℕ
  pub length : ℕ
  pub list : List ℕ

-- a refusal leaves the list
abbrev pub refused : ℕ → ℕ → List ℕ → Outcome
refused n p A = record { refusal = n; place = p; length = 0; list = A }

-- the text's list stands in the front, later bytes stay
abbrev pub written : List ℕ → List ℕ → Outcome
written L A = record { refusal = 0; place = 0; length = length L; list = L ++ drop (length L) A }

-- of a good text: 21, or its list
abbrev pub made : Text → ℕ → List ℕ → Outcome
made x g A = cond (too_big (length A) x g) (refused 21 0 A) (written (list_of x g) A)

-- the code answers r and leaves the list B
pub record Gives (o : Outcome) (r : Compiled) (B : List ℕ) : Type 0 where
  pub refusal : r.refusal ≡ o.refusal
  pub place : r.place ≡ o.place
  pub length : r.length ≡ o.length
  pub list : B ≡ o.list

-- by the acceptor's verdict on T: 20, or 19 with the place; else what the one reading gives
pub record Judged (T : List ℕ) (g : ℕ) (A : List ℕ) (r : Compiled) (B : List ℕ) : Type 0 where
  pub bad : ((verdict (live 0 begin) 0 T).0 ≡ 0 → ⊥) → Gives (refused (verdict (live 0 begin) 0 T).0 (verdict (live 0 begin) 0 T).1 A) r B
  pub good : (verdict (live 0 begin) 0 T).0 ≡ 0 → (x : Text) → ok_body x.body ≡ true → text_reads x ≡ T → Gives (made x g A) r B
