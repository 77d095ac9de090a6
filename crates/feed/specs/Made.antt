-- Calls made with the code: what each answered and left, as calls whose outcome is that, whatever they meet; and that it is what its function promises.
use Rattle.std.specs.Prelude.{ℕ, List, [], ◌∷◌, ◌≡◌}
use Rattle.feed.specs.Engine.{Outcome}
use Rattle.feed.specs.Calls.{Asked, asking, record_after, all_told, all_bytes, Along}
use Rattle.feed.specs.Fed.{Answers}
use Rattle.feed.specs.declared.Fed.{Fed}

-- a call, what the function answered, and the words and the record at its exit
pub record Made (A : Type 0) : Type 0 where
  pub call : A
  pub fed : Fed
  pub words : List ℕ
  pub saved : List ℕ

-- as a call
abbrev pub made : {A : Type 0} → (A → List ℕ) → Made A → Asked (List ℕ)
made piece m =
    asking (piece m.call) (λ R. record { refusal = m.fed.refusal; bytes = m.fed.bytes; pairs = m.fed.pairs; all = m.fed.all; words = m.words; saved = m.saved })

-- each does, on the record that the one before it left, what its function promises
abbrev pub Promised : {A : Type 0} → (A → List ℕ) → (A → List ℕ → Outcome) → List ℕ → List (Made A) → Type 0
Promised piece does = Along (made piece) (λ R m. Answers (does m.call R) m.fed m.words m.saved)

-- the calls
abbrev pub calls_of : {A : Type 0} → List (Made A) → List A
calls_of [] = []
calls_of (m ∷ ms) = m.call ∷ calls_of ms

-- what they tell, consume and leave is what the definitions say of the calls
pub record AsDefined {A : Type 0} (piece : A → List ℕ) (does : A → List ℕ → Outcome) (R : List ℕ) (ms : List (Made A)) : Type 0 where
  pub words : all_told (made piece) R ms ≡ all_told (λ c. asking (piece c) (does c)) R (calls_of ms)
  pub bytes : all_bytes (made piece) R ms ≡ all_bytes (λ c. asking (piece c) (does c)) R (calls_of ms)
  pub left : record_after (made piece) R ms ≡ record_after (λ c. asking (piece c) (does c)) R (calls_of ms)
