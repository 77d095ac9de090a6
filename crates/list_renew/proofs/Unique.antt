-- Each promise of the public functions determines the outcome: two outcomes that meet it are equal. Assumes nothing.
use Prim.Native.Nat.{ℕ}
use mathlib.Core.Path.{◌≡◌, sym, ◌∙◌}
use mathlib.Core.List.{List}
use Rattle.list_renew.specs.Renewal.{Renews, offset_said}

pub unique-renew : (R : List ℕ) (r s : ℕ) (Q P : List ℕ) → Renews R r Q → Renews R s P → (r ≡ s) × (Q ≡ P)
unique-renew R r s Q P a b = (a.refusal ∙ sym b.refusal, a.saved ∙ sym b.saved)

pub unique-offset : (R : List ℕ) (r s : ℕ) → r ≡ offset_said R → s ≡ offset_said R → r ≡ s
unique-offset R r s e f = e ∙ sym f
