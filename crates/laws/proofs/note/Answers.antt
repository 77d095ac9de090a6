-- `note` meets its promise: four numbers, written one after the other. Assumes nothing.
use Rattle.std.proofs.Common.{◌≡◌, ℕ, ◌*◌, Bool, true, false, cond, [], ◌∷◌, refl, ap, ◌∙◌, arith}
use Rattle.std.specs.Int.{from_bool}
use Rattle.numbers.specs.Number.{placed}
use Rattle.laws.proofs.Driving.{four-placed}
use Rattle.laws.proofs.note.Goals as goal

one-if : (b : Bool) → from_bool b ≡ cond b 1 0
one-if true = refl
one-if false = refl

pub returns : goal.returns
returns c =
    let a = c.args in
    four-placed a.notes.now (4 * a.i) a.fed.refusal a.fed.bytes a.fed.pairs c.from.result (omega arith)
    ∙ ap (λ (n : ℕ). placed a.notes.now (4 * a.i) (a.fed.refusal ∷ a.fed.bytes ∷ a.fed.pairs ∷ n ∷ [])) (c.from.ensures ∙ one-if a.fed.all)
