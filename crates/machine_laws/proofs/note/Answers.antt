-- `note` meets its promise: four numbers written one after another. Assumes nothing.
use Rattle.std.proofs.Common.{◌≡◌, ℕ, ◌*◌, Bool, true, false, cond, [], ◌∷◌, ◌++◌, take, refl, ap, ◌∙◌}
use Rattle.std.specs.Int.{from_bool}
use Rattle.machine_laws.proofs.Driving.{put_four}
use Rattle.machine_laws.proofs.note.Goals as goal

one-if : (b : Bool) → from_bool b ≡ cond b 1 0
one-if true = refl
one-if false = refl

pub returns : goal.returns
returns c =
    let a = c.args in
    put_four a.numbers.now (4 * a.i) _ _ _ _ c.requires
    ∙ ap (λ (n : ℕ). take (4 * a.i) a.numbers.now ++ (a.fed.refusal ∷ (a.fed.bytes ∷ (a.fed.pairs ∷ (n ∷ []))))) (c.from.ensures ∙ one-if a.fed.all)
