-- `note` puts the number into the lowest word. Assumes nothing.
use Rattle.std.proofs.Common.{◌≡◌, ℕ, ◌+◌, ◌-◌, ◌*◌, Bool, true, false, cond, refl, ap, ◌∙◌}
use mir.Val.{bool_byte}
use Rattle.sets.specs.Set.{sig_words}
use Rattle.index_fill.proofs.Filling.{note-word}
use Rattle.index_fill.proofs.note.Goals as goal

bit : (b : Bool) → bool_byte b ≡ cond b 1 0
bit true = refl
bit false = refl

pub returns : goal.returns
returns c =
    c.of_words.ensures ∙ note-word (sig_words - 1) (c.args.n + 256 * c.from.result)
    ∙ ap (λ (x : ℕ). c.args.n + 256 * x) (c.from.ensures ∙ bit c.args.known)
