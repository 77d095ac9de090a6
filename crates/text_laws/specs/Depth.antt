-- How deep a good text is, by its tree: exactly one that is 17 deep or deeper is too deep.
use Rattle.std.specs.Prelude.{ℕ, ◌≤◌, List, ◌↔◌}
use Rattle.text.specs.Grammar.{Text, depth, TooDeep}
use Rattle.text_compile.specs.Words.{Reading}

abbrev pub DepthSaid : Type 0
DepthSaid = (T : List ℕ) (x : Text) → Reading T x → TooDeep T ↔ (17 ≤ depth x.body)
