-- The kind of a record, as the code has it.
use Rattle.std.specs.Prelude.{ℕ, ◌≡◌, true, false, List, Option, Some, None}
use Rattle.list.specs.List.{is_edge, is_start, is_accept}
use Rattle.list.specs.declared.Kind.{Kind}
use Rattle.list.specs.declared.Kind.TheVariants.{Edge, Start, Accept}

-- record i is of the kind k: an edge, a start or an accept; where it is of none, it is none of them
abbrev pub KindIs : List ℕ → ℕ → Option Kind → Type 0
KindIs L i (Some Edge) = is_edge L i ≡ true
KindIs L i (Some Start) = is_start L i ≡ true
KindIs L i (Some Accept) = is_accept L i ≡ true
KindIs L i None = (is_edge L i ≡ false) × (is_start L i ≡ false) × (is_accept L i ≡ false)
