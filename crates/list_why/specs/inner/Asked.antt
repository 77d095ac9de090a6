-- What the code asks and finds: the question, and a state or none.
use Rattle.std.specs.Bool.{then_some}
use Rattle.std.specs.Prelude.{ℕ, Option, ltb}
use Rattle.sets.specs.Set.{states}
use Rattle.list_why.specs.Run.{Question, of_signature, of_state}
use Rattle.list_why.specs.declared.Asked.{Asked}
use Rattle.list_why.specs.declared.Asked.TheVariants.{Signature, State}

-- the question that is asked
abbrev pub question : Asked → Question
question (Signature g) = of_signature g
question (State t) = of_state t

-- the state k; none where it is the number of all states
abbrev pub some_state : ℕ → Option ℕ
some_state k = then_some (ltb k states) k
