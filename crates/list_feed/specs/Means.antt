-- Lists as automata with flows, and the list itself as a means to feed them.
use Rattle.std.specs.Prelude.{ℕ, true, false, List, ◌≡◌}
use Rattle.sets.specs.Set.{states, size, within}
use Rattle.list.specs.Automaton.{start, named}
use Rattle.feed.specs.Lawful.{Automata, Means, own_means}
use Rattle.list_flow.specs.Flow.{flow_layout, bad_flow, feed_rules}
use Rattle.list_feed.specs.Plain.{plain}

-- the automaton of a list stands at a frontier; a record is whole where it keeps what 4 asks of its bytes, and a frontier is named where each of its states is one that the list names
abbrev pub list_automata : Automata (List ℕ) ℕ
list_automata =
    record {
      engine = plain;
      start = start;
      layout = flow_layout;
      rules = feed_rules;
      most = states;
      Whole = λ R. bad_flow R ≡ false;
      Named = λ L F. within F (named L) ≡ true;
    }

-- the plain feed: nothing has to be checked, and a byte counts the states of the frontier
abbrev pub list_means : Means (List ℕ) ℕ
list_means = own_means feed_rules plain (size states) states (λ L. Unit {0})
