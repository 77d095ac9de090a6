-- Calls on a flow of a list as a caller makes them: each has its own list, feed, stated start, piece and words.
use Rattle.std.specs.Prelude.{ℕ, List, ◌≡◌}
use Rattle.feed.specs.Calls.{Way}
use Rattle.feed.specs.Calls as feed
use Rattle.feed.specs.Lawful.{way_by}
use Rattle.list_feed.specs.Means.{list_automata}
pub use Rattle.laws.specs.Engines.{Via, by_list, by_table, by_matrix, by_index, Counting, by_slots, by_one, count_by, means_of, words_by}

-- what it goes by is checked for the list L; what rule 4 takes for the states that are named are those of L
abbrev pub Checked : List ℕ → Via → Type 0
Checked L v = (means_of v).Checked L

abbrev pub Names : List ℕ → Via → Type 0
Names L v = (means_of v).Names L

-- by what a call goes: its list, and the engine
pub record ListBy : Type 0 where
  pub list : List ℕ
  pub via : Via

abbrev pub Call : Type 0
Call = feed.Call ListBy

abbrev pub way_of : ListBy → Way
way_of b = way_by list_automata (means_of b.via) b.list

-- on L, by what is checked
abbrev pub OnList : List ℕ → ListBy → Type 0
OnList L b = (b.list ≡ L) × Checked L b.via
