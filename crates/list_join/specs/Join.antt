-- Two lists joined into one: which state they share, how the second's states are renamed, the joined list, and the rules.
use Rattle.std.specs.Prelude.{ℕ, Option, Some, None, is_some, zero, suc, ◌+◌, ◌-◌, ◌≡◌, Bool, true, false, ◌&&◌, ◌||◌, not, cond, List, [], ◌∷◌, ◌++◌, length, take, drop, ltb, eqb}
use Rattle.sets.specs.Set.{states, holds}
use Rattle.rules.specs.Scan.{first, gather, stack}
use Rattle.rules.specs.Rules.{Rule, verdict}
use Rattle.list.specs.List.{records, is_edge, is_start, low, high, from, target, record_with, list_rules, list_refusal}
use Rattle.list.specs.Automaton.{start, reached, names_from, names_target, highest}
use Rattle.list_join.specs.declared.Shared.{Shared}
use Rattle.list_join.specs.declared.Naming.{Naming}
use Rattle.list_join.specs.declared.Joined.{Joined}

-- ---- the state that two lists share

-- record i is a loop that every byte takes
unfoldable pub stays : List ℕ → ℕ → Bool
stays L i = is_edge L i && eqb (low L i) 0 && eqb (high L i) 255 && eqb (from L i) (target L i)

-- the states with such a loop: no byte takes them out of a frontier
unfoldable pub staying : List ℕ → ℕ
staying L = gather states (stays L) (target L) (records L)

-- the lowest state of X that is in Y, where `inside` is true, or that is not, where it is false; the number of states where there is none
unfoldable pub lowest : ℕ → ℕ → Bool → ℕ
lowest X Y inside = first states (λ s. holds X s && cond inside (holds Y s) (not (holds Y s)))

-- the lowest state that starts and stays: it is in the frontier at every offset
abbrev pub ever_at : List ℕ → ℕ
ever_at L = lowest (start L) (staying L) true

-- the lowest state that starts and that no edge leads to: it is in the frontier at offset 0, and never again
abbrev pub once_at : List ℕ → ℕ
once_at L = lowest (start L) (reached L) false

-- two states of which both are there
abbrev pub two : ℕ → ℕ → Bool
two s t = ltb s states && ltb t states

-- the second list's state `own` is the first's state `same`
abbrev pub shared_as : ℕ → ℕ → Shared
shared_as own same = record { own = own; same = same }

-- the naming with `next` as the first new number: of two states that are always there, i and j, the second gets the first's number; else of two that
-- are there once, k and l
abbrev pub name_by : ℕ → ℕ → ℕ → ℕ → ℕ → Naming
name_by next i j k l = record { next = next; shared = cond (two i j) (Some (shared_as j i)) (cond (two k l) (Some (shared_as l k)) None) }

-- whether a naming has two states that become one, and which: the second list's, and the first's; 0 where it has none
abbrev pub is_shared : Naming → Bool
is_shared n = is_some n.shared

abbrev pub own_of : Option Shared → ℕ
own_of None = 0
own_of (Some s) = s.own

abbrev pub own_state : Naming → ℕ
own_state n = own_of n.shared

abbrev pub same_of : Option Shared → ℕ
same_of None = 0
same_of (Some s) = s.same

abbrev pub same_state : Naming → ℕ
same_state n = same_of n.shared

-- how B's states are named behind A: new numbers from A's highest state on, but for one state that they share
abbrev pub naming : List ℕ → List ℕ → Naming
naming A B = name_by (suc (highest A)) (ever_at A) (ever_at B) (once_at A) (once_at B)

-- ---- renaming

-- the new number of state t: those above the shared one come one lower, so that no number is left out
unfoldable pub renamed : Naming → ℕ → ℕ
renamed n t = cond (is_shared n) (cond (eqb t (own_state n)) (same_state n) (cond (ltb t (own_state n)) (n.next + t) (n.next + t - 1))) (n.next + t)

-- the first number of record i after renaming: it changes where it is a state
abbrev pub new_from : Naming → List ℕ → ℕ → ℕ
new_from n B i = cond (names_from B i) (renamed n (from B i)) (from B i)

-- the second: it changes where it is a state, a signature stays
abbrev pub new_target : Naming → List ℕ → ℕ → ℕ
new_target n B i = cond (names_target B i) (renamed n (target B i)) (target B i)

-- record i of B, renamed
unfoldable pub renamed_record : Naming → List ℕ → ℕ → List ℕ
renamed_record n B i = record_with B i (new_from n B i) (new_target n B i)

-- record i says of the shared state only what the first list says already: that it starts, or leads to itself
unfoldable pub spare : Naming → List ℕ → ℕ → Bool
spare n B i = (is_shared n) && eqb (target B i) (own_state n) && (is_start B i || is_edge B i && eqb (from B i) (own_state n))

-- ---- the joined list

-- what record i adds
abbrev pub adds : Naming → List ℕ → ℕ → List ℕ
adds n B i = cond (spare n B i) [] (renamed_record n B i)

-- what the first m records add
abbrev pub added : Naming → List ℕ → ℕ → List ℕ
added n B m = stack (adds n B) m

-- how many records that is
unfoldable pub kept : Naming → List ℕ → ℕ → ℕ
kept n B zero = 0
kept n B (suc i) = cond (spare n B i) (kept n B i) (suc (kept n B i))

-- the first list, and behind it what the second adds
unfoldable pub joined : List ℕ → List ℕ → List ℕ
joined A B = A ++ added (naming A B) B (records B)

-- ---- the rules: 1 to 3 of the list that stands in front, then 27, then 28

-- 27: the other list is refused by the list check
abbrev pub other_refused : List ℕ → Bool
other_refused B = not (eqb (list_refusal B) 0)

-- what is said of the two lists before they are joined
abbrev pub pair_rules : List ℕ → List ℕ → List Rule
pair_rules A B = list_rules A ++ ((27, other_refused B) ∷ [])

-- 28: the front is longer than the lent list, or the joined list is, or the list check refuses that: over the most records, or a state over the largest
unfoldable pub too_big : List ℕ → ℕ → ℕ → List ℕ → Bool
too_big A used lent B = ltb lent used || ltb lent (length (joined A B)) || not (eqb (list_refusal (joined A B)) 0)

-- for the front A, of `used` bytes, of a lent list of so many bytes
abbrev pub join_rules : List ℕ → ℕ → ℕ → List ℕ → List Rule
join_rules A used lent B = pair_rules A B ++ ((28, too_big A used lent B) ∷ [])

-- the number of the first rule that refuses, or 0
abbrev pub join_refusal : List ℕ → ℕ → ℕ → List ℕ → ℕ
join_refusal A used lent B = verdict (join_rules A used lent B)

-- ---- joining

-- the list that stands in front
abbrev pub front : List ℕ → ℕ → List ℕ
front list used = take used list

-- the refusal of joining it
abbrev pub refusal_of : List ℕ → ℕ → List ℕ → ℕ
refusal_of list used B = join_refusal (front list used) used (length list) B

-- the code answers r of the lent list, whose front of `used` bytes is joined with B, and leaves `exit`: the joined list in front, the rest as it was; on
-- a refusal the list as it was
pub record Joins (list : List ℕ) (used : ℕ) (B : List ℕ) (r : Joined) (exit : List ℕ) : Type 0 where
  pub refusal : r.refusal ≡ refusal_of list used B
  pub long : r.length ≡ cond (eqb (refusal_of list used B) 0) (length (joined (front list used) B)) 0
  pub left : exit ≡ cond (eqb (refusal_of list used B) 0) (joined (front list used) B ++ drop (length (joined (front list used) B)) list) list
