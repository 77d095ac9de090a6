-- Why a pair is due, and why a state is in a frontier: the run that is told, the edge that is taken, the rules, and what the calls answer and leave.
use Rattle.std.specs.Prelude.{ℕ, zero, suc, ◌+◌, ◌-◌, ◌*◌, ◌≡◌, Bool, true, ◌&&◌, ◌||◌, not, cond, List, [], ◌∷◌, ◌++◌, ◌↔◌, length, get_or, take, drop, ltb, eqb}
use Rattle.sets.specs.Set.{states, set_size, holds, set_bytes}
use Rattle.rules.specs.Scan.{some, first, stack}
use Rattle.rules.specs.Rules.{Rule, verdict}
use Rattle.list.specs.List.{records, is_accept, from, target, list_rules}
use Rattle.list.specs.Automaton.{edge, leaves, accepted}
use Rattle.feed.specs.Engine.{run}
use Rattle.list_flow.specs.Flow.{frontier_of, offset_of, feed_rules}
use Rattle.list_feed.specs.Plain.{plain}
use Rattle.list_why.specs.Run.{Question, of_signature, of_state, Run, Runs, NotOver}
use Rattle.list_why.specs.declared.Found.{Found}

-- ---- the run that is told

-- the frontier after the first i bytes of bs
abbrev pub front : List ℕ → ℕ → List ℕ → ℕ → ℕ
front L F bs i = run (plain L) F (take i bs)

-- record i leaves a state of F, leads to t, and p holds of it
abbrev pub leads_to : List ℕ → ℕ → (ℕ → Bool) → ℕ → ℕ → Bool
leads_to L F p t i = eqb (target L i) t && leaves L F p i

-- the lowest of the numbers `to i`, for each i below n of which p holds; m where none is below m
unfoldable pub least : ℕ → (ℕ → Bool) → (ℕ → ℕ) → ℕ → ℕ
least m p to zero = m
least m p to (suc n) = let k = least m p to n in cond (p n && ltb (to n) k) (to n) k

-- the lowest state of F from which a record that p holds of leads to t; where there is none, the number of all states
abbrev pub lowest : List ℕ → ℕ → (ℕ → Bool) → ℕ → ℕ
lowest L F p t = least states (leads_to L F p t) (from L) (records L)

-- the lowest state of F that answers q: the lowest that accepts the signature, or the state itself; where there is none, the number of all states
abbrev pub end_of : List ℕ → ℕ → Question → ℕ
end_of L F (of_signature g) = lowest L F (is_accept L) g
end_of L F (of_state t) = cond (holds F t) t states

-- the lowest state of F from which byte c leads to t
abbrev pub source_of : List ℕ → ℕ → ℕ → ℕ → ℕ
source_of L F c t = lowest L F (edge L c) t

-- n + 1 states, the last of them t: before each stands the lowest state of the frontier there from which the byte leads to it
unfoldable pub trace : List ℕ → ℕ → List ℕ → ℕ → ℕ → List ℕ
trace L F bs zero t = t ∷ []
trace L F bs (suc n) t = trace L F bs n (source_of L (front L F bs n) (get_or bs n 0) t) ++ (t ∷ [])

-- the run that is told of q after n bytes: it ends in the lowest state that answers q
abbrev pub reason : List ℕ → ℕ → List ℕ → ℕ → Question → List ℕ
reason L F bs n q = trace L F bs n (end_of L (front L F bs n) q)

-- the bytes of the frontiers after 0 to n bytes
abbrev pub fronts : List ℕ → ℕ → List ℕ → ℕ → List ℕ
fronts L F bs n = stack (λ i. set_bytes (front L F bs i)) (suc n)

-- what is asked is so at the frontier F: it accepts the signature, or has the state
abbrev pub due : List ℕ → ℕ → Question → Bool
due L F (of_signature g) = holds (accepted L F) g
due L F (of_state t) = holds F t

-- what is true of the run, of a list that the check passes: there is one exactly when what is asked is so; then this is one, and no run is lower
pub record Reasoned (L : List ℕ) (F : ℕ) (bs : List ℕ) (n : ℕ) (q : Question) : Type 0 where
  pub exactly : Runs L F bs n q ↔ (due L (front L F bs n) q ≡ true)
  pub told : due L (front L F bs n) q ≡ true → Run L F bs n q (reason L F bs n q)
  pub lowest-told : (ys : List ℕ) → Run L F bs n q ys → NotOver n (reason L F bs n q) ys

-- ---- the rules: those of a feed, then 25 and 26

-- 25: the offset k lies outside the piece and its two ends, or a lent buffer is too short for the states and the frontiers after 0 to n bytes
abbrev pub outside : List ℕ → List ℕ → ℕ → Bool
outside R piece k = ltb k (offset_of R) || ltb (offset_of R + length piece) k

abbrev pub too_short : ℕ → List ℕ → List ℕ → Bool
too_short n out work = ltb (length out) (suc n) || ltb (length work) (set_size * suc n)

-- 26: what is asked is not so after n bytes
abbrev pub not_due : List ℕ → ℕ → List ℕ → ℕ → Question → Bool
not_due L F bs n q = not (due L (front L F bs n) q)

-- 1 to 6, then 25
abbrev pub place_rules : List ℕ → List ℕ → ℕ → List ℕ → ℕ → List ℕ → List ℕ → List Rule
place_rules L R at piece k out work = feed_rules L R at piece ++ ((25, outside R piece k || too_short (k - offset_of R) out work) ∷ [])

-- and then 26
abbrev pub why_rules : List ℕ → List ℕ → ℕ → List ℕ → Question → ℕ → List ℕ → List ℕ → List Rule
why_rules L R at piece q k out work = place_rules L R at piece k out work ++ ((26, not_due L (frontier_of R) piece (k - offset_of R) q) ∷ [])

-- ---- the call

-- the code answers `refusal` and leaves the states `left` and the work place `held`: a refusal changes neither; else the run stands at the front of the
-- states and the frontiers at the front of the work place, and what is behind them stays
pub record Explains (L R : List ℕ) (at : ℕ) (piece : List ℕ) (q : Question) (k : ℕ) (out work : List ℕ) (refusal : ℕ) (left held : List ℕ) : Type 0 where
  pub refuses : refusal ≡ verdict (why_rules L R at piece q k out work)
  pub wrote : left ≡ cond (eqb (verdict (why_rules L R at piece q k out work)) 0) (reason L (frontier_of R) piece (k - offset_of R) q ++ drop (suc (k - offset_of R)) out) out
  pub worked : held ≡ cond (eqb (verdict (why_rules L R at piece q k out work)) 0) (fronts L (frontier_of R) piece (k - offset_of R) ++ drop (set_size * suc (k - offset_of R)) work) work

-- ---- the edge that is taken

-- c is a byte, and record i is an edge that it takes from s to t
abbrev pub links : List ℕ → ℕ → ℕ → ℕ → ℕ → Bool
links L s c t i = ltb c 256 && (eqb (from L i) s && (eqb (target L i) t && edge L c i))

-- 1 to 3, then 26 where no edge record leads so
abbrev pub edge_rules : List ℕ → ℕ → ℕ → ℕ → List Rule
edge_rules L s c t = list_rules L ++ ((26, not (some (records L) (links L s c t))) ∷ [])

-- the call answers the first such record, counted from 0; 0 where it is refused
pub record Finds (L : List ℕ) (s c t : ℕ) (f : Found) : Type 0 where
  pub refuses : f.refusal ≡ verdict (edge_rules L s c t)
  pub place : f.place ≡ cond (eqb (verdict (edge_rules L s c t)) 0) (first (records L) (links L s c t)) 0
