-- The acceptor: one state per byte, a count of open brackets and a mode. Refusals 20 and 19.
use Rattle.std.specs.Prelude.{ℕ, zero, suc, ◌+◌, ◌-◌, ◌*◌, Bool, true, false, ◌&&◌, ◌||◌, cond, List, [], ◌∷◌, leb, ltb, eqb}
use Rattle.rules.specs.Scan.{some}
use Rattle.text.specs.Grammar.{amid, special, class_special, is_digit, is_hex, hex_value}

pub data Mode : Type 0 where
  begin : Mode
  fresh : Mode
  after : Mode
  esc : Mode
  hex1 : Mode
  hex2 : Mode
  opened : Mode
  caret : Mode
  member : Mode
  lone1 : ℕ → Mode
  cesc : Mode
  chex1 : Mode
  chex2 : ℕ → Mode
  to : ℕ → Mode
  tesc : ℕ → Mode
  thex1 : ℕ → Mode
  thex2 : ℕ → ℕ → Mode
  num : Bool → ℕ → ℕ → ℕ → Mode

pub data State : Type 0 where
  dead : State
  live : ℕ → Mode → State

-- v, with at most r more digits, can become a number from low to 300
unfoldable pub can : ℕ → ℕ → ℕ → Bool
can low zero v = leb low v && leb v 300
can low (suc r) v = (leb low v && leb v 300) || some 10 (λ d. can low r (10 * v + d))

unfoldable pub close : ℕ → State
close zero = dead
close (suc d) = live d after

-- where an item, a bar or a closing bracket may come
unfoldable pub items : ℕ → ℕ → State
items d c =
    cond (eqb c 124) (live d fresh)
    (cond (eqb c 40) (live (suc d) fresh)
    (cond (eqb c 41) (close d)
    (cond (eqb c 46) (live d after)
    (cond (eqb c 91) (live d opened)
    (cond (eqb c 92) (live d esc)
    (cond (amid c special) dead (live d after)))))))

-- where a member of a class may come
unfoldable pub members : ℕ → ℕ → State
members d c = cond (eqb c 92) (live d cesc) (cond (amid c class_special) dead (live d (lone1 c)))

unfoldable pub digit : ℕ → Bool → ℕ → ℕ → ℕ → ℕ → State
digit d second low zero v c = dead
digit d second low (suc r) v c = cond (is_digit c && can low r (10 * v + (c - 48))) (live d (num second low r (10 * v + (c - 48)))) dead

unfoldable pub mode : ℕ → Mode → ℕ → State
mode d begin c = cond (eqb c 94) (live d fresh) (items d c)
mode d fresh c = items d c
mode d after c = cond (eqb c 42 || eqb c 43 || eqb c 63) (live d fresh) (cond (eqb c 123) (live d (num false 0 3 0)) (items d c))
mode d esc c = cond (eqb c 110 || eqb c 115) (live d after) (cond (eqb c 120) (live d hex1) dead)
mode d hex1 c = cond (is_hex c) (live d hex2) dead
mode d hex2 c = cond (is_hex c) (live d after) dead
mode d opened c = cond (eqb c 94) (live d caret) (members d c)
mode d caret c = members d c
mode d member c = cond (eqb c 93) (live d after) (members d c)
mode d (lone1 v) c = cond (eqb c 93) (live d after) (cond (eqb c 45) (live d (to v)) (members d c))
mode d cesc c = cond (eqb c 110) (live d (lone1 10)) (cond (eqb c 115) (live d member) (cond (eqb c 120) (live d chex1) dead))
mode d chex1 c = cond (is_hex c) (live d (chex2 c)) dead
mode d (chex2 a) c = cond (is_hex c) (live d (lone1 (16 * hex_value a + hex_value c))) dead
mode d (to v) c = cond (eqb c 92) (live d (tesc v)) (cond (amid c class_special || ltb c v) dead (live d member))
mode d (tesc v) c = cond (eqb c 110 && leb v 10) (live d member) (cond (eqb c 120) (live d (thex1 v)) dead)
mode d (thex1 v) c = cond (is_hex c && leb v (16 * hex_value c + 15)) (live d (thex2 v c)) dead
mode d (thex2 v a) c = cond (is_hex c && leb v (16 * hex_value a + hex_value c)) (live d member) dead
mode d (num second low r v) c =
    cond (eqb c (cond second 125 44))
    (cond (ltb r 3 && leb low v && leb v 300) (cond second (live d fresh) (live d (num true v 3 0))) dead)
    (digit d second low r v c)

unfoldable pub step : State → ℕ → State
step dead c = dead
step (live d m) c = mode d m c

unfoldable pub run : State → List ℕ → State
run s [] = s
run s (c ∷ w) = run (step s c) w

unfoldable pub resting : Mode → Bool
resting begin = true
resting fresh = true
resting after = true
resting esc = false
resting hex1 = false
resting hex2 = false
resting opened = false
resting caret = false
resting member = false
resting (lone1 v) = false
resting cesc = false
resting chex1 = false
resting (chex2 a) = false
resting (to v) = false
resting (tesc v) = false
resting (thex1 v) = false
resting (thex2 v a) = false
resting (num s l r v) = false

unfoldable pub good : State → Bool
good dead = false
good (live zero m) = resting m
good (live (suc d) m) = false

unfoldable pub is_dead : State → Bool
is_dead dead = true
is_dead (live d m) = false

unfoldable pub deep : State → Bool
deep dead = false
deep (live d m) = ltb 16 d

-- from state s at place i: refusal 20, 19 with the place, or 0
unfoldable pub verdict : State → ℕ → List ℕ → ℕ × ℕ
verdict s i [] = cond (deep s) (20, 0) (cond (good s) (0, 0) (19, i))
verdict s i (c ∷ w) =
    let rest = verdict (step s c) (suc i) w in
    cond (deep s) (20, 0) (cond (is_dead (step s c)) (19, i) rest)
