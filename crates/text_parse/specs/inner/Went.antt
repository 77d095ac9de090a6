-- What the values of the parser say, in the acceptor's words.
use Rattle.std.specs.Prelude.{ℕ, ◌≤◌, ◌<◌, ◌≡◌, Bool, true, false, List, ◌⊎◌, length, drop, get_or, Option, Some, None, Result, Ok, Err}
use Rattle.text.specs.Acceptor.{Mode, State, dead, live, verdict}
use Rattle.text.specs.Acceptor as scan
use Rattle.text_parse.specs.declared.Inner.{Inner}
use Rattle.text_parse.specs.declared.Inner.TheVariants.{Esc, Hex1, Hex2, Opened, Caret, Member, Lone, ClassEsc, ClassHex1, ClassHex2, To, ToEsc, ToHex1, ToHex2}
use Rattle.text_parse.specs.declared.Step.{Step}
use Rattle.text_parse.specs.declared.Step.TheVariants.{Over, On}
use Rattle.text.specs.declared.Read.{Read}
use Rattle.text_parse.specs.declared.Fault.{Fault}
use Rattle.text_parse.specs.declared.Fault.TheVariants.{Bad, Deep}

abbrev pub mode_of : Inner → Mode
mode_of Esc = scan.esc
mode_of Hex1 = scan.hex1
mode_of Hex2 = scan.hex2
mode_of Opened = scan.opened
mode_of Caret = scan.caret
mode_of Member = scan.member
mode_of (Lone v) = scan.lone1 v
mode_of ClassEsc = scan.cesc
mode_of ClassHex1 = scan.chex1
mode_of (ClassHex2 a) = scan.chex2 a
mode_of (To v) = scan.to v
mode_of (ToEsc v) = scan.tesc v
mode_of (ToHex1 v) = scan.thex1 v
mode_of (ToHex2 v a) = scan.thex2 v a

-- none: no continuation
abbrev pub state_of : ℕ → Option Step → State
state_of d None = dead
state_of d (Some Over) = live d scan.after
state_of d (Some (On m)) = live d (mode_of m)

-- the refusal's number and its place
abbrev pub refusal_of : Fault → ℕ × ℕ
refusal_of (Bad p) = (19, p)
refusal_of Deep = (20, 0)

-- what the text comes to from a place on, after a part that was read at depth d
abbrev pub went : List ℕ → ℕ → Result ℕ Fault → ℕ × ℕ
went T d (Ok p) = verdict (live d scan.fresh) p (drop p T)
went T d (Err e) = refusal_of e

abbrev pub counted : List ℕ → ℕ → Bool → Result (Read ℕ) Fault → ℕ × ℕ
counted T d true (Ok n) = verdict (live d scan.fresh) n.next (drop n.next T)
counted T d false (Ok n) = verdict (live d (scan.num true n.value 3 0)) n.next (drop n.next T)
counted T d second (Err e) = refusal_of e

-- where a part ends: at a place that is not before i; and the byte there, if any, is one of these two
abbrev pub Within : ℕ → ℕ → Result (Read ℕ) Fault → Type 0
Within i n (Ok m) = (i ≤ m.next) × (m.next ≤ n) × (m.value ≤ 300)
Within i n (Err e) = Unit {0}

abbrev pub Ahead : ℕ → ℕ → Result ℕ Fault → Type 0
Ahead i n (Ok p) = (i ≤ p) × (p ≤ n)
Ahead i n (Err e) = Unit {0}

-- where alternatives end, and where a sequence ends
abbrev pub Halts : List ℕ → Result ℕ Fault → Type 0
Halts T (Ok p) = p < length T → get_or T p 0 ≡ 41
Halts T (Err e) = Unit {0}

abbrev pub Pauses : List ℕ → Result ℕ Fault → Type 0
Pauses T (Ok p) = p < length T → (get_or T p 0 ≡ 124) ⊎ (get_or T p 0 ≡ 41)
Pauses T (Err e) = Unit {0}

-- the whole text's
abbrev pub answer : Result (Unit {0}) Fault → ℕ × ℕ
answer (Ok u) = (0, 0)
answer (Err e) = refusal_of e
