-- What the code asks of the tables, said of the numbers alone. The tables of a problem and of a text have all of it (`grounded_slots`, in
-- proofs/Meaning).
--   Crossing   two subterms that can be walked together, with room for the faces
--   Rooms      room for the faces of a body, and for those of an argument
--   SaidOf     a metavariable's number, and where it is given a value, that stands in the text's table
--   Faced      a recorded face can be looked up
--   Argued     an argument and what stands across can be walked, and each face that is recorded be looked up
--   Bodied     a body and what stands across can be walked, and so can the argument and what stands across each hole
--   Applied    a recorded face of an application; Slotted, one of whatever kind
use Rattle.std.specs.Prelude.{◌≡◌, ℕ, ◌+◌, ◌<◌, ◌≤◌, List, length, Some}
use Rattle.std.proofs.Math.Option.{some}
use Rattle.meaning.specs.Limits.{metavariable_count}
use Rattle.meaning.specs.Basics.{All}
use Rattle.tokens.specs.Token.{Table, tag_in}
use Rattle.tokens.specs.Key.{at, Inside}
use Rattle.lockstep.specs.Walk.{pattern_node, expression_node}
use Rattle.said.specs.Said.{field_of}
use Rattle.said.specs.declared.Field.TheVariants.{Value, Body}
use Rattle.said.specs.declared.Said.{Said}
use Rattle.filled.specs.Filled.{walk_across, number_at}

pub record Crossing (t : List ℕ) (i : ℕ) (u : List ℕ) (j : ℕ) (out : List ℕ) : Type 0 where
  pub left : Table t
  pub right : Table u
  pub inside : Inside t i
  pub across : j < length u
  pub room : length t ≤ length out

pub record Rooms (ps ts holes scratch : List ℕ) : Type 0 where
  pub bodies : length ts ≤ length holes
  pub arguments : length ps ≤ length scratch

pub record SaidOf (ts : List ℕ) (s : Said) (m : ℕ) : Type 0 where
  pub number : m < metavariable_count
  pub value : (n : ℕ) → field_of s m ≡ Some (Value n) → Inside ts n

pub record Faced (ps es ts : List ℕ) (s : Said) (n : ℕ) : Type 0 where
  pub slot : pattern_node n < length ps
  pub said : SaidOf ts s (number_at ps n)
  pub across : Inside es (expression_node n)

pub record Argued (ps es ts : List ℕ) (s : Said) (i j : ℕ) : Type 0 where
  pub argument : Inside ps i
  pub across : j < length es
  pub faces : (ns : List ℕ) → walk_across ps i es j ≡ some ns → All (Faced ps es ts s) ns

-- Across from a recorded hole
abbrev pub ArguedAt : List ℕ → List ℕ → List ℕ → Said → ℕ → ℕ → Type 0
ArguedAt ps es ts s i h = Argued ps es ts s i (expression_node h)

pub record Bodied (ps es ts : List ℕ) (s : Said) (b i j : ℕ) : Type 0 where
  pub body : Inside ts b
  pub across : j < length es
  pub holes : (hs : List ℕ) → walk_across ts b es j ≡ some hs → All (ArguedAt ps es ts s i) hs

pub record Applied (ps es ts : List ℕ) (s : Said) (n : ℕ) : Type 0 where
  pub faced : Faced ps es ts s n
  pub bodied : (b : ℕ) → field_of s (number_at ps n) ≡ Some (Body b)
      → Bodied ps es ts s b (pattern_node n + 1) (expression_node n)

pub record Slotted (ps es ts : List ℕ) (s : Said) (n : ℕ) : Type 0 where
  pub faced : Faced ps es ts s n
  pub applied : tag_in (at ps (pattern_node n)) ≡ 6 → Applied ps es ts s n
