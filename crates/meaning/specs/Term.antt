-- Terms as document 01 has them.
--   Forest      an ordered list of trees: a node's label, its children, and then its later siblings
--   Tree        one node with its children; a term is a tree
--   preorder    a node before its children, children from left to right: the order in which nodes are numbered from 0
--   Label       what a node is: a node of an expression (`own`), or a place that a filling replaces (`slot`)
--   Named       labels as the bytes have them: a variable is its number, a binder has the number of its bound variable
--   Nameless    labels as they are meant: a variable is free, or bound by the binder that its de Bruijn index counts to
use Rattle.std.specs.Prelude.{ℕ, zero, suc, ◌+◌, ◌-◌, ltb}
use Rattle.std.proofs.Math.Option.{Option, none, some}
use Rattle.meaning.specs.Basics.{choose, if_some}

pub data Forest (L : Type 0) : Type 0 where
  nil : Forest L
  cons : L → Forest L → Forest L → Forest L

abbrev pub Tree : Type 0 → Type 0
Tree L = L × Forest L

-- A tree before its later siblings, and alone
abbrev pub graft : {L : Type 0} → Tree L → Forest L → Forest L
graft t s = cons t.0 t.1 s

abbrev pub one : {L : Type 0} → Tree L → Forest L
one t = graft t nil

-- "a binder is one node besides its body"
abbrev pub size : {L : Type 0} → Forest L → ℕ
size nil = 0
size (cons l c s) = suc (size c + size s)

abbrev pub trees : {L : Type 0} → Forest L → ℕ
trees nil = 0
trees (cons l c s) = suc (trees s)

-- The term at a node, by the node's number in preorder
abbrev pub node_at : {L : Type 0} → ℕ → Forest L → Option (Tree L)
node_at n nil = none
node_at zero (cons l c s) = some (l, c)
node_at (suc n) (cons l c s) = choose (ltb n (size c)) (node_at n c) (node_at (n - size c) s)

-- New labels for old, where a label can change what surrounds its children
abbrev pub relabel : {E L M : Type 0} → (L → E → E) → (E → L → M) → E → Forest L → Forest M
relabel into f e nil = nil
relabel into f e (cons l c s) = cons (f e l) (relabel into f (into l e) c) (relabel into f e s)

-- A node of an expression: X is what stands for a variable, B what a binder says of its bound variable
pub data Own (X B : Type 0) : Type 0 where
  symbol : ℕ → Own X B
  variable : X → Own X B
  -- the number of children, 1 or more
  application : ℕ → Own X B
  binder : ℕ → B → Own X B

-- What a filling replaces: a metavariable X, a function application P(..) with the arguments as its children, and in a body
-- the hole for the argument of that number
pub data Slot : Type 0 where
  metavariable : ℕ → Slot
  -- its number, and how many arguments stand below it
  function : ℕ → ℕ → Slot
  hole : ℕ → Slot

pub data Label (X B : Type 0) : Type 0 where
  own : Own X B → Label X B
  slot : Slot → Label X B

abbrev pub Named : Type 0
Named = Label ℕ ℕ

-- A variable that is free, by its number, or bound: how many binders lie between it and its own
pub data Variable : Type 0 where
  free : ℕ → Variable
  bound : ℕ → Variable

abbrev pub Nameless : Type 0
Nameless = Label Variable (Unit {0})

abbrev pub NamedTerm : Type 0
NamedTerm = Tree Named

abbrev pub Terms : Type 0
Terms = Forest Nameless

abbrev pub Term : Type 0
Term = Tree Nameless

-- The variable that a node is, if it is one, and what a binder says of its bound variable
abbrev pub variable_of : {X B : Type 0} → Label X B → Option X
variable_of (own (symbol n)) = none
variable_of (own (variable v)) = some v
variable_of (own (application n)) = none
variable_of (own (binder b x)) = none
variable_of (slot z) = none

abbrev pub binder_of : {X B : Type 0} → Label X B → Option B
binder_of (own (symbol n)) = none
binder_of (own (variable v)) = none
binder_of (own (application n)) = none
binder_of (own (binder b x)) = some x
binder_of (slot z) = none

-- The number of binders around the children of a node that has k around it
abbrev pub inner : {X B : Type 0} → Label X B → ℕ → ℕ
inner l k = if_some (binder_of l) (λ x. suc) k

-- An expression has no slot
abbrev pub OwnLabel : {X B : Type 0} → Label X B → Type 0
OwnLabel (own o) = Unit {0}
OwnLabel (slot z) = ⊥

abbrev pub IsExpression : {X B : Type 0} → Forest (Label X B) → Type 0
IsExpression nil = Unit {0}
IsExpression (cons l c s) = OwnLabel l × IsExpression c × IsExpression s
