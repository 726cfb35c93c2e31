-- The code's answers on one field, each as what document 01's reading says.
--   ..from      the meaning of the code's value: what document 01 reads, or the refusal's number
--   label_of    the label of a node with so many children
--   fixed_of    the length of the fixed part of its content
--   due_of      how many inner fields it must have
use Rattle.std.specs.Prelude.{◌≡◌, ℕ, zero, suc, ◌+◌, ◌-◌, ◌≤◌, ◌<◌, length, take, drop, Result, Ok, Err, IfOk}
use Rattle.meaning.specs.Term.{Forest, symbol, variable, application, binder, own, slot, metavariable, function, hole, Named, NamedTerm}
use Rattle.meaning.specs.Term.{trees}
use Rattle.meaning.specs.Basics.{Bytes}
use Rattle.meaning.specs.Field.{symbol_bytes}
use Rattle.meaning.specs.Read as read
use Rattle.meaning.specs.Read.{Answer, refused, got, after, Reader, leaf, over, many, read_exactly, read_all, context_below, read_term}
use Rattle.refusal.specs.Number.{number}
use Rattle.refusal.specs.declared.Refusal.{Refusal}
use Rattle.fields.specs.declared.field.Context.{Context}
use Rattle.fields.specs.declared.field.Context.TheVariants.{Pattern, Argument, Expression, Body}
use Rattle.fields.specs.declared.field.Kind.{Kind}
use Rattle.fields.specs.declared.field.Kind.TheVariants as kinds
use Rattle.fields.specs.declared.field.Parts.{Parts}
use Rattle.fields.specs.declared.field.Head.{Head}
use Rattle.fields.specs.declared.node.Node.{Node}
use Rattle.fields.specs.declared.node.Node.TheVariants as nodes
use Rattle.fields.specs.declared.node.Due.{Due}
use Rattle.fields.specs.declared.node.Due.TheVariants as dues
use Rattle.fields.specs.declared.node.Opened.{Opened}

abbrev pub answer_from : {A : Type 0} → Result A Refusal → Answer A
answer_from (Ok a) = got a
answer_from (Err r) = refused (number r)

abbrev pub context_from : Context → read.Context
context_from Pattern = read.in_pattern
context_from Argument = read.in_argument
context_from Expression = read.in_expression
context_from Body = read.in_body

abbrev pub kind_from : Kind → read.Kind
kind_from kinds.Symbol = read.symbol_kind
kind_from kinds.Variable = read.variable_kind
kind_from kinds.Application = read.application_kind
kind_from kinds.Binder = read.binder_kind
kind_from kinds.Metavariable = read.metavariable_kind
kind_from kinds.Function = read.function_kind 1
kind_from kinds.Hole = read.hole_kind 0

abbrev pub ruled_from : Result Kind Refusal → Answer read.Kind
ruled_from (Ok k) = got (kind_from k)
ruled_from (Err r) = refused (number r)

abbrev pub parts_from : Bytes → Result Parts Refusal → Answer read.Parts
parts_from s (Ok p) = got (record { tag = p.tag; content = take p.length (drop 3 s); later = drop (3 + p.length) s })
parts_from s (Err r) = refused (number r)

abbrev pub head_from : Bytes → Result Head Refusal → Answer read.Head
head_from s (Ok h) = got (record { kind = kind_from h.kind; content = take h.length (drop 3 s); later = drop (3 + h.length) s })
head_from s (Err r) = refused (number r)

abbrev pub label_of : Node → ℕ → Named
label_of (nodes.Symbol x) n = own (symbol x.0)
label_of (nodes.Variable x) n = own (variable x.0)
label_of nodes.Application n = own (application n)
label_of (nodes.Binder b x) n = own (binder b.0 x.0)
label_of (nodes.Metavariable m) n = slot (metavariable m.0)
label_of (nodes.Function m) n = slot (function m.0 1)
label_of nodes.Hole n = slot (hole 0)

abbrev pub fixed_of : Node → ℕ
fixed_of (nodes.Symbol x) = length (symbol_bytes x.0)
fixed_of (nodes.Variable x) = 2
fixed_of nodes.Application = 0
fixed_of (nodes.Binder b x) = 4
fixed_of (nodes.Metavariable m) = 1
fixed_of (nodes.Function m) = 1
fixed_of nodes.Hole = 0

abbrev pub due_of : Node → Due
due_of (nodes.Symbol x) = dues.Exactly 0
due_of (nodes.Variable x) = dues.Exactly 0
due_of nodes.Application = dues.All
due_of (nodes.Binder b x) = dues.Exactly 1
due_of (nodes.Metavariable m) = dues.Exactly 0
due_of (nodes.Function m) = dues.Exactly 1
due_of nodes.Hole = dues.Exactly 0

-- The content of a node, as document 01's reading has it
unfoldable pub content_with : Node → Bytes → read.Content
content_with (nodes.Symbol x) c = leaf (own (symbol x.0))
content_with (nodes.Variable x) c = leaf (own (variable x.0))
content_with nodes.Application c = many c
content_with (nodes.Binder b x) c = over (own (binder b.0 x.0)) 1 (drop 4 c)
content_with (nodes.Metavariable m) c = leaf (slot (metavariable m.0))
content_with (nodes.Function m) c = over (slot (function m.0 1)) 1 (drop 1 c)
content_with nodes.Hole c = leaf (slot (hole 0))

abbrev pub content_from : Bytes → Result Node Refusal → Answer read.Content
content_from c (Ok n) = got (content_with n c)
content_from c (Err r) = refused (number r)

-- Inner fields: so many, or as many as there are
unfoldable pub read_fields : Due → Reader → Bytes → Answer (Forest Named)
read_fields dues.All read s = read_all (length s) read s
read_fields (dues.Exactly n) read s = read_exactly n read s

-- A head that is read lies in the bytes, and its content is as long as two bytes can say
pub record LengthFits (bytes length : ℕ) : Type 0 where
  pub within : 3 + length ≤ bytes
  pub short : length < 65536

pub record PartsDone (s : Bytes) (r : Result Parts Refusal) : Type 0 where
  pub says : parts_from s r ≡ read.parts_of s
  pub fits : IfOk r (λ p. LengthFits (length s) p.length)

pub record HeadDone (ctx : read.Context) (s : Bytes) (r : Result Head Refusal) : Type 0 where
  pub says : head_from s r ≡ read.head_of ctx s
  pub fits : IfOk r (λ h. LengthFits (length s) h.length)

-- The fixed part lies in the content, and fills it where no inner field is due
abbrev pub DueFits : Due → ℕ → ℕ → Type 0
DueFits dues.All fixed k = fixed ≤ k
DueFits (dues.Exactly zero) fixed k = k ≡ fixed
DueFits (dues.Exactly (suc n)) fixed k = fixed ≤ k

pub record ContentDone (kind : read.Kind) (c : Bytes) (r : Result Node Refusal) : Type 0 where
  pub says : content_from c r ≡ read.content_of kind c
  pub fits : IfOk r (λ n. DueFits (due_of n) (fixed_of n) (length c))

-- A term after its node: "A term is read through its list of inner fields"
unfoldable pub open_read : ℕ → read.Context → Bytes → Result Opened Refusal → Answer (NamedTerm × Bytes)
open_read levels ctx s (Err r) = refused (number r)
open_read levels ctx s (Ok o) =
    after
    (read_fields (due_of o.node) (read_term (levels - 1) (context_below (label_of o.node 0) ctx))
    (take (o.end - (3 + fixed_of o.node)) (drop (3 + fixed_of o.node) s)))
    (λ f. got ((label_of o.node (trees f), f), drop o.end s))

pub record OpenFits (levels length fixed end : ℕ) : Type 0 where
  pub deep : 1 ≤ levels
  pub start : 3 + fixed ≤ end
  pub within : end ≤ length
  pub short : end < 3 + 65536

pub record OpenDone (levels : ℕ) (ctx : read.Context) (s : Bytes) (r : Result Opened Refusal) : Type 0 where
  pub says : read_term levels ctx s ≡ open_read levels ctx s r
  pub fits : IfOk r (λ o. OpenFits levels (length s) (fixed_of o.node) o.end)
