-- Reading: bytes to terms, or the refusal's number. "Reading goes field by field in input order: the head, the content's fixed part,
-- the inner fields each in full, then 7; the first failure met is the refusal, numbers in the order printed."
--   Answer    what is read, or the refusal
--   Context   where a term stands: what its tags may be
--   Head      a field's kind, its content, and the bytes after it
--   levels    how many levels of terms may still be opened; document 01's depth is the limit less these
use Rattle.std.specs.Prelude.{ℕ, zero, suc, ◌+◌, ◌-◌, ◌*◌, [], ◌∷◌, length, take, drop, get_or, eqb, ltb}
use Rattle.meaning.specs.Limits.{first_wide, max_constraints, max_depth, largest_problem, metavariable_count}
use Rattle.meaning.specs.Basics.{Bytes, choose}
use Rattle.meaning.specs.Term.{Forest, Named, NamedTerm, application, binder, function, graft, hole, metavariable, nil, own, slot}
use Rattle.meaning.specs.Term.{symbol, trees, variable}
use Rattle.meaning.specs.Problem.{Constraint, Problem}

pub data Answer (A : Type 0) : Type 0 where
  refused : ℕ → Answer A
  got : A → Answer A

abbrev pub after : {A B : Type 0} → Answer A → (A → Answer B) → Answer B
after (refused r) f = refused r
after (got a) f = f a

pub data Context : Type 0 where
  in_pattern : Context
  in_argument : Context
  in_expression : Context
  -- "an expression in which 10 may stand for a term"
  in_body : Context

pub data Kind : Type 0 where
  symbol_kind : Kind
  variable_kind : Kind
  application_kind : Kind
  binder_kind : Kind
  metavariable_kind : Kind
  -- of so many places
  function_kind : ℕ → Kind
  -- of that place
  hole_kind : ℕ → Kind

-- "8 tag 5 or 6 in an expression; 9 tag 6 in an argument"
unfoldable pub metavariable_in : Context → Answer Kind
metavariable_in in_pattern = got metavariable_kind
metavariable_in in_argument = got metavariable_kind
metavariable_in in_expression = refused 8
metavariable_in in_body = refused 8

unfoldable pub function_in : ℕ → Context → Answer Kind
function_in n in_pattern = got (function_kind n)
function_in n in_argument = refused 9
function_in n in_expression = refused 8
function_in n in_body = refused 8

unfoldable pub hole_in : ℕ → Context → Answer Kind
hole_in i in_pattern = refused 4
hole_in i in_argument = refused 4
hole_in i in_expression = refused 4
hole_in i in_body = got (hole_kind i)

-- "4 tag has no place there, the cases of 8 and 9 aside". That a function has one place is said in the lines of 6 and 10 alone
unfoldable pub kind_of : Context → ℕ → Answer Kind
kind_of ctx tag =
    choose (eqb tag 1) (got symbol_kind)
    (choose (eqb tag 2) (got variable_kind)
    (choose (eqb tag 3) (got application_kind)
    (choose (eqb tag 4) (got binder_kind)
    (choose (eqb tag 5) (metavariable_in ctx)
    (choose (eqb tag 6) (function_in 1 ctx)
    (choose (eqb tag 10) (hole_in 0 ctx)
    (refused 4)))))))

-- The two bytes at a position, high byte first
abbrev pub word_at : Bytes → ℕ → ℕ
word_at s at = get_or s at 0 * 256 + get_or s (at + 1) 0

-- The four bytes at a position, likewise
abbrev pub long_at : Bytes → ℕ → ℕ
long_at s at = word_at s at * 65536 + word_at s (at + 2)

pub record Parts : Type 0 where
  pub tag : ℕ
  pub content : Bytes
  pub later : Bytes

-- "2 only 1 or 2 bytes left; 3 length past the enclosing end"
unfoldable pub parts_of : Bytes → Answer Parts
parts_of s =
    choose (ltb (length s) 3) (refused 2)
    (choose (ltb (length s - 3) (word_at s 1)) (refused 3)
    (got (record { tag = get_or s 0 0; content = take (word_at s 1) (drop 3 s); later = drop (3 + word_at s 1) s })))

pub record Head : Type 0 where
  pub kind : Kind
  pub content : Bytes
  pub later : Bytes

abbrev pub head_with : Parts → Kind → Head
head_with p k = record { kind = k; content = p.content; later = p.later }

-- A field's head where a term is due: "7 none left where one is due" comes first, since there is no head
unfoldable pub head_of : Context → Bytes → Answer Head
head_of ctx s =
    choose (eqb (length s) 0) (refused 7)
    (after (parts_of s) (λ p. after (kind_of ctx p.tag) (λ k. got (head_with p k))))

-- What the fixed part of a content says: a node without inner fields, one with so many, or one with as many as there are
pub data Content : Type 0 where
  leaf : Named → Content
  over : Named → ℕ → Bytes → Content
  many : Bytes → Content

-- "10 metavariable over 31"
abbrev pub numbered : ℕ → Content → Answer Content
numbered m c = choose (ltb m metavariable_count) (got c) (refused 10)

-- T-05: "Tag 1 may now have 4 content bytes, and a symbol's number is then 32 bits wide"; "25 when a 4-byte number is below 65,536"
abbrev pub wide_symbol : ℕ → Answer Content
wide_symbol n = choose (ltb n first_wide) (refused 25) (got (leaf (own (symbol n))))

-- "6 fixed part too short or, for tags 1, 2, 5, too long; tag 3 empty"; T-05: "Refusal 6 allows 2 or 4 bytes for tag 1"
unfoldable pub content_of : Kind → Bytes → Answer Content
content_of symbol_kind c =
    choose (eqb (length c) 2) (got (leaf (own (symbol (word_at c 0)))))
    (choose (eqb (length c) 4) (wide_symbol (long_at c 0))
    (refused 6))
content_of variable_kind c = choose (eqb (length c) 2) (got (leaf (own (variable (word_at c 0))))) (refused 6)
content_of application_kind c = choose (eqb (length c) 0) (refused 6) (got (many c))
content_of binder_kind c = choose (ltb (length c) 4) (refused 6) (got (over (own (binder (word_at c 0) (word_at c 2))) 1 (drop 4 c)))
content_of metavariable_kind c =
    choose (eqb (length c) 1) (numbered (get_or c 0 0) (leaf (slot (metavariable (get_or c 0 0))))) (refused 6)
content_of (function_kind n) c =
    choose (eqb (length c) 0) (refused 6) (numbered (get_or c 0 0) (over (slot (function (get_or c 0 0) n)) n (drop 1 c)))
content_of (hole_kind i) c = choose (eqb (length c) 0) (got (leaf (slot (hole i)))) (refused 6)

-- A term, or a forest, with the bytes after it
abbrev pub Reader : Type 0
Reader = Bytes → Answer (NamedTerm × Bytes)

-- Exactly n terms: "7 none left where one is due, or bytes left after the last"
unfoldable pub read_exactly : ℕ → Reader → Bytes → Answer (Forest Named)
read_exactly zero read s = choose (eqb (length s) 0) (got nil) (refused 7)
read_exactly (suc n) read s = after (read s) (λ x. after (read_exactly n read x.1) (λ f. got (graft x.0 f)))

-- Terms until none is left; each has 3 bytes or more, so that as many as there are bytes are enough
unfoldable pub read_all : ℕ → Reader → Bytes → Answer (Forest Named)
read_all zero read s = got nil
read_all (suc n) read s =
    let more : Answer (Forest Named) = after (read s) (λ x. after (read_all n read x.1) (λ f. got (graft x.0 f))) in
    choose (eqb (length s) 0) (got nil) more

-- Below a function stands an argument
unfoldable pub context_below : Named → Context → Context
context_below (own o) ctx = ctx
context_below (slot z) ctx = in_argument

abbrev pub read_content : (Context → Reader) → Context → Content → Answer NamedTerm
read_content read ctx (leaf l) = got (l, nil)
read_content read ctx (over l n s) = after (read_exactly n (read (context_below l ctx)) s) (λ f. got (l, f))
read_content read ctx (many s) = after (read_all (length s) (read ctx) s) (λ f. got (own (application (trees f)), f))

-- "A term is read through its list of inner fields, and each inner field is again a term"; "5 depth over 32" with the head
unfoldable pub read_term : ℕ → Context → Reader
read_term zero ctx s = after (head_of ctx s) (λ h. refused 5)
read_term (suc levels) ctx s =
    after (head_of ctx s) (λ h.
    after (content_of h.kind h.content) (λ c.
    after (read_content (read_term levels) ctx c) (λ t. got (t, h.later))))

-- "7: the pattern term, the expression term"
unfoldable pub read_pair : Bytes → Answer Constraint
read_pair s =
    after (read_term max_depth in_pattern s) (λ p.
    after (read_term max_depth in_expression p.1) (λ e.
    choose (eqb (length e.1) 0) (got (record { pattern = p.0; expression = e.0 })) (refused 7)))

-- A constraint's head: 2, 3, 4, "11 a 17th constraint"; left is how many may still come
unfoldable pub constraint_head : ℕ → Bytes → Answer Parts
constraint_head left s =
    after (parts_of s) (λ p. choose (eqb p.tag 7) (choose (eqb left 0) (refused 11) (got p)) (refused 4))

unfoldable pub read_constraints : ℕ → Bytes → Answer Problem
read_constraints zero s = choose (eqb (length s) 0) (got []) (after (constraint_head 0 s) (λ p. refused 11))
read_constraints (suc left) s =
    choose (eqb (length s) 0) (got [])
    (after (constraint_head (suc left) s) (λ p.
    after (read_pair p.content) (λ c.
    after (read_constraints left p.later) (λ cs. got (c ∷ cs)))))

-- "1 over 4,096 bytes"; "A problem is 0 to 16 constraints that fill the input"
unfoldable pub read_problem : Bytes → Answer Problem
read_problem s = choose (ltb largest_problem (length s)) (refused 1) (read_constraints max_constraints s)
