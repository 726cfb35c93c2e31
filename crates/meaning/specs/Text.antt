-- Solution texts: what is written for a solution row, what a text says, and which texts pass.
--   Item      a metavariable with what the text says of it: "8 (value), 9 (body), 11 (open)"
--   text_of    the items written for a row: "one field for each metavariable that occurs, ascending"
--   rises     T-07: "metavariable numbers must rise from field to field"
--   said      the filling that a text names
--   Passes    the checker says yes
use Rattle.std.specs.Prelude.{ℕ, zero, suc, Bool, true, ◌&&◌, List, [], ◌∷◌, map, length, drop, get_or, eqb, ltb}
use Rattle.std.proofs.Math.Option.{Option, none, some}
use Rattle.meaning.specs.Limits.{max_depth, largest_text, metavariable_count}
use Rattle.meaning.specs.Basics.{Bytes, choose, or_none}
use Rattle.meaning.specs.Term.{NamedTerm, Term, hole, nil, node_at, slot}
use Rattle.meaning.specs.Scope.{nameless_term}
use Rattle.meaning.specs.Problem.{Problem, functions, is_function, metavariables, named_expressions}
use Rattle.meaning.specs.Read.{Answer, Context, Parts, after, got, in_body, in_expression, parts_of, read_term, refused}
use Rattle.meaning.specs.Filling.{Entry, Filling, absent, body, left_open, value}
use Rattle.meaning.specs.Solution.{Solution}
use Rattle.meaning.specs.Face.{Face, faces, first_face}
use Rattle.meaning.specs.Choice.{punch_term}
use Rattle.meaning.specs.Row.{Row, choice_in}
use Rattle.meaning.specs.Value.{Source, lookup, sources}

abbrev pub Item : Type 0
Item = ℕ × Entry NamedTerm

-- "Bodies and values are copied from the problem with its bound names": the term at a node of the expressions
abbrev pub term_or : Option NamedTerm → NamedTerm
term_or none = (slot (hole 0), nil)
term_or (some t) = t

abbrev pub term_at : Problem → ℕ → NamedTerm
term_at p n = term_or (node_at n (named_expressions p))

abbrev pub face_node : Option Face → ℕ
face_node none = 0
face_node (some x) = x.node

abbrev pub written_body : Problem → Row → ℕ → Entry NamedTerm
written_body p r f = body (punch_term (choice_in (functions p) r f) (term_at p (face_node (first_face f (or_none (faces p))))))

abbrev pub written_value : Problem → Option Source → Entry NamedTerm
written_value p none = left_open
written_value p (some x) = value (term_at p x.node)

unfoldable pub entry_of : Problem → Row → ℕ → Entry NamedTerm
entry_of p r m = choose (is_function p m) (written_body p r m) (written_value p (lookup m (sources p r)))

unfoldable pub text_of : Problem → Row → List Item
text_of p r = map (λ m. (m, entry_of p r m)) (metavariables p)

-- Reading a text: 19, then 20 for whatever is not as above, then 27; T-05, of 25: "20 in a text"
abbrev pub or_twenty : {A : Type 0} → Answer A → Answer A
or_twenty (refused r) = refused 20
or_twenty (got a) = got a

-- "8 (value: number, 1 byte, then an expression), 9 (body: number, 1 byte, then an expression in which 10 may stand for a term)"
unfoldable pub read_numbered : Context → (NamedTerm → Entry NamedTerm) → Bytes → Answer Item
read_numbered ctx says s =
    choose (ltb 0 (length s))
    (choose (ltb (get_or s 0 0) metavariable_count)
    (after (read_term max_depth ctx (drop 1 s)) (λ x. choose (eqb (length x.1) 0) (got (get_or s 0 0, says x.0)) (refused 20)))
    (refused 20))
    (refused 20)

-- "11 (open: number, 1 byte)"
unfoldable pub read_open : Bytes → Answer Item
read_open s = choose (eqb (length s) 1) (choose (ltb (get_or s 0 0) metavariable_count) (got (get_or s 0 0, left_open)) (refused 20)) (refused 20)

unfoldable pub read_item : Parts → Answer Item
read_item p =
    choose (eqb p.tag 8) (read_numbered in_expression value p.content)
    (choose (eqb p.tag 9) (read_numbered in_body body p.content)
    (choose (eqb p.tag 11) (read_open p.content)
    (refused 20)))

-- Each field has 3 bytes or more, so that as many items as there are bytes are enough
unfoldable pub read_items : ℕ → Bytes → Answer (List Item)
read_items zero s = got []
read_items (suc n) s =
    let more : Answer (List Item) = after (parts_of s) (λ p. after (read_item p) (λ i. after (read_items n p.later) (λ is. got (i ∷ is)))) in
    choose (eqb (length s) 0) (got []) more

-- The numbers of the fields, in their order
abbrev pub numbers : List Item → List ℕ
numbers is = map (λ (i : Item). i.0) is

-- T-07: "metavariable numbers must rise from field to field". Each is above the one before it; m is the one before the first
abbrev pub rises_after : ℕ → List ℕ → Bool
rises_after m [] = true
rises_after m (n ∷ ns) = ltb m n && rises_after n ns

abbrev pub rises : List ℕ → Bool
rises [] = true
rises (m ∷ ms) = rises_after m ms

-- "27 when a number isn't above the one before it"
abbrev pub in_order : List Item → Answer (List Item)
in_order is = choose (rises (numbers is)) (got is) (refused 27)

-- "19 text over 8,192 bytes; 20 not fields 8, 9, 11 with contents as above, depth over 32 (its term has depth 1), or metavariable over 31";
-- T-07, of 27: "checked after 20 over the whole text"
unfoldable pub read_text : Bytes → Answer (List Item)
read_text s = choose (ltb largest_text (length s)) (refused 19) (after (or_twenty (read_items (length s) s)) in_order)

-- What an item's term means
abbrev pub meant : Entry NamedTerm → Entry Term
meant absent = absent
meant left_open = left_open
meant (value t) = value (nameless_term [] t)
meant (body t) = body (nameless_term [] t)

-- The filling that a text names. Where numbers rise no metavariable has a second field, which would be passed over here
abbrev pub said : List Item → Filling
said [] m = absent
said (i ∷ is) m = choose (eqb m i.0) (meant i.1) (said is m)

-- "bound names free"; "A wrong, missing .. metavariable is a no": the filling that the text names is a solution
abbrev pub Passes : Problem → List Item → Type 0
Passes p is = Solution p (said is)
