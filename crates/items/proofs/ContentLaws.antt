-- The content of a field of a text: what `read_content` returns is what document 01's reading says of it.
--   unnumbered    a field without a number, or with one that no metavariable has
--   content-..    the returns
use mathlib.Core.Path.{◌≡◌, refl, sym, ◌∙◌}
use mathlib.Core.Bool.{Bool, true, false}
use mathlib.Core.List.{List, [], ◌++◌}
use Prim.Native.Nat.{ℕ, zero, suc, ◌-◌, ◌<◌, ◌≤◌}
use native.Mathlib.Omega.{arith}
use lib.ListN.{length, take, drop, get_or, length-drop}
use lib.Seq.{drop-drop, get_or-drop, get_or-take}
use lib.Dec.{eqb, ltb}
use borrow.Author.Tests.{eq-eqb, eqb-false, eqb-true, le-ltb, lt-ltb, ne_eqb}
use Rattle.meaning.specs.Limits.{max_depth, metavariable_count}
use Rattle.meaning.specs.Basics.{Bytes, choose}
use Rattle.meaning.specs.Term.{NamedTerm, one}
use Rattle.meaning.specs.Read.{Answer, Context, Parts, after, got, in_body, in_expression, read_term, refused}
use Rattle.meaning.specs.Filling.{Entry, body, left_open, value}
use Rattle.meaning.specs.Text.{Item, read_item, read_numbered, read_open}
use Rattle.meaning.proofs.Lists.{by_test, never}
use Rattle.tokens.specs.Token.{tokens}
use Rattle.slices.proofs.Slices.{drop_take, part_length}
use Rattle.terms.specs.Reading.{TermDone, Written, term_answer, term_tokens}
use Rattle.std.specs.Prelude.{Option, Some, None, Result, Ok, Err}
use Rattle.refusal.specs.declared.Refusal.{Refusal}
use Rattle.fields.specs.Heads.{answer_from}
use Rattle.terms.specs.declared.term.Took.{Took}
use Rattle.terms.proofs.Bounds.{term_fine}
use Rattle.items.specs.Fields.{FieldDone, FieldInside, content_read, ended_of, entry_rule, entry_tokens, field_answer, parts_to}
use Rattle.items.specs.declared.Rule.{Rule}
use Rattle.items.specs.declared.Rule.TheVariants as rules
use Rattle.items.specs.declared.Item as code

-- A field that is refused
item_refused : (p : Parts) (s o o' : List ℕ) → read_item p ≡ refused 20
    → FieldDone s (after (read_item p) (λ i. got (i, p.later))) o o' None
unfolding field_answer Written
item_refused p s o o' e = rw e (record { answer = refl; table = tt })

-- No number, or one that no metavariable has, is refused with each tag
unnumbered : (p : Parts) → ((ctx : Context) (says : NamedTerm → Entry NamedTerm) → read_numbered ctx says p.content ≡ refused 20)
    → read_open p.content ≡ refused 20 → read_item p ≡ refused 20
unfolding read_item
unnumbered p n o = rw (n in_expression value, n in_body body, o) (go (eqb p.tag 8) (eqb p.tag 9) (eqb p.tag 11) (refused 20))
  where
    go : (a b c : Bool) (r : Answer Item) → choose a r (choose b r (choose c r r)) ≡ r
    go true b c r = refl
    go false true c r = refl
    go false false true r = refl
    go false false false r = refl

both : (b : Bool) (r : Answer Item) → choose b r r ≡ r
both true r = refl
both false r = refl

module _ (ctx : Context) (says : NamedTerm → Entry NamedTerm) (c : Bytes) where
  numbered_none : length c ≡ 0 → read_numbered ctx says c ≡ refused 20
  unfolding read_numbered
  numbered_none z = rw (le-ltb 0 (length c) (omega arith))

  numbered_over : metavariable_count ≤ get_or c 0 0 → read_numbered ctx says c ≡ refused 20
  unfolding read_numbered
  numbered_over h = rw (le-ltb (get_or c 0 0) metavariable_count h) (both (ltb 0 (length c)) (refused 20))

open_none : (c : Bytes) → length c ≡ 0 → read_open c ≡ refused 20
unfolding read_open
open_none c z = rw (ne_eqb (length c) 1 (λ e. omega arith))

open_over : (c : Bytes) → metavariable_count ≤ get_or c 0 0 → read_open c ≡ refused 20
unfolding read_open
open_over c h = rw (le-ltb (get_or c 0 0) metavariable_count h) (both (eqb (length c) 1) (refused 20))

-- A term takes all of n bytes just where none of them is left after it
all_taken : (n k a : ℕ) → k ≡ n → a ≤ k → eqb (k - a) n ≡ eqb a 0
all_taken n k zero e h = eq-eqb (k - 0) n (omega arith)
all_taken n k (suc a) e h = ne_eqb (k - suc a) n (λ q. omega arith) ∙ sym (ne_eqb (suc a) 0 (λ q. omega arith))

-- The content of a field that ends there
module _ (s : Bytes) (tag end : ℕ) (h : FieldInside s end) where
  content : Bytes
  content = take (end - 3) (drop 3 s)

  content_long : length content ≡ end - 3
  unfolding content
  content_long = part_length 3 end s h.head h.within

  pub content_none : (o : List ℕ) → end ≡ 3 → FieldDone s (content_read tag end s) o o None
  unfolding content
  content_none o z =
      let none : length content ≡ 0 = omega (arith, content_long) in
      item_refused (parts_to tag end s) s o o
      (unnumbered (parts_to tag end s) (λ ctx says. numbered_none ctx says content none) (open_none content none))

  taken_whole : length s - length (drop end s) ≡ end
  taken_whole = omega (arith, length-drop end s, h.within)

  module _ (some : end ≡ 3 → ⊥) where
    number_at : get_or content 0 0 ≡ get_or s 3 0
    unfolding content
    number_at = get_or-take (end - 3) (drop 3 s) 0 0 (omega (arith, h.head)) ∙ get_or-drop 3 s 0 0

    pub content_over : (o : List ℕ) → 32 ≤ get_or s 3 0 → FieldDone s (content_read tag end s) o o None
    unfolding content metavariable_count
    content_over o l =
        let over : metavariable_count ≤ get_or content 0 0 = omega (arith, number_at) in
        item_refused (parts_to tag end s) s o o
        (unnumbered (parts_to tag end s) (λ ctx says. numbered_over ctx says content over) (open_over content over))

    module _ (number : get_or s 3 0 < 32) where
      term_at_lem : drop 1 content ≡ take (end - 4) (drop 4 s)
      unfolding content
      term_at_lem =
          let w : end - 3 - 1 ≡ end - 4 = omega arith in drop_take 1 (end - 3) (drop 3 s) ∙ rw (w, drop-drop 1 3 s)

      known : ltb (get_or content 0 0) metavariable_count ≡ true
      unfolding metavariable_count
      known = lt-ltb (get_or content 0 0) metavariable_count (omega (arith, number_at))

      numbered_term : (ctx : Context) (says : NamedTerm → Entry NamedTerm)
          → read_numbered ctx says content
          ≡ after (read_term max_depth ctx (take (end - 4) (drop 4 s)))
          (λ x. choose (eqb (length x.1) 0) (got (get_or s 3 0, says x.0)) (refused 20))
      unfolding read_numbered
      numbered_term ctx says =
          let some : ltb 0 (length content) ≡ true = lt-ltb 0 (length content) (omega (arith, content_long, h.head)) in
          rw (some, known, term_at_lem, number_at)

      -- A field with a term, 8 or 9
      module _ (ctx : Context) (says : NamedTerm → Entry NamedTerm) (rule : Rule) (ruled : (t : NamedTerm) → entry_rule (says t) ≡ Some rule)
          (tokened : (t : NamedTerm) → entry_tokens (says t) ≡ tokens [] (one t)) (o o' : List ℕ) where
        term : Bytes
        term = take (end - 4) (drop 4 s)

        item : NamedTerm × Bytes → Answer Item
        item x = choose (eqb (length x.1) 0) (got (get_or s 3 0, says x.0)) (refused 20)

        term_long : length term ≡ end - 4
        unfolding term
        term_long = part_length 4 end s (omega (arith, h.head)) h.within

        -- Whether the term takes all that is left
        ended : (t : NamedTerm) (b : Bool) → o' ≡ tokens [] (one t) ++ drop (length (tokens [] (one t))) o
            → FieldDone s (after (choose b (got (get_or s 3 0, says t)) (refused 20)) (λ i. got (i, drop end s))) o o'
            (choose b (Some (record { bytes = end; m = record { 0 = get_or s 3 0 }; rule = rule; nodes = length (tokens [] (one t)) })) None)
        unfolding field_answer Written
        ended t true w = record { answer = rw (taken_whole, ruled t, tokened t); table = rw (tokened t) w }
        ended t false w = record { answer = refl; table = tt }

        term_ended : (a : Answer (NamedTerm × Bytes)) (t : Result Took Refusal) → read_term max_depth ctx term ≡ a
            → answer_from t ≡ term_answer [] term a → Written (term_tokens []) a o o'
            → FieldDone s (after (after a item) (λ i. got (i, drop end s))) o o' (ended_of rule (record { 0 = get_or s 3 0 }) end t)
        unfolding Written field_answer item
        term_ended (refused r) (Err n) e q w = record { answer = refl; table = tt }
        term_ended (refused r) (Ok k) e q w = never (cc)
        term_ended (got x) (Err n) e q w = never (cc)
        term_ended (got x) (Ok k) e q w =
            let fine = term_fine max_depth ctx term x e in
            let same : k ≡ record { bytes = length term - length x.1; nodes = length (term_tokens [] x) } = cc in
            rw (same, all_taken (end - 4) (length term) (length x.1) term_long (omega (arith, fine.room)))
            (ended x.0 (eqb (length x.1) 0) w)

        content_term : read_item (parts_to tag end s) ≡ read_numbered ctx says content → (t : Result Took Refusal) (r : Option code.Item)
            → TermDone [] term (read_term max_depth ctx term) o o' t → r ≡ ended_of rule (record { 0 = get_or s 3 0 }) end t
            → FieldDone s (content_read tag end s) o o' r
        unfolding term item
        content_term e t r d f =
            rw (e, numbered_term ctx says, f) (term_ended (read_term max_depth ctx term) t refl d.answer d.table)

      pub content_value : (o o' : List ℕ) (t : Result Took Refusal) (r : Option code.Item) → tag ≡ 8
          → TermDone [] (take (end - 4) (drop 4 s)) (read_term max_depth in_expression (take (end - 4) (drop 4 s))) o o' t
          → r ≡ ended_of rules.Value (record { 0 = get_or s 3 0 }) end t → FieldDone s (content_read tag end s) o o' r
      unfolding term content read_item
      content_value o o' t r g = content_term in_expression value rules.Value (λ x. refl) (λ x. refl) o o' (rw g) t r

      pub content_body : (o o' : List ℕ) (t : Result Took Refusal) (r : Option code.Item) → tag ≡ 9
          → TermDone [] (take (end - 4) (drop 4 s)) (read_term max_depth in_body (take (end - 4) (drop 4 s))) o o' t
          → r ≡ ended_of rules.Body (record { 0 = get_or s 3 0 }) end t → FieldDone s (content_read tag end s) o o' r
      unfolding term content read_item
      content_body o o' t r g = content_term in_body body rules.Body (λ x. refl) (λ x. refl) o o' (rw g) t r

      -- An open field has no term
      open_test : eqb (length content) 1 ≡ eqb 0 (end - 4)
      open_test =
          by_test (eqb 0 (end - 4))
          (λ e. eq-eqb (length content) 1 (omega (arith, content_long, h.head, eqb-true 0 (end - 4) e)) ∙ sym e)
          (λ e. ne_eqb (length content) 1 (λ q. eqb-false 0 (end - 4) e (omega (arith, content_long))) ∙ sym e)

      pub content_open : (o : List ℕ) (r : Option code.Item) → tag ≡ 11
          → r ≡ ended_of rules.Open (record { 0 = get_or s 3 0 }) end (Ok (record { bytes = 0; nodes = 0 }))
          → FieldDone s (content_read tag end s) o o r
      unfolding content read_item read_open field_answer Written
      content_open o r g f = rw (f, g, open_test, known, number_at) (go (eqb 0 (end - 4)))
        where
          go : (b : Bool)
              → FieldDone s (after (choose b (got (get_or s 3 0, left_open)) (refused 20)) (λ i. got (i, drop end s))) o o
              (choose b (Some (record { bytes = end; m = record { 0 = get_or s 3 0 }; rule = rules.Open; nodes = 0 })) None)
          go true = record { answer = rw taken_whole; table = refl }
          go false = record { answer = refl; table = tt }

  pub content_other : (o : List ℕ) → (tag ≡ 8 → ⊥) → (tag ≡ 9 → ⊥) → (tag ≡ 11 → ⊥) → FieldDone s (content_read tag end s) o o None
  unfolding read_item
  content_other o a b c = item_refused (parts_to tag end s) s o o (rw (ne_eqb tag 8 a, ne_eqb tag 9 b, ne_eqb tag 11 c))
