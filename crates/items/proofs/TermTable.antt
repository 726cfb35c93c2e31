-- The table of a text's terms, when one term more is put at its end: it is still a table, and what stood in it still stands there.
--   Counted   each token counts itself
use mathlib.Core.Path.{◌≡◌, sym, ap, ◌∙◌}
use mathlib.Core.List.{List, [], ◌∷◌, ◌++◌, append_assoc, append-nil}
use Prim.Native.Nat.{ℕ, zero, suc, ◌+◌, ◌<◌, ◌≤◌}
use native.Mathlib.Omega.{arith}
use lib.ListN.{length, drop, get_or, length-append, length-drop}
use lib.Seq.{drop-append-le, drop-append_seam}
use Rattle.meaning.specs.Limits.{max_depth}
use Rattle.meaning.specs.Term.{one, NamedTerm}
use Rattle.meaning.specs.Read.{Context, in_expression, in_body}
use Rattle.meaning.specs.Filling.{Entry, absent, body, left_open, value}
use Rattle.meaning.specs.Readable.{Readable, ReadableEntry}
use Rattle.tokens.specs.Token.{Table, size_in, tokens}
use Rattle.tokens.specs.Key.{Held}
use Rattle.tokens.proofs.TokenParts.{tokens_length}
use Rattle.tokens.proofs.ProblemTokens.{tokens_table}
use Rattle.std.specs.Prelude.{Option, Some}
use Rattle.said.specs.Said.{TermAt, HeldAs}
use Rattle.said.specs.declared.Field.{Field}
use Rattle.items.specs.Fields.{entry_rule, entry_tokens}
use Rattle.items.specs.Noted.{field_with}
use Rattle.items.specs.declared.Rule.{Rule}
use Rattle.items.specs.declared.Rule.TheVariants as rules

Counted : List ℕ → Type 0
Counted t = (k : ℕ) → k < length t → 1 ≤ size_in (get_or t k 0)

counted_append : (t u : List ℕ) → Counted t → Counted u → Counted (t ++ u)
unfolding Counted
counted_append [] u a b k h = b k h
counted_append (x ∷ t) u a b zero h = a zero (omega arith)
counted_append (x ∷ t) u a b (suc k) h = counted_append t u (λ j g. a (suc j) (omega arith)) b k (omega arith)

-- A term of a text has room for what its tokens say
module _ (ctx : Context) (t : NamedTerm) (r : Readable max_depth ctx (one t)) (small : length (tokens [] (one t)) < 65536) where
  held : Held max_depth ctx [] t
  unfolding max_depth
  held = record { readable = r; depths = omega arith; sizes = omega (arith, tokens_length [] (one t)) }

  counted : Counted (tokens [] (one t))
  unfolding Counted
  counted = (tokens_table max_depth ctx (one t) r (record { depths = held.depths; sizes = held.sizes })).counted

  at_end_lem : (front : List ℕ) → TermAt (front ++ tokens [] (one t)) (length front) ctx t
  at_end_lem front =
      record {
        held = held;
        stands =
            record { after = []; split = drop-append_seam front (tokens [] (one t)) ∙ sym (append-nil (tokens [] (one t))) };
      }

entry_counted : (e : Entry NamedTerm) → ReadableEntry e → length (entry_tokens e) < 65536 → Counted (entry_tokens e)
unfolding Counted
entry_counted absent r h = absurd r
entry_counted left_open r h = λ k g. absurd (omega arith)
entry_counted (value t) r h = counted in_expression t r h
entry_counted (body t) r h = counted in_body t r h

-- The table with an entry's term at its end
pub table_more : (front : List ℕ) (e : Entry NamedTerm) → Table front → ReadableEntry e → length front + length (entry_tokens e) < 65536
    → Table (front ++ entry_tokens e)
unfolding Counted
table_more front e t r h =
    record {
      counted = counted_append front (entry_tokens e) t.counted (entry_counted e r (omega arith));
      small = omega (arith, length-append front (entry_tokens e));
    }

-- What is held for an entry whose term is put at the end
pub entry_new : (front : List ℕ) (e : Entry NamedTerm) (rule : Rule) → entry_rule e ≡ Some rule → ReadableEntry e
    → length (entry_tokens e) < 65536 → HeldAs (front ++ entry_tokens e) e (Some (field_with rule (length front)))
entry_new front absent rule g r h = absurd r
entry_new front left_open rule g r h = let same : rule ≡ rules.Open = cc in rw same
entry_new front (value t) rule g r h =
    let same : rule ≡ rules.Value = cc in (length front, rw same, at_end_lem in_expression t r h front)
entry_new front (body t) rule g r h =
    let same : rule ≡ rules.Body = cc in (length front, rw same, at_end_lem in_body t r h front)

term_stays : (front more : List ℕ) (n : ℕ) (ctx : Context) (t : NamedTerm) → TermAt front n ctx t → TermAt (front ++ more) n ctx t
term_stays front more n ctx t a =
    let row : List ℕ = tokens [] (one t) in
    let left : length (drop n front) ≡ length row + length a.stands.after =
    ap length a.stands.split ∙ length-append row a.stands.after in
    let inside : n ≤ length front = omega (arith, left, length-drop n front, tokens_length [] (one t)) in
    record {
      held = a.held;
      stands = record {
        after = a.stands.after ++ more;
        split = drop-append-le n front more inside ∙ ap (λ (l : List ℕ). l ++ more) a.stands.split
            ∙ append_assoc row a.stands.after more;
      };
    }

pub entry_stays : (front more : List ℕ) (e : Entry NamedTerm) (f : Option Field) → HeldAs front e f → HeldAs (front ++ more) e f
entry_stays front more absent f a = a
entry_stays front more left_open f a = a
entry_stays front more (value t) f a = (a.0, a.1, term_stays front more a.0 in_expression t a.2)
entry_stays front more (body t) f a = (a.0, a.1, term_stays front more a.0 in_body t a.2)
