-- What a text says of a metavariable, against what the metavariable faces.
use mathlib.Core.Path.{◌≡◌, refl, ap, sym, ◌∙◌, subst}
use mathlib.Core.Logic.{◌↔◌}
use mathlib.Core.Bool.{true, false, false≢true}
use mathlib.Core.List.{List, []}
use Prim.Native.Nat.{ℕ, ◌<◌}
use lib.ListN.{length}
use Rattle.meaning.specs.Limits.{max_depth, metavariable_count}
use Rattle.meaning.specs.Term.{nil, one, slot, Slot, metavariable, NamedTerm, Terms, Term, IsExpression}
use Rattle.meaning.specs.Scope.{nameless_term}
use Rattle.meaning.specs.Shift.{ClosedTerm}
use Rattle.meaning.specs.Filling.{Entry, absent, left_open, value, body, value_or}
use Rattle.meaning.specs.Read.{Context}
use Rattle.meaning.specs.Text.{Item, meant, said}
use Rattle.meaning.proofs.Lists.{never}
use Rattle.meaning.proofs.ViewLaws.{nameless_closed, equal_closed, closed_equal}
use Rattle.tokens.specs.Token.{payload_of}
use Rattle.tokens.specs.Key.{level_from, same_across, Inside}
use Rattle.tokens.proofs.KeyLaws.{across_means}
use Rattle.lockstep.specs.Walk.{pattern_node, expression_node}
use Rattle.faces.proofs.NodeTokens.{AtNode, node_inside, node_payload}
use Rattle.sources.proofs.RecordedDemands.{slot_fits}
use Rattle.std.specs.Prelude.{Some, None}
use Rattle.said.specs.declared.Field.TheVariants.{Value, Body, Open}
use Rattle.said.specs.Said.{item_of, field_of, TermAt, HeldAs, SaidBy}
use Rattle.said.specs.declared.Said.{Said}
use Rattle.said.proofs.SaidLaws.{said_item}
use Rattle.filled.specs.Filled.{value_at, number_at, faced_value_at}
use Rattle.filled.specs.Ready.{SaidOf, Faced}
use Rattle.filled.proofs.Cases.{value_says}
use Rattle.filled.proofs.Deciding.{Decides}
use Rattle.filled.proofs.Moved.{ClosedValues}
use Rattle.filled.proofs.Across.{node_whole}

-- "Values and bodies have no variable bound outside themselves": nothing is around a text's terms
pub said_closed : (is : List Item) → ClosedValues (said is)
said_closed is m t e = go (item_of is m) (sym (said_item is m) ∙ e)
  where
    go : (o : Entry NamedTerm) → meant o ≡ value t → ClosedTerm t
    go absent q = never (cc)
    go left_open q = never (cc)
    go (value u) q = subst ClosedTerm (let z : nameless_term [] u ≡ t = cc in z) (nameless_closed [] (one u))
    go (body u) q = never (cc)

-- No expression is a slot
pub slot_never : (z : Slot) (c : Terms) (t : Term) → IsExpression (one t) → (slot z, c) ≡ t → ⊥
slot_never z c t x e = (subst (λ (u : Term). IsExpression (one u)) (sym e) x).0

-- Two tables: a closed term against any other
across_same : (t u : List ℕ) (i j : ℕ) (a b : Term) → AtNode t i a → AtNode u j b → ClosedTerm a → (same_across t i u j ≡ true) ↔ (a ≡ b)
across_same t u i j a b n o c =
    let left = nameless_term n.scope n.named in
    let right = nameless_term o.scope o.named in
    let closed : ClosedTerm left = subst ClosedTerm n.term c in
    let m =
    across_means n.levels o.levels n.context o.context t u i j n.scope o.scope n.named o.named n.held o.held
    n.stands o.stands in (
      λ e. n.term ∙ closed_equal (level_from n.scope) (level_from o.scope) left right closed (m.0 e) ∙ sym o.term,
      λ e. let q : left ≡ right = sym n.term ∙ e ∙ o.term in
          m.1 ((equal_closed (level_from n.scope) (level_from o.scope) left right closed (subst ClosedTerm q closed)).1 q),
    )

-- A term of a text, in its table
abbrev pub text_node : (ts : List ℕ) (n : ℕ) (ctx : Context) (t : NamedTerm) → TermAt ts n ctx t → AtNode ts n (nameless_term [] t)
text_node ts n ctx t a =
    record { scope = []; named = t; levels = max_depth; context = ctx; term = refl; held = a.held; stands = a.stands }

module _ (ts : List ℕ) (is : List Item) (s : Said) (by : SaidBy ts is s) where
  module _ (m : ℕ) (small : m < metavariable_count) where
    said_of : SaidOf ts s m
    said_of = record { number = small; value = λ n e. go (item_of is m) (by.fields m small) n e }
      where
        go : (o : Entry NamedTerm) → HeldAs ts o (field_of s m) → (n : ℕ) → field_of s m ≡ Some (Value n) → Inside ts n
        go absent h n q = never (cc)
        go left_open h n q = never (cc)
        go (value t) h n q =
            let e = h.1 in
            let same : h.0 ≡ n = cc in
            subst (Inside ts) same (node_whole ts h.0 (nameless_term [] t) (text_node ts h.0 _ t h.2))
        go (body t) h n q = never (let e = h.1 in cc)

    module _ (es : List ℕ) (j : ℕ) (t : Term) (there : AtNode es j t) (expression : IsExpression (one t)) where
      no_value : value_at ts s es m j ≡ false → (value_at ts s es m j ≡ true) ↔ (◌≡◌ {A = Term} (slot (metavariable m), nil) t)
      no_value n = (λ q. absurd (false≢true (sym n ∙ q)), λ e. absurd (slot_never (metavariable m) nil t expression e))

      value_given : (o : Entry NamedTerm) → HeldAs ts o (field_of s m)
          → (value_at ts s es m j ≡ true) ↔ (value_or m (meant o) ≡ t)
      value_given absent h = no_value (value_says ts s es m j None h)
      value_given left_open h = no_value (value_says ts s es m j (Some Open) h)
      value_given (value u) h =
          let w = across_same ts es h.0 j (nameless_term [] u) t (text_node ts h.0 _ u h.2) there (nameless_closed [] (one u)) in
          let same : value_at ts s es m j ≡ same_across ts h.0 es j = value_says ts s es m j (Some (Value h.0)) h.1 in
          (λ q. w.0 (sym same ∙ q), λ q. same ∙ w.1 q)
      value_given (body u) h = no_value (value_says ts s es m j (Some (Body h.0)) h.1)

      -- THE VALUE
      value_means : (value_at ts s es m j ≡ true) ↔ (value_or m (said is m) ≡ t)
      value_means =
          subst (λ (o : Entry Term). (value_at ts s es m j ≡ true) ↔ (value_or m o ≡ t)) (sym (said_item is m))
          (value_given (item_of is m) (by.fields m small))

  -- A recorded face of whatever kind, by the number that its token has
  pub faced_at : (ps es : List ℕ) (n m : ℕ) → pattern_node n < length ps → number_at ps n ≡ m → m < metavariable_count
      → Inside es (expression_node n) → Faced ps es ts s n
  faced_at ps es n m inside e small across =
      record { slot = inside; said = subst (SaidOf ts s) (sym e) (said_of m small); across = across }

  -- That of a metavariable
  pub face_decided : (ps es : List ℕ) (n m : ℕ) (c : Terms) (t : Term) → AtNode ps (pattern_node n) (slot (metavariable m), c)
      → AtNode es (expression_node n) t → IsExpression (one t)
      → Decides (Faced ps es ts s n) (faced_value_at ps es ts s n) (value_or m (said is m) ≡ t)
  unfolding faced_value_at payload_of
  face_decided ps es n m c t a there expression =
      let small : m < metavariable_count = slot_fits ps (pattern_node n) (metavariable m) c a in
      let number : number_at ps n ≡ m = node_payload ps (pattern_node n) (metavariable m) c a in
      let means = value_means m small es (expression_node n) t there expression in
      let same : value_at ts s es (number_at ps n) (expression_node n) ≡ value_at ts s es m (expression_node n) =
      ap (λ (k : ℕ). value_at ts s es k (expression_node n)) number in
      record {
        can = faced_at ps es n m (node_inside ps (pattern_node n) (slot (metavariable m), c) a) number small
            (node_whole es (expression_node n) t there);
        into = λ q. means.0 (sym same ∙ q);
        back = λ q. same ∙ means.1 q;
      }
