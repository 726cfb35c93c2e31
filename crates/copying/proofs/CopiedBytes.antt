-- The bytes of terms with holes, node by node.
use mathlib.Core.Path.{◌≡◌, refl, ap, sym, ◌∙◌}
use Prim.Native.Nat.{ℕ, suc, ◌+◌}
use mathlib.Core.Bool.{true, false}
use mathlib.Core.List.{[], ◌++◌, append-nil}
use lib.ListN.{length, length-append}
use Rattle.meaning.specs.Basics.{Bytes}
use Rattle.meaning.specs.Term.{Forest, Named, cons, nil, one, size}
use Rattle.meaning.specs.Field.{encode, field, fixed_part, tag_of}
use Rattle.meaning.proofs.ByteLaws.{field_length}
use Rattle.meaning.proofs.Lists.{by_test, choose_true, choose_false}
use Rattle.bodies.specs.Marked.{marked}
use Rattle.copying.specs.Fixed.{a_hole}
use Rattle.copying.specs.Copied.{copied_from}

pub copied_none : (mask i : ℕ) → copied_from mask i nil ≡ []
unfolding copied_from encode
copied_none mask i = refl

module _ (mask i : ℕ) (l : Named) (c s : Forest Named) where
  copied_hole : marked mask i ≡ true → copied_from mask i (cons l c s) ≡ a_hole ++ copied_from mask (suc i + size c) s
  unfolding copied_from encode a_hole
  copied_hole e = ap encode (choose_true _ _ e)

  copied_node : marked mask i ≡ false
      → copied_from mask i (cons l c s) ≡ field (tag_of l) (fixed_part l ++ copied_from mask (suc i) c) ++ copied_from mask (suc i + size c) s
  unfolding copied_from encode
  copied_node e = ap encode (choose_false _ _ e)

-- One term
module _ (mask i : ℕ) (l : Named) (c : Forest Named) where
  pub hole_bytes : marked mask i ≡ true → copied_from mask i (one (l, c)) ≡ a_hole
  hole_bytes e = copied_hole mask i l c nil e ∙ ap (λ (bs : Bytes). a_hole ++ bs) (copied_none mask (suc i + size c)) ∙ append-nil a_hole

  pub node_bytes : marked mask i ≡ false
      → copied_from mask i (one (l, c)) ≡ field (tag_of l) (fixed_part l ++ copied_from mask (suc i) c)
  node_bytes e =
      let f : Bytes = field (tag_of l) (fixed_part l ++ copied_from mask (suc i) c) in
      copied_node mask i l c nil e ∙ ap (λ (bs : Bytes). f ++ bs) (copied_none mask (suc i + size c)) ∙ append-nil f

  pub node_length : marked mask i ≡ false
      → length (copied_from mask i (one (l, c))) ≡ 3 + (length (fixed_part l) + length (copied_from mask (suc i) c))
  node_length e =
      ap length (node_bytes e) ∙ field_length (tag_of l) (fixed_part l ++ copied_from mask (suc i) c)
      ∙ ap (λ (k : ℕ). 3 + k) (length-append (fixed_part l) (copied_from mask (suc i) c))

  -- A term before others
  pub first_bytes : (s : Forest Named)
      → copied_from mask i (cons l c s) ≡ copied_from mask i (one (l, c)) ++ copied_from mask (suc i + size c) s
  first_bytes s =
      by_test (marked mask i)
      (λ e. copied_hole mask i l c s e ∙ ap (λ (bs : Bytes). bs ++ copied_from mask (suc i + size c) s) (sym (hole_bytes e)))
      (λ e. copied_node mask i l c s e ∙ ap (λ (bs : Bytes). bs ++ copied_from mask (suc i + size c) s) (sym (node_bytes e)))
