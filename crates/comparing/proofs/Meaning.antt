-- What comparing two nodes of a problem's table means: the answer is `meaning`'s, for any two nodes.
use mathlib.Core.Path.{◌≡◌, refl, ap, ap₂, sym, ◌∙◌, subst}
use Prim.Native.Nat.{ℕ, suc, ◌+◌, ◌<◌, ◌≤◌}
use mathlib.Core.Bool.{Bool, ◌&&◌}
use mathlib.Core.List.{List, [], ◌∷◌}
use mathlib.Core.Option.{none, some}
use native.Mathlib.Omega.{arith}
use native.Mathlib.Decide.{dec_lt}
use lib.ListN.{length, get_elem?}
use Rattle.meaning.specs.Basics.{choose}
use Rattle.meaning.specs.Term.{one, size}
use Rattle.meaning.specs.Scope.{enter, nameless_label, nameless_term}
use Rattle.meaning.specs.Problem.{Problem, named_expressions, expressions}
use Rattle.meaning.specs.Equal.{View, view}
use Rattle.meaning.specs.Choice.{Owner, owner_of, views_from}
use Rattle.meaning.specs.Same.{all_alike}
use Rattle.meaning.specs.Readable.{WithinLimits}
use Rattle.meaning.specs.Compare.{preorder, agree, pairs, pairs_of, subexpressions, Comparison}
use Rattle.meaning.proofs.Lists.{all_mem, at_mem, at_past}
use Rattle.meaning.proofs.ShiftLaws.{relabel_size}
use Rattle.meaning.proofs.ChoiceLaws.{length_views}
use Rattle.meaning.proofs.CompareLaws.{RankedTerm, alike_equal, subexpressions_ranked}
use Rattle.tokens.specs.Token.{depth_in, size_in, expression_tokens}
use Rattle.tokens.specs.Key.{at, part, agree_under, compared_across, Held, Stands}
use Rattle.tokens.specs.declared.same.Compared.{Compared}
use Rattle.tokens.proofs.KeyLaws.{stands_depth, stands_size, stands_part}
use Rattle.tokens.proofs.ProblemTokens.{expression_table_lem}
use Rattle.tokens.proofs.Spots.{depth_at, forest_deep}
use Rattle.numbers.proofs.ProblemTable as problem
use Rattle.comparing.specs.Comparing.{Nested, ComparedIn, Present, Judged}
use Rattle.std.specs.Prelude as std
use Rattle.comparing.proofs.Agreement.{Tells, tokens_agree}
use Rattle.comparing.proofs.NodeTold.{InPairs, forest_tells}

-- Lists that tell each other are compared alike
module _ {A B C D : Type 0} (f : A → B → Bool) (g : C → D → Bool) (R : A → C → Type 0) (R' : B → D → Type 0)
    (same : (x : A) (o : C) (y : B) (o' : D) → R x o → R' y o' → f x y ≡ g o o') where
  pairs_told : (xs : List A) (os : List C) (ys : List B) (os' : List D) → InPairs R xs os → InPairs R' ys os' → pairs f xs ys ≡ pairs g os os'
  pairs_told [] [] ys os' h k = refl
  pairs_told [] (o ∷ os) ys os' h k = absurd h
  pairs_told (x ∷ xs) [] ys os' h k = absurd h
  pairs_told (x ∷ xs) (o ∷ os) [] [] h k = refl
  pairs_told (x ∷ xs) (o ∷ os) [] (o' ∷ os') h k = absurd k
  pairs_told (x ∷ xs) (o ∷ os) (y ∷ ys) [] h k = absurd k
  pairs_told (x ∷ xs) (o ∷ os) (y ∷ ys) (o' ∷ os') h k =
      ap₂ (λ (b : Bool) (n : ℕ). suc (choose b n 0)) (same x o y o' h.0 k.0) (pairs_told xs os ys os' h.1 k.1)

  alike_told : (xs : List A) (os : List C) (ys : List B) (os' : List D) → InPairs R xs os → InPairs R' ys os'
      → all_alike f xs ys ≡ all_alike g os os'
  alike_told [] [] [] [] h k = refl
  alike_told [] [] [] (o' ∷ os') h k = absurd k
  alike_told [] [] (y ∷ ys) [] h k = absurd k
  alike_told [] [] (y ∷ ys) (o' ∷ os') h k = refl
  alike_told [] (o ∷ os) ys os' h k = absurd h
  alike_told (x ∷ xs) [] ys os' h k = absurd h
  alike_told (x ∷ xs) (o ∷ os) [] [] h k = refl
  alike_told (x ∷ xs) (o ∷ os) [] (o' ∷ os') h k = absurd k
  alike_told (x ∷ xs) (o ∷ os) (y ∷ ys) [] h k = absurd k
  alike_told (x ∷ xs) (o ∷ os) (y ∷ ys) (o' ∷ os') h k = ap₂ ◌&&◌ (same x o y o' h.0 k.0) (alike_told xs os ys os' h.1 k.1)

-- The nodes of a problem's expressions
module _ (p : Problem) (w : WithinLimits p) where
  abbrev pub table : List ℕ
  table = expression_tokens p

  module _ (a : ℕ) (h : a < length table) where
    abbrev pub node : problem.Node p w a h
    node = problem.node p w a h

    abbrev held : Held node.levels node.ctx node.scope node.named
    held = problem.held p w a h

    abbrev stands : Stands table a node.scope node.named
    stands = problem.stands p w a h

    abbrev pub node_view : View Owner
    node_view = view (owner_of node.binders) (one (nameless_term node.scope node.named))

    pub node_seen : get_elem? (subexpressions p) a ≡ some node_view
    unfolding subexpressions
    node_seen = node.seen

    pub node_depth : depth_at table a ≡ length node.scope
    node_depth = stands_depth node.levels node.ctx table a node.scope node.named held stands

    node_tells : (s : ℕ) → InPairs (Tells table a (depth_at table a) s) (part table a) (preorder node_view)
    node_tells s =
        subst (λ (r : ℕ). InPairs (Tells table a r s) (part table a) (preorder node_view)) (sym node_depth)
        (subst (λ (xs : List ℕ). InPairs (Tells table a (length node.scope) s) xs (preorder node_view))
        (sym (stands_part node.levels node.ctx table a node.scope node.named held stands))
        (forest_tells table a node.scope node.binders (omega (arith, node.deep)) node.chain s 0 node.levels node.ctx node.scope
        (one node.named) (omega arith) node.readable node.depths held.sizes))

    node_ranked : RankedTerm node_view
    node_ranked =
        all_mem RankedTerm node_view (subexpressions p) (subexpressions_ranked p w)
        (at_mem (subexpressions p) a node_view node_seen)

    node_size : size_in (at table a) ≡ size (one node.named)
    node_size = stands_size node.levels node.ctx table a node.scope node.named held stands

    node_deep : (y : ℕ) → a ≤ y → y < a + size_in (at table a) → depth_in (at table a) ≤ depth_in (at table y)
    node_deep y g k =
        omega (
          arith,
          node_depth,
          forest_deep node.levels node.ctx node.scope (one node.named) node.readable node.depths table a stands.after
              stands.split y g (omega (arith, node_size)),
        )

  -- What `compare` requires of a table
  pub table_nested : Nested table
  table_nested = record {
    counted = λ k h. (expression_table_lem p w).counted k h;
    ends = λ k h. ((problem.table_numerable p w).inside k h).ends;
    deep = λ k y h g q. node_deep k h y g q;
  }

  -- What `compare` answers of two nodes is what `meaning` says of their subexpressions
  pub node_compared : (a b : ℕ) (h : a < length table) (g : b < length table) (r : Compared) → ComparedIn table a b r
      → Comparison (node_view a h) (node_view b g) r.equal r.pairs
  unfolding compared_across pairs_of
  node_compared a b h g r c =
      let s = c.above in
      let f = agree_under s (depth_at table a) (depth_at table b) in
      let R = Tells table a (depth_at table a) s in
      let R' = Tells table b (depth_at table b) s in
      let xs = preorder (node_view a h) in
      let ys = preorder (node_view b g) in
      let same = tokens_agree table a b s c.shared (depth_at table a) (depth_at table b) in
      let e : r.equal ≡ all_alike agree xs ys =
      ap (λ (d : Compared). d.equal) c.compared
      ∙ alike_told f agree R R' (λ x o y o'. same x y o o') (part table a) xs (part table b) ys (node_tells a h s) (node_tells b g s) in
      let n : r.pairs ≡ pairs agree xs ys =
      ap (λ (d : Compared). d.pairs) c.compared
      ∙ pairs_told f agree R R' (λ x o y o'. same x y o o') (part table a) xs (part table b) ys (node_tells a h s) (node_tells b g s) in
      let q = alike_equal (node_view a h) (node_view b g) ((node_ranked a h).1 ∙ sym (node_ranked b g).1) (node_ranked a h).0 (node_ranked b g).0 in
      record { verdict = (λ z. q.0 (sym e ∙ z), λ z. e ∙ q.1 z); count = n }

  -- Main theorem. Two numbers: each is a node of the expressions or none
  pub node_missing : (a : ℕ) → length table ≤ a → get_elem? (subexpressions p) a ≡ none
  unfolding subexpressions
  node_missing a h =
      at_past (views_from [] 0 (expressions p)) a
      (omega (arith, h, problem.table_length p w, length_views [] 0 (expressions p), relabel_size enter nameless_label [] (named_expressions p)))

  pub compared_means : (a b : ℕ) (r : std.Option Compared) → Present table a b r → Judged (get_elem? (subexpressions p) a) (get_elem? (subexpressions p) b) r
  unfolding Judged
  compared_means a b r there = go (dec_lt a (length table)) (dec_lt b (length table))
    where
      go : Dec (a < length table) → Dec (b < length table) → Judged (get_elem? (subexpressions p) a) (get_elem? (subexpressions p) b) r
      go (no h) g = rw (node_missing a (omega arith)) (there.first (omega arith))
      go (yes h) (no g) = rw (node_seen a h, node_missing b (omega arith)) (there.second (omega arith))
      go (yes h) (yes g) =
          let (c, e, d) = there.both h g in rw (node_seen a h, node_seen b g) (c, e, node_compared a b h g c d)
