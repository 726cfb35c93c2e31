-- What the walk on a problem's token tables records: the faces of `meaning`.
use mathlib.Core.Path.{◌≡◌, refl, ap, sym, ◌∙◌, subst}
use mathlib.Core.Logic.{◌↔◌}
use mathlib.Core.List.{List, [], ◌∷◌, append-nil}
use mathlib.Core.Option.{Option, none, some}
use Prim.Native.Nat.{ℕ, suc}
use native.Mathlib.Omega.{arith}
use native.Mathlib.Nat.{zero-add}
use Rattle.meaning.specs.Limits.{max_depth}
use Rattle.meaning.specs.Term.{trees, node_at, Terms}
use Rattle.meaning.specs.Problem.{Problem, named_patterns, named_expressions, patterns, expressions}
use Rattle.meaning.specs.Scope.{enter, nameless_label}
use Rattle.meaning.specs.Face.{Face, walk_of}
use Rattle.meaning.specs.Read.{in_pattern, in_expression}
use Rattle.meaning.specs.Readable.{WithinLimits}
use Rattle.meaning.proofs.Proper.{patterns_readable, expressions_readable}
use Rattle.meaning.proofs.ShiftLaws.{relabel_size}
use Rattle.meaning.proofs.ViewLaws.{nameless_closed}
use Rattle.tokens.specs.Token.{depth_in, pattern_tokens, expression_tokens}
use Rattle.tokens.specs.Key.{at}
use Rattle.tokens.proofs.Codes.{view_from}
use Rattle.tokens.proofs.ProblemTokens.{nodes_few, patterns_room, expressions_room}
use Rattle.lockstep.specs.Walk.{at_slots}
use Rattle.lockstep.proofs.WalkTrees.{seen_walk, flat_trees}
use Rattle.lockstep.proofs.SlotWalk.{seen_slots, tells_slots, Looks, Deep, seen_both, both_none, both_some}
use Rattle.lockstep.proofs.TokenDepths.{tokens_deep}
use Rattle.faces.specs.FlatWalk.{flat_walk}
use Rattle.faces.specs.Recorded.{Recorded, Means}

-- There are as many patterns as expressions
same_trees : (p : Problem) → trees (named_patterns p) ≡ trees (named_expressions p)
same_trees [] = refl
same_trees (c ∷ p) = ap suc (same_trees p)

module _ (p : Problem) (w : WithinLimits p) where
  table_walk : flat_walk (pattern_tokens p) (expression_tokens p)
      ≡ seen_walk seen_slots 0 0 (view_from [] 0 (patterns p)) (view_from [] 0 (expressions p))
  unfolding pattern_tokens expression_tokens
  table_walk =
      ap (flat_walk (pattern_tokens p)) (sym (append-nil (expression_tokens p)))
      ∙ flat_trees at_slots seen_slots [] [] (tells_slots []) 0 0 max_depth max_depth in_pattern in_expression (named_patterns p)
      (named_expressions p) []
      (patterns_readable p w) (expressions_readable p w) (patterns_room p w) (expressions_room p w) (same_trees p)

  pattern_deep : Deep (λ i. depth_in (at (pattern_tokens p) i)) 0 0 (patterns p)
  unfolding pattern_tokens
  pattern_deep =
      tokens_deep (pattern_tokens p) 0 max_depth in_pattern [] (named_patterns p) [] (sym (append-nil (pattern_tokens p)))
      (patterns_readable p w) (patterns_room p w)

  -- THE THEOREM: the walk on the tables fails just where a shape disagrees, and else records the faces in order
  pub walk_means : Means p (flat_walk (pattern_tokens p) (expression_tokens p)) (walk_of p)
  walk_means =
      let at0 : (u : Terms) → Looks (λ i. node_at i u) 0 u = λ u m h. ap (λ (i : ℕ). node_at i u) (zero-add m) in
      subst (λ (o : Option (List ℕ)). Means p o (walk_of p)) (sym table_walk)
      (seen_both (λ i. node_at i (patterns p)) (λ j. node_at j (expressions p)) (λ i. depth_in (at (pattern_tokens p) i)) [] 0 0 0 0
      (patterns p) (expressions p)
      (nameless_closed [] (named_patterns p)) (nameless_closed [] (named_expressions p)) (at0 (patterns p)) (at0 (expressions p))
      pattern_deep
      (omega (arith, nodes_few p w, relabel_size enter nameless_label [] (named_patterns p))))

  pub walk_none : (flat_walk (pattern_tokens p) (expression_tokens p) ≡ none) ↔ (walk_of p ≡ none)
  walk_none = both_none (Recorded p) (flat_walk (pattern_tokens p) (expression_tokens p)) (walk_of p) walk_means

  pub walk_some : (xs : List Face) → walk_of p ≡ some xs
      → (ns : List ℕ) × (flat_walk (pattern_tokens p) (expression_tokens p) ≡ some ns) × Recorded p ns xs
  walk_some xs q =
      both_some (Recorded p) (flat_walk (pattern_tokens p) (expression_tokens p)) xs
      (subst (λ (o : Option (List Face)). Means p (flat_walk (pattern_tokens p) (expression_tokens p)) o) q walk_means)
