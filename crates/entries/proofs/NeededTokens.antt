-- The metavariables that need a value, out of the tokens of patterns: just those that `meaning` says need one.
use mathlib.Core.Path.{◌≡◌, refl, ap, ap₂, sym, ◌∙◌, subst}
use Prim.Native.Nat.{ℕ, zero, suc, ◌-◌, ◌<◌}
use mathlib.Core.Bool.{Bool, true, false, ◌&&◌, not}
use mathlib.Core.List.{List, [], ◌∷◌, ◌++◌, append_assoc, append-nil}
use native.Mathlib.Omega.{arith}
use lib.ListN.{length}
use lib.Seq.{drop_at}
use lib.Dec.{eqb}
use Rattle.meaning.specs.Limits.{max_depth, metavariable_count}
use Rattle.meaning.specs.Basics.{choose}
use Rattle.meaning.specs.Term.{Forest, nil, cons, one, size, trees, symbol, variable, application, binder, own, slot}
use Rattle.meaning.specs.Term.{metavariable, function, hole, Named, Terms}
use Rattle.meaning.specs.Scope.{enter, nameless, nameless_label}
use Rattle.meaning.specs.Problem.{Problem, named_patterns, patterns, plain, in_arguments, standings}
use Rattle.meaning.specs.Field.{tag_of}
use Rattle.meaning.specs.Filling.{Filling, body_or}
use Rattle.meaning.specs.Read.{Context, in_pattern, in_argument, context_below}
use Rattle.meaning.specs.Readable.{NodeFits, Readable, WithinLimits}
use Rattle.meaning.specs.Solution.{has_hole}
use Rattle.meaning.proofs.Proper.{IsArgument, readable_argument, relabel_trees, patterns_readable}
use Rattle.tokens.specs.Token.{size_in, payload_of, tokens, pattern_tokens}
use Rattle.tokens.proofs.TokenParts.{tokens_length}
use Rattle.tokens.proofs.ProblemTokens.{token_at, tag_at, size_at_lem, payload_at, Room, room_depth, room_size, room_below, room_later}
use Rattle.tokens.proofs.ProblemTokens.{patterns_room}
use Rattle.metavariables.specs.Survey.{has}
use Rattle.entries.specs.Needed.{needed_from}
use Rattle.entries.proofs.NeededLaws.{needed_skip}
use Rattle.entries.proofs.Standings.{needing, needing_append, one_argument, argument_needing}

-- The tokens of patterns, where the set has the functions whose body has a hole
module _ (σ : Filling) (holed : ℕ) (told : (f : ℕ) → f < metavariable_count → has holed f ≡ has_hole 0 (one (body_or f (σ f)))) where
  abbrev flat : List ℕ → List ℕ
  flat xs = needed_from holed 0 xs

  -- One node, before the nodes below it and those after it
  module _ (sc : List ℕ) (l : Named) (c s : Forest Named) (xs : List ℕ) (room : length sc < 256) (small : suc (size c) < 65536) where
    abbrev below : List ℕ
    below = tokens (enter l sc) c ++ (tokens sc s ++ xs)

    passed : needed_from holed (suc (size c) - 1) below ≡ flat (tokens sc s ++ xs)
    passed =
        let z : suc (size c) - 1 ≡ size c = omega arith in
        ap (λ (n : ℕ). needed_from holed n below) z ∙ needed_skip holed (size c) below
        ∙ ap flat (drop_at (tokens (enter l sc) c) (tokens sc s ++ xs) (size c) (tokens_length (enter l sc) c))

    node : flat (tokens sc (cons l c s) ++ xs)
        ≡ choose (eqb (tag_of l) 6 && not (has holed (payload_of sc l))) (flat (tokens sc s ++ xs))
        (choose (eqb (tag_of l) 5) (payload_of sc l ∷ flat below) (flat below))
    unfolding tokens needed_from
    node =
        let x : ℕ = token_at sc l c in
        ap (λ (ys : List ℕ). flat (x ∷ ys)) (append_assoc (tokens (enter l sc) c) (tokens sc s) xs)
        ∙ ap₂
        (λ (t m : ℕ). choose (eqb t 6 && not (has holed m)) (needed_from holed (size_in x - 1) below)
        (choose (eqb t 5) (m ∷ flat below) (flat below))) (tag_at sc l c room small) (payload_at sc l c room small)
        ∙ ap
        (λ (ys : List ℕ). choose (eqb (tag_of l) 6 && not (has holed (payload_of sc l))) ys
        (choose (eqb (tag_of l) 5) (payload_of sc l ∷ flat below) (flat below)))
        (ap (λ (n : ℕ). needed_from holed (n - 1) below) (size_at_lem sc l c room small) ∙ passed)

  -- What one node adds: u and v stand for what is below it and after it, b and a for the metavariables of these, z for later ones
  module _ (ctx : Context) (sc : List ℕ) (u v : Terms) (b a z : List ℕ) (below : b ≡ needing σ (standings u) ++ a)
      (later : a ≡ needing σ (standings v) ++ z) where
    both : b ≡ needing σ (standings u ++ standings v) ++ z
    both =
        below ∙ ap (λ (xs : List ℕ). needing σ (standings u) ++ xs) later
        ∙ sym (append_assoc (needing σ (standings u)) (needing σ (standings v)) z)
        ∙ ap (λ (xs : List ℕ). xs ++ z) (sym (needing_append σ (standings u) (standings v)))

    after : u ≡ nil → b ≡ needing σ (standings v) ++ z
    unfolding needing
    after e = below ∙ ap (λ (t : Terms). needing σ (standings t) ++ a) e ∙ later

    applied_node : (f : ℕ) → f < metavariable_count → trees u ≡ 1 → IsArgument u
        → choose (not (has holed f)) a b ≡ needing σ (in_arguments f 0 u ++ standings v) ++ z
    applied_node f small single arg =
        chosen (has holed f)
        ∙ ap₂ (λ (h : Bool) (xs : List ℕ). choose h (plain u) [] ++ xs) (told f small) later
        ∙ ap (λ (xs : List ℕ). xs ++ (needing σ (standings v) ++ z)) (sym (one_argument σ f u single))
        ∙ sym (append_assoc (needing σ (in_arguments f 0 u)) (needing σ (standings v)) z)
        ∙ ap (λ (xs : List ℕ). xs ++ z) (sym (needing_append σ (in_arguments f 0 u) (standings v)))
      where
        chosen : (h : Bool) → choose (not h) a b ≡ choose h (plain u) [] ++ a
        chosen true = below ∙ ap (λ (xs : List ℕ). xs ++ a) (argument_needing σ u arg)
        chosen false = refl

    label : (l : Named) (c : Forest Named) → NodeFits ctx l c → (c ≡ nil → u ≡ nil) → trees u ≡ trees c
        → (context_below l ctx ≡ in_argument → IsArgument u)
        → choose (eqb (tag_of l) 6 && not (has holed (payload_of sc l))) a (choose (eqb (tag_of l) 5) (payload_of sc l ∷ b) b)
        ≡ needing σ (standings (cons (nameless_label sc l) u v)) ++ z
    unfolding payload_of needing context_below
    label (own (symbol n)) c f none same arg = both
    label (own (variable x)) c f none same arg = both
    label (own (application n)) c f none same arg = both
    label (own (binder k x)) c f none same arg = both
    label (slot (metavariable m)) c f none same arg = ap (λ (xs : List ℕ). m ∷ xs) (after (none f.2))
    label (slot (function g n)) c f none same arg = applied_node g f.1 (same ∙ f.3 ∙ f.2) (arg refl)
    label (slot (hole i)) c f none same arg = after (none f.2)

  needed_trees : (levels : ℕ) (ctx : Context) (sc : List ℕ) (u : Forest Named) (xs : List ℕ) → Readable levels ctx u → Room levels sc u
      → flat (tokens sc u ++ xs) ≡ needing σ (standings (nameless sc u)) ++ flat xs
  unfolding tokens needing
  needed_trees levels ctx sc nil xs r m = refl
  needed_trees zero ctx sc (cons l c s) xs r m = absurd r
  needed_trees (suc levels) ctx sc (cons l c s) xs r m =
      node sc l c s xs (room_depth levels sc l c s m) (room_size levels sc l c s m)
      ∙ label ctx sc (nameless (enter l sc) c) (nameless sc s) (flat (tokens (enter l sc) c ++ (tokens sc s ++ xs)))
      (flat (tokens sc s ++ xs)) (flat xs)
      (needed_trees levels (context_below l ctx) (enter l sc) c (tokens sc s ++ xs) r.1 (room_below levels sc l c s m))
      (needed_trees (suc levels) ctx sc s xs r.2 (room_later levels sc l c s m))
      l c r.0 (ap (nameless (enter l sc))) (relabel_trees enter nameless_label (enter l sc) c)
      (λ e. readable_argument levels (enter l sc) c (subst (λ (x : Context). Readable levels x c) e r.1))

  -- The table of a problem's patterns
  pub needed_patterns : (p : Problem) → WithinLimits p → needed_from holed 0 (pattern_tokens p) ≡ needing σ (standings (patterns p))
  unfolding pattern_tokens needed_from
  needed_patterns p w =
      ap flat (sym (append-nil (tokens [] (named_patterns p))))
      ∙ needed_trees max_depth in_pattern [] (named_patterns p) [] (patterns_readable p w) (patterns_room p w)
      ∙ append-nil (needing σ (standings (patterns p)))
