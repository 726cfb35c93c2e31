-- What the survey says of a problem: the sets are its functions and its other metavariables.
use mathlib.Core.Path.{◌≡◌, refl, ap, ap₂, sym, ◌∙◌}
use mathlib.Core.Bool.{Bool, true, false, ◌&&◌, not}
use mathlib.Core.List.{List, [], ◌∷◌, ◌++◌, map, map-append}
use Prim.Native.Nat.{ℕ, zero, suc, ◌<◌}
use lib.ListN.{length}
use lib.Dec.{eqb}
use Rattle.meaning.specs.Limits.{metavariable_count, max_depth}
use Rattle.meaning.specs.Basics.{choose, keep, every, up_to, is_in}
use Rattle.meaning.specs.Term.{Forest, nil, cons, size, symbol, variable, application, binder, own, slot, metavariable, function, hole}
use Rattle.meaning.specs.Term.{Named, Terms}
use Rattle.meaning.specs.Scope.{enter, nameless_label, nameless}
use Rattle.meaning.specs.Problem.{Problem, named_patterns, patterns, plain, applications, applied, is_function, is_plain, functions, both_ways}
use Rattle.meaning.specs.Field.{tag_of}
use Rattle.meaning.specs.Read.{Context, in_pattern, context_below}
use Rattle.meaning.specs.Readable.{NodeFits, Readable, WithinLimits}
use Rattle.tokens.specs.Token.{tag_in, payload_in, payload_of, tokens, pattern_tokens}
use Rattle.metavariables.specs.declared.Occurring.{Occurring}
use Rattle.metavariables.specs.Survey.{has, numbers, Surveyed, meets, count, functions_in, both_in}
use Rattle.metavariables.proofs.SurveyLaws.{functions_set, both_set, count_set}
use Rattle.tokens.proofs.ProblemTokens.{tag_at, payload_at, Room, room_depth, room_size, room_below, room_later, patterns_room}
use Rattle.meaning.proofs.Proper.{patterns_readable}

numbers_append : (g : ℕ) (xs ys : List ℕ) → numbers g (xs ++ ys) ≡ numbers g xs ++ numbers g ys
unfolding numbers
numbers_append g [] ys = refl
numbers_append g (x ∷ xs) ys = go (eqb (tag_in x) g) (numbers_append g xs ys)
  where
    go : (b : Bool) → numbers g (xs ++ ys) ≡ numbers g xs ++ numbers g ys
        → choose b (payload_in x ∷ numbers g (xs ++ ys)) (numbers g (xs ++ ys))
        ≡ choose b (payload_in x ∷ numbers g xs) (numbers g xs) ++ numbers g ys
    go true e = ap (λ (l : List ℕ). payload_in x ∷ l) e
    go false e = e

-- One node and the numbers below and after it
module _ (g : ℕ) (sc : List ℕ) (l : Named) (c s : Forest Named) (room : length sc < 256) (small : suc (size c) < 65536) (xs ys : List ℕ)
    (below : numbers g (tokens (enter l sc) c) ≡ xs) (later : numbers g (tokens sc s) ≡ ys) where
  node_numbers : numbers g (tokens sc (cons l c s)) ≡ choose (eqb (tag_of l) g) (payload_of sc l ∷ (xs ++ ys)) (xs ++ ys)
  unfolding numbers tokens
  node_numbers =
      let e : numbers g (tokens (enter l sc) c ++ tokens sc s) ≡ xs ++ ys = numbers_append g (tokens (enter l sc) c) (tokens sc s)
      ∙ ap₂ ◌++◌ below later in
      ap₂
      (λ (t m : ℕ). choose (eqb t g) (m ∷ numbers g (tokens (enter l sc) c ++ tokens sc s))
      (numbers g (tokens (enter l sc) c ++ tokens sc s))) (tag_at sc l c room small) (payload_at sc l c room small)
      ∙ ap (λ (r : List ℕ). choose (eqb (tag_of l) g) (payload_of sc l ∷ r) r) e

applied_append : (u v : Terms) → applied u ++ applied v ≡ map (λ (a : ℕ × ℕ). a.0) (applications u ++ applications v)
applied_append u v = sym (map-append (λ (a : ℕ × ℕ). a.0) (applications u) (applications v))

-- What one node adds to the functions and to the other metavariables; a metavariable has nothing below it
applied_label : (ctx : Context) (sc : List ℕ) (l : Named) (c : Forest Named) (u v : Terms) → NodeFits ctx l c → (c ≡ nil → u ≡ nil)
    → choose (eqb (tag_of l) 6) (payload_of sc l ∷ (applied u ++ applied v)) (applied u ++ applied v)
    ≡ applied (cons (nameless_label sc l) u v)
unfolding payload_of
applied_label ctx sc (own (symbol n)) c u v f h = applied_append u v
applied_label ctx sc (own (variable x)) c u v f h = applied_append u v
applied_label ctx sc (own (application n)) c u v f h = applied_append u v
applied_label ctx sc (own (binder b x)) c u v f h = applied_append u v
applied_label ctx sc (slot (metavariable m)) c u v f h = ap (λ (t : Terms). applied t ++ applied v) (h f.2)
applied_label ctx sc (slot (function g n)) c u v f h = ap (λ (l : List ℕ). g ∷ l) (applied_append u v)
applied_label ctx sc (slot (hole i)) c u v f h = ap (λ (t : Terms). applied t ++ applied v) (h f.2)

plain_label : (ctx : Context) (sc : List ℕ) (l : Named) (c : Forest Named) (u v : Terms) → NodeFits ctx l c → (c ≡ nil → u ≡ nil)
    → choose (eqb (tag_of l) 5) (payload_of sc l ∷ (plain u ++ plain v)) (plain u ++ plain v) ≡ plain (cons (nameless_label sc l) u v)
unfolding payload_of
plain_label ctx sc (own (symbol n)) c u v f h = refl
plain_label ctx sc (own (variable x)) c u v f h = refl
plain_label ctx sc (own (application n)) c u v f h = refl
plain_label ctx sc (own (binder b x)) c u v f h = refl
plain_label ctx sc (slot (metavariable m)) c u v f h = ap (λ (t : Terms). m ∷ (plain t ++ plain v)) (h f.2)
plain_label ctx sc (slot (function g n)) c u v f h = refl
plain_label ctx sc (slot (hole i)) c u v f h = ap (λ (t : Terms). plain t ++ plain v) (h f.2)

applied_numbers : (levels : ℕ) (ctx : Context) (sc : List ℕ) (u : Forest Named) → Readable levels ctx u → Room levels sc u
    → numbers 6 (tokens sc u) ≡ applied (nameless sc u)
unfolding numbers tokens
applied_numbers levels ctx sc nil r m = refl
applied_numbers zero ctx sc (cons l c s) r m = absurd r
applied_numbers (suc levels) ctx sc (cons l c s) r m =
    node_numbers 6 sc l c s (room_depth levels sc l c s m) (room_size levels sc l c s m) (applied (nameless (enter l sc) c))
    (applied (nameless sc s))
    (applied_numbers levels (context_below l ctx) (enter l sc) c r.1 (room_below levels sc l c s m))
    (applied_numbers (suc levels) ctx sc s r.2 (room_later levels sc l c s m))
    ∙ applied_label ctx sc l c (nameless (enter l sc) c) (nameless sc s) r.0 (ap (nameless (enter l sc)))

plain_numbers : (levels : ℕ) (ctx : Context) (sc : List ℕ) (u : Forest Named) → Readable levels ctx u → Room levels sc u
    → numbers 5 (tokens sc u) ≡ plain (nameless sc u)
unfolding numbers tokens
plain_numbers levels ctx sc nil r m = refl
plain_numbers zero ctx sc (cons l c s) r m = absurd r
plain_numbers (suc levels) ctx sc (cons l c s) r m =
    node_numbers 5 sc l c s (room_depth levels sc l c s m) (room_size levels sc l c s m) (plain (nameless (enter l sc) c))
    (plain (nameless sc s))
    (plain_numbers levels (context_below l ctx) (enter l sc) c r.1 (room_below levels sc l c s m))
    (plain_numbers (suc levels) ctx sc s r.2 (room_later levels sc l c s m))
    ∙ plain_label ctx sc l c (nameless (enter l sc) c) (nameless sc s) r.0 (ap (nameless (enter l sc)))

-- The tokens of a problem that can be read
module _ (p : Problem) (w : WithinLimits p) where
  pub pattern_applied : numbers 6 (pattern_tokens p) ≡ applied (patterns p)
  unfolding pattern_tokens
  pattern_applied = applied_numbers max_depth in_pattern [] (named_patterns p) (patterns_readable p w) (patterns_room p w)

  pub pattern_plain : numbers 5 (pattern_tokens p) ≡ plain (patterns p)
  unfolding pattern_tokens
  pattern_plain = plain_numbers max_depth in_pattern [] (named_patterns p) (patterns_readable p w) (patterns_room p w)

  pub functions_in_lem : functions_in (pattern_tokens p) ≡ functions p
  unfolding functions_in functions
  functions_in_lem = ap (λ (xs : List ℕ). keep (λ m. is_in m xs) (up_to metavariable_count)) pattern_applied

  pub both_in_lem : both_in (pattern_tokens p) ≡ both_ways p
  unfolding both_in both_ways
  both_in_lem = ap₂ (λ (xs ys : List ℕ). not (every (λ m. not (is_in m xs && is_in m ys)) (up_to metavariable_count))) pattern_applied pattern_plain

-- The survey of a problem that can be read
module _ (p : Problem) (w : WithinLimits p) (r : Occurring) (survey : Surveyed (pattern_tokens p) r) where
  pub survey_functions : (m : ℕ) → m < metavariable_count → has r.functions m ≡ is_function p m
  survey_functions m h = survey.functions m h ∙ ap (is_in m) (pattern_applied p w)

  pub survey_plain : (m : ℕ) → m < metavariable_count → has r.plain m ≡ is_plain p m
  survey_plain m h = survey.plain m h ∙ ap (is_in m) (pattern_plain p w)

  -- T-09
  pub both_ways_means : meets metavariable_count r.functions r.plain ≡ both_ways p
  both_ways_means = both_set (pattern_tokens p) r survey ∙ both_in_lem p w

  pub kept_functions : keep (has r.functions) (up_to metavariable_count) ≡ functions p
  kept_functions = functions_set (pattern_tokens p) r survey ∙ functions_in_lem p w

  -- 13
  pub function_count_means : count metavariable_count r.functions ≡ length (functions p)
  function_count_means = count_set (pattern_tokens p) r survey ∙ ap length (functions_in_lem p w)
