-- What an accepted problem is like: the facts that the theorems on solutions use.
--   IsPattern    an application has as many arguments as its label says, and there is none inside an argument
--   Proper       expressions are expressions, patterns are patterns, and the metavariables are among those that there can be
use mathlib.Core.Path.{◌≡◌, refl, ap, sym, ◌∙◌, subst}
use mathlib.Core.Logic.{◌⊎◌, inl, inr, ⊎_elim}
use Prim.Native.Nat.{ℕ, zero, suc, ◌<◌}
use mathlib.Core.Bool.{Bool, true, false, ◌||◌, false≢true}
use mathlib.Core.List.Memᴰ
use mathlib.Core.List.{List, [], ◌∷◌, ◌++◌, map}
use native.Mathlib.Omega.{arith}
use lib.Dec.{eqb}
use Rattle.meaning.specs.Limits.{metavariable_count, max_depth}
use Rattle.meaning.specs.Basics.{choose, up_to, All, ◌∈◌}
use Rattle.meaning.specs.Term.{Forest, nil, cons, one, trees, relabel, symbol, variable, application, binder, own, slot, metavariable}
use Rattle.meaning.specs.Term.{function, hole, Named, Nameless, NamedTerm, Terms, IsExpression}
use Rattle.meaning.specs.Scope.{enter, nameless_label, nameless}
use Rattle.meaning.specs.Problem.{Constraint, Problem, forest_of, patterns, expressions, plain, applications, applied, places_among}
use Rattle.meaning.specs.Problem.{places_of, is_function, is_plain, functions, metavariables, named_patterns, named_expressions}
use Rattle.meaning.specs.Read.{Context, in_pattern, in_argument, in_expression, in_body, context_below}
use Rattle.meaning.specs.Readable.{NodeFits, Readable, ReadableConstraint, Accepted, WithinLimits}
use Rattle.meaning.proofs.Lists.{by_test, or_left, or_right, eqb_eq, eqb_self, mem_map, map_mem, mem_keep}
use Rattle.meaning.proofs.Lists.{keep_mem, is_in_mem, mem_is_in, mem_up_to}

-- In an argument there are only metavariables besides the expression's own nodes
abbrev pub ArgumentLabel : Nameless → Terms → Type 0
ArgumentLabel (own o) c = Unit {0}
ArgumentLabel (slot (metavariable m)) c = c ≡ nil
ArgumentLabel (slot (function f n)) c = ⊥
ArgumentLabel (slot (hole i)) c = ⊥

abbrev pub IsArgument : Terms → Type 0
IsArgument nil = Unit {0}
IsArgument (cons l c s) = ArgumentLabel l c × IsArgument c × IsArgument s

abbrev pub PatternLabel : Nameless → Terms → Type 0
PatternLabel (own o) c = Unit {0}
PatternLabel (slot (metavariable m)) c = c ≡ nil
PatternLabel (slot (function f n)) c = (trees c ≡ n) × IsArgument c
PatternLabel (slot (hole i)) c = ⊥

abbrev pub IsPattern : Terms → Type 0
IsPattern nil = Unit {0}
IsPattern (cons l c s) = PatternLabel l c × IsPattern c × IsPattern s

pub record Proper (p : Problem) : Type 0 where
  pub expression : IsExpression (expressions p)
  pub pattern : IsPattern (patterns p)
  pub small_applied : (m : ℕ) → m ∈ applied (patterns p) → m < metavariable_count
  pub small_plain : (m : ℕ) → m ∈ plain (patterns p) → m < metavariable_count

-- Names resolved: the shape stays
pub relabel_trees : {E L M : Type 0} (into : L → E → E) (f : E → L → M) (e : E) (u : Forest L) → trees (relabel into f e u) ≡ trees u
relabel_trees into f e nil = refl
relabel_trees into f e (cons l c s) = ap suc (relabel_trees into f e s)

pub relabel_nil : {E L M : Type 0} (into : L → E → E) (f : E → L → M) (e : E) (u : Forest L) → u ≡ nil → relabel into f e u ≡ nil
relabel_nil into f e u h = ap (relabel into f e) h

-- An application's levels are none where there is no node
pub readable_expression : (levels : ℕ) (sc : List ℕ) (u : Forest Named) → Readable levels in_expression u → IsExpression (nameless sc u)
unfolding context_below
readable_expression levels sc nil h = tt
readable_expression zero sc (cons l c s) h = absurd h
readable_expression (suc levels) sc (cons (own (symbol n)) c s) h =
    (tt, readable_expression levels sc c h.1, readable_expression (suc levels) sc s h.2)
readable_expression (suc levels) sc (cons (own (variable x)) c s) h =
    (tt, readable_expression levels sc c h.1, readable_expression (suc levels) sc s h.2)
readable_expression (suc levels) sc (cons (own (application n)) c s) h =
    (tt, readable_expression levels sc c h.1, readable_expression (suc levels) sc s h.2)
readable_expression (suc levels) sc (cons (own (binder b x)) c s) h =
    (tt, readable_expression levels (x ∷ sc) c h.1, readable_expression (suc levels) sc s h.2)
readable_expression (suc levels) sc (cons (slot (metavariable m)) c s) h = absurd h.0.0
readable_expression (suc levels) sc (cons (slot (function f n)) c s) h = absurd h.0.0
readable_expression (suc levels) sc (cons (slot (hole i)) c s) h = absurd h.0.0

pub readable_argument : (levels : ℕ) (sc : List ℕ) (u : Forest Named) → Readable levels in_argument u → IsArgument (nameless sc u)
unfolding context_below
readable_argument levels sc nil h = tt
readable_argument zero sc (cons l c s) h = absurd h
readable_argument (suc levels) sc (cons (own (symbol n)) c s) h =
    (tt, readable_argument levels sc c h.1, readable_argument (suc levels) sc s h.2)
readable_argument (suc levels) sc (cons (own (variable x)) c s) h =
    (tt, readable_argument levels sc c h.1, readable_argument (suc levels) sc s h.2)
readable_argument (suc levels) sc (cons (own (application n)) c s) h =
    (tt, readable_argument levels sc c h.1, readable_argument (suc levels) sc s h.2)
readable_argument (suc levels) sc (cons (own (binder b x)) c s) h =
    (tt, readable_argument levels (x ∷ sc) c h.1, readable_argument (suc levels) sc s h.2)
readable_argument (suc levels) sc (cons (slot (metavariable m)) c s) h =
    (relabel_nil enter nameless_label sc c h.0.2, readable_argument levels sc c h.1, readable_argument (suc levels) sc s h.2)
readable_argument (suc levels) sc (cons (slot (function f n)) c s) h = absurd h.0.0
readable_argument (suc levels) sc (cons (slot (hole i)) c s) h = absurd h.0.0

-- An argument is a pattern
pub argument_pattern : (u : Terms) → IsArgument u → IsPattern u
argument_pattern nil h = tt
argument_pattern (cons (own o) c s) h = (tt, argument_pattern c h.1, argument_pattern s h.2)
argument_pattern (cons (slot (metavariable m)) c s) h = (h.0, argument_pattern c h.1, argument_pattern s h.2)
argument_pattern (cons (slot (function f n)) c s) h = absurd h.0
argument_pattern (cons (slot (hole i)) c s) h = absurd h.0

pub readable_pattern : (levels : ℕ) (sc : List ℕ) (u : Forest Named) → Readable levels in_pattern u → IsPattern (nameless sc u)
unfolding context_below
readable_pattern levels sc nil h = tt
readable_pattern zero sc (cons l c s) h = absurd h
readable_pattern (suc levels) sc (cons (own (symbol n)) c s) h =
    (tt, readable_pattern levels sc c h.1, readable_pattern (suc levels) sc s h.2)
readable_pattern (suc levels) sc (cons (own (variable x)) c s) h =
    (tt, readable_pattern levels sc c h.1, readable_pattern (suc levels) sc s h.2)
readable_pattern (suc levels) sc (cons (own (application n)) c s) h =
    (tt, readable_pattern levels sc c h.1, readable_pattern (suc levels) sc s h.2)
readable_pattern (suc levels) sc (cons (own (binder b x)) c s) h =
    (tt, readable_pattern levels (x ∷ sc) c h.1, readable_pattern (suc levels) sc s h.2)
readable_pattern (suc levels) sc (cons (slot (metavariable m)) c s) h =
    let a : IsArgument (nameless sc c) = readable_argument levels sc c h.1 in
    (relabel_nil enter nameless_label sc c h.0.2, argument_pattern (nameless sc c) a, readable_pattern (suc levels) sc s h.2)
readable_pattern (suc levels) sc (cons (slot (function f n)) c s) h =
    let a : IsArgument (nameless sc c) = readable_argument levels sc c h.1 in
    ((relabel_trees enter nameless_label sc c ∙ h.0.3, a), argument_pattern (nameless sc c) a, readable_pattern (suc levels) sc s h.2)
readable_pattern (suc levels) sc (cons (slot (hole i)) c s) h = absurd h.0.0

-- An application that has a tag: a function with a small number, and the number of arguments that the tag has
abbrev Tagged : ℕ × ℕ → Type 0
Tagged a = (a.0 < metavariable_count) × (a.1 ≡ 1)

-- Applications that have tags, and plain metavariables with small numbers
Small : List (ℕ × ℕ) → List ℕ → Type 0
Small xs ys = ((a : ℕ × ℕ) → a ∈ xs → Tagged a) × ((m : ℕ) → m ∈ ys → m < metavariable_count)

both : (xs xs' : List (ℕ × ℕ)) (ys ys' : List ℕ) → Small xs ys → Small xs' ys' → Small (xs ++ xs') (ys ++ ys')
unfolding Small
both xs xs' ys ys' h g =
    (λ m q. ⊎_elim (h.0 m) (g.0 m) (Memᴰ.append_cases xs q), λ m q. ⊎_elim (h.1 m) (g.1 m) (Memᴰ.append_cases ys q))

-- The metavariables of a readable forest are small numbers, and its applications have tags
readable_small : (levels : ℕ) (ctx : Context) (sc : List ℕ) (u : Forest Named) → Readable levels ctx u
    → Small (applications (nameless sc u)) (plain (nameless sc u))
unfolding Small
readable_small levels ctx sc nil h = (λ m q. absurd (Memᴰ.not-nil q), λ m q. absurd (Memᴰ.not-nil q))
readable_small zero ctx sc (cons l c s) h = absurd h
readable_small (suc levels) ctx sc (cons (own (symbol n)) c s) h =
    both (applications (nameless sc c)) (applications (nameless sc s)) (plain (nameless sc c)) (plain (nameless sc s))
    (readable_small levels (context_below (own (symbol n)) ctx) sc c h.1) (readable_small (suc levels) ctx sc s h.2)
readable_small (suc levels) ctx sc (cons (own (variable x)) c s) h =
    both (applications (nameless sc c)) (applications (nameless sc s)) (plain (nameless sc c)) (plain (nameless sc s))
    (readable_small levels (context_below (own (variable x)) ctx) sc c h.1) (readable_small (suc levels) ctx sc s h.2)
readable_small (suc levels) ctx sc (cons (own (application n)) c s) h =
    both (applications (nameless sc c)) (applications (nameless sc s)) (plain (nameless sc c)) (plain (nameless sc s))
    (readable_small levels (context_below (own (application n)) ctx) sc c h.1) (readable_small (suc levels) ctx sc s h.2)
readable_small (suc levels) ctx sc (cons (own (binder b x)) c s) h =
    both (applications (nameless (x ∷ sc) c)) (applications (nameless sc s)) (plain (nameless (x ∷ sc) c)) (plain (nameless sc s))
    (readable_small levels (context_below (own (binder b x)) ctx) (x ∷ sc) c h.1) (readable_small (suc levels) ctx sc s h.2)
readable_small (suc levels) ctx sc (cons (slot (metavariable m)) c s) h =
    let r = readable_small (suc levels) ctx sc s h.2 in
    (r.0, λ k q. ⊎_elim (λ (e : k ≡ m). subst (λ (x : ℕ). x < metavariable_count) (sym e) h.0.1) (r.1 k) (Memᴰ.cases_cons q))
readable_small (suc levels) ctx sc (cons (slot (function f n)) c s) h =
    let r = both (applications (nameless sc c)) (applications (nameless sc s)) (plain (nameless sc c)) (plain (nameless sc s))
    (readable_small levels (context_below (slot (function f n)) ctx) sc c h.1) (readable_small (suc levels) ctx sc s h.2) in
    (λ a q. ⊎_elim (λ (e : a ≡ (f, n)). subst Tagged (sym e) (h.0.1, h.0.2)) (r.0 a) (Memᴰ.cases_cons q), r.1)
readable_small (suc levels) ctx sc (cons (slot (hole i)) c s) h = readable_small (suc levels) ctx sc s h.2

-- A list of readable terms is a readable forest
readable_forest : (levels : ℕ) (ctx : Context) (ts : List NamedTerm) → All (λ t. Readable levels ctx (one t)) ts
    → Readable levels ctx (forest_of ts)
readable_forest levels ctx [] h = tt
readable_forest zero ctx (t ∷ ts) h = absurd h.0
readable_forest (suc levels) ctx (t ∷ ts) h = (h.0.0, h.0.1, readable_forest (suc levels) ctx ts h.1)

pub patterns_readable : (p : Problem) → WithinLimits p → Readable max_depth in_pattern (named_patterns p)
patterns_readable p w = readable_forest max_depth in_pattern (map (λ (c : Constraint). c.pattern) p) (each_pattern p w.constraints)
  where
    each_pattern : (cs : Problem) → All ReadableConstraint cs
        → All (λ t. Readable max_depth in_pattern (one t)) (map (λ (c : Constraint). c.pattern) cs)
    each_pattern [] h = tt
    each_pattern (c ∷ cs) h = (h.0.0, each_pattern cs h.1)

pub expressions_readable : (p : Problem) → WithinLimits p → Readable max_depth in_expression (named_expressions p)
expressions_readable p w =
    readable_forest max_depth in_expression (map (λ (c : Constraint). c.expression) p) (each_expression p w.constraints)
  where
    each_expression : (cs : Problem) → All ReadableConstraint cs
        → All (λ t. Readable max_depth in_expression (one t)) (map (λ (c : Constraint). c.expression) cs)
    each_expression [] h = tt
    each_expression (c ∷ cs) h = (h.0.1, each_expression cs h.1)

-- A function of a readable problem has an application that has a tag
tagged_applied : (p : Problem) → WithinLimits p → (f : ℕ) → f ∈ applied (patterns p)
    → (n : ℕ) × ((f, n) ∈ applications (patterns p)) × Tagged (f, n)
unfolding Small
tagged_applied p w f h =
    let (a, m, e) = map_mem (λ (x : ℕ × ℕ). x.0) f (applications (patterns p)) h in
    let t = (readable_small max_depth in_pattern [] (named_patterns p) (patterns_readable p w)).0 a m in
    subst (λ (g : ℕ). (n : ℕ) × ((g, n) ∈ applications (patterns p)) × Tagged (g, n)) (sym e) (a.1, m, t)

pub accepted_proper : (p : Problem) → Accepted p → Proper p
unfolding Small
accepted_proper p a =
    let ps = patterns_readable p a.within in
    let small : (m : ℕ) → m ∈ applied (patterns p) → m < metavariable_count = λ m x. (tagged_applied p a.within m x).2.0 in
    record {
      expression = readable_expression max_depth [] (named_expressions p) (expressions_readable p a.within);
      pattern = readable_pattern max_depth [] (named_patterns p) ps;
      small_applied = small;
      small_plain = (readable_small max_depth in_pattern [] (named_patterns p) ps).1;
    }

-- A function's number of places is that of one of its applications
places_among_lem : (f n : ℕ) (xs : List (ℕ × ℕ)) → (f, n) ∈ xs → (f, places_among f xs) ∈ xs
places_among_lem f n [] m = absurd (Memᴰ.not-nil m)
places_among_lem f n (a ∷ xs) m = go (eqb f a.0) refl (places_among_lem f n xs) (Memᴰ.cases_cons m)
  where
    go : (b : Bool) → eqb f a.0 ≡ b → ((f, n) ∈ xs → (f, places_among f xs) ∈ xs) → ((f, n) ≡ a) ⊎ ((f, n) ∈ xs)
        → (f, choose b a.1 (places_among f xs)) ∈ (a ∷ xs)
    go true q ih r = Memᴰ.head (ap (λ (g : ℕ). (g, a.1)) (eqb_eq f a.0 q))
    go false q ih (inl r) = absurd (false≢true (sym q ∙ ap (λ (x : ℕ × ℕ). eqb f x.0) (sym r) ∙ eqb_self f))
    go false q ih (inr r) = Memᴰ.tail (ih r)

-- THE READER KNOWS FUNCTIONS OF ONE PLACE
pub one_place : (p : Problem) → WithinLimits p → (f : ℕ) → f ∈ applied (patterns p) → places_of p f ≡ 1
unfolding places_of Small
one_place p w f h =
    let (n, m, t) = tagged_applied p w f h in
    ((readable_small max_depth in_pattern [] (named_patterns p) (patterns_readable p w)).0 (f, places_of p f)
    (places_among_lem f n (applications (patterns p)) m)).1

-- EVERY APPLICATION of a function has as many arguments as the function has places
pub same_places : (p : Problem) → WithinLimits p → (f n : ℕ) → (f, n) ∈ applications (patterns p) → n ≡ places_of p f
unfolding Small
same_places p w f n m =
    ((readable_small max_depth in_pattern [] (named_patterns p) (patterns_readable p w)).0 (f, n) m).1
    ∙ sym (one_place p w f (mem_map (λ (a : ℕ × ℕ). a.0) m))

-- Each place of a function has a hole with a tag
pub hole_tagged : (p : Problem) → WithinLimits p → (f i : ℕ) → f ∈ applied (patterns p) → i < places_of p f
    → NodeFits in_body (slot (hole i)) nil
hole_tagged p w f i h small = let e = one_place p w f h in (tt, omega arith, refl)

-- The ascending lists hold just the metavariables that occur
pub functions_applied : (p : Problem) (f : ℕ) → f ∈ functions p → f ∈ applied (patterns p)
unfolding functions
functions_applied p f h = is_in_mem f (applied (patterns p)) (keep_mem (is_function p) f (up_to metavariable_count) h).1

pub applied_functions : (p : Problem) → Proper p → (f : ℕ) → f ∈ applied (patterns p) → f ∈ functions p
unfolding functions
applied_functions p c f h =
    mem_keep (is_function p) f (up_to metavariable_count) (mem_up_to metavariable_count f (c.small_applied f h))
    (mem_is_in f (applied (patterns p)) h)

pub applied_occurs : (p : Problem) → Proper p → (m : ℕ) → m ∈ applied (patterns p) → m ∈ metavariables p
unfolding metavariables
applied_occurs p c m a =
    mem_keep (λ k. is_function p k || is_plain p k) m (up_to metavariable_count) (mem_up_to metavariable_count m (c.small_applied m a))
    (or_left (is_function p m) (is_plain p m) (mem_is_in m (applied (patterns p)) a))

pub plain_occurs : (p : Problem) → Proper p → (m : ℕ) → m ∈ plain (patterns p) → m ∈ metavariables p
unfolding metavariables
plain_occurs p c m b =
    mem_keep (λ k. is_function p k || is_plain p k) m (up_to metavariable_count) (mem_up_to metavariable_count m (c.small_plain m b))
    (or_right (is_function p m) (is_plain p m) (mem_is_in m (plain (patterns p)) b))

-- Each number is a function's, another metavariable's, or none's
pub by_role : {A : Type 0} (p : Problem) (m : ℕ) → (m ∈ applied (patterns p) → A) → (m ∈ plain (patterns p) → A)
    → ((m ∈ applied (patterns p) → ⊥) → (m ∈ plain (patterns p) → ⊥) → A) → A
by_role p m as_function as_other as_none =
    by_test (is_function p m) (λ e. as_function (is_in_mem m (applied (patterns p)) e))
    (λ e. by_test (is_plain p m) (λ d. as_other (is_in_mem m (plain (patterns p)) d))
    (λ d. as_none (λ i. false≢true (sym e ∙ mem_is_in m (applied (patterns p)) i)) (λ i. false≢true (sym d ∙ mem_is_in m (plain (patterns p)) i))))
