-- What keys and levels mean: the tests on tokens against the definitions of `meaning`.
-- Caveat: the theorems give each binder outside a term its level as identity. That is the right binder for two terms of one table
-- only where each binder outside them that they use lies above both.
use mathlib.Core.Path.{◌≡◌, refl, ap, ap₂, sym, ◌∙◌}
use mathlib.Core.Logic.{◌↔◌}
use mathlib.Core.Bool.{Bool, true, not, not-not, false≢true}
use mathlib.Core.List.{List}
use mathlib.Core.Option.{Option, none, some}
use Prim.Native.Nat.{ℕ, zero, suc, ◌+◌, ◌-◌, ◌<◌}
use native.Mathlib.Omega.{arith}
use native.Mathlib.Nat.{add-zero}
use lib.ListN.{length, get_or, take, length-append, length-drop}
use lib.Seq.{take_at, get_or-drop}
use Rattle.meaning.specs.Basics.{is_some}
use Rattle.meaning.specs.Term.{one, size, Variable, NamedTerm}
use Rattle.meaning.specs.Scope.{nameless_term}
use Rattle.meaning.specs.Lower.{lower_term}
use Rattle.meaning.specs.Shift.{ClosedTerm}
use Rattle.meaning.specs.ClosedTest.{is_closed_variable, is_closed}
use Rattle.meaning.specs.Equal.{view, Equal}
use Rattle.meaning.specs.Field.{tag_of}
use Rattle.meaning.specs.Read.{Context}
use Rattle.meaning.specs.Readable.{Readable}
use Rattle.meaning.proofs.Lists.{T_true, true_T}
use Rattle.meaning.proofs.ShiftLaws.{test_closed, closed_test}
use Rattle.tokens.specs.Token.{token_of, depth_in, size_in, payload_of, tokens}
use Rattle.tokens.specs.Key.{keys, level_from, at, part, same_across, same_at, Inside, any_reaches, uses_at, closed_at, Held, Stands}
use Rattle.tokens.proofs.same.Laws.{alike_keys, keys_alike}
use Rattle.tokens.proofs.TokenParts.{depth_token, size_token, tokens_length, tag_room}
use Rattle.meaning.proofs.CompareLaws.{Ranked, readable_ranked, view_ranked}
use Rattle.tokens.proofs.Codes.{codes, codes_injective, keys_codes, readable_coded}
use Rattle.tokens.proofs.Reaching.{all_variables, closed_all, sinks, Told, tokens_reach, told_closed, told_sinks, lower_term_lem}

no_some : {A : Type 0} (o : Option A) → (not (is_some o) ≡ true) ↔ (o ≡ none)
no_some {A} none = (λ e. refl, λ e. refl)
no_some {A} (some a) = (λ e. absurd (false≢true e), λ e. let z : ◌≡◌ {A = ℕ} 0 1 = cc in absurd (omega arith))

-- One term
term_codes : (levels : ℕ) (ctx : Context) (sc : List ℕ) (t : NamedTerm) → Held levels ctx sc t
    → keys (length sc) (tokens sc (one t)) ≡ codes (view (level_from sc) (one (nameless_term sc t)))
term_codes levels ctx sc t h = keys_codes sc 0 levels ctx sc (one t) (omega arith) h.readable h.depths h.sizes

term_ranked : (levels : ℕ) (ctx : Context) (sc : List ℕ) (t : NamedTerm) → Held levels ctx sc t
    → Ranked (view (level_from sc) (one (nameless_term sc t)))
term_ranked levels ctx sc t h = view_ranked (level_from sc) 0 (one (nameless_term sc t)) (readable_ranked levels ctx sc (one t) h.readable)

-- A term in a table
pub some_levels : (levels : ℕ) (ctx : Context) (t : NamedTerm) → Readable levels ctx (one t) → 0 < levels
some_levels zero ctx t r = absurd r
some_levels (suc levels) ctx t r = omega arith

module _ (levels : ℕ) (ctx : Context) (table : List ℕ) (a : ℕ) (sc : List ℕ) (t : NamedTerm) (h : Held levels ctx sc t)
    (s : Stands table a sc t) where
  stands_at : at table a ≡ token_of (tag_of t.0) (length sc) (size (one t)) (payload_of sc t.0)
  unfolding tokens
  stands_at =
      let z : suc (size t.1) ≡ size (one t) = omega arith in
      sym (ap (at table) (add-zero a)) ∙ sym (get_or-drop a table 0 0) ∙ ap (λ (xs : List ℕ). get_or xs 0 0) s.split
      ∙ ap (λ (n : ℕ). token_of (tag_of t.0) (length sc) n (payload_of sc t.0)) z

  root_room : length sc < 256
  root_room = omega (arith, h.depths, some_levels levels ctx t h.readable)

  pub stands_depth : depth_in (at table a) ≡ length sc
  stands_depth =
      ap depth_in stands_at
      ∙ depth_token (tag_of t.0) (length sc) (size (one t)) (payload_of sc t.0) (tag_room t.0) root_room

  pub stands_size : size_in (at table a) ≡ size (one t)
  stands_size =
      ap size_in stands_at
      ∙ size_token (tag_of t.0) (length sc) (size (one t)) (payload_of sc t.0) (tag_room t.0) root_room h.sizes

  pub stands_part : part table a ≡ tokens sc (one t)
  stands_part = ap₂ take stands_size s.split ∙ take_at (tokens sc (one t)) s.after (size (one t)) (tokens_length sc (one t))

  pub stands_keys : keys (depth_in (at table a)) (part table a) ≡ keys (length sc) (tokens sc (one t))
  stands_keys = ap₂ keys stands_depth stands_part

  stands_uses : (p : ℕ → Variable → Bool) (d : ℕ) → Told p d (length sc)
      → uses_at table a d ≡ not (all_variables p 0 (one (nameless_term sc t)))
  unfolding uses_at
  stands_uses p d told =
      ap₂ (any_reaches d) stands_depth stands_part
      ∙ tokens_reach p d (length sc) told 0 levels ctx sc (one t) (omega arith) h.readable h.depths h.sizes

-- Main theorems

-- Equal keys are equal views
pub keys_equal : (levels levels' : ℕ) (ctx ctx' : Context) (sc sc' : List ℕ) (t u : NamedTerm) → Held levels ctx sc t
    → Held levels' ctx' sc' u
    → (keys (length sc) (tokens sc (one t)) ≡ keys (length sc') (tokens sc' (one u)))
    ↔ Equal (level_from sc) (level_from sc') (nameless_term sc t) (nameless_term sc' u)
keys_equal levels levels' ctx ctx' sc sc' t u h h' = (
  λ e.
      codes_injective (view (level_from sc) (one (nameless_term sc t))) (view (level_from sc') (one (nameless_term sc' u))) refl
      (term_ranked levels ctx sc t h)
      (term_ranked levels' ctx' sc' u h')
      (readable_coded sc 0 levels ctx sc (one t) h.readable)
      (readable_coded sc' 0 levels' ctx' sc' (one u) h'.readable)
      (sym (term_codes levels ctx sc t h) ∙ e ∙ term_codes levels' ctx' sc' u h'),
  λ e. term_codes levels ctx sc t h ∙ ap codes e ∙ sym (term_codes levels' ctx' sc' u h'),
)

module _ (levels : ℕ) (ctx : Context) (table : List ℕ) (a : ℕ) (sc : List ℕ) (t : NamedTerm) (h : Held levels ctx sc t)
    (s : Stands table a sc t) where
  -- What the functions of `same` ask of a node
  pub stands_inside : Inside table a
  stands_inside =
      let n : length table - a ≡ size (one t) + length s.after =
      sym (length-drop a table) ∙ ap length s.split ∙ length-append (tokens sc (one t)) s.after
      ∙ ap (λ (m : ℕ). m + length s.after) (tokens_length sc (one t)) in
      let z = stands_size levels ctx table a sc t h s in
      record { starts = omega arith; ends = omega arith }

  -- What `closed_at` says
  pub closed_means : (closed_at table a ≡ true) ↔ ClosedTerm (nameless_term sc t)
  unfolding closed_at
  closed_means =
      let e : closed_at table a ≡ is_closed 0 (one (nameless_term sc t)) =
      ap not (stands_uses levels ctx table a sc t h s is_closed_variable 0 (told_closed (length sc))) ∙ not-not _
      ∙ sym (closed_all 0 (one (nameless_term sc t))) in
      (λ q. test_closed 0 (one (nameless_term sc t)) (true_T (sym e ∙ q)), λ q. e ∙ T_true (closed_test 0 (one (nameless_term sc t)) q))

  -- What `uses_at` says
  pub uses_means : (d : ℕ) → (uses_at table a d ≡ true) ↔ (lower_term (length sc - d) (nameless_term sc t) ≡ none)
  uses_means d =
      let e : uses_at table a d ≡ not (is_some (lower_term (length sc - d) (nameless_term sc t))) =
      stands_uses levels ctx table a sc t h s (sinks (length sc - d)) d (told_sinks d (length sc))
      ∙ sym (ap not (lower_term_lem (length sc - d) (nameless_term sc t))) in
      let n = no_some (lower_term (length sc - d) (nameless_term sc t)) in
      (λ q. n.0 (sym e ∙ q), λ q. e ∙ n.1 q)

-- What `same_across` answers, and `same`
pub across_means : (levels levels' : ℕ) (ctx ctx' : Context) (table table' : List ℕ) (a b : ℕ) (sc sc' : List ℕ) (t u : NamedTerm)
    → Held levels ctx sc t
    → Held levels' ctx' sc' u → Stands table a sc t → Stands table' b sc' u
    → (same_across table a table' b ≡ true) ↔ Equal (level_from sc) (level_from sc') (nameless_term sc t) (nameless_term sc' u)
unfolding same_across
across_means levels levels' ctx ctx' table table' a b sc sc' t u h h' s s' =
    let p = stands_keys levels ctx table a sc t h s in
    let q = stands_keys levels' ctx' table' b sc' u h' s' in
    let e = keys_equal levels levels' ctx ctx' sc sc' t u h h' in
    let d = depth_in (at table a) in
    let d' = depth_in (at table' b) in (
      λ r. e.0 (sym p ∙ alike_keys d d' (part table a) (part table' b) r ∙ q),
      λ r. keys_alike d d' (part table a) (part table' b) (p ∙ e.1 r ∙ sym q),
    )

pub same_means : (levels levels' : ℕ) (ctx ctx' : Context) (table : List ℕ) (a b : ℕ) (sc sc' : List ℕ) (t u : NamedTerm)
    → Held levels ctx sc t
    → Held levels' ctx' sc' u → Stands table a sc t → Stands table b sc' u
    → (same_at table a b ≡ true) ↔ Equal (level_from sc) (level_from sc') (nameless_term sc t) (nameless_term sc' u)
same_means levels levels' ctx ctx' table a b = across_means levels levels' ctx ctx' table table a b
