-- What a field says of the entry that it means: a body that was read is a body of one place, a value an expression, and both
-- are closed.
use mathlib.Core.Path.{◌≡◌, refl, ap, ap₂, sym, ◌∙◌}
use Prim.Native.Nat.{ℕ, zero, suc, ◌<◌}
use mathlib.Core.Bool.{Bool, true, ◌&&◌, ◌||◌}
use mathlib.Core.List.{List, [], ◌∷◌}
use native.Mathlib.Omega.{arith}
use borrow.Author.Tests.{lt-ltb}
use Rattle.meaning.specs.Limits.{max_depth}
use Rattle.meaning.specs.Term.{Forest, nil, cons, one, symbol, variable, application, binder, own, slot, metavariable, function, hole}
use Rattle.meaning.specs.Term.{Named, NamedTerm}
use Rattle.meaning.specs.Scope.{nameless, nameless_term}
use Rattle.meaning.specs.Filling.{Entry, absent, left_open, value, body}
use Rattle.meaning.specs.Read.{Context, in_expression, in_body, context_below}
use Rattle.meaning.specs.Readable.{Readable, MetavariableAt, FunctionAt, HoleAt}
use Rattle.meaning.specs.Text.{meant}
use Rattle.meaning.specs.Passing.{is_body, is_whole, is_body_entry, is_value_entry, is_open, is_absent}
use Rattle.meaning.proofs.Lists.{never, T_true}
use Rattle.meaning.proofs.ShiftLaws.{closed_test}
use Rattle.meaning.proofs.ViewLaws.{nameless_closed}
use Rattle.std.specs.Prelude.{Option}
use Rattle.said.specs.Said.{HeldAs}
use Rattle.said.specs.declared.Field.{Field}
use Rattle.entries.specs.Fields.{unsaid, says_value, says_body, says_open}

-- A term that was read where only holes may stand besides an expression's own nodes, and these for one of n places
module _ (n : ℕ) (ctx : Context) (no_metavariable : MetavariableAt ctx → ⊥) (no_function : FunctionAt ctx → ⊥)
    (holes : HoleAt ctx → 0 < n) where
  readable_body : (levels : ℕ) (sc : List ℕ) (u : Forest Named) → Readable levels ctx u → is_body n (nameless sc u) ≡ true
  unfolding context_below
  readable_body levels sc nil h = refl
  readable_body zero sc (cons l c s) h = absurd h
  readable_body (suc levels) sc (cons (own (symbol k)) c s) h =
      ap₂ ◌&&◌ (readable_body levels sc c h.1) (readable_body (suc levels) sc s h.2)
  readable_body (suc levels) sc (cons (own (variable x)) c s) h =
      ap₂ ◌&&◌ (readable_body levels sc c h.1) (readable_body (suc levels) sc s h.2)
  readable_body (suc levels) sc (cons (own (application k)) c s) h =
      ap₂ ◌&&◌ (readable_body levels sc c h.1) (readable_body (suc levels) sc s h.2)
  readable_body (suc levels) sc (cons (own (binder b x)) c s) h =
      ap₂ ◌&&◌ (readable_body levels (x ∷ sc) c h.1) (readable_body (suc levels) sc s h.2)
  readable_body (suc levels) sc (cons (slot (metavariable m)) c s) h = absurd (no_metavariable h.0.0)
  readable_body (suc levels) sc (cons (slot (function f k)) c s) h = absurd (no_function h.0.0)
  readable_body (suc levels) sc (cons (slot (hole i)) nil s) h =
      let small : i < n = omega (arith, holes h.0.0, h.0.1) in
      ap₂ ◌&&◌ (lt-ltb i n small) (readable_body (suc levels) sc s h.2)
  readable_body (suc levels) sc (cons (slot (hole i)) (cons l d e) s) h = never (cc h.0.2)

  readable_whole : (t : NamedTerm) → Readable max_depth ctx (one t) → is_whole n (nameless_term [] t) ≡ true
  readable_whole t r =
      ap₂ ◌&&◌ (readable_body max_depth [] (one t) r) (T_true (closed_test 0 (nameless [] (one t)) (nameless_closed [] (one t))))

-- x is what a text says, and f what is held for it
module _ (table : List ℕ) where
  pub absent_held : (x : Entry NamedTerm) (f : Option Field) → HeldAs table x f → unsaid f ≡ is_absent (meant x)
  absent_held absent f h = ap unsaid h
  absent_held left_open f h = ap unsaid h
  absent_held (value t) f h = ap unsaid h.1
  absent_held (body t) f h = ap unsaid h.1

  pub open_held : (x : Entry NamedTerm) (f : Option Field) → HeldAs table x f → says_open f ≡ is_open (meant x)
  open_held absent f h = ap says_open h
  open_held left_open f h = ap says_open h
  open_held (value t) f h = ap says_open h.1
  open_held (body t) f h = ap says_open h.1

  pub body_held : (x : Entry NamedTerm) (f : Option Field) → HeldAs table x f → says_body f ≡ is_body_entry 1 (meant x)
  body_held absent f h = ap says_body h
  body_held left_open f h = ap says_body h
  body_held (value t) f h = ap says_body h.1
  body_held (body t) f h =
      ap says_body h.1 ∙ sym (readable_whole 1 in_body (λ z. z) (λ z. z) (λ z. omega arith) t h.2.held.readable)

  abbrev value_or_open : Option Field → Bool
  value_or_open f = says_value f || says_open f

  pub value_held : (x : Entry NamedTerm) (f : Option Field) → HeldAs table x f → says_value f || says_open f ≡ is_value_entry (meant x)
  value_held absent f h = ap value_or_open h
  value_held left_open f h = ap value_or_open h
  value_held (value t) f h =
      ap value_or_open h.1 ∙ sym (readable_whole 0 in_expression (λ z. z) (λ z. z) (λ z. absurd z) t h.2.held.readable)
  value_held (body t) f h = ap value_or_open h.1
