-- The fixed part of a node, by the tag of its token; how long it is; and that it is the one of the node's label.
--   Node    a node of an expression, in its scope, that the table has room for
use mathlib.Core.Path.{◌≡◌, refl, ap, ap₂, sym, ◌∙◌}
use Prim.Native.Nat.{ℕ, suc, ◌+◌, ◌*◌, ◌/◌, ◌%◌, ◌<◌, ◌≤◌}
use native.Mathlib.Omega.{arith}
use mathlib.Core.List.{List, [], ◌++◌, append_assoc}
use mathlib.Core.Bool.{Bool, true, false}
use lib.ListN.{length, length-append}
use lib.Dec.{eqb}
use borrow.Author.Tests.{ne_eqb}
use Rattle.meaning.specs.Basics.{Bytes, choose}
use Rattle.meaning.specs.Term.{Forest, Named, symbol, variable, application, binder, own, slot, metavariable, function, hole, size}
use Rattle.meaning.specs.Field.{word, field, symbol_bytes, tag_of, fixed_part}
use Rattle.meaning.specs.Read.{in_expression}
use Rattle.meaning.specs.Readable.{NodeFits}
use Rattle.meaning.proofs.ByteLaws.{by_width, narrow_two, wide_four}
use Rattle.tokens.specs.Token.{tag_in, payload_in, level_of, payload_of}
use Rattle.tokens.specs.Key.{lower_half, upper_half}
use Rattle.tokens.proofs.ProblemTokens.{token_at, tag_at, payload_at}
use Rattle.copying.specs.Fixed.{number_in, numbers_in, fixed_in, head_in, a_hole}

-- The fixed part by the tag
module _ (x g : ℕ) (is-tag : g ≡ tag_in x) where
  pub fixed_symbol : g ≡ 1 → fixed_in x ≡ symbol_bytes (payload_in x)
  unfolding fixed_in
  fixed_symbol e = let t : tag_in x ≡ 1 = sym is-tag ∙ e in rw t

  pub fixed_variable : g ≡ 2 → fixed_in x ≡ number_in x
  unfolding fixed_in
  fixed_variable e = let t : tag_in x ≡ 2 = sym is-tag ∙ e in rw t

  pub fixed_binder : g ≡ 4 → fixed_in x ≡ numbers_in x
  unfolding fixed_in
  fixed_binder e = let t : tag_in x ≡ 4 = sym is-tag ∙ e in rw t

  pub fixed_none : (g ≡ 1 → ⊥) → (g ≡ 2 → ⊥) → (g ≡ 4 → ⊥) → fixed_in x ≡ []
  unfolding fixed_in
  fixed_none a b d = rw (← is-tag) (simp (ne_eqb g 1 a, ne_eqb g 2 b, ne_eqb g 4 d))

-- How long it is
pub symbol_long : (x n : ℕ) → fixed_in x ≡ symbol_bytes (payload_in x) → n ≡ payload_in x → length (symbol_bytes n) ≡ length (fixed_in x)
symbol_long x n e p = rw (e, p)

pub number_long : (x : ℕ) → fixed_in x ≡ number_in x → 2 ≡ length (fixed_in x)
unfolding word
number_long x e = sym (ap length e)

pub numbers_long : (x : ℕ) → fixed_in x ≡ numbers_in x → 4 ≡ length (fixed_in x)
unfolding word
numbers_long x e = sym (ap length e)

pub none_long : (x : ℕ) → fixed_in x ≡ [] → 0 ≡ length (fixed_in x)
none_long x e = sym (ap length e)

choose_short : (b : Bool) (s t : Bytes) → length s ≤ 4 → length t ≤ 4 → length (choose b s t) ≤ 4
choose_short true s t h g = h
choose_short false s t h g = g

symbol_short : (n : ℕ) → length (symbol_bytes n) ≤ 4
symbol_short n = by_width n (λ h. omega (arith, narrow_two n h)) (λ h. omega (arith, wide_four n h))

pub fixed_short : (x : ℕ) → length (fixed_in x) ≤ 4
unfolding fixed_in word
fixed_short x =
    choose_short (eqb (tag_in x) 1) _ _ (symbol_short (payload_in x))
    (choose_short (eqb (tag_in x) 2) _ _ (omega arith) (choose_short (eqb (tag_in x) 4) _ _ (omega arith) (omega arith)))

-- The head and the fixed part, and a hole
pub hole_length : length a_hole ≡ 3
unfolding a_hole field word
hole_length = refl

pub head_length : (x n : ℕ) → length (head_in x n) ≡ 3 + length (fixed_in x)
unfolding head_in word
head_length x n = omega arith

-- A field whose tag and fixed part are the token's
pub node_headed : (x : ℕ) (l : Named) (b : Bytes) → tag_in x ≡ tag_of l → fixed_in x ≡ fixed_part l
    → field (tag_of l) (fixed_part l ++ b) ≡ head_in x (length b) ++ b
unfolding field head_in
node_headed x l b t f = rw (t, f, length-append (fixed_part l) b, append_assoc (word (length (fixed_part l) + length b)) (fixed_part l) b)

-- The fixed part of a node is the one of its label
module _ (sc : List ℕ) (l : Named) (c : Forest Named) where
  pub record Node : Type 0 where
    pub fits : NodeFits in_expression l c
    pub deep : length sc < 256
    pub small : suc (size c) < 65536

pub fixed_said : (sc : List ℕ) (l : Named) (c : Forest Named) → Node sc l c → fixed_in (token_at sc l c) ≡ fixed_part l
unfolding payload_of
fixed_said sc l c h = go l h.fits (sym (tag_at sc l c h.deep h.small)) (payload_at sc l c h.deep h.small)
  where
    go : (m : Named) → NodeFits in_expression m c → tag_of m ≡ tag_in (token_at sc l c) → payload_in (token_at sc l c) ≡ payload_of sc m
        → fixed_in (token_at sc l c) ≡ fixed_part m
    go (own (symbol n)) f t p = fixed_symbol (token_at sc l c) 1 t refl ∙ ap symbol_bytes p
    go (own (variable x)) f t p =
        let e : (x + 65536 * level_of sc x) % 65536 ≡ x = let small = f.0 in omega arith in
        fixed_variable (token_at sc l c) 2 t refl ∙ ap (λ (k : ℕ). word (lower_half k)) p ∙ ap word e
    go (own (application n)) f t p =
        fixed_none (token_at sc l c) 3 t (λ e. omega arith) (λ e. omega arith) (λ e. omega arith)
    go (own (binder b x)) f t p =
        let e : (b + 65536 * x) % 65536 ≡ b = let small = f.0 in omega arith in
        let d : (b + 65536 * x) / 65536 ≡ x = let small = f.0 in omega arith in
        fixed_binder (token_at sc l c) 4 t refl ∙ ap (λ (k : ℕ). word (lower_half k) ++ word (upper_half k)) p
        ∙ ap₂ (λ (i j : ℕ). word i ++ word j) e d
    go (slot (metavariable m)) f t p = absurd f.0
    go (slot (function m n)) f t p = absurd f.0
    go (slot (hole i)) f t p = absurd f.0
