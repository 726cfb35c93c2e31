-- What `holed` asks and answers: the bodies of a text lie in its table; the functions whose body, as the text says it, has a hole.
use mathlib.Core.Path.{◌≡◌, refl, ap, ap₂, sym, ◌∙◌, subst}
use Prim.Native.Nat.{ℕ, zero, suc}
use mathlib.Core.Bool.{Bool, ◌||◌}
use mathlib.Core.List.{List, []}
use lib.Dec.{eqb}
use borrow.Author.Tests.{eq-eqb}
use Rattle.meaning.specs.Limits.{max_depth}
use Rattle.meaning.specs.Term.{Forest, nil, cons, one, symbol, variable, application, binder, own, slot, metavariable, function, hole}
use Rattle.meaning.specs.Term.{Named, NamedTerm, Terms}
use Rattle.meaning.specs.Scope.{enter, nameless, nameless_label}
use Rattle.meaning.specs.Field.{tag_of}
use Rattle.meaning.specs.Filling.{Entry, absent, left_open, value, body, body_or}
use Rattle.meaning.specs.Read.{Context, in_body, context_below}
use Rattle.meaning.specs.Readable.{NodeFits, Readable}
use Rattle.meaning.specs.Solution.{has_hole}
use Rattle.meaning.specs.Text.{Item, meant}
use Rattle.meaning.proofs.Lists.{never}
use Rattle.tokens.specs.Token.{tag_in, tokens}
use Rattle.tokens.specs.Key.{Inside}
use Rattle.tokens.proofs.KeyLaws.{stands_part, stands_inside}
use Rattle.tokens.proofs.ProblemTokens.{tag_at, Room, room_depth, room_size, room_below, room_later}
use Rattle.said.specs.declared.Said.{Said}
use Rattle.std.specs.Prelude.{Option}
use Rattle.std.proofs.lemmas.List.Folds.{list_any-append}
use Rattle.said.specs.Said.{item_of, field_of, HeldAs, SaidBy}
use Rattle.said.specs.declared.Field.{Field}
use Rattle.entries.specs.Holes.{any_hole, field_holed, BodyIn, Bodied}

-- One node; the hole of a readable term is that of place 0
label_hole : (ctx : Context) (sc : List ℕ) (l : Named) (c : Forest Named) (u v : Terms) → NodeFits ctx l c
    → eqb (tag_of l) 10 || (has_hole 0 u || has_hole 0 v) ≡ has_hole 0 (cons (nameless_label sc l) u v)
label_hole ctx sc (own (symbol n)) c u v f = refl
label_hole ctx sc (own (variable x)) c u v f = refl
label_hole ctx sc (own (application n)) c u v f = refl
label_hole ctx sc (own (binder b x)) c u v f = refl
label_hole ctx sc (slot (metavariable m)) c u v f = refl
label_hole ctx sc (slot (function g n)) c u v f = refl
label_hole ctx sc (slot (hole i)) c u v f = sym (ap (λ (b : Bool). b || (has_hole 0 u || has_hole 0 v)) (eq-eqb 0 i (sym f.1)))

abbrev is_hole : ℕ → Bool
is_hole x = eqb (tag_in x) 10

tokens_hole : (levels : ℕ) (ctx : Context) (sc : List ℕ) (u : Forest Named) → Readable levels ctx u → Room levels sc u
    → any_hole (tokens sc u) ≡ has_hole 0 (nameless sc u)
unfolding tokens
tokens_hole levels ctx sc nil r m = refl
tokens_hole zero ctx sc (cons l c s) r m = absurd r
tokens_hole (suc levels) ctx sc (cons l c s) r m =
    ap₂ (λ (t : ℕ) (b : Bool). eqb t 10 || b) (tag_at sc l c (room_depth levels sc l c s m) (room_size levels sc l c s m))
    (list_any-append is_hole (tokens (enter l sc) c) (tokens sc s)
    ∙ ap₂ ◌||◌ (tokens_hole levels (context_below l ctx) (enter l sc) c r.1 (room_below levels sc l c s m))
    (tokens_hole (suc levels) ctx sc s r.2 (room_later levels sc l c s m)))
    ∙ label_hole ctx sc l c (nameless (enter l sc) c) (nameless sc s) r.0

-- A metavariable m with its entry x, and f what is held for it
pub entry_holed : (ts : List ℕ) (m : ℕ) (x : Entry NamedTerm) (f : Option Field) → HeldAs ts x f
    → field_holed ts f ≡ has_hole 0 (one (body_or m (meant x)))
entry_holed ts m absent f h = ap (field_holed ts) h
entry_holed ts m left_open f h = ap (field_holed ts) h
entry_holed ts m (value t) f h = ap (field_holed ts) h.1
entry_holed ts m (body t) f h =
    ap (field_holed ts) h.1
    ∙ ap any_hole (stands_part max_depth in_body ts h.0 [] t h.2.held h.2.stands)
    ∙ tokens_hole max_depth in_body [] (one t) h.2.held.readable (record { depths = h.2.held.depths; sizes = h.2.held.sizes })

-- What `holed` asks of a text that was read
body_inside : (ts : List ℕ) (x : Entry NamedTerm) (f : Option Field) → HeldAs ts x f → BodyIn ts f
body_inside ts absent f h = record { inside = λ n e. never (cc) }
body_inside ts left_open f h = record { inside = λ n e. never (cc) }
body_inside ts (value t) f h = record { inside = λ n e. never (let q = h.1 in cc) }
body_inside ts (body t) f h = record {
  inside = λ n e.
      let q = h.1 in
      let z : h.0 ≡ n = cc in
      subst (Inside ts) z (stands_inside max_depth in_body ts h.0 [] t h.2.held h.2.stands);
}

pub said_bodied : (ts : List ℕ) (is : List Item) (s : Said) → SaidBy ts is s → Bodied ts s
said_bodied ts is s w = record { bodies = λ m h. body_inside ts (item_of is m) (field_of s m) (w.fields m h) }
