-- A term before its inner fields: what the code finds in it is what document 01's reading says of it.
--   open-..     the returns of `open_term`
use Prim.Native.Nat.{ℕ, zero, suc, ◌+◌, ◌-◌, ◌≤◌}
use mathlib.Core.Path.{◌≡◌, refl, sym, ap, ◌∙◌}
use mathlib.Core.List.{List}
use native.Mathlib.Omega.{arith}
use native.Mathlib.Nat.{add-sub_cancel_left}
use lib.ListN.{length, take, drop, length-drop}
use lib.Seq.{drop-drop}
use borrow.Author.Tests.{eq-eqb}
use Rattle.meaning.specs.Term.{Forest, nil, Named, NamedTerm, trees}
use Rattle.meaning.specs.Basics.{Bytes}
use Rattle.meaning.specs.Field.{symbol_bytes}
use Rattle.meaning.specs.Read.{Answer, refused, got, after, Context, in_argument, Head, head_of, content_of, Reader}
use Rattle.meaning.specs.Read.{context_below, read_exactly, read_content, read_term}
use Rattle.fields.specs.Heads.{label_of, fixed_of, due_of, content_with, read_fields, kind_from, HeadDone, DueFits, ContentDone}
use Rattle.fields.specs.Heads.{open_read, OpenDone}
use Rattle.std.proofs.Common.{Ok, Err}
use Rattle.refusal.specs.Number.{number}
use Rattle.refusal.specs.declared.Refusal.{Refusal}
use Rattle.refusal.specs.declared.Refusal.TheVariants.{TooDeep}
use Rattle.fields.specs.declared.field.Head as code
use Rattle.fields.specs.declared.node.Node.{Node}
use Rattle.fields.specs.declared.node.Node.TheVariants as nodes
use Rattle.fields.specs.declared.node.Due.{Due}
use Rattle.fields.specs.declared.node.Due.TheVariants as dues
use Rattle.slices.proofs.Slices.{positive, drop_take, part_length}

-- A node's inner fields
after_after : {A B C : Type 0} (a : Answer A) (f : A → Answer B) (g : B → Answer C) → after (after a f) g ≡ after a (λ x. after (f x) g)
after_after (refused r) f g = refl
after_after (got x) f g = refl

none_due : (read : Reader) (c : Bytes) (k : ℕ) → length c ≡ k → read_exactly 0 read (drop k c) ≡ got nil
unfolding read_exactly
none_due read c k h = let z : length (drop k c) ≡ 0 = simp length-drop (omega arith) in rw (eq-eqb (length (drop k c)) 0 z)

-- A term is read through its list of inner fields, whatever its tag
content_fields : (read : Context → Reader) (ctx : Context) (n : Node) (c : Bytes) → DueFits (due_of n) (fixed_of n) (length c)
    → read_content read ctx (content_with n c)
    ≡ after (read_fields (due_of n) (read (context_below (label_of n 0) ctx)) (drop (fixed_of n) c)) (λ f. got (label_of n (trees f), f))
unfolding content_with read_fields context_below
content_fields read ctx (nodes.Symbol x) c h = rw (none_due (read ctx) c (length (symbol_bytes x.0)) h)
content_fields read ctx (nodes.Variable x) c h = rw (none_due (read ctx) c 2 h)
content_fields read ctx nodes.Application c h = refl
content_fields read ctx (nodes.Binder b x) c h = refl
content_fields read ctx (nodes.Metavariable m) c h = rw (none_due (read in_argument) c 1 h)
content_fields read ctx (nodes.Function m) c h = refl
content_fields read ctx nodes.Hole c h = rw (none_due (read in_argument) c 0 h)

part_at : (a n : ℕ) (s : List ℕ) → drop a (take n (drop 3 s)) ≡ take (3 + n - (3 + a)) (drop (3 + a) s)
part_at a n s =
    let w : n - a ≡ 3 + n - (3 + a) = omega arith in
    drop_take a n (drop 3 s) ∙ rw (w, drop-drop a 3 s)

read_refused : (levels : ℕ) (ctx : Context) (s : Bytes) {r : ℕ} → head_of ctx s ≡ refused r → read_term levels ctx s ≡ refused r
unfolding read_term
read_refused zero ctx s e = rw e
read_refused (suc levels) ctx s e = rw e

read_deep : (levels : ℕ) (ctx : Context) (s : Bytes) {h : Head} → head_of ctx s ≡ got h → levels ≡ 0 → read_term levels ctx s ≡ refused 5
unfolding read_term
read_deep levels ctx s e z = rw (z, read_term, e)

read_content_lem : (levels : ℕ) (ctx : Context) (s : Bytes) {h : Head} → head_of ctx s ≡ got h → (levels ≡ 0 → ⊥)
    → read_term levels ctx s
    ≡ after (content_of h.kind h.content) (λ c. after (read_content (read_term (levels - 1)) ctx c) (λ t. got (t, h.later)))
unfolding read_term
read_content_lem zero ctx s e z = absurd (z refl)
read_content_lem (suc levels) ctx s e z = let w : suc levels - 1 ≡ levels = omega arith in rw (w, e)

due_fixed : (d : Due) (fixed k : ℕ) → DueFits d fixed k → fixed ≤ k
due_fixed dues.All fixed k h = h
due_fixed (dues.Exactly zero) fixed k h = omega arith
due_fixed (dues.Exactly (suc n)) fixed k h = h

-- A term before its inner fields
module _ (levels : ℕ) (ctx : Context) (s : Bytes) where
  pub open_refused : {r : Refusal} → HeadDone ctx s (Err r) → OpenDone levels ctx s (Err r)
  unfolding open_read
  open_refused h = record { says = read_refused levels ctx s (sym h.says); fits = tt }

  pub open_deep : {head : code.Head} → HeadDone ctx s (Ok head) → levels ≡ 0 → OpenDone levels ctx s (Err TooDeep)
  unfolding open_read
  open_deep h z = record { says = read_deep levels ctx s (sym h.says) z; fits = tt }

  pub open_broken : {head : code.Head} {r : Refusal} → HeadDone ctx s (Ok head) → (levels ≡ 0 → ⊥)
      → ContentDone (kind_from head.kind) (take (3 + head.length - 3) (drop 3 s)) (Err r) → OpenDone levels ctx s (Err r)
  unfolding open_read
  open_broken {head} {r} h z c =
      let e : refused (number r) ≡ content_of (kind_from head.kind) (take head.length (drop 3 s)) = rw (add-sub_cancel_left 3 head.length) at c.says in
      record { says = read_content_lem levels ctx s (sym h.says) z ∙ rw (← e); fits = tt }

  pub open_node_lem : {head : code.Head} (node : Node) → HeadDone ctx s (Ok head) → (levels ≡ 0 → ⊥)
      → ContentDone (kind_from head.kind) (take (3 + head.length - 3) (drop 3 s)) (Ok node)
      → OpenDone levels ctx s (Ok (record { node = node; end = 3 + head.length }))
  unfolding open_read
  open_node_lem {head} node h z c =
      let inner : Answer (Forest Named) =
      read_fields (due_of node) (read_term (levels - 1) (context_below (label_of node 0) ctx)) (drop (fixed_of node) (take head.length (drop 3 s))) in
      let e : got (content_with node (take head.length (drop 3 s))) ≡ content_of (kind_from head.kind) (take head.length (drop 3 s)) =
      rw (add-sub_cancel_left 3 head.length) at c.says in
      let d : DueFits (due_of node) (fixed_of node) (length (take head.length (drop 3 s))) = rw (add-sub_cancel_left 3 head.length) at c.fits in
      record {
        says =
            read_content_lem levels ctx s (sym h.says) z
            ∙ rw (← e) refl
            ∙ ap (λ (x : Answer NamedTerm). after x (λ t. got (t, drop (3 + head.length) s)))
            (content_fields (read_term (levels - 1)) ctx node (take head.length (drop 3 s)) d)
            ∙ after_after inner (λ f. got (label_of node (trees f), f)) (λ t. got (t, drop (3 + head.length) s))
            ∙ rw (part_at (fixed_of node) head.length s) refl;
        fits = record {
          deep = positive levels z;
          start =
              omega (
                arith,
                due_fixed (due_of node) (fixed_of node) (length (take head.length (drop 3 s))) d,
                rw (add-sub_cancel_left 3 head.length) at (part_length 3 (3 + head.length) s (omega arith) h.fits.within),
              );
          within = h.fits.within;
          short = omega (arith, h.fits.short);
        };
      }
