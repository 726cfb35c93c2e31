-- What `copy_term` and `copy_terms` owe each other at each call, and what they leave at each return.
--   Copying   what the loop of `copy_terms` keeps: the terms from `node` up to `next` are written, n bytes; with those from `next` on
--             they are all up to `to`
use mathlib.Core.Path.{◌≡◌, refl, ap, ◌∙◌}
use Prim.Native.Nat.{ℕ, suc, ◌+◌, ◌-◌, ◌*◌, ◌<◌, ◌≤◌}
use native.Mathlib.Omega.{arith}
use mathlib.Core.Bool.{true, false}
use mathlib.Core.List.{List, ◌++◌}
use borrow.Rule.Slice.PartMut.{put_mid, same_len_mid}
use lib.ListN.{length, take, drop, length-append}
use Rattle.meaning.specs.Basics.{Bytes}
use Rattle.meaning.specs.Term.{Forest, Named, NamedTerm, cons, nil, one, size}
use Rattle.tokens.specs.Token.{size_in}
use Rattle.tokens.specs.Key.{at}
use Rattle.slices.proofs.Slices.{part_length}
use Rattle.bodies.specs.Marked.{marked}
use Rattle.copying.specs.Fixed.{NodeRoom, NodeWrote, Wrote, a_hole, fixed_in, head_in}
use Rattle.copying.specs.Copied.{Copied, CopiedTerm, CopiedTerms, Copyable, TermCopyable, TermsCopyable, Spans, TermIn, copied, copied_from}
use Rattle.copying.proofs.FixedLaws.{head_length, hole_length}
use Rattle.copying.proofs.WriteLaws.{Part, headed, part_ends, part_goes, part_long}
use Rattle.copying.proofs.CopiedBytes.{copied_none, first_bytes, hole_bytes}
use Rattle.copying.proofs.SpanLaws.{span_first, span_later, span_none, term_below, term_bytes, term_long, term_size}

-- Numbers of nodes, counted from the copied term's
next_node : (from node : ℕ) → from ≤ node → node + 1 - from ≡ suc (node - from)
next_node from node h = omega arith

later_node : {es : List ℕ} {node : ℕ} {t : NamedTerm} (from m : ℕ) → TermIn es node t → from ≤ node → m ≡ size_in (at es node)
    → node + m - from ≡ suc (node - from) + size t.1
later_node from m there h is_m = omega (arith, term_size there)

-- `copy_term`
module _ {es : List ℕ} {from mask node room : ℕ} (h : TermCopyable es from mask node room) where
  pub hole_room : marked mask (node - from) ≡ true → 3 ≤ room
  hole_room e = omega (arith, h.fits, ap length (hole_bytes mask (node - from) h.term.0 h.term.1 e), hole_length)

  module _ (e : marked mask (node - from) ≡ false) where
    long : length (copied_from mask (node - from) (one h.term))
        ≡ 3 + length (fixed_in (at es node)) + length (copied_from mask (node + 1 - from) h.term.1)
    long = rw (next_node from node h.begins) (term_long h.there mask (node - from) e)

    pub inner_room : {f : ℕ} → f ≡ length (fixed_in (at es node)) → 3 + f ≤ room
    inner_room is_f = omega (arith, h.fits, long)

    module _ {m : ℕ} (is_m : m ≡ size_in (at es node)) where
      pub inner_less : 2 * (node + m - (node + 1)) + 1 < 2 * size_in (at es node)
      inner_less = omega (arith, term_size h.there)

      pub inner_copies : {f : ℕ} (o : Bytes) → length o ≡ room → f ≡ length (fixed_in (at es node))
          → TermsCopyable es from mask (node + 1) (node + m) (length (take (length o - (3 + f)) (drop (3 + f) o)))
      inner_copies {f} o same is_f =
          let n = inner_room is_f in
          record {
            terms = h.term.1;
            there = term_below h.there m is_m;
            begins = omega (arith, h.begins);
            fits = omega (arith, long, h.fits, part_length (3 + f) (length o) o (omega arith) (omega arith));
            short = omega (arith, long, h.short);
          }

      pub node_room : {x y : Bytes} {n : ℕ} (p : Bytes) → length p ≡ room → CopiedTerms es from mask (node + 1) (node + m) x y n
          → NodeRoom (at es node) n p
      node_room p same w =
          let k = (w.wrote h.term.1 (term_below h.there m is_m)).0 in
          record { room = omega (arith, long, h.fits); counted = omega (arith, long, h.short) }

pub term_hole : {es : List ℕ} {from mask node r : ℕ} {o o' : Bytes} → marked mask (node - from) ≡ true → Wrote a_hole o o' r
    → CopiedTerm es from mask node o o' r
term_hole {from} {mask} {node} e w = record { wrote = λ t there. rw (hole_bytes mask (node - from) t.0 t.1 e) w }

pub term_copied : {es : List ℕ} {from mask node f m n r : ℕ} {o o' y : Bytes} → from ≤ node → marked mask (node - from) ≡ false
    → f ≡ length (fixed_in (at es node)) → m ≡ size_in (at es node) → 3 + f ≤ length o
    → CopiedTerms es from mask (node + 1) (node + m) (take (length o - (3 + f)) (drop (3 + f) o)) y n
    → NodeWrote (at es node) n (put_mid (3 + f) (length o - (3 + f)) o y) o' r → CopiedTerm es from mask node o o' r
term_copied {es} {from} {mask} {node} {f} {m} {n} {r} {o} {o'} {y} begins e is_f is_m room inner w = record { wrote = go }
  where
    go : (t : NamedTerm) → TermIn es node t → Wrote (copied_from mask (node - from) (one t)) o o' r
    go t there =
        let b : Bytes = copied_from mask (suc (node - from)) t.1 in
        let v : Wrote b (take (length o - (3 + f)) (drop (3 + f) o)) y n =
        rw (next_node from node begins) at (inner.wrote t.1 (term_below there m is_m)) in
        rw (term_bytes there mask (node - from) e, ← v.0)
        (headed (head_in (at es node) n) b o y o' (3 + f) n r (rw is_f (head_length (at es node) n)) room v (rw is_f w.0)
        (w.1 ∙ rw is_f))

-- `copy_terms`: of several terms the first, of m nodes, and those after it
record First (es : List ℕ) (from mask node to m : ℕ) (u : Forest Named) : Type 0 where
  term : NamedTerm
  later : Forest Named
  there : TermIn es node term
  later_there : Spans es (node + m) to later
  bytes : copied_from mask (node - from) u ≡ copied_from mask (node - from) (one term) ++ copied_from mask (node + m - from) later

first_of : {es : List ℕ} {from node to : ℕ} (mask m : ℕ) (u : Forest Named) → Spans es node to u → from ≤ node → node < to
    → m ≡ size_in (at es node) → First es from mask node to m u
first_of mask m nil h begins more is_m = absurd (omega (arith, h.ends))
first_of {from} {node} mask m (cons l c s) h begins more is_m =
    record {
      term = (l, c);
      later = s;
      there = span_first h;
      later_there = span_later h m is_m;
      bytes = rw (later_node from m (span_first h) begins is_m) (first_bytes mask (node - from) l c s);
    }

-- Where its loop stands: of the terms u those in `rest` are left
pub record Left (es : List ℕ) (from mask node to next n : ℕ) (before out : Bytes) (u : Forest Named) : Type 0 where
  pub rest : Forest Named
  pub there : Spans es next to rest
  pub part : Part (copied_from mask (node - from) u) (copied_from mask (next - from) rest) n before out

pub record Copying (es : List ℕ) (from mask node to next n : ℕ) (before out : Bytes) : Type 0 where
  pub begins : node ≤ next
  pub same : length out ≡ length before
  pub written : (u : Forest Named) → Spans es node to u → Left es from mask node to next n before out u

module _ {es : List ℕ} {from mask node to next n : ℕ} {before out : Bytes} (w : Copying es from mask node to next n before out) where
  pub copying_ends : to ≤ next → CopiedTerms es from mask node to before out n
  copying_ends h = record { wrote = go }
    where
      go : (u : Forest Named) → Spans es node to u → Wrote (copied_from mask (node - from) u) before out n
      go u there =
          let l = w.written u there in
          part_ends l.part
          (ap (copied_from mask (next - from)) (span_none l.rest l.there h) ∙ copied_none mask (next - from))

  module _ (h : TermsCopyable es from mask node to (length before)) where
    left : Left es from mask node to next n before out h.terms
    left = w.written h.terms h.there

    pub written_inside : n ≤ length out
    written_inside = omega (arith, part_long left.part, h.fits, w.same)

    module _ (more : next < to) where
      next_begins : from ≤ next
      next_begins = omega (arith, h.begins, w.begins)

      next_term : First es from mask next to (size_in (at es next)) left.rest
      next_term = first_of mask (size_in (at es next)) left.rest left.there next_begins more refl

      next_long : n + length (copied_from mask (next - from) (one next_term.term))
          ≤ length (copied_from mask (node - from) h.terms)
      next_long =
          omega (
            arith,
            part_long left.part,
            ap length next_term.bytes,
            length-append (copied_from mask (next - from) (one next_term.term))
                (copied_from mask (next + size_in (at es next) - from) next_term.later),
          )

      pub next_nodes : (1 ≤ size_in (at es next)) × (next + size_in (at es next) ≤ to)
      next_nodes = (omega (arith, term_size next_term.there), omega (arith, next_term.later_there.ends))

      pub next_less : 2 * size_in (at es next) < 2 * (to - node) + 1
      next_less = omega (arith, next_nodes, w.begins)

      pub next_copies : TermCopyable es from mask next (length (take (length out - n) (drop n out)))
      next_copies =
          record {
            term = next_term.term;
            there = next_term.there;
            begins = next_begins;
            fits = omega (arith, next_long, h.fits, w.same, part_length n (length out) out written_inside (omega arith));
            short = omega (arith, next_long, h.short);
          }

      module _ {x : Bytes} {k : ℕ} (one_more : CopiedTerm es from mask next (take (length out - n) (drop n out)) x k) where
        pub next_short : n + k < 65536
        next_short = omega (arith, (one_more.wrote next_term.term next_term.there).0, next_long, h.short)

        pub copying_goes : {m : ℕ} → m ≡ size_in (at es next) → length x ≡ length (take (length out - n) (drop n out))
            → Copying es from mask node to (next + m) (n + k) before (put_mid n (length out - n) out x)
        copying_goes {m} is_m kept =
            record {
              begins = omega (arith, w.begins);
              same = same_len_mid n (length out - n) out x kept ∙ w.same;
              written = go;
            }
          where
            go : (u : Forest Named) → Spans es node to u
                → Left es from mask node to (next + m) (n + k) before (put_mid n (length out - n) out x) u
            go u there =
                let l = w.written u there in
                let f = first_of mask m l.rest l.there next_begins more is_m in
                record {
                  rest = f.later;
                  there = f.later_there;
                  part = part_goes l.part (copied_from mask (next - from) (one f.term))
                      (copied_from mask (next + m - from) f.later) f.bytes (one_more.wrote f.term f.there);
                }

-- `copy`: the copied term's own node has the number 0
own_number : (node : ℕ) → node - node ≡ 0
own_number node = omega arith

pub whole_copies : {es : List ℕ} {node mask room : ℕ} → Copyable es node mask room → TermCopyable es node mask node room
unfolding copied
whole_copies {node} h =
    record {
      term = h.term;
      there = h.there;
      begins = omega arith;
      fits = rw (own_number node) h.fits;
      short = rw (own_number node) h.short;
    }

pub whole_copied : (es : List ℕ) (node mask r : ℕ) (o o' : Bytes) → CopiedTerm es node mask node o o' r → Copied es node mask o o' r
unfolding Copied copied
whole_copied es node mask r o o' w t there = rw (own_number node) at (w.wrote t there)
