-- What `copy_length` owes: "a body is its face less the number of holes times one hole's saving".
--   Lowest   the lowest node of a choice that is not empty, what stands there, and that it stands in the table
use mathlib.Core.Path.{◌≡◌, refl, ap, ap₂, sym, ◌∙◌}
use mathlib.Core.Logic.{◌⊎◌, inl, inr}
use Prim.Native.Nat.{ℕ, ◌+◌, ◌-◌, ◌*◌, ◌<◌, ◌≤◌}
use native.Mathlib.Omega.{arith}
use mathlib.Core.List.{List}
use mathlib.Core.Option.{some}
use lib.ListN.{length, get_elem?}
use Rattle.masks.specs.Mask.{marks, trues}
use Rattle.masks.specs.Sets.{width}
use Rattle.meaning.specs.Limits.{max_face_nodes}
use Rattle.meaning.specs.Term.{NamedTerm, one, size}
use Rattle.meaning.specs.Scope.{enter, nameless_label}
use Rattle.meaning.specs.Choice.{set_size}
use Rattle.meaning.proofs.ShiftLaws.{relabel_size}
use Rattle.meaning.proofs.NodeReading.{encode_long}
use Rattle.meaning.proofs.Nodes.{Stands, node_there}
use Rattle.meaning.proofs.Proper.{readable_expression}
use Rattle.meaning.proofs.BodyLength.{body_length}
use Rattle.demands.specs.LowestMark.{LowestMark}
use Rattle.demands.proofs.LowestNode.{Unmarked}
use Rattle.bodies.specs.Marked.{lowest_marked}
use Rattle.bodies.proofs.MarkLaws.{empty_mask, holes_means, lowest_mark, lowest_means}
use Rattle.copying.specs.Copied.{Spans, TermIn, copied}
use Rattle.copying.specs.Measure.{BodyMeasurable, Chosen, Measurable, Measured, TermMeasured}
use Rattle.copying.proofs.CopiedMeaning.{copied_choice, copied_whole, node_in}

-- A term by itself spans its own nodes
term_span : {es : List ℕ} {node : ℕ} {t : NamedTerm} → TermIn es node t → Spans es node (node + size (one t)) (one t)
term_span h =
    record {
      levels = h.levels;
      scope = h.scope;
      readable = h.held.readable;
      depths = h.held.depths;
      sizes = h.held.sizes;
      after = h.stands.after;
      split = h.stands.split;
      ends = refl;
    }

module _ {es : List ℕ} {node mask : ℕ} {t : NamedTerm} (there : TermIn es node t) (c : Chosen mask t) where
  record Lowest : Type 0 where
    number : ℕ
    place : ℕ
    term : NamedTerm
    marked : get_elem? c.marks number ≡ some (some place)
    stands : Stands number (one t) term
    is_lowest : lowest_marked mask ≡ number

  module _ (holed : mask ≡ 0 → ⊥) where
    lowest : Lowest
    lowest = go (lowest_mark c.marks)
      where
        go : ((i j : ℕ) × (j < length c.marks) × LowestMark i j c.marks) ⊎ Unmarked (length c.marks) c.marks → Lowest
        go (inr u) = absurd (holed (c.is_mask ∙ empty_mask max_face_nodes c.marks u))
        go (inl (i, j, small, low)) =
            let (v, s) =
            node_there j (one t) (omega (arith, c.choice.long, relabel_size enter nameless_label c.scope (one t))) in
            record {
              number = j;
              place = i;
              term = v;
              marked = low.marked;
              stands = s;
              is_lowest = ap lowest_marked c.is_mask ∙ lowest_means c.marks i j c.few low;
            }

    lowest_in_lem : {low : ℕ} → low ≡ lowest_marked mask → TermIn es (node + low) lowest.term
    lowest_in_lem {low} e = node_in lowest.stands (term_span there) (node + low) (ap (λ (k : ℕ). node + k) (e ∙ lowest.is_lowest))

    module _ {whole low hole holes : ℕ} (is_whole : TermMeasured es node whole) (is-low : low ≡ lowest_marked mask)
        (is-hole : TermMeasured es (node + low) hole) (is-holes : holes ≡ trues (marks width mask)) where
      pub hole_head : 3 ≤ hole
      hole_head = omega (arith, is-hole.long lowest.term (lowest_in_lem is-low), encode_long lowest.term)

      -- THE BODY AND WHAT ITS HOLES SAVE MAKE THE FACE
      pub body_saved : length (copied mask t) + holes * (hole - 3) ≡ whole
      body_saved =
          let count : holes ≡ set_size c.marks =
          is-holes ∙ ap (λ (m : ℕ). trues (marks width m)) c.is_mask ∙ holes_means c.marks c.few in
          ap₂ ◌+◌
          (ap length (ap (λ (m : ℕ). copied m t) c.is_mask ∙ copied_choice c.marks t c.few c.choice.places))
          (ap₂ (λ (n k : ℕ). n * (k - 3)) count (is-hole.long lowest.term (lowest_in_lem is-low)))
          ∙ body_length c.scope t c.marks (readable_expression there.levels c.scope (one t) there.held.readable) c.choice
          lowest.number lowest.place lowest.term lowest.marked lowest.stands
          ∙ sym (is_whole.long t there)

-- As the code has it
module _ {es : List ℕ} {node mask whole : ℕ} (is_whole : TermMeasured es node whole) where
  pub empty_measured : mask ≡ 0 → Measured es node mask whole
  empty_measured e = record {
    long = λ t there c. is_whole.long t there ∙ sym (ap length (ap (λ (m : ℕ). copied m t) e ∙ copied_whole t));
  }

  module _ (holed : mask ≡ 0 → ⊥) {low hole holes : ℕ} (is-low : low ≡ lowest_marked mask) (is-hole : TermMeasured es (node + low) hole)
      (is-holes : holes ≡ trues (marks width mask)) where
    pub body_measured : Measured es node mask (whole - holes * (hole - 3))
    body_measured = record {
      long = λ t there c. omega (arith, body_saved there c holed is_whole is-low is-hole is-holes);
    }

-- What measuring at the lowest hole asks
pub hole_measurable : {es : List ℕ} {node mask low : ℕ} (h : BodyMeasurable es node mask) → (mask ≡ 0 → ⊥) → low ≡ lowest_marked mask
    → Measurable es (node + low)
hole_measurable h holed e =
    record {
      term = (lowest h.face.there h.chosen holed).term;
      there = lowest_in_lem h.face.there h.chosen holed e;
      table = h.face.table;
    }
