-- The demands that recorded faces make are the sources of these faces.
--   P, E, D     what the faces are recorded by: the term at a node of the patterns and of the expressions, and the binders above a
-- pattern's node
--   MovedFace   what a face faces stands at its node, under more binders
use mathlib.Core.Path.{◌≡◌, refl, ap, ap₂, sym, subst}
use mathlib.Core.List.{List, [], ◌∷◌, ◌++◌}
use mathlib.Core.Option.{Option, some}
use Prim.Native.Nat.{ℕ, zero, suc, ◌<◌}
use native.Mathlib.Omega.{arith}
use lib.ListN.{length}
use lib.Dec.{eqb}
use Rattle.meaning.specs.Limits.{metavariable_count}
use Rattle.meaning.specs.Basics.{All, choose, each}
use Rattle.meaning.specs.Term.{Forest, nil, cons, symbol, variable, application, binder, own, slot, Slot, metavariable, function, hole}
use Rattle.meaning.specs.Term.{Named, Terms, Term}
use Rattle.meaning.specs.Scope.{nameless_label}
use Rattle.meaning.specs.Readable.{Readable}
use Rattle.meaning.proofs.Lists.{never}
use Rattle.meaning.specs.Face.{Face}
use Rattle.meaning.specs.Field.{tag_of}
use Rattle.meaning.specs.Value.{Source, source_at, source_of}
use Rattle.tokens.specs.Token.{payload_of}
use Rattle.lockstep.specs.Walk.{pattern_node, expression_node}
use Rattle.lockstep.specs.Recorded.{Records, RecordedBy}
use Rattle.faces.proofs.NodeTokens.{AtNode, node_inside, node_tag, node_payload}
use Rattle.sources.specs.Demand.{Demand, demand_at, demands_in}
use Rattle.sources.specs.Kept.{Askable, Demandable}
use Rattle.sources.proofs.KeptMeaning.{MovedAt, Says, AllSay, said_inside}

-- A slot of a table has the number of a metavariable, and a function application one argument
abbrev pub FitSlot : Slot → Type 0
FitSlot (metavariable m) = m < metavariable_count
FitSlot (function f n) = (f < metavariable_count) × (n ≡ 1)
FitSlot (hole i) = Unit {0}

pub slot_fits : (table : List ℕ) (i : ℕ) (z : Slot) (cs : Terms) → AtNode table i (slot z, cs) → FitSlot z
slot_fits table i z cs n = go n.levels n.named.0 n.named.1 (sym (ap (λ (u : Term). u.0) n.term)) n.held.readable
  where
    go : (levels : ℕ) (l : Named) (c : Forest Named) → nameless_label n.scope l ≡ slot z → Readable levels n.context (cons l c nil)
        → FitSlot z
    go zero l c e r = absurd r
    go (suc levels) (own (symbol m)) c e r = never (cc)
    go (suc levels) (own (variable x)) c e r = never (cc)
    go (suc levels) (own (application m)) c e r = never (cc)
    go (suc levels) (own (binder b x)) c e r = never (cc)
    go (suc levels) (slot (metavariable m)) c e r = let q : metavariable m ≡ z = cc in subst FitSlot q r.0.1
    go (suc levels) (slot (function f k)) c e r = let q : function f k ≡ z = cc in subst FitSlot q (r.0.1, r.0.2)
    go (suc levels) (slot (hole k)) c e r = let q : hole k ≡ z = cc in subst FitSlot q tt

append_say : (es : List ℕ) (ds ds' : List Demand) (ss ss' : List Source) → AllSay es ds ss → AllSay es ds' ss'
    → AllSay es (ds ++ ds') (ss ++ ss')
append_say es [] ds' [] ss' a b = b
append_say es [] ds' (s ∷ ss) ss' a b = absurd a
append_say es (d ∷ ds) ds' [] ss' a b = absurd a
append_say es (d ∷ ds) ds' (s ∷ ss) ss' a b = (a.0, append_say es ds ds' ss ss' a.1 b)

-- Where each node has a number
said_asks : (es ks : List ℕ) → length ks ≡ length es → (ds : List Demand) (ss : List Source) → AllSay es ds ss → All (Askable ks) ds
said_asks es ks long [] [] a = tt
said_asks es ks long [] (s ∷ ss) a = absurd a
said_asks es ks long (d ∷ ds) [] a = absurd a
said_asks es ks long (d ∷ ds) (s ∷ ss) a = (one a.0, said_asks es ks long ds ss a.1)
  where
    one : Says es d s → Askable ks d
    one w = record {
      number = subst (λ (m : ℕ). m < metavariable_count) (sym w.number) w.small;
      inside = omega (arith, long, said_inside es d s w);
    }

-- What a face faces stands at its node
abbrev pub MovedFace : List ℕ → Face → Type 0
MovedFace es x = MovedAt es x.node x.term

module _ (ps es : List ℕ) (P E : ℕ → Option Term) (D : ℕ → ℕ) (pattern_at : (i : ℕ) (t : Term) → P i ≡ some t → AtNode ps i t) where
  abbrev slot_at : (n : ℕ) (x : Face) → Records P E D n x → AtNode ps (pattern_node n) (slot x.what, x.children)
  slot_at n x r = pattern_at (pattern_node n) (slot x.what, x.children) r.slots

  -- One face, by the kind of its slot
  demand_says : (n : ℕ) (sc : List ℕ) (z : Slot) (x : Face) → Records P E D n x → FitSlot z → MovedFace es x
      → AllSay es (choose (eqb (tag_of (slot z)) 5) ((payload_of sc (slot z), expression_node n) ∷ []) []) (source_at z x.node x.term)
  unfolding payload_of
  demand_says n sc (metavariable m) x r small moved =
      (record { number = refl; small = small; node = r.node; at = subst (λ (j : ℕ). MovedAt es j x.term) (sym r.node) moved }, tt)
  demand_says n sc (function f a) x r small moved = tt
  demand_says n sc (hole i) x r small moved = tt

  face_says : (n : ℕ) (x : Face) → Records P E D n x → MovedFace es x → AllSay es (demand_at ps n) (source_of x)
  unfolding demand_at
  face_says n x r moved =
      let a = slot_at n x r in
      subst (λ (ds : List Demand). AllSay es ds (source_of x))
      (sym (ap₂ (λ (g m : ℕ). choose (eqb g 5) ((m, expression_node n) ∷ []) [])
      (node_tag ps (pattern_node n) x.what x.children a) (node_payload ps (pattern_node n) x.what x.children a)))
      (demand_says n a.scope x.what x r (slot_fits ps (pattern_node n) x.what x.children a) moved)

  -- THE THEOREM
  pub recorded_say : (ns : List ℕ) (xs : List Face) → RecordedBy P E D ns xs → All (MovedFace es) xs
      → AllSay es (demands_in ps ns) (each source_of xs)
  recorded_say [] [] r moved = tt
  recorded_say [] (x ∷ xs) r moved = absurd r
  recorded_say (n ∷ ns) [] r moved = absurd r
  recorded_say (n ∷ ns) (x ∷ xs) r moved =
      append_say es (demand_at ps n) (demands_in ps ns) (source_of x) (each source_of xs) (face_says n x r.0 moved.0)
      (recorded_say ns xs r.1 moved.1)

  -- What the code asks of recorded faces, where ks has a number for each node
  pub recorded_reads : (ks : List ℕ) → length ks ≡ length es → (ns : List ℕ) (xs : List Face) → RecordedBy P E D ns xs
      → All (MovedFace es) xs → All (Demandable ps ks) ns
  recorded_reads ks long [] [] r moved = tt
  recorded_reads ks long [] (x ∷ xs) r moved = absurd r
  recorded_reads ks long (n ∷ ns) [] r moved = absurd r
  recorded_reads ks long (n ∷ ns) (x ∷ xs) r moved = (
    record {
      slot = node_inside ps (pattern_node n) (slot x.what, x.children) (slot_at n x r.0);
      asks = said_asks es ks long (demand_at ps n) (source_of x) (face_says n x r.0 moved.0);
    },
    recorded_reads ks long ns xs r.1 moved.1,
  )
