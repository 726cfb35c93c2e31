-- The metavariables that have a source are no functions: they stand outside arguments or in one.
use mathlib.Core.Path.{◌≡◌, refl, ap, ap₂, sym, ◌∙◌, subst}
use mathlib.Core.Logic.{⊎_elim}
use Prim.Native.Nat.{ℕ, zero, suc, ◌<◌}
use mathlib.Core.List.Memᴰ
use mathlib.Core.List.{List, [], ◌∷◌, ◌++◌, append-nil}
use mathlib.Core.Option.{Option, none, some}
use native.Mathlib.Omega.{arith}
use Rattle.meaning.specs.Basics.{each, up_to, ◌∈◌, and_then, or_none}
use Rattle.meaning.specs.Term.{nil, cons, one, trees, own, slot, Slot, metavariable, function, hole, Nameless, Terms, Term}
use Rattle.meaning.specs.Problem.{Problem, patterns, expressions, plain}
use Rattle.meaning.specs.Filling.{argument}
use Rattle.meaning.specs.Face.{Face, walk, walk_of}
use Rattle.meaning.specs.Value.{Source, source_of, lowest_hole, from_hole, from_application, sources_in}
use Rattle.meaning.specs.Lower.{lower_term}
use Rattle.meaning.proofs.Lists.{mem_each, each_mem, each_append, up_to_mem}
use Rattle.meaning.proofs.Proper.{Proper}
use Rattle.meaning.proofs.Slots.{slots, face_slot, slot_plain, faced_slot, faced_shape}
use Rattle.meaning.proofs.Sources.{source_at_lem}

-- Plain metavariables by slots
abbrev plain_at : Slot × Terms → List ℕ
plain_at y = elim y.0 [ metavariable m ↦ m ∷ [] | function f n ↦ plain y.1 | hole i ↦ [] ]

plain_slots : (u : Terms) → plain u ≡ each plain_at (slots u)
plain_slots nil = refl
plain_slots (cons (own o) c s) =
    ap₂ (λ (x y : List ℕ). x ++ y) (plain_slots c) (plain_slots s) ∙ sym (each_append plain_at (slots c) (slots s))
plain_slots (cons (slot (metavariable m)) c s) = ap (λ (x : List ℕ). m ∷ x) (plain_slots s)
plain_slots (cons (slot (function f n)) c s) = ap (λ (x : List ℕ). plain c ++ x) (plain_slots s)
plain_slots (cons (slot (hole i)) c s) = plain_slots s

application_plain : (u : Terms) (f n : ℕ) (c : Terms) (m : ℕ) → (function f n, c) ∈ slots u → m ∈ plain c → m ∈ plain u
application_plain u f n c m q h = subst (λ (l : List ℕ). m ∈ l) (sym (plain_slots u)) (mem_each plain_at (function f n, c) m (slots u) q h)

-- Plain metavariables by trees
plain_cons : (l : Nameless) (c s : Terms) → plain (cons l c s) ≡ plain (one (l, c)) ++ plain s
plain_cons (own o) c s = rw (append-nil (plain c))
plain_cons (slot (metavariable m)) c s = refl
plain_cons (slot (function f n)) c s = rw (append-nil (plain c))
plain_cons (slot (hole i)) c s = refl

argument_plain : (c : Terms) (i m : ℕ) → i < trees c → m ∈ plain (one (argument c i)) → m ∈ plain c
argument_plain nil i m h q = absurd (omega arith)
argument_plain (cons l c s) zero m h q = subst (λ (x : List ℕ). m ∈ x) (sym (plain_cons l c s)) (Memᴰ.append_left (plain s) q)
argument_plain (cons l c s) (suc i) m h q =
    subst (λ (x : List ℕ). m ∈ x) (sym (plain_cons l c s)) (Memᴰ.append_right (plain (one (l, c))) (argument_plain s i m (omega arith) q))

-- What a walk meets
walk_plain : (k n : ℕ) (t u : Terms) (o : Option (List Face)) → walk k n t u ≡ o
    → (s : Source) → s ∈ each source_of (or_none o) → s.number ∈ plain t
walk_plain k n t u none w s q = absurd (Memᴰ.not-nil q)
walk_plain k n t u (some ys) w s q =
    let (y, i, e) = each_mem source_of s ys q in
    let z = source_at_lem y.what y.node y.term s e in
    slot_plain t s.number y.children
    (subst (λ (x : Slot). ◌∈◌ {A = Slot × Terms} (x, y.children) (slots t)) z.0 (face_slot k n t u ys y w i))

hole_plain : (k : ℕ) (t : Term) (o : Option Face) (s : Source) → s ∈ from_hole k t o → s.number ∈ plain (one t)
hole_plain k t none s q = absurd (Memᴰ.not-nil q)
hole_plain k t (some h) s q = go (lower_term h.under h.term) q
  where
    go : (o : Option Term) → s ∈ each source_of (or_none (and_then o (λ u. walk k h.node (one t) (one u)))) → s.number ∈ plain (one t)
    go none r = absurd (Memᴰ.not-nil r)
    go (some u) r = walk_plain k h.node (one t) (one u) (walk k h.node (one t) (one u)) refl s r

-- EVERY SOURCE of a row is one of a metavariable that is no function
module _ (p : Problem) (c : Proper p) (b : ℕ → Term) (xs : List Face) (defined : walk_of p ≡ some xs) where
  slot_source_plain : (x : Face) → x ∈ xs → (z : Slot) → x.what ≡ z
      → (s : Source) → s ∈ from_application b x z → s.number ∈ plain (patterns p)
  slot_source_plain x i (metavariable m) e s q = absurd (Memᴰ.not-nil q)
  slot_source_plain x i (hole m) e s q = absurd (Memᴰ.not-nil q)
  slot_source_plain x i (function f n) e s q =
      let lowest : ℕ → Option Face = λ j. lowest_hole j (or_none (walk 0 x.node (one (b f)) (one x.term))) in
      let (j, m, r) = each_mem (λ j. from_hole x.under (argument x.children j) (lowest j)) s (up_to n) q in
      let small : j < trees x.children = subst (λ (k : ℕ). j < k) (sym (faced_shape p c xs defined f n x i e).0) (up_to_mem n j m) in
      application_plain (patterns p) f n x.children s.number (faced_slot p c xs defined (function f n) x i e)
      (argument_plain x.children j s.number small (hole_plain x.under (argument x.children j) (lowest j) s r))

  pub source_plain : (s : Source) → s ∈ sources_in b xs → s.number ∈ plain (patterns p)
  source_plain s q =
      ⊎_elim (walk_plain 0 0 (patterns p) (expressions p) (some xs) defined s)
      (λ r. let (x, i, m) = each_mem (λ x. from_application b x x.what) s xs r in slot_source_plain x i x.what refl s m)
      (Memᴰ.append_cases (each source_of xs) q)
