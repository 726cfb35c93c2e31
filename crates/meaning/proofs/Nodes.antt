-- The nodes of the expressions, and the terms there.
--   Stands   the node of this number, in preorder, has this subterm: `node_at` as a relation that can be taken apart
--   Within   a face's subexpression stands at its node, in a walk that gives the first node the number n
--   Further  the same of a source
-- So what is copied from the node of a face, or of a value, means what was walked there: names are resolved by the scope around the node,
-- and where nothing is bound outside a term that scope does not count.
use mathlib.Core.Path.{◌≡◌, refl, ap, sym, ◌∙◌, subst}
use mathlib.Core.Logic.{⊎_elim}
use Prim.Native.Nat.{ℕ, zero, suc, ◌+◌, ◌-◌, ◌<◌, ◌≤◌}
use mathlib.Core.Bool.{Bool, true, false}
use mathlib.Core.List.Memᴰ
use mathlib.Core.List.{List, [], ◌∷◌, ◌++◌}
use mathlib.Core.Option.{Option, none, some}
use native.Mathlib.Omega.{arith}
use native.Mathlib.Decide.{dec_lt}
use lib.ListN.{length, drop}
use lib.Dec.{eqb, T}
use Rattle.meaning.specs.Basics.{choose, each, up_to, and_then, or_none, join, guard, ◌∈◌}
use Rattle.meaning.specs.Term.{Forest, nil, cons, Tree, graft, one, size, node_at, relabel, Own, symbol, variable, application, binder}
use Rattle.meaning.specs.Term.{own, slot, Variable, free, bound, Slot, metavariable, function, hole, Named, Nameless, NamedTerm}
use Rattle.meaning.specs.Term.{Terms, Term, inner}
use Rattle.meaning.specs.Scope.{resolve, enter, nameless_label, nameless, nameless_term}
use Rattle.meaning.specs.Shift.{shift_label, shift, ClosedVariable, ClosedLabel, Closed, ClosedTerm}
use Rattle.meaning.specs.Lower.{lower_term}
use Rattle.meaning.specs.Problem.{Problem, patterns, expressions}
use Rattle.meaning.specs.Filling.{argument}
use Rattle.meaning.specs.Choice.{Marks, punch, punch_term}
use Rattle.meaning.specs.Row.{Row, row_body}
use Rattle.meaning.specs.Face.{Face, agrees, walk, faces}
use Rattle.meaning.specs.Value.{Source, source_at, source_of, lowest_hole, from_hole, from_application, sources_in, sources}
use Rattle.meaning.proofs.Lists.{never, choose_true, choose_false, true_T, each_mem}
use Rattle.meaning.proofs.OneWay.{faces_walk}
use Rattle.meaning.proofs.ShiftLaws.{pair_eq, ltb_yes, ltb_no, relabel_size, shift_closed, shift_lower_term}
use Rattle.meaning.proofs.Sources.{source_at_lem, lowest_is}
use Rattle.meaning.proofs.Renaming.{cons_eq, one_injective}

pub data Stands {L : Type 0} : ℕ → Forest L → Tree L → Type 0 where
  here : {l : L} {c s : Forest L} → Stands 0 (cons l c s) (l, c)
  below : {l : L} {c s : Forest L} {t : Tree L} {n : ℕ} → Stands n c t → Stands (suc n) (cons l c s) t
  beside : {l : L} {c s : Forest L} {t : Tree L} {n m : ℕ} → Stands n s t → m ≡ suc (size c + n) → Stands m (cons l c s) t

pub stands_size : {L : Type 0} {n : ℕ} {u : Forest L} {t : Tree L} → Stands n u t → n < size u
stands_size here = omega arith
stands_size (below h) = let r = stands_size h in omega arith
stands_size (beside h e) = let r = stands_size h in omega arith

pub stands_node : {L : Type 0} {n : ℕ} {u : Forest L} {t : Tree L} → Stands n u t → node_at n u ≡ some t
stands_node here = refl
stands_node (below {c} {s} {n} h) = choose_true (node_at n c) (node_at (n - size c) s) (ltb_yes n (size c) (stands_size h)) ∙ stands_node h
stands_node {L} (beside {l} {c} {s} {t} {n} h e) =
    let d : (size c + n) - size c ≡ n = omega arith in
    ap (λ (k : ℕ). node_at k (cons l c s)) e
    ∙ choose_false (node_at (size c + n) c) (node_at ((size c + n) - size c) s) (ltb_no (size c + n) (size c) (omega arith))
    ∙ ap (λ (k : ℕ). node_at k s) d ∙ stands_node h

pub node_stands : {L : Type 0} (n : ℕ) (u : Forest L) (t : Tree L) → node_at n u ≡ some t → Stands n u t
node_stands n nil t e = never (cc)
node_stands zero (cons l c s) t e = let p : (l, c) ≡ t = cc in subst (λ x. Stands 0 (cons l c s) x) p here
node_stands (suc n) (cons l c s) t e =
    elim (dec_lt n (size c)) [
      | yes h ↦ below (node_stands n c t (sym (choose_true (node_at n c) (node_at (n - size c) s) (ltb_yes n (size c) h)) ∙ e))
      | no h ↦
          let d : suc n ≡ suc (size c + (n - size c)) = omega arith in
          beside (node_stands (n - size c) s t
          (sym (choose_false (node_at n c) (node_at (n - size c) s) (ltb_no n (size c) (omega arith))) ∙ e)) d
    ]

pub node_there : {L : Type 0} (n : ℕ) (u : Forest L) → n < size u → (t : Tree L) × Stands n u t
node_there n nil h = absurd (omega arith)
node_there zero (cons l c s) h = ((l, c), here)
node_there (suc n) (cons l c s) h =
    elim (dec_lt n (size c)) [
      | yes g ↦ let (t, r) = node_there n c g in (t, below r)
      | no g ↦
          let (t, r) = node_there (n - size c) s (omega arith) in
          let e : suc n ≡ suc (size c + (n - size c)) = omega arith in
          (t, beside r e)
    ]

-- The nodes of a subterm are nodes of the whole
renumbered : {L : Type 0} {n m : ℕ} {u : Forest L} {t : Tree L} → Stands n u t → n ≡ m → Stands m u t
renumbered {L} {u} {t} h e = subst (λ k. Stands k u t) e h

pub stands_in : {L : Type 0} {n j m : ℕ} {u : Forest L} {t v : Tree L} → Stands n u t → Stands j (one t) v → m ≡ n + j → Stands m u v
stands_in here here e = renumbered here (omega arith)
stands_in here (below g) e = renumbered (below g) (omega arith)
stands_in here (beside g _) e = elim g [ ]
stands_in {j} (below {n} h) g e = renumbered (below (stands_in {m = n + j} h g refl)) (omega arith)
stands_in {j} {m} (beside {c} {n} h d) g e = beside {c = c} {m = m} (stands_in {m = n + j} h g refl) (omega arith)

-- New labels for old: each node stays, with its own subterm's new labels
module _ {E L M : Type 0} (into : L → E → E) (f : E → L → M) where
  abbrev pub relabel_tree : E → Tree L → Tree M
  relabel_tree e t = (f e t.0, relabel into f (into t.0 e) t.1)

  pub relabel_stands : {n : ℕ} {u : Forest L} {t : Tree L} → Stands n u t → (e : E)
      → (e' : E) × Stands n (relabel into f e u) (relabel_tree e' t)
  relabel_stands here e = (e, here)
  relabel_stands (below {l} h) e = let r = relabel_stands h (into l e) in (r.0, below r.1)
  relabel_stands (beside {l} {c} {n} h d) e =
      let r = relabel_stands h e in (r.0, beside r.1 (d ∙ ap (λ (k : ℕ). suc (k + n)) (sym (relabel_size into f (into l e) c))))

  relabelled_node : (u : Forest L) (e : E) {n : ℕ} {t : Tree M} → Stands n (relabel into f e u) t
      → (e' : E) × (t' : Tree L) × Stands n u t' × (t ≡ relabel_tree e' t')
  relabelled_node nil e g = elim g [ ]
  relabelled_node (cons l c s) e here = (e, (l, c), here, refl)
  relabelled_node (cons l c s) e (below h) = let r = relabelled_node c (into l e) h in (r.0, r.1, below r.2, r.3)
  relabelled_node (cons l c s) e (beside {n} h d) =
      let r = relabelled_node s e h in (r.0, r.1, beside r.2 (d ∙ ap (λ (k : ℕ). suc (k + n)) (relabel_size into f (into l e) c)), r.3)

  pub stands_relabel : {n : ℕ} {t : Tree M} (u : Forest L) (e : E) → Stands n (relabel into f e u) t
      → (e' : E) × (t' : Tree L) × Stands n u t' × (t ≡ relabel_tree e' t')
  stands_relabel u e h = relabelled_node u e h

-- A face's own node. Where the first node of e has the number n, it is j nodes further on
abbrev Within : ℕ → Terms → Face → Type 0
Within n e x = (j : ℕ) × (x.node ≡ n + j) × Stands j e x.term

-- What a walk that succeeds is made of
pub record WalkedOwn (k n : ℕ) (o : Own Variable (Unit {0})) (c s : Terms) (t : Term) (s' : Terms) (xs : List Face) : Type 0 where
  pub agree : T (agrees o t.0)
  pub inside : List Face
  pub later : List Face
  pub are_inside : walk (inner (own o) k) (suc n) c t.1 ≡ some inside
  pub are_later : walk k (suc n + size t.1) s s' ≡ some later
  pub whole : xs ≡ inside ++ later

pub walked_own : (k n : ℕ) (o : Own Variable (Unit {0})) (c s : Terms) (t : Term) (s' : Terms) (xs : List Face)
    → walk k n (cons (own o) c s) (graft t s') ≡ some xs → WalkedOwn k n o c s t s' xs
walked_own k n o c s t s' xs q =
    go (agrees o t.0) (walk (inner (own o) k) (suc n) c t.1) (walk k (suc n + size t.1) s s') refl refl refl q
  where
    go : (b : Bool) (x y : Option (List Face)) → agrees o t.0 ≡ b → walk (inner (own o) k) (suc n) c t.1 ≡ x
        → walk k (suc n + size t.1) s s' ≡ y
        → join (guard b x) y ≡ some xs → WalkedOwn k n o c s t s' xs
    go true (some x) (some y) d e f r = record { agree = true_T d; inside = x; later = y; are_inside = e; are_later = f; whole = cc }
    go true (some x) none d e f r = never (cc)
    go true none y d e f r = never (cc)
    go false x y d e f r = never (cc)

pub record WalkedSlot (k n : ℕ) (z : Slot) (c s : Terms) (t : Term) (s' : Terms) (xs : List Face) : Type 0 where
  pub later : List Face
  pub are_later : walk k (suc n + size t.1) s s' ≡ some later
  pub whole : xs ≡ record { under = k; what = z; children = c; node = n; term = t } ∷ later

pub walked_slot : (k n : ℕ) (z : Slot) (c s : Terms) (t : Term) (s' : Terms) (xs : List Face)
    → walk k n (cons (slot z) c s) (graft t s') ≡ some xs → WalkedSlot k n z c s t s' xs
walked_slot k n z c s t s' xs q = go (walk k (suc n + size t.1) s s') refl q
  where
    go : (y : Option (List Face)) → walk k (suc n + size t.1) s s' ≡ y
        → join (some (record { under = k; what = z; children = c; node = n; term = t } ∷ [])) y ≡ some xs → WalkedSlot k n z c s t s' xs
    go (some y) f r = record { later = y; are_later = f; whole = cc }
    go none f r = never (cc)

within_later : (n : ℕ) (t : Term) (s : Terms) (x : Face) → Within (suc n + size t.1) s x → Within n (graft t s) x
within_later n t s x r =
    let d : x.node ≡ suc n + size t.1 + r.0 = r.1 in
    (suc (size t.1 + r.0), omega arith, beside r.2 refl)

face_within : (k n : ℕ) (p e : Terms) (xs : List Face) → walk k n p e ≡ some xs → (x : Face) → x ∈ xs → Within n e x
face_within k n nil nil xs q x m = let d : [] ≡ xs = cc in absurd (Memᴰ.not-nil (subst (λ ys. x ∈ ys) (sym d) m))
face_within k n nil (cons l c s) xs q x m = never (cc)
face_within k n (cons l c s) nil xs q x m = never (cc)
face_within k n (cons (own o) c s) (cons l' c' s') xs q x m =
    let w = walked_own k n o c s (l', c') s' xs q in
    ⊎_elim
    (λ i. let r = face_within (inner (own o) k) (suc n) c c' w.inside w.are_inside x i in
    let d : x.node ≡ suc n + r.0 = r.1 in (suc r.0, omega arith, below r.2))
    (λ i. within_later n (l', c') s' x (face_within k (suc n + size c') s s' w.later w.are_later x i))
    (Memᴰ.append_cases w.inside (subst (λ ys. x ∈ ys) w.whole m))
face_within k n (cons (slot z) c s) (cons l' c' s') xs q x m =
    let w = walked_slot k n z c s (l', c') s' xs q in
    let f : Face = record { under = k; what = z; children = c; node = n; term = (l', c') } in
    ⊎_elim
    (λ (e : x ≡ f). subst (Within n (cons l' c' s')) (sym e) (0, omega arith, here))
    (λ i. within_later n (l', c') s' x (face_within k (suc n + size c') s s' w.later w.are_later x i))
    (Memᴰ.cases_cons (subst (λ ys. x ∈ ys) w.whole m))

-- A term with nothing bound outside stays as it is under more binders
closed_more_label : (j k : ℕ) (l : Nameless) → j ≤ k → ClosedLabel j l → ClosedLabel k l
closed_more_label j k (own (symbol n)) h c = tt
closed_more_label j k (own (variable (free x))) h c = tt
closed_more_label j k (own (variable (bound i))) h c = omega arith
closed_more_label j k (own (application n)) h c = tt
closed_more_label j k (own (binder b x)) h c = tt
closed_more_label j k (slot z) h c = tt

inner_more : (j k : ℕ) (l : Nameless) → j ≤ k → inner l j ≤ inner l k
inner_more j k (own (symbol n)) h = h
inner_more j k (own (variable v)) h = h
inner_more j k (own (application n)) h = h
inner_more j k (own (binder b x)) h = omega arith
inner_more j k (slot z) h = h

pub closed_more : (j k : ℕ) (u : Terms) → j ≤ k → Closed j u → Closed k u
closed_more j k nil h c = tt
closed_more j k (cons l c s) h d =
    (closed_more_label j k l h d.0, closed_more (inner l j) (inner l k) c (inner_more j k l h) d.1, closed_more j k s h d.2)

-- A closed subterm of a lowered term is the subterm of the term itself at that node
lowered_stands : {i : ℕ} {v : Term} (n : ℕ) (t u : Term) → lower_term n t ≡ some u → Stands i (one u) v → ClosedTerm v → Stands i (one t) v
lowered_stands {i} {v} n t u e h d =
    let r = relabel_stands inner (shift_label n) h 0 in
    let same : shift n r.0 (one v) ≡ one v = shift_closed n r.0 (one v) (closed_more 0 r.0 (one v) (omega arith) d) in
    subst (λ (x : Tree Nameless). Stands i (one t) x) (one_injective (relabel_tree inner (shift_label n) r.0 v) v same)
    (subst (λ (x : Term). Stands i (one x) (relabel_tree inner (shift_label n) r.0 v)) (shift_lower_term n t u e) r.1)

-- Sources
source_there : (z : Slot) (n : ℕ) (t : Term) (s : Source) → s ∈ source_at z n t → s.node ≡ n
source_there (metavariable m) n t s q = ap (λ (x : Source). x.node) (Memᴰ.eq_of_singleton q)
source_there (function f a) n t s q = absurd (Memᴰ.not-nil q)
source_there (hole i) n t s q = absurd (Memᴰ.not-nil q)

abbrev Further : ℕ → Terms → Source → Type 0
Further n e s = (j : ℕ) × (s.node ≡ n + j) × Stands j e s.term

source_within : (n : ℕ) (e : Terms) (xs : List Face) → ((x : Face) → x ∈ xs → Within n e x) → (s : Source) → s ∈ each source_of xs
    → Further n e s
source_within n e xs w s q =
    let y = each_mem source_of s xs q in
    let r = w y.0 y.1 in
    let d : s.node ≡ y.0.node = source_there y.0.what y.0.node y.0.term s y.2 in
    let t : s.term ≡ y.0.term = (source_at_lem y.0.what y.0.node y.0.term s y.2).1 in
    (r.0, d ∙ r.1, subst (λ (x : Term). Stands r.0 e x) (sym t) r.2)

hole_within : (k n : ℕ) (a : Term) (e : Terms) (h : Face) → Within n e h → (s : Source) → s ∈ from_hole k a (some h) → ClosedTerm s.term
    → Further n e s
hole_within k n a e h w s q d = go (lower_term h.under h.term) refl q
  where
    at : (u : Term) → lower_term h.under h.term ≡ some u → (o : Option (List Face)) → walk k h.node (one a) (one u) ≡ o
        → s ∈ each source_of (or_none o) → Further n e s
    at u g none f m = absurd (Memᴰ.not-nil m)
    at u g (some xs) f m =
        let r = source_within h.node (one u) xs (face_within k h.node (one a) (one u) xs f) s m in
        let i : s.node ≡ h.node + r.0 = r.1 in
        let j : h.node ≡ n + w.0 = w.1 in
        (w.0 + r.0, omega arith, stands_in w.2 (lowered_stands h.under h.term u g r.2 d) refl)

    go : (o : Option Term) → lower_term h.under h.term ≡ o
        → s ∈ each source_of (or_none (and_then o (λ u. walk k h.node (one a) (one u)))) → Further n e s
    go none g m = absurd (Memᴰ.not-nil m)
    go (some u) g m = at u g (walk k h.node (one a) (one u)) refl m

application_within : (b : ℕ → Term) (n : ℕ) (e : Terms) (x : Face) → Within n e x → (z : Slot) (s : Source) → s ∈ from_application b x z
    → ClosedTerm s.term
    → Further n e s
application_within b n e x w (metavariable m) s q d = absurd (Memᴰ.not-nil q)
application_within b n e x w (hole i) s q d = absurd (Memᴰ.not-nil q)
application_within b n e x w (function f a) s q d =
    let y = each_mem (λ i. from_hole x.under (argument x.children i)
    (lowest_hole i (or_none (walk 0 x.node (one (b f)) (one x.term))))) s (up_to a) q in
    further (at (walk 0 x.node (one (b f)) (one x.term)) refl y.0 y.2)
  where
    further : Further x.node (one x.term) s → Further n e s
    further r =
        let i : s.node ≡ x.node + r.0 = r.1 in
        let j : x.node ≡ n + w.0 = w.1 in
        (w.0 + r.0, omega arith, stands_in w.2 r.2 refl)

    at_hole : (ys : List Face) → ((h : Face) → h ∈ ys → Within x.node (one x.term) h) → (i : ℕ) (o : Option Face) → lowest_hole i ys ≡ o
        → s ∈ from_hole x.under (argument x.children i) o → Further x.node (one x.term) s
    at_hole ys g i none f m = absurd (Memᴰ.not-nil m)
    at_hole ys g i (some h) f m =
        hole_within x.under x.node (argument x.children i) (one x.term) h (g h (lowest_is i ys h f).0) s m d

    at : (o : Option (List Face)) → walk 0 x.node (one (b f)) (one x.term) ≡ o → (i : ℕ)
        → s ∈ from_hole x.under (argument x.children i) (lowest_hole i (or_none o)) → Further x.node (one x.term) s
    at none g i m = absurd (Memᴰ.not-nil m)
    at (some ys) g i m = at_hole ys (face_within 0 x.node (one (b f)) (one x.term) ys g) i (lowest_hole i ys) refl m

sources_within : (b : ℕ → Term) (e : Terms) (xs : List Face) → ((x : Face) → x ∈ xs → Within 0 e x) → (s : Source) → s ∈ sources_in b xs
    → ClosedTerm s.term
    → Further 0 e s
sources_within b e xs w s q d =
    ⊎_elim (source_within 0 e xs w s)
    (λ m. let y = each_mem (λ x. from_application b x x.what) s xs m in
    application_within b 0 e y.0 (w y.0 y.1) y.0.what s y.2 d)
    (Memᴰ.append_cases (each source_of xs) q)

-- Names. The scopes sc at the end of loc ++ sc lie outside the term
resolve_outside : (sc : List ℕ) (i x : ℕ) → ClosedVariable i (resolve sc i x) → resolve sc i x ≡ free x
resolve_outside [] i x h = refl
resolve_outside (y ∷ ys) i x h = go (eqb x y) (resolve ys (suc i) x) (resolve_outside ys (suc i) x) h
  where
    more : (v : Variable) → ClosedVariable i v → ClosedVariable (suc i) v
    more (free z) c = tt
    more (bound j) c = omega arith

    go : (b : Bool) (v : Variable) → (ClosedVariable (suc i) v → v ≡ free x) → ClosedVariable i (choose b (bound i) v)
        → choose b (bound i) v ≡ free x
    go true v f c = absurd (omega arith)
    go false v f c = f (more v c)

resolve_drop : (loc sc : List ℕ) (i x : ℕ) → ClosedVariable (i + length loc) (resolve (loc ++ sc) i x)
    → resolve (loc ++ sc) i x ≡ resolve loc i x
resolve_drop [] sc i x h = let e : i + 0 ≡ i = omega arith in resolve_outside sc i x (subst (λ k. ClosedVariable k (resolve sc i x)) e h)
resolve_drop (y ∷ loc) sc i x h =
    go (eqb x y) (resolve (loc ++ sc) (suc i) x) (resolve loc (suc i) x)
    (λ c. resolve_drop loc sc (suc i) x
    (let e : i + suc (length loc) ≡ suc i + length loc = omega arith in
    subst (λ k. ClosedVariable k (resolve (loc ++ sc) (suc i) x)) e c)) h
  where
    go : (b : Bool) (v w : Variable) → (ClosedVariable (i + suc (length loc)) v → v ≡ w)
        → ClosedVariable (i + suc (length loc)) (choose b (bound i) v)
        → choose b (bound i) v ≡ choose b (bound i) w
    go true v w f c = refl
    go false v w f c = f c

label_drop : (loc sc : List ℕ) (l : Named) → ClosedLabel (length loc) (nameless_label (loc ++ sc) l)
    → nameless_label (loc ++ sc) l ≡ nameless_label loc l
label_drop loc sc (own (symbol n)) h = refl
label_drop loc sc (own (variable x)) h =
    let e : length loc ≡ 0 + length loc = omega arith in
    ap (λ (v : Variable). own (variable v)) (resolve_drop loc sc 0 x (subst (λ k. ClosedVariable k (resolve (loc ++ sc) 0 x)) e h))
label_drop loc sc (own (application n)) h = refl
label_drop loc sc (own (binder b x)) h = refl
label_drop loc sc (slot z) h = refl

enter_append : (loc sc : List ℕ) (l : Named) → enter l (loc ++ sc) ≡ enter l loc ++ sc
enter_append loc sc (own (symbol n)) = refl
enter_append loc sc (own (variable x)) = refl
enter_append loc sc (own (application n)) = refl
enter_append loc sc (own (binder b x)) = refl
enter_append loc sc (slot z) = refl

enter_length : (loc sc : List ℕ) (l : Named) → inner (nameless_label sc l) (length loc) ≡ length (enter l loc)
enter_length loc sc (own (symbol n)) = refl
enter_length loc sc (own (variable x)) = refl
enter_length loc sc (own (application n)) = refl
enter_length loc sc (own (binder b x)) = refl
enter_length loc sc (slot z) = refl

nameless_drop : (loc sc : List ℕ) (u : Forest Named) → Closed (length loc) (nameless (loc ++ sc) u)
    → nameless (loc ++ sc) u ≡ nameless loc u
nameless_drop loc sc nil h = refl
nameless_drop loc sc (cons l c s) h =
    let e : enter l (loc ++ sc) ≡ enter l loc ++ sc = enter_append loc sc l in
    let d : Closed (length (enter l loc)) (nameless (enter l loc ++ sc) c) = rw (e, enter_length loc (loc ++ sc) l) at h.1 in
    cons_eq (label_drop loc sc l h.0) (rw e (nameless_drop (enter l loc) sc c d)) (nameless_drop loc sc s h.2)

-- Holes can be made before or after names are resolved
punch_nameless : (ms : Marks) (sc : List ℕ) (u : Forest Named) → punch ms (nameless sc u) ≡ nameless sc (punch ms u)
punch_nameless ms sc nil = refl
punch_nameless [] sc (cons l c s) =
    rw (relabel_size enter nameless_label (enter l sc) c, punch_nameless [] (enter l sc) c, punch_nameless (drop (size c) []) sc s)
punch_nameless (none ∷ ms) sc (cons l c s) =
    rw (relabel_size enter nameless_label (enter l sc) c, punch_nameless ms (enter l sc) c, punch_nameless (drop (size c) ms) sc s)
punch_nameless (some i ∷ ms) sc (cons l c s) = rw (relabel_size enter nameless_label (enter l sc) c, punch_nameless (drop (size c) ms) sc s)

-- THE TERMS AT NODES
-- A face's node is the node where what it faces stands
pub walk_node : (k n : ℕ) (p e : Terms) (xs : List Face) → walk k n p e ≡ some xs → (x : Face) → x ∈ xs
    → (n ≤ x.node) × (node_at (x.node - n) e ≡ some x.term)
walk_node k n p e xs q x m =
    let r = face_within k n p e xs q x m in
    let d : x.node ≡ n + r.0 = r.1 in
    let j : x.node - n ≡ r.0 = omega arith in
    (omega arith, rw j (stands_node r.2))

pub face_node_lem : (p : Problem) (xs : List Face) → faces p ≡ some xs → (x : Face) → x ∈ xs → node_at x.node (expressions p) ≡ some x.term
face_node_lem p xs q x m =
    let r = walk_node 0 0 (patterns p) (expressions p) xs (faces_walk p xs q) x m in
    let j : x.node - 0 ≡ x.node = omega arith in
    rw j at r.1

-- A value's node is the node where the value stands, also when it comes from a hole inside a face
pub source_node : (p : Problem) (r : Row) (s : Source) → s ∈ sources p r → ClosedTerm s.term
    → node_at s.node (expressions p) ≡ some s.term
source_node p r s q d = go (faces p) refl q
  where
    go : (o : Option (List Face)) → faces p ≡ o → s ∈ sources_in (row_body p r) (or_none o) → node_at s.node (expressions p) ≡ some s.term
    go none e m = absurd (Memᴰ.not-nil m)
    go (some xs) e m =
        let w = sources_within (row_body p r) (expressions p) xs (face_within 0 0 (patterns p) (expressions p) xs (faces_walk p xs e)) s m d in
        let n : s.node ≡ 0 + w.0 = w.1 in
        let f : s.node ≡ w.0 = omega arith in
        rw f (stands_node w.2)

-- A node of the expressions is one that the bytes have, with its names resolved in some scope
pub named_node : (n : ℕ) (u : Forest Named) (t : Term) → node_at n (nameless [] u) ≡ some t
    → (sc : List ℕ) × (v : NamedTerm) × (node_at n u ≡ some v) × (t ≡ nameless_term sc v)
named_node n u t e =
    let r = stands_relabel enter nameless_label u [] (node_stands n (nameless [] u) t e) in (r.0, r.1, stands_node r.2, r.3)

-- Where nothing is bound outside a term, the scope around it does not count
pub scope_drop : (sc : List ℕ) (t : NamedTerm) → ClosedTerm (nameless_term sc t) → nameless_term sc t ≡ nameless_term [] t
scope_drop sc t h = one_injective (nameless_term sc t) (nameless_term [] t) (nameless_drop [] sc (one t) h)

pub punch_names : (ms : Marks) (sc : List ℕ) (t : NamedTerm) → punch_term ms (nameless_term sc t) ≡ nameless_term sc (punch_term ms t)
punch_names [] sc t = pair_eq refl (punch_nameless [] (enter t.0 sc) t.1)
punch_names (none ∷ ms) sc t = pair_eq refl (punch_nameless ms (enter t.0 sc) t.1)
punch_names (some i ∷ ms) sc t = refl
