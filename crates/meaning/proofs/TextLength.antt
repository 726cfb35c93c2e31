-- "A text is at most the input's length + 4 × the number of metavariables."
-- Each entry has 4 bytes besides its term's. The term's bytes are charged to a face of the problem: a value to the face of its
-- metavariable,
-- or to that of the application from whose hole it comes; a body to its function's first application.
--   hole_weight  the bytes at a hole that a body's walk found
--   charges     all that can be charged to a face
-- What one face is charged is at most the bytes that it faces and those of its own slot: a body has 3 bytes for each hole in place of those
-- that are there, and the values from a place's lowest hole have no more bytes than it.
use mathlib.Core.Path.{◌≡◌, refl, ap, sym, ◌∙◌, subst}
use mathlib.Core.Logic.{◌⊎◌, inl, inr, ⊎_elim}
use Prim.Native.Nat.{ℕ, ◌+◌, ◌-◌, ◌*◌, ◌≤◌}
use mathlib.Core.Bool.{true}
use mathlib.Core.List.Memᴰ
use mathlib.Core.List.{List, [], ◌∷◌, map}
use mathlib.Core.Option.{Option, none, some}
use native.Mathlib.Omega.{arith}
use lib.ListN.{length, drop}
use Rattle.meaning.specs.Basics.{each, up_to, ◌∈◌, and_then, or_none}
use Rattle.meaning.specs.Term.{nil, cons, one, size, trees, own, slot, Slot, metavariable, function, hole, Variable, NamedTerm, Terms}
use Rattle.meaning.specs.Term.{Term, IsExpression}
use Rattle.meaning.specs.Lower.{lower_term}
use Rattle.meaning.specs.Problem.{Problem, named_patterns, named_expressions, patterns, expressions, plain, applied, functions}
use Rattle.meaning.specs.Problem.{metavariables}
use Rattle.meaning.specs.Filling.{plug_handler, argument, Entry, absent, left_open, value, body, fill_handler}
use Rattle.meaning.specs.Face.{Face, walk}
use Rattle.meaning.specs.Agree.{Satisfied}
use Rattle.meaning.specs.Choice.{Marks, punch}
use Rattle.meaning.specs.Row.{Row, face_of, choice_in, row_body}
use Rattle.meaning.specs.Value.{Source, source_at, source_of, lowest_hole, from_hole, from_application, sources_in, sources, lookup}
use Rattle.meaning.specs.Candidate.{given, candidate, solves}
use Rattle.meaning.specs.Field.{encode, encode_problem}
use Rattle.meaning.specs.Readable.{Accepted}
use Rattle.meaning.specs.Text.{Item, entry_of, text_of, meant}
use Rattle.meaning.specs.Encoded.{encode_entry, encode_text}
use Rattle.meaning.proofs.Lists.{mem_map, mem_each, each_mem, distinct_count_from}
use Rattle.meaning.proofs.ByteLaws.{field_length}
use Rattle.meaning.proofs.Proper.{Proper, accepted_proper}
use Rattle.meaning.proofs.Slots.{slots, face_slot, pattern_slot, slot_applied, faces_expression}
use Rattle.meaning.proofs.Sources.{Walked, walked, lowest_is, arguments, plugged}
use Rattle.meaning.proofs.Candidate.{lookup_is, candidate_function, candidate_plain}
use Rattle.meaning.proofs.RowBodies.{FaceOf, face_of_lem, face_expression, body_row}
use Rattle.meaning.proofs.Solutions.{passes_walk, passes_faces}
use Rattle.meaning.proofs.TextLaws.{metavariables_once, by_kind, text_entry}
use Rattle.meaning.proofs.Sums.{total, total_append, total_each, total_map, total_add, total_same, total_most, length_each}
use Rattle.meaning.proofs.Sums.{length_up_to, Charge, amount, charged_once}
use Rattle.meaning.proofs.Weights.{weight, label_weight, encode_weight, trees_weight, nameless_weight, lower_weight, faced, slotted}
use Rattle.meaning.proofs.Weights.{walk_weight, problem_weight}

-- The values that come from some faces, or from a hole, have at most the bytes there
abbrev given_weight : Source → ℕ
given_weight s = weight (one s.term)

source_most : (xs : List Face) → total given_weight (each source_of xs) ≤ total faced xs
source_most [] = omega arith
source_most (x ∷ xs) =
    let a = total_append given_weight (source_of x) (each source_of xs) in
    let b : total given_weight (source_of x) ≤ faced x = go x.what in
    let r = source_most xs in
    omega arith
  where
    go : (z : Slot) → total given_weight (source_at z x.node x.term) ≤ faced x
    go (metavariable m) = omega arith
    go (function f n) = omega arith
    go (hole i) = omega arith

abbrev hole_weight : Option Face → ℕ
hole_weight none = 0
hole_weight (some h) = faced h

hole_most : (k : ℕ) (t : Term) (o : Option Face) → total given_weight (from_hole k t o) ≤ hole_weight o
hole_most k t none = omega arith
hole_most k t (some h) = go (lower_term h.under h.term) refl
  where
    at : (u : Term) → lower_term h.under h.term ≡ some u → (o : Option (List Face)) → walk k h.node (one t) (one u) ≡ o
        → total given_weight (each source_of (or_none o)) ≤ faced h
    at u e none q = omega arith
    at u e (some xs) q =
        let a = source_most xs in
        let b = walk_weight k h.node (one t) (one u) xs q in
        let c : weight (one u) ≡ faced h = lower_weight h.under h.term u e in
        omega arith

    go : (o : Option Term) → lower_term h.under h.term ≡ o
        → total given_weight (each source_of (or_none (and_then o (λ u. walk k h.node (one t) (one u))))) ≤ faced h
    go none e = omega arith
    go (some u) e = at u e (walk k h.node (one t) (one u)) refl

-- A punched expression has only holes for slots, and each has 3 bytes
punched_slots : (ms : Marks) (u : Terms) → IsExpression u → (z : Slot) (c : Terms) → (z, c) ∈ slots (punch ms u)
    → weight (one (slot z, c)) ≡ 3
punched_slots ms nil h z c q = absurd (Memᴰ.not-nil q)
punched_slots ms (cons (slot y) d s) h z c q = absurd h.0
punched_slots [] (cons (own o) d s) h z c q =
    ⊎_elim (punched_slots [] d h.1 z c) (punched_slots (drop (size d) []) s h.2 z c) (Memᴰ.append_cases (slots (punch [] d)) q)
punched_slots (none ∷ ms) (cons (own o) d s) h z c q =
    ⊎_elim (punched_slots ms d h.1 z c) (punched_slots (drop (size d) ms) s h.2 z c) (Memᴰ.append_cases (slots (punch ms d)) q)
punched_slots (some i ∷ ms) (cons (own o) d s) h z c q =
    ⊎_elim (λ (e : ◌≡◌ {A = Slot × Terms} (z, c) (hole i, nil)). ap (λ (y : Slot × Terms). weight (one (slot y.0, y.1))) e)
    (punched_slots (drop (size d) ms) s h.2 z c) (Memᴰ.cases_cons q)

-- One application with the body b: ys are the holes of b where it meets the term t
abbrev hole_number : Slot → ℕ
hole_number (metavariable m) = 0
hole_number (function f n) = 0
hole_number (hole i) = i

-- What a hole has beyond its own 3 bytes
abbrev beyond : Face → Charge
beyond y = (hole_number y.what, faced y - 3)

abbrev beyond_lowest : List Face → ℕ → ℕ
beyond_lowest ys i = hole_weight (lowest_hole i ys) - 3

lowest_most : (n : ℕ) (ys : List Face) → total (λ i. hole_weight (lowest_hole i ys)) (up_to n) ≤ 3 * n + total (λ y. faced y - 3) ys
lowest_most n ys =
    let a : total (λ i. hole_weight (lowest_hole i ys)) (up_to n) ≤ total (λ i. 3 + beyond_lowest ys i) (up_to n) =
    total_most (λ i. hole_weight (lowest_hole i ys)) (λ i. 3 + beyond_lowest ys i) (up_to n) (λ i m. omega arith) in
    let b : total (λ i. 3 + beyond_lowest ys i) (up_to n) ≡ total (λ i. 3) (up_to n) + total (beyond_lowest ys) (up_to n) =
    total_add (λ i. 3) (beyond_lowest ys) (up_to n) in
    let c : total (λ i. 3) (up_to n) ≡ 3 * length (up_to n) = total_same 3 (up_to n) in
    let d : length (up_to n) ≡ n = length_up_to n in
    let e : total (beyond_lowest ys) (up_to n) ≤ total amount (map beyond ys) =
    charged_once (beyond_lowest ys) (up_to n) (map beyond ys) (distinct_count_from 0 n) (λ i m. charged i (lowest_hole i ys) refl) in
    let f : total amount (map beyond ys) ≡ total (λ y. faced y - 3) ys = total_map amount beyond ys in
    omega arith
  where
    charged : (i : ℕ) (o : Option Face) → lowest_hole i ys ≡ o → (hole_weight o - 3 ≡ 0) ⊎ ((i, hole_weight o - 3) ∈ map beyond ys)
    charged i none e = inl (omega arith)
    charged i (some h) e =
        let l = lowest_is i ys h e in
        inr (subst (λ (k : ℕ). (k, faced h - 3) ∈ map beyond ys) (ap hole_number l.1) (mem_map beyond l.0))

application_most : (places n k : ℕ) (b t : Term) (a : ℕ → Term) (ys : List Face) → walk 0 n (one b) (one t) ≡ some ys
    → ((y : Face) → y ∈ ys → slotted y ≡ 3)
    → weight (one b) + total given_weight (each (λ i. from_hole k (a i) (lowest_hole i ys)) (up_to places)) ≤ weight (one t) + 3 * places
application_most places n k b t a ys q three =
    let w = walk_weight 0 n (one b) (one t) ys q in
    let s : total slotted ys ≤ total (λ y. 3) ys =
    total_most slotted (λ y. 3) ys (λ y m. let e : slotted y ≡ 3 = three y m in omega arith) in
    let f : total (λ y. 3 + (faced y - 3)) ys ≤ total faced ys =
    total_most (λ y. 3 + (faced y - 3)) faced ys (λ y m. let e : 3 * 1 ≤ faced y = trees_weight (one y.term) in omega arith) in
    let g : total (λ y. 3 + (faced y - 3)) ys ≡ total (λ y. 3) ys + total (λ y. faced y - 3) ys =
    total_add (λ y. 3) (λ y. faced y - 3) ys in
    let l = lowest_most places ys in
    let i : total given_weight (each (λ j. from_hole k (a j) (lowest_hole j ys)) (up_to places))
    ≡ total (λ j. total given_weight (from_hole k (a j) (lowest_hole j ys))) (up_to places) =
    total_each given_weight (λ j. from_hole k (a j) (lowest_hole j ys)) (up_to places) in
    let j : total (λ j. total given_weight (from_hole k (a j) (lowest_hole j ys))) (up_to places) ≤ total (λ j. hole_weight (lowest_hole j ys))
    (up_to places) =
    total_most (λ j. total given_weight (from_hole k (a j) (lowest_hole j ys))) (λ j. hole_weight (lowest_hole j ys)) (up_to places)
    (λ j m. hole_most k (a j) (lowest_hole j ys)) in
    omega arith

-- What is charged to a face
abbrev source_charge : Source → Charge
source_charge s = (s.number, given_weight s)

abbrev charges_at : (ℕ → Term) → Face → Slot → List Charge
charges_at b x (metavariable m) = (m, faced x) ∷ []
charges_at b x (function f n) = (f, weight (one (b f))) ∷ map source_charge (from_application b x (function f n))
charges_at b x (hole i) = []

abbrev charges : (ℕ → Term) → Face → List Charge
charges b x = charges_at b x x.what

face_charged : (b : ℕ → Term) (x : Face) (z : Slot) (s : Source) → s ∈ source_at z x.node x.term → source_charge s ∈ charges_at b x z
face_charged b x (metavariable m) s q = Memᴰ.head (ap source_charge (Memᴰ.eq_of_singleton q))
face_charged b x (function f n) s q = absurd (Memᴰ.not-nil q)
face_charged b x (hole i) s q = absurd (Memᴰ.not-nil q)

application_charged : (b : ℕ → Term) (x : Face) (z : Slot) (s : Source) → s ∈ from_application b x z → source_charge s ∈ charges_at b x z
application_charged b x (metavariable m) s q = absurd (Memᴰ.not-nil q)
application_charged b x (function f n) s q = Memᴰ.tail (mem_map source_charge q)
application_charged b x (hole i) s q = absurd (Memᴰ.not-nil q)

source_charged : (b : ℕ → Term) (xs : List Face) (s : Source) → s ∈ sources_in b xs → source_charge s ∈ each (charges b) xs
source_charged b xs s q =
    ⊎_elim
    (λ m. let y = each_mem source_of s xs m in
    mem_each (charges b) y.0 (source_charge s) xs y.1 (face_charged b y.0 y.0.what s y.2))
    (λ m. let y = each_mem (λ x. from_application b x x.what) s xs m in
    mem_each (charges b) y.0 (source_charge s) xs y.1 (application_charged b y.0 y.0.what s y.2))
    (Memᴰ.append_cases (each source_of xs) q)

abbrev entry_weight : Entry Term → ℕ
entry_weight absent = 0
entry_weight left_open = 0
entry_weight (value t) = weight (one t)
entry_weight (body t) = weight (one t)

module _ (p : Problem) (r : Row) (ok : Accepted p) (e : solves p r ≡ true) where
  abbrev bodies : ℕ → Term
  bodies = row_body p r

  proper : Proper p
  proper = accepted_proper p ok

  abbrev the_faces : Walked (fill_handler (candidate p r)) 0 0 (patterns p) (expressions p)
  the_faces = passes_walk p r e

  -- The slots of a row's body
  body_slots : (f : ℕ) → f ∈ applied (patterns p) → (z : Slot) (c : Terms) → (z, c) ∈ slots (one (bodies f)) → weight (one (slot z, c)) ≡ 3
  body_slots f a z c q =
      let ms : Marks = choice_in (functions p) r f in
      punched_slots ms (one (face_of p f)) (face_expression p proper the_faces.found (passes_faces p r e) f a) z c
      (subst (λ (u : Terms). ◌∈◌ {A = Slot × Terms} (z, c) (slots u)) (body_row p r f) q)

  function_most : (x : Face) → x ∈ the_faces.found → (f n : ℕ) → x.what ≡ function f n
      → total amount (charges_at bodies x (function f n)) ≤ faced x + slotted x
  function_most x m f n h =
      let there : ◌∈◌ {A = Slot × Terms} (function f n, x.children) (slots (patterns p)) =
      subst (λ (z : Slot). ◌∈◌ {A = Slot × Terms} (z, x.children) (slots (patterns p))) h
      (face_slot 0 0 (patterns p) (expressions p) the_faces.found x the_faces.defined m) in
      let shape = pattern_slot (patterns p) proper.pattern f n x.children there in
      let a : f ∈ applied (patterns p) = slot_applied (patterns p) f n x.children there in
      let ex : IsExpression (one x.term) =
      faces_expression 0 0 (patterns p) (expressions p) the_faces.found proper.expression the_faces.defined x m in
      let sat : Satisfied (fill_handler (candidate p r)) x = the_faces.satisfied x m in
      let args : ℕ → Term = arguments (candidate p r) (bodies f) f n x (candidate_function p r f a) h shape ex sat in
      let w : Walked (plug_handler args) 0 x.node (one (bodies f)) (one x.term) =
      walked (plug_handler args) 0 x.node (one (bodies f)) (one x.term)
      (ap (λ (t : Term). one t) (plugged (candidate p r) (bodies f) f n x (candidate_function p r f a) h shape ex sat)) in
      let q = application_most n x.node x.under (bodies f) x.term (argument x.children) w.found w.defined
      (λ y i. body_slots f a y.what y.children
      (face_slot 0 x.node (one (bodies f)) (one x.term) w.found y w.defined i)) in
      let same : from_application bodies x (function f n)
      ≡ each (λ i. from_hole x.under (argument x.children i) (lowest_hole i w.found)) (up_to n) =
      ap (λ (o : Option (List Face)). each (λ i. from_hole x.under (argument x.children i) (lowest_hole i (or_none o))) (up_to n))
      w.defined in
      let s : total amount (map source_charge (from_application bodies x (function f n)))
      ≡ total given_weight (each (λ i. from_hole x.under (argument x.children i) (lowest_hole i w.found)) (up_to n)) =
      total_map amount source_charge (from_application bodies x (function f n)) ∙ ap (total given_weight) same in
      let c : 3 * trees x.children ≤ weight x.children = trees_weight x.children in
      let t : trees x.children ≡ n = shape.0 in
      let l : label_weight {X = Variable} {B = Unit {0}} (slot x.what)
      ≡ 4 = ap (λ (z : Slot). label_weight {X = Variable} {B = Unit {0}} (slot z)) h in
      omega arith

  face_most : (x : Face) → x ∈ the_faces.found → total amount (charges bodies x) ≤ faced x + slotted x
  face_most x m = go x.what refl
    where
      go : (z : Slot) → x.what ≡ z → total amount (charges_at bodies x z) ≤ faced x + slotted x
      go (metavariable k) h = omega arith
      go (function f n) h = function_most x m f n h
      go (hole i) h = omega arith

  charges_most : total amount (each (charges bodies) the_faces.found) ≤ weight (patterns p) + weight (expressions p)
  charges_most =
      let a = total_each amount (charges bodies) the_faces.found in
      let b : total (λ x. total amount (charges bodies x)) the_faces.found ≤ total (λ x. faced x + slotted x) the_faces.found =
      total_most (λ x. total amount (charges bodies x)) (λ x. faced x + slotted x) the_faces.found face_most in
      let c = total_add faced slotted the_faces.found in
      let d = walk_weight 0 0 (patterns p) (expressions p) the_faces.found the_faces.defined in
      omega arith

  -- Each metavariable that occurs is open, or what it is given is charged to a face
  entry_charged : (m : ℕ) → m ∈ metavariables p
      → (entry_weight (candidate p r m) ≡ 0) ⊎ ((m, entry_weight (candidate p r m)) ∈ each (charges bodies) the_faces.found)
  entry_charged m h = by_kind p m h as_function as_other
    where
      as_function : m ∈ applied (patterns p)
          → (entry_weight (candidate p r m) ≡ 0) ⊎ ((m, entry_weight (candidate p r m)) ∈ each (charges bodies) the_faces.found)
      as_function a =
          let x : FaceOf p the_faces.found m = face_of_lem p proper the_faces.found (passes_faces p r e) m a in
          let i : (m, weight (one (bodies m))) ∈ charges bodies x.face =
          subst (λ (z : Slot). (m, weight (one (bodies m))) ∈ charges_at bodies x.face z) (sym x.applies) (Memᴰ.head refl) in
          inr (subst (λ (y : Entry Term). (m, entry_weight y) ∈ each (charges bodies) the_faces.found) (sym (candidate_function p r m a))
          (mem_each (charges bodies) x.face (m, weight (one (bodies m))) the_faces.found x.among i))

      found : (o : Option Source) → lookup m (sources p r) ≡ o
          → (entry_weight (given o) ≡ 0) ⊎ ((m, entry_weight (given o)) ∈ each (charges bodies) the_faces.found)
      found none q = inl refl
      found (some s) q =
          let l = lookup_is m (sources p r) s q in
          let i : s ∈ sources_in bodies the_faces.found =
          subst (λ (o : Option (List Face)). s ∈ sources_in bodies (or_none o)) (passes_faces p r e) l.0 in
          inr (subst (λ (k : ℕ). (k, given_weight s) ∈ each (charges bodies) the_faces.found) l.1
          (source_charged bodies the_faces.found s i))

      as_other : (m ∈ applied (patterns p) → ⊥) → m ∈ plain (patterns p)
          → (entry_weight (candidate p r m) ≡ 0) ⊎ ((m, entry_weight (candidate p r m)) ∈ each (charges bodies) the_faces.found)
      as_other a b =
          subst (λ (y : Entry Term). (entry_weight y ≡ 0) ⊎ ((m, entry_weight y) ∈ each (charges bodies) the_faces.found))
          (sym (candidate_plain p r m a b))
          (found (lookup m (sources p r)) refl)

  entries_most : total (λ m. entry_weight (candidate p r m)) (metavariables p) ≤ weight (patterns p) + weight (expressions p)
  entries_most =
      let a = charged_once (λ m. entry_weight (candidate p r m)) (metavariables p) (each (charges bodies) the_faces.found)
      (metavariables_once p) entry_charged in
      let b = charges_most in
      omega arith

-- The bytes of one entry
entry_length : (m : ℕ) (y : Entry NamedTerm) → length (encode_entry m y) ≤ 4 + entry_weight (meant y)
entry_length m absent = omega arith
entry_length m left_open = let a = field_length 11 (m ∷ []) in omega arith
entry_length m (value t) =
    let a = field_length 8 (m ∷ encode (one t)) in
    let b = encode_weight (one t) in
    let c = nameless_weight [] (one t) in
    omega arith
entry_length m (body t) =
    let a = field_length 9 (m ∷ encode (one t)) in
    let b = encode_weight (one t) in
    let c = nameless_weight [] (one t) in
    omega arith

-- THE TEXT'S LENGTH
pub text_length : (p : Problem) (r : Row) → Accepted p → solves p r ≡ true
    → length (encode_text (text_of p r)) ≤ length (encode_problem p) + 4 * length (metavariables p)
unfolding encode_text text_of
text_length p r ok e =
    let a : length (encode_text (text_of p r)) ≡ total (λ (i : Item). length (encode_entry i.0 i.1)) (text_of p r) =
    length_each (λ (i : Item). encode_entry i.0 i.1) (text_of p r) in
    let b : total (λ (i : Item). length (encode_entry i.0 i.1)) (text_of p r)
    ≡ total (λ m. length (encode_entry m (entry_of p r m))) (metavariables p) =
    total_map (λ (i : Item). length (encode_entry i.0 i.1)) (λ m. (m, entry_of p r m)) (metavariables p) in
    let c : total (λ m. length (encode_entry m (entry_of p r m))) (metavariables p) ≤ total (λ m. 4 + entry_weight (candidate p r m))
    (metavariables p) =
    total_most (λ m. length (encode_entry m (entry_of p r m))) (λ m. 4 + entry_weight (candidate p r m)) (metavariables p) entry in
    let d : total (λ m. 4 + entry_weight (candidate p r m)) (metavariables p)
    ≡ total (λ m. 4) (metavariables p) + total (λ m. entry_weight (candidate p r m)) (metavariables p) =
    total_add (λ m. 4) (λ m. entry_weight (candidate p r m)) (metavariables p) in
    let f : total (λ m. 4) (metavariables p) ≡ 4 * length (metavariables p) = total_same 4 (metavariables p) in
    let g = entries_most p r ok e in
    let h = problem_weight p in
    let i : weight (patterns p) ≡ weight (named_patterns p) = nameless_weight [] (named_patterns p) in
    let j : weight (expressions p) ≡ weight (named_expressions p) = nameless_weight [] (named_expressions p) in
    omega arith
  where
    entry : (m : ℕ) → m ∈ metavariables p → length (encode_entry m (entry_of p r m)) ≤ 4 + entry_weight (candidate p r m)
    entry m q =
        let a = entry_length m (entry_of p r m) in
        let b : entry_weight (meant (entry_of p r m)) ≡ entry_weight (candidate p r m) = ap entry_weight (text_entry p r ok e m q) in
        omega arith
