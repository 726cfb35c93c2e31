-- Reading and checking is acceptance: `table`'s reading followed by the checks of `faces` gives `meaning`'s answer, for all bytes.
--   s          the bytes
--   o, p       the table of patterns before and after; x, y, that of expressions; old, new, that of faces
--   n          how many tokens are read of patterns and of expressions, and how many constraints
use mathlib.Core.Path.{◌≡◌, refl, ap, sym, ◌∙◌, subst}
use mathlib.Core.List.{List, [], ◌∷◌, ◌++◌}
use mathlib.Core.Option.{Option, none}
use Rattle.std.specs.Prelude.{Result, Ok, Err, Some, None, MatchOption}
use Rattle.std.specs.Prelude as std
use Prim.Native.Nat.{ℕ, suc, ◌<◌, ◌≤◌}
use native.Mathlib.Omega.{arith}
use lib.ListN.{length, take, drop, get_or, length-append, length-take}
use lib.Seq.{take_at, length-take-le}
use Rattle.std.proofs.Common.{Fits, w8, Bor}
use Rattle.meaning.specs.Basics.{All}
use Rattle.meaning.specs.Term.{Term}
use Rattle.meaning.specs.Problem.{Problem, named_patterns, named_expressions}
use Rattle.meaning.specs.Face.{Face, faces}
use Rattle.meaning.specs.Read.{Answer, refused, got, after, read_problem}
use Rattle.meaning.specs.Readable.{WithinLimits}
use Rattle.meaning.specs.Accept.{accept}
use Rattle.meaning.proofs.ProblemReading.{read_within, accept_accepted}
use Rattle.tokens.specs.Token.{pattern_tokens, expression_tokens, Table}
use Rattle.tokens.proofs.TokenParts.{tokens_length}
use Rattle.tokens.proofs.ProblemTokens.{nodes_few, pattern_table_lem, expression_table_lem}
use Rattle.lockstep.specs.Recorded.{RecordedBy}
use Rattle.faces.specs.Check.{Checked, CheckedBy}
use Rattle.faces.specs.Recorded.{Recorded}
use Rattle.faces.specs.Verdict.{answer_of, Says}
use Rattle.faces.proofs.CheckMeaning.{check_means, check_answer_lem}
use Rattle.table.specs.Whole.{table_room, ProblemDone}
use Rattle.table.specs.declared.answer.Read.{Read}
use Rattle.table.proofs.ProblemLaws.{TablesOf, read_refused, read_accepted}
use Rattle.accept.specs.Acceptance.{Checks, FacesFound, FacesAt, Kept, Accepts, Stands, AcceptsLent}
use Rattle.accept.specs.declared.Filled.{Filled}
use Rattle.accept.specs.declared.Standing.{Standing}
use Rattle.refusal.specs.Number.{number}
use Rattle.refusal.specs.declared.Refusal.{Refusal}

abbrev pub AreBytes : List ℕ → Type 0
AreBytes s = All (λ b. b < 256) s

-- What the code knows of a slice of bytes
pub are_bytes_lem : (s : List ℕ) → ((i : ℕ) → get_or s i 0 < 256) → AreBytes s
are_bytes_lem [] h = tt
are_bytes_lem (x ∷ s) h = (h 0, are_bytes_lem s (λ i. h (suc i)))

pub bytes_fit : (s : List ℕ) → ((i : ℕ) → Fits w8 (get_or s i 0)) → AreBytes s
bytes_fit s h = are_bytes_lem s (λ i. (h i).fits)

-- The fronts of the tables after reading
module _ (s o p x y : List ℕ) (b : AreBytes s) (n : Read) (d : ProblemDone (read_problem s) o p x y (Ok n)) where
  tables : TablesOf s o p x y n
  tables = read_accepted s o p x y d

  within : WithinLimits tables.problem
  within = read_within s tables.problem b tables.reads

  pattern_front : take n.patterns p ≡ pattern_tokens tables.problem
  pattern_front =
      ap (take n.patterns) tables.pattern_table
      ∙ take_at (pattern_tokens tables.problem) (drop n.patterns o) n.patterns (sym tables.pattern_nodes)

  expression_front : take n.expressions y ≡ expression_tokens tables.problem
  expression_front =
      ap (take n.expressions) tables.expression_table
      ∙ take_at (expression_tokens tables.problem) (drop n.expressions x) n.expressions (sym tables.expression_nodes)

  -- What `check` wants of them
  pub pattern_ready : Table (take n.patterns p)
  pattern_ready = rw pattern_front (pattern_table_lem tables.problem within)

  pub expression_ready : Table (take n.expressions y)
  expression_ready = rw expression_front (expression_table_lem tables.problem within)

  -- They lie in the tables, and the faces have room for one for each node of the patterns
  pub patterns_inside_lem : n.patterns ≤ length p
  patterns_inside_lem =
      omega
      (arith, ap length tables.pattern_table, length-append (pattern_tokens tables.problem) (drop n.patterns o), tables.pattern_nodes)

  pub expressions_inside_lem : n.expressions ≤ length y
  expressions_inside_lem =
      omega (
        arith,
        ap length tables.expression_table,
        length-append (expression_tokens tables.problem) (drop n.expressions x),
        tables.expression_nodes,
      )

  pub patterns_long : n.patterns ≡ length (take n.patterns p)
  patterns_long = sym (length-take-le n.patterns p patterns_inside_lem)

  pub expressions_long : n.expressions ≡ length (take n.expressions y)
  expressions_long = sym (length-take-le n.expressions y expressions_inside_lem)

  pub few_tokens : length (take n.patterns p) ≤ table_room
  unfolding pattern_tokens
  few_tokens =
      omega (arith, ap length pattern_front, tokens_length [] (named_patterns tables.problem), nodes_few tables.problem within)

-- READING AND CHECKING IS ACCEPTANCE: c is what the checks answer on the fronts of the tables, where a problem was read
pub reading_checking : (s o p x y : List ℕ) → AreBytes s → (r : Result Read Refusal) → ProblemDone (read_problem s) o p x y r
    → (old new : List ℕ) (c : Checked)
    → ((n : Read) → r ≡ Ok n → CheckedBy (take n.patterns p) (take n.expressions y) old new c)
    → accept s ≡ after (read_problem s) (λ q. answer_of q c)
unfolding accept
reading_checking s o p x y b (Err e) d old new c h = rw (read_refused s o p x y d)
reading_checking s o p x y b (Ok n) d old new c h =
    let t = tables s o p x y b n d in
    let front = rw (pattern_front s o p x y b n d, expression_front s o p x y b n d) at (h n refl) in
    rw t.reads (check_answer_lem t.problem (within s o p x y b n d) old new c front)

-- What the checks say of the problem that was read
length_recorded : (p e : ℕ → Option Term) (d : ℕ → ℕ) (ns : List ℕ) (xs : List Face) → RecordedBy p e d ns xs → length ns ≡ length xs
length_recorded p e d [] [] r = refl
length_recorded p e d [] (x ∷ xs) r = absurd r
length_recorded p e d (n ∷ ns) [] r = absurd r
length_recorded p e d (n ∷ ns) (x ∷ xs) r = ap suc (length_recorded p e d ns xs r.1)

counted : (ns : List ℕ) (n : ℕ) (xs : List Face) (p : Problem) → Recorded p (take n ns) xs → length xs ≡ n → n ≤ length ns
counted ns n xs p r l = let m = length_recorded _ _ _ (take n ns) xs r in let k = length-take n ns in omega arith

faces_at : (q : Problem) (new : List ℕ) (o : std.Option ℕ) → Says q new (Ok o) → FacesAt q new o
faces_at q new None h = h.1
faces_at q new (Some n) h =
    (counted new n h.found q h.recorded h.count, record { found = h.found; agree = h.agree; recorded = h.recorded }, h.count)

-- The returns of `accept`
pub accepts_refused : (s o p x y new : List ℕ) {r : Refusal} → ProblemDone (read_problem s) o p x y (Err r)
    → Accepts (accept s) o p x y new (Err r)
unfolding accept Accepts
accepts_refused s o p x y new d = rw (read_refused s o p x y d)

module _ (s o p x y : List ℕ) (b : AreBytes s) (n : Read) (d : ProblemDone (read_problem s) o p x y (Ok n)) (old new : List ℕ) where
  answered : (c : Checked) → CheckedBy (take n.patterns p) (take n.expressions y) old new c → accept s ≡ answer_of (tables s o p x y b n d).problem c
  answered c h =
      reading_checking s o p x y b (Ok n) d old new c (λ m e. let same : n ≡ m = cc in rw (← same) h)
      ∙ rw (tables s o p x y b n d).reads

  pub accepts_checked : (r : Result Filled Refusal) → Checks (take n.patterns p) (take n.expressions y) old new r → Accepts (accept s) o p x y new r
  unfolding Accepts
  accepts_checked (Err r) h = answered (Err r) h
  accepts_checked (Ok a) h =
      let t = tables s o p x y b n d in
      let front = rw (pattern_front s o p x y b n d, expression_front s o p x y b n d) at h in
      let says = check_means t.problem (within s o p x y b n d) old new (Ok a.faces) front.check in
      let is_got : accept s ≡ got t.problem = answered (Ok a.faces) h.check in (
        t.problem,
        is_got,
        record {
          accepted = (accept_accepted s t.problem b is_got).0;
          patterns = front.patterns;
          expressions = front.expressions;
          pattern_table = t.pattern_table ∙ ap (λ (i : ℕ). pattern_tokens t.problem ++ drop i o) (t.pattern_nodes ∙ sym front.patterns);
          expression_table =
              t.expression_table
              ∙ ap (λ (i : ℕ). expression_tokens t.problem ++ drop i x) (t.expression_nodes ∙ sym front.expressions);
          survey = front.survey;
          faces = faces_at t.problem new a.faces says;
        },
      )

-- What `accept` leaves is what `accept_lent` lends
front : (xs later ys : List ℕ) (n : ℕ) → n ≡ length xs → ys ≡ xs ++ later → (take n ys ≡ xs) × (n ≤ length ys)
front xs later ys n l e = (ap (take n) e ∙ take_at xs later n (sym l), omega (arith, ap length e, length-append xs later))

-- The faces that are lent are those at the front
abbrev pub FrontOf : List ℕ → std.Option ℕ → std.Option (Bor (List ℕ)) → Type 0
FrontOf fs o r = MatchOption r (o ≡ None) (λ (lent : Bor (List ℕ)). (n : ℕ) × (o ≡ Some n) × (lent.now ≡ take n fs))

lent_faces : (p : Problem) (fs : List ℕ) (o : std.Option ℕ) (r : std.Option (Bor (List ℕ))) → FacesAt p fs o → FrontOf fs o r
    → MatchOption r (faces p ≡ none) (λ (lent : Bor (List ℕ)). FacesFound p lent.now)
lent_faces p fs o None h e = subst (FacesAt p fs) e h
lent_faces p fs o (Some lent) h (n, e, l) = let at = subst (FacesAt p fs) e h in rw l at.1

-- What the answer tells a caller: a refusal is document 01's,
module _ (x : Answer Problem) (ps ps' es es' fs' : List ℕ) where
  pub verdict_refused : (r : Refusal) → Accepts x ps ps' es es' fs' (Err r) → x ≡ refused (number r)
  unfolding Accepts
  verdict_refused r h = h

  pub filled_refused : (r : Refusal) → Accepts x ps ps' es es' fs' (Err r) → AcceptsLent x (Err r)
  unfolding AcceptsLent
  filled_refused r h = verdict_refused r h

  -- ... and otherwise the problem that document 01 accepts stands in the tables, with no entry after it changed
  pub verdict_accepted : (a : Filled) → Accepts x ps ps' es es' fs' (Ok a) → (p : Problem) × (x ≡ got p) × Kept p ps ps' es es' fs' a
  unfolding Accepts
  verdict_accepted a h = h

  module _ (a : Filled) (h : Accepts x ps ps' es es' fs' (Ok a)) where
    abbrev pub kept : (p : Problem) × (x ≡ got p) × Kept p ps ps' es es' fs' a
    kept = verdict_accepted a h

    pub patterns_front : (take a.patterns ps' ≡ pattern_tokens kept.0) × (a.patterns ≤ length ps')
    patterns_front = front (pattern_tokens kept.0) (drop a.patterns ps) ps' a.patterns kept.2.patterns kept.2.pattern_table

    pub expressions_front : (take a.expressions es' ≡ expression_tokens kept.0) × (a.expressions ≤ length es')
    expressions_front =
        front (expression_tokens kept.0) (drop a.expressions es) es' a.expressions kept.2.expressions kept.2.expression_table

    -- The fronts are inside the tables
    pub filled_patterns : a.patterns ≡ length (take a.patterns ps')
    filled_patterns = sym (length-take-le a.patterns ps' patterns_front.1)

    pub filled_expressions : a.expressions ≡ length (take a.expressions es')
    filled_expressions = sym (length-take-le a.expressions es' expressions_front.1)

    pub filled_faces : (n : ℕ) → a.faces ≡ Some n → n ≡ length (take n fs')
    filled_faces n e = sym (length-take-le n fs' (subst (FacesAt kept.0 fs') e kept.2.faces).0)

    -- ... and the problem, where they are lent
    pub filled_lent : (r : Standing) → r.patterns.now ≡ take a.patterns ps' → r.expressions.now ≡ take a.expressions es'
        → r.occurring ≡ a.occurring → FrontOf fs' a.faces r.faces → AcceptsLent x (Ok r)
    unfolding AcceptsLent
    filled_lent r e f o g = (
      kept.0,
      kept.1,
      record {
        accepted = kept.2.accepted;
        patterns = e ∙ patterns_front.0;
        expressions = f ∙ expressions_front.0;
        survey = rw o kept.2.survey;
        faces = lent_faces kept.0 fs' a.faces r.faces kept.2.faces g;
      },
    )

-- What the answer that is lent tells a caller
pub lent_refused : (x : Answer Problem) (r : Refusal) → AcceptsLent x (Err r) → x ≡ refused (number r)
unfolding AcceptsLent
lent_refused x r h = h

pub lent_accepted : (x : Answer Problem) (a : Standing) → AcceptsLent x (Ok a) → (p : Problem) × (x ≡ got p) × Stands p a
unfolding AcceptsLent
lent_accepted x a h = h

-- ... in tables with room for every problem
pub patterns_few : (p : Problem) → WithinLimits p → (t : List ℕ) → t ≡ pattern_tokens p → length t ≤ table_room
unfolding pattern_tokens
patterns_few p w t e = omega (arith, nodes_few p w, tokens_length [] (named_patterns p), ap length e)

pub expressions_few : (p : Problem) → WithinLimits p → (t : List ℕ) → t ≡ expression_tokens p → length t < table_room
unfolding expression_tokens
expressions_few p w t e = omega (arith, nodes_few p w, tokens_length [] (named_expressions p), ap length e)
