-- Constraints and problems: what the code finds is what document 01's reading says.
--   pair-..     what `read_pair` answers, for what is refused and for what is read
--   Reading     what the loop of `read_constraints` keeps: the constraints before `at` are read, their tokens the fronts of the tables;
--               with those that are left they are all
--   reading-..  its steps, and the returns of `read_constraints`
use Prim.Native.Nat.{ℕ, zero, suc, ◌+◌, ◌-◌, ◌*◌, ◌^◌, ◌≤◌, ◌<◌}
use mathlib.Core.Path.{◌≡◌, refl, sym, ap, ◌∙◌}
use native.Mathlib.Omega.{arith}
use mathlib.Core.List.{List, [], ◌∷◌, ◌++◌, append_assoc, append-nil, map, map-append}
use borrow.Rule.Slice.PartMut.{put_mid}
use native.Mathlib.Nat.{add-sub_cancel_left}
use lib.ListN.{length, take, drop, length-append, length-drop}
use lib.Seq.{drop-drop}
use lib.Dec.{eqb}
use borrow.Author.Tests.{ne_eqb, eq-eqb, lt-ltb, le-ltb}
use Rattle.meaning.specs.Basics.{choose, Bytes}
use Rattle.meaning.specs.Limits.{largest_problem, max_constraints, max_depth}
use Rattle.meaning.specs.Term.{one, NamedTerm}
use Rattle.meaning.specs.Problem.{Constraint, Problem, forest_of}
use Rattle.meaning.specs.Read.{Answer, refused, got, after, in_pattern, in_expression, read_term, read_pair}
use Rattle.meaning.specs.Read.{read_constraints, read_problem}
use Rattle.tokens.specs.Token.{tokens, pattern_tokens, expression_tokens}
use Rattle.terms.specs.Reading.{Written, TermDone}
use Rattle.table.specs.Whole.{Spaces, TopDone, pattern_row, expression_row, pair_answer, PairDone, problem_answer}
use Rattle.table.specs.Whole.{ProblemDone}
use Rattle.table.specs.declared.answer.Read.{Read}
use Rattle.table.specs.declared.problem.Pair.{Pair}
use Rattle.meaning.proofs.ByteLaws.{got_is, refused_not, by_choice}
use Rattle.terms.proofs.Bounds.{after_inv, after_none, after_twice, refused_got, still_refused, term_fine}
use Rattle.tokens.proofs.TokenParts.{tokens_length}
use Rattle.terms.proofs.Rows.{Row, row_more, row_none, row_space, tokens_more}
use Rattle.terms.proofs.TermLaws.{Taken, later_part, not_taken, taken}
use Rattle.slices.proofs.Slices.{part_length, rest_all}
use Rattle.terms.specs.declared.term.Took.{Took}
use Rattle.refusal.specs.Number.{number}
use Rattle.refusal.specs.declared.Refusal.{Refusal}
use Rattle.refusal.specs.declared.Refusal.TheVariants.{ProblemTooLong, InnerFields}
use Rattle.std.proofs.Common.{Result, Ok, Err}

-- A constraint
expression_of : NamedTerm → NamedTerm × Bytes → Answer Constraint
expression_of t e = choose (eqb (length e.1) 0) (got (record { pattern = t; expression = e.0 })) (refused 7)

pair_refused : {a : Answer Constraint} {o p x y : List ℕ} {r : Refusal} → a ≡ refused (number r) → PairDone a o p x y (Err r)
unfolding Written
pair_refused e = record { answer = rw e; pattern_table = rw (e, Written) tt; expression_table = rw (e, Written) tt }

pair_got : {a : Answer Constraint} {o p x y : List ℕ} {m n : ℕ} (c : Constraint) → a ≡ got c
    → m ≡ length (pattern_row c) → n ≡ length (expression_row c)
    → p ≡ pattern_row c ++ drop (length (pattern_row c)) o → y ≡ expression_row c ++ drop (length (expression_row c)) x
    → PairDone a o p x y (Ok (record { pattern = m; expression = n }))
unfolding Written
pair_got c e hm hn hp hy = record { answer = rw (e, hm, hn); pattern_table = rw (e, Written) hp; expression_table = rw (e, Written) hy }

-- The returns of `read_pair`
module _ (s o x : List ℕ) where
  pub pattern_refused : {r : Refusal} {p p' y : List ℕ} → TermDone [] s (read_term max_depth in_pattern s) o p (Err r)
      → PairDone (read_pair s) o p' x y (Err r)
  unfolding read_pair
  pattern_refused d = pair_refused (rw (not_taken d))

  -- The pattern is read, and the expression after it
  module _ {t : Took} {p : List ℕ} (d : TermDone [] s (read_term max_depth in_pattern s) o p (Ok t)) where
    pattern : Taken [] s (read_term max_depth in_pattern s) o p t
    pattern = taken [] s (read_term max_depth in_pattern s) o p t d

    abbrev remaining : Bytes
    remaining = take (length s - t.bytes) (drop t.bytes s)

    read_after : read_pair s ≡ after (read_term max_depth in_expression remaining) (expression_of pattern.term)
    unfolding read_pair expression_of
    read_after = rw (pattern.reads, later_part (read_term max_depth in_pattern) (term_fine max_depth in_pattern) [] s o p pattern)

    pub expression_refused : {r : Refusal} {p' y y' : List ℕ} → TermDone [] remaining (read_term max_depth in_expression remaining) x y (Err r)
        → PairDone (read_pair s) o p' x y' (Err r)
    expression_refused f = pair_refused (read_after ∙ rw (not_taken f))

    module _ {u : Took} {y : List ℕ} (f : TermDone [] remaining (read_term max_depth in_expression remaining) x y (Ok u)) where
      expression : Taken [] remaining (read_term max_depth in_expression remaining) x y u
      expression = taken [] remaining (read_term max_depth in_expression remaining) x y u f

      later_within : length expression.later ≤ length remaining
      later_within = omega (arith, (term_fine max_depth in_expression remaining (expression.term, expression.later) expression.reads).room)

      pub pair_over : {p' y' : List ℕ} → (u.bytes ≡ length remaining → ⊥) → PairDone (read_pair s) o p' x y' (Err InnerFields)
      unfolding expression_of
      pair_over z =
          let some : length expression.later ≡ 0 → ⊥ = λ e. z (omega (arith, expression.bytes_are)) in
          pair_refused (read_after ∙ rw (expression.reads, expression_of, ne_eqb (length expression.later) 0 some))

      pub pair_done : u.bytes ≡ length remaining → PairDone (read_pair s) o p x y (Ok (record { pattern = t.nodes; expression = u.nodes }))
      unfolding expression_of
      pair_done all =
          let none : length expression.later ≡ 0 = omega (arith, expression.bytes_are, later_within) in
          pair_got (record { pattern = pattern.term; expression = expression.term })
          (read_after ∙ rw (expression.reads, expression_of, eq-eqb (length expression.later) 0 none))
          pattern.nodes_are expression.nodes_are pattern.row expression.row

-- Room for constraints
pair_room : (s : Bytes) (c : Constraint) → read_pair s ≡ got c
    → (3 * length (pattern_row c) ≤ length s) × (3 * length (expression_row c) ≤ length s)
unfolding read_pair
pair_room s c h =
    let p = after_inv (read_term max_depth in_pattern s) _ h in
    let e = after_inv (read_term max_depth in_expression p.0.1) _ p.2 in
    let a = (term_fine max_depth in_pattern s p.0 p.1).room in
    let b = (term_fine max_depth in_expression p.0.1 e.0 e.1).room in
    by_choice (eqb (length e.0.1) 0) _ (refused 7) e.2
    (λ t q.
    let w : record { pattern = p.0.0; expression = e.0.0 } ≡ c = got_is q in
    rw (← w) (omega (arith, a, b, tokens_length [] (one p.0.0)), omega (arith, a, b, tokens_length [] (one e.0.0))))
    (λ t q. refused_got q)

pub record PairTaken (s : Bytes) (o p x y : List ℕ) (t : Pair) : Type 0 where
  pub constraint : Constraint
  pub reads : read_pair s ≡ got constraint
  pub pattern_nodes : t.pattern ≡ length (pattern_row constraint)
  pub expression_nodes : t.expression ≡ length (expression_row constraint)
  pub pattern_table : p ≡ pattern_row constraint ++ drop (length (pattern_row constraint)) o
  pub expression_table : y ≡ expression_row constraint ++ drop (length (expression_row constraint)) x
  pub pattern_room : 3 * t.pattern ≤ length s
  pub expression_room : 3 * t.expression ≤ length s

pub pair_taken : (s o p x y : List ℕ) (t : Pair) → PairDone (read_pair s) o p x y (Ok t) → PairTaken s o p x y t
unfolding Written
pair_taken s o p x y t d = go (read_pair s) refl d.answer d.pattern_table d.expression_table
  where
    go : (a : Answer Constraint) → read_pair s ≡ a → got t ≡ pair_answer a → Written pattern_row a o p → Written expression_row a x y
        → PairTaken s o p x y t
    go (refused r) e h w v = absurd (refused_not (sym h))
    go (got c) e h w v =
        let q = got_is h in
        let hm : t.pattern ≡ length (pattern_row c) = ap (λ (u : Pair). u.pattern) q in
        let hn : t.expression ≡ length (expression_row c) = ap (λ (u : Pair). u.expression) q in
        let room = pair_room s c e in
        record {
          constraint = c;
          reads = e;
          pattern_nodes = hm;
          expression_nodes = hn;
          pattern_table = w;
          expression_table = v;
          pattern_room = omega (arith, hm, room.0);
          expression_room = omega (arith, hn, room.1);
        }

-- The tables of a problem with one constraint more
patterns_more : (done : Problem) (c : Constraint) → pattern_tokens (done ++ (c ∷ [])) ≡ pattern_tokens done ++ pattern_row c
unfolding pattern_tokens
patterns_more done c =
    ap (λ (ts : List NamedTerm). tokens [] (forest_of ts)) (map-append (λ (c : Constraint). c.pattern) done (c ∷ []))
    ∙ tokens_more [] (map (λ (c : Constraint). c.pattern) done) c.pattern

expressions_more : (done : Problem) (c : Constraint) → expression_tokens (done ++ (c ∷ [])) ≡ expression_tokens done ++ expression_row c
unfolding expression_tokens
expressions_more done c =
    ap (λ (ts : List NamedTerm). tokens [] (forest_of ts)) (map-append (λ (c : Constraint). c.expression) done (c ∷ []))
    ∙ tokens_more [] (map (λ (c : Constraint). c.expression) done) c.expression

-- Constraints, one by one
constraints_none : (left : ℕ) (s : Bytes) → length s ≡ 0 → read_constraints left s ≡ got []
unfolding read_constraints
constraints_none zero s z = rw (eq-eqb (length s) 0 z)
constraints_none (suc left) s z = rw (eq-eqb (length s) 0 z)

constraints_cut : (left : ℕ) (s : Bytes) {r : Refusal} → (length s ≡ 0 → ⊥) → TopDone left s (Err r)
    → read_constraints left s ≡ refused (number r)
unfolding read_constraints
constraints_cut zero s z h = rw (ne_eqb (length s) 0 z, ← h.says)
constraints_cut (suc left) s z h = rw (ne_eqb (length s) 0 z, ← h.says)

constraints_step : (left : ℕ) (s : Bytes) {n : ℕ} → (length s ≡ 0 → ⊥) → TopDone left s (Ok n)
    → read_constraints left s
    ≡ after (read_pair (take n (drop 3 s))) (λ c. after (read_constraints (left - 1) (drop (3 + n) s)) (λ cs. got (c ∷ cs)))
unfolding read_constraints
constraints_step zero s z h = absurd (omega (arith, h.fits.due))
constraints_step (suc left) s z h = let w : suc left - 1 ≡ left = omega arith in rw (w, ne_eqb (length s) 0 z, ← h.says)

problem_refused : {a : Answer Problem} {o p x y : List ℕ} {r : Refusal} → a ≡ refused (number r) → ProblemDone a o p x y (Err r)
unfolding Written
problem_refused e = record { answer = rw e; pattern_table = rw (e, Written) tt; expression_table = rw (e, Written) tt }

problem_got : {a : Answer Problem} {o p x y : List ℕ} {m n k bytes : ℕ} (q : Problem) → a ≡ got q → Row (pattern_tokens q) m bytes o p
    → Row (expression_tokens q) n bytes x y → k ≡ length q
    → ProblemDone a o p x y (Ok (record { patterns = m; expressions = n; constraints = k }))
unfolding Written
problem_got q e patterns expressions counted =
    record {
      answer = rw (e, patterns.count, expressions.count, counted);
      pattern_table = rw (e, Written) patterns.front;
      expression_table = rw (e, Written) expressions.front;
    }

-- Constraints before those that are left
abbrev joined : Problem → Answer Problem → Answer Problem
joined done a = after a (λ cs. got (done ++ cs))

pub record Reading (s o x p y : List ℕ) (m n k at : ℕ) : Type 0 where
  pub done : Problem
  pub leads : read_constraints max_constraints s ≡ joined done (read_constraints (max_constraints - k) (drop at s))
  pub patterns : Row (pattern_tokens done) m at o p
  pub expressions : Row (expression_tokens done) n at x y
  pub counted : k ≡ length done
  pub few : k ≤ max_constraints
  pub within : at ≤ length s

pub reading_begins : (s o x : List ℕ) → Reading s o x o x 0 0 0 0
unfolding max_constraints pattern_tokens expression_tokens tokens
reading_begins s o x =
    record {
      done = [];
      leads = after_none (λ cs. cs) (λ cs. refl) (read_constraints 16 s);
      patterns = row_none o;
      expressions = row_none x;
      counted = refl;
      few = omega arith;
      within = omega arith;
    }

module _ {s o x p y : List ℕ} {m n k at : ℕ} (r : Reading s o x p y m n k at) where
  pub reading_ends : length s ≤ at → ProblemDone (read_constraints max_constraints s) o p x y (Ok (record { patterns = m; expressions = n; constraints = k }))
  reading_ends h =
      let none = constraints_none (max_constraints - k) (drop at s) (omega (arith, length-drop at s)) in
      problem_got r.done (r.leads ∙ rw (none, append-nil r.done)) r.patterns r.expressions r.counted

  module _ (some : at < length s) where
    abbrev rest : Bytes
    rest = take (length s - at) (drop at s)

    some_left : length (drop at s) ≡ 0 → ⊥
    some_left z = omega (arith, length-drop at s)

    pub reading_cut : {q : Refusal} {p' y' : List ℕ} → TopDone (max_constraints - k) rest (Err q)
        → ProblemDone (read_constraints max_constraints s) o p' x y' (Err q)
    reading_cut h =
        problem_refused (r.leads ∙ rw (constraints_cut (max_constraints - k) (drop at s) some_left (rw (rest_all at s) at h)))

    -- A constraint with so many bytes of content
    module _ {size : ℕ} (h : TopDone (max_constraints - k) rest (Ok size)) where
      pub content_within : at + 3 + size ≤ length s
      content_within = omega (arith, h.fits.within, ap length (rest_all at s), length-drop at s)

      pub bytes_less : length s - (at + 3 + size) < length s - at
      bytes_less = omega (arith, content_within)

      abbrev content : Bytes
      content = take (at + 3 + size - (at + 3)) (drop (at + 3) s)

      content_length : length content ≡ size
      content_length = part_length (at + 3) (at + 3 + size) s (omega arith) content_within ∙ add-sub_cancel_left (at + 3) size

      abbrev pattern_room : List ℕ
      pattern_room = take (length p - m) (drop m p)

      abbrev expression_room : List ℕ
      expression_room = take (length y - n) (drop n y)

      -- What `read_pair` requires
      pub content_spaces : Spaces (length s) (length o) (length x)
          → Spaces (length content) (length pattern_room) (length expression_room)
      content_spaces spaces =
          let inside : at + length content ≤ length s = omega (arith, content_length, content_within) in
          record {
            pattern = row_space r.patterns r.within spaces.pattern inside;
            expression = row_space r.expressions r.within spaces.expression inside;
          }

      next : read_constraints max_constraints s
          ≡ joined r.done (after (read_pair content) (λ c.
          after (read_constraints (max_constraints - (k + 1)) (drop (at + 3 + size) s)) (λ cs. got (c ∷ cs))))
      next =
          let left : max_constraints - k - 1 ≡ max_constraints - (k + 1) = omega arith in
          let later : at + (3 + size) ≡ at + 3 + size = omega arith in
          r.leads
          ∙ rw (
            constraints_step (max_constraints - k) (drop at s) some_left (rw (rest_all at s) at h),
            drop-drop 3 at s,
            drop-drop (3 + size) at s,
            left,
            later,
            add-sub_cancel_left (at + 3) size,
          )

      pub reading_refused : {q : Refusal} {u v p' y' : List ℕ} → PairDone (read_pair content) pattern_room u expression_room v (Err q)
          → ProblemDone (read_constraints max_constraints s) o p' x y' (Err q)
      reading_refused d = problem_refused (next ∙ rw (still_refused _ _ d.answer))

      -- One constraint more
      module _ {t : Pair} (u v : List ℕ) (d : PairDone (read_pair content) pattern_room u expression_room v (Ok t)) where
        one_more : PairTaken content pattern_room u expression_room v t
        one_more = pair_taken content pattern_room u expression_room v t d

        pub sums_fit : length s < 2 ^ 64 → (m + t.pattern < 2 ^ 64) × (n + t.expression < 2 ^ 64)
        sums_fit h =
            let inside : 3 * (at + length content) ≤ 3 * length s = omega (arith, content_length, content_within) in (
              omega (arith, one_more.pattern_room, r.patterns.few),
              omega (arith, one_more.expression_room, r.expressions.few),
            )

        pub reading_goes : length u ≡ length pattern_room → length v ≡ length expression_room
            → Reading s o x (put_mid m (length p - m) p u) (put_mid n (length y - n) y v) (m + t.pattern) (n + t.expression) (k + 1) (at + 3 + size)
        reading_goes kept-u kept-v =
            let c = one_more.constraint in
            let whole : at + 3 + size ≡ at + (3 + size) = omega arith in
            record {
              done = r.done ++ (c ∷ []);
              leads =
                  next
                  ∙ rw one_more.reads
                  (after_twice (λ cs. r.done ++ cs) (λ cs. c ∷ cs) (λ cs. (r.done ++ (c ∷ [])) ++ cs)
                  (λ cs. sym (append_assoc r.done (c ∷ []) cs))
                  (read_constraints (max_constraints - (k + 1)) (drop (at + 3 + size) s)));
              patterns =
                  rw (patterns_more r.done c, whole)
                  (row_more r.patterns (pattern_row c) u one_more.pattern_nodes
                  (omega (arith, content_length, one_more.pattern_room)) one_more.pattern_table kept-u);
              expressions =
                  rw (expressions_more r.done c, whole)
                  (row_more r.expressions (expression_row c) v one_more.expression_nodes
                  (omega (arith, content_length, one_more.expression_room)) one_more.expression_table kept-v);
              counted = ap (λ (j : ℕ). j + 1) r.counted ∙ sym (length-append r.done (c ∷ []));
              few = omega (arith, h.fits.due);
              within = content_within;
            }

-- The whole input: the returns of `read`
pub problem_over : (s o x : List ℕ) → 4096 < length s → ProblemDone (read_problem s) o o x x (Err ProblemTooLong)
unfolding read_problem largest_problem
problem_over s o x h = problem_refused (rw (lt-ltb 4096 (length s) h))

pub problem_within : (s o p x y : List ℕ) (r : Result Read Refusal) → length s ≤ 4096
    → ProblemDone (read_constraints max_constraints s) o p x y r → ProblemDone (read_problem s) o p x y r
unfolding read_problem largest_problem
problem_within s o p x y r h d = rw (le-ltb 4096 (length s) h) d

-- What the answer of `read` says, for all bytes: a refusal is document 01's
pub read_refused : (s o p x y : List ℕ) {r : Refusal} → ProblemDone (read_problem s) o p x y (Err r) → read_problem s ≡ refused (number r)
read_refused s o p x y d = still_refused _ _ d.answer

-- and otherwise the fronts of the two tables are those of the problem that document 01 reads, and no entry after them is changed
pub record TablesOf (s o p x y : List ℕ) (r : Read) : Type 0 where
  pub problem : Problem
  pub reads : read_problem s ≡ got problem
  pub pattern_nodes : r.patterns ≡ length (pattern_tokens problem)
  pub expression_nodes : r.expressions ≡ length (expression_tokens problem)
  pub constraints : r.constraints ≡ length problem
  pub pattern_table : p ≡ pattern_tokens problem ++ drop r.patterns o
  pub expression_table : y ≡ expression_tokens problem ++ drop r.expressions x

pub read_accepted : (s o p x y : List ℕ) {r : Read} → ProblemDone (read_problem s) o p x y (Ok r) → TablesOf s o p x y r
unfolding Written
read_accepted s o p x y {r} d = go (read_problem s) refl d.answer d.pattern_table d.expression_table
  where
    go : (a : Answer Problem) → read_problem s ≡ a → got r ≡ problem_answer a → Written pattern_tokens a o p
        → Written expression_tokens a x y → TablesOf s o p x y r
    go (refused z) e h w v = absurd (refused_not (sym h))
    go (got q) e h w v =
        let counts = got_is h in
        let hm : r.patterns ≡ length (pattern_tokens q) = ap (λ (u : Read). u.patterns) counts in
        let hn : r.expressions ≡ length (expression_tokens q) = ap (λ (u : Read). u.expressions) counts in
        record {
          problem = q;
          reads = e;
          pattern_nodes = hm;
          expression_nodes = hn;
          constraints = ap (λ (u : Read). u.constraints) counts;
          pattern_table = rw hm w;
          expression_table = rw hn v;
        }
