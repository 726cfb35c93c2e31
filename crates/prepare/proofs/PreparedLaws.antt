-- One law for each answer, over plain variables; and that the rows of a prepared problem are found in its tables.
use mathlib.Core.Path.{◌≡◌, refl, ap, sym, ◌∙◌, subst}
use mathlib.Core.List.{List, map}
use mathlib.Core.Option.{none}
use Rattle.std.specs.Prelude.{Ok, Err, Some, None}
use Rattle.std.specs.Prelude as std
use Prim.Native.Nat.{ℕ, ◌<◌, ◌≤◌}
use native.Mathlib.Omega.{arith}
use lib.ListN.{length, take}
use lib.Seq.{length-take-le}
use Rattle.meaning.specs.Limits.{metavariable_count, max_functions}
use Rattle.meaning.specs.Problem.{Problem, functions}
use Rattle.meaning.specs.Face.{faces}
use Rattle.meaning.specs.Rows.{rows}
use Rattle.meaning.specs.PlaceValue.{masks_of}
use Rattle.meaning.specs.Read.{Answer, refused}
use Rattle.meaning.specs.Readable.{Accepted}
use Rattle.meaning.proofs.PlaceLaws.{few_functions}
use Rattle.tokens.specs.Token.{Table, pattern_tokens, expression_tokens}
use Rattle.tokens.proofs.ProblemTokens.{pattern_table_lem, expression_table_lem}
use Rattle.numbers.specs.Tests.{Tells, told}
use Rattle.numbers.specs.Numbering.{Numerable, Numbered}
use Rattle.numbers.specs.declared.ask.Nodes.{Nodes}
use Rattle.numbers.proofs.Asked.{numbers_tell}
use Rattle.numbers.proofs.ProblemTable.{table_numerable}
use Rattle.metavariables.specs.Survey.{Surveyed, count}
use Rattle.metavariables.specs.declared.Occurring.{Occurring}
use Rattle.metavariables.proofs.SurveyMeaning.{function_count_means, kept_functions}
use Rattle.faces.specs.First.{Listed, listed}
use Rattle.faces.specs.declared.first.Firsts.{Firsts}
use Rattle.faces.specs.Verdict.{FirstsAt}
use Rattle.faces.proofs.FirstMeaning.{first_faces_mean}
use Rattle.bodies.specs.Suits.{Nested}
use Rattle.choosing.specs.FaceNodes.{Faces}
use Rattle.choosing.proofs.ProblemFaces.{problem_faces}
use Rattle.choosing.proofs.Problem.{rows_listed}
use Rattle.rows.specs.Functions.{rows_in}
use Rattle.rows.specs.declared.functions.Functions.{Functions}
use Rattle.rows.specs.Rows.{Faced, rows_of}
use Rattle.fit.specs.Laid as fit
use Rattle.fit.specs.declared.tables.Tables.{Tables}
use Rattle.table.specs.Whole.{table_room}
use Rattle.accept.specs.Acceptance.{FacesFound, FacesAt, Accepts, Stands}
use Rattle.accept.specs.declared.Filled.{Filled}
use Rattle.accept.specs.declared.Standing.{Standing}
use Rattle.accept.proofs.AcceptanceLaws.{verdict_refused, verdict_accepted, patterns_front, expressions_front, patterns_few, expressions_few}
use Rattle.refusal.specs.Number.{number}
use Rattle.refusal.specs.declared.Refusal.{Refusal}
use Rattle.prepare.specs.Prepared.{NodesOf, NoFaces, FrontsLaid, Ground, Tabling, FrontsReady, Prepares}
use Rattle.prepare.specs.Prepared.{FacesLaid, FunctionsOf, FacesMade, Made, Ready, PreparesLent}
use Rattle.prepare.specs.declared.Fronts.{Fronts}
use Rattle.prepare.specs.declared.Prepared.{Prepared}

-- A problem has few functions: its survey counts no more than a row has sets for
functions_within : (p : Problem) → Accepted p → (o : Occurring) → Surveyed (pattern_tokens p) o → count metavariable_count o.functions ≤ 8
unfolding max_functions
functions_within p accepted o survey =
    let n = function_count_means p accepted.within o survey in
    let m : length (functions p) ≤ 8 = few_functions p accepted in
    omega arith

-- What is known of an accepted problem as `accept_lent` lends it: for who goes on with its slices, which nothing in this crate does
module _ (p : Problem) (a : Standing) (h : Stands p a) where
  pub functions_few : count metavariable_count a.occurring.functions ≤ 8
  functions_few = functions_within p h.accepted a.occurring h.survey

  pub stands_numerable : Numerable a.expressions.now
  stands_numerable = subst Numerable (sym h.expressions) (table_numerable p h.accepted.within)

  pub stands_patterns : Table a.patterns.now
  stands_patterns = subst Table (sym h.patterns) (pattern_table_lem p h.accepted.within)

  pub stands_expressions : Table a.expressions.now
  stands_expressions = subst Table (sym h.expressions) (expression_table_lem p h.accepted.within)

  pub stands_nested : Nested a.expressions.now
  stands_nested = stands_numerable.inside

  pub stands_expressions_few : length a.expressions.now < table_room
  stands_expressions_few = expressions_few p h.accepted.within a.expressions.now h.expressions

-- What the calls require, and the types, of an accepted problem in the tables
module _ (p : Problem) (ps es fs : List ℕ) (a : Filled) (h : FrontsLaid p ps es fs a) where
  pub front_functions : count metavariable_count a.occurring.functions ≤ 8
  front_functions = functions_within p h.accepted a.occurring h.survey

  pub table_numbers : Numerable (take a.expressions es)
  table_numbers = subst Numerable (sym h.expressions) (table_numerable p h.accepted.within)

  pub table_few : a.expressions < table_room
  table_few =
      omega (
        arith,
        expressions_few p h.accepted.within (take a.expressions es) h.expressions,
        length-take-le a.expressions es h.expressions_inside,
      )

  pub front_patterns : Table (take a.patterns ps)
  front_patterns = subst Table (sym h.patterns) (pattern_table_lem p h.accepted.within)

  pub front_expressions : Table (take a.expressions es)
  front_expressions = subst Table (sym h.expressions) (expression_table_lem p h.accepted.within)

-- The nodes of the functions' faces are looked up in a problem's own tables
module _ (p : Problem) (accepted : Accepted p) (o : Occurring) (survey : Surveyed (pattern_tokens p) o) (fs : List ℕ) (has : FacesFound p fs)
    (firsts : Firsts) (nodes : Listed (pattern_tokens p) fs o.functions firsts) where
  -- They are those of the functions' faces
  pub nodes_mean : FirstsAt p has.found (functions p) (listed firsts)
  nodes_mean = first_faces_mean p accepted fs has.found has.agree has.recorded o survey firsts nodes

  pub faces_there : Faces (expression_tokens p) firsts.nodes firsts.count
  unfolding max_functions
  faces_there = problem_faces p accepted has.found has.agree firsts.nodes firsts.count nodes.fits.count nodes.fits.array nodes_mean

  -- ... AND THEIR ROWS ARE THE PROBLEM'S
  pub rows_mean : (ns : List ℕ) → Tells (expression_tokens p) (told ns) → rows_of (expression_tokens p) ns firsts ≡ map masks_of (rows p)
  unfolding max_functions rows_of
  rows_mean ns tells =
      rows_listed p accepted has.found has.agree firsts.nodes firsts.count nodes.fits.count nodes.fits.array nodes_mean ns tells

-- What `accept` leaves, and what `prepare` answers then
module _ (x : Answer Problem) (ps ps' es es' fs' : List ℕ) where
  pub prepares_refused : (ns : List ℕ) (e : Refusal) → Accepts x ps ps' es es' fs' (Err e) → Prepares x ps' es' ns fs' (Err e)
  unfolding Prepares
  prepares_refused ns e h = verdict_refused x ps ps' es es' fs' e h

  module _ (a : Filled) (h : Accepts x ps ps' es es' fs' (Ok a)) where
    kept_laid : FrontsLaid (verdict_accepted x ps ps' es es' fs' a h).0 ps' es' fs' a
    kept_laid =
        let kept = (verdict_accepted x ps ps' es es' fs' a h).2 in
        let l = patterns_front x ps ps' es es' fs' a h in
        let r = expressions_front x ps ps' es es' fs' a h in
        record {
          accepted = kept.accepted;
          patterns = l.0;
          patterns_inside = l.1;
          expressions = r.0;
          expressions_inside = r.1;
          survey = kept.survey;
          faces = kept.faces;
        }

    -- What `with_numbers` requires
    pub accepts_ground : Ground ps' es' fs' a
    accepts_ground = ((verdict_accepted x ps ps' es es' fs' a h).0, kept_laid)

    pub prepares_accepted : (ns : List ℕ) (r : Fronts) → Tabling ps' es' ns fs' a r → Prepares x ps' es' ns fs' (Ok r)
    unfolding Prepares
    prepares_accepted ns r t =
        let k = verdict_accepted x ps ps' es es' fs' a h in
        record { problem = k.0; answer = k.1; laid = subst (FrontsLaid k.0 ps' es' fs') (sym t.filled) kept_laid; tabled = t.tabled }

-- What the answer tells a caller
module _ (x : Answer Problem) (ps es ns fs : List ℕ) where
  pub prepared_refused : (e : Refusal) → Prepares x ps es ns fs (Err e) → x ≡ refused (number e)
  unfolding Prepares
  prepared_refused e h = h

  pub prepared_accepted : (a : Fronts) → Prepares x ps es ns fs (Ok a) → FrontsReady x ps es ns fs a
  unfolding Prepares
  prepared_accepted a h = h

  module _ (a : Fronts) (ready : FrontsReady x ps es ns fs a) where
    abbrev tokens : List ℕ
    tokens = take a.filled.expressions es

    abbrev numbers : List ℕ
    numbers = take a.filled.expressions ns

    -- The numbers tell what the table does
    pub fronts_tells : Tells tokens (told numbers)
    fronts_tells = numbers_tell tokens numbers ready.tabled.numbers (table_numbers ready.problem ps es fs a.filled ready.laid).small

    pub fronts_numbers : length numbers ≡ length tokens
    fronts_numbers =
        length-take-le a.filled.expressions ns ready.tabled.numbers_inside
        ∙ sym (length-take-le a.filled.expressions es ready.laid.expressions_inside)

    -- Where there are rows: the nodes of the functions' faces
    module _ (n : ℕ) (e : a.filled.faces ≡ Some n) where
      pub fronts_nodes : Listed (take a.filled.patterns ps) (take n fs) a.filled.occurring.functions a.firsts
      fronts_nodes =
          subst (λ (o : std.Option ℕ). NodesOf o (take a.filled.patterns ps) fs a.filled.occurring.functions a.firsts) e ready.tabled.nodes

      fronts_found : FacesFound ready.problem (take n fs)
      fronts_found = (subst (FacesAt ready.problem fs) e ready.laid.faces).1

      own_nodes : Listed (pattern_tokens ready.problem) (take n fs) a.filled.occurring.functions a.firsts
      own_nodes = subst (λ (s : List ℕ). Listed s (take n fs) a.filled.occurring.functions a.firsts) ready.laid.patterns fronts_nodes

      -- ... which the code can go through
      pub fronts_faced : Faced tokens numbers a.firsts
      fronts_faced =
          record {
            faces = subst (λ (s : List ℕ). Faces s a.firsts.nodes a.firsts.count) (sym ready.laid.expressions)
                (faces_there ready.problem ready.laid.accepted a.filled.occurring ready.laid.survey (take n fs) fronts_found a.firsts own_nodes);
            numbers = fronts_numbers;
          }

      -- THE ROWS OF THE TABLES ARE THE PROBLEM'S
      pub fronts_rows : rows_of tokens numbers a.firsts ≡ map masks_of (rows ready.problem)
      fronts_rows =
          ap (λ (s : List ℕ). rows_of s numbers a.firsts) ready.laid.expressions
          ∙ rows_mean ready.problem ready.laid.accepted a.filled.occurring ready.laid.survey (take n fs) fronts_found a.firsts own_nodes numbers
          (subst (λ (s : List ℕ). Tells s (told numbers)) ready.laid.expressions fronts_tells)

    -- What `prepare` leaves is what `prepare_lent` lends
    module _ (nodes : Nodes) (is_tokens : nodes.tokens.now ≡ tokens) (is_numbers : nodes.numbers.now ≡ numbers) where
      pub lent_tokens : Table nodes.tokens.now
      lent_tokens = rw is_tokens (front_expressions ready.problem ps es fs a.filled ready.laid)

      pub lent_nested : Nested nodes.tokens.now
      lent_nested = rw is_tokens (table_numbers ready.problem ps es fs a.filled ready.laid).inside

      pub lent_faced : (n : ℕ) → a.filled.faces ≡ Some n → Faced nodes.tokens.now nodes.numbers.now a.firsts
      lent_faced n e = rw (is_tokens, is_numbers) (fronts_faced n e)

      module _ (r : Prepared) (made : Made ps nodes fs a r) where
        no_nodes_lem : a.filled.faces ≡ None → NoFaces r.tables.firsts
        no_nodes_lem e =
            subst NoFaces (sym made.firsts)
            (subst (λ (o : std.Option ℕ). NodesOf o (take a.filled.patterns ps) fs a.filled.occurring.functions a.firsts) e ready.tabled.nodes)

        faces_laid : (o : std.Option Functions) → r.functions ≡ o → FacesLaid ready.problem r o
        faces_laid None is =
            let (e, l) = subst (FacesMade fs nodes a r) is made.faces in
            record { disagree = subst (FacesAt ready.problem fs) e ready.laid.faces; recorded = l; nodes = no_nodes_lem e }
        faces_laid (Some f) is = let (n, e, l, m, s) = subst (FacesMade fs nodes a r) is made.faces in rw l (fronts_found n e)

        functions_lent : (f : Functions) → r.functions ≡ Some f → FunctionsOf r f
        functions_lent f is =
            let (n, e, l, m, s) = subst (FacesMade fs nodes a r) is made.faces in
            record {
              nodes = m ∙ sym made.lent;
              firsts = s ∙ sym made.firsts;
              listed = subst (Listed r.tables.patterns.now r.tables.faces.now r.occurring.functions) (sym s)
                  (rw (made.patterns, l, made.occurring) (fronts_nodes n e));
            }

        lent_numbers : Numbered r.tables.nodes.tokens.now r.tables.nodes.numbers.now
        lent_numbers =
            subst (λ (k : Nodes). Numbered k.tokens.now k.numbers.now) (sym made.lent)
            (rw (is_tokens, is_numbers) ready.tabled.numbers)

        pub fronts_lent : PreparesLent x (Ok r)
        unfolding PreparesLent
        fronts_lent =
            record {
              problem = ready.problem;
              answer = ready.answer;
              laid = record {
                accepted = ready.laid.accepted;
                patterns = made.patterns ∙ ready.laid.patterns;
                expressions = ap (λ (k : Nodes). k.tokens.now) made.lent ∙ is_tokens ∙ ready.laid.expressions;
                survey = rw made.occurring ready.laid.survey;
                functions = made.functions ∙ sym (ap (λ (o : Occurring). o.functions) made.occurring);
                faces = faces_laid r.functions refl;
              };
              tabled = record { numbers = lent_numbers; functions = functions_lent };
            }

  pub fronts_refused : (e : Refusal) → Prepares x ps es ns fs (Err e) → PreparesLent x (Err e)
  unfolding PreparesLent
  fronts_refused e h = prepared_refused e h

-- What the answer that is lent tells a caller
module _ (x : Answer Problem) where
  pub prepared_lent_refused : (e : Refusal) → PreparesLent x (Err e) → x ≡ refused (number e)
  unfolding PreparesLent
  prepared_lent_refused e h = h

  pub prepared_lent_accepted : (r : Prepared) → PreparesLent x (Ok r) → Ready x r
  unfolding PreparesLent
  prepared_lent_accepted r h = h

  module _ (r : Prepared) (ready : Ready x r) where
    abbrev t : Tables
    t = r.tables

    -- The numbers tell what the table does
    pub ready_tells : Tells t.nodes.tokens.now (told t.nodes.numbers.now)
    ready_tells =
        numbers_tell t.nodes.tokens.now t.nodes.numbers.now ready.tabled.numbers
        (subst Numerable (sym ready.laid.expressions) (table_numerable ready.problem ready.laid.accepted.within)).small

    -- Tables with room for every problem have room for the faces of an argument
    pub ready_few : length t.patterns.now ≤ table_room
    ready_few = patterns_few ready.problem ready.laid.accepted.within t.patterns.now ready.laid.patterns

    -- No rows
    pub ready_none : r.functions ≡ None → faces ready.problem ≡ none
    ready_none e = (subst (FacesLaid ready.problem r) e ready.laid.faces).disagree

    -- Rows
    module _ (f : Functions) (e : r.functions ≡ Some f) where
      pub ready_found : FacesFound ready.problem t.faces.now
      ready_found = subst (FacesLaid ready.problem r) e ready.laid.faces

      functions_of : FunctionsOf r f
      functions_of = ready.tabled.functions f e

      -- The nodes of the functions' faces
      pub ready_nodes : Listed t.patterns.now t.faces.now r.occurring.functions t.firsts
      ready_nodes =
          subst (λ (s : Firsts). Listed t.patterns.now t.faces.now r.occurring.functions s) functions_of.firsts functions_of.listed

      listed_in : Listed (pattern_tokens ready.problem) t.faces.now r.occurring.functions t.firsts
      listed_in = subst (λ (s : List ℕ). Listed s t.faces.now r.occurring.functions t.firsts) ready.laid.patterns ready_nodes

      pub ready_firsts : FirstsAt ready.problem ready_found.found (functions ready.problem) (listed t.firsts)
      ready_firsts =
          nodes_mean ready.problem ready.laid.accepted r.occurring ready.laid.survey t.faces.now ready_found t.firsts listed_in

      -- ... which the code can go through
      pub ready_faced : Faced t.nodes.tokens.now t.nodes.numbers.now t.firsts
      ready_faced =
          subst (λ (n : Nodes). Faced n.tokens.now n.numbers.now t.firsts) functions_of.nodes
          (subst (λ (s : Firsts). Faced f.nodes.tokens.now f.nodes.numbers.now s) functions_of.firsts f.faced)

      -- THE ROWS OF THE TABLES ARE THE PROBLEM'S
      pub ready_rows : rows_in f ≡ map masks_of (rows ready.problem)
      ready_rows =
          ap (λ (n : Nodes). rows_of n.tokens.now n.numbers.now f.firsts) functions_of.nodes
          ∙ ap (λ (s : Firsts). rows_of t.nodes.tokens.now t.nodes.numbers.now s) functions_of.firsts
          ∙ ap (λ (s : List ℕ). rows_of s t.nodes.numbers.now t.firsts) ready.laid.expressions
          ∙ rows_mean ready.problem ready.laid.accepted r.occurring ready.laid.survey t.faces.now ready_found t.firsts listed_in t.nodes.numbers.now
          (subst (λ (s : List ℕ). Tells s (told t.nodes.numbers.now)) ready.laid.expressions ready_tells)

      -- What the test of a row is told
      pub ready_laid : fit.Laid ready.problem (told t.nodes.numbers.now) t.patterns.now t.nodes.tokens.now t.faces.now t.functions t.firsts
      ready_laid =
          record {
            accepted = ready.laid.accepted;
            patterns = ready.laid.patterns;
            expressions = ready.laid.expressions;
            tells = ready_tells;
            found = ready_found.found;
            agree = ready_found.agree;
            recorded = ready_found.recorded;
            set = rw ready.laid.functions (kept_functions ready.problem ready.laid.accepted.within r.occurring ready.laid.survey);
            fits = listed_in.fits;
            nodes = ready_firsts;
          }
