-- The second demand, as far as it concerns definitions: every written text is read back and passes, and every solution has a row whose
-- text names it. That a text passes exactly when the filling that it names is a solution is the definition `Passes`.
use mathlib.Core.Path.{◌≡◌, ap, sym, ◌∙◌, subst, fun_ext}
use Prim.Native.Nat.{ℕ, ◌≤◌}
use mathlib.Core.Bool.{true}
use mathlib.Core.List.{List}
use native.Mathlib.Omega.{arith}
use lib.ListN.{length}
use Rattle.meaning.specs.Limits.{largest_problem, largest_text, largest_written, metavariable_count}
use Rattle.meaning.specs.Basics.{Bytes, up_to, ◌∈◌}
use Rattle.meaning.specs.Problem.{Problem, metavariables}
use Rattle.meaning.specs.Filling.{Filling}
use Rattle.meaning.specs.Solution.{Solution}
use Rattle.meaning.specs.Row.{Row}
use Rattle.meaning.specs.Rows.{rows}
use Rattle.meaning.specs.Candidate.{candidate, solves}
use Rattle.meaning.specs.Encoded.{encode_text}
use Rattle.meaning.specs.Text.{Item, text_of, read_text, said, Passes}
use Rattle.meaning.specs.Field.{encode_problem}
use Rattle.meaning.specs.Read.{Answer, after, got}
use Rattle.meaning.specs.Readable.{Accepted}
use Rattle.meaning.specs.Given.{named_by}
use Rattle.meaning.proofs.Lists.{keep_length}
use Rattle.meaning.proofs.ChoiceLaws.{rows_are}
use Rattle.meaning.proofs.Proper.{Proper, accepted_proper}
use Rattle.meaning.proofs.Candidate.{row_solution_unique}
use Rattle.meaning.proofs.Solutions.{solution_complete, solves_is_right, candidate_solution, OnlyRow}
use Rattle.meaning.proofs.TextReading.{read_text_lem}
use Rattle.meaning.proofs.TextLaws.{text_says, text_ascends, text_readable}
use Rattle.meaning.proofs.Sums.{length_up_to}
use Rattle.meaning.proofs.TextLength.{text_length}

few_metavariables : (p : Problem) → length (metavariables p) ≤ metavariable_count
unfolding metavariables
few_metavariables p =
    subst (λ (n : ℕ). length (metavariables p) ≤ n) (length_up_to metavariable_count) (keep_length _ (up_to metavariable_count))

-- A written text is never longer than the largest, and so never over the limit of a text
pub text_within : (p : Problem) (r : Row) → Accepted p → solves p r ≡ true → length (encode_text (text_of p r)) ≤ largest_written
unfolding largest_written largest_problem metavariable_count
text_within p r a e =
    let l = text_length p r a e in
    let i : length (encode_problem p) ≤ 4096 = a.within.input in
    let m : length (metavariables p) ≤ 32 = few_metavariables p in
    omega arith

pub text_fits : (p : Problem) (r : Row) → Accepted p → solves p r ≡ true → length (encode_text (text_of p r)) ≤ largest_text
unfolding largest_text largest_written
text_fits p r a e = omega (arith, text_within p r a e)

-- What a text names that can be read
pub text_names : (text : Bytes) {is : List Item} → read_text text ≡ got is → named_by text ≡ got (said is)
unfolding named_by
text_names text e = ap (λ (x : Answer (List Item)). after x (λ js. got (said js))) e

-- EVERY WRITTEN TEXT READS BACK
pub text_read_back : (p : Problem) (r : Row) → Accepted p → r ∈ rows p → solves p r ≡ true
    → read_text (encode_text (text_of p r)) ≡ got (text_of p r)
text_read_back p r a i e = read_text_lem (text_of p r) (text_readable p r a i e) (text_ascends p r) (text_fits p r a e)

-- ... AND PASSES; it names the row's one solution (`text_says`)
pub text_passes : (p : Problem) (r : Row) → Accepted p → r ∈ rows p → solves p r ≡ true → Passes p (text_of p r)
text_passes p r a i e =
    subst (Solution p) (sym (text_says p r a e)) (candidate_solution p r (accepted_proper p a) ((rows_are p r).0 i) e)

-- EVERY SOLUTION HAS A ROW WHOSE TEXT NAMES IT
pub record Written (p : Problem) (σ : Filling) : Type 0 where
  pub row : Row
  pub is_row : row ∈ rows p
  pub is_solution_row : solves p row ≡ true
  pub says : said (text_of p row) ≡ σ

pub solution_written : (p : Problem) (σ : Filling) → Accepted p → Solution p σ → Written p σ
solution_written p σ a s =
    let c : Proper p = accepted_proper p a in
    let o : OnlyRow p σ = solution_complete p σ c s in
    let e : solves p o.row ≡ true = (solves_is_right p o.row c o.is_row).1 (σ, s, o.has_bodies) in
    let unique : σ ≡ candidate p o.row = fun_ext (row_solution_unique p o.row σ c s o.has_bodies) in
    record { row = o.row; is_row = o.is_row; is_solution_row = e; says = text_says p o.row a e ∙ sym unique }
