-- The second demand of the entry points: what is written passes, and for every text that passes there is a row whose text names the same
-- filling.
use mathlib.Core.Path.{◌≡◌, refl, ap, sym, ◌∙◌}
use mathlib.Core.Logic.{◌↔◌}
use Prim.Native.Nat.{ℕ}
use mathlib.Core.Bool.{true}
use mathlib.Core.List.{List}
use lib.ListN.{take}
use lib.Seq.{take_at}
use Rattle.meaning.specs.Basics.{All, ◌∈◌, Bytes, Byte}
use Rattle.meaning.specs.Problem.{Problem}
use Rattle.meaning.specs.Solution.{Solution}
use Rattle.meaning.specs.Row.{Row, IsRow, SolutionRow}
use Rattle.meaning.specs.Rows.{rows}
use Rattle.meaning.specs.Candidate.{solves}
use Rattle.meaning.specs.Read.{Answer, after, got}
use Rattle.meaning.specs.Readable.{Accepted}
use Rattle.meaning.specs.Accept.{accept}
use Rattle.meaning.specs.Text.{Item, text_of, read_text, said, Passes}
use Rattle.meaning.specs.Textual.{AlphaText}
use Rattle.meaning.specs.Passing.{passes}
use Rattle.meaning.specs.Search.{at}
use Rattle.meaning.specs.PlaceValue.{PlaceValue, Names}
use Rattle.meaning.specs.Entry.{row_text, WriteOn, WriteCall, on_accepted, no_such_row, no_solution_row, too_short, writes}
use Rattle.meaning.specs.Entry.{check_on, check_call}
use Rattle.meaning.specs.Given.{named_by}
use Rattle.meaning.proofs.Proper.{accepted_proper}
use Rattle.meaning.proofs.ByteLaws.{by_got, got_is, refused_not}
use Rattle.meaning.proofs.ChoiceLaws.{rows_are}
use Rattle.meaning.proofs.ProblemReading.{accept_accepted}
use Rattle.meaning.proofs.Solutions.{solves_is_right}
use Rattle.meaning.proofs.SecondDemand.{text_names, text_read_back, text_passes, Written, solution_written}
use Rattle.meaning.proofs.PassLaws.{passes_is_right}
use Rattle.meaning.proofs.AlphaTexts.{same_filling_lem}

pub check_read : (s text : Bytes) (p : Problem) (is : List Item) → accept s ≡ got p → read_text text ≡ got is
    → check_call s text ≡ got (passes p is)
unfolding check_call check_on
check_read s text p is a r = ap (λ (x : Answer Problem). after x (λ q. check_on q text)) a ∙ rw r

-- THE CHECKER SAYS YES exactly to the texts that pass
pub check_is_right : (s text : Bytes) (p : Problem) (is : List Item) → accept s ≡ got p → read_text text ≡ got is
    → (check_call s text ≡ got true) ↔ Passes p is
check_is_right s text p is a r =
    let e = check_read s text p is a r in
    (λ h. (passes_is_right p is).0 (got_is (sym e ∙ h)), λ h. e ∙ ap got ((passes_is_right p is).1 h))

-- WHAT IS WRITTEN PASSES: the text of the row that the place names
pub record WrittenText (s : Bytes) (v : PlaceValue) (n : ℕ) (after : Bytes) : Type 0 where
  pub problem : Problem
  pub row : Row
  pub accepted : accept s ≡ got problem
  pub named : Names problem v (at row)
  pub is_solution_row : SolutionRow problem row
  pub text : take n after ≡ row_text problem row
  pub yes : check_call s (take n after) ≡ got true

row_text_passes : (s : Bytes) (p : Problem) (r : Row) → All Byte s → accept s ≡ got p → IsRow p r → SolutionRow p r
    → check_call s (row_text p r) ≡ got true
row_text_passes s p r b e i x =
    let a : Accepted p = (accept_accepted s p b e).0 in
    let m : r ∈ rows p = (rows_are p r).1 i in
    let h : solves p r ≡ true = (solves_is_right p r (accepted_proper p a) m).1 x in
    (check_is_right s (row_text p r) p (text_of p r) e (text_read_back p r a m h)).1 (text_passes p r a m h)

pub written_passes_lem : (s : Bytes) (v : PlaceValue) (buffer after : Bytes) (n : ℕ)
    → All Byte s → WriteCall s v buffer (got n) after → WrittenText s v n after
written_passes_lem s v buffer after n b (on_accepted p e w) = go w refl
  where
    go : {a : Answer ℕ} {end : Bytes} → WriteOn p v buffer a end → a ≡ got n → WrittenText s v n end
    go (no_such_row none) z = absurd (refused_not z)
    go (no_solution_row q m h) z = absurd (refused_not z)
    go (too_short q m h l) z = absurd (refused_not z)
    go (writes r m h l) z =
        let front = take_at (row_text p r) _ n (got_is z) in
        record {
          problem = p;
          row = r;
          accepted = e;
          named = m;
          is_solution_row = h;
          text = front;
          yes = ap (check_call s) front ∙ row_text_passes s p r b e m.is_place h;
        }

-- A YES rests on a problem that is accepted and a text that can be read
pub yes_read : (s text : Bytes) → check_call s text ≡ got true
    → (p : Problem) × (is : List Item) × (accept s ≡ got p) × (read_text text ≡ got is)
unfolding check_call check_on
yes_read s text y =
    by_got (accept s) (λ p. check_on p text) y
    (λ p e q. by_got (read_text text) (λ is. got (passes p is)) q (λ is f z. (p, is, e, f)))

-- FOR EVERY TEXT THAT PASSES there is a row whose text names the same filling
pub record RowOfText (s text : Bytes) : Type 0 where
  pub problem : Problem
  pub row : Row
  pub accepted : accept s ≡ got problem
  pub is_row : IsRow problem row
  pub is_solution_row : SolutionRow problem row
  pub names : named_by (row_text problem row) ≡ named_by text

pub passing_written : (s text : Bytes) → All Byte s → check_call s text ≡ got true → RowOfText s text
passing_written s text b y =
    let (p, is, e, f) = yes_read s text y in
    let a : Accepted p = (accept_accepted s p b e).0 in
    let w : Written p (said is) = solution_written p (said is) a ((check_is_right s text p is e f).0 y) in
    let back = text_read_back p w.row a w.is_row w.is_solution_row in
    record {
      problem = p;
      row = w.row;
      accepted = e;
      is_row = (rows_are p w.row).0 w.is_row;
      is_solution_row = (solves_is_right p w.row (accepted_proper p a) w.is_row).0 w.is_solution_row;
      names = text_names (row_text p w.row) back ∙ ap got w.says ∙ sym (text_names text f);
    }

-- T-07: "Two passing texts of one problem then differ only in bound names exactly when they name the same solution"
pub record PassingTexts (s text text' : Bytes) : Type 0 where
  pub problem : Problem
  pub accepted : accept s ≡ got problem
  pub items : List Item
  pub reads : read_text text ≡ got items
  pub solution : Solution problem (said items)
  pub items' : List Item
  pub reads' : read_text text' ≡ got items'
  pub solution' : Solution problem (said items')
  pub same : (said items ≡ said items') ↔ AlphaText items items'

pub passing_texts : (s text text' : Bytes) → All Byte text → All Byte text' → check_call s text ≡ got true → check_call s text' ≡ got true
    → PassingTexts s text text'
passing_texts s text text' b c y y' =
    let (p, is, a, r) = yes_read s text y in
    let (q, js, a', r') = yes_read s text' y' in
    record {
      problem = p;
      accepted = a;
      items = is;
      reads = r;
      solution = (check_is_right s text p is a r).0 y;
      items' = js;
      reads' = r';
      solution' = (check_is_right s text' p js a r').0 y';
      same = same_filling_lem text text' is js b c r r';
    }
