-- The Founds and their texts: with room for any text the row of a Found is written, and the text of the k-th Found names filling k of the
-- full list.
use mathlib.Core.Path.{◌≡◌, refl, ap, ap₂, sym, ◌∙◌, subst, fun_ext}
use Prim.Native.Nat.{ℕ, ◌≤◌}
use mathlib.Core.Bool.{true}
use mathlib.Core.List.Memᴰ
use mathlib.Core.List.{List, [], ◌∷◌, map}
use lib.ListN.{length, take, drop, take-append-drop}
use Rattle.meaning.specs.Limits.{largest_written}
use Rattle.meaning.specs.Basics.{Bytes, Pairwise, ◌∈◌}
use Rattle.meaning.specs.Problem.{Problem}
use Rattle.meaning.specs.Filling.{Filling}
use Rattle.meaning.specs.Row.{HasBodies, IsRow, Row, SolutionRow}
use Rattle.meaning.specs.Rows.{rows}
use Rattle.meaning.specs.FullList.{IsFullList, Listed}
use Rattle.meaning.specs.Candidate.{solves}
use Rattle.meaning.specs.Solution.{Solution}
use Rattle.meaning.specs.Read.{Answer, got}
use Rattle.meaning.specs.Readable.{Accepted}
use Rattle.meaning.specs.Search.{at}
use Rattle.meaning.specs.PlaceValue.{Names, PlaceValue}
use Rattle.meaning.specs.Entry.{WriteOn, row_text}
use Rattle.meaning.specs.Calls.{given_row}
use Rattle.meaning.specs.Given.{TextOf, TextsGiven, named_by}
use Rattle.meaning.proofs.Proper.{accepted_proper}
use Rattle.meaning.proofs.Lists.{map_mem}
use Rattle.meaning.proofs.ChoiceLaws.{rows_are}
use Rattle.meaning.proofs.Candidate.{row_solution_unique}
use Rattle.meaning.proofs.Solutions.{solves_is_right}
use Rattle.meaning.proofs.TextLaws.{text_says}
use Rattle.meaning.proofs.SecondDemand.{text_names, text_read_back}
use Rattle.meaning.proofs.WriteLaws.{when_large, written_text}

take_mem : {A : Type 0} {x : A} (n : ℕ) (xs : List A) → x ∈ take n xs → x ∈ xs
take_mem {A} {x} n xs m = subst (λ (l : List A). x ∈ l) (take-append-drop n xs) (Memᴰ.append_left (drop n xs) m)

-- A row with its solution
module _ (p : Problem) (accepted : Accepted p) (r : Row) (σ : Filling) (is_row : IsRow p r) (solution : Solution p σ)
    (bodies : HasBodies p r σ) where
  in_rows : r ∈ rows p
  in_rows = (rows_are p r).1 is_row

  solved : SolutionRow p r
  solved = (σ, solution, bodies)

  tested : solves p r ≡ true
  tested = (solves_is_right p r (accepted_proper p accepted) in_rows).1 solved

  named : Names p (given_row (r, σ)) (at r)
  named = record { is_place = is_row; is_value = refl }

  -- its text names the solution
  pub text_named : named_by (row_text p r) ≡ got σ
  text_named =
      text_names (row_text p r) (text_read_back p r accepted in_rows tested)
      ∙ ap got (text_says p r accepted tested ∙ sym (fun_ext (row_solution_unique p r σ (accepted_proper p accepted) solution bodies)))

  row_written : (before after : Bytes) (a : Answer ℕ) → largest_written ≤ length before → WriteOn p (given_row (r, σ)) before a after
      → (n : ℕ) × (a ≡ got n)
  row_written before after a room w =
      let (n, gives, text) = when_large p (given_row (r, σ)) before accepted r named solved room w in (n, gives)

  text_of : (text : Bytes) → TextOf p (given_row (r, σ)) text → named_by text ≡ got σ
  text_of text t =
      ap named_by (t.front ∙ written_text p (given_row (r, σ)) t.before accepted r named t.call) ∙ text_named

-- THE TEXTS OF THE FOUNDS, by the rows that a list of calls found
module _ (p : Problem) (accepted : Accepted p) (full : List Listed) (is_full : IsFullList p full) where
  module _ (x : Listed) (m : x ∈ full) where
    abbrev is : IsRow p x.0 × Solution p x.1 × HasBodies p x.0 x.1
    is = (is_full.members x.0 x.1).0 m

    listed_written : (before after : Bytes) (a : Answer ℕ) → largest_written ≤ length before → WriteOn p (given_row x) before a after
        → (n : ℕ) × (a ≡ got n)
    listed_written = row_written p accepted x.0 x.1 is.0 is.1 is.2

    listed_text : (text : Bytes) → TextOf p (given_row x) text → named_by text ≡ got x.1
    listed_text = text_of p accepted x.0 x.1 is.0 is.1 is.2

  names_each : (xs : List Listed) → ((x : Listed) → x ∈ xs → x ∈ full) → (texts : List Bytes)
      → Pairwise (TextOf p) (map given_row xs) texts → map named_by texts ≡ map (λ (x : Listed). got x.1) xs
  names_each [] h [] t = refl
  names_each [] h (text ∷ texts) t = absurd t
  names_each (x ∷ xs) h [] t = absurd t
  names_each (x ∷ xs) h (text ∷ texts) t =
      ap₂ {C = List (Answer Filling)} (λ y ys. y ∷ ys) (listed_text x (h x (Memᴰ.head refl)) text t.0)
      (names_each xs (λ y m. h y (Memᴰ.tail m)) texts t.1)

  pub texts_given : (given : List PlaceValue) → given ≡ map given_row (take (length given) full) → TextsGiven p given full
  texts_given given e = record {
    written = λ v m before after a room w.
        let (x, i, same) = map_mem given_row v (take (length given) full) (subst (λ (l : List PlaceValue). v ∈ l) e m) in
        listed_written x (take_mem (length given) full i) before after a room
        (subst (λ (u : PlaceValue). WriteOn p u before a after) same w);
    names = λ texts t.
        names_each (take (length given) full) (λ x m. take_mem (length given) full m) texts
        (subst (λ (l : List PlaceValue). Pairwise (TextOf p) l texts) e t);
  }
