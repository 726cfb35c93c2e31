-- The entry points on document 01's first example, (P(X), s), and on (∀x.P(x), ∀y.y), one of whose two rows is no solution row: every
-- kind of answer, and every refusal from 15 on.
use mathlib.Core.Path.{◌≡◌, refl, ap, sym, ◌∙◌, subst}
use mathlib.Core.Logic.{◌⊎◌, ◌↔◌, inl, inr, ⊎_elim}
use Prim.Native.Nat.{ℕ}
use mathlib.Core.Bool.{Bool, true, false, true≢false}
use mathlib.Core.List.Memᴰ
use mathlib.Core.List.{List, [], ◌∷◌, ◌++◌}
use mathlib.Core.Option.{none, some}
use native.Mathlib.Omega.{arith}
use lib.ListN.{get_or, replicate}
use lib.Dec.{ltb}
use borrow.Author.Tests.{ltb-true}
use Rattle.meaning.specs.Limits.{max_functions, max_face_nodes}
use Rattle.meaning.specs.Basics.{All, ◌∈◌, Bytes, each, every, Byte}
use Rattle.meaning.specs.Problem.{Problem}
use Rattle.meaning.specs.Choice.{Marks}
use Rattle.meaning.specs.Row.{Row, SolutionRow}
use Rattle.meaning.specs.Rows.{rows}
use Rattle.meaning.specs.Candidate.{solves}
use Rattle.meaning.specs.Read.{Answer, refused, got}
use Rattle.meaning.specs.Accept.{accept}
use Rattle.meaning.specs.Search.{Place, at, past, place_of, start, found, end, refused_call, finds, ends}
use Rattle.meaning.specs.PlaceValue.{mask_of, PlaceValue, masks_of, place_value, IsPlace, Names}
use Rattle.meaning.specs.Passing.{passes}
use Rattle.meaning.specs.Entry.{HostReply, SearchCall, not_accepted, on_accepted, no_allowance, no_such_place, searches, WriteCall, no_such_row}
use Rattle.meaning.specs.Entry.{no_solution_row, too_short, writes, check_on, check_call}
use Rattle.meaning.specs.Calls.{Carried, HostCall}
use Rattle.meaning.specs.Program.{Lines, Output, allowance, ascii, decimal, ended, hexadecimal, lists, more, most_printed, refuses}
use Rattle.meaning.specs.Program.{solution}
use Rattle.meaning.specs.Case.{one_symbol, only_bound}
use Rattle.meaning.specs.Starred.{hex}
use Rattle.meaning.proofs.Proper.{accepted_proper}
use Rattle.meaning.proofs.Lists.{all_mem, every_all, mem_all, true_T}
use Rattle.meaning.proofs.ChoiceLaws.{rows_are}
use Rattle.meaning.proofs.ProblemReading.{accept_accepted}
use Rattle.meaning.proofs.Solutions.{solves_is_right}
use Rattle.meaning.proofs.Computed.{accepts, texts, reads}

abbrev one : Bytes
one = hex 16 0x07000D06000500050001010100020005

abbrev p : Problem
p = one_symbol.problem

abbrev two : Bytes
two = hex 31 0x07001C04000D00010003060006000200020003040009000100040200020004

abbrev q : Problem
q = only_bound.problem

one_accepted : accept one ≡ got p
unfolding accepts
one_accepted = refl

two_accepted : accept two ≡ got q
unfolding accepts
two_accepted = refl

-- Both problems have a face of one node, and so two rows: the node is a hole, or it is none
abbrev hole_row : Row
hole_row = (some 0 ∷ []) ∷ []

abbrev bare_row : Row
bare_row = (none ∷ []) ∷ []

rows_one : rows p ≡ hole_row ∷ bare_row ∷ []
unfolding texts
rows_one = refl

rows_two : rows q ≡ hole_row ∷ bare_row ∷ []
unfolding texts
rows_two = refl

abbrev both_rows : List Row
both_rows = hole_row ∷ bare_row ∷ []

-- Which of them are solution rows, by the test of a row
by_bytes : (s : Bytes) → every (λ b. ltb b 256) s ≡ true → All Byte s
by_bytes s t =
    mem_all Byte s (λ b m. ltb-true b 256 (all_mem (λ x. ltb x 256 ≡ true) b s (every_all (λ x. ltb x 256) s (true_T t)) m))

module _ (s : Bytes) (p : Problem) (is_bytes : every (λ b. ltb b 256) s ≡ true) (e : accept s ≡ got p) (r : Row) (m : r ∈ rows p) where
  right : (solves p r ≡ true) ↔ SolutionRow p r
  right = solves_is_right p r (accepted_proper p (accept_accepted s p (by_bytes s is_bytes) e).0) m

  is_solution : solves p r ≡ true → SolutionRow p r
  is_solution = right.0

  no_solution_lem : solves p r ≡ false → SolutionRow p r → ⊥
  no_solution_lem f x = true≢false (sym (right.1 x) ∙ f)

hole_in_lem : (p : Problem) → rows p ≡ both_rows → hole_row ∈ rows p
hole_in_lem p e = subst (λ (l : List Row). hole_row ∈ l) (sym e) (Memᴰ.head refl)

bare_in : (p : Problem) → rows p ≡ both_rows → bare_row ∈ rows p
bare_in p e = subst (λ (l : List Row). bare_row ∈ l) (sym e) (Memᴰ.tail (Memᴰ.head refl))

hole_solves : SolutionRow p hole_row
unfolding texts
hole_solves = is_solution one p refl one_accepted hole_row (hole_in_lem p rows_one) refl

bare_solves : SolutionRow p bare_row
unfolding texts
bare_solves = is_solution one p refl one_accepted bare_row (bare_in p rows_one) refl

bare_other : SolutionRow q bare_row → ⊥
unfolding texts
bare_other = no_solution_lem two q refl two_accepted bare_row (bare_in q rows_two) refl

-- Their values: "node set as a 64-bit mask", with T-10 one of 256 bits, node 0 the highest
abbrev highest : ℕ
highest = 0x8000000000000000000000000000000000000000000000000000000000000000

abbrev value_with : ℕ → PlaceValue
value_with mask = record { masks = mask ∷ 0 ∷ 0 ∷ 0 ∷ 0 ∷ 0 ∷ 0 ∷ 0 ∷ []; is_past = false }

abbrev past_value : PlaceValue
past_value = record { masks = 0 ∷ 0 ∷ 0 ∷ 0 ∷ 0 ∷ 0 ∷ 0 ∷ 0 ∷ []; is_past = true }

hole_value : place_value (at hole_row) ≡ value_with highest
unfolding place_value masks_of mask_of max_functions max_face_nodes
hole_value = refl

bare_value : place_value (at bare_row) ≡ value_with 0
unfolding place_value masks_of mask_of max_functions max_face_nodes
bare_value = refl

-- Node 64 is the highest bit of the second word of 64 bits, node 255 the lowest of the last
abbrev only_node : ℕ → Marks
only_node k = replicate k none ++ (some 0 ∷ [])

pub node_bits : (mask_of max_face_nodes (only_node 64) ≡ 0x800000000000000000000000000000000000000000000000)
    × (mask_of max_face_nodes (only_node 255) ≡ 1)
unfolding mask_of max_face_nodes
node_bits = (refl, refl)

past_value_lem : place_value past ≡ past_value
unfolding place_value max_functions
past_value_lem = refl

named_in : (p : Problem) (r : Row) (v : PlaceValue) → r ∈ rows p → place_value (at r) ≡ v → Names p v (at r)
named_in p r v m e = record { is_place = (rows_are p r).0 m; is_value = sym e }

hole_named : Names p (value_with highest) (at hole_row)
hole_named = named_in p hole_row _ (hole_in_lem p rows_one) hole_value

bare_named : (p : Problem) → rows p ≡ both_rows → Names p (value_with 0) (at bare_row)
bare_named p e = named_in p bare_row _ (bare_in p e) bare_value

-- A mask of a node that the face does not have names nothing
first_mask : {v w : PlaceValue} → v ≡ w → get_or v.masks 0 0 ≡ get_or w.masks 0 0
first_mask e = ap (λ (v : PlaceValue). get_or v.masks 0 0) e

nowhere : (place : Place Row) → Names p (value_with 1) place → ⊥
nowhere past n = true≢false (sym (ap (λ (v : PlaceValue). v.is_past) (n.is_value ∙ past_value_lem)))
nowhere (at r) n =
    go (Memᴰ.cases_cons (subst (λ (l : List Row). r ∈ l) rows_one ((rows_are p r).1 n.is_place)))
  where
    other : (s : Row) (mask : ℕ) → r ≡ s → place_value (at s) ≡ value_with mask → 1 ≡ mask
    other s mask e f = first_mask (n.is_value ∙ ap (λ (x : Row). place_value (at x)) e ∙ f)

    go : (r ≡ hole_row) ⊎ (r ∈ bare_row ∷ []) → ⊥
    go (inl e) = true≢false (ap (λ (n : ℕ). ltb n 2) (other hole_row highest e hole_value))
    go (inr m) =
        ⊎_elim
        (λ (e : r ≡ bare_row). let z : ◌≡◌ {A = ℕ} 1 0 = other bare_row 0 e bare_value in omega arith)
        (λ (x : r ∈ []). Memᴰ.not-nil x)
        (Memᴰ.cases_cons m)

-- Searching: "Found: the first solution row at or after the place, and the place after it"
pub first_found : SearchCall one (value_with highest) 1 (found (value_with highest) (value_with 0))
unfolding texts place_value masks_of mask_of max_functions max_face_nodes
first_found =
    on_accepted p one_accepted
    (searches (omega arith) (at hole_row) hole_named both_rows (record { before = []; whole = rows_one; begins = refl })
    (finds [] hole_row (bare_row ∷ []) tt hole_solves (omega arith)))

-- "End: none there; the place is past the last"
pub end_found : SearchCall one past_value 1 (end past_value)
unfolding texts place_value max_functions
end_found =
    on_accepted p one_accepted
    (searches (omega arith) past (record { is_place = tt; is_value = refl }) [] (record { before = both_rows; whole = rows_one; begins = refl })
    (ends [] tt (omega arith)))

-- ... also where n is one and the one row left is no solution row
pub last_row : SearchCall two (value_with 0) 1 (end past_value)
unfolding texts place_value max_functions
last_row =
    on_accepted q two_accepted
    (searches (omega arith) (at bare_row) (bare_named q rows_two) (bare_row ∷ [])
    (record { before = hole_row ∷ []; whole = rows_two; begins = refl }) (ends (bare_row ∷ []) (bare_other, tt) (omega arith)))

-- 1 to 14 come first, then "15 n is 0; 16 no such place"
pub refused_first : SearchCall (7 ∷ []) (value_with 1) 0 (refused_call 2)
unfolding accepts
refused_first = not_accepted 2 refl

pub fifteen_first : SearchCall one (value_with 1) 0 (refused_call 15)
fifteen_first = on_accepted p one_accepted (no_allowance refl)

pub sixteen : SearchCall one (value_with 1) 1 (refused_call 16)
sixteen = on_accepted p one_accepted (no_such_place (omega arith) nowhere)

-- Writing: 16, "past the last included"; 17; 18; and a text before a byte that stays
row_flag : (r : Row) → (place_value (at r)).is_past ≡ false
unfolding place_value
row_flag r = refl

pub past_not_written : WriteCall one past_value (0 ∷ []) (refused 16) (0 ∷ [])
past_not_written =
    on_accepted p one_accepted (no_such_row (λ r n. true≢false (ap (λ (v : PlaceValue). v.is_past) n.is_value ∙ row_flag r)))

pub seventeen : WriteCall two (value_with 0) (0 ∷ []) (refused 17) (0 ∷ [])
unfolding texts
seventeen = on_accepted q two_accepted (no_solution_row bare_row (bare_named q rows_two) bare_other)

pub eighteen : WriteCall one (value_with 0) (replicate 12 0) (refused 18) (replicate 12 0)
unfolding texts
eighteen = on_accepted p one_accepted (too_short bare_row (bare_named p rows_one) bare_solves (omega arith))

pub written : WriteCall one (value_with 0) (replicate 14 0) (got 13) (hex 13 0x0900060001000200050B000101 ++ (0 ∷ []))
unfolding texts
written = on_accepted p one_accepted (writes bare_row (bare_named p rows_one) bare_solves (omega arith))

-- Checking
pub record Verdict : Type 0 where
  pub input : Bytes
  pub text : Bytes
  pub answer : Answer Bool

abbrev says : Answer Bool → Bytes → Verdict
says answer text = record { input = one; text = text; answer = answer }

abbrev pub verdicts : List Verdict
verdicts =
    -- a yes, and whatever the bound names: (X, ∀y.y)
    says (got true) (hex 16 0x090004000A0000080006010100020005)
    ∷ says (got true) (hex 13 0x0900060001000200050B000101)
    ∷ record {
      input = hex 19 0x07001005000101040009000100040200020004;
      text = hex 16 0x08000D01040009000100070200020007;
      answer = got true;
    }
    -- X missing, and a foreign metavariable
    ∷ says (got false) (hex 9 0x090006000100020005)
    ∷ says (got false) (hex 17 0x0900060001000200050B0001010B000102)
    -- a body for X, a value for P
    ∷ says (got false) (hex 16 0x090004000A0000090006010100020005)
    ∷ says (got false) (hex 13 0x0800060001000200050B000101)
    -- a value where none is needed, and none where one is
    ∷ says (got false) (hex 18 0x090006000100020005080006010100020005)
    ∷ says (got false) (hex 11 0x090004000A00000B000101)
    -- another value
    ∷ says (got false) (hex 16 0x090004000A0000080006010100020006)
    -- 1 to 14, then 19, then 20
    ∷ record { input = 7 ∷ []; text = replicate 8193 0; answer = refused 2 }
    ∷ says (refused 19) (replicate 8193 0)
    ∷ says (refused 20) (0 ∷ [])
    -- then 27: X before P, X doubled, P doubled; and 20 where the next field has a number that is none
    ∷ says (refused 27) (hex 13 0x0B000101090006000100020005)
    ∷ says (refused 27) (hex 17 0x0900060001000200050B0001010B000101)
    ∷ says (refused 27) (hex 14 0x090004000A0000090004000A0000)
    ∷ says (refused 20) (hex 17 0x0B0001010900060001000200050B000120)
    ∷ []

abbrev pub IsSaid : Verdict → Type 0
IsSaid v = check_call v.input v.text ≡ v.answer

pub verdicts_hold : All IsSaid verdicts
unfolding accepts reads passes check_call check_on
verdicts_hold =
    (refl, (refl, (refl, (refl, (refl, (refl, (refl, (refl, (refl, (refl, (refl, (refl, (refl, (refl, (refl, (refl, (refl, tt)))))))))))))))))

-- T-09, on (P(P), a): "the checker says no to every well-formed text"
abbrev of_itself : Answer Bool → Bytes → Verdict
of_itself answer text = record { input = hex 16 0x07000D06000500050001000100020006; text = text; answer = answer }

abbrev pub both_ways_verdicts : List Verdict
both_ways_verdicts =
    -- a body for P, a value, an open P, and no field
    of_itself (got false) (hex 9 0x090006000100020006)
    ∷ of_itself (got false) (hex 9 0x080006000100020006)
    ∷ of_itself (got false) (hex 4 0x0B000100)
    ∷ of_itself (got false) []
    -- a text that is none, and a body and a value for P, in either order
    ∷ of_itself (refused 20) (0 ∷ [])
    ∷ of_itself (refused 27) (hex 16 0x090004000A0000080006000100020006)
    ∷ of_itself (refused 27) (hex 16 0x080006000100020006090004000A0000)
    ∷ []

pub both_ways_said : All IsSaid both_ways_verdicts
unfolding accepts reads passes check_call check_on
both_ways_said = (refl, (refl, (refl, (refl, (refl, (refl, (refl, tt)))))))

-- A problem without rows, (a, b): no masks name a row of it, empty ones neither
no_row_named : (p : Problem) (mask : ℕ) → rows p ≡ [] → (place : Place Row) → Names p (value_with mask) place → ⊥
no_row_named p mask e past n = true≢false (sym (ap (λ (v : PlaceValue). v.is_past) (n.is_value ∙ past_value_lem)))
no_row_named p mask e (at r) n = Memᴰ.not-nil (subst (λ (l : List Row). r ∈ l) e ((rows_are p r).1 n.is_place))

abbrev apart : Bytes
apart = hex 13 0x07000A01000200060100020007

pub no_rows_no_place : (p : Problem) × (accept apart ≡ got p) × (rows p ≡ []) × SearchCall apart (value_with 0) 1 (refused_call 16)
unfolding accepts texts
no_rows_no_place = (_, refl, refl, on_accepted _ refl (no_such_place (omega arith) (no_row_named _ 0 refl)))

-- The program, on the first example: "`readings` prints in full"
abbrev called : HostReply → HostCall
called reply = record { allowance = allowance; reply = reply }

abbrev three_calls : List HostCall
three_calls =
    called (found (place_value (at hole_row)) (place_value (at bare_row)))
    ∷ called (found (place_value (at bare_row)) (place_value past))
    ∷ called (end (place_value past))
    ∷ []

three_called : Carried one p three_calls
unfolding allowance
three_called = record {
  accepted = one_accepted;
  run = (
    on_accepted p one_accepted
        (searches (omega arith) (start p) (record { is_place = starts; is_value = refl }) both_rows
        (record { before = []; whole = rows_one; begins = first }) (finds [] hole_row (bare_row ∷ []) tt hole_solves (omega arith))),
    (
      on_accepted p one_accepted
          (searches (omega arith) (at bare_row) (record { is_place = (rows_are p bare_row).0 (bare_in p rows_one); is_value = refl })
          (bare_row ∷ []) (record { before = hole_row ∷ []; whole = rows_one; begins = refl })
          (finds [] bare_row [] tt bare_solves (omega arith))),
      (
        on_accepted p one_accepted
            (searches (omega arith) past (record { is_place = tt; is_value = refl }) []
            (record { before = both_rows; whole = rows_one; begins = refl }) (ends [] tt (omega arith))),
        tt,
      ),
    ),
  );
}
  where
    first : start p ≡ at hole_row
    first = ap (λ (rs : List Row). place_of rs) rows_one

    starts : IsPlace p (start p)
    starts = subst (IsPlace p) (sym first) ((rows_are p hole_row).0 (hole_in_lem p rows_one))

pub prints_in_full : (lines : List Bytes) × Output one lines × (each (λ (line : Bytes). line) lines
    ≡ ascii "solution 1:090004000A0000080006010100020005\nsolution 2:0900060001000200050B000101\nend 2\n")
unfolding texts decimal hexadecimal most_printed
prints_in_full = (
  _,
  lists p three_calls three_called (refl, (refl, (refl, tt)))
      (solution {k = 0} hole_row (omega arith) (record { is_place = (rows_are p hole_row).0 (hole_in_lem p rows_one); is_value = refl })
      (solution {k = 1} bare_row (omega arith) (record { is_place = (rows_are p bare_row).0 (bare_in p rows_one); is_value = refl }) ended)),
  refl,
)

-- "or `refused N` (the number)"
pub prints_refused : (lines : List Bytes) × Output (7 ∷ []) lines × (each (λ (line : Bytes). line) lines ≡ ascii "refused 2\n")
unfolding accepts decimal
prints_refused = (_, refuses 2 refl, refl)

-- "`more 1000` in place of a 1,001st"
pub prints_more : Lines p most_printed (found past_value past_value ∷ []) (ascii "more 1000\n" ∷ [])
unfolding decimal most_printed
prints_more = more
