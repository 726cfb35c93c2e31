-- The second demand, and the texts of a list of calls, for any way in which a host calls the writer and the checker.
--   Lawful   the calls are document 01's, and each row can be held
use mathlib.Core.Path.{◌≡◌, ap, sym, ◌∙◌}
use mathlib.Core.Bool.{Bool, true}
use mathlib.Core.List.{List, [], ◌∷◌, map}
use Prim.Native.Nat.{ℕ, ◌≤◌}
use lib.ListN.{length, length-map, take}
use Rattle.meaning.specs.Limits.{largest_written}
use Rattle.meaning.specs.Basics.{All, Byte, Bytes, Pairwise}
use Rattle.meaning.specs.Problem.{Problem}
use Rattle.meaning.specs.Read.{Answer, got}
use Rattle.meaning.specs.Readable.{Accepted}
use Rattle.meaning.specs.Accept.{accept}
use Rattle.meaning.specs.Row.{IsRow, Row}
use Rattle.meaning.specs.FullList.{Listed}
use Rattle.meaning.specs.Search.{at}
use Rattle.meaning.specs.PlaceValue.{Names, PlaceValue, place_value}
use Rattle.meaning.specs.Entry.{WriteCall, WriteOn, check_call}
use Rattle.meaning.specs.Calls.{ThirdDemand, given_row}
use Rattle.meaning.specs.Given.{TextsGiven, named_by}
use Rattle.meaning.specs.Given as given
use Rattle.meaning.proofs.Proper.{accepted_proper}
use Rattle.meaning.proofs.Lists.{mem_map}
use Rattle.meaning.proofs.ProblemReading.{accept_accepted}
use Rattle.meaning.proofs.FullListLaws.{full_list_every, full_list_once}
use Rattle.meaning.proofs.TextbookLaws.{textbook}
use Rattle.meaning.proofs.WriteLaws.{when_large, write_on}
use Rattle.meaning.proofs.EntryLaws.{RowOfText, WrittenText, check_is_right, passing_written, written_passes_lem}
use Rattle.meaning.proofs.AlphaTexts.{same_filling_lem}
use Rattle.meaning.proofs.GivenLaws.{text_named, texts_given}
use Rattle.promises.specs.Promises.{Interface, Owed, ReadBack, SecondDemand, TextOf}

pub record Lawful (host : Interface) : Type 0 where
  pub writes : (s : Bytes) (row : host.Held) (out out' : Bytes) (a : Answer ℕ) → host.Writing s row out a out'
      → WriteCall s (host.value row) out a out'
  pub checks : (s text : Bytes) (a : Answer Bool) → host.Checking s text a → a ≡ check_call s text
  pub holds : (p : Problem) (r : Row) → Accepted p → IsRow p r → (row : host.Held) × (host.value row ≡ place_value (at r))

-- A text that was written, by the call
read_back : (s : Bytes) (v : PlaceValue) (out out' : Bytes) (n : ℕ) → All Byte s → WriteCall s v out (got n) out' → ReadBack s v (take n out')
read_back s v out out' n b w =
    let x : WrittenText s v n out' = written_passes_lem s v out out' n b w in
    let a : Accepted x.problem = (accept_accepted s x.problem b x.accepted).0 in
    let (σ, solution, bodies) = x.is_solution_row in
    record {
      problem = x.problem;
      accepted = x.accepted;
      choices = x.row;
      named = x.named;
      filling = σ;
      reads = ap named_by x.text ∙ text_named x.problem a x.row σ x.named.is_place solution bodies;
      solution = solution;
      bodies = bodies;
    }

module _ (host : Interface) (lawful : Lawful host) where
  -- THE SECOND DEMAND
  pub texts_kept : SecondDemand host
  texts_kept = record {
    passes = λ s text a c p is e f.
        let right = check_is_right s text p is e f in
        let same = lawful.checks s text a c in
        (λ y. right.0 (sym same ∙ y), λ x. same ∙ right.1 x);
    reads_back = λ s row out out' n b w. read_back s (host.value row) out out' n b (lawful.writes s row out out' (got n) w);
    written_passes = λ s row out out' n a b w c.
        lawful.checks s (take n out') a c
        ∙ (written_passes_lem s (host.value row) out out' n b (lawful.writes s row out out' (got n) w)).yes;
    has_row = row_of;
    only_names = λ s text text' is is' b b' c c' f f'. same_filling_lem text text' is is' b b' f f';
  }
    where
      row_of : (s text : Bytes) → All Byte s → host.Checking s text (got true)
          → (row : host.Held) × ((out out' : Bytes) (a : Answer ℕ) → largest_written ≤ length out → host.Writing s row out a out'
          → (n : ℕ) × (a ≡ got n) × (named_by (take n out') ≡ named_by text))
      row_of s text b c =
          let x : RowOfText s text = passing_written s text b (sym (lawful.checks s text (got true) c)) in
          let p : Problem = x.problem in
          let a : Accepted p = (accept_accepted s p b x.accepted).0 in
          let (row, same) = lawful.holds p x.row a x.is_row in
          let named : Names p (host.value row) (at x.row) = record { is_place = x.is_row; is_value = same } in (
            row,
            λ out out' answer room w.
                let on : WriteOn p (host.value row) out answer out' = write_on p x.accepted (lawful.writes s row out out' answer w) in
                let (n, gives, front) = when_large p (host.value row) out a x.row named x.is_solution_row room on in
                (n, gives, ap named_by front ∙ x.names),
          )

  -- THE THIRD DEMAND, with the full list's own properties and the texts of the Founds
  module _ (s : Bytes) (bytes : All Byte s) (p : Problem) (e : accept s ≡ got p) where
    accepted : Accepted p
    accepted = (accept_accepted s p bytes e).0

    written_on : (row : host.Held) (out out' : Bytes) (a : Answer ℕ) → host.Writing s row out a out' → WriteOn p (host.value row) out a out'
    written_on row out out' a w = write_on p e (lawful.writes s row out out' a w)

    texts_on : (rows : List host.Held) (ts : List Bytes) → Pairwise (TextOf host s) rows ts
        → Pairwise (given.TextOf p) (map host.value rows) ts
    texts_on [] [] t = tt
    texts_on [] (x ∷ ts) t = absurd t
    texts_on (row ∷ rows) [] t = absurd t
    texts_on (row ∷ rows) (x ∷ ts) ((out, out', n, w, front), later) = (
      record { before = out; after = out'; count = n; call = written_on row out out' (got n) w; front = front },
      texts_on rows ts later,
    )

    pub owed : (rows : List host.Held) (ended : Type 0) (allowances : ℕ) → ThirdDemand p (map host.value rows) ended allowances
        → Owed host s rows ended allowances
    owed rows ended allowances d =
        let long : length (map host.value rows) ≡ length rows = length-map rows host.value in
        let texts : TextsGiven p (map host.value rows) d.full = texts_given p accepted d.full d.is_full (map host.value rows) d.prefix in
        record {
          problem = p;
          accepted = e;
          full = d.full;
          every_solution = full_list_every p (accepted_proper p accepted) d.full d.is_full;
          each_once = full_list_once p (accepted_proper p accepted) d.full d.is_full;
          nothing_else = λ x m. (d.is_full.members x.0 x.1).0 m;
          in_row_order = d.is_full.ordered;
          textbook = textbook p accepted d.full d.is_full;
          first = d.prefix ∙ ap (λ (n : ℕ). map given_row (take n d.full)) long;
          texts = λ ts t.
              texts.names ts (texts_on rows ts t) ∙ ap (λ (n : ℕ). map (λ (x : Listed). got x.1) (take n d.full)) long;
          written = λ row m out out' a room w. texts.written (host.value row) (mem_map host.value m) out out' a room (written_on row out out' a w);
          all = d.whole;
          rows = d.rows;
          are_rows = d.are_rows;
          reaches_end = d.ends;
        }
