-- What `readings` prints: for each input there is an output, and only one, although a pause may go further.
--   Replies    the replies to calls of the program, each at the place that the one before it left
--   Printing   calls of the program from a place on, after k solutions, and the lines that are printed for them
use mathlib.Core.Path.{◌≡◌, refl, ap, ap₂, sym, ◌∙◌, subst}
use Prim.Native.Nat.{ℕ, zero, suc, ◌+◌, ◌<◌}
use mathlib.Core.List.{List, [], ◌∷◌, map}
use native.Mathlib.Omega.{arith}
use Rattle.meaning.specs.Basics.{All, Byte, Bytes}
use Rattle.meaning.specs.Problem.{Problem}
use Rattle.meaning.specs.Row.{Row}
use Rattle.meaning.specs.Rows.{rows}
use Rattle.meaning.specs.Read.{Answer, got, refused}
use Rattle.meaning.specs.Readable.{Accepted}
use Rattle.meaning.specs.Accept.{accept}
use Rattle.meaning.specs.Search.{From, Place, at, end, found, paused, refused_call, start}
use Rattle.meaning.specs.PlaceValue.{Names, PlaceValue, place_value}
use Rattle.meaning.specs.Entry.{HostReply, SearchCall, SearchOn, row_text}
use Rattle.meaning.specs.Calls.{HostCall, Run, left}
use Rattle.meaning.specs.Program.{Lines, Output, allowance, count_line, ended, lists, more, most_printed, pauses, refuses, solution, solution_line}
use Rattle.meaning.proofs.ByteLaws.{got_is, refused_not}
use Rattle.meaning.proofs.ProblemReading.{accept_accepted}
use Rattle.meaning.proofs.PlaceLaws.{from_place, value_names_row}
use Rattle.meaning.proofs.OneCall.{Alike, both_pause, not_refused, one_search, reply_named, same, some_search}
use Rattle.meaning.proofs.CallLaws.{on_run, run_on}

data Replies (p : Problem) : PlaceValue → List HostReply → Type 0 where
  none : {v : PlaceValue} → Replies p v []
  then : {v : PlaceValue} {x : HostReply} {xs : List HostReply} → SearchOn p v allowance x → Replies p (left v x) xs → Replies p v (x ∷ xs)

replies : (p : Problem) (v : PlaceValue) (cs : List HostCall) → Run (SearchOn p) v cs → All (λ c. c.allowance ≡ allowance) cs
    → Replies p v (map (λ c. c.reply) cs)
replies p v [] r a = none
replies p v (c ∷ cs) r a =
    then (subst (λ (n : ℕ). SearchOn p v n c.reply) a.0 r.0) (replies p (left v c.reply) cs r.1 a.1)

-- Replies that are alike are of one kind
abbrev kind : HostReply → ℕ
kind (found row next) = 0
kind (end next) = 1
kind (paused next) = 2
kind (refused_call r) = 3

same_kind : {x y : HostReply} → Alike x y → kind x ≡ kind y
same_kind (same e) = ap kind e
same_kind both_pause = refl

same_found : {row row' next next' : PlaceValue} → Alike (found row next) (found row' next') → (row ≡ row') × (next ≡ next')
same_found (same e) = (cc, cc)

pub some_allowance : 0 < allowance
unfolding allowance
some_allowance = omega arith

-- Calls of the program: the last one, and a Found before others
pub record Printing (p : Problem) (k : ℕ) (v : PlaceValue) (lines : List Bytes) : Type 0 where
  pub calls : List HostCall
  pub run : Run (SearchOn p) v calls
  pub allowances : All (λ c. c.allowance ≡ allowance) calls
  pub printed : Lines p k (map (λ c. c.reply) calls) lines

module _ {p : Problem} {k : ℕ} {v : PlaceValue} where
  pub last_call : {reply : HostReply} {line : Bytes} → SearchOn p v allowance reply → Lines p k (reply ∷ []) (line ∷ [])
      → Printing p k v (line ∷ [])
  last_call {reply} c l =
      record { calls = record { allowance = allowance; reply = reply } ∷ []; run = (c, tt); allowances = (refl, tt); printed = l }

  pub found_call : {row next : PlaceValue} {lines : List Bytes} → SearchOn p v allowance (found row next) → k < most_printed → (r : Row)
      → Names p row (at r) → Printing p (suc k) next lines → Printing p k v (solution_line (suc k) (row_text p r) ∷ lines)
  found_call {row} {next} c few r named later =
      record {
        calls = record { allowance = allowance; reply = found row next } ∷ later.calls;
        run = (c, later.run);
        allowances = (refl, later.allowances);
        printed = solution r few named later.printed;
      }

pub calls_output : (s : Bytes) (p : Problem) {lines : List Bytes} → accept s ≡ got p → Printing p 0 (place_value (start p)) lines → Output s lines
calls_output s p e x =
    lists p x.calls (record { accepted = e; run = on_run s p (place_value (start p)) x.calls e x.run }) x.allowances x.printed

module _ (p : Problem) (accepted : Accepted p) where
  alike : {v : PlaceValue} {x y : HostReply} → SearchOn p v allowance x → SearchOn p v allowance y → Alike x y
  alike {v} a b = one_search p v allowance accepted a b

  unlike : {A : Type 0} {v : PlaceValue} {x y : HostReply} → SearchOn p v allowance x → SearchOn p v allowance y → (kind x ≡ kind y → ⊥) → A
  unlike a b other = absurd (other (same_kind (alike a b)))

  -- ONLY ONE: the replies to two lists of calls are alike, one after the other
  lines_alike : {k k' : ℕ} {v : PlaceValue} {rs rs' : List HostReply} {xs ys : List Bytes}
      → Replies p v rs → Replies p v rs' → k ≡ k' → Lines p k rs xs → Lines p k' rs' ys → xs ≡ ys
  lines_alike {k} {k'} (then a later) (then {xs = rs'} b later') e (solution r {lines = lines} l m d) (solution r' l' m' d') =
      let (row, next) = same_found (alike a b) in
      let same : r ≡ r' = value_names_row p _ r r' accepted (subst (λ (v : PlaceValue). Names p v (at r)) row m) m' in
      ap (λ (n : ℕ). solution_line (suc n) (row_text p r) ∷ lines) e
      ∙ ap₂ {C = List Bytes} (λ (x : Row) (zs : List Bytes). solution_line (suc k') (row_text p x) ∷ zs) same
      (lines_alike {k = suc k} {k' = suc k'} later (subst (λ (v : PlaceValue). Replies p v rs') (sym next) later') (ap suc e) d d')
  lines_alike none _ _ x _ = elim x [ ]
  lines_alike (then a later) none _ _ y = elim y [ ]
  lines_alike (then a later) (then b later') e (solution r l m d) more = absurd (omega arith)
  lines_alike (then a later) (then b later') e (solution r l m d) ended = unlike a b (λ z. omega arith)
  lines_alike (then a later) (then b later') e (solution r l m d) pauses = unlike a b (λ z. omega arith)
  lines_alike (then a later) (then b later') e more (solution r l m d) = absurd (omega arith)
  lines_alike (then a later) (then b later') e more more = refl
  lines_alike (then a later) (then b later') e more ended = unlike a b (λ z. omega arith)
  lines_alike (then a later) (then b later') e more pauses = unlike a b (λ z. omega arith)
  lines_alike (then a later) (then b later') e ended (solution r l m d) = unlike a b (λ z. omega arith)
  lines_alike (then a later) (then b later') e ended more = unlike a b (λ z. omega arith)
  lines_alike (then a later) (then b later') e ended ended = ap (λ (n : ℕ). count_line "end " n ∷ []) e
  lines_alike (then a later) (then b later') e ended pauses = unlike a b (λ z. omega arith)
  lines_alike (then a later) (then b later') e pauses (solution r l m d) = unlike a b (λ z. omega arith)
  lines_alike (then a later) (then b later') e pauses more = unlike a b (λ z. omega arith)
  lines_alike (then a later) (then b later') e pauses ended = unlike a b (λ z. omega arith)
  lines_alike (then a later) (then b later') e pauses pauses = ap (λ (n : ℕ). count_line "paused " n ∷ []) e

  one_lines : {k : ℕ} {v : PlaceValue} {rs rs' : List HostReply} {xs ys : List Bytes}
      → Replies p v rs → Replies p v rs' → Lines p k rs xs → Lines p k rs' ys → xs ≡ ys
  one_lines a b x y = lines_alike a b refl x y

  -- SOME: from any place on
  abbrev SomeLines : ℕ → PlaceValue → Type 0
  SomeLines k v = (lines : List Bytes) × Printing p k v lines

  by_reply : {k : ℕ} {v : PlaceValue} (place : Place Row) → Names p v place
      → ((row next : PlaceValue) → SearchOn p v allowance (found row next) → SomeLines k v)
      → (reply : HostReply) → SearchOn p v allowance reply → SomeLines k v
  by_reply place named on_found (found row next) c = on_found row next c
  by_reply place named on_found (end next) c = (_, last_call c ended)
  by_reply place named on_found (paused next) c = (_, last_call c pauses)
  by_reply place named on_found (refused_call r) c = absurd (not_refused p place named some_allowance c)

  -- so many solutions may still be printed
  some_lines : (most k : ℕ) → k + most ≡ most_printed → {v : PlaceValue} (place : Place Row) → Names p v place → SomeLines k v
  some_lines zero k e {v} place named =
      let all : most_printed ≡ k = omega (arith, e) in
      let (reply, c) = some_search p v allowance accepted in
      by_reply place named
      (λ row next f. (_, last_call f (subst (λ (n : ℕ). Lines p n (found row next ∷ []) (count_line "more " n ∷ [])) all more)))
      reply c
  some_lines (suc most) k e {v} place named =
      let (reply, c) = some_search p v allowance accepted in
      by_reply place named
      (λ row next f.
      let ((r, m, solves), (later, h)) = reply_named p f in
      let (lines, rest) = some_lines most (suc k) (omega (arith, e)) later h in
      (_, found_call f (omega (arith, e)) r m rest))
      reply c

-- THE OUTPUT
pub one_output : (s : Bytes) {xs ys : List Bytes} → All Byte s → Output s xs → Output s ys → xs ≡ ys
one_output s b (refuses r e) (refuses q f) = let z : r ≡ q = cc in ap (λ (n : ℕ). count_line "refused " n ∷ []) z
one_output s b (refuses r e) (lists p cs c a l) = absurd (refused_not (sym e ∙ c.accepted))
one_output s b (lists p cs c a l) (refuses r e) = absurd (refused_not (sym e ∙ c.accepted))
one_output s b (lists p cs c a l) (lists q ds d a' {lines = ys} l') =
    let is : q ≡ p = got_is (sym d.accepted ∙ c.accepted) in
    one_lines p (accept_accepted s p b c.accepted).0
    (replies p (place_value (start p)) cs (run_on s p (place_value (start p)) cs c.accepted c.run) a)
    (replies p (place_value (start p)) ds (run_on s p (place_value (start p)) ds c.accepted
    (subst (λ (y : Problem). Run (SearchCall s) (place_value (start y)) ds) is d.run)) a')
    l (subst (λ (y : Problem). Lines y 0 (map (λ x. x.reply) ds) ys) is l')

pub some_output : (s : Bytes) → All Byte s → (lines : List Bytes) × Output s lines
some_output s b = go (accept s) refl
  where
    go : (a : Answer Problem) → accept s ≡ a → (lines : List Bytes) × Output s lines
    go (refused r) e = (_, refuses r e)
    go (got p) e =
        let from : From (rows p) (start p) (rows p) = record { before = []; whole = refl; begins = refl } in
        let named : Names p (place_value (start p)) (start p) = record { is_place = from_place p (start p) (rows p) from; is_value = refl } in
        let (lines, calls) = some_lines p (accept_accepted s p b e).0 most_printed 0 (omega arith) (start p) named in
        (lines, calls_output s p e calls)
