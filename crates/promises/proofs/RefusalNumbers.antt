-- Every refusal that a C program is given has a number from 1 to 20, 25 or 27: not 0, which is done, none from 256 on, which are answers,
-- and not 12, which is withdrawn; of `matcher_longest` it has 28 or 29.
--   start-numbers, search-numbers, write-numbers, check-numbers, longest-numbers   one for each exported function
-- The rest goes through the definitions of reading in document 01's order.
use mathlib.Core.Path.{◌≡◌, refl, subst, ◌∙◌}
use mathlib.Core.Logic.{◌⊎◌, inl, inr, ⊎_elim}
use Prim.Native.Nat.{ℕ, zero, suc, ◌-◌, ◌<◌}
use mathlib.Core.Bool.{Bool, true, false, ◌&&◌, ◌||◌, not, false≢true}
use mathlib.Core.List.{List}
use lib.ListN.{length, get_or}
use lib.Dec.{eqb, ltb}
use native.Mathlib.Omega.{arith}
use borrow.Author.Tests.{ltb-true}
use Rattle.meaning.proofs.Lists.{T_true, and_T, choose_false, eqb_eq, eqb_other, never, or_cases, true_T}
use Rattle.meaning.specs.Limits.{first_wide, max_constraints, max_depth, max_face_nodes, max_functions, largest_problem, largest_text, metavariable_count}
use Rattle.meaning.specs.Basics.{Bytes, choose}
use Rattle.meaning.specs.Problem.{Problem, functions}
use Rattle.meaning.specs.Read.{Answer, after, got, refused, Context, in_pattern, in_argument, in_expression, in_body, Kind, symbol_kind}
use Rattle.meaning.specs.Read.{variable_kind, application_kind, binder_kind, metavariable_kind, function_kind, hole_kind, metavariable_in}
use Rattle.meaning.specs.Read.{function_in, hole_in, kind_of, word_at, long_at, parts_of, head_of, Content, numbered, leaf, over, many, content_of}
use Rattle.meaning.specs.Read.{Reader, read_exactly, read_all}
use Rattle.meaning.specs.Read.{context_below, read_content, read_term, read_pair, constraint_head, read_constraints, read_problem}
use Rattle.meaning.specs.Accept.{overlarge, check_problem, accept}
use Rattle.meaning.specs.Text.{in_order, numbers, or_twenty, read_items, read_text, rises}
use Rattle.meaning.specs.Row.{Row}
use Rattle.meaning.specs.Search.{found, end, paused, refused_call, Place, Reply, Keeps, finds, ends, pauses}
use Rattle.meaning.specs.PlaceValue.{PlaceValue}
use Rattle.meaning.specs.Entry.{HostReply, WriteOn, reply_value, start_call, SearchCall, not_accepted, on_accepted, no_allowance, no_such_place, searches}
use Rattle.meaning.specs.Entry.{WriteCall, check_call, check_on, no_such_row, no_solution_row, too_short, writes}
use Rattle.meaning.specs.Longest.{length_of, longest_into}
use Rattle.longest.proofs.IntoLaws.{into_by}
use Rattle.words.specs.Words.{has_place}
use Rattle.tivagyesz.specs.Exported.{check_code, length_after, place_into, start_into, with_row, write_code}
use Rattle.promises.specs.Numbers.{is_refusal, Refuses, answer, refusal, RefusesReply, check_answer, write_answer}

-- A refusal comes from the first part or from the second
then : {A B : Type 0} (a : Answer A) (f : A → Answer B) → Refuses a → ((x : A) → Refuses (f x)) → Refuses (after a f)
then a f (refusal r e) k = refusal r e
then a f (answer x) k = k x

either : {A : Type 0} (b : Bool) (x y : Answer A) → Refuses x → Refuses y → Refuses (choose b x y)
either true x y h k = h
either false x y h k = k

-- A field: its head and its fixed part
metavariable_in_lem : (ctx : Context) → Refuses (metavariable_in ctx)
unfolding metavariable_in
metavariable_in_lem in_pattern = answer _
metavariable_in_lem in_argument = answer _
metavariable_in_lem in_expression = refusal 8 refl
metavariable_in_lem in_body = refusal 8 refl

function_in_lem : (n : ℕ) (ctx : Context) → Refuses (function_in n ctx)
unfolding function_in
function_in_lem n in_pattern = answer _
function_in_lem n in_argument = refusal 9 refl
function_in_lem n in_expression = refusal 8 refl
function_in_lem n in_body = refusal 8 refl

hole_in_lem : (i : ℕ) (ctx : Context) → Refuses (hole_in i ctx)
unfolding hole_in
hole_in_lem i in_pattern = refusal 4 refl
hole_in_lem i in_argument = refusal 4 refl
hole_in_lem i in_expression = refusal 4 refl
hole_in_lem i in_body = answer _

kind_of_lem : (ctx : Context) (tag : ℕ) → Refuses (kind_of ctx tag)
unfolding kind_of
kind_of_lem ctx tag =
    either (eqb tag 1) _ _ (answer _)
    (either (eqb tag 2) _ _ (answer _)
    (either (eqb tag 3) _ _ (answer _)
    (either (eqb tag 4) _ _ (answer _)
    (either (eqb tag 5) _ _ (metavariable_in_lem ctx)
    (either (eqb tag 6) _ _ (function_in_lem 1 ctx)
    (either (eqb tag 10) _ _ (hole_in_lem 0 ctx)
    (refusal 4 refl)))))))

parts_of_lem : (s : Bytes) → Refuses (parts_of s)
unfolding parts_of
parts_of_lem s =
    either (ltb (length s) 3) _ _ (refusal 2 refl)
    (either (ltb (length s - 3) (word_at s 1)) _ _ (refusal 3 refl)
    (answer _))

head_of_lem : (ctx : Context) (s : Bytes) → Refuses (head_of ctx s)
unfolding head_of
head_of_lem ctx s =
    either (eqb (length s) 0) _ _ (refusal 7 refl)
    (then (parts_of s) _ (parts_of_lem s) (λ p. then (kind_of ctx p.tag) _ (kind_of_lem ctx p.tag) (λ k. answer _)))

numbered_of : (m : ℕ) (c : Content) → Refuses (numbered m c)
numbered_of m c = either (ltb m metavariable_count) _ _ (answer c) (refusal 10 refl)

content_of_lem : (k : Kind) (c : Bytes) → Refuses (content_of k c)
unfolding content_of
content_of_lem symbol_kind c =
    either (eqb (length c) 2) _ _ (answer _)
    (either (eqb (length c) 4) _ _ (either (ltb (long_at c 0) first_wide) _ _ (refusal 25 refl) (answer _))
    (refusal 6 refl))
content_of_lem variable_kind c = either (eqb (length c) 2) _ _ (answer _) (refusal 6 refl)
content_of_lem application_kind c = either (eqb (length c) 0) _ _ (refusal 6 refl) (answer _)
content_of_lem binder_kind c = either (ltb (length c) 4) _ _ (refusal 6 refl) (answer _)
content_of_lem metavariable_kind c = either (eqb (length c) 1) _ _ (numbered_of (get_or c 0 0) _) (refusal 6 refl)
content_of_lem (function_kind n) c = either (eqb (length c) 0) _ _ (refusal 6 refl) (numbered_of (get_or c 0 0) _)
content_of_lem (hole_kind i) c = either (eqb (length c) 0) _ _ (answer _) (refusal 6 refl)

-- Terms and constraints
module _ (read : Reader) (h : (s : Bytes) → Refuses (read s)) where
  exactly : (n : ℕ) (s : Bytes) → Refuses (read_exactly n read s)
  unfolding read_exactly
  exactly zero s = either (eqb (length s) 0) _ _ (answer _) (refusal 7 refl)
  exactly (suc n) s = then (read s) _ (h s) (λ x. then (read_exactly n read x.1) _ (exactly n x.1) (λ f. answer _))

  all : (n : ℕ) (s : Bytes) → Refuses (read_all n read s)
  unfolding read_all
  all zero s = answer _
  all (suc n) s =
      either (eqb (length s) 0) _ _ (answer _)
      (then (read s) _ (h s) (λ x. then (read_all n read x.1) _ (all n x.1) (λ f. answer _)))

content : (read : Context → Reader) → ((ctx : Context) (s : Bytes) → Refuses (read ctx s)) → (ctx : Context) (c : Content)
    → Refuses (read_content read ctx c)
content read h ctx (leaf l) = answer _
content read h ctx (over l n s) =
    let below = context_below l ctx in then (read_exactly n (read below) s) _ (exactly (read below) (h below) n s) (λ f. answer _)
content read h ctx (many s) = then (read_all (length s) (read ctx) s) _ (all (read ctx) (h ctx) (length s) s) (λ f. answer _)

term : (levels : ℕ) (ctx : Context) (s : Bytes) → Refuses (read_term levels ctx s)
unfolding read_term
term zero ctx s = then (head_of ctx s) _ (head_of_lem ctx s) (λ h. refusal 5 refl)
term (suc levels) ctx s =
    then (head_of ctx s) _ (head_of_lem ctx s) (λ h.
    then (content_of h.kind h.content) _ (content_of_lem h.kind h.content) (λ c.
    then (read_content (read_term levels) ctx c) _ (content (read_term levels) (term levels) ctx c) (λ t. answer _)))

pair : (s : Bytes) → Refuses (read_pair s)
unfolding read_pair
pair s =
    then (read_term max_depth in_pattern s) _ (term max_depth in_pattern s) (λ p.
    then (read_term max_depth in_expression p.1) _ (term max_depth in_expression p.1) (λ e.
    either (eqb (length e.1) 0) _ _ (answer _) (refusal 7 refl)))

constraint_head_lem : (left : ℕ) (s : Bytes) → Refuses (constraint_head left s)
unfolding constraint_head
constraint_head_lem left s =
    then (parts_of s) _ (parts_of_lem s) (λ p.
    either (eqb p.tag 7) _ _ (either (eqb left 0) _ _ (refusal 11 refl) (answer _)) (refusal 4 refl))

constraints : (left : ℕ) (s : Bytes) → Refuses (read_constraints left s)
unfolding read_constraints
constraints zero s =
    either (eqb (length s) 0) _ _ (answer _)
    (then (constraint_head 0 s) _ (constraint_head_lem 0 s) (λ p. refusal 11 refl))
constraints (suc left) s =
    either (eqb (length s) 0) _ _ (answer _)
    (then (constraint_head (suc left) s) _ (constraint_head_lem (suc left) s) (λ p.
    then (read_pair p.content) _ (pair p.content) (λ c.
    then (read_constraints left p.later) _ (constraints left p.later) (λ cs. answer _))))

problem : (s : Bytes) → Refuses (read_problem s)
unfolding read_problem
problem s = either (ltb largest_problem (length s)) _ _ (refusal 1 refl) (constraints max_constraints s)

checked : (p : Problem) → Refuses (check_problem max_face_nodes p)
unfolding check_problem
checked p =
    either (ltb max_functions (length (functions p))) _ _ (refusal 13 refl)
    (either (overlarge max_face_nodes p) _ _ (refusal 14 refl)
    (answer p))

accepted : (s : Bytes) → Refuses (accept s)
unfolding accept
accepted s = then (read_problem s) (check_problem max_face_nodes) (problem s) checked

-- A text: whatever is wrong in its fields is 20
or_twenty_lem : {A : Type 0} (a : Answer A) → Refuses (or_twenty a)
or_twenty_lem (refused r) = refusal 20 refl
or_twenty_lem (got x) = answer x

text : (t : Bytes) → Refuses (read_text t)
unfolding read_text
text t =
    either (ltb largest_text (length t)) _ _ (refusal 19 refl)
    (then (or_twenty (read_items (length t) t)) in_order (or_twenty_lem (read_items (length t) t)) (λ is.
    either (rises (numbers is)) _ _ (answer is) (refusal 27 refl)))

-- `matcher_start`
pub start_numbers : (words : List ℕ) (s : Bytes) → Refuses (start_into words s)
unfolding start_call
start_numbers words s =
    then (start_call s) (place_into words) (then (accept s) _ (accepted s) (λ p. answer _)) (λ v.
    either (has_place (length words)) _ _ (answer v) (refusal 18 refl))

-- `matcher_search`
is_refusal_lem : {A : Type 0} {r : ℕ} → Refuses {A = A} (refused r) → is_refusal r ≡ true
is_refusal_lem (refusal r e) = e

not_accepted_lem : (s : Bytes) (r : ℕ) → accept s ≡ refused r → is_refusal r ≡ true
not_accepted_lem s r e = is_refusal_lem (subst (λ (a : Answer Problem). Refuses a) e (accepted s))

-- T-09: 12 "stays unused"
pub never_twelve : (s : Bytes) → accept s ≡ refused 12 → ⊥
never_twelve s e = false≢true (not_accepted_lem s 12 e)

kept : {IsSolution : Row → Type 0} (n : ℕ) {from : List Row} {reply : Reply Row (Place Row)} → Keeps IsSolution n from reply
    → RefusesReply (reply_value reply)
kept n (finds skipped r later h y l) = tt
kept n (ends from h l) = tt
kept n (pauses passed r later h l) = tt

replied : (s : Bytes) (v : PlaceValue) (n : ℕ) (reply : HostReply) → SearchCall s v n reply → RefusesReply reply
replied s v n reply (not_accepted r e) = not_accepted_lem s r e
replied s v n reply (on_accepted p e (no_allowance z)) = refl
replied s v n reply (on_accepted p e (no_such_place z none)) = refl
replied s v n reply (on_accepted p e (searches z place names from rows keeps)) = kept n keeps

in_row : (long : Bool) (reply : HostReply) → RefusesReply reply → RefusesReply (with_row long reply)
in_row true reply h = h
in_row false (refused_call r) h = h
in_row false (found row next) h = refl
in_row false (end next) h = refl
in_row false (paused next) h = refl

pub search_numbers : (s : Bytes) (v : PlaceValue) (n : ℕ) (reply : HostReply) (long : Bool) → SearchCall s v n reply
    → RefusesReply (with_row long reply)
search_numbers s v n reply long call = in_row long reply (replied s v n reply call)

-- `matcher_write`
write_on_numbers : (p : Problem) (v : PlaceValue) (buffer : Bytes) {given : Answer ℕ} {after' : Bytes} → WriteOn p v buffer given after'
    → Refuses given
write_on_numbers p v buffer (no_such_row none) = refusal 16 refl
write_on_numbers p v buffer (no_solution_row r names f) = refusal 17 refl
write_on_numbers p v buffer (too_short r names t l) = refusal 18 refl
write_on_numbers p v buffer (writes r names t l) = answer _

pub write_numbers : (s : Bytes) (v : PlaceValue) (buffer after' : Bytes) (given : Answer ℕ) → WriteCall s v buffer given after'
    → Refuses given
write_numbers s v buffer after' given (not_accepted r e) = refusal r (not_accepted_lem s r e)
write_numbers s v buffer after' given (on_accepted p e on) = write_on_numbers p v buffer on

-- `matcher_check`
pub check_numbers : (s t : Bytes) → Refuses (check_call s t)
unfolding check_call check_on
check_numbers s t = then (accept s) _ (accepted s) (λ p. then (read_text t) _ (text t) (λ is. answer _))

-- `matcher_longest`
pub longest_numbers : (n r : ℕ) (buffer : Bytes) → length_of (longest_into n buffer) ≡ refused r → (r ≡ 28) ⊎ (r ≡ 29)
longest_numbers n r buffer =
    into_by n buffer (λ a. length_of a ≡ refused r → (r ≡ 28) ⊎ (r ≡ 29)) (λ e. inl (cc)) (λ e. inr (cc)) (λ h e. never (cc))

-- The numbers of refusals are above 0 and below 256
pub small : (r : ℕ) → is_refusal r ≡ true → (0 < r) × (r < 256)
small r e = ⊎_elim low high (or_cases (ltb 0 r && (ltb r 21 && not (eqb r 12))) (eqb r 25 || eqb r 27) e)
  where
    low : (ltb 0 r && (ltb r 21 && not (eqb r 12))) ≡ true → (0 < r) × (r < 256)
    low h =
        let (a, b) = and_T (ltb 0 r) (ltb r 21 && not (eqb r 12)) (true_T h) in
        let (c, d) = and_T (ltb r 21) (not (eqb r 12)) b in
        (ltb-true 0 r (T_true a), omega (arith, ltb-true r 21 (T_true c)))

    high : (eqb r 25 || eqb r 27) ≡ true → (0 < r) × (r < 256)
    high h = ⊎_elim (λ q. let z = eqb_eq r 25 q in (omega arith, omega arith)) (λ q. let z = eqb_eq r 27 q in (omega arith, omega arith))
        (or_cases (eqb r 25) (eqb r 27) h)

-- What a number says is what was answered
pub check_read : (a : Answer Bool) → Refuses a → check_answer (check_code a) ≡ a
check_read (got true) h = refl
check_read (got false) h = refl
check_read (refused r) (refusal q e) =
    let below = small q e in
    choose_false _ _ (eqb_other q 259 (λ z. omega arith)) ∙ choose_false _ _ (eqb_other q 260 (λ z. omega arith))

pub write_read : (a : Answer ℕ) (before : ℕ) → Refuses a → write_answer (write_code a) (length_after before a) ≡ a
write_read (got n) before h = refl
write_read (refused zero) before (refusal q e) = absurd (omega (arith, small zero e))
write_read (refused (suc r)) before h = refl

pub longest_read : (n before : ℕ) (buffer : Bytes)
    → let a = length_of (longest_into n buffer) in write_answer (write_code a) (length_after before a) ≡ a
longest_read n before buffer =
    into_by n buffer (λ a. write_answer (write_code (length_of a)) (length_after before (length_of a)) ≡ length_of a) refl refl (λ h. refl)
