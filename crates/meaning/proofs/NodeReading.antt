-- Reading and encoding one node of a term: its field's head, its kind, and what its content says before the inner fields.
--   kind     which of the seven tags a field has; `kind_tag` is its number, `Placed` says that it may stand there
--   Opened   what the fixed part of a content says of the node, its bytes and its inner fields
use mathlib.Core.Path.{◌≡◌, refl, ap, sym, ◌∙◌, subst}
use Prim.Native.Nat.{ℕ, ◌+◌, ◌/◌, ◌%◌, ◌<◌, ◌≤◌}
use mathlib.Core.Bool.{true}
use mathlib.Core.List.{◌∷◌, ◌++◌, append-nil}
use native.Mathlib.Omega.{arith}
use lib.ListN.{length, get_or, length-append}
use lib.Dec.{eqb, ltb}
use borrow.Author.Tests.{ltb-true, ltb-false, lt-ltb, le-ltb, eqb-true, eqb-false, ne_eqb}
use Rattle.meaning.specs.Limits.{first_wide, metavariable_count}
use Rattle.meaning.specs.Basics.{All, Bytes, Byte}
use Rattle.meaning.specs.Term.{Forest, nil, cons, graft, one, trees, symbol, variable, application, binder, own, slot, metavariable}
use Rattle.meaning.specs.Term.{function, hole, Named, NamedTerm}
use Rattle.meaning.specs.Field.{word, field, tag_of, symbol_bytes, fixed_part, encode}
use Rattle.meaning.specs.Read.{got, Context, in_pattern, in_argument, in_expression, in_body, Kind, symbol_kind, variable_kind}
use Rattle.meaning.specs.Read.{application_kind, binder_kind, metavariable_kind, function_kind, hole_kind, metavariable_in, function_in}
use Rattle.meaning.specs.Read.{hole_in, kind_of, word_at, long_at, parts_of, Head, head_of, Content, leaf, over, many, content_of}
use Rattle.meaning.specs.Readable.{MetavariableAt, FunctionAt, HoleAt, NodeFits}
use Rattle.meaning.proofs.Lists.{all_append}
use Rattle.meaning.proofs.ByteLaws.{got_is, refused_not, by_got, unless_got, when_got, by_choice, none_left, one_byte}
use Rattle.meaning.proofs.ByteLaws.{first_byte, exact_word, two_words, word_value, word_bytes, parts_field, field_parts, field_some}
use Rattle.meaning.proofs.ByteLaws.{by_width, narrow_bytes, wide_bytes, long_value, exact_long, symbol_bytes_lem}

-- Forests: the bytes of the trees one after the other
pub encode_graft : (t : NamedTerm) (f : Forest Named) → encode (graft t f) ≡ encode (one t) ++ encode f
unfolding encode
encode_graft t f = rw append-nil

pub encode_one : (t : NamedTerm) → encode (one t) ≡ field (tag_of t.0) (fixed_part t.0 ++ encode t.1)
unfolding encode
encode_one t = append-nil _

pub encode_long : (t : NamedTerm) → 3 ≤ length (encode (one t))
unfolding field word
encode_long t = rw encode_one (omega arith)

pub graft_long : (t : NamedTerm) (f : Forest Named) → 3 + length (encode f) ≤ length (encode (graft t f))
graft_long t f = omega (arith, simp length-append at (ap length (encode_graft t f)), encode_long t)

pub some_bytes : (f : Forest Named) → 0 < trees f → 0 < length (encode f)
some_bytes nil h = absurd (omega arith)
some_bytes (cons l c s) h = omega (arith, graft_long (l, c) s)

pub some_trees : (f : Forest Named) → 0 < length (encode f) → 0 < trees f
unfolding encode
some_trees nil h = h
some_trees (cons l c s) h = omega arith

-- Kinds
abbrev pub kind_tag : Kind → ℕ
kind_tag symbol_kind = 1
kind_tag variable_kind = 2
kind_tag application_kind = 3
kind_tag binder_kind = 4
kind_tag metavariable_kind = 5
kind_tag (function_kind n) = 6
kind_tag (hole_kind i) = 10

abbrev pub Placed : Context → Kind → Type 0
Placed ctx symbol_kind = Unit {0}
Placed ctx variable_kind = Unit {0}
Placed ctx application_kind = Unit {0}
Placed ctx binder_kind = Unit {0}
Placed ctx metavariable_kind = MetavariableAt ctx
Placed ctx (function_kind n) = FunctionAt ctx × (n ≡ 1)
Placed ctx (hole_kind i) = HoleAt ctx × (i ≡ 0)

metavariable_placed : (ctx : Context) {k : Kind} → metavariable_in ctx ≡ got k → (k ≡ metavariable_kind) × MetavariableAt ctx
unfolding metavariable_in
metavariable_placed in_pattern e = (cc, tt)
metavariable_placed in_argument e = (cc, tt)
metavariable_placed in_expression e = absurd (refused_not e)
metavariable_placed in_body e = absurd (refused_not e)

function_placed : (n : ℕ) (ctx : Context) {k : Kind} → function_in n ctx ≡ got k → (k ≡ function_kind n) × FunctionAt ctx
unfolding function_in
function_placed n in_pattern e = (cc, tt)
function_placed n in_argument e = absurd (refused_not e)
function_placed n in_expression e = absurd (refused_not e)
function_placed n in_body e = absurd (refused_not e)

hole_placed : (i : ℕ) (ctx : Context) {k : Kind} → hole_in i ctx ≡ got k → (k ≡ hole_kind i) × HoleAt ctx
unfolding hole_in
hole_placed i in_pattern e = absurd (refused_not e)
hole_placed i in_argument e = absurd (refused_not e)
hole_placed i in_expression e = absurd (refused_not e)
hole_placed i in_body e = (cc, tt)

placed_metavariable : (ctx : Context) → MetavariableAt ctx → metavariable_in ctx ≡ got metavariable_kind
unfolding metavariable_in
placed_metavariable in_pattern p = refl
placed_metavariable in_argument p = refl
placed_metavariable in_expression p = absurd p
placed_metavariable in_body p = absurd p

placed_function : (n : ℕ) (ctx : Context) → FunctionAt ctx → function_in n ctx ≡ got (function_kind n)
unfolding function_in
placed_function n in_pattern p = refl
placed_function n in_argument p = absurd p
placed_function n in_expression p = absurd p
placed_function n in_body p = absurd p

placed_hole : (i : ℕ) (ctx : Context) → HoleAt ctx → hole_in i ctx ≡ got (hole_kind i)
unfolding hole_in
placed_hole i in_pattern p = absurd p
placed_hole i in_argument p = absurd p
placed_hole i in_expression p = absurd p
placed_hole i in_body p = refl

-- A tag that has a place there is its kind's
kind_is : (ctx : Context) (tag : ℕ) (k j : Kind) → eqb tag (kind_tag j) ≡ true → k ≡ j → Placed ctx j → (kind_tag k ≡ tag) × Placed ctx k
kind_is ctx tag k j t e p = rw e (sym (eqb-true tag (kind_tag j) t), p)

kind_tag_lem : (ctx : Context) (tag : ℕ) (k : Kind) → kind_of ctx tag ≡ got k → (kind_tag k ≡ tag) × Placed ctx k
unfolding kind_of
kind_tag_lem ctx tag k e =
    by_choice (eqb tag 1) _ _ e (λ t q. kind_is ctx tag k symbol_kind t (cc) tt) (λ _ e.
    by_choice (eqb tag 2) _ _ e (λ t q. kind_is ctx tag k variable_kind t (cc) tt) (λ _ e.
    by_choice (eqb tag 3) _ _ e (λ t q. kind_is ctx tag k application_kind t (cc) tt) (λ _ e.
    by_choice (eqb tag 4) _ _ e (λ t q. kind_is ctx tag k binder_kind t (cc) tt) (λ _ e.
    by_choice (eqb tag 5) _ _ e (λ t q. let r = metavariable_placed ctx q in kind_is ctx tag k metavariable_kind t r.0 r.1) (λ _ e.
    by_choice (eqb tag 6) _ _ e (λ t q. let r = function_placed 1 ctx q in kind_is ctx tag k (function_kind 1) t r.0 (r.1, refl)) (λ _ e.
    by_choice (eqb tag 10) _ _ e (λ t q. let r = hole_placed 0 ctx q in kind_is ctx tag k (hole_kind 0) t r.0 (r.1, refl)) (λ _ e.
    absurd (refused_not e))))))))

-- A node's kind
abbrev pub kind_on : Named → Kind
kind_on (own (symbol n)) = symbol_kind
kind_on (own (variable x)) = variable_kind
kind_on (own (application n)) = application_kind
kind_on (own (binder b x)) = binder_kind
kind_on (slot (metavariable m)) = metavariable_kind
kind_on (slot (function f n)) = function_kind n
kind_on (slot (hole i)) = hole_kind i

pub kind_on_lem : (ctx : Context) (l : Named) (c : Forest Named) → NodeFits ctx l c → kind_of ctx (tag_of l) ≡ got (kind_on l)
unfolding kind_of
kind_on_lem ctx (own (symbol n)) c fits = refl
kind_on_lem ctx (own (variable x)) c fits = refl
kind_on_lem ctx (own (application n)) c fits = refl
kind_on_lem ctx (own (binder b x)) c fits = refl
kind_on_lem ctx (slot (metavariable m)) c fits = placed_metavariable ctx fits.0
kind_on_lem ctx (slot (function f n)) c fits = rw fits.2 (placed_function 1 ctx fits.0)
kind_on_lem ctx (slot (hole i)) c fits = rw fits.1 (placed_hole 0 ctx fits.0)

-- What the fixed part of a content says: the node, the bytes that it takes, and how many inner fields are due
abbrev pub Opened : Context → ℕ → Bytes → Content → Type 0
Opened ctx tag c (leaf l) = (tag_of l ≡ tag) × (fixed_part l ≡ c) × NodeFits ctx l nil
Opened ctx tag c (over l n s) = (tag_of l ≡ tag) × (fixed_part l ++ s ≡ c) × ((f : Forest Named) → trees f ≡ n → NodeFits ctx l f)
Opened ctx tag c (many s) = (3 ≡ tag) × (s ≡ c) × (0 < length s)

-- What the content of a node says, with its children's bytes as the inner fields
abbrev pub content_on : Named → Forest Named → Content
content_on (own (symbol n)) c = leaf (own (symbol n))
content_on (own (variable x)) c = leaf (own (variable x))
content_on (own (application n)) c = many (encode c)
content_on (own (binder b x)) c = over (own (binder b x)) 1 (encode c)
content_on (slot (metavariable m)) c = leaf (slot (metavariable m))
content_on (slot (function f n)) c = over (slot (function f n)) n (encode c)
content_on (slot (hole i)) c = leaf (slot (hole i))

pub tag_byte : (l : Named) → Byte (tag_of l)
tag_byte (own (symbol n)) = omega arith
tag_byte (own (variable x)) = omega arith
tag_byte (own (application n)) = omega arith
tag_byte (own (binder b x)) = omega arith
tag_byte (slot (metavariable m)) = omega arith
tag_byte (slot (function f n)) = omega arith
tag_byte (slot (hole i)) = omega arith

-- A symbol's bytes are read as it, whichever their number
symbol_on : (n : ℕ) (c : Forest Named) → c ≡ nil → content_of symbol_kind (symbol_bytes n ++ encode c) ≡ got (leaf (own (symbol n)))
unfolding content_of encode word
symbol_on n c e =
    by_width n
    (λ h. rw (e, narrow_bytes n h, word_value n))
    (λ h. rw (e, wide_bytes n h, word_value (n / 65536), word_value (n % 65536), long_value n, le-ltb n first_wide h))

-- The main theorems. A head that is read was a field of its kind's tag, which has a place there
pub head_field : (ctx : Context) (s : Bytes) (h : Head) → All Byte s → head_of ctx s ≡ got h
    → (field (kind_tag h.kind) h.content ++ h.later ≡ s) × Placed ctx h.kind
unfolding head_of
head_field ctx s h b e =
    by_got (parts_of s) _ (unless_got (eqb (length s) 0) 7 _ e).1 (λ p parts e.
    by_got (kind_of ctx p.tag) _ e (λ k kind e.
    let r = kind_tag_lem ctx p.tag k kind in
    let whole : field (kind_tag k) p.content ++ p.later ≡ s = rw r.0 (parts_field s p b parts) in
    subst (λ (h : Head). (field (kind_tag h.kind) h.content ++ h.later ≡ s) × Placed ctx h.kind) (got_is e) (whole, r.1)))

-- A field whose tag has a place there is read as a head of that kind
pub field_head : (ctx : Context) (tag : ℕ) (k : Kind) (c later : Bytes) → kind_of ctx tag ≡ got k
    → head_of ctx (field tag c ++ later) ≡ got (record { kind = k; content = c; later = later })
unfolding head_of
field_head ctx tag k c later e = rw (field_some tag c later, field_parts tag c later, e)

-- A content that is read says what its bytes are
pub content_opened : (ctx : Context) (k : Kind) (c : Bytes) (x : Content) → All Byte c → Placed ctx k → content_of k c ≡ got x
    → Opened ctx (kind_tag k) c x
unfolding content_of first_wide
content_opened ctx symbol_kind c x b p e =
    by_choice (eqb (length c) 2) _ _ e (λ t e.
    let w = exact_word c b (eqb-true (length c) 2 t) in
    subst (Opened ctx 1 c) (got_is e) (refl, narrow_bytes (word_at c 0) w.1 ∙ w.0, (omega arith, refl))) (λ _ e.
    let r = when_got (eqb (length c) 4) 6 _ e in
    let q = unless_got (ltb (long_at c 0) first_wide) 25 _ r.1 in
    let w = exact_long c b (eqb-true (length c) 4 r.0) in
    subst (Opened ctx 1 c) (got_is q.1) (refl, wide_bytes (long_at c 0) (ltb-false (long_at c 0) first_wide q.0) ∙ w.0, (w.1, refl)))
content_opened ctx variable_kind c x b p e =
    let r = when_got (eqb (length c) 2) 6 _ e in
    let w = exact_word c b (eqb-true (length c) 2 r.0) in
    subst (Opened ctx 2 c) (got_is r.1) (refl, w.0, (w.1, refl))
content_opened ctx application_kind c x b p e =
    let r = unless_got (eqb (length c) 0) 6 _ e in
    let some : (length c ≡ 0 → ⊥) = eqb-false (length c) 0 r.0 in
    subst (Opened ctx 3 c) (got_is r.1) (refl, refl, omega arith)
content_opened ctx binder_kind c x b p e =
    let r = unless_got (ltb (length c) 4) 6 _ e in
    let w = two_words c b (ltb-false (length c) 4 r.0) in
    subst (Opened ctx 4 c) (got_is r.1) (refl, w.0, λ f h. (w.1, w.2, h))
content_opened ctx metavariable_kind c x b p e =
    let r = when_got (eqb (length c) 1) 6 _ e in
    let q = when_got (ltb (get_or c 0 0) metavariable_count) 10 _ r.1 in
    subst (Opened ctx 5 c) (got_is q.1)
    (refl, one_byte c (eqb-true (length c) 1 r.0), (p, ltb-true (get_or c 0 0) metavariable_count q.0, refl))
content_opened ctx (function_kind n) c x b p e =
    let r = unless_got (eqb (length c) 0) 6 _ e in
    let some : (length c ≡ 0 → ⊥) = eqb-false (length c) 0 r.0 in
    let q = when_got (ltb (get_or c 0 0) metavariable_count) 10 _ r.1 in
    subst (Opened ctx 6 c) (got_is q.1)
    (refl, first_byte c (omega arith), λ f h. (p.0, ltb-true (get_or c 0 0) metavariable_count q.0, p.1, h))
content_opened ctx (hole_kind i) c x b p e =
    let r = when_got (eqb (length c) 0) 6 _ e in
    let some : length c ≡ 0 = eqb-true (length c) 0 r.0 in
    subst (Opened ctx 10 c) (got_is r.1) (refl, sym (none_left c (omega arith)), (p.0, p.1, refl))

-- The content of a node that fits is read as that node
pub content_on_lem : (ctx : Context) (l : Named) (c : Forest Named) → NodeFits ctx l c
    → content_of (kind_on l) (fixed_part l ++ encode c) ≡ got (content_on l c)
unfolding content_of encode word
content_on_lem ctx (own (symbol n)) c fits = symbol_on n c fits.1
content_on_lem ctx (own (variable x)) c fits = rw (fits.1, word_value x)
content_on_lem ctx (own (application n)) c fits = rw (ne_eqb (length (encode c)) 0 (λ e. omega (arith, some_bytes c (omega arith))))
content_on_lem ctx (own (binder b x)) c fits =
    rw (word_value b, word_value x, le-ltb (length (word b ++ word x ++ encode c)) 4 (omega arith))
content_on_lem ctx (slot (metavariable m)) c fits = rw (fits.2, lt-ltb m metavariable_count fits.1)
content_on_lem ctx (slot (function f n)) c fits = rw (lt-ltb f metavariable_count fits.1, ne_eqb (length (f ∷ encode c)) 0 (λ e. omega arith))
content_on_lem ctx (slot (hole i)) c fits = rw fits.2

-- A node that fits has bytes before its inner fields
pub fixed_bytes : (ctx : Context) (l : Named) (c : Forest Named) → NodeFits ctx l c → All Byte (fixed_part l)
unfolding metavariable_count
fixed_bytes ctx (own (symbol n)) c fits = symbol_bytes_lem n fits.0
fixed_bytes ctx (own (variable x)) c fits = word_bytes x fits.0
fixed_bytes ctx (own (application n)) c fits = tt
fixed_bytes ctx (own (binder b x)) c fits = all_append Byte (word b) (word x) (word_bytes b fits.0) (word_bytes x fits.1)
fixed_bytes ctx (slot (metavariable m)) c fits = (omega arith, tt)
fixed_bytes ctx (slot (function f n)) c fits = (omega arith, tt)
fixed_bytes ctx (slot (hole i)) c fits = tt
