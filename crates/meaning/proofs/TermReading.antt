-- Reading and encoding terms are inverse.
--   Faithful   a reader of terms gives only what its bytes encode
--   Complete   a reader of terms reads every readable term back from its bytes
--   levels     how many levels of terms may still be opened
use mathlib.Core.Path.{◌≡◌, refl, ap, ap₂, sym, ◌∙◌, subst}
use Prim.Native.Nat.{ℕ, zero, suc, ◌<◌, ◌≤◌}
use mathlib.Core.List.{[], ◌++◌, append-nil}
use mathlib.Core.Bool.{true}
use native.Mathlib.Omega.{arith}
use lib.ListN.{length, length-append}
use lib.Dec.{eqb}
use borrow.Author.Tests.{eqb-true, ne_eqb}
use Rattle.meaning.specs.Basics.{All, Bytes, Byte}
use Rattle.meaning.specs.Term.{Forest, nil, cons, graft, one, trees, symbol, variable, application, binder, own, slot, metavariable}
use Rattle.meaning.specs.Term.{function, hole, Named, NamedTerm}
use Rattle.meaning.specs.Field.{field, tag_of, fixed_part, encode}
use Rattle.meaning.specs.Read.{got, Context, in_argument, head_of, Content, leaf, over, many, content_of, Reader, read_exactly, read_all}
use Rattle.meaning.specs.Read.{context_below, read_content, read_term}
use Rattle.meaning.specs.Readable.{NodeFits, Readable}
use Rattle.meaning.proofs.Lists.{append_all, all_append}
use Rattle.meaning.proofs.ByteLaws.{got_is, refused_not, by_got, when_got, by_choice, none_left, field_content, field_length}
use Rattle.meaning.proofs.ByteLaws.{field_bytes}
use Rattle.meaning.proofs.NodeReading.{encode_graft, encode_one, encode_long, graft_long, some_trees, kind_tag, head_field, Opened}
use Rattle.meaning.proofs.NodeReading.{content_opened, kind_on, kind_on_lem, content_on, content_on_lem, field_head, tag_byte, fixed_bytes}

readable_graft : (levels : ℕ) (ctx : Context) (t : NamedTerm) (f : Forest Named) → Readable levels ctx (one t) → Readable levels ctx f
    → Readable levels ctx (graft t f)
readable_graft zero ctx t f a b = absurd a
readable_graft (suc levels) ctx t f a b = (a.0, a.1, b)

readable_split : (levels : ℕ) (ctx : Context) (t : NamedTerm) (f : Forest Named) → Readable levels ctx (graft t f)
    → Readable levels ctx (one t) × Readable levels ctx f
readable_split zero ctx t f a = absurd a
readable_split (suc levels) ctx t f a = ((a.0, a.1, tt), a.2)

-- What is read was encoded: a term that is read is readable, and its bytes with those left after it are the bytes read
abbrev Faithful : ℕ → Context → Reader → Type 0
Faithful levels ctx read =
    (s : Bytes) (x : NamedTerm × Bytes) → All Byte s → read s ≡ got x → (encode (one x.0) ++ x.1 ≡ s) × Readable levels ctx (one x.0)

-- The same of terms that fill the bytes
abbrev Filled : ℕ → Context → Bytes → Forest Named → Type 0
Filled levels ctx s f = (encode f ≡ s) × Readable levels ctx f

nil_filled : (levels : ℕ) (ctx : Context) (s : Bytes) → length s ≤ 0 → Filled levels ctx s nil
unfolding encode
nil_filled levels ctx s h = (sym (none_left s h), tt)

module _ (levels : ℕ) (ctx : Context) (read : Reader) (law : Faithful levels ctx read) where
  -- One term, and the rest by the same law
  graft_filled : (s : Bytes) (x : NamedTerm × Bytes) (f : Forest Named) → All Byte s → read s ≡ got x → Filled levels ctx x.1 f
      → Filled levels ctx s (graft x.0 f)
  graft_filled s x f b e r =
      let t = law s x b e in
      (encode_graft x.0 f ∙ ap (λ (l : Bytes). encode (one x.0) ++ l) r.0 ∙ t.0, readable_graft levels ctx x.0 f t.1 r.1)

  left_bytes : (s : Bytes) (x : NamedTerm × Bytes) → All Byte s → read s ≡ got x → All Byte x.1
  left_bytes s x b e = (append_all Byte (encode (one x.0)) x.1 (subst (All Byte) (sym (law s x b e).0) b)).1

  left_fewer : (s : Bytes) (x : NamedTerm × Bytes) → All Byte s → read s ≡ got x → length x.1 < length s
  left_fewer s x b e = omega (arith, simp length-append at (ap length (law s x b e).0), encode_long x.0)

  exactly_filled : (n : ℕ) (s : Bytes) (f : Forest Named) → All Byte s → read_exactly n read s ≡ got f
      → Filled levels ctx s f × (trees f ≡ n)
  unfolding read_exactly
  exactly_filled zero s f b e =
      let r = when_got (eqb (length s) 0) 7 _ e in
      let h : length s ≡ 0 = eqb-true (length s) 0 r.0 in
      subst (λ (f : Forest Named). Filled levels ctx s f × (trees f ≡ 0)) (got_is r.1) (nil_filled levels ctx s (omega arith), refl)
  exactly_filled (suc n) s f b e =
      by_got (read s) _ e (λ x first e.
      by_got (read_exactly n read x.1) _ e (λ g rest e.
      let ih = exactly_filled n x.1 g (left_bytes s x b first) rest in
      subst (λ (f : Forest Named). Filled levels ctx s f × (trees f ≡ suc n)) (got_is e)
      (graft_filled s x g b first ih.0, ap suc ih.1)))

  all_filled : (n : ℕ) (s : Bytes) (f : Forest Named) → All Byte s → length s ≤ n → read_all n read s ≡ got f → Filled levels ctx s f
  unfolding read_all
  all_filled zero s f b h e = subst (Filled levels ctx s) (got_is e) (nil_filled levels ctx s h)
  all_filled (suc n) s f b h e =
      by_choice (eqb (length s) 0) _ _ e
      (λ t e. let z : length s ≡ 0 = eqb-true (length s) 0 t in
      subst (Filled levels ctx s) (got_is e) (nil_filled levels ctx s (omega arith)))
      (λ _ e.
      by_got (read s) _ e (λ x first e.
      by_got (read_all n read x.1) _ e (λ g rest e.
      let fewer = left_fewer s x b first in
      let ih = all_filled n x.1 g (left_bytes s x b first) (omega arith) rest in
      subst (Filled levels ctx s) (got_is e) (graft_filled s x g b first ih))))

-- A node with its inner fields is the field that was read
abbrev Made : ℕ → Context → ℕ → Bytes → NamedTerm → Type 0
Made levels ctx tag c t = (encode (one t) ≡ field tag c) × Readable (suc levels) ctx (one t)

node_made : (levels : ℕ) (ctx : Context) (tag : ℕ) (c : Bytes) (l : Named) (f : Forest Named) → tag_of l ≡ tag → fixed_part l ++ encode f ≡ c
    → NodeFits ctx l f → Readable levels (context_below l ctx) f → Made levels ctx tag c (l, f)
node_made levels ctx tag c l f t e fits below = (encode_one (l, f) ∙ ap₂ field t e, (fits, below, tt))

content_made : (levels : ℕ) (ctx : Context) (read : Context → Reader) → ((below : Context) → Faithful levels below (read below))
    → (tag : ℕ) (c : Bytes) (x : Content) (t : NamedTerm) → All Byte c → Opened ctx tag c x → read_content read ctx x ≡ got t
    → Made levels ctx tag c t
unfolding encode context_below
content_made levels ctx read law tag c (leaf l) t b o e =
    subst (Made levels ctx tag c) (got_is e) (node_made levels ctx tag c l nil o.0 (append-nil (fixed_part l) ∙ o.1) o.2 tt)
content_made levels ctx read law tag c (over l n s) t b o e =
    let below : Context = context_below l ctx in
    by_got (read_exactly n (read below) s) _ e (λ f inner e.
    let bytes : All Byte s = (append_all Byte (fixed_part l) s (subst (All Byte) (sym o.1) b)).1 in
    let r = exactly_filled levels below (read below) (law below) n s f bytes inner in
    let whole : fixed_part l ++ encode f ≡ c = ap (λ (i : Bytes). fixed_part l ++ i) r.0.0 ∙ o.1 in
    subst (Made levels ctx tag c) (got_is e) (node_made levels ctx tag c l f o.0 whole (o.2 f r.1) r.0.1))
content_made levels ctx read law tag c (many s) t b o e =
    by_got (read_all (length s) (read ctx) s) _ e (λ f inner e.
    let bytes : All Byte s = subst (All Byte) (sym o.1) b in
    let r = all_filled levels ctx (read ctx) (law ctx) (length s) s f bytes (omega arith) inner in
    let some : 0 < trees f = some_trees f (rw r.0 o.2) in
    subst (Made levels ctx tag c) (got_is e)
    (node_made levels ctx tag c (own (application (trees f))) f o.0 (r.0 ∙ o.1) (refl, some) r.1))

term_faithful : (levels : ℕ) (ctx : Context) → Faithful levels ctx (read_term levels ctx)
unfolding read_term
term_faithful zero ctx s x b e = by_got (head_of ctx s) _ e (λ h _ e. absurd (refused_not e))
term_faithful (suc levels) ctx s x b e =
    by_got (head_of ctx s) _ e (λ h head e.
    by_got (content_of h.kind h.content) _ e (λ c content e.
    by_got (read_content (read_term levels) ctx c) _ e (λ t inner e.
    let f = head_field ctx s h b head in
    let bytes = field_content (kind_tag h.kind) h.content h.later s f.0 b in
    let o = content_opened ctx h.kind h.content c bytes f.1 content in
    let m = content_made levels ctx (read_term levels) (term_faithful levels) (kind_tag h.kind) h.content c t bytes o inner in
    subst (λ (x : NamedTerm × Bytes). (encode (one x.0) ++ x.1 ≡ s) × Readable (suc levels) ctx (one x.0)) (got_is e)
    (ap (λ (l : Bytes). l ++ h.later) m.0 ∙ f.0, m.1))))

-- What is encoded is read: of a reader of terms, that each readable term is read back from its bytes, whatever follows them
abbrev Complete : ℕ → Context → Reader → Type 0
Complete levels ctx read = (t : NamedTerm) (later : Bytes) → Readable levels ctx (one t) → read (encode (one t) ++ later) ≡ got (t, later)

module _ (levels : ℕ) (ctx : Context) (read : Reader) (law : Complete levels ctx read) where
  first_complete : (t : NamedTerm) (f : Forest Named) → Readable levels ctx (graft t f) → read (encode (graft t f)) ≡ got (t, encode f)
  first_complete t f r = ap read (encode_graft t f) ∙ law t (encode f) (readable_split levels ctx t f r).0

  exactly_complete : (f : Forest Named) → Readable levels ctx f → read_exactly (trees f) read (encode f) ≡ got f
  unfolding read_exactly encode
  exactly_complete nil r = refl
  exactly_complete (cons l c s) r =
      rw (first_complete (l, c) s r, exactly_complete s (readable_split levels ctx (l, c) s r).1)

  all_complete : (n : ℕ) (f : Forest Named) → Readable levels ctx f → length (encode f) ≤ n → read_all n read (encode f) ≡ got f
  unfolding read_all encode
  all_complete zero nil r h = refl
  all_complete (suc n) nil r h = refl
  all_complete zero (cons l c s) r h = absurd (omega (arith, graft_long (l, c) s))
  all_complete (suc n) (cons l c s) r h =
      let long = graft_long (l, c) s in
      rw (
        ne_eqb (length (encode (cons l c s))) 0 (λ e. omega arith),
        first_complete (l, c) s r,
        all_complete n s (readable_split levels ctx (l, c) s r).1 (omega arith),
      )

-- Its inner fields are its children
node_complete : (levels : ℕ) (ctx : Context) (read : Context → Reader) → ((below : Context) → Complete levels below (read below))
    → (l : Named) (c : Forest Named) → NodeFits ctx l c → Readable levels (context_below l ctx) c
    → read_content read ctx (content_on l c) ≡ got (l, c)
unfolding context_below
node_complete levels ctx read law (own (symbol n)) c fits r = rw fits.1
node_complete levels ctx read law (own (variable x)) c fits r = rw fits.1
node_complete levels ctx read law (own (application n)) c fits r =
    rw (all_complete levels ctx (read ctx) (law ctx) (length (encode c)) c r (omega arith), fits.0)
node_complete levels ctx read law (own (binder b x)) c fits r =
    rw (← fits.2, exactly_complete levels ctx (read ctx) (law ctx) c r)
node_complete levels ctx read law (slot (metavariable m)) c fits r = rw fits.2
node_complete levels ctx read law (slot (function f n)) c fits r =
    rw (← fits.3, exactly_complete levels in_argument (read in_argument) (law in_argument) c r)
node_complete levels ctx read law (slot (hole i)) c fits r = rw fits.2

term_complete : (levels : ℕ) (ctx : Context) → Complete levels ctx (read_term levels ctx)
unfolding read_term
term_complete zero ctx t later r = absurd r
term_complete (suc levels) ctx t later r =
    rw (
      encode_one t,
      field_head ctx (tag_of t.0) (kind_on t.0) (fixed_part t.0 ++ encode t.1) later (kind_on_lem ctx t.0 t.1 r.0),
      content_on_lem ctx t.0 t.1 r.0,
      node_complete levels ctx (read_term levels) (term_complete levels) t.0 t.1 r.0 r.1,
    )

-- The bytes of readable terms are bytes
forest_bytes : (levels : ℕ) (ctx : Context) (f : Forest Named) → Readable levels ctx f → length (encode f) < 65536 → All Byte (encode f)
unfolding encode
forest_bytes levels ctx nil r h = tt
forest_bytes zero ctx (cons l c s) r h = absurd r
forest_bytes (suc levels) ctx (cons l c s) r h =
    let content : Bytes = fixed_part l ++ encode c in
    let head : Bytes = field (tag_of l) content in
    let whole = length-append head (encode s) in
    let part = length-append (fixed_part l) (encode c) in
    let front = field_length (tag_of l) content in
    let below = forest_bytes levels (context_below l ctx) c r.1 (omega arith) in
    let inside = all_append Byte (fixed_part l) (encode c) (fixed_bytes ctx l c r.0) below in
    all_append Byte head (encode s) (field_bytes (tag_of l) content (tag_byte l) (omega arith) inside)
    (forest_bytes (suc levels) ctx s r.2 (omega arith))

-- The main theorems. A term that is read, with the bytes left after it, is readable and encodes to exactly the bytes read
pub term_read_encodes : (levels : ℕ) (ctx : Context) (s : Bytes) (t : NamedTerm) (later : Bytes) → All Byte s
    → read_term levels ctx s ≡ got (t, later) → encode (one t) ++ later ≡ s
term_read_encodes levels ctx s t later b e = (term_faithful levels ctx s (t, later) b e).0

pub term_read_readable : (levels : ℕ) (ctx : Context) (s : Bytes) (t : NamedTerm) (later : Bytes) → All Byte s
    → read_term levels ctx s ≡ got (t, later) → Readable levels ctx (one t)
term_read_readable levels ctx s t later b e = (term_faithful levels ctx s (t, later) b e).1

-- A readable term is read back from its encoding, whatever bytes follow
pub term_encode_read : (levels : ℕ) (ctx : Context) (t : NamedTerm) (later : Bytes) → Readable levels ctx (one t)
    → read_term levels ctx (encode (one t) ++ later) ≡ got (t, later)
term_encode_read levels ctx t later r = term_complete levels ctx t later r

-- Its encoding consists of bytes, where two bytes can say its length
pub term_bytes : (levels : ℕ) (ctx : Context) (t : NamedTerm) → Readable levels ctx (one t) → length (encode (one t)) < 65536
    → All Byte (encode (one t))
term_bytes levels ctx t r h = forest_bytes levels ctx (one t) r h

-- The same where nothing is left: for the term that ends a content
pub term_read_whole : (levels : ℕ) (ctx : Context) (s : Bytes) (t : NamedTerm) (later : Bytes) → All Byte s
    → read_term levels ctx s ≡ got (t, later) → eqb (length later) 0 ≡ true → encode (one t) ≡ s
term_read_whole levels ctx s t later b e h =
    let none : length later ≡ 0 = eqb-true (length later) 0 h in
    let alone : encode (one t) ++ later ≡ encode (one t) =
    ap (λ (l : Bytes). encode (one t) ++ l) (none_left later (omega arith)) ∙ append-nil (encode (one t)) in
    sym alone ∙ term_read_encodes levels ctx s t later b e

pub term_encode_whole : (levels : ℕ) (ctx : Context) (t : NamedTerm) → Readable levels ctx (one t)
    → read_term levels ctx (encode (one t)) ≡ got (t, [])
term_encode_whole levels ctx t r = ap (read_term levels ctx) (sym (append-nil (encode (one t)))) ∙ term_encode_read levels ctx t [] r
