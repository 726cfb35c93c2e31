-- How far reading goes: the bytes after a term are a later part of the bytes, and each node takes three bytes or more.
--   Within   what reading a term says of the bytes
--   Fine     a reader of terms that keeps to it
use Prim.Native.Nat.{ℕ, zero, suc, ◌+◌, ◌-◌, ◌*◌, ◌≤◌}
use mathlib.Core.Path.{◌≡◌, refl, ap, sym, ◌∙◌}
use native.Mathlib.Omega.{arith}
use lib.ListN.{length, take, drop, get_or, length-take, length-drop}
use lib.Dec.{eqb, ltb}
use borrow.Author.Tests.{ltb-false}
use Rattle.meaning.specs.Limits.{first_wide, metavariable_count}
use Rattle.meaning.specs.Term.{Forest, nil, graft, one, size, trees, application, own, Named, NamedTerm}
use Rattle.meaning.specs.Basics.{Bytes}
use Rattle.meaning.specs.Read.{Answer, refused, got, after, Context, Kind, symbol_kind, variable_kind, application_kind, binder_kind}
use Rattle.meaning.specs.Read.{metavariable_kind, function_kind, hole_kind, Parts, Head, word_at, long_at, parts_of, kind_of, head_with, head_of}
use Rattle.meaning.specs.Read.{Content, leaf, over, many, content_of, Reader, context_below, read_exactly, read_all, read_content, read_term}
use Rattle.meaning.proofs.ByteLaws.{got_is, refused_not, by_choice}

-- What is refused is not got, whatever is to be shown
pub refused_got : {A C : Type 0} {r : ℕ} {a : A} → refused r ≡ got a → C
refused_got h = absurd (refused_not h)

-- What is read after an answer that is there
pub after_inv : {A B : Type 0} (a : Answer A) (f : A → Answer B) {y : B} → after a f ≡ got y → (x : A) × (a ≡ got x) × (f x ≡ got y)
after_inv (refused r) f h = refused_got h
after_inv (got x) f h = (x, refl, h)

-- What is read, changed twice or not at all
pub after_twice : {A B C : Type 0} (f : B → C) (g : A → B) (h : A → C) → ((x : A) → f (g x) ≡ h x) → (a : Answer A)
    → after (after a (λ x. got (g x))) (λ y. got (f y)) ≡ after a (λ x. got (h x))
after_twice f g h e (refused r) = refl
after_twice f g h e (got x) = ap got (e x)

pub after_none : {A : Type 0} (f : A → A) → ((x : A) → f x ≡ x) → (a : Answer A) → a ≡ after a (λ x. got (f x))
after_none f e (refused r) = refl
after_none f e (got x) = ap got (sym (e x))

-- What is refused when it is read and then changed was refused when it was read
pub still_refused : {A B : Type 0} (a : Answer A) (f : A → B) {r : ℕ} → refused r ≡ after a (λ x. got (f x)) → a ≡ refused r
still_refused (refused q) f {r} e = let w : q ≡ r = cc in rw w
still_refused (got x) f e = refused_got e

pub record Within (s : Bytes) (x : NamedTerm × Bytes) : Type 0 where
  pub rest : x.1 ≡ drop (length s - length x.1) s
  pub room : 3 * size (one x.0) + length x.1 ≤ length s

abbrev pub Fine : Reader → Type 0
Fine read = (s : Bytes) (x : NamedTerm × Bytes) → read s ≡ got x → Within s x

-- Inner fields take their bytes from the content
module _ (read : Reader) (fine : Fine read) where
  graft_room : (s : Bytes) (x : NamedTerm × Bytes) (f : Forest Named) → read s ≡ got x → 3 * size f ≤ length x.1
      → 3 * size (graft x.0 f) ≤ length s
  graft_room s x f e h = omega (arith, (fine s x e).room)

  exactly_room : (n : ℕ) (s : Bytes) (f : Forest Named) → read_exactly n read s ≡ got f → 3 * size f ≤ length s
  unfolding read_exactly
  exactly_room zero s f h =
      by_choice (eqb (length s) 0) (got nil) (refused 7) h
      (λ b e. let w : nil ≡ f = cc in rw (← w) (omega arith))
      (λ b e. refused_got e)
  exactly_room (suc n) s f h =
      let a = after_inv (read s) _ h in
      let b = after_inv (read_exactly n read a.0.1) _ a.2 in
      let w : graft a.0.0 b.0 ≡ f = cc in
      rw (← w) (graft_room s a.0 b.0 a.1 (exactly_room n a.0.1 b.0 b.1))

  all_room : (n : ℕ) (s : Bytes) (f : Forest Named) → read_all n read s ≡ got f → 3 * size f ≤ length s
  unfolding read_all
  all_room zero s f h = let w : nil ≡ f = cc in rw (← w) (omega arith)
  all_room (suc n) s f h =
      by_choice (eqb (length s) 0) (got nil) _ h
      (λ b e. let w : nil ≡ f = cc in rw (← w) (omega arith))
      (λ b e.
      let x = after_inv (read s) _ e in
      let y = after_inv (read_all n read x.0.1) _ x.2 in
      let w : graft x.0.0 y.0 ≡ f = cc in
      rw (← w) (graft_room s x.0 y.0 x.1 (all_room n x.0.1 y.0 y.1)))

-- A field that is read: its content and what is after it
record FieldAt (s content later : Bytes) : Type 0 where
  size : ℕ
  fits : 3 + size ≤ length s
  inside : content ≡ take size (drop 3 s)
  after : later ≡ drop (3 + size) s

parts_read : (s : Bytes) (p : Parts) → parts_of s ≡ got p → FieldAt s p.content p.later
unfolding parts_of
parts_read s p e =
    by_choice (ltb (length s) 3) (refused 2) _ e (λ b q. refused_got q)
    (λ b q.
    by_choice (ltb (length s - 3) (word_at s 1)) (refused 3) _ q (λ b2 q2. refused_got q2)
    (λ b2 q2. record {
      size = word_at s 1;
      fits = omega (arith, ltb-false (length s) 3 b, ltb-false (length s - 3) (word_at s 1) b2);
      inside = cc;
      after = cc;
    }))

head_read : (ctx : Context) (s : Bytes) (h : Head) → head_of ctx s ≡ got h → FieldAt s h.content h.later
unfolding head_of
head_read ctx s h e =
    by_choice (eqb (length s) 0) (refused 7) _ e (λ b q. refused_got q)
    (λ b q.
    let p = after_inv (parts_of s) _ q in
    let k = after_inv (kind_of ctx p.0.tag) _ p.2 in
    let w : head_with p.0 k.0 ≡ h = got_is k.2 in
    rw (← w) (parts_read s p.0 p.1))

-- The inner fields lie in the content
InContent : ℕ → Content → Type 0
InContent k (leaf l) = Unit {0}
InContent k (over l n s) = length s ≤ k
InContent k (many s) = length s ≤ k

content_in : (kind : Kind) (c : Bytes) (x : Content) → content_of kind c ≡ got x → InContent (length c) x
unfolding content_of InContent
content_in symbol_kind c x h =
    by_choice (eqb (length c) 2) _ _ h (λ b e. rw (← got_is e) tt)
    (λ b e. by_choice (eqb (length c) 4) _ (refused 6) e
    (λ b2 e2. by_choice (ltb (long_at c 0) first_wide) (refused 25) _ e2 (λ b3 e3. refused_got e3) (λ b3 e3. rw (← got_is e3) tt))
    (λ b2 e2. refused_got e2))
content_in variable_kind c x h = by_choice (eqb (length c) 2) _ (refused 6) h (λ b e. rw (← got_is e) tt) (λ b e. refused_got e)
content_in application_kind c x h =
    by_choice (eqb (length c) 0) (refused 6) _ h (λ b e. refused_got e) (λ b e. rw (← got_is e) (omega arith))
content_in binder_kind c x h =
    by_choice (ltb (length c) 4) (refused 6) _ h (λ b e. refused_got e) (λ b e. rw (← got_is e) (omega (arith, length-drop 4 c)))
content_in metavariable_kind c x h =
    by_choice (eqb (length c) 1) _ (refused 6) h
    (λ b e. by_choice (ltb (get_or c 0 0) metavariable_count) _ (refused 10) e (λ b2 e2. rw (← got_is e2) tt) (λ b2 e2. refused_got e2))
    (λ b e. refused_got e)
content_in (function_kind n) c x h =
    by_choice (eqb (length c) 0) (refused 6) _ h (λ b e. refused_got e)
    (λ b e. by_choice (ltb (get_or c 0 0) metavariable_count) _ (refused 10) e (λ b2 e2. rw (← got_is e2) (omega (arith, length-drop 1 c)))
    (λ b2 e2. refused_got e2))
content_in (hole_kind i) c x h = by_choice (eqb (length c) 0) _ (refused 6) h (λ b e. rw (← got_is e) tt) (λ b e. refused_got e)

content_room : (read : Context → Reader) → ((ctx : Context) → Fine (read ctx)) → (ctx : Context) (k : ℕ) (x : Content) (t : NamedTerm)
    → InContent k x → read_content read ctx x ≡ got t → 3 * size t.1 ≤ k
unfolding InContent
content_room read fine ctx k (leaf l) t h e = let w : (l, nil) ≡ t = got_is e in rw (← w) (omega arith)
content_room read fine ctx k (over l n s) t h e =
    let a = after_inv (read_exactly n (read (context_below l ctx)) s) _ e in
    let w : (l, a.0) ≡ t = got_is a.2 in
    rw (← w) (omega (arith, exactly_room (read (context_below l ctx)) (fine (context_below l ctx)) n s a.0 a.1))
content_room read fine ctx k (many s) t h e =
    let a = after_inv (read_all (length s) (read ctx) s) _ e in
    let w : (own (application (trees a.0)), a.0) ≡ t = got_is a.2 in
    rw (← w) (omega (arith, all_room (read ctx) (fine ctx) (length s) s a.0 a.1))

-- "5 depth over 32"
none_read : {A B C : Type 0} (a : Answer A) (r : ℕ) {y : B} → after a (λ x. refused r) ≡ got y → C
none_read (refused q) r h = refused_got h
none_read (got x) r h = refused_got h

pub term_fine : (levels : ℕ) (ctx : Context) → Fine (read_term levels ctx)
unfolding read_term
term_fine zero ctx s x e = none_read (head_of ctx s) 5 e
term_fine (suc levels) ctx s x e =
    let a = after_inv (head_of ctx s) _ e in
    let b = after_inv (content_of a.0.kind a.0.content) _ a.2 in
    let c = after_inv (read_content (read_term levels) ctx b.0) _ b.2 in
    let q = head_read ctx s a.0 a.1 in
    let w : (c.0, a.0.later) ≡ x = got_is c.2 in
    let room =
    content_room (read_term levels) (term_fine levels) ctx (length a.0.content) b.0 c.0
    (content_in a.0.kind a.0.content b.0 b.1) c.1 in
    let short : length a.0.content ≤ q.size = rw q.inside (simp length-take (omega arith)) in
    let left : length a.0.later ≡ length s - (3 + q.size) = rw q.after (length-drop (3 + q.size) s) in
    let taken : length s - length a.0.later ≡ 3 + q.size = omega (arith, left, q.fits) in
    rw (← w) (record { rest = q.after ∙ rw taken; room = omega (arith, room, short, left, q.fits) })
