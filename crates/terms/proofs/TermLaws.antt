-- Terms and lists of inner fields: what the recursive functions leave at each return.
--   next-..     what is due decides how a list of fields is read
--   Taken       a term that was read, taken out of the code's answer
--   Reading     what the loop of `read_fields` keeps: the fields before `at` are read, their tokens the front of the table; with those
--               that are left they are all
--   reading-..  its steps, and the returns of `read_fields`; term-.. those of `read_term`
use Prim.Native.Nat.{ℕ, zero, suc, ◌+◌, ◌-◌, ◌*◌, ◌^◌, ◌≤◌, ◌<◌}
use mathlib.Core.Path.{◌≡◌, refl, sym, ap, ◌∙◌}
use mathlib.Core.List.{List, [], ◌∷◌, ◌++◌, append-nil}
use native.Mathlib.Omega.{arith}
use native.Mathlib.Numerals.{add-one}
use borrow.Rule.Slice.PartMut.{put_mid}
use lib.ListN.{length, take, drop, length-drop, length-append}
use lib.Seq.{drop-drop}
use lib.Dec.{eqb}
use borrow.Author.Tests.{eqb-true, eqb-false, ne_eqb, eq-eqb}
use Rattle.meaning.specs.Basics.{choose, Bytes}
use Rattle.meaning.specs.Term.{Forest, nil, graft, one, trees, Named, NamedTerm}
use Rattle.meaning.specs.Problem.{forest_of}
use Rattle.meaning.specs.Scope.{enter}
use Rattle.meaning.specs.Read.{Answer, refused, got, after, Context, Reader, context_below, read_exactly, read_all, read_term}
use Rattle.meaning.specs.Field.{tag_of}
use Rattle.tokens.specs.Token.{token_of, payload_of, tokens}
use Rattle.fields.specs.Heads.{label_of, fixed_of, due_of, read_fields, open_read, OpenFits, OpenDone}
use Rattle.sites.specs.Site.{site_scope}
use Rattle.terms.specs.Reading.{Space, Written, TermDone, fields_answer, FieldsDone, next_of}
use Rattle.fields.specs.declared.node.Node.{Node}
use Rattle.fields.specs.declared.node.Node.TheVariants as nodes
use Rattle.fields.specs.declared.node.Due.{Due}
use Rattle.fields.specs.declared.node.Due.TheVariants as dues
use Rattle.sites.specs.declared.site.Site.{Site}
use Rattle.fields.specs.declared.node.Opened.{Opened}
use Rattle.terms.specs.declared.term.Took.{Took}
use Rattle.terms.specs.declared.term.Fields.{Fields}
use Rattle.refusal.specs.Number.{number}
use Rattle.refusal.specs.declared.Refusal.{Refusal}
use Rattle.refusal.specs.declared.Refusal.TheVariants.{InnerFields}
use Rattle.std.proofs.Common.{Ok, Err, Some, None, set}
use Rattle.meaning.proofs.ByteLaws.{by_choice, got_is, refused_not}
use Rattle.tokens.proofs.TokenParts.{tokens_length}
use Rattle.terms.proofs.Bounds.{Fine, after_none, after_twice, still_refused}
use Rattle.terms.proofs.Rows.{Row, row_more, row_none, row_space, tokens_more}
use Rattle.sites.proofs.SiteLaws.{names_length}
use Rattle.slices.proofs.Slices.{rest_all, part_length, head_put}

-- What is due
all_bound : (read : Reader) → Fine read → (n m : ℕ) (s : Bytes) → length s ≤ n → length s ≤ m → read_all n read s ≡ read_all m read s
unfolding read_all
all_bound read fine zero zero s h l = refl
all_bound read fine zero (suc m) s h l = let z : length s ≡ 0 = omega arith in rw (eq-eqb (length s) 0 z)
all_bound read fine (suc n) zero s h l = let z : length s ≡ 0 = omega arith in rw (eq-eqb (length s) 0 z)
all_bound read fine (suc n) (suc m) s h l = ap (choose (eqb (length s) 0) (got nil)) (go (λ r. all_bound read fine n m r) (read s) refl)
  where
    go : ((r : Bytes) → length r ≤ n → length r ≤ m → read_all n read r ≡ read_all m read r) → (a : Answer (NamedTerm × Bytes)) → read s ≡ a
        → after a (λ x. after (read_all n read x.1) (λ f. got (graft x.0 f)))
        ≡ after a (λ x. after (read_all m read x.1) (λ f. got (graft x.0 f)))
    go ih (refused r) e = refl
    go ih (got x) e = let w = fine s x e in rw (ih x.1 (omega (arith, w.room)) (omega (arith, w.room)))

fields_from : Due → Reader → NamedTerm × Bytes → Answer (Forest Named)
fields_from due read x = after (read_fields due read x.1) (λ f. got (graft x.0 f))

module _ (read : Reader) (fine : Fine read) (s : Bytes) where
  next_done : (due : Due) → next_of due (length s) ≡ Ok None → read_fields due read s ≡ got nil
  unfolding read_fields read_all read_exactly
  next_done dues.All h =
      by_choice (eqb (length s) 0) (Ok None) (Ok (Some dues.All)) h (λ b e. rw (eqb-true (length s) 0 b)) (λ b e. cc)
  next_done (dues.Exactly n) h =
      by_choice (eqb n 0) (choose (eqb (length s) 0) (Ok None) (Err InnerFields)) (Ok (Some (dues.Exactly (n - 1)))) h
      (λ b e. by_choice (eqb (length s) 0) (Ok None) (Err InnerFields) e
      (λ b2 e2. rw (eqb-true n 0 b, read_exactly, b2))
      (λ b2 e2. cc))
      (λ b e. cc)

  next_refused : (due : Due) {r : Refusal} → next_of due (length s) ≡ Err r → read_fields due read s ≡ refused (number r)
  unfolding read_fields read_all read_exactly
  next_refused dues.All h = by_choice (eqb (length s) 0) (Ok None) (Ok (Some dues.All)) h (λ b e. cc) (λ b e. cc)
  next_refused (dues.Exactly n) {r} h =
      by_choice (eqb n 0) (choose (eqb (length s) 0) (Ok None) (Err InnerFields)) (Ok (Some (dues.Exactly (n - 1)))) h
      (λ b e. by_choice (eqb (length s) 0) (Ok None) (Err InnerFields) e
      (λ b2 e2. cc)
      (λ b2 e2. let w : InnerFields ≡ r = cc in rw (eqb-true n 0 b, read_exactly, b2, ← w)))
      (λ b e. cc)

  all_step : (n : ℕ) → length s ≡ n → (n ≡ 0 → ⊥) → read_all n read s ≡ after (read s) (fields_from dues.All read)
  unfolding read_all read_fields fields_from
  all_step zero l z = absurd (z refl)
  all_step (suc n) l z = rw (ne_eqb (length s) 0 (λ e. omega arith)) (go (read s) refl)
    where
      go : (a : Answer (NamedTerm × Bytes)) → read s ≡ a
          → after a (λ x. after (read_all n read x.1) (λ f. got (graft x.0 f)))
          ≡ after a (λ x. after (read_all (length x.1) read x.1) (λ f. got (graft x.0 f)))
      go (refused r) e = refl
      go (got x) e = let w = fine s x e in rw (all_bound read fine n (length x.1) x.1 (omega (arith, w.room)) (omega arith))

  exactly_step : (n : ℕ) → (n ≡ 0 → ⊥) → read_exactly n read s ≡ after (read s) (fields_from (dues.Exactly (n - 1)) read)
  unfolding read_exactly read_fields fields_from
  exactly_step zero z = absurd (z refl)
  exactly_step (suc n) z = let w : suc n - 1 ≡ n = omega arith in rw w

  next_field : (due later : Due) → next_of due (length s) ≡ Ok (Some later)
      → read_fields due read s ≡ after (read s) (fields_from later read)
  unfolding read_fields
  next_field dues.All later h =
      by_choice (eqb (length s) 0) (Ok None) (Ok (Some dues.All)) h
      (λ b e. cc)
      (λ b e. let w : dues.All ≡ later = cc in rw (← w) (all_step (length s) refl (eqb-false (length s) 0 b)))
  next_field (dues.Exactly n) later h =
      by_choice (eqb n 0) (choose (eqb (length s) 0) (Ok None) (Err InnerFields)) (Ok (Some (dues.Exactly (n - 1)))) h
      (λ b e. by_choice (eqb (length s) 0) (Ok None) (Err InnerFields) e (λ b2 e2. cc) (λ b2 e2. cc))
      (λ b e. let w : dues.Exactly (n - 1) ≡ later = cc in rw (← w) (exactly_step n (eqb-false n 0 b)))

-- A term that was read, taken out of the code's answer
pub record Taken (sc : List ℕ) (s : Bytes) (a : Answer (NamedTerm × Bytes)) (before after : List ℕ) (t : Took) : Type 0 where
  pub term : NamedTerm
  pub later : Bytes
  pub reads : a ≡ got (term, later)
  pub bytes_are : t.bytes ≡ length s - length later
  pub nodes_are : t.nodes ≡ length (tokens sc (one term))
  pub row : after ≡ tokens sc (one term) ++ drop (length (tokens sc (one term))) before

pub taken : (sc : List ℕ) (s : Bytes) (a : Answer (NamedTerm × Bytes)) (before after : List ℕ) (t : Took)
    → TermDone sc s a before after (Ok t) → Taken sc s a before after t
unfolding Written
taken sc s (refused r) before after t d = absurd (refused_not (sym d.answer))
taken sc s (got x) before after t d =
    let q = got_is d.answer in
    record {
      term = x.0;
      later = x.1;
      reads = refl;
      bytes_are = ap (λ (u : Took). u.bytes) q;
      nodes_are = ap (λ (u : Took). u.nodes) q;
      row = d.table;
    }

pub not_taken : {sc : List ℕ} {s : Bytes} {a : Answer (NamedTerm × Bytes)} {before after : List ℕ} {r : Refusal}
    → TermDone sc s a before after (Err r) → a ≡ refused (number r)
not_taken d = still_refused _ _ d.answer

pub record TookFits (s : Bytes) (t : Took) : Type 0 where
  pub some : 3 ≤ t.bytes
  pub within : t.bytes ≤ length s
  pub nodes : 3 * t.nodes ≤ t.bytes

pub took_fits : (read : Reader) → Fine read → (sc : List ℕ) (s : Bytes) (before after : List ℕ) {t : Took}
    → TermDone sc s (read s) before after (Ok t) → TookFits s t
took_fits read fine sc s before after {t} d =
    let x = taken sc s (read s) before after t d in
    let w = fine s (x.term, x.later) x.reads in
    let n = tokens_length sc (one x.term) in
    record {
      some = omega (arith, x.bytes_are, w.room);
      within = omega (arith, x.bytes_are);
      nodes = omega (arith, x.bytes_are, x.nodes_are, w.room, n);
    }

pub later_part : (read : Reader) → Fine read
    → (sc : List ℕ) (s : Bytes) (before after : List ℕ) {t : Took} (x : Taken sc s (read s) before after t)
    → take (length s - t.bytes) (drop t.bytes s) ≡ x.later
later_part read fine sc s before after {t} x =
    let w = fine s (x.term, x.later) x.reads in
    rest_all t.bytes s ∙ ap (λ (n : ℕ). drop n s) x.bytes_are ∙ sym w.rest

-- Terms before the others of a forest
abbrev graft_all : List NamedTerm → Forest Named → Forest Named
graft_all [] f = f
graft_all (t ∷ ts) f = graft t (graft_all ts f)

graft_more : (ts : List NamedTerm) (t : NamedTerm) (f : Forest Named) → graft_all ts (graft t f) ≡ graft_all (ts ++ (t ∷ [])) f
graft_more [] t f = refl
graft_more (u ∷ ts) t f = ap (graft u) (graft_more ts t f)

graft_none : (ts : List NamedTerm) → graft_all ts nil ≡ forest_of ts
graft_none [] = refl
graft_none (t ∷ ts) = ap (graft t) (graft_none ts)

trees_all : (ts : List NamedTerm) → trees (forest_of ts) ≡ length ts
trees_all [] = refl
trees_all (t ∷ ts) = ap suc (trees_all ts)

-- What is refused, and what is read to the end
fields_refused : {sc o p : List ℕ} {a : Answer (Forest Named)} {r : Refusal} → a ≡ refused (number r) → FieldsDone sc a o p (Err r)
unfolding Written
fields_refused e = record { answer = rw e; table = rw (e, Written) tt; fits = tt }

fields_got : {sc o p : List ℕ} {a : Answer (Forest Named)} {nodes count bytes : ℕ} (ts : List NamedTerm) → a ≡ got (forest_of ts)
    → Row (tokens sc (forest_of ts)) nodes bytes o p → count ≡ length ts → nodes < 65535 → count < 65535
    → FieldsDone sc a o p (Ok (record { nodes = nodes; count = count }))
unfolding Written
fields_got ts e row counted small few =
    record {
      answer = rw (e, row.count, counted, trees_all ts);
      table = rw (e, Written) row.front;
      fits = record { nodes = small; count = few };
    }

pub record Reading (read : Reader) (sc : List ℕ) (due : Due) (s o p : List ℕ) (left : Due) (nodes count at : ℕ) : Type 0 where
  pub done : List NamedTerm
  pub leads : read_fields due read s ≡ after (read_fields left read (drop at s)) (λ f. got (graft_all done f))
  pub row : Row (tokens sc (forest_of done)) nodes at o p
  pub counted : count ≡ length done
  pub few : 3 * count ≤ at
  pub within : at ≤ length s

pub reading_begins : (read : Reader) (sc : List ℕ) (due : Due) (s o : List ℕ) → Reading read sc due s o o due 0 0 0
unfolding tokens
reading_begins read sc due s o =
    record {
      done = [];
      leads = after_none (λ f. f) (λ f. refl) (read_fields due read s);
      row = row_none o;
      counted = refl;
      few = omega arith;
      within = omega arith;
    }

module _ {read : Reader} (fine : Fine read) {sc : List ℕ} {due left : Due} {s o p : List ℕ} {nodes count at : ℕ}
    (r : Reading read sc due s o p left nodes count at) where
  pub reading_ends : length s < 65536 → next_of left (length s - at) ≡ Ok None
      → FieldsDone sc (read_fields due read s) o p (Ok (record { nodes = nodes; count = count }))
  reading_ends short h =
      let none = next_done read fine (drop at s) left (rw (length-drop at s) h) in
      fields_got r.done (r.leads ∙ rw (none, graft_none r.done)) r.row r.counted
      (omega (arith, r.row.few, r.within)) (omega (arith, r.few, r.within))

  pub reading_refused : {q : Refusal} {p' : List ℕ} → next_of left (length s - at) ≡ Err q
      → FieldsDone sc (read_fields due read s) o p' (Err q)
  reading_refused {q} h = fields_refused (r.leads ∙ rw (next_refused read fine (drop at s) left {r = q} (rw (length-drop at s) h)))

  abbrev rest : Bytes
  rest = take (length s - at) (drop at s)

  abbrev room : List ℕ
  room = take (length p - nodes) (drop nodes p)

  rest_length : length rest ≡ length s - at
  rest_length = part_length at (length s) s r.within (omega arith)

  -- What `read_term` requires
  pub rest_space : Space (length s) (length o) → Space (length rest) (length room)
  rest_space space = row_space r.row r.within space (omega (arith, rest_length, r.within))

  module _ {later : Due} (h : next_of left (length s - at) ≡ Ok (Some later)) where
    next : read_fields due read s ≡ after (after (read rest) (fields_from later read)) (λ f. got (graft_all r.done f))
    next = r.leads ∙ rw (next_field read fine (drop at s) left later (rw (length-drop at s) h), rest_all at s)

    pub reading_cut : {q : Refusal} {x p' : List ℕ} → TermDone sc rest (read rest) room x (Err q)
        → FieldsDone sc (read_fields due read s) o p' (Err q)
    reading_cut d = fields_refused (next ∙ rw (not_taken d))

    -- One field more
    module _ {t : Took} (x : List ℕ) (d : TermDone sc rest (read rest) room x (Ok t)) where
      one_more : Taken sc rest (read rest) room x t
      one_more = taken sc rest (read rest) room x t d

      fits : TookFits rest t
      fits = took_fits read fine sc rest room x d

      within : at + t.bytes ≤ length s
      within = omega (arith, fits.within, rest_length, r.within)

      pub sums_fit : length s < 65536 → (nodes + t.nodes < 2 ^ 64) × (count + 1 < 2 ^ 64) × (at + t.bytes < 2 ^ 64)
      sums_fit short =
          let all = within in
          (omega (arith, fits.nodes, r.row.few), omega (arith, fits.some, r.few), omega arith)

      later_is : one_more.later ≡ drop (at + t.bytes) s
      later_is =
          sym (later_part read fine sc rest room x one_more) ∙ rest_all t.bytes rest ∙ ap (drop t.bytes) (rest_all at s) ∙ drop-drop t.bytes at s

      pub bytes_less : length s - (at + t.bytes) < length s - at
      bytes_less = omega (arith, fits.some, within)

      pub reading_goes : length x ≡ length room
          → Reading read sc due s o (put_mid nodes (length p - nodes) p x) later (nodes + t.nodes) (count + 1) (at + t.bytes)
      unfolding fields_from
      reading_goes kept =
          let u = one_more.term in
          record {
            done = r.done ++ (u ∷ []);
            leads =
                next
                ∙ rw (one_more.reads, fields_from, later_is)
                (after_twice (graft_all r.done) (graft u) (graft_all (r.done ++ (u ∷ []))) (graft_more r.done u)
                (read_fields later read (drop (at + t.bytes) s)));
            row =
                rw (tokens_more sc r.done u)
                (row_more r.row (tokens sc (one u)) x one_more.nodes_are fits.nodes one_more.row kept);
            counted = ap (λ (j : ℕ). j + 1) r.counted ∙ sym (length-append r.done (u ∷ []));
            few = omega (arith, r.few, fits.some);
            within = within;
          }

label_enter : (n : Node) (count : ℕ) (sc : List ℕ) → enter (label_of n count) sc ≡ enter (label_of n 0) sc
label_enter (nodes.Symbol x) count sc = refl
label_enter (nodes.Variable x) count sc = refl
label_enter nodes.Application count sc = refl
label_enter (nodes.Binder b x) count sc = refl
label_enter (nodes.Metavariable m) count sc = refl
label_enter (nodes.Function m) count sc = refl
label_enter nodes.Hole count sc = refl

abbrev node_token : Site → Node → ℕ → ℕ → ℕ
node_token x n size count = token_of (tag_of (label_of n count)) x.scope.depth size (payload_of (site_scope x) (label_of n count))

-- The tokens of a node with its children
node_tokens : (x : Site) (n : Node) (f : Forest Named)
    → tokens (site_scope x) (one (label_of n (trees f), f))
    ≡ node_token x n (length (tokens (enter (label_of n 0) (site_scope x)) f) + 1) (trees f) ∷ tokens (enter (label_of n 0) (site_scope x)) f
unfolding tokens
node_tokens x n f =
    rw (
      label_enter n (trees f) (site_scope x),
      append-nil (tokens (enter (label_of n 0) (site_scope x)) f),
      names_length x.scope.names x.scope.depth,
      tokens_length (enter (label_of n 0) (site_scope x)) f,
      add-one,
    )

-- A node before its inner fields
module _ (site : Site) (n : Node) (s o x : List ℕ) (end : ℕ) where
  abbrev below : List ℕ
  below = enter (label_of n 0) (site_scope site)

  abbrev with_node : Answer (Forest Named) → Answer (NamedTerm × Bytes)
  with_node a = after a (λ f. got ((label_of n (trees f), f), drop end s))

  term_headed : (a : Answer (Forest Named)) (f : Fields) → 1 ≤ length o → end ≤ length s → got f ≡ fields_answer below a
      → Written (tokens below) a (take (length o - 1) (drop 1 o)) x
      → TermDone (site_scope site) s (with_node a) o (set (put_mid 1 (length o - 1) o x) 0 (node_token site n (f.nodes + 1) f.count))
      (Ok (record { bytes = end; nodes = f.nodes + 1 }))
  unfolding Written
  term_headed (refused q) f ho he e v = absurd (refused_not (sym e))
  term_headed (got f') f ho he e v =
      let taken : end ≡ length s - length (drop end s) = omega (arith, length-drop end s) in
      let one_more : 1 + length (tokens below f') ≡ suc (length (tokens below f')) = omega arith in
      let rest : drop (length (tokens below f')) (take (length o - 1) (drop 1 o)) ≡ drop (suc (length (tokens below f'))) o =
      ap (drop (length (tokens below f'))) (rest_all 1 o) ∙ drop-drop (length (tokens below f')) 1 o ∙ rw one_more in
      rw (got_is e)
      (record {
        answer = rw (node_tokens site n f', ← taken, add-one);
        table = head_put o x (node_token site n (length (tokens below f') + 1) (trees f')) ho ∙ rw (node_tokens site n f', v, rest);
      })

-- The returns of `read_term`
module _ (site : Site) (levels : ℕ) (ctx : Context) (s o : List ℕ) where
  pub term_refused : {r : Refusal} {o' : List ℕ} → OpenDone levels ctx s (Err r)
      → TermDone (site_scope site) s (read_term levels ctx s) o o' (Err r)
  unfolding open_read Written
  term_refused h = record { answer = rw h.says; table = rw (h.says, Written) tt }

  -- What the fields in a node answer, by the site below it
  module _ {levels' : ℕ} {ctx' : Context} {sc' : List ℕ} (opened : Opened) (h : OpenDone levels ctx s (Ok opened))
      (hl : levels' ≡ levels - 1) (hc : ctx' ≡ context_below (label_of opened.node 0) ctx) (hs : sc' ≡ enter (label_of opened.node 0) (site_scope site))
      (x : List ℕ) where
    abbrev fields : Answer (Forest Named)
    fields =
        read_fields (due_of opened.node) (read_term levels' ctx')
        (take (opened.end - (3 + fixed_of opened.node)) (drop (3 + fixed_of opened.node) s))

    pub term_broken : {r : Refusal} {o' : List ℕ} → FieldsDone sc' fields (take (length o - 1) (drop 1 o)) x (Err r)
        → TermDone (site_scope site) s (read_term levels ctx s) o o' (Err r)
    unfolding open_read Written
    term_broken f =
        let e = still_refused _ _ (rw (hl, hc) at f.answer) in
        record { answer = rw (h.says, e); table = rw (h.says, open_read, e, Written) tt }

    pub term_closed : (inner : Fields) → 1 ≤ length o → FieldsDone sc' fields (take (length o - 1) (drop 1 o)) x (Ok inner)
        → TermDone (site_scope site) s (read_term levels ctx s) o
        (set (put_mid 1 (length o - 1) o x) 0 (node_token site opened.node (inner.nodes + 1) inner.count))
        (Ok (record { bytes = opened.end; nodes = inner.nodes + 1 }))
    unfolding open_read
    term_closed inner ho f =
        rw h.says
        (term_headed site opened.node s o x opened.end _ inner ho h.fits.within (rw (hl, hc, hs) at f.answer) (rw (hl, hc, hs) at f.table))

-- Room for what is read inside: the calls of `read_term` and of `read_fields`
pub inner_less : {levels fixed end : ℕ} (s : Bytes) → OpenFits levels (length s) fixed end
    → 2 * length (take (end - (3 + fixed)) (drop (3 + fixed) s)) + 1 < 2 * length s
inner_less {levels} {fixed} {end} s h = omega (arith, part_length (3 + fixed) end s h.start h.within, h.start, h.within)

pub open_room : {levels fixed end : ℕ} (s o : List ℕ) → OpenFits levels (length s) fixed end → Space (length s) (length o) → 1 ≤ length o
open_room s o h r = omega (arith, h.start, h.within, r.table)

pub inner_space : {levels fixed end : ℕ} (s o : List ℕ) → OpenFits levels (length s) fixed end → Space (length s) (length o)
    → Space (length (take (end - (3 + fixed)) (drop (3 + fixed) s))) (length (take (length o - 1) (drop 1 o)))
inner_space {levels} {fixed} {end} s o h r =
    let a = part_length (3 + fixed) end s h.start h.within in
    let b = part_length 1 (length o) o (open_room s o h r) (omega arith) in
    record { table = omega (arith, a, b, h.start, h.within, r.table) }

pub inner_short : {levels fixed end : ℕ} (s : Bytes) → OpenFits levels (length s) fixed end
    → length (take (end - (3 + fixed)) (drop (3 + fixed) s)) < 65536
inner_short {levels} {fixed} {end} s h = omega (arith, part_length (3 + fixed) end s h.start h.within, h.short)
