-- Buckets: looking for a node in its own, and one node more in them.
--   Looking   what is known when the search for node k among the earlier ones has come to `at` (counted from 1): no node past it is alike
use mathlib.Core.Path.{◌≡◌, refl, ap, sym, ◌∙◌, subst}
use Prim.Native.Nat.{ℕ, zero, suc, ◌+◌, ◌*◌, ◌-◌, ◌<◌, ◌≤◌}
use mathlib.Core.Bool.{Bool, true, false, ◌&&◌}
use mathlib.Core.List.{List}
use native.Mathlib.Omega.{arith}
use native.Mathlib.Decide.{dec_lt, ℕ_discrete}
use lib.ListN.{length, set, length-set}
use lib.Seq.{get_or-set_same, get_or-set_other}
use lib.Dec.{eqb}
use Rattle.std.proofs.Common.{Some, None}
use borrow.Author.Tests.{eq-eqb, ne_eqb}
use Rattle.meaning.specs.Basics.{choose}
use Rattle.meaning.proofs.Lists.{choose_true, choose_false}
use Rattle.tokens.specs.Token.{depth_in, size_in}
use Rattle.tokens.specs.Key.{at, same_at, Inside}
use Rattle.numbers.specs.Alike.{level_at, last_at, binder_at, hash_at, label_at, alike}
use Rattle.numbers.specs.Numbering.{NumberOf, NumbersTo, bucket_at, Points, link_in, label_in, Linked, Chained, Lasts, Sought}
use Rattle.numbers.proofs.Sums.{mixed_small}
use Rattle.numbers.proofs.AlikeLaws.{keys_long, alike_parts, number_later, number_own}

choose_few : (b : Bool) (m n a : ℕ) → m ≤ a → n ≤ a → choose b m n ≤ a
choose_few true m n a h g = h
choose_few false m n a h g = g

module _ (t : List ℕ) where
  pub hash_small : (a : ℕ) → hash_at t a < 4294967296
  unfolding hash_at
  hash_small a = mixed_small _ _

  -- A binder above a node comes before it
  last_few : (d a : ℕ) → last_at t d a ≤ a
  unfolding last_at
  last_few d zero = omega arith
  last_few d (suc a) = choose_few (eqb (depth_in (at t a)) d) (suc a) (last_at t d a) (suc a) (omega arith) (omega (arith, last_few d a))

  pub binder_few : (a : ℕ) → binder_at t a ≤ a
  unfolding binder_at
  binder_few a = choose_few (eqb (level_at t a) 0) 0 (last_at t (level_at t a - 1) a) a (omega arith) (last_few (level_at t a - 1) a)

  -- Nodes that are alike use one binder as the innermost, and are in one bucket
  module _ (a b : ℕ) (h : a < 65536) (g : b < 65536) (e : alike t a b ≡ true) where
    pub alike_binder : binder_at t a ≡ binder_at t b
    unfolding label_at
    alike_binder = omega (arith, (alike_parts t a b e).0, binder_few a, binder_few b)

    alike_bucket : bucket_at t a ≡ bucket_at t b
    unfolding label_at
    alike_bucket = omega (arith, (alike_parts t a b e).0, binder_few a, binder_few b)

  other_bucket : (a b : ℕ) → a < 65536 → b < 65536 → (bucket_at t a ≡ bucket_at t b → ⊥) → alike t a b ≡ false
  other_bucket a b h g n = go (alike t a b) refl
    where
      go : (c : Bool) → alike t a b ≡ c → alike t a b ≡ false
      go true e = absurd (n (alike_bucket a b h g e))
      go false e = e

  -- The test of two nodes, by their labels and their sizes first
  pub unlike_label : (a b : ℕ) → (label_at t a ≡ label_at t b → ⊥) → alike t a b ≡ false
  unfolding alike
  unlike_label a b n = ap (λ (c : Bool). c && same_at t a b) (ne_eqb (label_at t a) (label_at t b) n)

  pub unlike_size : (a b : ℕ) → Inside t a → Inside t b → (size_in (at t a) ≡ size_in (at t b) → ⊥) → alike t a b ≡ false
  unlike_size a b h g n = go (alike t a b) refl
    where
      go : (c : Bool) → alike t a b ≡ c → alike t a b ≡ false
      go true e = absurd (n (keys_long t a b h g (alike_parts t a b e).1))
      go false e = e

  pub alike_label : (a b : ℕ) → label_at t a ≡ label_at t b → alike t a b ≡ same_at t a b
  unfolding alike
  alike_label a b e = ap (λ (c : Bool). c && same_at t a b) (eq-eqb (label_at t a) (label_at t b) e)

  pub record Looking (k at : ℕ) : Type 0 where
    pub up_to : at ≤ k
    pub past : (i : ℕ) → i < k → at ≤ i → alike t i k ≡ false
    pub own : (i : ℕ) → at ≡ suc i → bucket_at t i ≡ bucket_at t k

  module _ (k : ℕ) (small : k < 65536) where
    pub looking_begins : (from : ℕ) → Points t (bucket_at t k) k from → Looking k from
    looking_begins from p = record {
      up_to = p.up_to;
      past = λ i h g. other_bucket i k (omega arith) small (λ e. omega (arith, p.past i h e));
      own = p.own;
    }

    module _ (links : List ℕ) (linked : Linked t k links) (i from : ℕ) (is : from ≡ suc i) (look : Looking k from) where
      before : i < k
      before = omega (arith, look.up_to)

      pub looking_on : alike t i k ≡ false → Looking k (link_in (at links i))
      looking_on unlike =
          let p = linked.points i before in
          record {
            up_to = omega (arith, p.up_to, before);
            past = λ j h g. go j h g (dec_lt j i) (dec_lt i j);
            own = λ j e. p.own j e ∙ look.own i is;
          }
        where
          go : (j : ℕ) → j < k → link_in (at links i) ≤ j → Dec (j < i) → Dec (i < j) → alike t j k ≡ false
          go j h g (yes l) m =
              other_bucket j k (omega arith) small
              (λ e. omega (arith, (linked.points i before).past j l (e ∙ sym (look.own i is))))
          go j h g (no l) (yes m) = look.past j h (omega arith)
          go j h g (no l) (no m) = let e : i ≡ j = omega arith in subst (λ (n : ℕ). alike t n k ≡ false) e unlike

    -- The number of node k
    pub number_found : (ns : List ℕ) (r : ℕ) → NumbersTo t k ns → Sought t k (Some r) → NumberOf t k (at ns r)
    number_found ns r made s = number_later t r k (at ns r) (omega (arith, s.0)) s.1 (made r s.0)

    pub number_new : Sought t k None → NumberOf t k (k + 65536 * level_at t k)
    number_new none = number_own t k none

    pub numbers_more : (ns : List ℕ) (n : ℕ) → k < length ns → NumbersTo t k ns → NumberOf t k n → NumbersTo t (k + 1) (set ns k n)
    numbers_more ns n long made own a h = go (dec_lt a k)
      where
        go : Dec (a < k) → NumberOf t a (at (set ns k n) a)
        go (yes l) = subst (NumberOf t a) (sym (get_or-set_other ns k a n 0 (λ e. omega arith))) (made a l)
        go (no l) =
            let e : k ≡ a = omega arith in
            subst (λ (j : ℕ). NumberOf t j (at (set ns k n) j)) e (subst (NumberOf t k) (sym (get_or-set_same ns k n 0 long)) own)

    -- One node more in the buckets
    module _ (heads links : List ℕ) (chained : Chained t k heads links) (long : length heads ≡ 256) (room : k < length links) where
      abbrev bucket : ℕ
      bucket = bucket_at t k

      abbrev head : ℕ
      head = at heads bucket

      abbrev link : ℕ
      link = head + 65536 * label_at t k

      pub bucket_few : bucket < 256
      bucket_few = omega (arith, hash_small k)

      pub head_points : Points t bucket k head
      head_points = chained.begins bucket bucket_few

      links_there : (i : ℕ) → i < k → at (set links k link) i ≡ at links i
      links_there i h = get_or-set_other links k i link 0 (λ e. omega arith)

      links_here : at (set links k link) k ≡ link
      links_here = get_or-set_same links k link 0 room

      linked_more : Linked t (k + 1) (set links k link)
      linked_more = record { points = λ i h. points i h (dec_lt i k); labels = λ i h. labels i h (dec_lt i k) }
        where
          points : (i : ℕ) → i < k + 1 → Dec (i < k) → Points t (bucket_at t i) i (link_in (at (set links k link) i))
          points i h (yes l) =
              subst (λ (x : ℕ). Points t (bucket_at t i) i (link_in x)) (sym (links_there i l)) (chained.linked.points i l)
          points i h (no l) =
              let e : k ≡ i = omega arith in
              let z : head ≡ link_in (at (set links k link) k) = omega (arith, links_here, head_points.up_to) in
              subst (λ (j : ℕ). Points t (bucket_at t j) j (link_in (at (set links k link) j))) e (subst (Points t bucket k) z head_points)

          labels : (i : ℕ) → i < k + 1 → Dec (i < k) → label_in (at (set links k link) i) ≡ label_at t i
          labels i h (yes l) = ap label_in (links_there i l) ∙ chained.linked.labels i l
          labels i h (no l) =
              let e : k ≡ i = omega arith in
              let z : label_in (at (set links k link) k) ≡ label_at t k = omega (arith, links_here, head_points.up_to) in
              subst (λ (j : ℕ). label_in (at (set links k link) j) ≡ label_at t j) e z

      begins_more : (b : ℕ) → b < 256 → Points t b (k + 1) (at (set heads bucket (k + 1)) b)
      begins_more b few = go (ℕ_discrete b bucket)
        where
          go : Dec (b ≡ bucket) → Points t b (k + 1) (at (set heads bucket (k + 1)) b)
          go (yes e) =
              let z : at (set heads bucket (k + 1)) b ≡ k + 1 =
              ap (at (set heads bucket (k + 1))) e ∙ get_or-set_same heads bucket (k + 1) 0 (omega (arith, bucket_few)) in
              subst (Points t b (k + 1)) (sym z)
              (record {
                up_to = omega arith;
                past = λ i h q. h;
                own = λ i q. let w : k ≡ i = omega arith in ap (bucket_at t) (sym w) ∙ sym e;
              })
          go (no n) =
              let p = chained.begins b few in
              subst (Points t b (k + 1)) (sym (get_or-set_other heads bucket b (k + 1) 0 n))
              (record {
                up_to = omega (arith, p.up_to);
                past = λ i h q. p.past i (less i h (λ w. n (sym q ∙ ap (bucket_at t) w))) q;
                own = p.own;
              })
            where
              less : (i : ℕ) → i < k + 1 → (i ≡ k → ⊥) → i < k
              less i h m = elim (dec_lt i k) [
                | yes l ↦ l
                | no l ↦ absurd (m (omega arith))
              ]

      pub chained_more : Chained t (k + 1) (set heads bucket (k + 1)) (set links k link)
      chained_more = record { begins = begins_more; linked = linked_more }

  -- One node more among the last at each depth
  last_next : (d k : ℕ) → last_at t d (k + 1) ≡ choose (eqb (depth_in (at t k)) d) (k + 1) (last_at t d k)
  unfolding last_at
  last_next d k = let e : k + 1 ≡ suc k = omega arith in ap (last_at t d) e ∙ ap (λ (n : ℕ). choose (eqb (depth_in (at t k)) d) n (last_at t d k)) (sym e)

  pub lasts_more : (k : ℕ) (last : List ℕ) → Lasts t k last → Lasts t (k + 1) (set last (depth_in (at t k)) (k + 1))
  lasts_more k last h = record { long = length-set last d (k + 1) ∙ h.long; are = λ e few. go e few (ℕ_discrete d e) }
    where
      d : ℕ
      d = depth_in (at t k)

      go : (e : ℕ) → e < 256 → Dec (d ≡ e) → at (set last d (k + 1)) e ≡ last_at t e (k + 1)
      go e few (yes z) =
          ap (at (set last d (k + 1))) (sym z) ∙ get_or-set_same last d (k + 1) 0 (omega (arith, h.long))
          ∙ sym (last_next e k ∙ choose_true _ _ (eq-eqb d e z))
      go e few (no n) =
          get_or-set_other last d e (k + 1) 0 (λ q. n (sym q)) ∙ h.are e few ∙ sym (last_next e k ∙ choose_false _ _ (ne_eqb d e n))
