-- The pass over the nodes: what is found of a node, the state with which the pass begins, and one node more.
use mathlib.Core.Path.{◌≡◌, ap, ap₂, sym, ◌∙◌, subst}
use Prim.Native.Nat.{ℕ, ◌+◌, ◌*◌, ◌-◌, ◌/◌, ◌<◌, ◌≤◌}
use mathlib.Core.List.{List}
use native.Mathlib.Omega.{arith}
use native.Mathlib.Decide.{dec_lt, ℕ_discrete}
use lib.ListN.{length, set, replicate, length-set, length-replicate, get_or-replicate}
use lib.Seq.{get_or-set_same, get_or-set_other}
use lib.Dec.{eqb}
use borrow.Author.Tests.{eq-eqb, ne_eqb}
use Rattle.meaning.specs.Basics.{choose}
use Rattle.meaning.proofs.Lists.{choose_true, choose_false}
use Rattle.tokens.specs.Token.{depth_in, size_in}
use Rattle.tokens.specs.Key.{at, keys, nodes, Inside}
use Rattle.numbers.specs.Alike.{keys_at, level_of_keys, level_at, last_at, binder_at, mixed, sum_of_keys, sum_to, hash_at, label_at}
use Rattle.numbers.specs.Numbering.{NumberOf, Numerable, bucket_at, Points, Lasts, Summed, Known, Passed}
use Rattle.numbers.specs.declared.make.Node.{Node}
use Rattle.numbers.proofs.KeyLevels.{level_deep}
use Rattle.numbers.proofs.Sums.{sum_none, sum_part, sum_rises}
use Rattle.numbers.proofs.Buckets.{hash_small, binder_few, numbers_more, chained_more}

-- One node, by its size n and its end e as the code has them
module _ (t : List ℕ) (k : ℕ) (inside : Inside t k) where
  -- The level that is found in its subterm
  pub level_found : (n d e level : ℕ) → n ≡ size_in (at t k) → d ≡ depth_in (at t k) → e ≡ k + n → level ≡ level_of_keys (keys d (nodes t k (e - k)))
      → level ≡ level_at t k
  unfolding level_at
  level_found n d e level is-n is-d is-e is-level =
      let m : e - k ≡ size_in (at t k) = omega arith in
      is-level ∙ ap₂ (λ (i j : ℕ). level_of_keys (keys i (nodes t k j))) is-d m

  pub level_few : (level : ℕ) → level ≡ level_at t k → level ≤ 256
  level_few level is = omega (arith, level_deep t k)

  -- The sum of its subterm
  module _ (n e : ℕ) (is-n : n ≡ size_in (at t k)) (is-e : e ≡ k + n) (sums : List ℕ) (summed : Summed t k sums) where
    sums_are : (at sums k ≡ sum_to t k) × (at sums e ≡ sum_to t e)
    sums_are =
        (summed.are k (omega arith) (omega (arith, inside.starts)), summed.are e (omega arith) (omega (arith, inside.ends)))

    pub sums_rise : at sums k ≤ at sums e
    sums_rise = omega (arith, sums_are.0, sums_are.1, sum_rises t k n e is-n is-e)

    pub sum_found : at sums e - at sums k ≡ sum_of_keys (keys_at t k)
    sum_found = ap₂ ◌-◌ sums_are.1 sums_are.0 ∙ sum_part t k n e is-n is-e

  module _ (last : List ℕ) (lasts : Lasts t k last) (sum level binder hash : ℕ) (is_sum : sum ≡ sum_of_keys (keys_at t k))
      (is-level : level ≡ level_at t k) (is-binder : binder ≡ choose (eqb level 0) 0 (at last (level - 1))) (is-hash : hash ≡ mixed sum binder) where
    binder_is : binder ≡ binder_at t k
    unfolding binder_at
    binder_is = is-binder ∙ ap (λ (l : ℕ). choose (eqb l 0) 0 (at last (l - 1))) is-level ∙ go (ℕ_discrete (level_at t k) 0)
      where
        go : Dec (level_at t k ≡ 0) → choose (eqb (level_at t k) 0) 0 (at last (level_at t k - 1)) ≡ binder_at t k
        go (yes z) = let q = eq-eqb (level_at t k) 0 z in choose_true _ _ q ∙ sym (choose_true _ _ q)
        go (no z) =
            let q = ne_eqb (level_at t k) 0 z in
            choose_false _ _ q ∙ lasts.are (level_at t k - 1) (omega (arith, level_deep t k)) ∙ sym (choose_false _ _ q)

    pub node_known : Known t k (record { level = level; binder = binder; hash = hash })
    unfolding hash_at
    node_known = record { level = is-level; binder = binder_is; hash = is-hash ∙ ap₂ mixed is_sum binder_is }

-- The sums, one node more
pub summing_begins : (t sums : List ℕ) → 0 < length sums → (n : ℕ) → n ≤ 0 → at (set sums 0 0) n ≡ sum_to t n
summing_begins t sums h n l =
    let e : 0 ≡ n = omega arith in
    subst (λ (m : ℕ). at (set sums 0 0) m ≡ sum_to t m) e (get_or-set_same sums 0 0 0 h ∙ sum_none t)

pub summing_more : (t sums : List ℕ) (k s : ℕ) → k < length t → k + 1 < length sums → s ≡ sum_to t (k + 1)
    → ((n : ℕ) → n ≤ k → at sums n ≡ sum_to t n)
    → (n : ℕ) → n ≤ k + 1 → at (set sums (k + 1) s) n ≡ sum_to t n
summing_more t sums k s h room is are n l = elim (dec_lt n (k + 1)) [
  | yes g ↦ get_or-set_other sums (k + 1) n s 0 (λ e. omega arith) ∙ are n (omega arith)
  | no g ↦
      let e : k + 1 ≡ n = omega arith in
      subst (λ (m : ℕ). at (set sums (k + 1) s) m ≡ sum_to t m) e (get_or-set_same sums (k + 1) s 0 room ∙ is)
]

-- Before the first node: tables of n zeros
module _ (t : List ℕ) (n : ℕ) where
  pub lasts_none : n ≡ 256 → Lasts t 0 (replicate n 0)
  unfolding last_at
  lasts_none e = record { long = length-replicate n 0 ∙ e; are = λ d h. get_or-replicate n d 0 0 (omega arith) }

  pub passed_none : n ≡ 256 → (links ns : List ℕ) → length t ≤ length links → Summed t 0 ns → Passed t 0 (replicate n 0) links ns
  passed_none e links ns l m = record {
    chained = record {
      begins = λ b h.
          let z : at (replicate n 0) b ≡ 0 = get_or-replicate n b 0 0 (omega arith) in
          record { up_to = omega arith; past = λ i g. absurd (omega arith); own = λ i q. absurd (omega arith) };
      linked = record { points = λ i h. absurd (omega arith); labels = λ i h. absurd (omega arith) };
    };
    numbers = λ a h. absurd (omega arith);
    summed = m;
    heads_long = length-replicate n 0 ∙ e;
    links_long = l;
  }

-- What is known of a node, as the code has it
module _ {t : List ℕ} {k : ℕ} {node : Node} (h : Numerable t × (k < length t) × Known t k node) where
  pub node_binder : node.binder < 65536
  node_binder = omega (arith, h.2.binder, binder_few t k, h.0.small, h.1)

  pub node_hash : node.hash < 4294967296
  node_hash = omega (arith, h.2.hash, hash_small t k)

  pub node_level : node.level < 256
  node_level = omega (arith, h.2.level, level_deep t k)

  pub node_few : k < 65536
  node_few = omega (arith, h.0.small, h.1)

  pub node_label : node.binder + 65536 * node.hash ≡ label_at t k
  unfolding label_at
  node_label = ap₂ (λ (b h : ℕ). b + 65536 * h) h.2.binder h.2.hash

  module _ {heads links ns : List ℕ} (passed : Passed t k heads links ns) where
    pub head_points : Points t (bucket_at t k) k (at heads (node.hash / 16777216))
    head_points = rw h.2.hash (passed.chained.begins (bucket_at t k) (omega (arith, hash_small t k)))

    pub passed_more : (n : ℕ) → NumberOf t k n
        → Passed t (k + 1) (set heads (node.hash / 16777216) (k + 1))
        (set links k (at heads (node.hash / 16777216) + 65536 * (node.binder + 65536 * node.hash))) (set ns k n)
    passed_more n own =
        let room : k < length links = omega (arith, passed.links_long, h.1) in
        let wide : k < length ns = omega (arith, passed.summed.long, h.1) in
        rw (node_label, h.2.hash)
        (record {
          chained = chained_more t k node_few heads links passed.chained passed.heads_long room;
          numbers = numbers_more t k node_few ns n wide passed.numbers own;
          summed = record {
            long = omega (arith, length-set ns k n, passed.summed.long);
            are = λ m h g. get_or-set_other ns k m n 0 (λ z. omega arith) ∙ passed.summed.are m (omega arith) g;
          };
          heads_long = length-set heads (bucket_at t k) (k + 1) ∙ passed.heads_long;
          links_long = omega (arith, length-set links k (at heads (bucket_at t k) + 65536 * label_at t k), passed.links_long);
        })
