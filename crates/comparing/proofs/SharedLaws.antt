-- How many binders lie above both of two nodes: what the loop that looks for them knows when it has passed all subterms from a up to `next`,
-- and that there always is an answer.
use mathlib.Core.Path.{◌≡◌, refl, ap, ◌∙◌, subst}
use mathlib.Core.List.{List}
use Prim.Native.Nat.{ℕ, zero, suc, ◌+◌, ◌-◌, ◌<◌, ◌≤◌, min}
use native.Mathlib.Omega.{arith}
use native.Mathlib.Decide.{dec_lt}
use lib.ListN.{length}
use Rattle.tokens.specs.Token.{depth_in, size_in}
use Rattle.tokens.specs.Key.{at}
use Rattle.comparing.specs.Comparing.{Between, Nested, Shared}

pub record Passed (t : List ℕ) (a b s next : ℕ) : Type 0 where
  pub least : (y : ℕ) → a ≤ y → y < next → s ≤ depth_in (at t y)
  pub node : ℕ
  pub from : a ≤ node
  pub to : node ≤ b
  pub reached : depth_in (at t node) ≡ s
  pub beyond : a < next
  pub inside : next ≤ length t

module _ (t : List ℕ) (nested : Nested t) (a b : ℕ) (order : a ≤ b) (there : b < length t) where
  pub passed_first : (s n : ℕ) → s ≡ depth_in (at t a) → n ≡ size_in (at t a) → Passed t a b s (a + n)
  passed_first s n is-s is-n = record {
    least = λ y p q. omega (arith, is-s, nested.deep a y (omega arith) p (omega (arith, is-n)));
    node = a;
    from = omega arith;
    to = order;
    reached = omega (arith, is-s);
    beyond = omega (arith, is-n, nested.counted a (omega arith));
    inside = omega (arith, is-n, nested.ends a (omega arith));
  }

  module _ (s next : ℕ) (done : Passed t a b s next) where
    pub passed_next : (s' d n : ℕ) → next ≤ b → s' ≡ min s d → d ≡ depth_in (at t next) → n ≡ size_in (at t next)
        → Passed t a b s' (next + n)
    passed_next s' d n more is-s is-d is-n = elim (dec_lt d s) [
      | yes h ↦ record {
        least = least;
        node = next;
        from = omega (arith, done.beyond);
        to = more;
        reached = omega (arith, is-s, is-d);
        beyond = omega (arith, done.beyond);
        inside = inside;
      }
      | no h ↦ record {
        least = least;
        node = done.node;
        from = done.from;
        to = done.to;
        reached = omega (arith, is-s, done.reached);
        beyond = omega (arith, done.beyond);
        inside = inside;
      }
    ]
      where
        inside : next + n ≤ length t
        inside = omega (arith, is-n, nested.ends next (omega arith))

        least : (y : ℕ) → a ≤ y → y < next + n → s' ≤ depth_in (at t y)
        least y p q = elim (dec_lt y next) [
          | yes h ↦ omega (arith, is-s, done.least y p h)
          | no h ↦ omega (arith, is-s, is-d, nested.deep next y (omega arith) (omega arith) (omega (arith, is-n)))
        ]

    -- Below no binder there is nothing more to look for
    pub passed_none : s ≡ 0 → Shared t a b 0
    passed_none z = record {
      least = λ y p. omega arith;
      node = done.node;
      between = (omega (arith, done.from), omega (arith, done.to));
      reached = done.reached ∙ z;
    }

    pub passed_all : b < next → Shared t a b s
    passed_all end = record {
      least = λ y p. done.least y (omega (arith, p.0)) (omega (arith, p.1));
      node = done.node;
      between = (omega (arith, done.from), omega (arith, done.to));
      reached = done.reached;
    }

-- The two nodes may be exchanged
pub shared_turned : (t : List ℕ) (a b s : ℕ) → Shared t b a s → Shared t a b s
shared_turned t a b s h = record {
  least = λ y p. h.least y (omega (arith, p.0), omega (arith, p.1));
  node = h.node;
  between = (omega (arith, h.between.0), omega (arith, h.between.1));
  reached = h.reached;
}

-- There always are so many
from_first : (t : List ℕ) (a n : ℕ) → (s : ℕ) × Shared t a (a + n) s
from_first t a zero = (
  depth_in (at t a),
  record {
    least = λ y p. let e : a ≡ y = omega (arith, p.0, p.1) in omega (arith, ap (λ (x : ℕ). depth_in (at t x)) e);
    node = a;
    between = (omega arith, omega arith);
    reached = refl;
  },
)
from_first t a (suc n) = let (s, h) = from_first t a n in go s h (dec_lt (depth_in (at t (a + suc n))) s)
  where
    y : ℕ
    y = a + suc n

    least : (s m : ℕ) → Shared t a (a + n) s → m ≤ s → m ≤ depth_in (at t y) → (x : ℕ) → Between a y x → m ≤ depth_in (at t x)
    least s m h g k x p = elim (dec_lt x y) [
      | yes l ↦ omega (arith, h.least x (omega (arith, p.0), omega (arith, p.1)))
      | no l ↦ let e : y ≡ x = omega (arith, p.1) in omega (arith, ap (λ (z : ℕ). depth_in (at t z)) e)
    ]

    go : (s : ℕ) → Shared t a (a + n) s → Dec (depth_in (at t y) < s) → (s : ℕ) × Shared t a y s
    go s h (yes l) = (
      depth_in (at t y),
      record {
        least = least s (depth_in (at t y)) h (omega arith) (omega arith);
        node = y;
        between = (omega arith, omega arith);
        reached = refl;
      },
    )
    go s h (no l) = (
      s,
      record {
        least = least s s h (omega arith) (omega arith);
        node = h.node;
        between = (omega (arith, h.between.0), omega (arith, h.between.1));
        reached = h.reached;
      },
    )

pub shared_some : (t : List ℕ) (a b : ℕ) → (s : ℕ) × Shared t a b s
shared_some t a b = elim (dec_lt a b) [
  | yes h ↦ let e : a + (b - a) ≡ b = omega arith in subst (λ (c : ℕ). (s : ℕ) × Shared t a c s) e (from_first t a (b - a))
  | no h ↦
      let e : b + (a - b) ≡ a = omega arith in
      let (s, g) = subst (λ (c : ℕ). (s : ℕ) × Shared t b c s) e (from_first t b (a - b)) in (s, shared_turned t a b s g)
]
