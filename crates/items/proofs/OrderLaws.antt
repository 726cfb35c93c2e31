-- The order of fields, with one field more at their end.
--   rises_more     numbers rise with one more at their end just when it is not below the next that may come
--   new_number     and then it is none of those before
use mathlib.Core.Path.{◌≡◌, refl, ap, sym, ◌∙◌}
use mathlib.Core.Logic.{⊎_elim}
use Prim.Native.Nat.{ℕ, suc, ◌<◌}
use mathlib.Core.Bool.{Bool, true, false, ◌&&◌, false≢true}
use mathlib.Core.List.Memᴰ
use mathlib.Core.List.{List, [], ◌∷◌, ◌++◌}
use native.Mathlib.Omega.{arith}
use lib.Dec.{ltb}
use borrow.Author.Tests.{le-ltb, lt-ltb, ltb-true, ltb-false}
use Rattle.meaning.specs.Basics.{choose, ◌∈◌, Ordered, more}
use Rattle.meaning.specs.Text.{rises, rises_after}
use Rattle.meaning.proofs.Lists.{by_test}
use Rattle.meaning.proofs.FieldOrder.{rises_ordered}
use Rattle.items.specs.Order.{InOrder, followed_by, next_after, next_of}
use Rattle.items.specs.declared.Order.{Order}

after_last : (k m : ℕ) → (ltb k m && true) ≡ choose (ltb m (suc k)) false true
after_last k m =
    by_test (ltb k m) (λ e. let l = ltb-true k m e in rw (e, le-ltb m (suc k) l))
    (λ e. let l = ltb-false k m e in rw (e, lt-ltb m (suc k) (omega arith)))

after_more : (k : ℕ) (ms : List ℕ) (m : ℕ)
    → rises_after k (ms ++ (m ∷ [])) ≡ choose (ltb m (next_after (suc k) ms)) false (rises_after k ms)
after_more k [] m = after_last k m
after_more k (n ∷ ns) m =
    ap (λ (b : Bool). ltb k n && b) (after_more n ns m) ∙ go (ltb k n) (ltb m (next_after (suc n) ns)) (rises_after n ns)
  where
    go : (a b c : Bool) → (a && choose b false c) ≡ choose b false (a && c)
    go true b c = refl
    go false true c = refl
    go false false c = refl

rises_more : (ms : List ℕ) (m : ℕ) → rises (ms ++ (m ∷ [])) ≡ choose (ltb m (next_of ms)) false (rises ms)
rises_more [] m = rw (le-ltb m 0 (omega arith))
rises_more (k ∷ ms) m = after_more k ms m

pub rises_before : (ms : List ℕ) (m : ℕ) → rises (ms ++ (m ∷ [])) ≡ true → rises ms ≡ true
rises_before ms m e = go (ltb m (next_of ms)) (sym (rises_more ms m) ∙ e)
  where
    go : (b : Bool) → choose b false (rises ms) ≡ true → rises ms ≡ true
    go true q = absurd (false≢true q)
    go false q = q

next_more : (n : ℕ) (ms : List ℕ) (m : ℕ) → next_after n (ms ++ (m ∷ [])) ≡ suc m
next_more n [] m = refl
next_more n (k ∷ ms) m = next_more (suc k) ms m

-- What `followed` holds
pub order_more : (ms : List ℕ) (o : Order) (m : ℕ) → InOrder ms o → InOrder (ms ++ (m ∷ [])) (followed_by o m)
order_more ms o m h = record { rising = rw (h.rising, h.next) (sym (rises_more ms m)); next = omega (arith, next_more 0 ms m) }

-- A number more is none of those before
last_new : (ms : List ℕ) (m : ℕ) → Ordered ◌<◌ (ms ++ (m ∷ [])) → m ∈ ms → ⊥
last_new [] m o q = Memᴰ.not-nil q
last_new (k ∷ ms) m (more g o) q =
    ⊎_elim (λ (e : m ≡ k). let l = g m (Memᴰ.append_right ms (Memᴰ.head refl)) in omega arith) (last_new ms m o)
    (Memᴰ.cases_cons q)

pub new_number : (ms : List ℕ) (m : ℕ) → rises (ms ++ (m ∷ [])) ≡ true → m ∈ ms → ⊥
new_number ms m e = last_new ms m (rises_ordered (ms ++ (m ∷ [])) e)
